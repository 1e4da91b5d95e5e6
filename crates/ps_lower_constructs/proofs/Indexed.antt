-- The component at an index, and the room after it.
use Rattle.std.proofs.Common.{◌≡◌, ℕ, suc, ◌+◌, ◌-◌, ◌*◌, ◌<◌, ◌≤◌, ℤ, pos, negsuc, ◌+ℤ◌, ◌-ℤ◌, unsigned_abs, int_le}
use Rattle.std.proofs.Common.{Bool, true, false, ◌&&◌, if◌then◌else◌, nat_le, nat_lt, [], ◌∷◌, ◌++◌, Some, refl, sym}
use Rattle.std.proofs.Common.{ap, ◌∙◌, subst, arith, lt-ltb, ltb-true, ltb-false, le-leb, leb-true}
use Rattle.std.proofs.lemmas.Bool.{and_parts}
use Rattle.ps_tree.specs.Types.{DataType}
use Rattle.ps_tree.specs.Sizes.{value_count}
use Rattle.tac_code.specs.declared.code.Block.{Block}
use Rattle.tac_code.specs.declared.code.Value.TheVariants.{Number as Numeral, Address}
use Rattle.tac_code.specs.declared.code.Base.TheVariants as base
use Rattle.tac_code.specs.declared.code.Instruction.TheVariants as i
use Rattle.tac_code.specs.Numbers.{steps_above}
use Rattle.tac_code.specs.Meaning.{Over, checks, gives, gives_component}
use Rattle.tac_code.specs.declared.code.TheConstants.{BLOCK_LIMIT}
use Rattle.behavior.specs.Endings.{Stuck}
use Rattle.ps_meaning.specs.Values.{Spot}
use Rattle.ps_meaning.specs.Operators.{is_between}
use Rattle.ps_meaning.specs.Worlds.{World, Answer, Done, give, fault}
use Rattle.ps_meaning.specs.Expressions.{index_of}
use Rattle.ps_meaning.specs.Statements.{index_place}
use Rattle.tac_code_steps.specs.Runs.{step_of, Stands, Comes}
use Rattle.tac_code_steps.proofs.Runs.{a_step}
use Rattle.tac_code_steps.proofs.Temporaries.{put_same, put_other}
use Rattle.tac_code_steps.proofs.Instructions.{offset_step, index_step, range_step, trap_step}
use Rattle.ps_lower_layout.specs.Shapes.{shape_of, component_bytes, Whole, component_part}
use Rattle.tac_code.proofs.Impossible.{never}
use Rattle.ps_lower_code.specs.Scopes.{Site}
use Rattle.ps_lower_code.specs.Statements.{room_code}
use Rattle.ps_lower_code.specs.Fits.{IsArray}
use Rattle.ps_lower_code.proofs.Gaps.{gap, gap_is, same_test}
use Rattle.ps_lower_relation.specs.Ghosts.{PlaceAt}
use Rattle.ps_lower_relation.specs.Here.{Setting, machine_of, code_in, Work, Activated, IsActive, Alive, state, SiteAt}
use Rattle.ps_lower_relation.specs.Here.{Keeps}
use Rattle.ps_lower_relation.specs.Outcomes.{Runs}
use Rattle.ps_lower_relation.proofs.Numbers.{in_range}
use Rattle.ps_lower_relation.proofs.Places.{place_step, place_below}
use Rattle.ps_lower_constructs.specs.Openings.{Opening, context_in}
use Rattle.ps_lower_constructs.proofs.Runs.{with_temporary, runs_from, runs_word, gives_word, keeps_refl}
use Rattle.ps_lower_constructs.proofs.Kept.{place_grows}
use Rattle.ps_lower_constructs.proofs.Leaves.{fails_so}
use Rattle.ps_lower_constructs.proofs.Places.{base_is}
use Rattle.ps_lower_constructs.proofs.Selectors.{element_path, steps_are}

-- ---- the room after an index

-- an integer so far above another, and what lies m above it
room_same : (low z : ℤ) (m : ℕ) → int_le low z ≡ true → int_le z (low +ℤ pos m) ≡ nat_le (gap low z) m
room_same (pos a) (pos b) m e =
    let l = leb-true a b e in
    same_test (nat_le b (a + m)) (nat_le (b - a) m)
    (λ h. let x = leb-true b (a + m) h in le-leb (b - a) m (omega (arith, x)))
    (λ h. let x = leb-true (b - a) m h in le-leb b (a + m) (omega (arith, x, l)))
room_same (pos a) (negsuc b) m e = absurd (cc)
room_same (negsuc a) (pos b) m e = go (nat_lt m (suc a)) refl
  where
    go : (t : Bool) → nat_lt m (suc a) ≡ t → int_le (pos b) (if t then negsuc (suc a - suc m) else pos (m - suc a))
        ≡ nat_le (b + suc a) m
    go true q = let x = ltb-true m (suc a) q in same_test false (nat_le (b + suc a) m) (λ h. never h)
        (λ h. let y = leb-true (b + suc a) m h in absurd (omega (arith, x, y)))
    go false q =
        let x = ltb-false m (suc a) q in
        same_test (nat_le b (m - suc a)) (nat_le (b + suc a) m)
        (λ h. let y = leb-true b (m - suc a) h in le-leb (b + suc a) m (omega (arith, x, y)))
        (λ h. let y = leb-true (b + suc a) m h in le-leb b (m - suc a) (omega (arith, x, y)))
room_same (negsuc a) (negsuc b) m e = go (nat_lt m (suc a)) refl (leb-true b a e)
  where
    go : (t : Bool) → nat_lt m (suc a) ≡ t → b ≤ a → int_le (negsuc b)
        (if t then negsuc (suc a - suc m) else pos (m - suc a)) ≡ nat_le (suc a - suc b) m
    go true q l =
        let x = ltb-true m (suc a) q in
        same_test (nat_le (suc a - suc m) b) (nat_le (suc a - suc b) m)
        (λ h. let y = leb-true (suc a - suc m) b h in le-leb (suc a - suc b) m (omega (arith, x, y, l)))
        (λ h. let y = leb-true (suc a - suc b) m h in le-leb (suc a - suc m) b (omega (arith, x, y, l)))
    go false q l = let x = ltb-false m (suc a) q in same_test true (nat_le (suc a - suc b) m)
        (λ h. le-leb (suc a - suc b) m (omega (arith, x, l))) (λ h. refl)

room_test : (whole part : ℕ) (low z high : ℤ) → part ≤ whole → is_between low z high ≡ true → is_between low z
    (low +ℤ pos (whole - part)) ≡ nat_le (unsigned_abs (z -ℤ low) + part) whole
room_test whole part low z high l e =
    let h = and_parts (int_le low z) (int_le z high) e in
    let far = gap low z in
    ap (λ b. b && int_le z (low +ℤ pos (whole - part))) h.0
    ∙ room_same low z (whole - part) h.0
    ∙ same_test (nat_le far (whole - part)) (nat_le (far + part) whole)
    (λ q. let x = leb-true far (whole - part) q in le-leb (far + part) whole (omega (arith, x, l)))
    (λ q. let x = leb-true (far + part) whole q in le-leb far (whole - part) (omega (arith, x, l)))
    ∙ ap (λ y. nat_le (y + part) whole) (sym (ap unsigned_abs (gap_is low z h.0)))

no_room : (whole part m : ℕ) → nat_le part whole ≡ false → nat_le (m + part) whole ≡ false
no_room whole part m e = go (nat_le (m + part) whole) refl
  where
    go : (b : Bool) → nat_le (m + part) whole ≡ b → b ≡ false
    go true q = let x = leb-true (m + part) whole q in let y = le-leb part whole (omega (arith, x)) in never (sym e ∙ y)
    go false q = refl

module _ (p : Setting) (n : ℕ) (c : Activated) (active : IsActive p c) where
  -- the address of a component of an array, in a temporary
  pub record ComponentIn (t : ℕ) (type : DataType) (s : Spot) (number : ℕ) (w : World) (k : Work) : Type 0 where
    pub block : Block
    pub offset : ℕ
    pub word : k.temporaries t ≡ Some (Address block (offset + number * component_bytes (shape_of type)))
    pub place : PlaceAt p.program c.ghosts w.made s block offset (Whole (shape_of type))

  pub component_kept : (d x t : ℕ) (w w' : World) (k k' : Work) (type : DataType) (s : Spot) (number : ℕ) → t < d
      → Keeps d x w k w' k' → ComponentIn t type s number w k → ComponentIn t type s number w' k'
  component_kept d x t w w' k k' type s number l kept r =
      record {
        block = r.block;
        offset = r.offset;
        word = kept.temporaries t l ∙ r.word;
        place = subst (λ made. PlaceAt p.program c.ghosts made s r.block r.offset (Whole (shape_of type)))
            (sym kept.grown.1) (place_grows p c w.made kept.grown.0 s r.block r.offset (Whole (shape_of type)) r.place);
      }

  abbrev pub Indexed : (type : DataType) (t at : ℕ) (s : Spot) (z : ℤ) (number : ℕ) → World → Work → Type 0
  Indexed type t at s z number w k = (number ≡ unsigned_abs (z -ℤ (index_of type).low))
      × (is_between (index_of type).low z (index_of type).high ≡ true) × (k.temporaries at ≡ Some (Numeral z))
      × ComponentIn t type s number w k

  -- an index is tested, and the address of its component is in t
  pub index_run : (type : DataType) (t x line at : ℕ) (o : Opening) (w : World) (k : Work) (pc : ℕ) (site : Site)
      (s : Spot)
      (z : ℤ) → t < at → Alive p c w k → SiteAt p c w.made k.temporaries site s (Whole (shape_of type)) → IsArray type
      → k.temporaries at ≡ Some (Numeral z)
      → Stands (code_in p) c.routine pc (i.Index t site.base at (index_of type).low (index_of type).high
      (component_bytes (shape_of type)) 5 line ∷ i.Offset t (base.Temporary t) site.offset 0 ∷ []) (suc (suc pc))
      → Runs p n c t x w k pc (suc (suc pc)) (index_place (index_of type) z line (context_in c o) w)
      (λ number w' k'. Indexed type t at s z number w' k')
  index_run type t x line at o w k pc site s z above alive there fits word st = go (is_between low z high) refl
    where
      low : ℤ
      low = (index_of type).low

      high : ℤ
      high = (index_of type).high

      width : ℕ
      width = component_bytes (shape_of type)

      address : ℕ
      address = there.offset + steps_above low z * width

      R : ℕ → World → Work → Type 0
      R number w' k' = Indexed type t at s z number w' k'

      steps : (b : Bool) → is_between low z high ≡ b → step_of (machine_of p) (state p c w k pc) ≡ gives_component
          (code_in p) b t there.block address 5 line (state p c w k pc)
      steps b e =
          index_step (machine_of p) (state p c w k pc) t site.base at low high width 5 line there.block there.offset z
          st.0 (base_is c pc k.temporaries site.base ∙ there.base) word
          ∙ ap (λ q. gives_component (code_in p) q t there.block address 5 line (state p c w k pc))
          (in_range low z high ∙ e)

      go : (b : Bool) → is_between low z high ≡ b → Runs p n c t x w k pc (suc (suc pc))
          ((if b then give (unsigned_abs (z -ℤ low)) else fault 5 line (context_in c o)) w) R
      go true e =
          let m = unsigned_abs (z -ℤ low) in
          let far = ap (λ q. q * width) (steps_are type z e) in
          let component = place_step p.program c.ghosts w.made s there.block (there.offset + site.offset) (m * width) m
          (shape_of type) (component_part (shape_of type)) there.place (element_path type z fits e) in
          let below = place_below p.program c.ghosts active.small w k.count alive.holds (record {
            root = s.root;
            path = s.path ++ m ∷ [];
          }) there.block (there.offset + site.offset + m * width) (component_part (shape_of type)) component in
          let small : nat_lt address BLOCK_LIMIT ≡ true = lt-ltb address BLOCK_LIMIT (omega (arith, far, below)) in
          let first = Address there.block address in
          let word2 = Address there.block (address + site.offset) in
          let k1 = with_temporary k t first in
          let same : address + site.offset ≡ there.offset + site.offset + m * width = omega (arith, far) in
          let apart : at ≡ t → ⊥ = λ q. omega (arith, above, q) in
          runs_word p n c t x w k pc (suc pc) (suc (suc pc)) t first (give m w) R
          (steps true e ∙ ap (λ q. if q then gives t first (state p c w k pc) else Over Stuck) small) refl
          (omega arith) alive
          (λ alive1.
          gives_word p n c t x w k1 (suc pc) (suc (suc pc)) t word2 (λ w' k'. R m w' k')
          (offset_step (machine_of p) (state p c w k1 (suc pc)) t
          (base.Temporary t) site.offset 0 there.block address st.1.0 (put_same k.temporaries t first)
          (lt-ltb (address + site.offset) BLOCK_LIMIT (omega (arith, same, below)))) refl (omega arith) alive1 (
            refl,
            e,
            put_other k1.temporaries t word2 at apart ∙ put_other k.temporaries t first at apart ∙ word,
            record {
              block = there.block;
              offset = there.offset + site.offset;
              word = put_same k1.temporaries t word2 ∙ ap (λ q. Some (Address there.block q)) same;
              place = there.place;
            },
          ))
      go false e = fails_so p n c active w k pc 5 line (omega arith) (steps false e)

  -- the room after an index is tested
  pub room_then : (whole_type part_type : DataType) (t line d x : ℕ) (o : Opening) (w : World) (k : Work)
      (pc mid pc' : ℕ)
      (z : ℤ) (number : ℕ) (a : World → Answer Done) (R : Done → World → Work → Type 0) → number ≡ unsigned_abs
      (z -ℤ (index_of whole_type).low) → is_between (index_of whole_type).low z (index_of whole_type).high ≡ true
      → k.temporaries t ≡ Some (Numeral z) → Stands (code_in p) c.routine pc (room_code whole_type part_type t line) mid
      → (number + value_count (index_of part_type) ≤ value_count (index_of whole_type) → Runs p n c d x w k mid pc'
      (a w) R)
      → Runs p n c d x w k pc pc' ((if nat_le (number + value_count (index_of part_type))
      (value_count (index_of whole_type)) then a else fault 5 line (context_in c o)) w) R
  room_then whole_type part_type t line d x o w k pc mid pc' z number a R is between word st further = go
      (nat_le part whole) refl st
    where
      whole : ℕ
      whole = value_count (index_of whole_type)

      part : ℕ
      part = value_count (index_of part_type)

      low : ℤ
      low = (index_of whole_type).low

      last : ℤ
      last = low +ℤ pos (whole - part)

      Goal : Bool → Type 0
      Goal b = Runs p n c d x w k pc pc' ((if b then a else fault 5 line (context_in c o)) w) R

      go : (b : Bool) → nat_le part whole ≡ b → Stands (code_in p) c.routine pc
          (if b then (i.CheckRange t low last 5 line ∷ []) else (i.Trap 5 line ∷ [])) mid → Goal
          (nat_le (number + part) whole)
      go false e h = subst (λ b. Goal b) (sym (no_room whole part number e))
          (fails_so p n c active w k pc 5 line (omega arith) (trap_step (machine_of p) (state p c w k pc) 5 line h.0))
      go true e h = test (nat_le (number + part) whole) refl
        where
          tested : (b : Bool) → nat_le (number + part) whole ≡ b → step_of (machine_of p) (state p c w k pc) ≡ checks
              (code_in p) b 5 line (state p c w k pc)
          tested b q =
              range_step (machine_of p) (state p c w k pc) t low last 5 line z h.0 word
              ∙ ap (λ y. checks (code_in p) y 5 line (state p c w k pc))
              (in_range low z last ∙ room_test whole part low z (index_of whole_type).high
              (leb-true part whole e) between ∙ ap (λ y. nat_le (y + part) whole) (sym is) ∙ q)

          test : (b : Bool) → nat_le (number + part) whole ≡ b → Goal b
          test true q =
              runs_from p n c d x w w k k pc mid pc' (a w) R
              (subst (λ y. Comes (machine_of p) (state p c w k pc) (state p c w k y)) h.1
              (a_step (state p c w k pc) (state p c w k (suc pc)) (tested true q))) (keeps_refl d x w k)
              (further (leb-true (number + part) whole q))
          test false q = fails_so p n c active w k pc 5 line (omega arith) (tested false q)
