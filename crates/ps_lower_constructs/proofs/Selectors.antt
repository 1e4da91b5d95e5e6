-- Selectors: from a variable's site to that of its part; and what a variable holds.
use Rattle.std.proofs.Common.{◌≡◌, ℕ, suc, ◌+◌, ◌*◌, ◌≤◌, ℤ, ◌-ℤ◌, unsigned_abs, Bool, true, false, if◌then◌else◌, []}
use Rattle.std.proofs.Common.{◌∷◌, ◌++◌, Option, Some, None, slice_get, nat_lt, refl, sym, ap, ◌∙◌, subst, arith}
use Rattle.std.proofs.Common.{lt-ltb, ◌<◌, pos, IsTrue}
use Rattle.ps_tree.specs.Types.{DataType}
use Rattle.ps_tree.specs.Sizes.{value_count}
use Rattle.ps_tree.specs.Tree.{Place, Variable, PlaceBase, Selectors, no_selector, selector_before, Element, Field}
use Rattle.ps_tree.specs.Tree.{Target, Expr, Load, domain_at}
use Rattle.tac_code.specs.declared.code.Block.TheVariants.{Object}
use Rattle.tac_code.specs.declared.code.Value.TheVariants.{Number as Numeral, Address}
use Rattle.tac_code.specs.declared.code.Base.TheVariants as base
use Rattle.tac_code.specs.declared.code.Instruction.TheVariants as i
use Rattle.tac_code.specs.Numbers.{natural, steps_above}
use Rattle.tac_code.specs.Memory.{load, known}
use Rattle.tac_code.specs.Meaning.{Over, pointer_of, gives, gives_component, text_at}
use Rattle.behavior.specs.Endings.{Stuck}
use Rattle.ps_meaning.specs.Values.{Value, OrdinalValue, NilValue, ObjectValue, SetValue, StructureValue, Made, Spot}
use Rattle.ps_meaning.specs.Values.{entire, step, number_of}
use Rattle.ps_meaning.specs.Operators.{is_between}
use Rattle.ps_meaning.specs.Worlds.{Context, World, Answer, Gives, and_then, give, fault, contents, contents_in}
use Rattle.ps_meaning.specs.Expressions.{Caller, index_of, component_of, object_of, denoted, access, accesses, value}
use Rattle.tac_code_steps.specs.Runs.{step_of, Stands}
use Rattle.tac_code_steps.proofs.Runs.{split, a_step}
use Rattle.tac_code_steps.proofs.Temporaries.{put_same}
use Rattle.tac_code_steps.proofs.Pieces.{same_some, some_none}
use Rattle.tac_code_steps.proofs.Instructions.{load_step, load_byte_step, index_step, pointer_step}
use Rattle.ps_lower_layout.specs.Shapes.{Shape, NumberShape, PointerShape, SetShape, ByteShape, ArrayShape}
use Rattle.ps_lower_layout.specs.Shapes.{RecordShape, shape_of, component_bytes, field_offset, Part, Whole}
use Rattle.ps_lower_layout.specs.Shapes.{component_part, Byte}
use Rattle.ps_lower_layout.specs.Words.{pointer_word}
use Rattle.ps_lower_layout.specs.Paths.{HasSort, PathIn, PointsTo, NumberSort}
use Rattle.tac_code.proofs.Impossible.{never}
use Rattle.ps_lower_code.specs.Scopes.{even_from, kept, Site}
use Rattle.ps_lower_code.specs.Calling.{selectors_call}
use Rattle.ps_lower_code.specs.Values.{literal_of, known_steps, element_site, selectors_site, is_byte_array}
use Rattle.ps_lower_code.specs.Values.{is_byte_after, is_byte, load_code, index_code, place_temporary, name_code}
use Rattle.ps_lower_code.specs.Values.{name_site, place_site, place_code, selectors_code}
use Rattle.ps_lower_code.specs.Statements.{expr_code}
use Rattle.ps_lower_code.specs.Fits.{SortOf, IsArray, SelectorsFit, PlaceFits}
use Rattle.ps_lower_code.proofs.Depths.{even_above, kept_above}
use Rattle.ps_lower_code.proofs.Gaps.{gap, index_number}
use Rattle.ps_lower_relation.specs.Ghosts.{PlaceAt}
use Rattle.ps_lower_relation.specs.Here.{Setting, machine_of, code_in, Work, Activated, IsActive, Alive, state}
use Rattle.ps_lower_relation.specs.Here.{IsBelow, SiteAt, word_of, WordIn}
use Rattle.ps_lower_relation.specs.Outcomes.{Runs}
use Rattle.ps_lower_relation.proofs.Numbers.{in_range}
use Rattle.ps_lower_relation.proofs.Spots.{spot_value, spot_read}
use Rattle.ps_lower_relation.proofs.ByteParts.{spot_byte}
use Rattle.tac_code.specs.Numbers.{is_integer}
use Rattle.tac_code.specs.declared.code.TheConstants.{BLOCK_LIMIT, NUMBER_LIMIT}
use Rattle.ps_lower_relation.proofs.Places.{component_path, field_path, place_step, object_place, place_below}
use Rattle.ps_lower_constructs.specs.Openings.{plain_scope, Opening, scope_in, context_in, IsOpened}
use Rattle.ps_lower_constructs.proofs.Runs.{with_temporary, runs_bind, runs_map, runs_from, runs_word, here}
use Rattle.ps_lower_constructs.proofs.Runs.{gives_word, keeps_refl, keeps_less, keeps_put}
use Rattle.ps_lower_constructs.proofs.Kept.{opened_kept, site_kept, moved_by, stepped}
use Rattle.ps_lower_constructs.proofs.Leaves.{fails_so}
use Rattle.ps_lower_constructs.proofs.Places.{base_is, name_run}
use Rattle.ps_lower_constructs.proofs.Checks.{byte_between}
use Rattle.ps_lower_constructs.proofs.Values.{FrontIn, FrontRuns, plain_front, expr_runs_from, load_word}
use Rattle.ps_lower_constructs.proofs.Values.{known_is}

small_integer : (n : ℕ) → n < 256 → IsTrue (is_integer (pos n))
small_integer n l = lt-ltb n NUMBER_LIMIT (omega (arith, l))

-- the part that an index leads to
pub element_path : (type : DataType) (z : ℤ) → IsArray type → is_between (index_of type).low z (index_of type).high
    ≡ true → PathIn (unsigned_abs (z -ℤ (index_of type).low) ∷ []) (shape_of type) (component_part (shape_of type))
    (unsigned_abs (z -ℤ (index_of type).low) * component_bytes (shape_of type))
element_path type z fits e =
    let r = index_number (index_of type) z e in
    subst (λ m. PathIn (m ∷ []) (shape_of type) (component_part (shape_of type)) (m * component_bytes (shape_of type)))
    (sym (ap unsigned_abs r.0)) (component_path (shape_of type) (gap (index_of type).low z)
    (value_count (index_of type)) fits.0 r.1)

pub steps_are : (type : DataType) (z : ℤ) → is_between (index_of type).low z (index_of type).high ≡ true → steps_above
    (index_of type).low z ≡ unsigned_abs (z -ℤ (index_of type).low)
steps_are type z e = let r = index_number (index_of type) z e in ap natural r.0 ∙ sym (ap unsigned_abs r.0)

-- a known index in its range
known_index : (type : DataType) (literal : Option ℤ) (m : ℕ) → known_steps type literal ≡ Some m → (z : ℤ)
    × (literal ≡ Some z) × (is_between (index_of type).low z (index_of type).high ≡ true)
    × (unsigned_abs (z -ℤ (index_of type).low) * component_bytes (shape_of type) ≡ m)
known_index type None m e = some_none e
known_index type (Some z) m e = go (is_between (index_of type).low z (index_of type).high) refl e
  where
    go : (b : Bool) → is_between (index_of type).low z (index_of type).high ≡ b
        → (if b then Some (unsigned_abs (z -ℤ (index_of type).low) * component_bytes (shape_of type)) else None)
        ≡ Some m → (y : ℤ) × (Some z ≡ Some y) × (is_between (index_of type).low y (index_of type).high ≡ true)
        × (unsigned_abs (y -ℤ (index_of type).low) * component_bytes (shape_of type) ≡ m)
    go true q h = (z, refl, q, same_some h)
    go false q h = some_none h

module _ (p : Setting) (n : ℕ) (call : Caller) (c : Activated) (active : IsActive p c) where
  abbrev pub PlaceIn : Site → (t : ℕ) → Spot → Part → World → Work → Type 0
  PlaceIn site t s part w k = SiteAt p c w.made k.temporaries site s part × IsBelow (suc t) site.base

  abbrev pub SelectorsRun : Selectors → Type 0
  SelectorsRun selectors =
      (t x : ℕ) (o : Opening) (w : World) (k : Work) (pc pc' : ℕ) (site : Site) (s : Spot) (part part' : Part)
      → Alive p c w k → IsOpened p c w k t o → PlaceIn site t s part w k → SelectorsFit
      (plain_scope p c) o.shapes selectors part part' → Stands (code_in p) c.routine pc
      (selectors_code (scope_in p c o) selectors site t x) pc'
      → Runs p (suc n) c t x w k pc pc' (accesses call selectors s (context_in c o) w)
      (λ s' w' k'. PlaceIn (selectors_site selectors site t) t s' part' w' k')

  pub no_selectors : SelectorsRun no_selector
  no_selectors t x o w k pc pc' site s part part' alive opened at fits st = here p (suc n) c t x w k pc pc'
      (λ w' k'. PlaceIn site t s part' w' k') st alive (subst (λ q. PlaceIn site t s q w k) fits at)

  pub field_then : (type : DataType) (number : ℕ) (rest : Selectors) → SelectorsRun rest → SelectorsRun
      (selector_before (Field type number) rest)
  field_then type number rest further t x o w k pc pc' site s part part' alive opened at fits st =
      let whole = subst (λ q. SiteAt p c w.made k.temporaries site s q) fits.0 at.0 in
      let next = stepped p c w.made k.temporaries site s number (field_offset (shape_of type) number) (shape_of type)
      (Whole fits.1.0) whole (field_path (shape_of type) number fits.1.0 fits.1.1) in
      further t x o w k pc pc' (moved_by p c site (field_offset (shape_of type) number))
      (step s number) (Whole fits.1.0) part' alive opened (next, at.1) fits.1.2 st

  -- the object of a pointer
  pub target_then : (pointer line : ℕ) (rest : Selectors) → SelectorsRun rest → SelectorsRun
      (selector_before (Target pointer line) rest)
  target_then pointer line rest further t x o w k pc pc' site s part part' alive opened at fits st =
      let shape = PointerShape pointer in
      let here_ = subst (λ q. SiteAt p c w.made k.temporaries site s q) fits.0 at.0 in
      let place = here_.offset + site.offset in
      let v = contents_in w s in
      let shaped = spot_value p.program w c.ghosts k.count alive.holds s here_.block place shape here_.place in
      let z : place ≡ place + 4 * 0 = omega arith in
      let m = (state p c w k pc).memory in
      let loaded : load (text_at (code_in p)) m here_.block place ≡ Some
      (pointer_word v) = ap (load (text_at (code_in p)) m here_.block) z
      ∙ spot_read p.program w c.ghosts k.count alive.holds (text_at (code_in p)) (record {
        number = c.number;
        words = k.scratch;
      } ∷ c.waiting) s here_.block place shape 0 here_.place (omega arith) in
      let k1 = with_temporary k t (pointer_word v) in
      runs_word p (suc n) c t x w k pc (suc pc) pc' t (pointer_word v)
      (and_then (object_of v line (context_in c o) w) (λ u. accesses call rest u (context_in c o))) R
      (load_step (machine_of p) (state p c w k pc) t site.base site.offset here_.block here_.offset
      (pointer_word v) st.0 (base_is c pc k.temporaries site.base ∙ here_.base) loaded) refl (omega arith) alive
      (λ alive1. pointed v shaped k1 alive1 (put_same k.temporaries t (pointer_word v))
      (opened_kept p c t x t w w k k1 o (omega arith) (keeps_put t x w k t (pointer_word v) (omega arith)) opened))
    where
      R : Spot → World → Work → Type 0
      R s' w' k' = PlaceIn (selectors_site (selector_before (Target pointer line) rest) site t) t s' part' w' k'

      pointed : (v : Value) → PointsTo w.made v pointer → (k1 : Work) → Alive p c w k1 → k1.temporaries t ≡ Some
          (pointer_word v) → IsOpened p c w k1 t o → Runs p (suc n) c t x w k1 (suc pc) pc'
          (and_then (object_of v line (context_in c o) w)
          (λ u. accesses call rest u (context_in c o))) R
      pointed NilValue points k1 alive1 word opened1 = fails_so p (suc n) c active w k1 (suc pc) 6 line (omega arith)
          (pointer_step (machine_of p) (state p c w k1 (suc pc)) t 6 line None st.1.0 (ap pointer_of word))
      pointed (ObjectValue object) points k1 alive1 word opened1 =
          runs_from p (suc n) c t x w w k1 k1 (suc pc) (suc (suc pc)) pc'
          (accesses call rest (entire (Made object)) (context_in c o) w) R
          (a_step (state p c w k1 (suc pc)) (state p c w k1 (suc (suc pc)))
          (pointer_step (machine_of p) (state p c w k1 (suc pc)) t 6 line (Some object) st.1.0
          (ap pointer_of word))) (keeps_refl t x w k1)
          (further t x o w k1 (suc (suc pc)) pc' (record {
            base = base.Temporary t;
            offset = 0;
          }) (entire (Made object)) (Whole (shape_of (domain_at p.program pointer))) part' alive1 opened1 (
            record {
              block = Object object;
              offset = 0;
              base = word;
              place = object_place p.program c.ghosts w.made object pointer points;
            },
            omega arith,
          ) fits.2 st.1.1)
      pointed (OrdinalValue z) points k1 alive1 word opened1 = absurd points
      pointed (SetValue z) points k1 alive1 word opened1 = absurd points
      pointed (StructureValue z) points k1 alive1 word opened1 = absurd points

  -- the address of a component
  indexed : (type : DataType) (t x line at : ℕ) (o : Opening) (w : World) (k : Work) (pc mid : ℕ) (site : Site)
      (s : Spot) (v : Value) → Alive p c w k → SiteAt p c w.made k.temporaries site s (Whole (shape_of type))
      → IsArray type → k.temporaries at ≡ Some (Numeral (number_of v)) → Stands (code_in p) c.routine pc
      (i.Index t site.base at (index_of type).low (index_of type).high (component_bytes (shape_of type)) 5 line ∷ [])
      mid
      → Runs p (suc n) c t x w k pc mid (component_of s (index_of type) (number_of v) line (context_in c o) w)
      (λ s' w' k'. PlaceIn (element_site None site t) t s' (component_part (shape_of type)) w' k')
  indexed type t x line at o w k pc mid site s v alive there fits word st = go (is_between low z high) refl
    where
      z : ℤ
      z = number_of v

      low : ℤ
      low = (index_of type).low

      high : ℤ
      high = (index_of type).high

      width : ℕ
      width = component_bytes (shape_of type)

      address : ℕ
      address = there.offset + steps_above low z * width

      R : Spot → World → Work → Type 0
      R s' w' k' = PlaceIn (element_site None site t) t s' (component_part (shape_of type)) w' k'

      steps : (b : Bool) → is_between low z high ≡ b → step_of (machine_of p) (state p c w k pc) ≡ gives_component
          (code_in p) b t there.block address 5 line (state p c w k pc)
      steps b e =
          index_step (machine_of p) (state p c w k pc) t site.base at low high width 5 line there.block there.offset z
          st.0 (base_is c pc k.temporaries site.base ∙ there.base) word
          ∙ ap (λ q. gives_component (code_in p) q t there.block address 5 line (state p c w k pc))
          (in_range low z high ∙ e)

      go : (b : Bool) → is_between low z high ≡ b → Runs p (suc n) c t x w k pc mid
          ((if b then give (step s (unsigned_abs (z -ℤ low))) else fault 5 line (context_in c o)) w) R
      go true e =
          let m = unsigned_abs (z -ℤ low) in
          let far = ap (λ q. q * width) (steps_are type z e) in
          let place = place_step p.program c.ghosts w.made s there.block (there.offset + site.offset) (m * width) m
          (shape_of type) (component_part (shape_of type)) there.place (element_path type z fits e) in
          let below = place_below p.program c.ghosts active.small w k.count alive.holds (step s m) there.block
          (there.offset + site.offset + m * width) (component_part (shape_of type)) place in
          let small : nat_lt address BLOCK_LIMIT ≡ true = lt-ltb address BLOCK_LIMIT (omega (arith, far, below)) in
          let same : there.offset + site.offset + m * width ≡ address + site.offset = omega (arith, far) in
          gives_word p (suc n) c t x w k pc mid t (Address there.block address) (λ w' k'. R (step s m) w' k')
          (steps true e ∙ ap (λ q. if q then gives t (Address there.block address) (state p c w k pc)
          else Over Stuck) small) st.1 (omega arith) alive (
            record {
              block = there.block;
              offset = address;
              base = put_same k.temporaries t (Address there.block address);
              place = subst (λ q. PlaceAt p.program c.ghosts w.made (step s m) there.block q
                  (component_part (shape_of type))) same place;
            },
            omega arith,
          )
      go false e = fails_so p (suc n) c active w k pc 5 line (omega arith) (steps false e)

  pub element_then : (type : DataType) (e : Expr) (line : ℕ) (rest : Selectors) → FrontRuns p n call c active e
      → SelectorsRun rest → SelectorsRun (selector_before (Element type e line) rest)
  element_then type e line rest front further t x o w k pc pc' site s part part' alive opened at fits st = go
      (known_steps type (literal_of e)) refl st
    where
      ctx : Context
      ctx = context_in c o

      u : ℕ
      u = even_from (suc t)

      above : suc t ≤ u
      above = even_above (suc t)

      whole : SiteAt p c w.made k.temporaries site s (Whole (shape_of type))
      whole = subst (λ q. SiteAt p c w.made k.temporaries site s q) fits.0 at.0

      R : Option ℕ → Spot → World → Work → Type 0
      R q s' w' k' = PlaceIn (selectors_site rest (element_site q site t) t) t s' part' w' k'

      go : (q : Option ℕ) → known_steps type (literal_of e) ≡ q → Stands (code_in p) c.routine pc
          (index_code q type site t u line (expr_code (scope_in p c o) e u x) ++ selectors_code (scope_in p c o) rest
          (element_site q site t) t x) pc' → Runs p (suc n) c t x w k pc pc'
          (accesses call (selector_before (Element type e line) rest) s ctx w) (R q)
      go None q h =
          let cut = split (code_in p) c.routine pc
          (expr_code (scope_in p c o) e u x ++ i.Index t site.base u (index_of type).low (index_of type).high
          (component_bytes (shape_of type)) 5 line ∷ [])
          (selectors_code (scope_in p c o) rest (element_site None site t) t x) pc' h in
          let cut2 = split (code_in p) c.routine pc (expr_code (scope_in p c o) e u x)
          (i.Index t site.base u (index_of type).low (index_of type).high (component_bytes (shape_of type)) 5 line
          ∷ []) cut.0 cut.1 in
          runs_bind p (suc n) c t x t x t x w k pc cut.0 pc'
          (and_then (value call e ctx w) (λ v. component_of s (index_of type) (number_of v) line ctx))
          (λ s'. accesses call rest s' ctx) (λ s' w' k'. PlaceIn (element_site None site t) t s'
          (component_part (shape_of type)) w' k') (R None) (omega arith) (omega arith) (omega arith) (omega arith)
          (runs_bind p (suc n) c t x u x t x w k pc cut2.0 cut.0 (value call e ctx w)
          (λ v. component_of s (index_of type) (number_of v) line ctx)
          (λ v w' k'. WordIn k'.temporaries w'.made u NumberSort v)
          (λ s' w' k'. PlaceIn (element_site None site t) t s' (component_part (shape_of type)) w' k')
          (omega (arith, above)) (omega arith) (omega arith) (omega arith)
          (expr_runs_from p n call c active e front u x o w k pc cut2.0 NumberSort alive
          (opened_kept p c t x u w w k k o (omega (arith, above)) (keeps_refl t x w k) opened) fits.2 cut2.1)
          (λ v w1 k1 alive1 kept1 r1. indexed type t x line u o w1 k1 cut2.0 cut.0 site s v alive1
          (site_kept p c (suc t) x w w1 k k1 site s (Whole (shape_of type)) at.1
          (keeps_less (suc t) x u x above (omega arith) kept1) whole) fits.1 r1.word cut2.2))
          (λ s' w1 k1 alive1 kept1 r1.
          further t x o w1 k1 cut.0 pc' (element_site None site t) s' (component_part (shape_of type)) part' alive1
          (opened_kept p c t x t w w1 k k1 o (omega arith) kept1 opened) r1 fits.4 cut.2)
      go (Some m) q h =
          let literal = known_index type (literal_of e) m q in
          let z = literal.0 in
          let known_ = known_is p n call c active e z o w literal.1 fits.2 in
          let number = unsigned_abs (z -ℤ (index_of type).low) in
          let path = subst (λ y. PathIn (number ∷ []) (shape_of type) (component_part (shape_of type)) y) literal.3
          (element_path type z fits.1 literal.2) in
          let next = stepped p c w.made k.temporaries site s number m (shape_of type)
          (component_part (shape_of type)) whole path in
          let Q : Answer Spot → Type 0 = λ a. Runs p (suc n) c t x w k pc pc'
          (and_then a (λ s'. accesses call rest s' ctx)) (R (Some m)) in
          subst (λ a. Q (and_then a (λ v. component_of s (index_of type) (number_of v) line ctx))) (sym known_.gives_it)
          (subst (λ y. Q (component_of s (index_of type) y line ctx w)) (sym known_.is)
          (subst (λ b. Q ((if b then give (step s number) else fault 5 line ctx) w)) (sym literal.2)
          (further t x o w k pc pc' (moved_by p c site m) (step s number) (component_part (shape_of type))
          part' alive opened (next, at.1) fits.4 h)))

  -- ---- places

  abbrev pub PlaceRuns : Place → Type 0
  PlaceRuns q =
      (d x : ℕ) (o : Opening) (w : World) (k : Work) (pc pc' : ℕ) (part : Part) → Alive p c w k → IsOpened p c w k d o
      → PlaceFits (plain_scope p c) o.shapes q part → Stands (code_in p) c.routine pc
      (place_code (scope_in p c o) q d x) pc'
      → Runs p (suc n) c d x w k pc pc' (access call q (context_in c o) w)
      (λ s w' k'. PlaceIn (place_site (scope_in p c o) q d) (place_temporary q d) s part w' k')

  pub place_from : (name : PlaceBase) (selectors : Selectors) → SelectorsRun selectors → PlaceRuns
      (Variable name selectors)
  place_from name selectors further d x o w k pc pc' part alive opened fits st =
      let code = scope_in p c o in
      let t = kept (selectors_call selectors) d in
      let l : d ≤ t = kept_above (selectors_call selectors) d in
      let cut = split (code_in p) c.routine pc (name_code code name t)
      (selectors_code code selectors (name_site code name t) t x) pc' st in
      let named = name_run p n c d x o w k t pc cut.0 name fits.0 alive opened l fits.1 cut.1 in
      let R : Spot → World → Work → Type 0 = λ s w' k'. PlaceIn
      (selectors_site selectors (name_site code name t) t) t s part w' k' in
      runs_from p (suc n) c d x w w k named.work pc cut.0 pc'
      (accesses call selectors (denoted name (context_in c o)) (context_in c o) w) R named.comes named.keeps
      (runs_map p (suc n) c d x t x w named.work cut.0 pc'
      (accesses call selectors (denoted name (context_in c o)) (context_in c o) w) R R l (omega arith)
      (further t x o w named.work cut.0 pc' (name_site code name t) (denoted name (context_in c o))
      (Whole fits.0) part named.alive (opened_kept p c d x t w w k named.work o l named.keeps opened) named.result
      fits.2 cut.2)
      (λ s w' k' a' y. y))

  -- whether a part is a byte
  abbrev pub is_byte_part : Part → Bool
  is_byte_part (Whole shape) = false
  is_byte_part Byte = true

  component_byte : (shape : Shape) → is_byte_array shape ≡ is_byte_part (component_part shape)
  component_byte (NumberShape first narrow) = refl
  component_byte (PointerShape t) = refl
  component_byte SetShape = refl
  component_byte (ByteShape count first) = refl
  component_byte (ArrayShape count shape) = refl
  component_byte (RecordShape shapes) = refl

  selectors_byte : (o : Opening) (b : Bool) (selectors : Selectors) (part part' : Part) → b ≡ is_byte_part part
      → SelectorsFit (plain_scope p c) o.shapes selectors part part' → is_byte_after b selectors ≡ is_byte_part part'
  selectors_byte o b no_selector part part' e fits = e ∙ ap is_byte_part fits
  selectors_byte o b (selector_before (Element type i' line) rest) part part' e fits = selectors_byte o
      (is_byte_array (shape_of type)) rest (component_part (shape_of type)) part'
      (component_byte (shape_of type)) fits.4
  selectors_byte o b (selector_before (Field type number) rest) part part' e fits = selectors_byte o false rest
      (Whole fits.1.0) part' refl fits.1.2
  selectors_byte o b (selector_before (Target pointer line) rest) part part' e fits = selectors_byte o false
      rest (Whole (shape_of (domain_at p.program pointer))) part' refl fits.2

  pub place_byte : (o : Opening) (q : Place) (part : Part) → PlaceFits (plain_scope p c) o.shapes q part → is_byte q
      ≡ is_byte_part part
  place_byte o (Variable name selectors) part fits = selectors_byte o false selectors (Whole fits.0) part refl fits.2

  -- a variable's value
  pub load_front : (q : Place) → PlaceRuns q → FrontRuns p n call c active (Load q)
  load_front q place d x o w k pc pc' sort alive opened fits st =
      let code = scope_in p c o in
      let ctx = context_in c o in
      let cut = split (code_in p) c.routine pc (place_code code q d x)
      (load_code (is_byte q) d (place_site code q d)) pc' st in
      runs_bind p (suc n) c d x d x d x w k pc cut.0 pc' (access call q ctx w) contents
      (λ s w' k'. PlaceIn (place_site code q d) (place_temporary q d) s fits.0 w' k')
      (λ v w' k'. FrontIn (Load q) d sort v w'.made k'.temporaries) (omega arith) (omega arith) (omega arith)
      (omega arith)
      (place d x o w k pc cut.0 fits.0 alive opened fits.2 cut.1)
      (λ s w1 k1 alive1 kept1 r.
      loaded_part fits.0 s w1 k1 cut.0 (place_site code q d) (place_byte o q fits.0 fits.2) alive1 fits.1 r.0
      (subst (λ b. Stands (code_in p) c.routine cut.0 (load_code b d (place_site code q d)) pc')
      (place_byte o q fits.0 fits.2) cut.2))
    where
      loaded : (shape : Shape) (s : Spot) (w : World) (k : Work) (m : ℕ) (site : Site) → is_byte q ≡ false
          → Alive p c w k → SortOf (Whole shape) sort → SiteAt p c w.made k.temporaries site s (Whole shape) → Stands
          (code_in p) c.routine m (i.Load d site.base site.offset ∷ []) pc' → Runs p (suc n) c d x w k m pc'
          (Gives (contents_in w s) w) (λ v w' k'. FrontIn (Load q) d sort v w'.made k'.temporaries)
      loaded shape s w k m site whole alive sorted at st =
          let v = contents_in w s in
          let place = at.offset + site.offset in
          let shaped = spot_value p.program w c.ghosts k.count alive.holds s at.block place shape at.place in
          let words = load_word p n call c active shape sort v w.made sorted shaped in
          let z : place ≡ place + 4 * 0 = omega arith in
          let memory = (state p c w k m).memory in
          let read : load (text_at (code_in p)) memory at.block place ≡ Some
          (word_of sort v) = ap (load (text_at (code_in p)) memory at.block) z
          ∙ spot_read p.program w c.ghosts k.count alive.holds (text_at (code_in p)) (record {
            number = c.number;
            words = k.scratch;
          } ∷ c.waiting) s at.block place shape 0 at.place (omega (arith, words.0))
          ∙ ap (λ l. known (slice_get l 0)) words.1 in
          gives_word p (suc n) c d x w k m pc' d (word_of sort v)
          (λ w' k'. FrontIn (Load q) d sort v w'.made k'.temporaries)
          (load_step (machine_of p) (state p c w k m) d site.base site.offset at.block at.offset
          (word_of sort v) st.0 (base_is c m k.temporaries site.base ∙ at.base) read) st.1 (omega arith) alive
          (plain_front (Load q) d sort v w.made (with_temporary k d (word_of sort v)).temporaries refl refl refl refl
          (put_same k.temporaries d (word_of sort v)) words.2 (λ e. never e) (λ e. never (sym whole ∙ e)))

      loaded_part : (part : Part) (s : Spot) (w : World) (k : Work) (m : ℕ) (site : Site) → is_byte q
          ≡ is_byte_part part → Alive p c w k → SortOf part sort → SiteAt p c w.made k.temporaries site s part → Stands
          (code_in p) c.routine m (load_code (is_byte_part part) d site) pc' → Runs p (suc n) c d x w k m pc'
          (Gives (contents_in w s) w) (λ v w' k'. FrontIn (Load q) d sort v w'.made k'.temporaries)
      loaded_part (Whole shape) s w k m site same alive sorted at st = loaded shape s w k m site same alive sorted at st
      loaded_part Byte s w k m site same alive sorted at st =
          let v = contents_in w s in
          let read = spot_byte p.program w c.ghosts k.count alive.holds (text_at (code_in p)) (record {
            number = c.number;
            words = k.scratch;
          } ∷ c.waiting) s at.block (at.offset + site.offset) at.place in
          let byte = read.0 in
          let word = Numeral (pos byte) in
          gives_word p (suc n) c d x w k m pc' d word (λ w' k'. FrontIn (Load q) d sort v w'.made k'.temporaries)
          (load_byte_step (machine_of p) (state p c w k m) d site.base site.offset at.block at.offset byte st.0
          (base_is c m k.temporaries site.base ∙ at.base) read.1) st.1 (omega arith) alive
          (plain_front (Load q) d sort v w.made (with_temporary k d word).temporaries refl refl refl refl
          (put_same k.temporaries d word ∙ ap (λ z. Some (Numeral z)) (sym read.2) ∙ ap (λ y. Some (word_of y v))
          (sym sorted)) (subst (HasSort w.made v) (sym sorted)
          (subst (λ z. IsTrue (is_integer z)) (sym read.2) (small_integer byte read.3))) (λ e. never e)
          (λ e. subst (λ z. IsTrue (is_between (pos 0) z (pos 255))) (sym read.2) (byte_between byte read.3)))
