-- Tests of ranges, and stores to variables.
use Rattle.std.proofs.Common.{◌≡◌, ℕ, suc, ◌+◌, ◌<◌, ℤ, pos, negsuc, Bool, true, false, ◌&&◌, if◌then◌else◌}
use Rattle.std.proofs.Common.{IsTrue, List, [], ◌∷◌, Option, Some, None, refl, sym, ap, ◌∙◌, subst, append-nil}
use Rattle.std.proofs.Common.{eqb-true, lt-ltb, nat_lt, not, int_le, arith}
use Rattle.std.proofs.lemmas.Bool.{and_parts, le-ltb}
use Rattle.tac_code.specs.declared.code.Value.TheVariants.{Number, Address}
use Rattle.tac_code.specs.declared.code.Instruction.TheVariants as i
use Rattle.tac_code.specs.Numbers.{is_integer}
use Rattle.tac_code.specs.Meaning.{Goes, text_at, checks, stores}
use Rattle.ps_meaning.specs.Values.{Value, Root, Declared, Made, Spot, number_of}
use Rattle.ps_meaning.specs.Operators.{is_between, is_equal}
use Rattle.ps_meaning.specs.Worlds.{World, give, fault, with_contents}
use Rattle.tac_code_steps.specs.Runs.{step_of, Stands, Comes}
use Rattle.tac_code_steps.proofs.Runs.{a_step}
use Rattle.tac_code_steps.proofs.Instructions.{range_step, store_step, store_byte_step}
use Rattle.ps_lower_layout.specs.Shapes.{Shape, NumberShape, PointerShape, SetShape, ByteShape, ArrayShape}
use Rattle.ps_lower_layout.specs.Shapes.{RecordShape, Whole, Byte, word_count}
use Rattle.ps_lower_layout.specs.Words.{byte_of, value_words}
use Rattle.ps_lower_code.proofs.Gaps.{le_through}
use Rattle.ps_lower_relation.proofs.ByteParts.{byte_small, byte_number}
use Rattle.ps_lower_relation.proofs.ByteWrites.{spot_byte_written, spot_byte_holds}
use Rattle.ps_lower_layout.specs.Paths.{Sort, NumberSort, HasSort, HasShape, KeepsAt, GoesTo}
use Rattle.ps_lower_code.specs.Scopes.{least, greatest, is_any, has_bytes, check_code, fitting_code, Site}
use Rattle.ps_tree.specs.declared.tree.operators.Range.TheVariants.{Within}
use Rattle.ps_lower_code.specs.Fits.{SortOf}
use Rattle.ps_lower_relation.specs.Ghosts.{EnvAt}
use Rattle.tac_code.specs.declared.code.Block.TheVariants.{Frame as FrameBlock}
use Rattle.ps_lower_relation.specs.Here.{Setting, machine_of, code_in, Work, Activated, chain_of, IsActive, Alive}
use Rattle.ps_lower_relation.specs.Here.{state, word_of, WordIn, SiteAt}
use Rattle.ps_lower_relation.specs.Outcomes.{Reached, Runs}
use Rattle.ps_lower_relation.proofs.Numbers.{in_range, between_integers}
use Rattle.ps_lower_relation.proofs.Spots.{memory_of, spot_written, spot_holds}
use Rattle.ps_lower_constructs.specs.Openings.{Opening, context_in}
use Rattle.ps_lower_constructs.proofs.Runs.{here, passes}
use Rattle.ps_lower_constructs.proofs.Places.{base_is}
use Rattle.ps_lower_constructs.proofs.Leaves.{IsLanguageError, fails_so}

-- ---- ranges

equal_is : (x y : ℤ) → is_equal x y ≡ true → x ≡ y
equal_is (pos a) (pos b) e = ap pos (eqb-true a b e)
equal_is (pos a) (negsuc b) e = absurd (cc)
equal_is (negsuc a) (pos b) e = absurd (cc)
equal_is (negsuc a) (negsuc b) e = ap negsuc (eqb-true a b e)

any_integer : (low high x : ℤ) → is_any low high ≡ true → IsTrue (is_integer x) → is_between low x high ≡ true
any_integer low high x e h =
    let r = and_parts (is_equal low least) (is_equal high greatest) e in
    ap (λ l. is_between l x high) (equal_is low least r.0) ∙ ap (λ l. is_between least x l) (equal_is high greatest r.1)
    ∙ between_integers x ∙ h

-- a byte is a number of 0..255
pub byte_between : (b : ℕ) → b < 256 → IsTrue (is_between (pos 0) (pos b) (pos 255))
byte_between b l = sym (in_range (pos 0) (pos b) (pos 255)) ∙ ap (λ t. not t && not (nat_lt 255 b))
    (le-ltb b 0 (omega arith)) ∙ ap (λ t. not t) (le-ltb 255 b (omega (arith, l)))

-- and lies in a range that has all bytes
byte_in : (low high x : ℤ) → has_bytes low high ≡ true → IsTrue (is_between (pos 0) x (pos 255)) → is_between low x high
    ≡ true
byte_in low high x e h =
    let a = and_parts (int_le low (pos 0)) (int_le (pos 255) high) e in
    let b = and_parts (int_le (pos 0) x) (int_le x (pos 255)) h in
    ap (λ t. t && int_le x high) (le_through low (pos 0) x a.0 b.0) ∙ le_through x (pos 255) high b.1 a.1

module _ (p : Setting) (n : ℕ) (c : Activated) (active : IsActive p c) where
  -- a number in t is tested
  pub check_runs : (d x : ℕ) (o : Opening) (w : World) (k : Work) (pc pc' t : ℕ) (low high : ℤ) (number line : ℕ)
      (literal : Option ℤ) (v : Value) → IsLanguageError number → Alive p c w k →
      ((z : ℤ) → literal ≡ Some z → number_of v ≡ z)
      → WordIn k.temporaries w.made t NumberSort v → Stands (code_in p) c.routine pc
      (check_code literal t low high number line) pc'
      → Runs p n c d x w k pc pc' ((if is_between low (number_of v) high then give v else fault number line
      (context_in c o)) w) (λ u w' k'. (u ≡ v) × WordIn k'.temporaries w'.made t NumberSort v
      × (is_between low (number_of v) high ≡ true))
  check_runs d x o w k pc pc' t low high number line literal v few alive known r st = go literal refl st
    where
      R : Value → World → Work → Type 0
      R u w' k' = (u ≡ v) × WordIn k'.temporaries w'.made t NumberSort v × (is_between low (number_of v) high ≡ true)

      skip : is_between low (number_of v) high ≡ true → pc ≡ pc' → Runs p n c d x w k pc pc'
          ((if is_between low (number_of v) high then give v else fault number line (context_in c o)) w) R
      skip e q = subst (λ b. Runs p n c d x w k pc pc' ((if b then give v else fault number line (context_in c o)) w) R)
          (sym e) (here p n c d x w k pc pc' (R v) q alive (refl, r, e))

      test : Stands (code_in p) c.routine pc (i.CheckRange t low high number line ∷ []) pc' → Runs p n c d x w k pc pc'
          ((if is_between low (number_of v) high then give v else fault number line (context_in c o)) w) R
      test h = cases (is_between low (number_of v) high) refl
        where
          stepped : (b : Bool) → is_between low (number_of v) high ≡ b → step_of (machine_of p) (state p c w k pc)
              ≡ checks (code_in p) b number line (state p c w k pc)
          stepped b e = range_step (machine_of p) (state p c w k pc) t low high number line (number_of v) h.0 r.word
              ∙ ap (λ z. checks (code_in p) z number line (state p c w k pc)) (in_range low (number_of v) high ∙ e)

          cases : (b : Bool) → is_between low (number_of v) high ≡ b → Runs p n c d x w k pc pc'
              ((if b then give v else fault number line (context_in c o)) w) R
          cases true e = passes p n c d x w k pc pc' (R v) (stepped true e) h.1 alive (refl, r, e)
          cases false e = fails_so p n c active w k pc number line few (stepped false e)

      go : (l : Option ℤ) → literal ≡ l → Stands (code_in p) c.routine pc (check_code l t low high number line) pc'
          → Runs p n c d x w k pc pc' ((if is_between low (number_of v) high then give v else fault number line
          (context_in c o)) w) R
      go None q h = ranged (is_any low high) refl h
        where
          ranged : (b : Bool) → is_any low high ≡ b → Stands (code_in p) c.routine pc
              (if b then [] else (i.CheckRange t low high number line ∷ [])) pc' → Runs p n c d x w k pc pc'
              ((if is_between low (number_of v) high then give v else fault number line (context_in c o)) w) R
          ranged true e h' = skip (any_integer low high (number_of v) e r.fits) h'
          ranged false e h' = test h'
      go (Some z) q h = ranged (is_between low z high) refl h
        where
          ranged : (b : Bool) → is_between low z high ≡ b → Stands (code_in p) c.routine pc
              (if b then [] else (i.CheckRange t low high number line ∷ [])) pc' → Runs p n c d x w k pc pc'
              ((if is_between low (number_of v) high then give v else fault number line (context_in c o)) w) R
          ranged true e h' = skip (ap (λ y. is_between low y high) (known z q) ∙ e) h'
          ranged false e h' = test h'

  -- and one that may be known to be a byte
  pub fit_runs : (d x : ℕ) (o : Opening) (w : World) (k : Work) (pc pc' t : ℕ) (low high : ℤ) (line : ℕ) (byte : Bool)
      (literal : Option ℤ) (v : Value) → Alive p c w k
      → (byte ≡ true → IsTrue (is_between (pos 0) (number_of v) (pos 255)))
      → ((z : ℤ) → literal ≡ Some z → number_of v ≡ z) → WordIn k.temporaries w.made t NumberSort v → Stands
      (code_in p) c.routine pc (fitting_code byte literal t (Within low high) line) pc'
      → Runs p n c d x w k pc pc' ((if is_between low (number_of v) high then give v else fault 4 line (context_in c o))
      w) (λ u w' k'. (u ≡ v) × WordIn k'.temporaries w'.made t NumberSort v
      × (is_between low (number_of v) high ≡ true))
  fit_runs d x o w k pc pc' t low high line byte literal v alive is_byte known r st = go
      (byte && has_bytes low high) refl st
    where
      go : (b : Bool) → (byte && has_bytes low high) ≡ b → Stands (code_in p) c.routine pc
          (if b then [] else check_code literal t low high 4 line) pc' → Runs p n c d x w k pc pc'
          ((if is_between low (number_of v) high then give v else fault 4 line (context_in c o)) w)
          (λ u w' k'. (u ≡ v) × WordIn k'.temporaries w'.made t NumberSort v
          × (is_between low (number_of v) high ≡ true))
      go true q h =
          let e = and_parts byte (has_bytes low high) q in
          let inside = byte_in low high (number_of v) e.1 (is_byte e.0) in
          subst (λ b. Runs p n c d x w k pc pc' ((if b then give v else fault 4 line (context_in c o)) w)
          (λ u w' k'. (u ≡ v) × WordIn k'.temporaries w'.made t NumberSort v
          × (is_between low (number_of v) high ≡ true))) (sym inside)
          (here p n c d x w k pc pc' (λ w' k'. (v ≡ v) × WordIn k'.temporaries w'.made t NumberSort v
          × (is_between low (number_of v) high ≡ true)) h alive (refl, r, inside))
      go false q h = check_runs d x o w k pc pc' t low high 4 line literal v (omega arith) alive known r h

  -- ---- a spot is written

  written_state : (w : World) (k : Work) (pc : ℕ) (root : Root) (path : List ℕ) (v : Value) → stores
      (memory_of p.program (with_contents w (record {
        root = root;
        path = path;
      }) v) c.ghosts (record {
        number = c.number;
        words = k.scratch;
      } ∷ c.waiting)) (state p c w k pc) ≡ Goes (state p c (with_contents w (record {
        root = root;
        path = path;
      }) v) k (suc pc))
  written_state w k pc (Declared name) path v = refl
  written_state w k pc (Made object) path v = refl

  pub written_made : (w : World) (root : Root) (path : List ℕ) (v : Value) → (with_contents w (record {
    root = root;
    path = path;
  }) v).made ≡ w.made
  written_made w (Declared name) path v = refl
  written_made w (Made object) path v = refl

  -- a word in t goes to the variable at a site
  pub store_runs : (d x : ℕ) (w : World) (k : Work) (pc pc' t : ℕ) (site : Site) (s : Spot) (inner : Shape) (v : Value)
      (sort : Sort) → Alive p c w k → SiteAt p c w.made k.temporaries site s (Whole inner) → SortOf (Whole inner) sort
      → WordIn k.temporaries w.made t sort v → KeepsAt s.path v inner → Stands (code_in p) c.routine pc
      (i.Store site.base site.offset t ∷ []) pc' → Reached p c d x w k (state p c w k pc) pc' (λ w' k'. Unit {0})
      (with_contents w s v)
  store_runs d x w k pc pc' t site s inner v sort alive at sorted r kept st =
      let word = word_of sort v in
      let scratch = record { number = c.number; words = k.scratch } ∷ c.waiting in
      let facts = stored_word inner sort sorted r.fits in
      let goes : GoesTo w.made s.path v inner = (facts.0, kept) in
      let w' = with_contents w s v in
      let same = written_made w s.root s.path v in
      let stepped = store_step (machine_of p) (state p c w k pc) site.base site.offset t at.block at.offset word
      (memory_of p.program w' c.ghosts scratch) st.0 (base_is c pc k.temporaries site.base ∙ at.base) r.word
      (spot_written p.program w c.ghosts k.count alive.holds scratch s at.block
      (at.offset + site.offset) inner v word at.place goes facts.1 facts.2) ∙ written_state w k pc s.root s.path v
      in
      record {
        work = k;
        alive = record {
          holds = spot_holds p.program w c.ghosts k.count alive.holds s at.block
              (at.offset + site.offset) inner v at.place goes;
          stands = subst (λ m. EnvHere m) (sym same) alive.stands;
          room = alive.room;
        };
        keeps = record {
          temporaries = λ j l. refl;
          scratch = λ j l. refl;
          grown = ([], same ∙ sym (append-nil w.made));
        };
        comes = subst (λ q. Comes (machine_of p) (state p c w k pc) (state p c w' k q)) st.1
            (a_step (state p c w k pc) (state p c w' k (suc pc)) stepped);
        result = tt;
      }
    where
      EnvHere : List ℕ → Type 0
      EnvHere m = EnvAt p.program c.ghosts m c.env (Address (FrameBlock c.number) 0) (chain_of c)

      stored_word : (shape : Shape) (q : Sort) → SortOf (Whole shape) q → HasSort w.made v q → HasShape w.made v shape
          × (word_count shape ≡ 1) × (value_words shape v ≡ Some (word_of q v) ∷ [])
      stored_word (NumberShape first narrow) q e h =
          (subst (HasSort w.made v) e h, refl, ap (λ y. Some (word_of y v) ∷ []) (sym e))
      stored_word (PointerShape u) q e h = (
        subst (HasSort w.made v) e h,
        refl,
        ap (λ y. Some (word_of y v) ∷ [])
            (sym e),
      )
      stored_word SetShape q e h = absurd e
      stored_word (ByteShape count first) q e h = absurd e
      stored_word (ArrayShape count shape) q e h = absurd e
      stored_word (RecordShape shapes) q e h = absurd e

  -- a number of 0..255 in t goes to a byte
  pub store_byte_runs : (d x : ℕ) (w : World) (k : Work) (pc pc' t : ℕ) (site : Site) (s : Spot) (v : Value)
      → Alive p c w k → SiteAt p c w.made k.temporaries site s Byte → IsTrue
      (is_between (pos 0) (number_of v) (pos 255)) → WordIn k.temporaries w.made t NumberSort v → Stands
      (code_in p) c.routine pc (i.StoreByte site.base site.offset t ∷ []) pc' → Reached p c d x w k
      (state p c w k pc) pc' (λ w' k'. Unit {0}) (with_contents w s v)
  store_byte_runs d x w k pc pc' t site s v alive at between r st =
      let byte = byte_of v in
      let scratch = record { number = c.number; words = k.scratch } ∷ c.waiting in
      let w' = with_contents w s v in
      let same = written_made w s.root s.path v in
      let word = r.word ∙ ap (λ z. Some (Number z)) (byte_number (number_of v) between) in
      let stepped = store_byte_step (machine_of p) (state p c w k pc) site.base site.offset t at.block at.offset byte
      (memory_of p.program w' c.ghosts scratch) st.0 (base_is c pc k.temporaries site.base ∙ at.base) word
      (lt-ltb byte 256 (byte_small v)) (spot_byte_written p.program w c.ghosts k.count alive.holds
      (text_at (code_in p)) scratch s at.block (at.offset + site.offset) v at.place between)
      ∙ written_state w k pc s.root s.path v in
      record {
        work = k;
        alive = record {
          holds = spot_byte_holds p.program w c.ghosts k.count alive.holds s at.block
              (at.offset + site.offset) v at.place between;
          stands = subst (λ m. EnvHere m) (sym same) alive.stands;
          room = alive.room;
        };
        keeps = record {
          temporaries = λ j l. refl;
          scratch = λ j l. refl;
          grown = ([], same ∙ sym (append-nil w.made));
        };
        comes = subst (λ q. Comes (machine_of p) (state p c w k pc) (state p c w' k q)) st.1
            (a_step (state p c w k pc) (state p c w' k (suc pc)) stepped);
        result = tt;
      }
    where
      EnvHere : List ℕ → Type 0
      EnvHere m = EnvAt p.program c.ghosts m c.env (Address (FrameBlock c.number) 0) (chain_of c)
