-- Code that places the pieces of a block.
use Rattle.std.proofs.Common.{◌≡◌, ℕ, suc, ◌+◌, ◌*◌, ◌<◌, ◌≤◌, ℤ, List, [], ◌∷◌, ◌++◌, length, Some, refl, sym, ap}
use Rattle.std.proofs.Common.{◌∙◌, subst, arith}
use Rattle.tac_code.specs.declared.code.Value.{Value as Word}
use Rattle.tac_code.specs.declared.code.Value.TheVariants.{Number as Numeral, Address}
use Rattle.tac_code.specs.declared.code.Base.{Base}
use Rattle.tac_code.specs.declared.code.Base.TheVariants as base
use Rattle.tac_code.specs.declared.code.Instruction.TheVariants as i
use Rattle.tac_code.specs.Memory.{Words, store}
use Rattle.tac_code.specs.Meaning.{Temporaries, put, base_value}
use Rattle.tac_code.specs.declared.code.TheConstants.{BLOCK_LIMIT}
use Rattle.tac_code_steps.specs.Runs.{Stands, Comes}
use Rattle.tac_code_steps.specs.Routines.{AreBelow}
use Rattle.tac_code_steps.specs.Splices.{spliced, Piece, placed}
use Rattle.tac_code_steps.proofs.Runs.{stay, a_step, ◌>>◌}
use Rattle.tac_code_steps.proofs.Temporaries.{put_other}
use Rattle.tac_code_steps.proofs.Instructions.{literal_step, store_step}
use Rattle.ps_lower_code.specs.Scopes.{Scope}
use Rattle.ps_lower_relation.specs.Here.{Setting, machine_of, code_in, Work, Activated, activation, base_at, IsBelow}
use Rattle.ps_lower_relation.specs.RunTime.{WritesDo}
use Rattle.ps_lower_relation.proofs.Copies.{Holding}
use Rattle.ps_lower_calls.specs.Filling.{Filling, filling, Fills}

pub placed_both : (ps qs : List Piece) (words : Words) → placed (ps ++ qs) words ≡ placed qs (placed ps words)
placed_both [] qs words = refl
placed_both (p ∷ ps) qs words = placed_both ps qs (spliced p.place p.words words)

abbrev pub with_temporary : Work → ℕ → Word → Work
with_temporary k t v = record { count = k.count; temporaries = put k.temporaries t v; scratch = k.scratch }

-- the block is named by its base, which is no free temporary
abbrev pub IsNamed : Activated → Filling → (free : ℕ) → Temporaries → Type 0
IsNamed c f free t = IsBelow free f.base × (base_at c.number t f.base ≡ Some (Address f.block 0))

base_kept : (t t' : Temporaries) (number free : ℕ) (b : Base) → IsBelow free b → ((i : ℕ) → i < free → t' i ≡ t i)
    → base_at number t' b ≡ base_at number t b
base_kept t t' number free base.Frame l h = refl
base_kept t t' number free base.Scratch l h = refl
base_kept t t' number free base.Program l h = refl
base_kept t t' number free (base.Temporary u) l h = h u l

pub named_after : (c : Activated) (f : Filling) (free : ℕ) (t t' : Temporaries) → IsNamed c f free t
    → ((i : ℕ) → i < free → t' i ≡ t i) → IsNamed c f free t'
named_after c f free t t' named h = (named.0, base_kept t t' c.number free f.base named.0 h ∙ named.1)

pub named_put : (c : Activated) (f : Filling) (free : ℕ) (temporaries : Temporaries) (t : ℕ) (v : Word) → free ≤ t
    → IsNamed c f free temporaries → IsNamed c f free (put temporaries t v)
named_put c f free temporaries t v l named = named_after c f free temporaries (put temporaries t v) named
    (λ i b. let ne : i ≡ t → ⊥ = λ e. omega arith in put_other temporaries t v i ne)

base_is : (c : Activated) (pc : ℕ) (t : Temporaries) (b : Base) → base_value (activation c pc t) b
    ≡ base_at c.number t b
base_is c pc t base.Frame = refl
base_is c pc t base.Scratch = refl
base_is c pc t base.Program = refl
base_is c pc t (base.Temporary u) = refl

pub named_value : (c : Activated) (f : Filling) (free pc : ℕ) (t : Temporaries) → IsNamed c f free t → base_value
    (activation c pc t) f.base ≡ Some (Address f.block 0)
named_value c f free pc t named = base_is c pc t f.base ∙ named.1

-- What copies within the block ask for: the run-time routines, its words by their places, numbers of activations that
-- no block has, and less than 2 ^ 31 bytes.
pub record CanFill (p : Setting) (c : Activated) (f : Filling) (k : Scope) (count size : ℕ) : Type 0 where
  pub does : WritesDo p
  pub program : length k.program.routines ≡ length (code_in p).program
  pub holding : (scratch : Words) → Holding p f.block (f.memory scratch)
  pub frames : (scratch words : Words) → AreBelow count (f.memory scratch words).frames
  pub waiting : (scratch words : Words) → AreBelow count (f.memory scratch words).scratch
  pub small : 4 * size < BLOCK_LIMIT

module _ (p : Setting) (c : Activated) (f : Filling) where
  -- no code, no piece
  pub fills_none : (free : ℕ) (words : Words) (k : Work) (pc pc' : ℕ) → pc ≡ pc' → Fills p c f free words k pc pc' []
  fills_none free words k pc pc' e =
      record {
        work = k;
        temporaries = λ j l. refl;
        scratch = refl;
        count = omega arith;
        comes = subst (λ q. Comes (machine_of p) (filling p c f words k pc) (filling p c f words k q)) e
            (stay (filling p c f words k pc));
      }

  -- some pieces, and then others
  pub fills_then : (free : ℕ) (words : Words) (k : Work) (pc mid pc' : ℕ) (ps qs : List Piece)
      (first : Fills p c f free words k pc mid ps) → Fills p c f free (placed ps words) first.work mid pc' qs
      → Fills p c f free words k pc pc' (ps ++ qs)
  fills_then free words k pc mid pc' ps qs a b =
      let more = a.count in
      let most = b.count in
      record {
        work = b.work;
        temporaries = λ j l. b.temporaries j l ∙ a.temporaries j l;
        scratch = b.scratch ∙ a.scratch;
        count = omega (arith, more, most);
        comes = subst (λ ws. Comes (machine_of p) (filling p c f words k pc) (filling p c f ws b.work pc'))
            (sym (placed_both ps qs words)) (a.comes >> b.comes);
      }

  -- the same words, placed as other pieces
  pub fills_as : (free : ℕ) (words : Words) (k : Work) (pc pc' : ℕ) (ps qs : List Piece) → placed ps words
      ≡ placed qs words → Fills p c f free words k pc pc' ps → Fills p c f free words k pc pc' qs
  fills_as free words k pc pc' ps qs e a =
      record {
        work = a.work;
        temporaries = a.temporaries;
        scratch = a.scratch;
        count = a.count;
        comes = subst (λ ws. Comes (machine_of p) (filling p c f words k pc) (filling p c f ws a.work pc')) e a.comes;
      }

  -- one store is a piece of one word
  pub fills_word : (holding : (scratch : Words) → Holding p f.block (f.memory scratch)) (free : ℕ) (words : Words)
      (k : Work) (pc pc' place offset t : ℕ) (v : Word) → IsNamed c f free k.temporaries → offset ≡ 4 * place
      → place < length words → k.temporaries t ≡ Some v → Stands (code_in p) c.routine pc
      (i.Store f.base offset t ∷ []) pc' → Fills p c f free words k pc pc' (record {
        place = place;
        words = Some v ∷ [];
      } ∷ [])
  fills_word holding free words k pc pc' place offset t v named e l h st =
      let s = filling p c f words k pc in
      let s' = filling p c f (spliced place (Some v ∷ []) words) k (suc pc) in
      let at : 0 + offset ≡ 4 * place = omega (arith, e) in
      record {
        work = k;
        temporaries = λ j b. refl;
        scratch = refl;
        count = omega arith;
        comes = subst (λ q. Comes (machine_of p) s (filling p c f (spliced place (Some v ∷ []) words) k q)) st.1
            (a_step s s' (store_step (machine_of p) s f.base offset t f.block 0 v s'.memory st.0
            (named_value c f free pc k.temporaries named) h
            (ap (λ o. store s.memory f.block o v) at ∙ (holding k.scratch).writes words place v l)));
      }

  -- a number that is made in a free temporary
  pub fills_literal : (free : ℕ) (words : Words) (k : Work) (pc pc' t : ℕ) (z : ℤ) (ps : List Piece) → free ≤ t → Stands
      (code_in p) c.routine pc (i.Literal t z ∷ []) (suc pc) → Fills p c f free words (with_temporary k t (Numeral z))
      (suc pc) pc' ps → Fills p c f free words k pc pc' ps
  fills_literal free words k pc pc' t z ps l st a =
      let s = filling p c f words k pc in
      record {
        work = a.work;
        temporaries = λ j b. let ne : j ≡ t → ⊥ = λ e. omega arith in a.temporaries j b ∙ put_other k.temporaries t
            (Numeral z) j ne;
        scratch = a.scratch;
        count = a.count;
        comes = a_step s (filling p c f words (with_temporary k t (Numeral z)) (suc pc))
            (literal_step (machine_of p) s t z st.0) >> a.comes;
      }
