-- The placed program meets what the law of steps requires of a code.
use Rattle.std.proofs.Common.{◌≡◌, ℕ, zero, suc, ◌+◌, ◌*◌, ◌<◌, ◌≤◌, true, false, [], ◌∷◌, Some, slice_get}
use Rattle.std.proofs.Common.{get_or, pos, refl, sym, ap, subst, arith}
use Rattle.std.proofs.lemmas.Int.{ints}
use Rattle.std.proofs.lemmas.Bool.{eqb-true}
use Rattle.tac_code.specs.declared.code.Instruction.{Instruction}
use Rattle.tac_code.specs.declared.code.Instruction.TheVariants.{Literal, Call, Arithmetic, Store, Load, Return, End}
use Rattle.tac_code.specs.declared.code.Operator.TheVariants.{Add}
use Rattle.tac_code.specs.declared.code.Operand.TheVariants as operand
use Rattle.tac_code.specs.declared.code.Base.TheVariants as base
use Rattle.tac_code.specs.declared.code.TacRoutine.{TacRoutine}
use Rattle.tac_code.specs.Memory.{Words, constant_at}
use Rattle.tac_code.specs.Meaning.{routines, text_at}
use Rattle.tac_code.specs.Sound.{IsSound, IsSoundRoutine, IsSoundAt, IsLeaf, CallsNone, limits_of}
use Rattle.risc_image.specs.declared.header.TheConstants.{MAX_COUNT}
use Rattle.risc_emit_relation.specs.Context.{home, called, is_program}
use Rattle.risc_emit_relation.proofs.Example.{block, leaf, code, example_valid}
use Rattle.risc_emit_forms.specs.Pieces.{Left}
use Rattle.risc_emit_forms.specs.Forms.{accept, entry_form}
use Rattle.risc_emit_forms.specs.Follows.{Stood, Built}
use Rattle.risc_emit_forms.specs.Laws.{ProgramsAreBuilt}
use Rattle.risc_emit_forms.proofs.PlacedExample.{bodies, entries, left_entry_0, left_entry_1, placed, placed_laid}
use Rattle.risc_emit_forms.proofs.PlacedExample.{sites, words}

starts : (r : ℕ) (routine : TacRoutine) → slice_get (routines code) r ≡ Some routine → Left placed words (entries r)
    (entry_form placed r routine) (sites r 0)
starts zero routine e =
    let z : block ≡ routine = cc e in subst (λ x. Left placed words 3 (entry_form placed 0 x) 10) z left_entry_0
starts (suc zero) routine e =
    let z : leaf ≡ routine = cc e in subst (λ x. Left placed words 21 (entry_form placed 1 x) 22) z left_entry_1
starts (suc (suc r)) routine e = absurd (cc e)

places : (r k : ℕ) → sites r k ≤ MAX_COUNT
places zero zero = omega arith
places zero (suc zero) = omega arith
places zero (suc (suc zero)) = omega arith
places zero (suc (suc (suc zero))) = omega arith
places zero (suc (suc (suc (suc zero)))) = omega arith
places zero (suc (suc (suc (suc (suc zero))))) = omega arith
places zero (suc (suc (suc (suc (suc (suc k)))))) = omega arith
places (suc r) zero = omega arith
places (suc r) (suc zero) = omega arith
places (suc r) (suc (suc zero)) = omega arith
places (suc r) (suc (suc (suc zero))) = omega arith
places (suc r) (suc (suc (suc (suc k)))) = omega arith

no_texts : (r k : ℕ) (ws : Words) → constant_at (text_at code r k) ≡ Some ws → ⊥
no_texts zero zero ws e = cc e
no_texts zero (suc zero) ws e = cc e
no_texts zero (suc (suc zero)) ws e = cc e
no_texts zero (suc (suc (suc zero))) ws e = cc e
no_texts zero (suc (suc (suc (suc zero)))) ws e = cc e
no_texts zero (suc (suc (suc (suc (suc k))))) ws e = cc e
no_texts (suc zero) zero ws e = cc e
no_texts (suc zero) (suc zero) ws e = cc e
no_texts (suc zero) (suc (suc zero)) ws e = cc e
no_texts (suc zero) (suc (suc (suc k))) ws e = cc e
no_texts (suc (suc r)) k ws e = cc e

left_accepted : Left placed words 14 (accept placed 0 (home placed 0 1)) 14
left_accepted =
    record { stands = tt; ends = refl }

accepted : (r k t : ℕ) → called placed r k t ≡ true → Left placed words 14 (accept placed r (home placed r t))
    (sites r k)
accepted r zero t e = absurd (cc e)
accepted zero (suc zero) t e = absurd (cc e)
accepted zero (suc (suc zero)) t e =
    subst (λ x. Left placed words 14 (accept placed 0 (home placed 0 x)) 14) (sym (eqb-true t 1 e)) left_accepted
accepted zero (suc (suc (suc zero))) t e = absurd (cc e)
accepted zero (suc (suc (suc (suc zero)))) t e = absurd (cc e)
accepted zero (suc (suc (suc (suc (suc zero))))) t e = absurd (cc e)
accepted zero (suc (suc (suc (suc (suc (suc k)))))) t e = absurd (cc e)
accepted (suc zero) (suc zero) t e = absurd (cc e)
accepted (suc zero) (suc (suc zero)) t e = absurd (cc e)
accepted (suc zero) (suc (suc (suc zero))) t e = absurd (cc e)
accepted (suc zero) (suc (suc (suc (suc k)))) t e = absurd (cc e)
accepted (suc (suc r)) (suc k) t e = absurd (cc e)

entries_low : (r : ℕ) → entries r ≤ MAX_COUNT
entries_low zero = omega arith
entries_low (suc r) = omega arith

first_parameters : (r : ℕ) (routine : TacRoutine) → is_program placed r ≡ false → slice_get (routines code) r
    ≡ Some routine → 8 + 4 * routine.parameters ≤ placed.link_at r
first_parameters zero routine e is = absurd (cc e)
first_parameters (suc zero) routine e is =
    let z : leaf ≡ routine = cc is in
    let n : 1 ≡ routine.parameters = ap (λ x. x.parameters) z in
    omega (arith, n)
first_parameters (suc (suc r)) routine e is = absurd (cc is)

placed_stood : Stood placed words
placed_stood =
    record {
      fits = record { room = omega arith; top = omega arith };
      code = omega arith;
      short = omega arith;
      stub = (
        record {
          word = refl;
          ranges = (omega arith, (omega (arith, ints), omega (arith, ints)));
        },
        (
          record {
            word = refl;
            ranges = (omega arith, omega arith, (omega (arith, ints), omega (arith, ints)));
          },
          tt,
        ),
      );
      body = bodies;
      entry = starts;
      within = λ r k routine is lt. places r k;
      within_entry = λ r lt. entries_low r;
      resumes = accepted;
      parameters = first_parameters;
      texts = λ r k ws e. absurd (no_texts r k ws e);
      unlinked = refl;
      sizes = λ t bytes e. absurd (cc e);
    }

-- ---- the code is sound

one_below : (k d : ℕ) → k < 1 → get_or (0 ∷ []) k d < 2
one_below zero d lt = omega arith
one_below (suc k) d lt = absurd (omega (arith, lt))

block_body : (k : ℕ) (i : Instruction) → slice_get block.body k ≡ Some i → IsSoundAt (limits_of code block) k i
block_body zero i e =
    let z : Literal 0 (pos 5) ≡ i = cc e in subst (IsSoundAt (limits_of code block) 0) z (omega arith, refl)
block_body (suc zero) i e =
    let z : Call 1 1 (0 ∷ []) 4 ≡ i = cc e in
    subst (IsSoundAt (limits_of code block) 1) z
    (omega arith, omega arith, (omega arith, one_below), (omega arith, omega arith))
block_body (suc (suc zero)) i e =
    let z : Arithmetic Add 1 1 (operand.Temporary 0) 1 4 ≡ i = cc e in
    subst (IsSoundAt (limits_of code block) 2) z
    (omega arith, omega arith, omega arith, omega arith, (omega arith, omega arith))
block_body (suc (suc (suc zero))) i e =
    let z : Store base.Frame 0 1 ≡ i = cc e in subst (IsSoundAt (limits_of code block) 3) z (tt, omega arith)
block_body (suc (suc (suc (suc zero)))) i e =
    let z : End ≡ i = cc e in subst (IsSoundAt (limits_of code block) 4) z tt
block_body (suc (suc (suc (suc (suc k))))) i e = absurd (cc e)

leaf_body : (k : ℕ) (i : Instruction) → slice_get leaf.body k ≡ Some i → IsSoundAt (limits_of code leaf) k i
    × CallsNone i
leaf_body zero i e =
    let z : Store base.Frame 0 0 ≡ i = cc e in subst (λ x. IsSoundAt (limits_of code leaf) 0 x × CallsNone x) z
    ((tt, omega arith), tt)
leaf_body (suc zero) i e =
    let z : Load 1 base.Frame 0 ≡ i = cc e in subst (λ x. IsSoundAt (limits_of code leaf) 1 x × CallsNone x) z
    ((omega arith, tt), tt)
leaf_body (suc (suc zero)) i e =
    let z : Return 1 ≡ i = cc e in subst (λ x. IsSoundAt (limits_of code leaf) 2 x × CallsNone x) z (omega arith, tt)
leaf_body (suc (suc (suc k))) i e = absurd (cc e)

block_sound : IsSoundRoutine (limits_of code block) block
block_sound =
    record {
      parameters = omega arith;
      frame = refl;
      scratch = refl;
      bytes = omega arith;
      begins = (omega arith, omega arith);
      body = block_body;
    }

leaf_sound : IsSoundRoutine (limits_of code leaf) leaf
leaf_sound =
    record {
      parameters = omega arith;
      frame = refl;
      scratch = refl;
      bytes = omega arith;
      begins = (omega arith, omega arith);
      body = λ k i e. (leaf_body k i e).0;
    }

leaf_small : IsLeaf leaf
leaf_small =
    record { parameters = omega arith; bytes = omega arith; body = λ k i e. (leaf_body k i e).1 }

code_sound : IsSound code
code_sound =
    record {
      begins = omega arith;
      program = programs;
      run_time = leaves;
      leaves = small;
      objects = λ k x e. absurd (cc e);
      types = omega arith;
    }
  where
    programs : (k : ℕ) (routine : TacRoutine) → slice_get (block ∷ []) k ≡ Some routine → IsSoundRoutine
        (limits_of code routine) routine
    programs zero routine e = let z : block ≡ routine = cc e in subst
        (λ x. IsSoundRoutine (limits_of code x) x) z block_sound
    programs (suc k) routine e = absurd (cc e)

    leaves : (k : ℕ) (routine : TacRoutine) → slice_get (leaf ∷ []) k ≡ Some routine → IsSoundRoutine
        (limits_of code routine) routine
    leaves zero routine e = let z : leaf ≡ routine = cc e in subst
        (λ x. IsSoundRoutine (limits_of code x) x) z leaf_sound
    leaves (suc k) routine e = absurd (cc e)

    small : (k : ℕ) (routine : TacRoutine) → slice_get (leaf ∷ []) k ≡ Some routine → IsLeaf routine
    small zero routine e = let z : leaf ≡ routine = cc e in subst IsLeaf z leaf_small
    small (suc k) routine e = absurd (cc e)

pub built : Built placed words
built = record { sound = code_sound; laid = placed_laid; placed = example_valid; stood = placed_stood }

pub programs_are_built : ProgramsAreBuilt
programs_are_built = (placed, words, built, refl)
