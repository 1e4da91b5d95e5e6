-- Every target and every operand of the routines exists: a test of their tables, and what it means.
use Rattle.std.proofs.Common.{◌≡◌, ℕ, zero, suc, ◌+◌, ◌<◌, Bool, true, ◌&&◌, nat_lt, nat_le, List, [], ◌∷◌, map}
use Rattle.std.proofs.Common.{length, slice_get, Some, refl, sym, ap, ◌∙◌, subst, arith, ltb-true, leb-true}
use Rattle.std.proofs.lemmas.Option.{none-some}
use Rattle.std.proofs.lemmas.Bool.{and_parts}
use Rattle.tac_code_steps.proofs.Pieces.{same_some}
use Rattle.tac_code.specs.declared.code.Operand.{Operand}
use Rattle.tac_code.specs.declared.code.Operand.TheVariants as operand
use Rattle.tac_code.specs.declared.code.Instruction.{Instruction}
use Rattle.tac_code.specs.declared.code.TacRoutine.{TacRoutine}
use Rattle.tac_code.specs.declared.check.Limits.{Limits}
use Rattle.tac_code.specs.Numbers.{is_integer}
use Rattle.tac_code.specs.Meaning.{Code}
use Rattle.tac_code.specs.Sound.{IsOperand, IsTestNumber, IsLine, IsSoundAt, CallsNone, limits_of, IsSoundRoutine}
use Rattle.tac_code.specs.Sound.{IsLeaf}
use Rattle.tac_rt.specs.declared.step.Step.{Step}
use Rattle.tac_rt.specs.declared.step.Step.TheVariants as step
use Rattle.tac_rt.specs.declared.words.TheConstants.{COPY, COMPARE, PACK, UNPACK}
use Rattle.tac_rt.specs.declared.sets.TheConstants.{ADD_RANGE, UNITE, SUBTRACT, INTERSECT, IS_INCLUDED, IS_MEMBER}
use Rattle.tac_rt.specs.declared.writing.TheConstants.{WRITE_NUMBER, WRITE_CHARACTER, WRITE_STRING}
use Rattle.tac_rt.specs.declared.reading.TheConstants.{LOOK, READ_CHARACTER, READ_NUMBER, READ_LINE}
use Rattle.tac_rt.specs.Bodies.{instruction_of, routine_of, run_time_routines}
use Rattle.tac_rt.specs.Laws.{RoutinesAreSound}

-- ---- the test: this many temporaries, this many places

abbrev is_operand : (temporaries : ℕ) → Operand → Bool
is_operand ts (operand.Temporary t) = nat_lt t ts
is_operand ts (operand.Number z) = is_integer z

abbrev is_sound_step : (temporaries places place : ℕ) → Step → Bool
is_sound_step ts ps pc (step.Literal t z) = nat_lt t ts && is_integer z
is_sound_step ts ps pc (step.Copy t a) = nat_lt t ts && nat_lt a ts
is_sound_step ts ps pc (step.Arithmetic operator t a b) = nat_lt t ts && (nat_lt a ts && is_operand ts b)
is_sound_step ts ps pc (step.Bits operator t a b) = nat_lt t ts && (nat_lt a ts && is_operand ts b)
is_sound_step ts ps pc (step.Compare relation t a b) = nat_lt t ts && (nat_lt a ts && is_operand ts b)
is_sound_step ts ps pc (step.Offset t a n) = nat_lt t ts && nat_lt a ts
is_sound_step ts ps pc (step.SetWord t a i) = nat_lt t ts && (nat_lt a ts && nat_lt i ts)
is_sound_step ts ps pc (step.Load t a n) = nat_lt t ts && nat_lt a ts
is_sound_step ts ps pc (step.Store a n b) = nat_lt a ts && nat_lt b ts
is_sound_step ts ps pc (step.LoadByte t a n) = nat_lt t ts && nat_lt a ts
is_sound_step ts ps pc (step.StoreByte a n b) = nat_lt a ts && nat_lt b ts
is_sound_step ts ps pc (step.Jump n) = nat_lt (suc pc + n) ps
is_sound_step ts ps pc (step.JumpBack n) = nat_le n pc
is_sound_step ts ps pc (step.Branch relation a b n) = nat_lt a ts && (is_operand ts b && nat_lt (suc pc + n) ps)
is_sound_step ts ps pc (step.BranchBack relation a b n) = nat_lt a ts && (is_operand ts b && nat_le n pc)
is_sound_step ts ps pc (step.Return a) = nat_lt a ts
is_sound_step ts ps pc (step.Take t) = nat_lt t ts
is_sound_step ts ps pc (step.Put a) = nat_lt a ts

abbrev are_sound_steps : (temporaries places place : ℕ) → List Step → Bool
are_sound_steps ts ps pc [] = true
are_sound_steps ts ps pc (i ∷ is) = is_sound_step ts ps pc i && are_sound_steps ts ps (suc pc) is

abbrev is_sound_table : (parameters temporaries : ℕ) → List Step → Bool
is_sound_table parameters ts steps = nat_le parameters 8
    && (nat_le parameters ts && (nat_le ts 40 && are_sound_steps ts (length steps) 0 steps))

-- ---- what it means

no_error : IsTestNumber 0
no_error = omega arith

line_one : IsLine 1
line_one = (omega arith, omega arith)

operand_sound : (ts : ℕ) (b : Operand) → is_operand ts b ≡ true → IsOperand ts b
operand_sound ts (operand.Temporary t) e = ltb-true t ts e
operand_sound ts (operand.Number z) e = e

two_sound : (ts t a : ℕ) → (nat_lt t ts && nat_lt a ts) ≡ true → (t < ts) × (a < ts)
two_sound ts t a e = let p = and_parts (nat_lt t ts) (nat_lt a ts) e in (ltb-true t ts p.0, ltb-true a ts p.1)

three_sound : (ts t a : ℕ) (b : Operand) → (nat_lt t ts && (nat_lt a ts && is_operand ts b)) ≡ true → (t < ts)
    × (a < ts) × IsOperand ts b
three_sound ts t a b e =
    let p = and_parts (nat_lt t ts) (nat_lt a ts && is_operand ts b) e in
    let q = and_parts (nat_lt a ts) (is_operand ts b) p.1 in
    (ltb-true t ts p.0, ltb-true a ts q.0, operand_sound ts b q.1)

step_sound : (l : Limits) (pc : ℕ) (i : Step) → is_sound_step l.temporaries l.places pc i ≡ true → IsSoundAt l pc
    (instruction_of i)
step_sound l pc (step.Literal t z) e = let p = and_parts (nat_lt t l.temporaries) (is_integer z) e
    in (ltb-true t l.temporaries p.0, p.1)
step_sound l pc (step.Copy t a) e = two_sound l.temporaries t a e
step_sound l pc (step.Arithmetic operator t a b) e = let p = three_sound l.temporaries t a b e
    in (p.0, p.1, p.2, no_error, line_one)
step_sound l pc (step.Bits operator t a b) e = three_sound l.temporaries t a b e
step_sound l pc (step.Compare relation t a b) e = three_sound l.temporaries t a b e
step_sound l pc (step.Offset t a n) e = two_sound l.temporaries t a e
step_sound l pc (step.SetWord t a i) e =
    let p = and_parts (nat_lt t l.temporaries) (nat_lt a l.temporaries && nat_lt i l.temporaries) e in
    let q = and_parts (nat_lt a l.temporaries) (nat_lt i l.temporaries) p.1 in (
      ltb-true t l.temporaries p.0,
      ltb-true a l.temporaries q.0,
      ltb-true i l.temporaries q.1,
      refl,
      refl,
      no_error,
      line_one,
    )
step_sound l pc (step.Load t a n) e = two_sound l.temporaries t a e
step_sound l pc (step.Store a n b) e = two_sound l.temporaries a b e
step_sound l pc (step.LoadByte t a n) e = two_sound l.temporaries t a e
step_sound l pc (step.StoreByte a n b) e = two_sound l.temporaries a b e
step_sound l pc (step.Jump n) e = ltb-true (suc pc + n) l.places e
step_sound l pc (step.JumpBack n) e = leb-true n pc e
step_sound l pc (step.Branch relation a b n) e =
    let p = and_parts (nat_lt a l.temporaries) (is_operand l.temporaries b && nat_lt (suc pc + n) l.places) e in
    let q = and_parts (is_operand l.temporaries b) (nat_lt (suc pc + n) l.places) p.1 in
    (ltb-true a l.temporaries p.0, operand_sound l.temporaries b q.0, ltb-true (suc pc + n) l.places q.1)
step_sound l pc (step.BranchBack relation a b n) e =
    let p = and_parts (nat_lt a l.temporaries) (is_operand l.temporaries b && nat_le n pc) e in
    let q = and_parts (is_operand l.temporaries b) (nat_le n pc) p.1 in
    (ltb-true a l.temporaries p.0, operand_sound l.temporaries b q.0, leb-true n pc q.1)
step_sound l pc (step.Return a) e = ltb-true a l.temporaries e
step_sound l pc (step.Take t) e = ltb-true t l.temporaries e
step_sound l pc (step.Put a) e = ltb-true a l.temporaries e

calls_none : (i : Step) → CallsNone (instruction_of i)
calls_none (step.Literal t z) = tt
calls_none (step.Copy t a) = tt
calls_none (step.Arithmetic operator t a b) = tt
calls_none (step.Bits operator t a b) = tt
calls_none (step.Compare relation t a b) = tt
calls_none (step.Offset t a n) = tt
calls_none (step.SetWord t a i) = tt
calls_none (step.Load t a n) = tt
calls_none (step.Store a n b) = tt
calls_none (step.LoadByte t a n) = tt
calls_none (step.StoreByte a n b) = tt
calls_none (step.Jump n) = tt
calls_none (step.JumpBack n) = tt
calls_none (step.Branch relation a b n) = tt
calls_none (step.BranchBack relation a b n) = tt
calls_none (step.Return a) = tt
calls_none (step.Take t) = tt
calls_none (step.Put a) = tt

steps_sound : (l : Limits) (pc : ℕ) (steps : List Step) → are_sound_steps l.temporaries l.places pc steps ≡ true
    → (i : ℕ) (x : Instruction) → slice_get (map instruction_of steps) i ≡ Some x → IsSoundAt l (pc + i) x
steps_sound l pc [] t i x e = absurd (none-some x e)
steps_sound l pc (s ∷ steps) t zero x e =
    let p = and_parts (is_sound_step l.temporaries l.places pc s)
    (are_sound_steps l.temporaries l.places (suc pc) steps) t
    in
    let here : pc ≡ pc + 0 = omega arith in
    subst (λ q. IsSoundAt l q x) here (subst (IsSoundAt l pc) (same_some e) (step_sound l pc s p.0))
steps_sound l pc (s ∷ steps) t (suc i) x e =
    let p = and_parts (is_sound_step l.temporaries l.places pc s)
    (are_sound_steps l.temporaries l.places (suc pc) steps) t
    in
    let there : suc pc + i ≡ pc + suc i = omega arith in
    subst (λ q. IsSoundAt l q x) there (steps_sound l (suc pc) steps p.1 i x e)

steps_call_none : (steps : List Step) (i : ℕ) (x : Instruction) → slice_get (map instruction_of steps) i ≡ Some x
    → CallsNone x
steps_call_none [] i x e = absurd (none-some x e)
steps_call_none (s ∷ steps) zero x e = subst CallsNone (same_some e) (calls_none s)
steps_call_none (s ∷ steps) (suc i) x e = steps_call_none steps i x e

length_mapped : (steps : List Step) → length steps ≡ length (map instruction_of steps)
length_mapped [] = refl
length_mapped (s ∷ steps) = ap suc (length_mapped steps)

-- a routine that is sound and a leaf
abbrev Fine : Code → TacRoutine → Type 0
Fine code routine = IsSoundRoutine (limits_of code routine) routine × IsLeaf routine

table_fine : (code : Code) (parameters temporaries : ℕ) (steps : List Step)
    → is_sound_table parameters temporaries steps ≡ true → Fine code (routine_of parameters temporaries steps)
table_fine code parameters ts steps e =
    let a = and_parts (nat_le parameters 8) (nat_le parameters ts
    && (nat_le ts 40 && are_sound_steps ts (length steps) 0 steps)) e in
    let b = and_parts (nat_le parameters ts) (nat_le ts 40 && are_sound_steps ts (length steps) 0 steps) a.1 in
    let c = and_parts (nat_le ts 40) (are_sound_steps ts (length steps) 0 steps) b.1 in
    let few = leb-true ts 40 c.0 in
    let places : are_sound_steps ts (length (map instruction_of steps)) 0 steps
    ≡ true = ap (λ n. are_sound_steps ts n 0 steps) (sym (length_mapped steps)) ∙ c.1 in
    let l : Limits = limits_of code (routine_of parameters ts steps) in
    let body_sound : (i : ℕ) (x : Instruction) → slice_get (map instruction_of steps) i ≡ Some x
    → IsSoundAt l i x = λ i x e. let here : 0 + i ≡ i = omega arith in subst (λ q. IsSoundAt l q x) here
    (steps_sound l 0 steps places i x e) in (
      record {
        parameters = leb-true parameters ts b.0;
        frame = refl;
        scratch = refl;
        bytes = omega (arith, few);
        begins = line_one;
        body = body_sound;
      },
      record { parameters = leb-true parameters 8 a.0; bytes = omega (arith, few); body = steps_call_none steps },
    )

-- ---- all of them

abbrev Every : (TacRoutine → Type 0) → List TacRoutine → Type 0
Every P [] = Unit {0}
Every P (r ∷ rs) = P r × Every P rs

every_each : (P : TacRoutine → Type 0) (rs : List TacRoutine) → Every P rs → (i : ℕ) (r : TacRoutine) → slice_get rs i
    ≡ Some r → P r
every_each P [] h i r e = absurd (none-some r e)
every_each P (x ∷ rs) h zero r e = subst P (same_some e) h.0
every_each P (x ∷ rs) h (suc i) r e = every_each P rs h.1 i r e

all_fine : (code : Code) → Every (Fine code) run_time_routines
all_fine code = (
  table_fine code 3 4 COPY refl,
  (
    table_fine code 3 6 ADD_RANGE refl,
    (
      table_fine code 2 5 UNITE refl,
      (
        table_fine code 2 5 SUBTRACT refl,
        (
          table_fine code 2 5 INTERSECT refl,
          (
            table_fine code 2 5 IS_INCLUDED refl,
            (
              table_fine code 2 4 IS_MEMBER refl,
              (
                table_fine code 3 5 COMPARE refl,
                (
                  table_fine code 3 4 PACK refl,
                  (
                    table_fine code 3 4 UNPACK refl,
                    (
                      table_fine code 2 6 WRITE_NUMBER refl,
                      (
                        table_fine code 2 4 WRITE_CHARACTER refl,
                        (
                          table_fine code 3 5 WRITE_STRING refl,
                          (
                            table_fine code 1 2 LOOK refl,
                            (
                              table_fine code 1 4 READ_CHARACTER refl,
                              (
                                table_fine code 2 7 READ_NUMBER refl,
                                (
                                  table_fine code 1 4 READ_LINE refl,
                                  tt,
                                ),
                              ),
                            ),
                          ),
                        ),
                      ),
                    ),
                  ),
                ),
              ),
            ),
          ),
        ),
      ),
    ),
  ),
)

pub routines_are_sound : RoutinesAreSound
routines_are_sound code = record {
  sound = λ i r e. (every_each (Fine code) run_time_routines (all_fine code) i r e).0;
  leaves = λ i r e. (every_each (Fine code) run_time_routines (all_fine code) i r e).1;
}
