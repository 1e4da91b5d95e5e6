-- Instructions that compute or fail.
use Rattle.std.proofs.Common.{◌≡◌, ℕ, zero, suc, ◌-◌, ◌%◌, ◌<◌, ◌≤◌, ℤ, pos, negsuc, unsigned_abs, Bool, true, false}
use Rattle.std.proofs.Common.{if◌then◌else◌, IsTrue, List, refl, sym, ap, ◌∙◌, arith, nat_eq, ◌+ℤ◌, ◌-ℤ◌, ◌*ℤ◌}
use Rattle.std.proofs.Common.{int_div, lt-ltb, ltb-true, mod-lt, int_le}
use Rattle.std.proofs.lemmas.Bool.{ne_eqb}
use Rattle.behavior.specs.Endings.{Stack, Heap, Stuck, failed, ending_by}
use Rattle.ps_tree.specs.declared.tree.operators.ArithmeticOperator.{ArithmeticOperator}
use Rattle.ps_tree.specs.declared.tree.operators.ArithmeticOperator.TheVariants.{Add, Subtract, Multiply, Div, Mod}
use Rattle.tac_code.specs.declared.code.Value.TheVariants.{Number}
use Rattle.tac_code.specs.Numbers.{is_integer}
use Rattle.tac_code.specs.Meaning.{Over, test_ending, fails, gives_computed}
use Rattle.tac_code.specs.declared.code.TheConstants.{NUMBER_LIMIT}
use Rattle.ps_meaning.specs.Values.{OrdinalValue}
use Rattle.ps_meaning.specs.Operators.{Computed, Result, Fault, is_between, is_equal, integer, modulo, compute}
use Rattle.ps_meaning.specs.Worlds.{World, settled}
use Rattle.tac_code_steps.specs.Runs.{step_of, Stops}
use Rattle.tac_code_steps.proofs.Runs.{stops_now}
use Rattle.tac_code_steps.proofs.Temporaries.{put_same}
use Rattle.ps_lower_layout.specs.Paths.{NumberSort}
use Rattle.ps_lower_code.specs.Scopes.{least, greatest}
use Rattle.ps_lower_relation.specs.Here.{Setting, machine_of, code_in, Work, Activated, IsActive, Alive, state, WordIn}
use Rattle.ps_lower_relation.specs.Outcomes.{Runs}
use Rattle.ps_lower_relation.proofs.Numbers.{as_given, between_integers}
use Rattle.ps_lower_constructs.specs.Openings.{Opening, context_in}
use Rattle.ps_lower_constructs.proofs.Runs.{gives_word}

-- the number of an error of the language
abbrev pub IsLanguageError : ℕ → Type 0
IsLanguageError number = (1 ≤ number) × (number ≤ 11)

-- The number 0 is that of a test that can't fail; 12 and 13 are those of stops.
pub ends_by : (number line : ℕ) (calls : List ℕ) → IsLanguageError number → test_ending number line calls
    ≡ failed number line calls
ends_by number line calls l =
    let z : number ≡ 0 → ⊥ = λ e. omega arith in
    let a : number ≡ 12 → ⊥ = λ e. omega arith in
    let b : number ≡ 13 → ⊥ = λ e. omega arith in
    ap (λ t. if t then Stuck else ending_by number line calls) (ne_eqb number 0 z)
    ∙ ap (λ t. if t then Stack line else (if nat_eq number 13 then Heap line else failed number line calls))
    (ne_eqb number 12 a)
    ∙ ap (λ t. if t then Heap line else failed number line calls) (ne_eqb number 13 b)

-- what is computed is an integer, and an error is one of the language
abbrev pub IsWell : Computed → Type 0
IsWell (Result z) = IsTrue (is_integer z)
IsWell (Fault number) = IsLanguageError number

pub integer_well : (z : ℤ) → IsWell (integer z)
integer_well z = go (is_between least z greatest) refl
  where
    go : (b : Bool) → is_between least z greatest ≡ b → IsWell (if b then Result z else Fault 1)
    go true e = sym (between_integers z) ∙ e
    go false e = omega arith

well_if : (b : Bool) (x y : Computed) → IsWell x → IsWell y → IsWell (if b then x else y)
well_if true x y h g = h
well_if false x y h g = g

modulo_well : (x y : ℤ) → IsTrue (is_integer y) → IsWell
    (if int_le y (pos 0) then Fault 3 else Result (modulo x (unsigned_abs y)))
modulo_well x (negsuc n) h = omega arith
modulo_well x (pos zero) h = omega arith
modulo_well (pos i) (pos (suc n)) h = well_if (int_le (pos (suc n)) (pos 0)) (Fault 3) (Result (pos (i % suc n)))
    (omega arith) (let b = ltb-true (suc n) NUMBER_LIMIT h in let m : i % suc n < suc n = mod-lt i {m = suc n}
    (omega arith) in lt-ltb (i % suc n) NUMBER_LIMIT (omega (arith, b, m)))
modulo_well (negsuc i) (pos (suc n)) h = well_if (int_le (pos (suc n)) (pos 0)) (Fault 3)
    (Result (pos (suc n - suc (i % suc n)))) (omega arith)
    (let b = ltb-true (suc n) NUMBER_LIMIT h in lt-ltb (suc n - suc (i % suc n)) NUMBER_LIMIT (omega (arith, b)))

pub compute_well : (op : ArithmeticOperator) (x y : ℤ) → IsTrue (is_integer y) → IsWell (compute op x y)
compute_well Add x y h = integer_well (x +ℤ y)
compute_well Subtract x y h = integer_well (x -ℤ y)
compute_well Multiply x y h = integer_well (x *ℤ y)
compute_well Div x y h = well_if (is_equal y (pos 0)) (Fault 2) (integer (int_div x y)) (omega arith)
    (integer_well (int_div x y))
compute_well Mod x y h = modulo_well x y h

module _ (p : Setting) (n : ℕ) (c : Activated) (active : IsActive p c) where
  -- an error of the language ends both runs
  pub fails_so : (w : World) (k : Work) (pc : ℕ) (number line : ℕ) → IsLanguageError number → step_of (machine_of p)
      (state p c w k pc) ≡ fails (code_in p) number line (state p c w k pc) → Stops (machine_of p) n (state p c w k pc)
      (w.transcript, failed number line c.calls)
  fails_so w k pc number line l h = stops_now n (state p c w k pc) (failed number line c.calls) (λ more. more)
      (h ∙ ap (λ calls. Over (test_ending number line calls)) (active.told pc k.temporaries) ∙ ap Over
      (ends_by number line c.calls l))

  -- a result goes to a temporary, or an error ends the run
  pub settles : (d x : ℕ) (o : Opening) (w : World) (k : Work) (pc pc' t line : ℕ) (r : Computed) → IsWell r → step_of
      (machine_of p) (state p c w k pc) ≡ gives_computed (code_in p) t (as_given r) line (state p c w k pc) → suc pc
      ≡ pc' → d ≤ t → Alive p c w k
      → Runs p n c d x w k pc pc' (settled r line (context_in c o) w)
      (λ v w' k'. WordIn k'.temporaries w'.made t NumberSort v)
  settles d x o w k pc pc' t line (Result z) well h e l alive = gives_word p n c d x w k pc pc' t (Number z)
      (λ w' k'. WordIn k'.temporaries w'.made t NumberSort (OrdinalValue z)) h e l alive (record {
        word = put_same k.temporaries t (Number z);
        fits = well;
      })
  settles d x o w k pc pc' t line (Fault number) well h e l alive = fails_so w k pc number line well h
