-- What the parts of a step back say of the step.
use Rattle.std.proofs.Common.{◌≡◌, ◌≢◌, ℕ, ◌<◌, true, false, List, length, get_or, slice_get, Option, Some, None}
use Rattle.std.proofs.Common.{IfSome, refl, sym, ◌∙◌, subst}
use Rattle.std.proofs.lemmas.Bool.{eq-eqb}
use Rattle.std.proofs.lemmas.Option.{slice_get_read}
use Rattle.tac_code.specs.declared.code.Instruction.{Instruction}
use Rattle.risc_alloc.specs.declared.flow.Exit.{Exit}
use Rattle.risc_alloc.specs.declared.claims.Claims.{Claims}
use Rattle.risc_alloc.specs.declared.window.Window.{Window}
use Rattle.risc_alloc.specs.Flow.{written_by, is_it, writes}
use Rattle.risc_alloc.specs.Parts.{read_first, read_second, read_passed, is_call, IsExit}
use Rattle.risc_alloc.specs.Windows.{Held, IsHeldHere, Keeps, KeepsBut, IsIn, IsFreeFor, IsEmptyBut}
use Rattle.risc_alloc.specs.Walk.{IsClaimHeld, Flows, Writes, Reads, Step}
use Rattle.risc_alloc.proofs.Reading.{ReadAs, First, Second, Passed, read_as, written_is, calls_of}

some_of : (P : ℕ → Type 0) (o : Option ℕ) (t : ℕ) → o ≡ Some t → IfSome o P → P t
some_of P None t e h = absurd (cc)
some_of P (Some x) t e h = let same : x ≡ t = cc in subst P same h

pub flows_of : (window : Window) (claims : Claims) (i : Instruction) (place : ℕ) (exit : Exit)
    (next fallen out : List ℕ) → IsExit i place exit → (exit.falls ≡ true → fallen ≡ next) → Keeps window fallen out
    → IfSome exit.target (IsClaimHeld window claims out) → Flows window claims i place next out
flows_of window claims i place exit next fallen out is same kept claimed = record {
  falls = λ e u h. kept u (subst (λ (l : List ℕ). Held window l u) (sym (same (is.falls ∙ e))) h);
  jumps = λ target e. some_of (IsClaimHeld window claims out) exit.target target (is.target ∙ e) claimed;
}

pub writes_none : (window : Window) (i : Instruction) (out : List ℕ) → written_by i ≡ None → Writes window i out out
writes_none window i out none = record {
  free = λ t e. absurd (no t e);
  called = λ t e. absurd (no t (calls_of i t e).writes);
  kept = λ u e h. h;
}
  where
    no : (t : ℕ) → writes (Some i) t ≡ true → ⊥
    no t e = let some : written_by i ≡ Some t = written_is i t e in cc

pub writes_some : (window : Window) (i : Instruction) (to : ℕ) (out left : List ℕ) → written_by i ≡ Some to
    → (is_call i ≡ true → window.registers ≡ true → IsEmptyBut window out to) → IsFreeFor window out to
    → KeepsBut window to out left → Writes window i out left
writes_some window i to out left is slots free kept = record {
  free = λ t e. subst (IsFreeFor window out) (it t e) free;
  called = λ t e. λ r. subst (IsEmptyBut window out) (it t (calls_of i t e).writes) (slots (calls_of i t e).call r);
  kept = λ u e h. kept u (other u e) h;
}
  where
    it : (t : ℕ) → writes (Some i) t ≡ true → to ≡ t
    it t e = let some : written_by i ≡ Some t = written_is i t e in cc

    other : (u : ℕ) → writes (Some i) u ≡ false → u ≢ to
    other u e same =
        let yes : is_it u (written_by i) ≡ true = subst (λ (o : Option ℕ). is_it u o ≡ true) (sym is) (eq-eqb u to same)
        in let bad : true ≡ false = sym yes ∙ e in cc

pub reads_of : (window : Window) (i : Instruction) (first second : Option ℕ) (passed a b c d : List ℕ) → first
    ≡ read_first i → second ≡ read_second i → passed ≡ read_passed i → Keeps window a b → IfSome first
    (IsHeldHere window b) → Keeps window b c → IfSome second (IsHeldHere window c) → Keeps window c d
    → ((u : ℕ) → IsIn passed u → IsHeldHere window d u) → Reads window i a d
reads_of window i first second passed a b c d is_first is_second is_passed ab in_b bc in_c cd in_d = record {
  read = λ u e. go u (read_as i u e);
  kept = λ u h. cd u (bc u (ab u h));
}
  where
    go : (u : ℕ) → ReadAs i u → IsHeldHere window d u
    go u (First e) = λ here. cd u (bc u (some_of (IsHeldHere window b) first u (is_first ∙ e) in_b here))
    go u (Second e) = λ here. cd u (some_of (IsHeldHere window c) second u (is_second ∙ e) in_c here)
    go u (Passed h) = in_d u (subst (λ (l : List ℕ). IsIn l u) (sym is_passed) h)

-- the instruction is the one at a place of a body
pub step_at : (window : Window) (claims : Claims) (body : List Instruction) (i at : Instruction) (place : ℕ)
    (next out left table : List ℕ) → place < length body → i ≡ get_or body place i
    → Flows window claims i place next out → Writes window i out left → Reads window i left table → slice_get body place
    ≡ Some at → Step window claims at place next table
step_at window claims body i at place next out left table lt is f w r e =
    let here : slice_get body place ≡ Some i = slice_get_read body (length body) place i refl lt is in
    let same : i ≡ at = cc (sym here ∙ e) in
    subst (λ (j : Instruction). Step window claims j place next table) same (record {
      out = out;
      left = left;
      flows = f;
      writes = w;
      reads = r;
    })

pub some_is : (P : ℕ → Type 0) (o : Option ℕ) (t : ℕ) → o ≡ Some t → P t → IfSome o P
some_is P o t e h = subst (λ (x : Option ℕ). IfSome x P) (sym e) h
