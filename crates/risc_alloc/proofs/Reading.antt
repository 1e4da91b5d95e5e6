-- The parts in which the code looks at an instruction are the whole.
use Rattle.std.proofs.Common.{◌≡◌, ℕ, suc, ◌+◌, ◌-◌, ◌<◌, ◌⊎◌, inl, inr, ⊎_elim, Bool, true, false, ◌||◌, nat_eq, List}
use Rattle.std.proofs.Common.{[], ◌∷◌, ◌++◌, length, slice_index, Option, Some, None, refl, sym, ap, ◌∙◌, arith}
use Rattle.std.specs.Option.{option_to_list}
use Rattle.std.proofs.lemmas.Bool.{eqb-true, or_cases, or_right}
use Rattle.tac_code.specs.declared.code.Operand.{Operand}
use Rattle.tac_code.specs.declared.code.Operand.TheVariants as operand
use Rattle.tac_code.specs.declared.code.Base.{Base}
use Rattle.tac_code.specs.declared.code.Base.TheVariants as base
use Rattle.tac_code.specs.declared.code.Instruction.{Instruction}
use Rattle.tac_code.specs.declared.code.Instruction.TheVariants.{Arithmetic, Bits, Compare, Offset, Index, Load, Store}
use Rattle.tac_code.specs.declared.code.Instruction.TheVariants.{LoadByte, StoreByte, Jump, JumpBack, Branch}
use Rattle.tac_code.specs.declared.code.Instruction.TheVariants.{BranchBack, Call, CallValue, Return, Trap, End}
use Rattle.risc_alloc.specs.Flow.{in_operand, in_base, read_by, written_by, is_among, is_it, reads, writes, leads}
use Rattle.risc_alloc.specs.Flow.{gives_to}
use Rattle.risc_alloc.specs.Parts.{in_operand_or_none, in_base_or_none, read_first, read_second, read_passed, is_call}
use Rattle.risc_alloc.specs.Parts.{falls, target_of}
use Rattle.risc_alloc.specs.Windows.{IsIn}

in_operand_is : (b : Operand) → in_operand b ≡ option_to_list (in_operand_or_none b) ++ []
in_operand_is (operand.Temporary t) = refl
in_operand_is (operand.Number z) = refl

in_base_is : (b : Base) → in_base b ≡ option_to_list (in_base_or_none b) ++ []
in_base_is base.Frame = refl
in_base_is base.Scratch = refl
in_base_is base.Program = refl
in_base_is (base.Temporary t) = refl

abbrev together : Option ℕ → Option ℕ → List ℕ → List ℕ
together a b list = option_to_list a ++ (option_to_list b ++ list)

parts_are : (i : Instruction) → read_by i ≡ together (read_first i) (read_second i) (read_passed i)
parts_are (Arithmetic operator t a b error line) = ap (λ (l : List ℕ). a ∷ l) (in_operand_is b)
parts_are (Bits operator t a b) = ap (λ (l : List ℕ). a ∷ l) (in_operand_is b)
parts_are (Compare relation t a b) = ap (λ (l : List ℕ). a ∷ l) (in_operand_is b)
parts_are (Branch relation a b n) = ap (λ (l : List ℕ). a ∷ l) (in_operand_is b)
parts_are (BranchBack relation a b n) = ap (λ (l : List ℕ). a ∷ l) (in_operand_is b)
parts_are (Offset t a n extent) = in_base_is a
parts_are (Index t a i low high width error line) = ap (λ (l : List ℕ). i ∷ l) (in_base_is a)
parts_are (Load t a n) = in_base_is a
parts_are (Store a n b) = ap (λ (l : List ℕ). b ∷ l) (in_base_is a)
parts_are (LoadByte t a n) = in_base_is a
parts_are (StoreByte a n b) = ap (λ (l : List ℕ). b ∷ l) (in_base_is a)
parts_are _ = refl

among_append : (u : ℕ) (xs ys : List ℕ) → is_among u (xs ++ ys) ≡ true → (is_among u xs ≡ true) ⊎ (is_among u ys ≡ true)
among_append u [] ys e = inr e
among_append u (x ∷ xs) ys e =
    ⊎_elim
    (λ (same : nat_eq u x ≡ true). inl (ap (λ (b : Bool). b || is_among u xs) same))
    (λ (rest : is_among u (xs ++ ys) ≡ true).
    ⊎_elim
    (λ (l : is_among u xs ≡ true). inl (or_right (nat_eq u x) (is_among u xs) l))
    (λ (r : is_among u ys ≡ true). inr r)
    (among_append u xs ys rest))
    (or_cases (nat_eq u x) (is_among u (xs ++ ys)) e)

among_some : (u : ℕ) (o : Option ℕ) → is_among u (option_to_list o) ≡ true → o ≡ Some u
among_some u None e = absurd (cc)
among_some u (Some t) e =
    ⊎_elim (λ (same : nat_eq u t ≡ true). ap Some (sym (eqb-true u t same))) (λ (no : false ≡ true). absurd (cc))
    (or_cases (nat_eq u t) false e)

pub among_in : (u : ℕ) (list : List ℕ) → is_among u list ≡ true → IsIn list u
among_in u [] e = absurd (cc)
among_in u (x ∷ xs) e =
    ⊎_elim
    (λ (same : nat_eq u x ≡ true). let lt : 0 < length (x ∷ xs) = omega arith in let at : slice_index (x ∷ xs) 0
    ≡ u = sym (eqb-true u x same) in (0, lt, at))
    (λ (rest : is_among u xs ≡ true). later (among_in u xs rest))
    (or_cases (nat_eq u x) (is_among u xs) e)
  where
    later : IsIn xs u → IsIn (x ∷ xs) u
    later h = let lt : suc h.0 < length (x ∷ xs) = omega (arith, h.1) in (suc h.0, lt, h.2)

pub data ReadAs (i : Instruction) (u : ℕ) : Type 0 where
  First : read_first i ≡ Some u → ReadAs i u
  Second : read_second i ≡ Some u → ReadAs i u
  Passed : IsIn (read_passed i) u → ReadAs i u

pub read_as : (i : Instruction) (u : ℕ) → reads (Some i) u ≡ true → ReadAs i u
read_as i u e =
    let whole : is_among u (together (read_first i) (read_second i) (read_passed i)) ≡ true = sym
    (ap (λ (l : List ℕ). is_among u l) (parts_are i)) ∙ e in
    ⊎_elim
    (λ (first : is_among u (option_to_list (read_first i)) ≡ true). First (among_some u (read_first i) first))
    (λ (rest : is_among u (option_to_list (read_second i) ++ read_passed i) ≡ true).
    ⊎_elim
    (λ (second : is_among u (option_to_list (read_second i)) ≡ true). Second (among_some u (read_second i) second))
    (λ (passed : is_among u (read_passed i) ≡ true). Passed (among_in u (read_passed i) passed))
    (among_append u (option_to_list (read_second i)) (read_passed i) rest))
    (among_append u (option_to_list (read_first i)) (option_to_list (read_second i) ++ read_passed i) whole)

pub it_is : (u : ℕ) (o : Option ℕ) → is_it u o ≡ true → o ≡ Some u
it_is u None e = absurd (cc)
it_is u (Some t) e = ap Some (sym (eqb-true u t e))

pub written_is : (i : Instruction) (t : ℕ) → writes (Some i) t ≡ true → written_by i ≡ Some t
written_is i t e = it_is t (written_by i) e

-- a call writes its result, and leads to the next place
pub record Calls (i : Instruction) (t : ℕ) : Type 0 where
  pub call : is_call i ≡ true
  pub writes : writes (Some i) t ≡ true
  pub falls : falls i ≡ true

pub calls_of : (i : Instruction) (t : ℕ) → gives_to (Some i) t ≡ true → Calls i t
calls_of (Call to r operands line) t e = record { call = refl; writes = e; falls = refl }
calls_of (CallValue to a operands line) t e = record { call = refl; writes = e; falls = refl }
calls_of _ t e = absurd (cc)

one_of : (a b : ℕ) → is_among a (b ∷ []) ≡ true → a ≡ b
one_of a b e =
    ⊎_elim (λ (same : nat_eq a b ≡ true). eqb-true a b same) (λ (no : false ≡ true). absurd (cc))
    (or_cases (nat_eq a b) false e)

two_of : (a b c : ℕ) → is_among a (b ∷ c ∷ []) ≡ true → (a ≡ b) ⊎ (a ≡ c)
two_of a b c e =
    ⊎_elim (λ (same : nat_eq a b ≡ true). inl (eqb-true a b same))
    (λ (rest : is_among a (c ∷ []) ≡ true). inr (one_of a c rest)) (or_cases (nat_eq a b) (is_among a (c ∷ [])) e)

pub data LeadsAs (i : Instruction) (place next : ℕ) : Type 0 where
  Falls : falls i ≡ true → next ≡ suc place → LeadsAs i place next
  Jumps : target_of i place ≡ Some next → LeadsAs i place next

pub leads_as : (i : Instruction) (place next : ℕ) → leads (Some i) place next ≡ true → LeadsAs i place next
leads_as (Jump n) place next e = Jumps (ap Some (sym (one_of next (suc place + n) e)))
leads_as (JumpBack n) place next e = Jumps (ap Some (sym (one_of next (place - n) e)))
leads_as (Branch relation a b n) place next e =
    ⊎_elim (λ (on : next ≡ suc place). Falls refl on) (λ (there : next ≡ suc place + n). Jumps (ap Some (sym there)))
    (two_of next (suc place) (suc place + n) e)
leads_as (BranchBack relation a b n) place next e =
    ⊎_elim (λ (on : next ≡ suc place). Falls refl on) (λ (there : next ≡ place - n). Jumps (ap Some (sym there)))
    (two_of next (suc place) (place - n) e)
leads_as (Return a) place next e = absurd (cc)
leads_as (Trap error line) place next e = absurd (cc)
leads_as End place next e = absurd (cc)
leads_as _ place next e = Falls refl (one_of next (suc place) e)
