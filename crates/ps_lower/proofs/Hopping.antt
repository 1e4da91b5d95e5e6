-- The code that reaches the frames of the routines enclosing a routine.
use Rattle.std.proofs.Common.{◌≡◌, ℕ, zero, suc, ◌-◌, ◌<◌, ◌≤◌, true, false, if◌then◌else◌, List, [], ◌∷◌, ◌++◌}
use Rattle.std.proofs.Common.{Result, OnOk, refl, sym, ap, subst, ◌∙◌, append_assoc, arith}
use Rattle.std.proofs.lemmas.List.{append-nil}
use Rattle.tac_code.specs.declared.code.Base.TheVariants as base
use Rattle.tac_code.specs.declared.code.Instruction.{Instruction}
use Rattle.tac_code.specs.declared.code.Instruction.TheVariants as i
use Rattle.ps_lower_code.specs.Scopes.{Scope, is_outermost, hops, hops_in_turns, is_far, way_out, frame_code}
use Rattle.ps_lower_code.specs.Scopes.{frame_base, link_code}
use Rattle.ps_lower.proofs.Appends.{and_then, unchanged}
use Rattle.ps_lower.proofs.Arms.{behind}

abbrev pub again : (a n : ℕ) → List Instruction
again a zero = []
again a (suc n) = i.Load a (base.Temporary a) 0 ∷ again a n

-- each link is at the beginning of its frame
pub hops_again : (k : Scope) (a level n : ℕ) → hops k a level n ≡ again a n
hops_again k a level zero = refl
hops_again k a level (suc n) = ap (λ l. i.Load a (base.Temporary a) 0 ∷ l) (hops_again k a (suc level) n)

pub record Hopped (a count : ℕ) (start : List Instruction) (n : ℕ) (now : List Instruction) : Type 0 where
  pub left : now ++ again a (count - n) ≡ start ++ again a count

pub hopped_start : (a count : ℕ) (start : List Instruction) → Hopped a count start 0 start
hopped_start a count start = record { left = let j : count - 0 ≡ count = omega arith in ap (λ y. start ++ again a y) j }

pub hopped_next : (a count : ℕ) (start : List Instruction) (n m : ℕ) (now next : List Instruction) → n < count → m
    ≡ suc n → Hopped a count start n now → next ≡ now ++ i.Load a (base.Temporary a) 0 ∷ []
    → Hopped a count start m next
hopped_next a count start n m now next h is s e = record {
  left =
      ap (λ o. o ++ again a (count - m)) e
      ∙ append_assoc now (i.Load a (base.Temporary a) 0 ∷ []) (again a (count - m))
      ∙ (let j : suc (count - m) ≡ count - n = omega (arith, is) in ap (λ y. now ++ again a y) j)
      ∙ s.left;
}

pub hopped_all : (k : Scope) (a count : ℕ) (start : List Instruction) (n : ℕ) (now : List Instruction) → count ≤ n
    → Hopped a count start n now → now ≡ start ++ hops k a 1 count
hopped_all k a count start n now h s =
    sym (append-nil now)
    ∙ (let j : 0 ≡ count - n = omega arith in ap (λ y. now ++ again a y) j)
    ∙ s.left ∙ ap (λ l. start ++ l) (sym (hops_again k a 1 count))

-- ---- by what is shorter

pub far_way : {X E : Type 0} (k : Scope) (a count : ℕ) (r : Result X E) (old new : List Instruction) → true
    ≡ is_far count → OnOk r (new ≡ old ++ hops_in_turns k a count) → OnOk r (new ≡ old ++ way_out k a count)
far_way k a count r old new e h = subst
    (λ b. OnOk r (new ≡ old ++ (if b then hops_in_turns k a count else hops k a 1 count))) e h

pub near_way : {X E : Type 0} (k : Scope) (a count : ℕ) (r : Result X E) (old new : List Instruction) → false
    ≡ is_far count → OnOk r (new ≡ old ++ hops k a 1 count) → OnOk r (new ≡ old ++ way_out k a count)
near_way k a count r old new e h = subst
    (λ b. OnOk r (new ≡ old ++ (if b then hops_in_turns k a count else hops k a 1 count))) e h

-- ---- the frame this many levels up

pub own_code : (k : Scope) (a up : ℕ) (old : List Instruction) → up ≡ 0 → old ≡ old ++ frame_code k a up
own_code k a up old e = unchanged old ∙ ap (λ n. old ++ frame_code k a n) (sym e)

pub own_base : (k : Scope) (a up : ℕ) → up ≡ 0 → base.Frame ≡ frame_base k a up
own_base k a up e = ap (λ n. frame_base k a n) (sym e)

pub outer_code : (k : Scope) (a up : ℕ) (old : List Instruction) → ¬ (up ≡ 0) → true ≡ is_outermost k up → old ≡ old
    ++ frame_code k a up
outer_code k a zero old h e = absurd (h refl)
outer_code k a (suc up) old h e = unchanged old
    ∙ ap (λ b. old ++ (if b then [] else (i.Load a base.Frame 0 ∷ way_out k a up))) e

pub outer_base : (k : Scope) (a up : ℕ) → ¬ (up ≡ 0) → true ≡ is_outermost k up → base.Program ≡ frame_base k a up
outer_base k a zero h e = absurd (h refl)
outer_base k a (suc up) h e = ap (λ b. if b then base.Program else base.Temporary a) e

pub between_code : (k : Scope) (a up less : ℕ) (old middle new : List Instruction) → ¬ (up ≡ 0) → false
    ≡ is_outermost k up → less ≡ up - 1 → middle ≡ old ++ i.Load a base.Frame 0 ∷ [] → new ≡ middle ++ way_out k a less
    → new ≡ old ++ frame_code k a up
between_code k a zero less old middle new h e l p q = absurd (h refl)
between_code k a (suc up) less old middle new h e l p q =
    and_then old middle new (i.Load a base.Frame 0 ∷ []) (way_out k a less) p q
    ∙ (let j : less ≡ up = omega (arith, l) in ap (λ n. old ++ i.Load a base.Frame 0 ∷ way_out k a n) j)
    ∙ ap (λ b. old ++ (if b then [] else (i.Load a base.Frame 0 ∷ way_out k a up))) e

pub between_base : (k : Scope) (a up : ℕ) → ¬ (up ≡ 0) → false ≡ is_outermost k up → base.Temporary a
    ≡ frame_base k a up
between_base k a zero h e = absurd (h refl)
between_base k a (suc up) h e = ap (λ b. if b then base.Program else base.Temporary a) e

-- ---- its address

pub own_link : {X E : Type 0} (k : Scope) (a up : ℕ) (r : Result X E) (old new : List Instruction) → up ≡ 0 → OnOk r
    (new ≡ old ++ i.Offset a base.Frame 0 0 ∷ []) → OnOk r (new ≡ old ++ link_code k a up)
own_link k a up r old new e h = subst (λ n. OnOk r (new ≡ old ++ link_code k a n)) (sym e) h

pub outer_link : {X E : Type 0} (k : Scope) (a up : ℕ) (r : Result X E) (old new : List Instruction) → ¬ (up ≡ 0) → true
    ≡ is_outermost k up → OnOk r (new ≡ old ++ i.Offset a base.Program 0 0 ∷ []) → OnOk r
    (new ≡ old ++ link_code k a up)
outer_link k a zero r old new h e p = absurd (h refl)
outer_link k a (suc up) r old new h e p = subst
    (λ b. OnOk r (new ≡ old ++ (if b then i.Offset a base.Program 0 0 ∷ []
    else (i.Load a base.Frame 0 ∷ way_out k a up)))) e p

pub between_link : {X E : Type 0} (k : Scope) (a up less : ℕ) (r : Result X E) (old middle new : List Instruction) → ¬
    (up ≡ 0) → false ≡ is_outermost k up → less ≡ up - 1 → middle ≡ old ++ i.Load a base.Frame 0 ∷ [] → OnOk r
    (new ≡ middle ++ way_out k a less) → OnOk r (new ≡ old ++ link_code k a up)
between_link k a zero less r old middle new h e l p q = absurd (h refl)
between_link k a (suc up) less r old middle new h e l p q =
    subst (λ b. OnOk r (new ≡ old ++ (if b then i.Offset a base.Program 0 0 ∷ []
    else (i.Load a base.Frame 0 ∷ way_out k a up)))) e
    (let j : less ≡ up = omega (arith, l) in
    subst (λ n. OnOk r (new ≡ old ++ i.Load a base.Frame 0 ∷ way_out k a n)) j
    (behind r new middle old (i.Load a base.Frame 0 ∷ []) (way_out k a less) p q))
