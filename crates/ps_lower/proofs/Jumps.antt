-- Jumps over code that is made before their distance is known.
use Rattle.std.proofs.Common.{◌≡◌, ℕ, suc, ◌+◌, ◌-◌, List, [], ◌∷◌, ◌++◌, length, Result, OnOk, sym, ap, ◌∙◌}
use Rattle.std.proofs.Common.{append_assoc, arith, length-append}
use Rattle.std.specs.Prelude.{Ok, Err}
use Rattle.tac_code.specs.declared.code.Operand.{Operand}
use Rattle.tac_code.specs.declared.code.Relation.{Relation}
use Rattle.tac_code.specs.declared.code.Instruction.{Instruction}
use Rattle.tac_code.specs.declared.code.Instruction.TheVariants as i

-- what fills a room
abbrev pub Fills : (list : List Instruction) (place : ℕ) (new : List Instruction) (jump : ℕ → Instruction) → Type 0
Fills list place new jump = (before : List Instruction) (filler : Instruction) (behind : List Instruction) → list
    ≡ before ++ filler ∷ behind → place ≡ length before → new ≡ before ++ jump (length behind) ∷ behind

-- after code f a jump past code s
pub jump_past : (o0 o1 o2 o3 o4 f s : List Instruction) (filler : Instruction) (place : ℕ) (jump : ℕ → Instruction) → o1
    ≡ o0 ++ f → o2 ≡ o1 ++ filler ∷ [] → place ≡ length o1 → o3 ≡ o2 ++ s → Fills o3 place o4 jump → o4 ≡ o0
    ++ (f ++ jump (length s) ∷ s)
jump_past o0 o1 o2 o3 o4 f s filler place jump e1 e2 p e3 fills =
    fills o1 filler s (e3 ∙ ap (λ o. o ++ s) e2 ∙ append_assoc o1 (filler ∷ []) s) p
    ∙ ap (λ o. o ++ jump (length s) ∷ s) e1 ∙ append_assoc o0 f (jump (length s) ∷ s)

-- the same, with room for another jump after s
pub jump_past_room : (o0 o1 o2 o3 o4 o5 f s : List Instruction) (filler room : Instruction) (place : ℕ)
    (jump : ℕ → Instruction) → o1 ≡ o0 ++ f → o2 ≡ o1 ++ filler ∷ [] → place ≡ length o1 → o3 ≡ o2 ++ s → o4 ≡ o3
    ++ room ∷ [] → Fills o4 place o5 jump → o5 ≡ (o0 ++ (f ++ jump (suc (length s)) ∷ s)) ++ room ∷ []
jump_past_room o0 o1 o2 o3 o4 o5 f s filler room place jump e1 e2 p e3 e4 fills =
    let n : length (s ++ room ∷ []) ≡ suc (length s) = omega (arith, length-append s (room ∷ [])) in
    fills o1 filler (s ++ room ∷ []) (e4 ∙ ap (λ o. o ++ room ∷ [])
    (e3 ∙ ap (λ o. o ++ s) e2 ∙ append_assoc o1 (filler ∷ []) s) ∙ append_assoc o1 (filler ∷ s) (room ∷ [])) p
    ∙ ap (λ m. o1 ++ jump m ∷ (s ++ room ∷ [])) n
    ∙ sym (append_assoc o1 (jump (suc (length s)) ∷ s) (room ∷ []))
    ∙ ap (λ o. (o ++ jump (suc (length s)) ∷ s) ++ room ∷ []) e1
    ∙ ap (λ o. o ++ room ∷ []) (append_assoc o0 f (jump (suc (length s)) ∷ s))

-- where that room is
pub room_behind : (o0 o1 o2 o3 f s : List Instruction) (filler x : Instruction) (place : ℕ) → o1 ≡ o0 ++ f → o2 ≡ o1
    ++ filler ∷ [] → o3 ≡ o2 ++ s → place ≡ length o3 → place ≡ length (o0 ++ (f ++ x ∷ s))
room_behind o0 o1 o2 o3 f s filler x place e1 e2 e3 p =
    let a : length o1 ≡ length o0 + length f = ap length e1 ∙ length-append o0 f in
    let b : length o2 ≡ length o1 + 1 = ap length e2 ∙ length-append o1 (filler ∷ []) in
    let c : length o3 ≡ length o2 + length s = ap length e3 ∙ length-append o2 s in
    let d : length (o0 ++ (f ++ x ∷ s)) ≡ length o0 + length (f ++ x ∷ s) = length-append o0 (f ++ x ∷ s) in
    let g : length (f ++ x ∷ s) ≡ length f + suc (length s) = length-append f (x ∷ s) in
    omega arith

-- and the jump in it
pub jump_behind : (o0 o1 o2 o3 f s t : List Instruction) (x room : Instruction) (place : ℕ) (jump : ℕ → Instruction)
    → o1 ≡ (o0 ++ (f ++ x ∷ s)) ++ room ∷ [] → place ≡ length (o0 ++ (f ++ x ∷ s)) → o2 ≡ o1 ++ t
    → Fills o2 place o3 jump → o3 ≡ o0 ++ ((f ++ x ∷ s) ++ jump (length t) ∷ t)
jump_behind o0 o1 o2 o3 f s t x room place jump e1 p e2 fills =
    fills (o0 ++ (f ++ x ∷ s)) room t (e2 ∙ ap (λ o. o ++ t) e1 ∙ append_assoc (o0 ++ (f ++ x ∷ s)) (room ∷ []) t) p
    ∙ append_assoc o0 (f ++ x ∷ s) (jump (length t) ∷ t)

-- a way back over code s and f
pub back_over : {X E : Type 0} (r : Result X E) (o0 o1 o2 o3 s f : List Instruction) (begin : ℕ)
    (jump : ℕ → Instruction) → begin ≡ length o0 → o1 ≡ o0 ++ s → o2 ≡ o1 ++ f → OnOk r
    (o3 ≡ o2 ++ jump (length o2 - begin) ∷ []) → OnOk r (o3 ≡ o0 ++ ((s ++ f) ++ jump (length s + length f) ∷ []))
back_over (Err e) o0 o1 o2 o3 s f begin jump p e1 e2 h = h
back_over (Ok v) o0 o1 o2 o3 s f begin jump p e1 e2 h =
    let a : length o1 ≡ length o0 + length s = ap length e1 ∙ length-append o0 s in
    let b : length o2 ≡ length o1 + length f = ap length e2 ∙ length-append o1 f in
    let n : length o2 - begin ≡ length s + length f = omega arith in
    h ∙ ap (λ m. o2 ++ jump m ∷ []) n
    ∙ ap (λ o. o ++ jump (length s + length f) ∷ []) (e2 ∙ ap (λ o. o ++ f) e1 ∙ append_assoc o0 s f)
    ∙ append_assoc o0 (s ++ f) (jump (length s + length f) ∷ [])

-- the same, with a jump before s past s
pub back_from_test : {X E : Type 0} (r : Result X E) (o0 o1 o2 o3 o4 o5 s f : List Instruction) (filler : Instruction)
    (place begin : ℕ) (first jump : ℕ → Instruction) → o1 ≡ o0 ++ filler ∷ [] → place ≡ length o0 → begin ≡ length o1
    → o2 ≡ o1 ++ s → Fills o2 place o3 first → o4 ≡ o3 ++ f → OnOk r (o5 ≡ o4 ++ jump (length o4 - begin) ∷ []) → OnOk r
    (o5 ≡ o0 ++ first (length s) ∷ ((s ++ f) ++ jump (length s + length f) ∷ []))
back_from_test (Err e) o0 o1 o2 o3 o4 o5 s f filler place begin first jump e1 p q e2 fills e4 h = h
back_from_test (Ok v) o0 o1 o2 o3 o4 o5 s f filler place begin first jump e1 p q e2 fills e4 h =
    let k : o3 ≡ o0 ++ first (length s) ∷ s = fills o0 filler s
    (e2 ∙ ap (λ o. o ++ s) e1 ∙ append_assoc o0 (filler ∷ []) s) p in
    let a : length o1 ≡ length o0 + 1 = ap length e1 ∙ length-append o0 (filler ∷ []) in
    let b : length o3 ≡ length o0 + suc (length s) = ap length k ∙ length-append o0 (first (length s) ∷ s) in
    let c : length o4 ≡ length o3 + length f = ap length e4 ∙ length-append o3 f in
    let n : length o4 - begin ≡ length s + length f = omega arith in
    h ∙ ap (λ m. o4 ++ jump m ∷ []) n
    ∙ ap (λ o. o ++ jump (length s + length f) ∷ [])
    (e4 ∙ ap (λ o. o ++ f) k ∙ append_assoc o0 (first (length s) ∷ s) f)
    ∙ append_assoc o0 (first (length s) ∷ (s ++ f)) (jump (length s + length f) ∷ [])

-- one branch by other names
pub branch_told : (r r' : Relation) (l l' : ℕ) (q q' : Operand) (n : ℕ) → r ≡ r' → l ≡ l' → q ≡ q' → i.Branch r l q n
    ≡ i.Branch r' l' q' n
branch_told r r' l l' q q' n e f g = cc

pub back_told : (r r' : Relation) (l l' : ℕ) (q q' : Operand) (n : ℕ) → r ≡ r' → l ≡ l' → q ≡ q' → i.BranchBack r l q n
    ≡ i.BranchBack r' l' q' n
back_told r r' l l' q q' n e f g = cc
