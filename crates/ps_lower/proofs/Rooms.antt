-- A jump in the room that was left for it.
use Rattle.std.proofs.Common.{◌≡◌, ℕ, ◌-◌, List, ◌∷◌, ◌++◌, length, slice_set, ap, ◌∙◌, arith, length-append}
use Rattle.std.proofs.Math.Seq.{set-append_seam}
use Rattle.tac_code.specs.declared.code.Instruction.{Instruction}

pub set_room : (jump : ℕ → Instruction) (before behind : List Instruction) (filler : Instruction)
    (list : List Instruction) (place n : ℕ) → list ≡ before ++ filler ∷ behind → place ≡ length before → n ≡ length list
    → slice_set list place (jump (n - place - 1)) ≡ before ++ jump (length behind) ∷ behind
set_room jump before behind filler list place n e p q =
    let k : n - place - 1 ≡ length behind = omega (arith, length-append before (filler ∷ behind), ap length e) in
    ap (λ m. slice_set list place (jump m)) k ∙ ap (λ l. slice_set l place (jump (length behind))) e
    ∙ ap (λ m. slice_set (before ++ filler ∷ behind) m (jump (length behind))) p ∙ set-append_seam before filler behind
    (jump (length behind))
