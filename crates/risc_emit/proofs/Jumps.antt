-- The places that a body's instructions jump to: one more instruction is marked.
use Rattle.std.proofs.Common.{◌≡◌, ℕ, suc, ◌+◌, ◌≤◌, Bool, List, length, drop, Some, slice_get, sym, ap, ◌∙◌, subst}
use Rattle.std.proofs.Common.{arith}
use Rattle.tac_code.specs.declared.code.Instruction.{Instruction}
use Rattle.risc_emit_forms.specs.Peephole.{jump_of, set_in, marked}
use Rattle.risc_emit.proofs.Rows.{drop_get, drop_past}

pub marked_more : (body : List Instruction) (place : ℕ) (i : Instruction) (marks more all : List Bool)
    → slice_get body place ≡ Some i → more ≡ set_in (jump_of i place) marks → marked (drop place body) place marks ≡ all
    → marked (drop (place + 1) body) (place + 1) more ≡ all
marked_more body place i marks more all here is inv =
    let next : suc place ≡ place + 1 = omega arith in
    subst (λ (n : ℕ). marked (drop n body) n more ≡ all) next
    (ap (λ (l : List Bool). marked (drop (suc place) body) (suc place) l) is ∙ sym
    (ap (λ (l : List Instruction). marked l place marks) (drop_get body place i here)) ∙ inv)

pub marked_all : (body : List Instruction) (place : ℕ) (marks all : List Bool) → length body ≤ place → marked
    (drop place body) place marks ≡ all → marks ≡ all
marked_all body place marks all past inv =
    sym (ap (λ (l : List Instruction). marked l place marks) (drop_past body place past)) ∙ inv
