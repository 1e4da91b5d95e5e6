-- What is read, written and alive in a body that adds a call's result to a parameter, and tries again while that is 0.
use Rattle.std.proofs.Common.{◌≡◌, ℕ, true, false, List, [], ◌∷◌, slice_get, Option, pos, refl}
use Rattle.tac_code.specs.declared.code.Operator.TheVariants.{Add}
use Rattle.tac_code.specs.declared.code.Relation.TheVariants.{Equal}
use Rattle.tac_code.specs.declared.code.Operand.TheVariants as operand
use Rattle.tac_code.specs.declared.code.Instruction.{Instruction}
use Rattle.tac_code.specs.declared.code.Instruction.TheVariants.{Call, Arithmetic, BranchBack, Return}
use Rattle.risc_alloc.specs.declared.homes.Home.TheVariants.{Slot, Reg}
use Rattle.risc_alloc.specs.Flow.{reads, writes, leads, comes_back}
use Rattle.risc_alloc.specs.Alive.{Alive, Used, Passed}
use Rattle.risc_alloc.specs.Homes.{home_in}

body : List Instruction
body =
    Call 1 2 [] 5 ∷ Arithmetic Add 2 0 (operand.Temporary 1) 6 5 ∷ BranchBack Equal 2 (operand.Number (pos 0)) 2
    ∷ Return 2 ∷ []

at : ℕ → Option Instruction
at place = slice_get body place

both_operands_are_read : (reads (at 1) 0 ≡ true) × (reads (at 1) 1 ≡ true) × (reads (at 1) 2 ≡ false)
unfolding at body
both_operands_are_read = (refl, refl, refl)

a_sum_is_written : (writes (at 1) 2 ≡ true) × (writes (at 2) 2 ≡ false)
unfolding at body
a_sum_is_written = (refl, refl)

a_branch_leads_on_and_back : (leads (at 2) 2 3 ≡ true) × (leads (at 2) 2 0 ≡ true) × (leads (at 3) 3 4 ≡ false)
unfolding at body
a_branch_leads_on_and_back = (refl, refl, refl)

a_call_comes_back : (comes_back at 1 1 ≡ true) × (comes_back at 1 0 ≡ false) × (comes_back at 2 2 ≡ false)
    × (comes_back at 0 0 ≡ false)
unfolding at body
a_call_comes_back = (refl, refl, refl, refl)

-- The parameter is alive across the call, and after the sum, since the branch goes back.
a_parameter_is_alive : Alive at 1 0
unfolding at body
a_parameter_is_alive = Used 1 0 refl

it_is_alive_at_the_branch : Alive at 2 0
unfolding at body
it_is_alive_at_the_branch = Passed 2 0 0 refl refl (Passed 0 1 0 refl refl a_parameter_is_alive)

-- the first routine has two temporaries
a_home_is_found : (home_in (Slot 0 ∷ Reg 3 ∷ []) 1 ≡ Reg 3) × (home_in (Slot 0 ∷ Reg 3 ∷ []) 2 ≡ Reg 0)
a_home_is_found = (refl, refl)
