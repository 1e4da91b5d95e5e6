-- Addresses, sums and words that are computed or loaded again, by the definitions: where the holder stays, where it is
-- written, behind a jump, and behind a store.
use Rattle.std.proofs.Common.{◌≡◌, ℕ, pos, refl, List, [], ◌∷◌}
use Rattle.tac_code.specs.declared.code.Base.TheVariants as base
use Rattle.tac_code.specs.declared.code.Operand.TheVariants as operand
use Rattle.tac_code.specs.declared.code.Operator.TheVariants.{Add, Subtract}
use Rattle.tac_code.specs.declared.code.Instruction.{Instruction}
use Rattle.tac_code.specs.declared.code.Instruction.TheVariants.{Copy, Arithmetic, Branch, Index, Load, Store, Take}
use Rattle.tac_code.specs.declared.code.Instruction.TheVariants.{End}
use Rattle.tac_code.specs.declared.code.Relation.TheVariants.{Equal}
use Rattle.tac_known.specs.declared.again.Fact.TheVariants.{Pointed, Summed, Loaded}
use Rattle.tac_known.specs.declared.again.Facts.{Facts}
use Rattle.tac_known.specs.declared.again.marks.Mark.{Mark}
use Rattle.tac_known.specs.declared.again.marks.Mark.TheVariants.{Clear, Once, Often}
use Rattle.tac_known.specs.Again.{no_facts, component, total, word, again, standing_at}

-- the component with the index in temporary 0, of ten words at the begin of the frame
abbrev indexed : ℕ → Instruction
indexed t = Index t base.Frame 0 (pos 1) (pos 10) 4 5 1

abbrev held_at : List Mark → List Instruction → ℕ → Facts
held_at marks body place = (standing_at marks body place).facts

abbrev no_jumps : List Mark
no_jumps = Clear ∷ Clear ∷ Clear ∷ Clear ∷ Clear ∷ Clear ∷ []

abbrev jump_to_three : List Mark
jump_to_three = Clear ∷ Clear ∷ Clear ∷ Often ∷ Clear ∷ Clear ∷ []

-- what is loaded goes to another temporary than the address'
abbrev kept : List Instruction
kept = Take 0 ∷ indexed 1 ∷ Load 2 (base.Temporary 1) 0 ∷ indexed 3 ∷ Store (base.Temporary 3) 4 2 ∷ End ∷ []

-- or to that one
abbrev overwritten : List Instruction
overwritten = Take 0 ∷ indexed 1 ∷ Load 1 (base.Temporary 1) 0 ∷ indexed 3 ∷ Store (base.Temporary 3) 4 1 ∷ End ∷ []

held_there : held_at no_jumps kept 3 ≡ record no_facts {
  first = Loaded (word 2 (base.Temporary 1) 0);
  second = Pointed (component 1 base.Frame 0 (pos 1) (pos 10) 4);
}
held_there = refl

copied_there : again (held_at no_jumps kept 3) (indexed 3) ≡ Copy 3 1
copied_there = refl

-- the first one goes on holding it
held_behind_it : held_at no_jumps kept 4 ≡ held_at no_jumps kept 3
held_behind_it = refl

-- the word is known yet, but not behind the store
loaded_there : again (held_at no_jumps kept 3) (Load 5 (base.Temporary 1) 0) ≡ Copy 5 2
loaded_there = refl

not_another_word : again (held_at no_jumps kept 3) (Load 5 (base.Temporary 1) 4) ≡ Load 5 (base.Temporary 1) 4
not_another_word = refl

not_behind_a_store : again (held_at no_jumps kept 5) (Load 5 (base.Temporary 1) 0) ≡ Load 5 (base.Temporary 1) 0
not_behind_a_store = refl

not_where_written : again (held_at no_jumps overwritten 3) (indexed 3) ≡ indexed 3
not_where_written = refl

not_where_jumps_lead : again (held_at jump_to_three kept 3) (indexed 3) ≡ indexed 3
not_where_jumps_lead = refl

-- the same base and index, but components of another width
not_of_another_width : again (held_at no_jumps kept 3) (Index 3 base.Frame 0 (pos 1) (pos 10) 8 5 1)
    ≡ Index 3 base.Frame 0 (pos 1) (pos 10) 8 5 1
not_of_another_width = refl

-- ---- sums, and what is counted from them

-- the number in a temporary and one more
abbrev next : ℕ → ℕ → Instruction
next t a = Arithmetic Add t a (operand.Number (pos 1)) 1 1

-- the component behind the index is loaded and stored
abbrev twice : List Instruction
twice =
    Take 0 ∷ next 1 0 ∷ Index 2 base.Frame 1 (pos 1) (pos 10) 4 5 1 ∷ Load 3 (base.Temporary 2) 0 ∷ next 1 0
    ∷ Index 2 base.Frame 1 (pos 1) (pos 10) 4 5 1 ∷ Store (base.Temporary 2) 0 3 ∷ End ∷ []

all_held_there : held_at [] twice 4 ≡ record no_facts {
  first = Loaded (word 3 (base.Temporary 2) 0);
  second = Pointed (component 2 base.Frame 1 (pos 1) (pos 10) 4);
  third = Summed (total Add 1 0 (operand.Number (pos 1)) 1);
}
all_held_there = refl

-- the sum stands where it stood, so that the address is known yet
sum_there : again (held_at [] twice 4) (next 1 0) ≡ Copy 1 1
sum_there = refl

all_held : held_at [] twice 5 ≡ held_at [] twice 4
all_held = refl

address_there : again (held_at [] twice 5) (Index 2 base.Frame 1 (pos 1) (pos 10) 4 5 1) ≡ Copy 2 2
address_there = refl

-- the same operands, but not their sum
not_the_difference : again (held_at [] twice 4) (Arithmetic Subtract 1 0 (operand.Number (pos 1)) 1 1)
    ≡ Arithmetic Subtract 1 0 (operand.Number (pos 1)) 1 1
not_the_difference = refl

-- ---- over the only jump to a place

-- one way loads the component, and so does the other one
abbrev either : List Instruction
either =
    Take 0 ∷ indexed 1 ∷ Load 2 (base.Temporary 1) 0 ∷ Branch Equal 2 (operand.Number (pos 0)) 1 ∷ End
    ∷ Load 3 (base.Temporary 1) 0 ∷ End ∷ []

abbrev only_three : List Mark
only_three = Clear ∷ Clear ∷ Clear ∷ Clear ∷ Clear ∷ Once 3 ∷ Clear ∷ []

known_where_it_leads : held_at only_three either 5 ≡ held_at only_three either 3
known_where_it_leads = refl

loaded_where_it_leads : again (held_at only_three either 5) (Load 3 (base.Temporary 1) 0) ≡ Copy 3 2
loaded_where_it_leads = refl
