-- The parts of `case` statements.
use Rattle.std.specs.Prelude.{ℕ, zero, suc, ◌+◌, ℤ, List, [], ◌∷◌, ◌++◌, length}
use Rattle.ps_tree.specs.Tree.{Statement, Elements, no_element, element_before}
use Rattle.tac_code.specs.declared.code.Operand.TheVariants as operand
use Rattle.tac_code.specs.declared.code.Relation.TheVariants.{Equal, NotEqual}
use Rattle.tac_code.specs.declared.code.Instruction.{Instruction}
use Rattle.tac_code.specs.declared.code.Instruction.TheVariants as i
use Rattle.ps_lower_code.specs.Scopes.{Scope}
use Rattle.ps_lower_code.specs.Statements.{tests_code, statement_code}

-- the test of a constant that `others` others follow
abbrev pub test_code : ℤ → (others d : ℕ) → List Instruction
test_code n zero d = []
test_code n (suc others) d = i.Branch Equal d (operand.Number n) (suc others) ∷ []

-- the tests of all constants but the last, and the last one's, which skips `past` instructions
abbrev pub first_tests : List ℤ → (d : ℕ) → List Instruction
first_tests [] d = []
first_tests (n ∷ rest) d = test_code n (length rest) d ++ first_tests rest d

abbrev pub last_test : List ℤ → (d past : ℕ) → Instruction
last_test [] d past = i.Jump past
last_test (n ∷ []) d past = i.Branch NotEqual d (operand.Number n) past
last_test (n ∷ m ∷ rest) d past = last_test (m ∷ rest) d past

-- an element up to its end, where the jump out is
abbrev pub element_code : Scope → List ℤ → Statement → (d : ℕ) → List Instruction
element_code k constants s d = tests_code constants d (suc (length (statement_code k s d))) ++ statement_code k s d

-- elements, with rooms for the jumps out, and where those rooms are
abbrev pub open_elements : Scope → Elements → (d : ℕ) → List Instruction
open_elements k no_element d = []
open_elements k (element_before constants s rest) d = (element_code k constants s d ++ i.End ∷ [])
    ++ open_elements k rest d

abbrev pub ends_from : Scope → Elements → (d place : ℕ) → List ℕ
ends_from k no_element d place = []
ends_from k (element_before constants s rest) d place = (place + length (element_code k constants s d))
    ∷ ends_from k rest d (suc (place + length (element_code k constants s d)))
