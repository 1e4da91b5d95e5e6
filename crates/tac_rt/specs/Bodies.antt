-- The run-time routines as three-address code.
use Rattle.std.specs.Prelude.{ℕ, List, [], ◌∷◌, ◌++◌, map, pos}
use Rattle.tac_code.specs.declared.code.Base.TheVariants as base
use Rattle.tac_code.specs.declared.code.Instruction.{Instruction}
use Rattle.tac_code.specs.declared.code.Instruction.TheVariants.{Literal, Copy, Arithmetic, Bits, Compare, Offset}
use Rattle.tac_code.specs.declared.code.Instruction.TheVariants.{Index, Load, Store, LoadByte, StoreByte, Jump}
use Rattle.tac_code.specs.declared.code.Instruction.TheVariants.{JumpBack, Branch, BranchBack, Return, Take, Put}
use Rattle.tac_code.specs.declared.code.TacRoutine.{TacRoutine}
use Rattle.tac_rt.specs.declared.step.Step.{Step}
use Rattle.tac_rt.specs.declared.step.Step.TheVariants as step
use Rattle.tac_rt.specs.declared.words.TheConstants.{COPY, COMPARE, PACK, UNPACK}
use Rattle.tac_rt.specs.declared.sets.TheConstants.{ADD_RANGE, UNITE, SUBTRACT, INTERSECT, IS_INCLUDED, IS_MEMBER}
use Rattle.tac_rt.specs.declared.writing.TheConstants.{WRITE_NUMBER, WRITE_CHARACTER, WRITE_STRING}
use Rattle.tac_rt.specs.declared.reading.TheConstants.{LOOK, READ_CHARACTER, READ_NUMBER, READ_LINE}

-- A step's instruction. No step fails, so its error is 0, and its line a dummy.
abbrev pub instruction_of : Step → Instruction
instruction_of (step.Literal t z) = Literal t z
instruction_of (step.Copy t a) = Copy t a
instruction_of (step.Arithmetic operator t a b) = Arithmetic operator t a b 0 1
instruction_of (step.Bits operator t a b) = Bits operator t a b
instruction_of (step.Compare relation t a b) = Compare relation t a b
instruction_of (step.Offset t a n) = Offset t (base.Temporary a) n 0
instruction_of (step.SetWord t a i) = Index t (base.Temporary a) i (pos 0) (pos 7) 4 0 1
instruction_of (step.Load t a n) = Load t (base.Temporary a) n
instruction_of (step.Store a n b) = Store (base.Temporary a) n b
instruction_of (step.LoadByte t a n) = LoadByte t (base.Temporary a) n
instruction_of (step.StoreByte a n b) = StoreByte (base.Temporary a) n b
instruction_of (step.Jump n) = Jump n
instruction_of (step.JumpBack n) = JumpBack n
instruction_of (step.Branch relation a b n) = Branch relation a b n
instruction_of (step.BranchBack relation a b n) = BranchBack relation a b n
instruction_of (step.Return a) = Return a
instruction_of (step.Take t) = Take t
instruction_of (step.Put a) = Put a

abbrev pub body_of : List Step → List Instruction
body_of steps = map instruction_of steps

abbrev pub routine_of : (parameters temporaries : ℕ) → List Step → TacRoutine
routine_of parameters temporaries steps =
    record {
      parameters = parameters;
      temporaries = temporaries;
      frame = 0;
      scratch = 0;
      line = 1;
      body = body_of steps;
    }

-- these routines after others: adding a range, union, difference, intersection, inclusion, membership
abbrev pub with_sets : List TacRoutine → List TacRoutine
with_sets list =
    list ++ routine_of 3 6 ADD_RANGE ∷ [] ++ routine_of 2 5 UNITE ∷ [] ++ routine_of 2 5 SUBTRACT ∷ []
    ++ routine_of 2 5 INTERSECT ∷ []
    ++ routine_of 2 5 IS_INCLUDED ∷ [] ++ routine_of 2 4 IS_MEMBER ∷ []

-- the comparison of strings, words to bytes, bytes to words
abbrev pub with_words : List TacRoutine → List TacRoutine
with_words list = list ++ routine_of 3 5 COMPARE ∷ [] ++ routine_of 3 4 PACK ∷ [] ++ routine_of 3 4 UNPACK ∷ []

-- an integer, a character, a string
abbrev pub with_writing : List TacRoutine → List TacRoutine
with_writing list = list ++ routine_of 2 6 WRITE_NUMBER ∷ [] ++ routine_of 2 4 WRITE_CHARACTER ∷ []
    ++ routine_of 3 5 WRITE_STRING ∷ []

-- looking ahead, a character, an integer, the rest of a line
abbrev pub with_reading : List TacRoutine → List TacRoutine
with_reading list =
    list ++ routine_of 1 2 LOOK ∷ [] ++ routine_of 1 4 READ_CHARACTER ∷ [] ++ routine_of 2 7 READ_NUMBER ∷ []
    ++ routine_of 1 4 READ_LINE ∷ []

-- all of them, in the order of their numbers
abbrev pub run_time_routines : List TacRoutine
run_time_routines = with_reading (with_writing (with_words (with_sets (routine_of 3 4 COPY ∷ []))))
