-- The definitions, tried on a small program, whose block passes a procedure to another that calls its parameter:
-- procedure a(procedure q); begin q end; procedure b; begin end; begin a(b) end.
use Rattle.std.proofs.Common.{◌≡◌, [], ◌∷◌, None, inl, inr, refl, arith}
use Rattle.ps_tree.specs.Tree.{ByRoutine, no_argument, argument_before, Empty, CallProcedure, CallFormalProcedure}
use Rattle.ps_tree.specs.Tree.{no_statement, statement_before, no_formal, formal_before, RoutineFormal, Routine}
use Rattle.ps_tree.specs.Tree.{Program}
use Rattle.ps_needs_least.specs.declared.uses.Use.TheVariants.{Called, Passed, ParameterCalled}
use Rattle.ps_needs_least.specs.Paths.{uses, Path, program_block, call_within}

abbrev block : Routine
block = record {
  chain = 0 ∷ [];
  formals = no_formal;
  result = None;
  variables = [];
  body = statement_before (CallProcedure 1 0 (argument_before (ByRoutine 2 0) no_argument) 3) no_statement;
  line = 3;
}

abbrev a : Routine
a = record {
  chain = 1 ∷ 0 ∷ [];
  formals = formal_before (RoutineFormal no_formal None) no_formal;
  result = None;
  variables = [];
  body = statement_before (CallFormalProcedure 0 0 no_argument 1) no_statement;
  line = 1;
}

abbrev b : Routine
b = record {
  chain = 2 ∷ 0 ∷ [];
  formals = no_formal;
  result = None;
  variables = [];
  body = statement_before Empty no_statement;
  line = 2;
}

abbrev sample : Program
sample = record { routines = block ∷ a ∷ b ∷ []; domains = [] }

block_uses : uses sample 0 ≡ Called 1 ∷ Passed 2 ∷ []
block_uses = refl

a_uses : uses sample 1 ≡ ParameterCalled ∷ []
a_uses = refl

b_uses : uses sample 2 ≡ []
b_uses = refl

-- b may be open, called by a, called by the block
deepest : Path sample (2 ∷ 1 ∷ 0 ∷ [])
deepest =
    call_within 1 2 (0 ∷ []) (call_within 0 1 [] program_block (inl (0, omega arith, refl)))
    (inr ((0, omega arith, refl), (0, (1, omega arith, refl))))
