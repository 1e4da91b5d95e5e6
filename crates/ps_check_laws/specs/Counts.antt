-- The number of pointer types in the declarations of a block, and the number that the first of them has: they are
-- numbered in the order of their parts in the text.
use Rattle.std.specs.Prelude.{ℕ, ◌+◌, List, [], ◌∷◌, length, map, take, Option, Some}
use Rattle.ps_syntax.specs.declared.program.Block.{Block, out-Block}
use Rattle.ps_syntax.specs.declared.program.Routine.{Routine}
use Rattle.ps_syntax.specs.declared.program.Routine.TheOpen.{Routine-F, Block-F}
use Rattle.ps_syntax.specs.declared.program.Routine.TheFolds.{fold-Block, fold-Routine}
use Rattle.ps_syntax.specs.declared.program.Program as syntax
use Rattle.ps_check_laws.specs.Option.{◌>>=◌}
use Rattle.ps_check.specs.Paths.{block_at}
use Rattle.ps_check_laws.specs.Domains.{type_domains, variable_domains}

abbrev pub sum : List ℕ → ℕ
sum [] = 0
sum (n ∷ ns) = n + sum ns

abbrev pub routine_step : Routine-F ℕ ℕ → ℕ
routine_step (Routine-F.Whole h n) = n
routine_step (Routine-F.Forward h) = 0
routine_step (Routine-F.Completion name n) = n

unfoldable pub block_step : Block-F ℕ ℕ → ℕ
block_step b = (length (type_domains b.types) + length (variable_domains b.variables)) + sum b.routines

-- within a routine
abbrev pub routine_domains : Routine → ℕ
routine_domains = fold-Routine ℕ ℕ routine_step block_step

-- in the declarations of a block, and of those within it
abbrev pub block_domains : Block → ℕ
block_domains = fold-Block ℕ ℕ routine_step block_step

-- in the declarations of the block alone
unfoldable pub own_domains : Block → ℕ
own_domains b = length (type_domains (out-Block b).types) + length (variable_domains (out-Block b).variables)

-- before the block of its routine k
unfoldable pub domains_before : Block → ℕ → ℕ
domains_before b k = own_domains b + sum (map routine_domains (take k (out-Block b).routines))

-- the number of the first pointer type of the block at a path
unfoldable pub first_domain_at : syntax.Program → List ℕ → Option ℕ
first_domain_at p [] = Some 0
first_domain_at p (k ∷ v) = do
  b ← block_at p.block v
  n ← first_domain_at p v
  Some (n + domains_before b k)
