-- The number of pointer types in the parts of a block.
use Rattle.std.proofs.Common.{◌≡◌, ℕ, ◌+◌, List, [], ◌∷◌, ◌++◌, map, Option, Some, None, refl, sym, ap, ◌∙◌, arith}
use Rattle.std.proofs.lemmas.List.{map-append}
use Rattle.ps_syntax.specs.declared.program.Block as syntax_block
use Rattle.ps_syntax.specs.declared.program.Block.{out-Block}
use Rattle.ps_syntax.specs.declared.program.Routine.{Routine, out-Routine, roll-Routine, roll-out-Routine}
use Rattle.ps_syntax.specs.declared.program.Routine.TheOpen.{Routine-F}
use Rattle.ps_syntax.specs.declared.program.Routine.TheFolds.{fold-roll-Routine, fold_out-Block}
use Rattle.ps_check.specs.Paths.{layer_block, routine_block}
use Rattle.ps_check_laws.specs.Counts as drawn
use Rattle.ps_check_laws.specs.Counts.{sum, routine_domains, block_domains, own_domains}

sum_more : (xs ys : List ℕ) → sum (xs ++ ys) ≡ sum xs + sum ys
sum_more [] ys = omega arith
sum_more (x ∷ xs) ys = let z = sum_more xs ys in omega (arith, z)

abbrev pub inner_domains : Option syntax_block.Block → ℕ
inner_domains None = 0
inner_domains (Some b) = block_domains b

routine_domains_are : (x : Routine) (y : Routine-F Routine syntax_block.Block) → out-Routine x ≡ y → routine_domains x
    ≡ inner_domains (routine_block x)
unfolding routine_block
routine_domains_are x (Routine-F.Whole h b) o =
    ap routine_domains (sym (roll-out-Routine x) ∙ ap roll-Routine o)
    ∙ fold-roll-Routine ℕ ℕ drawn.routine_step drawn.block_step (Routine-F.Whole h b)
    ∙ ap (λ y. inner_domains (layer_block y)) (sym o)
routine_domains_are x (Routine-F.Forward h) o =
    ap routine_domains (sym (roll-out-Routine x) ∙ ap roll-Routine o)
    ∙ fold-roll-Routine ℕ ℕ drawn.routine_step drawn.block_step (Routine-F.Forward h)
    ∙ ap (λ y. inner_domains (layer_block y)) (sym o)
routine_domains_are x (Routine-F.Completion name b) o =
    ap routine_domains (sym (roll-out-Routine x) ∙ ap roll-Routine o)
    ∙ fold-roll-Routine ℕ ℕ drawn.routine_step drawn.block_step (Routine-F.Completion name b)
    ∙ ap (λ y. inner_domains (layer_block y)) (sym o)

pub domains_are : (x : Routine) → routine_domains x ≡ inner_domains (routine_block x)
domains_are x = routine_domains_are x (out-Routine x) refl

pub block_domains_are : (b : syntax_block.Block) → block_domains b ≡ own_domains b + sum
    (map routine_domains (out-Block b).routines)
unfolding drawn.block_step own_domains
block_domains_are b = fold_out-Block ℕ ℕ drawn.routine_step drawn.block_step b

pub sum_last : (done : List Routine) (x : Routine) → sum (map routine_domains (done ++ x ∷ [])) ≡ sum
    (map routine_domains done) + routine_domains x
sum_last done x = ap sum (map-append routine_domains done (x ∷ [])) ∙ sum_more (map routine_domains done)
    (routine_domains x ∷ []) ∙ (let z : sum (map routine_domains done) + (routine_domains x + 0) ≡ sum
    (map routine_domains done) + routine_domains x = omega arith in z)
