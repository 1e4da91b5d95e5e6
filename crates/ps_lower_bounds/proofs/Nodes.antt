-- Each expression, variable and statement has at least one node.
use Rattle.std.proofs.Common.{◌≤◌, arith}
use Rattle.ps_tree.specs.Counts.{place_extent, expr_extent, set_extent, structure_extent, statement_extent}
use Rattle.ps_tree.specs.Tree.{Place, Variable, Expr, Load, Arithmetic, Logic, SetExpr, LoadSet, Constructor, Combine}
use Rattle.ps_tree.specs.Tree.{Structure, Literal, Contents, Statement, Empty}

pub place_node : (p : Place) → 1 ≤ (place_extent p).nodes
unfolding place_extent
place_node (Variable name selectors) = omega arith

pub expr_node : (e : Expr) → 1 ≤ (expr_extent e).nodes
unfolding expr_extent
expr_node (Load p) = place_node p
expr_node (Arithmetic e steps) = let n = expr_node e in omega (arith, n)
expr_node (Logic operator e rest) = let n = expr_node e in omega (arith, n)
expr_node _ = omega arith

pub set_node : (e : SetExpr) → 1 ≤ (set_extent e).nodes
unfolding set_extent
set_node (LoadSet p) = place_node p
set_node (Constructor members) = omega arith
set_node (Combine e steps) = let n = set_node e in omega (arith, n)

pub structure_node : (e : Structure) → 1 ≤ (structure_extent e).nodes
unfolding structure_extent
structure_node (Literal characters) = omega arith
structure_node (Contents p type) = place_node p

pub statement_node : (s : Statement) → 1 ≤ (statement_extent s).nodes
unfolding statement_extent
statement_node Empty = omega arith
statement_node _ = omega arith
