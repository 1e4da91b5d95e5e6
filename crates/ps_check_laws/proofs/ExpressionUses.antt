-- The names used in each construct of an expression.
use Rattle.ps_syntax.specs.declared.expression.Factor.{Factor}
use Rattle.ps_syntax.specs.declared.expression.Member.{Member}
use Rattle.ps_syntax.specs.declared.expression.Selector.{Selector}
use Rattle.ps_syntax.specs.declared.expression.AddedTerm.{AddedTerm}
use Rattle.ps_syntax.specs.declared.expression.MultipliedFactor.{MultipliedFactor}
use Rattle.ps_syntax.specs.declared.expression.Simple.{Simple}
use Rattle.ps_syntax.specs.declared.expression.Term.{Term}
use Rattle.ps_check_declarations.specs.Points.{Points}
use Rattle.ps_check_laws.specs.Occurrences.{uses}
use Rattle.ps_syntax.specs.Walks.{walk_factor, walk_member, walk_selector, walk_added, walk_multiplied}
use Rattle.ps_syntax.specs.Walks.{walk_simple, walk_term}

abbrev pub factor_uses : Factor → Points
factor_uses = walk_factor uses

abbrev pub member_uses : Member → Points
member_uses = walk_member uses

abbrev pub selector_uses : Selector → Points
selector_uses = walk_selector uses

abbrev pub added_uses : AddedTerm → Points
added_uses = walk_added uses

abbrev pub multiplied_uses : MultipliedFactor → Points
multiplied_uses = walk_multiplied uses

abbrev pub simple_uses : Simple → Points
simple_uses = walk_simple uses

abbrev pub term_uses : Term → Points
term_uses = walk_term uses
