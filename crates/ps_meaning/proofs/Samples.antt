-- Short words for small programs, on which the definitions are tried.
use Rattle.std.proofs.Common.{ℕ, ℤ, pos, negsuc, true, List, [], ◌∷◌, Some, None}
use Rattle.ps_tree.specs.declared.types.Host.TheVariants.{Integer, Char}
use Rattle.ps_tree.specs.declared.types.Ordinal.{Ordinal}
use Rattle.ps_tree.specs.declared.tree.operators.Range.{Range}
use Rattle.ps_tree.specs.declared.tree.operators.Range.TheVariants.{Within}
use Rattle.ps_tree.specs.Types.{DataType, OrdinalType, ArrayType}
use Rattle.ps_tree.specs.declared.tree.operators.ArithmeticOperator.{ArithmeticOperator}
use Rattle.ps_tree.specs.declared.tree.operators.ArithmeticOperator.TheVariants.{Add}
use Rattle.ps_tree.specs.Tree.{Place, Variable, Entry, Selector, Selectors, no_selector, selector_before}
use Rattle.ps_tree.specs.Tree.{no_arithmetic_step, arithmetic_step_before, Expr, Number, Load, Arithmetic, Argument}
use Rattle.ps_tree.specs.Tree.{Arguments, no_argument, argument_before, Literal, Width, DefaultWidth, GivenWidth}
use Rattle.ps_tree.specs.Tree.{WriteInteger, WriteText, Statement, Assign, Write, Statements, no_statement}
use Rattle.ps_tree.specs.Tree.{statement_before, no_formal, Routine, Program}

abbrev pub integer : Ordinal
integer = record { host = Integer; subrange = None; low = negsuc 2147483647; high = pos 2147483647 }

abbrev pub subrange : ℤ → ℤ → Ordinal
subrange low high = record { host = Integer; subrange = Some 7; low = low; high = high }

abbrev pub character : Ordinal
character = record { host = Char; subrange = None; low = pos 0; high = pos 255 }

abbrev pub integer_type : DataType
integer_type = OrdinalType integer

abbrev pub string_type : ℕ → DataType
string_type n = ArrayType 8 true (subrange (pos 1) (pos n)) (OrdinalType character)

abbrev pub any_integer : Range
any_integer = Within (negsuc 2147483647) (pos 2147483647)

abbrev pub n : ℕ → Expr
n k = Number (pos k)

abbrev pub outer : ℕ → ℕ → Place
outer up i = Variable (Entry up i) no_selector

abbrev pub own : ℕ → Place
own i = outer 0 i

-- a variable's selectors and one more
abbrev pub selectors_and : Selectors → Selector → Selectors
selectors_and no_selector s = selector_before s no_selector
selectors_and (selector_before t rest) s = selector_before t (selectors_and rest s)

abbrev pub then_selector : Place → Selector → Place
then_selector (Variable base selectors) s = Variable base (selectors_and selectors s)

abbrev pub load : ℕ → Expr
load i = Load (own i)

abbrev pub set : ℕ → Expr → Statement
set i e = Assign (own i) any_integer e 1

abbrev pub arithmetic : ArithmeticOperator → Expr → Expr → (line : ℕ) → Expr
arithmetic operator a b line = Arithmetic a (arithmetic_step_before operator b line no_arithmetic_step)

abbrev pub plus : Expr → Expr → Expr
plus a b = arithmetic Add a b 1

abbrev pub statements : List Statement → Statements
statements [] = no_statement
statements (s ∷ rest) = statement_before s (statements rest)

abbrev pub arguments : List Argument → Arguments
arguments [] = no_argument
arguments (a ∷ rest) = argument_before a (arguments rest)

abbrev pub width : ℕ → Width
width k = GivenWidth (n k) 1

abbrev pub write_narrow : Expr → Statement
write_narrow e = Write (WriteInteger e (width 1) ∷ [])

abbrev pub write_string : List ℕ → Statement
write_string text = Write (WriteText (Literal text) DefaultWidth ∷ [])

abbrev pub block : List DataType → List Statement → Routine
block variables body = record {
  chain = 0 ∷ [];
  formals = no_formal;
  result = None;
  variables = variables;
  body = statements body;
  line = 1;
}

abbrev pub procedure : List ℕ → List DataType → List Statement → Routine
procedure chain variables body = record {
  chain = chain;
  formals = no_formal;
  result = None;
  variables = variables;
  body = statements body;
  line = 1;
}

abbrev pub function : List ℕ → List DataType → List Statement → Routine
function chain variables body = record {
  chain = chain;
  formals = no_formal;
  result = Some integer_type;
  variables = variables;
  body = statements body;
  line = 1;
}

abbrev pub alone : List DataType → List Statement → Program
alone variables body = record { routines = block variables body ∷ []; domains = [] }

abbrev pub with_routines : List DataType → List Statement → List Routine → Program
with_routines variables body routines = record { routines = block variables body ∷ routines; domains = [] }
