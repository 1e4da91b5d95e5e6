-- What is proved of the parts of an accepted text.
use Rattle.std.proofs.Common.{◌≡◌, ℕ, ◌+◌, ◌<◌, ◌≤◌, List, [], ◌++◌, length, Some, slice_get}
use Rattle.ps_text.specs.declared.TheConstants.{MAX_LENGTH}
use Rattle.ps_scan.specs.Spans.{AreOrdered}
use Rattle.ps_scan.specs.declared.token.Kind.TheVariants as k
use Rattle.ps_syntax.specs.declared.expression.Expr.{Expr}
use Rattle.ps_syntax.specs.declared.expression.Variable as syntax
use Rattle.ps_syntax.specs.declared.statement.Statement.{Statement}
use Rattle.ps_syntax.specs.declared.program.ConstantDefinition.{ConstantDefinition}
use Rattle.ps_syntax.specs.declared.program.TypeDefinition.{TypeDefinition}
use Rattle.ps_syntax.specs.declared.program.Variables.{Variables}
use Rattle.ps_parse_grammar.specs.Symbols.{Tokens}
use Rattle.ps_parse_grammar.specs.Expressions.{IsVariable, expr_within}
use Rattle.ps_parse_grammar.specs.Statements.{IsSequence, statement_within}
use Rattle.ps_parse_grammar.specs.Programs.{IsPart, IsConstantDefinition, IsTypeDefinition, IsVariables, type_within}
use Rattle.ps_tree.specs.Types.{DataType}
use Rattle.ps_tree.specs.Tree as Tree
use Rattle.ps_lower_layout.specs.Shapes.{Shape}
use Rattle.ps_lower_code.specs.Scopes.{Scope}
use Rattle.ps_lower_code.specs.Fits.{StatementsFit}
use Rattle.ps_check_judgement.specs.Judged.{Yes}
use Rattle.ps_check_names.specs.Regions.{Context, Region, Meaning, ConstantMeaning, TextMeaning, TypeMeaning}
use Rattle.ps_check_names.specs.Regions.{VariableMeaning}
use Rattle.ps_check_declarations.specs.Denoters.{Frame, Declared}
use Rattle.ps_check_declarations.specs.Declarations.{declarations}
use Rattle.ps_check_expressions.specs.Expressions.{operand, variable_operand}
use Rattle.ps_check_statements.specs.Statements.{statements}
use Rattle.ps_lower_accepted.proofs.Lists.{Each, Gives}
use Rattle.ps_lower_accepted.proofs.Tables.{Table, Extends, EndsBefore, TypeKnown}
use Rattle.ps_lower_accepted.proofs.Standing.{MeaningKnown, RegionsKnown, Here}
use Rattle.ps_lower_accepted.proofs.Told.{OperandTold}

-- ---- expressions and variables

abbrev pub ExpressionsTell : Type 0
ExpressionsTell =
    (c : Context) (Γ : List Region) (D : Table) (k : Scope) (os : List Shape) → Here c Γ D k os
    → (n : ℕ) (x : Expr) (ts r : Tokens) → expr_within n x ts r → OperandTold D k os (operand c Γ x)

abbrev pub VariablesTell : Type 0
VariablesTell =
    (c : Context) (Γ : List Region) (D : Table) (k : Scope) (os : List Shape) → Here c Γ D k os
    → (n : ℕ) (x : syntax.Variable) (ts r : Tokens) → IsVariable (expr_within n) x ts r → OperandTold D k os
    (variable_operand c Γ x)

-- ---- statements

abbrev pub StatementsTell : Type 0
StatementsTell =
    (c : Context) (Γ : List Region) (D : Table) (k : Scope) (os : List Shape) → Here c Γ D k os
    → (n : ℕ) (xs : List Statement) (ts r : Tokens) → IsSequence (statement_within n) xs ts r
    → (ss : Tree.Statements) → Gives (statements c Γ xs) ss → StatementsFit k os ss

-- ---- constants, types and variables of a block

-- pointer types that there are so far
abbrev pub pointers : Declared → ℕ
pointers d = length d.domains + length d.pending

pub record DeclaredKnown (D : Table) (d : Declared) : Type 0 where
  pub known : Each (MeaningKnown D (pointers d)) d.known
  pub domains : Each (TypeKnown D (pointers d)) d.domains
  pub variables : Each (TypeKnown D (pointers d)) d.variables

-- what a block's declarations define: a variable's entry is after the first ones
abbrev pub IsOwn : (first : ℕ) → List DataType → Meaning → Type 0
IsOwn first variables (ConstantMeaning o n) = Unit {0}
IsOwn first variables (TextMeaning w) = Unit {0}
IsOwn first variables (TypeMeaning type) = Unit {0}
IsOwn first variables (VariableMeaning entry type) = (i : ℕ) × (entry ≡ first + i) × (slice_get variables i ≡ Some type)
IsOwn first variables _ = ⊥

-- What is known after the declarations of a block, before these tokens.
pub record Declares (first : ℕ) (D : Table) (low high : ℕ) (r : Tokens) (d e : Declared) : Type 0 where
  pub table : Table
  pub next : ℕ
  pub later : low ≤ next
  pub ordered : AreOrdered next high r
  pub extends : Extends D table
  pub ends : EndsBefore next table
  pub declared : DeclaredKnown table e
  pub settled : e.pending ≡ []
  -- more domain types after those that were there
  pub more : List DataType
  pub domains : e.domains ≡ d.domains ++ more
  -- and more meanings
  pub new : List Meaning
  pub known : e.known ≡ d.known ++ new
  pub own : Each (IsOwn first e.variables) new

abbrev pub DeclarationsTell : Type 0
DeclarationsTell =
    (f : Frame) (first : ℕ) (D : Table) (low high : ℕ) (d e : Declared) (n : ℕ) (cs : List ConstantDefinition)
    (types : List TypeDefinition) (vs : List Variables) (ts a b r : Tokens)
    → IsPart k.Const IsConstantDefinition cs ts a → IsPart k.Type (IsTypeDefinition (type_within n)) types a b
    → IsPart k.Var (IsVariables (type_within n)) vs b r
    → Each (λ x. x < 256) f.text → length f.text ≤ MAX_LENGTH
    → AreOrdered low high ts → EndsBefore low D
    → RegionsKnown D (length d.domains) f.outer → DeclaredKnown D d → d.pending ≡ [] → d.variables ≡ []
    → declarations f first d cs types vs ≡ Yes e → Declares first D low high r d e
