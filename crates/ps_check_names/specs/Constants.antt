-- The required ordinal types (6.4.2.2), and constants (6.3): a number, a name or a string; a sign needs an integer.
use Rattle.std.specs.Prelude.{ℕ, ℤ, pos, negsuc, ◌-ℤ◌, neg_ℤ, int_le, List, [], ◌∷◌, Option, Some, None, if◌then◌else◌}
use Rattle.ps_text.specs.declared.Span.{Span}
use Rattle.ps_scan.specs.declared.TheConstants.{MAX_NUMBER}
use Rattle.ps_scan.specs.Values.{number_of_digits, characters}
use Rattle.ps_syntax.specs.declared.expression.Sign.{Sign}
use Rattle.ps_syntax.specs.declared.expression.Sign.TheVariants as sign
use Rattle.ps_syntax.specs.declared.statement.Constant.{Constant}
use Rattle.ps_syntax.specs.declared.statement.Constant.TheVariants as c
use Rattle.ps_tree.specs.declared.types.Host.TheVariants.{Integer, Char, Boolean}
use Rattle.ps_tree.specs.declared.types.Ordinal.{Ordinal}
use Rattle.ps_tree.specs.Types.{is_same_host}
use Rattle.ps_check_judgement.specs.declared.refusal.Rule.{Rule}
use Rattle.ps_check_judgement.specs.declared.refusal.Rule.TheVariants.{NotInProfile, WrongKind, WrongType}
use Rattle.ps_check_judgement.specs.Judged.{Judged, Yes, No, ◌>>=◌, provided}
use Rattle.ps_check_names.specs.Spelling.{bytes_at, spelled}
use Rattle.ps_check_names.specs.Regions.{Region, Point, BlockPoint, ConstantMeaning, TextMeaning, FileMeaning}
use Rattle.ps_check_names.specs.Regions.{LeftOutMeaning, find}

-- from -maxint - 1 to maxint (6.4.2.2)
abbrev pub integer : Ordinal
integer = record { host = Integer; subrange = None; low = negsuc MAX_NUMBER; high = pos MAX_NUMBER }

abbrev pub char : Ordinal
char = record { host = Char; subrange = None; low = pos 0; high = pos 255 }

abbrev pub boolean : Ordinal
boolean = record { host = Boolean; subrange = None; low = pos 0; high = pos 1 }

pub data ConstantValue : Type 0 where
  OrdinalConstant : Ordinal → ℤ → ConstantValue
  -- a string of several characters
  TextConstant : List ℕ → ConstantValue

-- the point that a name denotes at a place
abbrev pub denoted : List ℕ → List Region → Span → Judged Point
denoted text Γ name = find Γ (spelled text name) name.from

-- The rule broken by a name whose point isn't allowed there. The profile leaves some names out, there or everywhere:
-- the files may only be the first parameters of some required routines.
unfoldable pub misplacement : Point → Rule
misplacement (BlockPoint up (FileMeaning file)) = NotInProfile
misplacement (BlockPoint up LeftOutMeaning) = NotInProfile
misplacement _ = WrongKind

-- a point that isn't allowed there
abbrev pub misplaced : {A : Type 0} → (at : ℕ) → Point → Judged A
misplaced at p = No (misplacement p) at

-- the constant that a name at an offset denotes
unfoldable pub constant_at : (at : ℕ) → Point → Judged ConstantValue
constant_at at (BlockPoint up (ConstantMeaning o n)) = Yes (OrdinalConstant o n)
constant_at at (BlockPoint up (TextMeaning w)) = Yes (TextConstant w)
constant_at at p = misplaced at p

abbrev pub constant_named : List ℕ → List Region → Span → Judged ConstantValue
constant_named text Γ name = denoted text Γ name >>= constant_at name.from

-- a string of one character is of type char (6.1.7)
abbrev pub text_constant : List ℕ → ConstantValue
text_constant [] = TextConstant []
text_constant (a ∷ []) = OrdinalConstant char (pos a)
text_constant (a ∷ b ∷ rest) = TextConstant (a ∷ b ∷ rest)

-- the least integer has no negation
abbrev pub integer_with_sign : (at : ℕ) → Sign → ℤ → Judged ℤ
integer_with_sign at sign.Plus n = Yes n
integer_with_sign at sign.Minus n = provided (int_le (neg_ℤ (pos MAX_NUMBER)) n) WrongType at (pos 0 -ℤ n)

-- a sign, if there is one, before a constant at an offset
unfoldable pub signed_constant : (at : ℕ) → Option (Sign × Span) → ConstantValue → Judged ConstantValue
signed_constant at None v = Yes v
signed_constant at (Some s) (OrdinalConstant o n) = if is_same_host o.host Integer then integer_with_sign at s.0 n
    >>= (λ m. Yes (OrdinalConstant integer m)) else No WrongType at
signed_constant at (Some s) (TextConstant w) = No WrongType at

abbrev pub number_at : List ℕ → Span → ℤ
number_at text at = pos (number_of_digits (bytes_at text at))

unfoldable pub constant : List ℕ → List Region → Constant → Judged ConstantValue
constant text Γ (c.Number s at) = signed_constant at.from s (OrdinalConstant integer (number_at text at))
constant text Γ (c.Name s at) = constant_named text Γ at >>= signed_constant at.from s
constant text Γ (c.Text at) = Yes (text_constant (characters (bytes_at text at)))
