-- The constants, types and variables of a block (6.3, 6.4.1, 6.5.1).
use Rattle.std.specs.Prelude.{ℕ, ◌+◌, Bool, true, false, ◌&&◌, if◌then◌else◌, nat_eq, List, [], ◌∷◌, ◌++◌, length}
use Rattle.ps_text.specs.declared.Span.{Span}
use Rattle.ps_syntax.specs.First.{first_of_type}
use Rattle.ps_syntax.specs.declared.program.ConstantDefinition.{ConstantDefinition}
use Rattle.ps_syntax.specs.declared.program.TypeDefinition.{TypeDefinition}
use Rattle.ps_syntax.specs.declared.program.Variables.{Variables}
use Rattle.ps_tree.specs.Types.{DataType}
use Rattle.ps_check_judgement.specs.declared.refusal.Rule.{Rule}
use Rattle.ps_check_judgement.specs.declared.refusal.Rule.TheVariants.{UsedBefore, Limit}
use Rattle.ps_check_judgement.specs.Judged.{Judged, Yes, No, ◌>>=◌, some_or, steps}
use Rattle.ps_check_names.specs.Spelling.{spelled}
use Rattle.ps_check_names.specs.Regions.{Point, BlockPoint, Meaning, ConstantMeaning, TextMeaning, TypeMeaning}
use Rattle.ps_check_names.specs.Regions.{VariableMeaning, one_more}
use Rattle.ps_check_names.specs.Constants.{ConstantValue, OrdinalConstant, TextConstant, denoted, misplaced, constant}
use Rattle.ps_check_declarations.specs.Points.{is_later}
use Rattle.ps_check_declarations.specs.Denoters.{Frame, begin, within, Declared, with_known, regions, denoter}

unfoldable pub meaning_of_constant : ConstantValue → Meaning
meaning_of_constant (OrdinalConstant o n) = ConstantMeaning o n
meaning_of_constant (TextConstant w) = TextMeaning w

-- ---- limits

unfoldable pub is_limit : Rule → Bool
is_limit Limit = true
is_limit _ = false

-- A limit that a definition exceeds where its denoter begins is reported at the name being defined.
unfoldable pub told_at_name : {A : Type 0} → (first name : ℕ) → Judged A → Judged A
told_at_name first name (Yes a) = Yes a
told_at_name first name (No rule at) = No rule (if is_limit rule && nat_eq at first then name else at)

-- ---- domain types (6.4.4)

-- The domain type that a name denotes at the end of its part. If it is not a type, it was used before its point, if
-- that comes after the use.
unfoldable pub domain_at : (later : Bool) → (at : ℕ) → Point → Judged DataType
domain_at later at (BlockPoint up (TypeMeaning type)) = Yes type
domain_at later at p = if later then No UsedBefore at else misplaced at p

module _ (f : Frame) where
  -- a constant is known after its definition
  unfoldable pub define_constant : Declared → ConstantDefinition → Judged Declared
  define_constant d c = do
    begun ← begin f d.known [] c.name
    value ← constant f.text (regions f [] d.known) c.value
    Yes (with_known d (d.known ++ meaning_of_constant value ∷ []))

  unfoldable pub define_type : Declared → TypeDefinition → Judged Declared
  define_type d t = do
    begun ← begin f d.known [] t.name
    r ← told_at_name (first_of_type t.ty) t.name.from (denoter (within f begun) t.ty [] d)
    Yes (with_known r.1 (r.1.known ++ TypeMeaning r.0 ∷ []))

  -- one more domain type
  unfoldable pub resolve_domain : Declared → Span × ℕ → Judged Declared
  resolve_domain d waits = do
    point ← denoted f.text (regions f [] d.known) waits.0
    type ← domain_at (is_later f.names waits.1 (spelled f.text waits.0)) waits.0.from point
    Yes (record d { domains = d.domains ++ type ∷ [] })

  -- at the end of a part each pending domain type is the type that its name denotes there
  unfoldable pub resolve_domains : Declared → Judged Declared
  resolve_domains d = do
    e ← steps resolve_domain d d.pending
    Yes (record e { pending = [] })

-- ---- variables (6.5.1)

-- One more variable of a type, whose entry comes after those of the result and the formal parameters, which are `first`
-- in number.
abbrev pub declare_variable : ℕ → DataType → Declared → Span → Judged Declared
declare_variable first type d name = do
  next ← some_or Limit name.from (one_more (first + length d.variables))
  Yes (record d {
    known = d.known ++ VariableMeaning (first + length d.variables) type ∷ [];
    variables = d.variables ++ type ∷ [];
  })

module _ (f : Frame) (first : ℕ) where
  -- the names come before the denoter, and are not types or constants
  unfoldable pub declare_variables : Declared → Variables → Judged Declared
  declare_variables d v = do
    begun ← steps (begin f d.known) [] v.names
    r ← denoter (within f begun) v.ty ((begun, length begun) ∷ []) d
    steps (declare_variable first r.0) r.1 v.names

  -- the constants, types and variables of a block
  unfoldable pub declarations : Declared → List ConstantDefinition → List TypeDefinition → List Variables
      → Judged Declared
  declarations d cs ts vs = do
    a ← steps (define_constant f) d cs
    b ← steps (define_type f) a ts
    c ← resolve_domains f b
    e ← steps declare_variables c vs
    resolve_domains f e
