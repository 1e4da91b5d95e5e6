-- The grammar of types (ISO 7185 6.4), routines (6.6), blocks (6.2) and programs (6.10): one constructor for each
-- alternative.
use Rattle.std.specs.Prelude.{◌≡◌, ℕ, zero, suc, Bool, true, List, [], ◌∷◌}
use Rattle.ps_text.specs.declared.Span.{Span}
use Rattle.ps_scan.specs.declared.token.Kind.{Kind}
use Rattle.ps_scan.specs.declared.token.Kind.TheVariants as k
use Rattle.ps_syntax.specs.declared.statement.Constant.{Constant}
use Rattle.ps_syntax.specs.declared.statement.Statement.{Statement}
use Rattle.ps_syntax.specs.declared.program.Ordinal.{Ordinal}
use Rattle.ps_syntax.specs.declared.program.Ordinal.TheVariants as o
use Rattle.ps_syntax.specs.declared.program.TypeDenoter.{TypeDenoter}
use Rattle.ps_syntax.specs.declared.program.TypeDenoter.TheVariants as t
use Rattle.ps_syntax.specs.declared.program.Structure.{Structure}
use Rattle.ps_syntax.specs.declared.program.Structure.TheVariants as u
use Rattle.ps_syntax.specs.declared.program.Fields.{Fields, roll-Fields}
use Rattle.ps_syntax.specs.declared.program.ConstantDefinition.{ConstantDefinition}
use Rattle.ps_syntax.specs.declared.program.TypeDefinition.{TypeDefinition}
use Rattle.ps_syntax.specs.declared.program.Variables.{Variables}
use Rattle.ps_syntax.specs.declared.program.Section.{Section}
use Rattle.ps_syntax.specs.declared.program.Section.TheVariants as v
use Rattle.ps_syntax.specs.declared.program.Heading.{Heading}
use Rattle.ps_syntax.specs.declared.program.Heading.TheVariants as h
use Rattle.ps_syntax.specs.declared.program.Routine.{Routine}
use Rattle.ps_syntax.specs.declared.program.Routine.TheVariants as q
use Rattle.ps_syntax.specs.declared.program.Block.{Block, roll-Block}
use Rattle.ps_syntax.specs.declared.program.Program.{Program}
use Rattle.ps_parse_grammar.specs.Symbols.{Tokens, Symbol, nothing, token, Many, Separated, Terminated}
use Rattle.ps_parse_grammar.specs.Statements.{IsConstant, IsSequence, statement_within}

pub data IsName : Span → Tokens → Tokens → Type 0 where
  name : {at : Span} {r : Tokens} → IsName at (token k.Name at ∷ r) r

-- names = name {"," name}
abbrev pub IsNames : Symbol (List Span)
IsNames = Separated k.Comma IsName

-- ordinal = name | "(" names ")" | constant ".." constant
pub data IsOrdinal : Ordinal → Tokens → Tokens → Type 0 where
  named : {at : Span} {r : Tokens} → IsOrdinal (o.Name at) (token k.Name at ∷ r) r
  enumeration : {left right : Span} {xs : List Span} {ts r : Tokens} → IsNames xs ts (token k.RightParen right ∷ r)
      → IsOrdinal (o.Enumeration left xs) (token k.LeftParen left ∷ ts) r
  subrange : {x y : Constant} {at : Span} {ts m r : Tokens} → IsConstant x ts (token k.DotDot at ∷ m) → IsConstant y m r
      → IsOrdinal (o.Subrange x y) ts r

-- names ":" type
pub data IsFields (type : Symbol TypeDenoter) : Fields → Tokens → Tokens → Type 0 where
  fields : (xs : List Span) (x : TypeDenoter) {at : Span} {ts m r : Tokens} → IsNames xs ts (token k.Colon at ∷ m)
      → type x m r → IsFields type (roll-Fields (record { names = xs; ty = x })) ts r

pub data IsStructure (index : Symbol Ordinal) (type : Symbol TypeDenoter) : Structure → Tokens → Tokens → Type 0 where
  array : {at left right of : Span} {xs : List Ordinal} {x : TypeDenoter} {ts m r : Tokens}
      → Separated k.Comma index xs ts (token k.RightBracket right ∷ token k.Of of ∷ m) → type x m r
      → IsStructure index type (u.Array at xs x) (token k.Array at ∷ token k.LeftBracket left ∷ ts) r
  empty_record : {at end : Span} {r : Tokens} → IsStructure index type (u.Record at [])
      (token k.Record at ∷ token k.End end ∷ r) r
  filled_record : {at end : Span} {xs : List Fields} {ts r : Tokens} → Terminated k.Semicolon (IsFields type) xs ts
      (token k.End end ∷ r) → IsStructure index type (u.Record at xs) (token k.Record at ∷ ts) r
  set : {at of : Span} {x : Ordinal} {ts r : Tokens} → index x ts r → IsStructure index type (u.Set at x)
      (token k.Set at ∷ token k.Of of ∷ ts) r

-- type = ordinal | "^" name | ["packed"] structure
pub data IsType (index : Symbol Ordinal) (type : Symbol TypeDenoter) : TypeDenoter → Tokens → Tokens → Type 0 where
  ordinal : {x : Ordinal} {ts r : Tokens} → IsOrdinal x ts r → IsType index type (t.Ordinal x) ts r
  pointer : {at domain : Span} {r : Tokens} → IsType index type (t.Pointer at domain)
      (token k.Caret at ∷ token k.Name domain ∷ r) r
  structure : {x : Structure} {ts r : Tokens} → IsStructure index type x ts r → IsType index type (t.Structure x) ts r
  packed : {at : Span} {x : Structure} {ts r : Tokens} → IsStructure index type x ts r → IsType index type
      (t.Packed at x) (token k.Packed at ∷ ts) r

-- of a height of at most n
abbrev pub index_within : ℕ → Symbol Ordinal
index_within zero = nothing
index_within (suc n) = IsOrdinal

abbrev pub type_within : ℕ → Symbol TypeDenoter
type_within zero = nothing
type_within (suc n) = IsType (index_within n) (type_within n)

-- ---- headings

-- section = ["var"] names ":" name | heading
pub data IsSection (heading : Symbol Heading) : Section → Tokens → Tokens → Type 0 where
  value : {colon at : Span} {xs : List Span} {ts r : Tokens} → IsNames xs ts (token k.Colon colon ∷ token k.Name at ∷ r)
      → IsSection heading (v.Value xs at) ts r
  variable : {var colon at : Span} {xs : List Span} {ts r : Tokens} → IsNames xs ts
      (token k.Colon colon ∷ token k.Name at ∷ r) → IsSection heading (v.Variable xs at) (token k.Var var ∷ ts) r
  routine : {x : Heading} {ts r : Tokens} → heading x ts r → IsSection heading (v.Routine x) ts r

-- [formals]
pub data IsFormals (formals : Symbol (List Section)) : List Section → Tokens → Tokens → Type 0 where
  absent : {r : Tokens} → IsFormals formals [] r r
  present : {xs : List Section} {ts r : Tokens} → formals xs ts r → IsFormals formals xs ts r

-- formals = "(" section {";" section} ")"
pub data IsFormalList (heading : Symbol Heading) : List Section → Tokens → Tokens → Type 0 where
  formals : {left right : Span} {xs : List Section} {ts r : Tokens} → Separated k.Semicolon (IsSection heading) xs ts
      (token k.RightParen right ∷ r) → IsFormalList heading xs (token k.LeftParen left ∷ ts) r

-- heading = "procedure" name [formals] | "function" name [formals] ":" name
pub data IsHeading (formals : Symbol (List Section)) : Heading → Tokens → Tokens → Type 0 where
  procedure : {word at : Span} {xs : List Section} {ts r : Tokens} → IsFormals formals xs ts r → IsHeading formals
      (h.Procedure at xs) (token k.Procedure word ∷ token k.Name at ∷ ts) r
  function : {word at colon result : Span} {xs : List Section} {ts r : Tokens} → IsFormals formals xs ts
      (token k.Colon colon ∷ token k.Name result ∷ r) → IsHeading formals (h.Function at xs result)
      (token k.Function word ∷ token k.Name at ∷ ts) r

abbrev pub formals_within : ℕ → Symbol (List Section)
formals_within zero = nothing
formals_within (suc n) = IsFormalList (IsHeading (formals_within n))

abbrev pub heading_within : ℕ → Symbol Heading
heading_within n = IsHeading (formals_within n)

-- ---- blocks

-- [word item {item}]
pub data IsPart {A : Type 0} (word : Kind) (item : Symbol A) : List A → Tokens → Tokens → Type 0 where
  without : {r : Tokens} → IsPart word item [] r r
  filled : {at : Span} {x : A} {xs : List A} {ts m r : Tokens} → item x ts m → Many item xs m r → IsPart word item
      (x ∷ xs) (token word at ∷ ts) r

pub data IsConstantDefinition : ConstantDefinition → Tokens → Tokens → Type 0 where
  constant : {at equal end : Span} {x : Constant} {ts r : Tokens} → IsConstant x ts (token k.Semicolon end ∷ r)
      → IsConstantDefinition (record { name = at; value = x }) (token k.Name at ∷ token k.Equal equal ∷ ts) r

pub data IsTypeDefinition (type : Symbol TypeDenoter) : TypeDefinition → Tokens → Tokens → Type 0 where
  definition : {at equal end : Span} {x : TypeDenoter} {ts r : Tokens} → type x ts (token k.Semicolon end ∷ r)
      → IsTypeDefinition type (record { name = at; ty = x }) (token k.Name at ∷ token k.Equal equal ∷ ts) r

pub data IsVariables (type : Symbol TypeDenoter) : Variables → Tokens → Tokens → Type 0 where
  variables : {colon end : Span} {xs : List Span} {x : TypeDenoter} {ts m r : Tokens} → IsNames xs ts
      (token k.Colon colon ∷ m) → type x m (token k.Semicolon end ∷ r)
      → IsVariables type (record { names = xs; ty = x }) ts r

-- is_forward says which names are spelled "forward"
module _ (is_forward : Span → Bool) where
  -- routine ";"
  pub data IsRoutine (heading : Symbol Heading) (block : Symbol Block) : Routine → Tokens → Tokens → Type 0 where
    whole : {x : Heading} {b : Block} {semicolon end : Span} {ts m r : Tokens} → heading x ts
        (token k.Semicolon semicolon ∷ m) → block b m (token k.Semicolon end ∷ r) → IsRoutine heading block
        (q.Whole x b) ts r
    forward : {x : Heading} {semicolon at end : Span} {ts r : Tokens} → heading x ts
        (token k.Semicolon semicolon ∷ token k.Name at ∷ token k.Semicolon end ∷ r) → is_forward at ≡ true
        → IsRoutine heading block (q.Forward x) ts r
    completion : {word at semicolon end : Span} {b : Block} {ts r : Tokens} → block b ts (token k.Semicolon end ∷ r)
        → IsRoutine heading block (q.Completion at b)
        (token k.Function word ∷ token k.Name at ∷ token k.Semicolon semicolon ∷ ts) r

  pub data IsBlock (type : Symbol TypeDenoter) (heading : Symbol Heading) (statement : Bool → Symbol Statement)
      (block : Symbol Block) : Block → Tokens → Tokens → Type 0 where
    parts : (cs : List ConstantDefinition) (types : List TypeDefinition) (vs : List Variables) (rs : List Routine)
        (begin : Span) (ss : List Statement) {end : Span} {ts a b c d r : Tokens} →
        IsPart k.Const IsConstantDefinition cs ts a → IsPart k.Type (IsTypeDefinition type) types a b → IsPart k.Var
        (IsVariables type) vs b c → Many (IsRoutine heading block) rs c (token k.Begin begin ∷ d)
        → IsSequence statement ss d (token k.End end ∷ r)
        → IsBlock type heading statement block (roll-Block (record {
          constants = cs;
          types = types;
          variables = vs;
          routines = rs;
          begin = begin;
          statements = ss;
        })) ts r

  -- a block of a height of at most n
  abbrev pub block_within : ℕ → Symbol Block
  block_within zero = nothing
  block_within (suc n) = IsBlock (type_within n) (heading_within n) (statement_within n) (block_within n)

  -- program = "program" name ["(" names ")"] ";" block "."
  pub data IsProgram (block : Symbol Block) : Program → Tokens → Tokens → Type 0 where
    plain : {word at semicolon dot : Span} {b : Block} {ts r : Tokens} → block b ts (token k.Dot dot ∷ r)
        → IsProgram block (record { name = at; parameters = []; block = b })
        (token k.Program word ∷ token k.Name at ∷ token k.Semicolon semicolon ∷ ts) r
    listed : {word at left right semicolon dot : Span} {xs : List Span} {b : Block} {ts m r : Tokens} → IsNames xs ts
        (token k.RightParen right ∷ token k.Semicolon semicolon ∷ m) → block b m (token k.Dot dot ∷ r)
        → IsProgram block (record { name = at; parameters = xs; block = b })
        (token k.Program word ∷ token k.Name at ∷ token k.LeftParen left ∷ ts) r

  -- the whole list of tokens derives from `program` as this tree, whose height is at most n
  abbrev pub DerivesWithin : ℕ → Tokens → Program → Type 0
  DerivesWithin n ts p = IsProgram (block_within n) p ts []

  -- the same without a limit
  abbrev pub Derives : Tokens → Program → Type 0
  Derives ts p = (n : ℕ) × DerivesWithin n ts p
