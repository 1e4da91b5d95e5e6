-- The tables of word-symbols and symbols (ISO 7185, 6.1.2 and 6.1.9).
use Rattle.std.specs.Prelude.{ℕ, List, [], ◌∷◌, Option, map, codes, unwrap_or}
use Rattle.std.specs.Char.{to_ascii_lowercase}
use Rattle.std.specs.Map.{lookup}
use Rattle.std.specs.Str.{bytes_eq}
use Rattle.ps_scan.specs.declared.token.Kind.{Kind}
use Rattle.ps_scan.specs.declared.token.Kind.TheVariants as k

abbrev pub Bytes : Type 0
Bytes = List ℕ

abbrev pub Spelling : Type 0
Spelling = Bytes × Kind

-- the word-symbols, in lower case
abbrev pub word_symbols : List Spelling
word_symbols =
    (codes "and", k.And) ∷ (codes "array", k.Array) ∷ (codes "begin", k.Begin) ∷ (codes "case", k.Case)
    ∷ (codes "const", k.Const) ∷ (codes "div", k.Div) ∷ (codes "do", k.Do) ∷ (codes "downto", k.Downto)
    ∷ (codes "else", k.Else) ∷ (codes "end", k.End) ∷ (codes "file", k.File) ∷ (codes "for", k.For)
    ∷ (codes "function", k.Function) ∷ (codes "goto", k.Goto) ∷ (codes "if", k.If) ∷ (codes "in", k.In)
    ∷ (codes "label", k.Label) ∷ (codes "mod", k.Mod) ∷ (codes "nil", k.Nil) ∷ (codes "not", k.Not)
    ∷ (codes "of", k.Of) ∷ (codes "or", k.Or) ∷ (codes "packed", k.Packed) ∷ (codes "procedure", k.Procedure)
    ∷ (codes "program", k.Program) ∷ (codes "record", k.Record) ∷ (codes "repeat", k.Repeat) ∷ (codes "set", k.Set)
    ∷ (codes "then", k.Then) ∷ (codes "to", k.To) ∷ (codes "type", k.Type) ∷ (codes "until", k.Until)
    ∷ (codes "var", k.Var) ∷ (codes "while", k.While) ∷ (codes "with", k.With) ∷ []

-- the symbols; "@" is another spelling of "^", and "(." and ".)" of the brackets
abbrev pub symbols : List Spelling
symbols =
    (codes "+", k.Plus) ∷ (codes "-", k.Minus) ∷ (codes "*", k.Star) ∷ (codes "/", k.Slash)
    ∷ (codes "=", k.Equal) ∷ (codes "<>", k.NotEqual) ∷ (codes "<", k.Less) ∷ (codes ">", k.Greater)
    ∷ (codes "<=", k.LessEqual) ∷ (codes ">=", k.GreaterEqual)
    ∷ (codes "[", k.LeftBracket) ∷ (codes "(.", k.LeftBracket) ∷ (codes "]", k.RightBracket)
    ∷ (codes ".)", k.RightBracket)
    ∷ (codes "(", k.LeftParen) ∷ (codes ")", k.RightParen)
    ∷ (codes ".", k.Dot) ∷ (codes "..", k.DotDot) ∷ (codes ",", k.Comma) ∷ (codes ":", k.Colon)
    ∷ (codes ";", k.Semicolon)
    ∷ (codes "^", k.Caret) ∷ (codes "@", k.Caret) ∷ (codes ":=", k.Assign) ∷ []

-- the kind of a word: that of the word-symbol that it spells, ignoring case, or of a name
unfoldable pub word_kind : Bytes → Kind
word_kind w = unwrap_or (lookup (λ key. bytes_eq key (map to_ascii_lowercase w)) word_symbols) k.Name

-- the kind of a symbol, if the bytes are one
unfoldable pub symbol_kind : Bytes → Option Kind
symbol_kind w = lookup (bytes_eq w) symbols
