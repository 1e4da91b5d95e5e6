-- What the profile leaves out of the grammar of the standard (ISO 7185, 6.2 to 6.9), at the token where a text has it.
use Rattle.std.specs.Prelude.{Bool, true, [], ◌∷◌, Option, Some, None}
use Rattle.ps_scan.specs.declared.token.Kind.{Kind}
use Rattle.ps_scan.specs.declared.token.Kind.TheVariants as k
use Rattle.ps_scan.specs.declared.token.Token.{Token}
use Rattle.ps_parse_grammar.specs.Symbols.{Tokens, token}

-- a token of a kind, which is nowhere in the text
abbrev pub any_of : Kind → Token
any_of kind = token kind (record { from = 0; to = 0 })

-- A token of a construction that is left out, by its kind and whether `:` comes next: what the profile has there
-- instead. If that could come after what precedes the token, the standard accepts the token.
abbrev pub in_place_of : Kind → Bool → Option Tokens
-- the label declaration part (6.2.1), the goto statement (6.8.2.4), a file type (6.4.3.5) and the division of reals
-- (6.7.2.2) have a word or a symbol of their own, by which they are known wherever it comes
in_place_of k.Label colon = Some []
in_place_of k.Goto colon = Some []
in_place_of k.File colon = Some []
in_place_of k.Slash colon = Some []
-- a variant part (6.4.3.3) comes where the last section of a record could, as in `a: ^b end`
in_place_of k.Case colon = Some (any_of k.Name ∷ any_of k.Colon ∷ any_of k.Caret ∷ any_of k.Name ∷ any_of k.End ∷ [])
-- a label (6.8.1), a number before `:`, comes where a statement could, as `while`
in_place_of k.Number true = Some (any_of k.While ∷ [])
-- the `:` of a second width (6.9.3.1) comes where another parameter with a width could follow, as in `, nil:`
in_place_of k.Colon colon = Some (any_of k.Comma ∷ any_of k.Nil ∷ any_of k.Colon ∷ [])
in_place_of _ colon = None
