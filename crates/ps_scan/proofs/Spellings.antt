-- The code's table of word-symbols is the definition's.
use Rattle.std.proofs.Common.{◌≡◌, Some, List, [], ◌∷◌, map, refl, cond, true, false}
use Rattle.std.specs.Char.{to_ascii_lowercase}
use Rattle.std.specs.Map.{lookup}
use Rattle.std.specs.Option.{unwrap_or}
use Rattle.std.specs.Str.{bytes_eq, str_eq_ignore_ascii_case}
use Rattle.ps_scan.specs.declared.token.Kind.TheVariants as k
use Rattle.ps_scan.specs.declared.words.TheConstants.{WORD_SYMBOLS}
use Rattle.ps_scan.specs.Scanner.{find_word}
use Rattle.ps_scan.specs.Tables.{Bytes, Spelling, word_kind}

find_word-lookup : (es : List Spelling) (w : Bytes)
    → find_word es w ≡ unwrap_or (lookup (λ key. bytes_eq key (map to_ascii_lowercase w))
    (map (λ e. (map to_ascii_lowercase e.0, e.1)) es)) k.Name
find_word-lookup [] w = refl
find_word-lookup (e ∷ es) w =
    elim (str_eq_ignore_ascii_case e.0 w) as (λ b. cond b e.1 (find_word es w)
    ≡ unwrap_or (cond b (Some e.1) (lookup (λ key. bytes_eq key (map to_ascii_lowercase w))
    (map (λ e. (map to_ascii_lowercase e.0, e.1)) es))) k.Name)
    [ true ↦ refl | false ↦ find_word-lookup es w ]

pub find_word_is : (w : Bytes) → find_word (map (λ e. (e.0.now, e.1)) WORD_SYMBOLS) w ≡ word_kind w
unfolding word_kind
find_word_is w = find_word-lookup (map (λ e. (e.0.now, e.1)) WORD_SYMBOLS) w
