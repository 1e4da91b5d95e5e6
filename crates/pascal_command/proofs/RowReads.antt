-- What the getters of a parse give, by the rows of the parse.
use Rattle.std.proofs.Common.{◌≡◌, ◌∙◌, ◌<◌, ◌≤◌, ◌++◌, ◌^◌, ap, refl, sym, ℕ, List, [], ◌∷◌, Option, Some, None, map}
use Rattle.std.proofs.Common.{arith}
use Rattle.std.specs.Prelude.{Result, Ok, Err, codes, flat_map, unwrap_or, option_map}
use Rattle.std.specs.List.{join_by}
use Rattle.std.specs.Borrow.{Bor}
use Rattle.std.specs.Str.Parse.{IsNumeral, ParsesUnsigned, without_leading_plus}
use Rattle.clap.specs.Matches.{ReadsOne, matched_of, raw_values}
use Rattle.clap.specs.Walk.{rows_of}
use Rattle.clap.specs.declared.parser.matches.Found.{Found}
use Rattle.clap.proofs.WalkLemmas.{raw_values-rows}
use Rattle.pascal_command.specs.App.{row_files, row_words, whole}
use Rattle.pascal_command.specs.Command.{Text, topic_of}

pub text_or : (o : Option (Bor (List ℕ))) (d : Bor (List ℕ)) → (unwrap_or o d).now ≡ unwrap_or
    (option_map (λ s. s.now) o) d.now
text_or None d = refl
text_or (Some s) d = refl

-- a text that is a number below the type's end is read as that number
pub reads_whole : (E : Type 0) (G : List ℕ → Result ℕ E → Type 0) (k most : ℕ) (text : List ℕ) (r : Option ℕ)
    → ReadsOne G text r → ((u : List ℕ) (x : Result ℕ E) → G u x → ParsesUnsigned k 10 u x) → most < 2 ^ k
    → IsNumeral 10 (without_leading_plus text) → whole text ≤ most → r ≡ Some (whole text)
reads_whole E G k most text (Some v) read only fits numeral within = ap Some (only text (Ok v) read).1
reads_whole E G k most text None read only fits numeral within =
    let small : whole text < 2 ^ k = omega arith in
    absurd (only text (Err read.0) read.1 (numeral, small))

-- ---- the words of a topic

abbrev pub texts_in : Option (Bor (List (Bor Text))) → List Text
texts_in given = unwrap_or (option_map (λ s. map (λ word. word.now) s.now) given) []

pub words_are : (f : Found) (given : Option (Bor (List (Bor Text))))
    → option_map (λ s. map (λ word. word.now) s.now) given ≡ option_map raw_values (matched_of f (codes "WORD"))
    → row_words (rows_of f) ≡ texts_in given
words_are f given e = ap (λ o. unwrap_or o []) (sym (e ∙ raw_values-rows f (codes "WORD")))

rest_joined : (words : List (Bor Text)) → flat_map (λ word. codes " " ++ word) (map (λ word. word.now) words) ≡ flat_map
    (λ word. codes " " ++ word.now) words
rest_joined [] = refl
rest_joined (word ∷ words) = ap (λ rest. (codes " " ++ word.now) ++ rest) (rest_joined words)

pub topic_joined : (words : List (Bor Text)) → topic_of (map (λ word. word.now) words) ≡ join_by (λ word. word.now)
    (codes " ") words
topic_joined [] = refl
topic_joined (word ∷ words) = ap (λ rest. word.now ++ rest) (rest_joined words)

-- ---- the files of a check

pub files_are : (f : Found) (given : Option (Bor (List (Bor Text))))
    → option_map (λ s. map (λ word. word.now) s.now) given ≡ option_map raw_values (matched_of f (codes "FILE"))
    → row_files (rows_of f) ≡ texts_in given
files_are f given e = ap (λ o. unwrap_or o []) (sym (e ∙ raw_values-rows f (codes "FILE")))
