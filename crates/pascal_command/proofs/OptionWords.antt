-- What the options ask for, word by word.
use Rattle.std.proofs.Common.{◌≡◌, ◌∙◌, ap, refl, sym, subst, true, false, if◌then◌else◌, List, [], ◌∷◌, Option, Some}
use Rattle.std.proofs.Common.{None, arith, ◌<◌, ◌≤◌, ◌-◌, drop, get_or, length, map, option_map, take}
use Rattle.std.proofs.lemmas.List.{take_all}
use Rattle.std.specs.Borrow.{Bor}
use Rattle.std.specs.Prelude.{option_and_then}
use Rattle.pascal_command.specs.Command.{Text}
use Rattle.pascal_command.specs.Wanted.{Wanted, is_end, wanted_behind, with_next}

-- what the words behind a word ask for
abbrev behind : Text → List Text → Option (Wanted × Option Text) → Option Wanted
behind command rest more = option_and_then (λ next. wanted_behind command next.0 next.1 rest) more

parted : (command word : Text) (wanted : Wanted) (before : Option Text) (rest : List Text)
    → wanted_behind command wanted before (word ∷ rest)
    ≡ (if is_end before word then Some wanted else behind command rest (with_next command wanted before word))
unfolding wanted_behind
parted command word wanted None rest = refl
parted command word wanted (Some option) rest = refl

pub goes_on : (command word : Text) (wanted more : Wanted) (before next : Option Text) (rest : List Text)
    → is_end before word ≡ false → with_next command wanted before word ≡ Some (more, next)
    → wanted_behind command wanted before (word ∷ rest) ≡ wanted_behind command more next rest
goes_on command word wanted more before next rest e is =
    parted command word wanted before rest
    ∙ (ap (λ b. if b then Some wanted else behind command rest (with_next command wanted before word)) e
    ∙ ap (behind command rest) is)

pub fails : (command word : Text) (wanted : Wanted) (before : Option Text) (rest : List Text)
    → is_end before word ≡ false → with_next command wanted before word ≡ None
    → wanted_behind command wanted before (word ∷ rest) ≡ None
fails command word wanted before rest e is =
    parted command word wanted before rest
    ∙ (ap (λ b. if b then Some wanted else behind command rest (with_next command wanted before word)) e
    ∙ ap (behind command rest) is)

pub ends : (command word : Text) (wanted : Wanted) (before : Option Text) (rest : List Text) → is_end before word ≡ true
    → wanted_behind command wanted before (word ∷ rest) ≡ Some wanted
ends command word wanted before rest e =
    parted command word wanted before rest
    ∙ ap (λ b. if b then Some wanted else behind command rest (with_next command wanted before word)) e

-- ---- words as they are borrowed

abbrev before_of : Option (Bor Text) → Option Text
before_of before = option_map (λ option. option.now) before

-- behind a word that was taken
pub on : (command : Text) (wanted more : Wanted) (before next : Option (Bor Text)) (rest : List (Bor Text))
    (d : Bor Text)
    (asked : Option Wanted) → 1 ≤ length rest → is_end (before_of before) (get_or rest 0 d).now ≡ false
    → with_next command wanted (before_of before) (get_or rest 0 d).now ≡ Some (more, before_of next)
    → wanted_behind command wanted (before_of before) (map (λ word. word.now) rest) ≡ asked
    → wanted_behind command more (before_of next) (map (λ word. word.now) (take (length rest - 1) (drop 1 rest)))
    ≡ asked
on command wanted more before next [] d asked some e is so_far = absurd (omega (arith, some))
on command wanted more before next (word ∷ rest) d asked some e is so_far =
    subst (λ t. wanted_behind command more (before_of next) (map (λ word. word.now) t) ≡ asked)
    (sym (take_all (length (word ∷ rest) - 1) rest (omega arith)))
    (sym (goes_on command word.now wanted more (before_of before) (before_of next) (map (λ word. word.now) rest) e is)
    ∙ so_far)

-- where no word is left
pub done : (command : Text) (wanted : Wanted) (before : Option (Bor Text)) (rest : List (Bor Text))
    (asked : Option Wanted) → length rest < 1 → before ≡ None
    → wanted_behind command wanted (before_of before) (map (λ word. word.now) rest) ≡ asked → asked ≡ Some wanted
unfolding wanted_behind
done command wanted None [] asked none is so_far = sym so_far
done command wanted (Some option) [] asked none is so_far = absurd (let no = is in cc no)
done command wanted before (word ∷ rest) asked none is so_far = absurd (omega (arith, none))

pub lacks : (command : Text) (wanted : Wanted) (option : Bor Text) (before : Option (Bor Text)) (rest : List (Bor Text))
    (asked : Option Wanted) → length rest < 1 → before ≡ Some option
    → wanted_behind command wanted (before_of before) (map (λ word. word.now) rest) ≡ asked → asked ≡ None
unfolding wanted_behind
lacks command wanted option (Some other) [] asked none is so_far = sym so_far
lacks command wanted option None [] asked none is so_far = absurd (let no = is in cc no)
lacks command wanted option before (word ∷ rest) asked none is so_far = absurd (omega (arith, none))
