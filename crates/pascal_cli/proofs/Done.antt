-- The statuses of jobs.
use Rattle.std.proofs.Common.{◌≡◌, ◌⊎◌, ◌≤◌, ◌||◌, ◌∙◌, ◌+◌, ap, refl, sym, subst, ℕ, Bool, true, false, zero, suc}
use Rattle.std.proofs.Common.{List, [], ◌∷◌, Some, None, inl, inr, arith, cond, map}
use Rattle.std.specs.Prelude.{All, codes}
use Rattle.std.specs.List.{list_any}
use Rattle.std.specs.Str.{bytes_eq}
use Rattle.pascal_pages.specs.Asked.{asks, names_of}
use Rattle.pascal_pages.specs.declared.Page.{Page}
use Rattle.pascal_command.specs.Command.{Request, Text, Work, request_of}
use Rattle.pascal_cli.specs.Explain.{AreThePages, asked_pages, has_page, shown}
use Rattle.pascal_cli.specs.Jobs.{AreAccepted, IsAccepted, IsDone, IsStatus}
use Rattle.pascal_command.specs.Options.{plain_words}
use Rattle.pascal_session.specs.Session.{asks_version}
use Rattle.pascal_command.proofs.GivenRows.{same_text}

-- a job that failed, or did its work
pub did : (request : Request) (work : Work) (status : ℕ) → request.work ≡ work → (status ≡ 1)
    ⊎ IsDone work request.limits status → IsStatus request status
did request work status e done = subst (λ w. (status ≡ 1) ⊎ IsDone w request.limits status) (sym e) done

pub one_of_two : (status : ℕ) (fact : Type 0) → status ≤ 1 → (status ≡ 0 → fact) → (status ≡ 1) ⊎ ((status ≡ 0) × fact)
one_of_two zero fact most known = inr (refl, known refl)
one_of_two (suc zero) fact most known = inl refl
one_of_two (suc (suc n)) fact most known = absurd (omega (arith, most))

-- where something is shown, a page is asked for
asked_somewhere : (topic : List ℕ) (all : List Page) → (shown (asked_pages topic all) ≡ [] → ⊥) → list_any
    (λ names. asks names topic) (map names_of all) ≡ true
asked_somewhere topic [] some = absurd (some refl)
asked_somewhere topic (page ∷ rest) some = go (asks (names_of page) topic) some (asked_somewhere topic rest)
  where
    go : (b : Bool) → (shown (cond b (page ∷ asked_pages topic rest) (asked_pages topic rest)) ≡ [] → ⊥)
        → ((shown (asked_pages topic rest) ≡ [] → ⊥) → list_any (λ names. asks names topic) (map names_of rest) ≡ true)
        → (b || list_any (λ names. asks names topic) (map names_of rest)) ≡ true
    go true some later = refl
    go false some later = later some

pub page_is_there : (topic : List ℕ) (all : List Page) → AreThePages all → (shown (asked_pages topic all) ≡ [] → ⊥)
    → has_page topic ≡ true
unfolding has_page
page_is_there topic all are some = subst (λ names. list_any (λ n. asks n topic) names ≡ true) are
    (asked_somewhere topic all some)

-- ---- words

-- words that ask for nothing fail, or end well
pub ended : (words : List Text) (request : Request) (status : ℕ) → status ≤ 1 → (status ≡ 0 → request_of words ≡ None)
    → request_of words ≡ Some request
    → IsStatus request status
ended words request zero most none some = absurd (let e = sym (none refl) ∙ some in cc)
ended words request (suc zero) most none some = inl refl
ended words request (suc (suc n)) most none some = absurd (omega (arith, most))

-- a request is that of its words
pub of_words : (words : List Text) (asked request : Request) (status : ℕ) → request_of words ≡ Some asked
    → request_of words ≡ Some request
    → IsStatus asked status → IsStatus request status
of_words words asked request status one other done = subst (λ r. IsStatus r status) (same (sym one ∙ other)) done
  where
    same : Some asked ≡ Some request → asked ≡ request
    same e = cc

-- who asks for the version asks for nothing else
version_words : (words : List Text) → asks_version words ≡ true → request_of words ≡ None
version_words [] e = absurd (cc)
version_words (word ∷ other ∷ rest) e = absurd (cc)
version_words (word ∷ []) e = go (bytes_eq word (codes "--version")) refl (bytes_eq word (codes "-V")) refl e
  where
    go : (a : Bool) → bytes_eq word (codes "--version") ≡ a → (b : Bool) → bytes_eq word (codes "-V") ≡ b → (a || b)
        ≡ true → request_of (word ∷ []) ≡ None
    go true long b short e = subst (λ w. request_of (w ∷ []) ≡ None)
        (sym (same_text word (codes "--version") long)) refl
    go false long true short e = subst (λ w. request_of (w ∷ []) ≡ None) (sym (same_text word (codes "-V") short)) refl
    go false long false short e = absurd (cc)

-- one word alone has no option behind it
plain_one : (word : Text) → plain_words (word ∷ []) ≡ word ∷ []
plain_one word = refl

pub version_alone : (words : List Text) → asks_version words ≡ true → request_of (plain_words words) ≡ None
version_alone [] e = absurd (cc)
version_alone (word ∷ other ∷ rest) e = absurd (cc)
version_alone (word ∷ []) e = subst (λ words. request_of words ≡ None) (sym (plain_one word))
    (version_words (word ∷ []) e)

-- one text more that is accepted
more_accepted : (text : List ℕ) (texts : List (List ℕ)) → IsAccepted text → All IsAccepted texts → All IsAccepted
    (text ∷ texts)
more_accepted text texts one others zero none within = one
more_accepted text texts one others (suc k) none within = others k none (omega (arith, within))

pub one_accepted : (count : ℕ) → ((text : List ℕ) × IsAccepted text) → AreAccepted count → AreAccepted (suc count)
one_accepted count one others = (one.0 ∷ others.0, ap suc others.1, more_accepted one.0 others.0 one.1 others.2)

pub none_accepted : AreAccepted 0
none_accepted = ([], refl, λ k none within. absurd (omega (arith, within)))

pub next_accepted : (count : ℕ) → ((text : List ℕ) × IsAccepted text) → AreAccepted count → AreAccepted (count + 1)
next_accepted count one others = subst AreAccepted (omega arith) (one_accepted count one others)
