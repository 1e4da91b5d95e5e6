-- The words of each command are read as the rules for words say.
use Rattle.std.proofs.lemmas.Bool.{true≢false}
use Rattle.std.proofs.Common.{◌≡◌, ◌∙◌, ap, ap₂, refl, sym, subst, ◌&&◌, ◌||◌, Bool, true, false, not, List, [], ◌∷◌}
use Rattle.std.proofs.Common.{Option, Some, None, inl, inr}
use Rattle.std.specs.Prelude.{if◌then◌else◌, codes, is_some, option_map, option_and_then, unwrap_or, slice_get, IfSome}
use Rattle.std.specs.List.{list_all}
use Rattle.std.specs.Option.{option_map_or}
use Rattle.clap.specs.Facts.{explicit_source}
use Rattle.clap.specs.Kinds.{Kinds}
use Rattle.clap.specs.Walk.{Row, Text, arg_by_id, first_of, one_of, row_text, rows_after}
use Rattle.clap.specs.declared.error.kind.ErrorKind.TheVariants as kind
use Rattle.pascal_command.specs.App.{HasLimits, IsWithin, row_digits, row_limits, row_path, row_work, whole}
use Rattle.pascal_command.specs.Command.{Given, Limits, Request, Work, are_digits, certificate_name, certify}
use Rattle.pascal_command.specs.Command.{certify_request, check, check_given, check_request, compile, compile_request}
use Rattle.pascal_command.specs.Command.{default_limits, explain, explain_request, go, go_request, has_digits}
use Rattle.pascal_command.specs.Command.{image_name, limit_names, limits_of, list, list_request, needs, needs_request}
use Rattle.pascal_command.specs.Command.{read, run, run_request, source_name, topic_of, topic_words, value_of, verify}
use Rattle.pascal_command.specs.Command.{verify_given, verify_request, watch, watch_request}
use Rattle.pascal_command.specs.declared.job.Watch.{Watch}
use Rattle.pascal_command.specs.declared.job.TheConstants.{DEFAULT_HEAP, DEFAULT_STACK, DEFAULT_STEPS, MAX_BUDGET}
use Rattle.pascal_command.specs.declared.job.TheConstants.{MAX_STEPS}
use Rattle.pascal_command.proofs.GivenRows.{AllFit, Fails, One, row, value_fits}
use Rattle.pascal_command.proofs.Leaves.{LeafEnds, compile_leaf, compile_ones, end_look, end_row, end_rows, go_label}
use Rattle.pascal_command.proofs.Leaves.{go_leaf, has_good_default, leaf_ends, leaf_fault, limited_ones, list_leaf}
use Rattle.pascal_command.proofs.Leaves.{list_ones, look, or_defaults, run_label, run_leaf, verify_leaf, verify_ones}
use Rattle.pascal_command.proofs.LineWalk.{Leaf, rules}
use Rattle.pascal_command.proofs.FileWalk.{FileEnds, file_ends, files_fault, files_found}
use Rattle.pascal_command.proofs.TopicWalk.{TopicEnds, topic_ends, topic_fault, topic_found, topic_rows}
use Rattle.pascal_command.proofs.LimitsAgree.{Agrees, digits_agree, first_at, limits, limits_agree, limits_by, one_at}

-- ---- the commands

abbrev is_there : Option Row → Bool
is_there o = option_map_or (λ r. explicit_source r.source) o false

abbrev missing : Bool → Kinds
missing b = if b then kind.MissingRequiredArgument ∷ [] else []

abbrev first_text : Option Row → Option Text
first_text o = option_and_then (λ r. slice_get r.values 0) o

abbrev requested : Work → Limits → Request
requested work with_limits = record { work = work; limits = with_limits }

limited_agrees : (label name : Text) (work : Text → Work)
    → ((rows : List Row) → row_work label rows ≡ work (row_path name rows))
    → or_defaults name None (rules (limited_ones name)) ≡ None → list_all has_good_default (rules (limited_ones name))
    ≡ true
    → Leaf (limited_ones name) limit_names (name ∷ []) → (words : List Text)
    → Agrees (option_and_then (λ given. if has_digits given then option_map
    (λ text. requested (work text) (limits_of given)) (value_of name given) else None)
    (read limit_names (name ∷ []) None [] words))
    (leaf_fault label (limited_ones name) words) (label, rows_after (rules (limited_ones name)) [] words)
limited_agrees label name work work_is none_is clean facts words =
    go (read limit_names (name ∷ []) None [] words) (leaf_ends label ones limit_names (name ∷ []) facts clean words)
  where
    ones : List One
    ones = limited_ones name

    lacking : (given : Given) → LeafEnds label ones words (Some given) → value_of name given ≡ None → Fails
        (leaf_fault label ones words)
    lacking given ends e =
        let none : end_row (rules ones) name given
        ≡ None = ap (λ t. or_defaults name (option_map (row name) t) (rules ones)) e ∙ none_is in
        subst Fails (sym (ends.0 ∙ ap (λ r. missing (not (is_there r) || false))
        (end_look (rules ones) name given ∙ none))) tt

    no_fault : (given : Given) → LeafEnds label ones words (Some given) → (text : Text) → value_of name given
        ≡ Some text → leaf_fault label ones words ≡ []
    no_fault given ends text e =
        let some : end_row (rules ones) name given ≡ Some
        (row name text) = ap (λ t. or_defaults name (option_map (row name) t) (rules ones)) e in
        ends.0 ∙ ap (λ r. missing (not (is_there r) || false)) (end_look (rules ones) name given ∙ some)

    found : (given : Given) → LeafEnds label ones words (Some given) → (o : Option Text) → value_of name given ≡ o
        → (digits : Bool) → has_digits given ≡ digits
        → Agrees (if digits then option_map (λ text. requested (work text) (limits_of given)) o else None)
        (leaf_fault label ones words) (label, end_rows ones given)
    found given ends None e true d = inl (lacking given ends e)
    found given ends None e false d = inl (lacking given ends e)
    found given ends (Some text) e false d = inr (no_fault given ends text e, digits_agree name given ∙ d)
    found given ends (Some text) e true d =
        let some : end_row (rules ones) name given ≡ Some
        (row name text) = ap (λ t. or_defaults name (option_map (row name) t) (rules ones)) e in
        let path : row_path name (end_rows ones given) ≡ text = ap (λ r. unwrap_or (first_text r) [])
        (end_look (rules ones) name given ∙ some) in
        let agreed = limits_agree name given ends.2 in (
          no_fault given ends text e,
          ap (λ w. requested w (row_limits (end_rows ones given))) (work_is (end_rows ones given) ∙ ap work path)
              ∙ ap (requested (work text)) agreed.0,
          agreed.1,
          digits_agree name given ∙ d,
        )

    go : (o : Option Given) → LeafEnds label ones words o
        → Agrees (option_and_then (λ given. if has_digits given then option_map
        (λ text. requested (work text) (limits_of given)) (value_of name given) else None) o)
        (leaf_fault label ones words) (label, rows_after (rules ones) [] words)
    go None ends = inl ends
    go (Some given) ends =
        subst (λ rows. Agrees (if has_digits given then option_map (λ text. requested (work text) (limits_of given))
        (value_of name given) else None) (leaf_fault label ones words) (label, rows))
        (sym ends.1) (found given ends (value_of name given) refl (has_digits given) refl)

pub run_agrees : (words : List Text) → Agrees (run_request words) (leaf_fault run_label (limited_ones image_name) words)
    (run_label, rows_after (rules (limited_ones image_name)) [] words)
run_agrees words = limited_agrees run_label image_name (λ text. run text) (λ rows. refl) refl refl run_leaf words

pub go_agrees : (words : List Text) → Agrees (go_request words) (leaf_fault go_label (limited_ones source_name) words)
    (go_label, rows_after (rules (limited_ones source_name)) [] words)
go_agrees words = limited_agrees go_label source_name (λ text. go text) (λ rows. refl) refl refl go_leaf words

abbrev pub why_label : Text
why_label = codes "why"

abbrev pub trace_label : Text
trace_label = codes "trace"

abbrev pub cover_label : Text
cover_label = codes "cover"

abbrev pub profile_label : Text
profile_label = codes "profile"

pub watch_agrees : (label : Text) (how : Watch) → ((rows : List Row) → row_work label rows ≡ watch how
    (row_path source_name rows)) → (words : List Text)
    → Agrees (watch_request how words) (leaf_fault label (limited_ones source_name) words)
    (label, rows_after (rules (limited_ones source_name)) [] words)
watch_agrees label how is words = limited_agrees label source_name (λ text. watch how text) is refl refl go_leaf words

abbrev pub compile_label : Text
compile_label = codes "compile"

abbrev pub list_label : Text
list_label = codes "list"

-- the commands have no such option, and no default for it
abbrev IsNoOptionOf : List One → Text → Type 0
IsNoOptionOf ones name = (arg_by_id (rules ones) name ≡ None) × (or_defaults name None (rules ones) ≡ None)

-- compile and list take no limits, so they were given none
no_limit : (ones : List One) (name : Text) → IsNoOptionOf ones name → (given : Given) → AllFit (rules ones) given
    → one_of name (end_rows ones given) ≡ None
no_limit ones name none given all_fit = one_at ones name given ∙ go (value_of name given) refl
  where
    go : (o : Option Text) → value_of name given ≡ o → option_and_then row_text
        (or_defaults name (option_map (row name) o) (rules ones)) ≡ None
    go None e = ap (option_and_then row_text) none.1
    go (Some t) e = absurd (true≢false (sym (value_fits (rules ones) name t given all_fit e).1
        ∙ ap (λ o. is_some o) none.0))

no_digits : (ones : List One) (name : Text) → IsNoOptionOf ones name → (given : Given) → AllFit (rules ones) given
    → are_digits (first_of name (end_rows ones given)) ≡ true
no_digits ones name none given all_fit = ap are_digits (first_at ones name given) ∙ go (value_of name given) refl
  where
    go : (o : Option Text) → value_of name given ≡ o → are_digits
        (option_and_then (λ r. slice_get r.values 0) (or_defaults name (option_map (row name) o) (rules ones))) ≡ true
    go None e = ap (λ r. are_digits (option_and_then (λ (x : Row). slice_get x.values 0) r)) none.1
    go (Some t) e = absurd (true≢false (sym (value_fits (rules ones) name t given all_fit e).1
        ∙ ap (λ o. is_some o) none.0))

no_limits : (ones : List One) → IsNoOptionOf ones (codes "stack") → IsNoOptionOf ones (codes "heap") → IsNoOptionOf ones
    (codes "steps")
    → (given : Given) → AllFit (rules ones) given
    → (row_limits (end_rows ones given) ≡ default_limits) × HasLimits (end_rows ones given)
    × (row_digits (end_rows ones given) ≡ true)
no_limits ones no_stack no_heap no_steps given all_fit =
    let stack = no_limit ones (codes "stack") no_stack given all_fit in
    let heap = no_limit ones (codes "heap") no_heap given all_fit in
    let steps = no_limit ones (codes "steps") no_steps given all_fit in (
      limits_by _ _ _ _ _ _ (ap (λ o. option_map_or whole o DEFAULT_STACK) stack)
          (ap (λ o. option_map_or whole o DEFAULT_HEAP) heap) (ap (λ o. option_map_or whole o DEFAULT_STEPS) steps),
      (
        subst (λ o. IfSome o (IsWithin 0 MAX_BUDGET)) (sym stack) tt,
        subst (λ o. IfSome o (IsWithin 0 MAX_BUDGET)) (sym heap) tt,
        subst (λ o. IfSome o (IsWithin 1 MAX_STEPS)) (sym steps) tt,
      ),
      ap₂ (λ a b. a && b) (no_digits ones (codes "stack") no_stack given all_fit)
          (ap₂ (λ a b. a && b) (no_digits ones (codes "heap") no_heap given all_fit)
          (no_digits ones (codes "steps") no_steps given all_fit)),
    )

-- a command with a source and an image
two_agree : (label : Text) (work : Text → Text → Work)
    → ((rows : List Row) → row_work label rows ≡ work (row_path source_name rows) (row_path image_name rows))
    → (words : List Text)
    → Agrees (option_and_then (λ given. option_and_then
    (λ s. option_map (λ i. requested (work s i) default_limits) (value_of image_name given))
    (value_of source_name given))
    (read [] (source_name ∷ image_name ∷ []) None [] words)) (leaf_fault label compile_ones words)
    (label, rows_after (rules compile_ones) [] words)
two_agree label work work_is words = go_on (read [] (source_name ∷ image_name ∷ []) None [] words)
    (leaf_ends label compile_ones [] (source_name ∷ image_name ∷ []) compile_leaf refl words)
  where
    asked : Option Text → Option Text → Option Request
    asked source image = option_and_then (λ s. option_map (λ i. requested (work s i) default_limits) image) source

    lacks : Option Text → Option Text → Kinds
    lacks source image = missing (not (is_there
        (or_defaults source_name (option_map (row source_name) source) (rules compile_ones)))
        || (not (is_there (or_defaults image_name (option_map (row image_name) image) (rules compile_ones))) || false))

    texts : Option Text → Option Text → Work
    texts source image = work (unwrap_or (first_text
        (or_defaults source_name (option_map (row source_name) source) (rules compile_ones))) [])
        (unwrap_or (first_text (or_defaults image_name (option_map (row image_name) image) (rules compile_ones))) [])

    found : (source image : Option Text) (faults : Kinds) (rows : List Row) → faults ≡ lacks source image
        → row_work label rows ≡ texts source image
        → (row_limits rows ≡ default_limits) × HasLimits rows × (row_digits rows ≡ true) → Agrees
        (asked source image) faults (label, rows)
    found None image faults rows e w l = inl (subst Fails (sym e) tt)
    found (Some s) None faults rows e w l = inl (subst Fails (sym e) tt)
    found (Some s) (Some i) faults rows e w l = (e, ap₂ requested w l.0, l.1, l.2)

    go_on : (o : Option Given) → LeafEnds label compile_ones words o
        → Agrees (option_and_then (λ given. asked (value_of source_name given) (value_of image_name given)) o)
        (leaf_fault label compile_ones words) (label, rows_after (rules compile_ones) [] words)
    go_on None ends = inl ends
    go_on (Some given) ends =
        let source = end_look (rules compile_ones) source_name given in
        let image = end_look (rules compile_ones) image_name given in
        subst (λ rows. Agrees (asked (value_of source_name given) (value_of image_name given))
        (leaf_fault label compile_ones words) (label, rows)) (sym ends.1)
        (found (value_of source_name given) (value_of image_name given) (leaf_fault label compile_ones words)
        (end_rows compile_ones given)
        (ends.0 ∙ ap₂ (λ a b. missing (not (is_there a) || (not (is_there b) || false))) source image)
        (work_is (end_rows compile_ones given) ∙ ap₂
        (λ a b. work (unwrap_or (first_text a) []) (unwrap_or (first_text b) [])) source image)
        (no_limits compile_ones (refl, refl) (refl, refl) (refl, refl) given ends.2))

pub compile_agrees : (words : List Text) → Agrees (compile_request words) (leaf_fault compile_label compile_ones words)
    (compile_label, rows_after (rules compile_ones) [] words)
compile_agrees words = two_agree compile_label (λ s i. compile s i) (λ rows. refl) words

abbrev pub certify_label : Text
certify_label = codes "certify"

pub certify_agrees : (words : List Text) → Agrees (certify_request words) (leaf_fault certify_label compile_ones words)
    (certify_label, rows_after (rules compile_ones) [] words)
certify_agrees words = two_agree certify_label (λ s i. certify s i) (λ rows. refl) words

abbrev pub verify_label : Text
verify_label = codes "verify"

pub verify_agrees : (words : List Text) → Agrees (verify_request words) (leaf_fault verify_label verify_ones words)
    (verify_label, rows_after (rules verify_ones) [] words)
verify_agrees words = go_on (read [] (certificate_name ∷ source_name ∷ image_name ∷ []) None [] words)
    (leaf_ends verify_label verify_ones [] (certificate_name ∷ source_name ∷ image_name ∷ []) verify_leaf refl words)
  where
    row_at : Text → Option Text → Option Row
    row_at name text = or_defaults name (option_map (row name) text) (rules verify_ones)

    asked : Option Text → Option Text → Option Text → Option Request
    asked certificate source image = option_and_then
        (λ c. option_and_then (λ s. option_map (λ i. requested (verify c s i) default_limits) image) source) certificate

    lacks_rows : Option Row → Option Row → Option Row → Kinds
    lacks_rows a b c = missing (not (is_there a) || (not (is_there b) || (not (is_there c) || false)))

    text_of : Option Row → Text
    text_of o = unwrap_or (first_text o) []

    found : (certificate source image : Option Text) (faults : Kinds) (rows : List Row)
        → faults ≡ lacks_rows (row_at certificate_name certificate) (row_at source_name source)
        (row_at image_name image)
        → row_work verify_label rows ≡ verify (text_of (row_at certificate_name certificate))
        (text_of (row_at source_name source)) (text_of (row_at image_name image))
        → (row_limits rows ≡ default_limits) × HasLimits rows × (row_digits rows ≡ true) → Agrees
        (asked certificate source image) faults (verify_label, rows)
    found None source image faults rows e w l = inl (subst Fails (sym e) tt)
    found (Some c) None image faults rows e w l = inl (subst Fails (sym e) tt)
    found (Some c) (Some s) None faults rows e w l = inl (subst Fails (sym e) tt)
    found (Some c) (Some s) (Some i) faults rows e w l = (e, ap₂ requested w l.0, l.1, l.2)

    go_on : (o : Option Given) → LeafEnds verify_label verify_ones words o
        → Agrees (option_and_then verify_given o) (leaf_fault verify_label verify_ones words)
        (verify_label, rows_after (rules verify_ones) [] words)
    go_on None ends = inl ends
    go_on (Some given) ends =
        let certificate = end_look (rules verify_ones) certificate_name given in
        let source = end_look (rules verify_ones) source_name given in
        let image = end_look (rules verify_ones) image_name given in
        subst (λ rows. Agrees (verify_given given) (leaf_fault verify_label verify_ones words) (verify_label, rows))
        (sym ends.1)
        (found (value_of certificate_name given) (value_of source_name given) (value_of image_name given)
        (leaf_fault verify_label verify_ones words) (end_rows verify_ones given)
        (ends.0 ∙ (ap (λ a. lacks_rows a (look source_name (end_rows verify_ones given))
        (look image_name (end_rows verify_ones given))) certificate ∙ ap₂
        (λ b c. lacks_rows (row_at certificate_name (value_of certificate_name given)) b c) source image))
        (ap (λ a. verify (text_of a) (text_of (look source_name (end_rows verify_ones given)))
        (text_of (look image_name (end_rows verify_ones given)))) certificate ∙ ap₂
        (λ b c. verify (text_of (row_at certificate_name (value_of certificate_name given))) (text_of b)
        (text_of c)) source image)
        (no_limits verify_ones (refl, refl) (refl, refl) (refl, refl) given ends.2))

-- a command that takes one source: list and needs
abbrev source_given : (Text → Work) → Given → Option Request
source_given work given = option_map (λ s. requested (work s) default_limits) (value_of source_name given)

source_agrees : (label : Text) (work : Text → Work)
    → ((rows : List Row) → row_work label rows ≡ work (row_path source_name rows)) → (words : List Text)
    → Agrees (option_and_then (source_given work) (read [] (source_name ∷ []) None [] words))
    (leaf_fault label list_ones words) (label, rows_after (rules list_ones) [] words)
source_agrees label work is words = go_on (read [] (source_name ∷ []) None [] words)
    (leaf_ends label list_ones [] (source_name ∷ []) list_leaf refl words)
  where
    asked : Option Text → Option Request
    asked source = option_map (λ s. requested (work s) default_limits) source

    lacks : Option Text → Kinds
    lacks source = missing (not (is_there (or_defaults source_name (option_map (row source_name) source)
        (rules list_ones))) || false)

    texts : Option Text → Work
    texts source = work (unwrap_or (first_text
        (or_defaults source_name (option_map (row source_name) source) (rules list_ones))) [])

    found : (source : Option Text) (faults : Kinds) (rows : List Row) → faults ≡ lacks source → row_work label rows
        ≡ texts source
        → (row_limits rows ≡ default_limits) × HasLimits rows × (row_digits rows ≡ true) → Agrees (asked source) faults
        (label, rows)
    found None faults rows e w l = inl (subst Fails (sym e) tt)
    found (Some s) faults rows e w l = (e, ap₂ requested w l.0, l.1, l.2)

    go_on : (o : Option Given) → LeafEnds label list_ones words o
        → Agrees (option_and_then (source_given work) o) (leaf_fault label list_ones words)
        (label, rows_after (rules list_ones) [] words)
    go_on None ends = inl ends
    go_on (Some given) ends =
        let source = end_look (rules list_ones) source_name given in
        subst (λ rows. Agrees (source_given work given) (leaf_fault label list_ones words) (label, rows)) (sym ends.1)
        (found (value_of source_name given) (leaf_fault label list_ones words) (end_rows list_ones given)
        (ends.0 ∙ ap (λ a. missing (not (is_there a) || false)) source)
        (is (end_rows list_ones given) ∙ ap (λ a. work (unwrap_or (first_text a) [])) source)
        (no_limits list_ones (refl, refl) (refl, refl) (refl, refl) given ends.2))

pub list_agrees : (words : List Text) → Agrees (list_request words) (leaf_fault list_label list_ones words)
    (list_label, rows_after (rules list_ones) [] words)
list_agrees words = source_agrees list_label (λ text. list text) (λ rows. refl) words

abbrev pub needs_label : Text
needs_label = codes "needs"

pub needs_agrees : (words : List Text) → Agrees (needs_request words) (leaf_fault needs_label list_ones words)
    (needs_label, rows_after (rules list_ones) [] words)
needs_agrees words = source_agrees needs_label (λ text. needs text) (λ rows. refl) words

abbrev pub explain_label : Text
explain_label = codes "explain"

pub explain_agrees : (words : List Text) → Agrees (explain_request words) (topic_fault words)
    (explain_label, topic_found words)
explain_agrees words = go_on (topic_words words) (topic_ends words)
  where
    asked : List Text → Request
    asked topic = requested (explain (topic_of topic)) default_limits

    found : (topic : List Text) (faults : Kinds) → faults ≡ [] → Agrees (Some (asked topic)) faults
        (explain_label, topic_rows topic)
    found [] faults e = (e, refl, (tt, tt, tt), refl)
    found (word ∷ rest) faults e = (e, refl, (tt, tt, tt), refl)

    go_on : (o : Option (List Text)) → TopicEnds words o → Agrees (option_map asked o) (topic_fault words)
        (explain_label, topic_found words)
    go_on None ends = inl ends
    go_on (Some topic) ends =
        subst (λ rows. Agrees (Some (asked topic)) (topic_fault words) (explain_label, rows)) (sym ends.1)
        (found topic (topic_fault words) ends.0)

abbrev pub check_label : Text
check_label = codes "check"

pub check_agrees : (words : List Text) → Agrees (check_request words) (files_fault words)
    (check_label, files_found words)
check_agrees words = go_on (topic_words words) (file_ends words)
  where
    go_on : (o : Option (List Text)) → FileEnds words o → Agrees (option_and_then check_given o) (files_fault words)
        (check_label, files_found words)
    go_on None ends = inl ends
    go_on (Some []) ends = inl ends
    go_on (Some (file ∷ files)) ends =
        subst (λ rows. Agrees (Some (requested (check (file ∷ files)) default_limits)) (files_fault words)
        (check_label, rows)) (sym ends.1)
        (ends.0, refl, (tt, tt, tt), refl)
