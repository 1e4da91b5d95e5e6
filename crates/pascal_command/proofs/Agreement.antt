-- What a parse of the program's words finds is what the words ask for.
use Rattle.std.proofs.lemmas.Bool.{true≢false}
use Rattle.std.proofs.Common.{◌≡◌, ◌∙◌, ap, refl, sym, subst, ◌++◌, ◌||◌, ◌==◌, ◌⊎◌, Bool, cond, true, false, List, []}
use Rattle.std.proofs.Common.{◌∷◌, Option, Some, None, inl, inr}
use Rattle.std.proofs.lemmas.List.{append-nil, append_assoc}
use Rattle.std.specs.Prelude.{if◌then◌else◌, codes, fold, is_some, option_map, IfSome}
use Rattle.std.specs.Str.{bytes_eq}
use Rattle.clap.specs.Faults.{check_fault, defaults_fault, entered_fault, fault_of, flag_word_fault, other_fault}
use Rattle.clap.specs.Faults.{settle_fault, step_fault, walk_fault}
use Rattle.clap.specs.Kinds.{HasKind, IsAmong, Kinds, or_else}
use Rattle.clap.specs.Values.{kind_of}
use Rattle.clap.specs.declared.error.Error.{Error}
use Rattle.pascal_command.specs.declared.job.CommandFault.TheVariants as fault
use Rattle.clap.specs.Lexer.{long_of, short_of}
use Rattle.clap.specs.Simple.{App, Shape, built, entered, names_of, subcommand_of}
use Rattle.clap.specs.Walk.{Held, Names, Row, Step, Text, Walk, after_step, arg_by_long, arg_by_short, finished, idle}
use Rattle.clap.specs.Walk.{long_or_other, nothing_held, rows_after, settled, subcommand_met, subcommand_or_other}
use Rattle.clap.specs.Walk.{trailing, walk_from, walked}
use Rattle.clap.specs.declared.error.kind.ErrorKind.TheVariants as kind
use Rattle.pascal_command.specs.App.{HasLimits, fault_in, found_digits, is_memory, pascal_app, row_request}
use Rattle.pascal_command.specs.Command.{Request, certify, certify_request, check, check_request, compile}
use Rattle.pascal_command.specs.Command.{compile_request, explain, explain_request, go, go_request, has_letters}
use Rattle.pascal_command.specs.Command.{image_name, is_line_fault, list, list_request, needs, needs_request}
use Rattle.pascal_command.specs.Command.{request_of, run, run_request, source_name, standard_request, verify}
use Rattle.pascal_command.specs.Command.{verify_request, watch_request}
use Rattle.pascal_command.specs.declared.job.Watch.TheVariants.{Cover, Profile, Trace, Why}
use Rattle.pascal_command.proofs.GivenRows.{Fails, One, fails_left, fails_right, same_text}
use Rattle.pascal_command.proofs.Leaves.{compile_ones, go_label, leaf_fault, limited_ones, list_ones, run_label}
use Rattle.pascal_command.proofs.Leaves.{verify_ones}
use Rattle.pascal_command.proofs.Flags.{help_or_none, letters_fail, letters_none, long_help, short_help}
use Rattle.pascal_command.proofs.LineWalk.{rules}
use Rattle.pascal_command.proofs.FileWalk.{files_fault, files_found}
use Rattle.pascal_command.proofs.TopicWalk.{topic_fault, topic_found}
use Rattle.pascal_command.proofs.LimitsAgree.{Agrees}
use Rattle.pascal_command.proofs.CommandsAgree.{certify_agrees, certify_label, check_agrees, check_label}
use Rattle.pascal_command.proofs.CommandsAgree.{compile_agrees, compile_label, cover_label, explain_agrees}
use Rattle.pascal_command.proofs.CommandsAgree.{explain_label, go_agrees, list_agrees, list_label, needs_agrees}
use Rattle.pascal_command.proofs.CommandsAgree.{needs_label, profile_label, run_agrees, trace_label, verify_agrees}
use Rattle.pascal_command.proofs.CommandsAgree.{verify_label, watch_agrees, why_label}

-- ---- the program

abbrev program : App
program = built pascal_app

abbrev top : Shape
top = program.top

abbrev names : Names
names = names_of program

abbrev pub TopAgrees : Option Request → Kinds → Option (Text × List Row) → Type 0
TopAgrees None faults found = Fails faults ⊎ ((faults ≡ []) × (found_digits found ≡ false))
TopAgrees (Some request) faults found = (faults ≡ []) × (row_request found ≡ request) × IfSome found
    (λ e. HasLimits e.1) × (found_digits found ≡ true)

-- the faults after the walk
abbrev tail_fault : Held → Bool → Kinds
tail_fault h has_command = or_else (settle_fault (rules []) false h)
    (or_else (defaults_fault (settled (rules []) h).rows (rules []))
    (check_fault top (finished (rules []) h) has_command))

abbrev TopEnd : Option Request → Kinds → Walk → Type 0
TopEnd o walk_kinds w = TopAgrees o
    (or_else walk_kinds (or_else (entered_fault program w.stopped)
    (tail_fault w.held (is_some (entered program w.stopped)))))
    (entered program w.stopped)

-- one turn, with its faults and the walk after it
abbrev TopTurn : Option Request → Kinds → Walk → List Text → Type 0
TopTurn o now after words = TopEnd o (or_else now (walk_fault top names after words))
    (fold (walked (rules []) names) after words)

abbrev top_met : Option Text → Text → Held × Step
top_met command word = subcommand_or_other (rules []) command idle 1 word nothing_held

abbrev top_now : Option Text → Text → Kinds
top_now command word = or_else (other_fault top command word nothing_held)
    (step_fault top 1 (top_met command word).0 (top_met command word).1)

abbrev top_after : Option Text → Text → Walk
top_after command word = after_step (rules []) word (walk_from nothing_held) (top_met command word).0
    (top_met command word).1

top_turn : (o : Option Request) (word : Text) (words : List Text)
    → TopTurn o (top_now (subcommand_met names idle word) word) (top_after (subcommand_met names idle word) word) words
    → TopAgrees o (fault_of pascal_app (word ∷ words)) (subcommand_of pascal_app (word ∷ words))
unfolding walked walk_fault
top_turn o word words t = t

top_bad : (now : Kinds) (after : Walk) (words : List Text) → Fails now → TopTurn None now after words
top_bad now after words f = inl (fails_left _ _ (fails_left _ _ f))

abbrev inside : Text → List Text → Walk
inside label words = record (walk_from nothing_held) { stopped = Some (label, words) }

-- the words after a command's name are left to the command
walk_inside : (label : Text) (before words : List Text) → fold (walked (rules []) names) (inside label before) words
    ≡ inside label (before ++ words)
unfolding walked
walk_inside label before [] = ap (inside label) (sym (append-nil before))
walk_inside label before (word ∷ words) =
    walk_inside label (before ++ word ∷ []) words ∙ ap (inside label) (append_assoc before (word ∷ []) words)

clean_inside : (label : Text) (before words : List Text) → walk_fault top names (inside label before) words ≡ []
unfolding walked walk_fault
clean_inside label before [] = refl
clean_inside label before (word ∷ words) = clean_inside label (before ++ word ∷ []) words

no_more : (a : Kinds) → a ≡ or_else a []
no_more [] = refl
no_more (k ∷ ks) = refl

tail_clean : tail_fault nothing_held true ≡ []
unfolding defaults_fault
tail_clean = refl

tail_none : tail_fault nothing_held false ≡ []
unfolding defaults_fault
tail_none = refl

command_turn : (label : Text) (fault : Kinds) (rows : List Row) (words : List Text) (o : Option Request)
    → entered_fault program (Some (label, words)) ≡ fault → entered program (Some (label, words)) ≡ Some (label, rows)
    → Agrees o fault (label, rows) → TopTurn o [] (inside label []) words
command_turn label fault rows words o fault_is rows_is agreed =
    subst (λ w. TopEnd o (walk_fault top names (inside label []) words) w) (sym (walk_inside label [] words))
    (subst (λ kinds. TopEnd o kinds (inside label words)) (sym (clean_inside label [] words))
    (subst (λ found. TopAgrees o (or_else (entered_fault program (Some (label, words)))
    (tail_fault nothing_held (is_some found))) found) (sym rows_is)
    (subst (λ kinds. TopAgrees o (or_else kinds (tail_fault nothing_held true)) (Some (label, rows))) (sym fault_is)
    (subst (λ kinds. TopAgrees o (or_else fault kinds) (Some (label, rows))) (sym tail_clean)
    (subst (λ kinds. TopAgrees o kinds (Some (label, rows))) (no_more fault)
    (as_top o agreed))))))
  where
    as_top : (r : Option Request) → Agrees r fault (label, rows) → TopAgrees r fault (Some (label, rows))
    as_top None a = a
    as_top (Some request) a = a

-- a word that names no command
abbrev stray_met : Bool → Option (Text × Option Text) → Text → Held × Step
stray_met b l word = if b then (nothing_held, trailing 1) else long_or_other (rules []) idle word l nothing_held

abbrev stray_now : Bool → Option (Text × Option Text) → Text → Kinds
stray_now b l word = or_else (if b then [] else flag_word_fault (rules []) false l word nothing_held)
    (step_fault top 1 (stray_met b l word).0 (stray_met b l word).1)

abbrev stray_after : Bool → Option (Text × Option Text) → Text → Walk
stray_after b l word = after_step (rules []) word (walk_from nothing_held) (stray_met b l word).0 (stray_met b l word).1

-- after `--` no word may follow
ended_turn : (words : List Text) → TopTurn (standard_request words) []
    (record (walk_from nothing_held) { is_trailing = true }) words
unfolding walk_fault
ended_turn [] = (tail_none, refl, tt, refl)
ended_turn (word ∷ words) = inl tt

plain_stray : (word : Text) (b : Bool) → has_letters word ≡ b → Fails (stray_now false None word)
plain_stray word true e = fails_left _ _ (letters_fail (rules []) (short_of word) [] None
    (λ x rest following. short_help (rules []) (arg_by_short (rules []) x) rest [] None following
    (help_or_none (104 == x))) e)
plain_stray word false e =
    let letters = letters_none (rules []) (short_of word) idle word [] None e in
    fails_right _ _ (subst (λ m. Fails (step_fault top 1 m.0 m.1)) (sym letters.1) tt)

stray_turn : (word : Text) (words : List Text) (b : Bool) (l : Option (Text × Option Text))
    → TopTurn (if b then standard_request words else None) (stray_now b l word) (stray_after b l word) words
stray_turn word words true l = ended_turn words
stray_turn word words false (Some nv) = top_bad (stray_now false (Some nv) word)
    (stray_after false (Some nv) word) words
    (fails_left _ _ (long_help (rules []) (arg_by_long (rules []) nv.0) nv.1 [] None
    (help_or_none (bytes_eq (codes "help") nv.0))))
stray_turn word words false None = top_bad (stray_now false None word) (stray_after false None word) words
    (plain_stray word (has_letters word) refl)

-- the command that the word names, by its tests
abbrev command_by : Bool → Bool → Bool → Bool → Bool → Bool → Bool → Bool → Bool → Bool → Bool → Bool → Bool → Bool
    → Option Text
command_by a b c d e f g k n p q r s h = option_map (λ (x : Text × List Text). x.0)
    (cond (a || false) (Some (compile_label, [])) (cond (b || false) (Some (list_label, []))
    (cond (c || false) (Some (run_label, []))
    (cond (d || false) (Some (go_label, [])) (cond (e || false) (Some (explain_label, []))
    (cond (f || false) (Some (check_label, []))
    (cond (g || false) (Some (certify_label, [])) (cond (k || false) (Some (verify_label, []))
    (cond (n || false) (Some (needs_label, [])) (cond (p || false) (Some (why_label, []))
    (cond (q || false) (Some (trace_label, [])) (cond (r || false) (Some (cover_label, []))
    (cond (s || false) (Some (profile_label, []))
    (cond (h || false) (Some (codes "help", [])) None))))))))))))))

leaf_turn : (label : Text) (ones : List One) (words : List Text) (o : Option Request) → entered_fault program
    (Some (label, words)) ≡ leaf_fault label ones words
    → entered program (Some (label, words)) ≡ Some (label, rows_after (rules ones) [] words)
    → Agrees o (leaf_fault label ones words) (label, rows_after (rules ones) [] words) → TopTurn o []
    (inside label []) words
leaf_turn label ones words o = command_turn label (leaf_fault label ones words)
    (rows_after (rules ones) [] words) words o

first_turn : (word : Text) (words : List Text) (a b c d e f g k n p q r s h : Bool) → bytes_eq (codes "help") word ≡ h
    → TopTurn (if a then compile_request words else if b then list_request words else if c then run_request words
    else if d then go_request words
    else if e then explain_request words else if f then check_request words else if g then certify_request words
    else if k then verify_request words else if n then needs_request words
    else if p then watch_request Why words else if q then watch_request Trace words
    else if r then watch_request Cover words else if s then watch_request Profile words
    else if bytes_eq word (codes "--") then standard_request words else None)
    (top_now (command_by a b c d e f g k n p q r s h) word) (top_after (command_by a b c d e f g k n p q r s h) word)
    words
first_turn word words true b c d e f g k n p q r s h helps = leaf_turn compile_label compile_ones words
    (compile_request words) refl refl (compile_agrees words)
first_turn word words false true c d e f g k n p q r s h helps = leaf_turn list_label list_ones words
    (list_request words) refl refl (list_agrees words)
first_turn word words false false true d e f g k n p q r s h helps = leaf_turn run_label (limited_ones image_name) words
    (run_request words) refl refl (run_agrees words)
first_turn word words false false false true e f g k n p q r s h helps = leaf_turn go_label
    (limited_ones source_name) words
    (go_request words) refl refl (go_agrees words)
first_turn word words false false false false true f g k n p q r s h helps =
    command_turn explain_label (topic_fault words) (topic_found words) words (explain_request words) refl refl
    (explain_agrees words)
first_turn word words false false false false false true g k n p q r s h helps =
    command_turn check_label (files_fault words) (files_found words) words (check_request words) refl refl
    (check_agrees words)
first_turn word words false false false false false false true k n p q r s h helps =
    leaf_turn certify_label compile_ones words (certify_request words) refl refl (certify_agrees words)
first_turn word words false false false false false false false true n p q r s h helps =
    leaf_turn verify_label verify_ones words (verify_request words) refl refl (verify_agrees words)
first_turn word words false false false false false false false false true p q r s h helps =
    leaf_turn needs_label list_ones words (needs_request words) refl refl (needs_agrees words)
first_turn word words false false false false false false false false false true q r s h helps =
    leaf_turn why_label (limited_ones source_name) words (watch_request Why words) refl refl
    (watch_agrees why_label Why (λ rows. refl) words)
first_turn word words false false false false false false false false false false true r s h helps =
    leaf_turn trace_label (limited_ones source_name) words (watch_request Trace words) refl refl
    (watch_agrees trace_label Trace (λ rows. refl) words)
first_turn word words false false false false false false false false false false false true s h helps =
    leaf_turn cover_label (limited_ones source_name) words (watch_request Cover words) refl refl
    (watch_agrees cover_label Cover (λ rows. refl) words)
first_turn word words false false false false false false false false false false false false true h helps =
    leaf_turn profile_label (limited_ones source_name) words (watch_request Profile words) refl refl
    (watch_agrees profile_label Profile (λ rows. refl) words)
first_turn word words false false false false false false false false false false false false false true helps =
    subst (λ w. TopTurn (if bytes_eq w (codes "--") then standard_request words else None)
    (top_now (Some (codes "help")) w) (top_after (Some (codes "help")) w) words)
    (same_text (codes "help") word helps) (top_bad (kind.DisplayHelp ∷ kind.InvalidSubcommand ∷ [])
    (top_after (Some (codes "help")) (codes "help")) words tt)
first_turn word words false false false false false false false false false false false false false false helps =
    stray_turn word words (bytes_eq word (codes "--")) (long_of word)

-- a parse of the words finds what they ask for, and fails where they ask for nothing
pub top_agrees : (words : List Text) → TopAgrees (request_of words) (fault_of pascal_app words)
    (subcommand_of pascal_app words)
unfolding walk_fault defaults_fault
top_agrees [] = (refl, refl, tt, refl)
top_agrees (word ∷ words) = top_turn _ word words
    (first_turn word words (bytes_eq (codes "compile") word) (bytes_eq (codes "list") word)
    (bytes_eq (codes "run") word) (bytes_eq (codes "go") word)
    (bytes_eq (codes "explain") word) (bytes_eq (codes "check") word) (bytes_eq (codes "certify") word)
    (bytes_eq (codes "verify") word) (bytes_eq (codes "needs") word) (bytes_eq (codes "why") word)
    (bytes_eq (codes "trace") word) (bytes_eq (codes "cover") word) (bytes_eq (codes "profile") word)
    (bytes_eq (codes "help") word) refl)

-- ---- what the code answers

pub is_asked : (o : Option Request) (faults : Kinds) (found : Option (Text × List Row)) → TopAgrees o faults found
    → faults ≡ [] → found_digits found ≡ true → (request : Request)
    → (IfSome found (λ e. HasLimits e.1) → request ≡ row_request found) → o ≡ Some request
is_asked None faults found (inl fails) none digits request is = absurd (subst Fails none fails)
is_asked None faults found (inr odd) none digits request is = absurd (true≢false (sym digits ∙ odd.1))
is_asked (Some asked) faults found agreed none digits request is = ap Some (sym (is agreed.2 ∙ agreed.1))

-- a number that is not digits alone is asked of nothing
pub is_odd : (o : Option Request) (faults : Kinds) (found : Option (Text × List Row)) → TopAgrees o faults found
    → found_digits found ≡ false → o ≡ None
is_odd None faults found agreed odd = refl
is_odd (Some asked) faults found agreed odd = absurd (true≢false (sym agreed.3 ∙ odd))

not_memory : (error : Error) → kind_of error ≡ kind.OutOfMemory → is_line_fault (fault_in error) ≡ false
not_memory error e = ap (λ k. is_line_fault (if is_memory k then fault.OutOfMemory else fault.Line error)) e

pub is_refused : (o : Option Request) (faults : Kinds) (found : Option (Text × List Row)) → TopAgrees o faults found
    → (error : Error)
    → HasKind faults error → is_line_fault (fault_in error) ≡ true → o ≡ None
is_refused None faults found agreed error has line = refl
is_refused (Some asked) faults found agreed error (inl memory) line = absurd
    (true≢false (sym line ∙ not_memory error memory))
is_refused (Some asked) faults found agreed error (inr among) line = absurd
    (subst (IsAmong (kind_of error)) agreed.0 among)
