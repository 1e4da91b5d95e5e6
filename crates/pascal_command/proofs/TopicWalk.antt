-- What `clap`'s walk over the words of `explain` finds, against the words of its topic.
use Rattle.std.proofs.Common.{◌≡◌, ◌∙◌, ap, refl, sym, subst, ◌++◌, ◌||◌, ◌==◌, Bool, true, false, List, [], ◌∷◌}
use Rattle.std.proofs.Common.{Option, Some, None}
use Rattle.std.proofs.lemmas.List.{append-nil, append_assoc}
use Rattle.std.specs.Prelude.{if◌then◌else◌, codes, fold, is_some, option_map}
use Rattle.std.specs.Str.{bytes_eq}
use Rattle.clap.specs.Lexer.{long_of, short_of}
use Rattle.clap.specs.Kinds.{Kinds, or_else}
use Rattle.clap.specs.Faults.{check_fault, defaults_fault, flag_word_fault, level_fault, settle_fault, step_fault}
use Rattle.clap.specs.Faults.{turn_fault, walk_fault}
use Rattle.clap.specs.Simple.{Shape, filled, new_shape, with_index}
use Rattle.clap.specs.Walk.{Held, Row, Rule, Step, Text, Waiting, Walk, after_step, arg_by_long, arg_by_short, idle}
use Rattle.clap.specs.Walk.{long_or_other, nothing_held, plain_word, positional, rows_after, settled, to_positional}
use Rattle.clap.specs.Walk.{trailing, used, value, walk_from, walked, with_default}
use Rattle.clap.specs.declared.builder.value_parser.Reading.TheVariants.{AsWritten}
use Rattle.clap.specs.declared.parser.matches.ValueSource.TheVariants.{CommandLine}
use Rattle.pascal_command.specs.App.{words_rule}
use Rattle.pascal_command.specs.Command.{has_letters, topic_words}
use Rattle.pascal_command.proofs.Flags.{help, help_or_none, hold, letters_fail, letters_none, letters_now, long_help}
use Rattle.pascal_command.proofs.Flags.{short_help}
use Rattle.pascal_command.proofs.GivenRows.{Fails, fails_left, or_else-assoc}

-- the rule of the words as building fills it in
abbrev topic_rule : Rule
topic_rule = with_index 1 (filled words_rule)

abbrev all : List Rule
all = topic_rule ∷ help ∷ []

abbrev pub topic_leaf : Shape
topic_leaf = record (new_shape (codes "explain")) {
  rules = all;
  no_binary_name = true;
  disable_help_subcommand = true;
  is_built = true;
}

-- the rows of words
abbrev pub topic_rows : List Text → List Row
topic_rows [] = []
topic_rows (word ∷ words) = record {
  id = codes "WORD";
  values = word ∷ words;
  count = None;
  source = Some CommandLine;
  reading = AsWritten;
} ∷ []

one_more : (words : List Text) (word : Text) → used topic_rule (word ∷ []) (topic_rows words) ≡ topic_rows
    (words ++ word ∷ [])
one_more [] word = refl
one_more (first ∷ words) word = refl

-- what was met: nothing, or words and behind them one that waits to be used
abbrev Met : Type 0
Met = Option (List Text × Text)

abbrev words_met : Met → List Text
words_met None = []
words_met (Some m) = m.0 ++ m.1 ∷ []

abbrev rows_met : Met → List Row
rows_met None = []
rows_met (Some m) = topic_rows m.0

abbrev pending_met : Met → Option (Text × List Text)
pending_met None = None
pending_met (Some m) = Some (codes "WORD", m.1 ∷ [])

abbrev waiting_met : Met → Waiting
waiting_met None = idle
waiting_met (Some m) = positional

abbrev held_met : Met → Held
held_met m = hold (rows_met m) (pending_met m)

abbrev state : Met → Bool → Walk
state m tr = record { held = held_met m; waiting = waiting_met m; position = 1; is_trailing = tr; stopped = None }

abbrev with_word : Met → Text → Met
with_word m word = Some (words_met m, word)

-- ---- what a parse of the words comes to

abbrev end : Walk → List Text → Held
end w ws = (fold (walked all []) w ws).held

abbrev total : Walk → List Text → Kinds
total w ws = or_else (walk_fault topic_leaf [] w ws) (settle_fault all false (end w ws))

abbrev found_at : Walk → List Text → List Row
found_at w ws = (settled all (end w ws)).rows

-- the walk fails where the words are refused, and else has the row of those before and these
abbrev Ends : List Text → Option (List Text) → Kinds → List Row → Type 0
Ends before None faults found = Fails faults
Ends before (Some words) faults found = (faults ≡ []) × (found ≡ topic_rows (before ++ words))

abbrev At : List Text → Option (List Text) → Walk → List Text → Type 0
At before o w ws = Ends before o (total w ws) (found_at w ws)

-- one turn, with its own faults and the walk after it
abbrev Turn : List Text → Option (List Text) → Kinds → Walk → List Text → Type 0
Turn before o now after ws = Ends before o
    (or_else (or_else now (walk_fault topic_leaf [] after ws)) (settle_fault all false (end after ws)))
    (found_at after ws)

bad_turn : (before : List Text) (now : Kinds) (after : Walk) (ws : List Text) → Fails now
    → Turn before None now after ws
bad_turn before now after ws f = fails_left _ _ (fails_left _ _ f)

turned : (before : List Text) (o : Option (List Text)) (m : Met) (tr : Bool) (word : Text) (ws : List Text)
    → Turn before o (turn_fault topic_leaf [] (state m tr) word) (walked all [] (state m tr) word) ws → At before o
    (state m tr) (word ∷ ws)
unfolding walk_fault
turned before o m tr word ws t = t

settles_clean : (m : Met) → settle_fault all false (held_met m) ≡ []
settles_clean None = refl
settles_clean (Some m) = refl

settled_met : (m : Met) → (settled all (held_met m)).rows ≡ topic_rows (words_met m)
settled_met None = refl
settled_met (Some m) = one_more m.0 m.1

at_end : (m : Met) (tr : Bool) → At (words_met m) (Some []) (state m tr) []
unfolding walk_fault
at_end m tr = (settles_clean m, settled_met m ∙ ap topic_rows (sym (append-nil (words_met m))))

-- ---- a word of the topic

abbrev placed : Met → Bool → Text → Walk
placed m tr word = to_positional all (Some topic_rule) word (state m tr) (held_met m)

placed_is : (m : Met) (tr : Bool) (word : Text) → (tr || false) ≡ tr → placed m tr word ≡ state (with_word m word) tr
placed_is None tr word e = ap (λ b. state (with_word None word) b) e
placed_is (Some m) tr word e =
    ap (λ (rs : List Row). record {
      held = hold rs (Some (codes "WORD", word ∷ []));
      waiting = positional;
      position = 1;
      is_trailing = tr || false;
      stopped = None;
    }) (one_more m.0 m.1) ∙ ap (λ b. state (with_word (Some m) word) b) e

-- the fault of a word that goes to the topic
place_clean : (m : Met) → step_fault topic_leaf 1 (held_met m) value ≡ []
place_clean None = refl
place_clean (Some m) = refl

placed_turn : (m : Met) (tr : Bool) (word : Text) (ws : List Text) (o : Option (List Text)) → (tr || false) ≡ tr
    → At (words_met m ++ word ∷ []) o (state (with_word m word) tr) ws
    → Turn (words_met m) (option_map (λ words. word ∷ words) o) (step_fault topic_leaf 1 (held_met m) value)
    (placed m tr word) ws
placed_turn m tr word ws o e at =
    subst (λ after. Turn (words_met m) (option_map (λ words. word ∷ words) o)
    (step_fault topic_leaf 1 (held_met m) value) after ws) (sym (placed_is m tr word e))
    (subst (λ now. Turn (words_met m) (option_map (λ words. word ∷ words) o) now (state (with_word m word) tr) ws)
    (sym (place_clean m)) (onward o at))
  where
    onward : (o : Option (List Text)) → At (words_met m ++ word ∷ []) o (state (with_word m word) tr) ws
        → At (words_met m) (option_map (λ words. word ∷ words) o) (state (with_word m word) tr) ws
    onward None a = a
    onward (Some words) a = (a.0, a.1 ∙ ap topic_rows (append_assoc (words_met m) (word ∷ []) words))

-- behind `--`
behind : (ws : List Text) (m : Met) → At (words_met m) (Some ws) (state m true) ws
unfolding walked
behind [] m = at_end m true
behind (word ∷ ws) m = turned (words_met m) (Some (word ∷ ws)) m true word ws
    (placed_turn m true word ws (Some ws) refl (behind ws (with_word m word)))

-- ---- a turn at a word that no `--` stands before, by what the word looks like

abbrev met_at : Bool → Option (Text × Option Text) → Met → Text → Held × Step
met_at b l m word = if b then (held_met m, trailing 1) else long_or_other all (waiting_met m) word l (held_met m)

abbrev now_at : Bool → Option (Text × Option Text) → Met → Text → Kinds
now_at b l m word = or_else (if b then [] else flag_word_fault all false l word (held_met m))
    (step_fault topic_leaf 1 (met_at b l m word).0 (met_at b l m word).1)

abbrev after_at : Bool → Option (Text × Option Text) → Met → Text → Walk
after_at b l m word = after_step all word (state m false) (met_at b l m word).0 (met_at b l m word).1

free_turn : (before : List Text) (o : Option (List Text)) (m : Met) (word : Text) (ws : List Text)
    → Turn before o (now_at (bytes_eq word (45 ∷ 45 ∷ [])) (long_of word) m word)
    (after_at (bytes_eq word (45 ∷ 45 ∷ [])) (long_of word) m word) ws
    → At before o (state m false) (word ∷ ws)
unfolding walked
free_turn before o None word ws t = turned before o None false word ws t
free_turn before o (Some m) word ws t = turned before o (Some m) false word ws t

plain_met : (m : Met) (word : Text) → plain_word all (waiting_met m) word (held_met m) ≡ (held_met m, value)
plain_met None word = refl
plain_met (Some m) word = refl

read_step : (word : Text) (ws : List Text) → ((m : Met) → At (words_met m) (topic_words ws) (state m false) ws)
    → (m : Met) → At (words_met m) (topic_words (word ∷ ws)) (state m false) (word ∷ ws)
read_step word ws later m = free_turn (words_met m) (topic_words (word ∷ ws)) m word ws
    (go (bytes_eq word (45 ∷ 45 ∷ [])) (long_of word))
  where
    more : Option (List Text)
    more = option_map (λ words. word ∷ words) (topic_words ws)

    plain_case : (c : Bool) → has_letters word ≡ c → Turn (words_met m) (if c then None else more)
        (now_at false None m word) (after_at false None m word) ws
    plain_case true e = bad_turn (words_met m) (now_at false None m word) (after_at false None m word) ws
        (fails_left _ _ (letters_fail all (short_of word) (rows_met m) (pending_met m)
        (λ x rest following. short_help all (arg_by_short all x) rest (rows_met m) (pending_met m) following
        (help_or_none (104 == x))) e))
    plain_case false e =
        let letters = letters_none all (short_of word) (waiting_met m) word (rows_met m) (pending_met m) e in
        subst (λ p. Turn (words_met m) more (or_else (letters_now all (short_of word) (held_met m))
        (step_fault topic_leaf 1 p.0 p.1)) (after_step all word (state m false) p.0 p.1) ws)
        (sym (letters.1 ∙ plain_met m word))
        (subst (λ kinds. Turn (words_met m) more (or_else kinds (step_fault topic_leaf 1 (held_met m) value))
        (placed m false word) ws) (sym letters.0)
        (placed_turn m false word ws (topic_words ws) refl (later (with_word m word))))

    go : (b : Bool) (l : Option (Text × Option Text))
        → Turn (words_met m) (if b then Some ws else if b || (is_some l || has_letters word) then None else more)
        (now_at b l m word) (after_at b l m word) ws
    go true l = behind ws m
    go false (Some nv) = bad_turn (words_met m) (now_at false (Some nv) m word) (after_at false (Some nv) m word) ws
        (fails_left _ _ (long_help all (arg_by_long all nv.0) nv.1 (rows_met m) (pending_met m)
        (help_or_none (bytes_eq (codes "help") nv.0))))
    go false None = plain_case (has_letters word) refl

reads : (ws : List Text) (m : Met) → At (words_met m) (topic_words ws) (state m false) ws
reads [] m = at_end m false
reads (word ∷ ws) m = read_step word ws (reads ws) m

-- ---- the command's parse

abbrev pub topic_fault : List Text → Kinds
topic_fault words = level_fault topic_leaf [] nothing_held words false []

abbrev pub topic_found : List Text → List Row
topic_found words = rows_after all [] words

-- the parse fails where the words are refused, and else has their rows
abbrev pub TopicEnds : List Text → Option (List Text) → Type 0
TopicEnds words None = Fails (topic_fault words)
TopicEnds words (Some topic) = (topic_fault words ≡ []) × (topic_found words ≡ topic_rows topic)

defaults_kept : (words : List Text) → fold with_default (topic_rows words) all ≡ topic_rows words
defaults_kept [] = refl
defaults_kept (word ∷ words) = refl

-- the faults behind the walk
abbrev rest_fault : List Row → Kinds
rest_fault rows = or_else (defaults_fault rows all) (check_fault topic_leaf (fold with_default rows all) false)

rest_clean : (words : List Text) → rest_fault (topic_rows words) ≡ []
unfolding defaults_fault
rest_clean [] = refl
rest_clean (word ∷ words) = refl

pub topic_ends : (words : List Text) → TopicEnds words (topic_words words)
topic_ends words = go (topic_words words) (reads words None)
  where
    start : Walk
    start = walk_from nothing_held

    joined : topic_fault words ≡ or_else (total start words) (rest_fault (found_at start words))
    joined = or_else-assoc (walk_fault topic_leaf [] start words) (settle_fault all false (end start words))
        (rest_fault (found_at start words))

    go : (o : Option (List Text)) → Ends [] o (total start words) (found_at start words) → TopicEnds words o
    go None ends = subst Fails (sym joined) (fails_left _ _ ends)
    go (Some topic) ends = (
      joined ∙ (ap (λ kinds. or_else kinds (rest_fault (found_at start words))) ends.0
          ∙ (ap rest_fault ends.1 ∙ rest_clean topic)),
      ap (λ rows. fold with_default rows all) ends.1 ∙ defaults_kept topic,
    )
