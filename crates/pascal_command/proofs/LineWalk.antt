-- What `clap`'s walk over the words of a subcommand finds, against what the words give.
use Rattle.std.proofs.Common.{◌≡◌, ◌∙◌, ap, refl, sym, subst, ◌+◌, ◌++◌, ◌||◌, ◌&&◌, ℕ, Bool, true, false, List, []}
use Rattle.std.proofs.Common.{◌∷◌, Option, Some, None, min}
use Rattle.std.specs.Prelude.{if◌then◌else◌, find, fold, is_some, nat_lt}
use Rattle.std.specs.Option.{option_map_or}
use Rattle.std.specs.Str.{bytes_eq}
use Rattle.std.proofs.Math.Bool.{and-false}
use Rattle.clap.specs.Lexer.{long_of, short_of, usize_max}
use Rattle.clap.specs.Kinds.{Kinds, or_else}
use Rattle.clap.specs.Faults.{flag_word_fault, long_fault, option_fault, positional_fault, react_fault, settle_fault}
use Rattle.clap.specs.Faults.{short_fault, step_fault, stray_fault, turn_fault, use_fault, walk_fault}
use Rattle.clap.specs.Simple.{Shape, new_shape}
use Rattle.clap.specs.Walk.{Held, Row, Rule, Step, Text, Waiting, Walk, after_step, arg_by_id, arg_by_index}
use Rattle.clap.specs.Walk.{arg_by_long, arg_by_short, attached_value, after_flag, reacted, idle, is_pending, long_met}
use Rattle.clap.specs.Walk.{long_or_other, nothing_held, option, option_word, settled, settled_rows, takes_several}
use Rattle.clap.specs.Walk.{pushed, takes_values, to_positional, trailing, used, used_by_id, walk_from, walked}
use Rattle.clap.specs.declared.error.kind.ErrorKind.TheVariants as kind
use Rattle.clap.specs.Walk.{next as going}
use Rattle.pascal_command.specs.Command.{Given, has_letters, is_among, paths_after, read, with_option, with_path}
use Rattle.pascal_command.specs.Command.{with_value, with_word}
use Rattle.pascal_command.proofs.Flags.{IsNoOption, help, hold, letters_fail, letters_none, letters_now, long_help}
use Rattle.pascal_command.proofs.Flags.{short_help}
use Rattle.pascal_command.proofs.GivenRows.{AllFit, Fails, Known, One, fails_left, fails_right, given_rows, is_refused}
use Rattle.pascal_command.proofs.GivenRows.{itself, not_given, one_more_fits, rule, use_bad, use_good, used_good}

abbrev pub rules : List One → List Rule
rules [] = help ∷ []
rules (o ∷ os) = rule o ∷ rules os

abbrev pub leaf : Text → List One → Shape
leaf name ones = record (new_shape name) {
  rules = rules ones;
  no_binary_name = true;
  disable_help_subcommand = true;
  is_built = true;
}

abbrev pub Places : List Rule → ℕ → List Text → Type 0
Places all i [] = arg_by_index all i ≡ None
Places all i (name ∷ names) =
    (o : One) × (o.name ≡ name) × (arg_by_index all i ≡ Some (rule o)) × Known all o × Places all
    (min (i + 1) usize_max) names

-- a subcommand has these options and paths
pub record Leaf (ones : List One) (options paths : List Text) : Type 0 where
  pub known : (name : Text) → is_among name options ≡ true
      → (o : One) × (o.name ≡ name) × (arg_by_long (rules ones) name ≡ Some (rule o)) × Known (rules ones) o
  pub other : (name : Text) → is_among name options ≡ false → IsNoOption (arg_by_long (rules ones) name)
  pub short : (x : ℕ) → IsNoOption (arg_by_short (rules ones) x)
  pub places : Places (rules ones) 1 paths

-- the walk fails where the words are refused, and else has the rows of what they give
abbrev pub Ends : List Rule → Option Given → Kinds → List Row → Type 0
Ends all None faults found = Fails faults
Ends all (Some given) faults found = (faults ≡ []) × (found ≡ given_rows given) × AllFit all given

abbrev state : List Row → Option (Text × List Text) → Waiting → ℕ → Bool → Walk
state rs p waiting i tr = record { held = hold rs p; waiting = waiting; position = i; is_trailing = tr; stopped = None }

single : (p : Rule → Bool) (ones : List One) (a : Rule) → find p (rules ones) ≡ Some a → takes_several a ≡ false
single p [] a e = go (p help) e
  where
    go : (b : Bool) → (if b then Some help else None) ≡ Some a → takes_several a ≡ false
    go true e = ap (λ (o : Option Rule). option_map_or takes_several o false) (sym e)
    go false e = cc
single p (o ∷ os) a e = go (p (rule o)) e (λ later. single p os a later)
  where
    go : (b : Bool) → (if b then Some (rule o) else find p (rules os)) ≡ Some a
        → (find p (rules os) ≡ Some a → takes_several a ≡ false) → takes_several a ≡ false
    go true e more = ap (λ (r : Option Rule). option_map_or takes_several r false) (sym e)
    go false e more = more e

module _ (label : Text) (ones : List One) where
  abbrev all : List Rule
  all = rules ones

  abbrev shape : Shape
  shape = leaf label ones

  abbrev settles : List Row → Option (Text × List Text) → Kinds
  settles rs p = settle_fault all false (hold rs p)

  abbrev end : Walk → List Text → Held
  end w ws = (fold (walked all []) w ws).held

  abbrev pub total : Walk → List Text → Kinds
  total w ws = or_else (walk_fault shape [] w ws) (settle_fault all false (end w ws))

  abbrev pub found_at : Walk → List Text → List Row
  found_at w ws = (settled all (end w ws)).rows

  abbrev At : Option Given → Walk → List Text → Type 0
  At o w ws = Ends all o (total w ws) (found_at w ws)

  -- one turn, with its own faults and the walk after it
  abbrev Turn : Option Given → Kinds → Walk → List Text → Type 0
  Turn o now after ws = Ends all o (or_else (or_else now (walk_fault shape [] after ws))
      (settle_fault all false (end after ws))) (found_at after ws)

  bad_turn : (now : Kinds) (after : Walk) (ws : List Text) → Fails now → Turn None now after ws
  bad_turn now after ws f = fails_left _ _ (fails_left _ _ f)

  clean_turn : (o : Option Given) (now : Kinds) (after : Walk) (ws : List Text) → now ≡ [] → At o after ws
      → Turn o now after ws
  clean_turn o now after ws e t = subst (λ kinds. Turn o kinds after ws) (sym e) t

  at_end : (o : Option Given) (w : Walk) → Ends all o (settle_fault all false w.held) (settled all w.held).rows
      → At o w []
  unfolding walk_fault
  at_end o w t = t

  turned : (o : Option Given) (rs : List Row) (p : Option (Text × List Text)) (waiting : Waiting) (i : ℕ) (tr : Bool)
      (word : Text) (ws : List Text)
      → Turn o (turn_fault shape [] (state rs p waiting i tr) word) (walked all [] (state rs p waiting i tr) word) ws
      → At o (state rs p waiting i tr) (word ∷ ws)
  unfolding walk_fault
  turned o rs p waiting i tr word ws t = t

  abbrev Good : Given → List Row → Option (Text × List Text) → Type 0
  Good given rs p = (settles rs p ≡ []) × (settled_rows all p rs ≡ given_rows given) × AllFit all given

  pend_good : (o : One) (given : Given) (rs : List Row) (text : Text) → Known all o → rs ≡ given_rows given
      → AllFit all given
      → is_refused o.name text given ≡ false → Good (given ++ (o.name, text) ∷ []) rs (Some (o.name, text ∷ []))
  pend_good o given rs text known is all_fit good =
      let parts = not_given _ _ good in (
        subst (λ found. option_map_or (λ a. use_fault false a (text ∷ []) rs) found [] ≡ []) (sym known.by_id)
            (subst (λ more. use_fault false (rule o) (text ∷ []) more ≡ []) (sym is)
            (use_good all o given text known good)),
        subst (λ found. used_by_id found (text ∷ []) rs ≡ given_rows (given ++ (o.name, text) ∷ [])) (sym known.by_id)
            (subst (λ more. used (rule o) (text ∷ []) more ≡ given_rows (given ++ (o.name, text) ∷ [])) (sym is)
            (used_good all o given text known parts.0)),
        one_more_fits all o given text known all_fit parts.1,
      )

  pend_bad : (o : One) (given : Given) (rs : List Row) (text : Text) → Known all o → rs ≡ given_rows given
      → is_refused o.name text given ≡ true → Fails (settles rs (Some (o.name, text ∷ [])))
  pend_bad o given rs text known is bad =
      subst (λ found. Fails (option_map_or (λ a. use_fault false a (text ∷ []) rs) found [])) (sym known.by_id)
      (subst (λ more. Fails (use_fault false (rule o) (text ∷ []) more)) (sym is) (use_bad all o given text known bad))

  -- ---- where what is pending fails, so does the walk

  abbrev place_now : Option Rule → Held → Kinds
  place_now a h = option_map_or (λ r. positional_fault all false r h) a (stray_fault shape)

  place_bad : (i : ℕ) (rs : List Row) (p : Option (Text × List Text)) → Fails (settles rs p) → Fails
      (place_now (arg_by_index all i) (hold rs p))
  place_bad i rs p f = go (arg_by_index all i) refl
    where
      go : (a : Option Rule) → arg_by_index all i ≡ a → Fails (place_now a (hold rs p))
      go None e = tt
      go (Some a) e = subst (λ b. Fails (if is_pending a p && b then [] else settles rs p)) (sym (single _ ones a e))
          (subst (λ b. Fails (if b then [] else settles rs p)) (sym (and-false (is_pending a p))) f)

  bad_trailing : (ws : List Text) (rs : List Row) (p : Option (Text × List Text)) (waiting : Waiting) (i : ℕ)
      → Fails (settles rs p) → Fails (total (state rs p waiting i true) ws)
  unfolding walked
  bad_trailing [] rs p waiting i f = at_end None (state rs p waiting i true) f
  bad_trailing (word ∷ ws) rs p waiting i f = turned None rs p waiting i true word ws
      (bad_turn _ _ ws (place_bad i rs p f))

  long_bad : (a : Option Rule) (v : Option Text) (rs : List Row) (p : Option (Text × List Text)) → Fails (settles rs p)
      → Fails (long_fault all false a v (hold rs p))
  long_bad None v rs p f = tt
  long_bad (Some a) v rs p f = go (takes_values a) v
    where
      go : (b : Bool) (v : Option Text) → Fails (if b then option_fault all false a v (hold rs p)
          else (if is_some v then kind.TooManyValues ∷ [] else react_fault all false a [] (hold rs p)))
      go true (Some t) = fails_left _ _ f
      go true None = f
      go false (Some t) = tt
      go false None = fails_left _ _ f

  -- ---- words of a hyphen and letters

  short_bad : (a : Option Rule) (rest : Text) (rs : List Row) (p : Option (Text × List Text)) (next : Held → Kinds)
      → Fails (settles rs p)
      → Fails (short_fault all false a rest (hold rs p) next)
  short_bad None rest rs p next f = tt
  short_bad (Some a) rest rs p next f = go (takes_values a) (attached_value rest)
    where
      go : (b : Bool) (v : Option Text) → Fails (if b then option_fault all false a v (hold rs p)
          else or_else (react_fault all false a [] (hold rs p)) (next (reacted all a [] (hold rs p))))
      go true (Some t) = fails_left _ _ f
      go true None = f
      go false v = fails_left _ _ (fails_left _ _ f)

  -- ---- a turn at a word that no `--` stands before, by what the word looks like

  abbrev met : Bool → Option (Text × Option Text) → Waiting → ℕ → Text → Held → Held × Step
  met b l waiting i word h = if b then (h, trailing i) else long_or_other all waiting word l h

  abbrev now_at : Bool → Option (Text × Option Text) → Waiting → ℕ → Text → Held → Kinds
  now_at b l waiting i word h = or_else (if b then [] else flag_word_fault all false l word h)
      (step_fault shape i (met b l waiting i word h).0 (met b l waiting i word h).1)

  abbrev after_at : Bool → Option (Text × Option Text) → Waiting → ℕ → Text → List Row → Option (Text × List Text)
      → Walk
  after_at b l waiting i word rs p = after_step all word (state rs p waiting i false)
      (met b l waiting i word (hold rs p)).0 (met b l waiting i word (hold rs p)).1

  idle_turn : (o : Option Given) (rs : List Row) (p : Option (Text × List Text)) (i : ℕ) (word : Text) (ws : List Text)
      → Turn o (now_at (bytes_eq word (45 ∷ 45 ∷ [])) (long_of word) idle i word (hold rs p))
      (after_at (bytes_eq word (45 ∷ 45 ∷ [])) (long_of word) idle i word rs p) ws
      → At o (state rs p idle i false) (word ∷ ws)
  unfolding walked
  idle_turn o rs p i word ws t = turned o rs p idle i false word ws t

  option_turn : (o : Option Given) (rs : List Row) (p : Option (Text × List Text)) (n : Text) (i : ℕ) (word : Text)
      (ws : List Text)
      → Turn o (now_at (bytes_eq word (45 ∷ 45 ∷ [])) (long_of word) (option n) i word (hold rs p))
      (after_at (bytes_eq word (45 ∷ 45 ∷ [])) (long_of word) (option n) i word rs p) ws
      → At o (state rs p (option n) i false) (word ∷ ws)
  unfolding walked
  option_turn o rs p n i word ws t = turned o rs p (option n) i false word ws t

  bad_idle : (ws : List Text) (rs : List Row) (p : Option (Text × List Text)) (i : ℕ) → Fails (settles rs p)
      → Fails (total (state rs p idle i false) ws)
  bad_idle [] rs p i f = at_end None (state rs p idle i false) f
  bad_idle (word ∷ ws) rs p i f = idle_turn None rs p i word ws (go (bytes_eq word (45 ∷ 45 ∷ [])) (long_of word))
    where
      plain_case : (c : Bool) → has_letters word ≡ c → Fails (now_at false None idle i word (hold rs p))
      plain_case true e = fails_left _ _ (letters_fail all (short_of word) rs p
          (λ x rest next. short_bad (arg_by_short all x) rest rs p next f) e)
      plain_case false e = fails_right (letters_now all (short_of word) (hold rs p)) _
          (subst (λ m. Fails (step_fault shape i m.0 m.1)) (sym (letters_none all (short_of word) idle word rs p e).1)
          (place_bad i rs p f))

      go : (b : Bool) (l : Option (Text × Option Text)) → Turn None (now_at b l idle i word (hold rs p))
          (after_at b l idle i word rs p) ws
      go true l = bad_trailing ws rs p idle i f
      go false (Some nv) = bad_turn _ _ ws (fails_left _ _ (long_bad (arg_by_long all nv.0) nv.1 rs p f))
      go false None = bad_turn _ _ ws (plain_case (has_letters word) refl)

  -- ---- where the words are taken

  taken : (o : One) (given : Given) (rs : List Row) (p : Option (Text × List Text)) (text : Text) (waiting : Waiting)
      (i : ℕ) (tr : Bool) (ws : List Text)
      (next : Given → Option Given) → Known all o → rs ≡ given_rows given → AllFit all given
      → ((more : Given) → Good more rs (Some (o.name, text ∷ [])) → At (next more)
      (state rs (Some (o.name, text ∷ [])) waiting i tr) ws)
      → (Fails (settles rs (Some (o.name, text ∷ []))) → Fails
      (total (state rs (Some (o.name, text ∷ [])) waiting i tr) ws))
      → At (with_value o.name text given next) (state rs (Some (o.name, text ∷ [])) waiting i tr) ws
  taken o given rs p text waiting i tr ws next known is all_fit good bad = go (is_refused o.name text given) refl
    where
      go : (b : Bool) → is_refused o.name text given ≡ b
          → At (if b then None else next (given ++ (o.name, text) ∷ []))
          (state rs (Some (o.name, text ∷ [])) waiting i tr) ws
      go true e = bad (pend_bad o given rs text known is e)
      go false e = good (given ++ (o.name, text) ∷ []) (pend_good o given rs text known is all_fit e)

  abbrev next_place : ℕ → ℕ
  next_place i = min (i + 1) usize_max

  place_turn : (tr : Bool) (waiting : Waiting) (i : ℕ) (paths : List Text) (given : Given) (rs : List Row)
      (p : Option (Text × List Text))
      (word : Text) (ws : List Text) (next : List Text → Given → Option Given) → Good given rs p → Places all i paths
      → ((left : List Text) (more : Given) (rs2 : List Row) (q : Option (Text × List Text)) → Places all
      (next_place i) left → Good more rs2 q
      → At (next left more) (state rs2 q idle (next_place i) (tr || false)) ws)
      → ((rs2 : List Row) (q : Option (Text × List Text)) → Fails (settles rs2 q) → Fails
      (total (state rs2 q idle (next_place i) (tr || false)) ws))
      → Turn (with_path paths word given next) (place_now (arg_by_index all i) (hold rs p))
      (to_positional all (arg_by_index all i) word (state rs p waiting i tr) (hold rs p)) ws
  place_turn tr waiting i [] given rs p word ws next good places onward bad =
      subst (λ a. Turn None (place_now a (hold rs p))
      (to_positional all a word (state rs p waiting i tr) (hold rs p)) ws) (sym places)
      (bad_turn (place_now None (hold rs p)) (to_positional all None word (state rs p waiting i tr) (hold rs p)) ws tt)
  place_turn tr waiting i (name ∷ names) given rs p word ws next good places onward bad =
      let o = places.0 in
      let rs2 = settled_rows all p rs in
      let done : At (with_value o.name word given (next names))
      (state rs2 (Some (o.name, word ∷ [])) idle (next_place i) (tr || false)) ws =
      taken o given rs2 p word idle (next_place i) (tr || false) ws (next names) places.3 good.1 good.2
      (λ more g. onward names more rs2 (Some (o.name, word ∷ [])) places.4 g) (bad rs2 (Some (o.name, word ∷ []))) in
      let named = subst (λ n. At (with_value n word given (next names))
      (state rs2 (Some (o.name, word ∷ [])) idle (next_place i) (tr || false)) ws) places.1 done in
      subst (λ a. Turn (with_value name word given (next names)) (place_now a (hold rs p))
      (to_positional all a word (state rs p waiting i tr) (hold rs p)) ws) (sym places.2)
      (subst (λ b. Turn (with_value name word given (next names)) (if b then [] else settles rs p)
      (record {
        held = pushed o.name word (if b then hold rs p else settled all (hold rs p));
        waiting = idle;
        position = next_place i;
        is_trailing = tr || false;
        stopped = None;
      }) ws) (sym (and-false (is_pending (rule o) p)))
      (clean_turn _ _ _ ws good.0 named))

  good_end : (given : Given) (rs : List Row) (p : Option (Text × List Text)) (waiting : Waiting) (i : ℕ) (tr : Bool)
      → Good given rs p
      → At (Some given) (state rs p waiting i tr) []
  good_end given rs p waiting i tr good = at_end (Some given) (state rs p waiting i tr) good

  good_trailing : (ws : List Text) (given : Given) (rs : List Row) (p : Option (Text × List Text)) (waiting : Waiting)
      (i : ℕ) (paths : List Text)
      → Good given rs p → Places all i paths → At (paths_after paths given ws) (state rs p waiting i true) ws
  unfolding walked
  good_trailing [] given rs p waiting i paths good places = good_end given rs p waiting i true good
  good_trailing (word ∷ ws) given rs p waiting i paths good places = turned _ rs p waiting i true word ws
      (place_turn true waiting i paths given rs p word ws (λ left more. paths_after left more ws) good places
      (λ left more rs2 q there g. good_trailing ws more rs2 q idle (next_place i) left g there)
      (λ rs2 q f. bad_trailing ws rs2 q idle (next_place i) f))

  -- the words after which nothing waits, or an option waits for its value
  abbrev IdleAt : List Text → List Text → Type 0
  IdleAt options ws = (given : Given) (rs : List Row) (p : Option (Text × List Text)) (i : ℕ) (paths : List Text)
      → Good given rs p → Places all i paths
      → At (read options paths None given ws) (state rs p idle i false) ws

  abbrev WaitAt : List Text → List Text → Type 0
  WaitAt options ws = (given : Given) (rs : List Row) (o : One) (i : ℕ) (paths : List Text) → Known all o → rs
      ≡ given_rows given → AllFit all given
      → Places all i paths → At (read options paths (Some o.name) given ws)
      (state rs (Some (o.name, [])) (option o.name) i false) ws

  no_value : (o : One) (rs : List Row) → Known all o → Fails (settles rs (Some (o.name, [])))
  no_value o rs known = subst (λ found. Fails (option_map_or (λ a. use_fault false a [] rs) found []))
      (sym known.by_id) tt

  abbrev Reached : Type 0
  Reached = Held × Waiting

  abbrev reached : Held → Waiting → Reached
  reached h waiting = (h, waiting)

  -- the value of an option that waits
  value_now : (o : One) (rs : List Row) (word : Text) → Known all o
      → option_word (arg_by_id all o.name) o.name word (hold rs (Some (o.name, []))) ≡ reached
      (hold rs (Some (o.name, word ∷ []))) idle
  value_now o rs word known =
      subst (λ found. option_word found o.name word (hold rs (Some (o.name, []))) ≡ reached
      (hold rs (Some (o.name, word ∷ []))) idle) (sym known.by_id)
      (ap (λ b. reached (hold rs (Some (o.name, word ∷ [])))
      (if nat_lt (if b then 1 else 0) 1 then option o.name else idle)) (itself o.name))

  wait_step : (options : List Text) (word : Text) (ws : List Text) → IdleAt options ws → WaitAt options (word ∷ ws)
  wait_step options word ws idle_at given rs o i paths known is all_fit places =
      option_turn _ rs (Some (o.name, [])) o.name i word ws (go (bytes_eq word (45 ∷ 45 ∷ [])) (long_of word))
    where
      held : Option (Text × List Text)
      held = Some (o.name, [])

      later : Option Given
      later = with_value o.name word given (λ more. read options paths None more ws)

      valued : At later (state rs (Some (o.name, word ∷ [])) idle i false) ws
      valued = taken o given rs held word idle i false ws (λ more. read options paths None more ws) known is all_fit
          (λ more g. idle_at more rs (Some (o.name, word ∷ [])) i paths g places)
          (bad_idle ws rs (Some (o.name, word ∷ [])) i)

      plain_case : (c : Bool) → has_letters word ≡ c
          → Turn (if c then None else later) (now_at false None (option o.name) i word (hold rs held))
          (after_at false None (option o.name) i word rs held) ws
      plain_case true e = bad_turn (now_at false None (option o.name) i word (hold rs held))
          (after_at false None (option o.name) i word rs held) ws
          (fails_left _ _ (letters_fail all (short_of word) rs held
          (λ x rest next. short_bad (arg_by_short all x) rest rs held next (no_value o rs known)) e))
      plain_case false e =
          let letters = letters_none all (short_of word) (option o.name) word rs held e in
          subst (λ m. Turn later (or_else (letters_now all (short_of word) (hold rs held)) (step_fault shape i m.0 m.1))
          (after_step all word (state rs held (option o.name) i false) m.0 m.1) ws)
          (sym letters.1)
          (subst (λ (m : Held × Waiting). Turn later (or_else (letters_now all (short_of word) (hold rs held)) [])
          (after_step all word (state rs held (option o.name) i false) m.0 (going m.1)) ws)
          (sym (value_now o rs word known))
          (subst (λ kinds. Turn later (or_else kinds []) (state rs (Some (o.name, word ∷ [])) idle i false) ws)
          (sym letters.0) valued))

      go : (b : Bool) (l : Option (Text × Option Text))
          → Turn (if b || (is_some l || has_letters word) then None else later)
          (now_at b l (option o.name) i word (hold rs held)) (after_at b l (option o.name) i word rs held) ws
      go true l = bad_trailing ws rs held (option o.name) i (no_value o rs known)
      go false (Some nv) = bad_turn (now_at false (Some nv) (option o.name) i word (hold rs held))
          (after_at false (Some nv) (option o.name) i word rs held) ws
          (fails_left _ _ (long_bad (arg_by_long all nv.0) nv.1 rs held (no_value o rs known)))
      go false None = plain_case (has_letters word) refl

  idle_step : (options all_paths : List Text) → Leaf ones options all_paths → (word : Text) (ws : List Text)
      → IdleAt options ws → WaitAt options ws → IdleAt options (word ∷ ws)
  idle_step options all_paths facts word ws idle_at wait_at given rs p i paths good places =
      idle_turn _ rs p i word ws (go (bytes_eq word (45 ∷ 45 ∷ [])) (long_of word))
    where
      onward : List Text → Option Text → Given → Option Given
      onward left wanted more = read options left wanted more ws

      named_now : Option Rule → Option Text → Kinds
      named_now a v = or_else (long_fault all false a v (hold rs p))
          (step_fault shape i (after_flag all idle word (long_met all a v (hold rs p)).0
          (long_met all a v (hold rs p)).1).0
          (after_flag all idle word (long_met all a v (hold rs p)).0 (long_met all a v (hold rs p)).1).1)

      named_after : Option Rule → Option Text → Walk
      named_after a v = after_step all word (state rs p idle i false)
          (after_flag all idle word (long_met all a v (hold rs p)).0 (long_met all a v (hold rs p)).1).0
          (after_flag all idle word (long_met all a v (hold rs p)).0 (long_met all a v (hold rs p)).1).1

      attached : (o : One) (text : Text) → Known all o → (b : Bool) → is_refused o.name text given ≡ b
          → Turn (if b then None else onward paths None (given ++ (o.name, text) ∷ []))
          (named_now (Some (rule o)) (Some text)) (named_after (Some (rule o)) (Some text)) ws
      attached o text known true e = bad_turn (named_now (Some (rule o)) (Some text))
          (named_after (Some (rule o)) (Some text)) ws
          (fails_left _ _ (fails_right (settles rs p) _
          (subst (λ more. Fails (use_fault false (rule o) (text ∷ []) more)) (sym good.1)
          (use_bad all o given text known e))))
      attached o text known false e =
          let parts = not_given _ _ e in
          let rows_are = ap (used (rule o) (text ∷ [])) good.1 ∙ used_good all o given text known parts.0 in
          let clean = subst (λ more. use_fault false (rule o) (text ∷ []) more ≡ []) (sym good.1)
          (use_good all o given text known e) in
          clean_turn _ (named_now (Some (rule o)) (Some text)) (named_after (Some (rule o)) (Some text)) ws
          (ap (λ kinds. or_else (or_else kinds (use_fault false (rule o) (text ∷ []) (settled_rows all p rs))) [])
          good.0 ∙ ap (λ kinds. or_else kinds []) clean)
          (idle_at (given ++ (o.name, text) ∷ []) (used (rule o) (text ∷ []) (settled_rows all p rs)) None i paths
          (refl, rows_are, one_more_fits all o given text known good.2 parts.1) places)

      named_turn : (o : One) (v : Option Text) → Known all o
          → Turn (with_option o.name v given (onward paths)) (named_now (Some (rule o)) v)
          (named_after (Some (rule o)) v) ws
      named_turn o (Some text) known = attached o text known (is_refused o.name text given) refl
      named_turn o None known = clean_turn _ (named_now (Some (rule o)) None) (named_after (Some (rule o)) None) ws
          (ap (λ kinds. or_else kinds []) good.0)
          (wait_at given (settled_rows all p rs) o i paths known good.1 good.2 places)

      long_turn : (name : Text) (v : Option Text) (b : Bool) → is_among name options ≡ b
          → Turn (if b then with_option name v given (onward paths) else None) (named_now (arg_by_long all name) v)
          (named_after (arg_by_long all name) v) ws
      long_turn name v true e =
          let found = facts.known name e in
          subst (λ a. Turn (with_option name v given (onward paths)) (named_now a v) (named_after a v) ws) (sym found.2)
          (subst (λ n. Turn (with_option n v given (onward paths)) (named_now (Some (rule found.0)) v)
          (named_after (Some (rule found.0)) v) ws) found.1
          (named_turn found.0 v found.3))
      long_turn name v false e = bad_turn (named_now (arg_by_long all name) v) (named_after (arg_by_long all name) v) ws
          (fails_left _ _ (long_help all (arg_by_long all name) v rs p (facts.other name e)))

      path_next : List Text → Given → Option Given
      path_next left more = onward left None more

      plain_case : (c : Bool) → has_letters word ≡ c
          → Turn (if c then None else with_path paths word given path_next) (now_at false None idle i word (hold rs p))
          (after_at false None idle i word rs p) ws
      plain_case true e = bad_turn (now_at false None idle i word (hold rs p)) (after_at false None idle i word rs p) ws
          (fails_left _ _ (letters_fail all (short_of word) rs p
          (λ x rest nx. short_help all (arg_by_short all x) rest rs p nx (facts.short x)) e))
      plain_case false e =
          let letters = letters_none all (short_of word) idle word rs p e in
          subst (λ m. Turn (with_path paths word given path_next)
          (or_else (letters_now all (short_of word) (hold rs p)) (step_fault shape i m.0 m.1))
          (after_step all word (state rs p idle i false) m.0 m.1) ws)
          (sym letters.1)
          (subst (λ kinds. Turn (with_path paths word given path_next)
          (or_else kinds (place_now (arg_by_index all i) (hold rs p)))
          (to_positional all (arg_by_index all i) word (state rs p idle i false) (hold rs p)) ws)
          (sym letters.0)
          (place_turn false idle i paths given rs p word ws path_next good places
          (λ left more rs2 q there g. idle_at more rs2 q (next_place i) left g there)
          (λ rs2 q f. bad_idle ws rs2 q (next_place i) f)))

      go : (b : Bool) (l : Option (Text × Option Text))
          → Turn (if b then paths_after paths given ws else with_word options paths given word l onward)
          (now_at b l idle i word (hold rs p)) (after_at b l idle i word rs p) ws
      go true l = good_trailing ws given rs p idle i paths good places
      go false (Some nv) = long_turn nv.0 nv.1 (is_among nv.0 options) refl
      go false None = plain_case (has_letters word) refl

  lines : (options all_paths : List Text) → Leaf ones options all_paths → (ws : List Text) → IdleAt options ws
      × WaitAt options ws
  lines options all_paths facts [] = (
    λ given rs p i paths good places. good_end given rs p idle i false good,
    λ given rs o i paths known is all_fit places. at_end None (state rs (Some (o.name, [])) (option o.name) i false)
        (no_value o rs known),
  )
  lines options all_paths facts (word ∷ ws) =
      let later = lines options all_paths facts ws in
      (idle_step options all_paths facts word ws later.0 later.1, wait_step options word ws later.0)

  -- the walk over the words of a subcommand, from nothing
  pub walk_ends : (options paths : List Text) → Leaf ones options paths → (ws : List Text)
      → Ends all (read options paths None [] ws) (total (walk_from nothing_held) ws)
      (found_at (walk_from nothing_held) ws)
  walk_ends options paths facts ws = (lines options paths facts ws).0 [] [] None 1 paths (refl, refl, tt) facts.places
