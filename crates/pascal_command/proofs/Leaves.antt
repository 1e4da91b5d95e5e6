-- The three commands: what a parse of their words finds, against what the words ask for.
use Rattle.std.proofs.Common.{◌≡◌, ◌∙◌, ap, ap₂, refl, sym, subst, ◌++◌, ◌||◌, ◌==◌, ℕ, Bool, cond, drop, true, false}
use Rattle.std.proofs.Common.{List, [], ◌∷◌, Option, Some, None, arith}
use Rattle.std.proofs.lemmas.Bool.{true≢false, ne_eqb}
use Rattle.std.proofs.lemmas.Int.{ints}
use Rattle.std.proofs.lemmas.Str.Parse.{digit_from_value}
use Rattle.std.specs.Prelude.{if◌then◌else◌, codes, find, fold, option_map, pos, unwrap_or, is_some}
use Rattle.std.specs.List.{list_all}
use Rattle.std.specs.Str.{bytes_eq}
use Rattle.std.specs.Str.Parse.{IsNumeral, starts_with_minus, without_leading_plus}
use Rattle.clap.proofs.ValueTestLemmas.{accepts-Accepts}
use Rattle.clap.proofs.WalkLemmas.{both}
use Rattle.clap.specs.Faults.{check_fault, defaults_fault, given_default_fault, level_fault, walk_fault}
use Rattle.clap.specs.Kinds.{Kinds, or_else}
use Rattle.clap.specs.Lexer.{without_minus}
use Rattle.clap.specs.Simple.{Shape}
use Rattle.clap.specs.Values.{IsSignedIn}
use Rattle.clap.specs.ValueTests.{is_signed_in, is_unsigned_in}
use Rattle.clap.specs.Walk.{Row, Rule, Text, default_rows, has_row, is_empty, more_values, nothing_held, reading_by}
use Rattle.clap.specs.Walk.{rows_after, walk_from, with_default}
use Rattle.clap.specs.declared.builder.value_parser.ValueParser.TheVariants as vp
use Rattle.clap.specs.declared.parser.matches.ValueSource.TheVariants.{DefaultValue}
use Rattle.pascal_command.specs.App.{IsWithin, whole}
use Rattle.pascal_command.specs.Command.{Given, certificate_name, image_name, limit_names, number_of, read, source_name}
use Rattle.pascal_command.specs.Command.{value_of}
use Rattle.pascal_command.specs.declared.job.TheConstants.{MAX_BUDGET, MAX_STEPS}
use Rattle.pascal_command.proofs.GivenRows.{AllFit, Fails, Known, One, appended, fails_left, given_rows, or_else-assoc}
use Rattle.pascal_command.proofs.GivenRows.{row, rule, same_text}
use Rattle.pascal_command.proofs.Flags.{IsNoOption, help, help_or_none}
use Rattle.pascal_command.proofs.LineWalk.{Ends, Leaf, found_at, leaf, rules, total, walk_ends}

-- ---- numbers

no_plus : (ds : List ℕ) → IsNumeral 10 ds → without_leading_plus ds ≡ ds
no_plus [] h = refl
no_plus (d ∷ ds) h =
    let plus : (d == 43) ≡ false = ne_eqb _ _ (λ e. omega (arith, digit_from_value d h.1.0)) in
    ap (λ (b : Bool). drop (cond b 1 0) (d ∷ ds)) plus

without_minus-cond : (t : List ℕ) → without_minus t ≡ cond (starts_with_minus t) (drop 1 t) t
without_minus-cond [] = refl
without_minus-cond (x ∷ xs) = go (x == 45)
  where
    go : (b : Bool) → unwrap_or (cond b (Some xs) None) (x ∷ xs) ≡ cond b xs (x ∷ xs)
    go true = refl
    go false = refl

pub budget_text : (t : Text) → is_signed_in (pos 0) (pos MAX_BUDGET) t ≡ true
    → IsWithin 0 MAX_BUDGET (without_minus t) × (whole (without_minus t) ≡ number_of t)
budget_text t e =
    let in_range = accepts-Accepts false (vp.Signed (pos 0) (pos MAX_BUDGET)) t e in
    subst (λ u. IsWithin 0 MAX_BUDGET u × (whole u ≡ number_of t)) (sym (without_minus-cond t))
    (go (starts_with_minus t) refl in_range)
  where
    go : (b : Bool) → starts_with_minus t ≡ b → IsSignedIn (pos 0) (pos MAX_BUDGET) t
        → IsWithin 0 MAX_BUDGET (cond (starts_with_minus t) (drop 1 t) t)
        × (whole (cond (starts_with_minus t) (drop 1 t) t) ≡ number_of t)
    go true minus passed =
        let numeral : IsNumeral 10 (drop 1 t) = rw minus at passed.0 in
        let low = rw minus at passed.2 in
        let high = rw minus at passed.3 in
        let same = no_plus (drop 1 t) numeral in
        rw (minus, same) ((numeral, omega arith, omega (arith, ints)), refl)
    go false minus passed =
        let numeral = rw minus at passed.0 in
        let high = rw minus at passed.3 in
        rw minus ((numeral, omega arith, omega (arith, ints)), refl)

no_minus : (t : List ℕ) → IsNumeral 10 (without_leading_plus t) → starts_with_minus t ≡ false
no_minus [] h = refl
no_minus (d ∷ ds) h = ne_eqb _ _ (λ e.
    let here : IsNumeral 10 (without_leading_plus (45 ∷ ds)) = subst
    (λ x. IsNumeral 10 (without_leading_plus (x ∷ ds))) e h in
    omega (arith, digit_from_value 45 here.1.0))

pub steps_text : (t : Text) → is_unsigned_in 1 MAX_STEPS t ≡ true → IsWithin 1 MAX_STEPS t
    × (whole t ≡ number_of t)
steps_text t e =
    let in_range = accepts-Accepts false (vp.Unsigned 1 MAX_STEPS) t e in
    ((in_range.0, in_range.2, in_range.3), rw (no_minus t in_range.0) refl)

-- ---- rows

abbrev pub look : Text → List Row → Option Row
look name rows = find (λ r. bytes_eq r.id name) rows

abbrev or_row : Option Row → Option Row → Option Row
or_row (Some r) later = Some r
or_row None later = later

look-append : (name : Text) (rows more : List Row) → look name (rows ++ more) ≡ or_row (look name rows) (look name more)
look-append name [] more = refl
look-append name (r ∷ rs) more = go (bytes_eq r.id name) (look-append name rs more)
  where
    go : (b : Bool) → look name (rs ++ more) ≡ or_row (look name rs) (look name more)
        → cond b (Some r) (look name (rs ++ more)) ≡ or_row (cond b (Some r) (look name rs)) (look name more)
    go true e = refl
    go false e = e

-- the row of what a name was given
look_given : (name : Text) (given : Given) → look name (given_rows given) ≡ option_map (row name) (value_of name given)
look_given name [] = refl
look_given name (g ∷ gs) = go (bytes_eq g.0 name) refl (look_given name gs)
  where
    go : (b : Bool) → bytes_eq g.0 name ≡ b → look name (given_rows gs) ≡ option_map (row name) (value_of name gs)
        → cond b (Some (row g.0 g.1)) (look name (given_rows gs)) ≡ option_map (row name)
        (option_map (λ x. x.1) (cond b (Some g) (find (λ x. bytes_eq x.0 name) gs)))
    go true same e = ap (λ n. Some (row n g.1)) (same_text g.0 name same)
    go false same e = e

has_look : (name : Text) (rows : List Row) → has_row name rows ≡ true → (r : Row) × (look name rows ≡ Some r)
has_look name [] e = absurd (true≢false (sym e))
has_look name (r ∷ rs) e = go (bytes_eq r.id name) e (has_look name rs)
  where
    go : (b : Bool) → (b || has_row name rs) ≡ true → (has_row name rs ≡ true → (x : Row) × (look name rs ≡ Some x))
        → (x : Row) × (cond b (Some r) (look name rs) ≡ Some x)
    go true e later = (r, refl)
    go false e later = later e

-- the row of an argument's default, where it has the name
abbrev default_at : List Text → Bool → Rule → Option Row
default_at [] b a = None
default_at (v ∷ vs) true a = Some (record {
  id = a.id;
  values = v ∷ vs;
  count = None;
  source = Some DefaultValue;
  reading = reading_by a;
})
default_at (v ∷ vs) false a = None

abbrev or_default : Text → Rule → Option Row → Option Row
or_default name a o = or_row o (default_at a.defaults (bytes_eq a.id name) a)

or_nothing : (o : Option Row) → o ≡ or_row o None
or_nothing None = refl
or_nothing (Some r) = refl

-- an argument that has a row gets no default
has_already : (name : Text) (rows : List Row) (a : Rule) (ds : List Text) → has_row a.id rows ≡ true → (b : Bool)
    → bytes_eq a.id name ≡ b
    → (o : Option Row) → look name rows ≡ o → o ≡ or_row o (default_at ds b a)
has_already name rows a ds has b same (Some r) e = refl
has_already name rows a [] has b same None e = refl
has_already name rows a (v ∷ vs) has false same None e = refl
has_already name rows a (v ∷ vs) has true same None e =
    let there = has_look a.id rows has in
    let here : look name rows ≡ Some there.0 = subst (λ n. look n rows ≡ Some there.0)
    (same_text a.id name same) there.1 in
    absurd (true≢false (ap (λ o. is_some o) (sym here ∙ e)))

default_added : (name : Text) (rows : List Row) (a : Rule) (ds : List Text) → has_row a.id rows ≡ false
    → look name (default_rows a.id (reading_by a) ds rows) ≡ or_row (look name rows)
    (default_at ds (bytes_eq a.id name) a)
default_added name rows a [] none = or_nothing (look name rows)
default_added name rows a (v ∷ vs) none =
    ap (look name) (appended a.id (more_values DefaultValue (v ∷ vs)) _ rows none)
    ∙ (look-append name rows _ ∙ ap (or_row (look name rows)) (go (bytes_eq a.id name)))
  where
    go : (b : Bool) → cond b (Some (record {
      id = a.id;
      values = v ∷ vs;
      count = None;
      source = Some DefaultValue;
      reading = reading_by a;
    })) None
        ≡ default_at (v ∷ vs) b a
    go true = refl
    go false = refl

look_default : (name : Text) (rows : List Row) (a : Rule) → look name (with_default rows a) ≡ or_default name a
    (look name rows)
look_default name rows a = go (has_row a.id rows) refl
  where
    go : (b : Bool) → has_row a.id rows ≡ b → look name
        (if b then rows else default_rows a.id (reading_by a) a.defaults rows) ≡ or_default name a (look name rows)
    go true has = has_already name rows a a.defaults has (bytes_eq a.id name) refl (look name rows) refl
    go false none = default_added name rows a a.defaults none

-- the row of a name with the defaults of all these arguments
abbrev pub or_defaults : Text → Option Row → List Rule → Option Row
or_defaults name o [] = o
or_defaults name o (a ∷ rest) = or_defaults name (or_default name a o) rest

look_defaults : (name : Text) (rows : List Row) (rest : List Rule) → look name (fold with_default rows rest)
    ≡ or_defaults name (look name rows) rest
look_defaults name rows [] = refl
look_defaults name rows (a ∷ rest) = look_defaults name (with_default rows a) rest ∙ ap (λ o. or_defaults name o rest)
    (look_default name rows a)

-- the row of a name at the end of a parse
abbrev pub end_row : List Rule → Text → Given → Option Row
end_row all name given = or_defaults name (option_map (row name) (value_of name given)) all

pub end_look : (all : List Rule) (name : Text) (given : Given) → look name (fold with_default (given_rows given) all)
    ≡ end_row all name given
end_look all name given = look_defaults name (given_rows given) all ∙ ap (λ o. or_defaults name o all)
    (look_given name given)

-- ---- defaults pass

abbrev is_clean : Kinds → Bool
is_clean [] = true
is_clean (k ∷ ks) = false

abbrev pub has_good_default : Rule → Bool
has_good_default a = is_clean (if is_empty a.defaults then [] else given_default_fault a a.defaults)

defaults_clean : (all : List Rule) (rows : List Row) → list_all has_good_default all ≡ true → defaults_fault rows all
    ≡ []
unfolding defaults_fault
defaults_clean [] rows e = refl
defaults_clean (a ∷ rest) rows e =
    let parts = both (has_good_default a) (list_all has_good_default rest) e in
    ap₂ or_else (go (has_row a.id rows) (is_empty a.defaults) (given_default_fault a a.defaults) parts.0)
    (defaults_clean rest (with_default rows a) parts.1)
  where
    go : (has none : Bool) (kinds : Kinds) → is_clean (if none then [] else kinds) ≡ true
        → (if has || none then [] else kinds) ≡ []
    go true none kinds e = refl
    go false true kinds e = refl
    go false false [] e = refl
    go false false (k ∷ ks) e = cc

-- ---- a subcommand's parse

abbrev pub end_rows : List One → Given → List Row
end_rows ones given = fold with_default (given_rows given) (rules ones)

abbrev pub leaf_fault : Text → List One → List Text → Kinds
leaf_fault label ones words = level_fault (leaf label ones) [] nothing_held words false []

-- the parse fails where the words are refused; else its faults are those of what is required, and its rows those of
-- what was given
abbrev pub LeafEnds : Text → List One → List Text → Option Given → Type 0
LeafEnds label ones words None = Fails (leaf_fault label ones words)
LeafEnds label ones words (Some given) = (leaf_fault label ones words ≡ check_fault (leaf label ones)
    (end_rows ones given) false)
    × (rows_after (rules ones) [] words ≡ end_rows ones given) × AllFit (rules ones) given

pub leaf_ends : (label : Text) (ones : List One) (options paths : List Text) → Leaf ones options paths
    → list_all has_good_default (rules ones) ≡ true
    → (words : List Text) → LeafEnds label ones words (read options paths None [] words)
leaf_ends label ones options paths facts clean words = go (read options paths None [] words)
    (walk_ends label ones options paths facts words)
  where
    S : Shape
    S = leaf label ones

    go : (o : Option Given) → Ends (rules ones) o (total label ones (walk_from nothing_held) words)
        (found_at label ones (walk_from nothing_held) words) → LeafEnds label ones words o
    go None ends = subst Fails (sym (or_else-assoc (walk_fault S [] (walk_from nothing_held) words) _ _))
        (fails_left _ _ ends)
    go (Some given) ends =
        let rows_are = ap (λ rows. fold with_default rows (rules ones)) ends.1 in (
          or_else-assoc (walk_fault S [] (walk_from nothing_held) words) _ _
              ∙ (ap₂ or_else ends.0 (ap₂ or_else (ap (λ rows. defaults_fault rows (rules ones)) ends.1 ∙ defaults_clean
              (rules ones) (given_rows given) clean)
              (ap (λ rows. check_fault S rows false) rows_are))),
          rows_are,
          ends.2,
        )

-- ---- the commands

abbrev path_one : Text → ℕ → One
path_one name i = record {
  name = name;
  long = None;
  index = Some i;
  value_names = 0;
  defaults = [];
  parser = vp.String;
  required = true;
}

abbrev budget_one : Text → Text → One
budget_one name default = record {
  name = name;
  long = Some name;
  index = None;
  value_names = 1;
  defaults = default ∷ [];
  parser = vp.Signed (pos 0) (pos MAX_BUDGET);
  required = false;
}

abbrev stack_one : One
stack_one = budget_one (codes "stack") (codes "4194304")

abbrev heap_one : One
heap_one = budget_one (codes "heap") (codes "1048576")

abbrev steps_one : One
steps_one = record {
  name = codes "steps";
  long = Some (codes "steps");
  index = None;
  value_names = 1;
  defaults = codes "1000000000" ∷ [];
  parser = vp.Unsigned 1 MAX_STEPS;
  required = false;
}

abbrev pub compile_ones : List One
compile_ones = path_one source_name 1 ∷ path_one image_name 2 ∷ []

abbrev pub verify_ones : List One
verify_ones = path_one certificate_name 1 ∷ path_one source_name 2 ∷ path_one image_name 3 ∷ []

abbrev pub list_ones : List One
list_ones = path_one source_name 1 ∷ []

abbrev pub limited_ones : Text → List One
limited_ones name = path_one name 1 ∷ stack_one ∷ heap_one ∷ steps_one ∷ []

pub compile_leaf : Leaf compile_ones [] (source_name ∷ image_name ∷ [])
compile_leaf = record {
  known = λ name e. absurd (true≢false (sym e));
  other = λ name e. help_or_none (bytes_eq (codes "help") name);
  short = λ x. help_or_none (104 == x);
  places = (
    path_one source_name 1,
    refl,
    refl,
    record { by_id = refl; fitting = λ text. refl; reads = refl },
    (path_one image_name 2, refl, refl, record { by_id = refl; fitting = λ text. refl; reads = refl }, refl),
  );
}

pub verify_leaf : Leaf verify_ones [] (certificate_name ∷ source_name ∷ image_name ∷ [])
verify_leaf = record {
  known = λ name e. absurd (true≢false (sym e));
  other = λ name e. help_or_none (bytes_eq (codes "help") name);
  short = λ x. help_or_none (104 == x);
  places = (
    path_one certificate_name 1,
    refl,
    refl,
    record { by_id = refl; fitting = λ text. refl; reads = refl },
    (
      path_one source_name 2,
      refl,
      refl,
      record { by_id = refl; fitting = λ text. refl; reads = refl },
      (path_one image_name 3, refl, refl, record { by_id = refl; fitting = λ text. refl; reads = refl }, refl),
    ),
  );
}

pub list_leaf : Leaf list_ones [] (source_name ∷ [])
list_leaf = record {
  known = λ name e. absurd (true≢false (sym e));
  other = λ name e. help_or_none (bytes_eq (codes "help") name);
  short = λ x. help_or_none (104 == x);
  places = (path_one source_name 1, refl, refl, record { by_id = refl; fitting = λ text. refl; reads = refl }, refl);
}

-- the option of the first test that holds
abbrev option_by : Bool → Bool → Bool → Bool → Option Rule
option_by stack heap steps asks_help = cond (stack || false) (Some (rule stack_one))
    (cond (heap || false) (Some (rule heap_one))
    (cond (steps || false) (Some (rule steps_one)) (cond (asks_help || false) (Some help) None)))

limited_leaf : (name : Text) → Known (rules (limited_ones name)) (path_one name 1) → Known
    (rules (limited_ones name)) stack_one
    → Known (rules (limited_ones name)) heap_one → Known (rules (limited_ones name)) steps_one → Leaf
    (limited_ones name) limit_names (name ∷ [])
limited_leaf name path stack heap steps = record {
  known = λ word e. known word (bytes_eq (codes "stack") word) refl (bytes_eq (codes "heap") word) refl
      (bytes_eq (codes "steps") word) refl e;
  other = λ word e. other (bytes_eq (codes "stack") word) (bytes_eq (codes "heap") word) (bytes_eq (codes "steps") word)
      (bytes_eq (codes "help") word) e;
  short = λ x. help_or_none (104 == x);
  places = (path_one name 1, refl, refl, path, refl);
}
  where
    known : (word : Text) (a : Bool) → bytes_eq (codes "stack") word ≡ a → (b : Bool) → bytes_eq (codes "heap") word ≡ b
        → (c : Bool) → bytes_eq (codes "steps") word ≡ c → (a || (b || (c || false))) ≡ true
        → (o : One) × (o.name ≡ word) × (option_by a b c (bytes_eq (codes "help") word) ≡ Some (rule o)) × Known
        (rules (limited_ones name)) o
    known word true ea b eb c ec e = (stack_one, same_text (codes "stack") word ea, refl, stack)
    known word false ea true eb c ec e = (heap_one, same_text (codes "heap") word eb, refl, heap)
    known word false ea false eb true ec e = (steps_one, same_text (codes "steps") word ec, refl, steps)
    known word false ea false eb false ec e = absurd (true≢false (sym e))

    other : (a b c d : Bool) → (a || (b || (c || false))) ≡ false → IsNoOption (option_by a b c d)
    other true b c d e = absurd (true≢false e)
    other false true c d e = absurd (true≢false e)
    other false false true d e = absurd (true≢false e)
    other false false false d e = help_or_none d

abbrev pub run_label : Text
run_label = codes "run"

abbrev pub go_label : Text
go_label = codes "go"

pub run_leaf : Leaf (limited_ones image_name) limit_names (image_name ∷ [])
run_leaf = limited_leaf image_name (record {
  by_id = refl;
  fitting = λ text. refl;
  reads = refl;
}) (record {
  by_id = refl;
  fitting = λ text. refl;
  reads = refl;
})
    (record {
      by_id = refl;
      fitting = λ text. refl;
      reads = refl;
    }) (record {
      by_id = refl;
      fitting = λ text. refl;
      reads = refl;
    })

pub go_leaf : Leaf (limited_ones source_name) limit_names (source_name ∷ [])
go_leaf = limited_leaf source_name (record {
  by_id = refl;
  fitting = λ text. refl;
  reads = refl;
}) (record {
  by_id = refl;
  fitting = λ text. refl;
  reads = refl;
})
    (record {
      by_id = refl;
      fitting = λ text. refl;
      reads = refl;
    }) (record {
      by_id = refl;
      fitting = λ text. refl;
      reads = refl;
    })
