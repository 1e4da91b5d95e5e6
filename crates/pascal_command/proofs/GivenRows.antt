-- What the words give, as the rows of a parse.
use Rattle.std.proofs.Common.{◌≡◌, ◌∙◌, ap, ap₂, refl, sym, subst, ◌++◌, ◌||◌, ◌&&◌, ℕ, Bool, cond, true, false, not}
use Rattle.std.proofs.Common.{List, [], ◌∷◌, map, Option, Some, None}
use Rattle.std.specs.Prelude.{if◌then◌else◌, codes, find, is_some, option_map, unwrap_or}
use Rattle.std.specs.Str.{bytes_eq}
use Rattle.std.proofs.lemmas.Slice.Eq.{bytes_eq-Decides}
use Rattle.std.proofs.lemmas.List.{append-nil, map-append}
use Rattle.clap.specs.Kinds.{Kinds, or_else}
use Rattle.clap.specs.Faults.{use_fault}
use Rattle.clap.specs.Walk.{Row, Rule, Text, arg_by_id, at_row, has_row, more_values, used, with_values, without}
use Rattle.clap.specs.Values.{refused_kind, reading_of}
use Rattle.clap.specs.ValueTests.{accepts}
use Rattle.clap.specs.declared.builder.action.ArgAction.TheVariants.{Set}
use Rattle.clap.specs.declared.builder.value_parser.Reading.{Reading}
use Rattle.clap.specs.declared.builder.value_parser.Reading.TheVariants.{AsWritten, WithoutMinus}
use Rattle.clap.specs.declared.builder.value_parser.ValueParser.{ValueParser}
use Rattle.clap.specs.declared.error.kind.ErrorKind.TheVariants as kind
use Rattle.clap.specs.declared.parser.matches.ValueSource.TheVariants.{CommandLine}
use Rattle.pascal_command.specs.Command.{Given, fits, is_given, value_of}

-- how the getters read the value of a name
abbrev pub how : Text → Reading
how name = if bytes_eq name (codes "stack") || bytes_eq name (codes "heap") then WithoutMinus else AsWritten

abbrev pub row : Text → Text → Row
row name text = record { id = name; values = text ∷ []; count = None; source = Some CommandLine; reading = how name }

abbrev pub given_rows : Given → List Row
given_rows given = map (λ g. row g.0 g.1) given

pub same_text : (a b : Text) → bytes_eq a b ≡ true → a ≡ b
same_text a b e = (bytes_eq-Decides a b).0 e

pub itself : (a : Text) → bytes_eq a a ≡ true
itself a = (bytes_eq-Decides a a).1 refl

pub has_given : (name : Text) (given : Given) → has_row name (given_rows given) ≡ is_given name given
has_given name [] = refl
has_given name (g ∷ gs) = ap (λ b. bytes_eq g.0 name || b) (has_given name gs)

-- where no row has the id, the row is added at the end
pub appended : (name : Text) (change : Row → List Row) (missing : List Row) (rows : List Row) → has_row name rows
    ≡ false
    → at_row name change missing rows ≡ rows ++ missing
appended name change missing [] none = refl
appended name change missing (r ∷ rs) none = go (bytes_eq r.id name) none (λ e. appended name change missing rs e)
  where
    go : (b : Bool) → (b || has_row name rs) ≡ false
        → (has_row name rs ≡ false → at_row name change missing rs ≡ rs ++ missing)
        → (if b then change r ++ rs else r ∷ at_row name change missing rs) ≡ r ∷ (rs ++ missing)
    go true e more = cc
    go false e more = ap (λ rest. r ∷ rest) (more e)

-- ---- an argument with one value

pub record One : Type 0 where
  pub name : Text
  pub long : Option Text
  pub index : Option ℕ
  pub value_names : ℕ
  pub defaults : List Text
  pub parser : ValueParser
  pub required : Bool

abbrev pub rule : One → Rule
rule o = record {
  id = o.name;
  long = o.long;
  aliases = [];
  short = None;
  short_aliases = [];
  index = o.index;
  action = Some Set;
  range = Some (record { start_inclusive = 1; end_inclusive = 1 });
  value_names = o.value_names;
  defaults = o.defaults;
  missing = [];
  trailing_var_arg = false;
  parser = Some o.parser;
  ignore_case = false;
  required = o.required;
  is_simple = true;
  is_free = true;
}

-- the command's rules have the argument, and its parser takes what fits its name
pub record Known (rules : List Rule) (o : One) : Type 0 where
  pub by_id : arg_by_id rules o.name ≡ Some (rule o)
  pub fitting : (text : Text) → accepts false o.parser text ≡ fits o.name text
  pub reads : reading_of o.parser ≡ how o.name

abbrev pub Fails : Kinds → Type 0
Fails [] = ⊥
Fails (k ∷ ks) = Unit {0}

pub or_else-assoc : (a b c : Kinds) → or_else a (or_else b c) ≡ or_else (or_else a b) c
or_else-assoc [] b c = refl
or_else-assoc (k ∷ ks) b c = refl

pub fails_left : (a b : Kinds) → Fails a → Fails (or_else a b)
fails_left [] b f = absurd f
fails_left (k ∷ ks) b f = tt

pub fails_right : (a b : Kinds) → Fails b → Fails (or_else a b)
fails_right [] b f = f
fails_right (k ∷ ks) b f = tt

-- each name is an argument's, and its value fits it
abbrev pub AllFit : List Rule → Given → Type 0
AllFit rules [] = Unit {0}
AllFit rules (g ∷ gs) = (fits g.0 g.1 ≡ true) × (is_some (arg_by_id rules g.0) ≡ true) × AllFit rules gs

pub one_more_fits : (rules : List Rule) (o : One) (given : Given) (text : Text) → Known rules o → AllFit rules given
    → fits o.name text ≡ true
    → AllFit rules (given ++ (o.name, text) ∷ [])
one_more_fits rules o [] text known all fit = (fit, ap (λ found. is_some found) known.by_id, tt)
one_more_fits rules o (g ∷ gs) text known all fit = (all.0, all.1, one_more_fits rules o gs text known all.2 fit)

pub value_fits : (rules : List Rule) (name text : Text) (given : Given) → AllFit rules given → value_of name given
    ≡ Some text
    → (fits name text ≡ true) × (is_some (arg_by_id rules name) ≡ true)
value_fits rules name text [] all e = cc
value_fits rules name text (g ∷ gs) all e = go (bytes_eq g.0 name) refl e
    (λ later. value_fits rules name text gs all.2 later)
  where
    go : (b : Bool) → bytes_eq g.0 name ≡ b → option_map (λ x. x.1) (cond b (Some g) (find (λ x. bytes_eq x.0 name) gs))
        ≡ Some text
        → (value_of name gs ≡ Some text → (fits name text ≡ true) × (is_some (arg_by_id rules name) ≡ true))
        → (fits name text ≡ true) × (is_some (arg_by_id rules name) ≡ true)
    go true same found later =
        let text_is : g.1 ≡ text = ap (λ o. unwrap_or o []) found in
        let name_is = same_text g.0 name same in (
          subst (λ n. fits n text ≡ true) name_is (subst (λ t. fits g.0 t ≡ true) text_is all.0),
          subst (λ n. is_some (arg_by_id rules n) ≡ true) name_is all.1,
        )
    go false same found later = later found

-- the kinds of a use, by whether it is the second and whether its value passes
abbrev use_kinds : ValueParser → Bool → Bool → Kinds
use_kinds parser again passes = or_else (if again && true then kind.ArgumentConflict ∷ [] else [])
    (or_else (if passes then [] else refused_kind parser ∷ []) [])

use_is : (rules : List Rule) (o : One) (given : Given) (text : Text) → Known rules o
    → use_fault false (rule o) (text ∷ []) (given_rows given) ≡ use_kinds o.parser (is_given o.name given)
    (fits o.name text)
use_is rules o given text known = ap₂ (use_kinds o.parser) (has_given o.name given) (known.fitting text)

abbrev pub is_refused : Text → Text → Given → Bool
is_refused name text given = is_given name given || not (fits name text)

pub use_bad : (rules : List Rule) (o : One) (given : Given) (text : Text) → Known rules o → is_refused o.name text given
    ≡ true
    → Fails (use_fault false (rule o) (text ∷ []) (given_rows given))
use_bad rules o given text known bad = subst Fails (sym (use_is rules o given text known))
    (go (is_given o.name given) (fits o.name text) bad)
  where
    go : (again passes : Bool) → (again || not passes) ≡ true → Fails (use_kinds o.parser again passes)
    go true passes e = tt
    go false false e = tt
    go false true e = cc

pub use_good : (rules : List Rule) (o : One) (given : Given) (text : Text) → Known rules o
    → is_refused o.name text given ≡ false
    → use_fault false (rule o) (text ∷ []) (given_rows given) ≡ []
use_good rules o given text known good = use_is rules o given text known ∙ go (is_given o.name given)
    (fits o.name text) good
  where
    go : (again passes : Bool) → (again || not passes) ≡ false → use_kinds o.parser again passes ≡ []
    go true passes e = cc
    go false false e = cc
    go false true e = refl

pub not_given : (again passes : Bool) → (again || not passes) ≡ false → (again ≡ false) × (passes ≡ true)
not_given true passes e = cc
not_given false false e = cc
not_given false true e = (refl, refl)

pub used_good : (rules : List Rule) (o : One) (given : Given) (text : Text) → Known rules o → is_given o.name given
    ≡ false
    → used (rule o) (text ∷ []) (given_rows given) ≡ given_rows (given ++ (o.name, text) ∷ [])
used_good rules o given text known new =
    let none = has_given o.name given ∙ new in
    let cleared : without o.name (given_rows given) ≡ given_rows given = appended o.name (λ _. []) []
    (given_rows given) none ∙ append-nil _ in
    ap (with_values o.name (reading_of o.parser) CommandLine (text ∷ [])) cleared
    ∙ (appended o.name (more_values CommandLine (text ∷ [])) _ (given_rows given) none
    ∙ (ap (λ r. given_rows given ++ record (row o.name text) { reading = r } ∷ []) known.reads
    ∙ sym (map-append (λ g. row g.0 g.1) given ((o.name, text) ∷ []))))
