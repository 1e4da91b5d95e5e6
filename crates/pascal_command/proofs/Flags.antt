-- Words that begin with hyphens, as `clap` reads them.
use Rattle.std.proofs.Common.{◌≡◌, refl, sym, subst, ◌||◌, ℕ, Bool, cond, true, false, List, [], ◌∷◌, length, Option}
use Rattle.std.proofs.Common.{Some, None}
use Rattle.std.proofs.lemmas.Bool.{true≢false}
use Rattle.std.specs.Prelude.{is_some, slice_get}
use Rattle.std.specs.Option.{option_map_or}
use Rattle.std.specs.Str.{chars}
use Rattle.clap.specs.Kinds.{Kinds}
use Rattle.clap.specs.Faults.{bundle_fault, bundle_step_fault, flags_fault, long_fault, settle_fault, short_fault}
use Rattle.clap.specs.Simple.{filled, help_rule}
use Rattle.clap.specs.Walk.{Held, Row, Rule, Text, Waiting, after_flag, arg_by_short, bundle_met, bundle_step, plain}
use Rattle.clap.specs.Walk.{plain_word, short_or_plain}
use Rattle.pascal_command.proofs.GivenRows.{Fails, fails_left, fails_right}

-- the rule that building adds
abbrev pub help : Rule
help = filled help_rule

abbrev pub IsNoOption : Option Rule → Type 0
IsNoOption None = Unit {0}
IsNoOption (Some a) = a ≡ help

pub help_or_none : (b : Bool) → IsNoOption (cond (b || false) (Some help) None)
help_or_none true = refl
help_or_none false = tt

abbrev pub hold : List Row → Option (Text × List Text) → Held
hold rs p = record { rows = rs; pending = p; skip = 0 }

module _ (all : List Rule) where
  abbrev pub letters_now : Option Text → Held → Kinds
  letters_now sh h = option_map_or (λ flags. bundle_fault all false flags h) sh []

  abbrev has_some : Option Text → Bool
  has_some sh = is_some (slice_get (option_map_or chars sh []) 0)

  pub letters_fail : (sh : Option Text) (rs : List Row) (p : Option (Text × List Text))
      → ((x : ℕ) (rest : Text) (next : Held → Kinds) → Fails
      (short_fault all false (arg_by_short all x) rest (hold rs p) next))
      → has_some sh ≡ true → Fails (letters_now sh (hold rs p))
  unfolding chars flags_fault
  letters_fail None rs p fails some = cc
  letters_fail (Some []) rs p fails some = cc
  letters_fail (Some (f ∷ fs)) rs p fails some = go (chars (f ∷ fs)) some
    where
      go : (cs : List ℕ) → is_some (slice_get cs 0) ≡ true
          → Fails (bundle_step_fault all false (slice_get cs 0) (f ∷ fs) 0 (hold rs p)
          (flags_fault all false (length fs)))
      go [] e = cc
      go (c ∷ cs) e = fails c _ _

  pub letters_none : (sh : Option Text) (waiting : Waiting) (word : Text) (rs : List Row)
      (p : Option (Text × List Text)) → has_some sh ≡ false
      → (letters_now sh (hold rs p) ≡ []) × (short_or_plain all waiting word sh (hold rs p)
      ≡ plain_word all waiting word (hold rs p))
  unfolding chars flags_fault bundle_met
  letters_none None waiting word rs p none = (refl, refl)
  letters_none (Some []) waiting word rs p none = (refl, refl)
  letters_none (Some (f ∷ fs)) waiting word rs p none = go (chars (f ∷ fs)) none
    where
      go : (cs : List ℕ) → is_some (slice_get cs 0) ≡ false
          → (bundle_step_fault all false (slice_get cs 0) (f ∷ fs) 0 (hold rs p) (flags_fault all false (length fs))
          ≡ [])
          × (after_flag all waiting word
          (bundle_step all (slice_get cs 0) (f ∷ fs) 0 plain (hold rs p) (bundle_met all (length fs))).0
          (bundle_step all (slice_get cs 0) (f ∷ fs) 0 plain (hold rs p) (bundle_met all (length fs))).1
          ≡ plain_word all waiting word (hold rs p))
      go [] e = (refl, refl)
      go (c ∷ cs) e = absurd (true≢false e)

  pub short_help : (a : Option Rule) (rest : Text) (rs : List Row) (p : Option (Text × List Text)) (next : Held → Kinds)
      → IsNoOption a
      → Fails (short_fault all false a rest (hold rs p) next)
  short_help None rest rs p next is = tt
  short_help (Some a) rest rs p next is = subst (λ r. Fails (short_fault all false (Some r) rest (hold rs p) next))
      (sym is)
      (fails_left _ _ (fails_right (settle_fault all false (hold rs p)) _ tt))

  pub long_help : (a : Option Rule) (v : Option Text) (rs : List Row) (p : Option (Text × List Text)) → IsNoOption a
      → Fails (long_fault all false a v (hold rs p))
  long_help None v rs p is = tt
  long_help (Some a) (Some t) rs p is = subst (λ r. Fails (long_fault all false (Some r) (Some t) (hold rs p)))
      (sym is) tt
  long_help (Some a) None rs p is = subst (λ r. Fails (long_fault all false (Some r) None (hold rs p))) (sym is)
      (fails_right (settle_fault all false (hold rs p)) _ tt)
