-- The limits of a run are read as the rules for words say.
use Rattle.std.proofs.Common.{◌≡◌, ◌∙◌, ap, ap₂, refl, sym, subst, ◌&&◌, ◌⊎◌, ℕ, Bool, true, false, List, [], Option}
use Rattle.std.proofs.Common.{Some, None}
use Rattle.std.specs.Prelude.{codes, option_map, option_and_then, pos, unwrap_or, slice_get, IfSome}
use Rattle.std.specs.Option.{option_map_or}
use Rattle.clap.specs.Kinds.{Kinds}
use Rattle.clap.specs.Lexer.{without_minus}
use Rattle.clap.specs.ValueTests.{is_signed_in, is_unsigned_in}
use Rattle.clap.specs.Walk.{Row, Text, first_of, one_of, row_text}
use Rattle.pascal_command.specs.App.{HasLimits, IsWithin, row_digits, row_limits, row_request, whole}
use Rattle.pascal_command.specs.Command.{Given, Limits, Request, are_digits, has_digits, limits_of, number_of, value_of}
use Rattle.pascal_command.specs.declared.job.TheConstants.{DEFAULT_HEAP, DEFAULT_STACK, DEFAULT_STEPS, MAX_BUDGET}
use Rattle.pascal_command.specs.declared.job.TheConstants.{MAX_STEPS}
use Rattle.pascal_command.proofs.GivenRows.{AllFit, Fails, row, value_fits}
use Rattle.pascal_command.proofs.Leaves.{budget_text, end_look, end_row, end_rows, limited_ones, or_defaults}
use Rattle.pascal_command.proofs.Leaves.{steps_text}
use Rattle.pascal_command.proofs.LineWalk.{rules}

-- a parse that enters a command finds what is asked for; where nothing is, it fails, or finds a number that is not
-- digits alone
abbrev pub Agrees : Option Request → Kinds → Text × List Row → Type 0
Agrees None faults found = Fails faults ⊎ ((faults ≡ []) × (row_digits found.1 ≡ false))
Agrees (Some request) faults found = (faults ≡ []) × (row_request (Some found) ≡ request) × HasLimits found.1
    × (row_digits found.1 ≡ true)

pub one_at : (ones : List _) (name : Text) (given : Given) → one_of name
    (end_rows ones given) ≡ option_and_then row_text
    (end_row (rules ones) name given)
one_at ones name given = ap (option_and_then row_text) (end_look (rules ones) name given)

pub first_at : (ones : List _) (name : Text) (given : Given) → first_of name (end_rows ones given) ≡ option_and_then
    (λ r. slice_get r.values 0) (end_row (rules ones) name given)
first_at ones name given = ap (option_and_then (λ (r : Row). slice_get r.values 0)) (end_look (rules ones) name given)

-- ---- limits

number_default : (o : Option Text) (default : Text) → number_of (unwrap_or o default) ≡ option_map_or number_of o
    (number_of default)
number_default None default = refl
number_default (Some t) default = refl

budget_agrees : (one : Option Text) (o : Option Text) (default : Text) (n : ℕ) → one ≡ Some
    (without_minus (unwrap_or o default))
    → is_signed_in (pos 0) (pos MAX_BUDGET) (unwrap_or o default) ≡ true
    → IfSome one (IsWithin 0 MAX_BUDGET) × (option_map_or whole one n ≡ option_map_or number_of o (number_of default))
budget_agrees one o default n e fit =
    let number = budget_text (unwrap_or o default) fit in (
      subst (λ u. IfSome u (IsWithin 0 MAX_BUDGET)) (sym e) number.0,
      ap (λ u. option_map_or whole u n) e
          ∙ (number.1 ∙ number_default o default),
    )

steps_agree : (one : Option Text) (o : Option Text) (default : Text) (n : ℕ) → one ≡ Some (unwrap_or o default)
    → is_unsigned_in 1 MAX_STEPS (unwrap_or o default) ≡ true
    → IfSome one (IsWithin 1 MAX_STEPS) × (option_map_or whole one n ≡ option_map_or number_of o
    (number_of default))
steps_agree one o default n e fit =
    let number = steps_text (unwrap_or o default) fit in (
      subst (λ u. IfSome u (IsWithin 1 MAX_STEPS)) (sym e) number.0,
      ap (λ u. option_map_or whole u n) e
          ∙ (number.1 ∙ number_default o default),
    )

value_passes : (test : Text → Bool) (default : Text) (o : Option Text) → test default ≡ true
    → ((t : Text) → o ≡ Some t → test t ≡ true)
    → test (unwrap_or o default) ≡ true
value_passes test default None good given = good
value_passes test default (Some t) good given = given t refl

stack_text : (name : Text) (o : Option Text) → option_and_then row_text
    (or_defaults (codes "stack") (option_map (row (codes "stack")) o) (rules (limited_ones name)))
    ≡ Some (without_minus (unwrap_or o (codes "4194304")))
stack_text name None = refl
stack_text name (Some t) = refl

heap_text : (name : Text) (o : Option Text) → option_and_then row_text
    (or_defaults (codes "heap") (option_map (row (codes "heap")) o) (rules (limited_ones name)))
    ≡ Some (without_minus (unwrap_or o (codes "1048576")))
heap_text name None = refl
heap_text name (Some t) = refl

count_text : (name : Text) (o : Option Text) → option_and_then row_text
    (or_defaults (codes "steps") (option_map (row (codes "steps")) o) (rules (limited_ones name)))
    ≡ Some (unwrap_or o (codes "1000000000"))
count_text name None = refl
count_text name (Some t) = refl

-- the text of a number, given or default, is digits where what was given is
stack_digits : (name : Text) (o : Option Text) → are_digits
    (option_and_then (λ r. slice_get r.values 0)
    (or_defaults (codes "stack") (option_map (row (codes "stack")) o) (rules (limited_ones name)))) ≡ are_digits o
stack_digits name None = refl
stack_digits name (Some t) = refl

heap_digits : (name : Text) (o : Option Text) → are_digits
    (option_and_then (λ r. slice_get r.values 0)
    (or_defaults (codes "heap") (option_map (row (codes "heap")) o) (rules (limited_ones name)))) ≡ are_digits o
heap_digits name None = refl
heap_digits name (Some t) = refl

count_digits : (name : Text) (o : Option Text) → are_digits
    (option_and_then (λ r. slice_get r.values 0)
    (or_defaults (codes "steps") (option_map (row (codes "steps")) o) (rules (limited_ones name)))) ≡ are_digits o
count_digits name None = refl
count_digits name (Some t) = refl

pub digits_agree : (name : Text) (given : Given) → row_digits (end_rows (limited_ones name) given) ≡ has_digits given
digits_agree name given =
    let ones = limited_ones name in
    let stack = ap are_digits (first_at ones (codes "stack") given) ∙ stack_digits name (value_of (codes "stack") given)
    in
    let heap = ap are_digits (first_at ones (codes "heap") given) ∙ heap_digits name (value_of (codes "heap") given) in
    let steps = ap are_digits (first_at ones (codes "steps") given) ∙ count_digits name (value_of (codes "steps") given)
    in
    ap₂ (λ a b. a && b) stack (ap₂ (λ a b. a && b) heap steps)

abbrev pub limits : ℕ → ℕ → ℕ → Limits
limits a b c = record { stack = a; heap = b; steps = c }

pub limits_by : (a b c x y z : ℕ) → a ≡ x → b ≡ y → c ≡ z → limits a b c ≡ limits x y z
limits_by a b c x y z e f g = ap (λ n. limits n b c) e ∙ (ap (λ n. limits x n c) f ∙ ap (λ n. limits x y n) g)

pub limits_agree : (name : Text) (given : Given) → AllFit (rules (limited_ones name)) given
    → (row_limits (end_rows (limited_ones name) given) ≡ limits_of given) × HasLimits
    (end_rows (limited_ones name) given)
limits_agree name given all_fit =
    let ones = limited_ones name in
    let stack = budget_agrees _ (value_of (codes "stack") given) (codes "4194304") DEFAULT_STACK
    (one_at ones (codes "stack") given ∙ stack_text name (value_of (codes "stack") given))
    (value_passes (is_signed_in (pos 0) (pos MAX_BUDGET)) (codes "4194304") _ refl
    (λ t e. (value_fits (rules ones) (codes "stack") t given all_fit e).0)) in
    let heap = budget_agrees _ (value_of (codes "heap") given) (codes "1048576") DEFAULT_HEAP
    (one_at ones (codes "heap") given ∙ heap_text name (value_of (codes "heap") given))
    (value_passes (is_signed_in (pos 0) (pos MAX_BUDGET)) (codes "1048576") _ refl
    (λ t e. (value_fits (rules ones) (codes "heap") t given all_fit e).0)) in
    let steps = steps_agree _ (value_of (codes "steps") given) (codes "1000000000") DEFAULT_STEPS
    (one_at ones (codes "steps") given ∙ count_text name (value_of (codes "steps") given))
    (value_passes (is_unsigned_in 1 MAX_STEPS) (codes "1000000000") _ refl
    (λ t e. (value_fits (rules ones) (codes "steps") t given all_fit e).0)) in (
      limits_by _ _ _ _ _ _ stack.1 heap.1 steps.1,
      (stack.0, heap.0, steps.0),
    )
