-- The request of a command that was entered.
use Rattle.std.proofs.Common.{◌≡◌, ◌∙◌, ap, ap₂, refl, sym, subst, ℕ, List, Some, None, Option, codes}
use Rattle.std.specs.Option.{option_map_or}
use Rattle.std.specs.Prelude.{IfSome, option_map}
use Rattle.clap.specs.Walk.{Row, Text, one_of}
use Rattle.pascal_command.specs.App.{HasLimits, IsWithin, row_number, row_request, row_work, whole}
use Rattle.pascal_command.specs.Command.{Limits, Request, Work}
use Rattle.pascal_command.specs.declared.job.TheConstants.{DEFAULT_HEAP, DEFAULT_STACK, DEFAULT_STEPS}

abbrev both : Text → List Row → Text × List Row
both name rows = (name, rows)

-- a subcommand is what its name and its rows tell
pub entered_is : {B : Type 0} (f : B → Text) (g : B → List Row) (o : Option B) (name : Text) (rows : List Row)
    → Some name ≡ option_map f o
    → Some rows ≡ option_map (λ (p : Text × List Row). p.1) (option_map {U = Text × List Row} (λ b. (f b, g b)) o)
    → option_map {U = Text × List Row} (λ b. (f b, g b)) o ≡ Some (both name rows)
entered_is f g None name rows named rowed = absurd (cc)
entered_is f g (Some b) name rows named rowed = ap₂ (λ n r. Some (both n r)) (taken named) (taken rowed)
  where
    taken : {A : Type 0} {x y : A} → Some x ≡ Some y → y ≡ x
    taken e = cc

pub number_is : (default : ℕ) (name : Text) (rows : List Row) (n least most : ℕ)
    → (one_of name rows ≡ None → n ≡ default)
    → ((text : Text) → one_of name rows ≡ Some text → IsWithin least most text → n ≡ whole text)
    → IfSome (one_of name rows) (IsWithin least most) → n ≡ row_number default name rows
number_is default name rows n least most none some = go (one_of name rows) refl
  where
    go : (o : Option Text) → one_of name rows ≡ o → IfSome o (IsWithin least most) → n ≡ option_map_or whole o default
    go None e within = none e
    go (Some text) e within = some text e within

abbrev limits : ℕ → ℕ → ℕ → Limits
limits stack heap steps = record { stack = stack; heap = heap; steps = steps }

abbrev asking : Work → Limits → Request
asking work limits = record { work = work; limits = limits }

limits_as : (a b c x y z : ℕ) → a ≡ x → b ≡ y → c ≡ z → limits a b c ≡ limits x y z
limits_as a b c x y z p q r =
    ap (λ s. limits s b c) p ∙ (ap (λ h. limits x h c) q ∙ ap (λ t. limits x y t) r)

pub request_is : (o : Option (Text × List Row)) (name : Text) (rows : List Row) (work : Work) (stack heap steps : ℕ)
    → o ≡ Some (both name rows) → work ≡ row_work name rows
    → (HasLimits rows → stack ≡ row_number DEFAULT_STACK (codes "stack") rows)
    → (HasLimits rows → heap ≡ row_number DEFAULT_HEAP (codes "heap") rows)
    → (HasLimits rows → steps ≡ row_number DEFAULT_STEPS (codes "steps") rows)
    → IfSome o (λ entered. HasLimits entered.1) → asking work (limits stack heap steps) ≡ row_request o
request_is o name rows work stack heap steps e works a b c within =
    let has : HasLimits rows = subst (λ x. IfSome x (λ entered. HasLimits entered.1)) e within in
    subst (λ x. asking work (limits stack heap steps) ≡ row_request x) (sym e)
    (ap₂ asking works (limits_as stack heap steps _ _ _ (a has) (b has) (c has)))
