-- What a run answers, and what it is refused for, from what it is made of.
use Rattle.std.proofs.Common.{List, ℕ, Result, Ok, Err, Option, Some, None}
use Rattle.std.specs.Prelude.{IfOk, IfSome, IfNone}
use Rattle.risc_image.specs.declared.refusal.ImageRefusal.{ImageRefusal}
use Rattle.risc_image.specs.declared.refusal.ImageRefusal.TheVariants as i
use Rattle.risc_image.specs.Image.{Image}
use Rattle.risc_image.specs.Format.{IsImage}
use Rattle.risc_image.specs.Refusal.{IsRefused}
use Rattle.risc_load.specs.declared.budget.Budget.{Budget}
use Rattle.ps_build.specs.declared.refusal.Refusal.{Refusal}
use Rattle.ps_build.specs.declared.refusal.Refusal.TheVariants.{OutOfMemory, BudgetTooLarge, BudgetUneven}
use Rattle.ps_build.specs.Refusals.{of_image}
use Rattle.ps_build.specs.Runs.{IsLoadRefused, IsRunRefused}

pub if_ok_both : {T E : Type 0} (r : Result T E) (P Q R : T → Type 0) → ((x : T) → P x → Q x → R x) → IfOk r P
    → IfOk r Q → IfOk r R
if_ok_both (Ok x) P Q R f h k = f x h k
if_ok_both (Err e) P Q R f h k = h

pub if_ended : {T E : Type 0} (r : Result (Option T) E) (P Q : T → Type 0) → ((x : T) → P x → Q x) → IfOk r
    (λ end. IfSome end P) → IfOk r (λ end. IfSome end Q)
if_ended (Ok (Some x)) P Q f h = f x h
if_ended (Ok None) P Q f h = h
if_ended (Err e) P Q f h = h

pub if_left : {T E : Type 0} (r : Result (Option T) E) (P Q : Type 0) → (P → Q) → IfOk r (λ end. IfNone end P) → IfOk r
    (λ end. IfNone end Q)
if_left (Ok (Some x)) P Q f h = h
if_left (Ok None) P Q f h = f h
if_left (Err e) P Q f h = h

if_some : {T : Type 0} (o : Option T) (P Q : T → Type 0) → ((x : T) → P x → Q x) → IfSome o P → IfSome o Q
if_some (Some x) P Q f h = f x h
if_some None P Q f h = h

if_none : {T : Type 0} (o : Option T) (P Q : Type 0) → (P → Q) → IfNone o P → IfNone o Q
if_none (Some x) P Q f h = h
if_none None P Q f h = f h

-- The same of what tells the end among other things.
pub if_ended_in : {S T E : Type 0} (end : S → Option T) (r : Result S E) (P Q : T → Type 0) → ((x : T) → P x → Q x)
    → IfOk r (λ s. IfSome (end s) P) → IfOk r (λ s. IfSome (end s) Q)
if_ended_in end (Ok s) P Q f h = if_some (end s) P Q f h
if_ended_in end (Err e) P Q f h = h

pub if_left_in : {S T E : Type 0} (end : S → Option T) (r : Result S E) (P Q : Type 0) → (P → Q)
    → IfOk r (λ s. IfNone (end s) P) → IfOk r (λ s. IfNone (end s) Q)
if_left_in end (Ok s) P Q f h = if_none (end s) P Q f h
if_left_in end (Err e) P Q f h = h

pub no_image : (bytes : List ℕ) (budget : Budget) (refusal : ImageRefusal) → IsRefused bytes refusal
    → IsRunRefused bytes budget (of_image refusal)
no_image bytes budget i.Magic h = h
no_image bytes budget i.Truncated h = h
no_image bytes budget i.Trailing h = h
no_image bytes budget i.TooLarge h = h
no_image bytes budget i.BadTable h = h

pub not_loaded : (bytes : List ℕ) (budget : Budget) (image : Image) (refusal : Refusal) → IsImage bytes image
    → IsLoadRefused image budget refusal → IsRunRefused bytes budget refusal
not_loaded bytes budget image OutOfMemory is_image h = record { image = image; is_image = is_image; refused = h }
not_loaded bytes budget image BudgetTooLarge is_image h = record { image = image; is_image = is_image; refused = h }
not_loaded bytes budget image BudgetUneven is_image h = record { image = image; is_image = is_image; refused = h }
not_loaded bytes budget image _ is_image h = absurd h
