-- How the answers for parts are carried on to the answer for what is made of them.
use Rattle.std.specs.Prelude.{List, Result}
use Rattle.ps_check_judgement.specs.declared.change.Change.{Change}
use Rattle.ps_check_judgement.specs.declared.refusal.CheckFault.{CheckFault}
use Rattle.ps_check_judgement.specs.Judged.{Judged, Answers}
use Rattle.ps_check_judgement.specs.Changing.{Changing, ◌>>=◌, same, still}
use Rattle.ps_tree.specs.Types.{DataType}
use Rattle.ps_tree.specs.Tree as Tree
use Rattle.ps_check_expressions.specs.Values.{Value}

module _ {X Y A B : Type 0} where
  -- whatever a part denotes, the answer for it becomes the answer for what is made of it
  abbrev pub Carries : Result X CheckFault → (X → A) → Result Y CheckFault → (Y → B) → (A → Judged B) → Type 0
  Carries part view result made k = (m : Changing A) (before after : List Change)
      → Answers part (λ x. (view x, after)) (m before)
      → Answers result (λ y. (made y, after)) ((m >>= (λ a. still (k a))) before)

  -- the same for two parts, the second of which begins where the first has ended
  abbrev pub CarriesBoth : Result X CheckFault → Result X CheckFault → (X → A) → Result Y CheckFault → (Y → B)
      → (A → A → Judged B) → Type 0
  CarriesBoth first second view result made k = (m n : Changing A) (before between after : List Change)
      → Answers first (λ x. (view x, between)) (m before)
      → Answers second (λ x. (view x, after)) (n between)
      → Answers result (λ y. (made y, after)) ((m >>= (λ a. n >>= (λ b. still (k a b)))) before)

-- a call of a function with a result of this type, if it has one, and with these actual parameters
abbrev pub call_of : (DataType → List Tree.Argument → Value) → Judged DataType → Changing (List Tree.Argument)
    → Changing Value
call_of call type arguments = still type >>= (λ t. arguments >>= (λ xs. same (call t xs)))
