-- What the runner's values represent in the definitions.
use Rattle.std.specs.Prelude.{◌≡◌, ℕ, ℤ, Option, Some, None, Bool, false, not, ◌&&◌, ◌||◌, List, [], ◌∷◌}
use Rattle.std.specs.Prelude.{get_or, Vec}
use Rattle.std.specs.Global.{Global}
use Rattle.ps_tree.specs.declared.tree.operators.SetOperator.{SetOperator}
use Rattle.ps_tree.specs.declared.tree.operators.SetOperator.TheVariants.{Union, Difference, Intersection}
use Rattle.ps_meaning.specs.Values as m
use Rattle.ps_meaning.specs.Operators as o
use Rattle.ps_meaning.specs.Text as t
use Rattle.ps_meaning_runner.specs.declared.value.Value.{Value, Ordinal, Nil, Object, Set, Structure', Row_of-Value}
use Rattle.ps_meaning_runner.specs.declared.value.Value.{end_of-Value, more_of-Value}
use Rattle.ps_meaning_runner.specs.declared.value.Root.{Root}
use Rattle.ps_meaning_runner.specs.declared.value.Root.TheVariants.{Declared, Made}
use Rattle.ps_meaning_runner.specs.declared.value.Spot.{Spot}
use Rattle.ps_meaning_runner.specs.declared.text.Reading.{Reading}
use Rattle.ps_meaning_runner.specs.declared.text.Reading.TheVariants.{EndFound, NoInteger, Integer}
use Rattle.ps_meaning_runner.specs.declared.operators.Computed.{Computed}
use Rattle.ps_meaning_runner.specs.declared.operators.Computed.TheVariants.{Result, Fault}
use Rattle.ps_meaning_runner.specs.declared.operators.Comparison.{Comparison}
use Rattle.ps_meaning_runner.specs.declared.operators.Comparison.TheVariants.{Ordinals, Pointers}

-- the set whose tests, from 0 on, are listed; a number past the list is not a member
abbrev pub listed : List Bool → ℕ → Bool
listed tests k = get_or tests k false

abbrev pub members_of_set : Vec Bool Global → ℕ → Bool
members_of_set tests = listed tests.items

unfoldable mutual
  pub value_of : Value → m.Value
  value_of (Ordinal n) = m.OrdinalValue n
  value_of Nil = m.NilValue
  value_of (Object object) = m.ObjectValue object
  value_of (Set tests) = m.SetValue (listed tests.items)
  value_of (Structure' shape row) = m.StructureValue (values_of_row row)

  pub values_of_row : {n : _} → Row_of-Value n → m.Values
  values_of_row end_of-Value = m.no_value
  values_of_row (more_of-Value v rest) = m.value_before (value_of v) (values_of_row rest)

-- lists of values
unfoldable pub values_of : List Value → m.Values
values_of [] = m.no_value
values_of (v ∷ rest) = m.value_before (value_of v) (values_of rest)

abbrev pub root_of : Root → m.Root
root_of (Declared name) = m.Declared name
root_of (Made object) = m.Made object

abbrev pub spot_of : Spot → m.Spot
spot_of s = record { root = root_of s.root; path = s.path.items }

abbrev pub computed_of : Computed → o.Computed
computed_of (Result n) = o.Result n
computed_of (Fault number) = o.Fault number

-- a comparison of two values
abbrev pub compared : Comparison → m.Value → m.Value → Bool
compared (Ordinals relation) x y = o.holds relation (m.number_of x) (m.number_of y)
compared (Pointers relation) x y = o.pointers_hold relation x y

-- an operator on two sets at one number
abbrev pub tested : SetOperator → Bool → Bool → Bool
tested Union a b = a || b
tested Difference a b = a && not b
tested Intersection a b = a && b

-- a result, or error 1
unfoldable pub integer_of : ℤ → o.Computed
integer_of x = o.integer x

-- an integer of the language, or none
abbrev pub IsNumber : ℤ → Option ℤ → Type 0
IsNumber x (Some n) = x ≡ n
IsNumber x None = o.is_between o.least x o.greatest ≡ false

abbrev pub number_of_place : ℕ → ℕ
number_of_place n = n

-- what a read of an integer found
abbrev pub IsReading : t.Reading → Reading → Type 0
IsReading t.EndFound EndFound = Unit {0}
IsReading t.NoInteger NoInteger = Unit {0}
IsReading (t.Integer x) (Integer found) = IsNumber x found
IsReading _ _ = ⊥
