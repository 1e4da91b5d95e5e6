-- What is changed: variables that are assigned to, read, counted by a `for` statement or passed as variable parameters
-- (6.8.3.9), and results of functions that are assigned (6.6.2). A control variable and a function's result have no
-- components, so only whole variables are recorded.
use Rattle.std.specs.Prelude.{ℕ, ◌==◌, ◌&&◌, Bool, not, List, [], ◌∷◌, ◌++◌, Option, Some, None, if◌then◌else◌}
use Rattle.std.specs.List.{list_any}
use Rattle.ps_tree.specs.Tree as Tree
use Rattle.ps_check_judgement.specs.declared.refusal.Rule.TheVariants.{ControlVariable}
use Rattle.ps_check_judgement.specs.declared.change.Change.{Change}
use Rattle.ps_check_judgement.specs.Judged.{provided}
use Rattle.ps_check_judgement.specs.Changing.{Changing, same}
use Rattle.ps_check_names.specs.Regions.{Context}

-- a control variable of an enclosing `for` statement
abbrev pub is_control : Context → (up entry : ℕ) → Bool
is_control c up entry = up == 0 && list_any (λ e. e == entry) c.controls

-- 6.8.3.9: the statement that a `for` statement repeats doesn't threaten the control variable
unfoldable pub changed_entry : Context → (up entry at : ℕ) → Changing (Unit {0})
changed_entry c up entry at changes = provided (not (is_control c up entry)) ControlVariable at
    (tt, changes ++ record { up = up; entry = entry; at = at } ∷ [])

unfoldable pub changed : Context → Tree.Place → (at : ℕ) → Changing (Unit {0})
changed c (Tree.Variable (Tree.Entry up entry) Tree.no_selector) at = changed_entry c up entry at
changed c _ at = same tt

-- ---- what the routines of a block change, as the block sees it

-- a change of this entry of the block
abbrev pub is_change_of : ℕ → Change → Bool
is_change_of entry x = x.up == 0 && x.entry == entry

abbrev pub first_or : Option ℕ → Option ℕ → Option ℕ
first_or None other = other
first_or (Some at) other = Some at

-- where the entry is first changed
unfoldable pub first_at : ℕ → List Change → Option ℕ
first_at entry [] = None
first_at entry (x ∷ xs) = if is_change_of entry x then Some x.at else first_at entry xs
