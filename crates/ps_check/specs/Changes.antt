-- What a block changes: its function's result (6.6.2), and variables of the blocks around it (6.8.3.9).
use Rattle.std.specs.Prelude.{◌-◌, ◌==◌, ◌&&◌, Bool, true, List, [], ◌∷◌, Option, Some, None, if◌then◌else◌}
use Rattle.std.specs.List.{list_any}
use Rattle.ps_tree.specs.Types.{DataType}
use Rattle.ps_check_judgement.specs.declared.change.Change.{Change}

-- a change of a function's result, which is the entry 0 of its block
abbrev pub is_of_result : Change → Bool
is_of_result x = x.up == 0 && x.entry == 0

-- 6.6.2: an assignment to a function's result is in the function's block
unfoldable pub assigns : Option DataType → List Change → Bool
assigns None changes = true
assigns (Some type) changes = list_any is_of_result changes

-- the changes of a block that reach further out, as the enclosing block sees them
unfoldable pub outward : List Change → List Change
outward [] = []
outward (x ∷ xs) = if x.up == 0 then outward xs else record { up = x.up - 1; entry = x.entry; at = x.at } ∷ outward xs
