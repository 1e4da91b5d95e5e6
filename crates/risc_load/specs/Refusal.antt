-- Which budgets are refused (this project's loader).
use Rattle.std.specs.Prelude.{◌≡◌, ℕ, ◌+◌, ◌*◌, ◌%◌, not, ◌==◌, nat_lt, ◌||◌, if◌then◌else◌, length, Option, Some}
use Rattle.std.specs.Prelude.{None, MatchOption}
use Rattle.risc_image.specs.Image.{Image}
use Rattle.risc_machine.specs.declared.limits.TheConstants.{MAX_MEMORY}
use Rattle.risc_load.specs.declared.budget.Budget.{Budget}
use Rattle.risc_load.specs.declared.budget.LoadRefusal.{LoadRefusal}
use Rattle.risc_load.specs.declared.budget.LoadRefusal.TheVariants.{OutOfMemory, BudgetTooLarge, BudgetUneven}

abbrev pub number_of : LoadRefusal → ℕ
number_of OutOfMemory = 9
number_of BudgetTooLarge = 70
number_of BudgetUneven = 71

-- the bytes of code, globals, heap and stack
abbrev pub bytes_needed : Image → Budget → ℕ
bytes_needed image budget = 4 * length image.code + image.global + budget.heap + budget.stack

-- what is wrong with a budget for an image: first an uneven part, then their sum
abbrev pub budget_fault : Image → Budget → Option LoadRefusal
budget_fault image budget =
    if not (budget.stack % 4 == 0) || not (budget.heap % 4 == 0) then Some BudgetUneven else (
    if nat_lt MAX_MEMORY (bytes_needed image budget) then Some BudgetTooLarge else None)

-- A load is refused for the budget's fault, and otherwise only when out of memory.
abbrev pub IsRefused : Image → Budget → LoadRefusal → Type 0
IsRefused image budget refusal = MatchOption (budget_fault image budget) (refusal ≡ OutOfMemory)
    (λ fault. refusal ≡ fault)
