-- What `check` returns for a program: what the judgement says.
use Rattle.std.specs.Prelude.{◌≡◌, ℕ, List, Result}
use Rattle.std.specs.Result.{MatchResult}
use Rattle.ps_tree.specs.declared.program.Checked as Rust
use Rattle.ps_tree.specs.Checked.{program_in}
use Rattle.ps_tree.specs.Tree as Tree
use Rattle.ps_check_judgement.specs.declared.refusal.CheckFault.{CheckFault}
use Rattle.ps_check_judgement.specs.declared.refusal.CheckFault.TheVariants as fault
use Rattle.ps_check_judgement.specs.declared.refusal.CheckRefusal.{CheckRefusal}
use Rattle.ps_check_judgement.specs.declared.refusal.CheckRefusal.TheVariants as refusal
use Rattle.ps_check_judgement.specs.Judged.{Judged, Yes, No}
use Rattle.ps_check_names.specs.Spelling.{line_in}

-- a fault with the line of its token
abbrev pub refusal_of : List ℕ → CheckFault → CheckRefusal
refusal_of text fault.OutOfMemory = refusal.OutOfMemory
refusal_of text (fault.Broken rule at) = refusal.Broken rule at (line_in text at)

-- the refusal is what is judged; running out of memory says nothing of the program
abbrev pub IsRefusalOf : {A : Type 0} → List ℕ → Judged A → CheckRefusal → Type 0
IsRefusalOf text j refusal.OutOfMemory = Unit {0}
IsRefusalOf text j (refusal.Broken rule at line) = (j ≡ No rule at) × (line ≡ line_in text at)

abbrev pub IsChecked : List ℕ → Judged Tree.Program → Result Rust.Checked CheckRefusal → Type 0
IsChecked text j answer = MatchResult answer (λ checked. j ≡ Yes (program_in checked)) (IsRefusalOf text j)
