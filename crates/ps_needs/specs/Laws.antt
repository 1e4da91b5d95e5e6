-- A stack that holds each path of calls is enough.
use Rattle.std.specs.Prelude.{◌≡◌, ℕ, List}
use Rattle.behavior.specs.Endings.{Stack}
use Rattle.behavior.specs.Transcripts.{AreBytes}
use Rattle.ps_text.specs.Lines.{IsSource}
use Rattle.ps_scan.specs.declared.token.Token.{Token}
use Rattle.ps_scan.specs.Lexis.{IsTokens}
use Rattle.ps_syntax.specs.declared.program.Program as syntax
use Rattle.ps_parse_grammar.specs.Trees.{IsTreeOf}
use Rattle.ps_tree.specs.Tree.{Program}
use Rattle.ps_check_judgement.specs.Judged.{Yes}
use Rattle.ps_check.specs.Programs.{program}
use Rattle.ps_meaning.specs.Run.{run_within}
use Rattle.ps_needs_least.specs.Paths.{HoldsAll}

-- under any frames and objects, on any input and however long it goes on, no run of the program is stopped for stack
abbrev pub PathsAreEnough : Program → Type 0
PathsAreEnough checked =
    (F G : List ℕ) (S H : ℕ) → HoldsAll checked F S
    → (input : List ℕ) (n line : ℕ) → (run_within checked F G S H input n).1 ≡ Stack line → ⊥

-- the checked program of a text of bytes within the limits, of its tokens and of their tree
abbrev pub NeedsEnough : Type 0
NeedsEnough =
    (text : List ℕ) (tokens : List Token) (tree : syntax.Program) (checked : Program)
    → AreBytes text → IsSource text → IsTokens text tokens → IsTreeOf text tokens tree → program text tree ≡ Yes checked
    → PathsAreEnough checked
