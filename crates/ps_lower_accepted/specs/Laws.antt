-- What is accepted has what the lowering needs, and is formed.
use Rattle.std.specs.Prelude.{◌≡◌, ℕ, List}
use Rattle.behavior.specs.Transcripts.{AreBytes}
use Rattle.ps_text.specs.Lines.{IsSource}
use Rattle.ps_scan.specs.declared.token.Token.{Token}
use Rattle.ps_scan.specs.Lexis.{IsTokens}
use Rattle.ps_syntax.specs.declared.program.Program as syntax
use Rattle.ps_parse_grammar.specs.Trees.{IsTreeOf}
use Rattle.ps_tree.specs.Tree.{Program}
use Rattle.ps_check_judgement.specs.Judged.{Yes}
use Rattle.ps_check.specs.Programs.{program}
use Rattle.ps_lower_laws.specs.Fits.{ProgramFits}
use Rattle.ps_lower_accepted.specs.Formed.{IsFormed}

-- The checked program of a text of bytes within the limits, of its tokens and of their tree.
abbrev pub AcceptedFit : Type 0
AcceptedFit =
    (text : List ℕ) (tokens : List Token) (tree : syntax.Program) (checked : Program)
    → AreBytes text → IsSource text → IsTokens text tokens → IsTreeOf text tokens tree → program text tree ≡ Yes checked
    → ProgramFits checked

abbrev pub AcceptedFormed : Type 0
AcceptedFormed =
    (text : List ℕ) (tokens : List Token) (tree : syntax.Program) (checked : Program)
    → AreBytes text → IsSource text → IsTokens text tokens → IsTreeOf text tokens tree → program text tree ≡ Yes checked
    → IsFormed checked
