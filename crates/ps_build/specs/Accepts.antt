-- Which texts are accepted, each as which checked program, and why the others are refused.
use Rattle.std.specs.Prelude.{◌≡◌, ℕ, ◌<◌, ◌≤◌, List, length, drop}
use Rattle.ps_text.specs.declared.TheConstants.{MAX_LENGTH, MAX_LINES}
use Rattle.ps_text.specs.declared.Span.{Span}
use Rattle.ps_text.specs.Lines.{IsSource, line_count, line_at}
use Rattle.ps_scan.specs.declared.refusal.ScanFault.{ScanFault}
use Rattle.ps_scan.specs.declared.token.Token.{Token}
use Rattle.ps_scan.specs.Faults.{RefusedFrom}
use Rattle.ps_scan.specs.Lexis.{IsTokens}
use Rattle.ps_syntax.specs.declared.program.Program.{Program}
use Rattle.ps_parse_grammar.specs.Trees.{IsTreeOf}
use Rattle.ps_parse.specs.declared.error.ParseFault.{ParseFault}
use Rattle.ps_parse.specs.Refusals.{token_line, first_span}
use Rattle.ps_parse.specs.Untaken.{IsRefusedAt}
use Rattle.ps_check_judgement.specs.declared.refusal.Rule.{Rule}
use Rattle.ps_check_judgement.specs.Judged.{Yes, No}
use Rattle.ps_check_names.specs.Spelling.{line_in}
use Rattle.ps_build.specs.declared.refusal.Place.{Place}
use Rattle.ps_build.specs.Refusals.{end_of_token}
use Rattle.ps_build.specs.declared.refusal.Refusal.{Refusal}
use Rattle.ps_build.specs.declared.refusal.Refusal.TheVariants.{TooLong, TooManyLines, OutOfMemory, Scan, Parse, Check}
use Rattle.ps_build.specs.declared.refusal.Refusal.TheVariants.{CodeTooLarge}
use Rattle.ps_tree.specs.Tree as Tree
use Rattle.ps_check.specs.Programs.{program}
use Rattle.ps_lower_code.specs.Programs.{code_of}
use Rattle.tac_rt.specs.Bodies.{run_time_routines}
use Rattle.tac_code.specs.Meaning.{Code}
use Rattle.tac_plan.specs.Roomy.{roomy}
use Rattle.risc_image.specs.declared.header.TheConstants.{MAX_COUNT}
use Rattle.risc_alloc.specs.declared.homes.Home.{Home}
use Rattle.risc_alloc.specs.Valid.{Valid}
use Rattle.risc_emit.specs.Emitted.{code_words}

-- the text is within the limits, has tokens, and these have a tree that is not too high
pub record IsParsed (text : List ℕ) (tokens : List Token) (tree : Program) : Type 0 where
  pub limits : IsSource text
  pub scanned : IsTokens text tokens
  pub derived : IsTreeOf text tokens tree

-- The text is accepted as this checked program: it keeps the rules of regions, types and statements, and the limits.
pub record Accepts (text : List ℕ) (checked : Tree.Program) : Type 0 where
  pub tokens : List Token
  pub tree : Program
  pub parsed : IsParsed text tokens tree
  pub checks : program text tree ≡ Yes checked

-- the text is accepted as this checked program, and as no other
pub record IsProgramOf (text : List ℕ) (checked : Tree.Program) : Type 0 where
  pub accepts : Accepts text checked
  pub only : (other : Tree.Program) → Accepts text other → other ≡ checked

-- the text is accepted
pub record IsAccepted (text : List ℕ) : Type 0 where
  pub checked : Tree.Program
  pub is_program : IsProgramOf text checked

-- the code of the program that the text is accepted as
pub record IsCodeOfText (text : List ℕ) (code : Code) : Type 0 where
  pub checked : Tree.Program
  pub is_program : IsProgramOf text checked
  pub is_code : code ≡ code_of run_time_routines checked

abbrev pub span_of : Place → Span
span_of place = record { from = place.from; to = place.to }

-- the text's first fault among tokens and separators is this one, at this place
pub record HasFault (text : List ℕ) (why : ScanFault) (place : Place) : Type 0 where
  pub limits : IsSource text
  pub first : RefusedFrom 0 text why (span_of place)
  pub on_line : place.line ≡ line_at text place.from

-- The text has tokens, and no tree that is not too high derives them. The first token that no derivation accepts is
-- reported, by its number, from 0, and its place, with the reason why none does.
pub record HasNoTree (text : List ℕ) (why : ParseFault) (at : ℕ) (place : Place) : Type 0 where
  pub limits : IsSource text
  pub tokens : List Token
  pub scanned : IsTokens text tokens
  pub none : (others : List Token) (tree : Program) → IsTokens text others → IsTreeOf text others tree → ⊥
  pub told : IsRefusedAt text tokens at why
  pub placed : span_of place ≡ first_span text (drop at tokens)
  pub on_line : place.line ≡ token_line text tokens at

-- The text has a tree, and its judgement is that it breaks a rule or a limit, which is reported at a token.
pub record HasNoProgram (text : List ℕ) (rule : Rule) (place : Place) : Type 0 where
  pub tokens : List Token
  pub tree : Program
  pub parsed : IsParsed text tokens tree
  pub judged : program text tree ≡ No rule place.from
  -- it has no other tree
  pub only : (others : List Token) (other : Program) → IsParsed text others other → other ≡ tree
  pub ends : place.to ≡ end_of_token tokens place.from
  pub on_line : place.line ≡ line_in text place.from

-- the code has homes for its temporaries with which its words are too many
pub record HasNoRoom (code : Code) : Type 0 where
  pub homes : List Home
  pub placed : Valid code homes
  pub words : MAX_COUNT < code_words code homes

-- the text is accepted, as a program whose three-address code has too many words, with all temporaries that there is
-- room for
pub record IsCodeTooLarge (text : List ℕ) : Type 0 where
  pub checked : Tree.Program
  pub accepts : Accepts text checked
  pub no_room : HasNoRoom (roomy (code_of run_time_routines checked))

-- What each refusal of a text says about it; the others are never reported. A text may be refused as out of memory only
-- within the limits.
abbrev pub IsRefused : List ℕ → Refusal → Type 0
IsRefused text TooLong = MAX_LENGTH < length text
IsRefused text TooManyLines = (length text ≤ MAX_LENGTH) × (MAX_LINES < line_count text)
IsRefused text OutOfMemory = IsSource text
IsRefused text (Scan fault place) = HasFault text fault place
IsRefused text (Parse fault token place) = HasNoTree text fault token place
IsRefused text (Check rule place) = HasNoProgram text rule place
IsRefused text CodeTooLarge = IsCodeTooLarge text
IsRefused text _ = ⊥

-- a refusal that reports a fault of the text: 1, 2, and 10 to 45
abbrev pub IsFaulty : Refusal → Type 0
IsFaulty TooLong = Unit {0}
IsFaulty TooManyLines = Unit {0}
IsFaulty (Scan fault place) = Unit {0}
IsFaulty (Parse fault token place) = Unit {0}
IsFaulty (Check rule place) = Unit {0}
IsFaulty _ = ⊥

-- the text is accepted as no program
abbrev pub IsNotAccepted : List ℕ → Type 0
IsNotAccepted text = (checked : Tree.Program) → Accepts text checked → ⊥
