-- The text is accepted as one program alone, or why it is refused.
use Rattle.std.proofs.Common.{◌≡◌, ◌⊎◌, inl, inr, ℕ, ◌<◌, List, length, drop, get_or, Result, Ok, Err, IfErr, refl, ◌^◌}
use Rattle.std.proofs.Common.{sym, ap, ◌∙◌, subst, arith}
use Rattle.std.specs.Prelude.{IsErrAnd}
use Rattle.std.proofs.lemmas.Grind.{get_or_default_zero}
use Rattle.behavior.specs.Transcripts.{AreBytes}
use Rattle.ps_tree.specs.Tree as Tree
use Rattle.ps_check_judgement.specs.declared.refusal.CheckRefusal.{CheckRefusal}
use Rattle.ps_check_judgement.specs.declared.refusal.CheckRefusal.TheVariants as k
use Rattle.ps_check_judgement.specs.Judged.{Yes}
use Rattle.ps_check_judgement.proofs.Binds.{no_yes}
use Rattle.ps_check.specs.Checked.{IsRefusalOf}
use Rattle.ps_check.specs.Programs.{program}
use Rattle.ps_text.specs.declared.Span.{Span}
use Rattle.ps_text.specs.declared.TextRefusal.{TextRefusal}
use Rattle.ps_text.specs.declared.TextRefusal.TheVariants as t
use Rattle.ps_scan.specs.declared.refusal.ScanRefusal.{ScanRefusal}
use Rattle.ps_scan.specs.declared.refusal.ScanRefusal.TheVariants as s
use Rattle.ps_scan.specs.declared.token.Token.{Token}
use Rattle.ps_scan.specs.Lexis.{IsTokens}
use Rattle.ps_scan.specs.Refusals as ScanRefusals
use Rattle.ps_scan.proofs.OneAnswer as ScanAnswers
use Rattle.ps_syntax.specs.declared.program.Program.{Program}
use Rattle.ps_parse_grammar.specs.Trees.{IsTreeOf}
use Rattle.ps_text.specs.Lines.{IsSource}
use Rattle.ps_parse.specs.declared.error.ParseRefusal.{ParseRefusal}
use Rattle.ps_parse.specs.declared.error.ParseRefusal.TheVariants as p
use Rattle.ps_parse.specs.declared.error.ParseFault.{ParseFault}
use Rattle.ps_parse.specs.Refusals.{token_line, first_span}
use Rattle.ps_parse.specs.Untaken.{IsRefusedAt, IsToldAt, IsTold}
use Rattle.ps_parse.proofs.OneAnswer.{refused_has_none}
use Rattle.tac_rt.specs.Bodies.{run_time_routines}
use Rattle.tac_plan.specs.Roomy.{roomy}
use Rattle.ps_lower_code.specs.Programs.{code_of}
use Rattle.ps_lower_laws.specs.Fits.{ProgramFits}
use Rattle.ps_lower_accepted.specs.Formed.{IsFormed}
use Rattle.ps_lower_accepted.specs.Laws.{AcceptedFit, AcceptedFormed}
use Rattle.ps_build.specs.declared.refusal.Refusal.{Refusal}
use Rattle.ps_build.specs.declared.refusal.Refusal.TheVariants.{TooLong, TooManyLines, OutOfMemory, Scan, Parse, Check}
use Rattle.ps_build.specs.declared.refusal.Refusal.TheVariants.{CodeTooLarge}
use Rattle.ps_build.specs.Refusals.{of_text, of_scan, of_parse, of_check, OnlyTooLarge}
use Rattle.ps_build.specs.Accepts.{IsParsed, Accepts, IsProgramOf, span_of, HasNoTree, HasNoRoom, IsRefused, IsFaulty}
use Rattle.ps_build.specs.Accepts.{IsNotAccepted}
use Rattle.ps_build.proofs.Short.{tokens_within}

-- ---- the text is accepted as one checked program alone

module _ (text : List ℕ) (tokens : List Token) (tree : Program) (source : IsSource text)
    (scanned : IsTokens text tokens) (only_tokens : (other : List Token) → IsTokens text other → other ≡ tokens)
    (derived : IsTreeOf text tokens tree)
    (only_tree : (other : Program) → IsTreeOf text tokens other → other ≡ tree) where
  abbrev parsed : IsParsed text tokens tree
  parsed = record { limits = source; scanned = scanned; derived = derived }

  -- the text has this tree alone
  one_tree : (others : List Token) (other : Program) → IsTokens text others → IsTreeOf text others other → other ≡ tree
  one_tree others other a b = only_tree other (subst (λ ts. IsTreeOf text ts other) (only_tokens others a) b)

  -- whatever the text is accepted as is the program of that tree
  accepted : (other : Tree.Program) → Accepts text other → program text tree ≡ Yes other
  accepted other a = ap (program text) (sym (one_tree a.tokens a.tree a.parsed.scanned a.parsed.derived)) ∙ a.checks

  pub program_of_text : (checked : Tree.Program) → program text tree ≡ Yes checked → IsProgramOf text checked
  program_of_text checked checks =
      record {
        accepts = record { tokens = tokens; tree = tree; parsed = parsed; checks = checks };
        only = λ other a. let both : Yes other ≡ Yes checked = sym (accepted other a) ∙ checks in cc both;
      }

  -- ---- why no program

  pub no_program : (refusal : CheckRefusal) → IsRefusalOf text (program text tree) refusal → IsRefused text
      (of_check tokens refusal)
  no_program k.OutOfMemory told = source
  no_program (k.Broken rule at line) told = record {
    tokens = tokens;
    tree = tree;
    parsed = parsed;
    judged = told.0;
    only = λ others other a. one_tree others other a.scanned a.derived;
    ends = refl;
    on_line = told.1;
  }

-- ---- why the program has no image

module _ (text : List ℕ) (checked : Tree.Program) (of_text : IsProgramOf text checked) where
  pub too_large : (refusal : Refusal) → OnlyTooLarge refusal (HasNoRoom (roomy (code_of run_time_routines checked)))
      → IsRefused text refusal
  too_large OutOfMemory h = of_text.accepts.parsed.limits
  too_large CodeTooLarge h = record { checked = checked; accepts = of_text.accepts; no_room = h }
  too_large _ h = absurd h

-- ---- what the program of a text of bytes has

all_bytes : (bytes : List ℕ) → ((k : ℕ) → get_or bytes k 0 < 256) → AreBytes bytes
all_bytes bytes h k d lt = subst (λ b. b < 256) (sym (get_or_default_zero bytes k d lt)) (h k)

pub fits_bytes : AcceptedFit → (text : List ℕ) (checked : Tree.Program) → AreBytes text → IsProgramOf text checked
    → ProgramFits checked
fits_bytes accepted_fit text checked bytes of_text =
    let a = of_text.accepts in
    accepted_fit text a.tokens a.tree checked bytes a.parsed.limits a.parsed.scanned a.parsed.derived a.checks

pub fits : AcceptedFit → (text : List ℕ) (checked : Tree.Program) → ((k : ℕ) → get_or text k 0 < 256)
    → IsProgramOf text checked → ProgramFits checked
fits accepted_fit text checked narrow of_text = fits_bytes accepted_fit text checked (all_bytes text narrow) of_text

pub formed : AcceptedFormed → (text : List ℕ) (checked : Tree.Program) → ((k : ℕ) → get_or text k 0 < 256)
    → IsProgramOf text checked → IsFormed checked
formed accepted_are_formed text checked narrow of_text =
    let a = of_text.accepts in
    accepted_are_formed text a.tokens a.tree checked
    (all_bytes text narrow) a.parsed.limits a.parsed.scanned a.parsed.derived a.checks

-- ---- why no tokens

module _ (text : List ℕ) (source : IsSource text) where
  pub no_tokens : (refusal : ScanRefusal) → ScanRefusals.IsTold text refusal → IsRefused text (of_scan refusal)
  no_tokens s.OutOfMemory told = source
  no_tokens (s.Faulty why line from to) told = record { limits = source; first = told.0; on_line = told.1 }

-- ---- why no tree

module _ (text : List ℕ) (tokens : List Token) (source : IsSource text) (scanned : IsTokens text tokens)
    (only_tokens : (other : List Token) → IsTokens text other → other ≡ tokens) where
  few : length tokens < 2 ^ 32
  few = let short = tokens_within 0 text tokens scanned in omega (arith, short, source.length_fits)

  -- a text has no more tokens than a number counts
  counted : (why : ParseFault) (line token : ℕ) (place : Span) (told : IsToldAt text tokens why line token place)
      → told.at ≡ token
  counted why line token place told = let numbered = told.numbered in let within = told.refused.within in omega
      (arith, numbered, within, few)

  without_tree : (why : ParseFault) (line from to at : ℕ) → IsRefusedAt text tokens at why → line
      ≡ token_line text tokens at
      → span_of (record { line = line; from = from; to = to }) ≡ first_span text (drop at tokens)
      → HasNoTree text why at (record { line = line; from = from; to = to })
  without_tree why line from to at refused on_line placed = record {
    limits = source;
    tokens = tokens;
    scanned = scanned;
    none = λ others tree a b. refused_has_none text tokens at why refused tree
        (subst (λ ts. IsTreeOf text ts tree) (only_tokens others a) b);
    told = refused;
    placed = placed;
    on_line = on_line;
  }

  pub no_tree : (refusal : ParseRefusal) → IsTold text tokens refusal → IsRefused text (of_parse refusal)
  no_tree p.OutOfMemory told = source
  no_tree (p.Faulty why line token from to) told =
      subst (λ n. HasNoTree text why n (record { line = line; from = from; to = to })) (counted why line token _ told)
      (without_tree why line from to told.at told.refused told.on_line told.placed)

-- ---- what is reported before code is made from a text: a fault of it, or out of memory

abbrev pub IsFaultyOrMemory : Refusal → Type 0
IsFaultyOrMemory refusal = IsFaulty refusal ⊎ (refusal ≡ OutOfMemory)

faulty_text : (refusal : TextRefusal) → IsFaultyOrMemory (of_text refusal)
faulty_text t.TooLong = inl tt
faulty_text t.TooManyLines = inl tt

faulty_tokens : (refusal : ScanRefusal) → IsFaultyOrMemory (of_scan refusal)
faulty_tokens s.OutOfMemory = inr refl
faulty_tokens (s.Faulty why line from to) = inl tt

pub faulty_tree : (refusal : ParseRefusal) → IsFaultyOrMemory (of_parse refusal)
faulty_tree p.OutOfMemory = inr refl
faulty_tree (p.Faulty why line token from to) = inl tt

pub faulty_program : (tokens : List Token) (refusal : CheckRefusal) → IsFaultyOrMemory (of_check tokens refusal)
faulty_program tokens k.OutOfMemory = inr refl
faulty_program tokens (k.Broken rule at line) = inl tt

handed_on : {X : Type 0} (answer : Result X Refusal) (refusal : Refusal) → IsErrAnd answer (λ e. e ≡ refusal)
    → IsFaultyOrMemory refusal → IfErr answer IsFaultyOrMemory
handed_on (Ok x) refusal is h = absurd is
handed_on (Err e) refusal is h = subst IsFaultyOrMemory (sym is) h

pub text_refused : {X : Type 0} (answer : Result X Refusal) (refusal : TextRefusal) → IsErrAnd answer
    (λ e. e ≡ of_text refusal) → IfErr answer IsFaultyOrMemory
text_refused answer refusal is = handed_on answer (of_text refusal) is (faulty_text refusal)

pub tokens_refused : {X : Type 0} (answer : Result X Refusal) (refusal : ScanRefusal) → IsErrAnd answer
    (λ e. e ≡ of_scan refusal) → IfErr answer IsFaultyOrMemory
tokens_refused answer refusal is = handed_on answer (of_scan refusal) is (faulty_tokens refusal)

-- ---- what a refusal of a fault says: that the text is not accepted

module _ (text : List ℕ) where
  pub told : (refusal : Refusal) → IsRefused text refusal → IsFaulty refusal → IsNotAccepted text
  told TooLong h f other a = absurd (omega (arith, h, a.parsed.limits.length_fits))
  told TooManyLines h f other a = absurd (omega (arith, h.1, a.parsed.limits.lines_fit))
  told (Scan why place) h f other a = ScanAnswers.refused_has_none text why
      (span_of place) h.first a.tokens a.parsed.scanned
  told (Parse why at place) h f other a = h.none a.tokens a.tree a.parsed.scanned a.parsed.derived
  told (Check rule place) h f other a =
      no_yes (sym h.judged ∙ ap (program text) (sym (h.only a.tokens a.tree a.parsed)) ∙ a.checks)
  told _ h f other a = absurd f

  -- the same for an answer
  pub told_of : {A : Type 0} (answer : Result A Refusal) → IfErr answer (IsRefused text) → IfErr answer
      (λ refusal. IsFaulty refusal → IsNotAccepted text)
  told_of (Ok x) h = tt
  told_of (Err refusal) h = told refusal h
