-- A text has one refusal: each phase reports one, and no two phases report on the same text.
use Rattle.std.proofs.Common.{◌≡◌, ℕ, List, refl, sym, ap, ◌∙◌, subst, arith}
use Rattle.ps_text.specs.Lines.{line_at}
use Rattle.ps_scan.specs.declared.refusal.ScanFault.{ScanFault}
use Rattle.ps_scan.specs.declared.token.Token.{Token}
use Rattle.ps_scan.specs.Faults.{Scanned, Tokens, Refused}
use Rattle.ps_scan.proofs.OneAnswer.{each_text_is_scanned, tokens_only, refused_has_none}
use Rattle.ps_parse.specs.declared.error.ParseFault.{ParseFault}
use Rattle.ps_parse.specs.declared.error.ParseRefusal.TheVariants as p
use Rattle.ps_parse.specs.Untaken.{IsTold}
use Rattle.ps_parse.proofs.OneAnswer.{one_refusal}
use Rattle.ps_check_judgement.specs.declared.refusal.Rule.{Rule}
use Rattle.ps_check_judgement.specs.Judged.{Judged, Yes, No}
use Rattle.ps_check_names.specs.Spelling.{line_in}
use Rattle.ps_check.specs.Programs.{program}
use Rattle.ps_tree.specs.Tree as Tree
use Rattle.ps_build.specs.declared.refusal.Place.{Place}
use Rattle.ps_build.specs.declared.refusal.Refusal.{Refusal}
use Rattle.ps_build.specs.declared.refusal.Refusal.TheVariants.{TooLong, TooManyLines, Scan, Parse, Check}
use Rattle.ps_build.specs.Refusals.{end_of_token, of_parse}
use Rattle.ps_build.specs.Accepts.{span_of, HasFault, HasNoTree, HasNoProgram, IsRefused, IsFaulty}
use Rattle.ps_build.specs.OneRefusal.{RefusalsAreOne}
use Rattle.ps_build.proofs.Short.{tokens_within}

-- what is reported of the text's tokens, or of its first fault
abbrev scan_told : List ℕ → Scanned → Refusal
scan_told text (Tokens ts) = TooLong
scan_told text (Refused why place) = Scan why (record {
  line = line_at text place.from;
  from = place.from;
  to = place.to;
})

scan_told_is : (text : List ℕ) (why : ScanFault) (place : Place) → place.line ≡ line_at text place.from → Scan why place
    ≡ scan_told text (Refused why (span_of place))
scan_told_is text why place on_line = ap (λ line. Scan why (record {
  line = line;
  from = place.from;
  to = place.to;
})) on_line

one_scan : (text : List ℕ) (why other : ScanFault) (place there : Place) → HasFault text why place
    → HasFault text other there → Scan why place ≡ Scan other there
one_scan text why other place there a b =
    let one = each_text_is_scanned text in
    let same : Refused why (span_of place) ≡ Refused other (span_of there) = one.2 (Refused why (span_of place)) a.first
    ∙ sym (one.2 (Refused other (span_of there)) b.first) in
    scan_told_is text why place a.on_line ∙ ap (scan_told text) same ∙ sym (scan_told_is text other there b.on_line)

-- ---- of the tokens

module _ (text : List ℕ) where
  -- what the parser reports of the tokens of a text without a tree
  as_told : (why : ParseFault) (at : ℕ) (place : Place) (h : HasNoTree text why at place) → IsTold text h.tokens
      (p.Faulty why place.line at place.from place.to)
  as_told why at place h = record {
    at = at;
    refused = h.told;
    on_line = h.on_line;
    numbered = (let short = tokens_within 0 text h.tokens h.scanned in let within = h.told.within in omega
        (arith, short, within, h.limits.length_fits));
    placed = h.placed;
  }

  one_parse : (why other : ParseFault) (at to : ℕ) (place there : Place) → HasNoTree text why at place
      → HasNoTree text other to there → Parse why at place ≡ Parse other to there
  one_parse why other at to place there a b =
      let same : b.tokens ≡ a.tokens = tokens_only text a.tokens b.tokens a.scanned b.scanned in
      let told : IsTold text a.tokens (p.Faulty other there.line to there.from there.to) = subst
      (λ ts. IsTold text ts (p.Faulty other there.line to there.from there.to)) same (as_told other to there b) in
      let one : p.Faulty why place.line at place.from place.to ≡ p.Faulty other there.line to there.from there.to =
      one_refusal text a.tokens (p.Faulty why place.line at place.from place.to)
      (p.Faulty other there.line to there.from there.to) (as_told why at place a) told (λ e. cc e) (λ e. cc e) in
      ap of_parse one

  -- ---- of the tree

  abbrev check_told : List Token → Judged Tree.Program → Refusal
  check_told ts (Yes checked) = TooLong
  check_told ts (No rule at) = Check rule (record { line = line_in text at; from = at; to = end_of_token ts at })

  check_told_is : (rule : Rule) (place : Place) (h : HasNoProgram text rule place) → Check rule place
      ≡ check_told h.tokens (No rule place.from)
  check_told_is rule place h =
      ap (λ line. Check rule (record { line = line; from = place.from; to = place.to })) h.on_line
      ∙ ap (λ to. Check rule (record { line = line_in text place.from; from = place.from; to = to })) h.ends

  one_check : (rule other : Rule) (place there : Place) → HasNoProgram text rule place → HasNoProgram text other there
      → Check rule place ≡ Check other there
  one_check rule other place there a b =
      let tokens : b.tokens ≡ a.tokens = tokens_only text a.tokens b.tokens a.parsed.scanned b.parsed.scanned in
      let trees : b.tree ≡ a.tree = a.only b.tokens b.tree b.parsed in
      let judged : No rule place.from ≡ No other there.from = sym a.judged ∙ ap (program text) (sym trees) ∙ b.judged in
      check_told_is rule place a
      ∙ ap (check_told a.tokens) judged
      ∙ ap (λ ts. check_told ts (No other there.from)) (sym tokens)
      ∙ sym (check_told_is other there b)

-- ---- of a text

module _ (text : List ℕ) where
  with_too_long : (y : Refusal) → IsRefused text TooLong → IsRefused text y → IsFaulty y → TooLong ≡ y
  with_too_long TooLong a b f = refl
  with_too_long TooManyLines a b f = absurd (omega (arith, a, b.0))
  with_too_long (Scan why place) a b f = absurd (omega (arith, a, b.limits.length_fits))
  with_too_long (Parse why at place) a b f = absurd (omega (arith, a, b.limits.length_fits))
  with_too_long (Check rule place) a b f = absurd (omega (arith, a, b.parsed.limits.length_fits))
  with_too_long _ a b f = absurd f

  with_too_many_lines : (y : Refusal) → IsRefused text TooManyLines → IsRefused text y → IsFaulty y → TooManyLines ≡ y
  with_too_many_lines TooLong a b f = absurd (omega (arith, b, a.0))
  with_too_many_lines TooManyLines a b f = refl
  with_too_many_lines (Scan why place) a b f = absurd (omega (arith, a.1, b.limits.lines_fit))
  with_too_many_lines (Parse why at place) a b f = absurd (omega (arith, a.1, b.limits.lines_fit))
  with_too_many_lines (Check rule place) a b f = absurd (omega (arith, a.1, b.parsed.limits.lines_fit))
  with_too_many_lines _ a b f = absurd f

  with_scan : (why : ScanFault) (place : Place) (y : Refusal) → HasFault text why place → IsRefused text y → IsFaulty y
      → Scan why place ≡ y
  with_scan why place TooLong a b f = absurd (omega (arith, b, a.limits.length_fits))
  with_scan why place TooManyLines a b f = absurd (omega (arith, b.1, a.limits.lines_fit))
  with_scan why place (Scan other there) a b f = one_scan text why other place there a b
  with_scan why place (Parse other at there) a b f = absurd
      (refused_has_none text why (span_of place) a.first b.tokens b.scanned)
  with_scan why place (Check rule there) a b f = absurd
      (refused_has_none text why (span_of place) a.first b.tokens b.parsed.scanned)
  with_scan why place _ a b f = absurd f

  with_parse : (why : ParseFault) (at : ℕ) (place : Place) (y : Refusal) → HasNoTree text why at place
      → IsRefused text y → IsFaulty y → Parse why at place ≡ y
  with_parse why at place TooLong a b f = absurd (omega (arith, b, a.limits.length_fits))
  with_parse why at place TooManyLines a b f = absurd (omega (arith, b.1, a.limits.lines_fit))
  with_parse why at place (Scan other there) a b f = absurd
      (refused_has_none text other (span_of there) b.first a.tokens a.scanned)
  with_parse why at place (Parse other to there) a b f = one_parse text why other at to place there a b
  with_parse why at place (Check rule there) a b f = absurd (a.none b.tokens b.tree b.parsed.scanned b.parsed.derived)
  with_parse why at place _ a b f = absurd f

  with_check : (rule : Rule) (place : Place) (y : Refusal) → HasNoProgram text rule place → IsRefused text y
      → IsFaulty y → Check rule place ≡ y
  with_check rule place TooLong a b f = absurd (omega (arith, b, a.parsed.limits.length_fits))
  with_check rule place TooManyLines a b f = absurd (omega (arith, b.1, a.parsed.limits.lines_fit))
  with_check rule place (Scan why there) a b f = absurd
      (refused_has_none text why (span_of there) b.first a.tokens a.parsed.scanned)
  with_check rule place (Parse why at there) a b f = absurd (b.none a.tokens a.tree a.parsed.scanned a.parsed.derived)
  with_check rule place (Check other there) a b f = one_check text rule other place there a b
  with_check rule place _ a b f = absurd f

pub refusals_are_one : RefusalsAreOne
refusals_are_one text TooLong y a b f g = with_too_long text y a b g
refusals_are_one text TooManyLines y a b f g = with_too_many_lines text y a b g
refusals_are_one text (Scan why place) y a b f g = with_scan text why place y a b g
refusals_are_one text (Parse why at place) y a b f g = with_parse text why at place y a b g
refusals_are_one text (Check rule place) y a b f g = with_check text rule place y a b g
refusals_are_one text _ y a b f g = absurd f
