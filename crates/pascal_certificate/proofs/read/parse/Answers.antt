use Rattle.std.proofs.Common.{◌≡◌, ◌∙◌, ◌++◌, ap, sym, map, ℕ, List}
use Rattle.std.specs.Borrow.{Bor}
use Rattle.pascal_certificate.specs.Form.{head, tail}
use Rattle.pascal_certificate.proofs.Lines.{not_same, same_text}
use Rattle.pascal_certificate.proofs.Readings.{a_certificate, no_head, no_lines_behind, no_tail, same_reading}
use Rattle.pascal_certificate.proofs.Readings.{when_none, when_some}
use Rattle.pascal_certificate.proofs.read.parse.Goals as goal

pub returns-in_default-clause-none : goal.returns-in_default-clause-none
returns-in_default-clause-none c = λ values is.
    no_head c.args.text.now (λ rest begun. c.in_default.ensures.none rest
    (begun ∙ ap (λ l. l ++ rest) (sym c.head.ensures))) values is

pub returns-in_default-2-clause-none : goal.returns-in_default-2-clause-none
returns-in_default-2-clause-none c = λ values is.
    no_lines_behind c.args.text.now c.in-Some.lines.now
    (c.in-Some.ensures.some ∙ ap (λ l. l ++ c.in-Some.lines.now) c.head.ensures)
    (when_none c.in_ok-rest.field-0 _ c.in_ok-rest.ensures.none c.in_default-2.is) values is

pub returns-then-eq-clause-only : goal.returns-then-eq-clause-only
returns-then-eq-clause-only c = λ others is.
    let found = when_some c.in_ok-rest.field-0 c.in-Some-2.rest _ c.in_ok-rest.ensures.some c.in-Some-2.is in
    let begun : c.args.text.now ≡ head ++ c.in-Some.lines.now = c.in-Some.ensures.some
    ∙ ap (λ l. l ++ c.in-Some.lines.now) c.head.ensures in
    let ended : c.in-Some-2.rest.now ≡ tail = same_text _ _ (sym c.eq.ensures ∙ c.if-eq.true) ∙ c.tail.ensures in
    found.1 ∙ (ap (λ l. map (λ (value : Bor (List ℕ)). value.now) l ++ found.0) c.new-values.ensures.items
    ∙ same_reading c.args.text.now found.0 others
    (a_certificate c.args.text.now c.in-Some.lines.now c.in-Some-2.rest.now found.0 begun (found.2, found.3) ended)
    is)

pub returns-clause-none : goal.returns-clause-none
returns-clause-none c = λ values is.
    let found = when_some c.in_ok-rest.field-0 c.in-Some-2.rest _ c.in_ok-rest.ensures.some c.in-Some-2.is in
    let begun : c.args.text.now ≡ head ++ c.in-Some.lines.now = c.in-Some.ensures.some
    ∙ ap (λ l. l ++ c.in-Some.lines.now) c.head.ensures in
    no_tail c.args.text.now c.in-Some.lines.now c.in-Some-2.rest.now found.0 begun (found.2, found.3)
    (λ ended. not_same c.in-Some-2.rest.now c.tail.result.now (sym c.eq.ensures ∙ c.if-eq.false)
    (ended ∙ sym c.tail.ensures)) values is
