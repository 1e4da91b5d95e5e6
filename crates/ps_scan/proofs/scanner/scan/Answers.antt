-- The loop's invariant is kept by one step, and at its end says the contract.
use Rattle.std.proofs.Common.{◌≡◌, ◌≤◌, ◌++◌, length, refl, sym, subst, arith, length-drop, append-nil}
use Rattle.std.proofs.lemmas.List.{take_rest}
use Rattle.ps_scan.specs.Refusals.{IsTold}
use Rattle.ps_scan.proofs.Scans.{token_by, scan_goes_on, scan_fails, scan_ends}
use Rattle.ps_scan.proofs.scanner.scan.Goals as goal

pub returns-in-Err : goal.returns-in-Err
returns-in-Err c =
    let text = c.bytes-text.result.now in
    let found = sym (rw take_rest at c.in-Err.ensures.value) in
    let refused = scan_fails text c.loop-at.at c.loop-at.tokens.items c.in-Err.found c.loop-at-test.true found
    c.loop-at.invariant.1 in
    subst (λ r. IsTold c.args.source.now r) (sym c.refusal_of.ensures) (rw (← c.bytes-text.ensures.bytes) refused, refl)

pub loop-at-preserved-else-is_err : goal.loop-at-preserved-else-is_err
loop-at-preserved-else-is_err c =
    let text = c.bytes-text.result.now in
    let found = sym (rw take_rest at c.in-Ok.ensures.value) in
    let within = rw take_rest at c.in-Ok.ensures.within.1 in
    let goes_on = scan_goes_on text c.loop-at.at c.loop-at.tokens.items c.in-Ok.lexeme c.loop-at-test.true found
    c.loop-at.invariant.1 in
    let pushed : c.push.new.self.items ≡ c.loop-at.tokens.items
    ++ token_by c.in-Ok.lexeme.kind c.loop-at.at c.in-Ok.lexeme.length =
    rw (c.push.ensures.items, c.if-is_err.ensures.negation, c.in-Some.is) refl in
    (omega (arith, within, length-drop c.loop-at.at text), rw pushed goes_on)

pub loop-at-preserved : goal.loop-at-preserved
loop-at-preserved c =
    let text = c.bytes-text.result.now in
    let found = sym (rw take_rest at c.in-Ok.ensures.value) in
    let within = rw take_rest at c.in-Ok.ensures.within.1 in
    let goes_on = scan_goes_on text c.loop-at.at c.loop-at.tokens.items c.in-Ok.lexeme c.loop-at-test.true found
    c.loop-at.invariant.1 in
    let same : c.loop-at.tokens.items ++ token_by c.in-Ok.lexeme.kind c.loop-at.at c.in-Ok.lexeme.length
    ≡ c.loop-at.tokens.items =
    rw c.in_default.is (append-nil c.loop-at.tokens.items) in
    (omega (arith, within, length-drop c.loop-at.at text), rw same at goes_on)

pub returns : goal.returns
returns c =
    let past : length c.bytes-text.result.now ≤ c.loop-at.at = omega arith in
    rw (← c.bytes-text.ensures.bytes) (scan_ends _ c.loop-at.at _ past c.loop-at.invariant.1)
