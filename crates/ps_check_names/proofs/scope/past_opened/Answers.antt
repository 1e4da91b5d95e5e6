use Rattle.std.proofs.Common.{◌≡◌, ◌+◌, ◌-◌, length, take, arith, ap}
use Rattle.ps_check_names.proofs.OpenedLemmas.{ok_behind, err_behind}
use Rattle.ps_check_names.proofs.scope.past_opened.Goals as goal

pub returns-in-Some-clause-ok : goal.returns-in-Some-clause-ok
returns-in-Some-clause-ok c =
    let records = c.args.opened.now.records.items in
    let n = c.reach-reach.result in
    let all : c.in-Some.passed ≡ c.args.which + (length records - n) = omega
    (arith, c.in-Some.ensures.some, c.len.ensures) in
    ok_behind records n c.args.name.now c.reach-reach.ensures.none c.args.which c.in-Some.passed
    (take n c.deref.result.now) (ap (take n) c.deref.ensures.value) all c.in-Some.ensures.small c.past_records.result
    c.past_records.ensures.ok

pub returns-in-Some-clause-err : goal.returns-in-Some-clause-err
returns-in-Some-clause-err c =
    let records = c.args.opened.now.records.items in
    let n = c.reach-reach.result in
    let all : c.in-Some.passed ≡ c.args.which + (length records - n) = omega
    (arith, c.in-Some.ensures.some, c.len.ensures) in
    err_behind records n c.args.name.now c.reach-reach.ensures.none c.args.which c.in-Some.passed
    (take n c.deref.result.now) (ap (take n) c.deref.ensures.value) all c.in-Some.ensures.small c.past_records.result
    c.past_records.ensures.err
