use Rattle.std.proofs.Common.{◌∷◌, [], length, refl, ap, arith}
use Rattle.ps_check_names.specs.Nests.{levels_of}
use Rattle.ps_check_names.specs.Marks.{mark_of, number_of}
use Rattle.ps_check_names.proofs.NestLemmas.{one_level, numbered_one, shown_same, shown_opened, listed_opened}
use Rattle.ps_check_names.proofs.nests.Nest.new.Goals as goal

pub invariant_of-result : goal.invariant_of-result
unfolding levels_of
invariant_of-result c =
    let opened = c.args.opened.now in
    let one = one_level (opened ∷ []) opened refl in record {
      counted = (let a = ap length one in let b = ap length c.as_slice-4.ensures.value in omega
          (arith, a, b));
      shown = rw (
        c.in_ok-marks.ensures.items,
        c.as_slice.ensures.value,
        c.in_ok-present.ensures.items,
        c.as_slice-3.ensures.value,
      ) (shown_same opened.records.items _ (mark_of opened.wides.now.start) opened.marks.items _ _ one
          (shown_opened opened));
      listed = rw (
        c.in_ok-numbers.ensures.items,
        c.as_slice-2.ensures.value,
        c.in_ok-present.ensures.items,
        c.as_slice-3.ensures.value,
      ) (shown_same opened.records.items _ (number_of opened.wides.now.fields) opened.numbers.items _ _ one
          (listed_opened opened));
      own = numbered_one (opened ∷ []) opened refl;
    }
