use Rattle.std.proofs.Common.{◌++◌, ◌∷◌, [], length, refl, sym, ap, arith}
use Rattle.ps_check_names.specs.Nests.{levels_of, records_in}
use Rattle.ps_check_names.specs.Marks.{mark_of, number_of}
use Rattle.ps_check_names.proofs.NestLemmas.{more_levels, numbered_more, shown_both, shown_by, listed_by, count_more}
use Rattle.ps_check_names.proofs.nests.Nest.with.Goals as goal

pub invariant_of-result : goal.invariant_of-result
unfolding levels_of
invariant_of-result c =
    let self = c.args.self.now in
    let opened = c.args.opened.now in
    let levels = levels_of self.levels in record {
      counted = (let z = count_more levels (levels ++ opened ∷ []) opened self.count refl self.counted in
          let n = ap length c.as_slice-7.ensures.value in omega (arith, z, n));
      shown = shown_both (records_in levels) opened.records.items _ (mark_of self.wides.now.start) self.marks.items
          opened.marks.items _ _ self.present.items opened.present.items _ (more_levels levels opened) self.shown
          (shown_by opened self.wides.now c.requires.wides)
          (rw (c.in_ok-marks.ensures.items, c.as_slice.ensures.value) at c.in_ok-join.ensures.kept)
          (rw c.as_slice-2.ensures.value at c.in_ok-join.ensures.there)
          (rw (c.in_ok-present.ensures.items, c.as_slice-5.ensures.value) at c.in_ok-join-3.ensures.kept)
          (rw c.as_slice-6.ensures.value at c.in_ok-join-3.ensures.there);
      listed = shown_both (records_in levels) opened.records.items _
          (number_of self.wides.now.fields) self.numbers.items
          opened.numbers.items _ _ self.present.items opened.present.items _ (more_levels levels opened) self.listed
          (listed_by opened self.wides.now c.requires.wides)
          (rw (c.in_ok-numbers.ensures.items, c.as_slice-3.ensures.value) at c.in_ok-join-2.ensures.kept)
          (rw c.as_slice-4.ensures.value at c.in_ok-join-2.ensures.there)
          (rw (c.in_ok-present.ensures.items, c.as_slice-5.ensures.value) at c.in_ok-join-3.ensures.kept)
          (rw c.as_slice-6.ensures.value at c.in_ok-join-3.ensures.there);
      own = numbered_more levels (levels ++ opened ∷ []) opened self.wides.now.fields refl self.own
          (ap (λ w. w.fields) (sym c.requires.wides));
    }
