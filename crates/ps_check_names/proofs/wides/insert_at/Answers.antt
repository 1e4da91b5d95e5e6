use Rattle.std.proofs.Common.{[], subst, sym, ap, ◌∙◌}
use Rattle.std.proofs.lemmas.List.{map-set, get_or-map}
use Rattle.ps_check_names.specs.Sets.{Holds}
use Rattle.ps_check_names.proofs.NoteLemmas.{on_ok_both}
use Rattle.ps_check_names.proofs.wides.insert_at.Goals as goal

pub returns : goal.returns
returns c = on_ok_both c.insert.result c.insert.ensures.there c.insert.ensures.kept (λ there kept. (
  c.insert.new.words.items,
  map-set (λ v. v.items) c.args.kinds.now.items c.args.index c.insert.new.words,
  there,
  λ n h. kept n (subst (λ k. Holds k n)
      (get_or-map (λ v. v.items) c.args.kinds.now.items c.args.index c.index_mut.result.now [] c.requires
      ∙ ap (λ v. v.items) (sym c.index_mut.ensures.value)) h),
))
