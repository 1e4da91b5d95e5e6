use Rattle.ps_check_names.proofs.opened.Opened.wide_reach.Goals as goal

pub returns : goal.returns
returns c = rw (c.kind.ensures, c.as_slice-2.ensures.value, c.as_slice-3.ensures.value) at c.common_reach.ensures
