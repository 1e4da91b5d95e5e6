-- What names denote in accepted and in refused texts.
use Rattle.std.proofs.Common.{ℕ, List, sym, ap, ◌∙◌}
use Rattle.ps_tree.specs.Tree as Tree
use Rattle.ps_check_judgement.proofs.Binds.{no_yes}
use Rattle.ps_check_laws.proofs.Accepted.{names_mean_their_points, forward_headings_have_blocks}
use Rattle.ps_check_laws.proofs.Accepted.{checked_programs_are_read}
use Rattle.ps_check_laws.proofs.Programs.{read_programs_are_checked}
use Rattle.ps_check.specs.Programs.{program}
use Rattle.ps_build.specs.Accepts.{IsProgramOf}
use Rattle.ps_build.specs.Names.{NamesAreMeant, NamesOfBuiltTexts, NamesOfRefusedTexts}

named : (text : List ℕ) (checked : Tree.Program) → IsProgramOf text checked → NamesAreMeant text checked
named text checked is = record {
  tokens = is.accepts.tokens;
  tree = is.accepts.tree;
  parsed = is.accepts.parsed;
  is_read = checked_programs_are_read text is.accepts.tree checked is.accepts.checks;
  read = names_mean_their_points text is.accepts.tree checked is.accepts.checks;
  completed = forward_headings_have_blocks text is.accepts.tree checked is.accepts.checks;
}

pub names_are_meant : NamesOfBuiltTexts
names_are_meant text bytes compiles = named text compiles.checked compiles.program

pub refused_names_are_not_meant : NamesOfRefusedTexts
refused_names_are_not_meant text rule place refused = record {
  tokens = refused.tokens;
  tree = refused.tree;
  parsed = refused.parsed;
  unread = λ others other made parsed read.
      no_yes (sym refused.judged ∙ ap (program text) (sym (refused.only others other parsed))
      ∙ read_programs_are_checked text other made read);
}
