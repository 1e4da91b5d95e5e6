use Rattle.std.proofs.Common.{◌∙◌, ap, sym, map}
use Rattle.std.proofs.lemmas.Result.{IfOk-weaker}
use Rattle.clap.specs.Words.{found_of}
use Rattle.pascal_command.proofs.RowReads.{files_are, texts_in}
use Rattle.pascal_command.proofs.job.files_of.Goals as goal

pub returns-in-Some : goal.returns-in-Some
returns-in-Some c =
    let words = files_are (found_of c.args.matches.now) c.get_strs.result c.get_strs.ensures ∙ ap texts_in c.in-Some.is
    in
    IfOk-weaker c.from_slice.result _ _ (λ files e. ap (map (λ file. file.now)) e ∙ sym words)
    c.from_slice.ensures.items

pub returns-in-None : goal.returns-in-None
returns-in-None c =
    let words = files_are (found_of c.args.matches.now) c.get_strs.result c.get_strs.ensures ∙ ap texts_in c.in-None.is
    in
    ap (map (λ file. file.now)) c.new.ensures.items ∙ sym words
