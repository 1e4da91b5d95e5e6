use Rattle.std.proofs.Common.{◌∙◌, ap, sym}
use Rattle.std.proofs.lemmas.Result.{IfOk-weaker}
use Rattle.clap.specs.Words.{found_of}
use Rattle.pascal_command.specs.Command.{topic_of}
use Rattle.pascal_command.proofs.RowReads.{texts_in, topic_joined, words_are}
use Rattle.pascal_command.proofs.job.topic_of.Goals as goal

pub returns-in-Some : goal.returns-in-Some
returns-in-Some c =
    let words = words_are (found_of c.args.matches.now) c.get_strs.result c.get_strs.ensures ∙ ap texts_in c.in-Some.is
    in
    IfOk-weaker c.join.result _ _ (λ topic e. e ∙ (sym (topic_joined c.in-Some.words.now) ∙ ap topic_of (sym words)))
    c.join.ensures.ok

pub returns-in-None : goal.returns-in-None
returns-in-None c =
    let words = words_are (found_of c.args.matches.now) c.get_strs.result c.get_strs.ensures ∙ ap texts_in c.in-None.is
    in
    c.new.ensures.bytes ∙ ap topic_of (sym words)
