use Rattle.std.proofs.Common.{ℕ, List, ◌++◌, codes, ap, ◌∙◌}
use Rattle.std.specs.String.{string_bytes}
use Rattle.tac_code.specs.declared.code.Instruction.{Instruction}
use Rattle.tac_code.specs.Printed.{count_line, numbered, instruction_line, printed_routine}
use Rattle.tac_code.proofs.Texts.{joined}
use Rattle.tac_code.proofs.print.add_routine.Goals as goal

pub returns : goal.returns
unfolding printed_routine
returns c =
    let r = c.args.routine.now in
    let body = numbered instruction_line 0 r.body in
    let from_line = count_line (codes "line") r.line ++ body in
    let from_scratch = count_line (codes "scratch") r.scratch ++ from_line in
    let from_frame = count_line (codes "frame") r.frame ++ from_scratch in
    let from_temporaries = count_line (codes "temporaries") r.temporaries ++ from_frame in
    let from_parameters = count_line (codes "parameters") r.parameters ++ from_temporaries in
    let parameters = c.in_ok-add_count-2.ensures
    ∙ ap (λ (n : ℕ). string_bytes c.add_count.new.text ++ count_line (codes "parameters") n) c.from.ensures in
    let temporaries = c.in_ok-add_count-3.ensures
    ∙ ap (λ (n : ℕ). string_bytes c.add_count-2.new.text ++ count_line (codes "temporaries") n) c.from-2.ensures in
    let frame = c.in_ok-add_count-4.ensures ∙ ap (λ (n : ℕ). string_bytes c.add_count-3.new.text ++ count_line
    (codes "frame") n) c.from-3.ensures in
    let scratch = c.in_ok-add_count-5.ensures
    ∙ ap (λ (n : ℕ). string_bytes c.add_count-4.new.text ++ count_line (codes "scratch") n) c.from-4.ensures in
    let line = c.in_ok-add_count-6.ensures ∙ ap (λ (n : ℕ). string_bytes c.add_count-5.new.text ++ count_line
    (codes "line") n) c.from-5.ensures in
    let instructions = c.in_ok-add_instructions.ensures
    ∙ ap (λ (xs : List Instruction). string_bytes c.add_count-6.new.text ++ numbered instruction_line 0 xs)
    c.as_slice.ensures in
    joined (string_bytes c.args.text.now) (string_bytes c.add_count.new.text) (string_bytes c.add_instructions.new.text)
    (count_line (codes "routine") c.args.number) from_parameters c.in_ok-add_count.ensures
    (joined (string_bytes c.add_count.new.text) (string_bytes c.add_count-2.new.text)
    (string_bytes c.add_instructions.new.text)
    (count_line (codes "parameters") r.parameters) from_temporaries parameters
    (joined (string_bytes c.add_count-2.new.text) (string_bytes c.add_count-3.new.text)
    (string_bytes c.add_instructions.new.text)
    (count_line (codes "temporaries") r.temporaries) from_frame temporaries
    (joined (string_bytes c.add_count-3.new.text) (string_bytes c.add_count-4.new.text)
    (string_bytes c.add_instructions.new.text) (count_line (codes "frame") r.frame) from_scratch frame
    (joined (string_bytes c.add_count-4.new.text) (string_bytes c.add_count-5.new.text)
    (string_bytes c.add_instructions.new.text) (count_line (codes "scratch") r.scratch) from_line scratch
    (joined (string_bytes c.add_count-5.new.text) (string_bytes c.add_count-6.new.text)
    (string_bytes c.add_instructions.new.text) (count_line (codes "line") r.line) body line instructions)))))
