-- The image is that which was made of the text, and the program that was read again is the one that it was made of.
use Rattle.std.proofs.Common.{sym, subst}
use Rattle.risc_image.specs.Format.{IsImage}
use Rattle.ps_tree.specs.Checked.{program_in}
use Rattle.ps_needs_image.proofs.Standing.{all_bytes, does_too, is_needed}
use Rattle.ps_needs_image.proofs.needed.needs_of.Goals as goal

pub need_of-requires-clause-does : goal.need_of-requires-clause-does
need_of-requires-clause-does c =
    let compiles = c.in_ok-built.ensures.compiles in
    let same = c.in-Ok.ensures.exact compiles.image
    (subst (λ b. IsImage b compiles.image) (sym c.bytes.ensures) compiles.is_image) in
    does_too c.args.text.now c.in_ok-built.built compiles
    (program_in c.in-Some.again.checked) c.in-Ok.image c.in-Some.ensures same

pub returns-clause-needed : goal.returns-clause-needed
returns-clause-needed c =
    let compiles = c.in_ok-built.ensures.compiles in
    let same = c.in-Ok.ensures.exact compiles.image
    (subst (λ b. IsImage b compiles.image) (sym c.bytes.ensures) compiles.is_image) in
    is_needed c.args.text.now c.in_ok-built.built compiles c.in_ok-built.ensures.built
    (program_in c.in-Some.again.checked) c.in-Ok.image _ c.in-Some.ensures same
    c.in_ok-frames.ensures c.in_ok-need.ensures c.makes_objects-makes_objects.ensures.none
    c.makes_objects-makes_objects.ensures.some (all_bytes c.args.text.now c.is_of_bytes.ensures)
    c.never_out_of_stack.ensures c.never_out_of_heap.ensures
