-- The image does what the text's program means.
use Rattle.std.proofs.Common.{refl}
use Rattle.tac_rt.specs.Bodies.{run_time_routines}
use Rattle.ps_tree.specs.Checked.{program_in}
use Rattle.ps_lower_code.specs.Programs.{code_of}
use Rattle.ps_build.proofs.Made.{made_compiles}
use Rattle.ps_build.proofs.built.mapped_with.Goals as goal

pub invariant_of-result : goal.invariant_of-result
invariant_of-result g c = record {
  image = c.in_ok-made.ensures.emitted.image;
  is_image = c.in_ok-made.ensures.emitted.is_image;
}

pub returns-clause-compiles : goal.returns-clause-compiles
returns-clause-compiles g c =
    let are = c.in_ok-made.ensures.ok in
    made_compiles (program_in c.in_ok-checked.checked) c.in_ok-made.made.bytes.items are.image are.is_image are.made
    c.args.text.now c.in_ok-checked.ensures.ok

pub returns-clause-built : goal.returns-clause-built
returns-clause-built g c =
    let checked = program_in c.in_ok-checked.checked in
    record {
      code = code_of run_time_routines checked;
      is_code = record { checked = checked; is_program = c.in_ok-checked.ensures.ok; is_code = refl };
      emitted = c.in_ok-made.ensures.emitted;
    }
