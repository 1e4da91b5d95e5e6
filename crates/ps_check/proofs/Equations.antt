-- What is read of headings, routines and blocks, construction by construction.
use Rattle.std.proofs.Common.{◌≡◌, false, List, Some, None, sym, ap, ◌∙◌}
use Rattle.ps_text.specs.declared.Span.{Span}
use Rattle.ps_syntax.specs.declared.program.Heading.{Heading, out-roll-Heading}
use Rattle.ps_syntax.specs.declared.program.Heading.TheVariants as h
use Rattle.ps_syntax.specs.declared.program.Heading.TheOpen.{Heading-F}
use Rattle.ps_syntax.specs.declared.program.Section.{Section}
use Rattle.ps_syntax.specs.declared.program.Routine.TheVariants as v
use Rattle.ps_syntax.specs.declared.program.Block.{Block}
use Rattle.ps_syntax.specs.declared.program.Routine.TheOpen.{Routine-F}
use Rattle.ps_syntax.specs.declared.program.Routine.TheFolds.{fold-roll-Routine, fold_out-Block}
use Rattle.ps_check_names.specs.Regions.{Context}
use Rattle.ps_check.specs.Readings.{RoutineReading, BlockReading, heading_name, heading_list, layer_name, layer_list}
use Rattle.ps_check.specs.Readings.{layer_is_bare, is_bare}
use Rattle.ps_check.specs.Blocks.{routine_step, block_step, routine, block, layer}

-- ---- headings

pub name_Procedure : (name : Span) (xs : List Section) → heading_name (h.Procedure name xs) ≡ name
unfolding heading_name
name_Procedure name xs = ap heading_name (sym (h.rolls-Procedure name xs)) ∙ ap layer_name
    (out-roll-Heading (Heading-F.Procedure name xs))

pub name_Function : (name : Span) (xs : List Section) (type : Span) → heading_name (h.Function name xs type) ≡ name
unfolding heading_name
name_Function name xs type = ap heading_name (sym (h.rolls-Function name xs type)) ∙ ap layer_name
    (out-roll-Heading (Heading-F.Function name xs type))

pub list_Procedure : (name : Span) (xs : List Section) → heading_list (h.Procedure name xs) ≡ xs
unfolding heading_list
list_Procedure name xs = ap heading_list (sym (h.rolls-Procedure name xs)) ∙ ap layer_list
    (out-roll-Heading (Heading-F.Procedure name xs))

pub list_Function : (name : Span) (xs : List Section) (type : Span) → heading_list (h.Function name xs type) ≡ xs
unfolding heading_list
list_Function name xs type = ap heading_list (sym (h.rolls-Function name xs type)) ∙ ap layer_list
    (out-roll-Heading (Heading-F.Function name xs type))

pub bare_Procedure : (name : Span) (xs : List Section) → is_bare (h.Procedure name xs) ≡ layer_is_bare
    (Heading-F.Procedure name xs)
unfolding is_bare
bare_Procedure name xs = ap is_bare (sym (h.rolls-Procedure name xs)) ∙ ap layer_is_bare
    (out-roll-Heading (Heading-F.Procedure name xs))

pub bare_Function : (name : Span) (xs : List Section) (type : Span) → is_bare (h.Function name xs type) ≡ false
unfolding is_bare
bare_Function name xs type = ap is_bare (sym (h.rolls-Function name xs type)) ∙ ap layer_is_bare
    (out-roll-Heading (Heading-F.Function name xs type))

-- ---- routines and blocks

module _ (c : Context) where
  pub routine_Whole : (x : Heading) (b : Block) → routine c (v.Whole x b) ≡ record {
    name = heading_name x;
    heading = Some x;
    block = Some (block c b);
  }
  unfolding routine_step
  routine_Whole x b = ap (routine c) (sym (v.rolls-Whole x b))
      ∙ fold-roll-Routine RoutineReading BlockReading routine_step (block_step c) (Routine-F.Whole x b)

  pub routine_Forward : (x : Heading) → routine c (v.Forward x) ≡ record {
    name = heading_name x;
    heading = Some x;
    block = None;
  }
  unfolding routine_step
  routine_Forward x = ap (routine c) (sym (v.rolls-Forward x))
      ∙ fold-roll-Routine RoutineReading BlockReading routine_step (block_step c) (Routine-F.Forward x)

  pub routine_Completion : (name : Span) (b : Block) → routine c (v.Completion name b) ≡ record {
    name = name;
    heading = None;
    block = Some (block c b);
  }
  unfolding routine_step
  routine_Completion name b = ap (routine c) (sym (v.rolls-Completion name b))
      ∙ fold-roll-Routine RoutineReading BlockReading routine_step (block_step c) (Routine-F.Completion name b)

  pub block_is : (x : Block) → block c x ≡ block_step c (layer c x)
  block_is x = fold_out-Block RoutineReading BlockReading routine_step (block_step c) x
