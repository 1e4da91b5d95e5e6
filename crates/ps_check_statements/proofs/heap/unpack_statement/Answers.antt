use Rattle.std.proofs.Common.{refl}
use Rattle.ps_tree.specs.View.{statement_of}
use Rattle.ps_check_judgement.proofs.Lists.{told_bind, handed_on}
use Rattle.ps_check_expressions.specs.View.{context_at, regions_at}
use Rattle.ps_check_statements.proofs.Lists.{three_items}
use Rattle.ps_check_statements.proofs.Packs.{unpack_told, unpack_yes}
use Rattle.ps_check_statements.proofs.heap.unpack_statement.Goals as goal

pub returns-in_err-packed : goal.returns-in_err-packed
returns-in_err-packed c =
    handed_on _ _ _ _ c.from_residual.ensures.1
    (unpack_told (context_at c.args.site.now) (regions_at c.args.site.now) c.args.name c.args.parameters.now
    c.args.changes.now.items c.parameter_variable-from.new.changes.items c.parameter_variable.new.changes.items
    c.parameter_index.new.changes.items c.z-item.result c.a-item.result c.i-item.result
    c.parameter_variable-from.result c.parameter_variable.result c.parameter_index.result _
    (three_items c.args.parameters.now c.z-item.result c.a-item.result c.i-item.result c.in-len3.len_at_least
    c.in-len3.len_below c.z-item.is c.a-item.is c.i-item.is) c.parameter_variable-from.ensures
    c.parameter_variable.ensures c.parameter_index.ensures (rw c.paired-rest.ensures at c.in_err-packed.ensures))

pub returns-in_err-to : goal.returns-in_err-to
returns-in_err-to c =
    handed_on _ _ _ _ c.from_residual-in_err-to.ensures.1
    (rw (
      unpack_yes (context_at c.args.site.now)
          (regions_at c.args.site.now) c.args.name c.args.parameters.now c.args.changes.now.items
          c.parameter_variable-from.new.changes.items c.parameter_variable.new.changes.items
          c.parameter_index.new.changes.items c.z-item.result c.a-item.result c.i-item.result
          c.parameter_variable-from.result c.parameter_variable.result c.parameter_index.result c.in_ok-packed.packed
          c.in_ok-packed.unpacked (c.in_ok-packed.index, c.in_ok-packed.ordinal)
          (three_items c.args.parameters.now c.z-item.result c.a-item.result c.i-item.result c.in-len3.len_at_least
          c.in-len3.len_below c.z-item.is c.a-item.is c.i-item.is) c.parameter_variable-from.ensures
          c.parameter_variable.ensures c.parameter_index.ensures
          (rw c.paired-rest.ensures at c.in_ok-packed.ensures),
      ← c.first_token.ensures,
      ← c.first_token-2.ensures,
      ←
          c.first_token-3.ensures,
    ) (told_bind _ _ _ (told_bind _ _ _ c.in_err-to.ensures.err)))

pub returns : goal.returns
unfolding statement_of
returns c =
    rw (
      unpack_yes (context_at c.args.site.now) (regions_at c.args.site.now) c.args.name c.args.parameters.now
          c.args.changes.now.items c.parameter_variable-from.new.changes.items c.parameter_variable.new.changes.items
          c.parameter_index.new.changes.items c.z-item.result c.a-item.result c.i-item.result
          c.parameter_variable-from.result c.parameter_variable.result c.parameter_index.result c.in_ok-packed.packed
          c.in_ok-packed.unpacked (c.in_ok-packed.index, c.in_ok-packed.ordinal)
          (three_items c.args.parameters.now c.z-item.result c.a-item.result c.i-item.result c.in-len3.len_at_least
          c.in-len3.len_below c.z-item.is c.a-item.is c.i-item.is) c.parameter_variable-from.ensures
          c.parameter_variable.ensures c.parameter_index.ensures
          (rw c.paired-rest.ensures at c.in_ok-packed.ensures),
      ← c.first_token.ensures,
      ← c.first_token-2.ensures,
      ←
          c.first_token-3.ensures,
      c.in_ok-to.ensures.ok.0,
      c.in_ok-to.ensures.ok.1,
      c.in_ok-to.ensures.ok.2,
      c.in_ok-to.ensures.ok.3,
      c.in_ok-to.ensures.ok.4,
      c.line-line.ensures,
    ) refl
