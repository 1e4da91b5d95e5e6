use Rattle.std.proofs.Common.{refl}
use Rattle.ps_tree.specs.View.{statement_of}
use Rattle.ps_check_judgement.proofs.Lists.{told_bind, handed_on}
use Rattle.ps_check_expressions.specs.View.{context_at, regions_at}
use Rattle.ps_check_statements.proofs.Lists.{three_items}
use Rattle.ps_check_statements.proofs.Packs.{pack_told, pack_yes}
use Rattle.ps_check_statements.proofs.heap.pack_statement.Goals as goal

pub returns-in_err-unpacked : goal.returns-in_err-unpacked
returns-in_err-unpacked c =
    handed_on _ _ _ _ c.from_residual.ensures.1
    (pack_told (context_at c.args.site.now) (regions_at c.args.site.now) c.args.name c.args.parameters.now
    c.args.changes.now.items c.parameter_variable-from.new.changes.items c.parameter_index.new.changes.items
    c.parameter_variable.new.changes.items c.a-item.result c.i-item.result c.z-item.result
    c.parameter_variable-from.result c.parameter_index.result c.parameter_variable.result _
    (three_items c.args.parameters.now c.a-item.result c.i-item.result c.z-item.result c.in-len3.len_at_least
    c.in-len3.len_below c.a-item.is c.i-item.is c.z-item.is) c.parameter_variable-from.ensures
    c.parameter_index.ensures c.parameter_variable.ensures (rw c.paired-rest.ensures at c.in_err-unpacked.ensures))

pub returns-in_err-from : goal.returns-in_err-from
returns-in_err-from c =
    handed_on _ _ _ _ c.from_residual-in_err-from.ensures.1
    (rw (
      pack_yes (context_at c.args.site.now) (regions_at c.args.site.now) c.args.name c.args.parameters.now
          c.args.changes.now.items c.parameter_variable-from.new.changes.items c.parameter_index.new.changes.items
          c.parameter_variable.new.changes.items c.a-item.result c.i-item.result c.z-item.result
          c.parameter_variable-from.result c.parameter_index.result c.parameter_variable.result
          c.in_ok-unpacked.unpacked
          (c.in_ok-unpacked.index, c.in_ok-unpacked.ordinal) c.in_ok-unpacked.packed
          (three_items c.args.parameters.now c.a-item.result c.i-item.result c.z-item.result c.in-len3.len_at_least
          c.in-len3.len_below c.a-item.is c.i-item.is c.z-item.is) c.parameter_variable-from.ensures
          c.parameter_index.ensures c.parameter_variable.ensures
          (rw c.paired-rest.ensures at c.in_ok-unpacked.ensures),
      ← c.first_token.ensures,
      ← c.first_token-2.ensures,
      ←
          c.first_token-3.ensures,
    ) (told_bind _ _ _ (told_bind _ _ _ c.in_err-from.ensures.err)))

pub returns : goal.returns
unfolding statement_of
returns c =
    rw (
      pack_yes (context_at c.args.site.now) (regions_at c.args.site.now) c.args.name c.args.parameters.now
          c.args.changes.now.items c.parameter_variable-from.new.changes.items c.parameter_index.new.changes.items
          c.parameter_variable.new.changes.items c.a-item.result c.i-item.result c.z-item.result
          c.parameter_variable-from.result c.parameter_index.result c.parameter_variable.result
          c.in_ok-unpacked.unpacked
          (c.in_ok-unpacked.index, c.in_ok-unpacked.ordinal) c.in_ok-unpacked.packed
          (three_items c.args.parameters.now c.a-item.result c.i-item.result c.z-item.result c.in-len3.len_at_least
          c.in-len3.len_below c.a-item.is c.i-item.is c.z-item.is) c.parameter_variable-from.ensures
          c.parameter_index.ensures c.parameter_variable.ensures
          (rw c.paired-rest.ensures at c.in_ok-unpacked.ensures),
      ← c.first_token.ensures,
      ← c.first_token-2.ensures,
      ←
          c.first_token-3.ensures,
      c.in_ok-from.ensures.ok.0,
      c.in_ok-from.ensures.ok.1,
      c.in_ok-from.ensures.ok.2,
      c.in_ok-from.ensures.ok.3,
      c.in_ok-from.ensures.ok.4,
      c.line-line.ensures,
    ) refl
