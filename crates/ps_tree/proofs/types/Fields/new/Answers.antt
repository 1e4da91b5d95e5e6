use Rattle.std.proofs.Common.{◌∙◌, ap, min}
use Rattle.ps_tree.specs.Types.{field_list}
use Rattle.ps_tree.specs.Sizes.{record_cells, field_bytes, beginnings}
use Rattle.ps_tree.specs.Cores.{cores_of}
use Rattle.ps_tree.specs.TypeView.{types_of}
use Rattle.ps_tree.proofs.SizeLemmas.{record_bytes_are}
use Rattle.ps_tree.proofs.types.Fields.new.Goals as goal

pub invariant_of-result : goal.invariant_of-result
invariant_of-result c = (
  c.in_ok-solid.ensures ∙ ap (λ items. cores_of (types_of items)) c.as_slice-4.ensures.value,
  c.cells_of_all-cell_count.ensures c.args.names
      ∙ ap (λ items. min (record_cells (field_list c.args.names (types_of items))) 18446744073709551615)
      c.as_slice-2.ensures.value,
  c.bytes_of_all-byte_count.ensures ∙ ap (λ items. min (field_bytes (types_of items)) 4294967295)
      c.as_slice-3.ensures.value ∙ ap (λ n. min n 4294967295)
      (record_bytes_are c.args.names (types_of c.args.types.items)),
  c.in_ok-offsets.ensures ∙ ap (λ items. beginnings 4294967295 0 (types_of items)) c.as_slice.ensures.value,
  ap (λ code. code.items) c.new-code.ensures ∙ c.in_ok-words.ensures,
)
