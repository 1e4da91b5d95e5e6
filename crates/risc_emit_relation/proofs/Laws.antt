-- The laws that the search does not find by itself.
use Rattle.risc_emit_relation.specs.Laws.{LoadsFind, OperandsStand, RelatedEnters, RelatedGives, RelatedGoes}
use Rattle.risc_emit_relation.specs.Laws.{RelatedLeaves, RelatedMakes, StackIsExact, RelatedStores}
use Rattle.risc_emit_relation.proofs.Kept as kept_lemmas
use Rattle.risc_emit_relation.proofs.Steps as steps_lemmas
use Rattle.risc_emit_relation.proofs.Calls as calls_lemmas
use Rattle.risc_emit_relation.proofs.Heap as heap_lemmas
use Rattle.risc_emit_relation.proofs.Walk as walk_lemmas
use Rattle.risc_emit_relation.specs.Changes.{IsStored, IsByteStored}

pub loads_find : LoadsFind
loads_find = kept_lemmas.load_found

pub operands_stand : OperandsStand
operands_stand = steps_lemmas.home_read

pub related_enters : RelatedEnters
related_enters = calls_lemmas.related_enters

pub related_gives : RelatedGives
related_gives = steps_lemmas.related_gives

pub related_goes : RelatedGoes
related_goes = steps_lemmas.related_goes

pub related_leaves : RelatedLeaves
related_leaves = calls_lemmas.related_leaves

pub related_makes : RelatedMakes
related_makes = heap_lemmas.related_makes

pub stack_is_exact : StackIsExact
stack_is_exact = walk_lemmas.stack_exact

pub related_stores : RelatedStores
related_stores = (
  λ offset v c laid valid p s m m' f at memory. steps_lemmas.related_stores c laid valid p s m m' f at memory
      (IsStored offset v),
  λ k byte c laid valid p s m m' f at memory. steps_lemmas.related_stores c laid valid p s m
      m' f at memory (IsByteStored k byte),
)
