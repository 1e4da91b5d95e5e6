use Rattle.std.proofs.Common.{◌≡◌, refl, rules}
use Rattle.ps_tree.specs.TypeView.{type_of}
use Rattle.ps_tree.proofs.types.Ty.copy.Goals as goal

pub returns-in-Simple : goal.returns-in-Simple
unfolding type_of
returns-in-Simple c = rw c.in-Simple.is refl

pub returns-in-Pointer : goal.returns-in-Pointer
unfolding type_of
returns-in-Pointer c = rw c.in-Pointer.is refl

pub returns-in-Nil : goal.returns-in-Nil
unfolding type_of
returns-in-Nil c = rw c.in-Nil.is refl

pub returns-in-Set : goal.returns-in-Set
unfolding type_of
returns-in-Set c = rw c.in-Set.is refl

pub returns-in-EmptySet : goal.returns-in-EmptySet
unfolding type_of
returns-in-EmptySet c = rw c.in-EmptySet.is refl

pub returns-in-Text : goal.returns-in-Text
unfolding type_of
returns-in-Text c = rw c.in-Text.is refl

pub returns-in_ok-clone-in-Array : goal.returns-in_ok-clone-in-Array
unfolding type_of
returns-in_ok-clone-in-Array c = let same : c.in_ok-clone-in-Array.field-0.value
    ≡ c.in-Array.component.value = search rules in rw (c.in-Array.is, same) refl

pub returns-in_ok-clone-in-Record : goal.returns-in_ok-clone-in-Record
unfolding type_of
returns-in_ok-clone-in-Record c = let same : c.in_ok-clone-in-Record.field-0.value
    ≡ c.in-Record.fields.value = search rules in rw (c.in-Record.is, same) refl
