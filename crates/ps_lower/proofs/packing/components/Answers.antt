use Rattle.std.proofs.Common.{◌≡◌, ◌++◌, OnOk, refl, subst}
use Rattle.ps_lower_code.specs.Scopes.{copy_code}
use Rattle.ps_lower.specs.Levels.{scope_of}
use Rattle.ps_lower.proofs.Packed.{packed_told, unpacked_told, words_told}
use Rattle.ps_lower.proofs.packing.components.Goals as goal

pub returns-then-is_byte_array : goal.returns-then-is_byte_array
returns-then-is_byte_array c packing = packed_told
    (scope_of c.args.level.now) packing c.args.at.from c.args.at.to c.args.count _ _ _ c.args.at.free c.bytes.result
    c.bytes.new.out c.args.out.now c.if-is_byte_array.ensures c.bytes.ensures

pub returns-then-is_byte_array-2 : goal.returns-then-is_byte_array-2
returns-then-is_byte_array-2 c packing = unpacked_told
    (scope_of c.args.level.now) packing c.args.at.from c.args.at.to c.args.count _ _ _ c.args.at.free
    c.bytes-then-is_byte_array-2.result c.bytes-then-is_byte_array-2.new.out c.args.out.now c.if-is_byte_array.ensures
    c.if-is_byte_array-2.ensures c.bytes-then-is_byte_array-2.ensures

pub returns : goal.returns
returns c packing = words_told (scope_of c.args.level.now) packing c.args.at.from c.args.at.to c.args.count _ _ _ _
    c.args.at.free c.copy.result c.copy.new.out c.args.out.now c.if-is_byte_array.ensures c.if-is_byte_array-2.ensures
    refl (subst (λ n. OnOk c.copy.result (c.copy.new.out ≡ c.args.out.now ++ copy_code
    (scope_of c.args.level.now) c.args.at.to c.args.at.from c.args.at.free n)) c.part_bytes.ensures c.copy.ensures)
