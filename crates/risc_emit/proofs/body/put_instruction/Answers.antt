use Rattle.risc_emit.specs.Frames.{context_of}
use Rattle.risc_emit.proofs.Parts.{arm}
use Rattle.risc_emit.proofs.body.put_instruction.Goals as goal

pub returns-in-Copy : goal.returns-in-Copy
returns-in-Copy c =
    arm (context_of c.args.frame.now) c.args.frame.now.number c.args.known.place c.put_copy.result c.args.pieces.now
    c.put_copy.new.pieces c.args.instruction.now _ c.in-Copy.is c.put_copy.ensures

pub returns-in-Arithmetic : goal.returns-in-Arithmetic
returns-in-Arithmetic c =
    arm (context_of c.args.frame.now) c.args.frame.now.number c.args.known.place c.put_arithmetic.result
    c.args.pieces.now c.put_arithmetic.new.pieces c.args.instruction.now _ c.in-Arithmetic.is c.put_arithmetic.ensures

pub returns-in-Bits : goal.returns-in-Bits
returns-in-Bits c =
    arm (context_of c.args.frame.now) c.args.frame.now.number c.args.known.place c.put_bits.result c.args.pieces.now
    c.put_bits.new.pieces c.args.instruction.now _ c.in-Bits.is c.put_bits.ensures

pub returns-in-Offset : goal.returns-in-Offset
returns-in-Offset c =
    arm (context_of c.args.frame.now) c.args.frame.now.number c.args.known.place c.put_offset.result c.args.pieces.now
    c.put_offset.new.pieces c.args.instruction.now _ c.in-Offset.is c.put_offset.ensures

pub returns-in-RoutineValue : goal.returns-in-RoutineValue
returns-in-RoutineValue c =
    arm (context_of c.args.frame.now) c.args.frame.now.number c.args.known.place c.put_label-in-RoutineValue.result
    c.args.pieces.now c.put_label-in-RoutineValue.new.pieces c.args.instruction.now _ c.in-RoutineValue.is
    c.put_label-in-RoutineValue.ensures

pub returns-in-Store : goal.returns-in-Store
returns-in-Store c =
    arm (context_of c.args.frame.now) c.args.frame.now.number c.args.known.place c.put_store_form.result
    c.args.pieces.now c.put_store_form.new.pieces c.args.instruction.now _ c.in-Store.is c.put_store_form.ensures

pub returns-in-LoadByte : goal.returns-in-LoadByte
returns-in-LoadByte c =
    arm (context_of c.args.frame.now) c.args.frame.now.number c.args.known.place c.put_load_form.result
    c.args.pieces.now c.put_load_form.new.pieces c.args.instruction.now _ c.in-LoadByte.is c.put_load_form.ensures

pub returns-in-StoreByte : goal.returns-in-StoreByte
returns-in-StoreByte c =
    arm (context_of c.args.frame.now) c.args.frame.now.number c.args.known.place c.put_store_form-in-StoreByte.result
    c.args.pieces.now c.put_store_form-in-StoreByte.new.pieces c.args.instruction.now _ c.in-StoreByte.is
    c.put_store_form-in-StoreByte.ensures

pub returns-in-Return : goal.returns-in-Return
returns-in-Return c =
    arm (context_of c.args.frame.now) c.args.frame.now.number c.args.known.place c.put_return.result c.args.pieces.now
    c.put_return.new.pieces c.args.instruction.now _ c.in-Return.is c.put_return.ensures

pub returns-in-Trap : goal.returns-in-Trap
returns-in-Trap c =
    arm (context_of c.args.frame.now) c.args.frame.now.number c.args.known.place c.push-in-Trap.result c.args.pieces.now
    c.push-in-Trap.new.self c.args.instruction.now _ c.in-Trap.is c.push-in-Trap.ensures

pub returns-in-Take : goal.returns-in-Take
returns-in-Take c =
    arm (context_of c.args.frame.now) c.args.frame.now.number c.args.known.place c.put_take.result c.args.pieces.now
    c.put_take.new.pieces c.args.instruction.now _ c.in-Take.is c.put_take.ensures

pub returns-in-Put : goal.returns-in-Put
returns-in-Put c =
    arm (context_of c.args.frame.now) c.args.frame.now.number c.args.known.place c.put_put.result c.args.pieces.now
    c.put_put.new.pieces c.args.instruction.now _ c.in-Put.is c.put_put.ensures

pub returns-in-End : goal.returns-in-End
returns-in-End c =
    arm (context_of c.args.frame.now) c.args.frame.now.number c.args.known.place c.put_end.result c.args.pieces.now
    c.put_end.new.pieces c.args.instruction.now _ c.in-End.is c.put_end.ensures

pub returns-in-Text : goal.returns-in-Text
returns-in-Text c =
    let words = rw (c.constant_of.ensures, c.number-r.ensures) at c.put_label.ensures in
    arm (context_of c.args.frame.now) c.args.frame.now.number c.args.known.place c.put_label.result c.args.pieces.now
    c.put_label.new.pieces c.args.instruction.now _ c.in-Text.is words

pub returns-in-Jump : goal.returns-in-Jump
returns-in-Jump c =
    let words = rw (c.ahead.ensures, c.number-r.ensures) at c.push.ensures in
    arm (context_of c.args.frame.now) c.args.frame.now.number c.args.known.place c.push.result c.args.pieces.now
    c.push.new.self c.args.instruction.now _ c.in-Jump.is words

pub returns-in-JumpBack : goal.returns-in-JumpBack
returns-in-JumpBack c =
    let words = rw (c.behind.ensures, c.number-r.ensures) at c.push-in-JumpBack.ensures in
    arm (context_of c.args.frame.now) c.args.frame.now.number c.args.known.place c.push-in-JumpBack.result
    c.args.pieces.now c.push-in-JumpBack.new.self c.args.instruction.now _ c.in-JumpBack.is words

pub returns-in-Branch : goal.returns-in-Branch
returns-in-Branch c =
    let words = rw (c.ahead-in-Branch.ensures, c.number-r.ensures, c.requires.flagged) at c.put_branch.ensures in
    arm (context_of c.args.frame.now) c.args.frame.now.number c.args.known.place c.put_branch.result c.args.pieces.now
    c.put_branch.new.pieces c.args.instruction.now _ c.in-Branch.is words

pub returns-in-BranchBack : goal.returns-in-BranchBack
returns-in-BranchBack c =
    let words = rw (c.behind-in-BranchBack.ensures, c.number-r.ensures, c.requires.flagged) at
    c.put_branch-in-BranchBack.ensures in
    arm (context_of c.args.frame.now) c.args.frame.now.number c.args.known.place c.put_branch-in-BranchBack.result
    c.args.pieces.now c.put_branch-in-BranchBack.new.pieces c.args.instruction.now _ c.in-BranchBack.is words

pub returns-in-Compare : goal.returns-in-Compare
returns-in-Compare c =
    let words = rw c.requires.flagged at c.put_compare.ensures in
    arm (context_of c.args.frame.now) c.args.frame.now.number c.args.known.place c.put_compare.result c.args.pieces.now
    c.put_compare.new.pieces c.args.instruction.now _ c.in-Compare.is words

pub returns-in-CheckPointer : goal.returns-in-CheckPointer
returns-in-CheckPointer c =
    let words = rw c.requires.flagged at c.put_pointer_check.ensures in
    arm (context_of c.args.frame.now) c.args.frame.now.number c.args.known.place c.put_pointer_check.result
    c.args.pieces.now c.put_pointer_check.new.pieces c.args.instruction.now _ c.in-CheckPointer.is words

pub returns-in-Load : goal.returns-in-Load
returns-in-Load c =
    let words = rw c.requires.deferred at c.put_word_form.ensures in
    arm (context_of c.args.frame.now) c.args.frame.now.number c.args.known.place c.put_word_form.result
    c.args.pieces.now c.put_word_form.new.pieces c.args.instruction.now _ c.in-Load.is words

pub returns-in-New : goal.returns-in-New
returns-in-New c =
    let words = rw c.object_bytes.ensures at c.put_new.ensures in
    arm (context_of c.args.frame.now) c.args.frame.now.number c.args.known.place c.put_new.result c.args.pieces.now
    c.put_new.new.pieces c.args.instruction.now _ c.in-New.is words

pub returns-in-Call : goal.returns-in-Call
returns-in-Call c =
    let words = rw c.as_slice.ensures at c.put_call.ensures in
    arm (context_of c.args.frame.now) c.args.frame.now.number c.args.known.place c.put_call.result c.args.pieces.now
    c.put_call.new.pieces c.args.instruction.now _ c.in-Call.is words

pub returns-in-CallValue : goal.returns-in-CallValue
returns-in-CallValue c =
    let words = rw c.as_slice-in-CallValue.ensures at c.put_call_value.ensures in
    arm (context_of c.args.frame.now) c.args.frame.now.number c.args.known.place c.put_call_value.result
    c.args.pieces.now c.put_call_value.new.pieces c.args.instruction.now _ c.in-CallValue.is words
