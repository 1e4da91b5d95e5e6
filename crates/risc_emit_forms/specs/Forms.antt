-- The words of each instruction of three-address code, and those of entries.
pub use Rattle.risc_emit_forms.specs.Words.{is_near, is_small, constant, exact, number, load, store, bit_operation}
pub use Rattle.risc_emit_forms.specs.Words.{condition, skip, is_divisor, rounded, beyond, is_null, brief, is_register}
pub use Rattle.risc_emit_forms.specs.Words.{carried, is_taken, is_stored, stands, is_clear, is_direct, tested, idle}
pub use Rattle.risc_emit_forms.specs.Words.{device}
pub use Rattle.risc_emit_forms.specs.Instructions.{fetch, fetched, bring, target, save, receive, into, accept, right}
pub use Rattle.risc_emit_forms.specs.Instructions.{right_operand, base_code, base_register, base_offset, reach}
pub use Rattle.risc_emit_forms.specs.Instructions.{reach_register, reach_offset, load_form, word_form, store_form}
pub use Rattle.risc_emit_forms.specs.Instructions.{address, copy, operate, both, difference, is_flagged, is_own, unlike}
pub use Rattle.risc_emit_forms.specs.Instructions.{unlike_form, truth_form, compare_form, multiply_form, divisor}
pub use Rattle.risc_emit_forms.specs.Instructions.{quotient, quotient_by_least, opposite_test, quotient_by_negative}
pub use Rattle.risc_emit_forms.specs.Instructions.{divide_form, modulus, modulus_register, modulo_form, arithmetic_form}
pub use Rattle.risc_emit_forms.specs.Instructions.{above, above_register, at_most, range_code, index_code, check_form}
pub use Rattle.risc_emit_forms.specs.Instructions.{scaled, scaled_register, sum, base_address, address_register}
pub use Rattle.risc_emit_forms.specs.Instructions.{component, steps_form, near_code, near_register, near_component}
pub use Rattle.risc_emit_forms.specs.Instructions.{index_by, index_form, pass_one, pass, carry_one, carry, offer}
pub use Rattle.risc_emit_forms.specs.Instructions.{call_form, offer_by, call_value_form, return_form, label_form}
pub use Rattle.risc_emit_forms.specs.Instructions.{put_form, take_form, end_form, new_form, branch_by, branch_choice}
pub use Rattle.risc_emit_forms.specs.Instructions.{branch_form, pointer_form, form}
pub use Rattle.risc_emit_forms.specs.Entries.{take, spill_one, spill, parameter, parameters, arrive, frame_below}
pub use Rattle.risc_emit_forms.specs.Entries.{enter_form, join_form, is_entered, entry_form}
