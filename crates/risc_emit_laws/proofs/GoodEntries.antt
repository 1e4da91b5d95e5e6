-- The words of the entry of a routine, and of the start of the code, are good.
use Rattle.std.proofs.Common.{ℕ, zero, suc, ◌+◌, ◌*◌, ◌&&◌, not, nat_lt}
use Rattle.tac_code.specs.declared.code.TacRoutine.{TacRoutine}
use Rattle.tac_code.specs.Sound.{IsLine}
use Rattle.risc_alloc.specs.declared.homes.Home.{Home}
use Rattle.risc_alloc.specs.declared.homes.Home.TheVariants.{Slot, Reg}
use Rattle.risc_emit_relation.specs.Context.{Context, home, is_program, slot_at}
use Rattle.risc_emit_forms.specs.Forms as form
use Rattle.risc_emit_forms.specs.Forms.{carried, stands}
use Rattle.risc_emit_laws.specs.Emits.{start_form}
use Rattle.risc_emit_laws.proofs.Good.{AreGood, by_test, error_stack, good_append, load_good, save_good, store_good}

module _ (c : Context) (r : ℕ) where
  take_good : (j : ℕ) (h : Home) → AreGood (form.take c r j h)
  take_good j (Reg q) = (tt, tt)
  take_good j (Slot k) = store_good j 14 (slot_at c r k)

  spill_one_good : (m n j : ℕ) (h : Home) → AreGood (form.spill_one c r m n j h)
  spill_one_good m n j h =
      by_test (form.is_clear m j h) _ _ (take_good j h)
      (by_test (nat_lt j 8 && not (stands j h)) _ _ (store_good j 14 (n + 8 + 4 * j)) tt)

  spill_good : (m n j count : ℕ) → AreGood (form.spill c r m n j count)
  spill_good m n j zero = tt
  spill_good m n j (suc count) = good_append (form.spill_one c r m n j (home c r j)) _
      (spill_one_good m n j (home c r j)) (spill_good m n (suc j) count)

  parameter_good : (m n j : ℕ) (h : Home) → AreGood (form.parameter c r m n j h)
  parameter_good m n j h =
      by_test (form.is_direct m j h) _ _ tt (good_append (form.load (form.target c r h) 14 (n + 8 + 4 * j)) _
      (load_good _ 14 _) (save_good c r h))

  parameters_good : (m n j count : ℕ) → AreGood (form.parameters c r m n j count)
  parameters_good m n j zero = tt
  parameters_good m n j (suc count) =
      good_append (form.parameter c r m n j (home c r j)) _ (parameter_good m n j (home c r j))
      (parameters_good m n (suc j) count)

  arrived_good : (n count : ℕ) → AreGood (form.arrive c r n count)
  arrived_good n count =
      good_append (form.spill c r (form.carried count) n 0 count) _ (spill_good (form.carried count) n 0 count)
      (parameters_good (form.carried count) n 0 count)

  below_good : (n : ℕ) → AreGood (form.frame_below c r n)
  below_good n = by_test (nat_lt n 65536) _ _ (tt, tt) (tt, (tt, (tt, tt)))

  enter_good : (routine : TacRoutine) → IsLine routine.line → AreGood (form.enter_form c r routine)
  enter_good routine l =
      good_append (form.frame_below c r (c.costs r)) _ (below_good (c.costs r))
      (tt, (tt, ((error_stack, l), (tt, (tt, (tt, arrived_good (c.costs r) routine.parameters))))))

  pub entry_good : (routine : TacRoutine) → IsLine routine.line → AreGood (form.entry_form c r routine)
  entry_good routine l =
      by_test (is_program c r) _ _ (by_test (form.is_entered c r routine) _ _ (enter_good routine l)
      ((error_stack, l), tt)) (tt, arrived_good 0 routine.parameters)

pub start_good : (c : Context) (block : TacRoutine) → IsLine block.line → AreGood (start_form c block)
start_good c block l = (
  tt,
  (
    tt,
    (
      tt,
      by_test (nat_lt (c.costs 0) 16777153) _ _
          (good_append (form.frame_below c 0 (c.costs 0)) _ (below_good c 0 (c.costs 0))
          (tt, ((error_stack, l), (tt, (tt, (tt, (tt, tt))))))) ((error_stack, l), tt),
    ),
  ),
)
