-- A body is lean in its own place, with nothing known anywhere.
use Rattle.std.proofs.Common.{◌≡◌, ℕ, ◌&&◌, Bool, true, false, List, [], Some, refl, sym, ap, ◌∙◌, arith}
use Rattle.tac_code.specs.declared.code.Operator.{Operator}
use Rattle.tac_code.specs.declared.code.Operator.TheVariants.{Add, Subtract, Multiply, Divide, Modulo}
use Rattle.tac_code.specs.declared.code.Instruction.{Instruction}
use Rattle.tac_code.specs.declared.code.Instruction.TheVariants.{Literal, Copy, Arithmetic, Bits, Compare, CheckRange}
use Rattle.tac_code.specs.declared.code.Instruction.TheVariants.{CheckPointer, Text, Offset, Index, RoutineValue, Load}
use Rattle.tac_code.specs.declared.code.Instruction.TheVariants.{Store, LoadByte, StoreByte, Jump, JumpBack, Branch}
use Rattle.tac_code.specs.declared.code.Instruction.TheVariants.{BranchBack, Call, CallValue, Return, Trap, Take, Put}
use Rattle.tac_code.specs.declared.code.Instruction.TheVariants.{New, End}
use Rattle.tac_known.specs.declared.kind.Kind.{Kind}
use Rattle.tac_known.specs.declared.kind.Kind.TheVariants.{Unknown}
use Rattle.tac_known.specs.Kinds.{fits, operand_kind}
use Rattle.tac_known.specs.Orders.{no_orders, OrdersLead}
use Rattle.tac_code.specs.Meaning.{Code}
use Rattle.tac_known.specs.Lean.{number_unless, is_nought, is_unequal, copied_if, lean, Leads, LeanBody, IsLean}

fits_not : (operator : Operator) (k : Kind) → fits operator Unknown k ≡ false
fits_not Add k = refl
fits_not Subtract k = refl
fits_not Multiply k = refl
fits_not Divide k = refl
fits_not Modulo k = refl

truth_not : (x y : Bool) → (x && (y && false)) ≡ false
truth_not true true = refl
truth_not true false = refl
truth_not false y = refl

pub lean_not : (i : Instruction) → lean [] i ≡ i
lean_not (Literal t z) = refl
lean_not (Copy t a) = refl
lean_not (Arithmetic o t a b e l) = ap (λ n. Arithmetic o t a b (number_unless n e) l) (fits_not o (operand_kind [] b))
lean_not (Bits o t a b) = refl
lean_not (Compare r t a b) = ap (λ v. copied_if v r t a b) (truth_not (is_unequal r) (is_nought b))
lean_not (CheckRange a m n0 e l) = refl
lean_not (CheckPointer a e l) = refl
lean_not (Text t bs) = refl
lean_not (Offset t b n x) = refl
lean_not (Index t b x m n0 w e l) = refl
lean_not (RoutineValue t r) = refl
lean_not (Load t b n) = refl
lean_not (Store b n a) = refl
lean_not (LoadByte t b n) = refl
lean_not (StoreByte b n a) = refl
lean_not (Jump n) = refl
lean_not (JumpBack n) = refl
lean_not (Branch r a b n) = refl
lean_not (BranchBack r a b n) = refl
lean_not (Call t r os l) = refl
lean_not (CallValue t a os l) = refl
lean_not (Return a) = refl
lean_not (Trap e l) = refl
lean_not (Take t) = refl
lean_not (Put a) = refl
lean_not (New t o l) = refl
lean_not End = refl

leads_nowhere : (place : ℕ) (i : Instruction) → Leads (λ q. []) no_orders place i
leads_nowhere place (Literal t z) = refl
leads_nowhere place (Copy t a) = refl
leads_nowhere place (Arithmetic o t a b e l) = refl
leads_nowhere place (Bits o t a b) = refl
leads_nowhere place (Compare r t a b) = refl
leads_nowhere place (CheckRange a m n0 e l) = refl
leads_nowhere place (CheckPointer a e l) = refl
leads_nowhere place (Text t bs) = refl
leads_nowhere place (Offset t b n x) = refl
leads_nowhere place (Index t b x m n0 w e l) = refl
leads_nowhere place (RoutineValue t r) = refl
leads_nowhere place (Load t b n) = refl
leads_nowhere place (Store b n a) = refl
leads_nowhere place (LoadByte t b n) = refl
leads_nowhere place (StoreByte b n a) = refl
leads_nowhere place (Jump n) = refl
leads_nowhere place (JumpBack n) = refl
leads_nowhere place (Branch r a b n) = (refl, refl)
leads_nowhere place (BranchBack r a b n) = (refl, refl)
leads_nowhere place (Call t r os l) = refl
leads_nowhere place (CallValue t a os l) = refl
leads_nowhere place (Return a) = tt
leads_nowhere place (Trap e l) = tt
leads_nowhere place (Take t) = refl
leads_nowhere place (Put a) = refl
leads_nowhere place (New t o l) = refl
leads_nowhere place End = tt

orders_lead_nowhere : (place : ℕ) (i : Instruction) → OrdersLead (λ q. []) (λ q. no_orders) place i
orders_lead_nowhere place (Literal t z) = refl
orders_lead_nowhere place (Copy t a) = refl
orders_lead_nowhere place (Arithmetic o t a b e l) = refl
orders_lead_nowhere place (Bits o t a b) = refl
orders_lead_nowhere place (Compare r t a b) = refl
orders_lead_nowhere place (CheckRange a m n0 e l) = refl
orders_lead_nowhere place (CheckPointer a e l) = refl
orders_lead_nowhere place (Text t bs) = refl
orders_lead_nowhere place (Offset t b n x) = refl
orders_lead_nowhere place (Index t b x m n0 w e l) = refl
orders_lead_nowhere place (RoutineValue t r) = refl
orders_lead_nowhere place (Load t b n) = refl
orders_lead_nowhere place (Store b n a) = refl
orders_lead_nowhere place (LoadByte t b n) = refl
orders_lead_nowhere place (StoreByte b n a) = refl
orders_lead_nowhere place (Jump n) = refl
orders_lead_nowhere place (JumpBack n) = refl
orders_lead_nowhere place (Branch r a b n) = (refl, refl)
orders_lead_nowhere place (BranchBack r a b n) = (refl, refl)
orders_lead_nowhere place (Call t r os l) = refl
orders_lead_nowhere place (CallValue t a os l) = refl
orders_lead_nowhere place (Return a) = tt
orders_lead_nowhere place (Trap e l) = tt
orders_lead_nowhere place (Take t) = refl
orders_lead_nowhere place (Put a) = refl
orders_lead_nowhere place (New t o l) = refl
orders_lead_nowhere place End = tt

pub itself_is_lean : (body : List Instruction) → LeanBody body body
itself_is_lean body = record {
  at = λ q. [];
  ord = λ q. no_orders;
  begins = λ u. refl;
  unordered = refl;
  as_many = refl;
  there = λ place i e. e ∙ ap Some (sym (lean_not i));
  leads = λ place i e. leads_nowhere place i;
  orders_lead = λ place i e. orders_lead_nowhere place i;
}

pub unchanged_is_lean : (code : Code) → IsLean code code
unchanged_is_lean code = record {
  program = refl;
  run_time = refl;
  objects = refl;
  routines = λ r routine e. (
    routine,
    e,
    record {
      heading = record { parameters = refl; frame = refl; scratch = refl; line = refl };
      temporaries = omega arith;
      body = itself_is_lean routine.body;
    },
  );
}
