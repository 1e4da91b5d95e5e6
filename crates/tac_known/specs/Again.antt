-- Addresses of components, sums and words that are computed or loaded more than once: which of them temporaries hold,
-- and a copy instead of what computes one.
use Rattle.std.specs.Prelude.{◌≡◌, ◌⊎◌, ℕ, zero, suc, ◌+◌, ◌-◌, ◌*◌, ◌&&◌, ◌||◌, Bool, true, false, if◌then◌else◌}
use Rattle.std.specs.Prelude.{nat_eq, nat_lt, List, length, slice_get, Option, Some, None, ℤ}
use Rattle.std.specs.Ordering.{int_eq}
use Rattle.tac_code.specs.declared.code.TheConstants.{BLOCK_LIMIT}
use Rattle.tac_code.specs.declared.code.Block.{Block}
use Rattle.tac_code.specs.declared.code.Base.{Base}
use Rattle.tac_code.specs.declared.code.Base.TheVariants as base
use Rattle.tac_code.specs.declared.code.Operand.{Operand}
use Rattle.tac_code.specs.declared.code.Operand.TheVariants as operand
use Rattle.tac_code.specs.declared.code.Operator.{Operator}
use Rattle.tac_code.specs.declared.code.Operator.TheVariants.{Add, Subtract}
use Rattle.tac_code.specs.declared.code.Value.{Value}
use Rattle.tac_code.specs.declared.code.Value.TheVariants.{Number, Address}
use Rattle.tac_code.specs.declared.code.Instruction.{Instruction}
use Rattle.tac_code.specs.declared.code.Instruction.TheVariants.{Literal, Copy, Arithmetic, Bits, Compare, CheckRange}
use Rattle.tac_code.specs.declared.code.Instruction.TheVariants.{CheckPointer, Text, Offset, Index, RoutineValue, Load}
use Rattle.tac_code.specs.declared.code.Instruction.TheVariants.{Store, LoadByte, StoreByte, Jump, JumpBack, Branch}
use Rattle.tac_code.specs.declared.code.Instruction.TheVariants.{BranchBack, Return, Trap, Take, Put}
use Rattle.tac_code.specs.declared.code.Instruction.TheVariants.{New, End}
use Rattle.tac_code.specs.Numbers.{Gives, computed, is_in_range, steps_above}
use Rattle.tac_code.specs.declared.code.TacRoutine.{TacRoutine}
use Rattle.tac_code.specs.Memory.{Constants, Memory, load}
use Rattle.tac_code.specs.Meaning.{Activation, Code, base_value, operand_value, routines}
use Rattle.tac_pass.specs.Follows.{SameHeading}
use Rattle.tac_known.specs.declared.again.Component.{Component}
use Rattle.tac_known.specs.declared.again.Sum.{Sum}
use Rattle.tac_known.specs.declared.again.Word.{Word}
use Rattle.tac_known.specs.declared.again.Fact.{Fact}
use Rattle.tac_known.specs.declared.again.Fact.TheVariants.{Empty, Pointed, Summed, Loaded}
use Rattle.tac_known.specs.declared.again.Facts.{Facts}
use Rattle.tac_known.specs.declared.again.Later.{Later}
use Rattle.tac_known.specs.declared.again.Waiting.{Waiting}
use Rattle.tac_known.specs.declared.again.Standing.{Standing}
use Rattle.tac_known.specs.declared.again.marks.Mark.{Mark}
use Rattle.tac_known.specs.declared.again.marks.Mark.TheVariants.{Clear, Once, Often}
use Rattle.tac_known.specs.Walk.{goes_on_to_next}

-- ---- what a component is

-- its address, counted from the base by the index, is what the holder holds
pub record IsComponent (c : Component) (current : Activation) : Type 0 where
  pub block : Block
  pub offset : ℕ
  pub index : ℤ
  pub based : base_value current c.base ≡ Some (Address block offset)
  pub indexed : current.temporaries c.index ≡ Some (Number index)
  pub inside : is_in_range c.low c.high index ≡ true
  pub near : nat_lt (offset + steps_above c.low index * c.width) BLOCK_LIMIT ≡ true
  pub held : current.temporaries c.holder ≡ Some (Address block (offset + steps_above c.low index * c.width))

-- ---- what a sum is

-- the operator's result of both operands is the content of the holder
pub record IsSum (c : Sum) (current : Activation) : Type 0 where
  pub left : ℤ
  pub right : ℤ
  pub value : ℤ
  pub first : current.temporaries c.left ≡ Some (Number left)
  pub second : operand_value current.temporaries c.right ≡ Some (Number right)
  pub fits : computed c.operator c.error left right ≡ Gives value
  pub held : current.temporaries c.holder ≡ Some (Number value)

-- ---- what a word is

-- what it holds is what the holder holds
pub record IsWord (constants : Constants) (m : Memory) (c : Word) (current : Activation) : Type 0 where
  pub block : Block
  pub offset : ℕ
  pub value : Value
  pub based : base_value current c.base ≡ Some (Address block offset)
  pub loaded : load constants m block (offset + c.offset) ≡ Some value
  pub held : current.temporaries c.holder ≡ Some value

-- ---- what is known

abbrev pub IsHeld : Constants → Memory → Fact → Activation → Type 0
IsHeld constants m Empty current = Unit {0}
IsHeld constants m (Pointed c) current = IsComponent c current
IsHeld constants m (Summed c) current = IsSum c current
IsHeld constants m (Loaded c) current = IsWord constants m c current

pub record AreHeld (constants : Constants) (m : Memory) (facts : Facts) (current : Activation) : Type 0 where
  pub first : IsHeld constants m facts.first current
  pub second : IsHeld constants m facts.second current
  pub third : IsHeld constants m facts.third current
  pub fourth : IsHeld constants m facts.fourth current
  pub fifth : IsHeld constants m facts.fifth current
  pub sixth : IsHeld constants m facts.sixth current
  pub seventh : IsHeld constants m facts.seventh current
  pub eighth : IsHeld constants m facts.eighth current
  pub ninth : IsHeld constants m facts.ninth current
  pub tenth : IsHeld constants m facts.tenth current
  pub eleventh : IsHeld constants m facts.eleventh current
  pub twelfth : IsHeld constants m facts.twelfth current

abbrev pub no_facts : Facts
no_facts = record {
  first = Empty;
  second = Empty;
  third = Empty;
  fourth = Empty;
  fifth = Empty;
  sixth = Empty;
  seventh = Empty;
  eighth = Empty;
  ninth = Empty;
  tenth = Empty;
  eleventh = Empty;
  twelfth = Empty;
}

-- ---- what hangs on a temporary

abbrev pub is_of : ℕ → Base → Bool
is_of t (base.Temporary u) = nat_eq t u
is_of t _ = false

abbrev pub is_operand : ℕ → Operand → Bool
is_operand t (operand.Temporary u) = nat_eq t u
is_operand t (operand.Number z) = false

abbrev pub component_uses : ℕ → Component → Bool
component_uses t c = is_of t c.base || nat_eq t c.index

abbrev pub sum_uses : ℕ → Sum → Bool
sum_uses t c = nat_eq t c.left || is_operand t c.right

abbrev pub word_uses : ℕ → Word → Bool
word_uses t c = is_of t c.base

abbrev pub hangs_on : ℕ → Fact → Bool
hangs_on t Empty = false
hangs_on t (Pointed c) = component_uses t c || nat_eq t c.holder
hangs_on t (Summed c) = sum_uses t c || nat_eq t c.holder
hangs_on t (Loaded c) = word_uses t c || nat_eq t c.holder

abbrev pub unless_written : ℕ → Fact → Fact
unless_written t fact = if hangs_on t fact then Empty else fact

abbrev pub each_unless_written : ℕ → Facts → Facts
each_unless_written t facts = record {
  first = unless_written t facts.first;
  second = unless_written t facts.second;
  third = unless_written t facts.third;
  fourth = unless_written t facts.fourth;
  fifth = unless_written t facts.fifth;
  sixth = unless_written t facts.sixth;
  seventh = unless_written t facts.seventh;
  eighth = unless_written t facts.eighth;
  ninth = unless_written t facts.ninth;
  tenth = unless_written t facts.tenth;
  eleventh = unless_written t facts.eleventh;
  twelfth = unless_written t facts.twelfth;
}

-- the content of a word is forgotten when memory is written
abbrev pub unless_loaded : Fact → Fact
unless_loaded Empty = Empty
unless_loaded (Pointed c) = Pointed c
unless_loaded (Summed c) = Summed c
unless_loaded (Loaded c) = Empty

abbrev pub each_unless_loaded : Facts → Facts
each_unless_loaded facts = record {
  first = unless_loaded facts.first;
  second = unless_loaded facts.second;
  third = unless_loaded facts.third;
  fourth = unless_loaded facts.fourth;
  fifth = unless_loaded facts.fifth;
  sixth = unless_loaded facts.sixth;
  seventh = unless_loaded facts.seventh;
  eighth = unless_loaded facts.eighth;
  ninth = unless_loaded facts.ninth;
  tenth = unless_loaded facts.tenth;
  eleventh = unless_loaded facts.eleventh;
  twelfth = unless_loaded facts.twelfth;
}

-- what was given lasts if it isn't what it was made from
abbrev pub lasting : Fact → Fact
lasting Empty = Empty
lasting (Pointed c) = if component_uses c.holder c then Empty else Pointed c
lasting (Summed c) = if sum_uses c.holder c then Empty else Summed c
lasting (Loaded c) = if word_uses c.holder c then Empty else Loaded c

-- ---- two that are the same

abbrev pub is_same_base : Base → Base → Bool
is_same_base base.Frame base.Frame = true
is_same_base base.Scratch base.Scratch = true
is_same_base base.Program base.Program = true
is_same_base (base.Temporary t) (base.Temporary u) = nat_eq t u
is_same_base _ _ = false

abbrev pub is_same_operand : Operand → Operand → Bool
is_same_operand (operand.Number y) (operand.Number z) = int_eq y z
is_same_operand (operand.Temporary t) (operand.Temporary u) = nat_eq t u
is_same_operand _ _ = false

abbrev pub is_same_operator : Operator → Operator → Bool
is_same_operator Add Add = true
is_same_operator Subtract Subtract = true
is_same_operator _ _ = false

abbrev pub is_same_component : Component → Component → Bool
is_same_component c d =
    is_same_base c.base d.base && (nat_eq c.index d.index && (int_eq c.low d.low && (int_eq c.high d.high
    && nat_eq c.width d.width)))

abbrev pub is_same_sum : Sum → Sum → Bool
is_same_sum c d =
    is_same_operator c.operator d.operator && (nat_eq c.left d.left && (is_same_operand c.right d.right
    && nat_eq c.error d.error))

abbrev pub is_same_word : Word → Word → Bool
is_same_word c d = is_same_base c.base d.base && nat_eq c.offset d.offset

-- ---- what an instruction gives

abbrev pub component : (t : ℕ) (b : Base) (x : ℕ) (low high : ℤ) (width : ℕ) → Component
component t b x low high width = record {
  base = b;
  index = x;
  low = low;
  high = high;
  width = width;
  holder = t;
}

abbrev pub total : (o : Operator) (t a : ℕ) (b : Operand) (error : ℕ) → Sum
total o t a b error = record {
  operator = o;
  left = a;
  right = b;
  error = error;
  holder = t;
}

abbrev pub word : (t : ℕ) (b : Base) (n : ℕ) → Word
word t b n = record { base = b; offset = n; holder = t }

abbrev pub given_by : Instruction → Fact
given_by (Index t b x low high width error line) = Pointed (component t b x low high width)
given_by (Arithmetic operator t a b error line) = Summed (total operator t a b error)
given_by (Load t b n) = Loaded (word t b n)
given_by i = Empty

-- ---- what holds it already

abbrev pub holder_by : Fact → Fact → Option ℕ
holder_by (Pointed d) (Pointed c) = if is_same_component c d then Some c.holder else None
holder_by (Summed d) (Summed c) = if is_same_sum c d then Some c.holder else None
holder_by (Loaded d) (Loaded c) = if is_same_word c d then Some c.holder else None
holder_by _ _ = None

abbrev pub or_other : Option ℕ → Option ℕ → Option ℕ
or_other None o = o
or_other (Some t) o = Some t

abbrev pub holder_in : Fact → Facts → Option ℕ
holder_in given facts =
    or_other (holder_by given facts.first) (or_other (holder_by given facts.second)
    (or_other (holder_by given facts.third) (or_other (holder_by given facts.fourth)
    (or_other (holder_by given facts.fifth) (or_other (holder_by given facts.sixth)
    (or_other (holder_by given facts.seventh) (or_other (holder_by given facts.eighth)
    (or_other (holder_by given facts.ninth) (or_other (holder_by given facts.tenth)
    (or_other (holder_by given facts.eleventh) (holder_by given facts.twelfth)))))))))))

-- ---- what an instruction becomes

abbrev pub copy_of : Fact → Option ℕ → Option Instruction
copy_of Empty o = None
copy_of (Pointed d) None = None
copy_of (Pointed d) (Some h) = Some (Copy d.holder h)
copy_of (Summed d) None = None
copy_of (Summed d) (Some h) = Some (Copy d.holder h)
copy_of (Loaded d) None = None
copy_of (Loaded d) (Some h) = Some (Copy d.holder h)

abbrev pub or_itself : Option Instruction → Instruction → Instruction
or_itself None i = i
or_itself (Some copy) i = copy

-- a copy instead of it, if a temporary holds the result
abbrev pub again : Facts → Instruction → Instruction
again facts i = or_itself (copy_of (given_by i) (holder_in (given_by i) facts)) i

-- ---- what is known behind it

-- at the front; the last one is dropped
abbrev pub with_fact : Fact → Facts → Facts
with_fact fact facts = record {
  first = fact;
  second = facts.first;
  third = facts.second;
  fourth = facts.third;
  fifth = facts.fourth;
  sixth = facts.fifth;
  seventh = facts.sixth;
  eighth = facts.seventh;
  ninth = facts.eighth;
  tenth = facts.ninth;
  eleventh = facts.tenth;
  twelfth = facts.eleventh;
}

abbrev pub behind_copy : Bool → ℕ → Facts → Facts
behind_copy true t facts = facts
behind_copy false t facts = each_unless_written t facts

-- if the temporary already holds it, nothing changes
abbrev pub behind_given : Option ℕ → Facts → ℕ → Fact → Facts
behind_given None facts t given = with_fact (lasting given) (each_unless_written t facts)
behind_given (Some h) facts t given = behind_copy (nat_eq h t) t facts

abbrev pub after_given : Facts → ℕ → Fact → Facts
after_given facts t given = behind_given (holder_in given facts) facts t given

abbrev pub held_behind : Facts → Instruction → Facts
held_behind facts (Literal t z) = each_unless_written t facts
held_behind facts (Copy t a) = each_unless_written t facts
held_behind facts (Arithmetic operator t a b error line) = after_given facts t (Summed (total operator t a b error))
held_behind facts (Bits operator t a b) = each_unless_written t facts
held_behind facts (Compare relation t a b) = each_unless_written t facts
held_behind facts (Text t bytes) = each_unless_written t facts
held_behind facts (Offset t b n extent) = each_unless_written t facts
held_behind facts (Index t b x low high width error line) =
    after_given facts t (Pointed (component t b x low high width))
held_behind facts (RoutineValue t r) = each_unless_written t facts
held_behind facts (Load t b n) = after_given facts t (Loaded (word t b n))
held_behind facts (LoadByte t b n) = each_unless_written t facts
held_behind facts (Take t) = each_unless_written t facts
held_behind facts (New t object_type line) = each_unless_written t (each_unless_loaded facts)
held_behind facts (CheckRange a low high error line) = facts
held_behind facts (CheckPointer a error line) = facts
held_behind facts (Store b n a) = each_unless_loaded facts
held_behind facts (StoreByte b n a) = each_unless_loaded facts
held_behind facts (Put a) = facts
held_behind facts (Branch relation a b n) = facts
held_behind facts (BranchBack relation a b n) = facts
held_behind facts _ = no_facts

-- ---- bodies

-- at the target of a jump nothing is known, or what is known at the only jump to it; elsewhere nothing but what arrives
-- from the place before
abbrev pub IsNoMore : Facts → Facts → Type 0
IsNoMore here next = (next ≡ no_facts) ⊎ (next ≡ here)

-- by places of a body: what is held there
abbrev pub GoesOn : (ℕ → Facts) → ℕ → Instruction → Type 0
GoesOn at place (Jump n) = IsNoMore (at place) (at (suc place + n))
GoesOn at place (JumpBack n) = at (place - n) ≡ no_facts
GoesOn at place (Branch relation a b n) =
    IsNoMore (at place) (at (suc place + n)) × IsNoMore (at place) (at (suc place))
GoesOn at place (BranchBack relation a b n) = (at (place - n) ≡ no_facts) × IsNoMore (at place) (at (suc place))
GoesOn at place (Return a) = Unit {0}
GoesOn at place (Trap error line) = Unit {0}
GoesOn at place End = Unit {0}
GoesOn at place i = IsNoMore (held_behind (at place) i) (at (suc place))

pub record AgainBody (body body' : List Instruction) : Type 0 where
  pub at : ℕ → Facts
  pub begins : at 0 ≡ no_facts
  pub as_many : length body' ≡ length body
  pub there : (place : ℕ) (i : Instruction) → slice_get body place ≡ Some i
      → slice_get body' place ≡ Some (again (at place) i)
  pub goes_on : (place : ℕ) (i : Instruction) → slice_get body place ≡ Some i → GoesOn at place i

-- ---- code

pub record AgainRoutine (routine routine' : TacRoutine) : Type 0 where
  pub heading : SameHeading routine routine'
  pub temporaries : routine'.temporaries ≡ routine.temporaries
  pub body : AgainBody routine.body routine'.body

-- each routine of the old code has one of the new code in its place
pub record IsAgain (old new : Code) : Type 0 where
  pub program : length new.program ≡ length old.program
  pub run_time : length new.run_time ≡ length old.run_time
  pub objects : new.objects ≡ old.objects
  pub routines : (r : ℕ) (routine : TacRoutine) → slice_get (routines old) r ≡ Some routine → (routine' : TacRoutine)
      × (slice_get (routines new) r ≡ Some routine') × AgainRoutine routine routine'

-- ---- a walk: where jumps lead is marked

abbrev pub or_clear : Option Mark → Mark
or_clear None = Clear
or_clear (Some mark) = mark

abbrev pub mark_at : List Mark → ℕ → Mark
mark_at marks place = or_clear (slice_get marks place)

-- whether a forward jump from a place may lead there
abbrev pub may_lead : Mark → ℕ → Bool
may_lead Clear place = false
may_lead (Once from) place = nat_eq from place
may_lead Often place = true

abbrev pub is_often : Mark → Bool
is_often Often = true
is_often _ = false

abbrev pub is_once : Mark → Bool
is_once (Once from) = true
is_once _ = false

abbrev pub leads_to_marks : List Mark → ℕ → Instruction → Bool
leads_to_marks marks place (Jump n) = may_lead (mark_at marks (suc place + n)) place
leads_to_marks marks place (JumpBack n) = is_often (mark_at marks (place - n))
leads_to_marks marks place (Branch relation a b n) = may_lead (mark_at marks (suc place + n)) place
leads_to_marks marks place (BranchBack relation a b n) = is_often (mark_at marks (place - n))
leads_to_marks marks place i = true

-- ---- what waits for the places that only one jump leads to

abbrev pub no_later : Later
no_later = record { from = 0; facts = no_facts }

abbrev pub with_later : ℕ → Facts → Waiting → Waiting
with_later place facts waiting = record {
  first = record { from = place; facts = facts };
  second = waiting.first;
  third = waiting.second;
  fourth = waiting.third;
}

abbrev pub facts_from : Waiting → ℕ → Facts
facts_from waiting place =
    if nat_eq waiting.first.from place then waiting.first.facts
    else if nat_eq waiting.second.from place then waiting.second.facts
    else if nat_eq waiting.third.from place then waiting.third.facts
    else if nat_eq waiting.fourth.from place then waiting.fourth.facts
    else no_facts

abbrev pub forward_of : Instruction → Option ℕ
forward_of (Jump n) = Some n
forward_of (Branch relation a b n) = Some n
forward_of i = None

abbrev pub wait_for : List Mark → ℕ → Option ℕ → Facts → Waiting → Waiting
wait_for marks place None facts waiting = waiting
wait_for marks place (Some n) facts waiting =
    if is_once (mark_at marks (suc place + n)) then with_later place facts waiting else waiting

-- ---- one place after the other

-- what is known at the next place, by its mark and whether the one before goes on to it
abbrev pub next_facts : Mark → Waiting → Bool → Facts → Facts
next_facts Clear waiting goes behind = behind
next_facts Often waiting goes behind = no_facts
next_facts (Once from) waiting true behind = no_facts
next_facts (Once from) waiting false behind = facts_from waiting from

abbrev pub at_begin : Standing
at_begin = record {
  facts = no_facts;
  waiting = record { first = no_later; second = no_later; third = no_later; fourth = no_later };
}

abbrev pub waits_behind : List Mark → ℕ → Instruction → Standing → Waiting
waits_behind marks place i s = wait_for marks place (forward_of i) s.facts s.waiting

abbrev pub step : List Mark → ℕ → Instruction → Standing → Standing
step marks place i s = record {
  facts =
      next_facts (mark_at marks (suc place)) (waits_behind marks place i s) (goes_on_to_next i) (held_behind s.facts i);
  waiting = waits_behind marks place i s;
}

abbrev pub step_over : List Mark → ℕ → Option Instruction → Standing → Standing
step_over marks place None s = at_begin
step_over marks place (Some i) s = step marks place i s

abbrev pub standing_at : List Mark → List Instruction → ℕ → Standing
standing_at marks body zero = at_begin
standing_at marks body (suc n) = step_over marks n (slice_get body n) (standing_at marks body n)
