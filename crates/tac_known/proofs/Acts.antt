-- Each instruction does what it did, where its tests that lost their numbers can't fail.
use Rattle.std.proofs.Common.{◌≡◌, ℕ, zero, suc, ◌+◌, ◌*◌, Bool, true, false, not, ◌&&◌, nat_eq, nat_lt, if◌then◌else◌}
use Rattle.std.proofs.Common.{List, [], ◌∷◌, length, slice_get, Option, Some, None, ℤ, pos, negsuc, refl, sym, ap, ◌∙◌}
use Rattle.std.proofs.Common.{subst}
use Rattle.std.proofs.lemmas.Bool.{true≢false, and_parts}
use Rattle.std.proofs.lemmas.Option.{none-some, same_Some}
use Rattle.behavior.specs.Endings.{Stack, Stuck}
use Rattle.tac_code.specs.declared.code.Block.{Block}
use Rattle.tac_code.specs.declared.code.Block.TheVariants.{Frame, Scratch, Object, Constant}
use Rattle.tac_code.specs.declared.code.Operand.{Operand}
use Rattle.tac_code.specs.declared.code.Operand.TheVariants as operand
use Rattle.tac_code.specs.declared.code.Relation.{Relation}
use Rattle.tac_code.specs.declared.code.Relation.TheVariants.{Equal, NotEqual, Less, LessEqual, Greater, GreaterEqual}
use Rattle.tac_code.specs.declared.code.Operator.{Operator}
use Rattle.tac_code.specs.declared.code.Base.{Base}
use Rattle.tac_code.specs.declared.code.Value.{Value}
use Rattle.tac_code.specs.declared.code.Value.TheVariants.{Number, Address, Routine}
use Rattle.tac_code.specs.declared.code.Instruction.{Instruction}
use Rattle.tac_code.specs.declared.code.Instruction.TheVariants.{Literal, Copy, Arithmetic, Bits, Compare, CheckRange}
use Rattle.tac_code.specs.declared.code.Instruction.TheVariants.{CheckPointer, Text, Offset, Index, RoutineValue, Load}
use Rattle.tac_code.specs.declared.code.Instruction.TheVariants.{Store, LoadByte, StoreByte, Jump, JumpBack, Branch}
use Rattle.tac_code.specs.declared.code.Instruction.TheVariants.{BranchBack, Call, CallValue, Return, Trap, Take, Put}
use Rattle.tac_code.specs.declared.code.Instruction.TheVariants.{New, End}
use Rattle.tac_code.specs.declared.code.TacRoutine.{TacRoutine}
use Rattle.tac_code.specs.Numbers.{Computed, Gives, Fails, truth, computed, is_in_range, steps_above}
use Rattle.tac_code.specs.Memory.{load, load_byte}
use Rattle.tac_code.specs.Meaning.{Code, Activation, State, Step, Goes, Over, text_of, text_at, routines, act}
use Rattle.tac_code.specs.Meaning.{with_some, with_number, with_address, with_routine, operand_value, base_value}
use Rattle.tac_code.specs.Meaning.{pointer_of, is_nil, related, gives, gives_computed, gives_component, checks, fails}
use Rattle.tac_code.specs.Meaning.{test_ending, open_calls, frame_cost, open_bytes, is_full, enter, calls, values_of}
use Rattle.tac_code.specs.Meaning.{makes, onward, unwritten}
use Rattle.tac_code_steps.specs.Turns.{turns_aside}
use Rattle.tac_pass.specs.Follows.{SameHeading}
use Rattle.tac_known.specs.declared.kind.Kind.{Kind}
use Rattle.tac_known.specs.declared.kind.Kind.TheVariants.{Unknown, NotNil, Between}
use Rattle.tac_known.specs.Kinds.{IsOf, kind_in, Hold, operand_kind, fits, lies_within, is_pointer}
use Rattle.tac_known.specs.Lean.{number_unless, is_nought, is_unequal, is_truth, copied_if, lean}
use Rattle.tac_known.proofs.Integers.{eq_int}
use Rattle.tac_known.proofs.Results.{fits_gives, lies_in, is_bit, truth_of_bit}
use Rattle.tac_known.proofs.Holding.{operand_is}

copied_text : (v : Bool) (r : Relation) (t a : ℕ) (b : Operand) → text_of (Some (copied_if v r t a b)) ≡ None
copied_text true r t a b = refl
copied_text false r t a b = refl

copied_turns : (v : Bool) (r : Relation) (t a : ℕ) (b : Operand) → turns_aside (Some (copied_if v r t a b)) ≡ false
copied_turns true r t a b = refl
copied_turns false r t a b = refl

pub lean_text : (ks : List Kind) (i : Instruction) → text_of (Some (lean ks i)) ≡ text_of (Some i)
lean_text ks (Literal _ _) = refl
lean_text ks (Copy _ _) = refl
lean_text ks (Arithmetic _ _ _ _ _ _) = refl
lean_text ks (Bits _ _ _ _) = refl
lean_text ks (Compare r t a b) = copied_text (is_truth ks r a b) r t a b
lean_text ks (CheckRange _ _ _ _ _) = refl
lean_text ks (CheckPointer _ _ _) = refl
lean_text ks (Text _ _) = refl
lean_text ks (Offset _ _ _ _) = refl
lean_text ks (Index _ _ _ _ _ _ _ _) = refl
lean_text ks (RoutineValue _ _) = refl
lean_text ks (Load _ _ _) = refl
lean_text ks (Store _ _ _) = refl
lean_text ks (LoadByte _ _ _) = refl
lean_text ks (StoreByte _ _ _) = refl
lean_text ks (Jump _) = refl
lean_text ks (JumpBack _) = refl
lean_text ks (Branch _ _ _ _) = refl
lean_text ks (BranchBack _ _ _ _) = refl
lean_text ks (Call _ _ _ _) = refl
lean_text ks (CallValue _ _ _ _) = refl
lean_text ks (Return _) = refl
lean_text ks (Trap _ _) = refl
lean_text ks (Take _) = refl
lean_text ks (Put _) = refl
lean_text ks (New _ _ _) = refl
lean_text ks End = refl

pub lean_turns : (ks : List Kind) (i : Instruction) → turns_aside (Some (lean ks i)) ≡ turns_aside (Some i)
lean_turns ks (Literal _ _) = refl
lean_turns ks (Copy _ _) = refl
lean_turns ks (Arithmetic _ _ _ _ _ _) = refl
lean_turns ks (Bits _ _ _ _) = refl
lean_turns ks (Compare r t a b) = copied_turns (is_truth ks r a b) r t a b
lean_turns ks (CheckRange _ _ _ _ _) = refl
lean_turns ks (CheckPointer _ _ _) = refl
lean_turns ks (Text _ _) = refl
lean_turns ks (Offset _ _ _ _) = refl
lean_turns ks (Index _ _ _ _ _ _ _ _) = refl
lean_turns ks (RoutineValue _ _) = refl
lean_turns ks (Load _ _ _) = refl
lean_turns ks (Store _ _ _) = refl
lean_turns ks (LoadByte _ _ _) = refl
lean_turns ks (StoreByte _ _ _) = refl
lean_turns ks (Jump _) = refl
lean_turns ks (JumpBack _) = refl
lean_turns ks (Branch _ _ _ _) = refl
lean_turns ks (BranchBack _ _ _ _) = refl
lean_turns ks (Call _ _ _ _) = refl
lean_turns ks (CallValue _ _ _ _) = refl
lean_turns ks (Return _) = refl
lean_turns ks (Trap _ _) = refl
lean_turns ks (Take _) = refl
lean_turns ks (Put _) = refl
lean_turns ks (New _ _ _) = refl
lean_turns ks End = refl

-- ---- steps that go on alike

some_alike : {A : Type 0} (o : Option A) (f g : A → Step) → ((x : A) → o ≡ Some x → f x ≡ g x) → with_some o f
    ≡ with_some o g
some_alike None f g h = refl
some_alike (Some x) f g h = h x refl

number_alike : (o : Option Value) (f g : ℤ → Step) → ((x : ℤ) → o ≡ Some (Number x) → f x ≡ g x) → with_number o f
    ≡ with_number o g
number_alike None f g h = refl
number_alike (Some (Number x)) f g h = h x refl
number_alike (Some (Address block offset)) f g h = refl
number_alike (Some (Routine r)) f g h = refl

address_alike : (o : Option Value) (f g : Block → ℕ → Step) → ((block : Block) (offset : ℕ) → f block offset
    ≡ g block offset) → with_address o f ≡ with_address o g
address_alike None f g h = refl
address_alike (Some (Number x)) f g h = refl
address_alike (Some (Address block offset)) f g h = h block offset
address_alike (Some (Routine r)) f g h = refl

routine_alike : (o : Option Value) (f g : ℕ → Step) → ((r : ℕ) → f r ≡ g r) → with_routine o f ≡ with_routine o g
routine_alike None f g h = refl
routine_alike (Some (Number x)) f g h = refl
routine_alike (Some (Address block offset)) f g h = refl
routine_alike (Some (Routine r)) f g h = h r

is_number : (k : Kind) (o : Option Value) (x : ℤ) → IsOf k o → o ≡ Some (Number x) → IsOf k (Some (Number x))
is_number k o x is e = subst (IsOf k) e is

object_pointer : (o : Option Value) → IsOf NotNil o → (p : Option ℕ) → pointer_of o ≡ Some p → not (is_nil p) ≡ true
object_pointer o other (Some n) f = refl
object_pointer None other None f = absurd (none-some None f)
object_pointer (Some (Number (pos zero))) other None f = absurd (other refl)
object_pointer (Some (Number (pos (suc n)))) other None f = absurd (none-some None f)
object_pointer (Some (Number (negsuc n))) other None f = absurd (none-some None f)
object_pointer (Some (Address (Frame a) o)) other None f = absurd (none-some None f)
object_pointer (Some (Address (Scratch a) o)) other None f = absurd (none-some None f)
object_pointer (Some (Address (Constant r place) o)) other None f = absurd (none-some None f)
object_pointer (Some (Address (Object a) o)) other None f = which (nat_eq o 0) f
  where
    which : (b : Bool) → (if b then Some (Some a) else None) ≡ Some None → false ≡ true
    which true f = absurd (none-some a (sym (same_Some (Some a) None f)))
    which false f = absurd (none-some None f)
object_pointer (Some (Routine r)) other None f = absurd (none-some None f)

-- two codes with programs of as many routines, called alike, with the same objects and constants
module _ (old new : Code) (program : length new.program ≡ length old.program) (objects : new.objects ≡ old.objects)
    (texts : text_at new ≡ text_at old)
    (headings : (r : ℕ) (routine : TacRoutine) → slice_get (routines old) r ≡ Some routine → (routine' : TacRoutine)
    × (slice_get (routines new) r ≡ Some routine') × SameHeading routine routine')
    (absent : (r : ℕ) → slice_get (routines old) r ≡ None → slice_get (routines new) r ≡ None)
    (F G : ℕ → ℕ) (S H : ℕ) (s : State) where
  fails_alike : (number line : ℕ) → fails new number line s ≡ fails old number line s
  fails_alike number line = ap (λ n. Over (test_ending number line (open_calls n s.current s.callers))) program

  computed_alike : (t : ℕ) (x : Computed) (line : ℕ) → gives_computed new t x line s ≡ gives_computed old t x line s
  computed_alike t (Gives z) line = refl
  computed_alike t (Fails number) line = fails_alike number line

  checks_alike : (b : Bool) (number line : ℕ) → checks new b number line s ≡ checks old b number line s
  checks_alike true number line = refl
  checks_alike false number line = fails_alike number line

  checks_vain : (b : Bool) (m n line : ℕ) → b ≡ true → checks new b m line s ≡ checks old b n line s
  checks_vain b m n line e =
      ap (λ b. checks new b m line s) e ∙ sym (ap (λ b. checks old b n line s) e)

  component_alike : (b : Bool) (t : ℕ) (block : Block) (o number line : ℕ) →
      gives_component new b t block o number line s
      ≡ gives_component old b t block o number line s
  component_alike true t block o number line = refl
  component_alike false t block o number line = fails_alike number line

  component_vain : (b : Bool) (t : ℕ) (block : Block) (o m n line : ℕ) → b ≡ true →
      gives_component new b t block o m line s
      ≡ gives_component old b t block o n line s
  component_vain b t block o m n line e =
      ap (λ b. gives_component new b t block o m line s) e
      ∙ sym (ap (λ b. gives_component old b t block o n line s) e)

  -- ---- entries

  costs_alike : (r : ℕ) → frame_cost new F r ≡ frame_cost old F r
  costs_alike r = ap (λ n. if nat_lt r n then F r else 0) program

  bytes_alike : (callers : List Activation) → open_bytes new F callers ≡ open_bytes old F callers
  bytes_alike [] = refl
  bytes_alike (a ∷ rest) =
      ap (λ n. n + open_bytes new F rest) (costs_alike a.routine)
      ∙ ap (λ n. frame_cost old F a.routine + n) (bytes_alike rest)

  full_alike : (r : ℕ) (callers : List Activation) → is_full new F G S H r callers ≡ is_full old F G S H r callers
  full_alike r callers =
      ap (λ n. nat_lt r n && nat_lt S (F r + open_bytes new F callers)) program
      ∙ ap (λ n. nat_lt r (length old.program) && nat_lt S (F r + n)) (bytes_alike callers)

  -- the entry of a routine by its parts
  abbrev entered_by : (full : Bool) (parameters frame scratch begin r : ℕ) → List Value → (result line : ℕ)
      → List Activation → Step
  entered_by full parameters frame scratch begin r values result line callers =
      if not (nat_eq (length values) parameters) then Over Stuck else if full then Over (Stack begin) else Goes
      (record s {
        current = record {
          routine = r;
          place = 0;
          number = s.count;
          temporaries = λ t. slice_get values t;
          result = result;
          line = line;
        };
        callers = callers;
        memory = record s.memory {
          frames = record {
            number = s.count;
            words = unwritten frame;
          } ∷ s.memory.frames;
          scratch = record {
            number = s.count;
            words = unwritten scratch;
          } ∷ s.memory.scratch;
        };
        count = suc s.count;
      })

  abbrev entered_in : (r : ℕ) → List Value → (result line : ℕ) → List Activation → Bool → TacRoutine → Step
  entered_in r values result line callers full routine =
      entered_by full routine.parameters routine.frame routine.scratch routine.line r values result line callers

  enters_alike : (r : ℕ) (values : List Value) (result line : ℕ) (callers : List Activation)
      → enter new F G S H r values result line callers s ≡ enter old F G S H r values result line callers s
  enters_alike r values result line callers = which (slice_get (routines old) r) refl
    where
      found : (routine : TacRoutine) → (routine' : TacRoutine) × (slice_get (routines new) r ≡ Some routine')
          × SameHeading routine routine' → with_some (slice_get (routines new) r)
          (entered_in r values result line callers (is_full new F G S H r callers))
          ≡ entered_in r values result line callers (is_full old F G S H r callers) routine
      found routine (routine', e, h) =
          ap (λ o. with_some o (entered_in r values result line callers (is_full new F G S H r callers))) e
          ∙ ap (λ b. entered_in r values result line callers b routine') (full_alike r callers)
          ∙ ap (λ n. entered_by (is_full old F G S H r callers) n routine'.frame routine'.scratch routine'.line r values
          result line callers) h.parameters
          ∙ ap (λ n. entered_by (is_full old F G S H r callers) routine.parameters n routine'.scratch routine'.line r
          values result line callers) h.frame
          ∙ ap (λ n. entered_by (is_full old F G S H r callers) routine.parameters routine.frame n routine'.line r
          values result line callers) h.scratch
          ∙ ap (λ n. entered_by (is_full old F G S H r callers) routine.parameters routine.frame routine.scratch n r
          values result line callers) h.line

      which : (o : Option TacRoutine) → slice_get (routines old) r ≡ o → with_some (slice_get (routines new) r)
          (entered_in r values result line callers (is_full new F G S H r callers))
          ≡ with_some o (entered_in r values result line callers (is_full old F G S H r callers))
      which None e = ap (λ o. with_some o (entered_in r values result line callers (is_full new F G S H r callers)))
          (absent r e)
      which (Some routine) e = found routine (headings r routine e)

  pub enter_alike : (r : ℕ) (values : List Value) (result line : ℕ) (callers : List Activation)
      → enter new F G S H r values result line callers s ≡ enter old F G S H r values result line callers s
  enter_alike r values result line callers = enters_alike r values result line callers

  calls_alike : (t r : ℕ) (operands : List ℕ) (line : ℕ) → calls new F G S H t r operands line s
      ≡ calls old F G S H t r operands line s
  calls_alike t r operands line =
      some_alike (values_of s.current.temporaries operands) _ _
      (λ values e. enters_alike r values t line (onward s.current ∷ s.callers))

  -- ---- all of them

  module _ (ks : List Kind) (h : Hold ks s.current.temporaries) where
    abbrev before : Instruction → Step
    before i = act old F G S H (Some i) s

    abbrev now : Instruction → Step
    now i = act new F G S H (Some (lean ks i)) s

    sum_alike : (operator : Operator) (t a : ℕ) (b : Operand) (error line : ℕ)
        → now (Arithmetic operator t a b error line) ≡ before (Arithmetic operator t a b error line)
    sum_alike operator t a b error line =
        number_alike (s.current.temporaries a) _ _ (λ x e. number_alike (operand_value s.current.temporaries b) _ _
        (λ y f. which x y (is_number (kind_in ks a) (s.current.temporaries a) x (h a) e)
        (is_number (operand_kind ks b) (operand_value s.current.temporaries b) y
        (operand_is ks s.current.temporaries h b) f) (fits operator (kind_in ks a) (operand_kind ks b)) refl))
      where
        which : (x y : ℤ) → IsOf (kind_in ks a) (Some (Number x)) → IsOf (operand_kind ks b) (Some (Number y))
            → (v : Bool) → fits operator (kind_in ks a) (operand_kind ks b) ≡ v
            → gives_computed new t (computed operator (number_unless v error) x y) line s
            ≡ gives_computed old t (computed operator error x y) line s
        which x y p q true e =
            let g = fits_gives operator (kind_in ks a) (operand_kind ks b) x y e p q in
            ap (λ c. gives_computed new t c line s) (g.1 0) ∙ sym (ap (λ c. gives_computed old t c line s) (g.1 error))
        which x y p q false e = computed_alike t (computed operator error x y) line

    range_alike : (a : ℕ) (low high : ℤ) (error line : ℕ) → now (CheckRange a low high error line)
        ≡ before (CheckRange a low high error line)
    range_alike a low high error line =
        number_alike (s.current.temporaries a) _ _
        (λ x e. which x (is_number (kind_in ks a) (s.current.temporaries a) x (h a) e)
        (lies_within (kind_in ks a) low high) refl)
      where
        which : (x : ℤ) → IsOf (kind_in ks a) (Some (Number x)) → (v : Bool) → lies_within (kind_in ks a) low high ≡ v
            → checks new (is_in_range low high x) (number_unless v error) line s
            ≡ checks old (is_in_range low high x) error line s
        which x p true e =
            checks_vain (is_in_range low high x) 0 error line (lies_in (kind_in ks a) low high x e p)
        which x p false e = checks_alike (is_in_range low high x) error line

    pointer_alike : (a error line : ℕ) → now (CheckPointer a error line) ≡ before (CheckPointer a error line)
    pointer_alike a error line =
        some_alike (pointer_of (s.current.temporaries a)) _ _ (λ p e. which (kind_in ks a) (h a) p e)
      where
        which : (k : Kind) → IsOf k (s.current.temporaries a) → (p : Option ℕ) → pointer_of (s.current.temporaries a)
            ≡ Some p → checks new (not (is_nil p)) (number_unless (is_pointer k) error) line s
            ≡ checks old (not (is_nil p)) error line s
        which Unknown is p e = checks_alike (not (is_nil p)) error line
        which (Between l m) is p e = checks_alike (not (is_nil p)) error line
        which NotNil is p e =
            checks_vain (not (is_nil p)) 0 error line (object_pointer (s.current.temporaries a) is p e)

    index_alike : (t : ℕ) (b : Base) (i : ℕ) (low high : ℤ) (width error line : ℕ)
        → now (Index t b i low high width error line) ≡ before (Index t b i low high width error line)
    index_alike t b i low high width error line =
        address_alike (base_value s.current b) _ _ (λ block offset. number_alike (s.current.temporaries i) _ _
        (λ x e. which block offset x (is_number (kind_in ks i) (s.current.temporaries i) x (h i) e)
        (lies_within (kind_in ks i) low high) refl))
      where
        which : (block : Block) (offset : ℕ) (x : ℤ) → IsOf (kind_in ks i) (Some (Number x)) → (v : Bool) → lies_within
            (kind_in ks i) low high ≡ v
            → gives_component new (is_in_range low high x) t block (offset + steps_above low x * width)
            (number_unless v error) line s
            ≡ gives_component old (is_in_range low high x) t block (offset + steps_above low x * width) error line s
        which block offset x p true e =
            component_vain (is_in_range low high x) t block (offset + steps_above low x * width) 0 error line
            (lies_in (kind_in ks i) low high x e p)
        which block offset x p false e =
            component_alike (is_in_range low high x) t block (offset + steps_above low x * width) error line

    -- a number that is 0 or 1 is not 0 where it is 1
    nought_alike : (t a : ℕ) (z : ℤ) → z ≡ pos 0 → lies_within (kind_in ks a) (pos 0) (pos 1) ≡ true
        → act new F G S H (Some (Copy t a)) s ≡ before (Compare NotEqual t a (operand.Number z))
    nought_alike t a z e f =
        let is = is_bit (kind_in ks a) (s.current.temporaries a) f (h a) in
        ap (λ o. with_some o (λ v. gives t v s)) is.1
        ∙ ap (λ x. gives t (Number x) s) (sym (truth_of_bit is.0 is.2 is.3))
        ∙ ap (λ y. with_some (related NotEqual (Some (Number is.0)) (Some (Number y)))
        (λ holds. gives t (Number (truth holds)) s)) (sym e)
        ∙ ap (λ o. with_some (related NotEqual o (Some (Number z))) (λ holds. gives t (Number (truth holds)) s))
        (sym is.1)

    truth_alike : (relation : Relation) (t a : ℕ) (b : Operand) → is_unequal relation ≡ true → is_nought b ≡ true
        → lies_within (kind_in ks a) (pos 0) (pos 1) ≡ true → act new F G S H (Some (Copy t a)) s
        ≡ before (Compare relation t a b)
    truth_alike Equal t a b d e f = absurd (true≢false (sym d))
    truth_alike Less t a b d e f = absurd (true≢false (sym d))
    truth_alike LessEqual t a b d e f = absurd (true≢false (sym d))
    truth_alike Greater t a b d e f = absurd (true≢false (sym d))
    truth_alike GreaterEqual t a b d e f = absurd (true≢false (sym d))
    truth_alike NotEqual t a (operand.Temporary u) d e f = absurd (true≢false (sym e))
    truth_alike NotEqual t a (operand.Number z) d e f = nought_alike t a z (eq_int z (pos 0) e) f

    compare_alike : (relation : Relation) (t a : ℕ) (b : Operand) → now (Compare relation t a b)
        ≡ before (Compare relation t a b)
    compare_alike relation t a b = which (is_truth ks relation a b) refl
      where
        which : (v : Bool) → is_truth ks relation a b ≡ v → act new F G S H (Some (copied_if v relation t a b)) s
            ≡ before (Compare relation t a b)
        which false e = refl
        which true e =
            let x = and_parts (is_unequal relation) _ e in
            let y = and_parts (is_nought b) _ x.1 in
            truth_alike relation t a b x.0 y.0 y.1

    pub acts_alike : (i : Instruction) → act new F G S H (Some (lean ks i)) s ≡ act old F G S H (Some i) s
    acts_alike (Literal t z) = refl
    acts_alike (Copy t a) = refl
    acts_alike (Arithmetic operator t a b error line) = sum_alike operator t a b error line
    acts_alike (Bits operator t a b) = refl
    acts_alike (Compare relation t a b) = compare_alike relation t a b
    acts_alike (CheckRange a low high error line) = range_alike a low high error line
    acts_alike (CheckPointer a error line) = pointer_alike a error line
    acts_alike (Text t bytes) = refl
    acts_alike (Offset t b n extent) = refl
    acts_alike (Index t b i low high width error line) = index_alike t b i low high width error line
    acts_alike (RoutineValue t r) = refl
    acts_alike (Load t b n) =
        ap (λ texts. with_address (base_value s.current b)
        (λ block offset. with_some (load texts s.memory block (offset + n)) (λ v. gives t v s))) texts
    acts_alike (Store b n a) = refl
    acts_alike (LoadByte t b n) =
        ap (λ texts. with_address (base_value s.current b) (λ block offset. with_some
        (load_byte texts s.memory block (offset + n)) (λ byte. gives t (Number (pos byte)) s))) texts
    acts_alike (StoreByte b n a) = refl
    acts_alike (Jump n) = refl
    acts_alike (JumpBack n) = refl
    acts_alike (Branch relation a b n) = refl
    acts_alike (BranchBack relation a b n) = refl
    acts_alike (Call t r operands line) = calls_alike t r operands line
    acts_alike (CallValue t a operands line) =
        routine_alike (s.current.temporaries a) _ _
        (λ r. ap (λ n. if nat_lt r n then calls new F G S H t r operands line s else Over Stuck) program
        ∙ ap (λ x. if nat_lt r (length old.program) then x else Over Stuck) (calls_alike t r operands line))
    acts_alike (Return a) = refl
    acts_alike (Trap number line) = fails_alike number line
    acts_alike (Take t) = refl
    acts_alike (Put a) = refl
    acts_alike (New t object_type line) =
        ap (λ list. with_some (slice_get list object_type) (λ bytes. makes old F G S H t object_type bytes line s))
        objects
    acts_alike End = refl
