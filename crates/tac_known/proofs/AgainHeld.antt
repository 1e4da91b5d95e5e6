-- An address, a sum or a word that a temporary holds stays held.
use Rattle.std.proofs.Common.{◌≡◌, ℕ, ◌+◌, ◌*◌, Bool, true, false, nat_eq, nat_lt, if◌then◌else◌, Option, Some, None, ℤ}
use Rattle.std.proofs.Common.{refl, sym, ap, ◌∙◌, eqb-true}
use Rattle.std.proofs.lemmas.Bool.{or_parts}
use Rattle.tac_code.specs.declared.code.Block.{Block}
use Rattle.tac_code.specs.declared.code.Value.{Value}
use Rattle.tac_code.specs.declared.code.Value.TheVariants.{Number, Address}
use Rattle.tac_code.specs.declared.code.Instruction.{Instruction}
use Rattle.tac_code.specs.declared.code.Instruction.TheVariants.{Literal, Copy, Arithmetic, Bits, Compare, CheckRange}
use Rattle.tac_code.specs.declared.code.Instruction.TheVariants.{CheckPointer, Text, Offset, Index, RoutineValue, Load}
use Rattle.tac_code.specs.declared.code.Instruction.TheVariants.{Store, LoadByte, StoreByte, Jump, JumpBack, Branch}
use Rattle.tac_code.specs.declared.code.Instruction.TheVariants.{BranchBack, Call, CallValue, Return, Trap, Take, Put}
use Rattle.tac_code.specs.declared.code.Instruction.TheVariants.{New, End}
use Rattle.tac_code.specs.Numbers.{Computed, Gives, Fails, computed, is_in_range, steps_above}
use Rattle.tac_code.specs.Memory.{Constants, Memory, load}
use Rattle.tac_code.specs.Meaning.{Activation, text_of, giving, base_value, operand_value}
use Rattle.tac_code.specs.declared.code.TheConstants.{BLOCK_LIMIT}
use Rattle.tac_code_steps.specs.Turns.{turns_aside}
use Rattle.tac_code_steps.proofs.Temporaries.{put_same, put_other}
use Rattle.tac_known.specs.declared.again.Component.{Component}
use Rattle.tac_known.specs.declared.again.Sum.{Sum}
use Rattle.tac_known.specs.declared.again.Word.{Word}
use Rattle.tac_known.specs.declared.again.Fact.{Fact}
use Rattle.tac_known.specs.declared.again.Fact.TheVariants.{Empty, Pointed, Summed, Loaded}
use Rattle.tac_known.specs.declared.again.Facts.{Facts}
use Rattle.tac_known.specs.Again.{IsComponent, IsSum, IsWord, IsHeld, AreHeld, is_of, is_operand, component_uses}
use Rattle.tac_known.specs.Again.{sum_uses, word_uses, unless_loaded, each_unless_loaded, word, hangs_on}
use Rattle.tac_known.specs.Again.{unless_written, each_unless_written, lasting, component, total, holder_in, copy_of}
use Rattle.tac_known.specs.Again.{or_itself, again, with_fact, behind_copy, behind_given, after_given}
use Rattle.tac_known.proofs.AgainLike.{apart, base_stays, on_both, operand_stays, other_given, same_given}
use Rattle.tac_known.proofs.AgainCopied.{Holds, in_holds}

same_block : (a b : Block) (o p : ℕ) → Some (Address a o) ≡ Some (Address b p) → a ≡ b
same_block a b o p e = ap (block_of a) e
  where
    block_of : Block → Option Value → Block
    block_of z (Some (Address b o)) = b
    block_of z _ = z

same_offset : (a b : Block) (o p : ℕ) → Some (Address a o) ≡ Some (Address b p) → o ≡ p
same_offset a b o p e = ap offset_of e
  where
    offset_of : Option Value → ℕ
    offset_of (Some (Address b o)) = o
    offset_of _ = 0

same_number : (x y : ℤ) → Some (Number x) ≡ Some (Number y) → x ≡ y
same_number x y e = ap (number_of x) e
  where
    number_of : ℤ → Option Value → ℤ
    number_of z (Some (Number x)) = x
    number_of z _ = z

module _ (constants : Constants) (m : Memory) where
  -- ---- it stays held

  unless_kept : (fact : Fact) (current : Activation) (t : ℕ) (v : Value) → IsHeld constants m fact current →
      IsHeld constants m
      (unless_written t fact) (giving t v current)
  unless_kept fact current t v is = which (hangs_on t fact) refl
    where
      which : (b : Bool) → hangs_on t fact ≡ b → IsHeld constants m (if b then Empty else fact) (giving t v current)
      which true e = tt
      which false e = other_given constants m fact current t v e is

  pub each_kept : (facts : Facts) (current : Activation) (t : ℕ) (v : Value) → AreHeld constants m facts current →
      AreHeld constants m
      (each_unless_written t facts) (giving t v current)
  each_kept facts current t v is = record {
    first = unless_kept facts.first current t v is.first;
    second = unless_kept facts.second current t v is.second;
    third = unless_kept facts.third current t v is.third;
    fourth = unless_kept facts.fourth current t v is.fourth;
    fifth = unless_kept facts.fifth current t v is.fifth;
    sixth = unless_kept facts.sixth current t v is.sixth;
    seventh = unless_kept facts.seventh current t v is.seventh;
    eighth = unless_kept facts.eighth current t v is.eighth;
    ninth = unless_kept facts.ninth current t v is.ninth;
    tenth = unless_kept facts.tenth current t v is.tenth;
    eleventh = unless_kept facts.eleventh current t v is.eleventh;
    twelfth = unless_kept facts.twelfth current t v is.twelfth;
  }

  -- memory was written
  lost_kept : (m' : Memory) (fact : Fact) (current : Activation) → IsHeld constants m fact current
      → IsHeld constants m' (unless_loaded fact) current
  lost_kept m' Empty current is = tt
  lost_kept m' (Pointed c) current is = is
  lost_kept m' (Summed c) current is = is
  lost_kept m' (Loaded c) current is = tt

  pub each_lost : (m' : Memory) (facts : Facts) (current : Activation) → AreHeld constants m facts current
      → AreHeld constants m' (each_unless_loaded facts) current
  each_lost m' facts current is = record {
    first = lost_kept m' facts.first current is.first;
    second = lost_kept m' facts.second current is.second;
    third = lost_kept m' facts.third current is.third;
    fourth = lost_kept m' facts.fourth current is.fourth;
    fifth = lost_kept m' facts.fifth current is.fifth;
    sixth = lost_kept m' facts.sixth current is.sixth;
    seventh = lost_kept m' facts.seventh current is.seventh;
    eighth = lost_kept m' facts.eighth current is.eighth;
    ninth = lost_kept m' facts.ninth current is.ninth;
    tenth = lost_kept m' facts.tenth current is.tenth;
    eleventh = lost_kept m' facts.eleventh current is.eleventh;
    twelfth = lost_kept m' facts.twelfth current is.twelfth;
  }

  with_kept : (fact : Fact) (facts : Facts) (current : Activation) → IsHeld constants m fact current →
      AreHeld constants m facts current
      → AreHeld constants m (with_fact fact facts) current
  with_kept fact facts current new is = record {
    first = new;
    second = is.first;
    third = is.second;
    fourth = is.third;
    fifth = is.fourth;
    sixth = is.fifth;
    seventh = is.sixth;
    eighth = is.seventh;
    ninth = is.eighth;
    tenth = is.ninth;
    eleventh = is.tenth;
    twelfth = is.eleventh;
  }

  -- behind what gives it to a temporary, if all that hold it hold that value
  after_kept : (facts : Facts) (t : ℕ) (given : Fact) (current : Activation) (v : Value) →
      AreHeld constants m facts current
      → IsHeld constants m (lasting given) (giving t v current)
      → ((h : ℕ) → Holds constants m given current h → current.temporaries h ≡ Some v)
      → AreHeld constants m (after_given facts t given) (giving t v current)
  after_kept facts t given current v is new one = which (holder_in given facts) refl
    where
      itself : (h : ℕ) → holder_in given facts ≡ Some h → (b : Bool) → nat_eq h t ≡ b
          → AreHeld constants m (behind_copy b t facts) (giving t v current)
      itself h e true f =
          same_given constants m facts current t v
          (ap current.temporaries (sym (eqb-true h t f)) ∙ one h (in_holds constants m given facts current is h e)) is
      itself h e false f = each_kept facts current t v is

      which : (o : Option ℕ) → holder_in given facts ≡ o
          → AreHeld constants m (behind_given o facts t given) (giving t v current)
      which None e =
          with_kept (lasting given) (each_unless_written t facts) (giving t v current) new
          (each_kept facts current t v is)
      which (Some h) e = itself h e (nat_eq h t) refl

  -- what an index gives, before it is given
  pub record IsGiven (d : Component) (current : Activation) (v : Value) : Type 0 where
    pub block : Block
    pub offset : ℕ
    pub index : ℤ
    pub based : base_value current d.base ≡ Some (Address block offset)
    pub indexed : current.temporaries d.index ≡ Some (Number index)
    pub inside : is_in_range d.low d.high index ≡ true
    pub near : nat_lt (offset + steps_above d.low index * d.width) BLOCK_LIMIT ≡ true
    pub value : v ≡ Address block (offset + steps_above d.low index * d.width)

  new_given : (d : Component) (current : Activation) (v : Value) → IsGiven d current v →
      IsHeld constants m (lasting (Pointed d))
      (giving d.holder v current)
  new_given d current v g = which (component_uses d.holder d) refl
    where
      which : (b : Bool) → component_uses d.holder d ≡ b → IsHeld constants m (if b then Empty else Pointed d)
          (giving d.holder v current)
      which true e = tt
      which false e =
          let n = or_parts (is_of d.holder d.base) (nat_eq d.holder d.index) e in record {
            block = g.block;
            offset = g.offset;
            index = g.index;
            based = base_stays current d.holder v d.base n.0 ∙ g.based;
            indexed = put_other current.temporaries d.holder v d.index (apart d.holder d.index n.1) ∙ g.indexed;
            inside = g.inside;
            near = g.near;
            held = put_same current.temporaries d.holder v ∙ ap Some g.value;
          }

  -- the same component has the same address
  one_value : (d : Component) (current : Activation) (v : Value) → IsGiven d current v → (h : ℕ)
      → IsComponent (component h d.base d.index d.low d.high d.width) current → current.temporaries h ≡ Some v
  one_value d current v g h is =
      is.held ∙ ap Some (on_both Address blocks (on_both (λ x y. x + y * d.width) offsets steps) ∙ sym g.value)
    where
      address : Some (Address is.block is.offset) ≡ Some (Address g.block g.offset)
      address = sym is.based ∙ g.based

      blocks : is.block ≡ g.block
      blocks = same_block is.block g.block is.offset g.offset address

      offsets : is.offset ≡ g.offset
      offsets = same_offset is.block g.block is.offset g.offset address

      steps : steps_above d.low is.index ≡ steps_above d.low g.index
      steps = ap (steps_above d.low) (same_number is.index g.index (sym is.indexed ∙ g.indexed))

  pub index_kept : (facts : Facts) (d : Component) (current : Activation) (v : Value) →
      AreHeld constants m facts current
      → IsGiven d current v → AreHeld constants m (after_given facts d.holder (Pointed d)) (giving d.holder v current)
  index_kept facts d current v is g =
      after_kept facts d.holder (Pointed d) current v is (new_given d current v g) (one_value d current v g)

  -- what a sum gives, before it is given
  pub record IsAdded (d : Sum) (current : Activation) (value : ℤ) : Type 0 where
    pub left : ℤ
    pub right : ℤ
    pub first : current.temporaries d.left ≡ Some (Number left)
    pub second : operand_value current.temporaries d.right ≡ Some (Number right)
    pub fits : computed d.operator d.error left right ≡ Gives value

  new_added : (d : Sum) (current : Activation) (z : ℤ) → IsAdded d current z → IsHeld constants m (lasting (Summed d))
      (giving d.holder (Number z) current)
  new_added d current z g = which (sum_uses d.holder d) refl
    where
      which : (b : Bool) → sum_uses d.holder d ≡ b → IsHeld constants m (if b then Empty else Summed d)
          (giving d.holder (Number z) current)
      which true e = tt
      which false e =
          let n = or_parts (nat_eq d.holder d.left) (is_operand d.holder d.right) e in record {
            left = g.left;
            right = g.right;
            value = z;
            first = put_other current.temporaries d.holder (Number z) d.left (apart d.holder d.left n.0) ∙ g.first;
            second = operand_stays current d.holder (Number z) d.right n.1 ∙ g.second;
            fits = g.fits;
            held = put_same current.temporaries d.holder (Number z);
          }

  same_gives : (x y : ℤ) → Gives x ≡ Gives y → x ≡ y
  same_gives x y e = ap value_of e
    where
      value_of : Computed → ℤ
      value_of (Gives z) = z
      value_of (Fails n) = x

  -- the same sum is the same number
  one_sum : (d : Sum) (current : Activation) (z : ℤ) → IsAdded d current z → (h : ℕ)
      → IsSum (total d.operator h d.left d.right d.error) current → current.temporaries h ≡ Some (Number z)
  one_sum d current z g h is =
      is.held ∙ ap (λ z. Some (Number z)) (same_gives is.value z
      (sym is.fits ∙ on_both (computed d.operator d.error) lefts rights ∙ g.fits))
    where
      lefts : is.left ≡ g.left
      lefts = same_number is.left g.left (sym is.first ∙ g.first)

      rights : is.right ≡ g.right
      rights = same_number is.right g.right (sym is.second ∙ g.second)

  pub sum_kept : (facts : Facts) (d : Sum) (current : Activation) (z : ℤ) → AreHeld constants m facts current →
      IsAdded d current z
      → AreHeld constants m (after_given facts d.holder (Summed d)) (giving d.holder (Number z) current)
  sum_kept facts d current z is g =
      after_kept facts d.holder (Summed d) current (Number z) is (new_added d current z g) (one_sum d current z g)

  -- what a load gives, before it is given
  pub record IsFetched (d : Word) (current : Activation) (v : Value) : Type 0 where
    pub block : Block
    pub offset : ℕ
    pub based : base_value current d.base ≡ Some (Address block offset)
    pub loaded : load constants m block (offset + d.offset) ≡ Some v

  new_fetched : (d : Word) (current : Activation) (v : Value) → IsFetched d current v
      → IsHeld constants m (lasting (Loaded d)) (giving d.holder v current)
  new_fetched d current v g = which (word_uses d.holder d) refl
    where
      which : (b : Bool) → word_uses d.holder d ≡ b → IsHeld constants m (if b then Empty else Loaded d)
          (giving d.holder v current)
      which true e = tt
      which false e = record {
        block = g.block;
        offset = g.offset;
        value = v;
        based = base_stays current d.holder v d.base e ∙ g.based;
        loaded = g.loaded;
        held = put_same current.temporaries d.holder v;
      }

  -- the same word holds the same
  one_word : (d : Word) (current : Activation) (v : Value) → IsFetched d current v → (h : ℕ)
      → IsWord constants m (word h d.base d.offset) current → current.temporaries h ≡ Some v
  one_word d current v g h is =
      is.held ∙ sym is.loaded ∙ on_both (load constants m) blocks (ap (λ o. o + d.offset) offsets) ∙ g.loaded
    where
      address : Some (Address is.block is.offset) ≡ Some (Address g.block g.offset)
      address = sym is.based ∙ g.based

      blocks : is.block ≡ g.block
      blocks = same_block is.block g.block is.offset g.offset address

      offsets : is.offset ≡ g.offset
      offsets = same_offset is.block g.block is.offset g.offset address

  pub word_kept : (facts : Facts) (d : Word) (current : Activation) (v : Value) → AreHeld constants m facts current
      → IsFetched d current v → AreHeld constants m (after_given facts d.holder (Loaded d)) (giving d.holder v current)
  word_kept facts d current v is g =
      after_kept facts d.holder (Loaded d) current v is (new_fetched d current v g) (one_word d current v g)

-- ---- what else of an instruction stays

pub again_text : (facts : Facts) (i : Instruction) → text_of (Some (again facts i)) ≡ text_of (Some i)
again_text facts (Index t b x low high width error line) =
    which (holder_in (Pointed (component t b x low high width)) facts)
  where
    which : (o : Option ℕ) → text_of (Some (or_itself (copy_of (Pointed (component t b x low high width)) o)
        (Index t b x low high width error line)))
        ≡ text_of (Some (Index t b x low high width error line))
    which None = refl
    which (Some h) = refl
again_text facts (Arithmetic operator t a b error line) = which (holder_in (Summed (total operator t a b error)) facts)
  where
    which : (o : Option ℕ) → text_of (Some (or_itself (copy_of (Summed (total operator t a b error)) o)
        (Arithmetic operator t a b error line)))
        ≡ text_of (Some (Arithmetic operator t a b error line))
    which None = refl
    which (Some h) = refl
again_text facts (Literal _ _) = refl
again_text facts (Copy _ _) = refl
again_text facts (Bits _ _ _ _) = refl
again_text facts (Compare _ _ _ _) = refl
again_text facts (CheckRange _ _ _ _ _) = refl
again_text facts (CheckPointer _ _ _) = refl
again_text facts (Text _ _) = refl
again_text facts (Offset _ _ _ _) = refl
again_text facts (RoutineValue _ _) = refl
again_text facts (Load t b n) = which (holder_in (Loaded (word t b n)) facts)
  where
    which : (o : Option ℕ) → text_of (Some (or_itself (copy_of (Loaded (word t b n)) o) (Load t b n)))
        ≡ text_of (Some (Load t b n))
    which None = refl
    which (Some h) = refl
again_text facts (Store _ _ _) = refl
again_text facts (LoadByte _ _ _) = refl
again_text facts (StoreByte _ _ _) = refl
again_text facts (Jump _) = refl
again_text facts (JumpBack _) = refl
again_text facts (Branch _ _ _ _) = refl
again_text facts (BranchBack _ _ _ _) = refl
again_text facts (Call _ _ _ _) = refl
again_text facts (CallValue _ _ _ _) = refl
again_text facts (Return _) = refl
again_text facts (Trap _ _) = refl
again_text facts (Take _) = refl
again_text facts (Put _) = refl
again_text facts (New _ _ _) = refl
again_text facts End = refl

pub again_turns : (facts : Facts) (i : Instruction) → turns_aside (Some (again facts i)) ≡ turns_aside (Some i)
again_turns facts (Index t b x low high width error line) =
    which (holder_in (Pointed (component t b x low high width)) facts)
  where
    which : (o : Option ℕ) → turns_aside (Some (or_itself (copy_of (Pointed (component t b x low high width)) o)
        (Index t b x low high width error line)))
        ≡ turns_aside (Some (Index t b x low high width error line))
    which None = refl
    which (Some h) = refl
again_turns facts (Arithmetic operator t a b error line) = which (holder_in (Summed (total operator t a b error)) facts)
  where
    which : (o : Option ℕ) → turns_aside (Some (or_itself (copy_of (Summed (total operator t a b error)) o)
        (Arithmetic operator t a b error line)))
        ≡ turns_aside (Some (Arithmetic operator t a b error line))
    which None = refl
    which (Some h) = refl
again_turns facts (Literal _ _) = refl
again_turns facts (Copy _ _) = refl
again_turns facts (Bits _ _ _ _) = refl
again_turns facts (Compare _ _ _ _) = refl
again_turns facts (CheckRange _ _ _ _ _) = refl
again_turns facts (CheckPointer _ _ _) = refl
again_turns facts (Text _ _) = refl
again_turns facts (Offset _ _ _ _) = refl
again_turns facts (RoutineValue _ _) = refl
again_turns facts (Load t b n) = which (holder_in (Loaded (word t b n)) facts)
  where
    which : (o : Option ℕ) → turns_aside (Some (or_itself (copy_of (Loaded (word t b n)) o) (Load t b n)))
        ≡ turns_aside (Some (Load t b n))
    which None = refl
    which (Some h) = refl
again_turns facts (Store _ _ _) = refl
again_turns facts (LoadByte _ _ _) = refl
again_turns facts (StoreByte _ _ _) = refl
again_turns facts (Jump _) = refl
again_turns facts (JumpBack _) = refl
again_turns facts (Branch _ _ _ _) = refl
again_turns facts (BranchBack _ _ _ _) = refl
again_turns facts (Call _ _ _ _) = refl
again_turns facts (CallValue _ _ _ _) = refl
again_turns facts (Return _) = refl
again_turns facts (Trap _ _) = refl
again_turns facts (Take _) = refl
again_turns facts (Put _) = refl
again_turns facts (New _ _ _) = refl
again_turns facts End = refl
