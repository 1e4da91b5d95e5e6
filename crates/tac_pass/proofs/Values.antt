-- Values, operands and bases of both codes.
use Rattle.std.proofs.Common.{◌≡◌, ◌≢◌, ◌⊎◌, inl, inr, ℕ, zero, suc, ◌+◌, ◌*◌, ◌/◌, Bool, true, false, ◌&&◌, nat_eq}
use Rattle.std.proofs.Common.{nat_lt, if◌then◌else◌, List, [], ◌∷◌, length, map, slice_get, Option, Some, None, ℤ, pos}
use Rattle.std.proofs.Common.{negsuc, ◌-ℤ◌, not, ◌≤◌, arith, refl, sym, ap, ◌∙◌, eq-eqb, true≢false}
use Rattle.std.specs.Prelude.{int_lt, ◌≤ℤ◌}
use Rattle.std.proofs.lemmas.Int.{ints}
use Rattle.std.proofs.lemmas.Bool.{and_cases}
use Rattle.std.proofs.lemmas.Option.{none-some, same_Some}
use Rattle.tac_code.specs.declared.code.Block.{Block}
use Rattle.tac_code.specs.declared.code.Block.TheVariants.{Frame, Scratch, Object, Constant}
use Rattle.tac_code.specs.declared.code.Value.{Value}
use Rattle.tac_code.specs.declared.code.Value.TheVariants.{Number, Address, Routine}
use Rattle.tac_code.specs.declared.code.Operand.{Operand}
use Rattle.tac_code.specs.declared.code.Operand.TheVariants as operand
use Rattle.tac_code.specs.declared.code.Relation.{Relation}
use Rattle.tac_code.specs.declared.code.Base.{Base}
use Rattle.tac_code.specs.declared.code.Base.TheVariants as base
use Rattle.tac_code.specs.Numbers.{natural, steps_above, is_in_range}
use Rattle.tac_code.specs.Memory.{Living}
use Rattle.tac_code.specs.Meaning.{Code, Temporaries, Activation, State, open_calls, open_bytes, object_of, pointer_of}
use Rattle.tac_code.specs.Meaning.{pointers_related, related, operand_value, base_value, and_more, values_of}
use Rattle.tac_code.proofs.Numbers.{at_least}
use Rattle.tac_pass.specs.Moved.{Places, moved_block, moved, moved_word}
use Rattle.tac_pass.specs.Claims.{Claim, Certificate}
use Rattle.tac_pass.specs.Alike.{Wait, Alike}
use Rattle.tac_pass.specs.Rules.{Holds, Right, SameBase, AllHold, base_points, Misses, Sees, Elsewhere, As, Behind}
use Rattle.tac_pass.specs.Rules.{Component}
use Rattle.tac_pass.proofs.Inside.{NotThere}

-- ---- relations of numbers and pointers

block_moved : (at : Places) (block : Block) (offset : ℕ) → object_of (moved_block at block) offset
    ≡ object_of block offset
block_moved at (Frame a) offset = refl
block_moved at (Scratch a) offset = refl
block_moved at (Object n) offset = refl
block_moved at (Constant r place) offset = refl

pub pointer_moved : (at : Places) (o : Option Value) → pointer_of (moved_word at o) ≡ pointer_of o
pointer_moved at None = refl
pointer_moved at (Some (Number z)) = refl
pointer_moved at (Some (Address block offset)) = block_moved at block offset
pointer_moved at (Some (Routine r)) = refl

related_moved : (at : Places) (relation : Relation) (o w : Option Value) → related relation (moved_word at o)
    (moved_word at w) ≡ related relation o w
related_moved at relation None w = ap (pointers_related relation None) (pointer_moved at w)
related_moved at relation (Some (Number x)) None = refl
related_moved at relation (Some (Number x)) (Some (Number y)) = refl
related_moved at relation (Some (Number x)) (Some (Address block offset)) =
    ap (pointers_related relation (pointer_of (Some (Number x)))) (block_moved at block offset)
related_moved at relation (Some (Number x)) (Some (Routine r)) = refl
related_moved at relation (Some (Address block offset)) w =
    ap (λ q. pointers_related relation q (pointer_of (moved_word at w))) (block_moved at block offset)
    ∙ ap (pointers_related relation (object_of block offset)) (pointer_moved at w)
related_moved at relation (Some (Routine r)) w = ap (pointers_related relation None) (pointer_moved at w)

-- ---- which values are no address of the own frame

abbrev pub is_frame : Value → Bool
is_frame (Number z) = false
is_frame (Routine r) = false
is_frame (Address (Frame a) o) = true
is_frame (Address (Scratch a) o) = false
is_frame (Address (Object n) o) = false
is_frame (Address (Constant r place) o) = false

abbrev pub block_of : Value → Block
block_of (Number z) = Object 0
block_of (Address block o) = block
block_of (Routine r) = Object 0

abbrev pub offset_of : Value → ℕ
offset_of (Number z) = 0
offset_of (Address block o) = o
offset_of (Routine r) = 0

abbrev pub number_in : Block → ℕ
number_in (Frame a) = a
number_in (Scratch a) = a
number_in (Object n) = n
number_in (Constant r place) = r

pub elsewhere : (number : ℕ) (v : Value) → is_frame v ≡ false → NotThere number Elsewhere v
elsewhere number v f o _ is = true≢false (sym (ap is_frame is) ∙ f)

pub not_frame : (number o : ℕ) (v : Value) → is_frame v ≡ false → Some v ≢ Some (Address (Frame number) o)
not_frame number o v f is = elsewhere number v f o tt (same_Some v (Address (Frame number) o) is)

-- a pointer to an object is none
pub pointer_away : (number o : ℕ) (w : Option Value) (n : Option ℕ) → pointer_of w ≡ Some n → w ≢ Some
    (Address (Frame number) o)
pointer_away number o w n f is = none-some n (ap pointer_of (sym is) ∙ f)

-- ---- operands and bases

module _ (e : Certificate) {c : Claim} {s s' : State} (a : Alike e c s s') where
  pub hold : (u t : ℕ) → Holds c u t → s'.current.temporaries t ≡ moved_word e.stands (s.current.temporaries u)
  hold u t h = a.inside.hold u t h

  pub hold_value : (u t : ℕ) (v : Value) → Holds c u t → s.current.temporaries u ≡ Some v → s'.current.temporaries t
      ≡ Some (moved e.stands v)
  hold_value u t v h is = a.inside.hold u t h ∙ ap (moved_word e.stands) is

  pub right : (b b' : Operand) → Right c b b' → operand_value s'.current.temporaries b' ≡ moved_word e.stands
      (operand_value s.current.temporaries b)
  right (operand.Temporary u) b' (v, f, h) = ap (operand_value s'.current.temporaries) f ∙ a.inside.hold u v h
  right (operand.Number z) b' f = ap (operand_value s'.current.temporaries) f

  pub right_number : (b b' : Operand) (y : ℤ) → Right c b b' → operand_value s.current.temporaries b ≡ Some (Number y)
      → operand_value s'.current.temporaries b' ≡ Some (Number y)
  right_number b b' y h is = right b b' h ∙ ap (moved_word e.stands) is

  pub related_there : (relation : Relation) (u v : ℕ) (b b' : Operand) → Holds c u v → Right c b b'
      → related relation (s'.current.temporaries v) (operand_value s'.current.temporaries b') ≡ related relation
      (s.current.temporaries u) (operand_value s.current.temporaries b)
  related_there relation u v b b' h r =
      ap (λ o. related relation o (operand_value s'.current.temporaries b')) (a.inside.hold u v h)
      ∙ ap (related relation (moved_word e.stands (s.current.temporaries u))) (right b b' r)
      ∙ related_moved e.stands relation (s.current.temporaries u) (operand_value s.current.temporaries b)

  pub base_there : (b b' : Base) → SameBase c b b' → base_value s'.current b' ≡ moved_word e.stands
      (base_value s.current b)
  base_there base.Frame b' f =
      ap (base_value s'.current) f ∙ ap (λ n. Some (Address (Frame n) 0)) a.outside.call.number
  base_there base.Scratch b' f =
      ap (base_value s'.current) f ∙ ap (λ n. Some (Address (Scratch n) 0)) a.outside.call.number
  base_there base.Program b' f = ap (base_value s'.current) f
  base_there (base.Temporary u) b' (v, f, h) = ap (base_value s'.current) f ∙ a.inside.hold u v h

  pub base_away : (b : Base) (o : ℕ) → base_points s.current.routine c b o ≡ false → base_value s.current b ≢ Some
      (Address (Frame s.current.number) o)
  base_away base.Frame o f is =
      true≢false (sym (eq-eqb o 0 (sym (ap offset_of
      (same_Some (Address (Frame s.current.number) 0) (Address (Frame s.current.number) o) is)))) ∙ f)
  base_away base.Scratch o f is = not_frame s.current.number o (Address (Scratch s.current.number) 0) refl is
  base_away base.Program o f is = which (and_cases (nat_eq s.current.routine 0) (nat_eq o 0) f)
    where
      same : Address (Frame 0) 0 ≡ Address (Frame s.current.number) o
      same = same_Some (Address (Frame 0) 0) (Address (Frame s.current.number) o) is

      which : (nat_eq s.current.routine 0 ≡ false) ⊎ (nat_eq o 0 ≡ false) → ⊥
      which (inl f) =
          true≢false (sym (eq-eqb s.current.routine 0
          (a.outside.call.first (sym (ap (λ v. number_in (block_of v)) same)))) ∙ f)
      which (inr f) = true≢false (sym (eq-eqb o 0 (sym (ap offset_of same))) ∙ f)
  base_away (base.Temporary u) o f is = a.inside.away u o f is

  -- the own frame is hit where the base points to it
  pub hits : (b : Base) (block : Block) (o n : ℕ) → base_value s.current b ≡ Some (Address block o) → block
      ≡ Frame s.current.number → Misses s.current.routine c b n ((o + n) / 4) → ⊥
  hits b block o n is own misses = base_away b o (misses o refl) (is ∙ ap (λ x. Some (Address x o)) own)

  pub sees : (b : Base) (block : Block) (o n : ℕ) → Sees s.current.routine c b n → base_value s.current b ≡ Some
      (Address block o) → block ≡ Frame s.current.number → c.stale ((o + n) / 4) ≡ false
  sees b block o n h is own = which (h ((o + n) / 4))
    where
      which : Misses s.current.routine c b n ((o + n) / 4) ⊎ (c.stale ((o + n) / 4) ≡ false) → c.stale ((o + n) / 4)
          ≡ false
      which (inl x) = absurd (hits b block o n is own x)
      which (inr x) = x

  pub behind_away : (b : Base) (block : Block) (o n : ℕ) → base_value s.current b ≡ Some (Address block o)
      → NotThere s.current.number (Behind s.current.routine c b n) (Address block (o + n))
  behind_away b block o n is o2 away same =
      base_away b o (away o (ap offset_of same)) (is ∙ ap (λ x. Some (Address x o)) (ap block_of same))

  pub component_away : (b : Base) (block : Block) (o steps width most : ℕ) → steps ≤ most → base_value s.current b
      ≡ Some (Address block o) → NotThere s.current.number (Component s.current.routine c b width most)
      (Address block (o + steps * width))
  component_away b block o steps width most within is o2 away same =
      base_away b o (away o steps within (ap offset_of same)) (is ∙ ap (λ x. Some (Address x o)) (ap block_of same))

  pub copied_away : (u : ℕ) (v : Value) → s.current.temporaries u ≡ Some v → NotThere s.current.number (As c u) v
  copied_away u v is o away same = a.inside.away u o away (is ∙ ap Some same)

-- ---- how far a component lies behind the first

natural_is : (z : ℤ) → pos 0 ≤ℤ z → pos (natural z) ≡ z
natural_is (pos n) h = refl
natural_is (negsuc n) h = omega (arith, ints, h)

pub steps_within : (low x high : ℤ) → is_in_range low high x ≡ true → steps_above low x ≤ steps_above low high
steps_within low x high f = which (int_lt x low) (int_lt high x) refl refl f
  where
    which : (a b : Bool) → int_lt x low ≡ a → int_lt high x ≡ b → (not a && not b) ≡ true
        → steps_above low x ≤ steps_above low high
    which true b ea eb f = absurd (true≢false (sym f))
    which false true ea eb f = absurd (true≢false (sym f))
    which false false ea eb f =
        let g = at_least low x ea in
        let h = at_least x high eb in
        let m = natural_is (x -ℤ low) (omega (arith, ints, g)) in
        let n = natural_is (high -ℤ low) (omega (arith, ints, g, h)) in
        omega (arith, ints, g, h, m, n)

-- ---- what a call passes

abbrev pub moved_list : Places → List Value → List Value
moved_list at vs = map (moved at) vs

pub length_moved : (at : Places) (vs : List Value) → length (moved_list at vs) ≡ length vs
length_moved at [] = refl
length_moved at (v ∷ vs) = ap suc (length_moved at vs)

pub get_moved : (at : Places) (vs : List Value) (k : ℕ) → slice_get (moved_list at vs) k ≡ moved_word at
    (slice_get vs k)
get_moved at [] k = refl
get_moved at (v ∷ vs) zero = refl
get_moved at (v ∷ vs) (suc k) = get_moved at vs k

and_more_moved : (at : Places) (v : Value) (o : Option (List Value)) (vs : List Value) → and_more (Some v) o ≡ Some vs
    → (ws : List Value) × (o ≡ Some ws) × (vs ≡ v ∷ ws)
and_more_moved at v None vs f = absurd (none-some vs f)
and_more_moved at v (Some ws) vs f = (ws, refl, sym (same_Some (v ∷ ws) vs f))

pub values_there : (at : Places) (c : Claim) (old new : Temporaries)
    → ((u t : ℕ) → c.temporaries u ≡ Some t → new t ≡ moved_word at (old u)) → (us ts : List ℕ) (vs : List Value)
    → AllHold c us ts → values_of old us ≡ Some vs
    → values_of new ts ≡ Some (moved_list at vs)
values_there at c old new holds [] [] vs h f = ap (λ vs. Some (moved_list at vs)) (same_Some [] vs f)
values_there at c old new holds [] (_ ∷ _) vs h f = absurd h
values_there at c old new holds (_ ∷ _) [] vs h f = absurd h
values_there at c old new holds (u ∷ us) (t ∷ ts) vs h f = which (values_there at c old new holds us ts) (old u) refl f
  where
    which : ((vs : List Value) → AllHold c us ts → values_of old us ≡ Some vs → values_of new ts ≡ Some
        (moved_list at vs)) → (o : Option Value) → old u ≡ o → and_more o (values_of old us) ≡ Some vs → and_more
        (new t) (values_of new ts) ≡ Some (moved_list at vs)
    which again None is f = absurd (none-some vs f)
    which again (Some v) is f =
        let x = and_more_moved at v (values_of old us) vs f in
        ap (λ o. and_more o (values_of new ts)) (holds u t h.0 ∙ ap (moved_word at) is)
        ∙ ap (and_more (Some (moved at v))) (again x.0 h.1 x.1)
        ∙ ap (λ vs. Some (moved_list at vs)) (sym x.2)

-- ---- the callers

module _ (e : Certificate) where
  pub open_alike : (program result result' : ℕ) (a b : Activation) (cs ds : List Activation) (fs : List Living)
      → b.routine ≡ a.routine → b.line ≡ a.line → Wait e result result' cs ds fs → open_calls program b ds
      ≡ open_calls program a cs
  open_alike program result result' a b [] [] [] r l w = refl
  open_alike program result result' a b [] [] (f ∷ fs) r l w = absurd w
  open_alike program result result' a b [] (d ∷ ds) fs r l w = absurd w
  open_alike program result result' a b (c ∷ cs) [] fs r l w = absurd w
  open_alike program result result' a b (c ∷ cs) (d ∷ ds) [] r l w = absurd w
  open_alike program result result' a b (c ∷ cs) (d ∷ ds) (f ∷ fs) r l w =
      ap (λ x. if nat_lt x program then b.line ∷ open_calls program d ds else open_calls program d ds) r
      ∙ ap (λ x. if nat_lt a.routine program then x ∷ open_calls program d ds else open_calls program d ds) l
      ∙ ap (λ x. if nat_lt a.routine program then a.line ∷ x else x)
      (open_alike program c.result d.result c d cs ds fs w.0.call.routine w.0.call.line w.1)

  pub bytes_alike : (old new : Code) (F : ℕ → ℕ) → length new.program ≡ length old.program → (result result' : ℕ)
      (cs ds : List Activation) (fs : List Living) → Wait e result result' cs ds fs → open_bytes new F ds
      ≡ open_bytes old F cs
  bytes_alike old new F count result result' [] [] [] w = refl
  bytes_alike old new F count result result' [] [] (f ∷ fs) w = absurd w
  bytes_alike old new F count result result' [] (d ∷ ds) fs w = absurd w
  bytes_alike old new F count result result' (c ∷ cs) [] fs w = absurd w
  bytes_alike old new F count result result' (c ∷ cs) (d ∷ ds) [] w = absurd w
  bytes_alike old new F count result result' (c ∷ cs) (d ∷ ds) (f ∷ fs) w =
      ap (λ n. (if nat_lt d.routine n then F d.routine else 0) + open_bytes new F ds) count
      ∙ ap (λ r. (if nat_lt r (length old.program) then F r else 0) + open_bytes new F ds) w.0.call.routine
      ∙ ap (λ n. (if nat_lt c.routine (length old.program) then F c.routine else 0) + n)
      (bytes_alike old new F count c.result d.result cs ds fs w.1)
