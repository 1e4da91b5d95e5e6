-- An instruction that gives an address or a sum is like the one that is held, and what it is made of stays.
use Rattle.std.proofs.Common.{◌≡◌, ◌≢◌, ◌⊎◌, inl, inr, ℕ, false, nat_eq, Some, refl, sym, ap, ◌∙◌}
use Rattle.std.proofs.Common.{subst}
use Rattle.std.proofs.lemmas.Bool.{eqb-false, cases_eq, or_parts}
use Rattle.tac_code.specs.declared.code.Base.{Base}
use Rattle.tac_code.specs.declared.code.Base.TheVariants as base
use Rattle.tac_code.specs.declared.code.Operand.{Operand}
use Rattle.tac_code.specs.declared.code.Operand.TheVariants as operand
use Rattle.tac_code.specs.declared.code.Value.{Value}
use Rattle.tac_code.specs.declared.code.Value.TheVariants.{Number}
use Rattle.tac_code.specs.Memory.{Constants, Memory}
use Rattle.tac_code.specs.Meaning.{Activation, put, giving, base_value, operand_value}
use Rattle.tac_code_steps.proofs.Temporaries.{put_same, put_other}
use Rattle.tac_known.specs.declared.again.Component.{Component}
use Rattle.tac_known.specs.declared.again.Sum.{Sum}
use Rattle.tac_known.specs.declared.again.Word.{Word}
use Rattle.tac_known.specs.declared.again.Fact.{Fact}
use Rattle.tac_known.specs.declared.again.Fact.TheVariants.{Empty, Pointed, Summed, Loaded}
use Rattle.tac_known.specs.declared.again.Facts.{Facts}
use Rattle.tac_known.specs.Again.{IsComponent, IsSum, IsWord, IsHeld, AreHeld, is_of, is_operand, component_uses}
use Rattle.tac_known.specs.Again.{sum_uses, word_uses, hangs_on}

pub on_both : {A B C : Type 0} (f : A → B → C) {x y : A} {u v : B} → x ≡ y → u ≡ v → f x u ≡ f y v
on_both f {x} {y} {u} {v} e g = ap (λ x. f x u) e ∙ ap (f y) g

pub apart : (t u : ℕ) → nat_eq t u ≡ false → u ≢ t
apart t u e f = eqb-false t u e (sym f)

pub base_stays : (current : Activation) (t : ℕ) (v : Value) (b : Base) → is_of t b ≡ false → base_value
    (giving t v current) b ≡ base_value current b
base_stays current t v base.Frame e = refl
base_stays current t v base.Scratch e = refl
base_stays current t v base.Program e = refl
base_stays current t v (base.Temporary u) e = put_other current.temporaries t v u (apart t u e)

pub operand_stays : (current : Activation) (t : ℕ) (v : Value) (b : Operand) → is_operand t b ≡ false → operand_value
    (put current.temporaries t v) b ≡ operand_value current.temporaries b
operand_stays current t v (operand.Temporary u) e = put_other current.temporaries t v u (apart t u e)
operand_stays current t v (operand.Number z) e = refl

-- where what it hangs on is the same, it is held
component_like : (c : Component) (current current' : Activation)
    → base_value current' c.base ≡ base_value current c.base →
    current'.temporaries c.index ≡ current.temporaries c.index
    → current'.temporaries c.holder ≡ current.temporaries c.holder → IsComponent c current → IsComponent c current'
component_like c current current' e f g is = record {
  block = is.block;
  offset = is.offset;
  index = is.index;
  based = e ∙ is.based;
  indexed = f ∙ is.indexed;
  inside = is.inside;
  near = is.near;
  held = g ∙ is.held;
}

sum_like : (c : Sum) (current current' : Activation) → current'.temporaries c.left ≡ current.temporaries c.left
    → operand_value current'.temporaries c.right ≡ operand_value current.temporaries c.right
    → current'.temporaries c.holder ≡ current.temporaries c.holder → IsSum c current → IsSum c current'
sum_like c current current' e f g is = record {
  left = is.left;
  right = is.right;
  value = is.value;
  first = e ∙ is.first;
  second = f ∙ is.second;
  fits = is.fits;
  held = g ∙ is.held;
}

module _ (constants : Constants) (m : Memory) where
  word_like : (c : Word) (current current' : Activation) → base_value current' c.base ≡ base_value current c.base
      → current'.temporaries c.holder ≡ current.temporaries c.holder → IsWord constants m c current
      → IsWord constants m c current'
  word_like c current current' e g is = record {
    block = is.block;
    offset = is.offset;
    value = is.value;
    based = e ∙ is.based;
    loaded = is.loaded;
    held = g ∙ is.held;
  }

  pub held_like : (fact : Fact) (current current' : Activation)
      → ((u : ℕ) → current'.temporaries u ≡ current.temporaries u)
      → ((b : Base) → base_value current' b ≡ base_value current b) → IsHeld constants m fact current →
      IsHeld constants m fact current'
  held_like Empty current current' e f is = tt
  held_like (Pointed c) current current' e f is =
      component_like c current current' (f c.base) (e c.index) (e c.holder) is
  held_like (Summed c) current current' e f is = sum_like c current current' (e c.left) (by c.right) (e c.holder) is
    where
      by : (b : Operand) → operand_value current'.temporaries b ≡ operand_value current.temporaries b
      by (operand.Temporary u) = e u
      by (operand.Number z) = refl
  held_like (Loaded c) current current' e f is = word_like c current current' (f c.base) (e c.holder) is

  pub are_like : (facts : Facts) (current current' : Activation)
      → ((u : ℕ) → current'.temporaries u ≡ current.temporaries u)
      → ((b : Base) → base_value current' b ≡ base_value current b) → AreHeld constants m facts current →
      AreHeld constants m facts current'
  are_like facts current current' e f is = record {
    first = held_like facts.first current current' e f is.first;
    second = held_like facts.second current current' e f is.second;
    third = held_like facts.third current current' e f is.third;
    fourth = held_like facts.fourth current current' e f is.fourth;
    fifth = held_like facts.fifth current current' e f is.fifth;
    sixth = held_like facts.sixth current current' e f is.sixth;
    seventh = held_like facts.seventh current current' e f is.seventh;
    eighth = held_like facts.eighth current current' e f is.eighth;
    ninth = held_like facts.ninth current current' e f is.ninth;
    tenth = held_like facts.tenth current current' e f is.tenth;
    eleventh = held_like facts.eleventh current current' e f is.eleventh;
    twelfth = held_like facts.twelfth current current' e f is.twelfth;
  }

  -- another temporary was given a value
  pub other_given : (fact : Fact) (current : Activation) (t : ℕ) (v : Value) → hangs_on t fact ≡ false
      → IsHeld constants m fact current
      → IsHeld constants m fact (giving t v current)
  other_given Empty current t v e is = tt
  other_given (Pointed c) current t v e is =
      let all = or_parts (component_uses t c) (nat_eq t c.holder) e in
      let of = or_parts (is_of t c.base) (nat_eq t c.index) all.0 in
      component_like c current (giving t v current) (base_stays current t v c.base of.0)
      (put_other current.temporaries t v c.index (apart t c.index of.1))
      (put_other current.temporaries t v c.holder (apart t c.holder all.1)) is
  other_given (Summed c) current t v e is =
      let all = or_parts (sum_uses t c) (nat_eq t c.holder) e in
      let of = or_parts (nat_eq t c.left) (is_operand t c.right) all.0 in
      sum_like c current (giving t v current) (put_other current.temporaries t v c.left (apart t c.left of.0))
      (operand_stays current t v c.right of.1) (put_other current.temporaries t v c.holder (apart t c.holder all.1)) is
  other_given (Loaded c) current t v e is =
      let all = or_parts (word_uses t c) (nat_eq t c.holder) e in
      word_like c current (giving t v current) (base_stays current t v c.base all.0)
      (put_other current.temporaries t v c.holder (apart t c.holder all.1)) is

  -- a temporary was given what it held
  pub same_given : (facts : Facts) (current : Activation) (t : ℕ) (v : Value) → current.temporaries t ≡ Some v
      → AreHeld constants m facts current → AreHeld constants m facts (giving t v current)
  same_given facts current t v e is = are_like facts current (giving t v current) all based is
    where
      which : (u : ℕ) → (t ≡ u) ⊎ (t ≢ u) → put current.temporaries t v u ≡ current.temporaries u
      which u (inl f) =
          subst (λ u. put current.temporaries t v u ≡ current.temporaries u) f
          (put_same current.temporaries t v ∙ sym e)
      which u (inr ne) = put_other current.temporaries t v u (λ f. ne (sym f))

      all : (u : ℕ) → put current.temporaries t v u ≡ current.temporaries u
      all u = which u (cases_eq t u)

      based : (b : Base) → base_value (giving t v current) b ≡ base_value current b
      based base.Frame = refl
      based base.Scratch = refl
      based base.Program = refl
      based (base.Temporary u) = all u
