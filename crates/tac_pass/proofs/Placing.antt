-- One place of a walk, from its parts.
use Rattle.std.proofs.Common.{◌≡◌, ◌⊎◌, inl, inr, ℕ, suc, ◌+◌, ◌++◌, true, false, not, ◌&&◌, ◌||◌, nat_eq, nat_lt}
use Rattle.std.proofs.Common.{Bool, arith, List, [], ◌∷◌, length, slice_get, Option, Some, None, IfSome, refl, sym}
use Rattle.std.proofs.Common.{◌∙◌, subst, ap, true≢false}
use Rattle.std.proofs.lemmas.Bool.{and_from, or_right, not_from_false}
use Rattle.std.proofs.lemmas.Option.{none-some, same_Some}
use Rattle.tac_code.specs.declared.code.Instruction.{Instruction}
use Rattle.tac_code.proofs.Numbers.{eq_same}
use Rattle.tac_pass.specs.declared.plan.Put.{Put}
use Rattle.tac_pass.specs.declared.plan.Step.{Step}
use Rattle.tac_pass.specs.declared.table.Reach.{Reach}
use Rattle.tac_pass.specs.declared.table.Reach.TheVariants.{Anywhere, Within}
use Rattle.tac_pass.specs.declared.table.Known.{Known}
use Rattle.tac_pass.specs.declared.table.Word.{Word}
use Rattle.tac_pass.specs.Tables.{Table, is_no_more, is_no_more_word, is_within, holds_no_more, all_no_more}
use Rattle.tac_pass.specs.Tables.{is_forgetful}
use Rattle.tac_pass.specs.Acts.{kept, ending, spared, moved_word}
use Rattle.tac_pass.specs.Walk.{IsMade, join_at, Joins, turned, is_branch, GoesOn, puts_of, puts_at, put_in, ArePutIn}
use Rattle.tac_pass.specs.Walk.{spot, Becomes, Steps}

module _ (r : ℕ) (minded : List ℕ) (steps : List Step) (starts : List ℕ) (place : ℕ) (i : Instruction)
    (from to : Table) where
  pub left_out_becomes : (left : Table) (out : List Instruction) → spared r minded from i ≡ Some left
      → GoesOn steps starts place left to (length out) → Becomes r minded steps starts place i (spot from out)
      (spot to out)
  left_out_becomes left out e g = inl (record { left = left; spared = e; same = refl; goes = g })

  module _ (out out' : List Instruction) (new_one : Instruction) (pushed : out' ≡ out ++ new_one ∷ []) where
    pub made_becomes : (holder : ℕ) (left : Table) → IsMade (kept r minded from holder i) new_one left ⊎ IsMade
        (moved_word r minded from holder i) new_one left → GoesOn steps starts place left to (length out')
        → Becomes r minded steps starts place i (spot from out) (spot to out')
    made_becomes holder left made g =
        inr (inl (record { holder = holder; new_one = new_one; left = left; made = made; pushed = pushed; goes = g }))

    pub jumped_becomes : turned steps starts from place (length out) i ≡ Some new_one → is_branch i ≡ false
        → Joins steps (suc place) to → Becomes r minded steps starts place i (spot from out) (spot to out')
    jumped_becomes e b j =
        inr (inr (inl (record {
          new_one = new_one;
          turned = e;
          pushed = pushed;
          falls = λ f. absurd (true≢false (sym f ∙ b));
          joins = j;
        })))

    pub branched_becomes : turned steps starts from place (length out) i ≡ Some new_one
        → GoesOn steps starts place from to (length out') → Becomes r minded steps starts place i (spot from out)
        (spot to out')
    branched_becomes e g =
        inr (inr (inl (record { new_one = new_one; turned = e; pushed = pushed; falls = λ f. g; joins = g.joins })))

    pub ended_becomes : ending r minded from i ≡ Some new_one → Joins steps (suc place) to
        → Becomes r minded steps starts place i (spot from out) (spot to out')
    ended_becomes e j =
        inr (inr (inr (record { new_one = new_one; ended = e; pushed = pushed; joins = j })))

-- what is planned for a place
pub planned : (steps : List Step) (place : ℕ) (step : Step) → slice_get steps place ≡ Some step → puts_at steps place
    ≡ length step.puts.items
planned steps place step e = ap puts_of e

pub steps_is : (r : ℕ) (minded : List ℕ) (steps : List Step) (starts : List ℕ) (place : ℕ) (i : Instruction)
    (step : Step) (from to behind : Table) (out out' out'' : List Instruction) → slice_get starts place ≡ Some
    (length out) → slice_get steps place ≡ Some step → ArePutIn r minded from out (length step.puts.items) behind out'
    → Becomes r minded steps starts place i (spot behind out') (spot to out'') → Steps r minded steps starts place i
    (spot from out) (spot to out'')
steps_is r minded steps starts place i step from to behind out out' out'' s e puts b = record {
  behind = spot behind out';
  starts_here = s;
  puts = subst (λ (n : ℕ). ArePutIn r minded from out n behind out') (sym (planned steps place step e)) puts;
  becomes = b;
}

-- what holds of some value holds of the one that it is
pub if_some : {A : Type 0} (P : A → Type 0) (o : Option A) (a : A) → o ≡ Some a → IfSome o P → P a
if_some P o a e h = subst (λ x. IfSome x P) e h

pub some_on : {A : Type 0} (P Q : A → Type 0) (o : Option A) → ((a : A) → P a → Q a) → IfSome o P → IfSome o Q
some_on P Q None f h = h
some_on P Q (Some a) f h = f a h

-- one more is put in
pub put_more : (r : ℕ) (minded : List ℕ) (from : Table) (out : List Instruction) (n : ℕ) (t t' : Table)
    (o o' : List Instruction) (put : Put) (i : Instruction) → ArePutIn r minded from out n t o → IsMade
    (put_in r minded put t) i t' → o' ≡ o ++ i ∷ [] → ArePutIn r minded from out (n + 1) t' o'
put_more r minded from out n t t' o o' put i a m e =
    let one : suc n ≡ n + 1 = omega arith in
    subst (λ (k : ℕ). ArePutIn r minded from out k t' o') one (put, i, t, o, a, m, e)

lt_self : (n : ℕ) → nat_lt n n ≡ false
lt_self n = grind arith

holds_itself : (o : Option ℕ) → holds_no_more o o ≡ true
holds_itself None = refl
holds_itself (Some v) = eq_same v

or_not : (a : Bool) → (a || not a) ≡ true
or_not true = refl
or_not false = refl

within_itself : (x : Reach) → is_within x x ≡ true
within_itself Anywhere = refl
within_itself (Within low high) =
    or_right (not (nat_lt low high)) (not (nat_lt low low) && not (nat_lt high high))
    (and_from (not (nat_lt low low)) (not (nat_lt high high)) (not_from_false (nat_lt low low) (lt_self low))
    (not_from_false (nat_lt high high) (lt_self high)))

known_itself : (x : Known) → is_no_more x x ≡ true
known_itself x =
    and_from (holds_no_more x.holder x.holder) (is_within x.reach x.reach) (holds_itself x.holder)
    (within_itself x.reach)

word_itself : (w : Word) → is_no_more_word w w ≡ true
word_itself w =
    and_from (is_no_more w.value w.value) ((w.stale || not w.stale) && (w.blank || not w.blank)) (known_itself w.value)
    (and_from (w.stale || not w.stale) (w.blank || not w.blank) (or_not w.stale) (or_not w.blank))

all_itself : {X : Type 0} (less : X → X → Bool) → ((x : X) → less x x ≡ true) → (xs : List X) → all_no_more less xs xs
    ≡ true
all_itself less each [] = refl
all_itself less each (x ∷ xs) = and_from (less x x) (all_no_more less xs xs) (each x) (all_itself less each xs)

pub forgetful_itself : (t : Table) → is_forgetful t t ≡ true
forgetful_itself t =
    and_from (nat_eq (length t.temporaries) (length t.temporaries))
    (nat_eq (length t.words) (length t.words)
    && (all_no_more is_no_more t.temporaries t.temporaries && all_no_more is_no_more_word t.words t.words))
    (eq_same (length t.temporaries)) (and_from (nat_eq (length t.words) (length t.words))
    (all_no_more is_no_more t.temporaries t.temporaries && all_no_more is_no_more_word t.words t.words)
    (eq_same (length t.words)) (and_from (all_no_more is_no_more t.temporaries t.temporaries)
    (all_no_more is_no_more_word t.words t.words) (all_itself is_no_more known_itself t.temporaries)
    (all_itself is_no_more_word word_itself t.words)))

-- where the plan claims something, and where it doesn't
pub joins_some : (steps : List Step) (place : ℕ) (claimed table : Table) → join_at steps place ≡ Some claimed → table
    ≡ claimed → Joins steps place table
joins_some steps place claimed table e is other f = is ∙ same_Some claimed other (sym e ∙ f)

pub joins_none : (steps : List Step) (place : ℕ) (table : Table) → join_at steps place ≡ None → Joins steps place table
joins_none steps place table e other f = absurd (none-some other (sym e ∙ f))
