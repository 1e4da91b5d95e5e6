-- A table that claims less than another is claimed after it.
use Rattle.std.proofs.Common.{◌≡◌, ◌≢◌, ℕ, zero, suc, Bool, true, false, not, ◌&&◌, ◌||◌, nat_eq, List, [], ◌∷◌, length}
use Rattle.std.proofs.Common.{slice_get, Option, Some, None, refl, sym, ap, ◌∙◌, arith, eqb-true, true≢false}
use Rattle.std.proofs.lemmas.Option.{none-some}
use Rattle.std.proofs.lemmas.Bool.{and_parts}
use Rattle.tac_code.proofs.Impossible.{true_false}
use Rattle.tac_pass.specs.declared.table.Reach.{Reach}
use Rattle.tac_pass.specs.declared.table.Reach.TheVariants.{Anywhere, Within}
use Rattle.tac_pass.specs.declared.table.Known.{Known}
use Rattle.tac_pass.specs.declared.table.Word.{Word}
use Rattle.tac_pass.specs.Rules.{Forgets}
use Rattle.tac_pass.specs.Tables.{Table, points_to, unminded, or_unknown, or_unminded, place_of, word_at_place}
use Rattle.tac_pass.specs.Tables.{claim_in, is_within, holds_no_more, is_no_more, is_no_more_word, all_no_more}
use Rattle.tac_pass.specs.Tables.{is_forgetful}

-- ---- jumps

less_holder : (x y : Option ℕ) (v : ℕ) → holds_no_more x y ≡ true → y ≡ Some v → x ≡ Some v
less_holder x None v f e = absurd (none-some v e)
less_holder None (Some w) v f e = absurd (true≢false (sym f))
less_holder (Some x) (Some w) v f e = ap Some (eqb-true x w f) ∙ e

less_reach : (x y : Reach) (o : ℕ) → is_within x y ≡ true → points_to y o ≡ false → points_to x o ≡ false
less_reach x Anywhere o f e = true_false e
less_reach Anywhere (Within low high) o f e = absurd (true≢false (sym f))
less_reach (Within a b) (Within low high) o f e = grind arith

less_bool : (x y : Bool) → (y || not x) ≡ true → y ≡ false → x ≡ false
less_bool true true f e = true_false e
less_bool true false f e = absurd (true≢false (sym f))
less_bool false y f e = refl

less_known : (xs ys : List Known) → all_no_more (is_no_more) xs ys ≡ true → (u : ℕ)
    → ((v : ℕ) → (or_unknown (slice_get ys u)).holder ≡ Some v → (or_unknown (slice_get xs u)).holder ≡ Some v)
    × ((o : ℕ) → points_to (or_unknown (slice_get ys u)).reach o ≡ false → points_to
    (or_unknown (slice_get xs u)).reach o ≡ false)
less_known xs [] f u = (λ v e. absurd (none-some v e), λ o e. true_false e)
less_known [] (y ∷ ys) f u = absurd (true≢false (sym f))
less_known (x ∷ xs) (y ∷ ys) f zero =
    let g = and_parts (is_no_more x y) (all_no_more (is_no_more) xs ys) f in
    let h = and_parts (holds_no_more x.holder y.holder) (is_within x.reach y.reach) g.0 in
    (λ v e. less_holder x.holder y.holder v h.0 e, λ o e. less_reach x.reach y.reach o h.1 e)
less_known (x ∷ xs) (y ∷ ys) f (suc u) =
    less_known xs ys (and_parts (is_no_more x y) (all_no_more (is_no_more) xs ys) f).1 u

pub record LessWord (w v : Word) : Type 0 where
  pub holder : (t : ℕ) → v.value.holder ≡ Some t → w.value.holder ≡ Some t
  pub stale : v.stale ≡ false → w.stale ≡ false
  pub blank : v.blank ≡ false → w.blank ≡ false
  pub reach : (o : ℕ) → points_to v.value.reach o ≡ false → points_to w.value.reach o ≡ false

same_word : LessWord unminded unminded
same_word = record { holder = λ t e. e; stale = λ e. e; blank = λ e. e; reach = λ o e. e }

less_words : (ws vs : List Word) → length ws ≡ length vs → all_no_more (is_no_more_word) ws vs ≡ true → (i : ℕ)
    → LessWord (or_unminded (slice_get ws i)) (or_unminded (slice_get vs i))
less_words [] [] l f i = same_word
less_words [] (v ∷ vs) l f i = absurd (omega (arith, l))
less_words (w ∷ ws) [] l f i = absurd (omega (arith, l))
less_words (w ∷ ws) (v ∷ vs) l f zero =
    let g = and_parts (is_no_more_word w v) (all_no_more (is_no_more_word) ws vs) f in
    let h = and_parts (is_no_more w.value v.value) ((v.stale || not w.stale) && (v.blank || not w.blank)) g.0 in
    let k = and_parts (v.stale || not w.stale) (v.blank || not w.blank) h.1 in
    let m = and_parts (holds_no_more w.value.holder v.value.holder) (is_within w.value.reach v.value.reach) h.0 in
    record {
      holder = λ t e. less_holder w.value.holder v.value.holder t m.0 e;
      stale = λ e. less_bool w.stale v.stale k.0 e;
      blank = λ e. less_bool w.blank v.blank k.1 e;
      reach = λ o e. less_reach w.value.reach v.value.reach o m.1 e;
    }
less_words (w ∷ ws) (v ∷ vs) l f (suc i) =
    less_words ws vs (let e : length ws ≡ length vs = omega (arith, l) in e)
    (and_parts (is_no_more_word w v) (all_no_more (is_no_more_word) ws vs) f).1 i

less_place : (ws vs : List Word) → length ws ≡ length vs → all_no_more (is_no_more_word) ws vs ≡ true → (o : Option ℕ)
    → LessWord (word_at_place ws o) (word_at_place vs o)
less_place ws vs l f None = same_word
less_place ws vs l f (Some i) = less_words ws vs l f i

pub forgetful_is : (minded : List ℕ) (from to : Table) → is_forgetful from to ≡ true → Forgets (claim_in minded from)
    (claim_in minded to)
forgetful_is minded from to f =
    let a = and_parts (nat_eq (length from.temporaries) (length to.temporaries))
    (nat_eq (length from.words) (length to.words)
    && (all_no_more is_no_more from.temporaries to.temporaries && all_no_more is_no_more_word from.words to.words))
    f in
    let g = and_parts (nat_eq (length from.words) (length to.words))
    (all_no_more is_no_more from.temporaries to.temporaries && all_no_more is_no_more_word from.words to.words) a.1
    in
    let h = and_parts (all_no_more (is_no_more) from.temporaries to.temporaries)
    (all_no_more (is_no_more_word) from.words to.words) g.1 in
    let long = eqb-true (length from.words) (length to.words) g.0 in
    record {
      temporaries = λ u v e. (less_known from.temporaries to.temporaries h.0 u).0 v e;
      words = λ k v e. (less_place from.words to.words long h.1 (place_of minded k)).holder v e;
      stale = λ k e. (less_place from.words to.words long h.1 (place_of minded k)).stale e;
      blank = λ k e. (less_place from.words to.words long h.1 (place_of minded k)).blank e;
      points = λ u o e. (less_known from.temporaries to.temporaries h.0 u).1 o e;
      word_points = λ k o e. (less_place from.words to.words long h.1 (place_of minded k)).reach o e;
    }
