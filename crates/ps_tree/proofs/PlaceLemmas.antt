-- Two views of one place see one value: a word, a pointer, and a list of numbers.
use mathlib.Core.Path.{◌≡◌, refl, sym, ap, ◌∙◌}
use mathlib.Core.List.{List, [], ◌∷◌}
use Prim.Native.Nat.{ℕ, ◌+◌}
use lib.ListN.{length}
use seplogic.Ra.Ura.{Ura}
use mir.Syntax.{Ty, Width, w32, ty_int, ty_ptr}
use mir.Val.{Val, vint, as_int}
use base.Logic.{ent, sep, via, mono∗, guard, guard_i}
use base.Fml.{Share, Lft, Fml, fhide, flft}
use prog.Model.{Model}
use types.Logic.{Logic, sem}
use types.Share.{parts}
use types.Kit.{‵, ◌⊛◌, given, ◌$◌, ◌∵◌, !, qed, by, keep, move, use1, use2, split, learn, fsplit, updating, now, check}
use types.Kit.{done}
use contract.Monad.{fact, fact_i, fact_mono, fact_use, sep→conj}
use denote.Copied.{told_out}
use denote.Memory.{part_at, cell_at, mem, shares}
use denote.Opens.{Opened, shr_open, shr_Shut}
use denote.Plain.{UInt, uint_out}
use denote.RawPtr.{Ptr, RawPtr, ptr_val, of_val, val_back, rawptr_vals, rawptr_Tells}

abbrev number : Val → ℕ
number v = as_int 0 v (λ _ n. n)

abbrev rest_of : List ℕ → List ℕ
rest_of [] = []
rest_of (x ∷ xs) = xs

module _ {M : Type 1} {𝓤 : Ura M} (𝓛 : Logic 𝓤) (𝓜 : Model 𝓤 𝓛.H) where
  open 𝓛 use {H, A}

  at_same : (q r : Share) (τ : Ty) (b o : ℕ) (v w : Val) → ent 𝓤 (sep 𝓤 (H.at q τ b o v) (H.at r τ b o w))
      (fact 𝓤 (v ≡ w))
  at_same q r τ b o v w = via 𝓤 _ (sep→conj 𝓤 _ _) (𝓜.at_agree q r τ b o v w)

  pub word_same : (w : Width) (q r : Share) (m n b o : ℕ) → ent 𝓤
      (sep 𝓤 (sem 𝓛 (part_at (UInt w) q m b o)) (sem 𝓛 (part_at (UInt w) r n b o))) (fact 𝓤 (m ≡ n))
  word_same w q r m n b o = via 𝓤 _ (mono∗ 𝓤 (uint_out 𝓛 q w m b o) (uint_out 𝓛 r w n b o))
      (via 𝓤 _ (at_same q r (ty_int w) b o (vint w m) (vint w n)) (fact_mono 𝓤 _ _ (ap number)))

  pointer_at : (q : Share) (p : Ptr) (b o : ℕ) → ent 𝓤 (sem 𝓛 (part_at RawPtr q p b o)) (H.at q ty_ptr b o (ptr_val p))
  pointer_at q p b o = qed 𝓛 (‵ (part_at RawPtr q p b o) ∷ []) ∵ use1 𝓛
      (‵ (cell_at q RawPtr.mir (rawptr_vals p) b o) ⊛ ‵ (RawPtr.own_val p (rawptr_vals p)))
      (told_out 𝓛 RawPtr rawptr_vals rawptr_Tells q p b o) $ split ! $ keep ! (0 ∷ []) $ done !

  pub pointer_same : (q r : Share) (p s : Ptr) (b o : ℕ) → ent 𝓤
      (sep 𝓤 (sem 𝓛 (part_at RawPtr q p b o)) (sem 𝓛 (part_at RawPtr r s b o))) (fact 𝓤 (p ≡ s))
  pointer_same q r p s b o = via 𝓤 _ (mono∗ 𝓤 (pointer_at q p b o) (pointer_at r s b o))
      (via 𝓤 _ (at_same q r ty_ptr b o (ptr_val p) (ptr_val s))
      (fact_mono 𝓤 _ _ (λ e. sym (val_back p) ∙ ap of_val e ∙ val_back s)))

  abbrev pub Numbers : Share → List ℕ → ℕ → ℕ → Fml
  Numbers q xs b o = parts (mem (UInt w32)) (shares (UInt w32)) q xs b o

  pub numbers_same : (q r : Share) (xs ys : List ℕ) → length xs ≡ length ys → (b o : ℕ) →
      ent 𝓤 (sep 𝓤 (sem 𝓛 (Numbers q xs b o)) (sem 𝓛 (Numbers r ys b o))) (fact 𝓤 (xs ≡ ys))
  numbers_same q r [] [] e b o = fact_i 𝓤 _ _ refl
  numbers_same q r [] (y ∷ ys) e b o = cc
  numbers_same q r (x ∷ xs) [] e b o = cc
  numbers_same q r (x ∷ xs) (y ∷ ys) e b o =
      let shorter : length xs ≡ length ys = cc in
      let heads : ent 𝓤 (sep 𝓤 (sem 𝓛 (Numbers q (x ∷ xs) b o)) (sem 𝓛 (Numbers r (y ∷ ys) b o))) (fact 𝓤 (x ≡ y)) =
      qed 𝓛 (‵ (Numbers q (x ∷ xs) b o) ∷ ‵ (Numbers r (y ∷ ys) b o) ∷ []) ∵ fsplit ! $ move !
      (2 ∷ []) $ fsplit ! $ keep ! (2 ∷ 0 ∷ []) $ by ! (word_same w32 q r x y b o) in
      let tails : ent 𝓤 (sep 𝓤 (sem 𝓛 (Numbers q (x ∷ xs) b o)) (sem 𝓛 (Numbers r (y ∷ ys) b o))) (fact 𝓤 (xs ≡ ys)) =
      qed 𝓛 (‵ (Numbers q (x ∷ xs) b o) ∷ ‵ (Numbers r (y ∷ ys) b o) ∷ []) ∵ fsplit ! $ move !
      (2 ∷ []) $ fsplit ! $ keep ! (3 ∷ 1 ∷ []) $ by ! (numbers_same q r xs ys shorter b (o + 4)) in
      fact_use 𝓤 (x ≡ y) heads (λ h. fact_use 𝓤 (xs ≡ ys) tails (λ t. fact_i 𝓤 _ _ (λ i. h i ∷ t i)))

  -- two `&` are opened at once, what both see shows a fact, and they are shut again
  module _ (Φ Ψ : Share → Fml) (s t : Lft → Fml) (φ : Type 0) (op₁ : Opened 𝓛 Φ s) (op₂ : Opened 𝓛 Ψ t)
      (agree : (q r : Share) → ent 𝓤 (sep 𝓤 (sem 𝓛 (Φ q)) (sem 𝓛 (Ψ r))) (fact 𝓤 φ)) (κ μ : Lft) (q r : Share) where
    pub both_seen : ent 𝓤 (sep 𝓤 (sem 𝓛 (fhide (s κ))) (sep 𝓤 (A.lft κ q) (sep 𝓤 (sem 𝓛 (fhide (t μ))) (A.lft μ r))))
        (H.⇛ (guard 𝓤 φ (sep 𝓤 (A.lft κ q) (A.lft μ r))))
    both_seen = qed 𝓛 (‵ (fhide (s κ)) ∷ ‵ (flft κ q) ∷ ‵ (fhide (t μ)) ∷ ‵ (flft μ r) ∷ []) ∵ updating ! $ shr_open !
        tt Φ s op₁ (λ q'.
        move ! (2 ∷ 3 ∷ []) $ shr_open ! tt Ψ t op₂ (λ r'.
        -- [the second's way back; what it sees; the first's way back; what it sees]
        move ! (3 ∷ 1 ∷ []) $ use2 𝓛 (given φ (‵ (Φ q') ⊛ ‵ (Ψ r')))
        (fact_use 𝓤 φ (agree q' r') (λ e. guard_i 𝓤 φ _ e)) $ learn ! (λ e. split ! $
        move ! (2 ∷ 1 ∷ []) $ shr_Shut ! tt $ move ! (2 ∷ 1 ∷ []) $ shr_Shut ! tt $ now ! $ check ! e $ done !)))
