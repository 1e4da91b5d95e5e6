-- What a `&Marked` has: the mark's inside, which is opened with the thread's token, and a `&` to the list.
use mathlib.Core.Path.{◌≡◌, refl}
use mathlib.Core.Bool.{Bool, true}
use mathlib.Core.List.{List, [], ◌∷◌}
use Prim.Native.Nat.{ℕ, ◌+◌}
use native.Mathlib.Omega.{arith}
use seplogic.Ra.Ura.{Ura}
use mir.Syntax.{Lifetime, ty_bool}
use mir.Val.{Val, vbool}
use base.Fraction.{full_share}
use base.Logic.{ent, sep, wand, all_e, apply∗}
use base.Fml.{Lft, Share, Mask, Fml, ftrue, fsep, fat, flft, ftok}
use base.Mask.{less}
use base.Stored.{coded_unit}
use types.Logic.{Logic, sem}
use types.Kit.{Goal, Soaks, Seq, Step, step, Item, ‵, raw, ◌⊛◌, ◌$◌, ◌∵◌, ! }
use types.Kit.{qed, move, keep, drop, use1, use2, split, rewrite, fsplit, fjoin, fpick, fpack, feq_l, feq_i, done}
use denote.Builtin.{bool}
use denote.Hidden.{Hidden, Shut, hides, unhides}
use denote.Memory.{hidden_shr, shared_of, part_at, part_of, cell_at}
use denote.Opens.{unhide, hide}
use denote.Plain.{bool_Lawful}
use denote.Ref.{Bor, ShrRef, shr_vals}
use denote.RattleType.{RattleType}
use denote.Steps.{nothing}
use denote.Struct.CellSteps.{only_out, BackTo}
use denote.Struct.Members.{Member}
use denote.Struct.Struct.{Struct}
use Rattle.std.specs.contracts.cell.UnsafeCell as inner
use Rattle.ps_tree.proofs.VectorLemmas.{V}
use Rattle.ps_tree.specs.contracts.marked.Marked.{the_row as Row}

abbrev pub U : RattleType
U = inner.the_row bool

-- what a mark's inside is: a struct of one truth value. The machine knows no struct's name
abbrev In : RattleType
In = Struct (record { name = []; args = []; types = []; fields = bool ∷ [] })

abbrev field : Member
field = record { row = bool; ty = ty_bool }

abbrev pub Mark : ℕ × ℕ → Bool → Fml
Mark k t = fat full_share ty_bool k.0 k.1 (vbool t)

module _ {M : Type 1} {𝓤 : Ura M} (𝓛 : Logic 𝓤) where
  -- a `&Marked` as two: one to the mark's inside, one to the list
  pub parted : (ℓ : Lifetime) (κ : Lft) (z : Bor Row.Denot) → let b = z.ref_ptr.0 in let o = z.ref_ptr.1 in
      ent 𝓤 (sem 𝓛 ((ShrRef ℓ κ Row).own_val z (shr_vals z)))
      (sep 𝓤 (sem 𝓛 (shared_of U tt b (o + 0) κ)) (sem 𝓛 (hidden_shr V κ z.now.list b (o + 8))))
  parted ℓ κ z = let b = z.ref_ptr.0 in let o = z.ref_ptr.1 in
      let same : o + 0 + 0 ≡ o + 0 = omega arith in
      qed 𝓛 (‵ ((ShrRef ℓ κ Row).own_val z (shr_vals z)) ∷ []) ∵ fsplit ! $ drop ! $ unhide ! $ fsplit ! $ fsplit ! $
      -- [the mark's fields; their padding; the list; the padding of both]
      fsplit ! $ move ! (2 ∷ []) $ fsplit ! $ hide ! $ move ! (2 ∷ 0 ∷ []) $ fsplit ! $
      rewrite ! 0 (λ (k : ℕ). ‵ (shared_of U tt b k κ)) same refl $ keep ! (0 ∷ 2 ∷ []) $ done !

  module _ (k : ℕ × ℕ) where
    -- any mark makes an inside again
    abbrev pub Fills : Item 𝓤
    Fills = raw (BackTo 𝓛 [] [] [] field (λ t. sem 𝓛 (part_at In full_share (t, tt) k.0 k.1)) k.0 k.1)

    abbrev pub Away : Lft → Share → Mask → Item 𝓤
    Away κ q E = raw (Shut 𝓛 (Hidden In (Unit {0}) coded_unit (λ _ _. ftrue)) κ q E tt k.0 k.1)

    as_mark : (t : Bool) → ent 𝓤 (sem 𝓛 (part_at bool full_share t k.0 k.1)) (sem 𝓛 (Mark k t))
    unfolding part_of
    as_mark t = qed 𝓛 (‵ (part_at bool full_share t k.0 k.1) ∷ []) ∵ fpick ! (λ us. fsplit ! $
        move ! (1 ∷ 0 ∷ []) $ feq_l ! (λ is.
        rewrite ! 0 (λ (ws : List Val). ‵ (cell_at full_share (ty_bool ∷ []) ws k.0 k.1)) is refl $ done !))

    of_mark : (t : Bool) → ent 𝓤 (sem 𝓛 (Mark k t)) (sem 𝓛 (part_at bool full_share t k.0 k.1))
    unfolding part_of
    of_mark t = qed 𝓛 (‵ (Mark k t) ∷ []) ∵ feq_i ! (List Val) (vbool t ∷ []) _ refl $
        move ! (1 ∷ 0 ∷ []) $ fjoin ! $
        fpack ! _ (λ ws. fsep (cell_at full_share (ty_bool ∷ []) ws k.0 k.1) (bool.own_val t ws)) (vbool t ∷ []) $
        done !

module _ {M : Type 1} {𝓤 : Ura M} {𝓛 : Logic 𝓤} {G : Goal 𝓤 𝓛.H} {K : Type 0} {Γ : List (Item 𝓤)} where
  -- while a mark is open, the thread's token lacks its place
  pub opens_mark : K → Soaks G → (k : ℕ × ℕ) {κ : Lft} {q : Share} (E : Mask) → E k ≡ true
      → ((t : Bool) → Seq K 𝓛 (‵ (Mark k t) ∷ ‵ (ftok (less E k)) ∷ Fills 𝓛 k ∷ Away 𝓛 k κ q E ∷ Γ) G)
      → Seq K 𝓛 (‵ (shared_of U tt k.0 k.1 κ) ∷ ‵ (flft κ q) ∷ ‵ (ftok E) ∷ Γ) G
  unfolding part_of
  opens_mark go soaks k E has next =
      hide go $ unhides go soaks In (Unit {0}) coded_unit (λ _ _. ftrue) E tt k.0 k.1 has (λ us n.
      fjoin go $ fpack go (List Val) (λ ws. fsep (cell_at full_share In.mir ws k.0 k.1) (In.own_val n ws)) us $
      use1 𝓛 (‵ (part_at bool full_share n.0 k.0 k.1) ⊛ Fills 𝓛 k)
      (only_out 𝓛 [] [] [] field (bool_Lawful 𝓛) k.0 k.1 n.0) $ split go $
      -- [the value; how any fills the inside; nothing; the token; the way to shut it]
      move go (2 ∷ []) $ drop go $ use1 𝓛 (‵ (Mark k n.0)) (as_mark 𝓛 k n.0) $ move go (0 ∷ 2 ∷ []) $ next n.0)

  pub shuts_mark : K → Soaks G → (k : ℕ × ℕ) {κ : Lft} {q : Share} (E : Mask) (t : Bool)
      → Step K 𝓛 (‵ (flft κ q) ∷ ‵ (ftok E) ∷ Γ) G
      (‵ (Mark k t) ∷ ‵ (ftok (less E k)) ∷ Fills 𝓛 k ∷ Away 𝓛 k κ q E ∷ Γ) G
  unfolding part_of
  shuts_mark go soaks k E t = step (λ next.
      let Whole = λ (u : Bool). sem 𝓛 (part_at In full_share (u, tt) k.0 k.1) in
      let Part = λ (u : Bool). sem 𝓛 (part_at bool full_share u k.0 k.1) in
      use1 𝓛 (‵ (part_at bool full_share t k.0 k.1)) (of_mark 𝓛 k t) $ move go (2 ∷ []) $
      use1 𝓛 (raw (wand 𝓤 (Part t) (Whole t))) (all_e 𝓤 (λ u. wand 𝓤 (Part u) (Whole u)) t) $
      move go (1 ∷ 0 ∷ []) $ use2 𝓛 (‵ (part_at In full_share (t, tt) k.0 k.1)) (apply∗ 𝓤 (Part t) (Whole t)) $
      fpick go (λ us. fsplit go $
      nothing go $ move go (1 ∷ 2 ∷ 0 ∷ []) $
      hides go soaks In (Unit {0}) coded_unit (λ _ _. ftrue) E tt k.0 k.1 us (t, tt) $ next))
