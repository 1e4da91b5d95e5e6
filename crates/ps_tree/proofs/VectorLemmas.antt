-- Two references to one `Vec<u32>` see one list.
use mathlib.Core.Path.{◌≡◌, refl, sym, ◌∙◌}
use mathlib.Core.List.{List, [], ◌∷◌}
use Prim.Native.Nat.{ℕ, ◌+◌}
use seplogic.Ra.Ura.{Ura}
use mir.Syntax.{w32, w64, ty_ptr}
use base.Logic.{ent, sep, guard}
use base.Fml.{Share, Lft, Fml, fhide, flft}
use prog.Model.{Model}
use types.Logic.{Logic, sem}
use types.Kit.{‵, ◌⊛◌, given, later, ◌$◌, ◌∵◌, !, qed, keep, move, drop, group, use1, split, split3, await, learn}
use types.Kit.{rewrite, fsplit, updating, now, check, done}
use denote.Builtin.{u32, usize}
use denote.Copied.{plain_Copied, uint_Copied, each_opens}
use denote.Memory.{hidden_shr, shared_of, each_shared, part_at}
use denote.Opens.{unhide, hide}
use denote.Plain.{UInt}
use denote.RattleType.{RattleType}
use denote.RawPtr.{Ptr, RawPtr, coded_ptr, ptr_own, rawptr_pure, ptr_val, block_of, count_of}
use denote.Struct.Laws.{RawPtr-laws}
use Rattle.std.specs.contracts.alloc.Global as global
use Rattle.std.specs.contracts.impls.GlobalAllocator.TheImpl.{ghosts}
use Rattle.std.specs.contracts.vec.Vec as vec
use Rattle.ps_tree.proofs.PlaceLemmas.{word_same, pointer_same, numbers_same, both_seen, Numbers}

abbrev pub V : RattleType
V = vec.the_row u32 global.the_row ghosts

abbrev Seen : (xs : List ℕ) → Ptr → Lft → Fml
Seen xs p = each_shared xs (shared_of u32) 4 (block_of p) (count_of p)

module _ {M : Type 1} {𝓤 : Ura M} (𝓛 : Logic 𝓤) where
  open 𝓛 use {H, A}

  -- what a `&` to it holds: its pointer, its length and its items
  vec_apart : (κ : Lft) (x : V.Denot) (b o : ℕ) → ent 𝓤 (sem 𝓛 (hidden_shr V κ x b o))
      (sep 𝓤 (sem 𝓛 (hidden_shr RawPtr κ x.ptr b (o + 0))) (sep 𝓤 (sem 𝓛 (hidden_shr usize κ x.len b (o + 8)))
      (sem 𝓛 (fhide (Seen x.items x.ptr κ)))))
  vec_apart κ x b o = qed 𝓛 (‵ (hidden_shr V κ x b o) ∷ []) ∵ unhide ! $ fsplit ! $ fsplit ! $ fsplit ! $ hide ! $ move
      ! (1 ∷ []) $ fsplit ! $ hide ! $
      -- [the length; other fields; the pointer; what is left; the items]
      move ! (4 ∷ []) $ fsplit ! $ drop ! $ fsplit ! $ drop ! $ fsplit ! $ drop ! $ hide ! $ keep !
      (3 ∷ 1 ∷ 0 ∷ []) $ done !

  module _ (𝓜 : Model 𝓤 𝓛.H) (κ μ : Lft) (q r : Share) (x y : V.Denot) (b o : ℕ) where
    pub vec_same : ent 𝓤 (sep 𝓤 (sem 𝓛 (hidden_shr V κ x b o))
        (sep 𝓤 (A.lft κ q) (sep 𝓤 (sem 𝓛 (hidden_shr V μ y b o)) (A.lft μ r))))
        (H.⇛ (guard 𝓤 (x.items ≡ y.items) (sep 𝓤 (A.lft κ q) (A.lft μ r))))
    vec_same =
        qed 𝓛 (‵ (hidden_shr V κ x b o) ∷ ‵ (flft κ q) ∷ ‵ (hidden_shr V μ y b o) ∷ ‵ (flft μ r) ∷ []) ∵ updating ! $
        use1 𝓛 (‵ (hidden_shr RawPtr κ x.ptr b (o + 0)) ⊛ ‵ (hidden_shr usize κ x.len b (o + 8))
        ⊛ ‵ (fhide (Seen x.items x.ptr κ))) (vec_apart κ x b o) $ split3 ! $ move ! (4 ∷ []) $
        use1 𝓛 (‵ (hidden_shr RawPtr μ y.ptr b (o + 0)) ⊛ ‵ (hidden_shr usize μ y.len b (o + 8))
        ⊛ ‵ (fhide (Seen y.items y.ptr μ))) (vec_apart μ y b o) $ split3 ! $
        -- [y's pointer, length and items; x's pointer, length and items; the token of κ; that of μ]
        move ! (3 ∷ 6 ∷ 0 ∷ 7 ∷ []) $ group ! 4 $ use1 𝓛 (later (given (x.ptr ≡ y.ptr) (‵ (flft κ q) ⊛ ‵ (flft μ r))))
        (both_seen 𝓛 𝓜 (λ s. part_at RawPtr s x.ptr b (o + 0)) (λ s. part_at RawPtr s y.ptr b (o + 0))
        (shared_of RawPtr x.ptr b (o + 0)) (shared_of RawPtr y.ptr b (o + 0)) (x.ptr ≡ y.ptr)
        (((plain_Copied 𝓛 Ptr coded_ptr (ty_ptr ∷ []) ptr_own rawptr_pure ptr_val RawPtr-laws.tells).opens x.ptr b
        (o + 0)).0) (((plain_Copied 𝓛 Ptr coded_ptr (ty_ptr ∷ []) ptr_own rawptr_pure ptr_val RawPtr-laws.tells).opens
        y.ptr b (o + 0)).0)
        (λ s t. pointer_same 𝓛 𝓜 s t x.ptr y.ptr b (o + 0)) κ μ q r) $ await ! tt $ learn ! (λ same_pointer. split ! $
        -- [the tokens; y's length and items; x's length and items]
        move ! (4 ∷ 0 ∷ 2 ∷ 1 ∷ []) $ group ! 4 $ use1 𝓛 (later (given (x.len ≡ y.len) (‵ (flft κ q) ⊛ ‵ (flft μ r))))
        (both_seen 𝓛 𝓜 (λ s. part_at usize s x.len b (o + 8)) (λ s. part_at usize s y.len b (o + 8))
        (shared_of usize x.len b (o + 8)) (shared_of usize y.len b (o + 8)) (x.len ≡ y.len)
        (((uint_Copied 𝓛 w64).opens x.len b (o + 8)).0) (((uint_Copied 𝓛 w64).opens y.len b (o + 8)).0)
        (λ s t. word_same 𝓛 𝓜 w64 s t x.len y.len b (o + 8)) κ μ q r) $ await ! tt $ learn ! (λ same_length. split ! $
        -- [the tokens; y's items; x's items]
        rewrite ! 2 (λ (p : Ptr). ‵ (fhide (Seen y.items p μ))) (sym same_pointer) refl $ move !
        (3 ∷ 0 ∷ 2 ∷ 1 ∷ []) $ group ! 4 $ use1 𝓛 (later (given (x.items ≡ y.items) (‵ (flft κ q) ⊛ ‵ (flft μ r))))
        (both_seen 𝓛 𝓜 (λ s. Numbers 𝓛 𝓜 s x.items (block_of x.ptr) (count_of x.ptr))
        (λ s. Numbers 𝓛 𝓜 s y.items (block_of x.ptr) (count_of x.ptr)) (Seen x.items x.ptr) (Seen y.items x.ptr)
        (x.items ≡ y.items)
        (each_opens 𝓛 (UInt w32) (uint_Copied 𝓛 w32) x.items (block_of x.ptr) (count_of x.ptr))
        (each_opens 𝓛 (UInt w32) (uint_Copied 𝓛 w32) y.items (block_of x.ptr) (count_of x.ptr))
        (λ s t. numbers_same 𝓛 𝓜 s t x.items y.items (sym x.ok.0 ∙ same_length ∙ y.ok.0) (block_of x.ptr)
        (count_of x.ptr)) κ μ q r) $ await ! tt $ learn ! (λ same_items.
        split ! $ now ! $ check ! same_items $ done !)))
