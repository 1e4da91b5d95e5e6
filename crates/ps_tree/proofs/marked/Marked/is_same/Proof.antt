-- Two `&Marked` of one place see one list. `is_same` tells by the marks whether there is one place.
use mathlib.Core.Path.{◌≡◌, refl, sym, ap}
use native.Mathlib.Omega.{arith}
use mathlib.Core.Bool.{Bool, true, false}
use mathlib.Core.Logic.{dite}
use mathlib.Core.List.{List, [], ◌∷◌}
use Prim.Native.Nat.{ℕ, ◌+◌}
use mir.Syntax.{named}
use mir.Val.{vbool}
use prog.Wp.{WpFn}
use base.Fml.{ftrue, flft, ftok}
use base.Mask.{every, less, less_other, Key-Dec}
use types.Kit.{Item, ‵, raw, ◌⊛◌, given, later, prop, at_ret, Sq, ◌$◌, ◌∵◌, ! }
use types.Kit.{qed, done, move, keep, recast, use1, split, split3, learn, rewrite, await, frame, group, suffices}
use types.Run.{enter, exec, first, blocks, assigns, returns, addr, un, of_opd, true_lit, false_lit, load, look}
use types.Run.{store, fld, stop}
use types.ByLocal.{alloc_all, pass_all, free_all, sets, sets_last, get, through, look_at, env}
use denote.Builtin.{bool, RefOf}
use denote.Exit.{yes}
use denote.Memory.{hidden_shr, shared_of}
use denote.Plain.{bool_Makes}
use denote.Ref.{ShrRef, shr_vals, shr_Tells}
use denote.Signature.{plain}
use denote.Steps.{nothing, owned}
use denote.Triple.Walked.{Stays, stay_dropped, Goes-dropped, walk_of, walked, says}
use Rattle.std.specs.Prelude.{IsTrue}
use Rattle.std.proofs.raw_atomic.Walks.{leaves}
use Rattle.ps_tree.proofs.VectorLemmas.{V, vec_same}
use Rattle.ps_tree.proofs.MarkLemmas.{U, Mark, parted, opens_mark, shuts_mark}
use Rattle.ps_tree.proofs.TurnLemmas.{turned, by_turn}
use Rattle.ps_tree.specs.contracts.marked.Marked.{the_row as Row}
use Rattle.ps_tree.specs.contracts.marked.Marked.is_same as f
use Rattle.ps_tree.proofs.marked.Marked.is_same.Statement.{statement}
use Rattle.ps_tree.proofs.marked.Marked.is_same.Code as code

abbrev stays : Stays f.ended.signature.params f.ended.kept
stays = (stay_dropped _ yes, (stay_dropped _ yes, tt))

pub is_same_spec : {M : Type 1} → statement M
unfolding code.code
is_same_spec 𝓤 𝓛 𝓜 𝓡 wired =
    let c = f.clauses 𝓛 𝓜.mem 𝓡.returns in
    by_turn 𝓛 𝓡 f.ended c f.Key.name code.function (wired.0.0 f.Key.name refl) stays (
      Goes-dropped 𝓛 2 (RefOf (0 ∷ []) tt (plain (λ κs. Row)) (λ κs. tt)) yes (λ κs x w. refl),
      (Goes-dropped 𝓛 2 (RefOf (1 ∷ []) tt (plain (λ κs. Row)) (λ κs. tt)) yes (λ κs x w. refl), tt),
    )
    (λ C Λ. walked 𝓛 f.ended stays (turned 𝓛 f.ended c) (WpFn 𝓤 𝓛.H C Λ code.function)
    (λ κs. (shr_vals, (shr_vals, tt)))
    (λ κs. (shr_Tells (named 0) κs.0 Row, (shr_Tells (named 1) κs.1.0 Row, tt))) (λ κs qs bounds a g are.
    let x = a.0 in let y = a.1.0 in let κ = κs.0 in let q = qs.0 in let μ = κs.1.0 in let r = qs.1.0 in
    let W = walk_of 𝓛 f.ended stays (turned 𝓛 f.ended c) in
    let Y : W.Ghost = ((κs, qs, bounds, a, (shr_vals x, (shr_vals y, tt))), g) in
    let b = x.ref_ptr.0 in let o = x.ref_ptr.1 in let b' = y.ref_ptr.0 in let o' = y.ref_ptr.1 in
    let here : ℕ × ℕ = (b, o + 0) in let there : ℕ × ℕ = (b', o' + 0) in let ok : Unit {0} × Unit {0} = (tt, tt) in
    let answer : (Γ : List (Item 𝓤)) (t : Bool) → (IsTrue t → x.now.list.items ≡ y.now.list.items) →
    Sq 𝓛 (‵ (flft κ q) ∷ ‵ (ftok every) ∷ ‵ (flft μ r) ∷ Γ) (prop (W.post Y (vbool t))) = λ Γ t clause.
    suffices ! _ (leaves 𝓛 f.ended stays (turned 𝓛 f.ended c) Y (vbool t) t (tt, (tt, tt)) (tt, (tt, tt))) $
    keep ! (0 ∷ 2 ∷ 1 ∷ []) $
    -- the tokens, what is left of the parameters, the result, the thread's token, the clause
    nothing ! $ move ! (1 ∷ 2 ∷ 0 ∷ []) $ group ! 3 $ frame ! $
    nothing ! $ nothing ! $ nothing ! $ group ! 3 $ frame ! $
    owned ! bool _ (bool_Makes 𝓛) t _ refl $ frame ! $ recast 𝓛 (raw 𝓛.H.turn) (sym 𝓛.turn_is) $
    says ! clause $ done ! in
    qed 𝓛 (((‵ (flft κ q) ⊛ ‵ (flft μ r) ⊛ ‵ ftrue) ⊛ ‵ ((ShrRef (named 0) κ Row).own_val x (shr_vals x)) ⊛
    ‵ ((ShrRef (named 1) μ Row).own_val y (shr_vals y)) ⊛ ‵ ftrue) ∷ raw 𝓛.H.turn ∷ ‵ ftrue ∷ []) ∵
    move ! (1 ∷ 0 ∷ []) $ recast 𝓛 (‵ (ftok every)) 𝓛.turn_is $
    move ! (1 ∷ []) $ split ! $ move ! (1 ∷ []) $ split3 ! $
    use1 𝓛 (‵ (shared_of U tt b (o + 0) κ) ⊛ ‵ (hidden_shr V κ x.now.list b (o + 8))) (parted 𝓛 (named 0) κ x) $
    split ! $ move ! (2 ∷ []) $
    use1 𝓛 (‵ (shared_of U tt b' (o' + 0) μ) ⊛ ‵ (hidden_shr V μ y.now.list b' (o' + 8))) (parted 𝓛 (named 1) μ y) $
    split ! $ move ! (5 ∷ []) $ split3 ! $
    keep ! (5 ∷ 3 ∷ 0 ∷ 1 ∷ 8 ∷ 6 ∷ 4 ∷ []) $
    -- [the first mark; the second; the tokens of the two lifetimes; the thread's token; the first list; the second]
    enter ! _ _ _ _ _ $ alloc_all ! (λ l. pass_all ! refl (ok, (ok, tt)) $
    sets ! (addr ! (through ! refl (fld ! refl (stop !)))) refl ok $ sets ! (of_opd ! (get ! refl)) refl ok $
    sets ! (addr ! (through ! refl (fld ! refl (stop !)))) refl ok $ sets ! (of_opd ! (get ! refl)) refl ok $
    first ! $ blocks ! $ dite (Key-Dec here there)
    (λ one.
    -- one place: `*one` and `*two` are one mark, so `false` is read, and both lists are one
    let flat : o' + 0 ≡ o + 0 = ap (λ (k : ℕ × ℕ). k.1) (sym one) in
    let further : o' + 8 ≡ o + 8 = omega (arith, flat) in
    let lists : (b', o' + 8) ≡ (b, o + 8) = λ i. ((sym one i).0, further i) in
    move ! (6 ∷ []) $ rewrite ! 0 (λ (k : ℕ × ℕ). ‵ (hidden_shr V μ y.now.list k.0 k.1)) lists refl $
    move ! (6 ∷ 3 ∷ 0 ∷ 4 ∷ []) $ group ! 4 $
    use1 𝓛 (later (given (x.now.list.items ≡ y.now.list.items) (‵ (flft κ q) ⊛ ‵ (flft μ r))))
    (vec_same 𝓛 𝓜 κ μ q r x.now.list y.now.list b (o + 8)) $ await ! tt $ learn ! (λ same. split ! $
    -- [the tokens of the two lifetimes; the first mark; the second mark; the thread's token]
    move ! (2 ∷ 0 ∷ 4 ∷ []) $ opens_mark ! tt here every refl (λ t.
    assigns ! (of_opd ! (true_lit !)) (through ! refl (stop !)) (store ! 0 refl ok) $
    rewrite ! 0 (λ (k : ℕ × ℕ). ‵ (Mark k true)) one refl $
    assigns ! (of_opd ! (false_lit !)) (through ! refl (stop !)) (store ! 0 refl ok) $
    rewrite ! 0 (λ (k : ℕ × ℕ). ‵ (Mark k false)) (sym one) refl $
    sets ! (of_opd ! (load ! (through ! refl (stop !)) (look ! 0 refl))) refl ok $ shuts_mark ! tt here every false $
    sets_last ! (un ! (get ! refl) tt) refl ok $ exec ! C Λ (env code.Mir.locals l) code.Mir.t-6 (at_ret _ (W.post Y)) $
    sets ! (of_opd ! (get ! refl)) refl ok $ returns ! (look_at ! 0 refl) $ free_all ! refl $
    answer _ true (λ _. same))))
    (λ two.
    -- two places: both marks are open at once, and `*one` stays `true`
    move ! (0 ∷ 2 ∷ 4 ∷ []) $ opens_mark ! tt here every refl (λ t.
    -- [the first mark, in four entries; the second one; its lifetime's token]
    move ! (4 ∷ 5 ∷ 1 ∷ []) $ opens_mark ! tt there (less every here) (less_other every here there two) (λ u.
    -- [the second mark, in four entries; the first one, in three, since the token is with the second]
    assigns ! (of_opd ! (true_lit !)) (through ! refl (stop !)) (store ! 4 refl ok) $
    assigns ! (of_opd ! (false_lit !)) (through ! refl (stop !)) (store ! 0 refl ok) $
    sets ! (of_opd ! (load ! (through ! refl (stop !)) (look ! 4 refl))) refl ok $
    shuts_mark ! tt there (less every here) false $ move ! (2 ∷ 1 ∷ 3 ∷ 4 ∷ []) $ shuts_mark ! tt here every true $
    -- [the first lifetime; the thread's token; the second lifetime]
    sets_last ! (un ! (get ! refl) tt) refl ok $ exec ! C Λ (env code.Mir.locals l) code.Mir.t-6 (at_ret _ (W.post Y)) $
    sets ! (of_opd ! (get ! refl)) refl ok $ returns ! (look_at ! 0 refl) $ free_all ! refl $
    answer _ false (λ e. cc)))))))
