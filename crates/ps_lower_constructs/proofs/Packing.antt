-- `pack` and `unpack` (6.6.5.4).
use Rattle.ps_lower_constructs.proofs.Calling.{Callable}
use Rattle.std.proofs.Common.{◌≡◌, ℕ, suc, ◌+◌, ◌≤◌, true, false, if◌then◌else◌, nat_le, ◌∷◌, ◌++◌, refl, ap, ◌∙◌}
use Rattle.std.proofs.Common.{subst, arith, lt-ltb}
use Rattle.ps_tree.specs.Types.{DataType}
use Rattle.ps_tree.specs.Sizes.{value_count}
use Rattle.ps_tree.specs.Tree.{Place, Expr, Pack, Unpack}
use Rattle.tac_code.specs.declared.code.Value.TheVariants.{Address}
use Rattle.tac_code.specs.declared.code.Base.TheVariants as base
use Rattle.tac_code.specs.declared.code.Instruction.TheVariants as i
use Rattle.tac_code.specs.declared.code.TheConstants.{BLOCK_LIMIT}
use Rattle.ps_meaning.specs.Values.{Value, Spot, number_of}
use Rattle.ps_meaning.specs.Worlds.{World, Answer, Done, and_then, fault, contents_in, put as put_into}
use Rattle.ps_meaning.specs.Expressions.{Caller, HeldSpot, index_of, access, value}
use Rattle.ps_meaning.specs.Statements.{Next, index_place}
use Rattle.tac_code_steps.specs.Runs.{Stands}
use Rattle.tac_code_steps.proofs.Runs.{split}
use Rattle.tac_code_steps.proofs.Temporaries.{put_same, put_other}
use Rattle.tac_code_steps.proofs.Instructions.{offset_step}
use Rattle.ps_lower_layout.specs.Shapes.{Shape, ArrayShape, shape_of, component_bytes, Whole}
use Rattle.ps_lower_layout.specs.Paths.{NumberSort}
use Rattle.ps_lower_code.specs.Scopes.{even_from, held, site_code}
use Rattle.ps_lower_code.specs.Values.{is_byte_array, place_temporary, place_site, place_code}
use Rattle.ps_lower_code.specs.Statements.{expr_code, room_code, components_code}
use Rattle.ps_lower_code.proofs.Depths.{even_above, held_above}
use Rattle.ps_lower_relation.specs.Here.{Setting, machine_of, code_in, Activated, IsActive, state, IsBelow, WordIn}
use Rattle.ps_lower_relation.specs.RunTime.{WritesDo}
use Rattle.ps_lower_relation.proofs.Places.{place_below}
use Rattle.ps_lower_relation.proofs.Packed.{taken, replaced}
use Rattle.ps_lower_constructs.specs.Openings.{scope_in, context_in}
use Rattle.ps_lower_constructs.specs.Tasks.{Nothing, NextRuns}
use Rattle.ps_lower_constructs.proofs.Runs.{with_temporary, runs_bind, runs_word, keeps_refl, keeps_less, keeps_put}
use Rattle.ps_lower_constructs.proofs.Kept.{opened_kept, site_kept, below_more}
use Rattle.ps_lower_constructs.proofs.Places.{base_is}
use Rattle.ps_lower_constructs.proofs.Selectors.{PlaceIn}
use Rattle.ps_lower_constructs.proofs.Expressions.{place_run, expr_runs}
use Rattle.ps_lower_constructs.proofs.Structures.{StructureIn, structure_kept}
use Rattle.ps_lower_constructs.proofs.Statements.{StatementRuns}
use Rattle.ps_lower_constructs.proofs.NewObjects.{place_held}
use Rattle.ps_lower_constructs.proofs.Indexed.{Indexed, component_kept, index_run, room_then}
use Rattle.ps_lower_constructs.proofs.Transfers.{packed_so, unpacked_so}

no_bytes : (shape inner : Shape) (m : ℕ) → shape ≡ ArrayShape m inner → is_byte_array shape ≡ false
no_bytes shape inner m e = ap is_byte_array e

module _ (p : Setting) (n : ℕ) (call : Caller) (next : Next) (c : Activated) (active : IsActive p c)
    (nexts : NextRuns p n next) (does : WritesDo p) (calls : Callable p n call) where
  pub pack_run : (q : Place) (from_type : DataType) (e : Expr) (line : ℕ) (q' : Place) (to_type : DataType)
      → StatementRuns p n call next c active nexts does calls (Pack q from_type e line q' to_type)
  pack_run q from_type e line q' to_type d o w k pc pc' alive opened fits st =
      let code = scope_in p c o in
      let ctx = context_in c o in
      let h = held true d in
      let l0 : d ≤ h = held_above true d in
      let j = held true (suc h) in
      let l1 : suc h ≤ j = held_above true (suc h) in
      let l = held true (suc j) in
      let l2 : suc j ≤ l = held_above true (suc j) in
      let t = even_from (suc l) in
      let l3 : suc l ≤ t = even_above (suc l) in
      let site = place_site code q h in
      let site' = place_site code q' l in
      let low = (index_of from_type).low in
      let high = (index_of from_type).high in
      let width = component_bytes (shape_of from_type) in
      let whole = value_count (index_of from_type) in
      let part = value_count (index_of to_type) in
      let P = place_code code q h 0 in
      let E = expr_code code e j 0 in
      let Q = place_code code q' l 0 in
      let I = i.Index h site.base j low high width 5 line ∷ i.Offset h (base.Temporary h) site.offset 0 ∷ Q in
      let M = room_code from_type to_type j line in
      let S = site_code l site' 0 in
      let C = components_code code true h l part (is_byte_array (shape_of from_type))
      (is_byte_array (shape_of to_type)) width t in
      let cut5 = split (code_in p) c.routine pc (P ++ E ++ I ++ M ++ S) C pc' st in
      let cut4 = split (code_in p) c.routine pc (P ++ E ++ I ++ M) S cut5.0 cut5.1 in
      let cut3 = split (code_in p) c.routine pc (P ++ E ++ I) M cut4.0 cut4.1 in
      let cut2 = split (code_in p) c.routine pc (P ++ E) I cut3.0 cut3.1 in
      let cut1 = split (code_in p) c.routine pc P E cut2.0 cut2.1 in
      let at2 = suc (suc cut2.0) in
      let copy = subst (λ b. Stands (code_in p) c.routine cut5.0
      (components_code code true h l part b (is_byte_array (shape_of to_type)) width t) pc')
      (no_bytes (shape_of from_type) fits.0 whole fits.1) cut5.2 in
      let packs : Spot → ℕ → Spot → World → Answer Done = λ s m u w4.
      (if nat_le (m + part) whole then put_into u (taken m part (contents_in w4 s)) else fault 5 line ctx) w4 in
      let located : Spot → ℕ → World → Answer Done = λ s m w3. and_then (access call q' ctx w3) (λ u w4. packs s m u w4)
      in
      let indexed : Spot → Value → World → Answer Done = λ s v w2. and_then
      (index_place (index_of from_type) (number_of v) line ctx w2) (λ m w3. located s m w3) in
      runs_bind p (suc n) c d 0 h 0 d 0 w k pc cut1.0 pc' (access call q ctx w)
      (λ s w1. and_then (value call e ctx w1) (λ v w2. indexed s v w2))
      (λ s w' k'. PlaceIn p n call c active site (place_temporary q h) s (Whole (shape_of from_type)) w' k') Nothing
      l0 (omega arith) (omega arith) (omega arith)
      (place_run p n call c active calls q h 0 o w k pc cut1.0 (Whole (shape_of from_type)) alive
      (opened_kept p c d 0 h w w k k o l0 (keeps_refl d 0 w k) opened) fits.4 cut1.1)
      (λ s w1 k1 alive1 kept1 r1.
      let open1 = opened_kept p c d 0 d w w1 k k1 o (omega arith) (keeps_less d 0 h 0 l0 (omega arith) kept1) opened in
      let below = below_more p c (suc h) j site.base l1 (subst (λ y. IsBelow (suc y) site.base) (place_held q d) r1.1)
      in
      runs_bind p (suc n) c d 0 j 0 d 0 w1 k1 cut1.0 cut2.0 pc' (value call e ctx w1) (λ v w2. indexed s v w2)
      (λ v w' k'. WordIn k'.temporaries w'.made j NumberSort v) Nothing (omega (arith, l0, l1)) (omega arith)
      (omega arith) (omega arith)
      (expr_runs p n call c active calls e j 0 o w1 k1 cut1.0 cut2.0 NumberSort alive1
      (opened_kept p c d 0 j w1 w1 k1 k1 o (omega (arith, l0, l1)) (keeps_refl d 0 w1 k1) open1) fits.5 cut1.2)
      (λ v w2 k2 alive2 kept2 r2.
      let open2 = opened_kept p c d 0 d w1 w2 k1 k2 o (omega arith)
      (keeps_less d 0 j 0 (omega (arith, l0, l1)) (omega arith) kept2) open1 in
      let there = site_kept p c j 0 w1 w2 k1 k2 site s (Whole (shape_of from_type)) below kept2 r1.0 in
      runs_bind p (suc n) c d 0 h 0 d 0 w2 k2 cut2.0 at2 pc'
      (index_place (index_of from_type) (number_of v) line ctx w2) (λ m w3. located s m w3)
      (λ m w' k'. Indexed p (suc n) c active from_type h j s (number_of v) m w' k') Nothing l0 (omega arith)
      (omega arith) (omega arith)
      (index_run p (suc n) c active from_type h 0 line j o w2 k2 cut2.0 site s (number_of v)
      (omega (arith, l1)) alive2 there fits.3 r2.word (cut2.2.0, (cut2.2.1.0, refl)))
      (λ m w3 k3 alive3 kept3 r3.
      let open3 = opened_kept p c d 0 l w2 w3 k2 k3 o (omega (arith, l0, l1, l2))
      (keeps_less d 0 h 0 l0 (omega arith) kept3) open2 in
      runs_bind p (suc n) c d 0 l 0 d 0 w3 k3 at2 cut3.0 pc' (access call q' ctx w3) (λ u w4. packs s m u w4)
      (λ u w' k'. PlaceIn p n call c active site' (place_temporary q' l) u (Whole (shape_of to_type)) w' k') Nothing
      (omega (arith, l0, l1, l2)) (omega arith) (omega arith) (omega arith)
      (place_run p n call c active calls q' l 0 o w3 k3 at2 cut3.0
      (Whole (shape_of to_type)) alive3 open3 fits.6 cut2.2.1.1)
      (λ u w4 k4 alive4 kept4 r4.
      let component = component_kept p (suc n) c active l 0 h w3 w4 k3 k4 from_type s m
      (omega (arith, l1, l2)) kept4 r3.3 in
      room_then p (suc n) c active from_type to_type j line d 0 o w4 k4 cut3.0 cut4.0 pc' (number_of v) m
      (put_into u (taken m part (contents_in w4 s))) Nothing r3.0 r3.1
      (kept4.temporaries j (omega (arith, l2)) ∙ r3.2) cut3.2
      (λ fit.
      let at = r4.0 in
      let far = at.offset + site'.offset in
      let limit = place_below p.program c.ghosts active.small w4 k4.count alive4.holds u at.block far
      (Whole (shape_of to_type)) at.place in
      let word = Address at.block far in
      let k5 = with_temporary k4 l word in
      let apart : h ≡ l → ⊥ = λ y. omega (arith, l1, l2, y) in
      runs_word p (suc n) c d 0 w4 k4 cut4.0 cut5.0 pc' l word (put_into u (taken m part (contents_in w4 s)) w4) Nothing
      (offset_step (machine_of p) (state p c w4 k4 cut4.0) l site'.base site'.offset 0 at.block at.offset cut4.2.0
      (base_is c cut4.0 k4.temporaries site'.base ∙ at.base) (lt-ltb far BLOCK_LIMIT limit)) cut4.2.1
      (omega (arith, l0, l1, l2)) alive4
      (λ alive5.
      packed_so p (suc n) c active does (shape_of to_type) d t h l m o w4 k5 cut5.0 pc' from_type whole part fits.0 s u
      at.block far (omega (arith, l0, l1, l2, l3)) (omega (arith, l1, l2, l3))
      (omega (arith, l3)) fits.1 fits.2 fit alive5
      (record {
        block = component.block;
        offset = component.offset;
        word = put_other k4.temporaries l word h apart ∙ component.word;
        place = component.place;
      }) (put_same k4.temporaries l word) at.place copy))))))

  pub unpack_run : (q : Place) (from_type : DataType) (q' : Place) (to_type : DataType) (e : Expr) (line : ℕ)
      → StatementRuns p n call next c active nexts does calls (Unpack q from_type q' to_type e line)
  unpack_run q from_type q' to_type e line d o w k pc pc' alive opened fits st =
      let code = scope_in p c o in
      let ctx = context_in c o in
      let h = held true d in
      let l0 : d ≤ h = held_above true d in
      let j = held true (suc h) in
      let l1 : suc h ≤ j = held_above true (suc h) in
      let l = held true (suc j) in
      let l2 : suc j ≤ l = held_above true (suc j) in
      let t = even_from (suc l) in
      let l3 : suc l ≤ t = even_above (suc l) in
      let site = place_site code q h in
      let site' = place_site code q' j in
      let whole = value_count (index_of to_type) in
      let part = value_count (index_of from_type) in
      let P = place_code code q h 0 in
      let S = site_code h site 0 in
      let Q = place_code code q' j 0 in
      let E = expr_code code e l 0 in
      let I = i.Index j site'.base l (index_of to_type).low (index_of to_type).high
      (component_bytes (shape_of to_type)) 5 line ∷ i.Offset j (base.Temporary j) site'.offset 0
      ∷ room_code to_type from_type l line in
      let C = components_code code false h j part (is_byte_array (shape_of from_type))
      (is_byte_array (shape_of to_type)) (component_bytes (shape_of from_type)) t in
      let cut5 = split (code_in p) c.routine pc (P ++ S ++ Q ++ E ++ I) C pc' st in
      let cut4 = split (code_in p) c.routine pc (P ++ S ++ Q ++ E) I cut5.0 cut5.1 in
      let cut3 = split (code_in p) c.routine pc (P ++ S ++ Q) E cut4.0 cut4.1 in
      let cut2 = split (code_in p) c.routine pc (P ++ S) Q cut3.0 cut3.1 in
      let cut1 = split (code_in p) c.routine pc P S cut2.0 cut2.1 in
      let at2 = suc (suc cut4.0) in
      let copy = subst (λ b. Stands (code_in p) c.routine cut5.0
      (components_code code false h j part (is_byte_array (shape_of from_type)) b
      (component_bytes (shape_of from_type)) t) pc') (no_bytes (shape_of to_type) fits.0 whole fits.1) cut5.2 in
      let unpacks : Spot → Spot → ℕ → World → Answer Done = λ s u m w4.
      (if nat_le (m + part) whole then put_into u (replaced m (contents_in w4 u) (contents_in w4 s))
      else fault 5 line ctx) w4 in
      let indexed : Spot → Spot → Value → World → Answer Done = λ s u v w3. and_then
      (index_place (index_of to_type) (number_of v) line ctx w3) (λ m w4. unpacks s u m w4) in
      let located : Spot → World → Answer Done = λ s w1. and_then (access call q' ctx w1)
      (λ u w2. and_then (value call e ctx w2) (λ v w3. indexed s u v w3)) in
      runs_bind p (suc n) c d 0 h 0 d 0 w k pc cut1.0 pc' (access call q ctx w) (λ s w1. located s w1)
      (λ s w' k'. PlaceIn p n call c active site (place_temporary q h) s (Whole (shape_of from_type)) w' k') Nothing
      l0 (omega arith) (omega arith) (omega arith)
      (place_run p n call c active calls q h 0 o w k pc cut1.0 (Whole (shape_of from_type)) alive
      (opened_kept p c d 0 h w w k k o l0 (keeps_refl d 0 w k) opened) fits.4 cut1.1)
      (λ s w1 k0 alive0 kept0 r0.
      let from = r0.0 in
      let far = from.offset + site.offset in
      let limit = place_below p.program c.ghosts active.small w1 k0.count alive0.holds s from.block far
      (Whole (shape_of from_type)) from.place in
      let word = Address from.block far in
      let k1 = with_temporary k0 h word in
      let open0 = opened_kept p c d 0 d w w1 k k0 o (omega arith) (keeps_less d 0 h 0 l0 (omega arith) kept0) opened in
      let open1 = opened_kept p c d 0 d w1 w1 k0 k1 o (omega arith) (keeps_put d 0 w1 k0 h word l0) open0 in
      let structure : StructureIn p c h (shape_of from_type) (HeldSpot s) w1 k1 = record {
        block = from.block;
        offset = far;
        word = put_same k0.temporaries h word;
        at = from.place;
      } in
      runs_word p (suc n) c d 0 w1 k0 cut1.0 cut2.0 pc' h word (located s w1) Nothing
      (offset_step (machine_of p) (state p c w1 k0 cut1.0) h site.base site.offset 0 from.block from.offset cut1.2.0
      (base_is c cut1.0 k0.temporaries site.base ∙ from.base) (lt-ltb far BLOCK_LIMIT limit)) cut1.2.1 l0 alive0
      (λ alive1.
      runs_bind p (suc n) c d 0 j 0 d 0 w1 k1 cut2.0 cut3.0 pc' (access call q' ctx w1)
      (λ u w2. and_then (value call e ctx w2) (λ v w3. indexed s u v w3))
      (λ u w' k'. PlaceIn p n call c active site' (place_temporary q' j) u (Whole (shape_of to_type)) w' k') Nothing
      (omega (arith, l0, l1)) (omega arith) (omega arith) (omega arith)
      (place_run p n call c active calls q' j 0 o w1 k1 cut2.0 cut3.0 (Whole (shape_of to_type)) alive1
      (opened_kept p c d 0 j w1 w1 k1 k1 o (omega (arith, l0, l1)) (keeps_refl d 0 w1 k1) open1) fits.5 cut2.2)
      (λ u w2 k2 alive2 kept2 r2.
      let open2 = opened_kept p c d 0 d w1 w2 k1 k2 o (omega arith)
      (keeps_less d 0 j 0 (omega (arith, l0, l1)) (omega arith) kept2) open1 in
      let structure2 = structure_kept p c j 0 h w1 w2 k1 k2 (shape_of from_type) (HeldSpot s)
      (omega (arith, l1)) kept2 structure in
      let below = below_more p c (suc j) l site'.base l2
      (subst (λ y. IsBelow (suc y) site'.base) (place_held q' (suc h)) r2.1) in
      runs_bind p (suc n) c d 0 l 0 d 0 w2 k2 cut3.0 cut4.0 pc' (value call e ctx w2) (λ v w3. indexed s u v w3)
      (λ v w' k'. WordIn k'.temporaries w'.made l NumberSort v) Nothing (omega (arith, l0, l1, l2)) (omega arith)
      (omega arith) (omega arith)
      (expr_runs p n call c active calls e l 0 o w2 k2 cut3.0 cut4.0 NumberSort alive2
      (opened_kept p c d 0 l w2 w2 k2 k2 o (omega (arith, l0, l1, l2)) (keeps_refl d 0 w2 k2) open2) fits.6 cut3.2)
      (λ v w3 k3 alive3 kept3 r3.
      let structure3 = structure_kept p c l 0 h w2 w3 k2 k3 (shape_of from_type) (HeldSpot s)
      (omega (arith, l1, l2)) kept3 structure2 in
      let there = site_kept p c l 0 w2 w3 k2 k3 site' u (Whole (shape_of to_type)) below kept3 r2.0 in
      runs_bind p (suc n) c d 0 j 0 d 0 w3 k3 cut4.0 at2 pc' (index_place (index_of to_type) (number_of v) line ctx w3)
      (λ m w4. unpacks s u m w4) (λ m w' k'. Indexed p (suc n) c active to_type j l u (number_of v) m w' k') Nothing
      (omega (arith, l0, l1)) (omega arith) (omega arith) (omega arith)
      (index_run p (suc n) c active to_type j 0 line l o w3 k3 cut4.0 site' u (number_of v)
      (omega (arith, l2)) alive3 there fits.3 r3.word (cut4.2.0, (cut4.2.1.0, refl)))
      (λ m w4 k4 alive4 kept4 r4.
      let structure4 = structure_kept p c j 0 h w3 w4 k3 k4 (shape_of from_type) (HeldSpot s)
      (omega (arith, l1)) kept4 structure3 in
      room_then p (suc n) c active to_type from_type l line d 0 o w4 k4 at2 cut5.0 pc' (number_of v) m
      (put_into u (replaced m (contents_in w4 u) (contents_in w4 s))) Nothing r4.0 r4.1 r4.2 cut4.2.1.1
      (λ fit.
      unpacked_so p (suc n) c active does (shape_of from_type) d t h j m o w4 k4 cut5.0 pc' to_type whole part fits.0 s
      u (omega (arith, l0, l1, l2, l3)) (omega (arith, l1, l2, l3))
      (omega (arith, l2, l3)) fits.1 fits.2 fit alive4 structure4 r4.3 copy))))))
