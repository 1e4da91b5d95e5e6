-- What an image's tables say of frames and objects is what the layout charges for.
use Rattle.std.proofs.Common.{◌≡◌, ℕ, zero, suc, ◌+◌, ◌<◌, ◌≤◌, ◌⊎◌, inl, inr, List, [], ◌∷◌, length, map, get_or}
use Rattle.std.proofs.Common.{refl, sym, ap, ◌∙◌, arith}
use Rattle.std.proofs.lemmas.Bool.{cases_lt}
use Rattle.tac_code.specs.declared.code.TacRoutine.{TacRoutine}
use Rattle.risc_image.specs.Image.{Image}
use Rattle.risc_emit_relation.specs.Context.{Context}
use Rattle.risc_emit_laws.specs.Plan.{frame_cost, object_cost}
use Rattle.risc_emit_laws.specs.Drawn.{frame_rows_of, object_rows_of, IsTabled}

module _ (c : Context) where
  frames_get : (r : ℕ) (xs : List TacRoutine) (j : ℕ) → j < length xs → get_or
      (map (λ row. row.bytes) (frame_rows_of c r xs)) j 0 ≡ c.costs (r + j)
  frames_get r [] j lt = absurd (omega (arith, lt))
  frames_get r (x ∷ xs) zero lt = let n : r ≡ r + 0 = omega arith in ap c.costs n
  frames_get r (x ∷ xs) (suc j) lt =
      let n : suc r + j ≡ r + suc j = omega arith in
      frames_get (suc r) xs j (omega (arith, lt)) ∙ ap c.costs n

  frames_past : (r : ℕ) (xs : List TacRoutine) (j : ℕ) → length xs ≤ j → get_or
      (map (λ row. row.bytes) (frame_rows_of c r xs)) j 0 ≡ 0
  frames_past r [] j le = refl
  frames_past r (x ∷ xs) zero le = absurd (omega (arith, le))
  frames_past r (x ∷ xs) (suc j) le = frames_past (suc r) xs j (omega (arith, le))

  objects_get : (t : ℕ) (xs : List ℕ) (j : ℕ) → j < length xs → get_or
      (map (λ row. row.bytes) (object_rows_of c t xs)) j 0 ≡ c.sizes (t + j)
  objects_get t [] j lt = absurd (omega (arith, lt))
  objects_get t (x ∷ xs) zero lt = let n : t ≡ t + 0 = omega arith in ap c.sizes n
  objects_get t (x ∷ xs) (suc j) lt =
      let n : suc t + j ≡ t + suc j = omega arith in
      objects_get (suc t) xs j (omega (arith, lt)) ∙ ap c.sizes n

  objects_past : (t : ℕ) (xs : List ℕ) (j : ℕ) → length xs ≤ j → get_or
      (map (λ row. row.bytes) (object_rows_of c t xs)) j 0 ≡ 0
  objects_past t [] j le = refl
  objects_past t (x ∷ xs) zero le = absurd (omega (arith, le))
  objects_past t (x ∷ xs) (suc j) le = objects_past (suc t) xs j (omega (arith, le))

  -- run-time routines, and what is not a routine, are charged nothing
  pub frames_charged : (image : Image) → IsTabled c image → ((r : ℕ) → length c.code.program ≤ r → c.costs r ≡ 0)
      → (r : ℕ) → frame_cost image r ≡ c.costs r
  frames_charged image t none r =
      ap (λ rows. get_or (map (λ row. row.bytes) rows) r 0) t.frames ∙ go (cases_lt r (length c.code.program))
    where
      go : (r < length c.code.program) ⊎ (length c.code.program ≤ r) → get_or
          (map (λ row. row.bytes) (frame_rows_of c 0 c.code.program)) r 0 ≡ c.costs r
      go (inl lt) =
          let n : 0 + r ≡ r = omega arith in frames_get 0 c.code.program r lt ∙ ap c.costs n
      go (inr le) = frames_past 0 c.code.program r le ∙ sym (none r le)

  pub objects_charged : (image : Image) → IsTabled c image → ((t : ℕ) → length c.code.objects ≤ t → c.sizes t ≡ 0)
      → (t : ℕ) → object_cost image t ≡ c.sizes t
  objects_charged image t none q =
      ap (λ rows. get_or (map (λ row. row.bytes) rows) q 0) t.objects ∙ go (cases_lt q (length c.code.objects))
    where
      go : (q < length c.code.objects) ⊎ (length c.code.objects ≤ q) → get_or
          (map (λ row. row.bytes) (object_rows_of c 0 c.code.objects)) q 0 ≡ c.sizes q
      go (inl lt) =
          let n : 0 + q ≡ q = omega arith in objects_get 0 c.code.objects q lt ∙ ap c.sizes n
      go (inr le) = objects_past 0 c.code.objects q le ∙ sym (none q le)
