-- The first component of a stretch is copied to the others, while a frame is entered.
use Rattle.std.proofs.Common.{◌≡◌, ◌⊎◌, inl, inr, ℕ, zero, suc, pos, ◌+◌, ◌-◌, ◌*◌, ◌<◌, ◌≤◌, Bool, true, false}
use Rattle.std.proofs.Common.{nat_le, List, [], ◌∷◌, ◌++◌, length, slice_get, Some, if◌then◌else◌, refl, sym, ap, ◌∙◌}
use Rattle.std.proofs.Common.{subst, arith, append-nil, lt-ltb, leb-true, length-append}
use Rattle.tac_code.specs.declared.code.Value.{Value as Word}
use Rattle.tac_code.specs.declared.code.Value.TheVariants.{Number as Numeral, Address}
use Rattle.tac_code.specs.declared.code.Instruction.{Instruction}
use Rattle.tac_code.specs.declared.code.Instruction.TheVariants as i
use Rattle.tac_code.specs.Memory.{Words, Living, load}
use Rattle.tac_code.specs.Meaning.{put, values_of, and_more, text_at}
use Rattle.tac_code.specs.declared.code.TheConstants.{BLOCK_LIMIT}
use Rattle.tac_code_steps.specs.Runs.{Stands, Comes}
use Rattle.tac_code_steps.specs.Routines.{AreBelow, Fresh}
use Rattle.tac_code_steps.specs.Splices.{spliced}
use Rattle.tac_code_steps.proofs.Runs.{a_step, ◌>>◌}
use Rattle.tac_code_steps.proofs.Splices.{spliced_length, spliced_inside, spliced_before, spliced_behind}
use Rattle.tac_code_steps.proofs.Temporaries.{put_same, put_other}
use Rattle.tac_code_steps.proofs.Instructions.{literal_step, offset_step}
use Rattle.ps_lower_code.specs.Scopes.{Scope, beside}
use Rattle.ps_lower_code.specs.Statements.{spread_code}
use Rattle.ps_lower_relation.specs.Here.{Setting, machine_of, code_in, Work, Activated}
use Rattle.ps_lower_relation.specs.RunTime.{CopiedUp}
use Rattle.ps_lower_relation.proofs.Copies.{SameOutside, Holding, Sources, copied_up, repeated, repeated_length, again}
use Rattle.ps_lower_relation.proofs.Copies.{AreWritten, written_repeated, written_word}
use Rattle.ps_lower_calls.specs.Filling.{Filling, filling, Fills}
use Rattle.ps_lower_calls.proofs.Filling.{with_temporary, IsNamed, named_after, named_put, named_value, CanFill}

before_words : (xs ys : Words) (i : ℕ) → i < length xs → slice_get (xs ++ ys) i ≡ slice_get xs i
before_words [] ys i l = absurd (omega (arith, l))
before_words (x ∷ xs) ys zero l = refl
before_words (x ∷ xs) ys (suc i) l = before_words xs ys i (omega (arith, l))

-- the first one of the copies, in a block that has all of them
first_same : (xs words : Words) (n place : ℕ) → place + length (repeated (suc n) xs) ≤ length words → SameOutside
    (spliced place xs words) (spliced place (repeated (suc n) xs) words) (place + length xs)
    (place + length (repeated (suc n) xs))
first_same xs words n place within i (inr far) =
    let long = length-append xs (repeated n xs) in
    spliced_behind place xs words i (omega (arith, far, long)) ∙ sym
    (spliced_behind place (repeated (suc n) xs) words i far)
first_same xs words n place within i (inl near) = go (order i place)
  where
    order : (i place : ℕ) → (i < place) ⊎ ((j : ℕ) × (i ≡ place + j))
    order i zero = inr (i, omega arith)
    order zero (suc place) = inl (omega arith)
    order (suc i) (suc place) = further (order i place)
      where
        further : (i < place) ⊎ ((j : ℕ) × (i ≡ place + j)) → (suc i < suc place) ⊎ ((j : ℕ) × (suc i ≡ suc place + j))
        further (inl a) = inl (omega arith)
        further (inr a) = let e = a.1 in inr (a.0, omega (arith, e))

    go : (i < place) ⊎ ((j : ℕ) × (i ≡ place + j)) → slice_get (spliced place xs words) i ≡ slice_get
        (spliced place (repeated (suc n) xs) words) i
    go (inl a) = spliced_before place xs words i a ∙ sym (spliced_before place (repeated (suc n) xs) words i a)
    go (inr a) =
        let j = a.0 in
        let e = a.1 in
        let low : j < length xs = omega (arith, e, near) in
        let long = length-append xs (repeated n xs) in
        ap (slice_get (spliced place xs words)) e
        ∙ spliced_inside place xs words j low (omega (arith, within, long))
        ∙ sym (ap (slice_get (spliced place (repeated (suc n) xs) words)) e ∙ spliced_inside place
        (repeated (suc n) xs) words j (omega (arith, low, long)) within ∙ before_words xs (repeated n xs) j low)

pub below_more : (m n : ℕ) (bs : List Living) → m ≤ n → AreBelow m bs → AreBelow n bs
below_more m n [] l h = tt
below_more m n (b ∷ bs) l h = let low = h.0 in (omega (arith, l, low), below_more m n bs l h.1)

module _ (p : Setting) (c : Activated) (f : Filling) where
  -- each word comes from one stretch before
  spread_sources : (holding : (scratch : Words) → Holding p f.block (f.memory scratch)) (scratch xs words : Words)
      (n place start : ℕ) → start ≡ 4 * place → AreWritten xs → 0 < length xs → place + length
      (repeated (suc n) xs) ≤ length words → Sources p (f.memory scratch) (spliced place (repeated (suc n) xs) words)
      (place + length xs) (n * length xs) f.block start
  spread_sources holding scratch xs words n place start e h some within i low before same =
      let all = repeated (suc n) xs in
      let long = length-append xs (repeated n xs) in
      let more = repeated_length n xs in
      let v = written_word all (length xs + i) (written_repeated (suc n) xs h) (omega (arith, low, long, more)) in
      let one : place + length xs + i ≡ place + (length xs + i) = omega arith in
      let at : start + 4 * i ≡ 4 * (place + i) = omega (arith, e) in
      record {
        word = v.0;
        target = ap (slice_get (spliced place all words)) one ∙ spliced_inside place all words (length xs + i)
            (omega (arith, low, long, more)) within ∙ v.1;
        reads = ap (λ o. load (text_at (code_in p)) (f.memory scratch before) f.block o) at
            ∙ (holding scratch).reads before (place + i) v.0
            (same (place + i) (inl (omega (arith, some))) ∙ spliced_inside place all words i
            (omega (arith, low, long, more)) within ∙ sym (again n xs i low) ∙ v.1);
      }

  module _ (k : Scope) (count size : ℕ) (can : CanFill p c f k count size) where
    -- The copies are made by one call.
    copies_made : (xs words : Words) (n place free offset : ℕ) (work : Work) (pc pc' bytes : ℕ) → AreWritten xs
        → 0 < length xs → length words ≡ size → place + length (repeated (suc n) xs) ≤ length words → count ≤ work.count
        → IsNamed c f free work.temporaries → offset ≡ 4 * place → bytes ≡ 4 * (n * length xs)
        → Stands (code_in p) c.routine pc (i.Offset free f.base (offset + 4 * length xs) 0 ∷ i.Offset
        (beside free) f.base offset 0 ∷ i.Literal (beside (beside free)) (pos bytes) ∷ i.Call (beside (beside free))
        (length k.program.routines + 0) (free ∷ beside free ∷ beside (beside free) ∷ []) 1 ∷ []) pc'
        → (after : Work) × ((j : ℕ) → j < free → after.temporaries j ≡ work.temporaries j)
        × (after.scratch ≡ work.scratch) × (work.count ≤ after.count) × Comes (machine_of p)
        (filling p c f (spliced place xs words) work pc)
        (filling p c f (spliced place (repeated (suc n) xs) words) after pc')
    copies_made xs words n place free offset work pc pc' bytes h some wide within up named e b st =
        let all = repeated (suc n) xs in
        let ws = spliced place xs words in
        let long = length-append xs (repeated n xs) in
        let more = repeated_length n xs in
        let narrow = can.small in
        let one : Word = Address f.block (0 + (offset + 4 * length xs)) in
        let two : Word = Address f.block (0 + offset) in
        let three : Word = Numeral (pos bytes) in
        let k1 = with_temporary work free one in
        let k2 = with_temporary k1 (beside free) two in
        let k3 = with_temporary k2 (beside (beside free)) three in
        let k4 : Work = record {
          count = suc work.count;
          temporaries = put k3.temporaries (beside (beside free)) (Numeral (pos 0));
          scratch = work.scratch;
        } in
        let s0 = filling p c f ws work pc in
        let s1 = filling p c f ws k1 (suc pc) in
        let s2 = filling p c f ws k2 (suc (suc pc)) in
        let s3 = filling p c f ws k3 (suc (suc (suc pc))) in
        let ne1 : free ≡ beside free → ⊥ = λ q. omega (arith, q) in
        let ne2 : free ≡ beside (beside free) → ⊥ = λ q. omega (arith, q) in
        let ne3 : beside free ≡ beside (beside free) → ⊥ = λ q. omega (arith, q) in
        let at1 : k3.temporaries free ≡ Some one = put_other k2.temporaries (beside (beside free)) three free ne2
        ∙ put_other k1.temporaries (beside free) two free ne1 ∙ put_same work.temporaries free one in
        let at2 : k3.temporaries (beside free) ≡ Some two = put_other k2.temporaries (beside (beside free)) three
        (beside free) ne3 ∙ put_same k1.temporaries (beside free) two in
        let at3 : k3.temporaries (beside (beside free)) ≡ Some three = put_same k2.temporaries
        (beside (beside free)) three in
        let values : values_of k3.temporaries (free ∷ beside free ∷ beside (beside free) ∷ []) ≡ Some
        (one ∷ two ∷ Numeral (pos (4 * (n * length xs))) ∷ []) =
        ap (λ v. and_more v (and_more (k3.temporaries (beside free))
        (and_more (k3.temporaries (beside (beside free))) (Some [])))) at1
        ∙ ap (λ v. and_more (Some one) (and_more v (and_more (k3.temporaries (beside (beside free))) (Some [])))) at2
        ∙ ap (λ v. and_more (Some one) (and_more (Some two) (and_more v (Some [])))) at3
        ∙ ap (λ z. Some (one ∷ two ∷ Numeral (pos z) ∷ [])) b in
        let fresh : Fresh s3 = (
          below_more count work.count s3.memory.frames up
              (can.frames work.scratch ws),
          below_more count work.count s3.memory.scratch up
              (can.waiting work.scratch ws),
        ) in
        let total : place + length xs + n * length xs ≡ place + length all = omega (arith, long, more) in
        let same : SameOutside ws (spliced place all words) (place + length xs)
        (place + length xs + n * length xs) = subst
        (λ z. SameOutside ws (spliced place all words) (place + length xs) z) (sym total)
        (first_same xs words n place within) in
        let wide1 = spliced_length place xs words in
        let wide2 = spliced_length place all words in
        let up_to : CopiedUp p s3.memory f.block (0 + (offset + 4 * length xs)) f.block (0 + offset) (n * length xs)
        (filling p c f (spliced place all words) k4 pc').memory =
        copied_up p f.block (f.memory work.scratch) (can.holding work.scratch) f.block (spliced place all words)
        (n * length xs) (place + length xs) (0 + (offset + 4 * length xs)) (0 + offset) ws (omega (arith, e))
        (wide1 ∙ sym wide2) (omega (arith, wide2, total, within)) same
        (spread_sources can.holding work.scratch xs words n place (0 + offset) (omega (arith, e)) h some within) in
        let law = can.does.words f.block (0 + (offset + 4 * length xs)) f.block (0 + offset) (n * length xs) s3.memory
        (filling p c f (spliced place all words) k4 pc').memory s3.tape up_to
        (omega (arith, e, total, within, wide, narrow)) (omega (arith, e, total, within, wide, narrow)) in
        let call = subst (λ z. Stands (code_in p) c.routine (suc (suc (suc pc)))
        (i.Call (beside (beside free)) (z + 0) (free ∷ beside free ∷ beside (beside free) ∷ []) 1 ∷ []) pc')
        can.program st.1.1.1 in (
          k4,
          λ j l.
              let n1 : j ≡ free → ⊥ = λ q. omega (arith, l, q) in
              let n2 : j ≡ beside free → ⊥ = λ q. omega (arith, l, q) in
              let n3 : j ≡ beside (beside free) → ⊥ = λ q. omega (arith, l, q) in
              put_other k3.temporaries (beside (beside free)) (Numeral (pos 0)) j n3 ∙ put_other k2.temporaries
              (beside (beside free)) three j n3 ∙ put_other k1.temporaries (beside free) two j n2
              ∙ put_other work.temporaries free one j n1,
          refl,
          omega arith,
          a_step s0 s1 (offset_step (machine_of p) s0 free f.base (offset + 4 * length xs) 0 f.block 0 st.0
              (named_value c f free pc work.temporaries named)
              (lt-ltb (0 + (offset + 4 * length xs)) BLOCK_LIMIT (omega (arith, e, total, within, wide, narrow))))
              >> a_step s1 s2 (offset_step (machine_of p) s1 (beside free) f.base offset 0 f.block 0 st.1.0
              (named_value c f free (suc pc) k1.temporaries
              (named_put c f free work.temporaries free one (omega arith) named))
              (lt-ltb (0 + offset) BLOCK_LIMIT (omega (arith, e, total, within, wide, narrow))))
              >> a_step s2 s3 (literal_step (machine_of p) s2 (beside (beside free)) (pos bytes) st.1.1.0)
              >> subst (λ q. Comes (machine_of p) s3 (filling p c f (spliced place all words) k4 q)) call.1
              (law.by s3 (beside (beside free)) 1 (free ∷ beside free ∷ beside (beside free) ∷ []) refl refl fresh
              values call.0),
        )

    -- behind the first component, the others
    pub fills_spread : (xs words : Words) (n place free offset : ℕ) (work : Work) (pc mid pc' bytes whole : ℕ)
        → AreWritten xs → 0 < length xs → length words ≡ size → place + length (repeated (suc n) xs) ≤ length words
        → count ≤ work.count → IsNamed c f free work.temporaries → offset ≡ 4 * place → bytes ≡ 4 * length xs → whole
        ≡ 4 * (suc n * length xs)
        → Fills p c f free words work pc mid (record {
          place = place;
          words = xs;
        } ∷ []) → Stands (code_in p) c.routine mid (spread_code k f.base free offset bytes whole) pc'
        → Fills p c f free words work pc pc' (record { place = place; words = repeated (suc n) xs } ∷ [])
    fills_spread xs words n place free offset work pc mid pc' bytes whole h some wide within up named e eb ew here st =
        go (nat_le whole bytes) refl st
      where
        spread : List Instruction
        spread = i.Offset free f.base (offset + bytes) 0 ∷ i.Offset (beside free) f.base offset 0 ∷ i.Literal
            (beside (beside free)) (pos (whole - bytes)) ∷ i.Call (beside (beside free)) (length k.program.routines + 0)
            (free ∷ beside free ∷ beside (beside free) ∷ []) 1 ∷ []

        single : (n : ℕ) → whole ≡ 4 * (suc n * length xs) → whole ≤ bytes → xs ≡ repeated (suc n) xs
        single zero q l = sym (append-nil xs)
        single (suc m) q l = let parts : suc (suc m) * length xs ≡ length xs + (length xs + m * length xs) = omega arith
            in absurd (omega (arith, q, l, eb, some, parts))

        go : (t : Bool) → nat_le whole bytes ≡ t → Stands (code_in p) c.routine mid (if t then [] else spread) pc'
            → Fills p c f free words work pc pc' (record {
              place = place;
              words = repeated (suc n) xs;
            } ∷ [])
        go true q s =
            subst (λ ws. Fills p c f free words work pc pc' (record {
              place = place;
              words = ws;
            } ∷ [])) (single n ew (leb-true whole bytes q))
            (subst (λ z. Fills p c f free words work pc z (record { place = place; words = xs } ∷ [])) s here)
        go false q s =
            let up1 = here.count in
            let parts : suc n * length xs ≡ length xs + n * length xs = omega arith in
            let left : whole - bytes ≡ 4 * (n * length xs) = omega (arith, ew, eb, parts) in
            let a = copies_made xs words n place free offset here.work mid pc' (whole - bytes) h some wide within
            (omega (arith, up, up1)) (named_after c f free work.temporaries here.work.temporaries named
            here.temporaries) e left
            (subst (λ z. Stands (code_in p) c.routine mid
            (i.Offset free f.base (offset + z) 0 ∷ i.Offset (beside free) f.base offset 0 ∷ i.Literal
            (beside (beside free)) (pos (whole - bytes)) ∷ i.Call (beside (beside free))
            (length k.program.routines + 0) (free ∷ beside free ∷ beside (beside free) ∷ []) 1 ∷ []) pc') eb s) in
            let up2 = a.3 in
            record {
              work = a.0;
              temporaries = λ j l. a.1 j l ∙ here.temporaries j l;
              scratch = a.2 ∙ here.scratch;
              count = omega (arith, up1, up2);
              comes = here.comes >> a.4;
            }
