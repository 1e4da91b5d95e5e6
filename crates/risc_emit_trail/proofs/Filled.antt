-- Lines as numbers and a count: one more keeps them so.
use Rattle.std.proofs.Common.{◌≡◌, ℕ, suc, ◌+◌, ◌-◌, ◌<◌, List, [], ◌∷◌, ◌++◌, length, take, arith, sym, ap, ◌∙◌}
use Rattle.std.proofs.Common.{append_assoc, length-append}
use Rattle.std.specs.Prelude.{replicate, slice_set}
use Rattle.std.proofs.Math.Seq.{set-append_seam}
use Rattle.std.proofs.lemmas.List.{take_at}
use Rattle.risc_emit_trail.specs.declared.lines.Trail.TheInside.{Inside}
use Rattle.risc_emit_trail.specs.Lines.{with_lines, IsFilled}

abbrev inside : List ℕ → ℕ → Inside
inside lines count = record { lines = lines; count = count }

same_inside : (a b : List ℕ) (m n : ℕ) → a ≡ b → m ≡ n → inside a m ≡ inside b n
same_inside a b m n e f = ap (λ l. inside l m) e ∙ ap (inside b) f

pub counted : (a : Inside) → IsFilled a → length (take a.count a.lines) ≡ a.count
counted a filled = ap (λ (i : Inside). i.count) filled.back

module _ (a : Inside) (x : ℕ) (filled : IsFilled a) (low : a.count < 16) where
  abbrev told : List ℕ
  told = take a.count a.lines

  abbrev rest : List ℕ
  rest = replicate (15 - a.count) 0

  count : length told ≡ a.count
  count = counted a filled

  put : slice_set a.lines a.count x ≡ told ++ x ∷ rest
  put =
      let room : 16 - length told ≡ suc (15 - a.count) = omega (arith, count, low) in
      let whole : a.lines ≡ told ++ 0 ∷ rest = sym (ap (λ (i : Inside). i.lines) filled.back)
      ∙ ap (λ k. told ++ replicate k 0) room in
      ap (λ ys. slice_set ys a.count x) whole ∙ ap (λ k. slice_set (told ++ 0 ∷ rest) k x) (sym count)
      ∙ set-append_seam told 0 rest x

  longer : length (told ++ x ∷ []) ≡ a.count + 1
  longer = length-append told (x ∷ []) ∙ ap (λ n. n + 1) count

  -- the line is the last that is reported
  pub pushed : take (a.count + 1) (slice_set a.lines a.count x) ≡ told ++ x ∷ []
  pushed =
      ap (take (a.count + 1)) (put ∙ sym (append_assoc told (x ∷ []) rest)) ∙ take_at (told ++ x ∷ []) rest
      (a.count + 1) longer

  pub push_fills : IsFilled (record { lines = slice_set a.lines a.count x; count = a.count + 1 })
  push_fills =
      let room : 16 - length (told ++ x ∷ []) ≡ 15 - a.count = omega (arith, longer, low) in
      let lines : (told ++ x ∷ []) ++ replicate (16 - length (told ++ x ∷ [])) 0
      ≡ slice_set a.lines a.count x = ap (λ k. (told ++ x ∷ []) ++ replicate k 0) room ∙ append_assoc told
      (x ∷ []) rest ∙ sym put in
      record {
        few = omega (arith, low);
        back = ap with_lines pushed ∙ same_inside ((told ++ x ∷ []) ++ replicate (16 - length (told ++ x ∷ [])) 0)
            (slice_set a.lines a.count x) (length (told ++ x ∷ [])) (a.count + 1) lines longer;
      }
