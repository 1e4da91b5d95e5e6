-- Steps over a list that is made of another, item by item.
use Rattle.std.proofs.Common.{◌≡◌, ℕ, ◌+◌, ◌<◌, ◌≤◌, List, length, get_or, map, sym, ap, ◌∙◌, arith}
use Rattle.std.proofs.Math.ListN.{get_or-map}
use Rattle.std.proofs.lemmas.List.{length-map}
use Rattle.ps_check_judgement.specs.declared.refusal.CheckFault.{CheckFault}
use Rattle.ps_check_judgement.specs.Judged.{Judged, Yes, Told, steps}
use Rattle.ps_check_judgement.proofs.Lists.{Stepped, stepped_start, stepped_next, stepped_fault, stepped_end}

module _ {S A B : Type 0} (f : S → B → Judged S) (g : A → B) (s : S) (xs : List A) where
  pub mapped_start : Stepped f s (map g xs) 0 s
  mapped_start = stepped_start f s (map g xs)

  module _ (i : ℕ) (t : S) where
    mapped_at : (x : A) → x ≡ get_or xs i x → g x ≡ get_or (map g xs) i (g x)
    mapped_at x e = sym (get_or-map g xs i x ∙ ap g (sym e))

    pub mapped_next : (x : A) (u : S) → i < length xs → x ≡ get_or xs i x → Stepped f s (map g xs) i t → f t (g x)
        ≡ Yes u → Stepped f s (map g xs) (i + 1) u
    mapped_next x u lt at r e =
        let n : i < length (map g xs) = omega (arith, length-map xs g) in
        stepped_next f s (map g xs) i t (g x) u n (mapped_at x at) r e

    pub mapped_fault : (x : A) (e : CheckFault) → i < length xs → x ≡ get_or xs i x → Stepped f s (map g xs) i t
        → Told e (f t (g x)) → Told e (steps f s (map g xs))
    mapped_fault x e lt at r told =
        let n : i < length (map g xs) = omega (arith, length-map xs g) in
        stepped_fault f s (map g xs) i t (g x) e n (mapped_at x at) r told

    pub mapped_end : length xs ≤ i → Stepped f s (map g xs) i t → steps f s (map g xs) ≡ Yes t
    mapped_end le r = let n : length (map g xs) ≤ i = omega (arith, length-map xs g) in stepped_end f s
        (map g xs) i t n r
