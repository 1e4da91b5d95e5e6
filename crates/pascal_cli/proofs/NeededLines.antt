-- Lines that are put together of their parts.
use Rattle.std.proofs.Common.{◌≡◌, ◌∙◌, ◌++◌, ◌≤◌, ◌-◌, ℕ, List, [], ◌∷◌, OnOk, Result, Ok, Err, ap, append_assoc}
use Rattle.std.proofs.Common.{arith, refl, drop, get_or, length, take}
use Rattle.std.proofs.lemmas.List.{take_all}
use Rattle.ps_needs_image.specs.declared.needed.Needed.{Needed}
use Rattle.pascal_cli.specs.NeedLines.{turn_bytes, turn_line, turn_name}

-- one part behind another
pub put_both : {T E : Type 0} (r : Result T E) (old middle new one other both : List ℕ) → middle ≡ old ++ one
    → OnOk r (new ≡ middle ++ other) → one ++ other ≡ both → OnOk r (new ≡ old ++ both)
put_both (Ok value) old middle new one other both first second e =
    second
    ∙ (ap (λ bytes. bytes ++ other) first ∙ (append_assoc old one other ∙ ap (λ bytes. old ++ bytes) e))
put_both (Err error) old middle new one other both first second e = tt

pub put_three : {T E : Type 0} (r : Result T E) (old middle last new one two three : List ℕ) → middle ≡ old ++ one
    → last ≡ middle ++ two → OnOk r (new ≡ last ++ three) → OnOk r (new ≡ old ++ (one ++ (two ++ three)))
put_three r old middle last new one two three first second third =
    put_both r old middle new one (two ++ three) _ first (put_both r middle last new two three _ second third refl) refl

-- the line of a turn, by its first routine and the others
pub turned : (text : List ℕ) (needed : Needed) (before turn : List ℕ) (d : ℕ) → 1 ≤ length turn
    → turn_name text needed (get_or turn 0 d) (take (length turn - 1) (drop 1 turn)) ++ turn_bytes needed before turn
    ≡ turn_line text needed before turn
turned text needed before [] d some = absurd (omega (arith, some))
turned text needed before (routine ∷ rest) d some =
    ap (λ others. turn_name text needed routine others ++ turn_bytes needed before (routine ∷ rest))
    (take_all (length (routine ∷ rest) - 1) rest (omega arith))
