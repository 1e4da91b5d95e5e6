-- The lines of calls, one after the other.
use Rattle.std.proofs.Common.{◌≡◌, ℕ, ◌+◌, ◌<◌, List, [], ◌∷◌, ◌++◌, length, get_or, take, sym, ap, ◌∙◌, append_assoc}
use Rattle.std.proofs.Common.{append-nil}
use Rattle.std.proofs.lemmas.List.{take_more}
use Rattle.pascal_session.specs.Report.{call_text, calls_text}

calls_joined : (lines more : List ℕ) → calls_text (lines ++ more) ≡ calls_text lines ++ calls_text more
calls_joined [] more = cc
calls_joined (line ∷ lines) more =
    ap (λ (t : List ℕ). call_text line ++ t) (calls_joined lines more) ∙ sym
    (append_assoc (call_text line) (calls_text lines) (calls_text more))

-- one line more is told
pub calls_more : (k : ℕ) (lines : List ℕ) → k < length lines → calls_text (take (k + 1) lines) ≡ calls_text
    (take k lines) ++ call_text (get_or lines k 0)
calls_more k lines within =
    ap calls_text (take_more lines k 0 within)
    ∙ (calls_joined (take k lines) (get_or lines k 0 ∷ [])
    ∙ ap (λ (t : List ℕ). calls_text (take k lines) ++ t) (append-nil (call_text (get_or lines k 0))))
