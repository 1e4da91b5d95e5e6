-- Lines that stand in a text, and one line more.
use Rattle.std.proofs.Common.{◌≡◌, ℕ, List, [], ◌∷◌, ◌++◌, length, map, refl, sym, ap, subst, ◌∙◌, append_assoc}
use Rattle.std.proofs.Common.{append-nil, Bor}
use Rattle.std.specs.Prelude.{Result, Ok, Err, OnOk, is_ok, if◌then◌else◌}
use Rattle.std.proofs.lemmas.List.{map-append, nil_from_length}
use Rattle.ps_map.specs.Shown.{AddsLine, AddsLines, AreLines, Grows, HasLines}

-- ---- what is added ----

-- nothing
pub none_added : (text : List ℕ) → AddsLines text text
none_added text = record { more = []; is = sym (append-nil text); lines = record { front = []; ends = refl } }

-- a line
pub one_added : {X E : Type 0} (result : Result X E) (line old middle new : List ℕ) → middle ≡ old ++ line
    → new ≡ (if is_ok result then middle ++ 10 ∷ [] else middle) → OnOk result (AddsLines old new)
one_added (Ok x) line old middle new put ended = record {
  more = line ++ 10 ∷ [];
  is = ended ∙ ap (λ text. text ++ 10 ∷ []) put ∙ append_assoc old line (10 ∷ []);
  lines = record { front = 10 ∷ line; ends = refl };
}
one_added (Err e) line old middle new put ended = tt

both : (xs ys : List ℕ) → AreLines xs → AreLines ys → AreLines (xs ++ ys)
both xs ys first second = record {
  front = first.front ++ second.front;
  ends = ap (λ text. text ++ ys) first.ends ∙ append_assoc first.front (10 ∷ []) ys
      ∙ ap (λ text. first.front ++ text) second.ends ∙ sym (append_assoc first.front second.front (10 ∷ []));
}

-- lines, and then lines
pub more_added : {X E : Type 0} (result : Result X E) (old middle new : List ℕ) → AddsLines old middle
    → OnOk result (AddsLines middle new) → OnOk result (AddsLines old new)
more_added (Ok x) old middle new first second = record {
  more = first.more ++ second.more;
  is = second.is ∙ ap (λ text. text ++ second.more) first.is ∙ append_assoc old first.more second.more;
  lines = both first.more second.more first.lines second.lines;
}
more_added (Err e) old middle new first second = tt

-- lines, and then this one with more at its end
pub word_added : {X E : Type 0} (result : Result X E) (line old headed listed told new : List ℕ) → AddsLines old headed
    → listed ≡ headed ++ line → Grows listed told → new ≡ (if is_ok result then told ++ 10 ∷ [] else told)
    → OnOk result (AddsLine line old new)
word_added (Ok x) line old headed listed told new head put more ended = record {
  before = head.more;
  behind = more.0;
  is = ended
      ∙ ap (λ text. text ++ 10 ∷ []) (more.1 ∙ ap (λ text. text ++ more.0) (put ∙ ap (λ text. text ++ line) head.is));
  lines = head.lines;
}
word_added (Err e) line old headed listed told new head put more ended = tt

-- ---- the lines so far ----

-- lines stand in a text, and this is left behind the last of them
abbrev pub StandIn : List (List ℕ) → List ℕ → List ℕ → Type 0
StandIn [] text left = left ≡ text
StandIn ([] ∷ rest) text left = StandIn rest text left
StandIn ((byte ∷ line) ∷ rest) text left = (before : List ℕ) × (behind : List ℕ)
    × (text ≡ before ++ 10 ∷ byte ∷ line ++ behind) × StandIn rest behind left

stand : (lines : List (List ℕ)) (text left : List ℕ) → StandIn lines text left → HasLines lines text
stand [] text left so_far = tt
stand ([] ∷ rest) text left so_far = stand rest text left so_far
stand ((byte ∷ line) ∷ rest) text left so_far = (so_far.0, so_far.1, so_far.2, stand rest so_far.1 left so_far.3)

-- an empty line more
skipped : (lines : List (List ℕ)) (text left : List ℕ) → StandIn lines text left → StandIn (lines ++ [] ∷ []) text left
skipped [] text left so_far = so_far
skipped ([] ∷ rest) text left so_far = skipped rest text left so_far
skipped ((byte ∷ line) ∷ rest) text left so_far =
    (so_far.0, so_far.1, so_far.2, skipped rest so_far.1 left so_far.3)

module _ (byte : ℕ) (line left before behind front : List ℕ) (ends : left ++ before ≡ front ++ 10 ∷ []) where
  -- a line more, behind the end of a line
  added : (lines : List (List ℕ)) (text : List ℕ) → StandIn lines text left
      → StandIn (lines ++ (byte ∷ line) ∷ []) (text ++ before ++ byte ∷ line ++ behind) behind
  added [] text so_far = (
    front,
    behind,
    ap (λ t. t ++ before ++ byte ∷ line ++ behind) (sym so_far) ∙ ap (λ t. t ++ byte ∷ line ++ behind) ends
        ∙ ap (λ t. t ++ behind) (append_assoc front (10 ∷ []) (byte ∷ line)),
    refl,
  )
  added ([] ∷ rest) text so_far = added rest text so_far
  added ((first ∷ other) ∷ rest) text so_far =
      let here = so_far.0 ++ 10 ∷ first ∷ other in
      let left_here = so_far.1 in (
        so_far.0,
        left_here ++ before ++ byte ∷ line ++ behind,
        ap (λ t. t ++ before ++ byte ∷ line ++ behind) so_far.2
            ∙ ap (λ t. t ++ byte ∷ line ++ behind) (append_assoc here left_here before)
            ∙ ap (λ t. t ++ behind) (append_assoc here (left_here ++ before) (byte ∷ line))
            ∙ append_assoc here (left_here ++ before ++ byte ∷ line) behind,
        added rest left_here so_far.3,
      )

-- the lines stand in the text, behind whose last one a line ends
pub record Stand (lines : List (List ℕ)) (text : List ℕ) : Type 0 where
  pub left : List ℕ
  pub so_far : StandIn lines text left
  pub front : List ℕ
  pub ends : left ≡ front ++ 10 ∷ []

pub none_stand : Stand [] (10 ∷ [])
none_stand = record { left = 10 ∷ []; so_far = refl; front = []; ends = refl }

pub has_lines : (lines : List (List ℕ)) (text : List ℕ) → Stand lines text → HasLines lines text
has_lines lines text stands = stand lines text stands.left stands.so_far

stand_more : (lines : List (List ℕ)) (line old new : List ℕ) → Stand lines (10 ∷ old) → (length line ≡ 0 → ⊥)
    → AddsLine line old new → Stand (lines ++ line ∷ []) (10 ∷ new)
stand_more lines [] old new stands some adds = absurd (some refl)
stand_more lines (byte ∷ line) old new stands some adds =
    let lines_before = adds.lines in
    let ends : stands.left ++ adds.before ≡ (stands.front ++ lines_before.front) ++ 10 ∷ [] =
    ap (λ text. text ++ adds.before) stands.ends ∙ append_assoc stands.front (10 ∷ []) adds.before
    ∙ ap (λ text. stands.front ++ text) lines_before.ends
    ∙ sym (append_assoc stands.front lines_before.front (10 ∷ [])) in
    record {
      left = adds.behind ++ 10 ∷ [];
      so_far = subst (λ text. StandIn (lines ++ (byte ∷ line) ∷ []) text (adds.behind ++ 10 ∷ []))
          (sym (ap (λ text. 10 ∷ text) (adds.is ∙ append_assoc (old ++ adds.before ++ byte ∷ line) adds.behind
          (10 ∷ []))))
          (added byte line stands.left adds.before (adds.behind ++ 10 ∷ [])
          (stands.front ++ lines_before.front) ends lines
          (10 ∷ old) stands.so_far);
      front = adds.behind;
      ends = refl;
    }

stand_empty : (lines : List (List ℕ)) (line text : List ℕ) → Stand lines text → length line ≡ 0
    → Stand (lines ++ line ∷ []) text
stand_empty lines line text stands none = subst (λ empty. Stand (lines ++ empty ∷ []) text)
    (sym (nil_from_length line none))
    (record {
      left = stands.left;
      so_far = skipped lines text stands.left stands.so_far;
      front = stands.front;
      ends = stands.ends;
    })

abbrev pub lines_in : List (Bor (List ℕ)) → List (List ℕ)
lines_in lines = map (λ line. line.now) lines

module _ (lines : List (Bor (List ℕ))) (line : Bor (List ℕ)) where
  with_line : (text : List ℕ) → Stand (lines_in lines ++ line.now ∷ []) text → Stand
      (lines_in (lines ++ line ∷ [])) text
  with_line text stands = subst (λ shown. Stand shown text) (sym
      (map-append (λ shown. shown.now) lines (line ∷ []))) stands

  -- a line that was added
  pub line_added : (old new : List ℕ) → Stand (lines_in lines) (10 ∷ old) → (length line.now ≡ 0 → ⊥)
      → AddsLine line.now old new → Stand (lines_in (lines ++ line ∷ [])) (10 ∷ new)
  line_added old new stands some adds = with_line (10 ∷ new) (stand_more
      (lines_in lines) line.now old new stands some adds)

  -- an empty one, of which nothing is added
  pub empty_added : (text : List ℕ) → Stand (lines_in lines) text → length line.now ≡ 0
      → Stand (lines_in (lines ++ line ∷ [])) text
  empty_added text stands none = with_line text (stand_empty (lines_in lines) line.now text stands none)
