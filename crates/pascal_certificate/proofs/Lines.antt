-- Lines of texts, and what stands before and behind them.
use Rattle.std.proofs.Common.{◌≡◌, ◌≢◌, ◌∙◌, ◌<◌, ◌≤◌, ◌+◌, ◌++◌, ◌&&◌, ◌==◌, ap, arith, refl, sym, subst, ℕ, true}
use Rattle.std.proofs.Common.{false, not, [], ◌∷◌, length, get_or, take, drop}
use Rattle.std.proofs.lemmas.Bool.{and_from, and_parts, and_right, ne_eqb, true≢false}
use Rattle.std.proofs.lemmas.List.{append_assoc, length-append, take-append-drop, take_all, take_more}
use Rattle.std.proofs.lemmas.List.Folds.{list_all-append}
use Rattle.std.proofs.lemmas.Slice.Eq.{bytes_eq-Decides}
use Rattle.std.specs.Prelude.{OnOk, Result, Ok, Err, codes}
use Rattle.std.specs.List.{list_all}
use Rattle.std.specs.Str.{bytes_eq}
use Rattle.pascal_certificate.specs.Facts.{Text, fits, is_line, is_printed, label, unbroken}
use Rattle.pascal_certificate.specs.Form.{line_of}
use Rattle.pascal_certificate.specs.declared.fact.Fact.{Fact}

pub same_behind : (front a b : Text) → front ++ a ≡ front ++ b → a ≡ b
same_behind [] a b e = e
same_behind (c ∷ cs) a b e = same_behind cs a b (ap (drop 1) e)

pub same_text : (a b : Text) → bytes_eq a b ≡ true → a ≡ b
same_text a b e = (bytes_eq-Decides a b).0 e

pub itself : (a : Text) → bytes_eq a a ≡ true
itself a = (bytes_eq-Decides a a).1 refl

-- ---- a front

take_front : (front rest : Text) → take (length front) (front ++ rest) ≡ front
take_front [] rest = refl
take_front (c ∷ cs) rest = ap (λ l. c ∷ l) (take_front cs rest)

pub front_is_there : (text front : Text) → bytes_eq (take (length front) text) front ≡ true → text ≡ front ++ drop
    (length front) text
front_is_there text front e =
    sym (take-append-drop (length front) text) ∙ ap (λ l. l ++ drop (length front) text) (same_text _ front e)

pub front_is_not_there : (text front rest : Text) → bytes_eq (take (length front) text) front ≡ false → text ≢ front
    ++ rest
front_is_not_there text front rest e is =
    true≢false (sym (itself front) ∙ (ap (λ l. bytes_eq l front)
    (sym (ap (take (length front)) is ∙ take_front front rest)) ∙ e))

pub not_begun : (text front start rest : Text) → start ≡ take (length front) text → bytes_eq start front ≡ false
    → text ≢ front ++ rest
not_begun text front start rest same e = front_is_not_there text front rest (ap (λ l. bytes_eq l front) (sym same) ∙ e)

pub not_same : (a b : Text) → bytes_eq a b ≡ false → a ≢ b
not_same a b e is = true≢false (sym (itself b) ∙ (ap (λ l. bytes_eq l b) (sym is) ∙ e))

pub too_short : (text front rest : Text) → length text < length front → text ≢ front ++ rest
too_short text front rest short is =
    let lengths : length text ≡ length front + length rest = ap length is ∙ length-append front rest in
    absurd (omega (arith, short, lengths))

-- ---- the first end of a line

pub unbroken_more : (text : Text) (k : ℕ) → k < length text → unbroken (take k text) ≡ true → (get_or text k 0 == 10)
    ≡ false → unbroken (take (k + 1) text) ≡ true
unbroken_more text k within before here =
    ap unbroken (take_more text k 0 within)
    ∙ (list_all-append (λ byte. not (byte == 10)) (take k text) (get_or text k 0 ∷ [])
    ∙ and_from _ _ before (and_from _ true (ap not here) refl))

broken : (line rest : Text) → unbroken (line ++ 10 ∷ rest) ≡ false
broken [] rest = refl
broken (b ∷ bs) rest = and_right (not (b == 10)) _ (broken bs rest)

pub no_end : (text line rest : Text) (k : ℕ) → length text ≤ k → unbroken (take k text) ≡ true → text ≢ line ++ 10
    ∷ rest
no_end text line rest k all whole is =
    true≢false (sym whole ∙ (ap unbroken (take_all k text all ∙ is) ∙ broken line rest))

-- a text has one first line
pub same_cut : (v w r s : Text) → unbroken v ≡ true → unbroken w ≡ true → v ++ 10 ∷ r ≡ w ++ 10 ∷ s → (v ≡ w) × (r ≡ s)
same_cut [] [] r s pv pw e = (refl, ap (drop 1) e)
same_cut [] (c ∷ cs) r s pv pw e =
    let here : 10 ≡ c = ap (λ l. get_or l 0 0) e in
    absurd (true≢false (sym (subst (λ b. (not (b == 10) && unbroken cs) ≡ true) (sym here) pw)))
same_cut (b ∷ bs) [] r s pv pw e =
    let here : b ≡ 10 = ap (λ l. get_or l 0 0) e in
    absurd (true≢false (sym (subst (λ c. (not (c == 10) && unbroken bs) ≡ true) here pv)))
same_cut (b ∷ bs) (c ∷ cs) r s pv pw e =
    let here : b ≡ c = ap (λ l. get_or l 0 0) e in
    let rest = same_cut bs cs r s (and_parts _ _ pv).1 (and_parts _ _ pw).1 (ap (drop 1) e) in
    (ap (λ x. x ∷ bs) here ∙ ap (λ l. c ∷ l) rest.0, rest.1)

-- ---- the line of a fact

printed_is_no_end : (b : ℕ) → is_printed b ≡ true → not (b == 10) ≡ true
printed_is_no_end b e = ap not (ne_eqb b 10 (λ is. true≢false (sym (subst (λ n. is_printed n ≡ true) is e))))

printed_is_unbroken : (v : Text) → list_all is_printed v ≡ true → unbroken v ≡ true
printed_is_unbroken [] e = refl
printed_is_unbroken (b ∷ bs) e =
    let parts = and_parts _ _ e in
    and_from _ _ (printed_is_no_end b parts.0) (printed_is_unbroken bs parts.1)

pub fit_is_unbroken : (fact : Fact) (v : Text) → fits fact v ≡ true → unbroken v ≡ true
fit_is_unbroken fact v e = printed_is_unbroken v (and_parts _ _ (and_parts (is_line v) _ e).0).1

pub line_apart : (fact : Fact) (v r : Text) → line_of fact v ++ r ≡ label fact ++ (codes ": " ++ (v ++ 10 ∷ r))
line_apart fact v r = append_assoc (label fact) _ r ∙ ap (λ l. label fact ++ (codes ": " ++ l))
    (append_assoc v (codes "\n") r)

-- the value of a line, behind its label
pub at_value : (fact : Fact) (text first second v r : Text) → text ≡ label fact ++ first → first ≡ codes ": " ++ second
    → text ≡ line_of fact v ++ r
    → second ≡ v ++ 10 ∷ r
at_value fact text first second v r one two is =
    same_behind (codes ": ") second (v ++ 10 ∷ r)
    (sym two ∙ same_behind (label fact) first _ (sym one ∙ (is ∙ line_apart fact v r)))

pub no_label : (fact : Fact) (text v r : Text) → ((rest : Text) → text ≢ label fact ++ rest) → text ≢ line_of fact v
    ++ r
no_label fact text v r none is = none _ (is ∙ line_apart fact v r)

pub no_colon : (fact : Fact) (text first v r : Text) → text ≡ label fact ++ first
    → ((rest : Text) → first ≢ codes ": " ++ rest) → text ≢ line_of fact v ++ r
no_colon fact text first v r one none is = none _
    (same_behind (label fact) first _ (sym one ∙ (is ∙ line_apart fact v r)))

pub no_line : (fact : Fact) (text first second v r : Text) → text ≡ label fact ++ first → first ≡ codes ": " ++ second
    → ((line rest : Text) → second ≢ line ++ 10 ∷ rest) → text ≢ line_of fact v ++ r
no_line fact text first second v r one two none is = none v r (at_value fact text first second v r one two is)

pub no_value : (fact : Fact) (text first second line rest v r : Text) → text ≡ label fact ++ first → first ≡ codes ": "
    ++ second
    → unbroken line ≡ true → second ≡ line ++ 10 ∷ rest → fits fact line ≡ false → fits fact v ≡ true
    → text ≢ line_of fact v ++ r
no_value fact text first second line rest v r one two whole three unfit fit is =
    let same = same_cut line v rest r whole (fit_is_unbroken fact v fit)
    (sym three ∙ at_value fact text first second v r one two is) in
    true≢false (sym fit ∙ (ap (fits fact) (sym same.0) ∙ unfit))

pub a_line : (fact : Fact) (text first second line rest : Text) → text ≡ label fact ++ first → first ≡ codes ": "
    ++ second → second ≡ line ++ 10 ∷ rest
    → text ≡ line_of fact line ++ rest
a_line fact text first second line rest one two three =
    one ∙ (ap (λ l. label fact ++ l) (two ∙ ap (λ l. codes ": " ++ l) three) ∙ sym (line_apart fact line rest))

pub same_line : (fact : Fact) (v w r s : Text) → fits fact v ≡ true → fits fact w ≡ true → line_of fact v ++ r
    ≡ line_of fact w ++ s → (v ≡ w) × (r ≡ s)
same_line fact v w r s fv fw e =
    same_cut v w r s (fit_is_unbroken fact v fv) (fit_is_unbroken fact w fw)
    (same_behind (codes ": ") _ _ (same_behind (label fact) _ _
    (sym (line_apart fact v r) ∙ (e ∙ line_apart fact w s))))

-- ---- texts that are written one behind another

pub three_put : (o x y z a b c : Text) → a ≡ o ++ x → b ≡ a ++ y → c ≡ b ++ z → c ≡ o ++ (x ++ (y ++ z))
three_put o x y z a b c one two three =
    three ∙ (ap (λ l. l ++ z) (two ∙ ap (λ l. l ++ y) one) ∙ (append_assoc (o ++ x) y z ∙ append_assoc o x (y ++ z)))

pub written : {A E : Type 0} (r : Result A E) (P Q : Type 0) → OnOk r P → (P → Q) → OnOk r Q
written (Ok x) P Q holds weaker = weaker holds
written (Err e) P Q holds weaker = tt
