-- Code that is added or refused: what is too large stays so with more after it.
use Rattle.std.proofs.Common.{◌≡◌, ℕ, suc, ◌+◌, ◌<◌, ◌≤◌, ℤ, List, [], ◌∷◌, ◌++◌, length, drop, get_or, Result, refl}
use Rattle.std.proofs.Common.{sym, ap, subst, ◌∙◌, append_assoc, arith, length-append}
use Rattle.std.specs.Prelude.{Ok, Err, IsErrAnd, MatchResult}
use Rattle.std.proofs.Math.Seq.{drop-cons}
use Rattle.ps_tree.specs.Tree as t
use Rattle.ps_tree.specs.declared.tree.statements.CaseElement.{CaseElement}
use Rattle.ps_tree.specs.View.{elements_of}
use Rattle.ps_tree.specs.declared.tree.statements.Statement.{Statement}
use Rattle.tac_code.specs.declared.code.Instruction.{Instruction}
use Rattle.tac_code.specs.declared.code.Instruction.TheVariants as i
use Rattle.ps_lower_code.specs.Scopes.{Scope}
use Rattle.ps_lower_code.specs.Statements.{expr_code, statement_code, elements_code}
use Rattle.ps_lower.specs.Cases.{first_tests, element_code, open_elements}
use Rattle.ps_lower.specs.Refused.{IsRefused, Adds}
use Rattle.ps_lower.specs.declared.refusal.LowerRefusal.{LowerRefusal}
use Rattle.ps_lower.specs.declared.refusal.LowerRefusal.TheVariants.{OutOfMemory, CodeTooLarge}
use Rattle.ps_lower.proofs.Appends.{and_then, Added}
use Rattle.ps_lower.proofs.Elements.{Opened, one_element, open_further, open_length, element_end}

pub refused_within : (refusal : LowerRefusal) (m n : ℕ) → m ≤ n → IsRefused refusal m → IsRefused refusal n
refused_within OutOfMemory m n le h = tt
refused_within CodeTooLarge m n le h = omega (arith, le, h)

pub refused_in : (refusal : LowerRefusal) (inner more outer : List Instruction) → inner ++ more ≡ outer
    → IsRefused refusal (length inner) → IsRefused refusal (length outer)
refused_in refusal inner more outer e h =
    let a : length (inner ++ more) ≡ length inner + length more = length-append inner more in
    refused_within refusal (length inner) (length outer) (omega (arith, a, ap length e)) h

-- one piece, and another after it
pub adds_behind : {X : Type 0} (r : Result X LowerRefusal) (new middle old a b : List Instruction) → middle ≡ old ++ a
    → Adds r middle new b → Adds r old new (a ++ b)
adds_behind (Ok v) new middle old a b e h = and_then old middle new a b e h
adds_behind (Err refusal) new middle old a b e h =
    subst (λ l. IsRefused refusal (length l)) (ap (λ o. o ++ b) e ∙ append_assoc old a b) h

-- a piece between two others
pub between_refused : (refusal : LowerRefusal) (old middle a b c : List Instruction) → middle ≡ old ++ a
    → IsRefused refusal (length (middle ++ b)) → IsRefused refusal (length (old ++ (a ++ b ++ c)))
between_refused refusal old middle a b c e h =
    refused_in refusal (middle ++ b) c (old ++ (a ++ b ++ c))
    (ap (λ o. o ++ c) (and_then old middle (middle ++ b) a b e refl) ∙ append_assoc old (a ++ b) c) h

-- a refusal that is passed on
pub handed_on : {X : Type 0} (r : Result X LowerRefusal) (old new code : List Instruction) (refusal : LowerRefusal)
    → IsErrAnd r (λ y. y ≡ refusal) → IsRefused refusal (length (old ++ code)) → Adds r old new code
handed_on (Ok x) old new code refusal e h = absurd e
handed_on (Err y) old new code refusal e h = subst (λ f. IsRefused f (length (old ++ code))) (sym e) h

-- the same for a whole that begins with nothing
pub whole_refused : {X : Type 0} (r : Result X LowerRefusal) (P : X → Type 0) (refusal : LowerRefusal)
    (start code whole : List Instruction) → IsErrAnd r (λ y. y ≡ refusal) → start ≡ [] → code ≡ whole
    → IsRefused refusal (length (start ++ code)) → MatchResult r P (λ f. IsRefused f (length whole))
whole_refused (Ok x) P refusal start code whole e none is h = absurd e
whole_refused (Err y) P refusal start code whole e none is h =
    subst (λ f. IsRefused f (length whole)) (sym e)
    (subst (λ l. IsRefused refusal (length l)) (ap (λ o. o ++ code) none ∙ is) h)

-- a refusal of a whole that was made from nothing
pub made_refused : {X : Type 0} (r : Result X LowerRefusal) (refusal : LowerRefusal)
    (start new code whole : List Instruction) → r ≡ Err refusal → start ≡ [] → code ≡ whole → Adds r start new code
    → IsRefused refusal (length whole)
made_refused r refusal start new code whole e none is h =
    subst (λ l. IsRefused refusal (length l)) (ap (λ o. o ++ code) none ∙ is)
    (subst (λ x. Adds x start new code) e h)

-- an item of a list
pub item_refused : {A : Type 0} (code : List A → List Instruction) (one : A → List Instruction)
    → ((x : A) (xs : List A) → code (x ∷ xs) ≡ one x ++ code xs) → (refusal : LowerRefusal) (start : List Instruction)
    (items : List A) (j : ℕ) (now : List Instruction) (x item : A) → j < length items → Added code start items j now
    → item ≡ get_or items j x → IsRefused refusal (length (now ++ one item)) → IsRefused refusal
    (length (start ++ code items))
item_refused code one law refusal start items j now x item h s is refused =
    refused_in refusal (now ++ one (get_or items j x)) (code (drop (suc j) items)) (start ++ code items)
    (append_assoc now (one (get_or items j x)) (code (drop (suc j) items))
    ∙ ap (λ l. now ++ l) (sym (law (get_or items j x) (drop (suc j) items)))
    ∙ ap (λ l. now ++ code l) (sym (drop-cons items j x h))
    ∙ s.left)
    (subst (λ y. IsRefused refusal (length (now ++ one y))) is refused)

-- ---- elements

pub element_refused : (refusal : LowerRefusal) (k : Scope) (l first : List ℤ) (s : t.Statement) (d : ℕ)
    (o0 o1 : List Instruction) → first ≡ l → o1 ≡ (o0 ++ first_tests first d) ++ i.End ∷ [] → IsRefused refusal
    (length (o1 ++ statement_code k s d)) → IsRefused refusal (length ((o0 ++ element_code k l s d) ++ i.End ∷ []))
element_refused refusal k l first s d o0 o1 f e h =
    refused_in refusal (o0 ++ element_code k l s d) (i.End ∷ []) ((o0 ++ element_code k l s d) ++ i.End ∷ []) refl
    (subst (λ n. IsRefused refusal n) (element_end k l first s d (length (o1 ++ statement_code k s d)) o0 o1
    (o1 ++ statement_code k s d) f e refl refl) h)

pub among_refused : (refusal : LowerRefusal) (k : Scope) (d : ℕ) (start : List Instruction) (items : List CaseElement)
    (j : ℕ) (now : List Instruction) (ends : List ℕ) (x element : CaseElement) → j < length items
    → Opened k d start items j now ends → element ≡ get_or items j x → IsRefused refusal
    (length ((now ++ one_element k element d) ++ i.End ∷ [])) → IsRefused refusal
    (length (start ++ open_elements k (elements_of items) d))
among_refused refusal k d start items j now ends x element h s is refused =
    let item = get_or items j x in
    let rest = drop (suc j) items in
    refused_in refusal ((now ++ one_element k item d) ++ i.End ∷ []) (open_elements k (elements_of rest) d)
    (start ++ open_elements k (elements_of items) d)
    (ap (λ o. o ++ open_elements k (elements_of rest) d) (append_assoc now (one_element k item d) (i.End ∷ []))
    ∙ append_assoc now (one_element k item d ++ i.End ∷ []) (open_elements k (elements_of rest) d)
    ∙ ap (λ l. now ++ l) (sym (open_further k d item rest))
    ∙ ap (λ l. now ++ open_elements k (elements_of l) d) (sym (drop-cons items j x h))
    ∙ s.code)
    (subst (λ y. IsRefused refusal (length ((now ++ one_element k y d) ++ i.End ∷ []))) is refused)

pub case_refused : (refusal : LowerRefusal) (k : Scope) (e : t.Expr) (elements : t.Elements) (d line : ℕ)
    (o0 o1 : List Instruction) → o1 ≡ o0 ++ expr_code k e d 0 → IsRefused refusal
    (length (o1 ++ open_elements k elements d)) → IsRefused refusal
    (length (o0 ++ statement_code k (t.Case e elements line) d))
case_refused refusal k e elements d line o0 o1 p h =
    let index = expr_code k e d 0 in
    let opened = open_elements k elements d in
    let closed = elements_code k elements d line in
    let a : length (o1 ++ opened) ≡ length o1 + length opened = length-append o1 opened in
    let b : length o1 ≡ length o0 + length index = ap length p ∙ length-append o0 index in
    let c : length (o0 ++ (index ++ closed)) ≡ length o0 + length (index ++ closed) = length-append o0 (index ++ closed)
    in
    let f : length (index ++ closed) ≡ length index + length closed = length-append index closed in
    let g : length (opened ++ i.Trap 7 line ∷ []) ≡ length closed = open_length k elements d line in
    let m : length (opened ++ i.Trap 7 line ∷ []) ≡ length opened + 1 = length-append opened (i.Trap 7 line ∷ []) in
    refused_within refusal (length (o1 ++ opened)) (length (o0 ++ (index ++ closed))) (omega arith) h
