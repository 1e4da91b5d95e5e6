-- `case` statements.
use Rattle.std.proofs.Common.{◌≡◌, ℕ, suc, ℤ, ◌+◌, ◌-◌, ◌<◌, ◌≤◌, List, [], ◌∷◌, ◌++◌, length, drop, get_or, slice_get}
use Rattle.std.proofs.Common.{Some, None, Vec, Global, refl, sym, ap, subst, ◌∙◌, append_assoc, arith, length-append}
use Rattle.std.proofs.Math.Seq.{drop-cons}
use Rattle.std.proofs.lemmas.List.{append-nil, drop_all, length-drop}
use Rattle.ps_tree.specs.Tree as t
use Rattle.ps_tree.specs.declared.line.Line.{Line}
use Rattle.ps_tree.specs.declared.tree.Expr.{Expr}
use Rattle.ps_tree.specs.declared.tree.statements.CaseElement.{CaseElement, out-CaseElement}
use Rattle.ps_tree.specs.declared.tree.statements.Statement.{Statement, Case}
use Rattle.ps_tree.specs.View.{expr_of, statement_of, elements_of}
use Rattle.ps_tree.proofs.StatementLemmas.{statement_of_Case}
use Rattle.tac_code.specs.declared.code.Operand.TheVariants as operand
use Rattle.tac_code.specs.declared.code.Relation.TheVariants.{Equal, NotEqual}
use Rattle.tac_code.specs.declared.code.Instruction.{Instruction}
use Rattle.tac_code.specs.declared.code.Instruction.TheVariants as i
use Rattle.ps_lower_code.specs.Scopes.{Scope}
use Rattle.ps_lower_code.specs.Statements.{expr_code, tests_code, statement_code, elements_code}
use Rattle.ps_lower.specs.Cases.{test_code, first_tests, last_test, element_code, open_elements, ends_from}
use Rattle.ps_lower.proofs.Appends.{and_then}
use Rattle.ps_lower.proofs.Jumps.{Fills, jump_past_room, room_behind}

pub case_is : (x : Statement) (e : Expr) (v : Vec CaseElement Global) (line : Line) (items : List CaseElement) → x
    ≡ Case e v line → items ≡ v.items → t.Case (expr_of e) (elements_of items) line.number ≡ statement_of x
case_is x e v line items is h = ap (λ l. t.Case (expr_of e) (elements_of l) line.number) h ∙ sym
    (ap statement_of is ∙ statement_of_Case e v line)

-- ---- the tests of an element

tests_length : (n : ℤ) (l : List ℤ) (d past : ℕ) → length (tests_code (n ∷ l) d past) ≡ suc (length l)
tests_length n [] d past = refl
tests_length n (m ∷ l) d past = ap suc (tests_length m l d past)

pub tests_are : (l : List ℤ) (d past : ℕ) → tests_code l d past ≡ first_tests l d ++ last_test l d past ∷ []
tests_are [] d past = refl
tests_are (n ∷ []) d past = refl
tests_are (n ∷ m ∷ l) d past =
    ap (λ a. i.Branch Equal d (operand.Number n) a ∷ tests_code (m ∷ l) d past) (tests_length m l d past)
    ∙ ap (λ k. i.Branch Equal d (operand.Number n) (suc (length l)) ∷ k) (tests_are (m ∷ l) d past)

-- a loop over the constants
pub record Testing (d : ℕ) (start : List Instruction) (constants : List ℤ) (j others : ℕ) (now : List Instruction)
    : Type 0 where
  pub left_over : others + j ≡ length constants
  pub left : now ++ first_tests (drop j constants) d ≡ start ++ first_tests constants d

pub testing_start : (d : ℕ) (start : List Instruction) (constants : List ℤ) (n : ℕ) → n ≡ length constants
    → Testing d start constants 0 n start
testing_start d start constants n e = record { left_over = omega (arith, e); left = refl }

pub testing_next : (d : ℕ) (start : List Instruction) (constants : List ℤ) (j others less : ℕ)
    (now next : List Instruction) (n : ℤ) → j < length constants → Testing d start constants j others now → less
    ≡ others - 1 → next ≡ now ++ test_code (get_or constants j n) less d → Testing d start constants (j + 1) less next
testing_next d start constants j others less now next n h s l e =
    let k : j + 1 ≡ suc j = omega arith in
    let m : less ≡ length (drop (suc j) constants) = omega (arith, l, s.left_over, h, length-drop (suc j) constants) in
    record {
      left_over = omega (arith, l, s.left_over, h);
      left =
          ap (λ m. next ++ first_tests (drop m constants) d) k
          ∙ ap (λ o. o ++ first_tests (drop (suc j) constants) d)
          (e ∙ ap (λ m. now ++ test_code (get_or constants j n) m d) m)
          ∙ append_assoc now (test_code (get_or constants j n) (length (drop (suc j) constants)) d)
          (first_tests (drop (suc j) constants) d)
          ∙ ap (λ l. now ++ first_tests l d) (sym (drop-cons constants j n h))
          ∙ s.left;
    }

pub testing_all : (d : ℕ) (start : List Instruction) (constants : List ℤ) (j others : ℕ) (now : List Instruction)
    → length constants ≤ j → Testing d start constants j others now → now ≡ start ++ first_tests constants d
testing_all d start constants j others now h s = sym (append-nil now) ∙ ap (λ l. now ++ first_tests l d)
    (sym (drop_all j constants h)) ∙ s.left

-- the last test after the others
pub tested : (o : List Instruction) (l : List ℤ) (d n : ℕ) (s : List Instruction) → o
    ++ (first_tests l d ++ last_test l d n ∷ s) ≡ o ++ (tests_code l d n ++ s)
tested o l d n s = ap (λ x. o ++ x) (sym (append_assoc (first_tests l d) (last_test l d n ∷ []) s) ∙ ap (λ x. x ++ s)
    (sym (tests_are l d n)))

-- the last constant
pub last_is : (l : List ℤ) (n : ℤ) (d past : ℕ) → Some n ≡ slice_get l (length l - 1) → i.Branch NotEqual d
    (operand.Number n) past ≡ last_test l d past
last_is [] n d past e = absurd (cc)
last_is (m ∷ []) n d past e = let h : n ≡ m = cc in ap (λ a. i.Branch NotEqual d (operand.Number a) past) h
last_is (m ∷ p ∷ l) n d past e =
    let k : suc (suc (length l)) - 1 ≡ suc (suc (length l) - 1) = omega arith in
    last_is (p ∷ l) n d past (e ∙ ap (λ y. slice_get (m ∷ p ∷ l) y) k)

pub none_is : (l : List ℤ) (d past : ℕ) → None ≡ slice_get l (length l - 1) → i.Jump past ≡ last_test l d past
none_is [] d past e = refl
none_is (m ∷ []) d past e = absurd (cc)
none_is (m ∷ p ∷ l) d past e =
    let k : suc (suc (length l)) - 1 ≡ suc (suc (length l) - 1) = omega arith in
    none_is (p ∷ l) d past (e ∙ ap (λ y. slice_get (m ∷ p ∷ l) y) k)

-- an element, whose last test is filled in after its body
pub element_made : (k : Scope) (l first last : List ℤ) (s : t.Statement) (d place : ℕ)
    (o0 o1 o2 o3 o4 : List Instruction) → first ≡ l → last ≡ l → o1 ≡ (o0 ++ first_tests first d) ++ i.End ∷ [] → place
    ≡ length (o0 ++ first_tests first d) → o2 ≡ o1 ++ statement_code k s d → o3 ≡ o2 ++ i.End ∷ [] → Fills o3 place o4
    (λ n. last_test last d n) → o4 ≡ (o0 ++ element_code k l s d) ++ i.End ∷ []
element_made k l first last s d place o0 o1 o2 o3 o4 f g e1 p e2 e3 fills =
    let body = statement_code k s d in
    jump_past_room o0 (o0 ++ first_tests first d) o1 o2 o3 o4 (first_tests first d) body i.End i.End place
    (λ n. last_test last d n) refl e1 p e2 e3 fills
    ∙ ap (λ y. (o0 ++ (first_tests y d ++ last_test last d (suc (length body)) ∷ body)) ++ i.End ∷ []) f
    ∙ ap (λ y. (o0 ++ (first_tests l d ++ last_test y d (suc (length body)) ∷ body)) ++ i.End ∷ []) g
    ∙ ap (λ o. o ++ i.End ∷ []) (tested o0 l d (suc (length body)) body)

pub element_end : (k : Scope) (l first : List ℤ) (s : t.Statement) (d end : ℕ) (o0 o1 o2 : List Instruction) → first ≡ l
    → o1 ≡ (o0 ++ first_tests first d) ++ i.End ∷ [] → o2 ≡ o1 ++ statement_code k s d → end ≡ length o2 → end ≡ length
    (o0 ++ element_code k l s d)
element_end k l first s d end o0 o1 o2 f e1 e2 p =
    let body = statement_code k s d in
    room_behind o0 (o0 ++ first_tests first d) o1 o2 (first_tests first d) body i.End
    (last_test l d (suc (length body))) end refl e1 e2 p
    ∙ ap (λ y. length (o0 ++ (first_tests y d ++ last_test l d (suc (length body)) ∷ body))) f
    ∙ ap length (tested o0 l d (suc (length body)) body)

-- ---- the elements, with rooms at their ends

pub record Opened (k : Scope) (d : ℕ) (start : List Instruction) (items : List CaseElement) (j : ℕ)
    (now : List Instruction) (ends : List ℕ) : Type 0 where
  pub code : now ++ open_elements k (elements_of (drop j items)) d ≡ start ++ open_elements k (elements_of items) d
  pub rooms : ends ++ ends_from k (elements_of (drop j items)) d (length now) ≡ ends_from k (elements_of items) d
      (length start)

pub opened_start : (k : Scope) (d : ℕ) (start : List Instruction) (items : List CaseElement) (ends : List ℕ) → ends ≡ []
    → Opened k d start items 0 start ends
opened_start k d start items ends e = record {
  code = refl;
  rooms = ap (λ l. l ++ ends_from k (elements_of items) d (length start)) e;
}

abbrev pub one_element : Scope → CaseElement → (d : ℕ) → List Instruction
one_element k x d = element_code k (out-CaseElement x).constants.items (statement_of (out-CaseElement x).body) d

pub open_further : (k : Scope) (d : ℕ) (x : CaseElement) (rest : List CaseElement) → open_elements k
    (elements_of (x ∷ rest)) d ≡ (one_element k x d ++ i.End ∷ []) ++ open_elements k (elements_of rest) d
unfolding elements_of
open_further k d x rest = refl

ends_further : (k : Scope) (d place : ℕ) (x : CaseElement) (rest : List CaseElement) → ends_from k
    (elements_of (x ∷ rest)) d place ≡ (place + length (one_element k x d)) ∷ ends_from k (elements_of rest) d
    (suc (place + length (one_element k x d)))
unfolding elements_of
ends_further k d place x rest = refl

open_nothing : (k : Scope) (d : ℕ) → open_elements k (elements_of []) d ≡ []
unfolding elements_of
open_nothing k d = refl

ends_nothing : (k : Scope) (d place : ℕ) → ends_from k (elements_of []) d place ≡ []
unfolding elements_of
ends_nothing k d place = refl

pub opened_next : (k : Scope) (d : ℕ) (start : List Instruction) (items : List CaseElement) (j : ℕ)
    (now next : List Instruction) (ends later : List ℕ) (end : ℕ) (x : CaseElement) → j < length items
    → Opened k d start items j now ends → next ≡ (now ++ one_element k (get_or items j x) d) ++ i.End ∷ [] → end
    ≡ length (now ++ one_element k (get_or items j x) d) → later ≡ ends ++ end ∷ [] → Opened k d start items
    (j + 1) next later
opened_next k d start items j now next ends later end x h s e p q =
    let n : j + 1 ≡ suc j = omega arith in
    let item = get_or items j x in
    let rest = drop (suc j) items in
    let m : length (now ++ one_element k item d) ≡ length now + length (one_element k item d) = length-append now
    (one_element k item d) in
    let g : length next ≡ suc (length now + length (one_element k item d)) = omega
    (arith, ap length e, length-append (now ++ one_element k item d) (i.End ∷ []), m) in
    record {
      code =
          ap (λ m. next ++ open_elements k (elements_of (drop m items)) d) n
          ∙ ap (λ o. o ++ open_elements k (elements_of rest) d)
          (e ∙ append_assoc now (one_element k item d) (i.End ∷ []))
          ∙ append_assoc now (one_element k item d ++ i.End ∷ []) (open_elements k (elements_of rest) d)
          ∙ ap (λ l. now ++ l) (sym (open_further k d item rest))
          ∙ ap (λ l. now ++ open_elements k (elements_of l) d) (sym (drop-cons items j x h))
          ∙ s.code;
      rooms =
          ap (λ m. later ++ ends_from k (elements_of (drop m items)) d (length next)) n
          ∙ ap (λ l. l ++ ends_from k (elements_of rest) d (length next)) q
          ∙ append_assoc ends (end ∷ []) (ends_from k (elements_of rest) d (length next))
          ∙ ap (λ m. ends ++ m ∷ ends_from k (elements_of rest) d (length next)) (p ∙ m)
          ∙ ap (λ m. ends ++ (length now + length (one_element k item d)) ∷ ends_from k (elements_of rest) d m) g
          ∙ ap (λ l. ends ++ l) (sym (ends_further k d (length now) item rest))
          ∙ ap (λ l. ends ++ ends_from k (elements_of l) d (length now)) (sym (drop-cons items j x h))
          ∙ s.rooms;
    }

pub opened_all : (k : Scope) (d : ℕ) (start : List Instruction) (items : List CaseElement) (j : ℕ)
    (now : List Instruction) (ends : List ℕ) → length items ≤ j → Opened k d start items j now ends → now ≡ start
    ++ open_elements k (elements_of items) d
opened_all k d start items j now ends h s =
    sym (append-nil now) ∙ ap (λ l. now ++ l) (sym (open_nothing k d))
    ∙ ap (λ l. now ++ open_elements k (elements_of l) d) (sym (drop_all j items h)) ∙ s.code

pub ends_all : (k : Scope) (d : ℕ) (start : List Instruction) (items : List CaseElement) (j : ℕ)
    (now : List Instruction) (ends : List ℕ) → length items ≤ j → Opened k d start items j now ends → ends ≡ ends_from k
    (elements_of items) d (length start)
ends_all k d start items j now ends h s =
    sym (append-nil ends) ∙ ap (λ l. ends ++ l) (sym (ends_nothing k d (length now)))
    ∙ ap (λ l. ends ++ ends_from k (elements_of l) d (length now)) (sym (drop_all j items h)) ∙ s.rooms

-- ---- the ways out, from the first element on

pub open_length : (k : Scope) (es : t.Elements) (d line : ℕ) → length (open_elements k es d ++ i.Trap 7 line ∷ [])
    ≡ length (elements_code k es d line)
open_length k t.no_element d line = refl
open_length k (t.element_before c s rest) d line =
    let el = element_code k c s d in
    let a = length-append ((el ++ i.End ∷ []) ++ open_elements k rest d) (i.Trap 7 line ∷ []) in
    let b = length-append (el ++ i.End ∷ []) (open_elements k rest d) in
    let e = length-append el (i.End ∷ []) in
    let f = length-append (open_elements k rest d) (i.Trap 7 line ∷ []) in
    let g = length-append el (i.Jump (length (elements_code k rest d line)) ∷ elements_code k rest d line) in
    let u : length (i.End ∷ []) ≡ 1 = refl in
    let v : length (i.Trap 7 line ∷ []) ≡ 1 = refl in
    let w : length (i.Jump (length (elements_code k rest d line)) ∷ elements_code k rest d line) ≡ suc
    (length (elements_code k rest d line)) = refl in
    omega (arith, a, b, e, f, g, u, v, w, open_length k rest d line)

-- the elements before a place are closed, those after it open
pub record Closing (k : Scope) (d line : ℕ) (whole now : List Instruction) (ends : List ℕ) : Type 0 where
  pub before : List Instruction
  pub rest : t.Elements
  pub code : now ≡ before ++ (open_elements k rest d ++ i.Trap 7 line ∷ [])
  pub rooms : ends ≡ ends_from k rest d (length before)
  pub all : before ++ elements_code k rest d line ≡ whole

close_one : (k : Scope) (d line : ℕ) (whole now next : List Instruction) (end : ℕ) (more : List ℕ)
    (before : List Instruction) (rest : t.Elements) → now ≡ before ++ (open_elements k rest d ++ i.Trap 7 line ∷ [])
    → end ∷ more ≡ ends_from k rest d (length before) → before ++ elements_code k rest d line ≡ whole
    → Fills now end next (λ n. i.Jump n) → Closing k d line whole next more
close_one k d line whole now next end more before t.no_element e p w fills = absurd (cc)
close_one k d line whole now next end more before (t.element_before c s rest) e p w fills =
    let el = element_code k c s d in
    let tail = open_elements k rest d ++ i.Trap 7 line ∷ [] in
    let jump = i.Jump (length (elements_code k rest d line)) in
    let first : end ≡ length before + length el = cc in
    let others : more ≡ ends_from k rest d (suc (length before + length el)) = cc in
    let at : end ≡ length (before ++ el) = first ∙ sym (length-append before el) in
    let all : now ≡ (before ++ el) ++ i.End ∷ tail =
    e ∙ ap (λ l. before ++ l) (append_assoc (el ++ i.End ∷ []) (open_elements k rest d) (i.Trap 7 line ∷ [])
    ∙ append_assoc el (i.End ∷ []) tail) ∙ sym (append_assoc before el (i.End ∷ tail))
    in
    let size : length ((before ++ el) ++ jump ∷ []) ≡ suc (length before + length el) = omega
    (arith, length-append (before ++ el) (jump ∷ []), length-append before el) in
    record {
      before = (before ++ el) ++ jump ∷ [];
      rest = rest;
      code = fills (before ++ el) i.End tail all at ∙ ap (λ n. (before ++ el) ++ i.Jump n ∷ tail)
          (open_length k rest d line) ∙ sym (append_assoc (before ++ el) (jump ∷ []) tail);
      rooms = others ∙ ap (λ n. ends_from k rest d n) (sym size);
      all = append_assoc (before ++ el) (jump ∷ []) (elements_code k rest d line) ∙ append_assoc before el
          (jump ∷ elements_code k rest d line) ∙ w;
    }

pub closing_start : (k : Scope) (elements : t.Elements) (d line : ℕ) (before now : List Instruction) (ends : List ℕ)
    → now ≡ before ++ (open_elements k elements d ++ i.Trap 7 line ∷ []) → ends ≡ ends_from k elements d (length before)
    → Closing k d line (before ++ elements_code k elements d line) now ends
closing_start k elements d line before now ends e p = record {
  before = before;
  rest = elements;
  code = e;
  rooms = p;
  all = refl;
}

pub closing_next : (k : Scope) (d line : ℕ) (whole now next : List Instruction) (ends : List ℕ) (j n : ℕ)
    → j < length ends → Closing k d line whole now (drop j ends) → Fills now (get_or ends j n) next (λ m. i.Jump m)
    → Closing k d line whole next (drop (j + 1) ends)
closing_next k d line whole now next ends j n h s fills =
    let m : j + 1 ≡ suc j = omega arith in
    subst (λ m. Closing k d line whole next (drop m ends)) (sym m)
    (close_one k d line whole now next (get_or ends j n) (drop (suc j) ends) s.before s.rest s.code
    (sym (drop-cons ends j n h) ∙ s.rooms) s.all fills)

closed : (k : Scope) (d line : ℕ) (whole now before : List Instruction) (rest : t.Elements) → now ≡ before
    ++ (open_elements k rest d ++ i.Trap 7 line ∷ []) → [] ≡ ends_from k rest d (length before) → before
    ++ elements_code k rest d line ≡ whole → now ≡ whole
closed k d line whole now before t.no_element e p w = e ∙ w
closed k d line whole now before (t.element_before c s rest) e p w = absurd (cc)

pub closing_all : (k : Scope) (d line : ℕ) (whole now : List Instruction) (ends : List ℕ) (j : ℕ) → length ends ≤ j
    → Closing k d line whole now (drop j ends) → now ≡ whole
closing_all k d line whole now ends j h s = closed k d line whole now s.before s.rest s.code
    (sym (drop_all j ends h) ∙ s.rooms) s.all

-- ---- the whole

pub case_made : (k : Scope) (e : t.Expr) (elements : t.Elements) (line d : ℕ) (o0 o1 o2 o3 o4 : List Instruction)
    (ends : List ℕ) → o1 ≡ o0 ++ expr_code k e d 0 → o2 ≡ o1 ++ open_elements k elements d → ends
    ≡ ends_from k elements d (length o1) → o3 ≡ o2 ++ i.Trap 7 line ∷ []
    → ((k : Scope) (before : List Instruction) (elements : t.Elements) (d line : ℕ) → o3 ≡ before
    ++ (open_elements k elements d ++ i.Trap 7 line ∷ []) → ends ≡ ends_from k elements d (length before) → o4 ≡ before
    ++ elements_code k elements d line) → o4 ≡ o0 ++ (expr_code k e d 0 ++ elements_code k elements d line)
case_made k e elements line d o0 o1 o2 o3 o4 ends p q u w closes =
    and_then o0 o1 o4 (expr_code k e d 0) (elements_code k elements d line) p
    (closes k o1 elements d line (and_then o1 o2 o3 (open_elements k elements d) (i.Trap 7 line ∷ []) q w) u)
