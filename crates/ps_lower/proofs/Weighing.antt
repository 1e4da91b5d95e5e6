-- What the parts of a construct weigh, so that each number of the code has its room.
use Rattle.std.proofs.Common.{◌≡◌, Box, Global, ◌||◌, ℕ, zero, suc, ◌+◌, ◌*◌, ◌<◌, ◌≤◌, max, Bool, true, false, List}
use Rattle.std.proofs.Common.{[], ◌∷◌, length, map, drop, get_or, Option, Some, None, refl, sym, ap, subst, ◌∙◌, arith}
use Rattle.std.proofs.Math.Seq.{drop-cons}
use Rattle.ps_tree.specs.Tree as t
use Rattle.ps_tree.specs.declared.types.Ty.{Ty}
use Rattle.ps_tree.specs.declared.tree.Expr.{Expr}
use Rattle.ps_tree.specs.declared.tree.Structure.{Structure, Contents}
use Rattle.ps_tree.specs.declared.tree.ArithmeticStep.{ArithmeticStep, out-ArithmeticStep}
use Rattle.ps_tree.specs.declared.tree.SetStep.{SetStep, out-SetStep}
use Rattle.ps_tree.specs.declared.tree.Member.{Member}
use Rattle.ps_tree.specs.declared.tree.Selector.{Selector}
use Rattle.ps_tree.specs.declared.tree.Argument.{Argument, Variable}
use Rattle.ps_tree.specs.declared.tree.Place.{Place}
use Rattle.ps_tree.specs.declared.tree.statements.ReadVariable.{ReadVariable}
use Rattle.ps_tree.specs.declared.tree.statements.WriteParameter.{WriteParameter}
use Rattle.ps_tree.specs.declared.tree.statements.Statement.{Statement}
use Rattle.ps_tree.specs.declared.tree.statements.CaseElement.{CaseElement, out-CaseElement}
use Rattle.ps_tree.proofs.TreeLemmas.{structure_of_Contents, argument_of_Variable}
use Rattle.ps_tree.specs.View.{place_of, structure_of, expr_of, arithmetic_of, operands_of, set_of, set_steps_of}
use Rattle.ps_tree.specs.View.{member_of, members_of, selector_of, selectors_of, argument_of, arguments_of, read_of}
use Rattle.ps_tree.specs.View.{write_of, statement_of, statements_of, elements_of}
use Rattle.ps_lower_layout.specs.Frames.{Kind, Own, Reference, Closure}
use Rattle.ps_lower_code.specs.Scopes.{Scope, Site, held, kept, kind_at}
use Rattle.ps_lower_code.specs.Calling.{steps_call, operands_call, arguments_call, places_call, statement_calls}
use Rattle.ps_lower_code.specs.Values.{literal_of, known_steps, element_site, entry_site, name_site, place_temporary}
use Rattle.ps_lower_code.specs.Values.{argument_end, argument_scratch, arguments_end}
use Rattle.ps_lower_code.specs.Statements.{with_scope, with_depth}
use Rattle.ps_lower_bounds.specs.Weights.{steps_reach, selectors_reach, steps_more, operands_more, name_reach}
use Rattle.ps_lower_bounds.specs.Weights.{place_weight, selectors_weight, expr_weight, steps_weight, operands_weight}
use Rattle.ps_lower_bounds.specs.Weights.{set_weight, set_steps_weight, member_weight, members_weight}
use Rattle.ps_lower_bounds.specs.Weights.{structure_weight, argument_weight, arguments_weight, read_weight}
use Rattle.ps_lower_bounds.specs.Weights.{reads_weight, write_weight, writes_weight, statement_weight}
use Rattle.ps_lower_bounds.specs.Weights.{statements_weight, elements_weight}
use Rattle.ps_lower.specs.Sites.{selector_site}
use Rattle.ps_lower.specs.declared.depth.TheConstants.{MAX_NUMBER}

-- ---- items of lists, of which the heaviest counts

pub in_largest : {A : Type 0} (all : List A → ℕ) (one : A → ℕ)
    → ((x : A) (xs : List A) → all (x ∷ xs) ≡ max (one x) (all xs)) → (items : List A) (i : ℕ) (d : A)
    → i < length items → one (get_or items i d) ≤ all items
in_largest all one law [] i d h = absurd (omega (arith, h))
in_largest all one law (x ∷ xs) zero d h = let e = law x xs in omega (arith, e)
in_largest all one law (x ∷ xs) (suc i) d h =
    let e = law x xs in let l = in_largest all one law xs i d (omega (arith, h)) in omega (arith, e, l)

abbrev step_one : Scope → ArithmeticStep → ℕ
step_one k s = 8 + expr_weight k (expr_of (out-ArithmeticStep s).operand)

steps_law : (k : Scope) (x : ArithmeticStep) (xs : List ArithmeticStep) → steps_weight k (arithmetic_of (x ∷ xs)) ≡ max
    (step_one k x) (steps_weight k (arithmetic_of xs))
unfolding arithmetic_of
steps_law k x xs = refl

-- an item as the loop has it
pub step_in : (k : Scope) (items : List ArithmeticStep) (i : ℕ) (s : ArithmeticStep) → i < length items → s
    ≡ get_or items i s → 8 + expr_weight k (expr_of (out-ArithmeticStep s).operand) ≤ steps_weight k
    (arithmetic_of items)
step_in k items i s h e = let l = in_largest (λ l. steps_weight k (arithmetic_of l)) (step_one k)
    (steps_law k) items i s h in subst (λ y. step_one k y ≤ steps_weight k (arithmetic_of items)) (sym e) l

abbrev operand_one : Scope → Expr → ℕ
operand_one k e = 8 + expr_weight k (expr_of e)

operands_law : (k : Scope) (x : Expr) (xs : List Expr) → operands_weight k (operands_of (x ∷ xs)) ≡ max
    (operand_one k x) (operands_weight k (operands_of xs))
unfolding operands_of
operands_law k x xs = refl

pub operand_in : (k : Scope) (items : List Expr) (i : ℕ) (s : Expr) → i < length items → s ≡ get_or items i s → 8
    + expr_weight k (expr_of s) ≤ operands_weight k (operands_of items)
operand_in k items i s h e = let l = in_largest (λ l. operands_weight k (operands_of l)) (operand_one k)
    (operands_law k) items i s h in subst (λ y. operand_one k y ≤ operands_weight k (operands_of items)) (sym e) l

abbrev set_step_one : Scope → SetStep → ℕ
set_step_one k s = 64 + set_weight k (set_of (out-SetStep s).operand)

set_steps_law : (k : Scope) (x : SetStep) (xs : List SetStep) → set_steps_weight k (set_steps_of (x ∷ xs)) ≡ max
    (set_step_one k x) (set_steps_weight k (set_steps_of xs))
unfolding set_steps_of
set_steps_law k x xs = refl

pub set_step_in : (k : Scope) (items : List SetStep) (i : ℕ) (s : SetStep) → i < length items → s ≡ get_or items i s
    → 64 + set_weight k (set_of (out-SetStep s).operand) ≤ set_steps_weight k (set_steps_of items)
set_step_in k items i s h e = let l = in_largest (λ l. set_steps_weight k (set_steps_of l)) (set_step_one k)
    (set_steps_law k) items i s h in subst (λ y. set_step_one k y ≤ set_steps_weight k (set_steps_of items)) (sym e) l

members_law : (k : Scope) (x : Member) (xs : List Member) → members_weight k (members_of (x ∷ xs)) ≡ max
    (member_weight k (member_of x)) (members_weight k (members_of xs))
unfolding members_of
members_law k x xs = refl

pub member_in : (k : Scope) (items : List Member) (i : ℕ) (s : Member) → i < length items → s ≡ get_or items i s
    → member_weight k (member_of s) ≤ members_weight k (members_of items)
member_in k items i s h e = let l = in_largest (λ l. members_weight k (members_of l))
    (λ x. member_weight k (member_of x)) (members_law k) items i s h in subst
    (λ y. member_weight k (member_of y) ≤ members_weight k (members_of items)) (sym e) l

pub read_in : (k : Scope) (items : List ReadVariable) (i : ℕ) (s : ReadVariable) → i < length items → s
    ≡ get_or items i s → read_weight k (read_of s) ≤ reads_weight k (map read_of items)
read_in k items i s h e = let l = in_largest (λ l. reads_weight k (map read_of l)) (λ x. read_weight k (read_of x))
    (λ x xs. refl) items i s h in subst (λ y. read_weight k (read_of y) ≤ reads_weight k (map read_of items)) (sym e) l

pub write_in : (k : Scope) (items : List WriteParameter) (i : ℕ) (s : WriteParameter) → i < length items → s
    ≡ get_or items i s → write_weight k (write_of s) ≤ writes_weight k (map write_of items)
write_in k items i s h e = let l = in_largest (λ l. writes_weight k (map write_of l)) (λ x. write_weight k (write_of x))
    (λ x xs. refl) items i s h in subst (λ y. write_weight k (write_of y) ≤ writes_weight k (map write_of items))
    (sym e) l

statements_law : (k : Scope) (d : ℕ) (x : Statement) (xs : List Statement) → statements_weight k
    (statements_of (x ∷ xs)) d ≡ max (statement_weight k (statement_of x) d) (statements_weight k (statements_of xs) d)
unfolding statements_of
statements_law k d x xs = refl

pub statement_in : (k : Scope) (d : ℕ) (items : List Statement) (i : ℕ) (s : Statement) → i < length items → s
    ≡ get_or items i s → statement_weight k (statement_of s) d ≤ statements_weight k (statements_of items) d
statement_in k d items i s h e = let l = in_largest (λ l. statements_weight k (statements_of l) d)
    (λ x. statement_weight k (statement_of x) d) (statements_law k d) items i s h in subst
    (λ y. statement_weight k (statement_of y) d ≤ statements_weight k (statements_of items) d) (sym e) l

abbrev element_one : Scope → (d : ℕ) → CaseElement → ℕ
element_one k d x = statement_weight k (statement_of (out-CaseElement x).body) d

elements_law : (k : Scope) (d : ℕ) (x : CaseElement) (xs : List CaseElement) → elements_weight k
    (elements_of (x ∷ xs)) d ≡ max (element_one k d x) (elements_weight k (elements_of xs) d)
unfolding elements_of
elements_law k d x xs = refl

pub element_in : (k : Scope) (d : ℕ) (items : List CaseElement) (i : ℕ) (s : CaseElement) → i < length items → s
    ≡ get_or items i s → statement_weight k (statement_of (out-CaseElement s).body) d ≤ elements_weight k
    (elements_of items) d
element_in k d items i s h e = let l = in_largest (λ l. elements_weight k (elements_of l) d) (element_one k d)
    (elements_law k d) items i s h in subst (λ y. element_one k d y ≤ elements_weight k (elements_of items) d) (sym e) l

-- ---- room at a depth and a place of the scratch block, where more is required

pub depth_near : (d x n : ℕ) → d + x + n ≤ MAX_NUMBER → d ≤ MAX_NUMBER
depth_near d x n l = omega (arith, l)

pub depth_far : (d x n : ℕ) → d + x + n ≤ MAX_NUMBER → d ≤ 4294967000
depth_far d x n l = omega (arith, l)

pub depth_farther : (d x n : ℕ) → d + x + n ≤ MAX_NUMBER → d ≤ 4294967100
depth_farther d x n l = omega (arith, l)

pub scratch_near : (d x n : ℕ) → d + x + n ≤ MAX_NUMBER → x ≤ MAX_NUMBER
scratch_near d x n l = omega (arith, l)

-- where a first operand already is
pub chain_far : (d x n : ℕ) → d + x + n ≤ MAX_NUMBER + 1 → d ≤ 4294967000
chain_far d x n l = omega (arith, l)

-- ---- a first operand is further on, where others follow

kept_far : (b : Bool) (d : ℕ) → kept b d ≤ d + 8
kept_far true d = omega arith
kept_far false d = omega arith

pub sum_room : (steps : t.ArithmeticSteps) (d n : ℕ) → n ≡ kept (steps_call steps) d → n ≤ d + steps_more steps
sum_room t.no_arithmetic_step d n e = omega (arith, e)
sum_room (t.arithmetic_step_before o a line rest) d n e = let l = kept_far
    (steps_call (t.arithmetic_step_before o a line rest)) d in omega (arith, e, l)

pub truth_room : (operands : t.Operands) (d n : ℕ) → n ≡ kept (operands_call operands) d → n ≤ d
    + operands_more operands
truth_room t.no_operand d n e = omega (arith, e)
truth_room (t.operand_before a rest) d n e = let l = kept_far (operands_call (t.operand_before a rest)) d in omega
    (arith, e, l)

-- ---- variables

entry_far : (k : Scope) (kind : Option Kind) (n up index : ℕ) → (entry_site k kind n up index).offset ≤ name_reach k
    (t.Entry up index)
entry_far k (Some (Reference shape)) n up index = omega arith
entry_far k (Some (Own shape)) n up index = omega arith
entry_far k (Some (Closure kinds result)) n up index = omega arith
entry_far k None n up index = omega arith

pub name_far : (k : Scope) (name : t.PlaceBase) (n : ℕ) → (name_site k name n).offset ≤ name_reach k name
name_far k (t.Entry up index) n = entry_far k (kind_at k up index) n up index
name_far k (t.Opened which type number) n = omega arith

-- where the numbers of selectors go, from a site on
pub record Leads (k : Scope) (a x : ℕ) (items : List Selector) (i : ℕ) (offset : ℕ) : Type 0 where
  pub depth : a + x + selectors_weight k (selectors_of (drop i items)) ≤ MAX_NUMBER
  pub reach : offset + selectors_reach (selectors_of (drop i items)) ≤ MAX_NUMBER

pub leads_start : (k : Scope) (a x : ℕ) (items : List Selector) (offset : ℕ) → a + x + selectors_weight k
    (selectors_of items) ≤ MAX_NUMBER → offset + selectors_reach (selectors_of items) ≤ MAX_NUMBER
    → Leads k a x items 0 offset
leads_start k a x items offset d r = record { depth = d; reach = r }

step_far : (n : Option ℕ) (s : Site) (a more : ℕ) → s.offset + (steps_reach n + more) ≤ MAX_NUMBER
    → (element_site n s a).offset + more ≤ MAX_NUMBER
step_far None s a more l = omega (arith, l)
step_far (Some n) s a more l = omega (arith, l)

first_leads : (k : Scope) (a x : ℕ) (s : t.Selector) (rest : t.Selectors) (site : Site) → a + x + selectors_weight k
    (t.selector_before s rest) ≤ MAX_NUMBER → site.offset + selectors_reach (t.selector_before s rest) ≤ MAX_NUMBER
    → (a + x + selectors_weight k (t.selector_before s t.no_selector) ≤ MAX_NUMBER)
    × (site.offset + selectors_reach (t.selector_before s t.no_selector) ≤ MAX_NUMBER)
    × (a + x + selectors_weight k rest ≤ MAX_NUMBER)
    × ((selector_site s site a).offset + selectors_reach rest ≤ MAX_NUMBER)
first_leads k a x (t.Element type e line) rest site d r = (
  omega (arith, d),
  omega (arith, r),
  omega (arith, d),
  step_far (known_steps type (literal_of e)) site a
      (selectors_reach rest) r,
)
first_leads k a x (t.Field type number) rest site d r =
    (omega (arith, d), omega (arith, r), omega (arith, d), omega (arith, r))
first_leads k a x (t.Target pointer line) rest site d r =
    (omega (arith, d), omega (arith, r), omega (arith, d), omega (arith, d))

split_at : (k : Scope) (items : List Selector) (i : ℕ) (s : Selector) → i < length items → s ≡ get_or items i s
    → selectors_of (drop i items) ≡ t.selector_before (selector_of s) (selectors_of (drop (i + 1) items))
unfolding selectors_of
split_at k items i s h e =
    ap selectors_of (drop-cons items i s h)
    ∙ (let j : suc i ≡ i + 1 = omega arith in ap (λ n. t.selector_before (selector_of (get_or items i s))
    (selectors_of (drop n items))) j)
    ∙ ap (λ y. t.selector_before (selector_of y) (selectors_of (drop (i + 1) items))) (sym e)

leads_all : (k : Scope) (a x : ℕ) (items : List Selector) (i : ℕ) (site : Site) (s : Selector) → i < length items → s
    ≡ get_or items i s → Leads k a x items i site.offset
    → (a + x + selectors_weight k (t.selector_before (selector_of s) t.no_selector) ≤ MAX_NUMBER)
    × (site.offset + selectors_reach (t.selector_before (selector_of s) t.no_selector) ≤ MAX_NUMBER)
    × (a + x + selectors_weight k (selectors_of (drop (i + 1) items)) ≤ MAX_NUMBER)
    × ((selector_site (selector_of s) site a).offset + selectors_reach
    (selectors_of (drop (i + 1) items)) ≤ MAX_NUMBER)
leads_all k a x items i site s h e l =
    let same = split_at k items i s h e in
    first_leads k a x (selector_of s) (selectors_of (drop (i + 1) items)) site
    (subst (λ y. a + x + selectors_weight k y ≤ MAX_NUMBER) same l.depth)
    (subst (λ y. site.offset + selectors_reach y ≤ MAX_NUMBER) same l.reach)

-- the next selector has its room, and those after it
pub leads_depth : (k : Scope) (a x : ℕ) (items : List Selector) (i : ℕ) (site : Site) (s : Selector) → i < length items
    → s ≡ get_or items i s → Leads k a x items i site.offset → a + x + selectors_weight k
    (t.selector_before (selector_of s) t.no_selector) ≤ MAX_NUMBER
leads_depth k a x items i site s h e l = (leads_all k a x items i site s h e l).0

pub leads_reach : (k : Scope) (a x : ℕ) (items : List Selector) (i : ℕ) (site : Site) (s : Selector) → i < length items
    → s ≡ get_or items i s → Leads k a x items i site.offset → site.offset + selectors_reach
    (t.selector_before (selector_of s) t.no_selector) ≤ MAX_NUMBER
leads_reach k a x items i site s h e l = (leads_all k a x items i site s h e l).1

pub leads_next : (k : Scope) (a x : ℕ) (items : List Selector) (i : ℕ) (site to : Site) (s : Selector)
    → i < length items → s ≡ get_or items i s → Leads k a x items i site.offset → to ≡ selector_site
    (selector_of s) site a → Leads k a x items (i + 1) to.offset
leads_next k a x items i site to s h e l f =
    let all = leads_all k a x items i site s h e l in
    record {
      depth = all.2;
      reach = subst (λ (y : Site). y.offset + selectors_reach (selectors_of (drop (i + 1) items)) ≤ MAX_NUMBER)
          (sym f) all.3;
    }

-- ---- actual parameters

held_far : (b : Bool) (d : ℕ) → (d ≤ held b d) × (held b d ≤ d + 1)
held_far true d = omega arith
held_far false d = omega arith

end_far : (a : t.Argument) (n : ℕ) → (n ≤ argument_end a n) × (argument_end a n ≤ n + 3)
end_far (t.ByRoutine r up) n = omega arith
end_far (t.ByFormal up index) n = omega arith
end_far _ n = omega arith

-- they end after where they begin, within what they weigh
pub arguments_far : (k : Scope) (list : t.Arguments) (d : ℕ) → (d ≤ arguments_end list d)
    × (arguments_end list d ≤ d + arguments_weight k list)
arguments_far k t.no_argument d = omega arith
arguments_far k (t.argument_before a rest) d =
    let h = held_far (arguments_call rest) d in
    let e = end_far a (held (arguments_call rest) d) in
    let w = arguments_far k rest (argument_end a (held (arguments_call rest) d)) in
    omega (arith, h, e, w)

-- ---- `with`

-- the depth after records
pub with_far : (places : List t.Place) (c : Bool) (d : ℕ) → (d ≤ with_depth places c d)
    × (with_depth places c d ≤ d + 8 * length places)
with_far [] c d = omega arith
with_far (p ∷ rest) c d =
    let h = held_far c d in
    let e = place_far p (held c d) in
    let w = with_far rest c (suc (place_temporary p (held c d))) in
    omega (arith, h, e, w)
  where
    place_far : (p : t.Place) (n : ℕ) → (n ≤ place_temporary p n) × (place_temporary p n ≤ n + 1)
    place_far (t.Variable name selectors) n = kept_near _ n
      where
        kept_near : (b : Bool) (n : ℕ) → (n ≤ kept b n) × (kept b n ≤ n + 1)
        kept_near true n = omega arith
        kept_near false n = omega arith

-- ---- actual parameters one by one

-- room for those from the one numbered i on
pub record Handing (k : Scope) (items : List Argument) (i depth scratch : ℕ) : Type 0 where
  pub room : depth + scratch + arguments_weight k (arguments_of (drop i items)) ≤ MAX_NUMBER

pub handing_start : (k : Scope) (items : List Argument) (depth scratch : ℕ) → depth + scratch + arguments_weight k
    (arguments_of items) ≤ MAX_NUMBER → Handing k items 0 depth scratch
handing_start k items depth scratch l = record { room = l }

arguments_at : (k : Scope) (items : List Argument) (i : ℕ) (a : Argument) → i < length items → a ≡ get_or items i a
    → arguments_weight k (arguments_of (drop i items)) ≡ 8 + max (argument_weight k (argument_of a))
    (argument_scratch (argument_of a) + arguments_weight k (arguments_of (drop (i + 1) items)))
unfolding arguments_of
arguments_at k items i a h e =
    ap (λ l. arguments_weight k (arguments_of l)) (drop-cons items i a h)
    ∙ (let j : suc i ≡ i + 1 = omega arith in ap (λ n. 8 + max (argument_weight k (argument_of (get_or items i a)))
    (argument_scratch (argument_of (get_or items i a)) + arguments_weight k (arguments_of (drop n items)))) j)
    ∙ ap (λ y. 8 + max (argument_weight k (argument_of y))
    (argument_scratch (argument_of y) + arguments_weight k (arguments_of (drop (i + 1) items)))) (sym e)

pub handing_one : (k : Scope) (items : List Argument) (i depth scratch n : ℕ) (a : Argument) → i < length items → a
    ≡ get_or items i a → Handing k items i depth scratch → n ≤ depth + 1
    → (n + scratch + argument_weight k (argument_of a) ≤ MAX_NUMBER)
    × (scratch + argument_scratch (argument_of a) ≤ MAX_NUMBER)
handing_one k items i depth scratch n a h e s l = let at = arguments_at k items i a h e in let r = s.room in omega
    (arith, at, r, l)

pub handing_next : (k : Scope) (items : List Argument) (i depth scratch n end further : ℕ) (a : Argument)
    → i < length items → a ≡ get_or items i a → Handing k items i depth scratch → n ≤ depth + 1 → end ≤ n + 3 → further
    ≡ scratch + argument_scratch (argument_of a) → Handing k items (i + 1) end further
handing_next k items i depth scratch n end further a h e s l m f = record {
  room = (let at = arguments_at k items i a h e in let r = s.room in omega (arith, at, r, l, m, f));
}

-- their ends, where the last is known to be no number too large
pub ending_one : (items : List Argument) (i depth most : ℕ) → arguments_end (arguments_of (drop i items)) depth ≤ most
    → depth ≤ most
ending_one items i depth most h = let l = ends_far (arguments_of (drop i items)) depth in omega (arith, h, l)
  where
    ends_far : (list : t.Arguments) (d : ℕ) → d ≤ arguments_end list d
    ends_far t.no_argument d = omega arith
    ends_far (t.argument_before a rest) d =
        let h = held_far (arguments_call rest) d in
        let e = end_far a (held (arguments_call rest) d) in
        let w = ends_far rest (argument_end a (held (arguments_call rest) d)) in
        omega (arith, h, e, w)

-- ---- forms of arguments and structures, read again

pub variable_room : (k : Scope) (a : Argument) (p : Place) → a ≡ Variable p → 8 + place_weight k
    (place_of p) ≤ argument_weight k (argument_of a)
variable_room k a p e = let w = ap (λ y. argument_weight k (argument_of y)) e ∙ ap (argument_weight k)
    (argument_of_Variable p) in omega (arith, w)

pub contents_room : (k : Scope) (e : Structure) (b : Box Place Global) (ty : Ty) (p : Place) → e ≡ Contents b ty → p
    ≡ b.value → 8 + place_weight k (place_of p) ≤ structure_weight k (structure_of e)
contents_room k e b ty p is at =
    let w = ap (λ y. structure_weight k (structure_of y)) is ∙ ap (structure_weight k) (structure_of_Contents b ty) in
    let q = ap (λ y. place_weight k (place_of y)) at in
    omega (arith, w, q)

-- ---- a body within records that are open

pub body_room : (k : Scope) (places : List t.Place) (s : t.Statement) (c : Bool) (d depth : ℕ) (here : Scope) → c
    ≡ (statement_calls s || places_call places) → here ≡ with_scope k places c d → depth ≡ with_depth places c d → d
    + statement_weight k (t.With places s) d ≤ MAX_NUMBER → depth + statement_weight here s depth ≤ MAX_NUMBER
body_room k places s c d depth here is g f l =
    let b : Bool = statement_calls s || places_call places in
    let u = with_far places b d in
    let w = ap (λ (y : Scope). statement_weight y s depth) (g ∙ ap (λ z. with_scope k places z d) is)
    ∙ ap (λ n. statement_weight (with_scope k places b d) s n) (f ∙ ap (λ z. with_depth places z d) is) in
    let e = f ∙ ap (λ z. with_depth places z d) is in
    omega (arith, l, u, w, e)
