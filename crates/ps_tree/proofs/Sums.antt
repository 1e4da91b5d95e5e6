-- Loops that add up the extents of a list's items.
use Rattle.std.proofs.Common.{◌≡◌, ℕ, suc, map, ◌+◌, ◌<◌, ◌≤◌, List, [], ◌∷◌, length, drop, get_or, refl, sym, ap, ◌∙◌}
use Rattle.std.proofs.Common.{arith}
use Rattle.std.proofs.Math.Seq.{drop-cons}
use Rattle.std.proofs.lemmas.List.{drop_all}
use Rattle.ps_tree.specs.declared.count.Extent.{Extent}
use Rattle.ps_tree.specs.Counts.{◌⊕◌, nothing, capped, argument_extent, arguments_extent, member_extent}
use Rattle.ps_tree.specs.Counts.{members_extent, place_extent, selector_extent, selectors_extent, expr_extent}
use Rattle.ps_tree.specs.Counts.{arithmetic_extent, operands_extent, set_extent, set_steps_extent, node, places_extent}
use Rattle.ps_tree.specs.Counts.{read_extent, reads_extent, write_extent, writes_extent}
use Rattle.ps_tree.specs.View.{argument_of, arguments_of, member_of, members_of, place_of, selector_of, selectors_of}
use Rattle.ps_tree.specs.View.{expr_of, arithmetic_of, operands_of, set_of, set_steps_of, read_of, write_of}
use Rattle.ps_tree.specs.declared.tree.Argument.{Argument}
use Rattle.ps_tree.specs.declared.tree.Member.{Member}
use Rattle.ps_tree.specs.declared.tree.Place.{Place}
use Rattle.ps_tree.specs.declared.tree.Selector.{Selector}
use Rattle.ps_tree.specs.declared.tree.Expr.{Expr}
use Rattle.ps_tree.specs.declared.tree.ArithmeticStep.{ArithmeticStep, out-ArithmeticStep}
use Rattle.ps_tree.specs.declared.tree.SetStep.{SetStep, out-SetStep}
use Rattle.ps_tree.specs.declared.tree.statements.ReadVariable.{ReadVariable}
use Rattle.ps_tree.specs.declared.tree.statements.WriteParameter.{WriteParameter}

extent_eq : (m n p q : ℕ) → m ≡ p → n ≡ q → let a : Extent = record {
  nodes = m;
  taken = n;
} in let b : Extent = record {
  nodes = p;
  taken = q;
} in a ≡ b
extent_eq m n p q e f = cc

assoc : (a b c : Extent) → (a ⊕ b) ⊕ c ≡ a ⊕ (b ⊕ c)
assoc a b c = extent_eq _ _ _ _ (omega arith) (omega arith)

nothing_right : (a : Extent) → a ⊕ nothing ≡ a
nothing_right a = extent_eq _ _ _ _ (omega arith) (omega arith)

-- the items before i are added to what was there at the start
pub record Summed {A : Type 0} (size : List A → Extent) (start : Extent) (items : List A) (i : ℕ) (total : Extent)
    : Type 0 where
  pub so_far : Extent
  pub told : total ≡ capped so_far
  pub left : so_far ⊕ size (drop i items) ≡ start ⊕ size items

pub summed_start : {A : Type 0} (size : List A → Extent) (start : Extent) (items : List A) (total : Extent) → total
    ≡ capped start → Summed size start items 0 total
summed_start size start items total e = record { so_far = start; told = e; left = refl }

pub summed_next : {A : Type 0} (size : List A → Extent) (one : A → Extent)
    → ((x : A) (xs : List A) → size (x ∷ xs) ≡ one x ⊕ size xs) → (start : Extent) (items : List A) (i : ℕ)
    (total item next : Extent) (d : A) → i < length items → Summed size start items i total → item ≡ capped
    (one (get_or items i d)) → ((x y : Extent) → total ≡ capped x → item ≡ capped y → next ≡ capped (x ⊕ y))
    → Summed size start items (i + 1) next
summed_next size one law start items i total item next d h s e f = record {
  so_far = s.so_far ⊕ one (get_or items i d);
  told = f s.so_far (one (get_or items i d)) s.told e;
  left =
      (let k : i + 1 ≡ suc i = omega arith in ap (λ j. (s.so_far ⊕ one (get_or items i d)) ⊕ size (drop j items)) k)
      ∙ assoc s.so_far (one (get_or items i d)) (size (drop (suc i) items))
      ∙ ap (λ x. s.so_far ⊕ x) (sym (law (get_or items i d) (drop (suc i) items)))
      ∙ ap (λ l. s.so_far ⊕ size l) (sym (drop-cons items i d h))
      ∙ s.left;
}

pub summed_end : {A : Type 0} (size : List A → Extent) → size [] ≡ nothing → (start : Extent) (items : List A) (i : ℕ)
    (total : Extent) → length items ≤ i → Summed size start items i total → total ≡ capped (start ⊕ size items)
summed_end size none start items i total h s =
    s.told ∙ ap capped (sym (nothing_right s.so_far) ∙ ap (λ x. s.so_far ⊕ x) (sym none) ∙ ap (λ l. s.so_far ⊕ size l)
    (sym (drop_all i items h)) ∙ s.left)

nothing_left : (a : Extent) → nothing ⊕ a ≡ a
nothing_left a = extent_eq _ _ _ _ (omega arith) (omega arith)

pub summed_all : {A : Type 0} (size : List A → Extent) → size [] ≡ nothing → (items : List A) (i : ℕ) (total : Extent)
    → length items ≤ i → Summed size nothing items i total → total ≡ capped (size items)
summed_all size none items i total h s = summed_end size none nothing items i total h s ∙ ap capped
    (nothing_left (size items))

-- the arguments of a call
abbrev pub arguments_size : List Argument → Extent
arguments_size items = arguments_extent (arguments_of items)

pub arguments_none : arguments_size [] ≡ nothing
unfolding arguments_extent arguments_of
arguments_none = refl

pub arguments_more : (x : Argument) (xs : List Argument) → arguments_size (x ∷ xs) ≡ argument_extent (argument_of x)
    ⊕ arguments_size xs
unfolding arguments_extent arguments_of
arguments_more x xs = refl

-- the members of a set constructor
abbrev pub members_size : List Member → Extent
members_size items = members_extent (members_of items)

pub members_none : members_size [] ≡ nothing
unfolding members_extent members_of
members_none = refl

pub members_more : (x : Member) (xs : List Member) → members_size (x ∷ xs) ≡ member_extent (member_of x)
    ⊕ members_size xs
unfolding members_extent members_of
members_more x xs = refl

-- the selectors of a variable
abbrev pub selector_one : Selector → Extent
selector_one s = selector_extent (selector_of s)

abbrev pub selectors_size : List Selector → Extent
selectors_size items = selectors_extent (selectors_of items)

pub selectors_none : selectors_size [] ≡ nothing
unfolding selectors_extent selectors_of
selectors_none = refl

pub selectors_more : (x : Selector) (xs : List Selector) → selectors_size (x ∷ xs) ≡ selector_extent (selector_of x)
    ⊕ selectors_size xs
unfolding selectors_extent selectors_of
selectors_more x xs = refl

-- operators with their operands
abbrev pub arithmetic_one : ArithmeticStep → Extent
arithmetic_one s = node ⊕ expr_extent (expr_of (out-ArithmeticStep s).operand)

abbrev pub arithmetic_size : List ArithmeticStep → Extent
arithmetic_size items = arithmetic_extent (arithmetic_of items)

pub arithmetic_none : arithmetic_size [] ≡ nothing
unfolding arithmetic_extent arithmetic_of
arithmetic_none = refl

pub arithmetic_more : (x : ArithmeticStep) (xs : List ArithmeticStep) → arithmetic_size (x ∷ xs) ≡ arithmetic_one x
    ⊕ arithmetic_size xs
unfolding arithmetic_extent arithmetic_of
arithmetic_more x xs = refl

abbrev pub operand_one : Expr → Extent
operand_one e = node ⊕ expr_extent (expr_of e)

abbrev pub operands_size : List Expr → Extent
operands_size items = operands_extent (operands_of items)

pub operands_none : operands_size [] ≡ nothing
unfolding operands_extent operands_of
operands_none = refl

pub operands_more : (x : Expr) (xs : List Expr) → operands_size (x ∷ xs) ≡ operand_one x ⊕ operands_size xs
unfolding operands_extent operands_of
operands_more x xs = refl

abbrev pub set_step_one : SetStep → Extent
set_step_one s = node ⊕ set_extent (set_of (out-SetStep s).operand)

abbrev pub set_steps_size : List SetStep → Extent
set_steps_size items = set_steps_extent (set_steps_of items)

pub set_steps_none : set_steps_size [] ≡ nothing
unfolding set_steps_extent set_steps_of
set_steps_none = refl

pub set_steps_more : (x : SetStep) (xs : List SetStep) → set_steps_size (x ∷ xs) ≡ set_step_one x ⊕ set_steps_size xs
unfolding set_steps_extent set_steps_of
set_steps_more x xs = refl

abbrev pub places_size : List Place → Extent
places_size items = places_extent (map place_of items)

pub places_none : places_size [] ≡ nothing
unfolding places_extent
places_none = refl

pub places_more : (x : Place) (xs : List Place) → places_size (x ∷ xs) ≡ place_extent (place_of x) ⊕ places_size xs
unfolding places_extent
places_more x xs = refl

abbrev pub reads_size : List ReadVariable → Extent
reads_size items = reads_extent (map read_of items)

pub reads_none : reads_size [] ≡ nothing
unfolding reads_extent
reads_none = refl

pub reads_more : (x : ReadVariable) (xs : List ReadVariable) → reads_size (x ∷ xs) ≡ read_extent (read_of x)
    ⊕ reads_size xs
unfolding reads_extent
reads_more x xs = refl

abbrev pub writes_size : List WriteParameter → Extent
writes_size items = writes_extent (map write_of items)

pub writes_none : writes_size [] ≡ nothing
unfolding writes_extent
writes_none = refl

pub writes_more : (x : WriteParameter) (xs : List WriteParameter) → writes_size (x ∷ xs) ≡ write_extent (write_of x)
    ⊕ writes_size xs
unfolding writes_extent
writes_more x xs = refl
