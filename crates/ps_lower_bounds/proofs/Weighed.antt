-- The numbers that arise with variables, expressions and actual parameters: 128 for each node, 4 for each cell that is
-- copied, and offsets.
use Rattle.std.proofs.Common.{◌≡◌, ℕ, zero, suc, ◌+◌, ◌*◌, ◌≤◌, max, Bool, true, false, if◌then◌else◌, nat_eq, IsTrue}
use Rattle.std.proofs.Common.{List, pos, ◌&&◌, int_le, Option, Some, None, sym, ap, subst, arith, mul-le-mul_right}
use Rattle.ps_tree.specs.declared.count.Extent.{Extent}
use Rattle.ps_tree.specs.Counts.{place_extent, selector_extent, selectors_extent, expr_extent, arithmetic_extent}
use Rattle.ps_tree.specs.Counts.{operands_extent, set_extent, set_steps_extent, member_extent, members_extent}
use Rattle.ps_tree.specs.Counts.{structure_extent, argument_extent, arguments_extent}
use Rattle.ps_tree.specs.Tree.{PlaceBase, Entry, Opened, Place, Variable, Element, Field, Target, Selectors}
use Rattle.ps_tree.specs.Tree.{no_selector, selector_before, ArithmeticSteps, no_arithmetic_step}
use Rattle.ps_tree.specs.Tree.{arithmetic_step_before, Operands, no_operand, operand_before, SetSteps, no_set_step}
use Rattle.ps_tree.specs.Tree.{set_step_before, Expr, Number, Nil, Load, Plus, Minus, Not, Arithmetic, Logic, Compare}
use Rattle.ps_tree.specs.Tree.{ComparePointers, CompareSets, CompareStrings, In, Apply, Eof, Eoln, Call, CallFormal}
use Rattle.ps_tree.specs.Tree.{SetExpr, LoadSet, Constructor, Combine, Member, One, Several, Members, no_member}
use Rattle.ps_tree.specs.Tree.{member_before, Structure, Literal, Contents, Argument, ByValue, BySet, ByCopy}
use Rattle.ps_tree.specs.Tree.{ByVariable, ByRoutine, ByFormal, Arguments, no_argument, argument_before, domain_at}
use Rattle.tac_code.specs.declared.code.Base.TheVariants as base
use Rattle.ps_lower_layout.specs.Shapes.{Shape, NumberShape, PointerShape, SetShape, ByteShape, ArrayShape}
use Rattle.ps_lower_layout.specs.Shapes.{RecordShape, Shapes, no_shape, shape_before, shape_of, word_count}
use Rattle.ps_lower_layout.specs.Shapes.{word_counts, byte_count, field_offset, Part, Whole, component_part}
use Rattle.ps_lower_code.specs.Scopes.{Site, Scope, kept}
use Rattle.ps_lower_code.specs.Calling.{selectors_call}
use Rattle.ps_lower_code.specs.Values.{literal_of, known_steps, element_site, name_site, text_length}
use Rattle.ps_lower_code.specs.First.{FirstFits, FieldsFit}
use Rattle.ps_lower_code.specs.Values.{place_site}
use Rattle.ps_lower_bounds.specs.Forms.{IsSmall}
use Rattle.ps_lower_code.specs.Fits.{PlaceFits, SelectorsFit, ExprFits, StepsFit, OperandsFit, SetFits, SetStepsFit}
use Rattle.ps_lower_code.specs.Fits.{MemberFits, MembersFit, ContentsFit, ArgumentFits, ArgumentsFit}
use Rattle.ps_lower_layout.specs.Paths.{Sort, NumberSort}
use Rattle.ps_lower_layout.specs.Frames.{Kind, Closure, Kinds}
use Rattle.ps_lower_bounds.proofs.Lists.{Each}
use Rattle.ps_lower_bounds.proofs.Counts.{Few, few_bytes, KindFew, HeadingFew, KindsFew, ProgramFew}
use Rattle.ps_lower_bounds.proofs.Few.{components_there, kind_few, contents_of, text_small}
use Rattle.ps_lower_bounds.specs.Weights.{unless, excess, first_weight, fields_weight, steps_reach, selectors_reach}
use Rattle.ps_lower_bounds.specs.Weights.{name_reach, place_weight, selectors_weight, expr_weight, steps_weight}
use Rattle.ps_lower_bounds.specs.Weights.{operands_weight, set_weight, set_steps_weight, member_weight, members_weight}
use Rattle.ps_lower_bounds.specs.Weights.{structure_weight, argument_weight, arguments_weight}
use Rattle.ps_lower_bounds.proofs.Narrow.{part_bytes, component_most, field_part_in, known_in, Reach, SitesReach}
use Rattle.ps_lower_bounds.proofs.Narrow.{element_reach, Framed, entry_most, name_reach as name_lies}
use Rattle.ps_lower_bounds.proofs.NarrowValues.{place_reach}
use Rattle.ps_lower_bounds.proofs.Values.{scratch_most, argument_node}

-- what a part of the tree of an extent weighs at most
abbrev pub Light : ℕ → Extent → Type 0
Light weight extent = weight ≤ 2000000 + 128 * extent.nodes + 4 * extent.taken

pub no_excess : (n : ℕ) → IsSmall n → excess n ≡ 0
no_excess n l = omega (arith, l)

pub larger : (a b n : ℕ) → a ≤ n → b ≤ n → max a b ≤ n
larger a b n l m = omega (arith, l, m)

-- ---- first values

pub asked : (b : Bool) → IsTrue b → unless b ≡ 0
asked b h = ap unless h

-- an array has the first component's first value, and copies of it
array_first : (count each w : ℕ) → w ≤ 4 * each
    → (if nat_eq (count * each) 0 then 0 else max (count * (4 * each)) w) ≤ 4 * (count * each)
array_first zero each w l =
    let e : 0 * each ≡ 0 = omega arith in
    subst (λ n. (if nat_eq n 0 then 0 else max (0 * (4 * each)) w) ≤ 4 * (0 * each)) (sym e) (omega arith)
array_first (suc n) each w l = go (nat_eq (suc n * each) 0)
  where
    go : (b : Bool) → (if b then 0 else max (suc n * (4 * each)) w) ≤ 4 * (suc n * each)
    go true = omega arith
    go false =
        let one : 1 ≤ suc n = omega arith in
        let m = mul-le-mul_right each one in
        let e : suc n * (4 * each) ≡ 4 * (suc n * each) = grind arith in
        omega (arith, l, m, e)

mutual
  pub first_light : (shape : Shape) → FirstFits shape → first_weight shape ≤ byte_count shape
  first_light (NumberShape first narrow) h = omega arith
  first_light (PointerShape pointer) h = omega arith
  first_light SetShape h = omega arith
  first_light (ByteShape count first) h = let e = asked (int_le (pos 0) first && int_le first (pos 255)) h in omega
      (arith, e)
  first_light (ArrayShape count shape) h = array_first count (word_count shape) (first_weight shape)
      (first_light shape h)
  first_light (RecordShape shapes) h = fields_light shapes h

  fields_light : (shapes : Shapes) → FieldsFit shapes → fields_weight shapes ≤ 4 * word_counts shapes
  fields_light no_shape h = omega arith
  fields_light (shape_before shape rest) h = let a = first_light shape h.0 in let b = fields_light rest h.1 in omega
      (arith, a, b)

-- ---- variables, expressions and actual parameters

module _ (k : Scope) (b : Framed k.program) (os : List Shape) (o : SitesReach k.opened os)
    (program : ProgramFew k.program) (opened : Each Few os) where
  name_far : (name : PlaceBase) (t : ℕ) → name_reach k name ≤ (name_site k name t).offset + 500000
  name_far (Entry up index) t = let l = entry_most k b up index in omega (arith, l)
  name_far (Opened which type number) t = omega arith

  -- no selector leads past the frame or the object
  selectors_far : (selectors : Selectors) (s : Site) (t : ℕ) (part part' : Part)
      → SelectorsFit k os selectors part part' → Reach s part → s.offset + selectors_reach selectors ≤ 1000000
  selectors_far no_selector s t part part' f r = omega (arith, r)
  selectors_far (selector_before (Element type e line) rest) s t part part' f r =
      let l : s.offset + byte_count (shape_of type) ≤ 1000000 = subst (λ p. s.offset + part_bytes p ≤ 1000000) f.0 r in
      let h = components_there type f.1 in
      let q = selectors_far rest (element_site (known_steps type (literal_of e)) s t) t
      (component_part (shape_of type)) part' f.4
      (element_reach type (known_steps type (literal_of e)) s t h (known_in type h (literal_of e)) l) in
      further (known_steps type (literal_of e)) (selectors_reach rest) q
    where
      further : (n : Option ℕ) (more : ℕ) → (element_site n s t).offset + more ≤ 1000000 → s.offset
          + (steps_reach n + more) ≤ 1000000
      further None more l = omega (arith, l)
      further (Some n) more l = omega (arith, l)
  selectors_far (selector_before (Field type number) rest) s t part part' f r =
      let l : s.offset + byte_count (shape_of type) ≤ 1000000 = subst (λ p. s.offset + part_bytes p ≤ 1000000) f.0 r in
      let m = field_part_in (shape_of type) number f.1.0 f.1.1 in
      let q = selectors_far rest (record {
        base = s.base;
        offset = s.offset + field_offset (shape_of type) number;
      }) t (Whole f.1.0) part' f.1.2 (omega (arith, l, m)) in
      omega (arith, q)
  selectors_far (selector_before (Target pointer line) rest) s t part part' f r = omega (arith, r)

  mutual
    unfolding place_extent selector_extent selectors_extent expr_extent arithmetic_extent operands_extent set_extent
        set_steps_extent member_extent members_extent structure_extent argument_extent arguments_extent

    -- there is room for what is done with a variable
    pub place_light : (p : Place) (part : Part) → PlaceFits k os p part → Light (64 + place_weight k p) (place_extent p)
    place_light (Variable name selectors) part f =
        let t = kept (selectors_call selectors) 0 in
        let r = name_lies k b os o name t f.0 f.1 in
        let n = name_far name t in
        let q = selectors_far selectors (name_site k name t) t (Whole f.0) part f.2 r in
        let w = selectors_light selectors (name_site k name t) t (Whole f.0) part f.2 r in
        let m = larger (name_reach k name + selectors_reach selectors) (selectors_weight k selectors)
        (2000000 + 128 * (selectors_extent selectors).nodes + 4 * (selectors_extent selectors).taken)
        (omega (arith, n, q)) w in
        omega (arith, m)

    selectors_light : (selectors : Selectors) (s : Site) (t : ℕ) (part part' : Part)
        → SelectorsFit k os selectors part part' → Reach s part → Light (selectors_weight k selectors)
        (selectors_extent selectors)
    selectors_light no_selector s t part part' f r = omega arith
    selectors_light (selector_before (Element type e line) rest) s t part part' f r =
        let l : s.offset + byte_count (shape_of type) ≤ 1000000 = subst (λ p. s.offset + part_bytes p ≤ 1000000) f.0 r
        in
        let h = components_there type f.1 in let m = component_most type h in
        let a = expr_light e NumberSort f.2 in
        let w = selectors_light rest (element_site (known_steps type (literal_of e)) s t) t
        (component_part (shape_of type)) part' f.4
        (element_reach type (known_steps type (literal_of e)) s t h (known_in type h (literal_of e)) l) in
        omega (arith, l, m, a, w)
    selectors_light (selector_before (Field type number) rest) s t part part' f r =
        let l : s.offset + byte_count (shape_of type) ≤ 1000000 = subst (λ p. s.offset + part_bytes p ≤ 1000000) f.0 r
        in
        let m = field_part_in (shape_of type) number f.1.0 f.1.1 in
        let w = selectors_light rest (record {
          base = s.base;
          offset = s.offset + field_offset (shape_of type) number;
        }) t (Whole f.1.0) part' f.1.2 (omega (arith, l, m)) in
        omega (arith, w)
    selectors_light (selector_before (Target pointer line) rest) s t part part' f r =
        let d : Reach (record {
          base = base.Temporary t;
          offset = 0;
        }) (Whole (shape_of (domain_at k.program pointer))) = (let l = b.domains pointer in omega (arith, l)) in
        let q = selectors_far rest (record {
          base = base.Temporary t;
          offset = 0;
        }) t (Whole (shape_of (domain_at k.program pointer))) part' f.2 d in
        let w = selectors_light rest (record {
          base = base.Temporary t;
          offset = 0;
        }) t (Whole (shape_of (domain_at k.program pointer))) part' f.2 d in
        omega (arith, q, w)

    pub expr_light : (e : Expr) (sort : Sort) → ExprFits k os e sort → Light (expr_weight k e) (expr_extent e)
    expr_light (Number n) sort f = omega arith
    expr_light Nil sort f = omega arith
    expr_light (Load p) sort f = let h = place_light p f.0 f.2 in omega (arith, h)
    expr_light (Plus e) sort f = let h = expr_light e _ f.1 in omega (arith, h)
    expr_light (Minus e line) sort f = let h = expr_light e _ f.1 in omega (arith, h)
    expr_light (Not e) sort f = let h = expr_light e _ f.1 in omega (arith, h)
    expr_light (Arithmetic e no_arithmetic_step) sort f = let h = expr_light e _ f.1 in omega (arith, h)
    expr_light (Arithmetic e (arithmetic_step_before operator a line rest)) sort f =
        let h = expr_light e _ f.1 in let w = steps_light (arithmetic_step_before operator a line rest) f.2 in
        larger (8 + expr_weight k e) (steps_weight k (arithmetic_step_before operator a line rest)) _ (omega (arith, h))
        (omega (arith, w))
    expr_light (Logic operator e no_operand) sort f = let h = expr_light e _ f.1 in omega (arith, h)
    expr_light (Logic operator e (operand_before a rest)) sort f =
        let h = expr_light e _ f.1 in let w = operands_light (operand_before a rest) f.2 in
        larger (8 + expr_weight k e) (operands_weight k (operand_before a rest)) _ (omega (arith, h)) (omega (arith, w))
    expr_light (Compare relation a e) sort f = let h = expr_light a _ f.1 in let w = expr_light e _ f.2 in omega
        (arith, h, w)
    expr_light (ComparePointers relation a e) sort f = let h = expr_light a _ f.1.1 in let w = expr_light e _ f.1.2
        in omega (arith, h, w)
    expr_light (CompareSets relation a e) sort f = let h = set_light a f.1 in let w = set_light e f.2 in omega
        (arith, h, w)
    expr_light (CompareStrings relation a e) sort f =
        let h = structure_light a _ (contents_of k os a f.1).1 in
        let w = structure_light e _ (contents_of k os e f.2).1 in
        let x = no_excess (text_length a) (text_small k program os opened a f.1) in omega (arith, h, w, x)
    expr_light (In a e) sort f = let h = expr_light a _ f.1 in let w = set_light e f.2 in omega (arith, h, w)
    expr_light (Apply function e line) sort f = let h = expr_light e _ f.2 in omega (arith, h)
    expr_light Eof sort f = omega arith
    expr_light (Eoln line) sort f = omega arith
    expr_light (Call r up arguments line) sort f = let few = (program.routines r).heading in
        let h = arguments_light arguments _ f.2 few.1 in omega (arith, h)
    expr_light (CallFormal up index arguments line) sort f =
        let few : HeadingFew f.1.0 = kind_few k program up index (Closure f.1.0 (Some f.1.1.0)) f.1.1.1 in
        let h = arguments_light arguments _ f.1.2 few.1 in let l = entry_most k b up index in omega (arith, h, l)

    steps_light : (steps : ArithmeticSteps) → StepsFit k os steps → Light (steps_weight k steps)
        (arithmetic_extent steps)
    steps_light no_arithmetic_step f = omega arith
    steps_light (arithmetic_step_before operator e line rest) f = let h = expr_light e _ f.0
        in let w = steps_light rest f.1 in omega (arith, h, w)

    operands_light : (operands : Operands) → OperandsFit k os operands → Light (operands_weight k operands)
        (operands_extent operands)
    operands_light no_operand f = omega arith
    operands_light (operand_before e rest) f = let h = expr_light e _ f.0 in let w = operands_light rest f.1 in omega
        (arith, h, w)

    pub set_light : (e : SetExpr) → SetFits k os e → Light (set_weight k e) (set_extent e)
    set_light (LoadSet p) f = place_light p (Whole SetShape) f
    set_light (Constructor members) f = let h = members_light members f in omega (arith, h)
    set_light (Combine e steps) f = let h = set_light e f.0 in let w = set_steps_light steps f.1 in omega
        (arith, h, w)

    set_steps_light : (steps : SetSteps) → SetStepsFit k os steps → Light (set_steps_weight k steps)
        (set_steps_extent steps)
    set_steps_light no_set_step f = omega arith
    set_steps_light (set_step_before operator e rest) f = let h = set_light e f.0 in let w = set_steps_light rest f.1
        in omega (arith, h, w)

    member_light : (m : Member) → MemberFits k os m → Light (member_weight k m) (member_extent m)
    member_light (One e line) f = let h = expr_light e _ f.0 in omega (arith, h)
    member_light (Several a e line) f = let h = expr_light a _ f.0 in let w = expr_light e _ f.1 in omega
        (arith, h, w)

    members_light : (members : Members) → MembersFit k os members → Light (members_weight k members)
        (members_extent members)
    members_light no_member f = omega arith
    members_light (member_before m rest) f =
        let h = member_light m f.0 in let w = members_light rest f.1 in omega (arith, h, w)

    pub structure_light : (e : Structure) (shape : Shape) → ContentsFit k os e shape → Light (structure_weight k e)
        (structure_extent e)
    structure_light (Literal characters) shape f = omega arith
    structure_light (Contents p type) shape f =
        let r = subst (λ s. Reach (place_site k p 0) (Whole s)) (sym f.0) (place_reach k b os o p 0 (Whole shape) f.1)
        in
        let h = place_light p (Whole shape) f.1 in
        omega (arith, r, h)

    argument_light : (a : Argument) (kind : Kind) → ArgumentFits k os a kind → KindFew kind → Light
        (8 + argument_weight k a) (argument_extent a)
    argument_light (ByValue e range line) kind f l = let h = expr_light e _ f.3.2 in omega (arith, h)
    argument_light (BySet e low high line) kind f l = let h = set_light e f.1 in omega (arith, h)
    argument_light (ByCopy e type) kind f l =
        let h = structure_light e (shape_of type) f.2 in let m = few_bytes (shape_of type) (subst KindFew f.0 l) in
        let x = no_excess (byte_count (shape_of type)) (omega (arith, m)) in omega (arith, h, x)
    argument_light (ByVariable p) kind f l = let h = place_light p (Whole f.0) f.2 in omega (arith, h)
    argument_light (ByRoutine r up) kind f l = omega arith
    argument_light (ByFormal up index) kind f l = let l = entry_most k b up index in omega (arith, l)

    pub arguments_light : (list : Arguments) (kinds : Kinds) → ArgumentsFit k os list kinds → KindsFew kinds → Light
        (arguments_weight k list) (arguments_extent list)
    arguments_light no_argument kinds f l = omega arith
    arguments_light (argument_before a rest) kinds f l =
        let few = subst KindsFew f.1.1 l in let h = argument_light a _ f.1.2 few.0 in
        let w = arguments_light rest _ f.1.3 few.1 in let s = scratch_most a in let n = argument_node a in
        omega (arith, h, w, s, n)
