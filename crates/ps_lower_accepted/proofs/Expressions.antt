-- What is known of the value of each expression and of each variable, by their derivations (6.5, 6.7).
use Rattle.std.proofs.Common.{◌≡◌, ℕ, zero, suc, List, [], ◌∷◌, ◌++◌, map, ℤ, pos, Option, Some, None, IsTrue}
use Rattle.std.proofs.Common.{refl, sym, ap, ◌∙◌, subst, arith, lt-ltb}
use Rattle.ps_text.specs.declared.Span.{Span}
use Rattle.ps_scan.specs.Values.{number_of_digits, characters}
use Rattle.ps_syntax.specs.First.{sign_or}
use Rattle.ps_syntax.specs.declared.expression.Sign.{Sign}
use Rattle.ps_syntax.specs.declared.expression.Expr.{Expr}
use Rattle.ps_syntax.specs.declared.expression.Factor.{Factor}
use Rattle.ps_syntax.specs.declared.expression.Member.{Member}
use Rattle.ps_syntax.specs.declared.expression.Selector.{Selector}
use Rattle.ps_syntax.specs.declared.expression.Simple.{out-roll-Simple}
use Rattle.ps_syntax.specs.declared.expression.Term.{out-roll-Term}
use Rattle.ps_syntax.specs.declared.expression.AddedTerm.{AddedTerm, out-roll-AddedTerm}
use Rattle.ps_syntax.specs.declared.expression.MultipliedFactor.{MultipliedFactor}
use Rattle.ps_parse_grammar.specs.Symbols.{Tokens, Symbol, nothing, Many, none, more, Separated, one, several}
use Rattle.ps_parse_grammar.specs.Expressions as g
use Rattle.ps_parse_grammar.specs.Expressions.{IsMember, IsSelector, IsVariable, IsFactor, IsMultiplied, IsTerm}
use Rattle.ps_parse_grammar.specs.Expressions.{IsAdded, IsSimple, IsExpr, factor_within, expr_within}
use Rattle.ps_tree.specs.Tree as Tree
use Rattle.tac_code.specs.Numbers.{is_integer}
use Rattle.ps_lower_layout.specs.Shapes.{Shape}
use Rattle.ps_lower_code.specs.Scopes.{Scope}
use Rattle.tac_code.specs.Sound.{IsLine}
use Rattle.tac_code.specs.declared.code.TheConstants.{NUMBER_LIMIT}
use Rattle.ps_lower_code.specs.Fits.{MembersFit, MemberFits}
use Rattle.ps_lower_accepted.proofs.Sound.{line_there}
use Rattle.ps_check_names.specs.Constants.{integer, OrdinalConstant, TextConstant, number_at, text_constant}
use Rattle.ps_check_judgement.specs.declared.refusal.Rule.TheVariants.{WrongKind}
use Rattle.ps_check_judgement.specs.Judged.{Yes, No}
use Rattle.ps_check_judgement.specs.Changing.{Changing, ◌>>=◌, still, through}
use Rattle.ps_check_judgement.proofs.Binds.{then_yes, provided_yes, inside_yes, no_yes}
use Rattle.ps_check_names.specs.Spelling.{bytes_at, line_in, spelled}
use Rattle.ps_check_names.specs.Regions.{Context, Region, Point, BlockPoint, FieldPoint, ConstantMeaning, TextMeaning}
use Rattle.ps_check_names.specs.Regions.{TypeMeaning, VariableMeaning, ParameterMeaning, RoutineParameterMeaning}
use Rattle.ps_check_names.specs.Regions.{RoutineMeaning, FileMeaning, RequiredMeaning, LeftOutMeaning}
use Rattle.ps_check_expressions.specs.Names.{denoted}
use Rattle.ps_check_expressions.specs.declared.operators.Operands.{Operands}
use Rattle.ps_check_expressions.specs.Places.{variable_at, component, target}
use Rattle.ps_check_expressions.specs.Values.{Value, Variable, Operand, plain, loaded, ordinal_of, member_list}
use Rattle.ps_check_expressions.specs.Operators.{added, multiplied}
use Rattle.ps_check_expressions.specs.Expressions.{constant_value, alone, Step, all_steps, operands, TypedMember}
use Rattle.ps_check_expressions.specs.Expressions.{SeenMember, single, several as several_members, Gathered, gathered}
use Rattle.ps_check_expressions.specs.Expressions.{constructed, gather, set_value, standing, named_value}
use Rattle.ps_check_expressions.specs.Expressions.{named_variable, first_term, selected_variable, variable_seen}
use Rattle.ps_check_expressions.specs.Expressions.{term_seen, simple_seen, call_value, indexed, operand, factor_operand}
use Rattle.ps_check_expressions.specs.Expressions.{member_at, select, add_term, multiply_factor, simple_operand}
use Rattle.ps_check_expressions.specs.Expressions.{term_operand, variable_operand}
use Rattle.ps_check_expressions.proofs.Equations.{operand_simple, operand_compare, factor_variable, factor_call}
use Rattle.ps_check_expressions.proofs.Equations.{factor_number, factor_text, factor_nil, factor_set, factor_not}
use Rattle.ps_check_expressions.proofs.Equations.{member_single, member_several, select_index, select_field}
use Rattle.ps_check_expressions.proofs.Equations.{select_content, simple_is, term_is, add_term_is, multiply_factor_is}
use Rattle.ps_check_expressions.proofs.Equations.{variable_is}
use Rattle.ps_lower_accepted.proofs.Groups.{grouped_operand}
use Rattle.ps_lower_accepted.proofs.Aims.{ExpressionsTell, VariablesTell}
use Rattle.ps_lower_accepted.proofs.Calls.{called_told, ordinal_told, char_known}
use Rattle.ps_lower_accepted.proofs.Lists.{Each, Gives, then_gives, same_gives, still_gives, still_then, then_still}
use Rattle.ps_lower_accepted.proofs.Lists.{then_same, through_end, through_next, as_given}
use Rattle.ps_lower_accepted.proofs.Names.{denoted_stands}
use Rattle.ps_lower_accepted.proofs.Operators.{integer_known, sign_told, negated_told, added_told, multiplied_told}
use Rattle.ps_lower_accepted.proofs.Operators.{compared_told}
use Rattle.ps_lower_accepted.proofs.Selected.{element_told, component_told, target_told, point_told, loaded_told}
use Rattle.ps_lower_accepted.proofs.Standing.{IsText, Here, PointStands}
use Rattle.ps_lower_accepted.proofs.Tables.{Table}
use Rattle.ps_lower_accepted.proofs.Told.{VariableTold, ValueTold, OperandTold}
use Rattle.ps_lower_accepted.proofs.TextBytes.{within_text}

pub integer_there : (w : List ℕ) → IsTrue (is_integer (pos (number_of_digits w)))
integer_there w = lt-ltb (number_of_digits w) NUMBER_LIMIT (omega arith)

module _ (D : Table) (k : Scope) (os : List Shape) where
  -- ---- operands that are not variables

  plain_told : (n : ℕ) (m : Changing Value) → ((v : Value) → Gives m v → ValueTold D k os v) → OperandTold D k os
      (plain n m)
  plain_told n m h = record { value = h; variable = λ v q. absurd (no_yes q.given) }

  abbrev Keeps : {A : Type 0} → (A → Type 0) → Step A → Type 0
  Keeps {A} P step = (first : ℕ) (x y : A) → P x → Gives (step first x) y → P y

  -- one step after another
  steps_told : {A : Type 0} (P : A → Type 0) (first : ℕ) (fs : List (Step A)) (x y : A) → Each (Keeps P) fs → P x
      → Gives (all_steps first fs x) y → P y
  steps_told {A} P first [] x y h p q = subst P (through_end (λ (y : A) (f : Step A). f first y) x y q) p
  steps_told {A} P first (f ∷ fs) x y h p q = let z = through_next (λ (y : A) (f : Step A). f first y) x f fs y q
      in steps_told P first fs z.0 y h.1 (h.0 first x z.0 p z.1) z.2

  -- ---- set constructors (6.7.1)

  abbrev MemberTold : TypedMember → Type 0
  MemberTold t = MemberFits k os t.0

  abbrev SeenTold : SeenMember → Type 0
  SeenTold x = (t : TypedMember) → Gives x.member t → MemberTold t

  members_after : (ms : List Tree.Member) (t : Tree.Member) → MembersFit k os (member_list ms) → MemberFits k os t
      → MembersFit k os (member_list (ms ++ t ∷ []))
  members_after [] t h g = (g, tt)
  members_after (x ∷ ms) t h g = (h.0, members_after ms t h.1 g)

  abbrev GatheredTold : Gathered → Type 0
  GatheredTold g = MembersFit k os (member_list g.0)

  gathered_told : (at : ℕ) (x : Gathered) (t : TypedMember) (y : Gathered) → GatheredTold x → MemberTold t
      → gathered at x t ≡ Yes y → GatheredTold y
  unfolding gathered
  gathered_told at (ms, None) (t, o) y h g q = subst GatheredTold (inside_yes _ y q) (members_after ms t h g)
  gathered_told at (ms, Some p) (t, o) y h g q = subst GatheredTold (provided_yes _ _ _ _ y q).1
      (members_after ms t h g)

  all_gathered : (x : Gathered) (ts : List SeenMember) (y : Gathered) → GatheredTold x → Each SeenTold ts → Gives
      (through gather x ts) y → GatheredTold y
  all_gathered x [] y h g q = subst GatheredTold (through_end gather x y q) h
  all_gathered x (o ∷ ts) y h g q =
      let z = through_next gather x o ts y q in
      let t = then_still o.member (gathered o.first x) z.0 z.1 in
      all_gathered z.0 ts y (gathered_told o.first x t.0 z.0 h (g.0 t.0 t.1) t.2) g.1 z.2

  constructed_told : (x : Gathered) → GatheredTold x → ValueTold D k os (constructed x)
  unfolding constructed
  constructed_told (ms, None) h = h
  constructed_told (ms, Some o) h = h

  set_told : (ts : List SeenMember) (v : Value) → Each SeenTold ts → Gives (set_value ts) v → ValueTold D k os v
  set_told ts v h q =
      let x = then_same (through gather ([], None) ts) _ v q in
      subst (ValueTold D k os) x.2 (constructed_told x.0 (all_gathered ([], None) ts x.0 tt h x.1))

  single_told : (at : ℕ) (v : Value) (line : ℕ) → IsLine line → ValueTold D k os v → (t : TypedMember)
      → single at v line ≡ Yes t → MemberTold t
  single_told at v line l h t q =
      let a = then_yes (ordinal_of at v) _ t q in
      subst MemberTold (inside_yes _ t a.2) ((ordinal_told D k os at v a.0 h a.1).1, l)

  several_told : (at : Operands) (v w : Value) (line : ℕ) → IsLine line → ValueTold D k os v → ValueTold D k os w
      → (t : TypedMember) → several_members at v w line ≡ Yes t → MemberTold t
  several_told at v w line l h g t q =
      let a = then_yes (ordinal_of at.first v) _ t q in
      let b = then_yes (ordinal_of at.second w) _ t a.2 in
      let x = (ordinal_told D k os at.first v a.0 h a.1).1 in
      let y = (ordinal_told D k os at.second w b.0 g b.1).1 in
      subst MemberTold (provided_yes _ _ _ _ t b.2).1 (x, y, l)

  -- ---- constants

  constant_number : (at : ℕ) (n : ℤ) (v : Value) → IsTrue (is_integer n) → constant_value at (OrdinalConstant integer n)
      ≡ Yes v → ValueTold D k os v
  unfolding constant_value
  constant_number at n v h q = subst (ValueTold D k os) (inside_yes _ v q) (integer_known D, (refl, h))

  module _ (c : Context) (Γ : List Region) (here : Here c Γ D k os) where
    text_there : (at : Span) → IsText (characters (bytes_at c.text at))
    text_there at = within_text c.text at here.bytes here.short

    constant_text : (at : ℕ) (w : List ℕ) (v : Value) → IsText w → constant_value at (text_constant w) ≡ Yes v
        → ValueTold D k os v
    unfolding constant_value
    constant_text at [] v h q = subst (ValueTold D k os) (inside_yes _ v q) (refl, h)
    constant_text at (a ∷ []) v h q = subst (ValueTold D k os) (inside_yes _ v q)
        (char_known D, (refl, lt-ltb a NUMBER_LIMIT (let l = h.bytes.0 in omega (arith, l))))
    constant_text at (a ∷ b ∷ rest) v h q = subst (ValueTold D k os) (provided_yes _ _ _ _ v q).1 (refl, h)

    -- ---- names

    standing_told : (at : ℕ) (p : Point) (v : Value) → PointStands D k os p → Gives (standing c Γ at p) v
        → ValueTold D k os v
    unfolding standing constant_value
    standing_told at (BlockPoint up (ConstantMeaning o n)) v st q = subst (ValueTold D k os)
        (inside_yes _ v (still_gives (constant_value at (OrdinalConstant o n)) v q)) (st.0.0, (refl, st.0.1))
    standing_told at (BlockPoint up (TextMeaning w)) v st q = subst (ValueTold D k os)
        (provided_yes _ _ _ _ v (still_gives (constant_value at (TextConstant w)) v q)).1 (refl, st.0)
    standing_told at (BlockPoint up (VariableMeaning entry type)) v st q =
        let x = then_yes (variable_at at (BlockPoint up (VariableMeaning entry type))) (loaded at) v (still_gives _ v q)
        in
        loaded_told D k os at x.0 v (point_told D k os at (BlockPoint up (VariableMeaning entry type)) x.0 st x.1) x.2
    standing_told at (BlockPoint up (ParameterMeaning entry type)) v st q =
        let x = then_yes (variable_at at (BlockPoint up (ParameterMeaning entry type))) (loaded at) v
        (still_gives _ v q) in
        loaded_told D k os at x.0 v (point_told D k os at (BlockPoint up (ParameterMeaning entry type)) x.0 st x.1) x.2
    standing_told at (FieldPoint which record_type number type) v st q =
        let x = then_yes (variable_at at (FieldPoint which record_type number type)) (loaded at) v (still_gives _ v q)
        in
        loaded_told D k os at x.0 v (point_told D k os at (FieldPoint which record_type number type) x.0 st x.1) x.2
    standing_told at (BlockPoint up (TypeMeaning type)) v st q = called_told D k os c Γ here at
        (BlockPoint up (TypeMeaning type)) [] v st tt q
    standing_told at (BlockPoint up (RoutineParameterMeaning entry sections result)) v st q = called_told D k os c Γ
        here at (BlockPoint up (RoutineParameterMeaning entry sections result)) [] v st tt q
    standing_told at (BlockPoint up (RoutineMeaning h)) v st q = called_told D k os c Γ here at
        (BlockPoint up (RoutineMeaning h)) [] v st tt q
    standing_told at (BlockPoint up (FileMeaning file)) v st q = called_told D k os c Γ here at
        (BlockPoint up (FileMeaning file)) [] v st tt q
    standing_told at (BlockPoint up (RequiredMeaning r)) v st q = called_told D k os c Γ here at
        (BlockPoint up (RequiredMeaning r)) [] v st tt q
    standing_told at (BlockPoint up LeftOutMeaning) v st q = called_told D k os c Γ here at
        (BlockPoint up LeftOutMeaning) [] v st tt q

    named_told : (name : Span) (v : Value) → Gives (named_value c Γ name) v → ValueTold D k os v
    named_told name v q =
        let p = still_then (denoted c Γ name) _ v q in
        standing_told name.from p.0 v (denoted_stands c Γ D k os here name p.0 p.1) p.2

    pub name_told : (name : Span) (v : Variable) → Gives (named_variable c Γ name) v → VariableTold D k os v
    name_told name v q =
        let p = then_yes (denoted c Γ name) (variable_at name.from) v (still_gives _ v q) in
        point_told D k os name.from p.0 v (denoted_stands c Γ D k os here name p.0 p.1) p.2

    -- ---- what is seen of parts

    variable_seen_told : (name : Span) (fs : List (Step Variable)) → Each (Keeps (VariableTold D k os)) fs
        → OperandTold D k os (variable_seen c Γ name fs)
    unfolding variable_seen
    variable_seen_told name [] h = record { value = named_told name; variable = name_told name }
    variable_seen_told name (f ∷ fs) h = record {
      value = λ v q. let x = then_still (selected_variable c Γ name (f ∷ fs)) (loaded name.from) v q
          in loaded_told D k os name.from x.0 v (selected x.0 x.1) x.2;
      variable = selected;
    }
      where
        selected : (v : Variable) → Gives (selected_variable c Γ name (f ∷ fs)) v → VariableTold D k os v
        selected v q = let x = then_gives (named_variable c Γ name) (all_steps name.from (f ∷ fs)) v q in steps_told
            (VariableTold D k os) name.from (f ∷ fs) x.0 v h (name_told name x.0 x.1) x.2

    -- a variable that is left alone is there
    alone_there : {A : Type 0} {B : Type 0} (at : ℕ) (sign : Option (Sign × Span)) (xs : List A) (m : Changing B)
        (x : B) → Gives (alone (still (No WrongKind at)) sign xs m) x → Gives m x
    alone_there at None [] m x q = q
    alone_there at None (y ∷ ys) m x q = absurd (no_yes q.given)
    alone_there at (Some s) xs m x q = absurd (no_yes q.given)

    term_seen_told : (x : Operand) (fs : List (Step Value)) → OperandTold D k os x → Each (Keeps (ValueTold D k os)) fs
        → OperandTold D k os (term_seen c Γ x fs)
    unfolding term_seen
    term_seen_told x fs told h = record {
      value = λ v q. let y = then_gives x.value (all_steps x.first fs) v q in steps_told
          (ValueTold D k os) x.first fs y.0 v h (told.value y.0 y.1) y.2;
      variable = λ v q. told.variable v (alone_there x.first None fs x.variable v q);
    }

    first_told : (at : ℕ) (sign : Option (Sign × Span)) (v w : Value) → ValueTold D k os v → first_term c Γ at sign v
        ≡ Yes w → ValueTold D k os w
    unfolding first_term
    first_told at None v w h q = subst (ValueTold D k os) (inside_yes v w q) h
    first_told at (Some s) v w h q = sign_told D k os at s.0 (line_in c.text s.1.from)
        (line_there c.text s.1.from here.lines) v w h q

    simple_seen_told : (sign : Option (Sign × Span)) (x : Operand) (fs : List (Step Value)) → OperandTold D k os x
        → Each (Keeps (ValueTold D k os)) fs → OperandTold D k os (simple_seen c Γ sign x fs)
    unfolding simple_seen
    simple_seen_told sign x fs told h = record {
      value = λ v q.
          let z = then_gives (x.value >>= (λ v. still (first_term c Γ x.first sign v)))
          (all_steps (sign_or sign x.first) fs) v q in
          let y = then_still x.value (first_term c Γ x.first sign) z.0 z.1 in
          steps_told (ValueTold D k os) (sign_or sign x.first) fs z.0 v h
          (first_told x.first sign y.0 z.0 (told.value y.0 y.1) y.2) z.2;
      variable = λ v q. told.variable v (alone_there (sign_or sign x.first) sign fs x.variable v q);
    }

    -- ---- the parts of a variable, where expressions in it are known

    abbrev Tells : {A : Type 0} → (A → Operand) → Symbol A → Type 0
    Tells {A} seen symbol = (x : A) (ts r : Tokens) → symbol x ts r → OperandTold D k os (seen x)

    module _ (expr : Symbol Expr) (exprs_tell : Tells (operand c Γ) expr) where
      separated_told : {separator : _} (xs : List Expr) (ts r : Tokens) → Separated separator expr xs ts r → Each
          (OperandTold D k os) (map (operand c Γ) xs)
      separated_told [] ts r d = elim d [ ]
      separated_told (x ∷ []) ts r (one d) = (exprs_tell x _ _ d, tt)
      separated_told (x ∷ xs) ts r (several d rest) = (exprs_tell x _ _ d, separated_told xs _ _ rest)

      indices_told : (first : ℕ) (xs : List Operand) (v w : Variable) → Each (OperandTold D k os) xs
          → VariableTold D k os v → Gives (through (indexed c Γ first) v xs) w → VariableTold D k os w
      indices_told first [] v w h t q = subst (VariableTold D k os) (through_end (indexed c Γ first) v w q) t
      indices_told first (x ∷ xs) v w h t q =
          let y = through_next (indexed c Γ first) v x xs w q in
          let i = then_still x.value _ y.0 y.1 in
          indices_told first xs y.0 w h.1 (element_told D k os (operands first x.first) v i.0 (line_in c.text x.first)
          (line_there c.text x.first here.lines) y.0 t (h.0.value i.0 i.1) i.2) y.2

      selector_told : (x : Selector) (ts r : Tokens) → IsSelector expr x ts r → Keeps (VariableTold D k os)
          (select c Γ x)
      selector_told x ts r (g.index {xs = xs} d) first v w t q = indices_told first (map (operand c Γ) xs) v w
          (separated_told xs _ _ d) t (as_given (ap (λ h. h first v) (select_index c Γ xs)) q)
      selector_told x ts r (g.field {at = at}) first v w t q = component_told D k os first at.from v
          (spelled c.text at) w t (still_gives (component first at.from v.place v.type (spelled c.text at)) w
          (as_given (ap (λ h. h first v) (select_field c Γ at)) q))
      selector_told x ts r (g.content {at = at}) first v w t q = target_told D k os first c Γ here v
          (line_in c.text at.from) (line_there c.text at.from here.lines) w t
          (still_gives (target first c.domains v.place v.type (line_in c.text at.from)) w
          (as_given (ap (λ h. h first v) (select_content c Γ at)) q))

      selectors_told : (xs : List Selector) (ts r : Tokens) → Many (IsSelector expr) xs ts r → Each
          (Keeps (VariableTold D k os)) (map (select c Γ) xs)
      selectors_told [] ts r none = tt
      selectors_told (x ∷ xs) ts r (more d rest) = (selector_told x _ _ d, selectors_told xs _ _ rest)

      pub variables_tell : Tells (variable_operand c Γ) (IsVariable expr)
      variables_tell x ts r (g.selected {at = at} {xs = xs} d) = subst (OperandTold D k os) (sym (variable_is c Γ x))
          (variable_seen_told at (map (select c Γ) xs) (selectors_told xs _ _ d))

      -- ---- factors

      member_told : (x : Member) (ts r : Tokens) → IsMember expr x ts r → SeenTold (member_at c Γ x)
      member_told x ts r (g.single {x = y} d) t q =
          let told = exprs_tell y _ _ d in
          let v = then_still (operand c Γ y).value
          (λ v. single (operand c Γ y).first v (line_in c.text (operand c Γ y).first)) t
          (as_given (ap (λ m. m.member) (member_single c Γ y)) q) in
          single_told (operand c Γ y).first v.0 (line_in c.text (operand c Γ y).first)
          (line_there c.text (operand c Γ y).first here.lines) (told.value v.0 v.1) t v.2
      member_told x ts r (g.range {x = y} {y = z} d d') t q =
          let v = then_gives (operand c Γ y).value _ t (as_given (ap (λ m. m.member) (member_several c Γ y z)) q) in
          let w = then_still (operand c Γ z).value _ t v.2 in
          let told = exprs_tell y _ _ d in
          let told' = exprs_tell z _ _ d' in
          several_told (operands (operand c Γ y).first (operand c Γ z).first) v.0 w.0
          (line_in c.text (operand c Γ y).first) (line_there c.text (operand c Γ y).first here.lines)
          (told.value v.0 v.1) (told'.value w.0 w.1) t w.2

      members_told : {separator : _} (xs : List Member) (ts r : Tokens) → Separated separator (IsMember expr) xs ts r
          → Each SeenTold (map (member_at c Γ) xs)
      members_told [] ts r d = elim d [ ]
      members_told (x ∷ []) ts r (one d) = (member_told x _ _ d, tt)
      members_told (x ∷ xs) ts r (several d rest) = (member_told x _ _ d, members_told xs _ _ rest)

      module _ (factor' : Symbol Factor) (factors_tell' : Tells (factor_operand c Γ) factor') where
        factors_tell : Tells (factor_operand c Γ) (IsFactor expr factor')
        factors_tell x ts r (g.variable {v = v} d) = subst (OperandTold D k os) (sym (factor_variable c Γ v))
            (variables_tell v _ _ d)
        factors_tell x ts r (g.call {at = at} {xs = xs} d) = subst (OperandTold D k os) (sym (factor_call c Γ at xs))
            (plain_told at.from (call_value c Γ at (map (operand c Γ) xs)) (λ v q.
            let p = still_then (denoted c Γ at) _ v q in
            called_told D k os c Γ here at.from p.0 (map (operand c Γ) xs) v (denoted_stands c Γ D k os here at p.0 p.1)
            (separated_told xs _ _ d) p.2))
        factors_tell x ts r (g.number {at = at}) = subst (OperandTold D k os) (sym (factor_number c Γ at))
            (plain_told at.from _ (λ v q. constant_number at.from (number_at c.text at) v
            (integer_there (bytes_at c.text at)) (still_gives _ v q)))
        factors_tell x ts r (g.text {at = at}) = subst (OperandTold D k os) (sym (factor_text c Γ at))
            (plain_told at.from _ (λ v q. constant_text at.from (characters (bytes_at c.text at)) v (text_there at)
            (still_gives _ v q)))
        factors_tell x ts r (g.nil {at = at}) = subst (OperandTold D k os) (sym (factor_nil c Γ at))
            (plain_told at.from _ (λ v q. subst (ValueTold D k os) (same_gives _ v q) (λ n. (n, refl))))
        factors_tell x ts r (g.empty {left = at}) = subst (OperandTold D k os) (sym (factor_set c Γ at []))
            (plain_told at.from _ (λ v q. set_told [] v tt q))
        factors_tell x ts r (g.set {left = at} {xs = xs} d) = subst (OperandTold D k os) (sym (factor_set c Γ at xs))
            (plain_told at.from _ (λ v q. set_told (map (member_at c Γ) xs) v (members_told xs _ _ d) q))
        factors_tell x ts r (g.group {left = at} {x = y} d) = subst (OperandTold D k os)
            (sym (grouped_operand c Γ at y)) (plain_told at.from (operand c Γ y).value
            (let told = exprs_tell y _ _ d in told.value))
        factors_tell x ts r (g.not {at = at} {x = y} d) = subst (OperandTold D k os) (sym (factor_not c Γ at y))
            (plain_told at.from _ (λ v q.
            let w = then_still (factor_operand c Γ y).value _ v q in
            let told = factors_tell' y _ _ d in
            negated_told D k os (factor_operand c Γ y).first w.0 v (told.value w.0 w.1) w.2))

    -- ---- terms and expressions, where factors in them are known

    module _ (factor : Symbol Factor) (factors : Tells (factor_operand c Γ) factor) where
      multiplied_tell : (x : MultipliedFactor) (ts r : Tokens) → IsMultiplied factor x ts r → Keeps (ValueTold D k os)
          (multiply_factor c Γ x)
      multiplied_tell x ts r (g.multiplied op at y d) first v w t q =
          let u = then_still (factor_operand c Γ y).value
          (multiplied (operands first (factor_operand c Γ y).first) op (line_in c.text at.from) v) w
          (as_given (multiply_factor_is c Γ x first v) q) in
          let told = factors y _ _ d in
          multiplied_told D k os (operands first (factor_operand c Γ y).first) op (line_in c.text at.from)
          (line_there c.text at.from here.lines) v u.0 w t (told.value u.0 u.1) u.2

      all_multiplied : (xs : List MultipliedFactor) (ts r : Tokens) → Many (IsMultiplied factor) xs ts r → Each
          (Keeps (ValueTold D k os)) (map (multiply_factor c Γ) xs)
      all_multiplied [] ts r none = tt
      all_multiplied (x ∷ xs) ts r (more d rest) = (multiplied_tell x _ _ d, all_multiplied xs _ _ rest)

      terms_tell : Tells (term_operand c Γ) (IsTerm factor)
      terms_tell x ts r (g.term y ys d rest) = subst (OperandTold D k os)
          (sym (term_is c Γ x ∙ ap (λ z. term_seen c Γ (factor_operand c Γ z.first) (map (multiply_factor c Γ) z.more))
          (out-roll-Term (record {
            first = y;
            more = ys;
          })))) (term_seen_told (factor_operand c Γ y) (map (multiply_factor c Γ) ys) (factors y _ _ d)
          (all_multiplied ys _ _ rest))

      added_tell : (x : AddedTerm) (ts r : Tokens) → IsAdded (IsTerm factor) x ts r → Keeps (ValueTold D k os)
          (add_term c Γ x)
      added_tell x ts r (g.added op at y d) first v w t q =
          let is = add_term_is c Γ x first v ∙ ap (λ z. (term_operand c Γ z.term).value
          >>= (λ w. still (added (operands first (term_operand c Γ z.term).first) z.operator
          (line_in c.text z.at.from) v w))) (out-roll-AddedTerm (record {
            operator = op;
            at = at;
            term = y;
          })) in
          let u = then_still (term_operand c Γ y).value
          (added (operands first (term_operand c Γ y).first) op (line_in c.text at.from) v) w (as_given is q) in
          let told = terms_tell y _ _ d in
          added_told D k os (operands first (term_operand c Γ y).first) op (line_in c.text at.from)
          (line_there c.text at.from here.lines) v u.0 w t (told.value u.0 u.1) u.2

      all_added : (xs : List AddedTerm) (ts r : Tokens) → Many (IsAdded (IsTerm factor)) xs ts r → Each
          (Keeps (ValueTold D k os)) (map (add_term c Γ) xs)
      all_added [] ts r none = tt
      all_added (x ∷ xs) ts r (more d rest) = (added_tell x _ _ d, all_added xs _ _ rest)

      simples_tell : Tells (simple_operand c Γ) (IsSimple (IsTerm factor))
      simples_tell x ts r (g.plain y ys d rest) = subst (OperandTold D k os)
          (sym (simple_is c Γ x ∙ ap (λ z. simple_seen c Γ z.sign (term_operand c Γ z.first)
          (map (add_term c Γ) z.more)) (out-roll-Simple (record {
            sign = None;
            first = y;
            more = ys;
          })))) (simple_seen_told None (term_operand c Γ y) (map (add_term c Γ) ys) (terms_tell y _ _ d)
          (all_added ys _ _ rest))
      simples_tell x ts r (g.signed sign at y ys d rest) = subst (OperandTold D k os)
          (sym (simple_is c Γ x ∙ ap (λ z. simple_seen c Γ z.sign (term_operand c Γ z.first)
          (map (add_term c Γ) z.more)) (out-roll-Simple (record {
            sign = Some (sign, at);
            first = y;
            more = ys;
          })))) (simple_seen_told (Some (sign, at)) (term_operand c Γ y) (map (add_term c Γ) ys) (terms_tell y _ _ d)
          (all_added ys _ _ rest))

      pub exprs_tell : Tells (operand c Γ) (IsExpr (IsSimple (IsTerm factor)))
      exprs_tell x ts r (g.alone {x = y} d) = subst (OperandTold D k os) (sym (operand_simple c Γ y))
          (simples_tell y _ _ d)
      exprs_tell x ts r (g.compare op at y z d d') = subst (OperandTold D k os) (sym (operand_compare c Γ y op at z))
          (plain_told (simple_operand c Γ y).first _ (λ v q.
          let a = then_gives (simple_operand c Γ y).value _ v q in
          let b = then_still (simple_operand c Γ z).value _ v a.2 in
          let told = simples_tell y _ _ d in
          let told' = simples_tell z _ _ d' in
          compared_told D k os (operands (simple_operand c Γ y).first (simple_operand c Γ z).first) op a.0 b.0 v
          (told.value a.0 a.1) (told'.value b.0 b.1) b.2))

    -- ---- all of them

    nothing_tells : {A : Type 0} (seen : A → Operand) → Tells seen nothing
    nothing_tells seen x ts r d = absurd d

    factors_within : (n : ℕ) → Tells (factor_operand c Γ) (factor_within n)
    factors_within zero = factors_tell nothing (nothing_tells (operand c Γ)) nothing
        (nothing_tells (factor_operand c Γ))
    factors_within (suc n) = factors_tell (IsExpr (IsSimple (IsTerm (factor_within n))))
        (exprs_tell (factor_within n) (factors_within n)) (factor_within n) (factors_within n)

    pub exprs_within : (n : ℕ) → Tells (operand c Γ) (expr_within n)
    exprs_within zero = nothing_tells (operand c Γ)
    exprs_within (suc n) = exprs_tell (factor_within n) (factors_within n)

pub expressions_tell : ExpressionsTell
expressions_tell c Γ D k os here n x ts r d = exprs_within D k os c Γ here n x ts r d

pub variables_within : VariablesTell
variables_within c Γ D k os here n x ts r d = variables_tell D k os c Γ here (expr_within n)
    (exprs_within D k os c Γ here n) x ts r d
