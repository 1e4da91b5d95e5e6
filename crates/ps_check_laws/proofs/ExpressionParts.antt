-- Each name used in actual parameters, in variables and in chains that have a value is found there.
use Rattle.std.proofs.Common.{◌≡◌, ℕ, Bool, true, false, not, ◌==◌, List, [], ◌∷◌, ◌++◌, length, map, Option, Some}
use Rattle.std.proofs.Common.{None, refl, sym, ap, ◌∙◌, subst, append-nil, eqb-true, arith}
use Rattle.std.specs.Prelude.{if◌then◌else◌}
use Rattle.std.proofs.lemmas.Option.{same_Some}
use Rattle.ps_check.proofs.EachItem.{each_append}
use Rattle.ps_text.specs.declared.Span.{Span}
use Rattle.ps_syntax.specs.declared.expression.Sign.{Sign}
use Rattle.ps_tree.specs.Tree as Tree
use Rattle.ps_check_names.specs.declared.meaning.Required.{Required}
use Rattle.ps_check_judgement.specs.declared.change.Change.{Change}
use Rattle.ps_check_judgement.specs.declared.refusal.Rule.TheVariants.{NotInProfile, WrongKind, NotCongruous}
use Rattle.ps_check_judgement.specs.Judged as j
use Rattle.ps_check_judgement.specs.Judged.{Judged, Yes, No, holds, some_or, steps}
use Rattle.ps_check_judgement.specs.Changing.{Changing, ◌>>=◌, still, one_more, pairs}
use Rattle.ps_check_judgement.proofs.Binds.{no_yes, then_yes, holds_yes}
use Rattle.ps_check_judgement.proofs.Impossible.{never, none_some}
use Rattle.ps_check_names.specs.Spelling.{line_in}
use Rattle.ps_check_names.specs.Regions.{Context, Region, Point, BlockPoint, Section, ValueSection, VariableSection}
use Rattle.ps_check_names.specs.Regions.{RoutineSection, Sections, RoutineMeaning, RoutineParameterMeaning}
use Rattle.ps_check_names.specs.Regions.{RequiredMeaning}
use Rattle.ps_check_declarations.specs.Points.{Points, all}
use Rattle.ps_check_expressions.specs.Values.{Value, Variable, Operand, plain}
use Rattle.ps_check_expressions.specs.Names.{denoted}
use Rattle.ps_check_expressions.specs.Places.{variable_at}
use Rattle.ps_check_expressions.specs.Calls.{actual, actuals, parameters, named_routine, by_routine, is_input_at}
use Rattle.ps_check_expressions.specs.Calls.{names_input, names_input_at, is_procedure, look, required_value}
use Rattle.ps_check_expressions.specs.Calls.{function_call, required_call, called}
use Rattle.ps_check_expressions.specs.Expressions.{SeenMember, Step, TypedMember, alone, all_steps, named_variable}
use Rattle.ps_check_expressions.specs.Expressions.{selected_variable}
use Rattle.ps_check_expressions.specs.Expressions.{first_term, variable_seen, term_seen, simple_seen, operand}
use Rattle.ps_check_expressions.specs.Expressions.{factor_operand, member_at, select, add_term, multiply_factor}
use Rattle.ps_check_expressions.specs.Expressions.{simple_operand, term_operand, variable_operand}
use Rattle.ps_syntax.specs.First.{sign_or}
use Rattle.ps_check_laws.specs.Occurrences.{expr_uses, variable_uses}
use Rattle.ps_check_laws.proofs.Lists.{then_still, last_still, Each}
use Rattle.ps_syntax.proofs.Nodes.{Claims, parts, proved}
use Rattle.ps_check_laws.proofs.ExpressionUses.{added_uses, factor_uses, member_uses, multiplied_uses, selector_uses}
use Rattle.ps_check_laws.proofs.ExpressionUses.{simple_uses, term_uses}

module _ (c : Context) (Γ : List Region) where
  abbrev pub IsFound : Span → Type 0
  IsFound name = (q : Point) × (denoted c Γ name ≡ Yes q)

  abbrev pub Found : Points → Type 0
  Found names = Each IsFound names

  pub found_both : (xs ys : Points) → Found xs → Found ys → Found (xs ++ ys)
  found_both xs ys a b = each_append IsFound xs ys a b

  -- if an operand has a value, or is a variable, its names are found; if it is a name, it has no other
  pub record Told (o : Operand) (names : Points) : Type 0 where
    pub value : (cs : List Change) (p : Value × List Change) → o.value cs ≡ Yes p → Found names
    pub variable : (cs : List Change) (p : Variable × List Change) → o.variable cs ≡ Yes p → Found names
    pub name : (n : Span) → o.name ≡ Some n → names ≡ n ∷ []

  pub told_by : (o q : Operand) (xs ys : Points) → o ≡ q → xs ≡ ys → Told q ys → Told o xs
  told_by o q xs ys a b t = subst (λ z. Told z xs) (sym a) (subst (λ l. Told q l) (sym b) t)

  pub found_by : (xs ys : Points) → xs ≡ ys → Found ys → Found xs
  found_by xs ys b t = subst Found (sym b) t

  -- neither a variable nor a name
  pub of_plain : (first : ℕ) (m : Changing Value) (names : Points)
      → ((cs : List Change) (p : Value × List Change) → m cs ≡ Yes p → Found names) → Told (plain first m) names
  of_plain first m names h = record {
    value = h;
    variable = λ cs p e. absurd (no_yes e);
    name = λ n e. absurd (none_some e);
  }

  -- what comes after a variable or a value: if there is a result, its names are found
  abbrev AfterTold : {A : Type 0} → Step A → Points → Type 0
  AfterTold {A} s names = (first : ℕ) (v : A) (cs : List Change) (p : A × List Change) → s first v cs ≡ Yes p
      → Found names

  abbrev MemberTold : SeenMember → Points → Type 0
  MemberTold m names = (cs : List Change) (p : TypedMember × List Change) → m.member cs ≡ Yes p → Found names

  abbrev pub told : Claims
  told = record {
    expr = λ x. Told (operand c Γ x) (expr_uses x);
    factor = λ x. Told (factor_operand c Γ x) (factor_uses x);
    member = λ x. MemberTold (member_at c Γ x) (member_uses x);
    selector = λ x. AfterTold (select c Γ x) (selector_uses x);
    added = λ x. AfterTold (add_term c Γ x) (added_uses x);
    multiplied = λ x. AfterTold (multiply_factor c Γ x) (multiplied_uses x);
    simple = λ x. Told (simple_operand c Γ x) (simple_uses x);
    term = λ x. Told (term_operand c Γ x) (term_uses x);
    variable = λ x. Told (variable_operand c Γ x) (variable_uses x);
  }

  -- ---- lists of parts

  -- each step of a reading finds the names of its part
  pub steps_found : {S X B : Type 0} {T : X → Type 0} (step : S → B → Judged S) (read : X → B) (uses : X → Points)
      → ((y : (x : X) × T x) (s t : S) → step s (read y.0) ≡ Yes t → Found (uses y.0))
      → (ys : List ((x : X) × T x)) (s t : S) → steps step s (map read (parts ys)) ≡ Yes t → Found
      (all (map uses (parts ys)))
  steps_found step read uses one [] s t e = tt
  steps_found step read uses one (y ∷ ys) s t e =
      let q = then_yes (step s (read y.0)) _ t e in
      found_both (uses y.0) (all (map uses (parts ys))) (one y s q.0 q.1) (steps_found step read uses one ys q.0 t q.2)

  -- ---- actual parameters

  pub actual_found : (section : Section) (o : Operand) (names : Points) → Told o names → (cs : List Change)
      (p : Tree.Argument × List Change) → actual c Γ section o cs ≡ Yes p → Found names
  unfolding actual
  actual_found (ValueSection n type) o names t cs p e = (let v = then_yes (o.value cs) _ p e in t.value cs v.0 v.1)
  actual_found (VariableSection n type) o names t cs p e =
      (let v = then_yes (o.variable cs) _ p e in t.variable cs v.0 v.1)
  actual_found (RoutineSection sections result) o names t cs p e =
      (let a = last_still (named_routine c Γ sections result o.first o.name) cs p e in at o.name refl a.0 a.1)
    where
      at : (name : Option Span) → o.name ≡ name → (a : Tree.Argument) → named_routine c Γ sections result o.first name
          ≡ Yes a → Found names
      at None g a h = absurd (no_yes h)
      at (Some n) g a h = (let q = then_yes (denoted c Γ n) (by_routine n.from sections result) a h in found_by names
          (n ∷ []) (t.name n g) ((q.0, q.1), tt))

  actuals_found : (sections : List Section) (ys : List (proved told).expr)
      → length sections ≡ length (map (operand c Γ) (parts ys))
      → (s t : List Tree.Argument × List Change)
      → steps (one_more (λ (p : Section × Operand). actual c Γ p.0 p.1)) s
      (pairs sections (map (operand c Γ) (parts ys))) ≡ Yes t → Found (all (map expr_uses (parts ys)))
  actuals_found [] [] l s t e = tt
  actuals_found [] (y ∷ ys) l s t e = absurd (omega (arith, l))
  actuals_found (section ∷ sections) [] l s t e = tt
  actuals_found (section ∷ sections) (y ∷ ys) l s t e =
      let one = then_yes (one_more (λ (p : Section × Operand). actual c Γ p.0 p.1) s (section, operand c Γ y.0)) _ t e
      in
      let a = then_yes (actual c Γ section (operand c Γ y.0) s.1) _ one.0 one.1 in
      found_both (expr_uses y.0) (all (map expr_uses (parts ys)))
      (actual_found section (operand c Γ y.0) (expr_uses y.0) y.1 s.1 a.0 a.1)
      (actuals_found sections ys (omega (arith, l)) one.0 t one.2)

  all_actuals_found : (at : ℕ) (sections : Sections) (ys : List (proved told).expr) (cs : List Change)
      (p : List Tree.Argument × List Change) → actuals c Γ at sections (map (operand c Γ) (parts ys)) cs ≡ Yes p → Found
      (all (map expr_uses (parts ys)))
  all_actuals_found at sections ys cs p e =
      let xs = map (operand c Γ) (parts ys) in
      let h = then_still (holds (length (parameters sections) == length xs) NotCongruous at) cs _ p e in
      let even = eqb-true (length (parameters sections)) (length xs)
      (holds_yes (length (parameters sections) == length xs) NotCongruous at h.0 h.1) in
      actuals_found (parameters sections) ys even ([], cs) p h.2

  is_there : (q : Judged Point) → is_input_at q ≡ true → (p : Point) × (q ≡ Yes p)
  is_there (No rule at) e = never e
  is_there (Yes p) e = (p, refl)

  -- the name of the input
  input_found : (o : Operand) (names : Points) → Told o names → names_input c Γ o ≡ true → Found names
  input_found o names t e = at o.name refl e
    where
      at : (name : Option Span) → o.name ≡ name → names_input_at c Γ name ≡ true → Found names
      at None g h = never h
      at (Some n) g h = found_by names (n ∷ []) (t.name n g) (is_there (denoted c Γ n) h, tt)

  function_found : (at : ℕ) (r : Required) (ys : List (proved told).expr) (cs : List Change) (p : Value × List Change)
      → function_call c Γ at r (map (operand c Γ) (parts ys)) cs ≡ Yes p → Found (all (map expr_uses (parts ys)))
  unfolding function_call
  function_found at r [] cs p e = tt
  function_found at r (y ∷ []) cs p e = by (names_input c Γ (operand c Γ y.0)) refl e
    where
      by : (b : Bool) → names_input c Γ (operand c Γ y.0) ≡ b
          → (if b then still (some_or NotInProfile (operand c Γ y.0).first (look r (line_in c.text at)))
          else ((operand c Γ y.0).value >>= (λ v. still
          (required_value (operand c Γ y.0).first r (line_in c.text at) v)))) cs ≡ Yes p → Found
          (expr_uses y.0 ++ [])
      by true g h = found_both (expr_uses y.0) [] (input_found (operand c Γ y.0) (expr_uses y.0) y.1 g) tt
      by false g h = (let w = then_yes ((operand c Γ y.0).value cs) _ p h in found_both (expr_uses y.0) []
          (y.1.value cs w.0 w.1) tt)
  function_found at r (y ∷ z ∷ ys) cs p e = absurd (no_yes e)

  pub called_found : (at : ℕ) (q : Point) (ys : List (proved told).expr) (cs : List Change) (p : Value × List Change)
      → called c Γ at q
      (map (operand c Γ) (parts ys)) cs ≡ Yes p → Found (all (map expr_uses (parts ys)))
  unfolding called required_call
  called_found at (BlockPoint up (RoutineMeaning h)) ys cs p e =
      let type = then_still (some_or WrongKind at h.result) cs _ p e in
      let found = then_yes (actuals c Γ at h.sections (map (operand c Γ) (parts ys)) cs) _ p type.2 in
      all_actuals_found at h.sections ys cs found.0 found.1
  called_found at (BlockPoint up (RoutineParameterMeaning entry sections result)) ys cs p e =
      let type = then_still (some_or WrongKind at result) cs _ p e in
      let found = then_yes (actuals c Γ at sections (map (operand c Γ) (parts ys)) cs) _ p type.2 in
      all_actuals_found at sections ys cs found.0 found.1
  called_found at (BlockPoint up (RequiredMeaning r)) ys cs p e =
      let h = then_still (holds (not (is_procedure r)) WrongKind at) cs _ p e in
      function_found at r ys cs p h.2
  called_found at q ys cs p e = absurd (no_yes e)

  -- ---- variables

  through_selectors : (first : ℕ) (ys : List (proved told).selector) (v : Variable) (cs : List Change)
      (p : Variable × List Change)
      → all_steps first (map (select c Γ) (parts ys)) v cs ≡ Yes p → Found (all (map selector_uses (parts ys)))
  through_selectors first ys v cs p e = steps_found (λ s f. f first s.0 s.1) (select c Γ) selector_uses
      (λ y s t h. y.1 first s.0 s.1 t h) ys (v, cs) p e

  pub seen_variable : (name : Span) (ys : List (proved told).selector)
      → Told (variable_seen c Γ name (map (select c Γ) (parts ys))) (name ∷ all (map selector_uses (parts ys)))
  unfolding variable_seen
  seen_variable name [] = record {
    value = λ cs p e. (let q = then_still (denoted c Γ name) cs _ p e in ((q.0, q.1), tt));
    variable = λ cs p e. (let a = last_still (j.◌>>=◌ (denoted c Γ name) (variable_at name.from)) cs p e
        in let q = then_yes (denoted c Γ name) (variable_at name.from) a.0 a.1 in ((q.0, q.1), tt));
    name = λ n e. ap (λ x. x ∷ []) (same_Some name n e);
  }
  seen_variable name (y ∷ ys) =
      let there : (cs : List Change) (w : Variable × List Change) → selected_variable c Γ name
      (map (select c Γ) (parts (y ∷ ys))) cs ≡ Yes w → Found (name ∷ all (map selector_uses (parts (y ∷ ys)))) =
      λ cs w e. (let v = then_yes (named_variable c Γ name cs) _ w e in
      let a = last_still (j.◌>>=◌ (denoted c Γ name) (variable_at name.from)) cs v.0 v.1 in
      let q = then_yes (denoted c Γ name) (variable_at name.from) a.0 a.1 in
      ((q.0, q.1), through_selectors name.from (y ∷ ys) v.0.0 v.0.1 w v.2)) in
      record {
        value = λ cs p e. (let w = then_yes (selected_variable c Γ name (map (select c Γ) (parts (y ∷ ys))) cs) _ p e
            in there cs w.0 w.1);
        variable = there;
        name = λ n e. absurd (none_some e);
      }

  -- ---- chains

  lone_variable : {X B : Type 0} {T : X → Type 0} (sign : Option (Sign × Span)) (read : X → B) (uses : X → Points)
      (ys : List ((x : X) × T x)) (first : ℕ) (m : Changing Variable) (cs : List Change) (p : Variable × List Change)
      → alone (still (No WrongKind first)) sign (map read (parts ys)) m cs ≡ Yes p → (m cs ≡ Yes p)
      × (all (map uses (parts ys)) ≡ [])
  lone_variable None read uses [] first m cs p e = (e, refl)
  lone_variable None read uses (z ∷ ys) first m cs p e = absurd (no_yes e)
  lone_variable (Some s) read uses ys first m cs p e = absurd (no_yes e)

  lone_name : {X B : Type 0} {T : X → Type 0} (sign : Option (Sign × Span)) (read : X → B) (uses : X → Points)
      (ys : List ((x : X) × T x)) (o : Option Span) (n : Span) → alone None sign (map read (parts ys)) o ≡ Some n
      → (o ≡ Some n) × (all (map uses (parts ys)) ≡ [])
  lone_name None read uses [] o n e = (e, refl)
  lone_name None read uses (z ∷ ys) o n e = absurd (none_some e)
  lone_name (Some s) read uses ys o n e = absurd (none_some e)

  only_first : (names rest : Points) → rest ≡ [] → names ++ rest ≡ names
  only_first names rest e = ap (λ l. names ++ l) e ∙ append-nil names

  pub seen_term : (o : Operand) (names : Points) → Told o names → (ys : List (proved told).multiplied) → Told
      (term_seen c Γ o (map (multiply_factor c Γ) (parts ys))) (names ++ all (map multiplied_uses (parts ys)))
  unfolding term_seen
  seen_term o names t ys = record {
    value = λ cs p e. (let w = then_yes (o.value cs) _ p e in
        found_both names (all (map multiplied_uses (parts ys))) (t.value cs w.0 w.1)
        (steps_found (λ s f. f o.first s.0 s.1) (multiply_factor c Γ) multiplied_uses
        (λ y s t h. y.1 o.first s.0 s.1 t h) ys (w.0.0, w.0.1) p w.2));
    variable = λ cs p e. (let l = lone_variable None (multiply_factor c Γ) multiplied_uses ys o.first o.variable cs p e
        in found_by _ names (only_first names _ l.1) (t.variable cs p l.0));
    name = λ n e. (let l = lone_name None (multiply_factor c Γ) multiplied_uses ys o.name n e in only_first names _ l.1
        ∙ t.name n l.0);
  }

  pub seen_simple : (sign : Option (Sign × Span)) (o : Operand) (names : Points) → Told o names →
      (ys : List (proved told).added)
      → Told (simple_seen c Γ sign o (map (add_term c Γ) (parts ys))) (names ++ all (map added_uses (parts ys)))
  unfolding simple_seen
  seen_simple sign o names t ys = record {
    value = λ cs p e. (let u = then_yes ((o.value >>= (λ v. still (first_term c Γ o.first sign v))) cs) _ p e in
        let w = then_yes (o.value cs) _ u.0 u.1 in
        found_both names (all (map added_uses (parts ys))) (t.value cs w.0 w.1)
        (steps_found (λ s f. f (sign_or sign o.first) s.0 s.1) (add_term c Γ) added_uses
        (λ y s t h. y.1 (sign_or sign o.first) s.0 s.1 t h) ys (u.0.0, u.0.1) p u.2));
    variable = λ cs p e. (let l = lone_variable sign (add_term c Γ) added_uses ys
        (sign_or sign o.first) o.variable cs p e in found_by _ names (only_first names _ l.1) (t.variable cs p l.0));
    name = λ n e. (let l = lone_name sign (add_term c Γ) added_uses ys o.name n e in only_first names _ l.1
        ∙ t.name n l.0);
  }
