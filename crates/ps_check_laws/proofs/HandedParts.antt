-- What the judgement of actual parameters, variables and chains passes on as changed is what they threaten.
use Rattle.std.proofs.Common.{◌≡◌, ℕ, Bool, true, false, not, ◌==◌, List, [], ◌∷◌, ◌++◌, length, map, Option, Some}
use Rattle.std.proofs.Common.{None, refl, sym, ap, ◌∙◌, subst}
use Rattle.std.specs.Prelude.{if◌then◌else◌}
use Rattle.ps_text.specs.declared.Span.{Span}
use Rattle.ps_syntax.specs.First.{sign_or}
use Rattle.ps_syntax.specs.declared.expression.Sign.{Sign}
use Rattle.ps_tree.specs.Tree as Tree
use Rattle.ps_check_judgement.specs.declared.change.Change.{Change}
use Rattle.ps_check_judgement.specs.declared.refusal.Rule.TheVariants.{NotInProfile, WrongKind, NotCongruous}
use Rattle.ps_check_judgement.specs.Judged as j
use Rattle.ps_check_judgement.specs.Judged.{Yes, No, holds, some_or}
use Rattle.ps_check_judgement.specs.Changing.{Changing, ◌>>=◌, still, pairs}
use Rattle.ps_check_judgement.proofs.Binds.{no_yes, then_yes, provided_yes, some_or_yes}
use Rattle.ps_check_names.specs.declared.meaning.Required.{Required}
use Rattle.ps_check_names.specs.Spelling.{line_in}
use Rattle.ps_check_names.specs.Constants.{OrdinalConstant, TextConstant}
use Rattle.ps_check_names.specs.Regions.{Context, Region, Point, BlockPoint, FieldPoint, Section, ValueSection}
use Rattle.ps_check_names.specs.Regions.{VariableSection, RoutineSection, Sections, ConstantMeaning, TextMeaning}
use Rattle.ps_check_names.specs.Regions.{VariableMeaning, ParameterMeaning, RoutineMeaning, RoutineParameterMeaning}
use Rattle.ps_check_names.specs.Regions.{RequiredMeaning}
use Rattle.ps_check_expressions.specs.Values.{Value, Variable, Operand, plain, loaded, argument_list}
use Rattle.ps_check_expressions.specs.Names.{denoted}
use Rattle.ps_check_expressions.specs.Changed.{changed}
use Rattle.ps_check_expressions.specs.Places.{variable_at}
use Rattle.ps_check_expressions.specs.Calls.{by_routine, named_routine, actual, actuals, parameters, is_procedure}
use Rattle.ps_check_expressions.specs.Calls.{required_value, look, standing_alone, names_input, function_call}
use Rattle.ps_check_expressions.specs.Calls.{required_call, called}
use Rattle.ps_check_expressions.specs.Expressions.{Step, TypedMember, SeenMember, alone, standing, named_variable}
use Rattle.ps_check_expressions.specs.Expressions.{selected_variable, first_term, variable_seen, term_seen, simple_seen}
use Rattle.ps_check_expressions.specs.Expressions.{operand, factor_operand, member_at, select, add_term}
use Rattle.ps_check_expressions.specs.Expressions.{multiply_factor, simple_operand, term_operand, variable_operand}
use Rattle.ps_check_laws.specs.Threats.{Threatened, whole, place_threatens, expr_threatens, argument_threatens}
use Rattle.ps_check_laws.specs.Threats.{arguments_threaten}
use Rattle.ps_syntax.proofs.Nodes.{Claims, parts, proved}
use Rattle.ps_check_laws.proofs.Lists.{then_still, Each}
use Rattle.ps_check_laws.proofs.Values.{value_threatens, contents_threaten, constant_threatens, first_term_threatens}
use Rattle.ps_check_laws.proofs.Values.{variable_none}
use Rattle.ps_check_laws.proofs.Additions.{Adds, adds_none, adds_both, More, adds_more, adds_all, made_adds, still_adds}
use Rattle.ps_check_laws.proofs.Additions.{through_more, each_more, changed_adds}
use Rattle.ps_check_laws.proofs.Parts.{arguments_last, value_passed, variable_passed, routine_passed, looked}
use Rattle.ps_check_laws.proofs.Parts.{required_threatens, member_of}

abbrev pub place_of : Variable → Threatened
place_of v = place_threatens v.place

-- what holds of each holds of what each is read as
pub read_each : {X B : Type 0} {T : X → Type 0} (read : X → B) (P : B → Type 0) → ((y : (x : X) × T x) → P (read y.0))
    → (ys : List ((x : X) × T x)) → Each P (map read (parts ys))
read_each read P h [] = tt
read_each read P h (y ∷ ys) = (h y, read_each read P h ys)

module _ (c : Context) (Γ : List Region) where
  pub record Hands (o : Operand) : Type 0 where
    pub value : (cs : List Change) (p : Value × List Change) → o.value cs ≡ Yes p → Adds c cs p.1 (value_threatens p.0)
    pub variable : (cs : List Change) (p : Variable × List Change) → o.variable cs ≡ Yes p → Adds c cs p.1
        (place_of p.0)

  pub hands_by : (o q : Operand) → o ≡ q → Hands q → Hands o
  hands_by o q e t = subst Hands (sym e) t

  pub of_plain : (first : ℕ) (m : Changing Value)
      → ((cs : List Change) (p : Value × List Change) → m cs ≡ Yes p → Adds c cs p.1 (value_threatens p.0)) → Hands
      (plain first m)
  of_plain first m h = record { value = h; variable = λ cs p e. absurd (no_yes e) }

  abbrev ValueStep : Step Value → Type 0
  ValueStep s = (first : ℕ) (v : Value) (cs : List Change) (p : Value × List Change) → s first v cs ≡ Yes p
      → More c cs p.1 (value_threatens v) (value_threatens p.0)

  abbrev VariableStep : Step Variable → Type 0
  VariableStep s = (first : ℕ) (v : Variable) (cs : List Change) (p : Variable × List Change) → s first v cs ≡ Yes p
      → More c cs p.1 (place_of v) (place_of p.0)

  abbrev MemberStep : SeenMember → Type 0
  MemberStep m = (cs : List Change) (p : TypedMember × List Change) → m.member cs ≡ Yes p → Adds c cs p.1
      (member_of p.0)

  abbrev pub hands : Claims
  hands = record {
    expr = λ x. Hands (operand c Γ x);
    factor = λ x. Hands (factor_operand c Γ x);
    member = λ x. MemberStep (member_at c Γ x);
    selector = λ x. VariableStep (select c Γ x);
    added = λ x. ValueStep (add_term c Γ x);
    multiplied = λ x. ValueStep (multiply_factor c Γ x);
    simple = λ x. Hands (simple_operand c Γ x);
    term = λ x. Hands (term_operand c Γ x);
    variable = λ x. Hands (variable_operand c Γ x);
  }

  -- ---- actual parameters and calls

  pub actual_adds : (section : Section) (o : Operand) → Hands o → (cs : List Change) (p : Tree.Argument × List Change)
      → actual c Γ section o cs ≡ Yes p → Adds c cs p.1 (argument_threatens p.0)
  unfolding actual
  actual_adds (ValueSection n type) o t cs p e =
      let v = then_yes (o.value cs) _ p e in
      still_adds argument_threatens _ cs v.0.1 (value_threatens v.0.0) p v.2 (t.value cs v.0 v.1)
      (λ a h. value_passed o.first type v.0.0 _ a h)
  actual_adds (VariableSection n type) o t cs p e =
      let v = then_yes (o.variable cs) _ p e in
      let d = then_yes (changed c v.0.0.place o.first v.0.1) _ p v.2 in
      let x = adds_both cs v.0.1 d.0.1 (place_of v.0.0) (whole v.0.0.place) (t.variable cs v.0 v.1)
      (changed_adds c v.0.0.place o.first v.0.1 d.0 d.1) in
      still_adds argument_threatens _ cs d.0.1 (place_of v.0.0 ++ whole v.0.0.place) p d.2 x
      (λ a h. variable_passed o.first type v.0.0 a h)
  actual_adds (RoutineSection sections result) o t cs p e = still_adds argument_threatens
      (named_routine c Γ sections result o.first o.name) cs cs [] p e (adds_none cs) (λ a h. by o.name a h)
    where
      by : (name : Option Span) (a : Tree.Argument) → named_routine c Γ sections result o.first name ≡ Yes a
          → argument_threatens a ≡ []
      by None a h = absurd (no_yes h)
      by (Some n) a h = (let q = then_yes (denoted c Γ n) (by_routine n.from sections result) a h
          in routine_passed n.from sections result q.0 a q.2)

  abbrev pub ActualAdds : Section × Operand → Type 0
  ActualAdds x = (cs : List Change) (p : Tree.Argument × List Change) → actual c Γ x.0 x.1 cs ≡ Yes p → Adds c cs p.1
      (argument_threatens p.0)

  pair_each : (sections : List Section) (ys : List (proved hands).expr) → Each ActualAdds
      (pairs sections (map (operand c Γ) (parts ys)))
  pair_each [] ys = tt
  pair_each (section ∷ sections) [] = tt
  pair_each (section ∷ sections) (y ∷ ys) = (actual_adds section (operand c Γ y.0) y.1, pair_each sections ys)

  actuals_add : (at : ℕ) (sections : Sections) (ys : List (proved hands).expr) (cs : List Change)
      (p : List Tree.Argument × List Change) → actuals c Γ at sections (map (operand c Γ) (parts ys)) cs ≡ Yes p
      → Adds c cs p.1 (arguments_threaten (argument_list p.0))
  unfolding arguments_threaten
  actuals_add at sections ys cs p e =
      let xs = map (operand c Γ) (parts ys) in
      let h = then_still (holds (length (parameters sections) == length xs) NotCongruous at) cs _ p e in
      adds_all cs p.1 (arguments_threaten (argument_list p.0))
      (each_more (λ (x : Section × Operand). actual c Γ x.0 x.1) argument_threatens
      (λ l. arguments_threaten (argument_list l)) arguments_last (pairs (parameters sections) xs)
      (pair_each (parameters sections) ys) ([], cs) p h.2)

  function_adds : (at : ℕ) (r : Required) (ys : List (proved hands).expr) (cs : List Change) (p : Value × List Change)
      → function_call c Γ at r (map (operand c Γ) (parts ys)) cs ≡ Yes p → Adds c cs p.1 (value_threatens p.0)
  unfolding function_call
  function_adds at r [] cs p e = still_adds value_threatens _ cs cs [] p e (adds_none cs)
      (λ v h. by (look r (line_in c.text at)) refl v h)
    where
      by : (o : Option Value) → look r (line_in c.text at) ≡ o → (v : Value) → standing_alone at c.has_input o ≡ Yes v
          → value_threatens v ≡ []
      by None g v h = absurd (no_yes h)
      by (Some w) g v h = ap value_threatens (sym (provided_yes c.has_input _ at w v h).1) ∙ looked r
          (line_in c.text at) w g
  function_adds at r (y ∷ []) cs p e = by (names_input c Γ (operand c Γ y.0)) e
    where
      by : (b : Bool) → (if b then still (some_or NotInProfile (operand c Γ y.0).first (look r (line_in c.text at)))
          else ((operand c Γ y.0).value >>= (λ v. still
          (required_value (operand c Γ y.0).first r (line_in c.text at) v)))) cs ≡ Yes p → Adds c cs p.1
          (value_threatens p.0)
      by true h = still_adds value_threatens _ cs cs [] p h (adds_none cs)
          (λ v g. looked r (line_in c.text at) v (some_or_yes NotInProfile (operand c Γ y.0).first
          (look r (line_in c.text at)) v g))
      by false h =
          let w = then_yes ((operand c Γ y.0).value cs) _ p h in
          still_adds value_threatens _ cs w.0.1 (value_threatens w.0.0) p w.2 (y.1.value cs w.0 w.1)
          (λ v g. required_threatens (operand c Γ y.0).first r (line_in c.text at) w.0.0 v g)
  function_adds at r (y ∷ z ∷ ys) cs p e = absurd (no_yes e)

  pub called_adds : (at : ℕ) (q : Point) (ys : List (proved hands).expr) (cs : List Change) (p : Value × List Change)
      → called c Γ at q
      (map (operand c Γ) (parts ys)) cs ≡ Yes p → Adds c cs p.1 (value_threatens p.0)
  unfolding called required_call expr_threatens
  called_adds at (BlockPoint up (RoutineMeaning h)) ys cs p e =
      let type = then_still (some_or WrongKind at h.result) cs _ p e in
      let found = then_yes (actuals c Γ at h.sections (map (operand c Γ) (parts ys)) cs) _ p type.2 in
      made_adds value_threatens _ cs found.0.1 p found.2 (actuals_add at h.sections ys cs found.0 found.1)
  called_adds at (BlockPoint up (RoutineParameterMeaning entry sections result)) ys cs p e =
      let type = then_still (some_or WrongKind at result) cs _ p e in
      let found = then_yes (actuals c Γ at sections (map (operand c Γ) (parts ys)) cs) _ p type.2 in
      made_adds value_threatens _ cs found.0.1 p found.2 (actuals_add at sections ys cs found.0 found.1)
  called_adds at (BlockPoint up (RequiredMeaning r)) ys cs p e =
      let h = then_still (holds (not (is_procedure r)) WrongKind at) cs _ p e in
      function_adds at r ys cs p h.2
  called_adds at q ys cs p e = absurd (no_yes e)

  -- a name alone
  loaded_adds : (at : ℕ) (q : Point) (cs : List Change) (p : Value × List Change) → still
      (j.◌>>=◌ (variable_at at q) (loaded at)) cs ≡ Yes p → Adds c cs p.1 (value_threatens p.0)
  loaded_adds at q cs p e = still_adds value_threatens (j.◌>>=◌ (variable_at at q) (loaded at)) cs cs [] p e
      (adds_none cs)
      (λ v h. (let x = then_yes (variable_at at q) (loaded at) v h in contents_threaten at x.0.place x.0.type v x.2
      ∙ variable_none at q x.0 x.1))

  standing_adds : (at : ℕ) (q : Point) (cs : List Change) (p : Value × List Change) → standing c Γ at q cs ≡ Yes p
      → Adds c cs p.1 (value_threatens p.0)
  unfolding standing
  standing_adds at (BlockPoint up (ConstantMeaning o n)) cs p e = still_adds value_threatens _ cs cs [] p e
      (adds_none cs) (λ v h. constant_threatens at (OrdinalConstant o n) v h)
  standing_adds at (BlockPoint up (TextMeaning w)) cs p e = still_adds value_threatens _ cs cs [] p e (adds_none cs)
      (λ v h. constant_threatens at (TextConstant w) v h)
  standing_adds at (BlockPoint up (VariableMeaning entry type)) cs p e = loaded_adds at
      (BlockPoint up (VariableMeaning entry type)) cs p e
  standing_adds at (BlockPoint up (ParameterMeaning entry type)) cs p e = loaded_adds at
      (BlockPoint up (ParameterMeaning entry type)) cs p e
  standing_adds at (FieldPoint which record_type number type) cs p e = loaded_adds at
      (FieldPoint which record_type number type) cs p e
  standing_adds at q cs p e = called_adds at q [] cs p e

  -- ---- variables

  named_adds : (name : Span) (cs : List Change) (p : Variable × List Change) → named_variable c Γ name cs ≡ Yes p
      → Adds c cs p.1 (place_of p.0)
  named_adds name cs p e = still_adds place_of (j.◌>>=◌ (denoted c Γ name) (variable_at name.from)) cs cs [] p e
      (adds_none cs) (λ v h. (let q = then_yes (denoted c Γ name) (variable_at name.from) v h
      in variable_none name.from q.0 v q.2))

  pub seen_variable : (name : Span) (ys : List (proved hands).selector) → Hands
      (variable_seen c Γ name (map (select c Γ) (parts ys)))
  unfolding variable_seen
  seen_variable name [] = record {
    value = λ cs p e. (let q = then_still (denoted c Γ name) cs _ p e in standing_adds name.from q.0 cs p q.2);
    variable = named_adds name;
  }
  seen_variable name (y ∷ ys) =
      let fs = map (select c Γ) (parts (y ∷ ys)) in
      let there : (cs : List Change) (w : Variable × List Change) → selected_variable c Γ name fs cs ≡ Yes w
      → Adds c cs w.1 (place_of w.0) =
      λ cs w e. (let v = then_yes (named_variable c Γ name cs) _ w e in
      adds_more cs v.0.1 w.1 (place_of v.0.0) (place_of w.0) (named_adds name cs v.0 v.1)
      (through_more place_of (λ (v : Variable) (f : Step Variable). f name.from v) fs
      (read_each (select c Γ) (λ (f : Step Variable). (s : Variable) (cs : List Change) (p : Variable × List Change)
      → f name.from s cs ≡ Yes p → More c cs p.1 (place_of s) (place_of p.0)) (λ y s cs p h. y.1 name.from s cs p h)
      (y ∷ ys)) v.0.0 v.0.1 w v.2)) in
      record {
        value = λ cs p e. (let w = then_yes (selected_variable c Γ name fs cs) _ p e
            in still_adds value_threatens _ cs w.0.1 (place_of w.0.0) p w.2 (there cs w.0 w.1)
            (λ v h. contents_threaten name.from w.0.0.place w.0.0.type v h));
        variable = there;
      }

  -- ---- chains

  lone_variable : {X B : Type 0} {T : X → Type 0} (sign : Option (Sign × Span)) (read : X → B)
      (ys : List ((x : X) × T x)) (first : ℕ) (m : Changing Variable) (cs : List Change) (p : Variable × List Change)
      → alone (still (No WrongKind first)) sign (map read (parts ys)) m cs ≡ Yes p → m cs ≡ Yes p
  lone_variable None read [] first m cs p e = e
  lone_variable None read (z ∷ ys) first m cs p e = absurd (no_yes e)
  lone_variable (Some s) read ys first m cs p e = absurd (no_yes e)

  pub seen_term : (o : Operand) → Hands o → (ys : List (proved hands).multiplied) → Hands
      (term_seen c Γ o (map (multiply_factor c Γ) (parts ys)))
  unfolding term_seen
  seen_term o t ys = record {
    value = λ cs p e. (let w = then_yes (o.value cs) _ p e in
        adds_more cs w.0.1 p.1 (value_threatens w.0.0) (value_threatens p.0) (t.value cs w.0 w.1)
        (through_more value_threatens (λ (v : Value) (f : Step Value). f o.first v)
        (map (multiply_factor c Γ) (parts ys))
        (read_each (multiply_factor c Γ) (λ (f : Step Value). (s : Value) (cs : List Change) (p : Value × List Change)
        → f o.first s cs ≡ Yes p → More c cs p.1 (value_threatens s) (value_threatens p.0))
        (λ y s cs p h. y.1 o.first s cs p h) ys) w.0.0 w.0.1 p w.2));
    variable = λ cs p e. t.variable cs p (lone_variable None (multiply_factor c Γ) ys o.first o.variable cs p e);
  }

  pub seen_simple : (sign : Option (Sign × Span)) (o : Operand) → Hands o → (ys : List (proved hands).added) → Hands
      (simple_seen c Γ sign o (map (add_term c Γ) (parts ys)))
  unfolding simple_seen
  seen_simple sign o t ys = record {
    value = λ cs p e. (let u = then_yes ((o.value >>= (λ v. still (first_term c Γ o.first sign v))) cs) _ p e in
        let w = then_yes (o.value cs) _ u.0 u.1 in
        let first = still_adds value_threatens (first_term c Γ o.first sign w.0.0) cs w.0.1
        (value_threatens w.0.0) u.0 w.2 (t.value cs w.0 w.1)
        (λ v h. first_term_threatens c Γ o.first sign w.0.0 v h) in
        adds_more cs u.0.1 p.1 (value_threatens u.0.0) (value_threatens p.0) first
        (through_more value_threatens (λ (v : Value) (f : Step Value). f (sign_or sign o.first) v)
        (map (add_term c Γ) (parts ys))
        (read_each (add_term c Γ) (λ (f : Step Value). (s : Value) (cs : List Change) (p : Value × List Change) → f
        (sign_or sign o.first) s cs ≡ Yes p → More c cs p.1 (value_threatens s) (value_threatens p.0))
        (λ y s cs p h. y.1 (sign_or sign o.first) s cs p h) ys) u.0.0 u.0.1 p u.2));
    variable = λ cs p e. t.variable cs p (lone_variable sign (add_term c Γ) ys
        (sign_or sign o.first) o.variable cs p e);
  }
