-- The meanings that the declarations of a block make known are those of its points.
use Rattle.std.proofs.Common.{◌≡◌, ℕ, ◌+◌, ◌<◌, List, [], ◌∷◌, ◌++◌, length, map, take, slice_get, refl, sym, ap, ◌∙◌}
use Rattle.std.proofs.Common.{subst, append_assoc, append-nil, length-append, arith}
use Rattle.std.proofs.lemmas.List.{map-append}
use Rattle.std.proofs.lemmas.Option.{slice_get_within, same_Some}
use Rattle.std.proofs.Math.Seq.{take-append_seam}
use Rattle.ps_text.specs.declared.Span.{Span}
use Rattle.ps_syntax.specs.First.{first_of_type}
use Rattle.ps_syntax.specs.declared.program.TypeDenoter.{TypeDenoter}
use Rattle.ps_syntax.specs.declared.program.ConstantDefinition.{ConstantDefinition}
use Rattle.ps_syntax.specs.declared.program.TypeDefinition.{TypeDefinition}
use Rattle.ps_syntax.specs.declared.program.Variables.{Variables}
use Rattle.ps_tree.specs.Types.{DataType}
use Rattle.ps_check_judgement.specs.declared.refusal.Rule.TheVariants.{Limit}
use Rattle.ps_check_judgement.specs.Judged.{Judged, Yes, No, some_or, steps}
use Rattle.ps_check_judgement.proofs.Binds.{no_yes, inside_yes, then_yes, provided_yes}
use Rattle.ps_check_names.specs.Spelling.{spelled}
use Rattle.ps_check_names.specs.Regions.{Meaning, TypeMeaning, VariableMeaning, one_more}
use Rattle.ps_check_names.specs.Constants.{constant, denoted}
use Rattle.ps_check_declarations.specs.Points.{is_later}
use Rattle.ps_check_declarations.specs.Denoters.{Frame, begin, within, Declared, Hidden, with_known, regions, denoter}
use Rattle.ps_check_declarations.specs.Declarations.{told_at_name, domain_at, meaning_of_constant, define_constant}
use Rattle.ps_check_declarations.specs.Declarations.{define_type, resolve_domain, resolve_domains, declare_variable}
use Rattle.ps_check_declarations.specs.Declarations.{declare_variables, declarations}
use Rattle.ps_check_laws.specs.Definitions.{Declaration, Declarations, OfConstant, OfEnumeration, OfType, OfVariable}
use Rattle.ps_check_laws.specs.Definitions.{Definition, OfDeclaration, numbered, joined, type_declarations}
use Rattle.ps_check_laws.specs.Definitions.{definition_declarations, variable_declarations}
use Rattle.ps_check_laws.specs.Meanings.{in_definition, variable_names, hidden_by, Declares, Defines, AreMeanings}
use Rattle.ps_check_laws.proofs.Lists.{get_left, get_at, get_last, take_left, Each}
use Rattle.ps_check_laws.proofs.TypePoints.{constant_of, IsEnumerated, types_told}

-- a limit that is reported elsewhere is not part of what is accepted
pub told_yes : {A : Type 0} (first name : ℕ) (j : Judged A) (a : A) → told_at_name first name j ≡ Yes a → j ≡ Yes a
unfolding told_at_name
told_yes first name (Yes x) a e = e
told_yes first name (No rule at) a e = absurd (no_yes e)

-- the names that are begun one after the other
begun_names : (f : Frame) (known : List Meaning) (names : List Span) (xs ys : List (List ℕ)) → steps
    (begin f known) xs names ≡ Yes ys → ys ≡ xs ++ map (spelled f.text) names
begun_names f known [] xs ys e = sym (inside_yes xs ys e) ∙ sym (append-nil xs)
begun_names f known (name ∷ names) xs ys e =
    let one = then_yes (begin f known xs name) _ ys e in
    let q = provided_yes _ _ _ (xs ++ spelled f.text name ∷ []) one.0 one.1 in
    begun_names f known names one.0 ys one.2 ∙ ap (λ l. l ++ map (spelled f.text) names) (sym q.1) ∙ append_assoc xs
    (spelled f.text name ∷ []) (map (spelled f.text) names)

-- a type is read within its definition
pub record IsDefined (f : Frame) (d : Declared) (t : TypeDefinition) (e : Declared) : Type 0 where
  pub read : DataType × Declared
  pub reading : denoter (in_definition f t) t.ty [] d ≡ Yes read
  pub is : with_known read.1 (read.1.known ++ TypeMeaning read.0 ∷ []) ≡ e

pub type_defined : (f : Frame) (d : Declared) (t : TypeDefinition) (e : Declared) → define_type f d t ≡ Yes e
    → IsDefined f d t e
unfolding define_type
type_defined f d t e q =
    let begun = then_yes (begin f d.known [] t.name) _ e q in
    let is = provided_yes _ _ _ (spelled f.text t.name ∷ []) begun.0 begun.1 in
    let r = then_yes (told_at_name (first_of_type t.ty) t.name.from (denoter (within f begun.0) t.ty [] d)) _ e begun.2
    in
    record {
      read = r.0;
      reading = ap (λ b. denoter (within f b) t.ty [] d) is.1 ∙ told_yes (first_of_type t.ty) t.name.from
          (denoter (within f begun.0) t.ty [] d) r.0 r.1;
      is = inside_yes _ e r.2;
    }

-- and the type of variables within their declaration
pub record AreDeclared (f : Frame) (first : ℕ) (d : Declared) (v : Variables) (e : Declared) : Type 0 where
  pub read : DataType × Declared
  pub reading : denoter (within f (variable_names f v)) v.ty (hidden_by f v) d ≡ Yes read
  pub names : steps (declare_variable first read.0) read.1 v.names ≡ Yes e

pub variables_declared : (f : Frame) (first : ℕ) (d : Declared) (v : Variables) (e : Declared)
    → declare_variables f first d v ≡ Yes e → AreDeclared f first d v e
unfolding declare_variables
variables_declared f first d v e q =
    let begun = then_yes (steps (begin f d.known) [] v.names) _ e q in
    let is : begun.0 ≡ variable_names f v = begun_names f d.known v.names [] begun.0 begun.1 in
    let r = then_yes (denoter (within f begun.0) v.ty ((begun.0, length begun.0) ∷ []) d) _ e begun.2 in
    record {
      read = r.0;
      reading = ap (λ b. denoter (within f b) v.ty ((b, length b) ∷ []) d) (sym is) ∙ r.1;
      names = r.2;
    }

module _ (f : Frame) (first : ℕ) (numbers : ℕ → ℕ) where
  -- as many meanings as points, each that of its point
  pub record Standing (ds : List Definition) (known : List Meaning) : Type 0 where
    pub many : length known ≡ length ds
    pub are : AreMeanings f first numbers ds known

  pub one_more_stands : (ds : List Definition) (known : List Meaning) (d : Definition) (m : Meaning) → Standing ds known
      → Defines f first numbers known d m → Standing (ds ++ d ∷ []) (known ++ m ∷ [])
  one_more_stands ds known d m s defines =
      let many = s.many in
      record {
        many = (let a = length-append known (m ∷ []) in let b = length-append ds (d ∷ []) in omega (arith, a, b, many));
        are = λ i x y e g. get_last ds d i x (Defines f first numbers (take i (known ++ m ∷ [])) x y) e
            (λ b.
            let l = slice_get_within ds i x b in
            let lk : i < length known = omega (arith, l, many) in
            subst (λ t. Defines f first numbers t x y) (sym (take_left known (m ∷ []) i (omega (arith, lk))))
            (s.are i x y b (sym (get_left known (m ∷ []) i lk) ∙ g)))
            (λ q is.
            let at : i ≡ length known = q ∙ sym many in
            let same_meaning : m ≡ y = same_Some m y (sym (get_at known m []) ∙ ap (slice_get (known ++ m ∷ []))
            (sym at)
            ∙ g) in
            subst (λ t. Defines f first numbers t x y)
            (sym (ap (λ k. take k (known ++ m ∷ [])) at ∙ take-append_seam known (m ∷ [])))
            (subst (λ z. Defines f first numbers known z y) is
            (subst (λ z. Defines f first numbers known d z) same_meaning defines)));
      }

  -- for declarations
  abbrev pub Stand : Declarations → List Meaning → Type 0
  Stand xs known = Standing (map OfDeclaration xs) known

  pub one_more_declared : (xs : Declarations) (known : List Meaning) (d : Declaration) (m : Meaning) → Stand xs known
      → Declares f first known d m → Stand (xs ++ d ∷ []) (known ++ m ∷ [])
  one_more_declared xs known d m s declares = subst (λ l. Standing l (known ++ m ∷ []))
      (sym (map-append OfDeclaration xs (d ∷ [])))
      (one_more_stands (map OfDeclaration xs) known (OfDeclaration d) m s declares)

  enumerated_declares : (before : List Meaning) (d : Declaration) → IsEnumerated d → Declares f first before d
      (constant_of d)
  enumerated_declares before (OfEnumeration at count number name) k = refl
  enumerated_declares before d k = absurd k

  all_enumerated : (xs cs : Declarations) (known : List Meaning) → Each IsEnumerated cs → Stand xs known → Stand
      (xs ++ cs) (known ++ map constant_of cs)
  all_enumerated xs [] known k s = subst (λ l. Stand l (known ++ [])) (sym (append-nil xs))
      (subst (Stand xs) (sym (append-nil known)) s)
  all_enumerated xs (c ∷ cs) known k s =
      let one = one_more_declared xs known c (constant_of c) s (enumerated_declares known c k.0) in
      let more = all_enumerated (xs ++ c ∷ []) cs (known ++ constant_of c ∷ []) k.1 one in
      subst (λ l. Stand l (known ++ constant_of c ∷ map constant_of cs)) (append_assoc xs (c ∷ []) cs)
      (subst (Stand ((xs ++ c ∷ []) ++ cs)) (append_assoc known (constant_of c ∷ []) (map constant_of cs)) more)

  -- what a part of the declarations gives
  pub record Step (xs : Declarations) (d e : Declared) : Type 0 where
    pub stands : Stand xs e.known
    pub variables : e.variables ≡ d.variables

  step_at : (xs ys : Declarations) (d e : Declared) → xs ≡ ys → Step xs d e → Step ys d e
  step_at xs ys d e q s = subst (λ l. Step l d e) q s

  step_behind : (xs : Declarations) (d e g : Declared) → e.variables ≡ d.variables → Step xs e g → Step xs d g
  step_behind xs d e g q s = record { stands = s.stands; variables = s.variables ∙ q }

  pub constants_stand : (cs : List ConstantDefinition) (xs : Declarations) (d e : Declared) → steps
      (define_constant f) d cs ≡ Yes e → Stand xs d.known → Step (xs ++ map OfConstant cs) d e
  unfolding define_constant
  constants_stand [] xs d e q s = subst (Step (xs ++ []) d) (inside_yes d e q)
      (step_at xs (xs ++ []) d d (sym (append-nil xs)) (record {
        stands = s;
        variables = refl;
      }))
  constants_stand (c ∷ cs) xs d e q s =
      let one = then_yes (define_constant f d c) _ e q in
      let begun = then_yes (begin f d.known [] c.name) _ one.0 one.1 in
      let v = then_yes (constant f.text (regions f [] d.known) c.value) _ one.0 begun.2 in
      let m = meaning_of_constant v.0 in
      let n : Declared = with_known d (d.known ++ m ∷ []) in
      let is : n ≡ one.0 = inside_yes n one.0 v.2 in
      let stands : Stand (xs ++ OfConstant c ∷ []) one.0.known = subst
      (λ (z : Declared). Stand (xs ++ OfConstant c ∷ []) z.known) is
      (one_more_declared xs d.known (OfConstant c) m s (v.0, v.1, refl)) in
      step_at ((xs ++ OfConstant c ∷ []) ++ map OfConstant cs) (xs ++ OfConstant c ∷ map OfConstant cs) d e
      (append_assoc xs (OfConstant c ∷ []) (map OfConstant cs))
      (step_behind ((xs ++ OfConstant c ∷ []) ++ map OfConstant cs) d one.0 e
      (ap (λ (z : Declared). z.variables) (sym is))
      (constants_stand cs (xs ++ OfConstant c ∷ []) one.0 e one.2 stands))

  -- after the denoter of a type
  denoter_stands : (begun : List (List ℕ)) (hidden : Hidden) (t : TypeDenoter) (xs : Declarations) (d : Declared)
      (r : DataType × Declared) → denoter (within f begun) t hidden d ≡ Yes r → Stand xs d.known → Step
      (xs ++ type_declarations t) d r.1
  denoter_stands begun hidden t xs d r e s =
      let told = types_told (within f begun) t in
      let adds = told.adds hidden d r e in
      record {
        stands = subst (Stand (xs ++ type_declarations t)) (sym adds.0)
            (all_enumerated xs (type_declarations t) d.known told.there.constants s);
        variables = adds.1;
      }

  pub types_stand : (ts : List TypeDefinition) (xs : Declarations) (d e : Declared) → steps (define_type f) d ts ≡ Yes e
      → Stand xs d.known → Step (xs ++ joined (map definition_declarations ts)) d e
  unfolding definition_declarations
  types_stand [] xs d e q s = subst (Step (xs ++ []) d) (inside_yes d e q)
      (step_at xs (xs ++ []) d d (sym (append-nil xs)) (record {
        stands = s;
        variables = refl;
      }))
  types_stand (t ∷ ts) xs d e q s =
      let one = then_yes (define_type f d t) _ e q in
      let r = type_defined f d t one.0 one.1 in
      let inner = denoter_stands (spelled f.text t.name ∷ []) [] t.ty xs d r.read r.reading s in
      let n : Declared = with_known r.read.1 (r.read.1.known ++ TypeMeaning r.read.0 ∷ []) in
      let is : n ≡ one.0 = r.is in
      let behind = (xs ++ type_declarations t.ty) ++ OfType t ∷ [] in
      let stands : Stand behind one.0.known = subst (λ (z : Declared). Stand behind z.known) is
      (one_more_declared (xs ++ type_declarations t.ty) r.read.1.known (OfType t)
      (TypeMeaning r.read.0) inner.stands (
        r.read.0,
        record {
          before = d;
          behind = r.read.1;
          reading = r.reading;
          there = refl;
        },
        refl,
      )) in
      let rest = joined (map definition_declarations ts) in
      step_at (behind ++ rest) (xs ++ ((type_declarations t.ty ++ OfType t ∷ []) ++ rest)) d e
      (ap (λ l. l ++ rest) (append_assoc xs (type_declarations t.ty) (OfType t ∷ [])) ∙ append_assoc xs
      (type_declarations t.ty ++ OfType t ∷ []) rest)
      (step_behind (behind ++ rest) d one.0 e (ap (λ (z : Declared). z.variables) (sym is) ∙ inner.variables)
      (types_stand ts behind one.0 e one.2 stands))

  -- domain types that are found leave the names as they are
  settled_one : (d e : Declared) (waits : Span × ℕ) → resolve_domain f d waits ≡ Yes e → (e.known ≡ d.known)
      × (e.variables ≡ d.variables)
  unfolding resolve_domain
  settled_one d e waits q =
      let point = then_yes (denoted f.text (regions f [] d.known) waits.0) _ e q in
      let t = then_yes (domain_at (is_later f.names waits.1 (spelled f.text waits.0)) waits.0.from point.0) _ e point.2
      in
      let is = inside_yes _ e t.2 in
      (ap (λ (z : Declared). z.known) (sym is), ap (λ (z : Declared). z.variables) (sym is))

  all_settled : (names : List (Span × ℕ)) (d e : Declared) → steps (resolve_domain f) d names ≡ Yes e
      → (e.known ≡ d.known) × (e.variables ≡ d.variables)
  all_settled [] d e q = let is = inside_yes d e q
      in (ap (λ (z : Declared). z.known) (sym is), ap (λ (z : Declared). z.variables) (sym is))
  all_settled (x ∷ xs) d e q =
      let one = then_yes (resolve_domain f d x) _ e q in
      let a = settled_one d one.0 x one.1 in
      let b = all_settled xs one.0 e one.2 in
      (b.0 ∙ a.0, b.1 ∙ a.1)

  settled : (d e : Declared) → resolve_domains f d ≡ Yes e → (e.known ≡ d.known) × (e.variables ≡ d.variables)
  unfolding resolve_domains
  settled d e q =
      let t = then_yes (steps (resolve_domain f) d d.pending) _ e q in
      let is = inside_yes _ e t.2 in
      let a = all_settled d.pending d t.0 t.1 in
      (ap (λ (z : Declared). z.known) (sym is) ∙ a.0, ap (λ (z : Declared). z.variables) (sym is) ∙ a.1)

  -- ---- variables

  -- n variables are declared
  pub record Counted (xs : Declarations) (n : ℕ) (e : Declared) : Type 0 where
    pub stands : Stand xs e.known
    pub count : length e.variables ≡ n

  module _ (v : Variables) (before : Declared) (r : DataType × Declared)
      (reading : denoter (within f (variable_names f v)) v.ty (hidden_by f v) before ≡ Yes r) where
    names_stand : (names : List Span) (n : ℕ) (xs : Declarations) (more : List Meaning) (d e : Declared) → steps
        (declare_variable first r.0) d names ≡ Yes e → d.known ≡ r.1.known ++ more → length d.variables ≡ n
        → Stand xs d.known
        → Counted (xs ++ numbered (OfVariable v) n names) (n + length names) e
    names_stand [] n xs more d e q is count s = subst (Counted (xs ++ []) (n + 0)) (inside_yes d e q) (record {
      stands = subst (λ l. Stand l d.known) (sym (append-nil xs)) s;
      count = omega (arith, count);
    })
    names_stand (name ∷ names) n xs more d e q is count s =
        let one = then_yes (declare_variable first r.0 d name) _ e q in
        let next = then_yes (some_or Limit name.from (one_more (first + length d.variables))) _ one.0 one.1 in
        let m = VariableMeaning (first + length d.variables) r.0 in
        let made : Declared = record {
          known = d.known ++ m ∷ [];
          domains = d.domains;
          pending = d.pending;
          variables = d.variables ++ r.0 ∷ [];
        } in
        let same_made : made ≡ one.0 = inside_yes made one.0 next.2 in
        let x = OfVariable v n name in
        let stands : Stand (xs ++ x ∷ []) one.0.known = subst (λ (z : Declared). Stand (xs ++ x ∷ []) z.known) same_made
        (one_more_declared xs d.known x m s (
          r.0,
          more,
          r.1.known,
          record {
            before = before;
            behind = r.1;
            reading = reading;
            there = refl;
          },
          is,
          ap (λ k. VariableMeaning (first + k) r.0) count,
        )) in
        let known : one.0.known ≡ r.1.known ++ (more ++ m ∷ []) = ap (λ (z : Declared). z.known) (sym same_made)
        ∙ ap (λ l. l ++ m ∷ []) is ∙ append_assoc r.1.known more (m ∷ []) in
        let counted : length one.0.variables ≡ n + 1 = ap (λ (z : Declared). length z.variables) (sym same_made)
        ∙ length-append d.variables (r.0 ∷ [])
        ∙ (let z : length d.variables + 1 ≡ n + 1 = omega (arith, count) in z) in
        let rest = names_stand names (n + 1) (xs ++ x ∷ []) (more ++ m ∷ []) one.0 e one.2 known counted stands in
        record {
          stands = subst (λ l. Stand l e.known) (append_assoc xs (x ∷ []) (numbered (OfVariable v) (n + 1) names))
              rest.stands;
          count = (let c = rest.count in omega (arith, c));
        }

  variables_stand : (vs : List Variables) (n : ℕ) (xs : Declarations) (d e : Declared) → steps
      (declare_variables f first) d vs ≡ Yes e → length d.variables ≡ n → Stand xs d.known → Stand
      (xs ++ variable_declarations n vs) e.known
  unfolding variable_declarations
  variables_stand [] n xs d e q count s = subst (λ (z : Declared). Stand (xs ++ []) z.known) (inside_yes d e q)
      (subst (λ l. Stand l d.known) (sym (append-nil xs)) s)
  variables_stand (v ∷ vs) n xs d e q count s =
      let one = then_yes (declare_variables f first d v) _ e q in
      let r = variables_declared f first d v one.0 one.1 in
      let inner = denoter_stands (variable_names f v) (hidden_by f v) v.ty xs d r.read r.reading s in
      let names = names_stand v d r.read r.reading v.names n (xs ++ type_declarations v.ty) [] r.read.1 one.0 r.names
      (sym (append-nil r.read.1.known)) (ap length inner.variables ∙ count) inner.stands in
      let mine = numbered (OfVariable v) n v.names in
      let rest = variable_declarations (n + length v.names) vs in
      subst (λ l. Stand l e.known) (ap (λ l. l ++ rest) (append_assoc xs (type_declarations v.ty) mine)
      ∙ append_assoc xs (type_declarations v.ty ++ mine) rest)
      (variables_stand vs (n + length v.names)
      ((xs ++ type_declarations v.ty) ++ mine) one.0 e one.2 names.count names.stands)

  -- ---- all declarations of a block

  pub declarations_stand : (cs : List ConstantDefinition) (ts : List TypeDefinition) (vs : List Variables)
      (xs : Declarations) (d e : Declared) → declarations f first d cs ts vs ≡ Yes e → d.variables ≡ []
      → Stand xs d.known
      → Stand (xs ++ ((map OfConstant cs ++ joined (map definition_declarations ts)) ++ variable_declarations 0 vs))
      e.known
  unfolding declarations
  declarations_stand cs ts vs xs d e q none s =
      let a = then_yes (steps (define_constant f) d cs) _ e q in
      let b = then_yes (steps (define_type f) a.0 ts) _ e a.2 in
      let c = then_yes (resolve_domains f b.0) _ e b.2 in
      let g = then_yes (steps (declare_variables f first) c.0 vs) _ e c.2 in
      let one = constants_stand cs xs d a.0 a.1 s in
      let two = types_stand ts (xs ++ map OfConstant cs) a.0 b.0 b.1 one.stands in
      let three = settled b.0 c.0 c.1 in
      let five = settled g.0 e g.2 in
      let before = (xs ++ map OfConstant cs) ++ joined (map definition_declarations ts) in
      let four = variables_stand vs 0 before c.0 g.0 g.1 (ap length (three.1 ∙ two.variables ∙ one.variables ∙ none))
      (subst (Stand before) (sym three.0) two.stands) in
      subst (Stand (xs ++ ((map OfConstant cs ++ joined (map definition_declarations ts))
      ++ variable_declarations 0 vs))) (sym five.0)
      (subst (λ l. Stand l g.0.known) (ap (λ l. l ++ variable_declarations 0 vs)
      (append_assoc xs (map OfConstant cs) (joined (map definition_declarations ts))) ∙ append_assoc xs
      (map OfConstant cs ++ joined (map definition_declarations ts)) (variable_declarations 0 vs)) four)
