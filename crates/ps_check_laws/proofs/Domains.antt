-- The names of domain types that are pending are read at the end of the part.
use Rattle.std.proofs.Common.{◌≡◌, ℕ, zero, suc, ◌+◌, ◌≤◌, Bool, true, false, List, [], ◌∷◌, ◌++◌, length, map, take}
use Rattle.std.proofs.Common.{Some, slice_get, refl, sym, ap, ◌∙◌, subst, append_assoc, append-nil, length-append}
use Rattle.std.proofs.Common.{arith}
use Rattle.std.proofs.lemmas.Option.{same_Some}
use Rattle.std.proofs.Math.Seq.{take-append_seam}
use Rattle.ps_text.specs.declared.Span.{Span}
use Rattle.ps_syntax.specs.declared.program.ConstantDefinition.{ConstantDefinition}
use Rattle.ps_syntax.specs.declared.program.TypeDefinition.{TypeDefinition}
use Rattle.ps_syntax.specs.declared.program.Variables.{Variables}
use Rattle.ps_tree.specs.Types.{DataType}
use Rattle.ps_check_judgement.specs.declared.refusal.Rule.TheVariants.{Limit}
use Rattle.ps_check_judgement.specs.Judged.{Yes, ◌>>=◌, some_or, steps}
use Rattle.ps_check_judgement.proofs.Binds.{no_yes, inside_yes, then_yes}
use Rattle.ps_check_judgement.proofs.Impossible.{none_some}
use Rattle.ps_check_judgement.proofs.Items.{get_stays}
use Rattle.ps_check_names.specs.Spelling.{spelled}
use Rattle.ps_check_names.specs.Regions.{Point, BlockPoint, Meaning, TypeMeaning, VariableMeaning, one_more}
use Rattle.ps_check_names.specs.Constants.{constant, denoted}
use Rattle.ps_check_declarations.specs.Points.{Points, is_later}
use Rattle.ps_check_declarations.specs.Denoters as denoters
use Rattle.ps_check_declarations.specs.Denoters.{Frame, Declared, begin, within, regions, type_at, type_named}
use Rattle.ps_check_declarations.specs.Declarations.{meaning_of_constant, domain_at, define_constant, define_type}
use Rattle.ps_check_declarations.specs.Declarations.{resolve_domain, resolve_domains, declare_variable}
use Rattle.ps_check_declarations.specs.Declarations.{declare_variables, declarations}
use Rattle.ps_check_laws.specs.Domains.{domain_names, type_domains, variable_domains, AreDomains}
use Rattle.ps_check_laws.specs.Definitions.{Declarations, OfConstant, joined, type_declarations}
use Rattle.ps_check_laws.specs.Definitions.{definition_declarations}
use Rattle.ps_check_laws.proofs.TypePoints.{constant_of, types_told}
use Rattle.ps_check_laws.specs.Meanings.{variable_names, hidden_by}
use Rattle.ps_check_laws.proofs.Declared.{type_defined, variables_declared, Stand, constants_stand, types_stand}
use Rattle.ps_check_laws.proofs.Pending.{Waits, declarations_length, pending_names, type_waits, waiting, waits_both}
use Rattle.ps_check_laws.proofs.Pending.{waits_none}

-- a domain type is the type that its name denotes
domain_is : (later : Bool) (at : ℕ) (p : Point) (type : DataType) → domain_at later at p ≡ Yes type → type_at at p
    ≡ Yes type
unfolding domain_at type_at
domain_is later at (BlockPoint up (TypeMeaning t)) type e = e
domain_is true at p type e = absurd (no_yes e)
domain_is false at p type e = e

-- ---- the parts of a block

module _ (f : Frame) where
  constants_wait : (cs : List ConstantDefinition) (d e : Declared) → steps (define_constant f) d cs ≡ Yes e
      → Waits d [] e
  unfolding define_constant
  constants_wait [] d e q = subst (Waits d []) (inside_yes d e q) (waits_none d)
  constants_wait (c ∷ cs) d e q =
      let one = then_yes (define_constant f d c) _ e q in
      let begun = then_yes (begin f d.known [] c.name) _ one.0 one.1 in
      let v = then_yes (constant f.text (regions f [] d.known) c.value) _ one.0 begun.2 in
      let n : Declared = denoters.with_known d (d.known ++ meaning_of_constant v.0 ∷ []) in
      waits_both d one.0 e [] [] (subst (Waits d []) (inside_yes n one.0 v.2) (record {
        pending = sym (append-nil (waiting d));
        domains = refl;
      })) (constants_wait cs one.0 e one.2)

  types_wait : (ts : List TypeDefinition) (d e : Declared) → steps (define_type f) d ts ≡ Yes e → Waits d
      (type_domains ts) e
  types_wait [] d e q = subst (Waits d []) (inside_yes d e q) (waits_none d)
  types_wait (t ∷ ts) d e q =
      let one = then_yes (define_type f d t) _ e q in
      let r = type_defined f d t one.0 one.1 in
      let inner = type_waits (within f (spelled f.text t.name ∷ [])) t.ty [] d r.read r.reading in
      waits_both d one.0 e (domain_names t.ty) (type_domains ts) (subst (Waits d (domain_names t.ty)) r.is (record {
        pending = inner.pending;
        domains = inner.domains;
      })) (types_wait ts one.0 e one.2)

  module _ (first : ℕ) where
    names_wait : (type : DataType) (names : List Span) (d e : Declared) → steps (declare_variable first type) d names
        ≡ Yes e → Waits d [] e
    names_wait type [] d e q = subst (Waits d []) (inside_yes d e q) (waits_none d)
    names_wait type (name ∷ names) d e q =
        let one = then_yes (declare_variable first type d name) _ e q in
        let next = then_yes (some_or Limit name.from (one_more (first + length d.variables))) _ one.0 one.1 in
        let made : Declared = record {
          known = d.known ++ VariableMeaning (first + length d.variables) type ∷ [];
          domains = d.domains;
          pending = d.pending;
          variables = d.variables ++ type ∷ [];
        } in
        waits_both d one.0 e [] [] (subst (Waits d []) (inside_yes made one.0 next.2) (record {
          pending = sym (append-nil (waiting d));
          domains = refl;
        })) (names_wait type names one.0 e one.2)

    variables_wait : (vs : List Variables) (d e : Declared) → steps (declare_variables f first) d vs ≡ Yes e → Waits d
        (variable_domains vs) e
    variables_wait [] d e q = subst (Waits d []) (inside_yes d e q) (waits_none d)
    variables_wait (v ∷ vs) d e q =
        let one = then_yes (declare_variables f first d v) _ e q in
        let r = variables_declared f first d v one.0 one.1 in
        let names : List Span = domain_names v.ty in
        let both = waits_both d r.read.1 one.0 names []
        (type_waits (within f (variable_names f v)) v.ty (hidden_by f v) d r.read r.reading)
        (names_wait r.read.0 v.names r.read.1 one.0 r.names) in
        waits_both d one.0 e names (variable_domains vs) (subst (λ l. Waits d l one.0) (append-nil names) both)
        (variables_wait vs one.0 e one.2)

    names_extend : (type : DataType) (names : List Span) (d e : Declared) → steps (declare_variable first type) d names
        ≡ Yes e → (more : List Meaning) × (e.known ≡ d.known ++ more)
    names_extend type [] d e q = (
      [],
      ap (λ (z : Declared). z.known) (sym (inside_yes d e q)) ∙ sym
          (append-nil d.known),
    )
    names_extend type (name ∷ names) d e q =
        let one = then_yes (declare_variable first type d name) _ e q in
        let next = then_yes (some_or Limit name.from (one_more (first + length d.variables))) _ one.0 one.1 in
        let m = VariableMeaning (first + length d.variables) type in
        let made : Declared = record {
          known = d.known ++ m ∷ [];
          domains = d.domains;
          pending = d.pending;
          variables = d.variables ++ type ∷ [];
        } in
        let rest = names_extend type names one.0 e one.2 in (
          m ∷ rest.0,
          rest.1 ∙ ap (λ (z : Declared). z.known ++ rest.0) (sym (inside_yes made one.0 next.2))
              ∙ append_assoc d.known (m ∷ []) rest.0,
        )

    variables_extend : (vs : List Variables) (d e : Declared) → steps (declare_variables f first) d vs ≡ Yes e
        → (more : List Meaning) × (e.known ≡ d.known ++ more)
    variables_extend [] d e q = ([], ap (λ (z : Declared). z.known) (sym (inside_yes d e q)) ∙ sym (append-nil d.known))
    variables_extend (v ∷ vs) d e q =
        let one = then_yes (declare_variables f first d v) _ e q in
        let r = variables_declared f first d v one.0 one.1 in
        let constants : List Meaning = map constant_of (type_declarations v.ty) in
        let a = (types_told (within f (variable_names f v)) v.ty).adds (hidden_by f v) d r.read r.reading in
        let b = names_extend r.read.0 v.names r.read.1 one.0 r.names in
        let c = variables_extend vs one.0 e one.2 in (
          (constants ++ b.0) ++ c.0,
          c.1 ∙ ap (λ l. l ++ c.0)
              (b.1 ∙ ap (λ l. l ++ b.0) a.0 ∙ append_assoc d.known constants b.0) ∙ append_assoc d.known
              (constants ++ b.0) c.0,
        )

  constants_extend : (cs : List ConstantDefinition) (d e : Declared) → steps (define_constant f) d cs ≡ Yes e
      → (more : List Meaning) × (e.known ≡ d.known ++ more)
  unfolding define_constant
  constants_extend [] d e q = ([], ap (λ (z : Declared). z.known) (sym (inside_yes d e q)) ∙ sym (append-nil d.known))
  constants_extend (c ∷ cs) d e q =
      let one = then_yes (define_constant f d c) _ e q in
      let begun = then_yes (begin f d.known [] c.name) _ one.0 one.1 in
      let v = then_yes (constant f.text (regions f [] d.known) c.value) _ one.0 begun.2 in
      let m = meaning_of_constant v.0 in
      let rest = constants_extend cs one.0 e one.2 in (
        m ∷ rest.0,
        rest.1 ∙ ap (λ (z : Declared). z.known ++ rest.0)
            (sym (inside_yes (denoters.with_known d (d.known ++ m ∷ [])) one.0 v.2)) ∙ append_assoc d.known
            (m ∷ []) rest.0,
      )

  types_extend : (ts : List TypeDefinition) (d e : Declared) → steps (define_type f) d ts ≡ Yes e
      → (more : List Meaning) × (e.known ≡ d.known ++ more)
  types_extend [] d e q = ([], ap (λ (z : Declared). z.known) (sym (inside_yes d e q)) ∙ sym (append-nil d.known))
  types_extend (t ∷ ts) d e q =
      let one = then_yes (define_type f d t) _ e q in
      let r = type_defined f d t one.0 one.1 in
      let constants : List Meaning = map constant_of (type_declarations t.ty) in
      let m = TypeMeaning r.read.0 in
      let a = (types_told (within f (spelled f.text t.name ∷ [])) t.ty).adds [] d r.read r.reading in
      let rest = types_extend ts one.0 e one.2 in (
        (constants ++ m ∷ []) ++ rest.0,
        rest.1 ∙ ap (λ (z : Declared). z.known ++ rest.0) (sym r.is) ∙ ap (λ l. (l ++ m ∷ []) ++ rest.0) a.0
            ∙ ap (λ l. l ++ rest.0) (append_assoc d.known constants (m ∷ [])) ∙ append_assoc d.known
            (constants ++ m ∷ []) rest.0,
      )

  -- ---- where a part ends

  -- the names that were pending denote the domain types that come after
  pub record Settled (names : Points) (d e : Declared) : Type 0 where
    pub types : List DataType
    pub known : e.known ≡ d.known
    domains : e.domains ≡ d.domains ++ types
    many : length types ≡ length names
    are : (i : ℕ) (name : Span) → slice_get names i ≡ Some name → (type : DataType)
        × (type_named f.text (regions f [] d.known) name ≡ Yes type) × (slice_get types i ≡ Some type)

  abbrev AreNamed : Points → List DataType → List Meaning → Type 0
  AreNamed names types known = (i : ℕ) (name : Span) → slice_get names i ≡ Some name → (type : DataType)
      × (type_named f.text (regions f [] known) name ≡ Yes type) × (slice_get types i ≡ Some type)

  settled_at : (x : Span) (xs : Points) (type : DataType) (types : List DataType) (known : List Meaning)
      → type_named f.text (regions f [] known) x ≡ Yes type → AreNamed xs types known → AreNamed (x ∷ xs)
      (type ∷ types) known
  settled_at x xs type types known e further zero name g =
      (type, ap (type_named f.text (regions f [] known)) (sym (same_Some x name g)) ∙ e, refl)
  settled_at x xs type types known e further (suc i) name g = further i name g

  all_settled : (ws : List (Span × ℕ)) (d e : Declared) → steps (resolve_domain f) d ws ≡ Yes e → Settled
      (pending_names ws) d e
  unfolding resolve_domain
  all_settled [] d e q = subst (Settled [] d) (inside_yes d e q) (record {
    types = [];
    known = refl;
    domains = sym (append-nil d.domains);
    many = refl;
    are = λ i name g. absurd (none_some g);
  })
  all_settled (w ∷ ws) d e q =
      let one = then_yes (resolve_domain f d w) _ e q in
      let point = then_yes (denoted f.text (regions f [] d.known) w.0) _ one.0 one.1 in
      let t = then_yes (domain_at (is_later f.names w.1 (spelled f.text w.0)) w.0.from point.0) _ one.0 point.2 in
      let made : Declared = record {
        known = d.known;
        domains = d.domains ++ t.0 ∷ [];
        pending = d.pending;
        variables = d.variables;
      } in
      let is : made ≡ one.0 = inside_yes made one.0 t.2 in
      let rest = all_settled ws one.0 e one.2 in
      let same_known : one.0.known ≡ d.known = ap (λ (z : Declared). z.known) (sym is) in
      let named : type_named f.text (regions f [] d.known) w.0 ≡ Yes t.0 = ap (λ j. j >>= type_at w.0.from) point.1
      ∙ domain_is (is_later f.names w.1 (spelled f.text w.0)) w.0.from point.0 t.0 t.1 in
      record {
        types = t.0 ∷ rest.types;
        known = rest.known ∙ same_known;
        domains = rest.domains ∙ ap (λ (z : Declared). z.domains ++ rest.types) (sym is) ∙ append_assoc d.domains
            (t.0 ∷ []) rest.types;
        many = ap suc rest.many;
        are = settled_at w.0 (pending_names ws) t.0 rest.types d.known named
            (λ j n h. let r = rest.are j n h in (
              r.0,
              ap (λ k. type_named f.text (regions f [] k) n) (sym same_known)
                  ∙ r.1,
              r.2,
            ));
      }

  pub settled : (d e : Declared) → resolve_domains f d ≡ Yes e → Settled (waiting d) d e × (e.pending ≡ [])
  unfolding resolve_domains
  settled d e q =
      let t = then_yes (steps (resolve_domain f) d d.pending) _ e q in
      let is = inside_yes (record {
        known = t.0.known;
        domains = t.0.domains;
        pending = [];
        variables = t.0.variables;
      }) e t.2 in
      let a = all_settled d.pending d t.0 t.1 in (
        record {
          types = a.types;
          known = ap (λ (z : Declared). z.known) (sym is) ∙ a.known;
          domains = ap (λ (z : Declared). z.domains) (sym is) ∙ a.domains;
          many = a.many;
          are = a.are;
        },
        ap (λ (z : Declared). z.pending) (sym is),
      )

  -- ---- a block

  -- the domain types that the declarations of a block give, after those before
  pub record DomainsTold (n : ℕ) (ts : List TypeDefinition) (vs : List Variables) (d e : Declared) : Type 0 where
    pub more : List DataType
    pub longer : e.domains ≡ d.domains ++ more
    pub count : length more ≡ length (type_domains ts) + length (variable_domains vs)
    pub none_waits : e.pending ≡ []
    pub below : n ≤ length e.known
    pub types : AreDomains f (take n e.known) (length d.domains) (type_domains ts) e.domains
    pub variables : AreDomains f e.known (length d.domains + length (type_domains ts)) (variable_domains vs) e.domains

  shifted : (n : ℕ) (before types : List DataType) (more domains : List DataType) (i : ℕ) (type : DataType) → n
      ≡ length before → domains ≡ (before ++ types) ++ more → slice_get types i ≡ Some type → slice_get domains (n + i)
      ≡ Some type
  shifted n [] types more domains i type e is g = (let z : n + i ≡ i = omega (arith, e) in ap (slice_get domains) z)
      ∙ ap (λ l. slice_get l i) is ∙ get_stays types more i type g
  shifted n (x ∷ before) types more domains i type e is g =
      let m : n + i ≡ suc (length before + i) = omega (arith, e) in
      ap (slice_get domains) m ∙ ap (λ l. slice_get l (suc (length before + i))) is ∙ shifted
      (length before) before types more ((before ++ types) ++ more) i type refl refl g

  pub declarations_told : (first : ℕ) (cs : List ConstantDefinition) (ts : List TypeDefinition) (vs : List Variables)
      (numbers : ℕ → ℕ) (xs : Declarations) (d e : Declared) → declarations f first d cs ts vs ≡ Yes e → d.pending ≡ []
      → Stand f first numbers xs d.known
      → DomainsTold (length ((xs ++ map OfConstant cs) ++ joined (map definition_declarations ts))) ts vs d e
  unfolding declarations
  declarations_told first cs ts vs numbers xs d e q none stands =
      let a = then_yes (steps (define_constant f) d cs) _ e q in
      let b = then_yes (steps (define_type f) a.0 ts) _ e a.2 in
      let c = then_yes (resolve_domains f b.0) _ e b.2 in
      let g = then_yes (steps (declare_variables f first) c.0 vs) _ e c.2 in
      let one = constants_wait cs d a.0 a.1 in
      let two = types_wait ts a.0 b.0 b.1 in
      let three = settled b.0 c.0 c.1 in
      let four = variables_wait first vs c.0 g.0 g.1 in
      let five = settled g.0 e g.2 in
      let in_types : waiting b.0 ≡ type_domains ts = two.pending ∙ ap (λ l. l ++ type_domains ts)
      (one.pending ∙ ap (λ l. pending_names l ++ []) none) in
      let in_variables : waiting g.0 ≡ variable_domains vs = four.pending
      ∙ ap (λ l. pending_names l ++ variable_domains vs) three.1 in
      let before : b.0.domains ≡ d.domains = two.domains ∙ one.domains in
      let middle : g.0.domains ≡ d.domains ++ three.0.types = four.domains ∙ three.0.domains
      ∙ ap (λ l. l ++ three.0.types) before in
      let whole : e.domains ≡ (d.domains ++ three.0.types) ++ five.0.types = five.0.domains
      ∙ ap (λ l. l ++ five.0.types) middle in
      let count = ap length middle in
      let l = length-append d.domains three.0.types in
      let m = three.0.many in
      let behind_constants = constants_stand f first numbers cs xs d a.0 a.1 stands in
      let behind_types = types_stand f first numbers ts (xs ++ map OfConstant cs) a.0 b.0 b.1 behind_constants.stands in
      let points = (xs ++ map OfConstant cs) ++ joined (map definition_declarations ts) in
      let many : length b.0.known ≡ length points = behind_types.stands.many ∙ declarations_length points in
      let further = variables_extend first vs c.0 g.0 g.1 in
      let known : e.known ≡ b.0.known ++ further.0 = five.0.known ∙ further.1 ∙ ap (λ l. l ++ further.0) three.0.known
      in
      let taken : b.0.known ≡ take (length points) e.known = sym (take-append_seam b.0.known further.0)
      ∙ ap (take (length b.0.known)) (sym known) ∙ ap (λ k. take k e.known) many in
      let n = ap length in_types in
      record {
        more = three.0.types ++ five.0.types;
        below = (let z = ap length known in let y = length-append b.0.known further.0 in omega (arith, z, y, many));
        longer = whole ∙ append_assoc d.domains three.0.types five.0.types;
        count = (let y = length-append three.0.types five.0.types in let w = five.0.many
            in let u = ap length in_variables in omega (arith, y, w, u, m, n));
        none_waits = five.1;
        types = λ i name at.
            let r = three.0.are i name (ap (λ l. slice_get l i) in_types ∙ at) in (
              r.0,
              ap (λ k. type_named f.text (regions f [] k) name) (sym taken) ∙ r.1,
              shifted
                  (length d.domains) d.domains three.0.types five.0.types e.domains i r.0 refl whole r.2,
            );
        variables = λ i name at.
            let r = five.0.are i name (ap (λ l. slice_get l i) in_variables ∙ at) in (
              r.0,
              ap (λ k. type_named f.text (regions f [] k) name) five.0.known ∙ r.1,
              shifted (length d.domains + length (type_domains ts))
                  (d.domains ++ three.0.types) five.0.types [] e.domains i r.0 (omega (arith, l, m, n))
                  (whole ∙ sym (append-nil ((d.domains ++ three.0.types) ++ five.0.types))) r.2,
            );
      }

  -- the points that were known stay the first
  pub declarations_extend : (first : ℕ) (cs : List ConstantDefinition) (ts : List TypeDefinition) (vs : List Variables)
      (d e : Declared) → declarations f first d cs ts vs ≡ Yes e → (more : List Meaning) × (e.known ≡ d.known ++ more)
  unfolding declarations
  declarations_extend first cs ts vs d e q =
      let a = then_yes (steps (define_constant f) d cs) _ e q in
      let b = then_yes (steps (define_type f) a.0 ts) _ e a.2 in
      let c = then_yes (resolve_domains f b.0) _ e b.2 in
      let g = then_yes (steps (declare_variables f first) c.0 vs) _ e c.2 in
      let one = constants_extend cs d a.0 a.1 in
      let two = types_extend ts a.0 b.0 b.1 in
      let three = (settled b.0 c.0 c.1).0.known in
      let four = variables_extend first vs c.0 g.0 g.1 in
      let five = (settled g.0 e g.2).0.known in (
        (one.0 ++ two.0) ++ four.0,
        five ∙ four.1 ∙ ap (λ l. l ++ four.0)
            (three ∙ two.1 ∙ ap (λ l. l ++ two.0) one.1 ∙ append_assoc d.known one.0 two.0) ∙ append_assoc d.known
            (one.0 ++ two.0) four.0,
      )
