-- The accepted constants, types and variables of a block: each of their names is new.
use Rattle.std.proofs.Common.{◌≡◌, ℕ, ◌+◌, Bool, true, false, not, List, [], ◌∷◌, ◌++◌, length, map, take, refl, sym}
use Rattle.std.proofs.Common.{ap, ◌∙◌, subst, append_assoc, append-nil, length-append, arith}
use Rattle.std.proofs.lemmas.List.{map-append, length-map}
use Rattle.std.proofs.lemmas.Bool.{and_parts}
use Rattle.ps_text.specs.declared.Span.{Span}
use Rattle.ps_syntax.specs.First.{first_of_type}
use Rattle.ps_syntax.specs.declared.program.ConstantDefinition.{ConstantDefinition}
use Rattle.ps_syntax.specs.declared.program.TypeDefinition.{TypeDefinition}
use Rattle.ps_syntax.specs.declared.program.Variables.{Variables}
use Rattle.ps_tree.specs.Types.{DataType}
use Rattle.ps_check_judgement.specs.declared.refusal.Rule.TheVariants.{Twice, Limit}
use Rattle.ps_check_judgement.specs.Judged.{Judged, Yes, No, some_or, steps}
use Rattle.ps_check_judgement.proofs.Binds.{no_yes, inside_yes, then_yes, provided_yes}
use Rattle.ps_check_names.specs.Spelling.{spelled, has}
use Rattle.ps_check_names.specs.Regions.{Meaning, TypeMeaning, VariableMeaning, one_more}
use Rattle.ps_check_names.specs.Constants.{ConstantValue, OrdinalConstant, TextConstant, denoted, constant}
use Rattle.ps_check_declarations.specs.Points.{Points, all, is_later, is_new, type_points, constant_points}
use Rattle.ps_check_declarations.specs.Points.{definition_points, variables_points, block_points}
use Rattle.ps_check_declarations.specs.Denoters.{Frame, Declared, begin, within, with_known, regions, denoter}
use Rattle.ps_check_declarations.specs.Declarations.{meaning_of_constant, told_at_name, domain_at, define_constant}
use Rattle.ps_check_declarations.specs.Declarations.{define_type, resolve_domain, resolve_domains, declare_variable}
use Rattle.ps_check_declarations.specs.Declarations.{declare_variables, declarations}
use Rattle.ps_check.proofs.Fresh.{NoneOf, none_swap, Fresh, fresh_both, Ahead, ahead_more, ahead_take}
use Rattle.ps_check.proofs.Fresh.{later_fresh, new_apart, new_fresh, has_neither}
use Rattle.ps_check.proofs.NewPoints.{IsPlain, Grows, grows_none, grows_both, grows_length, Adds, type_adds}

-- these further points, each a new name of the region, where others come after them
pub record Part (f : Frame) (d : Declared) (points : Points) (e : Declared) : Type 0 where
  pub grows : Grows d (length points) e
  pub fresh : (from rest : List (List ℕ)) → length d.known ≡ length from → Ahead f.names from
      (map (spelled f.text) points ++ rest) → Fresh from (map (spelled f.text) points)

module _ (f : Frame) where
  part_none : (d e : Declared) → e.known ≡ d.known → Part f d [] e
  part_none d e q = record { grows = grows_none d e q; fresh = λ from rest l a. tt }

  part_both : (d e g : Declared) (xs ys : Points) → Part f d xs e → Part f e ys g → Part f d (xs ++ ys) g
  part_both d e g xs ys a b = record {
    grows = grows_both d e g (length xs) (length ys) (length (xs ++ ys)) a.grows b.grows (length-append xs ys);
    fresh = λ from rest l h.
        let mx : List (List ℕ) = map (spelled f.text) xs in
        let my : List (List ℕ) = map (spelled f.text) ys in
        let whole : Ahead f.names from (mx ++ (my ++ rest)) = subst (Ahead f.names from)
        (ap (λ m. m ++ rest) (map-append (spelled f.text) xs ys) ∙ append_assoc mx my rest) h in
        let first : Fresh from mx = a.fresh from (my ++ rest) l whole in
        let n : length e.known ≡ length (from ++ mx) = grows_length d e (length xs) a.grows ∙ ap (λ k. k + length xs) l
        ∙ ap (λ k. length from + k) (sym (length-map xs (spelled f.text))) ∙ sym (length-append from mx) in
        subst (Fresh from) (sym (map-append (spelled f.text) xs ys))
        (fresh_both from mx my first (b.fresh (from ++ mx) rest n
        (ahead_more f.names from mx (my ++ rest) whole first)));
  }

  part_at : (d : Declared) (points : Points) (e g : Declared) → Yes e ≡ Yes g → Part f d points e → Part f d points g
  part_at d points e g q a = subst (Part f d points) (inside_yes e g q) a

  -- ---- constants

  begun_at : (known : List Meaning) (begun b : List (List ℕ)) (name : Span) → begin f known begun name ≡ Yes b
      → (is_new f.names begun (length known) (spelled f.text name) ≡ true) × (b ≡ begun ++ spelled f.text name ∷ [])
  begun_at known begun b name e = let q = provided_yes
      (is_new f.names begun (length known) (spelled f.text name)) Twice name.from
      (begun ++ spelled f.text name ∷ []) b e in (q.0, sym q.1)

  later_of : (begun : List (List ℕ)) (count : ℕ) (s : List ℕ) → is_new f.names begun count s ≡ true
      → is_later f.names count s ≡ true
  later_of begun count s e = (and_parts (is_later f.names count s) (not (has begun s)) e).0

  constant_plain : (v : ConstantValue) → IsPlain (meaning_of_constant v)
  unfolding meaning_of_constant
  constant_plain (OrdinalConstant o n) = tt
  constant_plain (TextConstant w) = tt

  constant_part : (d e : Declared) (c : ConstantDefinition) → define_constant f d c ≡ Yes e → Part f d
      (constant_points c) e
  unfolding define_constant constant_points
  constant_part d e c q =
      let b = then_yes (begin f d.known [] c.name) _ e q in
      let v = then_yes (constant f.text (regions f [] d.known) c.value) _ e b.2 in
      let new = begun_at d.known [] b.0 c.name b.1 in
      part_at d (c.name ∷ []) (with_known d (d.known ++ meaning_of_constant v.0 ∷ [])) e v.2 (record {
        grows = record {
          more = meaning_of_constant v.0 ∷ [];
          known = refl;
          plain = (constant_plain v.0, tt);
          counts = refl;
        };
        fresh = λ from rest l h. (
          later_fresh f.names from (length d.known) (spelled f.text c.name)
              (ahead_take f.names from _ h) l (later_of [] (length d.known) (spelled f.text c.name) new.0),
          tt,
        );
      })

  constants_part : (cs : List ConstantDefinition) (d e : Declared) → steps (define_constant f) d cs ≡ Yes e → Part f d
      (all (map constant_points cs)) e
  constants_part [] d e q = part_at d [] d e q (part_none d d refl)
  constants_part (c ∷ cs) d e q =
      let one = then_yes (define_constant f d c) _ e q in
      part_both d one.0 e (constant_points c) (all (map constant_points cs)) (constant_part d one.0 c one.1)
      (constants_part cs one.0 e one.2)

  -- ---- types

  told_yes : {A : Type 0} (first name : ℕ) (j : Judged A) (a : A) → told_at_name first name j ≡ Yes a → j ≡ Yes a
  unfolding told_at_name
  told_yes first name (Yes x) a e = e
  told_yes first name (No rule at) a e = absurd (no_yes e)

  type_part : (d e : Declared) (t : TypeDefinition) → define_type f d t ≡ Yes e → Part f d (definition_points t) e
  unfolding define_type definition_points
  type_part d e t q =
      let s : List ℕ = spelled f.text t.name in
      let b = then_yes (begin f d.known [] t.name) _ e q in
      let r = then_yes (told_at_name (first_of_type t.ty) t.name.from (denoter (within f b.0) t.ty [] d)) _ e b.2 in
      let begun = begun_at d.known [] b.0 t.name b.1 in
      let adds : Adds (within f b.0) d (type_points t.ty) r.0.1 = type_adds (within f b.0) t.ty [] d r.0
      (told_yes (first_of_type t.ty) t.name.from (denoter (within f b.0) t.ty [] d) r.0 r.1) in
      let m : List (List ℕ) = map (spelled f.text) (type_points t.ty) in
      let apart : NoneOf m (s ∷ []) = subst (NoneOf m) begun.1 (new_apart f.names b.0 (length d.known) m adds.new) in
      let last : Grows r.0.1 1 (with_known r.0.1 (r.0.1.known ++ TypeMeaning r.0.0 ∷ [])) = record {
        more = TypeMeaning r.0.0 ∷ [];
        known = refl;
        plain = (tt, tt);
        counts = refl;
      } in
      part_at d (type_points t.ty ++ t.name ∷ []) (with_known r.0.1 (r.0.1.known ++ TypeMeaning r.0.0 ∷ [])) e r.2
      (record {
        grows = grows_both d r.0.1 (with_known r.0.1 (r.0.1.known ++ TypeMeaning r.0.0 ∷ []))
            (length (type_points t.ty)) 1 (length (type_points t.ty ++ t.name ∷ [])) adds.grows last
            (length-append (type_points t.ty) (t.name ∷ []));
        fresh = λ from rest l h.
            let whole : Ahead f.names from (m ++ (s ∷ rest)) = subst (Ahead f.names from)
            (ap (λ z. z ++ rest) (map-append (spelled f.text) (type_points t.ty) (t.name ∷ [])) ∙ append_assoc m
            (s ∷ []) rest) h in
            let first : Fresh from m = new_fresh f.names b.0 m (s ∷ rest) from (length d.known) l adds.new whole in
            let here : has from s ≡ false = later_fresh f.names from (length d.known) s
            (ahead_take f.names from (m ++ (s ∷ rest)) whole) l (later_of [] (length d.known) s begun.0) in
            subst (Fresh from) (sym (map-append (spelled f.text) (type_points t.ty) (t.name ∷ [])))
            (fresh_both from m (s ∷ []) first (has_neither from m s here (none_swap m (s ∷ []) apart).0, tt));
      })

  types_part : (ts : List TypeDefinition) (d e : Declared) → steps (define_type f) d ts ≡ Yes e → Part f d
      (all (map definition_points ts)) e
  types_part [] d e q = part_at d [] d e q (part_none d d refl)
  types_part (t ∷ ts) d e q =
      let one = then_yes (define_type f d t) _ e q in
      part_both d one.0 e (definition_points t) (all (map definition_points ts)) (type_part d one.0 t one.1)
      (types_part ts one.0 e one.2)

  -- ---- domain types

  domain_known : (d e : Declared) (waits : Span × ℕ) → resolve_domain f d waits ≡ Yes e → e.known ≡ d.known
  unfolding resolve_domain
  domain_known d e waits q =
      let p = then_yes (denoted f.text (regions f [] d.known) waits.0) _ e q in
      let t = then_yes (domain_at (is_later f.names waits.1 (spelled f.text waits.0)) waits.0.from p.0) _ e p.2 in
      sym (ap (λ (z : Declared). z.known) (inside_yes _ e t.2))

  domains_steps : (xs : List (Span × ℕ)) (d e : Declared) → steps (resolve_domain f) d xs ≡ Yes e → e.known ≡ d.known
  domains_steps [] d e q = sym (ap (λ (z : Declared). z.known) (inside_yes d e q))
  domains_steps (x ∷ xs) d e q =
      let one = then_yes (resolve_domain f d x) _ e q in
      domains_steps xs one.0 e one.2 ∙ domain_known d one.0 x one.1

  domains_known : (d e : Declared) → resolve_domains f d ≡ Yes e → e.known ≡ d.known
  unfolding resolve_domains
  domains_known d e q =
      let s = then_yes (steps (resolve_domain f) d d.pending) _ e q in
      sym (ap (λ (z : Declared). z.known) (inside_yes _ e s.2)) ∙ domains_steps d.pending d s.0 s.1

  -- ---- variables

  -- names that are begun one after the other
  abbrev Begun : ℕ → List (List ℕ) → List (List ℕ) → Type 0
  Begun count begun [] = Unit {0}
  Begun count begun (s ∷ ss) = (is_new f.names begun count s ≡ true) × Begun count (begun ++ s ∷ []) ss

  all_begun : (known : List Meaning) (names : Points) (begun b : List (List ℕ)) → steps (begin f known) begun names
      ≡ Yes b → (b ≡ begun ++ map (spelled f.text) names) × Begun (length known) begun (map (spelled f.text) names)
  all_begun known [] begun b e = (sym (inside_yes begun b e) ∙ sym (append-nil begun), tt)
  all_begun known (n ∷ ns) begun b e =
      let one = then_yes (begin f known begun n) _ b e in
      let here = begun_at known begun one.0 n one.1 in
      let rest = all_begun known ns (begun ++ spelled f.text n ∷ []) b
      (ap (λ z. steps (begin f known) z ns) (sym here.1) ∙ one.2) in
      (rest.0 ∙ append_assoc begun (spelled f.text n ∷ []) (map (spelled f.text) ns), (here.0, rest.1))

  begun_fresh : (from m : List (List ℕ)) (count : ℕ) → take (length from) f.names ≡ from → count ≡ length from
      → (ss begun : List (List ℕ)) → Begun count begun ss → NoneOf ss m → Fresh ((from ++ m) ++ begun) ss
  begun_fresh from m count t l [] begun b none = tt
  begun_fresh from m count t l (s ∷ ss) begun b none =
      let new = and_parts (is_later f.names count s) (not (has begun s)) b.0 in
      let apart : has begun s ≡ false = not_has (has begun s) new.1 in (
        has_neither (from ++ m) begun s (has_neither from m s (later_fresh f.names from count s t l new.0) none.0)
            apart,
        subst (λ z. Fresh z ss) (sym (append_assoc (from ++ m) begun (s ∷ [])))
            (begun_fresh from m count t l ss (begun ++ s ∷ []) b.1 none.1),
      )
    where
      not_has : (x : Bool) → not x ≡ true → x ≡ false
      not_has true h = absurd (cc)
      not_has false h = refl

  variable_grows : (first : ℕ) (type : DataType) (names : Points) (d e : Declared) → steps
      (declare_variable first type) d names ≡ Yes e → Grows d (length names) e
  variable_grows first type [] d e q = grows_none d e (sym (ap (λ (z : Declared). z.known) (inside_yes d e q)))
  variable_grows first type (n ∷ ns) d e q =
      let one = then_yes (declare_variable first type d n) _ e q in
      let next = then_yes (some_or Limit n.from (one_more (first + length d.variables))) _ one.0 one.1 in
      let here : Grows d 1 one.0 = record {
        more = VariableMeaning (first + length d.variables) type ∷ [];
        known = sym (ap (λ (z : Declared). z.known) (inside_yes _ one.0 next.2));
        plain = (tt, tt);
        counts = refl;
      } in
      grows_both d one.0 e 1 (length ns) (length (n ∷ ns)) here (variable_grows first type ns one.0 e one.2)
      (let z : length (n ∷ ns) ≡ 1 + length ns = omega arith in z)

  module _ (first : ℕ) where
    variables_part : (d e : Declared) (v : Variables) → declare_variables f first d v ≡ Yes e → Part f d
        (variables_points v) e
    unfolding declare_variables variables_points
    variables_part d e v q =
        let ns : List (List ℕ) = map (spelled f.text) v.names in
        let m : List (List ℕ) = map (spelled f.text) (type_points v.ty) in
        let b = then_yes (steps (begin f d.known) [] v.names) _ e q in
        let r = then_yes (denoter (within f b.0) v.ty ((b.0, length b.0) ∷ []) d) _ e b.2 in
        let begun = all_begun d.known v.names [] b.0 b.1 in
        let adds : Adds (within f b.0) d (type_points v.ty) r.0.1 = type_adds (within f b.0) v.ty
        ((b.0, length b.0) ∷ []) d r.0 r.1 in
        let apart : NoneOf m ns = subst (NoneOf m) begun.0 (new_apart f.names b.0 (length d.known) m adds.new) in
        record {
          grows = grows_both d r.0.1 e (length (type_points v.ty)) (length v.names)
              (length (type_points v.ty ++ v.names)) adds.grows (variable_grows first r.0.0 v.names r.0.1 e r.2)
              (length-append (type_points v.ty) v.names);
          fresh = λ from rest l h.
              let whole : Ahead f.names from (m ++ (ns ++ rest)) = subst (Ahead f.names from)
              (ap (λ z. z ++ rest) (map-append (spelled f.text) (type_points v.ty) v.names)
              ∙ append_assoc m ns rest) h in
              let one : Fresh from m = new_fresh f.names b.0 m (ns ++ rest) from (length d.known) l adds.new whole in
              let two : Fresh ((from ++ m) ++ []) ns = begun_fresh from m (length d.known)
              (ahead_take f.names from (m ++ (ns ++ rest)) whole) l ns [] begun.1 (none_swap m ns apart) in
              subst (Fresh from) (sym (map-append (spelled f.text) (type_points v.ty) v.names))
              (fresh_both from m ns one (subst (λ z. Fresh z ns) (append-nil (from ++ m)) two));
        }

    all_variables_part : (vs : List Variables) (d e : Declared) → steps (declare_variables f first) d vs ≡ Yes e
        → Part f d (all (map variables_points vs)) e
    all_variables_part [] d e q = part_at d [] d e q (part_none d d refl)
    all_variables_part (v ∷ vs) d e q =
        let one = then_yes (declare_variables f first d v) _ e q in
        part_both d one.0 e (variables_points v) (all (map variables_points vs)) (variables_part d one.0 v one.1)
        (all_variables_part vs one.0 e one.2)

    part_more : (d e g : Declared) (points : Points) → Part f d points e → g.known ≡ e.known → Part f d points g
    part_more d e g points a q = subst (λ (l : Points). Part f d l g) (append-nil points)
        (part_both d e g points [] a (part_none e g q))

    -- all of a block's
    pub declarations_part : (d e : Declared) (cs : List ConstantDefinition) (ts : List TypeDefinition)
        (vs : List Variables) → declarations f first d cs ts vs ≡ Yes e → Part f d (block_points cs ts vs) e
    unfolding declarations block_points
    declarations_part d e cs ts vs q =
        let a = then_yes (steps (define_constant f) d cs) _ e q in
        let b = then_yes (steps (define_type f) a.0 ts) _ e a.2 in
        let c = then_yes (resolve_domains f b.0) _ e b.2 in
        let v = then_yes (steps (declare_variables f first) c.0 vs) _ e c.2 in
        let types : Part f d (all (map constant_points cs) ++ all (map definition_points ts)) c.0 =
        part_more d b.0 c.0 (all (map constant_points cs) ++ all (map definition_points ts))
        (part_both d a.0 b.0 (all (map constant_points cs)) (all (map definition_points ts))
        (constants_part cs d a.0 a.1) (types_part ts a.0 b.0 b.1)) (domains_known b.0 c.0 c.1) in
        part_more d v.0 e ((all (map constant_points cs) ++ all (map definition_points ts)) ++ all
        (map variables_points vs)) (part_both d c.0 v.0
        (all (map constant_points cs) ++ all (map definition_points ts)) (all (map variables_points vs)) types
        (all_variables_part vs c.0 v.0 v.1)) (domains_known v.0 e v.2)
