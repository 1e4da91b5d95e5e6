-- The constants, types and variables of a block: what is known after them.
use Rattle.std.proofs.Common.{◌≡◌, ℕ, ◌+◌, ◌<◌, ◌≤◌, List, [], ◌∷◌, ◌++◌, length, refl, sym, ap, ◌∙◌, subst, arith}
use Rattle.std.proofs.Common.{append-nil}
use Rattle.ps_check.proofs.EachItem.{each_append}
use Rattle.ps_text.specs.declared.Span.{Span}
use Rattle.ps_text.specs.declared.TheConstants.{MAX_LENGTH}
use Rattle.ps_scan.specs.Spans.{AreOrdered}
use Rattle.ps_scan.specs.declared.token.Kind.{Kind}
use Rattle.ps_syntax.specs.First.{first_of_type}
use Rattle.ps_syntax.specs.declared.program.ConstantDefinition.{ConstantDefinition}
use Rattle.ps_syntax.specs.declared.program.TypeDefinition.{TypeDefinition}
use Rattle.ps_syntax.specs.declared.program.Variables.{Variables}
use Rattle.ps_parse_grammar.specs.Symbols.{Tokens, Many, none, more}
use Rattle.ps_parse_grammar.specs.Programs as p
use Rattle.ps_parse_grammar.specs.Programs.{IsPart, without, filled, IsConstantDefinition, IsTypeDefinition}
use Rattle.ps_parse_grammar.specs.Programs.{IsVariables, type_within}
use Rattle.ps_tree.specs.Types.{DataType}
use Rattle.ps_check_judgement.specs.Judged.{Judged, Yes, No, some_or, steps}
use Rattle.ps_check_judgement.specs.declared.refusal.Rule.TheVariants.{Limit}
use Rattle.ps_check_judgement.proofs.Binds.{then_yes, no_yes, inside_yes}
use Rattle.ps_check_judgement.proofs.Items.{end_there}
use Rattle.ps_check_names.specs.Regions.{TypeMeaning, VariableMeaning, one_more}
use Rattle.ps_check_names.specs.Constants.{ConstantValue, OrdinalConstant, TextConstant, constant}
use Rattle.ps_check_declarations.specs.Denoters.{Frame, Declared, begin, within, with_known, regions, denoter}
use Rattle.ps_check_declarations.specs.Declarations.{meaning_of_constant, told_at_name, define_constant, define_type}
use Rattle.ps_check_declarations.specs.Declarations.{resolve_domains, declare_variable, declare_variables, declarations}
use Rattle.ps_lower_accepted.proofs.Lists.{Each}
use Rattle.ps_lower_accepted.proofs.Tables.{Table, extends_self, EndsBefore, TypeKnown}
use Rattle.ps_lower_accepted.proofs.Standing.{MeaningKnown}
use Rattle.ps_lower_accepted.proofs.Aims.{pointers, IsOwn, DeclarationsTell}
use Rattle.ps_lower_accepted.proofs.Places.{Later, behind, past, then_later, same_place, names_go, constant_goes}
use Rattle.ps_lower_accepted.proofs.Headings.{regions_more}
use Rattle.ps_lower_accepted.proofs.Constants.{ConstantKnown, constant_known}
use Rattle.ps_lower_accepted.proofs.BlockMeanings.{ends_later}
use Rattle.ps_lower_accepted.proofs.Ordinals.{Known, known_with, names_known}
use Rattle.ps_lower_accepted.proofs.Denoters.{types_read}
use Rattle.ps_lower_accepted.proofs.MadeTypes.{Made, from_denoter, from_earlier, known_within, made_past, no_part}
use Rattle.ps_lower_accepted.proofs.MadeTypes.{same_table, settle_made, two_here, two_made, whole}

value_known : (D : Table) (b : ℕ) (v : ConstantValue) → ConstantKnown D v → MeaningKnown D b (meaning_of_constant v)
unfolding meaning_of_constant
value_known D b (OrdinalConstant o n) k = k
value_known D b (TextConstant w) k = k

value_own : (first : ℕ) (vs : List DataType) (v : ConstantValue) → IsOwn first vs (meaning_of_constant v)
unfolding meaning_of_constant
value_own first vs (OrdinalConstant o n) = tt
value_own first vs (TextConstant w) = tt

-- a type that is judged with a limit at its definition's name
told_yes : {A : Type 0} (first name : ℕ) (j : Judged A) (a : A) → told_at_name first name j ≡ Yes a → j ≡ Yes a
unfolding told_at_name
told_yes first name (Yes b) a e = e
told_yes first name (No rule at) a e = absurd (no_yes e)

module _ (f : Frame) (first : ℕ) where
  -- ---- definitions
  module _ (bytes : Each (λ x. x < 256) f.text) (short : length f.text ≤ MAX_LENGTH) where
    constant_made : (x : ConstantDefinition) (ts r : Tokens) → IsConstantDefinition x ts r → (low high : ℕ) (D : Table)
        (d e : Declared) → AreOrdered low high ts → EndsBefore low D → Known f D d → define_constant f d x ≡ Yes e
        → Made f first low high r D d e
    unfolding define_constant
    constant_made x ts r (p.constant {at = name} {x = y} {ts = us} der) low high D d e ordered ends k q =
        let new = then_yes (begin f d.known [] name) _ e q in
        let v = then_yes (constant f.text (regions f [] d.known) y) _ e new.2 in
        let later : Later ts r = behind _ _ r (behind _ us r (past _ us r r (constant_goes y us _ der) (same_place r)))
        in
        let at = later.on low high ordered in
        let known = value_known D (pointers d) v.0
        (constant_known D (pointers d) f.text (regions f [] d.known) y v.0 bytes short (names_known f D d [] k) v.1)
        in
        subst (Made f first low high r D d) (inside_yes _ e v.2)
        (same_table f first low at.0 high r D d (with_known d (d.known ++ meaning_of_constant v.0 ∷ [])) [] []
        (meaning_of_constant v.0 ∷ []) at.1 at.2 ends
        (known_with f D d (meaning_of_constant v.0 ∷ []) k (known, tt)) (sym (append-nil d.domains))
        (sym (append-nil d.variables)) refl (value_own first d.variables v.0, tt))

    constants_made : (xs : List ConstantDefinition) (ts r : Tokens) → Many IsConstantDefinition xs ts r → (low high : ℕ)
        (D : Table) (d e : Declared) → AreOrdered low high ts → EndsBefore low D → Known f D d → steps
        (define_constant f) d xs ≡ Yes e → Made f first low high r D d e
    constants_made xs ts r none low high D d e ordered ends k q = subst (Made f first low high r D d) (inside_yes d e q)
        (no_part f first low low high r D d (omega arith) ordered ends k)
    constants_made xs ts r (more {x = x} {xs = ys} {m = m} der rest) low high D d e ordered ends k q =
        let u = then_yes (define_constant f d x) (λ z. steps (define_constant f) z ys) e q in
        let a = constant_made x ts m der low high D d u.0 ordered ends k u.1 in
        two_made f first low high m r D d u.0 e a
        (constants_made ys m r rest a.next high a.table u.0 e a.ordered a.ends a.known
        u.2)

    all_constants : (w : Kind) (xs : List ConstantDefinition) (ts r : Tokens) → IsPart w IsConstantDefinition xs ts r
        → (low high : ℕ) (D : Table) (d e : Declared) → AreOrdered low high ts → EndsBefore low D → Known f D d → steps
        (define_constant f) d xs ≡ Yes e → Made f first low high r D d e
    all_constants w xs ts r without low high D d e ordered ends k q = subst (Made f first low high r D d)
        (inside_yes d e q)
        (no_part f first low low high r D d (omega arith) ordered ends k)
    all_constants w xs ts r (filled {at = at} {x = x} {xs = ys} {ts = us} {m = m} der rest) low high D d e ordered ends
        k q =
        let le : low ≤ at.to = let a = ordered.0 in let b = ordered.1 in omega (arith, a, b) in
        from_earlier f first low at.to high r D d e le (constants_made xs us r
        (more der rest) at.to high D d e ordered.2
        (ends_later D low at.to le ends) k q)

    module _ (n : ℕ) where
      type_made : (x : TypeDefinition) (ts r : Tokens) → IsTypeDefinition (type_within n) x ts r → (low high : ℕ)
          (D : Table) (d e : Declared) → AreOrdered low high ts → EndsBefore low D → Known f D d → define_type f d x
          ≡ Yes e → Made f first low high r D d e
      unfolding define_type from_denoter made_past from_earlier
      type_made x ts r (p.definition {at = name} {equal = equal} {x = y} {ts = us} der) low high D d e ordered ends k q
          =
          let new = then_yes (begin f d.known [] name) _ e q in
          let g = within f new.0 in
          let t = then_yes (told_at_name (first_of_type y) name.from (denoter g y [] d)) _ e new.2 in
          let le : low ≤ equal.to = let a = ordered.0 in let b = ordered.1 in let u = ordered.2.0 in let w = ordered.2.1
          in omega (arith, a, b, u, w) in
          let read = types_read g bytes short n y us _ der [] D d t.0.1 t.0.0 equal.to high ordered.2.2
          (ends_later D low equal.to le ends) (known_within f new.0 D d k)
          (told_yes (first_of_type y) name.from (denoter g y [] d) t.0 t.1) in
          let a = from_earlier f first low equal.to high r D d t.0.1 le
          (made_past f first equal.to high _ r D d t.0.1
          (from_denoter f first new.0 equal.to high _ D d t.0.1 t.0.0 read)) in
          subst (Made f first low high r D d) (inside_yes _ e t.2)
          (two_made f first low high r r D d t.0.1 (with_known t.0.1 (t.0.1.known ++ TypeMeaning t.0.0 ∷ [])) a
          (same_table f first a.next a.next high r a.table t.0.1
          (with_known t.0.1 (t.0.1.known ++ TypeMeaning t.0.0 ∷ [])) [] [] (TypeMeaning t.0.0 ∷ [])
          (omega arith) a.ordered a.ends (known_with f a.table t.0.1 (TypeMeaning t.0.0 ∷ []) a.known
          (read.told, tt)) (sym (append-nil t.0.1.domains)) (sym (append-nil t.0.1.variables)) refl (tt, tt)))

      types_made : (xs : List TypeDefinition) (ts r : Tokens) → Many (IsTypeDefinition (type_within n)) xs ts r
          → (low high : ℕ) (D : Table) (d e : Declared) → AreOrdered low high ts → EndsBefore low D → Known f D d
          → steps (define_type f) d xs ≡ Yes e → Made f first low high r D d e
      types_made xs ts r none low high D d e ordered ends k q = subst (Made f first low high r D d) (inside_yes d e q)
          (no_part f first low low high r D d (omega arith) ordered ends k)
      types_made xs ts r (more {x = x} {xs = ys} {m = m} der rest) low high D d e ordered ends k q =
          let u = then_yes (define_type f d x) (λ z. steps (define_type f) z ys) e q in
          let a = type_made x ts m der low high D d u.0 ordered ends k u.1 in
          two_made f first low high m r D d u.0 e a
          (types_made ys m r rest a.next high a.table u.0 e a.ordered a.ends a.known
          u.2)

      all_types : (w : Kind) (xs : List TypeDefinition) (ts r : Tokens) → IsPart w
          (IsTypeDefinition (type_within n)) xs ts r → (low high : ℕ) (D : Table) (d e : Declared)
          → AreOrdered low high ts → EndsBefore low D → Known f D d → steps (define_type f) d xs ≡ Yes e
          → Made f first low high r D d e
      all_types w xs ts r without low high D d e ordered ends k q = subst (Made f first low high r D d)
          (inside_yes d e q)
          (no_part f first low low high r D d (omega arith) ordered ends k)
      all_types w xs ts r (filled {at = at} {x = x} {xs = ys} {ts = us} {m = m} der rest) low high D d e ordered ends k
          q =
          let le : low ≤ at.to = let a = ordered.0 in let b = ordered.1 in omega (arith, a, b) in
          from_earlier f first low at.to high r D d e le (types_made xs us r (more der rest) at.to high D d e ordered.2
          (ends_later D low at.to le ends) k q)

      -- variables of one type
      variables_made : (type : DataType) (names : List Span) (low high : ℕ) (r : Tokens) (D : Table) (d e : Declared)
          → AreOrdered low high r → EndsBefore low D → Known f D d → TypeKnown D (pointers d) type → steps
          (declare_variable first type) d names ≡ Yes e → Made f first low high r D d e
      variables_made type [] low high r D d e ordered ends k there q = subst (Made f first low high r D d)
          (inside_yes d e q)
          (no_part f first low low high r D d (omega arith) ordered ends k)
      variables_made type (x ∷ names) low high r D d e ordered ends k there q =
          let u = then_yes (declare_variable first type d x) (λ z. steps (declare_variable first type) z names) e q in
          let c = then_yes (some_or Limit x.from (one_more (first + length d.variables))) _ u.0 u.1 in
          let m = VariableMeaning (first + length d.variables) type in
          let one : Declared = record {
            known = d.known ++ m ∷ [];
            domains = d.domains;
            pending = d.pending;
            variables = d.variables ++ type ∷ [];
          } in
          let known : Known f D one = record {
            declared = record {
              known = each_append (MeaningKnown D (pointers d)) d.known (m ∷ []) k.declared.known (there, tt);
              domains = k.declared.domains;
              variables = each_append (TypeKnown D (pointers d)) d.variables (type ∷ []) k.declared.variables
                  (there, tt);
            };
            outer = k.outer;
          } in
          two_here f first low high r D d one e [] (type ∷ []) (m ∷ []) (sym (append-nil d.domains)) refl refl
          ((length d.variables, refl, end_there d.variables type), tt)
          (variables_made type names low high r D one e ordered ends known there
          (ap (λ z. steps (declare_variable first type) z names) (inside_yes one u.0 c.2) ∙ u.2))

      variables_part : (x : Variables) (ts r : Tokens) → IsVariables (type_within n) x ts r → (low high : ℕ) (D : Table)
          (d e : Declared) → AreOrdered low high ts → EndsBefore low D → Known f D d → declare_variables f first d x
          ≡ Yes e → Made f first low high r D d e
      unfolding declare_variables from_denoter made_past from_earlier
      variables_part x ts r (p.variables {xs = xs} {x = y} {m = m} names der) low high D d e ordered ends k q =
          let new = then_yes (steps (begin f d.known) [] xs) _ e q in
          let hidden = (new.0, length new.0) ∷ [] in
          let t = then_yes (denoter (within f new.0) y hidden d) _ e new.2 in
          let at = (then_later ts _ m (names_go xs ts _ names) (behind _ m m (same_place m))).on low high ordered in
          let read = types_read (within f new.0) bytes short n y m _ der hidden D d t.0.1 t.0.0 at.0 high at.2
          (ends_later D low at.0 at.1 ends) (known_within f new.0 D d k) t.1 in
          let a = from_earlier f first low at.0 high r D d t.0.1 at.1
          (made_past f first at.0 high _ r D d t.0.1 (from_denoter f first new.0 at.0 high _ D d t.0.1 t.0.0 read)) in
          two_made f first low high r r D d t.0.1 e a
          (variables_made t.0.0 xs a.next high r a.table t.0.1 e a.ordered a.ends
          a.known read.told t.2)

      many_variables : (xs : List Variables) (ts r : Tokens) → Many (IsVariables (type_within n)) xs ts r
          → (low high : ℕ) (D : Table) (d e : Declared) → AreOrdered low high ts → EndsBefore low D → Known f D d
          → steps (declare_variables f first) d xs ≡ Yes e → Made f first low high r D d e
      many_variables xs ts r none low high D d e ordered ends k q = subst (Made f first low high r D d)
          (inside_yes d e q)
          (no_part f first low low high r D d (omega arith) ordered ends k)
      many_variables xs ts r (more {x = x} {xs = ys} {m = m} der rest) low high D d e ordered ends k q =
          let u = then_yes (declare_variables f first d x) (λ z. steps (declare_variables f first) z ys) e q in
          let a = variables_part x ts m der low high D d u.0 ordered ends k u.1 in
          two_made f first low high m r D d u.0 e a
          (many_variables ys m r rest a.next high a.table u.0 e a.ordered a.ends
          a.known u.2)

      all_variables : (w : Kind) (xs : List Variables) (ts r : Tokens) → IsPart w (IsVariables (type_within n)) xs ts r
          → (low high : ℕ) (D : Table) (d e : Declared) → AreOrdered low high ts → EndsBefore low D → Known f D d
          → steps (declare_variables f first) d xs ≡ Yes e → Made f first low high r D d e
      all_variables w xs ts r without low high D d e ordered ends k q = subst (Made f first low high r D d)
          (inside_yes d e q)
          (no_part f first low low high r D d (omega arith) ordered ends k)
      all_variables w xs ts r (filled {at = at} {x = x} {xs = ys} {ts = us} {m = m} der rest) low high D d e ordered
          ends k q =
          let le : low ≤ at.to = let a = ordered.0 in let b = ordered.1 in omega (arith, a, b) in
          from_earlier f first low at.to high r D d e le (many_variables xs us r
          (more der rest) at.to high D d e ordered.2
          (ends_later D low at.to le ends) k q)

pub declarations_tell : DeclarationsTell
unfolding declarations
declarations_tell f first D low high d e n cs types vs ts a b r constants definitions variables bytes short ordered ends
    outer known pending no_variables q =
    let k : Known f D d = record {
      declared = known;
      outer = regions_more D D (extends_self D) (length d.domains) (pointers d) (omega arith) f.outer outer;
    } in
    let c = then_yes (steps (define_constant f) d cs) _ e q in
    let t = then_yes (steps (define_type f) c.0 types) _ e c.2 in
    let s = then_yes (resolve_domains f t.0) _ e t.2 in
    let v = then_yes (steps (declare_variables f first) s.0 vs) _ e s.2 in
    let one = all_constants f first bytes short _ cs ts a constants low high D d c.0 ordered ends k c.1 in
    let two = all_types f first bytes short n _ types a b definitions one.next high one.table c.0 t.0 one.ordered
    one.ends one.known t.1 in
    let three = settle_made f first two.next high b two.table t.0 s.0 two.ordered two.ends two.known s.1 in
    let four = all_variables f first bytes short n _ vs b r variables three.0.next high three.0.table s.0 v.0
    three.0.ordered three.0.ends three.0.known v.1 in
    let five = settle_made f first four.next high r four.table v.0 e four.ordered four.ends four.known v.2 in
    let made = two_made f first low high a r D d c.0 e one
    (two_made f first one.next high b r one.table c.0 t.0 e two
    (two_made f first two.next high b r two.table t.0 s.0 e three.0
    (two_made f first three.0.next high r r three.0.table s.0 v.0 e four five.0))) in
    whole f first low high r D d e ends made five.1
