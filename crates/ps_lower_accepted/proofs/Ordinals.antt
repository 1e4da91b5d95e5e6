-- What ordinal types define, and where they are.
use Rattle.std.proofs.Common.{◌≡◌, ℕ, ◌+◌, ◌-◌, ◌<◌, ◌≤◌, nat_lt, pos, int_le, IsTrue, List, [], ◌∷◌, ◌++◌, length}
use Rattle.std.proofs.Common.{Some, refl, sym, ap, ◌∙◌, subst, arith, append-nil, lt-ltb, ltb-true, le-leb}
use Rattle.ps_text.specs.declared.TheConstants.{MAX_LENGTH}
use Rattle.ps_check.proofs.EachItem.{each_append}
use Rattle.ps_scan.specs.Spans.{AreOrdered}
use Rattle.ps_syntax.specs.First.{first_of_constant, first_of_ordinal}
use Rattle.ps_syntax.specs.declared.statement.Constant.{Constant}
use Rattle.ps_syntax.specs.declared.program.Ordinal as syntax
use Rattle.ps_syntax.specs.declared.program.Ordinal.TheVariants as v
use Rattle.ps_parse_grammar.specs.Symbols.{Tokens}
use Rattle.ps_parse_grammar.specs.Statements as s
use Rattle.ps_parse_grammar.specs.Statements.{IsConstant}
use Rattle.ps_parse_grammar.specs.Programs as p
use Rattle.ps_parse_grammar.specs.Programs.{IsOrdinal}
use Rattle.ps_tree.specs.declared.types.Ordinal.{Ordinal}
use Rattle.ps_tree.specs.Types.{DataType, OrdinalType, is_same_host}
use Rattle.tac_code.specs.Numbers.{is_integer}
use Rattle.tac_code.specs.declared.code.TheConstants.{NUMBER_LIMIT}
use Rattle.ps_check_judgement.specs.Judged.{Yes}
use Rattle.ps_check_judgement.proofs.Binds.{then_yes, provided_yes, if_yes, no_yes, inside_yes}
use Rattle.ps_check_names.specs.Constants.{ConstantValue, OrdinalConstant, TextConstant, constant}
use Rattle.ps_check_names.specs.Regions.{Meaning, ConstantMeaning}
use Rattle.ps_check_declarations.specs.Points.{Points, new_points}
use Rattle.ps_check_declarations.specs.Denoters.{Frame, Declared, Hidden, with_known, regions, type_named, ordinal_at}
use Rattle.ps_check_declarations.specs.Denoters.{enumerated, constants_from, enumeration, subrange, subrange_of}
use Rattle.ps_check_declarations.specs.Denoters.{ordinal}
use Rattle.ps_check_declarations.specs.declared.denoters.TheConstants.{CONSTANT_LIMIT}
use Rattle.ps_lower_accepted.proofs.Lists.{Each}
use Rattle.ps_lower_accepted.proofs.Tables.{Table, Extends, EndsBefore, OrdinalKnown, TypeKnown, host_more}
use Rattle.ps_lower_accepted.proofs.Standing.{MeaningKnown, RegionsKnown}
use Rattle.ps_lower_accepted.proofs.Aims.{pointers, DeclaredKnown}
use Rattle.ps_lower_accepted.proofs.Places.{Later, past, same_place, names_go}
use Rattle.ps_lower_accepted.proofs.Headings.{meanings_more, types_all_more, regions_more, named_known, regions_known}
use Rattle.ps_lower_accepted.proofs.Constants.{ConstantKnown, constant_known}
use Rattle.ps_lower_accepted.proofs.BlockMeanings.{ends_later}
use Rattle.ps_lower_accepted.proofs.Placed.{Agrees, agrees_self, agrees_extend, put_there, with_subrange}
use Rattle.ps_lower_accepted.proofs.Placed.{with_enumeration, subrange_agrees, subrange_ends, enumeration_agrees}
use Rattle.ps_lower_accepted.proofs.Placed.{enumeration_ends}

-- what is in a text begins before the rest
pub record Starts (low high first : ℕ) (r : Tokens) : Type 0 where
  pub from : low ≤ first
  pub next : ℕ
  pub before : first < next
  pub ordered : AreOrdered next high r

starts_with : (low high : ℕ) (at to : ℕ) (r : Tokens) → low ≤ at → at < to → Later r r → AreOrdered to high r
    → Starts low high at r
starts_with low high at to r le lt same o = record { from = le; next = to; before = lt; ordered = o }

pub constant_starts : (x : Constant) (ts r : Tokens) → IsConstant x ts r → (low high : ℕ) → AreOrdered low high ts
    → Starts low high (first_of_constant x) r
constant_starts x ts r (s.number {at = at}) low high o = starts_with low high at.from at.to r o.0 o.1 (same_place r) o.2
constant_starts x ts r (s.signed_number q {sign = sign} {at = at}) low high o = starts_with low high sign.from at.to r
    o.0 (let a = o.1 in let b = o.2.0 in let d = o.2.1 in omega (arith, a, b, d)) (same_place r) o.2.2
constant_starts x ts r (s.name {at = at}) low high o = starts_with low high at.from at.to r o.0 o.1 (same_place r) o.2
constant_starts x ts r (s.signed_name q {sign = sign} {at = at}) low high o = starts_with low high sign.from at.to r o.0
    (let a = o.1 in let b = o.2.0 in let d = o.2.1 in omega (arith, a, b, d)) (same_place r) o.2.2
constant_starts x ts r (s.text {at = at}) low high o = starts_with low high at.from at.to r o.0 o.1 (same_place r) o.2

-- only constants are defined by a type
abbrev pub IsConstantMeaning : Meaning → Type 0
IsConstantMeaning (ConstantMeaning o n) = Unit {0}
IsConstantMeaning m = ⊥

-- ---- what is known of the declarations so far
module _ (f : Frame) where
  pub record Known (D : Table) (d : Declared) : Type 0 where
    pub declared : DeclaredKnown D d
    pub outer : RegionsKnown D (pointers d) f.outer

  pub known_more : (D E : Table) (d : Declared) → Extends D E → Known D d → Known E d
  known_more D E d x k =
      let n = pointers d in
      let le : n ≤ n = omega arith in
      record {
        declared = record {
          known = meanings_more D E x n n le d.known k.declared.known;
          domains = types_all_more D E x n n le d.domains k.declared.domains;
          variables = types_all_more D E x n n le d.variables k.declared.variables;
        };
        outer = regions_more D E x n n le f.outer k.outer;
      }

  -- more meanings
  pub known_with : (D : Table) (d : Declared) (ms : List Meaning) → Known D d → Each (MeaningKnown D (pointers d)) ms
      → Known D (with_known d (d.known ++ ms))
  known_with D d ms k new = record {
    declared = record {
      known = each_append (MeaningKnown D (pointers d)) d.known ms k.declared.known new;
      domains = k.declared.domains;
      variables = k.declared.variables;
    };
    outer = k.outer;
  }

  pub names_known : (D : Table) (d : Declared) (hidden : Hidden) → Known D d → RegionsKnown D (pointers d)
      (regions f hidden d.known)
  names_known D d hidden k = regions_known D (pointers d) f hidden d.known k.outer k.declared.known

  -- what is read of an ordinal type
  pub record OrdinalRead (low high : ℕ) (x : syntax.Ordinal) (r : Tokens) (D : Table) (d e : Declared) (o : Ordinal)
      : Type 0 where
    pub table : Table
    pub next : ℕ
    pub starts : low ≤ first_of_ordinal x
    pub before : first_of_ordinal x < next
    pub ordered : AreOrdered next high r
    pub agrees : Agrees low D table
    pub structures : (at : ℕ) → table.structures at ≡ D.structures at
    pub ends : EndsBefore next table
    pub known : Known table e
    pub ordinal : OrdinalKnown table o
    pub pending : e.pending ≡ d.pending
    pub domains : e.domains ≡ d.domains
    pub variables : e.variables ≡ d.variables
    pub new : List Meaning
    pub all_known : e.known ≡ d.known ++ new
    pub constants : Each IsConstantMeaning new

  is_ordinal : (D : Table) (b at : ℕ) (type : DataType) (o : Ordinal) → TypeKnown D b type → ordinal_at at type ≡ Yes o
      → OrdinalKnown D o
  unfolding ordinal_at
  is_ordinal D b at (OrdinalType q) o k e = subst (OrdinalKnown D) (inside_yes q o e) k
  is_ordinal D b at type o k e = absurd (no_yes e)

  -- ---- enumerations
  enumerated_known : (D : Table) (at count : ℕ) → count < CONSTANT_LIMIT → OrdinalKnown
      (with_enumeration D at (pos (count - 1))) (enumerated at count)
  enumerated_known D at count lt =
      let small : IsTrue (is_integer (pos (count - 1))) = lt-ltb (count - 1) NUMBER_LIMIT (omega (arith, lt)) in
      let rises : IsTrue (int_le (pos 0) (pos (count - 1))) = le-leb 0 (count - 1) (omega arith) in
      record {
        low = refl;
        high = small;
        rises = rises;
        host = (put_there at (pos (count - 1)) D.enumerations, small, rises);
        subrange = refl;
      }

  constants_known : (D : Table) (b : ℕ) (o : Ordinal) (n : ℕ) (names : Points) → OrdinalKnown D o → n
      + length names < 2147483649 → Each (MeaningKnown D b) (constants_from o n names)
  constants_known D b o n [] k le = tt
  constants_known D b o n (x ∷ names) k le =
      ((k, lt-ltb n NUMBER_LIMIT (omega (arith, le))), constants_known D b o (n + 1) names k (omega (arith, le)))

  only_constants : (o : Ordinal) (n : ℕ) (names : Points) → Each IsConstantMeaning (constants_from o n names)
  only_constants o n [] = tt
  only_constants o n (x ∷ names) = (tt, only_constants o (n + 1) names)

  -- ---- subranges
  subrange_known : (D : Table) (at : ℕ) (a b : ConstantValue) (o : Ordinal) → ConstantKnown D a → ConstantKnown D b
      → Extends D (with_subrange D at o) → subrange at a b ≡ Yes o → OrdinalKnown (with_subrange D at o) o
  unfolding subrange
  subrange_known D at (OrdinalConstant q m) (OrdinalConstant t n) o a b x e =
      let made : Ordinal = record { host = q.host; subrange = Some at; low = m; high = n } in
      let alike = if_yes (is_same_host q.host t.host) _ _ _ o e in
      let is = provided_yes (int_le m n) _ _ made o alike.1 in
      let there : (with_subrange D at o).subranges at ≡ Some made = put_there at o D.subranges ∙ ap Some (sym is.1) in
      let known : OrdinalKnown (with_subrange D at o) made = record {
        low = a.1;
        high = b.1;
        rises = is.0;
        host = host_more D (with_subrange D at o) x q.host a.0.host;
        subrange = there;
      } in
      subst (OrdinalKnown (with_subrange D at o)) is.1 known
  subrange_known D at (OrdinalConstant q m) (TextConstant w) o a b x e = absurd (no_yes e)
  subrange_known D at (TextConstant w) b o a k x e = absurd (no_yes e)

  module _ (bytes : Each (λ x. x < 256) f.text) (short : length f.text ≤ MAX_LENGTH) where
    enumeration_read : (low high : ℕ) (from to next : ℕ) (names : Points) (x : syntax.Ordinal) (r : Tokens) (D : Table)
        (d e : Declared) (o : Ordinal) → first_of_ordinal x ≡ from → low ≤ from → from < next → AreOrdered next high r
        → EndsBefore low D → Known D d → enumeration f from names d ≡ Yes (o, e) → OrdinalRead low high x r D d e o
    enumeration_read low high from to next names x r D d e o is le lt ordered ends k q =
        let n = length names in
        let made = with_known d (d.known ++ constants_from (enumerated from n) 0 names) in
        let new = then_yes (new_points f.text f.names f.begun (length d.known) names) _ (o, e) q in
        let few = provided_yes (nat_lt n CONSTANT_LIMIT) _ _ (enumerated from n, made) (o, e) new.2 in
        let below = ltb-true n CONSTANT_LIMIT few.0 in
        let table = with_enumeration D from (pos (n - 1)) in
        let agrees = enumeration_agrees low D from (pos (n - 1)) le in
        let known_here = enumerated_known D from n below in
        let more = known_more D table d (agrees_extend low D table ends agrees) k in
        let read : OrdinalRead low high x r D d made (enumerated from n) = record {
          table = table;
          next = next;
          starts = omega (arith, le, is);
          before = omega (arith, lt, is);
          ordered = ordered;
          agrees = agrees;
          structures = λ at. refl;
          ends = enumeration_ends low next D from (pos (n - 1)) ends (omega (arith, le, lt)) lt;
          known = known_with table d (constants_from (enumerated from n) 0 names) more
              (constants_known table (pointers d) (enumerated from n) 0 names known_here (omega (arith, below)));
          ordinal = known_here;
          pending = refl;
          domains = refl;
          variables = refl;
          new = constants_from (enumerated from n) 0 names;
          all_known = refl;
          constants = only_constants (enumerated from n) 0 names;
        } in
        subst (λ (z : Ordinal × Declared). OrdinalRead low high x r D d z.1 z.0) few.1 read

    unchanged : (low high next : ℕ) (x : syntax.Ordinal) (r : Tokens) (D E : Table) (d : Declared) (o : Ordinal)
        → low ≤ first_of_ordinal x → first_of_ordinal x < next → AreOrdered next high r → Agrees low D E
        → ((at : ℕ) → E.structures at ≡ D.structures at) → EndsBefore next E → Known E d → OrdinalKnown E o
        → OrdinalRead low high x r D d d o
    unchanged low high next x r D E d o le lt ordered agrees same ends k known = record {
      table = E;
      next = next;
      starts = le;
      before = lt;
      ordered = ordered;
      agrees = agrees;
      structures = same;
      ends = ends;
      known = k;
      ordinal = known;
      pending = refl;
      domains = refl;
      variables = refl;
      new = [];
      all_known = sym (append-nil d.known);
      constants = tt;
    }

    pub ordinal_read : (x : syntax.Ordinal) (ts r : Tokens) → IsOrdinal x ts r → (hidden : Hidden) (D : Table)
        (d e : Declared) (o : Ordinal) (low high : ℕ) → AreOrdered low high ts → EndsBefore low D → Known D d
        → ordinal f hidden d x ≡ Yes (o, e) → OrdinalRead low high x r D d e o
    unfolding ordinal
    ordinal_read x ts r (p.named {at = at}) hidden D d e o low high ordered ends k q =
        let type = then_yes (type_named f.text (regions f hidden d.known) at) _ (o, e) q in
        let there = then_yes (ordinal_at at.from type.0) _ (o, e) type.2 in
        let known = is_ordinal D (pointers d) at.from type.0 there.0
        (named_known D (pointers d) f.text (regions f hidden d.known) at type.0 (names_known D d hidden k) type.1)
        there.1 in
        subst (λ (z : Ordinal × Declared). OrdinalRead low high x r D d z.1 z.0)
        (inside_yes (there.0, d) (o, e) there.2)
        (unchanged low high at.to (v.Name at) r D D d there.0 ordered.0 ordered.1 ordered.2 (agrees_self low D)
        (λ i. refl) (ends_later D low at.to (let a = ordered.0 in let b = ordered.1 in omega (arith, a, b)) ends) k
        known)
    ordinal_read x ts r (p.enumeration {left = at} {xs = xs} {ts = us} names) hidden D d e o low high ordered ends k q =
        let later : Later us r = past _ us r r (names_go xs us _ names) (same_place r) in
        let place = later.on at.to high ordered.2 in
        enumeration_read low high at.from at.to place.0 xs (v.Enumeration at xs) r D d e o refl ordered.0
        (let a = ordered.1 in let b = place.1 in omega (arith, a, b)) place.2 ends k q
    ordinal_read x ts r (p.subrange {x = y} {y = z} {m = m} first second) hidden D d e o low high ordered ends k q =
        let Γ = regions f hidden d.known in
        let at = first_of_constant y in
        let made = then_yes (subrange_of f hidden d.known at y z) _ (o, e) q in
        let a = then_yes (constant f.text Γ y) _ made.0 made.1 in
        let b = then_yes (constant f.text Γ z) _ made.0 a.2 in
        let starts = constant_starts y ts _ first low high ordered in
        let ends_at = constant_starts z m r second _ high starts.ordered.2 in
        let next = ends_at.next in
        let inner : at < next = let i = starts.before in let j = starts.ordered.0 in let l = starts.ordered.1
        in let t = ends_at.from in let u = ends_at.before in omega (arith, i, j, l, t, u) in
        let le : low ≤ at = starts.from in
        let table = with_subrange D at made.0 in
        let agrees = subrange_agrees low D at made.0 le in
        let extends = agrees_extend low D table ends agrees in
        let known = names_known D d hidden k in
        let ordinal_there = subrange_known D at a.0 b.0 made.0
        (constant_known D (pointers d) f.text Γ y a.0 bytes short known a.1)
        (constant_known D (pointers d) f.text Γ z b.0 bytes short known b.1) extends b.2 in
        subst (λ (t : Ordinal × Declared). OrdinalRead low high x r D d t.1 t.0) (inside_yes (made.0, d) (o, e) made.2)
        (unchanged low high next (v.Subrange y z) r D table d made.0 le inner ends_at.ordered agrees (λ i. refl)
        (subrange_ends low next D at made.0 ends (omega (arith, le, inner)) inner)
        (known_more D table d extends k) ordinal_there)
