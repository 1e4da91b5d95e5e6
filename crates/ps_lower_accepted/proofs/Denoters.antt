-- What type denoters define: each part of a type is what the table has where its denoter begins.
use Rattle.std.proofs.Common.{◌≡◌, ℕ, zero, suc, ◌+◌, ◌<◌, ◌≤◌, Bool, nat_lt, List, [], ◌∷◌, ◌++◌, length, map, Option}
use Rattle.std.proofs.Common.{Some, None, refl, sym, ap, ◌∙◌, subst, arith, append-nil, length-append}
use Rattle.ps_check.proofs.EachItem.{each_append}
use Rattle.ps_text.specs.declared.Span.{Span}
use Rattle.ps_text.specs.declared.TheConstants.{MAX_LENGTH}
use Rattle.ps_scan.specs.Spans.{AreOrdered}
use Rattle.ps_scan.specs.declared.token.Token.{Token}
use Rattle.ps_scan.specs.declared.token.Kind.{Kind}
use Rattle.ps_syntax.specs.First.{first_of_ordinal}
use Rattle.ps_syntax.specs.declared.program.Ordinal as syntax
use Rattle.ps_syntax.specs.declared.program.Ordinal.TheVariants as v
use Rattle.ps_syntax.specs.declared.program.TypeDenoter.{TypeDenoter}
use Rattle.ps_syntax.specs.declared.program.Structure.{Structure}
use Rattle.ps_syntax.specs.declared.program.Fields.{Fields}
use Rattle.ps_syntax.specs.declared.program.Structure.TheFolds.{fold-roll-Fields}
use Rattle.ps_parse_grammar.specs.Symbols.{Tokens, Symbol, Separated, one, several, Terminated, exactly, trailing}
use Rattle.ps_parse_grammar.specs.Programs as p
use Rattle.ps_parse_grammar.specs.Programs.{IsOrdinal, IsFields, IsStructure, IsType, index_within, type_within}
use Rattle.ps_tree.specs.declared.types.Ordinal.{Ordinal}
use Rattle.ps_tree.specs.Types.{DataType, OrdinalType, PointerType, RecordType, field_list, listed}
use Rattle.ps_tree.specs.Counts.{is_small}
use Rattle.ps_tree.specs.declared.limits.TheConstants.{MAX_ROUTINES}
use Rattle.ps_check_judgement.specs.Judged.{Judged, Yes, ◌>>=◌, steps}
use Rattle.ps_check_judgement.proofs.Binds.{then_yes, provided_yes, inside_yes}
use Rattle.ps_check_names.specs.Spelling.{spelled}
use Rattle.ps_check_declarations.specs.Points.{Points, new_points}
use Rattle.ps_check_declarations.specs.Denoters.{Frame, Declared, Hidden, Reading, StructureReading, FieldsReading}
use Rattle.ps_check_declarations.specs.Denoters.{FieldTypes, Indices, regions, type_named, ordinal, simple_type, passes}
use Rattle.ps_check_declarations.specs.Denoters.{waiting, pointer, small, begins, is_packed, index_begins, index_type}
use Rattle.ps_check_declarations.specs.Denoters.{array_of, array_type, add_fields, fields_of_type, record_names}
use Rattle.ps_check_declarations.specs.Denoters.{record_type, set_of, set_type, structure_step, type_step, fields_step}
use Rattle.ps_check_declarations.specs.Denoters.{denoter, structure, fields}
use Rattle.ps_check_declarations.proofs.FoldLemmas.{denoter_Ordinal, denoter_Pointer, denoter_Structure, denoter_Packed}
use Rattle.ps_check_declarations.proofs.FoldLemmas.{structure_Array, structure_Record, structure_Set}
use Rattle.ps_lower_accepted.proofs.Lists.{Each, each_map}
use Rattle.ps_lower_accepted.proofs.Tables.{Table, extends_self, EndsBefore, OrdinalKnown, TypeKnown, TypesKnown}
use Rattle.ps_lower_accepted.proofs.Tables.{ordinal_more}
use Rattle.ps_lower_accepted.proofs.Aims.{pointers}
use Rattle.ps_lower_accepted.proofs.Places.{then_later, behind, same_place, names_go}
use Rattle.ps_lower_accepted.proofs.Headings.{meanings_more, types_all_more, regions_more, named_known}
use Rattle.ps_lower_accepted.proofs.BlockMeanings.{ends_later}
use Rattle.ps_lower_accepted.proofs.Placed.{agrees_self, agrees_extend, put_there, put_other, with_structure}
use Rattle.ps_lower_accepted.proofs.Placed.{structure_extends, Rises, rises_more, IndexKnown, array_built}
use Rattle.ps_lower_accepted.proofs.Ordinals.{Known, names_known, OrdinalRead, ordinal_read}
use Rattle.ps_lower_accepted.proofs.DenoterParts.{Behind, TypeBehind, built_behind, from_ordinal, lower, nothing_read}
use Rattle.ps_lower_accepted.proofs.DenoterParts.{past_token, retold, set_known, two_parts}

module _ (f : Frame) where
  module _ (bytes : Each (λ x. x < 256) f.text) (short : length f.text ≤ MAX_LENGTH) where
    -- ---- ordinal types and pointer types
    abbrev as_type : Ordinal × Declared → Judged (DataType × Declared)
    as_type q = Yes (OrdinalType q.0, q.1)

    made_ordinal : (x : syntax.Ordinal) (ts r : Tokens) → IsOrdinal x ts r → (hidden : Hidden) (D : Table)
        (d e : Declared) (type : DataType) (low high : ℕ) → AreOrdered low high ts → EndsBefore low D → Known f D d
        → (ordinal f hidden d x >>= as_type) ≡ Yes (type, e) → TypeBehind f low high r D d e type
    made_ordinal x ts r der hidden D d e type low high ordered ends k q =
        let o = then_yes (ordinal f hidden d x) as_type (type, e) q in
        subst (λ (z : DataType × Declared). TypeBehind f low high r D d z.1 z.0)
        (inside_yes (OrdinalType o.0.0, o.0.1) (type, e) o.2)
        (from_ordinal f low high x r D d o.0.1 o.0.0
        (ordinal_read f bytes short x ts r der hidden D d o.0.1 o.0.0 low high ordered ends k o.1))

    simple_read : (x : syntax.Ordinal) (ts r : Tokens) → IsOrdinal x ts r → (hidden : Hidden) (D : Table)
        (d e : Declared) (type : DataType) (low high : ℕ) → AreOrdered low high ts → EndsBefore low D → Known f D d
        → simple_type f hidden d x ≡ Yes (type, e) → TypeBehind f low high r D d e type
    unfolding simple_type
    simple_read x ts r (p.named {at = at}) hidden D d e type low high ordered ends k q =
        let t = then_yes (type_named f.text (regions f hidden d.known) at) _ (type, e) q in
        let known = named_known D (pointers d) f.text (regions f hidden d.known) at t.0 (names_known f D d hidden k) t.1
        in
        subst (λ (z : DataType × Declared). TypeBehind f low high r D d z.1 z.0) (inside_yes (t.0, d) (type, e) t.2)
        (nothing_read f low at.to high r D d (λ E b. TypeKnown E b t.0)
        (let a = ordered.0 in let b = ordered.1 in omega (arith, a, b)) ordered.2 ends k known)
    simple_read x ts r (p.enumeration {left = at} {xs = xs} {ts = us} names) hidden D d e type low high ordered ends k q
        = made_ordinal (v.Enumeration at xs) ts r
        (p.enumeration {left = at} {xs = xs} {ts = us} names) hidden D d e type low high ordered ends k q
    simple_read x ts r (p.subrange {x = y} {y = z} {m = m} first second) hidden D d e type low high ordered ends k q =
        made_ordinal (v.Subrange y z) ts r (p.subrange {x = y} {y = z} {m = m} first second) hidden D d e type low high
        ordered ends k q

    pointer_read : (at domain : Span) (r : Tokens) (hidden : Hidden) (D : Table) (d e : Declared) (type : DataType)
        (low next high : ℕ) → low ≤ next → AreOrdered next high r → EndsBefore low D → Known f D d
        → pointer f hidden d domain ≡ Yes (type, e) → TypeBehind f low high r D d e type
    pointer_read at domain r hidden D d e type low next high le ordered ends k q =
        let made = (waiting d domain).1 in
        let free = then_yes (passes hidden (spelled f.text domain) domain.from) _ (type, e) q in
        let is = provided_yes (nat_lt (length d.domains + length d.pending) MAX_ROUTINES) _ _ (waiting d domain)
        (type, e) free.2 in
        let grown : pointers made ≡ suc (pointers d) = let l = length-append d.pending ((domain, length d.known) ∷ [])
        in omega (arith, l) in
        let n = pointers d in
        let b = pointers made in
        let more : n ≤ b = omega (arith, grown) in
        let x = extends_self D in
        let read : TypeBehind f low high r D d made (PointerType (length d.domains + length d.pending)) = record {
          table = D;
          next = next;
          later = le;
          ordered = ordered;
          agrees = agrees_self low D;
          ends = ends_later D low next le ends;
          known = record {
            declared = record {
              known = meanings_more D D x n b more d.known k.declared.known;
              domains = types_all_more D D x n b more d.domains k.declared.domains;
              variables = types_all_more D D x n b more d.variables k.declared.variables;
            };
            outer = regions_more D D x n b more f.outer k.outer;
          };
          told = omega (arith, grown);
          more = more;
          domains = refl;
          variables = refl;
          new = [];
          all_known = sym (append-nil d.known);
          constants = tt;
        } in
        subst (λ (z : DataType × Declared). TypeBehind f low high r D d z.1 z.0) is.1 read

    -- ---- structured types

    -- a place of `packed` before the structure
    abbrev pub PackedPlace : (low : ℕ) → (at : ℕ) → Option ℕ → Type 0
    PackedPlace low at None = low ≤ at
    PackedPlace low at (Some q) = (low ≤ q) × (q < at)

    place_from : (low at from to : ℕ) (packed : Option ℕ) → PackedPlace low at packed → at ≤ from → from < to
        → (low ≤ begins packed from) × (begins packed from < to)
    place_from low at from to None q le lt = (omega (arith, q, le), lt)
    place_from low at from to (Some n) q le lt = (q.0, let a = q.1 in omega (arith, a, le, lt))

    place_low : (low at : ℕ) (packed : Option ℕ) → PackedPlace low at packed → low ≤ at
    place_low low at None q = q
    place_low low at (Some n) q = let a = q.0 in let b = q.1 in omega (arith, a, b)

    abbrev TypeTells : Symbol TypeDenoter → Type 0
    TypeTells symbol = (x : TypeDenoter) (ts r : Tokens) → symbol x ts r → (hidden : Hidden) (D : Table)
        (d e : Declared) (type : DataType) (low high : ℕ) → AreOrdered low high ts → EndsBefore low D → Known f D d
        → denoter f x hidden d ≡ Yes (type, e) → TypeBehind f low high r D d e type

    -- where the next array begins
    abbrev Waits : Indices → (top at next : ℕ) → Type 0
    Waits [] top at next = top ≤ at
    Waits (i ∷ is) top at next = top ≤ next

    waits_more : (is : Indices) (top at next n : ℕ) → next ≤ n → Waits is top at next → Waits is top at n
    waits_more [] top at next n le w = w
    waits_more (i ∷ is) top at next n le w = omega (arith, w, le)

    waits_after : (is : Indices) (i : ℕ × Ordinal) (at next : ℕ) → Waits (is ++ i ∷ []) next at next
    waits_after [] i at next = omega arith
    waits_after (j ∷ is) i at next = omega arith

    index_place : (is : Indices) (top at next from to : ℕ) (x : syntax.Ordinal) → Waits is top at next → at < next
        → next ≤ first_of_ordinal x → first_of_ordinal x < to → (top ≤ index_begins at is x)
        × (index_begins at is x < to)
    index_place [] top at next from to x w lt le be = (w, omega (arith, lt, le, be))
    index_place (i ∷ is) top at next from to x w lt le be = (omega (arith, w, le), be)

    -- the indices so far
    record Indexed (low at high : ℕ) (r : Tokens) (D : Table) (d e : Declared) (is : Indices) : Type 0 where
      read : Behind f low high r D d e (λ E b. Each (IndexKnown E) is)
      top : ℕ
      rises : Rises low top is
      waits : Waits is top at read.next
      below : top ≤ read.next
      inside_at : at < read.next
      structures : (n : ℕ) → read.table.structures n ≡ D.structures n

    none_indexed : (low at next high : ℕ) (r : Tokens) (D : Table) (d : Declared) → low ≤ at → at < next
        → AreOrdered next high r → EndsBefore low D → Known f D d → Indexed low at high r D d d []
    unfolding nothing_read
    none_indexed low at next high r D d le lt ordered ends k = record {
      read = nothing_read f low next high r D d (λ E b. Each (IndexKnown E) [])
          (omega (arith, le, lt)) ordered ends k tt;
      top = low;
      rises = omega arith;
      waits = le;
      below = omega (arith, le, lt);
      inside_at = lt;
      structures = λ n. refl;
    }

    indexed_past : (low at high : ℕ) (t : Token) (r : Tokens) (D : Table) (d e : Declared) (is : Indices)
        → Indexed low at high (t ∷ r) D d e is → Indexed low at high r D d e is
    unfolding past_token
    indexed_past low at high t r D d e is a =
        let o = a.read.ordered in
        let le : a.read.next ≤ t.span.to = let x = o.0 in let y = o.1 in omega (arith, x, y) in
        record {
          read = past_token f low high t r D d e (λ E b. Each (IndexKnown E) is) a.read;
          top = a.top;
          rises = a.rises;
          waits = waits_more is a.top at a.read.next t.span.to le a.waits;
          below = let x = a.below in omega (arith, x, le);
          inside_at = let x = a.inside_at in omega (arith, x, le);
          structures = a.structures;
        }

    one_indexed : (low at high : ℕ) (m r : Tokens) (D : Table) (d e g : Declared) (is : Indices) (o : Ordinal)
        (x : syntax.Ordinal) → (a : Indexed low at high m D d e is)
        → OrdinalRead f a.read.next high x r a.read.table e g o → Indexed low at high r D d g
        (is ++ (index_begins at is x, o) ∷ [])
    unfolding two_parts from_ordinal retold
    one_indexed low at high m r D d e g is o x a q =
        let place = index_place is a.top at a.read.next low q.next x a.waits a.inside_at q.starts q.before in
        let both = two_parts f low a.read.next high m r D d e g (λ E b. Each (IndexKnown E) is)
        (λ E b. OrdinalKnown E o) a.read a.read.later (from_ordinal f a.read.next high x r a.read.table e g o q) in
        let more = agrees_extend a.read.next a.read.table q.table a.read.ends q.agrees in
        let le : a.read.next ≤ q.next = let i = q.starts in let j = q.before in omega (arith, i, j) in
        record {
          read = retold f low high r D d g (λ E b. OrdinalKnown E o)
              (λ E b. Each (IndexKnown E) (is ++ (index_begins at is x, o) ∷ [])) both
              (each_append (IndexKnown q.table) is ((index_begins at is x, o) ∷ [])
              (each_map (IndexKnown a.read.table) (IndexKnown q.table)
              (λ i. ordinal_more a.read.table q.table more i.1) is a.read.told) (q.ordinal, tt));
          top = q.next;
          rises = rises_more low a.top (index_begins at is x) q.next o is a.rises place.0 place.1;
          waits = waits_after is (index_begins at is x, o) at q.next;
          below = omega arith;
          inside_at = let i = a.inside_at in omega (arith, i, le);
          structures = λ n. q.structures n ∙ a.structures n;
        }

    module _ (index : Symbol syntax.Ordinal)
        (index_is : (x : syntax.Ordinal) (ts r : Tokens) → index x ts r → IsOrdinal x ts r) where
      index_added : (x : syntax.Ordinal) (ts r : Tokens) → index x ts r → (hidden : Hidden) (low at high : ℕ)
          (D : Table) (d : Declared) (s t : Indices × Declared) → Indexed low at high ts D d s.1 s.0
          → index_type f hidden at s x ≡ Yes t → Indexed low at high r D d t.1 t.0
      index_added x ts r der hidden low at high D d s t a q =
          let o = then_yes (ordinal f hidden s.1 x) (λ r. Yes (s.0 ++ (index_begins at s.0 x, r.0) ∷ [], r.1)) t q in
          let read = ordinal_read f bytes short x ts r
          (index_is x ts r der) hidden a.read.table s.1 o.0.1 o.0.0 a.read.next high a.read.ordered a.read.ends
          a.read.known o.1 in
          subst (λ (z : Indices × Declared). Indexed low at high r D d z.1 z.0)
          (inside_yes (s.0 ++ (index_begins at s.0 x, o.0.0) ∷ [], o.0.1) t o.2)
          (one_indexed low at high ts r D d s.1 o.0.1 s.0 o.0.0 x a read)

      indices_added : (k : Kind) (xs : List syntax.Ordinal) (ts r : Tokens) → Separated k index xs ts r
          → (hidden : Hidden) (low at high : ℕ) (D : Table) (d : Declared) (s t : Indices × Declared)
          → Indexed low at high ts D d s.1 s.0 → steps (index_type f hidden at) s xs ≡ Yes t
          → Indexed low at high r D d t.1 t.0
      indices_added k xs ts r (one {x = x} der) hidden low at high D d s t a q =
          let u = then_yes (index_type f hidden at s x) (λ z. steps (index_type f hidden at) z []) t q in
          subst (λ (z : Indices × Declared). Indexed low at high r D d z.1 z.0) (inside_yes u.0 t u.2)
          (index_added x ts r der hidden low at high D d s u.0 a u.1)
      indices_added k xs ts r (several {x = x} {xs = ys} {m = m} der rest) hidden low at high D d s t a q =
          let u = then_yes (index_type f hidden at s x) (λ z. steps (index_type f hidden at) z ys) t q in
          indices_added k ys m r rest hidden low at high D d u.0 t
          (indexed_past low at high _ m D d u.0.1 u.0.0 (index_added x ts _ der hidden low at high D d s u.0 a u.1))
          u.2

    -- ---- arrays
    array_behind : (low at middle high top : ℕ) (m r : Tokens) (D : Table) (d e g : Declared) (is : Indices)
        (component type : DataType) (packed : Bool) → EndsBefore low D → (a : Indexed low at high m D d e is)
        → (le : a.read.next ≤ middle) → TypeBehind f middle high r a.read.table e g component
        → array_of packed is component ≡ Yes type → TypeBehind f low high r D d g type
    unfolding two_parts
    array_behind low at middle high top m r D d e g is component type packed ends a le b q =
        let both = two_parts f low middle high m r D d e g (λ E b. Each (IndexKnown E) is)
        (λ E b. TypeKnown E b component) a.read (let x = a.read.later in omega (arith, x, le)) b in
        let more = agrees_extend middle a.read.table b.table
        (ends_later a.read.table a.read.next middle le a.read.ends) b.agrees in
        let near : a.top ≤ middle = let x = a.below in omega (arith, x, le) in
        built_behind f low high a.top r D d g (λ E b. TypeKnown E b component) type both
        (let x = b.later in omega (arith, x, near))
        (array_built low a.top b.table (pointers g) packed component b.told is a.rises
        (each_map (IndexKnown a.read.table) (IndexKnown b.table)
        (λ i. ordinal_more a.read.table b.table more i.1) is a.read.told)
        (λ n l m. b.agrees.structures n (omega (arith, m, near)) ∙ a.structures n ∙ ends.structures n l) type q)

    -- ---- records
    abbrev TypesThere : List DataType → Table → ℕ → Type 0
    TypesThere types E b = Each (TypeKnown E b) types

    listed_known : (E : Table) (b : ℕ) (types : List DataType) → Each (TypeKnown E b) types → TypesKnown E b
        (listed types)
    listed_known E b [] k = tt
    listed_known E b (t ∷ types) k = (k.0, listed_known E b types k.1)

    types_repeated : (E : Table) (b : ℕ) (type : DataType) → TypeKnown E b type → (names : Points) → Each
        (TypeKnown E b) (fields_of_type type names)
    types_repeated E b type k [] = tt
    types_repeated E b type k (x ∷ names) = (k, types_repeated E b type k names)

    fields_behind : (low middle high : ℕ) (m r : Tokens) (D : Table) (d e g : Declared) (types : List DataType)
        (type : DataType) (names : Points) → (a : Behind f low high m D d e (TypesThere types)) → (le : a.next ≤ middle)
        → TypeBehind f middle high r a.table e g type → Behind f low high r D d g
        (TypesThere (types ++ fields_of_type type names))
    unfolding two_parts
    fields_behind low middle high m r D d e g types type names a le b =
        let both = two_parts f low middle high m r D d e g (TypesThere types) (λ E b. TypeKnown E b type) a
        (let x = a.later in omega (arith, x, le)) b in
        let more = agrees_extend middle a.table b.table (ends_later a.table a.next middle le a.ends) b.agrees in
        retold f low high r D d g (λ E b. TypeKnown E b type) (TypesThere (types ++ fields_of_type type names)) both
        (each_append (TypeKnown b.table (pointers g)) types (fields_of_type type names)
        (types_all_more a.table b.table more (pointers e) (pointers g) b.more types a.told)
        (types_repeated b.table (pointers g) type b.told names))

    record_behind : (low at high : ℕ) (packed : Bool) (r : Tokens) (D : Table) (d e : Declared) (types : List DataType)
        (names : List (List ℕ)) (type : DataType) (middle : ℕ) → low ≤ at → at < middle → EndsBefore low D
        → (a : Behind f middle high r D d e (TypesThere types)) → small at
        (RecordType at packed (field_list names (listed types))) ≡ Yes type → TypeBehind f low high r D d e type
    record_behind low at high packed r D d e types names type middle le lt ends a q =
        let whole = RecordType at packed (field_list names (listed types)) in
        let is = provided_yes (is_small whole) _ _ whole type q in
        let nothing = a.agrees.structures at lt ∙ ends.structures at le in
        let more = structure_extends a.table at whole nothing in
        let b = pointers e in
        let near : middle ≤ a.next = a.later in
        let known : TypeKnown (with_structure a.table at whole) b whole = (
          put_there at whole a.table.structures,
          listed_known (with_structure a.table at whole) b types
              (types_all_more a.table (with_structure a.table at whole) more b b (omega arith) types a.told),
        ) in
        subst (λ t. TypeBehind f low high r D d e t) is.1
        (built_behind f low high middle r D d e (TypesThere types) whole
        (lower f low middle high r D d e (TypesThere types) (omega (arith, le, lt)) a) near (record {
          table = with_structure a.table at whole;
          extends = more;
          below = λ i l. put_other at whole a.table.structures i (λ s. omega (arith, l, le, s));
          above = λ i l. put_other at whole a.table.structures i (λ s. omega (arith, l, lt, s));
          subranges = λ i. refl;
          enumerations = λ i. refl;
          known = known;
        }))

    -- ---- structures
    abbrev StructureTells : Symbol Structure → Type 0
    StructureTells symbol = (x : Structure) (ts r : Tokens) → symbol x ts r → (packed : Option ℕ) (hidden : Hidden)
        (D : Table) (d e : Declared) (type : DataType) (low middle high : ℕ) → PackedPlace low middle packed
        → AreOrdered middle high ts → EndsBefore low D → Known f D d → structure f x packed hidden d ≡ Yes (type, e)
        → TypeBehind f low high r D d e type

    module _ (index : Symbol syntax.Ordinal)
        (index_is : (x : syntax.Ordinal) (ts r : Tokens) → index x ts r → IsOrdinal x ts r)
        (symbol : Symbol TypeDenoter) (tells : TypeTells symbol) where
      field_read : (x : Fields) (ts r : Tokens) → IsFields symbol x ts r → (own : List (List ℕ)) (hidden : Hidden)
          (low high : ℕ) (D : Table) (d : Declared) (s t : FieldTypes × Declared) → Behind f low high ts D d s.1
          (TypesThere s.0) → add_fields f own hidden s (fields f x) ≡ Yes t → Behind f low high r D d t.1
          (TypesThere t.0)
      field_read x ts r (p.fields xs y {m = m} names inner) own hidden low high D d s t a q =
          let is = fold-roll-Fields StructureReading Reading FieldsReading (structure_step f) (type_step f)
          (fields_step f) (record {
            names = xs;
            ty = y;
          }) in
          let made = ap (add_fields f own hidden s) (sym is) ∙ q in
          let new = then_yes (new_points f.text own [] (length s.0) xs) _ t made in
          let u = then_yes (denoter f y ((own, new.0) ∷ hidden) s.1) _ t new.2 in
          let at = (then_later ts _ m (names_go xs ts _ names) (behind _ m m (same_place m))).on a.next high a.ordered
          in
          let b = tells y m r inner ((own, new.0) ∷ hidden) a.table s.1 u.0.1 u.0.0 at.0 high at.2
          (ends_later a.table a.next at.0 at.1 a.ends) a.known u.1 in
          subst (λ (z : FieldTypes × Declared). Behind f low high r D d z.1 (TypesThere z.0))
          (inside_yes (s.0 ++ fields_of_type u.0.0 xs, u.0.1) t u.2)
          (fields_behind low at.0 high ts r D d s.1 u.0.1 s.0 u.0.0 xs a at.1 b)

      fields_read : (k : Kind) (xs : List Fields) (ts r : Tokens) → Separated k (IsFields symbol) xs ts r
          → (own : List (List ℕ)) (hidden : Hidden) (low high : ℕ) (D : Table) (d : Declared)
          (s t : FieldTypes × Declared) → Behind f low high ts D d s.1 (TypesThere s.0) → steps
          (add_fields f own hidden) s (map (fields f) xs) ≡ Yes t → Behind f low high r D d t.1 (TypesThere t.0)
      fields_read k xs ts r (one {x = x} der) own hidden low high D d s t a q =
          let u = then_yes (add_fields f own hidden s (fields f x)) (λ z. steps (add_fields f own hidden) z []) t q in
          subst (λ (z : FieldTypes × Declared). Behind f low high r D d z.1 (TypesThere z.0)) (inside_yes u.0 t u.2)
          (field_read x ts r der own hidden low high D d s u.0 a u.1)
      fields_read k xs ts r (several {x = x} {xs = ys} {m = m} der rest) own hidden low high D d s t a q =
          let u = then_yes (add_fields f own hidden s (fields f x))
          (λ z. steps (add_fields f own hidden) z (map (fields f) ys)) t q in
          fields_read k ys m r rest own hidden low high D d u.0 t
          (past_token f low high _ m D d u.0.1 (TypesThere u.0.0)
          (field_read x ts _ der own hidden low high D d s u.0 a u.1)) u.2

      all_fields : (k : Kind) (xs : List Fields) (ts r : Tokens) → Terminated k (IsFields symbol) xs ts r
          → (own : List (List ℕ)) (hidden : Hidden) (low high : ℕ) (D : Table) (d : Declared)
          (s t : FieldTypes × Declared) → Behind f low high ts D d s.1 (TypesThere s.0) → steps
          (add_fields f own hidden) s (map (fields f) xs) ≡ Yes t → Behind f low high r D d t.1 (TypesThere t.0)
      all_fields k xs ts r (exactly der) own hidden low high D d s t a q = fields_read k xs ts r der own hidden low high
          D d s t a q
      all_fields k xs ts r (trailing der) own hidden low high D d s t a q = past_token f low high _ r D d t.1
          (TypesThere t.0) (fields_read k xs ts _ der own hidden low high D d s t a q)

      structure_read : StructureTells (IsStructure index symbol)
      unfolding array_type record_type set_type
      structure_read x ts r (p.array {at = at} {left = left} {xs = xs} {x = y} {ts = us} {m = m} indices inner) packed
          hidden D d e type low middle high packed_place ordered ends k q =
          let place = place_from low middle at.from at.to packed packed_place ordered.0 ordered.1 in
          let start = begins packed at.from in
          let made = sym (structure_Array f at xs y packed hidden d) ∙ q in
          let i = then_yes (steps (index_type f hidden start) ([], d) xs) _ (type, e) made in
          let c = then_yes (denoter f y hidden i.0.1) _ (type, e) i.2 in
          let t = then_yes (array_of (is_packed packed) i.0.0 c.0.0) _ (type, e) c.2 in
          let begun = none_indexed low start left.to high us D d place.0
          (let b = place.1 in let u = ordered.2.0 in let w = ordered.2.1 in omega (arith, b, u, w)) ordered.2.2 ends
          k in
          let all = indices_added index index_is _ xs us _ indices hidden low start high D d ([], d) i.0 begun i.1 in
          let after = indexed_past low start high _ m D d i.0.1 i.0.0
          (indexed_past low start high _ _ D d i.0.1 i.0.0 all) in
          let component = tells y m r inner hidden after.read.table i.0.1 c.0.1 c.0.0 after.read.next high
          after.read.ordered after.read.ends after.read.known c.1 in
          subst (λ (z : DataType × Declared). TypeBehind f low high r D d z.1 z.0)
          (inside_yes (t.0, c.0.1) (type, e) t.2)
          (array_behind low start after.read.next high low m r D d i.0.1 c.0.1 i.0.0 c.0.0 t.0
          (is_packed packed) ends after (omega arith) component t.1)
      structure_read x ts r (p.empty_record {at = at} {end = end}) packed hidden D d e type low middle high packed_place
          ordered ends k q =
          let place = place_from low middle at.from at.to packed packed_place ordered.0 ordered.1 in
          let made = sym (structure_Record f at [] packed hidden d) ∙ q in
          let names = record_names f [] in
          let t = then_yes (small (begins packed at.from)
          (RecordType (begins packed at.from) (is_packed packed) (field_list names (listed [])))) _ (type, e) made
          in
          let le : low ≤ at.to = let a = place.0 in let b = place.1 in omega (arith, a, b) in
          subst (λ (z : DataType × Declared). TypeBehind f low high r D d z.1 z.0) (inside_yes (t.0, d) (type, e) t.2)
          (record_behind low (begins packed at.from) high
          (is_packed packed) r D d d [] names t.0 at.to place.0 place.1 ends
          (nothing_read f at.to end.to high r D d (TypesThere [])
          (let a = ordered.2.0 in let b = ordered.2.1 in omega (arith, a, b)) ordered.2.2
          (ends_later D low at.to le ends) k tt) t.1)
      structure_read x ts r (p.filled_record {at = at} {xs = xs} {ts = us} inner) packed hidden D d e type low middle
          high packed_place ordered ends k q =
          let place = place_from low middle at.from at.to packed packed_place ordered.0 ordered.1 in
          let made = sym (structure_Record f at xs packed hidden d) ∙ q in
          let names = record_names f (map (fields f) xs) in
          let types = then_yes (steps (add_fields f names hidden) ([], d) (map (fields f) xs)) _ (type, e) made in
          let t = then_yes (small (begins packed at.from)
          (RecordType (begins packed at.from) (is_packed packed) (field_list names (listed types.0.0)))) _
          (type, e) types.2 in
          let le : low ≤ at.to = let a = place.0 in let b = place.1 in omega (arith, a, b) in
          let all = past_token f at.to high _ r D d types.0.1 (TypesThere types.0.0)
          (all_fields _ xs us _ inner names hidden at.to high D d ([], d) types.0
          (nothing_read f at.to at.to high us D d (TypesThere []) (omega arith) ordered.2
          (ends_later D low at.to le ends) k tt) types.1) in
          subst (λ (z : DataType × Declared). TypeBehind f low high r D d z.1 z.0)
          (inside_yes (t.0, types.0.1) (type, e) t.2)
          (record_behind low (begins packed at.from) high
          (is_packed packed) r D d types.0.1 types.0.0 names t.0 at.to place.0 place.1 ends all t.1)
      structure_read x ts r (p.set {at = at} {of = of} {x = y} {ts = us} inner) packed hidden D d e type low middle high
          packed_place ordered ends k q =
          let made = sym (structure_Set f at y packed hidden d) ∙ q in
          let o = then_yes (ordinal f hidden d y) _ (type, e) made in
          let t = then_yes (set_of at.from (begins packed at.from) (is_packed packed) o.0.0) _ (type, e) o.2 in
          let place = place_low low middle packed packed_place in
          let le : low ≤ of.to = let a = ordered.0 in let b = ordered.1 in let u = ordered.2.0 in let w = ordered.2.1
          in omega (arith, place, a, b, u, w) in
          let read = from_ordinal f of.to high y r D d o.0.1 o.0.0
          (ordinal_read f bytes short y us r (index_is y us r inner) hidden D d o.0.1 o.0.0 of.to high ordered.2.2
          (ends_later D low of.to le ends) k o.1) in
          subst (λ (z : DataType × Declared). TypeBehind f low high r D d z.1 z.0)
          (inside_yes (t.0, o.0.1) (type, e) t.2)
          (retold f low high r D d o.0.1 (λ E b. OrdinalKnown E o.0.0) (λ E b. TypeKnown E b t.0)
          (lower f low of.to high r D d o.0.1 (λ E b. OrdinalKnown E o.0.0) le read)
          (set_known f at.from (begins packed at.from) (is_packed packed) o.0.0 t.0 t.1
          (lower f low of.to high r D d o.0.1 (λ E b. OrdinalKnown E o.0.0) le read).table (pointers o.0.1)
          (let known = read.told in known)))

      type_read : TypeTells (IsType index symbol)
      type_read x ts r (p.ordinal {x = y} der) hidden D d e type low high ordered ends k q = simple_read y ts r der
          hidden D d e type low high ordered ends k (sym (denoter_Ordinal f y hidden d) ∙ q)
      type_read x ts r (p.pointer {at = at} {domain = domain}) hidden D d e type low high ordered ends k q =
          pointer_read at domain r hidden D d e type low domain.to high
          (let a = ordered.0 in let b = ordered.1 in let u = ordered.2.0 in let w = ordered.2.1 in omega
          (arith, a, b, u, w)) ordered.2.2 ends k (sym (denoter_Pointer f at domain hidden d) ∙ q)
      type_read x ts r (p.structure {x = y} der) hidden D d e type low high ordered ends k q = structure_read y ts r der
          None hidden D d e type low low high (omega arith) ordered ends k (sym (denoter_Structure f y hidden d) ∙ q)
      type_read x ts r (p.packed {at = at} {x = y} {ts = us} der) hidden D d e type low high ordered ends k q =
          structure_read y us r der (Some at.from) hidden D d e type low at.to high
          (ordered.0, ordered.1) ordered.2 ends k (sym (denoter_Packed f at y hidden d) ∙ q)

    indices_are : (n : ℕ) (x : syntax.Ordinal) (ts r : Tokens) → index_within n x ts r → IsOrdinal x ts r
    indices_are zero x ts r d = absurd d
    indices_are (suc n) x ts r d = d

    pub types_read : (n : ℕ) → TypeTells (type_within n)
    types_read zero x ts r der hidden D d e type low high ordered ends k q = absurd der
    types_read (suc n) x ts r der hidden D d e type low high ordered ends k q = type_read (index_within n)
        (indices_are n) (type_within n) (types_read n) x ts r der hidden D d e type low high ordered ends k q
