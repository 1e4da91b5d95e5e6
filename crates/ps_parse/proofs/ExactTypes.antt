-- Names, ordinals and types are read exactly.
use Rattle.std.proofs.Common.{◌≡◌, ℕ, zero, suc, ◌<◌, ◌≤◌, true, false, List, [], ◌∷◌, length, Some, None, Ok, inl}
use Rattle.std.proofs.Common.{inr, refl, sym, ap, ◌∙◌, subst, arith}
use Rattle.ps_text.specs.declared.Span.{Span}
use Rattle.ps_scan.specs.declared.token.Kind.{Kind}
use Rattle.ps_scan.specs.declared.token.Kind.TheVariants as k
use Rattle.ps_scan.specs.Kinds.{same}
use Rattle.ps_syntax.specs.declared.expression.Sign.TheVariants as sign
use Rattle.ps_syntax.specs.declared.statement.Constant.{Constant}
use Rattle.ps_syntax.specs.declared.statement.Constant.TheVariants as c
use Rattle.ps_syntax.specs.declared.program.Ordinal.{Ordinal}
use Rattle.ps_syntax.specs.declared.program.Ordinal.TheVariants as o
use Rattle.ps_syntax.specs.declared.program.TypeDenoter.{TypeDenoter}
use Rattle.ps_syntax.specs.declared.program.TypeDenoter.TheVariants as t
use Rattle.ps_syntax.specs.declared.program.Structure.{Structure}
use Rattle.ps_syntax.specs.declared.program.Fields.{Fields}
use Rattle.ps_parse_grammar.specs.Symbols.{Tokens, Symbol, token, Separated, Terminated, one, several, exactly}
use Rattle.ps_parse_grammar.specs.Symbols.{trailing}
use Rattle.ps_parse_grammar.specs.Statements.{IsConstant, number, signed_number, text, signed_name}
use Rattle.ps_parse_grammar.specs.Statements as st
use Rattle.ps_parse_grammar.specs.Programs.{IsName, name, IsNames, IsOrdinal, named, enumeration, subrange, IsFields}
use Rattle.ps_parse_grammar.specs.Programs.{fields, IsStructure, array, empty_record, filled_record, set, IsType}
use Rattle.ps_parse_grammar.specs.Programs.{ordinal, pointer, structure, packed, index_within, type_within}
use Rattle.ps_parse.specs.Steps.{Parser, and_then, sees, expect, separated, terminated, pure}
use Rattle.ps_parse.specs.ReadStatements.{constant}
use Rattle.ps_parse.specs.ReadPrograms as read
use Rattle.ps_parse.proofs.Exact.{Exact, both_steps, in_steps, at_last, expect_sound, expect_complete, eat_found}
use Rattle.ps_parse.proofs.Exact.{eat_missed, eat_sound, accept_found, accept_missed, accept_sound, refused}
use Rattle.ps_parse.proofs.Lists.{separated_exact, terminated_exact}
use Rattle.ps_parse.proofs.ExactConstants.{Anything, NoComma, constant_exact}

-- ---- names
name_sound : (ts : Tokens) (x : Span) (r : Tokens) → expect k.Name ts ≡ Ok (x, r) → IsName x ts r
name_sound ts x r e = subst (λ z. IsName x z r) (sym (expect_sound k.Name ts x r e)) name

name_complete : (x : Span) (ts r : Tokens) → IsName x ts r → Anything r → expect k.Name ts ≡ Ok (x, r)
name_complete x ts r name o = expect_complete k.Name x r

name_shrinks : (x : Span) (ts r : Tokens) → IsName x ts r → length r ≤ length ts
name_shrinks x ts r name = omega arith

pub names_exact : Exact NoComma IsNames read.names
unfolding read.names
names_exact = separated_exact Anything NoComma k.Comma IsName (expect k.Name) (record {
  sound = name_sound;
  complete = name_complete;
  shrinks = name_shrinks;
}) (λ at m. tt) (λ r o. tt) (λ r o. o)

pub names_begin : (xs : List Span) (ts r : Tokens) → IsNames xs ts r → sees k.Name ts ≡ true
unfolding same
names_begin xs ts r (one name) = refl
names_begin xs ts r (several name ds) = refl

pub names_shrink : (xs : List Span) (ts r : Tokens) → IsNames xs ts r → length r < length ts
names_shrink xs ts r (one name) = omega arith
names_shrink xs ts r (several {xs = ys} {m = m} name ds) = omega (arith, names_shrink ys m r ds)

-- which tokens are not a comma
pub colon_no_comma : (at : Span) (m : Tokens) → NoComma (token k.Colon at ∷ m)
unfolding same
colon_no_comma at m = refl

pub paren_no_comma : (at : Span) (m : Tokens) → NoComma (token k.RightParen at ∷ m)
unfolding same
paren_no_comma at m = refl

-- ---- ordinals
abbrev pub NoRange : Tokens → Type 0
NoRange r = sees k.DotDot r ≡ false

plain_name : (x : Constant) (at : Span) (ts m : Tokens) → IsConstant x ts m → x ≡ c.Name None at → ts ≡ token k.Name at
    ∷ m
plain_name x at ts m number e = cc
plain_name x at ts m (signed_number s) e = cc
plain_name x at ts m (st.name {at = b}) e = (let q : b ≡ at = cc in ap (λ (z : Span). token k.Name z ∷ m) q)
plain_name x at ts m (signed_name s) e = cc
plain_name x at ts m text e = cc

dotted_sound : (x : Constant) (ts m : Tokens) (y : Ordinal) (r : Tokens) → IsConstant x ts m → and_then
    (expect k.DotDot m) (λ at n. and_then (constant n) (λ z. pure (o.Subrange x z))) ≡ Ok (y, r) → IsOrdinal y ts r
dotted_sound x ts m y r d e =
    in_steps (expect k.DotDot m) _ y r e (λ b0 b1 b2 b3.
    in_steps (constant b1) _ y r b3 (λ f0 f1 f2 f3.
    at_last IsOrdinal ts _ y f1 r f3 (subrange (subst (λ z. IsConstant x ts z) (expect_sound k.DotDot m b0 b1 b2) d)
    (constant_exact.sound b1 f0 f1 f2))))

after_constant_sound : (x : Constant) (ts m : Tokens) (y : Ordinal) (r : Tokens) → IsConstant x ts m
    → read.after_constant x m ≡ Ok (y, r) → IsOrdinal y ts r
after_constant_sound (c.Name None at) ts m y r d e =
    elim (eat_sound k.DotDot m _ y r e) [
      | inl w ↦ (let f = both_steps (constant w.1) _ y r w.3 in
          at_last IsOrdinal ts _ y f.1 r f.3 (subrange (subst (λ z. IsConstant (c.Name None at) ts z) w.2 d)
          (constant_exact.sound w.1 f.0 f.1 f.2)))
      | inr w ↦ at_last IsOrdinal ts _ y m r w
          (subst (λ z. IsOrdinal (o.Name at) z m) (sym (plain_name (c.Name None at) at ts m d refl)) named)
    ]
after_constant_sound (c.Name (Some s) at) ts m y r d e = dotted_sound (c.Name (Some s) at) ts m y r d e
after_constant_sound (c.Number s at) ts m y r d e = dotted_sound (c.Number s at) ts m y r d e
after_constant_sound (c.Text at) ts m y r d e = dotted_sound (c.Text at) ts m y r d e

enumeration_sound : (at : Span) (ts : Tokens) (y : Ordinal) (r : Tokens) → read.enumeration at ts ≡ Ok (y, r)
    → IsOrdinal y (token k.LeftParen at ∷ ts) r
unfolding read.enumeration
enumeration_sound at ts y r e =
    in_steps (read.names ts) _ y r e (λ b0 b1 b2 b3.
    in_steps (expect k.RightParen b1) _ y r b3 (λ f0 f1 f2 f3.
    at_last IsOrdinal _ _ y f1 r f3 (enumeration
    (subst (λ z. IsNames b0 ts z) (expect_sound k.RightParen b1 f0 f1 f2) (names_exact.sound ts b0 b1 b2)))))

ordinal_sound : (ts : Tokens) (y : Ordinal) (r : Tokens) → read.ordinal ts ≡ Ok (y, r) → IsOrdinal y ts r
unfolding read.ordinal
ordinal_sound ts y r e =
    elim (accept_sound k.LeftParen ts _ y r e) [
      | inl w ↦ subst (λ z. IsOrdinal y z r) (sym w.2) (enumeration_sound w.0 w.1 y r w.3)
      | inr w ↦ (let b = both_steps (constant ts) _ y r w.1 in after_constant_sound b.0 ts b.1 y r
          (constant_exact.sound ts b.0 b.1 b.2) b.3)
    ]

constant_no_paren : (x : Constant) (ts r : Tokens) → IsConstant x ts r → sees k.LeftParen ts ≡ false
unfolding same
constant_no_paren x ts r number = refl
constant_no_paren x ts r (signed_number sign.Plus) = refl
constant_no_paren x ts r (signed_number sign.Minus) = refl
constant_no_paren x ts r st.name = refl
constant_no_paren x ts r (signed_name sign.Plus) = refl
constant_no_paren x ts r (signed_name sign.Minus) = refl
constant_no_paren x ts r text = refl

dotted_complete : (x y : Constant) (at : Span) (m r : Tokens) → IsConstant y m r → read.after_constant x
    (token k.DotDot at ∷ m) ≡ Ok (o.Subrange x y, r)
dotted_complete (c.Name None b) y at m r d = eat_found k.DotDot at m _ ∙ rw (constant_exact.complete y m r d tt) refl
dotted_complete (c.Name (Some s) b) y at m r d = rw
    (expect_complete k.DotDot at m, constant_exact.complete y m r d tt) refl
dotted_complete (c.Number s b) y at m r d = rw (expect_complete k.DotDot at m, constant_exact.complete y m r d tt) refl
dotted_complete (c.Text b) y at m r d = rw (expect_complete k.DotDot at m, constant_exact.complete y m r d tt) refl

ordinal_complete : (y : Ordinal) (ts r : Tokens) → IsOrdinal y ts r → NoRange r → read.ordinal ts ≡ Ok (y, r)
unfolding read.ordinal read.enumeration
ordinal_complete y ts r (named {at = at}) n = accept_missed k.LeftParen _ _
    (constant_no_paren _ _ r (st.name {at = at})) ∙ rw (constant_exact.complete (c.Name None at) _ r st.name tt)
    (eat_missed k.DotDot r _ n)
ordinal_complete y ts r (enumeration {left = left} {right = right} {xs = xs} {ts = l} d) n =
    accept_found k.LeftParen left l _ ∙ rw (
      names_exact.complete xs l (token k.RightParen right ∷ r) d
          (paren_no_comma right r),
      expect_complete k.RightParen right r,
    ) refl
ordinal_complete y ts r (subrange {x = x} {y = z} {at = at} {m = m} d d') n =
    accept_missed k.LeftParen ts _ (constant_no_paren x ts _ d) ∙ rw
    (constant_exact.complete x ts (token k.DotDot at ∷ m) d tt) (dotted_complete x z at m r d')

ordinal_shrinks : (y : Ordinal) (ts r : Tokens) → IsOrdinal y ts r → length r ≤ length ts
ordinal_shrinks y ts r named = omega arith
ordinal_shrinks y ts r (enumeration {right = right} {xs = xs} {ts = l} d) = omega
    (arith, names_exact.shrinks xs l (token k.RightParen right ∷ r) d)
ordinal_shrinks y ts r (subrange {x = x} {y = z} {at = at} {m = m} d d') = omega
    (arith, constant_exact.shrinks x ts (token k.DotDot at ∷ m) d, constant_exact.shrinks z m r d')

pub ordinal_exact : Exact NoRange IsOrdinal read.ordinal
ordinal_exact = record { sound = ordinal_sound; complete = ordinal_complete; shrinks = ordinal_shrinks }

pub index_exact : (n : ℕ) → Exact NoRange (index_within n) (read.read_index n)
unfolding read.read_index
index_exact zero = refused NoRange
index_exact (suc n) = ordinal_exact

-- ---- types
abbrev EndsIndices : Tokens → Type 0
EndsIndices r = NoRange r × NoComma r

comma_no_range : (at : Span) (m : Tokens) → NoRange (token k.Comma at ∷ m)
unfolding same
comma_no_range at m = refl

at_bracket : (at : Span) (m : Tokens) → EndsIndices (token k.RightBracket at ∷ m)
unfolding same
at_bracket at m = (refl, refl)

semicolon_no_range : (at : Span) (m : Tokens) → NoRange (token k.Semicolon at ∷ m)
unfolding same
semicolon_no_range at m = refl

abbrev EndsFields : Tokens → Type 0
EndsFields r = NoRange r × (sees k.Semicolon r ≡ false) × (sees k.End r ≡ true)

at_end : (at : Span) (m : Tokens) → EndsFields (token k.End at ∷ m)
unfolding same
at_end at m = (refl, refl, refl)

names_no_end : (xs : List Span) (ts r : Tokens) → IsNames xs ts r → sees k.End ts ≡ false
unfolding same
names_no_end xs ts r (one name) = refl
names_no_end xs ts r (several name ds) = refl

module _ (I : Symbol Ordinal) (pi : Parser Ordinal) (hi : Exact NoRange I pi) (T : Symbol TypeDenoter)
    (pt : Parser TypeDenoter) (ht : Exact NoRange T pt) where
  indices_exact : Exact EndsIndices (Separated k.Comma I) (separated k.Comma pi)
  indices_exact = separated_exact NoRange EndsIndices k.Comma I pi hi comma_no_range (λ r o. o.0) (λ r o. o.1)

  fields_sound : (ts : Tokens) (y : Fields) (r : Tokens) → read.fields pi pt ts ≡ Ok (y, r) → IsFields T y ts r
  unfolding read.fields
  fields_sound ts y r e =
      in_steps (read.names ts) _ y r e (λ b0 b1 b2 b3.
      in_steps (expect k.Colon b1) _ y r b3 (λ f0 f1 f2 f3.
      in_steps (pt f1) _ y r f3 (λ g0 g1 g2 g3.
      at_last (IsFields T) _ _ y g1 r g3 (fields b0 g0
      (subst (λ z. IsNames b0 ts z) (expect_sound k.Colon b1 f0 f1 f2) (names_exact.sound ts b0 b1 b2))
      (ht.sound f1 g0 g1 g2)))))

  fields_complete : (y : Fields) (ts r : Tokens) → IsFields T y ts r → NoRange r → read.fields pi pt ts ≡ Ok (y, r)
  unfolding read.fields
  fields_complete y ts r (fields xs x {at = at} {m = m} d d') n = rw (
    names_exact.complete xs ts (token k.Colon at ∷ m) d
        (colon_no_comma at m),
    expect_complete k.Colon at m,
    ht.complete x m r d' n,
  ) refl

  fields_shrinks : (y : Fields) (ts r : Tokens) → IsFields T y ts r → length r ≤ length ts
  fields_shrinks y ts r (fields xs x {at = at} {m = m} d d') = omega
      (arith, names_exact.shrinks xs ts (token k.Colon at ∷ m) d, ht.shrinks x m r d')

  fields_begin : (y : Fields) (ts r : Tokens) → IsFields T y ts r → sees k.End ts ≡ false
  fields_begin y ts r (fields xs x d d') = names_no_end xs ts _ d

  all_fields : Exact EndsFields (Terminated k.Semicolon (IsFields T)) (terminated k.Semicolon k.End (read.fields pi pt))
  all_fields = terminated_exact NoRange EndsFields k.Semicolon k.End (IsFields T) (read.fields pi pt) (record {
    sound = fields_sound;
    complete = fields_complete;
    shrinks = fields_shrinks;
  }) semicolon_no_range (λ r o. o.0) (λ r o. o.1) (λ r o. o.2) fields_begin

  array_sound : (at : Span) (ts : Tokens) (y : Structure) (r : Tokens) → read.array pi pt at ts ≡ Ok (y, r)
      → IsStructure I T y (token k.Array at ∷ ts) r
  unfolding read.array
  array_sound at ts y r e =
      in_steps (expect k.LeftBracket ts) _ y r e (λ a0 a1 a2 a3.
      in_steps (separated k.Comma pi a1) _ y r a3 (λ b0 b1 b2 b3.
      in_steps (expect k.RightBracket b1) _ y r b3 (λ f0 f1 f2 f3.
      in_steps (expect k.Of f1) _ y r f3 (λ g0 g1 g2 g3.
      in_steps (pt g1) _ y r g3 (λ l0 l1 l2 l3.
      let middle = expect_sound k.RightBracket b1 f0 f1 f2 ∙ ap (λ (z : Tokens). token k.RightBracket f0 ∷ z)
      (expect_sound k.Of f1 g0 g1 g2) in
      subst (λ z. IsStructure I T y (token k.Array at ∷ z) r) (sym (expect_sound k.LeftBracket ts a0 a1 a2))
      (at_last (IsStructure I T) _ _ y l1 r l3
      (array (subst (λ z. Separated k.Comma I b0 a1 z) middle (indices_exact.sound a1 b0 b1 b2))
      (ht.sound g1 l0 l1 l2))))))))

  record_sound : (at : Span) (ts : Tokens) (y : Structure) (r : Tokens) → read.record_of pi pt at ts ≡ Ok (y, r)
      → IsStructure I T y (token k.Record at ∷ ts) r
  unfolding read.record_of
  record_sound at ts y r e =
      elim (eat_sound k.End ts _ y r e) [
        | inl w ↦ subst (λ z. IsStructure I T y (token k.Record at ∷ z) r) (sym w.2)
            (at_last (IsStructure I T) _ _ y w.1 r w.3 empty_record)
        | inr w ↦ (let b = both_steps (terminated k.Semicolon k.End (read.fields pi pt) ts) _ y r w in
            let f = both_steps (expect k.End b.1) _ y r b.3 in
            at_last (IsStructure I T) _ _ y f.1 r f.3
            (filled_record (subst (λ z. Terminated k.Semicolon (IsFields T) b.0 ts z)
            (expect_sound k.End b.1 f.0 f.1 f.2) (all_fields.sound ts b.0 b.1 b.2))))
      ]

  set_sound : (at : Span) (ts : Tokens) (y : Structure) (r : Tokens) → read.set_of pi pt at ts ≡ Ok (y, r)
      → IsStructure I T y (token k.Set at ∷ ts) r
  unfolding read.set_of
  set_sound at ts y r e =
      in_steps (expect k.Of ts) _ y r e (λ a0 a1 a2 a3.
      in_steps (pi a1) _ y r a3 (λ b0 b1 b2 b3.
      subst (λ z. IsStructure I T y (token k.Set at ∷ z) r) (sym (expect_sound k.Of ts a0 a1 a2))
      (at_last (IsStructure I T) _ _ y b1 r b3 (set (hi.sound a1 b0 b1 b2)))))

  structure_by_sound : (kind : Kind) (at : Span) (ts : Tokens) (y : Structure) (r : Tokens)
      → read.structure_by pi pt kind at (token kind at ∷ ts) ≡ Ok (y, r) → IsStructure I T y (token kind at ∷ ts) r
  structure_by_sound k.Array at ts y r e = array_sound at ts y r e
  structure_by_sound k.Record at ts y r e = record_sound at ts y r e
  structure_by_sound k.Set at ts y r e = set_sound at ts y r e
  structure_by_sound kind at ts y r e = cc

  structure_sound : (ts : Tokens) (y : Structure) (r : Tokens) → read.structure pi pt ts ≡ Ok (y, r)
      → IsStructure I T y ts r
  unfolding read.structure
  structure_sound [] y r e = cc
  structure_sound (t ∷ ts) y r e = structure_by_sound t.kind t.span ts y r e

  no_end_first : (xs : List Fields) (ts r : Tokens) → Terminated k.Semicolon (IsFields T) xs ts r → sees k.End ts
      ≡ false
  no_end_first xs ts r (exactly (one {x = x} d)) = fields_begin x ts _ d
  no_end_first xs ts r (exactly (several {x = x} d ds)) = fields_begin x ts _ d
  no_end_first xs ts r (trailing (one {x = x} d)) = fields_begin x ts _ d
  no_end_first xs ts r (trailing (several {x = x} d ds)) = fields_begin x ts _ d

  structure_complete : (y : Structure) (ts r : Tokens) → IsStructure I T y ts r → NoRange r → read.structure pi pt ts
      ≡ Ok (y, r)
  unfolding read.structure read.array read.record_of read.set_of
  structure_complete y ts r (array {left = left} {right = right} {of = of} {xs = xs} {x = x} {ts = l} {m = m} d d') n =
      rw (
        expect_complete k.LeftBracket left l,
        indices_exact.complete xs l
            (token k.RightBracket right ∷ token k.Of of ∷ m) d
            (at_bracket right (token k.Of of ∷ m)),
        expect_complete k.RightBracket right
            (token k.Of of ∷ m),
        expect_complete k.Of of m,
        ht.complete x m r d' n,
      ) refl
  structure_complete y ts r (empty_record {end = end}) n = eat_found k.End end r _
  structure_complete y ts r (filled_record {end = end} {xs = xs} {ts = l} d) n =
      eat_missed k.End l _ (no_end_first xs l _ d) ∙ rw
      (all_fields.complete xs l (token k.End end ∷ r) d (at_end end r), expect_complete k.End end r) refl
  structure_complete y ts r (set {of = of} {x = x} {ts = l} d) n = rw
      (expect_complete k.Of of l, hi.complete x l r d n) refl

  structure_shrinks : (y : Structure) (ts r : Tokens) → IsStructure I T y ts r → length r ≤ length ts
  structure_shrinks y ts r (array {right = right} {of = of} {xs = xs} {x = x} {ts = l} {m = m} d d') = omega
      (arith, indices_exact.shrinks xs l (token k.RightBracket right ∷ token k.Of of ∷ m) d, ht.shrinks x m r d')
  structure_shrinks y ts r empty_record = omega arith
  structure_shrinks y ts r (filled_record {end = end} {xs = xs} {ts = l} d) = omega
      (arith, all_fields.shrinks xs l (token k.End end ∷ r) d)
  structure_shrinks y ts r (set {x = x} {ts = l} d) = omega (arith, hi.shrinks x l r d)

  type_by_sound : (kind : Kind) (at : Span) (ts : Tokens) (y : TypeDenoter) (r : Tokens) → read.type_by pi pt kind at
      (token kind at ∷ ts) ≡ Ok (y, r) → IsType I T y (token kind at ∷ ts) r
  type_by_sound k.Caret at ts y r e = (let b = both_steps (expect k.Name ts) _ y r e in
      subst (λ z. IsType I T y (token k.Caret at ∷ z) r) (sym (expect_sound k.Name ts b.0 b.1 b.2))
      (at_last (IsType I T) _ _ y b.1 r b.3 pointer))
  type_by_sound k.Packed at ts y r e = (let b = both_steps (read.structure pi pt ts) _ y r e in at_last
      (IsType I T) _ _ y b.1 r b.3 (packed (structure_sound ts b.0 b.1 b.2)))
  type_by_sound k.Array at ts y r e = (let b = both_steps (read.structure pi pt (token k.Array at ∷ ts)) _ y r e
      in at_last (IsType I T) _ _ y b.1 r b.3 (structure (structure_sound _ b.0 b.1 b.2)))
  type_by_sound k.Record at ts y r e = (let b = both_steps (read.structure pi pt (token k.Record at ∷ ts)) _ y r e
      in at_last (IsType I T) _ _ y b.1 r b.3 (structure (structure_sound _ b.0 b.1 b.2)))
  type_by_sound k.Set at ts y r e = (let b = both_steps (read.structure pi pt (token k.Set at ∷ ts)) _ y r e in at_last
      (IsType I T) _ _ y b.1 r b.3 (structure (structure_sound _ b.0 b.1 b.2)))
  type_by_sound kind at ts y r e = (let b = both_steps (read.ordinal (token kind at ∷ ts)) _ y r e in at_last
      (IsType I T) _ _ y b.1 r b.3 (ordinal (ordinal_sound _ b.0 b.1 b.2)))

  type_sound : (ts : Tokens) (y : TypeDenoter) (r : Tokens) → read.any_type pi pt ts ≡ Ok (y, r) → IsType I T y ts r
  unfolding read.any_type
  type_sound [] y r e = cc
  type_sound (t ∷ ts) y r e = type_by_sound t.kind t.span ts y r e

  -- which way a type is read
  as_ordinal : (y : Ordinal) (ts r : Tokens) → IsOrdinal y ts r → read.any_type pi pt ts ≡ and_then (read.ordinal ts)
      (λ x. pure (t.Ordinal x))
  unfolding read.any_type
  as_ordinal y ts r named = refl
  as_ordinal y ts r (enumeration d) = refl
  as_ordinal y ts r (subrange number d') = refl
  as_ordinal y ts r (subrange (signed_number sign.Plus) d') = refl
  as_ordinal y ts r (subrange (signed_number sign.Minus) d') = refl
  as_ordinal y ts r (subrange st.name d') = refl
  as_ordinal y ts r (subrange (signed_name sign.Plus) d') = refl
  as_ordinal y ts r (subrange (signed_name sign.Minus) d') = refl
  as_ordinal y ts r (subrange text d') = refl

  as_structure : (y : Structure) (ts r : Tokens) → IsStructure I T y ts r → read.any_type pi pt ts ≡ and_then
      (read.structure pi pt ts) (λ x. pure (t.Structure x))
  unfolding read.any_type
  as_structure y ts r (array d d') = refl
  as_structure y ts r empty_record = refl
  as_structure y ts r (filled_record d) = refl
  as_structure y ts r (set d) = refl

  as_packed : (at : Span) (ts : Tokens) → read.any_type pi pt (token k.Packed at ∷ ts) ≡ and_then
      (read.structure pi pt ts) (λ x. pure (t.Packed at x))
  unfolding read.any_type
  as_packed at ts = refl

  as_pointer : (at domain : Span) (r : Tokens) → read.any_type pi pt (token k.Caret at ∷ token k.Name domain ∷ r) ≡ Ok
      (t.Pointer at domain, r)
  unfolding read.any_type
  as_pointer at domain r = rw (expect_complete k.Name domain r) refl

  type_complete : (y : TypeDenoter) (ts r : Tokens) → IsType I T y ts r → NoRange r → read.any_type pi pt ts ≡ Ok (y, r)
  type_complete y ts r (ordinal {x = x} d) n = as_ordinal x ts r d ∙ rw (ordinal_complete x ts r d n) refl
  type_complete y ts r (pointer {at = at} {domain = domain}) n = as_pointer at domain r
  type_complete y ts r (structure {x = x} d) n = as_structure x ts r d ∙ rw (structure_complete x ts r d n) refl
  type_complete y ts r (packed {at = at} {x = x} {ts = l} d) n = as_packed at l ∙ rw (structure_complete x l r d n) refl

  type_shrinks : (y : TypeDenoter) (ts r : Tokens) → IsType I T y ts r → length r ≤ length ts
  type_shrinks y ts r (ordinal {x = x} d) = ordinal_shrinks x ts r d
  type_shrinks y ts r pointer = omega arith
  type_shrinks y ts r (structure {x = x} d) = structure_shrinks x ts r d
  type_shrinks y ts r (packed {x = x} {ts = l} d) = omega (arith, structure_shrinks x l r d)

  pub type_exact : Exact NoRange (IsType I T) (read.any_type pi pt)
  type_exact = record { sound = type_sound; complete = type_complete; shrinks = type_shrinks }

pub type_exact_within : (n : ℕ) → Exact NoRange (type_within n) (read.read_type n)
unfolding read.read_type
type_exact_within zero = refused NoRange
type_exact_within (suc n) = type_exact (index_within n) (read.read_index n) (index_exact n) (type_within n)
    (read.read_type n) (type_exact_within n)
