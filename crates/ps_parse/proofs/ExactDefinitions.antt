-- Definitions and declarations of variables are read exactly. In what order the parts of a block come.
use Rattle.std.proofs.Common.{◌≡◌, ℕ, suc, ◌<◌, ◌≤◌, Bool, true, false, List, [], ◌∷◌, length, Ok, refl, sym, ap, ◌∙◌}
use Rattle.std.proofs.Common.{subst, arith}
use Rattle.ps_text.specs.declared.Span.{Span}
use Rattle.ps_scan.specs.declared.token.Kind.{Kind}
use Rattle.ps_scan.specs.declared.token.Kind.TheVariants as k
use Rattle.ps_scan.specs.Kinds.{same}
use Rattle.ps_syntax.specs.declared.program.TypeDenoter.{TypeDenoter}
use Rattle.ps_syntax.specs.declared.program.ConstantDefinition.{ConstantDefinition}
use Rattle.ps_syntax.specs.declared.program.TypeDefinition.{TypeDefinition}
use Rattle.ps_syntax.specs.declared.program.Variables.{Variables}
use Rattle.ps_parse_grammar.specs.Symbols.{Tokens, Symbol, token}
use Rattle.ps_parse_grammar.specs.Statements.{IsConstant}
use Rattle.ps_parse_grammar.specs.Programs.{IsNames, IsPart, without, filled, IsConstantDefinition, constant}
use Rattle.ps_parse_grammar.specs.Programs.{IsTypeDefinition, definition, IsVariables, variables}
use Rattle.ps_parse.specs.Steps.{Parser, sees, expect, part}
use Rattle.ps_parse.specs.ReadStatements as st
use Rattle.ps_parse.specs.ReadPrograms as read
use Rattle.ps_parse.proofs.Exact.{Exact, same_is, in_steps, at_last, expect_sound, expect_complete}
use Rattle.ps_parse.proofs.Lists.{part_exact}
use Rattle.ps_parse.proofs.ExactConstants.{Anything, constant_exact}
use Rattle.ps_parse.proofs.ExactTypes.{names_exact, names_begin, colon_no_comma, NoRange}

-- ---- the order of the parts of a block
abbrev pub rank : Kind → ℕ
rank k.Const = 1
rank k.Type = 2
rank k.Var = 3
rank k.Procedure = 4
rank k.Function = 4
rank k.Begin = 5
rank _ = 0

-- a later part of a block comes next
abbrev pub Later : ℕ → Tokens → Type 0
Later n [] = ⊥
Later n (t ∷ ts) = n ≤ rank t.kind

pub later_weaker : (m n : ℕ) (ts : Tokens) → m ≤ n → Later n ts → Later m ts
later_weaker m n [] le l = l
later_weaker m n (t ∷ ts) le l = omega (arith, l)

pub later_unseen : (n : ℕ) (k : Kind) (ts : Tokens) → Later n ts → rank k < n → sees k ts ≡ false
later_unseen n k [] l less = absurd l
later_unseen n k (t ∷ ts) l less = go (same t.kind k) refl
  where
    go : (b : Bool) → same t.kind k ≡ b → same t.kind k ≡ false
    go true e = absurd (let kinds : rank t.kind ≡ rank k = ap rank (same_is t.kind k e) in omega (arith, l, kinds))
    go false e = e

pub part_later : {A : Type 0} (word : Kind) (S : Symbol A) (xs : List A) (ts r : Tokens) → IsPart word S xs ts r → Later
    (suc (rank word)) r → Later (rank word) ts
part_later word S xs ts r without l = later_weaker (rank word) (suc (rank word)) r (omega arith) l
part_later word S xs ts r (filled d ds) l = omega arith

-- the token of another kind is not next
pub seen_other : (k j : Kind) (ts : Tokens) → (k ≡ j → ⊥) → sees k ts ≡ true → sees j ts ≡ false
seen_other k j [] ne e = refl
seen_other k j (t ∷ ts) ne e = go (same t.kind j) refl
  where
    go : (b : Bool) → same t.kind j ≡ b → same t.kind j ≡ false
    go true e' = absurd (ne (sym (same_is t.kind k e) ∙ same_is t.kind j e'))
    go false e' = e'

-- ---- definitions
definition_sound : (ts : Tokens) (y : ConstantDefinition) (r : Tokens) → read.constant_definition ts ≡ Ok (y, r)
    → IsConstantDefinition y ts r
unfolding read.constant_definition
definition_sound ts y r e =
    in_steps (expect k.Name ts) _ y r e (λ a0 a1 a2 a3.
    in_steps (expect k.Equal a1) _ y r a3 (λ b0 b1 b2 b3.
    in_steps (st.constant b1) _ y r b3 (λ f0 f1 f2 f3.
    in_steps (expect k.Semicolon f1) _ y r f3 (λ g0 g1 g2 g3.
    let head = expect_sound k.Name ts a0 a1 a2 ∙ ap (λ (z : Tokens). token k.Name a0 ∷ z)
    (expect_sound k.Equal a1 b0 b1 b2) in
    subst (λ z. IsConstantDefinition y z r) (sym head)
    (at_last IsConstantDefinition _ _ y g1 r g3
    (constant (subst (λ z. IsConstant f0 b1 z) (expect_sound k.Semicolon f1 g0 g1 g2)
    (constant_exact.sound b1 f0 f1 f2))))))))

definition_complete : (y : ConstantDefinition) (ts r : Tokens) → IsConstantDefinition y ts r → Anything r
    → read.constant_definition ts ≡ Ok (y, r)
unfolding read.constant_definition
definition_complete y ts r (constant {at = at} {equal = equal} {end = end} {x = x} {ts = l} d) n =
    rw (
      expect_complete k.Name at (token k.Equal equal ∷ l),
      expect_complete k.Equal equal l,
      constant_exact.complete x
          l (token k.Semicolon end ∷ r) d tt,
      expect_complete k.Semicolon end r,
    ) refl

definition_shrinks : (y : ConstantDefinition) (ts r : Tokens) → IsConstantDefinition y ts r → length r < length ts
definition_shrinks y ts r (constant {end = end} {x = x} {ts = l} d) = omega
    (arith, constant_exact.shrinks x l (token k.Semicolon end ∷ r) d)

definition_begins : (y : ConstantDefinition) (ts r : Tokens) → IsConstantDefinition y ts r → read.begins_name ts ≡ true
unfolding same
definition_begins y ts r (constant d) = refl

abbrev NoName : Tokens → Type 0
NoName ts = read.begins_name ts ≡ false

pub constants_exact : Exact (Later 2) (IsPart k.Const IsConstantDefinition)
    (part k.Const read.begins_name read.constant_definition)
constants_exact = part_exact Anything NoName read.begins_name IsConstantDefinition read.constant_definition (record {
  sound = definition_sound;
  complete = definition_complete;
  shrinks = λ y ts r d. omega (arith, definition_shrinks y ts r d);
})
    definition_begins (λ ts o. o) (λ x ts r d. tt) (λ ts o. tt) definition_shrinks k.Const (Later 2)
    (λ r l. later_unseen 2 k.Const r l (omega arith)) (λ r l. later_unseen 2 k.Name r l (omega arith))

module _ (T : Symbol TypeDenoter) (pt : Parser TypeDenoter) (ht : Exact NoRange T pt) where
  semicolon_no_range : (at : Span) (m : Tokens) → NoRange (token k.Semicolon at ∷ m)
  unfolding same
  semicolon_no_range at m = refl

  type_sound : (ts : Tokens) (y : TypeDefinition) (r : Tokens) → read.type_definition pt ts ≡ Ok (y, r)
      → IsTypeDefinition T y ts r
  unfolding read.type_definition
  type_sound ts y r e =
      in_steps (expect k.Name ts) _ y r e (λ a0 a1 a2 a3.
      in_steps (expect k.Equal a1) _ y r a3 (λ b0 b1 b2 b3.
      in_steps (pt b1) _ y r b3 (λ f0 f1 f2 f3.
      in_steps (expect k.Semicolon f1) _ y r f3 (λ g0 g1 g2 g3.
      let head = expect_sound k.Name ts a0 a1 a2 ∙ ap (λ (z : Tokens). token k.Name a0 ∷ z)
      (expect_sound k.Equal a1 b0 b1 b2) in
      subst (λ z. IsTypeDefinition T y z r) (sym head)
      (at_last (IsTypeDefinition T) _ _ y g1 r g3
      (definition (subst (λ z. T f0 b1 z) (expect_sound k.Semicolon f1 g0 g1 g2) (ht.sound b1 f0 f1 f2))))))))

  type_complete : (y : TypeDefinition) (ts r : Tokens) → IsTypeDefinition T y ts r → Anything r
      → read.type_definition pt ts ≡ Ok (y, r)
  unfolding read.type_definition
  type_complete y ts r (definition {at = at} {equal = equal} {end = end} {x = x} {ts = l} d) n =
      rw (
        expect_complete k.Name at (token k.Equal equal ∷ l),
        expect_complete k.Equal equal l,
        ht.complete x l
            (token k.Semicolon end ∷ r) d (semicolon_no_range end r),
        expect_complete k.Semicolon end r,
      ) refl

  type_shrinks : (y : TypeDefinition) (ts r : Tokens) → IsTypeDefinition T y ts r → length r < length ts
  type_shrinks y ts r (definition {end = end} {x = x} {ts = l} d) = omega
      (arith, ht.shrinks x l (token k.Semicolon end ∷ r) d)

  type_begins : (y : TypeDefinition) (ts r : Tokens) → IsTypeDefinition T y ts r → read.begins_name ts ≡ true
  unfolding same
  type_begins y ts r (definition d) = refl

  pub types_exact : Exact (Later 3) (IsPart k.Type (IsTypeDefinition T))
      (part k.Type read.begins_name (read.type_definition pt))
  types_exact = part_exact Anything NoName read.begins_name (IsTypeDefinition T) (read.type_definition pt) (record {
    sound = type_sound;
    complete = type_complete;
    shrinks = λ y ts r d. omega (arith, type_shrinks y ts r d);
  })
      type_begins (λ ts o. o) (λ x ts r d. tt) (λ ts o. tt) type_shrinks k.Type (Later 3)
      (λ r l. later_unseen 3 k.Type r l (omega arith)) (λ r l. later_unseen 3 k.Name r l (omega arith))

  variables_sound : (ts : Tokens) (y : Variables) (r : Tokens) → read.variables pt ts ≡ Ok (y, r) → IsVariables T y ts r
  unfolding read.variables
  variables_sound ts y r e =
      in_steps (read.names ts) _ y r e (λ a0 a1 a2 a3.
      in_steps (expect k.Colon a1) _ y r a3 (λ b0 b1 b2 b3.
      in_steps (pt b1) _ y r b3 (λ f0 f1 f2 f3.
      in_steps (expect k.Semicolon f1) _ y r f3 (λ g0 g1 g2 g3.
      at_last (IsVariables T) _ _ y g1 r g3 (variables
      (subst (λ z. IsNames a0 ts z) (expect_sound k.Colon a1 b0 b1 b2) (names_exact.sound ts a0 a1 a2))
      (subst (λ z. T f0 b1 z) (expect_sound k.Semicolon f1 g0 g1 g2) (ht.sound b1 f0 f1 f2)))))))

  variables_complete : (y : Variables) (ts r : Tokens) → IsVariables T y ts r → Anything r → read.variables pt ts ≡ Ok
      (y, r)
  unfolding read.variables
  variables_complete y ts r (variables {colon = colon} {end = end} {xs = xs} {x = x} {m = m} d d') n =
      rw (
        names_exact.complete xs ts (token k.Colon colon ∷ m) d
            (colon_no_comma colon m),
        expect_complete k.Colon colon m,
        ht.complete x m (token k.Semicolon end ∷ r) d'
            (semicolon_no_range end r),
        expect_complete k.Semicolon end r,
      ) refl

  variables_shrinks : (y : Variables) (ts r : Tokens) → IsVariables T y ts r → length r < length ts
  variables_shrinks y ts r (variables {colon = colon} {end = end} {xs = xs} {x = x} {m = m} d d') = omega
      (arith, names_exact.shrinks xs ts (token k.Colon colon ∷ m) d, ht.shrinks x m (token k.Semicolon end ∷ r) d')

  variables_begin : (y : Variables) (ts r : Tokens) → IsVariables T y ts r → read.begins_name ts ≡ true
  variables_begin y ts r (variables {xs = xs} d d') = names_begin xs ts _ d

  pub variables_exact : Exact (Later 4) (IsPart k.Var (IsVariables T)) (part k.Var read.begins_name (read.variables pt))
  variables_exact = part_exact Anything NoName read.begins_name (IsVariables T) (read.variables pt) (record {
    sound = variables_sound;
    complete = variables_complete;
    shrinks = λ y ts r d. omega (arith, variables_shrinks y ts r d);
  })
      variables_begin (λ ts o. o) (λ x ts r d. tt) (λ ts o. tt) variables_shrinks k.Var (Later 4)
      (λ r l. later_unseen 4 k.Var r l (omega arith)) (λ r l. later_unseen 4 k.Name r l (omega arith))
