-- What was taken of a type begins one.
use Rattle.std.proofs.Common.{ℕ, zero, suc, [], ◌∷◌, Some, None}
use Rattle.ps_text.specs.declared.Span.{Span}
use Rattle.ps_scan.specs.declared.token.Kind.{Kind}
use Rattle.ps_scan.specs.declared.token.Kind.TheVariants as k
use Rattle.ps_syntax.specs.declared.statement.Constant.{Constant}
use Rattle.ps_syntax.specs.declared.statement.Constant.TheVariants as c
use Rattle.ps_syntax.specs.declared.program.Ordinal.{Ordinal}
use Rattle.ps_syntax.specs.declared.program.Ordinal.TheVariants as o
use Rattle.ps_syntax.specs.declared.program.TypeDenoter.{TypeDenoter}
use Rattle.ps_syntax.specs.declared.program.TypeDenoter.TheVariants as t
use Rattle.ps_syntax.specs.declared.program.Structure.TheVariants as u
use Rattle.ps_parse_grammar.specs.Symbols.{Tokens, Symbol, token}
use Rattle.ps_parse_grammar.specs.Statements.{IsConstant}
use Rattle.ps_parse_grammar.specs.Statements as st
use Rattle.ps_parse_grammar.specs.Programs.{IsName, name, IsNames, IsOrdinal, named, enumeration, subrange, IsFields}
use Rattle.ps_parse_grammar.specs.Programs.{fields, IsStructure, array, empty_record, filled_record, set, IsType}
use Rattle.ps_parse_grammar.specs.Programs.{ordinal, pointer, structure, packed, index_within, type_within}
use Rattle.ps_parse.specs.Steps.{Parser, expect, ◌<$>◌}
use Rattle.ps_parse.specs.ReadStatements.{constant}
use Rattle.ps_parse.specs.ReadPrograms as read
use Rattle.ps_parse.proofs.Viable.{Viable, Well, Start, After, Behind, after_token, nowhere, well_refuse, viable_pure}
use Rattle.ps_parse.proofs.Viable.{viable_refuse, viable_bind, viable_map, viable_expect, viable_last, viable_eat}
use Rattle.ps_parse.proofs.Viable.{viable_accept, viable_choice_of, viable_separated, viable_terminated}
use Rattle.ps_parse.proofs.ViableStatements.{constant_viable}

-- ---- names and ordinals
pub names_viable : Viable IsNames read.names
unfolding read.names
names_viable = viable_separated IsName (expect k.Name) (viable_last IsName k.Name (λ at r. name)) k.Comma

named_of : (at : Span) (ts r : Tokens) → IsConstant (c.Name None at) ts r → IsOrdinal (o.Name at) ts r
named_of at ts r st.name = named

range_viable : (x : Constant) (at : Span) → Viable (Behind k.DotDot at (After IsConstant IsOrdinal x))
    (o.Subrange x <$> constant)
range_viable x at = viable_map (o.Subrange x) constant_viable (λ y ts r d start e. subrange e d)

after_constant_viable : (x : Constant) → Viable (After IsConstant IsOrdinal x) (read.after_constant x)
after_constant_viable (c.Name None at) = viable_eat _ k.DotDot _ (range_viable (c.Name None at))
    (viable_pure (λ r ts d. named_of at ts r d))
after_constant_viable (c.Name (Some s) at) = viable_expect _ k.DotDot _ (range_viable (c.Name (Some s) at))
after_constant_viable (c.Number s at) = viable_expect _ k.DotDot _ (range_viable (c.Number s at))
after_constant_viable (c.Text at) = viable_expect _ k.DotDot _ (range_viable (c.Text at))

enumeration_viable : (at : Span) → Viable (Behind k.LeftParen at IsOrdinal) (read.enumeration at)
unfolding read.enumeration
enumeration_viable at = viable_bind names_viable
    (λ xs. viable_expect _ k.RightParen _ (λ right. viable_pure (λ r ts d. enumeration d)))

ordinal_viable : Viable IsOrdinal read.ordinal
unfolding read.ordinal
ordinal_viable = viable_accept _ k.LeftParen _ enumeration_viable (viable_bind constant_viable after_constant_viable)

-- a name is an ordinal type
ordinal_start : Start IsOrdinal
ordinal_start = record { tokens = token k.Name nowhere ∷ []; tree = o.Name nowhere; derives = λ u. named }

-- ---- types
module _ (I : Symbol Ordinal) (T : Symbol TypeDenoter) where
  structure_start : Start (IsStructure I T)
  structure_start = record {
    tokens = token k.Record nowhere ∷ token k.End nowhere ∷ [];
    tree = u.Record nowhere [];
    derives = λ u. empty_record;
  }

  pub type_start : Start (IsType I T)
  type_start = record {
    tokens = token k.Name nowhere ∷ [];
    tree = t.Ordinal (o.Name nowhere);
    derives = λ u. ordinal named;
  }

  module _ (p : Parser Ordinal) (q : Parser TypeDenoter) (v : Viable I p) (w : Viable T q) where
    array_viable : (at : Span) → Viable (Behind k.Array at (IsStructure I T)) (read.array p q at)
    unfolding read.array
    array_viable at = viable_expect _ k.LeftBracket _
        (λ left. viable_bind (viable_separated I p v k.Comma)
        (λ xs. viable_expect _ k.RightBracket _ (λ right. viable_expect _ k.Of _
        (λ of. viable_map (u.Array at xs) w (λ x m r d ts ds. array ds d)))))

    fields_viable : Viable (IsFields T) (read.fields p q)
    unfolding read.fields
    fields_viable = viable_bind names_viable (λ xs. viable_expect _ k.Colon _
        (λ colon. viable_bind w (λ x. viable_pure (λ r m d ts ds. fields xs x ds d))))

    record_viable : (at : Span) → Viable (Behind k.Record at (IsStructure I T)) (read.record_of p q at)
    unfolding read.record_of
    record_viable at = viable_eat _ k.End _ (λ end. viable_pure (λ r. empty_record))
        (viable_bind (viable_terminated (IsFields T) (read.fields p q) fields_viable k.Semicolon k.End)
        (λ xs. viable_expect _ k.End _ (λ end. viable_pure (λ r ts d. filled_record d))))

    set_viable : (at : Span) → Viable (Behind k.Set at (IsStructure I T)) (read.set_of p q at)
    unfolding read.set_of
    set_viable at = viable_expect _ k.Of _ (λ of. viable_map (u.Set at) v (λ x ts r d. set d))

    structure_well : (kind : Kind) (at : Span) (ts : Tokens) → Well (IsStructure I T) (token kind at ∷ ts)
        (read.structure_by p q kind at (token kind at ∷ ts))
    structure_well k.Array at ts = after_token (IsStructure I T) k.Array at _ (array_viable at) ts
    structure_well k.Record at ts = after_token (IsStructure I T) k.Record at _ (record_viable at) ts
    structure_well k.Set at ts = after_token (IsStructure I T) k.Set at _ (set_viable at) ts
    structure_well kind at ts = well_refuse structure_start (token kind at ∷ ts)

    structure_viable : Viable (IsStructure I T) (read.structure p q)
    unfolding read.structure
    structure_viable = viable_choice_of _ (λ t ts. structure_well t.kind t.span ts) structure_start

    structured_viable : Viable (IsType I T) (t.Structure <$> read.structure p q)
    structured_viable = viable_map t.Structure structure_viable (λ x ts r d. structure d)

    ordered_viable : Viable (IsType I T) (t.Ordinal <$> read.ordinal)
    ordered_viable = viable_map t.Ordinal ordinal_viable (λ x ts r d. ordinal d)

    type_well : (kind : Kind) (at : Span) (ts : Tokens) → Well (IsType I T) (token kind at ∷ ts)
        (read.type_by p q kind at (token kind at ∷ ts))
    type_well k.Caret at ts = after_token (IsType I T) k.Caret at _
        (viable_expect _ k.Name _ (λ domain. viable_pure (λ r. pointer))) ts
    type_well k.Packed at ts = after_token (IsType I T) k.Packed at _
        (viable_map (t.Packed at) structure_viable (λ x ts r d. packed d)) ts
    type_well k.Array at ts = structured_viable.well (token k.Array at ∷ ts)
    type_well k.Record at ts = structured_viable.well (token k.Record at ∷ ts)
    type_well k.Set at ts = structured_viable.well (token k.Set at ∷ ts)
    type_well kind at ts = ordered_viable.well (token kind at ∷ ts)

    any_type_viable : Viable (IsType I T) (read.any_type p q)
    unfolding read.any_type
    any_type_viable = viable_choice_of _ (λ t ts. type_well t.kind t.span ts) type_start

index_viable : (n : ℕ) → Viable (index_within (suc (suc n))) (read.read_index n)
unfolding read.read_index
index_viable zero = viable_refuse ordinal_start
index_viable (suc n) = ordinal_viable

pub type_viable : (n : ℕ) → Viable (type_within (suc (suc n))) (read.read_type n)
unfolding read.read_type
type_viable zero = viable_refuse (type_start _ _)
type_viable (suc n) = any_type_viable _ _ _ _ (index_viable n) (type_viable n)
