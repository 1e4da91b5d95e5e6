-- What was taken of a statement begins one.
use Rattle.std.proofs.Common.{◌≡◌, ℕ, zero, suc, Bool, true, false, List, [], ◌∷◌, Some, None, Ok, refl, sym, ap, ◌∙◌}
use Rattle.std.proofs.Common.{subst}
use Rattle.ps_text.specs.declared.Span.{Span}
use Rattle.ps_scan.specs.declared.token.Kind.{Kind}
use Rattle.ps_scan.specs.declared.token.Kind.TheVariants as k
use Rattle.ps_syntax.specs.declared.expression.Sign.{Sign}
use Rattle.ps_syntax.specs.declared.expression.Expr.{Expr}
use Rattle.ps_syntax.specs.declared.expression.Selector.{Selector}
use Rattle.ps_syntax.specs.declared.expression.Variable.{Variable}
use Rattle.ps_syntax.specs.declared.statement.Constant.{Constant}
use Rattle.ps_syntax.specs.declared.statement.Direction.{Direction}
use Rattle.ps_syntax.specs.declared.statement.Direction.TheVariants as direction
use Rattle.ps_syntax.specs.declared.statement.Parameter.TheVariants as parameter
use Rattle.ps_syntax.specs.declared.statement.Statement.{Statement}
use Rattle.ps_syntax.specs.declared.statement.Statement.TheVariants as s
use Rattle.ps_syntax.specs.declared.statement.Statement.TheOpen.{Statement-F}
use Rattle.ps_syntax.specs.declared.statement.Statement.TheFolds.{fold-Statement, fold-roll-Statement}
use Rattle.ps_syntax.specs.declared.statement.Element.{roll-Element}
use Rattle.ps_syntax.specs.declared.statement.Constant.TheVariants as c
use Rattle.ps_parse_grammar.specs.Symbols.{Tokens, Symbol, token, Many, Separated}
use Rattle.ps_parse_grammar.specs.Expressions.{sign_kind, IsSelector, IsVariable, selected, expr_within}
use Rattle.ps_parse_grammar.specs.Statements.{IsConstant, number, signed_number, name, signed_name, text, IsParameter}
use Rattle.ps_parse_grammar.specs.Statements.{unformatted, formatted, IsElement, element, InSequence, in_sequence}
use Rattle.ps_parse_grammar.specs.Statements.{IsSequence, IsStatement, empty, assign, procedure, call, compound}
use Rattle.ps_parse_grammar.specs.Statements.{if_then, if_else, case, while, repeat, for, with, direction_kind}
use Rattle.ps_parse_grammar.specs.Statements.{statement_within}
use Rattle.ps_parse.specs.Steps.{Parser, sees, accept, ◌>>=◌}
use Rattle.ps_parse.specs.ReadExpressions.{sign_of, selector, read_expr}
use Rattle.ps_parse.specs.ReadStatements as read
use Rattle.ps_parse.proofs.ExactExpressions.{sign_back, sign_forth}
use Rattle.ps_parse.proofs.ExactStatements.{direction_back, direction_forth, statement_exact_within}
use Rattle.ps_parse.proofs.Lists.{many_nil}
use Rattle.ps_parse.proofs.Viable.{Viable, Well, Start, After, Behind, after_token, start_behind, nowhere, well_pure}
use Rattle.ps_parse.proofs.Viable.{well_refuse, viable_pure, viable_refuse, viable_bind, viable_map, viable_expect}
use Rattle.ps_parse.proofs.Viable.{viable_eat, viable_accept, viable_operator, viable_needed, viable_choice}
use Rattle.ps_parse.proofs.Viable.{viable_choice_of, viable_separated, viable_many, viable_terminated, viable_seen}
use Rattle.ps_parse.proofs.ViableExpressions.{selector_viable, variable_viable, expr_viable}

-- ---- constants
unsigned_well : (kind : Kind) (at : Span) (ts : Tokens) → Well IsConstant (token kind at ∷ ts)
    (read.operand_by None kind at (token kind at ∷ ts))
unsigned_well k.Number at ts = after_token IsConstant k.Number at _ (viable_pure (λ r. number)) ts
unsigned_well k.Name at ts = after_token IsConstant k.Name at _ (viable_pure (λ r. name)) ts
unsigned_well kind at ts = well_refuse (record {
  tokens = token k.Number nowhere ∷ [];
  tree = c.Number None nowhere;
  derives = λ u. number;
}) (token kind at ∷ ts)

unsigned_viable : Viable IsConstant (read.operand None)
unfolding read.operand
unsigned_viable = viable_choice_of _ (λ t ts. unsigned_well t.kind t.span ts) (record {
  tokens = token k.Number nowhere ∷ [];
  tree = c.Number None nowhere;
  derives = λ u. number;
})

module _ (op : Sign) (sign : Span) where
  abbrev Signed : Symbol Constant
  Signed = Behind (sign_kind op) sign IsConstant

  signed_start : Start Signed
  signed_start = record {
    tokens = token k.Number nowhere ∷ [];
    tree = c.Number (Some (op, sign)) nowhere;
    derives = λ u. signed_number op;
  }

  signed_well : (kind : Kind) (at : Span) (ts : Tokens) → Well Signed (token kind at ∷ ts)
      (read.operand_by (Some (op, sign)) kind at (token kind at ∷ ts))
  signed_well k.Number at ts = after_token Signed k.Number at _ (viable_pure (λ r. signed_number op)) ts
  signed_well k.Name at ts = after_token Signed k.Name at _ (viable_pure (λ r. signed_name op)) ts
  signed_well kind at ts = well_refuse signed_start (token kind at ∷ ts)

  signed_viable : Viable Signed (read.operand (Some (op, sign)))
  unfolding read.operand
  signed_viable = viable_choice_of _ (λ t ts. signed_well t.kind t.span ts) signed_start

pub constant_viable : Viable IsConstant read.constant
unfolding read.constant
constant_viable = viable_accept _ k.Text _ (λ at. viable_pure (λ r. text))
    (viable_operator sign_of sign_kind sign_back sign_forth _ _ signed_viable unsigned_viable)

module _ (E : Symbol Expr) (p : Parser Expr) (v : Viable E p) where
  parameter_viable : Viable (IsParameter E) (read.parameter p)
  unfolding read.parameter
  parameter_viable = viable_bind v (λ x. viable_eat _ k.Colon _
      (λ at. viable_map (parameter.Width x) v (λ y ts r d start e. formatted e d))
      (viable_pure (λ r ts d. unformatted d)))

  named_variable_viable : Viable (IsVariable E) (read.named_variable p)
  unfolding read.named_variable
  named_variable_viable = viable_expect _ k.Name _ (λ at. variable_viable E p v at)

  module _ (S : Bool → Symbol Statement) where
    abbrev Next : Symbol Statement
    Next = InSequence (IsStatement E S)

    procedure_alone : (at : Span) (ts r : Tokens) → Many (IsSelector E) [] ts r → Next (s.Call at [])
        (token k.Name at ∷ ts) r
    procedure_alone at ts r d = subst (λ (z : Tokens). Next (s.Call at []) (token k.Name at ∷ z) r)
        (sym (many_nil (IsSelector E) [] ts r d refl)) (in_sequence procedure)

    assign_viable : (at becomes : Span) (xs : List Selector) → Viable
        (Behind k.Assign becomes (After (Many (IsSelector E)) (Behind k.Name at Next) xs))
        (read.assigned p at xs (Some becomes))
    assign_viable at becomes xs = viable_map _ v (λ y ts r d start e. in_sequence (assign (selected e) d))

    assigned_viable : (at : Span) (xs : List Selector) → Viable (After (Many (IsSelector E)) (Behind k.Name at Next) xs)
        (accept k.Assign >>= read.assigned p at xs)
    assigned_viable at [] = viable_accept _ k.Assign _ (λ becomes. assign_viable at becomes [])
        (viable_pure (λ r ts d. procedure_alone at ts r d))
    assigned_viable at (x ∷ xs) = viable_accept _ k.Assign _ (λ becomes. assign_viable at becomes (x ∷ xs))
        (viable_refuse (start_behind _ k.Assign (assign_viable at nowhere (x ∷ xs)).start))

    after_name_viable : (at : Span) → Viable (Behind k.Name at Next) (read.after_name p at)
    unfolding read.after_name
    after_name_viable at = viable_eat _ k.LeftParen _
        (λ left. viable_bind (viable_separated (IsParameter E) (read.parameter p) parameter_viable k.Comma)
        (λ xs. viable_expect _ k.RightParen _ (λ right. viable_pure (λ r ts d. in_sequence (call d)))))
        (viable_bind (viable_many (IsSelector E) (selector p) (selector_viable E p v)) (λ xs. assigned_viable at xs))

    module _ (q : Parser Statement) (w : Viable (InSequence S) q)
        (told : (x : Statement) (ts r : Tokens) → q ts ≡ Ok (x, r) → sees k.Else r ≡ true → (l m : Tokens)
        → InSequence S x l m → S false x l m) where
      sequence_viable : Viable (IsSequence S) (read.sequence p q)
      unfolding read.sequence
      sequence_viable = viable_separated (InSequence S) q w k.Semicolon

      compound_viable : (at : Span) → Viable (Behind k.Begin at Next) (read.compound p q)
      unfolding read.compound
      compound_viable at = viable_bind sequence_viable
          (λ xs. viable_expect _ k.End _ (λ end. viable_pure (λ r ts d. in_sequence (compound d))))

      element_of : (cs : List Constant) (x : Statement) (colon : Span) (ts m r : Tokens) → InSequence S x m r
          → Separated k.Comma IsConstant cs ts (token k.Colon colon ∷ m) → IsElement S (roll-Element (record {
            constants = cs;
            statement = x;
          })) ts r
      element_of cs x colon ts m r (in_sequence d) ds = element cs x ds d

      element_viable : Viable (IsElement S) (read.element p q)
      unfolding read.element
      element_viable = viable_bind (viable_separated IsConstant read.constant constant_viable k.Comma)
          (λ cs. viable_expect _ k.Colon _ (λ colon. viable_map _ w
          (λ x m r d ts ds. element_of cs x colon ts m r d ds)))

      case_viable : (at : Span) → Viable (Behind k.Case at Next) (read.case_statement p q at)
      unfolding read.case_statement
      case_viable at = viable_bind v (λ x. viable_expect _ k.Of _
          (λ of. viable_bind (viable_terminated (IsElement S) (read.element p q) element_viable k.Semicolon k.End)
          (λ xs. viable_expect _ k.End _ (λ end. viable_pure (λ r m ds ts d. in_sequence (case d ds))))))

      while_of : (at next : Span) (c : Expr) (x : Statement) (ts m r : Tokens) → InSequence S x m r → E c ts
          (token k.Do next ∷ m) → Next (s.While c x) (token k.While at ∷ ts) r
      while_of at next c x ts m r (in_sequence d) e = in_sequence (while e d)

      while_viable : (at : Span) → Viable (Behind k.While at Next) (read.while_statement p q)
      unfolding read.while_statement
      while_viable at = viable_bind v (λ c. viable_expect _ k.Do _
          (λ next. viable_map (s.While c) w (λ x m r d ts e. while_of at next c x ts m r d e)))

      repeat_viable : (at : Span) → Viable (Behind k.Repeat at Next) (read.repeat_statement p q)
      unfolding read.repeat_statement
      repeat_viable at = viable_bind sequence_viable
          (λ xs. viable_expect _ k.Until _ (λ until. viable_map (s.Repeat xs) v
          (λ c m r d ts ds. in_sequence (repeat ds d))))

      for_of : (d : Direction) (at called becomes to next : Span) (x y : Expr) (z : Statement) (ts l m r : Tokens)
          → InSequence S z m r → E y l (token k.Do next ∷ m) → E x ts (token (direction_kind d) to ∷ l) → Next
          (s.For called x d y z) (token k.For at ∷ token k.Name called ∷ token k.Assign becomes ∷ ts) r
      for_of d at called becomes to next x y z ts l m r (in_sequence f) g h = in_sequence (for d h g f)

      for_viable : (at : Span) → Viable (Behind k.For at Next) (read.for_statement p q)
      unfolding read.for_statement
      for_viable at = viable_expect _ k.Name _
          (λ called. viable_expect _ k.Assign _ (λ becomes. viable_bind v
          (λ x. viable_needed read.direction_of direction_kind direction_back direction_forth _ direction.Up _
          (λ d to. viable_bind v (λ y. viable_expect _ k.Do _
          (λ next. viable_map _ w (λ z m r f l g ts h. for_of d at called becomes to next x y z ts l m r f g h))))
          (λ ts. refl))))

      with_of : (at next : Span) (vs : List Variable) (x : Statement) (ts m r : Tokens) → InSequence S x m r
          → Separated k.Comma (IsVariable E) vs ts (token k.Do next ∷ m) → Next (s.With vs x) (token k.With at ∷ ts) r
      with_of at next vs x ts m r (in_sequence d) ds = in_sequence (with ds d)

      with_viable : (at : Span) → Viable (Behind k.With at Next) (read.with_statement p q)
      unfolding read.with_statement
      with_viable at = viable_bind (viable_separated (IsVariable E)
          (read.named_variable p) named_variable_viable k.Comma)
          (λ vs. viable_expect _ k.Do _ (λ next. viable_map (s.With vs) w
          (λ x m r d ts ds. with_of at next vs x ts m r d ds)))

      if_of : (at next : Span) (c : Expr) (x : Statement) (ts m r : Tokens) → InSequence S x m r → E c ts
          (token k.Then next ∷ m) → Next (s.If c x) (token k.If at ∷ ts) r
      if_of at next c x ts m r (in_sequence d) e = in_sequence (if_then e d)

      else_of : (at next other : Span) (c : Expr) (x y : Statement) (ts l m r : Tokens) → InSequence S y m r
          → S false x l (token k.Else other ∷ m) → E c ts (token k.Then next ∷ l) → Next (s.IfElse c x y)
          (token k.If at ∷ ts) r
      else_of at next other c x y ts l m r (in_sequence d) f e = in_sequence (if_else e f d)

      if_viable : (at : Span) → Viable (Behind k.If at Next) (read.if_statement p q)
      unfolding read.if_statement
      if_viable at = viable_bind v (λ c. viable_expect _ k.Then _
          (λ next. viable_seen (InSequence S) (S false) _ k.Else q _ told
          (λ x other. viable_map (s.IfElse c x) w (λ y m r d l f ts e. else_of at next other c x y ts l m r d f e))
          (λ x. viable_pure (λ r m d ts e. if_of at next c x ts m r d e)) w))

      statement_well : (kind : Kind) (at : Span) (ts : Tokens) → Well Next (token kind at ∷ ts)
          (read.statement_by p q kind at (token kind at ∷ ts))
      statement_well k.Name at ts = after_token Next k.Name at _ (after_name_viable at) ts
      statement_well k.Begin at ts = after_token Next k.Begin at _ (compound_viable at) ts
      statement_well k.If at ts = after_token Next k.If at _ (if_viable at) ts
      statement_well k.Case at ts = after_token Next k.Case at _ (case_viable at) ts
      statement_well k.While at ts = after_token Next k.While at _ (while_viable at) ts
      statement_well k.Repeat at ts = after_token Next k.Repeat at _ (repeat_viable at) ts
      statement_well k.For at ts = after_token Next k.For at _ (for_viable at) ts
      statement_well k.With at ts = after_token Next k.With at _ (with_viable at) ts
      statement_well kind at ts = well_pure {S = Next} {x = s.Empty} (λ r. in_sequence empty) (token kind at ∷ ts)

      statement_by_viable : Viable Next (read.any_statement p q)
      unfolding read.any_statement
      statement_by_viable = viable_choice _ _ (λ t ts. statement_well t.kind t.span ts)
          (well_pure {S = Next} {x = s.Empty} (λ r. in_sequence empty) []) (record {
            tokens = [];
            tree = s.Empty;
            derives = λ u. in_sequence empty;
          })

-- ---- the tree of a statement shows whether it ends in an if without an else
abbrev ends_step : Statement-F Bool (Unit {0}) → Bool
ends_step (Statement-F.If c x) = true
ends_step (Statement-F.IfElse c x y) = y
ends_step (Statement-F.While c x) = x
ends_step (Statement-F.For at x d y z) = z
ends_step (Statement-F.With vs x) = x
ends_step _ = false

abbrev ends_in_if : Statement → Bool
ends_in_if = fold-Statement Bool (Unit {0}) ends_step (λ z. tt)

one_end : (n : ℕ) (a : Bool) (y : Statement) (ts r : Tokens) → statement_within n a y ts r → a ≡ ends_in_if y
one_end zero a y ts r d = absurd d
one_end (suc n) a y ts r empty = sym (ap ends_in_if (sym (s.rolls-Empty)) ∙ fold-roll-Statement Bool
    (Unit {0}) ends_step (λ z. tt) (Statement-F.Empty))
one_end (suc n) a y ts r (assign {v = v} {at = at} {x = x} d d') = sym
    (ap ends_in_if (sym (s.rolls-Assign v at x)) ∙ fold-roll-Statement Bool (Unit {0}) ends_step (λ z. tt)
    (Statement-F.Assign v at x))
one_end (suc n) a y ts r (procedure {at = at}) = sym
    (ap ends_in_if (sym (s.rolls-Call at [])) ∙ fold-roll-Statement Bool (Unit {0}) ends_step (λ z. tt)
    (Statement-F.Call at []))
one_end (suc n) a y ts r (call {at = at} {xs = xs} d) = sym
    (ap ends_in_if (sym (s.rolls-Call at xs)) ∙ fold-roll-Statement Bool (Unit {0}) ends_step (λ z. tt)
    (Statement-F.Call at xs))
one_end (suc n) a y ts r (compound {xs = xs} d) = sym
    (ap ends_in_if (sym (s.rolls-Compound xs)) ∙ fold-roll-Statement Bool (Unit {0}) ends_step (λ z. tt)
    (Statement-F.Compound xs))
one_end (suc n) a y ts r (if_then {c = c} {x = x} d d') = sym
    (ap ends_in_if (sym (s.rolls-If c x)) ∙ fold-roll-Statement Bool (Unit {0}) ends_step (λ z. tt)
    (Statement-F.If c x))
one_end (suc n) a y ts r (if_else {c = c} {x = x} {y = z} {m = m} d d' d'') = one_end n a z m r d'' ∙ sym
    (ap ends_in_if (sym (s.rolls-IfElse c x z)) ∙ fold-roll-Statement Bool (Unit {0}) ends_step (λ z. tt)
    (Statement-F.IfElse c x z))
one_end (suc n) a y ts r (case {at = at} {x = x} {xs = xs} d d') = sym
    (ap ends_in_if (sym (s.rolls-Case at x xs)) ∙ fold-roll-Statement Bool (Unit {0}) ends_step (λ z. tt)
    (Statement-F.Case at x xs))
one_end (suc n) a y ts r (while {c = c} {x = z} {m = m} d d') = one_end n a z m r d' ∙ sym
    (ap ends_in_if (sym (s.rolls-While c z)) ∙ fold-roll-Statement Bool (Unit {0}) ends_step (λ z. tt)
    (Statement-F.While c z))
one_end (suc n) a y ts r (repeat {xs = xs} {c = c} d d') = sym
    (ap ends_in_if (sym (s.rolls-Repeat xs c)) ∙ fold-roll-Statement Bool (Unit {0}) ends_step (λ z. tt)
    (Statement-F.Repeat xs c))
one_end (suc n) a y ts r (for w {name = at} {x = x} {y = v} {z = z} {m = m} d d' d'') = one_end n a z m r d'' ∙ sym
    (ap ends_in_if (sym (s.rolls-For at x w v z)) ∙ fold-roll-Statement Bool (Unit {0}) ends_step (λ z. tt)
    (Statement-F.For at x w v z))
one_end (suc n) a y ts r (with {vs = vs} {x = z} {m = m} d d') = one_end n a z m r d' ∙ sym
    (ap ends_in_if (sym (s.rolls-With vs z)) ∙ fold-roll-Statement Bool (Unit {0}) ends_step (λ z. tt)
    (Statement-F.With vs z))

no_end : (a : Bool) (b : Bool) → (a ≡ true → b ≡ false) → b ≡ true → a ≡ false
no_end true b h e = (let g : true ≡ false = sym e ∙ h refl in cc)
no_end false b h e = refl

before_else : (n : ℕ) (x : Statement) (ts r : Tokens) → read.read_statement n ts ≡ Ok (x, r) → sees k.Else r ≡ true
    → (l m : Tokens) → InSequence (statement_within (suc (suc n))) x l m → statement_within (suc (suc n)) false x l m
before_else n x ts r e s l m (in_sequence {ends = b} d) =
    let g = (statement_exact_within n).sound ts x r e in
    subst (λ (z : Bool). statement_within (suc (suc n)) z x l m)
    (one_end (suc (suc n)) b x l m d ∙ sym (one_end n g.0 x ts r g.1) ∙ no_end g.0 (sees k.Else r) g.2 s) d

pub statement_viable : (n : ℕ) → Viable (InSequence (statement_within (suc (suc n)))) (read.read_statement n)
unfolding read.read_statement
statement_viable zero = viable_refuse (record { tokens = []; tree = s.Empty; derives = λ u. in_sequence empty })
statement_viable (suc n) = statement_by_viable (expr_within (suc (suc n))) (read_expr n) (expr_viable n)
    (statement_within (suc (suc n))) (read.read_statement n) (statement_viable n) (before_else n)
