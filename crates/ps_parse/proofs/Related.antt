-- Parsers side by side: a relation between what they return on the same tokens that is kept from step to step is kept
-- by the whole reading.
use Rattle.std.proofs.Common.{◌≡◌, ℕ, zero, suc, ◌≤◌, Bool, true, false, if◌then◌else◌, List, [], ◌∷◌, ◌++◌, length}
use Rattle.std.proofs.Common.{Option, Some, None, Ok, Err, refl, ap, arith, length-append}
use Rattle.ps_text.specs.declared.Span.{Span}
use Rattle.ps_scan.specs.declared.token.Kind.{Kind}
use Rattle.ps_scan.specs.declared.token.Kind.TheVariants as k
use Rattle.ps_scan.specs.declared.token.Token.{Token}
use Rattle.ps_syntax.specs.declared.expression.Sign.{Sign}
use Rattle.ps_syntax.specs.declared.expression.Expr.{Expr}
use Rattle.ps_syntax.specs.declared.expression.Simple.{Simple}
use Rattle.ps_syntax.specs.declared.expression.Term.{Term}
use Rattle.ps_syntax.specs.declared.expression.Factor.{Factor}
use Rattle.ps_syntax.specs.declared.expression.Selector.{Selector}
use Rattle.ps_syntax.specs.declared.statement.Direction.{Direction}
use Rattle.ps_syntax.specs.declared.statement.Statement.{Statement}
use Rattle.ps_syntax.specs.declared.program.Ordinal.{Ordinal}
use Rattle.ps_syntax.specs.declared.program.TypeDenoter.{TypeDenoter}
use Rattle.ps_syntax.specs.declared.program.Section.{Section}
use Rattle.ps_parse_grammar.specs.Symbols.{Tokens}
use Rattle.ps_parse.specs.Steps.{Outcome, Parser, stop, and_then, if_some, first, skip, ◌>>=◌, ◌>>◌, ◌<$>◌, pure}
use Rattle.ps_parse.specs.Steps.{refuse, sees, eat, accept, expect, separated, separated_from, many, many_from}
use Rattle.ps_parse.specs.Steps.{terminated, terminated_from, if_begins, part}
use Rattle.ps_parse.specs.ReadExpressions as e
use Rattle.ps_parse.specs.ReadExpressions.{eat_operator}
use Rattle.ps_parse.specs.ReadStatements as s
use Rattle.ps_parse.specs.ReadPrograms as g
use Rattle.ps_parse.proofs.Local.{Local, local_pure, local_refuse, local_skip, local_eat, local_look, local_expect}
use Rattle.ps_parse.proofs.Local.{local_accept, local_operator}
use Rattle.ps_parse.proofs.LocalStatements.{local_constant}
use Rattle.ps_parse.proofs.LocalPrograms.{local_names, local_ordinal}

abbrev pub OutcomeRelation : Type 1
OutcomeRelation = (A : Type 0) → ℕ → Outcome A → Outcome A → Outcome A → Type 0

-- kept from step to step, where n tokens are left before the first
pub record Kept (R : OutcomeRelation) : Type 1 where
  pub alike : {A : Type 0} (n : ℕ) (o : Outcome A) → stop o ≤ n → R A n o o o
  pub steps : {A B : Type 0} (n : ℕ) (o o' o'' : Outcome A) (f g h : A → Parser B) → R A n o o' o''
      → ((x : A) (r : Tokens) → R B (length r) (f x r) (g x r) (h x r)) → R B n (and_then o f) (and_then o' g)
      (and_then o'' h)

module _ (R : OutcomeRelation) where
  pub record Rel {A : Type 0} (p q s : Parser A) : Type 0 where
    pub at : (ts : Tokens) → R A (length ts) (p ts) (q ts) (s ts)

-- it stops within the tokens
pub stops : {A : Type 0} (p : Parser A) → Local p → (ts : Tokens) → stop (p ts) ≤ length ts
stops {A} p h ts = go (p ts) refl
  where
    go : (o : Outcome A) → p ts ≡ o → stop o ≤ length ts
    go (Ok q) e = (let one = h.reads ts q.0 q.1 e in omega (arith, ap length one.1, length-append one.0 q.1))
    go (Err n) e = (let one = h.refuses ts n e in omega (arith, ap length one.2, length-append one.0 one.1, one.3))

module _ (R : OutcomeRelation) (kept : Kept R) where
  pub rel_bind : {A B : Type 0} {p q s : Parser A} {f g h : A → Parser B} → Rel R p q s
      → ((x : A) → Rel R (f x) (g x) (h x)) → Rel R (p >>= f) (q >>= g) (s >>= h)
  rel_bind {p = p} {q = q} {s = s} {f = f} {g = g} {h = h} v w = record {
    at = λ ts. kept.steps (length ts) (p ts) (q ts) (s ts) f g h (v.at ts) (λ x r. (w x).at r);
  }

  pub rel_same : {A : Type 0} {p : Parser A} → Local p → Rel R p p p
  rel_same {p = p} h = record { at = λ ts. kept.alike (length ts) (p ts) (stops p h ts) }

  pub rel_pure : {A : Type 0} {x : A} → Rel R (pure x) (pure x) (pure x)
  rel_pure {x = x} = rel_same (local_pure x)

  pub rel_refuse : {A : Type 0} → Rel R {A = A} refuse refuse refuse
  rel_refuse = rel_same local_refuse

  pub rel_if : {A : Type 0} {p q s p' q' s' : Parser A} → Rel R p q s → Rel R p' q' s' → (b : Bool) → Rel R
      (if b then p else p') (if b then q else q') (if b then s else s')
  rel_if v w true = v
  rel_if v w false = w

  pub rel_if_some : {A B : Type 0} {f g h : A → Parser B} {p q s : Parser B} → ((x : A) → Rel R (f x) (g x) (h x))
      → Rel R p q s → (o : Option A) → Rel R (if_some o f p) (if_some o g q) (if_some o h s)
  rel_if_some v w None = w
  rel_if_some v w (Some x) = v x

  pub rel_map : {A B : Type 0} (f : A → B) {p q s : Parser A} → Rel R p q s → Rel R (f <$> p) (f <$> q) (f <$> s)
  rel_map f v = rel_bind v (λ x. rel_pure)

  pub rel_past : {A : Type 0} {p q s : Parser A} → Rel R p q s → Rel R (skip >> p) (skip >> q) (skip >> s)
  rel_past v = rel_bind (rel_same local_skip) (λ _. v)

  -- by the next token, if there is one
  pub rel_next : {A : Type 0} {f g h : Token → Parser A} {p q s : Parser A} → ((t : Token) → Rel R (f t) (g t) (h t))
      → Rel R p q s → Rel R (λ ts. if_some (first ts) f p ts) (λ ts. if_some (first ts) g q ts)
      (λ ts. if_some (first ts) h s ts)
  rel_next v w = record { at = λ ts. (rel_if_some v w (first ts)).at ts }

  pub rel_counted : {A : Type 0} {p q s : ℕ → Parser A} → ((n : ℕ) → Rel R (p n) (q n) (s n)) → Rel R
      (λ ts. p (length ts) ts) (λ ts. q (length ts) ts) (λ ts. s (length ts) ts)
  rel_counted v = record { at = λ ts. (v (length ts)).at ts }

  pub rel_eat : {B : Type 0} (k : Kind) {f g h : Bool → Parser B} → ((b : Bool) → Rel R (f b) (g b) (h b)) → Rel R
      (eat k >>= f) (eat k >>= g) (eat k >>= h)
  rel_eat k v = rel_bind (rel_same (local_eat k)) v

  pub rel_expect : {B : Type 0} (k : Kind) {f g h : Span → Parser B} → ((at : Span) → Rel R (f at) (g at) (h at))
      → Rel R (expect k >>= f) (expect k >>= g) (expect k >>= h)
  rel_expect k v = rel_bind (rel_same (local_expect k)) v

  pub rel_accept : {B : Type 0} (k : Kind) {f g h : Option Span → Parser B}
      → ((o : Option Span) → Rel R (f o) (g o) (h o)) → Rel R (accept k >>= f) (accept k >>= g) (accept k >>= h)
  rel_accept k v = rel_bind (rel_same (local_accept k)) v

  pub rel_operator : {O B : Type 0} (of : Kind → Option O) {f g h : Option (O × Span) → Parser B}
      → ((o : Option (O × Span)) → Rel R (f o) (g o) (h o)) → Rel R (eat_operator of >>= f) (eat_operator of >>= g)
      (eat_operator of >>= h)
  rel_operator of v = rel_bind (rel_same (local_operator of)) v

  -- ---- lists
  module _ {A : Type 0} {p q s : Parser A} (v : Rel R p q s) where
    pub rel_from : (k : Kind) (n : ℕ) (found : List A) → Rel R (separated_from k p n found) (separated_from k q n found)
        (separated_from k s n found)
    unfolding separated_from
    rel_from k zero found = rel_pure
    rel_from k (suc n) found = rel_eat k (rel_if (rel_bind v (λ x. rel_from k n (found ++ x ∷ []))) rel_pure)

    pub rel_separated : (k : Kind) → Rel R (separated k p) (separated k q) (separated k s)
    unfolding separated
    rel_separated k = rel_bind v (λ x. rel_counted (λ n. rel_from k n (x ∷ [])))

    pub rel_run : (k e : Kind) (n : ℕ) (found : List A) → Rel R (terminated_from k e p n found)
        (terminated_from k e q n found) (terminated_from k e s n found)
    unfolding terminated_from
    rel_run k e zero found = rel_pure
    rel_run k e (suc n) found = rel_eat k (rel_if
        (rel_bind (rel_same (local_look e)) (rel_if rel_pure (rel_bind v (λ x. rel_run k e n (found ++ x ∷ [])))))
        rel_pure)

    pub rel_terminated : (k e : Kind) → Rel R (terminated k e p) (terminated k e q) (terminated k e s)
    unfolding terminated
    rel_terminated k e = rel_bind v (λ x. rel_counted (λ n. rel_run k e n (x ∷ [])))

    at_choice : (b : Bool) (ts : Tokens) → R (Option A) (length ts) (if b then (Some <$> p) ts else Ok (None, ts))
        (if b then (Some <$> q) ts else Ok (None, ts)) (if b then (Some <$> s) ts else Ok (None, ts))
    at_choice true ts = (rel_map Some v).at ts
    at_choice false ts = (rel_pure {x = None}).at ts

    pub rel_if_begins : (begins : Tokens → Bool) → Rel R (if_begins begins p) (if_begins begins q) (if_begins begins s)
    unfolding if_begins
    rel_if_begins begins = record { at = λ ts. at_choice (begins ts) ts }

  module _ {A : Type 0} {p q s : Parser (Option A)} (v : Rel R p q s) where
    pub rel_many_from : (n : ℕ) (found : List A) → Rel R (many_from p n found) (many_from q n found)
        (many_from s n found)
    unfolding many_from
    rel_many_from zero found = rel_pure
    rel_many_from (suc n) found = rel_bind v (rel_if_some (λ x. rel_many_from n (found ++ x ∷ [])) rel_pure)

    pub rel_many : Rel R (many p) (many q) (many s)
    unfolding many
    rel_many = rel_counted (λ n. rel_many_from n [])

  pub rel_part : {A : Type 0} {p q s : Parser A} (word : Kind) (begins : Tokens → Bool) → Rel R p q s → Rel R
      (part word begins p) (part word begins q) (part word begins s)
  unfolding part
  rel_part word begins v = rel_eat word (rel_if
      (rel_bind v (λ x. rel_counted (λ n. rel_many_from (rel_if_begins v begins) n (x ∷ [])))) rel_pure)

  -- ---- expressions
  module _ {x y z : Parser Expr} (v : Rel R x y z) where
    pub rel_member : Rel R (e.member x) (e.member y) (e.member z)
    unfolding e.member
    rel_member = rel_bind v (λ a. rel_eat k.DotDot (rel_if (rel_map _ v) rel_pure))

    pub rel_index : Rel R (e.index x) (e.index y) (e.index z)
    unfolding e.index
    rel_index = rel_bind (rel_separated v k.Comma) (λ xs. rel_expect k.RightBracket (λ at. rel_pure))

    pub rel_selector_by : (kind : Kind) (at : Span) → Rel R (e.selector_by x kind at) (e.selector_by y kind at)
        (e.selector_by z kind at)
    rel_selector_by k.LeftBracket at = rel_past (rel_map _ rel_index)
    rel_selector_by k.Dot at = rel_past (rel_map _ (rel_same (local_expect k.Name)))
    rel_selector_by k.Caret at = rel_past rel_pure
    rel_selector_by kind at = rel_pure

    pub rel_selector : Rel R (e.selector x) (e.selector y) (e.selector z)
    unfolding e.selector
    rel_selector = rel_next (λ t. rel_selector_by t.kind t.span) rel_pure

    pub rel_variable : (at : Span) → Rel R (e.variable x at) (e.variable y at) (e.variable z at)
    unfolding e.variable
    rel_variable at = rel_map _ (rel_many rel_selector)

    pub rel_call : (at : Span) → Rel R (e.call x at) (e.call y at) (e.call z at)
    unfolding e.call
    rel_call at = rel_bind (rel_separated v k.Comma) (λ xs. rel_expect k.RightParen (λ _. rel_pure))

    pub rel_named : (at : Span) → Rel R (e.named x at) (e.named y at) (e.named z at)
    unfolding e.named
    rel_named at = rel_eat k.LeftParen (rel_if (rel_call at) (rel_map _ (rel_variable at)))

    pub rel_set : (at : Span) → Rel R (e.set x at) (e.set y at) (e.set z at)
    unfolding e.set
    rel_set at = rel_eat k.RightBracket (rel_if rel_pure
        (rel_bind (rel_separated rel_member k.Comma) (λ xs. rel_expect k.RightBracket (λ _. rel_pure))))

    pub rel_group : (at : Span) → Rel R (e.group x at) (e.group y at) (e.group z at)
    unfolding e.group
    rel_group at = rel_bind v (λ a. rel_expect k.RightParen (λ _. rel_pure))

    module _ {x' y' z' : Parser Factor} (w : Rel R x' y' z') where
      pub rel_factor_by : (kind : Kind) (at : Span) → Rel R (e.factor_by x x' kind at) (e.factor_by y y' kind at)
          (e.factor_by z z' kind at)
      rel_factor_by k.Name at = rel_past (rel_named at)
      rel_factor_by k.Number at = rel_past rel_pure
      rel_factor_by k.Text at = rel_past rel_pure
      rel_factor_by k.Nil at = rel_past rel_pure
      rel_factor_by k.LeftBracket at = rel_past (rel_set at)
      rel_factor_by k.LeftParen at = rel_past (rel_group at)
      rel_factor_by k.Not at = rel_past (rel_map _ w)
      rel_factor_by kind at = rel_refuse

      pub rel_factor : Rel R (e.factor x x') (e.factor y y') (e.factor z z')
      unfolding e.factor
      rel_factor = rel_next (λ t. rel_factor_by t.kind t.span) rel_refuse

  module _ {x y z : Parser Factor} (v : Rel R x y z) where
    pub rel_multiplied : Rel R (e.multiplied x) (e.multiplied y) (e.multiplied z)
    unfolding e.multiplied
    rel_multiplied = rel_operator e.multiplying_of (rel_if_some (λ op. rel_map _ v) rel_pure)

    pub rel_term_from : (a : Factor) → Rel R (e.term_from x a) (e.term_from y a) (e.term_from z a)
    rel_term_from a = rel_bind (rel_many rel_multiplied) (λ xs. rel_pure)

    pub rel_term : Rel R (e.term x) (e.term y) (e.term z)
    unfolding e.term
    rel_term = rel_bind v rel_term_from

  module _ {x y z : Parser Term} (v : Rel R x y z) where
    pub rel_added : Rel R (e.added x) (e.added y) (e.added z)
    unfolding e.added
    rel_added = rel_operator e.adding_of (rel_if_some (λ op. rel_map _ v) rel_pure)

    pub rel_simple_from : (sign : Option (Sign × Span)) (a : Term) → Rel R (e.simple_from x sign a)
        (e.simple_from y sign a) (e.simple_from z sign a)
    rel_simple_from sign a = rel_bind (rel_many rel_added) (λ xs. rel_pure)

    pub rel_simple : Rel R (e.simple x) (e.simple y) (e.simple z)
    unfolding e.simple
    rel_simple = rel_operator e.sign_of (λ sign. rel_bind v (rel_simple_from sign))

  module _ {x y z : Parser Simple} (v : Rel R x y z) where
    pub rel_compared_from : (a : Simple) → Rel R (e.compared_from x a) (e.compared_from y a) (e.compared_from z a)
    rel_compared_from a = rel_operator e.relation_of (rel_if_some (λ op. rel_map _ v) rel_pure)

    pub rel_compared : Rel R (e.compared x) (e.compared y) (e.compared z)
    unfolding e.compared
    rel_compared = rel_bind v rel_compared_from

  -- ---- statements
  module _ {x y z : Parser Expr} (v : Rel R x y z) where
    pub rel_parameter : Rel R (s.parameter x) (s.parameter y) (s.parameter z)
    unfolding s.parameter
    rel_parameter = rel_bind v (λ a. rel_eat k.Colon (rel_if (rel_map _ v) rel_pure))

    pub rel_assigned : (name : Span) (xs : List Selector) (becomes : Option Span) → Rel R (s.assigned x name xs becomes)
        (s.assigned y name xs becomes) (s.assigned z name xs becomes)
    rel_assigned name xs (Some at) = rel_map _ v
    rel_assigned name [] None = rel_pure
    rel_assigned name (a ∷ xs) None = rel_refuse

    pub rel_after_name : (name : Span) → Rel R (s.after_name x name) (s.after_name y name) (s.after_name z name)
    unfolding s.after_name
    rel_after_name name = rel_eat k.LeftParen
        (rel_if (rel_bind (rel_separated rel_parameter k.Comma) (λ xs. rel_expect k.RightParen (λ _. rel_pure)))
        (rel_bind (rel_many (rel_selector v)) (λ xs. rel_accept k.Assign (rel_assigned name xs))))

    pub rel_named_variable : Rel R (s.named_variable x) (s.named_variable y) (s.named_variable z)
    unfolding s.named_variable
    rel_named_variable = rel_expect k.Name (rel_variable v)

    module _ {x' y' z' : Parser Statement} (w : Rel R x' y' z') where
      pub rel_sequence : Rel R (s.sequence x x') (s.sequence y y') (s.sequence z z')
      unfolding s.sequence
      rel_sequence = rel_separated w k.Semicolon

      pub rel_compound : Rel R (s.compound x x') (s.compound y y') (s.compound z z')
      unfolding s.compound
      rel_compound = rel_bind rel_sequence (λ xs. rel_expect k.End (λ _. rel_pure))

      pub rel_if_statement : Rel R (s.if_statement x x') (s.if_statement y y') (s.if_statement z z')
      unfolding s.if_statement
      rel_if_statement = rel_bind v (λ c. rel_expect k.Then
          (λ _. rel_bind w (λ a. rel_eat k.Else (rel_if (rel_map _ w) rel_pure))))

      pub rel_element : Rel R (s.element x x') (s.element y y') (s.element z z')
      unfolding s.element
      rel_element = rel_bind (rel_separated (rel_same local_constant) k.Comma)
          (λ cs. rel_expect k.Colon (λ _. rel_bind w (λ a. rel_pure)))

      pub rel_case_statement : (at : Span) → Rel R (s.case_statement x x' at) (s.case_statement y y' at)
          (s.case_statement z z' at)
      unfolding s.case_statement
      rel_case_statement at = rel_bind v (λ a. rel_expect k.Of
          (λ _. rel_bind (rel_terminated rel_element k.Semicolon k.End) (λ xs. rel_expect k.End (λ _. rel_pure))))

      pub rel_while_statement : Rel R (s.while_statement x x') (s.while_statement y y') (s.while_statement z z')
      unfolding s.while_statement
      rel_while_statement = rel_bind v (λ c. rel_expect k.Do (λ _. rel_map _ w))

      pub rel_repeat_statement : Rel R (s.repeat_statement x x') (s.repeat_statement y y') (s.repeat_statement z z')
      unfolding s.repeat_statement
      rel_repeat_statement = rel_bind rel_sequence (λ xs. rel_expect k.Until (λ _. rel_map _ v))

      pub rel_for_to : (name : Span) (a : Expr) (d : Option (Direction × Span)) → Rel R (s.for_to x x' name a d)
          (s.for_to y y' name a d) (s.for_to z z' name a d)
      rel_for_to name a None = rel_refuse
      rel_for_to name a (Some d) = rel_bind v (λ b. rel_expect k.Do (λ _. rel_map _ w))

      pub rel_for_statement : Rel R (s.for_statement x x') (s.for_statement y y') (s.for_statement z z')
      unfolding s.for_statement
      rel_for_statement = rel_expect k.Name (λ name. rel_expect k.Assign
          (λ _. rel_bind v (λ a. rel_operator s.direction_of (rel_for_to name a))))

      pub rel_with_statement : Rel R (s.with_statement x x') (s.with_statement y y') (s.with_statement z z')
      unfolding s.with_statement
      rel_with_statement = rel_bind (rel_separated rel_named_variable k.Comma)
          (λ vs. rel_expect k.Do (λ _. rel_map _ w))

      pub rel_unnamed_by : (kind : Kind) (at : Span) → Rel R (s.unnamed_by x x' kind at) (s.unnamed_by y y' kind at)
          (s.unnamed_by z z' kind at)
      rel_unnamed_by k.Begin at = rel_past rel_compound
      rel_unnamed_by k.If at = rel_past rel_if_statement
      rel_unnamed_by k.Case at = rel_past (rel_case_statement at)
      rel_unnamed_by k.While at = rel_past rel_while_statement
      rel_unnamed_by k.Repeat at = rel_past rel_repeat_statement
      rel_unnamed_by k.For at = rel_past rel_for_statement
      rel_unnamed_by k.With at = rel_past rel_with_statement
      rel_unnamed_by kind at = rel_pure

      pub rel_statement_by : (kind : Kind) (at : Span) → Rel R (s.statement_by x x' kind at)
          (s.statement_by y y' kind at) (s.statement_by z z' kind at)
      rel_statement_by k.Name at = rel_past (rel_after_name at)
      rel_statement_by kind at = rel_unnamed_by kind at

      pub rel_any_statement : Rel R (s.any_statement x x') (s.any_statement y y') (s.any_statement z z')
      unfolding s.any_statement
      rel_any_statement = rel_next (λ t. rel_statement_by t.kind t.span) rel_pure

  -- ---- types
  module _ {x y z : Parser Ordinal} {x' y' z' : Parser TypeDenoter} (v : Rel R x y z) (w : Rel R x' y' z') where
    pub rel_array : (at : Span) → Rel R (g.array x x' at) (g.array y y' at) (g.array z z' at)
    unfolding g.array
    rel_array at = rel_expect k.LeftBracket (λ _. rel_bind (rel_separated v k.Comma)
        (λ xs. rel_expect k.RightBracket (λ _. rel_expect k.Of (λ _. rel_map _ w))))

    pub rel_fields : Rel R (g.fields x x') (g.fields y y') (g.fields z z')
    unfolding g.fields
    rel_fields = rel_bind (rel_same local_names) (λ xs. rel_expect k.Colon (λ _. rel_bind w (λ a. rel_pure)))

    pub rel_record_of : (at : Span) → Rel R (g.record_of x x' at) (g.record_of y y' at) (g.record_of z z' at)
    unfolding g.record_of
    rel_record_of at = rel_eat k.End (rel_if rel_pure
        (rel_bind (rel_terminated rel_fields k.Semicolon k.End) (λ xs. rel_expect k.End (λ _. rel_pure))))

    pub rel_set_of : (at : Span) → Rel R (g.set_of x x' at) (g.set_of y y' at) (g.set_of z z' at)
    unfolding g.set_of
    rel_set_of at = rel_expect k.Of (λ _. rel_map _ v)

    pub rel_structure_by : (kind : Kind) (at : Span) → Rel R (g.structure_by x x' kind at) (g.structure_by y y' kind at)
        (g.structure_by z z' kind at)
    rel_structure_by k.Array at = rel_past (rel_array at)
    rel_structure_by k.Record at = rel_past (rel_record_of at)
    rel_structure_by k.Set at = rel_past (rel_set_of at)
    rel_structure_by kind at = rel_refuse

    pub rel_structure : Rel R (g.structure x x') (g.structure y y') (g.structure z z')
    unfolding g.structure
    rel_structure = rel_next (λ t. rel_structure_by t.kind t.span) rel_refuse

    pub rel_type_by : (kind : Kind) (at : Span) → Rel R (g.type_by x x' kind at) (g.type_by y y' kind at)
        (g.type_by z z' kind at)
    rel_type_by k.Caret at = rel_past (rel_map _ (rel_same (local_expect k.Name)))
    rel_type_by k.Packed at = rel_past (rel_map _ rel_structure)
    rel_type_by k.Array at = rel_map _ rel_structure
    rel_type_by k.Record at = rel_map _ rel_structure
    rel_type_by k.Set at = rel_map _ rel_structure
    rel_type_by kind at = rel_map _ (rel_same local_ordinal)

    pub rel_any_type : Rel R (g.any_type x x') (g.any_type y y') (g.any_type z z')
    unfolding g.any_type
    rel_any_type = rel_next (λ t. rel_type_by t.kind t.span) rel_refuse

  -- ---- headings
  module _ {x y z : Parser (List Section)} (v : Rel R x y z) where
    formals_at : (b : Bool) (ts : Tokens) → R (List Section) (length ts) (if b then x ts else Ok ([], ts))
        (if b then y ts else Ok ([], ts)) (if b then z ts else Ok ([], ts))
    formals_at true ts = v.at ts
    formals_at false ts = (rel_pure {x = []}).at ts

    pub rel_optional_formals : Rel R (g.optional_formals x) (g.optional_formals y) (g.optional_formals z)
    unfolding g.optional_formals
    rel_optional_formals = record { at = λ ts. formals_at (sees k.LeftParen ts) ts }

    pub rel_procedure : Rel R (g.procedure x) (g.procedure y) (g.procedure z)
    unfolding g.procedure
    rel_procedure = rel_expect k.Name (λ at. rel_map _ rel_optional_formals)

    pub rel_function_named : (at : Span) → Rel R (g.function_named x at) (g.function_named y at) (g.function_named z at)
    unfolding g.function_named
    rel_function_named at = rel_bind rel_optional_formals
        (λ xs. rel_expect k.Colon (λ _. rel_map _ (rel_same (local_expect k.Name))))

    pub rel_function : Rel R (g.function x) (g.function y) (g.function z)
    unfolding g.function
    rel_function = rel_expect k.Name rel_function_named

    pub rel_plain_section : (make : List Span → Span → Section) → Rel R (g.plain_section x make)
        (g.plain_section y make) (g.plain_section z make)
    rel_plain_section make = rel_bind (rel_same local_names)
        (λ xs. rel_expect k.Colon (λ _. rel_map _ (rel_same (local_expect k.Name))))

    pub rel_section_by : (kind : Kind) → Rel R (g.section_by x kind) (g.section_by y kind) (g.section_by z kind)
    unfolding g.variable_section g.value_section
    rel_section_by k.Var = rel_past (rel_plain_section _)
    rel_section_by k.Procedure = rel_past (rel_map _ rel_procedure)
    rel_section_by k.Function = rel_past (rel_map _ rel_function)
    rel_section_by kind = rel_plain_section _

    pub rel_section : Rel R (g.section x) (g.section y) (g.section z)
    unfolding g.section
    rel_section = rel_next (λ t. rel_section_by t.kind) rel_refuse

    pub rel_formal_list : Rel R (g.formal_list x) (g.formal_list y) (g.formal_list z)
    unfolding g.formal_list
    rel_formal_list = rel_expect k.LeftParen (λ _. rel_bind (rel_separated rel_section k.Semicolon)
        (λ xs. rel_expect k.RightParen (λ _. rel_pure)))
