-- The code of expressions does what they mean.
use Rattle.std.proofs.Common.{◌≡◌, ℕ, suc, ℤ, pos, ◌-ℤ◌, Bool, true, false, not, ◌&&◌, if◌then◌else◌, IsTrue, List, []}
use Rattle.std.proofs.Common.{◌∷◌, Option, Some, None, refl, sym, ap, ◌∙◌, subst, arith}
use Rattle.ps_tree.specs.declared.tree.operators.BooleanOperator.{BooleanOperator}
use Rattle.ps_tree.specs.declared.tree.operators.BooleanOperator.TheVariants.{And, Or}
use Rattle.ps_tree.specs.Tree.{Expr, Number, Nil, Load, Plus, Minus, Not, Arithmetic, Logic, Compare, ComparePointers}
use Rattle.ps_tree.specs.Tree.{CompareSets, CompareStrings, In, Apply, Eof, Eoln, Call, CallFormal}
use Rattle.tac_code.specs.declared.code.Value.{Value as Word}
use Rattle.tac_code.specs.declared.code.Value.TheVariants.{Number as Numeral, Address, Routine as RoutineWord}
use Rattle.tac_code.specs.declared.code.Operand.TheVariants as operand
use Rattle.tac_code.specs.declared.code.Relation.{Relation}
use Rattle.tac_code.specs.declared.code.Relation.TheVariants.{Equal, NotEqual, Less, LessEqual, Greater, GreaterEqual}
use Rattle.tac_code.specs.Numbers.{is_integer, truth as truth_word, bits}
use Rattle.tac_code.specs.Meaning.{Temporaries, pointers_related, pointer_of, same_pointer, related, operand_value}
use Rattle.ps_meaning.specs.Values.{Value, OrdinalValue, NilValue, number_of}
use Rattle.ps_meaning.specs.Operators.{Result, Fault, truth, is_true, combine_truths, is_between}
use Rattle.ps_meaning.specs.Worlds.{World, Answer, Gives, Ends, settled}
use Rattle.ps_meaning.specs.Expressions.{Caller, value}
use Rattle.tac_code_steps.specs.Runs.{Stands}
use Rattle.tac_code_steps.proofs.Runs.{split}
use Rattle.tac_code_steps.proofs.Temporaries.{put_same}
use Rattle.tac_code_steps.proofs.Pieces.{same_some, some_none}
use Rattle.tac_code_steps.proofs.Instructions.{literal_step, compare_step}
use Rattle.ps_lower_layout.specs.Shapes.{Shape, NumberShape, PointerShape, SetShape, ByteShape, ArrayShape, RecordShape}
use Rattle.ps_lower_layout.specs.Shapes.{Whole, word_count}
use Rattle.ps_lower_layout.specs.Words.{value_words}
use Rattle.ps_lower_layout.specs.Paths.{Sort, NumberSort, HasSort, HasShape}
use Rattle.tac_code.proofs.Impossible.{never, true_false}
use Rattle.ps_lower_code.specs.Scopes.{least, greatest, operand_of, unless_known}
use Rattle.ps_lower_code.specs.Values.{negated, literal_of, gives_byte, bit_operator_of, opposite, is_relation}
use Rattle.ps_lower_code.specs.Values.{is_truth, relation_in, left_in, right_in, relation_code, finish, truth_finish}
use Rattle.ps_lower_code.specs.Values.{front_code}
use Rattle.ps_lower_code.specs.Statements.{expr_code}
use Rattle.ps_lower_code.specs.Fits.{SortOf, ExprFits}
use Rattle.ps_lower_relation.specs.Here.{Setting, machine_of, code_in, Work, Activated, IsActive, Alive, state, word_of}
use Rattle.ps_lower_relation.specs.Here.{WordIn}
use Rattle.ps_lower_relation.specs.Outcomes.{Reached, Runs}
use Rattle.ps_lower_relation.proofs.Numbers.{opposite_compares, truths, truth_is, unlike_zero, between_integers}
use Rattle.ps_lower_constructs.specs.Openings.{plain_scope, Opening, scope_in, context_in, IsOpened}
use Rattle.ps_lower_constructs.proofs.Runs.{with_temporary, reached_from, runs_map, here, gives_word}

-- a byte, where the expression is known to give one
abbrev pub IsByteOf : Expr → Value → Type 0
IsByteOf e v = gives_byte e ≡ true → IsTrue (is_between (pos 0) (number_of v) (pos 255))

-- what the front code of an expression leaves
pub record FrontIn (e : Expr) (d : ℕ) (sort : Sort) (v : Value) (made : List ℕ) (t : Temporaries) : Type 0 where
  pub fits : HasSort made v sort
  -- a relation that is the truth of a number
  pub relates : sort ≡ NumberSort → related (relation_in e) (t (left_in e d)) (operand_value t (right_in e d)) ≡ Some
      (is_true (number_of v))
  -- the word, if the expression is not a relation
  pub word : is_relation e ≡ false → t d ≡ Some (word_of sort v)
  -- a relation is a number, and a truth is 0 or 1
  pub number : is_relation e ≡ true → sort ≡ NumberSort
  pub binary : is_truth e ≡ true → (b : Bool) × (number_of v ≡ truth b)
  pub binary_relation : is_relation e ≡ true → (b : Bool) × (number_of v ≡ truth b)
  pub byte : IsByteOf e v

-- a word in d, unlike 0 or not
pub plain_front : (e : Expr) (d : ℕ) (sort : Sort) (v : Value) (made : List ℕ) (t : Temporaries) → is_relation e ≡ false
    → relation_in e ≡ NotEqual → left_in e d ≡ d → right_in e d ≡ operand.Number (pos 0) → t d ≡ Some (word_of sort v)
    → HasSort made v sort → (is_truth e ≡ true → (b : Bool) × (number_of v ≡ truth b)) → IsByteOf e v
    → FrontIn e d sort v made t
plain_front e d sort v made t plain relation left right at fits binary byte =
    record {
      fits = fits;
      relates = λ q.
          ap (λ r. related r (t (left_in e d)) (operand_value t (right_in e d))) relation
          ∙ ap (λ l. related NotEqual (t l) (operand_value t (right_in e d))) left
          ∙ ap (λ r. related NotEqual (t d) (operand_value t r)) right
          ∙ ap (λ w. related NotEqual w (Some (Numeral (pos 0)))) (at ∙ ap (λ s. Some (word_of s v)) q)
          ∙ ap Some (unlike_zero (number_of v));
      word = λ q. at;
      number = λ q. true_false (sym q ∙ plain);
      binary = binary;
      binary_relation = λ q. true_false (sym q ∙ plain);
      byte = byte;
    }

-- ---- the opposite of a relation

pointers_opposite : (r : Relation) (x y : Option (Option ℕ)) (q : Bool) → pointers_related r x y ≡ Some q
    → pointers_related (opposite r) x y ≡ Some (not q)
pointers_opposite Equal None y q h = some_none h
pointers_opposite Equal (Some a) None q h = some_none h
pointers_opposite Equal (Some a) (Some b) q h = ap (λ z. Some (not z)) (same_some h)
pointers_opposite NotEqual None y q h = some_none h
pointers_opposite NotEqual (Some a) None q h = some_none h
pointers_opposite NotEqual (Some a) (Some b) q h = ap Some (sym (not_twice (same_pointer a b))) ∙ ap (λ z. Some (not z))
    (same_some h)
  where
    not_twice : (b : Bool) → not (not b) ≡ b
    not_twice true = refl
    not_twice false = refl
pointers_opposite Less x y q h = some_none h
pointers_opposite LessEqual x y q h = some_none h
pointers_opposite Greater x y q h = some_none h
pointers_opposite GreaterEqual x y q h = some_none h

pub related_opposite : (r : Relation) (v w : Option Word) (q : Bool) → related r v w ≡ Some q → related (opposite r) v w
    ≡ Some (not q)
related_opposite r (Some (Numeral x)) (Some (Numeral y)) q h = ap Some (opposite_compares r x y)
    ∙ ap (λ z. Some (not z)) (same_some h)
related_opposite r None None q h = pointers_opposite r (pointer_of None) (pointer_of None) q h
related_opposite r None (Some (Numeral y)) q h = pointers_opposite r (pointer_of None)
    (pointer_of (Some (Numeral y))) q h
related_opposite r None (Some (Address b' o')) q h = pointers_opposite r (pointer_of None)
    (pointer_of (Some (Address b' o'))) q h
related_opposite r None (Some (RoutineWord u')) q h = pointers_opposite r (pointer_of None)
    (pointer_of (Some (RoutineWord u'))) q h
related_opposite r (Some (Numeral x)) None q h = pointers_opposite r (pointer_of (Some (Numeral x)))
    (pointer_of None) q h
related_opposite r (Some (Numeral x)) (Some (Address b' o')) q h = pointers_opposite r (pointer_of (Some (Numeral x)))
    (pointer_of (Some (Address b' o'))) q h
related_opposite r (Some (Numeral x)) (Some (RoutineWord u')) q h = pointers_opposite r (pointer_of (Some (Numeral x)))
    (pointer_of (Some (RoutineWord u'))) q h
related_opposite r (Some (Address b o)) None q h = pointers_opposite r (pointer_of (Some (Address b o)))
    (pointer_of None) q h
related_opposite r (Some (Address b o)) (Some (Numeral y)) q h = pointers_opposite r (pointer_of (Some (Address b o)))
    (pointer_of (Some (Numeral y))) q h
related_opposite r (Some (Address b o)) (Some (Address b' o')) q h = pointers_opposite r
    (pointer_of (Some (Address b o))) (pointer_of (Some (Address b' o'))) q h
related_opposite r (Some (Address b o)) (Some (RoutineWord u')) q h = pointers_opposite r
    (pointer_of (Some (Address b o))) (pointer_of (Some (RoutineWord u'))) q h
related_opposite r (Some (RoutineWord u)) None q h = pointers_opposite r (pointer_of (Some (RoutineWord u)))
    (pointer_of None) q h
related_opposite r (Some (RoutineWord u)) (Some (Numeral y)) q h = pointers_opposite r
    (pointer_of (Some (RoutineWord u))) (pointer_of (Some (Numeral y))) q h
related_opposite r (Some (RoutineWord u)) (Some (Address b' o')) q h = pointers_opposite r
    (pointer_of (Some (RoutineWord u))) (pointer_of (Some (Address b' o'))) q h
related_opposite r (Some (RoutineWord u)) (Some (RoutineWord u')) q h = pointers_opposite r
    (pointer_of (Some (RoutineWord u))) (pointer_of (Some (RoutineWord u'))) q h

pub bits_of_truths : (op : BooleanOperator) (a b : Bool) → bits (bit_operator_of op) (truth a) (truth b) ≡ truth
    (combine_truths op a b)
bits_of_truths And true true = refl
bits_of_truths And true false = refl
bits_of_truths And false true = refl
bits_of_truths And false false = refl
bits_of_truths Or true true = refl
bits_of_truths Or true false = refl
bits_of_truths Or false true = refl
bits_of_truths Or false false = refl

module _ (p : Setting) (n : ℕ) (call : Caller) (c : Activated) (active : IsActive p c) where
  abbrev pub FrontRuns : Expr → Type 0
  FrontRuns e =
      (d x : ℕ) (o : Opening) (w : World) (k : Work) (pc pc' : ℕ) (sort : Sort) → Alive p c w k → IsOpened p c w k d o
      → ExprFits (plain_scope p c) o.shapes e sort → Stands (code_in p) c.routine pc
      (front_code (scope_in p c o) e d x) pc'
      → Runs p (suc n) c d x w k pc pc' (value call e (context_in c o) w)
      (λ v w' k'. FrontIn e d sort v w'.made k'.temporaries)

  abbrev pub ExprRuns : Expr → Type 0
  ExprRuns e =
      (d x : ℕ) (o : Opening) (w : World) (k : Work) (pc pc' : ℕ) (sort : Sort) → Alive p c w k → IsOpened p c w k d o
      → ExprFits (plain_scope p c) o.shapes e sort → Stands (code_in p) c.routine pc
      (expr_code (scope_in p c o) e d x) pc'
      → Runs p (suc n) c d x w k pc pc' (value call e (context_in c o) w)
      (λ v w' k'. WordIn k'.temporaries w'.made d sort v)

  abbrev pub ByteRuns : Expr → Type 0
  ByteRuns e =
      (d x : ℕ) (o : Opening) (w : World) (k : Work) (pc pc' : ℕ) (sort : Sort) → Alive p c w k → IsOpened p c w k d o
      → ExprFits (plain_scope p c) o.shapes e sort → Stands (code_in p) c.routine pc
      (expr_code (scope_in p c o) e d x) pc'
      → Runs p (suc n) c d x w k pc pc' (value call e (context_in c o) w)
      (λ v w' k'. WordIn k'.temporaries w'.made d sort v × IsByteOf e v)

  -- from a relation to its truth as a word
  relation_finish : (e : Expr) (d x : ℕ) (w : World) (k : Work) (pc pc' : ℕ) (v : Value) → Alive p c w k
      → FrontIn e d NumberSort v w.made k.temporaries → Stands (code_in p) c.routine pc (relation_code e d) pc'
      → Reached p c d x w k (state p c w k pc) pc'
      (λ w' k'. k'.temporaries d ≡ Some (Numeral (truth (is_true (number_of v))))) w
  relation_finish e d x w k pc pc' v alive f st =
      let b = is_true (number_of v) in
      gives_word p n c d x w k pc pc' d (Numeral (truth_word b)) (λ w' k'. k'.temporaries d ≡ Some (Numeral (truth b)))
      (compare_step (machine_of p) (state p c w k pc) (relation_in e) d (left_in e d) (right_in e d) b st.0
      (f.relates refl)) st.1 (omega arith) alive
      (put_same k.temporaries d (Numeral (truth_word b)) ∙ ap (λ z. Some (Numeral z)) (truths b))

  truth_same : (z : ℤ) (b : Bool) → z ≡ truth b → truth (is_true z) ≡ z
  truth_same z b e = ap (λ y. truth (is_true y)) e ∙ ap truth (truth_is b) ∙ sym e

  -- the word of an expression
  pub finish_runs : (e : Expr) (d x : ℕ) (w : World) (k : Work) (pc pc' : ℕ) (sort : Sort) (v : Value) → Alive p c w k
      → FrontIn e d sort v w.made k.temporaries → Stands (code_in p) c.routine pc (finish e d) pc' → Reached p c d x w k
      (state p c w k pc) pc' (λ w' k'. WordIn k'.temporaries w'.made d sort v) w
  finish_runs e d x w k pc pc' sort v alive f st = go (is_relation e) refl st
    where
      go : (b : Bool) → is_relation e ≡ b → Stands (code_in p) c.routine pc (if b then relation_code e d else []) pc'
          → Reached p c d x w k (state p c w k pc) pc' (λ w' k'. WordIn k'.temporaries w'.made d sort v) w
      go true q st' =
          let sorted = f.number q in
          let binary = f.binary_relation q in
          let r = relation_finish e d x w k pc pc' v alive
          (subst (λ s. FrontIn e d s v w.made k.temporaries) sorted f) st' in
          record {
            work = r.work;
            alive = r.alive;
            keeps = r.keeps;
            comes = r.comes;
            result = record {
              word = r.result ∙ ap (λ z. Some (Numeral z)) (truth_same (number_of v) binary.0 binary.1)
                  ∙ ap (λ s. Some (word_of s v)) (sym sorted);
              fits = f.fits;
            };
          }
      go false q st' = here p n c d x w k pc pc' (λ w' k'. WordIn k'.temporaries w'.made d sort v) st' alive (record {
        word = f.word q;
        fits = f.fits;
      })

  -- the truth of an expression, as 0 or 1
  pub truth_runs : (e : Expr) (d x : ℕ) (w : World) (k : Work) (pc pc' : ℕ) (v : Value) → Alive p c w k
      → FrontIn e d NumberSort v w.made k.temporaries → Stands (code_in p) c.routine pc (truth_finish e d) pc'
      → Reached p c d x w k (state p c w k pc) pc'
      (λ w' k'. k'.temporaries d ≡ Some (Numeral (truth (is_true (number_of v))))) w
  truth_runs e d x w k pc pc' v alive f st = go (is_truth e) (is_relation e) refl refl st
    where
      go : (a b : Bool) → is_truth e ≡ a → is_relation e ≡ b → Stands (code_in p) c.routine pc
          (if a && not b then [] else relation_code e d) pc' → Reached p c d x w k (state p c w k pc) pc'
          (λ w' k'. k'.temporaries d ≡ Some (Numeral (truth (is_true (number_of v))))) w
      go true true q r st' = relation_finish e d x w k pc pc' v alive f st'
      go true false q r st' = let binary = f.binary q in here p n c d x w k pc pc'
          (λ w' k'. k'.temporaries d ≡ Some (Numeral (truth (is_true (number_of v))))) st' alive
          (f.word r ∙ ap (λ z. Some (Numeral z)) (sym (truth_same (number_of v) binary.0 binary.1)))
      go false b q r st' = relation_finish e d x w k pc pc' v alive f st'

  -- and that it is a byte
  pub expr_bytes : (e : Expr) → FrontRuns e → ByteRuns e
  expr_bytes e front d x o w k pc pc' sort alive opened fits st =
      let cut = split (code_in p) c.routine pc (front_code (scope_in p c o) e d x) (finish e d) pc' st in
      let a = value call e (context_in c o) w in
      then_reached a (λ v w1 k1. FrontIn e d sort v w1.made k1.temporaries)
      (λ v w1 k1. WordIn k1.temporaries w1.made d sort v × IsByteOf e v) d x w k pc cut.0 pc'
      (front d x o w k pc cut.0 sort alive opened fits cut.1)
      (λ v w1 k1 alive1 r. let z = finish_runs e d x w1 k1 cut.0 pc' sort v alive1 r cut.2 in record {
        work = z.work;
        alive = z.alive;
        keeps = z.keeps;
        comes = z.comes;
        result = (z.result, r.byte);
      })
    where
      then_reached : (a : Answer Value) (R R' : Value → World → Work → Type 0) (d x : ℕ) (w : World) (k : Work)
          (pc mid pc' : ℕ) → Runs p (suc n) c d x w k pc mid a R
          → ((v : Value) (w1 : World) (k1 : Work) → Alive p c w1 k1 → R v w1 k1 → Reached p c d x w1 k1
          (state p c w1 k1 mid) pc' (R' v) w1) → Runs p (suc n) c d x w k pc pc' a R'
      then_reached (Gives v w1) R R' d x w k pc mid pc' r g = reached_from p n c d x d x w w1 k r.work
          (state p c w k pc) (state p c w1 r.work mid) pc' (R' v) (R' v) w1 (omega arith) (omega arith) r.comes r.keeps
          (g v w1 r.work r.alive r.result) (λ k' a' y. y)
      then_reached (Ends out e) R R' d x w k pc mid pc' r g = r

  pub expr_runs_from : (e : Expr) → FrontRuns e → ExprRuns e
  expr_runs_from e front d x o w k pc pc' sort alive opened fits st =
      runs_map p (suc n) c d x d x w k pc pc' (value call e (context_in c o) w)
      (λ v w' k'. WordIn k'.temporaries w'.made d sort v × IsByteOf e v)
      (λ v w' k'. WordIn k'.temporaries w'.made d sort v) (omega arith) (omega arith)
      (expr_bytes e front d x o w k pc pc' sort alive opened fits st) (λ v w' k' a' y. y.0)

  -- ---- the constructs

  pub number_front : (z : ℤ) → FrontRuns (Number z)
  number_front z d x o w k pc pc' sort alive opened fits st =
      gives_word p n c d x w k pc pc' d (Numeral z)
      (λ w' k'. FrontIn (Number z) d sort (OrdinalValue z) w'.made k'.temporaries)
      (literal_step (machine_of p) (state p c w k pc) d z st.0) st.1 (omega arith) alive
      (plain_front (Number z) d sort (OrdinalValue z) w.made
      (with_temporary k d (Numeral z)).temporaries refl refl refl refl
      (put_same k.temporaries d (Numeral z) ∙ ap (λ s. Some (word_of s (OrdinalValue z))) (sym fits.0))
      (subst (HasSort w.made (OrdinalValue z)) (sym fits.0) fits.1) (λ q. never q) (λ q. never q))

  pub nil_front : FrontRuns Nil
  nil_front d x o w k pc pc' sort alive opened fits st =
      gives_word p n c d x w k pc pc' d (Numeral (pos 0)) (λ w' k'. FrontIn Nil d sort NilValue w'.made k'.temporaries)
      (literal_step (machine_of p) (state p c w k pc) d (pos 0) st.0) st.1 (omega arith) alive
      (plain_front Nil d sort NilValue w.made (with_temporary k d (Numeral (pos 0))).temporaries refl refl refl refl
      (put_same k.temporaries d (Numeral (pos 0)) ∙ ap (λ s. Some (word_of s NilValue)) (sym fits.1))
      (subst (HasSort w.made NilValue) (sym fits.1) tt) (λ q. never q) (λ q. never q))

  -- what a variable of one word holds
  pub load_word : (shape : Shape) (sort : Sort) (v : Value) (made : List ℕ) → SortOf (Whole shape) sort
      → HasShape made v shape → (1 ≡ word_count shape) × (value_words shape v ≡ Some (word_of sort v) ∷ [])
      × HasSort made v sort
  load_word (NumberShape first narrow) sort v made e h =
      (refl, ap (λ s. Some (word_of s v) ∷ []) (sym e), subst (HasSort made v) (sym e) h)
  load_word (PointerShape t) sort v made e h =
      (refl, ap (λ s. Some (word_of s v) ∷ []) (sym e), subst (HasSort made v) (sym e) h)
  load_word SetShape sort v made e h = absurd e
  load_word (ByteShape count first) sort v made e h = absurd e
  load_word (ArrayShape count shape) sort v made e h = absurd e
  load_word (RecordShape shapes) sort v made e h = absurd e

  -- ---- numbers that are known

  pub record KnownIs (e : Expr) (o : Opening) (w : World) (z : ℤ) : Type 0 where
    pub v : Value
    pub gives_it : value call e (context_in c o) w ≡ Gives v w
    pub is : number_of v ≡ z
    pub fits : IsTrue (is_integer (number_of v))

  negated_is : (m z : ℤ) (line : ℕ) (o : Opening) (w : World) → negated (Number m) ≡ Some z → KnownIs
      (Minus (Number m) line) o w z
  negated_is m z line o w q = go (is_between least (pos 0 -ℤ m) greatest) refl q
    where
      go : (b : Bool) → is_between least (pos 0 -ℤ m) greatest ≡ b → (if b then Some (pos 0 -ℤ m) else None) ≡ Some z
          → KnownIs (Minus (Number m) line) o w z
      go false e h = some_none h
      go true e h = record {
        v = OrdinalValue (pos 0 -ℤ m);
        gives_it = ap (λ b. settled (if b then Result (pos 0 -ℤ m) else Fault 1) line (context_in c o) w) e;
        is = same_some h;
        fits = sym (between_integers (pos 0 -ℤ m)) ∙ e;
      }

  pub negated_cases : (e : Expr) (z : ℤ) (line : ℕ) (o : Opening) (w : World) → negated e ≡ Some z → KnownIs
      (Minus e line) o w z
  negated_cases (Number m) z line o w q = negated_is m z line o w q
  negated_cases Nil z line o w q = some_none q
  negated_cases (Load pl) z line o w q = some_none q
  negated_cases (Plus e) z line o w q = some_none q
  negated_cases (Minus e l) z line o w q = some_none q
  negated_cases (Not e) z line o w q = some_none q
  negated_cases (Arithmetic e s) z line o w q = some_none q
  negated_cases (Logic b e r) z line o w q = some_none q
  negated_cases (Compare r a b) z line o w q = some_none q
  negated_cases (ComparePointers r a b) z line o w q = some_none q
  negated_cases (CompareSets r a b) z line o w q = some_none q
  negated_cases (CompareStrings r a b) z line o w q = some_none q
  negated_cases (In a b) z line o w q = some_none q
  negated_cases (Apply f e l) z line o w q = some_none q
  negated_cases (Eof) z line o w q = some_none q
  negated_cases (Eoln l) z line o w q = some_none q
  negated_cases (Call r u a l) z line o w q = some_none q
  negated_cases (CallFormal u i' a l) z line o w q = some_none q

  pub known_is : (e : Expr) (z : ℤ) (o : Opening) (w : World) → literal_of e ≡ Some z → ExprFits
      (plain_scope p c) o.shapes e NumberSort → KnownIs e o w z
  known_is (Number m) z o w q fits = record { v = OrdinalValue m; gives_it = refl; is = same_some q; fits = fits.1 }
  known_is Nil z o w q fits = record { v = NilValue; gives_it = refl; is = same_some q; fits = refl }
  known_is (Minus e line) z o w q fits = negated_cases e z line o w q
  known_is (Load pl) z o w q fits = some_none q
  known_is (Plus e) z o w q fits = some_none q
  known_is (Not e) z o w q fits = some_none q
  known_is (Arithmetic e s) z o w q fits = some_none q
  known_is (Logic b e r) z o w q fits = some_none q
  known_is (Compare r a b) z o w q fits = some_none q
  known_is (ComparePointers r a b) z o w q fits = some_none q
  known_is (CompareSets r a b) z o w q fits = some_none q
  known_is (CompareStrings r a b) z o w q fits = some_none q
  known_is (In a b) z o w q fits = some_none q
  known_is (Apply f e l) z o w q fits = some_none q
  known_is (Eof) z o w q fits = some_none q
  known_is (Eoln l) z o w q fits = some_none q
  known_is (Call r u a l) z o w q fits = some_none q
  known_is (CallFormal u i' a l) z o w q fits = some_none q

  -- a right operand, be it a number that is known or in t
  abbrev pub OperandIn : Option ℤ → (t : ℕ) → Value → World → Work → Type 0
  OperandIn literal t v w k = (operand_value k.temporaries (operand_of literal t) ≡ Some (Numeral (number_of v)))
      × IsTrue (is_integer (number_of v))

  pub operand_runs : (e : Expr) → FrontRuns e → (t x : ℕ) (o : Opening) (w : World) (k : Work) (pc pc' : ℕ)
      → Alive p c w k → IsOpened p c w k t o → ExprFits (plain_scope p c) o.shapes e NumberSort → Stands
      (code_in p) c.routine pc (unless_known (literal_of e) (expr_code (scope_in p c o) e t x)) pc' → Runs p
      (suc n) c t x w k pc pc' (value call e (context_in c o) w) (λ v w' k'. OperandIn (literal_of e) t v w' k')
  operand_runs e front t x o w k pc pc' alive opened fits st = go (literal_of e) refl st
      (λ h. runs_map p (suc n) c t x t x w k pc pc' (value call e (context_in c o) w)
      (λ v w' k'. WordIn k'.temporaries w'.made t NumberSort v) (λ v w' k'. OperandIn None t v w' k') (omega arith)
      (omega arith) (expr_runs_from e front t x o w k pc pc' NumberSort alive opened fits h)
      (λ v w' k' a' r. (r.word, r.fits)))
    where
      go : (literal : Option ℤ) → literal_of e ≡ literal → Stands (code_in p) c.routine pc
          (unless_known literal (expr_code (scope_in p c o) e t x)) pc'
          → (Stands (code_in p) c.routine pc (expr_code (scope_in p c o) e t x) pc' → Runs p (suc n) c t x w k pc pc'
          (value call e (context_in c o) w) (λ v w' k'. OperandIn None t v w' k')) → Runs p (suc n) c t x w k pc pc'
          (value call e (context_in c o) w) (λ v w' k'. OperandIn literal t v w' k')
      go None q st' r = r st'
      go (Some z) q st' r =
          let known_ = known_is e z o w q fits in
          subst (λ a. Runs p (suc n) c t x w k pc pc' a (λ v w' k'. OperandIn (Some z) t v w' k')) (sym known_.gives_it)
          (here p (suc n) c t x w k pc pc' (λ w' k'. OperandIn (Some z) t known_.v w' k') st' alive
          (ap (λ y. Some (Numeral y)) (sym known_.is), known_.fits))
