-- What the levels that open late return, compared with those that never do and those that always did.
use Rattle.std.proofs.Common.{◌≡◌, ℕ, zero, suc, ◌<◌, ◌≤◌, Bool, true, false, if◌then◌else◌, List, [], ◌++◌, length}
use Rattle.std.proofs.Common.{Ok, Err, refl, ap, arith, nat_le}
use Rattle.std.proofs.lemmas.Bool.{leb-true, leb-false}
use Rattle.ps_text.specs.declared.Span.{Span}
use Rattle.ps_syntax.specs.declared.program.Program.{Program}
use Rattle.ps_parse_grammar.specs.Symbols.{Tokens}
use Rattle.ps_parse_grammar.specs.Programs.{DerivesWithin}
use Rattle.ps_parse_grammar.specs.Forward.{is_forward}
use Rattle.ps_parse_grammar.proofs.ProgramLevels.{within_is_low, low_is_within}
use Rattle.ps_parse.specs.Steps.{Outcome, Parser, and_then, refuse, stop}
use Rattle.ps_parse.specs.ReadExpressions as e
use Rattle.ps_parse.specs.ReadStatements as s
use Rattle.ps_parse.specs.ReadPrograms as g
use Rattle.ps_parse.specs.Reading.{reading}
use Rattle.ps_parse.specs.Begun.{Begins}
use Rattle.ps_parse.specs.Low.{IsLowTo}
use Rattle.ps_parse.proofs.Local.{Local}
use Rattle.ps_parse.proofs.LocalExpressions.{local_expr, local_negated}
use Rattle.ps_parse.proofs.LocalStatements.{local_statement}
use Rattle.ps_parse.proofs.LocalPrograms.{local_ordinal, local_index, local_type, local_formals, local_block}
use Rattle.ps_parse.proofs.ExactPrograms.{derived_is_read}
use Rattle.ps_parse.proofs.Related as rel
use Rattle.ps_parse.proofs.RelatedBlocks as rel_blocks
use Rattle.ps_parse.proofs.Related.{stops, Kept, Rel}
use Rattle.ps_parse.proofs.RisingLevels.{above}
use Rattle.ps_parse.proofs.Gated.{gate, gated_expr, gated_negated, gated_statement, gated_index, gated_type}
use Rattle.ps_parse.proofs.Gated.{gated_formals, gated_block, gated_program, gated_derived, derived_gated}
use Rattle.ps_parse.proofs.Decided.{looks, alone, among, above_least, ends_begins}

-- all return the same; or the first refuses late, and the others return the same; or it refuses early, and so does the
-- second
pub data Opening (left : ℕ) (A : Type 0) (n : ℕ) : Outcome A → Outcome A → Outcome A → Type 0 where
  shared : (a : Outcome A) → stop a ≤ n → Opening left A n a a a
  opened : (j : ℕ) (a : Outcome A) → j ≤ n → j ≤ left → stop a ≤ j → Opening left A n (Err j) a a
  shut : (j : ℕ) (a : Outcome A) → j ≤ n → left < j → stop a ≤ j → Opening left A n (Err j) (Err j) a

module _ (left : ℕ) where
  last : {A : Type 0} {n : ℕ} {o a b : Outcome A} → Opening left A n o a b → stop b ≤ n
  last (shared a l) = l
  last (opened j a l i m) = omega (arith, l, m)
  last (shut j a l i m) = omega (arith, l, m)

  fewer : {A : Type 0} {m n : ℕ} {o a b : Outcome A} → m ≤ n → Opening left A m o a b → Opening left A n o a b
  fewer l (shared a i) = shared a (omega (arith, l, i))
  fewer l (opened j a i m w) = opened j a (omega (arith, l, i)) m w
  fewer l (shut j a i m w) = shut j a (omega (arith, l, i)) m w

  -- after a late refusal
  behind_opened : {A : Type 0} {j m n : ℕ} {o a b : Outcome A} → j ≤ n → j ≤ left → m ≤ j → Opening left A m o a b
      → Opening left A n (Err j) a b
  behind_opened {j = j} l i w (shared a v) = opened j a l i (omega (arith, w, v))
  behind_opened {j = j} l i w (opened h a v x y) = opened j a l i (omega (arith, w, v, y))
  behind_opened {j = j} l i w (shut h a v x y) = absurd (omega (arith, i, w, v, x))

  bounded : {A B : Type 0} (a : Outcome A) (h : A → Parser B) → ((x : A) (r : Tokens) → stop (h x r) ≤ length r) → stop
      (and_then a h) ≤ stop a
  bounded (Err j) h v = omega arith
  bounded (Ok q) h v = v q.0 q.1

  opening_steps : {A B : Type 0} (n : ℕ) (o o' o'' : Outcome A) (f g h : A → Parser B) → Opening left A n o o' o''
      → ((x : A) (r : Tokens) → Opening left B (length r) (f x r) (g x r) (h x r)) → Opening left B n (and_then o f)
      (and_then o' g) (and_then o'' h)
  opening_steps n o o' o'' f g h (shared (Err j) l) v = shared (Err j) l
  opening_steps n o o' o'' f g h (shared (Ok q) l) v = fewer l (v q.0 q.1)
  opening_steps n o o' o'' f g h (opened j (Err i) l m w) v = opened j (Err i) l m w
  opening_steps n o o' o'' f g h (opened j (Ok q) l m w) v = behind_opened l m w (v q.0 q.1)
  opening_steps n o o' o'' f g h (shut j a l m w) v = shut j (and_then a h) l m
      (omega (arith, w, bounded a h (λ x r. last (v x r))))

  kept : Kept (Opening left)
  kept = record { alike = λ n o l. shared o l; steps = opening_steps }

  -- below the last level
  gate_at : {A : Type 0} (p : Parser A) → Local p → (ts : Tokens) (b : Bool) → nat_le (length ts) left ≡ b
      → Opening left A (length ts) (refuse ts) (if b then p ts else refuse ts) (p ts)
  gate_at p h ts true i = opened (length ts) (p ts) (omega arith) (leb-true (length ts) left i) (stops p h ts)
  gate_at p h ts false i = shut (length ts) (p ts) (omega arith) (leb-false (length ts) left i) (stops p h ts)

  gate_opens : {A : Type 0} {p : Parser A} → Local p → Rel (Opening left) refuse (gate left p) p
  gate_opens {p = p} h = record { at = λ ts. gate_at p h ts (nat_le (length ts) left) refl }

  mutual
    unfolding e.read_expr e.read_negated gated_expr gated_negated

    expr_opens : (d n : ℕ) → Rel (Opening left) (e.read_expr n) (gated_expr left d n) (e.read_expr (above n d))
    expr_opens d zero = gate_opens (local_expr d)
    expr_opens d (suc n) = rel.rel_compared (Opening left) kept
        (rel.rel_simple (Opening left) kept (rel.rel_term (Opening left) kept
        (rel.rel_factor (Opening left) kept (expr_opens d n) (negated_opens d n))))

    negated_opens : (d n : ℕ) → Rel (Opening left) (e.read_negated n) (gated_negated left d n)
        (e.read_negated (above n d))
    negated_opens d zero = gate_opens (local_negated d)
    negated_opens d (suc n) = rel.rel_factor (Opening left) kept (expr_opens d n) (negated_opens d n)

  statement_opens : (d n : ℕ) → Rel (Opening left) (s.read_statement n) (gated_statement left d n)
      (s.read_statement (above n d))
  unfolding s.read_statement gated_statement
  statement_opens d zero = gate_opens (local_statement d)
  statement_opens d (suc n) = rel.rel_any_statement (Opening left) kept (expr_opens d n) (statement_opens d n)

  index_opens : (d n : ℕ) → Rel (Opening left) (g.read_index n) (gated_index left d n) (g.read_index (above n d))
  unfolding g.read_index gated_index
  index_opens d zero = gate_opens (local_index d)
  index_opens d (suc n) = rel.rel_same (Opening left) kept local_ordinal

  type_opens : (d n : ℕ) → Rel (Opening left) (g.read_type n) (gated_type left d n) (g.read_type (above n d))
  unfolding g.read_type gated_type
  type_opens d zero = gate_opens (local_type d)
  type_opens d (suc n) = rel.rel_any_type (Opening left) kept (index_opens d n) (type_opens d n)

  formals_opens : (d n : ℕ) → Rel (Opening left) (g.read_formals n) (gated_formals left d n)
      (g.read_formals (above n d))
  unfolding g.read_formals gated_formals
  formals_opens d zero = gate_opens (local_formals d)
  formals_opens d (suc n) = rel.rel_formal_list (Opening left) kept (formals_opens d n)

  block_opens : (forward : Span → Bool) (d n : ℕ) → Rel (Opening left) (g.read_block forward n)
      (gated_block left d forward n) (g.read_block forward (above n d))
  unfolding g.read_block gated_block
  block_opens forward d zero = gate_opens (local_block forward d)
  block_opens forward d (suc n) = rel_blocks.rel_any_block (Opening left) kept forward (type_opens d n)
      (formals_opens d n)
      (statement_opens d n) (block_opens forward d n)

  program_opens : (forward : Span → Bool) (d n : ℕ) → Rel (Opening left) (g.program forward (g.read_block forward n))
      (gated_program left d forward n) (g.program forward (g.read_block forward (above n d)))
  unfolding gated_program
  program_opens forward d n = rel_blocks.rel_program (Opening left) kept forward (block_opens forward d n)

-- ---- the tokens that a level reads to their end are those that are low
module _ (text : List ℕ) where
  -- if everything after is read, and the first refuses late at most, the second reads it too
  read_open : {left k : ℕ} {o a b : Outcome Program} (p : Program) → Opening left Program k o a b → stop o ≤ left → b
      ≡ Ok (p, []) → a ≡ Ok (p, [])
  read_open p (shared a l) s q = q
  read_open p (opened j a l i m) s q = q
  read_open p (shut j a l i m) s q = absurd (omega (arith, i, s))

  late_or_read : {left k : ℕ} {o a b : Outcome Program} (p : Program) → Opening left Program k o a b → a ≡ Ok (p, [])
      → stop o ≤ left
  late_or_read p (shared a l) q = omega (arith, ap stop q)
  late_or_read p (opened j a l i m) q = i
  late_or_read p (shut j a l i m) q = cc

  high_enough : (n m : ℕ) (ts : Tokens) (p : Program) → DerivesWithin (is_forward text) m ts p → reading text
      (above n m) ts ≡ Ok (p, [])
  high_enough n m ts p d =
      let low = within_is_low (is_forward text) m ts p d in
      derived_is_read (is_forward text) (above n m) ts p
      (low_is_within (is_forward text) (above n m) ts p (low.0, omega (arith, low.1, above_least text n m)))

  low_of : (n : ℕ) (c : Tokens) → stop (reading text n c) ≡ 0 → Begins text c → IsLowTo n text c
  low_of n c z (behind, p, (m, d)) = (
    behind,
    m,
    p,
    gated_derived (length behind) m (is_forward text) n (c ++ behind) p
        (read_open p ((program_opens (length behind) (is_forward text) m n).at (c ++ behind))
        (among (reading text n) (looks text n) c behind z) (high_enough n m (c ++ behind) p d)),
  )

  pub is_low : (n : ℕ) (c : Tokens) → stop (reading text n c) ≡ 0 → IsLowTo n text c
  is_low n c z = low_of n c z (ends_begins text n c _ refl z)

  pub low_ends : (n : ℕ) (c : Tokens) → IsLowTo n text c → stop (reading text n c) ≡ 0
  low_ends n c (behind, m, p, d) =
      alone (reading text n) (looks text n) c behind
      (late_or_read p ((program_opens (length behind) (is_forward text) m n).at (c ++ behind))
      (derived_gated (length behind) m (is_forward text) n (c ++ behind) p d))
