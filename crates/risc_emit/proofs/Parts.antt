-- Words that are appended part by part: one after another, of one instruction, of a quotient by any divisor.
use Rattle.std.proofs.Common.{◌≡◌, ℕ, ◌+◌, Bool, false, if◌then◌else◌, List, [], ◌∷◌, ◌++◌, length, Result, Ok, Err}
use Rattle.std.proofs.Common.{OnOk, sym, ap, ◌∙◌, subst}
use Rattle.std.proofs.lemmas.List.{append_assoc}
use Rattle.tac_code.specs.declared.code.Instruction.{Instruction}
use Rattle.tac_code.specs.declared.code.Operand.{Operand}
use Rattle.risc_word.specs.declared.instr.Condition.TheVariants as on
use Rattle.risc_word.specs.declared.instr.Operation.TheVariants as op
use Rattle.risc_word.specs.declared.instr.Instr.TheVariants as word
use Rattle.risc_emit_relation.specs.Context.{Context, home}
use Rattle.risc_emit_forms.specs.Pieces.{Piece, Plain, Fails}
use Rattle.risc_emit_forms.specs.Forms.{form, skip, fetch, fetched, target, save, receive, right, right_operand, both}
use Rattle.risc_emit_forms.specs.Forms.{rounded, is_divisor, divisor, quotient, quotient_by_negative, divide_form}

-- a first part, and all that comes after it
pub then_all : {X E : Type 0} (r : Result X E) (p0 p1 p2 first rest : List Piece) → p1 ≡ p0 ++ first → OnOk r
    (p2 ≡ p1 ++ rest) → OnOk r (p2 ≡ p0 ++ (first ++ rest))
then_all {X} {E} r p0 p1 p2 first rest e = go r
  where
    go : (r : Result X E) → OnOk r (p2 ≡ p1 ++ rest) → OnOk r (p2 ≡ p0 ++ (first ++ rest))
    go (Ok x) h = h ∙ ap (λ (p : List Piece). p ++ rest) e ∙ append_assoc p0 first rest
    go (Err x) h = tt

-- two operands with a first part, and all that comes after it
pub both_then : {X E : Type 0} (c : Context) (n a : ℕ) (b : Operand) (r : Result X E) (p0 p1 p2 first rest : List Piece)
    → p1 ≡ p0 ++ both c n a b first → OnOk r (p2 ≡ p1 ++ rest) → OnOk r (p2 ≡ p0 ++ both c n a b (first ++ rest))
both_then c n a b r p0 p1 p2 first rest e h =
    let left = fetch c n 12 (home c n a) in
    let behind = right c n b in
    subst (λ (l : List Piece). OnOk r (p2 ≡ p0 ++ l))
    (append_assoc left (behind ++ first) rest ∙ ap (λ (l : List Piece). left ++ l) (append_assoc behind first rest))
    (then_all r p0 p1 p2 (both c n a b first) rest e h)

-- what is put for an instruction that is known
pub arm : {X E : Type 0} (c : Context) (r k : ℕ) (result : Result X E) (old new : List Piece) (i j : Instruction) → i
    ≡ j → OnOk result (new ≡ old ++ form c r k j) → OnOk result (new ≡ old ++ form c r k i)
arm c r k result old new i j is h =
    subst (λ (x : Instruction). OnOk result (new ≡ old ++ form c r k x)) (sym is) h

module _ (c : Context) (n t a : ℕ) (b : Operand) (error line : ℕ) where
  abbrev by_number : List Piece
  by_number =
      fetch c n 12 (home c n a) ++ (Plain (word.Operate op.Div (target c n (home c n t)) (fetched c n 12 (home c n a))
      (right_operand c n b)) ∷ (rounded (target c n (home c n t)) ++ save c n (home c n t)))

  abbrev tested : List Piece
  tested = Fails on.Equal 2 line ∷ skip on.Minus (length (quotient c n a) + 1) ∷ []

  abbrev passed : List Piece
  passed = skip on.Always (length (quotient_by_negative c n a error line)) ∷ []

  abbrev last : List Piece
  last = quotient_by_negative c n a error line ++ receive c n (home c n t)

  abbrev by_any : List Piece
  by_any = divisor c n b ++ (tested ++ (quotient c n a ++ (passed ++ last)))

  pub divided : {X E : Type 0} (result : Result X E) (p0 p1 p2 p3 p4 p5 p6 : List Piece) → is_divisor b ≡ false → p1
      ≡ p0 ++ divisor c n b → p2 ≡ p1 ++ (Fails on.Equal 2 line ∷ skip on.Minus (length (quotient c n a) + 1) ∷ []) → p3
      ≡ p2 ++ quotient c n a → p4 ≡ p3 ++ (skip on.Always (length (quotient_by_negative c n a error line)) ∷ []) → p5
      ≡ p4 ++ quotient_by_negative c n a error line → OnOk result (p6 ≡ p5 ++ receive c n (home c n t)) → OnOk result
      (p6 ≡ p0 ++ divide_form c n t a b error line)
  divided result p0 p1 p2 p3 p4 p5 p6 other e1 e2 e3 e4 e5 e6 =
      let whole : OnOk result (p6 ≡ p0 ++ by_any) = then_all result p0 p1 p6 (divisor c n b)
      (tested ++ (quotient c n a ++ (passed ++ last))) e1
      (then_all result p1 p2 p6 tested (quotient c n a ++ (passed ++ last)) e2
      (then_all result p2 p3 p6 (quotient c n a) (passed ++ last) e3
      (then_all result p3 p4 p6 passed last e4
      (then_all result p4 p5 p6 (quotient_by_negative c n a error line) (receive c n (home c n t)) e5 e6)))) in
      subst (λ (x : Bool). OnOk result (p6 ≡ p0 ++ (if x then by_number else by_any))) (sym other) whole
