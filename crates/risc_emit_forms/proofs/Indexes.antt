-- Components of arrays: the index checked, and the address of the component.
use Rattle.std.proofs.Common.{◌≡◌, ℕ, suc, ◌+◌, ◌*◌, List, Some, ℤ, refl, sym, ap, ◌∙◌, subst, Option, None}
use Rattle.risc_machine.specs.Step as machine
use Rattle.risc_machine_laws.specs.View.{View, Shows}
use Rattle.tac_code.specs.declared.code.Block.{Block}
use Rattle.tac_code.specs.declared.code.Base.{Base}
use Rattle.tac_code.specs.declared.code.Base.TheVariants as base
use Rattle.tac_code.specs.declared.code.Value.TheVariants.{Number, Address}
use Rattle.tac_code.specs.declared.code.Instruction.TheVariants.{Index}
use Rattle.tac_code.specs.Numbers.{steps_above, is_in_range}
use Rattle.tac_code.specs.Meaning.{fetch, State, base_value, gives_component}
use Rattle.risc_emit_relation.specs.Context.{Context, Places}
use Rattle.risc_emit_forms.specs.Pieces.{Left}
use Rattle.risc_emit_forms.specs.Forms.{index_by}
use Rattle.risc_emit_forms.specs.Peephole.{short_of, near_of, folded, deferred_at}
use Rattle.risc_emit_forms.specs.Follows.{Built, Belongs, Follows}
use Rattle.risc_emit_forms.proofs.Operands.{code}
use Rattle.risc_emit_forms.proofs.Components.{fold_follows, steps_follow}
use Rattle.risc_emit_forms.proofs.Rows.{back_follows}

module _ (c : Context) (words : List ℕ) (b : Built c words) (p : Places) (s : State) (f : ℕ) (m : machine.State)
    (v : View) (sh : Shows words c.size m v) (be : Belongs c words p s v f) where
  -- ---- the instruction

  pub index_follows : (t : ℕ) (a : Base) (i : ℕ) (low high : ℤ) (width error line : ℕ) (block : Block) (offset : ℕ)
      (x : ℤ) → fetch c.code s.current.routine s.current.place ≡ Some (Index t a i low high width error line)
      → base_value s.current a ≡ Some (Address block offset) → s.current.temporaries i ≡ Some (Number x)
      → Follows c words (gives_component c.code (is_in_range low high x) t block
      (offset + steps_above low x * width) error line s) s m
  index_follows t a i low high width error line block offset x here ea ei =
      by (folded c s.current.routine a low high width error) refl
      (code c words b p s f m v sh be (Index t a i low high width error line) here)
    where
      near_same : (o : Option ℕ) → short_of None o ≡ o
      near_same o = refl

      far : folded c s.current.routine a low high width error ≡ None
          → near_of (deferred_at c s.current.routine (suc s.current.place)) a ≡ None → Left c words v.place
          (index_by c s.current.routine None (deferred_at c s.current.routine (suc s.current.place)) t a i low high
          width error line) (c.site s.current.routine (suc s.current.place)) → Follows c words
          (gives_component c.code (is_in_range low high x) t block (offset + steps_above low x * width) error line s)
          s m
      far e none l = steps_follow c words b p s f m v sh be t a i low high width error line block offset x here ea ei
          e none l

      by_base : (a' : Base) → a ≡ a' → (o : Option (ℕ × ℤ))
          → deferred_at c s.current.routine (suc s.current.place) ≡ o
          → folded c s.current.routine a low high width error
          ≡ None → Left c words v.place (index_by c s.current.routine (near_of o a')
          (deferred_at c s.current.routine (suc s.current.place)) t a i low high width error line)
          (c.site s.current.routine (suc s.current.place)) → Follows c words
          (gives_component c.code (is_in_range low high x) t block (offset + steps_above low x * width) error line s)
          s m
      by_base (base.Temporary u) is (Some deferred) defers e l =
          back_follows c words b p s f m v sh be t u i low high width error line block offset x deferred
          (here ∙ ap (λ z. Some (Index t z i low high width error line)) is)
          (ap (base_value s.current) (sym is) ∙ ea) ei defers
          (subst (λ z. Left c words v.place
          (index_by c s.current.routine (Some 0) (Some deferred) t z i low high width error line)
          (c.site s.current.routine (suc s.current.place))) is
          (subst (λ o. Left c words v.place
          (index_by c s.current.routine (Some 0) o t a i low high width error line)
          (c.site s.current.routine (suc s.current.place))) defers l))
      by_base (base.Temporary u) is None defers e l = far e (ap (λ o. near_of o a) defers) l
      by_base base.Frame is (Some deferred) defers e l = far e
          (ap (λ o. near_of o a) defers ∙ ap (near_of (Some deferred)) is) l
      by_base base.Frame is None defers e l = far e (ap (λ o. near_of o a) defers) l
      by_base base.Scratch is (Some deferred) defers e l =
          far e (ap (λ o. near_of o a) defers ∙ ap (near_of (Some deferred)) is) l
      by_base base.Scratch is None defers e l = far e (ap (λ o. near_of o a) defers) l
      by_base base.Program is (Some deferred) defers e l =
          far e (ap (λ o. near_of o a) defers ∙ ap (near_of (Some deferred)) is) l
      by_base base.Program is None defers e l = far e (ap (λ o. near_of o a) defers) l

      by : (o : Option ℕ) → folded c s.current.routine a low high width error ≡ o → Left c words v.place
          (index_by c s.current.routine (short_of o (near_of (deferred_at c s.current.routine (suc s.current.place)) a))
          (deferred_at c s.current.routine (suc s.current.place)) t a i low high width error line)
          (c.site s.current.routine (suc s.current.place)) → Follows c words
          (gives_component c.code (is_in_range low high x) t block (offset + steps_above low x * width) error line s)
          s m
      by None e l = by_base a refl (deferred_at c s.current.routine (suc s.current.place)) refl e
          (subst (λ o. Left c words v.place (index_by c s.current.routine o
          (deferred_at c s.current.routine (suc s.current.place)) t a i low high width error line)
          (c.site s.current.routine (suc s.current.place)))
          (near_same (near_of (deferred_at c s.current.routine (suc s.current.place)) a)) l)
      by (Some n) e l = fold_follows c words b p s f m v sh be t a i low high width error line block offset x n here
          ea ei e l
