-- Loads and stores of the new code, of words of its own frame.
use Rattle.std.proofs.Common.{◌≡◌, ℕ, ◌+◌, ◌*◌, ◌<◌, false, if◌then◌else◌, length, map, slice_get, Some, None, sym, ap}
use Rattle.std.proofs.Common.{◌∙◌, subst, lt-ltb}
use Rattle.tac_code.specs.declared.code.Block.TheVariants.{Frame}
use Rattle.tac_code.specs.declared.code.Value.{Value}
use Rattle.tac_code.specs.declared.code.Base.TheVariants as base
use Rattle.tac_code.specs.declared.code.Instruction.{Instruction}
use Rattle.tac_code.specs.declared.code.Instruction.TheVariants.{Load, Store}
use Rattle.tac_code.specs.Memory.{known, load, store}
use Rattle.tac_code.specs.Meaning.{Code, State, Step, Goes, with_some, gives, stores, text_at, onward}
use Rattle.tac_code_steps.specs.InTurns.{Setting}
use Rattle.tac_pass.specs.Moved.{moved, moved_word, moved_living}
use Rattle.tac_pass.specs.Claims.{Claim, Certificate}
use Rattle.tac_pass.specs.Alike.{Alike}
use Rattle.tac_pass.proofs.Words.{with_own, load_own, store_own}
use Rattle.tac_pass.proofs.Inside.{with_set}
use Rattle.tac_pass.proofs.Stepping.{act_new}

module _ (old new : Code) (p : Setting) (e : Certificate) (s s' : State) (c : Claim) (a : Alike e c s s') where
  abbrev new_step : Instruction → Step
  new_step i = act_new old new p e i s'

  -- a load of both codes from their own frames
  pub own_load : (n k t' : ℕ) (v : Value) → n ≡ 4 * k → c.stale k ≡ false → known (slice_get a.words k) ≡ Some v
      → new_step (Load t' base.Frame n) ≡ gives t' (moved e.stands v) s'
  own_load n k t' v f fresh is =
      ap (λ number. with_some (load (text_at new) s'.memory (Frame number) (0 + n)) (λ w. gives t' w s'))
      a.outside.call.number
      ∙ ap (λ o. with_some o (λ w. gives t' w s'))
      (load_own (text_at new) s'.memory s.current.number a.words'
      (map (moved_living e.stands) a.rest) n k a.outside.memory.frames' f ∙ a.inside.agree k fresh
      ∙ ap (moved_word e.stands) is)

  -- a store of both codes into their own frames
  pub own_store : (n k b' : ℕ) (v : Value) → n ≡ 4 * k → k < length a.words → s'.current.temporaries b' ≡ Some
      (moved e.stands v)
      → new_step (Store base.Frame n b') ≡ Goes
      (record s' {
        current = onward s'.current;
        memory = with_own s.current.number
            (with_set a.words' k (moved e.stands v)) (map (moved_living e.stands) a.rest) s'.memory;
      })
  own_store n k b' v f below is =
      ap (λ number. with_some (s'.current.temporaries b')
      (λ w. with_some (store s'.memory (Frame number) (0 + n) w) (λ m. stores m s'))) a.outside.call.number
      ∙ ap (λ o. with_some o (λ w. with_some (store s'.memory (Frame s.current.number) (0 + n) w) (λ m. stores m s')))
      is
      ∙ ap (λ o. with_some o (λ m. stores m s'))
      (store_own s'.memory s.current.number a.words' (map (moved_living e.stands) a.rest) n k
      (moved e.stands v) a.outside.memory.frames' f)
      ∙ ap (λ b. with_some (if b then Some (with_own s.current.number (with_set a.words' k (moved e.stands v))
      (map (moved_living e.stands) a.rest) s'.memory) else None) (λ m. stores m s'))
      (lt-ltb k (length a.words') (subst (λ n. k < n) (sym a.inside.size) below))
