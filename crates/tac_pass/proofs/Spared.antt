-- A step that is spared is followed by none.
use Rattle.std.proofs.Common.{◌≡◌, ℕ, suc, ◌+◌, Bool, true, false, not, List, length, Some, refl, sym, ap, ◌∙◌, subst}
use Rattle.tac_code.specs.declared.code.Block.TheVariants.{Frame}
use Rattle.tac_code.specs.declared.code.Value.TheVariants.{Number}
use Rattle.tac_code.specs.declared.code.Base.TheVariants as base
use Rattle.tac_code.specs.declared.code.Instruction.{Instruction}
use Rattle.tac_code.specs.declared.code.Instruction.TheVariants.{Literal, Copy, Arithmetic, Bits, Compare, CheckRange}
use Rattle.tac_code.specs.declared.code.Instruction.TheVariants.{CheckPointer, Text, Offset, Index, RoutineValue, Load}
use Rattle.tac_code.specs.declared.code.Instruction.TheVariants.{Store, LoadByte, StoreByte, Jump, JumpBack, Branch}
use Rattle.tac_code.specs.declared.code.Instruction.TheVariants.{BranchBack, Call, CallValue, Return, Trap, Take, Put}
use Rattle.tac_code.specs.declared.code.Instruction.TheVariants.{New, End}
use Rattle.tac_code.specs.Numbers.{is_in_range}
use Rattle.tac_code.specs.Memory.{load}
use Rattle.tac_code.specs.Meaning.{Code, State, put, pointer_of, is_nil, checks, text_at}
use Rattle.tac_code_steps.specs.Turns.{turns_aside}
use Rattle.tac_code_steps.specs.InTurns.{Setting}
use Rattle.tac_pass.specs.Moved.{moved_word}
use Rattle.tac_pass.specs.Claims.{Claim, Certificate}
use Rattle.tac_pass.specs.Alike.{Alike}
use Rattle.tac_pass.specs.Rules.{Holds, None_of_them, As, As_word, Forgets, Spares}
use Rattle.tac_pass.proofs.Simulating.{stays}
use Rattle.tac_pass.proofs.Words.{with_own}
use Rattle.tac_pass.proofs.Inside.{with_set, inside_forgot, inside_spared, inside_postponed}
use Rattle.tac_pass.proofs.Memories.{same_grown}
use Rattle.tac_pass.proofs.Likeness.{alike_inside, alike_scene}
use Rattle.tac_pass.proofs.Values.{hold_value, copied_away}
use Rattle.tac_pass.proofs.Stepping.{some_follows, number_follows}
use Rattle.tac_pass.proofs.StepParts.{Follow, c', old_step, old_stored, own_store_follows, own_word, word_away}

module _ (old new : Code) (p : Setting) (e : Certificate) (same_count : length new.program ≡ length old.program)
    (same_objects : new.objects ≡ old.objects)
    (texts : (r place : ℕ) (bytes : List ℕ) → text_at old r place ≡ Some bytes → text_at new r (e.stands r place)
    ≡ Some bytes) (s s' : State) (c : Claim) (a : Alike e c s s') where
  -- ---- what is spared

  module _ (next : s'.current.place ≡ e.starts s.current.routine (suc s.current.place)) where
    -- where it fails, the code is stuck
    check_spared : (b : Bool) (number line : ℕ) → number ≡ 0 → Forgets c
        (c' old new p e same_count same_objects texts s s' c a)
        → Follow old new p e same_count same_objects texts s s' c a false (checks old b number line s)
    check_spared true number line z g = (
      s',
      (
        alike_inside e a (suc s.current.place) s'.current.place s.current.temporaries s'.current.temporaries s.tape
            s'.tape a.outside.tape (inside_forgot e.stands s.current.number a.inside g),
        next,
      ),
      stays new p s',
    )
    check_spared false number line z g =
        subst (λ n. Follow old new p e same_count same_objects texts s s' c a false (checks old false n line s))
        (sym z) (λ live. absurd (live refl))

    pub spares_follow : (i : Instruction) → Spares c (c' old new p e same_count same_objects texts s s' c a) i
        → Follow old new p e same_count same_objects texts s s' c a (turns_aside (Some i))
        (old_step old new p e same_count same_objects texts s s' c a i)
    spares_follow (Literal t z) g = (
      s',
      (
        alike_inside e a (suc s.current.place) s'.current.place
            (put s.current.temporaries t (Number z)) s'.current.temporaries s.tape s'.tape a.outside.tape
            (inside_spared e.stands s.current.number a.inside t None_of_them None_of_them (Number z)
            (λ w h. absurd h) (λ o h. absurd h) g),
        next,
      ),
      stays new p s',
    )
    spares_follow (Copy t u) g =
        some_follows old new p e false s s' (s.current.temporaries u) _ (λ v is. (
          s',
          (
            alike_inside e a (suc s.current.place) s'.current.place
                (put s.current.temporaries t v) s'.current.temporaries s.tape s'.tape a.outside.tape
                (inside_spared e.stands s.current.number a.inside t (Holds c u) (As c u) v
                (λ w h. hold_value e a u w v h is) (copied_away e a u v is) g),
            next,
          ),
          stays new p s',
        ))
    spares_follow (Load t base.Frame n) (k, f, g) =
        some_follows old new p e false s s' (load (text_at old) s.memory (Frame s.current.number) (0 + n)) _ (λ v is. (
          s',
          (
            alike_inside e a (suc s.current.place) s'.current.place
                (put s.current.temporaries t v) s'.current.temporaries s.tape s'.tape a.outside.tape
                (inside_spared e.stands s.current.number a.inside t (λ w. c.words k ≡ Some w) (As_word c k) v
                (λ w h. a.inside.held k w h ∙ ap (moved_word e.stands)
                (own_word old new p e same_count same_objects texts s s' c a n k v f is))
                (word_away old new p e same_count same_objects texts s s' c a k v
                (own_word old new p e same_count same_objects texts s s' c a n k v f is)) g),
            next,
          ),
          stays new p s',
        ))
    spares_follow (Store base.Frame n b) (k, f, g) =
        own_store_follows old new p e same_count same_objects texts s s' c a false n k b f (λ v is below. (
          s',
          (
            alike_scene e a (suc s.current.place) s'.current.place s.current.temporaries s'.current.temporaries
                (with_own s.current.number (with_set a.words k v) a.rest s.memory) s'.memory s.heap s'.heap
                a.outside.heap
                (old_stored old new p e same_count same_objects texts s s' c a k v) (same_grown e.stands a.rest)
                (inside_postponed e.stands s.current.number a.inside k v below b is g),
            next,
          ),
          stays new p s',
        ))
    spares_follow (Load t base.Scratch n) h = absurd h
    spares_follow (Load t base.Program n) h = absurd h
    spares_follow (Load t (base.Temporary _) n) h = absurd h
    spares_follow (Store base.Scratch n b) h = absurd h
    spares_follow (Store base.Program n b) h = absurd h
    spares_follow (Store (base.Temporary _) n b) h = absurd h
    spares_follow (Arithmetic _ _ _ _ _ _) h = absurd h
    spares_follow (Bits _ _ _ _) h = absurd h
    spares_follow (Compare _ _ _ _) h = absurd h
    spares_follow (CheckRange u low high error line) (z, g) =
        number_follows old new p e false s s' (s.current.temporaries u) _
        (λ x is. check_spared (is_in_range low high x) error line z g)
    spares_follow (CheckPointer u error line) (z, g) =
        some_follows old new p e false s s' (pointer_of (s.current.temporaries u)) _
        (λ n is. check_spared (not (is_nil n)) error line z g)
    spares_follow (Text _ _) h = absurd h
    spares_follow (Offset _ _ _ _) h = absurd h
    spares_follow (Index _ _ _ _ _ _ _ _) h = absurd h
    spares_follow (RoutineValue _ _) h = absurd h
    spares_follow (LoadByte _ _ _) h = absurd h
    spares_follow (StoreByte _ _ _) h = absurd h
    spares_follow (Jump _) h = absurd h
    spares_follow (JumpBack _) h = absurd h
    spares_follow (Branch _ _ _ _) h = absurd h
    spares_follow (BranchBack _ _ _ _) h = absurd h
    spares_follow (Call _ _ _ _) h = absurd h
    spares_follow (CallValue _ _ _ _) h = absurd h
    spares_follow (Return _) h = absurd h
    spares_follow (Trap _ _) h = absurd h
    spares_follow (Take _) h = absurd h
    spares_follow (Put _) h = absurd h
    spares_follow (New _ _ _) h = absurd h
    spares_follow End h = absurd h
