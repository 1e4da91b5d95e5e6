-- States stay alike: where both go on, where both are given one value, and where memory is written.
use Rattle.std.proofs.Common.{◌≡◌, ℕ, List, [], ◌∷◌, ◌∙◌}
use Rattle.tac_code.specs.declared.code.Value.{Value}
use Rattle.tac_code.specs.Memory.{Words, Living, Memory}
use Rattle.tac_code.specs.Meaning.{Temporaries, Activation, State, Tape, giving}
use Rattle.tac_pass.specs.Claims.{Claim, Certificate}
use Rattle.tac_pass.specs.Alike.{Inside, Memories, Wait, Outside, Alike}
use Rattle.tac_pass.proofs.Memories.{Grown}

-- the same call and callers, with all else given
abbrev pub scene : ℕ → Temporaries → Memory → ℕ → Tape → State → State
scene place temporaries memory heap tape s =
    record s {
      current = record s.current { place = place; temporaries = temporaries };
      memory = memory;
      heap = heap;
      tape = tape;
    }

abbrev pub at_place : ℕ → State → State
at_place place s = record s { current = record s.current { place = place } }

abbrev pub given : ℕ → Value → State → State
given t v s = record s { current = giving t v s.current }

abbrev pub told_on : Tape → State → State
told_on tape s = record s { tape = tape }

module _ (e : Certificate) where
  -- callers wait for frames in which more was written
  pub wait_grown : (result result' : ℕ) (old new : List Activation) (fs gs : List Living)
      → Wait e result result' old new fs → Grown e.stands fs gs → Wait e result result' old new gs
  wait_grown result result' [] [] [] [] w g = tt
  wait_grown result result' [] [] [] (_ ∷ _) w g = absurd g
  wait_grown result result' [] [] (_ ∷ _) gs w g = absurd w
  wait_grown result result' [] (_ ∷ _) fs gs w g = absurd w
  wait_grown result result' (_ ∷ _) [] fs gs w g = absurd w
  wait_grown result result' (_ ∷ _) (_ ∷ _) [] gs w g = absurd w
  wait_grown result result' (_ ∷ _) (_ ∷ _) (_ ∷ _) [] w g = absurd g
  wait_grown result result' (a ∷ old) (b ∷ new) (f ∷ fs) (h ∷ hs) w g = (
    record {
      call = w.0.call;
      place = w.0.place;
      own = g.0 ∙ w.0.own;
      hold = w.0.hold;
      held = w.0.held;
      written = λ k x. g.1 k (w.0.written k x);
      away = w.0.away;
      word_away = w.0.word_away;
    },
    wait_grown a.result b.result old new fs hs w.1 g.2,
  )

  pub outside_scene : {s s' : State} {words words' words2 words2' : Words} {rest rest2 : List Living} (q q' : ℕ)
      (ts ts' : Temporaries) (m m' : Memory) (heap heap' : ℕ) (tape tape' : Tape) → Outside e s s' words words' rest
      → Memories e.stands s.current.number words2 words2' rest2 m m'
      → Wait e s.current.result s'.current.result s.callers s'.callers rest2 → heap' ≡ heap → tape' ≡ tape
      → Outside e (scene q ts m heap tape s) (scene q' ts' m' heap' tape' s') words2 words2' rest2
  outside_scene q q' ts ts' m m' heap heap' tape tape' o memory callers same_heap same_tape = record {
    call = record { routine = o.call.routine; number = o.call.number; line = o.call.line; first = o.call.first };
    memory = memory;
    callers = callers;
    count = o.count;
    counted = o.counted;
    heap = same_heap;
    tape = same_tape;
  }

  module _ {c c' : Claim} {s s' : State} (a : Alike e c s s') where
    -- places and temporaries have changed, and nothing else
    pub alike_inside : (q q' : ℕ) (ts ts' : Temporaries) (tape tape' : Tape) → tape' ≡ tape
        → Inside e.stands c' s.current.number ts ts' a.words a.words' → Alike e c' (scene q ts s.memory s.heap tape s)
        (scene q' ts' s'.memory s'.heap tape' s')
    alike_inside q q' ts ts' tape tape' same_tape inside = record {
      words = a.words;
      words' = a.words';
      rest = a.rest;
      inside = inside;
      outside = outside_scene q q' ts ts' s.memory s'.memory s.heap s'.heap tape tape' a.outside a.outside.memory
          a.outside.callers a.outside.heap same_tape;
    }

    -- and memory, as it is now
    pub alike_scene : {words words' : Words} {rest : List Living} (q q' : ℕ) (ts ts' : Temporaries) (m m' : Memory)
        (heap heap' : ℕ) → heap' ≡ heap → Memories e.stands s.current.number words words' rest m m'
        → Grown e.stands a.rest rest
        → Inside e.stands c' s.current.number ts ts' words words' → Alike e c' (scene q ts m heap s.tape s)
        (scene q' ts' m' heap' s'.tape s')
    alike_scene {words} {words'} {rest} q q' ts ts' m m' heap heap' same_heap memory grown inside = record {
      words = words;
      words' = words';
      rest = rest;
      inside = inside;
      outside = outside_scene q q' ts ts' m m' heap heap' s.tape s'.tape a.outside memory
          (wait_grown s.current.result s'.current.result s.callers s'.callers a.rest rest a.outside.callers grown)
          same_heap a.outside.tape;
    }
