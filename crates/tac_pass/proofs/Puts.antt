-- What is put in: the new code goes on alone, and the old one stays where it is.
use Rattle.std.proofs.Common.{◌≡◌, ℕ, zero, suc, ◌*◌, Bool, false, map, slice_get, Option, Some, None, refl, ap, ◌∙◌}
use Rattle.tac_code.specs.declared.code.Value.{Value}
use Rattle.tac_code.specs.declared.code.Base.TheVariants as base
use Rattle.tac_code.specs.declared.code.Instruction.{Instruction}
use Rattle.tac_code.specs.declared.code.Instruction.TheVariants.{Literal, Copy, Arithmetic, Bits, Compare, CheckRange}
use Rattle.tac_code.specs.declared.code.Instruction.TheVariants.{CheckPointer, Text, Offset, Index, RoutineValue, Load}
use Rattle.tac_code.specs.declared.code.Instruction.TheVariants.{Store, LoadByte, StoreByte, Jump, JumpBack, Branch}
use Rattle.tac_code.specs.declared.code.Instruction.TheVariants.{BranchBack, Call, CallValue, Return, Trap, Take, Put}
use Rattle.tac_code.specs.declared.code.Instruction.TheVariants.{New, End}
use Rattle.tac_code.specs.Memory.{known}
use Rattle.tac_code.specs.Meaning.{Code, State, Step, Goes, Over, fetch, act, put, puts, onward}
use Rattle.tac_code_steps.specs.Turns.{turns_aside}
use Rattle.tac_code_steps.specs.InTurns.{Setting}
use Rattle.tac_pass.specs.Moved.{moved, moved_word, moved_living}
use Rattle.tac_pass.specs.Claims.{Claim, Certificate}
use Rattle.tac_pass.specs.Alike.{Alike}
use Rattle.tac_pass.specs.Rules.{PutsIn, Cleans, Fetches}
use Rattle.tac_pass.specs.Follows.{Comes}
use Rattle.tac_pass.proofs.Simulating.{first, first_ends}
use Rattle.tac_pass.proofs.Words.{with_own}
use Rattle.tac_pass.proofs.Inside.{inside_cleaned, inside_fetched, with_set, inside_forgot}
use Rattle.tac_pass.proofs.Memories.{is_within, same_grown}
use Rattle.tac_pass.proofs.Likeness.{given, alike_inside, alike_scene}
use Rattle.tac_pass.proofs.Own.{own_load, own_store}
use Rattle.tac_pass.proofs.Stepping.{Followed, act_new}

module _ (old new : Code) (p : Setting) (e : Certificate) (s : State) where
  -- one instruction that was put in
  pub record Put_in (d : Claim) (s' : State) (i : Instruction) : Type 0 where
    pub s1 : State
    pub goes : act_new old new p e i s' ≡ Goes s1
    pub straight : turns_aside (Some i) ≡ false
    pub alike : Alike e d s s1
    pub place : s1.current.place ≡ suc s'.current.place
    pub routine : s1.current.routine ≡ s'.current.routine

  known_word : (c : Claim) (s' : State) (a : Alike e c s s') (k : ℕ) → c.blank k ≡ false → (v : Value)
      × (known (slice_get a.words k) ≡ Some v)
  known_word c s' a k there = which (known (slice_get a.words k)) refl
    where
      which : (o : Option Value) → known (slice_get a.words k) ≡ o → (v : Value)
          × (known (slice_get a.words k) ≡ Some v)
      which None is = absurd (a.inside.written k there is)
      which (Some v) is = (v, is)

  cleaned : (c d : Claim) (s' : State) → Alike e c s s' → (n k t : ℕ) → n ≡ 4 * k → Cleans k t c d → Put_in d s'
      (Store base.Frame n t)
  cleaned c d s' a n k t f g =
      let word = known_word c s' a k g.there in
      let below = is_within a.words k word.0 word.1 in
      record {
        s1 = record s' {
          current = onward s'.current;
          memory = with_own s.current.number
              (with_set a.words' k (moved e.stands word.0)) (map (moved_living e.stands) a.rest) s'.memory;
        };
        goes = own_store old new p e s s' c a n k t word.0 f below
            (a.inside.held k t g.held ∙ ap (moved_word e.stands) word.1);
        straight = refl;
        alike = alike_scene e a s.current.place (suc s'.current.place) s.current.temporaries s'.current.temporaries
            s.memory (with_own s.current.number (with_set a.words' k (moved e.stands word.0))
            (map (moved_living e.stands) a.rest) s'.memory) s.heap s'.heap a.outside.heap
            (record {
              frames = a.outside.memory.frames;
              frames' = refl;
              scratch = a.outside.memory.scratch;
              objects = a.outside.memory.objects;
            }) (same_grown e.stands a.rest) (inside_cleaned e.stands s.current.number a.inside k t word.0 word.1 below
            g);
        place = refl;
        routine = refl;
      }

  fetched : (c d : Claim) (s' : State) → Alike e c s s' → (n k t : ℕ) → n ≡ 4 * k → Fetches k t c d → Put_in d s'
      (Load t base.Frame n)
  fetched c d s' a n k t f g =
      let word = known_word c s' a k g.there in
      record {
        s1 = given t (moved e.stands word.0) s';
        goes = own_load old new p e s s' c a n k t word.0 f g.fresh word.1;
        straight = refl;
        alike = alike_inside e a s.current.place (suc s'.current.place) s.current.temporaries
            (put s'.current.temporaries t (moved e.stands word.0)) s.tape s'.tape a.outside.tape
            (inside_fetched e.stands s.current.number a.inside t k word.0 word.1 g);
        place = refl;
        routine = refl;
      }

  puts_in : (c d : Claim) (s' : State) → Alike e c s s' → (i : Instruction) → PutsIn c d i → Put_in d s' i
  puts_in c d s' a (Store base.Frame n t) (k, f, g) = cleaned c d s' a n k t f g
  puts_in c d s' a (Load t base.Frame n) (k, f, g) = fetched c d s' a n k t f g
  puts_in c d s' a (Load t base.Scratch n) h = absurd h
  puts_in c d s' a (Load t base.Program n) h = absurd h
  puts_in c d s' a (Load t (base.Temporary _) n) h = absurd h
  puts_in c d s' a (Store base.Scratch n b) h = absurd h
  puts_in c d s' a (Store base.Program n b) h = absurd h
  puts_in c d s' a (Store (base.Temporary _) n b) h = absurd h
  puts_in c d s' a (Literal _ _) h = absurd h
  puts_in c d s' a (Copy _ _) h = absurd h
  puts_in c d s' a (Arithmetic _ _ _ _ _ _) h = absurd h
  puts_in c d s' a (Bits _ _ _ _) h = absurd h
  puts_in c d s' a (Compare _ _ _ _) h = absurd h
  puts_in c d s' a (CheckRange _ _ _ _ _) h = absurd h
  puts_in c d s' a (CheckPointer _ _ _) h = absurd h
  puts_in c d s' a (Text _ _) h = absurd h
  puts_in c d s' a (Offset _ _ _ _) h = absurd h
  puts_in c d s' a (Index _ _ _ _ _ _ _ _) h = absurd h
  puts_in c d s' a (RoutineValue _ _) h = absurd h
  puts_in c d s' a (LoadByte _ _ _) h = absurd h
  puts_in c d s' a (StoreByte _ _ _) h = absurd h
  puts_in c d s' a (Jump _) h = absurd h
  puts_in c d s' a (JumpBack _) h = absurd h
  puts_in c d s' a (Branch _ _ _ _) h = absurd h
  puts_in c d s' a (BranchBack _ _ _ _) h = absurd h
  puts_in c d s' a (Call _ _ _ _) h = absurd h
  puts_in c d s' a (CallValue _ _ _ _) h = absurd h
  puts_in c d s' a (Return _) h = absurd h
  puts_in c d s' a (Trap _ _) h = absurd h
  puts_in c d s' a (Take _) h = absurd h
  puts_in c d s' a (Put _) h = absurd h
  puts_in c d s' a (New _ _ _) h = absurd h
  puts_in c d s' a End h = absurd h

  -- the state behind all of them, from which whatever follows does so from their begin
  pub record Behind_puts (c : Claim) (to : ℕ) (s' : State) : Type 0 where
    pub s2 : State
    pub alike : Alike e c s s2
    pub place : s2.current.place ≡ to
    pub back : (b : Bool) (x : Step) → Followed old new p e b s s2 x → Followed old new p e b s s' x

  one_before : (s' s1 : State) (i : Instruction) → fetch new s'.current.routine s'.current.place ≡ Some i
      → act_new old new p e i s' ≡ Goes s1 → turns_aside (Some i) ≡ false → (b : Bool) (x : Step)
      → Followed old new p e b s s1 x → Followed old new p e b s s' x
  one_before s' s1 i there goes straight b (Goes t) f = (
    f.0,
    f.1,
    first new p s' s1 f.0 (ap (λ o. act new p.frames p.objects p.stack p.heap o s') there ∙ goes)
        (ap turns_aside there ∙ straight) f.2,
  )
  one_before s' s1 i there goes straight b (Over x) f =
      λ live. first_ends new p s' s1 (ap (λ o. act new p.frames p.objects p.stack p.heap o s') there ∙ goes)
      (ap turns_aside there ∙ straight) (f live)

  pub behind_puts : (n : ℕ) (c c2 : Claim) (s' : State) (from to : ℕ) → Alike e c s s' → s'.current.place ≡ from
      → Comes old new e s.current.routine n c from c2 to → Behind_puts c2 to s'
  behind_puts zero c c2 s' from to a here (same, forgets) = record {
    s2 = s';
    alike = alike_inside e a s.current.place s'.current.place s.current.temporaries s'.current.temporaries s.tape
        s'.tape a.outside.tape (inside_forgot e.stands s.current.number a.inside forgets);
    place = here ∙ same;
    back = λ b x f. f;
  }
  behind_puts (suc n) c c2 s' from to a here (i, d, there, puts, others) =
      let one = puts_in c d s' a i puts in
      let rest = behind_puts n d c2 one.s1 (suc from) to one.alike (one.place ∙ ap suc here) others in
      record {
        s2 = rest.s2;
        alike = rest.alike;
        place = rest.place;
        back = λ b x f. one_before s' one.s1 i (ap (λ r. fetch new r s'.current.place) a.outside.call.routine
            ∙ ap (fetch new s.current.routine) here ∙ there) one.goes one.straight b x (rest.back b x f);
      }
