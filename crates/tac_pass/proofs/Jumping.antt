-- Jumps, branches, ends, and what is put in.
use Rattle.std.proofs.Common.{◌≡◌, ◌≢◌, ◌⊎◌, inl, inr, ℕ, suc, ◌+◌, ◌-◌, Bool, true, false, if◌then◌else◌, List, []}
use Rattle.std.proofs.Common.{◌∷◌, length, map, Option, Some, refl, sym, ap, ◌∙◌}
use Rattle.std.proofs.lemmas.List.{length-map}
use Rattle.behavior.specs.Endings.{Normal}
use Rattle.tac_code.specs.declared.code.Value.{Value}
use Rattle.tac_code.specs.declared.code.Operand.{Operand}
use Rattle.tac_code.specs.declared.code.Relation.{Relation}
use Rattle.tac_code.specs.declared.code.Instruction.{Instruction}
use Rattle.tac_code.specs.declared.code.Instruction.TheVariants.{Literal, Copy, Arithmetic, Bits, Compare, CheckRange}
use Rattle.tac_code.specs.declared.code.Instruction.TheVariants.{CheckPointer, Text, Offset, Index, RoutineValue, Load}
use Rattle.tac_code.specs.declared.code.Instruction.TheVariants.{Store, LoadByte, StoreByte, Jump, JumpBack, Branch}
use Rattle.tac_code.specs.declared.code.Instruction.TheVariants.{BranchBack, Call, CallValue, Return, Trap, Take, Put}
use Rattle.tac_code.specs.declared.code.Instruction.TheVariants.{New, End}
use Rattle.tac_code.specs.Memory.{Living}
use Rattle.tac_code.specs.Meaning.{Code, Activation, State, Step, fetch, put, with_some, operand_value, related}
use Rattle.tac_code.specs.Meaning.{goes_on, goes_to, leave, without_first}
use Rattle.tac_code_steps.proofs.Temporaries.{put_other}
use Rattle.tac_code_steps.specs.Turns.{turns_aside}
use Rattle.tac_code_steps.specs.InTurns.{Setting}
use Rattle.tac_pass.specs.Moved.{moved, moved_word, moved_words, moved_living}
use Rattle.tac_pass.specs.Claims.{Claim, Certificate}
use Rattle.tac_pass.specs.Alike.{Inside, Memories, Waits, Wait, Alike}
use Rattle.tac_pass.specs.Rules.{Forgets, Ends}
use Rattle.tac_pass.specs.Follows.{Tests, Jumps}
use Rattle.tac_pass.proofs.Inside.{holds_here, inside_forgot}
use Rattle.tac_pass.proofs.Memories.{known_map, first_moved}
use Rattle.tac_pass.proofs.Likeness.{at_place, alike_inside}
use Rattle.tac_pass.proofs.Values.{hold_value, related_there}
use Rattle.tac_pass.proofs.Stepping.{Followed, act_old, act_new, some_follows, reached, ended, fails_follow}

module _ (old new : Code) (p : Setting) (e : Certificate) (same_count : length new.program ≡ length old.program)
    (s s' : State) (c : Claim) (a : Alike e c s s')
    (here : s'.current.place ≡ e.stands s.current.routine s.current.place) where
  abbrev Follow : Bool → Step → Type 0
  Follow b x = Followed old new p e b s s' x

  abbrev old_step : Instruction → Step
  old_step i = act_old old new p e i s

  abbrev new_step : Instruction → Step
  new_step i = act_new old new p e i s'

  jumps_to : (i' : Instruction) (q q' : ℕ) → fetch new s'.current.routine s'.current.place ≡ Some i' → Forgets c
      (e.claims s.current.routine q) → q' ≡ e.starts s.current.routine q → new_step i' ≡ goes_to q' s' → Follow
      (turns_aside (Some i')) (goes_to q s)
  jumps_to i' q q' there f starts x = (
    at_place q' s',
    (
      alike_inside e a q q' s.current.temporaries s'.current.temporaries s.tape s'.tape a.outside.tape
          (inside_forgot e.stands s.current.number a.inside f),
      starts,
    ),
    reached old new p e same_count s s' c a i' there (at_place q' s') x,
  )

  at_here : {o : Option Instruction} → fetch new s.current.routine (e.stands s.current.routine s.current.place) ≡ o
      → fetch new s'.current.routine s'.current.place ≡ o
  at_here f = ap (λ r. fetch new r s'.current.place) a.outside.call.routine ∙ ap (fetch new s.current.routine) here ∙ f

  -- a branch to q, or on to the next place
  branches : (relation : Relation) (u u' : ℕ) (b b' : Operand) (i' : Instruction) (q q' : ℕ)
      → fetch new s.current.routine (e.stands s.current.routine s.current.place) ≡ Some i'
      → Tests old new e s.current.routine s.current.place c u u' b b'
      → Forgets c (e.claims s.current.routine q) → q' ≡ e.starts s.current.routine q
      → ((holds : Bool) → related relation (s'.current.temporaries u') (operand_value s'.current.temporaries b')
      ≡ Some holds → new_step i' ≡ if holds then goes_to q' s' else goes_on s')
      → Follow (turns_aside (Some i')) (with_some
      (related relation (s.current.temporaries u) (operand_value s.current.temporaries b))
      (λ holds. if holds then goes_to q s else goes_on s))
  branches relation u u' b b' i' q q' there t f starts acts =
      some_follows old new p e (turns_aside (Some i')) s s'
      (related relation (s.current.temporaries u) (operand_value s.current.temporaries b)) _ (λ holds is.
      decided holds (acts holds (related_there e a relation u u' b b' t.left t.right ∙ is)))
    where
      decided : (holds : Bool) → new_step i' ≡ (if holds then goes_to q' s' else goes_on s') → Follow
          (turns_aside (Some i')) (if holds then goes_to q s else goes_on s)
      decided true x = jumps_to i' q q' (at_here there) f starts x
      decided false x = jumps_to i' (suc s.current.place) (suc s'.current.place) (at_here there) t.falls.forgets
          (ap suc here ∙ t.falls.starts) x

  pub jumps_follow : (i : Instruction) → Jumps old new e s.current.routine s.current.place c i → Follow
      (turns_aside (Some i)) (old_step i)
  jumps_follow (Jump n) (m, there, arrives) =
      jumps_to (Jump m) (suc s.current.place + n) (suc s'.current.place + m) (at_here there) arrives.forgets
      (ap (λ q. suc q + m) here ∙ arrives.starts) refl
  jumps_follow (JumpBack n) (m, there, arrives) =
      jumps_to (JumpBack m) (s.current.place - n) (s'.current.place - m) (at_here there) arrives.forgets
      (ap (λ q. q - m) here ∙ arrives.starts) refl
  jumps_follow (Branch relation u b n) (u', b', m, there, t, arrives) =
      branches relation u u' b b' (Branch relation u' b' m) (suc s.current.place + n)
      (suc s'.current.place + m) there t arrives.forgets (ap (λ q. suc q + m) here ∙ arrives.starts)
      (λ holds x. ap (λ o. with_some o (λ holds. if holds then goes_to (suc s'.current.place + m) s' else goes_on s'))
      x)
  jumps_follow (BranchBack relation u b n) (u', b', m, there, t, arrives) =
      branches relation u u' b b' (BranchBack relation u' b' m) (s.current.place - n)
      (s'.current.place - m) there t arrives.forgets (ap (λ q. q - m) here ∙ arrives.starts)
      (λ holds x. ap (λ o. with_some o (λ holds. if holds then goes_to (s'.current.place - m) s' else goes_on s')) x)
  jumps_follow (Literal _ _) h = absurd h
  jumps_follow (Copy _ _) h = absurd h
  jumps_follow (Arithmetic _ _ _ _ _ _) h = absurd h
  jumps_follow (Bits _ _ _ _) h = absurd h
  jumps_follow (Compare _ _ _ _) h = absurd h
  jumps_follow (CheckRange _ _ _ _ _) h = absurd h
  jumps_follow (CheckPointer _ _ _) h = absurd h
  jumps_follow (Text _ _) h = absurd h
  jumps_follow (Offset _ _ _ _) h = absurd h
  jumps_follow (Index _ _ _ _ _ _ _ _) h = absurd h
  jumps_follow (RoutineValue _ _) h = absurd h
  jumps_follow (Load _ _ _) h = absurd h
  jumps_follow (Store _ _ _) h = absurd h
  jumps_follow (LoadByte _ _ _) h = absurd h
  jumps_follow (StoreByte _ _ _) h = absurd h
  jumps_follow (Call _ _ _ _) h = absurd h
  jumps_follow (CallValue _ _ _ _) h = absurd h
  jumps_follow (Return _) h = absurd h
  jumps_follow (Trap _ _) h = absurd h
  jumps_follow (Take _) h = absurd h
  jumps_follow (Put _) h = absurd h
  jumps_follow (New _ _ _) h = absurd h
  jumps_follow End h = absurd h

  -- ---- back to the caller

  -- behind a result, at what is claimed where the caller waits
  module _ (v : Value) (w w' : Activation) (cs cs' : List Activation) (f : Living) (fs : List Living)
      (waits : Waits e s.current.result s'.current.result w w' f) where
    abbrev claim : Claim
    claim = e.claims w.routine w.place

    returned_inside : Inside e.stands claim w.number (put w.temporaries s.current.result v)
        (put w'.temporaries s'.current.result (moved e.stands v)) f.words (moved_words e.stands f.words)
    returned_inside = record {
      hold = λ u t h. which u t (waits.hold u t h);
      held = λ k t h. absurd (waits.held k t h);
      size = length-map f.words (moved_word e.stands);
      agree = λ k h. known_map e.stands f.words k;
      written = waits.written;
      away = λ u o h is. (waits.away u o h).1 (sym (put_other w.temporaries s.current.result v u (waits.away u o h).0)
          ∙ is);
      word_away = λ k o h. absurd (waits.word_away k o h);
    }
      where
        which : (u t : ℕ) → ((u ≡ s.current.result) × (t ≡ s'.current.result))
            ⊎ ((u ≢ s.current.result) × (t ≢ s'.current.result)
            × (w'.temporaries t ≡ moved_word e.stands (w.temporaries u)))
            → put w'.temporaries s'.current.result (moved e.stands v) t ≡ moved_word e.stands
            (put w.temporaries s.current.result v u)
        which u t (inl x) =
            holds_here e.stands w.number w.temporaries w'.temporaries s.current.result s'.current.result u t v
            (moved e.stands v) refl x.0 x.1
        which u t (inr x) =
            put_other w'.temporaries s'.current.result (moved e.stands v) t x.1 ∙ x.2 ∙ sym
            (ap (moved_word e.stands) (put_other w.temporaries s.current.result v u x.0))

    named : f ≡ record { number = w.number; words = f.words }
    named = ap (λ n. record { number = n; words = f.words }) waits.own

    returned_memory : a.rest ≡ f ∷ fs → Memories e.stands w.number f.words (moved_words e.stands f.words) fs
        (record s.memory { frames = without_first s.memory.frames; scratch = without_first s.memory.scratch })
        (record s'.memory { frames = without_first s'.memory.frames; scratch = without_first s'.memory.scratch })
    returned_memory r = record {
      frames = ap without_first a.outside.memory.frames ∙ r ∙ ap (λ x. x ∷ fs) named;
      frames' = ap without_first a.outside.memory.frames' ∙ ap (map (moved_living e.stands))
          (r ∙ ap (λ x. x ∷ fs) named);
      scratch = ap without_first a.outside.memory.scratch ∙ first_moved e.stands s.memory.scratch;
      objects = a.outside.memory.objects;
    }

    pub returned : (i' : Instruction) → fetch new s'.current.routine s'.current.place ≡ Some i' → a.rest ≡ f ∷ fs
        → Wait e w.result w'.result cs cs' fs → new_step i' ≡ leave (moved e.stands v) (w' ∷ cs') s' → Follow
        (turns_aside (Some i')) (leave v (w ∷ cs) s)
    returned i' there r wait x =
        let t' = record s' {
          current = record w'
              { temporaries = put w'.temporaries s'.current.result (moved e.stands v) };
          callers = cs';
          memory = record
              s'.memory { frames = without_first s'.memory.frames; scratch = without_first s'.memory.scratch };
        } in (
          t',
          (
            record {
              words = f.words;
              words' = moved_words e.stands f.words;
              rest = fs;
              inside = returned_inside;
              outside = record {
                call = record {
                  routine = waits.call.routine;
                  number = waits.call.number;
                  line = waits.call.line;
                  first = waits.call.first;
                };
                memory = returned_memory r;
                callers = wait;
                count = a.outside.count;
                counted = a.outside.counted;
                heap = a.outside.heap;
                tape = a.outside.tape;
              };
            },
            waits.place,
          ),
          reached old new p e same_count s s' c a i' there t' x,
        )

  leaves_follow : (v : Value) (i' : Instruction) → fetch new s'.current.routine s'.current.place ≡ Some i'
      → (cs ds : List Activation) (fs : List Living) → a.rest ≡ fs → Wait e s.current.result s'.current.result cs ds fs
      → new_step i' ≡ leave (moved e.stands v) ds s'
      → Follow (turns_aside (Some i')) (leave v cs s)
  leaves_follow v i' there [] ds fs r w x = λ live. absurd (live refl)
  leaves_follow v i' there (_ ∷ _) [] fs r w x = absurd w
  leaves_follow v i' there (_ ∷ _) (_ ∷ _) [] r w x = absurd w
  leaves_follow v i' there (b ∷ cs) (d ∷ ds) (f ∷ fs) r w x = returned v b d cs ds f fs w.0 i' there r w.1 x

  pub ends_follow : (i' : Instruction) → fetch new s.current.routine (e.stands s.current.routine s.current.place)
      ≡ Some i' → (i : Instruction) → Ends c i i' → Follow (turns_aside (Some i)) (old_step i)
  ends_follow i' there (Return u) (u', f, h) =
      some_follows old new p e false s s' (s.current.temporaries u) _ (λ v is.
      leaves_follow v (Return u') (at_here there ∙ ap Some f) s.callers s'.callers a.rest refl a.outside.callers
      (ap (λ o. with_some o (λ w. leave w s'.callers s')) (hold_value e a u u' v h is)))
  ends_follow i' there (Trap number line) f =
      fails_follow old new p e same_count s s' c a (Trap number line) (at_here there ∙ ap Some f) number line refl
  ends_follow i' there End f = λ live. ended old new p e same_count s s' c a End (at_here there ∙ ap Some f) Normal refl
  ends_follow i' there (Literal _ _) h = absurd h
  ends_follow i' there (Copy _ _) h = absurd h
  ends_follow i' there (Arithmetic _ _ _ _ _ _) h = absurd h
  ends_follow i' there (Bits _ _ _ _) h = absurd h
  ends_follow i' there (Compare _ _ _ _) h = absurd h
  ends_follow i' there (CheckRange _ _ _ _ _) h = absurd h
  ends_follow i' there (CheckPointer _ _ _) h = absurd h
  ends_follow i' there (Text _ _) h = absurd h
  ends_follow i' there (Offset _ _ _ _) h = absurd h
  ends_follow i' there (Index _ _ _ _ _ _ _ _) h = absurd h
  ends_follow i' there (RoutineValue _ _) h = absurd h
  ends_follow i' there (Load _ _ _) h = absurd h
  ends_follow i' there (Store _ _ _) h = absurd h
  ends_follow i' there (LoadByte _ _ _) h = absurd h
  ends_follow i' there (StoreByte _ _ _) h = absurd h
  ends_follow i' there (Jump _) h = absurd h
  ends_follow i' there (JumpBack _) h = absurd h
  ends_follow i' there (Branch _ _ _ _) h = absurd h
  ends_follow i' there (BranchBack _ _ _ _) h = absurd h
  ends_follow i' there (Call _ _ _ _) h = absurd h
  ends_follow i' there (CallValue _ _ _ _) h = absurd h
  ends_follow i' there (Take _) h = absurd h
  ends_follow i' there (Put _) h = absurd h
  ends_follow i' there (New _ _ _) h = absurd h
