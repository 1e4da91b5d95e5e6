-- Calls: both codes enter one routine, and their callers wait.
use Rattle.std.proofs.Common.{◌≡◌, ◌≢◌, ◌⊎◌, inl, inr, ℕ, suc, ◌+◌, Bool, true, false, not, ◌&&◌, nat_eq, nat_lt}
use Rattle.std.proofs.Common.{if◌then◌else◌, List, ◌∷◌, length, map, slice_get, Some, refl, sym, ap, ◌∙◌, arith}
use Rattle.std.proofs.lemmas.Option.{none-some}
use Rattle.behavior.specs.Endings.{Stack, Stuck}
use Rattle.tac_code.specs.declared.code.Block.TheVariants.{Frame}
use Rattle.tac_code.specs.declared.code.Value.{Value}
use Rattle.tac_code.specs.declared.code.Value.TheVariants.{Address, Routine}
use Rattle.tac_code.specs.declared.code.Instruction.{Instruction}
use Rattle.tac_code.specs.declared.code.Instruction.TheVariants.{Literal, Copy, Arithmetic, Bits, Compare, CheckRange}
use Rattle.tac_code.specs.declared.code.Instruction.TheVariants.{CheckPointer, Text, Offset, Index, RoutineValue, Load}
use Rattle.tac_code.specs.declared.code.Instruction.TheVariants.{Store, LoadByte, StoreByte, Jump, JumpBack, Branch}
use Rattle.tac_code.specs.declared.code.Instruction.TheVariants.{BranchBack, Call, CallValue, Return, Trap, Take, Put}
use Rattle.tac_code.specs.declared.code.Instruction.TheVariants.{New, End}
use Rattle.tac_code.specs.declared.code.TacRoutine.{TacRoutine}
use Rattle.tac_code.specs.Memory.{Living}
use Rattle.tac_code.specs.Meaning.{Code, Activation, State, Step, Goes, Over, fetch, with_some, with_routine, routines}
use Rattle.tac_code.specs.Meaning.{calls, enter, entered, is_full, open_bytes, values_of, unwritten, onward}
use Rattle.tac_code_steps.specs.Turns.{turns_aside}
use Rattle.tac_code_steps.specs.InTurns.{Setting}
use Rattle.tac_pass.specs.Moved.{moved_word, moved_words, moved_living}
use Rattle.tac_pass.specs.Claims.{Claim, Certificate}
use Rattle.tac_pass.specs.Alike.{Inside, Memories, Wait, Alike, Matched}
use Rattle.tac_pass.specs.Rules.{Called, AllHold, Calls}
use Rattle.tac_pass.specs.Follows.{Begins, SameHeading}
use Rattle.tac_pass.proofs.Memories.{all_agree, unwritten_is, unwritten_moved}
use Rattle.tac_pass.proofs.Values.{moved_list, length_moved, get_moved, values_there, bytes_alike, hold_value}
use Rattle.tac_pass.proofs.BelowWords.{BelowWord, AreBelow}
use Rattle.tac_pass.proofs.Below.{values_below, passed_away}
use Rattle.tac_pass.proofs.Stepping.{routine_follows, Followed, act_old, act_new, some_follows, if_follows, reached}
use Rattle.tac_pass.proofs.Stepping.{ended}

module _ (old new : Code) (p : Setting) (e : Certificate) (same_count : length new.program ≡ length old.program)
    (headings : (r : ℕ) (routine : TacRoutine) → slice_get (routines old) r ≡ Some routine → (routine' : TacRoutine)
    × (slice_get (routines new) r ≡ Some routine') × SameHeading routine routine')
    (begins : (r : ℕ) → Begins (e.claims r 0) × (e.starts r 0 ≡ 0)) (s s' : State) (below : AreBelow s) (c : Claim)
    (a : Alike e c s s') (next : suc s'.current.place ≡ e.starts s.current.routine (suc s.current.place)) where
  abbrev c' : Claim
  c' = e.claims s.current.routine (suc s.current.place)

  abbrev Follow : Bool → Step → Type 0
  Follow b x = Followed old new p e b s s' x

  abbrev old_step : Instruction → Step
  old_step i = act_old old new p e i s

  abbrev new_step : Instruction → Step
  new_step i = act_new old new p e i s'

  abbrev callers : List Activation
  callers = onward s.current ∷ s.callers

  abbrev callers' : List Activation
  callers' = onward s'.current ∷ s'.callers

  abbrev frames : List Living
  frames = record { number = s.current.number; words = a.words } ∷ a.rest

  module _ (t t' : ℕ) (g : Called t t' c c') where
    now_wait : Wait e t t' callers callers' frames
    now_wait = (
      record {
        call = record {
          routine = a.outside.call.routine;
          number = a.outside.call.number;
          line = a.outside.call.line;
          first = a.outside.call.first;
        };
        place = next;
        own = refl;
        hold = λ u w h. which u w (g.temporaries u w h);
        held = g.words;
        written = λ k h. a.inside.written k (g.blank k h);
        away = λ u o h. ((g.points u o h).0, a.inside.away u o (g.points u o h).1);
        word_away = g.word_points;
      },
      a.outside.callers,
    )
      where
        which : (u w : ℕ) → ((u ≡ t) × (w ≡ t')) ⊎ ((u ≢ t) × (w ≢ t') × (c.temporaries u ≡ Some w))
            → ((u ≡ t) × (w ≡ t')) ⊎ ((u ≢ t) × (w ≢ t')
            × (s'.current.temporaries w ≡ moved_word e.stands (s.current.temporaries u)))
        which u w (inl x) = inl x
        which u w (inr x) = inr (x.0, x.1, a.inside.hold u w x.2)

    module _ (r line : ℕ) (vs : List Value) (routine routine' : TacRoutine) (h : SameHeading routine routine')
        (all : (k : ℕ) → BelowWord s.count (slice_get vs k)) where
      abbrev begun : State
      begun = entered old p.frames p.objects p.stack p.heap routine r vs t line callers s

      abbrev begun' : State
      begun' = entered new p.frames p.objects p.stack p.heap routine' r (moved_list e.stands vs) t' line callers' s'

      begun_inside : Inside e.stands (e.claims r 0) s.count begun.current.temporaries begun'.current.temporaries
          (unwritten routine.frame) (unwritten routine'.frame)
      begun_inside = record {
        hold = λ u w x. ap (slice_get (moved_list e.stands vs)) ((begins r).0.temporaries u w x)
            ∙ get_moved e.stands vs u;
        held = λ k w x. absurd ((begins r).0.words k w x);
        size = ap (λ n. length (unwritten n)) h.frame;
        agree = λ k x. unwritten_is _ k ∙ sym (ap (moved_word e.stands) (unwritten_is _ k));
        written = λ k x. absurd ((begins r).0.blank k x);
        away = λ u o x is. passed_away s.count o (slice_get vs u) (all u) is;
        word_away = λ k o x is. none-some (Address (Frame s.count) o) (sym (unwritten_is _ k) ∙ is);
      }

      begun_memory : Memories e.stands s.count (unwritten routine.frame)
          (unwritten routine'.frame) frames begun.memory begun'.memory
      begun_memory = record {
        frames = ap (λ fs. record { number = s.count; words = unwritten routine.frame } ∷ fs) a.outside.memory.frames;
        frames' = ap (λ n. record { number = n; words = unwritten routine'.frame } ∷ s'.memory.frames) a.outside.count
            ∙ ap (λ fs. record { number = s.count; words = unwritten routine'.frame } ∷ fs) (a.outside.memory.frames'
            ∙ ap (λ ws. record {
              number = s.current.number;
              words = ws;
            } ∷ map (moved_living e.stands) a.rest)
            (all_agree e.stands a.words a.words' a.inside.size (λ k. a.inside.agree k (g.fresh k))));
        scratch = ap (λ n. record {
          number = n;
          words = unwritten routine'.scratch;
        } ∷ s'.memory.scratch) a.outside.count
            ∙ ap (λ n. record { number = s.count; words = unwritten n } ∷ s'.memory.scratch) h.scratch
            ∙ ap (λ ws. record { number = s.count; words = ws } ∷ s'.memory.scratch) (unwritten_moved e.stands _)
            ∙ ap (λ fs. record {
              number = s.count;
              words = moved_words e.stands (unwritten routine.scratch);
            } ∷ fs) a.outside.memory.scratch;
        objects = a.outside.memory.objects;
      }

      begun_alike : Matched e begun begun'
      begun_alike = (
        record {
          words = unwritten routine.frame;
          words' = unwritten routine'.frame;
          rest = frames;
          inside = begun_inside;
          outside = record {
            call = record {
              routine = refl;
              number = a.outside.count;
              line = refl;
              first = λ x. let l = a.outside.counted in absurd (omega (arith, l, x));
            };
            memory = begun_memory;
            callers = now_wait;
            count = ap suc a.outside.count;
            counted = let l = a.outside.counted in omega (arith, l);
            heap = a.outside.heap;
            tape = a.outside.tape;
          };
        },
        sym (begins r).1,
      )

    -- whether the stack is full
    same_full : (r : ℕ) → is_full new p.frames p.objects p.stack p.heap r callers'
        ≡ is_full old p.frames p.objects p.stack p.heap r callers
    same_full r =
        ap (λ n. nat_lt r n && nat_lt p.stack (p.frames r + open_bytes new p.frames callers')) same_count
        ∙ ap (λ n. nat_lt r (length old.program) && nat_lt p.stack (p.frames r + n))
        (bytes_alike e old new p.frames same_count t t' callers callers' frames now_wait)

    module _ (i' : Instruction) (there : fetch new s'.current.routine s'.current.place ≡ Some i') where
      abbrev entry : List Value → ℕ → ℕ → ℕ → TacRoutine → Bool → Bool → Step
      entry vs r line number routine wrong full =
          if wrong then Over Stuck else if full then Over (Stack number) else Goes
          (entered new p.frames p.objects p.stack p.heap routine r (moved_list e.stands vs) t' line callers' s')

      enters_either : (r line : ℕ) (vs : List Value) (routine routine' : TacRoutine) → SameHeading routine routine'
          → ((k : ℕ) → BelowWord s.count (slice_get vs k)) → (wrong full : Bool) → new_step i'
          ≡ entry vs r line routine.line routine' wrong full
          → Follow (turns_aside (Some i')) (if wrong then Over Stuck else if full then Over (Stack routine.line)
          else Goes (entered old p.frames p.objects p.stack p.heap routine r vs t line callers s))
      enters_either r line vs routine routine' h all true full x = λ live. absurd (live refl)
      enters_either r line vs routine routine' h all false true x = λ live. ended old new p e same_count s s' c a i'
          there (Stack routine.line) x
      enters_either r line vs routine routine' h all false false x = (
        begun' r line vs routine routine' h all,
        begun_alike r line vs routine routine' h all,
        reached old new p e
            same_count s s' c a i' there (begun' r line vs routine routine' h all) x,
      )

      enters_follow : (r line : ℕ) (vs : List Value) → ((k : ℕ) → BelowWord s.count (slice_get vs k)) → new_step i'
          ≡ enter new p.frames p.objects p.stack p.heap r (moved_list e.stands vs) t' line callers' s' → Follow
          (turns_aside (Some i')) (enter old p.frames p.objects p.stack p.heap r vs t line callers s)
      enters_follow r line vs all x =
          some_follows old new p e (turns_aside (Some i')) s s' (slice_get (routines old) r) _
          (λ routine found. with_heading routine (headings r routine found))
        where
          with_heading : (routine : TacRoutine) → (routine' : TacRoutine) × (slice_get (routines new) r ≡ Some routine')
              × SameHeading routine routine'
              → Follow (turns_aside (Some i')) (if not (nat_eq (length vs) routine.parameters) then Over Stuck
              else if is_full old p.frames p.objects p.stack p.heap r callers then Over (Stack routine.line)
              else Goes (entered old p.frames p.objects p.stack p.heap routine r vs t line callers s))
          with_heading routine (routine', found, h) =
              enters_either r line vs routine routine' h all (not (nat_eq (length vs) routine.parameters))
              (is_full old p.frames p.objects p.stack p.heap r callers)
              (x
              ∙ ap (λ o. with_some o (λ routine. entry vs r line routine.line routine
              (not (nat_eq (length (moved_list e.stands vs)) routine.parameters))
              (is_full new p.frames p.objects p.stack p.heap r callers'))) found
              ∙ ap (λ n. entry vs r line routine'.line routine' (not (nat_eq n routine'.parameters))
              (is_full new p.frames p.objects p.stack p.heap r callers')) (length_moved e.stands vs)
              ∙ ap (λ n. entry vs r line routine'.line routine' (not (nat_eq (length vs) n))
              (is_full new p.frames p.objects p.stack p.heap r callers')) h.parameters
              ∙ ap (λ b. entry vs r line routine'.line routine' (not (nat_eq (length vs) routine.parameters)) b)
              (same_full r)
              ∙ ap (λ n. entry vs r line n routine' (not (nat_eq (length vs) routine.parameters))
              (is_full old p.frames p.objects p.stack p.heap r callers)) h.line)

      passes_follow : (r line : ℕ) (operands operands' : List ℕ) → AllHold c operands operands' → new_step i'
          ≡ calls new p.frames p.objects p.stack p.heap t' r operands' line s' → Follow (turns_aside (Some i'))
          (calls old p.frames p.objects p.stack p.heap t r operands line s)
      passes_follow r line operands operands' h x =
          some_follows old new p e (turns_aside (Some i')) s s' (values_of s.current.temporaries operands) _
          (λ vs passed.
          enters_follow r line vs (values_below s.count s.current.temporaries operands vs below.temporaries passed)
          (x ∙ ap (λ o. with_some o (λ vs. enter new p.frames p.objects p.stack p.heap r vs t' line callers' s'))
          (values_there e.stands c s.current.temporaries s'.current.temporaries a.inside.hold operands operands' vs
          h passed)))

  pub calls_follow : (i' : Instruction) → fetch new s'.current.routine s'.current.place ≡ Some i' → (i : Instruction)
      → Calls s.current.routine c c' i i' → Follow (turns_aside (Some i)) (old_step i)
  calls_follow i' there (Call t r operands line) (t', operands', f, h, g) =
      passes_follow t t' g (Call t' r operands' line) (there ∙ ap Some f) r line operands operands' h refl
  calls_follow i' there (CallValue t u operands line) (t', u', operands', f, holds, h, g) =
      routine_follows old new p e true s s' (s.current.temporaries u) _
      (λ r is. if_follows old new p e true s s' (nat_lt r (length old.program)) _ (Over Stuck)
      (λ own. passes_follow t t' g (CallValue t' u' operands' line) (there ∙ ap Some f) r line operands operands' h
      (ap (λ o. with_routine o (λ r. if nat_lt r (length new.program)
      then calls new p.frames p.objects p.stack p.heap t' r operands' line s' else Over Stuck))
      (hold_value e a u u' (Routine r) holds is)
      ∙ ap (λ n. if nat_lt r n then calls new p.frames p.objects p.stack p.heap t' r operands' line s' else Over Stuck)
      same_count
      ∙ ap (λ b. if b then calls new p.frames p.objects p.stack p.heap t' r operands' line s' else Over Stuck) own))
      (λ own live. absurd (live refl)))
  calls_follow i' there (Literal _ _) h = absurd h
  calls_follow i' there (Copy _ _) h = absurd h
  calls_follow i' there (Arithmetic _ _ _ _ _ _) h = absurd h
  calls_follow i' there (Bits _ _ _ _) h = absurd h
  calls_follow i' there (Compare _ _ _ _) h = absurd h
  calls_follow i' there (CheckRange _ _ _ _ _) h = absurd h
  calls_follow i' there (CheckPointer _ _ _) h = absurd h
  calls_follow i' there (Text _ _) h = absurd h
  calls_follow i' there (Offset _ _ _ _) h = absurd h
  calls_follow i' there (Index _ _ _ _ _ _ _ _) h = absurd h
  calls_follow i' there (RoutineValue _ _) h = absurd h
  calls_follow i' there (Load _ _ _) h = absurd h
  calls_follow i' there (Store _ _ _) h = absurd h
  calls_follow i' there (LoadByte _ _ _) h = absurd h
  calls_follow i' there (StoreByte _ _ _) h = absurd h
  calls_follow i' there (Jump _) h = absurd h
  calls_follow i' there (JumpBack _) h = absurd h
  calls_follow i' there (Branch _ _ _ _) h = absurd h
  calls_follow i' there (BranchBack _ _ _ _) h = absurd h
  calls_follow i' there (Return _) h = absurd h
  calls_follow i' there (Trap _ _) h = absurd h
  calls_follow i' there (Take _) h = absurd h
  calls_follow i' there (Put _) h = absurd h
  calls_follow i' there (New _ _ _) h = absurd h
  calls_follow i' there End h = absurd h
