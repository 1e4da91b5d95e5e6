-- A certificate that was tested makes a simulation of old code by new.
use Rattle.std.proofs.Common.{◌≡◌, ◌⊎◌, inl, inr, ℕ, suc, ◌+◌, Bool, true, false, not, ◌&&◌, nat_eq, nat_lt}
use Rattle.std.proofs.Common.{if◌then◌else◌, [], ◌∷◌, length, slice_get, Option, Some, None, refl, sym, ap, ◌∙◌, arith}
use Rattle.behavior.specs.Endings.{Stack, Stuck}
use Rattle.std.proofs.lemmas.Option.{none-some}
use Rattle.tac_code.specs.declared.code.Block.TheVariants.{Frame}
use Rattle.tac_code.specs.declared.code.Value.TheVariants.{Address}
use Rattle.tac_code.specs.declared.code.Instruction.{Instruction}
use Rattle.tac_code.specs.declared.code.TacRoutine.{TacRoutine}
use Rattle.tac_code.specs.Meaning.{Code, State, Step, Goes, Over, routines, fetch, act, with_some, unwritten}
use Rattle.tac_code.specs.Run.{before}
use Rattle.tac_code_steps.specs.Turns.{turns_aside}
use Rattle.tac_code_steps.specs.InTurns.{Setting}
use Rattle.tac_pass.specs.Keeps.{Keeps}
use Rattle.tac_pass.specs.Moved.{moved_word}
use Rattle.tac_pass.specs.Claims.{Claim, Certificate}
use Rattle.tac_pass.specs.Alike.{Alike, Matched}
use Rattle.tac_pass.specs.Rules.{Renames, Calls}
use Rattle.tac_pass.specs.Follows.{Checked, Becomes, IsSpared, IsRenamed, Jumps, IsEnding, SameHeading}
use Rattle.tac_pass.proofs.Simulating.{Follows, Simulates, Enters, entry, simulated_is_kept}
use Rattle.tac_pass.proofs.Memories.{unwritten_is, unwritten_moved}
use Rattle.tac_pass.proofs.BelowWords.{AreBelow, unwritten_below}
use Rattle.tac_pass.proofs.Below.{OnGoes, below_follows}
use Rattle.tac_pass.proofs.Stepping.{Followed, act_old}
use Rattle.tac_pass.proofs.StepParts.{texts_move}
use Rattle.tac_pass.proofs.Spared.{spares_follow}
use Rattle.tac_pass.proofs.Steps.{renames_follow}
use Rattle.tac_pass.proofs.Calling.{calls_follow}
use Rattle.tac_pass.proofs.Jumping.{jumps_follow, ends_follow}
use Rattle.tac_pass.proofs.Puts.{behind_puts}

module _ (old new : Code) (e : Certificate) (checked : Checked old new e) (p : Setting) where
  becomes_follow : (s s' : State) → AreBelow s → (i : Instruction) (c : Claim) → Alike e c s s' → s'.current.place
      ≡ e.stands s.current.routine s.current.place
      → IsSpared old new e s.current.routine s.current.place c i
      ⊎ (IsRenamed old new e s.current.routine s.current.place c i
      ⊎ (Jumps old new e s.current.routine s.current.place c i
      ⊎ IsEnding old new e s.current.routine s.current.place c i))
      → Followed old new p e (turns_aside (Some i)) s s' (act_old old new p e i s)
  becomes_follow s s' below i c a here (inl x) =
      spares_follow old new p e checked.program checked.objects (texts_move old new e checked) s s' c a
      (here ∙ x.1) i x.0
  becomes_follow s s' below i c a here (inr (inl x)) = renamed x.renames
    where
      there : fetch new s'.current.routine s'.current.place ≡ Some x.new_one
      there = ap (λ r. fetch new r s'.current.place) a.outside.call.routine ∙ ap (fetch new s.current.routine) here
          ∙ x.there

      renamed : Renames s.current.routine c (e.claims s.current.routine (suc s.current.place)) i x.new_one
          ⊎ Calls s.current.routine c (e.claims s.current.routine (suc s.current.place)) i x.new_one
          → Followed old new p e (turns_aside (Some i)) s s' (act_old old new p e i s)
      renamed (inl y) =
          renames_follow old new p e checked.program checked.objects
          (texts_move old new e checked) s s' c a x.new_one there (ap suc here ∙ x.onwards) here i y
      renamed (inr y) = calls_follow old new p e checked.program checked.headings checked.begins s s' below c a
          (ap suc here ∙ x.onwards) x.new_one there i y
  becomes_follow s s' below i c a here (inr (inr (inl x))) = jumps_follow old new p e checked.program s s' c a here i x
  becomes_follow s s' below i c a here (inr (inr (inr x))) = ends_follow old new p e checked.program s s' c a here
      x.new_one x.there i x.ends

  place_follows : (s s' : State) → AreBelow s → Matched e s s' → (i : Instruction)
      → Becomes old new e s.current.routine s.current.place i → Followed old new p e (turns_aside (Some i)) s s'
      (act_old old new p e i s)
  place_follows s s' below m i b =
      let puts = behind_puts old new p e s b.number (e.claims s.current.routine s.current.place) b.claim s'
      (e.starts s.current.routine s.current.place) (e.stands s.current.routine s.current.place) m.0 m.1 b.comes in
      puts.back (turns_aside (Some i)) (act_old old new p e i s)
      (becomes_follow s puts.s2 below i b.claim puts.alike puts.place b.becomes)

  step_follows : (s s' : State) → AreBelow s → Matched e s s' → (o : Option Instruction)
      → fetch old s.current.routine s.current.place ≡ o → Follows old new p (Matched e) (turns_aside o) s s'
      (act old p.frames p.objects p.stack p.heap o s)
  step_follows s s' below m None f = λ live. absurd (live refl)
  step_follows s s' below m (Some i) f = place_follows s s' below m i
      (checked.becomes s.current.routine s.current.place i f)

  -- matched, where the old state names no frame that there has not been
  abbrev R : State → State → Type 0
  R s s' = Matched e s s' × AreBelow s

  both_follow : (b : Bool) (s s' : State) (x : Step) → Followed old new p e b s s' x → OnGoes AreBelow x
      → Follows old new p R b s s' x
  both_follow b s s' (Goes t) f below = (f.0, (f.1, below), f.2)
  both_follow b s s' (Over x) f below = f

  simulates : Simulates old new p R
  simulates = record {
    told = λ s s' m. ap (λ tape. tape.transcript) m.0.0.outside.tape;
    steps = λ s s' m. let o = fetch old s.current.routine s.current.place in
        both_follow (turns_aside o) s s' (act old p.frames p.objects p.stack p.heap o s)
        (step_follows s s' m.1 m.0 o refl) (below_follows old p.frames p.objects p.stack p.heap s m.1 o);
  }

  -- ---- the entry of the program block

  -- the state behind the entry of a program block with blocks of so many bytes
  abbrev opened : (frame scratch : ℕ) → State
  opened frame scratch =
      record {
        current = record {
          routine = 0;
          place = 0;
          number = 0;
          temporaries = λ t. slice_get [] t;
          result = 0;
          line = 0;
        };
        callers = [];
        memory = record {
          frames = record {
            number = 0;
            words = unwritten frame;
          } ∷ [];
          scratch = record {
            number = 0;
            words = unwritten scratch;
          } ∷ [];
          objects = [];
        };
        count = 1;
        heap = 0;
        tape = (before p.input).tape;
      }

  entered_alike : (frame scratch : ℕ) → Matched e (opened frame scratch) (opened frame scratch)
  entered_alike frame scratch = (
    record {
      words = unwritten frame;
      words' = unwritten frame;
      rest = [];
      inside = record {
        hold = λ u t h. refl;
        held = λ k t h. absurd ((checked.begins 0).0.words k t h);
        size = refl;
        agree = λ k h. unwritten_is _ k ∙ sym (ap (moved_word e.stands) (unwritten_is _ k));
        written = λ k h. absurd ((checked.begins 0).0.blank k h);
        away = λ u o h is. none-some (Address (Frame 0) o) is;
        word_away = λ k o h is. none-some (Address (Frame 0) o) (sym (unwritten_is _ k) ∙ is);
      };
      outside = record {
        call = record { routine = refl; number = refl; line = refl; first = λ x. refl };
        memory = record {
          frames = refl;
          frames' = refl;
          scratch = ap (λ words. record { number = 0; words = words } ∷ []) (unwritten_moved e.stands _);
          objects = refl;
        };
        callers = tt;
        count = refl;
        counted = omega arith;
        heap = refl;
        tape = refl;
      };
    },
    sym (checked.begins 0).1,
  )

  opened_below : (frame scratch : ℕ) → AreBelow (opened frame scratch)
  opened_below frame scratch = record {
    number = omega arith;
    temporaries = λ u. tt;
    callers = tt;
    memory = record { frames = (unwritten_below 1 frame, tt); scratch = (unwritten_below 1 scratch, tt); objects = tt };
  }

  abbrev EntersBy : Step → Step → Type 0
  EntersBy x y = Enters old new p R simulates x y

  enters_either : (wrong full : Bool) (line frame scratch : ℕ) (y : Step) → y
      ≡ (if wrong then Over Stuck else if full then Over (Stack line) else Goes (opened frame scratch))
      → EntersBy (if wrong then Over Stuck else if full then Over (Stack line) else Goes (opened frame scratch)) y
  enters_either true full line frame scratch y f = λ live. absurd (live refl)
  enters_either false true line frame scratch y f = λ live. f
  enters_either false false line frame scratch y f =
      (opened frame scratch, f, (entered_alike frame scratch, opened_below frame scratch))

  abbrev is_full_at : ℕ → Bool
  is_full_at count = nat_lt 0 count && nat_lt p.stack (p.frames 0 + 0)

  abbrev entered_by : (count parameters frame scratch line : ℕ) → Step
  entered_by count parameters frame scratch line =
      if not (nat_eq 0 parameters) then Over Stuck else if is_full_at count then Over (Stack line) else Goes
      (opened frame scratch)

  enters_found : (o : Option TacRoutine) → slice_get (routines old) 0 ≡ o → EntersBy
      (with_some o (λ r. entered_by (length old.program) r.parameters r.frame r.scratch r.line))
      (entry old new p R simulates new)
  enters_found None f = λ live. absurd (live refl)
  enters_found (Some r) f = found (checked.headings 0 r f)
    where
      found : (r' : TacRoutine) × (slice_get (routines new) 0 ≡ Some r') × SameHeading r r' → EntersBy
          (entered_by (length old.program) r.parameters r.frame r.scratch r.line) (entry old new p R simulates new)
      found (r', there, h) =
          enters_either (not (nat_eq 0 r.parameters)) (is_full_at (length old.program)) r.line r.frame r.scratch
          (entry old new p R simulates new)
          (ap (λ o. with_some o (λ r. entered_by (length new.program) r.parameters r.frame r.scratch r.line)) there
          ∙ ap (λ n. entered_by n r'.parameters r'.frame r'.scratch r'.line) checked.program
          ∙ ap (λ n. entered_by (length old.program) n r'.frame r'.scratch r'.line) h.parameters
          ∙ ap (λ n. entered_by (length old.program) r.parameters n r'.scratch r'.line) h.frame
          ∙ ap (λ n. entered_by (length old.program) r.parameters r.frame n r'.line) h.scratch
          ∙ ap (λ n. entered_by (length old.program) r.parameters r.frame r.scratch n) h.line)

pub checked_keeps : (old new : Code) (e : Certificate) → Checked old new e → Keeps old new
checked_keeps old new e checked =
    simulated_is_kept old new (R old new e checked)
    (λ p. (simulates old new e checked p, enters_found old new e checked p (slice_get (routines old) 0) refl))
