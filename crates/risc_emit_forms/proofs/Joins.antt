-- How an instruction's words are followed: parts joined, up to the next state or a stop.
use Rattle.std.proofs.Common.{◌≡◌, ℕ, zero, suc, ◌≤◌, ◌⊎◌, inl, inr, List, [], ◌∷◌, ◌++◌, Option, Some, None}
use Rattle.std.proofs.Common.{slice_get, refl, sym, ap, ◌∙◌, subst, arith}
use Rattle.behavior.specs.Endings.{Ending}
use Rattle.risc_machine.specs.Step as machine
use Rattle.risc_machine.specs.Exec as run
use Rattle.risc_machine_laws.specs.View.{View, Shows}
use Rattle.risc_machine_laws.specs.Runs.{To, Way, same_tape}
use Rattle.tac_code.specs.declared.code.Instruction.{Instruction}
use Rattle.tac_code.specs.declared.code.TacRoutine.{TacRoutine}
use Rattle.tac_code.specs.Meaning.{routines, body_at, fetch, State}
use Rattle.tac_code.specs.Sound.{IsSoundAt, IsSoundRoutine, limits_of}
use Rattle.risc_emit_relation.specs.Context.{Context, Places}
use Rattle.risc_emit_relation.specs.Related.{Related}
use Rattle.risc_emit_forms.specs.Pieces.{Piece, Left}
use Rattle.risc_emit_forms.specs.Follows.{machine_of, Built, tape_of, with_deferred, Meets, Belongs, Comes, Stops}

pub append_nil : (ps : List Piece) → ps ++ [] ≡ ps
append_nil [] = refl
append_nil (p ∷ ps) = ap (λ l. p ∷ l) (append_nil ps)

pub left_whole : (c : Context) (words : List ℕ) (at next : ℕ) (ps : List Piece) → Left c words at ps next
    → Left c words at (ps ++ []) next
left_whole c words at next ps l = subst (λ q. Left c words at q next) (sym (append_nil ps)) l

-- ---- what is sound

pub get_append : (xs ys : List TacRoutine) (n : ℕ) (x : TacRoutine) → slice_get (xs ++ ys) n ≡ Some x
    → (slice_get xs n ≡ Some x) ⊎ ((m : ℕ) × (slice_get ys m ≡ Some x))
get_append [] ys n x e = inr (n, e)
get_append (y ∷ xs) ys zero x e = inl e
get_append (y ∷ xs) ys (suc n) x e = get_append xs ys n x e

-- from m, in any number of steps, the machine reaches a state that meets s
pub record Arrives (c : Context) (words : List ℕ) (s : State) (m : machine.State) : Type 0 where
  pub to : machine.State
  pub places : Places
  pub view : View
  pub frame : ℕ
  pub shows : Shows words c.size to view
  pub meets : Meets c words places s view frame
  pub runs : (k : ℕ) → (j : ℕ) × (k ≤ j) × (run.exec j m (tape_of s.tape) ≡ run.exec k to (tape_of s.tape))

module _ (c : Context) (words : List ℕ) (b : Built c words) where
  pub sound_routine : (r : ℕ) (routine : TacRoutine) → slice_get (routines c.code) r ≡ Some routine → IsSoundRoutine
      (limits_of c.code routine) routine
  sound_routine r routine e = go (get_append c.code.program c.code.run_time r routine e)
    where
      go : (slice_get c.code.program r ≡ Some routine) ⊎ ((m : ℕ) × (slice_get c.code.run_time m ≡ Some routine))
          → IsSoundRoutine (limits_of c.code routine) routine
      go (inl e) = b.sound.program r routine e
      go (inr e) = b.sound.run_time e.0 routine e.1

  pub record Fetched (r k : ℕ) (i : Instruction) : Type 0 where
    pub routine : TacRoutine
    pub is : slice_get (routines c.code) r ≡ Some routine
    pub body : slice_get routine.body k ≡ Some i
    pub sound : IsSoundAt (limits_of c.code routine) k i

  pub fetched_is : (r k : ℕ) (i : Instruction) → fetch c.code r k ≡ Some i → Fetched r k i
  fetched_is r k i e = go (slice_get (routines c.code) r) refl e
    where
      go : (o : Option TacRoutine) → slice_get (routines c.code) r ≡ o → body_at o k ≡ Some i → Fetched r k i
      go None is e = absurd (cc e)
      go (Some routine) is e =
          record { routine = routine; is = is; body = e; sound = (sound_routine r routine is).body k i e }

  -- ---- parts joined

  pub come_to : (s t : State) (m : machine.State) (g : run.Tape → run.Tape) (v : View) (a : To words c.size m g v) → g
      (tape_of s.tape) ≡ tape_of t.tape → Arrives c words t a.to → Comes c words s t m
  come_to s t m g v a e r =
      record {
        to = r.to;
        places = r.places;
        view = r.view;
        frame = r.frame;
        shows = r.shows;
        meets = r.meets;
        runs = λ k. let x = r.runs k in let y = a.runs x.0 (tape_of s.tape)
            in (y.0, omega (arith, x.1, y.1), y.2 ∙ ap (run.exec x.0 a.to) e ∙ x.2);
      }

  pub come_way : (s t : State) (m : machine.State) (v : View) (a : Way words c.size m same_tape v)
      → Comes c words s t a.to → Comes c words s t m
  come_way s t m v a r =
      record {
        to = r.to;
        places = r.places;
        view = r.view;
        frame = r.frame;
        shows = r.shows;
        meets = r.meets;
        runs = λ k. let x = r.runs k in let y = a.runs x.0 (tape_of s.tape)
            in (y.0, omega (arith, x.1, y.1), y.2 ∙ x.2);
      }

  pub come_step : (s t : State) (m : machine.State) (v : View) (a : To words c.size m same_tape v)
      → Comes c words s t a.to → Comes c words s t m
  come_step s t m v a r =
      record {
        to = r.to;
        places = r.places;
        view = r.view;
        frame = r.frame;
        shows = r.shows;
        meets = r.meets;
        runs = λ k. let x = r.runs k in let y = a.runs x.0 (tape_of s.tape)
            in (y.0, omega (arith, x.1, y.1), y.2 ∙ x.2);
      }

  pub arrive_way : (t : State) (m : machine.State) (v : View) (a : Way words c.size m same_tape v)
      → Arrives c words t a.to → Arrives c words t m
  arrive_way t m v a r =
      record {
        to = r.to;
        places = r.places;
        view = r.view;
        frame = r.frame;
        shows = r.shows;
        meets = r.meets;
        runs = λ k. let x = r.runs k in let y = a.runs x.0 (tape_of t.tape)
            in (y.0, omega (arith, x.1, y.1), y.2 ∙ x.2);
      }

  pub arrive_to : (t : State) (m : machine.State) (v : View) (a : To words c.size m same_tape v)
      → Arrives c words t a.to → Arrives c words t m
  arrive_to t m v a r =
      record {
        to = r.to;
        places = r.places;
        view = r.view;
        frame = r.frame;
        shows = r.shows;
        meets = r.meets;
        runs = λ k. let x = r.runs k in let y = a.runs x.0 (tape_of t.tape)
            in (y.0, omega (arith, x.1, y.1), y.2 ∙ x.2);
      }

  pub arrive_here : (p : Places) (t : State) (m : machine.State) (v : View) (f : ℕ) → Shows words c.size m v
      → Belongs c words p t v f → Arrives c words t m
  arrive_here p t m v f sh be =
      let meets : Meets c words p t v f = record {
        related = subst (λ o. Related c p t (with_deferred o (machine_of v)) f) (sym be.flags.1) be.related;
        place = be.place;
        input = be.input;
        flags = be.flags.0;
      } in
      record { to = m; places = p; view = v; frame = f; shows = sh; meets = meets; runs = λ k. (k, omega arith, refl) }

  pub stop_way : (s : State) (m : machine.State) (e : Ending) (v : View) (a : Way words c.size m same_tape v)
      → Stops c words s a.to e → Stops c words s m e
  stop_way s m e v a r =
      record {
        word = r.word;
        at = r.at;
        view = r.view;
        shows = r.shows;
        is = r.is;
        by = λ k. let x = r.by k in let y = a.runs x.0 (tape_of s.tape) in (y.0, omega (arith, x.1, y.1), y.2 ∙ x.2);
      }

  pub stop_to : (s : State) (m : machine.State) (e : Ending) (v : View) (a : To words c.size m same_tape v)
      → Stops c words s a.to e → Stops c words s m e
  stop_to s m e v a r =
      record {
        word = r.word;
        at = r.at;
        view = r.view;
        shows = r.shows;
        is = r.is;
        by = λ k. let x = r.by k in let y = a.runs x.0 (tape_of s.tape) in (y.0, omega (arith, x.1, y.1), y.2 ∙ x.2);
      }
