-- Code in which tests that can't fail have the number 0 runs as the code does that it was made from.
use Rattle.std.proofs.Common.{◌≡◌, ℕ, zero, suc, not, Bool, true, false, nat_eq, if◌then◌else◌, List, []}
use Rattle.std.proofs.Common.{◌∷◌, ◌++◌, length, slice_get, Option, Some, None, refl, sym, ap, ◌∙◌, subst, arith}
use Rattle.std.proofs.Math.Path.{fun_ext}
use Rattle.std.proofs.lemmas.Option.{none-some}
use Rattle.behavior.specs.Endings.{Stack, Stuck}
use Rattle.tac_code.specs.declared.code.Instruction.{Instruction}
use Rattle.tac_code.specs.declared.code.TacRoutine.{TacRoutine}
use Rattle.tac_code.specs.Meaning.{Code, Temporaries, State, Step, Goes, Over, routines, body_at, fetch, text_of}
use Rattle.tac_code.specs.Meaning.{text_at, act, enter, with_some, is_full, entered}
use Rattle.tac_code.specs.Run.{before}
use Rattle.tac_code_steps.specs.Turns.{turns_aside}
use Rattle.tac_code_steps.specs.InTurns.{Setting}
use Rattle.tac_pass.specs.Keeps.{Keeps}
use Rattle.tac_pass.specs.Follows.{SameHeading}
use Rattle.tac_pass.proofs.Below.{OnGoes}
use Rattle.tac_pass.proofs.Simulating.{aside, step_in, Reaches, Ends, goes, ends, Follows, Simulates, Enters, entry}
use Rattle.tac_pass.proofs.Simulating.{simulated_is_kept}
use Rattle.tac_known.specs.declared.kind.Kind.{Kind}
use Rattle.tac_known.specs.declared.kind.Kind.TheVariants.{Unknown}
use Rattle.tac_known.specs.Kinds.{kind_in}
use Rattle.tac_known.specs.declared.order.Orders.{Orders}
use Rattle.tac_known.specs.Orders.{AreOrdered, no_orders, say_all, OrdersLead}
use Rattle.tac_known.specs.Lean.{lean, Leads, IsLean}
use Rattle.tac_known.proofs.Holding.{nothing_holds}
use Rattle.tac_known.proofs.Acts.{lean_text, lean_turns, acts_alike, enter_alike}
use Rattle.tac_known.proofs.Goes.{IsKnown, known_follows}
use Rattle.tac_known.proofs.OrdersImplied.{nothing_ordered}
use Rattle.tac_known.proofs.OrdersGo.{AreKnown, orders_follow}

-- ---- lists of one length

past : {X : Type 0} (xs ys : List X) (i : ℕ) → length ys ≡ length xs → slice_get xs i ≡ None → slice_get ys i ≡ None
past xs [] i e n = refl
past [] (y ∷ ys) i e n = absurd (omega (arith, e))
past (x ∷ xs) (y ∷ ys) zero e n = absurd (none-some x (sym n))
past (x ∷ xs) (y ∷ ys) (suc i) e n = past xs ys i (omega (arith, e)) n

as_long : {X : Type 0} (us vs xs ys : List X) → length xs ≡ length us → length ys ≡ length vs →
    length (xs ++ ys) ≡ length
    (us ++ vs)
as_long [] vs [] ys e f = f
as_long [] vs (x ∷ xs) ys e f = absurd (omega (arith, e))
as_long (u ∷ us) vs [] ys e f = absurd (omega (arith, e))
as_long (u ∷ us) vs (x ∷ xs) ys e f = ap suc (as_long us vs xs ys (omega (arith, e)) f)

module _ (old new : Code) (made : IsLean old new) where
  -- ---- what is known at a place of a routine

  abbrev claims_of : (r : ℕ) (o : Option TacRoutine) → slice_get (routines old) r ≡ o → ℕ → List Kind
  claims_of r None e place = []
  claims_of r (Some routine) e place = (made.routines r routine e).2.body.at place

  abbrev claims : ℕ → ℕ → List Kind
  claims r place = claims_of r (slice_get (routines old) r) refl place

  abbrev orders_of : (r : ℕ) (o : Option TacRoutine) → slice_get (routines old) r ≡ o → ℕ → Orders
  orders_of r None e place = no_orders
  orders_of r (Some routine) e place = (made.routines r routine e).2.body.ord place

  abbrev orders : ℕ → ℕ → Orders
  orders r place = orders_of r (slice_get (routines old) r) refl place

  unordered_of : (r : ℕ) (o : Option TacRoutine) (e : slice_get (routines old) r ≡ o) → say_all no_orders
      (orders_of r o e 0) ≡ true
  unordered_of r None e = refl
  unordered_of r (Some routine) e = (made.routines r routine e).2.body.unordered

  unordered : (r : ℕ) (ts : Temporaries) → AreOrdered ts (orders r 0)
  unordered r ts = nothing_ordered ts (orders r 0) (unordered_of r (slice_get (routines old) r) refl)

  begins_of : (r u : ℕ) (o : Option TacRoutine) (e : slice_get (routines old) r ≡ o) → kind_in (claims_of r o e 0) u
      ≡ Unknown
  begins_of r u None e = refl
  begins_of r u (Some routine) e = (made.routines r routine e).2.body.begins u

  begins : (r u : ℕ) → kind_in (claims r 0) u ≡ Unknown
  begins r u = begins_of r u (slice_get (routines old) r) refl

  there_of : (r place : ℕ) (i : Instruction) (o : Option TacRoutine) (e : slice_get (routines old) r ≡ o)
      → body_at o place ≡ Some i → fetch new r place ≡ Some (lean (claims_of r o e place) i)
  there_of r place i None e f = absurd (none-some i f)
  there_of r place i (Some routine) e f =
      let m = made.routines r routine e in ap (λ o. body_at o place) m.1 ∙ m.2.body.there place i f

  there : (r place : ℕ) (i : Instruction) → fetch old r place ≡ Some i → fetch new r place ≡ Some
      (lean (claims r place) i)
  there r place i f = there_of r place i (slice_get (routines old) r) refl f

  leads_of : (r place : ℕ) (i : Instruction) (o : Option TacRoutine) (e : slice_get (routines old) r ≡ o)
      → body_at o place ≡ Some i → Leads (claims_of r o e) (orders_of r o e place) place i
  leads_of r place i None e f = absurd (none-some i f)
  leads_of r place i (Some routine) e f = (made.routines r routine e).2.body.leads place i f

  leads : (r place : ℕ) (i : Instruction) → fetch old r place ≡ Some i → Leads (claims r) (orders r place) place i
  leads r place i f = leads_of r place i (slice_get (routines old) r) refl f

  orders_lead_of : (r place : ℕ) (i : Instruction) (o : Option TacRoutine) (e : slice_get (routines old) r ≡ o)
      → body_at o place ≡ Some i → OrdersLead (claims_of r o e) (orders_of r o e) place i
  orders_lead_of r place i None e f = absurd (none-some i f)
  orders_lead_of r place i (Some routine) e f = (made.routines r routine e).2.body.orders_lead place i f

  orders_lead : (r place : ℕ) (i : Instruction) → fetch old r place ≡ Some i → OrdersLead (claims r) (orders r) place i
  orders_lead r place i f = orders_lead_of r place i (slice_get (routines old) r) refl f

  -- ---- no routine, and no instruction

  absent : (r : ℕ) → slice_get (routines old) r ≡ None → slice_get (routines new) r ≡ None
  absent r e =
      past (routines old) (routines new) r
      (as_long old.program old.run_time new.program new.run_time made.program made.run_time) e

  nowhere_of : (r place : ℕ) (o : Option TacRoutine) → slice_get (routines old) r ≡ o → body_at o place ≡ None →
      fetch new
      r place ≡ None
  nowhere_of r place None e f = ap (λ o. body_at o place) (absent r e)
  nowhere_of r place (Some routine) e f =
      let m = made.routines r routine e in
      ap (λ o. body_at o place) m.1 ∙ past routine.body (m.0).body place m.2.body.as_many f

  nowhere : (r place : ℕ) → fetch old r place ≡ None → fetch new r place ≡ None
  nowhere r place f = nowhere_of r place (slice_get (routines old) r) refl f

  text_of_place : (r place : ℕ) (o : Option Instruction) → fetch old r place ≡ o → text_at new r place ≡ text_of o
  text_of_place r place None f = ap text_of (nowhere r place f)
  text_of_place r place (Some i) f = ap text_of (there r place i f) ∙ lean_text (claims r place) i

  texts : text_at new ≡ text_at old
  texts = fun_ext (λ r. fun_ext (λ place. text_of_place r place (fetch old r place) refl))

  headings : (r : ℕ) (routine : TacRoutine) → slice_get (routines old) r ≡ Some routine → (routine' : TacRoutine)
      × (slice_get (routines new) r ≡ Some routine') × SameHeading routine routine'
  headings r routine e = let m = made.routines r routine e in (m.0, m.1, m.2.heading)

  -- ---- the runs

  module _ (p : Setting) where
    -- the states are one, and what is known is true
    record AllKnown (s : State) : Type 0 where
      kinds : IsKnown claims s
      ordered : AreKnown orders s

    all_known : (x : Step) → OnGoes (IsKnown claims) x → OnGoes (AreKnown orders) x → OnGoes AllKnown x
    all_known (Goes t) k o = record { kinds = k; ordered = o }
    all_known (Over ending) k o = tt

    abbrev R : State → State → Type 0
    R s s' = (s' ≡ s) × AllKnown s

    abbrev Followed : Bool → State → State → Step → Type 0
    Followed b s s' x = Follows old new p R b s s' x

    follows : (b : Bool) (s : State) → aside new p s ≡ b → (x : Step) → step_in new p s ≡ x → OnGoes AllKnown x
        → Followed b s s x
    follows b s e (Goes t) f known = (t, (refl, known), subst (λ b. Reaches new p b s t) e (goes new p s t f))
    follows b s e (Over ending) f known =
        λ live. subst (λ b. Ends new p b s (s.tape.transcript, ending)) e (ends new p s ending f)

    place_follows : (s : State) → AllKnown s → (o : Option Instruction) → fetch old s.current.routine s.current.place
        ≡ o → Followed (turns_aside o) s s (act old p.frames p.objects p.stack p.heap o s)
    place_follows s known None f = λ live. absurd (live refl)
    place_follows s known (Some i) f =
        let ks = claims s.current.routine s.current.place in
        let at = there s.current.routine s.current.place i f in
        follows (turns_aside (Some i)) s (ap turns_aside at ∙ lean_turns ks i)
        (act old p.frames p.objects p.stack p.heap (Some i) s)
        (ap (λ o. act new p.frames p.objects p.stack p.heap o s) at
        ∙ acts_alike old new made.program made.objects texts headings absent p.frames p.objects p.stack p.heap s ks
        known.kinds.here i)
        (all_known (act old p.frames p.objects p.stack p.heap (Some i) s)
        (known_follows claims begins old p.frames p.objects p.stack p.heap s known.kinds
        (orders s.current.routine s.current.place) known.ordered.here i (leads s.current.routine s.current.place i f))
        (orders_follow orders unordered old p.frames p.objects p.stack p.heap s known.ordered
        (claims s.current.routine) known.kinds.here i (orders_lead s.current.routine s.current.place i f)))

    both : (s s' : State) → R s s' → Followed (aside old p s) s s' (step_in old p s)
    both s s' (same, known) =
        subst (λ s'. Followed (aside old p s) s s' (step_in old p s)) (sym same)
        (place_follows s known (fetch old s.current.routine s.current.place) refl)

    simulates : Simulates old new p R
    simulates = record { told = λ s s' r. ap (λ (s : State). s.tape.transcript) r.0; steps = both }

    -- ---- the entry of the program block

    abbrev entry_in : Code → Step
    entry_in code = enter code p.frames p.objects p.stack p.heap 0 [] 0 0 [] (before p.input)

    entries : entry_in new ≡ entry_in old
    entries =
        enter_alike old new made.program made.objects texts headings absent p.frames p.objects p.stack p.heap
        (before p.input) 0 [] 0 0 []

    entered_known : (x : Step) → entry_in old ≡ x → OnGoes AllKnown x
    entered_known x e = subst (OnGoes AllKnown) e (found (slice_get (routines old) 0))
      where
        opened : (b : Bool) (x y : Step) → OnGoes AllKnown x → OnGoes AllKnown y
            → OnGoes AllKnown (if b then x else y)
        opened true x y f g = f
        opened false x y f g = g

        found : (o : Option TacRoutine) → OnGoes AllKnown (with_some o (λ routine.
            if not (nat_eq 0 routine.parameters) then Over Stuck
            else if is_full old p.frames p.objects p.stack p.heap 0 [] then Over (Stack routine.line)
            else Goes (entered old p.frames p.objects p.stack p.heap routine 0 [] 0 0 [] (before p.input))))
        found None = tt
        found (Some routine) =
            opened (not (nat_eq 0 routine.parameters)) (Over Stuck) _ tt
            (opened (is_full old p.frames p.objects p.stack p.heap 0 []) (Over (Stack routine.line)) _ tt (record {
              kinds = record {
                here = nothing_holds (claims 0 0) (λ t. slice_get [] t) (begins 0);
                callers = tt;
              };
              ordered = record { here = unordered 0 (λ t. slice_get [] t); callers = tt };
            }))

    enters : (x : Step) → entry_in old ≡ x → Enters old new p R simulates x (entry_in new)
    enters (Goes t) e = (t, entries ∙ e, (refl, entered_known (Goes t) e))
    enters (Over ending) e = λ live. entries ∙ e

pub lean_keeps : (old new : Code) → IsLean old new → Keeps old new
lean_keeps old new made =
    simulated_is_kept old new (R old new made)
    (λ p. (
      simulates old new made p,
      enters old new made p (entry old new p (R old new made p)
          (simulates old new made p) old) refl,
    ))
