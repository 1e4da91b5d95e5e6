-- Each step of the old code is followed by the new code's, by the rules: what all steps have in common.
use Rattle.std.proofs.Common.{◌≡◌, ℕ, suc, ℤ, pos, negsuc, Bool, true, false, nat_lt, if◌then◌else◌, length}
use Rattle.std.proofs.Common.{slice_get, Option, Some, None, refl, ap, ◌∙◌, subst}
use Rattle.behavior.specs.Endings.{Ending, Stuck}
use Rattle.tac_code.specs.declared.code.Block.{Block}
use Rattle.tac_code.specs.declared.code.Value.{Value}
use Rattle.tac_code.specs.declared.code.Value.TheVariants.{Number, Address, Routine}
use Rattle.tac_code.specs.declared.code.Instruction.{Instruction}
use Rattle.tac_code.specs.Numbers.{Computed, Gives, Fails}
use Rattle.tac_code.specs.Memory.{known}
use Rattle.tac_code.specs.Meaning.{Code, State, Step, Goes, Over, fetch, act, put, with_some, with_number}
use Rattle.tac_code.specs.Meaning.{with_address, with_routine, with_byte_value, open_calls, fails, gives, test_ending}
use Rattle.tac_code.specs.Meaning.{gives_address, gives_computed, checks, goes_on}
use Rattle.tac_code.specs.declared.code.TheConstants.{BLOCK_LIMIT}
use Rattle.tac_code_steps.specs.Turns.{turns_aside}
use Rattle.tac_code_steps.specs.InTurns.{Setting}
use Rattle.tac_pass.specs.Moved.{moved_block, moved}
use Rattle.tac_pass.specs.Claims.{Claim, Certificate}
use Rattle.tac_pass.specs.Alike.{Alike, Matched}
use Rattle.tac_pass.specs.Rules.{Forgets, Gave, None_of_them, Elsewhere}
use Rattle.tac_pass.proofs.Simulating.{Reaches, Ends, goes, ends, Follows}
use Rattle.tac_pass.proofs.Inside.{NotThere, inside_forgot, inside_gave}
use Rattle.tac_pass.proofs.Likeness.{at_place, given, alike_inside}
use Rattle.tac_pass.proofs.Values.{elsewhere, open_alike}

module _ (old new : Code) (p : Setting) (e : Certificate) where
  abbrev pub Followed : Bool → State → State → Step → Type 0
  Followed b s s' x = Follows old new p (Matched e) b s s' x

  abbrev pub act_old : Instruction → State → Step
  act_old i s = act old p.frames p.objects p.stack p.heap (Some i) s

  abbrev pub act_new : Instruction → State → Step
  act_new i s = act new p.frames p.objects p.stack p.heap (Some i) s

  pub some_follows : {A : Type 0} (b : Bool) (s s' : State) (o : Option A) (go : A → Step)
      → ((x : A) → o ≡ Some x → Followed b s s' (go x)) → Followed b s s' (with_some o go)
  some_follows b s s' None go h = λ live. absurd (live refl)
  some_follows b s s' (Some x) go h = h x refl

  pub number_follows : (b : Bool) (s s' : State) (o : Option Value) (go : ℤ → Step)
      → ((x : ℤ) → o ≡ Some (Number x) → Followed b s s' (go x)) → Followed b s s' (with_number o go)
  number_follows b s s' None go h = λ live. absurd (live refl)
  number_follows b s s' (Some (Number x)) go h = h x refl
  number_follows b s s' (Some (Address block offset)) go h = λ live. absurd (live refl)
  number_follows b s s' (Some (Routine r)) go h = λ live. absurd (live refl)

  pub address_follows : (b : Bool) (s s' : State) (o : Option Value) (go : Block → ℕ → Step)
      → ((block : Block) (offset : ℕ) → o ≡ Some (Address block offset) → Followed b s s' (go block offset))
      → Followed b s s' (with_address o go)
  address_follows b s s' None go h = λ live. absurd (live refl)
  address_follows b s s' (Some (Number x)) go h = λ live. absurd (live refl)
  address_follows b s s' (Some (Address block offset)) go h = h block offset refl
  address_follows b s s' (Some (Routine r)) go h = λ live. absurd (live refl)

  pub routine_follows : (b : Bool) (s s' : State) (o : Option Value) (go : ℕ → Step)
      → ((r : ℕ) → o ≡ Some (Routine r) → Followed b s s' (go r)) → Followed b s s' (with_routine o go)
  routine_follows b s s' None go h = λ live. absurd (live refl)
  routine_follows b s s' (Some (Number x)) go h = λ live. absurd (live refl)
  routine_follows b s s' (Some (Address block offset)) go h = λ live. absurd (live refl)
  routine_follows b s s' (Some (Routine r)) go h = h r refl

  pub if_follows : (b : Bool) (s s' : State) (holds : Bool) (x y : Step) → (holds ≡ true → Followed b s s' x)
      → (holds ≡ false → Followed b s s' y) → Followed b s s' (if holds then x else y)
  if_follows b s s' true x y f g = f refl
  if_follows b s s' false x y f g = g refl

  pub byte_follows : (b : Bool) (s s' : State) (z : ℤ) (go : ℕ → Step)
      → ((n : ℕ) → z ≡ pos n → nat_lt n 256 ≡ true → Followed b s s' (go n)) → Followed b s s' (with_byte_value z go)
  byte_follows b s s' (pos n) go h = if_follows b s s' (nat_lt n 256) (go n) (Over Stuck) (λ x. h n refl x)
      (λ x live. absurd (live refl))
  byte_follows b s s' (negsuc n) go h = λ live. absurd (live refl)

  module _ (same_count : length new.program ≡ length old.program) (s s' : State) (c : Claim) (a : Alike e c s s')
      (i' : Instruction) (there : fetch new s'.current.routine s'.current.place ≡ Some i') where
    pub reached : (t' : State) → act_new i' s' ≡ Goes t' → Reaches new p (turns_aside (Some i')) s' t'
    reached t' f =
        subst (λ b. Reaches new p b s' t') (ap turns_aside there)
        (goes new p s' t' (ap (λ o. act new p.frames p.objects p.stack p.heap o s') there ∙ f))

    pub ended : (x : Ending) → act_new i' s' ≡ Over x → Ends new p (turns_aside (Some i')) s' (s.tape.transcript, x)
    ended x f =
        subst (λ tape. Ends new p (turns_aside (Some i')) s' (tape.transcript, x)) a.outside.tape
        (subst (λ b. Ends new p b s' (s'.tape.transcript, x)) (ap turns_aside there)
        (ends new p s' x (ap (λ o. act new p.frames p.objects p.stack p.heap o s') there ∙ f)))

    failed_alike : (number line : ℕ) → fails new number line s' ≡ fails old number line s
    failed_alike number line =
        ap (λ n. Over (test_ending number line (open_calls n s'.current s'.callers))) same_count
        ∙ ap (λ calls. Over (test_ending number line calls))
        (open_alike e (length old.program) s.current.result s'.current.result s.current s'.current s.callers
        s'.callers a.rest a.outside.call.routine a.outside.call.line a.outside.callers)

    pub fails_follow : (number line : ℕ) → act_new i' s' ≡ fails new number line s' → Followed
        (turns_aside (Some i')) s s' (fails old number line s)
    fails_follow number line f = λ live. ended _ (f ∙ failed_alike number line)

    module _ (next : suc s'.current.place ≡ e.starts s.current.routine (suc s.current.place)) where
      abbrev c' : Claim
      c' = e.claims s.current.routine (suc s.current.place)

      pub gives_follow : (t t' : ℕ) (Word Away : ℕ → Type 0) (v v' : Value) → v' ≡ moved e.stands v
          → ((k : ℕ) → Word k → known (slice_get a.words k) ≡ Some v) → NotThere s.current.number Away v
          → Gave t t' Word Away c c'
          → act_new i' s' ≡ gives t' v' s' → Followed (turns_aside (Some i')) s s' (gives t v s)
      gives_follow t t' Word Away v v' is word not g f = (
        given t' v' s',
        (
          alike_inside e a (suc s.current.place) (suc s'.current.place) (put s.current.temporaries t v)
              (put s'.current.temporaries t' v') s.tape s'.tape a.outside.tape
              (inside_gave e.stands s.current.number a.inside t t' Word Away v v' is word not g),
          next,
        ),
        reached (given t' v' s') f,
      )

      -- a value that no word is known to hold
      pub given_follows : (t t' : ℕ) (Away : ℕ → Type 0) (v v' : Value) → v' ≡ moved e.stands v
          → NotThere s.current.number Away v → Gave t t' None_of_them Away c c' → act_new i' s' ≡ gives t' v' s'
          → Followed (turns_aside (Some i')) s s' (gives t v s)
      given_follows t t' Away v v' is not g f = gives_follow t t' None_of_them Away v v' is (λ k x. absurd x) not g f

      pub number_given : (t t' : ℕ) (z : ℤ) → Gave t t' None_of_them Elsewhere c c' → act_new i' s' ≡ gives t'
          (Number z) s' → Followed (turns_aside (Some i')) s s' (gives t (Number z) s)
      number_given t t' z g f = given_follows t t' Elsewhere (Number z) (Number z) refl
          (elsewhere s.current.number (Number z) refl) g f

      pub address_given : (t t' : ℕ) (Away : ℕ → Type 0) (block : Block) (o : ℕ) → NotThere s.current.number Away
          (Address block o) → Gave t t' None_of_them Away c c' → act_new i' s' ≡ gives_address t'
          (moved_block e.stands block) o s'
          → Followed (turns_aside (Some i')) s s' (gives_address t block o s)
      address_given t t' Away block o not g f = which (nat_lt o BLOCK_LIMIT) f
        where
          which : (b : Bool) → act_new i' s' ≡ (if b then gives t' (Address (moved_block e.stands block) o) s'
              else Over Stuck) → Followed (turns_aside (Some i')) s s'
              (if b then gives t (Address block o) s else Over Stuck)
          which true f = given_follows t t' Away (Address block o) (Address (moved_block e.stands block) o) refl not g f
          which false f = λ live. absurd (live refl)

      pub goes_follow : Forgets c c' → act_new i' s' ≡ goes_on s' → Followed (turns_aside (Some i')) s s' (goes_on s)
      goes_follow g f = (
        at_place (suc s'.current.place) s',
        (
          alike_inside e a (suc s.current.place) (suc s'.current.place) s.current.temporaries s'.current.temporaries
              s.tape s'.tape a.outside.tape (inside_forgot e.stands s.current.number a.inside g),
          next,
        ),
        reached (at_place (suc s'.current.place) s') f,
      )

      pub computed_follow : (t t' : ℕ) (x : Computed) (line : ℕ) → Gave t t' None_of_them Elsewhere c c' → act_new i' s'
          ≡ gives_computed new t' x line s' → Followed (turns_aside (Some i')) s s' (gives_computed old t x line s)
      computed_follow t t' (Gives z) line g f = number_given t t' z g f
      computed_follow t t' (Fails number) line g f = fails_follow number line f

      pub checks_follow : (b : Bool) (number line : ℕ) → Forgets c c' → act_new i' s' ≡ checks new b number line s'
          → Followed (turns_aside (Some i')) s s' (checks old b number line s)
      checks_follow true number line g f = goes_follow g f
      checks_follow false number line g f = fails_follow number line f
