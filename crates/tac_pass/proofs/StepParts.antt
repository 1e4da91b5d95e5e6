-- What both codes have at a step: texts, the memories behind a store into the own frame, and its words.
use Rattle.std.proofs.Common.{◌≡◌, ◌⊎◌, inl, inr, ℕ, suc, ◌+◌, ◌*◌, ◌<◌, Bool, true, false, nat_lt, if◌then◌else◌, List}
use Rattle.std.proofs.Common.{length, map, slice_get, Option, Some, None, refl, sym, ap, ◌∙◌, subst}
use Rattle.std.proofs.lemmas.Option.{none-some}
use Rattle.std.proofs.lemmas.Bool.{ltb-true}
use Rattle.tac_code.specs.declared.code.Block.TheVariants.{Frame}
use Rattle.tac_code.specs.declared.code.Value.{Value}
use Rattle.tac_code.specs.declared.code.Base.TheVariants as base
use Rattle.tac_code.specs.declared.code.Instruction.{Instruction}
use Rattle.tac_code.specs.declared.code.Instruction.TheVariants.{Literal, Copy, Arithmetic, Bits, Compare, CheckRange}
use Rattle.tac_code.specs.declared.code.Instruction.TheVariants.{CheckPointer, Text, Offset, Index, RoutineValue, Load}
use Rattle.tac_code.specs.declared.code.Instruction.TheVariants.{Store, LoadByte, StoreByte, Jump, JumpBack, Branch}
use Rattle.tac_code.specs.declared.code.Instruction.TheVariants.{BranchBack, Call, CallValue, Return, Trap, Take, Put}
use Rattle.tac_code.specs.declared.code.Instruction.TheVariants.{New, End}
use Rattle.tac_code.specs.Memory.{known, load}
use Rattle.tac_code.specs.Meaning.{Code, State, Step, Goes, fetch, with_some, stores, text_of, text_at, onward}
use Rattle.tac_code_steps.specs.InTurns.{Setting}
use Rattle.tac_pass.specs.Moved.{moved, moved_living}
use Rattle.tac_pass.specs.Claims.{Claim, Certificate}
use Rattle.tac_pass.specs.Alike.{Memories, Alike}
use Rattle.tac_pass.specs.Rules.{As_word, Renames, Calls}
use Rattle.tac_pass.specs.Follows.{Checked, Becomes, IsSpared, IsRenamed, Jumps, IsEnding}
use Rattle.tac_pass.proofs.Words.{with_own, load_own, store_own}
use Rattle.tac_pass.proofs.Inside.{with_set, NotThere}
use Rattle.tac_pass.proofs.Stepping.{Followed, act_old, act_new, some_follows}

-- the constants of both codes
module _ (old new : Code) (e : Certificate) (checked : Checked old new e) where
  text_renamed : (r place t : ℕ) (bytes : List ℕ) → Becomes old new e r place (Text t bytes) → text_at new r
      (e.stands r place) ≡ Some bytes
  text_renamed r place t bytes b = which b.becomes
    where
      renamed : (x : IsRenamed old new e r place b.claim (Text t bytes)) → Renames r b.claim (e.claims r (suc place))
          (Text t bytes) x.new_one ⊎ Calls r b.claim (e.claims r (suc place)) (Text t bytes) x.new_one → text_at new r
          (e.stands r place) ≡ Some bytes
      renamed x (inl (t', f, g)) = ap text_of (x.there ∙ ap Some f)
      renamed x (inr h) = absurd h

      which : IsSpared old new e r place b.claim (Text t bytes)
          ⊎ (IsRenamed old new e r place b.claim (Text t bytes)
          ⊎ (Jumps old new e r place b.claim (Text t bytes) ⊎ IsEnding old new e r place b.claim (Text t bytes)))
          → text_at new r (e.stands r place) ≡ Some bytes
      which (inl x) = absurd x.0
      which (inr (inl x)) = renamed x x.renames
      which (inr (inr (inl x))) = absurd x
      which (inr (inr (inr x))) = absurd x.ends

  text_fetched : (r place : ℕ) (bytes : List ℕ) (o : Option Instruction) → fetch old r place ≡ o → text_of o
      ≡ Some bytes → text_at new r (e.stands r place) ≡ Some bytes
  text_fetched r place bytes None f is = absurd (none-some bytes is)
  text_fetched r place bytes (Some (Text t b)) f is = text_renamed r place t b (checked.becomes r place (Text t b) f)
      ∙ is
  text_fetched r place bytes (Some (Literal _ _)) f is = absurd (none-some bytes is)
  text_fetched r place bytes (Some (Copy _ _)) f is = absurd (none-some bytes is)
  text_fetched r place bytes (Some (Arithmetic _ _ _ _ _ _)) f is = absurd (none-some bytes is)
  text_fetched r place bytes (Some (Bits _ _ _ _)) f is = absurd (none-some bytes is)
  text_fetched r place bytes (Some (Compare _ _ _ _)) f is = absurd (none-some bytes is)
  text_fetched r place bytes (Some (CheckRange _ _ _ _ _)) f is = absurd (none-some bytes is)
  text_fetched r place bytes (Some (CheckPointer _ _ _)) f is = absurd (none-some bytes is)
  text_fetched r place bytes (Some (Offset _ _ _ _)) f is = absurd (none-some bytes is)
  text_fetched r place bytes (Some (Index _ _ _ _ _ _ _ _)) f is = absurd (none-some bytes is)
  text_fetched r place bytes (Some (RoutineValue _ _)) f is = absurd (none-some bytes is)
  text_fetched r place bytes (Some (Load _ _ _)) f is = absurd (none-some bytes is)
  text_fetched r place bytes (Some (Store _ _ _)) f is = absurd (none-some bytes is)
  text_fetched r place bytes (Some (LoadByte _ _ _)) f is = absurd (none-some bytes is)
  text_fetched r place bytes (Some (StoreByte _ _ _)) f is = absurd (none-some bytes is)
  text_fetched r place bytes (Some (Jump _)) f is = absurd (none-some bytes is)
  text_fetched r place bytes (Some (JumpBack _)) f is = absurd (none-some bytes is)
  text_fetched r place bytes (Some (Branch _ _ _ _)) f is = absurd (none-some bytes is)
  text_fetched r place bytes (Some (BranchBack _ _ _ _)) f is = absurd (none-some bytes is)
  text_fetched r place bytes (Some (Call _ _ _ _)) f is = absurd (none-some bytes is)
  text_fetched r place bytes (Some (CallValue _ _ _ _)) f is = absurd (none-some bytes is)
  text_fetched r place bytes (Some (Return _)) f is = absurd (none-some bytes is)
  text_fetched r place bytes (Some (Trap _ _)) f is = absurd (none-some bytes is)
  text_fetched r place bytes (Some (Take _)) f is = absurd (none-some bytes is)
  text_fetched r place bytes (Some (Put _)) f is = absurd (none-some bytes is)
  text_fetched r place bytes (Some (New _ _ _)) f is = absurd (none-some bytes is)
  text_fetched r place bytes (Some End) f is = absurd (none-some bytes is)

  pub texts_move : (r place : ℕ) (bytes : List ℕ) → text_at old r place ≡ Some bytes → text_at new r (e.stands r place)
      ≡ Some bytes
  texts_move r place bytes is = text_fetched r place bytes (fetch old r place) refl is

module _ (old new : Code) (p : Setting) (e : Certificate) (same_count : length new.program ≡ length old.program)
    (same_objects : new.objects ≡ old.objects)
    (texts : (r place : ℕ) (bytes : List ℕ) → text_at old r place ≡ Some bytes → text_at new r (e.stands r place)
    ≡ Some bytes) (s s' : State) (c : Claim) (a : Alike e c s s') where
  abbrev pub c' : Claim
  c' = e.claims s.current.routine (suc s.current.place)

  abbrev pub Follow : Bool → Step → Type 0
  Follow b x = Followed old new p e b s s' x

  abbrev pub old_step : Instruction → Step
  old_step i = act_old old new p e i s

  abbrev pub new_step : Instruction → Step
  new_step i = act_new old new p e i s'

  -- the memories behind a store of both codes into word k of the own frame
  pub both_stored : (k : ℕ) (v : Value) → Memories e.stands s.current.number (with_set a.words k v)
      (with_set a.words' k (moved e.stands v)) a.rest (with_own s.current.number (with_set a.words k v) a.rest s.memory)
      (with_own s.current.number (with_set a.words' k (moved e.stands v))
      (map (moved_living e.stands) a.rest) s'.memory)
  both_stored k v = record {
    frames = refl;
    frames' = refl;
    scratch = a.outside.memory.scratch;
    objects = a.outside.memory.objects;
  }

  -- and behind one of the old code alone
  pub old_stored : (k : ℕ) (v : Value) → Memories e.stands s.current.number (with_set a.words k v) a.words' a.rest
      (with_own s.current.number (with_set a.words k v) a.rest s.memory) s'.memory
  old_stored k v = record {
    frames = refl;
    frames' = a.outside.memory.frames';
    scratch = a.outside.memory.scratch;
    objects = a.outside.memory.objects;
  }

  -- a load of the old code from its own frame
  pub own_word : (n k : ℕ) (v : Value) → n ≡ 4 * k → load (text_at old) s.memory (Frame s.current.number)
      (0 + n) ≡ Some v
      → known (slice_get a.words k) ≡ Some v
  own_word n k v f is = sym (load_own (text_at old) s.memory s.current.number a.words a.rest n k a.outside.memory.frames
      f) ∙ is

  pub word_away : (k : ℕ) (v : Value) → known (slice_get a.words k) ≡ Some v → NotThere s.current.number (As_word c k) v
  word_away k v is o away same = a.inside.word_away k o away (is ∙ ap Some same)

  -- the state behind a store into the own frame
  abbrev pub behind_store : ℕ → Value → State
  behind_store k v = record s {
    current = onward s.current;
    memory = with_own s.current.number
        (with_set a.words k v) a.rest s.memory;
  }

  -- a store of the old code: within the block, where it is not stuck
  pub own_store_follows : (b : Bool) (n k from : ℕ) → n ≡ 4 * k
      → ((v : Value) → s.current.temporaries from ≡ Some v → k < length a.words → Follow b (Goes (behind_store k v)))
      → Follow b (old_step (Store base.Frame n from))
  own_store_follows b n k from f h =
      some_follows old new p e b s s' (s.current.temporaries from) _ (λ v is.
      subst (λ o. Follow b (with_some o (λ m. stores m s)))
      (sym (store_own s.memory s.current.number a.words a.rest n k v a.outside.memory.frames f))
      (within v is (nat_lt k (length a.words)) refl))
    where
      within : (v : Value) → s.current.temporaries from ≡ Some v → (x : Bool) → nat_lt k (length a.words) ≡ x → Follow b
          (with_some (if x then Some (with_own s.current.number (with_set a.words k v) a.rest s.memory) else None)
          (λ m. stores m s))
      within v is true below = h v is (ltb-true k (length a.words) below)
      within v is false below = λ live. absurd (live refl)
