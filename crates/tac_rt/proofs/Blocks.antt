-- The two empty blocks of a run-time routine are in nobody's way.
use Rattle.std.proofs.Common.{◌≡◌, ℕ, ◌<◌, Bool, true, false, nat_eq, if◌then◌else◌, List, [], ◌∷◌, Option, Some, None}
use Rattle.std.proofs.Common.{refl, ap, ◌∙◌, arith, subst, eqb-true}
use Rattle.std.proofs.lemmas.Option.{none-some}
use Rattle.std.proofs.lemmas.Bool.{ne_eqb}
use Rattle.tac_code.specs.declared.code.Block.{Block}
use Rattle.tac_code.specs.declared.code.Block.TheVariants.{Frame, Scratch, Object, Constant}
use Rattle.tac_code.specs.declared.code.Value.{Value}
use Rattle.tac_code.specs.Memory.{Words, Living, Memory, Constants, living, words_in, behind, instead, changed}
use Rattle.tac_code.specs.Memory.{changed_object, with_frames, with_scratch, with_objects, value_in, byte_value_in}
use Rattle.tac_code.specs.Memory.{load, load_byte, changed_in}
use Rattle.tac_code_steps.specs.Routines.{AreBelow}
use Rattle.tac_code_steps.proofs.Pieces.{same_some}

-- no block that lives has the next activation's number
pub record IsFresh (next : ℕ) (memory : Memory) : Type 0 where
  pub frames : AreBelow next memory.frames
  pub scratch : AreBelow next memory.scratch

abbrev pub empty_at : ℕ → Living
empty_at n = record { number = n; words = [] }

abbrev pub pushed : ℕ → Memory → Memory
pushed n m = record { frames = empty_at n ∷ m.frames; scratch = empty_at n ∷ m.scratch; objects = m.objects }

-- a block that lives has a number below the next
pub living_below : (next : ℕ) (bs : List Living) (a : ℕ) (ws : Words) → AreBelow next bs → living bs a ≡ Some ws
    → a < next
living_below next [] a ws h e = absurd (none-some ws e)
living_below next (b ∷ bs) a ws h e = go (λ f. living_below next bs a ws h.1 f) (nat_eq b.number a) refl e
  where
    go : (living bs a ≡ Some ws → a < next) → (t : Bool) → nat_eq b.number a ≡ t
        → (if t then Some b.words else living bs a) ≡ Some ws → a < next
    go rest true q e = let p = eqb-true b.number a q in omega (arith, h.0)
    go rest false q e = rest e

pub past_empty : (next : ℕ) (bs : List Living) (a : ℕ) (ws : Words) → AreBelow next bs → living bs a ≡ Some ws → living
    (empty_at next ∷ bs) a ≡ Some ws
past_empty next bs a ws h e =
    let l = living_below next bs a ws h e in
    let ne : next ≡ a → ⊥ = λ q. omega arith in
    ap (λ t. if t then Some [] else living bs a) (ne_eqb next a ne) ∙ e

-- ---- words that are read

pub words_pushed : (constants : Constants) (next : ℕ) (m : Memory) (b : Block) (ws : Words) → IsFresh next m
    → words_in constants m b ≡ Some ws → words_in constants (pushed next m) b ≡ Some ws
words_pushed constants next m (Frame a) ws f e = past_empty next m.frames a ws f.frames e
words_pushed constants next m (Scratch a) ws f e = past_empty next m.scratch a ws f.scratch e
words_pushed constants next m (Object n) ws f e = e
words_pushed constants next m (Constant r place) ws f e = e

pub load_pushed : (constants : Constants) (next : ℕ) (m : Memory) (b : Block) (o : ℕ) (v : Value) → IsFresh next m
    → load constants m b o ≡ Some v → load constants (pushed next m) b o ≡ Some v
load_pushed constants next m b o v f e = go (words_in constants m b) refl e
  where
    go : (t : Option Words) → words_in constants m b ≡ t → value_in t o ≡ Some v → load constants (pushed next m) b o
        ≡ Some v
    go None q e = absurd (none-some v e)
    go (Some ws) q e = ap (λ t. value_in t o) (words_pushed constants next m b ws f q) ∙ e

pub load_byte_pushed : (constants : Constants) (next : ℕ) (m : Memory) (b : Block) (o byte : ℕ) → IsFresh next m
    → load_byte constants m b o ≡ Some byte → load_byte constants (pushed next m) b o ≡ Some byte
load_byte_pushed constants next m b o byte f e = go (words_in constants m b) refl e
  where
    go : (t : Option Words) → words_in constants m b ≡ t → byte_value_in t o ≡ Some byte → load_byte constants
        (pushed next m) b o ≡ Some byte
    go None q e = absurd (none-some byte e)
    go (Some ws) q e = ap (λ t. byte_value_in t o) (words_pushed constants next m b ws f q) ∙ e

-- ---- words that are changed

-- what was changed lived, and the numbers stay
pub record Changed (next : ℕ) (bs : List Living) (a : ℕ) (bs' : List Living) : Type 0 where
  pub lived : a < next
  pub below : AreBelow next bs'

pub changed_below : (next : ℕ) (bs : List Living) (a : ℕ) (change : Words → Option Words) (bs' : List Living)
    → AreBelow next bs → changed bs a change ≡ Some bs' → Changed next bs a bs'
changed_below next [] a change bs' h e = absurd (none-some bs' e)
changed_below next (b ∷ bs) a change bs' h e = go (λ r f. changed_below next bs a change r h.1 f)
    (nat_eq b.number a) refl e
  where
    this : a < next → (t : Option Words) → instead b bs t ≡ Some bs' → Changed next (b ∷ bs) a bs'
    this l None e = absurd (none-some bs' e)
    this l (Some ws) e = record { lived = l; below = subst (AreBelow next) (same_some e) (h.0, h.1) }

    other : ((r : List Living) → changed bs a change ≡ Some r → Changed next bs a r) → (t : Option (List Living))
        → changed bs a change ≡ t → behind b t ≡ Some bs' → Changed next (b ∷ bs) a bs'
    other rest None q e = absurd (none-some bs' e)
    other rest (Some r) q e = let c = rest r q in record {
      lived = c.lived;
      below = subst (AreBelow next) (same_some e) (h.0, c.below);
    }

    go : ((r : List Living) → changed bs a change ≡ Some r → Changed next bs a r) → (t : Bool) → nat_eq b.number a ≡ t
        → (if t then instead b bs (change b.words) else behind b (changed bs a change)) ≡ Some bs' → Changed next
        (b ∷ bs) a bs'
    go rest true q e = let p = eqb-true b.number a q in this (omega (arith, h.0)) (change b.words) e
    go rest false q e = other rest (changed bs a change) refl e

pub changed_past : (next : ℕ) (bs : List Living) (a : ℕ) (change : Words → Option Words) (bs' : List Living)
    → AreBelow next bs → changed bs a change ≡ Some bs' → changed (empty_at next ∷ bs) a change ≡ Some
    (empty_at next ∷ bs')
changed_past next bs a change bs' h e =
    let c = changed_below next bs a change bs' h e in
    let ne : next ≡ a → ⊥ = λ q. let l = c.lived in omega arith in
    ap (λ t. if t then instead (empty_at next) bs (change []) else behind (empty_at next) (changed bs a change))
    (ne_eqb next a ne) ∙ ap (behind (empty_at next)) e

pub record Stored (next : ℕ) (m : Memory) (b : Block) (change : Words → Option Words) (m' : Memory) : Type 0 where
  pub fresh : IsFresh next m'
  pub same : changed_in (pushed next m) b change ≡ Some (pushed next m')

module _ (next : ℕ) (m : Memory) (change : Words → Option Words) (m' : Memory) (f : IsFresh next m) where
  stored_frame : (a : ℕ) (t : Option (List Living)) → changed m.frames a change ≡ t → with_frames m t ≡ Some m'
      → Stored next m (Frame a) change m'
  stored_frame a None q e = absurd (none-some m' e)
  stored_frame a (Some bs) q e =
      let p = same_some e in
      record {
        fresh = subst (IsFresh next) p (record {
          frames = (changed_below next m.frames a change bs f.frames q).below;
          scratch = f.scratch;
        });
        same = ap (with_frames (pushed next m)) (changed_past next m.frames a change bs f.frames q)
            ∙ ap (λ x. Some (pushed next x)) p;
      }

  stored_scratch : (a : ℕ) (t : Option (List Living)) → changed m.scratch a change ≡ t → with_scratch m t ≡ Some m'
      → Stored next m (Scratch a) change m'
  stored_scratch a None q e = absurd (none-some m' e)
  stored_scratch a (Some bs) q e =
      let p = same_some e in
      record {
        fresh = subst (IsFresh next) p (record {
          frames = f.frames;
          scratch = (changed_below next m.scratch a change bs f.scratch q).below;
        });
        same = ap (with_scratch (pushed next m)) (changed_past next m.scratch a change bs f.scratch q)
            ∙ ap (λ x. Some (pushed next x)) p;
      }

  stored_object : (n : ℕ) (t : Option (List Words)) → changed_object m.objects n change ≡ t → with_objects m t ≡ Some m'
      → Stored next m (Object n) change m'
  stored_object n None q e = absurd (none-some m' e)
  stored_object n (Some bs) q e =
      let p = same_some e in
      record {
        fresh = subst (IsFresh next) p (record {
          frames = f.frames;
          scratch = f.scratch;
        });
        same = ap (with_objects (pushed next m)) q ∙ ap (λ x. Some (pushed next x)) p;
      }

  pub stored : (b : Block) → changed_in m b change ≡ Some m' → Stored next m b change m'
  stored (Frame a) e = stored_frame a (changed m.frames a change) refl e
  stored (Scratch a) e = stored_scratch a (changed m.scratch a change) refl e
  stored (Object n) e = stored_object n (changed_object m.objects n change) refl e
  stored (Constant r place) e = absurd (none-some m' e)
