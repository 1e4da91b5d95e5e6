-- A certificate that the test is met by: a word that is stored and loaded stands in a temporary instead.
use Rattle.std.proofs.Common.{◌≡◌, ◌≢◌, ◌⊎◌, inl, inr, ℕ, zero, suc, Bool, true, false, [], ◌∷◌, slice_get, Option}
use Rattle.std.proofs.Common.{Some, None, pos, refl, sym, ap, subst, arith, true≢false}
use Rattle.std.proofs.lemmas.Option.{none-some, same_Some}
use Rattle.behavior.specs.Endings.{Normal}
use Rattle.tac_code.specs.declared.code.Base.TheVariants as base
use Rattle.tac_code.specs.declared.code.Instruction.{Instruction}
use Rattle.tac_code.specs.declared.code.Instruction.TheVariants.{Literal, Load, Store, Put, End}
use Rattle.tac_code.specs.declared.code.TacRoutine.{TacRoutine}
use Rattle.tac_code.specs.Meaning.{Code, fetch, routines}
use Rattle.tac_code.specs.Run.{tac_run}
use Rattle.tac_code.proofs.Impossible.{true_false}
use Rattle.tac_pass.specs.Keeps.{Keeps}
use Rattle.tac_pass.specs.Claims.{Claim, Certificate}
use Rattle.tac_pass.specs.Rules.{Forgets}
use Rattle.tac_pass.specs.Follows.{SameHeading, Becomes, Checked}
use Rattle.tac_pass.proofs.Whole.{checked_keeps}

abbrev old : Code
old = record {
  program = record {
    parameters = 0;
    temporaries = 2;
    frame = 4;
    scratch = 0;
    line = 1;
    body = Literal 0 (pos 65) ∷ Store base.Frame 0 0 ∷ Load 1 base.Frame 0 ∷ Put 1 ∷ End ∷ [];
  } ∷ [];
  run_time = [];
  objects = [];
}

abbrev new : Code
new = record {
  program = record {
    parameters = 0;
    temporaries = 2;
    frame = 4;
    scratch = 0;
    line = 1;
    body = Literal 0 (pos 65) ∷ Put 0 ∷ End ∷ [];
  } ∷ [];
  run_time = [];
  objects = [];
}

-- both show the same, of course
old_shows : tac_run old (λ r. 40) (λ t. 40) 100 100 [] 9 ≡ (65 ∷ [], Normal)
old_shows = refl

new_shows : tac_run new (λ r. 40) (λ t. 40) 100 100 [] 9 ≡ (65 ∷ [], Normal)
new_shows = refl

-- ---- the certificate

abbrev nothing : ℕ → Option ℕ
nothing u = None

-- the first is held by temporary 0
abbrev first_held : ℕ → Option ℕ
first_held zero = Some 0
first_held (suc u) = None

abbrev both_held : ℕ → Option ℕ
both_held zero = Some 0
both_held (suc zero) = Some 0
both_held (suc (suc u)) = None

abbrev first_stale : ℕ → Bool
first_stale zero = true
first_stale (suc k) = false

-- with nothing known of what was written, and of what points where
abbrev claim_of : (ℕ → Option ℕ) → (ℕ → Option ℕ) → (ℕ → Bool) → Claim
claim_of temporaries words stale =
    record {
      temporaries = temporaries;
      words = words;
      stale = stale;
      blank = λ k. true;
      points = λ u o. true;
      word_points = λ k o. true;
    }

abbrev claim_at : ℕ → Claim
claim_at zero = claim_of nothing nothing (λ k. false)
claim_at (suc zero) = claim_of first_held nothing (λ k. false)
claim_at (suc (suc zero)) = claim_of first_held first_held first_stale
claim_at (suc (suc (suc place))) = claim_of both_held first_held first_stale

abbrev start_at : ℕ → ℕ
start_at zero = 0
start_at (suc zero) = 1
start_at (suc (suc zero)) = 1
start_at (suc (suc (suc zero))) = 1
start_at (suc (suc (suc (suc zero)))) = 2
start_at (suc (suc (suc (suc (suc place))))) = 3

abbrev certificate : Certificate
certificate = record {
  claims = λ r place. claim_at place;
  starts = λ r place. start_at place;
  stands = λ r place. start_at place;
}

-- ---- the test

forgets_none : (c : Claim) → Forgets c c
forgets_none c = record {
  temporaries = λ u v h. h;
  words = λ k v h. h;
  stale = λ k h. h;
  blank = λ k h. h;
  points = λ u o h. h;
  word_points = λ k o h. h;
}

first_is : (u v : ℕ) → first_held u ≡ Some v → (u ≡ 0) × (v ≡ 0)
first_is zero v h = (refl, sym (same_Some 0 v h))
first_is (suc u) v h = absurd (none-some v h)

literal_becomes : Becomes old new certificate 0 0 (Literal 0 (pos 65))
literal_becomes = record {
  number = 0;
  claim = claim_at 0;
  comes = (refl, forgets_none (claim_at 0));
  becomes = inr (inl (record {
    new_one = Literal 0 (pos 65);
    there = refl;
    renames = inl (
      0,
      refl,
      record {
        temporaries = λ u v h. inl (first_is u v h);
        words = λ k v h. absurd (none-some v h);
        stale = λ k h. refl;
        blank = λ k h. true_false h;
        points = λ u o h. true_false h;
        word_points = λ k o h. true_false h;
      },
    );
    onwards = refl;
  }));
}

store_becomes : Becomes old new certificate 0 1 (Store base.Frame 0 0)
store_becomes = record {
  number = 0;
  claim = claim_at 1;
  comes = (refl, forgets_none (claim_at 1));
  becomes = inl (
    (
      0,
      refl,
      record {
        temporaries = λ u v h. h;
        words = λ k v h. inl ((first_is k v h).0, ap Some (sym (first_is k v h).1));
        stale = λ k h. fresh k h;
        blank = λ k h. true_false h;
        points = λ u o h. true_false h;
        word_points = λ k o h. true_false h;
      },
    ),
    refl,
  );
}
  where
    not_first : (k : ℕ) → suc k ≡ 0 → ⊥
    not_first k e = omega (arith, e)

    fresh : (k : ℕ) → first_stale k ≡ false → (k ≢ 0) × (false ≡ false)
    fresh zero h = true_false h
    fresh (suc k) h = (not_first k, refl)

load_becomes : Becomes old new certificate 0 2 (Load 1 base.Frame 0)
load_becomes = record {
  number = 0;
  claim = claim_at 2;
  comes = (refl, forgets_none (claim_at 2));
  becomes = inl (
    (
      0,
      refl,
      record {
        temporaries = λ u v h. held u v h;
        words = λ k v h. h;
        stale = λ k h. h;
        blank = λ k h. true_false h;
        points = λ u o h. true_false h;
        word_points = λ k o h. true_false h;
      },
    ),
    refl,
  );
}
  where
    not_second : (let n : ℕ = 0 in n) ≡ 1 → ⊥
    not_second e = let f : (let n : ℕ = 0 in n) ≡ 1 = e in omega (arith, f)

    held : (u v : ℕ) → both_held u ≡ Some v → ((u ≡ 1) × (Some 0 ≡ Some v)) ⊎ ((u ≢ 1) × (first_held u ≡ Some v))
    held zero v h = inr (not_second, h)
    held (suc zero) v h = inl (refl, h)
    held (suc (suc u)) v h = absurd (none-some v h)

put_becomes : Becomes old new certificate 0 3 (Put 1)
put_becomes = record {
  number = 0;
  claim = claim_at 3;
  comes = (refl, forgets_none (claim_at 3));
  becomes = inr (inl (record {
    new_one = Put 0;
    there = refl;
    renames = inl (0, refl, refl, forgets_none (claim_at 3));
    onwards = refl;
  }));
}

end_becomes : Becomes old new certificate 0 4 End
end_becomes = record {
  number = 0;
  claim = claim_at 4;
  comes = (refl, forgets_none (claim_at 4));
  becomes = inr (inr (inr (record { new_one = End; there = refl; ends = refl })));
}

each_becomes : (r place : ℕ) (i : Instruction) → fetch old r place ≡ Some i → Becomes old new certificate r place i
each_becomes zero zero i f = subst (Becomes old new certificate 0 0)
    (same_Some (Literal 0 (pos 65)) i f) literal_becomes
each_becomes zero (suc zero) i f = subst (Becomes old new certificate 0 1)
    (same_Some (Store base.Frame 0 0) i f) store_becomes
each_becomes zero (suc (suc zero)) i f = subst (Becomes old new certificate 0 2)
    (same_Some (Load 1 base.Frame 0) i f) load_becomes
each_becomes zero (suc (suc (suc zero))) i f = subst (Becomes old new certificate 0 3)
    (same_Some (Put 1) i f) put_becomes
each_becomes zero (suc (suc (suc (suc zero)))) i f = subst (Becomes old new certificate 0 4)
    (same_Some End i f) end_becomes
each_becomes zero (suc (suc (suc (suc (suc place))))) i f = absurd (none-some i f)
each_becomes (suc r) place i f = absurd (none-some i f)

abbrev old_block : TacRoutine
old_block = record {
  parameters = 0;
  temporaries = 2;
  frame = 4;
  scratch = 0;
  line = 1;
  body = Literal 0 (pos 65) ∷ Store base.Frame 0 0 ∷ Load 1 base.Frame 0 ∷ Put 1 ∷ End ∷ [];
}

abbrev new_block : TacRoutine
new_block = record {
  parameters = 0;
  temporaries = 2;
  frame = 4;
  scratch = 0;
  line = 1;
  body = Literal 0 (pos 65) ∷ Put 0 ∷ End ∷ [];
}

same_heading : (routine : TacRoutine) → old_block ≡ routine → SameHeading routine new_block
same_heading routine f = record {
  parameters = ap (λ (x : TacRoutine). x.parameters) f;
  frame = ap (λ (x : TacRoutine). x.frame) f;
  scratch = ap (λ (x : TacRoutine). x.scratch) f;
  line = ap (λ (x : TacRoutine). x.line) f;
}

heading : (r : ℕ) (routine : TacRoutine) → slice_get (routines old) r ≡ Some routine → (routine' : TacRoutine)
    × (slice_get (routines new) r ≡ Some routine') × SameHeading routine routine'
heading zero routine f = (new_block, refl, same_heading routine (same_Some old_block routine f))
heading (suc r) routine f = absurd (none-some routine f)

pub tested : Checked old new certificate
tested = record {
  program = refl;
  objects = refl;
  headings = heading;
  begins = λ r. (
    record {
      temporaries = λ u t h. absurd (none-some t h);
      words = λ k t h. none-some t h;
      blank = λ k h. true≢false h;
    },
    refl,
  );
  becomes = each_becomes;
}

pub kept : Keeps old new
kept = checked_keeps old new certificate tested
