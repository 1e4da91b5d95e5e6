-- What was claimed by a rule may be forgotten at once.
use Rattle.std.proofs.Common.{inl, inr, ℕ}
use Rattle.tac_code.specs.declared.code.Base.{Base}
use Rattle.tac_code.specs.declared.code.Base.TheVariants as base
use Rattle.tac_code.specs.declared.code.Instruction.{Instruction}
use Rattle.tac_code.specs.declared.code.Instruction.TheVariants.{Literal, Copy, Arithmetic, Bits, Compare, CheckRange}
use Rattle.tac_code.specs.declared.code.Instruction.TheVariants.{CheckPointer, Text, Offset, Index, RoutineValue, Load}
use Rattle.tac_code.specs.declared.code.Instruction.TheVariants.{Store, LoadByte, StoreByte, Jump, JumpBack, Branch}
use Rattle.tac_code.specs.declared.code.Instruction.TheVariants.{BranchBack, Call, CallValue, Return, Trap, Take, Put}
use Rattle.tac_code.specs.declared.code.Instruction.TheVariants.{New, End}
use Rattle.tac_pass.specs.Claims.{Claim}
use Rattle.tac_pass.specs.Rules.{Forgets, Found, Gave, Spared, Stored, Postponed, Kept, Wrote, Called, Spares, Renames}
use Rattle.tac_pass.specs.Rules.{Calls}

module _ (c : Claim) {c' c'' : Claim} (f : Forgets c' c'') where
  pub forgets_on : Forgets c c' → Forgets c c''
  forgets_on g = record {
    temporaries = λ u v h. g.temporaries u v (f.temporaries u v h);
    words = λ k v h. g.words k v (f.words k v h);
    stale = λ k h. g.stale k (f.stale k h);
    blank = λ k h. g.blank k (f.blank k h);
    points = λ u o h. g.points u o (f.points u o h);
    word_points = λ k o h. g.word_points k o (f.word_points k o h);
  }

  pub found_on : (a : ℕ) → Found a c c' → Found a c c''
  found_on a g = record {
    temporaries = λ u v h. g.temporaries u v (f.temporaries u v h);
    words = λ k v h. g.words k v (f.words k v h);
    stale = λ k h. g.stale k (f.stale k h);
    blank = λ k h. g.blank k (f.blank k h);
    points = λ u o h. g.points u o (f.points u o h);
    word_points = λ k o h. g.word_points k o (f.word_points k o h);
  }

  pub gave_on : (t : ℕ) (t' : ℕ) (Word : ℕ → Type 0) (Away : ℕ → Type 0) → Gave t t' Word Away c c'
      → Gave t t' Word Away c c''
  gave_on t t' Word Away g = record {
    temporaries = λ u v h. g.temporaries u v (f.temporaries u v h);
    words = λ k v h. g.words k v (f.words k v h);
    stale = λ k h. g.stale k (f.stale k h);
    blank = λ k h. g.blank k (f.blank k h);
    points = λ u o h. g.points u o (f.points u o h);
    word_points = λ k o h. g.word_points k o (f.word_points k o h);
  }

  pub spared_on : (t : ℕ) (By : ℕ → Type 0) (Away : ℕ → Type 0) → Spared t By Away c c' → Spared t By Away c c''
  spared_on t By Away g = record {
    temporaries = λ u v h. g.temporaries u v (f.temporaries u v h);
    words = λ k v h. g.words k v (f.words k v h);
    stale = λ k h. g.stale k (f.stale k h);
    blank = λ k h. g.blank k (f.blank k h);
    points = λ u o h. g.points u o (f.points u o h);
    word_points = λ k o h. g.word_points k o (f.word_points k o h);
  }

  pub stored_on : (b : ℕ) (k : ℕ) → Stored b k c c' → Stored b k c c''
  stored_on b k g = record {
    temporaries = λ u v h. g.temporaries u v (f.temporaries u v h);
    words = λ k v h. g.words k v (f.words k v h);
    stale = λ k h. g.stale k (f.stale k h);
    blank = λ k h. g.blank k (f.blank k h);
    points = λ u o h. g.points u o (f.points u o h);
    word_points = λ k o h. g.word_points k o (f.word_points k o h);
  }

  pub postponed_on : (b : ℕ) (k : ℕ) → Postponed b k c c' → Postponed b k c c''
  postponed_on b k g = record {
    temporaries = λ u v h. g.temporaries u v (f.temporaries u v h);
    words = λ k v h. g.words k v (f.words k v h);
    stale = λ k h. g.stale k (f.stale k h);
    blank = λ k h. g.blank k (f.blank k h);
    points = λ u o h. g.points u o (f.points u o h);
    word_points = λ k o h. g.word_points k o (f.word_points k o h);
  }

  pub kept_on : (b : ℕ) (k : ℕ) (t' : ℕ) → Kept b k t' c c' → Kept b k t' c c''
  kept_on b k t' g = record {
    temporaries = λ u v h. g.temporaries u v (f.temporaries u v h);
    words = λ k v h. g.words k v (f.words k v h);
    stale = λ k h. g.stale k (f.stale k h);
    blank = λ k h. g.blank k (f.blank k h);
    points = λ u o h. g.points u o (f.points u o h);
    word_points = λ k o h. g.word_points k o (f.word_points k o h);
  }

  pub wrote_on : (r : ℕ) (b : Base) (n : ℕ) (Away : ℕ → Type 0) → Wrote r b n Away c c' → Wrote r b n Away c c''
  wrote_on r b n Away g = record {
    temporaries = λ u v h. g.temporaries u v (f.temporaries u v h);
    words = λ k v h. g.words k v (f.words k v h);
    stale = λ k h. g.stale k (f.stale k h);
    blank = λ k h. g.blank k (f.blank k h);
    points = λ u o h. g.points u o (f.points u o h);
    word_points = λ k o h. g.word_points k o (f.word_points k o h);
  }

  pub called_on : (t t' : ℕ) → Called t t' c c' → Called t t' c c''
  called_on t t' g = record {
    fresh = g.fresh;
    temporaries = λ u v h. g.temporaries u v (f.temporaries u v h);
    words = λ k v h. g.words k v (f.words k v h);
    blank = λ k h. g.blank k (f.blank k h);
    points = λ u o h. g.points u o (f.points u o h);
    word_points = λ k o h. g.word_points k o (f.word_points k o h);
  }

  -- ---- instructions

  pub spares_on : (i : Instruction) → Spares c c' i → Spares c c'' i
  spares_on (Literal t z) g = spared_on t _ _ g
  spares_on (Copy t a) g = spared_on t _ _ g
  spares_on (Load t base.Frame n) (k, e, g) = (k, e, spared_on t _ _ g)
  spares_on (Store base.Frame n b) (k, e, g) = (k, e, postponed_on b k g)
  spares_on (Load t base.Scratch n) h = absurd h
  spares_on (Load t base.Program n) h = absurd h
  spares_on (Load t (base.Temporary _) n) h = absurd h
  spares_on (Store base.Scratch n b) h = absurd h
  spares_on (Store base.Program n b) h = absurd h
  spares_on (Store (base.Temporary _) n b) h = absurd h
  spares_on (Arithmetic _ _ _ _ _ _) h = absurd h
  spares_on (Bits _ _ _ _) h = absurd h
  spares_on (Compare _ _ _ _) h = absurd h
  spares_on (CheckRange a low high error line) (z, g) = (z, forgets_on g)
  spares_on (CheckPointer a error line) (z, g) = (z, forgets_on g)
  spares_on (Text _ _) h = absurd h
  spares_on (Offset _ _ _ _) h = absurd h
  spares_on (Index _ _ _ _ _ _ _ _) h = absurd h
  spares_on (RoutineValue _ _) h = absurd h
  spares_on (LoadByte _ _ _) h = absurd h
  spares_on (StoreByte _ _ _) h = absurd h
  spares_on (Jump _) h = absurd h
  spares_on (JumpBack _) h = absurd h
  spares_on (Branch _ _ _ _) h = absurd h
  spares_on (BranchBack _ _ _ _) h = absurd h
  spares_on (Call _ _ _ _) h = absurd h
  spares_on (CallValue _ _ _ _) h = absurd h
  spares_on (Return _) h = absurd h
  spares_on (Trap _ _) h = absurd h
  spares_on (Take _) h = absurd h
  spares_on (Put _) h = absurd h
  spares_on (New _ _ _) h = absurd h
  spares_on End h = absurd h

  module _ (r : ℕ) where
    load_on : (t : ℕ) (b : Base) (n : ℕ) (i' : Instruction) → Renames r c c' (Load t b n) i' → Renames r c c''
        (Load t b n) i'
    load_on t b n i' (inl x) = inl (record {
      t' = x.t';
      b' = x.b';
      same = x.same;
      from = x.from;
      sees = x.sees;
      gave = gave_on t x.t' _ _ x.gave;
    })
    load_on t b n i' (inr (k, e, g, inl x)) = inr (
      k,
      e,
      g,
      inl (record {
        t' = x.t';
        same = x.same;
        fresh = x.fresh;
        gave = gave_on t x.t' _ _ x.gave;
      }),
    )
    load_on t b n i' (inr (k, e, g, inr x)) = inr (
      k,
      e,
      g,
      inr (record {
        t' = x.t';
        a' = x.a';
        same = x.same;
        held = x.held;
        gave = gave_on t x.t' _ _ x.gave;
      }),
    )

    store_on : (b : Base) (n a : ℕ) (i' : Instruction) → Renames r c c' (Store b n a) i' → Renames r c c''
        (Store b n a) i'
    store_on b n a i' (inl x) = inl (record {
      a' = x.a';
      b' = x.b';
      same = x.same;
      to = x.to;
      holds = x.holds;
      wrote = wrote_on r b n _ x.wrote;
    })
    store_on b n a i' (inr (k, e, g, inl x)) = inr (
      k,
      e,
      g,
      inl (record {
        b' = x.b';
        same = x.same;
        holds = x.holds;
        stored = stored_on a k x.stored;
      }),
    )
    store_on b n a i' (inr (k, e, g, inr x)) = inr (
      k,
      e,
      g,
      inr (record {
        t' = x.t';
        b' = x.b';
        same = x.same;
        holds = x.holds;
        kept = kept_on a k x.t' x.kept;
      }),
    )

    pub renames_on : (i i' : Instruction) → Renames r c c' i i' → Renames r c c'' i i'
    renames_on (Literal t z) i' (t', e, g) = (t', e, gave_on t t' _ _ g)
    renames_on (Copy t a) i' (t', a', e, h, g) = (t', a', e, h, gave_on t t' _ _ g)
    renames_on (Arithmetic operator t a b error line) i' (t', a', b', e, h, k, g) =
        (t', a', b', e, h, k, gave_on t t' _ _ g)
    renames_on (Bits operator t a b) i' (t', a', b', e, h, k, g) = (t', a', b', e, h, k, gave_on t t' _ _ g)
    renames_on (Compare relation t a b) i' (t', a', b', e, h, k, g) = (t', a', b', e, h, k, gave_on t t' _ _ g)
    renames_on (CheckRange a low high error line) i' (a', e, h, g) = (a', e, h, forgets_on g)
    renames_on (CheckPointer a error line) i' (a', e, h, g) = (a', e, h, found_on a g)
    renames_on (Text t bytes) i' (t', e, g) = (t', e, gave_on t t' _ _ g)
    renames_on (Offset t b n extent) i' (t', b', e, h, g) = (t', b', e, h, gave_on t t' _ _ g)
    renames_on (Index t b x low high width error line) i' (t', b', x', e, h, k, g) =
        (t', b', x', e, h, k, gave_on t t' _ _ g)
    renames_on (RoutineValue t routine) i' (t', e, g) = (t', e, gave_on t t' _ _ g)
    renames_on (Load t b n) i' x = load_on t b n i' x
    renames_on (Store b n a) i' x = store_on b n a i' x
    renames_on (LoadByte t b n) i' (t', b', e, h, k, g) = (t', b', e, h, k, gave_on t t' _ _ g)
    renames_on (StoreByte b n a) i' (b', a', e, h, k, l, g) = (b', a', e, h, k, l, wrote_on r b n _ g)
    renames_on (Take t) i' (t', e, g) = (t', e, gave_on t t' _ _ g)
    renames_on (Put a) i' (a', e, h, g) = (a', e, h, forgets_on g)
    renames_on (New t object_type line) i' (t', e, g) = (t', e, gave_on t t' _ _ g)
    renames_on (Jump _) i' h = absurd h
    renames_on (JumpBack _) i' h = absurd h
    renames_on (Branch _ _ _ _) i' h = absurd h
    renames_on (BranchBack _ _ _ _) i' h = absurd h
    renames_on (Call _ _ _ _) i' h = absurd h
    renames_on (CallValue _ _ _ _) i' h = absurd h
    renames_on (Return _) i' h = absurd h
    renames_on (Trap _ _) i' h = absurd h
    renames_on End i' h = absurd h

    pub calls_on : (i i' : Instruction) → Calls r c c' i i' → Calls r c c'' i i'
    calls_on (Call t routine operands line) i' (t', operands', e, h, g) = (t', operands', e, h, called_on t t' g)
    calls_on (CallValue t a operands line) i' (t', a', operands', e, h, k, g) =
        (t', a', operands', e, h, k, called_on t t' g)
    calls_on (Literal _ _) i' h = absurd h
    calls_on (Copy _ _) i' h = absurd h
    calls_on (Arithmetic _ _ _ _ _ _) i' h = absurd h
    calls_on (Bits _ _ _ _) i' h = absurd h
    calls_on (Compare _ _ _ _) i' h = absurd h
    calls_on (CheckRange _ _ _ _ _) i' h = absurd h
    calls_on (CheckPointer _ _ _) i' h = absurd h
    calls_on (Text _ _) i' h = absurd h
    calls_on (Offset _ _ _ _) i' h = absurd h
    calls_on (Index _ _ _ _ _ _ _ _) i' h = absurd h
    calls_on (RoutineValue _ _) i' h = absurd h
    calls_on (Load _ _ _) i' h = absurd h
    calls_on (Store _ _ _) i' h = absurd h
    calls_on (LoadByte _ _ _) i' h = absurd h
    calls_on (StoreByte _ _ _) i' h = absurd h
    calls_on (Jump _) i' h = absurd h
    calls_on (JumpBack _) i' h = absurd h
    calls_on (Branch _ _ _ _) i' h = absurd h
    calls_on (BranchBack _ _ _ _) i' h = absurd h
    calls_on (Return _) i' h = absurd h
    calls_on (Trap _ _) i' h = absurd h
    calls_on (Take _) i' h = absurd h
    calls_on (Put _) i' h = absurd h
    calls_on (New _ _ _) i' h = absurd h
    calls_on End i' h = absurd h
