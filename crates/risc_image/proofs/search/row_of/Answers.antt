-- The rows below and above the middle one, by the order of the keys.
use Rattle.std.proofs.Common.{◌≡◌, ℕ, ◌+◌, ◌-◌, ◌*◌, ◌/◌, ◌<◌, ◌≤◌, List, get_or, inl, inr, arith}
use Rattle.std.proofs.Math.Nat.{mul-le-mul_left}
use Rattle.std.proofs.lemmas.Bool.{cases_lt}
use Rattle.risc_image.specs.Search.{KeysRise}
use Rattle.risc_image.proofs.search.row_of.Goals as goal

-- row m of so many rows lies within their words
row_within : (width m count : ℕ) → m < count → width * m + width ≤ width * count
row_within width m count lt =
    let next : m + 1 ≤ count = omega arith in
    omega (arith, mul-le-mul_left width next)

-- a key that is above row m is above the rows up to it, and likewise from it on
keys_below : (width count : ℕ) (ws : List ℕ) (m key : ℕ) → KeysRise width count ws → m < count → get_or ws
    (width * m) 0 < key
    → (k : ℕ) → k < m + 1 → get_or ws (width * k) 0 < key
keys_below width count ws m key rising within low k lt =
    elim (cases_lt k m) [
      | inl before ↦ omega (arith, rising k m before within)
      | inr after ↦ (let same : k ≡ m = omega arith in rw same low)
    ]

keys_above : (width count : ℕ) (ws : List ℕ) (m key : ℕ) → KeysRise width count ws → key < get_or ws (width * m) 0
    → (k : ℕ) → m ≤ k → k < count → key < get_or ws (width * k) 0
keys_above width count ws m key rising high k from within =
    elim (cases_lt m k) [
      | inl before ↦ omega (arith, rising m k before within)
      | inr after ↦ (let same : k ≡ m = omega arith in rw same high)
    ]

pub word_at-found-requires : goal.word_at-found-requires
word_at-found-requires c =
    omega (
      arith,
      row_within c.args.width (c.loop-low.low + (c.loop-low.high - c.loop-low.low) / 2) c.args.count
          (omega arith),
    )

pub loop-low-preserved-then-found-key-2 : goal.loop-low-preserved-then-found-key-2
loop-low-preserved-then-found-key-2 c = record {
  within = omega arith;
  below = keys_below c.args.width c.args.count _
      (c.loop-low.low + (c.loop-low.high - c.loop-low.low) / 2) c.args.key c.requires.rising (omega arith)
      (omega arith);
  above = c.loop-low.invariant.above;
}

pub loop-low-preserved : goal.loop-low-preserved
loop-low-preserved c = record {
  within = omega arith;
  below = c.loop-low.invariant.below;
  above = keys_above c.args.width c.args.count _
      (c.loop-low.low + (c.loop-low.high - c.loop-low.low) / 2) c.args.key c.requires.rising (omega arith);
}
