-- Apostrophes within a string: the second of two is passed over.
use Rattle.std.proofs.Common.{◌≡◌, ℕ, ◌+◌, ◌<◌, true, false, length, drop, refl}
use Rattle.std.proofs.lemmas.List.{drop_more}
use Rattle.ps_scan.specs.Tables.{Bytes}
use Rattle.ps_scan.specs.Values.{characters_after}

pub twin_passes : (bs : Bytes) (i : ℕ) → i < length bs → characters_after true (drop i bs) ≡ characters_after false
    (drop (i + 1) bs)
twin_passes bs i inside = rw (drop_more bs i 0 inside) refl
