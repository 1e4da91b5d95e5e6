-- The homes of a routine's temporaries are among all homes.
use Rattle.std.proofs.Common.{◌≡◌, ℕ, ◌+◌, ◌<◌, ◌≤◌, List, [], ◌∷◌, length, take, drop, slice_get, Option, Some, None}
use Rattle.std.proofs.Common.{refl, sym, ap, ◌∙◌, arith}
use Rattle.tac_code.specs.declared.code.TacRoutine.{TacRoutine}
use Rattle.tac_code.specs.Meaning.{Code, routines}
use Rattle.risc_alloc.specs.declared.homes.Home.{Home}
use Rattle.risc_alloc.specs.declared.homes.Home.TheVariants.{Reg}
use Rattle.risc_alloc.specs.Homes.{temporaries_before, homes_of, home_in, home_of, found}
use Rattle.risc_alloc.specs.Valid.{Valid}
use Rattle.risc_alloc.proofs.Whole.{before_more, before_within, homes_part}
use Rattle.risc_emit.specs.Frames.{AreHomes}

module _ (code : Code) (homes : List Home) (valid : Valid code homes) (r first : ℕ) (routine : TacRoutine)
    (begins : first ≡ temporaries_before (routines code) r) (is : slice_get (routines code) r ≡ Some routine) where
  pub homes_room : first + routine.temporaries ≤ length homes
  homes_room =
      let count = valid.count in
      let within = before_within (routines code) r routine is in
      omega (arith, begins, count, within)

  pub homes_are_own : (own : List Home) → r < length (routines code) → own ≡ take routine.temporaries (drop first homes)
      → AreHomes code homes r own
  homes_are_own own lt part =
      let same : own ≡ homes_of code homes r = part ∙ ap (λ n. take routine.temporaries (drop n homes)) begins ∙ sym
      (homes_part code homes r routine is) in
      record {
        exists = lt;
        is_own = same;
        register = λ t q e. valid.register r t q (ap (λ l. found (slice_get l t)) (sym same) ∙ ap found e);
      }

pub before_none : (rs : List TacRoutine) → 0 ≡ temporaries_before rs 0
before_none [] = refl
before_none (x ∷ rs) = refl

pub before_next : (rs : List TacRoutine) (r first : ℕ) (x : TacRoutine) → first ≡ temporaries_before rs r
    → slice_get rs r ≡ Some x → first + x.temporaries ≡ temporaries_before rs (r + 1)
before_next rs r first x begins is = ap (λ n. n + x.temporaries) begins ∙ sym (before_more rs r x is)

-- what is found among the homes of a routine is the temporary's home, and its register is below 12
module _ (code : Code) (homes : List Home) (r : ℕ) (own : List Home) (t : ℕ) (h : Home)
    (are : AreHomes code homes r own) (is : h ≡ home_in own t) where
  pub home_is : h ≡ home_of code homes r t
  home_is = is ∙ ap (λ (l : List Home). home_in l t) are.is_own

  pub register_below : (q : ℕ) → h ≡ Reg q → q < 12
  register_below q e = go (slice_get own t) refl
    where
      go : (o : Option Home) → slice_get own t ≡ o → q < 12
      go None none =
          let first : Reg 0 ≡ Reg q = sym (is ∙ ap found none) ∙ e in
          let same : 0 ≡ q = cc first in
          omega (arith, same)
      go (Some x) some =
          let same : x ≡ Reg q = sym (is ∙ ap found some) ∙ e in
          are.register t q (some ∙ ap (λ (y : Home). Some y) same)
