-- Entries and routines this many levels up, as the lowering finds them.
use Rattle.std.proofs.Common.{◌≡◌, ℕ, zero, suc, ◌<◌, List, [], ◌∷◌, length, drop, get_or, Some, slice_get, refl, sym}
use Rattle.std.proofs.Common.{ap, ◌∙◌, arith}
use Rattle.ps_tree.specs.Tree.{routine_at}
use Rattle.ps_lower_layout.specs.Shapes.{Shape}
use Rattle.ps_lower_layout.specs.Frames.{Kind, entries}
use Rattle.ps_lower_code.specs.Scopes.{Scope, kind_at}
use Rattle.ps_lower_code.specs.Fits.{shape_in, DeclaredAt}
use Rattle.ps_check_names.specs.Regions.{Heading, RoutineMeaning}
use Rattle.ps_lower_accepted.proofs.Standing.{EntryIs, ShapeIs, IsDeclared, MeaningStands}

-- the routine there
pub record Reached (chain : List ℕ) (up r : ℕ) : Type 0 where
  pub within : up < length chain
  pub number : get_or chain up 0 ≡ r

pub reached : (chain : List ℕ) (up r : ℕ) (rest : List ℕ) → drop up chain ≡ r ∷ rest → Reached chain up r
reached [] zero r rest e = absurd (cc)
reached [] (suc up) r rest e = absurd (cc)
reached (q ∷ chain) zero r rest e = record { within = omega arith; number = ap (λ l. get_or l 0 0) e }
reached (q ∷ chain) (suc up) r rest e = let h = reached chain up r rest e in record {
  within = let w = h.within in omega (arith, w);
  number = h.number;
}

module _ (k : Scope) (up : ℕ) where
  pub entry_there : (i : ℕ) (kind : Kind) → EntryIs k.program (drop up k.chain) i kind → (up < length k.chain)
      × (kind_at k up i ≡ Some kind)
  entry_there i kind h = go (drop up k.chain) refl h
    where
      go : (chain : List ℕ) → drop up k.chain ≡ chain → EntryIs k.program chain i kind → (up < length k.chain)
          × (kind_at k up i ≡ Some kind)
      go [] e g = absurd g
      go (r ∷ rest) e g = let there = reached k.chain up r rest e
          in (there.within, ap (λ q. slice_get (entries (routine_at k.program q)) i) there.number ∙ g)

  pub shape_there : (i : ℕ) (shape : Shape) → ShapeIs k.program (drop up k.chain) i shape → (up < length k.chain)
      × (shape_in (kind_at k up i) ≡ Some shape)
  shape_there i shape h = go (drop up k.chain) refl h
    where
      go : (chain : List ℕ) → drop up k.chain ≡ chain → ShapeIs k.program chain i shape → (up < length k.chain)
          × (shape_in (kind_at k up i) ≡ Some shape)
      go [] e g = absurd g
      go (r ∷ rest) e g = let there = reached k.chain up r rest e
          in (there.within, ap (λ q. shape_in (slice_get (entries (routine_at k.program q)) i)) there.number ∙ g)

  -- the routine of a heading, declared there
  pub record DeclaredThere (h : Heading) : Type 0 where
    pub at : DeclaredAt k h.number up
    pub is : IsDeclared k.program (drop up k.chain) h

  pub declared_there : (h : Heading) → MeaningStands k.program (drop up k.chain) (RoutineMeaning h) → DeclaredThere h
  declared_there h m = go (drop up k.chain) refl m
    where
      go : (chain : List ℕ) → drop up k.chain ≡ chain → MeaningStands k.program chain (RoutineMeaning h)
          → DeclaredThere h
      go [] e g = absurd g
      go (r ∷ rest) e g = let there = reached k.chain up r rest e in record {
        at = (g.some, there.within, g.number ∙ ap (λ l. h.number ∷ l) (sym e));
        is = record {
          some = g.some;
          number = g.number ∙ ap (λ l. h.number ∷ l) (sym e);
          formals = g.formals;
          result = g.result;
        };
      }
