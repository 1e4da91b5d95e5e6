-- Facts about places outlive what follows, since objects are only added.
use Rattle.std.proofs.Common.{◌≡◌, ℕ, zero, suc, ◌+◌, ◌<◌, ◌≤◌, List, [], ◌∷◌, ◌++◌, slice_get, get_or, Some, refl}
use Rattle.std.proofs.Common.{sym, ◌∙◌, subst, arith}
use Rattle.tac_code.specs.declared.code.Block.{Block}
use Rattle.tac_code.specs.declared.code.Base.{Base}
use Rattle.tac_code.specs.declared.code.Base.TheVariants as base
use Rattle.tac_code.specs.Meaning.{Temporaries}
use Rattle.tac_code.proofs.Items.{get_stays}
use Rattle.ps_meaning.specs.Values.{Root, Declared, Made, Spot, step}
use Rattle.ps_meaning.specs.Worlds.{World, no_spot}
use Rattle.tac_code_steps.proofs.Pieces.{same_some, some_none}
use Rattle.ps_lower_layout.specs.Shapes.{Shape, Part, Whole}
use Rattle.ps_lower_layout.specs.Paths.{PathIn}
use Rattle.ps_lower_code.specs.Scopes.{Site}
use Rattle.ps_lower_relation.proofs.Places.{place_step}
use Rattle.ps_lower_relation.specs.Ghosts.{RootAt, PlaceAt}
use Rattle.ps_lower_relation.specs.Here.{Setting, Work, Activated, base_at, IsBelow, SiteAt, OpenedAt, Keeps}
use Rattle.ps_lower_constructs.specs.Openings.{Opening, IsOpened}

module _ (p : Setting) (c : Activated) where
  root_grows : (made more : List ℕ) (root : Root) (path : List ℕ) (b : Block) (o : ℕ) (part : Part)
      → RootAt p.program c.ghosts made root path b o part → RootAt p.program c.ghosts (made ++ more) root path b o part
  root_grows made more (Declared name) path b o part h = record {
    ghost = h.ghost;
    index = h.index;
    shape = h.shape;
    place = h.place;
    inner = h.inner;
    block = h.block;
    there = h.there;
    slot = h.slot;
    stands = h.stands;
    inside = h.inside;
    offset = h.offset;
  }
  root_grows made more (Made object) path b o part h = record {
    pointer = h.pointer;
    block = h.block;
    of_type = get_stays made more object h.pointer h.of_type;
    inside = h.inside;
  }

  pub place_grows : (made more : List ℕ) (s : Spot) (b : Block) (o : ℕ) (part : Part)
      → PlaceAt p.program c.ghosts made s b o part → PlaceAt p.program c.ghosts (made ++ more) s b o part
  place_grows made more s b o part h = root_grows made more s.root s.path b o part h

  pub base_same : (t t' : Temporaries) (d : ℕ) (b : Base) → IsBelow d b → ((i : ℕ) → i < d → t' i ≡ t i)
      → base_at c.number t' b ≡ base_at c.number t b
  base_same t t' d base.Frame l h = refl
  base_same t t' d base.Scratch l h = refl
  base_same t t' d base.Program l h = refl
  base_same t t' d (base.Temporary u) l h = h u l

  pub below_more : (d e : ℕ) (b : Base) → d ≤ e → IsBelow d b → IsBelow e b
  below_more d e base.Frame l h = tt
  below_more d e base.Scratch l h = tt
  below_more d e base.Program l h = tt
  below_more d e (base.Temporary u) l h = omega (arith, l, h)

  pub site_kept : (d x : ℕ) (w w' : World) (k k' : Work) (site : Site) (s : Spot) (part : Part) → IsBelow d site.base
      → Keeps d x w k w' k' → SiteAt p c w.made k.temporaries site s part
      → SiteAt p c w'.made k'.temporaries site s part
  site_kept d x w w' k k' site s part l a h =
      record {
        block = h.block;
        offset = h.offset;
        base = base_same k.temporaries k'.temporaries d site.base l a.temporaries ∙ h.base;
        place = subst (λ m. PlaceAt p.program c.ghosts m s h.block (h.offset + site.offset) part) (sym a.grown.1)
            (place_grows w.made a.grown.0 s h.block (h.offset + site.offset) part h.place);
      }

  opened_lists : (d x e : ℕ) (w w' : World) (k k' : Work) (xs : List Site) (ss : List Spot) (hs : List Shape) → d ≤ e
      → Keeps d x w k w' k' → OpenedAt p c w.made k.temporaries d xs ss hs
      → OpenedAt p c w'.made k'.temporaries e xs ss hs
  opened_lists d x e w w' k k' [] [] [] l a o = tt
  opened_lists d x e w w' k k' (y ∷ xs) (s ∷ ss) (h ∷ hs) l a o = (
    site_kept d x w w' k k' y s (Whole h) o.1 a o.0,
    below_more d e y.base l o.1,
    opened_lists d x e w w' k k' xs ss
        hs l a o.2,
  )
  opened_lists d x e w w' k k' [] [] (h ∷ hs) l a o = absurd o
  opened_lists d x e w w' k k' [] (s ∷ ss) hs l a o = absurd o
  opened_lists d x e w w' k k' (y ∷ xs) [] hs l a o = absurd o
  opened_lists d x e w w' k k' (y ∷ xs) (s ∷ ss) [] l a o = absurd o

  pub opened_kept : (d x e : ℕ) (w w' : World) (k k' : Work) (o : Opening) → d ≤ e → Keeps d x w k w' k'
      → IsOpened p c w k d o → IsOpened p c w' k' e o
  opened_kept d x e w w' k k' o l a h = opened_lists d x e w w' k k' o.sites o.spots o.shapes l a h

  -- a site one step further
  abbrev pub moved_by : Site → ℕ → Site
  moved_by site m = record { base = site.base; offset = site.offset + m }

  pub stepped : (made : List ℕ) (t : Temporaries) (site : Site) (s : Spot) (k m : ℕ) (shape : Shape) (part : Part)
      → SiteAt p c made t site s (Whole shape) → PathIn (k ∷ []) shape part m → SiteAt p c made t (moved_by site m)
      (step s k) part
  stepped made t site s k m shape part at path =
      let z : at.offset + site.offset + m ≡ at.offset + (site.offset + m) = omega arith in
      record {
        block = at.block;
        offset = at.offset;
        base = at.base;
        place = subst (λ q. PlaceAt p.program c.ghosts made (step s k) at.block q part) z
            (place_step p.program c.ghosts made s at.block (at.offset + site.offset) m k shape part at.place path);
      }

  -- a record that was opened
  pub opened_get : (made : List ℕ) (t : Temporaries) (d : ℕ) (xs : List Site) (ss : List Spot) (hs : List Shape)
      (which : ℕ) (h : Shape) → OpenedAt p c made t d xs ss hs → slice_get hs which ≡ Some h → (y : Site)
      × (slice_get xs which ≡ Some y) × SiteAt p c made t y (get_or ss which no_spot) (Whole h) × IsBelow d y.base
  opened_get made t d [] [] [] which h o e = some_none e
  opened_get made t d (y ∷ xs) (s ∷ ss) (g ∷ hs) zero h o e =
      (y, refl, subst (λ z. SiteAt p c made t y s (Whole z)) (same_some e) o.0, o.1)
  opened_get made t d (y ∷ xs) (s ∷ ss) (g ∷ hs) (suc which) h o e = opened_get made t d xs ss hs which h o.2 e
  opened_get made t d [] [] (g ∷ hs) which h o e = absurd o
  opened_get made t d [] (s ∷ ss) hs which h o e = absurd o
  opened_get made t d (y ∷ xs) [] hs which h o e = absurd o
  opened_get made t d (y ∷ xs) (s ∷ ss) [] which h o e = absurd o
