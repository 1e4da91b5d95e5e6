-- What the tables of an image charge for activations and objects, by the cells and nodes of the program that it was
-- made from.
use Rattle.std.proofs.Common.{◌≡◌, ℕ, zero, suc, ◌+◌, ◌*◌, ◌<◌, ◌≤◌, List, [], ◌∷◌, length, map, get_or, Some}
use Rattle.std.proofs.Common.{slice_get, refl, ◌∙◌, arith}
use Rattle.std.proofs.lemmas.List.{length-map}
use Rattle.ps_tree.specs.Types.{PointerType}
use Rattle.ps_tree.specs.Sizes.{cells}
use Rattle.ps_tree.specs.Counts.{routine_cells, routine_nodes}
use Rattle.ps_tree.specs.Tree.{Program, no_routine, routine_at, domain_at}
use Rattle.ps_meaning.specs.Costs.{Bounded}
use Rattle.tac_rt.specs.Bodies.{run_time_routines}
use Rattle.ps_lower_code.specs.Programs.{tac_of, object_bytes, code_of}
use Rattle.ps_lower_bounds.specs.Sizes.{RoutinesAreBounded, ObjectsAreBounded}
use Rattle.risc_image.specs.Image.{Image}
use Rattle.risc_load.specs.Shows.{frame_bytes, object_bytes as charged_bytes}
use Rattle.ps_build.specs.Made.{KeepsBounds}
use Rattle.ps_build.proofs.Rooms.{room_bounded}

-- a row for each routine and each pointer type, within the bounds
pub record IsCharged (checked : Program) (image : Image) : Type 0 where
  pub routines : length image.frames ≡ length checked.routines
  pub types : length image.objects ≡ length checked.domains
  pub bounded : Bounded checked (frame_bytes image) (charged_bytes image)

mapped_at : {X Y : Type 0} (f : X → Y) (xs : List X) (i : ℕ) (d : X) → i < length xs → slice_get (map f xs) i ≡ Some
    (f (get_or xs i d))
mapped_at f [] i d lt = absurd (omega (arith, lt))
mapped_at f (x ∷ xs) zero d lt = refl
mapped_at f (x ∷ xs) (suc i) d lt = mapped_at f xs i d (omega (arith, lt))

module _ (routines_are_bounded : RoutinesAreBounded) (objects_are_bounded : ObjectsAreBounded) (checked : Program)
    (image : Image) (has : KeepsBounds (code_of run_time_routines checked) image) where
  frame_within : (r : ℕ) → r < length checked.routines → (4 ≤ get_or (frame_bytes image) r 0)
      × (get_or (frame_bytes image) r 0 ≤ 320 + 4 * routine_cells (routine_at checked r) + 64 * routine_nodes
      (routine_at checked r))
  frame_within r lt =
      let cost = has.frames r (tac_of checked (routine_at checked r))
      (mapped_at (tac_of checked) checked.routines r no_routine lt) in
      let room = room_bounded routines_are_bounded checked (routine_at checked r) in
      (omega (arith, cost), omega (arith, cost, room))

  object_within : (t : ℕ) → t < length checked.domains → (4 ≤ get_or (charged_bytes image) t 0)
      × (get_or (charged_bytes image) t 0 ≤ 4 * cells (domain_at checked t) + 4)
  object_within t lt =
      let cost = has.objects t (object_bytes (domain_at checked t))
      (mapped_at object_bytes checked.domains t (PointerType 0) lt) in
      let most = objects_are_bounded (domain_at checked t) in
      (cost.0, omega (arith, cost, most))

  pub charged : IsCharged checked image
  charged =
      record {
        routines = has.routines ∙ length-map checked.routines (tac_of checked);
        types = has.types ∙ length-map checked.domains object_bytes;
        bounded = record { frames = frame_within; objects = object_within };
      }
