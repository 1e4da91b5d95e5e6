-- What is known of places, environments and of what is passed, when objects are added and when an activation is
-- entered.
use Rattle.std.proofs.Common.{◌≡◌, ℕ, zero, suc, ◌+◌, ◌*◌, ◌<◌, ◌≤◌, ◌∙◌, arith, List, [], ◌∷◌, ◌++◌, slice_get}
use Rattle.ps_tree.specs.Tree.{Program, routine_at}
use Rattle.tac_code.specs.declared.code.Block.{Block}
use Rattle.tac_code.specs.declared.code.Value.{Value as Word}
use Rattle.ps_meaning.specs.Values.{Value, OrdinalValue, NilValue, ObjectValue, SetValue, StructureValue, Values}
use Rattle.ps_meaning.specs.Values.{no_value, value_before, Root, Declared, Made, Spot}
use Rattle.ps_meaning.specs.Worlds.{Env, Outside, Within, Frame, no_entry, variable_before, routine_before}
use Rattle.tac_code.specs.Memory.{Words}
use Rattle.tac_code.proofs.Items.{get_stays}
use Rattle.ps_lower_layout.specs.Shapes.{Shape, Shapes, no_shape, shape_before, NumberShape, PointerShape, SetShape}
use Rattle.ps_lower_layout.specs.Shapes.{ByteShape, ArrayShape, RecordShape, Part, Whole}
use Rattle.ps_lower_layout.specs.Paths.{PointsTo, HasShape, HaveShape, HaveShapes}
use Rattle.ps_lower_code.specs.Fits.{tail}
use Rattle.ps_lower_relation.specs.Ghosts.{Slot, OwnSlot, ReferenceSlot, ClosureSlot, Ghost, Numbered, RootAt, PlaceAt}
use Rattle.ps_lower_relation.specs.Ghosts.{EnvAt, FrameAt}
use Rattle.ps_lower_calls.specs.Passing.{Passing, PassValue, PassVariable, PassRoutine, PassingAt, PassingsAt}
use Rattle.ps_lower_calls.specs.Passing.{CopiedIn, IsPassed, ArePassed}
use Rattle.ps_lower_calls.proofs.Pushed.{place_pushed, env_pushed}

pub points_grow : (made more : List ℕ) (v : Value) (t : ℕ) → PointsTo made v t → PointsTo (made ++ more) v t
points_grow made more (ObjectValue object) t h = get_stays made more object t h
points_grow made more NilValue t h = tt
points_grow made more (OrdinalValue z) t h = absurd h
points_grow made more (SetValue s) t h = absurd h
points_grow made more (StructureValue vs) t h = absurd h

-- a value keeps its shape
mutual
  pub shape_grows : (made more : List ℕ) (shape : Shape) (v : Value) → HasShape made v shape → HasShape
      (made ++ more) v shape
  shape_grows made more (NumberShape first narrow) v h = h
  shape_grows made more (PointerShape pointer) v h = points_grow made more v pointer h
  shape_grows made more SetShape v h = h
  shape_grows made more (ByteShape count b) (StructureValue vs) h = h
  shape_grows made more (ByteShape count b) (OrdinalValue z) h = absurd h
  shape_grows made more (ByteShape count b) NilValue h = absurd h
  shape_grows made more (ByteShape count b) (ObjectValue z) h = absurd h
  shape_grows made more (ByteShape count b) (SetValue z) h = absurd h
  shape_grows made more (ArrayShape count shape) (StructureValue vs) h = components_grow made more count shape vs h
  shape_grows made more (ArrayShape count shape) (OrdinalValue z) h = absurd h
  shape_grows made more (ArrayShape count shape) NilValue h = absurd h
  shape_grows made more (ArrayShape count shape) (ObjectValue z) h = absurd h
  shape_grows made more (ArrayShape count shape) (SetValue z) h = absurd h
  shape_grows made more (RecordShape shapes) (StructureValue vs) h = fields_grow made more shapes vs h
  shape_grows made more (RecordShape shapes) (OrdinalValue z) h = absurd h
  shape_grows made more (RecordShape shapes) NilValue h = absurd h
  shape_grows made more (RecordShape shapes) (ObjectValue z) h = absurd h
  shape_grows made more (RecordShape shapes) (SetValue z) h = absurd h

  components_grow : (made more : List ℕ) (n : ℕ) (shape : Shape) (vs : Values) → HaveShape made vs n shape → HaveShape
      (made ++ more) vs n shape
  components_grow made more zero shape no_value h = tt
  components_grow made more zero shape (value_before v vs) h = absurd h
  components_grow made more (suc n) shape no_value h = absurd h
  components_grow made more (suc n) shape (value_before v vs) h =
      (shape_grows made more shape v h.0, h.1, components_grow made more n shape vs h.2)

  fields_grow : (made more : List ℕ) (shapes : Shapes) (vs : Values) → HaveShapes made vs shapes → HaveShapes
      (made ++ more) vs shapes
  fields_grow made more no_shape no_value h = tt
  fields_grow made more no_shape (value_before v vs) h = absurd h
  fields_grow made more (shape_before s rest) no_value h = absurd h
  fields_grow made more (shape_before s rest) (value_before v vs) h =
      (shape_grows made more s v h.0, fields_grow made more rest vs h.1)

copied_kept : (caller : ℕ) (old new : Words) (end later : ℕ) (shape : Shape) (v : Value) (x : Word) → end ≤ later
    → ((i : ℕ) → 4 * i < end → slice_get new i ≡ slice_get old i) → CopiedIn caller old end shape v x
    → CopiedIn caller new later shape v x
copied_kept caller old new end later shape v x l kept in_ =
    let within = in_.within in
    record {
      place = in_.place;
      is = in_.is;
      within = omega (arith, within, l);
      small = in_.small;
      reads = λ i low. kept (in_.place + i) (omega (arith, within, low)) ∙ in_.reads i low;
    }

-- what was copied to a caller's scratch block stays there while what lies below an end is kept
pub passed_kept : (caller : ℕ) (old new : Words) (end later : ℕ) (a : Passing) → end ≤ later
    → ((i : ℕ) → 4 * i < end → slice_get new i ≡ slice_get old i) → IsPassed caller old end a
    → IsPassed caller new later a
passed_kept caller old new end later (PassVariable shape s b o) l kept is = tt
passed_kept caller old new end later (PassRoutine kinds result r env w) l kept is = tt
passed_kept caller old new end later (PassValue (NumberShape first narrow) v x) l kept is = is
passed_kept caller old new end later (PassValue (PointerShape pointer) v x) l kept is = is
passed_kept caller old new end later (PassValue SetShape v x) l kept is = copied_kept caller old new end later SetShape
    v x l kept is
passed_kept caller old new end later (PassValue (ByteShape count b) v x) l kept is = copied_kept caller old new end
    later (ByteShape count b) v x l kept is
passed_kept caller old new end later (PassValue (ArrayShape count b) v x) l kept is = copied_kept caller old new end
    later (ArrayShape count b) v x l kept is
passed_kept caller old new end later (PassValue (RecordShape shapes) v x) l kept is = copied_kept caller old new end
    later (RecordShape shapes) v x l kept is

pub all_passed_kept : (caller : ℕ) (old new : Words) (end later : ℕ) (ps : List Passing) → end ≤ later
    → ((i : ℕ) → 4 * i < end → slice_get new i ≡ slice_get old i) → ArePassed caller old end ps
    → ArePassed caller new later ps
all_passed_kept caller old new end later [] l kept are = tt
all_passed_kept caller old new end later (a ∷ ps) l kept are =
    (passed_kept caller old new end later a l kept are.0, all_passed_kept caller old new end later ps l kept are.1)

module _ (program : Program) (gs : List Ghost) (made more : List ℕ) where
  root_grows : (root : Root) (path : List ℕ) (b : Block) (o : ℕ) (part : Part)
      → RootAt program gs made root path b o part → RootAt program gs (made ++ more) root path b o part
  root_grows (Declared name) path b o part h = record {
    ghost = h.ghost;
    index = h.index;
    shape = h.shape;
    place = h.place;
    inner = h.inner;
    block = h.block;
    there = h.there;
    slot = h.slot;
    stands = h.stands;
    inside = h.inside;
    offset = h.offset;
  }
  root_grows (Made object) path b o part h = record {
    pointer = h.pointer;
    block = h.block;
    of_type = get_stays made more object h.pointer h.of_type;
    inside = h.inside;
  }

  spot_grows : (s : Spot) (b : Block) (o : ℕ) (part : Part) → PlaceAt program gs made s b o part → PlaceAt program gs
      (made ++ more) s b o part
  spot_grows s b o part h = root_grows s.root s.path b o part h

  mutual
    pub env_grows : (env : Env) (w : Word) (chain : List ℕ) → EnvAt program gs made env w chain → EnvAt program gs
        (made ++ more) env w chain
    env_grows Outside w [] h = tt
    env_grows Outside w (r ∷ chain) h = absurd h
    env_grows (Within f env) w [] h = absurd h
    env_grows (Within f env) w (r ∷ chain) h =
        record {
          ghost = h.ghost;
          is = h.is;
          there = h.there;
          routine = h.routine;
          frame = frame_grows f h.ghost.slots h.frame;
          rest = env_grows env h.ghost.link chain h.rest;
          outermost = h.outermost;
          linked = h.linked;
        }

    frame_grows : (f : Frame) (xs : List Slot) → FrameAt program gs made f xs → FrameAt program gs (made ++ more) f xs
    frame_grows no_entry [] h = tt
    frame_grows no_entry (x ∷ xs) h = absurd h
    frame_grows (variable_before s f) [] h = absurd h
    frame_grows (variable_before s f) (OwnSlot shape n ∷ xs) h = (h.0, frame_grows f xs h.1)
    frame_grows (variable_before s f) (ReferenceSlot shape b o ∷ xs) h =
        (spot_grows s b o (Whole shape) h.0, frame_grows f xs h.1)
    frame_grows (variable_before s f) (ClosureSlot kinds result r w ∷ xs) h = absurd h
    frame_grows (routine_before r e f) [] h = absurd h
    frame_grows (routine_before r e f) (OwnSlot shape n ∷ xs) h = absurd h
    frame_grows (routine_before r e f) (ReferenceSlot shape b o ∷ xs) h = absurd h
    frame_grows (routine_before r e f) (ClosureSlot kinds result r' w ∷ xs) h = (
      h.0,
      record {
        within = h.1.within;
        chain = h.1.chain;
        inner = h.1.inner;
        same_kinds = h.1.same_kinds;
        same_result = h.1.same_result;
      },
      env_grows e w (tail (routine_at program r).chain) h.2,
      frame_grows f xs h.3,
    )

  -- what was passed stays what it is while further parameters are taken
  pub passing_grows : (a : Passing) → PassingAt program gs made a → PassingAt program gs (made ++ more) a
  passing_grows (PassVariable shape s b o) h = spot_grows s b o (Whole shape) h
  passing_grows (PassRoutine kinds result r env w) h = (
    record {
      within = h.0.within;
      chain = h.0.chain;
      inner = h.0.inner;
      same_kinds = h.0.same_kinds;
      same_result = h.0.same_result;
    },
    env_grows env w (tail (routine_at program r).chain) h.1,
  )
  passing_grows (PassValue shape v x) h = shape_grows made more shape v h

module _ (program : Program) (gs : List Ghost) (made : List ℕ) (new : Ghost) (numbered : Numbered gs new.number) where
  -- and in the activation that is entered
  pub passings_pushed : (ps : List Passing) → PassingsAt program gs made ps → PassingsAt program (new ∷ gs) made ps
  passings_pushed [] h = tt
  passings_pushed (PassValue shape v x ∷ ps) h = (h.0, passings_pushed ps h.1)
  passings_pushed (PassVariable shape s b o ∷ ps) h =
      (place_pushed program gs made new numbered s b o (Whole shape) h.0, passings_pushed ps h.1)
  passings_pushed (PassRoutine kinds result r env w ∷ ps) h = (
    (
      record {
        within = h.0.0.within;
        chain = h.0.0.chain;
        inner = h.0.0.inner;
        same_kinds = h.0.0.same_kinds;
        same_result = h.0.0.same_result;
      },
      env_pushed program gs made new numbered env w (tail (routine_at program r).chain) h.0.1,
    ),
    passings_pushed ps h.1,
  )
