-- Code whose routines have all the temporaries that there is room for keeps the invariant, and may stand in the place of
-- the code that it was made from.
use Rattle.std.proofs.Common.{◌≡◌, ℕ, zero, suc, ◌+◌, ◌<◌, ◌≤◌, List, [], ◌∷◌, ◌++◌, length, map, take}
use Rattle.std.proofs.Common.{slice_get, Some, refl, sym, ap, ◌∙◌, subst, arith}
use Rattle.std.specs.List.{All}
use Rattle.std.proofs.lemmas.List.{length-map}
use Rattle.std.proofs.lemmas.Option.{none-some, same_Some, slice_get_within, get_or_from_slice_get}
use Rattle.tac_code.specs.declared.check.Limits.{Limits}
use Rattle.tac_code.specs.declared.code.TheConstants.{BLOCK_LIMIT}
use Rattle.tac_code.specs.declared.code.Operand.{Operand}
use Rattle.tac_code.specs.declared.code.Operand.TheVariants as operand
use Rattle.tac_code.specs.declared.code.Base.{Base}
use Rattle.tac_code.specs.declared.code.Base.TheVariants as base
use Rattle.tac_code.specs.declared.code.Instruction.{Instruction}
use Rattle.tac_code.specs.declared.code.Instruction.TheVariants.{Literal, Copy, Arithmetic, Bits, Compare, CheckRange}
use Rattle.tac_code.specs.declared.code.Instruction.TheVariants.{CheckPointer, Text, Offset, Index, RoutineValue, Load}
use Rattle.tac_code.specs.declared.code.Instruction.TheVariants.{Store, LoadByte, StoreByte, Jump, JumpBack, Branch}
use Rattle.tac_code.specs.declared.code.Instruction.TheVariants.{BranchBack, Call, CallValue, Return, Trap, Take, Put}
use Rattle.tac_code.specs.declared.code.Instruction.TheVariants.{New, End}
use Rattle.tac_code.specs.declared.code.TacRoutine.{TacRoutine}
use Rattle.tac_code.specs.Meaning.{Code, size}
use Rattle.tac_code.specs.Sound.{IsOperand, IsBase, IsSoundAt, IsSoundRoutine, IsSound, AreSoundRoutines, limits_of}
use Rattle.tac_pass_laws.specs.Passed.{room, IsPassed}
use Rattle.tac_pass_laws.proofs.Passed.{passes_compose}
use Rattle.tac_known.specs.Lean.{LeanRoutine}
use Rattle.tac_known.proofs.Itself.{itself_is_lean}
use Rattle.tac_known.proofs.Room.{lean_are_passed}
use Rattle.tac_plan.specs.Passes.{Passes}
use Rattle.tac_plan.specs.Roomy.{with_room, roomy, HasRoom, FillsRoom}
use Rattle.tac_plan.proofs.Passing.{is_passed}

-- ---- more temporaries

abbrev wider : Limits → ℕ → Limits
wider l n = record {
  temporaries = n;
  places = l.places;
  routines = l.routines;
  object_types = l.object_types;
  scratch = l.scratch;
}

all_below : (n k : ℕ) → n ≤ k → (list : List ℕ) → All (λ t. t < n) list → All (λ t. t < k) list
all_below n k le list below = λ i d lt. let low = below i d lt in omega (arith, le, low)

operand_at : (n k : ℕ) → n ≤ k → (b : Operand) → IsOperand n b → IsOperand k b
operand_at n k le (operand.Temporary t) lt = omega (arith, le, lt)
operand_at n k le (operand.Number z) s = s

module _ (l : Limits) (n : ℕ) (le : l.temporaries ≤ n) where
  below : (t : ℕ) → t < l.temporaries → t < n
  below t lt = omega (arith, le, lt)

  base_at : (b : Base) (offset bytes : ℕ) → IsBase l b offset bytes → IsBase (wider l n) b offset bytes
  base_at base.Frame offset bytes s = s
  base_at base.Scratch offset bytes s = s
  base_at base.Program offset bytes s = s
  base_at (base.Temporary t) offset bytes lt = below t lt

  right : (b : Operand) → IsOperand l.temporaries b → IsOperand n b
  right = operand_at l.temporaries n le

  list_at : (list : List ℕ) → All (λ t. t < l.temporaries) list → All (λ t. t < n) list
  list_at = all_below l.temporaries n le

  sound_at : (p : ℕ) (i : Instruction) → IsSoundAt l p i → IsSoundAt (wider l n) p i
  sound_at p (Literal t z) (x, y) = (below t x, y)
  sound_at p (Copy t a) (x, y) = (below t x, below a y)
  sound_at p (Arithmetic o t a b e k) (x, y, z, w, v) = (below t x, below a y, right b z, w, v)
  sound_at p (Bits o t a b) (x, y, z) = (below t x, below a y, right b z)
  sound_at p (Compare r t a b) (x, y, z) = (below t x, below a y, right b z)
  sound_at p (CheckRange a low high e k) (x, y, z, w, v) = (below a x, y, z, w, v)
  sound_at p (CheckPointer a e k) (x, y, z) = (below a x, y, z)
  sound_at p (Text t bytes) (x, y) = (below t x, y)
  sound_at p (Offset t a m x) (y, z) = (below t y, base_at a m x z)
  sound_at p (Index t a i low high n0 e k) (x, y, z, w, v, u, s) =
      (below t x, base_at a 0 0 y, below i z, w, v, u, s)
  sound_at p (RoutineValue t r) (x, y) = (below t x, y)
  sound_at p (Load t a m) (x, y) = (below t x, base_at a m 4 y)
  sound_at p (Store a m b) (x, y) = (base_at a m 4 x, below b y)
  sound_at p (LoadByte t a m) (x, y) = (below t x, base_at a m 1 y)
  sound_at p (StoreByte a m b) (x, y) = (base_at a m 1 x, below b y)
  sound_at p (Jump m) s = s
  sound_at p (JumpBack m) s = s
  sound_at p (Branch r a b m) (x, y, z) = (below a x, right b y, z)
  sound_at p (BranchBack r a b m) (x, y, z) = (below a x, right b y, z)
  sound_at p (Call t r list k) (x, y, (many, z), w) = (below t x, y, (many, list_at list z), w)
  sound_at p (CallValue t a list k) (x, y, (many, z), w) = (below t x, below a y, (many, list_at list z), w)
  sound_at p (Return a) x = below a x
  sound_at p (Trap e k) s = s
  sound_at p (Take t) x = below t x
  sound_at p (Put a) x = below a x
  sound_at p (New t o k) (x, y, z) = (below t x, y, z)
  sound_at p End s = s

-- ---- the invariant

all_at : {X : Type 0} (P : X → Type 0) (xs : List X) (i : ℕ) (x : X) → All P xs → slice_get xs i ≡ Some x → P x
all_at P xs i x all e = subst P (get_or_from_slice_get xs i x x e) (all i x (slice_get_within xs i x e))

mapped_back : {X Y : Type 0} (f : X → Y) (xs : List X) (i : ℕ) (y : Y) → slice_get (map f xs) i ≡ Some y →
    (x : X) × (slice_get xs i ≡ Some x) × (f x ≡ y)
mapped_back f [] i y e = absurd (none-some y e)
mapped_back f (x ∷ xs) zero y e = (x, refl, same_Some (f x) y e)
mapped_back f (x ∷ xs) (suc i) y e = mapped_back f xs i y e

with_room_is_sound : (l : Limits) (x : TacRoutine) → l.temporaries ≡ x.temporaries → room x < BLOCK_LIMIT →
    IsSoundRoutine l x → IsSoundRoutine (wider l (with_room x).temporaries) (with_room x)
with_room_is_sound l x same small sound =
    let le : l.temporaries ≤ (with_room x).temporaries = omega (arith, same) in
    let p = sound.parameters in
    record {
      parameters = omega (arith, p);
      frame = sound.frame;
      scratch = sound.scratch;
      bytes = small;
      begins = sound.begins;
      body = λ i instruction e. sound_at l (with_room x).temporaries le i instruction (sound.body i instruction e);
    }

module _ (code : Code) where
  abbrev limits_among : ℕ → TacRoutine → Limits
  limits_among many routine = record {
    temporaries = routine.temporaries;
    places = length routine.body;
    routines = many + length code.run_time;
    object_types = length code.objects;
    scratch = routine.scratch;
  }

  as_many : length code.program ≡ length (map with_room code.program)
  as_many = sym (length-map code.program with_room)

  among : (x : TacRoutine) → IsSoundRoutine (limits_of code x) x → IsSoundRoutine (limits_of (roomy code) x) x
  among x = subst (λ (k : ℕ). IsSoundRoutine (limits_among k x) x) as_many

  one_is_sound : (x : TacRoutine) → room x < BLOCK_LIMIT → IsSoundRoutine (limits_of code x) x →
      IsSoundRoutine (limits_of (roomy code) (with_room x)) (with_room x)
  one_is_sound x small sound =
      subst (λ (k : ℕ). IsSoundRoutine (limits_among k (with_room x)) (with_room x)) as_many
      (with_room_is_sound (limits_of code x) x refl small sound)

  program_is_sound : HasRoom code → AreSoundRoutines code code.program →
      AreSoundRoutines (roomy code) (map with_room code.program)
  program_is_sound has sound i y e =
      let one = mapped_back with_room code.program i y e in
      subst (λ (x : TacRoutine). IsSoundRoutine (limits_of (roomy code) x) x) one.2
      (one_is_sound one.0 (all_at (λ x. room x < BLOCK_LIMIT) code.program i one.0 has one.1) (sound i one.0 one.1))

  pub roomy_is_sound : HasRoom code → IsSound code → IsSound (roomy code)
  roomy_is_sound has sound =
      let begins = sound.begins in
      let many = as_many in
      record {
        begins = omega (arith, begins, many);
        program = program_is_sound has sound.program;
        run_time = λ i x e. among x (sound.run_time i x e);
        leaves = sound.leaves;
        objects = sound.objects;
        types = sound.types;
      }

pub parts_are_sound : (code parts : Code) → HasRoom code → IsSound code → parts.program ≡ map with_room code.program
    → parts.run_time ≡ code.run_time → parts.objects ≡ code.objects → IsSound parts
parts_are_sound code parts has sound p r o =
    subst (λ (xs : List TacRoutine). IsSound (record { program = xs; run_time = parts.run_time; objects = parts.objects }))
    (sym p)
    (subst (λ (ys : List TacRoutine). IsSound (record {
      program = map with_room code.program;
      run_time = ys;
      objects = parts.objects;
    })) (sym r)
    (subst (λ (zs : List ℕ). IsSound (record {
      program = map with_room code.program;
      run_time = code.run_time;
      objects = zs;
    })) (sym o) (roomy_is_sound code has sound)))

-- ---- in the place of the code

lean_itself : (x : TacRoutine) → LeanRoutine x x
lean_itself x = record {
  heading = record { parameters = refl; frame = refl; scratch = refl; line = refl };
  temporaries = omega arith;
  body = itself_is_lean x.body;
}

lean_with_room : (x : TacRoutine) → LeanRoutine x (with_room x)
lean_with_room x = record {
  heading = record { parameters = refl; frame = refl; scratch = refl; line = refl };
  temporaries = omega arith;
  body = itself_is_lean x.body;
}

lean_at : (xs ys : List TacRoutine) (r : ℕ) (x : TacRoutine) → slice_get (xs ++ ys) r ≡ Some x → (x' : TacRoutine)
    × (slice_get (map with_room xs ++ ys) r ≡ Some x') × LeanRoutine x x'
lean_at [] ys r x e = (x, e, lean_itself x)
lean_at (z ∷ xs) ys zero x e =
    (with_room z, refl, subst (λ (w : TacRoutine). LeanRoutine w (with_room z)) (same_Some z x e) (lean_with_room z))
lean_at (z ∷ xs) ys (suc r) x e = lean_at xs ys r x e

pub roomy_is_passed : (code : Code) → IsPassed code (roomy code)
roomy_is_passed code = lean_are_passed code (roomy code) (record {
  program = length-map code.program with_room;
  run_time = refl;
  objects = refl;
  routines = lean_at code.program code.run_time;
})

pub is_passed_roomy : (code made : Code) → made ≡ roomy code → IsPassed code made
is_passed_roomy code made e = subst (IsPassed code) (sym e) (roomy_is_passed code)

-- what plans make of it may stand there, too
pub passes_roomy : (old between new : Code) → IsPassed old between → Passes between new → IsPassed old new
passes_roomy old between new passed passes = passes_compose old between new passed (is_passed between new passes)

-- ---- the room is filled

sizes_with_room : (xs : List TacRoutine) → map size (map with_room xs) ≡ map room xs
sizes_with_room [] = refl
sizes_with_room (x ∷ xs) = ap (λ (ns : List ℕ). room x ∷ ns) (sizes_with_room xs)

pub fills_roomy : (code made : Code) → made ≡ roomy code → FillsRoom code made
fills_roomy code made e = subst (FillsRoom code) (sym e) (sizes_with_room code.program)

pub passes_fill : (old between new : Code) → FillsRoom old between → map size new.program ≡ map size between.program
    → FillsRoom old new
passes_fill old between new fills same = same ∙ fills

mapped_end : (xs : List TacRoutine) (x : TacRoutine) → map size (xs ++ x ∷ []) ≡ map size xs ++ size x ∷ []
mapped_end [] x = refl
mapped_end (y ∷ ys) x = ap (λ (ns : List ℕ). size y ∷ ns) (mapped_end ys x)

take_more : (xs : List TacRoutine) (n : ℕ) (x : TacRoutine) → slice_get xs n ≡ Some x → take (suc n) xs ≡ take n xs
    ++ x ∷ []
take_more [] n x e = absurd (none-some x e)
take_more (y ∷ ys) zero x e = ap (λ (w : TacRoutine). w ∷ []) (same_Some y x e)
take_more (y ∷ ys) (suc n) x e = ap (λ (l : List TacRoutine). y ∷ l) (take_more ys n x e)

pub sizes_more : (olds : List TacRoutine) (n : ℕ) (before news : List TacRoutine) (old new : TacRoutine) →
    map size before ≡ map size (take n olds) → slice_get olds n ≡ Some old → size new ≡ size old → news ≡ before
    ++ new ∷ [] → map size news ≡ map size (take (n + 1) olds)
sizes_more olds n before news old new same e s is =
    let at : suc n ≡ n + 1 = omega arith in
    ap (map size) is
    ∙ (mapped_end before new
    ∙ (ap (λ (ns : List ℕ). ns ++ size new ∷ []) same
    ∙ (ap (λ (k : ℕ). map size (take n olds) ++ k ∷ []) s
    ∙ (sym (mapped_end (take n olds) old)
    ∙ (ap (map size) (sym (take_more olds n old e))
    ∙ ap (λ (k : ℕ). map size (take k olds)) at)))))
