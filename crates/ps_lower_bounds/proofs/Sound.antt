-- Code that is closed, and whose counts are those that it needs, keeps the invariant.
use Rattle.std.proofs.Common.{◌≡◌, ℕ, zero, suc, ◌+◌, ◌<◌, ◌≤◌, Bool, true, false, if◌then◌else◌, List, [], ◌∷◌}
use Rattle.std.proofs.Common.{◌++◌, length, map, slice_get, pos, Option, Some, None, All, refl, subst}
use Rattle.std.proofs.Common.{arith, length-append, leb-true}
use Rattle.std.proofs.lemmas.Option.{none-some}
use Rattle.std.proofs.lemmas.List.Elements.{All-nil, All-cons}
use Rattle.std.proofs.lemmas.Bool.{and_parts}
use Rattle.std.proofs.lemmas.List.{length-map}
use Rattle.tac_code_steps.proofs.Pieces.{same_some}
use Rattle.ps_tree.specs.Types.{DataType}
use Rattle.ps_tree.specs.Sizes.{cells}
use Rattle.ps_tree.specs.Counts.{is_within_limits, are_small, are_routines_within_limits, is_routine_within_limits}
use Rattle.ps_tree.specs.Counts.{routine_cells, routine_nodes}
use Rattle.ps_tree.specs.Tree.{Routine, Program}
use Rattle.ps_tree.specs.declared.limits.TheConstants.{MAX_CELLS, MAX_NODES, MAX_ROUTINES}
use Rattle.tac_code.specs.declared.code.Operand.{Operand}
use Rattle.tac_code.specs.declared.code.Operand.TheVariants as operand
use Rattle.tac_code.specs.declared.code.Base.{Base}
use Rattle.tac_code.specs.declared.code.Base.TheVariants as base
use Rattle.tac_code.specs.declared.code.Instruction.{Instruction}
use Rattle.tac_code.specs.declared.code.Instruction.TheVariants.{Literal, Copy, Arithmetic, Bits, Compare, CheckRange}
use Rattle.tac_code.specs.declared.code.Instruction.TheVariants.{CheckPointer, Text, Offset, Index, RoutineValue, Load}
use Rattle.tac_code.specs.declared.code.Instruction.TheVariants.{Store, LoadByte, StoreByte, Jump, JumpBack, Branch}
use Rattle.tac_code.specs.declared.code.Instruction.TheVariants.{BranchBack, Call, CallValue, Return, Trap, Take, Put}
use Rattle.tac_code.specs.declared.code.Instruction.TheVariants.{New, End}
use Rattle.tac_code.specs.declared.code.TacRoutine.{TacRoutine}
use Rattle.tac_code.specs.declared.check.Limits.{Limits}
use Rattle.tac_code.specs.Sound.{IsOperand, IsBase, IsSoundAt, IsSoundRoutine, IsObjectSize, IsSound, limits_of}
use Rattle.tac_rt.specs.Bodies.{run_time_routines}
use Rattle.tac_rt.proofs.Soundness.{routines_are_sound}
use Rattle.ps_lower_layout.specs.Frames.{is_program_block, entry_offset}
use Rattle.ps_lower_code.specs.Statements.{statements_code}
use Rattle.ps_lower_code.specs.Routines.{begin_code, result_end, end_code, scope_of, routine_code}
use Rattle.ps_lower_code.specs.Programs.{in_operand, in_base, in_list, named_in, temporaries_in, scratch_at, meant_by}
use Rattle.ps_lower_code.specs.Programs.{scratch_in, tac_of, object_bytes, code_of}
use Rattle.ps_lower_bounds.specs.Forms.{RoutineFormed, RoutinesFormed, ProgramFormed}
use Rattle.ps_lower_bounds.proofs.Uses.{scratch_whole}
use Rattle.ps_lower_bounds.proofs.Routines.{depth_of, scratch_of, routine_under, sizes_bounded}
use Rattle.ps_lower_bounds.proofs.Closed.{of_int, IsNumber, Asks, Lands, Closed}
use Rattle.ps_lower_bounds.proofs.Counts.{ProgramFew, program_few}
use Rattle.ps_lower_bounds.proofs.ClosedRoutines.{few_bytes, routine_closed}

-- ---- instructions

module _ (R T : ℕ) (l : Limits) (routines : l.routines ≡ R + 17) (types : l.object_types ≡ T) where
  operand_sound : (b : Operand) → in_operand b ≤ l.temporaries → IsNumber b → IsOperand l.temporaries b
  operand_sound (operand.Temporary t) u n = u
  operand_sound (operand.Number z) u n = of_int z n

  base_sound : (b : Base) (n m : ℕ) → in_base b ≤ l.temporaries → scratch_at b n m ≤ l.scratch → IsBase l b n m
  base_sound base.Frame n m u s = tt
  base_sound base.Scratch n m u s = s
  base_sound base.Program n m u s = tt
  base_sound (base.Temporary t) n m u s = u

  -- of nothing at a base
  nothing_sound : (b : Base) → in_base b ≤ l.temporaries → IsBase l b 0 0
  nothing_sound base.Frame u = tt
  nothing_sound base.Scratch u = omega arith
  nothing_sound base.Program u = tt
  nothing_sound (base.Temporary t) u = u

  list_sound : (list : List ℕ) → in_list list ≤ l.temporaries → All (λ t. t < l.temporaries) list
  list_sound [] u = All-nil (λ t. t < l.temporaries)
  list_sound (t ∷ ts) u = All-cons (λ t. t < l.temporaries) t ts (omega (arith, u)) (list_sound ts (omega (arith, u)))

  instruction_sound : (p a : ℕ) (i : Instruction) → named_in i ≤ l.temporaries → meant_by i ≤ l.scratch → Asks R T i
      → Lands R T p a i → suc p + a < l.places → IsSoundAt l p i
  instruction_sound p a (Literal t z) u s f j q = (u, of_int z f)
  instruction_sound p a (Copy t b) u s f j q = omega (arith, u)
  instruction_sound p a (Arithmetic operator t b c error line) u s f j q =
      (omega (arith, u), omega (arith, u), operand_sound c (omega (arith, u)) f.0, f.1, f.2)
  instruction_sound p a (Bits operator t b c) u s f j q =
      (omega (arith, u), omega (arith, u), operand_sound c (omega (arith, u)) f)
  instruction_sound p a (Compare relation t b c) u s f j q =
      (omega (arith, u), omega (arith, u), operand_sound c (omega (arith, u)) f)
  instruction_sound p a (CheckRange b low high error line) u s f j q = (u, of_int low f.0, of_int high f.1, f.2, f.3)
  instruction_sound p a (CheckPointer b error line) u s f j q = (u, f.0, f.1)
  instruction_sound p a (Text t bytes) u s f j q = (u, f)
  instruction_sound p a (Offset t b n extent) u s f j q = (omega (arith, u), base_sound b n extent (omega (arith, u)) s)
  instruction_sound p a (Index t b i low high width error line) u s f j q = (
    omega (arith, u),
    nothing_sound b (omega (arith, u)),
    omega
        (arith, u),
    of_int low f.0,
    of_int high f.1,
    f.2,
    f.3,
  )
  instruction_sound p a (RoutineValue t r) u s f j q = (u, omega (arith, f, routines))
  instruction_sound p a (Load t b n) u s f j q = (omega (arith, u), base_sound b n 4 (omega (arith, u)) s)
  instruction_sound p a (Store b n t) u s f j q = (base_sound b n 4 (omega (arith, u)) s, omega (arith, u))
  instruction_sound p a (LoadByte t b n) u s f j q = (omega (arith, u), base_sound b n 1 (omega (arith, u)) s)
  instruction_sound p a (StoreByte b n t) u s f j q = (base_sound b n 1 (omega (arith, u)) s, omega (arith, u))
  instruction_sound p a (Jump n) u s f j q = omega (arith, j, q)
  instruction_sound p a (JumpBack n) u s f j q = j
  instruction_sound p a (Branch relation b c n) u s f j q =
      (omega (arith, u), operand_sound c (omega (arith, u)) f, omega (arith, j, q))
  instruction_sound p a (BranchBack relation b c n) u s f j q =
      (omega (arith, u), operand_sound c (omega (arith, u)) f, j)
  instruction_sound p a (Call t r list line) u s f j q = let g = f.0
      in (omega (arith, u), omega (arith, g, routines), (f.1, list_sound list (omega (arith, u))), f.2)
  instruction_sound p a (CallValue t b list line) u s f j q =
      (omega (arith, u), omega (arith, u), (f.0, list_sound list (omega (arith, u))), f.1)
  instruction_sound p a (Return b) u s f j q = u
  instruction_sound p a (Trap error line) u s f j q = f
  instruction_sound p a (Take t) u s f j q = u
  instruction_sound p a (Put b) u s f j q = u
  instruction_sound p a (New t type line) u s f j q = let g = f.0 in (u, omega (arith, g, types), f.1)
  instruction_sound p a End u s f j q = tt

  -- ---- bodies: closed code, and an end

  abbrev EndsSound : List Instruction → Type 0
  EndsSound y = temporaries_in y ≤ l.temporaries → (j : ℕ) (v : Instruction) → slice_get y j ≡ Some v → (p : ℕ)
      → IsSoundAt l p v

  body_sound : (x y : List Instruction) (b : ℕ) → Closed R T b 0 x → temporaries_in (x ++ y) ≤ l.temporaries
      → scratch_in (x ++ y) ≤ l.scratch → b + length x < l.places → EndsSound y
      → (j : ℕ) (v : Instruction) → slice_get (x ++ y) j ≡ Some v → IsSoundAt l (b + j) v
  body_sound [] y b c u s q ends j v e = ends u j v e (b + j)
  body_sound (i ∷ x) y b c u s q ends zero v e =
      let here : b ≡ b + 0 = omega arith in
      subst (λ p. IsSoundAt l p v) here (subst (IsSoundAt l b) (same_some e)
      (instruction_sound b (length x + 0) i (omega (arith, u)) (omega (arith, s)) c.0 c.1 (omega (arith, q))))
  body_sound (i ∷ x) y b c u s q ends (suc j) v e =
      let there : suc b + j ≡ b + suc j = omega arith in
      subst (λ p. IsSoundAt l p v) there (body_sound x y (suc b) c.2 (omega (arith, u)) (omega (arith, s))
      (omega (arith, q)) ends j v e)

  one_sound : (i : Instruction) → ((p : ℕ) → IsSoundAt l p i) → (j : ℕ) (v : Instruction) → slice_get (i ∷ []) j
      ≡ Some v → (p : ℕ) → IsSoundAt l p v
  one_sound i f zero v e p = subst (IsSoundAt l p) (same_some e) (f p)
  one_sound i f (suc j) v e p = absurd (none-some v e)

  two_sound : (i k : Instruction) → ((p : ℕ) → IsSoundAt l p i) → ((p : ℕ) → IsSoundAt l p k) → (j : ℕ)
      (v : Instruction) → slice_get (i ∷ k ∷ []) j ≡ Some v → (p : ℕ) → IsSoundAt l p v
  two_sound i k f g zero v e p = subst (IsSoundAt l p) (same_some e) (f p)
  two_sound i k f g (suc j) v e p = one_sound k g j v e p

  result_end_sound : (r : Routine) (result : Option DataType) → EndsSound (result_end r result)
  result_end_sound r None u j v e p = two_sound (Literal 0 (pos 0)) (Return 0) (λ p. (omega (arith, u), refl))
      (λ p. omega (arith, u)) j v e p
  result_end_sound r (Some type) u j v e p = two_sound (Load 0 base.Frame (entry_offset r 0)) (Return 0)
      (λ p. (omega (arith, u), tt)) (λ p. omega (arith, u)) j v e p

  end_sound : (r : Routine) → EndsSound (end_code r)
  end_sound r = go (is_program_block r.chain)
    where
      go : (b : Bool) → EndsSound (if b then End ∷ [] else result_end r r.result)
      go true u j v e p = one_sound End (λ p. tt) j v e p
      go false u j v e p = result_end_sound r r.result u j v e p

end_some : (r : Routine) → 0 < length (end_code r)
end_some r = go (is_program_block r.chain) r.result
  where
    go : (b : Bool) (result : Option DataType) → 0 < length (if b then End ∷ [] else result_end r result)
    go true result = omega arith
    go false None = omega arith
    go false (Some type) = omega arith

-- ---- limits

few_nodes : (r : Routine) → is_routine_within_limits r ≡ true
    → (routine_cells r ≤ MAX_CELLS) × (routine_nodes r ≤ MAX_NODES)
unfolding is_routine_within_limits
few_nodes r e = (
  leb-true (routine_cells r) MAX_CELLS (and_parts _ _ (and_parts _ _ e).0).1,
  leb-true (routine_nodes r) MAX_NODES
      (and_parts _ _ e).1,
)

-- ---- routines

module _ (program : Program) (few : ProgramFew program) where
  routine_sound : (r : Routine) → RoutineFormed program r → is_routine_within_limits r ≡ true → IsSoundRoutine
      (limits_of (code_of run_time_routines program) (tac_of program r)) (tac_of program r)
  routine_sound r f e =
      let nodes : (routine_cells r ≤ MAX_CELLS) × (routine_nodes r ≤ MAX_NODES) = few_nodes r e in
      let bytes = sizes_bounded program r in
      let code = begin_code (scope_of program r) r ++ statements_code (scope_of program r) r.body 0 in
      let l : Limits = limits_of (code_of run_time_routines program) (tac_of program r) in
      let n = length-map program.routines (tac_of program) in
      let routines : l.routines ≡ length program.routines + 17 = omega (arith, n) in
      let types : l.object_types ≡ length program.domains = length-map program.domains object_bytes in
      let places = length-append code (end_code r) in
      let some = end_some r in
      let sound : (j : ℕ) (v : Instruction) → slice_get (routine_code program r) j ≡ Some v → IsSoundAt l (0 + j) v =
      body_sound (length program.routines) (length program.domains) l routines types code (end_code r) 0
      (routine_closed program r few f nodes.0) (omega arith) (omega arith) (omega (arith, places, some))
      (end_sound (length program.routines) (length program.domains) l routines types r) in
      record {
        parameters = omega arith;
        frame = omega arith;
        scratch = scratch_whole (depth_of r) (scratch_of r) (routine_code program r) (routine_under program r);
        bytes = omega (arith, bytes, nodes);
        begins = f.line;
        body = λ j v e. let here : 0 + j ≡ j = omega arith in subst (λ p. IsSoundAt l p v) here (sound j v e);
      }

  routines_sound : (list : List Routine) → RoutinesFormed program list → are_routines_within_limits list ≡ true
      → (j : ℕ) (v : TacRoutine) → slice_get (map (tac_of program) list) j ≡ Some v → IsSoundRoutine
      (limits_of (code_of run_time_routines program) v) v
  unfolding are_routines_within_limits
  routines_sound [] f w j v e = absurd (none-some v e)
  routines_sound (r ∷ rest) f w zero v e = subst
      (λ v. IsSoundRoutine (limits_of (code_of run_time_routines program) v) v) (same_some e)
      (routine_sound r f.0 (and_parts _ _ w).0)
  routines_sound (r ∷ rest) f w (suc j) v e = routines_sound rest f.1 (and_parts _ _ w).1 j v e

-- ---- objects

objects_sound : (types : List DataType) → are_small types ≡ true → (j n : ℕ) → slice_get (map object_bytes types) j
    ≡ Some n → IsObjectSize n
unfolding are_small
objects_sound [] w j n e = absurd (none-some n e)
objects_sound (type ∷ rest) w zero n e =
    let few = few_bytes type (leb-true (cells type) MAX_CELLS (and_parts _ _ w).0) in
    subst IsObjectSize (same_some e) (record { aligned = omega arith; below = few })
objects_sound (type ∷ rest) w (suc j) n e = objects_sound rest (and_parts _ _ w).1 j n e

-- ---- programs

limits_parts : (program : Program) → is_within_limits program ≡ true → (length program.domains ≤ MAX_ROUTINES)
    × (are_small program.domains ≡ true) × (are_routines_within_limits program.routines ≡ true)
unfolding is_within_limits
limits_parts program w = (
  leb-true (length program.domains) MAX_ROUTINES (and_parts _ _ (and_parts _ _ (and_parts _ _ w).0).0).1,
  (and_parts _ _
      (and_parts _ _ w).0).1,
  (and_parts _ _ w).1,
)

pub code_sound : (program : Program) → is_within_limits program ≡ true → ProgramFormed program → IsSound
    (code_of run_time_routines program)
code_sound program w f =
    let n = length-map program.routines (tac_of program) in
    let m = length-map program.domains object_bytes in
    let begins = f.begins in
    let limits = limits_parts program w in
    let few = limits.0 in
    let fine = routines_are_sound (code_of run_time_routines program) in
    record {
      begins = omega (arith, n, begins);
      program = routines_sound program (program_few program w) program.routines
          f.routines limits.2;
      run_time = fine.sound;
      leaves = fine.leaves;
      objects = objects_sound program.domains limits.1;
      types = omega (arith, m, few);
    }
