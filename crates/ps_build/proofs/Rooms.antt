-- A routine's code has room for 8 temporaries besides those that its parameters come in, and its blocks are small
-- enough with all of these.
use Rattle.std.proofs.Common.{◌≡◌, ℕ, suc, ◌+◌, ◌*◌, ◌<◌, ◌≤◌, Bool, true, false, if◌then◌else◌, List, [], ◌∷◌}
use Rattle.std.proofs.Common.{zero, length, map, get_or, arith}
use Rattle.std.specs.List.{All}
use Rattle.std.proofs.lemmas.Bool.{and_parts}
use Rattle.ps_tree.specs.Counts.{routine_cells, routine_nodes, routine_extent}
use Rattle.ps_tree.specs.Counts.{is_within_limits, are_routines_within_limits}
use Rattle.ps_tree.specs.Tree.{Routine, Program}
use Rattle.tac_code.specs.declared.code.TacRoutine.{TacRoutine}
use Rattle.tac_code.specs.declared.code.TheConstants.{BLOCK_LIMIT}
use Rattle.tac_pass_laws.specs.Passed.{room}
use Rattle.tac_plan.specs.Roomy.{HasRoom}
use Rattle.tac_rt.specs.Bodies.{run_time_routines}
use Rattle.ps_lower_layout.specs.Frames.{kinds_of, is_program_block}
use Rattle.ps_lower_code.specs.Routines.{count_parameters, routine_code}
use Rattle.ps_lower_code.specs.Programs.{tac_of, code_of}
use Rattle.ps_lower_bounds.specs.Sizes.{RoutinesAreBounded}
use Rattle.ps_lower_bounds.proofs.Uses.{scratch_counted}
use Rattle.ps_lower_bounds.proofs.Cells.{entries_words}
use Rattle.ps_lower_bounds.proofs.Offsets.{routine_limits}
use Rattle.ps_lower_bounds.proofs.Routines.{parameters_most, depth_of, scratch_of, routine_under}

-- the words for input are the program block's alone, which has no parameters
input_or_parameters : (b : Bool) (n : ℕ) → (if b then 2 else 0) + (if b then 0 else suc n) ≤ 2 + n
input_or_parameters true n = omega arith
input_or_parameters false n = omega arith

-- the blocks and the parameters alone
with_parameters : (program : Program) (r : Routine) → (tac_of program r).frame + (tac_of program r).scratch + 4
    * (tac_of program r).parameters ≤ 12 + 4 * routine_cells r + 64 * routine_nodes r
unfolding routine_extent
with_parameters program r =
    let u = routine_under program r in
    let s = scratch_counted (depth_of r) (scratch_of r) (routine_code program r) u in
    let w = entries_words r in
    let p = parameters_most r.formals in
    let b = input_or_parameters (is_program_block r.chain) (count_parameters (kinds_of r.formals)) in
    omega (arith, s, w, p, b)

pub room_bounded : RoutinesAreBounded → (program : Program) (r : Routine) → room (tac_of program r) ≤ 44 + 4
    * routine_cells r + 64 * routine_nodes r
room_bounded bounded program r =
    let size = bounded program r in let blocks = with_parameters program r in omega (arith, size, blocks)

all_more : {X : Type 0} (P : X → Type 0) (x : X) (xs : List X) → P x → All P xs → (i : ℕ) (d : X) → i < length (x ∷ xs)
    → P (get_or (x ∷ xs) i d)
all_more P x xs p all zero d lt = p
all_more P x xs p all (suc i) d lt = all i d (omega (arith, lt))

abbrev IsSmall : TacRoutine → Type 0
IsSmall routine = room routine < BLOCK_LIMIT

rooms_small : RoutinesAreBounded → (program : Program) (list : List Routine) → are_routines_within_limits list ≡ true
    → All IsSmall (map (tac_of program) list)
unfolding are_routines_within_limits
rooms_small bounded program [] w = λ i d lt. absurd (omega (arith, lt))
rooms_small bounded program (r ∷ rest) w =
    let limits = routine_limits r (and_parts _ _ w).0 in
    let cells = limits.0 in
    let nodes = limits.1 in
    let most = room_bounded bounded program r in
    all_more IsSmall (tac_of program r) (map (tac_of program) rest) (omega (arith, most, cells, nodes))
    (rooms_small bounded program rest (and_parts _ _ w).1)

pub has_room : RoutinesAreBounded → (program : Program) → is_within_limits program ≡ true → HasRoom
    (code_of run_time_routines program)
unfolding is_within_limits
has_room bounded program w = rooms_small bounded program program.routines (and_parts _ _ w).1
