-- In a program within the limits each offset of a routine's code is small.
use Rattle.std.proofs.Common.{◌≡◌, ℕ, zero, suc, ◌+◌, ◌<◌, ◌≤◌, true, if◌then◌else◌, List, [], ◌∷◌}
use Rattle.std.proofs.Common.{◌++◌, length, get_or, slice_get, Option, Some, None, subst, arith, leb-true}
use Rattle.std.proofs.lemmas.Option.{none-some}
use Rattle.std.proofs.lemmas.Bool.{and_parts}
use Rattle.tac_code_steps.proofs.Pieces.{same_some}
use Rattle.ps_tree.specs.Types.{DataType, PointerType}
use Rattle.ps_tree.specs.Sizes.{cells}
use Rattle.ps_tree.specs.Counts.{is_within_limits, are_small, is_small, are_small_formals, is_small_formal}
use Rattle.ps_tree.specs.Counts.{are_routines_within_limits, is_routine_within_limits, routine_cells, routine_nodes}
use Rattle.ps_tree.specs.Counts.{routine_extent, result_extent, variables_extent}
use Rattle.ps_tree.specs.Tree.{Formal, ValueFormal, VariableFormal, RoutineFormal, Formals, no_formal, formal_before}
use Rattle.ps_tree.specs.Tree.{Routine, Program, no_routine, routine_at}
use Rattle.ps_tree.specs.declared.limits.TheConstants.{MAX_CELLS, MAX_NODES}
use Rattle.tac_code.specs.declared.code.Base.{Base}
use Rattle.tac_code.specs.declared.code.Base.TheVariants as base
use Rattle.tac_code.specs.declared.code.Instruction.{Instruction}
use Rattle.tac_code.specs.declared.code.Instruction.TheVariants as i
use Rattle.tac_code.specs.declared.code.TheConstants.{BLOCK_LIMIT, NUMBER_LIMIT}
use Rattle.ps_lower_layout.specs.Shapes.{Shape, NumberShape, PointerShape, SetShape, ByteShape, ArrayShape}
use Rattle.ps_lower_layout.specs.Shapes.{RecordShape, shape_of, byte_count}
use Rattle.ps_lower_layout.specs.Frames.{Kind, Own, Reference, Closure, Kinds, no_kind, kind_before, kind_of, kinds_of}
use Rattle.ps_lower_layout.specs.Frames.{listed_kinds, result_kinds, variable_kinds, entries, kind_words, places_from}
use Rattle.ps_lower_layout.specs.Frames.{words_of_all, entry_offset, input_offset, link_offset, is_program_block}
use Rattle.ps_lower_code.specs.Scopes.{Scope}
use Rattle.ps_lower_code.specs.Statements.{first_code}
use Rattle.ps_lower_code.specs.Routines.{own_code, parameter_code, parameter_words, parameter_total, parameters_code}
use Rattle.ps_lower_code.specs.Routines.{variables_code, result_code, result_entries, count_kinds, input_code}
use Rattle.ps_lower_code.specs.Routines.{begin_code, result_end, end_code, scope_of, routine_code}
use Rattle.ps_lower_bounds.specs.Forms.{IsSmall}
use Rattle.ps_lower_code.specs.Fits.{StatementsFit}
use Rattle.ps_lower_bounds.specs.Fields.{HasSmallOffsets, HaveSmallOffsets}
use Rattle.ps_lower_bounds.proofs.Cells.{words_cells, entries_words}
use Rattle.ps_lower_bounds.proofs.Uses.{AtBase, Uses, Under}
use Rattle.ps_lower_bounds.proofs.Routines.{depth_of, scratch_of, routine_under}
use Rattle.ps_lower_bounds.proofs.Narrow.{AtNarrow, IsNarrow, Narrow, at_narrow, both, three, four, either, IsShort}
use Rattle.ps_lower_bounds.proofs.Narrow.{Framed}
use Rattle.ps_lower_bounds.proofs.NarrowFirsts.{first_narrow}
use Rattle.ps_lower_bounds.proofs.NarrowStatements.{statements_narrow}

-- ---- frames within the limits

abbrev AllShort : List Kind → Type 0
AllShort [] = Unit {0}
AllShort (kind ∷ rest) = IsShort kind × AllShort rest

short_both : (ks ls : List Kind) → AllShort ks → AllShort ls → AllShort (ks ++ ls)
short_both [] ls a b = b
short_both (kind ∷ ks) ls a b = (a.0, short_both ks ls a.1 b)

short_at : (ks : List Kind) → AllShort ks → (n : ℕ) (kind : Kind) → slice_get ks n ≡ Some kind → IsShort kind
short_at [] a n kind e = absurd (none-some kind e)
short_at (k ∷ ks) a zero kind e = subst IsShort (same_some e) a.0
short_at (k ∷ ks) a (suc n) kind e = short_at ks a.1 n kind e

few : (type : DataType) → cells type ≤ MAX_CELLS → byte_count (shape_of type) ≤ 400000
few type l = let w = words_cells type in omega (arith, l, w)

small_few : (type : DataType) → is_small type ≡ true → byte_count (shape_of type) ≤ 400000
small_few type e = few type (leb-true (cells type) MAX_CELLS e)

formal_short : (f : Formal) → is_small_formal f ≡ true → IsShort (kind_of f)
unfolding is_small_formal
formal_short (ValueFormal type) e = small_few type e
formal_short (VariableFormal type) e = small_few type e
formal_short (RoutineFormal formals result) e = tt

formals_short : (fs : Formals) → are_small_formals fs ≡ true → AllShort (listed_kinds (kinds_of fs))
unfolding are_small_formals
formals_short no_formal e = tt
formals_short (formal_before f rest) e = (formal_short f (and_parts _ _ e).0, formals_short rest (and_parts _ _ e).1)

variables_short : (types : List DataType) → (variables_extent types).taken ≤ MAX_CELLS → AllShort (variable_kinds types)
unfolding variables_extent
variables_short [] l = tt
variables_short (type ∷ rest) l = (few type (omega (arith, l)), variables_short rest (omega (arith, l)))

result_short : (result : Option DataType) → (result_extent result).taken ≤ MAX_CELLS → AllShort (result_kinds result)
unfolding result_extent
result_short None l = tt
result_short (Some type) l = (few type (omega (arith, l)), tt)

places_most : (kinds : List Kind) (k n : ℕ) → get_or (places_from k kinds) n 0 ≤ k + words_of_all kinds
places_most [] k n = omega arith
places_most (kind ∷ rest) k zero = omega arith
places_most (kind ∷ rest) k (suc n) = let l = places_most rest (k + kind_words kind) n in omega (arith, l)

record FramedRoutine (r : Routine) : Type 0 where
  offsets : (n : ℕ) → entry_offset r n ≤ 500000
  kinds : AllShort (entries r)
  input : input_offset r ≤ 500000

pub routine_limits : (r : Routine) → is_routine_within_limits r ≡ true → (routine_cells r ≤ MAX_CELLS)
    × (routine_nodes r ≤ MAX_NODES) × (are_small_formals r.formals ≡ true)
unfolding is_routine_within_limits
routine_limits r e = (
  leb-true (routine_cells r) MAX_CELLS (and_parts _ _ (and_parts _ _ e).0).1,
  leb-true (routine_nodes r) MAX_NODES
      (and_parts _ _ e).1,
  (and_parts _ _ (and_parts _ _ (and_parts _ _ (and_parts _ _ (and_parts _ _ e).0).0).0).0).1,
)

routine_framed : (r : Routine) → is_routine_within_limits r ≡ true → FramedRoutine r
unfolding routine_extent
routine_framed r e =
    let limits = routine_limits r e in
    let cells = limits.0 in
    let formals = limits.2 in
    let w = entries_words r in
    record {
      offsets = λ n. let l = places_most (entries r) 1 n in omega (arith, l, w, cells);
      kinds = short_both (result_kinds r.result ++ listed_kinds (kinds_of r.formals)) (variable_kinds r.variables)
          (short_both (result_kinds r.result) (listed_kinds (kinds_of r.formals))
          (result_short r.result (omega (arith, cells))) (formals_short r.formals formals))
          (variables_short r.variables (omega (arith, cells)));
      input = omega (arith, w, cells);
    }

none_framed : FramedRoutine no_routine
none_framed = record { offsets = λ n. omega arith; kinds = tt; input = omega arith }

routines_framed : (list : List Routine) → are_routines_within_limits list ≡ true → (r : ℕ) → FramedRoutine
    (get_or list r no_routine)
unfolding are_routines_within_limits
routines_framed [] e r = none_framed
routines_framed (x ∷ list) e zero = routine_framed x (and_parts _ _ e).0
routines_framed (x ∷ list) e (suc r) = routines_framed list (and_parts _ _ e).1 r

domains_few : (types : List DataType) → are_small types ≡ true → (t : ℕ) → byte_count
    (shape_of (get_or types t (PointerType 0))) ≤ 400000
unfolding are_small
domains_few [] e t = omega arith
domains_few (type ∷ types) e zero = small_few type (and_parts _ _ e).0
domains_few (type ∷ types) e (suc t) = domains_few types (and_parts _ _ e).1 t

pub program_framed : (program : Program) → is_within_limits program ≡ true → Framed program
unfolding is_within_limits
program_framed program e =
    let routines = routines_framed program.routines (and_parts _ _ e).1 in
    record {
      offsets = λ r n. (routines r).offsets n;
      kinds = λ r n kind s. short_at (entries (routine_at program r)) (routines r).kinds n kind s;
      input = (routines 0).input;
      domains = domains_few program.domains (and_parts _ _ (and_parts _ _ e).0).1;
    }

-- ---- a routine's beginning and end

module _ (k : Scope) (r : Routine) (f : FramedRoutine r) where
  entry_most : (n : ℕ) → entry_offset r n ≤ 500000
  entry_most n = f.offsets n

  own_narrow : (shape : Shape) (t n free : ℕ) → byte_count shape ≤ 400000 → Narrow
      (own_code k shape t (entry_offset r n) free)
  own_narrow (NumberShape first narrow) t n free l = let m = entry_most n in omega (arith, m)
  own_narrow (PointerShape pointer) t n free l = let m = entry_most n in omega (arith, m)
  own_narrow SetShape t n free l = let m = entry_most n in omega (arith, m)
  own_narrow (ByteShape count first) t n free l = let m = entry_most n in omega (arith, m, l)
  own_narrow (ArrayShape count shape) t n free l = let m = entry_most n in omega (arith, m, l)
  own_narrow (RecordShape shapes) t n free l = let m = entry_most n in omega (arith, m, l)

  parameter_narrow : (kind : Kind) (t n free : ℕ) → IsShort kind → Narrow
      (parameter_code k kind t (entry_offset r n) free)
  parameter_narrow (Own shape) t n free s = own_narrow shape t n free s
  parameter_narrow (Reference shape) t n free s = let m = entry_most n in omega (arith, m)
  parameter_narrow (Closure kinds result) t n free s = let m = entry_most n in omega (arith, m)

  parameters_narrow : (kinds : Kinds) (t n free : ℕ) → AllShort (listed_kinds kinds) → Narrow
      (parameters_code k r kinds t n free)
  parameters_narrow no_kind t n free s = tt
  parameters_narrow (kind_before kind rest) t n free s =
      both (parameter_code k kind t (entry_offset r n) free) _ (parameter_narrow kind t n free s.0)
      (parameters_narrow rest (t + parameter_words kind) (suc n) free s.1)

  variables_narrow : (types : List DataType) (n free : ℕ) → AllShort (variable_kinds types) → Narrow
      (variables_code k r types n free)
  variables_narrow [] n free s = tt
  variables_narrow (type ∷ rest) n free s =
      let m = entry_most n in let l : byte_count (shape_of type) ≤ 400000 = s.0 in
      both (first_code k base.Frame free (entry_offset r n) (shape_of type)) _
      (first_narrow k base.Frame free (entry_offset r n) (shape_of type) (omega (arith, m, l)))
      (variables_narrow rest (suc n) free s.1)

  result_narrow : (result : Option DataType) (free : ℕ) → AllShort (result_kinds result) → Narrow
      (result_code k r result free)
  result_narrow None free s = tt
  result_narrow (Some type) free s = let m = entry_most 0 in let l : byte_count (shape_of type) ≤ 400000 = s.0
      in first_narrow k base.Frame free (entry_offset r 0) (shape_of type) (omega (arith, m, l))

  begin_narrow : AllShort (result_kinds r.result) → AllShort (listed_kinds (kinds_of r.formals)) → AllShort
      (variable_kinds r.variables) → Narrow (begin_code k r)
  begin_narrow a b c =
      let P = parameter_total r in let m = f.input in
      four (if is_program_block r.chain then input_code r P else (i.Store base.Frame (link_offset r) 0 ∷ [])) _ _ _
      (either (is_program_block r.chain) (input_code r P) (i.Store base.Frame (link_offset r) 0 ∷ []) (omega (arith, m))
      (omega arith))
      (result_narrow r.result P a) (parameters_narrow (kinds_of r.formals) 1 (result_entries r.result) P b)
      (variables_narrow r.variables (result_entries r.result + count_kinds (kinds_of r.formals)) P c)

  result_end_narrow : (result : Option DataType) → Narrow (result_end r result)
  result_end_narrow None = (tt, (tt, tt))
  result_end_narrow (Some type) = let m = entry_most 0 in omega (arith, m)

  end_narrow : Narrow (end_code r)
  end_narrow = either (is_program_block r.chain) (i.End ∷ []) (result_end r r.result) (tt, tt)
      (result_end_narrow r.result)

short_first : (ks ls : List Kind) → AllShort (ks ++ ls) → AllShort ks
short_first [] ls a = tt
short_first (k ∷ ks) ls a = (a.0, short_first ks ls a.1)

short_second : (ks ls : List Kind) → AllShort (ks ++ ls) → AllShort ls
short_second [] ls a = a
short_second (k ∷ ks) ls a = short_second ks ls a.1

routine_narrow : (program : Program) (r : Routine) → Framed program → FramedRoutine r → StatementsFit
    (scope_of program r) [] r.body → Narrow (routine_code program r)
routine_narrow program r b f s =
    let k = scope_of program r in
    let first = short_first (result_kinds r.result ++ listed_kinds (kinds_of r.formals))
    (variable_kinds r.variables) f.kinds in
    three (begin_code k r) _ _
    (begin_narrow k r f (short_first (result_kinds r.result) (listed_kinds (kinds_of r.formals)) first)
    (short_second (result_kinds r.result) (listed_kinds (kinds_of r.formals)) first)
    (short_second (result_kinds r.result ++ listed_kinds (kinds_of r.formals))
    (variable_kinds r.variables) f.kinds))
    (statements_narrow k b [] tt r.body 0 s) (end_narrow k r f)

-- ---- all offsets

module _ (D X : ℕ) (few : X < NUMBER_LIMIT) where
  offset_small : (b : Base) (n extent : ℕ) → AtNarrow b n → AtNarrow b extent → AtBase D X b (n + extent) → IsSmall n
      × IsSmall extent
  offset_small base.Frame n extent l m u = (l, m)
  offset_small base.Scratch n extent l m u = let e = u.0 in omega (arith, e)
  offset_small base.Program n extent l m u = (l, m)
  offset_small (base.Temporary t) n extent l m u = (l, m)

  instruction_small : (v : Instruction) → IsNarrow v → Uses D X v → HasSmallOffsets v
  instruction_small (i.Offset t b n extent) f u = offset_small b n extent f.0 f.1 u.1
  instruction_small (i.Index t b n low high width error line) f u = f
  instruction_small (i.Load t b n) f u = (offset_small b n 4 f (at_narrow b 4 (omega arith)) u.1).0
  instruction_small (i.Store b n t) f u = (offset_small b n 4 f (at_narrow b 4 (omega arith)) u.0).0
  instruction_small (i.LoadByte t b n) f u = (offset_small b n 1 f (at_narrow b 1 (omega arith)) u.1).0
  instruction_small (i.StoreByte b n t) f u = (offset_small b n 1 f (at_narrow b 1 (omega arith)) u.0).0
  instruction_small _ f u = tt

  code_small : (code : List Instruction) → Narrow code → Under D X code → HaveSmallOffsets code
  code_small [] f u = tt
  code_small (v ∷ code) f u = (instruction_small v f.0 u.0, code_small code f.1 u.1)

pub limits_at : (list : List Routine) (n : ℕ) → are_routines_within_limits list ≡ true → n < length list
    → is_routine_within_limits (get_or list n no_routine) ≡ true
unfolding are_routines_within_limits
limits_at [] n e l = absurd (omega (arith, l))
limits_at (r ∷ list) zero e l = (and_parts _ _ e).0
limits_at (r ∷ list) (suc n) e l = limits_at list n (and_parts _ _ e).1 (omega (arith, l))

scratch_few : (r : Routine) → is_routine_within_limits r ≡ true → scratch_of r < BLOCK_LIMIT
unfolding routine_extent
scratch_few r e =
    let limits = routine_limits r e in
    let cells = limits.0 in
    let nodes = limits.1 in
    omega (arith, cells, nodes)

pub routines_part : (program : Program) → is_within_limits program ≡ true → are_routines_within_limits program.routines
    ≡ true
unfolding is_within_limits
routines_part program e = (and_parts _ _ e).1

pub offsets_small : (program : Program) → is_within_limits program ≡ true → (number : ℕ)
    → number < length program.routines
    → StatementsFit (scope_of program (routine_at program number)) [] (routine_at program number).body
    → HaveSmallOffsets (routine_code program (routine_at program number))
offsets_small program e number l s =
    let r = routine_at program number in
    let within : is_routine_within_limits r ≡ true = limits_at program.routines number (routines_part program e) l in
    code_small (depth_of r) (scratch_of r) (scratch_few r within) (routine_code program r)
    (routine_narrow program r (program_framed program e) (routine_framed r within) s) (routine_under program r)
