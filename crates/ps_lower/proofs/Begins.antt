-- How a routine begins.
use Rattle.std.proofs.Common.{◌≡◌, ℕ, suc, ◌+◌, ◌*◌, ◌<◌, ◌≤◌, Bool, true, false, nat_le, pos, if◌then◌else◌, List, []}
use Rattle.std.proofs.Common.{◌∷◌, ◌++◌, length, drop, map, get_or, Option, Some, None, Result, OnOk, refl, ap, sym}
use Rattle.std.proofs.Common.{subst, ◌∙◌, append_assoc, arith, zero-add}
use Rattle.std.specs.Prelude.{option_map}
use Rattle.std.proofs.Math.Seq.{drop-cons}
use Rattle.std.proofs.lemmas.List.{drop_all, append-nil}
use Rattle.std.proofs.lemmas.Bool.Decides.{nat_tests}
use Rattle.ps_tree.specs.Types.{DataType}
use Rattle.ps_tree.specs.Tree.{Routine}
use Rattle.ps_tree.specs.declared.types.Ty.{Ty}
use Rattle.ps_tree.specs.declared.tree.statements.Routine.{Routine as Made}
use Rattle.ps_tree.specs.View.{type_of, routine_of}
use Rattle.tac_code.specs.declared.code.Base.TheVariants as base
use Rattle.tac_code.specs.declared.code.Instruction.{Instruction}
use Rattle.tac_code.specs.declared.code.Instruction.TheVariants.{Literal, Load, Return}
use Rattle.ps_lower_layout.specs.Shapes.{shape_of, word_count}
use Rattle.ps_lower_layout.specs.Frames.{Kind, Kinds, no_kind, kind_before, kind_words, words_of_all, places_from}
use Rattle.ps_lower_layout.specs.Frames.{result_kinds, listed_kinds, kinds_of, variable_kinds, is_program_block}
use Rattle.ps_lower_layout.specs.Frames.{entries, entry_offset, layout_of}
use Rattle.ps_lower_bounds.specs.Weights.{first_weight, firsts_weight}
use Rattle.ps_lower_code.specs.Scopes.{Scope}
use Rattle.ps_lower_code.specs.Statements.{first_code, statements_code}
use Rattle.ps_lower_code.specs.Routines.{result_code, parameter_code, parameter_words, parameters_code, variables_code}
use Rattle.ps_lower_code.specs.Routines.{result_entries, count_kinds, parameter_total, begin_code, result_end}
use Rattle.ps_lower_code.specs.Routines.{end_code}
use Rattle.ps_lower.specs.Firsts.{firsts_code, result_at, parameters_at, head_code}
use Rattle.ps_lower.specs.declared.depth.TheConstants.{MAX_NUMBER}
use Rattle.ps_lower.proofs.Appends.{and_then}
use Rattle.ps_lower.proofs.Arms.{behind}

plus_assoc : (a b c : ℕ) → (a + b) + c ≡ a + (b + c)
plus_assoc a b c = omega arith

-- ---- first values

abbrev pub added : Scope → (t p : ℕ) → List Ty → List Instruction
added k t p types = firsts_code k t p (map type_of types)

-- what the variables before i add, and where the next one is
pub record Begun (k : Scope) (t : ℕ) (start : List Instruction) (first : ℕ) (types : List Ty) (i : ℕ)
    (now : List Instruction) (place : ℕ) : Type 0 where
  pub left : now ++ added k t place (drop i types) ≡ start ++ added k t first types

pub begun_start : (k : Scope) (t : ℕ) (start : List Instruction) (first : ℕ) (types : List Ty)
    → Begun k t start first types 0 start first
begun_start k t start first types = record { left = refl }

pub begun_next : (k : Scope) (t : ℕ) (start : List Instruction) (first : ℕ) (types : List Ty) (i : ℕ)
    (now next : List Instruction) (place after : ℕ) (d : Ty) → i < length types
    → Begun k t start first types i now place → next ≡ now ++ first_code k base.Frame t (4 * place)
    (shape_of (type_of (get_or types i d))) → after ≡ place + word_count (shape_of (type_of (get_or types i d)))
    → Begun k t start first types (i + 1) next after
begun_next k t start first types i now next place after d h s e f = record {
  left =
      (let j : i + 1 ≡ suc i = omega arith in ap (λ n. next ++ added k t after (drop n types)) j)
      ∙ ap (λ p. next ++ added k t p (drop (suc i) types)) f
      ∙ and_then now next _ (first_code k base.Frame t (4 * place) (shape_of (type_of (get_or types i d))))
      (added k t (place + word_count (shape_of (type_of (get_or types i d)))) (drop (suc i) types)) e refl
      ∙ ap (λ l. now ++ added k t place l) (sym (drop-cons types i d h))
      ∙ s.left;
}

pub begun_all : (k : Scope) (t : ℕ) (start : List Instruction) (first : ℕ) (types : List Ty) (i : ℕ)
    (now : List Instruction) (place : ℕ) → length types ≤ i → Begun k t start first types i now place → now ≡ start
    ++ added k t first types
begun_all k t start first types i now place h s = sym (append-nil now) ∙ ap (λ l. now ++ added k t place l)
    (sym (drop_all i types h)) ∙ s.left

-- room for the first values of those that are left
pub record Beginning (types : List Ty) (i place : ℕ) : Type 0 where
  pub reach : firsts_weight place (map type_of (drop i types)) ≤ MAX_NUMBER
  pub words : 4 * (place + words_of_all (variable_kinds (map type_of (drop i types)))) ≤ MAX_NUMBER

pub beginning_start : (types : List Ty) (place : ℕ) → firsts_weight place (map type_of types) ≤ MAX_NUMBER → 4 *
    (place + words_of_all (variable_kinds (map type_of types))) ≤ MAX_NUMBER → Beginning types 0 place
beginning_start types place l m = record { reach = l; words = m }

beginning_at : (types : List Ty) (i place : ℕ) (d : Ty) → i < length types → d ≡ get_or types i d
    → Beginning types i place
    → (firsts_weight place (map type_of (d ∷ drop (i + 1) types)) ≤ MAX_NUMBER)
    × (4 * (place + words_of_all (variable_kinds (map type_of (d ∷ drop (i + 1) types)))) ≤ MAX_NUMBER)
beginning_at types i place d h is s =
    let same : drop i types ≡ d ∷ drop (i + 1) types =
    (drop-cons types i d h ∙ (let j : suc i ≡ i + 1 = omega arith in ap (λ n. get_or types i d ∷ drop n types) j)
    ∙ ap (λ y. y ∷ drop (i + 1) types) (sym is)) in (
      subst (λ l. firsts_weight place (map type_of l) ≤ MAX_NUMBER) same s.reach,
      subst
          (λ l. 4 * (place + words_of_all (variable_kinds (map type_of l))) ≤ MAX_NUMBER) same s.words,
    )

pub beginning_one : (types : List Ty) (i place : ℕ) (d : Ty) → i < length types → d ≡ get_or types i d
    → Beginning types i place → (4 * place + first_weight (shape_of (type_of d)) ≤ MAX_NUMBER)
    × (4 * (place + word_count (shape_of (type_of d))) ≤ MAX_NUMBER)
beginning_one types i place d h is s = let a = beginning_at types i place d h is s
    in (omega (arith, a), omega (arith, a))

pub beginning_next : (types : List Ty) (i place after : ℕ) (d : Ty) → i < length types → d ≡ get_or types i d
    → Beginning types i place → after ≡ place + word_count (shape_of (type_of d)) → Beginning types (i + 1) after
beginning_next types i place after d h is s e =
    let a = beginning_at types i place d h is s in
    let w = ap (λ n. firsts_weight n (map type_of (drop (i + 1) types))) e in
    record { reach = omega (arith, a, w); words = omega (arith, a, e) }

-- ---- consecutive entries

-- those from the one numbered i on are from a word on
abbrev pub Stand : Routine → (i p : ℕ) → List Kind → Type 0
Stand r i p kinds = (j : ℕ) → get_or (layout_of r).places (i + j) 0 ≡ get_or (places_from p kinds) j 0

one_on : (i j : ℕ) → suc i + j ≡ i + suc j
one_on i j = omega arith

none_on : (i : ℕ) → i ≡ i + 0
none_on i = omega arith

stand_to : (r : Routine) (i j p q : ℕ) (kinds : List Kind) → i ≡ j → p ≡ q → Stand r i p kinds → Stand r j q kinds
stand_to r i j p q kinds e f h = subst (λ n. Stand r n q kinds) e (subst (λ n. Stand r i n kinds) f h)

stand_all : (r : Routine) → Stand r 0 1 (entries r)
stand_all r j = ap (λ n. get_or (layout_of r).places n 0) (zero-add j)

stand_first : (r : Routine) (i p : ℕ) (kind : Kind) (rest : List Kind) → Stand r i p (kind ∷ rest) → get_or
    (layout_of r).places i 0 ≡ p
stand_first r i p kind rest h = ap (λ n. get_or (layout_of r).places n 0) (none_on i) ∙ h 0

stand_next : (r : Routine) (i p : ℕ) (kind : Kind) (rest : List Kind) → Stand r i p (kind ∷ rest) → Stand r (suc i)
    (p + kind_words kind) rest
stand_next r i p kind rest h j = ap (λ n. get_or (layout_of r).places n 0) (one_on i j) ∙ h (suc j)

variables_are : (k : Scope) (r : Routine) (t : ℕ) (types : List DataType) (i p : ℕ) → Stand r i p (variable_kinds types)
    → variables_code k r types i t ≡ firsts_code k t p types
variables_are k r t [] i p h = refl
variables_are k r t (type ∷ rest) i p h =
    ap (λ n. first_code k base.Frame t (4 * n) (shape_of type) ++ variables_code k r rest (suc i) t)
    (ap (λ n. get_or (layout_of r).places n 0) (none_on i) ∙ h 0)
    ∙ ap (λ l. first_code k base.Frame t (4 * p) (shape_of type) ++ l)
    (variables_are k r t rest (suc i) (p + word_count (shape_of type))
    (λ j. ap (λ n. get_or (layout_of r).places n 0) (one_on i j) ∙ h (suc j)))

result_is : (k : Scope) (r : Routine) (x : Option DataType) (t : ℕ) (more : List Kind) → Stand r 0 1
    (result_kinds x ++ more) → result_code k r x t ≡ result_at k x t 1
result_is k r None t more h = refl
result_is k r (Some type) t more h = ap (λ n. first_code k base.Frame t (4 * n) (shape_of type)) (h 0)

behind_one : (n : ℕ) → 1 + n ≡ 1 + (n + 0)
behind_one n = omega arith

result_stand : (r : Routine) (x : Option DataType) (more : List Kind) → Stand r 0 1 (result_kinds x ++ more) → Stand r
    (result_entries x) (1 + words_of_all (result_kinds x)) more
result_stand r None more h = h
result_stand r (Some type) more h =
    stand_to r 1 1 (1 + word_count (shape_of type)) (1 + (word_count (shape_of type) + 0)) more refl
    (behind_one (word_count (shape_of type)))
    (λ j. ap (λ n. get_or (layout_of r).places n 0) (one_on 0 j) ∙ h (suc j))

parameters_are : (k : Scope) (r : Routine) (kinds : Kinds) (t i p free : ℕ) (more : List Kind) → Stand r i p
    (listed_kinds kinds ++ more) → parameters_code k r kinds t i free ≡ parameters_at k kinds t p free
parameters_are k r no_kind t i p free more h = refl
parameters_are k r (kind_before kind rest) t i p free more h =
    ap (λ n. parameter_code k kind t (4 * n) free ++ parameters_code k r rest (t + parameter_words kind) (suc i) free)
    (stand_first r i p kind (listed_kinds rest ++ more) h)
    ∙ ap (λ l. parameter_code k kind t (4 * p) free ++ l)
    (parameters_are k r rest (t + parameter_words kind) (suc i) (p + kind_words kind) free more
    (stand_next r i p kind (listed_kinds rest ++ more) h))

further : (i n : ℕ) → suc i + n ≡ i + suc n
further i n = omega arith

parameters_stand : (r : Routine) (kinds : Kinds) (i p : ℕ) (more : List Kind) → Stand r i p (listed_kinds kinds ++ more)
    → Stand r (i + count_kinds kinds) (p + words_of_all (listed_kinds kinds)) more
parameters_stand r no_kind i p more h = stand_to r i (i + 0) p (p + 0) more (none_on i) (none_on p) h
parameters_stand r (kind_before kind rest) i p more h =
    stand_to r (suc i + count_kinds rest) (i + suc (count_kinds rest))
    ((p + kind_words kind) + words_of_all (listed_kinds rest))
    (p + (kind_words kind + words_of_all (listed_kinds rest))) more
    (further i (count_kinds rest)) (plus_assoc p (kind_words kind) (words_of_all (listed_kinds rest)))
    (parameters_stand r rest (suc i) (p + kind_words kind) more (stand_next r i p kind (listed_kinds rest ++ more) h))

-- ---- a routine, piece by piece

pub block_told : (chain : List ℕ) (n : ℕ) → n ≡ length chain → nat_le n 1 ≡ is_program_block chain
block_told [] n e = grind (arith, nat_tests, e)
block_told (r ∷ []) n e = grind (arith, nat_tests, e)
block_told (r ∷ s ∷ rest) n e = grind (arith, nat_tests, e)

abbrev behind_result : Routine → ℕ
behind_result r = 1 + words_of_all (result_kinds r.result)

abbrev behind_parameters : Routine → ℕ
behind_parameters r = behind_result r + words_of_all (listed_kinds (kinds_of r.formals))

abbrev begun_code : Scope → Routine → (t p q : ℕ) → List Instruction
begun_code k r t p q = head_code r t ++ result_at k r.result t 1 ++ parameters_at k (kinds_of r.formals) 1 p t
    ++ firsts_code k t q r.variables

entries_stand : (r : Routine) → Stand r 0 1
    (result_kinds r.result ++ (listed_kinds (kinds_of r.formals) ++ variable_kinds r.variables))
entries_stand r = subst (λ l. Stand r 0 1 l)
    (append_assoc (result_kinds r.result) (listed_kinds (kinds_of r.formals)) (variable_kinds r.variables))
    (stand_all r)

formals_stand : (r : Routine) → Stand r (result_entries r.result) (behind_result r)
    (listed_kinds (kinds_of r.formals) ++ variable_kinds r.variables)
formals_stand r = result_stand r r.result (listed_kinds (kinds_of r.formals) ++ variable_kinds r.variables)
    (entries_stand r)

begin_is : (k : Scope) (r : Routine) → begun_code k r (parameter_total r) (behind_result r) (behind_parameters r)
    ≡ begin_code k r
begin_is k r = sym
    (ap (λ l. head_code r (parameter_total r) ++ l ++ parameters_code k r (kinds_of r.formals) 1
    (result_entries r.result) (parameter_total r) ++ variables_code k r r.variables
    (result_entries r.result + count_kinds (kinds_of r.formals)) (parameter_total r))
    (result_is k r r.result (parameter_total r) (listed_kinds (kinds_of r.formals) ++ variable_kinds r.variables)
    (entries_stand r))
    ∙ ap (λ l. head_code r (parameter_total r) ++ result_at k r.result (parameter_total r) 1 ++ l
    ++ variables_code k r r.variables (result_entries r.result + count_kinds (kinds_of r.formals))
    (parameter_total r)) (parameters_are k r (kinds_of r.formals) 1 (result_entries r.result) (behind_result r)
    (parameter_total r) (variable_kinds r.variables) (formals_stand r))
    ∙ ap (λ l. head_code r (parameter_total r) ++ result_at k r.result (parameter_total r) 1 ++ parameters_at k
    (kinds_of r.formals) 1 (behind_result r) (parameter_total r) ++ l)
    (variables_are k r (parameter_total r) r.variables (result_entries r.result + count_kinds (kinds_of r.formals))
    (behind_parameters r) (parameters_stand r (kinds_of r.formals) (result_entries r.result) (behind_result r)
    (variable_kinds r.variables) (formals_stand r))))

pub begin_made : {X E : Type 0} (k : Scope) (r : Routine) (t p q : ℕ) (result : Result X E)
    (new o3 o2 o1 old : List Instruction) → t ≡ parameter_total r → o1 ≡ old ++ head_code r t → o2 ≡ o1
    ++ result_at k r.result t 1 → p ≡ 1 + words_of_all (result_kinds r.result) → o3 ≡ o2 ++ parameters_at k
    (kinds_of r.formals) 1 p t → q ≡ p + words_of_all (listed_kinds (kinds_of r.formals)) → OnOk result
    (new ≡ o3 ++ firsts_code k t q r.variables) → OnOk result (new ≡ old ++ begin_code k r)
begin_made k r t p q result new o3 o2 o1 old total e f at g next h =
    subst (λ l. OnOk result (new ≡ old ++ l))
    (ap (λ n. begun_code k r n p q) total ∙ ap (λ n. begun_code k r (parameter_total r) n q) at
    ∙ ap (λ n. begun_code k r (parameter_total r) (behind_result r) n)
    (next ∙ ap (λ n. n + words_of_all (listed_kinds (kinds_of r.formals))) at) ∙ begin_is k r)
    (behind result new o3 old (head_code r t ++ result_at k r.result t 1 ++ parameters_at k (kinds_of r.formals) 1 p t)
    (firsts_code k t q r.variables)
    (and_then old o2 o3 (head_code r t ++ result_at k r.result t 1) (parameters_at k (kinds_of r.formals) 1 p t)
    (and_then old o1 o2 (head_code r t) (result_at k r.result t 1) e f) g) h)

pub block_made : {X E : Type 0} (k : Scope) (r : Routine) (result : Result X E) (new o2 o1 old : List Instruction) → o1
    ≡ old ++ begin_code k r → o2 ≡ o1 ++ statements_code k r.body 0 → OnOk result (new ≡ o2 ++ end_code r) → OnOk result
    (new ≡ old ++ (begin_code k r ++ statements_code k r.body 0 ++ end_code r))
block_made k r result new o2 o1 old e f h =
    behind result new o2 old (begin_code k r ++ statements_code k r.body 0) (end_code r)
    (and_then old o1 o2 (begin_code k r) (statements_code k r.body 0) e f) h

-- one of two pieces
pub chosen : {X E : Type 0} (b : Bool) (result : Result X E) (new old one other : List Instruction) → true ≡ b
    → OnOk result (new ≡ old ++ one) → OnOk result (new ≡ old ++ (if b then one else other))
chosen b result new old one other e h = subst (λ c. OnOk result (new ≡ old ++ (if c then one else other))) e h

pub other_chosen : {X E : Type 0} (b : Bool) (result : Result X E) (new old one other : List Instruction) → false ≡ b
    → OnOk result (new ≡ old ++ other) → OnOk result (new ≡ old ++ (if b then one else other))
other_chosen b result new old one other e h = subst (λ c. OnOk result (new ≡ old ++ (if c then one else other))) e h

pub nothing_given : {X E : Type 0} (r : Made) (result : Result X E) (new old : List Instruction) → r.result ≡ None
    → OnOk result (new ≡ old ++ Literal 0 (pos 0) ∷ Return 0 ∷ []) → OnOk result
    (new ≡ old ++ result_end (routine_of r) (option_map type_of r.result))
nothing_given r result new old e h = subst
    (λ x. OnOk result (new ≡ old ++ result_end (routine_of r) (option_map type_of x))) (sym e) h

result_offset : (r : Routine) (type : DataType) → r.result ≡ Some type → entry_offset r 0 ≡ 4
result_offset r type e = ap (λ x. 4 * get_or
    (places_from 1 (result_kinds x ++ listed_kinds (kinds_of r.formals) ++ variable_kinds r.variables)) 0 0) e

pub result_given : {X E : Type 0} (r : Made) (type : Ty) (result : Result X E) (new old : List Instruction) → r.result
    ≡ Some type → OnOk result (new ≡ old ++ Load 0 base.Frame 4 ∷ Return 0 ∷ []) → OnOk result
    (new ≡ old ++ result_end (routine_of r) (option_map type_of r.result))
result_given r type result new old e h =
    subst (λ x. OnOk result (new ≡ old ++ result_end (routine_of r) (option_map type_of x))) (sym e)
    (subst (λ n. OnOk result (new ≡ old ++ Load 0 base.Frame n ∷ Return 0 ∷ []))
    (sym (result_offset (routine_of r) (type_of type) (ap (λ x. option_map type_of x) e))) h)
