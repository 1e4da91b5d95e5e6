-- A tree that is read as a checked program is one whose checked program it is.
use Rattle.std.proofs.Common.{◌≡◌, ℕ, suc, ◌+◌, ◌≤◌, Bool, true, false, ◌&&◌, if◌then◌else◌, List, [], ◌∷◌, ◌++◌}
use Rattle.std.proofs.Common.{length, map, take, nat_eq, nat_le, Option, Some, None, slice_get, slice_set, refl, sym}
use Rattle.std.proofs.Common.{ap, ◌∙◌, subst, arith}
use Rattle.std.proofs.lemmas.Bool.{eq-eqb, false≢true, leb-true, ne_eqb}
use Rattle.std.proofs.lemmas.Option.{same_Some}
use Rattle.ps_syntax.specs.declared.program.Block as syntax_block
use Rattle.ps_syntax.specs.declared.program.Block.{roll-Block, out-roll-Block}
use Rattle.ps_syntax.specs.declared.program.Routine.{Routine, roll-Routine, map-Routine, out-roll-Routine}
use Rattle.ps_syntax.specs.declared.program.Routine.TheOpen.{Routine-F, Block-F}
use Rattle.ps_syntax.specs.declared.program.Routine.TheFolds.{ind-Block}
use Rattle.ps_syntax.specs.declared.program.Program as syntax
use Rattle.ps_tree.specs.Tree as Tree
use Rattle.ps_tree.specs.Counts.{is_within_limits, are_small, are_routines_within_limits}
use Rattle.ps_tree.specs.declared.limits.TheConstants.{MAX_ROUTINES}
use Rattle.ps_check_judgement.specs.declared.change.Change.{Change}
use Rattle.ps_check_judgement.specs.declared.refusal.Rule.TheVariants.{Limit}
use Rattle.ps_check_judgement.specs.Judged.{Yes, ◌>>=◌, provided, some_or, traverse}
use Rattle.ps_check_judgement.proofs.Binds.{inside_yes}
use Rattle.ps_check_judgement.proofs.Impossible.{none_some}
use Rattle.ps_check_judgement.proofs.Items.{there_is}
use Rattle.ps_check_names.specs.Regions.{Region}
use Rattle.ps_check.specs.Readings.{Start, Done}
use Rattle.ps_check.specs.Blocks.{own_number, block}
use Rattle.ps_check.specs.Programs.{Files, program, program_with, program_of, program_context, program_start}
use Rattle.ps_check.specs.Programs.{program_chain, program_routine, assembled, nothing_gathered, required}
use Rattle.ps_check.specs.Paths.{layer_block, routine_block, block_at}
use Rattle.ps_check_laws.specs.Denoting.{first_number, headings_within}
use Rattle.ps_check_laws.specs.Counts.{block_domains, first_domain_at}
use Rattle.ps_check_laws.specs.Rule.{BlockIsRead, is_read, IsBegun, of_program, ReadProgramsAreChecked}
use Rattle.ps_check_laws.specs.Rule.{OneProgramIsRead}
use Rattle.ps_check_laws.proofs.Lists.{take_next, take_all, Each}
use Rattle.ps_check_laws.proofs.Shown.{closed, shown, shown_from, shown_all, shown_closed, all_some}
use Rattle.ps_check_laws.proofs.Recovered.{recovered}
use Rattle.ps_check_laws.proofs.ByParts.{tree_parts}
use Rattle.ps_check_laws.proofs.RecoveredNames.{BlockRecovers, RoutineRecovers}

-- ---- the limits of a program

limited : (a b c d : Bool) → (a && b && c && d) ≡ true → (a ≡ true) × (d ≡ true)
limited true true true true e = (refl, refl)
limited true true true false e = (refl, e)
limited true true false d e = absurd (false≢true e)
limited true false c d e = absurd (false≢true e)
limited false b c d e = absurd (false≢true e)

limits_told : (made : Tree.Program) → is_within_limits made ≡ true → (length made.routines ≤ MAX_ROUTINES)
    × (are_routines_within_limits made.routines ≡ true)
unfolding is_within_limits
limits_told made e =
    let l = limited (nat_le (length made.routines) MAX_ROUTINES) (nat_le (length made.domains) MAX_ROUTINES)
    (are_small made.domains) (are_routines_within_limits made.routines) e in
    (leb-true (length made.routines) MAX_ROUTINES l.0, l.1)

-- ---- all blocks

module _ (text : List ℕ) (p : syntax.Program) (files : Files) (made : Tree.Program)
    (limits : are_routines_within_limits made.routines ≡ true) (few : length made.routines ≤ MAX_ROUTINES) where
  abbrev AtRoutine : Type 0
  AtRoutine = (x : Routine) × RoutineRecovers text p files made limits few x

  abbrev AtBlock : Type 0
  AtBlock = (x : syntax_block.Block) × BlockRecovers text p files made limits few x

  each_of : (ys : List AtRoutine) → Each (RoutineRecovers text p files made limits few) (map (λ y. y.0) ys)
  each_of [] = tt
  each_of (y ∷ ys) = (y.1, each_of ys)

  routine_layer : (y : Routine-F AtRoutine AtBlock) → RoutineRecovers text p files made limits few
      (roll-Routine (map-Routine AtRoutine AtBlock Routine syntax_block.Block (λ e. e.0) (λ e. e.0) y))
  unfolding routine_block
  routine_layer (Routine-F.Whole h x) b e = subst (BlockRecovers text p files made limits few)
      (same_Some x.0 b (sym (ap layer_block (out-roll-Routine (Routine-F.Whole h x.0))) ∙ e)) x.1
  routine_layer (Routine-F.Forward h) b e = absurd
      (none_some (sym (ap layer_block (out-roll-Routine (Routine-F.Forward h))) ∙ e))
  routine_layer (Routine-F.Completion name x) b e = subst (BlockRecovers text p files made limits few)
      (same_Some x.0 b (sym (ap layer_block (out-roll-Routine (Routine-F.Completion name x.0))) ∙ e)) x.1

  block_layer : (x : Block-F Routine syntax_block.Block) → Each
      (RoutineRecovers text p files made limits few) x.routines → BlockRecovers text p files made limits few
      (roll-Block x)
  block_layer x claims v Γ mine changes inner_is nested there room vacant low =
      recovered text p files made limits few v (roll-Block x) Γ mine changes inner_is nested there room vacant low
      (subst (λ (z : Block-F Routine syntax_block.Block). Each
      (RoutineRecovers text p files made limits few) z.routines) (sym (out-roll-Block x)) claims)

  blocks_recover : (b : syntax_block.Block) → BlockRecovers text p files made limits few b
  blocks_recover = ind-Block (RoutineRecovers text p files made limits few) (BlockRecovers text p files made limits few)
      (λ x y is. subst (λ z. RoutineRecovers text p files made limits few (roll-Routine z)) is (routine_layer y))
      (λ x y is. block_layer x (subst (λ (z : Block-F Routine syntax_block.Block). Each
      (RoutineRecovers text p files made limits few) z.routines) is (each_of y.routines)))

-- ---- the program block

record RootBegun (files : Files) (s : Start) (r : Tree.Routine) : Type 0 where
  is : s ≡ program_start files
  formals : r.formals ≡ Tree.no_formal
  result : r.result ≡ None

root_begun : (text : List ℕ) (p : syntax.Program) (files : Files) (made : Tree.Program) (Γ : List Region) (s : Start)
    (r : Tree.Routine) → IsBegun text p files made [] Γ s r → RootBegun files s r
root_begun text p files made Γ s r (of_program G t f q) = record { is = refl; formals = f; result = q }

abbrev is_root : ℕ → Bool
is_root m = nat_eq m 0

by_root : (text : List ℕ) (p : syntax.Program) (files : Files) (made : Tree.Program) (all : List Change)
    → length made.routines ≡ suc (headings_within text p.block) → length made.domains ≡ block_domains p.block
    → is_within_limits made ≡ true
    → BlockIsRead text p files made [] p.block (required ∷ []) all
    → (block (program_context text files) p.block (required ∷ []) (program_start files) nothing_gathered
    >>= program_of p.name.from) ≡ Yes made
unfolding program_of assembled first_number first_domain_at own_number block_at
by_root text p files made all many drawn within (is_read u a G some mine all_changes changes inner_is nested) =
    let limits = limits_told made within in
    let begun = root_begun text p files made (required ∷ []) mine.start mine.routine mine.begins in
    let one : mine.next ≡ 1 = same_Some mine.next 1 (sym mine.numbers) in
    let none : mine.pointers ≡ 0 = same_Some mine.pointers 0 (sym mine.domains) in
    let count : mine.next + headings_within text p.block ≡ length made.routines = omega (arith, one, many) in
    let low : (m : ℕ) → mine.next ≤ m → is_root m ≡ false = λ m l. ne_eqb m 0 (λ q. omega (arith, l, one, q)) in
    let root = there_is made.routines 0 (omega (arith, many)) in
    let first : shown made.routines is_root mine.next ≡ None ∷ [] =
    ap (shown made.routines is_root) one ∙ ap (shown_from is_root 0) (take_next made.routines 0 root.0 root.1)
    ∙ ap (λ b. (if b then None else Some root.0) ∷ []) (eq-eqb 0 0 refl) in
    let g_is : nothing_gathered ≡ record {
      domains = take mine.pointers made.domains;
      routines = shown made.routines is_root mine.next;
    } =
    ap (λ k. record {
      domains = take k made.domains;
      routines = None ∷ [];
    }) (sym none) ∙ ap (λ l. record {
      domains = take mine.pointers made.domains;
      routines = l;
    }) (sym first) in
    let domains_are : take (mine.pointers + block_domains p.block) made.domains ≡ made.domains =
    (let z : mine.pointers + block_domains p.block ≡ length made.domains = omega (arith, none, drawn)
    in ap (λ k. take k made.domains) z ∙ take_all made.domains) in
    let set : List (Option Tree.Routine) = shown made.routines is_root (length made.routines) in
    let as_done : _ → _ → Done = λ l s. record {
      variables = mine.routine.variables;
      body = mine.routine.body;
      line = mine.routine.line;
      changes = mine.inner ++ mine.changes;
      gathered = record {
        domains = l;
        routines = s;
      };
    } in
    let d : Done = as_done made.domains set in
    let reading : block (program_context text files) p.block (required ∷ []) (program_start files) nothing_gathered
    ≡ Yes d =
    ap (block (program_context text files) p.block (required ∷ []) (program_start files)) g_is
    ∙ ap (λ s. block (program_context text files) p.block (required ∷ []) s (record {
      domains = take mine.pointers made.domains;
      routines = shown made.routines is_root mine.next;
    })) (sym begun.is)
    ∙ blocks_recover text p files made limits.1 limits.0 p.block [] (required ∷ []) mine changes inner_is nested refl
    (omega (arith, count)) is_root low
    ∙ ap (λ l. Yes (as_done l (shown made.routines is_root (mine.next + headings_within text p.block)))) domains_are
    ∙ ap (λ k. Yes (as_done made.domains (shown made.routines is_root k))) count in
    let chain : mine.start.chain ≡ program_chain = ap (λ (s : Start). s.chain) begun.is in
    let routine_is : program_routine d ≡ mine.routine = tree_parts (program_routine d) mine.routine
    (sym (mine.is_chain ∙ chain)) (sym begun.formals) (sym begun.result) refl refl refl in
    let checked : slice_get made.routines 0 ≡ Some mine.routine = ap (λ l. slice_get made.routines (own_number l))
    (sym chain) ∙ mine.checked in
    let shut : (m : ℕ) → 0 ≤ m → closed 0 is_root m ≡ false = λ m l. at (nat_eq m 0) in
    let all_of : slice_set set 0 (Some mine.routine) ≡ map (λ r. Some r) made.routines =
    shown_closed made.routines is_root (length made.routines) 0 mine.routine (omega (arith, many)) checked
    ∙ ap (shown_from (closed 0 is_root) 0) (take_all made.routines) ∙ shown_all
    (closed 0 is_root) 0 made.routines shut in
    let as_made : List Tree.Routine → Tree.Program = λ rs. record { routines = rs; domains = made.domains } in
    let from = p.name.from in
    ap (λ o. o >>= program_of from) reading
    ∙ ap (λ r. traverse (some_or Limit from) (slice_set set 0 (Some r))
    >>= (λ rs. provided (is_within_limits (as_made rs)) Limit from (as_made rs))) routine_is
    ∙ ap (λ l. traverse (some_or Limit from) l
    >>= (λ rs. provided (is_within_limits (as_made rs)) Limit from (as_made rs))) all_of
    ∙ ap (λ o. o >>= (λ rs. provided (is_within_limits (as_made rs)) Limit from (as_made rs)))
    (all_some from made.routines) ∙ ap (λ b. provided b Limit from made) within
  where
    at : (b : Bool) → (if b then false else b) ≡ false
    at true = refl
    at false = refl

pub read_programs_are_checked : ReadProgramsAreChecked
unfolding program program_with
read_programs_are_checked text p made r = ap (λ o. o >>= program_with text p) r.listed
    ∙ by_root text p r.files made r.changes r.routines r.domains r.limits r.block

pub one_program_is_read : OneProgramIsRead
one_program_is_read text p made other a b = inside_yes made other
    (sym (read_programs_are_checked text p made a) ∙ read_programs_are_checked text p other b)
