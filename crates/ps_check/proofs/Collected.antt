-- The routines of a program, taken one by one.
use Rattle.std.proofs.Common.{◌≡◌, ℕ, List, [], ◌∷◌, ◌++◌, map, Option, Some, None, option_map, Bool, true}
use Rattle.std.proofs.Common.{false, IsTrue, IsSome, IfSome, ◌↔◌, refl, sym, ap, ◌∙◌, append_assoc, append-nil}
use Rattle.std.proofs.Common.{slice_set, Vec, Global}
use Rattle.std.proofs.lemmas.List.{map_push}
use Rattle.ps_tree.specs.declared.tree.statements.Routine.{Routine}
use Rattle.ps_tree.specs.Tree as Tree
use Rattle.ps_tree.specs.View.{routine_of}
use Rattle.ps_tree.specs.declared.types.Ty.{Ty}
use Rattle.ps_tree.specs.Counts.{is_within_limits}
use Rattle.ps_tree.specs.Checked.{Parts, program_in}
use Rattle.ps_tree.specs.View as tree
use Rattle.ps_check_judgement.specs.declared.refusal.Rule.TheVariants.{Limit}
use Rattle.ps_check_judgement.specs.Judged.{Judged, Yes, No, ◌>>=◌, provided, some_or, traverse}
use Rattle.ps_check.specs.declared.chain.Finished.{Finished}
use Rattle.ps_tree.specs.Types.{DataType}
use Rattle.ps_check.specs.declared.state.Done as RustDone
use Rattle.ps_check.specs.declared.state.Gathered as RustGathered
use Rattle.ps_check.specs.Readings.{Gathered}
use Rattle.ps_check.specs.Programs.{assembled, program_routine, program_of}
use Rattle.ps_check.specs.Views.{finished_of, gathered_of, done_of}

-- all of them, of a program whose name is at an offset
abbrev whole : (at : ℕ) → List (Option Finished) → Judged (List Tree.Routine)
whole at items = traverse (some_or Limit at) (map finished_of items)

-- those that were taken, and what the rest give
abbrev behind : List Tree.Routine → Judged (List Tree.Routine) → Judged (List Tree.Routine)
behind done o = o >>= (λ rest. Yes (done ++ rest))

behind_none : (o : Judged (List Tree.Routine)) → o ≡ behind [] o
behind_none (No rule at) = refl
behind_none (Yes rest) = refl

behind_more : (done : List Tree.Routine) (r : Tree.Routine) (o : Judged (List Tree.Routine)) → behind done
    (o >>= (λ rest. Yes (r ∷ rest))) ≡ behind (done ++ r ∷ []) o
behind_more done r (No rule at) = refl
behind_more done r (Yes rest) = ap Yes (sym (append_assoc done (r ∷ []) rest))

pub record Collected (at : ℕ) (all rest : List (Option Finished)) (done : List Routine) : Type 0 where
  pub rest_is : whole at all ≡ behind (map routine_of done) (whole at rest)

pub collected_start : (at : ℕ) (all : List (Option Finished)) → Collected at all all []
collected_start at all = record { rest_is = behind_none (whole at all) }

module _ (at : ℕ) (all rest more : List (Option Finished)) (done : List Routine) where
  pub collected_next : (f : Finished) (new : List Routine) → rest ≡ Some f ∷ more → Collected at all rest done → new
      ≡ done ++ f.routine ∷ [] → Collected at all more new
  collected_next f new e c n = record {
    rest_is =
        c.rest_is
        ∙ ap (λ l. behind (map routine_of done) (whole at l)) e
        ∙ behind_more (map routine_of done) (routine_of f.routine) (whole at more)
        ∙ ap (λ l. behind l (whole at more)) (sym (map_push routine_of done f.routine) ∙ ap (map routine_of) (sym n));
  }

  pub collected_none : rest ≡ None ∷ more → Collected at all rest done → whole at all ≡ No Limit at
  collected_none e c = c.rest_is ∙ ap (λ l. behind (map routine_of done) (whole at l)) e

pub collected_end : (at : ℕ) (all rest : List (Option Finished)) (done : List Routine) → rest ≡ []
    → Collected at all rest done → whole at all ≡ Yes (map routine_of done)
collected_end at all rest done e c = c.rest_is ∙ ap (λ l. behind (map routine_of done) (whole at l)) e ∙ ap Yes
    (append-nil (map routine_of done))

-- the program within the limits, or the refusal
not_within : (b : Bool) → (IsTrue b → ⊥) → b ≡ false
not_within true h = absurd (h refl)
not_within false h = refl

pub limited_is : (at : ℕ) (o : Option Parts) (rs : List Routine) (ds : List Ty)
    → (IsSome o ↔ IsTrue (is_within_limits (tree.program_of rs ds))) → IfSome o (λ p. p.routines ≡ rs) → IfSome o
    (λ p. p.domains ≡ ds) → some_or Limit at (option_map program_in o) ≡ provided
    (is_within_limits (tree.program_of rs ds)) Limit at (tree.program_of rs ds)
limited_is at None rs ds l r d = sym (ap (λ b. provided b Limit at (tree.program_of rs ds))
    (not_within (is_within_limits (tree.program_of rs ds)) (λ t. let q : false ≡ true = l.1 t in cc)))
limited_is at (Some p) rs ds l r d = ap (λ x. Yes (tree.program_of x p.domains)) r
    ∙ ap (λ x. Yes (tree.program_of rs x)) d ∙ sym (ap (λ b. provided b Limit at (tree.program_of rs ds)) (l.0 refl))

abbrev gathered : List DataType → List (Option Tree.Routine) → Gathered
gathered domains routines = record { domains = domains; routines = routines }

-- the program block is routine 0
pub program_gathered : (at : ℕ) (b : RustDone.Done) (old new : RustGathered.Gathered) (f : Finished) → new.domains
    ≡ old.domains → map finished_of new.routines.items ≡ slice_set (map finished_of old.routines.items) 0
    (Some (routine_of f.routine)) → ((g : RustGathered.Gathered) → routine_of f.routine ≡ program_routine (done_of b g))
    → program_of at (done_of b old) ≡ assembled at (gathered_of new)
unfolding program_of
program_gathered at b old new f ds rs is =
    ap (λ (r : Tree.Routine). assembled at (gathered (map tree.type_of old.domains.items)
    (slice_set (map finished_of old.routines.items) 0 (Some r)))) (sym (is old))
    ∙ ap (λ (l : List (Option Tree.Routine)). assembled at (gathered (map tree.type_of old.domains.items) l)) (sym rs)
    ∙ ap (λ (v : Vec Ty Global). assembled at
    (gathered (map tree.type_of v.items) (map finished_of new.routines.items))) (sym ds)
