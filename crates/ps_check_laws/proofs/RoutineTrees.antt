-- The tree that is made of a routine, the lists of such, and routines with and without blocks.
use Rattle.std.proofs.Common.{◌≡◌, ℕ, zero, suc, true, List, [], ◌∷◌, ◌++◌, length, Option, Some, None, slice_get}
use Rattle.std.proofs.Common.{refl, sym, ap, ◌∙◌, arith}
use Rattle.std.proofs.lemmas.Option.{slice_get_within, same_Some}
use Rattle.ps_syntax.specs.declared.program.Block as syntax_block
use Rattle.ps_syntax.specs.declared.program.Heading as syntax_heading
use Rattle.ps_syntax.specs.declared.program.Routine.{Routine, out-Routine}
use Rattle.ps_syntax.specs.declared.program.Routine.TheOpen.{Routine-F}
use Rattle.ps_tree.specs.Tree as Tree
use Rattle.ps_check_judgement.specs.declared.refusal.Rule.TheVariants.{Limit}
use Rattle.ps_check_judgement.specs.Judged.{Yes, some_or, traverse}
use Rattle.ps_check_judgement.proofs.Binds.{inside_yes, then_yes, some_or_yes}
use Rattle.ps_check_judgement.proofs.Impossible.{never, none_some}
use Rattle.ps_check_names.specs.Regions.{Meaning, Heading, formals_of}
use Rattle.ps_check_declarations.specs.Denoters.{Frame}
use Rattle.ps_check.specs.Readings.{Done}
use Rattle.ps_check.specs.Blocks.{routine_tree}
use Rattle.ps_check.specs.Paths.{layer_block, routine_block}
use Rattle.ps_check_laws.specs.Definitions.{Definition}
use Rattle.ps_check_laws.specs.Meanings.{AreMeanings}
use Rattle.ps_check_laws.specs.Forward.{layer_completes}
use Rattle.ps_check_laws.proofs.Lists.{get_left}
use Rattle.ps_check_laws.proofs.Declared.{Standing}

-- what holds of the first points holds with more after them
pub prefix_meanings : (f : Frame) (first : ℕ) (numbers : ℕ → ℕ) (ds more all : List Definition) (known : List Meaning)
    → all
    ≡ ds ++ more → Standing f first numbers ds known → AreMeanings f first numbers all known
prefix_meanings f first numbers ds more all known e s i d m at g =
    let many = s.many in
    let below = slice_get_within known i m g in
    s.are i d m (sym (ap (λ l. slice_get l i) e ∙ get_left ds more i (omega (arith, many, below))) ∙ at) g

-- those that are traversed
pub traversed : (at : ℕ) (xs : List (Option Tree.Routine)) (ys : List Tree.Routine) (n : ℕ) (x : Tree.Routine)
    → traverse
    (some_or Limit at) xs ≡ Yes ys → slice_get xs n ≡ Some (Some x) → slice_get ys n ≡ Some x
traversed at [] ys n x e g = absurd (none_some g)
traversed at (y ∷ xs) ys zero x e g =
    let a = then_yes (some_or Limit at y) _ ys e in
    let b = then_yes (traverse (some_or Limit at) xs) _ ys a.2 in
    ap (λ l. slice_get l 0) (sym (inside_yes (a.0 ∷ b.0) ys b.2)) ∙ sym (some_or_yes Limit at y a.0 a.1) ∙ same_Some y
    (Some x) g
traversed at (y ∷ xs) ys (suc n) x e g =
    let a = then_yes (some_or Limit at y) _ ys e in
    let b = then_yes (traverse (some_or Limit at) xs) _ ys a.2 in
    ap (λ l. slice_get l (suc n)) (sym (inside_yes (a.0 ∷ b.0) ys b.2)) ∙ traversed at xs b.0 n x b.1 g

pub traversed_length : (at : ℕ) (xs : List (Option Tree.Routine)) (ys : List Tree.Routine) → traverse
    (some_or Limit at) xs
    ≡ Yes ys → length ys ≡ length xs
traversed_length at [] ys e = ap length (sym (inside_yes [] ys e))
traversed_length at (x ∷ xs) ys e =
    let a = then_yes (some_or Limit at x) _ ys e in
    let b = then_yes (traverse (some_or Limit at) xs) _ ys a.2 in
    ap length (sym (inside_yes (a.0 ∷ b.0) ys b.2)) ∙ ap suc (traversed_length at xs b.0 b.1)

pub tree_body : (chain : List ℕ) (h : Heading) (d : Done) → (routine_tree chain h d).body ≡ d.body
unfolding routine_tree
tree_body chain h d = refl

pub tree_variables : (chain : List ℕ) (h : Heading) (d : Done) → (routine_tree chain h d).variables ≡ d.variables
unfolding routine_tree
tree_variables chain h d = refl

pub tree_formals : (chain : List ℕ) (h : Heading) (d : Done) → (routine_tree chain h d).formals ≡ formals_of h.sections
unfolding routine_tree
tree_formals chain h d = refl

pub tree_result : (chain : List ℕ) (h : Heading) (d : Done) → (routine_tree chain h d).result ≡ h.result
unfolding routine_tree
tree_result chain h d = refl

pub tree_line : (chain : List ℕ) (h : Heading) (d : Done) → (routine_tree chain h d).line ≡ d.line
unfolding routine_tree
tree_line chain h d = refl

pub tree_chain : (chain : List ℕ) (h : Heading) (d : Done) → (routine_tree chain h d).chain ≡ chain
unfolding routine_tree
tree_chain chain h d = refl

-- ---- routines with and without blocks

pub forward_heading : (x : Routine) (y : Routine-F Routine syntax_block.Block) → out-Routine x ≡ y → routine_block x
    ≡ None
    → (h : syntax_heading.Heading) × (out-Routine x ≡ Routine-F.Forward h)
unfolding routine_block
forward_heading x (Routine-F.Whole g b) o none = absurd (none_some (sym none ∙ ap layer_block o))
forward_heading x (Routine-F.Forward g) o none = (g, o)
forward_heading x (Routine-F.Completion name b) o none = absurd (none_some (sym none ∙ ap layer_block o))

pub completing_block : (x : Routine) (y : Routine-F Routine syntax_block.Block) (h : syntax_heading.Heading)
    → out-Routine x
    ≡ y → layer_completes h (out-Routine x) ≡ true → (b : syntax_block.Block) × (routine_block x ≡ Some b)
unfolding routine_block
completing_block x (Routine-F.Whole g b) h o e = (b, ap layer_block o)
completing_block x (Routine-F.Forward g) h o e = never (sym (ap (layer_completes h) o) ∙ e)
completing_block x (Routine-F.Completion name b) h o e = (b, ap layer_block o)
