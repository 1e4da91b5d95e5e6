-- Headings, trees of routines and what is gathered are the same where their parts are; routines with and without
-- blocks.
use Rattle.std.proofs.Common.{◌≡◌, ℕ, suc, ◌≤◌, Bool, true, List, [], ◌∷◌, length, map, Some, None, slice_get, refl}
use Rattle.std.proofs.Common.{sym, ap, ◌∙◌, arith}
use Rattle.ps_syntax.specs.declared.program.Heading as syntax
use Rattle.ps_syntax.specs.declared.program.Block as syntax_block
use Rattle.ps_syntax.specs.declared.program.Routine.{Routine, out-Routine}
use Rattle.ps_syntax.specs.declared.program.Routine.TheOpen.{Routine-F}
use Rattle.ps_tree.specs.Tree as Tree
use Rattle.ps_tree.specs.Counts.{is_routine_within_limits}
use Rattle.ps_check_judgement.specs.Judged as j
use Rattle.ps_check_judgement.specs.Judged.{Yes, steps}
use Rattle.ps_check_judgement.proofs.Impossible.{none_some}
use Rattle.ps_check_names.specs.Spelling.{spelled}
use Rattle.ps_check_names.specs.Regions.{Meaning, RoutineMeaning, Heading}
use Rattle.ps_check.specs.Readings.{Gathered, Routines}
use Rattle.ps_check.specs.Forwards.{one_complete}
use Rattle.ps_check.specs.Blocks.{is_small_routine}
use Rattle.ps_check.specs.Paths.{layer_block, routine_block}
use Rattle.ps_check_laws.specs.Definitions.{OfDeclaration, formal_points, names_of, formal_declarations}
use Rattle.ps_check_laws.proofs.BlockPoints.{formals_names}

pub heading_parts : (a b : Heading) → a.number ≡ b.number → a.at ≡ b.at → a.sections ≡ b.sections → a.result ≡ b.result
    → a.names ≡ b.names → a.is_forward ≡ b.is_forward → a ≡ b
heading_parts a b n k s r m f =
    let as_heading : ℕ → ℕ → _ → _ → _ → Bool → Heading = λ n k s r m f. record {
      number = n;
      at = k;
      sections = s;
      result = r;
      names = m;
      is_forward = f;
    } in
    ap (λ x. as_heading x a.at a.sections a.result a.names a.is_forward) n
    ∙ ap (λ x. as_heading b.number x a.sections a.result a.names a.is_forward) k
    ∙ ap (λ x. as_heading b.number b.at x a.result a.names a.is_forward) s
    ∙ ap (λ x. as_heading b.number b.at b.sections x a.names a.is_forward) r
    ∙ ap (λ x. as_heading b.number b.at b.sections b.result x a.is_forward) m
    ∙ ap (λ x. as_heading b.number b.at b.sections b.result b.names x) f

pub tree_parts : (a b : Tree.Routine) → a.chain ≡ b.chain → a.formals ≡ b.formals → a.result ≡ b.result → a.variables
    ≡ b.variables → a.body ≡ b.body → a.line ≡ b.line → a ≡ b
tree_parts a b c f r v s l =
    let as_tree : _ → _ → _ → _ → _ → _ → Tree.Routine = λ c f r v s l. record {
      chain = c;
      formals = f;
      result = r;
      variables = v;
      body = s;
      line = l;
    } in
    ap (λ x. as_tree x a.formals a.result a.variables a.body a.line) c
    ∙ ap (λ x. as_tree b.chain x a.result a.variables a.body a.line) f
    ∙ ap (λ x. as_tree b.chain b.formals x a.variables a.body a.line) r
    ∙ ap (λ x. as_tree b.chain b.formals b.result x a.body a.line) v
    ∙ ap (λ x. as_tree b.chain b.formals b.result b.variables x a.line) s
    ∙ ap (λ x. as_tree b.chain b.formals b.result b.variables b.body x) l

pub small_routine : (r : Tree.Routine) → is_routine_within_limits r ≡ true → is_small_routine r ≡ true
unfolding is_routine_within_limits is_small_routine
small_routine r e = grind (arith, e)

pub short_chain : (r : Tree.Routine) → is_routine_within_limits r ≡ true → length r.chain ≤ 16
unfolding is_routine_within_limits
short_chain r e = grind (arith, e)

pub formals_are : (text : List ℕ) (x : syntax.Heading) → names_of text (map OfDeclaration (formal_declarations x)) ≡ map
    (spelled text) (formal_points x)
unfolding formal_declarations
formals_are text x = formals_names text x 0 (formal_points x)

-- where each routine has its block
pub all_are : (g : Gathered) (ms : List Meaning)
    → ((i : ℕ) (m : Meaning) → slice_get ms i ≡ Some m → one_complete g tt m ≡ Yes tt) → steps (one_complete g) tt ms
    ≡ Yes tt
all_are g [] f = refl
all_are g (m ∷ ms) f = ap (λ q. j.◌>>=◌ q (λ u. steps (one_complete g) u ms)) (f 0 m refl) ∙ all_are g ms
    (λ i y e. f (suc i) y e)

-- ---- what is gathered, part by part

pub gathered_parts : (a b : Gathered) → a.domains ≡ b.domains → a.routines ≡ b.routines → a ≡ b
gathered_parts a b d r = ap (λ x. record {
  domains = x;
  routines = a.routines;
}) d ∙ ap (λ x. record {
  domains = b.domains;
  routines = x;
}) r

pub routines_parts : (a b : Routines) → a.known ≡ b.known → a.changes ≡ b.changes → a.gathered ≡ b.gathered → a ≡ b
routines_parts a b k s g = ap (λ x. record {
  known = x;
  changes = a.changes;
  gathered = a.gathered;
}) k ∙ ap (λ x. record {
  known = b.known;
  changes = x;
  gathered = a.gathered;
}) s ∙ ap (λ x. record {
  known = b.known;
  changes = b.changes;
  gathered = x;
}) g

pub forward_of : (x : Routine) (z : Routine-F Routine syntax_block.Block) → out-Routine x ≡ z → routine_block x ≡ None
    → (h : syntax.Heading) × (out-Routine x ≡ Routine-F.Forward h)
unfolding routine_block
forward_of x (Routine-F.Whole g b) o none = absurd (none_some (sym none ∙ ap layer_block o))
forward_of x (Routine-F.Forward g) o none = (g, o)
forward_of x (Routine-F.Completion name b) o none = absurd (none_some (sym none ∙ ap layer_block o))

pub no_block_forward : (x : Routine) (b : syntax_block.Block) → routine_block x ≡ Some b → (h : syntax.Heading)
    → out-Routine x ≡ Routine-F.Forward h → ⊥
unfolding routine_block
no_block_forward x b is h o = none_some (sym (ap layer_block o) ∙ is)

heading_or : Heading → Meaning → Heading
heading_or d (RoutineMeaning h) = h
heading_or d m = d

pub routine_inside : (h g : Heading) → RoutineMeaning h ≡ RoutineMeaning g → h ≡ g
unfolding heading_or
routine_inside h g e = ap (heading_or h) e
