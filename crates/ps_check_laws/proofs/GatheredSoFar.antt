-- What is gathered while the routines of a block are read: routines that have their blocks, domain types, changes.
use Rattle.std.proofs.Common.{◌≡◌, ℕ, zero, suc, ◌+◌, ◌<◌, true, List, [], ◌∷◌, ◌++◌, length, map, Option, Some, None}
use Rattle.std.proofs.Common.{get_or, slice_get, refl, sym, ap, ◌∙◌, append_assoc, length-append, arith}
use Rattle.std.proofs.lemmas.Option.{same_Some}
use Rattle.ps_syntax.specs.declared.program.Block as syntax_block
use Rattle.ps_syntax.specs.declared.program.Routine.{Routine}
use Rattle.ps_tree.specs.Types.{DataType}
use Rattle.ps_tree.specs.Tree as Tree
use Rattle.ps_check_judgement.specs.declared.change.Change.{Change}
use Rattle.ps_check_judgement.specs.Judged.{Yes}
use Rattle.ps_check_judgement.proofs.Impossible.{never, none_some}
use Rattle.ps_check_names.specs.Regions.{Region, Context}
use Rattle.ps_check.specs.Readings.{Gathered, Start, Done}
use Rattle.ps_check.specs.Forwards.{is_vacant}
use Rattle.ps_check.specs.Blocks.{block}
use Rattle.ps_check.specs.Paths.{routine_block}
use Rattle.ps_check_laws.specs.Controls.{changes_by, changes_from}
use Rattle.ps_check_laws.specs.Definitions.{Declarations, OfDeclaration, names_of}
use Rattle.ps_check_laws.specs.Denoting.{headings_within}
use Rattle.ps_check_laws.specs.Counts.{block_domains}
use Rattle.ps_check_laws.proofs.Declared.{Stand}
use Rattle.ps_check.specs.RegionNames.{AreApart}

-- the routines that have their blocks keep them
abbrev pub Keeps : Gathered → Gathered → Type 0
Keeps g h = (n : ℕ) (x : Tree.Routine) → slice_get g.routines n ≡ Some (Some x) → slice_get h.routines n ≡ Some (Some x)

-- the routines with lower numbers are as they were
abbrev pub Same : ℕ → Gathered → Gathered → Type 0
Same limit g h = (n : ℕ) → n < limit → slice_get h.routines n ≡ slice_get g.routines n

-- more domain types
abbrev pub Longer : Gathered → Gathered → Type 0
Longer g h = (more : List DataType) × (h.domains ≡ g.domains ++ more)

pub longer_both : (g h j : Gathered) → Longer g h → Longer h j → Longer g j
longer_both g h j a b = (a.0 ++ b.0, b.1 ∙ ap (λ l. l ++ b.0) a.1 ∙ append_assoc g.domains a.0 b.0)

-- n further headings
pub record Grown (g h : Gathered) (n m : ℕ) : Type 0 where
  pub count : length h.routines ≡ length g.routines + n
  pub keeps : Keeps g h
  pub lower : Same (length g.routines) g h
  pub domains : Longer g h
  pub drawn : length h.domains ≡ length g.domains + m

or_vacant : Option (Option Tree.Routine) → Option Tree.Routine
or_vacant None = None
or_vacant (Some o) = o

pub vacant_is : (o : Option (Option Tree.Routine)) → is_vacant o ≡ true → o ≡ Some None
vacant_is (Some None) e = refl
vacant_is (Some (Some x)) e = never e
vacant_is None e = never e

pub not_both : (o : Option (Option Tree.Routine)) (x : Tree.Routine) → o ≡ Some None → o ≡ Some (Some x) → ⊥
unfolding or_vacant
not_both o x e f = none_some (ap or_vacant (sym e ∙ f))

-- ---- what the routines change

-- what the block of each changes, one after the other
abbrev pub changes_of : List (List Change) → List Routine → List Change
changes_of [] rs = []
changes_of (p ∷ ps) [] = []
changes_of (p ∷ ps) (r ∷ rs) = changes_by p (routine_block r) ++ changes_of ps rs

part_there : (done ps : List (List Change)) (p : List Change) → get_or (done ++ p ∷ ps) (length done) [] ≡ p
part_there [] ps p = refl
part_there (d ∷ done) ps p = part_there done ps p

parts_told : (done ps : List (List Change)) (rs : List Routine) → length ps ≡ length rs → changes_from
    (λ k. get_or (done ++ ps) k []) (length done) rs ≡ changes_of ps rs
unfolding changes_from
parts_told done [] [] e = refl
parts_told done [] (r ∷ rs) e = absurd (omega (arith, e))
parts_told done (p ∷ ps) [] e = absurd (omega (arith, e))
parts_told done (p ∷ ps) (r ∷ rs) e =
    let longer : (done ++ p ∷ []) ++ ps ≡ done ++ p ∷ ps = append_assoc done (p ∷ []) ps in
    let l : length (done ++ p ∷ []) ≡ length done + 1 = length-append done (p ∷ []) in
    let rest = parts_told (done ++ p ∷ []) ps rs (omega (arith, e)) in
    ap (λ c. changes_by c (routine_block r) ++ changes_from (λ k. get_or (done ++ p ∷ ps) k []) (length done + 1) rs)
    (part_there done ps p)
    ∙ ap (λ n. changes_by p (routine_block r) ++ changes_from (λ k. get_or (done ++ p ∷ ps) k []) n rs) (sym l)
    ∙ ap (λ l. changes_by p (routine_block r) ++ changes_from (λ k. get_or l k []) (length (done ++ p ∷ [])) rs)
    (sym longer)
    ∙ ap (λ l. changes_by p (routine_block r) ++ l) rest

pub changes_told : (parts : List (List Change)) (rs : List Routine) → length parts ≡ length rs → changes_from
    (λ k. get_or parts k []) 0 rs ≡ changes_of parts rs
changes_told parts rs e = parts_told [] parts rs e

pub part_at : (parts : List (List Change)) (k : ℕ) (p : List Change) → slice_get parts k ≡ Some p → get_or parts k []
    ≡ p
part_at [] k p e = absurd (none_some e)
part_at (x ∷ xs) zero p e = same_Some x p e
part_at (x ∷ xs) (suc k) p e = part_at xs k p e

-- ---- the blocks of the routines

-- a block begins with its first points, which mean what they declare
pub record Ready (text : List ℕ) (outer : List Region) (s : Start) (D : Declarations) : Type 0 where
  pub names : s.names ≡ names_of text (map OfDeclaration D)
  pub apart : AreApart s.names
  pub stands : (number : ℕ) (names : List (List ℕ)) (first : ℕ) (numbers : ℕ → ℕ) → Stand (record {
    text = text;
    routine = number;
    names = names;
    begun = [];
    outer = outer;
  }) first numbers D s.known

abbrev pub BlockGrows : Context → syntax_block.Block → Type 0
BlockGrows c b = (outer : List Region) (s : Start) (g : Gathered) (d : Done) (D : Declarations) → Ready c.text outer s D
    → block c b outer s g ≡ Yes d → Grown g d.gathered (headings_within c.text b) (block_domains b)

abbrev pub RoutineGrows : Context → Routine → Type 0
RoutineGrows c x = (b : syntax_block.Block) → routine_block x ≡ Some b → BlockGrows c b
