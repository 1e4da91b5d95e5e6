-- What sections denote, and how deep they are.
use Rattle.std.proofs.Common.{◌≡◌, ℕ, zero, suc, ◌+◌, ◌<◌, ◌≤◌, List, [], ◌∷◌, length, get_or, Option, Global, refl}
use Rattle.std.proofs.Common.{sym, subst, arith}
use Rattle.std.specs.Prelude.{option_map}
use Rattle.std.specs.declared.rc.Rc.{Rc}
use Rattle.ps_tree.specs.declared.types.Ty.{Ty}
use Rattle.ps_tree.specs.TypeView.{type_of}
use Rattle.ps_check_names.specs.declared.sections.Section as Rust
use Rattle.ps_check_names.specs.declared.sections.Section.TheVariants.{Routine}
use Rattle.ps_check_names.specs.Regions.{RoutineSection, Sections}
use Rattle.ps_check_names.specs.SectionViews.{section_of, sections_of}
use Rattle.ps_check_names.specs.SectionCode.{depth, section_depth}

pub section_of_Routine : (v : Rc Sections Global) (t : Option Ty) → section_of (Routine v t) ≡ RoutineSection v.value
    (option_map type_of t)
unfolding section_of
section_of_Routine v t = refl

-- a list is as deep as each of its sections
pub depth_at : (ss : List Rust.Section) (i : ℕ) (s : Rust.Section) → i < length ss → s ≡ get_or ss i s → section_depth
    (section_of s) ≤ depth (sections_of ss)
unfolding sections_of
depth_at [] i s lt e = absurd (omega arith)
depth_at (x ∷ ss) zero s lt e = subst (λ y. section_depth (section_of y) ≤ depth (sections_of (x ∷ ss))) (sym e)
    (omega arith)
depth_at (x ∷ ss) (suc i) s lt e = omega (arith, depth_at ss i s (omega arith) e)

-- a procedural or functional parameter is deeper than its list
pub list_falls : (s : Rust.Section) (v : Rc Sections Global) (t : Option Ty) (ss : Sections) → s ≡ Routine v t → ss
    ≡ v.value → depth ss < section_depth (section_of s)
unfolding section_of
list_falls s v t ss e f = subst (λ x. depth ss < section_depth (section_of x)) (sym e)
    (subst (λ d. depth d < depth v.value + 1) (sym f) (omega arith))
