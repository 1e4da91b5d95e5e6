-- The records that a `with` opens, one after the other.
use Rattle.std.proofs.Common.{◌≡◌, ℕ, List, [], ◌∷◌, ◌++◌, map, refl, ap, ◌∙◌}
use Rattle.std.proofs.lemmas.List.{map_push}
use Rattle.ps_syntax.specs.declared.expression.Variable as syntax
use Rattle.ps_tree.specs.declared.types.Ty.{Ty}
use Rattle.ps_tree.specs.declared.tree.Place.{Place}
use Rattle.ps_tree.specs.View.{type_of, place_of}
use Rattle.ps_check_judgement.specs.declared.change.Change.{Change}
use Rattle.ps_check_judgement.specs.Judged.{Yes}
use Rattle.ps_check_names.specs.Regions.{Context, Region, RecordRegion, fields_of, Heading}
use Rattle.ps_check_names.specs.Views.{opened_in}
use Rattle.ps_check_names.proofs.OpenedLemmas.{opened_region, opened_push}
use Rattle.ps_check_statements.specs.Assignments.{result_in}
use Rattle.ps_check_statements.specs.Structured.{open_next}

-- one more
pub opened_next : (c : Context) (Γ : List Region) (x : syntax.Variable) (ps qs : List Place) (ts us : List Ty)
    (p : Place) (t : Ty) (cs ds : List Change) → open_next c (map place_of ps, opened_in Γ ts) x cs ≡ Yes
    ((map place_of ps ++ place_of p ∷ [], opened_region t ∷ opened_in Γ ts), ds) → qs ≡ ps ++ p ∷ [] → us ≡ ts ++ t ∷ []
    → open_next c (map place_of ps, opened_in Γ ts) x cs ≡ Yes ((map place_of qs, opened_in Γ us), ds)
opened_next c Γ x ps qs ts us p t cs ds h e f =
    let m : map place_of qs ≡ map place_of ps ++ place_of p ∷ [] = ap (map place_of) e ∙ map_push place_of ps p in
    let o : opened_in Γ us ≡ opened_region t ∷ opened_in Γ ts = ap (opened_in Γ) f ∙ opened_push Γ ts t in
    rw (m, o) h

-- a function's result is looked for past opened records
pub result_past : (Γ : List Region) (types : List Ty) (n : ℕ) (h : Heading) (levels : ℕ) → result_in
    (opened_in Γ types) n h levels ≡ result_in Γ n h levels
unfolding result_in opened_in
result_past Γ [] n h levels = refl
result_past Γ (t ∷ types) n h levels = result_past
    (RecordRegion (type_of t) (fields_of (type_of t)) ∷ Γ) types n h levels
