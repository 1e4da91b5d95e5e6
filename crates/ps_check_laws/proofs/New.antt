-- Points that are each new at their place are added to the names of their region as they are.
use Rattle.std.proofs.Common.{◌≡◌, ℕ, ◌+◌, Bool, true, false, not, ◌&&◌, List, [], ◌∷◌, ◌++◌, length, map, take, refl}
use Rattle.std.proofs.Common.{sym, ap, ◌∙◌, append_assoc, append-nil, length-append, arith}
use Rattle.std.specs.Prelude.{if◌then◌else◌}
use Rattle.std.proofs.lemmas.Bool.{not-true}
use Rattle.std.proofs.Math.Seq.{take-append_seam}
use Rattle.ps_tree.proofs.Booleans.{and_first, and_second}
use Rattle.ps_check_judgement.specs.declared.refusal.Rule.TheVariants.{Twice}
use Rattle.ps_check_judgement.specs.Judged.{Yes}
use Rattle.ps_check_judgement.proofs.Binds.{inside_yes, then_yes, provided_yes}
use Rattle.ps_check_names.specs.Spelling.{spelled, has}
use Rattle.ps_check_declarations.specs.Points.{Points, add_name, add_point, add_points, is_later, is_new, new_point}
use Rattle.ps_check_declarations.specs.Points.{new_points}
use Rattle.ps_check.specs.RegionNames.{Each}

abbrev pub Names : Type 0
Names = List (List ℕ)

-- ---- names are added after those that are there

abbrev pub Appends : (Names → Names) → Type 0
Appends K = (A : Names) → (more : Names) × (K A ≡ A ++ more)

pub appends_both : (K J : Names → Names) → Appends K → Appends J → Appends (λ A. K (J A))
appends_both K J k j A =
    let a = j A in
    let b = k (J A) in
    (a.0 ++ b.0, b.1 ∙ ap (λ l. l ++ b.0) a.1 ∙ append_assoc A a.0 b.0)

name_appends : (s : List ℕ) → Appends (λ A. add_name A s)
name_appends s A = at (has A s)
  where
    at : (b : Bool) → (more : Names) × ((if b then A else A ++ s ∷ []) ≡ A ++ more)
    at true = ([], sym (append-nil A))
    at false = (s ∷ [], refl)

pub points_append : (text : List ℕ) (ps : Points) → Appends (λ A. add_points text A ps)
unfolding add_points
points_append text [] A = ([], sym (append-nil A))
points_append text (p ∷ ps) A = appends_both (λ B. add_points text B ps) (λ B. add_point text B p)
    (points_append text ps) (name_appends (spelled text p)) A

pub points_both : (text : List ℕ) (ps qs : Points) (A : Names) → add_points text A (ps ++ qs) ≡ add_points text
    (add_points text A ps) qs
unfolding add_points
points_both text [] qs A = refl
points_both text (p ∷ ps) qs A = points_both text ps qs (add_point text A p)

-- ---- new points

module _ (text : List ℕ) (N begun : Names) where
  -- a name that is new where the first names are A
  pub record IsNew (A : Names) (s : List ℕ) : Type 0 where
    pub absent : has A s ≡ false
    pub unbegun : has begun s ≡ false

  pub is_new_behind : (A more : Names) (s : List ℕ) (count : ℕ) → N ≡ A ++ more → length A ≡ count
      → is_new N begun count s ≡ true → IsNew A s
  is_new_behind A more s count whole many e =
      let first : take count N ≡ A = ap (take count) whole ∙ ap (λ n. take n (A ++ more)) (sym many)
      ∙ take-append_seam A more
      in
      let later = and_first (is_later N count s) (not (has begun s)) e in
      record {
        absent = sym (ap (λ l. has l s) first) ∙ not-true (has (take count N) s)
            (and_second (has N s) (not (has (take count N) s)) later);
        unbegun = not-true (has begun s) (and_second (is_later N count s) (not (has begun s)) e);
      }

  -- points that are each new
  pub record AreNew (A : Names) (count : ℕ) (ps : Points) (n : ℕ) : Type 0 where
    pub added : add_points text A ps ≡ A ++ map (spelled text) ps
    pub many : n ≡ count + length ps
    pub unbegun : Each (λ p. has begun (spelled text p) ≡ false) ps

  -- where more names come after them
  pub are_new : (K : Names → Names) → Appends K → (ps : Points) (A : Names) (count n : ℕ) → N ≡ K (add_points text A ps)
      → length A ≡ count → new_points text N begun count ps ≡ Yes n → AreNew A count ps n
  unfolding add_points new_points
  are_new K appends [] A count n whole many e = record {
    added = sym (append-nil A);
    many = (let z = inside_yes count n e in omega (arith, z));
    unbegun = tt;
  }
  are_new K appends (p ∷ ps) A count n whole many e =
      let s = spelled text p in
      let one = then_yes (new_point text N begun count p) _ n e in
      let is = provided_yes (is_new N begun count s) Twice p.from (count + 1) one.0 one.1 in
      let behind = appends_both K (λ B. add_points text B (p ∷ ps)) appends (points_append text (p ∷ ps)) A in
      let new = is_new_behind A behind.0 s count (whole ∙ behind.1) many is.0 in
      let step : add_point text A p ≡ A ++ s ∷ [] = ap (λ b. if b then A else A ++ s ∷ []) new.absent in
      let l = length-append A (s ∷ []) in
      let next = are_new K appends ps (A ++ s ∷ []) (count + 1) n (whole ∙ ap (λ B. K (add_points text B ps)) step)
      (omega (arith, l, many)) (ap (λ c. new_points text N begun c ps) is.1 ∙ one.2) in
      record {
        added = ap (λ B. add_points text B ps) step ∙ next.added ∙ append_assoc A (s ∷ []) (map (spelled text) ps);
        many = (let z = next.many in omega (arith, z));
        unbegun = (new.unbegun, next.unbegun);
      }
