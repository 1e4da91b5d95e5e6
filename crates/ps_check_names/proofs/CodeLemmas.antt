-- The code of a formal parameter list, as it is written.
use Rattle.std.proofs.Common.{◌≡◌, ℕ, suc, ◌+◌, ◌<◌, ◌≤◌, Bool, true, false, ◌&&◌, ◌==◌, if◌then◌else◌, List, [], ◌∷◌}
use Rattle.std.proofs.Common.{◌++◌, length, drop, get_or, refl, sym, ap, ◌∙◌, append_assoc, length-append, arith}
use Rattle.std.proofs.Common.{Option}
use Rattle.std.proofs.Math.Seq.{drop-cons}
use Rattle.std.proofs.lemmas.List.{drop_all}
use Rattle.std.proofs.lemmas.Bool.{eqb-true}
use Rattle.ps_tree.specs.Names.{same}
use Rattle.ps_tree.specs.Types.{DataType}
use Rattle.ps_check_names.specs.declared.sections.Section as Rust
use Rattle.ps_check_names.specs.Regions.{RoutineSection, Sections, no_section, section_before}
use Rattle.ps_check_names.specs.SectionViews.{section_of, sections_of}
use Rattle.ps_check_names.specs.Codes.{result_words, fits_section, fits, section_words, words, code_of}
use Rattle.ps_check_names.proofs.SpellingLemmas.{same_itself}

-- the words of the first i sections are written, and all of these fit
pub record Coded (xs : List Rust.Section) (i : ℕ) (done : List ℕ) : Type 0 where
  pub fit : fits (sections_of xs) ≡ fits (sections_of (drop i xs))
  pub written : words (sections_of xs) ≡ done ++ words (sections_of (drop i xs))

pub coded_start : (xs : List Rust.Section) → Coded xs 0 []
coded_start xs = record { fit = refl; written = refl }

module _ (xs : List Rust.Section) (i : ℕ) (x : Rust.Section) where
  here : i < length xs → x ≡ get_or xs i x → drop i xs ≡ x ∷ drop (suc i) xs
  here lt at = drop-cons xs i x lt ∙ ap (λ a. a ∷ drop (suc i) xs) (sym at)

  behind : suc i ≡ i + 1
  behind = omega arith

  pub coded_next : (done new : List ℕ) → i < length xs → x ≡ get_or xs i x → fits_section (section_of x) ≡ true → new
      ≡ done ++ section_words (section_of x) → Coded xs i done → Coded xs (i + 1) new
  unfolding fits words sections_of
  coded_next done new lt at f n c = record {
    fit =
        c.fit ∙ ap (λ l. fits (sections_of l)) (here lt at) ∙ ap (λ b. b && fits (sections_of (drop (suc i) xs))) f
        ∙ ap (λ k. fits (sections_of (drop k xs))) behind;
    written =
        c.written
        ∙ ap (λ l. done ++ words (sections_of l)) (here lt at)
        ∙ sym (append_assoc done (section_words (section_of x)) (words (sections_of (drop (suc i) xs))))
        ∙ ap (λ l. l ++ words (sections_of (drop (suc i) xs))) (sym n)
        ∙ ap (λ k. new ++ words (sections_of (drop k xs))) behind;
  }

  pub coded_fault : (done : List ℕ) → i < length xs → x ≡ get_or xs i x → fits_section (section_of x) ≡ false
      → Coded xs i done → code_of (sections_of xs) ≡ []
  unfolding code_of fits sections_of
  coded_fault done lt at f c = ap (λ b. if b then words (sections_of xs) else [])
      (c.fit ∙ ap (λ l. fits (sections_of l)) (here lt at) ∙ ap (λ b. b && fits (sections_of (drop (suc i) xs))) f)

pub coded_end : (xs : List Rust.Section) (i : ℕ) (done new : List ℕ) → length xs ≤ i → new ≡ done ++ 7 ∷ [] → Coded xs i
    done → new ≡ code_of (sections_of xs)
unfolding code_of fits words sections_of
coded_end xs i done new le n c =
    n ∙ sym (ap (λ b. if b then words (sections_of xs) else []) (c.fit ∙ ap (λ l. fits (sections_of l))
    (drop_all i xs le)) ∙ c.written ∙ ap (λ l. done ++ words (sections_of l)) (drop_all i xs le))

-- ---- a list has a code where all of it fits

words_some : (ss : Sections) → 0 < length (words ss)
unfolding words
words_some no_section = omega arith
words_some (section_before s ss) = omega (arith, length-append (section_words s) (words ss), words_some ss)

module _ (ss : Sections) where
  empty_if : (b : Bool) → fits ss ≡ b → (length (if b then words ss else []) == 0) ≡ true → fits ss ≡ false
  empty_if false f e = f
  empty_if true f e = absurd (let z = eqb-true (length (words ss)) 0 e in omega (arith, words_some ss, z))

  pub no_code : (length (code_of ss) == 0) ≡ true → fits ss ≡ false
  unfolding code_of
  no_code e = empty_if (fits ss) refl e

  full_if : (b : Bool) → fits ss ≡ b → (length (if b then words ss else []) == 0) ≡ false → fits ss ≡ true
  full_if true f e = f
  full_if false f e = absurd (let z : true ≡ false = e in cc)

  pub some_code : (length (code_of ss) == 0) ≡ false → fits ss ≡ true
  unfolding code_of
  some_code e = full_if (fits ss) refl e

  pub code_is : fits ss ≡ true → code_of ss ≡ words ss
  unfolding code_of
  code_is f = ap (λ b. if b then words ss else []) f

-- the words of a procedural or functional parameter
pub routine_added : (ss : Sections) (t : Option DataType) (old middle new : List ℕ) → fits ss ≡ true → middle ≡ old
    ++ result_words t → new ≡ middle ++ code_of ss → new ≡ old ++ section_words (RoutineSection ss t)
unfolding section_words
routine_added ss t old middle new f m n =
    n ∙ ap (λ l. l ++ code_of ss) m ∙ append_assoc old (result_words t) (code_of ss)
    ∙ ap (λ l. old ++ (result_words t ++ l)) (code_is ss f)

-- ---- codes that are known to be the same

-- what represents two codes has the words of both
pub represented : (mine its a b : List ℕ) → mine ≡ a → its ≡ b → mine ≡ its → true ≡ same a b
represented mine its a b m i e = sym (same_itself a) ∙ ap (same a) (sym m ∙ e ∙ i)
