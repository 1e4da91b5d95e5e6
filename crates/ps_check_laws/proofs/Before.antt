-- What is used in the declarations and headings of a block denotes a point that comes before it.
use Rattle.std.proofs.Common.{◌≡◌, ℕ, ◌+◌, List, [], ◌∷◌, ◌++◌, length, take, drop, Some, slice_get, refl, sym, ap}
use Rattle.std.proofs.Common.{◌∙◌, subst, arith}
use Rattle.std.proofs.lemmas.Option.{slice_get_within, same_Some}
use Rattle.ps_check_judgement.proofs.Items.{there_is, get_stays}
use Rattle.ps_syntax.specs.declared.program.Heading as syntax_heading
use Rattle.ps_syntax.specs.declared.program.Routine.{Routine}
use Rattle.ps_syntax.specs.declared.program.Program as syntax
use Rattle.ps_check_names.specs.Spelling.{spelled}
use Rattle.ps_check_names.specs.Regions.{Region, BlockRegion, Meaning}
use Rattle.ps_check_declarations.specs.Denoters.{Frame}
use Rattle.ps_check.specs.Blocks.{hidden_in_heading}
use Rattle.ps_check_laws.specs.Definitions.{OfRoutine, names_of, routine_heading}
use Rattle.ps_check_laws.specs.Denoting.{headings_before}
use Rattle.ps_check_laws.specs.Meanings.{Defines, IsRegion, AreAround}
use Rattle.ps_check_laws.specs.InDeclarations.{Uses, behind, IsDenotedBefore, heading_part}
use Rattle.ps_check_laws.proofs.EnclosedNames.{own_names, AllKnown, known_later, known_unhidden}
use Rattle.ps_check_laws.proofs.Parameters.{headings_found}
use Rattle.ps_check_laws.proofs.Found.{uses_find_what_they_denote}
use Rattle.ps_check_laws.proofs.Lists.{take_left, take_length, take_drop, Each}

module _ (text : List ℕ) (p : syntax.Program) (v : List ℕ) (n : ℕ) (regions : List Region) (r : Region)
    (t : IsRegion text p v n regions r) (around : AreAround text p v regions) where
  abbrev frame : Frame
  frame = record { text = text; routine = t.number; names = names_of text t.definitions; begun = []; outer = regions }

  -- the region further up, where fewer points are known
  region_before : (known more : List Meaning) (m : ℕ) → t.known ≡ known ++ more → length known ≡ m
      → IsRegion text p v m regions (BlockRegion t.number (names_of text t.definitions) known)
  region_before known more m e many = record {
    block = t.block;
    definitions = t.definitions;
    known = known;
    number = t.number;
    first = t.first;
    next = t.next;
    there = t.there;
    points = t.points;
    own = t.own;
    entries = t.entries;
    numbers = t.numbers;
    is = refl;
    before = many;
    meanings = λ i d x at g.
        let l = slice_get_within known i x g in
        subst (λ k. Defines frame t.first (λ k. t.next + headings_before text t.block k) k d x)
        (ap (take i) e ∙ take_left known more i (omega (arith, l)))
        (t.meanings i d x at (ap (λ k. slice_get k i) e ∙ get_stays known more i x g));
  }

  pub denoted_before : (m : ℕ) (us : Uses) → AllKnown frame [] t.known m us → Each (IsDenotedBefore text p v regions)
      (behind m us)
  denoted_before m [] k = tt
  denoted_before m (u ∷ us) k =
      let is = region_before k.0.known k.0.more (m + u.before) k.0.longer k.0.count in
      let region = BlockRegion t.number (names_of text t.definitions) k.0.known in (
        record {
          free = k.0.free;
          region = region;
          is_region = is;
          point = k.0.point;
          found = k.0.found;
          denotes = uses_find_what_they_denote text p v (m + u.before) region regions is around []
              (spelled text u.name) u.name.from k.0.point k.0.found;
        },
        denoted_before m us k.1,
      )

  pub headings_denoted : (i k : ℕ) (x : Routine) (h : syntax_heading.Heading) → length t.known ≡ length t.definitions
      → slice_get t.definitions i ≡ Some (OfRoutine k x) → routine_heading x ≡ Some h → Each
      (IsDenotedBefore text p v regions) (behind i (heading_part h).1)
  headings_denoted i k x h many at is =
      let l = slice_get_within t.definitions i (OfRoutine k x) at in
      let m = there_is t.known i (omega (arith, l, many)) in
      let d = t.meanings i (OfRoutine k x) m.0 at m.1 in
      let same : d.1 ≡ h = same_Some d.1 h (sym d.4 ∙ is) in
      let length_is = take_length t.known i m.0 m.1 in
      let us = (heading_part d.1).1 in
      let own = hidden_in_heading frame d.1 in
      let here : AllKnown frame [] (take i t.known) i us = subst
      (λ q. AllKnown frame [] (take i t.known) q us) length_is
      (known_unhidden frame (own_names own) (take i t.known) (length (take i t.known)) us
      ((headings_found frame (take i t.known) d.1).uses own d.5.said d.5.reading)) in
      subst (λ q. Each (IsDenotedBefore text p v regions) (behind i (heading_part q).1)) same
      (denoted_before i us (known_later frame [] (take i t.known) t.known (drop i t.known) i us
      (sym (take_drop i t.known)) here))
