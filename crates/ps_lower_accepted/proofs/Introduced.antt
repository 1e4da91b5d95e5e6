-- What introduces a routine of a block: a heading, which may be one that waits for its block.
use Rattle.std.proofs.Common.{◌≡◌, ℕ, suc, ◌<◌, ◌≤◌, Bool, true, ◌&&◌, nat_lt, List, [], ◌∷◌, ◌++◌, length, Option}
use Rattle.std.proofs.Common.{Some, None, is_none, slice_get, refl, sym, ap, ◌∙◌, subst, arith, append-nil}
use Rattle.std.proofs.Common.{length-append}
use Rattle.std.proofs.lemmas.Option.{slice_get_within, same_Some}
use Rattle.ps_tree.proofs.Booleans.{and_first as left, and_second as right}
use Rattle.ps_syntax.specs.declared.program.Heading as syntax
use Rattle.ps_tree.specs.Tree as Tree
use Rattle.ps_tree.specs.Tree.{Program}
use Rattle.ps_tree.specs.declared.limits.TheConstants.{MAX_ROUTINES}
use Rattle.ps_check_judgement.specs.declared.refusal.Rule.TheVariants.{Limit}
use Rattle.ps_check_judgement.specs.Judged.{Yes, provided}
use Rattle.ps_check_judgement.proofs.Binds.{then_yes, provided_yes, no_yes, inside_yes}
use Rattle.ps_check_judgement.proofs.Items.{get_stays, end_there}
use Rattle.ps_check_names.specs.Regions.{Meaning, RoutineMeaning, Heading}
use Rattle.ps_check_declarations.specs.Denoters.{Frame}
use Rattle.ps_check_declarations.specs.Headings.{Signature, heading, section_list}
use Rattle.ps_check.specs.Readings.{Gathered, Routines, RoutineReading, heading_name}
use Rattle.ps_check.specs.Forwards.{is_open, is_same_kind, may_complete, is_waiting}
use Rattle.ps_check.specs.Blocks.{hidden_in_heading, new_heading, headed, introduce}
use Rattle.ps_check.proofs.EachItem.{each_append}
use Rattle.ps_lower_accepted.proofs.Lists.{Each, each_left, each_right, each_map}
use Rattle.ps_lower_accepted.proofs.Tables.{Table, extends_self, TypeKnown}
use Rattle.ps_lower_accepted.proofs.Standing.{ResultKnown, SectionsKnown, MeaningKnown, RegionsKnown, MeaningStands}
use Rattle.ps_lower_accepted.proofs.Standing.{BlocksStand}
use Rattle.ps_lower_accepted.proofs.Gathering.{get_first, IsMade, IsVacant, Grows, Final}
use Rattle.ps_lower_accepted.proofs.Gathering.{final_before, AllFit, IsRoutineOf}
use Rattle.ps_lower_accepted.proofs.BlockMeanings.{IsDeclaredIf, IsNumbered, Targets, added_heading, added_other}
use Rattle.ps_lower_accepted.proofs.BlockMeanings.{added_there, at_place, number_of, numbered_added, place_last, unmade}
use Rattle.ps_lower_accepted.proofs.BlockMeanings.{vacant_is, with_heading}

-- ---- the routines of a block

module _ (own : ℕ) (rest : List ℕ) (f : Frame) (base : ℕ) (begun : List Meaning) where
  -- what is known between routines
  pub record Reading (r : Routines) (D : Table) : Type 0 where
    pub outer : RegionsKnown D (length r.gathered.domains) f.outer
    pub known : Each (MeaningKnown D (length r.gathered.domains)) r.known
    pub domains : Each (TypeKnown D (length r.gathered.domains)) r.gathered.domains
    pub count : base ≤ length r.gathered.routines
    pub headings : ℕ → Option Heading
    pub numbered : Each (IsNumbered headings base (length r.gathered.routines)) r.known
    pub fresh : (i : ℕ) → length r.gathered.routines ≤ i → headings i ≡ None
    pub made : (i : ℕ) (h : Heading) (x : Tree.Routine) → headings i ≡ Some h → IsMade r.gathered i x → IsRoutineOf
        (own ∷ rest) h x
    pub stands : (P : Program) → Each (MeaningStands P (own ∷ rest)) begun → Each (IsDeclaredIf P (own ∷ rest)) r.known
        → Each (MeaningStands P (own ∷ rest)) r.known
    pub fits : (P : Program) (F : Table) → Final P F D r.gathered → Targets P F → Each
        (MeaningStands P (own ∷ rest)) r.known → BlocksStand P F f.outer rest → AllFit P base r.gathered

  -- a heading is there, and its routine has no block
  pub record Introduced (i : Option ℕ) (r s : Routines) (D : Table) : Type 0 where
    pub reading : Reading s D
    pub grows : Grows r.gathered s.gathered
    pub kept : (n : ℕ) → n < base → slice_get s.gathered.routines n ≡ slice_get r.gathered.routines n
    pub vacant : (h : Heading) → at_place i s.known ≡ Some (RoutineMeaning h) → IsVacant s.gathered h.number
    pub know : (ms : List Meaning) × (s.known ≡ r.known ++ ms)

  heading_grows : (r : Routines) (h : Heading) → Grows r.gathered (with_heading r h).gathered
  heading_grows r h = record {
    more = [];
    domains = sym (append-nil r.gathered.domains);
    made = λ i x m. get_stays r.gathered.routines (None ∷ []) i (Some x) m;
  }

  heading_read : (r : Routines) (D : Table) (h : Heading) → h.number ≡ length r.gathered.routines → SectionsKnown D
      (length r.gathered.domains) h.sections × ResultKnown D (length r.gathered.domains) h.result → Reading r D
      → Reading (with_heading r h) D
  heading_read r D h number told reading =
      let n = length r.gathered.routines in
      let grown : length (r.gathered.routines ++ None ∷ []) ≡ suc n = let l = length-append r.gathered.routines
      (None ∷ []) in omega (arith, l) in
      let headings = added_heading n h reading.headings in
      record {
        outer = reading.outer;
        known = each_append (MeaningKnown D (length r.gathered.domains)) r.known (RoutineMeaning h ∷ []) reading.known
            (told, tt);
        domains = reading.domains;
        count = let a = reading.count in omega (arith, grown, a);
        headings = headings;
        numbered = subst (λ m. Each (IsNumbered headings base m) (r.known ++ RoutineMeaning h ∷ [])) (sym grown)
            (each_append (IsNumbered headings base (suc n)) r.known (RoutineMeaning h ∷ [])
            (each_map (IsNumbered reading.headings base n) (IsNumbered headings base (suc n))
            (numbered_added h reading.headings base n) r.known reading.numbered) (
              (
                ap headings number ∙ added_there n h reading.headings,
                let a = reading.count in omega
                    (arith, a, number),
                omega (arith, number),
              ),
              tt,
            ));
        fresh = λ i le. added_other n h reading.headings i (λ e. omega (arith, le, grown, e)) ∙ reading.fresh i
            (omega (arith, le, grown));
        made = λ i x y e m. reading.made i x y (sym
            (added_other n h reading.headings i (λ q. let l = slice_get_within r.gathered.routines i (Some y)
            (unmade r.gathered.routines i y m) in omega (arith, l, q))) ∙ e) (unmade r.gathered.routines i y m);
        stands = λ P b ifs. each_append (MeaningStands P (own ∷ rest)) r.known (RoutineMeaning h ∷ [])
            (reading.stands P b (each_left (IsDeclaredIf P (own ∷ rest)) r.known (RoutineMeaning h ∷ []) ifs))
            ((each_right (IsDeclaredIf P (own ∷ rest)) r.known (RoutineMeaning h ∷ []) ifs).0, tt);
        fits = λ P F final targets stand blocks i x le m. reading.fits P F
            (final_before P F D D r.gathered (with_heading r h).gathered (extends_self D) (heading_grows r h) final)
            targets (each_left (MeaningStands P (own ∷ rest)) r.known (RoutineMeaning h ∷ []) stand) blocks i x le
            (unmade r.gathered.routines i x m);
      }

  heading_introduced : (i : Option ℕ) (r : Routines) (D : Table) (h : Heading) → at_place i r.known ≡ None → h.number
      ≡ length r.gathered.routines → SectionsKnown D (length r.gathered.domains) h.sections × ResultKnown D
      (length r.gathered.domains) h.result → Reading r D → Introduced i r (with_heading r h) D
  heading_introduced i r D h nothing number told reading = record {
    reading = heading_read r D h number told reading;
    grows = heading_grows r h;
    kept = λ n l. get_first r.gathered.routines (None ∷ []) n (let a = reading.count in omega (arith, l, a));
    vacant = λ x e. vacant_new x (place_last r.known (RoutineMeaning h) (RoutineMeaning x) i nothing e);
    know = (RoutineMeaning h ∷ [], refl);
  }
    where
      vacant_new : (x : Heading) → RoutineMeaning h ≡ RoutineMeaning x → IsVacant (with_heading r h).gathered x.number
      vacant_new x e = ap (slice_get (r.gathered.routines ++ None ∷ [])) (sym (ap number_of e) ∙ number)
          ∙ end_there r.gathered.routines None

  -- ---- what introduces a routine

  heading_new : (i : Option ℕ) (r s : Routines) (D : Table) (is_forward : Bool) (x : syntax.Heading) → f.text ≡ f.text
      → ((q : Signature) → (heading f r.known x).1 (hidden_in_heading f x) ≡ Yes q → SectionsKnown D
      (length r.gathered.domains) (section_list q.0) × ResultKnown D (length r.gathered.domains) q.1)
      → at_place i r.known ≡ None → Reading r D → new_heading f is_forward r x ≡ Yes s → Introduced i r s D
  unfolding new_heading
  heading_new i r s D is_forward x same tells nothing reading e =
      let n = then_yes (provided (nat_lt (length r.gathered.routines) MAX_ROUTINES) Limit (heading_name x).from
      (length r.gathered.routines)) _ s e in
      let number = provided_yes (nat_lt (length r.gathered.routines) MAX_ROUTINES) _ _
      (length r.gathered.routines) n.0 n.1
      in
      let q = then_yes ((heading f r.known x).1 (hidden_in_heading f x)) _ s n.2 in
      subst (λ t. Introduced i r t D) (inside_yes _ s q.2)
      (heading_introduced i r D _ nothing (sym number.1) (tells q.0 q.1) reading)

  same_introduced : (i : Option ℕ) (r : Routines) (D : Table)
      → ((h : Heading) → at_place i r.known ≡ Some (RoutineMeaning h) → IsVacant r.gathered h.number) → Reading r D
      → Introduced i r r D
  same_introduced i r D vacant reading = record {
    reading = reading;
    grows = record {
      more = [];
      domains = sym (append-nil r.gathered.domains);
      made = λ n x m. m;
    };
    kept = λ n l. refl;
    vacant = vacant;
    know = ([], sym (append-nil r.known));
  }

  waiting_vacant : (g : Gathered) (x : RoutineReading) (m : Meaning) (h : Heading) → m ≡ RoutineMeaning h
      → is_waiting g x m ≡ true → IsVacant g h.number
  unfolding is_waiting
  waiting_vacant g x m h e w = let t = ap (is_waiting g x) (sym e) ∙ w in vacant_is (slice_get g.routines h.number)
      (left (is_open g h) (is_same_kind x h) (right (may_complete x) (is_open g h && is_same_kind x h) t))

  abbrev pub HeadingTold : Routines → Table → Option syntax.Heading → Type 0
  HeadingTold r D None = Unit {0}
  HeadingTold r D (Some x) = (q : Signature) → (heading f r.known x).1 (hidden_in_heading f x) ≡ Yes q → SectionsKnown D
      (length r.gathered.domains) (section_list q.0) × ResultKnown D (length r.gathered.domains) q.1

  pub introduced : (i : Option ℕ) (r s : Routines) (D : Table) (x : RoutineReading) → HeadingTold r D x.heading
      → Reading r D → introduce f x r (at_place i r.known) ≡ Yes s → Introduced i r s D
  unfolding introduce
  introduced i r s D x told reading e = go (at_place i r.known) refl e
    where
      new : (o : Option syntax.Heading) → HeadingTold r D o → at_place i r.known ≡ None → headed f x r o ≡ Yes s
          → Introduced i r s D
      new None told nothing q = absurd (no_yes q)
      new (Some h) told nothing q = heading_new i r s D (is_none x.block) h refl told nothing reading q

      go : (o : Option Meaning) → at_place i r.known ≡ o → introduce f x r o ≡ Yes s → Introduced i r s D
      go (Some m) at q =
          let w = provided_yes (is_waiting r.gathered x m) _ _ r s q in
          subst (λ t. Introduced i r t D) w.1 (same_introduced i r D
          (λ h g. waiting_vacant r.gathered x m h (same_Some m (RoutineMeaning h) (sym at ∙ g)) w.0) reading)
      go None at q = new x.heading told at q
