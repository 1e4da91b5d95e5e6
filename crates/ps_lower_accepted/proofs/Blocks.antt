-- Blocks: what is known after each, and that its statements and its routines fit in the program that is made at the
-- end.
use Rattle.std.proofs.Common.{◌≡◌, ℕ, ◌≤◌, Bool, List, [], ◌∷◌, ◌++◌, length, map, Option, Some, None, slice_set, refl}
use Rattle.std.proofs.Common.{sym, ap, ◌∙◌, subst, arith, append-nil}
use Rattle.ps_text.specs.declared.Span.{Span}
use Rattle.ps_scan.specs.Spans.{AreOrdered}
use Rattle.ps_scan.specs.declared.token.Token.{Token}
use Rattle.ps_syntax.specs.declared.program.Routine as syntax_routine
use Rattle.ps_syntax.specs.declared.program.Block as syntax_block
use Rattle.ps_parse_grammar.specs.Symbols.{Tokens, Symbol, Many, none, more}
use Rattle.ps_parse_grammar.specs.Programs as p
use Rattle.ps_parse_grammar.specs.Programs.{heading_within}
use Rattle.ps_tree.specs.Tree as Tree
use Rattle.ps_lower_code.specs.Fits.{outermost_of}
use Rattle.ps_check_judgement.specs.declared.refusal.Rule.TheVariants.{NoResultAssigned, Limit}
use Rattle.ps_check_judgement.specs.Judged.{Yes, provided, steps}
use Rattle.ps_check_judgement.proofs.Binds.{then_yes, provided_yes, inside_yes}
use Rattle.ps_check_names.specs.Spelling.{place, spelled}
use Rattle.ps_check_names.specs.Regions.{Region, BlockRegion, Meaning, RoutineMeaning, Heading, Context}
use Rattle.ps_check_declarations.specs.Denoters.{Frame}
use Rattle.ps_check.specs.Readings.{Gathered, Done, Routines, RoutineReading, heading_name}
use Rattle.ps_check.specs.Entries.{start}
use Rattle.ps_check.specs.Blocks.{routine_tree, is_small_routine, finished, heading_at, hidden_in_heading, introduce}
use Rattle.ps_check.specs.Blocks.{read_block, one_routine, block, routine}
use Rattle.ps_check.specs.Changes.{assigns, outward}
use Rattle.ps_check.proofs.Equations.{routine_Whole, routine_Forward, routine_Completion}
use Rattle.ps_lower_accepted.proofs.Lists.{each_map}
use Rattle.ps_lower_accepted.proofs.Tables.{Table, extends_self, extends_both, EndsBefore}
use Rattle.ps_lower_accepted.proofs.Standing.{MeaningKnown}
use Rattle.ps_lower_accepted.proofs.Places.{Later, same_place, behind, then_later, headings_go}
use Rattle.ps_lower_accepted.proofs.Headings.{headings_told}
use Rattle.ps_lower_accepted.proofs.Entries.{IsAmong, first_kinds, start_told}
use Rattle.ps_lower_accepted.proofs.Gathering.{IsVacant, grows_both}
use Rattle.ps_lower_accepted.proofs.BlockMeanings.{BlockTold, IsNumbered, IsPlain, Ready, among_plain, at_place}
use Rattle.ps_lower_accepted.proofs.BlockMeanings.{ends_later, heading_there, place_each, start_of}
use Rattle.ps_lower_accepted.proofs.Introduced.{Introduced, Reading, introduced}
use Rattle.ps_lower_accepted.proofs.Closed.{Step, block_closed}

module _ (c : Context) where
  abbrev pub BlockTells : Symbol syntax_block.Block → Type 0
  BlockTells symbol =
      (own : ℕ) (rest : List ℕ) → outermost_of (own ∷ rest) ≡ 0
      → (outer : List Region) (names : List (List ℕ)) (known : List Meaning) (first : ℕ) (g : Gathered) (D : Table)
      (low high : ℕ)
      → (x : syntax_block.Block) (ts r : Tokens) → symbol x ts r → Ready D outer known g → AreOrdered low high ts
      → EndsBefore low D
      → (done : Done) → block c x outer (start_of (own ∷ rest) names known first) g ≡ Yes done
      → BlockTold own rest outer known first D low high r g done

module _ (own : ℕ) (rest : List ℕ) (f : Frame) (base : ℕ) (begun : List Meaning) where
  -- ---- steps one after another

  introduced_step : (i : Option ℕ) (r s t : Routines) (D : Table) (low next high : ℕ) (ts : Tokens)
      → Introduced own rest f base begun i r s D
      → low ≤ next → Step own rest f base begun s t D next high ts → Step own rest f base begun r t D low high ts
  introduced_step i r s t D low next high ts new le step = record {
    table = step.table;
    next = step.next;
    later = let a = step.later in omega (arith, le, a);
    ordered = step.ordered;
    extends = step.extends;
    ends = step.ends;
    reading = step.reading;
    grows = grows_both r.gathered s.gathered t.gathered new.grows step.grows;
    kept = λ n l. step.kept n l ∙ new.kept n l;
  }

  forward_step : (i : Option ℕ) (r s : Routines) (D : Table) (low next high : ℕ) (ts : Tokens)
      → Introduced own rest f base begun i r s D
      → low ≤ next → AreOrdered next high ts → EndsBefore low D → Step own rest f base begun r s D low high ts
  forward_step i r s D low next high ts new le ordered ends = record {
    table = D;
    next = next;
    later = le;
    ordered = ordered;
    extends = extends_self D;
    ends = ends_later D low next le ends;
    reading = new.reading;
    grows = new.grows;
    kept = new.kept;
  }

  past_token : (r s : Routines) (D : Table) (low high : ℕ) (t : Token) (ts : Tokens)
      → Step own rest f base begun r s D low high (t ∷ ts)
      → Step own rest f base begun r s D low high ts
  past_token r s D low high t ts step = let o = step.ordered in record {
    table = step.table;
    next = t.span.to;
    later = let a = step.later in let b = o.0 in let d = o.1 in omega (arith, a, b, d);
    ordered = o.2;
    extends = step.extends;
    ends = ends_later step.table step.next t.span.to (let b = o.0 in let d = o.1 in omega (arith, b, d)) step.ends;
    reading = step.reading;
    grows = step.grows;
    kept = step.kept;
  }

  two_steps : (r s t : Routines) (D : Table) (low high : ℕ) (m ts : Tokens) →
      (a : Step own rest f base begun r s D low high m)
      → Step own rest f base begun s t a.table a.next high ts → Step own rest f base begun r t D low high ts
  two_steps r s t D low high m ts a b = record {
    table = b.table;
    next = b.next;
    later = let x = a.later in let y = b.later in omega (arith, x, y);
    ordered = b.ordered;
    extends = extends_both D a.table b.table a.extends b.extends;
    ends = b.ends;
    reading = b.reading;
    grows = grows_both r.gathered s.gathered t.gathered a.grows b.grows;
    kept = λ n l. b.kept n l ∙ a.kept n l;
  }

  no_step : (r : Routines) (D : Table) (low high : ℕ) (ts : Tokens) → Reading own rest f base begun r D
      → AreOrdered low high ts
      → EndsBefore low D → Step own rest f base begun r r D low high ts
  no_step r D low high ts reading ordered ends = record {
    table = D;
    next = low;
    later = omega arith;
    ordered = ordered;
    extends = extends_self D;
    ends = ends;
    reading = reading;
    grows = record { more = []; domains = sym (append-nil r.gathered.domains); made = λ n x m. m };
    kept = λ n l. refl;
  }

  -- ---- what is read of routines

  finished_is : (at : ℕ) (h : Heading) (chain : List ℕ) (b : Done) (g : Gathered) → finished at h chain b ≡ Yes g
      → record {
        domains = b.gathered.domains;
        routines = slice_set b.gathered.routines h.number (Some (routine_tree chain h b));
      } ≡ g
  unfolding finished
  finished_is at h chain b g e =
      let t = then_yes (provided (assigns h.result b.changes) NoResultAssigned at (routine_tree chain h b)) _ g e in
      let a = provided_yes (assigns h.result b.changes) NoResultAssigned at (routine_tree chain h b) t.0 t.1 in
      let u = then_yes (provided (is_small_routine t.0) Limit at t.0) _ g t.2 in
      let d = provided_yes (is_small_routine t.0) Limit at t.0 u.0 u.1 in
      let with_tree : Tree.Routine → Gathered = λ y. record {
        domains = b.gathered.domains;
        routines = slice_set b.gathered.routines h.number (Some y);
      } in
      ap with_tree (a.1 ∙ d.1) ∙ inside_yes (with_tree u.0) g u.2

  abbrev place_of : RoutineReading → Option ℕ
  place_of x = place f.names (spelled f.text x.name)

  one_parts : (r t : Routines) (x : RoutineReading) → one_routine f (own ∷ rest) r x ≡ Yes t → (s : Routines)
      × (introduce f x r (at_place (place_of x) r.known) ≡ Yes s) × (read_block f (own ∷ rest) x s x.block ≡ Yes t)
  unfolding one_routine
  one_parts r t x e = then_yes (introduce f x r (at_place (place_of x) r.known))
      (λ s. read_block f (own ∷ rest) x s x.block) t e

  module _ (c : Context) (routine_own : f.routine ≡ own) (outermost : outermost_of (own ∷ rest) ≡ 0)
      (symbol : Symbol syntax_block.Block) (tells : BlockTells c symbol) where
    block_read : (y : RoutineReading) (s t : Routines) (D : Table) → Reading own rest f base begun s D
        → ((h : Heading) → at_place (place_of y) s.known ≡ Some (RoutineMeaning h) → IsVacant s.gathered h.number)
        → (low high : ℕ) (x : syntax_block.Block) (ts r : Tokens) → symbol x ts r → AreOrdered low high ts
        → EndsBefore low D → read_block f (own ∷ rest) y s (Some (block c x)) ≡ Yes t
        → Step own rest f base begun s t D low high r
    unfolding read_block
    block_read y s t D reading vacant low high x ts r derived ordered ends e =
        let i = place_of y in
        let from = y.name.from in
        let b = length s.gathered.domains in
        let Γ = BlockRegion f.routine f.names s.known ∷ f.outer in
        let h = then_yes (heading_at from (at_place i s.known)) _ t e in
        let at = heading_there from (at_place i s.known) h.0 h.1 in
        let st = then_yes (start from (own ∷ rest) h.0) _ t h.2 in
        let d = then_yes (block c x Γ st.0 s.gathered) _ t st.2 in
        let g = then_yes (finished from h.0 st.0.chain d.0) _ t d.2 in
        let heading_known = place_each (MeaningKnown D b) s.known i (RoutineMeaning h.0) reading.known at in
        let number = place_each (IsNumbered reading.headings base (length s.gathered.routines)) s.known i
        (RoutineMeaning h.0) reading.numbered at in
        let begins = start_told D b from (own ∷ rest) h.0 st.0 heading_known.0 st.1 in
        let told = tells h.0.number (own ∷ rest) outermost Γ st.0.names st.0.known st.0.first s.gathered D low high x ts
        r derived
        (record {
          regions = (reading.known, reading.outer);
          known_there = begins.known;
          plain = each_map (IsAmong (first_kinds h.0)) IsPlain (among_plain (first_kinds h.0)) st.0.known begins.among;
          domains = reading.domains;
        })
        ordered ends d.0 (ap (λ l. block c x Γ (start_of l st.0.names st.0.known st.0.first) s.gathered)
        (sym begins.chain_is) ∙ d.1) in
        let changes = s.changes ++ outward d.0.changes in
        let step = block_closed own rest f base begun routine_own s D reading low high r h.0 st.0.known st.0.first d.0
        number heading_known
        (vacant h.0 at) begins.first begins.among told changes in
        let tree_in : List ℕ → Routines = λ l. record {
          known = s.known;
          changes = changes;
          gathered = record {
            domains = d.0.gathered.domains;
            routines = slice_set d.0.gathered.routines h.0.number (Some (routine_tree l h.0 d.0));
          };
        } in
        let with : Gathered → Routines = λ q. record { known = s.known; changes = changes; gathered = q } in
        subst (λ q. Step own rest f base begun s q D low high r) (ap tree_in (sym begins.chain_is) ∙ ap with
        (finished_is from h.0 st.0.chain d.0 g.0 g.1) ∙ inside_yes (with g.0) t g.2) step

    module _ (n : ℕ) (is_forward : Span → Bool) where
      routine_told : (y : syntax_routine.Routine) (ts r : Tokens) → p.IsRoutine is_forward
          (heading_within n) symbol y ts r → (s t : Routines) (D : Table) (low high : ℕ)
          → Reading own rest f base begun s D
          → AreOrdered low high ts → EndsBefore low D → one_routine f (own ∷ rest) s (routine c y) ≡ Yes t
          → Step own rest f base begun s t D low high r
      unfolding read_block
      routine_told y ts r (p.whole {x = h} {b = b} {m = m} heads inner) s t D low high reading ordered ends e =
          let reading_of : RoutineReading = record {
            name = heading_name h;
            heading = Some h;
            block = Some (block c b);
          } in
          let parts = one_parts s t reading_of (ap (one_routine f (own ∷ rest) s) (sym (routine_Whole c h b)) ∙ e) in
          let new = introduced own rest f base begun (place_of reading_of) s parts.0 D reading_of
          (headings_told D (length s.gathered.domains) f s.known reading.outer reading.known n h ts _ heads
          (hidden_in_heading f h))
          reading parts.1 in
          let at = (then_later ts _ m (headings_go n h ts _ heads) (behind _ m m (same_place m))).on low high ordered in
          let step = block_read reading_of parts.0 t D new.reading new.vacant at.0 high b m _ inner at.2
          (ends_later D low at.0 at.1 ends) parts.2 in
          introduced_step (place_of reading_of) s parts.0 t D low at.0 high r new at.1
          (past_token parts.0 t D at.0 high _ r step)
      routine_told y ts r (p.forward {x = h} heads is) s t D low high reading ordered ends e =
          let reading_of : RoutineReading = record { name = heading_name h; heading = Some h; block = None } in
          let parts = one_parts s t reading_of (ap (one_routine f (own ∷ rest) s) (sym (routine_Forward c h)) ∙ e) in
          let new = introduced own rest f base begun (place_of reading_of) s parts.0 D reading_of
          (headings_told D (length s.gathered.domains) f s.known reading.outer reading.known n h ts _ heads
          (hidden_in_heading f h))
          reading parts.1 in
          let at = (then_later ts _ r (headings_go n h ts _ heads)
          (behind _ _ r (behind _ _ r (behind _ r r (same_place r))))).on low high ordered in
          subst (λ q. Step own rest f base begun s q D low high r) (inside_yes parts.0 t parts.2)
          (forward_step (place_of reading_of) s parts.0 D low at.0 high r new at.1 at.2 ends)
      routine_told y ts r (p.completion {at = name} {b = b} {ts = us} inner) s t D low high reading ordered ends e =
          let reading_of : RoutineReading = record { name = name; heading = None; block = Some (block c b) } in
          let parts = one_parts s t reading_of (ap (one_routine f (own ∷ rest) s) (sym (routine_Completion c name b))
          ∙ e) in
          let new = introduced own rest f base begun (place_of reading_of) s parts.0 D reading_of tt reading parts.1 in
          let later : Later ts us = behind _ _ us (behind _ _ us (behind _ us us (same_place us))) in
          let at = later.on low high ordered in
          let step = block_read reading_of parts.0 t D new.reading new.vacant at.0 high b us _ inner at.2
          (ends_later D low at.0 at.1 ends) parts.2 in
          introduced_step (place_of reading_of) s parts.0 t D low at.0 high r new at.1
          (past_token parts.0 t D at.0 high _ r step)

      pub routines_told : (ys : List syntax_routine.Routine) (ts r : Tokens) → Many
          (p.IsRoutine is_forward (heading_within n) symbol) ys ts r → (s t : Routines) (D : Table) (low high : ℕ)
          → Reading own rest f base begun s D → AreOrdered low high ts → EndsBefore low D → steps
          (one_routine f (own ∷ rest)) s
          (map (routine c) ys) ≡ Yes t → Step own rest f base begun s t D low high r
      routines_told ys ts r none s t D low high reading ordered ends e = subst
          (λ q. Step own rest f base begun s q D low high r)
          (inside_yes s t e) (no_step s D low high r reading ordered ends)
      routines_told ys ts r (more {x = y} {xs = zs} {m = m} one many) s t D low high reading ordered ends e =
          let u = then_yes (one_routine f (own ∷ rest) s (routine c y))
          (λ q. steps (one_routine f (own ∷ rest)) q (map (routine c) zs)) t e in
          let a = routine_told y ts m one s u.0 D low high reading ordered ends u.1 in
          two_steps s u.0 t D low high m r a (routines_told zs m r many u.0 t a.table a.next high a.reading a.ordered
          a.ends u.2)
