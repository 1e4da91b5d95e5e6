-- What is known of a block is known of the blocks within it: each block of a program fits.
use Rattle.std.proofs.Common.{◌≡◌, ℕ, zero, suc, ◌<◌, ◌≤◌, Bool, true, not, List, [], ◌∷◌, ◌++◌, length, map, Option}
use Rattle.std.proofs.Common.{Some, None, slice_get, refl, sym, ap, ◌∙◌, subst, arith, length-append, append_assoc}
use Rattle.std.proofs.lemmas.Option.{slice_get_within}
use Rattle.ps_text.specs.Lines.{line_count}
use Rattle.ps_text.specs.declared.Span.{Span}
use Rattle.ps_text.specs.declared.TheConstants.{MAX_LENGTH, MAX_LINES}
use Rattle.ps_scan.specs.Spans.{AreOrdered}
use Rattle.ps_scan.specs.declared.token.Kind.TheVariants as k
use Rattle.ps_syntax.specs.declared.statement.Statement as syntax_statement
use Rattle.ps_syntax.specs.declared.program.Block as syntax_block
use Rattle.ps_syntax.specs.declared.program.Routine.TheFolds.{fold-roll-Block}
use Rattle.ps_parse_grammar.specs.Symbols.{Tokens, Symbol, token}
use Rattle.ps_parse_grammar.specs.Statements.{IsSequence, statement_within}
use Rattle.ps_parse_grammar.specs.Programs as p
use Rattle.ps_parse_grammar.specs.Programs.{type_within}
use Rattle.ps_parse_grammar.specs.Programs.{heading_within, block_within}
use Rattle.ps_tree.specs.Types.{DataType}
use Rattle.ps_tree.specs.Tree as Tree
use Rattle.ps_tree.specs.Tree.{Program}
use Rattle.ps_lower_code.specs.Fits.{outermost_of}
use Rattle.ps_lower_code.specs.Fits.{StatementsFit}
use Rattle.ps_lower_accepted.proofs.Sound.{line_there}
use Rattle.tac_code.specs.Sound.{IsLine}
use Rattle.ps_check_judgement.specs.declared.change.Change.{Change}
use Rattle.ps_check_judgement.specs.declared.refusal.Rule.TheVariants.{ForwardOpen}
use Rattle.ps_check_judgement.specs.Judged.{Judged, Yes, ◌>>=◌, steps}
use Rattle.ps_check_judgement.proofs.Binds.{then_yes, holds_yes, inside_yes}
use Rattle.ps_check_judgement.proofs.Impossible.{never, none_some}
use Rattle.ps_check_judgement.proofs.Items.{there_is, get_stays}
use Rattle.ps_check_names.specs.Spelling.{line_in}
use Rattle.ps_check_names.specs.Regions.{Region, BlockRegion, Meaning, ConstantMeaning, TextMeaning, TypeMeaning}
use Rattle.ps_check_names.specs.Regions.{VariableMeaning, RoutineMeaning, Heading, Context}
use Rattle.ps_check_declarations.specs.Denoters.{Frame, Declared}
use Rattle.ps_check_declarations.specs.Declarations.{declarations}
use Rattle.ps_check_statements.specs.Statements.{statements}
use Rattle.ps_check.specs.Readings.{Gathered, Done, Routines, RoutineReading, BlockReading, BlockLayer}
use Rattle.ps_check.specs.Forwards.{is_vacant, is_open, one_complete, all_complete, block_names}
use Rattle.ps_check.specs.Blocks.{of_statements, own_number, one_routine, declared, block_body, block_step}
use Rattle.ps_check.specs.Blocks.{routine_step, routine}
use Rattle.ps_check.proofs.EachItem.{each_at, each_append}
use Rattle.ps_lower_accepted.proofs.Lists.{Each, each_map, Gives}
use Rattle.ps_lower_accepted.proofs.Lists.{gives}
use Rattle.ps_lower_accepted.proofs.Tables.{Table, extends_self, extends_both, TypeKnown}
use Rattle.ps_lower_accepted.proofs.Standing.{MeaningStands, BlocksStand, Here}
use Rattle.ps_lower_accepted.proofs.Aims.{pointers, DeclaredKnown, IsOwn, Declares, DeclarationsTell}
use Rattle.ps_lower_accepted.proofs.Statements.{statements_tell_all}
use Rattle.ps_lower_accepted.proofs.Places.{Later, same_place, behind, past, sequences_go}
use Rattle.ps_lower_accepted.proofs.Headings.{meanings_more, types_all_more, regions_more}
use Rattle.ps_lower_accepted.proofs.Gathering.{IsMade, more_domains, Final, all_domains, AllFit}
use Rattle.ps_lower_accepted.proofs.Gathering.{is_declared}
use Rattle.ps_lower_accepted.proofs.BlockMeanings.{IsPlain, IsNumbered, IsDeclaredIf, plain_numbered, OwnStand, Targets}
use Rattle.ps_lower_accepted.proofs.BlockMeanings.{Ready, BlockTold, start_of}
use Rattle.ps_lower_accepted.proofs.Blocks.{BlockTells, routines_told}
use Rattle.ps_lower_accepted.proofs.Introduced.{Reading}
use Rattle.ps_lower_accepted.proofs.Closed.{Step}

-- ---- routines that have their blocks

vacant_not : (o : Option Tree.Routine) → not (is_vacant (Some o)) ≡ true → (x : Tree.Routine) × (o ≡ Some x)
vacant_not None e = never e
vacant_not (Some x) e = (x, refl)

module _ (own : ℕ) (rest : List ℕ) (f : Frame) (base : ℕ) (begun : List Meaning) (r : Routines) (D : Table)
    (reading : Reading own rest f base begun r D) (P : Program) (F : Table) (final : Final P F D r.gathered) where
  one_declared : (m : Meaning) → IsNumbered reading.headings base (length r.gathered.routines) m → (u v : Unit {0})
      → one_complete r.gathered u m ≡ Yes v → IsDeclaredIf P (own ∷ rest) m
  unfolding one_complete
  one_declared (RoutineMeaning h) number u v e =
      let there = there_is r.gathered.routines h.number number.2 in
      let closed = holds_yes (not (is_open r.gathered h)) ForwardOpen h.at v e in
      let x = vacant_not there.0 (ap (λ o. not (is_vacant o)) (sym there.1) ∙ closed) in
      let made : IsMade r.gathered h.number x.0 = there.1 ∙ ap Some x.1 in
      is_declared P (own ∷ rest) h x.0 (reading.made h.number h x.0 number.0 made) (final.made h.number x.0 made)
  one_declared m number u v e = tt

  each_declared : (ms : List Meaning) → Each (IsNumbered reading.headings base (length r.gathered.routines)) ms
      → (u v : Unit {0}) → steps (one_complete r.gathered) u ms ≡ Yes v → Each (IsDeclaredIf P (own ∷ rest)) ms
  each_declared [] numbers u v e = tt
  each_declared (m ∷ ms) numbers u v e =
      let t = then_yes (one_complete r.gathered u m) (λ w. steps (one_complete r.gathered) w ms) v e in
      (one_declared m numbers.0 u t.0 t.1, each_declared ms numbers.1 t.0 v t.2)

  pub all_declared : (v : Unit {0}) → all_complete r.gathered r.known ≡ Yes v → Each
      (IsDeclaredIf P (own ∷ rest)) r.known
  unfolding all_complete
  all_declared v e = each_declared r.known reading.numbered tt v e

own_numbered : (first : ℕ) (variables : List DataType) (headings : ℕ → Option Heading) (base count : ℕ) (m : Meaning)
    → IsOwn first variables m → IsNumbered headings base count m
own_numbered first variables headings base count (ConstantMeaning o n) k = tt
own_numbered first variables headings base count (TextMeaning w) k = tt
own_numbered first variables headings base count (TypeMeaning type) k = tt
own_numbered first variables headings base count (VariableMeaning entry type) k = tt
own_numbered first variables headings base count m k = absurd k

-- ---- after the declarations

abbrev as_declared : List Meaning → Gathered → Declared
as_declared known g = record { known = known; domains = g.domains; pending = []; variables = [] }

abbrev behind_declarations : Declared → Gathered → Routines
behind_declarations e g = record {
  known = e.known;
  changes = [];
  gathered = record {
    domains = e.domains;
    routines = g.routines;
  };
}

ready_declared : (D : Table) (outer : List Region) (known : List Meaning) (g : Gathered) → Ready D outer known g
    → DeclaredKnown D (as_declared known g)
ready_declared D outer known g ready =
    let n = length g.domains in
    let m = pointers (as_declared known g) in
    let le : n ≤ m = omega arith in
    record {
      known = meanings_more D D (extends_self D) n m le known ready.known_there;
      domains = types_all_more D D (extends_self D) n m le g.domains ready.domains;
      variables = tt;
    }

module _ (own : ℕ) (rest : List ℕ) (names : List (List ℕ)) (text : List ℕ) (outer : List Region) (known : List Meaning)
    (first : ℕ) (g : Gathered) (D : Table) (ready : Ready D outer known g)
    (low high : ℕ) (ts : Tokens) (e : Declared) (declares : Declares first D low high ts (as_declared known g) e) where
  abbrev frame : Frame
  frame = record { text = text; routine = own; names = names; begun = []; outer = outer }

  settled_pointers : pointers e ≤ length e.domains
  settled_pointers = let q = ap length declares.settled in omega (arith, q)

  declared_more : length g.domains ≤ length e.domains
  declared_more = let q = ap length declares.domains in let l = length-append g.domains declares.more in omega
      (arith, q, l)

  all_numbered : Each (IsNumbered (λ i. None) (length g.routines) (length g.routines)) e.known
  all_numbered =
      let numbered = IsNumbered (λ i. None) (length g.routines) (length g.routines) in
      subst (Each numbered) (sym declares.known) (each_append numbered known declares.new
      (each_map IsPlain numbered (plain_numbered (λ i. None) (length g.routines) (length g.routines)) known ready.plain)
      (each_map (IsOwn first e.variables) numbered
      (own_numbered first e.variables (λ i. None) (length g.routines) (length g.routines)) declares.new
      declares.own))

  pub first_reading : Reading own rest frame (length g.routines) e.known (behind_declarations e g) declares.table
  first_reading = record {
    outer = regions_more D declares.table declares.extends (length g.domains)
        (length e.domains) declared_more outer ready.regions;
    known = meanings_more declares.table declares.table (extends_self declares.table) (pointers e)
        (length e.domains) settled_pointers e.known declares.declared.known;
    domains = types_all_more declares.table declares.table (extends_self declares.table) (pointers e)
        (length e.domains) settled_pointers e.domains declares.declared.domains;
    count = omega arith;
    headings = λ i. None;
    numbered = all_numbered;
    fresh = λ i l. refl;
    made = λ i h x q m. absurd (none_some q);
    stands = λ P b ifs. b;
    fits = λ P F final targets stand blocks i x le m. absurd
        (let l = slice_get_within g.routines i (Some x) m in omega (arith, le, l));
  }

  -- ---- the statements
  module _ (c : Context) (same : c.text ≡ text) (bytes : Each (λ b. b < 256) c.text)
      (short : length c.text ≤ MAX_LENGTH) (lines : line_count c.text ≤ MAX_LINES)
      (outermost : outermost_of (own ∷ rest) ≡ 0)
      (n : ℕ) (t : Routines) (us : Tokens) (step : Step own rest frame (length g.routines) e.known
      (behind_declarations e g) t declares.table declares.next high us)
      (ss : List syntax_statement.Statement) (vs r : Tokens) (body : Tree.Statements)
      (sequence : IsSequence (statement_within n) ss vs r)
      (u : Unit {0}) (complete : all_complete t.gathered t.known ≡ Yes u)
      (read : Gives (statements (of_statements c t.gathered.domains t.changes)
      (BlockRegion own names t.known ∷ outer) ss) body) where
    module _ (P : Program) (F : Table) (final : Final P F step.table t.gathered) (targets : Targets P F)
        (blocks : BlocksStand P F outer rest) (stand : OwnStand P (own ∷ rest) first known e.variables) where
      begun_stand : Each (MeaningStands P (own ∷ rest)) e.known
      begun_stand = subst (Each (MeaningStands P (own ∷ rest))) (sym declares.known)
          (each_append (MeaningStands P (own ∷ rest)) known declares.new stand.begun
          (stand.own declares.new declares.own))

      all_stand : Each (MeaningStands P (own ∷ rest)) t.known
      all_stand = step.reading.stands P begun_stand
          (all_declared own rest frame (length g.routines) e.known t step.table step.reading P F final u complete)

      here : Here (of_statements c t.gathered.domains t.changes) (BlockRegion own names t.known ∷ outer) F (record {
        program = P;
        chain = own ∷ rest;
        opened = [];
      }) []
      here = record {
        stands = (
          refl,
          meanings_more step.table F final.extends (length t.gathered.domains) (length P.domains)
              (all_domains P F step.table t.gathered final) t.known step.reading.known,
          all_stand,
          blocks,
        );
        domains = λ i type q. ap (λ l. slice_get l i) final.domains ∙ get_stays t.gathered.domains final.more i type q;
        targets = λ i type q. each_at (TypeKnown F (length P.domains)) P.domains i type targets q;
        outermost = outermost;
        bytes = bytes;
        short = short;
        lines = lines;
      }

      body_fits : AllFit P (length g.routines) t.gathered × StatementsFit (record {
        program = P;
        chain = own ∷ rest;
        opened = [];
      }) [] body
      body_fits = (
        step.reading.fits P F final targets all_stand blocks,
        statements_tell_all (of_statements c t.gathered.domains t.changes) (BlockRegion own names t.known ∷ outer) F
            (record {
              program = P;
              chain = own ∷ rest;
              opened = [];
            }) [] here n ss vs r sequence body read,
      )

    pub block_read : (changes : List Change) (line next : ℕ) (ws : Tokens) → IsLine line → step.next ≤ next
        → AreOrdered next high ws → BlockTold own rest outer known first D low high ws g (record {
          variables = e.variables;
          body = body;
          line = line;
          changes = changes;
          gathered = t.gathered;
        })
    block_read changes line next ws there le ordered = record {
      table = step.table;
      next = next;
      later = let a = declares.later in let b = step.later in omega (arith, a, b, le);
      ordered = ordered;
      extends = extends_both D declares.table step.table declares.extends step.extends;
      ends = record {
        structures = λ at l. step.ends.structures at (omega (arith, l, le));
        subranges = λ at l. step.ends.subranges at (omega (arith, l, le));
        enumerations = λ at l. step.ends.enumerations at (omega (arith, l, le));
      };
      domains = step.reading.domains;
      variables = types_all_more declares.table step.table step.extends (pointers e) (length t.gathered.domains)
          (let a = settled_pointers in let b = more_domains (behind_declarations e g).gathered t.gathered step.grows
          in omega (arith, a, b)) e.variables declares.declared.variables;
      grows = record {
        more = declares.more ++ step.grows.more;
        domains = step.grows.domains ∙ ap (λ l. l ++ step.grows.more) declares.domains
            ∙ append_assoc g.domains declares.more step.grows.more;
        made = step.grows.made;
      };
      count = step.reading.count;
      kept = step.kept;
      line = there;
      fits = body_fits;
    }

-- ---- blocks

module _ (declarations_tell : DeclarationsTell) (c : Context) (bytes : Each (λ b. b < 256) c.text)
    (short : length c.text ≤ MAX_LENGTH) (lines : line_count c.text ≤ MAX_LINES) (is_forward : Span → Bool) where
  module _ (n : ℕ) (symbol : Symbol syntax_block.Block) (tells : BlockTells c symbol) where
    block_tells : BlockTells c (p.IsBlock is_forward (type_within n) (heading_within n) (statement_within n) symbol)
    unfolding block_step declared block_body own_number
    block_tells own rest outermost outer names known first g D low high x ts r
        (p.parts cs types vs rs begin ss {end = end} {a = ta} {b = tb} {c = tc} {d = td} dcs dtypes dvs drs dss) ready
        ordered ends done e =
        let layer : BlockLayer = record {
          constants = cs;
          types = types;
          variables = vs;
          routines = map (routine c) rs;
          begin = begin;
          statements = ss;
        } in
        let is = fold-roll-Block RoutineReading BlockReading routine_step (block_step c) (record {
          constants = cs;
          types = types;
          variables = vs;
          routines = rs;
          begin = begin;
          statements = ss;
        }) in
        let q = ap (λ (z : BlockReading). z outer (start_of (own ∷ rest) names known first) g) (sym is) ∙ e in
        let all = block_names c.text layer names in
        let f : Frame = record { text = c.text; routine = own; names = all; begun = []; outer = outer } in
        let d = then_yes (declared f layer first known g) _ done q in
        let made = then_yes (declarations f first (as_declared known g) cs types vs) _ d.0 d.1 in
        let declares = declarations_tell f first D low high
        (as_declared known g) made.0 n cs types vs ts ta tb tc dcs dtypes dvs bytes short ordered ends ready.regions
        (ready_declared D outer known g ready) refl refl made.1 in
        let rest_of : Routines × List DataType → Judged Done = λ z. steps (one_routine f (own ∷ rest)) z.0
        (map (routine c) rs) >>= (λ t. block_body c f layer t >>= (λ body. Yes (record {
          variables = z.1;
          body = body.0;
          line = line_in c.text begin.from;
          changes = t.changes ++ body.1;
          gathered = t.gathered;
        }))) in
        let further : rest_of (behind_declarations made.0 g, made.0.variables) ≡ Yes done = ap rest_of
        (inside_yes (behind_declarations made.0 g, made.0.variables) d.0 made.2) ∙ d.2 in
        let t = then_yes (steps (one_routine f (own ∷ rest)) (behind_declarations made.0 g) (map (routine c) rs)) _ done
        further in
        let body = then_yes (block_body c f layer t.0) _ done t.2 in
        let complete = then_yes (all_complete t.0.gathered t.0.known) _ body.0 body.1 in
        let Γ = BlockRegion own all t.0.known ∷ outer in
        let read = gives (statements (of_statements c t.0.gathered.domains t.0.changes) Γ ss) body.0.0 [] body.0.1
        complete.2 in
        let step = routines_told own rest f (length g.routines) made.0.known c refl outermost symbol tells n is_forward
        rs tc _ drs (behind_declarations made.0 g) t.0 declares.table declares.next high
        (first_reading own rest all c.text outer known first g D ready low high tc made.0 declares) declares.ordered
        declares.ends t.1 in
        let later : Later (token k.Begin begin ∷ td) r = behind _ td r
        (past _ td r r (sequences_go n ss td _ dss) (same_place r)) in
        let at = later.on step.next high step.ordered in
        let told = block_read own rest all c.text outer known first g D ready low high tc made.0 declares c refl bytes
        short lines outermost n t.0 _ step ss td _ body.0.0 dss complete.0 complete.1 read (t.0.changes ++ body.0.1)
        (line_in c.text begin.from) at.0 r (line_there c.text begin.from lines) at.1 at.2 in
        subst (BlockTold own rest outer known first D low high r g) (inside_yes _ done body.2) told

  pub blocks_tell : (n : ℕ) → BlockTells c (block_within is_forward n)
  blocks_tell zero own rest outermost outer names known first g D low high x ts r d ready ordered ends done e = absurd d
  blocks_tell (suc n) own rest outermost outer names known first g D low high x ts r d ready ordered ends done e =
      block_tells n (block_within is_forward n)
      (blocks_tell n) own rest outermost outer names known first g D low high x ts r d ready ordered ends done e
