-- What a block that was read has: its names are its points, each means what its point gives, and the same holds of its
-- routines.
use Rattle.std.proofs.Common.{◌≡◌, ℕ, ◌+◌, List, [], ◌∷◌, ◌++◌, length, map, take, slice_get, refl, sym, ap, ◌∙◌, subst}
use Rattle.std.proofs.Common.{append_assoc, append-nil, length-append, arith}
use Rattle.std.proofs.lemmas.List.{map-append}
use Rattle.std.proofs.lemmas.Option.{same_Some}
use Rattle.std.proofs.Math.Seq.{take-append_seam}
use Rattle.ps_syntax.specs.declared.program.ConstantDefinition.{ConstantDefinition}
use Rattle.ps_syntax.specs.declared.program.TypeDefinition.{TypeDefinition}
use Rattle.ps_syntax.specs.declared.program.Variables.{Variables}
use Rattle.ps_syntax.specs.declared.program.Block as syntax_block
use Rattle.ps_syntax.specs.declared.program.Block.{out-Block, roll-Block, out-roll-Block}
use Rattle.ps_syntax.specs.declared.program.Routine.{Routine, roll-Routine, map-Routine, out-roll-Routine}
use Rattle.ps_syntax.specs.declared.program.Routine.TheOpen.{Routine-F, Block-F}
use Rattle.ps_syntax.specs.declared.program.Routine.TheFolds.{fold_out-Block, ind-Block}
use Rattle.ps_tree.specs.Types.{DataType}
use Rattle.ps_check_judgement.specs.declared.change.Change.{Change}
use Rattle.ps_check_judgement.specs.Judged.{Yes, steps}
use Rattle.ps_check_judgement.proofs.Binds.{inside_yes, then_yes}
use Rattle.ps_check_judgement.proofs.Impossible.{none_some}
use Rattle.ps_check_names.specs.Spelling.{spelled, line_in}
use Rattle.ps_check_names.specs.Regions.{Region, BlockRegion, Context, Meaning}
use Rattle.ps_check_declarations.specs.Points.{Points, all, add_points, constant_points, definition_points}
use Rattle.ps_check_declarations.specs.Points.{variables_points, block_points, type_points}
use Rattle.ps_check_declarations.specs.Denoters.{Frame, Declared}
use Rattle.ps_check_declarations.specs.Declarations.{declarations}
use Rattle.ps_check_statements.specs.Statements.{statements}
use Rattle.ps_check.specs.Readings.{Gathered, Start, Done, Routines, BlockReading, BlockLayer}
use Rattle.ps_check.specs.Forwards.{add_routines, all_complete, block_names}
use Rattle.ps_check.specs.Blocks.{own_number, of_statements, one_routine, declared, block_body, block_step, block}
use Rattle.ps_check.specs.Blocks.{routine, layer}
use Rattle.ps_check.specs.Paths.{layer_block, routine_block}
use Rattle.ps_check.proofs.Equations.{block_is}
use Rattle.ps_check_laws.specs.Definitions.{Declarations, OfConstant, OfType, OfVariable, OfDeclaration, numbered}
use Rattle.ps_check_laws.specs.Definitions.{joined, type_declarations, definition_declarations, variable_declarations}
use Rattle.ps_check_laws.specs.Definitions.{own_declarations, declared_name, introduced_from, introduced}
use Rattle.ps_check_laws.specs.Definitions.{definitions_of, names_of, points_before_variables, points_before_routines}
use Rattle.ps_check_laws.specs.Denoting as denoting
use Rattle.ps_check_laws.specs.Denoting.{Count, count_step, counted, routine_count, headings_within}
use Rattle.ps_check_laws.proofs.Lists.{take_left, Each}
use Rattle.ps_check_laws.proofs.TypePoints.{types_told}
use Rattle.ps_check_laws.proofs.Declared.{Standing, Stand, declarations_stand}
use Rattle.ps_check_laws.proofs.Routines.{counted_none}
use Rattle.ps_check_laws.specs.Forward.{AreCompleted}
use Rattle.ps_check_laws.specs.Domains.{type_domains, variable_domains, AreDomains}
use Rattle.ps_check_laws.specs.InDeclarations.{declarations_part}
use Rattle.ps_check.specs.RegionNames.{AreApart, AreNames}
use Rattle.ps_check.proofs.NameLemmas.{names_are_points}
use Rattle.ps_check_laws.proofs.Apart.{apart_first, points_added}
use Rattle.ps_check_laws.proofs.EnclosedNames.{AllKnown, known_later}
use Rattle.ps_check_laws.proofs.Enclosed.{declarations_read}
use Rattle.ps_check_laws.proofs.Pending.{declarations_length, domains_stay}
use Rattle.ps_check_laws.proofs.Domains.{declarations_told, declarations_extend}
use Rattle.ps_check_laws.proofs.Forwards.{none_open, all_open, are_completed}
use Rattle.ps_check_laws.specs.Counts.{block_domains, own_domains}
use Rattle.ps_check_laws.proofs.Drawn.{block_domains_are}
use Rattle.ps_check_laws.proofs.Steps.{AllTold, all_told}
use Rattle.ps_check_laws.proofs.Headed.{At}
use Rattle.ps_check_laws.proofs.BlockPoints.{points, names_length}
use Rattle.ps_check_laws.proofs.GatheredSoFar.{Longer, Grown, Ready, BlockGrows, RoutineGrows, changes_of}

-- ---- the points of the declarations

-- the reading of a denoter holds in any frame
abbrev no_frame : Frame
no_frame = record { text = []; routine = 0; names = []; begun = []; outer = [] }

constants_named : (cs : List ConstantDefinition) → map declared_name (map OfConstant cs) ≡ all (map constant_points cs)
unfolding constant_points
constants_named [] = refl
constants_named (c ∷ cs) = ap (λ l. c.name ∷ l) (constants_named cs)

types_named : (ts : List TypeDefinition) → map declared_name (joined (map definition_declarations ts)) ≡ all
    (map definition_points ts)
unfolding definition_declarations definition_points
types_named [] = refl
types_named (t ∷ ts) =
    map-append declared_name (type_declarations t.ty ++ OfType t ∷ []) (joined (map definition_declarations ts))
    ∙ ap (λ l. l ++ map declared_name (joined (map definition_declarations ts)))
    (map-append declared_name (type_declarations t.ty) (OfType t ∷ []) ∙ ap (λ l. l ++ t.name ∷ [])
    (types_told no_frame t.ty).there.names)
    ∙ ap (λ l. (type_points t.ty ++ t.name ∷ []) ++ l) (types_named ts)

numbered_named : (v : Variables) (n : ℕ) (names : Points) → map declared_name (numbered (OfVariable v) n names) ≡ names
numbered_named v n [] = refl
numbered_named v n (x ∷ xs) = ap (λ l. x ∷ l) (numbered_named v (n + 1) xs)

variables_named : (n : ℕ) (vs : List Variables) → map declared_name (variable_declarations n vs) ≡ all
    (map variables_points vs)
unfolding variable_declarations variables_points
variables_named n [] = refl
variables_named n (v ∷ vs) =
    map-append declared_name (type_declarations v.ty ++ numbered (OfVariable v) n v.names)
    (variable_declarations (n + length v.names) vs)
    ∙ ap (λ l. l ++ map declared_name (variable_declarations (n + length v.names) vs))
    (map-append declared_name (type_declarations v.ty) (numbered (OfVariable v) n v.names)
    ∙ ap (λ l. l ++ map declared_name (numbered (OfVariable v) n v.names)) (types_told no_frame v.ty).there.names
    ∙ ap (λ l. type_points v.ty ++ l) (numbered_named v n v.names))
    ∙ ap (λ l. (type_points v.ty ++ v.names) ++ l) (variables_named (n + length v.names) vs)

pub own_named : (b : syntax_block.Block) → map declared_name (own_declarations b) ≡ block_points (out-Block b).constants
    (out-Block b).types (out-Block b).variables
unfolding own_declarations block_points
own_named b =
    let cs = map OfConstant (out-Block b).constants in
    let ts = joined (map definition_declarations (out-Block b).types) in
    let vs = variable_declarations 0 (out-Block b).variables in
    map-append declared_name (cs ++ ts) vs
    ∙ ap (λ l. l ++ map declared_name vs) (map-append declared_name cs ts ∙ ap (λ l. l ++ map declared_name ts)
    (constants_named (out-Block b).constants) ∙ ap (λ l. all (map constant_points (out-Block b).constants) ++ l)
    (types_named (out-Block b).types))
    ∙ ap (λ l. (all (map constant_points (out-Block b).constants) ++ all (map definition_points (out-Block b).types))
    ++ l) (variables_named 0 (out-Block b).variables)

spelled_names : (text : List ℕ) (xs : Declarations) → names_of text (map OfDeclaration xs) ≡ map (spelled text)
    (map declared_name xs)
unfolding names_of
spelled_names text [] = refl
spelled_names text (x ∷ xs) = ap (λ l. spelled text (declared_name x) ∷ l) (spelled_names text xs)

pub names_both : (text : List ℕ) (xs ys : Declarations) → names_of text (map OfDeclaration (xs ++ ys)) ≡ names_of text
    (map OfDeclaration xs) ++ map (spelled text) (map declared_name ys)
names_both text xs ys =
    spelled_names text (xs ++ ys) ∙ ap (map (spelled text)) (map-append declared_name xs ys) ∙ map-append (spelled text)
    (map declared_name xs) (map declared_name ys)
    ∙ ap (λ l. l ++ map (spelled text) (map declared_name ys)) (sym (spelled_names text xs))

-- ---- a block that was read

pub within_is : (text : List ℕ) (b : syntax_block.Block) → headings_within text b ≡ counted text []
    (map (routine_count text) (out-Block b).routines)
unfolding denoting.block_step
within_is text b = fold_out-Block Count ℕ count_step (denoting.block_step text) b

module _ (c : Context) (b : syntax_block.Block) (outer : List Region) (s : Start) (g : Gathered) (d : Done)
    (D : Declarations) where
  abbrev pub rs : List Routine
  rs = (out-Block b).routines

  -- its parts
  pub record BlockHas : Type 0 where
    pub names : List (List ℕ)
    pub before : Routines
    pub behind : Routines
    pub known : Standing (record {
      text = c.text;
      routine = own_number s.chain;
      names = names;
      begun = [];
      outer = outer;
    }) s.first (λ k. length g.routines + counted c.text [] (map (routine_count c.text) (take k rs)))
        (definitions_of c.text D b) behind.known
    pub apart : AreApart names
    pub names_are : names ≡ names_of c.text (definitions_of c.text D b)
    pub told : AllTold c (own_number s.chain) names outer s.first s.chain (D ++ own_declarations b) (length g.routines)
        (length before.gathered.domains) rs [] rs before behind
    pub same_gathered : d.gathered ≡ behind.gathered
    pub grown : Grown g d.gathered (headings_within c.text b) (block_domains b)
    pub drawn_first : length before.gathered.domains ≡ length g.domains + own_domains b
    pub declared : declarations (record {
      text = c.text;
      routine = own_number s.chain;
      names = names;
      begun = [];
      outer = outer;
    }) s.first (record {
      known = s.known;
      domains = g.domains;
      pending = [];
      variables = [];
    }) (out-Block b).constants (out-Block b).types (out-Block b).variables
        ≡ Yes (record {
          known = take (points_before_routines D b) behind.known;
          domains = before.gathered.domains;
          pending = [];
          variables = d.variables;
        })
    pub later : Longer before.gathered d.gathered
    pub line : d.line ≡ line_in c.text (out-Block b).begin.from
    pub known_more : (more : List Meaning) × (behind.known ≡ s.known ++ more)
    pub completed : AreCompleted c.text rs
    pub type_domains_are : AreDomains (record {
      text = c.text;
      routine = own_number s.chain;
      names = names;
      begun = [];
      outer = outer;
    }) (take (points_before_variables D b) behind.known) (length g.domains)
        (type_domains (out-Block b).types) d.gathered.domains
    pub variable_domains_are : AreDomains (record {
      text = c.text;
      routine = own_number s.chain;
      names = names;
      begun = [];
      outer = outer;
    }) (take (points_before_routines D b) behind.known) (length g.domains + length (type_domains (out-Block b).types))
        (variable_domains (out-Block b).variables) d.gathered.domains
    pub uses : AllKnown (record {
      text = c.text;
      routine = own_number s.chain;
      names = names;
      begun = [];
      outer = outer;
    }) [] behind.known (length D) (declarations_part (out-Block b).constants (out-Block b).types
        (out-Block b).variables).uses
    -- what its routines change, and then its statements
    pub inner_changes : behind.changes ≡ changes_of told.parts rs
    pub changes : List Change
    pub all_changes : d.changes ≡ behind.changes ++ changes
    pub body : statements (of_statements c d.gathered.domains behind.changes)
        (BlockRegion (own_number s.chain) names behind.known ∷ outer) (out-Block b).statements [] ≡ Yes
        (d.body, changes)

  inside_block : Ready c.text outer s D → Each (RoutineGrows c) rs → block c b outer s g ≡ Yes d → BlockHas
  unfolding block_step block_names declared block_body introduced_from own_declarations definitions_of
      points_before_variables points_before_routines own_domains
  inside_block ready grows e =
      let q = ap (λ (r : BlockReading). r outer s g) (sym (block_is c b)) ∙ e in
      let l : BlockLayer = layer c b in
      let names = block_names c.text l s.names in
      let f : Frame = record {
        text = c.text;
        routine = own_number s.chain;
        names = names;
        begun = [];
        outer = outer;
      } in
      let first_points : length s.known ≡ length D = (ready.stands (own_number s.chain) names s.first (λ k. k)).many
      ∙ declarations_length D in
      let first_names : length s.names ≡ length D = ap length ready.names ∙ names_length c.text (map OfDeclaration D)
      ∙ declarations_length D in
      let law : AreNames c.text l s.names names = names_are_points c l outer s g d (first_points ∙ sym first_names) q in
      let apart : AreApart names = law.apart ready.apart in
      let first_apart = apart_first (s.names ++ map (spelled c.text) (block_points l.constants l.types l.variables))
      law.routines (subst AreApart law.are apart) in
      let o = then_yes (declared f l s.first s.known g) _ d q in
      let begin : Declared = record { known = s.known; domains = g.domains; pending = []; variables = [] } in
      let made = then_yes (declarations f s.first begin l.constants l.types l.variables) _ o.0 o.1 in
      let first_routines : Routines = record {
        known = made.0.known;
        changes = [];
        gathered = record {
          domains = made.0.domains;
          routines = g.routines;
        };
      } in
      let o_is : (first_routines, made.0.variables) ≡ o.0 = inside_yes (first_routines, made.0.variables) o.0 made.2 in
      let before_is : first_routines ≡ o.0.0 = ap (λ (z : Routines × List DataType). z.0) o_is in
      let t = then_yes (steps (one_routine f s.chain) o.0.0 l.routines) _ d o.2 in
      let body = then_yes (block_body c f l t.0) _ d t.2 in
      let d_is : record {
        variables = o.0.1;
        body = body.0.0;
        line = line_in c.text l.begin.from;
        changes = t.0.changes ++ body.0.1;
        gathered = t.0.gathered;
      } ≡ d = inside_yes _ d body.2 in
      let complete = then_yes (all_complete t.0.gathered t.0.known) _ body.0 body.1 in
      let numbers : ℕ → ℕ = λ k. length g.routines + counted c.text [] (map (routine_count c.text) (take k rs)) in
      let all_declared = D ++ own_declarations b in
      let stands : Stand f s.first numbers all_declared made.0.known = declarations_stand f s.first numbers l.constants
      l.types l.variables D begin made.0 made.1 refl (ready.stands (own_number s.chain) names s.first numbers) in
      let domains = declarations_told f s.first l.constants l.types l.variables numbers D begin made.0 made.1 refl
      (ready.stands (own_number s.chain) names s.first numbers) in
      let declared_is : o.0.0.gathered.domains ≡ made.0.domains = ap (λ (z : Routines). z.gathered.domains)
      (sym before_is) in
      let at : At c (own_number s.chain) names outer s.first s.chain all_declared (length g.routines)
      (length o.0.0.gathered.domains) rs [] first_routines = record {
        stands = subst (λ ds. Standing f s.first numbers ds made.0.known)
            (sym (append-nil (map OfDeclaration all_declared))) stands;
        count = (let z = counted_none c.text [] in omega (arith, z));
        drawn_so = (let z = ap length declared_is in omega (arith, z));
      } in
      let from_is : add_points c.text s.names (block_points l.constants l.types l.variables) ≡ names_of c.text
      (points c.text all_declared (introduced c.text [])) =
      points_added c.text (block_points l.constants l.types l.variables) s.names first_apart
      ∙ ap (λ x. x ++ map (spelled c.text) (block_points l.constants l.types l.variables)) ready.names
      ∙ ap (λ x. names_of c.text (map OfDeclaration D) ++ map (spelled c.text) x) (sym (own_named b))
      ∙ sym (names_both c.text D (own_declarations b)) ∙ ap (names_of c.text)
      (sym (append-nil (map OfDeclaration all_declared))) in
      let told = all_told c (own_number s.chain) names outer s.first s.chain all_declared (length g.routines)
      (length o.0.0.gathered.domains) rs rs [] o.0.0 t.0 refl grows
      (subst (At c (own_number s.chain) names outer s.first s.chain all_declared (length g.routines)
      (length o.0.0.gathered.domains) rs []) before_is at)
      (ap (λ x. add_routines c.text x (map (routine c) rs)) (sym from_is)) t.1 in
      let opened = all_open c (own_number s.chain) names outer s.first s.chain all_declared (length g.routines)
      (length o.0.0.gathered.domains) rs rs [] o.0.0 t.0 refl grows
      (subst (At c (own_number s.chain) names outer s.first s.chain all_declared (length g.routines)
      (length o.0.0.gathered.domains) rs []) before_is at)
      (none_open c (own_number s.chain) names outer s.first s.chain all_declared (length g.routines)
      (length o.0.0.gathered.domains) rs o.0.0
      (subst (At c (own_number s.chain) names outer s.first s.chain all_declared (length g.routines)
      (length o.0.0.gathered.domains) rs []) before_is at))
      (ap (λ x. add_routines c.text x (map (routine c) rs)) (sym from_is)) t.1 in
      let gathered_is : d.gathered ≡ t.0.gathered = ap (λ (z : Done). z.gathered) (sym d_is) in
      let domains_longer : d.gathered.domains ≡ made.0.domains
      ++ told.domains.0 = ap (λ (z : Gathered). z.domains) gathered_is ∙ told.domains.1
      ∙ ap (λ l. l ++ told.domains.0) declared_is in
      let known_longer : t.0.known ≡ made.0.known ++ told.known_more.0 = told.known_more.1
      ∙ ap (λ (z : Routines). z.known ++ told.known_more.0) (sym before_is) in
      let before_routines : made.0.known ≡ take (length all_declared) t.0.known =
      sym (take-append_seam made.0.known told.known_more.0) ∙ ap (take (length made.0.known)) (sym known_longer)
      ∙ ap (λ k. take k t.0.known) (stands.many ∙ declarations_length all_declared) in
      let types_end = length ((D ++ map OfConstant l.constants) ++ joined (map definition_declarations l.types)) in
      let before_variables : take types_end made.0.known ≡ take types_end t.0.known = sym
      (ap (take types_end) known_longer ∙ take_left made.0.known told.known_more.0 types_end domains.below) in
      let counted_all = told.behind.count in
      let part = declarations_part l.constants l.types l.variables in
      let used = subst (λ k. AllKnown f [] made.0.known k part.uses) first_points
      (declarations_read f s.first l.constants l.types l.variables begin made.0 made.1).uses in
      let within = within_is c.text b in
      let drawn_count : length o.0.0.gathered.domains ≡ length g.domains + own_domains b =
      (let z = ap length declared_is in let y = ap length domains.longer in let w = length-append g.domains domains.more
      in let u = domains.count in omega (arith, z, y, w, u)) in
      let declared_all : Declared = record {
        known = take (length all_declared) t.0.known;
        domains = o.0.0.gathered.domains;
        pending = [];
        variables = d.variables;
      } in
      let variables_are : made.0.variables ≡ d.variables = ap (λ (z : Routines × List DataType). z.1) o_is
      ∙ ap (λ (z : Done). z.variables) d_is in
      let made_is : made.0 ≡ declared_all =
      ap (λ x. record {
        known = x;
        domains = made.0.domains;
        pending = made.0.pending;
        variables = made.0.variables;
      }) before_routines
      ∙ ap (λ x. record {
        known = take (length all_declared) t.0.known;
        domains = x;
        pending = made.0.pending;
        variables = made.0.variables;
      }) (sym declared_is)
      ∙ ap (λ x. record {
        known = take (length all_declared) t.0.known;
        domains = o.0.0.gathered.domains;
        pending = x;
        variables = made.0.variables;
      }) domains.none_waits
      ∙ ap (λ x. record {
        known = take (length all_declared) t.0.known;
        domains = o.0.0.gathered.domains;
        pending = [];
        variables = x;
      }) variables_are in
      let first_more = declarations_extend f s.first l.constants l.types l.variables begin made.0 made.1 in
      let behind_domains : t.0.gathered.domains ≡ d.gathered.domains = ap (λ (z : Gathered). z.domains)
      (sym gathered_is) in
      record {
        names = names;
        before = o.0.0;
        behind = t.0;
        known = told.behind.stands;
        apart = apart;
        names_are = told.names_are;
        told = told;
        same_gathered = gathered_is;
        type_domains_are = domains_stay f (take types_end t.0.known) (length g.domains)
            (type_domains l.types) made.0.domains told.domains.0 d.gathered.domains domains_longer
            (subst (λ k. AreDomains f k (length g.domains) (type_domains l.types) made.0.domains) before_variables
            domains.types);
        variable_domains_are = domains_stay f (take (length all_declared) t.0.known)
            (length g.domains + length (type_domains l.types))
            (variable_domains l.variables) made.0.domains told.domains.0 d.gathered.domains domains_longer
            (subst (λ k. AreDomains f k (length g.domains + length (type_domains l.types))
            (variable_domains l.variables) made.0.domains) before_routines domains.variables);
        uses = known_later f [] made.0.known t.0.known told.known_more.0 (length D) part.uses known_longer used;
        inner_changes = told.changes ∙ ap (λ (z : Routines). z.changes ++ changes_of told.parts rs) (sym before_is);
        changes = body.0.1;
        all_changes = ap (λ (z : Done). z.changes) (sym d_is);
        drawn_first = drawn_count;
        declared = made.1 ∙ ap (λ z. Yes z) made_is;
        later = (told.domains.0, domains_longer ∙ ap (λ z. z ++ told.domains.0) (sym declared_is));
        line = ap (λ (z : Done). z.line) (sym d_is);
        known_more = (
          first_more.0 ++ told.known_more.0,
          known_longer ∙ ap (λ z. z ++ told.known_more.0) first_more.1
              ∙ append_assoc s.known first_more.0 told.known_more.0,
        );
        completed = are_completed c (own_number s.chain) names outer s.first s.chain all_declared (length g.routines)
            (length o.0.0.gathered.domains) rs t.0 opened complete.0 complete.1;
        grown = record {
          count = ap (λ (z : Gathered). length z.routines) gathered_is ∙ counted_all ∙ ap (λ k. length g.routines + k)
              (sym within);
          keeps = λ k x z. ap (λ (y : Gathered). slice_get y.routines k) gathered_is ∙ told.keeps k x
              (ap (λ (y : Routines). slice_get y.gathered.routines k) (sym before_is) ∙ z);
          drawn = (let u = ap (λ (z : Gathered). length z.domains) gathered_is in let w = told.behind.drawn_so
              in let y = block_domains_are b in omega (arith, u, w, y, drawn_count));
          domains = (
            domains.more ++ told.domains.0,
            domains_longer ∙ ap (λ z. z ++ told.domains.0) domains.longer
                ∙ append_assoc g.domains domains.more told.domains.0,
          );
          lower = λ k l. ap (λ (y : Gathered). slice_get y.routines k) gathered_is ∙ told.lower k l
              ∙ ap (λ (y : Routines). slice_get y.gathered.routines k) (sym before_is);
        };
        body = ap (λ x. statements (of_statements c x t.0.changes)
            (BlockRegion f.routine f.names t.0.known ∷ outer) l.statements []) (sym behind_domains) ∙ complete.2
            ∙ ap (λ y. Yes (y, body.0.1)) (ap (λ (z : Done). z.body) d_is);
      }

-- ---- all blocks

module _ (c : Context) where
  abbrev AtRoutine : Type 0
  AtRoutine = (x : Routine) × RoutineGrows c x

  abbrev AtBlock : Type 0
  AtBlock = (x : syntax_block.Block) × BlockGrows c x

  each_of : (ys : List AtRoutine) → Each (RoutineGrows c) (map (λ y. y.0) ys)
  each_of [] = tt
  each_of (y ∷ ys) = (y.1, each_of ys)

  routine_layer : (y : Routine-F AtRoutine AtBlock) → RoutineGrows c
      (roll-Routine (map-Routine AtRoutine AtBlock Routine syntax_block.Block (λ e. e.0) (λ e. e.0) y))
  unfolding routine_block
  routine_layer (Routine-F.Whole h x) b e = subst (BlockGrows c)
      (same_Some x.0 b (sym (ap layer_block (out-roll-Routine (Routine-F.Whole h x.0))) ∙ e)) x.1
  routine_layer (Routine-F.Forward h) b e = absurd
      (none_some (sym (ap layer_block (out-roll-Routine (Routine-F.Forward h))) ∙ e))
  routine_layer (Routine-F.Completion name x) b e = subst (BlockGrows c)
      (same_Some x.0 b (sym (ap layer_block (out-roll-Routine (Routine-F.Completion name x.0))) ∙ e)) x.1

  block_layer : (x : Block-F Routine syntax_block.Block) → Each (RoutineGrows c) x.routines → BlockGrows c
      (roll-Block x)
  block_layer x grows outer s g d D ready e =
      (inside_block c (roll-Block x) outer s g d D ready
      (subst (λ (z : Block-F Routine syntax_block.Block). Each (RoutineGrows c) z.routines)
      (sym (out-roll-Block x)) grows) e).grown

  pub blocks_grow : (b : syntax_block.Block) → BlockGrows c b
  blocks_grow = ind-Block (RoutineGrows c) (BlockGrows c)
      (λ x y is. subst (λ z. RoutineGrows c (roll-Routine z)) is (routine_layer y))
      (λ x y is. block_layer x (subst (λ (z : Block-F Routine syntax_block.Block). Each (RoutineGrows c) z.routines) is
      (each_of y.routines)))

  all_grow : (rs : List Routine) → Each (RoutineGrows c) rs
  all_grow [] = tt
  all_grow (x ∷ rs) = (λ b e. blocks_grow b, all_grow rs)

  pub block_told : (b : syntax_block.Block) (outer : List Region) (s : Start) (g : Gathered) (d : Done)
      (D : Declarations) → Ready c.text outer s D → block c b outer s g ≡ Yes d → BlockHas c b outer s g d D
  block_told b outer s g d D ready e = inside_block c b outer s g d D ready (all_grow (out-Block b).routines) e
