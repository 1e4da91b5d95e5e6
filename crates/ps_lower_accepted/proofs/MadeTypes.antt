-- The types that a part of a block makes, one definition after another, and the domain types that it settles.
use Rattle.std.proofs.Common.{◌≡◌, ℕ, ◌≤◌, Bool, true, false, List, [], ◌∷◌, ◌++◌, length, refl, sym, ap, ◌∙◌}
use Rattle.std.proofs.Common.{subst, arith, append-nil, append_assoc, length-append}
use Rattle.ps_check.proofs.EachItem.{each_append}
use Rattle.ps_text.specs.declared.Span.{Span}
use Rattle.ps_scan.specs.Spans.{AreOrdered}
use Rattle.ps_scan.specs.declared.token.Token.{Token}
use Rattle.ps_parse_grammar.specs.Symbols.{Tokens}
use Rattle.ps_tree.specs.Types.{DataType}
use Rattle.ps_check_judgement.specs.Judged.{Yes, steps}
use Rattle.ps_check_judgement.proofs.Binds.{then_yes, no_yes, inside_yes}
use Rattle.ps_check_judgement.proofs.Items.{get_stays}
use Rattle.ps_check_names.specs.Spelling.{spelled}
use Rattle.ps_check_names.specs.Regions.{Point, BlockPoint, Meaning, ConstantMeaning, TextMeaning, TypeMeaning}
use Rattle.ps_check_names.specs.Regions.{VariableMeaning}
use Rattle.ps_check_names.specs.Constants.{denoted}
use Rattle.ps_check_declarations.specs.Points.{is_later}
use Rattle.ps_check_declarations.specs.Denoters.{Frame, Declared, within, regions}
use Rattle.ps_check_declarations.specs.Declarations.{domain_at, resolve_domain, resolve_domains}
use Rattle.ps_lower_accepted.proofs.Lists.{Each, each_map}
use Rattle.ps_lower_accepted.proofs.Tables.{Table, extends_self, EndsBefore, TypeKnown}
use Rattle.ps_lower_accepted.proofs.Standing.{MeaningKnown, RegionsKnown}
use Rattle.ps_lower_accepted.proofs.Aims.{pointers, IsOwn, Declares}
use Rattle.ps_lower_accepted.proofs.Headings.{meanings_more, types_all_more, regions_more, regions_known}
use Rattle.ps_lower_accepted.proofs.Names.{PointKnown, find_known}
use Rattle.ps_lower_accepted.proofs.BlockMeanings.{ends_later}
use Rattle.ps_lower_accepted.proofs.Placed.{Agrees, agrees_self, agrees_both, agrees_extend}
use Rattle.ps_lower_accepted.proofs.Ordinals.{IsConstantMeaning, Known}
use Rattle.ps_lower_accepted.proofs.DenoterParts.{TypeBehind}

own_left : (first : ℕ) (vs ws : List DataType) (m : Meaning) → IsOwn first vs m → IsOwn first (vs ++ ws) m
own_left first vs ws (ConstantMeaning o n) k = tt
own_left first vs ws (TextMeaning w) k = tt
own_left first vs ws (TypeMeaning type) k = tt
own_left first vs ws (VariableMeaning entry type) k = (k.0, k.1, get_stays vs ws k.0 type k.2)
own_left first vs ws m k = absurd k

pub constant_own : (first : ℕ) (vs : List DataType) (m : Meaning) → IsConstantMeaning m → IsOwn first vs m
constant_own first vs (ConstantMeaning o n) k = tt
constant_own first vs m k = absurd k

-- a domain type
domain_is : (D : Table) (b : ℕ) (later : Bool) (at : ℕ) (q : Point) (type : DataType) → PointKnown D b q
    → domain_at later at q ≡ Yes type → TypeKnown D b type
unfolding domain_at
domain_is D b later at (BlockPoint up (TypeMeaning t)) type k e = subst (TypeKnown D b) (inside_yes t type e) k
domain_is D b true at q type k e = absurd (no_yes e)
domain_is D b false at q type k e = absurd (no_yes e)

-- ---- within a definition what is known is the same
module _ (f : Frame) (begun : List (List ℕ)) where
  pub known_within : (D : Table) (d : Declared) → Known f D d → Known (within f begun) D d
  known_within D d k = record { declared = k.declared; outer = k.outer }

  pub known_outside : (D : Table) (d : Declared) → Known (within f begun) D d → Known f D d
  known_outside D d k = record { declared = k.declared; outer = k.outer }

module _ (f : Frame) (first : ℕ) where
  -- what is known after a part
  pub record Made (low high : ℕ) (r : Tokens) (D : Table) (d e : Declared) : Type 0 where
    pub table : Table
    pub next : ℕ
    pub later : low ≤ next
    pub ordered : AreOrdered next high r
    pub agrees : Agrees low D table
    pub ends : EndsBefore next table
    pub known : Known f table e
    pub domains_more : List DataType
    pub domains : e.domains ≡ d.domains ++ domains_more
    pub variables_more : List DataType
    pub variables : e.variables ≡ d.variables ++ variables_more
    pub new : List Meaning
    pub all_known : e.known ≡ d.known ++ new
    pub own : Each (IsOwn first e.variables) new

  pub two_made : (low high : ℕ) (m r : Tokens) (D : Table) (d e g : Declared) → (a : Made low high m D d e)
      → Made a.next high r a.table e g → Made low high r D d g
  two_made low high m r D d e g a b = record {
    table = b.table;
    next = b.next;
    later = let x = a.later in let y = b.later in omega (arith, x, y);
    ordered = b.ordered;
    agrees = agrees_both low a.next D a.table b.table a.later a.agrees b.agrees;
    ends = b.ends;
    known = b.known;
    domains_more = a.domains_more ++ b.domains_more;
    domains = b.domains ∙ ap (λ l. l ++ b.domains_more) a.domains
        ∙ append_assoc d.domains a.domains_more b.domains_more;
    variables_more = a.variables_more ++ b.variables_more;
    variables = b.variables ∙ ap (λ l. l ++ b.variables_more) a.variables
        ∙ append_assoc d.variables a.variables_more b.variables_more;
    new = a.new ++ b.new;
    all_known = b.all_known ∙ ap (λ l. l ++ b.new) a.all_known ∙ append_assoc d.known a.new b.new;
    own = each_append (IsOwn first g.variables) a.new b.new
        (subst (λ l. Each (IsOwn first l) a.new) (sym b.variables)
        (each_map (IsOwn first e.variables) (IsOwn first (e.variables ++ b.variables_more))
        (own_left first e.variables b.variables_more) a.new a.own)) b.own;
  }

  -- more after what left the place
  pub two_here : (low high : ℕ) (r : Tokens) (D : Table) (d e g : Declared) (ds vs : List DataType) (ms : List Meaning)
      → e.domains ≡ d.domains ++ ds → e.variables ≡ d.variables ++ vs → e.known ≡ d.known ++ ms → Each
      (IsOwn first e.variables) ms → Made low high r D e g → Made low high r D d g
  two_here low high r D d e g ds vs ms x y z own b = record {
    table = b.table;
    next = b.next;
    later = b.later;
    ordered = b.ordered;
    agrees = b.agrees;
    ends = b.ends;
    known = b.known;
    domains_more = ds ++ b.domains_more;
    domains = b.domains ∙ ap (λ l. l ++ b.domains_more) x ∙ append_assoc d.domains ds b.domains_more;
    variables_more = vs ++ b.variables_more;
    variables = b.variables ∙ ap (λ l. l ++ b.variables_more) y ∙ append_assoc d.variables vs b.variables_more;
    new = ms ++ b.new;
    all_known = b.all_known ∙ ap (λ l. l ++ b.new) z ∙ append_assoc d.known ms b.new;
    own = each_append (IsOwn first g.variables) ms b.new
        (subst (λ l. Each (IsOwn first l) ms) (sym b.variables)
        (each_map (IsOwn first e.variables) (IsOwn first (e.variables ++ b.variables_more))
        (own_left first e.variables b.variables_more) ms own)) b.own;
  }

  -- the table is as it was
  pub same_table : (low next high : ℕ) (r : Tokens) (D : Table) (d e : Declared) (ds vs : List DataType)
      (ms : List Meaning)
      → low ≤ next → AreOrdered next high r → EndsBefore low D → Known f D e → e.domains ≡ d.domains ++ ds → e.variables
      ≡ d.variables ++ vs → e.known ≡ d.known ++ ms → Each (IsOwn first e.variables) ms → Made low high r D d e
  same_table low next high r D d e ds vs ms le ordered ends known x y z own = record {
    table = D;
    next = next;
    later = le;
    ordered = ordered;
    agrees = agrees_self low D;
    ends = ends_later D low next le ends;
    known = known;
    domains_more = ds;
    domains = x;
    variables_more = vs;
    variables = y;
    new = ms;
    all_known = z;
    own = own;
  }

  pub no_part : (low next high : ℕ) (r : Tokens) (D : Table) (d : Declared) → low ≤ next → AreOrdered next high r
      → EndsBefore low D → Known f D d → Made low high r D d d
  no_part low next high r D d le ordered ends known = same_table low next high r D d d [] [] [] le ordered ends known
      (sym (append-nil d.domains)) (sym (append-nil d.variables)) (sym (append-nil d.known)) tt

  unfoldable pub from_denoter : (begun : List (List ℕ)) (low high : ℕ) (r : Tokens) (D : Table) (d e : Declared)
      (type : DataType)
      → TypeBehind (within f begun) low high r D d e type → Made low high r D d e
  from_denoter begun low high r D d e type a = record {
    table = a.table;
    next = a.next;
    later = a.later;
    ordered = a.ordered;
    agrees = a.agrees;
    ends = a.ends;
    known = known_outside f begun a.table e a.known;
    domains_more = [];
    domains = a.domains ∙ sym (append-nil d.domains);
    variables_more = [];
    variables = a.variables ∙ sym (append-nil d.variables);
    new = a.new;
    all_known = a.all_known;
    own = each_map IsConstantMeaning (IsOwn first e.variables) (constant_own first e.variables) a.new a.constants;
  }

  unfoldable pub from_earlier : (low middle high : ℕ) (r : Tokens) (D : Table) (d e : Declared) → low ≤ middle
      → Made middle high r D d e → Made low high r D d e
  from_earlier low middle high r D d e le a = record {
    table = a.table;
    next = a.next;
    later = let x = a.later in omega (arith, le, x);
    ordered = a.ordered;
    agrees = agrees_both low middle D D a.table le (agrees_self low D) a.agrees;
    ends = a.ends;
    known = a.known;
    domains_more = a.domains_more;
    domains = a.domains;
    variables_more = a.variables_more;
    variables = a.variables;
    new = a.new;
    all_known = a.all_known;
    own = a.own;
  }

  unfoldable pub made_past : (low high : ℕ) (t : Token) (r : Tokens) (D : Table) (d e : Declared) → Made low high
      (t ∷ r) D d e
      → Made low high r D d e
  made_past low high t r D d e a = let o = a.ordered in record {
    table = a.table;
    next = t.span.to;
    later = let x = a.later in let y = o.0 in let z = o.1 in omega (arith, x, y, z);
    ordered = o.2;
    agrees = a.agrees;
    ends = ends_later a.table a.next t.span.to (let y = o.0 in let z = o.1 in omega (arith, y, z)) a.ends;
    known = a.known;
    domains_more = a.domains_more;
    domains = a.domains;
    variables_more = a.variables_more;
    variables = a.variables;
    new = a.new;
    all_known = a.all_known;
    own = a.own;
  }

  pub whole : (low high : ℕ) (r : Tokens) (D : Table) (d e : Declared) → EndsBefore low D → Made low high r D d e
      → e.pending ≡ [] → Declares first D low high r d e
  whole low high r D d e ends a settled = record {
    table = a.table;
    next = a.next;
    later = a.later;
    ordered = a.ordered;
    extends = agrees_extend low D a.table ends a.agrees;
    ends = a.ends;
    declared = a.known.declared;
    settled = settled;
    more = a.domains_more;
    domains = a.domains;
    new = a.new;
    known = a.all_known;
    own = a.own;
  }

  -- ---- domain types
  record Settled (D : Table) (b : ℕ) (names : List (Span × ℕ)) (d e : Declared) : Type 0 where
    known : e.known ≡ d.known
    variables : e.variables ≡ d.variables
    more : List DataType
    domains : e.domains ≡ d.domains ++ more
    count : length more ≡ length names
    all : Each (TypeKnown D b) e.domains

  settle_steps : (D : Table) (b : ℕ) → RegionsKnown D b f.outer → (names : List (Span × ℕ)) (d e : Declared) → Each
      (MeaningKnown D b) d.known → Each (TypeKnown D b) d.domains → steps (resolve_domain f) d names ≡ Yes e
      → Settled D b names d e
  unfolding resolve_domain
  settle_steps D b outer [] d e known domains q = subst (Settled D b [] d) (inside_yes d e q) (record {
    known = refl;
    variables = refl;
    more = [];
    domains = sym (append-nil d.domains);
    count = refl;
    all = domains;
  })
  settle_steps D b outer (x ∷ names) d e known domains h =
      let u = then_yes (resolve_domain f d x) (λ z. steps (resolve_domain f) z names) e h in
      let q = then_yes (denoted f.text (regions f [] d.known) x.0) _ u.0 u.1 in
      let later = is_later f.names x.1 (spelled f.text x.0) in
      let t = then_yes (domain_at later x.0.from q.0) _ u.0 q.2 in
      let one : Declared = record {
        known = d.known;
        domains = d.domains ++ t.0 ∷ [];
        pending = d.pending;
        variables = d.variables;
      } in
      let is : one ≡ u.0 = inside_yes one u.0 t.2 in
      let point = find_known D b (regions f [] d.known) 0 0 (spelled f.text x.0) x.0.from q.0
      (regions_known D b f [] d.known outer known) q.1 in
      let type_there = domain_is D b later x.0.from q.0 t.0 point t.1 in
      let rest = settle_steps D b outer names one e known
      (each_append (TypeKnown D b) d.domains (t.0 ∷ []) domains (type_there, tt))
      (ap (λ z. steps (resolve_domain f) z names) is ∙ u.2) in
      record {
        known = rest.known;
        variables = rest.variables;
        more = t.0 ∷ rest.more;
        domains = rest.domains ∙ append_assoc d.domains (t.0 ∷ []) rest.more;
        count = let c = rest.count in omega (arith, c);
        all = rest.all;
      }

  pub settle_made : (low high : ℕ) (r : Tokens) (D : Table) (d e : Declared) → AreOrdered low high r → EndsBefore low D
      → Known f D d → resolve_domains f d ≡ Yes e → Made low high r D d e × (e.pending ≡ [])
  unfolding resolve_domains
  settle_made low high r D d e ordered ends k q =
      let s = then_yes (steps (resolve_domain f) d d.pending) _ e q in
      let b = pointers d in
      let told = settle_steps D b k.outer d.pending d s.0 k.declared.known k.declared.domains s.1 in
      let made : Declared = record {
        known = s.0.known;
        domains = s.0.domains;
        pending = [];
        variables = s.0.variables;
      } in
      let le : b ≤ pointers made = let x = ap length told.domains in let l = length-append d.domains told.more
      in let c = told.count in omega (arith, x, l, c) in
      let x = extends_self D in
      let known : Known f D made = record {
        declared = record {
          known = meanings_more D D x b (pointers made) le s.0.known
              (subst (Each (MeaningKnown D b)) (sym told.known) k.declared.known);
          domains = types_all_more D D x b (pointers made) le s.0.domains told.all;
          variables = types_all_more D D x b (pointers made) le s.0.variables
              (subst (Each (TypeKnown D b)) (sym told.variables) k.declared.variables);
        };
        outer = regions_more D D x b (pointers made) le f.outer k.outer;
      } in
      let result : Made low high r D d made = same_table low low high r D d made told.more [] []
      (omega arith) ordered ends known told.domains (told.variables ∙ sym (append-nil d.variables))
      (told.known ∙ sym (append-nil d.known)) tt in
      subst (λ z. Made low high r D d z × (z.pending ≡ [])) (inside_yes made e s.2) (result, refl)
