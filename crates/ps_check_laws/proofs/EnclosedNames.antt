-- Each name used in an ordinal type that is read is found where the points before it are known: one part after another.
use Rattle.std.proofs.Common.{◌≡◌, ℕ, ◌+◌, false, List, [], ◌∷◌, ◌++◌, length, map, Option, Some, None, is_some, nat_lt}
use Rattle.std.proofs.Common.{refl, sym, ap, ◌∙◌, subst, append_assoc, append-nil, length-append, arith}
use Rattle.std.proofs.lemmas.List.{map-append, length-map}
use Rattle.ps_check.proofs.EachItem.{each_append}
use Rattle.ps_text.specs.declared.Span.{Span}
use Rattle.ps_syntax.specs.First.{first_of_ordinal}
use Rattle.ps_syntax.specs.declared.program.Ordinal as syntax
use Rattle.ps_syntax.specs.declared.program.Ordinal.TheVariants as o
use Rattle.ps_syntax.specs.declared.statement.Constant.{Constant}
use Rattle.ps_syntax.specs.declared.statement.Constant.TheVariants as constants
use Rattle.ps_tree.specs.Types.{DataType, OrdinalType}
use Rattle.ps_tree.specs.declared.types.Ordinal.{Ordinal}
use Rattle.ps_tree.proofs.NameLemmas.{has_place}
use Rattle.ps_check_judgement.specs.Judged.{Yes, steps}
use Rattle.ps_check_judgement.proofs.Binds.{no_yes, inside_yes, then_yes, provided_yes}
use Rattle.ps_check_names.specs.Spelling.{spelled, has, place}
use Rattle.ps_check_names.specs.Regions.{Region, BlockRegion, OwnNames, Point, Meaning, in_own, find_past, find}
use Rattle.ps_check_names.specs.Constants.{ConstantValue, denoted, constant, constant_at, constant_named}
use Rattle.ps_check_names.specs.Constants.{signed_constant}
use Rattle.ps_check_declarations.specs.Points.{Points, all, add_points, new_points}
use Rattle.ps_check_declarations.specs.Denoters as denoters
use Rattle.ps_check_declarations.specs.Denoters.{Frame, Declared, Hidden, FieldsReading, Indices, FieldTypes, regions}
use Rattle.ps_check_declarations.specs.Denoters.{type_named, type_at, ordinal_at, enumerated, constants_from}
use Rattle.ps_check_declarations.specs.Denoters.{subrange_of, index_begins, index_type, fields_of_type, ordinal}
use Rattle.ps_check_declarations.specs.Denoters.{add_fields, record_names, simple_type}
use Rattle.ps_check_declarations.specs.declared.denoters.TheConstants.{CONSTANT_LIMIT}
use Rattle.ps_check_laws.specs.Occurrences.{constant_uses}
use Rattle.ps_check_laws.specs.InDeclarations.{Use, Uses, used, behind, Part, both, no_part, several, defining, using}
use Rattle.ps_check_laws.specs.InDeclarations.{ordinal_part}
use Rattle.ps_check_laws.specs.InDeclarations as uses
use Rattle.ps_check_laws.proofs.New.{Names, are_new, points_append, points_both}
use Rattle.ps_check_laws.proofs.Lists.{Each}

-- ---- names that no region within the block defines

-- the names that are hidden at a place
abbrev pub own_names : Hidden → List Names
own_names hidden = map (λ own. own.0) hidden

abbrev own_regions : Hidden → List Region
own_regions hidden = map (λ own. OwnNames own.0 own.1) hidden

past_own : (hidden : Hidden) (Γ : List Region) (s : List ℕ) (at : ℕ) (q : Point) → find (own_regions hidden ++ Γ) s at
    ≡ Yes q → Each (λ names. has names s ≡ false) (own_names hidden) × (find Γ s at ≡ Yes q)
unfolding find_past
past_own [] Γ s at q e = (tt, e)
past_own (own ∷ hidden) Γ s at q e = inner (past_own hidden Γ s at q) (place own.0 s) refl e
  where
    inner : (find (own_regions hidden ++ Γ) s at ≡ Yes q → Each (λ names. has names s ≡ false) (own_names hidden)
        × (find Γ s at ≡ Yes q)) → (o : Option ℕ) → place own.0 s ≡ o → in_own at own.1 o
        (find (own_regions hidden ++ Γ) s at) ≡ Yes q
        → Each (λ names. has names s ≡ false) (own_names (own ∷ hidden)) × (find Γ s at ≡ Yes q)
    inner next None g h = (let rest = next h in ((sym (has_place own.0 s) ∙ ap is_some g, rest.0), rest.1))
    inner next (Some i) g h = absurd (no_yes h)

-- the names of a record that is read are those of its fields
fields_new : (f : Frame) (N : Names) (hidden : Hidden) (xs : List FieldsReading) (A : Names)
    (s t : FieldTypes × Declared) → N ≡ add_points f.text A (all (map (λ x. x.0) xs)) → length A ≡ length s.0 → steps
    (add_fields f N hidden) s xs ≡ Yes t
    → N ≡ A ++ map (spelled f.text) (all (map (λ x. x.0) xs))
unfolding add_points
fields_new f N hidden [] A s t whole many e = whole ∙ sym (append-nil A)
fields_new f N hidden (x ∷ xs) A s t whole many e =
    let one = then_yes (add_fields f N hidden s x) _ t e in
    let n = then_yes (new_points f.text N [] (length s.0) x.0) _ one.0 one.1 in
    let r = then_yes (x.1 ((N, n.0) ∷ hidden) s.1) _ one.0 n.2 in
    let more : Points = all (map (λ (y : FieldsReading). y.0) xs) in
    let split = points_both f.text x.0 more A in
    let new = are_new f.text N [] (λ B. add_points f.text B more) (points_append f.text more) x.0 A (length s.0) n.0
    (whole ∙ split) many n.1 in
    let mine = map (spelled f.text) x.0 in
    let longer = ap (λ (z : FieldTypes × Declared). length z.0)
    (sym (inside_yes (s.0 ++ fields_of_type r.0.0 x.0, r.0.1) one.0 r.2)) ∙ length-append s.0
    (fields_of_type r.0.0 x.0) in
    let types = length-map x.0 (λ at. r.0.0) in
    let names = length-map x.0 (spelled f.text) in
    let l = length-append A mine in
    fields_new f N hidden xs (A ++ mine) one.0 t (whole ∙ split ∙ ap (λ B. add_points f.text B more) new.added)
    (omega (arith, many, longer, types, names, l)) one.2
    ∙ append_assoc A mine (map (spelled f.text) more) ∙ ap (λ l. A ++ l) (sym (map-append (spelled f.text) x.0 more))

pub record_names_are : (f : Frame) (xs : List FieldsReading) (hidden : Hidden) (d : Declared)
    (t : FieldTypes × Declared)
    → steps (add_fields f (record_names f xs) hidden) ([], d) xs ≡ Yes t → record_names f xs ≡ map (spelled f.text)
    (all (map (λ x. x.0) xs))
unfolding record_names
record_names_are f xs hidden d t e = fields_new f (record_names f xs) hidden xs [] ([], d) t refl refl e

module _ (f : Frame) where
  abbrev IsFree : Span → Points → Type 0
  IsFree name names = has (map (spelled f.text) names) (spelled f.text name) ≡ false

  -- a use is found where the points before it are known: they are the first of those at the end, and n of them come
  -- before the part
  pub record Known (hidden : List Names) (final : List Meaning) (n : ℕ) (u : Use) : Type 0 where
    pub known : List Meaning
    pub more : List Meaning
    pub longer : final ≡ known ++ more
    pub count : length known ≡ n + u.before
    pub free : Each (IsFree u.name) u.enclosing
    pub unhidden : Each (λ names. has names (spelled f.text u.name) ≡ false) hidden
    pub point : Point
    pub found : find (BlockRegion f.routine f.names known ∷ f.outer) (spelled f.text u.name) u.name.from ≡ Yes point

  abbrev pub AllKnown : List Names → List Meaning → ℕ → Uses → Type 0
  AllKnown hidden final n us = Each (Known hidden final n) us

  pub known_later : (hidden : List Names) (final whole more : List Meaning) (n : ℕ) (us : Uses) → whole ≡ final ++ more
      → AllKnown hidden final n us → AllKnown hidden whole n us
  known_later hidden final whole more n [] e t = tt
  known_later hidden final whole more n (u ∷ us) e t = (
    record {
      known = t.0.known;
      more = t.0.more ++ more;
      longer = e ∙ ap (λ l. l ++ more) t.0.longer ∙ append_assoc t.0.known t.0.more more;
      count = t.0.count;
      free = t.0.free;
      unhidden = t.0.unhidden;
      point = t.0.point;
      found = t.0.found;
    },
    known_later hidden final whole more n us e t.1,
  )

  known_behind : (hidden : List Names) (final : List Meaning) (m n k : ℕ) (us : Uses) → m ≡ n + k
      → AllKnown hidden final m us → AllKnown hidden final n (behind k us)
  known_behind hidden final m n k [] e t = tt
  known_behind hidden final m n k (u ∷ us) e t = (
    record {
      known = t.0.known;
      more = t.0.more;
      longer = t.0.longer;
      count = (let c = t.0.count in omega (arith, c, e));
      free = t.0.free;
      unhidden = t.0.unhidden;
      point = t.0.point;
      found = t.0.found;
    },
    known_behind hidden final m n k us e t.1,
  )

  -- where less is hidden
  pub known_unhidden : (hidden : List Names) (final : List Meaning) (n : ℕ) (us : Uses) → AllKnown hidden final n us
      → AllKnown [] final n us
  known_unhidden hidden final n [] t = tt
  known_unhidden hidden final n (u ∷ us) t = (
    record {
      known = t.0.known;
      more = t.0.more;
      longer = t.0.longer;
      count = t.0.count;
      free = t.0.free;
      unhidden = tt;
      point = t.0.point;
      found = t.0.found;
    },
    known_unhidden hidden final n us t.1,
  )

  pub known_inside : (hidden : List Names) (final : List Meaning) (n : ℕ) (names : Points) (us : Uses) → AllKnown
      (map (spelled f.text) names ∷ hidden) final n us → AllKnown hidden final n (uses.inside names us)
  known_inside hidden final n names [] t = tt
  known_inside hidden final n names (u ∷ us) t = (
    record {
      known = t.0.known;
      more = t.0.more;
      longer = t.0.longer;
      count = t.0.count;
      free = each_append (IsFree u.name) u.enclosing (names ∷ []) t.0.free (t.0.unhidden.0, tt);
      unhidden = t.0.unhidden.1;
      point = t.0.point;
      found = t.0.found;
    },
    known_inside hidden final n names us t.1,
  )

  -- what a part of the declarations makes known, and its uses
  pub record Reads (hidden : List Names) (d : Declared) (p : Part) (e : Declared) : Type 0 where
    pub more : List Meaning
    pub longer : e.known ≡ d.known ++ more
    pub many : length more ≡ p.points
    pub uses : AllKnown hidden e.known (length d.known) p.uses

  pub reads_none : (hidden : List Names) (d : Declared) → Reads hidden d no_part d
  reads_none hidden d = record { more = []; longer = sym (append-nil d.known); many = refl; uses = tt }

  -- that many more are known
  pub reads_defining : (hidden : List Names) (d e : Declared) (more : List Meaning) (n : ℕ) → e.known ≡ d.known ++ more
      → length more ≡ n → Reads hidden d (defining n) e
  reads_defining hidden d e more n is many = record { more = more; longer = is; many = many; uses = tt }

  pub reads_using : (hidden : List Names) (d : Declared) (us : Uses) → AllKnown hidden d.known (length d.known) us
      → Reads hidden d (record {
        points = 0;
        uses = us;
      }) d
  reads_using hidden d us t = record { more = []; longer = sym (append-nil d.known); many = refl; uses = t }

  pub reads_unhidden : (hidden : List Names) (d : Declared) (p : Part) (e : Declared) → Reads hidden d p e
      → Reads [] d p e
  reads_unhidden hidden d p e t = record {
    more = t.more;
    longer = t.longer;
    many = t.many;
    uses = known_unhidden hidden e.known (length d.known) p.uses t.uses;
  }

  pub reads_both : (hidden : List Names) (d e g : Declared) (a b : Part) → Reads hidden d a e → Reads hidden e b g
      → Reads hidden d (both a b) g
  reads_both hidden d e g a b x y =
      let many_a = x.many in
      let many_b = y.many in
      let l = length-append x.more y.more in
      let count : length e.known ≡ length d.known + a.points =
      (let k = ap length x.longer in let m = length-append d.known x.more in omega (arith, k, m, many_a)) in
      record {
        more = x.more ++ y.more;
        longer = y.longer ∙ ap (λ l. l ++ y.more) x.longer ∙ append_assoc d.known x.more y.more;
        many = omega (arith, l, many_a, many_b);
        uses = each_append (Known hidden g.known (length d.known)) a.uses (behind a.points b.uses)
            (known_later hidden e.known g.known y.more (length d.known) a.uses y.longer x.uses)
            (known_behind hidden g.known (length e.known) (length d.known) a.points b.uses count y.uses);
      }

  pub reads_at : {A : Type 0} (hidden : List Names) (d : Declared) (p : Part) (x y : A × Declared) → Yes x ≡ Yes y
      → Reads hidden d p x.1 → Reads hidden d p y.1
  reads_at hidden d p x y e a = subst (λ (z : _ × Declared). Reads hidden d p z.1) (inside_yes x y e) a

  -- ---- names and constants

  pub one_known : (hidden : Hidden) (known : List Meaning) (name : Span) (q : Point) → find (regions f hidden known)
      (spelled f.text name) name.from ≡ Yes q → Known (own_names hidden) known (length known) (used name)
  one_known hidden known name q e =
      let t = past_own hidden (BlockRegion f.routine f.names known ∷ f.outer) (spelled f.text name) name.from q e in
      record {
        known = known;
        more = [];
        longer = sym (append-nil known);
        count = omega arith;
        free = tt;
        unhidden = t.0;
        point = q;
        found = t.1;
      }

  pub constant_known : (hidden : Hidden) (known : List Meaning) (k : Constant) (v : ConstantValue) → constant f.text
      (regions f hidden known) k ≡ Yes v → AllKnown (own_names hidden) known (length known) (map used (constant_uses k))
  unfolding constant constant_uses
  constant_known hidden known (constants.Number sign at) v e = tt
  constant_known hidden known (constants.Name sign at) v e =
      let w = then_yes (constant_named f.text (regions f hidden known) at) (signed_constant at.from sign) v e in
      let q = then_yes (denoted f.text (regions f hidden known) at) (constant_at at.from) w.0 w.1 in
      (one_known hidden known at q.0 q.1, tt)
  constant_known hidden known (constants.Text at) v e = tt

  used_both : (hidden : List Names) (known : List Meaning) (xs ys : Points) → AllKnown hidden known (length known)
      (map used xs) → AllKnown hidden known (length known) (map used ys) → AllKnown hidden known (length known)
      (map used (xs ++ ys))
  used_both hidden known [] ys a b = b
  used_both hidden known (x ∷ xs) ys a b = (a.0, used_both hidden known xs ys a.1 b)

  constants_many : (x : Ordinal) (n : ℕ) (names : Points) → length (constants_from x n names) ≡ length names
  constants_many x n [] = refl
  constants_many x n (name ∷ names) = (let r = constants_many x (n + 1) names in omega (arith, r))

  -- ---- ordinal types

  pub ordinal_reads : (hidden : Hidden) (d : Declared) (x : syntax.Ordinal) (r : Ordinal × Declared)
      → ordinal f hidden d x
      ≡ Yes r → Reads (own_names hidden) d (ordinal_part x) r.1
  unfolding ordinal ordinal_part
  ordinal_reads hidden d (o.Name at) r e =
      let t = then_yes (type_named f.text (regions f hidden d.known) at) _ r e in
      let q = then_yes (ordinal_at at.from t.0) _ r t.2 in
      let w = then_yes (denoted f.text (regions f hidden d.known) at) (type_at at.from) t.0 t.1 in
      reads_at (own_names hidden) d (using (at ∷ [])) (q.0, d) r q.2
      (reads_using (own_names hidden) d (used at ∷ []) (one_known hidden d.known at w.0 w.1, tt))
  ordinal_reads hidden d (o.Enumeration at names) r e =
      let made : Ordinal × Declared = (
        enumerated at.from (length names),
        denoters.with_known d
            (d.known ++ constants_from (enumerated at.from (length names)) 0 names),
      ) in
      let n = then_yes (new_points f.text f.names f.begun (length d.known) names) _ r e in
      let q = provided_yes (nat_lt (length names) CONSTANT_LIMIT) _ _ made r n.2 in
      reads_at (own_names hidden) d (defining (length names)) made r (ap (λ z. Yes z) q.1)
      (reads_defining (own_names hidden) d made.1 (constants_from (enumerated at.from (length names)) 0 names)
      (length names) refl (constants_many (enumerated at.from (length names)) 0 names))
  ordinal_reads hidden d (o.Subrange low high) r e =
      let q = then_yes (subrange_of f hidden d.known (first_of_ordinal (o.Subrange low high)) low high) _ r e in
      let a = then_yes (constant f.text (regions f hidden d.known) low) _ q.0 q.1 in
      let b = then_yes (constant f.text (regions f hidden d.known) high) _ q.0 a.2 in
      reads_at (own_names hidden) d (using (constant_uses low ++ constant_uses high)) (q.0, d) r q.2
      (reads_using (own_names hidden) d (map used (constant_uses low ++ constant_uses high))
      (used_both (own_names hidden) d.known (constant_uses low) (constant_uses high)
      (constant_known hidden d.known low a.0 a.1) (constant_known hidden d.known high b.0 b.1)))

  pub indices_read : (hidden : Hidden) (at : ℕ) (xs : List syntax.Ordinal) (s t : Indices × Declared) → steps
      (index_type f hidden at) s xs ≡ Yes t → Reads (own_names hidden) s.1 (several (map ordinal_part xs)) t.1
  indices_read hidden at [] s t e = reads_at (own_names hidden) s.1 no_part s t e (reads_none (own_names hidden) s.1)
  indices_read hidden at (x ∷ xs) s t e =
      let one = then_yes (index_type f hidden at s x) _ t e in
      let r = then_yes (ordinal f hidden s.1 x) _ one.0 one.1 in
      reads_both (own_names hidden) s.1 one.0.1 t.1 (ordinal_part x) (several (map ordinal_part xs))
      (reads_at (own_names hidden) s.1 (ordinal_part x)
      (s.0 ++ (index_begins at s.0 x, r.0.0) ∷ [], r.0.1) one.0 r.2 (ordinal_reads hidden s.1 x r.0 r.1))
      (indices_read hidden at xs one.0 t one.2)

  pub simple_reads : (hidden : Hidden) (d : Declared) (x : syntax.Ordinal) (r : DataType × Declared)
      → simple_type f hidden d x ≡ Yes r → Reads (own_names hidden) d (ordinal_part x) r.1
  unfolding simple_type ordinal_part
  simple_reads hidden d (o.Name at) r e =
      let t = then_yes (type_named f.text (regions f hidden d.known) at) _ r e in
      let w = then_yes (denoted f.text (regions f hidden d.known) at) (type_at at.from) t.0 t.1 in
      reads_at (own_names hidden) d (using (at ∷ [])) (t.0, d) r t.2
      (reads_using (own_names hidden) d (used at ∷ []) (one_known hidden d.known at w.0 w.1, tt))
  simple_reads hidden d (o.Enumeration at names) r e =
      let t = then_yes (ordinal f hidden d (o.Enumeration at names)) _ r e in
      reads_at (own_names hidden) d (ordinal_part (o.Enumeration at names)) (OrdinalType t.0.0, t.0.1) r t.2
      (ordinal_reads hidden d (o.Enumeration at names) t.0 t.1)
  simple_reads hidden d (o.Subrange low high) r e =
      let t = then_yes (ordinal f hidden d (o.Subrange low high)) _ r e in
      reads_at (own_names hidden) d (ordinal_part (o.Subrange low high)) (OrdinalType t.0.0, t.0.1) r t.2
      (ordinal_reads hidden d (o.Subrange low high) t.0 t.1)
