-- The routines of a block: which points they are, what they give their names, and in which regions their blocks are
-- read.
use Rattle.std.proofs.Common.{◌≡◌, ℕ, zero, suc, ◌+◌, Bool, true, false, ◌||◌, if◌then◌else◌, cond, List, []}
use Rattle.std.proofs.Common.{◌∷◌, ◌++◌, length, map, take, drop, Option, Some, None, slice_get, option_map}
use Rattle.std.proofs.Common.{refl, sym, ap, ◌∙◌, subst, append_assoc, append-nil, arith}
use Rattle.std.specs.List.{position_from}
use Rattle.std.proofs.lemmas.List.{map-append}
use Rattle.std.proofs.lemmas.Option.{same_Some}
use Rattle.std.proofs.Math.Bool.{or-true}
use Rattle.ps_check_judgement.proofs.Impossible.{never, none_some}
use Rattle.ps_check_judgement.proofs.Items.{get_stays}
use Rattle.ps_syntax.specs.declared.program.Heading as syntax
use Rattle.ps_syntax.specs.declared.program.Block as syntax_block
use Rattle.ps_syntax.specs.declared.program.Routine.{Routine, out-Routine, roll-Routine, roll-out-Routine}
use Rattle.ps_syntax.specs.declared.program.Routine.TheOpen.{Routine-F}
use Rattle.ps_syntax.specs.declared.program.Routine.TheFolds.{fold-roll-Routine}
use Rattle.ps_check_names.specs.Spelling.{spelled, same, has}
use Rattle.ps_check_names.specs.Regions.{Context}
use Rattle.ps_check_names.proofs.SpellingLemmas.{same_equal, same_itself}
use Rattle.ps_check.specs.Readings.{RoutineReading, BlockReading, heading_name}
use Rattle.ps_check.specs.Blocks.{routine_step, block_step, block, routine}
use Rattle.ps_check.specs.Paths.{layer_block, routine_block}
use Rattle.ps_check_laws.specs.Definitions.{InPart, layer_name, routine_name, layer_heading, routine_heading}
use Rattle.ps_check_laws.specs.Definitions.{routine_names, introduced_from, introduced}
use Rattle.ps_check_laws.specs.Denoting as denoting
use Rattle.ps_check_laws.specs.Denoting.{Count, count_step, counted, routine_count, headings_within}
use Rattle.ps_check_laws.proofs.Lists.{get_at, get_last, take_length, take_next}
use Rattle.ps_check_laws.proofs.Lists.{take_drop}

-- ---- spellings

next_place : (s : List ℕ) (n : ℕ) (x : List ℕ) (xs : List (List ℕ)) (i : ℕ) (b : Bool) → same s x ≡ b → cond b (Some n)
    (position_from (same s) (n + 1) xs) ≡ Some i
    → (position_from (same s) (n + 1) xs ≡ Some i → (m : ℕ) × (i ≡ (n + 1) + m) × (slice_get xs m ≡ Some s)) → (m : ℕ)
    × (i ≡ n + m) × (slice_get (x ∷ xs) m ≡ Some s)
next_place s n x xs i true q e further = (
  0,
  sym (same_Some n i e)
      ∙ (let z : n ≡ n + 0 = omega arith in z),
  ap (λ y. Some y) (sym (same_equal s x q)),
)
next_place s n x xs i false q e further = let r = further e in (suc r.0, (let z = r.1 in omega (arith, z)), r.2)

-- the name at the place of a spelling is that spelling
pub placed : (s : List ℕ) (n : ℕ) (xs : List (List ℕ)) (i : ℕ) → position_from (same s) n xs ≡ Some i → (m : ℕ)
    × (i ≡ n + m) × (slice_get xs m ≡ Some s)
placed s n [] i e = absurd (none_some e)
placed s n (x ∷ xs) i e = next_place s n x xs i (same s x) refl e (placed s (n + 1) xs i)

-- ---- routines of the tree

module _ (c : Context) where
  pub record ReadAs (x : Routine) : Type 0 where
    pub name : (routine c x).name ≡ routine_name x
    pub heading : (routine c x).heading ≡ routine_heading x
    pub block_is : (routine c x).block ≡ option_map (block c) (routine_block x)

  read_at : (x : Routine) (y : Routine-F Routine syntax_block.Block) → out-Routine x ≡ y → ReadAs x
  unfolding routine_step routine_name routine_heading routine_block
  read_at x (Routine-F.Whole h b) o =
      let is = ap (routine c) (sym (roll-out-Routine x) ∙ ap roll-Routine o)
      ∙ fold-roll-Routine RoutineReading BlockReading routine_step (block_step c) (Routine-F.Whole h b) in
      record {
        name = ap (λ (r : RoutineReading). r.name) is ∙ ap layer_name (sym o);
        heading = ap (λ (r : RoutineReading). r.heading) is ∙ ap layer_heading (sym o);
        block_is = ap (λ (r : RoutineReading). r.block) is ∙ ap (λ y. option_map (block c) (layer_block y)) (sym o);
      }
  read_at x (Routine-F.Forward h) o =
      let is = ap (routine c) (sym (roll-out-Routine x) ∙ ap roll-Routine o)
      ∙ fold-roll-Routine RoutineReading BlockReading routine_step (block_step c) (Routine-F.Forward h) in
      record {
        name = ap (λ (r : RoutineReading). r.name) is ∙ ap layer_name (sym o);
        heading = ap (λ (r : RoutineReading). r.heading) is ∙ ap layer_heading (sym o);
        block_is = ap (λ (r : RoutineReading). r.block) is ∙ ap (λ y. option_map (block c) (layer_block y)) (sym o);
      }
  read_at x (Routine-F.Completion name b) o =
      let is = ap (routine c) (sym (roll-out-Routine x) ∙ ap roll-Routine o)
      ∙ fold-roll-Routine RoutineReading BlockReading routine_step (block_step c) (Routine-F.Completion name b) in
      record {
        name = ap (λ (r : RoutineReading). r.name) is ∙ ap layer_name (sym o);
        heading = ap (λ (r : RoutineReading). r.heading) is ∙ ap layer_heading (sym o);
        block_is = ap (λ (r : RoutineReading). r.block) is ∙ ap (λ y. option_map (block c) (layer_block y)) (sym o);
      }

  pub read : (x : Routine) → ReadAs x
  read x = read_at x (out-Routine x) refl

-- the name of a heading is that of its routine
pub heading_named : (x : Routine) (y : Routine-F Routine syntax_block.Block) (h : syntax.Heading) → out-Routine x ≡ y
    → routine_heading x ≡ Some h → routine_name x ≡ heading_name h
unfolding routine_name routine_heading
heading_named x (Routine-F.Whole g b) h o e = ap layer_name o ∙ ap heading_name
    (same_Some g h (sym (ap layer_heading o) ∙ e))
heading_named x (Routine-F.Forward g) h o e = ap layer_name o ∙ ap heading_name
    (same_Some g h (sym (ap layer_heading o) ∙ e))
heading_named x (Routine-F.Completion name b) h o e = absurd (none_some (sym (ap layer_heading o) ∙ e))

module _ (text : List ℕ) where
  abbrev pub inner_count : Option syntax_block.Block → ℕ
  inner_count None = 0
  inner_count (Some b) = headings_within text b

  pub record CountIs (x : Routine) : Type 0 where
    pub name : (routine_count text x).0 ≡ routine_name x
    pub inner : (routine_count text x).1 ≡ inner_count (routine_block x)

  count_at : (x : Routine) (y : Routine-F Routine syntax_block.Block) → out-Routine x ≡ y → CountIs x
  unfolding routine_name routine_block
  count_at x (Routine-F.Whole h b) o =
      let is = ap (routine_count text) (sym (roll-out-Routine x) ∙ ap roll-Routine o)
      ∙ fold-roll-Routine Count ℕ count_step (denoting.block_step text) (Routine-F.Whole h b) in
      record {
        name = ap (λ (r : Count). r.0) is ∙ ap layer_name (sym o);
        inner = ap (λ (r : Count). r.1) is ∙ ap (λ y. inner_count (layer_block y)) (sym o);
      }
  count_at x (Routine-F.Forward h) o =
      let is = ap (routine_count text) (sym (roll-out-Routine x) ∙ ap roll-Routine o)
      ∙ fold-roll-Routine Count ℕ count_step (denoting.block_step text) (Routine-F.Forward h) in
      record {
        name = ap (λ (r : Count). r.0) is ∙ ap layer_name (sym o);
        inner = ap (λ (r : Count). r.1) is ∙ ap (λ y. inner_count (layer_block y)) (sym o);
      }
  count_at x (Routine-F.Completion name b) o =
      let is = ap (routine_count text) (sym (roll-out-Routine x) ∙ ap roll-Routine o)
      ∙ fold-roll-Routine Count ℕ count_step (denoting.block_step text) (Routine-F.Completion name b) in
      record {
        name = ap (λ (r : Count). r.0) is ∙ ap layer_name (sym o);
        inner = ap (λ (r : Count). r.1) is ∙ ap (λ y. inner_count (layer_block y)) (sym o);
      }

  pub count_is : (x : Routine) → CountIs x
  count_is x = count_at x (out-Routine x) refl

  -- ---- the routines that are introduced

  abbrev pub sp : Routine → List ℕ
  sp x = spelled text (routine_name x)

  pub introduced_append : (before : List InPart) (k : ℕ) (xs ys : List Routine) → introduced_from text before k
      (xs ++ ys) ≡ introduced_from text (introduced_from text before k xs) (k + length xs) ys
  unfolding introduced_from
  introduced_append before k [] ys = let z : k ≡ k + 0 = omega arith in ap (λ n. introduced_from text before n ys) z
  introduced_append before k (x ∷ xs) ys = at (has (routine_names text before) (sp x))
      (introduced_append before (k + 1) xs ys) (introduced_append (before ++ (k, x) ∷ []) (k + 1) xs ys)
    where
      at : (b : Bool) → introduced_from text before (k + 1) (xs ++ ys) ≡ introduced_from text
          (introduced_from text before (k + 1) xs) ((k + 1) + length xs) ys
          → introduced_from text (before ++ (k, x) ∷ []) (k + 1) (xs ++ ys) ≡ introduced_from text
          (introduced_from text (before ++ (k, x) ∷ []) (k + 1) xs) ((k + 1) + length xs) ys
          → (if b then introduced_from text before (k + 1) (xs ++ ys) else introduced_from text (before ++ (k, x) ∷ [])
          (k + 1) (xs ++ ys))
          ≡ introduced_from text (if b then introduced_from text before (k + 1) xs else introduced_from text
          (before ++ (k, x) ∷ []) (k + 1) xs) (k + suc (length xs)) ys
      at true p q = p ∙ (let z : (k + 1) + length xs ≡ k + suc (length xs) = omega arith
          in ap (λ n. introduced_from text (introduced_from text before (k + 1) xs) n ys) z)
      at false p q = q ∙ (let z : (k + 1) + length xs ≡ k + suc (length xs) = omega arith
          in ap (λ n. introduced_from text (introduced_from text (before ++ (k, x) ∷ []) (k + 1) xs) n ys) z)

  -- those that come before are the first
  pub introduced_more : (before : List InPart) (k : ℕ) (xs : List Routine) → (more : List InPart)
      × (introduced_from text before k xs ≡ before ++ more)
  unfolding introduced_from
  introduced_more before k [] = ([], sym (append-nil before))
  introduced_more before k (x ∷ xs) = at (has (routine_names text before) (sp x)) (introduced_more before (k + 1) xs)
      (introduced_more (before ++ (k, x) ∷ []) (k + 1) xs)
    where
      at : (b : Bool) → ((more : List InPart) × (introduced_from text before (k + 1) xs ≡ before ++ more))
          → ((more : List InPart) × (introduced_from text (before ++ (k, x) ∷ []) (k + 1) xs ≡ (before ++ (k, x) ∷ [])
          ++ more))
          → (more : List InPart) × ((if b then introduced_from text before (k + 1) xs else introduced_from text
          (before ++ (k, x) ∷ []) (k + 1) xs) ≡ before ++ more)
      at true p q = p
      at false p q = ((k, x) ∷ q.0, q.1 ∙ append_assoc before ((k, x) ∷ []) q.0)

  abbrev pub next_of : List InPart → ℕ → Routine → List InPart
  next_of I k x = if has (routine_names text I) (sp x) then I else I ++ (k, x) ∷ []

  pub introduced_last : (done : List Routine) (x : Routine) → introduced text (done ++ x ∷ []) ≡ next_of
      (introduced text done) (length done) x
  unfolding introduced_from
  introduced_last done x = introduced_append [] 0 done (x ∷ [])
      ∙ (let z : 0 + length done ≡ length done = omega arith
      in ap (λ n. introduced_from text (introduced text done) n (x ∷ [])) z)

  pub names_last : (I : List InPart) (k : ℕ) (x : Routine) → routine_names text (I ++ (k, x) ∷ [])
      ≡ routine_names text I ++ sp x ∷ []
  unfolding routine_names
  names_last I k x = map-append (λ (r : InPart). spelled text (routine_name r.1)) I ((k, x) ∷ [])

  -- ---- one routine is introduced for a name

  has_itself : (I : List InPart) (a : ℕ) (p : InPart) (s : List ℕ) → slice_get I a ≡ Some p → sp p.1 ≡ s → has
      (routine_names text I) s ≡ true
  unfolding routine_names
  has_itself [] a p s e q = absurd (none_some e)
  has_itself (y ∷ I) zero p s e q = ap (λ b. b || has (routine_names text I) s)
      (ap (same s) (ap (λ (z : InPart). sp z.1) (same_Some y p e) ∙ q) ∙ same_itself s)
  has_itself (y ∷ I) (suc a) p s e q = ap (λ b. same s (sp y.1) || b) (has_itself I a p s e q) ∙ or-true
      (same s (sp y.1))

  abbrev Apart : List InPart → Type 0
  Apart I = (a b : ℕ) (p q : InPart) → slice_get I a ≡ Some p → slice_get I b ≡ Some q → sp p.1 ≡ sp q.1 → a ≡ b

  one_more_apart : (I : List InPart) (k : ℕ) (x : Routine) → has (routine_names text I) (sp x) ≡ false → Apart I → Apart
      (I ++ (k, x) ∷ [])
  one_more_apart I k x new apart a b p q e g s =
      get_last I (k, x) a p (a ≡ b) e
      (λ old. get_last I (k, x) b q (a ≡ b) g
      (λ old_too. apart a b p q old old_too s)
      (λ n is. never (sym new ∙ has_itself I a p (sp x) old (s ∙ ap (λ (z : InPart). sp z.1) (sym is)))))
      (λ n is. get_last I (k, x) b q (a ≡ b) g
      (λ old_too. never (sym new ∙ has_itself I b q (sp x) old_too (sym s ∙ ap (λ (z : InPart). sp z.1) (sym is))))
      (λ m is_too. n ∙ sym m))

  introduced_apart : (I : List InPart) (k : ℕ) (xs : List Routine) → Apart I → Apart (introduced_from text I k xs)
  unfolding introduced_from
  introduced_apart I k [] apart = apart
  introduced_apart I k (x ∷ xs) apart = at (has (routine_names text I) (sp x)) refl
      (introduced_apart I (k + 1) xs apart) (λ more. introduced_apart (I ++ (k, x) ∷ []) (k + 1) xs more)
    where
      at : (b : Bool) → has (routine_names text I) (sp x) ≡ b → Apart (introduced_from text I (k + 1) xs)
          → (Apart (I ++ (k, x) ∷ []) → Apart (introduced_from text (I ++ (k, x) ∷ []) (k + 1) xs)) → Apart
          (if b then introduced_from text I (k + 1) xs else introduced_from text (I ++ (k, x) ∷ []) (k + 1) xs)
      at true e old new = old
      at false e old new = new (one_more_apart I k x e apart)

  pub one_introduced : (xs : List Routine) (a b : ℕ) (p q : InPart) → slice_get (introduced text xs) a ≡ Some p
      → slice_get (introduced text xs) b ≡ Some q → sp p.1 ≡ sp q.1 → p ≡ q
  one_introduced xs a b p q e g s =
      let n = introduced_apart [] 0 xs (λ a b p q e g s. absurd (none_some e)) a b p q e g s in
      same_Some p q (sym e ∙ ap (slice_get (introduced text xs)) n ∙ g)

  -- a routine whose name has none before is introduced
  pub introduced_there : (xs : List Routine) (k : ℕ) (x : Routine) → slice_get xs k ≡ Some x → has
      (routine_names text (introduced text (take k xs))) (sp x) ≡ false → (a : ℕ)
      × (slice_get (introduced text xs) a ≡ Some (k, x))
  introduced_there xs k x e new =
      let I = introduced text (take k xs) in
      let there : introduced text (take (suc k) xs) ≡ I ++ (k, x) ∷ [] = ap (introduced text) (take_next xs k x e)
      ∙ introduced_last (take k xs) x ∙ ap (λ b. if b then I else I ++ (length (take k xs), x) ∷ []) new
      ∙ ap (λ n. I ++ (n, x) ∷ []) (take_length xs k x e) in
      let further = introduced_more (introduced text (take (suc k) xs)) (0 + length (take (suc k) xs)) (drop (suc k) xs)
      in
      let whole : introduced text xs ≡ introduced text (take (suc k) xs) ++ further.0 = ap (introduced text)
      (sym (take_drop (suc k) xs)) ∙ introduced_append [] 0 (take (suc k) xs) (drop (suc k) xs) ∙ further.1 in (
        length I,
        ap (λ l. slice_get l (length I)) (whole ∙ ap (λ l. l ++ further.0) there) ∙ get_stays
            (I ++ (k, x) ∷ []) further.0 (length I) (k, x) (get_at I (k, x) []),
      )

  -- ---- the number of headings

  -- 1 if the routine introduces its name
  abbrev pub own : List InPart → Routine → ℕ
  own I x = if has (routine_names text I) (sp x) then 0 else 1

  abbrev pub counts : List Routine → List Count
  counts xs = map (routine_count text) xs

  counted_step : (before : List (List ℕ)) (x : Routine) (xs : List Routine) → counted text before (counts (x ∷ xs))
      ≡ (if has before (sp x) then (routine_count text x).1 + counted text before (counts xs) else suc
      ((routine_count text x).1 + counted text (before ++ sp x ∷ []) (counts xs)))
  unfolding counted
  counted_step before x xs = ap (λ n. if has before (spelled text n) then (routine_count text x).1 + counted text before
      (counts xs) else suc ((routine_count text x).1 + counted text (before ++ spelled text n ∷ []) (counts xs)))
      (count_is x).name

  pub counted_none : (before : List (List ℕ)) → counted text before [] ≡ 0
  unfolding counted
  counted_none before = refl

  abbrev pub Last : List InPart → ℕ → List Routine → Routine → Type 0
  Last B k xs x = counted text (routine_names text B) (counts (xs ++ x ∷ [])) ≡ counted text (routine_names text B)
      (counts xs) + ((routine_count text x).1 + own (introduced_from text B k xs) x)

  last_none : (B : List InPart) (k : ℕ) (x : Routine) (b : Bool) → has (routine_names text B) (sp x) ≡ b
      → (if b then (routine_count text x).1 + counted text (routine_names text B) [] else suc
      ((routine_count text x).1 + counted text (routine_names text B ++ sp x ∷ []) [])) ≡ counted text
      (routine_names text B) [] + ((routine_count text x).1 + (if b then 0 else 1))
  last_none B k x true e = let z = counted_none (routine_names text B) in omega (arith, z)
  last_none B k x false e = let z = counted_none (routine_names text B) in let y = counted_none
      (routine_names text B ++ sp x ∷ []) in omega (arith, z, y)

  pub counted_last : (B : List InPart) (k : ℕ) (xs : List Routine) (x : Routine) → Last B k xs x
  unfolding introduced_from
  counted_last B k [] x = counted_step (routine_names text B) x [] ∙ last_none B k x
      (has (routine_names text B) (sp x)) refl
  counted_last B k (y ∷ xs) x =
      counted_step (routine_names text B) y (xs ++ x ∷ []) ∙ at (has (routine_names text B) (sp y))
      (counted_last B (k + 1) xs x)
      (subst (λ l. counted text l (counts (xs ++ x ∷ [])) ≡ counted text l (counts xs)
      + ((routine_count text x).1 + own (introduced_from text (B ++ (k, y) ∷ []) (k + 1) xs) x)) (names_last B k y)
      (counted_last (B ++ (k, y) ∷ []) (k + 1) xs x))
      ∙ ap (λ n. n + ((routine_count text x).1 + own (introduced_from text B k (y ∷ xs)) x))
      (sym (counted_step (routine_names text B) y xs))
    where
      at : (b : Bool) → Last B (k + 1) xs x
          → counted text (routine_names text B ++ sp y ∷ []) (counts (xs ++ x ∷ [])) ≡ counted text
          (routine_names text B ++ sp y ∷ []) (counts xs)
          + ((routine_count text x).1 + own (introduced_from text (B ++ (k, y) ∷ []) (k + 1) xs) x)
          → (if b then (routine_count text y).1 + counted text (routine_names text B) (counts (xs ++ x ∷ [])) else suc
          ((routine_count text y).1 + counted text (routine_names text B ++ sp y ∷ []) (counts (xs ++ x ∷ []))))
          ≡ (if b then (routine_count text y).1 + counted text (routine_names text B) (counts xs) else suc
          ((routine_count text y).1 + counted text (routine_names text B ++ sp y ∷ []) (counts xs)))
          + ((routine_count text x).1 + own (if b then introduced_from text B (k + 1) xs else introduced_from text
          (B ++ (k, y) ∷ []) (k + 1) xs) x)
      at true p q = omega (arith, p)
      at false p q = omega (arith, q)
