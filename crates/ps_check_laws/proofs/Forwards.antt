-- The forward headings of a block: while its routines are read, those without a block are the ones whose block hasn't
-- come; at its end all have come.
use Rattle.std.proofs.Common.{◌≡◌, ℕ, zero, suc, ◌<◌, ◌≤◌, Bool, true, false, ◌&&◌, not, if◌then◌else◌, List, [], ◌∷◌}
use Rattle.std.proofs.Common.{◌++◌, length, map, take, nat_eq, Option, Some, None, is_some, is_none, option_map}
use Rattle.std.proofs.Common.{slice_get, refl, sym, ap, ◌∙◌, subst, append_assoc, append-nil, eqb-true, eq-eqb, arith}
use Rattle.std.proofs.lemmas.Option.{slice_get_within, same_Some}
use Rattle.ps_tree.proofs.Booleans.{and_first, and_second}
use Rattle.ps_syntax.specs.declared.program.Heading as syntax
use Rattle.ps_syntax.specs.declared.program.Block as syntax_block
use Rattle.ps_syntax.specs.declared.program.Routine.{Routine, out-Routine}
use Rattle.ps_syntax.specs.declared.program.Routine.TheOpen.{Routine-F}
use Rattle.ps_tree.specs.Tree as Tree
use Rattle.ps_check_judgement.specs.declared.refusal.Rule.TheVariants.{ForwardOpen}
use Rattle.ps_check_judgement.specs.Judged.{Yes, steps}
use Rattle.ps_check_judgement.proofs.Binds.{inside_yes, then_yes, holds_yes}
use Rattle.ps_check_judgement.proofs.Impossible.{never, none_some}
use Rattle.ps_check_judgement.proofs.Items.{there_is, get_stays}
use Rattle.ps_check_names.specs.Spelling.{place}
use Rattle.ps_check_names.specs.Regions.{Region, Meaning, RoutineMeaning, Heading, Context}
use Rattle.ps_check.specs.Readings.{Gathered, Routines, is_bare, is_name_alone}
use Rattle.ps_check.specs.Forwards.{may_complete, add_routine, add_routines, is_vacant, is_open, is_same_kind}
use Rattle.ps_check.specs.Forwards.{one_complete, all_complete}
use Rattle.ps_check.specs.Blocks.{hidden_in_heading, one_routine, block, routine}
use Rattle.ps_check.specs.Paths.{layer_block, routine_block}
use Rattle.ps_check_laws.specs.Definitions.{Declaration, Declarations, Definition, OfDeclaration, layer_heading}
use Rattle.ps_check_laws.specs.Definitions.{routine_heading, introduced_from, names_of}
use Rattle.ps_check_laws.specs.Forward.{is_function, layer_completes, Completes, HasBlock, AreCompleted}
use Rattle.ps_check_laws.proofs.Lists.{get_left, get_at}
use Rattle.ps_check_laws.proofs.Lists.{get_last, compare, Each}
use Rattle.ps_check_laws.proofs.HeadingPoints.{heading_told}
use Rattle.ps_check_laws.proofs.Routines.{read, sp}
pub use Rattle.ps_check_laws.proofs.Routines.{placed}
use Rattle.ps_check_laws.proofs.Steps.{one_taken}
use Rattle.ps_check_laws.proofs.NestedSteps.{step_at}
use Rattle.ps_check_laws.proofs.Headed.{At, How, completing, introducing, HasHeading, before, f}
use Rattle.ps_check_laws.proofs.BlockPoints.{declares_plain, plain_not, heading_or, all_more}
use Rattle.ps_check_laws.proofs.GatheredSoFar.{not_both, Keeps, RoutineGrows}

-- ---- places

same_place : (names : List (List ℕ)) (s t : List ℕ) (i : ℕ) → place names s ≡ Some i → place names t ≡ Some i → s ≡ t
same_place names s t i e g =
    let a = placed s 0 names i e in
    let b = placed t 0 names i g in
    let ea = a.1 in
    let eb = b.1 in
    let m : a.0 ≡ b.0 = omega (arith, ea, eb) in
    same_Some s t (sym a.2 ∙ ap (slice_get names) m ∙ b.2)

-- ---- routines by their forms

forward_is : (x : Routine) (y : Routine-F Routine syntax_block.Block) (h : syntax.Heading) → out-Routine x ≡ y
    → routine_block x ≡ None → routine_heading x ≡ Some h → out-Routine x ≡ Routine-F.Forward h
unfolding routine_block routine_heading
forward_is x (Routine-F.Whole g b) h o none is = absurd (none_some (sym none ∙ ap layer_block o))
forward_is x (Routine-F.Forward g) h o none is = o ∙ ap (λ z. Routine-F.Forward z)
    (same_Some g h (sym (ap layer_heading o) ∙ is))
forward_is x (Routine-F.Completion name b) h o none is = absurd (none_some (sym none ∙ ap layer_block o))

forward_no_block : (x : Routine) (h : syntax.Heading) → out-Routine x ≡ Routine-F.Forward h → routine_block x ≡ None
unfolding routine_block
forward_no_block x h o = ap layer_block o

none_not : {A : Type 0} (o : Option A) → is_none o ≡ true → is_some o ≡ false
none_not None e = refl
none_not (Some x) e = never e

-- a routine that may complete a heading of its kind does so
completes_at : (c : Context) (x : Routine) (y : Routine-F Routine syntax_block.Block) (g : syntax.Heading) (h : Heading)
    → out-Routine x ≡ y → is_some h.result ≡ is_function g
    → is_same_kind (routine c x) h ≡ true → may_complete (routine c x) ≡ true → layer_completes g (out-Routine x) ≡ true
unfolding routine_heading routine_block
completes_at c x (Routine-F.Whole q b) g h o kind alike may =
    let heading_is : (routine c x).heading ≡ Some q = (read c x).heading ∙ ap layer_heading o in
    let bare : is_bare q ≡ true = ap is_name_alone (sym heading_is) ∙ and_second (is_some (routine c x).block)
    (is_name_alone (routine c x).heading) may in
    let none : is_none h.result ≡ true = ap (λ z. (if is_some z then is_none h.result else is_some h.result))
    (sym heading_is) ∙ alike in
    let no_function : is_function g ≡ false = sym kind ∙ none_not h.result none in
    ap (layer_completes g) o ∙ ap (λ z. z && not (is_function g)) bare ∙ ap not no_function
completes_at c x (Routine-F.Forward q) g h o kind alike may =
    let block_none : is_some (routine c x).block ≡ false = ap is_some
    ((read c x).block_is ∙ ap (λ z. option_map (block c) (layer_block z)) o) in
    never (sym block_none ∙ and_first (is_some (routine c x).block) (is_name_alone (routine c x).heading) may)
completes_at c x (Routine-F.Completion name b) g h o kind alike may =
    let heading_is : (routine c x).heading ≡ None = (read c x).heading ∙ ap layer_heading o in
    ap (layer_completes g) o ∙ sym kind ∙ ap (λ z. (if is_some z then is_none h.result else is_some h.result))
    (sym heading_is) ∙ alike

block_of : (c : Context) (x : Routine) → may_complete (routine c x) ≡ true → routine_block x ≡ None → ⊥
block_of c x may none =
    let block_none : is_some (routine c x).block ≡ false = ap is_some
    ((read c x).block_is ∙ ap (option_map (block c)) none) in
    never (sym block_none ∙ and_first (is_some (routine c x).block) (is_name_alone (routine c x).heading) may)

-- a routine of a block whose forward headings have their blocks has its block
complete_at : (g : Gathered) (ms : List Meaning) (u v : Unit {0}) (i : ℕ) (h : Heading) → steps (one_complete g) u ms
    ≡ Yes v → slice_get ms i ≡ Some (RoutineMeaning h) → not (is_open g h) ≡ true
unfolding one_complete
complete_at g [] u v i h e q = absurd (none_some q)
complete_at g (m ∷ ms) u v zero h e q =
    let one = then_yes (one_complete g u m) _ v e in
    holds_yes (not (is_open g h)) ForwardOpen h.at one.0
    (ap (one_complete g u) (sym (same_Some m (RoutineMeaning h) q)) ∙ one.1)
complete_at g (m ∷ ms) u v (suc i) h e q =
    let one = then_yes (one_complete g u m) _ v e in
    complete_at g ms one.0 v i h one.2 q

declaration_at : (D : Declarations) (i : ℕ) (d : Definition) → slice_get (map OfDeclaration D ++ []) i ≡ Some d
    → (y : Declaration) × (d ≡ OfDeclaration y)
declaration_at [] i d e = absurd (none_some e)
declaration_at (y ∷ D) zero d e = (y, sym (same_Some (OfDeclaration y) d e))
declaration_at (y ∷ D) (suc i) d e = declaration_at D i d e

module _ (c : Context) (number : ℕ) (names : List (List ℕ)) (outer : List Region) (first : ℕ) (chain : List ℕ)
    (D : Declarations) (base drawn : ℕ) (all : List Routine) where
  -- a routine that was read: the heading that its name has, which has a block if the routine has one
  pub record Named (r : Routines) (x : Routine) : Type 0 where
    pub index : ℕ
    pub found : place names (sp c.text x) ≡ Some index
    pub heading : Heading
    pub known : slice_get r.known index ≡ Some (RoutineMeaning heading)
    pub block : (b : syntax_block.Block) → routine_block x ≡ Some b → (y : Tree.Routine)
        × (slice_get r.gathered.routines heading.number ≡ Some (Some y))
    pub forward : routine_block x ≡ None → (g : syntax.Heading) × (out-Routine x ≡ Routine-F.Forward g)
        × (is_some heading.result ≡ is_function g)

  -- a routine with a block whose name is the one at an index
  pub record Closing (done : List Routine) (i : ℕ) : Type 0 where
    pub at : ℕ
    pub routine : Routine
    pub there : slice_get done at ≡ Some routine
    pub block : syntax_block.Block
    pub is_block : routine_block routine ≡ Some block
    pub found : place names (sp c.text routine) ≡ Some i

  pub record Open (done : List Routine) (r : Routines) : Type 0 where
    -- the headings have numbers of their own
    pub below : (i : ℕ) (h : Heading) → slice_get r.known i ≡ Some (RoutineMeaning h)
        → h.number < length r.gathered.routines
    pub apart : (i j : ℕ) (h g : Heading) → slice_get r.known i ≡ Some (RoutineMeaning h) → slice_get r.known j ≡ Some
        (RoutineMeaning g) → h.number ≡ g.number → i ≡ j
    pub named : (k : ℕ) (x : Routine) → slice_get done k ≡ Some x → Named r x
    -- those that have their blocks have them from a routine before
    pub closed : (i : ℕ) (h : Heading) (y : Tree.Routine) → slice_get r.known i ≡ Some (RoutineMeaning h)
        → slice_get r.gathered.routines h.number ≡ Some (Some y) → Closing done i
    pub only : (k j : ℕ) (x y : Routine) → k < j → slice_get done k ≡ Some x → slice_get done j ≡ Some y → sp c.text y
        ≡ sp c.text x → Completes c.text x y

  abbrev Introduced : List Routine → Routine → Routines → Routines → ℕ → Type 0
  Introduced done x r s index = HasHeading c number names outer first chain D base drawn all done x r s index

  -- ---- one routine

  module _ (done : List Routine) (x : Routine) (r s w : Routines) (index : ℕ)
      (found : place names (sp c.text x) ≡ Some index) (intro : Introduced done x r s index) (o : Open done r)
      (known_same : w.known ≡ s.known) (longer : length s.gathered.routines ≤ length w.gathered.routines)
      (keeps : Keeps r.gathered w.gathered)
      (others : (n : ℕ) → n < length s.gathered.routines → (n ≡ intro.heading.number → ⊥)
      → slice_get w.gathered.routines n ≡ slice_get s.gathered.routines n)
      (without : routine_block x ≡ None → s ≡ w)
      (made : (b : syntax_block.Block) → routine_block x ≡ Some b → (y : Tree.Routine)
      × (slice_get w.gathered.routines intro.heading.number ≡ Some (Some y))) where
    abbrev IsHow : Type 0
    IsHow = How c number names outer first chain D base drawn all done x r s index intro.by intro.heading

    old_or_new : IsHow → (i : ℕ) (h : Heading) (C : Type 0) → slice_get s.known i ≡ Some (RoutineMeaning h)
        → (slice_get r.known i ≡ Some (RoutineMeaning h) → C)
        → (h ≡ intro.heading → i ≡ index → intro.heading.number ≡ length r.gathered.routines → C) → C
    old_or_new (completing here same_routines alike may) i h C e old new = old
        (ap (λ (z : Routines). slice_get z.known i) same_routines ∙ e)
    old_or_new (introducing is last known numbered) i h C e old new =
        get_last r.known (RoutineMeaning intro.heading) i (RoutineMeaning h) C
        (sym (ap (λ l. slice_get l i) known) ∙ e) old
        (λ q same_meaning. new (ap (heading_or h) (sym same_meaning)) (q ∙ sym last) numbered)

    below_new : (i : ℕ) (h : Heading) → slice_get s.known i ≡ Some (RoutineMeaning h)
        → h.number < length s.gathered.routines
    below_new i h e =
        let count = intro.count in
        old_or_new intro.how i h (h.number < length s.gathered.routines) e
        (λ old. let l = o.below i h old in omega (arith, l, count))
        (λ is q n. let l = slice_get_within s.gathered.routines intro.heading.number None intro.vacant
        in let m = ap (λ (z : Heading). z.number) is in omega (arith, l, m))

    apart_new : (i j : ℕ) (h g : Heading) → slice_get s.known i ≡ Some (RoutineMeaning h) → slice_get s.known j ≡ Some
        (RoutineMeaning g) → h.number ≡ g.number → i ≡ j
    apart_new i j h g a b e =
        old_or_new intro.how i h (i ≡ j) a
        (λ old. old_or_new intro.how j g (i ≡ j) b
        (λ old_too. o.apart i j h g old old_too e)
        (λ is q n. let l = o.below i h old in let m = ap (λ (z : Heading). z.number) is in absurd
        (omega (arith, l, m, n, e))))
        (λ is q n. old_or_new intro.how j g (i ≡ j) b
        (λ old_too. let l = o.below j g old_too in let m = ap (λ (z : Heading). z.number) is in absurd
        (omega (arith, l, m, n, e)))
        (λ is_too p m. q ∙ sym p))

    still_known : IsHow → (i : ℕ) (m : Meaning) → slice_get r.known i ≡ Some m → slice_get s.known i ≡ Some m
    still_known (completing here same_routines alike may) i m e = ap (λ (z : Routines). slice_get z.known i)
        (sym same_routines) ∙ e
    still_known (introducing is last known numbered) i m e = ap (λ l. slice_get l i) known ∙ get_stays r.known
        (RoutineMeaning intro.heading ∷ []) i m e

    in_s : (i : ℕ) (m : Meaning) → slice_get w.known i ≡ Some m → slice_get s.known i ≡ Some m
    in_s i m e = ap (λ l. slice_get l i) (sym known_same) ∙ e

    -- ---- the routines and their headings

    named_old : (y : Routine) → Named r y → Named w y
    named_old y t = record {
      index = t.index;
      found = t.found;
      heading = t.heading;
      known = ap (λ l. slice_get l t.index) known_same ∙ still_known intro.how t.index
          (RoutineMeaning t.heading) t.known;
      block = λ b is. let z = t.block b is in (z.0, keeps t.heading.number z.0 z.1);
      forward = t.forward;
    }

    forward_new : IsHow → routine_block x ≡ None → (g : syntax.Heading) × (out-Routine x ≡ Routine-F.Forward g)
        × (is_some intro.heading.result ≡ is_function g)
    forward_new (completing here same_routines alike may) none = absurd (block_of c x may none)
    forward_new (introducing is last known numbered) none =
        let said : routine_heading x ≡ Some intro.said = ap routine_heading (sym is) ∙ intro.is_said in
        let frame = f c number names outer first chain D base drawn all in
        let told = heading_told frame intro.known intro.said (hidden_in_heading frame intro.said) intro.is.said
        intro.is.reading in
        (intro.said, forward_is x (out-Routine x) intro.said refl none said, ap is_some intro.is.result ∙ told.result)

    named_new : Named w x
    named_new = record {
      index = index;
      found = found;
      heading = intro.heading;
      known = ap (λ l. slice_get l index) known_same ∙ intro.known_there;
      block = made;
      forward = forward_new intro.how;
    }

    -- ---- headings that have their blocks

    closing_more : (i : ℕ) → Closing done i → Closing (done ++ x ∷ []) i
    closing_more i t = record {
      at = t.at;
      routine = t.routine;
      there = get_stays done (x ∷ []) t.at t.routine t.there;
      block = t.block;
      is_block = t.is_block;
      found = t.found;
    }

    closing_here : (i : ℕ) (y : Tree.Routine) (b : Option syntax_block.Block) → routine_block x ≡ b → i ≡ index
        → slice_get w.gathered.routines intro.heading.number ≡ Some (Some y) → Closing (done ++ x ∷ []) i
    closing_here i y None is q slot = absurd (not_both (slice_get w.gathered.routines intro.heading.number) y
        (ap (λ (z : Routines). slice_get z.gathered.routines intro.heading.number) (sym (without is)) ∙ intro.vacant)
        slot)
    closing_here i y (Some b) is q slot = record {
      at = length done;
      routine = x;
      there = get_at done x [];
      block = b;
      is_block = is;
      found = found ∙ ap (λ n. Some n) (sym q);
    }

    closed_at : (i : ℕ) (h : Heading) (y : Tree.Routine) (b : Bool) → nat_eq h.number intro.heading.number ≡ b
        → slice_get s.known i ≡ Some (RoutineMeaning h) → slice_get w.gathered.routines h.number ≡ Some (Some y)
        → Closing (done ++ x ∷ []) i
    closed_at i h y true is known slot =
        let n = eqb-true h.number intro.heading.number is in
        closing_here i y (routine_block x) refl (apart_new i index h intro.heading known intro.known_there n)
        (ap (slice_get w.gathered.routines) (sym n) ∙ slot)
    closed_at i h y false is known slot =
        let differs : h.number ≡ intro.heading.number → ⊥ = λ q. never (sym is ∙ eq-eqb h.number intro.heading.number q)
        in
        let before_block : slice_get s.gathered.routines h.number ≡ Some (Some y) = sym
        (others h.number (below_new i h known) differs) ∙ slot in
        old_or_new intro.how i h (Closing (done ++ x ∷ []) i) known
        (λ old. closing_more i (o.closed i h y old (sym (intro.lower h.number (o.below i h old)) ∙ before_block)))
        (λ same_heading q n. absurd (differs (ap (λ (z : Heading). z.number) same_heading)))

    -- ---- routines with the same name

    completes_by : IsHow → (p : Routine) (t : Named r p) (b : Option syntax_block.Block) → routine_block p ≡ b
        → sp c.text x ≡ sp c.text p → t.index ≡ index → Completes c.text p x
    completes_by (introducing is last known numbered) p t b q e i = let l = slice_get_within r.known t.index
        (RoutineMeaning t.heading) t.known in absurd (omega (arith, l, i, last))
    completes_by (completing here same_routines alike may) p t b q e i =
        let same_heading : t.heading ≡ intro.heading = ap (heading_or t.heading)
        (same_Some (RoutineMeaning t.heading) (RoutineMeaning intro.heading)
        (sym t.known ∙ ap (slice_get r.known) i ∙ ap (λ (z : Routines). slice_get z.known index) same_routines
        ∙ intro.known_there)) in
        at b q same_heading
      where
        at : (b : Option syntax_block.Block) → routine_block p ≡ b → t.heading ≡ intro.heading → Completes c.text p x
        at (Some a) q same_heading =
            let slot = t.block a q in
            absurd (not_both (slice_get r.gathered.routines t.heading.number) slot.0
            (ap (λ (z : Heading). slice_get r.gathered.routines z.number) same_heading
            ∙ ap (λ (z : Routines). slice_get z.gathered.routines intro.heading.number) same_routines
            ∙ intro.vacant) slot.1)
        at None q same_heading =
            let g = t.forward q in
            record {
              heading = g.0;
              forward = g.1;
              named = e;
              block = completes_at c x (out-Routine x) g.0 intro.heading refl
                  (ap (λ (z : Heading). is_some z.result) (sym same_heading) ∙ g.2) alike may;
            }

    only_last : (k : ℕ) (p : Routine) → slice_get done k ≡ Some p → sp c.text x ≡ sp c.text p → Completes c.text p x
    only_last k p a e =
        let t = o.named k p a in
        completes_by intro.how p t (routine_block p) refl e
        (same_Some t.index index (sym t.found ∙ ap (place names) (sym e) ∙ found))

    pub open_behind : Open (done ++ x ∷ []) w
    open_behind = record {
      below = λ i h e. let l = below_new i h (in_s i (RoutineMeaning h) e) in omega (arith, l, longer);
      apart = λ i j h g a b e. apart_new i j h g (in_s i (RoutineMeaning h) a) (in_s j (RoutineMeaning g) b) e;
      named = λ k y e. get_last done x k y (Named w y) e (λ old. named_old y (o.named k y old))
          (λ q is. subst (Named w) is named_new);
      closed = λ i h y e slot. closed_at i h y (nat_eq h.number intro.heading.number) refl
          (in_s i (RoutineMeaning h) e) slot;
      only = λ k j p q l a b e. get_last done x j q (Completes c.text p q) b
          (λ old. let m = slice_get_within done j q old in o.only k j p q l
          (sym (get_left done (x ∷ []) k (omega (arith, l, m))) ∙ a) old e)
          (λ n is. subst (Completes c.text p) is (only_last k p
          (sym (get_left done (x ∷ []) k (omega (arith, l, n))) ∙ a) (ap (sp c.text) is ∙ e)));
    }

  -- ---- all routines

  pub none_open : (r : Routines) → At c number names outer first chain D base drawn all [] r → Open [] r
  unfolding introduced_from
  none_open r at =
      let none : (i : ℕ) (h : Heading) → slice_get r.known i ≡ Some (RoutineMeaning h) → ⊥ = λ i h e.
      let many = at.stands.many in
      let l = slice_get_within r.known i (RoutineMeaning h) e in
      let d = there_is (map OfDeclaration D ++ []) i (omega (arith, many, l)) in
      let y = declaration_at D i d.0 d.1 in
      plain_not (RoutineMeaning h) h refl (declares_plain (f c number names outer first chain D base drawn all) first
      (take i r.known) y.0 (RoutineMeaning h)
      (at.stands.are i (OfDeclaration y.0) (RoutineMeaning h) (d.1 ∙ ap (λ z. Some z) y.1) e)) in
      record {
        below = λ i h e. absurd (none i h e);
        apart = λ i j h g a b e. absurd (none i h a);
        named = λ k x e. absurd (none_some e);
        closed = λ i h y e slot. absurd (none i h e);
        only = λ k j x y l a b e. absurd (none_some a);
      }

  pub all_open : (rs done : List Routine) (r w : Routines) → all ≡ done ++ rs → Each (RoutineGrows c) rs
      → At c number names outer first chain D base drawn all done r → Open done r
      → add_routines c.text (names_of c.text (before c number names outer first chain D base drawn all done))
      (map (routine c) rs) ≡ names → steps (one_routine (f c number names outer first chain D base drawn all) chain)
      r (map (routine c) rs) ≡ Yes w → Open all w
  all_open [] done r w split grows at o added e = subst (Open all) (inside_yes r w e)
      (subst (λ l. Open l r) (sym (append-nil done) ∙ sym split) o)
  all_open (x ∷ rs) done r w split grows at o added e =
      let v = then_yes (one_routine (f c number names outer first chain D base drawn all) chain r (routine c x)) _ w e
      in
      let more = all_more c.text (map (routine c) rs)
      (add_routine c.text (names_of c.text (before c number names outer first chain D base drawn all done))
      (routine c x)) in
      let taken = one_taken c number names outer first chain D base drawn all done rs x r v.0 more.0 split at
      (sym added ∙ more.1) v.1 in
      let step = step_at c number names outer first chain D base drawn all done rs x r taken.introduced_to v.0 split at
      grows.0 taken.index taken.found taken.intro (routine_block x) refl taken.reading in
      let behind = open_behind done x r taken.introduced_to v.0 taken.index taken.found taken.intro o step.known_same
      step.longer step.keeps step.others step.without step.made in
      all_open rs (done ++ x ∷ []) v.0 w (split ∙ sym (append_assoc done (x ∷ []) rs)) grows.1 step.behind behind
      (ap (λ l. add_routines c.text l (map (routine c) rs)) (sym taken.names_are) ∙ added) v.2

  -- ---- at the end of the block

  module _ (w : Routines) (o : Open all w) (u : Unit {0}) (complete : all_complete w.gathered w.known ≡ Yes u) where
    slot_made : (h : Heading) (s : Option Tree.Routine) → slice_get w.gathered.routines h.number ≡ Some s → not
        (is_open w.gathered h) ≡ true → (y : Tree.Routine) × (slice_get w.gathered.routines h.number ≡ Some (Some y))
    slot_made h None slot e = never (sym (ap (λ z. not (is_vacant z)) slot) ∙ e)
    slot_made h (Some y) slot e = (y, slot)

    block_further_on : (k : ℕ) (x : Routine) (h : syntax.Heading) → slice_get all k ≡ Some x → out-Routine x
        ≡ Routine-F.Forward h → HasBlock c.text all k x
    unfolding all_complete
    block_further_on k x h there forward =
        let t = o.named k x there in
        let s = there_is w.gathered.routines t.heading.number (o.below t.index t.heading t.known) in
        let y = slot_made t.heading s.0 s.1 (complete_at w.gathered w.known tt u t.index t.heading complete t.known) in
        let z = o.closed t.index t.heading y.0 t.known y.1 in
        let none = forward_no_block x h forward in
        let alike : sp c.text z.routine ≡ sp c.text x = same_place names (sp c.text z.routine)
        (sp c.text x) t.index z.found t.found in
        compare k z.at (HasBlock c.text all k x)
        (λ l. record {
          number = z.at;
          behind = l;
          routine = z.routine;
          there = z.there;
          completes = o.only k z.at x z.routine l there z.there alike;
        })
        (λ q. absurd (none_some (sym none ∙ ap routine_block
        (same_Some x z.routine (sym there ∙ ap (slice_get all) q ∙ z.there)) ∙ z.is_block)))
        (λ l.
        let other = o.only z.at k z.routine x l z.there there (sym alike) in
        absurd (none_some (sym (forward_no_block z.routine other.heading other.forward) ∙ z.is_block)))

    pub are_completed : AreCompleted c.text all
    are_completed = record { each = block_further_on; only = o.only }
