-- A draft that grows: one more instruction, one more routine.
use Rattle.std.proofs.Common.{◌≡◌, ℕ, zero, suc, ◌+◌, ◌<◌, ◌≤◌, ◌⊎◌, inl, inr, List, [], ◌∷◌, ◌++◌, length}
use Rattle.std.proofs.Common.{length-append, take, append_assoc, Some, slice_get, refl, sym, ap, ◌∙◌, subst, arith}
use Rattle.std.proofs.lemmas.List.{append-nil}
use Rattle.std.proofs.lemmas.Bool.{cases_lt}
use Rattle.std.proofs.lemmas.Option.{slice_get_within}
use Rattle.tac_code.specs.declared.code.Instruction.{Instruction}
use Rattle.tac_code.specs.declared.code.TacRoutine.{TacRoutine}
use Rattle.tac_code.specs.Meaning.{Code, routines}
use Rattle.tac_code.proofs.Items.{end_there}
use Rattle.risc_alloc.specs.declared.homes.Home.{Home}
use Rattle.risc_emit_relation.specs.Context.{Context}
use Rattle.risc_emit_forms.specs.Pieces.{Piece}
use Rattle.risc_emit_forms.specs.Forms.{form, entry_form}
use Rattle.risc_emit_laws.specs.Drawn.{body_pieces, routine_pieces, routines_pieces, start_pieces, program_pieces}
use Rattle.risc_emit_laws.specs.Drawn.{entry_place, site_place, text_place, instruction_texts, body_texts}
use Rattle.risc_emit_laws.specs.Drawn.{routines_texts}
use Rattle.risc_emit_laws.specs.Emits.{start_form}
use Rattle.risc_emit_laws.proofs.Growing.{body_grows, routines_grow}
use Rattle.risc_emit.specs.Layout.{laid_out}
use Rattle.risc_emit.specs.Frames.{Place, place_of, context_of}
use Rattle.risc_emit.specs.declared.marks.Mark.{Mark}
use Rattle.risc_emit.specs.declared.marks.Marks.{Marks}
use Rattle.risc_emit.specs.Marked.{mark_of, AreMarksOf, AreMarked}

-- ---- lists

get_front : {X : Type 0} (xs : List X) (y : X) (i : ℕ) (x : X) → slice_get xs i ≡ Some x → slice_get (xs ++ y ∷ []) i
    ≡ Some x
get_front [] y i x e = absurd (cc e)
get_front (z ∷ xs) y zero x e = e
get_front (z ∷ xs) y (suc i) x e = get_front xs y i x e

pub take_all : {X : Type 0} (xs : List X) (n : ℕ) → length xs ≤ n → take n xs ≡ xs
take_all [] zero le = refl
take_all [] (suc n) le = refl
take_all (x ∷ xs) zero le = absurd (omega (arith, le))
take_all (x ∷ xs) (suc n) le = ap (λ l. x ∷ l) (take_all xs n (omega (arith, le)))

-- ---- constants

body_texts_grow : (is : List Instruction) (j : ℕ) (i : Instruction) → slice_get is j ≡ Some i → body_texts
    (take (suc j) is) ≡ body_texts (take j is) ++ instruction_texts i
body_texts_grow [] j i e = absurd (cc e)
body_texts_grow (x ∷ is) zero i e =
    let same : x ≡ i = cc e in append-nil (instruction_texts x) ∙ ap instruction_texts same
body_texts_grow (x ∷ is) (suc j) i e =
    ap (λ ts. instruction_texts x ++ ts) (body_texts_grow is j i e) ∙ sym
    (append_assoc (instruction_texts x) (body_texts (take j is)) (instruction_texts i))

routines_texts_grow : (xs : List TacRoutine) (j : ℕ) (x : TacRoutine) → slice_get xs j ≡ Some x → routines_texts
    (take (suc j) xs) ≡ routines_texts (take j xs) ++ body_texts x.body
routines_texts_grow [] j x e = absurd (cc e)
routines_texts_grow (y ∷ xs) zero x e =
    let same : y ≡ x = cc e in append-nil (body_texts y.body) ∙ ap (λ z. body_texts z.body) same
routines_texts_grow (y ∷ xs) (suc j) x e =
    ap (λ ts. body_texts y.body ++ ts) (routines_texts_grow xs j x e) ∙ sym
    (append_assoc (body_texts y.body) (routines_texts (take j xs)) (body_texts x.body))

-- ---- one routine

-- a routine's pieces, words and marks so far, after those of the routines before it
pub record Drafted (c : Context) (r : ℕ) (routine : TacRoutine) (front : List Piece) (behind : List ℕ) (k : ℕ)
    (ps : List Piece) (ts : List ℕ) (ms : List Mark) : Type 0 where
  pub pieces : ps ≡ front ++ (entry_form c r routine ++ body_pieces c r 0 (take k routine.body))
  pub texts : ts ≡ behind ++ body_texts (take k routine.body)
  pub count : length ms ≡ k
  pub each : (j : ℕ) → j < k → (mark : Mark) × (slice_get ms j ≡ Some mark) × (mark.site ≡ site_place c r routine j)
      × (mark.text ≡ text_place c.code r routine j)

module _ (c : Context) (r : ℕ) (routine : TacRoutine) (front : List Piece) (behind : List ℕ)
    (entry : length front ≡ entry_place c r)
    (first : length behind ≡ length (routines_texts (take r (routines c.code)))) where
  abbrev So : ℕ → List Piece → List ℕ → List Mark → Type 0
  So = Drafted c r routine front behind

  abbrev Each : ℕ → List Mark → Type 0
  Each n ms = (j : ℕ) → j < n → (mark : Mark) × (slice_get ms j ≡ Some mark) × (mark.site ≡ site_place c r routine j)
      × (mark.text ≡ text_place c.code r routine j)

  pub drafted_none : (ps : List Piece) → ps ≡ front ++ entry_form c r routine → So 0 ps behind []
  drafted_none ps e =
      record {
        pieces = e ∙ ap (λ l. front ++ l) (sym (append-nil (entry_form c r routine)));
        texts = sym (append-nil behind);
        count = refl;
        each = λ j lt. absurd (omega (arith, lt));
      }

  -- the mark of the next place
  each_more : (k : ℕ) (ps : List Piece) (ts : List ℕ) (ms all : List Mark) → So k ps ts ms → all ≡ ms ++ mark_of
      (length ps) (length ts) ∷ [] → Each (suc k) all
  each_more k ps ts ms all d e j lt = by (cases_lt j k)
    where
      site : length ps ≡ site_place c r routine k
      site =
          let n = ap length d.pieces in
          let m = length-append front (entry_form c r routine ++ body_pieces c r 0 (take k routine.body)) in
          let o = length-append (entry_form c r routine) (body_pieces c r 0 (take k routine.body)) in
          omega (arith, n, m, o, entry)

      text : length ts ≡ text_place c.code r routine k
      text =
          let n = ap length d.texts in
          let m = length-append behind (body_texts (take k routine.body)) in
          omega (arith, n, m, first)

      by : (j < k) ⊎ (k ≤ j) → (mark : Mark) × (slice_get all j ≡ Some mark) × (mark.site ≡ site_place c r routine j)
          × (mark.text ≡ text_place c.code r routine j)
      by (inl below) =
          let m = d.each j below in
          (m.0, ap (λ l. slice_get l j) e ∙ get_front ms (mark_of (length ps) (length ts)) j m.0 m.1, m.2, m.3)
      by (inr above) =
          let count = d.count in
          let at : j ≡ length ms = omega (arith, lt, above, count) in
          let is : k ≡ j = omega (arith, lt, above) in (
            mark_of (length ps) (length ts),
            ap (λ l. slice_get l j) e
                ∙ ap (slice_get (ms ++ mark_of (length ps) (length ts) ∷ [])) at ∙ end_there ms
                (mark_of (length ps) (length ts)),
            site ∙ ap (site_place c r routine) is,
            text
                ∙ ap (text_place c.code r routine) is,
          )

  count_more : (ms all : List Mark) (m : Mark) (k : ℕ) → length ms ≡ k → all ≡ ms ++ m ∷ [] → length all ≡ suc k
  count_more ms all m k n e =
      let a = ap length e in
      let b = length-append ms (m ∷ []) in
      omega (arith, a, b, n)

  pub drafted_more : (k : ℕ) (i : Instruction) (ps ps' : List Piece) (ts ts' : List ℕ) (ms ms' : List Mark)
      → So k ps ts ms → slice_get routine.body k ≡ Some i → ps' ≡ ps ++ form c r k i → ts' ≡ ts ++ instruction_texts i
      → ms' ≡ ms ++ mark_of (length ps) (length ts) ∷ [] → So (k + 1) ps' ts' ms'
  drafted_more k i ps ps' ts ts' ms ms' d is e f g =
      subst (λ n. So n ps' ts' ms') next (record {
        pieces = e ∙ ap (λ l. l ++ form c r k i) d.pieces ∙ append_assoc front
            (entry_form c r routine ++ body_pieces c r 0 (take k routine.body)) (form c r k i) ∙ ap (λ l. front ++ l)
            (append_assoc (entry_form c r routine) (body_pieces c r 0 (take k routine.body)) (form c r k i)
            ∙ ap (λ l. entry_form c r routine ++ l) (sym (body_grows c r routine.body k i is)));
        texts = f ∙ ap (λ l. l ++ instruction_texts i) d.texts ∙ append_assoc behind (body_texts (take k routine.body))
            (instruction_texts i) ∙ ap (λ l. behind ++ l) (sym (body_texts_grow routine.body k i is));
        count = count_more ms ms' (mark_of (length ps) (length ts)) k d.count g;
        each = each_more k ps ts ms ms' d g;
      })
    where
      next : suc k ≡ k + 1
      next = omega arith

  module _ (k : ℕ) (ps : List Piece) (ts : List ℕ) (ms : List Mark) (end : length routine.body ≤ k)
      (d : So k ps ts ms) where
    pub drafted_pieces : ps ≡ front ++ routine_pieces c r routine
    drafted_pieces =
        d.pieces ∙ ap (λ l. front ++ (entry_form c r routine ++ body_pieces c r 0 l)) (take_all routine.body k end)

    pub drafted_texts : ts ≡ behind ++ body_texts routine.body
    drafted_texts = d.texts ∙ ap (λ l. behind ++ body_texts l) (take_all routine.body k end)

    pub drafted_marks : (marks : Marks) → k ≤ length routine.body → marks.entry ≡ length front → marks.places.items ≡ ms
        ++ mark_of (length ps) (length ts) ∷ [] → AreMarksOf c r routine marks
    drafted_marks marks most here e =
        let n = count_more ms marks.places.items (mark_of (length ps) (length ts)) k d.count e in
        record {
          entry = here ∙ entry;
          count = omega (arith, n, most, end);
          each = λ j le. each_more k ps ts ms marks.places.items d e j (omega (arith, le, end));
        }

-- ---- all routines

pub record AllDrafted (c : Context) (n : ℕ) (ps : List Piece) (ts : List ℕ) (all : List Marks) : Type 0 where
  pub pieces : ps ≡ start_pieces c (routines c.code) ++ routines_pieces c 0 (take n (routines c.code))
  pub texts : ts ≡ routines_texts (take n (routines c.code))
  pub count : length all ≡ n
  pub each : (r : ℕ) (routine : TacRoutine) → r < n → slice_get (routines c.code) r ≡ Some routine → (m : Marks)
      × (slice_get all r ≡ Some m) × AreMarksOf c r routine m

module _ (c : Context) where
  pub all_drafted_none : (ps : List Piece) → ps ≡ start_pieces c (routines c.code) → AllDrafted c 0 ps [] []
  all_drafted_none ps e =
      record {
        pieces = e ∙ sym (append-nil (start_pieces c (routines c.code)));
        texts = refl;
        count = refl;
        each = λ r routine lt is. absurd (omega (arith, lt));
      }

  pub entry_reached : (n : ℕ) (ps : List Piece) (ts : List ℕ) (all : List Marks) → AllDrafted c n ps ts all → length ps
      ≡ entry_place c n
  entry_reached n ps ts all d =
      ap length d.pieces ∙ length-append (start_pieces c (routines c.code))
      (routines_pieces c 0 (take n (routines c.code)))

  pub all_drafted_more : (n : ℕ) (x : TacRoutine) (m : Marks) (ps ps' : List Piece) (ts ts' : List ℕ)
      (all all' : List Marks) → AllDrafted c n ps ts all → slice_get (routines c.code) n ≡ Some x → ps' ≡ ps
      ++ routine_pieces c n x → ts' ≡ ts ++ body_texts x.body → all' ≡ all ++ m ∷ [] → AreMarksOf c n x m → AllDrafted c
      (n + 1) ps' ts' all'
  all_drafted_more n x m ps ps' ts ts' all all' d is e f g marks =
      subst (λ i. AllDrafted c i ps' ts' all') next (record {
        pieces = e ∙ ap (λ l. l ++ routine_pieces c n x) d.pieces ∙ append_assoc (start_pieces c (routines c.code))
            (routines_pieces c 0 (take n (routines c.code))) (routine_pieces c n x)
            ∙ ap (λ l. start_pieces c (routines c.code) ++ l) (sym (routines_grow c (routines c.code) n x is));
        texts = f ∙ ap (λ l. l ++ body_texts x.body) d.texts ∙ sym (routines_texts_grow (routines c.code) n x is);
        count = count;
        each = λ r routine lt at. by r routine lt at (cases_lt r n);
      })
    where
      next : suc n ≡ n + 1
      next = omega arith

      count : length all' ≡ suc n
      count =
          let a = ap length g in
          let b = length-append all (m ∷ []) in
          let o = d.count in
          omega (arith, a, b, o)

      by : (r : ℕ) (routine : TacRoutine) → r < suc n → slice_get (routines c.code) r ≡ Some routine → (r < n) ⊎ (n ≤ r)
          → (o : Marks) × (slice_get all' r ≡ Some o) × AreMarksOf c r routine o
      by r routine lt at (inl below) =
          let o = d.each r routine below at in
          (o.0, ap (λ l. slice_get l r) g ∙ get_front all m r o.0 o.1, o.2)
      by r routine lt at (inr above) =
          let o = d.count in
          let here : r ≡ length all = omega (arith, lt, above, o) in
          let same : n ≡ r = omega (arith, lt, above) in
          let one : x ≡ routine = cc (sym is ∙ ap (slice_get (routines c.code)) same ∙ at) in (
            m,
            ap (λ l. slice_get l r) g ∙ ap (slice_get (all ++ m ∷ [])) here ∙ end_there all m,
            subst
                (λ y. AreMarksOf c r y m) one (subst (λ i. AreMarksOf c i x m) same marks),
          )

  module _ (n : ℕ) (ps : List Piece) (ts : List ℕ) (all : List Marks) (end : n ≡ length (routines c.code))
      (d : AllDrafted c n ps ts all) where
    pub all_pieces : ps ≡ program_pieces c
    all_pieces =
        let whole = take_all (routines c.code) n (omega (arith, end)) in
        d.pieces ∙ ap (λ l. start_pieces c (routines c.code) ++ routines_pieces c 0 l) whole

    pub all_texts : ts ≡ routines_texts (routines c.code)
    all_texts = d.texts ∙ ap routines_texts (take_all (routines c.code) n (omega (arith, end)))

    pub all_marked : AreMarked c all
    all_marked =
        record {
          count = d.count ∙ end;
          each = λ r routine at. d.each r routine
              (let lt = slice_get_within (routines c.code) r routine at in omega (arith, lt, end)) at;
        }

-- ---- the loop over all routines: each is written in a frame of its own

module _ (code : Code) (homes : List Home) (frame : Place) where
  pub all_begun : (block : TacRoutine) (ps ps' : List Piece) (ts : List ℕ) (all : List Marks) → frame
      ≡ place_of code homes 0 → slice_get (routines code) 0 ≡ Some block → ps ≡ [] → ps' ≡ ps ++ start_form
      (context_of frame) block → ts ≡ [] → all ≡ [] → AllDrafted (laid_out code homes) 0 ps' ts all
  all_begun block ps ps' ts all is at none e no_texts no_marks =
      let pieces : ps' ≡ start_pieces (laid_out code homes) (routines code) = e
      ∙ ap (λ l. l ++ start_form (context_of frame) block) none ∙ ap (λ f. start_form (context_of f) block) is
      ∙ first (routines code) at in
      subst (AllDrafted (laid_out code homes) 0 ps' ts) (sym no_marks)
      (subst (λ l. AllDrafted (laid_out code homes) 0 ps' l []) (sym no_texts)
      (all_drafted_none (laid_out code homes) ps' pieces))
    where
      first : (rs : List TacRoutine) → slice_get rs 0 ≡ Some block → start_form (laid_out code homes) block
          ≡ start_pieces (laid_out code homes) rs
      first [] e = absurd (cc e)
      first (x ∷ rs) e = let same : block ≡ x = cc e in ap (start_form (laid_out code homes)) same

  pub all_grown : (n : ℕ) (x : TacRoutine) (m : Marks) (ps ps' : List Piece) (ts ts' : List ℕ) (all all' : List Marks)
      → frame ≡ place_of code homes n → AllDrafted (laid_out code homes) n ps ts all → slice_get (routines code) n
      ≡ Some x → ps' ≡ ps ++ routine_pieces (context_of frame) frame.number x → ts' ≡ ts ++ body_texts x.body → all'
      ≡ all ++ m ∷ [] → AreMarksOf (context_of frame) frame.number x m → AllDrafted (laid_out code homes)
      (n + 1) ps' ts' all'
  all_grown n x m ps ps' ts ts' all all' is d at e f g marks =
      all_drafted_more (laid_out code homes) n x m ps ps' ts ts' all all' d at
      (e ∙ ap (λ o. ps ++ routine_pieces (context_of o) o.number x) is) f g
      (subst (λ o. AreMarksOf (context_of o) o.number x m) is marks)
