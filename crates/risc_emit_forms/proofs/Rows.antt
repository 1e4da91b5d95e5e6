-- Components of arrays, after a register that is short of the address of their row.
use Rattle.std.proofs.Common.{◌≡◌, ◌≢◌, ℕ, suc, ◌+◌, ◌*◌, ◌%◌, ◌^◌, ◌<◌, inl, Bool, true, false, cond, ◌≤◌, nat_lt}
use Rattle.std.proofs.Common.{List, [], ◌∷◌, ◌++◌, Some, ℤ, pos, negsuc, neg_ℤ, ◌+ℤ◌, refl, sym, ap, ◌∙◌, subst, arith}
use Rattle.std.proofs.Common.{None}
use Rattle.std.specs.Prelude.{◌≤ℤ◌}
use Rattle.std.proofs.lemmas.Int.{ints}
use Rattle.std.proofs.lemmas.Bool.{ltb-true}
use Rattle.behavior.specs.Endings.{Stuck}
use Rattle.risc_word.specs.declared.instr.Operation.TheVariants as op
use Rattle.risc_word.specs.declared.instr.Operand.TheVariants.{Content}
use Rattle.risc_word.specs.declared.instr.Instr.TheVariants as word
use Rattle.risc_machine.specs.Step as machine
use Rattle.risc_machine.specs.declared.limits.TheConstants.{ADDRESSES}
use Rattle.risc_machine_laws.specs.View.{View, Shows, after, reached}
use Rattle.risc_machine_laws.specs.Runs.{same_tape}
use Rattle.tac_code.specs.declared.code.Block.{Block}
use Rattle.tac_code.specs.declared.code.Block.TheVariants as blocks
use Rattle.tac_code.specs.declared.code.Base.TheVariants as base
use Rattle.tac_code.specs.declared.code.Value.TheVariants.{Number, Address}
use Rattle.tac_code.specs.declared.code.Instruction.TheVariants.{Index}
use Rattle.tac_code.specs.Numbers.{word_of, steps_above, is_in_range}
use Rattle.tac_code.specs.Meaning.{fetch, State, Goes, Over, giving, base_value, gives_component}
use Rattle.tac_code.specs.declared.code.TheConstants.{BLOCK_LIMIT, NUMBER_LIMIT}
use Rattle.risc_alloc.specs.Flow.{in_base}
use Rattle.risc_emit_relation.specs.Context.{Context, home, Places, place, IsNumber}
use Rattle.risc_emit_relation.specs.Related.{Machine, Related, value_of}
use Rattle.risc_alloc.specs.declared.homes.Home.{Home}
use Rattle.risc_alloc.specs.declared.homes.Home.TheVariants.{Slot, Reg}
use Rattle.risc_emit_relation.specs.Changes.{Near}
use Rattle.risc_emit_relation.proofs.Basics.{update_same, update_other}
use Rattle.risc_emit_relation.proofs.Steps.{home_read}
use Rattle.risc_emit_forms.specs.Pieces.{Plain, Left}
use Rattle.risc_emit_forms.specs.Forms as form
use Rattle.risc_emit_forms.specs.Forms.{fetched, scaled, scaled_register, base_address, address_register, index_by}
use Rattle.risc_emit_forms.specs.Peephole.{short_by, offset_of, deferred_at}
use Rattle.risc_emit_forms.specs.Follows.{machine_of, with_deferred, Built, Meets, Belongs, Follows}
use Rattle.risc_emit_forms.proofs.Basics.{left_after, left_at, left_next, is_read, writes_it, among_first, among_rest}
use Rattle.risc_emit_forms.proofs.Shortfalls.{DeferredIndex, DeferredRow, deferred_index_is}
use Rattle.risc_emit_forms.proofs.Flags.{unflagged}
use Rattle.risc_emit_forms.proofs.Runs.{step_to}
use Rattle.risc_emit_forms.proofs.Fetches.{fetch_run, fetched_not}
use Rattle.risc_emit_forms.proofs.Comes.{framed, defers_end, untested}
use Rattle.risc_emit_forms.proofs.Joins.{come_to, come_way}
use Rattle.risc_emit_forms.proofs.Operands.{one_run}
use Rattle.risc_emit_forms.proofs.Offsets.{named_low}
use Rattle.risc_emit_forms.proofs.Scales.{scaled_not, scaled_run, word_is}
use Rattle.risc_emit_forms.proofs.Folds.{Backed, Natural, backed_is, natural_between, reached_back, spread, times_le}
use Rattle.risc_emit_forms.proofs.ArrayBases.{address_run}

module _ (c : Context) (words : List ℕ) (b : Built c words) (p : Places) (s : State) (f : ℕ) (m : machine.State)
    (v : View) (sh : Shows words c.size m v) (be : Belongs c words p s v f) where
  -- ---- ahead of an address in a temporary

  pub back_follows : (t u i : ℕ) (low high : ℤ) (width error line : ℕ) (block : Block) (offset : ℕ) (x : ℤ)
      (deferred : ℕ × ℤ)
      → fetch c.code s.current.routine s.current.place
      ≡ Some (Index t (base.Temporary u) i low high width error line) → base_value s.current (base.Temporary u)
      ≡ Some (Address block offset) → s.current.temporaries i ≡ Some (Number x)
      → deferred_at c s.current.routine (suc s.current.place) ≡ Some deferred → Left c words v.place
      (index_by c s.current.routine (Some 0) (Some deferred) t (base.Temporary u) i low high width error line)
      (c.site s.current.routine (suc s.current.place)) → Follows c words
      (gives_component c.code (is_in_range low high x) t block (offset + steps_above low x * width) error line s) s m
  back_follows t u i low high width error line block offset x deferred here ea ei defers l =
      go (is_in_range low high x) refl
    where
      ahead : DeferredIndex c s.current.routine t
          (offset_of c s.current.routine (base.Temporary u) low high width error) deferred
      ahead = deferred_index_is c s.current.routine s.current.place t (base.Temporary u) i low high width error line
          deferred here be.flags.1 defers

      fold : Backed low high width error deferred.1
      fold = backed_is low high width error deferred.1 ahead.offset

      go : (inside : Bool) → is_in_range low high x ≡ inside → Follows c words
          (gives_component c.code inside t block (offset + steps_above low x * width) error line s) s m
      go false e = untested c words b s error line m fold.none
      go true e = fits (nat_lt (offset + steps_above low x * width) BLOCK_LIMIT) refl
        where
          between : Natural low x fold.first fold.last
          between = natural_between low high x fold.first fold.last fold.low_is fold.high_is e

          number_narrow : (j : ℕ) → IsNumber (pos j) → j < 2 ^ 32
          number_narrow j h = omega (arith, ints, h.0, h.1)

          below_last : (x y : ℕ) → x ≤ y → y < NUMBER_LIMIT → x < NUMBER_LIMIT
          below_last x y le lt = omega (arith, le, lt)

          -- an address, and the distance of the index itself
          total : (g z kw d : ℕ) → g ≡ place c p block + offset → z ≡ kw + d → kw < ADDRESSES → offset + d < BLOCK_LIMIT
              → (g + z + 0) % 2 ^ 32 ≡ place c p block + (offset + d) + kw
          total g z kw d e ez few lt = let h = named_low c words b p s f m v sh be block in omega
              (arith, e, ez, few, lt, h)

          low_place : (d : ℕ) → offset + d < BLOCK_LIMIT → place c p block + (offset + d) < 2 ^ 32
          low_place d lt = let h = named_low c words b p s f m v sh be block in omega (arith, lt, h)

          fits : (small : Bool) → nat_lt (offset + steps_above low x * width) BLOCK_LIMIT ≡ small → Follows c words
              (cond small (Goes (record s {
                current = giving t
                    (Address block (offset + steps_above low x * width)) s.current;
              })) (Over Stuck)) s m
          fits false es = inl refl
          fits true es =
              let r = s.current.routine in
              let k = s.current.place in
              let a = base.Temporary u in
              let ins = Index t a i low high width error line in
              let j = between.number in
              let d = fetched c r 12 (home c r i) in
              let y = scaled_register c r d width in
              let q = address_register c r a in
              let i5 = word.Operate op.Add deferred.0 q (Content y) in
              let last = Plain i5 ∷ [] in
              let rest = base_address c r a ++ last in
              let lt = ltb-true (offset + steps_above low x * width) BLOCK_LIMIT es in
              let g = one_run c words b p s f m v sh be 12 i (Number x) (scaled c r d width ++ rest) _ (omega arith)
              (is_read c r k ins here i (among_first i (in_base a))) ei l in
              let v1 = g.view in
              let l1 = left_after c words v.place v1.place _ (form.fetch c r 12 (home c r i))
              (scaled c r d width ++ rest) l g.place in
              let n15 = fetched_not c words b.stood b.laid b.placed r f
              (framed c words b p s (machine_of v) f be.related) 12 i 15 (omega arith) (omega arith) in
              let jn : IsNumber (pos j) = subst IsNumber between.is g.good in
              let narrow : j < 2 ^ 32 = number_narrow j jn in
              let is : v1.registers d ≡ j = g.value ∙ ap word_of between.is ∙ word_is j narrow in
              let product = spread fold.first (steps_above low x) j width between.above in
              let low_product : j * width < NUMBER_LIMIT = below_last (j * width) (fold.last * width)
              (times_le j fold.last width between.most) fold.narrow in
              let g2 = scaled_run c words b s.current.routine d j width rest _ g.way.to v1 g.way.shows n15 is narrow
              low_product l1 in
              let v2 = g2.view in
              let near2 : Near (machine_of v) (machine_of v2) = record {
                registers = λ q n12 n15'. g2.near.registers q n12 n15' ∙ g.moved.registers q n12;
                words = λ q. g2.near.words q ∙ g.moved.words q;
              } in
              let g3 = address_run c words b p s f m v sh be a block offset last _ g2.way.to v2 g2.way.shows near2
              (λ w eu. is_read c r k ins here w (among_rest w i (in_base a) eu)) ea g2.left in
              let v3 = g3.view in
              let t5 = step_to c words b.stood i5 g3.way.to v3 g3.way.shows g3.left.stands.0 tt in
              let v5 = after i5 v3 in
              let far : v3.registers y ≡ fold.first * width
              + steps_above low x * width = g3.moved.registers y (scaled_not c words b s.current.routine d width n15)
              ∙ g2.value ∙ product in
              let sum : v5.registers deferred.0 ≡ place c p block + (offset + steps_above low x * width)
              + fold.first * width = update_same v3.registers deferred.0 _ ∙ total (v3.registers q) (v3.registers y)
              (fold.first * width) (steps_above low x * width) g3.value far fold.few lt in
              let whole : reached (v5.registers deferred.0) deferred.1 ≡ place c p block
              + (offset + steps_above low x * width) = ap (reached (v5.registers deferred.0)) fold.is
              ∙ reached_back (v5.registers deferred.0) (fold.first * width)
              (place c p block + (offset + steps_above low x * width)) fold.few
              (low_place (steps_above low x * width) lt) sum in
              let l5 = left_next c words v3.place _ (Plain i5) [] g3.left in
              let s' = record s {
                current = giving t (Address block (offset + steps_above low x * width)) s.current;
              } in
              come_way c words b s s' m v1 g.way (come_way c words b s s' g.way.to v2 g2.way
              (come_way c words b s s' g2.way.to v3 g3.way
              (come_to c words b s s' g3.way.to same_tape v5 t5 refl
              (defers_end c words b p s (machine_of v) f t
              (Address block (offset + steps_above low x * width)) deferred t5.to v5 be.related be.input
              (writes_it c r k ins here t refl refl) (unflagged c r k ins here refl v5) defers ahead.home
              (g3.good.0, lt) t5.shows whole
              (λ z n12 n15' nd. update_other v3.registers deferred.0 _ z nd ∙ g3.moved.registers z n15'
              ∙ near2.registers z n12 n15') (λ z. g3.moved.words z ∙ near2.words z) (omega (arith, l5.ends))))))

-- ---- an index into a row, whose address a register is short of

-- from an address that a register is short of, by a distance with the lowest index
reached_row : (x z d e y : ℕ) (m n : ℤ) → x < 2 ^ 32 → neg_ℤ (pos ADDRESSES) ≤ℤ m → reached x m ≡ y →
    y + e < BLOCK_LIMIT + ADDRESSES
    → n ≡ neg_ℤ (pos d) → d < ADDRESSES → z ≡ d + e → reached ((x + z + 0) % 2 ^ 32) (m +ℤ n) ≡ y + e
reached_row x z d e y (pos a) n narrow least is low en few ez = by (pos a +ℤ n) refl
  where
    by : (w : ℤ) → pos a +ℤ n ≡ w → reached ((x + z + 0) % 2 ^ 32) w ≡ y + e
    by (pos j) ew =
        let sum : j + d ≡ a = omega (arith, ints, ew, en) in
        omega (arith, is, low, few, ez, sum, narrow)
    by (negsuc j) ew =
        let sum : a + suc j ≡ d = omega (arith, ints, ew, en) in
        omega (arith, is, low, few, ez, sum, narrow)
reached_row x z d e y (negsuc a) n narrow least is low en few ez = by (negsuc a +ℤ n) refl
  where
    close : a < ADDRESSES
    close = omega (arith, ints, least)

    back_of : x ≡ y + suc a
    back_of = omega (arith, is, close, narrow, low)

    by : (w : ℤ) → negsuc a +ℤ n ≡ w → reached ((x + z + 0) % 2 ^ 32) w ≡ y + e
    by (pos j) ew = absurd (omega (arith, ints, ew, en))
    by (negsuc j) ew =
        let sum : j ≡ a + d = omega (arith, ints, ew, en) in
        omega (arith, back_of, close, low, few, ez, sum)

module _ (c : Context) (words : List ℕ) (b : Built c words) (p : Places) (s : State) (f : ℕ) (m : machine.State)
    (v : View) (sh : Shows words c.size m v) (me : Meets c words p s v f) where
  pub row_follows : (deferred : ℕ × ℤ) → deferred_at c s.current.routine s.current.place ≡ Some deferred
      → (w : DeferredRow c s.current.routine s.current.place deferred) → (block : Block) (offset : ℕ) (x : ℤ)
      → s.current.temporaries w.to ≡ Some (Address block offset) → s.current.temporaries w.index ≡ Some (Number x)
      → Follows c words (gives_component c.code (is_in_range w.low w.high x) w.to block
      (offset + steps_above w.low x * w.width) w.error w.line s) s m
  row_follows deferred is w block offset x ea ei = go (is_in_range w.low w.high x) refl
    where
      m0 : Machine
      m0 = with_deferred (Some deferred) (machine_of v)

      rel : Related c p s m0 f
      rel = subst (λ o. Related c p s (with_deferred o (machine_of v)) f) is me.related

      fold : Backed w.low w.high w.width w.error w.further
      fold = backed_is w.low w.high w.width w.error w.further (ap (λ o. short_by o None) w.ahead)

      below : deferred.0 < 12
      below = b.placed.register s.current.routine w.to deferred.0 w.home

      not_frame : 14 ≢ deferred.0
      not_frame = omega (arith, below)

      base_low : place c p block < ADDRESSES
      base_low = of_block block
        where
          of_block : (block : Block) → place c p block < ADDRESSES
          of_block (blocks.Frame a) = rel.held.places.frame a
          of_block (blocks.Scratch a) = rel.held.places.scratch a
          of_block (blocks.Object n) = rel.held.places.object n
          of_block (blocks.Constant r k) = let e = b.laid.constants r k in omega
              (arith, e, b.laid.order.1, b.laid.order.2, b.laid.order.3)

      -- another home holds what it did
      same_home : (h : Home) → h ≢ Reg deferred.0 → value_of c s.current.routine f (machine_of v) h
          ≡ value_of c s.current.routine f m0 h
      same_home (Slot k) ne = refl
      same_home (Reg q) ne = sym (update_other v.registers deferred.0 _ q (λ e. ne (ap Reg e)))

      go : (inside : Bool) → is_in_range w.low w.high x ≡ inside → Follows c words
          (gives_component c.code inside w.to block (offset + steps_above w.low x * w.width) w.error w.line s) s m
      go false e = untested c words b s w.error w.line m fold.none
      go true e = fits (nat_lt (offset + steps_above w.low x * w.width) BLOCK_LIMIT) refl
        where
          between : Natural w.low x fold.first fold.last
          between = natural_between w.low w.high x fold.first fold.last fold.low_is fold.high_is e

          number_narrow : (j : ℕ) → IsNumber (pos j) → j < 2 ^ 32
          number_narrow j h = omega (arith, ints, h.0, h.1)

          below_last : (x y : ℕ) → x ≤ y → y < NUMBER_LIMIT → x < NUMBER_LIMIT
          below_last x y le lt = omega (arith, le, lt)

          -- the address of the component, from that of the row
          sums : (d : ℕ) → place c p block + offset + d ≡ place c p block + (offset + d)
          sums d = omega arith

          low_place : (d : ℕ) → offset + d < BLOCK_LIMIT → place c p block + offset + d < BLOCK_LIMIT + ADDRESSES
          low_place d lt = omega (arith, lt, base_low)

          fits : (small : Bool) → nat_lt (offset + steps_above w.low x * w.width) BLOCK_LIMIT ≡ small → Follows c words
              (cond small (Goes (record s {
                current = giving w.to
                    (Address block (offset + steps_above w.low x * w.width)) s.current;
              })) (Over Stuck)) s m
          fits false es = inl refl
          fits true es =
              let r = s.current.routine in
              let k = s.current.place in
              let a = base.Temporary w.to in
              let i = w.index in
              let ins = Index w.to a i w.low w.high w.width w.error w.line in
              let further : ℕ × ℤ = (deferred.0, deferred.1 +ℤ w.further) in
              let j = between.number in
              let d = fetched c r 12 (home c r i) in
              let y = scaled_register c r d w.width in
              let i5 = word.Operate op.Add deferred.0 deferred.0 (Content y) in
              let last = Plain i5 ∷ [] in
              let rest = scaled c r d w.width ++ last in
              let lt = ltb-true (offset + steps_above w.low x * w.width) BLOCK_LIMIT es in
              let l0 = subst (λ o. Left c words v.place
              (form.index_form c r o w.to a i w.low w.high w.width w.error w.line) (c.site r (suc k))) w.next
              (left_at c words (c.site r k) v.place _ (form.form c r k ins) (b.stood.body r k ins w.here) me.place) in
              let l = subst (λ h. Left c words v.place (form.fetch c r 12 (home c r i)
              ++ (scaled c r d w.width ++ (form.fetch c r 15 h
              ++ (Plain (word.Operate op.Add deferred.0 (fetched c r 15 h) (Content y)) ∷ [])))) (c.site r (suc k)))
              w.home l0 in
              let fr = framed c words b p s m0 f rel in
              let e14 : v.registers 14 ≡ f = sym (update_other v.registers deferred.0 _ 14 not_frame) ∙ rel.stack in
              let g = fetch_run c words b.stood b.laid b.placed r f fr 12 i rest _ m v sh (omega arith) e14 l in
              let v1 = g.view in
              let l1 = left_after c words v.place v1.place _ (form.fetch c r 12 (home c r i)) rest l g.place in
              let n15 = fetched_not c words b.stood b.laid b.placed r f fr 12 i 15 (omega arith) (omega arith) in
              let hi = home_read c b.laid b.placed p s m0 f i (Number x) rel
              (is_read c r k ins w.here i (among_first i (in_base a))) ei in
              let ha = home_read c b.laid b.placed p s m0 f w.to (Address block offset) rel
              (is_read c r k ins w.here w.to (among_rest w.to i (in_base a) (among_first w.to []))) ea in
              let jn : IsNumber (pos j) = subst IsNumber between.is hi.0 in
              let narrow : j < 2 ^ 32 = number_narrow j jn in
              let is_j : v1.registers d ≡ j = g.value ∙ same_home (home c r i) w.apart ∙ hi.1 ∙ ap word_of between.is
              ∙ word_is j narrow in
              let product = spread fold.first (steps_above w.low x) j w.width between.above in
              let low_product : j * w.width < NUMBER_LIMIT = below_last (j * w.width) (fold.last * w.width)
              (times_le j fold.last w.width between.most) fold.narrow in
              let g2 = scaled_run c words b r d j w.width last _ g.way.to v1 g.way.shows n15 is_j narrow low_product l1
              in
              let v2 = g2.view in
              let n12 : deferred.0 ≢ 12 = omega (arith, below) in
              let n15' : deferred.0 ≢ 15 = omega (arith, below) in
              let old : v2.registers deferred.0 ≡ v.registers deferred.0 = g2.near.registers deferred.0 n12 n15'
              ∙ g.moved.registers deferred.0 n12 in
              let row_at : reached (v.registers deferred.0) deferred.1 ≡ place c p block
              + offset = sym (update_same v.registers deferred.0 _) ∙ ap (value_of c r f m0) (sym w.home) ∙ ha.1 in
              let t5 = step_to c words b.stood i5 g2.way.to v2 g2.way.shows g2.left.stands.0 tt in
              let v5 = after i5 v2 in
              let whole : reached (v5.registers deferred.0) (deferred.1 +ℤ w.further) ≡ place c p block
              + (offset + steps_above w.low x * w.width) = ap (λ z. reached z (deferred.1 +ℤ w.further))
              (update_same v2.registers deferred.0 _
              ∙ ap (λ z. (z + v2.registers y + 0) % 2 ^ 32) old)
              ∙ reached_row (v.registers deferred.0) (v2.registers y) (fold.first * w.width)
              (steps_above w.low x * w.width) (place c p block + offset) deferred.1 w.further
              (sh.narrow deferred.0 (omega (arith, below))) w.least row_at
              (low_place (steps_above w.low x * w.width) lt)
              fold.is fold.few (g2.value ∙ product) ∙ sums (steps_above w.low x * w.width) in
              let l5 = left_next c words v2.place _ (Plain i5) [] g2.left in
              let s' = record s {
                current = giving w.to (Address block (offset + steps_above w.low x * w.width)) s.current;
              } in
              come_way c words b s s' m v1 g.way (come_way c words b s s' g.way.to v2 g2.way
              (come_to c words b s s' g2.way.to same_tape v5 t5 refl
              (defers_end c words b p s m0 f w.to (Address block (offset + steps_above w.low x * w.width)) further t5.to
              v5 rel me.input (writes_it c r k ins w.here w.to refl refl) (unflagged c r k ins w.here refl v5) w.next
              w.home (ha.0.0, lt) t5.shows whole
              (λ z z12 z15 nd. update_other v2.registers deferred.0 _ z nd ∙ g2.near.registers z z12 z15
              ∙ g.moved.registers z z12 ∙ sym (update_other v.registers deferred.0 _ z nd))
              (λ z. g2.near.words z ∙ g.moved.words z) (omega (arith, l5.ends)))))
