-- Components of arrays, by the distance from the lowest index or by the index itself.
use Rattle.std.proofs.Common.{◌≡◌, ◌≢◌, ℕ, suc, ◌+◌, ◌*◌, ◌%◌, ◌^◌, ◌<◌, inl, Bool, true, false, cond, not, ◌&&◌}
use Rattle.std.proofs.Common.{◌≤◌, nat_lt, List, [], ◌∷◌, ◌++◌, Some, ℤ, pos, refl, sym, ap, ◌∙◌, subst, arith, Option}
use Rattle.std.proofs.Common.{None}
use Rattle.std.specs.Prelude.{int_lt}
use Rattle.std.proofs.lemmas.Int.{ints}
use Rattle.std.proofs.lemmas.Bool.{ltb-true}
use Rattle.behavior.specs.Endings.{Stuck}
use Rattle.risc_word.specs.declared.instr.Operation.TheVariants as op
use Rattle.risc_word.specs.declared.instr.Operand.TheVariants.{Content}
use Rattle.risc_word.specs.declared.instr.Instr.TheVariants as word
use Rattle.risc_machine.specs.Step as machine
use Rattle.risc_machine_laws.specs.View.{View, Shows, after, reached}
use Rattle.risc_machine_laws.specs.Runs.{same_tape}
use Rattle.tac_code.specs.declared.code.Block.{Block}
use Rattle.tac_code.specs.declared.code.Base.{Base}
use Rattle.tac_code.specs.declared.code.Value.TheVariants.{Number, Address}
use Rattle.tac_code.specs.declared.code.Instruction.TheVariants.{Index}
use Rattle.tac_code.specs.Numbers.{word_of, steps_above, is_in_range}
use Rattle.tac_code.specs.Meaning.{fetch, State, Goes, Over, giving, base_value, gives_component}
use Rattle.tac_code.specs.declared.code.TheConstants.{BLOCK_LIMIT, NUMBER_LIMIT}
use Rattle.tac_code.proofs.Numbers.{at_least}
use Rattle.risc_alloc.specs.Flow.{in_base}
use Rattle.risc_emit_relation.specs.Context.{Context, home, Places, place, IsNumber}
use Rattle.risc_emit_relation.specs.Changes.{Near}
use Rattle.risc_emit_relation.proofs.Basics.{update_same, update_other}
use Rattle.risc_emit_forms.specs.Pieces.{Plain, Left}
use Rattle.risc_emit_forms.specs.Forms as form
use Rattle.risc_emit_forms.specs.Forms.{fetched, target, save, base_register, above_register, index_code, scaled}
use Rattle.risc_emit_forms.specs.Forms.{scaled_register, base_address, address_register, steps_form, near_code}
use Rattle.risc_emit_forms.specs.Forms.{near_component, index_by}
use Rattle.risc_emit_forms.specs.Peephole.{block_at, short_of, back, short_by, near_of, folded, deferred_at}
use Rattle.risc_emit_forms.specs.Follows.{machine_of, Built, Belongs, Comes, Follows}
use Rattle.risc_emit_forms.proofs.Basics.{left_after, left_next, is_read, writes_it, among_first, among_rest}
use Rattle.risc_emit_forms.proofs.Basics.{integer_is}
use Rattle.risc_emit_forms.proofs.Flags.{unflagged}
use Rattle.risc_emit_forms.proofs.Shortfalls.{deferred_index_is}
use Rattle.risc_emit_forms.proofs.Runs.{step_to}
use Rattle.risc_emit_forms.proofs.Fetches.{fetched_not}
use Rattle.risc_emit_forms.proofs.Comes.{framed, gives_end, defers_end, untested}
use Rattle.risc_emit_forms.proofs.Joins.{fetched_is, come_to, come_way}
use Rattle.risc_emit_forms.proofs.Operands.{one_run}
use Rattle.risc_emit_forms.proofs.Offsets.{named_low}
use Rattle.risc_emit_forms.proofs.Ranges.{narrow_difference, above_not, Indexed, index_run}
use Rattle.risc_emit_forms.proofs.Calls.{follows_way}
use Rattle.risc_emit_forms.proofs.Scales.{scaled_not, scaled_run, steps_word, word_is}
use Rattle.risc_emit_forms.proofs.Folds.{Folded, Natural, folded_is, framed_base, framed_register, in_frame}
use Rattle.risc_emit_forms.proofs.Folds.{natural_between, spread, times_le}
use Rattle.risc_emit_forms.proofs.ArrayBases.{address_run, short_base, sum_run}

module _ (c : Context) (words : List ℕ) (b : Built c words) (p : Places) (s : State) (f : ℕ) (m : machine.State)
    (v : View) (sh : Shows words c.size m v) (be : Belongs c words p s v f) where
  -- ---- by the distance from the lowest index

  pub steps_follow : (t : ℕ) (a : Base) (i : ℕ) (low high : ℤ) (width error line : ℕ) (block : Block) (offset : ℕ)
      (x : ℤ) → fetch c.code s.current.routine s.current.place ≡ Some (Index t a i low high width error line)
      → base_value s.current a ≡ Some (Address block offset) → s.current.temporaries i ≡ Some (Number x)
      → folded c s.current.routine a low high width error ≡ None
      → near_of (deferred_at c s.current.routine (suc s.current.place)) a ≡ None → Left c words v.place
      (index_by c s.current.routine None (deferred_at c s.current.routine (suc s.current.place)) t a i low high width
      error line) (c.site s.current.routine (suc s.current.place)) → Follows c words
      (gives_component c.code (is_in_range low high x) t block (offset + steps_above low x * width) error line s) s m
  steps_follow t a i low high width error line block offset x here ea ei whole_offset no_near l =
      let r = s.current.routine in
      let k = s.current.place in
      let ins = Index t a i low high width error line in
      let so = fetched_is c words b r k ins here in
      let fi = form.fetch c r 12 (home c r i) in
      let d = fetched c r 12 (home c r i) in
      let ic = index_code c r d low high error line in
      let rest = steps_form c r (deferred_at c r (suc k)) t a (above_register c r d low) width in
      let g = one_run c words b p s f m v sh be 12 i (Number x) (ic ++ rest) _ (omega arith)
      (is_read c r k ins here i (among_first i (in_base a))) ei l in
      let v1 = g.view in
      let l1 = left_after c words v.place v1.place _ fi (ic ++ rest) l g.place in
      let near : Near (machine_of v) (machine_of v1) = record {
        registers = λ q n12 n15. g.moved.registers q n12;
        words = g.moved.words;
      } in
      let n15 = fetched_not c words b.stood b.laid b.placed r f
      (framed c words b p s (machine_of v) f be.related) 12 i 15 (omega arith) (omega arith) in
      let hl = integer_is low so.sound.3 in
      let hh = integer_is high so.sound.4 in
      let z = index_run c words b p s f (machine_of v) be.related d low high x error line rest _ g.way.to v1 g.way.shows
      n15 near hl hh g.good g.value l1 in
      follows_way c words b s m v1 g.way (gives_component c.code (is_in_range low high x) t block
      (offset + steps_above low x * width) error line s)
      (go v1 g.way.to near (above_not c words b p s f (machine_of v) be.related d low n15) hl g.good z
      (is_in_range low high x) refl)
    where
      in_range : (y : Bool) (z : Bool) → not y && z ≡ true → y ≡ false
      in_range true z e = absurd (cc e)
      in_range false z e = refl

      go : (v1 : View) (n : machine.State) → Near (machine_of v) (machine_of v1) → above_register c s.current.routine
          (fetched c s.current.routine 12 (home c s.current.routine i)) low ≢ 15 → IsNumber low → IsNumber x
          → Indexed c words b p s f (machine_of v) be.related
          (fetched c s.current.routine 12 (home c s.current.routine i)) low x error line
          (steps_form c s.current.routine (deferred_at c s.current.routine (suc s.current.place)) t a
          (above_register c s.current.routine (fetched c s.current.routine 12 (home c s.current.routine i)) low) width)
          (c.site s.current.routine (suc s.current.place)) (is_in_range low high x) n v1 → (inside : Bool)
          → is_in_range low high x ≡ inside → Follows c words
          (gives_component c.code inside t block (offset + steps_above low x * width) error line s) s n
      go v1 n near n15 hl hx k false e = k.stops e
      go v1 n near n15 hl hx k true e = fits (nat_lt (offset + steps_above low x * width) BLOCK_LIMIT) refl
        where
          fits : (small : Bool) → nat_lt (offset + steps_above low x * width) BLOCK_LIMIT ≡ small → Follows c words
              (cond small (Goes (record s {
                current = giving t
                    (Address block (offset + steps_above low x * width)) s.current;
              })) (Over Stuck)) s n
          fits false es = inl refl
          fits true es =
              let r = s.current.routine in
              let lt = ltb-true (offset + steps_above low x * width) BLOCK_LIMIT es in
              let z = k.goes e in
              let v2 = z.0 in
              let t2 = z.1 in
              let is = z.3 ∙ steps_word low x hl hx (at_least low x (in_range (int_lt x low) (not (int_lt high x)) e))
              in
              let narrow = subst (λ j. j < 2 ^ 32)
              (steps_word low x hl hx (at_least low x (in_range (int_lt x low) (not (int_lt high x)) e)))
              (narrow_difference (word_of x) (word_of low)) in
              come_way c words b s (record s {
                current = giving t
                    (Address block (offset + steps_above low x * width)) s.current;
              }) n v2 t2
              (ends (deferred_at c r (suc s.current.place)) refl v2 t2.to t2.shows (record {
                registers = λ j n12 n15'. z.2.registers j n12 n15' ∙ near.registers j n12 n15';
                words = λ j. z.2.words j ∙ near.words j;
              }) is narrow lt z.4)
            where
              sum : (y z n : ℕ) → y ≡ place c p block + offset → z ≡ n → offset + n < BLOCK_LIMIT → (y + z + 0) % 2 ^ 32
                  ≡ place c p block + (offset + n)
              sum y z n e e' lt = let h = named_low c words b p s f m v sh be block in omega (arith, e, e', lt, h)

              -- a register and the offset that it is short of
              short : (g o z n : ℕ) → g + o ≡ place c p block + offset → z ≡ n → offset + n < BLOCK_LIMIT
                  → (g + z + 0) % 2 ^ 32 + o ≡ place c p block + (offset + n)
              short g o z n e e' lt = let h = named_low c words b p s f m v sh be block in omega (arith, e, e', lt, h)

              ends : (deferred : Option (ℕ × ℤ)) → deferred_at c s.current.routine (suc s.current.place) ≡ deferred
                  → (v2 : View)
                  (n2 : machine.State) → Shows words c.size n2 v2 → Near (machine_of v) (machine_of v2) → v2.registers
                  (above_register c s.current.routine (fetched c s.current.routine 12 (home c s.current.routine i)) low)
                  ≡ steps_above low x → steps_above low x < 2 ^ 32 → offset + steps_above low x * width < BLOCK_LIMIT
                  → Left c words v2.place (steps_form c s.current.routine deferred t a
                  (above_register c s.current.routine (fetched c s.current.routine 12 (home c s.current.routine i)) low)
                  width) (c.site s.current.routine (suc s.current.place)) → Comes c words s
                  (record s { current = giving t (Address block (offset + steps_above low x * width)) s.current }) n2
              ends None straight v2 n2 sh2 near2 is narrow lt l2 =
                  let r = s.current.routine in
                  let h = home c r t in
                  let dd = target c r h in
                  let q = above_register c r (fetched c r 12 (home c r i)) low in
                  let y = scaled_register c r q width in
                  let ra = address_register c r a in
                  let i5 = word.Operate op.Add dd ra (Content y) in
                  let last = Plain i5 ∷ save c r h in
                  let g3 = scaled_run c words b s.current.routine q (steps_above low x) width
                  (base_address c r a ++ last) _ n2 v2 sh2 n15 is narrow
                  (omega (arith, lt)) l2 in
                  let v3 = g3.view in
                  let near3 : Near (machine_of v) (machine_of v3) = record {
                    registers = λ j n12 n15'. g3.near.registers j n12 n15' ∙ near2.registers j n12 n15';
                    words = λ j. g3.near.words j ∙ near2.words j;
                  } in
                  let ins = Index t a i low high width error line in
                  let g4 = address_run c words b p s f m v sh be a block offset last _ g3.way.to v3 g3.way.shows near3
                  (λ u eu. is_read c r s.current.place ins here u (among_rest u i (in_base a) eu)) ea g3.left in
                  let v4 = g4.view in
                  let t5 = step_to c words b.stood i5 g4.way.to v4 g4.way.shows g4.left.stands.0 tt in
                  let v5 = after i5 v4 in
                  let s4 : v4.registers y ≡ steps_above low x * width = g4.moved.registers y
                  (scaled_not c words b s.current.routine q width n15)
                  ∙ g3.value in
                  let whole : v5.registers dd ≡ place c p block
                  + (offset + steps_above low x * width) = update_same v4.registers dd _ ∙ sum (v4.registers ra)
                  (v4.registers y) (steps_above low x * width) g4.value s4 lt in
                  let s' = record s {
                    current = giving t
                        (Address block (offset + steps_above low x * width)) s.current;
                  } in
                  let done = come_to c words b s s' g4.way.to same_tape v5 t5 refl
                  (gives_end c words b p s (machine_of v) f t
                  (Address block (offset + steps_above low x * width)) t5.to v5 be.related be.input
                  (writes_it c r s.current.place ins here t refl refl)
                  (λ w. (unflagged c r s.current.place ins here refl w, straight)) (g4.good.0, lt) t5.shows
                  (record {
                    here = whole;
                    registers = λ j n12 n15' nd. update_other v4.registers dd _ j nd ∙ g4.moved.registers j n15'
                        ∙ near3.registers j n12 n15';
                    words = λ j. g4.moved.words j ∙ near3.words j;
                  }) (left_next c words v4.place _ (Plain i5) (save c r h) g4.left)) in
                  come_way c words b s s' n2 v3 g3.way (come_way c words b s s' g3.way.to v4 g4.way done)
              ends (Some deferred) defers v2 n2 sh2 near2 is narrow lt l2 =
                  let r = s.current.routine in
                  let q = above_register c r (fetched c r 12 (home c r i)) low in
                  let y = scaled_register c r q width in
                  let i5 = word.Operate op.Add deferred.0 (base_register c r a) (Content y) in
                  let g3 = scaled_run c words b s.current.routine q (steps_above low x) width
                  (Plain i5 ∷ []) _ n2 v2 sh2 n15 is narrow
                  (omega (arith, lt)) l2 in
                  let v3 = g3.view in
                  let near3 : Near (machine_of v) (machine_of v3) = record {
                    registers = λ j n12 n15'. g3.near.registers j n12 n15' ∙ near2.registers j n12 n15';
                    words = λ j. g3.near.words j ∙ near2.words j;
                  } in
                  let ins = Index t a i low high width error line in
                  let k = deferred_index_is c r s.current.place t a i low high width error line deferred here be.flags.1
                  defers in
                  let at = in_frame c r a deferred low high width error deferred.1 (short_of None (block_at c r a))
                  (ap (λ o. near_of o a) (sym defers) ∙ no_near)
                  (ap (λ o. short_by (back a low high width error) (short_of o (block_at c r a))) (sym whole_offset)
                  ∙ k.offset) in
                  let base = short_base c words b p s f m v sh be a block offset at.offset v3 near3 at.there ea in
                  let t5 = step_to c words b.stood i5 g3.way.to v3 g3.way.shows g3.left.stands.0 tt in
                  let v5 = after i5 v3 in
                  let whole : reached (v5.registers deferred.0) deferred.1 ≡ place c p block
                  + (offset + steps_above low x * width) = ap (reached (v5.registers deferred.0)) at.is
                  ∙ ap (λ z. z + at.offset) (update_same v3.registers deferred.0 _)
                  ∙ short (v3.registers (base_register c r a)) at.offset (v3.registers y)
                  (steps_above low x * width) base.0 g3.value lt in
                  let l5 = left_next c words v3.place _ (Plain i5) [] g3.left in
                  let s' = record s {
                    current = giving t
                        (Address block (offset + steps_above low x * width)) s.current;
                  } in
                  come_way c words b s s' n2 v3 g3.way
                  (come_to c words b s s' g3.way.to same_tape v5 t5 refl
                  (defers_end c words b p s (machine_of v) f t
                  (Address block (offset + steps_above low x * width)) deferred t5.to v5 be.related be.input
                  (writes_it c r s.current.place ins here t refl refl)
                  (unflagged c r s.current.place ins here refl v5) defers k.home (base.1.0, lt) t5.shows whole
                  (λ j n12 n15' nd. update_other v3.registers deferred.0 _ j nd ∙ near3.registers j n12 n15')
                  (λ j. near3.words j) (omega (arith, l5.ends))))

  -- ---- by the index itself

  pub fold_follows : (t : ℕ) (a : Base) (i : ℕ) (low high : ℤ) (width error line : ℕ) (block : Block) (offset : ℕ)
      (x : ℤ)
      (n : ℕ) → fetch c.code s.current.routine s.current.place ≡ Some (Index t a i low high width error line)
      → base_value s.current a ≡ Some (Address block offset) → s.current.temporaries i ≡ Some (Number x)
      → folded c s.current.routine a low high width error ≡ Some n → Left c words v.place
      (index_by c s.current.routine (Some n) (deferred_at c s.current.routine (suc s.current.place)) t a i low high
      width error line) (c.site s.current.routine (suc s.current.place)) → Follows c words
      (gives_component c.code (is_in_range low high x) t block (offset + steps_above low x * width) error line s) s m
  fold_follows t a i low high width error line block offset x n here ea ei ef l = go (is_in_range low high x) refl
    where
      fold : Folded c s.current.routine a low high width error n
      fold = folded_is c s.current.routine a low high width error n ef

      go : (inside : Bool) → is_in_range low high x ≡ inside → Follows c words
          (gives_component c.code inside t block (offset + steps_above low x * width) error line s) s m
      go false e = untested c words b s error line m fold.none
      go true e = fits (nat_lt (offset + steps_above low x * width) BLOCK_LIMIT) refl
        where
          between : Natural low x fold.first fold.last
          between = natural_between low high x fold.first fold.last fold.low_is fold.high_is e

          fits : (small : Bool) → nat_lt (offset + steps_above low x * width) BLOCK_LIMIT ≡ small → Follows c words
              (cond small (Goes (record s {
                current = giving t
                    (Address block (offset + steps_above low x * width)) s.current;
              })) (Over Stuck)) s m
          fits false es = inl refl
          fits true es =
              let r = s.current.routine in
              let k = s.current.place in
              let ins = Index t a i low high width error line in
              let j = between.number in
              let d = fetched c r 12 (home c r i) in
              let y = scaled_register c r d width in
              let rest = near_component c r n (deferred_at c r (suc k)) t a y in
              let lt = ltb-true (offset + steps_above low x * width) BLOCK_LIMIT es in
              let g = one_run c words b p s f m v sh be 12 i (Number x) (scaled c r d width ++ rest) _ (omega arith)
              (is_read c r k ins here i (among_first i (in_base a))) ei l in
              let v1 = g.view in
              let l1 = left_after c words v.place v1.place _ (form.fetch c r 12 (home c r i))
              (scaled c r d width ++ rest) l g.place in
              let n15 = fetched_not c words b.stood b.laid b.placed r f
              (framed c words b p s (machine_of v) f be.related) 12 i 15 (omega arith) (omega arith) in
              let jn : IsNumber (pos j) = subst IsNumber between.is g.good in
              let narrow : j < 2 ^ 32 = number_narrow j jn in
              let is : v1.registers d ≡ j = g.value ∙ ap word_of between.is ∙ word_is j narrow in
              let product = spread fold.first (steps_above low x) j width between.above in
              let low_product : j * width < NUMBER_LIMIT = below_last (j * width) (fold.last * width)
              (times_le j fold.last width between.most) fold.narrow in
              let g2 = scaled_run c words b s.current.routine d j width rest _ g.way.to v1 g.way.shows n15 is narrow
              low_product l1 in
              let near2 : Near (machine_of v) (machine_of g2.view) = record {
                registers = λ q n12 n15'. g2.near.registers q n12 n15' ∙ g.moved.registers q n12;
                words = λ q. g2.near.words q ∙ g.moved.words q;
              } in
              let y15 = scaled_not c words b s.current.routine d width n15 in
              come_way c words b s (record s {
                current = giving t
                    (Address block (offset + steps_above low x * width)) s.current;
              }) m v1 g.way (come_way c words b s (record s {
                current = giving t
                    (Address block (offset + steps_above low x * width)) s.current;
              }) g.way.to g2.view g2.way
              (ends (deferred_at c r (suc k)) refl g2.view g2.way.to g2.way.shows near2 y y15 (j * width) g2.value
              product lt g2.left))
            where
              number_narrow : (j : ℕ) → IsNumber (pos j) → j < 2 ^ 32
              number_narrow j h = omega (arith, ints, h.0, h.1)

              below_last : (x y : ℕ) → x ≤ y → y < NUMBER_LIMIT → x < NUMBER_LIMIT
              below_last x y le lt = omega (arith, le, lt)

              -- a register with an offset, and the distance of the index itself
              total : (g w kw d z z' o : ℕ) → g + w ≡ place c p block + offset → n + kw ≡ w → z ≡ z' → z' ≡ kw + d
                  → offset + d < BLOCK_LIMIT → o ≡ g + n → (o + z + 0) % 2 ^ 32 ≡ place c p block + (offset + d)
              total g w kw d z z' o e e' ez e'' lt eo = let h = named_low c words b p s f m v sh be block in omega
                  (arith, e, e', ez, e'', lt, eo, h)

              short : (g w kw d z z' o : ℕ) → g + w ≡ place c p block + offset → n + kw ≡ w → z ≡ z' → z' ≡ kw + d
                  → offset + d < BLOCK_LIMIT → o ≡ n → (g + z + 0) % 2 ^ 32 + o ≡ place c p block + (offset + d)
              short g w kw d z z' o e e' ez e'' lt eo = let h = named_low c words b p s f m v sh be block in omega
                  (arith, e, e', ez, e'', lt, eo, h)

              room : (g w kw d : ℕ) → g + w ≡ place c p block + offset → n + kw ≡ w → offset + d < BLOCK_LIMIT
                  → g + n < 2 ^ 32
              room g w kw d e e' lt = let h = named_low c words b p s f m v sh be block in omega (arith, e, e', lt, h)

              ends : (deferred : Option (ℕ × ℤ)) → deferred_at c s.current.routine (suc s.current.place) ≡ deferred
                  → (v2 : View)
                  (n2 : machine.State) → Shows words c.size n2 v2 → Near (machine_of v) (machine_of v2) → (y : ℕ) → y
                  ≢ 15 → (far : ℕ) → v2.registers y ≡ far → far ≡ fold.first * width + steps_above low x * width
                  → offset + steps_above low x * width < BLOCK_LIMIT → Left c words v2.place
                  (near_component c s.current.routine n deferred t a y) (c.site s.current.routine (suc s.current.place))
                  → Comes c words s
                  (record s { current = giving t (Address block (offset + steps_above low x * width)) s.current }) n2
              ends None straight v2 n2 sh2 near2 y y15 far there far_is lt l2 =
                  let r = s.current.routine in
                  let h = home c r t in
                  let dd = target c r h in
                  let q = base_register c r a in
                  let i5 = word.Operate op.Add dd 15 (Content y) in
                  let last = Plain i5 ∷ save c r h in
                  let ins = Index t a i low high width error line in
                  let base = short_base c words b p s f m v sh be a block offset fold.whole v2 near2 fold.block ea in
                  let g4 = sum_run c words b p s f m v sh be q n last _ n2 v2 sh2
                  (framed_register c r a fold.whole fold.block)
                  (room (v2.registers q) fold.whole (fold.first * width) (steps_above low x * width) base.0 fold.rest
                  lt) l2 in
                  let v4 = g4.view in
                  let t5 = step_to c words b.stood i5 g4.way.to v4 g4.way.shows g4.left.stands.0 tt in
                  let v5 = after i5 v4 in
                  let whole : v5.registers dd ≡ place c p block
                  + (offset + steps_above low x * width) = update_same v4.registers dd _ ∙ total (v2.registers q)
                  fold.whole (fold.first * width) (steps_above low x * width) (v4.registers y) far (v4.registers 15)
                  base.0 fold.rest (g4.moved.registers y y15 ∙ there) far_is lt g4.value in
                  let s' = record s {
                    current = giving t
                        (Address block (offset + steps_above low x * width)) s.current;
                  } in
                  come_way c words b s s' n2 v4 g4.way
                  (come_to c words b s s' g4.way.to same_tape v5 t5 refl
                  (gives_end c words b p s (machine_of v) f t
                  (Address block (offset + steps_above low x * width)) t5.to v5 be.related be.input
                  (writes_it c r s.current.place ins here t refl refl)
                  (λ w. (unflagged c r s.current.place ins here refl w, straight)) (base.1.0, lt) t5.shows
                  (record {
                    here = whole;
                    registers = λ j n12 n15' nd. update_other v4.registers dd _ j nd ∙ g4.moved.registers j n15'
                        ∙ near2.registers j n12 n15';
                    words = λ j. g4.moved.words j ∙ near2.words j;
                  }) (left_next c words v4.place _ (Plain i5) (save c r h) g4.left)))
              ends (Some deferred) defers v2 n2 sh2 near2 y y15 far there far_is lt l2 =
                  let r = s.current.routine in
                  let q = base_register c r a in
                  let i5 = word.Operate op.Add deferred.0 q (Content y) in
                  let ins = Index t a i low high width error line in
                  let fb = framed_base c r a fold.whole fold.block in
                  let k = deferred_index_is c r s.current.place t a i low high width error line deferred here be.flags.1
                  defers in
                  let at = in_frame c r a deferred low high width error deferred.1 (Some n) (fb.near deferred)
                  (ap (λ o. short_by (back a low high width error) (short_of o (block_at c r a))) (sym ef) ∙ k.offset)
                  in
                  let left : at.offset ≡ n = sym (cc at.there) in
                  let base = short_base c words b p s f m v sh be a block offset fold.whole v2 near2 fold.block ea in
                  let l3 = subst (λ ps. Left c words v2.place (ps ++ (Plain i5 ∷ [])) (c.site r (suc s.current.place)))
                  fb.code (subst (λ j. Left c words v2.place
                  (near_code c r a ++ (Plain (word.Operate op.Add deferred.0 j (Content y)) ∷ []))
                  (c.site r (suc s.current.place))) fb.register l2) in
                  let t5 = step_to c words b.stood i5 n2 v2 sh2 l3.stands.0 tt in
                  let v5 = after i5 v2 in
                  let whole : reached (v5.registers deferred.0) deferred.1 ≡ place c p block
                  + (offset + steps_above low x * width) = ap (reached (v5.registers deferred.0)) at.is
                  ∙ ap (λ z. z + at.offset) (update_same v2.registers deferred.0 _)
                  ∙ short (v2.registers q) fold.whole (fold.first * width) (steps_above low x * width)
                  (v2.registers y) far at.offset base.0 fold.rest there far_is lt left in
                  let l5 = left_next c words v2.place _ (Plain i5) [] l3 in
                  let s' = record s {
                    current = giving t
                        (Address block (offset + steps_above low x * width)) s.current;
                  } in
                  come_to c words b s s' n2 same_tape v5 t5 refl
                  (defers_end c words b p s (machine_of v) f t
                  (Address block (offset + steps_above low x * width)) deferred t5.to v5 be.related be.input
                  (writes_it c r s.current.place ins here t refl refl)
                  (unflagged c r s.current.place ins here refl v5) defers k.home (base.1.0, lt) t5.shows whole
                  (λ j n12 n15' nd. update_other v2.registers deferred.0 _ j nd ∙ near2.registers j n12 n15')
                  (λ j. near2.words j) (omega (arith, l5.ends)))
