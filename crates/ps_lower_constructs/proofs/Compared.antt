-- Comparisons of strings.
use Rattle.std.proofs.Common.{◌≡◌, ℕ, suc, ◌+◌, ◌<◌, ◌≤◌, ℤ, pos, [], ◌∷◌, ◌++◌, length, Some, None, refl, sym, ap}
use Rattle.std.proofs.Common.{◌∙◌, subst, arith, append-nil}
use Rattle.std.proofs.lemmas.List.{length-map}
use Rattle.ps_tree.specs.declared.tree.operators.OrderRelation.{OrderRelation}
use Rattle.ps_tree.specs.Tree.{Structure, Literal, Contents, CompareStrings}
use Rattle.tac_code.specs.declared.code.Value.TheVariants.{Number as Numeral, Address}
use Rattle.tac_code.specs.declared.code.Instruction.TheVariants as i
use Rattle.tac_code.specs.Meaning.{related, values_of, and_more, put}
use Rattle.ps_meaning.specs.Values.{OrdinalValue, components_of}
use Rattle.ps_meaning.specs.Operators.{truth, strings_hold}
use Rattle.ps_meaning.specs.Worlds.{World, Gives, and_then}
use Rattle.ps_meaning.specs.Expressions.{Caller, Held, contents_of, operand}
use Rattle.tac_code_steps.specs.Runs.{Stands, Comes}
use Rattle.tac_code_steps.proofs.Runs.{split, a_step, ◌>>◌}
use Rattle.tac_code_steps.proofs.Temporaries.{put_same, put_other}
use Rattle.tac_code_steps.proofs.Instructions.{literal_step}
use Rattle.ps_lower_layout.specs.Shapes.{ByteShape, Whole}
use Rattle.ps_lower_layout.specs.Words.{bytes_of}
use Rattle.ps_lower_layout.specs.Paths.{HasSort}
use Rattle.tac_code.proofs.Impossible.{never, true_false}
use Rattle.ps_lower_layout.proofs.Counted.{bytes_length}
use Rattle.ps_lower_code.specs.Scopes.{even_from, held, beside}
use Rattle.ps_lower_code.specs.Calling.{structure_calls}
use Rattle.ps_lower_code.specs.Programs.{tac_of}
use Rattle.ps_lower_code.specs.Values.{relation_of, text_length, structure_code}
use Rattle.ps_lower_code.specs.Fits.{PlaceFits, StructureFits, ContentsFit}
use Rattle.ps_lower_code.proofs.Depths.{even_above, held_above}
use Rattle.ps_lower_relation.specs.Here.{Setting, machine_of, code_in, Work, Activated, IsActive, Alive, state}
use Rattle.ps_lower_relation.specs.Outcomes.{Reached, Runs}
use Rattle.ps_lower_relation.specs.RunTime.{WritesDo, first_difference}
use Rattle.ps_lower_relation.proofs.Numbers.{truth_is, truth_integer}
use Rattle.ps_lower_relation.proofs.ByteParts.{bytes_small}
use Rattle.ps_lower_relation.proofs.Differences.{strings_compared}
use Rattle.ps_lower_constructs.specs.Openings.{plain_scope, Opening, scope_in, context_in}
use Rattle.ps_lower_constructs.proofs.Runs.{with_temporary, runs_bind, keeps_refl, keeps_less}
use Rattle.ps_lower_constructs.proofs.Kept.{opened_kept}
use Rattle.ps_lower_constructs.proofs.Writes.{numbered_more, is_fresh}
use Rattle.ps_lower_constructs.proofs.Values.{FrontIn, FrontRuns}
use Rattle.ps_lower_constructs.proofs.Structures.{held_value, contents_are, StructureIn, structure_kept, held_shape}
use Rattle.ps_lower_constructs.proofs.Structures.{held_bytes, held_below, byte_values, StructureRuns}

module _ (p : Setting) (n : ℕ) (call : Caller) (c : Activated) (active : IsActive p c) (does : WritesDo p) where
  -- a string has this many bytes
  string_fits : (e : Structure) (o : Opening) (m : ℕ) → StructureFits (plain_scope p c) o.shapes e → text_length e ≡ m
      → (first : ℤ) × ContentsFit (plain_scope p c) o.shapes e (ByteShape m first)
  string_fits (Literal text) o m fits e = (pos 0, (fits.0, fits.1, (pos 0, ap (λ y. ByteShape y (pos 0)) (sym e))))
  string_fits (Contents q type) o m fits e =
      let known_ : m ≡ fits.0 = sym e ∙ ap (λ y. elim y as (λ z. ℕ) [ Some l ↦ l | None ↦ 0 ]) fits.3 in
      let same = ap (λ y. ByteShape y fits.1) (sym known_) in
      (fits.1, (fits.2 ∙ same, subst (λ y. PlaceFits (plain_scope p c) o.shapes q (Whole y)) same fits.4))

  -- the routine gives the first bytes that differ
  compared_so : (d x a b t m : ℕ) (f g : ℤ) (r : OrderRelation) (h u : Held) (w : World) (k : Work) (pc pc' : ℕ) → d ≤ a
      → a < b → b < t → Alive p c w k → StructureIn p c a (ByteShape m f) h w k → StructureIn p c b
      (ByteShape m g) u w k
      → Stands (code_in p) c.routine pc (i.Literal t (pos m) ∷ i.Call d (length p.program.routines + 7)
      (a ∷ b ∷ t ∷ []) 1 ∷ []) pc'
      → Reached p c d x w k (state p c w k pc) pc'
      (λ w' k'. related (relation_of r) (k'.temporaries d) (Some (Numeral (pos 0))) ≡ Some
      (strings_hold r (components_of (held_value h w)) (components_of (held_value u w)))) w
  compared_so d x a b t m f g r h u w k pc pc' la lb lt alive one two st =
      let left = bytes_of m (components_of (held_value h w)) in
      let right = bytes_of m (components_of (held_value u w)) in
      let count = Numeral (pos m) in
      let k1 = with_temporary k t count in
      let alive1 : Alive p c w k1 = record { holds = alive.holds; stands = alive.stands; room = alive.room } in
      let s = state p c w k pc in
      let s1 = state p c w k1 (suc pc) in
      let scratch = record { number = c.number; words = k.scratch } ∷ c.waiting in
      let long : length left ≡ m = bytes_length m (components_of (held_value h w)) in
      let wide : length right ≡ m = bytes_length m (components_of (held_value u w)) in
      let z = first_difference left right in
      let k2 : Work = record {
        count = suc k.count;
        temporaries = put k1.temporaries d (Numeral z);
        scratch = k.scratch;
      } in
      let na : a ≡ t → ⊥ = λ e. omega (arith, lb, lt, e) in
      let nb : b ≡ t → ⊥ = λ e. omega (arith, lt, e) in
      let values : values_of k1.temporaries (a ∷ b ∷ t ∷ []) ≡ Some
      (Address one.block one.offset ∷ Address two.block two.offset ∷ Numeral (pos (length left)) ∷ []) =
      ap (λ v. and_more v (and_more (k1.temporaries b) (and_more (k1.temporaries t) (Some []))))
      (put_other k.temporaries t count a na ∙ one.word)
      ∙ ap (λ v. and_more (Some (Address one.block one.offset)) (and_more v (and_more (k1.temporaries t) (Some []))))
      (put_other k.temporaries t count b nb ∙ two.word)
      ∙ ap (λ v. and_more (Some (Address one.block one.offset))
      (and_more (Some (Address two.block two.offset)) (and_more v (Some []))))
      (put_same k.temporaries t count ∙ ap (λ y. Some (Numeral (pos y))) (sym long)) in
      let room = held_below p c w k.count alive.holds active.small m f h one.block one.offset one.at in
      let room' = held_below p c w k.count alive.holds active.small m g u two.block two.offset two.at in
      let law = does.difference one.block one.offset two.block two.offset left right s1.memory s1.tape
      (held_bytes p c w k.count alive.holds scratch m f h one.block one.offset one.at)
      (held_bytes p c w k.count alive.holds scratch m g u two.block two.offset two.at)
      (bytes_small m (components_of (held_value h w))) (bytes_small m (components_of (held_value u w)))
      (long ∙ sym wide) (omega (arith, room, long)) (omega (arith, room', wide)) in
      let call_ = subst (λ y. Stands (code_in p) c.routine (suc pc) (i.Call d (y + 7) (a ∷ b ∷ t ∷ []) 1 ∷ []) pc')
      (sym (length-map p.program.routines (tac_of p.program))) st.1 in
      record {
        work = k2;
        alive = record {
          holds = record {
            fits = alive.holds.fits;
            objects = alive.holds.objects;
            names = alive.holds.names;
            numbered = numbered_more c.ghosts k.count (suc k.count) (omega arith) alive.holds.numbered;
            input = alive.holds.input;
          };
          stands = alive.stands;
          room = alive.room;
        };
        keeps = record {
          temporaries = λ j l.
              let n1 : j ≡ d → ⊥ = λ e. omega (arith, l, e) in
              let n2 : j ≡ t → ⊥ = λ e. omega (arith, l, la, lb, lt, e) in
              put_other k1.temporaries d (Numeral z) j n1 ∙ put_other k.temporaries t count j n2;
          scratch = λ j l. refl;
          grown = ([], sym (append-nil w.made));
        };
        comes = a_step s s1 (literal_step (machine_of p) s t (pos m) st.0) >> subst
            (λ q. Comes (machine_of p) s1 (state p c w k2 q)) call_.1
            (law.by s1 d 1 (a ∷ b ∷ t ∷ []) refl refl (is_fresh p c active w k1 (suc pc) alive1) values call_.0);
        result = ap (λ y. related (relation_of r) y (Some (Numeral (pos 0)))) (put_same k1.temporaries d (Numeral z))
            ∙ ap Some (strings_compared r m (components_of (held_value h w)) (components_of (held_value u w))
            (byte_values w.made m f (held_value h w)
            (held_shape p c w k.count alive.holds (ByteShape m f) h one.block one.offset one.at))
            (byte_values w.made m g (held_value u w)
            (held_shape p c w k.count alive.holds (ByteShape m g) u two.block two.offset two.at)));
      }

  pub compare_strings_front : (r : OrderRelation) (a b : Structure) → StructureRuns p n call c active a
      → StructureRuns p n call c active b → FrontRuns p n call c active (CompareStrings r a b)
  compare_strings_front r a b first second d x o w k pc pc' sort alive opened fits st =
      let code = scope_in p c o in
      let ctx = context_in c o in
      let m = text_length a in
      let la = held (structure_calls b) d in
      let l : d ≤ la = held_above (structure_calls b) d in
      let t = even_from (suc la) in
      let h : suc la ≤ t = even_above (suc la) in
      let fa = string_fits a o m fits.1 refl in
      let fb = string_fits b o m fits.2 (sym fits.3) in
      let cut2 = split (code_in p) c.routine pc (structure_code code a la x ++ structure_code code b t x)
      (i.Literal (beside t) (pos m) ∷ i.Call d (length p.program.routines + 7) (la ∷ t ∷ beside t ∷ []) 1 ∷ []) pc'
      st in
      let cut = split (code_in p) c.routine pc (structure_code code a la x) (structure_code code b t x) cut2.0 cut2.1 in
      runs_bind p (suc n) c d x la x d x w k pc cut.0 pc' (operand call a ctx w)
      (λ y w1. and_then (operand call b ctx w1)
      (λ z w2. and_then (contents_of y w2) (λ v w3. and_then (contents_of z w3)
      (λ u w4. Gives (OrdinalValue (truth (strings_hold r (components_of v) (components_of u)))) w4))))
      (λ y w' k'. StructureIn p c la (ByteShape m fa.0) y w' k')
      (λ v w' k'. FrontIn (CompareStrings r a b) d sort v w'.made k'.temporaries) l (omega arith) (omega arith)
      (omega arith)
      (first (ByteShape m fa.0) la x o w k pc cut.0 alive
      (opened_kept p c d x la w w k k o l (keeps_refl d x w k) opened) fa.1 cut.1)
      (λ y w1 k1 alive1 kept1 r1.
      runs_bind p (suc n) c d x t x d x w1 k1 cut.0 cut2.0 pc' (operand call b ctx w1)
      (λ z w2. and_then (contents_of y w2) (λ v w3. and_then (contents_of z w3)
      (λ u w4. Gives (OrdinalValue (truth (strings_hold r (components_of v) (components_of u)))) w4)))
      (λ z w' k'. StructureIn p c t (ByteShape m fb.0) z w' k')
      (λ v w' k'. FrontIn (CompareStrings r a b) d sort v w'.made k'.temporaries) (omega (arith, l, h))
      (omega arith) (omega arith) (omega arith)
      (second (ByteShape m fb.0) t x o w1 k1 cut.0 cut2.0 alive1
      (opened_kept p c d x t w w1 k k1 o (omega (arith, l, h)) (keeps_less d x la x l (omega arith) kept1) opened)
      fb.1 cut.2)
      (λ z w2 k2 alive2 kept2 r2.
      let v = held_value y w2 in
      let u = held_value z w2 in
      let q = strings_hold r (components_of v) (components_of u) in
      let e = compared_so d x la t (beside t) m fa.0 fb.0 r y z w2 k2 cut2.0 pc' l (omega (arith, h))
      (omega arith) alive2 (structure_kept p c t x la w1 w2 k1 k2 (ByteShape m fa.0) y (omega (arith, h)) kept2 r1)
      r2 cut2.2 in
      subst (λ f. Runs p (suc n) c d x w2 k2 cut2.0 pc'
      (and_then f (λ v w3. and_then (contents_of z w3)
      (λ u w4. Gives (OrdinalValue (truth (strings_hold r (components_of v) (components_of u)))) w4)))
      (λ v w' k'. FrontIn (CompareStrings r a b) d sort v w'.made k'.temporaries)) (sym (contents_are y w2))
      (subst (λ f. Runs p (suc n) c d x w2 k2 cut2.0 pc'
      (and_then f (λ u w4. Gives (OrdinalValue (truth (strings_hold r (components_of v) (components_of u)))) w4))
      (λ v w' k'. FrontIn (CompareStrings r a b) d sort v w'.made k'.temporaries)) (sym (contents_are z w2))
      (record {
        work = e.work;
        alive = e.alive;
        keeps = e.keeps;
        comes = e.comes;
        result = record {
          fits = subst (HasSort w2.made (OrdinalValue (truth q))) (sym fits.0) (truth_integer q);
          relates = λ s. e.result ∙ ap Some (sym (truth_is q));
          word = λ s. true_false s;
          number = λ s. fits.0;
          binary = λ s. (q, refl);
          binary_relation = λ s. (q, refl);
          byte = λ s. never s;
        };
      }))))
