-- More names change nothing that was said of the ones before.
use Rattle.std.proofs.Common.{◌≡◌, ℕ, ◌+◌, ◌<◌, ◌≤◌, ◌%◌, List, [], ◌∷◌, refl, sym, ap, ◌∙◌, subst, arith}
use Rattle.std.proofs.lemmas.Option.{slice_get_within}
use Rattle.tac_code.specs.declared.code.Block.{Block}
use Rattle.tac_code.specs.declared.code.Block.TheVariants.{Frame, Scratch, Object, Constant}
use Rattle.tac_code.specs.declared.code.Value.{Value}
use Rattle.tac_code.specs.declared.code.Value.TheVariants.{Number, Address, Routine}
use Rattle.tac_code.specs.Memory.{Words, Living}
use Rattle.tac_code.specs.Meaning.{Temporaries, Activation}
use Rattle.risc_emit_relation.specs.Context.{Context, cost, Places, place, word, IsNamed, IsValue, Grown}
use Rattle.risc_emit_relation.specs.Related.{Holds, Owner, owner_of, Own, Waits, Open, Stands, Objects, Machine, Homes}

module _ (c : Context) (p q : Places) (g : Grown p q) where
  pub named_grown : (b : Block) → IsNamed p b → IsNamed q b
  named_grown (Frame a) h = omega (arith, h, g.activations)
  named_grown (Scratch a) h = omega (arith, h, g.activations)
  named_grown (Object n) h = omega (arith, h, g.objects)
  named_grown (Constant r k) h = tt

  pub place_grown : (b : Block) → IsNamed p b → place c q b ≡ place c p b
  place_grown (Frame a) h = g.frame a h
  place_grown (Scratch a) h = g.scratch a h
  place_grown (Object n) h = g.object n h
  place_grown (Constant r k) h = refl

  pub value_grown : (x : Value) → IsValue c p x → IsValue c q x
  value_grown (Number z) h = h
  value_grown (Address b o) h = (named_grown b h.0, h.1)
  value_grown (Routine r) h = h

  pub word_grown : (x : Value) → IsValue c p x → word c q x ≡ word c p x
  word_grown (Number z) h = refl
  word_grown (Address b o) h = ap (λ n. n + o) (place_grown b h.0)
  word_grown (Routine r) h = refl

  pub holds_grown : (w : ℕ → ℕ) (at : ℕ) (ws : Words) → Holds c p w at ws → Holds c q w at ws
  holds_grown w at ws h i x e =
      let k = h i x e in (value_grown x k.0, k.1 ∙ sym (word_grown x k.0))

  pub own_grown : (w : ℕ → ℕ) (f : ℕ) (y : Owner) (b d : Living) → Own c p w f y b d → Own c q w f y b d
  own_grown w f y b d o =
      record {
        routine = o.routine;
        is = o.is;
        frame_number = o.frame_number;
        scratch_number = o.scratch_number;
        named = omega (arith, o.named, g.activations);
        frame_place = g.frame y.number o.named ∙ o.frame_place;
        scratch_place = g.scratch y.number o.named ∙ o.scratch_place;
        frame_length = o.frame_length;
        scratch_length = o.scratch_length;
        frame = holds_grown w _ b.words o.frame;
        scratch = holds_grown w _ d.words o.scratch;
        back = o.back;
      }

  pub waits_grown : (w : ℕ → ℕ) (f : ℕ) (x : Activation) (y : Owner) (l : ℕ) → Waits c p w f x y l → Waits c q w f x y l
  waits_grown w f x y l h =
      record {
        program = h.program;
        call = h.call;
        resume = h.resume;
        line = h.line;
        saved = λ u k v live ne e is. let s = h.saved u k v live ne e is
            in (value_grown v s.0, s.1 ∙ sym (word_grown v s.0));
      }

  pub open_grown : (w : ℕ → ℕ) (f : ℕ) (y : Owner) (xs : List Activation) (bs ds : List Living)
      → Open c p w f y xs bs ds → Open c q w f y xs bs ds
  open_grown w f y xs [] ds h = absurd h
  open_grown w f y xs (b ∷ bs) [] h = absurd h
  open_grown w f y [] (b ∷ bs) (d ∷ ds) h = (own_grown w f y b d h.0, h.1, h.2, h.3)
  open_grown w f y (x ∷ xs) (b ∷ bs) (d ∷ ds) h = (
    own_grown w f y b d h.0,
    waits_grown w _ x y _ h.1,
    open_grown w (f + cost c y.routine)
        (owner_of x) xs bs ds h.2,
  )

  -- of the objects as many as before: a new one is added by `objects_made`
  pub stands_grown : (w : ℕ → ℕ) (n : ℕ) (ws : Words) (next next' : ℕ) → n < p.objects → next ≤ next'
      → Stands c p w n ws next → Stands c q w n ws next'
  stands_grown w n ws next next' lt le s =
      let e = g.object n lt in
      record {
        aligned = ap (λ a. a % 4) e ∙ s.aligned;
        low = omega (arith, e, s.low);
        room = omega (arith, e, s.room);
        high = omega (arith, e, s.high);
        holds = subst (λ a. Holds c q w a ws) (sym e) (holds_grown w _ ws s.holds);
      }

  pub objects_grown : (w : ℕ → ℕ) (objects : List Words) (next : ℕ) → q.objects ≡ p.objects → Objects c p w objects next
      → Objects c q w objects next
  objects_grown w objects next same h =
      record {
        count = h.count ∙ sym same;
        each = λ n ws e.
            let lt = slice_get_within objects n ws e in
            stands_grown w n ws next next (omega (arith, h.count, lt)) (omega arith) (h.each n ws e);
        rise = λ m n ws vs lt e e'.
            let lm = slice_get_within objects m ws e in
            let ln = slice_get_within objects n vs e' in
            let r = h.rise m n ws vs lt e e' in
            let em = g.object m (omega (arith, h.count, lm)) in
            let en = g.object n (omega (arith, h.count, ln)) in
            (omega (arith, r.0, em, en), omega (arith, r.1, em, en));
      }

  pub homes_grown : (r k f : ℕ) (ts : Temporaries) (m : Machine) → Homes c p r k f ts m → Homes c q r k f ts m
  homes_grown r k f ts m h u x live e =
      let v = h u x live e in (value_grown x v.0, v.1 ∙ sym (word_grown x v.0))
