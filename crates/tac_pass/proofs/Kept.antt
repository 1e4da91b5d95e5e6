-- Steps that are kept and read or write memory are followed.
use Rattle.std.proofs.Common.{◌≡◌, ◌⊎◌, inl, inr, ℕ, suc, ◌+◌, ◌*◌, ◌/◌, ◌<◌, ℤ, pos, false, not, if◌then◌else◌, List}
use Rattle.std.proofs.Common.{length, map, slice_get, Option, Some, refl, sym, ap, ◌∙◌, subst}
use Rattle.behavior.specs.Endings.{Stuck}
use Rattle.tac_code.specs.declared.code.Block.{Block}
use Rattle.tac_code.specs.declared.code.Block.TheVariants.{Frame}
use Rattle.tac_code.specs.declared.code.Value.{Value}
use Rattle.tac_code.specs.declared.code.Value.TheVariants.{Number, Address}
use Rattle.tac_code.specs.declared.code.Base.{Base}
use Rattle.tac_code.specs.declared.code.Base.TheVariants as base
use Rattle.tac_code.specs.declared.code.Instruction.{Instruction}
use Rattle.tac_code.specs.declared.code.Instruction.TheVariants.{Copy, Load, Store, LoadByte, StoreByte}
use Rattle.tac_code.specs.Memory.{Words, Memory, known, with_word, with_byte_at, changed_in, load, load_byte, store}
use Rattle.tac_code.specs.Memory.{store_byte}
use Rattle.tac_code.specs.Meaning.{Code, State, Goes, Over, fetch, put, with_some, with_number, with_address}
use Rattle.tac_code.specs.Meaning.{with_byte_value, base_value, gives, stores, text_at, onward}
use Rattle.tac_code_steps.specs.Turns.{turns_aside}
use Rattle.tac_code_steps.specs.InTurns.{Setting}
use Rattle.tac_pass.specs.Moved.{moved_block, moved, moved_word, moved_living}
use Rattle.tac_pass.specs.Claims.{Claim, Certificate}
use Rattle.tac_pass.specs.Alike.{Alike}
use Rattle.tac_pass.specs.Rules.{Sees, Wrote, Elsewhere, Anywhere, As, As_word, Loads, LoadsWord, CopiesWord, Stores}
use Rattle.tac_pass.specs.Rules.{StoresWord, KeepsWord, Renames}
use Rattle.tac_pass.proofs.Words.{with_own}
use Rattle.tac_pass.proofs.Inside.{with_set, NotThere, inside_stored, inside_kept, inside_hit, inside_missed}
use Rattle.tac_pass.proofs.Memories.{load_there, byte_there, Writes, word_writes, byte_writes, same_grown, Hit, Missed}
use Rattle.tac_pass.proofs.Memories.{block_changed}
use Rattle.tac_pass.proofs.Likeness.{given, alike_scene}
use Rattle.tac_pass.proofs.Values.{elsewhere, hold_value, base_there, hits, sees, copied_away}
use Rattle.tac_pass.proofs.Own.{own_load, own_store}
use Rattle.tac_pass.proofs.Stepping.{some_follows, number_follows, address_follows, byte_follows, reached, gives_follow}
use Rattle.tac_pass.proofs.Stepping.{given_follows, number_given}
use Rattle.tac_pass.proofs.StepParts.{Follow, behind_store, both_stored, c', new_step, old_step, old_stored}
use Rattle.tac_pass.proofs.StepParts.{own_store_follows, own_word, word_away}

module _ (old new : Code) (p : Setting) (e : Certificate) (same_count : length new.program ≡ length old.program)
    (same_objects : new.objects ≡ old.objects)
    (texts : (r place : ℕ) (bytes : List ℕ) → text_at old r place ≡ Some bytes → text_at new r (e.stands r place)
    ≡ Some bytes) (s s' : State) (c : Claim) (a : Alike e c s s') where
  -- ---- what is kept

  module _ (i' : Instruction) (there : fetch new s'.current.routine s'.current.place ≡ Some i')
      (next : suc s'.current.place ≡ e.starts s.current.routine (suc s.current.place)) where
    pub word_load : (t n k : ℕ) → n ≡ 4 * k → LoadsWord s.current.routine c
        (c' old new p e same_count same_objects texts s s' c a) t k n i'
        ⊎ CopiesWord s.current.routine c (c' old new p e same_count same_objects texts s s' c a) t k i'
        → Follow old new p e same_count same_objects texts s s' c a false
        (old_step old new p e same_count same_objects texts s s' c a (Load t base.Frame n))
    word_load t n k f x =
        some_follows old new p e false s s' (load (text_at old) s.memory (Frame s.current.number) (0 + n)) _
        (λ v is. which v (own_word old new p e same_count same_objects texts s s' c a n k v f is) x)
      where
        which : (v : Value) → known (slice_get a.words k) ≡ Some v → LoadsWord s.current.routine c
            (c' old new p e same_count same_objects texts s s' c a) t k n i'
            ⊎ CopiesWord s.current.routine c (c' old new p e same_count same_objects texts s s' c a) t k i'
            → Follow old new p e same_count same_objects texts s s' c a false (gives t v s)
        which v is (inl x) =
            gives_follow old new p e same_count s s' c a (Load x.t' base.Frame n) (there ∙ ap Some x.same) next t x.t'
            (λ j. j ≡ k) (As_word c k) v (moved e.stands v) refl
            (λ j same. ap (λ j. known (slice_get a.words j)) same ∙ is)
            (word_away old new p e same_count same_objects texts s s' c a k v is) x.gave
            (own_load old new p e s s' c a n k x.t' v f x.fresh is)
        which v is (inr x) =
            gives_follow old new p e same_count s s' c a (Copy x.t' x.a') (there ∙ ap Some x.same) next t x.t'
            (λ j. j ≡ k) (As_word c k) v (moved e.stands v) refl
            (λ j same. ap (λ j. known (slice_get a.words j)) same ∙ is)
            (word_away old new p e same_count same_objects texts s s' c a k v is) x.gave
            (ap (λ o. with_some o (λ w. gives x.t' w s')) (a.inside.held k x.a' x.held ∙ ap (moved_word e.stands) is))

    pub word_store : (b n k : ℕ) → n ≡ 4 * k → StoresWord s.current.routine c
        (c' old new p e same_count same_objects texts s s' c a) b k n i'
        ⊎ KeepsWord s.current.routine c (c' old new p e same_count same_objects texts s s' c a) b k i'
        → Follow old new p e same_count same_objects texts s s' c a false
        (old_step old new p e same_count same_objects texts s s' c a (Store base.Frame n b))
    word_store b n k f x = own_store_follows old new p e same_count same_objects texts s s' c a false n k b f
        (λ v is below. which v is below x)
      where
        which : (v : Value) → s.current.temporaries b ≡ Some v → k < length a.words
            → StoresWord s.current.routine c
            (c' old new p e same_count same_objects texts s s' c a) b k n i' ⊎ KeepsWord s.current.routine c
            (c' old new p e same_count same_objects texts s s' c a) b k i'
            → Follow old new p e same_count same_objects texts s s' c a false
            (Goes (behind_store old new p e same_count same_objects texts s s' c a k v))
        which v is below (inl x) =
            let t' = record s' {
              current = onward s'.current;
              memory = with_own s.current.number
                  (with_set a.words' k (moved e.stands v)) (map (moved_living e.stands) a.rest) s'.memory;
            } in (
              t',
              (
                alike_scene e a (suc s.current.place)
                    (suc s'.current.place) s.current.temporaries s'.current.temporaries
                    (with_own s.current.number (with_set a.words k v) a.rest s.memory)
                    (with_own s.current.number (with_set a.words' k (moved e.stands v))
                    (map (moved_living e.stands) a.rest) s'.memory) s.heap s'.heap a.outside.heap
                    (both_stored old new p e same_count same_objects texts s s' c a k v)
                    (same_grown e.stands a.rest)
                    (inside_stored e.stands s.current.number a.inside k v below b is x.stored),
                next,
              ),
              reached old new p e same_count s s' c a (Store base.Frame n x.b') (there ∙ ap Some x.same) t'
                  (own_store old new p e s s' c a n k x.b' v f below (hold_value e a b x.b' v x.holds is)),
            )
        which v is below (inr x) = (
          given x.t' (moved e.stands v) s',
          (
            alike_scene e a (suc s.current.place) (suc s'.current.place) s.current.temporaries
                (put s'.current.temporaries x.t' (moved e.stands v))
                (with_own s.current.number (with_set a.words k v) a.rest s.memory) s'.memory s.heap s'.heap
                a.outside.heap (old_stored old new p e same_count same_objects texts s s' c a k v)
                (same_grown e.stands a.rest)
                (inside_kept e.stands s.current.number a.inside k v below b is x.t' x.kept),
            next,
          ),
          reached old new p e same_count s s' c a (Copy x.t' x.b') (there ∙ ap Some x.same)
              (given x.t' (moved e.stands v) s') (ap (λ o. with_some o (λ w. gives x.t' w s'))
              (hold_value e a b x.b' v x.holds is)),
        )

    -- ---- memory behind any base

    agrees_at : (b : Base) (n : ℕ) (block : Block) (o : ℕ) → Sees s.current.routine c b n → base_value s.current b
        ≡ Some (Address block o) → block ≡ Frame s.current.number
        → known (slice_get a.words' ((o + n) / 4)) ≡ moved_word e.stands (known (slice_get a.words ((o + n) / 4)))
    agrees_at b n block o h is own = a.inside.agree ((o + n) / 4) (sees e a b block o n h is own)

    pub any_load : (t n : ℕ) (b : Base) → Loads s.current.routine c
        (c' old new p e same_count same_objects texts s s' c a) t b n i'
        → Follow old new p e same_count same_objects texts s s' c a false
        (old_step old new p e same_count same_objects texts s s' c a (Load t b n))
    any_load t n b x =
        address_follows old new p e false s s' (base_value s.current b) _
        (λ block o is. some_follows old new p e false s s' (load (text_at old) s.memory block (o + n)) _ (λ v found.
        given_follows old new p e same_count s s' c a (Load x.t' x.b' n) (there ∙ ap Some x.same) next t x.t' Anywhere v
        (moved e.stands v) refl (λ o f. absurd f) x.gave
        (ap (λ w. with_address w (λ block offset. with_some (load (text_at new) s'.memory block (offset + n))
        (λ v. gives x.t' v s'))) (base_there e a b x.b' x.from ∙ ap (moved_word e.stands) is)
        ∙ ap (λ w. with_some w (λ v. gives x.t' v s'))
        (load_there e.stands (text_at old) (text_at new) texts a.outside.memory block (o + n) v
        (agrees_at b n block o x.sees is) found))))

    pub byte_load : (t n : ℕ) (b : Base) → Renames s.current.routine c
        (c' old new p e same_count same_objects texts s s' c a) (LoadByte t b n) i'
        → Follow old new p e same_count same_objects texts s s' c a false
        (old_step old new p e same_count same_objects texts s s' c a (LoadByte t b n))
    byte_load t n b (t', b', f, from, h, g) =
        address_follows old new p e false s s' (base_value s.current b) _
        (λ block o is. some_follows old new p e false s s' (load_byte (text_at old) s.memory block (o + n)) _
        (λ byte found.
        number_given old new p e same_count s s' c a (LoadByte t' b' n) (there ∙ ap Some f) next t t' (pos byte) g
        (ap (λ w. with_address w (λ block offset. with_some (load_byte (text_at new) s'.memory block (offset + n))
        (λ byte. gives t' (Number (pos byte)) s'))) (base_there e a b b' from ∙ ap (moved_word e.stands) is)
        ∙ ap (λ w. with_some w (λ byte. gives t' (Number (pos byte)) s'))
        (byte_there e.stands (text_at old) (text_at new) texts a.outside.memory block (o + n) byte
        (agrees_at b n block o h is) found))))

    -- the memories behind a store, which was one into the own frame or not
    module _ (b : Base) (n : ℕ) (block : Block) (o : ℕ) (is : base_value s.current b ≡ Some (Address block o))
        (change change' : Words → Option Words) (InPart : Type 0) (Is : Value → Type 0) (Away : ℕ → Type 0)
        (not : (v : Value) → Is v → NotThere s.current.number Away v)
        (w : Writes e.stands change change' ((o + n) / 4) InPart Is)
        (wrote : Wrote s.current.routine b n Away c (c' old new p e same_count same_objects texts s s' c a)) where
      wrote_follows : (m2 : Memory) → new_step old new p e same_count same_objects texts s s' c a i' ≡ with_some
          (changed_in s'.memory (moved_block e.stands block) change') (λ m. stores m s')
          → Hit e.stands change change' ((o + n) / 4) InPart Is w a.outside.memory m2 block
          ⊎ Missed e.stands change change' ((o + n) / 4) InPart Is w a.outside.memory m2 block
          → Follow old new p e same_count same_objects texts s s' c a
          (turns_aside (Some i')) (stores m2 s)
      wrote_follows m2 f (inl x) =
          let m2' = with_own s.current.number (with_set a.words' ((o + n) / 4) (moved e.stands x.v))
          (map (moved_living e.stands) a.rest) s'.memory in
          subst (λ m. Follow old new p e same_count same_objects texts s s' c a (turns_aside (Some i')) (stores m s))
          (sym x.old_one) (
            record s' { current = onward s'.current; memory = m2' },
            (
              alike_scene e a (suc s.current.place) (suc s'.current.place) s.current.temporaries s'.current.temporaries
                  (with_own s.current.number (with_set a.words ((o + n) / 4) x.v) a.rest s.memory) m2' s.heap s'.heap
                  a.outside.heap (both_stored old new p e same_count same_objects texts s s' c a ((o + n) / 4) x.v)
                  (same_grown e.stands a.rest)
                  (inside_hit e.stands s.current.number a.inside ((o + n) / 4) x.v x.below s.current.routine b n Away
                  (hits e a b block o n is x.own) (not x.v x.is) wrote),
              next,
            ),
            reached old new p e same_count s s' c a i' there (record s' { current = onward s'.current; memory = m2' })
                (f ∙ ap (λ o. with_some o (λ m. stores m s')) x.new_one),
          )
      wrote_follows m2 f (inr x) = (
        record s' { current = onward s'.current; memory = x.m2' },
        (
          alike_scene e a (suc s.current.place) (suc s'.current.place) s.current.temporaries s'.current.temporaries m2
              x.m2' s.heap s'.heap a.outside.heap x.alike x.grown
              (inside_missed e.stands s.current.number a.inside s.current.routine b n Away wrote),
          next,
        ),
        reached old new p e same_count s s' c a i' there (record s' { current = onward s'.current; memory = x.m2' })
            (f ∙ ap (λ o. with_some o (λ m. stores m s')) x.new_one),
      )

    pub any_store : (u n : ℕ) (b : Base) → Stores s.current.routine c
        (c' old new p e same_count same_objects texts s s' c a) b n u i'
        → Follow old new p e same_count same_objects texts s s' c a (turns_aside (Some i'))
        (old_step old new p e same_count same_objects texts s s' c a (Store b n u))
    any_store u n b x =
        address_follows old new p e (turns_aside (Some i')) s s' (base_value s.current b) _
        (λ block o is. some_follows old new p e (turns_aside (Some i')) s s' (s.current.temporaries u) _
        (λ v found. some_follows old new p e (turns_aside (Some i')) s s' (store s.memory block (o + n) v) _
        (λ m2 changed.
        wrote_follows b n block o is (λ ws. with_word ws (o + n) v) (λ ws. with_word ws (o + n) (moved e.stands v)) ⊥
        (λ w. w ≡ v) (As c u) (λ w same. subst (NotThere s.current.number (As c u)) (sym same)
        (copied_away e a u v found)) (word_writes e.stands (o + n) v) x.wrote m2
        (ap (new_step old new p e same_count same_objects texts s s' c a) x.same
        ∙ ap (λ w. with_address w (λ block offset. with_some (s'.current.temporaries x.a')
        (λ v. with_some (store s'.memory block (offset + n) v) (λ m. stores m s'))))
        (base_there e a b x.b' x.to ∙ ap (moved_word e.stands) is)
        ∙ ap (λ w. with_some w (λ v. with_some (store s'.memory (moved_block e.stands block) (o + n) v)
        (λ m. stores m s'))) (hold_value e a u x.a' v x.holds found))
        (block_changed e.stands (λ ws. with_word ws (o + n) v) (λ ws. with_word ws (o + n) (moved e.stands v))
        ((o + n) / 4) ⊥ (λ w. w ≡ v) (word_writes e.stands (o + n) v) a.outside.memory block m2 a.inside.size
        (λ f. absurd f) changed))))

    pub byte_store : (u n : ℕ) (b : Base) → Renames s.current.routine c
        (c' old new p e same_count same_objects texts s s' c a) (StoreByte b n u) i'
        → Follow old new p e same_count same_objects texts s s' c a
        (turns_aside (Some i')) (old_step old new p e same_count same_objects texts s s' c a (StoreByte b n u))
    byte_store u n b (b', u', f, to, holds, h, wrote) =
        address_follows old new p e (turns_aside (Some i')) s s' (base_value s.current b) _
        (λ block o is. number_follows old new p e (turns_aside (Some i')) s s' (s.current.temporaries u) _
        (λ x found. byte_follows old new p e (turns_aside (Some i')) s s' x _
        (λ byte is_byte small. some_follows old new p e (turns_aside (Some i')) s s'
        (store_byte s.memory block (o + n) byte) _ (λ m2 changed.
        wrote_follows b n block o is (λ ws. with_byte_at ws (o + n) byte) (λ ws. with_byte_at ws (o + n) byte)
        (Unit {0}) (λ v. (z : ℤ) × (v ≡ Number z)) Elsewhere
        (λ v z. subst (NotThere s.current.number Elsewhere) (sym z.1)
        (elsewhere s.current.number (Number z.0) refl)) (byte_writes e.stands (o + n) byte) wrote m2
        (ap (new_step old new p e same_count same_objects texts s s' c a) f
        ∙ ap (λ w. with_address w (λ block offset. with_number (s'.current.temporaries u')
        (λ x. with_byte_value x (λ byte. with_some (store_byte s'.memory block (offset + n) byte)
        (λ m. stores m s'))))) (base_there e a b b' to ∙ ap (moved_word e.stands) is)
        ∙ ap (λ w. with_number w (λ x. with_byte_value x
        (λ byte. with_some (store_byte s'.memory (moved_block e.stands block) (o + n) byte) (λ m. stores m s'))))
        (hold_value e a u u' (Number x) holds found ∙ ap (λ z. Some (Number z)) is_byte)
        ∙ ap (λ b. if b then with_some (store_byte s'.memory (moved_block e.stands block) (o + n) byte)
        (λ m. stores m s') else Over Stuck) small)
        (block_changed e.stands (λ ws. with_byte_at ws (o + n) byte) (λ ws. with_byte_at ws (o + n) byte) ((o + n) / 4)
        (Unit {0}) (λ v. (z : ℤ) × (v ≡ Number z))
        (byte_writes e.stands (o + n) byte) a.outside.memory block m2 a.inside.size
        (λ _. agrees_at b n block o h is) changed)))))
