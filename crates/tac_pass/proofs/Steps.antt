-- Each step of the old code is followed by the new code's, by the rules: what is spared, and what goes on to the next
-- place.
use Rattle.std.proofs.Common.{◌≡◌, inl, inr, ℕ, suc, ◌+◌, ◌*◌, ◌≤◌, ℤ, pos, negsuc, Bool, true, false, not, nat_lt}
use Rattle.std.proofs.Common.{if◌then◌else◌, List, [], ◌∷◌, ◌++◌, length, slice_get, Option, Some, refl, sym, ap, ◌∙◌}
use Rattle.std.proofs.Common.{subst}
use Rattle.std.proofs.lemmas.List.{length-map}
use Rattle.behavior.specs.Transcripts.{mark}
use Rattle.behavior.specs.Endings.{Heap, Stuck}
use Rattle.tac_code.specs.declared.code.Block.{Block}
use Rattle.tac_code.specs.declared.code.Block.TheVariants.{Object, Constant}
use Rattle.tac_code.specs.declared.code.Value.TheVariants.{Number, Address, Routine}
use Rattle.tac_code.specs.declared.code.Base.{Base}
use Rattle.tac_code.specs.declared.code.Instruction.{Instruction}
use Rattle.tac_code.specs.declared.code.Instruction.TheVariants.{Literal, Copy, Arithmetic, Bits, Compare, CheckRange}
use Rattle.tac_code.specs.declared.code.Instruction.TheVariants.{CheckPointer, Text, Offset, Index, RoutineValue, Load}
use Rattle.tac_code.specs.declared.code.Instruction.TheVariants.{Store, LoadByte, StoreByte, Jump, JumpBack, Branch}
use Rattle.tac_code.specs.declared.code.Instruction.TheVariants.{BranchBack, Call, CallValue, Return, Trap, Take, Put}
use Rattle.tac_code.specs.declared.code.Instruction.TheVariants.{New, End}
use Rattle.tac_code.specs.Numbers.{truth, computed, bits, is_in_range, steps_above}
use Rattle.tac_code.specs.Meaning.{Code, State, Tape, Goes, Over, fetch, put, with_some, with_number, with_address}
use Rattle.tac_code.specs.Meaning.{with_byte_value, operand_value, base_value, pointer_of, is_nil, related, gives}
use Rattle.tac_code.specs.Meaning.{gives_address, gives_computed, gives_component, checks, takes, made, makes}
use Rattle.tac_code.specs.Meaning.{unwritten, giving, puts, told, end_taken, text_at}
use Rattle.tac_code_steps.specs.Turns.{turns_aside}
use Rattle.tac_code_steps.specs.InTurns.{Setting}
use Rattle.tac_pass.specs.Moved.{moved_block, moved, moved_word, moved_words}
use Rattle.tac_pass.specs.Claims.{Claim, Certificate}
use Rattle.tac_pass.specs.Alike.{Alike}
use Rattle.tac_pass.specs.Rules.{Holds, Gave, Found, None_of_them, Elsewhere, As, Behind, Component, Renames}
use Rattle.tac_pass.proofs.Inside.{inside_forgot, inside_found, inside_gave}
use Rattle.tac_pass.proofs.Memories.{made_moved, same_grown}
use Rattle.tac_pass.proofs.Likeness.{at_place, told_on, alike_inside, alike_scene}
use Rattle.tac_pass.proofs.Values.{pointer_moved, elsewhere, pointer_away, hold, hold_value, right_number}
use Rattle.tac_pass.proofs.Values.{related_there, base_there, behind_away, component_away, steps_within, copied_away}
use Rattle.tac_pass.proofs.Stepping.{some_follows, number_follows, address_follows, byte_follows, reached, ended}
use Rattle.tac_pass.proofs.Stepping.{fails_follow, given_follows, number_given, address_given, computed_follow}
use Rattle.tac_pass.proofs.Stepping.{checks_follow}
use Rattle.tac_pass.proofs.StepParts.{Follow, c', new_step, old_step}
use Rattle.tac_pass.proofs.Kept.{any_load, any_store, byte_load, byte_store, word_load, word_store}

module _ (old new : Code) (p : Setting) (e : Certificate) (same_count : length new.program ≡ length old.program)
    (same_objects : new.objects ≡ old.objects)
    (texts : (r place : ℕ) (bytes : List ℕ) → text_at old r place ≡ Some bytes → text_at new r (e.stands r place)
    ≡ Some bytes) (s s' : State) (c : Claim) (a : Alike e c s s') where
  module _ (i' : Instruction) (there : fetch new s'.current.routine s'.current.place ≡ Some i')
      (next : suc s'.current.place ≡ e.starts s.current.routine (suc s.current.place)) where
    -- ---- objects and input

    -- a renamed instruction, and what it does
    abbrev At : Instruction → Type 0
    At i = i' ≡ i

    found_follows : (u u' number line : ℕ) (n : Option ℕ) → pointer_of (s.current.temporaries u) ≡ Some n → At
        (CheckPointer u' number line) → Holds c u u' → Found u c
        (c' old new p e same_count same_objects texts s s' c a)
        → Follow old new p e same_count same_objects texts s s' c a false
        (checks old (not (is_nil n)) number line s)
    found_follows u u' number line n is f h g = which (not (is_nil n)) acts
      where
        acts : new_step old new p e same_count same_objects texts s s' c a (CheckPointer u' number line) ≡ checks new
            (not (is_nil n)) number line s'
        acts = ap (λ o. with_some o (λ q. checks new (not (is_nil q)) number line s'))
            (ap pointer_of (hold e a u u' h) ∙ pointer_moved e.stands (s.current.temporaries u) ∙ is)

        which : (b : Bool) → new_step old new p e same_count same_objects texts s s' c a
            (CheckPointer u' number line) ≡ checks new b number line s'
            → Follow old new p e same_count same_objects texts s s' c a false
            (checks old b number line s)
        which true x = (
          at_place (suc s'.current.place) s',
          (
            alike_inside e a (suc s.current.place)
                (suc s'.current.place) s.current.temporaries s'.current.temporaries s.tape s'.tape a.outside.tape
                (inside_found e.stands s.current.number a.inside u
                (λ o. pointer_away s.current.number o (s.current.temporaries u) n is) g),
            next,
          ),
          reached old new p e same_count s s' c a (CheckPointer u' number line) (there ∙ ap Some f)
              (at_place (suc s'.current.place) s') x,
        )
        which false x = fails_follow old new p e same_count s s' c a (CheckPointer u' number line)
            (there ∙ ap Some f) number line x

    component_follows : (t t' : ℕ) (b : Base) (block : Block) (o steps width most number line : ℕ) (i : Instruction)
        → At i → base_value s.current b ≡ Some (Address block o) → Gave t t' None_of_them
        (Component s.current.routine c b width most) c (c' old new p e same_count same_objects texts s s' c a) →
        (within : Bool) → (within ≡ true → steps ≤ most)
        → new_step old new p e same_count same_objects texts s s' c a i ≡ gives_component new within t'
        (moved_block e.stands block) (o + steps * width) number line s'
        → Follow old new p e same_count same_objects texts s s' c a (turns_aside (Some i))
        (gives_component old within t block (o + steps * width) number line s)
    component_follows t t' b block o steps width most number line i f is g true l x =
        address_given old new p e same_count s s' c a i (there ∙ ap Some f) next t t'
        (Component s.current.routine c b width most) block (o + steps * width)
        (component_away e a b block o steps width most (l refl) is) g x
    component_follows t t' b block o steps width most number line i f is g false l x =
        fails_follow old new p e same_count s s' c a i (there ∙ ap Some f) number line x

    taken : (t t' : ℕ) (z : ℤ) (tape tape' : Tape) → tape' ≡ tape → At (Take t') → Gave t t' None_of_them Elsewhere c
        (c' old new p e same_count same_objects texts s s' c a)
        → new_step old new p e same_count same_objects texts s s' c a (Take t') ≡ Goes
        (record s' { current = giving t' (Number z) s'.current; tape = tape' })
        → Follow old new p e same_count same_objects texts s s' c a false
        (Goes (record s { current = giving t (Number z) s.current; tape = tape }))
    taken t t' z tape tape' same f g x = (
      record s' { current = giving t' (Number z) s'.current; tape = tape' },
      (
        alike_inside e a (suc s.current.place) (suc s'.current.place) (put s.current.temporaries t (Number z))
            (put s'.current.temporaries t' (Number z)) tape tape' same
            (inside_gave e.stands s.current.number a.inside t t' None_of_them Elsewhere (Number z) (Number z) refl
            (λ k f. absurd f) (elsewhere s.current.number (Number z) refl) g),
        next,
      ),
      reached old new p e same_count s s' c a (Take t') (there ∙ ap Some f)
          (record s' { current = giving t' (Number z) s'.current; tape = tape' }) x,
    )

    takes_follow : (t t' : ℕ) (input : List ℕ) → At (Take t') → Gave t t' None_of_them Elsewhere c
        (c' old new p e same_count same_objects texts s s' c a)
        → new_step old new p e same_count same_objects texts s s' c a
        (Take t') ≡ takes t' input s' → Follow old new p e same_count same_objects texts s s' c a false
        (takes t input s)
    takes_follow t t' [] f g x =
        taken t t' (negsuc 0) (end_taken s.tape.ended s.tape) (end_taken s'.tape.ended s'.tape)
        (ap (λ tape. end_taken tape.ended tape) a.outside.tape) f g x
    takes_follow t t' (b ∷ rest) f g x =
        taken t t' (pos b) (record {
          input = rest;
          ended = s.tape.ended;
          transcript = s.tape.transcript ++ mark ∷ [];
        }) (record {
          input = rest;
          ended = s'.tape.ended;
          transcript = s'.tape.transcript ++ mark ∷ [];
        }) (ap (λ tape. record {
          input = rest;
          ended = tape.ended;
          transcript = tape.transcript ++ mark ∷ [];
        }) a.outside.tape) f g x

    makes_follow : (t t' object_type bytes line : ℕ) → At (New t' object_type line)
        → Gave t t' None_of_them Elsewhere c (c' old new p e same_count same_objects texts s s' c a)
        → new_step old new p e same_count same_objects texts s s' c a (New t' object_type line)
        ≡ makes new p.frames p.objects p.stack p.heap t' object_type bytes line s'
        → Follow old new p e same_count same_objects texts s s' c a false
        (makes old p.frames p.objects p.stack p.heap t object_type bytes line s)
    makes_follow t t' object_type bytes line f g x =
        which (nat_lt p.heap (s.heap + p.objects object_type))
        (x ∙ ap (λ heap. if nat_lt p.heap (heap + p.objects object_type) then Over (Heap line) else Goes
        (made new p.frames p.objects p.stack p.heap t' object_type bytes s')) a.outside.heap)
      where
        which : (full : Bool) → new_step old new p e same_count same_objects texts s s' c a (New t' object_type line)
            ≡ (if full then Over (Heap line) else Goes
            (made new p.frames p.objects p.stack p.heap t' object_type bytes s'))
            → Follow old new p e same_count same_objects texts s s' c a false (if full then Over (Heap line) else Goes
            (made old p.frames p.objects p.stack p.heap t object_type bytes s))
        which true x = λ live. ended old new p e same_count s s' c a (New t' object_type line) (there ∙ ap Some f)
            (Heap line) x
        which false x = (
          made new p.frames p.objects p.stack p.heap t' object_type bytes s',
          (
            alike_scene e a (suc s.current.place) (suc s'.current.place)
                (put s.current.temporaries t (Address (Object (length s.memory.objects)) 0))
                (put s'.current.temporaries t' (Address (Object (length s'.memory.objects)) 0))
                (record s.memory { objects = s.memory.objects ++ unwritten bytes ∷ [] })
                (record s'.memory { objects = s'.memory.objects ++ unwritten bytes ∷ [] })
                (s.heap + p.objects object_type) (s'.heap + p.objects object_type)
                (ap (λ heap. heap + p.objects object_type) a.outside.heap)
                (record {
                  frames = a.outside.memory.frames;
                  frames' = a.outside.memory.frames';
                  scratch = a.outside.memory.scratch;
                  objects = ap (λ xs. xs ++ unwritten bytes ∷ []) a.outside.memory.objects
                      ∙ made_moved e.stands s.memory.objects bytes;
                }) (same_grown e.stands a.rest)
                (inside_gave e.stands s.current.number a.inside t t' None_of_them Elsewhere
                (Address (Object (length s.memory.objects)) 0) (Address (Object (length s'.memory.objects)) 0)
                (ap (λ n. Address (Object n) 0) (ap length a.outside.memory.objects ∙ length-map
                s.memory.objects (moved_words e.stands))) (λ k f. absurd f)
                (elsewhere s.current.number (Address (Object (length s.memory.objects)) 0) refl) g),
            next,
          ),
          reached old new p e same_count s s' c a (New t' object_type line) (there ∙ ap Some f)
              (made new p.frames p.objects p.stack p.heap t' object_type bytes s') x,
        )

    -- ---- all of them

    module _ (here : s'.current.place ≡ e.stands s.current.routine s.current.place) where
      pub renames_follow : (i : Instruction) → Renames s.current.routine c
          (c' old new p e same_count same_objects texts s s' c a) i i'
          → Follow old new p e same_count same_objects texts s s' c a (turns_aside (Some i))
          (old_step old new p e same_count same_objects texts s s' c a i)
      renames_follow (Literal t z) (t', f, g) = number_given old new p e same_count s s' c a (Literal t' z)
          (there ∙ ap Some f) next t t' z g refl
      renames_follow (Copy t u) (t', u', f, h, g) =
          some_follows old new p e false s s' (s.current.temporaries u) _ (λ v is.
          given_follows old new p e same_count s s' c a (Copy t' u') (there ∙ ap Some f) next t t' (As c u) v
          (moved e.stands v) refl (copied_away e a u v is) g
          (ap (λ o. with_some o (λ w. gives t' w s')) (hold_value e a u u' v h is)))
      renames_follow (Arithmetic operator t u b number line) (t', u', b', f, h, r, g) =
          number_follows old new p e false s s' (s.current.temporaries u) _
          (λ x is. number_follows old new p e false s s' (operand_value s.current.temporaries b) _ (λ y is_right.
          computed_follow old new p e same_count s s' c a (Arithmetic operator t' u' b' number line)
          (there ∙ ap Some f) next t t' (computed operator number x y) line g
          (ap (λ o. with_number o (λ x. with_number (operand_value s'.current.temporaries b')
          (λ y. gives_computed new t' (computed operator number x y) line s')))
          (hold_value e a u u' (Number x) h is)
          ∙ ap (λ o. with_number o (λ y. gives_computed new t' (computed operator number x y) line s'))
          (right_number e a b b' y r is_right))))
      renames_follow (Bits operator t u b) (t', u', b', f, h, r, g) =
          number_follows old new p e false s s' (s.current.temporaries u) _
          (λ x is. number_follows old new p e false s s' (operand_value s.current.temporaries b) _ (λ y is_right.
          number_given old new p e same_count s s' c a (Bits operator t' u' b') (there ∙ ap Some f) next t t'
          (bits operator x y) g
          (ap (λ o. with_number o (λ x. with_number (operand_value s'.current.temporaries b')
          (λ y. gives t' (Number (bits operator x y)) s'))) (hold_value e a u u' (Number x) h is)
          ∙ ap (λ o. with_number o (λ y. gives t' (Number (bits operator x y)) s'))
          (right_number e a b b' y r is_right))))
      renames_follow (Compare relation t u b) (t', u', b', f, h, r, g) =
          some_follows old new p e false s s' (related relation (s.current.temporaries u)
          (operand_value s.current.temporaries b)) _ (λ holds is.
          number_given old new p e same_count s s' c a (Compare relation t' u' b') (there ∙ ap Some f) next t t'
          (truth holds) g
          (ap (λ o. with_some o (λ holds. gives t' (Number (truth holds)) s'))
          (related_there e a relation u u' b b' h r ∙ is)))
      renames_follow (CheckRange u low high number line) (u', f, h, g) =
          number_follows old new p e false s s' (s.current.temporaries u) _ (λ x is.
          checks_follow old new p e same_count s s' c a (CheckRange u' low high number line) (there ∙ ap Some f) next
          (is_in_range low high x) number line g
          (ap (λ o. with_number o (λ x. checks new (is_in_range low high x) number line s'))
          (hold_value e a u u' (Number x) h is)))
      renames_follow (CheckPointer u number line) (u', f, h, g) =
          some_follows old new p e false s s' (pointer_of (s.current.temporaries u)) _
          (λ n is. found_follows u u' number line n is f h g)
      renames_follow (Text t bytes) (t', f, g) =
          given_follows old new p e same_count s s' c a (Text t' bytes) (there ∙ ap Some f) next t t' Elsewhere
          (Address (Constant s.current.routine s.current.place) 0)
          (Address (Constant s'.current.routine s'.current.place) 0)
          (ap (λ r. Address (Constant r s'.current.place) 0) a.outside.call.routine
          ∙ ap (λ q. Address (Constant s.current.routine q) 0) here)
          (elsewhere s.current.number (Address (Constant s.current.routine s.current.place) 0) refl) g refl
      renames_follow (Offset t b n extent) (t', b', f, same, g) =
          address_follows old new p e false s s' (base_value s.current b) _ (λ block o is.
          address_given old new p e same_count s s' c a (Offset t' b' n extent) (there ∙ ap Some f) next t t'
          (Behind s.current.routine c b n) block (o + n) (behind_away e a b block o n is) g
          (ap (λ w. with_address w (λ block offset. gives_address t' block (offset + n) s'))
          (base_there e a b b' same ∙ ap (moved_word e.stands) is)))
      renames_follow (Index t b x low high width number line) (t', b', x', f, same, h, g) =
          address_follows old new p e false s s' (base_value s.current b) _
          (λ block o is. number_follows old new p e false s s' (s.current.temporaries x) _ (λ y at_index.
          component_follows t t' b block o (steps_above low y) width (steps_above low high) number line
          (Index t' b' x' low high width number line) f is g (is_in_range low high y) (steps_within low y high)
          (ap (λ w. with_address w (λ block offset. with_number (s'.current.temporaries x')
          (λ y. gives_component new (is_in_range low high y) t' block
          (offset + steps_above low y * width) number line s')))
          (base_there e a b b' same ∙ ap (moved_word e.stands) is)
          ∙ ap (λ w. with_number w (λ y. gives_component new (is_in_range low high y) t' (moved_block e.stands block)
          (o + steps_above low y * width) number line s')) (hold_value e a x x' (Number y) h at_index))))
      renames_follow (RoutineValue t r) (t', f, g) =
          given_follows old new p e same_count s s' c a (RoutineValue t' r) (there ∙ ap Some f) next t t' Elsewhere
          (Routine r) (Routine r) refl (elsewhere s.current.number (Routine r) refl) g refl
      renames_follow (Load t b n) (inl x) = any_load old new p e same_count same_objects texts s s' c a i' there next
          t n b x
      renames_follow (Load t b n) (inr (k, f, g, x)) =
          subst (λ b. Follow old new p e same_count same_objects texts s s' c a false
          (old_step old new p e same_count same_objects texts s s' c a (Load t b n))) (sym f)
          (word_load old new p e same_count same_objects texts s s' c a i' there next t n k g x)
      renames_follow (Store b n u) (inl x) = subst (λ y. Follow old new p e same_count same_objects texts s s' c a y
          (old_step old new p e same_count same_objects texts s s' c a (Store b n u)))
          (ap (λ i. turns_aside (Some i)) x.same)
          (any_store old new p e same_count same_objects texts s s' c a i' there next u n b x)
      renames_follow (Store b n u) (inr (k, f, g, x)) =
          subst (λ b. Follow old new p e same_count same_objects texts s s' c a false
          (old_step old new p e same_count same_objects texts s s' c a (Store b n u))) (sym f)
          (word_store old new p e same_count same_objects texts s s' c a i' there next u n k g x)
      renames_follow (LoadByte t b n) x = byte_load old new p e same_count same_objects texts s s' c a i' there next t
          n b x
      renames_follow (StoreByte b n u) x = subst (λ y. Follow old new p e same_count same_objects texts s s' c a y
          (old_step old new p e same_count same_objects texts s s' c a (StoreByte b n u)))
          (ap (λ i. turns_aside (Some i)) x.2)
          (byte_store old new p e same_count same_objects texts s s' c a i' there next u n b x)
      renames_follow (Take t) (t', f, g) = takes_follow t t' s.tape.input f g
          (ap (λ tape. takes t' tape.input s') a.outside.tape)
      renames_follow (Put u) (u', f, h, g) =
          number_follows old new p e false s s' (s.current.temporaries u) _
          (λ x is. byte_follows old new p e false s s' x _ (λ n is_byte small. (
            told_on (told n s'.tape) (at_place (suc s'.current.place) s'),
            (
              alike_inside e a (suc s.current.place) (suc s'.current.place) s.current.temporaries s'.current.temporaries
                  (told n s.tape) (told n s'.tape) (ap (told n) a.outside.tape)
                  (inside_forgot e.stands s.current.number a.inside g),
              next,
            ),
            reached old new p e same_count s s' c a (Put u') (there ∙ ap Some f)
                (told_on (told n s'.tape) (at_place (suc s'.current.place) s'))
                (ap (λ o. with_number o (λ y. with_byte_value y (λ byte. puts byte s')))
                (hold_value e a u u' (Number x) h is ∙ ap (λ z. Some (Number z)) is_byte)
                ∙ ap (λ y. if y then puts n s' else Over Stuck) small),
          )))
      renames_follow (New t object_type line) (t', f, g) =
          some_follows old new p e false s s' (slice_get old.objects object_type) _ (λ bytes is.
          makes_follow t t' object_type bytes line f g
          (ap (λ o. with_some o (λ bytes. makes new p.frames p.objects p.stack p.heap t' object_type bytes line s'))
          (ap (λ xs. slice_get xs object_type) same_objects ∙ is)))
      renames_follow (Jump _) h = absurd h
      renames_follow (JumpBack _) h = absurd h
      renames_follow (Branch _ _ _ _) h = absurd h
      renames_follow (BranchBack _ _ _ _) h = absurd h
      renames_follow (Call _ _ _ _) h = absurd h
      renames_follow (CallValue _ _ _ _) h = absurd h
      renames_follow (Return _) h = absurd h
      renames_follow (Trap _ _) h = absurd h
      renames_follow End h = absurd h
