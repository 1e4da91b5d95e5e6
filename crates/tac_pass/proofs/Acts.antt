-- What is made of an instruction is what the rules allow.
use Rattle.std.proofs.Common.{◌≡◌, ◌⊎◌, inl, inr, ℕ, ◌*◌, Bool, true, false, nat_eq, if◌then◌else◌, List, Option, Some}
use Rattle.std.proofs.Common.{None, refl, sym, subst, eqb-true, true≢false}
use Rattle.std.proofs.lemmas.Option.{none-some, same_Some}
use Rattle.tac_code.specs.declared.code.Base.{Base}
use Rattle.tac_code.specs.declared.code.Base.TheVariants as base
use Rattle.tac_code.specs.declared.code.Instruction.{Instruction}
use Rattle.tac_code.specs.declared.code.Instruction.TheVariants.{Literal, Copy, Arithmetic, Bits, Compare, CheckRange}
use Rattle.tac_code.specs.declared.code.Instruction.TheVariants.{CheckPointer, Text, Offset, Index, RoutineValue, Load}
use Rattle.tac_code.specs.declared.code.Instruction.TheVariants.{Store, LoadByte, StoreByte, Jump, JumpBack, Branch}
use Rattle.tac_code.specs.declared.code.Instruction.TheVariants.{BranchBack, Call, CallValue, Return, Trap, Take, Put}
use Rattle.tac_code.specs.declared.code.Instruction.TheVariants.{New, End}
use Rattle.tac_code.specs.Numbers.{steps_above}
use Rattle.tac_pass.specs.declared.table.Reach.TheVariants.{Anywhere}
use Rattle.tac_pass.specs.Rules.{Holds, None_of_them, Elsewhere, As, As_word, Behind, Component, Spares, Renames, Calls}
use Rattle.tac_pass.specs.Rules.{Ends, PutsIn}
use Rattle.tac_pass.specs.Rules as rule
use Rattle.tac_pass.specs.Tables.{Table, unknown, known_in, word_in, claim_in, free, is_minded, give, give_word, spare}
use Rattle.tac_pass.specs.Tables.{store_both, store_old, base_reach, is_seen, write, are_fresh}
use Rattle.tac_pass.specs.Acts.{and_then, holder, renamed_right, renamed_base, renamed_list, own_word, shifted}
use Rattle.tac_pass.specs.Acts.{stretched, Made, makes, kept_load, kept_store, kept, ending, spared_load, spared_store}
use Rattle.tac_pass.specs.Acts.{spared, moved_load, moved_store, moved_word, cleaned, fetched}
use Rattle.tac_pass.proofs.TableValues.{give_is, give_word_is, spare_is, find_is}
use Rattle.tac_pass.proofs.TableWords.{store_both_is, store_old_is, keep_word_is}
use Rattle.tac_pass.proofs.TableWords.{clean_is, fetch_word_is}
use Rattle.tac_pass.proofs.TableWrites.{seen, write_is, call_is}
use Rattle.tac_pass.proofs.ActParts.{all_forgets, base_same, c, given, list_is, only_some, own_is, right_is}
use Rattle.tac_pass.proofs.ActParts.{shifted_away, stretched_away, then_some, was_false}

module _ (r : ℕ) (minded : List ℕ) (table : Table) where
  -- ---- what is kept

  abbrev Allowed : Instruction → Made → Type 0
  Allowed i made =
      Renames r (c r minded table) (claim_in minded made.table) i made.instruction ⊎ Calls r (c r minded table)
      (claim_in minded made.table) i made.instruction

  made_one : Instruction → Table → Made
  made_one i t = record { instruction = i; table = t }

  load_is : (t' t : ℕ) (b : Base) (n : ℕ) (o : Option ℕ) → own_word b n ≡ o → (made : Made)
      → kept_load r minded table t' t b n o ≡ Some made → Allowed (Load t b n) made
  load_is t' t b n (Some k) own made f =
      let x = only_some (if (word_in minded table k).stale then false else true)
      (makes (Load t' base.Frame n) (give_word minded t t' k table)) made f in
      let o = own_is b n k own in
      subst (Allowed (Load t b n)) (same_Some _ made x.1) (inl (inr (
        k,
        o.0,
        o.1,
        inl (record {
          t' = t';
          same = refl;
          fresh = was_false (word_in minded table k).stale x.0;
          gave = give_word_is minded table t t' k;
        }),
      )))
  load_is t' t b n None own made f =
      let x = only_some (is_seen minded (base_reach r b table) n table)
      (and_then (renamed_base table b) (λ b'. makes (Load t' b' n) (give t t' Anywhere table))) made f in
      let y = then_some (renamed_base table b) (λ b'. makes (Load t' b' n) (give t t' Anywhere table)) made x.1 in
      subst (Allowed (Load t b n)) (same_Some _ made y.2) (inl (inl (record {
        t' = t';
        b' = y.0;
        same = refl;
        from = base_same r minded table b y.0 y.1;
        sees = seen minded table r b n x.0;
        gave = give_is minded table t t' Anywhere rule.Anywhere (λ o f. absurd (true≢false f));
      })))

  store_is : (b : Base) (n a : ℕ) (o : Option ℕ) → own_word b n ≡ o → (made : Made) → kept_store r minded table b n a o
      ≡ Some made → Allowed (Store b n a) made
  store_is b n a (Some k) own made f =
      let x = then_some (holder table a) (λ a'. makes (Store base.Frame n a') (store_both minded a k table)) made f in
      let o = own_is b n k own in
      subst (Allowed (Store b n a)) (same_Some _ made x.2) (inl (inr (
        k,
        o.0,
        o.1,
        inl (record {
          b' = x.0;
          same = refl;
          holds = x.1;
          stored = store_both_is minded table a k;
        }),
      )))
  store_is b n a None own made f =
      let x = then_some (renamed_base table b)
      (λ b'. and_then (holder table a) (λ a'. makes (Store b' n a') (write minded (base_reach r b table) n table)))
      made f in
      let y = then_some (holder table a) (λ a'. makes (Store x.0 n a') (write minded (base_reach r b table) n table))
      made x.2 in
      subst (Allowed (Store b n a)) (same_Some _ made y.2) (inl (inl (record {
        a' = y.0;
        b' = x.0;
        same = refl;
        to = base_same r minded table b x.0 x.1;
        holds = y.1;
        wrote = write_is minded table r b n (As (c r minded table) a);
      })))

  pub kept_is : (t' : ℕ) (i : Instruction) (made : Made) → kept r minded table t' i ≡ Some made → Allowed i made
  kept_is t' (Literal t z) made f = subst (Allowed (Literal t z)) (same_Some _ made f)
      (inl (t', refl, given r minded table t t'))
  kept_is t' (Copy t a) made f =
      let x = then_some (holder table a) _ made f in
      subst (Allowed (Copy t a)) (same_Some _ made x.2)
      (inl (
        t',
        x.0,
        refl,
        x.1,
        give_is minded table t t' (known_in table a).reach (As (c r minded table) a)
            (λ o g. g),
      ))
  kept_is t' (Arithmetic operator t a b error line) made f =
      let x = then_some (holder table a) _ made f in
      let y = then_some (renamed_right table b) _ made x.2 in
      subst (Allowed (Arithmetic operator t a b error line)) (same_Some _ made y.2)
      (inl (t', x.0, y.0, refl, x.1, right_is r minded table b y.0 y.1, given r minded table t t'))
  kept_is t' (Bits operator t a b) made f =
      let x = then_some (holder table a) _ made f in
      let y = then_some (renamed_right table b) _ made x.2 in
      subst (Allowed (Bits operator t a b)) (same_Some _ made y.2)
      (inl (t', x.0, y.0, refl, x.1, right_is r minded table b y.0 y.1, given r minded table t t'))
  kept_is t' (Compare relation t a b) made f =
      let x = then_some (holder table a) _ made f in
      let y = then_some (renamed_right table b) _ made x.2 in
      subst (Allowed (Compare relation t a b)) (same_Some _ made y.2)
      (inl (t', x.0, y.0, refl, x.1, right_is r minded table b y.0 y.1, given r minded table t t'))
  kept_is t' (CheckRange a low high error line) made f =
      let x = then_some (holder table a) _ made f in
      subst (Allowed (CheckRange a low high error line)) (same_Some _ made x.2)
      (inl (x.0, refl, x.1, all_forgets (c r minded table)))
  kept_is t' (CheckPointer a error line) made f =
      let x = then_some (holder table a) _ made f in
      subst (Allowed (CheckPointer a error line)) (same_Some _ made x.2) (inl (x.0, refl, x.1, find_is minded table a))
  kept_is t' (Text t bytes) made f = subst (Allowed (Text t bytes)) (same_Some _ made f)
      (inl (t', refl, given r minded table t t'))
  kept_is t' (Offset t b n extent) made f =
      let x = then_some (renamed_base table b) _ made f in
      subst (Allowed (Offset t b n extent)) (same_Some _ made x.2)
      (inl (
        t',
        x.0,
        refl,
        base_same r minded table b x.0 x.1,
        give_is minded table t t' (shifted n (base_reach r b table))
            (Behind r (c r minded table) b n) (λ o g. shifted_away r minded table b n o g),
      ))
  kept_is t' (Index t b i low high width error line) made f =
      let x = then_some (renamed_base table b) _ made f in
      let y = then_some (holder table i) _ made x.2 in
      subst (Allowed (Index t b i low high width error line)) (same_Some _ made y.2)
      (inl (
        t',
        x.0,
        y.0,
        refl,
        base_same r minded table b x.0 x.1,
        y.1,
        give_is minded table t t'
            (stretched (steps_above low high * width) (base_reach r b table))
            (Component r (c r minded table) b width (steps_above low high))
            (λ o g. stretched_away r minded table b width (steps_above low high) o g),
      ))
  kept_is t' (RoutineValue t routine) made f = subst (Allowed (RoutineValue t routine)) (same_Some _ made f)
      (inl (t', refl, given r minded table t t'))
  kept_is t' (Load t b n) made f = load_is t' t b n (own_word b n) refl made f
  kept_is t' (Store b n a) made f = store_is b n a (own_word b n) refl made f
  kept_is t' (LoadByte t b n) made f =
      let x = only_some (is_seen minded (base_reach r b table) n table) _ made f in
      let y = then_some (renamed_base table b) _ made x.1 in
      subst (Allowed (LoadByte t b n)) (same_Some _ made y.2)
      (inl (t', y.0, refl, base_same r minded table b y.0 y.1, seen minded table r b n x.0, given r minded table t t'))
  kept_is t' (StoreByte b n a) made f =
      let x = only_some (is_seen minded (base_reach r b table) n table) _ made f in
      let y = then_some (renamed_base table b) _ made x.1 in
      let z = then_some (holder table a) _ made y.2 in
      subst (Allowed (StoreByte b n a)) (same_Some _ made z.2)
      (inl (
        y.0,
        z.0,
        refl,
        base_same r minded table b y.0 y.1,
        z.1,
        seen minded table r b n x.0,
        write_is minded table r b n
            Elsewhere,
      ))
  kept_is t' (Take t) made f = subst (Allowed (Take t)) (same_Some _ made f) (inl (t', refl, given r minded table t t'))
  kept_is t' (Put a) made f =
      let x = then_some (holder table a) _ made f in
      subst (Allowed (Put a)) (same_Some _ made x.2) (inl (x.0, refl, x.1, all_forgets (c r minded table)))
  kept_is t' (New t object_type line) made f = subst (Allowed (New t object_type line)) (same_Some _ made f)
      (inl (t', refl, given r minded table t t'))
  kept_is t' (Call t routine operands line) made f =
      let x = only_some (are_fresh table.words) _ made f in
      let y = then_some (renamed_list table operands) _ made x.1 in
      subst (Allowed (Call t routine operands line)) (same_Some _ made y.2)
      (inr (t', y.0, refl, list_is r minded table operands y.0 y.1, call_is minded table t t' x.0))
  kept_is t' (CallValue t a operands line) made f =
      let x = only_some (are_fresh table.words) _ made f in
      let y = then_some (holder table a) _ made x.1 in
      let z = then_some (renamed_list table operands) _ made y.2 in
      subst (Allowed (CallValue t a operands line)) (same_Some _ made z.2)
      (inr (t', y.0, z.0, refl, y.1, list_is r minded table operands z.0 z.1, call_is minded table t t' x.0))
  kept_is t' (Jump _) made f = absurd (none-some made f)
  kept_is t' (JumpBack _) made f = absurd (none-some made f)
  kept_is t' (Branch _ _ _ _) made f = absurd (none-some made f)
  kept_is t' (BranchBack _ _ _ _) made f = absurd (none-some made f)
  kept_is t' (Return _) made f = absurd (none-some made f)
  kept_is t' (Trap _ _) made f = absurd (none-some made f)
  kept_is t' End made f = absurd (none-some made f)

  -- ---- ends

  pub ending_is : (i i' : Instruction) → ending r minded table i ≡ Some i' → Ends (c r minded table) i i'
  ending_is (Return a) i' f = let x = then_some (holder table a) _ i' f
      in (x.0, sym (same_Some (Return x.0) i' x.2), x.1)
  ending_is (Trap error line) i' f = sym (same_Some (Trap error line) i' f)
  ending_is End i' f = sym (same_Some End i' f)
  ending_is (Literal _ _) i' f = absurd (none-some i' f)
  ending_is (Copy _ _) i' f = absurd (none-some i' f)
  ending_is (Arithmetic _ _ _ _ _ _) i' f = absurd (none-some i' f)
  ending_is (Bits _ _ _ _) i' f = absurd (none-some i' f)
  ending_is (Compare _ _ _ _) i' f = absurd (none-some i' f)
  ending_is (CheckRange _ _ _ _ _) i' f = absurd (none-some i' f)
  ending_is (CheckPointer _ _ _) i' f = absurd (none-some i' f)
  ending_is (Text _ _) i' f = absurd (none-some i' f)
  ending_is (Offset _ _ _ _) i' f = absurd (none-some i' f)
  ending_is (Index _ _ _ _ _ _ _ _) i' f = absurd (none-some i' f)
  ending_is (RoutineValue _ _) i' f = absurd (none-some i' f)
  ending_is (Load _ _ _) i' f = absurd (none-some i' f)
  ending_is (Store _ _ _) i' f = absurd (none-some i' f)
  ending_is (LoadByte _ _ _) i' f = absurd (none-some i' f)
  ending_is (StoreByte _ _ _) i' f = absurd (none-some i' f)
  ending_is (Jump _) i' f = absurd (none-some i' f)
  ending_is (JumpBack _) i' f = absurd (none-some i' f)
  ending_is (Branch _ _ _ _) i' f = absurd (none-some i' f)
  ending_is (BranchBack _ _ _ _) i' f = absurd (none-some i' f)
  ending_is (Call _ _ _ _) i' f = absurd (none-some i' f)
  ending_is (CallValue _ _ _ _) i' f = absurd (none-some i' f)
  ending_is (Take _) i' f = absurd (none-some i' f)
  ending_is (Put _) i' f = absurd (none-some i' f)
  ending_is (New _ _ _) i' f = absurd (none-some i' f)

  -- ---- what is left out

  abbrev Left_out : Instruction → Table → Type 0
  Left_out i t = Spares (c r minded table) (claim_in minded t) i

  at_frame : (b : Base) (n k t : ℕ) (i : Base → Instruction) (table' : Table) → own_word b n ≡ Some k → Left_out
      (i base.Frame) table' → Left_out (i b) table'
  at_frame b n k t i table' own x = subst (λ b. Left_out (i b) table') (sym (own_is b n k own).0) x

  load_spared : (t : ℕ) (b : Base) (n : ℕ) (o : Option ℕ) → own_word b n ≡ o → (table' : Table)
      → spared_load r minded table t o ≡ Some table' → Left_out (Load t b n) table'
  load_spared t b n None own table' f = absurd (none-some table' f)
  load_spared t b n (Some k) own table' f =
      subst (Left_out (Load t b n)) (same_Some _ table' f)
      (at_frame b n k t (λ b. Load t b n) (spare t (word_in minded table k).value table) own (
        k,
        (own_is b n k own).1,
        spare_is minded table t (word_in minded table k).value (λ v. (c r minded table).words k ≡ Some v)
            (As_word (c r minded table) k) (λ v g. g) (λ o g. g),
      ))

  store_spared : (b : Base) (n a : ℕ) (o : Option ℕ) → own_word b n ≡ o → (table' : Table)
      → spared_store r minded table a o ≡ Some table' → Left_out (Store b n a) table'
  store_spared b n a None own table' f = absurd (none-some table' f)
  store_spared b n a (Some k) own table' f =
      let x = only_some (is_minded minded k table) _ table' f in
      subst (Left_out (Store b n a)) (same_Some _ table' x.1)
      (at_frame b n k a (λ b. Store b n a) (store_old minded a k table) own
      (k, (own_is b n k own).1, store_old_is minded table a k x.0))

  pub spared_is : (i : Instruction) (table' : Table) → spared r minded table i ≡ Some table' → Left_out i table'
  spared_is (Literal t z) table' f =
      subst (Left_out (Literal t z)) (same_Some _ table' f)
      (spare_is minded table t unknown None_of_them None_of_them (λ v g. absurd (none-some v g))
      (λ o g. absurd (true≢false g)))
  spared_is (Copy t a) table' f =
      subst (Left_out (Copy t a)) (same_Some _ table' f)
      (spare_is minded table t (known_in table a) (Holds (c r minded table) a) (As (c r minded table) a) (λ v g. g)
      (λ o g. g))
  spared_is (Load t b n) table' f = load_spared t b n (own_word b n) refl table' f
  spared_is (Store b n a) table' f = store_spared b n a (own_word b n) refl table' f
  spared_is (Arithmetic _ _ _ _ _ _) table' f = absurd (none-some table' f)
  spared_is (Bits _ _ _ _) table' f = absurd (none-some table' f)
  spared_is (Compare _ _ _ _) table' f = absurd (none-some table' f)
  spared_is (CheckRange a low high error line) table' f =
      let x = only_some (nat_eq error 0) (Some table) table' f in
      subst (Left_out (CheckRange a low high error line)) (same_Some _ table' x.1)
      (eqb-true error 0 x.0, all_forgets (c r minded table))
  spared_is (CheckPointer a error line) table' f =
      let x = only_some (nat_eq error 0) (Some table) table' f in
      subst (Left_out (CheckPointer a error line)) (same_Some _ table' x.1)
      (eqb-true error 0 x.0, all_forgets (c r minded table))
  spared_is (Text _ _) table' f = absurd (none-some table' f)
  spared_is (Offset _ _ _ _) table' f = absurd (none-some table' f)
  spared_is (Index _ _ _ _ _ _ _ _) table' f = absurd (none-some table' f)
  spared_is (RoutineValue _ _) table' f = absurd (none-some table' f)
  spared_is (LoadByte _ _ _) table' f = absurd (none-some table' f)
  spared_is (StoreByte _ _ _) table' f = absurd (none-some table' f)
  spared_is (Jump _) table' f = absurd (none-some table' f)
  spared_is (JumpBack _) table' f = absurd (none-some table' f)
  spared_is (Branch _ _ _ _) table' f = absurd (none-some table' f)
  spared_is (BranchBack _ _ _ _) table' f = absurd (none-some table' f)
  spared_is (Call _ _ _ _) table' f = absurd (none-some table' f)
  spared_is (CallValue _ _ _ _) table' f = absurd (none-some table' f)
  spared_is (Return _) table' f = absurd (none-some table' f)
  spared_is (Trap _ _) table' f = absurd (none-some table' f)
  spared_is (Take _) table' f = absurd (none-some table' f)
  spared_is (Put _) table' f = absurd (none-some table' f)
  spared_is (New _ _ _) table' f = absurd (none-some table' f)
  spared_is End table' f = absurd (none-some table' f)

  -- ---- what becomes a copy

  load_moved : (t' t : ℕ) (b : Base) (n : ℕ) (o : Option ℕ) → own_word b n ≡ o → (made : Made)
      → moved_load r minded table t' t o ≡ Some made → Allowed (Load t b n) made
  load_moved t' t b n None own made f = absurd (none-some made f)
  load_moved t' t b n (Some k) own made f =
      let x = then_some (word_in minded table k).value.holder _ made f in
      let o = own_is b n k own in
      subst (Allowed (Load t b n)) (same_Some _ made x.2) (inl (inr (
        k,
        o.0,
        o.1,
        inr (record {
          t' = t';
          a' = x.0;
          same = refl;
          held = x.1;
          gave = give_word_is minded table t t' k;
        }),
      )))

  store_moved : (t' : ℕ) (b : Base) (n a : ℕ) (o : Option ℕ) → own_word b n ≡ o → (made : Made)
      → moved_store r minded table t' a o ≡ Some made → Allowed (Store b n a) made
  store_moved t' b n a None own made f = absurd (none-some made f)
  store_moved t' b n a (Some k) own made f =
      let x = only_some (is_minded minded k (free t' table)) _ made f in
      let y = then_some (holder table a) _ made x.1 in
      let o = own_is b n k own in
      subst (Allowed (Store b n a)) (same_Some _ made y.2) (inl (inr (
        k,
        o.0,
        o.1,
        inr (record {
          t' = t';
          b' = y.0;
          same = refl;
          holds = y.1;
          kept = keep_word_is minded table a k t' x.0;
        }),
      )))

  pub moved_is : (t' : ℕ) (i : Instruction) (made : Made) → moved_word r minded table t' i ≡ Some made → Allowed i made
  moved_is t' (Load t b n) made f = load_moved t' t b n (own_word b n) refl made f
  moved_is t' (Store b n a) made f = store_moved t' b n a (own_word b n) refl made f
  moved_is t' (Literal _ _) made f = absurd (none-some made f)
  moved_is t' (Copy _ _) made f = absurd (none-some made f)
  moved_is t' (Arithmetic _ _ _ _ _ _) made f = absurd (none-some made f)
  moved_is t' (Bits _ _ _ _) made f = absurd (none-some made f)
  moved_is t' (Compare _ _ _ _) made f = absurd (none-some made f)
  moved_is t' (CheckRange _ _ _ _ _) made f = absurd (none-some made f)
  moved_is t' (CheckPointer _ _ _) made f = absurd (none-some made f)
  moved_is t' (Text _ _) made f = absurd (none-some made f)
  moved_is t' (Offset _ _ _ _) made f = absurd (none-some made f)
  moved_is t' (Index _ _ _ _ _ _ _ _) made f = absurd (none-some made f)
  moved_is t' (RoutineValue _ _) made f = absurd (none-some made f)
  moved_is t' (LoadByte _ _ _) made f = absurd (none-some made f)
  moved_is t' (StoreByte _ _ _) made f = absurd (none-some made f)
  moved_is t' (Jump _) made f = absurd (none-some made f)
  moved_is t' (JumpBack _) made f = absurd (none-some made f)
  moved_is t' (Branch _ _ _ _) made f = absurd (none-some made f)
  moved_is t' (BranchBack _ _ _ _) made f = absurd (none-some made f)
  moved_is t' (Call _ _ _ _) made f = absurd (none-some made f)
  moved_is t' (CallValue _ _ _ _) made f = absurd (none-some made f)
  moved_is t' (Return _) made f = absurd (none-some made f)
  moved_is t' (Trap _ _) made f = absurd (none-some made f)
  moved_is t' (Take _) made f = absurd (none-some made f)
  moved_is t' (Put _) made f = absurd (none-some made f)
  moved_is t' (New _ _ _) made f = absurd (none-some made f)
  moved_is t' End made f = absurd (none-some made f)

  -- ---- what is put in

  abbrev Put_in : Made → Type 0
  Put_in made = PutsIn (c r minded table) (claim_in minded made.table) made.instruction

  pub cleaned_is : (k : ℕ) (made : Made) → cleaned r minded table k ≡ Some made → Put_in made
  cleaned_is k made f =
      let x = only_some (if (word_in minded table k).blank then false else true) _ made f in
      let y = then_some (word_in minded table k).value.holder _ made x.1 in
      subst Put_in (same_Some _ made y.2) (
        k,
        refl,
        clean_is minded table k y.0 y.1
            (was_false (word_in minded table k).blank x.0),
      )

  pub fetched_is : (k t : ℕ) (made : Made) → fetched r minded table k t ≡ Some made → Put_in made
  fetched_is k t made f =
      let x = only_some (if (word_in minded table k).blank then false else if (word_in minded table k).stale then false
      else true) _ made f in
      let y = both (word_in minded table k).blank (word_in minded table k).stale x.0 in
      subst Put_in (same_Some _ made x.1) (k, refl, fetch_word_is minded table k t y.1 y.0)
    where
      both : (blank stale : Bool) → (if blank then false else if stale then false else true) ≡ true → (blank ≡ false)
          × (stale ≡ false)
      both true stale f = absurd (true≢false (sym f))
      both false true f = absurd (true≢false (sym f))
      both false false f = (refl, refl)
