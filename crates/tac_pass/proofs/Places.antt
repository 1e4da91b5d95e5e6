-- What is made of the instruction at a place is certified.
use Rattle.std.proofs.Common.{◌≡◌, ◌⊎◌, inl, inr, ℕ, zero, suc, ◌+◌, ◌-◌, ◌<◌, ◌≤◌, ◌++◌, true, List, [], ◌∷◌, length}
use Rattle.std.proofs.Common.{slice_get, Option, Some, sym, ◌∙◌, subst, ap, arith, refl}
use Rattle.std.proofs.lemmas.Option.{none-some, same_Some}
use Rattle.tac_code.specs.declared.code.Instruction.{Instruction}
use Rattle.tac_code.specs.declared.code.Instruction.TheVariants.{Literal, Copy, Arithmetic, Bits, Compare, CheckRange}
use Rattle.tac_code.specs.declared.code.Instruction.TheVariants.{CheckPointer, Text, Offset, Index, RoutineValue, Load}
use Rattle.tac_code.specs.declared.code.Instruction.TheVariants.{Store, LoadByte, StoreByte, Jump, JumpBack, Branch}
use Rattle.tac_code.specs.declared.code.Instruction.TheVariants.{BranchBack, Call, CallValue, Return, Trap, Take, Put}
use Rattle.tac_code.specs.declared.code.Instruction.TheVariants.{New, End}
use Rattle.tac_code.specs.declared.code.Operand.{Operand}
use Rattle.tac_code.specs.Meaning.{Code, fetch}
use Rattle.tac_pass.specs.declared.plan.Put.{Put as Put_in}
use Rattle.tac_pass.specs.declared.plan.Put.TheVariants.{Clean, Fetch}
use Rattle.tac_pass.specs.declared.plan.Step.{Step}
use Rattle.tac_pass.specs.Tables.{Table, is_forgetful}
use Rattle.tac_pass.specs.Acts.{Made, and_then, only_if, holder, renamed_right, kept, ending, spared, moved_word}
use Rattle.tac_pass.specs.Acts.{cleaned, fetched}
use Rattle.tac_pass.specs.Certified.{Tested, IsPut, ArePut, Leads, LeftOut, MadeFrom, Turned, Ended, PassedAt}
use Rattle.tac_pass.specs.Walk.{IsMade, join_at, less, aimed, ahead, behind, turned, is_branch, GoesOn, puts_at, put_in}
use Rattle.tac_pass.specs.Walk.{ArePutIn, Spot, IsLeftOut, IsMadeNew, IsTurned, IsEnded, Becomes, Steps, Walked}
use Rattle.tac_pass.proofs.Walks.{Grows, grown_get, grows_becomes, grows_not, grows_on, grows_puts, last_get}
use Rattle.tac_pass.proofs.Walks.{length_last, less_is, some_only, some_then}

-- ---- what is made by a plan is certified

length_puts : (r : ℕ) (minded : List ℕ) (table : Table) (out : List Instruction) (n : ℕ) (table' : Table)
    (out' : List Instruction) → ArePutIn r minded table out n table' out' → length out' ≡ length out + n
length_puts r minded table out zero table' out' (is, e) = let f = ap length e in omega (arith, f)
length_puts r minded table out (suc n) table' out' (put, i, t, o, before, made, e) =
    let f = ap length e ∙ length_last o i in
    let g = length_puts r minded table out n t o before in omega (arith, f, g)

module _ (new : Code) (x : Tested) (r : ℕ) where
  is_put : (minded : List ℕ) → minded ≡ x.minded r → (put : Put_in) (table : Table) (made : Made)
      → put_in r minded put table ≡ Some made → IsPut new x r table made
  is_put minded m (Clean k) table made f = inl (k, subst (λ (l : List ℕ). cleaned r l table k ≡ Some made) m f)
  is_put minded m (Fetch k t) table made f = inr (k, t, subst (λ (l : List ℕ). fetched r l table k t ≡ Some made) m f)

  put_last : (n : ℕ) (table : Table) (a : ℕ) (t : Table) (b : ℕ) → ArePut new x r n table a t b → (made : Made)
      → IsPut new x r t made → fetch new r b ≡ Some made.instruction → ArePut new x r (suc n) table a made.table (suc b)
  put_last zero table a t b (same, is) made put there = (
    made,
    subst (λ (u : Table). IsPut new x r u made) (sym is) put,
    subst
        (λ (k : ℕ). fetch new r k ≡ Some made.instruction) (sym same) there,
    (ap suc same, refl),
  )
  put_last (suc n) table a t b (m, p, f, others) made put there =
      (m, p, f, put_last n m.table (suc a) t b others made put there)

  module _ (minded : List ℕ) (steps : List Step) (starts : List ℕ) (body last : List Instruction) (places : ℕ)
      (whole : Spot) (w : Walked r minded steps starts body places whole) (m : minded ≡ x.minded r)
      (tables : (p : ℕ) → (w.at p).table ≡ x.tables r p)
      (begin : (p s : ℕ) → slice_get starts p ≡ Some s → s ≡ x.starts r p)
      (stand : (p s : ℕ) → slice_get starts p ≡ Some s → s + puts_at steps p ≡ x.stands r p)
      (there : (q : ℕ) (i : Instruction) → slice_get whole.out q ≡ Some i → fetch new r q ≡ Some i)
      (within : (p : ℕ) (t : Table) → join_at steps p ≡ Some t → p ≤ places) where
    all_there : (n p : ℕ) → p + n ≡ places → (body_has : (q : ℕ) → q < places → (i : Instruction)
        × (slice_get body q ≡ Some i)) → Grows (w.at p).out whole.out
    all_there zero p e has =
        let f : p ≡ places = omega (arith, e) in
        grows_not (w.at p).out whole.out (sym (ap (λ (k : ℕ). (w.at k).out) f ∙ ap (λ (s : Spot). s.out) w.here))
    all_there (suc n) p e has =
        let lt : p < places = omega (arith, e) in
        let f : suc p + n ≡ places = omega (arith, e) in
        let got = has p lt in
        let step = w.steps_on p got.0 lt got.1 in
        grows_on (w.at p).out (w.at (suc p)).out whole.out
        (grows_on (w.at p).out step.behind.out (w.at (suc p)).out
        (grows_puts r minded (w.at p).table (w.at p).out
        (puts_at steps p) step.behind.table step.behind.out step.puts)
        (grows_becomes r minded steps starts p got.0 step.behind (w.at (suc p)) step.becomes))
        (all_there n (suc p) f has)

    puts_are : (table : Table) (out : List Instruction) (n : ℕ) (table' : Table) (out' : List Instruction)
        → ArePutIn r minded table out n table' out' → Grows out' whole.out → ArePut new x r n table (length out) table'
        (length out')
    puts_are table out zero table' out' (e, f) g = (sym (ap length f), sym e)
    puts_are table out (suc n) table' out' (put, i, t, o, before, made, e) g =
        let at : slice_get out' (length o) ≡ Some i = subst (λ (l : List Instruction). slice_get l (length o) ≡ Some i)
        (sym e) (last_get o i) in
        let all = put_last n table (length out) t (length o)
        (puts_are table out n t o before (grows_on o out' whole.out (record {
          more = i ∷ [];
          is = e;
        }) g)) (record {
          instruction = i;
          table = table';
        }) (is_put minded m put t (record {
          instruction = i;
          table = table';
        }) made) (there (length o) i (grown_get out' whole.out g (length o) i at)) in
        subst (λ (k : ℕ). ArePut new x r (suc n) table (length out) table' k) (sym (ap length e ∙ length_last o i)) all

    goes_leads : (p : ℕ) (left : Table) (here : ℕ) → GoesOn steps starts p left (w.at (suc p)).table here
        → Leads new x r left here (suc p)
    goes_leads p left here g = record {
      starts = begin (suc p) here g.starts_here;
      forgets = subst (λ (t : Table). is_forgetful left t ≡ true) (tables (suc p)) g.forgets;
    }

    lead : (table : Table) (q s here : ℕ) → aimed steps starts table q ≡ Some s → here ≡ s → Leads new x r table here q
    lead table q s here f e =
        let a = some_then (join_at steps q) (λ (claimed : Table). only_if (is_forgetful table claimed)
        (slice_get starts q)) s f in
        let b = some_only (is_forgetful table a.0) (slice_get starts q) s a.2 in
        let same = sym (tables q) ∙ w.joins q (within q a.0 a.1) a.0 a.1 in
        record {
          starts = e ∙ begin q s b.1;
          forgets = subst (λ (t : Table). is_forgetful table t ≡ true) (sym same) b.0;
        }

    module _ (p : ℕ) (table : Table) (k : ℕ) (is : k ≡ x.stands r p) where
      lead_ahead : (n d : ℕ) → ahead steps starts table p k n ≡ Some d → Leads new x r table (suc (x.stands r p) + d)
          (suc p + n)
      lead_ahead n d f =
          let a = some_then (aimed steps starts table (suc p + n)) (λ (start : ℕ). less start (suc k)) d f in
          let e = less_is a.0 (suc k) d a.2 in
          lead table (suc p + n) a.0 (suc (x.stands r p) + d) a.1 (omega (arith, e, is))

      lead_behind : (n d : ℕ) → behind steps starts table p k n ≡ Some d → Leads new x r table (x.stands r p - d)
          (p - n)
      lead_behind n d f =
          let a = some_then (aimed steps starts table (p - n)) (λ (start : ℕ). less k start) d f in
          let e = less_is k a.0 d a.2 in lead table (p - n) a.0 (x.stands r p - d) a.1 (omega (arith, e, is))

      fetched_at : (new_one i : Instruction) → new_one ≡ i → fetch new r k ≡ Some new_one → fetch new r (x.stands r p)
          ≡ Some i
      fetched_at new_one i e f = subst (λ (q : ℕ). fetch new r q ≡ Some i) is (f ∙ ap (λ (i : Instruction). Some i) e)

      turned_ahead : (go : ℕ → Instruction) (n : ℕ) (new_one : Instruction) → fetch new r k ≡ Some new_one → and_then
          (ahead steps starts table p k n) (λ (d : ℕ). Some (go d)) ≡ Some new_one → (d : ℕ)
          × (fetch new r (x.stands r p) ≡ Some (go d)) × Leads new x r table (suc (x.stands r p) + d) (suc p + n)
      turned_ahead go n new_one g f =
          let a = some_then (ahead steps starts table p k n) (λ (d : ℕ). Some (go d)) new_one f in
          (a.0, fetched_at new_one (go a.0) (sym (same_Some (go a.0) new_one a.2)) g, lead_ahead n a.0 a.1)

      turned_behind : (go : ℕ → Instruction) (n : ℕ) (new_one : Instruction) → fetch new r k ≡ Some new_one → and_then
          (behind steps starts table p k n) (λ (d : ℕ). Some (go d)) ≡ Some new_one → (d : ℕ)
          × (fetch new r (x.stands r p) ≡ Some (go d)) × Leads new x r table (x.stands r p - d) (p - n)
      turned_behind go n new_one g f =
          let a = some_then (behind steps starts table p k n) (λ (d : ℕ). Some (go d)) new_one f in
          (a.0, fetched_at new_one (go a.0) (sym (same_Some (go a.0) new_one a.2)) g, lead_behind n a.0 a.1)

      -- the operands of a branch
      operands : (a : ℕ) (b : Operand) (go : ℕ → Operand → Option Instruction) (new_one : Instruction) → and_then
          (holder table a) (λ (a' : ℕ). and_then (renamed_right table b) (λ (b' : Operand). go a' b')) ≡ Some new_one
          → (a' : ℕ) × (b' : Operand) × (holder table a ≡ Some a') × (renamed_right table b ≡ Some b')
          × (go a' b' ≡ Some new_one)
      operands a b go new_one f =
          let l = some_then (holder table a) (λ (a' : ℕ). and_then (renamed_right table b) (λ (b' : Operand). go a' b'))
          new_one f in
          let g = some_then (renamed_right table b) (λ (b' : Operand). go l.0 b') new_one l.2 in
          (l.0, g.0, l.1, g.1, g.2)

      is_turned : (i new_one : Instruction) → fetch new r k ≡ Some new_one
          → (is_branch i ≡ true → Leads new x r table (suc (x.stands r p)) (suc p)) → turned steps starts table p k i
          ≡ Some new_one → Turned new x r p table i
      is_turned (Jump n) new_one g falls f = turned_ahead (λ (d : ℕ). Jump d) n new_one g f
      is_turned (JumpBack n) new_one g falls f = turned_behind (λ (d : ℕ). JumpBack d) n new_one g f
      is_turned (Branch relation a b n) new_one g falls f =
          let o = operands a b (λ a' b'. and_then (ahead steps starts table p k n)
          (λ (d : ℕ). Some (Branch relation a' b' d))) new_one f in
          let t = turned_ahead (λ (d : ℕ). Branch relation o.0 o.1 d) n new_one g o.4 in
          (o.0, o.1, t.0, t.1, (o.2, o.3, falls refl), t.2)
      is_turned (BranchBack relation a b n) new_one g falls f =
          let o = operands a b (λ a' b'. and_then (behind steps starts table p k n)
          (λ (d : ℕ). Some (BranchBack relation a' b' d))) new_one f in
          let t = turned_behind (λ (d : ℕ). BranchBack relation o.0 o.1 d) n new_one g o.4 in
          (o.0, o.1, t.0, t.1, (o.2, o.3, falls refl), t.2)
      is_turned (Literal t z) new_one g falls f = absurd (none-some new_one f)
      is_turned (Copy t a) new_one g falls f = absurd (none-some new_one f)
      is_turned (Arithmetic operator t a b error line) new_one g falls f = absurd (none-some new_one f)
      is_turned (Bits operator t a b) new_one g falls f = absurd (none-some new_one f)
      is_turned (Compare relation t a b) new_one g falls f = absurd (none-some new_one f)
      is_turned (CheckRange a low high error line) new_one g falls f = absurd (none-some new_one f)
      is_turned (CheckPointer a error line) new_one g falls f = absurd (none-some new_one f)
      is_turned (Text t bytes) new_one g falls f = absurd (none-some new_one f)
      is_turned (Offset t b n extent) new_one g falls f = absurd (none-some new_one f)
      is_turned (Index t b a low high width error line) new_one g falls f = absurd (none-some new_one f)
      is_turned (RoutineValue t routine) new_one g falls f = absurd (none-some new_one f)
      is_turned (Load t b n) new_one g falls f = absurd (none-some new_one f)
      is_turned (Store b n a) new_one g falls f = absurd (none-some new_one f)
      is_turned (LoadByte t b n) new_one g falls f = absurd (none-some new_one f)
      is_turned (StoreByte b n a) new_one g falls f = absurd (none-some new_one f)
      is_turned (Call t routine operands line) new_one g falls f = absurd (none-some new_one f)
      is_turned (CallValue t a operands line) new_one g falls f = absurd (none-some new_one f)
      is_turned (Return a) new_one g falls f = absurd (none-some new_one f)
      is_turned (Trap error line) new_one g falls f = absurd (none-some new_one f)
      is_turned (Take t) new_one g falls f = absurd (none-some new_one f)
      is_turned (Put a) new_one g falls f = absurd (none-some new_one f)
      is_turned (New t object_type line) new_one g falls f = absurd (none-some new_one f)
      is_turned End new_one g falls f = absurd (none-some new_one f)

    -- one place
    module _ (p : ℕ) (i : Instruction) (lt : p < places) (e : slice_get body p ≡ Some i)
        (has : (q : ℕ) → q < places → (i : Instruction) × (slice_get body q ≡ Some i)) where
      abbrev step : Steps r minded steps starts p i (w.at p) (w.at (suc p))
      step = w.steps_on p i lt e

      abbrev next : Spot
      next = w.at (suc p)

      abbrev k : ℕ
      k = length step.behind.out

      rest : Grows next.out whole.out
      rest =
          let f : suc p + (places - suc p) ≡ places = omega (arith, lt) in
          all_there (places - suc p) (suc p) f has

      here : length (w.at p).out ≡ x.starts r p
      here = begin p (length (w.at p).out) step.starts_here

      stands : k ≡ x.stands r p
      stands = length_puts r minded (w.at p).table (w.at p).out
          (puts_at steps p) step.behind.table step.behind.out step.puts ∙ stand p (length (w.at p).out) step.starts_here

      -- what is pushed behind what is put in
      pushed : (new_one : Instruction) → next.out ≡ step.behind.out ++ new_one ∷ [] → fetch new r k ≡ Some new_one
      pushed new_one f =
          there k new_one (grown_get next.out whole.out rest k new_one
          (subst (λ (l : List Instruction). slice_get l k ≡ Some new_one) (sym f)
          (last_get step.behind.out new_one)))

      onwards : (new_one : Instruction) → next.out ≡ step.behind.out ++ new_one ∷ [] → length next.out ≡ suc
          (x.stands r p)
      onwards new_one f = ap length f ∙ (length_last step.behind.out new_one ∙ ap suc stands)

      goes : (left : Table) (at : ℕ) → length next.out ≡ at → GoesOn steps starts p left next.table (length next.out)
          → Leads new x r left at (suc p)
      goes left at f g = subst (λ (h : ℕ). Leads new x r left h (suc p)) f (goes_leads p left (length next.out) g)

      left_out : IsLeftOut r minded steps starts p i step.behind next → LeftOut new x r p step.behind.table i
      left_out b = record {
        behind = b.left;
        spared = subst (λ (l : List ℕ). spared r l step.behind.table i ≡ Some b.left) m b.spared;
        leads = goes b.left (x.stands r p) (ap length b.same ∙ stands) b.goes;
      }

      made_new : IsMadeNew r minded steps starts p i step.behind next → MadeFrom new x r p step.behind.table i
      made_new b = record {
        t' = b.holder;
        made = record { instruction = b.new_one; table = b.left };
        made_so = which b.made;
        there = fetched_at p step.behind.table k stands b.new_one b.new_one refl (pushed b.new_one b.pushed);
        leads = goes b.left (suc (x.stands r p)) (onwards b.new_one b.pushed) b.goes;
      }
        where
          which : (IsMade (kept r minded step.behind.table b.holder i) b.new_one b.left ⊎ IsMade
              (moved_word r minded step.behind.table b.holder i) b.new_one b.left)
              → (kept r (x.minded r) step.behind.table b.holder i ≡ Some (record {
                instruction = b.new_one;
                table = b.left;
              })) ⊎ (moved_word r (x.minded r) step.behind.table b.holder i ≡ Some (record {
                instruction = b.new_one;
                table = b.left;
              }))
          which (inl f) = inl (subst (λ (l : List ℕ). kept r l step.behind.table b.holder i ≡ Some (record {
            instruction = b.new_one;
            table = b.left;
          })) m f)
          which (inr f) = inr (subst (λ (l : List ℕ). moved_word r l step.behind.table b.holder i ≡ Some (record {
            instruction = b.new_one;
            table = b.left;
          })) m f)

      turned_one : IsTurned r minded steps starts p i step.behind next → Turned new x r p step.behind.table i
      turned_one b =
          is_turned p step.behind.table k stands i b.new_one (pushed b.new_one b.pushed)
          (λ f. goes step.behind.table (suc (x.stands r p)) (onwards b.new_one b.pushed) (b.falls f)) b.turned

      ended : IsEnded r minded steps starts p i step.behind next → Ended new x r p step.behind.table i
      ended b = record {
        new_one = b.new_one;
        ends = subst (λ (l : List ℕ). ending r l step.behind.table i ≡ Some b.new_one) m b.ended;
        there = fetched_at p step.behind.table k stands b.new_one b.new_one refl (pushed b.new_one b.pushed);
      }

      becomes : Becomes r minded steps starts p i step.behind next → LeftOut new x r p step.behind.table i
          ⊎ (MadeFrom new x r p step.behind.table i
          ⊎ (Turned new x r p step.behind.table i ⊎ Ended new x r p step.behind.table i))
      becomes (inl b) = inl (left_out b)
      becomes (inr (inl b)) = inr (inl (made_new b))
      becomes (inr (inr (inl b))) = inr (inr (inl (turned_one b)))
      becomes (inr (inr (inr b))) = inr (inr (inr (ended b)))

      come : ArePut new x r (puts_at steps p) (x.tables r p) (x.starts r p) step.behind.table (x.stands r p)
      come =
          let g = grows_on step.behind.out next.out whole.out
          (grows_becomes r minded steps starts p i step.behind next step.becomes) rest in
          let a = puts_are (w.at p).table (w.at p).out (puts_at steps p) step.behind.table step.behind.out step.puts g
          in
          subst (λ (t : Table). ArePut new x r (puts_at steps p) t (x.starts r p) step.behind.table (x.stands r p))
          (tables p) (subst (λ (h : ℕ). ArePut new x r (puts_at steps p) (w.at p).table h step.behind.table
          (x.stands r p)) here (subst (λ (h : ℕ). ArePut new x r (puts_at steps p) (w.at p).table
          (length (w.at p).out) step.behind.table h) stands a))

      pub passed_at : PassedAt new x r p i
      passed_at = record {
        number = puts_at steps p;
        table = step.behind.table;
        puts = come;
        becomes = becomes step.becomes;
      }
