-- A certificate as data is one by the rules.
use Rattle.std.proofs.Common.{◌≡◌, ◌≢◌, ◌⊎◌, inl, inr, ℕ, zero, suc, ◌+◌, ◌-◌, Bool, true, false, List, [], ◌∷◌}
use Rattle.std.proofs.Common.{slice_get, Option, Some, None, sym, ◌∙◌, subst, arith, eqb-true, true≢false}
use Rattle.std.proofs.lemmas.Option.{none-some, same_Some}
use Rattle.std.proofs.lemmas.Bool.{and_parts}
use Rattle.tac_code.specs.declared.code.Instruction.{Instruction}
use Rattle.tac_code.specs.declared.code.Instruction.TheVariants.{Literal, Copy, Arithmetic, Bits, Compare, CheckRange}
use Rattle.tac_code.specs.declared.code.Instruction.TheVariants.{CheckPointer, Text, Offset, Index, RoutineValue, Load}
use Rattle.tac_code.specs.declared.code.Instruction.TheVariants.{Store, LoadByte, StoreByte, Jump, JumpBack, Branch}
use Rattle.tac_code.specs.declared.code.Instruction.TheVariants.{BranchBack, Call, CallValue, Return, Trap, Take, Put}
use Rattle.tac_code.specs.declared.code.Instruction.TheVariants.{New, End}
use Rattle.tac_code.specs.Meaning.{Code}
use Rattle.tac_pass.specs.declared.table.Known.{Known}
use Rattle.tac_pass.specs.declared.table.Word.{Word}
use Rattle.tac_pass.specs.Keeps.{Keeps}
use Rattle.tac_pass.specs.Claims.{Claim}
use Rattle.tac_pass.specs.Rules.{Forgets, Renames, Calls, PutsIn}
use Rattle.tac_pass.specs.Follows.{Begins, Comes, Arrives, IsSpared, IsRenamed, Jumps, IsEnding, Becomes, Checked}
use Rattle.tac_pass.specs.Tables.{Table, or_unknown, or_unminded, place_of, word_at_place, claim_in}
use Rattle.tac_pass.specs.Acts.{Made, kept, moved_word}
use Rattle.tac_pass.specs.Certified.{is_passed, are_passed, is_new, are_new, begins, Tested, certificate_of, IsPut}
use Rattle.tac_pass.specs.Certified.{ArePut, Leads, LeftOut, MadeFrom, Turned, Ended, PassedAt, Certified}
use Rattle.tac_pass.proofs.Tables.{forgetful_is}
use Rattle.tac_pass.proofs.ActParts.{all_forgets, right_is}
use Rattle.tac_pass.proofs.Acts.{kept_is, ending_is, spared_is, moved_is, cleaned_is, fetched_is}
use Rattle.tac_pass.proofs.Forgetting.{spares_on, renames_on, calls_on}
use Rattle.tac_pass.proofs.Whole.{checked_keeps}

-- ---- begins

passed_rows : (from : ℕ) (xs : List Known) (u t : ℕ) → are_passed from xs ≡ true → (or_unknown (slice_get xs u)).holder
    ≡ Some t → t ≡ from + u
passed_rows from [] u t f h = absurd (none-some t h)
passed_rows from (x ∷ xs) zero t f h = which x.holder
    (and_parts (is_passed from x.holder) (are_passed (suc from) xs) f).0 h
  where
    which : (o : Option ℕ) → is_passed from o ≡ true → o ≡ Some t → t ≡ from + 0
    which None g h = absurd (none-some t h)
    which (Some v) g h = let a = eqb-true v from g in let b = same_Some v t h in omega (arith, a, b)
passed_rows from (x ∷ xs) (suc u) t f h =
    let e = passed_rows (suc from) xs u t (and_parts (is_passed from x.holder) (are_passed (suc from) xs) f).1 h
    in omega (arith, e)

pub record NewWord (w : Word) : Type 0 where
  pub holder : (t : ℕ) → w.value.holder ≢ Some t
  pub blank : w.blank ≢ false

new_rows : (ws : List Word) (i : ℕ) → are_new ws ≡ true → NewWord (or_unminded (slice_get ws i))
new_rows [] i f = record { holder = λ t h. none-some t h; blank = λ h. true≢false h }
new_rows (w ∷ ws) zero f =
    let g = which w.value.holder w.blank (and_parts (is_new w.value.holder w.blank) (are_new ws) f).0 in record {
      holder = g.0;
      blank = g.1;
    }
  where
    which : (o : Option ℕ) (b : Bool) → is_new o b ≡ true → ((t : ℕ) → o ≢ Some t) × (b ≢ false)
    which None b g = (λ t h. none-some t h, λ h. true≢false (sym g ∙ h))
    which (Some v) b g = absurd (true≢false (sym g))
new_rows (w ∷ ws) (suc i) f = new_rows ws i (and_parts (is_new w.value.holder w.blank) (are_new ws) f).1

new_words : (ws : List Word) (o : Option ℕ) → are_new ws ≡ true → NewWord (word_at_place ws o)
new_words ws None f = record { holder = λ t h. none-some t h; blank = λ h. true≢false h }
new_words ws (Some i) f = new_rows ws i f

begins_is : (minded : List ℕ) (table : Table) → begins table ≡ true → Begins (claim_in minded table)
begins_is minded table f =
    let g = and_parts (are_passed 0 table.temporaries) (are_new table.words) f in
    record {
      temporaries = λ u t h. let e = passed_rows 0 table.temporaries u t g.0 h in omega (arith, e);
      words = λ k t h. (new_words table.words (place_of minded k) g.1).holder t h;
      blank = λ k h. (new_words table.words (place_of minded k) g.1).blank h;
    }

-- ---- instructions

module _ (old new : Code) (x : Tested) (r : ℕ) where
  abbrev minded : List ℕ
  minded = x.minded r

  put_is : (table : Table) (made : Made) → IsPut new x r table made → PutsIn (claim_in minded table)
      (claim_in minded made.table) made.instruction
  put_is table made (inl (k, f)) = cleaned_is r minded table k made f
  put_is table made (inr (k, t, f)) = fetched_is r minded table k t made f

  puts_come : (n : ℕ) (table : Table) (from : ℕ) (behind : Table) (to : ℕ) → ArePut new x r n table from behind to
      → Comes old new (certificate_of x) r n (claim_in minded table) from (claim_in minded behind) to
  puts_come zero table from behind to (same, is) =
      (same, subst (λ t. Forgets (claim_in minded table) (claim_in minded t)) is (all_forgets (claim_in minded table)))
  puts_come (suc n) table from behind to (made, put, there, others) = (
    made.instruction,
    claim_in minded made.table,
    there,
    put_is table made put,
    puts_come n made.table
        (suc from) behind to others,
  )

  forgets : (table : Table) (here place : ℕ) → Leads new x r table here place → Forgets (claim_in minded table)
      (claim_in minded (x.tables r place))
  forgets table here place l = forgetful_is minded table (x.tables r place) l.forgets

  arrives : (table : Table) (here place : ℕ) → Leads new x r table here place → Arrives old new (certificate_of x) r
      (claim_in minded table) here place
  arrives table here place l = record { starts = l.starts; forgets = forgets table here place l }

  module _ (place : ℕ) (table : Table) where
    abbrev c : Claim
    c = claim_in minded table

    left_out : (i : Instruction) → LeftOut new x r place table i → IsSpared old new (certificate_of x) r place c i
    left_out i l = (
      spares_on c (forgets l.behind (x.stands r place) (suc place) l.leads) i
          (spared_is r minded table i l.behind l.spared),
      l.leads.starts,
    )

    made_from : (i : Instruction) → MadeFrom new x r place table i → IsRenamed old new (certificate_of x) r place c i
    made_from i m = record {
      new_one = m.made.instruction;
      there = m.there;
      renames = on (way m.made_so);
      onwards = m.leads.starts;
    }
      where
        way : (kept r minded table m.t' i ≡ Some m.made) ⊎ (moved_word r minded table m.t' i ≡ Some m.made)
            → Renames r c (claim_in minded m.made.table) i m.made.instruction ⊎ Calls r c
            (claim_in minded m.made.table) i m.made.instruction
        way (inl f) = kept_is r minded table m.t' i m.made f
        way (inr f) = moved_is r minded table m.t' i m.made f

        on : Renames r c (claim_in minded m.made.table) i m.made.instruction ⊎ Calls r c
            (claim_in minded m.made.table) i m.made.instruction
            → Renames r c (claim_in minded (x.tables r (suc place))) i m.made.instruction ⊎ Calls r c
            (claim_in minded (x.tables r (suc place))) i m.made.instruction
        on (inl g) = inl (renames_on c (forgets m.made.table (suc (x.stands r place)) (suc place) m.leads) r i
            m.made.instruction g)
        on (inr g) = inr (calls_on c (forgets m.made.table (suc (x.stands r place)) (suc place) m.leads) r i
            m.made.instruction g)

    turned : (i : Instruction) → Turned new x r place table i → Jumps old new (certificate_of x) r place c i
    turned (Jump n) (m, there, l) = (m, there, arrives table (suc (x.stands r place) + m) (suc place + n) l)
    turned (JumpBack n) (m, there, l) = (m, there, arrives table (x.stands r place - m) (place - n) l)
    turned (Branch relation a b n) (a', b', m, there, t, l) = (
      a',
      b',
      m,
      there,
      record {
        left = t.0;
        right = right_is r minded table b b' t.1;
        falls = arrives table (suc (x.stands r place)) (suc place) t.2;
      },
      arrives table (suc (x.stands r place) + m) (suc place + n) l,
    )
    turned (BranchBack relation a b n) (a', b', m, there, t, l) = (
      a',
      b',
      m,
      there,
      record {
        left = t.0;
        right = right_is r minded table b b' t.1;
        falls = arrives table (suc (x.stands r place)) (suc place) t.2;
      },
      arrives table (x.stands r place - m) (place - n) l,
    )
    turned (Literal _ _) h = absurd h
    turned (Copy _ _) h = absurd h
    turned (Arithmetic _ _ _ _ _ _) h = absurd h
    turned (Bits _ _ _ _) h = absurd h
    turned (Compare _ _ _ _) h = absurd h
    turned (CheckRange _ _ _ _ _) h = absurd h
    turned (CheckPointer _ _ _) h = absurd h
    turned (Text _ _) h = absurd h
    turned (Offset _ _ _ _) h = absurd h
    turned (Index _ _ _ _ _ _ _ _) h = absurd h
    turned (RoutineValue _ _) h = absurd h
    turned (Load _ _ _) h = absurd h
    turned (Store _ _ _) h = absurd h
    turned (LoadByte _ _ _) h = absurd h
    turned (StoreByte _ _ _) h = absurd h
    turned (Call _ _ _ _) h = absurd h
    turned (CallValue _ _ _ _) h = absurd h
    turned (Return _) h = absurd h
    turned (Trap _ _) h = absurd h
    turned (Take _) h = absurd h
    turned (Put _) h = absurd h
    turned (New _ _ _) h = absurd h
    turned End h = absurd h

    becomes_is : (i : Instruction) → LeftOut new x r place table i
        ⊎ (MadeFrom new x r place table i ⊎ (Turned new x r place table i ⊎ Ended new x r place table i))
        → IsSpared old new (certificate_of x) r place c i
        ⊎ (IsRenamed old new (certificate_of x) r place c i
        ⊎ (Jumps old new (certificate_of x) r place c i ⊎ IsEnding old new (certificate_of x) r place c i))
    becomes_is i (inl y) = inl (left_out i y)
    becomes_is i (inr (inl y)) = inr (inl (made_from i y))
    becomes_is i (inr (inr (inl y))) = inr (inr (inl (turned i y)))
    becomes_is i (inr (inr (inr y))) =
        inr (inr (inr (record {
          new_one = y.new_one;
          there = y.there;
          ends = ending_is r minded table i y.new_one y.ends;
        })))

  passed_is : (place : ℕ) (i : Instruction) → PassedAt new x r place i → Becomes old new (certificate_of x) r place i
  passed_is place i p = record {
    number = p.number;
    claim = claim_in minded p.table;
    comes = puts_come p.number (x.tables r place) (x.starts r place) p.table (x.stands r place) p.puts;
    becomes = becomes_is place p.table i p.becomes;
  }

pub certified_is : (old new : Code) (x : Tested) → Certified old new x → Checked old new (certificate_of x)
certified_is old new x f = record {
  program = f.program;
  objects = f.objects;
  headings = f.headings;
  begins = λ r. (begins_is (x.minded r) (x.tables r 0) (f.begin r).0, (f.begin r).1);
  becomes = λ r place i e. passed_is old new x r place i (f.passed r place i e);
}

pub certified_keeps : (old new : Code) (x : Tested) → Certified old new x → Keeps old new
certified_keeps old new x f = checked_keeps old new (certificate_of x) (certified_is old new x f)
