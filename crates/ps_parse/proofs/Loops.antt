-- Loops that read lists: what the start, each turn and the end give.
use Rattle.std.proofs.Common.{◌≡◌, ◌≢◌, ℕ, ◌<◌, Bool, true, false, if◌then◌else◌, List, [], ◌∷◌, ◌++◌, length, Option}
use Rattle.std.proofs.Common.{Some, None, Ok, Err, Result, ap, sym, refl, ◌∙◌, arith}
use Rattle.std.specs.Prelude.{IsOkAnd}
use Rattle.ps_scan.specs.declared.token.Kind.{Kind}
use Rattle.ps_parse_grammar.specs.Symbols.{Tokens}
use Rattle.ps_parse.specs.declared.error.ReadFailure.{ReadFailure}
use Rattle.ps_parse.specs.declared.error.ReadFailure.TheVariants.{OutOfMemory}
use Rattle.ps_parse.specs.Steps.{Outcome, Parser, Reads, left_of, and_then, pure, sees, after, eat, look, separated}
use Rattle.ps_parse.specs.Steps.{separated_from, terminated, terminated_from, many, many_from, if_begins, part}
use Rattle.ps_parse.proofs.Exact.{second_part}
use Rattle.ps_parse.proofs.Handed.{was_refused, was_put}
use Rattle.ps_parse.proofs.Local.{Local, Takes, no_longer, none_some}
use Rattle.ps_parse.proofs.LocalLists.{Turn, same_steps, after_shorter, separated_enough, terminated_enough}
use Rattle.ps_parse.proofs.LocalLists.{many_enough}

-- ---- an item, and those after it
module _ {A : Type 0} (p : Parser A) (from : ℕ → List A → Parser (List A)) where
  -- after what was found
  abbrev pub next_from : List A → Parser (List A)
  next_from found ts = and_then (p ts) (λ x q. from (length q) (found ++ x ∷ []) q)

  pub next_refused : {x : Outcome (List A)} (found : List A) (ts : Tokens) (answer : Result A ReadFailure) (r : Tokens)
      (e : ReadFailure) → x ≡ next_from found ts → Reads (p ts) answer r → (e ≢ OutOfMemory → answer ≡ Err e)
      → e ≢ OutOfMemory → x ≡ Err (left_of e)
  next_refused found ts answer r e i h told ne = i
      ∙ ap (λ (o : Outcome A). and_then o (λ y q. from (length q) (found ++ y ∷ []) q))
      (was_refused (p ts) answer r e h told ne)

  pub next_put : {x : Outcome (List A)} (found : List A) (ts : Tokens) (answer : Result A ReadFailure) (r : Tokens)
      (now : List A) → x ≡ next_from found ts → Reads (p ts) answer r → IsOkAnd answer (λ y. now ≡ found ++ y ∷ []) → x
      ≡ from (length r) now r
  next_put found ts answer r now i h put =
      let w = was_put (p ts) answer r (λ y. now ≡ found ++ y ∷ []) h put in
      i ∙ (ap (λ (o : Outcome A). and_then o (λ y q. from (length q) (found ++ y ∷ []) q)) w.1
      ∙ ap (λ xs. from (length r) xs r) (sym w.2))

-- what is left before and after an item, and a separator after it
pub turn_shorter : {A : Type 0} (separator : Kind) (p : Parser A) → Local p → (found now : List A) (ts : Tokens)
    (answer : Result A ReadFailure) (r m : Tokens) → Reads (p ts) answer r → IsOkAnd answer (λ y. now ≡ found ++ y ∷ [])
    → sees separator r ≡ true → m ≡ after separator r → length m < length ts
turn_shorter separator p looks found now ts answer r m h put is_more behind =
    let w = was_put (p ts) answer r (λ y. now ≡ found ++ y ∷ []) h put in
    omega (arith, no_longer p looks ts w.0 r w.1, after_shorter separator r is_more, ap length behind)

pub item_shorter : {A : Type 0} (p : Parser A) → Takes p
    → (found now : List A) (ts : Tokens) (answer : Result A ReadFailure)
    (r : Tokens) → Reads (p ts) answer r → IsOkAnd answer (λ y. now ≡ found ++ y ∷ []) → length r < length ts
item_shorter p takes found now ts answer r h put =
    (let w = was_put (p ts) answer r (λ y. now ≡ found ++ y ∷ []) h put in takes ts w.0 r w.1)

-- ---- with separators
module _ {A : Type 0} (separator : Kind) (p : Parser A) where
  pub list_begun : (ts : Tokens) (found : List A) → found ≡ [] → separated separator p ts ≡ next_from p
      (separated_from separator p) found ts
  unfolding separated
  list_begun ts found is_new = ap (λ xs. next_from p (separated_from separator p) xs ts) (sym is_new)

  pub no_separator : {x : Outcome (List A)} (now : List A) (r m : Tokens) → x ≡ separated_from separator p
      (length r) now r → sees separator r ≡ false → m ≡ after separator r → x ≡ Ok (now, m)
  unfolding separated_from eat
  no_separator now [] m i is_over behind = i ∙ ap (λ (q : Tokens). Ok (now, q)) (sym behind)
  no_separator now (t ∷ r) m i is_over behind = i ∙ rw is_over
      (ap (λ (q : Tokens). Ok (now, q)) (sym (rw is_over at behind)))

  module _ (looks : Local p) where
    goes_on : (now : List A) (r : Tokens) → sees separator r ≡ true → separated_from separator p (length r) now r
        ≡ next_from p (separated_from separator p) now (after separator r)
    unfolding separated_from eat
    goes_on now [] is_more = cc
    goes_on now (t ∷ r) is_more =
        rw is_more (same_steps (p r) _ _ (λ y q read. separated_enough separator p looks (length r) (now ++ y ∷ []) q
        (no_longer p looks r y q read)))

    pub one_separator : {x : Outcome (List A)} (now : List A) (r m : Tokens) → x ≡ separated_from separator p
        (length r) now r → sees separator r ≡ true → m ≡ after separator r → x ≡ next_from p
        (separated_from separator p) now m
    one_separator now r m i is_more behind = i
        ∙ (goes_on now r is_more ∙ ap (λ q. next_from p (separated_from separator p) now q) (sym behind))

-- ---- with separators, one of which may come before the token that stops
module _ {A : Type 0} (separator stop : Kind) (p : Parser A) where
  pub run_begun : (ts : Tokens) (found : List A) → found ≡ [] → terminated separator stop p ts ≡ next_from p
      (terminated_from separator stop p) found ts
  unfolding terminated
  run_begun ts found is_new = ap (λ xs. next_from p (terminated_from separator stop p) xs ts) (sym is_new)

  pub no_run : {x : Outcome (List A)} (now : List A) (r m : Tokens) → x ≡ terminated_from separator stop p
      (length r) now r → sees separator r ≡ false → m ≡ after separator r → x ≡ Ok (now, m)
  unfolding terminated_from eat
  no_run now [] m i is_over behind = i ∙ ap (λ (q : Tokens). Ok (now, q)) (sym behind)
  no_run now (t ∷ r) m i is_over behind = i ∙ rw is_over (ap (λ (q : Tokens). Ok (now, q)) (sym (rw is_over at behind)))

  stops : (now : List A) (r : Tokens) → sees separator r ≡ true → sees stop (after separator r) ≡ true
      → terminated_from separator stop p (length r) now r ≡ Ok (now, after separator r)
  unfolding terminated_from eat look
  stops now [] is_more is_end = cc
  stops now (t ∷ r) is_more is_end = rw (is_more, rw is_more at is_end) refl

  pub run_stopped : {x : Outcome (List A)} (now : List A) (r m : Tokens) → x ≡ terminated_from separator stop p
      (length r) now r → sees separator r ≡ true → m ≡ after separator r → sees stop m ≡ true → x ≡ Ok (now, m)
  run_stopped now r m i is_more behind is_end = i
      ∙ (stops now r is_more (ap (sees stop) (sym behind) ∙ is_end) ∙ ap (λ (q : Tokens). Ok (now, q)) (sym behind))

  module _ (looks : Local p) where
    runs_on : (now : List A) (r : Tokens) → sees separator r ≡ true → sees stop (after separator r) ≡ false
        → terminated_from separator stop p (length r) now r ≡ next_from p (terminated_from separator stop p) now
        (after separator r)
    unfolding terminated_from eat look
    runs_on now [] is_more no_end = cc
    runs_on now (t ∷ r) is_more no_end =
        rw (is_more, rw is_more at no_end) (same_steps (p r) _ _
        (λ y q read. terminated_enough separator stop p looks (length r) (now ++ y ∷ []) q
        (no_longer p looks r y q read)))

    pub run_goes_on : {x : Outcome (List A)} (now : List A) (r m : Tokens) → x ≡ terminated_from separator stop p
        (length r) now r → sees separator r ≡ true → m ≡ after separator r → sees stop m ≡ false → x ≡ next_from p
        (terminated_from separator stop p) now m
    run_goes_on now r m i is_more behind no_end = i
        ∙ (runs_on now r is_more (ap (sees stop) (sym behind) ∙ no_end)
        ∙ ap (λ q. next_from p (terminated_from separator stop p) now q) (sym behind))

-- ---- items, each of which shows that one comes next
module _ {A : Type 0} (item : Parser (Option A)) (some_taken : Turn item) where
  pub many_begun : (ts : Tokens) (found : List A) → found ≡ [] → many item ts ≡ many_from item (length ts) found ts
  unfolding many
  many_begun ts found is_new = ap (λ xs. many_from item (length ts) xs ts) (sym is_new)

  none_read : (found : List A) (ts r : Tokens) → item ts ≡ Ok (None, r) → many_from item (length ts) found ts ≡ Ok
      (found, r)
  unfolding many_from
  none_read found [] r e = ap (λ (q : Tokens). Ok (found, q)) (second_part None None [] r (sym some_taken.ends ∙ e))
  none_read found (t ∷ ts) r e = rw e refl

  some_read : (found : List A) (ts r : Tokens) (y : A) → item ts ≡ Ok (Some y, r) → many_from item (length ts) found ts
      ≡ many_from item (length r) (found ++ y ∷ []) r
  unfolding many_from
  some_read found [] r y e = absurd (none_some y [] r (sym some_taken.ends ∙ e))
  some_read found (t ∷ ts) r y e = (let shorter = some_taken.takes (t ∷ ts) y r e in rw e
      (many_enough item some_taken (length ts) (found ++ y ∷ []) r (omega (arith, shorter))))

  was_lost : (found : List A) (ts : Tokens) (l : ℕ) → item ts ≡ Err l → many_from item (length ts) found ts ≡ Err l
  unfolding many_from
  was_lost found [] l e = (let none = sym some_taken.ends ∙ e in cc)
  was_lost found (t ∷ ts) l e = rw e refl

  pub item_none : {x : Outcome (List A)} (found : List A) (ts r : Tokens) → x ≡ many_from item (length ts) found ts
      → item ts ≡ Ok (None, r) → x ≡ Ok (found, r)
  item_none found ts r i is_none = i ∙ none_read found ts r is_none

  pub item_read : {x : Outcome (List A)} (found : List A) (ts r : Tokens) (y : A) (now : List A) → x ≡ many_from item
      (length ts) found ts → item ts ≡ Ok (Some y, r) → now ≡ found ++ y ∷ [] → x ≡ many_from item (length r) now r
  item_read found ts r y now i is_some put = i
      ∙ (some_read found ts r y is_some ∙ ap (λ xs. many_from item (length r) xs r) (sym put))

  pub item_refused : {x : Outcome (List A)} (found : List A) (ts : Tokens) (l : ℕ) → x ≡ many_from item
      (length ts) found ts → item ts ≡ Err l → x ≡ Err l
  item_refused found ts l i lost = i ∙ was_lost found ts l lost

-- ---- items that their first token shows
some_steps : {A B : Type 0} (o : Outcome A) (f : Option A → Parser B) → and_then (and_then o (λ x. pure (Some x))) f
    ≡ and_then o (λ x. f (Some x))
some_steps (Err n) f = refl
some_steps (Ok q) f = refl

module _ {A : Type 0} (begins : Tokens → Bool) (p : Parser A) where
  -- where a flag says whether one comes next
  abbrev pub next_if : Bool → List A → Parser (List A)
  next_if is_more found ts = if is_more then next_from p (many_from (if_begins begins p)) found ts else Ok (found, ts)

  pub is_next : {x : Outcome (List A)} (is_more : Bool) (found : List A) (ts : Tokens) → x ≡ next_if is_more found ts
      → is_more ≡ true → x ≡ next_from p (many_from (if_begins begins p)) found ts
  is_next true found ts i e = i
  is_next false found ts i e = cc

  pub is_last : {x : Outcome (List A)} (is_more : Bool) (found : List A) (ts : Tokens) → x ≡ next_if is_more found ts
      → is_more ≡ false → x ≡ Ok (found, ts)
  is_last true found ts i e = cc
  is_last false found ts i e = i

  -- after a word that begins a part
  word_read : (word : Kind) (is_present : Bool) (ts : Tokens) → sees word ts ≡ is_present → part word begins p ts
      ≡ next_if is_present [] (after word ts)
  unfolding part eat
  word_read word true ts e = rw e refl
  word_read word false ts e = rw e refl

  pub part_begun : (word : Kind) (is_present : Bool) (found : List A) (ts r : Tokens) → found ≡ [] → is_present
      ≡ sees word ts → r ≡ after word ts → part word begins p ts ≡ next_if is_present found r
  part_begun word is_present found ts r is_new e behind = word_read word is_present ts (sym e)
      ∙ (ap (λ q. next_if is_present [] q) (sym behind) ∙ ap (λ xs. next_if is_present xs r) (sym is_new))

  module _ (none : begins [] ≡ false) (takes : Takes p) (some_taken : Turn (if_begins begins p)) where
    begun : (now : List A) (r : Tokens) → begins r ≡ true → many_from (if_begins begins p) (length r) now r
        ≡ next_from p (many_from (if_begins begins p)) now r
    unfolding many_from if_begins
    begun now [] is_one = (let no = sym none ∙ is_one in cc)
    begun now (t ∷ r) is_one =
        rw is_one (some_steps (p (t ∷ r)) _ ∙ same_steps (p (t ∷ r)) _ _
        (λ y q read. (let shorter = takes (t ∷ r) y q read in many_enough (if_begins begins p) some_taken (length r)
        (now ++ y ∷ []) q (omega (arith, shorter)))))

    over : (now : List A) (r : Tokens) → begins r ≡ false → many_from (if_begins begins p) (length r) now r ≡ Ok
        (now, r)
    unfolding many_from if_begins
    over now [] is_none = refl
    over now (t ∷ r) is_none = rw is_none refl

    pub begins_one : {x : Outcome (List A)} (now : List A) (r : Tokens) → x ≡ many_from (if_begins begins p)
        (length r) now r → begins r ≡ true → x ≡ next_from p (many_from (if_begins begins p)) now r
    begins_one now r i is_one = i ∙ begun now r is_one

    pub begins_none : {x : Outcome (List A)} (now : List A) (r : Tokens) → x ≡ many_from (if_begins begins p)
        (length r) now r → begins r ≡ false → x ≡ Ok (now, r)
    begins_none now r i is_none = i ∙ over now r is_none

    pub part_goes_on : {x : Outcome (List A)} (is_more : Bool) (now : List A) (r : Tokens) → x ≡ many_from
        (if_begins begins p) (length r) now r → is_more ≡ begins r → x ≡ next_if is_more now r
    part_goes_on true now r i e = i ∙ begun now r (sym e)
    part_goes_on false now r i e = i ∙ over now r (sym e)
