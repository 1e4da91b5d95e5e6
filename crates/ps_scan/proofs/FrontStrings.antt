-- Strings at the front of bytes.
use Rattle.std.proofs.Common.{◌≡◌, ℕ, ◌+◌, ◌<◌, ◌≤◌, ◌⊎◌, inl, inr, true, false, ◌==◌, List, [], ◌∷◌, ◌++◌, length}
use Rattle.std.proofs.Common.{Option, Some, None, Ok, refl, sym, ap, ◌∙◌, subst, arith, append_assoc, length-append}
use Rattle.std.proofs.lemmas.Bool.{ne_eqb, eqb-false, false_from_ne_true}
use Rattle.std.proofs.lemmas.Bool.Decides.{Decides-eqb, nat_tests}
use Rattle.ps_scan.specs.declared.refusal.ScanFault.TheVariants as fault
use Rattle.ps_scan.specs.declared.token.Kind.TheVariants as k
use Rattle.ps_scan.specs.declared.token.Token.{Token}
use Rattle.ps_scan.specs.Faults.{IsOpenString, open_string, empty_string}
use Rattle.ps_scan.specs.Lexemes.{IsWord, IsDigits, IsInner, done, IsString, quoted, string, of_string}
use Rattle.ps_scan.specs.Lexis.{IsLongest, TokensFrom, nothing, separator, token}
use Rattle.ps_scan.specs.Scanner as s
use Rattle.ps_scan.specs.Scanner.{fault_of, token_of, string_end}
use Rattle.ps_scan.specs.Separators.{is_blank, blank, braced, starred}
use Rattle.ps_scan.specs.Tables.{Bytes}
use Rattle.ps_scan.proofs.FirstBytes.{begins, string_at}
use Rattle.ps_scan.proofs.Fronts.{IsFound, stands, no_comment_at, either, heads}
use Rattle.ps_scan.proofs.Prefixes.{Stops}
use Rattle.ps_scan.proofs.Reals.{digits_first}
use Rattle.ps_scan.proofs.Strings.{is_quote, string_end_is, string_end_sound, inner_longest, inner_joins, string_opens}
use Rattle.ps_scan.proofs.Strings.{open_at_once, open_has_none}

string_front : (inner rest : Bytes) → IsInner inner → Stops is_quote rest → IsLongest (39 ∷ (inner ++ 39 ∷ [])) rest
string_front inner rest i stops = record {
  fits = string (quoted i);
  longest = λ u v e is_lexeme. reach u v (string_at u (begins u v 39 _ (sym e) is_lexeme)) e;
  no_comment = no_comment_at 39 _ (eqb-false 39 40 refl);
}
  where
    reach : (u v : Bytes) → IsString u → 39 ∷ ((inner ++ 39 ∷ []) ++ rest) ≡ u ++ v
        → length u ≤ length (39 ∷ (inner ++ 39 ∷ []))
    reach u v (quoted {bs = other} j) e =
        let same : (inner ++ 39 ∷ []) ++ rest ≡ (other ++ 39 ∷ []) ++ v = cc in
        let least = inner_longest rest v i j (sym (append_assoc inner (39 ∷ []) rest) ∙ same
        ∙ append_assoc other (39 ∷ []) v) stops in
        omega (arith, least, length-append inner (39 ∷ []), length-append other (39 ∷ []))

no_word : (w : Bytes) → IsWord (39 ∷ w) ⊎ IsDigits (39 ∷ w) → ⊥
no_word w (inl is_word) = let no = is_word.0 in cc
no_word w (inr is_digits) = let no = digits_first 39 w is_digits in cc

-- a string that no apostrophe follows is not open
string_closed : (inner rest bs : Bytes) → IsInner inner → Stops is_quote rest → bs ≡ inner ++ 39 ∷ rest
    → IsOpenString (39 ∷ bs) → ⊥
string_closed inner rest bs i stops e is_open =
    let none = (open_has_none 1 39 bs refl is_open).1 in
    let some = ap (string_end false 1) e ∙ string_end_is 1 rest i stops in
    cc

front_of_string : (bs : Bytes) (end : Option ℕ) → string_end false 1 bs ≡ end → IsFound (39 ∷ bs) (s.string_of end)
front_of_string bs None e = open_string bs (open_at_once 1 bs e)
front_of_string bs (Some m) e =
    let c = string_end_sound 1 m bs e in
    let closed = string_closed c.inner c.rest bs c.is_inner c.stops c.split in
    let whole : (39 ∷ (c.inner ++ 39 ∷ [])) ++ c.rest ≡ 39 ∷ bs =
    ap (λ z. 39 ∷ z) (append_assoc c.inner (39 ∷ []) c.rest ∙ sym c.split) in
    let longest = string_front c.inner c.rest c.is_inner c.stops in
    either (IsFound (39 ∷ bs)) (m == 2) _ _
    (λ two. empty_found m c.inner c.rest bs c.is_inner c.len (two_is _ two) whole longest closed)
    (λ more. string_found m c.inner c.rest bs c.is_inner c.len more whole longest closed)
  where
    two_is : (m : ℕ) → (m == 2) ≡ true → m ≡ 2
    two_is m h = grind (arith, nat_tests)

    longer : (m n len : ℕ) → m ≡ 1 + n + 1 → len ≡ m → (m == 2) ≡ false → 2 < len
    longer m n len e e' h = grind (arith, nat_tests)

    empty_found : (m : ℕ) (inner rest bs : Bytes) → IsInner inner → m ≡ 1 + length inner + 1 → m ≡ 2
        → (39 ∷ (inner ++ 39 ∷ [])) ++ rest ≡ 39 ∷ bs
        → IsLongest (39 ∷ (inner ++ 39 ∷ [])) rest → (IsOpenString (39 ∷ bs) → ⊥)
        → IsFound (39 ∷ bs) (fault_of fault.EmptyString 0 2)
    empty_found m [] rest bs i len two whole longest closed =
        subst (λ z. IsFound z (fault_of fault.EmptyString 0 2)) whole
        (empty_string rest longest (λ is_open. closed (subst (λ z. IsOpenString z) whole is_open)))
    empty_found m (b ∷ inner) rest bs i len two whole longest closed = absurd (omega (arith, len, two))

    string_found : (m : ℕ) (inner rest bs : Bytes) → IsInner inner → m ≡ 1 + length inner + 1 → (m == 2) ≡ false
        → (39 ∷ (inner ++ 39 ∷ [])) ++ rest ≡ 39 ∷ bs
        → IsLongest (39 ∷ (inner ++ 39 ∷ [])) rest → (IsOpenString (39 ∷ bs) → ⊥)
        → IsFound (39 ∷ bs) (Ok (token_of m k.Text))
    string_found m inner rest bs i len more whole longest closed =
        let w = 39 ∷ (inner ++ 39 ∷ []) in
        let same : length w ≡ m = omega (arith, len, length-append inner (39 ∷ [])) in
        let some : 2 < length w = longer m (length inner) (length w) len same more in
        subst (λ z. IsFound z (Ok (token_of m k.Text))) whole
        (subst (λ n. IsFound (w ++ rest) (Ok (token_of n k.Text))) same
        (stands w rest longest (of_string (quoted i) some) (λ is. absurd (no_word (inner ++ 39 ∷ []) is))
        (λ is_open. closed (subst (λ z. IsOpenString z) whole is_open))))

pub string_sound : (bs : Bytes) → IsFound (39 ∷ bs) (s.string (39 ∷ bs))
unfolding s.string
string_sound bs = front_of_string bs _ refl

-- what a string would touch if an apostrophe came next: a string begins there
next_string : {n : ℕ} (bs r : Bytes) (ts : List Token) → TokensFrom n bs ts → bs ≡ 39 ∷ r
    → (u v : Bytes) × (bs ≡ u ++ v) × IsString u
next_string bs r ts nothing e = cc
next_string bs r ts (separator s rest (blank {b = b} is) later) e =
    let same : b ≡ 39 = cc in let no : is_blank 39 ≡ true = subst (λ z. is_blank z ≡ true) same is in cc
next_string bs r ts (separator s rest (braced c) later) e = absurd (eqb-false 123 39 refl (heads _ _ _ _ e))
next_string bs r ts (separator s rest (starred c) later) e = absurd (eqb-false 40 39 refl (heads _ _ _ _ e))
next_string bs r ts (token w rest longest kind apart later) e =
    (w, rest, refl, string_at w (begins w rest 39 r e longest.fits))

-- where another string begins right after one, both together are a longer one
not_two : (inner rest u v : Bytes) → IsInner inner → IsLongest (39 ∷ (inner ++ 39 ∷ [])) rest → rest ≡ u ++ v
    → IsString u → ⊥
not_two inner rest u v i longest e (quoted {bs = other} j) =
    let joined : Bytes = inner ++ 39 ∷ 39 ∷ other in
    let split : 39 ∷ ((inner ++ 39 ∷ []) ++ rest) ≡ (39 ∷ (joined ++ 39 ∷ [])) ++ v =
    ap (λ z. 39 ∷ z) (ap (λ z. (inner ++ 39 ∷ []) ++ z) e ∙ (append_assoc inner (39 ∷ []) _ ∙ simp append_assoc)) in
    let least = longest.longest (39 ∷ (joined ++ 39 ∷ [])) v split (string (quoted (inner_joins i j))) in
    let len = length-append inner (39 ∷ 39 ∷ other) in
    absurd (omega (arith, least, length-append inner (39 ∷ []), length-append joined (39 ∷ []), len))

-- no apostrophe follows the longest string where tokens follow it
pub string_ends : {n : ℕ} (inner rest : Bytes) (ts : List Token) → IsInner inner
    → IsLongest (39 ∷ (inner ++ 39 ∷ [])) rest → TokensFrom n rest ts → Stops is_quote rest
string_ends inner [] ts i longest later = tt
string_ends inner (b ∷ bs) ts i longest later = false_from_ne_true (b == 39) (λ is.
    (let same : b ≡ 39 = (Decides-eqb b 39).0 is in
    let next = next_string (b ∷ bs) bs ts later (ap (λ z. z ∷ bs) same) in
    not_two inner (b ∷ bs) next.0 next.1 i longest next.2 next.3))

-- nor where it is not open
pub string_stops : (inner rest : Bytes) → IsInner inner → IsLongest (39 ∷ (inner ++ 39 ∷ [])) rest
    → (IsOpenString (39 ∷ ((inner ++ 39 ∷ []) ++ rest)) → ⊥) → Stops is_quote rest
string_stops inner [] i longest closed = tt
string_stops inner (b ∷ bs) i longest closed =
    false_from_ne_true (b == 39) (λ is. goes_on bs (ap (λ z. z ∷ bs) ((Decides-eqb b 39).0 is)) _ refl)
  where
    goes_on : (bs' : Bytes) → b ∷ bs ≡ 39 ∷ bs' → (end : Option ℕ) → string_end false 1 bs' ≡ end → ⊥
    goes_on bs' e None none =
        let split : inner ++ 39 ∷ 39 ∷ bs' ≡ (inner ++ 39 ∷ []) ++ b ∷ bs =
        sym (append_assoc inner (39 ∷ []) (39 ∷ bs')) ∙ ap (λ z. (inner ++ 39 ∷ []) ++ z) (sym e) in
        closed (subst (λ z. IsOpenString (39 ∷ z)) split (string_opens 1 inner bs' i none))
    goes_on bs' e (Some m) found =
        let c = string_end_sound 1 m bs' found in
        let split : b ∷ bs ≡ (39 ∷ (c.inner ++ 39 ∷ [])) ++ c.rest = e
        ∙ ap (λ z. 39 ∷ z) (c.split ∙ sym (append_assoc c.inner (39 ∷ []) c.rest)) in
        not_two inner (b ∷ bs) (39 ∷ (c.inner ++ 39 ∷ [])) c.rest i longest split (quoted c.is_inner)

-- no apostrophe follows
abbrev pub Ends : Bytes → Bytes → Type 0
Ends w rest = (inner : Bytes) → w ≡ 39 ∷ (inner ++ 39 ∷ []) → IsInner inner → Stops is_quote rest

pub string_complete : (w rest : Bytes) → IsString w → 2 < length w → Ends w rest
    → s.string (w ++ rest) ≡ Ok (token_of (length w) k.Text)
unfolding s.string
string_complete w rest (quoted {bs = inner} i) some ends =
    let len : 1 + length inner + 1 ≡ length (39 ∷ (inner ++ 39 ∷ [])) = omega (arith, length-append inner (39 ∷ [])) in
    let end : string_end false 1 ((inner ++ 39 ∷ []) ++ rest) ≡ Some (length (39 ∷ (inner ++ 39 ∷ []))) =
    ap (string_end false 1) (append_assoc inner (39 ∷ []) rest) ∙ string_end_is 1 rest i (ends inner refl i)
    ∙ ap Some len in
    let other : (length (39 ∷ (inner ++ 39 ∷ [])) == 2) ≡ false = ne_eqb _ _ (λ is. absurd (omega (arith, is, some))) in
    ap s.string_of end ∙ rw other refl

pub open_complete : (rest : Bytes) → IsOpenString (39 ∷ rest) → s.string (39 ∷ rest) ≡ fault_of fault.OpenString 0 1
unfolding s.string
open_complete rest is_open = ap s.string_of (open_has_none 1 39 rest refl is_open).1

pub empty_complete : (rest : Bytes) → IsLongest (39 ∷ 39 ∷ []) rest → (IsOpenString (39 ∷ 39 ∷ rest) → ⊥)
    → s.string (39 ∷ 39 ∷ rest) ≡ fault_of fault.EmptyString 0 2
unfolding s.string
empty_complete rest longest closed =
    ap s.string_of (string_end_is 1 rest done (string_stops [] rest done longest closed))
