-- Lists of formal parameters that have one code are congruous.
use Rattle.std.proofs.Common.{◌≡◌, ℕ, ◌+◌, ◌-◌, ◌*◌, ◌<◌, ◌≤◌, Bool, true, false, not, ◌&&◌, ◌||◌, ◌==◌}
use Rattle.std.proofs.Common.{if◌then◌else◌, List, [], ◌∷◌, ◌++◌, nat_lt, nat_le, length, Option, Some, None}
use Rattle.std.proofs.Common.{is_none}
use Rattle.std.proofs.Common.{refl, sym, ap, ◌∙◌, append_assoc, arith}
use Rattle.std.proofs.lemmas.Bool.{eq-eqb, eqb-true, ltb-true, leb-true, and_from, and_parts}
use Rattle.ps_check_judgement.proofs.Impossible.{never}
use Rattle.ps_tree.specs.declared.types.Host.{Host}
use Rattle.ps_tree.specs.declared.types.Host.TheVariants.{Integer, Char, Boolean, Enumeration}
use Rattle.ps_tree.specs.Names.{same}
use Rattle.ps_tree.specs.Types.{DataType, OrdinalType, PointerType, NilType, SetType, EmptySetType, TextType}
use Rattle.ps_tree.specs.Types.{ArrayType, RecordType, are_same, is_same_host, is_same_type}
use Rattle.ps_check_names.specs.Regions.{Section, ValueSection, VariableSection, RoutineSection, Sections, no_section}
use Rattle.ps_check_names.specs.Regions.{section_before}
use Rattle.ps_check_names.specs.Codes.{class, denoter, form, number, has_number, enumeration, hosts}
use Rattle.ps_check_names.specs.Codes.{fits_type, first_word, type_words, fits_result, result_words, fits_section, fits}
use Rattle.ps_check_names.specs.Codes.{section_words, words, code_of, have_one_code}
use Rattle.ps_check_names.proofs.SpellingLemmas.{same_equal}
use Rattle.ps_check_expressions.specs.Calls.{are_one_type, congruous, are_alike}

-- ---- truth values and lists

abbrev head : List ℕ → ℕ
head [] = 0
head (w ∷ ws) = w

abbrev tail : List ℕ → List ℕ
tail [] = []
tail (w ∷ ws) = ws

heads : (v w : ℕ) (vs ws : List ℕ) → v ∷ vs ≡ w ∷ ws → v ≡ w
heads v w vs ws e = ap head e

tails : (v w : ℕ) (vs ws : List ℕ) → v ∷ vs ≡ w ∷ ws → vs ≡ ws
tails v w vs ws e = ap tail e

-- ---- the parts of a word

same_tag : (x y t u : ℕ) → x * 16 + t ≡ y * 16 + u → t < 16 → u < 16 → t ≡ u
same_tag x y t u e p q = omega arith

same_above : (x y t u : ℕ) → x * 16 + t ≡ y * 16 + u → t < 16 → u < 16 → x ≡ y
same_above x y t u e p q = omega arith

same_number : (x y n m : ℕ) → x * 32 + (n - 1) ≡ y * 32 + (m - 1) → 0 < n → n ≤ 32 → 0 < m → m ≤ 32 → x ≡ y
same_number x y n m e a b c d = omega arith

same_count : (x y n m : ℕ) → x * 32 + (n - 1) ≡ y * 32 + (m - 1) → 0 < n → n ≤ 32 → 0 < m → m ≤ 32 → n ≡ m
same_count x y n m e a b c d = omega arith

same_class : (x y c d : ℕ) → x * 8 + c ≡ y * 8 + d → c < 8 → d < 8 → c ≡ d
same_class x y c d e p q = omega arith

same_denoter : (x y c d : ℕ) → x * 8 + c ≡ y * 8 + d → c < 8 → d < 8 → x ≡ y
same_denoter x y c d e p q = omega arith

-- ---- types

class_below : (s : Option ℕ) (h : Host) → class s h < 8
class_below (Some at) Integer = omega arith
class_below (Some at) Char = omega arith
class_below (Some at) Boolean = omega arith
class_below (Some at) (Enumeration a n) = omega arith
class_below None Integer = omega arith
class_below None Char = omega arith
class_below None Boolean = omega arith
class_below None (Enumeration a n) = omega arith

form_below : (t : DataType) → form t ≤ 5
unfolding form
form_below (OrdinalType o) = omega arith
form_below (PointerType n) = omega arith
form_below NilType = omega arith
form_below (SetType at k o) = omega arith
form_below EmptySetType = omega arith
form_below (TextType n) = omega arith
form_below (ArrayType at k i t) = omega arith
form_below (RecordType at k f) = omega arith

class_some : (at : ℕ) (h : Host) → class (Some at) h < 4
class_some at Integer = omega arith
class_some at Char = omega arith
class_some at Boolean = omega arith
class_some at (Enumeration a n) = omega arith

class_none : (h : Host) → 4 ≤ class None h
class_none Integer = omega arith
class_none Char = omega arith
class_none Boolean = omega arith
class_none (Enumeration a n) = omega arith

-- ordinal types of one class and denoter, of which the host follows where one is a subrange of an enumerated type
ordinals_alike : (s t : Option ℕ) (h k : Host) (r q : List ℕ) → (class s h == class t k) ≡ true → denoter s h
    ≡ denoter t k → enumeration s h ++ r ≡ enumeration t k ++ q
    → ((is_same_host h k && (are_same s t || (is_none s && is_none t))) ≡ true) × (r ≡ q)
ordinals_alike (Some a) (Some b) Integer Integer r q c d e = (ap (λ x. x || false) (eq-eqb a b d), e)
ordinals_alike (Some a) (Some b) Char Char r q c d e = (ap (λ x. x || false) (eq-eqb a b d), e)
ordinals_alike (Some a) (Some b) Boolean Boolean r q c d e = (ap (λ x. x || false) (eq-eqb a b d), e)
ordinals_alike (Some a) (Some b) (Enumeration x m) (Enumeration y n) r q c d e = (
  and_from (x == y) ((a == b) || false) (eq-eqb x y (heads x y r q e)) (ap (λ z. z || false) (eq-eqb a b d)),
  tails x y r q e,
)
ordinals_alike None None Integer Integer r q c d e = (refl, e)
ordinals_alike None None Char Char r q c d e = (refl, e)
ordinals_alike None None Boolean Boolean r q c d e = (refl, e)
ordinals_alike None None (Enumeration x m) (Enumeration y n) r q c d e = (ap (λ z. z && true) (eq-eqb x y d), e)
ordinals_alike None (Some b) h k r q c d e = absurd (let z = eqb-true (class None h) (class (Some b) k) c in omega
    (arith, z, class_none h, class_some b k))
ordinals_alike (Some a) None h k r q c d e = absurd (let z = eqb-true (class (Some a) h) (class None k) c in omega
    (arith, z, class_some a h, class_none k))
ordinals_alike s t h k r q c d e = never c

types_alike : (s t : DataType) (r q : List ℕ) → (form s == form t) ≡ true → number s ≡ number t → has_number s ≡ true
    → has_number t ≡ true → hosts s ++ r ≡ hosts t ++ q → (is_same_type s t ≡ true) × (r ≡ q)
unfolding form number has_number hosts is_same_type
types_alike (OrdinalType o) (OrdinalType p) r q f n h k e =
    let c = same_class (denoter o.subrange o.host) (denoter p.subrange p.host) (class o.subrange o.host)
    (class p.subrange p.host) n (class_below o.subrange o.host) (class_below p.subrange p.host) in
    let d = same_denoter (denoter o.subrange o.host) (denoter p.subrange p.host) (class o.subrange o.host)
    (class p.subrange p.host) n (class_below o.subrange o.host) (class_below p.subrange p.host) in
    ordinals_alike o.subrange p.subrange o.host p.host r q
    (eq-eqb (class o.subrange o.host) (class p.subrange p.host) c) d e
types_alike (PointerType a) (PointerType b) r q f n h k e = (eq-eqb a b n, e)
types_alike (SetType (Some a) x o) (SetType (Some b) y p) r q f n h k e = (eq-eqb a b n, e)
types_alike (ArrayType a x i s) (ArrayType b y j t) r q f n h k e = (eq-eqb a b n, e)
types_alike (RecordType a x l) (RecordType b y m) r q f n h k e = (eq-eqb a b n, e)
types_alike NilType t r q f n h k e = never h
types_alike (SetType None x o) t r q f n h k e = never h
types_alike EmptySetType t r q f n h k e = never h
types_alike (TextType a) t r q f n h k e = never h
types_alike s (SetType None y p) r q f n h k e = never k
types_alike s t r q f n h k e = never f

fits_parts : (n : ℕ) (t : DataType) → fits_type n t ≡ true → (0 < n) × (n ≤ 32) × (has_number t ≡ true)
fits_parts n t f =
    let few = (and_parts (nat_lt 0 n && nat_le n 32) (has_number t && nat_lt (number t) 8388608) f).0 in
    let rest = (and_parts (nat_lt 0 n && nat_le n 32) (has_number t && nat_lt (number t) 8388608) f).1 in (
      ltb-true 0 n (and_parts (nat_lt 0 n) (nat_le n 32) few).0,
      leb-true n 32 (and_parts (nat_lt 0 n) (nat_le n 32) few).1,
      (and_parts (has_number t) (nat_lt (number t) 8388608) rest).0,
    )

-- parameters of a type: as many, of the same type
module _ (x n m : ℕ) (s t : DataType) (r q : List ℕ) where
  counted_alike : x ≤ 8 → fits_type n s ≡ true → fits_type m t ≡ true → type_words n x s ++ r ≡ type_words m x t ++ q
      → (((n == m) && is_same_type s t) ≡ true) × (r ≡ q)
  counted_alike lx fs ft e =
      let first : (number s * 32 + (n - 1)) * 16 + (form s + x) ≡ (number t * 32 + (m - 1)) * 16 + (form t + x) =
      heads (first_word n x s) (first_word m x t) (hosts s ++ r) (hosts t ++ q) e in
      let below_s : form s + x < 16 = omega (arith, lx, form_below s) in
      let below_t : form t + x < 16 = omega (arith, lx, form_below t) in
      let tag = same_tag (number s * 32 + (n - 1)) (number t * 32 + (m - 1)) (form s + x)
      (form t + x) first below_s below_t in
      let above = same_above (number s * 32 + (n - 1)) (number t * 32 + (m - 1)) (form s + x)
      (form t + x) first below_s below_t
      in
      let form_is : form s ≡ form t = omega (arith, tag) in
      let f = fits_parts n s fs in
      let g = fits_parts m t ft in
      let type = types_alike s t r q (eq-eqb (form s) (form t) form_is)
      (same_number (number s) (number t) n m above f.0 f.1 g.0 g.1) f.2 g.2
      (tails (first_word n x s) (first_word m x t) (hosts s ++ r) (hosts t ++ q) e) in (
        and_from (n == m) (is_same_type s t)
            (eq-eqb n m (same_count (number s) (number t) n m above f.0 f.1 g.0 g.1)) type.0,
        type.1,
      )

results_alike : (s t : Option DataType) (r q : List ℕ) → fits_result s ≡ true → fits_result t ≡ true → result_words s
    ++ r ≡ result_words t ++ q → (are_one_type s t ≡ true) × (r ≡ q)
results_alike None None r q f g e = (refl, tails 15 15 r q e)
results_alike (Some s) (Some t) r q f g e =
    let one = counted_alike 0 1 1 s t r q (omega arith) f g
    (tails 14 14 (type_words 1 0 s ++ r) (type_words 1 0 t ++ q) e)
    in ((and_parts (1 == 1) (is_same_type s t) one.0).1, one.1)
results_alike None (Some t) r q f g e = absurd
    (let w : 15 ≡ 14 = heads 15 14 r (type_words 1 0 t ++ q) e in omega (arith, w))
results_alike (Some s) None r q f g e = absurd
    (let w : 14 ≡ 15 = heads 14 15 (type_words 1 0 s ++ r) q e in omega (arith, w))

-- ---- sections

-- what the lowest four bits of a section's first word are, and what is above them
abbrev tag : Section → ℕ
tag (ValueSection n t) = form t + 0
tag (VariableSection n t) = form t + 8
tag (RoutineSection ss None) = 15
tag (RoutineSection ss (Some t)) = 14

abbrev above : Section → ℕ
above (ValueSection n t) = number t * 32 + (n - 1)
above (VariableSection n t) = number t * 32 + (n - 1)
above (RoutineSection ss t) = 0

tag_below : (s : Section) → tag s < 16
tag_below (ValueSection n t) = let z : form t + 0 < 16 = omega (arith, form_below t) in z
tag_below (VariableSection n t) = let z : form t + 8 < 16 = omega (arith, form_below t) in z
tag_below (RoutineSection ss None) = omega arith
tag_below (RoutineSection ss (Some t)) = omega arith

first_is : (s : Section) (r : List ℕ) → head (section_words s ++ r) ≡ above s * 16 + tag s
unfolding section_words
first_is (ValueSection n t) r = refl
first_is (VariableSection n t) r = refl
first_is (RoutineSection ss None) r = refl
first_is (RoutineSection ss (Some t)) r = refl

tags_agree : (s t : Section) (r q : List ℕ) → section_words s ++ r ≡ section_words t ++ q → tag s ≡ tag t
tags_agree s t r q e = same_tag (above s) (above t) (tag s) (tag t)
    (sym (first_is s r) ∙ ap head e ∙ first_is t q) (tag_below s) (tag_below t)

no_end : (s : Section) → tag s ≡ 7 → ⊥
no_end (ValueSection n t) e = let z : form t + 0 ≡ 7 = e in omega (arith, z, form_below t)
no_end (VariableSection n t) e = let z : form t + 8 ≡ 7 = e in omega (arith, z)
no_end (RoutineSection ss None) e = let z : 15 ≡ 7 = e in omega (arith, z)
no_end (RoutineSection ss (Some t)) e = let z : 14 ≡ 7 = e in omega (arith, z)

unended : (s : Section) (r q : List ℕ) → section_words s ++ r ≡ 7 ∷ q → ⊥
unended s r q e = no_end s (same_tag (above s) 0 (tag s) 7 (sym (first_is s r) ∙ ap head e) (tag_below s) (omega arith))

-- a value parameter, a variable parameter and a routine
unlike_value : (n m : ℕ) (s t : DataType) → tag (ValueSection n s) ≡ tag (VariableSection m t) → ⊥
unlike_value n m s t e = let z : form s + 0 ≡ form t + 8 = e in omega (arith, z, form_below s)

unlike_routine : (ss : Sections) (u : Option DataType) (n : ℕ) (t : DataType) → tag (RoutineSection ss u)
    ≡ form t + n → n ≤ 8 → ⊥
unlike_routine ss None n t e l = let z : 15 ≡ form t + n = e in omega (arith, z, l, form_below t)
unlike_routine ss (Some u) n t e l = let z : 14 ≡ form t + n = e in omega (arith, z, l, form_below t)

mutual
  unfolding fits_section fits section_words words are_alike congruous

  alike : (s t : Section) (r q : List ℕ) → fits_section s ≡ true → fits_section t ≡ true → section_words s ++ r
      ≡ section_words t ++ q → (are_alike s t ≡ true) × (r ≡ q)
  alike (ValueSection n s) (ValueSection m t) r q f g e = counted_alike 0 n m s t r q (omega arith) f g e
  alike (VariableSection n s) (VariableSection m t) r q f g e = counted_alike 8 n m s t r q (omega arith) f g e
  alike (RoutineSection ss s) (RoutineSection us t) r q f g e =
      let result = results_alike s t (words ss ++ r) (words us ++ q) (and_parts (fits ss) (fits_result s) f).1
      (and_parts (fits us) (fits_result t) g).1 (sym (append_assoc (result_words s) (words ss) r) ∙ e
      ∙ append_assoc (result_words t) (words us) q) in
      let lists = all_alike ss us r q (and_parts (fits ss) (fits_result s) f).0
      (and_parts (fits us) (fits_result t) g).0
      result.1 in
      (and_from (congruous ss us) (are_one_type s t) lists.0 result.0, lists.1)
  alike (ValueSection n s) (VariableSection m t) r q f g e = absurd (unlike_value n m s t
      (tags_agree (ValueSection n s) (VariableSection m t) r q e))
  alike (VariableSection n s) (ValueSection m t) r q f g e = absurd (unlike_value m n t s
      (sym (tags_agree (VariableSection n s) (ValueSection m t) r q e)))
  alike (RoutineSection ss s) (ValueSection m t) r q f g e = absurd (unlike_routine ss s 0 t
      (tags_agree (RoutineSection ss s) (ValueSection m t) r q e) (omega arith))
  alike (RoutineSection ss s) (VariableSection m t) r q f g e = absurd (unlike_routine ss s 8 t
      (tags_agree (RoutineSection ss s) (VariableSection m t) r q e) (omega arith))
  alike (ValueSection n s) (RoutineSection us t) r q f g e = absurd (unlike_routine us t 0 s
      (sym (tags_agree (ValueSection n s) (RoutineSection us t) r q e)) (omega arith))
  alike (VariableSection n s) (RoutineSection us t) r q f g e = absurd (unlike_routine us t 8 s
      (sym (tags_agree (VariableSection n s) (RoutineSection us t) r q e)) (omega arith))

  all_alike : (ss us : Sections) (r q : List ℕ) → fits ss ≡ true → fits us ≡ true → words ss ++ r ≡ words us ++ q
      → (congruous ss us ≡ true) × (r ≡ q)
  all_alike no_section no_section r q f g e = (refl, tails 7 7 r q e)
  all_alike (section_before s ss) (section_before t us) r q f g e =
      let first = alike s t (words ss ++ r) (words us ++ q) (and_parts (fits_section s) (fits ss) f).0
      (and_parts (fits_section t) (fits us) g).0 (sym (append_assoc (section_words s) (words ss) r) ∙ e
      ∙ append_assoc (section_words t) (words us) q) in
      let rest = all_alike ss us r q (and_parts (fits_section s) (fits ss) f).1
      (and_parts (fits_section t) (fits us) g).1
      first.1 in
      (and_from (are_alike s t) (congruous ss us) first.0 rest.0, rest.1)
  all_alike no_section (section_before t us) r q f g e = absurd (unended t (words us ++ q) r
      (sym (append_assoc (section_words t) (words us) q) ∙ sym e))
  all_alike (section_before s ss) no_section r q f g e = absurd (unended s (words ss ++ r) q
      (sym (append_assoc (section_words s) (words ss) r) ∙ e))

-- ---- lists with one code

one_code : (a b : Sections) (x y : Bool) → fits a ≡ x → fits b ≡ y
    → (not (length (if x then words a else []) == 0) && same (if x then words a else []) (if y then words b else []))
    ≡ true → congruous a b ≡ true
one_code a b true true f g e = (all_alike a b [] [] f g (ap (λ l. l ++ [])
    (same_equal (words a) (words b) (and_parts (not (length (words a) == 0)) (same (words a) (words b)) e).1))).0
one_code a b true false f g e = never (ap (λ l. not (length l == 0)) (sym
    (same_equal (words a) [] (and_parts (not (length (words a) == 0)) (same (words a) []) e).1))
    ∙ (and_parts (not (length (words a) == 0)) (same (words a) []) e).0)
one_code a b false y f g e = never e

pub one_code_congruous : (a b : Sections) → have_one_code a b ≡ true → congruous a b ≡ true
unfolding have_one_code code_of
one_code_congruous a b e = one_code a b (fits a) (fits b) refl refl e
