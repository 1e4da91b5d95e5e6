-- Parameters that go to the frame.
use Rattle.std.proofs.Common.{◌≡◌, ℕ, ℤ, suc, ◌+◌, ◌*◌, ◌<◌, ◌≤◌, Bool, true, false, if◌then◌else◌, List, [], ◌∷◌}
use Rattle.std.proofs.Common.{◌++◌, length, drop, get_or, refl, ap, sym, ◌∙◌, arith}
use Rattle.std.proofs.Math.Seq.{drop-cons}
use Rattle.std.proofs.lemmas.List.{drop_all, append-nil}
use Rattle.ps_tree.specs.declared.tree.statements.Formal.{Formal}
use Rattle.ps_tree.specs.View.{formal_of, formals_of}
use Rattle.tac_code.specs.declared.code.Base.TheVariants as base
use Rattle.tac_code.specs.declared.code.Instruction.{Instruction}
use Rattle.tac_code.specs.declared.code.Instruction.TheVariants as i
use Rattle.ps_lower_layout.specs.Shapes.{Shape, ByteShape, ArrayShape, byte_count}
use Rattle.ps_lower_layout.specs.Frames.{Kind, kind_of, kinds_of, kind_words, listed_kinds, words_of_all}
use Rattle.ps_lower_code.specs.Scopes.{Scope, beside, copy_code}
use Rattle.ps_lower_code.specs.Routines.{own_code, parameter_code, parameter_words, count_parameters}
use Rattle.ps_lower.specs.Firsts.{parameters_at}
use Rattle.ps_lower.proofs.Appends.{and_then}

-- an array of either form comes as an address
abbrev copied_code : Scope → Shape → (t offset free : ℕ) → List Instruction
copied_code k shape t offset free = i.Offset free base.Frame offset (byte_count shape) ∷ copy_code k free t
    (beside free) (byte_count shape)

pub array_comes : (k : Scope) (b : Bool) (n : ℕ) (first : ℤ) (shape : Shape) (t offset free : ℕ) → own_code k
    (if b then ByteShape n first else ArrayShape n shape) t offset free ≡ copied_code k
    (if b then ByteShape n first else ArrayShape n shape) t offset free
array_comes k true n first shape t offset free = refl
array_comes k false n first shape t offset free = refl

abbrev pub kind_at : Formal → Kind
kind_at f = kind_of (formal_of f)

-- ---- how many words come

abbrev pub total : List Formal → ℕ
total l = count_parameters (kinds_of (formals_of l))

none_counted : total [] ≡ 0
unfolding formals_of
none_counted = refl

one_counted : (f : Formal) (rest : List Formal) → total (f ∷ rest) ≡ parameter_words (kind_at f) + total rest
unfolding formals_of
one_counted f rest = refl

pub record Counted (formals : List Formal) (i count : ℕ) : Type 0 where
  pub sum : count + total (drop i formals) ≡ suc (total formals)

pub counted_start : (formals : List Formal) → Counted formals 0 1
counted_start formals = record { sum = omega arith }

pub counted_next : (formals : List Formal) (i count next : ℕ) (d : Formal) → i < length formals
    → Counted formals i count → next ≡ count + parameter_words (kind_at (get_or formals i d)) → Counted formals
    (i + 1) next
counted_next formals i count next d h s e =
    let split : total (drop i formals) ≡ parameter_words (kind_at (get_or formals i d)) + total
    (drop (suc i) formals) = ap total (drop-cons formals i d h) ∙ one_counted (get_or formals i d)
    (drop (suc i) formals) in
    let same : total (drop (i + 1) formals) ≡ total (drop (suc i) formals) =
    (let k : i + 1 ≡ suc i = omega arith in ap (λ j. total (drop j formals)) k) in
    record { sum = omega (arith, s.sum, split, same, e) }

-- no more come than all
pub counted_small : (formals : List Formal) (i count most : ℕ) → Counted formals i count → suc (total formals) ≤ most
    → count ≤ most
counted_small formals i count most s l = let e = s.sum in omega (arith, e, l)

pub counted_all : (formals : List Formal) (i count : ℕ) → length formals ≤ i → Counted formals i count → count ≡ suc
    (total formals)
counted_all formals i count h s =
    let none : total (drop i formals) ≡ 0 = ap total (drop_all i formals h) ∙ none_counted in
    omega (arith, s.sum, none)

-- ---- one parameter after another

abbrev pub entered : Scope → (free t p : ℕ) → List Formal → List Instruction
entered k free t p l = parameters_at k (kinds_of (formals_of l)) t p free

abbrev pub taken : List Formal → ℕ
taken l = words_of_all (listed_kinds (kinds_of (formals_of l)))

none_entered : (k : Scope) (free t p : ℕ) → entered k free t p [] ≡ []
unfolding formals_of
none_entered k free t p = refl

one_entered : (k : Scope) (free t p : ℕ) (f : Formal) (rest : List Formal) → entered k free t p (f ∷ rest)
    ≡ parameter_code k (kind_at f) t (4 * p) free ++ entered k free (t + parameter_words (kind_at f))
    (p + kind_words (kind_at f)) rest
unfolding formals_of
one_entered k free t p f rest = refl

none_taken : taken [] ≡ 0
unfolding formals_of
none_taken = refl

one_taken : (f : Formal) (rest : List Formal) → taken (f ∷ rest) ≡ kind_words (kind_at f) + taken rest
unfolding formals_of
one_taken f rest = refl

-- what the parameters before i add, which temporary has the next one, and where that one goes
pub record Entered (k : Scope) (free : ℕ) (start : List Instruction) (first : ℕ) (formals : List Formal) (i : ℕ)
    (now : List Instruction) (t place : ℕ) : Type 0 where
  pub left : now ++ entered k free t place (drop i formals) ≡ start ++ entered k free 1 first formals
  pub sum : place + taken (drop i formals) ≡ first + taken formals
  pub count : t + total (drop i formals) ≡ suc (total formals)

pub entered_start : (k : Scope) (free : ℕ) (start : List Instruction) (first : ℕ) (formals : List Formal)
    → Entered k free start first formals 0 start 1 first
entered_start k free start first formals = record { left = refl; sum = refl; count = omega arith }

pub entered_next : (k : Scope) (free : ℕ) (start : List Instruction) (first : ℕ) (formals : List Formal) (i : ℕ)
    (now next : List Instruction) (t place after behind : ℕ) (d : Formal) → i < length formals
    → Entered k free start first formals i now t place → next ≡ now ++ parameter_code k (kind_at (get_or formals i d)) t
    (4 * place) free → behind ≡ place + kind_words (kind_at (get_or formals i d)) → after ≡ t + parameter_words
    (kind_at (get_or formals i d)) → Entered k free start first formals (i + 1) next after behind
entered_next k free start first formals i now next t place after behind d h s e f g =
    let item : Formal = get_or formals i d in
    let rest : List Formal = drop (suc i) formals in
    let one : i + 1 ≡ suc i = omega arith in
    let split : taken (drop i formals) ≡ kind_words (kind_at item) + taken rest = ap taken (drop-cons formals i d h)
    ∙ one_taken item rest in
    let same : taken (drop (i + 1) formals) ≡ taken rest = ap (λ j. taken (drop j formals)) one in
    let fewer : total (drop i formals) ≡ parameter_words (kind_at item) + total rest = ap total
    (drop-cons formals i d h) ∙ one_counted item rest in
    let left : total (drop (i + 1) formals) ≡ total rest = ap (λ j. total (drop j formals)) one in
    record {
      left =
          ap (λ n. next ++ entered k free after behind (drop n formals)) one
          ∙ ap (λ n. next ++ entered k free n behind rest) g
          ∙ ap (λ n. next ++ entered k free (t + parameter_words (kind_at item)) n rest) f
          ∙ and_then now next _ (parameter_code k (kind_at item) t (4 * place) free)
          (entered k free (t + parameter_words (kind_at item)) (place + kind_words (kind_at item)) rest) e refl
          ∙ ap (λ l. now ++ l) (sym (one_entered k free t place item rest))
          ∙ ap (λ l. now ++ entered k free t place l) (sym (drop-cons formals i d h))
          ∙ s.left;
      sum = omega (arith, s.sum, split, same, f);
      count = omega (arith, s.count, fewer, left, g);
    }

-- no more come than all, and the next one's words lie before the end of all
pub entered_small : (k : Scope) (free : ℕ) (start : List Instruction) (first : ℕ) (formals : List Formal) (i : ℕ)
    (now : List Instruction) (t place most : ℕ) → Entered k free start first formals i now t place → suc
    (total formals) ≤ most → t ≤ most
entered_small k free start first formals i now t place most s l = let e = s.count in omega (arith, e, l)

pub entered_room : (k : Scope) (free : ℕ) (start : List Instruction) (first : ℕ) (formals : List Formal) (i : ℕ)
    (now : List Instruction) (t place most : ℕ) (f : Formal) → i < length formals → f ≡ get_or formals i f
    → Entered k free start first formals i now t place → 4 * (first + taken formals) ≤ most → 4 *
    (place + kind_words (kind_at f)) ≤ most
entered_room k free start first formals i now t place most f h is s l =
    let split : taken (drop i formals) ≡ kind_words (kind_at (get_or formals i f)) + taken
    (drop (suc i) formals) = ap taken (drop-cons formals i f h) ∙ one_taken (get_or formals i f)
    (drop (suc i) formals) in
    let same : kind_words (kind_at f) ≡ kind_words (kind_at (get_or formals i f)) = ap (λ y. kind_words (kind_at y)) is
    in
    let e = s.sum in
    omega (arith, e, split, same, l)

pub entered_all : (k : Scope) (free : ℕ) (start : List Instruction) (first : ℕ) (formals : List Formal) (i : ℕ)
    (now : List Instruction) (t place : ℕ) → length formals ≤ i → Entered k free start first formals i now t place → now
    ≡ start ++ entered k free 1 first formals
entered_all k free start first formals i now t place h s =
    sym (append-nil now) ∙ ap (λ l. now ++ l) (sym (none_entered k free t place))
    ∙ ap (λ l. now ++ entered k free t place l) (sym (drop_all i formals h)) ∙ s.left

pub all_taken : (k : Scope) (free : ℕ) (start : List Instruction) (first : ℕ) (formals : List Formal) (i : ℕ)
    (now : List Instruction) (t place : ℕ) → length formals ≤ i → Entered k free start first formals i now t place
    → place ≡ first + taken formals
all_taken k free start first formals i now t place h s =
    let none : taken (drop i formals) ≡ 0 = ap taken (drop_all i formals h) ∙ none_taken in
    omega (arith, s.sum, none)
