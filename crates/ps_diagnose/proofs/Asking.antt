-- The kinds of tokens that were asked about at a place.
use Rattle.std.proofs.Common.{
  ◌≡◌,
  ℕ,
  ◌+◌,
  ◌<◌,
  ◌≤◌,
  ◌⊎◌,
  inl,
  inr,
  List,
  [],
  ◌∷◌,
  ◌++◌,
  length,
  take,
  get_or,
  refl,
  sym,
  subst,
  arith,
  ap,
  ◌∙◌,
  zero,
  suc,
  map,
  ⊎_elim,
}
use Rattle.std.specs.List.{Contains}
use Rattle.std.proofs.lemmas.List.{take_more, length-take, length_push, get_or-take, get_or_default}
use Rattle.std.proofs.lemmas.List.{get_or_append_left, get_or_push}
use Rattle.std.proofs.lemmas.List.Elements.{All-nil, All-push, Contains-append_left, Contains-push, Contains-push_cases}
use Rattle.std.proofs.lemmas.Bool.{cases_lt}
use Rattle.ps_scan.specs.declared.token.Kind.{Kind}
use Rattle.ps_scan.specs.declared.token.Kind.TheVariants as k
use Rattle.ps_parse_grammar.specs.Symbols.{Tokens}
use Rattle.ps_diagnose.specs.Begun.{Tells, one_more, CouldStand, IsSettled, AreApart, Asked, Expects}
use Rattle.ps_diagnose.specs.declared.begun.Answer.TheVariants.{Begun, NotBegun, Unknown}
use Rattle.ps_diagnose.specs.declared.kinds.TheConstants.{ALL}

-- nothing was asked about
pub nothing_asked : (text : List ℕ) (ts : Tokens) → Asked text ts [] []
nothing_asked text ts = record {
  stand = All-nil (CouldStand text ts);
  settled = All-nil (IsSettled text ts []);
  apart = λ i j d lt within. absurd (omega (arith, within));
  among = λ kind none. (let within = none.1 in absurd (omega (arith, within)));
}

-- what is known stays known where one more is given
still_settled : (text : List ℕ) (ts : Tokens) (given : List Kind) (more kind : Kind) → IsSettled text ts given kind
    → IsSettled text ts (given ++ more ∷ []) kind
still_settled text ts given more kind (inl given') = inl (Contains-append_left given (more ∷ []) kind given')
still_settled text ts given more kind (inr other) = inr other

-- one more that isn't given yet
apart_push : (given : List Kind) (more : Kind) → AreApart given → (Contains given more → ⊥)
    → AreApart (given ++ more ∷ [])
apart_push given more apart fresh i j d lt within same =
    let long = length_push given more in
    let first : i < length given = omega (arith, long, lt, within) in
    let before : get_or given i d ≡ get_or (given ++ more ∷ []) i d
    = sym (get_or_append_left given (more ∷ []) d i first) in
    ⊎_elim
    (λ inside. apart i j d lt inside (before ∙ same ∙ get_or_append_left given (more ∷ []) d j inside))
    (λ past. (let last : length given ≡ j = omega (arith, long, past, within) in
    fresh (i, first, get_or_default given i more d first ∙ before ∙ same ∙ get_or_push given more d j last)))
    (cases_lt j (length given))

among_push : (asked given : List Kind) (more kind : Kind) → ((k : Kind) → Contains given k → Contains asked k)
    → Contains (given ++ more ∷ []) kind → Contains (asked ++ more ∷ []) kind
among_push asked given more kind among here =
    ⊎_elim
    (λ inside. Contains-append_left asked (more ∷ []) kind (among kind inside))
    (λ is. subst (Contains (asked ++ more ∷ [])) is (Contains-push asked more))
    (Contains-push_cases given more kind here)

-- one that could stand there is given
pub asked_begun : (text : List ℕ) (ts : Tokens) (asked given : List Kind) (kind : Kind) → (Contains asked kind → ⊥)
    → Tells text (one_more ts kind) Begun → Asked text ts asked given
    → Asked text ts (asked ++ kind ∷ []) (given ++ kind ∷ [])
asked_begun text ts asked given kind fresh stands before = record {
  stand = All-push (CouldStand text ts) given kind before.stand stands;
  settled =
      All-push (IsSettled text ts (given ++ kind ∷ [])) asked kind
      (λ i d inside. still_settled text ts given kind _ (before.settled i d inside))
      (inl (Contains-push given kind));
  apart = apart_push given kind before.apart (λ here. fresh (before.among kind here));
  among = λ k here. among_push asked given kind k before.among here;
}

-- one that could not, or of which it isn't known, is not
pub asked_not : (text : List ℕ) (ts : Tokens) (asked given : List Kind) (kind : Kind)
    → Tells text (one_more ts kind) NotBegun → Asked text ts asked given → Asked text ts (asked ++ kind ∷ []) given
asked_not text ts asked given kind never before = record {
  stand = before.stand;
  settled = All-push (IsSettled text ts given) asked kind before.settled (inr (inl never));
  apart = before.apart;
  among = λ k here. Contains-append_left asked (kind ∷ []) k (before.among k here);
}

pub asked_unknown : (text : List ℕ) (ts : Tokens) (asked given : List Kind) (kind : Kind)
    → Tells text (one_more ts kind) Unknown → Asked text ts asked given → Asked text ts (asked ++ kind ∷ []) given
asked_unknown text ts asked given kind deep before = record {
  stand = before.stand;
  settled = All-push (IsSettled text ts given) asked kind before.settled (inr (inr deep));
  apart = before.apart;
  among = λ k here. Contains-append_left asked (kind ∷ []) k (before.among k here);
}

-- the next kind of all
pub asked_next : (text : List ℕ) (ts : Tokens) (given : List Kind) (i : ℕ) (kind : Kind) → i < length ALL
    → Asked text ts (take i ALL ++ get_or ALL i kind ∷ []) given → Asked text ts (take (i + 1) ALL) given
asked_next text ts given i kind inside asked =
    subst (λ l. Asked text ts l given) (sym (take_more ALL i kind inside)) asked

all_length : length ALL ≡ 59
all_length = refl

-- each kind is one of all
pub is_one : (kind : Kind) → Contains ALL kind
is_one k.Name = let all = all_length in (0, omega arith, refl)
is_one k.Number = let all = all_length in (1, omega arith, refl)
is_one k.Text = let all = all_length in (2, omega arith, refl)
is_one k.And = let all = all_length in (3, omega arith, refl)
is_one k.Array = let all = all_length in (4, omega arith, refl)
is_one k.Begin = let all = all_length in (5, omega arith, refl)
is_one k.Case = let all = all_length in (6, omega arith, refl)
is_one k.Const = let all = all_length in (7, omega arith, refl)
is_one k.Div = let all = all_length in (8, omega arith, refl)
is_one k.Do = let all = all_length in (9, omega arith, refl)
is_one k.Downto = let all = all_length in (10, omega arith, refl)
is_one k.Else = let all = all_length in (11, omega arith, refl)
is_one k.End = let all = all_length in (12, omega arith, refl)
is_one k.File = let all = all_length in (13, omega arith, refl)
is_one k.For = let all = all_length in (14, omega arith, refl)
is_one k.Function = let all = all_length in (15, omega arith, refl)
is_one k.Goto = let all = all_length in (16, omega arith, refl)
is_one k.If = let all = all_length in (17, omega arith, refl)
is_one k.In = let all = all_length in (18, omega arith, refl)
is_one k.Label = let all = all_length in (19, omega arith, refl)
is_one k.Mod = let all = all_length in (20, omega arith, refl)
is_one k.Nil = let all = all_length in (21, omega arith, refl)
is_one k.Not = let all = all_length in (22, omega arith, refl)
is_one k.Of = let all = all_length in (23, omega arith, refl)
is_one k.Or = let all = all_length in (24, omega arith, refl)
is_one k.Packed = let all = all_length in (25, omega arith, refl)
is_one k.Procedure = let all = all_length in (26, omega arith, refl)
is_one k.Program = let all = all_length in (27, omega arith, refl)
is_one k.Record = let all = all_length in (28, omega arith, refl)
is_one k.Repeat = let all = all_length in (29, omega arith, refl)
is_one k.Set = let all = all_length in (30, omega arith, refl)
is_one k.Then = let all = all_length in (31, omega arith, refl)
is_one k.To = let all = all_length in (32, omega arith, refl)
is_one k.Type = let all = all_length in (33, omega arith, refl)
is_one k.Until = let all = all_length in (34, omega arith, refl)
is_one k.Var = let all = all_length in (35, omega arith, refl)
is_one k.While = let all = all_length in (36, omega arith, refl)
is_one k.With = let all = all_length in (37, omega arith, refl)
is_one k.Plus = let all = all_length in (38, omega arith, refl)
is_one k.Minus = let all = all_length in (39, omega arith, refl)
is_one k.Star = let all = all_length in (40, omega arith, refl)
is_one k.Slash = let all = all_length in (41, omega arith, refl)
is_one k.Equal = let all = all_length in (42, omega arith, refl)
is_one k.NotEqual = let all = all_length in (43, omega arith, refl)
is_one k.Less = let all = all_length in (44, omega arith, refl)
is_one k.Greater = let all = all_length in (45, omega arith, refl)
is_one k.LessEqual = let all = all_length in (46, omega arith, refl)
is_one k.GreaterEqual = let all = all_length in (47, omega arith, refl)
is_one k.LeftBracket = let all = all_length in (48, omega arith, refl)
is_one k.RightBracket = let all = all_length in (49, omega arith, refl)
is_one k.LeftParen = let all = all_length in (50, omega arith, refl)
is_one k.RightParen = let all = all_length in (51, omega arith, refl)
is_one k.Dot = let all = all_length in (52, omega arith, refl)
is_one k.DotDot = let all = all_length in (53, omega arith, refl)
is_one k.Comma = let all = all_length in (54, omega arith, refl)
is_one k.Colon = let all = all_length in (55, omega arith, refl)
is_one k.Semicolon = let all = all_length in (56, omega arith, refl)
is_one k.Caret = let all = all_length in (57, omega arith, refl)
is_one k.Assign = let all = all_length in (58, omega arith, refl)

-- ---- no kind stands twice among all: the number of each is where it stands

number : Kind → ℕ
number kind = (is_one kind).0

-- so many numbers from one on
numbers_from : ℕ → ℕ → List ℕ
numbers_from first zero = []
numbers_from first (suc more) = first ∷ numbers_from (suc first) more

numbers : map number ALL ≡ numbers_from 0 59
unfolding numbers_from number is_one
numbers = refl

number_from : (first count at d : ℕ) → at < count → get_or (numbers_from first count) at d ≡ first + at
unfolding numbers_from
number_from first zero at d lt = absurd (omega (arith, lt))
number_from first (suc more) zero d lt = omega arith
number_from first (suc more) (suc at) d lt = number_from (suc first) more at d (omega (arith, lt)) ∙ omega arith

number_in : (kinds : List Kind) (at : ℕ) (d : Kind) → number (get_or kinds at d)
    ≡ get_or (map number kinds) at (number d)
number_in [] at d = refl
number_in (kind ∷ kinds) zero d = refl
number_in (kind ∷ kinds) (suc at) d = number_in kinds at d

number_at : (at : ℕ) (d : Kind) → at < length ALL → number (get_or ALL at d) ≡ at
number_at at d lt =
    let all = all_length in
    number_in ALL at d ∙ ap (λ l. get_or l at (number d)) numbers
    ∙ number_from 0 59 at (number d) (omega (arith, all, lt)) ∙ omega arith

-- one is none of those before it
pub not_before : (at : ℕ) (d : Kind) → at < length ALL → Contains (take at ALL) (get_or ALL at d) → ⊥
not_before at d lt (k, within, same) =
    let shorter = length-take at ALL in
    let below : k < at = omega (arith, shorter, within) in
    let e = get_or ALL at d in
    let equal : get_or ALL k e ≡ e = sym (get_or-take at ALL k e below) ∙ same in
    let one : number (get_or ALL k e) ≡ k = number_at k e (omega (arith, below, lt)) in
    let other : number e ≡ at = number_at at d lt in
    absurd (omega (arith, sym one ∙ ap number equal ∙ other, below))

-- where all were asked about
pub asked_all : (text : List ℕ) (ts : Tokens) (given : List Kind) → Asked text ts ALL given → Expects text ts given
asked_all text ts given asked = record {
  stand = asked.stand;
  settled = λ kind. (let here = is_one kind in
      subst (IsSettled text ts given) here.2 (asked.settled here.0 kind here.1));
  apart = asked.apart;
}
