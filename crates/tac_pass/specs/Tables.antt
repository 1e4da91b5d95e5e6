-- Claims as data: a table of the old temporaries and of the words of the own frame that are kept in mind, and what
-- instructions make of it.
use Rattle.std.specs.Prelude.{ℕ, suc, ◌+◌, ◌*◌, Bool, true, false, not, ◌&&◌, ◌||◌, nat_eq, nat_lt, if◌then◌else◌}
use Rattle.std.specs.Prelude.{List, [], ◌∷◌, length, map, slice_get, slice_set, Option, Some, None}
use Rattle.tac_code.specs.declared.code.Base.{Base}
use Rattle.tac_code.specs.declared.code.Base.TheVariants as base
use Rattle.tac_pass.specs.declared.table.Reach.{Reach}
use Rattle.tac_pass.specs.declared.table.Reach.TheVariants.{Anywhere, Within}
use Rattle.tac_pass.specs.declared.table.Known.{Known}
use Rattle.tac_pass.specs.declared.table.Word.{Word}
use Rattle.tac_pass.specs.Claims.{Claim}

-- by the numbers of old temporaries, and by the places of words among those kept in mind
pub record Table : Type 0 where
  pub temporaries : List Known
  pub words : List Word

-- ---- what a table claims

abbrev pub points_to : Reach → ℕ → Bool
points_to Anywhere o = true
points_to (Within low high) o = not (nat_lt o low) && nat_lt o high

-- numbers, and addresses of other blocks
abbrev pub nowhere : Reach
nowhere = Within 0 0

abbrev pub unknown : Known
unknown = record { holder = None; reach = Anywhere }

-- a word that is not kept in mind: both codes store it
abbrev pub unminded : Word
unminded = record { value = unknown; stale = false; blank = true }

abbrev pub or_unknown : Option Known → Known
or_unknown None = unknown
or_unknown (Some x) = x

abbrev pub or_unminded : Option Word → Word
or_unminded None = unminded
or_unminded (Some w) = w

abbrev pub one_further : Option ℕ → Option ℕ
one_further None = None
one_further (Some i) = Some (suc i)

-- the place of a word among those kept in mind
abbrev pub place_of : List ℕ → ℕ → Option ℕ
place_of [] k = None
place_of (x ∷ xs) k = if nat_eq x k then Some 0 else one_further (place_of xs k)

abbrev pub word_at_place : List Word → Option ℕ → Word
word_at_place words None = unminded
word_at_place words (Some i) = or_unminded (slice_get words i)

abbrev pub known_in : Table → ℕ → Known
known_in t u = or_unknown (slice_get t.temporaries u)

module _ (minded : List ℕ) where
  abbrev pub word_in : Table → ℕ → Word
  word_in t k = word_at_place t.words (place_of minded k)

  abbrev pub claim_in : Table → Claim
  claim_in t = record {
    temporaries = λ u. (known_in t u).holder;
    words = λ k. (word_in t k).value.holder;
    stale = λ k. (word_in t k).stale;
    blank = λ k. (word_in t k).blank;
    points = λ u o. points_to (known_in t u).reach o;
    word_points = λ k o. points_to (word_in t k).value.reach o;
  }

-- ---- holders

abbrev pub is_held_by : ℕ → Option ℕ → Bool
is_held_by t None = false
is_held_by t (Some v) = nat_eq v t

abbrev pub freed : ℕ → Known → Known
freed t x = record x { holder = if is_held_by t x.holder then None else x.holder }

abbrev pub freed_word : ℕ → Word → Word
freed_word t w = record w { value = freed t w.value }

-- a new temporary holds nothing any more
abbrev pub free : ℕ → Table → Table
free t table =
    record { temporaries = map (freed t) table.temporaries; words = map (freed_word t) table.words }

-- ---- one row

abbrev pub with_known : ℕ → Known → Table → Table
with_known u x table = record table { temporaries = slice_set table.temporaries u x }

abbrev pub words_with : List Word → Option ℕ → Word → List Word
words_with words None w = words
words_with words (Some i) w = slice_set words i w

abbrev pub is_there : List Word → Option ℕ → Bool
is_there words None = false
is_there words (Some i) = nat_lt i (length words)

-- ---- what instructions make of it

-- t and t' were given a value
abbrev pub give : ℕ → ℕ → Reach → Table → Table
give t t' reach table = with_known t (record { holder = Some t'; reach = reach }) (free t' table)

-- only t was given one, about which so much is known
abbrev pub spare : ℕ → Known → Table → Table
spare t x table = with_known t x table

-- a is the address of an object
abbrev pub find : ℕ → Table → Table
find a table = with_known a (record { holder = (known_in table a).holder; reach = nowhere }) table

-- ---- what lies behind a base

-- where a base of a routine may point
abbrev pub base_reach : ℕ → Base → Table → Reach
base_reach r base.Frame table = Within 0 1
base_reach r base.Scratch table = nowhere
base_reach r base.Program table = if nat_eq r 0 then Within 0 1 else nowhere
base_reach r (base.Temporary u) table = (known_in table u).reach

-- whether what is some bytes after it may be part of a word
abbrev pub may_hit : Reach → (bytes word : ℕ) → Bool
may_hit Anywhere n k = true
may_hit (Within low high) n k = nat_lt (low + n) (4 * k + 4) && nat_lt (4 * k) (high + n)

-- by the tracked words and their numbers: none that may be hit is stale
abbrev pub sees_all : Reach → ℕ → List ℕ → List Word → Bool
sees_all reach n (k ∷ ks) (w ∷ ws) = not (may_hit reach n k && w.stale) && sees_all reach n ks ws
sees_all reach n _ _ = true

abbrev pub hit : Bool → Word → Word
hit true w = record w { value = unknown }
hit false w = w

abbrev pub hit_all : Reach → ℕ → List ℕ → List Word → List Word
hit_all reach n (k ∷ ks) (w ∷ ws) = hit (may_hit reach n k) w ∷ hit_all reach n ks ws
hit_all reach n _ ws = ws

-- ---- calls

abbrev pub are_fresh : List Word → Bool
are_fresh [] = true
are_fresh (w ∷ ws) = not w.stale && are_fresh ws

abbrev pub called_word : Word → Word
called_word w = record { value = unknown; stale = false; blank = w.blank }

abbrev pub call : ℕ → ℕ → Table → Table
call t t' table =
    let given = give t t' Anywhere table in record given { words = map called_word given.words }

-- ---- jumps: nothing is claimed that was not

abbrev pub is_within : Reach → Reach → Bool
is_within _ Anywhere = true
is_within Anywhere (Within low high) = false
is_within (Within low high) (Within low' high') =
    not (nat_lt low high) || (not (nat_lt low low') && not (nat_lt high' high))

abbrev pub holds_no_more : Option ℕ → Option ℕ → Bool
holds_no_more _ None = true
holds_no_more None (Some v) = false
holds_no_more (Some w) (Some v) = nat_eq w v

abbrev pub is_no_more : Known → Known → Bool
is_no_more x y = holds_no_more x.holder y.holder && is_within x.reach y.reach

abbrev pub is_no_more_word : Word → Word → Bool
is_no_more_word w v = is_no_more w.value v.value && ((v.stale || not w.stale) && (v.blank || not w.blank))

abbrev pub all_no_more : {X : Type 0} → (X → X → Bool) → List X → List X → Bool
all_no_more less xs [] = true
all_no_more less [] (y ∷ ys) = false
all_no_more less (x ∷ xs) (y ∷ ys) = less x y && all_no_more less xs ys

-- as many rows, since no word that is stale may be forgotten
abbrev pub is_forgetful : Table → Table → Bool
is_forgetful from to =
    nat_eq (length from.temporaries) (length to.temporaries)
    && (nat_eq (length from.words) (length to.words)
    && (all_no_more is_no_more from.temporaries to.temporaries && all_no_more is_no_more_word from.words to.words))

-- ---- words that are kept in mind

-- a new temporary holds the word, unless another does
abbrev pub held_or : Option ℕ → ℕ → Option ℕ
held_or None t = Some t
held_or (Some v) t = Some v

abbrev pub held_word : ℕ → Word → Word
held_word t w =
    record w { value = record { holder = held_or w.value.holder t; reach = w.value.reach } }

module _ (minded : List ℕ) where
  abbrev pub with_word : ℕ → Word → Table → Table
  with_word k w table = record table { words = words_with table.words (place_of minded k) w }

  abbrev pub is_minded : ℕ → Table → Bool
  is_minded k table = is_there table.words (place_of minded k)

  -- t and t' were given a value, which is that of word k; what held the word before goes on to hold it
  abbrev pub give_word : ℕ → ℕ → ℕ → Table → Table
  give_word t t' k table =
      let given = give t t' (word_in minded table k).value.reach table in
      with_word k (held_word t' (word_in minded given k)) given

  -- what b holds was stored in word k of both frames
  abbrev pub store_both : ℕ → ℕ → Table → Table
  store_both b k table = with_word k (record { value = known_in table b; stale = false; blank = false }) table

  -- the same of the old frame alone
  abbrev pub store_old : ℕ → ℕ → Table → Table
  store_old b k table = with_word k (record { value = known_in table b; stale = true; blank = false }) table

  -- the same of the old frame, and t' was given it
  abbrev pub keep_word : ℕ → ℕ → ℕ → Table → Table
  keep_word b k t' table =
      with_word k (record {
        value = record {
          holder = Some t';
          reach = (known_in table b).reach;
        };
        stale = true;
        blank = false;
      }) (free t' table)

  -- word k is made to agree
  abbrev pub clean : ℕ → Table → Table
  clean k table = with_word k (record (word_in minded table k) { stale = false }) table

  -- t holds word k
  abbrev pub fetch_word : ℕ → ℕ → Table → Table
  fetch_word k t table =
      let w = word_in minded table k in
      with_word k (record w { value = record { holder = Some t; reach = w.value.reach } }) (free t table)

  -- nothing after a base is stale
  abbrev pub is_seen : Reach → ℕ → Table → Bool
  is_seen reach n table = sees_all reach n minded table.words

  -- a store of both codes after a base
  abbrev pub write : Reach → ℕ → Table → Table
  write reach n table = record table { words = hit_all reach n minded table.words }
