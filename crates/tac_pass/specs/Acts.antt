-- What an instruction becomes by an action, computed from a table: the new instruction, and the table after it.
use Rattle.std.specs.Prelude.{ℕ, ◌+◌, ◌*◌, ◌/◌, ◌%◌, Bool, true, false, nat_eq, nat_lt, if◌then◌else◌, List, [], ◌∷◌}
use Rattle.std.specs.Prelude.{Option, Some, None}
use Rattle.tac_code.specs.declared.code.Operand.{Operand}
use Rattle.tac_code.specs.declared.code.Operand.TheVariants as operand
use Rattle.tac_code.specs.declared.code.Base.{Base}
use Rattle.tac_code.specs.declared.code.Base.TheVariants as base
use Rattle.tac_code.specs.declared.code.Instruction.{Instruction}
use Rattle.tac_code.specs.declared.code.Instruction.TheVariants.{Literal, Copy, Arithmetic, Bits, Compare, CheckRange}
use Rattle.tac_code.specs.declared.code.Instruction.TheVariants.{CheckPointer, Text, Offset, Index, RoutineValue, Load}
use Rattle.tac_code.specs.declared.code.Instruction.TheVariants.{Store, LoadByte, StoreByte, Call, CallValue, Return}
use Rattle.tac_code.specs.declared.code.Instruction.TheVariants.{Trap, Take, Put, New, End}
use Rattle.tac_code.specs.Numbers.{steps_above}
use Rattle.tac_pass.specs.declared.table.Reach.{Reach}
use Rattle.tac_pass.specs.declared.table.Reach.TheVariants.{Anywhere, Within}
use Rattle.tac_pass.specs.Tables.{Table, nowhere, unknown, known_in, word_in, free, is_minded, give, give_word, spare}
use Rattle.tac_pass.specs.Tables.{store_both, store_old, keep_word, find, clean, fetch_word, base_reach, is_seen}
use Rattle.tac_pass.specs.Tables.{write, are_fresh, call}

abbrev pub and_then : {A B : Type 0} → Option A → (A → Option B) → Option B
and_then None go = None
and_then (Some x) go = go x

abbrev pub only_if : {A : Type 0} → Bool → Option A → Option A
only_if true o = o
only_if false o = None

-- ---- operands

abbrev pub holder : Table → ℕ → Option ℕ
holder table u = (known_in table u).holder

abbrev pub renamed_right : Table → Operand → Option Operand
renamed_right table (operand.Temporary u) = and_then (holder table u) (λ v. Some (operand.Temporary v))
renamed_right table (operand.Number z) = Some (operand.Number z)

abbrev pub renamed_base : Table → Base → Option Base
renamed_base table (base.Temporary u) = and_then (holder table u) (λ v. Some (base.Temporary v))
renamed_base table b = Some b

abbrev pub renamed_list : Table → List ℕ → Option (List ℕ)
renamed_list table [] = Some []
renamed_list table (u ∷ us) = and_then (holder table u) (λ v. and_then (renamed_list table us) (λ vs. Some (v ∷ vs)))

-- the word of the own frame that a base and an offset are, if they are one
abbrev pub own_word : Base → ℕ → Option ℕ
own_word base.Frame n = if nat_eq (n % 4) 0 then Some (n / 4) else None
own_word _ n = None

-- ---- where addresses may point to

-- bounds are words
abbrev pub bounded : ℕ → ℕ → Reach
bounded low high = if nat_lt high 4294967296 then Within low high else Anywhere

-- some bytes further, or up to some
abbrev pub shifted : ℕ → Reach → Reach
shifted n Anywhere = Anywhere
shifted n (Within low high) = if nat_lt low high then bounded (low + n) (high + n) else nowhere

abbrev pub stretched : ℕ → Reach → Reach
stretched n Anywhere = Anywhere
stretched n (Within low high) = if nat_lt low high then bounded low (high + n) else nowhere

-- an instruction, and what is claimed after it
pub record Made : Type 0 where
  pub instruction : Instruction
  pub table : Table

abbrev pub makes : Instruction → Table → Option Made
makes i table = Some (record { instruction = i; table = table })

module _ (r : ℕ) (minded : List ℕ) (table : Table) where
  -- ---- an instruction is kept, and what it gives stands in t'

  abbrev pub kept_load : ℕ → ℕ → Base → ℕ → Option ℕ → Option Made
  kept_load t' t b n (Some k) =
      only_if (if (word_in minded table k).stale then false else true)
      (makes (Load t' base.Frame n) (give_word minded t t' k table))
  kept_load t' t b n None =
      only_if (is_seen minded (base_reach r b table) n table)
      (and_then (renamed_base table b) (λ b'. makes (Load t' b' n) (give t t' Anywhere table)))

  abbrev pub kept_store : Base → ℕ → ℕ → Option ℕ → Option Made
  kept_store b n a (Some k) =
      and_then (holder table a) (λ a'. makes (Store base.Frame n a') (store_both minded a k table))
  kept_store b n a None =
      and_then (renamed_base table b) (λ b'. and_then (holder table a)
      (λ a'. makes (Store b' n a') (write minded (base_reach r b table) n table)))

  abbrev pub kept : ℕ → Instruction → Option Made
  kept t' (Literal t z) = makes (Literal t' z) (give t t' nowhere table)
  kept t' (Copy t a) =
      and_then (holder table a) (λ a'. makes (Copy t' a') (give t t' (known_in table a).reach table))
  kept t' (Arithmetic operator t a b error line) =
      and_then (holder table a) (λ a'. and_then (renamed_right table b)
      (λ b'. makes (Arithmetic operator t' a' b' error line) (give t t' nowhere table)))
  kept t' (Bits operator t a b) =
      and_then (holder table a) (λ a'. and_then (renamed_right table b)
      (λ b'. makes (Bits operator t' a' b') (give t t' nowhere table)))
  kept t' (Compare relation t a b) =
      and_then (holder table a) (λ a'. and_then (renamed_right table b)
      (λ b'. makes (Compare relation t' a' b') (give t t' nowhere table)))
  kept t' (CheckRange a low high error line) =
      and_then (holder table a) (λ a'. makes (CheckRange a' low high error line) table)
  kept t' (CheckPointer a error line) =
      and_then (holder table a) (λ a'. makes (CheckPointer a' error line) (find a table))
  kept t' (Text t bytes) = makes (Text t' bytes) (give t t' nowhere table)
  kept t' (Offset t b n extent) =
      and_then (renamed_base table b) (λ b'. makes (Offset t' b' n extent)
      (give t t' (shifted n (base_reach r b table)) table))
  kept t' (Index t b x low high width error line) =
      and_then (renamed_base table b) (λ b'. and_then (holder table x)
      (λ x'. makes (Index t' b' x' low high width error line)
      (give t t' (stretched (steps_above low high * width) (base_reach r b table)) table)))
  kept t' (RoutineValue t routine) = makes (RoutineValue t' routine) (give t t' nowhere table)
  kept t' (Load t b n) = kept_load t' t b n (own_word b n)
  kept t' (Store b n a) = kept_store b n a (own_word b n)
  kept t' (LoadByte t b n) =
      only_if (is_seen minded (base_reach r b table) n table)
      (and_then (renamed_base table b) (λ b'. makes (LoadByte t' b' n) (give t t' nowhere table)))
  kept t' (StoreByte b n a) =
      only_if (is_seen minded (base_reach r b table) n table)
      (and_then (renamed_base table b) (λ b'. and_then (holder table a)
      (λ a'. makes (StoreByte b' n a') (write minded (base_reach r b table) n table))))
  kept t' (Take t) = makes (Take t') (give t t' nowhere table)
  kept t' (Put a) = and_then (holder table a) (λ a'. makes (Put a') table)
  kept t' (New t object_type line) = makes (New t' object_type line) (give t t' nowhere table)
  kept t' (Call t routine operands line) =
      only_if (are_fresh table.words) (and_then (renamed_list table operands)
      (λ operands'. makes (Call t' routine operands' line) (call t t' table)))
  kept t' (CallValue t a operands line) =
      only_if (are_fresh table.words) (and_then (holder table a)
      (λ a'. and_then (renamed_list table operands)
      (λ operands'. makes (CallValue t' a' operands' line) (call t t' table))))
  kept t' _ = None

  -- ---- an instruction behind which nothing follows

  abbrev pub ending : Instruction → Option Instruction
  ending (Return a) = and_then (holder table a) (λ a'. Some (Return a'))
  ending (Trap error line) = Some (Trap error line)
  ending End = Some End
  ending _ = None

  -- ---- an instruction is left out

  abbrev pub spared_load : ℕ → Option ℕ → Option Table
  spared_load t (Some k) = Some (spare t (word_in minded table k).value table)
  spared_load t None = None

  abbrev pub spared_store : ℕ → Option ℕ → Option Table
  spared_store a (Some k) = only_if (is_minded minded k table) (Some (store_old minded a k table))
  spared_store a None = None

  abbrev pub spared : Instruction → Option Table
  spared (Literal t z) = Some (spare t unknown table)
  spared (Copy t a) = Some (spare t (known_in table a) table)
  spared (Load t b n) = spared_load t (own_word b n)
  spared (Store b n a) = spared_store a (own_word b n)
  spared (CheckRange a low high error line) = only_if (nat_eq error 0) (Some table)
  spared (CheckPointer a error line) = only_if (nat_eq error 0) (Some table)
  spared _ = None

  -- ---- a load or a store of the own frame becomes a copy to t'

  abbrev pub moved_load : ℕ → ℕ → Option ℕ → Option Made
  moved_load t' t (Some k) =
      and_then (word_in minded table k).value.holder (λ a'. makes (Copy t' a') (give_word minded t t' k table))
  moved_load t' t None = None

  abbrev pub moved_store : ℕ → ℕ → Option ℕ → Option Made
  moved_store t' a (Some k) =
      only_if (is_minded minded k (free t' table))
      (and_then (holder table a) (λ a'. makes (Copy t' a') (keep_word minded a k t' table)))
  moved_store t' a None = None

  abbrev pub moved_word : ℕ → Instruction → Option Made
  moved_word t' (Load t b n) = moved_load t' t (own_word b n)
  moved_word t' (Store b n a) = moved_store t' a (own_word b n)
  moved_word t' _ = None

  -- ---- what is put in

  -- word k is stored by what holds it
  abbrev pub cleaned : ℕ → Option Made
  cleaned k =
      let w = word_in minded table k in
      only_if (if w.blank then false else true)
      (and_then w.value.holder (λ t. makes (Store base.Frame (4 * k) t) (clean minded k table)))

  -- word k is loaded into t
  abbrev pub fetched : ℕ → ℕ → Option Made
  fetched k t =
      let w = word_in minded table k in
      only_if (if w.blank then false else if w.stale then false else true)
      (makes (Load t base.Frame (4 * k)) (fetch_word minded k t table))
