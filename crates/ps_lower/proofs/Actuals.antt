-- Actual parameters, one by one.
use Rattle.std.proofs.Common.{◌≡◌, ℕ, suc, ◌+◌, ◌<◌, ◌≤◌, Bool, false, ◌||◌, List, [], ◌∷◌, ◌++◌, length, drop, get_or}
use Rattle.std.proofs.Common.{refl, sym, ap, ◌∙◌, append_assoc, arith}
use Rattle.std.proofs.Math.Seq.{drop-cons}
use Rattle.std.proofs.lemmas.List.{append-nil, drop_all, drop-drop}
use Rattle.ps_tree.specs.declared.tree.Argument.{Argument}
use Rattle.ps_tree.specs.View.{argument_of, arguments_of}
use Rattle.tac_code.specs.declared.code.Instruction.{Instruction}
use Rattle.ps_lower_code.specs.Scopes.{Scope, held}
use Rattle.ps_lower_code.specs.Calling as code
use Rattle.ps_lower_code.specs.Values.{argument_code, arguments_code, argument_words, arguments_words, argument_end}
use Rattle.ps_lower_code.specs.Values.{arguments_end, argument_scratch}

abbrev pub calling_in : List Argument → Bool
calling_in l = code.arguments_call (arguments_of l)

pub calling_none : calling_in [] ≡ false
unfolding arguments_of
calling_none = refl

pub calling_more : (x : Argument) (xs : List Argument) → calling_in (x ∷ xs)
    ≡ (code.argument_calls (argument_of x) || calling_in xs)
unfolding arguments_of
calling_more x xs = refl

-- where a parameter is, with others after it
abbrev pub slot : List Argument → ℕ → ℕ
slot rest d = held (calling_in rest) d

-- the parameters after the first i
pub rest_next : (items rest less : List Argument) (i : ℕ) → rest ≡ drop i items → less ≡ drop 1 rest → less ≡ drop
    (suc i) items
rest_next items rest less i e f = f ∙ ap (drop 1) e ∙ drop-drop 1 i items
    ∙ (let j : i + 1 ≡ suc i = omega arith in ap (λ n. drop n items) j)

pub rest_on : (items rest : List Argument) (i : ℕ) → rest ≡ drop (suc i) items → rest ≡ drop (i + 1) items
rest_on items rest i e = let j : suc i ≡ i + 1 = omega arith in e ∙ ap (λ n. drop n items) j

-- ---- ends

abbrev pub actual_end : List Argument → ℕ → ℕ
actual_end l d = arguments_end (arguments_of l) d

end_none : (d : ℕ) → actual_end [] d ≡ d
unfolding arguments_of
end_none d = refl

end_more : (a : Argument) (rest : List Argument) (d : ℕ) → actual_end (a ∷ rest) d ≡ actual_end rest
    (argument_end (argument_of a) (slot rest d))
unfolding arguments_of
end_more a rest d = refl

pub record Ended (items : List Argument) (d : ℕ) (i : ℕ) (rest : List Argument) (depth : ℕ) : Type 0 where
  pub behind : rest ≡ drop i items
  pub left : actual_end (drop i items) depth ≡ actual_end items d

pub ended_start : (items : List Argument) (d : ℕ) → Ended items d 0 items d
ended_start items d = record { behind = refl; left = refl }

pub ended_next : (items : List Argument) (d i : ℕ) (rest less : List Argument) (depth below : ℕ) (a : Argument)
    → i < length items → Ended items d i rest depth → less ≡ drop 1 rest → below ≡ argument_end
    (argument_of (get_or items i a)) (slot less depth) → Ended items d (i + 1) less below
ended_next items d i rest less depth below a h s e f =
    let is : less ≡ drop (suc i) items = rest_next items rest less i s.behind e in
    record {
      behind = rest_on items less i is;
      left =
          (let j : i + 1 ≡ suc i = omega arith in ap (λ n. actual_end (drop n items) below) j)
          ∙ ap (actual_end (drop (suc i) items)) (f
          ∙ ap (λ l. argument_end (argument_of (get_or items i a)) (slot l depth)) is)
          ∙ sym (end_more (get_or items i a) (drop (suc i) items) depth)
          ∙ ap (λ l. actual_end l depth) (sym (drop-cons items i a h))
          ∙ s.left;
    }

pub ended_all : (items : List Argument) (d i : ℕ) (rest : List Argument) (depth : ℕ) → length items ≤ i
    → Ended items d i rest depth → depth ≡ actual_end items d
ended_all items d i rest depth h s = sym (end_none depth) ∙ ap (λ l. actual_end l depth) (sym (drop_all i items h))
    ∙ s.left

-- ---- words

abbrev pub actual_words : List Argument → ℕ → List ℕ
actual_words l d = arguments_words (arguments_of l) d

words_none : (d : ℕ) → actual_words [] d ≡ []
unfolding arguments_of
words_none d = refl

words_more : (a : Argument) (rest : List Argument) (d : ℕ) → actual_words (a ∷ rest) d ≡ argument_words (argument_of a)
    (slot rest d) ++ actual_words rest (argument_end (argument_of a) (slot rest d))
unfolding arguments_of
words_more a rest d = refl

pub record Worded (first : List ℕ) (items : List Argument) (d : ℕ) (i : ℕ) (rest : List Argument) (list : List ℕ)
    (depth : ℕ) : Type 0 where
  pub behind : rest ≡ drop i items
  pub left : list ++ actual_words (drop i items) depth ≡ first ++ actual_words items d

pub worded_start : (first : List ℕ) (items : List Argument) (d : ℕ) (list : List ℕ) → list ≡ first
    → Worded first items d 0 items list d
worded_start first items d list e = record { behind = refl; left = ap (λ l. l ++ actual_words items d) e }

pub worded_next : (first : List ℕ) (items : List Argument) (d i : ℕ) (rest less : List Argument) (list more : List ℕ)
    (depth below t : ℕ) (a : Argument) → i < length items → Worded first items d i rest list depth → less ≡ drop 1 rest
    → t ≡ slot less depth → more ≡ list ++ argument_words (argument_of (get_or items i a)) t → below ≡ argument_end
    (argument_of (get_or items i a)) t → Worded first items d (i + 1) less more below
worded_next first items d i rest less list more depth below t a h s e at m f =
    let is : less ≡ drop (suc i) items = rest_next items rest less i s.behind e in
    let here : t ≡ slot (drop (suc i) items) depth = at ∙ ap (λ l. slot l depth) is in
    let item : Argument = get_or items i a in
    record {
      behind = rest_on items less i is;
      left =
          (let j : i + 1 ≡ suc i = omega arith in ap (λ n. more ++ actual_words (drop n items) below) j)
          ∙ ap (λ n. more ++ actual_words (drop (suc i) items) n) f
          ∙ ap (λ l. l ++ actual_words (drop (suc i) items) (argument_end (argument_of item) t)) m
          ∙ append_assoc list (argument_words (argument_of item) t)
          (actual_words (drop (suc i) items) (argument_end (argument_of item) t))
          ∙ ap (λ n. list ++ (argument_words (argument_of item) n ++ actual_words (drop (suc i) items)
          (argument_end (argument_of item) n))) here
          ∙ ap (λ l. list ++ l) (sym (words_more item (drop (suc i) items) depth))
          ∙ ap (λ l. list ++ actual_words l depth) (sym (drop-cons items i a h))
          ∙ s.left;
    }

pub worded_all : (first : List ℕ) (items : List Argument) (d i : ℕ) (rest : List Argument) (list : List ℕ) (depth : ℕ)
    → length items ≤ i → Worded first items d i rest list depth → list ≡ first ++ actual_words items d
worded_all first items d i rest list depth h s = sym (append-nil list) ∙ ap (λ l. list ++ l) (sym (words_none depth))
    ∙ ap (λ l. list ++ actual_words l depth) (sym (drop_all i items h)) ∙ s.left

-- ---- code

abbrev pub actual_code : Scope → List Argument → (d x : ℕ) → List Instruction
actual_code k l d x = arguments_code k (arguments_of l) d x

code_none : (k : Scope) (d x : ℕ) → actual_code k [] d x ≡ []
unfolding arguments_of
code_none k d x = refl

code_more : (k : Scope) (a : Argument) (rest : List Argument) (d x : ℕ) → actual_code k (a ∷ rest) d x ≡ argument_code k
    (argument_of a) (slot rest d) x ++ actual_code k rest (argument_end (argument_of a) (slot rest d))
    (x + argument_scratch (argument_of a))
unfolding arguments_of
code_more k a rest d x = refl

pub record Handed (k : Scope) (start : List Instruction) (items : List Argument) (d x : ℕ) (i : ℕ)
    (rest : List Argument) (now : List Instruction) (depth scratch : ℕ) : Type 0 where
  pub behind : rest ≡ drop i items
  pub left : now ++ actual_code k (drop i items) depth scratch ≡ start ++ actual_code k items d x

pub handed_start : (k : Scope) (start : List Instruction) (items : List Argument) (d x : ℕ)
    → Handed k start items d x 0 items start d x
handed_start k start items d x = record { behind = refl; left = refl }

pub handed_next : (k : Scope) (start : List Instruction) (items : List Argument) (d x i : ℕ) (rest less : List Argument)
    (now next : List Instruction) (depth scratch below further t : ℕ) (a : Argument) → i < length items
    → Handed k start items d x i rest now depth scratch → less ≡ drop 1 rest → t ≡ slot less depth → next ≡ now
    ++ argument_code k (argument_of (get_or items i a)) t scratch → below ≡ argument_end
    (argument_of (get_or items i a)) t → further ≡ scratch + argument_scratch (argument_of (get_or items i a))
    → Handed k start items d x (i + 1) less next below further
handed_next k start items d x i rest less now next depth scratch below further t a h s e at m f g =
    let is : less ≡ drop (suc i) items = rest_next items rest less i s.behind e in
    let here : t ≡ slot (drop (suc i) items) depth = at ∙ ap (λ l. slot l depth) is in
    let item : Argument = get_or items i a in
    record {
      behind = rest_on items less i is;
      left =
          (let j : i + 1 ≡ suc i = omega arith in ap (λ n. next ++ actual_code k (drop n items) below further) j)
          ∙ ap (λ n. next ++ actual_code k (drop (suc i) items) n further) f
          ∙ ap (λ n. next ++ actual_code k (drop (suc i) items) (argument_end (argument_of item) t) n) g
          ∙ ap (λ l. l ++ actual_code k (drop (suc i) items) (argument_end (argument_of item) t)
          (scratch + argument_scratch (argument_of item))) m
          ∙ append_assoc now (argument_code k (argument_of item) t scratch)
          (actual_code k (drop (suc i) items) (argument_end (argument_of item) t)
          (scratch + argument_scratch (argument_of item)))
          ∙ ap (λ n. now ++ (argument_code k (argument_of item) n scratch ++ actual_code k (drop (suc i) items)
          (argument_end (argument_of item) n) (scratch + argument_scratch (argument_of item)))) here
          ∙ ap (λ l. now ++ l) (sym (code_more k item (drop (suc i) items) depth scratch))
          ∙ ap (λ l. now ++ actual_code k l depth scratch) (sym (drop-cons items i a h))
          ∙ s.left;
    }

pub handed_all : (k : Scope) (start : List Instruction) (items : List Argument) (d x i : ℕ) (rest : List Argument)
    (now : List Instruction) (depth scratch : ℕ) → length items ≤ i → Handed k start items d x i rest now depth scratch
    → now ≡ start ++ actual_code k items d x
handed_all k start items d x i rest now depth scratch h s = sym (append-nil now) ∙ ap (λ l. now ++ l)
    (sym (code_none k depth scratch)) ∙ ap (λ l. now ++ actual_code k l depth scratch) (sym (drop_all i items h))
    ∙ s.left
