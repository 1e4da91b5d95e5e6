-- A run's first world, what it shows, and transcripts without marks.
use Rattle.std.proofs.Common.{◌≡◌, ◌≢◌, ℕ, zero, suc, ◌<◌, ◌≤◌, ◌+◌, nat_lt, false, List, [], ◌∷◌, ◌++◌, length}
use Rattle.std.proofs.Common.{get_or, take, map, cond, append-nil, Vec, Global, refl, sym, ap, subst, ◌∙◌, arith}
use mathlib.Core.Path.{fun_ext}
use Rattle.std.specs.List.{All}
use Rattle.std.proofs.lemmas.Bool.{lt-ltb}
use Rattle.std.proofs.lemmas.List.Elements.{filter_more, All-head, All-tail}
use Rattle.behavior.specs.Transcripts.{mark, output}
use Rattle.ps_meaning.specs.Values as v
use Rattle.ps_meaning.specs.Worlds as m
use Rattle.ps_meaning.specs.Text as t
use Rattle.ps_meaning.specs.Run as d
use Rattle.ps_meaning_runner.specs.declared.ending.Ending.{Ending}
use Rattle.ps_meaning_runner.specs.declared.ending.Ending.TheVariants.{Normal}
use Rattle.ps_meaning_runner.specs.declared.value.Value.{Value}
use Rattle.ps_meaning_runner.specs.declared.world.Setup.{Setup}
use Rattle.ps_meaning_runner.specs.declared.world.World.{World}
use Rattle.ps_meaning_runner.specs.View.{value_of}
use Rattle.ps_meaning_runner.specs.Worlds.{stored, caller, world_of, ending_of, program_of, costs_in}
use Rattle.ps_meaning_runner.specs.declared.stop.Halt.{Halt}
use Rattle.ps_meaning_runner.specs.declared.stop.Halt.TheVariants.{Ended}
use Rattle.ps_meaning_runner.specs.Runs.{Halted, shown}

no_store : stored [] ≡ (λ (name : ℕ). m.unset)
unfolding stored
no_store = fun_ext {f = stored []} {g = λ (name : ℕ). m.unset} (λ name. refl)

world_with : List Value → List Value → List ℕ → List ℕ → List ℕ → m.World
world_with store objects made input transcript = record {
  next = 0;
  store = stored store;
  objects = map value_of objects;
  made = made;
  input = t.whole_input input;
  transcript = transcript;
}

pub first_world_is : (store objects : List Value) (made input transcript : List ℕ) → store ≡ [] → objects ≡ [] → made
    ≡ [] → transcript ≡ [] → (let w : m.World = record {
      next = 0;
      store = stored store;
      objects = map value_of objects;
      made = made;
      input = record {
        left = input;
        looked = false;
        in_line = false;
      };
      transcript = transcript;
    } in w) ≡ d.first_world input
unfolding world_with
first_world_is store objects made input transcript e f g h =
    ap (λ x. world_with x objects made input transcript) e ∙ ap (λ x. world_with [] x made input transcript) f
    ∙ ap (λ x. world_with [] [] x input transcript) g ∙ ap (λ x. world_with [] [] [] input x) h
    ∙ ap (λ (s : ℕ → v.Value). record {
      next = 0;
      store = s;
      objects = [];
      made = [];
      input = t.whole_input input;
      transcript = [];
    }) no_store

pub answer_is : (setup : Setup) (n : ℕ) (input : List ℕ)
    → caller setup n 0 m.Outside [] d.first_context (d.first_world input)
    ≡ d.answer (program_of setup) (costs_in setup) input n
unfolding caller
answer_is setup n input = refl

pub shown_done : (w : World) (calls : Vec ℕ Global) (a : m.Answer m.Done) → a ≡ m.Gives m.done (world_of w) → shown
    (record {
      transcript = w.transcript;
      ending = Normal;
      calls = calls;
    }) ≡ d.shown a
shown_done w calls a is = sym (ap d.shown is)

pub shown_stopped : (w : World) (ending : Ending) (calls : Vec ℕ Global) (halt : Halt) (a : m.Answer m.Done) (k n : ℕ)
    → Halted a k n halt w → halt ≡ Ended ending calls → shown (record {
      transcript = w.transcript;
      ending = ending;
      calls = calls;
    }) ≡ d.shown a
shown_stopped w ending calls halt a k n h is =
    let ends : a ≡ m.Ends w.transcript.items (ending_of ending calls.items) = subst (λ s. Halted a k n s w) is h in
    sym (ap d.shown ends)

-- one more mark, or byte
pub shown_mark : (xs : List ℕ) (i x : ℕ) → i < length xs → x ≡ get_or xs i 0 → x ≡ 256 → output (take (i + 1) xs)
    ≡ output (take i xs)
shown_mark xs i x lt at is =
    filter_more (λ b. nat_lt b mark) xs i 0 lt ∙ ap (λ y. output (take i xs) ++ cond (nat_lt y mark) (y ∷ []) [])
    (sym at ∙ is) ∙ append-nil (output (take i xs))

pub shown_byte : (xs : List ℕ) (i x : ℕ) → i < length xs → x ≡ get_or xs i 0 → x < 256 → output (take (i + 1) xs)
    ≡ output (take i xs) ++ x ∷ []
shown_byte xs i x lt at low =
    filter_more (λ b. nat_lt b mark) xs i 0 lt ∙ ap (λ y. output (take i xs) ++ cond (nat_lt y mark) (y ∷ []) [])
    (sym at) ∙ ap (λ b. output (take i xs) ++ cond b (x ∷ []) []) (lt-ltb x 256 low)

-- an item that is neither a byte nor a mark
pub neither_byte_nor_mark : (xs : List ℕ) (i x : ℕ) → i < length xs → x ≡ get_or xs i 0 → x ≢ 256 → 256 ≤ x → All
    (λ b. b ≤ 256) xs → ⊥
neither_byte_nor_mark [] i x lt at other le all = absurd (omega arith)
neither_byte_nor_mark (y ∷ rest) zero x lt at other le all = other
    (let low : y ≤ 256 = All-head (λ b. b ≤ 256) _ _ all in omega arith)
neither_byte_nor_mark (y ∷ rest) (suc i) x lt at other le all = neither_byte_nor_mark rest i x (omega arith) at other le
    (All-tail (λ b. b ≤ 256) _ _ all)
