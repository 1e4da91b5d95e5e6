-- What is seen of the loaded machine: the code, then globals, heap and stack.
use Rattle.std.specs.Prelude.{◌≡◌, ℕ, ◌+◌, ◌*◌, ◌/◌, ◌%◌, ◌<◌, false, List, [], ◌∷◌, length, slice_index, slice_get}
use Rattle.std.specs.Prelude.{Some}
use Rattle.risc_machine_laws.specs.View.{View}

-- the bytes of the words, lowest first
abbrev pub code_bytes : List ℕ → List ℕ
code_bytes [] = []
code_bytes (w ∷ ws) =
    (w % 256) ∷ (w / 256 % 256) ∷ (w / 65536 % 256) ∷ (w / 16777216 % 256) ∷ code_bytes ws

-- each word of the code has 32 bits
abbrev pub AreWords : List ℕ → Type 0
AreWords code = (k w : ℕ) → slice_get code k ≡ Some w → w < 4294967296

abbrev pub start_size : List ℕ → ℕ → ℕ → ℕ → ℕ
start_size code global heap stack = 4 * length code + global + heap + stack

-- R0 is the first heap address, R1 the first stack address, R13 the first global address, R14 the end of memory;
-- the words of memory are the code's, and 0 past it
abbrev pub start_view : List ℕ → ℕ → ℕ → ℕ → View
start_view code global heap stack =
    let globals = 4 * length code in
    let heap_at = globals + global in
    let stack_at = heap_at + heap in
    let end = stack_at + stack in
    record {
      registers = λ k. slice_index (heap_at ∷ stack_at ∷ 0 ∷ 0 ∷ 0 ∷ 0 ∷ 0 ∷ 0 ∷ 0 ∷ 0 ∷ 0 ∷ 0 ∷ 0 ∷ globals ∷ end ∷ 0
          ∷ []) k;
      high = 0;
      negative = false;
      equal = false;
      carry = false;
      overflow = false;
      place = 0;
      words = λ a. slice_index code (a / 4);
    }
