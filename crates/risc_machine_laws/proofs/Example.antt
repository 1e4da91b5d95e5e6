-- A program of eight words, with its results computed by hand: it takes a byte, puts it, puts `A` from a constant in
-- the code, and stops.
-- It is run by computation, as a test of the definitions; a smaller one is run by the laws, as they are used.
use Rattle.std.proofs.Common.{◌≡◌, ℕ, ◌+◌, ◌≤◌, true, false, List, [], ◌∷◌, pos, negsuc, refl, arith, lit<}
use Rattle.risc_word.specs.declared.instr.Operand.TheVariants.{Constant}
use Rattle.risc_word.specs.declared.instr.Width.TheVariants.{Word}
use Rattle.risc_word.specs.declared.instr.Instr.TheVariants.{Move, Store}
use Rattle.risc_machine.specs.Step.{State, start_state}
use Rattle.risc_machine.specs.Exec.{Tape, Stopped, Running, told, exec}
use Rattle.risc_machine.specs.declared.limits.TheConstants.{MAX_MEMORY}
use Rattle.risc_machine_laws.specs.View.{View, Fits, IsAt, line, after, at_view}
use Rattle.risc_machine_laws.specs.Start.{code_bytes, AreWords, start_size, start_view}
use Rattle.risc_machine_laws.specs.Runs.{Ends, same_tape}
use Rattle.risc_machine_laws.proofs.Runs.{line_to, stop_ends, ends_after, plain_to, put_to, stop_at}
use Rattle.risc_machine_laws.proofs.Start.{shows_start, words_listed}
use Rattle.std.proofs.lemmas.Int.{ints}

-- MOV R6, -64; LD R0, R6, 8; ST R0, R6, 8; LD R0, R2, 28; ST R0, R6, 8; MOV R0, 0; ST R0, R6, 4; and the constant 65
abbrev words : List ℕ
words = 0x5600FFC0 ∷ 0x80600008 ∷ 0xA0600008 ∷ 0x8020001C ∷ 0xA0600008 ∷ 0x40000000 ∷ 0xA0600004 ∷ 65 ∷ []

abbrev start : State
start = start_state (code_bytes words) 4 8 12

abbrev tape : List ℕ → Tape
tape input = record { input = input; ended = false; transcript = [] }

-- the state after the last store
abbrev stopped : State
stopped =
    record start {
      registers = 0 ∷ 44 ∷ 0 ∷ 0 ∷ 0 ∷ 0 ∷ 4294967232 ∷ 0 ∷ 0 ∷ 0 ∷ 0 ∷ 0 ∷ 0 ∷ 32 ∷ 56 ∷ 0
          ∷ [];
      equal = true;
      pc = 7;
    }

-- a byte is taken (256), put, and `A` is put; the run stops with 0 in its seventh step
written : exec 7 start (tape (66 ∷ 67 ∷ [])) ≡ (256 ∷ 66 ∷ 65 ∷ [], Stopped 0 stopped)
written = refl

running : exec 6 start (tape (66 ∷ 67 ∷ [])) ≡ (256 ∷ 66 ∷ 65 ∷ [], Running)
running = refl

-- at the end of the input the word of -1 is taken, whose lowest byte is 255
at_end : exec 9 start (tape []) ≡ (256 ∷ 255 ∷ 65 ∷ [], Stopped 0 stopped)
at_end = refl

-- MOV R6, -64; MOV R0, 65; ST R0, R6, 8; MOV R0, 0; ST R0, R6, 4
abbrev letter : List ℕ
letter = 0x5600FFC0 ∷ 0x40000041 ∷ 0xA0600008 ∷ 0x40000000 ∷ 0xA0600004 ∷ []

are_words : AreWords letter
are_words = words_listed letter (lit< tt, (lit< tt, (lit< tt, (lit< tt, (lit< tt, tt)))))

-- the view of its end: the last two instructions leave the device page's base in R6, 0 in R0 and the place after the
-- code
abbrev end_view : ℕ → ℕ → ℕ → View
end_view global heap stack =
    at_view 5 (after (Move 0 (Constant (pos 0)))
    (at_view 3 (line (Move 6 (Constant (negsuc 63)) ∷ Move 0 (Constant (pos 65)) ∷ [])
    (start_view letter global heap stack))))

-- by the laws: under every budget, and whatever was written before, it puts `A` and stops with 0
writes_letter : (global heap stack : ℕ) → start_size letter global heap stack ≤ MAX_MEMORY → Ends letter
    (start_size letter global heap stack) (start_state (code_bytes letter) global heap stack) (told 65) 0
    (end_view global heap stack)
writes_letter global heap stack top =
    let size = start_size letter global heap stack in
    let m = start_state (code_bytes letter) global heap stack in
    let fits : Fits letter size = record { room = omega arith; top = top } in
    let v0 = start_view letter global heap stack in
    let device = Move 6 (Constant (negsuc 63)) in
    let loads = Move 0 (Constant (pos 65)) in
    let zeros = Move 0 (Constant (pos 0)) in
    let at0 : IsAt letter 0 device = record {
      word = refl;
      ranges = (omega arith, (omega (arith, ints), omega (arith, ints)));
    } in
    let at1 : IsAt letter 1 loads = record {
      word = refl;
      ranges = (omega arith, (omega (arith, ints), omega (arith, ints)));
    } in
    let at2 : IsAt letter 2 (Store Word 0 6 (pos 8)) = record {
      word = refl;
      ranges = (omega arith, omega arith, (omega (arith, ints), omega (arith, ints)));
    } in
    let at3 : IsAt letter 3 zeros = record {
      word = refl;
      ranges = (omega arith, (omega (arith, ints), omega (arith, ints)));
    } in
    let at4 : IsAt letter 4 (Store Word 0 6 (pos 4)) = record {
      word = refl;
      ranges = (omega arith, omega arith, (omega (arith, ints), omega (arith, ints)));
    } in
    let x = line_to letter size fits device (loads ∷ []) m v0 (shows_start letter global heap stack top are_words)
    (tt, (tt, tt)) (at0, (at1, tt)) in
    let v2 = line (device ∷ loads ∷ []) v0 in
    let y = put_to letter size fits 0 6 x.to v2 x.shows at2 refl in
    let v3 = at_view (v2.place + 1) v2 in
    let z = plain_to letter size fits zeros y.to v3 y.shows tt at3 in
    let s = stop_at letter size fits 0 6 z.to (after zeros v3) z.shows at4 refl in
    let u = end_view global heap stack in
    let e4 = stop_ends letter size z.to 0 u s in
    let e3 = ends_after letter size y.to same_tape same_tape (after zeros v3) 0 u z e4 in
    let e2 = ends_after letter size x.to (told 65) same_tape v3 0 u y e3 in
    ends_after letter size m same_tape (told 65) v2 0 u x e2
