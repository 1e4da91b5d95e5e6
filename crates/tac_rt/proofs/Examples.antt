-- The run-time routines, each run by small programs that call it.
use Rattle.std.proofs.Common.{◌≡◌, ℕ, ℤ, pos, negsuc, List, [], ◌∷◌, ◌++◌, refl}
use Rattle.behavior.specs.Endings.{Normal}
use Rattle.behavior.specs.Transcripts.{Shown}
use Rattle.tac_code.specs.declared.code.Base.TheVariants as base
use Rattle.tac_code.specs.declared.code.Instruction.{Instruction}
use Rattle.tac_code.specs.declared.code.Instruction.TheVariants as i
use Rattle.tac_code.specs.declared.code.TacRoutine.{TacRoutine}
use Rattle.tac_code.specs.Meaning.{Code}
use Rattle.tac_code.specs.Run.{tac_run}
use Rattle.tac_rt.specs.Bodies.{run_time_routines}

abbrev main : List Instruction → TacRoutine
main body = record { parameters = 0; temporaries = 16; frame = 256; scratch = 0; line = 1; body = body ++ i.End ∷ [] }

abbrev alone : List Instruction → Code
alone body = record { program = main body ∷ []; run_time = run_time_routines; objects = [] }

-- what the program block shows
abbrev shows : List Instruction → (input : List ℕ) → (steps : ℕ) → Shown
shows body input steps = tac_run (alone body) (λ r. 0) (λ t. 0) 100 100 input steps

-- the address of a word of the frame, a word there, its byte or its word put out, and a number on a line of its own
abbrev address : (t offset : ℕ) → List Instruction
address t n = i.Offset t base.Frame n 0 ∷ []

abbrev word : (offset : ℕ) → ℤ → List Instruction
word n z = i.Literal 15 z ∷ i.Store base.Frame n 15 ∷ []

abbrev byte_shown : (offset : ℕ) → List Instruction
byte_shown n = i.LoadByte 15 base.Frame n ∷ i.Put 15 ∷ []

abbrev word_shown : (offset : ℕ) → List Instruction
word_shown n = i.Load 15 base.Frame n ∷ i.Put 15 ∷ []

abbrev number_shown : (t : ℕ) → List Instruction
number_shown t = i.Literal 15 (pos 1) ∷ i.Call 14 11 (t ∷ 15 ∷ []) 1 ∷ []

number_zero_right_aligned : shows ((i.Literal 0 (pos 0) ∷ []) ++ (i.Literal 1 (pos 3) ∷ [])
    ++ (i.Call 2 11 (0 ∷ 1 ∷ []) 1 ∷ [])) ([]) 300 ≡ (32 ∷ 32 ∷ 48 ∷ [], Normal)
number_zero_right_aligned = refl

number_narrow : shows ((i.Literal 0 (pos 120) ∷ []) ++ (i.Literal 1 (pos 1) ∷ []) ++ (i.Call 2 11 (0 ∷ 1 ∷ []) 1 ∷ []))
    ([]) 300 ≡ (49 ∷ 50 ∷ 48 ∷ [], Normal)
number_narrow = refl

number_narrow_negative : shows ((i.Literal 0 (negsuc 6) ∷ []) ++ (i.Literal 1 (pos 1) ∷ [])
    ++ (i.Call 2 11 (0 ∷ 1 ∷ []) 1 ∷ [])) ([]) 300 ≡ (45 ∷ 55 ∷ [], Normal)
number_narrow_negative = refl

number_negative_in_its_width : shows ((i.Literal 0 (negsuc 9) ∷ []) ++ (i.Literal 1 (pos 3) ∷ [])
    ++ (i.Call 2 11 (0 ∷ 1 ∷ []) 1 ∷ [])) ([]) 300 ≡ (45 ∷ 49 ∷ 48 ∷ [], Normal)
number_negative_in_its_width = refl

number_negative_right_aligned : shows ((i.Literal 0 (negsuc 8) ∷ []) ++ (i.Literal 1 (pos 4) ∷ [])
    ++ (i.Call 2 11 (0 ∷ 1 ∷ []) 1 ∷ [])) ([]) 300 ≡ (32 ∷ 32 ∷ 45 ∷ 57 ∷ [], Normal)
number_negative_right_aligned = refl

number_greatest : shows ((i.Literal 0 (pos 2147483647) ∷ []) ++ (i.Literal 1 (pos 11) ∷ [])
    ++ (i.Call 2 11 (0 ∷ 1 ∷ []) 1 ∷ [])) ([]) 300 ≡ (32 ∷ 50 ∷ 49 ∷ 52 ∷ 55 ∷ 52 ∷ 56 ∷ 51 ∷ 54 ∷ 52 ∷ 55 ∷ [], Normal)
number_greatest = refl

number_least : shows ((i.Literal 0 (negsuc 2147483647) ∷ []) ++ (i.Literal 1 (pos 12) ∷ [])
    ++ (i.Call 2 11 (0 ∷ 1 ∷ []) 1 ∷ [])) ([]) 300
    ≡ (32 ∷ 45 ∷ 50 ∷ 49 ∷ 52 ∷ 55 ∷ 52 ∷ 56 ∷ 51 ∷ 54 ∷ 52 ∷ 56 ∷ [], Normal)
number_least = refl

number_round : shows ((i.Literal 0 (pos 1000000000) ∷ []) ++ (i.Literal 1 (pos 1) ∷ [])
    ++ (i.Call 2 11 (0 ∷ 1 ∷ []) 1 ∷ [])) ([]) 300 ≡ (49 ∷ 48 ∷ 48 ∷ 48 ∷ 48 ∷ 48 ∷ 48 ∷ 48 ∷ 48 ∷ 48 ∷ [], Normal)
number_round = refl

character_alone : shows ((i.Literal 0 (pos 65) ∷ []) ++ (i.Literal 1 (pos 1) ∷ []) ++ (i.Call 2 12 (0 ∷ 1 ∷ []) 1 ∷ []))
    ([]) 100 ≡ (65 ∷ [], Normal)
character_alone = refl

character_right_aligned : shows ((i.Literal 0 (pos 66) ∷ []) ++ (i.Literal 1 (pos 3) ∷ [])
    ++ (i.Call 2 12 (0 ∷ 1 ∷ []) 1 ∷ [])) ([]) 100 ≡ (32 ∷ 32 ∷ 66 ∷ [], Normal)
character_right_aligned = refl

character_below_zero : shows ((i.Literal 0 (negsuc 0) ∷ []) ++ (i.Literal 1 (pos 1) ∷ [])
    ++ (i.Call 2 12 (0 ∷ 1 ∷ []) 1 ∷ [])) ([]) 100 ≡ (1 ∷ [], Normal)
character_below_zero = refl

character_far_below_zero : shows ((i.Literal 0 (negsuc 299) ∷ []) ++ (i.Literal 1 (pos 2) ∷ [])
    ++ (i.Call 2 12 (0 ∷ 1 ∷ []) 1 ∷ [])) ([]) 100 ≡ (32 ∷ 44 ∷ [], Normal)
character_far_below_zero = refl

character_least : shows ((i.Literal 0 (negsuc 2147483647) ∷ []) ++ (i.Literal 1 (pos 1) ∷ [])
    ++ (i.Call 2 12 (0 ∷ 1 ∷ []) 1 ∷ [])) ([]) 100 ≡ (0 ∷ [], Normal)
character_least = refl

character_beyond : shows ((i.Literal 0 (pos 321) ∷ []) ++ (i.Literal 1 (pos 1) ∷ [])
    ++ (i.Call 2 12 (0 ∷ 1 ∷ []) 1 ∷ [])) ([]) 100 ≡ (65 ∷ [], Normal)
character_beyond = refl

string_padded : shows ((i.Text 0 (104 ∷ 101 ∷ 108 ∷ 108 ∷ 111 ∷ 0 ∷ 0 ∷ 0 ∷ []) ∷ []) ++ (i.Literal 1 (pos 5) ∷ [])
    ++ (i.Literal 2 (pos 7) ∷ []) ++ (i.Call 3 13 (0 ∷ 1 ∷ 2 ∷ []) 1 ∷ [])) ([]) 100
    ≡ (32 ∷ 32 ∷ 104 ∷ 101 ∷ 108 ∷ 108 ∷ 111 ∷ [], Normal)
string_padded = refl

string_in_its_width : shows ((i.Text 0 (104 ∷ 101 ∷ 108 ∷ 108 ∷ 111 ∷ 0 ∷ 0 ∷ 0 ∷ []) ∷ [])
    ++ (i.Literal 1 (pos 5) ∷ []) ++ (i.Literal 2 (pos 5) ∷ []) ++ (i.Call 3 13 (0 ∷ 1 ∷ 2 ∷ []) 1 ∷ [])) ([]) 100
    ≡ (104 ∷ 101 ∷ 108 ∷ 108 ∷ 111 ∷ [], Normal)
string_in_its_width = refl

string_cut : shows ((i.Text 0 (104 ∷ 101 ∷ 108 ∷ 108 ∷ 111 ∷ 0 ∷ 0 ∷ 0 ∷ []) ∷ []) ++ (i.Literal 1 (pos 5) ∷ [])
    ++ (i.Literal 2 (pos 3) ∷ []) ++ (i.Call 3 13 (0 ∷ 1 ∷ 2 ∷ []) 1 ∷ [])) ([]) 100 ≡ (104 ∷ 101 ∷ 108 ∷ [], Normal)
string_cut = refl

string_first : shows ((i.Text 0 (104 ∷ 101 ∷ 108 ∷ 108 ∷ 111 ∷ 0 ∷ 0 ∷ 0 ∷ []) ∷ []) ++ (i.Literal 1 (pos 5) ∷ [])
    ++ (i.Literal 2 (pos 1) ∷ []) ++ (i.Call 3 13 (0 ∷ 1 ∷ 2 ∷ []) 1 ∷ [])) ([]) 100 ≡ (104 ∷ [], Normal)
string_first = refl

string_empty : shows ((i.Text 0 (104 ∷ 101 ∷ 108 ∷ 108 ∷ 111 ∷ 0 ∷ 0 ∷ 0 ∷ []) ∷ []) ++ (i.Literal 1 (pos 0) ∷ [])
    ++ (i.Literal 2 (pos 2) ∷ []) ++ (i.Call 3 13 (0 ∷ 1 ∷ 2 ∷ []) 1 ∷ [])) ([]) 100 ≡ (32 ∷ 32 ∷ [], Normal)
string_empty = refl

words_copied : shows (((word 0 (pos 1)) ++ (word 4 (pos 2)) ++ (word 8 (pos 3)) ++ (word 16 (pos 9))
    ++ (word 20 (pos 9)) ++ (word 24 (pos 9)) ++ (word 28 (pos 9)))
    ++ ((address 0 16) ++ (address 1 0) ++ (i.Literal 2 (pos 12) ∷ []) ++ (i.Call 3 1 (0 ∷ 1 ∷ 2 ∷ []) 1 ∷ []))
    ++ (word_shown 0) ++ (word_shown 4) ++ (word_shown 8) ++ (word_shown 16) ++ (word_shown 20) ++ (word_shown 24)
    ++ (word_shown 28)) ([]) 200 ≡ (1 ∷ 2 ∷ 3 ∷ 1 ∷ 2 ∷ 3 ∷ 9 ∷ [], Normal)
words_copied = refl

word_spread : shows (((word 0 (pos 7))) ++ ((address 0 4) ++ (address 1 0) ++ (i.Literal 2 (pos 12) ∷ [])
    ++ (i.Call 3 1 (0 ∷ 1 ∷ 2 ∷ []) 1 ∷ [])) ++ (word_shown 0) ++ (word_shown 4) ++ (word_shown 8) ++ (word_shown 12))
    ([]) 200 ≡ (7 ∷ 7 ∷ 7 ∷ 7 ∷ [], Normal)
word_spread = refl

two_words_spread : shows (((word 0 (pos 7)) ++ (word 4 (pos 8)))
    ++ ((address 0 8) ++ (address 1 0) ++ (i.Literal 2 (pos 16) ∷ []) ++ (i.Call 3 1 (0 ∷ 1 ∷ 2 ∷ []) 1 ∷ []))
    ++ (word_shown 0) ++ (word_shown 4) ++ (word_shown 8) ++ (word_shown 12) ++ (word_shown 16) ++ (word_shown 20))
    ([]) 200 ≡ (7 ∷ 8 ∷ 7 ∷ 8 ∷ 7 ∷ 8 ∷ [], Normal)
two_words_spread = refl

nothing_copied : shows (((word 0 (pos 7)) ++ (word 4 (pos 8)))
    ++ ((address 0 4) ++ (address 1 0) ++ (i.Literal 2 (pos 0) ∷ []) ++ (i.Call 3 1 (0 ∷ 1 ∷ 2 ∷ []) 1 ∷ []))
    ++ (word_shown 4)) ([]) 200 ≡ (8 ∷ [], Normal)
nothing_copied = refl

range_added : shows ((((word 0 (pos 0))) ++ ((address 0 4) ++ (address 1 0) ++ (i.Literal 2 (pos 28) ∷ [])
    ++ (i.Call 3 1 (0 ∷ 1 ∷ 2 ∷ []) 1 ∷ [])))
    ++ ((address 0 0) ++ (i.Literal 1 (pos 30) ∷ []) ++ (i.Literal 2 (pos 65) ∷ [])
    ++ (i.Call 3 2 (0 ∷ 1 ∷ 2 ∷ []) 1 ∷ [])) ++ (byte_shown 2) ++ (byte_shown 3) ++ (byte_shown 4) ++ (byte_shown 5)
    ++ (byte_shown 6) ++ (byte_shown 7) ++ (byte_shown 8) ++ (byte_shown 9) ++ (byte_shown 31)) ([]) 1000
    ≡ (0 ∷ 192 ∷ 255 ∷ 255 ∷ 255 ∷ 255 ∷ 3 ∷ 0 ∷ 0 ∷ [], Normal)
range_added = refl

members_told : shows ((((word 0 (pos 0))) ++ ((address 0 4) ++ (address 1 0) ++ (i.Literal 2 (pos 28) ∷ [])
    ++ (i.Call 3 1 (0 ∷ 1 ∷ 2 ∷ []) 1 ∷ [])))
    ++ ((address 0 0) ++ (i.Literal 1 (pos 30) ∷ []) ++ (i.Literal 2 (pos 65) ∷ [])
    ++ (i.Call 3 2 (0 ∷ 1 ∷ 2 ∷ []) 1 ∷ [])) ++ ((address 0 0) ++ (i.Literal 1 (pos 255) ∷ [])
    ++ (i.Literal 2 (pos 255) ∷ []) ++ (i.Call 3 2 (0 ∷ 1 ∷ 2 ∷ []) 1 ∷ []))
    ++ ((i.Literal 0 (pos 29) ∷ []) ++ (address 1 0) ++ (i.Call 2 7 (0 ∷ 1 ∷ []) 1 ∷ []) ++ (i.Put 2 ∷ []))
    ++ ((i.Literal 0 (pos 30) ∷ []) ++ (address 1 0) ++ (i.Call 2 7 (0 ∷ 1 ∷ []) 1 ∷ []) ++ (i.Put 2 ∷ []))
    ++ ((i.Literal 0 (pos 31) ∷ []) ++ (address 1 0) ++ (i.Call 2 7 (0 ∷ 1 ∷ []) 1 ∷ []) ++ (i.Put 2 ∷ []))
    ++ ((i.Literal 0 (pos 32) ∷ []) ++ (address 1 0) ++ (i.Call 2 7 (0 ∷ 1 ∷ []) 1 ∷ []) ++ (i.Put 2 ∷ []))
    ++ ((i.Literal 0 (pos 65) ∷ []) ++ (address 1 0) ++ (i.Call 2 7 (0 ∷ 1 ∷ []) 1 ∷ []) ++ (i.Put 2 ∷ []))
    ++ ((i.Literal 0 (pos 66) ∷ []) ++ (address 1 0) ++ (i.Call 2 7 (0 ∷ 1 ∷ []) 1 ∷ []) ++ (i.Put 2 ∷ []))
    ++ ((i.Literal 0 (negsuc 0) ∷ []) ++ (address 1 0) ++ (i.Call 2 7 (0 ∷ 1 ∷ []) 1 ∷ []) ++ (i.Put 2 ∷ []))
    ++ ((i.Literal 0 (pos 256) ∷ []) ++ (address 1 0) ++ (i.Call 2 7 (0 ∷ 1 ∷ []) 1 ∷ []) ++ (i.Put 2 ∷ []))
    ++ ((i.Literal 0 (pos 255) ∷ []) ++ (address 1 0) ++ (i.Call 2 7 (0 ∷ 1 ∷ []) 1 ∷ []) ++ (i.Put 2 ∷ []))
    ++ ((i.Literal 0 (pos 0) ∷ []) ++ (address 1 0) ++ (i.Call 2 7 (0 ∷ 1 ∷ []) 1 ∷ []) ++ (i.Put 2 ∷ []))
    ++ ((i.Literal 0 (pos 287) ∷ []) ++ (address 1 0) ++ (i.Call 2 7 (0 ∷ 1 ∷ []) 1 ∷ []) ++ (i.Put 2 ∷ []))
    ++ ((i.Literal 0 (negsuc 2147483647) ∷ []) ++ (address 1 0) ++ (i.Call 2 7 (0 ∷ 1 ∷ []) 1 ∷ []) ++ (i.Put 2 ∷ []))
    ++ ((i.Literal 0 (pos 2147483647) ∷ []) ++ (address 1 0) ++ (i.Call 2 7 (0 ∷ 1 ∷ []) 1 ∷ []) ++ (i.Put 2 ∷ [])))
    ([]) 2000 ≡ (0 ∷ 1 ∷ 1 ∷ 1 ∷ 1 ∷ 0 ∷ 0 ∷ 0 ∷ 1 ∷ 0 ∷ 0 ∷ 0 ∷ 0 ∷ [], Normal)
members_told = refl

no_range_added : shows ((((word 0 (pos 0)))
    ++ ((address 0 4) ++ (address 1 0) ++ (i.Literal 2 (pos 28) ∷ []) ++ (i.Call 3 1 (0 ∷ 1 ∷ 2 ∷ []) 1 ∷ [])))
    ++ ((address 0 0) ++ (i.Literal 1 (pos 5) ∷ []) ++ (i.Literal 2 (pos 4) ∷ [])
    ++ (i.Call 3 2 (0 ∷ 1 ∷ 2 ∷ []) 1 ∷ [])) ++ ((i.Literal 0 (pos 4) ∷ []) ++ (address 1 0)
    ++ (i.Call 2 7 (0 ∷ 1 ∷ []) 1 ∷ []) ++ (i.Put 2 ∷ []))
    ++ ((i.Literal 0 (pos 5) ∷ []) ++ (address 1 0) ++ (i.Call 2 7 (0 ∷ 1 ∷ []) 1 ∷ []) ++ (i.Put 2 ∷ []))) ([]) 500
    ≡ (0 ∷ 0 ∷ [], Normal)
no_range_added = refl

sets_united : shows (((((word 0 (pos 0))) ++ ((address 0 4) ++ (address 1 0) ++ (i.Literal 2 (pos 28) ∷ [])
    ++ (i.Call 3 1 (0 ∷ 1 ∷ 2 ∷ []) 1 ∷ [])))
    ++ ((address 0 0) ++ (i.Literal 1 (pos 0) ∷ []) ++ (i.Literal 2 (pos 4) ∷ [])
    ++ (i.Call 3 2 (0 ∷ 1 ∷ 2 ∷ []) 1 ∷ [])) ++ ((address 0 0) ++ (i.Literal 1 (pos 60) ∷ [])
    ++ (i.Literal 2 (pos 69) ∷ []) ++ (i.Call 3 2 (0 ∷ 1 ∷ 2 ∷ []) 1 ∷ []))
    ++ (((word 32 (pos 0))) ++ ((address 0 36) ++ (address 1 32) ++ (i.Literal 2 (pos 28) ∷ [])
    ++ (i.Call 3 1 (0 ∷ 1 ∷ 2 ∷ []) 1 ∷ [])))
    ++ ((address 0 32) ++ (i.Literal 1 (pos 3) ∷ []) ++ (i.Literal 2 (pos 62) ∷ [])
    ++ (i.Call 3 2 (0 ∷ 1 ∷ 2 ∷ []) 1 ∷ [])) ++ ((address 0 32) ++ (i.Literal 1 (pos 255) ∷ [])
    ++ (i.Literal 2 (pos 255) ∷ []) ++ (i.Call 3 2 (0 ∷ 1 ∷ 2 ∷ []) 1 ∷ [])))
    ++ ((address 0 0) ++ (address 1 32) ++ (i.Call 2 3 (0 ∷ 1 ∷ []) 1 ∷ []))
    ++ ((i.Literal 0 (pos 0) ∷ []) ++ (address 1 0) ++ (i.Call 2 7 (0 ∷ 1 ∷ []) 1 ∷ []) ++ (i.Put 2 ∷ []))
    ++ ((i.Literal 0 (pos 2) ∷ []) ++ (address 1 0) ++ (i.Call 2 7 (0 ∷ 1 ∷ []) 1 ∷ []) ++ (i.Put 2 ∷ []))
    ++ ((i.Literal 0 (pos 3) ∷ []) ++ (address 1 0) ++ (i.Call 2 7 (0 ∷ 1 ∷ []) 1 ∷ []) ++ (i.Put 2 ∷ []))
    ++ ((i.Literal 0 (pos 4) ∷ []) ++ (address 1 0) ++ (i.Call 2 7 (0 ∷ 1 ∷ []) 1 ∷ []) ++ (i.Put 2 ∷ []))
    ++ ((i.Literal 0 (pos 5) ∷ []) ++ (address 1 0) ++ (i.Call 2 7 (0 ∷ 1 ∷ []) 1 ∷ []) ++ (i.Put 2 ∷ []))
    ++ ((i.Literal 0 (pos 59) ∷ []) ++ (address 1 0) ++ (i.Call 2 7 (0 ∷ 1 ∷ []) 1 ∷ []) ++ (i.Put 2 ∷ []))
    ++ ((i.Literal 0 (pos 60) ∷ []) ++ (address 1 0) ++ (i.Call 2 7 (0 ∷ 1 ∷ []) 1 ∷ []) ++ (i.Put 2 ∷ []))
    ++ ((i.Literal 0 (pos 62) ∷ []) ++ (address 1 0) ++ (i.Call 2 7 (0 ∷ 1 ∷ []) 1 ∷ []) ++ (i.Put 2 ∷ []))
    ++ ((i.Literal 0 (pos 63) ∷ []) ++ (address 1 0) ++ (i.Call 2 7 (0 ∷ 1 ∷ []) 1 ∷ []) ++ (i.Put 2 ∷ []))
    ++ ((i.Literal 0 (pos 69) ∷ []) ++ (address 1 0) ++ (i.Call 2 7 (0 ∷ 1 ∷ []) 1 ∷ []) ++ (i.Put 2 ∷ []))
    ++ ((i.Literal 0 (pos 70) ∷ []) ++ (address 1 0) ++ (i.Call 2 7 (0 ∷ 1 ∷ []) 1 ∷ []) ++ (i.Put 2 ∷ []))
    ++ ((i.Literal 0 (pos 255) ∷ []) ++ (address 1 0) ++ (i.Call 2 7 (0 ∷ 1 ∷ []) 1 ∷ []) ++ (i.Put 2 ∷ []))
    ++ ((i.Literal 0 (pos 254) ∷ []) ++ (address 1 0) ++ (i.Call 2 7 (0 ∷ 1 ∷ []) 1 ∷ []) ++ (i.Put 2 ∷ []))) ([]) 5000
    ≡ (1 ∷ 1 ∷ 1 ∷ 1 ∷ 1 ∷ 1 ∷ 1 ∷ 1 ∷ 1 ∷ 1 ∷ 0 ∷ 1 ∷ 0 ∷ [], Normal)
sets_united = refl

set_subtracted : shows (((((word 0 (pos 0)))
    ++ ((address 0 4) ++ (address 1 0) ++ (i.Literal 2 (pos 28) ∷ []) ++ (i.Call 3 1 (0 ∷ 1 ∷ 2 ∷ []) 1 ∷ [])))
    ++ ((address 0 0) ++ (i.Literal 1 (pos 0) ∷ []) ++ (i.Literal 2 (pos 4) ∷ [])
    ++ (i.Call 3 2 (0 ∷ 1 ∷ 2 ∷ []) 1 ∷ [])) ++ ((address 0 0) ++ (i.Literal 1 (pos 60) ∷ [])
    ++ (i.Literal 2 (pos 69) ∷ []) ++ (i.Call 3 2 (0 ∷ 1 ∷ 2 ∷ []) 1 ∷ []))
    ++ (((word 32 (pos 0))) ++ ((address 0 36) ++ (address 1 32) ++ (i.Literal 2 (pos 28) ∷ [])
    ++ (i.Call 3 1 (0 ∷ 1 ∷ 2 ∷ []) 1 ∷ [])))
    ++ ((address 0 32) ++ (i.Literal 1 (pos 3) ∷ []) ++ (i.Literal 2 (pos 62) ∷ [])
    ++ (i.Call 3 2 (0 ∷ 1 ∷ 2 ∷ []) 1 ∷ [])) ++ ((address 0 32) ++ (i.Literal 1 (pos 255) ∷ [])
    ++ (i.Literal 2 (pos 255) ∷ []) ++ (i.Call 3 2 (0 ∷ 1 ∷ 2 ∷ []) 1 ∷ [])))
    ++ ((address 0 0) ++ (address 1 32) ++ (i.Call 2 4 (0 ∷ 1 ∷ []) 1 ∷ []))
    ++ ((i.Literal 0 (pos 0) ∷ []) ++ (address 1 0) ++ (i.Call 2 7 (0 ∷ 1 ∷ []) 1 ∷ []) ++ (i.Put 2 ∷ []))
    ++ ((i.Literal 0 (pos 2) ∷ []) ++ (address 1 0) ++ (i.Call 2 7 (0 ∷ 1 ∷ []) 1 ∷ []) ++ (i.Put 2 ∷ []))
    ++ ((i.Literal 0 (pos 3) ∷ []) ++ (address 1 0) ++ (i.Call 2 7 (0 ∷ 1 ∷ []) 1 ∷ []) ++ (i.Put 2 ∷ []))
    ++ ((i.Literal 0 (pos 4) ∷ []) ++ (address 1 0) ++ (i.Call 2 7 (0 ∷ 1 ∷ []) 1 ∷ []) ++ (i.Put 2 ∷ []))
    ++ ((i.Literal 0 (pos 5) ∷ []) ++ (address 1 0) ++ (i.Call 2 7 (0 ∷ 1 ∷ []) 1 ∷ []) ++ (i.Put 2 ∷ []))
    ++ ((i.Literal 0 (pos 59) ∷ []) ++ (address 1 0) ++ (i.Call 2 7 (0 ∷ 1 ∷ []) 1 ∷ []) ++ (i.Put 2 ∷ []))
    ++ ((i.Literal 0 (pos 60) ∷ []) ++ (address 1 0) ++ (i.Call 2 7 (0 ∷ 1 ∷ []) 1 ∷ []) ++ (i.Put 2 ∷ []))
    ++ ((i.Literal 0 (pos 62) ∷ []) ++ (address 1 0) ++ (i.Call 2 7 (0 ∷ 1 ∷ []) 1 ∷ []) ++ (i.Put 2 ∷ []))
    ++ ((i.Literal 0 (pos 63) ∷ []) ++ (address 1 0) ++ (i.Call 2 7 (0 ∷ 1 ∷ []) 1 ∷ []) ++ (i.Put 2 ∷ []))
    ++ ((i.Literal 0 (pos 69) ∷ []) ++ (address 1 0) ++ (i.Call 2 7 (0 ∷ 1 ∷ []) 1 ∷ []) ++ (i.Put 2 ∷ []))
    ++ ((i.Literal 0 (pos 70) ∷ []) ++ (address 1 0) ++ (i.Call 2 7 (0 ∷ 1 ∷ []) 1 ∷ []) ++ (i.Put 2 ∷ []))
    ++ ((i.Literal 0 (pos 255) ∷ []) ++ (address 1 0) ++ (i.Call 2 7 (0 ∷ 1 ∷ []) 1 ∷ []) ++ (i.Put 2 ∷ []))
    ++ ((i.Literal 0 (pos 254) ∷ []) ++ (address 1 0) ++ (i.Call 2 7 (0 ∷ 1 ∷ []) 1 ∷ []) ++ (i.Put 2 ∷ []))) ([]) 5000
    ≡ (1 ∷ 1 ∷ 0 ∷ 0 ∷ 0 ∷ 0 ∷ 0 ∷ 0 ∷ 1 ∷ 1 ∷ 0 ∷ 0 ∷ 0 ∷ [], Normal)
set_subtracted = refl

sets_intersected : shows (((((word 0 (pos 0)))
    ++ ((address 0 4) ++ (address 1 0) ++ (i.Literal 2 (pos 28) ∷ []) ++ (i.Call 3 1 (0 ∷ 1 ∷ 2 ∷ []) 1 ∷ [])))
    ++ ((address 0 0) ++ (i.Literal 1 (pos 0) ∷ []) ++ (i.Literal 2 (pos 4) ∷ [])
    ++ (i.Call 3 2 (0 ∷ 1 ∷ 2 ∷ []) 1 ∷ [])) ++ ((address 0 0) ++ (i.Literal 1 (pos 60) ∷ [])
    ++ (i.Literal 2 (pos 69) ∷ []) ++ (i.Call 3 2 (0 ∷ 1 ∷ 2 ∷ []) 1 ∷ []))
    ++ (((word 32 (pos 0))) ++ ((address 0 36) ++ (address 1 32) ++ (i.Literal 2 (pos 28) ∷ [])
    ++ (i.Call 3 1 (0 ∷ 1 ∷ 2 ∷ []) 1 ∷ [])))
    ++ ((address 0 32) ++ (i.Literal 1 (pos 3) ∷ []) ++ (i.Literal 2 (pos 62) ∷ [])
    ++ (i.Call 3 2 (0 ∷ 1 ∷ 2 ∷ []) 1 ∷ [])) ++ ((address 0 32) ++ (i.Literal 1 (pos 255) ∷ [])
    ++ (i.Literal 2 (pos 255) ∷ []) ++ (i.Call 3 2 (0 ∷ 1 ∷ 2 ∷ []) 1 ∷ [])))
    ++ ((address 0 0) ++ (address 1 32) ++ (i.Call 2 5 (0 ∷ 1 ∷ []) 1 ∷ []))
    ++ ((i.Literal 0 (pos 0) ∷ []) ++ (address 1 0) ++ (i.Call 2 7 (0 ∷ 1 ∷ []) 1 ∷ []) ++ (i.Put 2 ∷ []))
    ++ ((i.Literal 0 (pos 2) ∷ []) ++ (address 1 0) ++ (i.Call 2 7 (0 ∷ 1 ∷ []) 1 ∷ []) ++ (i.Put 2 ∷ []))
    ++ ((i.Literal 0 (pos 3) ∷ []) ++ (address 1 0) ++ (i.Call 2 7 (0 ∷ 1 ∷ []) 1 ∷ []) ++ (i.Put 2 ∷ []))
    ++ ((i.Literal 0 (pos 4) ∷ []) ++ (address 1 0) ++ (i.Call 2 7 (0 ∷ 1 ∷ []) 1 ∷ []) ++ (i.Put 2 ∷ []))
    ++ ((i.Literal 0 (pos 5) ∷ []) ++ (address 1 0) ++ (i.Call 2 7 (0 ∷ 1 ∷ []) 1 ∷ []) ++ (i.Put 2 ∷ []))
    ++ ((i.Literal 0 (pos 59) ∷ []) ++ (address 1 0) ++ (i.Call 2 7 (0 ∷ 1 ∷ []) 1 ∷ []) ++ (i.Put 2 ∷ []))
    ++ ((i.Literal 0 (pos 60) ∷ []) ++ (address 1 0) ++ (i.Call 2 7 (0 ∷ 1 ∷ []) 1 ∷ []) ++ (i.Put 2 ∷ []))
    ++ ((i.Literal 0 (pos 62) ∷ []) ++ (address 1 0) ++ (i.Call 2 7 (0 ∷ 1 ∷ []) 1 ∷ []) ++ (i.Put 2 ∷ []))
    ++ ((i.Literal 0 (pos 63) ∷ []) ++ (address 1 0) ++ (i.Call 2 7 (0 ∷ 1 ∷ []) 1 ∷ []) ++ (i.Put 2 ∷ []))
    ++ ((i.Literal 0 (pos 69) ∷ []) ++ (address 1 0) ++ (i.Call 2 7 (0 ∷ 1 ∷ []) 1 ∷ []) ++ (i.Put 2 ∷ []))
    ++ ((i.Literal 0 (pos 70) ∷ []) ++ (address 1 0) ++ (i.Call 2 7 (0 ∷ 1 ∷ []) 1 ∷ []) ++ (i.Put 2 ∷ []))
    ++ ((i.Literal 0 (pos 255) ∷ []) ++ (address 1 0) ++ (i.Call 2 7 (0 ∷ 1 ∷ []) 1 ∷ []) ++ (i.Put 2 ∷ []))
    ++ ((i.Literal 0 (pos 254) ∷ []) ++ (address 1 0) ++ (i.Call 2 7 (0 ∷ 1 ∷ []) 1 ∷ []) ++ (i.Put 2 ∷ []))) ([]) 5000
    ≡ (0 ∷ 0 ∷ 1 ∷ 1 ∷ 0 ∷ 0 ∷ 1 ∷ 1 ∷ 0 ∷ 0 ∷ 0 ∷ 0 ∷ 0 ∷ [], Normal)
sets_intersected = refl

sets_included : shows ((((word 0 (pos 0)))
    ++ ((address 0 4) ++ (address 1 0) ++ (i.Literal 2 (pos 28) ∷ []) ++ (i.Call 3 1 (0 ∷ 1 ∷ 2 ∷ []) 1 ∷ [])))
    ++ ((address 0 0) ++ (i.Literal 1 (pos 3) ∷ []) ++ (i.Literal 2 (pos 4) ∷ [])
    ++ (i.Call 3 2 (0 ∷ 1 ∷ 2 ∷ []) 1 ∷ [])) ++ (((word 32 (pos 0)))
    ++ ((address 0 36) ++ (address 1 32) ++ (i.Literal 2 (pos 28) ∷ []) ++ (i.Call 3 1 (0 ∷ 1 ∷ 2 ∷ []) 1 ∷ [])))
    ++ ((address 0 32) ++ (i.Literal 1 (pos 3) ∷ []) ++ (i.Literal 2 (pos 5) ∷ [])
    ++ (i.Call 3 2 (0 ∷ 1 ∷ 2 ∷ []) 1 ∷ [])) ++ (((word 64 (pos 0)))
    ++ ((address 0 68) ++ (address 1 64) ++ (i.Literal 2 (pos 28) ∷ []) ++ (i.Call 3 1 (0 ∷ 1 ∷ 2 ∷ []) 1 ∷ [])))
    ++ ((address 0 0) ++ (address 1 32) ++ (i.Call 2 6 (0 ∷ 1 ∷ []) 1 ∷ [])) ++ (i.Put 2 ∷ [])
    ++ ((address 0 32) ++ (address 1 0) ++ (i.Call 2 6 (0 ∷ 1 ∷ []) 1 ∷ [])) ++ (i.Put 2 ∷ [])
    ++ ((address 0 0) ++ (address 1 0) ++ (i.Call 2 6 (0 ∷ 1 ∷ []) 1 ∷ [])) ++ (i.Put 2 ∷ [])
    ++ ((address 0 64) ++ (address 1 0) ++ (i.Call 2 6 (0 ∷ 1 ∷ []) 1 ∷ [])) ++ (i.Put 2 ∷ [])
    ++ ((address 0 0) ++ (address 1 64) ++ (i.Call 2 6 (0 ∷ 1 ∷ []) 1 ∷ [])) ++ (i.Put 2 ∷ [])
    ++ ((address 0 64) ++ (i.Literal 1 (pos 255) ∷ []) ++ (i.Literal 2 (pos 255) ∷ [])
    ++ (i.Call 3 2 (0 ∷ 1 ∷ 2 ∷ []) 1 ∷ [])) ++ ((address 0 64) ++ (address 1 32) ++ (i.Call 2 6 (0 ∷ 1 ∷ []) 1 ∷ []))
    ++ (i.Put 2 ∷ [])) ([]) 3000 ≡ (1 ∷ 0 ∷ 1 ∷ 1 ∷ 0 ∷ 0 ∷ [], Normal)
sets_included = refl

strings_compared_greater : shows ((i.Text 0 (97 ∷ 98 ∷ 100 ∷ 97 ∷ 97 ∷ 0 ∷ 0 ∷ 0 ∷ []) ∷ [])
    ++ (i.Text 1 (97 ∷ 98 ∷ 99 ∷ 98 ∷ 98 ∷ 0 ∷ 0 ∷ 0 ∷ []) ∷ []) ++ (i.Literal 2 (pos 5) ∷ [])
    ++ (i.Call 3 8 (0 ∷ 1 ∷ 2 ∷ []) 1 ∷ []) ++ (number_shown 3)) ([]) 200 ≡ (49 ∷ [], Normal)
strings_compared_greater = refl

strings_compared_less : shows ((i.Text 0 (97 ∷ 0 ∷ 0 ∷ 0 ∷ []) ∷ []) ++ (i.Text 1 (98 ∷ 0 ∷ 0 ∷ 0 ∷ []) ∷ [])
    ++ (i.Literal 2 (pos 1) ∷ []) ++ (i.Call 3 8 (0 ∷ 1 ∷ 2 ∷ []) 1 ∷ []) ++ (number_shown 3)) ([]) 200
    ≡ (45 ∷ 49 ∷ [], Normal)
strings_compared_less = refl

strings_compared_alike : shows ((i.Text 0 (104 ∷ 101 ∷ 108 ∷ 108 ∷ 111 ∷ 0 ∷ 0 ∷ 0 ∷ []) ∷ [])
    ++ (i.Text 1 (104 ∷ 101 ∷ 108 ∷ 108 ∷ 111 ∷ 0 ∷ 0 ∷ 0 ∷ []) ∷ []) ++ (i.Literal 2 (pos 5) ∷ [])
    ++ (i.Call 3 8 (0 ∷ 1 ∷ 2 ∷ []) 1 ∷ []) ++ (number_shown 3)) ([]) 200 ≡ (48 ∷ [], Normal)
strings_compared_alike = refl

strings_compared_at_the_last : shows ((i.Text 0 (104 ∷ 101 ∷ 108 ∷ 108 ∷ 112 ∷ 0 ∷ 0 ∷ 0 ∷ []) ∷ [])
    ++ (i.Text 1 (104 ∷ 101 ∷ 108 ∷ 108 ∷ 111 ∷ 0 ∷ 0 ∷ 0 ∷ []) ∷ []) ++ (i.Literal 2 (pos 5) ∷ [])
    ++ (i.Call 3 8 (0 ∷ 1 ∷ 2 ∷ []) 1 ∷ []) ++ (number_shown 3)) ([]) 200 ≡ (49 ∷ [], Normal)
strings_compared_at_the_last = refl

words_packed : shows ((((word 0 (pos 65)) ++ (word 4 (pos 66)) ++ (word 8 (pos 67)) ++ (word 12 (pos 68))
    ++ (word 16 (pos 69)) ++ (word 20 (pos 0)) ++ (word 24 (pos 0)) ++ (word 28 (pos 0))) ++ (address 0 20)
    ++ (address 1 0) ++ (i.Literal 2 (pos 5) ∷ []) ++ (i.Call 3 9 (0 ∷ 1 ∷ 2 ∷ []) 1 ∷ [])) ++ (byte_shown 20)
    ++ (byte_shown 21) ++ (byte_shown 22) ++ (byte_shown 23) ++ (byte_shown 24) ++ (byte_shown 25) ++ (byte_shown 26))
    ([]) 200 ≡ (65 ∷ 66 ∷ 67 ∷ 68 ∷ 69 ∷ 0 ∷ 0 ∷ [], Normal)
words_packed = refl

bytes_unpacked : shows ((i.Text 1 (104 ∷ 101 ∷ 108 ∷ 108 ∷ 111 ∷ 0 ∷ 0 ∷ 0 ∷ []) ∷ []) ++ (address 0 0)
    ++ (i.Literal 2 (pos 5) ∷ []) ++ ((word 20 (pos 1))) ++ (i.Call 3 10 (0 ∷ 1 ∷ 2 ∷ []) 1 ∷ []) ++ (word_shown 0)
    ++ (word_shown 4) ++ (word_shown 8) ++ (word_shown 12) ++ (word_shown 16) ++ (word_shown 20)) ([]) 200
    ≡ (104 ∷ 101 ∷ 108 ∷ 108 ∷ 111 ∷ 1 ∷ [], Normal)
bytes_unpacked = refl

looks_and_characters : shows (((word 0 (negsuc 1)) ++ (word 4 (pos 0)))
    ++ ((address 0 0) ++ (i.Call 2 14 (0 ∷ []) 1 ∷ []) ++ (i.Put 2 ∷ []))
    ++ ((address 0 0) ++ (i.Call 2 14 (0 ∷ []) 1 ∷ []) ++ (i.Put 2 ∷ []))
    ++ ((address 0 0) ++ (i.Call 2 15 (0 ∷ []) 1 ∷ []) ++ (number_shown 2))
    ++ ((address 0 0) ++ (i.Call 2 14 (0 ∷ []) 1 ∷ []) ++ (i.Put 2 ∷ []))
    ++ ((address 0 0) ++ (i.Call 2 15 (0 ∷ []) 1 ∷ []) ++ (number_shown 2))
    ++ ((address 0 0) ++ (i.Call 2 15 (0 ∷ []) 1 ∷ []) ++ (number_shown 2))
    ++ ((address 0 0) ++ (i.Call 2 14 (0 ∷ []) 1 ∷ []) ++ (i.Put 2 ∷ []))
    ++ ((address 0 0) ++ (i.Call 2 15 (0 ∷ []) 1 ∷ []) ++ (number_shown 2))
    ++ ((address 0 0) ++ (i.Call 2 14 (0 ∷ []) 1 ∷ []) ++ (i.Put 2 ∷ []))
    ++ ((address 0 0) ++ (i.Call 2 15 (0 ∷ []) 1 ∷ []) ++ (number_shown 2))
    ++ ((address 0 0) ++ (i.Call 2 14 (0 ∷ []) 1 ∷ []) ++ (i.Put 2 ∷ []))
    ++ ((address 0 0) ++ (i.Call 2 14 (0 ∷ []) 1 ∷ []) ++ (i.Put 2 ∷ []))) (97 ∷ 10 ∷ 98 ∷ []) 2000
    ≡ (256 ∷ 2 ∷ 2 ∷ 57 ∷ 55 ∷ 256 ∷ 1 ∷ 51 ∷ 50 ∷ 256 ∷ 57 ∷ 56 ∷ 256 ∷ 1 ∷ 51 ∷ 50 ∷ 0 ∷ 45 ∷ 49 ∷ 0 ∷ 0 ∷ [], Normal)
looks_and_characters = refl

nothing_to_look_at : shows (((word 0 (negsuc 1)) ++ (word 4 (pos 0)))
    ++ ((address 0 0) ++ (i.Call 2 14 (0 ∷ []) 1 ∷ []) ++ (i.Put 2 ∷ []))
    ++ ((address 0 0) ++ (i.Call 2 14 (0 ∷ []) 1 ∷ []) ++ (i.Put 2 ∷ []))
    ++ ((address 0 0) ++ (i.Call 2 15 (0 ∷ []) 1 ∷ []) ++ (number_shown 2))) ([]) 2000
    ≡ (256 ∷ 0 ∷ 0 ∷ 45 ∷ 49 ∷ [], Normal)
nothing_to_look_at = refl

characters_without_looks : shows (((word 0 (negsuc 1)) ++ (word 4 (pos 0)))
    ++ ((address 0 0) ++ (i.Call 2 15 (0 ∷ []) 1 ∷ []) ++ (number_shown 2))
    ++ ((address 0 0) ++ (i.Call 2 15 (0 ∷ []) 1 ∷ []) ++ (number_shown 2))
    ++ ((address 0 0) ++ (i.Call 2 15 (0 ∷ []) 1 ∷ []) ++ (number_shown 2))
    ++ ((address 0 0) ++ (i.Call 2 15 (0 ∷ []) 1 ∷ []) ++ (number_shown 2))) (97 ∷ 10 ∷ []) 2000
    ≡ (256 ∷ 57 ∷ 55 ∷ 256 ∷ 51 ∷ 50 ∷ 256 ∷ 45 ∷ 49 ∷ 45 ∷ 49 ∷ [], Normal)
characters_without_looks = refl

numbers_read : shows (((word 0 (negsuc 1)) ++ (word 4 (pos 0)))
    ++ ((address 0 0) ++ (address 1 8) ++ ((word 8 (pos 0))) ++ (i.Call 2 16 (0 ∷ 1 ∷ []) 1 ∷ []) ++ (i.Put 2 ∷ [])
    ++ ((i.Load 3 base.Frame 8 ∷ []) ++ (number_shown 3)))
    ++ ((address 0 0) ++ (address 1 8) ++ ((word 8 (pos 0))) ++ (i.Call 2 16 (0 ∷ 1 ∷ []) 1 ∷ []) ++ (i.Put 2 ∷ [])
    ++ ((i.Load 3 base.Frame 8 ∷ []) ++ (number_shown 3)))
    ++ ((address 0 0) ++ (address 1 8) ++ ((word 8 (pos 0))) ++ (i.Call 2 16 (0 ∷ 1 ∷ []) 1 ∷ []) ++ (i.Put 2 ∷ [])
    ++ ((i.Load 3 base.Frame 8 ∷ []) ++ (number_shown 3)))
    ++ ((address 0 0) ++ (i.Call 2 14 (0 ∷ []) 1 ∷ []) ++ (i.Put 2 ∷ []))
    ++ ((address 0 0) ++ (i.Call 2 15 (0 ∷ []) 1 ∷ []) ++ (number_shown 2)))
    (32 ∷ 10 ∷ 45 ∷ 49 ∷ 50 ∷ 43 ∷ 55 ∷ 32 ∷ 48 ∷ 120 ∷ []) 2000
    ≡ (
      256 ∷ 256 ∷ 256 ∷ 256 ∷ 256 ∷ 256 ∷ 0 ∷ 45 ∷ 49 ∷ 50 ∷ 256 ∷ 256 ∷ 0 ∷ 55 ∷ 256 ∷ 256 ∷ 0 ∷ 48 ∷ 2 ∷ 49 ∷ 50 ∷ 48
          ∷ [],
      Normal,
    )
numbers_read = refl

number_at_the_end : shows (((word 0 (negsuc 1)) ++ (word 4 (pos 0)))
    ++ ((address 0 0) ++ (address 1 8) ++ ((word 8 (pos 0))) ++ (i.Call 2 16 (0 ∷ 1 ∷ []) 1 ∷ []) ++ (i.Put 2 ∷ [])
    ++ ((i.Load 3 base.Frame 8 ∷ []) ++ (number_shown 3)))
    ++ ((address 0 0) ++ (i.Call 2 14 (0 ∷ []) 1 ∷ []) ++ (i.Put 2 ∷ []))
    ++ ((address 0 0) ++ (i.Call 2 15 (0 ∷ []) 1 ∷ []) ++ (number_shown 2))
    ++ ((address 0 0) ++ (i.Call 2 14 (0 ∷ []) 1 ∷ []) ++ (i.Put 2 ∷ []))) (53 ∷ []) 2000
    ≡ (256 ∷ 256 ∷ 0 ∷ 53 ∷ 1 ∷ 51 ∷ 50 ∷ 0 ∷ [], Normal)
number_at_the_end = refl

number_after_a_look : shows (((word 0 (negsuc 1)) ++ (word 4 (pos 0)))
    ++ ((address 0 0) ++ (i.Call 2 14 (0 ∷ []) 1 ∷ []) ++ (i.Put 2 ∷ []))
    ++ ((address 0 0) ++ (address 1 8) ++ ((word 8 (pos 0))) ++ (i.Call 2 16 (0 ∷ 1 ∷ []) 1 ∷ []) ++ (i.Put 2 ∷ [])
    ++ ((i.Load 3 base.Frame 8 ∷ []) ++ (number_shown 3)))
    ++ ((address 0 0) ++ (i.Call 2 15 (0 ∷ []) 1 ∷ []) ++ (number_shown 2))
    ++ ((address 0 0) ++ (i.Call 2 14 (0 ∷ []) 1 ∷ []) ++ (i.Put 2 ∷ []))) (52 ∷ 50 ∷ 32 ∷ []) 2000
    ≡ (256 ∷ 2 ∷ 256 ∷ 256 ∷ 0 ∷ 52 ∷ 50 ∷ 51 ∷ 50 ∷ 256 ∷ 1 ∷ [], Normal)
number_after_a_look = refl

greatest_and_least : shows (((word 0 (negsuc 1)) ++ (word 4 (pos 0)))
    ++ ((address 0 0) ++ (address 1 8) ++ ((word 8 (pos 0))) ++ (i.Call 2 16 (0 ∷ 1 ∷ []) 1 ∷ []) ++ (i.Put 2 ∷ [])
    ++ ((i.Load 3 base.Frame 8 ∷ []) ++ (number_shown 3)))
    ++ ((address 0 0) ++ (address 1 8) ++ ((word 8 (pos 0))) ++ (i.Call 2 16 (0 ∷ 1 ∷ []) 1 ∷ []) ++ (i.Put 2 ∷ [])
    ++ ((i.Load 3 base.Frame 8 ∷ []) ++ (number_shown 3)))
    ++ ((address 0 0) ++ (address 1 8) ++ ((word 8 (pos 0))) ++ (i.Call 2 16 (0 ∷ 1 ∷ []) 1 ∷ []) ++ (i.Put 2 ∷ [])
    ++ ((i.Load 3 base.Frame 8 ∷ []) ++ (number_shown 3)))
    ++ ((address 0 0) ++ (address 1 8) ++ ((word 8 (pos 0))) ++ (i.Call 2 16 (0 ∷ 1 ∷ []) 1 ∷ []) ++ (i.Put 2 ∷ [])
    ++ ((i.Load 3 base.Frame 8 ∷ []) ++ (number_shown 3))))
    (50 ∷ 49 ∷ 52 ∷ 55 ∷ 52 ∷ 56 ∷ 51 ∷ 54 ∷ 52 ∷ 55 ∷ 32 ∷ 45 ∷ 50 ∷ 49 ∷ 52 ∷ 55 ∷ 52 ∷ 56 ∷ 51 ∷ 54 ∷ 52 ∷ 56 ∷ 32
    ∷ 45 ∷ 48 ∷ 32 ∷ 48 ∷ 48 ∷ 48 ∷ 48 ∷ 48 ∷ 48 ∷ 48 ∷ 48 ∷ 48 ∷ 48 ∷ 48 ∷ 49 ∷ 50 ∷ []) 4000
    ≡ (
      256 ∷ 256 ∷ 256 ∷ 256 ∷ 256 ∷ 256 ∷ 256 ∷ 256 ∷ 256 ∷ 256 ∷ 256 ∷ 0 ∷ 50 ∷ 49 ∷ 52 ∷ 55 ∷ 52 ∷ 56 ∷ 51 ∷ 54 ∷ 52
          ∷ 55 ∷ 256 ∷ 256 ∷ 256 ∷ 256 ∷ 256 ∷ 256 ∷ 256 ∷ 256 ∷ 256 ∷ 256 ∷ 256 ∷ 256 ∷ 0 ∷ 45 ∷ 50 ∷ 49 ∷ 52 ∷ 55
          ∷ 52 ∷ 56
          ∷ 51 ∷ 54 ∷ 52 ∷ 56 ∷ 256 ∷ 256 ∷ 256 ∷ 0 ∷ 48 ∷ 256 ∷ 256 ∷ 256 ∷ 256 ∷ 256 ∷ 256 ∷ 256 ∷ 256 ∷ 256 ∷ 256
          ∷ 256
          ∷ 256 ∷ 256 ∷ 256 ∷ 0 ∷ 49 ∷ 50 ∷ [],
      Normal,
    )
greatest_and_least = refl

number_too_great : shows (((word 0 (negsuc 1)) ++ (word 4 (pos 0)))
    ++ ((address 0 0) ++ (address 1 8) ++ ((word 8 (pos 0))) ++ (i.Call 2 16 (0 ∷ 1 ∷ []) 1 ∷ []) ++ (i.Put 2 ∷ [])))
    (50 ∷ 49 ∷ 52 ∷ 55 ∷ 52 ∷ 56 ∷ 51 ∷ 54 ∷ 52 ∷ 56 ∷ []) 2000
    ≡ (256 ∷ 256 ∷ 256 ∷ 256 ∷ 256 ∷ 256 ∷ 256 ∷ 256 ∷ 256 ∷ 256 ∷ 256 ∷ 1 ∷ [], Normal)
number_too_great = refl

number_too_small : shows (((word 0 (negsuc 1)) ++ (word 4 (pos 0)))
    ++ ((address 0 0) ++ (address 1 8) ++ ((word 8 (pos 0))) ++ (i.Call 2 16 (0 ∷ 1 ∷ []) 1 ∷ []) ++ (i.Put 2 ∷ [])))
    (45 ∷ 50 ∷ 49 ∷ 52 ∷ 55 ∷ 52 ∷ 56 ∷ 51 ∷ 54 ∷ 52 ∷ 57 ∷ []) 2000
    ≡ (256 ∷ 256 ∷ 256 ∷ 256 ∷ 256 ∷ 256 ∷ 256 ∷ 256 ∷ 256 ∷ 256 ∷ 256 ∷ 256 ∷ 1 ∷ [], Normal)
number_too_small = refl

number_far_too_great : shows (((word 0 (negsuc 1)) ++ (word 4 (pos 0)))
    ++ ((address 0 0) ++ (address 1 8) ++ ((word 8 (pos 0))) ++ (i.Call 2 16 (0 ∷ 1 ∷ []) 1 ∷ []) ++ (i.Put 2 ∷ [])))
    (50 ∷ 49 ∷ 52 ∷ 55 ∷ 52 ∷ 56 ∷ 51 ∷ 54 ∷ 52 ∷ 57 ∷ 57 ∷ 57 ∷ 32 ∷ []) 2000
    ≡ (256 ∷ 256 ∷ 256 ∷ 256 ∷ 256 ∷ 256 ∷ 256 ∷ 256 ∷ 256 ∷ 256 ∷ 256 ∷ 256 ∷ 256 ∷ 1 ∷ [], Normal)
number_far_too_great = refl

number_far_too_small : shows (((word 0 (negsuc 1)) ++ (word 4 (pos 0)))
    ++ ((address 0 0) ++ (address 1 8) ++ ((word 8 (pos 0))) ++ (i.Call 2 16 (0 ∷ 1 ∷ []) 1 ∷ []) ++ (i.Put 2 ∷ [])))
    (45 ∷ 57 ∷ 57 ∷ 57 ∷ 57 ∷ 57 ∷ 57 ∷ 57 ∷ 57 ∷ 57 ∷ 57 ∷ 57 ∷ []) 2000
    ≡ (256 ∷ 256 ∷ 256 ∷ 256 ∷ 256 ∷ 256 ∷ 256 ∷ 256 ∷ 256 ∷ 256 ∷ 256 ∷ 256 ∷ 256 ∷ 1 ∷ [], Normal)
number_far_too_small = refl

no_number : shows (((word 0 (negsuc 1)) ++ (word 4 (pos 0)))
    ++ ((address 0 0) ++ (address 1 8) ++ ((word 8 (pos 0))) ++ (i.Call 2 16 (0 ∷ 1 ∷ []) 1 ∷ []) ++ (i.Put 2 ∷ [])))
    (97 ∷ []) 2000 ≡ (256 ∷ 2 ∷ [], Normal)
no_number = refl

no_digits : shows (((word 0 (negsuc 1)) ++ (word 4 (pos 0)))
    ++ ((address 0 0) ++ (address 1 8) ++ ((word 8 (pos 0))) ++ (i.Call 2 16 (0 ∷ 1 ∷ []) 1 ∷ []) ++ (i.Put 2 ∷ [])))
    (45 ∷ 97 ∷ []) 2000 ≡ (256 ∷ 256 ∷ 2 ∷ [], Normal)
no_digits = refl

no_digits_at_the_end : shows (((word 0 (negsuc 1)) ++ (word 4 (pos 0)))
    ++ ((address 0 0) ++ (address 1 8) ++ ((word 8 (pos 0))) ++ (i.Call 2 16 (0 ∷ 1 ∷ []) 1 ∷ []) ++ (i.Put 2 ∷ [])))
    (32 ∷ 43 ∷ []) 2000 ≡ (256 ∷ 256 ∷ 256 ∷ 2 ∷ [], Normal)
no_digits_at_the_end = refl

two_signs : shows (((word 0 (negsuc 1)) ++ (word 4 (pos 0)))
    ++ ((address 0 0) ++ (address 1 8) ++ ((word 8 (pos 0))) ++ (i.Call 2 16 (0 ∷ 1 ∷ []) 1 ∷ []) ++ (i.Put 2 ∷ [])))
    (45 ∷ 45 ∷ 49 ∷ []) 2000 ≡ (256 ∷ 256 ∷ 2 ∷ [], Normal)
two_signs = refl

no_number_left : shows (((word 0 (negsuc 1)) ++ (word 4 (pos 0)))
    ++ ((address 0 0) ++ (address 1 8) ++ ((word 8 (pos 0))) ++ (i.Call 2 16 (0 ∷ 1 ∷ []) 1 ∷ []) ++ (i.Put 2 ∷ [])))
    ([]) 2000 ≡ (256 ∷ 3 ∷ [], Normal)
no_number_left = refl

blanks_alone : shows (((word 0 (negsuc 1)) ++ (word 4 (pos 0)))
    ++ ((address 0 0) ++ (address 1 8) ++ ((word 8 (pos 0))) ++ (i.Call 2 16 (0 ∷ 1 ∷ []) 1 ∷ []) ++ (i.Put 2 ∷ [])))
    (32 ∷ 10 ∷ 32 ∷ []) 2000 ≡ (256 ∷ 256 ∷ 256 ∷ 256 ∷ 3 ∷ [], Normal)
blanks_alone = refl

lines_read : shows (((word 0 (negsuc 1)) ++ (word 4 (pos 0)))
    ++ ((address 0 0) ++ (i.Call 2 17 (0 ∷ []) 1 ∷ []) ++ (i.Put 2 ∷ []))
    ++ ((address 0 0) ++ (i.Call 2 15 (0 ∷ []) 1 ∷ []) ++ (number_shown 2))
    ++ ((address 0 0) ++ (i.Call 2 14 (0 ∷ []) 1 ∷ []) ++ (i.Put 2 ∷ []))
    ++ ((address 0 0) ++ (i.Call 2 17 (0 ∷ []) 1 ∷ []) ++ (i.Put 2 ∷ []))
    ++ ((address 0 0) ++ (i.Call 2 17 (0 ∷ []) 1 ∷ []) ++ (i.Put 2 ∷ []))) (97 ∷ 98 ∷ 10 ∷ 10 ∷ 99 ∷ []) 2000
    ≡ (256 ∷ 256 ∷ 256 ∷ 0 ∷ 256 ∷ 51 ∷ 50 ∷ 256 ∷ 2 ∷ 256 ∷ 0 ∷ 1 ∷ [], Normal)
lines_read = refl

line_after_a_look : shows (((word 0 (negsuc 1)) ++ (word 4 (pos 0)))
    ++ ((address 0 0) ++ (i.Call 2 14 (0 ∷ []) 1 ∷ []) ++ (i.Put 2 ∷ []))
    ++ ((address 0 0) ++ (i.Call 2 17 (0 ∷ []) 1 ∷ []) ++ (i.Put 2 ∷ []))
    ++ ((address 0 0) ++ (i.Call 2 14 (0 ∷ []) 1 ∷ []) ++ (i.Put 2 ∷ []))
    ++ ((address 0 0) ++ (i.Call 2 17 (0 ∷ []) 1 ∷ []) ++ (i.Put 2 ∷ []))
    ++ ((address 0 0) ++ (i.Call 2 17 (0 ∷ []) 1 ∷ []) ++ (i.Put 2 ∷ []))) (97 ∷ 98 ∷ 10 ∷ 99 ∷ 100 ∷ 10 ∷ []) 2000
    ≡ (256 ∷ 2 ∷ 256 ∷ 256 ∷ 0 ∷ 256 ∷ 2 ∷ 256 ∷ 256 ∷ 0 ∷ 256 ∷ 1 ∷ [], Normal)
line_after_a_look = refl

line_begun : shows (((word 0 (negsuc 1)) ++ (word 4 (pos 0)))
    ++ ((address 0 0) ++ (i.Call 2 15 (0 ∷ []) 1 ∷ []) ++ (number_shown 2))
    ++ ((address 0 0) ++ (i.Call 2 15 (0 ∷ []) 1 ∷ []) ++ (number_shown 2))
    ++ ((address 0 0) ++ (i.Call 2 17 (0 ∷ []) 1 ∷ []) ++ (i.Put 2 ∷ []))
    ++ ((address 0 0) ++ (i.Call 2 17 (0 ∷ []) 1 ∷ []) ++ (i.Put 2 ∷ []))) (97 ∷ 98 ∷ []) 2000
    ≡ (256 ∷ 57 ∷ 55 ∷ 256 ∷ 57 ∷ 56 ∷ 256 ∷ 0 ∷ 1 ∷ [], Normal)
line_begun = refl

line_of_a_number : shows (((word 0 (negsuc 1)) ++ (word 4 (pos 0)))
    ++ ((address 0 0) ++ (address 1 8) ++ ((word 8 (pos 0))) ++ (i.Call 2 16 (0 ∷ 1 ∷ []) 1 ∷ []) ++ (i.Put 2 ∷ [])
    ++ ((i.Load 3 base.Frame 8 ∷ []) ++ (number_shown 3)))
    ++ ((address 0 0) ++ (i.Call 2 17 (0 ∷ []) 1 ∷ []) ++ (i.Put 2 ∷ []))
    ++ ((address 0 0) ++ (address 1 8) ++ ((word 8 (pos 0))) ++ (i.Call 2 16 (0 ∷ 1 ∷ []) 1 ∷ []) ++ (i.Put 2 ∷ [])
    ++ ((i.Load 3 base.Frame 8 ∷ []) ++ (number_shown 3)))
    ++ ((address 0 0) ++ (i.Call 2 17 (0 ∷ []) 1 ∷ []) ++ (i.Put 2 ∷ []))
    ++ ((address 0 0) ++ (i.Call 2 17 (0 ∷ []) 1 ∷ []) ++ (i.Put 2 ∷ []))) (49 ∷ 50 ∷ 10 ∷ 51 ∷ []) 2000
    ≡ (256 ∷ 256 ∷ 256 ∷ 0 ∷ 49 ∷ 50 ∷ 0 ∷ 256 ∷ 256 ∷ 0 ∷ 51 ∷ 0 ∷ 1 ∷ [], Normal)
line_of_a_number = refl
