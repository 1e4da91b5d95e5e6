-- The loaded machine shows the view of its start.
use Rattle.std.proofs.Common.{◌≡◌, ℕ, zero, suc, ◌+◌, ◌*◌, ◌/◌, ◌%◌, ◌^◌, ◌<◌, ◌≤◌, List, [], ◌∷◌, ◌++◌, length, get_or}
use Rattle.std.proofs.Common.{replicate, Some, refl, ap, ◌∙◌, subst, arith, length-append}
use Rattle.std.specs.Prelude.{slice_get, map}
use Rattle.std.proofs.Math.ListN.{length-replicate}
use Rattle.risc_word.specs.declared.instr.Instr.{Instr}
use Rattle.risc_word.specs.Words.{word_of, IsInstr}
use Rattle.risc_word.proofs.Laws.{word_below}
use Rattle.risc_machine.specs.Step.{word_at, start_state}
use Rattle.risc_machine.specs.declared.limits.TheConstants.{MAX_MEMORY}
use Rattle.risc_machine_laws.specs.View.{Shows}
use Rattle.risc_machine_laws.specs.Start.{code_bytes, AreWords, start_size, start_view}

-- every number of a list is below a bound
abbrev Below : List ℕ → ℕ → Type 0
Below [] n = Unit {0}
Below (x ∷ xs) n = (x < n) × Below xs n

below_at : (xs : List ℕ) (n k : ℕ) → 0 < n → Below xs n → get_or xs k 0 < n
below_at [] n k h b = h
below_at (x ∷ xs) n zero h b = b.0
below_at (x ∷ xs) n (suc k) h b = below_at xs n k h b.1

below_append : (xs ys : List ℕ) (n : ℕ) → Below xs n → Below ys n → Below (xs ++ ys) n
below_append [] ys n a b = b
below_append (x ∷ xs) ys n a b = (a.0, below_append xs ys n a.1 b)

below_zeros : (k n : ℕ) → 0 < n → Below (replicate k 0) n
below_zeros zero n h = tt
below_zeros (suc k) n h = (h, below_zeros k n h)

below_code : (ws : List ℕ) → Below (code_bytes ws) 256
below_code [] = tt
below_code (w ∷ ws) = (omega arith, (omega arith, (omega arith, (omega arith, below_code ws))))

pub length_code : (ws : List ℕ) → length (code_bytes ws) ≡ 4 * length ws
length_code [] = refl
length_code (w ∷ ws) = omega (arith, length_code ws)

digits : (w : ℕ) → w < 2 ^ 32 → w % 256 + w / 256 % 256 * 256 + w / 65536 % 256 * 65536
    + w / 16777216 % 256 * 16777216 ≡ w
digits w h = omega arith

zero_at : (n j : ℕ) → get_or (replicate n zero) j zero ≡ zero
zero_at zero j = refl
zero_at (suc n) zero = refl
zero_at (suc n) (suc j) = zero_at n j

-- the word at an address is the code's, or 0 past it
word_in : (ws : List ℕ) (n k : ℕ) → AreWords ws → word_at (code_bytes ws ++ replicate n 0) (4 * k) ≡ get_or ws k 0
word_in [] n k h = rw (zero_at n (4 * k), zero_at n (4 * k + 1), zero_at n (4 * k + 2), zero_at n (4 * k + 3))
word_in (w ∷ ws) n zero h = digits w (h 0 w refl)
word_in (w ∷ ws) n (suc k) h =
    let e : 4 * suc k ≡ suc (suc (suc (suc (4 * k)))) = omega arith in
    ap (λ a. word_at (code_bytes (w ∷ ws) ++ replicate n 0) a) e ∙ shifted (4 * k) ∙ word_in ws n k
    (λ j x s. h (suc j) x s)
  where
    shifted : (a : ℕ) → word_at (code_bytes (w ∷ ws) ++ replicate n 0) (suc (suc (suc (suc a)))) ≡ word_at
        (code_bytes ws ++ replicate n 0) a
    shifted a =
        let e1 : suc (suc (suc (suc a))) + 1 ≡ suc (suc (suc (suc (a + 1)))) = omega arith in
        let e2 : suc (suc (suc (suc a))) + 2 ≡ suc (suc (suc (suc (a + 2)))) = omega arith in
        let e3 : suc (suc (suc (suc a))) + 3 ≡ suc (suc (suc (suc (a + 3)))) = omega arith in
        rw (e1, e2, e3) refl

index_of : (ws : List ℕ) (k w : ℕ) → slice_get ws k ≡ Some w → get_or ws k 0 ≡ w
index_of [] k w h = absurd (cc h)
index_of (x ∷ ws) zero w h = cc h
index_of (x ∷ ws) (suc k) w h = index_of ws k w h

-- the registers, where the globals begin at g
abbrev start_registers : ℕ → ℕ → ℕ → ℕ → List ℕ
start_registers global heap stack g =
    (g + global) ∷ (g + global + heap) ∷ 0 ∷ 0 ∷ 0 ∷ 0 ∷ 0 ∷ 0 ∷ 0 ∷ 0 ∷ 0 ∷ 0 ∷ 0 ∷ g ∷ (g + global + heap + stack) ∷ 0
    ∷ []

pub shows_start : (code : List ℕ) (global heap stack : ℕ) → start_size code global heap stack ≤ MAX_MEMORY →
    AreWords code
    → Shows code (start_size code global heap stack) (start_state (code_bytes code) global heap stack)
    (start_view code global heap stack)
shows_start code global heap stack fits words =
    let n = global + heap + stack in
    let globals = 4 * length code in
    let e = length_code code in
    record {
      registers = λ k h. ap (λ g. get_or (start_registers global heap stack g) k 0) e;
      count = refl;
      narrow = λ k h. below_at (start_registers global heap stack globals) (2 ^ 32) k (omega arith) (
        omega arith,
        (
          omega arith,
          (
            omega arith,
            (
              omega arith,
              (
                omega arith,
                (
                  omega arith,
                  (
                    omega arith,
                    (
                      omega arith,
                      (
                        omega arith,
                        (
                          omega arith,
                          (
                            omega arith,
                            (
                              omega arith,
                              (omega arith, (omega arith, (omega arith, (omega arith, tt)))),
                            ),
                          ),
                        ),
                      ),
                    ),
                  ),
                ),
              ),
            ),
          ),
        ),
      );
      high = refl;
      high_narrow = omega arith;
      negative = refl;
      equal = refl;
      carry = refl;
      overflow = refl;
      place = refl;
      extent = length-append (code_bytes code) (replicate n 0) ∙ ap (λ x. length (code_bytes code) + x)
          (length-replicate n 0) ∙ all (length (code_bytes code)) globals e;
      bytes = λ j. below_at (code_bytes code ++ replicate n 0) 256 j (omega arith)
          (below_append (code_bytes code) (replicate n 0) 256 (below_code code) (below_zeros n 256 (omega arith)));
      words = λ a al high. let q : a ≡ 4 * (a / 4) = omega arith
          in ap (λ x. word_at (code_bytes code ++ replicate n 0) x) q ∙ word_in code n (a / 4) words;
      stands = λ k w h. word_in code n k words ∙ index_of code k w h;
    }
  where
    all : (x y : ℕ) → x ≡ y → x + (global + heap + stack) ≡ y + global + heap + stack
    all x y e = omega arith

-- ---- lists of words
pub words_nil : AreWords []
words_nil k w h = absurd (cc h)

pub words_cons : (w : ℕ) (ws : List ℕ) → w < 2 ^ 32 → AreWords ws → AreWords (w ∷ ws)
words_cons w ws lt h zero x e = let same : w ≡ x = cc e in subst (λ y. y < 2 ^ 32) same lt
words_cons w ws lt h (suc k) x e = h k x e

-- the words of a list that is written out
abbrev pub AllWords : List ℕ → Type 0
AllWords [] = Unit {0}
AllWords (w ∷ ws) = (w < 2 ^ 32) × AllWords ws

pub words_listed : (ws : List ℕ) → AllWords ws → AreWords ws
words_listed [] h = words_nil
words_listed (w ∷ ws) h = words_cons w ws h.0 (words_listed ws h.1)

pub words_append : (ws xs : List ℕ) → AreWords ws → AreWords xs → AreWords (ws ++ xs)
words_append [] xs h k = k
words_append (w ∷ ws) xs h k = words_cons w (ws ++ xs) (h 0 w refl) (words_append ws xs (λ j x e. h (suc j) x e) k)

-- the words of instructions
pub words_of_instrs : (is : List Instr) → ((k : ℕ) (i : Instr) → slice_get is k ≡ Some i → IsInstr i) → AreWords
    (map word_of is)
words_of_instrs [] h = words_nil
words_of_instrs (i ∷ is) h = words_cons (word_of i) (map word_of is) (word_below i (h 0 i refl))
    (words_of_instrs is (λ k j e. h (suc k) j e))
