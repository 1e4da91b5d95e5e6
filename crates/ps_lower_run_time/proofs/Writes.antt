-- Writes: the laws of the three routines, in the lowering's words.
use Rattle.std.proofs.Common.{◌≡◌, ◌==◌, ◌-ℤ◌, if◌then◌else◌, pos, ℕ, zero, suc, ◌+◌, ◌<◌, List, [], ◌∷◌, length, refl}
use Rattle.std.proofs.Common.{sym, ap, ◌∙◌, subst, arith}
use Rattle.std.specs.List.{All}
use Rattle.tac_code.specs.declared.code.Block.{Block}
use Rattle.tac_code.specs.Memory.{Memory, load_byte}
use Rattle.tac_code.specs.Meaning.{text_at}
use Rattle.tac_rt.specs.declared.run_time.RunTime.TheVariants as routine
use Rattle.tac_rt.specs.Calls.{BytesAt}
use Rattle.tac_code.specs.declared.code.Value.TheVariants.{Number, Address}
use Rattle.tac_code_steps.specs.Routines.{Does}
use Rattle.tac_rt.specs.Numbers.{run_time_number}
use Rattle.tac_rt.specs.Laws.{CopiedUp, PackedUp, UnpackedUp, first_difference}
use Rattle.tac_rt.proofs.Copies.{copies_words}
use Rattle.tac_rt.proofs.Packs.{packs_bytes}
use Rattle.tac_rt.proofs.Unpacks.{unpacks_bytes}
use Rattle.tac_rt.proofs.Comparisons.{compares_bytes}
use Rattle.tac_rt.proofs.Strings.{writes_strings}
use Rattle.tac_rt.proofs.Numbers.{writes_numbers}
use Rattle.tac_rt.proofs.Letters.{writes_characters}
use Rattle.ps_lower_relation.specs.Here.{Setting, machine_of, code_in}
use Rattle.ps_lower_relation.specs.RunTime.{BytesAt as StandAt, CopiedUp as AreCopied, PackedUp as ArePacked}
use Rattle.ps_lower_relation.specs.RunTime.{UnpackedUp as AreUnpacked, first_difference as difference}
use Rattle.ps_lower_run_time.proofs.Sets.{sets_do}
use Rattle.ps_lower_run_time.specs.Laws.{WritesAreDone}
use Rattle.ps_lower_run_time.proofs.Reading.{reads_do}

-- bytes by their places, one after another
bytes_at : (p : Setting) (memory : Memory) (b : Block) (o : ℕ) (text : List ℕ) → StandAt p memory b o text → All
    (λ byte. byte < 256) text → BytesAt (text_at (code_in p)) memory b o text
bytes_at p memory b o [] stand low = tt
bytes_at p memory b o (byte ∷ text) stand low =
    let here : o + 0 ≡ o = omega arith in (
      ap (load_byte (text_at (code_in p)) memory b) (sym here) ∙ stand 0 byte refl,
      low 0 0 (omega arith),
      bytes_at p memory b (o + 1) text (λ i c e. let there : o + 1 + i ≡ o + suc i = omega arith
          in ap (load_byte (text_at (code_in p)) memory b) there ∙ stand (suc i) c e)
          (λ i d l. low (suc i) d (omega (arith, l))),
    )

-- words that are copied, in both laws' terms
copied : (p : Setting) (to : Block) (place : ℕ) (from : Block) (start n : ℕ) (before after : Memory)
    → AreCopied p before to place from start n after → CopiedUp (text_at (code_in p)) before to place from start n after
copied p to place from start zero before after h = h
copied p to place from start (suc n) before after h =
    (h.0, h.1, h.2, h.3, copied p to (place + 4) from (start + 4) n h.1 after h.4)

-- words that are packed
packed : (p : Setting) (to : Block) (place : ℕ) (from : Block) (start : ℕ) (bytes : List ℕ) (before after : Memory)
    → ArePacked p before to place from start bytes after → PackedUp
    (text_at (code_in p)) before to place from start bytes after
packed p to place from start [] before after h = h
packed p to place from start (b ∷ bytes) before after h =
    (h.0, h.1, h.2, h.3, packed p to (place + 1) from (start + 4) bytes h.0 after h.4)

-- and bytes that are unpacked
unpacked : (p : Setting) (to : Block) (place : ℕ) (from : Block) (start : ℕ) (bytes : List ℕ) (before after : Memory)
    → AreUnpacked p before to place from start bytes after → UnpackedUp
    (text_at (code_in p)) before to place from start bytes after
unpacked p to place from start [] before after h = h
unpacked p to place from start (b ∷ bytes) before after h =
    (h.0, h.1, h.2, unpacked p to (place + 4) from (start + 1) bytes h.0 after h.3)

-- both laws' difference is the same
same_difference : (left right : List ℕ) → first_difference left right ≡ difference left right
same_difference [] right = refl
same_difference (a ∷ left) [] = refl
same_difference (a ∷ left) (b ∷ right) = ap (λ z. if a == b then z else pos a -ℤ pos b) (same_difference left right)

pub writes_do : WritesAreDone
writes_do p has = record {
  sets = sets_do p has;
  number = λ x width memory tape h l. writes_numbers (machine_of p) x width memory tape has h l;
  character = λ x width memory tape h l. writes_characters (machine_of p) x width memory tape has h l;
  words = λ to place from start n before after tape h l narrow. copies_words
      (machine_of p) to place from start n before after tape has
      (copied p to place from start n before after h) l narrow;
  packed = λ to place from start bytes before after tape h l narrow. packs_bytes
      (machine_of p) to place from start bytes before after tape has
      (packed p to place from start bytes before after h) l narrow;
  unpacked = λ to place from start bytes before after tape h l narrow. unpacks_bytes
      (machine_of p) to place from start bytes before after tape has
      (unpacked p to place from start bytes before after h) l narrow;
  reads = reads_do p has;
  string = λ b o text width memory tape stand low l narrow. writes_strings (machine_of p) b o text width memory tape has
      (bytes_at p memory b o text stand low) l narrow;
  difference = λ x place y start left right memory tape stand there low low' same l narrow.
      subst (λ z. Does (machine_of p) (run_time_number routine.CompareBytes)
      (Address x place ∷ Address y start ∷ Number (pos (length left)) ∷ []) memory tape (Number z) memory tape)
      (same_difference left right)
      (compares_bytes (machine_of p) x place y start left right memory tape has
      (bytes_at p memory x place left stand low) (bytes_at p memory y start right there low') same l narrow);
}
