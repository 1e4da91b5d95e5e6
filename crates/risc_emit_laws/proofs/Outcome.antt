-- The ending of a stop, as the steps give it and as the loaded image shows it.
use Rattle.std.proofs.Common.{◌≡◌, ℕ, zero, suc, Bool, true, false, cond, List, [], ◌∷◌, map, Option, Some, None, refl}
use Rattle.std.proofs.Common.{sym, ap, ◌∙◌, lit<}
use Rattle.std.specs.Prelude.{nat_eq, option_map, slice_index}
use Rattle.risc_machine.specs.Step.{State, word_at}
use Rattle.risc_machine.specs.Exec.{Stopped, row_at, trap_ending}
use Rattle.risc_machine_laws.specs.View.{View, Shows}
use Rattle.risc_image.specs.declared.rows.TrapRow.{TrapRow}
use Rattle.risc_image.specs.Image.{Image}
use Rattle.risc_image.specs.Table.{trap_at}
use Rattle.risc_load.specs.Shows.{trap_row}
use Rattle.risc_emit_relation.specs.Context.{Context}
use Rattle.risc_emit_relation.specs.Walk.{walk}
use Rattle.risc_emit_relation.proofs.Walk.{walk_same}
use Rattle.risc_emit_forms.specs.Follows.{trapped, told}
use Rattle.risc_emit_laws.specs.Outcome.{line_of, calls_at, ending_of}
use Rattle.risc_emit_laws.specs.Plan.{trap_of}

-- a table's row is the first, or the row among the others
with_row : (b : Bool) (row : TrapRow) (found : Option (ℕ × ℕ × ℕ)) (others : Option TrapRow) → found
    ≡ option_map trap_row others → cond b (Some (trap_row row)) found ≡ option_map trap_row (cond b (Some row) others)
with_row true row found others e = refl
with_row false row found others e = e

row_of_link : (link : ℕ) (rows : List TrapRow) → row_at link (map trap_row rows) ≡ option_map trap_row
    (trap_at link rows)
row_of_link link [] = refl
row_of_link link (row ∷ rows) =
    with_row (nat_eq row.link link) row (row_at link (map trap_row rows)) (trap_at link rows) (row_of_link link rows)

trapped_is : (o : Option TrapRow) (calls : List ℕ) → trapped (option_map (λ row. (row.error, row.line)) o) calls
    ≡ trap_ending (option_map trap_row o) calls
trapped_is None calls = refl
trapped_is (Some row) calls = refl

-- the walk over the view's words is the walk over plain memory
pub calls_are : (words : List ℕ) (size : ℕ) (image : Image) (m : State) (v : View) → Shows words size m v → walk
    (line_of image) size 16 v.words (v.registers 14) ≡ calls_at image m
calls_are words size image m v sh =
    let from = ap (walk (line_of image) size 16 v.words) (sym (sh.registers 14 (lit< tt))) in
    let same = walk_same (line_of image) size 16 v.words (word_at m.memory) (slice_index m.registers 14)
    (λ a al top. sym (sh.words a al top)) in
    from ∙ same ∙ ap (λ n. walk (line_of image) n 16 (word_at m.memory) (slice_index m.registers 14)) (sym sh.extent)

pub told_is : (c : Context) (words : List ℕ) (image : Image) → ((link : ℕ) → c.trap link ≡ trap_of image link) → c.line
    ≡ line_of image → (word : ℕ) (m : State) (v : View) → Shows words c.size m v → told c word v ≡ ending_of image
    (Stopped word m)
told_is c words image traps lines zero m v sh = refl
told_is c words image traps lines (suc n) m v sh =
    let walked = ap (λ line. walk line c.size 16 v.words (v.registers 14)) lines ∙ calls_are words c.size image m v sh
    in
    ap (trapped (c.trap (suc n))) walked ∙ ap (λ o. trapped o (calls_at image m)) (traps (suc n)) ∙ trapped_is
    (trap_at (suc n) image.traps) (calls_at image m) ∙ ap (λ o. trap_ending o (calls_at image m))
    (sym (row_of_link (suc n) image.traps))
