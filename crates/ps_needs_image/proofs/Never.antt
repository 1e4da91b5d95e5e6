-- Images that are never stopped for stack, or for heap.
use Rattle.std.proofs.Common.{◌≡◌, ◌≢◌, ℕ, zero, suc, Bool, true, false, nat_eq, if◌then◌else◌, List, [], ◌∷◌, map}
use Rattle.std.proofs.Common.{slice_get, IfSome, Some, refl, ap, ◌∙◌, subst, arith, eqb-true}
use Rattle.behavior.specs.Endings.{IsMore, Stack, Heap, ending_by, failed}
use Rattle.behavior.specs.Transcripts.{Shown}
use Rattle.behavior.proofs.Sameness.{same_ends_alike}
use Rattle.risc_machine.specs.Exec.{Halt, Running, Stopped, Faulted, row_at, trap_ending, fresh, exec}
use Rattle.risc_machine.specs.Step.{start_state}
use Rattle.risc_image.specs.declared.rows.TrapRow.{TrapRow}
use Rattle.risc_image.specs.Image.{Image}
use Rattle.risc_image.specs.Format.{word_bytes}
use Rattle.risc_load.specs.Shows.{frame_bytes, object_bytes, trap_row}
use Rattle.risc_emit_laws.specs.Outcome.{ending_of, image_outcome}
use Rattle.ps_meaning.specs.Run.{run_within}
use Rattle.ps_needs.specs.Laws.{NeedsEnough}
use Rattle.ps_build.proofs.Unbudgeted.{image_grows}
use Rattle.ps_needs_image.specs.Laws.{NeverOutOfStack, MakesNoObject, NeverOutOfHeap}

-- a stop for stack is one of the program, whose stack holds each path of calls
pub never_out_of_stack : NeedsEnough → NeverOutOfStack
never_out_of_stack enough text bytes text_bytes compiles least holds heap stack budget le input input_bytes steps line e
    =
    let image = compiles.image in
    let F = frame_bytes image in
    let G = object_bytes image in
    let meant : ℕ → Shown = run_within compiles.checked F G stack heap input in
    let shows : ℕ → Shown = image_outcome image heap stack input in
    let over : IsMore (shows steps).1 → ⊥ = λ more. subst IsMore e more in
    let alike = same_ends_alike meant shows (image_grows image heap stack input)
    (compiles.does.same heap stack budget input input_bytes) steps over in
    let accepts = compiles.program.accepts in
    let parsed = accepts.parsed in
    enough text accepts.tokens accepts.tree compiles.checked text_bytes parsed.limits parsed.scanned parsed.derived
    accepts.checks F G stack heap (λ rs path. let l = holds rs path in omega (arith, l, le)) input alike.0 line
    (ap (λ s. s.1) alike.1 ∙ e)

-- ---- heap

by_number : (number line : ℕ) (calls : List ℕ) (at : ℕ) → number ≢ 13 → ending_by number line calls ≡ Heap at → ⊥
by_number number line calls at other = go (nat_eq number 12) (nat_eq number 13) refl
  where
    go : (a b : Bool) → nat_eq number 13 ≡ b → (if a then Stack line else if b then Heap line
        else failed number line calls) ≡ Heap at → ⊥
    go true b is e = absurd (cc)
    go false true is e = other (eqb-true number 13 is)
    go false false is e = absurd (cc)

by_rows : (rows : List TrapRow) → ((k : ℕ) → IfSome (slice_get rows k) (λ row. row.error ≢ 13)) → (link : ℕ)
    (calls : List ℕ) (at : ℕ) → trap_ending (row_at link (map trap_row rows)) calls ≡ Heap at → ⊥
by_rows [] none link calls at e = absurd (cc)
by_rows (row ∷ rows) none link calls at e = go (nat_eq row.link link) e (by_rows rows (λ k. none (suc k)) link calls at)
  where
    go : (b : Bool) → trap_ending (if b then Some (trap_row row) else row_at link (map trap_row rows)) calls ≡ Heap at
        → (trap_ending (row_at link (map trap_row rows)) calls ≡ Heap at → ⊥) → ⊥
    go true f rest = by_number row.error row.line calls at (none 0) f
    go false f rest = rest f

by_halt : (image : Image) → MakesNoObject image → (halt : Halt) (at : ℕ) → ending_of image halt ≡ Heap at → ⊥
by_halt image none Running at e = absurd (cc)
by_halt image none (Stopped zero m) at e = absurd (cc)
by_halt image none (Stopped (suc k) m) at e = by_rows image.traps none (suc k) _ at e
by_halt image none (Faulted kind) at e = absurd (cc)

pub never_out_of_heap : NeverOutOfHeap
never_out_of_heap image none heap stack input steps line = by_halt image none
    (exec steps (start_state (word_bytes image.code) image.global heap stack) (fresh input)).1 line
