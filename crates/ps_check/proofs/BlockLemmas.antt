-- Blocks and the blocks of routines, part by part: each part by what the program has for it.
use Rattle.std.proofs.Common.{◌≡◌, ℕ, List, [], ◌∷◌, ◌++◌, map, Some, Result, Ok, Err, sym, ap, ◌∙◌, subst}
use Rattle.std.specs.Prelude.{IfOk}
use Rattle.ps_text.specs.declared.Span.{Span}
use Rattle.ps_syntax.specs.declared.program.Block.{Block, out-Block}
use Rattle.ps_syntax.specs.declared.program.Heading.{Heading}
use Rattle.ps_syntax.specs.declared.program.Routine.{Routine}
use Rattle.ps_syntax.specs.declared.program.Routine.TheVariants as v
use Rattle.ps_check_judgement.specs.Judged.{Judged, Yes, ◌>>=◌, both, steps}
use Rattle.ps_check_names.specs.Spelling.{spelled, line_in}
use Rattle.ps_check_names.specs.Regions.{Region, BlockRegion, Context, Meaning}
use Rattle.ps_check_declarations.specs.Denoters.{Frame}
use Rattle.ps_check.specs.Readings.{BlockReading, RoutineReading, Routines, Gathered, Start, Done}
use Rattle.ps_check.specs.Changes.{outward}
use Rattle.ps_check.specs.Forwards.{block_names}
use Rattle.ps_check.specs.Entries.{start}
use Rattle.ps_check.specs.Blocks.{own_number, finished, heading_at, known_as, read_block, one_routine, declared}
use Rattle.ps_check.specs.Blocks.{block_body, block_step, block, routine, layer}
use Rattle.ps_check.specs.Programs.{program_chain, nothing_gathered}
use Rattle.ps_check.proofs.Equations.{block_is, routine_Forward}

-- ---- a block, by the frame of its region

abbrev pub frame_in : Context → ℕ → (names begun : List (List ℕ)) → List Region → Frame
frame_in c number names begun outer = record {
  text = c.text;
  routine = number;
  names = names;
  begun = begun;
  outer = outer;
}

-- what comes after its names
abbrev pub after_names : Context → Block → List Routine → Frame → List ℕ → ℕ → List Meaning → Gathered → Judged Done
after_names c x xs f chain first known g = declared f (layer c x) first known g
    >>= (λ d. steps (one_routine f chain) d.0 (map (routine c) xs)
    >>= (λ r. block_body c f (layer c x) r
    >>= (λ body. Yes (record {
      variables = d.1;
      body = body.0;
      line = line_in c.text (layer c x).begin.from;
      changes = r.changes ++ body.1;
      gathered = r.gathered;
    }))))

pub block_parts : (c : Context) (x : Block) (outer : List Region) (s : Start) (g : Gathered) (number : ℕ)
    (names begun : List (List ℕ)) (known : List Meaning) (xs : List Routine) → number ≡ own_number s.chain
    → names ≡ block_names c.text (layer c x) s.names → begun ≡ [] → known ≡ s.known → xs ≡ (out-Block x).routines
    → block c x outer s g ≡ after_names c x xs (frame_in c number names begun outer) s.chain s.first known g
unfolding block_step
block_parts c x outer s g number names begun known xs own n none k is =
    ap (λ (b : BlockReading). b outer s g) (block_is c x)
    ∙ ap (λ i. after_names c x (out-Block x).routines
    (frame_in c i (block_names c.text (layer c x) s.names) [] outer) s.chain s.first s.known g) (sym own)
    ∙ ap (λ l. after_names c x (out-Block x).routines (frame_in c number l [] outer) s.chain s.first s.known g) (sym n)
    ∙ ap (λ l. after_names c x (out-Block x).routines (frame_in c number names l outer) s.chain s.first s.known g)
    (sym none)
    ∙ ap (λ l. after_names c x (out-Block x).routines (frame_in c number names begun outer) s.chain s.first l g) (sym k)
    ∙ ap (λ l. after_names c x l (frame_in c number names begun outer) s.chain s.first known g) (sym is)

-- ---- the block of a routine, by the routine's name

abbrev pub by_name : Frame → List ℕ → Span → List Meaning → List Region → Routines → BlockReading → Judged Routines
by_name f chain name known around r b = heading_at name.from (known_as f known (spelled f.text name))
    >>= (λ h. start name.from chain h
    >>= (λ s. b around s r.gathered
    >>= (λ done. finished name.from h s.chain done
    >>= (λ g. Yes (record { known = r.known; changes = r.changes ++ outward done.changes; gathered = g })))))

pub read_by_name : (f : Frame) (chain : List ℕ) (x : RoutineReading) (name : Span) (known : List Meaning)
    (around : List Region) (r : Routines) (b : BlockReading) → x.name ≡ name → known ≡ r.known
    → around ≡ BlockRegion f.routine f.names r.known ∷ f.outer
    → read_block f chain x r (Some b) ≡ by_name f chain name known around r b
unfolding read_block
read_by_name f chain x name known around r b is k e =
    ap (λ n. by_name f chain n r.known (BlockRegion f.routine f.names r.known ∷ f.outer) r b) is
    ∙ ap (λ l. by_name f chain name l (BlockRegion f.routine f.names r.known ∷ f.outer) r b) (sym k)
    ∙ ap (λ l. by_name f chain name known l r b) (sym e)

-- a forward heading has no block
pub none_to_read : (f : Frame) (chain : List ℕ) (c : Context) (x : Routine) (h : Heading) (r : Routines)
    → x ≡ v.Forward h → read_block f chain (routine c x) r (routine c x).block ≡ Yes r
unfolding read_block
none_to_read f chain c x h r e = ap (read_block f chain (routine c x) r)
    (ap (λ (y : RoutineReading). y.block) (ap (routine c) e ∙ routine_Forward c h))

-- ---- the block of the program

abbrev value_or : {A E : Type 0} → A → Result A E → A
value_or d (Ok x) = x
value_or d (Err e) = d

ok_err : {A E : Type 0} {x : A} {e : E} → Ok x ≡ (let r : Result A E = Err e in r) → ⊥
ok_err q = cc

-- what holds of both of two answers
pub both_hold : {A B E : Type 0} (x : Result A E) (y : Result B E) (P : A → Type 0) (Q : B → Type 0) (p : A × B)
    → Ok p ≡ both x y → IfOk x P → IfOk y Q → P p.0 × Q p.1
both_hold (Ok a) (Ok b) P Q p e h g =
    let is : p ≡ (a, b) = ap (value_or p) e in
    (subst P (sym (ap (λ r. r.0) is)) h, subst Q (sym (ap (λ r. r.1) is)) g)
both_hold (Ok a) (Err f) P Q p e h g = absurd (ok_err e)
both_hold (Err f) y P Q p e h g = absurd (ok_err e)

pub block_begun : (b : BlockReading) (outer : List Region) (s : List ℕ → Start) (chain : List ℕ) (g : Gathered)
    → chain ≡ program_chain → g ≡ nothing_gathered → b outer (s program_chain) nothing_gathered ≡ b outer (s chain) g
block_begun b outer s chain g e n = ap (λ k. b outer (s k) nothing_gathered) (sym e) ∙ ap (b outer (s chain)) (sym n)
