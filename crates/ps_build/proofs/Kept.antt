-- What is known of a run stays true for a console whose bytes stay as they were.
use Rattle.std.proofs.Common.{◌≡◌, ℕ, List, Option, Some, None, sym, ap, subst, ◌∙◌}
use Rattle.std.specs.Io.KnownBytes.{Keeps, Appends}
use Rattle.risc_machine.specs.Console.{World}
use Rattle.risc_machine.specs.Exec as exec
use Rattle.risc_image.specs.Image.{Image}
use Rattle.risc_load.specs.declared.budget.Budget.{Budget}
use Rattle.risc_load.specs.Loaded.{loaded_state}
use Rattle.ps_build.specs.declared.outcome.Outcome.{Outcome}
use Rattle.ps_build.specs.declared.outcome.Outcome.TheVariants.{Normal, Error, Stack, Heap, Steps, InputFault}
use Rattle.ps_build.specs.declared.outcome.Outcome.TheVariants.{OutputFault, Fault}
use Rattle.ps_build.specs.Runs.{Moved, CountsFaults, Runs, RunsImage}
use Rattle.ps_build.specs.Goes.{Goes}
use Rattle.ps_build.specs.Slices.{IsImageLeft, IsGoLeft}
use Rattle.ps_build.proofs.Seen.{kept_seen}
use Rattle.ps_build.proofs.Told.{tells_alike}

-- the bytes and the count of faults are as they were
pub record Same (old new : World) : Type 0 where
  pub input : Keeps old.input new.input
  pub output : Keeps old.output new.output
  pub faults : new.faults ≡ old.faults

known : (old new : Option (List ℕ)) (xs : List ℕ) → Keeps old new → old ≡ Some xs → new ≡ Some xs
known None new xs k e = absurd (cc)
known (Some ys) None xs k e = absurd k
known (Some ys) (Some zs) xs k e = ap Some k ∙ e

appended : (before old new : Option (List ℕ)) (bs : List ℕ) → Keeps old new → Appends before old bs
    → Appends before new bs
appended None old new bs k h = tt
appended (Some xs) None new bs k h = absurd h
appended (Some xs) (Some ys) None bs k h = absurd k
appended (Some xs) (Some ys) (Some zs) bs k h = k ∙ h

moved : (image : Image) (budget : Budget) (input : List ℕ) (before : Option (List ℕ)) (old new : World) → Same old new
    → (steps : ℕ) → Moved image budget input before steps old → Moved image budget input before steps new
moved image budget input before old new same steps m = record {
  written = appended before old.output new.output _ same.output m.written;
  left = known old.input new.input _ same.input m.left;
}

counts : (outcome : Outcome) (first old new : World) → new.faults ≡ old.faults → CountsFaults outcome first old
    → CountsFaults outcome first new
counts InputFault first old new e h = e ∙ h
counts OutputFault first old new e h = e ∙ h
counts Normal first old new e h = e ∙ h
counts (Error number line trail) first old new e h = e ∙ h
counts (Stack number line) first old new e h = e ∙ h
counts (Heap number line) first old new e h = e ∙ h
counts Steps first old new e h = e ∙ h
counts (Fault kind) first old new e h = e ∙ h

runs_kept : (image : Image) (budget : Budget) (n : ℕ) (first old new : World) (outcome : Outcome) → Same old new
    → Runs image budget n first old outcome → Runs image budget n first new outcome
runs_kept image budget n first old new outcome same r =
    let seen = kept_seen n (loaded_state image budget) r.made.left first old new r.made.stop r.made.steps same.input
    same.output same.faults in
    record {
      loaded = r.loaded;
      made = record {
        left = r.made.left;
        stop = r.made.stop;
        steps = subst (λ x. exec.Runs n (loaded_state image budget) first r.made.left x r.made.stop) (sym seen)
            r.made.steps;
        reports = r.made.reports;
      };
      told = λ input bytes i. tells_alike image budget n input first.output first.output old new
          (moved image budget input first.output old new same) outcome (r.told input bytes i);
      faults = counts outcome first old new same.faults r.faults;
    }

pub image_kept : (bytes : List ℕ) (budget : Budget) (n : ℕ) (first old new : World) (outcome : Outcome) → Same old new
    → RunsImage bytes budget n first old outcome → RunsImage bytes budget n first new outcome
image_kept bytes budget n first old new outcome same r = record {
  image = r.image;
  is_image = r.is_image;
  only = r.only;
  runs = runs_kept r.image budget n first old new outcome same r.runs;
}

pub go_kept : (text : List ℕ) (budget : Budget) (n : ℕ) (first old new : World) (outcome : Outcome) → Same old new
    → Goes text budget n first old outcome → Goes text budget n first new outcome
go_kept text budget n first old new outcome same g = record {
  bytes = g.bytes;
  built = g.built;
  compiles = g.compiles;
  runs = runs_kept g.compiles.image budget n first old new outcome same g.runs;
}

pub image_left_kept : (bytes : List ℕ) (budget : Budget) (n : ℕ) (first old new : World) → Same old new
    → IsImageLeft bytes budget n first old → IsImageLeft bytes budget n first new
image_left_kept bytes budget n first old new same h =
    record { steps = h.steps; fewer = h.fewer; runs = image_kept bytes budget h.steps first old new Steps same h.runs }

pub go_left_kept : (text : List ℕ) (budget : Budget) (n : ℕ) (first old new : World) → Same old new
    → IsGoLeft text budget n first old → IsGoLeft text budget n first new
go_left_kept text budget n first old new same h =
    record { steps = h.steps; fewer = h.fewer; goes = go_kept text budget h.steps first old new Steps same h.goes }
