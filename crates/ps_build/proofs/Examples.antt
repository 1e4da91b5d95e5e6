-- What the promises don't allow, by examples computed by hand: consoles whose output was held back or lost, and a table
-- that charges too much; and images that fault, none of which was built.
use Rattle.std.proofs.Common.{◌≡◌, ◌<◌, ℕ, zero, suc, List, [], ◌∷◌, Some, None, refl, sym, subst, arith}
use Rattle.std.specs.Io.KnownBytes.{Appends}
use Rattle.behavior.specs.Endings as ending
use Rattle.behavior.specs.Transcripts.{AreBytes, output}
use Rattle.risc_machine.specs.Console.{World}
use Rattle.risc_machine.specs.declared.limits.TheConstants.{MAX_MEMORY}
use Rattle.risc_image.specs.Image.{Image}
use Rattle.risc_load.specs.declared.budget.Budget.{Budget}
use Rattle.risc_load.specs.Shows.{IsBudget}
use Rattle.risc_emit_laws.specs.Outcome.{image_outcome}
use Rattle.ps_tree.specs.Tree.{Program, no_routine, routine_at}
use Rattle.ps_tree.specs.Counts.{routine_cells, routine_nodes, routine_extent, formals_extent, result_extent}
use Rattle.ps_tree.specs.Counts.{variables_extent, statements_extent}
use Rattle.ps_meaning.specs.Costs.{Bounded}
use Rattle.ps_build.specs.declared.outcome.FaultKind.TheVariants as fault
use Rattle.ps_build.specs.declared.outcome.Outcome.TheVariants.{Fault}
use Rattle.ps_build.specs.Devices.{AsksInput, AsksOutput}
use Rattle.ps_build.specs.Headline.{Compiles}
use Rattle.ps_build.specs.Laws.{NeverFaults}
use Rattle.ps_build.specs.Runs.{stands_at, Breaks, Ends}

-- ---- devices that fail

-- MOV R6, -64; MOV R0, 97; ST R0, R6, 8; LD R0, R6, 8; ST R0, R6, 8; B T, -1: puts a byte, takes one and puts it
abbrev echo : Image
echo = record {
  global = 0;
  code = 0x5600FFC0 ∷ 0x40000061 ∷ 0xA0600008 ∷ 0x80600008 ∷ 0xA0600008 ∷ 0xE7FFFFFF ∷ [];
  frames = [];
  objects = [];
  traps = [];
  calls = None;
}

abbrev none : Budget
none = record { stack = 0; heap = 0 }

module _ (after : World) where
  nothing_more : (steps : ℕ) → Appends (Some []) after.output (output (image_outcome echo 0 0 (7 ∷ []) steps).0)
      → after.output ≡ Some [] → [] ≡ output (image_outcome echo 0 0 (7 ∷ []) steps).0
  nothing_more steps w e =
      subst (λ known. Appends (Some []) known (output (image_outcome echo 0 0 (7 ∷ []) steps).0)) e w

  gone : (steps : ℕ) → steps < 6 → AsksInput (stands_at echo none (7 ∷ []) steps).0 → []
      ≡ output (image_outcome echo 0 0 (7 ∷ []) steps).0 → ⊥
  gone zero f a w = a
  gone (suc zero) f a w = a
  gone (suc (suc zero)) f a w = a
  gone (suc (suc (suc zero))) f a w = absurd (cc)
  gone (suc (suc (suc (suc zero)))) f a w = a
  gone (suc (suc (suc (suc (suc zero))))) f a w = a
  gone (suc (suc (suc (suc (suc (suc n)))))) f a w = absurd (omega (arith, f))

  -- The input failed, and the byte that was put before it was asked for is not there.
  lost : Breaks AsksInput echo none 6 (7 ∷ []) (Some []) after → after.output ≡ Some [] → ⊥
  lost b e = gone b.steps b.fewer b.asking (nothing_more b.steps b.moved.written e)

  behind : (steps : ℕ) → steps < 6 → AsksOutput (stands_at echo none (7 ∷ []) steps).0 → []
      ≡ output (image_outcome echo 0 0 (7 ∷ []) steps).0 → after.input ≡ Some
      (stands_at echo none (7 ∷ []) steps).1.input → after.input ≡ Some [] → ⊥
  behind zero f a w l i = a
  behind (suc zero) f a w l i = a
  behind (suc (suc zero)) f a w l i = absurd (cc)
  behind (suc (suc (suc zero))) f a w l i = a
  behind (suc (suc (suc (suc zero)))) f a w l i = absurd (cc)
  behind (suc (suc (suc (suc (suc zero))))) f a w l i = a
  behind (suc (suc (suc (suc (suc (suc n)))))) f a w l i = absurd (omega (arith, f))

  -- The output failed at its first byte, and the input was taken already: all writes were kept for the end.
  late : Breaks AsksOutput echo none 6 (7 ∷ []) (Some []) after → after.output ≡ Some [] → after.input ≡ Some [] → ⊥
  late b e i = behind b.steps b.fewer b.asking (nothing_more b.steps b.moved.written e) b.moved.left i

-- the consoles that are left where the first take fails, and where the second put does
prompted : Breaks AsksInput echo none 6 (7 ∷ []) (Some []) (record {
  input = Some (7 ∷ []);
  output = Some (97 ∷ []);
  faults = 1;
})
prompted = record {
  steps = 3;
  fewer = omega arith;
  running = refl;
  asking = tt;
  moved = record {
    written = refl;
    left = refl;
  };
}

answered : Breaks AsksOutput echo none 6 (7 ∷ []) (Some []) (record {
  input = Some [];
  output = Some (97 ∷ []);
  faults = 1;
})
answered = record {
  steps = 4;
  fewer = omega arith;
  running = refl;
  asking = tt;
  moved = record {
    written = refl;
    left = refl;
  };
}

-- ---- machine faults

-- MOV R0, 97: the word after it is not in the image
abbrev falling : Image
falling = record { global = 0; code = 0x40000061 ∷ []; frames = []; objects = []; traps = []; calls = None }

-- MOV R6, -64; ST R0, R6, 4: stops with a link that the trap table, which is empty, doesn't have
abbrev stopping : Image
stopping = record {
  global = 0;
  code = 0x5600FFC0 ∷ 0xA0600004 ∷ [];
  frames = [];
  objects = [];
  traps = [];
  calls = None;
}

falls : image_outcome falling 0 0 [] 2 ≡ ([], ending.Fault ending.BadJump)
falls = refl

stops : image_outcome stopping 0 0 [] 2 ≡ ([], ending.Fault ending.UnknownTrap)
stops = refl

-- a run of such an image is reported as a fault
told_as_fault : Ends stopping none 2 [] (Some []) (record {
  input = Some [];
  output = Some [];
  faults = 0;
}) (Fault fault.UnknownTrap)
told_as_fault = record { moved = record { written = refl; left = refl }; ending = refl }

module _ (never_faults : NeverFaults) (text bytes : List ℕ) (are : AreBytes text) (compiles : Compiles text bytes) where
  unbuilt : (image : Image) (kind : ending.FaultKind) → IsBudget image 0 0 → (image_outcome image 0 0 [] 2).1
      ≡ ending.Fault kind → compiles.image ≡ image → ⊥
  unbuilt image kind budget e same =
      never_faults text bytes are compiles 0 0 (subst (λ i. IsBudget i 0 0) (sym same) budget) []
      (λ k d lt. absurd (omega (arith, lt))) 2 kind
      (subst (λ i. (image_outcome i 0 0 [] 2).1 ≡ ending.Fault kind) (sym same) e)

  -- no text has such an image
  never_falls : compiles.image ≡ falling → ⊥
  never_falls = unbuilt falling ending.BadJump (record { heap_even = refl; stack_even = refl; fits = omega arith }) refl

  never_stops : compiles.image ≡ stopping → ⊥
  never_stops = unbuilt stopping ending.UnknownTrap (record {
    heap_even = refl;
    stack_even = refl;
    fits = omega arith;
  }) refl

-- ---- costs

-- a program block without variables and statements
abbrev smallest : Program
smallest = record { routines = no_routine ∷ []; domains = [] }

no_cells : routine_cells (routine_at smallest 0) ≡ 0
unfolding routine_extent formals_extent result_extent variables_extent statements_extent
no_cells = refl

no_nodes : routine_nodes (routine_at smallest 0) ≡ 0
unfolding routine_extent formals_extent result_extent variables_extent statements_extent
no_nodes = refl

-- its frame may not be charged with all of memory, which would stop every run for stack
all_of_memory : Bounded smallest (MAX_MEMORY ∷ []) [] → ⊥
all_of_memory b = let h = (b.frames 0 (omega arith)).1 in absurd (omega (arith, h, no_cells, no_nodes))
