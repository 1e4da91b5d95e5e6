-- The start: the program block entered, before its first instruction.
use Rattle.std.proofs.Common.{◌≡◌, ℕ, ◌+◌, ◌/◌, ◌≤◌, List, [], Some, slice_get, refl, sym, ◌∙◌, arith}
use Rattle.tac_code.specs.declared.code.Value.{Value}
use Rattle.tac_code.specs.declared.code.TacRoutine.{TacRoutine}
use Rattle.tac_code.specs.Meaning.{routines, unwritten, entered}
use Rattle.tac_code.specs.Run.{before}
use Rattle.risc_emit_relation.specs.Context.{Context, cost, IsLaid}
use Rattle.risc_emit_relation.specs.Related.{Own, Objects, Machine, Related, started_places, Starting}
use Rattle.risc_emit_relation.proofs.Frames.{program_room, cost_program}
use Rattle.risc_emit_relation.proofs.Calls.{unwritten_nothing, length_unwritten}

module _ (c : Context) (laid : IsLaid c) where
  no_value : (t : ℕ) (x : Value) → slice_get [] t ≡ Some x → ⊥
  no_value t x e = cc e

  no_object : (w : ℕ → ℕ) (next : ℕ) → Objects c (started_places c) w [] next
  no_object w next =
      record {
        count = refl;
        each = λ n ws e. absurd (cc e);
        rise = λ m n ws vs lt e e'. absurd (cc e);
      }

  first_own : (w : ℕ → ℕ) (routine : TacRoutine) → slice_get (routines c.code) 0 ≡ Some routine → w (c.bottom + 4)
      ≡ c.bottom + cost c 0 → Own c (started_places c) w c.bottom (record {
        routine = 0;
        number = 0;
        result = 0;
        line = 0;
      }) (record {
        number = 0;
        words = unwritten routine.frame;
      }) (record {
        number = 0;
        words = unwritten routine.scratch;
      })
  first_own w routine is back =
      let lf = laid.frame 0 routine is in
      let ls = laid.scratch 0 routine is in
      record {
        routine = routine;
        is = is;
        frame_number = refl;
        scratch_number = refl;
        named = omega arith;
        frame_place = refl;
        scratch_place = refl;
        frame_length = let l = length_unwritten (routine.frame / 4) in omega (arith, l, lf.0);
        scratch_length = let l = length_unwritten (routine.scratch / 4) in omega (arith, l, ls.0);
        frame = λ i x e. absurd (unwritten_nothing (routine.frame / 4) i x e);
        scratch = λ i x e. absurd (unwritten_nothing (routine.scratch / 4) i x e);
        back = λ e. back;
      }

  pub related_starts : (G : ℕ → ℕ) (S H : ℕ) (input : List ℕ) (m : Machine) (routine : TacRoutine) → slice_get
      (routines c.code) 0 ≡ Some routine → c.base ≤ c.bottom → Starting c m → Related c (started_places c)
      (entered c.code c.costs G S H routine 0 [] 0 0 [] (before input)) m c.bottom
  related_starts G S H input m routine is room h =
      let k = cost_program c 0 laid.first in
      let q = program_room c laid (started_places c) 0 laid.first in
      let whole = laid.whole 0 in
      let top : c.bottom + cost c 0 ≡ c.size = omega (arith, k, laid.bottom) in
      record {
        stack = h.stack;
        globals = h.globals;
        held = record {
          aligned = omega (arith, laid.bottom, whole, laid.even.2);
          low = room;
          frames = (
            first_own m.words routine is (h.back ∙ sym top),
            record {
              routine = refl;
              number = refl;
              top = top;
              unlinked = h.link;
            },
            refl,
            refl,
          );
          objects = no_object m.words _;
          limit = h.limit;
          next = h.next ∙ plus_zero c.heap_at;
          room = omega (arith, laid.order.1);
          whole = refl;
          count = refl;
          some = omega arith;
          program = refl;
          places = record {
            frame = λ a. omega (arith, q.2, q.3, q.4, top, laid.order.3);
            scratch = λ a. omega (arith, q.3, q.4, top, laid.order.3);
            object = λ n. omega (arith, laid.order.1, laid.order.2, laid.order.3);
          };
        };
        homes = λ u x live e. absurd (no_value u x e);
      }
    where
      plus_zero : (n : ℕ) → n ≡ n + 0
      plus_zero n = omega arith
