-- Runs of the machine: straight lines, branches, bytes put and taken, and stops.
use Rattle.std.proofs.Common.{◌≡◌, ℕ, suc, ◌+◌, ◌-◌, ◌*◌, ◌/◌, ◌%◌, ◌^◌, ◌<◌, ◌≤◌, Bool, true, false, cond, not, leb}
use Rattle.std.proofs.Common.{List, [], ◌∷◌, ◌++◌, length, Some, None, pos, refl, sym, ap, ◌∙◌, subst, arith, lit≤}
use Rattle.risc_word.specs.declared.instr.Operation.{Operation}
use Rattle.risc_word.specs.declared.instr.Operation.TheVariants.{Lsl}
use Rattle.risc_word.specs.declared.instr.Condition.{Condition}
use Rattle.risc_word.specs.declared.instr.Condition.TheVariants.{Minus, Equal, CarrySet, OverflowSet, Less, LessEqual}
use Rattle.risc_word.specs.declared.instr.Condition.TheVariants.{Always, Plus, NotEqual, CarryClear, OverflowClear}
use Rattle.risc_word.specs.declared.instr.Condition.TheVariants.{GreaterEqual, Greater, Never}
use Rattle.risc_word.specs.declared.instr.Width.TheVariants.{Word, Byte}
use Rattle.risc_word.specs.declared.instr.Target.{Target}
use Rattle.risc_word.specs.declared.instr.Target.TheVariants.{Relative, Absolute}
use Rattle.risc_word.specs.declared.instr.Instr.{Instr}
use Rattle.risc_word.specs.declared.instr.Instr.TheVariants.{Move, MoveTop, MoveHigh, Operate, Load, Store, Branch}
use Rattle.risc_word.specs.Words.{IsTarget}
use Rattle.risc_machine.specs.Step.{State, Goes, Takes, Puts, Stops, word_of_int, next, with_result, holds, target_of}
use Rattle.risc_machine.specs.Step.{goes_to, linked, address, load_word, store_word, taken, act}
use Rattle.risc_machine.specs.Exec.{Tape, told, take_end, take_tape, perform, exec}
use Rattle.risc_machine.specs.declared.limits.TheConstants.{ADDRESSES, MAX_MEMORY, PLACES}
use Rattle.risc_machine_laws.specs.View.{View, Fits, IsAt, HasAt, Shows, result_view, at_view, operand_view}
use Rattle.risc_machine_laws.specs.View.{operated_view, after, line, Plain, AllPlain, holds_view, target_view}
use Rattle.risc_machine_laws.specs.View.{link_view}
use Rattle.risc_machine_laws.specs.Runs.{To, Way, StopsWith, Ends, TakesTo, same_tape}
use Rattle.risc_machine_laws.proofs.View.{Steps, step_plain, act_here, place_within, shows_result}

module _ (code : List ℕ) (size : ℕ) where
  -- a run that goes on where another got to
  pub to_then : (m : State) (f : Tape → Tape) (v w : View) → To code size m same_tape v
      → ((n : State) → Shows code size n v → To code size n f w) → To code size m f w
  to_then m f v w a b =
      let c = b a.to a.shows in
      record {
        to = c.to;
        shows = c.shows;
        runs = λ k p. let x = c.runs k p in let y = a.runs x.0 p in (y.0, omega (arith, x.1, y.1), y.2 ∙ x.2);
      }

  -- the same for two runs that both change the tape
  pub to_join : (m : State) (f g : Tape → Tape) (v w : View) (a : To code size m f v) → To code size a.to g w
      → To code size m (λ p. g (f p)) w
  to_join m f g v w a c =
      record {
        to = c.to;
        shows = c.shows;
        runs = λ k p. let x = c.runs k (f p) in let y = a.runs x.0 p in (y.0, omega (arith, x.1, y.1), y.2 ∙ x.2);
      }

  pub to_stop : (m : State) (v : View) (w : ℕ) (u : View) → To code size m same_tape v
      → ((n : State) → Shows code size n v → StopsWith code size n w u) → StopsWith code size m w u
  to_stop m v w u a b =
      let c = b a.to a.shows in
      record {
        at = c.at;
        shows = c.shows;
        by = λ k p. let x = c.by k p in let y = a.runs x.0 p in (y.0, omega (arith, x.1, y.1), y.2 ∙ x.2);
      }

  -- what is written until the machine stops
  pub stop_ends : (m : State) (w : ℕ) (u : View) → StopsWith code size m w u → Ends code size m same_tape w u
  stop_ends m w u s = record { at = s.at; shows = s.shows; by = s.by }

  pub ends_after : (m : State) (f g : Tape → Tape) (v : View) (w : ℕ) (u : View) (a : To code size m f v)
      → Ends code size a.to g w u → Ends code size m (λ p. g (f p)) w u
  ends_after m f g v w u a e =
      record {
        at = e.at;
        shows = e.shows;
        by = λ k p. let x = e.by k (f p) in let y = a.runs x.0 p in (y.0, omega (arith, x.1, y.1), y.2 ∙ x.2);
      }

  -- a statement on states that holds for each state from which the machine reaches one where it holds
  abbrev pub IsBackward : (State → Type 0) → Type 0
  IsBackward P = (m n : State) → ((k : ℕ) (p : Tape) → (j : ℕ) × (k < j) × (exec j m p ≡ exec k n p)) → P n → P m

  pub follows_after : (P : State → Type 0) → IsBackward P → (m : State) (v : View) (x : To code size m same_tape v)
      → P x.to → P m
  follows_after P back m v x h = back m x.to x.runs h

  pub to_backward : (f : Tape → Tape) (v : View) → IsBackward (λ m. To code size m f v)
  to_backward f v m n runs c =
      record {
        to = c.to;
        shows = c.shows;
        runs = λ k p. let x = c.runs k p in let y = runs x.0 p in (y.0, omega (arith, x.1, y.1), y.2 ∙ x.2);
      }

  pub stop_backward : (w : ℕ) (u : View) → IsBackward (λ m. StopsWith code size m w u)
  stop_backward w u m n runs c =
      record {
        at = c.at;
        shows = c.shows;
        by = λ k p. let x = c.by k p in let y = runs x.0 p in (y.0, omega (arith, x.1, y.1), y.2 ∙ x.2);
      }

  -- ---- runs of no step or more

  -- the machine as it is
  pub way_here : (m : State) (v : View) → Shows code size m v → Way code size m same_tape v
  way_here m v s = record { to = m; shows = s; runs = λ k p. (k, omega arith, refl) }

  pub way_of : (m : State) (f : Tape → Tape) (v : View) → To code size m f v → Way code size m f v
  way_of m f v a =
      record { to = a.to; shows = a.shows; runs = λ k p. let x = a.runs k p in (x.0, omega (arith, x.1), x.2) }

  -- a way that goes on where another got to, and one that takes a step before or after it
  pub way_then : (m : State) (f g : Tape → Tape) (v w : View) (a : Way code size m f v) → Way code size a.to g w
      → Way code size m (λ p. g (f p)) w
  way_then m f g v w a c =
      record {
        to = c.to;
        shows = c.shows;
        runs = λ k p. let x = c.runs k (f p) in let y = a.runs x.0 p in (y.0, omega (arith, x.1, y.1), y.2 ∙ x.2);
      }

  pub way_to : (m : State) (f g : Tape → Tape) (v w : View) (a : Way code size m f v) → To code size a.to g w
      → To code size m (λ p. g (f p)) w
  way_to m f g v w a c =
      record {
        to = c.to;
        shows = c.shows;
        runs = λ k p. let x = c.runs k (f p) in let y = a.runs x.0 p in (y.0, omega (arith, x.1, y.1), y.2 ∙ x.2);
      }

  pub to_way : (m : State) (f g : Tape → Tape) (v w : View) (a : To code size m f v) → Way code size a.to g w
      → To code size m (λ p. g (f p)) w
  to_way m f g v w a c =
      record {
        to = c.to;
        shows = c.shows;
        runs = λ k p. let x = c.runs k (f p) in let y = a.runs x.0 p in (y.0, omega (arith, x.1, y.1), y.2 ∙ x.2);
      }

  -- a statement on states that holds for each state with a way to one where it holds
  abbrev pub IsBackwardByWay : (State → Type 0) → Type 0
  IsBackwardByWay P = (m n : State) → ((k : ℕ) (p : Tape) → (j : ℕ) × (k ≤ j) × (exec j m p ≡ exec k n p)) → P n → P m

  pub way_backward : (f : Tape → Tape) (v : View) → IsBackwardByWay (λ m. Way code size m f v)
  way_backward f v m n runs c =
      record {
        to = c.to;
        shows = c.shows;
        runs = λ k p. let x = c.runs k p in let y = runs x.0 p in (y.0, omega (arith, x.1, y.1), y.2 ∙ x.2);
      }

  pub to_backward_by_way : (f : Tape → Tape) (v : View) → IsBackwardByWay (λ m. To code size m f v)
  to_backward_by_way f v m n runs c =
      record {
        to = c.to;
        shows = c.shows;
        runs = λ k p. let x = c.runs k p in let y = runs x.0 p in (y.0, omega (arith, x.1, y.1), y.2 ∙ x.2);
      }

  pub stop_backward_by_way : (w : ℕ) (u : View) → IsBackwardByWay (λ m. StopsWith code size m w u)
  stop_backward_by_way w u m n runs c =
      record {
        at = c.at;
        shows = c.shows;
        by = λ k p. let x = c.by k p in let y = runs x.0 p in (y.0, omega (arith, x.1, y.1), y.2 ∙ x.2);
      }

  pub ends_backward_by_way : (f : Tape → Tape) (w : ℕ) (u : View) → IsBackwardByWay (λ m. Ends code size m f w u)
  ends_backward_by_way f w u m n runs c =
      record {
        at = c.at;
        shows = c.shows;
        by = λ k p. let x = c.by k p in let y = runs x.0 p in (y.0, omega (arith, x.1, y.1), y.2 ∙ x.2);
      }

  -- a step
  pub to_step : (m : State) (v : View) → Steps code size m v → To code size m same_tape v
  to_step m v s =
      record {
        to = s.to;
        shows = s.shows;
        runs = λ k p. (suc k, omega arith, ap (λ a. perform a (exec k) p) s.goes);
      }

-- what a load from the device page takes: the next byte, with the mark in the transcript, or the end, with its mark the
-- first time
pub takes_byte : (code : List ℕ) (size : ℕ) (m : State) (a : ℕ) (v : View) (x : TakesTo code size m a v) (p : Tape)
    (b : ℕ) (bs : List ℕ) → p.input ≡ b ∷ bs → (k : ℕ) → (j : ℕ) × (k < j)
    × (exec j m p ≡ exec k (x.to (Some b)) (record {
      input = bs;
      ended = p.ended;
      transcript = p.transcript ++ 256 ∷ [];
    }))
takes_byte code size m a v x p b bs e k =
    let r = x.runs k p in
    (r.0, r.1, r.2 ∙ ap (λ i. exec k (x.to (take_tape i p).0) (take_tape i p).1) e)

pub takes_end : (code : List ℕ) (size : ℕ) (m : State) (a : ℕ) (v : View) (x : TakesTo code size m a v) (p : Tape)
    → p.input ≡ [] → (k : ℕ) → (j : ℕ) × (k < j) × (exec j m p ≡ exec k (x.to None) (take_end p.ended p))
takes_end code size m a v x p e k =
    let r = x.runs k p in
    (r.0, r.1, r.2 ∙ ap (λ i. exec k (x.to (take_tape i p).0) (take_tape i p).1) e)

-- the same under an equal view
pub to_eq : (code : List ℕ) (size : ℕ) (m : State) (f : Tape → Tape) (v w : View) → v ≡ w → To code size m f v
    → To code size m f w
to_eq code size m f v w e t = subst (λ x. To code size m f x) e t

module _ (code : List ℕ) (size : ℕ) (fits : Fits code size) where
  -- one plain instruction
  pub plain_to : (i : Instr) (m : State) (v : View) → Shows code size m v → Plain code size i v → IsAt code v.place i
      → To code size m same_tape (after i v)
  plain_to i m v s p at = to_step code size m (after i v) (step_plain code size fits i m v s p at)

  -- it leaves the machine at the next place
  after_place : (i : Instr) (v : View) → Plain code size i v → (after i v).place ≡ v.place + 1
  after_place (Move a n) v p = refl
  after_place (MoveTop a n) v p = refl
  after_place (MoveHigh a) v p = refl
  after_place (Operate op a b n) v p = operated_place op
    where
      operated_place : (op : Operation) → (operated_view op a (v.registers b) (operand_view v n) v).place ≡ v.place + 1
      operated_place Lsl = refl
      operated_place _ = refl
  after_place (Load Word a b off) v p = refl
  after_place (Load Byte a b off) v p = refl
  after_place (Store Word a b off) v p = refl
  after_place (Store Byte a b off) v p = refl
  after_place (Branch condition link target) v p = absurd p

  -- a straight line of one plain instruction or more
  pub line_to : (i : Instr) (is : List Instr) (m : State) (v : View) → Shows code size m v → AllPlain code size
      (i ∷ is) v → HasAt code v.place (i ∷ is) → To code size m same_tape (line (i ∷ is) v)
  line_to i [] m v s p at = plain_to i m v s p.0 at.0
  line_to i (j ∷ js) m v s p at =
      to_then code size m same_tape (after i v) (line (i ∷ j ∷ js) v) (plain_to i m v s p.0 at.0)
      (λ n sn. line_to j js n (after i v) sn p.1
      (subst (λ x. HasAt code x (j ∷ js)) (sym (after_place i v p.0)) at.1))

  -- a straight line of any number of plain instructions
  pub way_line : (is : List Instr) (m : State) (v : View) → Shows code size m v → AllPlain code size is v
      → HasAt code v.place is → Way code size m same_tape (line is v)
  way_line [] m v s p at = way_here code size m v s
  way_line (i ∷ is) m v s p at = way_of code size m same_tape (line (i ∷ is) v) (line_to i is m v s p at)

  holds_is : (m : State) (v : View) (c : Condition) → Shows code size m v → holds m c ≡ holds_view v c
  holds_is m v Minus s = s.negative
  holds_is m v Equal s = s.equal
  holds_is m v CarrySet s = s.carry
  holds_is m v OverflowSet s = s.overflow
  holds_is m v Less s = rw (s.negative, s.overflow)
  holds_is m v LessEqual s = rw (s.negative, s.overflow, s.equal)
  holds_is m v Always s = refl
  holds_is m v Plus s = ap not s.negative
  holds_is m v NotEqual s = ap not s.equal
  holds_is m v CarryClear s = ap not s.carry
  holds_is m v OverflowClear s = ap not s.overflow
  holds_is m v GreaterEqual s = rw (s.negative, s.overflow)
  holds_is m v Greater s = rw (s.negative, s.overflow, s.equal)
  holds_is m v Never s = refl

  target_is : (m : State) (v : View) (t : Target) → Shows code size m v → IsTarget t → target_of m t ≡ target_view v t
  target_is m v (Relative d) s r = ap (λ p. (p + 1 + word_of_int d) % PLACES) s.place
  target_is m v (Absolute c) s r = ap (λ w. w % ADDRESSES / 4) (s.registers c r)

  -- the state at another place
  shows_at : (m : State) (v : View) (p : ℕ) → Shows code size m v → Shows code size (goes_to p m) (at_view p v)
  shows_at m v p s =
      record {
        registers = s.registers;
        count = s.count;
        narrow = s.narrow;
        high = s.high;
        high_narrow = s.high_narrow;
        negative = s.negative;
        equal = s.equal;
        carry = s.carry;
        overflow = s.overflow;
        place = refl;
        extent = s.extent;
        bytes = s.bytes;
        words = s.words;
        stands = s.stands;
      }

  next_place : (m : State) (v : View) (i : Instr) → Shows code size m v → IsAt code v.place i → (m.pc + 1) % PLACES
      ≡ v.place + 1
  next_place m v i s at = let lt = place_within code size fits v i at in omega (arith, s.place, fits.room, fits.top)

  pub branch_taken : (c : Condition) (link : Bool) (t : Target) (m : State) (v : View) → Shows code size m v
      → IsAt code v.place (Branch c link t) → holds_view v c ≡ true → To code size m same_tape
      (at_view (target_view v t) (link_view link v))
  branch_taken c false t m v s at e =
      to_step code size m _ (record {
        to = goes_to (target_view v t) m;
        goes = act_here code size fits m v _ s at ∙ ap (λ b. cond b (Goes (goes_to (target_of m t) m)) (Goes (next m)))
            (holds_is m v c s ∙ e) ∙ ap (λ p. Goes (goes_to p m)) (target_is m v t s at.ranges);
        shows = shows_at m v (target_view v t) s;
      })
  branch_taken c true t m v s at e =
      let lt = place_within code size fits v _ at in
      let w = 4 * (v.place + 1) in
      let l = shows_result code size fits m v 15 w s (omega arith) (omega (arith, fits.room, fits.top)) lt in
      to_step code size m _ (record {
        to = goes_to (target_view v t) (with_result 15 w m);
        goes = act_here code size fits m v _ s at
            ∙ ap (λ b. cond b (Goes (goes_to (target_of m t) (linked true m))) (Goes (next m))) (holds_is m v c s ∙ e)
            ∙ ap (λ p. Goes (goes_to p (with_result 15 (4 * (m.pc + 1)) m))) (target_is m v t s at.ranges)
            ∙ ap (λ p. Goes (goes_to (target_view v t) (with_result 15 (4 * (p + 1)) m))) s.place;
        shows = shows_at (next (with_result 15 w m)) (result_view 15 w v) (target_view v t) l;
      })

  pub branch_passed : (c : Condition) (link : Bool) (t : Target) (m : State) (v : View) → Shows code size m v
      → IsAt code v.place (Branch c link t) → holds_view v c ≡ false → To code size m same_tape
      (at_view (v.place + 1) v)
  branch_passed c link t m v s at e =
      let p = next_place m v _ s at in
      to_step code size m _ (record {
        to = goes_to (v.place + 1) m;
        goes = act_here code size fits m v _ s at
            ∙ ap (λ b. cond b (Goes (goes_to (target_of m t) (linked link m))) (Goes (next m))) (holds_is m v c s ∙ e)
            ∙ ap (λ q. Goes (goes_to q m)) p;
        shows = shows_at m v (v.place + 1) s;
      })

  -- ---- the device page
  past : (n at : ℕ) → n ≤ MAX_MEMORY → MAX_MEMORY ≤ at → leb (at + 4) n ≡ false
  past n at h k = grind arith

  takes_device : (a : ℕ) (m : State) → length m.memory ≤ MAX_MEMORY → load_word a 16777160 m ≡ Takes a (next m)
  takes_device a m h = rw (past (length m.memory) 16777160 h (lit≤ tt))

  puts_device : (w : ℕ) (m : State) → length m.memory ≤ MAX_MEMORY → store_word w 16777160 m ≡ Puts (w % 256) (next m)
  puts_device w m h = rw (past (length m.memory) 16777160 h (lit≤ tt))

  stops_device : (w : ℕ) (m : State) → length m.memory ≤ MAX_MEMORY → store_word w 16777156 m ≡ Stops w (next m)
  stops_device w m h = rw (past (length m.memory) 16777156 h (lit≤ tt))

  short : (m : State) (v : View) → Shows code size m v → length m.memory ≤ MAX_MEMORY
  short m v s = omega (arith, s.extent, fits.top)

  -- a byte is put: R b holds the base of the device page
  pub put_to : (a b : ℕ) (m : State) (v : View) → Shows code size m v → IsAt code v.place (Store Word a b (pos 8))
      → v.registers b ≡ 4294967232 → To code size m (told (v.registers a % 256)) (at_view (v.place + 1) v)
  put_to a b m v s at e =
      let r = at.ranges in
      let p = next_place m v _ s at in
      let goes : act m ≡ Puts (v.registers a % 256) (goes_to (v.place + 1) m) =
      act_here code size fits m v _ s at
      ∙ ap (λ w. store_word w (address m b (pos 8)) m) (s.registers a r.0)
      ∙ ap (λ w. store_word (v.registers a) ((w + 8) % ADDRESSES) m) (s.registers b r.1 ∙ e)
      ∙ puts_device (v.registers a) m (short m v s)
      ∙ ap (λ q. Puts (v.registers a % 256) (goes_to q m)) p in
      record {
        to = goes_to (v.place + 1) m;
        shows = shows_at m v (v.place + 1) s;
        runs = λ k q. (suc k, omega arith, ap (λ x. perform x (exec k) q) goes);
      }

  -- a byte, or the end of the input, is taken: R b holds the base of the device page
  pub take_to : (a b : ℕ) (m : State) (v : View) → Shows code size m v → IsAt code v.place (Load Word a b (pos 8))
      → v.registers b ≡ 4294967232 → TakesTo code size m a v
  take_to a b m v s at e =
      let r = at.ranges in
      let lt = place_within code size fits v _ at in
      let goes : act m ≡ Takes a (next m) =
      act_here code size fits m v _ s at
      ∙ ap (λ w. load_word a ((w + 8) % ADDRESSES) m) (s.registers b r.1 ∙ e)
      ∙ takes_device a m (short m v s) in
      record {
        to = λ o. taken a o (next m);
        byte = λ x h. shows_result code size fits m v a x s r.0 (omega (arith, h)) lt;
        end = shows_result code size fits m v a (2 ^ 32 - 1) s r.0 (omega arith) lt;
        runs = λ k q. (suc k, omega arith, ap (λ x. perform x (exec k) q) goes);
      }

  -- the end of a run: R b holds the base of the device page
  pub stop_at : (a b : ℕ) (m : State) (v : View) → Shows code size m v → IsAt code v.place (Store Word a b (pos 4))
      → v.registers b ≡ 4294967232 → StopsWith code size m (v.registers a) (at_view (v.place + 1) v)
  stop_at a b m v s at e =
      let r = at.ranges in
      let goes : act m ≡ Stops (v.registers a) (goes_to (v.place + 1) m) =
      act_here code size fits m v _ s at
      ∙ ap (λ w. store_word w (address m b (pos 4)) m) (s.registers a r.0)
      ∙ ap (λ w. store_word (v.registers a) ((w + 4) % ADDRESSES) m) (s.registers b r.1 ∙ e)
      ∙ stops_device (v.registers a) m (short m v s)
      ∙ ap (λ q. Stops (v.registers a) (goes_to q m)) (next_place m v _ s at) in
      record {
        at = goes_to (v.place + 1) m;
        shows = shows_at m v (v.place + 1) s;
        by = λ k q. (suc k, omega arith, ap (λ x. perform x (exec k) q) goes);
      }
