-- Runs of the idioms: constants, and words of a frame.
use Rattle.std.proofs.Common.{◌≡◌, ◌≢◌, ℕ, ◌+◌, ◌*◌, ◌/◌, ◌%◌, ◌^◌, ◌<◌, ◌≤◌, Bool, true, false, cond, nat_eq, nat_le}
use Rattle.std.proofs.Common.{List, [], ◌∷◌, ◌++◌, length, ℤ, pos, refl, sym, ap, ◌∙◌, subst, arith}
use Rattle.std.proofs.lemmas.Int.{ints}
use Rattle.risc_word.specs.declared.instr.Operation.TheVariants as op
use Rattle.risc_word.specs.declared.instr.Operand.TheVariants.{Content, Constant}
use Rattle.risc_word.specs.declared.instr.Width.TheVariants.{Word}
use Rattle.risc_word.specs.declared.instr.Instr.{Instr}
use Rattle.risc_word.specs.declared.instr.Instr.TheVariants as word
use Rattle.risc_machine.specs.Step as machine
use Rattle.risc_machine.specs.Step.{word_of_int}
use Rattle.risc_machine.specs.declared.limits.TheConstants.{SIGN_BIT}
use Rattle.risc_machine_laws.specs.View.{View, IsAt, Shows, IsReadable, IsWritable, after}
use Rattle.risc_machine_laws.specs.View as shown
use Rattle.risc_machine_laws.specs.Runs.{To, same_tape}
use Rattle.risc_machine_laws.proofs.Runs.{plain_to, to_join}
use Rattle.risc_machine_laws.proofs.Numbers.{word_narrow}
use Rattle.risc_alloc.specs.declared.homes.Home.TheVariants.{Slot}
use Rattle.risc_emit_relation.specs.Context.{Context, home, slot_at, IsNumber}
use Rattle.risc_emit_relation.specs.Related.{Machine}
use Rattle.risc_emit_relation.specs.Changes.{update}
use Rattle.risc_emit_relation.proofs.Basics.{update_same, update_other}
use Rattle.risc_emit_forms.specs.Pieces.{Piece, Plain, Left}
use Rattle.risc_emit_forms.specs.Forms.{is_near, is_small, constant, exact, number, load, store}
use Rattle.risc_emit_forms.specs.Follows.{Stood}
use Rattle.risc_emit_forms.proofs.Basics.{left_after}

-- one register took a word, the flags aside
pub record Moved (d : ℕ) (v v' : View) : Type 0 where
  pub registers : (q : ℕ) → q ≢ d → v'.registers q ≡ v.registers q
  pub words : (a : ℕ) → v'.words a ≡ v.words a
  pub high : v'.high ≡ v.high

module _ (c : Context) (words : List ℕ) (stood : Stood c words) where
  -- in one step or more register d takes a word
  pub record Gets (d n len : ℕ) (m : machine.State) (v : View) : Type 0 where
    pub view : View
    pub to : To words c.size m same_tape view
    pub value : view.registers d ≡ n
    pub moved : Moved d v view
    pub zero : view.equal ≡ nat_eq n 0
    pub minus : view.negative ≡ nat_le SIGN_BIT n
    pub place : view.place ≡ v.place + len

  pub step_to : (i : Instr) (m : machine.State) (v : View) → Shows words c.size m v → IsAt words v.place i
      → shown.Plain words c.size i v → To words c.size m same_tape (after i v)
  step_to i m v sh at ok = plain_to words c.size stood.fits i m v sh ok at

  two : (m : machine.State) (v w : View) (a : To words c.size m same_tape v) → To words c.size a.to same_tape w
      → To words c.size m same_tape w
  two m v w a b = to_join words c.size m same_tape same_tape v w a b

  pub constant_run : (d w : ℕ) (ps : List Piece) (next : ℕ) (m : machine.State) (v : View) → Shows words c.size m v
      → w < 2 ^ 32 → Left c words v.place (constant d w ++ ps) next → Gets d w 2 m v
  constant_run d w ps next m v sh lt l =
      let i1 = word.MoveTop d (w / 65536 % 65536) in
      let i2 = word.Operate op.Add d d (Constant (pos (w % 65536))) in
      let t1 = step_to i1 m v sh l.stands.0 tt in
      let v1 = after i1 v in
      let t2 = step_to i2 t1.to v1 t1.shows l.stands.2.0 tt in
      let v2 = after i2 v1 in
      let top : v1.registers d ≡ w / 65536 % 65536 * 65536 = update_same v.registers d _ in
      record {
        view = v2;
        to = two m v1 v2 t1 t2;
        value = update_same v1.registers d _ ∙ ap (λ x. (x + word_of_int (pos (w % 65536)) + 0) % 2 ^ 32) top
            ∙ sum w lt;
        zero = ap (λ x. nat_eq x 0) (ap (λ x. (x + word_of_int (pos (w % 65536)) + 0) % 2 ^ 32) top ∙ sum w lt);
        minus = ap (nat_le SIGN_BIT) (ap (λ x. (x + word_of_int (pos (w % 65536)) + 0) % 2 ^ 32) top ∙ sum w lt);
        moved = record {
          registers = λ q ne. update_other v1.registers d _ q ne ∙ update_other v.registers d _ q ne;
          words = λ a. refl;
          high = refl;
        };
        place = omega arith;
      }
    where
      sum : (w : ℕ) → w < 2 ^ 32 → (w / 65536 % 65536 * 65536 + word_of_int (pos (w % 65536)) + 0) % 2 ^ 32 ≡ w
      sum w lt = omega (arith, ints)

  pub exact_run : (d w : ℕ) (ps : List Piece) (next : ℕ) (m : machine.State) (v : View) → Shows words c.size m v
      → w < 2 ^ 32 → Left c words v.place (exact d w ++ ps) next → Gets d w 2 m v
  exact_run d w ps next m v sh lt l =
      let i1 = word.MoveTop d (w / 65536) in
      let i2 = word.Operate op.Add d d (Constant (pos (w % 65536))) in
      let t1 = step_to i1 m v sh l.stands.0 tt in
      let v1 = after i1 v in
      let t2 = step_to i2 t1.to v1 t1.shows l.stands.2.0 tt in
      let v2 = after i2 v1 in
      let top : v1.registers d ≡ w / 65536 * 65536 = update_same v.registers d _ in
      record {
        view = v2;
        to = two m v1 v2 t1 t2;
        value = update_same v1.registers d _ ∙ ap (λ x. (x + word_of_int (pos (w % 65536)) + 0) % 2 ^ 32) top
            ∙ sum w lt;
        zero = ap (λ x. nat_eq x 0) (ap (λ x. (x + word_of_int (pos (w % 65536)) + 0) % 2 ^ 32) top ∙ sum w lt);
        minus = ap (nat_le SIGN_BIT) (ap (λ x. (x + word_of_int (pos (w % 65536)) + 0) % 2 ^ 32) top ∙ sum w lt);
        moved = record {
          registers = λ q ne. update_other v1.registers d _ q ne ∙ update_other v.registers d _ q ne;
          words = λ a. refl;
          high = refl;
        };
        place = omega arith;
      }
    where
      sum : (w : ℕ) → w < 2 ^ 32 → (w / 65536 * 65536 + word_of_int (pos (w % 65536)) + 0) % 2 ^ 32 ≡ w
      sum w lt = omega (arith, ints)

  -- a number's word
  pub number_run : (d : ℕ) (z : ℤ) (ps : List Piece) (next : ℕ) (m : machine.State) (v : View) → Shows words c.size m v
      → IsNumber z → Left c words v.place (number d z ++ ps) next → Gets d (word_of_int z) (length (number d z)) m v
  number_run d z ps next m v sh is l = go (is_small z) l
    where
      go : (small : Bool) → Left c words v.place
          (cond small (Plain (word.Move d (Constant z)) ∷ []) (constant d (word_of_int z)) ++ ps) next → Gets d
          (word_of_int z) (length (cond small (Plain (word.Move d (Constant z)) ∷ []) (constant d (word_of_int z)))) m v
      go true l =
          let i = word.Move d (Constant z) in
          record {
            view = after i v;
            to = step_to i m v sh l.stands.0 tt;
            value = update_same v.registers d _;
            moved = record { registers = λ q ne. update_other v.registers d _ q ne; words = λ a. refl; high = refl };
            zero = refl;
            minus = refl;
            place = refl;
          }
      go false l = constant_run d (word_of_int z) ps next m v sh (word_narrow z is) l

  -- ---- words of a frame

  pub load_run : (d b n : ℕ) (ps : List Piece) (next : ℕ) (m : machine.State) (v : View) → Shows words c.size m v
      → b ≢ d → IsReadable c.size (v.registers b + n) → Left c words v.place (load d b n ++ ps) next → Gets d
      (v.words (v.registers b + n)) (length (load d b n)) m v
  load_run d b n ps next m v sh ne ok l = go (is_near n) l
    where
      go : (close : Bool) → Left c words v.place
          (cond close (Plain (word.Load Word d b (pos n)) ∷ [])
          (constant d n ++ (Plain (word.Operate op.Add d d (Content b)) ∷ Plain (word.Load Word d d (pos 0)) ∷ []))
          ++ ps) next → Gets d (v.words (v.registers b + n))
          (length (cond close (Plain (word.Load Word d b (pos n)) ∷ [])
          (constant d n ++ (Plain (word.Operate op.Add d d (Content b)) ∷ Plain (word.Load Word d d (pos 0)) ∷ [])))) m
          v
      go true l =
          let i = word.Load Word d b (pos n) in
          record {
            view = after i v;
            to = step_to i m v sh l.stands.0 (tt, ok);
            value = update_same v.registers d _;
            moved = record { registers = λ q ne. update_other v.registers d _ q ne; words = λ a. refl; high = refl };
            zero = refl;
            minus = refl;
            place = refl;
          }
      go false l =
          let i1 = word.Operate op.Add d d (Content b) in
          let i2 = word.Load Word d d (pos 0) in
          let g = constant_run d n (Plain i1 ∷ Plain i2 ∷ ps) next m v sh (omega (arith, ok.high, stood.fits.top)) l in
          let v0 = g.view in
          let l1 = left_after c words v.place v0.place next (constant d n) (Plain i1 ∷ Plain i2 ∷ ps) l g.place in
          let t1 = step_to i1 g.to.to v0 g.to.shows l1.stands.0 tt in
          let v1 = after i1 v0 in
          let eb : v0.registers b ≡ v.registers b = g.moved.registers b ne in
          let e : v1.registers d ≡ v.registers b + n = update_same v0.registers d _ ∙ sum (v0.registers d)
          (v0.registers b) g.value eb ok.high in
          let at : v1.registers d + 0 ≡ v.registers b + n = omega (arith, e) in
          let t2 = step_to i2 t1.to v1 t1.shows l1.stands.2.0 (tt, subst (IsReadable c.size) (sym at) ok) in
          let v2 = after i2 v1 in
          record {
            view = v2;
            to = two m v0 v2 g.to (two g.to.to v1 v2 t1 t2);
            value = update_same v1.registers d _ ∙ g.moved.words (v1.registers d + 0) ∙ ap v.words at;
            zero = ap (λ x. nat_eq x 0) (g.moved.words (v1.registers d + 0) ∙ ap v.words at);
            minus = ap (nat_le SIGN_BIT) (g.moved.words (v1.registers d + 0) ∙ ap v.words at);
            moved = record {
              registers = λ q far. update_other v1.registers d _ q far ∙ update_other v0.registers d _ q far
                  ∙ g.moved.registers q far;
              words = g.moved.words;
              high = g.moved.high;
            };
            place = omega (arith, g.place);
          }
        where
          sum : (x y : ℕ) → x ≡ n → y ≡ v.registers b → v.registers b + n + 4 ≤ c.size → (x + y + 0) % 2 ^ 32
              ≡ v.registers b + n
          sum x y e e' high = omega (arith, e, e', high, stood.fits.top)

  -- a word took what a register held; R15 may have changed
  pub record Puts (at n len : ℕ) (m : machine.State) (v : View) : Type 0 where
    pub view : View
    pub to : To words c.size m same_tape view
    pub registers : (q : ℕ) → q ≢ 15 → view.registers q ≡ v.registers q
    pub memory : (a : ℕ) → view.words a ≡ update at n v.words a
    pub high : view.high ≡ v.high
    pub place : view.place ≡ v.place + len

  update_eq : (f g : ℕ → ℕ) (a b m n j : ℕ) → a ≡ b → m ≡ n → f j ≡ g j → update a m f j ≡ update b n g j
  update_eq f g a b m n j e e' e'' =
      ap (λ z. cond (nat_eq j z) m (f j)) e ∙ ap (λ z. cond (nat_eq j b) z (f j)) e'
      ∙ ap (λ z. cond (nat_eq j b) n z) e''

  pub store_run : (a b n : ℕ) (ps : List Piece) (next : ℕ) (m : machine.State) (v : View) → Shows words c.size m v
      → a ≢ 15 → b ≢ 15 → IsWritable words c.size (v.registers b + n) → Left c words v.place (store a b n ++ ps) next
      → Puts (v.registers b + n) (v.registers a) (length (store a b n)) m v
  store_run a b n ps next m v sh na nb ok l = go (is_near n) l
    where
      go : (close : Bool) → Left c words v.place
          (cond close (Plain (word.Store Word a b (pos n)) ∷ [])
          (constant 15 n ++ (Plain (word.Operate op.Add 15 15 (Content b)) ∷ Plain (word.Store Word a 15 (pos 0)) ∷ []))
          ++ ps) next → Puts (v.registers b + n) (v.registers a)
          (length (cond close (Plain (word.Store Word a b (pos n)) ∷ [])
          (constant 15 n ++ (Plain (word.Operate op.Add 15 15 (Content b)) ∷ Plain (word.Store Word a 15 (pos 0))
          ∷ [])))) m v
      go true l =
          let i = word.Store Word a b (pos n) in
          record {
            view = after i v;
            to = step_to i m v sh l.stands.0 (tt, ok);
            registers = λ q ne. refl;
            memory = λ x. refl;
            high = refl;
            place = refl;
          }
      go false l =
          let i1 = word.Operate op.Add 15 15 (Content b) in
          let i2 = word.Store Word a 15 (pos 0) in
          let g = constant_run 15 n (Plain i1 ∷ Plain i2 ∷ ps) next m v sh (omega (arith, ok.high, stood.fits.top)) l in
          let v0 = g.view in
          let l1 = left_after c words v.place v0.place next (constant 15 n) (Plain i1 ∷ Plain i2 ∷ ps) l g.place in
          let t1 = step_to i1 g.to.to v0 g.to.shows l1.stands.0 tt in
          let v1 = after i1 v0 in
          let eb : v0.registers b ≡ v.registers b = g.moved.registers b nb in
          let e : v1.registers 15 ≡ v.registers b + n = sum (v0.registers 15) (v0.registers b) g.value eb ok.high in
          let at : v1.registers 15 + 0 ≡ v.registers b + n = omega (arith, e) in
          let t2 = step_to i2 t1.to v1 t1.shows l1.stands.2.0 (tt, subst (IsWritable words c.size) (sym at) ok) in
          let v2 = after i2 v1 in
          let ea : v1.registers a ≡ v.registers a = update_other v0.registers 15 _ a na ∙ g.moved.registers a na in
          record {
            view = v2;
            to = two m v0 v2 g.to (two g.to.to v1 v2 t1 t2);
            registers = λ q far. update_other v0.registers 15 _ q far ∙ g.moved.registers q far;
            memory = λ x. update_eq v0.words v.words _ _ _ _ x at ea (g.moved.words x);
            high = g.moved.high;
            place = omega (arith, g.place);
          }
        where
          sum : (x y : ℕ) → x ≡ n → y ≡ v.registers b → v.registers b + n + 4 ≤ c.size → (x + y + 0) % 2 ^ 32
              ≡ v.registers b + n
          sum x y e e' high = omega (arith, e, e', high, stood.fits.top)

-- register d holds a word, and nothing else changed but the two scratch registers
pub record Aside (d n : ℕ) (m : Machine) (v : View) : Type 0 where
  pub here : v.registers d ≡ n
  pub registers : (q : ℕ) → q ≢ 12 → q ≢ 15 → q ≢ d → v.registers q ≡ m.registers q
  pub words : (a : ℕ) → v.words a ≡ m.words a

-- the frame of a routine's activation
pub record Framed (c : Context) (words : List ℕ) (r f : ℕ) : Type 0 where
  pub readable : (t k : ℕ) → home c r t ≡ Slot k → IsReadable c.size (f + slot_at c r k)
  pub writable : (t k : ℕ) → home c r t ≡ Slot k → IsWritable words c.size (f + slot_at c r k)
