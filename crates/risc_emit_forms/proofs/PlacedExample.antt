-- A placed program, and its words computed by hand.
use Rattle.std.proofs.Common.{◌≡◌, ℕ, zero, suc, true, false, nat_eq, if◌then◌else◌, List, [], ◌∷◌, Option, Some, None}
use Rattle.std.proofs.Common.{slice_index, pos, negsuc, refl, subst, arith}
use Rattle.std.proofs.lemmas.Int.{ints}
use Rattle.risc_word.specs.Words.{word_of}
use Rattle.risc_word.specs.declared.instr.Operation.TheVariants as op
use Rattle.risc_word.specs.declared.instr.Operand.TheVariants.{Content, Constant}
use Rattle.risc_word.specs.declared.instr.Width.TheVariants.{Word}
use Rattle.risc_word.specs.declared.instr.Condition.TheVariants as on
use Rattle.risc_word.specs.declared.instr.Target.TheVariants.{Relative, Absolute}
use Rattle.risc_word.specs.declared.instr.Instr.TheVariants as word
use Rattle.risc_machine_laws.specs.Numbers.{distance}
use Rattle.tac_code.specs.declared.code.Instruction.{Instruction}
use Rattle.tac_code.specs.declared.code.Instruction.TheVariants.{Literal, Call, Arithmetic, Store, Load, Return, End}
use Rattle.tac_code.specs.declared.code.Operator.TheVariants.{Add}
use Rattle.tac_code.specs.declared.code.Operand.TheVariants as operand
use Rattle.tac_code.specs.declared.code.Base.TheVariants as base
use Rattle.tac_code.specs.Meaning.{fetch}
use Rattle.risc_emit_relation.specs.Context.{Context, IsLaid}
use Rattle.risc_emit_relation.proofs.Example.{block, leaf, code, example, example_laid}
use Rattle.risc_emit_forms.specs.Pieces.{Left}
use Rattle.risc_emit_forms.specs.Forms.{form, entry_form}

-- the first words of the instructions of the program block and of the run-time routine
abbrev pub sites : ℕ → ℕ → ℕ
sites zero k = slice_index (10 ∷ 12 ∷ 14 ∷ 17 ∷ 18 ∷ 21 ∷ []) k
sites (suc r) k = slice_index (22 ∷ 23 ∷ 25 ∷ 28 ∷ []) k

abbrev pub entries : ℕ → ℕ
entries zero = 3
entries (suc r) = 21

-- the stop for the stack, and the overflow of the sum
abbrev rows : ℕ → Option (ℕ × ℕ)
rows link = if nat_eq link 28 then Some (12, 3) else if nat_eq link 68 then Some (1, 4) else None

abbrev pub placed : Context
placed =
    record {
      code = code;
      costs = example.costs;
      sizes = example.sizes;
      homes = example.homes;
      site = sites;
      entry = entries;
      constant = example.constant;
      resume = λ r k t. 14;
      line = λ l. None;
      trap = rows;
      link_at = example.link_at;
      slots_at = example.slots_at;
      frame_at = example.frame_at;
      scratch_at = example.scratch_at;
      used = example.used;
      heap_at = 400;
      base = 1400;
      size = 3400;
      bottom = 3108;
    }

abbrev pub words : List ℕ
words =
    word_of (word.Branch on.Always false (Relative (pos 2))) ∷ word_of (word.Move 12 (Constant (negsuc 63))) ∷ word_of
    (word.Store Word 15 12 (pos 4)) ∷ word_of (word.Operate op.Sub 12 14 (Constant (pos 292))) ∷ word_of
    (word.Load Word 11 13 (pos 268)) ∷ word_of (word.Operate op.Sub 11 12 (Content 11)) ∷ word_of
    (word.Branch on.Less true (Relative (distance 6 1))) ∷ word_of (word.Store Word 15 12 (pos 0)) ∷ word_of
    (word.Store Word 14 12 (pos 4)) ∷ word_of (word.Move 14 (Content 12)) ∷ word_of
    (word.Move 12 (Constant (pos 5))) ∷ word_of (word.Store Word 12 14 (pos 276)) ∷ word_of
    (word.Load Word 0 14 (pos 276)) ∷ word_of (word.Branch on.Always true (Relative (distance 13 21))) ∷ word_of
    (word.Load Word 15 14 (pos 276)) ∷ word_of (word.Operate op.Add 0 0 (Content 15)) ∷ word_of
    (word.Branch on.OverflowSet true (Relative (distance 16 1))) ∷ word_of (word.Store Word 0 14 (pos 280))
    ∷ word_of (word.Move 12 (Constant (negsuc 63))) ∷ word_of (word.Move 15 (Constant (pos 0))) ∷ word_of
    (word.Store Word 15 12 (pos 4)) ∷ word_of (word.Store Word 15 14 (pos 40)) ∷ word_of
    (word.Store Word 0 14 (pos 48)) ∷ word_of (word.Load Word 12 14 (pos 48)) ∷ word_of
    (word.Store Word 12 14 (pos 44)) ∷ word_of (word.Load Word 0 14 (pos 44)) ∷ word_of
    (word.Load Word 15 14 (pos 40)) ∷ word_of (word.Branch on.Always false (Absolute 15)) ∷ []

pub placed_laid : IsLaid placed
placed_laid =
    let l = example_laid in
    record {
      link = l.link;
      slots = l.slots;
      slots_before = l.slots_before;
      frame = l.frame;
      scratch = l.scratch;
      frame_before = l.frame_before;
      scratch_before = l.scratch_before;
      aligned = l.aligned;
      whole = l.whole;
      program = l.program;
      leaf = l.leaf;
      first = l.first;
      bottom = l.bottom;
      order = l.order;
      even = l.even;
      constants = l.constants;
    }

left_0_0 : Left placed words 10 (form placed 0 0 (Literal 0 (pos 5))) 12
left_0_0 =
    record {
      stands = (
        record {
          word = refl;
          ranges = (omega arith, (omega (arith, ints), omega (arith, ints)));
        },
        tt,
        (
          record {
            word = refl;
            ranges = (omega arith, omega arith, (omega (arith, ints), omega (arith, ints)));
          },
          tt,
          tt,
        ),
      );
      ends = refl;
    }

left_0_1 : Left placed words 12 (form placed 0 1 (Call 1 1 (0 ∷ []) 4)) 14
left_0_1 =
    record {
      stands = (
        record {
          word = refl;
          ranges = (omega arith, omega arith, (omega (arith, ints), omega (arith, ints)));
        },
        tt,
        (
          record {
            word = refl;
            ranges = (omega (arith, ints), omega (arith, ints));
          },
          tt,
          tt,
        ),
      );
      ends = refl;
    }

left_0_2 : Left placed words 14 (form placed 0 2 (Arithmetic Add 1 1 (operand.Temporary 0) 1 4)) 17
left_0_2 =
    record {
      stands = (
        record {
          word = refl;
          ranges = (omega arith, omega arith, (omega (arith, ints), omega (arith, ints)));
        },
        tt,
        (
          record {
            word = refl;
            ranges = (omega arith, omega arith, omega arith);
          },
          tt,
          (
            record {
              word = refl;
              ranges = (omega (arith, ints), omega (arith, ints));
            },
            refl,
            tt,
          ),
        ),
      );
      ends = refl;
    }

left_0_3 : Left placed words 17 (form placed 0 3 (Store base.Frame 0 1)) 18
left_0_3 =
    record {
      stands = (
        record {
          word = refl;
          ranges = (omega arith, omega arith, (omega (arith, ints), omega (arith, ints)));
        },
        tt,
        tt,
      );
      ends = refl;
    }

left_0_4 : Left placed words 18 (form placed 0 4 (End)) 21
left_0_4 =
    record {
      stands = (
        record {
          word = refl;
          ranges = (omega arith, (omega (arith, ints), omega (arith, ints)));
        },
        tt,
        (
          record {
            word = refl;
            ranges = (omega arith, (omega (arith, ints), omega (arith, ints)));
          },
          tt,
          (
            record {
              word = refl;
              ranges = (omega arith, omega arith, (omega (arith, ints), omega (arith, ints)));
            },
            tt,
            tt,
          ),
        ),
      );
      ends = refl;
    }

left_1_0 : Left placed words 22 (form placed 1 0 (Store base.Frame 0 0)) 23
left_1_0 =
    record {
      stands = (
        record {
          word = refl;
          ranges = (omega arith, omega arith, (omega (arith, ints), omega (arith, ints)));
        },
        tt,
        tt,
      );
      ends = refl;
    }

left_1_1 : Left placed words 23 (form placed 1 1 (Load 1 base.Frame 0)) 25
left_1_1 =
    record {
      stands = (
        record {
          word = refl;
          ranges = (omega arith, omega arith, (omega (arith, ints), omega (arith, ints)));
        },
        tt,
        (
          record {
            word = refl;
            ranges = (omega arith, omega arith, (omega (arith, ints), omega (arith, ints)));
          },
          tt,
          tt,
        ),
      );
      ends = refl;
    }

left_1_2 : Left placed words 25 (form placed 1 2 (Return 1)) 28
left_1_2 =
    record {
      stands = (
        record {
          word = refl;
          ranges = (omega arith, omega arith, (omega (arith, ints), omega (arith, ints)));
        },
        tt,
        (
          record {
            word = refl;
            ranges = (omega arith, omega arith, (omega (arith, ints), omega (arith, ints)));
          },
          tt,
          (
            record {
              word = refl;
              ranges = omega arith;
            },
            tt,
            tt,
          ),
        ),
      );
      ends = refl;
    }

pub left_entry_0 : Left placed words 3 (entry_form placed 0 block) 10
left_entry_0 =
    record {
      stands = (
        record {
          word = refl;
          ranges = (omega arith, omega arith, (omega (arith, ints), omega (arith, ints)));
        },
        tt,
        (
          record {
            word = refl;
            ranges = (omega arith, omega arith, (omega (arith, ints), omega (arith, ints)));
          },
          tt,
          (
            record {
              word = refl;
              ranges = (omega arith, omega arith, omega arith);
            },
            tt,
            (
              record {
                word = refl;
                ranges = (omega (arith, ints), omega (arith, ints));
              },
              refl,
              (
                record {
                  word = refl;
                  ranges = (omega arith, omega arith, (omega (arith, ints), omega (arith, ints)));
                },
                tt,
                (
                  record {
                    word = refl;
                    ranges = (omega arith, omega arith, (omega (arith, ints), omega (arith, ints)));
                  },
                  tt,
                  (
                    record {
                      word = refl;
                      ranges = (omega arith, omega arith);
                    },
                    tt,
                    tt,
                  ),
                ),
              ),
            ),
          ),
        ),
      );
      ends = refl;
    }

pub left_entry_1 : Left placed words 21 (entry_form placed 1 leaf) 22
left_entry_1 =
    record {
      stands = (
        record {
          word = refl;
          ranges = (omega arith, omega arith, (omega (arith, ints), omega (arith, ints)));
        },
        tt,
        tt,
      );
      ends = refl;
    }

pub bodies : (r k : ℕ) (i : Instruction) → fetch code r k ≡ Some i → Left placed words (sites r k) (form placed r k i)
    (sites r (suc k))
bodies zero zero i e =
    let z : Literal 0 (pos 5) ≡ i = cc e in subst (λ x. Left placed words 10 (form placed 0 0 x) 12) z left_0_0
bodies zero (suc zero) i e =
    let z : Call 1 1 (0 ∷ []) 4 ≡ i = cc e in subst (λ x. Left placed words 12 (form placed 0 1 x) 14) z left_0_1
bodies zero (suc (suc zero)) i e =
    let z : Arithmetic Add 1 1 (operand.Temporary 0) 1 4 ≡ i = cc e in subst
    (λ x. Left placed words 14 (form placed 0 2 x) 17) z left_0_2
bodies zero (suc (suc (suc zero))) i e =
    let z : Store base.Frame 0 1 ≡ i = cc e in subst (λ x. Left placed words 17 (form placed 0 3 x) 18) z left_0_3
bodies zero (suc (suc (suc (suc zero)))) i e =
    let z : End ≡ i = cc e in subst (λ x. Left placed words 18 (form placed 0 4 x) 21) z left_0_4
bodies zero (suc (suc (suc (suc (suc k))))) i e = absurd (cc e)
bodies (suc zero) zero i e =
    let z : Store base.Frame 0 0 ≡ i = cc e in subst (λ x. Left placed words 22 (form placed 1 0 x) 23) z left_1_0
bodies (suc zero) (suc zero) i e =
    let z : Load 1 base.Frame 0 ≡ i = cc e in subst (λ x. Left placed words 23 (form placed 1 1 x) 25) z left_1_1
bodies (suc zero) (suc (suc zero)) i e =
    let z : Return 1 ≡ i = cc e in subst (λ x. Left placed words 25 (form placed 1 2 x) 28) z left_1_2
bodies (suc zero) (suc (suc (suc k))) i e = absurd (cc e)
bodies (suc (suc r)) k i e = absurd (cc e)
