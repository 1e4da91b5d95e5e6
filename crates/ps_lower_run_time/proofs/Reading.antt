-- Reads: the laws of the routines, in the lowering's words.
use Rattle.std.proofs.Common.{◌≡◌, ℕ, ℤ, Bool, true, false, Option, Some, None, refl}
use Rattle.tac_code.specs.declared.code.Block.{Block}
use Rattle.tac_code.specs.Numbers.{is_integer}
use Rattle.tac_code.specs.Memory.{Memory}
use Rattle.ps_meaning.specs.Text.{Reading, EndFound, NoInteger, Integer, scan_integer}
use Rattle.tac_rt.specs.Bodies.{run_time_routines}
use Rattle.tac_rt.specs.Laws.{LookedIn, IntegerRead, NumberRead}
use Rattle.tac_rt.proofs.Looks.{looks_ahead}
use Rattle.tac_rt.proofs.Characters.{reads_characters}
use Rattle.tac_rt.proofs.Lines.{reads_lines}
use Rattle.tac_rt.proofs.Integers.{reads_numbers}
use Rattle.ps_lower_relation.specs.Here.{Setting, machine_of}
use Rattle.ps_lower_relation.specs.Reading.{LookedIn as IsLooked, IntegerRead as IsRead, NumberRead as IsFound, ReadsDo}

looked_in : (q : Bool) (before : Memory) (b : Block) (o : ℕ) (z : ℤ) (after : Memory) → IsLooked q before b o z after
    → LookedIn q before b o z after
looked_in true before b o z after h = h
looked_in false before b o z after h = h

integer_read : (fits : Bool) (middle : Memory) (to : Block) (place : ℕ) (x code : ℤ) (after : Memory)
    → IntegerRead fits middle to place x code after → IsRead fits middle to place x code after
integer_read true middle to place x code after h = h
integer_read false middle to place x code after h = h

number_read : (middle : Memory) (to : Block) (place : ℕ) (found : Reading) (code : ℤ) (after : Memory)
    → NumberRead middle to place found code after → IsFound middle to place found code after
number_read middle to place EndFound code after h = h
number_read middle to place NoInteger code after h = h
number_read middle to place (Integer x) code after h = integer_read (is_integer x) middle to place x code after h

pub reads_do : (p : Setting) → p.run_time ≡ run_time_routines → ReadsDo p
reads_do p has = record {
  look = λ b o i before after transcript at looked again. looks_ahead (machine_of p) b o i before after transcript has
      (record {
        ahead = at.0;
        begun = at.1;
      }) (looked_in i.looked before b o _ after looked) (record {
        ahead = again.0;
        begun = again.1;
      });
  character = λ b o i before after transcript at new. reads_characters (machine_of p) b o i before after transcript has
      (record {
        ahead = at.0;
        begun = at.1;
      }) (record {
        middle = new.0;
        first = new.1;
        second = new.2;
      });
  line = λ b o i before after transcript at new. reads_lines (machine_of p) b o i before after transcript has (record {
    ahead = at.0;
    begun = at.1;
  }) (record {
    middle = new.0;
    first = new.1;
    second = new.2;
  });
  number = λ b o to place i middle transcript s t line operands same at small new storable fresh values code.
      let r = reads_numbers (machine_of p) b o to place i middle transcript s t line operands has same (record {
        ahead = at.0;
        begun = at.1;
      }) small (record {
        middle = new.0;
        first = new.1;
        second = new.2;
      }) storable fresh values code in
      record {
        code = r.code;
        after = r.after;
        read = number_read middle to place (scan_integer i.left).found r.code r.after r.read;
        comes = r.comes;
      };
}
