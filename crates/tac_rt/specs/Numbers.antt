-- The numbers of the run-time routines among themselves: a call adds the number of the program's own.
use Rattle.std.specs.Prelude.{ℕ}
use Rattle.tac_rt.specs.declared.run_time.RunTime.{RunTime}
use Rattle.tac_rt.specs.declared.run_time.RunTime.TheVariants.{CopyWords, AddRange, UniteSets, SubtractSet}
use Rattle.tac_rt.specs.declared.run_time.RunTime.TheVariants.{IntersectSets, IsIncluded, IsMember, CompareBytes}
use Rattle.tac_rt.specs.declared.run_time.RunTime.TheVariants.{PackBytes, UnpackBytes, WriteNumber, WriteCharacter}
use Rattle.tac_rt.specs.declared.run_time.RunTime.TheVariants.{WriteString, LookAhead, ReadCharacter, ReadNumber}
use Rattle.tac_rt.specs.declared.run_time.RunTime.TheVariants.{ReadLine}

abbrev pub run_time_number : RunTime → ℕ
run_time_number CopyWords = 0
run_time_number AddRange = 1
run_time_number UniteSets = 2
run_time_number SubtractSet = 3
run_time_number IntersectSets = 4
run_time_number IsIncluded = 5
run_time_number IsMember = 6
run_time_number CompareBytes = 7
run_time_number PackBytes = 8
run_time_number UnpackBytes = 9
run_time_number WriteNumber = 10
run_time_number WriteCharacter = 11
run_time_number WriteString = 12
run_time_number LookAhead = 13
run_time_number ReadCharacter = 14
run_time_number ReadNumber = 15
run_time_number ReadLine = 16
