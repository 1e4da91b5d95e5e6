-- The names of the pages of docs/EXPLAIN.md, in their order. Written by tools/explain.
use Rattle.std.specs.Prelude.{List, [], ◌∷◌, codes}
use Rattle.pascal_pages.specs.Asked.{Names, page_names}

abbrev pub pages : List Names
pages =
    page_names (codes "1 TooLong") (codes "TooLong") (codes "1") (codes "refusal 1") (codes "error 1 TooLong") ∷
    page_names (codes "2 TooManyLines") (codes "TooManyLines") (codes "2") (codes "refusal 2") (codes "error 2 TooManyLines") ∷
    page_names (codes "9 OutOfMemory") (codes "OutOfMemory") (codes "9") (codes "refusal 9") (codes "error 9 OutOfMemory") ∷
    page_names (codes "10 BadByte") (codes "BadByte") (codes "10") (codes "refusal 10") (codes "error 10 BadByte") ∷
    page_names (codes "11 OpenComment") (codes "OpenComment") (codes "11") (codes "refusal 11") (codes "error 11 OpenComment") ∷
    page_names (codes "12 OpenString") (codes "OpenString") (codes "12") (codes "refusal 12") (codes "error 12 OpenString") ∷
    page_names (codes "13 EmptyString") (codes "EmptyString") (codes "13") (codes "refusal 13") (codes "error 13 EmptyString") ∷
    page_names (codes "14 SeparatorMissing") (codes "SeparatorMissing") (codes "14") (codes "refusal 14") (codes "error 14 SeparatorMissing") ∷
    page_names (codes "15 NumberTooLarge") (codes "NumberTooLarge") (codes "15") (codes "refusal 15") (codes "error 15 NumberTooLarge") ∷
    page_names (codes "16 RealNumber") (codes "RealNumber") (codes "16") (codes "refusal 16") (codes "error 16 RealNumber") ∷
    page_names (codes "20 NotAProgram") (codes "NotAProgram") (codes "20") (codes "refusal 20") (codes "error 20 NotAProgram") ∷
    page_names (codes "21 TooDeep") (codes "TooDeep") (codes "21") (codes "refusal 21") (codes "error 21 TooDeep") ∷
    page_names (codes "22 NotInProfile") (codes "NotInProfile") (codes "22") (codes "refusal 22") (codes "error 22 NotInProfile") ∷
    page_names (codes "30 Unknown") (codes "Unknown") (codes "30") (codes "refusal 30") (codes "error 30 Unknown") ∷
    page_names (codes "31 Twice") (codes "Twice") (codes "31") (codes "refusal 31") (codes "error 31 Twice") ∷
    page_names (codes "32 UsedBefore") (codes "UsedBefore") (codes "32") (codes "refusal 32") (codes "error 32 UsedBefore") ∷
    page_names (codes "33 WrongKind") (codes "WrongKind") (codes "33") (codes "refusal 33") (codes "error 33 WrongKind") ∷
    page_names (codes "34 WrongType") (codes "WrongType") (codes "34") (codes "refusal 34") (codes "error 34 WrongType") ∷
    page_names (codes "35 NotAssignable") (codes "NotAssignable") (codes "35") (codes "refusal 35") (codes "error 35 NotAssignable") ∷
    page_names (codes "36 BadSubrange") (codes "BadSubrange") (codes "36") (codes "refusal 36") (codes "error 36 BadSubrange") ∷
    page_names (codes "37 SetBase") (codes "SetBase") (codes "37") (codes "refusal 37") (codes "error 37 SetBase") ∷
    page_names (codes "38 CaseTwice") (codes "CaseTwice") (codes "38") (codes "refusal 38") (codes "error 38 CaseTwice") ∷
    page_names (codes "39 ControlVariable") (codes "ControlVariable") (codes "39") (codes "refusal 39") (codes "error 39 ControlVariable") ∷
    page_names (codes "40 PackedVariable") (codes "PackedVariable") (codes "40") (codes "refusal 40") (codes "error 40 PackedVariable") ∷
    page_names (codes "41 NotCongruous") (codes "NotCongruous") (codes "41") (codes "refusal 41") (codes "error 41 NotCongruous") ∷
    page_names (codes "42 ForwardOpen") (codes "ForwardOpen") (codes "42") (codes "refusal 42") (codes "error 42 ForwardOpen") ∷
    page_names (codes "43 NoResultAssigned") (codes "NoResultAssigned") (codes "43") (codes "refusal 43") (codes "error 43 NoResultAssigned") ∷
    page_names (codes "44 NoInputOutput") (codes "NoInputOutput") (codes "44") (codes "refusal 44") (codes "error 44 NoInputOutput") ∷
    page_names (codes "45 Limit") (codes "Limit") (codes "45") (codes "refusal 45") (codes "error 45 Limit") ∷
    page_names (codes "50 CodeTooLarge") (codes "CodeTooLarge") (codes "50") (codes "refusal 50") (codes "error 50 CodeTooLarge") ∷
    page_names (codes "51 BadPlacement") (codes "BadPlacement") (codes "51") (codes "refusal 51") (codes "error 51 BadPlacement") ∷
    page_names (codes "60 Magic") (codes "Magic") (codes "60") (codes "refusal 60") (codes "error 60 Magic") ∷
    page_names (codes "61 Truncated") (codes "Truncated") (codes "61") (codes "refusal 61") (codes "error 61 Truncated") ∷
    page_names (codes "62 Trailing") (codes "Trailing") (codes "62") (codes "refusal 62") (codes "error 62 Trailing") ∷
    page_names (codes "63 TooLarge") (codes "TooLarge") (codes "63") (codes "refusal 63") (codes "error 63 TooLarge") ∷
    page_names (codes "64 BadTable") (codes "BadTable") (codes "64") (codes "refusal 64") (codes "error 64 BadTable") ∷
    page_names (codes "70 BudgetTooLarge") (codes "BudgetTooLarge") (codes "70") (codes "refusal 70") (codes "error 70 BudgetTooLarge") ∷
    page_names (codes "71 BudgetUneven") (codes "BudgetUneven") (codes "71") (codes "refusal 71") (codes "error 71 BudgetUneven") ∷
    page_names (codes "81 EmptyStatement") (codes "EmptyStatement") (codes "81") (codes "warning 81") (codes "warning 81 EmptyStatement") ∷
    page_names (codes "82 Indentation") (codes "Indentation") (codes "82") (codes "warning 82") (codes "warning 82 Indentation") ∷
    page_names (codes "83 NeverAssigned") (codes "NeverAssigned") (codes "83") (codes "warning 83") (codes "warning 83 NeverAssigned") ∷
    page_names (codes "84 LoopUnchanged") (codes "LoopUnchanged") (codes "84") (codes "warning 84") (codes "warning 84 LoopUnchanged") ∷
    page_names (codes "85 ValueParameter") (codes "ValueParameter") (codes "85") (codes "warning 85") (codes "warning 85 ValueParameter") ∷
    page_names (codes "86 Hidden") (codes "Hidden") (codes "86") (codes "warning 86") (codes "warning 86 Hidden") ∷
    page_names (codes "87 Unreached") (codes "Unreached") (codes "87") (codes "warning 87") (codes "warning 87 Unreached") ∷
    page_names (codes "88 Directive") (codes "Directive") (codes "88") (codes "warning 88") (codes "warning 88 Directive") ∷
    page_names (codes "89 OutOfRange") (codes "OutOfRange") (codes "89") (codes "warning 89") (codes "warning 89 OutOfRange") ∷
    page_names (codes "90 NestedComment") (codes "NestedComment") (codes "90") (codes "warning 90") (codes "warning 90 NestedComment") ∷
    page_names (codes "Error 1: integer overflow") (codes "integer overflow") (codes "1") (codes "error 1") (codes "Error 1: integer overflow") ∷
    page_names (codes "Error 2: division by zero") (codes "division by zero") (codes "2") (codes "error 2") (codes "Error 2: division by zero") ∷
    page_names (codes "Error 3: modulus below one") (codes "modulus below one") (codes "3") (codes "error 3") (codes "Error 3: modulus below one") ∷
    page_names (codes "Error 4: value out of range") (codes "value out of range") (codes "4") (codes "error 4") (codes "Error 4: value out of range") ∷
    page_names (codes "Error 5: index out of range") (codes "index out of range") (codes "5") (codes "error 5") (codes "Error 5: index out of range") ∷
    page_names (codes "Error 6: nil pointer") (codes "nil pointer") (codes "6") (codes "error 6") (codes "Error 6: nil pointer") ∷
    page_names (codes "Error 7: no case constant") (codes "no case constant") (codes "7") (codes "error 7") (codes "Error 7: no case constant") ∷
    page_names (codes "Error 8: set member out of range") (codes "set member out of range") (codes "8") (codes "error 8") (codes "Error 8: set member out of range") ∷
    page_names (codes "Error 9: end of input") (codes "end of input") (codes "9") (codes "error 9") (codes "Error 9: end of input") ∷
    page_names (codes "Error 10: not an integer") (codes "not an integer") (codes "10") (codes "error 10") (codes "Error 10: not an integer") ∷
    page_names (codes "Error 11: field width below one") (codes "field width below one") (codes "11") (codes "error 11") (codes "Error 11: field width below one") ∷
    page_names (codes "Stop 12: out of stack") (codes "out of stack") (codes "12") (codes "stop 12") (codes "Stop 12: out of stack") ∷
    page_names (codes "Stop 13: out of heap") (codes "out of heap") (codes "13") (codes "stop 13") (codes "Stop 13: out of heap") ∷
    page_names (codes "Status 0: all is well") (codes "all is well") (codes "0") (codes "status 0") (codes "Status 0: all is well") ∷
    page_names (codes "Status 1: refused, or not to be read or written") (codes "refused, or not to be read or written") (codes "1") (codes "status 1") (codes "Status 1: refused, or not to be read or written") ∷
    page_names (codes "Status 2: an error of the program") (codes "an error of the program") (codes "2") (codes "status 2") (codes "Status 2: an error of the program") ∷
    page_names (codes "Status 3: out of stack or heap") (codes "out of stack or heap") (codes "3") (codes "status 3") (codes "Status 3: out of stack or heap") ∷
    page_names (codes "Status 4: step limit") (codes "step limit") (codes "4") (codes "status 4") (codes "Status 4: step limit") ∷
    page_names (codes "Status 5: machine fault") (codes "machine fault") (codes "5") (codes "status 5") (codes "Status 5: machine fault") ∷
    page_names (codes "Fault: cannot read") (codes "cannot read") (codes "Fault: cannot read") (codes "Fault: cannot read") (codes "Fault: cannot read") ∷
    page_names (codes "Fault: cannot write") (codes "cannot write") (codes "Fault: cannot write") (codes "Fault: cannot write") (codes "Fault: cannot write") ∷
    page_names (codes "Fault: input fault") (codes "input fault") (codes "Fault: input fault") (codes "Fault: input fault") (codes "Fault: input fault") ∷
    page_names (codes "Fault: output fault") (codes "output fault") (codes "Fault: output fault") (codes "Fault: output fault") (codes "Fault: output fault") ∷
    page_names (codes "Machine fault: BadWord") (codes "BadWord") (codes "Machine fault: BadWord") (codes "Machine fault: BadWord") (codes "Machine fault: BadWord") ∷
    page_names (codes "Machine fault: BadAddress") (codes "BadAddress") (codes "Machine fault: BadAddress") (codes "Machine fault: BadAddress") (codes "Machine fault: BadAddress") ∷
    page_names (codes "Machine fault: BadDivisor") (codes "BadDivisor") (codes "Machine fault: BadDivisor") (codes "Machine fault: BadDivisor") (codes "Machine fault: BadDivisor") ∷
    page_names (codes "Machine fault: BadJump") (codes "BadJump") (codes "Machine fault: BadJump") (codes "Machine fault: BadJump") (codes "Machine fault: BadJump") ∷
    page_names (codes "Machine fault: UnknownTrap") (codes "UnknownTrap") (codes "Machine fault: UnknownTrap") (codes "Machine fault: UnknownTrap") (codes "Machine fault: UnknownTrap") ∷
    []
