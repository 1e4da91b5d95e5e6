-- What is reported of a source and an image compared with a certificate.
use Rattle.std.specs.Prelude.{Bool, true, false, ◌++◌, List, codes, flat_map}
use Rattle.std.specs.List.{list_any}
use Rattle.pascal_certificate.specs.Facts.{Text, label, tells_image, tells_program, tells_source}
use Rattle.pascal_certificate.specs.Differences.{Difference}
use Rattle.pascal_certificate.specs.declared.verdict.Names.{Names}

-- a fact that differs
abbrev pub difference_line : Difference → Text
difference_line difference =
    label difference.fact ++ (codes " was " ++ (difference.old ++ (codes " and is " ++ (difference.new ++ codes "\n"))))

abbrev pub is_of_source : Difference → Bool
is_of_source difference = tells_source difference.fact

abbrev pub is_of_image : Difference → Bool
is_of_image difference = tells_image difference.fact

abbrev pub is_of_program : Difference → Bool
is_of_program difference = tells_program difference.fact

-- the one text or the other
abbrev pub either_text : Bool → Text → Text → Text
either_text true one other = one
either_text false one other = other

-- whether a file is what it was
abbrev pub file_line : Text → Bool → Text
file_line name differs = name ++ either_text differs (codes " is not what it was\n") (codes " is what it was\n")

-- whether the image is that of the source
abbrev pub built_line : Names → Bool → Text
built_line names is_built =
    (names.image.now ++ either_text is_built (codes " is what this program builds of ")
    (codes " is not what this program builds of "))
    ++ (names.source.now ++ codes "\n")

-- whether the certificate is of this program
abbrev pub program_line : Names → Bool → Text
program_line names differs = names.certificate.now ++ either_text differs (codes " names another program\n")
    (codes " names this program\n")

-- a line for each fact that differs, followed by what each file is
abbrev pub verdict_text : Names → List Difference → Bool → Text
verdict_text names differences is_built =
    flat_map difference_line differences
    ++ (file_line names.source.now (list_any is_of_source differences)
    ++ (file_line names.image.now (list_any is_of_image differences)
    ++ (built_line names is_built
    ++ program_line names (list_any is_of_program differences))))
