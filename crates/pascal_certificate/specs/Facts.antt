-- The facts in a certificate, and what their values are.
use Rattle.std.specs.Prelude.{ℕ, Bool, true, false, not, ◌&&◌, ◌||◌, ◌==◌, nat_le, List, [], ◌∷◌, length, codes}
use Rattle.std.specs.Char.{is_ascii_digit}
use Rattle.std.specs.List.{list_all}
use Rattle.std.specs.Str.{bytes_eq}
use Rattle.pascal_certificate.specs.declared.fact.Fact.{Fact}
use Rattle.pascal_certificate.specs.declared.fact.Fact.TheVariants.{SourceSum, SourceBytes, ImageSum, ImageBytes}
use Rattle.pascal_certificate.specs.declared.fact.Fact.TheVariants.{Target, StackEnough, Version, Kit, Sources}
use Rattle.pascal_certificate.specs.declared.fact.Fact.TheVariants.{ProgramSum, ProgramBytes, Believed}
use Rattle.pascal_certificate.specs.declared.fact.Kind.{Kind}
use Rattle.pascal_certificate.specs.declared.fact.Kind.TheVariants.{Sum, Count, Words}

abbrev pub Text : Type 0
Text = List ℕ

-- the facts, in the order of their lines
abbrev pub facts : List Fact
facts =
    SourceSum ∷ SourceBytes ∷ ImageSum ∷ ImageBytes ∷ Target ∷ StackEnough ∷ Version ∷ Kit ∷ Sources ∷ ProgramSum
    ∷ ProgramBytes ∷ Believed ∷ []

-- what the line of a fact begins with
abbrev pub label : Fact → Text
label SourceSum = codes "source-sha256"
label SourceBytes = codes "source-bytes"
label ImageSum = codes "image-sha256"
label ImageBytes = codes "image-bytes"
label Target = codes "image-target"
label StackEnough = codes "stack-enough"
label Version = codes "program-version"
label Kit = codes "program-kit"
label Sources = codes "program-sources"
label ProgramSum = codes "program-sha256"
label ProgramBytes = codes "program-bytes"
label Believed = codes "believed-sha256"

-- what the value of a fact is
abbrev pub kind_of : Fact → Kind
kind_of SourceSum = Sum
kind_of SourceBytes = Count
kind_of ImageSum = Sum
kind_of ImageBytes = Count
kind_of Target = Words
kind_of StackEnough = Count
kind_of Version = Words
kind_of Kit = Words
kind_of Sources = Sum
kind_of ProgramSum = Sum
kind_of ProgramBytes = Count
kind_of Believed = Sum

-- the value may be not known
abbrev pub may_lack : Fact → Bool
may_lack StackEnough = true
may_lack Sources = true
may_lack ProgramSum = true
may_lack ProgramBytes = true
may_lack _ = false

-- if it is not known on one side, it is skipped
abbrev pub may_be_untold : Fact → Bool
may_be_untold Sources = true
may_be_untold ProgramSum = true
may_be_untold ProgramBytes = true
may_be_untold _ = false

abbrev pub tells_source : Fact → Bool
tells_source SourceSum = true
tells_source SourceBytes = true
tells_source _ = false

abbrev pub tells_image : Fact → Bool
tells_image ImageSum = true
tells_image ImageBytes = true
tells_image _ = false

-- A fact of the program. The stack that is enough is one of all three together.
abbrev pub tells_program : Fact → Bool
tells_program SourceSum = false
tells_program SourceBytes = false
tells_program ImageSum = false
tells_program ImageBytes = false
tells_program StackEnough = false
tells_program _ = true

-- ---- values

-- a byte that is printed
abbrev pub is_printed : ℕ → Bool
is_printed byte = nat_le 32 byte && nat_le byte 126

-- printable characters, at least one
abbrev pub is_line : Text → Bool
is_line text = not (length text == 0) && list_all is_printed text

-- the text has no end of a line
abbrev pub unbroken : Text → Bool
unbroken text = list_all (λ byte. not (byte == 10)) text

abbrev pub is_count : Text → Bool
is_count text = list_all is_ascii_digit text

-- a hexadecimal digit, and no capital letter
abbrev pub is_sum_digit : ℕ → Bool
is_sum_digit byte = (nat_le 48 byte && nat_le byte 57) || (nat_le 97 byte && nat_le byte 102)

abbrev pub is_sum : Text → Bool
is_sum text = (length text == 64) && list_all is_sum_digit text

abbrev pub has_kind : Kind → Text → Bool
has_kind Sum text = is_sum text
has_kind Count text = is_count text
has_kind Words text = true

abbrev pub is_not_known : Text → Bool
is_not_known text = bytes_eq text (codes "not known")

-- the text can be the value of the fact
abbrev pub fits : Fact → Text → Bool
fits fact text = is_line text && ((may_lack fact && is_not_known text) || has_kind (kind_of fact) text)
