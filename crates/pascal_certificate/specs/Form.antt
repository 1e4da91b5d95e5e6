-- The form of certificates: a head, a line for each fact, and the lines that are the same for each source and image.
use Rattle.std.specs.Prelude.{◌≡◌, ℕ, Bool, true, false, ◌&&◌, ◌++◌, List, [], ◌∷◌, codes, decimal, length}
use Rattle.hex.specs.Hex.{encode_lower}
use Rattle.sha2.specs.Sha256.{sha256}
use Rattle.pascal_certificate.specs.Facts.{Text, facts, fits, label}
use Rattle.pascal_certificate.specs.declared.fact.Fact.{Fact}

abbrev pub head : Text
head = codes "fonkjuld certificate 1\n"

-- the line of a fact
abbrev pub line_of : Fact → Text → Text
line_of fact value = label fact ++ (codes ": " ++ (value ++ codes "\n"))

-- a line for each fact, with its value
abbrev pub lines_of : List Fact → List Text → Text
lines_of [] values = []
lines_of (fact ∷ rest) [] = []
lines_of (fact ∷ rest) (value ∷ values) = line_of fact value ++ lines_of rest values

-- the lines of every certificate
unfoldable pub tail : Text
tail = codes "proved: the image does what the Pascal program of the source means, under every budget of stack and heap and on every input of bytes\nproved: it writes what the program writes, in step with what the program has looked at of its input, and goes on where that does\nproved: it ends as the program ends; an error has its number, its line and the lines of the open calls\nproved: it stops for want of stack or heap just where the frames of the open calls or the objects take more than there is\nproved: it comes to no fault of the processor\ntheorem: Compiles in crates/ps_build/specs/Headline.antt, ensured by ps_build::build\ntheorem: NeverFaults in crates/ps_build/specs/Laws.antt, ensured by ps_build::laws::never_faults\nbelieved: the definitions in docs/TRUSTED.md, which say what the language and the processor are\nbelieved: the prover, the compiler and the library of the kit, and what lies below them\nbelieved: that the program was built of its sources, which ./gate over them shows\nnot-promised: how long a run takes, and that the computer which emulates the processor has the memory\nnot-promised: what files, pipes and terminals do with what is written\nnot-promised: that the program does what its author wanted\nnot-promised: who wrote this certificate: it is not signed, and each can check what it tells\nbudget: bytes of stack and heap, each a multiple of 4, with the code and the variables at most 16777152\nbudget: 4194304 of stack, 1048576 of heap and 1000000000 steps, where pascal run is told nothing else\nstatus: 0 normal, 2 an error of the program, 3 out of stack or heap, 4 the limit of steps, 5 a fault of the processor\nstatus: 1 refused, or a file, an input or an output failed\ncheck: sha256sum and wc -c of the source, the image and the program give the sums and bytes above\ncheck: pascal verify CERTIFICATE SOURCE IMAGE builds the source again and compares\nend\n"

-- the certificate of these values
abbrev pub certificate_text : List Text → Text
certificate_text values = head ++ (lines_of facts values ++ tail)

-- each fact has a value that it can have
abbrev pub are_values : List Fact → List Text → Bool
are_values [] [] = true
are_values [] (value ∷ values) = false
are_values (fact ∷ rest) [] = false
are_values (fact ∷ rest) (value ∷ values) = fits fact value && are_values rest values

-- the text is the certificate of these values, which the facts can have
abbrev pub IsCertificate : Text → List Text → Type 0
IsCertificate text values = (are_values facts values ≡ true) × (text ≡ certificate_text values)

-- ---- what is told of a source and an image

-- the sum of bytes, in hexadecimal digits
abbrev pub sum_text : List ℕ → Text
sum_text bytes = encode_lower (sha256 bytes)

-- how many bytes there are
abbrev pub size_text : List ℕ → Text
size_text bytes = decimal (length bytes)

-- the values of the facts of a source and an image, with what the program says of itself
abbrev pub values_of : (source image : List ℕ) → (maker : List Text) → List Text
values_of source image maker = sum_text source ∷ size_text source ∷ sum_text image ∷ size_text image ∷ maker

-- the text is a certificate of this source and this image
abbrev pub Certifies : (source image : List ℕ) → Text → Type 0
Certifies source image text = (maker : List Text) × (text ≡ certificate_text (values_of source image maker))

-- it is one, and says this of the stack
abbrev pub CertifiesWith : (source image : List ℕ) → (stack : Text) → Text → Type 0
CertifiesWith source image stack text =
    (target : Text) × (rest : List Text) × (text ≡ certificate_text (values_of source image (target ∷ stack ∷ rest)))
