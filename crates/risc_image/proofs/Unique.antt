-- Bytes are at most one image.
use Rattle.std.proofs.Common.{◌≡◌, ℕ, ◌*◌, List, [], ◌∷◌, ◌++◌, length, get_or, Option, Some, None, refl, sym, ap, ◌∙◌}
use Rattle.std.proofs.Common.{arith}
use Rattle.std.specs.Prelude.{unwrap_or}
use Rattle.std.specs.List.{flat_map}
use Rattle.risc_image.specs.declared.rows.FrameRow.{FrameRow}
use Rattle.risc_image.specs.declared.rows.ObjectRow.{ObjectRow}
use Rattle.risc_image.specs.declared.rows.TrapRow.{TrapRow}
use Rattle.risc_image.specs.declared.rows.CallRow.{CallRow}
use Rattle.risc_image.specs.Image.{Image, call_rows}
use Rattle.risc_image.specs.Format.{word_bytes, magic_of, count_of, frame_words, object_words, trap_words, call_words}
use Rattle.risc_image.specs.Format.{image_words, spelling, AreWords, IsImage}
use Rattle.risc_image.specs.Table.{words, frame_rows, object_rows, trap_rows, call_rows_of}
use Rattle.risc_image.proofs.Spelled.{words-word_bytes}
use Rattle.risc_image.proofs.RowLemmas.{frame_rows-spelled, object_rows-spelled, trap_rows-spelled, call_rows-spelled}

-- lists whose fronts have one length
pub append_split : {A : Type 0} (a b x y : List A) → length a ≡ length b → a ++ x ≡ b ++ y → (a ≡ b) × (x ≡ y)
append_split [] [] x y len e = (refl, e)
append_split [] (b ∷ bs) x y len e = absurd (omega arith)
append_split (a ∷ more) [] x y len e = absurd (omega arith)
append_split (a ∷ more) (b ∷ bs) x y len e =
    let rest : more ++ x ≡ bs ++ y = cc in
    let heads : a ≡ b = cc in
    let both = append_split more bs x y (omega arith) rest in
    ((let tails : more ≡ bs = both.0 in cc), both.1)

-- the words of rows
pub length-frame_words : (rows : List FrameRow) → length (flat_map frame_words rows) ≡ 2 * length rows
length-frame_words [] = refl
length-frame_words (row ∷ rows) = omega (arith, length-frame_words rows)

pub length-object_words : (rows : List ObjectRow) → length (flat_map object_words rows) ≡ 2 * length rows
length-object_words [] = refl
length-object_words (row ∷ rows) = omega (arith, length-object_words rows)

pub length-trap_words : (rows : List TrapRow) → length (flat_map trap_words rows) ≡ 3 * length rows
length-trap_words [] = refl
length-trap_words (row ∷ rows) = omega (arith, length-trap_words rows)

pub length-call_words : (rows : List CallRow) → length (flat_map call_words rows) ≡ 2 * length rows
length-call_words [] = refl
length-call_words (row ∷ rows) = omega (arith, length-call_words rows)

-- five cells
five_cells : (a b c d e a' b' c' d' e' : ℕ) (t t' : List ℕ) → a ∷ b ∷ c ∷ d ∷ e ∷ t ≡ a' ∷ b' ∷ c' ∷ d' ∷ e' ∷ t'
    → (a ≡ a') × (b ≡ b') × (c ≡ c') × (d ≡ d') × (e ≡ e') × (t ≡ t')
five_cells a b c d e a' b' c' d' e' t t' same = (cc, cc, cc, cc, cc, cc)

-- the code and the tables after a header
pub record SameTables (c d : Image) : Type 0 where
  pub code : c.code ≡ d.code
  pub frames : c.frames ≡ d.frames
  pub objects : c.objects ≡ d.objects
  pub traps : c.traps ≡ d.traps
  pub calls : call_rows c ≡ call_rows d

abbrev body : Image → List ℕ
body c = c.code ++ (flat_map frame_words c.frames
    ++ (flat_map object_words c.objects ++ (flat_map trap_words c.traps ++ flat_map call_words (call_rows c))))

same_tables : (c d : Image) → length c.code ≡ length d.code → length c.frames ≡ length d.frames → length c.objects
    ≡ length d.objects
    → length c.traps ≡ length d.traps → body c ≡ body d → SameTables c d
same_tables c d codes frames objects traps same =
    let s1 = append_split c.code d.code _ _ codes same in
    let s2 = append_split (flat_map frame_words c.frames) (flat_map frame_words d.frames) _ _
    (omega (arith, length-frame_words c.frames, length-frame_words d.frames)) s1.1 in
    let s3 = append_split (flat_map object_words c.objects) (flat_map object_words d.objects) _ _
    (omega (arith, length-object_words c.objects, length-object_words d.objects)) s2.1 in
    let s4 = append_split (flat_map trap_words c.traps) (flat_map trap_words d.traps) _ _
    (omega (arith, length-trap_words c.traps, length-trap_words d.traps)) s3.1 in
    record {
      code = s1.0;
      frames = sym (frame_rows-spelled c.frames) ∙ ap (λ (x : List ℕ). frame_rows x) s2.0 ∙ frame_rows-spelled d.frames;
      objects = sym (object_rows-spelled c.objects) ∙ ap (λ (x : List ℕ). object_rows x) s3.0
          ∙ object_rows-spelled d.objects;
      traps = sym (trap_rows-spelled c.traps) ∙ ap (λ (x : List ℕ). trap_rows x) s4.0 ∙ trap_rows-spelled d.traps;
      calls = sym (call_rows-spelled (call_rows c)) ∙ ap (λ (x : List ℕ). call_rows_of x) s4.1 ∙ call_rows-spelled
          (call_rows d);
    }

same_words : (c d : Image) → AreWords (image_words c) → AreWords (image_words d) → word_bytes (image_words c)
    ≡ word_bytes (image_words d) → image_words c ≡ image_words d
same_words c d fits fits' same =
    sym (words-word_bytes (image_words c) fits) ∙ ap (λ (x : List ℕ). words x) same ∙ words-word_bytes
    (image_words d) fits'

-- the call tables, of images of one version
abbrev SameCalls : Option (List CallRow) → Option (List CallRow) → Type 0
SameCalls calls calls' = (magic_of calls ≡ magic_of calls') → unwrap_or calls [] ≡ unwrap_or calls' [] → calls ≡ calls'

same_calls : (calls calls' : Option (List CallRow)) → SameCalls calls calls'
same_calls None None m e = refl
same_calls None (Some b) m e = absurd (omega (arith, ap (λ (x : List ℕ). get_or x 3 0) m))
same_calls (Some a) None m e = absurd (omega (arith, ap (λ (x : List ℕ). get_or x 3 0) m))
same_calls (Some a) (Some b) m e = cc

-- the counts of calls take one cell in both or in neither
count_length : (calls calls' : Option (List CallRow)) → magic_of calls ≡ magic_of calls' → length (count_of calls)
    ≡ length (count_of calls')
count_length None None m = refl
count_length None (Some b) m = absurd (omega (arith, ap (λ (x : List ℕ). get_or x 3 0) m))
count_length (Some a) None m = absurd (omega (arith, ap (λ (x : List ℕ). get_or x 3 0) m))
count_length (Some a) (Some b) m = refl

magic_length : (calls : Option (List CallRow)) → length (magic_of calls) ≡ 4
magic_length None = refl
magic_length (Some rows) = refl

pub spelling_once : (c d : Image) → AreWords (image_words c) → AreWords (image_words d) → spelling c ≡ spelling d → c
    ≡ d
spelling_once c d fits fits' same =
    let s = append_split (magic_of c.calls) (magic_of d.calls) _ _
    (magic_length c.calls ∙ sym (magic_length d.calls)) same in
    let ws : image_words c ≡ image_words d = same_words c d fits fits' s.1 in
    let h = five_cells _ _ _ _ _ _ _ _ _ _ _ _ ws in
    let b = append_split (count_of c.calls) (count_of d.calls) (body c) (body d) (count_length c.calls d.calls s.0) h.5
    in
    let t = same_tables c d h.1 h.2 h.3 h.4 b.1 in
    let globals : c.global ≡ d.global = h.0 in
    let calls : c.calls ≡ d.calls = same_calls c.calls d.calls s.0 t.calls in
    rw (globals, t.code, t.frames, t.objects, t.traps, calls) refl

pub image_once : (bytes : List ℕ) (c d : Image) → IsImage bytes c → IsImage bytes d → c ≡ d
image_once bytes c d is is' = spelling_once c d is.numbers is'.numbers (sym is.spelled ∙ is'.spelled)
