-- Operands of array and record types: where they are, and what is known of them there.
use Rattle.std.proofs.Common.{◌≡◌, ℕ, suc, ◌+◌, ◌*◌, ◌/◌, ◌%◌, ◌<◌, ℤ, ◌&&◌, nat_le, List, [], ◌∷◌, ◌++◌, length}
use Rattle.std.proofs.Common.{slice_get, Some, refl, sym, ap, ◌∙◌, subst, arith, le-leb, lt-ltb}
use Rattle.ps_tree.specs.Types.{DataType}
use Rattle.ps_tree.specs.Tree.{Place, Structure, Literal, Contents}
use Rattle.tac_code.specs.declared.code.Block.{Block}
use Rattle.tac_code.specs.declared.code.Block.TheVariants.{Constant}
use Rattle.tac_code.specs.declared.code.Value.TheVariants.{Address}
use Rattle.tac_code.specs.declared.code.Instruction.TheVariants as i
use Rattle.tac_code.specs.Memory.{Living, known, constant_words, constant_at, value_in, load}
use Rattle.tac_code.specs.Meaning.{fetch, text_at, text_of}
use Rattle.tac_code.specs.declared.code.TheConstants.{BLOCK_LIMIT}
use Rattle.ps_meaning.specs.Values.{Value, OrdinalValue, NilValue, ObjectValue, SetValue, StructureValue}
use Rattle.ps_meaning.specs.Values.{components_of, text_values}
use Rattle.ps_meaning.specs.Worlds.{World, Gives, contents_in}
use Rattle.ps_meaning.specs.Expressions.{Caller, Held, HeldText, HeldSpot, contents_of, operand, access}
use Rattle.tac_code_steps.specs.Runs.{Stands}
use Rattle.tac_code_steps.proofs.Runs.{split}
use Rattle.tac_code_steps.proofs.Blocks.{word_read}
use Rattle.tac_code_steps.proofs.Temporaries.{put_same}
use Rattle.tac_code_steps.proofs.Instructions.{text_step, offset_step}
use Rattle.ps_lower_layout.specs.Shapes.{Shape, ByteShape, shape_of, word_count, byte_count, Whole}
use Rattle.ps_lower_layout.specs.Words.{filled, bytes_of, value_words}
use Rattle.ps_lower_layout.specs.Paths.{AreByteValues, HasShape}
use Rattle.ps_lower_code.specs.Values.{place_temporary, place_site, place_code, structure_code, structure_bytes}
use Rattle.ps_lower_code.specs.Fits.{ContentsFit}
use Rattle.ps_lower_relation.specs.Ghosts.{PlaceAt, Holds}
use Rattle.ps_lower_relation.specs.Here.{Setting, machine_of, code_in, Work, Activated, IsActive, AreSmall, Alive}
use Rattle.ps_lower_relation.specs.Here.{state, Keeps}
use Rattle.ps_lower_relation.specs.Outcomes.{Runs}
use Rattle.ps_lower_relation.specs.RunTime.{BytesAt}
use Rattle.ps_lower_relation.proofs.Bytes.{AreBytes, first_byte, other_bytes, text_bytes}
use Rattle.ps_lower_relation.proofs.ByteParts.{array_bytes}
use Rattle.ps_lower_relation.proofs.Places.{place_below, place_end}
use Rattle.ps_lower_relation.proofs.Spots.{memory_of, spot_value, spot_read}
use Rattle.ps_lower_constructs.specs.Openings.{plain_scope, Opening, scope_in, context_in, IsOpened}
use Rattle.ps_lower_constructs.proofs.Runs.{runs_bind, gives_word}
use Rattle.ps_lower_constructs.proofs.Kept.{place_grows}
use Rattle.ps_lower_constructs.proofs.Places.{base_is}
use Rattle.ps_lower_constructs.proofs.Selectors.{PlaceIn, PlaceRuns}

-- ---- strings of the text

text_fits : (text : List ℕ) → AreBytes text → AreByteValues (length text) (text_values text)
text_fits [] h = tt
text_fits (b ∷ rest) h = let l = first_byte b rest h
    in (
      ap (λ y. y && nat_le b 255) (le-leb 0 b (omega arith)) ∙ le-leb b 255 (omega (arith, l)),
      text_fits rest
          (other_bytes b rest h),
    )

pub text_back : (text : List ℕ) → AreBytes text → bytes_of (length text) (text_values text) ≡ text
text_back [] h = refl
text_back (b ∷ rest) h =
    let l = first_byte b rest h in
    let e : b % 256 ≡ b = omega (arith, l) in
    ap (λ x. x ∷ bytes_of (length rest) (text_values rest)) e ∙ ap (λ xs. b ∷ xs)
    (text_back rest (other_bytes b rest h))

pub filled_length : (text : List ℕ) → length (filled text) ≡ 4 * ((length text + 3) / 4)
filled_length [] = omega arith
filled_length (a ∷ []) = omega arith
filled_length (a ∷ b ∷ []) = omega arith
filled_length (a ∷ b ∷ c ∷ []) = omega arith
filled_length (a ∷ b ∷ c ∷ d ∷ rest) = let e = filled_length rest in omega (arith, e)

pub byte_values : (made : List ℕ) (n : ℕ) (first : ℤ) (v : Value) → HasShape made v (ByteShape n first)
    → AreByteValues n (components_of v)
byte_values made n first (StructureValue vs) h = h
byte_values made n first (OrdinalValue z) h = absurd h
byte_values made n first NilValue h = absurd h
byte_values made n first (ObjectValue z) h = absurd h
byte_values made n first (SetValue z) h = absurd h

abbrev pub count_of : Shape → ℕ
count_of (ByteShape n first) = n
count_of shape = 0

-- ---- what an operand holds

abbrev pub held_value : Held → World → Value
held_value (HeldText text) w = StructureValue (text_values text)
held_value (HeldSpot s) w = contents_in w s

pub contents_are : (h : Held) (w : World) → contents_of h w ≡ Gives (held_value h w) w
contents_are (HeldText text) w = refl
contents_are (HeldSpot s) w = refl

module _ (p : Setting) (c : Activated) where
  -- a constant of the routine, or a variable, at an address
  abbrev pub HeldAt : (made : List ℕ) → Shape → Held → Block → ℕ → Type 0
  HeldAt made shape (HeldText text) b o =
      (place : ℕ) × ((t : ℕ) × (b ≡ Constant c.routine place) × (o ≡ 0)
      × (fetch (code_in p) c.routine place ≡ Some (i.Text t (filled text))) × AreBytes text
      × (length text < BLOCK_LIMIT) × ((first : ℤ) × (shape ≡ ByteShape (length text) first)))
  HeldAt made shape (HeldSpot s) b o = PlaceAt p.program c.ghosts made s b o (Whole shape)

  -- and its address in a temporary
  pub record StructureIn (t : ℕ) (shape : Shape) (h : Held) (w : World) (k : Work) : Type 0 where
    pub block : Block
    pub offset : ℕ
    pub word : k.temporaries t ≡ Some (Address block offset)
    pub at : HeldAt w.made shape h block offset

  pub held_grows : (made more : List ℕ) (shape : Shape) (h : Held) (b : Block) (o : ℕ) → HeldAt made shape h b o
      → HeldAt (made ++ more) shape h b o
  held_grows made more shape (HeldText text) b o at = at
  held_grows made more shape (HeldSpot s) b o at = place_grows p c made more s b o (Whole shape) at

  pub structure_kept : (d x t : ℕ) (w w' : World) (k k' : Work) (shape : Shape) (h : Held) → t < d → Keeps d x w k w' k'
      → StructureIn t shape h w k → StructureIn t shape h w' k'
  structure_kept d x t w w' k k' shape h l kept r =
      record {
        block = r.block;
        offset = r.offset;
        word = kept.temporaries t l ∙ r.word;
        at = subst (λ made. HeldAt made shape h r.block r.offset) (sym kept.grown.1)
            (held_grows w.made kept.grown.0 shape h r.block r.offset r.at);
      }

  module _ (w : World) (count : ℕ) (holds : Holds p.program c.ghosts w count) where
    pub held_shape : (shape : Shape) (h : Held) (b : Block) (o : ℕ) → HeldAt w.made shape h b o → HasShape w.made
        (held_value h w) shape
    held_shape shape (HeldText text) b o at = subst (HasShape w.made (StructureValue (text_values text))) (sym at.1.6.1)
        (text_fits text at.1.4)
    held_shape shape (HeldSpot s) b o at = spot_value p.program w c.ghosts count holds s b o shape at

    -- the words of its value
    pub held_reads : (scratch : List Living) (shape : Shape) (h : Held) (b : Block) (o : ℕ) → HeldAt w.made shape h b o
        → (j : ℕ) → j < word_count shape → load (text_at (code_in p)) (memory_of p.program w c.ghosts scratch) b
        (o + 4 * j) ≡ known (slice_get (value_words shape (held_value h w)) j)
    held_reads scratch shape (HeldText text) b o at j l =
        let z : o + 4 * j ≡ 4 * j = let e = at.1.2 in omega (arith, e) in
        let memory = memory_of p.program w c.ghosts scratch in
        ap (λ y. load (text_at (code_in p)) memory y (o + 4 * j)) at.1.1
        ∙ ap (load (text_at (code_in p)) memory (Constant c.routine at.0)) z
        ∙ ap (λ y. value_in (constant_at (text_of y)) (4 * j)) at.1.3
        ∙ word_read (constant_words (filled text)) j
        ∙ ap (λ bytes. known (slice_get (constant_words (filled bytes)) j)) (sym (text_back text at.1.4))
        ∙ ap (λ y. known (slice_get (value_words y (StructureValue (text_values text))) j)) (sym at.1.6.1)
    held_reads scratch shape (HeldSpot s) b o at j l = spot_read p.program w c.ghosts count holds
        (text_at (code_in p)) scratch s b o shape j at l

    -- the bytes of a string
    pub held_bytes : (scratch : List Living) (n : ℕ) (first : ℤ) (h : Held) (b : Block) (o : ℕ) → HeldAt w.made
        (ByteShape n first) h b o → BytesAt p (memory_of p.program w c.ghosts scratch) b o
        (bytes_of n (components_of (held_value h w)))
    held_bytes scratch n first (HeldText text) b o at =
        let same : n ≡ length text = ap count_of at.1.6.1 in
        let memory = memory_of p.program w c.ghosts scratch in
        subst (λ y. BytesAt p memory y o (bytes_of n (text_values text))) (sym at.1.1)
        (subst (λ y. BytesAt p memory (Constant c.routine at.0) y (bytes_of n (text_values text))) (sym at.1.2)
        (subst (BytesAt p memory (Constant c.routine at.0) 0)
        (sym (ap (λ y. bytes_of y (text_values text)) same ∙ text_back text at.1.4))
        (text_bytes p memory c.routine at.0 at.1.0 text at.1.4 at.1.3)))
    held_bytes scratch n first (HeldSpot s) b o at = λ j byte e. array_bytes p.program w c.ghosts count holds
        (text_at (code_in p)) scratch s b o n j byte first at e

    pub held_below : AreSmall p.program → (n : ℕ) (first : ℤ) (h : Held) (b : Block) (o : ℕ) → HeldAt w.made
        (ByteShape n first) h b o → o + n < BLOCK_LIMIT
    held_below small n first (HeldText text) b o at = let same : n ≡ length text = ap count_of at.1.6.1
        in let e = at.1.2 in let l = at.1.5 in omega (arith, same, e, l)
    held_below small n first (HeldSpot s) b o at = let l = place_end p.program c.ghosts small w count holds s b o
        (Whole (ByteShape n first)) at in omega (arith, l)

module _ (p : Setting) (n : ℕ) (call : Caller) (c : Activated) (active : IsActive p c) where
  abbrev pub StructureRuns : Structure → Type 0
  StructureRuns e =
      (shape : Shape) (t x : ℕ) (o : Opening) (w : World) (k : Work) (pc pc' : ℕ) → Alive p c w k → IsOpened p c w k t o
      → ContentsFit (plain_scope p c) o.shapes e shape → Stands (code_in p) c.routine pc
      (structure_code (scope_in p c o) e t x) pc'
      → Runs p (suc n) c t x w k pc pc' (operand call e (context_in c o) w) (λ h w' k'. StructureIn p c t shape h w' k')

  pub literal_structure : (text : List ℕ) → StructureRuns (Literal text)
  literal_structure text shape t x o w k pc pc' alive opened fits st =
      let word = Address (Constant c.routine pc) 0 in
      gives_word p (suc n) c t x w k pc pc' t word (λ w' k'. StructureIn p c t shape (HeldText text) w' k')
      (text_step (machine_of p) (state p c w k pc) t (filled text) st.0) st.1 (omega arith) alive
      (record {
        block = Constant c.routine pc;
        offset = 0;
        word = put_same k.temporaries t word;
        at = (pc, (t, refl, refl, st.0, fits.0, fits.1, fits.2));
      })

  pub contents_structure : (q : Place) (type : DataType) → PlaceRuns p n call c active q → StructureRuns
      (Contents q type)
  contents_structure q type place shape t x o w k pc pc' alive opened fits st =
      let code = scope_in p c o in
      let ctx = context_in c o in
      let site = place_site code q t in
      let cut = split (code_in p) c.routine pc (place_code code q t x)
      (i.Offset t site.base site.offset (byte_count (shape_of type)) ∷ []) pc' st in
      runs_bind p (suc n) c t x t x t x w k pc cut.0 pc' (access call q ctx w) (λ s w1. Gives (HeldSpot s) w1)
      (λ s w' k'. PlaceIn p n call c active site (place_temporary q t) s (Whole shape) w' k')
      (λ h w' k'. StructureIn p c t shape h w' k') (omega arith) (omega arith) (omega arith) (omega arith)
      (place t x o w k pc cut.0 (Whole shape) alive opened fits.1 cut.1)
      (λ s w1 k1 alive1 kept1 r.
      let at = r.0 in
      let far = at.offset + site.offset in
      let below = place_below p.program c.ghosts active.small w1 k1.count alive1.holds s at.block far
      (Whole shape) at.place in
      gives_word p (suc n) c t x w1 k1 cut.0 pc' t (Address at.block far)
      (λ w' k'. StructureIn p c t shape (HeldSpot s) w' k')
      (offset_step (machine_of p) (state p c w1 k1 cut.0) t site.base site.offset
      (byte_count (shape_of type)) at.block at.offset cut.2.0 (base_is c cut.0 k1.temporaries site.base ∙ at.base)
      (lt-ltb far BLOCK_LIMIT below)) cut.2.1 (omega arith) alive1
      (record {
        block = at.block;
        offset = far;
        word = put_same k1.temporaries t (Address at.block far);
        at = at.place;
      }))

  -- as many bytes as the shape's words have
  pub structure_size : (e : Structure) (o : Opening) (shape : Shape) → ContentsFit (plain_scope p c) o.shapes e shape
      → structure_bytes e ≡ byte_count shape
  structure_size (Literal text) o shape fits = filled_length text ∙ ap byte_count (sym fits.2.1)
  structure_size (Contents q type) o shape fits = ap byte_count fits.0
