-- Required procedures (6.9, 6.6.5): reading, writing, new, pack and unpack.
use Rattle.std.proofs.Common.{◌≡◌, ℕ, Bool, true, false, if◌then◌else◌, List, [], ◌∷◌, Option}
use Rattle.std.proofs.Common.{Some, None, is_some, refl, sym, ◌∙◌, subst}
use Rattle.ps_syntax.specs.declared.expression.Expr.{Expr}
use Rattle.ps_syntax.specs.declared.statement.Parameter.{Parameter}
use Rattle.ps_syntax.specs.declared.statement.Parameter.TheVariants as p
use Rattle.ps_tree.specs.declared.types.Host.TheVariants.{Integer, Char, Boolean}
use Rattle.ps_tree.specs.declared.types.Ordinal.{Ordinal}
use Rattle.ps_tree.specs.Types.{DataType, OrdinalType, PointerType, NilType, SetType, EmptySetType, TextType}
use Rattle.ps_tree.specs.Types.{ArrayType, RecordType, is_same_host, is_same_type, string_length}
use Rattle.ps_tree.specs.Sizes.{fits_byte, value_count}
use Rattle.ps_tree.specs.Tree as Tree
use Rattle.ps_meaning.specs.Expressions.{index_of}
use Rattle.ps_tree.specs.Tree.{Statement}
use Rattle.ps_lower_layout.specs.Shapes.{Shape, ByteShape, ArrayShape, shape_of, first_of, Whole}
use Rattle.ps_lower_layout.specs.Paths.{NumberSort}
use Rattle.ps_lower_code.specs.Scopes.{Scope}
use Rattle.ps_lower_code.specs.First.{FirstFits}
use Rattle.ps_lower_code.specs.Fits.{PacksTo, IsArray}
use Rattle.tac_code.specs.Sound.{IsLine}
use Rattle.ps_lower_code.specs.Fits.{HasCells}
use Rattle.ps_lower_accepted.proofs.Counts.{known_cells}
use Rattle.ps_lower_code.specs.Fits.{HasIndex, PlaceFits, ExprFits, WidthFits, WriteFits}
use Rattle.ps_lower_accepted.proofs.Sound.{line_there}
use Rattle.ps_lower_code.specs.Fits.{WritesFit, ReadFits, ReadsFit, StatementFits, ArgumentsFit}
use Rattle.ps_lower_code.specs.Fits.{ArgumentFits}
use Rattle.ps_check_names.specs.declared.meaning.File.{File}
use Rattle.ps_check_names.specs.declared.meaning.File.TheVariants.{Input, Output}
use Rattle.ps_check_names.specs.declared.meaning.Required.{Required}
use Rattle.ps_check_names.specs.declared.meaning.Required.TheVariants as required
use Rattle.ps_check_judgement.specs.declared.refusal.Rule.TheVariants.{WrongType, NoInputOutput}
use Rattle.ps_check_judgement.specs.Judged.{Yes, No, provided, holds}
use Rattle.ps_check_judgement.proofs.Binds.{then_yes, provided_yes, if_yes, inside_yes, no_yes}
use Rattle.ps_check_judgement.proofs.Items.{there_is}
use Rattle.ps_check_names.specs.Regions.{Context, Region, Section, Sections, formals_of}
use Rattle.ps_check_names.specs.Spelling.{line_in}
use Rattle.ps_check_expressions.specs.Changed.{changed}
use Rattle.ps_check_expressions.specs.Calls.{parameters}
use Rattle.ps_check_expressions.specs.Values.{Value, SimpleValue, SetValue, StructureValue, Variable, argument_list}
use Rattle.ps_check_expressions.specs.Expressions.{operand}
use Rattle.ps_lower_layout.specs.Frames.{kinds_of}
use Rattle.ps_tree.specs.Tree.{Argument}
use Rattle.ps_syntax.specs.First.{first_of_expr}
use Rattle.ps_check_statements.specs.Procedures.{read_variable, ordinal_written, written, width_of, read_of, write_of}
use Rattle.ps_check_statements.specs.Procedures.{new_variable, Places, goes_with_pack, packed_from, unpacked_to}
use Rattle.ps_check_statements.specs.Procedures.{first_of_parameter, places_of, actual_parameter, actual_parameters}
use Rattle.ps_check_statements.specs.Procedures.{parameter_value, parameter_variable, parameter_index, names_file}
use Rattle.ps_check_statements.specs.Procedures.{unlisted_at, behind_file, read_parameter, read_parameters, width_at}
use Rattle.ps_check_statements.specs.Procedures.{write_parameter, write_parameters, new_statement, pack}
use Rattle.ps_check_statements.specs.Procedures.{pack_statement, unpack, unpack_statement, required_procedure}
use Rattle.ps_lower_accepted.proofs.Assigned.{range_there}
use Rattle.ps_lower_accepted.proofs.Calls.{kind_of_section, kinds_listed, kinds_are, parameters_known, congruent_gives}
use Rattle.ps_lower_accepted.proofs.Calls.{actual_told, ordinal_told}
use Rattle.ps_lower_accepted.proofs.Firsts.{first_fits}
use Rattle.ps_lower_accepted.proofs.Lists.{Each, never, Gives, then_gives, still_then, then_still, then_same, Images}
use Rattle.ps_lower_accepted.proofs.Lists.{ImagesBoth, each_gives}
use Rattle.ps_lower_accepted.proofs.Same.{same_shape}
use Rattle.ps_lower_accepted.proofs.Selected.{no_byte, domain_there, whole_fits, number_part}
use Rattle.ps_lower_accepted.proofs.Standing.{SectionKnown, SectionsKnown, Here}
use Rattle.ps_lower_accepted.proofs.Strings.{string_fits}
use Rattle.ps_lower_accepted.proofs.Tables.{Table, TypeKnown}
use Rattle.ps_lower_accepted.proofs.Told.{bound_of, part_of, VariableTold, ValueTold, OperandTold}

length_there : (o : Option ℕ) → is_some o ≡ true → (n : ℕ) × (o ≡ Some n)
length_there None e = never e
length_there (Some n) e = (n, refl)

module _ (D : Table) (k : Scope) (os : List Shape) where
  -- ---- what is written (6.9.3)

  ordinal_written_fits : (at : ℕ) (e : Tree.Expr) (o : Ordinal) (width : Tree.Width) (w : Tree.WriteParameter)
      → ExprFits k os e NumberSort → WidthFits k os width → ordinal_written at e o width ≡ Yes w → WriteFits k os w
  unfolding ordinal_written
  ordinal_written_fits at e o width w f g q = whole (is_same_host o.host Integer) (is_same_host o.host Char)
      (is_same_host o.host Boolean) q
    where
      whole : (a b c : Bool) → (if a then Yes (Tree.WriteInteger e width)
          else (if b then Yes (Tree.WriteChar e width)
          else (if c then Yes (Tree.WriteBoolean e width) else No WrongType at))) ≡ Yes w → WriteFits k os w
      whole true b c h = subst (WriteFits k os) (inside_yes _ w h) (f, g)
      whole false true c h = subst (WriteFits k os) (inside_yes _ w h) (f, g)
      whole false false true h = subst (WriteFits k os) (inside_yes _ w h) (f, g)
      whole false false false h = absurd (no_yes h)

  written_fits : (at : ℕ) (v : Value) (width : Tree.Width) (w : Tree.WriteParameter) → ValueTold D k os v
      → WidthFits k os width → written at v width ≡ Yes w → WriteFits k os w
  unfolding written
  written_fits at (SimpleValue e (OrdinalType o)) width w h g q = ordinal_written_fits at e o width w h.1 g q
  written_fits at (SimpleValue e (PointerType n)) width w h g q = absurd (no_yes q)
  written_fits at (SimpleValue e NilType) width w h g q = absurd (no_yes q)
  written_fits at (SimpleValue e type) width w h g q = absurd h
  written_fits at (SetValue e type) width w h g q = absurd (no_yes q)
  written_fits at (StructureValue e type) width w h g q =
      let p = provided_yes (is_some (string_length type)) _ _ (Tree.WriteText e width) w q in
      let n = length_there (string_length type) p.0 in
      subst (WriteFits k os) p.1 ((string_fits D k os e type n.0 h n.1).0, g)

  width_fits : (at : ℕ) (v : Value) (line : ℕ) → IsLine line → (w : Tree.Width) → ValueTold D k os v
      → width_of at v line ≡ Yes w → WidthFits k os w
  unfolding width_of
  width_fits at (SimpleValue e (OrdinalType o)) line ln w h q = subst (WidthFits k os) (provided_yes _ _ _ _ w q).1
      (h.1, ln)
  width_fits at (SimpleValue e (PointerType n)) line ln w h q = absurd (no_yes q)
  width_fits at (SimpleValue e NilType) line ln w h q = absurd (no_yes q)
  width_fits at (SimpleValue e type) line ln w h q = absurd h
  width_fits at (SetValue e type) line ln w h q = absurd (no_yes q)
  width_fits at (StructureValue e type) line ln w h q = absurd (no_yes q)

  -- ---- what is read (6.9.1)

  read_fits : (at : ℕ) (v : Variable) (line : ℕ) → IsLine line → (r : Tree.ReadVariable) → VariableTold D k os v
      → read_variable at v.place v.type line ≡ Yes r → ReadFits k os r
  unfolding read_variable
  read_fits at v line ln r told q = go v.type told.known (λ b. told.small b) told.fits q
    where
      read_into : (o : Ordinal) (a b : Bool) → TypeKnown D (bound_of k) (OrdinalType o)
          → (told.byte ≡ true → fits_byte (OrdinalType o) ≡ true) → PlaceFits k os v.place
          (part_of told.byte (OrdinalType o)) → (if a then Yes (Tree.ReadChar v.place o.low o.high line)
          else (if b then Yes (Tree.ReadInteger v.place o.low o.high line) else No WrongType at)) ≡ Yes r
          → ReadFits k os r
      read_into o true b known small fits f = subst (ReadFits k os) (inside_yes _ r f) (
        part_of told.byte (OrdinalType o),
        fits,
        number_part D k os o told.byte,
        range_there D k os o told.byte known small,
        ln,
      )
      read_into o false true known small fits f = subst (ReadFits k os) (inside_yes _ r f) (
        part_of told.byte (OrdinalType o),
        fits,
        number_part D k os o told.byte,
        range_there D k os o told.byte known small,
        ln,
      )
      read_into o false false known small fits f = absurd (no_yes f)

      go : (type : DataType) → TypeKnown D (bound_of k) type → (told.byte ≡ true → fits_byte type ≡ true)
          → PlaceFits k os v.place (part_of told.byte type) → read_variable at v.place type line ≡ Yes r
          → ReadFits k os r
      go (OrdinalType o) known small fits f = read_into o (is_same_host o.host Char)
          (is_same_host o.host Integer) known small fits f
      go (PointerType n) known small fits f = absurd (no_yes f)
      go NilType known small fits f = absurd (no_yes f)
      go (SetType d l o) known small fits f = absurd (no_yes f)
      go EmptySetType known small fits f = absurd (no_yes f)
      go (TextType n) known small fits f = absurd (no_yes f)
      go (ArrayType at l i t) known small fits f = absurd (no_yes f)
      go (RecordType at l fs) known small fits f = absurd (no_yes f)

  -- ---- pack and unpack (6.6.5.4)

  -- what is packed, where it can be
  record PacksSo (from to : DataType) : Type 0 where
    shape : Shape
    unpacked : shape_of from ≡ ArrayShape (value_count (index_of from)) shape
    packed : PacksTo (shape_of to) (value_count (index_of to)) shape
    array : IsArray from
    indexed : HasIndex to
    filled : HasCells (shape_of to)

  bytes_or_words : (j : Ordinal) (t : DataType) (shape : Shape) (b : Bool) → TypeKnown D (bound_of k) t → fits_byte t
      ≡ b → shape ≡ shape_of t → PacksTo (if b then ByteShape (value_count j) (first_of t) else ArrayShape
      (value_count j) (shape_of t)) (value_count j) shape
  bytes_or_words j t shape false known e same = (refl, sym same)
  bytes_or_words j (OrdinalType o) shape true known e same = subst
      (PacksTo (ByteShape (value_count j) (first_of (OrdinalType o))) (value_count j)) (sym same) (refl, e)
  bytes_or_words j (PointerType n) shape true known e same = never e
  bytes_or_words j NilType shape true known e same = never e
  bytes_or_words j (SetType d l o) shape true known e same = never e
  bytes_or_words j EmptySetType shape true known e same = never e
  bytes_or_words j (TextType n) shape true known e same = never e
  bytes_or_words j (ArrayType at l i c) shape true known e same = never e
  bytes_or_words j (RecordType at l fs) shape true known e same = never e

  packs_so : (at : Places) (from to : DataType) (o : Ordinal) (u : _) → TypeKnown D (bound_of k) from → TypeKnown D
      (bound_of k) to → goes_with_pack at from to o ≡ Yes u → PacksSo from to
  unfolding goes_with_pack
  packs_so at (ArrayType a false i s) (ArrayType b true j t) o u f g e =
      let alike = if_yes (is_same_type s t) (holds (is_same_host o.host i.host) WrongType at.index) WrongType at.packed
      u e in
      record {
        shape = shape_of s;
        unpacked = refl;
        packed = bytes_or_words j t (shape_of s) (fits_byte t) g.2 refl
            (same_shape D (bound_of k) (bound_of k) s t f.2 g.2 alike.0);
        array = (refl, f.1.low, f.1.high, f.1.rises);
        indexed = g.1.rises;
        filled = known_cells D (bound_of k) (ArrayType b true j t) g;
      }
  packs_so at (ArrayType a true i s) (ArrayType b l j t) o u f g e = absurd (no_yes e)
  packs_so at (ArrayType a false i s) (ArrayType b false j t) o u f g e = absurd (no_yes e)
  packs_so at (ArrayType a l i s) to o u f g e = absurd (no_yes e)
  packs_so at from to o u f g e = absurd (no_yes e)

  variable_whole : (v : Variable) → VariableTold D k os v → (told : fits_byte v.type ≡ false) → PlaceFits k os v.place
      (Whole (shape_of v.type))
  variable_whole v told e = whole_fits D k os v.place v.type told.byte told.fits
      (no_byte told.byte (λ b. sym e ∙ told.small b))

  first_of_pack : (at : Places) (from to : DataType) (o : Ordinal) (u : _) → goes_with_pack at from to o ≡ Yes u
      → fits_byte from ≡ false
  unfolding goes_with_pack
  first_of_pack at (ArrayType a l i s) to o u e = refl
  first_of_pack at from to o u e = absurd (no_yes e)

  second_of_pack : (at : Places) (from to : DataType) (o : Ordinal) (u : _) → goes_with_pack at from to o ≡ Yes u
      → fits_byte to ≡ false
  unfolding goes_with_pack
  second_of_pack at (ArrayType a l i s) (ArrayType b m j t) o u e = refl
  second_of_pack at (ArrayType a l i s) to o u e = absurd (no_yes e)
  second_of_pack at from to o u e = absurd (no_yes e)

  packed_fits : (at : Places) (a z : Variable) (line : ℕ) → IsLine line → (x : Tree.Expr × Ordinal) (s : Statement)
      → VariableTold D k os a → VariableTold D k os z → ExprFits k os x.0 NumberSort → packed_from at a z line x
      ≡ Yes s → StatementFits k os s
  packed_fits at a z line ln x s told zt f q =
      let p = then_yes (goes_with_pack at a.type z.type x.1) _ s q in
      let so = packs_so at a.type z.type x.1 p.0 told.known zt.known p.1 in
      let from = variable_whole a told (first_of_pack at a.type z.type x.1 p.0 p.1) in
      let to = variable_whole z zt (second_of_pack at a.type z.type x.1 p.0 p.1) in
      subst (StatementFits k os) (inside_yes _ s p.2) (
        so.shape,
        so.unpacked,
        so.packed,
        so.array,
        from,
        f,
        to,
        so.indexed,
        so.filled,
        ln,
      )

  unpacked_fits : (at : Places) (z a : Variable) (line : ℕ) → IsLine line → (x : Tree.Expr × Ordinal) (s : Statement)
      → VariableTold D k os z → VariableTold D k os a → ExprFits k os x.0 NumberSort → unpacked_to at z a line x
      ≡ Yes s → StatementFits k os s
  unpacked_fits at z a line ln x s zt told f q =
      let p = then_yes (goes_with_pack at a.type z.type x.1) _ s q in
      let so = packs_so at a.type z.type x.1 p.0 told.known zt.known p.1 in
      let from = variable_whole z zt (second_of_pack at a.type z.type x.1 p.0 p.1) in
      let to = variable_whole a told (first_of_pack at a.type z.type x.1 p.0 p.1) in
      subst (StatementFits k os) (inside_yes _ s p.2) (
        so.shape,
        so.unpacked,
        so.packed,
        so.array,
        from,
        to,
        f,
        so.indexed,
        so.filled,
        ln,
      )

  module _ (c : Context) (Γ : List Region) (here : Here c Γ D k os) where
    -- ---- new (6.6.5.3)

    new_fits : (at : ℕ) (v : Variable) (line : ℕ) → IsLine line → (s : Statement) → VariableTold D k os v
        → new_variable at v.place v.type line ≡ Yes s → StatementFits k os s
    unfolding new_variable
    new_fits at v line ln s told q = go v.type told.known (λ b. told.small b) told.fits q
      where
        go : (type : DataType) → TypeKnown D (bound_of k) type → (told.byte ≡ true → fits_byte type ≡ true)
            → PlaceFits k os v.place (part_of told.byte type) → new_variable at v.place type line ≡ Yes s
            → StatementFits k os s
        go (PointerType n) known small fits f =
            let domain = there_is k.program.domains n known in
            let w = whole_fits D k os v.place (PointerType n) told.byte fits (no_byte told.byte small) in
            subst (StatementFits k os) (inside_yes _ s f) (
              w,
              known,
              subst (λ t. FirstFits (shape_of t)) (sym (domain_there k.program.domains n domain.0 domain.1))
                  (first_fits D (bound_of k) domain.0 (here.targets n domain.0 domain.1)),
              ln,
            )
        go (OrdinalType o) known small fits f = absurd (no_yes f)
        go NilType known small fits f = absurd (no_yes f)
        go (SetType d l o) known small fits f = absurd (no_yes f)
        go EmptySetType known small fits f = absurd (no_yes f)
        go (TextType n) known small fits f = absurd (no_yes f)
        go (ArrayType at l i t) known small fits f = absurd (no_yes f)
        go (RecordType at l fs) known small fits f = absurd (no_yes f)

    -- ---- parameters, each of whose expressions is known

    abbrev pub ParameterTold : Parameter → Type 0
    ParameterTold x = ((y : Expr) → x ≡ p.Plain y → OperandTold D k os (operand c Γ y))
        × ((y w : Expr) → x ≡ p.Width y w → OperandTold D k os (operand c Γ y) × OperandTold D k os (operand c Γ w))

    value_there : (x : Parameter) (v : Value) → ParameterTold x → Gives (parameter_value c Γ x) v → ValueTold D k os v
    unfolding parameter_value
    value_there (p.Plain y) v h q = let told = h.0 y refl in told.value v q
    value_there (p.Width y w) v h q = absurd (no_yes q.given)

    variable_there : (x : Parameter) (v : Variable) → ParameterTold x → Gives (parameter_variable c Γ x) v
        → VariableTold D k os v
    unfolding parameter_variable
    variable_there (p.Plain y) v h q = let told = h.0 y refl in told.variable v q
    variable_there (p.Width y w) v h q = absurd (no_yes q.given)

    index_there : (x : Parameter) (i : Tree.Expr × Ordinal) → ParameterTold x → Gives (parameter_index c Γ x) i
        → ExprFits k os i.0 NumberSort
    index_there x i h q = let v = then_still (parameter_value c Γ x) _ i q
        in (ordinal_told D k os (first_of_parameter x) v.0 i (value_there x v.0 h v.1) v.2).1

    -- those after the file
    behind_there : (at : ℕ) (file : File) (listed : Bool) (xs ys : List Parameter) → Each ParameterTold xs
        → behind_file c Γ at file listed xs ≡ Yes ys → Each ParameterTold ys
    unfolding behind_file
    behind_there at file listed [] ys h q = subst (Each ParameterTold) (provided_yes listed _ _ [] ys q).1 tt
    behind_there at file listed (x ∷ xs) ys h q = go (names_file c Γ file x) q
      where
        go : (b : Bool) → (if b then Yes xs else provided listed NoInputOutput (unlisted_at c Γ at (x ∷ xs)) (x ∷ xs))
            ≡ Yes ys → Each ParameterTold ys
        go true f = subst (Each ParameterTold) (inside_yes xs ys f) h.1
        go false f = subst (Each ParameterTold) (provided_yes listed _ _ (x ∷ xs) ys f).1 h

    read_parameter_fits : (x : Parameter) (r : Tree.ReadVariable) → ParameterTold x → Gives (read_parameter c Γ x) r
        → ReadFits k os r
    unfolding read_parameter
    read_parameter_fits x r h q =
        let v = then_gives (parameter_variable c Γ x) _ r q in
        let p = then_still (changed c v.0.place (first_of_parameter x)) _ r v.2 in
        read_fits (first_of_parameter x) v.0 (line_in c.text (first_of_parameter x))
        (line_there c.text (first_of_parameter x) here.lines) r (variable_there x v.0 h v.1) p.2

    reads_fit : (xs : List Parameter) (rs : List Tree.ReadVariable) → Each ParameterTold xs → Images
        (read_parameter c Γ) xs rs → ReadsFit k os rs
    reads_fit [] [] h q = tt
    reads_fit (x ∷ xs) (r ∷ rs) h q =
        (read_parameter_fits x r h.0 q.0, reads_fit xs rs h.1 q.1)
    reads_fit [] (r ∷ rs) h q = absurd q
    reads_fit (x ∷ xs) [] h q = absurd q

    all_read : (at : ℕ) (xs : List Parameter) (rs : List Tree.ReadVariable) → Each ParameterTold xs → Gives
        (read_parameters c Γ at xs) rs → ReadsFit k os rs
    all_read at xs rs h q =
        let ys = still_then (behind_file c Γ at Input c.has_input xs) _ rs q in
        reads_fit ys.0 rs (behind_there at Input c.has_input xs ys.0 h ys.1)
        (each_gives (read_parameter c Γ) ys.0 rs ys.2)

    write_parameter_fits : (x : Parameter) (w : Tree.WriteParameter) → ParameterTold x → Gives (write_parameter c Γ x) w
        → WriteFits k os w
    unfolding write_parameter
    write_parameter_fits (p.Plain y) w h q =
        let v = then_still (operand c Γ y).value _ w q in
        let told = h.0 y refl in
        written_fits (first_of_expr y) v.0 Tree.DefaultWidth w (told.value v.0 v.1) tt v.2
    write_parameter_fits (p.Width y z) w h q =
        let v = then_gives (operand c Γ y).value _ w q in
        let width = then_still (width_at c Γ z) _ w v.2 in
        let n = then_still (operand c Γ z).value _ width.0 width.1 in
        let told = h.1 y z refl in
        written_fits (first_of_expr y) v.0 width.0 w (told.0.value v.0 v.1)
        (width_fits (first_of_expr z) n.0 (line_in c.text (first_of_expr z))
        (line_there c.text (first_of_expr z) here.lines) width.0 (told.1.value n.0 n.1) n.2) width.2

    writes_fit : (xs : List Parameter) (ws : List Tree.WriteParameter) → Each ParameterTold xs → Images
        (write_parameter c Γ) xs ws → WritesFit k os ws
    writes_fit [] [] h q = tt
    writes_fit (x ∷ xs) (w ∷ ws) h q =
        (write_parameter_fits x w h.0 q.0, writes_fit xs ws h.1 q.1)
    writes_fit [] (w ∷ ws) h q = absurd q
    writes_fit (x ∷ xs) [] h q = absurd q

    all_written : (at : ℕ) (xs : List Parameter) (ws : List Tree.WriteParameter) → Each ParameterTold xs → Gives
        (write_parameters c Γ at xs) ws → WritesFit k os ws
    all_written at xs ws h q =
        let ys = still_then (behind_file c Γ at Output c.has_output xs) _ ws q in
        writes_fit ys.0 ws (behind_there at Output c.has_output xs ys.0 h ys.1)
        (each_gives (write_parameter c Γ) ys.0 ws ys.2)

    -- ---- the required procedures

    read_of_fits : (at : ℕ) (rs : List Tree.ReadVariable) (s : Statement) → ReadsFit k os rs → read_of at rs ≡ Yes s
        → StatementFits k os s
    unfolding read_of
    read_of_fits at [] s h q = absurd (no_yes q)
    read_of_fits at (r ∷ rs) s h q = subst (StatementFits k os) (inside_yes _ s q) (here.outermost, h)

    write_of_fits : (at : ℕ) (ws : List Tree.WriteParameter) (s : Statement) → WritesFit k os ws → write_of at ws
        ≡ Yes s → StatementFits k os s
    unfolding write_of
    write_of_fits at [] s h q = absurd (no_yes q)
    write_of_fits at (w ∷ ws) s h q = subst (StatementFits k os) (inside_yes _ s q) h

    new_statement_fits : (at : ℕ) (xs : List Parameter) (s : Statement) → Each ParameterTold xs → Gives
        (new_statement c Γ at xs) s → StatementFits k os s
    unfolding new_statement
    new_statement_fits at [] s h q = absurd (no_yes q.given)
    new_statement_fits at (x ∷ []) s h q = let v = then_still (parameter_variable c Γ x) _ s q in new_fits
        (first_of_parameter x) v.0 (line_in c.text at) (line_there c.text at here.lines) s
        (variable_there x v.0 h.0 v.1) v.2
    new_statement_fits at (x ∷ y ∷ rest) s h q = absurd (no_yes q.given)

    pack_statement_fits : (at : ℕ) (xs : List Parameter) (s : Statement) → Each ParameterTold xs → Gives
        (pack_statement c Γ at xs) s → StatementFits k os s
    unfolding pack_statement pack
    pack_statement_fits at [] s h q = absurd (no_yes q.given)
    pack_statement_fits at (a ∷ []) s h q = absurd (no_yes q.given)
    pack_statement_fits at (a ∷ i ∷ []) s h q = absurd (no_yes q.given)
    pack_statement_fits at (a ∷ i ∷ z ∷ []) s h q =
        let from = then_gives (parameter_variable c Γ a) _ s q in
        let index = then_gives (parameter_index c Γ i) _ s from.2 in
        let to = then_still (parameter_variable c Γ z) _ s index.2 in
        packed_fits (places_of a z i) from.0 to.0 (line_in c.text (first_of_parameter i))
        (line_there c.text (first_of_parameter i) here.lines) index.0 s (variable_there a from.0 h.0 from.1)
        (variable_there z to.0 h.1.1.0 to.1) (index_there i index.0 h.1.0 index.1) to.2
    pack_statement_fits at (a ∷ i ∷ z ∷ b ∷ rest) s h q = absurd (no_yes q.given)

    unpack_statement_fits : (at : ℕ) (xs : List Parameter) (s : Statement) → Each ParameterTold xs → Gives
        (unpack_statement c Γ at xs) s → StatementFits k os s
    unfolding unpack_statement unpack
    unpack_statement_fits at [] s h q = absurd (no_yes q.given)
    unpack_statement_fits at (z ∷ []) s h q = absurd (no_yes q.given)
    unpack_statement_fits at (z ∷ a ∷ []) s h q = absurd (no_yes q.given)
    unpack_statement_fits at (z ∷ a ∷ i ∷ []) s h q =
        let from = then_gives (parameter_variable c Γ z) _ s q in
        let to = then_gives (parameter_variable c Γ a) _ s from.2 in
        let index = then_still (parameter_index c Γ i) _ s to.2 in
        unpacked_fits (places_of a z i) from.0 to.0 (line_in c.text (first_of_parameter i))
        (line_there c.text (first_of_parameter i) here.lines) index.0 s (variable_there z from.0 h.0 from.1)
        (variable_there a to.0 h.1.0 to.1) (index_there i index.0 h.1.1.0 index.1) index.2
    unpack_statement_fits at (z ∷ a ∷ i ∷ b ∷ rest) s h q = absurd (no_yes q.given)

    pub required_fits : (at : ℕ) (r : Required) (xs : List Parameter) (s : Statement) → Each ParameterTold xs → Gives
        (required_procedure c Γ at r xs) s → StatementFits k os s
    unfolding required_procedure
    required_fits at required.Read xs s h q = let rs = then_still (read_parameters c Γ at xs) _ s q
        in read_of_fits at rs.0 s (all_read at xs rs.0 h rs.1) rs.2
    required_fits at required.Readln xs s h q = let rs = then_same (read_parameters c Γ at xs) _ s q
        in subst (StatementFits k os) rs.2
        (here.outermost, all_read at xs rs.0 h rs.1, line_there c.text at here.lines)
    required_fits at required.Write xs s h q = let ws = then_still (write_parameters c Γ at xs) _ s q
        in write_of_fits at ws.0 s (all_written at xs ws.0 h ws.1) ws.2
    required_fits at required.Writeln xs s h q = let ws = then_same (write_parameters c Γ at xs) _ s q in subst
        (StatementFits k os) ws.2 (all_written at xs ws.0 h ws.1)
    required_fits at required.New xs s h q = new_statement_fits at xs s h q
    required_fits at required.Pack xs s h q = pack_statement_fits at xs s h q
    required_fits at required.Unpack xs s h q = unpack_statement_fits at xs s h q
    required_fits at r xs s h q = absurd (no_yes q.given)

    -- ---- actual parameters of a procedure

    parameter_passed : (section : Section) (x : Parameter) (a : Argument) → SectionKnown D (bound_of k) section
        → ParameterTold x → Gives (actual_parameter c Γ section x) a → ArgumentFits k os a (kind_of_section section)
    unfolding actual_parameter
    parameter_passed section (p.Plain y) a t h q = actual_told D k os c Γ here section (operand c Γ y) a t
        (h.0 y refl) q
    parameter_passed section (p.Width y w) a t h q = absurd (no_yes q.given)

    parameters_listed : (ss : List Section) (xs : List Parameter) (args : List Argument) → Each
        (SectionKnown D (bound_of k)) ss → Each ParameterTold xs → ImagesBoth
        (λ section p. actual_parameter c Γ section p) ss xs args → ArgumentsFit k os (argument_list args)
        (kinds_listed ss)
    parameters_listed [] [] [] t h q = refl
    parameters_listed (s ∷ ss) (x ∷ xs) (a ∷ args) t h q = (
      kind_of_section s,
      (kinds_listed ss, refl, parameter_passed s x a t.0 h.0 q.0, parameters_listed ss xs args t.1 h.1 q.1),
    )
    parameters_listed [] [] (a ∷ args) t h q = absurd q
    parameters_listed [] (x ∷ xs) args t h q = absurd q
    parameters_listed (s ∷ ss) [] args t h q = absurd q
    parameters_listed (s ∷ ss) (x ∷ xs) [] t h q = absurd q

    pub parameters_fit : (at : ℕ) (sections : Sections) (xs : List Parameter) (args : List Argument) → SectionsKnown D
        (bound_of k) sections → Each ParameterTold xs → Gives (actual_parameters c Γ at sections xs) args
        → ArgumentsFit k os (argument_list args) (kinds_of (formals_of sections))
    parameters_fit at sections xs args t h q = subst (ArgumentsFit k os (argument_list args))
        (sym (kinds_are sections)) (parameters_listed (parameters sections) xs args
        (parameters_known D (bound_of k) sections t) h
        (congruent_gives at (λ section p. actual_parameter c Γ section p) (parameters sections) xs args q))
