-- Calls that copy components between an array and a packed one.
use Rattle.std.proofs.Common.{◌≡◌, ℕ, suc, ◌+◌, ◌-◌, ◌*◌, ◌<◌, ◌≤◌, pos, true, false, List, [], ◌∷◌, length, Some, refl}
use Rattle.std.proofs.Common.{sym, ap, ◌∙◌, subst, arith, append-nil, add-mul, mul_left_comm}
use Rattle.std.proofs.lemmas.List.{length-map}
use Rattle.ps_tree.specs.Types.{DataType}
use Rattle.tac_code.specs.declared.code.Block.{Block}
use Rattle.tac_code.specs.declared.code.Block.TheVariants.{Frame as FrameBlock}
use Rattle.tac_code.specs.declared.code.Value.TheVariants.{Number as Numeral, Address}
use Rattle.tac_code.specs.declared.code.Instruction.TheVariants as i
use Rattle.tac_code.specs.Memory.{Memory}
use Rattle.tac_code.specs.Meaning.{values_of, and_more, put}
use Rattle.tac_code.specs.declared.code.TheConstants.{BLOCK_LIMIT}
use Rattle.ps_meaning.specs.Values.{Value, Spot, components_of, values_from, first_values}
use Rattle.ps_meaning.specs.Worlds.{World, contents_in, with_contents}
use Rattle.ps_meaning.specs.Expressions.{HeldSpot}
use Rattle.tac_code_steps.specs.Runs.{Stands, Comes}
use Rattle.tac_code_steps.proofs.Runs.{a_step, ◌>>◌}
use Rattle.tac_code_steps.proofs.Temporaries.{put_same, put_other}
use Rattle.tac_code_steps.proofs.Instructions.{literal_step}
use Rattle.ps_lower_layout.specs.Shapes.{Shape, NumberShape, PointerShape, SetShape, ByteShape, ArrayShape, RecordShape}
use Rattle.ps_lower_layout.specs.Shapes.{shape_of, word_count, component_bytes, Whole}
use Rattle.ps_lower_layout.specs.Words.{bytes_of}
use Rattle.ps_lower_layout.specs.Paths.{KeepsByte, HasShape}
use Rattle.ps_lower_layout.proofs.Counted.{bytes_length}
use Rattle.ps_lower_code.specs.Values.{is_byte_array}
use Rattle.ps_lower_code.specs.Statements.{components_code}
use Rattle.ps_lower_code.specs.Programs.{tac_of}
use Rattle.ps_lower_code.specs.Fits.{PacksTo}
use Rattle.ps_lower_relation.specs.Ghosts.{PlaceAt, EnvAt}
use Rattle.ps_lower_relation.specs.Here.{Setting, machine_of, code_in, Work, Activated, IsActive, chain_of, Alive}
use Rattle.ps_lower_relation.specs.Here.{state}
use Rattle.ps_lower_relation.specs.Outcomes.{Reached}
use Rattle.ps_lower_relation.specs.RunTime.{PackedUp, UnpackedUp, WritesDo}
use Rattle.ps_lower_relation.proofs.Places.{place_end}
use Rattle.ps_lower_relation.proofs.Spots.{memory_of, spot_holds}
use Rattle.ps_lower_relation.proofs.Spans.{goes_to}
use Rattle.ps_lower_relation.proofs.Packed.{taken, replaced, taken_shape, taken_copied, replaced_shape, values_there}
use Rattle.ps_lower_relation.proofs.Packed.{replaced_copied, numbers_fit, replaced_unpacked, packed_shape, taken_packed}
use Rattle.ps_lower_constructs.specs.Openings.{Opening, scope_in}
use Rattle.ps_lower_constructs.proofs.Runs.{with_temporary}
use Rattle.ps_lower_constructs.proofs.Checks.{written_made}
use Rattle.ps_lower_constructs.proofs.Writes.{numbered_more, is_fresh}
use Rattle.ps_lower_constructs.proofs.Structures.{StructureIn}
use Rattle.ps_lower_constructs.proofs.Copying.{copied_work, copied_state, copies_so, written_state}
use Rattle.ps_lower_constructs.proofs.Indexed.{ComponentIn}

module _ (p : Setting) (n : ℕ) (c : Activated) (active : IsActive p c) where
  -- ---- calls that copy

  module _ (does : WritesDo p) where
    -- a call has written a variable
    written_so : (d t amount : ℕ) (w : World) (k : Work) (pc pc' : ℕ) (s : Spot) (b : Block) (o : ℕ) (shape : Shape)
        (v : Value) → d ≤ t → Alive p c w k → PlaceAt p.program c.ghosts w.made s b o (Whole shape)
        → HasShape w.made v shape → KeepsByte v shape
        → Comes (machine_of p) (state p c w k pc)
        (copied_state p c active does w (copied_work p c active does k t amount) pc'
        (memory_of p.program (with_contents w s v) c.ghosts (record {
          number = c.number;
          words = k.scratch;
        } ∷ c.waiting)))
        → Reached p c d 0 w k (state p c w k pc) pc' (λ w' k'. Unit {0}) (with_contents w s v)
    written_so d t amount w k pc pc' s b o shape v l alive at shaped kept comes =
        let w' = with_contents w s v in
        let k2 = copied_work p c active does k t amount in
        let same = written_made p n c active w s.root s.path v in
        let h = spot_holds p.program w c.ghosts k.count alive.holds s b o shape v at
        (goes_to w.made s.path v shape shaped kept) in
        record {
          work = k2;
          alive = record {
            holds = record {
              fits = h.fits;
              objects = h.objects;
              names = h.names;
              numbered = numbered_more c.ghosts k.count (suc k.count) (omega arith) h.numbered;
              input = h.input;
            };
            stands = subst (λ m. EnvAt p.program c.ghosts m c.env (Address (FrameBlock c.number) 0) (chain_of c))
                (sym same) alive.stands;
            room = alive.room;
          };
          keeps = record {
            temporaries = λ j below. let apart : j ≡ t → ⊥ = λ e. omega (arith, below, l, e) in put_other
                (put k.temporaries t (Numeral (pos amount))) t (Numeral (pos 0)) j apart ∙ put_other k.temporaries t
                (Numeral (pos amount)) j apart;
            scratch = λ j below. refl;
            grown = ([], same ∙ sym (append-nil w.made));
          };
          comes = subst (Comes (machine_of p) (state p c w k pc))
              (written_state p c active does w k2 pc' s.root s.path v) comes;
          result = tt;
        }

    -- bytes are packed by the run-time routine
    packs_so : (w : World) (k : Work) (pc pc' to from t : ℕ) (bytes : List ℕ) (b : Block) (o : ℕ) (source : Block)
        (start : ℕ) (memory : Memory) → to < t → from < t → Alive p c w k → k.temporaries to ≡ Some (Address b o)
        → k.temporaries from ≡ Some (Address source start) → PackedUp p
        (state p c w k pc).memory b o source start bytes memory → o + length bytes < BLOCK_LIMIT → start
        + 4 * length bytes < BLOCK_LIMIT
        → Stands (code_in p) c.routine pc (i.Literal t (pos (length bytes)) ∷ i.Call t (length p.program.routines + 8)
        (to ∷ from ∷ t ∷ []) 1 ∷ []) pc' → Comes (machine_of p) (state p c w k pc)
        (copied_state p c active does w (copied_work p c active does k t (length bytes)) pc' memory)
    packs_so w k pc pc' to from t bytes b o source start memory lt lf alive ht hf packing room room' st =
        let count = Numeral (pos (length bytes)) in
        let k1 = with_temporary k t count in
        let alive1 : Alive p c w k1 = record { holds = alive.holds; stands = alive.stands; room = alive.room } in
        let s = state p c w k pc in
        let s1 = state p c w k1 (suc pc) in
        let n1 : to ≡ t → ⊥ = λ e. omega (arith, lt, e) in
        let n2 : from ≡ t → ⊥ = λ e. omega (arith, lf, e) in
        let values : values_of k1.temporaries (to ∷ from ∷ t ∷ []) ≡ Some
        (Address b o ∷ Address source start ∷ count ∷ []) =
        ap (λ v. and_more v (and_more (k1.temporaries from) (and_more (k1.temporaries t) (Some []))))
        (put_other k.temporaries t count to n1 ∙ ht)
        ∙ ap (λ v. and_more (Some (Address b o)) (and_more v (and_more (k1.temporaries t) (Some []))))
        (put_other k.temporaries t count from n2 ∙ hf)
        ∙ ap (λ v. and_more (Some (Address b o)) (and_more (Some (Address source start)) (and_more v (Some []))))
        (put_same k.temporaries t count) in
        let law = does.packed b o source start bytes s1.memory memory s1.tape packing room room' in
        let call = subst (λ m. Stands (code_in p) c.routine (suc pc) (i.Call t (m + 8) (to ∷ from ∷ t ∷ []) 1 ∷ []) pc')
        (sym (length-map p.program.routines (tac_of p.program))) st.1 in
        a_step s s1 (literal_step (machine_of p) s t (pos (length bytes)) st.0)
        >> subst (λ q. Comes (machine_of p) s1 (copied_state p c active does w
        (copied_work p c active does k t (length bytes)) q memory)) call.1
        (law.by s1 t 1 (to ∷ from ∷ t ∷ []) refl refl (is_fresh p c active w k1 (suc pc) alive1) values call.0)

    -- bytes are unpacked by the run-time routine
    unpacks_so : (w : World) (k : Work) (pc pc' to from t : ℕ) (bytes : List ℕ) (b : Block) (o : ℕ) (source : Block)
        (start : ℕ) (memory : Memory) → to < t → from < t → Alive p c w k → k.temporaries to ≡ Some (Address b o)
        → k.temporaries from ≡ Some (Address source start) → UnpackedUp p
        (state p c w k pc).memory b o source start bytes memory → o + 4 * length bytes < BLOCK_LIMIT → start
        + length bytes < BLOCK_LIMIT
        → Stands (code_in p) c.routine pc (i.Literal t (pos (length bytes)) ∷ i.Call t (length p.program.routines + 9)
        (to ∷ from ∷ t ∷ []) 1 ∷ []) pc' → Comes (machine_of p) (state p c w k pc)
        (copied_state p c active does w (copied_work p c active does k t (length bytes)) pc' memory)
    unpacks_so w k pc pc' to from t bytes b o source start memory lt lf alive ht hf unpacked room room' st =
        let count = Numeral (pos (length bytes)) in
        let k1 = with_temporary k t count in
        let alive1 : Alive p c w k1 = record { holds = alive.holds; stands = alive.stands; room = alive.room } in
        let s = state p c w k pc in
        let s1 = state p c w k1 (suc pc) in
        let n1 : to ≡ t → ⊥ = λ e. omega (arith, lt, e) in
        let n2 : from ≡ t → ⊥ = λ e. omega (arith, lf, e) in
        let values : values_of k1.temporaries (to ∷ from ∷ t ∷ []) ≡ Some
        (Address b o ∷ Address source start ∷ count ∷ []) =
        ap (λ v. and_more v (and_more (k1.temporaries from) (and_more (k1.temporaries t) (Some []))))
        (put_other k.temporaries t count to n1 ∙ ht)
        ∙ ap (λ v. and_more (Some (Address b o)) (and_more v (and_more (k1.temporaries t) (Some []))))
        (put_other k.temporaries t count from n2 ∙ hf)
        ∙ ap (λ v. and_more (Some (Address b o)) (and_more (Some (Address source start)) (and_more v (Some []))))
        (put_same k.temporaries t count) in
        let law = does.unpacked b o source start bytes s1.memory memory s1.tape unpacked room room' in
        let call = subst (λ m. Stands (code_in p) c.routine (suc pc) (i.Call t (m + 9) (to ∷ from ∷ t ∷ []) 1 ∷ []) pc')
        (sym (length-map p.program.routines (tac_of p.program))) st.1 in
        a_step s s1 (literal_step (machine_of p) s t (pos (length bytes)) st.0)
        >> subst (λ q. Comes (machine_of p) s1 (copied_state p c active does w
        (copied_work p c active does k t (length bytes)) q memory)) call.1
        (law.by s1 t 1 (to ∷ from ∷ t ∷ []) refl refl (is_fresh p c active w k1 (suc pc) alive1) values call.0)

    -- the first components of an array from an index on go to another one
    taken_so : (d t from to number : ℕ) (w : World) (k : Work) (pc pc' : ℕ) (type : DataType) (whole part : ℕ)
        (shape : Shape) (s u : Spot) (b : Block) (o : ℕ) → d ≤ t → from < t → to < t → shape_of type
        ≡ ArrayShape whole shape → number + part ≤ whole → Alive p c w k
        → ComponentIn p n c active from type s number w k
        → k.temporaries to ≡ Some (Address b o) → PlaceAt p.program c.ghosts w.made u b o
        (Whole (ArrayShape part shape))
        → Stands (code_in p) c.routine pc (i.Literal t (pos (part * component_bytes (shape_of type))) ∷ i.Call t
        (length p.program.routines + 0) (to ∷ from ∷ t ∷ []) 1 ∷ []) pc'
        → Reached p c d 0 w k (state p c w k pc) pc' (λ w' k'. Unit {0})
        (with_contents w u (taken number part (contents_in w s)))
    taken_so d t from to number w k pc pc' type whole part shape s u b o ld lf lt is fits alive r word at st =
        let rest = whole - (number + part) in
        let all : whole ≡ number + (part + rest) = omega (arith, fits) in
        let same : shape_of type ≡ ArrayShape (number + (part + rest)) shape = is ∙ ap (λ m. ArrayShape m shape) all in
        let width : component_bytes (shape_of type) ≡ 4 * word_count shape = ap component_bytes is in
        let source = subst (λ y. PlaceAt p.program c.ghosts w.made s r.block r.offset (Whole y)) same r.place in
        let scratch = record { number = c.number; words = k.scratch } ∷ c.waiting in
        let size = word_count shape in
        let far : r.offset + number * component_bytes (shape_of type) ≡ r.offset + 4 *
        (number * size) = ap (λ y. r.offset + number * y) width ∙ ap (λ y. r.offset + y)
        (mul_left_comm number 4 size) in
        let bytes : part * component_bytes (shape_of type) ≡ 4 * (part * size) = ap (λ y. part * y) width
        ∙ mul_left_comm part 4 size in
        let ends = place_end p.program c.ghosts active.small w k.count alive.holds u b o
        (Whole (ArrayShape part shape)) at in
        let ends' = place_end p.program c.ghosts active.small w k.count alive.holds s r.block r.offset
        (Whole (ArrayShape (number + (part + rest)) shape)) source in
        let sizes = add-mul number (part + rest) size in
        let inner_sizes = add-mul part rest size in
        written_so d t (4 * (part * size)) w k pc pc' u b o (ArrayShape part shape)
        (taken number part (contents_in w s)) ld alive at
        (taken_shape p w c.ghosts k.count alive.holds scratch u b o number part rest shape at s r.block r.offset
        source) tt
        (copies_so p c active does w k pc pc' to from t (part * size) b o r.block (r.offset + 4 * (number * size))
        (memory_of p.program (with_contents w u (taken number part (contents_in w s))) c.ghosts scratch) lt lf alive
        word (r.word ∙ ap (λ y. Some (Address r.block y)) far)
        (taken_copied p w c.ghosts k.count alive.holds scratch u b o number part rest shape at s r.block r.offset
        source) (omega (arith, ends)) (omega (arith, ends', sizes, inner_sizes))
        (subst (λ y. Stands (code_in p) c.routine pc
        (i.Literal t (pos y) ∷ i.Call t (length p.program.routines + 0) (to ∷ from ∷ t ∷ []) 1 ∷ []) pc') bytes st))

    -- and to an array of bytes
    pub packed_so : (target : Shape) (d t from to number : ℕ) (opening : Opening) (w : World) (k : Work) (pc pc' : ℕ)
        (type : DataType) (whole part : ℕ) (shape : Shape) (s u : Spot) (b : Block) (o : ℕ) → d ≤ t → from < t → to < t
        → shape_of type ≡ ArrayShape whole shape → PacksTo target part shape → number + part ≤ whole → Alive p c w k
        → ComponentIn p n c active from type s number w k → k.temporaries to ≡ Some (Address b o)
        → PlaceAt p.program c.ghosts w.made u b o (Whole target)
        → Stands (code_in p) c.routine pc (components_code (scope_in p c opening) true from to part false
        (is_byte_array target) (component_bytes (shape_of type)) t) pc'
        → Reached p c d 0 w k (state p c w k pc) pc' (λ w' k'. Unit {0})
        (with_contents w u (taken number part (contents_in w s)))
    packed_so (ArrayShape m inner) d t from to number opening w k pc pc' type whole part shape s u b o ld lf lt is both
        fits alive r word at st =
        let into = subst (λ y. PlaceAt p.program c.ghosts w.made u b o (Whole y))
        (ap (λ y. ArrayShape y inner) both.0 ∙ ap (λ y. ArrayShape part y) both.1) at in
        taken_so d t from to number w k pc pc' type whole part shape s u b o ld lf lt is fits alive r word into st
    packed_so (ByteShape m first') d t from to number opening w k pc pc' type whole part
        (NumberShape first narrow) s u b o ld lf lt is both fits alive r word at st =
        let rest = whole - (number + part) in
        let all : whole ≡ number + (part + rest) = omega (arith, fits) in
        let same : shape_of type ≡ ArrayShape (number + (part + rest)) (NumberShape first true) = is
        ∙ ap (λ y. ArrayShape y (NumberShape first narrow)) all
        ∙ ap (λ y. ArrayShape (number + (part + rest)) (NumberShape first y)) both.1 in
        let width : component_bytes (shape_of type) ≡ 4 = ap component_bytes is in
        let into = subst (λ y. PlaceAt p.program c.ghosts w.made u b o (Whole (ByteShape y first'))) both.0 at in
        let source = subst (λ y. PlaceAt p.program c.ghosts w.made s r.block r.offset (Whole y)) same r.place in
        let scratch = record { number = c.number; words = k.scratch } ∷ c.waiting in
        let far : r.offset + number * component_bytes (shape_of type) ≡ r.offset
        + 4 * number = let x = ap (λ y. number * y) width in omega (arith, x) in
        let ends = place_end p.program c.ghosts active.small w k.count alive.holds u b o
        (Whole (ByteShape part first')) into in
        let ends' = place_end p.program c.ghosts active.small w k.count alive.holds s r.block r.offset
        (Whole (ArrayShape (number + (part + rest)) (NumberShape first true))) source in
        let bytes = bytes_of part (first_values part (values_from (components_of (contents_in w s)) number)) in
        let long = bytes_length part (first_values part (values_from (components_of (contents_in w s)) number)) in
        written_so d t (length bytes) w k pc pc' u b o (ByteShape part first')
        (taken number part (contents_in w s)) ld alive into
        (packed_shape p w c.ghosts k.count alive.holds scratch u b o number part rest first first' into s r.block
        r.offset source) tt
        (packs_so w k pc pc' to from t bytes b o r.block (r.offset + 4 * number)
        (memory_of p.program (with_contents w u (taken number part (contents_in w s))) c.ghosts scratch) lt lf alive
        word (r.word ∙ ap (λ y. Some (Address r.block y)) far)
        (taken_packed p w c.ghosts k.count alive.holds scratch u b o number part rest first first' into s r.block
        r.offset source) (omega (arith, ends, long)) (omega (arith, ends', long))
        (subst (λ y. Stands (code_in p) c.routine pc
        (i.Literal t (pos y) ∷ i.Call t (length p.program.routines + 8) (to ∷ from ∷ t ∷ []) 1 ∷ []) pc')
        (sym long) st))
    packed_so (ByteShape m first') d t from to number opening w k pc pc' type whole part
        (PointerShape y) s u b o ld lf lt is both fits alive r word at st = absurd both
    packed_so (ByteShape m first') d t from to number opening w k pc pc' type whole part SetShape s u b o ld lf lt is
        both fits alive r word at st = absurd both
    packed_so (ByteShape m first') d t from to number opening w k pc pc' type whole part
        (ByteShape y z) s u b o ld lf lt is both fits alive r word at st = absurd both
    packed_so (ByteShape m first') d t from to number opening w k pc pc' type whole part
        (ArrayShape y z) s u b o ld lf lt is both fits alive r word at st = absurd both
    packed_so (ByteShape m first') d t from to number opening w k pc pc' type whole part
        (RecordShape y) s u b o ld lf lt is both fits alive r word at st = absurd both
    packed_so (NumberShape first narrow) d t from to number opening w k pc pc' type whole part shape s u b o ld lf lt is
        both fits alive r word at st = absurd both
    packed_so (PointerShape y) d t from to number opening w k pc pc' type whole part shape s u b o ld lf lt is both fits
        alive r word at st = absurd both
    packed_so SetShape d t from to number opening w k pc pc' type whole part shape s u b o ld lf lt is both fits alive r
        word at st = absurd both
    packed_so (RecordShape y) d t from to number opening w k pc pc' type whole part shape s u b o ld lf lt is both fits
        alive r word at st = absurd both

    -- an array goes to the components of another one from an index on
    pub unpacked_so : (source : Shape) (d t from to number : ℕ) (o : Opening) (w : World) (k : Work) (pc pc' : ℕ)
        (type : DataType) (whole part : ℕ) (shape : Shape) (s u : Spot) → d ≤ t → from < t → to < t → shape_of type
        ≡ ArrayShape whole shape → PacksTo source part shape → number + part ≤ whole → Alive p c w k
        → StructureIn p c from source (HeldSpot s) w k → ComponentIn p n c active to type u number w k
        → Stands (code_in p) c.routine pc (components_code (scope_in p c o) false from to part
        (is_byte_array source) false (component_bytes source) t) pc'
        → Reached p c d 0 w k (state p c w k pc) pc' (λ w' k'. Unit {0})
        (with_contents w u (replaced number (contents_in w u) (contents_in w s)))
    unpacked_so (ArrayShape m inner) d t from to number o w k pc pc' type whole part shape s u ld lf lt is both fits
        alive r at st =
        let e = both.0 in
        let q = both.1 in
        let rest = whole - (number + part) in
        let all : whole ≡ number + (part + rest) = omega (arith, fits) in
        let same : shape_of type ≡ ArrayShape (number + (part + rest)) shape = is ∙ ap (λ y. ArrayShape y shape) all in
        let width : component_bytes (shape_of type) ≡ 4 * word_count shape = ap component_bytes is in
        let into = subst (λ y. PlaceAt p.program c.ghosts w.made u at.block at.offset (Whole y)) same at.place in
        let source = subst (λ y. PlaceAt p.program c.ghosts w.made s r.block r.offset (Whole y))
        (ap (λ y. ArrayShape y inner) e ∙ ap (λ y. ArrayShape part y) q) r.at in
        let scratch = record { number = c.number; words = k.scratch } ∷ c.waiting in
        let size = word_count shape in
        let far : at.offset + number * component_bytes (shape_of type) ≡ at.offset + 4 *
        (number * size) = ap (λ y. at.offset + number * y) width ∙ ap (λ y. at.offset + y)
        (mul_left_comm number 4 size) in
        let bytes : part * (4 * word_count inner) ≡ 4 * (part * size) = ap (λ y. part * (4 * word_count y)) q
        ∙ mul_left_comm part 4 size in
        let ends = place_end p.program c.ghosts active.small w k.count alive.holds u at.block at.offset
        (Whole (ArrayShape (number + (part + rest)) shape)) into in
        let ends' = place_end p.program c.ghosts active.small w k.count alive.holds s r.block r.offset
        (Whole (ArrayShape part shape)) source in
        let sizes = add-mul number (part + rest) size in
        let inner_sizes = add-mul part rest size in
        let values = values_there p w c.ghosts k.count alive.holds scratch u at.block at.offset number part rest shape
        into s r.block r.offset source in
        written_so d t (4 * (part * size)) w k pc pc' u at.block at.offset (ArrayShape (number + (part + rest)) shape)
        (replaced number (contents_in w u) (contents_in w s)) ld alive into
        (replaced_shape p w c.ghosts k.count alive.holds scratch u at.block at.offset number part rest shape into
        (contents_in w s) values) tt
        (copies_so p c active does w k pc pc' to from t (part * size) at.block
        (at.offset + 4 * (number * size)) r.block r.offset
        (memory_of p.program (with_contents w u (replaced number (contents_in w u) (contents_in w s))) c.ghosts
        scratch) lt lf alive (at.word ∙ ap (λ y. Some (Address at.block y)) far) r.word
        (replaced_copied p w c.ghosts k.count alive.holds scratch u at.block at.offset number part rest shape into s
        r.block r.offset source) (omega (arith, ends, sizes, inner_sizes)) (omega (arith, ends'))
        (subst (λ y. Stands (code_in p) c.routine pc
        (i.Literal t (pos y) ∷ i.Call t (length p.program.routines + 0) (to ∷ from ∷ t ∷ []) 1 ∷ []) pc') bytes st))
    unpacked_so (ByteShape m first) d t from to number o w k pc pc' type whole part
        (NumberShape first' narrow) s u ld lf lt is e fits alive r at st =
        let rest = whole - (number + part) in
        let all : whole ≡ number + (part + rest) = omega (arith, fits) in
        let same : shape_of type ≡ ArrayShape (number + (part + rest)) (NumberShape first' narrow) = is
        ∙ ap (λ y. ArrayShape y (NumberShape first' narrow)) all in
        let width : component_bytes (shape_of type) ≡ 4 = ap component_bytes is in
        let into = subst (λ y. PlaceAt p.program c.ghosts w.made u at.block at.offset (Whole y)) same at.place in
        let source = subst (λ y. PlaceAt p.program c.ghosts w.made s r.block r.offset (Whole (ByteShape y first))) e.0
        r.at in
        let scratch = record { number = c.number; words = k.scratch } ∷ c.waiting in
        let far : at.offset + number * component_bytes (shape_of type) ≡ at.offset
        + 4 * number = let x = ap (λ y. number * y) width in omega (arith, x) in
        let ends = place_end p.program c.ghosts active.small w k.count alive.holds u at.block at.offset
        (Whole (ArrayShape (number + (part + rest)) (NumberShape first' narrow))) into in
        let ends' = place_end p.program c.ghosts active.small w k.count alive.holds s r.block r.offset
        (Whole (ByteShape part first)) source in
        let bytes = bytes_of part (components_of (contents_in w s)) in
        let long = bytes_length part (components_of (contents_in w s)) in
        let values = numbers_fit p w c.ghosts k.count alive.holds scratch u at.block at.offset number part rest first'
        first narrow into s r.block r.offset source in
        written_so d t (length bytes) w k pc pc' u at.block at.offset
        (ArrayShape (number + (part + rest)) (NumberShape first' narrow))
        (replaced number (contents_in w u) (contents_in w s)) ld alive into
        (replaced_shape p w c.ghosts k.count alive.holds scratch u at.block at.offset number part rest
        (NumberShape first' narrow) into (contents_in w s) values) tt
        (unpacks_so w k pc pc' to from t bytes at.block (at.offset + 4 * number) r.block r.offset
        (memory_of p.program (with_contents w u (replaced number (contents_in w u) (contents_in w s))) c.ghosts
        scratch) lt lf alive (at.word ∙ ap (λ y. Some (Address at.block y)) far) r.word
        (replaced_unpacked p w c.ghosts k.count alive.holds scratch u at.block at.offset number part rest first' first
        narrow into s r.block r.offset source) (omega (arith, ends, long)) (omega (arith, ends', long))
        (subst (λ y. Stands (code_in p) c.routine pc
        (i.Literal t (pos y) ∷ i.Call t (length p.program.routines + 9) (to ∷ from ∷ t ∷ []) 1 ∷ []) pc')
        (sym long) st))
    unpacked_so (ByteShape m first) d t from to number o w k pc pc' type whole part
        (PointerShape y) s u ld lf lt is e fits alive r at st = absurd e
    unpacked_so (ByteShape m first) d t from to number o w k pc pc' type whole part SetShape s u ld lf lt is e fits
        alive r at st = absurd e
    unpacked_so (ByteShape m first) d t from to number o w k pc pc' type whole part
        (ByteShape y z) s u ld lf lt is e fits alive r at st = absurd e
    unpacked_so (ByteShape m first) d t from to number o w k pc pc' type whole part
        (ArrayShape y z) s u ld lf lt is e fits alive r at st = absurd e
    unpacked_so (ByteShape m first) d t from to number o w k pc pc' type whole part
        (RecordShape y) s u ld lf lt is e fits alive r at st = absurd e
    unpacked_so (NumberShape first narrow) d t from to number o w k pc pc' type whole part shape s u ld lf lt is e fits
        alive r at st = absurd e
    unpacked_so (PointerShape y) d t from to number o w k pc pc' type whole part shape s u ld lf lt is e fits alive r at
        st = absurd e
    unpacked_so SetShape d t from to number o w k pc pc' type whole part shape s u ld lf lt is e fits alive r at st =
        absurd e
    unpacked_so (RecordShape y) d t from to number o w k pc pc' type whole part shape s u ld lf lt is e fits alive r at
        st = absurd e
