-- Write statements of truths and strings.
use Rattle.ps_lower_constructs.proofs.Calling.{Callable}
use Rattle.std.proofs.Common.{◌≡◌, ℕ, zero, suc, ◌+◌, ◌%◌, ◌<◌, ◌≤◌, ℤ, pos, Bool, true, false, not, List, [], ◌∷◌}
use Rattle.std.proofs.Common.{◌++◌, length, Some, unwrap_or, refl, sym, ap, ◌∙◌, subst, arith}
use Rattle.std.specs.Prelude.{codes}
use Rattle.ps_tree.specs.Tree.{Expr, Width, Literal, Contents, Structure, WriteBoolean, WriteText}
use Rattle.tac_code.specs.declared.code.Block.TheVariants.{Constant}
use Rattle.tac_code.specs.declared.code.Value.TheVariants.{Number as Numeral, Address}
use Rattle.tac_code.specs.declared.code.Operand.TheVariants as operand
use Rattle.tac_code.specs.declared.code.Relation.TheVariants.{Equal}
use Rattle.tac_code.specs.declared.code.Instruction.TheVariants as i
use Rattle.tac_code.specs.Meaning.{related, fetch}
use Rattle.ps_meaning.specs.Values.{number_of, text_values}
use Rattle.ps_meaning.specs.Operators.{is_equal, is_true}
use Rattle.ps_meaning.specs.Text.{fitted, boolean_text}
use Rattle.ps_meaning.specs.Worlds.{World, Answer, Done, and_then, write_text}
use Rattle.ps_meaning.specs.Expressions.{Caller, value}
use Rattle.ps_meaning.specs.Statements.{Next, characters, width_value, write}
use Rattle.tac_code_steps.specs.Runs.{Stands, Comes}
use Rattle.tac_code_steps.proofs.Runs.{split, stay, a_step}
use Rattle.tac_code_steps.proofs.Temporaries.{put_same, put_other}
use Rattle.tac_code_steps.proofs.Instructions.{literal_step, text_step, jump_step, branch_step}
use Rattle.ps_lower_layout.specs.Words.{filled}
use Rattle.ps_lower_layout.specs.Paths.{NumberSort}
use Rattle.ps_lower_code.specs.Scopes.{Scope, even_from, held, beside}
use Rattle.ps_lower_code.specs.Calling.{width_calls}
use Rattle.ps_lower_code.specs.Programs.{tac_of}
use Rattle.ps_lower_code.specs.Statements.{expr_code, width_code, truth_text, write_code}
use Rattle.ps_lower_code.specs.Fits.{WriteFits}
use Rattle.ps_lower_code.proofs.Depths.{even_above, held_above}
use Rattle.ps_lower_relation.specs.Here.{Setting, machine_of, code_in, costs_in, Work, Activated, IsActive, Alive}
use Rattle.ps_lower_relation.specs.Here.{state, WordIn}
use Rattle.ps_lower_relation.specs.Outcomes.{Reached, Runs}
use Rattle.ps_lower_relation.specs.RunTime.{WritesDo}
use Rattle.ps_lower_relation.proofs.Numbers.{same_numbers}
use Rattle.ps_lower_relation.proofs.Bytes.{AreBytes, first_byte, other_bytes, text_bytes}
use Rattle.ps_lower_constructs.specs.Openings.{plain_scope, Opening, scope_in, context_in, IsOpened}
use Rattle.ps_lower_constructs.proofs.Runs.{with_temporary, runs_bind, runs_word, runs_from, keeps_refl, keeps_less}
use Rattle.ps_lower_constructs.proofs.Runs.{keeps_put}
use Rattle.ps_lower_constructs.proofs.Kept.{opened_kept}
use Rattle.ps_lower_constructs.proofs.Expressions.{expr_runs}
use Rattle.ps_lower_constructs.proofs.Writes.{string_written}
use Rattle.ps_lower_constructs.proofs.Output.{WidthIn, width_runs}
use Rattle.std.proofs.Common.{None, lt-ltb}
use Rattle.std.proofs.lemmas.List.{length-map}
use Rattle.ps_tree.specs.Types.{DataType}
use Rattle.ps_tree.specs.Tree.{Place}
use Rattle.tac_code.specs.declared.code.Block.{Block}
use Rattle.tac_code.specs.Meaning.{text_at}
use Rattle.tac_code.specs.declared.code.TheConstants.{BLOCK_LIMIT}
use Rattle.ps_meaning.specs.Values.{Spot, components_of}
use Rattle.ps_meaning.specs.Worlds.{Gives, contents_in}
use Rattle.ps_meaning.specs.Expressions.{HeldSpot, contents_of, access}
use Rattle.tac_code_steps.proofs.Instructions.{offset_step}
use Rattle.ps_lower_layout.specs.Shapes.{ByteShape, Whole, shape_of, byte_count}
use Rattle.ps_lower_layout.specs.Words.{bytes_of}
use Rattle.ps_lower_layout.proofs.Counted.{bytes_length}
use Rattle.ps_lower_code.specs.Scopes.{Site}
use Rattle.ps_lower_code.specs.Values.{text_length, place_temporary, place_site, place_code}
use Rattle.ps_lower_relation.specs.Ghosts.{PlaceAt}
use Rattle.ps_lower_relation.specs.Here.{SiteAt}
use Rattle.ps_lower_relation.proofs.Spots.{spot_value}
use Rattle.ps_lower_relation.proofs.Places.{place_below, place_end}
use Rattle.ps_lower_relation.proofs.ByteParts.{array_bytes, string_characters, bytes_small}
use Rattle.ps_lower_constructs.proofs.Runs.{gives_word}
use Rattle.ps_lower_constructs.proofs.Places.{base_is}
use Rattle.ps_lower_constructs.proofs.Kept.{place_grows}
use Rattle.ps_lower_constructs.proofs.Selectors.{PlaceIn}
use Rattle.ps_lower_constructs.proofs.Expressions.{place_run}

-- ---- lists of bytes

no_bytes : AreBytes []
no_bytes = λ k d l. absurd (omega (arith, l))

more_bytes : (b : ℕ) (rest : List ℕ) → b < 256 → AreBytes rest → AreBytes (b ∷ rest)
more_bytes b rest h r zero d l = h
more_bytes b rest h r (suc k) d l = r k d (omega (arith, l))

true_bytes : AreBytes (codes "true")
true_bytes = more_bytes 116 (114 ∷ 117 ∷ 101 ∷ []) (omega arith)
    (more_bytes 114 (117 ∷ 101 ∷ []) (omega arith)
    (more_bytes 117 (101 ∷ []) (omega arith) (more_bytes 101 [] (omega arith) no_bytes)))

false_bytes : AreBytes (codes "false")
false_bytes = more_bytes 102 (97 ∷ 108 ∷ 115 ∷ 101 ∷ []) (omega arith)
    (more_bytes 97 (108 ∷ 115 ∷ 101 ∷ []) (omega arith)
    (more_bytes 108 (115 ∷ 101 ∷ []) (omega arith)
    (more_bytes 115 (101 ∷ []) (omega arith) (more_bytes 101 [] (omega arith) no_bytes))))

-- the characters of a string's value
characters_back : (text : List ℕ) → AreBytes text → characters (text_values text) ≡ text
characters_back [] h = refl
characters_back (b ∷ rest) h =
    let l = first_byte b rest h in
    let e : b % 256 ≡ b = omega (arith, l) in
    ap (λ x. x ∷ characters (text_values rest)) e ∙ ap (λ xs. b ∷ xs) (characters_back rest (other_bytes b rest h))

module _ (p : Setting) (n : ℕ) (call : Caller) (next : Next) (c : Activated) (active : IsActive p c) (does : WritesDo p)
    (calls : Callable p n call) where
  behind : (routine : ℕ) → length p.program.routines + routine ≡ length (code_in p).program + routine
  behind routine = ap (λ m. m + routine) (sym (length-map p.program.routines (tac_of p.program)))

  -- a string and its length are named, and the code reaches the call
  named_run : (d a b t : ℕ) (w : World) (k : Work) (pc q r pc' : ℕ) (text : List ℕ) (width : ℕ) → d ≤ t → t < a → a < b
      → Alive p c w k → AreBytes text → length text < BLOCK_LIMIT → WidthIn p n call next c active does calls t width k
      → Comes (machine_of p) (state p c w k pc) (state p c w k q) → fetch (code_in p) c.routine q ≡ Some
      (i.Text a (filled text)) → fetch (code_in p) c.routine (suc q) ≡ Some (i.Literal b (pos (length text)))
      → ((k' : Work) → Comes (machine_of p) (state p c w k' (suc (suc q))) (state p c w k' r)) → Stands
      (code_in p) c.routine r (i.Call (even_from d) (length p.program.routines + 12) (a ∷ b ∷ t ∷ []) 1 ∷ []) pc'
      → Runs p (suc n) c d 0 w k pc pc' (write_text (fitted width text) w) (λ u w' k'. Unit {0})
  named_run d a b t w k pc q r pc' text width lt la lb alive bytes small width_in first at_text at_count further st =
      let R : Done → World → Work → Type 0 = λ u w' k'. Unit {0} in
      let address = Address (Constant c.routine q) 0 in
      let count = Numeral (pos (length text)) in
      let k1 = with_temporary k a address in
      let k2 = with_temporary k1 b count in
      let nab : a ≡ b → ⊥ = λ e. omega (arith, lb, e) in
      let nta : t ≡ a → ⊥ = λ e. omega (arith, la, e) in
      let ntb : t ≡ b → ⊥ = λ e. omega (arith, la, lb, e) in
      runs_from p (suc n) c d 0 w w k k pc q pc' (write_text (fitted width text) w) R first (keeps_refl d 0 w k)
      (runs_word p (suc n) c d 0 w k q (suc q) pc' a address (write_text (fitted width text) w) R
      (text_step (machine_of p) (state p c w k q) a (filled text) at_text) refl (omega (arith, lt, la)) alive
      (λ alive1. runs_word p (suc n) c d 0 w k1 (suc q) (suc (suc q)) pc' b count (write_text (fitted width text) w) R
      (literal_step (machine_of p) (state p c w k1 (suc q)) b (pos (length text)) at_count) refl
      (omega (arith, lt, la, lb)) alive1
      (λ alive2. runs_from p (suc n) c d 0 w w k2 k2 (suc (suc q)) r pc' (write_text (fitted width text) w) R
      (further k2) (keeps_refl d 0 w k2)
      (string_written p c active does d 0 w k2 r pc' a b t (even_from d) 1 (Constant c.routine q) 0 text width
      (even_above d) alive2 (text_bytes p (state p c w k2 r).memory c.routine q a text bytes at_text) bytes
      (omega (arith, small)) width_in.1
      (put_other k1.temporaries b count a nab ∙ put_same k.temporaries a address) (put_same k1.temporaries b count)
      (put_other k1.temporaries b count t ntb ∙ put_other k.temporaries a address t nta ∙ width_in.0)
      (subst (λ m. Stands (code_in p) c.routine r (i.Call (even_from d) m (a ∷ b ∷ t ∷ []) 1 ∷ []) pc')
      (behind 12) st)))))

  -- the string of a truth
  truth_run : (code : Scope) (d a t : ℕ) (w : World) (k : Work) (pc mid pc' : ℕ) (z : ℤ) (width : ℕ) → d ≤ t
      → Alive p c w k → k.temporaries a ≡ Some (Numeral z) → WidthIn p n call next c active does calls t width k
      → Stands (code_in p) c.routine pc (truth_text code a (beside t) (beside (beside t))) mid
      → Stands (code_in p) c.routine mid (i.Call (even_from d) (length p.program.routines + 12)
      (beside t ∷ beside (beside t) ∷ t ∷ []) 1 ∷ []) pc'
      → Runs p (suc n) c d 0 w k pc pc' (write_text (fitted width (boolean_text (is_true z))) w) (λ u w' k'. Unit {0})
  truth_run code d a t w k pc mid pc' z width lt alive at width_in st last =
      go (is_equal z (pos 0)) refl
    where
      tests : (b : Bool) → is_equal z (pos 0) ≡ b → related Equal (k.temporaries a) (Some (Numeral (pos 0))) ≡ Some b
      tests b e = ap (λ q. related Equal q (Some (Numeral (pos 0)))) at ∙ ap Some (same_numbers z (pos 0) ∙ e)

      go : (b : Bool) → is_equal z (pos 0) ≡ b → Runs p (suc n) c d 0 w k pc pc'
          (write_text (fitted width (boolean_text (is_true z))) w) (λ u w' k'. Unit {0})
      go false e =
          let there : suc (suc (suc (suc pc))) + 2 ≡ suc (suc (suc (suc (suc (suc pc))))) = omega arith in
          subst (λ b. Runs p (suc n) c d 0 w k pc pc' (write_text (fitted width (boolean_text (not b))) w)
          (λ u w' k'. Unit {0})) (sym e)
          (named_run d (beside t) (beside (beside t)) t w k pc (suc pc) mid pc' (codes "true") width lt (omega arith)
          (omega arith) alive true_bytes (omega arith) width_in
          (a_step (state p c w k pc) (state p c w k (suc pc))
          (branch_step (machine_of p) (state p c w k pc) Equal a (operand.Number (pos 0)) 3 false st.0
          (tests false e)))
          st.1.0 st.1.1.0
          (λ k'. subst (λ q. Comes (machine_of p) (state p c w k' (suc (suc (suc pc)))) (state p c w k' q))
          (there ∙ st.1.1.1.1.1.1) (a_step (state p c w k' (suc (suc (suc pc))))
          (state p c w k' (suc (suc (suc (suc pc))) + 2))
          (jump_step (machine_of p) (state p c w k' (suc (suc (suc pc)))) 2 st.1.1.1.0))) last)
      go true e =
          let there : suc pc + 3 ≡ suc (suc (suc (suc pc))) = omega arith in
          subst (λ b. Runs p (suc n) c d 0 w k pc pc' (write_text (fitted width (boolean_text (not b))) w)
          (λ u w' k'. Unit {0})) (sym e)
          (named_run d (beside t) (beside (beside t)) t w k pc (suc (suc (suc (suc pc)))) mid pc'
          (codes "false") width lt (omega arith) (omega arith) alive false_bytes (omega arith) width_in
          (subst (λ q. Comes (machine_of p) (state p c w k pc) (state p c w k q)) there
          (a_step (state p c w k pc) (state p c w k (suc pc + 3))
          (branch_step (machine_of p) (state p c w k pc) Equal a (operand.Number (pos 0)) 3 true st.0
          (tests true e))))
          st.1.1.1.1.0 st.1.1.1.1.1.0
          (λ k'. subst (λ q. Comes (machine_of p) (state p c w k' (suc (suc (suc (suc (suc (suc pc)))))))
          (state p c w k' q)) st.1.1.1.1.1.1 (stay (state p c w k' (suc (suc (suc (suc (suc (suc pc))))))))) last)

  pub write_boolean_run : (e : Expr) (width : Width) (d : ℕ) (o : Opening) (w : World) (k : Work) (pc pc' : ℕ)
      → Alive p c w k → IsOpened p c w k d o → WriteFits (plain_scope p c) o.shapes (WriteBoolean e width) → Stands
      (code_in p) c.routine pc (write_code (scope_in p c o) (WriteBoolean e width) d) pc'
      → Runs p (suc n) c d 0 w k pc pc' (write p.program (costs_in p) call next (WriteBoolean e width)
      (context_in c o) w) (λ u w' k'. Unit {0})
  write_boolean_run e width d o w k pc pc' alive opened fits st =
      let code = scope_in p c o in
      let ctx = context_in c o in
      let a = held (width_calls width) d in
      let la : d ≤ a = held_above (width_calls width) d in
      let t = even_from (suc a) in
      let lt : suc a ≤ t = even_above (suc a) in
      let cut3 = split (code_in p) c.routine pc
      (expr_code code e a 0 ++ width_code code width 5 t ++ truth_text code a (beside t) (beside (beside t)))
      (i.Call (even_from d) (length p.program.routines + 12) (beside t ∷ beside (beside t) ∷ t ∷ []) 1 ∷ []) pc' st
      in
      let cut2 = split (code_in p) c.routine pc (expr_code code e a 0 ++ width_code code width 5 t)
      (truth_text code a (beside t) (beside (beside t))) cut3.0 cut3.1 in
      let cut = split (code_in p) c.routine pc (expr_code code e a 0) (width_code code width 5 t) cut2.0 cut2.1 in
      runs_bind p (suc n) c d 0 a 0 d 0 w k pc cut.0 pc' (value call e ctx w)
      (λ v w1. and_then (width_value p.program (costs_in p) call next width ctx w1)
      (λ u w2. write_text (fitted (unwrap_or u 5) (boolean_text (is_true (number_of v)))) w2))
      (λ v w' k'. WordIn k'.temporaries w'.made a NumberSort v) (λ u w' k'. Unit {0}) la (omega arith) (omega arith)
      (omega arith)
      (expr_runs p n call c active calls e a 0 o w k pc cut.0 NumberSort alive
      (opened_kept p c d 0 a w w k k o la (keeps_refl d 0 w k) opened) fits.0 cut.1)
      (λ v w1 k1 alive1 kept1 r1.
      runs_bind p (suc n) c d 0 t 0 d 0 w1 k1 cut.0 cut2.0 pc'
      (width_value p.program (costs_in p) call next width ctx w1)
      (λ u w2. write_text (fitted (unwrap_or u 5) (boolean_text (is_true (number_of v)))) w2)
      (λ u w' k'. WidthIn p n call next c active does calls t (unwrap_or u 5) k') (λ u w' k'. Unit {0})
      (omega (arith, la, lt)) (omega arith) (omega arith) (omega arith)
      (width_runs p n call next c active does calls width 5 d 0 t o w1 k1 cut.0 cut2.0 (omega arith)
      (omega (arith, la, lt)) alive1 (opened_kept p c d 0 d w w1 k k1 o (omega arith)
      (keeps_less d 0 a 0 la (omega arith) kept1) opened) fits.1 cut.2)
      (λ u w2 k2 alive2 kept2 r2.
      truth_run code d a t w2 k2 cut2.0 cut3.0 pc' (number_of v) (unwrap_or u 5) (omega (arith, la, lt)) alive2
      (kept2.temporaries a (omega (arith, lt)) ∙ r1.word) r2 cut2.2 cut3.2))

  -- a string's address, its width and its length
  write_literal_run : (text : List ℕ) (width : Width) (d : ℕ) (o : Opening) (w : World) (k : Work) (pc pc' : ℕ)
      → Alive p c w k → IsOpened p c w k d o → WriteFits (plain_scope p c) o.shapes (WriteText (Literal text) width)
      → Stands (code_in p) c.routine pc (write_code (scope_in p c o) (WriteText (Literal text) width) d) pc'
      → Runs p (suc n) c d 0 w k pc pc' (write p.program (costs_in p) call next (WriteText (Literal text) width)
      (context_in c o) w) (λ u w' k'. Unit {0})
  write_literal_run text width d o w k pc pc' alive opened fits st =
      let code = scope_in p c o in
      let ctx = context_in c o in
      let a = held (width_calls width) d in
      let la : d ≤ a = held_above (width_calls width) d in
      let t = even_from (suc a) in
      let lt : suc a ≤ t = even_above (suc a) in
      let b = beside t in
      let count = Numeral (pos (length text)) in
      let address = Address (Constant c.routine pc) 0 in
      let k0 = with_temporary k a address in
      let cut = split (code_in p) c.routine (suc pc) (width_code code width (length text) t)
      (i.Literal b (pos (length text)) ∷ i.Call (even_from d) (length p.program.routines + 12) (a ∷ b ∷ t ∷ []) 1
      ∷ []) pc' st.1 in
      let small : length text < BLOCK_LIMIT = fits.0.1 in
      let rest : List ℕ → World → Answer Done = λ s w0. and_then
      (width_value p.program (costs_in p) call next width ctx w0)
      (λ u w2. write_text (fitted (unwrap_or u (length s)) s) w2) in
      let back = opened_kept p c d 0 d w w k k0 o (omega arith) (keeps_put d 0 w k a address la) opened in
      subst (λ s. Runs p (suc n) c d 0 w k pc pc' (rest s w) (λ u w' k'. Unit {0}))
      (sym (characters_back text fits.0.0))
      (runs_word p (suc n) c d 0 w k pc (suc pc) pc' a address (rest text w) (λ u w' k'. Unit {0})
      (text_step (machine_of p) (state p c w k pc) a (filled text) st.0) refl la alive
      (λ alive0.
      runs_bind p (suc n) c d 0 t 0 d 0 w k0 (suc pc) cut.0 pc'
      (width_value p.program (costs_in p) call next width ctx w)
      (λ u w2. write_text (fitted (unwrap_or u (length text)) text) w2)
      (λ u w' k'. WidthIn p n call next c active does calls t (unwrap_or u (length text)) k') (λ u w' k'. Unit {0})
      (omega (arith, la, lt)) (omega arith) (omega arith) (omega arith)
      (width_runs p n call next c active does calls width (length text) d 0 t o w k0 (suc pc) cut.0 small
      (omega (arith, la, lt)) alive0 back fits.1 cut.1)
      (λ u w2 k2 alive2 kept2 r2.
      let k3 = with_temporary k2 b count in
      let nab : a ≡ b → ⊥ = λ e. omega (arith, lt, e) in
      let ntb : t ≡ b → ⊥ = λ e. omega (arith, e) in
      runs_word p (suc n) c d 0 w2 k2 cut.0 (suc cut.0) pc' b count
      (write_text (fitted (unwrap_or u (length text)) text) w2) (λ u w' k'. Unit {0})
      (literal_step (machine_of p) (state p c w2 k2 cut.0) b (pos (length text)) cut.2.0) refl
      (omega (arith, la, lt)) alive2
      (λ alive3.
      string_written p c active does d 0 w2 k3 (suc cut.0) pc' a b t (even_from d) 1 (Constant c.routine pc) 0 text
      (unwrap_or u (length text)) (even_above d) alive3
      (text_bytes p (state p c w2 k3 (suc cut.0)).memory c.routine pc a text fits.0.0 st.0) fits.0.0
      (omega (arith, small)) r2.1
      (put_other k2.temporaries b count a nab ∙ kept2.temporaries a (omega (arith, lt))
      ∙ put_same k.temporaries a address) (put_same k2.temporaries b count)
      (put_other k2.temporaries b count t ntb ∙ r2.0)
      (subst (λ m. Stands (code_in p) c.routine (suc cut.0) (i.Call (even_from d) m (a ∷ b ∷ t ∷ []) 1 ∷ []) pc')
      (behind 12) cut.2.1)))))

  -- the address of a string variable
  abbrev TextIn : (a count : ℕ) (first : ℤ) → Spot → World → Work → Type 0
  TextIn a count first s w k = (block : Block)
      × ((offset : ℕ) × (k.temporaries a ≡ Some (Address block offset))
      × PlaceAt p.program c.ghosts w.made s block offset (Whole (ByteShape count first)))

  address_run : (a d extent count : ℕ) (first : ℤ) (w : World) (k : Work) (pc pc' : ℕ) (site : Site) (s : Spot) → d ≤ a
      → Alive p c w k → SiteAt p c w.made k.temporaries site s (Whole (ByteShape count first)) → Stands
      (code_in p) c.routine pc (i.Offset a site.base site.offset extent ∷ []) pc' → Reached p c d 0 w k
      (state p c w k pc) pc' (λ w' k'. TextIn a count first s w' k') w
  address_run a d extent count first w k pc pc' site s l alive at st =
      let place = at.offset + site.offset in
      let below = place_below p.program c.ghosts active.small w k.count alive.holds s at.block place
      (Whole (ByteShape count first)) at.place in
      gives_word p (suc n) c d 0 w k pc pc' a (Address at.block place) (λ w' k'. TextIn a count first s w' k')
      (offset_step (machine_of p) (state p c w k pc) a site.base site.offset extent at.block at.offset st.0
      (base_is c pc k.temporaries site.base ∙ at.base) (lt-ltb place BLOCK_LIMIT below)) st.1 l alive
      (at.block, (place, put_same k.temporaries a (Address at.block place), at.place))

  write_contents_run : (q : Place) (type : DataType) (width : Width) (d : ℕ) (o : Opening) (w : World) (k : Work)
      (pc pc' : ℕ) → Alive p c w k → IsOpened p c w k d o → WriteFits (plain_scope p c) o.shapes
      (WriteText (Contents q type) width) → Stands (code_in p) c.routine pc
      (write_code (scope_in p c o) (WriteText (Contents q type) width) d) pc'
      → Runs p (suc n) c d 0 w k pc pc' (write p.program (costs_in p) call next (WriteText (Contents q type) width)
      (context_in c o) w) (λ u w' k'. Unit {0})
  write_contents_run q type width d o w k pc pc' alive opened fits st =
      let code = scope_in p c o in
      let ctx = context_in c o in
      let a = held (width_calls width) d in
      let la : d ≤ a = held_above (width_calls width) d in
      let t = even_from (suc a) in
      let lt : suc a ≤ t = even_above (suc a) in
      let b = beside t in
      let count = fits.0.0 in
      let first = fits.0.1 in
      let known_length : text_length (Contents q type)
      ≡ count = ap (λ y. elim y as (λ z. ℕ) [ Some m ↦ m | None ↦ 0 ]) fits.0.3 in
      let m = text_length (Contents q type) in
      let site = place_site code q a in
      let cut2 = split (code_in p) c.routine pc
      ((place_code code q a 0 ++ i.Offset a site.base site.offset (byte_count (shape_of type)) ∷ [])
      ++ width_code code width m t) (i.Literal b (pos m) ∷ i.Call (even_from d) (length p.program.routines + 12)
      (a ∷ b ∷ t ∷ []) 1 ∷ []) pc' st in
      let cut1 = split (code_in p) c.routine pc
      (place_code code q a 0 ++ i.Offset a site.base site.offset (byte_count (shape_of type)) ∷ [])
      (width_code code width m t) cut2.0 cut2.1 in
      let cut = split (code_in p) c.routine pc (place_code code q a 0)
      (i.Offset a site.base site.offset (byte_count (shape_of type)) ∷ []) cut1.0 cut1.1 in
      let rest : Spot → World → Answer Done = λ s w1. and_then
      (width_value p.program (costs_in p) call next width ctx w1)
      (λ u w2. write_text (fitted (unwrap_or u (length (characters (components_of (contents_in w2 s)))))
      (characters (components_of (contents_in w2 s)))) w2) in
      runs_bind p (suc n) c d 0 a 0 d 0 w k pc cut1.0 pc'
      (and_then (access call q ctx w) (λ s w1. Gives (HeldSpot s) w1))
      (λ h w1. and_then (width_value p.program (costs_in p) call next width ctx w1)
      (λ u w2. and_then (contents_of h w2) (λ v w3. write_text
      (fitted (unwrap_or u (length (characters (components_of v)))) (characters (components_of v))) w3)))
      (λ h w' k'. (s : Spot) × (h ≡ HeldSpot s) × TextIn a count first s w' k') (λ u w' k'. Unit {0}) la (omega arith)
      (omega arith) (omega arith)
      (runs_bind p (suc n) c a 0 a 0 a 0 w k pc cut.0 cut1.0 (access call q ctx w) (λ s w1. Gives (HeldSpot s) w1)
      (λ s w' k'. PlaceIn p n call c active site (place_temporary q a) s (Whole (ByteShape count first)) w' k')
      (λ h w' k'. (s : Spot) × (h ≡ HeldSpot s) × TextIn a count first s w' k') (omega arith) (omega arith)
      (omega arith) (omega arith)
      (place_run p n call c active calls q a 0 o w k pc cut.0 (Whole (ByteShape count first)) alive
      (opened_kept p c d 0 a w w k k o la (keeps_refl d 0 w k) opened) fits.0.4 cut.1)
      (λ s w1 k1 alive1 kept1 r1.
      let r = address_run a a (byte_count (shape_of type)) count first w1 k1 cut.0 cut1.0 site s
      (omega arith) alive1 r1.0 cut.2 in
      record { work = r.work; alive = r.alive; keeps = r.keeps; comes = r.comes; result = (s, refl, r.result) }))
      (λ h w1 k1 alive1 kept1 r1.
      let s = r1.0 in
      let open1 = opened_kept p c d 0 d w w1 k k1 o (omega arith) (keeps_less d 0 a 0 la (omega arith) kept1) opened in
      let size = place_end p.program c.ghosts active.small w1 k1.count alive1.holds s r1.2.0 r1.2.1.0
      (Whole (ByteShape count first)) r1.2.1.2 in
      subst (λ y. Runs p (suc n) c d 0 w1 k1 cut1.0 pc'
      (and_then (width_value p.program (costs_in p) call next width ctx w1)
      (λ u w2. and_then (contents_of y w2) (λ v w3. write_text
      (fitted (unwrap_or u (length (characters (components_of v)))) (characters (components_of v))) w3)))
      (λ u w' k'. Unit {0})) (sym r1.1)
      (runs_bind p (suc n) c d 0 t 0 d 0 w1 k1 cut1.0 cut2.0 pc'
      (width_value p.program (costs_in p) call next width ctx w1)
      (λ u w2. write_text (fitted (unwrap_or u (length (characters (components_of (contents_in w2 s)))))
      (characters (components_of (contents_in w2 s)))) w2)
      (λ u w' k'. WidthIn p n call next c active does calls t (unwrap_or u m) k') (λ u w' k'. Unit {0})
      (omega (arith, la, lt)) (omega arith) (omega arith) (omega arith)
      (width_runs p n call next c active does calls width m d 0 t o w1 k1 cut1.0 cut2.0
      (omega (arith, size, known_length)) (omega (arith, la, lt)) alive1 open1 fits.1 cut1.2)
      (λ u w2 k2 alive2 kept2 r2.
      let block = r1.2.0 in
      let offset = r1.2.1.0 in
      let place = subst (λ made. PlaceAt p.program c.ghosts made s block offset (Whole (ByteShape count first)))
      (sym kept2.grown.1) (place_grows p c w1.made kept2.grown.0 s block offset
      (Whole (ByteShape count first)) r1.2.1.2) in
      let v = contents_in w2 s in
      let text = bytes_of count (components_of v) in
      let shaped = spot_value p.program w2 c.ghosts k2.count alive2.holds s block offset (ByteShape count first) place
      in
      let told = string_characters w2.made count first v shaped in
      let long : length text ≡ count = bytes_length count (components_of v) in
      let same : m ≡ length text = known_length ∙ sym long in
      let word = Numeral (pos m) in
      let k3 = with_temporary k2 b word in
      let nab : a ≡ b → ⊥ = λ e. omega (arith, lt, e) in
      let ntb : t ≡ b → ⊥ = λ e. omega (arith, e) in
      subst (λ y. Runs p (suc n) c d 0 w2 k2 cut2.0 pc' (write_text (fitted (unwrap_or u (length y)) y) w2)
      (λ u w' k'. Unit {0})) (sym told)
      (subst (λ y. Runs p (suc n) c d 0 w2 k2 cut2.0 pc' (write_text (fitted (unwrap_or u y) text) w2)
      (λ u w' k'. Unit {0})) same
      (runs_word p (suc n) c d 0 w2 k2 cut2.0 (suc cut2.0) pc' b word (write_text (fitted (unwrap_or u m) text) w2)
      (λ u w' k'. Unit {0}) (literal_step (machine_of p) (state p c w2 k2 cut2.0) b (pos m) cut2.2.0) refl
      (omega (arith, la, lt)) alive2
      (λ alive3.
      string_written p c active does d 0 w2 k3 (suc cut2.0) pc' a b t (even_from d) 1 block offset text (unwrap_or u m)
      (even_above d) alive3
      (λ j byte e. array_bytes p.program w2 c.ghosts k2.count alive2.holds (text_at (code_in p)) (record {
        number = c.number;
        words = k3.scratch;
      } ∷ c.waiting) s block offset count j byte first place e)
      (bytes_small count (components_of v)) (omega (arith, size, long)) r2.1
      (put_other k2.temporaries b word a nab ∙ kept2.temporaries a (omega (arith, lt)) ∙ r1.2.1.1)
      (put_same k2.temporaries b word ∙ ap (λ y. Some (Numeral (pos y))) same)
      (put_other k2.temporaries b word t ntb ∙ r2.0)
      (subst (λ y. Stands (code_in p) c.routine (suc cut2.0) (i.Call (even_from d) y (a ∷ b ∷ t ∷ []) 1 ∷ []) pc')
      (behind 12) cut2.2.1)))))))

  pub write_text_run : (e : Structure) (width : Width) (d : ℕ) (o : Opening) (w : World) (k : Work) (pc pc' : ℕ)
      → Alive p c w k → IsOpened p c w k d o → WriteFits (plain_scope p c) o.shapes (WriteText e width) → Stands
      (code_in p) c.routine pc (write_code (scope_in p c o) (WriteText e width) d) pc'
      → Runs p (suc n) c d 0 w k pc pc' (write p.program (costs_in p) call next (WriteText e width) (context_in c o) w)
      (λ u w' k'. Unit {0})
  write_text_run (Literal text) width d o w k pc pc' alive opened fits st = write_literal_run text width d o w k pc pc'
      alive opened fits st
  write_text_run (Contents q type) width d o w k pc pc' alive opened fits st = write_contents_run q type width d o w k
      pc pc' alive opened fits st
