-- Each number that the headings within a block take is that of a routine within it.
use Rattle.std.proofs.Common.{◌≡◌, ℕ, zero, suc, ◌+◌, ◌<◌, ◌≤◌, Bool, true, false, if◌then◌else◌, List, [], ◌∷◌, ◌++◌}
use Rattle.std.proofs.Common.{length, map, take, Option, Some, None, slice_get, refl, sym, ap, ◌∙◌, subst, append_assoc}
use Rattle.std.proofs.Common.{arith}
use Rattle.std.proofs.lemmas.Option.{same_Some}
use Rattle.ps_check_judgement.proofs.Impossible.{none_some}
use Rattle.ps_check_judgement.proofs.Items.{there_is, get_stays}
use Rattle.ps_syntax.specs.declared.program.Block as syntax_block
use Rattle.ps_syntax.specs.declared.program.Block.{out-Block, roll-Block, out-roll-Block}
use Rattle.ps_syntax.specs.declared.program.Routine.{Routine, out-Routine, roll-Routine, map-Routine, out-roll-Routine}
use Rattle.ps_syntax.specs.declared.program.Routine.TheOpen.{Routine-F, Block-F}
use Rattle.ps_syntax.specs.declared.program.Routine.TheFolds.{ind-Block}
use Rattle.ps_syntax.specs.declared.program.Program as syntax
use Rattle.ps_tree.specs.Tree as Tree
use Rattle.ps_check_names.specs.Spelling.{has}
use Rattle.ps_check.specs.Readings.{Gathered}
use Rattle.ps_check.specs.Programs.{Files, program_context}
use Rattle.ps_check.specs.Paths.{layer_block, routine_block, block_at}
use Rattle.ps_check.proofs.EachItem.{each_at}
use Rattle.ps_check_laws.specs.Option.{◌>>=◌}
use Rattle.ps_check_laws.specs.Definitions.{routine_names, Definition, OfRoutine, InPart, own_declarations, introduced}
use Rattle.ps_check_laws.specs.Definitions.{definitions_of}
use Rattle.ps_check_laws.specs.Denoting.{counted, headings_within, number_at}
use Rattle.ps_check_laws.proofs.Lists.{take_next, take_all, compare, difference, Each}
use Rattle.ps_check_laws.proofs.Routines.{inner_count, count_is, own, counts, counted_none, counted_last, sp}
use Rattle.ps_check_laws.proofs.Routines.{one_introduced, introduced_there}
use Rattle.ps_check_laws.proofs.BlockPoints.{points, in_part}
use Rattle.ps_check_laws.proofs.Blocks.{BlockHas, within_is}
use Rattle.ps_check_laws.proofs.RoutineTrees.{forward_heading, completing_block}
use Rattle.ps_check_laws.proofs.Paths as paths

module _ (text : List ℕ) (p : syntax.Program) (files : Files) (made : Tree.Program) (final : Gathered)
    (whole : (n : ℕ) (x : Tree.Routine) → 1 ≤ n → slice_get final.routines n ≡ Some (Some x)
    → slice_get made.routines n ≡ Some x)
    (all_domains : made.domains ≡ final.domains) where
  abbrev There : List ℕ → syntax_block.Block → Type 0
  There v b = paths.There text p files made final whole all_domains v b

  abbrev ds : (v : List ℕ) (b : syntax_block.Block) → There v b → List Definition
  ds v b t = definitions_of text t.first b

  abbrev in_block : (v : List ℕ) (b : syntax_block.Block) (t : There v b) → BlockHas
      (program_context text files) b t.regions t.start t.gathered t.done t.first
  in_block v b t = paths.in_block text p files made final whole all_domains v b t

  abbrev counted_to : List Routine → ℕ → ℕ
  counted_to rs k = counted text [] (counts text (take k rs))

  abbrev own_at : List Routine → ℕ → Routine → ℕ
  own_at rs k x = own text (introduced text (take k rs)) x

  record Located (rs : List Routine) (m : ℕ) : Type 0 where
    at : ℕ
    routine : Routine
    there : slice_get rs at ≡ Some routine
    low : counted_to rs at ≤ m
    high : m < counted_to rs at + (inner_count text (routine_block routine) + own_at rs at routine)

  counted_next : (rs : List Routine) (k : ℕ) (x : Routine) → slice_get rs k ≡ Some x → counted_to rs (suc k)
      ≡ counted_to rs k + (inner_count text (routine_block x) + own_at rs k x)
  unfolding routine_names
  counted_next rs k x e =
      let one = counted_last text [] 0 (take k rs) x in
      let inner = (count_is text x).inner in
      ap (λ l. counted text [] (counts text l)) (take_next rs k x e) ∙ one
      ∙ ap (λ n. counted_to rs k + (n + own_at rs k x)) inner

  locate : (rs : List Routine) (m k : ℕ) → k ≤ length rs → m < counted_to rs k → Located rs m
  locate rs m zero l e = let z = counted_none text [] in absurd (omega (arith, e, z))
  locate rs m (suc k) l e =
      let x = there_is rs k (omega (arith, l)) in
      let high = counted_next rs k x.0 x.1 in
      let here : counted_to rs k ≤ m → Located rs m = λ low. record {
        at = k;
        routine = x.0;
        there = x.1;
        low = low;
        high = omega (arith, e, high);
      } in
      compare m (counted_to rs k) (Located rs m) (λ less. locate rs m k (omega (arith, l)) less)
      (λ q. here (omega (arith, q))) (λ more. here (omega (arith, more)))

  pub record Filled (v : List ℕ) (n : ℕ) : Type 0 where
    pub further : List ℕ
    pub at : ℕ
    pub block : syntax_block.Block
    pub there : block_at p.block (further ++ at ∷ v) ≡ Some block
    pub numbered : number_at text p (further ++ at ∷ v) ≡ Some n

  filled_further : (v : List ℕ) (k n : ℕ) → Filled (k ∷ v) n → Filled v n
  filled_further v k n t =
      let is : t.further ++ t.at ∷ k ∷ v ≡ (t.further ++ t.at ∷ []) ++ k ∷ v = sym
      (append_assoc t.further (t.at ∷ []) (k ∷ v)) in
      record {
        further = t.further ++ t.at ∷ [];
        at = k;
        block = t.block;
        there = ap (block_at p.block) (sym is) ∙ t.there;
        numbered = ap (number_at text p) (sym is) ∙ t.numbered;
      }

  abbrev BlockFills : syntax_block.Block → Type 0
  BlockFills b = (v : List ℕ) (t : There v b) (n : ℕ) → t.base ≤ n → n < t.base + headings_within text b → Filled v n

  abbrev RoutineFills : Routine → Type 0
  RoutineFills x = (b : syntax_block.Block) → routine_block x ≡ Some b → BlockFills b

  module _ (v : List ℕ) (b : syntax_block.Block) (t : There v b) where
    abbrev rs : List Routine
    rs = (out-Block b).routines

    all_points : (xs : List Definition) → ds v b t ≡ xs → points text (t.first ++ own_declarations b)
        (introduced text rs) ≡ xs
    unfolding definitions_of
    all_points xs e = e

    -- the block of a routine has the number of the heading that defines its name
    numbered_by : (k j : ℕ) (x y : Routine) (inner : syntax_block.Block) → slice_get rs k ≡ Some x → has
        (routine_names text (introduced text (take k rs))) (sp text x) ≡ false
        → slice_get rs j ≡ Some y → routine_block y ≡ Some inner → sp text y ≡ sp text x → number_at text p (j ∷ v)
        ≡ Some (t.base + counted_to rs k)
    numbered_by k j x y inner here new there is alike =
        let n = paths.nested text p files made final whole all_domains v b t j y inner there is in
        let split = paths.split_at text p files made final whole all_domains v b t j y inner there is in
        let first = introduced_there text rs k x here new in
        let by = in_part text (t.first ++ own_declarations b) (introduced text rs) n.index n.number_in_part n.by
        (ap (λ l. slice_get l n.index) (all_points
        (paths.before text p files made final whole all_domains v b t j y inner there is ++ split.0) split.1)
        ∙ get_stays
        (paths.before text p files made final whole all_domains v b t j y inner there is) split.0 n.index
        (OfRoutine n.number_in_part n.by) n.at) in
        let same_part = one_introduced text rs by.0 first.0 (n.number_in_part, n.by) (k, x) by.1 first.1
        (n.named ∙ alike) in
        paths.number_is text p files made final whole all_domains v b t j y inner there is ∙ ap (λ m. Some m)
        (n.numbered_so ∙ ap (λ m. m + counted_to rs n.number_in_part) t.count
        ∙ ap (λ (q : InPart). t.base + counted_to rs q.0) same_part)

    there_too : (j : ℕ) (y : Routine) (inner : syntax_block.Block) → slice_get rs j ≡ Some y → routine_block y
        ≡ Some inner → block_at p.block (j ∷ v) ≡ Some inner
    unfolding block_at
    there_too j y inner at is = ap (λ o. o >>= (λ a. slice_get (out-Block a).routines j >>= routine_block)) t.there
        ∙ ap (λ o. o >>= routine_block) at ∙ is

    -- a heading's own number
    own_filled : (k n : ℕ) (x : Routine) (o : Option syntax_block.Block) → slice_get rs k ≡ Some x → has
        (routine_names text (introduced text (take k rs))) (sp text x) ≡ false → routine_block x ≡ o → n ≡ t.base
        + counted_to rs k → Filled v n
    own_filled k n x (Some inner) here new is q = record {
      further = [];
      at = k;
      block = inner;
      there = there_too k x inner here is;
      numbered = numbered_by k k x x inner here new here is refl ∙ ap (λ m. Some m) (sym q);
    }
    own_filled k n x None here new is q =
        let h = forward_heading x (out-Routine x) refl is in
        let y = (in_block v b t).completed.each k x h.0 here h.1 in
        let inner = completing_block y.routine (out-Routine y.routine) y.completes.heading refl y.completes.block in
        record {
          further = [];
          at = y.number;
          block = inner.0;
          there = there_too y.number y.routine inner.0 y.there inner.1;
          numbered = numbered_by k y.number x y.routine inner.0 here new y.there inner.1 y.completes.named
              ∙ ap (λ m. Some m) (sym q);
        }

    -- a number of the routines within a routine
    inner_filled : (k n : ℕ) (x : Routine) (o : Option syntax_block.Block) → RoutineFills x → slice_get rs k ≡ Some x
        → routine_block x ≡ o → (t.base + counted_to rs k) + own_at rs k x ≤ n → n < (t.base + counted_to rs k)
        + own_at rs k x + inner_count text o → Filled v n
    unfolding paths.inner_there
    inner_filled k n x None fills here is low high = absurd (omega (arith, low, high))
    inner_filled k n x (Some inner) fills here is low high =
        let nest = paths.nested text p files made final whole all_domains v b t k x inner here is in
        let count = nest.count in
        let base = t.count in
        filled_further v k n (fills inner is (k ∷ v)
        (paths.inner_there text p files made final whole all_domains v b t k x inner here is) n
        (omega (arith, count, base, low)) (omega (arith, count, base, high)))

    number_filled : (k m n : ℕ) (x : Routine) (new : Bool) → RoutineFills x → slice_get rs k ≡ Some x → has
        (routine_names text (introduced text (take k rs))) (sp text x) ≡ new → n ≡ t.base + m → counted_to rs k ≤ m
        → m < counted_to rs k + (inner_count text (routine_block x) + own_at rs k x) → Filled v n
    number_filled k m n x true fills here has_name q low high =
        let none : own_at rs k x ≡ 0 = ap (λ z. if z then 0 else 1) has_name in
        inner_filled k n x (routine_block x) fills here refl (omega (arith, none, q, low)) (omega (arith, q, high))
    number_filled k m n x false fills here has_name q low high =
        let one : own_at rs k x ≡ 1 = ap (λ z. if z then 0 else 1) has_name in
        compare m (counted_to rs k) (Filled v n) (λ less. absurd (omega (arith, less, low)))
        (λ e. own_filled k n x (routine_block x) here has_name refl (omega (arith, q, e)))
        (λ more. inner_filled k n x (routine_block x) fills here refl (omega (arith, one, q, more))
        (omega (arith, q, high)))

    block_filled : Each RoutineFills rs → (n : ℕ) → t.base ≤ n → n < t.base + headings_within text b → Filled v n
    block_filled fills n low high =
        let m = difference t.base n low in
        let q = m.1 in
        let within = within_is text b in
        let whole : counted_to rs (length rs) ≡ headings_within text b = ap (λ l. counted text [] (counts text l))
        (take_all rs) ∙ sym within in
        let l = locate rs m.0 (length rs) (omega arith) (omega (arith, q, high, whole)) in
        number_filled l.at m.0 n l.routine (has (routine_names text (introduced text (take l.at rs)))
        (sp text l.routine)) (each_at RoutineFills rs l.at l.routine fills l.there) l.there refl q l.low l.high

  fills_layer : (y : Routine-F ((x : Routine) × RoutineFills x) ((x : syntax_block.Block) × BlockFills x))
      → RoutineFills (roll-Routine (map-Routine ((x : Routine) × RoutineFills x)
      ((x : syntax_block.Block) × BlockFills x) Routine syntax_block.Block (λ e. e.0) (λ e. e.0) y))
  unfolding routine_block
  fills_layer (Routine-F.Whole h x) b e = subst BlockFills
      (same_Some x.0 b (sym (ap layer_block (out-roll-Routine (Routine-F.Whole h x.0))) ∙ e)) x.1
  fills_layer (Routine-F.Forward h) b e = absurd
      (none_some (sym (ap layer_block (out-roll-Routine (Routine-F.Forward h))) ∙ e))
  fills_layer (Routine-F.Completion name x) b e = subst BlockFills
      (same_Some x.0 b (sym (ap layer_block (out-roll-Routine (Routine-F.Completion name x.0))) ∙ e)) x.1

  each_fills : (ys : List ((x : Routine) × RoutineFills x)) → Each RoutineFills (map (λ y. y.0) ys)
  each_fills [] = tt
  each_fills (y ∷ ys) = (y.1, each_fills ys)

  pub fills : (b : syntax_block.Block) → BlockFills b
  fills = ind-Block RoutineFills BlockFills
      (λ x y is. subst (λ z. RoutineFills (roll-Routine z)) is (fills_layer y))
      (λ x y is. λ v t. block_filled v (roll-Block x) t
      (subst (λ (z : Block-F Routine syntax_block.Block). Each RoutineFills z.routines) (sym (out-roll-Block x))
      (subst (λ (z : Block-F Routine syntax_block.Block). Each RoutineFills z.routines) is
      (each_fills y.routines))))
