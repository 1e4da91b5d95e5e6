-- A use that finds a point finds what its name denotes.
use Rattle.std.proofs.Common.{◌≡◌, ℕ, suc, ◌+◌, false, List, [], ◌∷◌, ◌++◌, length, map, drop, nat_lt, Option, Some}
use Rattle.std.proofs.Common.{None, is_some, slice_get, refl, sym, ap, ◌∙◌, subst, arith}
use Rattle.std.proofs.lemmas.Option.{slice_get_within}
use Rattle.ps_syntax.specs.declared.program.Program as syntax
use Rattle.ps_tree.specs.Types.{DataType, FieldList, field_in}
use Rattle.ps_tree.proofs.NameLemmas.{has_place}
use Rattle.ps_check_judgement.specs.Judged.{Judged, Yes, ◌>>=◌, some_or}
use Rattle.ps_check_judgement.proofs.Binds.{no_yes, inside_yes, then_yes, some_or_yes}
use Rattle.ps_check_names.specs.Spelling.{has, place}
use Rattle.ps_check_names.specs.Regions.{Region, Point, BlockPoint, FieldPoint, Meaning, one_more, missing, of_block}
use Rattle.ps_check_names.specs.Regions.{in_block, in_record, find_past}
use Rattle.ps_check.specs.Programs.{required, required_names}
use Rattle.ps_check_laws.specs.Definitions.{Definition, names_of}
use Rattle.ps_check_laws.specs.Denoting.{Where, Denotes, here, outward, definitions_at, points_before_at}
use Rattle.ps_check_laws.specs.Meanings.{IsRegion, AreAround, program_block, routine_block}
use Rattle.ps_check_laws.specs.Uses as uses
use Rattle.ps_check_laws.specs.Uses.{IsNowhere, not_in_program, nor_further_in, IsOfBlock, IsRequired, Opened, NoField}
use Rattle.ps_check_laws.specs.Uses.{IsDenoted, of_record, of_required, opened_regions, UsesFindWhatTheyDenote}
use Rattle.ps_check_laws.proofs.Lists.{some_if}

module _ (text : List ℕ) (p : syntax.Program) (s : List ℕ) (from : ℕ) where
  -- the same, where some blocks are further in already
  record OfBlock (up : ℕ) (v : List ℕ) (n : ℕ) (around : List Region) (q : Point) : Type 0 where
    at : Where
    denotes : Denotes text p s v n at
    levels : ℕ
    away : drop levels v ≡ at.path
    count : ℕ
    outer : List Region
    region : Region
    round : slice_get around levels ≡ Some region
    is_region : IsRegion text p at.path count outer region
    meaning : Meaning
    means : slice_get is_region.known at.number ≡ Some meaning
    is : q ≡ BlockPoint (up + levels) meaning

  record OfRequired (up : ℕ) (v : List ℕ) (q : Point) : Type 0 where
    nowhere : IsNowhere text p s v
    index : ℕ
    found : place (map (λ r. r.0) required_names) s ≡ Some index
    meaning : Meaning
    means : slice_get (map (λ r. r.1) required_names) index ≡ Some meaning
    is : q ≡ BlockPoint (up + suc (length v)) meaning

  data Past (up : ℕ) (v : List ℕ) (n : ℕ) (around : List Region) (q : Point) : Type 0 where
    past_block : OfBlock up v n around q → Past up v n around q
    past_required : OfRequired up v q → Past up v n around q

  point_at : (up : ℕ) (known : List Meaning) (i : ℕ) (q : Point) → of_block from up (slice_get known i) ≡ Yes q
      → (m : Meaning) × (slice_get known i ≡ Some m) × (q ≡ BlockPoint up m)
  point_at up known i q e = at (slice_get known i) refl e
    where
      at : (o : Option Meaning) → slice_get known i ≡ o → of_block from up o ≡ Yes q → (m : Meaning)
          × (slice_get known i ≡ Some m) × (q ≡ BlockPoint up m)
      at None g h = absurd (no_yes h)
      at (Some m) g h = (m, g, sym (inside_yes (BlockPoint up m) q h))

  next_of : (up m : ℕ) → some_or (missing s) from (one_more up) ≡ Yes m → m ≡ up + 1
  next_of up m e = sym (some_if (nat_lt up 4294967295) (up + 1) m (some_or_yes (missing s) from (one_more up) m e)).1

  -- no place, no name
  absent : (names : List (List ℕ)) → place names s ≡ None → has names s ≡ false
  absent names e = sym (has_place names s) ∙ ap is_some e

  -- ---- further out

  outside_program : (up which : ℕ) (n : ℕ) (ds : List Definition) → definitions_at text p [] ≡ Some ds → has
      (names_of text ds) s ≡ false → (q : Point) → find_past up which (required ∷ []) s from ≡ Yes q → (m : ℕ) → up ≡ m
      + 1 → (around : List Region) → Past m [] n around q
  unfolding find_past required
  outside_program up which n ds points none q e m is around = at (place (map (λ r. r.0) required_names) s) refl e
    where
      at : (o : Option ℕ) → place (map (λ r. r.0) required_names) s ≡ o → in_block from up
          (map (λ r. r.1) required_names) o (some_or (missing s) from (one_more up)
          >>= (λ k. find_past k which [] s from)) ≡ Yes q → Past m [] n around q
      at None g h = let k = then_yes (some_or (missing s) from (one_more up)) (λ k. find_past k which [] s from) q h
          in absurd (no_yes k.2)
      at (Some i) g h =
          let t = point_at up (map (λ r. r.1) required_names) i q h in
          past_required (record {
            nowhere = not_in_program ds points none;
            index = i;
            found = g;
            meaning = t.0;
            means = t.1;
            is = t.2 ∙ ap (λ k. BlockPoint k t.0) (is ∙ (let z : m + 1 ≡ m + suc 0 = omega arith in z));
          })

  further_out : (k : ℕ) (v : List ℕ) (up n m : ℕ) (r : Region) (around : List Region) (ds : List Definition)
      → definitions_at text p (k ∷ v) ≡ Some ds → has (names_of text ds) s ≡ false → points_before_at text p k v
      ≡ Some m → (q : Point) → Past (up + 1) v m around q → Past up (k ∷ v) n (r ∷ around) q
  further_out k v up n m r around ds points none before q (past_block t) = past_block (record {
    at = t.at;
    denotes = outward k v n m t.at ds points none before t.denotes;
    levels = suc t.levels;
    away = t.away;
    count = t.count;
    outer = t.outer;
    region = t.region;
    round = t.round;
    is_region = t.is_region;
    meaning = t.meaning;
    means = t.means;
    is = t.is ∙ (let z : (up + 1) + t.levels ≡ up + suc t.levels = omega arith in ap (λ l. BlockPoint l t.meaning) z);
  })
  further_out k v up n m r around ds points none before q (past_required t) = past_required (record {
    nowhere = nor_further_in k v ds points none t.nowhere;
    index = t.index;
    found = t.found;
    meaning = t.meaning;
    means = t.means;
    is = t.is ∙ (let z : (up + 1) + suc (length v) ≡ up + suc (suc (length v)) = omega arith
        in ap (λ l. BlockPoint l t.meaning) z);
  })

  -- in the block itself
  in_its_block : (up which : ℕ) (v : List ℕ) (n : ℕ) (r : Region) (outer : List Region) (q : Point)
      → (t : IsRegion text p v n outer r) → find_past up which (r ∷ outer) s from ≡ Yes q
      → ((m : ℕ) → m ≡ up + 1 → has (names_of text t.definitions) s ≡ false → find_past m which outer s from ≡ Yes q
      → Past up v n (r ∷ outer) q) → Past up v n (r ∷ outer) q
  unfolding find_past
  in_its_block up which v n r outer q t e further = at (place (names_of text t.definitions) s) refl
      (ap (λ x. find_past up which (x ∷ outer) s from) (sym t.is) ∙ e)
    where
      at : (o : Option ℕ) → place (names_of text t.definitions) s ≡ o → in_block from up t.known o
          (some_or (missing s) from (one_more up) >>= (λ k. find_past k which outer s from)) ≡ Yes q → Past up v n
          (r ∷ outer) q
      at None g h =
          let k = then_yes (some_or (missing s) from (one_more up)) (λ k. find_past k which outer s from) q h in
          further k.0 (next_of up k.0 k.1) (absent (names_of text t.definitions) g) k.2
      at (Some i) g h =
          let m = point_at up t.known i q h in
          let below = slice_get_within t.known i m.0 m.1 in
          past_block (record {
            at = record { path = v; number = i };
            denotes = here v n i t.definitions t.points g (let b = t.before in omega (arith, below, b));
            levels = 0;
            away = refl;
            count = n;
            outer = outer;
            region = r;
            round = refl;
            is_region = t;
            meaning = m.0;
            means = m.1;
            is = m.2 ∙ (let z : up ≡ up + 0 = omega arith in ap (λ l. BlockPoint l m.0) z);
          })

  found_past : (v : List ℕ) (outer : List Region) → AreAround text p v outer → (up which n : ℕ) (r : Region) (q : Point)
      → IsRegion text p v n outer r → find_past up which (r ∷ outer) s from ≡ Yes q → Past up v n (r ∷ outer) q
  found_past v outer program_block up which n r q t e =
      in_its_block up which [] n r (required ∷ []) q t e
      (λ m is none found. outside_program m which n t.definitions t.points none q found up is (r ∷ required ∷ []))
  found_past v outer (routine_block k u m x behind before region around) up which n r q t e =
      in_its_block up which (k ∷ u) n r (x ∷ behind) q t e
      (λ l is none found. further_out k u up n m r (x ∷ behind) t.definitions t.points none before q
      (subst (λ j. Past j u m (x ∷ behind) q) is (found_past u behind around l which m x q region found)))

  -- ---- where records are opened

  done_block : (v : List ℕ) (n : ℕ) (around : List Region) (q : Point) → OfBlock 0 v n around q
      → IsOfBlock text p s v n around q
  done_block v n around q t = record {
    at = t.at;
    denotes = t.denotes;
    levels = t.levels;
    away = t.away;
    count = t.count;
    outer = t.outer;
    region = t.region;
    round = t.round;
    is_region = t.is_region;
    meaning = t.meaning;
    means = t.means;
    is = t.is ∙ (let z : 0 + t.levels ≡ t.levels = omega arith in ap (λ l. BlockPoint l t.meaning) z);
  }

  done_required : (v : List ℕ) (q : Point) → OfRequired 0 v q → IsRequired text p s v q
  done_required v q t = record {
    nowhere = t.nowhere;
    index = t.index;
    found = t.found;
    meaning = t.meaning;
    means = t.means;
    is = t.is ∙ (let z : 0 + suc (length v) ≡ suc (length v) = omega arith in ap (λ l. BlockPoint l t.meaning) z);
  }

  -- the same where some opened records are further in already
  record OfRecord (which : ℕ) (opened : Opened text p s) (q : Point) : Type 0 where
    inner : Opened text p s
    type : DataType
    fields : FieldList
    outer : Opened text p s
    are : opened ≡ inner ++ (type, fields) ∷ outer
    closest : NoField text p s inner
    field : ℕ × DataType
    found : field_in fields s ≡ Some field
    is : q ≡ FieldPoint (which + length inner) type field.0 field.1

  data PastRecords (which : ℕ) (opened : Opened text p s) (v : List ℕ) (n : ℕ) (around : List Region) (q : Point)
      : Type 0 where
    past_record : OfRecord which opened q → PastRecords which opened v n around q
    past_all : NoField text p s opened → Past 0 v n around q → PastRecords which opened v n around q

  behind_record : (which : ℕ) (type : DataType) (fields : FieldList) (opened : Opened text p s) (v : List ℕ) (n : ℕ)
      (around : List Region) (q : Point) → field_in fields s ≡ None → PastRecords (which + 1) opened v n around q
      → PastRecords which ((type, fields) ∷ opened) v n around q
  behind_record which type fields opened v n around q none (past_record t) = past_record (record {
    inner = (type, fields) ∷ t.inner;
    type = t.type;
    fields = t.fields;
    outer = t.outer;
    are = ap (λ l. (type, fields) ∷ l) t.are;
    closest = (none, t.closest);
    field = t.field;
    found = t.found;
    is = t.is ∙ (let z : (which + 1) + length t.inner ≡ which + suc (length t.inner) = omega arith
        in ap (λ k. FieldPoint k t.type t.field.0 t.field.1) z);
  })
  behind_record which type fields opened v n around q none (past_all all t) = past_all (none, all) t

  found_in : (opened : Opened text p s) (which : ℕ) (v : List ℕ) (n : ℕ) (r : Region) (outer : List Region) (q : Point)
      → IsRegion text p v n outer r → AreAround text p v outer → find_past 0 which
      (opened_regions opened ++ r ∷ outer) s from ≡ Yes q → PastRecords which opened v n (r ∷ outer) q
  unfolding find_past
  found_in [] which v n r outer q t around e = past_all tt (found_past v outer around 0 which n r q t e)
  found_in (x ∷ opened) which v n r outer q t around e = at (field_in x.1 s) refl e
      (λ k is f. subst (λ j. PastRecords j opened v n (r ∷ outer) q) is (found_in opened k v n r outer q t around f))
    where
      at : (o : Option (ℕ × DataType)) → field_in x.1 s ≡ o → in_record which x.0 o
          (some_or (missing s) from (one_more which)
          >>= (λ k. find_past 0 k (opened_regions opened ++ r ∷ outer) s from)) ≡ Yes q
          → ((k : ℕ) → k ≡ which + 1 → find_past 0 k (opened_regions opened ++ r ∷ outer) s from ≡ Yes q → PastRecords
          (which + 1) opened v n (r ∷ outer) q) → PastRecords which (x ∷ opened) v n (r ∷ outer) q
      at None g h further =
          let k = then_yes (some_or (missing s) from (one_more which))
          (λ k. find_past 0 k (opened_regions opened ++ r ∷ outer) s from) q h in
          behind_record which x.0 x.1 opened v n (r ∷ outer) q g (further k.0 (next_of which k.0 k.1) k.2)
      at (Some y) g h further = past_record (record {
        inner = [];
        type = x.0;
        fields = x.1;
        outer = opened;
        are = refl;
        closest = tt;
        field = y;
        found = g;
        is = sym (inside_yes (FieldPoint which x.0 y.0 y.1) q h)
            ∙ (let z : which ≡ which + 0 = omega arith in ap (λ k. FieldPoint k x.0 y.0 y.1) z);
      })

  denoted_by : (opened : Opened text p s) (v : List ℕ) (n : ℕ) (around : List Region) (q : Point)
      → PastRecords 0 opened v n around q → IsDenoted text p s v n around opened q
  denoted_by opened v n around q (past_record t) = of_record (record {
    inner = t.inner;
    type = t.type;
    fields = t.fields;
    outer = t.outer;
    are = t.are;
    closest = t.closest;
    field = t.field;
    found = t.found;
    is = t.is ∙ (let z : 0 + length t.inner ≡ length t.inner = omega arith
        in ap (λ k. FieldPoint k t.type t.field.0 t.field.1) z);
  })
  denoted_by opened v n around q (past_all none (past_block t)) = uses.of_block none (done_block v n around q t)
  denoted_by opened v n around q (past_all none (past_required t)) = of_required none (done_required v q t)

-- what is found in a block
pub found_at : (up : ℕ) (known : List Meaning) (i : ℕ) (m : Meaning) (o : Option ℕ) (from : ℕ) (outside : Judged Point)
    → o ≡ Some i → slice_get known i ≡ Some m → in_block from up known o outside ≡ Yes (BlockPoint up m)
found_at up known i m o from outside e g = ap (λ p. in_block from up known p outside) e ∙ ap (of_block from up) g

pub uses_find_what_they_denote : UsesFindWhatTheyDenote
uses_find_what_they_denote text p v n r outer t around opened s at q e = denoted_by text p s at opened v n (r ∷ outer) q
    (found_in text p s at opened 0 v n r outer q t around e)
