-- What a use finds: the search through the regions that enclose it gives the meaning of the point that the name denotes
-- in the tree (6.2.2).
use Rattle.std.specs.Prelude.{◌≡◌, ◌<◌, ℕ, suc, true, false, List, [], ◌∷◌, ◌++◌, length, map, drop, Some, None}
use Rattle.std.specs.Prelude.{slice_get}
use Rattle.ps_syntax.specs.declared.program.Program as syntax
use Rattle.ps_tree.specs.Types.{DataType, FieldList, field_in}
use Rattle.ps_check_judgement.specs.Judged.{Yes}
use Rattle.ps_check_names.specs.Spelling.{has, place}
use Rattle.ps_check_names.specs.Regions.{Region, RecordRegion, Point, BlockPoint, FieldPoint, Meaning, find}
use Rattle.ps_check.specs.Programs.{required_names}
use Rattle.ps_check_laws.specs.Definitions.{Definition, names_of}
use Rattle.ps_check_laws.specs.Denoting.{Where, Denotes, definitions_at}
use Rattle.ps_check_laws.specs.Meanings.{IsRegion, AreAround}

module _ (text : List ℕ) (p : syntax.Program) (s : List ℕ) where
  -- no block around the path defines the spelling, nor does the block there
  pub data IsNowhere : List ℕ → Type 0 where
    not_in_program : (ds : List Definition) → definitions_at text p [] ≡ Some ds → has (names_of text ds) s ≡ false
        → IsNowhere []
    nor_further_in : (k : ℕ) (v : List ℕ) (ds : List Definition) → definitions_at text p (k ∷ v) ≡ Some ds → has
        (names_of text ds) s ≡ false → IsNowhere v → IsNowhere (k ∷ v)

  -- The point that the name denotes, in a block some levels out, and the meaning that it has in the region of that
  -- block, one of those around.
  pub record IsOfBlock (v : List ℕ) (n : ℕ) (around : List Region) (q : Point) : Type 0 where
    pub at : Where
    pub denotes : Denotes text p s v n at
    pub levels : ℕ
    pub away : drop levels v ≡ at.path
    pub count : ℕ
    pub outer : List Region
    pub region : Region
    pub round : slice_get around levels ≡ Some region
    pub is_region : IsRegion text p at.path count outer region
    pub meaning : Meaning
    pub means : slice_get is_region.known at.number ≡ Some meaning
    pub is : q ≡ BlockPoint levels meaning

  -- A required name, which no block around the place defines (6.2.2.10).
  pub record IsRequired (v : List ℕ) (q : Point) : Type 0 where
    pub nowhere : IsNowhere v
    pub index : ℕ
    pub found : place (map (λ r. r.0) required_names) s ≡ Some index
    pub meaning : Meaning
    pub means : slice_get (map (λ r. r.1) required_names) index ≡ Some meaning
    pub is : q ≡ BlockPoint (suc (length v)) meaning

  -- a field of the innermost opened record that has one with this name (6.8.3.10)
  abbrev pub Opened : Type 0
  Opened = List (DataType × FieldList)

  abbrev pub NoField : Opened → Type 0
  NoField [] = Unit {0}
  NoField (r ∷ rs) = (field_in r.1 s ≡ None) × NoField rs

  pub record IsOfRecord (opened : Opened) (q : Point) : Type 0 where
    pub inner : Opened
    pub type : DataType
    pub fields : FieldList
    pub outer : Opened
    pub are : opened ≡ inner ++ (type, fields) ∷ outer
    pub closest : NoField inner
    pub field : ℕ × DataType
    pub found : field_in fields s ≡ Some field
    pub is : q ≡ FieldPoint (length inner) type field.0 field.1

  -- what a name denotes with some records opened in a block, at a place after n of its points, within some regions
  pub data IsDenoted (v : List ℕ) (n : ℕ) (around : List Region) (opened : Opened) (q : Point) : Type 0 where
    of_record : IsOfRecord opened q → IsDenoted v n around opened q
    of_block : NoField opened → IsOfBlock v n around q → IsDenoted v n around opened q
    of_required : NoField opened → IsRequired v q → IsDenoted v n around opened q

  -- that a name denotes something there
  pub data HasPoint (v : List ℕ) (n : ℕ) (opened : Opened) : Type 0 where
    a_field : (inner : Opened) (type : DataType) (fields : FieldList) (outer : Opened) (field : ℕ × DataType) → opened
        ≡ inner ++ (type, fields) ∷ outer → NoField inner → field_in fields s ≡ Some field → HasPoint v n opened
    a_point : (at : Where) → NoField opened → Denotes text p s v n at → HasPoint v n opened
    a_required_name : NoField opened → IsNowhere v → has (map (λ r. r.0) required_names) s ≡ true → HasPoint v n opened

abbrev pub opened_regions : List (DataType × FieldList) → List Region
opened_regions rs = map (λ r. RecordRegion r.0 r.1) rs

-- A use, beginning at an offset, that finds a point in the regions of its place finds what its name denotes there.
abbrev pub UsesFindWhatTheyDenote : Type 0
UsesFindWhatTheyDenote =
    (text : List ℕ) (p : syntax.Program) (v : List ℕ) (n : ℕ) (r : Region) (outer : List Region)
    → IsRegion text p v n outer r → AreAround text p v outer
    → (opened : List (DataType × FieldList)) (s : List ℕ) (at : ℕ) (q : Point) → find
    (opened_regions opened ++ r ∷ outer) s at ≡ Yes q → IsDenoted text p s v n (r ∷ outer) opened q

-- A use of a name that denotes something there finds it. Such counts go up to 4294967295 (this project's limit); blocks
-- are at most 15 deep.
abbrev pub WhatIsDenotedIsFound : Type 0
WhatIsDenotedIsFound =
    (text : List ℕ) (p : syntax.Program) (v : List ℕ) (n : ℕ) (r : Region) (outer : List Region)
    → IsRegion text p v n outer r → AreAround text p v outer → length v < 4294967295
    → (opened : List (DataType × FieldList)) → length opened < 4294967295 → (s : List ℕ) → HasPoint text p s v n opened
    → (q : Point) × ((at : ℕ) → find (opened_regions opened ++ r ∷ outer) s at ≡ Yes q)

-- a name denotes at most one point of the blocks
abbrev pub OnePointIsDenoted : Type 0
OnePointIsDenoted = (text : List ℕ) (p : syntax.Program) (s : List ℕ) (v : List ℕ) (n : ℕ) (w x : Where)
    → Denotes text p s v n w → Denotes text p s v n x → w ≡ x
