-- `pack`, `unpack` and `new`, piece by piece.
use Rattle.std.proofs.Common.{◌≡◌, ℕ, zero, suc, pos, ◌+◌, ◌-◌, ◌+ℤ◌, ◌<◌, ◌≤◌, nat_le, if◌then◌else◌, Bool, true}
use Rattle.std.proofs.Common.{false, List, [], ◌∷◌, ◌++◌, length, map, get_or, Result, OnOk, refl, ap, sym, subst, ◌∙◌}
use Rattle.std.proofs.Common.{arith}
use Rattle.std.proofs.lemmas.Bool.{le-leb, lt-leb}
use Rattle.ps_tree.specs.Types.{DataType, PointerType}
use Rattle.ps_tree.specs.declared.types.Ordinal.{Ordinal}
use Rattle.ps_tree.specs.declared.types.Ty.{Ty}
use Rattle.ps_tree.specs.declared.types.Ty.TheVariants.{Pointer}
use Rattle.ps_tree.specs.TypeView.{type_of}
use Rattle.ps_tree.specs.Sizes.{value_count}
use Rattle.ps_tree.specs.Tree as t
use Rattle.ps_meaning.specs.Expressions.{index_of}
use Rattle.tac_code.specs.declared.code.Base.TheVariants as base
use Rattle.tac_code.specs.declared.code.Instruction.{Instruction}
use Rattle.tac_code.specs.declared.code.Instruction.TheVariants as i
use Rattle.tac_rt.specs.declared.run_time.RunTime.TheVariants.{PackBytes, UnpackBytes}
use Rattle.ps_lower_layout.specs.Shapes.{shape_of, component_bytes}
use Rattle.ps_lower_code.specs.Scopes.{Scope, Site, even_from, held, site_code, helper}
use Rattle.ps_lower_code.specs.Values.{is_byte, is_byte_array, place_code, place_site, store_code}
use Rattle.ps_lower_code.specs.Statements.{expr_code, first_code, components_code, room_code, statement_code}
use Rattle.ps_lower.proofs.Appends.{and_then}
use Rattle.ps_lower.proofs.Arms.{behind}

pub plus_one : (n : ℕ) → n + 1 ≡ suc n
plus_one n = omega arith

pub held_told : (n m : ℕ) → m ≡ held true (n + 1) → m ≡ held true (suc n)
held_told n m e = e ∙ ap (λ y. held true y) (plus_one n)

-- ---- components

pack_told : {X E : Type 0} (k : Scope) (packing : Bool) (a b n : ℕ) (from : Bool) (width s : ℕ) (r : Result X E)
    (new old : List Instruction) → OnOk r (new ≡ old ++ i.Literal s (pos n) ∷ helper k PackBytes (b ∷ a ∷ s ∷ []) s
    ∷ []) → OnOk r (new ≡ old ++ components_code k packing a b n from true width s)
pack_told k packing a b n true width s r new old h = h
pack_told k packing a b n false width s r new old h = h

pub packed_told : {X E : Type 0} (k : Scope) (packing : Bool) (a b n : ℕ) (from to : Bool) (width s : ℕ)
    (r : Result X E) (new old : List Instruction) → true ≡ to → OnOk r
    (new ≡ old ++ i.Literal s (pos n) ∷ helper k PackBytes (b ∷ a ∷ s ∷ []) s ∷ []) → OnOk r
    (new ≡ old ++ components_code k packing a b n from to width s)
packed_told k packing a b n from to width s r new old e h = subst
    (λ y. OnOk r (new ≡ old ++ components_code k packing a b n from y width s)) e
    (pack_told k packing a b n from width s r new old h)

pub unpacked_told : {X E : Type 0} (k : Scope) (packing : Bool) (a b n : ℕ) (from to : Bool) (width s : ℕ)
    (r : Result X E) (new old : List Instruction) → false ≡ to → true ≡ from → OnOk r
    (new ≡ old ++ i.Literal s (pos n) ∷ helper k UnpackBytes (b ∷ a ∷ s ∷ []) s ∷ []) → OnOk r
    (new ≡ old ++ components_code k packing a b n from to width s)
unpacked_told k packing a b n from to width s r new old e f h =
    subst (λ y. OnOk r (new ≡ old ++ components_code k packing a b n from y width s)) e
    (subst (λ y. OnOk r (new ≡ old ++ components_code k packing a b n y false width s)) f h)

pub words_told : {X E : Type 0} (k : Scope) (packing : Bool) (a b n : ℕ) (from to : Bool) (width each s : ℕ)
    (r : Result X E) (new old : List Instruction) → false ≡ to → false ≡ from → each ≡ width → OnOk r
    (new ≡ old ++ components_code k packing a b n false false each s) → OnOk r
    (new ≡ old ++ components_code k packing a b n from to width s)
words_told k packing a b n from to width each s r new old e f g h =
    subst (λ y. OnOk r (new ≡ old ++ components_code k packing a b n from y width s)) e
    (subst (λ y. OnOk r (new ≡ old ++ components_code k packing a b n y false width s)) f
    (subst (λ y. OnOk r (new ≡ old ++ components_code k packing a b n false false y s)) g h))

abbrev pub moved_code : Scope → (packing : Bool) → (from to : DataType) → (n a b s : ℕ) → List Instruction
moved_code k packing from to n a b s = components_code k packing a b n (is_byte_array (shape_of from))
    (is_byte_array (shape_of to)) (component_bytes (shape_of from)) s

-- the component at an index, as an address
abbrev pub address_code : DataType → Site → (a index line : ℕ) → List Instruction
address_code type s a j line =
    i.Index a s.base j (index_of type).low (index_of type).high (component_bytes (shape_of type)) 5 line ∷ i.Offset a
    (base.Temporary a) s.offset 0 ∷ []

-- ---- the room after an index

abbrev room_if : DataType → (s line n m : ℕ) → Bool → List Instruction
room_if whole s line n m fits =
    if fits then i.CheckRange s (index_of whole).low ((index_of whole).low +ℤ pos (n - m)) 5 line ∷ []
    else (i.Trap 5 line ∷ [])

pub room_told : {X E : Type 0} (whole part : DataType) (s line n m more : ℕ) (range : Ordinal) (r : Result X E)
    (new old : List Instruction) → range ≡ index_of whole → n ≡ value_count range → m ≡ value_count (index_of part)
    → m ≤ n → more ≡ n - m → OnOk r (new ≡ old ++ i.CheckRange s range.low (range.low +ℤ pos more) 5 line ∷ []) → OnOk r
    (new ≡ old ++ room_code whole part s line)
room_told whole part s line n m more range r new old is count few fits left h =
    let whole_count : n ≡ value_count (index_of whole) = count ∙ ap value_count is in
    subst (λ y. OnOk r (new ≡ old ++ room_if whole s line y (value_count (index_of part))
    (nat_le (value_count (index_of part)) y))) whole_count
    (subst (λ y. OnOk r (new ≡ old ++ room_if whole s line n y (nat_le y n))) few
    (subst (λ b. OnOk r (new ≡ old ++ room_if whole s line n m b)) (sym (le-leb m n fits))
    (subst (λ y. OnOk r (new ≡ old ++ i.CheckRange s (index_of whole).low ((index_of whole).low +ℤ pos y) 5 line ∷ []))
    left
    (subst (λ (y : Ordinal). OnOk r (new ≡ old ++ i.CheckRange s y.low (y.low +ℤ pos more) 5 line ∷ [])) is h))))

pub no_room_told : {X E : Type 0} (whole part : DataType) (s line n m : ℕ) (range : Ordinal) (r : Result X E)
    (new old : List Instruction) → range ≡ index_of whole → n ≡ value_count range → m ≡ value_count (index_of part)
    → n < m → OnOk r (new ≡ old ++ i.Trap 5 line ∷ []) → OnOk r (new ≡ old ++ room_code whole part s line)
no_room_told whole part s line n m range r new old is count few full h =
    subst (λ y. OnOk r (new ≡ old ++ room_if whole s line y (value_count (index_of part))
    (nat_le (value_count (index_of part)) y))) (count ∙ ap value_count is)
    (subst (λ y. OnOk r (new ≡ old ++ room_if whole s line n y (nat_le y n))) few
    (subst (λ b. OnOk r (new ≡ old ++ room_if whole s line n m b)) (sym (lt-leb m n full)) h))

-- ---- pack

abbrev pack_code : Scope → (p q : t.Place) → t.Expr → (from to : DataType) → (line n a b c s : ℕ) → List Instruction
pack_code k p q e from to line n a b c s =
    place_code k p a 0 ++ expr_code k e b 0 ++ (address_code from (place_site k p a) a b line ++ place_code k q c 0)
    ++ room_code from to b line
    ++ site_code c (place_site k q c) 0 ++ moved_code k true from to n a c s

pub pack_made : {X E : Type 0} (k : Scope) (p q : t.Place) (e : t.Expr) (from to : DataType) (line d n a b c s : ℕ)
    (one two : Site) (r : Result X E) (new o6 o5 o4 o3 o2 o1 old : List Instruction) → a ≡ held true d → b ≡ held true
    (suc a) → c ≡ held true (suc b) → s ≡ even_from (suc c) → n ≡ value_count (index_of to) → o1 ≡ old
    ++ place_code k p a 0 → one ≡ place_site k p a → o2 ≡ o1 ++ expr_code k e b 0 → o3 ≡ o2
    ++ address_code from one a b line → o4 ≡ o3 ++ place_code k q c 0 → two ≡ place_site k q c → o5 ≡ o4
    ++ room_code from to b line → o6 ≡ o5 ++ site_code c two 0 → OnOk r (new ≡ o6 ++ moved_code k true from to n a c s)
    → OnOk r (new ≡ old ++ statement_code k (t.Pack p from e line q to) d)
pack_made k p q e from to line d n a b c s one two r new o6 o5 o4 o3 o2 o1 old at_a at_b at_c at_s count h1 is_one h2 h3
    h4 is_two h5 h6 h =
    subst (λ y. OnOk r (new ≡ old ++ pack_code k p q e from to line (value_count (index_of to)) y (held true (suc y))
    (held true (suc (held true (suc y)))) (even_from (suc (held true (suc (held true (suc y)))))))) at_a
    (subst (λ y. OnOk r (new ≡ old ++ pack_code k p q e from to line (value_count (index_of to)) a y (held true (suc y))
    (even_from (suc (held true (suc y)))))) at_b
    (subst (λ y. OnOk r (new ≡ old ++ pack_code k p q e from to line (value_count (index_of to)) a b y
    (even_from (suc y)))) at_c
    (subst (λ y. OnOk r (new ≡ old ++ pack_code k p q e from to line (value_count (index_of to)) a b c y)) at_s
    (subst (λ y. OnOk r (new ≡ old ++ pack_code k p q e from to line y a b c s)) count
    (behind r new o6 old _ (moved_code k true from to n a c s)
    (and_then old o5 o6 _ (site_code c (place_site k q c) 0)
    (and_then old o4 o5 _ (room_code from to b line)
    (and_then old o2 o4 (place_code k p a 0 ++ expr_code k e b 0)
    (address_code from (place_site k p a) a b line ++ place_code k q c 0)
    (and_then old o1 o2 (place_code k p a 0) (expr_code k e b 0) h1 h2)
    (and_then o2 o3 o4 (address_code from (place_site k p a) a b line) (place_code k q c 0)
    (h3 ∙ ap (λ (y : Site). o2 ++ address_code from y a b line) is_one) h4))
    h5) (h6 ∙ ap (λ (y : Site). o5 ++ site_code c y 0) is_two)) h)))))

-- ---- unpack

abbrev unpack_code : Scope → (p q : t.Place) → t.Expr → (from to : DataType) → (line n a b c s : ℕ) → List Instruction
unpack_code k p q e from to line n a b c s =
    place_code k p a 0 ++ site_code a (place_site k p a) 0 ++ place_code k q b 0 ++ expr_code k e c 0
    ++ (address_code to (place_site k q b) b c line ++ room_code to from c line) ++ moved_code k false from to n a b s

pub unpack_made : {X E : Type 0} (k : Scope) (p q : t.Place) (e : t.Expr) (from to : DataType) (line d n a b c s : ℕ)
    (one two : Site) (r : Result X E) (new o6 o5 o4 o3 o2 o1 old : List Instruction) → a ≡ held true d → b ≡ held true
    (suc a) → c ≡ held true (suc b) → s ≡ even_from (suc c) → n ≡ value_count (index_of from) → o1 ≡ old
    ++ place_code k p a 0 → one ≡ place_site k p a → o2 ≡ o1 ++ site_code a one 0 → o3 ≡ o2 ++ place_code k q b 0 → two
    ≡ place_site k q b → o4 ≡ o3 ++ expr_code k e c 0 → o5 ≡ o4 ++ address_code to two b c line → o6 ≡ o5
    ++ room_code to from c line → OnOk r (new ≡ o6 ++ moved_code k false from to n a b s) → OnOk r
    (new ≡ old ++ statement_code k (t.Unpack p from q to e line) d)
unpack_made k p q e from to line d n a b c s one two r new o6 o5 o4 o3 o2 o1 old at_a at_b at_c at_s count h1 is_one h2
    h3 is_two h4 h5 h6 h =
    subst (λ y. OnOk r (new ≡ old ++ unpack_code k p q e from to line (value_count (index_of from)) y
    (held true (suc y)) (held true (suc (held true (suc y))))
    (even_from (suc (held true (suc (held true (suc y)))))))) at_a
    (subst (λ y. OnOk r (new ≡ old ++ unpack_code k p q e from to line (value_count (index_of from)) a y
    (held true (suc y)) (even_from (suc (held true (suc y)))))) at_b
    (subst (λ y. OnOk r (new ≡ old ++ unpack_code k p q e from to line (value_count (index_of from)) a b y
    (even_from (suc y)))) at_c
    (subst (λ y. OnOk r (new ≡ old ++ unpack_code k p q e from to line (value_count (index_of from)) a b c y)) at_s
    (subst (λ y. OnOk r (new ≡ old ++ unpack_code k p q e from to line y a b c s)) count
    (behind r new o6 old _ (moved_code k false from to n a b s)
    (and_then old o4 o6 (place_code k p a 0 ++ site_code a (place_site k p a) 0 ++ place_code k q b 0
    ++ expr_code k e c 0) (address_code to (place_site k q b) b c line ++ room_code to from c line)
    (and_then old o3 o4 _ (expr_code k e c 0)
    (and_then old o2 o3 _ (place_code k q b 0)
    (and_then old o1 o2 (place_code k p a 0) (site_code a (place_site k p a) 0) h1
    (h2 ∙ ap (λ (y : Site). o1 ++ site_code a y 0) is_one)) h3) h4)
    (and_then o4 o5 o6 (address_code to (place_site k q b) b c line) (room_code to from c line)
    (h5 ∙ ap (λ (y : Site). o4 ++ address_code to y b c line) is_two) h6)) h)))))

-- ---- new

abbrev new_code : Scope → t.Place → (pointer line a b s : ℕ) → List Instruction
new_code k p pointer line a b s =
    place_code k p a 0 ++ i.New b pointer line ∷ first_code k (base.Temporary b) s 0
    (shape_of (t.domain_at k.program pointer)) ++ store_code (is_byte p) (place_site k p a) b

pub new_made : {X E : Type 0} (k : Scope) (p : t.Place) (pointer line d a b s : ℕ) (site : Site) (byte : Bool)
    (r : Result X E) (new o2 o1 old : List Instruction) → a ≡ held true d → b ≡ held true (suc a) → s ≡ even_from
    (suc b) → o1 ≡ old ++ place_code k p a 0 → site ≡ place_site k p a → byte ≡ is_byte p → o2 ≡ o1
    ++ i.New b pointer line ∷ first_code k (base.Temporary b) s 0 (shape_of (t.domain_at k.program pointer)) → OnOk r
    (new ≡ o2 ++ store_code byte site b) → OnOk r (new ≡ old ++ statement_code k (t.New p pointer line) d)
new_made k p pointer line d a b s site byte r new o2 o1 old at_a at_b at_s h1 is_site is_width h2 h =
    subst (λ y. OnOk r (new ≡ old ++ new_code k p pointer line y (held true (suc y))
    (even_from (suc (held true (suc y)))))) at_a
    (subst (λ y. OnOk r (new ≡ old ++ new_code k p pointer line a y (even_from (suc y)))) at_b
    (subst (λ y. OnOk r (new ≡ old ++ new_code k p pointer line a b y)) at_s
    (behind r new o2 old (place_code k p a 0 ++ i.New b pointer line ∷ first_code k (base.Temporary b) s 0
    (shape_of (t.domain_at k.program pointer))) (store_code (is_byte p) (place_site k p a) b)
    (and_then old o1 o2 (place_code k p a 0) (i.New b pointer line ∷ first_code k (base.Temporary b) s 0
    (shape_of (t.domain_at k.program pointer))) h1 h2)
    (subst (λ (y : Site). OnOk r (new ≡ o2 ++ store_code (is_byte p) y b)) is_site
    (subst (λ c. OnOk r (new ≡ o2 ++ store_code c site b)) is_width h)))))

-- ---- the domain of a pointer type

pub typed : (types : List Ty) (n : ℕ) (type : Ty) → n < length types → get_or (map type_of types) n (PointerType 0)
    ≡ type_of (get_or types n type)
typed [] n type h = absurd (omega arith)
typed (x ∷ xs) zero type h = refl
typed (x ∷ xs) (suc n) type h = typed xs n type (omega arith)

pub untyped : (types : List Ty) (n : ℕ) → length types ≤ n → PointerType 0 ≡ get_or (map type_of types) n
    (PointerType 0)
untyped [] n h = refl
untyped (x ∷ xs) zero h = absurd (omega (arith, h))
untyped (x ∷ xs) (suc n) h = untyped xs n (omega (arith, h))

pub pointer_type : (n : ℕ) → type_of (Pointer n) ≡ PointerType n
unfolding type_of
pointer_type n = refl
