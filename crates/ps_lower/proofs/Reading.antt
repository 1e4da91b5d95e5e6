-- What reads from the input.
use Rattle.std.proofs.Common.{◌≡◌, ℕ, ℤ, suc, pos, Bool, true, List, [], ◌∷◌, ◌++◌, map, Result, OnOk, refl, subst}
use Rattle.ps_tree.specs.Tree as t
use Rattle.ps_tree.specs.declared.tree.statements.ReadVariable.{ReadVariable}
use Rattle.ps_tree.specs.View.{read_of}
use Rattle.tac_code.specs.declared.code.Base.TheVariants as base
use Rattle.tac_code.specs.declared.code.Instruction.{Instruction}
use Rattle.tac_code.specs.declared.code.Instruction.TheVariants as i
use Rattle.tac_rt.specs.declared.run_time.RunTime.TheVariants.{ReadNumber}
use Rattle.ps_lower_code.specs.Scopes.{Scope, Site, even_from, held, beside, range_code, site_code, input_site}
use Rattle.ps_lower_code.specs.Scopes.{helper}
use Rattle.ps_lower_code.specs.Values.{place_code, place_site, is_byte, store_code}
use Rattle.ps_lower_code.specs.Statements.{read_code, reads_code}
use Rattle.ps_lower.proofs.Appends.{and_then}
use Rattle.ps_lower.proofs.Arms.{behind}

-- ---- a variable, the input's address, what is taken from it, and the store

abbrev pub read_with : Scope → t.Place → (taken : ℕ → List Instruction) → (n a : ℕ) → List Instruction
read_with k p taken n a = ((place_code k p n 0 ++ site_code a (input_site k) 8) ++ taken a) ++ store_code (is_byte p)
    (place_site k p n) a

pub read_made : {X E : Type 0} (k : Scope) (p : t.Place) (taken : ℕ → List Instruction) (d n a : ℕ) (s : Site)
    (byte : Bool) (r : Result X E) (new o3 o2 o1 old : List Instruction) → n ≡ held true d → a ≡ even_from (suc n) → o1
    ≡ old ++ place_code k p n 0 → s ≡ place_site k p n → byte ≡ is_byte p → o2 ≡ o1 ++ site_code a (input_site k) 8 → o3
    ≡ o2 ++ taken a → OnOk r (new ≡ o3 ++ store_code byte s a) → OnOk r
    (new ≡ old ++ read_with k p taken (held true d) (even_from (suc (held true d))))
read_made k p taken d n a s byte r new o3 o2 o1 old is next c g z q w h =
    subst (λ y. OnOk r (new ≡ old ++ read_with k p taken y (even_from (suc y)))) is
    (subst (λ y. OnOk r (new ≡ old ++ read_with k p taken n y)) next
    (behind r new o3 old ((place_code k p n 0 ++ site_code a (input_site k) 8) ++ taken a)
    (store_code (is_byte p) (place_site k p n) a)
    (and_then old o2 o3 (place_code k p n 0 ++ site_code a (input_site k) 8) (taken a)
    (and_then old o1 o2 (place_code k p n 0) (site_code a (input_site k) 8) c q) w)
    (subst (λ (y : Site). OnOk r (new ≡ o3 ++ store_code (is_byte p) y a)) g
    (subst (λ b. OnOk r (new ≡ o3 ++ store_code b s a)) z h))))

-- ---- one variable after another

abbrev pub reads_added : Scope → (d : ℕ) → List ReadVariable → List Instruction
reads_added k d l = reads_code k (map read_of l) d

pub reads_further : (k : Scope) (d : ℕ) (v : ReadVariable) (rest : List ReadVariable) → reads_added k d (v ∷ rest)
    ≡ read_code k (read_of v) d ++ reads_added k d rest
reads_further k d v rest = refl

-- ---- the rest of the line

pub line_made : {X E : Type 0} (k : Scope) (variables : List t.ReadVariable) (d a : ℕ) (taken : ℕ → List Instruction)
    (r : Result X E) (new o2 o1 old : List Instruction) → a ≡ even_from d → o1 ≡ old ++ reads_code k variables d → o2
    ≡ o1 ++ site_code a (input_site k) 8 → OnOk r (new ≡ o2 ++ taken a) → OnOk r
    (new ≡ old ++ ((reads_code k variables d ++ site_code (even_from d) (input_site k) 8) ++ taken (even_from d)))
line_made k variables d a taken r new o2 o1 old is p q h =
    subst (λ y. OnOk r (new ≡ old ++ ((reads_code k variables d ++ site_code y (input_site k) 8) ++ taken y))) is
    (behind r new o2 old (reads_code k variables d ++ site_code a (input_site k) 8) (taken a)
    (and_then old o1 o2 (reads_code k variables d) (site_code a (input_site k) 8) p q) h)

-- ---- a number

abbrev pub number_code : Scope → (low high : ℤ) → (line t u : ℕ) → List Instruction
number_code k low high line a u =
    (i.Offset u base.Scratch 0 4 ∷ helper k ReadNumber (a ∷ u ∷ []) a ∷ [])
    ++ ((i.CheckRange a (pos 0) (pos 2) 9 line ∷ i.CheckRange a (pos 0) (pos 1) 10 line ∷ i.CheckRange a (pos 0)
    (pos 0) 4 line ∷ [])
    ++ (i.Load a base.Scratch 0 ∷ range_code a low high 4 line))

pub number_made : {X E : Type 0} (k : Scope) (low high : ℤ) (line a u : ℕ) (r : Result X E)
    (new o4 o3 o2 o1 old : List Instruction) → u ≡ beside a → o1 ≡ old ++ i.Offset u base.Scratch 0 4 ∷ [] → o2 ≡ o1
    ++ helper k ReadNumber (a ∷ u ∷ []) a ∷ [] → o3 ≡ o2
    ++ (i.CheckRange a (pos 0) (pos 2) 9 line ∷ i.CheckRange a (pos 0) (pos 1) 10 line ∷ i.CheckRange a (pos 0)
    (pos 0) 4 line ∷ []) → o4 ≡ o3 ++ i.Load a base.Scratch 0 ∷ [] → OnOk r (new ≡ o4 ++ range_code a low high 4 line)
    → OnOk r (new ≡ old ++ number_code k low high line a (beside a))
number_made k low high line a u r new o4 o3 o2 o1 old is h1 h2 h3 h4 h =
    subst (λ y. OnOk r (new ≡ old ++ number_code k low high line a y)) is
    (behind r new o2 old (i.Offset u base.Scratch 0 4 ∷ helper k ReadNumber (a ∷ u ∷ []) a ∷ []) _
    (and_then old o1 o2 (i.Offset u base.Scratch 0 4 ∷ []) (helper k ReadNumber (a ∷ u ∷ []) a ∷ []) h1 h2)
    (behind r new o3 o2 (i.CheckRange a (pos 0) (pos 2) 9 line ∷ i.CheckRange a (pos 0) (pos 1) 10 line ∷ i.CheckRange a
    (pos 0) (pos 0) 4 line ∷ []) _ h3
    (behind r new o4 o3 (i.Load a base.Scratch 0 ∷ []) (range_code a low high 4 line) h4 h)))
