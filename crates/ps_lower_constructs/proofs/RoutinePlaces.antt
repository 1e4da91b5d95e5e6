-- Where the code of a routine is, and what follows from numbers of words and of activations.
use Rattle.std.proofs.Common.{◌≡◌, ℕ, suc, ◌+◌, ◌≤◌, List, [], ◌∷◌, ◌++◌, length}
use Rattle.std.proofs.Common.{slice_get, Option, Some, None, refl, sym, ap, ◌∙◌, subst, append_assoc}
use Rattle.std.proofs.Common.{append-nil, arith}
use Rattle.ps_tree.specs.Types.{DataType}
use Rattle.tac_code.specs.declared.code.Block.TheVariants.{Frame as FrameBlock}
use Rattle.tac_code.specs.declared.code.Value.{Value as Word}
use Rattle.tac_code.specs.declared.code.Value.TheVariants.{Address}
use Rattle.tac_code.specs.declared.code.Instruction.{Instruction}
use Rattle.tac_code.specs.declared.code.TacRoutine.{TacRoutine}
use Rattle.tac_code.specs.Meaning.{Code, Temporaries, routines, body_at}
use Rattle.ps_meaning.specs.Values.{Value, first}
use Rattle.ps_meaning.specs.Worlds.{World}
use Rattle.tac_code_steps.specs.Runs.{Stands}
use Rattle.ps_lower_layout.specs.Shapes.{Shape, NumberShape, PointerShape, SetShape, ByteShape, ArrayShape, RecordShape}
use Rattle.ps_lower_layout.specs.Shapes.{Whole, shape_of}
use Rattle.ps_lower_layout.specs.Words.{value_words}
use Rattle.ps_lower_layout.specs.Paths.{Sort, HasShape}
use Rattle.ps_lower_code.specs.Fits.{SortOf}
use Rattle.ps_lower_relation.specs.Ghosts.{Ghost, Numbered}
use Rattle.ps_lower_relation.specs.Here.{Work}
use Rattle.ps_lower_calls.proofs.Parameters.{WordsIn}

-- ---- where the code of a routine is

middle : {A : Type 0} (front back : List A) (x : A) → slice_get (front ++ x ∷ back) (length front) ≡ Some x
middle [] back x = refl
middle (y ∷ front) back x = middle front back x

pub stands_from : (code : Code) (r : ℕ) (routine : TacRoutine) → slice_get (routines code) r ≡ Some routine
    → (front back : List Instruction) → front ++ back ≡ routine.body → Stands code r (length front) back
    (length routine.body)
stands_from code r routine h front [] e = ap length (sym (append-nil front)) ∙ ap length e
stands_from code r routine h front (i ∷ back) e = (
  ap (λ o. body_at o (length front)) h ∙ ap (λ l. slice_get l (length front)) (sym e) ∙ middle front back i,
  subst (λ n. Stands code r n back (length routine.body)) (longer front i)
      (stands_from code r routine h (front ++ i ∷ []) back (append_assoc front (i ∷ []) back ∙ e)),
)
  where
    longer : (front : List Instruction) (i : Instruction) → length (front ++ i ∷ []) ≡ suc (length front)
    longer [] i = refl
    longer (j ∷ front) i = ap suc (longer front i)

-- ---- small facts

abbrev pub number_in : Word → ℕ
number_in (Address (FrameBlock n) o) = n
number_in _ = 0

pub words_in : (f : Temporaries) (t : ℕ) (xs : List Word) → ((i : ℕ) → f (t + i) ≡ slice_get xs i) → WordsIn f t xs
words_in f t [] h = tt
words_in f t (x ∷ xs) h =
    let z : t ≡ t + 0 = omega arith in
    (ap f z ∙ h 0, words_in f (suc t) xs (λ i. let e : suc t + i ≡ t + suc i = omega arith in ap f e ∙ h (suc i)))

pub numbered_less : (gs : List Ghost) (m n : ℕ) → m ≤ n → Numbered gs m → Numbered gs n
numbered_less [] m n l h = tt
numbered_less (g ∷ gs) m n l h = let low = h.0 in (omega (arith, l, low), h.1)

-- a value of one word
pub one_word : (shape : Shape) (sort : Sort) (v : Value) → SortOf (Whole shape) sort → (x : Word)
    × (value_words shape v ≡ Some x ∷ [])
one_word (NumberShape first narrow) sort v e = (_, refl)
one_word (PointerShape t) sort v e = (_, refl)
one_word SetShape sort v e = absurd e
one_word (ByteShape count first) sort v e = absurd e
one_word (ArrayShape count shape) sort v e = absurd e
one_word (RecordShape shapes) sort v e = absurd e

-- what a call leaves in a temporary, where the result was declared under a name
abbrev pub ResultIn : Option DataType → (name t : ℕ) → World → Work → Type 0
ResultIn None name t w k = Unit {0}
ResultIn (Some type) name t w k = (x : Word) × (k.temporaries t ≡ Some x)
    × (value_words (shape_of type) (w.store name) ≡ Some x ∷ []) × HasShape w.made (w.store name) (shape_of type)
