-- First values step by step: what a step leaves, and that the steps end.
use Rattle.std.proofs.Common.{◌≡◌, ℕ, zero, suc, ◌+◌, ◌*◌, ◌<◌, ◌≤◌, max, nat_eq, Bool, true, false, if◌then◌else◌}
use Rattle.std.proofs.Common.{List, [], ◌∷◌, ◌++◌, refl, ap, sym, subst, ◌∙◌, append_assoc, arith}
use Rattle.std.proofs.Common.{mul-le-mul_right}
use Rattle.std.proofs.Math.Nat.{mul_left_comm}
use Rattle.std.proofs.lemmas.Bool.Decides.{nat_tests}
use Rattle.std.specs.Borrow.{Bor}
use Rattle.std.proofs.lemmas.List.{append-nil}
use Rattle.tac_code.specs.declared.code.Base.{Base}
use Rattle.tac_code.specs.declared.code.Instruction.{Instruction}
use Rattle.ps_tree.specs.declared.types.Ty.{Ty}
use Rattle.ps_tree.specs.View.{type_of, types_of}
use Rattle.ps_lower_layout.specs.Shapes.{Shape, ArrayShape, RecordShape, shape_of, shapes_of, word_count, byte_count}
use Rattle.ps_lower_bounds.specs.Weights.{first_weight}
use Rattle.ps_lower_code.specs.Scopes.{Scope}
use Rattle.ps_lower_code.specs.Statements.{spread_code, first_code, fields_code}
use Rattle.ps_lower.specs.declared.task.Task.{Task}
use Rattle.ps_lower.specs.declared.task.Task.TheVariants.{FirstValue, Copies, FieldsLeft}
use Rattle.ps_lower.proofs.Spreading.{nothing_repeated, first_repeated}
use Rattle.ps_lower.specs.FirstTasks.{task_code, tasks_code, task_weight, tasks_weight, task_reach, tasks_reach}
use Rattle.ps_lower.specs.FirstTasks.{IsDone, IsLeft, AreLeft}

-- ---- the last task

pub last_code : (k : Scope) (b : Base) (t : ℕ) (tasks : List Task) (task : Task) → tasks_code k b t (tasks ++ task ∷ [])
    ≡ task_code k b t task ++ tasks_code k b t tasks
last_code k b t [] task = sym (append-nil (task_code k b t task))
last_code k b t (x ∷ rest) task =
    ap (λ l. l ++ task_code k b t x) (last_code k b t rest task)
    ∙ append_assoc (task_code k b t task) (tasks_code k b t rest) (task_code k b t x)

pub last_weight : (tasks : List Task) (task : Task) → tasks_weight (tasks ++ task ∷ []) ≡ task_weight task
    + tasks_weight tasks
last_weight [] task = refl
last_weight (x ∷ rest) task = let h = last_weight rest task in omega (arith, h)

pub last_reach : (tasks : List Task) (task : Task) → tasks_reach (tasks ++ task ∷ []) ≤ max (task_reach task)
    (tasks_reach tasks)
last_reach [] task = omega arith
last_reach (x ∷ rest) task = let h = last_reach rest task in omega (arith, h)

pub last_near : (tasks : List Task) (task : Task) → max (task_reach task) (tasks_reach tasks) ≤ tasks_reach
    (tasks ++ task ∷ [])
last_near [] task = omega arith
last_near (x ∷ rest) task = let h = last_near rest task in omega (arith, h)

-- ---- what the steps leave

-- the components and the copies of an array go no further than the array
array_near : (n w f each whole : ℕ) → each ≡ 4 * w → whole ≡ n * each → ¬ (whole ≡ 0) → max (max each whole) f ≤
    (if nat_eq (n * w) 0 then 0 else max (n * (4 * w)) f)
array_near n w f each whole e g h = go (nat_eq (n * w) 0) refl
  where
    same : whole ≡ 4 * (n * w)
    same = g ∙ ap (λ m. n * m) e ∙ mul_left_comm n 4 w

    most : n * each ≡ n * (4 * w)
    most = ap (λ m. n * m) e

    less : (m : ℕ) → m ≡ n → each ≤ whole
    less zero q = let z : 0 * each ≡ 0 = omega arith in let y : whole ≡ 0 = g ∙ ap (λ m. m * each) (sym q) ∙ z in absurd
        (h y)
    less (suc m) q =
        let one : 1 ≤ suc m = omega arith in
        let l = mul-le-mul_right each one in
        let y : whole ≡ suc m * each = g ∙ ap (λ m. m * each) (sym q) in
        omega (arith, l, y)

    go : (b : Bool) → nat_eq (n * w) 0 ≡ b → max (max each whole) f ≤ (if b then 0 else max (n * (4 * w)) f)
    go true q = let z : n * w ≡ 0 = grind (arith, nat_tests, q) in let y : whole ≡ 0 = omega (arith, same, z) in absurd
        (h y)
    go false q = let l = less n refl in omega (arith, l, g, most)

pub nothing_left : (offset n each whole : ℕ) (shape : Shape) (tasks : List Task) → each ≡ byte_count shape → whole
    ≡ n * each → whole ≡ 0 → IsLeft offset (ArrayShape n shape) tasks tasks
nothing_left offset n each whole shape tasks e f h = record {
  same = λ k b t. ap (λ l. l ++ tasks_code k b t tasks) (sym (nothing_repeated k b t offset n each whole shape e f h));
  less = omega arith;
  near = omega arith;
}

pub component_left : (offset n each whole : ℕ) (type : Bor Ty) (old middle new : List Task) → each ≡ byte_count
    (shape_of (type_of type.now)) → whole ≡ n * each → ¬ (whole ≡ 0) → middle ≡ old ++ Copies offset each whole ∷ []
    → new ≡ middle ++ FirstValue type offset ∷ [] → IsLeft offset (ArrayShape n (shape_of (type_of type.now))) old new
component_left offset n each whole type old middle new e f h p q = record {
  same = λ k b t.
      ap (tasks_code k b t) q
      ∙ last_code k b t middle (FirstValue type offset)
      ∙ ap (λ l. first_code k b t offset (shape_of (type_of type.now)) ++ l)
      (ap (tasks_code k b t) p ∙ last_code k b t old (Copies offset each whole))
      ∙ sym (append_assoc (first_code k b t offset (shape_of (type_of type.now))) (spread_code k b t offset each whole)
      (tasks_code k b t old))
      ∙ ap (λ l. l ++ tasks_code k b t old) (sym
      (first_repeated k b t offset n each whole (shape_of (type_of type.now)) e f h));
  less =
      (let u = ap tasks_weight q ∙ last_weight middle (FirstValue type offset) in
      let v = ap tasks_weight p ∙ last_weight old (Copies offset each whole) in
      omega (arith, u, v));
  near =
      (let u = last_reach middle (FirstValue type offset) in
      let v = last_reach old (Copies offset each whole) in
      let a = ap tasks_reach p in
      let c = ap tasks_reach q in
      let m = array_near n (word_count (shape_of (type_of type.now)))
      (first_weight (shape_of (type_of type.now))) each whole e f h in
      omega (arith, u, v, a, c, m));
}

pub record_left : (offset : ℕ) (types : Bor (List Ty)) (old new : List Task) → new ≡ old ++ FieldsLeft types offset ∷ []
    → IsLeft offset (RecordShape (shapes_of (types_of types.now))) old new
record_left offset types old new p = record {
  same = λ k b t. ap (tasks_code k b t) p ∙ last_code k b t old (FieldsLeft types offset);
  less = (let u = ap tasks_weight p ∙ last_weight old (FieldsLeft types offset) in omega (arith, u));
  near = (let u = last_reach old (FieldsLeft types offset) in let a = ap tasks_reach p in omega (arith, u, a));
}

pub field_left : (offset next : ℕ) (types : List Ty) (type : Bor Ty) (rest : Bor (List Ty)) (old middle new : List Task)
    → types ≡ type.now ∷ rest.now → next ≡ offset + byte_count (shape_of (type_of type.now)) → middle ≡ old
    ++ FieldsLeft rest next ∷ [] → new ≡ middle ++ FirstValue type offset ∷ [] → AreLeft offset
    (shapes_of (types_of types)) old new
field_left offset next types type rest old middle new e f p q =
    subst (λ l. AreLeft offset (shapes_of (types_of l)) old new) (sym e)
    (record {
      same = λ k b t.
          ap (tasks_code k b t) q
          ∙ last_code k b t middle (FirstValue type offset)
          ∙ ap (λ l. first_code k b t offset (shape_of (type_of type.now)) ++ l)
          (ap (tasks_code k b t) p ∙ last_code k b t old (FieldsLeft rest next))
          ∙ sym (append_assoc (first_code k b t offset (shape_of (type_of type.now)))
          (fields_code k b t next (shapes_of (types_of rest.now))) (tasks_code k b t old))
          ∙ ap (λ n. (first_code k b t offset (shape_of (type_of type.now)) ++ fields_code k b t n
          (shapes_of (types_of rest.now))) ++ tasks_code k b t old) f;
      less =
          (let u = ap tasks_weight q ∙ last_weight middle (FirstValue type offset) in
          let v = ap tasks_weight p ∙ last_weight old (FieldsLeft rest next) in
          omega (arith, u, v));
      near =
          (let u = last_reach middle (FirstValue type offset) in
          let v = last_reach old (FieldsLeft rest next) in
          let a = ap tasks_reach p in
          let c = ap tasks_reach q in
          omega (arith, u, v, a, c, f));
    })

-- ---- all steps

-- what was added so far, and the code of what is left
pub record Doing (k : Scope) (b : Base) (t : ℕ) (start code now : List Instruction) (tasks : List Task) : Type 0 where
  pub left : now ++ tasks_code k b t tasks ≡ start ++ code

pub doing_next : (k : Scope) (b : Base) (t : ℕ) (start code now next : List Instruction) (task : Task)
    (tasks rest more : List Task) → tasks ≡ rest ++ task ∷ [] → Doing k b t start code now tasks → IsDone k b t
    (task_code k b t task) (task_weight task) (task_reach task) now next rest more → Doing k b t start code next more
doing_next k b t start code now next task tasks rest more e s d = record {
  left =
      d.same
      ∙ append_assoc now (task_code k b t task) (tasks_code k b t rest)
      ∙ ap (λ l. now ++ l) (sym (last_code k b t rest task))
      ∙ ap (λ l. now ++ tasks_code k b t l) (sym e)
      ∙ s.left;
}

pub doing_less : (k : Scope) (b : Base) (t : ℕ) (now next : List Instruction) (task : Task)
    (tasks rest more : List Task) → tasks ≡ rest ++ task ∷ [] → IsDone k b t (task_code k b t task) (task_weight task)
    (task_reach task) now next rest more → tasks_weight more < tasks_weight tasks
doing_less k b t now next task tasks rest more e d = let h = d.less in let u = ap tasks_weight e ∙ last_weight rest task
    in omega (arith, h, u)

-- no task goes too far
pub task_near : (task : Task) (tasks rest : List Task) (most : ℕ) → tasks ≡ rest ++ task ∷ [] → tasks_reach tasks ≤ most
    → task_reach task ≤ most
task_near task tasks rest most e l = let u = last_near rest task in let a = ap tasks_reach e in omega (arith, u, a, l)

pub doing_near : (k : Scope) (b : Base) (t : ℕ) (now next : List Instruction) (task : Task)
    (tasks rest more : List Task) (most : ℕ) → tasks ≡ rest ++ task ∷ [] → tasks_reach tasks ≤ most → IsDone k b t
    (task_code k b t task) (task_weight task) (task_reach task) now next rest more → tasks_reach more ≤ most
doing_near k b t now next task tasks rest more most e l d = let h = d.near in let u = last_near rest task
    in let a = ap tasks_reach e in omega (arith, h, u, a, l)
