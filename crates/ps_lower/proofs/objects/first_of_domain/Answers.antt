use Rattle.std.proofs.Common.{◌≡◌, ◌++◌, OnOk, ap, sym, subst, ◌∙◌, get_or, map, arith}
use Rattle.ps_tree.specs.Types.{DataType, PointerType}
use Rattle.ps_tree.specs.View.{type_of}
use Rattle.tac_code.specs.declared.code.Base.TheVariants as base
use Rattle.ps_lower_layout.specs.Shapes.{shape_of}
use Rattle.ps_lower_bounds.specs.Weights.{first_weight}
use Rattle.ps_lower_code.specs.Statements.{first_code}
use Rattle.ps_lower.specs.Levels.{scope_of}
use Rattle.ps_lower.proofs.Packed.{typed, untyped, pointer_type}
use Rattle.ps_lower.proofs.objects.first_of_domain.Goals as goal

pub returns-in-Some : goal.returns-in-Some
returns-in-Some c =
    subst (λ (type : DataType). OnOk c.first_object.result
    (c.first_object.new.out ≡ c.args.out.now ++ first_code (scope_of c.args.level.now)
    (base.Temporary c.args.to) c.args.t 0 (shape_of type)))
    (sym (typed c.domains.result.now c.args.pointer c.in-Some.ty.now c.in-Some.ensures.lookup.3.0 ∙ ap type_of
    (sym (c.in-Some.ensures.lookup.3.1 c.in-Some.ty.now)))
    ∙ ap (λ l. get_or (map type_of l) c.args.pointer (PointerType 0)) c.domains.ensures.domains)
    c.first_object.ensures

pub returns-in-None : goal.returns-in-None
returns-in-None c =
    subst (λ (type : DataType). OnOk c.first_object-in-None.result
    (c.first_object-in-None.new.out ≡ c.args.out.now ++ first_code (scope_of c.args.level.now)
    (base.Temporary c.args.to) c.args.t 0 (shape_of type)))
    (pointer_type 0 ∙ untyped c.domains.result.now c.args.pointer c.in-None.ensures.lookup.3
    ∙ ap (λ l. get_or (map type_of l) c.args.pointer (PointerType 0)) c.domains.ensures.domains)
    c.first_object-in-None.ensures

pub first_object-requires-in-None-clause-reach : goal.first_object-requires-in-None-clause-reach
first_object-requires-in-None-clause-reach c = let e = ap (λ (type : DataType). first_weight (shape_of type))
    (pointer_type 0) in omega (arith, e)
