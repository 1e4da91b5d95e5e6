use Rattle.std.proofs.Common.{map, sym, ◌∙◌, arith}
use Rattle.std.proofs.lemmas.List.{length-map}
use Rattle.ps_check_names.proofs.NoteLemmas.{within_from, on_ok}
use Rattle.ps_check_names.proofs.WideLemmas.{put_keeps, put_noted}
use Rattle.ps_check_names.proofs.wides.note.Goals as goal

pub insert_at-requires : goal.insert_at-requires
insert_at-requires c =
    let z = within_from c.args.name.now 0 c.args.names.now c.in-Some.index (sym c.in-Some.ensures) in
    let e = c.requires.even in
    omega (arith, z, e)

pub returns-in-Some-clause-keeps : goal.returns-in-Some-clause-keeps
returns-in-Some-clause-keeps c = on_ok c.insert_at.result c.insert_at.ensures (λ z. put_keeps c.args.names.now
    (map (λ v. v.items) c.args.kinds.now.items) (map (λ v. v.items) c.insert_at.new.kinds.items) c.args.name.now
    c.in-Some.index z.0 (sym c.in-Some.ensures)
    (length-map c.args.kinds.now.items (λ v. v.items) ∙ c.requires.even) z.1 z.3)

pub returns-in-Some-clause-noted : goal.returns-in-Some-clause-noted
returns-in-Some-clause-noted c = on_ok c.insert_at.result c.insert_at.ensures (λ z. put_noted c.args.names.now
    (map (λ v. v.items) c.args.kinds.now.items) (map (λ v. v.items) c.insert_at.new.kinds.items) c.args.name.now
    c.in-Some.index z.0 (sym c.in-Some.ensures)
    (length-map c.args.kinds.now.items (λ v. v.items) ∙ c.requires.even) z.1 c.args.number z.2)
