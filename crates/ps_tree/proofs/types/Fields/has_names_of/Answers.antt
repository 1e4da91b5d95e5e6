use Rattle.std.proofs.Common.{◌≡◌, length, nat_eq, ne_eqb, sym, ◌∙◌, rules}
use Rattle.ps_tree.proofs.FieldLemmas.{one_length, other_length}
use Rattle.ps_tree.proofs.types.Fields.has_names_of.Goals as goal

pub returns-then-len : goal.returns-then-len
returns-then-len c =
    let own : length c.self.inside.types.items ≡ c.len.result = search rules in
    let others : length c.other.inside.types.items ≡ c.len-2.result = search rules in
    one_length c.self.inside.names c.other.inside.names c.self.inside.types.items c.other.inside.types.items
    c.self.inside.code.list.items c.other.inside.code.list.items c.args.self.now c.args.other.now c.self.view_is
    c.other.view_is c.self.invariant.4 c.other.invariant.4 (own ∙ c.if-len.true ∙ sym others) c.equals.result
    c.equals.ensures

pub returns-else-len : goal.returns-else-len
returns-else-len c =
    let own : length c.self.inside.types.items ≡ c.len.result = search rules in
    let others : length c.other.inside.types.items ≡ c.len-2.result = search rules in
    other_length c.self.inside.names c.other.inside.names c.self.inside.types.items c.other.inside.types.items
    c.self.inside.code.list.items c.other.inside.code.list.items c.args.self.now c.args.other.now c.self.view_is
    c.other.view_is (nat_eq c.len.result c.len-2.result) (ne_eqb c.len.result c.len-2.result c.if-len.false)
    (λ e. c.if-len.false (sym own ∙ e ∙ others))
