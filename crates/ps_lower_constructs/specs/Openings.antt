-- The records that `with` opened: where the code has them, what the meaning has, and their shapes, innermost first.
use Rattle.std.specs.Prelude.{ℕ, List, []}
use Rattle.ps_meaning.specs.Values.{Spot}
use Rattle.ps_meaning.specs.Worlds.{Context, World}
use Rattle.ps_lower_layout.specs.Shapes.{Shape}
use Rattle.ps_lower_code.specs.Scopes.{Site, Scope}
use Rattle.ps_lower_relation.specs.Here.{Setting, Work, Activated, chain_of, context, OpenedAt}

pub record Opening : Type 0 where
  pub sites : List Site
  pub spots : List Spot
  pub shapes : List Shape

abbrev pub scope_in : Setting → Activated → Opening → Scope
scope_in p c o = record { program = p.program; chain = chain_of c; opened = o.sites }

-- the scope by which the parts of the tree have their forms: where opened records are does not matter there
abbrev pub plain_scope : Setting → Activated → Scope
plain_scope p c = record { program = p.program; chain = chain_of c; opened = [] }

abbrev pub context_in : Activated → Opening → Context
context_in c o = context c o.spots

abbrev pub IsOpened : Setting → Activated → World → Work → (d : ℕ) → Opening → Type 0
IsOpened p c w k d o = OpenedAt p c w.made k.temporaries d o.sites o.spots o.shapes
