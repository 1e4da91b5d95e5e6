-- What the values of the program denote in the definitions.
use Rattle.ps_tree.specs.declared.tree.statements.CaseElement.{CaseElement, out-CaseElement}
use Rattle.ps_tree.specs.View.{expr_of, statement_of}
use Rattle.ps_check_statements.specs.declared.for_statements.Head as Rust
use Rattle.ps_check_statements.specs.declared.heap.Places as RustPlaces
use Rattle.ps_check_statements.specs.Procedures.{Places}
use Rattle.ps_check_statements.specs.Structured.{Head, TypedElement}

abbrev pub head_of : Rust.Head → Head
head_of h = record {
  variable = h.variable;
  type = h.ordinal;
  first = expr_of h.first.value;
  first_line = h.first_line.number;
  direction = h.direction;
  last = expr_of h.last.value;
  last_line = h.last_line.number;
}

abbrev pub element_of : CaseElement → TypedElement
element_of e = ((out-CaseElement e).constants.items, statement_of (out-CaseElement e).body)

abbrev pub places_of : RustPlaces.Places → Places
places_of p = record { unpacked = p.unpacked; packed = p.packed; index = p.index }
