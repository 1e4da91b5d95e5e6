-- What a name denotes at a place.
use Rattle.std.specs.Prelude.{List}
use Rattle.ps_text.specs.declared.Span.{Span}
use Rattle.ps_check_judgement.specs.Judged.{Judged}
use Rattle.ps_check_names.specs.Spelling.{spelled}
use Rattle.ps_check_names.specs.Regions.{Context, Region, Point, find}

-- the defining point, or the rule that the use of the name breaks
abbrev pub denoted : Context → List Region → Span → Judged Point
denoted context Γ name = find Γ (spelled context.text name) name.from
