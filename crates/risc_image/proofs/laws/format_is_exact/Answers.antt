-- The laws of the format, by the lemmas that prove reading.
use Rattle.risc_image.proofs.Unique.{image_once}
use Rattle.risc_image.proofs.Reading.{image_not_refused, refused_once}
use Rattle.risc_image.proofs.laws.format_is_exact.Goals as goal

pub returns-clause-once : goal.returns-clause-once
returns-clause-once c = image_once

pub returns-clause-apart : goal.returns-clause-apart
returns-clause-apart c = image_not_refused

pub returns-clause-refused_once : goal.returns-clause-refused_once
returns-clause-refused_once c = refused_once
