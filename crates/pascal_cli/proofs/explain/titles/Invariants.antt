use Rattle.std.proofs.Common.{◌≡◌, ◌++◌, codes, flat_map, take, string_bytes}
use Rattle.pascal_pages.specs.Pages.{pages}
use Rattle.pascal_cli.proofs.explain.titles.Given as goal

-- the titles so far are there
abbrev pub invariant-loop-k : goal.invariant-loop-k
invariant-loop-k l = string_bytes l.text ≡ flat_map (λ names. names.title ++ codes "\n") (take l.k pages)
