use Rattle.std.proofs.Common.{◌≡◌, List, map, take, string_bytes}
use Rattle.pascal_pages.specs.Asked.{names_of}
use Rattle.pascal_pages.specs.Pages.{pages}
use Rattle.pascal_pages.specs.declared.Page.{Page}
use Rattle.pascal_cli.specs.Explain.{asked_pages, shown}
use Rattle.pascal_cli.proofs.explain.pages_on.Given as goal

-- the pages so far were gone through
abbrev pub invariant-loop-at : goal.invariant-loop-at
invariant-loop-at l =
    (all : List Page) × (map names_of all ≡ take l.at pages) × (string_bytes l.text ≡ shown (asked_pages l.topic all))
