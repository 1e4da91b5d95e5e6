-- Domain types, one after the other.
use Rattle.std.proofs.Common.{◌≡◌, ℕ, ◌∷◌, ◌++◌, [], sym, ap}
use Rattle.ps_text.specs.declared.Span.{Span}
use Rattle.ps_tree.specs.Types.{DataType}
use Rattle.ps_check_judgement.specs.Judged.{Yes, ◌>>=◌}
use Rattle.ps_check_judgement.proofs.Binds.{inside_yes, then_yes}
use Rattle.ps_check_names.specs.Spelling.{spelled}
use Rattle.ps_check_names.specs.Constants.{denoted}
use Rattle.ps_check_names.specs.Regions.{Point}
use Rattle.ps_check_declarations.specs.Points.{is_later}
use Rattle.ps_check_declarations.specs.Denoters.{Frame, Declared, regions}
use Rattle.ps_check_declarations.specs.Declarations.{domain_at, resolve_domain}

abbrev one_more : Declared → DataType → Declared
one_more d type = record {
  known = d.known;
  domains = d.domains ++ type ∷ [];
  pending = d.pending;
  variables = d.variables;
}

-- what is pending stays as it is, until all are there
pub still_pending : (f : Frame) (d e : Declared) (waits : Span × ℕ) → resolve_domain f d waits ≡ Yes e → e.pending
    ≡ d.pending
unfolding resolve_domain
still_pending f d e waits h =
    let point = then_yes (denoted f.text (regions f [] d.known) waits.0)
    (λ (p : Point). domain_at (is_later f.names waits.1 (spelled f.text waits.0)) waits.0.from p
    >>= (λ type. Yes (one_more d type))) e h in
    let type = then_yes (domain_at (is_later f.names waits.1 (spelled f.text waits.0)) waits.0.from point.0)
    (λ type. Yes (one_more d type)) e point.2 in
    ap (λ (d : Declared). d.pending) (sym (inside_yes (one_more d type.0) e type.2))
