use Rattle.std.proofs.Common.{ℕ, List, [], ◌++◌, ap, codes}
use Rattle.order_report.proofs.PutsLemmas.{extends_same, extends_then}
use Rattle.order_report.proofs.cycles.add_step.Goals as goal

pub returns : goal.returns
returns g c =
    extends_then _ _ c.add-space.ensures (extends_then _ _ c.add_vertex-from.ensures
    (extends_same _ _ _ _ _ _ _ _ (ap (λ (l : List ℕ). codes " " ++ (l ++ [])) c.label.ensures) c.add_pieces.ensures))
