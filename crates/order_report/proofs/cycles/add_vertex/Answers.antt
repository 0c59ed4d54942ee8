use Rattle.std.proofs.Common.{ℕ, List, [], ◌++◌, ap, codes}
use Rattle.order_report.proofs.PutsLemmas.{extends_same, extends_then}
use Rattle.order_report.proofs.cycles.add_vertex.Goals as goal

pub returns : goal.returns
returns g c =
    extends_then _ _ c.add_occurrence-at.ensures
    (extends_same _ _ _ _ _ _ _ _ (ap (λ (l : List ℕ). codes "." ++ (l ++ [])) c.attribute_at-attribute.ensures) c.add_pieces.ensures)
