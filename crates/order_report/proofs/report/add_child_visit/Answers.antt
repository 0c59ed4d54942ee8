use Rattle.std.proofs.Common.{List, ℕ, [], ◌++◌, ap, codes, ◌∙◌}
use Rattle.std.specs.Fmt.{decimal}
use Rattle.order_report.proofs.PutsLemmas.{extends_same, extends_then}
use Rattle.order_report.proofs.report.add_child_visit.Goals as goal

pub returns : goal.returns
returns g c =
    extends_then _ _ c.add-word.ensures (extends_then _ _ c.add_occurrence-child.ensures
    (extends_same _ _ _ _ _ _ _ _ (ap (λ (l : List ℕ). codes " " ++ (l ++ [])) (c.as_bytes.ensures ∙ c.of-visit.ensures ∙ ap decimal c.from.ensures)) c.add_pieces.ensures))
