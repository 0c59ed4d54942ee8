use Rattle.std.proofs.Common.{List, ℕ, [], ◌++◌, ap, codes, ◌∙◌}
use Rattle.std.specs.Fmt.{decimal}
use Rattle.order_report.proofs.PutsLemmas.{extends_same, extends_then}
use Rattle.order_report.proofs.report.add_item.Goals as goal

pub returns-in-Eval : goal.returns-in-Eval
returns-in-Eval g c = rw c.in-Eval.is (extends_then _ _ c.add-word.ensures c.add_vertex.ensures)

pub returns-in-Visit : goal.returns-in-Visit
returns-in-Visit g c = rw c.in-Visit.is c.add_child_visit.ensures

pub returns-in-Leave : goal.returns-in-Leave
returns-in-Leave g c =
    rw c.in-Leave.is (extends_same _ _ _ _ _ _ _ _ (ap (λ (l : List ℕ). codes "leave " ++ (l ++ [])) (c.as_bytes.ensures ∙ c.of-visit.ensures ∙ ap decimal c.from.ensures)) c.add_pieces.ensures)
