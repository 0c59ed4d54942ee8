use Rattle.std.proofs.Common.{ℕ, List, [], ◌∷◌, ap}
use Rattle.std.specs.List.{concat}
use Rattle.std.specs.Prelude.{codes}
use Rattle.order_report.specs.Lines.{line, path_of}
use Rattle.order_report.specs.Names.{texts_in}
use Rattle.order_report.proofs.PutsLemmas.{puts_same}
use Rattle.order_report.proofs.lines.no_start.Goals as goal

pub returns : goal.returns
returns g c =
    puts_same _ _ _ _ _ _ _ _ (ap (λ (l : List ℕ). line (concat (codes "spec ChainNoStart " ∷ l ∷ codes ":" ∷ [])) (path_of (texts_in c.args.strings) c.args.path.now)) c.name-chain.ensures)
    c.write_line.ensures
