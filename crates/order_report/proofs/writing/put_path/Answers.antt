use Rattle.std.proofs.Common.{ℕ, List, ◌∷◌, ap, ◌∙◌}
use Rattle.std.proofs.lemmas.List.{append-nil}
use Rattle.lido_base.specs.declared.ids.StrId.{StrId}
use Rattle.order_report.specs.Lines.{name_of}
use Rattle.order_report.specs.Names.{texts_in}
use Rattle.order_report.proofs.PutsLemmas.{puts_same, stops_within}
use Rattle.order_report.proofs.writing.put_path.Goals as goal

pub returns-in-Err : goal.returns-in-Err
returns-in-Err g c =
    stops_within (λ (id : StrId). 32 ∷ name_of (texts_in c.args.strings) id) c.args.path.now c.loop-id.id-index (record { 0 = 0 }) c.loop-id-test.true
    _ _ _ _ _ _ _ _ _ c.loop-id.invariant (puts_same _ _ _ _ _ _ _ _ (ap (λ (l : List ℕ). 32 ∷ l) (append-nil c.name.result.now ∙ c.name.ensures)) c.in-Err.ensures)
