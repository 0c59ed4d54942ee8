use Rattle.std.proofs.Common.{◌≡◌, List, length, arith, ap, ◌∙◌}
use Rattle.lido_base.specs.declared.value.Value.{Value}
use Rattle.trials_of_boundaries.proofs.RowsLemmas.{contents_length}
use Rattle.trials_of_boundaries.proofs.rows.look.Goals as goal

pub get-found-requires-clause-key : goal.get-found-requires-clause-key
get-found-requires-clause-key c =
    let size : length c.args.worker.now.desk.view.contents ≡ c.args.rows.count = ap (λ (l : List Value). length l) c.requires.ready.desk.contents ∙ contents_length c.args.rows.count in
    omega arith
