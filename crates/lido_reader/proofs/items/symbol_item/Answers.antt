use Rattle.std.specs.Prelude.{◌≡◌, ◌∷◌, [], ◌++◌}
use Rattle.std.proofs.lemmas.Result.{err_from_is_err_and}
use Rattle.lido_base.specs.Reading.{nothing}
use Rattle.lido_computations.specs.Messages.{IsComputationIn}
use Rattle.lido_reader.specs.Found.{found_in}
use Rattle.lido_reader.specs.Items.{IsSymbolItem, called_in}
use Rattle.lido_computations.proofs.PhrasesLemmas.{leads_self}
use Rattle.lido_reader.proofs.PartsLemmas.{finish, go_on, stuck_at, read_whole}
use Rattle.lido_reader.proofs.items.symbol_item.Goals as goal

pub returns-in_err-item-clause-reads : goal.returns-in_err-item-clause-reads
returns-in_err-item-clause-reads c = λ texts later. let p = err_from_is_err_and c.from_residual.result c.from_residual.ensures.1 in rw (p.1, p.2)
    (stuck_at c.args.end (leads_self (IsSymbolItem (called_in texts) (IsComputationIn c.args.words texts) (found_in c.args.found)) nothing c.args.tokens.now) (λ x. finish) c.in_err-item.field-0.0 (c.in_err-item.ensures.reads texts later))

pub returns-clause-reads : goal.returns-clause-reads
returns-clause-reads c = λ texts later.
    let items : c.push.new.self.items ≡ c.args.found.symbols.items ++ c.in_ok-item.item ∷ [] = c.in_ok-push.ensures.items in
    rw items (read_whole (go_on (leads_self (IsSymbolItem (called_in texts) (IsComputationIn c.args.words texts) (found_in c.args.found)) nothing c.args.tokens.now) (c.in_ok-item.ensures.reads texts later)))
