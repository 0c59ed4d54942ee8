use Rattle.std.specs.Prelude.{◌≡◌, ◌++◌}
use Rattle.std.proofs.lemmas.Result.{err_from_is_err_and}
use Rattle.lido_base.specs.Reading.{nothing}
use Rattle.lido_reader.specs.Found.{found_in}
use Rattle.lido_reader.specs.Items.{IsChainItem}
use Rattle.lido_computations.proofs.PhrasesLemmas.{leads_self}
use Rattle.lido_reader.proofs.PartsLemmas.{finish, go_on, stuck_at, read_whole}
use Rattle.lido_reader.proofs.items.chain_item.Goals as goal

pub returns-in_err-more-clause-reads : goal.returns-in_err-more-clause-reads
returns-in_err-more-clause-reads c = let p = err_from_is_err_and c.from_residual.result c.from_residual.ensures.1 in rw (p.1, p.2)
    (stuck_at c.args.end (leads_self (IsChainItem (found_in c.args.found)) nothing c.args.tokens.now) (λ x. finish) c.in_err-more.field-0.0 c.in_err-more.ensures.reads)

pub returns-clause-reads : goal.returns-clause-reads
returns-clause-reads c =
    let items : c.append.new.self.items ≡ c.args.found.chains.items ++ c.in_ok-more.more.items = c.in_ok-append.ensures.items in
    rw items (read_whole (go_on (leads_self (IsChainItem (found_in c.args.found)) nothing c.args.tokens.now) c.in_ok-more.ensures.reads))
