use Rattle.symbol_inherit.proofs.FilledLemmas.{chain-more}
use Rattle.symbol_inherit.proofs.entries.push_chain.Goals as goal

pub returns : goal.returns
returns c = λ env t p r s known own occurs at up.
    chain-more env t c.args.symbols.now known r c.args.rule.now p s c.args.x own occurs c.args.place c.args.name at c.args.is_behind c.in_ok-number.number c.in_ok-number.ensures
    c.chain_goal-goal.result c.chain_goal-goal.ensures c.chain_way-way.result c.chain_way-way.ensures c.resolve-held.result c.resolve-held.ensures
    c.args.entries.now.items c.push_held.new.entries.items up c.in_ok-push_held.ensures
