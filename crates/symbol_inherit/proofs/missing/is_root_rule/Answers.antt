use Rattle.symbol_inherit.proofs.RootTests.{root-test}
use Rattle.symbol_inherit.proofs.missing.is_root_rule.Goals as goal

pub returns : goal.returns
returns c = λ spec are among. root-test spec c.args.sets.now are c.args.rule.now among c.has.result c.has.ensures
