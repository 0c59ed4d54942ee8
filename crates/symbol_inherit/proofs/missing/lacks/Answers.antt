use Rattle.symbol_inherit.proofs.MissingLemmas.{lacking-test}
use Rattle.symbol_inherit.proofs.missing.lacks.Goals as goal

pub returns : goal.returns
returns c = λ env t r i s known own place.
    lacking-test env t c.args.symbols.now known r i c.args.occ s c.args.x place c.args.rule.now own c.args.name c.attribute_aim-aim.result c.attribute_aim-aim.ensures
    c.resolve-held.result c.resolve-held.ensures c.is_none.result c.is_none.ensures
