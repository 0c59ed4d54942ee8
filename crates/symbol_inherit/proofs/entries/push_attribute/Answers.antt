use Rattle.symbol_inherit.proofs.FilledLemmas.{attribute-more}
use Rattle.symbol_inherit.proofs.entries.push_attribute.Goals as goal

pub returns : goal.returns
returns c = λ env t p r s known own occurs at up.
    attribute-more env t c.args.symbols.now known r c.args.rule.now p c.args.occ s c.args.x own occurs c.args.id c.args.name at c.in_ok-number.number c.in_ok-number.ensures
    c.attribute_aim-aim.result c.attribute_aim-aim.ensures c.resolve-held.result c.resolve-held.ensures c.args.entries.now.items c.push_held.new.entries.items up c.in_ok-push_held.ensures
