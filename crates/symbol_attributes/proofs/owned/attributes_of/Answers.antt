use Rattle.kind_clashes.proofs.NamesLemmas.{set-of, more-same}
use Rattle.symbol_attributes.proofs.OwnedLemmas.{to-has, from-has}
use Rattle.symbol_attributes.proofs.owned.attributes_of.Goals as goal

pub returns : goal.returns
returns c = λ spec are is. set-of c.new-set.ensures (more-same
    (to-has spec c.args.named.now c.args.numbers.now c.args.inheritance.now c.args.symbol.0 are is)
    (from-has spec c.args.named.now c.args.numbers.now c.args.inheritance.now c.args.symbol.0 are is)
    c.in_ok-add_passed.ensures)
