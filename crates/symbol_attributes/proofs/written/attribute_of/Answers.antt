use Rattle.std.proofs.Common.{◌≡◌, false, ap, sym, ◌∙◌}
use Rattle.kind_clashes.specs.Names.{has}
use Rattle.symbol_attributes.specs.Written.{written_attribute}
use Rattle.symbol_attributes.proofs.AttributeLemmas.{attribute-some, attribute-none, attribute-absent}
use Rattle.symbol_attributes.proofs.written.attribute_of.Goals as goal

pub returns-in-Some : goal.returns-in-Some
returns-in-Some c = λ spec s facts are on. attribute-some spec s c.args.attribute c.args.tables.now c.args.by_attr.now c.args.owners.now facts are c.in-Some.facts c.written.result
    c.in-Some.ensures (c.written.ensures ∙ ap (written_attribute c.args.attribute c.in-Some.facts) c.facts_by_attr.ensures)

pub returns-in-None : goal.returns-in-None
returns-in-None c = λ spec s facts are on. attribute-none spec s c.args.attribute c.args.tables.now c.args.by_attr.now c.args.owners.now facts are c.in-None.ensures

pub returns-then-not-has : goal.returns-then-not-has
returns-then-not-has c = λ spec s facts are on.
    let none : has c.args.known.now c.args.attribute ≡ false = sym c.has.ensures ∙ c.if-not-has.true in
    attribute-absent spec s c.args.attribute c.args.tables.now c.args.by_attr.now c.args.owners.now facts are c.args.known.now on none
