use Rattle.std.proofs.Common.{sym, ◌∙◌}
use Rattle.rule_tables.specs.Copies.{nothing}
use Rattle.flat_terms.specs.Names.{holder_as}
use Rattle.flat_terms.specs.Scene.{get}
use Rattle.flat_terms.proofs.LeafLemmas.{occurrence-fits, read-named}
use Rattle.flat_terms.proofs.leaves.read.Goals as goal

pub returns-in-Some : goal.returns-in-Some
returns-in-Some c = λ scene is.
    let here = c.args.here.now in
    let x = c.in-Named.x in
    let index = c.in-Named.index in
    let k = c.in-Some.k in
    let there = sym c.in-Some.ensures in
    let fits = c.narrow.ensures (occurrence-fits scene here.site.now is x index k there) in
    let seen = c.seen.ensures scene is in
    c.get.ensures scene is ∙ (λ i. get scene (fits i) (seen i))
    ∙ read-named scene here.site.now is x index (λ chain. nothing) (holder_as here.holder) here.context k c.args.name.0 c.args.place.now c.in-Named.is there
