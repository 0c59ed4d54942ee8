use Rattle.std.proofs.Common.{sym, ap, ◌∙◌}
use Rattle.flat_grammar.specs.declared.flat.FlatExpr.TheVariants as flat
use Rattle.flat_terms.specs.Names.{holder_as}
use Rattle.flat_terms.proofs.LeafLemmas.{occurrence-fits, bare-terminal}
use Rattle.flat_terms.proofs.leaves.bare.Goals as goal

pub returns-in-Some-occurrence : goal.returns-in-Some-occurrence
returns-in-Some-occurrence c = λ scene is tail.
    let here = c.args.here.now in
    let k = c.in-Some-occurrence.k in
    let there = sym c.in-Some-occurrence.ensures in
    ap (λ n. flat.Terminal n) (c.narrow.ensures (occurrence-fits scene here.site.now is c.args.name c.args.index k there))
    ∙ bare-terminal scene here.site.now is c.args.name c.args.index tail (holder_as here.holder) here.context k (sym (c.coordinate.ensures scene.env is.texts) ∙ c.in_default.is) there
