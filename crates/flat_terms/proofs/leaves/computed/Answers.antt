use Rattle.std.proofs.lemmas.Result.{IfOk-weaker}
use Rattle.flat_terms.proofs.LeafLemmas.{value-in}
use Rattle.flat_terms.proofs.leaves.computed.Goals as goal

pub returns : goal.returns
returns c =
    let comp = c.args.comp.now in
    IfOk-weaker c.copied.result _ _ (λ made h scene is named.
    h scene is named.start.number (named.start.known comp.value (value-in comp))
    (λ leaf m. (named.start.leaves comp.value leaf (value-in comp) m, named.each_tail comp.value leaf (value-in comp) m))) c.copied.ensures
