use Rattle.std.proofs.Common.{List, [], ◌++◌, ap, sym, ◌∙◌}
use Rattle.std.proofs.lemmas.Result.{IfOk-weaker}
use Rattle.flat_grammar.specs.declared.flat.Occ.{Occ}
use Rattle.flat_terms.specs.Scene.{tail_needs}
use Rattle.flat_terms.proofs.LeafLemmas.{other-needs, tail-needs, chain-there}
use Rattle.flat_terms.proofs.needs.push_part.Goals as goal

pub returns-in-None : goal.returns-in-None
returns-in-None c =
    let here = c.args.here.now in
    IfOk-weaker c.push_leaf.result _ _ (λ u h scene is named tailed.
    h scene is named
    ∙ ap (λ (l : List Occ). c.args.found.now.items ++ l) (other-needs scene here.site.now c.args.tails.now (λ chain. []) (tail_needs scene) here.context c.args.part.now (sym c.in-None.ensures))) c.push_leaf.ensures

pub returns-in-Some : goal.returns-in-Some
returns-in-Some c =
    let here = c.args.here.now in
    let tails = c.args.tails.now in
    let some = sym c.in-Some.ensures in
    IfOk-weaker c.push_tail.result _ _ (λ u h scene is named tailed.
    let there = chain-there scene here.site.now tails c.in-Some.chain.0 c.args.part.now some tailed in
    h scene is there.0 there.1
    ∙ ap (λ (l : List Occ). c.args.found.now.items ++ l) (tail-needs scene here.site.now tails (tail_needs scene) here.context c.in-Some.chain.0 c.args.part.now some)) c.push_tail.ensures
