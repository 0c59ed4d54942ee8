use Rattle.std.proofs.Common.{sym, ◌∙◌}
use Rattle.std.proofs.lemmas.Result.{IfOk-weaker}
use Rattle.rule_tables.specs.Copies.{nothing}
use Rattle.flat_terms.specs.Names.{holder_as}
use Rattle.flat_terms.specs.Scene.{tail_of}
use Rattle.flat_terms.proofs.LeafLemmas.{other-copy, tail-copy, chain-there}
use Rattle.flat_terms.proofs.leaves.TailedLeaves.leaf.Goals as goal

pub returns-in-None : goal.returns-in-None
returns-in-None c =
    let here = c.args.self.now.here in
    IfOk-weaker c.leaf.result _ _ (λ made h scene is named tailed number.
    h scene is named number
    ∙ other-copy scene here.site.now c.args.self.now.tails.now (λ chain. nothing) (tail_of scene) (holder_as here.holder) here.context number c.args.part.now (sym c.in-None.ensures) named) c.leaf.ensures

pub returns-in-Some : goal.returns-in-Some
returns-in-Some c =
    let here = c.args.self.now.here in
    let tails = c.args.self.now.tails.now in
    let some = sym c.in-Some.ensures in
    IfOk-weaker c.tail.result _ _ (λ made h scene is named tailed number.
    let there = chain-there scene here.site.now tails c.in-Some.chain.0 c.args.part.now some tailed in
    h scene is there.0 there.1 ∙ tail-copy scene here.site.now tails (tail_of scene) (holder_as here.holder) here.context number c.in-Some.chain.0 c.args.part.now some) c.tail.ensures
