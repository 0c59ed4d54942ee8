use Rattle.std.proofs.Common.{ap, ◌∙◌}
use Rattle.std.proofs.lemmas.Result.{IfOk-weaker}
use Rattle.rule_tables.specs.Copies.{nothing}
use Rattle.flat_terms.specs.Names.{holder_as}
use Rattle.flat_terms.specs.Scene.{copy_of, bare, read, including, constituents}
use Rattle.flat_terms.proofs.LeafLemmas.{value-in}
use Rattle.flat_terms.proofs.leaves.entered.Goals as goal

pub returns : goal.returns
returns c =
    let holder = holder_as c.args.held.holder in
    let comp = c.args.held.comp.now in
    IfOk-weaker c.copy.result _ _ (λ made h scene is start.
    h scene.env (bare scene (λ chain. nothing) holder 0) (read scene (λ chain. nothing) holder 0) (including scene (λ chain. nothing) holder 0) (constituents scene (λ chain. nothing) holder 0)
    is.texts (start.known comp.value (value-in comp)) (λ leaf x m gives. gives scene is (start.leaves comp.value leaf (value-in comp) m) c.narrow-comp.result)
    ∙ ap (λ n. copy_of scene (λ chain. nothing) holder 0 n comp.value) (c.narrow-comp.ensures start.number)) c.copy.ensures
