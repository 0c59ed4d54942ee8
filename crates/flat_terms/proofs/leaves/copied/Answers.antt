use Rattle.std.proofs.Common.{ap, ◌∙◌}
use Rattle.std.proofs.lemmas.Result.{IfOk-weaker}
use Rattle.flat_terms.specs.Names.{holder_as}
use Rattle.flat_terms.specs.Scene.{copy_of, bare, read, including, constituents, tail_of}
use Rattle.flat_terms.proofs.leaves.copied.Goals as goal

pub returns : goal.returns
returns c =
    let holder = holder_as c.args.here.now.holder in
    let context = c.args.here.now.context in
    IfOk-weaker c.copy.result _ _ (λ made h scene is fits known named.
    h scene.env (bare scene (tail_of scene) holder context) (read scene (tail_of scene) holder context) (including scene (tail_of scene) holder context) (constituents scene (tail_of scene) holder context)
    is.texts known (λ leaf x m gives. gives scene is (named leaf m).0 (named leaf m).1 c.narrow.result)
    ∙ ap (λ n. copy_of scene (tail_of scene) holder context n c.args.value.now) (c.narrow.ensures fits)) c.copy.ensures
