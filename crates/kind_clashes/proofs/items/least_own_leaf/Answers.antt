use Rattle.std.proofs.Common.{◌∙◌, arith, refl, ap}
use Rattle.std.proofs.lemmas.Option.{slice_get_read}
use Rattle.kind_clashes.proofs.LeastLemmas.{first-step, first-end}
use Rattle.std.proofs.lemmas.Option.{slice_get-map}
use Rattle.std.specs.Prelude.{option_map}
use Rattle.std.proofs.lemmas.List.{length-map}
use Rattle.kind_clashes.proofs.items.least_own_leaf.Goals as goal

pub loop-leaf-preserved : goal.loop-leaf-preserved
loop-leaf-preserved c = first-step c.leaf-item.result.now (slice_get-map (λ e. e.now) c.args.leaves.now c.loop-leaf.leaf-index ∙ ap (λ o. option_map (λ e. e.now) o) (slice_get_read _ _ _ _ refl c.loop-leaf-test.true c.leaf-item.is))
    c.earlier-least.ensures c.loop-leaf.invariant c.own_leaf.ensures

pub returns : goal.returns
returns c = first-end (let count = length-map c.args.leaves.now (λ e. e.now) in omega (arith, count)) c.loop-leaf.invariant
