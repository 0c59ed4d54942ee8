use Rattle.std.proofs.Common.{◌∙◌, ap, ◌∷◌, [], refl, ◌+◌}
use Rattle.std.proofs.lemmas.List.{length-append}
use Rattle.induced_deps.proofs.ClosureLemmas.{no_edges, none_more}
use Rattle.induced_deps.proofs.closure.Closure.new.Goals as goal

pub loop-init : goal.loop-init
loop-init c = rw c.new-rows.ensures.items (record { size = refl; none = no_edges })

pub loop-preserved : goal.loop-preserved
loop-preserved c = rw c.in_ok-push.ensures.items (record { size = length-append c.loop.rows.items (c.new.result ∷ []) ∙ ap (λ n. n + 1) c.loop.invariant.size; none = none_more c.loop.rows.items c.new.result c.loop.invariant.none c.new.ensures })
