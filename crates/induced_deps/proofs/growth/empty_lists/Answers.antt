use Rattle.std.proofs.Common.{◌∙◌, ap, ◌∷◌, ◌++◌, [], ◌+◌, ℕ, subst, List}
use Rattle.std.proofs.lemmas.List.{length-append}
use Rattle.induced_deps.specs.Due.{IsUser}
use Rattle.induced_deps.proofs.DueLemmas.{no_users}
use Rattle.induced_deps.proofs.growth.empty_lists.Goals as goal

pub loop-preserved : goal.loop-preserved
loop-preserved c = rw c.in_ok-push.ensures.items (record {
  size = length-append c.loop.lists.items (c.new.result ∷ []) ∙ ap (λ n. n + 1) c.loop.invariant.size;
  none = λ x k h. no_users c.loop.lists.items c.loop.invariant.none x k (subst (λ (l : List ℕ). IsUser (c.loop.lists.items ++ l ∷ []) x k) c.new.ensures h);
})
