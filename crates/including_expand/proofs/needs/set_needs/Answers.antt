use Rattle.std.specs.Prelude.{IsTrue, ◌↔◌}
use Rattle.std.proofs.Common.{ℕ, Bool, List, sym, subst}
use Rattle.lido_base.specs.Reach.{Reaches}
use Rattle.least_paths.specs.Graph.{is_in}
use Rattle.remote_lists.specs.Reach.{down_edge}
use Rattle.including_expand.specs.Needed.{IsNeedOf}
use Rattle.including_expand.proofs.needs.set_needs.Goals as goal

pub returns : goal.returns
returns c =
    let graph = c.args.graph.now in
    let set = c.args.set.now in
    let row = c.in_ok-needs.needs.items in
    let exact : (x : ℕ) → IsTrue (is_in row x) ↔ Reaches (is_in set.users) (down_edge graph set.listed) x =
    subst (λ (l : List Bool). (x : ℕ) → IsTrue (is_in row x) ↔ Reaches (is_in l) (down_edge graph set.listed) x) c.as_slice.ensures
    (subst (λ (l : List Bool). (x : ℕ) → IsTrue (is_in row x) ↔ Reaches (is_in c.as_slice.result.now) (down_edge graph l) x) c.as_slice-2.ensures c.in_ok-needs.ensures.exactly) in
    subst (IsNeedOf graph set) (sym c.from_vec.ensures) (record { count = c.in_ok-needs.ensures.count; exactly = exact })
