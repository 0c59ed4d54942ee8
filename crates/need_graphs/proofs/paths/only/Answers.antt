use Rattle.std.specs.Prelude.{true, slice_set}
use Rattle.std.proofs.Common.{[], ◌∷◌, refl, arith}
use Rattle.least_paths.proofs.CycleLemmas.{set-next, sources-are}
use Rattle.lido_base.proofs.Lists.{contains-nil}
use Rattle.need_graphs.proofs.paths.only.Goals as goal

pub returns-clause-exactly : goal.returns-clause-exactly
returns-clause-exactly c y =
    let set = c.in_ok-set.set.items in
    let x = c.args.x in
    sources-are (slice_set set x true) x (set-next set (x ∷ []) 0 x refl (omega (arith, c.requires, c.in_ok-set.ensures.count))
    (λ z. ((λ h. absurd (c.in_ok-set.ensures.empty z h)), (λ m. absurd (contains-nil z m))))) y
