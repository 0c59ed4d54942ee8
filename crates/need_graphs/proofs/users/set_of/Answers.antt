use Rattle.std.proofs.Common.{◌∙◌, take_all, List, ℕ, subst, get_or, arith}
use Rattle.std.specs.Prelude.{Contains, IsTrue, true, ◌↔◌}
use Rattle.std.proofs.lemmas.Option.{slice_get-get_or}
use Rattle.std.proofs.lemmas.List.{length-set}
use Rattle.lido_base.proofs.Lists.{place-contains}
use Rattle.least_paths.specs.Graph.{is_in}
use Rattle.least_paths.proofs.CycleLemmas.{set-next}
use Rattle.need_graphs.proofs.users.set_of.Goals as goal

pub index_mut-requires : goal.index_mut-requires
index_mut-requires c = omega (arith, c.requires (get_or c.args.numbers.now c.loop-x.x-index 0) (place-contains c.args.numbers.now c.loop-x.x-index _ (slice_get-get_or c.args.numbers.now c.loop-x.x-index 0 c.loop-x-test.true)), c.loop-x.invariant.length_kept, c.loop-x.set.ok.0)

pub loop-x-preserved : goal.loop-x-preserved
loop-x-preserved c =
    let x = get_or c.args.numbers.now c.loop-x.x-index 0 in
    let at = slice_get-get_or c.args.numbers.now c.loop-x.x-index 0 c.loop-x-test.true in
    record {
      length_kept = length-set c.loop-x.set.items x true ∙ c.loop-x.invariant.length_kept;
      exactly = set-next c.loop-x.set.items c.args.numbers.now c.loop-x.x-index x at (omega (arith, c.requires x (place-contains c.args.numbers.now c.loop-x.x-index _ at), c.loop-x.invariant.length_kept)) c.loop-x.invariant.exactly;
    }

pub returns-clause-exactly : goal.returns-clause-exactly
returns-clause-exactly c = subst (λ (numbers : List ℕ). (x : ℕ) → IsTrue (is_in c.loop-x.set.items x) ↔ Contains numbers x) (take_all c.loop-x.x-index c.args.numbers.now c.loop-x-test.false) c.loop-x.invariant.exactly
