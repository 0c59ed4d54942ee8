use Rattle.std.proofs.Common.{List, arith, subst, length, ◌≤◌}
use Rattle.lido_syntax.specs.declared.spec.RuleItem.{RuleItem}
use Rattle.table_faults.specs.Roots.{AreRootsOf}
use Rattle.table_faults.proofs.RootsLemmas.{roots-are}
use Rattle.table_faults.proofs.roots.root_count.Goals as goal

pub returns-clause-roots : goal.returns-clause-roots
returns-clause-roots c = λ env. (
  c.in_ok-names.names.items,
  roots-are c.args.spec.now env c.args.sets.now c.in_ok-names.names.items c.requires (subst (λ (rules : List RuleItem). AreRootsOf c.args.sets.now rules c.in_ok-names.names.items) c.as_slice.ensures c.in_ok-names.ensures.roots),
  (let h = c.len.ensures in omega (arith, h)),
)

pub returns-clause-few : goal.returns-clause-few
returns-clause-few c =
    let few = subst (λ (rules : List RuleItem). length c.in_ok-names.names.items ≤ length rules) c.as_slice.ensures c.in_ok-names.ensures.few in
    let h = c.len.ensures in
    omega (arith, h, few)
