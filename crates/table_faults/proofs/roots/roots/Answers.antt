use Rattle.std.proofs.Common.{arith, refl}
use Rattle.std.proofs.lemmas.Option.{slice_get_read}
use Rattle.table_faults.proofs.RootsLemmas.{roots-step, roots-end}
use Rattle.table_faults.proofs.roots.roots.Goals as goal

pub loop-rule-preserved : goal.loop-rule-preserved
loop-rule-preserved c = record {
  set = c.in_ok-note_root.ensures.set;
  roots = roots-step c.args.sets.now c.args.rules.now c.loop-rule.rule-index c.rule-item.result c.loop-rule.names.items c.note_root.new.names.items
      (slice_get_read _ _ _ _ refl c.loop-rule-test.true c.rule-item.is) c.loop-rule.invariant.roots c.in_ok-note_root.ensures.more;
  few = let old = c.loop-rule.invariant.few in let new = c.in_ok-note_root.ensures.few in omega (arith, old, new);
}

pub returns-clause-roots : goal.returns-clause-roots
returns-clause-roots c = roots-end c.args.sets.now c.args.rules.now c.loop-rule.rule-index c.loop-rule.names.items (omega arith) c.loop-rule.invariant.roots
