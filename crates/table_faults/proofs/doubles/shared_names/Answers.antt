use Rattle.std.proofs.Common.{arith, refl}
use Rattle.std.proofs.lemmas.Option.{slice_get_read}
use Rattle.kind_clashes.proofs.NamesLemmas.{more-begin, more-step, more-at, set-of}
use Rattle.table_faults.proofs.DoublesLemmas.{shared-begin, shared-step, shared-end, names-at}
use Rattle.table_faults.proofs.doubles.shared_names.Goals as goal

pub loop-item-init : goal.loop-item-init
loop-item-init c = record { seen = more-begin; shared = shared-begin c.args.items.now }

pub loop-item-preserved : goal.loop-item-preserved
loop-item-preserved c = let got = slice_get_read _ _ _ _ refl c.loop-item-test.true c.item-item.is in record {
  seen = more-step _ got c.loop-item.invariant.seen (names-at c.as_slice-in-loop-item.ensures c.in_ok-add_all.ensures);
  shared = shared-step c.args.items.now c.loop-item.item-index c.item-item.result c.loop-item.seen got (set-of c.new-seen.ensures c.loop-item.invariant.seen) c.loop-item.invariant.shared
      (more-at c.as_slice.ensures c.in_ok-add_seen.ensures);
}

pub returns : goal.returns
returns c = set-of c.new-shared.ensures (shared-end c.args.items.now c.loop-item.item-index (omega arith) c.loop-item.invariant.shared)
