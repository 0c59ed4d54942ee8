use Rattle.std.proofs.Common.{◌<◌, arith, refl, ap, length}
use Rattle.std.proofs.lemmas.List.{length-map}
use Rattle.std.proofs.lemmas.Option.{slice_get_read}
use Rattle.kind_clashes.proofs.NamesLemmas.{more-step, more-end, set-of}
use Rattle.rule_tables.specs.DirectClasses.{inherited_by}
use Rattle.rule_tables.proofs.ClassLemmas.{mapped-at}
use Rattle.rule_tables.proofs.direct_classes.handed_to.Goals as goal

pub add_handed-requires : goal.add_handed-requires
add_handed-requires c =
    let items = c.args.items.now in
    let inherited = c.args.inherited.now in
    let k = c.loop-k.k in
    let inside : k < length inherited = omega (arith, ap length c.requires, length-map items inherited_by, c.loop-k-test.true) in
    mapped-at inherited_by items inherited k c.index-items-k.result c.index-inherited-k.result c.requires
    (slice_get_read _ _ _ _ refl c.loop-k-test.true c.index-items-k.is) (slice_get_read _ _ _ _ refl inside c.index-inherited-k.is)

pub loop-k-preserved : goal.loop-k-preserved
loop-k-preserved c = more-step _ (slice_get_read _ _ _ _ refl c.loop-k-test.true c.index-items-k.is) c.loop-k.invariant c.in_ok-add_handed.ensures

pub returns : goal.returns
returns c = set-of c.new-classes.ensures (more-end (omega arith) c.loop-k.invariant)
