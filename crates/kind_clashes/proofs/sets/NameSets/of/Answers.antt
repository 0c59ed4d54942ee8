use Rattle.kind_clashes.proofs.NamesLemmas.{set-of, more-same, more-at}
use Rattle.kind_clashes.proofs.SetsLemmas.{of-classes, to-classes, of-left_sides, to-left_sides, of-declared, to-declared, of-right_sides, to-right_sides, of-chains, to-chains}
use Rattle.kind_clashes.proofs.sets.NameSets.of.Goals as goal

pub returns : goal.returns
returns c = let spec = c.args.spec.now in record {
  classes = set-of c.new-classes.ensures (more-same (of-classes spec) (to-classes spec) (more-at c.as_slice.ensures c.in_ok-add_classes.ensures));
  nonterminals = set-of c.new-nonterminals.ensures (more-same (of-left_sides spec) (to-left_sides spec) (more-at c.as_slice-2.ensures c.in_ok-add_left_sides.ensures));
  declared = set-of c.new-declared.ensures (more-same (of-declared spec) (to-declared spec) (more-at c.as_slice-3.ensures c.in_ok-add_typed.ensures));
  right_sides = set-of c.new-right_sides.ensures (more-same (of-right_sides spec) (to-right_sides spec) (more-at c.as_slice-4.ensures c.in_ok-add_right_sides.ensures));
  chains = set-of c.new-chains.ensures (more-same (of-chains spec) (to-chains spec) (more-at c.as_slice-5.ensures c.in_ok-add_typed-2.ensures));
}
