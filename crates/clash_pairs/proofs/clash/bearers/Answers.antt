use Rattle.kind_clashes.proofs.NamesLemmas.{set-of, more-or}
use Rattle.clash_pairs.proofs.BearersLemmas.{are-bearers}
use Rattle.clash_pairs.proofs.clash.bearers.Goals as goal

pub returns : goal.returns
returns c = λ spec are known is. are-bearers c.args.named.now c.args.numbers.now c.args.inheritance.now c.add_owners.new.owners c.add_heirs.new.set
    (set-of c.new-owners.ensures c.in_ok-add_owners.ensures) (set-of c.new-all.ensures (more-or c.in_ok-add_owners-2.ensures c.in_ok-add_heirs.ensures)) spec are known is
