use Rattle.std.proofs.Common.{◌∙◌, ap}
use Rattle.kind_clashes.proofs.LeastLemmas.{first-at, first-join}
use Rattle.lido_syntax.specs.declared.spec.Cons.{Cons}
use Rattle.kind_clashes.proofs.comps.leaf_clash.Goals as goal

pub returns-in-Read : goal.returns-in-Read
returns-in-Read c = rw c.in-Read.is c.use_clash.ensures

pub returns-in-Including : goal.returns-in-Including
returns-in-Including c = rw c.in-Including.is (first-at c.as_slice.ensures c.least_pair_clash.ensures)

pub returns-in-Constituents : goal.returns-in-Constituents
returns-in-Constituents c = rw c.in-Constituents.is (first-join c.earlier.ensures
    (first-at (c.as_slice-in-Constituents.ensures ∙ ap (λ (k : Cons). k.pairs) c.get-list.ensures) c.least_pair_clash-in-Constituents.ensures)
    (first-at (c.as_slice-in-Constituents-2.ensures ∙ ap (λ (k : Cons). k.shield) c.get-list.ensures) c.least_terminal_name.ensures))
