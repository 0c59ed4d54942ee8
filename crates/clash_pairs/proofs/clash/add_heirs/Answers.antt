use Rattle.std.specs.Prelude.{IsTrue}
use Rattle.std.proofs.Common.{◌≡◌, ◌∙◌, ap, arith, get_or, subst}
use Rattle.std.proofs.lemmas.Option.{slice_get-get_or}
use Rattle.kind_clashes.specs.Names.{HasMore}
use Rattle.kind_clashes.proofs.NamesLemmas.{more-step, more-end, more-at}
use Rattle.clash_pairs.specs.Bearers.{has_owning_class}
use Rattle.clash_pairs.proofs.clash.add_heirs.Goals as goal

pub loop-symbol-preserved : goal.loop-symbol-preserved
loop-symbol-preserved c =
    let items = c.as_slice-symbol-items.result.now in
    let x = get_or items c.loop-symbol.symbol-index 0 in
    more-step x (slice_get-get_or items c.loop-symbol.symbol-index 0 c.loop-symbol-test.true) c.loop-symbol.invariant
    (subst (λ b. HasMore (λ s. IsTrue b × (x ≡ s)) c.loop-symbol.set c.add_if.new.set) (c.has_owning-added.ensures ∙ ap (has_owning_class c.args.owners.now c.args.numbers.now c.args.inheritance.now) c.number.ensures.number) c.in_ok-add_if.ensures)

pub returns : goal.returns
returns c = more-at c.as_slice-symbol-items.ensures (more-end (omega arith) c.loop-symbol.invariant)
