use Rattle.std.proofs.Common.{subst, sym, take, map, nat_eq, get_or, ◌+◌}
use Rattle.std.proofs.lemmas.List.{get_or_default}
use Rattle.lido_syntax.specs.declared.spec.Name.{Name as Named}
use Rattle.lido_symbols.specs.Numbers.{AreNumbered}
use Rattle.lido_symbols.specs.Uses.{with_place}
use Rattle.lido_symbols.proofs.NumbersLemmas.{numbered_more}
use Rattle.lido_symbols.proofs.numbers.in_order.Goals as goal

pub loop-name-preserved : goal.loop-name-preserved
loop-name-preserved c =
    let uses = c.args.uses.now in
    let i = c.loop-name.name-index in
    let nowhere : Named = record { at = 0; id = record { 0 = 0 } } in
    let x : Named = get_or uses i nowhere in
    subst (AreNumbered nat_eq (map with_place (take (i + 1) uses))) (sym c.in_ok-add.ensures.added)
    (numbered_more uses i x c.loop-name.names c.requires.told c.requires.sorted c.loop-name-test.true (get_or_default uses i nowhere x c.loop-name-test.true) c.loop-name.invariant)
