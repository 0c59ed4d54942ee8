use Rattle.std.proofs.Common.{get_or, refl}
use Rattle.lido_syntax.specs.declared.spec.Name.{Name}
use Rattle.lido_syntax.specs.Production.{name_of}
use Rattle.lido_symbols.proofs.DifferentLemmas.{different-step}
use Rattle.lido_symbols.proofs.different.different_names.Goals as goal

pub loop-name-preserved : goal.loop-name-preserved
loop-name-preserved c =
    let names = c.args.names.now in
    let i = c.loop-name.name-index in
    let none : Name = record { at = 0; id = record { 0 = 0 } } in
    different-step name_of names i (get_or names i none) none _ _ c.loop-name-test.true refl c.loop-name.invariant c.in_ok-add.ensures.added
