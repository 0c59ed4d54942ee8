use Rattle.std.proofs.lemmas.Option.{slice_get-get_or}
use Rattle.symbol_attributes.proofs.FactsLemmas.{on-step, on-all}
use Rattle.symbol_attributes.proofs.written.facts_on.Goals as goal

pub loop-symbol-preserved : goal.loop-symbol-preserved
loop-symbol-preserved c = λ list is. on-step list c.args.table.now c.args.symbols.now c.args.attribute c.loop-symbol.symbol-index _ c.loop-symbol.found c.find.result c.joined-found.result
    (slice_get-get_or _ _ 0 c.loop-symbol-test.true) is c.find.ensures c.joined-found.ensures (c.loop-symbol.invariant list is)

pub returns : goal.returns
returns c = λ list is. on-all list c.args.symbols.now c.args.attribute c.loop-symbol.symbol-index c.loop-symbol.found c.loop-symbol-test.false (c.loop-symbol.invariant list is)
