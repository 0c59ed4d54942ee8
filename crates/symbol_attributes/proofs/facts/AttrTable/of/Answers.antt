use Rattle.std.proofs.lemmas.Option.{slice_get-get_or}
use Rattle.symbol_attributes.proofs.FactsLemmas.{attrs-none, attrs-step, attrs-all}
use Rattle.symbol_attributes.proofs.facts.AttrTable.of.Goals as goal

pub loop-decl-init : goal.loop-decl-init
loop-decl-init c = attrs-none c.args.decls.now c.new-table.result c.new-table.ensures

pub loop-decl-preserved : goal.loop-decl-preserved
loop-decl-preserved c = attrs-step c.args.decls.now c.loop-decl.decl-index _ c.loop-decl.table c.note.new.self (slice_get-get_or _ _ _ c.loop-decl-test.true) c.loop-decl.invariant c.in_ok-note.ensures

pub returns : goal.returns
returns c = attrs-all c.args.decls.now c.loop-decl.decl-index c.loop-decl.table c.loop-decl-test.false c.loop-decl.invariant
