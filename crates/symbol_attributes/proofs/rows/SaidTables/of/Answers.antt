use Rattle.std.proofs.Common.{List, take_all, sym, subst}
use Rattle.std.proofs.lemmas.List.{take_more}
use Rattle.std.proofs.lemmas.Option.{slice_get-get_or}
use Rattle.symbol_attributes.specs.declared.facts.Said.{Said}
use Rattle.symbol_attributes.specs.Facts.{AreRowsOf}
use Rattle.symbol_attributes.proofs.FactsLemmas.{table-none, table-step, table-all}
use Rattle.symbol_attributes.proofs.RowsOfLemmas.{rows-none}
use Rattle.symbol_attributes.proofs.rows.SaidTables.of.Goals as goal

pub loop-said-init : goal.loop-said-init
loop-said-init c = record {
  facts = table-none c.args.list.now c.new-facts.result c.new-facts.ensures;
  rows = rows-none c.args.list.now c.new-rows.result c.new-rows.ensures;
}

pub loop-said-preserved : goal.loop-said-preserved
loop-said-preserved c = record {
  facts = table-step c.args.list.now c.loop-said.said-index _ c.loop-said.facts c.note.new.self (slice_get-get_or _ _ _ c.loop-said-test.true) c.loop-said.invariant.facts c.in_ok-note.ensures;
  rows = subst (λ (xs : List Said). AreRowsOf xs c.add_new.new.rows) (sym (take_more c.args.list.now c.loop-said.said-index _ c.loop-said-test.true))
      (c.in_ok-add_new.ensures _ c.loop-said.invariant.facts c.loop-said.invariant.rows);
}

pub returns : goal.returns
returns c = record {
  facts = table-all c.args.list.now c.loop-said.said-index c.loop-said.facts c.loop-said-test.false c.loop-said.invariant.facts;
  rows = subst (λ (xs : List Said). AreRowsOf xs c.loop-said.rows) (take_all c.loop-said.said-index c.args.list.now c.loop-said-test.false) c.loop-said.invariant.rows;
}
