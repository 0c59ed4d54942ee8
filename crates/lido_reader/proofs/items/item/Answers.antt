use Rattle.lido_computations.specs.Messages.{IsComputationIn}
use Rattle.lido_reader.specs.Found.{found_in}
use Rattle.lido_reader.specs.Items.{called_in}
use Rattle.lido_reader.proofs.PartsLemmas.{reads_by}
use Rattle.lido_reader.proofs.ItemsLemmas.{rule_leads, attr_leads, term_leads, chain_leads, symbol_leads}
use Rattle.std.specs.Prelude.{refl}
use Rattle.lido_computations.proofs.FunctionsLemmas.{keeps_none}
use Rattle.lido_reader.proofs.AddedLemmas.{first_none, on_ok, some_of_same, some_of_all, adds_nothing}
use Rattle.lido_reader.proofs.items.item.Goals as goal

pub returns-then-has_key-clause-reads : goal.returns-then-has_key-clause-reads
returns-then-has_key-clause-reads c = λ texts later. let (t, us, there) = c.has_key.ensures.there c.if-has_key.true in
    reads_by found_in c.args.end (rule_leads (called_in texts) (IsComputationIn c.args.words texts) (found_in c.args.found) c.args.tokens.now us t there) c.rule_item.result (c.rule_item.ensures.reads texts later)

pub returns-then-has_key-2-clause-reads : goal.returns-then-has_key-2-clause-reads
returns-then-has_key-2-clause-reads c = λ texts later. let (t, us, there) = c.has_key-2.ensures.there c.if-has_key-2.true in
    reads_by found_in c.args.end (attr_leads (called_in texts) (IsComputationIn c.args.words texts) (found_in c.args.found) c.args.tokens.now us t there) c.attr_item.result (c.attr_item.ensures.reads)

pub returns-then-has_key-3-clause-reads : goal.returns-then-has_key-3-clause-reads
returns-then-has_key-3-clause-reads c = λ texts later. let (t, us, there) = c.has_key-3.ensures.there c.if-has_key-3.true in
    reads_by found_in c.args.end (term_leads (called_in texts) (IsComputationIn c.args.words texts) (found_in c.args.found) c.args.tokens.now us t there) c.term_item.result (c.term_item.ensures.reads)

pub returns-then-has_key-4-clause-reads : goal.returns-then-has_key-4-clause-reads
returns-then-has_key-4-clause-reads c = λ texts later. let (t, us, there) = c.has_key-4.ensures.there c.if-has_key-4.true in
    reads_by found_in c.args.end (chain_leads (called_in texts) (IsComputationIn c.args.words texts) (found_in c.args.found) c.args.tokens.now us t there) c.chain_item.result (c.chain_item.ensures.reads)

pub returns-clause-reads : goal.returns-clause-reads
returns-clause-reads c = λ texts later. reads_by found_in c.args.end
    (symbol_leads (called_in texts) (IsComputationIn c.args.words texts) (found_in c.args.found) c.args.tokens.now (c.has_key.ensures.missing c.if-has_key.false) (c.has_key-2.ensures.missing c.if-has_key-2.false) (c.has_key-3.ensures.missing c.if-has_key-3.false) (c.has_key-4.ensures.missing c.if-has_key-4.false))
    c.symbol_item.result (c.symbol_item.ensures.reads texts later)

pub returns-then-has_key-2-clause-table : goal.returns-then-has_key-2-clause-table
returns-then-has_key-2-clause-table c = on_ok c.attr_item.result (adds_nothing (first_none _ _ (c.has_key.ensures.missing c.if-has_key.false)) (keeps_none _))

pub returns-then-has_key-2-clause-within : goal.returns-then-has_key-2-clause-within
returns-then-has_key-2-clause-within c = some_of_same refl

pub returns-then-has_key-3-clause-table : goal.returns-then-has_key-3-clause-table
returns-then-has_key-3-clause-table c = on_ok c.term_item.result (adds_nothing (first_none _ _ (c.has_key.ensures.missing c.if-has_key.false)) (keeps_none _))

pub returns-then-has_key-3-clause-within : goal.returns-then-has_key-3-clause-within
returns-then-has_key-3-clause-within c = some_of_same refl

pub returns-then-has_key-4-clause-table : goal.returns-then-has_key-4-clause-table
returns-then-has_key-4-clause-table c = on_ok c.chain_item.result (adds_nothing (first_none _ _ (c.has_key.ensures.missing c.if-has_key.false)) (keeps_none _))

pub returns-then-has_key-4-clause-within : goal.returns-then-has_key-4-clause-within
returns-then-has_key-4-clause-within c = some_of_same refl

pub returns-clause-table : goal.returns-clause-table
returns-clause-table c = on_ok c.symbol_item.result (adds_nothing (first_none _ _ (c.has_key.ensures.missing c.if-has_key.false)) c.symbol_item.ensures.same)

pub returns-clause-within : goal.returns-clause-within
returns-clause-within c = some_of_all (adds_nothing (first_none _ _ (c.has_key.ensures.missing c.if-has_key.false)) c.symbol_item.ensures.same)
