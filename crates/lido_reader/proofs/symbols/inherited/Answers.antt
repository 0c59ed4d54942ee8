use Rattle.std.specs.Prelude.{◌≡◌, []}
use Rattle.std.proofs.lemmas.Result.{err_from_is_err_and}
use Rattle.lido_reader.proofs.SymbolsLemmas.{inherited_finds, inherited_refuses, inherited_none}
use Rattle.lido_reader.proofs.symbols.inherited.Goals as goal

pub returns-in_default-clause-reads : goal.returns-in_default-clause-reads
returns-in_default-clause-reads c = let items : c.new.result.items ≡ [] = c.new.ensures.items in rw items (inherited_none c.args.tokens.now c.in_default.ensures.seen)

pub returns-in_err-all-clause-reads : goal.returns-in_err-all-clause-reads
returns-in_err-all-clause-reads c = let p = err_from_is_err_and c.from_residual.result c.from_residual.ensures.1 in rw (p.1, p.2)
    (inherited_refuses c.args.end c.args.tokens.now c.in-Some.behind_word.now c.in-Some.field-0-0 c.in-Some.ensures.seen c.in_err-all.field-0.0 c.in_err-all.ensures.reads)

pub returns-clause-reads : goal.returns-clause-reads
returns-clause-reads c = inherited_finds c.args.tokens.now c.in-Some.behind_word.now c.in_ok-all.rest.now c.in-Some.field-0-0 c.in_ok-all.all.items c.in-Some.ensures.seen c.in_ok-all.ensures.reads
