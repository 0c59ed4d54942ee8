use Rattle.std.specs.Prelude.{◌≡◌}
use Rattle.std.proofs.lemmas.Result.{err_from_is_err_and}
use Rattle.lido_reader.specs.Found.{found_in}
use Rattle.lido_reader.proofs.WholeLemmas.{items_refused, items_stopped, items_whole}
use Rattle.lido_reader.proofs.AddedLemmas.{itself, later_at, owes_nothing}
use Rattle.lido_reader.proofs.specification.read_spec.Goals as goal

pub returns-in_err-found-clause-reads : goal.returns-in_err-found-clause-reads
returns-in_err-found-clause-reads c = λ texts later. let p = err_from_is_err_and c.from_residual.result c.from_residual.ensures.1 in rw (p.1, p.2)
    (items_refused texts c.args.tokens.now c.args.end c.in_err-found.field-0.0 (c.in_err-found.ensures.reads texts later))

pub returns-in-Some-clause-reads : goal.returns-in-Some-clause-reads
returns-in-Some-clause-reads c = λ texts later. items_stopped texts c.args.tokens.now c.args.end (found_in c.in_ok-found.found) c.in_ok-found.rest.now c.in-Some.field-0-1.now c.in-Some.token (c.in_ok-found.ensures.reads texts later) c.in-Some.ensures

pub returns-clause-reads : goal.returns-clause-reads
returns-clause-reads c = λ texts later.
    let rules : c.from_vec.result ≡ c.in_ok-found.found.rules.items = c.from_vec.ensures in
    let symbols : c.from_vec-2.result ≡ c.in_ok-found.found.symbols.items = c.from_vec-2.ensures in
    let attrs : c.from_vec-3.result ≡ c.in_ok-found.found.attrs.items = c.from_vec-3.ensures in
    let terms : c.from_vec-4.result ≡ c.in_ok-found.found.terms.items = c.from_vec-4.ensures in
    let chains : c.from_vec-5.result ≡ c.in_ok-found.found.chains.items = c.from_vec-5.ensures in
    rw (rules, symbols, attrs, terms, chains) (items_whole texts c.args.tokens.now c.args.end (found_in c.in_ok-found.found) c.in_ok-found.rest.now (c.in_ok-found.ensures.reads texts later) c.in_default.ensures)

pub returns-in_err-found-clause-within : goal.returns-in_err-found-clause-within
returns-in_err-found-clause-within c = λ h. later_at c.read_items-read.ensures.kept c.len-texts.ensures.distinct (c.in_err-found.ensures.within c.read_items-read.new.strings (itself c.len-texts.ensures.distinct)) h

pub returns-in_err-found-clause-exact : goal.returns-in_err-found-clause-exact
returns-in_err-found-clause-exact c = λ h. returns-in_err-found-clause-reads c _ (later_at c.read_items-read.ensures.kept c.len-texts.ensures.distinct (c.in_err-found.ensures.within c.read_items-read.new.strings (itself c.len-texts.ensures.distinct)) h)

pub returns-in-Some-clause-within : goal.returns-in-Some-clause-within
returns-in-Some-clause-within c = λ h. later_at c.read_items-read.ensures.kept c.len-texts.ensures.distinct (c.in_ok-found.ensures.within c.read_items-read.new.strings (itself c.len-texts.ensures.distinct)) h

pub returns-in-Some-clause-exact : goal.returns-in-Some-clause-exact
returns-in-Some-clause-exact c = λ h. returns-in-Some-clause-reads c _ (later_at c.read_items-read.ensures.kept c.len-texts.ensures.distinct (c.in_ok-found.ensures.within c.read_items-read.new.strings (itself c.len-texts.ensures.distinct)) h)

pub returns-clause-within : goal.returns-clause-within
returns-clause-within c = λ h. later_at c.read_items-read.ensures.kept c.len-texts.ensures.distinct (c.in_ok-found.ensures.within c.read_items-read.new.strings (itself c.len-texts.ensures.distinct)) h

pub returns-clause-exact : goal.returns-clause-exact
returns-clause-exact c = λ h. returns-clause-reads c _ (later_at c.read_items-read.ensures.kept c.len-texts.ensures.distinct (c.in_ok-found.ensures.within c.read_items-read.new.strings (itself c.len-texts.ensures.distinct)) h)

pub returns-clause-table : goal.returns-clause-table
returns-clause-table c = λ h. (owes_nothing (c.in_ok-found.ensures.table c.read_items-read.new.strings (itself c.len-texts.ensures.distinct)) c.in_default.ensures).table h
