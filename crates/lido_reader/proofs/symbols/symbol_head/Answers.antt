use Rattle.std.proofs.lemmas.Result.{err_from_is_err_and}
use Rattle.lido_base.specs.Reading.{nothing}
use Rattle.lido_lexer.specs.declared.keyword.Keyword.TheVariants as key
use Rattle.lido_lexer.specs.declared.token.TokenKind.TheVariants as kind
use Rattle.lido_computations.proofs.PhrasesLemmas.{sees_finds}
use Rattle.lido_reader.proofs.PartsLemmas.{finish, go_on, stuck_at, read_whole}
use Rattle.lido_reader.proofs.SymbolsLemmas.{class_leads, plain_leads}
use Rattle.lido_reader.proofs.symbols.symbol_head.Goals as goal

pub returns-in_err-behind_symbol-clause-reads : goal.returns-in_err-behind_symbol-clause-reads
returns-in_err-behind_symbol-clause-reads c = let p = err_from_is_err_and c.from_residual.result c.from_residual.ensures.1 in rw (p.1, p.2)
    (let found = sees_finds (kind.Key key.Class) nothing c.args.tokens.now c.in-Some.behind_class.now c.in-Some.word c.in-Some.ensures.seen in
    stuck_at c.args.end (go_on (class_leads c.args.tokens.now c.in-Some.behind_class.now c.in-Some.word c.in-Some.ensures.seen) found) (λ symbol. finish) c.in_err-behind_symbol.field-0.0 c.in_err-behind_symbol.ensures.reads)

pub returns-in-Some-clause-reads : goal.returns-in-Some-clause-reads
returns-in-Some-clause-reads c =
    let found = sees_finds (kind.Key key.Class) nothing c.args.tokens.now c.in-Some.behind_class.now c.in-Some.word c.in-Some.ensures.seen in
    read_whole (go_on (go_on (class_leads c.args.tokens.now c.in-Some.behind_class.now c.in-Some.word c.in-Some.ensures.seen) found) c.in_ok-behind_symbol.ensures.reads)

pub returns-in_err-symbol-clause-reads : goal.returns-in_err-symbol-clause-reads
returns-in_err-symbol-clause-reads c = let p = err_from_is_err_and c.from_residual-in_err-symbol.result c.from_residual-in_err-symbol.ensures.1 in rw (p.1, p.2)
    (stuck_at c.args.end (plain_leads c.args.tokens.now c.in_default.ensures.seen) (λ symbol. finish) c.in_err-symbol.field-0.0 c.in_err-symbol.ensures.reads)

pub returns-clause-reads : goal.returns-clause-reads
returns-clause-reads c = read_whole (go_on (plain_leads c.args.tokens.now c.in_default.ensures.seen) c.in_ok-symbol.ensures.reads)
