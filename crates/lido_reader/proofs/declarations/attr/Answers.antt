use Rattle.std.proofs.lemmas.Result.{err_from_is_err_and}
use Rattle.lido_reader.proofs.PartsLemmas.{finish, then_finish, go_on, go_past, stuck_at, stuck_in, read_whole}
use Rattle.lido_reader.proofs.DeclarationsLemmas.{attr_begins, semicolon_stops, semicolon_completable, decls_completable}
use Rattle.lido_reader.proofs.declarations.attr.Goals as goal

pub returns-in_err-behind_word-clause-reads : goal.returns-in_err-behind_word-clause-reads
returns-in_err-behind_word-clause-reads c = let p = err_from_is_err_and c.from_residual.result c.from_residual.ensures.1 in rw (p.1, p.2)
    (stuck_at c.args.end (attr_begins c.args.tokens.now) (λ word. then_finish decls_completable (λ all. then_finish semicolon_completable (λ semicolon. finish))) c.in_err-behind_word.field-0.0 c.in_err-behind_word.ensures.reads)

pub returns-in_err-all-clause-reads : goal.returns-in_err-all-clause-reads
returns-in_err-all-clause-reads c = let p = err_from_is_err_and c.from_residual-in_err-all.result c.from_residual-in_err-all.ensures.1 in rw (p.1, p.2)
    (stuck_in c.args.end (semicolon_stops _ _) (go_on (attr_begins c.args.tokens.now) c.in_ok-behind_word.ensures.reads) (λ all. then_finish semicolon_completable (λ semicolon. finish)) c.in_err-all.field-0.0 c.in_err-all.ensures.reads)

pub returns-in_err-rest-clause-reads : goal.returns-in_err-rest-clause-reads
returns-in_err-rest-clause-reads c = let p = err_from_is_err_and c.from_residual-in_err-rest.result c.from_residual-in_err-rest.ensures.1 in rw (p.1, p.2)
    (stuck_at c.args.end (go_past (semicolon_stops _ _) (go_on (attr_begins c.args.tokens.now) c.in_ok-behind_word.ensures.reads) c.in_ok-all.ensures.reads) (λ semicolon. finish) c.in_err-rest.field-0.0 c.in_err-rest.ensures.reads)

pub returns-clause-reads : goal.returns-clause-reads
returns-clause-reads c = read_whole (go_on (go_past (semicolon_stops _ _) (go_on (attr_begins c.args.tokens.now) c.in_ok-behind_word.ensures.reads) c.in_ok-all.ensures.reads) c.in_ok-rest.ensures.reads)
