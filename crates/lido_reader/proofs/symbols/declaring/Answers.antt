use Rattle.std.specs.Prelude.{◌≡◌, []}
use Rattle.std.proofs.lemmas.Result.{err_from_is_err_and}
use Rattle.lido_base.specs.Reading.{nothing}
use Rattle.lido_reader.specs.Items.{IsDeclaring}
use Rattle.lido_computations.proofs.PhrasesLemmas.{leads_self}
use Rattle.lido_reader.proofs.PartsLemmas.{finish, then_finish, go_on, go_past, stuck_at, stuck_in, read_whole}
use Rattle.lido_reader.proofs.DeclarationsLemmas.{colon_stops, colon_completable, semicolon_stops, semicolon_completable, decls_completable}
use Rattle.lido_reader.proofs.symbols.declaring.Goals as goal

pub returns-in_err-all-clause-reads : goal.returns-in_err-all-clause-reads
returns-in_err-all-clause-reads c = let p = err_from_is_err_and c.from_residual.result c.from_residual.ensures.1 in rw (p.1, p.2)
    (stuck_in c.args.end (colon_stops _ _) (leads_self (IsDeclaring (c.args.head.at, c.args.head.class) c.args.first c.args.number) nothing c.args.tokens.now) (λ names. then_finish colon_completable (λ colon. then_finish decls_completable (λ all. then_finish semicolon_completable (λ semicolon. finish)))) c.in_err-all.field-0.0 c.in_err-all.ensures.reads)

pub returns-in_err-behind_colon-clause-reads : goal.returns-in_err-behind_colon-clause-reads
returns-in_err-behind_colon-clause-reads c = let p = err_from_is_err_and c.from_residual-in_err-behind_colon.result c.from_residual-in_err-behind_colon.ensures.1 in rw (p.1, p.2)
    (stuck_at c.args.end (go_past (colon_stops _ _) (leads_self (IsDeclaring (c.args.head.at, c.args.head.class) c.args.first c.args.number) nothing c.args.tokens.now) c.in_ok-all.ensures.reads) (λ colon. then_finish decls_completable (λ all. then_finish semicolon_completable (λ semicolon. finish))) c.in_err-behind_colon.field-0.0 c.in_err-behind_colon.ensures.reads)

pub returns-in_err-declared-clause-reads : goal.returns-in_err-declared-clause-reads
returns-in_err-declared-clause-reads c = let p = err_from_is_err_and c.from_residual-in_err-declared.result c.from_residual-in_err-declared.ensures.1 in rw (p.1, p.2)
    (stuck_in c.args.end (semicolon_stops _ _) (go_on (go_past (colon_stops _ _) (leads_self (IsDeclaring (c.args.head.at, c.args.head.class) c.args.first c.args.number) nothing c.args.tokens.now) c.in_ok-all.ensures.reads) c.in_ok-behind_colon.ensures.reads) (λ all. then_finish semicolon_completable (λ semicolon. finish)) c.in_err-declared.field-0.0 c.in_err-declared.ensures.reads)

pub returns-in_err-rest-clause-reads : goal.returns-in_err-rest-clause-reads
returns-in_err-rest-clause-reads c = let p = err_from_is_err_and c.from_residual-in_err-rest.result c.from_residual-in_err-rest.ensures.1 in rw (p.1, p.2)
    (stuck_at c.args.end (go_past (semicolon_stops _ _) (go_on (go_past (colon_stops _ _) (leads_self (IsDeclaring (c.args.head.at, c.args.head.class) c.args.first c.args.number) nothing c.args.tokens.now) c.in_ok-all.ensures.reads) c.in_ok-behind_colon.ensures.reads) c.in_ok-declared.ensures.reads) (λ semicolon. finish) c.in_err-rest.field-0.0 c.in_err-rest.ensures.reads)

pub returns-clause-reads : goal.returns-clause-reads
returns-clause-reads c =
    let names : c.from_vec.result ≡ c.in_ok-all.all.items = c.from_vec.ensures in
    let inherits : c.new.result ≡ [] = c.new.ensures in
    let decls : c.from_vec-2.result ≡ c.in_ok-declared.declared.items = c.from_vec-2.ensures in
    let body : c.new-2.result ≡ [] = c.new-2.ensures in
    rw (names, inherits, decls, body) (read_whole (go_on (go_past (semicolon_stops _ _) (go_on (go_past (colon_stops _ _) (leads_self (IsDeclaring (c.args.head.at, c.args.head.class) c.args.first c.args.number) nothing c.args.tokens.now) c.in_ok-all.ensures.reads) c.in_ok-behind_colon.ensures.reads) c.in_ok-declared.ensures.reads) c.in_ok-rest.ensures.reads))
