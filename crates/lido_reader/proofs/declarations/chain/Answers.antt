use Rattle.std.specs.Prelude.{◌≡◌, List}
use Rattle.std.proofs.Common.{ap, ◌∙◌}
use Rattle.std.proofs.lemmas.Result.{err_from_is_err_and}
use Rattle.lido_base.specs.Reading.{nothing}
use Rattle.lido_syntax.specs.declared.spec.Name.{Name}
use Rattle.lido_reader.specs.Items.{IsChain, typed}
use Rattle.lido_computations.proofs.PhrasesLemmas.{no_memory, type_completable}
use Rattle.lido_reader.proofs.PartsLemmas.{finish, then_finish, go_on, go_past, stuck_at, stuck_in, read_whole}
use Rattle.lido_reader.proofs.DeclarationsLemmas.{chain_begins, colon_stops, colon_completable, semicolon_completable, names_completable}
use Rattle.lido_reader.proofs.declarations.chain.Goals as goal

pub returns-in_err-behind_word-clause-reads : goal.returns-in_err-behind_word-clause-reads
returns-in_err-behind_word-clause-reads c = let p = err_from_is_err_and c.from_residual.result c.from_residual.ensures.1 in rw (p.1, p.2)
    (stuck_at c.args.end (chain_begins c.args.tokens.now) (λ word. then_finish names_completable (λ names. then_finish colon_completable (λ colon. then_finish type_completable (λ type. then_finish semicolon_completable (λ semicolon. finish))))) c.in_err-behind_word.field-0.0 c.in_err-behind_word.ensures.reads)

pub returns-in_err-chains-clause-reads : goal.returns-in_err-chains-clause-reads
returns-in_err-chains-clause-reads c = let p = err_from_is_err_and c.from_residual-in_err-chains.result c.from_residual-in_err-chains.ensures.1 in rw (p.1, p.2)
    (stuck_in c.args.end (colon_stops _ _) (go_on (chain_begins c.args.tokens.now) c.in_ok-behind_word.ensures.reads) (λ names. then_finish colon_completable (λ colon. then_finish type_completable (λ type. then_finish semicolon_completable (λ semicolon. finish)))) c.in_err-chains.field-0.0 c.in_err-chains.ensures.reads)

pub returns-in_err-behind_colon-clause-reads : goal.returns-in_err-behind_colon-clause-reads
returns-in_err-behind_colon-clause-reads c = let p = err_from_is_err_and c.from_residual-in_err-behind_colon.result c.from_residual-in_err-behind_colon.ensures.1 in rw (p.1, p.2)
    (stuck_at c.args.end (go_past (colon_stops _ _) (go_on (chain_begins c.args.tokens.now) c.in_ok-behind_word.ensures.reads) c.in_ok-chains.ensures.reads) (λ colon. then_finish type_completable (λ type. then_finish semicolon_completable (λ semicolon. finish))) c.in_err-behind_colon.field-0.0 c.in_err-behind_colon.ensures.reads)

pub returns-in_err-ty-clause-reads : goal.returns-in_err-ty-clause-reads
returns-in_err-ty-clause-reads c = let p = err_from_is_err_and c.from_residual-in_err-ty.result c.from_residual-in_err-ty.ensures.1 in rw (p.1, p.2)
    (stuck_at c.args.end (go_on (go_past (colon_stops _ _) (go_on (chain_begins c.args.tokens.now) c.in_ok-behind_word.ensures.reads) c.in_ok-chains.ensures.reads) c.in_ok-behind_colon.ensures.reads) (λ type. then_finish semicolon_completable (λ semicolon. finish)) c.in_err-ty.field-0.0 c.in_err-ty.ensures.reads)

pub returns-in_err-rest-clause-reads : goal.returns-in_err-rest-clause-reads
returns-in_err-rest-clause-reads c = let p = err_from_is_err_and c.from_residual-in_err-rest.result c.from_residual-in_err-rest.ensures.1 in rw (p.1, p.2)
    (stuck_at c.args.end (go_on (go_on (go_past (colon_stops _ _) (go_on (chain_begins c.args.tokens.now) c.in_ok-behind_word.ensures.reads) c.in_ok-chains.ensures.reads) c.in_ok-behind_colon.ensures.reads) c.in_ok-ty.ensures.reads) (λ semicolon. finish) c.in_err-rest.field-0.0 c.in_err-rest.ensures.reads)

pub returns-in_err-all-clause-reads : goal.returns-in_err-all-clause-reads
returns-in_err-all-clause-reads c = let p = err_from_is_err_and c.from_residual-in_err-all.result c.from_residual-in_err-all.ensures.1 in rw (p.1, p.2)
    (no_memory IsChain nothing c.args.end c.args.tokens.now c.in_err-all.field-0.0 c.in_err-all.ensures.memory)

pub returns-clause-reads : goal.returns-clause-reads
returns-clause-reads c =
    let all : c.in_ok-all.all.items ≡ typed c.in_ok-chains.chains.items c.in_ok-ty.ty = c.in_ok-all.ensures.all ∙ ap (λ (names : List Name). typed names c.in_ok-ty.ty) c.as_slice.ensures.value in
    rw all (read_whole (go_on (go_on (go_on (go_past (colon_stops _ _) (go_on (chain_begins c.args.tokens.now) c.in_ok-behind_word.ensures.reads) c.in_ok-chains.ensures.reads) c.in_ok-behind_colon.ensures.reads) c.in_ok-ty.ensures.reads) c.in_ok-rest.ensures.reads))
