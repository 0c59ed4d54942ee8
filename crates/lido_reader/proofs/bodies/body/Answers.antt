use Rattle.std.proofs.lemmas.Result.{err_from_is_err_and}
use Rattle.lido_base.specs.Reading.{nothing}
use Rattle.lido_computations.specs.Messages.{IsComputationIn}
use Rattle.lido_reader.specs.Items.{IsBody}
use Rattle.lido_computations.proofs.PhrasesLemmas.{leads_self}
use Rattle.lido_reader.proofs.PartsLemmas.{finish, then_finish, go_on, go_past, stuck_at, stuck_in, read_whole}
use Rattle.lido_reader.proofs.DeclarationsLemmas.{semicolon_completable}
use Rattle.lido_reader.proofs.BodiesLemmas.{end_stops, end_completable}
use Rattle.lido_reader.proofs.bodies.body.Goals as goal

pub returns-in_err-body-clause-reads : goal.returns-in_err-body-clause-reads
returns-in_err-body-clause-reads c = λ texts later. let p = err_from_is_err_and c.from_residual.result c.from_residual.ensures.1 in rw (p.1, p.2)
    (stuck_in c.args.end (end_stops _ _) (leads_self (IsBody (IsComputationIn c.args.words texts c.args.owner) c.args.number) nothing c.args.tokens.now) (λ all. then_finish end_completable (λ word. then_finish semicolon_completable (λ semicolon. finish)))
    c.in_err-body.field-0.0 (c.in_err-body.ensures.reads texts later))

pub returns-in_err-behind_end-clause-reads : goal.returns-in_err-behind_end-clause-reads
returns-in_err-behind_end-clause-reads c = λ texts later. let p = err_from_is_err_and c.from_residual-in_err-behind_end.result c.from_residual-in_err-behind_end.ensures.1 in rw (p.1, p.2)
    (stuck_at c.args.end (go_past (end_stops _ _) (leads_self (IsBody (IsComputationIn c.args.words texts c.args.owner) c.args.number) nothing c.args.tokens.now) (c.in_ok-body.ensures.reads texts later)) (λ word. then_finish semicolon_completable (λ semicolon. finish)) c.in_err-behind_end.field-0.0 c.in_err-behind_end.ensures.reads)

pub returns-in_err-rest-clause-reads : goal.returns-in_err-rest-clause-reads
returns-in_err-rest-clause-reads c = λ texts later. let p = err_from_is_err_and c.from_residual-in_err-rest.result c.from_residual-in_err-rest.ensures.1 in rw (p.1, p.2)
    (stuck_at c.args.end (go_on (go_past (end_stops _ _) (leads_self (IsBody (IsComputationIn c.args.words texts c.args.owner) c.args.number) nothing c.args.tokens.now) (c.in_ok-body.ensures.reads texts later)) c.in_ok-behind_end.ensures.reads) (λ semicolon. finish) c.in_err-rest.field-0.0 c.in_err-rest.ensures.reads)

pub returns-clause-reads : goal.returns-clause-reads
returns-clause-reads c = λ texts later. read_whole (go_on (go_on (go_past (end_stops _ _) (leads_self (IsBody (IsComputationIn c.args.words texts c.args.owner) c.args.number) nothing c.args.tokens.now) (c.in_ok-body.ensures.reads texts later)) c.in_ok-behind_end.ensures.reads) c.in_ok-rest.ensures.reads)
