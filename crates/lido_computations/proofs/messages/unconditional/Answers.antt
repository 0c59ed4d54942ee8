use Rattle.std.proofs.lemmas.Result.{err_from_is_err_and}
use Rattle.lido_lexer.proofs.Reading.{gains_none}
use Rattle.lido_computations.specs.Computations.{continues_after, continues_computation}
use Rattle.lido_computations.specs.Messages.{IsUnconditional}
use Rattle.lido_computations.proofs.PhrasesLemmas.{past, ends, never, refused_first, then_completable, done_completable, done_stops, leads_self, no_memory}
use Rattle.lido_computations.proofs.PlacesLemmas.{optional_completable}
use Rattle.lido_computations.proofs.ComputationsLemmas.{option_continues}
use Rattle.lido_computations.proofs.FunctionsLemmas.{keeps_none}
use Rattle.lido_computations.proofs.messages.unconditional.Goals as goal

pub returns-in_err-next-clause-reads : goal.returns-in_err-next-clause-reads
returns-in_err-next-clause-reads c =
    let p = err_from_is_err_and c.from_residual.result c.from_residual.ensures.1 in rw (p.1, p.2) (λ texts g d. no_memory _ _ _ _ _ c.in_err-next.ensures.memory)

pub returns-in_err-next-clause-kept : goal.returns-in_err-next-clause-kept
returns-in_err-next-clause-kept c = gains_none _

pub returns-in_err-next-clause-same : goal.returns-in_err-next-clause-same
returns-in_err-next-clause-same c = keeps_none _

pub returns-in_err-severity-clause-reads : goal.returns-in_err-severity-clause-reads
returns-in_err-severity-clause-reads c =
    let p = err_from_is_err_and c.from_residual-in_err-severity.result c.from_residual-in_err-severity.ensures.1 in rw (p.1, p.2) (λ texts g d.
    let l0 = leads_self (IsUnconditional c.args.words texts c.args.number c.args.at) continues_computation c.args.tokens.now in
    refused_first _ _ _ _ _ _ (never _ _) _ _ _ l0 (λ a. (then_completable _ _ (optional_completable _ _) (λ a. (done_completable _)))) _ (rw c.in_ok-next.ensures.next at (c.in_err-severity.ensures.reads texts g d)))

pub returns-in_err-after-clause-reads : goal.returns-in_err-after-clause-reads
returns-in_err-after-clause-reads c =
    let p = err_from_is_err_and c.from_residual-in_err-after.result c.from_residual-in_err-after.ensures.1 in rw (p.1, p.2) (λ texts g d.
    let l0 = leads_self (IsUnconditional c.args.words texts c.args.number c.args.at) continues_computation c.args.tokens.now in
    let l1 = past _ _ _ _ _ _ (never _ _) _ _ _ _ l0 (rw c.in_ok-next.ensures.next at (c.in_ok-severity.ensures.reads texts g d)) in
    refused_first _ _ _ _ _ _ (done_stops continues_after continues_computation _ option_continues) _ _ _ l1 (λ a. (done_completable _)) _ c.in_err-after.ensures.reads)

pub returns-clause-reads : goal.returns-clause-reads
returns-clause-reads c =
    rw c.from_vec.ensures (λ texts g d.
    let l0 = leads_self (IsUnconditional c.args.words texts c.args.number c.args.at) continues_computation c.args.tokens.now in
    let l1 = past _ _ _ _ _ _ (never _ _) _ _ _ _ l0 (rw c.in_ok-next.ensures.next at (c.in_ok-severity.ensures.reads texts g d)) in
    let l2 = past _ _ _ _ _ _ (done_stops continues_after continues_computation _ option_continues) _ _ _ _ l1 c.in_ok-after.ensures.reads in
    ends _ _ _ _ _ _ l2)
