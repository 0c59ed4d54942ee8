use Rattle.std.proofs.lemmas.Result.{err_from_is_err_and}
use Rattle.lido_base.specs.Reading.{nothing}
use Rattle.lido_computations.specs.Messages.{IsComputationIn}
use Rattle.lido_computations.specs.declared.owners.Owner.TheVariants as owner
use Rattle.lido_reader.specs.Items.{IsAbout, IsSymbol}
use Rattle.lido_computations.proofs.PhrasesLemmas.{leads_self, name_completable, refused_by}
use Rattle.lido_reader.proofs.PartsLemmas.{then_finish, go_on, stuck_at}
use Rattle.lido_reader.proofs.SymbolsLemmas.{about_completable}
use Rattle.lido_computations.proofs.FunctionsLemmas.{keeps_none}
use Rattle.lido_reader.proofs.symbols.symbol.Goals as goal

pub returns-in_err-head-clause-reads : goal.returns-in_err-head-clause-reads
returns-in_err-head-clause-reads c = λ texts later. let p = err_from_is_err_and c.from_residual.result c.from_residual.ensures.1 in rw (p.1, p.2)
    (stuck_at c.args.end (leads_self (IsSymbol (IsComputationIn c.args.words texts owner.Symbol) c.args.number) nothing c.args.tokens.now) (λ head. then_finish name_completable (λ first. about_completable (IsComputationIn c.args.words texts owner.Symbol) head first c.args.number)) c.in_err-head.field-0.0 c.in_err-head.ensures.reads)

pub returns-in_err-first-clause-reads : goal.returns-in_err-first-clause-reads
returns-in_err-first-clause-reads c = λ texts later. let p = err_from_is_err_and c.from_residual-in_err-first.result c.from_residual-in_err-first.ensures.1 in rw (p.1, p.2)
    (stuck_at c.args.end (go_on (leads_self (IsSymbol (IsComputationIn c.args.words texts owner.Symbol) c.args.number) nothing c.args.tokens.now) c.in_ok-head.ensures.reads) (λ first. about_completable (IsComputationIn c.args.words texts owner.Symbol) (c.in_ok-head.head.at, c.in_ok-head.head.class) first c.args.number) c.in_err-first.field-0.0 c.in_err-first.ensures.reads)

pub returns-in_err-item-clause-reads : goal.returns-in_err-item-clause-reads
returns-in_err-item-clause-reads c = λ texts later. let p = err_from_is_err_and c.from_residual-in_err-item.result c.from_residual-in_err-item.ensures.1 in rw (p.1, p.2)
    (let l = (go_on (go_on (leads_self (IsSymbol (IsComputationIn c.args.words texts owner.Symbol) c.args.number) nothing c.args.tokens.now) c.in_ok-head.ensures.reads) c.in_ok-first.ensures.reads) in refused_by (IsAbout (IsComputationIn c.args.words texts owner.Symbol) (c.in_ok-head.head.at, c.in_ok-head.head.class) c.in_ok-first.first c.args.number) (IsSymbol (IsComputationIn c.args.words texts owner.Symbol) c.args.number) nothing nothing c.args.end c.in_ok-first.behind_first.now c.args.tokens.now (λ bad r. l.refuses bad r) c.in_err-item.field-0.0 (c.in_err-item.ensures.reads texts later))

pub returns-clause-reads : goal.returns-clause-reads
returns-clause-reads c = λ texts later. let l = (go_on (go_on (leads_self (IsSymbol (IsComputationIn c.args.words texts owner.Symbol) c.args.number) nothing c.args.tokens.now) c.in_ok-head.ensures.reads) c.in_ok-first.ensures.reads) in l.finds c.in_ok-item.item c.in_ok-item.rest.now (c.in_ok-item.ensures.reads texts later)

pub returns-in_err-head-clause-same : goal.returns-in_err-head-clause-same
returns-in_err-head-clause-same c = keeps_none _

pub returns-in_err-first-clause-same : goal.returns-in_err-first-clause-same
returns-in_err-first-clause-same c = keeps_none _
