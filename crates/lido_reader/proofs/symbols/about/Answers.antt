use Rattle.std.proofs.lemmas.Result.{err_from_is_err_and}
use Rattle.lido_base.specs.Reading.{nothing}
use Rattle.lido_computations.specs.Messages.{IsComputationIn}
use Rattle.lido_computations.specs.declared.owners.Owner.TheVariants as owner
use Rattle.lido_reader.specs.Items.{IsAbout, IsComputing, IsDeclaring}
use Rattle.lido_computations.proofs.PhrasesLemmas.{refused_by}
use Rattle.lido_reader.proofs.SymbolsLemmas.{declaring_leads, computing_leads}
use Rattle.lido_computations.proofs.FunctionsLemmas.{keeps_none}
use Rattle.lido_reader.proofs.symbols.about.Goals as goal

pub returns-in_err-declared-clause-reads : goal.returns-in_err-declared-clause-reads
returns-in_err-declared-clause-reads c = λ texts later. let p = err_from_is_err_and c.from_residual.result c.from_residual.ensures.1 in rw (p.1, p.2)
    (let l = (declaring_leads (IsComputationIn c.args.words texts owner.Symbol) (c.args.head.at, c.args.head.class) c.args.first c.args.number c.args.tokens.now (c.is_declaring.ensures.0 c.if-is_declaring.true)) in refused_by (IsDeclaring (c.args.head.at, c.args.head.class) c.args.first c.args.number) (IsAbout (IsComputationIn c.args.words texts owner.Symbol) (c.args.head.at, c.args.head.class) c.args.first c.args.number) nothing nothing c.args.end c.args.tokens.now c.args.tokens.now (λ bad r. l.refuses bad r) c.in_err-declared.field-0.0 c.in_err-declared.ensures.reads)

pub returns-then-is_declaring-clause-reads : goal.returns-then-is_declaring-clause-reads
returns-then-is_declaring-clause-reads c = λ texts later. let l = (declaring_leads (IsComputationIn c.args.words texts owner.Symbol) (c.args.head.at, c.args.head.class) c.args.first c.args.number c.args.tokens.now (c.is_declaring.ensures.0 c.if-is_declaring.true)) in l.finds c.in_ok-declared.declared c.in_ok-declared.rest.now c.in_ok-declared.ensures.reads

pub returns-in_err-computed-clause-reads : goal.returns-in_err-computed-clause-reads
returns-in_err-computed-clause-reads c = λ texts later. let p = err_from_is_err_and c.from_residual-in_err-computed.result c.from_residual-in_err-computed.ensures.1 in rw (p.1, p.2)
    (let l = (computing_leads (IsComputationIn c.args.words texts owner.Symbol) (c.args.head.at, c.args.head.class) c.args.first c.args.number c.args.tokens.now (λ g. let it_is = c.is_declaring.ensures.1 g in cc (c.if-is_declaring.false))) in refused_by (IsComputing (IsComputationIn c.args.words texts owner.Symbol) (c.args.head.at, c.args.head.class) c.args.first c.args.number) (IsAbout (IsComputationIn c.args.words texts owner.Symbol) (c.args.head.at, c.args.head.class) c.args.first c.args.number) nothing nothing c.args.end c.args.tokens.now c.args.tokens.now (λ bad r. l.refuses bad r) c.in_err-computed.field-0.0 (c.in_err-computed.ensures.reads texts later))

pub returns-clause-reads : goal.returns-clause-reads
returns-clause-reads c = λ texts later. let l = (computing_leads (IsComputationIn c.args.words texts owner.Symbol) (c.args.head.at, c.args.head.class) c.args.first c.args.number c.args.tokens.now (λ g. let it_is = c.is_declaring.ensures.1 g in cc (c.if-is_declaring.false))) in l.finds c.in_ok-computed.computed c.in_ok-computed.rest.now (c.in_ok-computed.ensures.reads texts later)

pub returns-in_err-declared-clause-same : goal.returns-in_err-declared-clause-same
returns-in_err-declared-clause-same c = keeps_none _

pub returns-then-is_declaring-clause-same : goal.returns-then-is_declaring-clause-same
returns-then-is_declaring-clause-same c = keeps_none _
