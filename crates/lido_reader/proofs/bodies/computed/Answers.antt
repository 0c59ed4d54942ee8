use Rattle.std.specs.Prelude.{◌≡◌, []}
use Rattle.std.proofs.lemmas.Result.{err_from_is_err_and}
use Rattle.lido_computations.specs.Messages.{IsComputationIn}
use Rattle.lido_reader.specs.Items.{AreComputations, IsFurtherComputation, Repeats, is_not_end}
use Rattle.lido_computations.proofs.PhrasesLemmas.{refused_by}
use Rattle.lido_reader.proofs.BodiesLemmas.{computed_leads, computed_none}
use Rattle.lido_computations.proofs.FunctionsLemmas.{keeps_none}
use Rattle.lido_reader.proofs.bodies.computed.Goals as goal

pub returns-in_default-clause-reads : goal.returns-in_default-clause-reads
returns-in_default-clause-reads c = λ texts later. let items : c.new.result.items ≡ [] = c.new.ensures.items in rw items (computed_none (IsComputationIn c.args.words texts c.args.owner) c.args.number c.args.tokens.now c.in_default.ensures.seen)

pub returns-in_err-body-clause-reads : goal.returns-in_err-body-clause-reads
returns-in_err-body-clause-reads c = λ texts later. let p = err_from_is_err_and c.from_residual.result c.from_residual.ensures.1 in rw (p.1, p.2)
    (refused_by (Repeats (IsFurtherComputation (IsComputationIn c.args.words texts c.args.owner)) ([], c.args.number)) (AreComputations (IsComputationIn c.args.words texts c.args.owner) c.args.number) is_not_end is_not_end c.args.end c.in-Some.behind_word.now c.args.tokens.now
    (λ bad r. (computed_leads (IsComputationIn c.args.words texts c.args.owner) c.args.number c.args.tokens.now c.in-Some.behind_word.now c.in-Some.field-0-0 c.in-Some.ensures.seen).refuses bad r)
    c.in_err-body.field-0.0 (c.in_err-body.ensures.reads texts later))

pub returns-clause-reads : goal.returns-clause-reads
returns-clause-reads c = λ texts later. (computed_leads (IsComputationIn c.args.words texts c.args.owner) c.args.number c.args.tokens.now c.in-Some.behind_word.now c.in-Some.field-0-0 c.in-Some.ensures.seen).finds
    (c.in_ok-body.body.all.items, c.in_ok-body.body.next) c.in_ok-body.rest.now (c.in_ok-body.ensures.reads texts later)

pub returns-in_default-clause-same : goal.returns-in_default-clause-same
returns-in_default-clause-same c = keeps_none _
