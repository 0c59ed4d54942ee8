use Rattle.std.specs.Prelude.{◌≡◌, [], ◌∷◌}
use Rattle.std.proofs.Common.{arith}
use Rattle.std.proofs.lemmas.Grind.{common_steps}
use Rattle.std.proofs.lemmas.Result.{err_from_is_err_and}
use Rattle.lido_base.specs.Reading.{nothing}
use Rattle.lido_computations.specs.Messages.{IsComputationIn}
use Rattle.lido_computations.specs.declared.owners.Owner.TheVariants as owner
use Rattle.lido_reader.specs.Items.{IsComputing}
use Rattle.lido_computations.proofs.PhrasesLemmas.{leads_self}
use Rattle.lido_reader.proofs.PartsLemmas.{finish, then_finish, go_on, go_past, stuck_at, stuck_in, read_whole}
use Rattle.lido_reader.proofs.BodiesLemmas.{body_completable}
use Rattle.lido_reader.proofs.SymbolsLemmas.{inherited_stops}
use Rattle.lido_computations.proofs.FunctionsLemmas.{keeps_none}
use Rattle.lido_reader.proofs.symbols.computing.Goals as goal

pub returns-in_err-classes-clause-reads : goal.returns-in_err-classes-clause-reads
returns-in_err-classes-clause-reads c = λ texts later. let p = err_from_is_err_and c.from_residual.result c.from_residual.ensures.1 in rw (p.1, p.2)
    (stuck_in c.args.end (inherited_stops (IsComputationIn c.args.words texts owner.Symbol) c.args.number _ _) (leads_self (IsComputing (IsComputationIn c.args.words texts owner.Symbol) (c.args.head.at, c.args.head.class) c.args.first c.args.number) nothing c.args.tokens.now) (λ names. then_finish (body_completable (IsComputationIn c.args.words texts owner.Symbol) c.args.number) (λ all. finish)) c.in_err-classes.field-0.0 c.in_err-classes.ensures.reads)

pub returns-in_err-computed-clause-reads : goal.returns-in_err-computed-clause-reads
returns-in_err-computed-clause-reads c = λ texts later. let p = err_from_is_err_and c.from_residual-in_err-computed.result c.from_residual-in_err-computed.ensures.1 in rw (p.1, p.2)
    (stuck_at c.args.end (go_past (inherited_stops (IsComputationIn c.args.words texts owner.Symbol) c.args.number _ _) (leads_self (IsComputing (IsComputationIn c.args.words texts owner.Symbol) (c.args.head.at, c.args.head.class) c.args.first c.args.number) nothing c.args.tokens.now) c.in_ok-classes.ensures.reads) (λ all. finish) c.in_err-computed.field-0.0 (c.in_err-computed.ensures.reads texts later))

pub returns-clause-reads : goal.returns-clause-reads
returns-clause-reads c = λ texts later.
    let names : c.from_vec.result ≡ c.args.first ∷ [] = grind (arith, common_steps) in
    let inherits : c.from_vec-2.result ≡ c.in_ok-classes.classes.items = c.from_vec-2.ensures in
    let decls : c.new.result ≡ [] = c.new.ensures in
    let body : c.from_vec-3.result ≡ c.in_ok-computed.computed.all.items = c.from_vec-3.ensures in
    rw (names, inherits, decls, body) (read_whole (go_on (go_past (inherited_stops (IsComputationIn c.args.words texts owner.Symbol) c.args.number _ _) (leads_self (IsComputing (IsComputationIn c.args.words texts owner.Symbol) (c.args.head.at, c.args.head.class) c.args.first c.args.number) nothing c.args.tokens.now) c.in_ok-classes.ensures.reads) (c.in_ok-computed.ensures.reads texts later)))

pub returns-in_err-classes-clause-same : goal.returns-in_err-classes-clause-same
returns-in_err-classes-clause-same c = keeps_none _
