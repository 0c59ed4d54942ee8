use Rattle.std.specs.Prelude.{◌≡◌, ℕ, List, [], ◌∷◌, ◌++◌}
use Rattle.std.proofs.Common.{arith}
use Rattle.std.proofs.lemmas.Grind.{common_steps}
use Rattle.std.proofs.lemmas.Result.{err_from_is_err_and}
use Rattle.lido_base.specs.Reading.{nothing}
use Rattle.lido_lexer.proofs.Reading.{gains_none, gains_more}
use Rattle.lido_syntax.specs.declared.spec.Comp.{Comp}
use Rattle.lido_computations.specs.Messages.{IsComputationIn}
use Rattle.lido_reader.specs.Items.{IsFurtherComputation, Repeats, is_not_end}
use Rattle.lido_computations.proofs.PhrasesLemmas.{leads_self}
use Rattle.lido_reader.proofs.PartsLemmas.{finish, then_finish, go_on, go_past, stuck_at, stuck_in, read_whole, repeat_found, repeat_stuck, repeat_ends}
use Rattle.lido_reader.proofs.DeclarationsLemmas.{semicolon_completable}
use Rattle.lido_reader.proofs.TextsLemmas.{later_of}
use Rattle.lido_reader.proofs.BodiesLemmas.{computation_steps, semicolon_computations}
use Rattle.lido_computations.proofs.FunctionsLemmas.{keeps_none, keeps_more}
use Rattle.lido_reader.proofs.bodies.computations.Goals as goal

pub loop-alloc-init : goal.loop-alloc-init
loop-alloc-init c = let items : c.new-all.result.items ≡ [] = c.new-all.ensures.items in record {
  leads = λ texts later. rw items (leads_self (Repeats (IsFurtherComputation (IsComputationIn c.args.words texts c.args.owner)) ([], c.args.number)) is_not_end c.args.tokens.now);
  kept = gains_none c.args.strings.now;
  same = keeps_none c.args.strings.now;
  each = omega arith;
  no_longer = omega arith;
}

pub returns-in_err-comp-clause-reads : goal.returns-in_err-comp-clause-reads
returns-in_err-comp-clause-reads c = λ texts later. let p = err_from_is_err_and c.from_residual.result c.from_residual.ensures.1 in rw (p.1, p.2)
    (let found : List Comp × ℕ = (c.loop-alloc.all.items, c.loop-alloc.next) in
    repeat_stuck (computation_steps c.args.words texts c.args.owner) c.args.end (c.is_not_end.ensures.0 c.loop-alloc-test.true)
    (c.loop-alloc.invariant.leads texts (later_of c.loop-alloc.strings c.computation_in.new.strings texts c.computation_in.ensures.kept later)) c.in_err-comp.field-0.0
    (stuck_in c.args.end (semicolon_computations _ _) (leads_self (IsFurtherComputation (IsComputationIn c.args.words texts c.args.owner) found) nothing c.loop-alloc.rest.now) (λ comp. then_finish semicolon_completable (λ semicolon. finish))
    c.in_err-comp.field-0.0 (c.in_err-comp.ensures.reads texts later.gains later.distinct)))

pub returns-in_err-behind_semicolon-clause-reads : goal.returns-in_err-behind_semicolon-clause-reads
returns-in_err-behind_semicolon-clause-reads c = λ texts later. let p = err_from_is_err_and c.from_residual-in_err-behind_semicolon.result c.from_residual-in_err-behind_semicolon.ensures.1 in rw (p.1, p.2)
    (let found : List Comp × ℕ = (c.loop-alloc.all.items, c.loop-alloc.next) in
    repeat_stuck (computation_steps c.args.words texts c.args.owner) c.args.end (c.is_not_end.ensures.0 c.loop-alloc-test.true)
    (c.loop-alloc.invariant.leads texts (later_of c.loop-alloc.strings c.computation_in.new.strings texts c.computation_in.ensures.kept later)) c.in_err-behind_semicolon.field-0.0
    (stuck_at c.args.end (go_past (semicolon_computations _ _) (leads_self (IsFurtherComputation (IsComputationIn c.args.words texts c.args.owner) found) nothing c.loop-alloc.rest.now) (c.in_ok-comp.ensures.reads texts later.gains later.distinct)) (λ semicolon. finish)
    c.in_err-behind_semicolon.field-0.0 c.in_err-behind_semicolon.ensures.reads))

pub loop-alloc-preserved : goal.loop-alloc-preserved
loop-alloc-preserved c =
    let items : c.push.new.self.items ≡ c.loop-alloc.all.items ++ c.in_ok-comp.comp ∷ [] = c.in_ok-push.ensures.items in record {
      leads = λ texts later. rw items (let found : List Comp × ℕ = (c.loop-alloc.all.items, c.loop-alloc.next) in
          repeat_found (computation_steps c.args.words texts c.args.owner) (c.is_not_end.ensures.0 c.loop-alloc-test.true)
          (c.loop-alloc.invariant.leads texts (later_of c.loop-alloc.strings c.computation_in.new.strings texts c.computation_in.ensures.kept later))
          (read_whole (go_on (go_past (semicolon_computations _ _) (leads_self (IsFurtherComputation (IsComputationIn c.args.words texts c.args.owner) found) nothing c.loop-alloc.rest.now) (c.in_ok-comp.ensures.reads texts later.gains later.distinct)) c.in_ok-behind_semicolon.ensures.reads)));
      kept = gains_more c.loop-alloc.invariant.kept c.computation_in.ensures.kept;
      same = keeps_more c.loop-alloc.invariant.same c.computation_in.ensures.same;
      each = grind (arith, common_steps, c.in_ok-comp.ensures.left, c.in_ok-behind_semicolon.ensures.shorter, c.loop-alloc.invariant.each);
      no_longer = grind (arith, common_steps);
    }

pub returns-clause-reads : goal.returns-clause-reads
returns-clause-reads c = λ texts later. repeat_ends (computation_steps c.args.words texts c.args.owner) (λ g. let it_is = c.is_not_end.ensures.1 g in cc (c.loop-alloc-test.false)) (c.loop-alloc.invariant.leads texts later)

pub returns-in_err-comp-clause-same : goal.returns-in_err-comp-clause-same
returns-in_err-comp-clause-same c = keeps_more c.loop-alloc.invariant.same c.computation_in.ensures.same

pub returns-in_err-behind_semicolon-clause-same : goal.returns-in_err-behind_semicolon-clause-same
returns-in_err-behind_semicolon-clause-same c = keeps_more c.loop-alloc.invariant.same c.computation_in.ensures.same

pub returns-in_err-push-clause-same : goal.returns-in_err-push-clause-same
returns-in_err-push-clause-same c = keeps_more c.loop-alloc.invariant.same c.computation_in.ensures.same

pub returns-clause-same : goal.returns-clause-same
returns-clause-same c = c.loop-alloc.invariant.same
