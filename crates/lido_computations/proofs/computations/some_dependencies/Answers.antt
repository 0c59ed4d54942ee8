use Rattle.std.specs.Prelude.{◌≡◌, [], ◌∷◌, ◌++◌}
use Rattle.std.proofs.Common.{arith}
use Rattle.std.proofs.lemmas.Grind.{common_steps}
use Rattle.std.proofs.lemmas.Result.{err_from_is_err_and}
use Rattle.lido_base.proofs.ReadingLemmas.{leads_on}
use Rattle.lido_computations.proofs.PhrasesLemmas.{refused_by}
use Rattle.lido_computations.proofs.ComputationsLemmas.{some_lead, some_fail, next_leads, next_fails, last_ends}
use Rattle.lido_computations.proofs.computations.some_dependencies.Goals as goal

pub returns-in_err-first-clause-reads : goal.returns-in_err-first-clause-reads
returns-in_err-first-clause-reads c =
    let p = err_from_is_err_and c.from_residual.result c.from_residual.ensures.1 in rw (p.1, p.2)
    (refused_by _ _ _ _ _ _ _ (λ bad r. some_fail c.args.number c.args.tokens.now bad r) _ c.in_err-first.ensures.reads)

pub loop-more-init : goal.loop-more-init
loop-more-init c =
    record {
      leads = let items : c.in_ok-found.found.items ≡ c.in_ok-first.first ∷ [] = grind (arith, common_steps) in
          rw items (some_lead c.args.number c.args.tokens.now _ _ c.in_ok-first.ensures.reads);
      shorter = c.in_ok-first.ensures.shorter;
    }

pub returns-in_err-next-clause-reads : goal.returns-in_err-next-clause-reads
returns-in_err-next-clause-reads c =
    let p = err_from_is_err_and c.from_residual-in_err-next.result c.from_residual-in_err-next.ensures.1 in rw (p.1, p.2)
    (refused_by _ _ _ _ _ _ _ (λ bad r. c.loop-more.invariant.leads.refuses bad (next_fails (c.loop-more.found.items, c.loop-more.behind) _ _ bad _ c.in-Some.ensures.seen r)) _ c.in_err-next.ensures.reads)

pub loop-more-preserved : goal.loop-more-preserved
loop-more-preserved c =
    record {
      leads = let items : c.push.new.self.items ≡ c.loop-more.found.items ++ c.in_ok-next.next ∷ [] = grind (arith, common_steps) in
          rw items (leads_on _ _ _ _ _ _ _ _ _ (next_leads (c.loop-more.found.items, c.loop-more.behind) _ _ _ _ (c.in_ok-next.next, c.in_ok-next.number) c.in-Some.ensures.seen c.in_ok-next.ensures.reads) c.loop-more.invariant.leads);
      shorter = grind (arith, common_steps);
    }

pub returns-clause-reads : goal.returns-clause-reads
returns-clause-reads c =
    c.loop-more.invariant.leads.finds (c.loop-more.found.items, c.loop-more.behind) _ (last_ends (c.loop-more.found.items, c.loop-more.behind) _ c.in_default.ensures.seen)
