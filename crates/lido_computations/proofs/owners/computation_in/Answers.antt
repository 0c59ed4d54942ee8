use Rattle.lido_computations.proofs.owners.computation_in.Goals as goal

pub returns-in-Rule-clause-reads : goal.returns-in-Rule-clause-reads
returns-in-Rule-clause-reads c = rw c.in-Rule.is c.rule_computation.ensures.reads

pub returns-in-Symbol-clause-reads : goal.returns-in-Symbol-clause-reads
returns-in-Symbol-clause-reads c = rw c.in-Symbol.is c.symbol_computation.ensures.reads
