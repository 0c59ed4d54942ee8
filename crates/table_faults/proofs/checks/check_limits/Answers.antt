use Rattle.table_faults.proofs.checks.check_limits.Goals as goal

pub returns-in-None-clause-ok : goal.returns-in-None-clause-ok
returns-in-None-clause-ok c = λ env texts. c.in_ok-what.ensures.none env texts c.in-None.is
