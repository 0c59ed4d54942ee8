use Rattle.std.proofs.Common.{List, ◌++◌, sym, subst}
use Rattle.ptg_patterns.specs.declared.written.Point.{Point}
use Rattle.ptg_patterns.specs.First.{HasNoClash}
use Rattle.ptg_patterns.specs.Clashes.{IsMixed}
use Rattle.ptg_patterns.proofs.FirstLemmas.{none_more}
use Rattle.ptg_patterns.proofs.MeaningLemmas.{points_of}
use Rattle.ptg_patterns.proofs.patterns.part.Goals as goal

pub returns-in-Ok-clause-agrees : goal.returns-in-Ok-clause-agrees
returns-in-Ok-clause-agrees c = λ before keeps none.
    subst (λ (l : List Point). HasNoClash IsMixed (before ++ l)) (sym (points_of c.args.item c.in-Point.point c.in-Point.is))
    (none_more IsMixed before c.in-Point.point none (c.in-Ok.ensures.kept before keeps).1)
