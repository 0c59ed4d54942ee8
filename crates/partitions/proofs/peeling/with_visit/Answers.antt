use Rattle.std.proofs.Common.{suc}
use Rattle.std.specs.Prelude.{◌*◌}
use Rattle.partitions.proofs.PeelingLemmas.{levels-step}
use Rattle.partitions.proofs.peeling.with_visit.Goals as goal

pub returns-clause-levels : goal.returns-clause-levels
returns-clause-levels c = λ j old. levels-step c.args.flat.now.symbols c.args.flat.now.rules c.args.x j (record { later = c.args.later; synthesized = c.with_class-synthesized.result; both = c.with_class-both.result }) old
    (λ e. c.with_class-synthesized.ensures.level (2 * j) e old) (λ e s. c.with_class-both.ensures.level (suc (2 * j)) e s)
