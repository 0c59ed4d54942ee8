use Rattle.least_paths.proofs.PathLemmas.{nearest-new}
use Rattle.least_paths.proofs.path.lesser.Goals as goal

pub returns-then-is_less : goal.returns-then-is_less
returns-then-is_less c = λ vs n. nearest-new c.args.dist.now c.args.d c.args.x c.args.least vs (c.is_at.ensures.0 c.if-is_at.true) (c.is_less.ensures.0 c.if-is_less.true) n
