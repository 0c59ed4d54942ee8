use Rattle.std.proofs.Common.{arith}
use Rattle.partitions.specs.declared.search.Mark.TheVariants.{Closed}
use Rattle.partitions.proofs.SearchLemmas.{close-all, close-nearer, later-set, step-below}
use Rattle.partitions.proofs.search.close.Goals as goal

pub index_mut-requires : goal.index_mut-requires
index_mut-requires c = omega (
  arith,
  step-below c.args.preds.now c.args.search.now.marks.items c.args.search.now.tried.items c.args.search.now.path.items c.args.search.now.count c.requires.search c.args.v c.requires.last c.requires.some,
  c.requires.search.marks_count,
  c.args.search.now.marks.ok.0,
)

pub returns-clause-search : goal.returns-clause-search
returns-clause-search c = close-all c.args.preds.now c.args.search.now.marks.items c.args.search.now.tried.items c.args.search.now.path.items c.args.search.now.count c.requires.search c.args.v c.requires.last c.requires.some
    c.pop.new.self.items c.pop.result c.pop.ensures.items (λ h. c.pop.ensures.variant.1 (omega (arith, c.args.search.now.path.ok.0))) c.requires.closed

pub returns-clause-later : goal.returns-clause-later
returns-clause-later c = later-set c.args.search.now.marks.items c.args.v (Closed c.args.search.now.count) (λ e. cc)

pub returns-clause-nearer : goal.returns-clause-nearer
returns-clause-nearer c = close-nearer c.args.preds.now c.args.search.now.marks.items c.args.search.now.tried.items c.args.search.now.path.items c.args.search.now.count c.requires.search c.args.v c.requires.last c.requires.some
