use Rattle.partitions.specs.declared.search.Mark.TheVariants.{Fresh, Entered}
use Rattle.partitions.proofs.SearchLemmas.{search-enter, weight-enter, later-set, set-same}
use Rattle.partitions.proofs.search.enter.Goals as goal

pub returns-clause-search : goal.returns-clause-search
returns-clause-search c = search-enter c.args.preds.now c.args.search.now.marks.items c.args.search.now.tried.items c.args.search.now.path.items c.args.search.now.count c.requires.search c.args.v c.requires.fresh
    c.push.new.self.items c.in_ok-push.ensures.items c.requires.edge

pub returns-clause-later : goal.returns-clause-later
returns-clause-later c = later-set c.args.search.now.marks.items c.args.v Entered (λ e. cc)

pub returns-clause-entered : goal.returns-clause-entered
returns-clause-entered c = set-same c.args.search.now.marks.items c.args.v Entered Fresh c.requires.fresh

pub returns-clause-nearer : goal.returns-clause-nearer
returns-clause-nearer c = weight-enter c.args.preds.now c.args.search.now.marks.items c.args.search.now.tried.items c.args.search.now.path.items c.args.search.now.count c.requires.search c.args.v c.requires.fresh
