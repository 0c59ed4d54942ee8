use Rattle.induced_deps.proofs.ClosureLemmas.{joined_transitive, joined_gains}
use Rattle.induced_deps.proofs.closure.Closure.add_closed.Goals as goal

pub returns-clause-transitive : goal.returns-clause-transitive
returns-clause-transitive c = let a = c.with_behind-all.ensures in joined_transitive c.args.self.now.rows.items c.join_before.new.self.rows.items c.args.from c.args.set.now.words c.with_behind-all.result.words c.requires.transitive a.own a.closed a.only c.join_before.ensures.edges

pub returns-clause-edges : goal.returns-clause-edges
returns-clause-edges c = let a = c.with_behind-all.ensures in joined_gains c.args.self.now.rows.items c.join_before.new.self.rows.items c.args.from c.args.set.now.words c.with_behind-all.result.words c.requires.transitive a.own a.closed a.only c.join_before.ensures.edges
