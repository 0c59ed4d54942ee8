use Rattle.std.proofs.Common.{subst, sym}
use Rattle.region_engine.specs.Kept.{IsMarked}
use Rattle.region_engine.proofs.HolderLemmas.{held-marked, held-near, marked-there}
use Rattle.region_engine.proofs.holders.holder_of.Goals as goal

pub first_with-requires : goal.first_with-requires
first_with-requires c =
    let e = c.in-Some.ensures in
    let p = marked-there c.args.job.now c.args.regions.now c.requires.regions c.facts.ensures (c.args.node, c.args.attr) c.requires.instance e.0 in
    (p.0, p.1, p.2, subst (IsMarked p.1.values.marks.items) (sym e.1) p.3)

pub returns-in-Some : goal.returns-in-Some
returns-in-Some c =
    let e = c.in-Some.ensures in let p = c.first_with.ensures in
    held-marked c.args.job.now c.args.regions.now c.requires.regions c.facts.ensures (c.args.node, c.args.attr) c.requires.instance e.0 c.first_with.result
    p.0 p.1
    (subst (IsMarked p.0.values.marks.items) e.1 p.2)

pub returns-in-None : goal.returns-in-None
returns-in-None c =
    held-near c.args.job.now c.args.regions.now c.requires.regions c.facts.ensures (c.args.node, c.args.attr) c.requires.instance c.in-None.ensures
    c.region_at.result c.region_at.ensures.region
