use Rattle.std.proofs.Common.{◌≡◌, rules, sym, subst}
use Rattle.boundary_table.specs.Desk.{Held}
use Rattle.region_engine.specs.Regions.{IsRegionOf}
use Rattle.region_engine.proofs.Moves.{new-desk}
use Rattle.region_engine.proofs.region.Region.change_desk.Goals as goal

pub returns-clause-region : goal.returns-clause-region
returns-clause-region c =
    let g = c.args.self.now in
    let e : c.replace.new.dest ≡ c.args.desk = search rules in
    let P : Held → Type 0 = λ d. IsRegionOf c.args.job.now g.values.region (record g { desk = d; numbered = c.args.numbered; since = g.position }) in
    subst P (sym e) (new-desk c.args.job.now g.values.region g c.args.desk c.args.numbered c.requires.region c.requires.desk c.requires.nothing_stored)
