use Rattle.std.proofs.Common.{arith, refl, sym, subst}
use Rattle.region_engine.specs.declared.region.Region.{Region}
use Rattle.region_engine.specs.declared.marks.Mark.TheVariants.{Missing, Delivered}
use Rattle.std.proofs.Common.{◌≡◌}
use Rattle.region_engine.specs.Regions.{IsRegionOf}
use Rattle.region_engine.proofs.Openings.{opened}
use Rattle.region_engine.proofs.region.Region.new.Goals as goal

pub returns-clause-opening : goal.returns-clause-opening
returns-clause-opening c =
    let j = c.args.job.now in
    let g : Region = record { cursor = c.in_ok-cursor.cursor; count = c.in_ok-count.count; position = 0; values = c.in_ok-values.values; bench = c.in_ok-bench.bench; puts = c.in_ok-puts.puts; desk = c.args.desk; numbered = c.args.numbered; since = 0; notebook = c.in_ok-notebook.notebook } in
    record {
      region = subst (λ r. IsRegionOf j r g) (sym c.in_ok-values.ensures.region)
          (opened j c.args.number c.facts.ensures g c.requires.region c.in_ok-cursor.ensures.cursor c.in_ok-cursor.ensures.whole c.in_ok-count.ensures.items refl refl c.in_ok-values.ensures.region c.in_ok-values.ensures.sized c.in_ok-values.ensures.empty c.in_ok-bench.ensures
          c.in_ok-puts.ensures.items (let a = c.in_ok-count.ensures.puts in let b = c.in_ok-puts.ensures.capacity in omega (arith, a, b)) c.requires.desk c.requires.nothing_stored c.in_ok-notebook.ensures);
      number = c.in_ok-values.ensures.region;
      position = refl;
      since = refl;
      nothing = λ key h. let z : Delivered ≡ Missing = c.in_ok-values.ensures.empty key Delivered h in absurd (cc);
    }
