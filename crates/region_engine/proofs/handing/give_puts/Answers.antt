use Rattle.std.proofs.Common.{◌≡◌, ◌∙◌, arith, ap, sym, subst, refl, length, get_or}
use Rattle.std.proofs.lemmas.Option.{slice_get_read, slice_get-get_or}
use Rattle.flat_grammar.proofs.Lists.{held}
use Rattle.region_engine.specs.declared.region.Region.{Region}
use Rattle.region_engine.specs.Deliveries.{AreGiven}
use Rattle.region_engine.proofs.Giving.{are-none, puts-more, take-past}
use Rattle.region_engine.proofs.handing.give_puts.Goals as goal

pub loop-place-init : goal.loop-place-init
loop-place-init c = record { regions = c.requires.regions; given = λ g e. are-none c.args.regions.now }

pub loop-place-preserved : goal.loop-place-preserved
loop-place-preserved c =
    let item = c.index-regions-giver-in-loop-place.result in
    let there = slice_get-get_or c.loop-place.regions c.args.giver item (omega (arith, c.loop-place.auto.regions, c.requires.giver)) in
    record {
      regions = c.give_each.ensures.regions;
      given = λ g e. puts-more c.args.regions.now c.loop-place.regions c.give_each.new.regions c.args.giver c.loop-place.place c.put_at-key.result.0 g (get_or c.loop-place.regions c.args.giver item)
          (c.loop-place.invariant.given g e) e there c.put_at-key.ensures.key c.give_each.ensures.given;
    }

pub returns-clause-given : goal.returns-clause-given
returns-clause-given c = λ g e.
    let item = c.index-regions-giver.result in
    let there = slice_get_read c.args.regions.now (length c.args.regions.now) c.args.giver item refl c.requires.giver c.index-regions-giver.is in
    let same : item ≡ g = held (sym there ∙ e) in
    let n = ap (λ (z : Region). length z.puts.items) same in
    subst (λ l. AreGiven l c.args.regions.now c.loop-place.regions) (take-past g.puts.items c.loop-place.place (let a = ap (λ (z : Region). length z.puts.items) c.index-regions-giver.is in let b = c.puts-place-end.ensures in omega (arith, n, a, b, c.loop-place-test.false))) (c.loop-place.invariant.given g e)
