use Rattle.std.proofs.Common.{get_or}
use Rattle.std.proofs.lemmas.Option.{slice_get-get_or}
use Rattle.flat_grammar.specs.declared.flat.Occ.{Occ}
use Rattle.region_engine.proofs.Chains.{all-more}
use Rattle.region_engine.proofs.Looks.{look-both}
use Rattle.region_engine.proofs.inputs.look_each.Goals as goal

pub loop-o-preserved : goal.loop-o-preserved
loop-o-preserved c =
    let i = c.loop-o.invariant in
    let none : Occ = record { occ = 0; attr = record { 0 = 0 } } in
    record {
      look = look-both c.args.job.now c.args.shared.now c.loop-o.shared c.look.new.shared c.args.desk.now c.loop-o.desk c.look.new.desk i.look c.look.ensures.look;
      hand = all-more c.args.job.now c.args.node c.args.marks.now c.loop-o.shared c.look.new.shared c.loop-o.desk c.look.new.desk c.args.list.now c.loop-o.o-index
          (get_or c.args.list.now c.loop-o.o-index none) i.hand c.look.ensures.look (slice_get-get_or c.args.list.now c.loop-o.o-index none c.loop-o-test.true) c.in_ok-look.ensures.at_hand;
    }
