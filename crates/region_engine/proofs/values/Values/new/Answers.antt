use Rattle.std.proofs.Common.{rules, ◌∙◌, arith, ap, length}
use Rattle.core_machine.proofs.ContentsLemmas.{contents-length}
use Rattle.region_engine.specs.declared.marks.Mark.TheVariants.{Missing}
use Rattle.region_engine.proofs.Offsets.{own-read}
use Rattle.region_engine.proofs.Sets.{all-same, number-read}
use Rattle.region_engine.specs.Kept.{own_offset}
use Rattle.region_engine.proofs.values.Values.new.Goals as goal

pub index-requires : goal.index-requires
index-requires c =
    let n = c.len.ensures.count ∙ ap length c.trees.ensures.flat in
    let a = (own-read c.args.job.now c.args.region c.in_ok-begins.begins.items c.in_ok-begins.ensures c.len.result (omega (arith, n))).0 in
    omega (arith, a, c.in_ok-begins.begins.ok.0)

pub returns-clause-sized : goal.returns-clause-sized
returns-clause-sized c =
    let n = c.len.ensures.count ∙ ap length c.trees.ensures.flat in
    let a = (own-read c.args.job.now c.args.region c.in_ok-begins.begins.items c.in_ok-begins.ensures c.len.result (omega (arith, n))).1 in
    let k = contents-length c.args.job.now in
    let inside = (own-read c.args.job.now c.args.region c.in_ok-begins.begins.items c.in_ok-begins.ensures c.len.result (omega (arith, n))).0 in
    let i = c.index.ensures in
    record {
      begins = c.in_ok-begins.ensures;
      many = let b = number-read c.in_ok-begins.begins.items c.len.result c.index.result.now inside i in
          let e = ap (own_offset c.args.job.now c.args.region) n in
          omega (arith, a, b, e, c.in_ok-own.ensures.len, c.in_ok-own.own.ok.0);
      keys = omega (arith, k, c.keys-keys.ensures.count, c.in_ok-shared.ensures.len, c.in_ok-shared.shared.ok.0);
      marks = omega (arith, k, c.keys-keys.ensures.count, c.in_ok-marks.ensures.len, c.in_ok-marks.marks.ok.0);
    }

pub returns-clause-empty : goal.returns-clause-empty
returns-clause-empty c = λ key m e.
    all-same c.in_ok-marks.marks.items c.keys-keys.result Missing (c.in_ok-marks.ensures.items_if_clones_equal (λ y given. first_of (search rules, grind arith, cc))) key m e
