use Rattle.std.proofs.Common.{sym, refl, length, subst}
use Rattle.std.specs.Prelude.{Contains, flat_map}
use Rattle.std.proofs.lemmas.List.Elements.{Contains-append_right}
use Rattle.std.proofs.lemmas.Option.{slice_get_read}
use Rattle.std.proofs.lemmas.Result.{IfOk-from_err, MatchResult-from_err}
use Rattle.lido_base.proofs.Lists.{flat-contains}
use Rattle.flat_grammar.specs.Expressions.{own_reads}
use Rattle.flat_grammar.specs.Rules.{reads}
use Rattle.region_engine.proofs.Chains.{all-reads, missed-among}
use Rattle.region_engine.proofs.Looks.{look-both, missed-behind}
use Rattle.region_engine.proofs.inputs.+look_reads.Goals as goal

pub returns-in_err-look_reads : goal.returns-in_err-look_reads
returns-in_err-look_reads t c =
    let i = c.loop-argument.invariant in
    let args = c.arguments-argument-items.result.now in
    record {
      look = look-both c.args.job.now c.args.shared.now c.loop-argument.shared c.look_reads.new.shared c.args.desk.now c.loop-argument.desk c.look_reads.new.desk i.look c.look_reads.ensures.look;
      at_hand = IfOk-from_err c.from_residual.result _ c.from_residual.ensures.0;
      missed = MatchResult-from_err c.from_residual.result _ _ c.from_residual.ensures.0 (λ y.
          missed-among c.args.job.now c.args.node c.args.marks.now c.args.desk.now c.look_reads.new.desk (reads c.argument-item.result) (reads c.args.value.now)
          (λ o m. subst (λ l. Contains l o) (sym c.arguments-argument-items.ensures.reads)
          (Contains-append_right (own_reads c.args.value.now) (flat_map reads args) o
          (flat-contains reads args c.argument-item.result o (c.loop-argument.argument-index, c.loop-argument-test.true, sym c.argument-item.is) m)))
          (missed-behind c.args.job.now c.args.node c.args.marks.now c.args.desk.now c.loop-argument.desk c.look_reads.new.desk (reads c.argument-item.result) i.look.goes_on c.in_err-look_reads.ensures.missed));
    }

pub loop-argument-preserved : goal.loop-argument-preserved
loop-argument-preserved t c =
    let i = c.loop-argument.invariant in
    let args = c.arguments-argument-items.result.now in
    record {
      look = look-both c.args.job.now c.args.shared.now c.loop-argument.shared c.look_reads.new.shared c.args.desk.now c.loop-argument.desk c.look_reads.new.desk i.look c.look_reads.ensures.look;
      hand = all-reads c.args.job.now c.args.node c.args.marks.now c.loop-argument.shared c.look_reads.new.shared c.loop-argument.desk c.look_reads.new.desk args c.loop-argument.argument-index c.argument-item.result
          i.hand c.look_reads.ensures.look (slice_get_read args (length args) c.loop-argument.argument-index c.argument-item.result refl c.loop-argument-test.true c.argument-item.is) c.in_ok-look_reads.ensures.at_hand;
    }
