use Rattle.std.proofs.Common.{◌≡◌, ◌+◌, ◌-◌, length, arith}
use Rattle.flat_terms.proofs.TermLemmas.{joined-last, joined-before}
use Rattle.flat_terms.proofs.terms.joined.Goals as goal

pub loop-k-init : goal.loop-k-init
loop-k-init c = record {
  within = grind (arith, c.is_empty.ensures, c.if-is_empty.false);
  value = λ scene is known fits e h w.
      let pieces = c.args.pieces.now in
      let last : length pieces - 1 + 1 ≡ length pieces = grind (arith, c.is_empty.ensures, c.if-is_empty.false) in
      c.in_ok-made.ensures scene is known fits e (joined-last scene c.args.tables.now c.args.number pieces (length pieces - 1) _ e last h) w;
}

pub loop-k-preserved : goal.loop-k-preserved
loop-k-preserved c = record {
  within = omega (arith, c.loop-k.invariant.within);
  value = λ scene is known fits.
      joined-before scene c.args.tables.now c.args.with c.args.number c.args.pieces.now c.loop-k.k _ c.in_ok-one.one c.loop-k.made c.in_ok-made-2.made c.loop-k-test.true c.loop-k.invariant.within
      (c.in_ok-one.ensures scene is known fits) (c.loop-k.invariant.value scene is known fits) (c.in_ok-made-2.ensures scene is known fits);
}
