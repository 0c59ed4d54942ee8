use Rattle.std.proofs.Common.{refl, sym}
use Rattle.large_grammars.specs.Sizes.{IsSymbol}
use Rattle.large_grammars.proofs.Places.{count-push, each-push}
use Rattle.large_grammars.proofs.grammars.symbols.Goals as goal

pub loop-k-preserved : goal.loop-k-preserved
loop-k-preserved c = record {
  all = count-push c.loop-k.list c.push.new.self _ c.loop-k.k c.loop-k.invariant.all c.in_ok-push.ensures.ok;
  each = each-push (IsSymbol c.args.size) c.loop-k.list c.push.new.self _ c.loop-k.invariant.each c.in_ok-push.ensures.ok (record { name = sym c.loop-k.invariant.all; terminal = refl; attributes = c.in_ok-attrs.ensures });
}
