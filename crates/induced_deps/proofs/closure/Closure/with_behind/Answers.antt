use Rattle.std.proofs.Common.{inl, inr}
use Rattle.induced_deps.proofs.ClosureLemmas.{part_in}
use Rattle.induced_deps.proofs.closure.Closure.with_behind.Goals as goal

pub loop-v-init : goal.loop-v-init
loop-v-init c = record { own = λ w h. h; only = λ w h. inl h; passed = λ w x h edge. absurd (c.new-passed.ensures w h) }

pub pass-requires-clause-closed : goal.pass-requires-clause-closed
pass-requires-clause-closed c = λ yes w x first edge. c.requires c.in-Some.v w x first edge

pub loop-v-preserved : goal.loop-v-preserved
loop-v-preserved c = record {
  own = λ w h. (c.pass.ensures.all w).1 (inl (c.loop-v.invariant.own w h));
  only = λ w h. elim ((c.pass.ensures.all w).0 h) [ inl before ↦ c.loop-v.invariant.only w before | inr edge ↦ inr (c.in-Some.v, c.in-Some.ensures.1, edge) ];
  passed = c.pass.ensures.passed;
}

pub returns-clause-closed : goal.returns-clause-closed
returns-clause-closed c = λ w x h edge. elim (c.loop-v.invariant.only w h) [
  | inl is ↦ c.loop-v.invariant.passed w x (part_in c.args.set.now.words c.loop-v.passed.words w c.in_default.ensures is) edge
  | inr (v, is, first) ↦ c.loop-v.invariant.passed v x (part_in c.args.set.now.words c.loop-v.passed.words v c.in_default.ensures is) (c.requires v w x first edge)
]
