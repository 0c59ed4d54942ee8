use Rattle.std.proofs.Common.{sym, subst}
use Rattle.flat_grammar.proofs.ListedLemmas.{AreListed, listed-none, listed-push, listed-less, listed-all, left-one}
use Rattle.flat_grammar.proofs.bits.Bits.attrs.Goals as goal

pub loop-attr-init : goal.loop-attr-init
loop-attr-init c = subst (AreListed c.args.self c.args.self) (sym c.new-list.ensures.items) (listed-none c.args.self)

pub loop-attr-preserved : goal.loop-attr-preserved
loop-attr-preserved c =
    let e = c.in-Some.ensures in
    listed-push c.args.self c.loop-attr.rest c.without-rest.result c.loop-attr.list.items c.in-Some.attr c.loop-attr.invariant e.1 e.2
    (left-one c.loop-attr.rest c.empty.result c.with.result c.without-rest.result c.in-Some.attr.0 c.empty.ensures c.with.ensures c.without-rest.ensures) c.push.new.self.items c.in_ok-push.ensures.items

pub loop-attr-smaller : goal.loop-attr-smaller
loop-attr-smaller c =
    let e = c.in-Some.ensures in
    listed-less c.args.self c.loop-attr.rest c.without-rest.result c.loop-attr.list.items c.in-Some.attr c.loop-attr.invariant e.1 e.2
    (left-one c.loop-attr.rest c.empty.result c.with.result c.without-rest.result c.in-Some.attr.0 c.empty.ensures c.with.ensures c.without-rest.ensures)

pub returns-clause-same : goal.returns-clause-same
returns-clause-same c = listed-all c.args.self c.loop-attr.rest c.loop-attr.list.items c.loop-attr.invariant c.in_default.ensures
