use Rattle.std.proofs.Common.{◌∙◌, ap, map}
use Rattle.std.specs.Borrow.{Bor}
use Rattle.lido_syntax.specs.declared.spec.Expr.{Expr}
use Rattle.lido_syntax.specs.Parts.{leaves_of}
use Rattle.lido_symbols.proofs.CollectedLemmas.{collected_seen}
use Rattle.clash_pairs.specs.Facts.{kinds_in_leaf, kinds_in_target}
use Rattle.clash_pairs.proofs.items.push_comp.Goals as goal

pub returns : goal.returns
returns c =
    let own = c.args.own.now in
    collected_seen (kinds_in_leaf c.args.numbers.now c.args.chains.now own) c.deref-leaf-items.result.now (leaves_of c.args.comp.now) c.loop-leaf.leaf-index c.args.facts.now.items
    (kinds_in_target c.args.numbers.now c.args.chains.now own c.args.comp.now.target) c.push_target.new.facts.items c.loop-leaf.facts.items
    c.loop-leaf-test.false (ap (map (λ (r : Bor Expr). r.now)) c.deref-leaf-items.ensures.value ∙ c.in_ok-parts.ensures)
    c.in_ok-push_target.ensures c.loop-leaf.invariant
