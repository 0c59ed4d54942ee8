use Rattle.std.proofs.Common.{◌∙◌, ap, map}
use Rattle.std.specs.Borrow.{Bor}
use Rattle.lido_syntax.specs.declared.spec.Expr.{Expr}
use Rattle.lido_syntax.specs.Parts.{leaves_of}
use Rattle.lido_symbols.proofs.CollectedLemmas.{collected_seen}
use Rattle.symbol_attributes.specs.Said.{told_by_leaf, told_by_target}
use Rattle.symbol_attributes.proofs.said.push_comp.Goals as goal

pub returns : goal.returns
returns c =
    collected_seen (told_by_leaf c.args.chains.now c.args.own.now) c.deref-leaf-items.result.now (leaves_of c.args.comp.now) c.loop-leaf.leaf-index c.args.list.now.items (told_by_target c.args.chains.now c.args.own.now c.args.comp.now.target) c.push_target.new.list.items c.loop-leaf.list.items
    c.loop-leaf-test.false (ap (map (λ (r : Bor Expr). r.now)) c.deref-leaf-items.ensures.value ∙ c.in_ok-parts.ensures)
    c.in_ok-push_target.ensures c.loop-leaf.invariant
