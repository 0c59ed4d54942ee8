use Rattle.std.proofs.Common.{[], ◌∙◌, ap, map, sym, append-nil}
use Rattle.std.specs.Borrow.{Bor}
use Rattle.lido_syntax.specs.declared.spec.Expr.{Expr}
use Rattle.lido_syntax.specs.Parts.{leaves_of}
use Rattle.lido_symbols.proofs.CollectedLemmas.{collected_seen}
use Rattle.flat_symbols.specs.Constituents.{numbers_in}
use Rattle.flat_symbols.proofs.constituents.push_comp.Goals as goal

pub returns : goal.returns
returns c =
    collected_seen numbers_in c.deref-leaf-items.result.now
    (leaves_of c.args.comp.now) c.loop-leaf.leaf-index c.args.numbers.now.items [] c.args.numbers.now.items c.loop-leaf.numbers.items
    c.loop-leaf-test.false (ap (map (λ (r : Bor Expr). r.now)) c.deref-leaf-items.ensures.value ∙ c.in_ok-found.ensures)
    (sym (append-nil c.args.numbers.now.items)) c.loop-leaf.invariant
