use Rattle.std.specs.Prelude.{flat_map}
use Rattle.std.proofs.Common.{◌∙◌, ap, List}
use Rattle.lido_syntax.specs.declared.spec.RuleItem.{RuleItem}
use Rattle.lido_syntax.specs.declared.spec.SymbolItem.{SymbolItem}
use Rattle.numbered_computations.specs.declared.table.Holder.TheVariants as holder
use Rattle.numbered_computations.specs.Held.{held_at, held_by, last_of}
use Rattle.numbered_computations.proofs.HeldLemmas.{are-computations, both-held}
use Rattle.numbered_computations.proofs.table.Computations.of.Goals as goal

pub returns : goal.returns
returns c =
    are-computations c.args.spec.now c.requires c.note_items.new.self (λ n.
    both-held c.args.spec.now n (held_at c.new-computations.result n) (held_at c.note_rules.new.self n) (held_at c.note_items.new.self n) (c.new-computations.ensures n)
    (c.in_ok-note_rules.ensures n ∙ ap (λ (rules : List RuleItem). last_of n (held_at c.new-computations.result n) (flat_map (λ (r : RuleItem). held_by holder.Rule r.body) rules)) c.as_slice.ensures)
    (c.in_ok-note_items.ensures n ∙ ap (λ (items : List SymbolItem). last_of n (held_at c.note_rules.new.self n) (flat_map (λ (item : SymbolItem). held_by holder.Symbol item.body) items)) c.as_slice-2.ensures))
