use Rattle.std.proofs.Common.{◌∙◌, ap}
use Rattle.lido_syntax.specs.declared.spec.Comp.{Comp}
use Rattle.lido_syntax.specs.declared.spec.RuleItem.{RuleItem}
use Rattle.std.proofs.Common.{List}
use Rattle.numbered_computations.specs.declared.table.Holder.TheVariants as holder
use Rattle.numbered_computations.specs.Held.{held_at, held_by, last_of}
use Rattle.numbered_computations.proofs.HeldLemmas.{flat-more}
use Rattle.numbered_computations.proofs.table.Computations.note_rules.Goals as goal

pub loop-rule-preserved : goal.loop-rule-preserved
loop-rule-preserved c = λ n.
    flat-more (λ (r : RuleItem). held_by holder.Rule r.body) n c.args.rules.now c.loop-rule.rule-index c.rule-item.result (held_at c.args.self.now n) (held_at c.loop-rule.self n) (held_at c.note_body.new.self n)
    c.loop-rule-test.true c.rule-item.is (c.loop-rule.invariant n)
    (c.in_ok-note_body.ensures n ∙ ap (λ (body : List Comp). last_of n (held_at c.loop-rule.self n) (held_by holder.Rule body)) c.as_slice.ensures)
