use Rattle.std.proofs.Common.{◌<◌, ◌∙◌, List, ap, length, get_or, arith}
use Rattle.flat_grammar.specs.declared.flat.FlatRule.{FlatRule}
use Rattle.flat_grammar.specs.Construction.{IsConstructed}
use Rattle.visit_sequences.proofs.MeasureLemmas.{zip-more}
use Rattle.visit_sequences.proofs.plan.all_sequences.Goals as goal

pub loop-rule-preserved : goal.loop-rule-preserved
loop-rule-preserved c =
    let flat = c.args.flat.now in
    let i = c.loop-rule.rule-index in
    let rule = c.rule-item.result in
    let inside : i < length flat.rules = let l = ap (λ (l : List FlatRule). length l) c.as_slice-rule-items.ensures in omega arith in
    zip-more (IsConstructed flat.symbols flat.rules c.args.parts.now.visits) flat.rules i rule c.loop-rule.seqs.items c.push.new.self.items c.in_ok-seq.seq inside
    (c.rule-item.is ∙ ap (λ (l : List FlatRule). get_or l i rule) c.as_slice-rule-items.ensures) c.in_ok-push.ensures.items c.loop-rule.invariant c.in_ok-seq.ensures
