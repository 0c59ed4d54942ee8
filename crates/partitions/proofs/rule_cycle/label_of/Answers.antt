use Rattle.std.proofs.Common.{◌≡◌, sym, ◌∙◌}
use Rattle.std.specs.Prelude.{true, false}
use Rattle.flat_grammar.specs.Cycles.{direct}
use Rattle.partitions.proofs.StepsLemmas.{label-induced, label-partition}
use Rattle.partitions.proofs.rule_cycle.label_of.Goals as goal

pub returns-then-direct : goal.returns-then-direct
returns-then-direct c = direct (c.requires.direct.0 c.if-direct.true)

pub returns-then-is_induced : goal.returns-then-is_induced
returns-then-is_induced c = label-induced c.args.flat.now.symbols c.args.flat.now.rules c.args.deps.now.ids c.requires.ids c.args.flat.now.well_formed.each_rule c.args.rule.now c.args.from c.args.to
    (λ d. let e : true ≡ false = sym (c.requires.direct.1 d) ∙ c.if-direct.false in absurd (cc))
    (c.is_induced.ensures.0 c.if-is_induced.true) c.requires.edge

pub returns : goal.returns
returns c = label-partition c.args.flat.now.symbols c.args.flat.now.rules c.args.deps.now.ids c.requires.ids c.args.flat.now.well_formed.each_rule c.args.rule.now c.args.from c.args.to
    (λ d. let e : true ≡ false = sym (c.requires.direct.1 d) ∙ c.if-direct.false in absurd (cc))
    (λ h. let e : true ≡ false = sym (c.is_induced.ensures.1 h) ∙ c.if-is_induced.false in absurd (cc)) c.requires.edge
