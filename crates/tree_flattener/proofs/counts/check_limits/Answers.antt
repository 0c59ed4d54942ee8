use Rattle.std.proofs.Common.{arith, sym, ap, ◌∙◌, subst, sum_by, length, List, ℕ, ◌≤◌, get_or, inr}
use Rattle.lido_base.specs.declared.value.Value.{Value}
use Rattle.lido_base.specs.Tree.{Node}
use Rattle.flat_grammar.specs.Rules.{attrs_of}
use Rattle.flat_grammar.specs.Fitting.{cells}
use Rattle.flat_grammar.specs.declared.flat.FlatComp.{FlatComp}
use Rattle.flat_grammar.specs.declared.flat.FlatRule.{FlatRule}
use Rattle.tree_flattener.proofs.CountLemmas.{capped_at, within_sum, past_sum}
use Rattle.tree_flattener.proofs.counts.check_limits.Goals as goal

pub total-requires : goal.total-requires
total-requires c = λ k. subst (λ (xs : List ℕ). get_or xs k 0 ≤ 16777217) (sym (c.as_slice.ensures.value ∙ c.in-Ok.ensures)) (capped_at (λ (r : FlatRule). length (attrs_of c.args.flat.now.symbols r.left)) c.args.flat.now.rules 16777217 k)

pub total-requires-2 : goal.total-requires-2
total-requires-2 c = λ k. subst (λ (xs : List ℕ). get_or xs k 0 ≤ 16777217) (sym (c.as_slice-2.ensures.value ∙ c.in-Ok-cells_by_rule.ensures)) (capped_at (λ (r : FlatRule). sum_by (λ (d : FlatComp). cells d.value) r.comps) c.args.flat.now.rules 16777217 k)

pub returns-then-total-gt-MOST_INSTANCES-clause-refused : goal.returns-then-total-gt-MOST_INSTANCES-clause-refused
returns-then-total-gt-MOST_INSTANCES-clause-refused c = let e = (c.total.ensures ∙ ap (λ (xs : List ℕ). sum_by (λ (n : Node Value). get_or xs n.rule 0) c.args.tree.now) (c.as_slice.ensures.value ∙ c.in-Ok.ensures)) in
    inr (past_sum c.args.flat.now.symbols c.args.flat.now.rules (λ (r : FlatRule). length (attrs_of c.args.flat.now.symbols r.left)) 16777217 c.args.tree.now 4194304 (omega (arith, e, c.if-total-gt-MOST_INSTANCES.true)))

pub returns-then-total-gt-MOST_TEXT_CELLS-clause-refused : goal.returns-then-total-gt-MOST_TEXT_CELLS-clause-refused
returns-then-total-gt-MOST_TEXT_CELLS-clause-refused c = let e = (c.total.ensures ∙ ap (λ (xs : List ℕ). sum_by (λ (n : Node Value). get_or xs n.rule 0) c.args.tree.now) (c.as_slice.ensures.value ∙ c.in-Ok.ensures)) in let f = (c.total-2.ensures ∙ ap (λ (xs : List ℕ). sum_by (λ (n : Node Value). get_or xs n.rule 0) c.args.tree.now) (c.as_slice-2.ensures.value ∙ c.in-Ok-cells_by_rule.ensures)) in
    inr (
      within_sum c.args.flat.now.symbols c.args.flat.now.rules (λ (r : FlatRule). length (attrs_of c.args.flat.now.symbols r.left)) 16777217 c.args.tree.now 4194304 (omega arith) (omega (arith, e, c.if-total-gt-MOST_INSTANCES.false)),
      past_sum c.args.flat.now.symbols c.args.flat.now.rules (λ (r : FlatRule). sum_by (λ (d : FlatComp). cells d.value) r.comps) 16777217 c.args.tree.now 16777216 (omega (arith, f, c.if-total-gt-MOST_TEXT_CELLS.true)),
    )

pub returns-clause-within : goal.returns-clause-within
returns-clause-within c = let e = (c.total.ensures ∙ ap (λ (xs : List ℕ). sum_by (λ (n : Node Value). get_or xs n.rule 0) c.args.tree.now) (c.as_slice.ensures.value ∙ c.in-Ok.ensures)) in let f = (c.total-2.ensures ∙ ap (λ (xs : List ℕ). sum_by (λ (n : Node Value). get_or xs n.rule 0) c.args.tree.now) (c.as_slice-2.ensures.value ∙ c.in-Ok-cells_by_rule.ensures)) in (
  within_sum c.args.flat.now.symbols c.args.flat.now.rules (λ (r : FlatRule). length (attrs_of c.args.flat.now.symbols r.left)) 16777217 c.args.tree.now 4194304 (omega arith) (omega (arith, e, c.if-total-gt-MOST_INSTANCES.false)),
  within_sum c.args.flat.now.symbols c.args.flat.now.rules (λ (r : FlatRule). sum_by (λ (d : FlatComp). cells d.value) r.comps) 16777217 c.args.tree.now 16777216 (omega arith) (omega (arith, f, c.if-total-gt-MOST_TEXT_CELLS.false)),
)
