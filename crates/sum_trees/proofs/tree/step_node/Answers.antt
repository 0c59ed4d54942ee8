use Rattle.std.proofs.Common.{◌≡◌, ℕ, ◌+◌, length, ap, sym, ◌∙◌, arith, subst, Some, List, [], ◌∷◌, ◌++◌, refl, get_or}
use Rattle.sum_trees.specs.declared.form.SumRule.{SumRule}
use Rattle.sum_trees.specs.declared.form.TreeNode.{TreeNode}
use Rattle.sum_trees.specs.declared.form.Child.TheVariants as children
use Rattle.sum_trees.specs.Trees.{rule_at, node_at}
use Rattle.sum_trees.specs.Steps.{Leads}
use Rattle.sum_trees.proofs.Paths.{node_leads, no_node, rule_read, node_read}
use Rattle.sum_trees.proofs.tree.step_node.Goals as goal
use Rattle.sum_trees.proofs.tree.step_node.Goals.{then-rules-rule-via-then-rules-rule, then-rules-rule-via-else-rules-rule+then-len-ge-MOST_NODES}

pub returns-in_default-clause-outside : goal.returns-in_default-clause-outside
returns-in_default-clause-outside c = λ is frames final few path reaches.
    no_node c.args.rules.now frames c.args.nodes.now c.args.rest.now c.args.at c.args.left final c.requires.asks
    (λ r ms less left there text. c.in_default.ensures.none r ms less text) path reaches

pub returns-then-rules-rule-clause-outside : goal.returns-then-rules-rule-clause-outside
returns-then-rules-rule-clause-outside c = λ is frames final few path reaches.
    no_node c.args.rules.now frames c.args.nodes.now c.args.rest.now c.args.at c.args.left final c.requires.asks
    (λ r ms less left there text.
    let front = c.in-Some.ensures.some in
    let read = rule_read c.args.rules.now c.in-Some.rule c.index-rules-rule.result front.there c.index-rules-rule.is in
    let same = front.back r ms less text in
    elim c.then-rules-rule.branch [
      | then-rules-rule-via-then-rules-rule w ↦ w.if-rules-rule.true (ap (λ (a : SumRule). a.left) (sym c.index-rules-rule.is) ∙ sym (ap (λ (a : SumRule). a.left) read) ∙ ap (λ (k : ℕ). (rule_at c.args.rules.now k).left) (sym same.0) ∙ left)
      | then-rules-rule-via-else-rules-rule+then-len-ge-MOST_NODES w ↦ omega (arith, w.len.ensures)
    ])
    path reaches

pub returns-clause-leads : goal.returns-clause-leads
returns-clause-leads c = λ frames path.
    let front = c.in-Some.ensures.some in
    let read = rule_read c.args.rules.now c.in-Some.rule c.index-rules-rule.result front.there c.index-rules-rule.is in
    let same : (rule_at c.args.rules.now c.in-Some.rule).left ≡ c.args.left = ap (λ (a : SumRule). a.left) read ∙ ap (λ (a : SumRule). a.left) c.index-rules-rule.is ∙ c.if-rules-rule.false in
    let here = node_read c.args.nodes.now c.args.at c.index-as_slice-at.result c.requires.there (c.index-as_slice-at.is ∙ ap (λ (l : List TreeNode). get_or l c.args.at c.index-as_slice-at.result) c.as_slice.ensures) in
    let place : c.len-2.result + 1 ≡ length (node_at c.args.nodes.now c.args.at).children + 1 = omega (arith, c.len-2.ensures, ap (λ (a : TreeNode). length a.children) here, ap (λ (a : TreeNode). length a.children) c.index-as_slice-at.is) in
    let count : c.len-number.result ≡ length c.args.nodes.now = c.len-number.ensures in
    subst (λ (l : List TreeNode). Leads c.args.rules.now frames c.args.nodes.now c.args.rest.now l (Some c.len-number.result) c.in-Some.behind.now)
    (sym c.in_ok-push.ensures.ok)
    (subst (λ (n : ℕ). Leads c.args.rules.now frames c.args.nodes.now c.args.rest.now (c.push_child.new.nodes ++ (record { rule = c.in-Some.rule; parent = Some c.args.at; place = c.len-2.result + 1; children = c.new.result } ∷ [])) (Some n) c.in-Some.behind.now)
    (sym count)
    (node_leads c.args.rules.now frames c.args.nodes.now c.args.rest.now c.push_child.new.nodes _ c.args.at c.args.left c.in-Some.rule c.in-Some.behind.now
    c.requires.asks front same
    (record { there = c.requires.there; same_len = c.push_child.ensures.same_len; node = c.in_ok-push_child.ensures.ok ∙ ap (λ (n : ℕ). record (node_at c.args.nodes.now c.args.at) { children = (node_at c.args.nodes.now c.args.at).children ++ (children.Node n ∷ []) }) count; others = c.push_child.ensures.others })
    refl refl place c.new.ensures path))
