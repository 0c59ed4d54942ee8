use Rattle.std.proofs.Common.{◌≡◌, ℕ, List, [], ◌∷◌, ◌++◌, Option, Some, None, subst, sym, ◌∙◌, arith, rules, ap}
use Rattle.std.proofs.lemmas.Grind.{common_steps}
use Rattle.sum_trees.specs.declared.form.TreeNode.{TreeNode}
use Rattle.sum_trees.specs.declared.form.Child.{Child}
use Rattle.sum_trees.specs.Bytes.{behind, is_white}
use Rattle.sum_trees.specs.Fronts.{BeginsFront}
use Rattle.sum_trees.specs.Steps.{IsReading}
use Rattle.sum_trees.proofs.Ends.{top_node, no_start, reading_starts, started_back, reading_goes_on, reading_ends}
use Rattle.sum_trees.proofs.Order.{tree_preorder, tree_ruled}
use Rattle.sum_trees.proofs.tree.tree_of.Goals as goal

pub returns-in_default-clause-outside : goal.returns-in_default-clause-outside
returns-in_default-clause-outside c =
    λ is nodes tree. no_start c.args.rules.now c.args.text.now nodes c.requires.some c.in_default.ensures.none tree

pub returns-then-rule-ne0-clause-outside : goal.returns-then-rule-ne0-clause-outside
returns-then-rule-ne0-clause-outside c =
    let front = c.in-Some.ensures.some in
    λ is nodes tree. c.if-rule-ne0.true (started_back c.args.rules.now c.args.text.now c.in-Some.rest.now c.in-Some.rule nodes front c.requires.some tree).0

pub loop-current-init : goal.loop-current-init
loop-current-init c =
    let front = c.in-Some.ensures.some in
    let zero_is : c.in-Some.rule ≡ 0 = search rules in
    let nodes_are : c.push.new.self ≡ top_node ∷ [] = c.in_ok-push.ensures.ok ∙ ap (λ (l : List TreeNode). l ++ (record { rule = 0; parent = None; place = 0; children = c.new.result } ∷ [])) c.new-nodes.ensures ∙ ap (λ (l : List Child). record { rule = 0; parent = None; place = 0; children = l } ∷ []) c.new.ensures in
    subst (λ (l : List TreeNode). IsReading c.args.rules.now c.args.text.now l (Some 0) c.in-Some.rest.now) (sym nodes_are)
    (reading_starts c.args.rules.now c.args.text.now c.in-Some.rest.now c.requires.some
    (subst (λ (k : ℕ). BeginsFront c.args.rules.now c.args.text.now k c.in-Some.rest.now) zero_is front))

pub loop-current-preserved : goal.loop-current-preserved
loop-current-preserved c =
    let open_at : c.loop-current.current ≡ Some c.in-Some-current.at = c.in-Some-current.is in
    reading_goes_on c.args.rules.now c.args.text.now c.loop-current.nodes c.step.new.nodes c.in-Some-current.at c.in-Ok.next c.loop-current.rest.now c.in-Ok.behind.now
    (subst (λ (o : Option ℕ). IsReading c.args.rules.now c.args.text.now c.loop-current.nodes o c.loop-current.rest.now) open_at c.loop-current.invariant)
    (c.in-Ok.ensures.bound c.loop-current.invariant.few)
    c.in-Ok.ensures.leads

pub returns-clause-tree : goal.returns-clause-tree
returns-clause-tree c =
    let closed : c.loop-current.current ≡ None = c.in_default-current.is in
    let white : behind is_white c.loop-current.rest.now ≡ [] = grind (arith, common_steps) in
    (reading_ends c.args.rules.now c.args.text.now c.loop-current.nodes c.loop-current.rest.now
    (subst (λ (o : Option ℕ). IsReading c.args.rules.now c.args.text.now c.loop-current.nodes o c.loop-current.rest.now) closed c.loop-current.invariant) white).0

pub returns-clause-only : goal.returns-clause-only
returns-clause-only c =
    let closed : c.loop-current.current ≡ None = c.in_default-current.is in
    let white : behind is_white c.loop-current.rest.now ≡ [] = grind (arith, common_steps) in
    (reading_ends c.args.rules.now c.args.text.now c.loop-current.nodes c.loop-current.rest.now
    (subst (λ (o : Option ℕ). IsReading c.args.rules.now c.args.text.now c.loop-current.nodes o c.loop-current.rest.now) closed c.loop-current.invariant) white).1

pub returns-clause-preorder : goal.returns-clause-preorder
returns-clause-preorder c = tree_preorder c.args.rules.now c.args.text.now c.loop-current.nodes (returns-clause-tree c)

pub returns-clause-ruled : goal.returns-clause-ruled
returns-clause-ruled c = tree_ruled c.args.rules.now c.args.text.now c.loop-current.nodes c.requires.some (returns-clause-tree c)
