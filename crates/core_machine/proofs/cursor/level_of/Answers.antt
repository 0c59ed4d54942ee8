use Rattle.std.proofs.Common.{◌≡◌, ◌∙◌, sym, subst, arith, Some, None, false}
use Rattle.lido_base.specs.Tree.{parent_of, contains}
use Rattle.core_machine.proofs.CursorReads.{level-read, level-root, level-child, level-few, none-holds}
use Rattle.core_machine.proofs.cursor.level_of.Goals as goal

pub bounds-before-parent : goal.bounds-before-parent
bounds-before-parent c =
    (level-read c.args.job.now c.facts.ensures c.args.node c.in-Some.parent.0 c.args.before.now c.requires.before
    (subst (λ t. parent_of t c.args.node ≡ Some c.in-Some.parent.0) c.trees.ensures.flat (sym c.in-Some.ensures.parent))).0

pub overflow_add-result : goal.overflow_add-result
overflow_add-result c =
    let e = (level-read c.args.job.now c.facts.ensures c.args.node c.in-Some.parent.0 c.args.before.now c.requires.before
    (subst (λ t. parent_of t c.args.node ≡ Some c.in-Some.parent.0) c.trees.ensures.flat (sym c.in-Some.ensures.parent))).1 in
    let f = level-few c.args.job.now c.facts.ensures c.in-Some.parent.0 in
    omega (arith, e, f, c.in-Some.ensures.before, c.requires.few)

pub returns-in-None-clause-level : goal.returns-in-None-clause-level
returns-in-None-clause-level c = sym (level-root c.args.job.now c.facts.ensures c.args.node (subst (λ t. parent_of t c.args.node ≡ None) c.trees.ensures.flat (sym c.in-None.ensures.parent)))

pub returns-in-Some-clause-level : goal.returns-in-Some-clause-level
returns-in-Some-clause-level c =
    let up = subst (λ t. parent_of t c.args.node ≡ Some c.in-Some.parent.0) c.trees.ensures.flat (sym c.in-Some.ensures.parent) in
    let e = (level-read c.args.job.now c.facts.ensures c.args.node c.in-Some.parent.0 c.args.before.now c.requires.before up).1 in
    let not : contains c.args.node c.args.job.now.nodes ≡ false = none-holds c.begun_at.result _ _ c.begun_at.ensures (sym c.is_some.ensures ∙ c.if-is_some.false) in
    let f = level-child c.args.job.now c.facts.ensures c.args.node c.in-Some.parent.0 up not in
    omega (arith, e, f)

pub returns-in-Some-clause-small : goal.returns-in-Some-clause-small
returns-in-Some-clause-small c =
    let e = (level-read c.args.job.now c.facts.ensures c.args.node c.in-Some.parent.0 c.args.before.now c.requires.before
    (subst (λ t. parent_of t c.args.node ≡ Some c.in-Some.parent.0) c.trees.ensures.flat (sym c.in-Some.ensures.parent))).1 in
    let f = level-few c.args.job.now c.facts.ensures c.in-Some.parent.0 in
    omega (arith, e, f, c.in-Some.ensures.before)
