use Rattle.std.proofs.Common.{rules, ◌≡◌, ◌∙◌, ◌+◌, ◌-◌, ap, sym, suc, length, sum_by, take, drop, arith}
use Rattle.expression_values.specs.Evaluate.{evaluate_list}
use Rattle.flat_grammar.specs.Expressions.{weight}
use Rattle.flat_grammar.specs.Fitting.{cells, own_cells}
use Rattle.flat_grammar.proofs.ArgumentsLemmas.{weight-Apply, weight-If, weight-Order}
use Rattle.flat_grammar.proofs.ExpressionsLemmas.{cells-Apply, cells-If, cells-Order}
use Rattle.expression_values.proofs.EvaluateLemmas.{all-length, apply-step, order-step, if-step, cut, weight-some, sum-first, wanted-own, after-space}
use Rattle.expression_values.proofs.expressions.+evaluation.Goals as goal

pub evaluate-push_values-requires : goal.evaluate-push_values-requires
evaluate-push_values-requires g t c κs within =
    let w : weight c.args.expr.now ≡ suc (sum_by weight c.as_slice.result.now) = ap weight c.in-Apply.is ∙ (weight-Apply c.in-Apply.comp c.in-Apply.op c.in-Apply.args ∙ ap (λ l. suc (sum_by weight l)) (sym c.as_slice.ensures)) in
    let k : cells c.args.expr.now ≡ own_cells c.in-Apply.op (length c.as_slice.result.now) + sum_by cells c.as_slice.result.now = ap cells c.in-Apply.is ∙ (cells-Apply c.in-Apply.comp c.in-Apply.op c.in-Apply.args ∙ ap (λ l. own_cells c.in-Apply.op (length l) + sum_by cells l) (sym c.as_slice.ensures)) in
    (omega (arith, w, c.decreases), (search rules, (omega (arith, k, c.requires.cells), omega (arith, w, c.requires.stack))))

pub evaluate-choice-requires : goal.evaluate-choice-requires
evaluate-choice-requires g t c κs within =
    let w : weight c.args.expr.now ≡ suc (sum_by weight c.as_slice-in-If.result.now) = ap weight c.in-If.is ∙ (weight-If c.in-If.args ∙ ap (λ l. suc (sum_by weight l)) (sym c.as_slice-in-If.ensures)) in
    let k : cells c.args.expr.now ≡ sum_by cells c.as_slice-in-If.result.now = ap cells c.in-If.is ∙ (cells-If c.in-If.args ∙ ap (λ l. sum_by cells l) (sym c.as_slice-in-If.ensures)) in
    (omega (arith, w, c.decreases), (search rules, (omega (arith, k, c.requires.cells), omega (arith, w, c.requires.stack))))

pub evaluate-push_values-requires-in-Order : goal.evaluate-push_values-requires-in-Order
evaluate-push_values-requires-in-Order g t c κs within =
    let w : weight c.args.expr.now ≡ suc (sum_by weight c.as_slice-in-Order.result.now) = ap weight c.in-Order.is ∙ (weight-Order c.in-Order.args ∙ ap (λ l. suc (sum_by weight l)) (sym c.as_slice-in-Order.ensures)) in
    let k : cells c.args.expr.now ≡ sum_by cells c.as_slice-in-Order.result.now = ap cells c.in-Order.is ∙ (cells-Order c.in-Order.args ∙ ap (λ l. sum_by cells l) (sym c.as_slice-in-Order.ensures)) in
    (omega (arith, w, c.decreases), (search rules, (omega (arith, k, c.requires.cells), omega (arith, w, c.requires.stack))))

pub evaluate-apply-value-requires : goal.evaluate-apply-value-requires
evaluate-apply-value-requires g t c =
    let w : weight c.args.expr.now ≡ suc (sum_by weight c.as_slice.result.now) = ap weight c.in-Apply.is ∙ (weight-Apply c.in-Apply.comp c.in-Apply.op c.in-Apply.args ∙ ap (λ l. suc (sum_by weight l)) (sym c.as_slice.ensures)) in
    let k : cells c.args.expr.now ≡ own_cells c.in-Apply.op (length c.as_slice.result.now) + sum_by cells c.as_slice.result.now = ap cells c.in-Apply.is ∙ (cells-Apply c.in-Apply.comp c.in-Apply.op c.in-Apply.args ∙ ap (λ l. own_cells c.in-Apply.op (length l) + sum_by cells l) (sym c.as_slice.ensures)) in
    let taken : take (length c.deref.result.now - c.len-base.result) (drop c.len-base.result c.deref.result.now) ≡ (evaluate_list c.args.strings.now c.args.patterns.now.list c.args.room.now.number c.args.node (g.S.Site.leaf c.args.site.now) (g.S.Site.read c.args.site.now) (g.S.Site.coord c.args.site.now) c.as_slice.result.now c.args.room.now.deposits).0
    = cut c.deref.result.now c.args.stack.now.items (evaluate_list c.args.strings.now c.args.patterns.now.list c.args.room.now.number c.args.node (g.S.Site.leaf c.args.site.now) (g.S.Site.read c.args.site.now) (g.S.Site.coord c.args.site.now) c.as_slice.result.now c.args.room.now.deposits).0 c.len-base.result (c.deref.ensures.value ∙ c.push_values.ensures.values) (c.len-base.ensures ∙ c.args.stack.now.ok.0) in
    let n = wanted-own c.in-Apply.op (take (length c.deref.result.now - c.len-base.result) (drop c.len-base.result c.deref.result.now)) ∙ ap (λ l. own_cells c.in-Apply.op (length l)) taken ∙ ap (λ m. own_cells c.in-Apply.op m) (all-length c.args.strings.now c.args.patterns.now.list c.args.room.now.number c.args.node (g.S.Site.leaf c.args.site.now) (g.S.Site.read c.args.site.now) (g.S.Site.coord c.args.site.now) c.as_slice.result.now c.args.room.now.deposits) in
    omega (arith, n, k, c.requires.cells, c.push_values.ensures.space)

pub evaluate-returns-in-Apply-clause-exact : goal.evaluate-returns-in-Apply-clause-exact
evaluate-returns-in-Apply-clause-exact g t c =
    let taken : take (length c.deref.result.now - c.len-base.result) (drop c.len-base.result c.deref.result.now) ≡ (evaluate_list c.args.strings.now c.args.patterns.now.list c.args.room.now.number c.args.node (g.S.Site.leaf c.args.site.now) (g.S.Site.read c.args.site.now) (g.S.Site.coord c.args.site.now) c.as_slice.result.now c.args.room.now.deposits).0
    = cut c.deref.result.now c.args.stack.now.items (evaluate_list c.args.strings.now c.args.patterns.now.list c.args.room.now.number c.args.node (g.S.Site.leaf c.args.site.now) (g.S.Site.read c.args.site.now) (g.S.Site.coord c.args.site.now) c.as_slice.result.now c.args.room.now.deposits).0 c.len-base.result (c.deref.ensures.value ∙ c.push_values.ensures.values) (c.len-base.ensures ∙ c.args.stack.now.ok.0) in
    c.apply-value.ensures.exact ∙ apply-step c.args.strings.now c.args.patterns.now.list c.args.room.now.number c.args.node (g.S.Site.leaf c.args.site.now) (g.S.Site.read c.args.site.now) (g.S.Site.coord c.args.site.now) c.in-Apply.comp c.in-Apply.op c.in-Apply.args c.as_slice.result.now c.args.expr.now c.args.room.now.deposits _ _ _ c.in-Apply.is c.as_slice.ensures taken c.push_values.ensures.deposits c.push_values.ensures.number

pub evaluate-returns-in-Apply-clause-space : goal.evaluate-returns-in-Apply-clause-space
evaluate-returns-in-Apply-clause-space g t c =
    let w : weight c.args.expr.now ≡ suc (sum_by weight c.as_slice.result.now) = ap weight c.in-Apply.is ∙ (weight-Apply c.in-Apply.comp c.in-Apply.op c.in-Apply.args ∙ ap (λ l. suc (sum_by weight l)) (sym c.as_slice.ensures)) in
    let k : cells c.args.expr.now ≡ own_cells c.in-Apply.op (length c.as_slice.result.now) + sum_by cells c.as_slice.result.now = ap cells c.in-Apply.is ∙ (cells-Apply c.in-Apply.comp c.in-Apply.op c.in-Apply.args ∙ ap (λ l. own_cells c.in-Apply.op (length l) + sum_by cells l) (sym c.as_slice.ensures)) in
    let taken : take (length c.deref.result.now - c.len-base.result) (drop c.len-base.result c.deref.result.now) ≡ (evaluate_list c.args.strings.now c.args.patterns.now.list c.args.room.now.number c.args.node (g.S.Site.leaf c.args.site.now) (g.S.Site.read c.args.site.now) (g.S.Site.coord c.args.site.now) c.as_slice.result.now c.args.room.now.deposits).0
    = cut c.deref.result.now c.args.stack.now.items (evaluate_list c.args.strings.now c.args.patterns.now.list c.args.room.now.number c.args.node (g.S.Site.leaf c.args.site.now) (g.S.Site.read c.args.site.now) (g.S.Site.coord c.args.site.now) c.as_slice.result.now c.args.room.now.deposits).0 c.len-base.result (c.deref.ensures.value ∙ c.push_values.ensures.values) (c.len-base.ensures ∙ c.args.stack.now.ok.0) in
    let n = wanted-own c.in-Apply.op (take (length c.deref.result.now - c.len-base.result) (drop c.len-base.result c.deref.result.now)) ∙ ap (λ l. own_cells c.in-Apply.op (length l)) taken ∙ ap (λ m. own_cells c.in-Apply.op m) (all-length c.args.strings.now c.args.patterns.now.list c.args.room.now.number c.args.node (g.S.Site.leaf c.args.site.now) (g.S.Site.read c.args.site.now) (g.S.Site.coord c.args.site.now) c.as_slice.result.now c.args.room.now.deposits) in
    let s = after-space c.push_values.new.room c.in-Apply.op (take (length c.deref.result.now - c.len-base.result) (drop c.len-base.result c.deref.result.now)) c.apply-value.result in
    let r = ap (λ room. room.space) c.apply-value.ensures.room in
    omega (arith, n, k, s, r, c.push_values.ensures.space)

pub evaluate-returns-in-If-clause-exact : goal.evaluate-returns-in-If-clause-exact
evaluate-returns-in-If-clause-exact g t c = c.choice.ensures.exact ∙ if-step c.args.strings.now c.args.patterns.now.list c.args.room.now.number c.args.node (g.S.Site.leaf c.args.site.now) (g.S.Site.read c.args.site.now) (g.S.Site.coord c.args.site.now) c.in-If.args c.as_slice-in-If.result.now c.args.expr.now c.args.room.now.deposits c.in-If.is c.as_slice-in-If.ensures

pub evaluate-returns-in-If-clause-space : goal.evaluate-returns-in-If-clause-space
evaluate-returns-in-If-clause-space g t c =
    let w : weight c.args.expr.now ≡ suc (sum_by weight c.as_slice-in-If.result.now) = ap weight c.in-If.is ∙ (weight-If c.in-If.args ∙ ap (λ l. suc (sum_by weight l)) (sym c.as_slice-in-If.ensures)) in
    let k : cells c.args.expr.now ≡ sum_by cells c.as_slice-in-If.result.now = ap cells c.in-If.is ∙ (cells-If c.in-If.args ∙ ap (λ l. sum_by cells l) (sym c.as_slice-in-If.ensures)) in
    omega (arith, k, c.choice.ensures.space)

pub evaluate-returns-in-Order-clause-exact : goal.evaluate-returns-in-Order-clause-exact
evaluate-returns-in-Order-clause-exact g t c =
    let taken : take (length c.deref-in-Order.result.now - c.len-base-in-Order.result) (drop c.len-base-in-Order.result c.deref-in-Order.result.now) ≡ (evaluate_list c.args.strings.now c.args.patterns.now.list c.args.room.now.number c.args.node (g.S.Site.leaf c.args.site.now) (g.S.Site.read c.args.site.now) (g.S.Site.coord c.args.site.now) c.as_slice-in-Order.result.now c.args.room.now.deposits).0
    = cut c.deref-in-Order.result.now c.args.stack.now.items (evaluate_list c.args.strings.now c.args.patterns.now.list c.args.room.now.number c.args.node (g.S.Site.leaf c.args.site.now) (g.S.Site.read c.args.site.now) (g.S.Site.coord c.args.site.now) c.as_slice-in-Order.result.now c.args.room.now.deposits).0 c.len-base-in-Order.result (c.deref-in-Order.ensures.value ∙ c.push_values-in-Order.ensures.values) (c.len-base-in-Order.ensures ∙ c.args.stack.now.ok.0) in
    ap (λ v. (v, c.push_values-in-Order.new.room.deposits)) c.in_order-value.ensures ∙ order-step c.args.strings.now c.args.patterns.now.list c.args.room.now.number c.args.node (g.S.Site.leaf c.args.site.now) (g.S.Site.read c.args.site.now) (g.S.Site.coord c.args.site.now) c.in-Order.args c.as_slice-in-Order.result.now c.args.expr.now c.args.room.now.deposits _ _ c.in-Order.is c.as_slice-in-Order.ensures taken c.push_values-in-Order.ensures.deposits

pub evaluate-returns-in-Order-clause-space : goal.evaluate-returns-in-Order-clause-space
evaluate-returns-in-Order-clause-space g t c =
    let w : weight c.args.expr.now ≡ suc (sum_by weight c.as_slice-in-Order.result.now) = ap weight c.in-Order.is ∙ (weight-Order c.in-Order.args ∙ ap (λ l. suc (sum_by weight l)) (sym c.as_slice-in-Order.ensures)) in
    let k : cells c.args.expr.now ≡ sum_by cells c.as_slice-in-Order.result.now = ap cells c.in-Order.is ∙ (cells-Order c.in-Order.args ∙ ap (λ l. sum_by cells l) (sym c.as_slice-in-Order.ensures)) in
    omega (arith, k, c.push_values-in-Order.ensures.space)

pub push_values-push_reserved-requires : goal.push_values-push_reserved-requires
push_values-push_reserved-requires g t c =
    let w = sum-first weight c.in-Some.first.now c.in-Some.rest.now c.args.args.now c.in-Some.ensures.cases.0 in
    let k = sum-first cells c.in-Some.first.now c.in-Some.rest.now c.args.args.now c.in-Some.ensures.cases.0 in
    let s = weight-some c.in-Some.first.now in
    let l = ap length c.evaluate-value.ensures.stack in
    let m = c.args.stack.now.ok.0 in
    let o = c.evaluate-value.new.stack.ok.0 in
    omega (arith, w, s, l, m, o, c.evaluate-value.ensures.capacity, c.requires.stack)

pub push_values-push_values-requires : goal.push_values-push_values-requires
push_values-push_values-requires g t c κs within =
    let w = sum-first weight c.in-Some.first.now c.in-Some.rest.now c.args.args.now c.in-Some.ensures.cases.0 in
    let k = sum-first cells c.in-Some.first.now c.in-Some.rest.now c.args.args.now c.in-Some.ensures.cases.0 in
    let s = weight-some c.in-Some.first.now in
    let l = ap length c.evaluate-value.ensures.stack in
    let m = c.args.stack.now.ok.0 in
    let o = c.evaluate-value.new.stack.ok.0 in
    (omega (arith, w, s, c.decreases), (search rules, (omega (arith, k, c.evaluate-value.ensures.space, c.requires.cells), omega (arith, w, s, l, m, o, c.push_reserved.ensures.len, c.push_reserved.ensures.capacity, c.evaluate-value.ensures.capacity, c.requires.stack))))
