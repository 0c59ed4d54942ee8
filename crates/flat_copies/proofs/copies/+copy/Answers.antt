use Rattle.std.specs.Prelude.{Contains}
use Rattle.std.proofs.Common.{◌∙◌, List, map, ap, sym, subst}
use Rattle.std.proofs.lemmas.List.{take_all}
use Rattle.lido_syntax.specs.declared.spec.Expr.{Expr}
use Rattle.lido_syntax.specs.declared.spec.Expr.TheVariants as expr
use Rattle.lido_syntax.specs.Production.{name_of}
use Rattle.lido_syntax.specs.Parts.{leaves}
use Rattle.rule_tables.specs.Copies.{call, copy}
use Rattle.flat_copies.specs.Copied.{AreKnown}
use Rattle.flat_copies.proofs.CopyLemmas.{copy-Call, copies-more, args-known, arg-leaf, itself-in}
use Rattle.flat_copies.proofs.copies.+copy.Goals as goal

pub loop-arg-preserved : goal.loop-arg-preserved
loop-arg-preserved g t c = λ env terminal read including constituents texts known agree.
    let args = c.as_slice-arg-items.result.now in
    let x = c.arg-item.result in
    let among : Contains args x = (c.loop-arg.arg-index, c.loop-arg-test.true, sym c.arg-item.is) in
    copies-more (copy env c.args.comp terminal read including constituents) args c.loop-arg.arg-index x c.loop-arg.copies.items c.push.new.self.items c.in_ok-copy-in-Call.field-0
    c.loop-arg-test.true c.arg-item.is (c.loop-arg.invariant env terminal read including constituents texts known agree) c.in_ok-push-in-Call.ensures.items
    (c.in_ok-copy-in-Call.ensures env terminal read including constituents texts (known x among) (λ leaf y m gives. agree x leaf y among m gives))

pub returns-after-loop-arg : goal.returns-after-loop-arg
returns-after-loop-arg g t c = λ env terminal read including constituents texts known agree.
    let f = c.in-Call.name in
    let args = c.in-Call.args in
    let items = c.as_slice-arg-items.result.now in
    let known_call : AreKnown env c.args.ops.now (expr.Call f args) = subst (AreKnown env c.args.ops.now) c.in-Call.is known in
    let made = c.loop-arg.invariant env terminal read including constituents texts
    (λ arg m. args-known env c.args.ops.now f args known_call arg (subst (λ (l : List Expr). Contains l arg) c.as_slice-arg-items.ensures m))
    (λ arg leaf y m k gives. agree leaf y (subst (λ (e : Expr). Contains (leaves e) leaf) (sym c.in-Call.is) (arg-leaf f args arg leaf (subst (λ (l : List Expr). Contains l arg) c.as_slice-arg-items.ensures m) k)) gives) in
    c.call.ensures env texts (known_call f args (itself-in f args))
    ∙ ap (call env c.args.comp (name_of f)) (c.from_vec.ensures ∙ made ∙ ap (map (copy env c.args.comp terminal read including constituents)) (take_all c.loop-arg.arg-index items c.loop-arg-test.false ∙ c.as_slice-arg-items.ensures))
    ∙ sym (copy-Call env c.args.comp terminal read including constituents f args)
    ∙ ap (copy env c.args.comp terminal read including constituents) (sym c.in-Call.is)
