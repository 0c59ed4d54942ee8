use Rattle.std.proofs.Common.{ap, sym, ◌∙◌, map, flat_map, ◌++◌}
use Rattle.lido_syntax.specs.Parts.{leaves as leaves_in}
use Rattle.lido_syntax.proofs.ExpressionLemmas.{leaves-Call}
use Rattle.lido_symbols.proofs.CollectedLemmas.{collected_all}
use Rattle.lido_symbols.proofs.parts.+push_leaves.Goals as goal

pub returns-after-loop-arg : goal.returns-after-loop-arg
returns-after-loop-arg t c =
    let args = c.as_slice-arg-items.result.now in
    let all = collected_all leaves_in args c.loop-arg.arg-index (map (λ e. e.now) c.args.found.now.items) (map (λ e. e.now) c.loop-arg.found.items) c.loop-arg-test.false c.loop-arg.invariant in
    all ∙ ap (λ l. map (λ e. e.now) c.args.found.now.items ++ l) (sym (ap leaves_in c.in-Call.is ∙ leaves-Call c.in-Call.field-0 c.in-Call.args ∙ ap (flat_map leaves_in) (sym c.as_slice-arg-items.ensures)))
