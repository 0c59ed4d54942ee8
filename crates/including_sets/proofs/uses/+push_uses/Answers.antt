use Rattle.std.proofs.Common.{◌∙◌, ◌++◌, ap, sym, map}
use Rattle.lido_symbols.proofs.CollectedLemmas.{collected_all}
use Rattle.including_sets.specs.Uses.{told, uses_in}
use Rattle.including_sets.proofs.UseLemmas.{uses-Call}
use Rattle.including_sets.proofs.uses.+push_uses.Goals as goal

pub returns-after-loop-arg : goal.returns-after-loop-arg
returns-after-loop-arg t c =
    let n = c.args.comp in
    let args = c.as_slice-arg-items.result.now in
    let old = map told c.args.found.now.items in
    let all = collected_all (uses_in n) args c.loop-arg.arg-index old (map told c.loop-arg.found.items) c.loop-arg-test.false c.loop-arg.invariant in
    all ∙ ap (λ l. old ++ l) (sym (ap (uses_in n) c.in-Call.is ∙ uses-Call n c.in-Call.field-0 c.in-Call.args args c.as_slice-arg-items.ensures))
