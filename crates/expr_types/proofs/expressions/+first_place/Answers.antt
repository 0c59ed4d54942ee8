use Rattle.std.proofs.Common.{ap, sym, ◌∙◌}
use Rattle.expr_types.specs.Faults.{begin_of}
use Rattle.expr_types.proofs.ArgumentLemmas.{begin_in, begin-Call, begin-empty, begin-first}
use Rattle.expr_types.proofs.expressions.+first_place.Goals as goal

pub returns-in-empty : goal.returns-in-empty
returns-in-empty t c =
    let at = c.in-Call.name.at in
    begin-empty at c.as_slice.result.now c.in-empty.len_below ∙ ap (begin_in at) c.as_slice.ensures
    ∙ sym (ap begin_of c.in-Call.is ∙ begin-Call c.in-Call.name c.in-Call.args)

pub returns-in-len1-up : goal.returns-in-len1-up
returns-in-len1-up t c =
    let at = c.in-Call.name.at in
    c.min.ensures ∙ begin-first at c.first_place.result c.as_slice.result.now c.first-item.result c.in-len1-up.len_at_least c.first-item.is c.first_place.ensures
    ∙ ap (begin_in at) c.as_slice.ensures ∙ sym (ap begin_of c.in-Call.is ∙ begin-Call c.in-Call.name c.in-Call.args)
