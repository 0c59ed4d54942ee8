use Rattle.std.proofs.Common.{sym, ap, ◌∙◌, Some}
use Rattle.std.specs.Prelude.{slice_get, slice_set}
use Rattle.lido_base.specs.declared.ids.SymId.{SymId}
use Rattle.tree_flattener.proofs.GrowLemmas.{some_same}
use Rattle.tree_flattener.proofs.TableLemmas.{kept_set, get_set_same}
use Rattle.tree_flattener.proofs.forms.give_rule.Goals as goal

pub returns-in-Some-clause-kept : goal.returns-in-Some-clause-kept
returns-in-Some-clause-kept c = λ s i at. kept_set c.args.elements.now.items c.in-Some.element.0 c.args.k (c.requires.inside c.in-Some.element c.in-Some.ensures.found) s.0 i at

pub returns-in-Some-clause-this : goal.returns-in-Some-clause-this
returns-in-Some-clause-this c = λ s is. ap (λ (z : SymId). slice_get (slice_set c.args.elements.now.items c.in-Some.element.0 (Some (record { 0 = c.args.k }))) z.0) (sym (some_same (c.in-Some.ensures.complete s is)))
    ∙ get_set_same c.args.elements.now.items c.in-Some.element.0 (Some (record { 0 = c.args.k })) (c.requires.inside c.in-Some.element c.in-Some.ensures.found)
