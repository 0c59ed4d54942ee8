use Rattle.std.specs.Prelude.{flat_map}
use Rattle.std.proofs.Common.{◌∙◌, ◌++◌, List, ap, refl, get_or, take_all}
use Rattle.lido_base.specs.declared.ids.SymId.{SymId}
use Rattle.lido_symbols.specs.Numbers.{enumerated}
use Rattle.need_graphs.proofs.ListLemmas.{numbered-more}
use Rattle.including_expand.specs.Extras.{child_comps}
use Rattle.including_expand.proofs.extras.push_rule.Goals as goal

pub loop-j-preserved : goal.loop-j-preserved
loop-j-preserved c =
    let right = c.as_slice-right.result.now in
    let j = c.loop-j.j in
    let none : SymId = record { 0 = 0 } in
    let its = child_comps c.args.needs.now c.args.sets.now c.args.number c.args.rule.now.left.0 in
    numbered-more its right j none c.args.comps.now.items c.loop-j.comps.items c.push_child.new.comps.items (its (j, get_or right j none)) c.loop-j-test.true c.loop-j.invariant c.in_ok-push_child.ensures refl

pub returns : goal.returns
returns c =
    let its = child_comps c.args.needs.now c.args.sets.now c.args.number c.args.rule.now.left.0 in
    c.loop-j.invariant ∙ ap (λ (l : List SymId). c.args.comps.now.items ++ flat_map its (enumerated 0 l)) (take_all c.loop-j.j c.as_slice-right.result.now c.loop-j-test.false ∙ c.as_slice-right.ensures)
