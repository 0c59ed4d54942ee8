use Rattle.std.proofs.Common.{arith, sym, ap, ◌∙◌, length, subst}
use Rattle.std.proofs.lemmas.Option.{slice_get_within}
use Rattle.tree_flattener.specs.Forms.{AreElementRules}
use Rattle.tree_flattener.proofs.TableLemmas.{item_at, found_step, complete_step}
use Rattle.tree_flattener.proofs.forms.element_rules.Goals as goal

pub loop-k-preserved : goal.loop-k-preserved
loop-k-preserved c =
    let rules = c.args.flat.now.rules in
    let at = item_at c.as_slice-rule-items.result.now c.args.flat.now.rules c.loop-k.k c.rule-item.result c.as_slice-rule-items.ensures c.loop-k-test.true c.rule-item.is in
    record {
      each = c.give_rule.ensures.each ∙ c.loop-k.invariant.each;
      found = found_step rules c.args.cell c.loop-k.elements.items c.give_rule.new.elements.items c.loop-k.k c.rule-item.result at c.loop-k.invariant.found c.give_rule.ensures.found;
      complete = complete_step rules c.args.cell c.loop-k.elements.items c.give_rule.new.elements.items c.loop-k.k c.rule-item.result at c.loop-k.invariant.complete c.give_rule.ensures.kept c.give_rule.ensures.this;
    }

pub returns : goal.returns
returns c = subst (AreElementRules c.args.flat.now.rules c.args.cell) (sym c.from_vec.ensures) (record {
  found = c.loop-k.invariant.found;
  complete = λ s j r got left right. c.loop-k.invariant.complete s j r (let h = slice_get_within c.args.flat.now.rules j r got in omega (arith, ap length c.as_slice-rule-items.ensures, c.loop-k-test.false)) got (left, right);
})
