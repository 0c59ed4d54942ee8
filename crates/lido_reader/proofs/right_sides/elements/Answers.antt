use Rattle.std.specs.Prelude.{◌≡◌, [], ◌∷◌, ◌++◌}
use Rattle.std.proofs.Common.{arith}
use Rattle.std.proofs.lemmas.Grind.{common_steps}
use Rattle.lido_base.specs.Reading.{nothing}
use Rattle.lido_reader.specs.Items.{IsFurtherElement, Repeats, is_element}
use Rattle.lido_computations.proofs.PhrasesLemmas.{leads_self}
use Rattle.lido_reader.proofs.PartsLemmas.{go_on, read_whole, repeat_found, repeat_ends}
use Rattle.lido_reader.proofs.RightSidesLemmas.{element_steps, element_finds, element_goes, no_element_stops}
use Rattle.lido_reader.proofs.right_sides.elements.Goals as goal

pub loop-element-init : goal.loop-element-init
loop-element-init c = let items : c.new-all.result.items ≡ [] = grind (arith, common_steps) in record {
  leads = rw items (leads_self (Repeats IsFurtherElement []) is_element c.args.tokens.now);
  no_longer = omega arith;
}

pub loop-element-preserved : goal.loop-element-preserved
loop-element-preserved c =
    let items : c.push.new.self.items ≡ c.loop-element.all.items ++ c.in-Some.element ∷ [] = c.in_ok-push.ensures.items in
    let found = element_finds c.loop-element.rest.now c.in-Some.behind.now c.in-Some.element c.in-Some.ensures.seen in record {
      leads = rw items (repeat_found element_steps (element_goes c.loop-element.rest.now c.in-Some.behind.now c.in-Some.element c.in-Some.ensures.seen) c.loop-element.invariant.leads
          (read_whole (go_on (leads_self (IsFurtherElement c.loop-element.all.items) nothing c.loop-element.rest.now) found)));
      no_longer = grind (arith, common_steps);
    }

pub returns-clause-reads : goal.returns-clause-reads
returns-clause-reads c = repeat_ends element_steps (no_element_stops c.loop-element.rest.now c.in_default.ensures.seen) c.loop-element.invariant.leads
