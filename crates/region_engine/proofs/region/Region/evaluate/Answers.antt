use Rattle.std.proofs.Common.{◌≡◌, ◌∙◌, arith, ap, sym, subst, refl, length, append-nil, true≢false, ◌⊎◌}
use Rattle.std.proofs.lemmas.Option.{slice_get_within}
use Rattle.std.specs.Prelude.{Contains, slice_get}
use Rattle.boundary_table.specs.Desk.{Knows}
use Rattle.flat_grammar.specs.WholeOrder.{Instance}
use Rattle.flat_grammar.specs.Instances.{instance_at}
use Rattle.core_machine.specs.Core.{home, needs}
use Rattle.core_machine.specs.Keys.{key_of}
use Rattle.core_machine.specs.Machine.{Item, eval_of}
use Rattle.core_machine.proofs.CursorLists.{drop-item}
use Rattle.region_engine.specs.Behind.{list}
use Rattle.region_engine.specs.Steps.{HasKey}
use Rattle.region_engine.proofs.Lists.{few-own}
use Rattle.region_engine.proofs.Moves.{moved-number, stayed-number, either-way}
use Rattle.region_engine.proofs.region.Region.evaluate.Goals as goal

pub evaluate_next-requires-clause-next : goal.evaluate_next-requires-clause-next
evaluate_next-requires-clause-next c = (c.args.self.now.position, record { behind = c.requires.region.behind; next = c.requires.next })

pub step-requires-clause-some_left : goal.step-requires-clause-some_left
step-requires-clause-some_left c =
    let i = instance_at c.args.job.now.flat c.args.node c.args.goal in
    let e = ap length (c.requires.region.rest ∙ drop-item (list c.args.job.now c.args.self.now.values.region) c.args.self.now.position (eval_of i) c.requires.next) in
    omega (arith, e)

pub overflow_add-self : goal.overflow_add-self
overflow_add-self c =
    let i = instance_at c.args.job.now.flat c.args.node c.args.goal in
    let w = slice_get_within (list c.args.job.now c.args.self.now.values.region) c.args.self.now.position (eval_of i) c.requires.next in
    let f = few-own c.args.job.now c.facts.ensures c.args.self.now.values.region in
    omega (arith, w, f)

pub returns-in-Ok-clause-region : goal.returns-in-Ok-clause-region
returns-in-Ok-clause-region c =
    let j = c.args.job.now in let g = c.args.self.now in let r = g.values.region in
    let i = instance_at j.flat c.args.node c.args.goal in
    let going = c.evaluate_next.ensures.going_on in
    let P : Instance → Type 0 = λ z. (k : Instance) → Contains (needs j z) k → (home j k ≡ home j z → ⊥) → HasKey c.evaluate_next.new.values (key_of j k) ⊎ Knows c.evaluate_next.new.desk (key_of j k) in
    moved-number j r g _ c.requires.region (eval_of i) c.requires.next (record {
      cursor = c.step.ensures.cursor;
      rest = c.step.ensures.left;
      count = refl;
      position = refl;
      behind = c.in-Ok.ensures.behind g.position (record { behind = c.requires.region.behind; next = c.requires.next });
      puts = sym (append-nil g.puts.items);
      puts_room = omega arith;
      empty = c.evaluate_next.ensures.empty;
      stack = c.evaluate_next.ensures.capacity;
      since = refl;
      numbered = refl;
      delivered = going.delivered;
      goes_on = going.goes_on;
      numbers = going.stores.1;
      mine = going.stores.0 ∙ either-way g.numbered g.desk.view.mine;
      inputs = λ k d e need far. subst P (ap (λ (z : Item Instance). z.makes) e) c.in-Ok.ensures.inputs.each d need far;
      known = λ k e yes. absurd (true≢false (sym (ap (λ (z : Item Instance). z.is_put) e)));
      notebook = refl;
    }) going.region

pub returns-in-Err-clause-region : goal.returns-in-Err-clause-region
returns-in-Err-clause-region c =
    let j = c.args.job.now in let g = c.args.self.now in let r = g.values.region in
    let going = c.evaluate_next.ensures.going_on in
    stayed-number j r g _ c.requires.region (record {
      cursor = refl;
      count = refl;
      position = refl;
      behind = c.in-Err.ensures.stays g.position (record { behind = c.requires.region.behind; next = c.requires.next });
      puts = refl;
      puts_room = refl;
      empty = c.evaluate_next.ensures.empty;
      stack = c.evaluate_next.ensures.capacity;
      since = refl;
      numbered = refl;
      delivered = λ key. (going.delivered key).0;
      goes_on = going.goes_on;
      numbers = going.stores.1;
      mine = going.stores.0;
      notebook = refl;
    }) going.region

pub returns-in-Err-clause-waits : goal.returns-in-Err-clause-waits
returns-in-Err-clause-waits c =
    let w = c.in-Err.ensures.awaits in
    record {
      item = instance_at c.args.job.now.flat c.args.node c.args.goal;
      next = ap (λ r. slice_get (list c.args.job.now r) c.args.self.now.position) c.evaluate_next.ensures.going_on.region ∙ c.requires.next;
      input = w.input;
      needed = w.needed;
      far = w.far;
      undelivered = w.undelivered;
      missed = w.missed;
    }
