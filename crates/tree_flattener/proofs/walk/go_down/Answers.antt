use Rattle.std.proofs.Common.{refl}
use Rattle.tree_flattener.proofs.WalkLemmas.{went_down}
use Rattle.tree_flattener.proofs.walk.go_down.Goals as goal

pub returns-clause-walk : goal.returns-clause-walk
returns-clause-walk c = went_down c.args.flat.now.symbols c.args.flat.now.rules c.args.flat.now.shapes c.args.written.now c.args.draft.now c.args.at c.requires.walk c.args.n c.requires.next c.requires.child c.attach.new.draft.flat c.attach.new.draft.node_of c.attach.new.draft.flat_of
    (record { flat = c.attach.new.draft.flat; node_of = c.attach.new.draft.node_of; flat_of = c.push.new.self }) (record { node = c.args.n; tail = c.in_ok-number.number; done = 0 }) c.in_ok-number.number
    c.in_ok-number.ensures.attached refl refl c.attach.ensures.same c.in_ok-push.ensures.ok refl
