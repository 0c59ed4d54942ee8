use Rattle.std.proofs.Common.{◌∙◌, ap, sym, refl, ◌++◌, ◌∷◌, [], arith}
use Rattle.core_machine.specs.Walks.{root_of}
use Rattle.core_machine.proofs.CursorPaths.{level-within, stands-root}
use Rattle.core_machine.proofs.CursorSteps.{opening-left, without}
use Rattle.core_machine.proofs.RegionWalks.{region-walks}
use Rattle.core_machine.proofs.cursor.Cursor.new.Goals as goal

pub push_reserved-requires : goal.push_reserved-requires
push_reserved-requires c =
    let j = c.args.job.now in
    let e = level-within j c.facts.ensures c.args.region (root_of j.nodes c.args.region) 1 (stands-root j c.facts.ensures c.args.region c.requires) in
    omega (arith, e, c.in_ok-room.ensures, c.in_ok-frames.ensures.exact, c.in_ok-frames.ensures.len)

pub returns-clause-whole : goal.returns-clause-whole
returns-clause-whole c =
    let j = c.args.job.now in
    without j c.settle.new.self c.settle.ensures.put ∙ c.settle.ensures.left
    ∙ opening-left j c.args.region (record { node = c.begin_of.result; place = 0 }) c.push_reserved.new.self.items
    (c.push_reserved.ensures.items ∙ ap (λ l. l ++ record { node = c.begin_of.result; place = 0 } ∷ []) c.in_ok-frames.ensures.items) c.begin_of.ensures refl
    ∙ sym (region-walks j c.facts.ensures c.args.region c.requires)
