use Rattle.std.proofs.Common.{sym, subst}
use Rattle.lido_base.specs.Tree.{IsNode}
use Rattle.core_machine.proofs.CursorMoves.{eval-node}
use Rattle.core_machine.proofs.cursor.node_of.Goals as goal

pub child-requires : goal.child-requires
child-requires c =
    subst (λ t. IsNode t c.args.node c.args.occ.occ) (sym c.trees.ensures.flat)
    (eval-node c.args.job.now c.facts.ensures c.args.node c.args.place c.args.occ c.requires.inside c.requires.evaluated c.if-occ-eq0.false)
