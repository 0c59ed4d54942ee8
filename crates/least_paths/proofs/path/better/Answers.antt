use Rattle.std.proofs.Common.{◌∙◌}
use Rattle.std.specs.Prelude.{IsTrue, false}
use Rattle.std.proofs.lemmas.Option.{unwrap_or-slice_get}
use Rattle.least_paths.specs.Graph.{is_in}
use Rattle.least_paths.specs.Path.{IsNearer}
use Rattle.least_paths.proofs.PathLemmas.{best-old, no_true}
use Rattle.least_paths.proofs.path.better.Goals.{else-starts-s-via-then-starts-s+else-is_nearer, else-starts-s-via-else-starts-s}
use Rattle.least_paths.proofs.path.better.Goals as goal

pub returns : goal.returns
returns c = best-old c.args.starts.now c.args.dist.now c.args.s c.args.best c.requires.best
    (elim c.else-starts-s.branch as (λ _. IsTrue (is_in c.args.starts.now c.args.s) → IsNearer c.args.dist.now c.args.s c.args.best → ⊥) [
      | else-starts-s-via-then-starts-s+else-is_nearer w ↦ λ is n. no_true w.is_nearer.result w.if-is_nearer.false (w.is_nearer.ensures.1 n)
      | else-starts-s-via-else-starts-s w ↦ λ is n. no_true (is_in c.args.starts.now c.args.s) (unwrap_or-slice_get c.args.starts.now c.args.s false ∙ w.if-starts-s.false) is
    ])
