use Rattle.std.proofs.Common.{sym, subst, ◌∙◌, List, ℕ}
use Rattle.least_paths.specs.Graph.{IsGraph}
use Rattle.symbol_inherit.specs.Classes.{AreReaching}
use Rattle.symbol_inherit.proofs.HeirLemmas.{rows-more}
use Rattle.symbol_inherit.proofs.classes.Classes.of.Goals as goal

pub heirs_of-requires : goal.heirs_of-requires
heirs_of-requires c = subst IsGraph (sym (c.deref.ensures.value ∙ c.in_ok-graph.ensures)) c.requires

pub loop-y-preserved : goal.loop-y-preserved
loop-y-preserved c = rows-more _ c.loop-y.y c.loop-y.heirs.items c.push.new.self.items c.in_ok-heirs_of.field-0 c.loop-y.invariant
    (subst (λ (g : List (List ℕ)). AreReaching g c.loop-y.y c.in_ok-heirs_of.field-0.items) (c.deref.ensures.value ∙ c.in_ok-graph.ensures) c.in_ok-heirs_of.ensures) c.in_ok-push.ensures.items
