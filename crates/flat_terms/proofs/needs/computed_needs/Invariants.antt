use Rattle.std.specs.Prelude.{Contains, flat_map}
use Rattle.std.proofs.Common.{◌≡◌, map, take}
use Rattle.lido_syntax.specs.declared.spec.Expr.{Expr}
use Rattle.flat_terms.specs.Scene.{Scene, needed_by, tail_needs}
use Rattle.flat_terms.specs.Sites.{IsSiteOf, IsNamed, IsNamedTail}
use Rattle.flat_terms.proofs.needs.computed_needs.Given as goal

-- what the leaves so far depend on
abbrev pub invariant-loop-part : goal.invariant-loop-part
invariant-loop-part l = (scene : Scene) → IsSiteOf scene l.here.site.now → ((part : Expr) → Contains (map (λ e. e.now) l.part-items) part → IsNamed scene l.here.site.now part × IsNamedTail scene l.here.site.now l.tails part)
    → l.found.items ≡ flat_map (λ e. needed_by scene (tail_needs scene) l.here.context e.now) (take l.part-index l.part-items)
