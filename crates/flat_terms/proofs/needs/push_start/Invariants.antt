use Rattle.std.specs.Prelude.{Contains, flat_map}
use Rattle.std.proofs.Common.{◌≡◌, ◌++◌, [], map, take}
use Rattle.lido_syntax.specs.declared.spec.Expr.{Expr}
use Rattle.flat_terms.specs.Scene.{Scene, needed_by}
use Rattle.flat_terms.specs.Sites.{IsSiteOf, IsNamed}
use Rattle.flat_terms.proofs.needs.push_start.Given as goal

-- what the leaves so far depend on
abbrev pub invariant-loop-part : goal.invariant-loop-part
invariant-loop-part l = (scene : Scene) → IsSiteOf scene l.site → ((part : Expr) → Contains (map (λ e. e.now) l.part-items) part → IsNamed scene l.site part)
    → l.found.items ≡ l.initial.found.items ++ flat_map (λ e. needed_by scene (λ chain. []) 0 e.now) (take l.part-index l.part-items)
