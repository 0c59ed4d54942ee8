-- What stands for the leaves of written expressions, as the definition says.
use Rattle.std.specs.Prelude.{◌≡◌, ℕ}
use Rattle.lido_syntax.specs.declared.spec.Expr.{Expr}
use Rattle.lido_syntax.specs.declared.spec.Comp.{Comp}
use Rattle.lido_syntax.specs.Computation.{Holder}
use Rattle.flat_grammar.specs.declared.flat.FlatExpr.{FlatExpr}
use Rattle.rule_tables.specs.Copies.{nothing}
use Rattle.rule_tables.specs.Shares.{Copied}
use Rattle.flat_terms.specs.declared.site.Site.{Site}
use Rattle.flat_terms.specs.declared.leaves.Here.{Here}
use Rattle.flat_terms.specs.declared.leaves.Tailed.{Tailed}
use Rattle.flat_terms.specs.Names.{holder_as}
use Rattle.flat_terms.specs.Scene.{Scene, copy_of, tail_of, entered}
use Rattle.flat_terms.specs.Sites.{IsSiteOf, IsNamed, IsNamedTail, IsNamedStart}

-- TAIL gives nothing
abbrev pub IsLeaf : Here → Expr → FlatExpr → Type 0
IsLeaf here part made = (scene : Scene) → IsSiteOf scene here.site.now → IsNamed scene here.site.now part
    → (number : ℕ) → made ≡ copy_of scene (λ chain. nothing) (holder_as here.holder) here.context number part

abbrev pub IsTailedLeaf : Tailed → Expr → FlatExpr → Type 0
IsTailedLeaf tailed part made = (scene : Scene) → IsSiteOf scene tailed.here.site.now → IsNamed scene tailed.here.site.now part → IsNamedTail scene tailed.here.site.now tailed.tails.now part
    → (number : ℕ) → made ≡ copy_of scene (tail_of scene) (holder_as tailed.here.holder) tailed.here.context number part

-- a start's expression where it is copied for TAIL
abbrev pub IsEntered : Site → Holder → Comp → FlatExpr → Type 0
IsEntered site holder c made = (scene : Scene) → IsSiteOf scene site → IsNamedStart scene site c → made ≡ entered scene (Copied holder c)
