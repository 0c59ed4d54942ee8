-- INCLUDING: the nearest enclosing node (LIDO, remote access upwards).
use Rattle.std.specs.Prelude.{ℕ, List, Option, option_map, option_and_then, slice_get, unwrap_or, filter_map, find}
use Rattle.lido_base.specs.Plain.{Plain}
use Rattle.lido_base.specs.Tree.{Tree, rule_at, ancestors}
use Rattle.lido_syntax.specs.declared.spec.Spec.{Spec}
use Rattle.lido_syntax.specs.declared.spec.Pair.{Pair}
use Rattle.lido_syntax.specs.Production.{name_of, left_of}
use Rattle.lido_syntax.specs.Sets.{Sets, stands_for}

module _ (spec : Spec) (sets : Sets spec) where
  -- the attribute that a list of pairs gives the symbol: that of the first pair that stands for it
  abbrev pub listed : List Pair → ℕ → Option ℕ
  listed pairs s = option_map (λ (p : Pair). name_of p.attr) (find (λ p. stands_for spec sets.inherits s p.sym) pairs)

  module _ (t : Tree Plain) where
    -- the symbol of a node; each node of a fitting tree has one
    abbrev pub symbol_at : ℕ → ℕ
    symbol_at n = unwrap_or (option_map left_of (option_and_then (slice_get spec.rules) (rule_at t n))) 0

    -- the first of these nodes that is listed, with its listed attribute
    abbrev pub nearest : List Pair → List ℕ → Option (ℕ × ℕ)
    nearest pairs nodes = slice_get (filter_map (λ m. option_map (λ a. (m, a)) (listed pairs (symbol_at m))) nodes) 0

    -- the nearest strict ancestor that is listed, with its listed attribute
    abbrev pub up : List Pair → ℕ → Option (ℕ × ℕ)
    up pairs n = nearest pairs (ancestors t n)
