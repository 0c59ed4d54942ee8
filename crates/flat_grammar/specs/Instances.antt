-- The instances of a flat tree, and the flat trees of a grammar.
use Rattle.std.specs.Prelude.{◌≡◌, ℕ, ◌<◌, List, length, is_some, slice_get, IsTrue, Some}
use Rattle.std.specs.List.{AllZip}
use Rattle.lido_base.specs.declared.ids.SymId.{SymId}
use Rattle.lido_base.specs.Tree.{Tree, Item, Child, Leaf, IsTree, items_of}
use Rattle.flat_grammar.specs.declared.flat.Occ.{Occ}
use Rattle.flat_grammar.specs.declared.flat.FlatSymbol.{FlatSymbol}
use Rattle.flat_grammar.specs.declared.flat.FlatRule.{FlatRule}
use Rattle.flat_grammar.specs.Rules.{attrs_of, HasRule}
use Rattle.flat_grammar.specs.Fitting.{HasSymbol}
use Rattle.flat_grammar.specs.WholeOrder.{Instance, node_at}

-- the instance that an attribute occurrence of a node's rule is
abbrev pub instance_at : {V : Type 0} → Tree V → ℕ → Occ → Instance
instance_at t n o = (node_at t n o.occ, o.attr.0)

module _ {V : Type 0} (symbols : List FlatSymbol) (rules : List FlatRule) (t : Tree V) where
  -- the node's symbol has an attribute of this number
  abbrev pub IsInstance : Instance → Type 0
  IsInstance i = (r : FlatRule) × HasRule rules t i.0 r × (i.1 < length (attrs_of symbols r.left))

  -- what stands for a symbol in a flat tree: a node of it, or for a terminal's symbol a terminal
  abbrev pub IsOf : SymId → Item V → Type 0
  IsOf s (Child c) = HasSymbol rules t c s
  IsOf s (Leaf v) = (x : FlatSymbol) × (slice_get symbols s.0 ≡ Some x) × IsTrue (is_some x.terminal)

  -- the flat tree is one of the grammar: node 0 has the root symbol, and each node has what its rule's right side says
  pub record IsGrown (root : SymId) : Type 0 where
    pub tree : IsTree t
    pub root_node : HasSymbol rules t 0 root
    pub nodes : (n : ℕ) → n < length t → (r : FlatRule) × HasRule rules t n r
    pub items : (n : ℕ) (r : FlatRule) → HasRule rules t n r → AllZip IsOf r.right (items_of t n)
