-- What a flat node is: a written node, or a cell of a written list.
use Rattle.std.specs.Prelude.{◌≡◌, ◌⊎◌, ℕ, true, List, ◌++◌}
use Rattle.lido_base.specs.Tree.{Tree, children}
use Rattle.flat_grammar.specs.declared.flat.FlatRule.{FlatRule}
use Rattle.flat_grammar.specs.declared.flat.Shape.{Shape}
use Rattle.flat_grammar.specs.Fitting.{HasShape}
use Rattle.flat_grammar.specs.FlatTrees.{IsNodeOf, AreCells}
use Rattle.flat_grammar.specs.WellFormed.{cell_of}

module _ {V : Type 0} (rules : List FlatRule) (shapes : List Shape) (written flat : Tree V) (node_of : List ℕ) where
  -- Flat node n is a cell of the written list w: of the list's elements those of the rest stand from n on, and the others before it.
  pub record IsCellOfList (n w : ℕ) : Type 0 where
    pub shape : Shape
    pub has_shape : HasShape shapes written w shape
    pub is_list : shape.list ≡ true
    pub before : List ℕ
    pub rest : List ℕ
    pub elements : children written w ≡ before ++ rest
    pub cells : AreCells rules shapes flat node_of (cell_of rules shape) w n rest

  -- flat node n is written node w, or a cell of it
  abbrev pub HasRole : ℕ → ℕ → Type 0
  HasRole n w = IsNodeOf rules shapes flat node_of n w ⊎ IsCellOfList n w
