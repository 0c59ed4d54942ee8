-- A specification with its flat grammar, and a tree of it with its flat tree.
use Rattle.std.specs.Prelude.{ℕ, List}
use Rattle.lido_base.specs.Environment.{Environment}
use Rattle.lido_base.specs.Plain.{Plain}
use Rattle.lido_base.specs.Tree.{Tree}
use Rattle.lido_base.specs.declared.ids.SymId.{SymId}
use Rattle.lido_syntax.specs.declared.spec.Spec.{Spec}
use Rattle.lido_syntax.specs.Fitting.{IsFitting}
use Rattle.flat_grammar.specs.declared.flat.FlatSymbol.{FlatSymbol}
use Rattle.flat_grammar.specs.declared.flat.FlatRule.{FlatRule}
use Rattle.flat_grammar.specs.declared.flat.Shape.{Shape}
use Rattle.flat_grammar.specs.FlatTrees.{IsFlatTree}
use Rattle.rule_tables.specs.Needs.{Tables, Needs}
use Rattle.rule_tables.specs.Slots.{Slot}
use Rattle.flat_laws.specs.Accepted.{IsFlattened}

-- A specification, the texts when its tables were made and those behind them too, its numbers and what is in force, its needs, its
-- attributes by symbol, and a flat grammar.
pub record Flattening : Type 0 where
  pub spec : Spec
  pub early : Environment
  pub env : Environment
  pub tables : Tables spec
  pub needs : Needs spec tables
  pub slots : ℕ → List Slot
  pub symbols : List FlatSymbol
  pub rules : List FlatRule
  pub shapes : List Shape
  pub root : SymId

-- The specification is accepted, and the grammar is its flat one.
abbrev pub IsFlattening : Flattening → Type 0
IsFlattening f = IsFlattened f.spec f.early f.env f.tables f.needs f.slots f.symbols f.rules f.shapes f.root

-- A written tree, a flat one, and the written node of each flat node.
pub record Trees : Type 0 where
  pub written : Tree Plain
  pub flat : Tree Plain
  pub node_of : List ℕ

-- The written tree fits the specification, and the other is its flat tree.
pub record AreTrees (f : Flattening) (x : Trees) : Type 0 where
  pub fits : IsFitting f.spec x.written
  pub flat_tree : IsFlatTree f.rules f.shapes x.written x.flat x.node_of
