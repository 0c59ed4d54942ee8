-- The values of expressions of computations in force, at the nodes of a flat tree and of its written tree.
use Rattle.std.specs.Prelude.{ℕ, List, unwrap_or, Contains}
use Rattle.lido_base.specs.Plain.{Plain, Void}
use Rattle.lido_syntax.specs.declared.spec.RuleItem.{RuleItem}
use Rattle.lido_syntax.specs.declared.spec.Place.TheVariants as place
use Rattle.lido_syntax.specs.declared.spec.Expr.{Expr, Read}
use Rattle.lido_syntax.specs.Parts.{leaves}
use Rattle.lido_syntax.specs.Nodes.{IsAt}
use Rattle.lido_syntax.specs.Assignment.{Assignment}
use Rattle.lido_syntax.specs.Value.{value}
use Rattle.flat_grammar.specs.FlatAttribution.{value_of}
use Rattle.flat_grammar.specs.FlatTrees.{IsNodeOf}
use Rattle.flat_grammar.specs.WholeOrder.{node_at}
use Rattle.rule_tables.specs.PlainRules.{PlainRule}
use Rattle.rule_tables.specs.Forced.{Force, context_of}
use Rattle.rule_tables.specs.Copies.{copy_of, tail_of}
use Rattle.carried_trees.specs.Flattening.{Flattening, Trees}
use Rattle.carried_trees.specs.Carry.{carry}

-- the leaf is a TAIL
abbrev pub IsTail : Expr → Type 0
IsTail (Read at place.Tail a) = Unit {0}
IsTail _ = ⊥

-- the expression has no TAIL
abbrev pub IsTailless : Expr → Type 0
IsTailless e = (leaf : Expr) → Contains (leaves e) leaf → ¬ IsTail leaf

module _ (f : Flattening) (x : Trees) where
  -- The context node of the computation is this written node, of this rule.
  abbrev pub IsContext : ℕ → Force → ℕ → RuleItem → Type 0
  IsContext n c w r = IsNodeOf f.rules f.shapes x.flat x.node_of (node_at x.flat n (context_of c)) w × IsAt f.spec x.written w r

  module _ (A : Assignment) where
    -- what the copy of an expression of a computation in force gives at the flat node
    abbrev pub copy_value : ℕ → RuleItem → PlainRule → List Force → Force → Expr → Plain
    copy_value n r p fs c e = value_of f.env x.flat x.node_of (λ i. unwrap_or (carry f x A i) Void) (node_at x.flat n (context_of c)) n
        (copy_of f.spec f.tables f.needs f.slots f.env r p fs (tail_of f.spec f.tables f.needs f.slots f.env r p fs) c.holder (context_of c) c.comp.number e)

    -- what the expression gives there in the written tree
    abbrev pub written_value : (ℕ → Plain) → ℕ → RuleItem → Force → Expr → Plain
    written_value tail w r c e = value f.spec f.tables.sets f.env x.written A c.holder r c.comp.number w tail e
