-- The equations of a flat grammar at the nodes of a flat tree.
use Rattle.std.specs.Prelude.{◌≡◌, ℕ, List, Option, Some, slice_get, unwrap_or}
use Rattle.lido_base.specs.Plain.{Plain, Void}
use Rattle.lido_base.specs.Tree.{rule_at}
use Rattle.lido_syntax.specs.declared.spec.RuleItem.{RuleItem}
use Rattle.flat_grammar.specs.FlatAttribution.{value_of}
use Rattle.flat_grammar.specs.Instances.{instance_at}
use Rattle.flat_grammar.specs.WholeOrder.{Instance}
use Rattle.rule_tables.specs.PlainRules.{PlainRule}
use Rattle.rule_tables.specs.Forced.{Force}
use Rattle.rule_tables.specs.Needs.{ruled}
use Rattle.rule_tables.specs.Slots.{Slot}
use Rattle.rule_tables.specs.Shares.{Term}
use Rattle.rule_tables.specs.Copies.{occ, given}
use Rattle.carried_trees.specs.Flattening.{Flattening, Trees}

module _ (f : Flattening) (x : Trees) where
  -- the flat node has this plain rule, of this written one, with this in force
  pub record IsRuleAt (n : ℕ) (r : RuleItem) (p : PlainRule) (fs : List Force) : Type 0 where
    pub number : ℕ
    pub at : rule_at x.flat n ≡ Some number
    pub rule : slice_get (ruled f.spec f.tables) number ≡ Some (p, fs)
    pub written : slice_get f.spec.rules p.rule ≡ Some r

  -- What stands at an attribute of an occurrence of the flat node's rule is what the term gives at the node.
  abbrev pub Holds : (Instance → Option Plain) → ℕ → RuleItem → PlainRule → List Force → ℕ → Slot → Term → Type 0
  Holds B n r p fs k s e = B (instance_at x.flat n (occ f.spec f.tables f.needs f.slots f.env r p fs k s))
      ≡ Some (value_of f.env x.flat x.node_of (λ i. unwrap_or (B i) Void) n n (given f.spec f.tables f.needs f.slots f.env r p fs e))
