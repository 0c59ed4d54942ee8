-- Rules, symbols and computations at the nodes of a written tree.
use Rattle.std.specs.Prelude.{◌≡◌, ℕ, Some, slice_get, Contains}
use Rattle.lido_base.specs.Plain.{Plain}
use Rattle.lido_base.specs.Tree.{Tree, Child, rule_at, item_at, ancestors}
use Rattle.lido_syntax.specs.declared.spec.Spec.{Spec}
use Rattle.lido_syntax.specs.declared.spec.RuleItem.{RuleItem}
use Rattle.lido_syntax.specs.declared.spec.Comp.{Comp}
use Rattle.lido_syntax.specs.Production.{left_of}
use Rattle.lido_syntax.specs.Computation.{Goal, Synthesized, Inherited, Start, Holder, by_rule, by_symbol, InForce}

module _ (spec : Spec) (t : Tree Plain) where
  -- the node has this rule
  abbrev pub IsAt : ℕ → RuleItem → Type 0
  IsAt n r = (i : ℕ) × (rule_at t n ≡ Some i) × (slice_get spec.rules i ≡ Some r)

  -- the node's symbol is the left side of its rule
  abbrev pub HasSymbol : ℕ → ℕ → Type 0
  HasSymbol n s = (r : RuleItem) × IsAt n r × (left_of r ≡ s)

  -- the computation in force for a goal of the node's symbol on its left side, and whose body it stands in
  abbrev pub InForceAt : ℕ → Goal → Holder → Comp → Type 0
  InForceAt n g h c = (r : RuleItem) × IsAt n r × InForce spec r 0 (left_of r) g h c

  -- some computation is in force for the goal on the node's left side
  abbrev pub HasInForce : ℕ → Goal → Type 0
  HasInForce n g = (h : Holder) × (c : Comp) × InForceAt n g h c

  -- the node is under a start of the chain: a strict ancestor has one in force
  abbrev pub IsUnder : ℕ → ℕ → Type 0
  IsUnder c n = (m : ℕ) × Contains (ancestors t n) m × HasInForce m (Start c)

  -- node n stands at this place, counted from 1, of node p
  abbrev pub IsChild : ℕ → ℕ → ℕ → Type 0
  IsChild p place n = item_at t p place ≡ Some (Child n)

  -- The computation in force for attribute a of node n, with whose body it stands in and its context node: of a rule's
  -- computation the node of the rule, of a symbol's the node of the symbol.
  pub data Computes (n a : ℕ) : ℕ → Holder → Comp → Type 0 where
    synthesized : {h : Holder} {c : Comp} → InForceAt n (Synthesized a) h c → Computes n a n h c
    inherited_of_rule : (p k s : ℕ) {c : Comp} (r : RuleItem) → IsChild p k n → IsAt p r → HasSymbol n s → InForce spec r k s (Inherited a) by_rule c → Computes n a p by_rule c
    inherited_of_symbol : (p k s : ℕ) {c : Comp} (r : RuleItem) → IsChild p k n → IsAt p r → HasSymbol n s → InForce spec r k s (Inherited a) by_symbol c → Computes n a n by_symbol c
