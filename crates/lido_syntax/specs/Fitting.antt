-- The trees that fit a specification: abstract syntax trees of its productions, where a list node has any number of elements.
use Rattle.std.specs.Prelude.{◌≡◌, ℕ, ◌<◌, ◌≤ℤ◌, ◌<ℤ◌, ℤ, negsuc, pos, ◌-◌, ◌^◌, List, length, true, false, IsTrue, All}
use Rattle.std.specs.List.{AllZip}
use Rattle.lido_base.specs.declared.value.ValueType.TheVariants as type
use Rattle.lido_base.specs.Plain.{Plain, Int, Str}
use Rattle.lido_base.specs.Tree.{Tree, Item, Child, Leaf, IsTree, items_of, contains}
use Rattle.lido_syntax.specs.declared.spec.Spec.{Spec}
use Rattle.lido_syntax.specs.declared.spec.RuleItem.{RuleItem}
use Rattle.lido_syntax.specs.Production.{right_of}
use Rattle.lido_syntax.specs.Symbols.{IsTerminal, IsRoot}
use Rattle.lido_syntax.specs.Nodes.{IsAt, HasSymbol}

module _ (spec : Spec) (t : Tree Plain) where
  -- the item can stand for the symbol: a node of it, or a terminal value of its type
  pub data IsItem (s : ℕ) : Item Plain → Type 0 where
    node : {c : ℕ} → HasSymbol spec t c s → IsItem s (Child c)
    int : {z : ℤ} → IsTerminal spec s type.Int → negsuc (2 ^ 63 - 1) ≤ℤ z → z <ℤ pos (2 ^ 63) → IsItem s (Leaf (Int z))
    string : {bytes : List ℕ} → IsTerminal spec s type.Str → IsItem s (Leaf (Str bytes))

  -- the item of a list is a node of one of the elements
  abbrev pub IsElement : List ℕ → Item Plain → Type 0
  IsElement elements x = (c : ℕ) × (s : ℕ) × (x ≡ Child c) × IsTrue (contains s elements) × HasSymbol spec t c s

  -- The tree fits: the root is at node 0, and each node has a rule and the items that its rule allows.
  pub record IsFitting : Type 0 where
    pub tree : IsTree t
    pub root : (s : ℕ) × IsRoot spec s × HasSymbol spec t 0 s
    pub ruled : (n : ℕ) → n < length t → (r : RuleItem) × IsAt spec t n r
    pub plain : (n : ℕ) (r : RuleItem) → IsAt spec t n r → r.list ≡ false → AllZip IsItem (right_of r) (items_of t n)
    pub lists : (n : ℕ) (r : RuleItem) → IsAt spec t n r → r.list ≡ true → All (IsElement (right_of r)) (items_of t n)
