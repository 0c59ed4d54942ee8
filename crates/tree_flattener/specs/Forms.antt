-- What stands for a written node in the flat tree, by the number of its rule.
use Rattle.std.specs.Prelude.{◌≡◌, ℕ, List, [], ◌∷◌, length, Option, Some, slice_get, true, false, Contains}
use Rattle.lido_base.specs.declared.ids.SymId.{SymId}
use Rattle.lido_base.specs.declared.ids.RuleId.{RuleId}
use Rattle.flat_grammar.specs.declared.flat.FlatSymbol.{FlatSymbol}
use Rattle.flat_grammar.specs.declared.flat.FlatRule.{FlatRule}
use Rattle.flat_grammar.specs.declared.flat.Shape.{Shape}
use Rattle.flat_grammar.specs.WellFormed.{cell_of}
use Rattle.tree_flattener.specs.declared.forms.Cells.{Cells}
use Rattle.tree_flattener.specs.declared.forms.Form.{Form}
use Rattle.tree_flattener.specs.declared.forms.Form.TheVariants.{Unnamed, Plain, Chain}

-- the rule is that of a cell with an element of the symbol
abbrev pub IsElementOf : SymId → FlatRule → SymId → Type 0
IsElementOf cell r s = (r.left ≡ cell) × (r.right ≡ s ∷ cell ∷ [])

module _ (rules : List FlatRule) (cell : SymId) where
  -- the rule of this number is that of a cell with an element of the symbol
  abbrev pub IsElementRule : SymId → RuleId → Type 0
  IsElementRule s i = (r : FlatRule) × (slice_get rules i.0 ≡ Some r) × (r.left ≡ cell) × (r.right ≡ s ∷ cell ∷ [])

  -- the rule of this number is that of the end cell
  abbrev pub IsEndRule : RuleId → Type 0
  IsEndRule i = (r : FlatRule) × (slice_get rules i.0 ≡ Some r) × (r.left ≡ cell) × (r.right ≡ [])

  -- each symbol has the rule of a cell with an element of it, if there is one
  pub record AreElementRules (elements : List (Option RuleId)) : Type 0 where
    pub found : (s : SymId) (i : RuleId) → slice_get elements s.0 ≡ Some (Some i) → IsElementRule s i
    pub complete : (s : SymId) (k : ℕ) (r : FlatRule) → slice_get rules k ≡ Some r → r.left ≡ cell → r.right ≡ s ∷ cell ∷ [] → (i : RuleId) × (slice_get elements s.0 ≡ Some (Some i))

  -- the rules of a list's cells
  abbrev pub AreCellRules : Cells → Type 0
  AreCellRules cells = AreElementRules cells.elements × IsEndRule cells.end

module _ (symbols : List FlatSymbol) (rules : List FlatRule) where
  -- the form of a shape's rule
  abbrev pub IsForm : Shape → Form → Type 0
  IsForm shape Unnamed = ⊥
  IsForm shape (Plain width) = (shape.list ≡ false) × (width ≡ length shape.right)
  IsForm shape (Chain cells) = (shape.list ≡ true) × AreCellRules rules (cell_of rules shape) cells

  -- each shape's rule has its form
  abbrev pub AreForms : List Shape → List Form → Type 0
  AreForms shapes forms = (shape : Shape) → Contains shapes shape → (form : Form) × (slice_get forms shape.rule.0 ≡ Some form) × IsForm shape form
