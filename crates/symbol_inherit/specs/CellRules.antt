-- The rules of a list's cell.
use Rattle.std.specs.Prelude.{◌≡◌, ℕ, true, List, [], ◌∷◌}
use Rattle.lido_base.specs.declared.ids.SymId.{SymId}
use Rattle.lido_syntax.specs.declared.spec.RuleItem.{RuleItem}
use Rattle.rule_tables.specs.declared.table.Tables.{Tables}
use Rattle.rule_tables.specs.PlainRules.{PlainRule, Link, End}
use Rattle.symbol_inherit.specs.Entries.{IsOccurrenceOf}

-- the rule with this element, whose symbol is that of occurrence 1
pub record IsLink (t : Tables) (p : PlainRule) (element : SymId) : Type 0 where
  pub r : RuleItem
  pub s : ℕ
  pub is_list : r.list ≡ true
  pub role : p.role ≡ Link s
  pub occurs : IsOccurrenceOf t p r 1 s element.0

-- the rule has this right side
pub data IsCellRule (t : Tables) (p : PlainRule) : List SymId → Type 0 where
  link : (element : SymId) (more : List SymId) → IsLink t p element → IsCellRule t p (element ∷ more)
  end : p.role ≡ End → IsCellRule t p []
