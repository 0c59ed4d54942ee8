-- The written rule of a plain rule.
use Rattle.std.specs.Prelude.{◌≡◌, ℕ, List, map, filter, Some, slice_get}
use Rattle.lido_syntax.specs.declared.spec.RuleItem.{RuleItem}
use Rattle.lido_symbols.specs.Numbers.{enumerated}
use Rattle.rule_tables.specs.declared.table.Tables.{Tables}
use Rattle.rule_tables.specs.PlainRules.{PlainRule, plain_rules}
use Rattle.rule_tables.specs.TablesOf.{named_symbols}

-- the rules that are lists, by number
abbrev pub list_numbers : List RuleItem → List ℕ
list_numbers rules = map (λ (x : ℕ × RuleItem). x.0) (filter (λ (x : ℕ × RuleItem). x.1.list) (enumerated 0 rules))

-- the plain rule of that number comes of this rule
abbrev pub IsWrittenRule : Tables → ℕ → RuleItem → Type 0
IsWrittenRule t j r = (p : PlainRule) → slice_get (plain_rules t.spec (named_symbols t)) j ≡ Some p → slice_get t.spec.rules p.rule ≡ Some r
