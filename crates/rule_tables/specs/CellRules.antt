-- The plain rules of a list's cell, one after another.
use Rattle.std.specs.Prelude.{◌≡◌, ℕ, List, [], ◌∷◌, ◌++◌, Some, slice_get}
use Rattle.std.specs.List.{AllZip}
use Rattle.lido_base.specs.Environment.{Environment}
use Rattle.lido_base.specs.declared.ids.SymId.{SymId}
use Rattle.flat_grammar.specs.declared.flat.FlatRule.{FlatRule}
use Rattle.lido_syntax.specs.declared.spec.Spec.{Spec}
use Rattle.lido_syntax.specs.declared.spec.RuleItem.{RuleItem}
use Rattle.rule_tables.specs.PlainRules.{PlainRule, Link, End, number, cell}
use Rattle.rule_tables.specs.TablesOf.{IsPlainOf}

module _ (spec : Spec) (symbols : List ℕ) where
  -- the rule for this element in the cell of the list of that number, and the one for its end
  abbrev pub link_rule : ℕ → ℕ → PlainRule
  link_rule k s = record { rule = k; role = Link s; left = cell spec symbols k; right = number spec symbols s ∷ cell spec symbols k ∷ [] }

  abbrev pub end_rule : ℕ → PlainRule
  end_rule k = record { rule = k; role = End; left = cell spec symbols k; right = [] }

  -- the list has this number, and its cell that one
  pub record IsListAt (k : ℕ) (r : RuleItem) (id : SymId) : Type 0 where
    pub rule : slice_get spec.rules k ≡ Some r
    pub cell : id.0 ≡ cell spec symbols k

-- Behind plain rules these were added.
abbrev pub AddsPlain : Spec → Environment → List ℕ → List PlainRule → List FlatRule → List FlatRule → Type 0
AddsPlain spec env symbols more old new = (before : List PlainRule) → AllZip (IsPlainOf spec env symbols) before old → AllZip (IsPlainOf spec env symbols) (before ++ more) new
