-- What the faults of the tables exclude, as far as the expansions ask for it.
use Rattle.std.specs.Prelude.{◌≡◌, ℕ, ◌≤◌, ◌^◌, List, length, AllPairs, Contains}
use Rattle.lido_syntax.specs.declared.spec.Spec.{Spec}
use Rattle.lido_syntax.specs.declared.spec.Typed1.{Typed1}
use Rattle.lido_syntax.specs.Production.{name_of}
use Rattle.lido_syntax.specs.Symbols.{IsNonterminal, IsRoot}
use Rattle.lido_symbols.specs.Classes.{IsClass}
use Rattle.lido_symbols.specs.Uses.{all_includings}
use Rattle.need_graphs.specs.Users.{TellComputations}
use Rattle.rule_tables.specs.declared.table.Tables.{Tables}
use Rattle.flat_grammar.specs.declared.flat.FlatRule.{FlatRule}

-- Computations have different numbers, chains different names, no class is a nonterminal, and there is one root.
pub record AreClear (spec : Spec) : Type 0 where
  pub computations : TellComputations spec
  pub chains : AllPairs (λ (x y : Typed1). name_of x.name ≡ name_of y.name → ⊥) spec.chains
  pub classes : (s : ℕ) → IsClass spec s → ¬ IsNonterminal spec s
  pub roots : (s q : ℕ) → IsRoot spec s → IsRoot spec q → s ≡ q

-- there are so few rules, and on each right side so few symbols, that u16 numbers them
pub record AreFew (plain : List FlatRule) : Type 0 where
  pub rules : length plain ≤ 1024
  pub right : (rule : FlatRule) → Contains plain rule → length rule.right ≤ 1024

-- The tables are within the limits.
pub record AreWithin (t : Tables) : Type 0 where
  pub symbols : length t.symbols ≤ 512
  pub plain : AreFew t.plain
  pub chains : length t.spec.chains ≤ 2 ^ 32
  pub includings : length (all_includings t.spec) ≤ 2 ^ 32
