-- The visits of all symbols, as the peeling of each gives them.
use Rattle.std.specs.Prelude.{◌≡◌, ℕ, List, [], Some, None, slice_get, IsTrue, IsFalse, IsSome}
use Rattle.lido_base.specs.declared.ids.SymId.{SymId}
use Rattle.lido_base.specs.declared.ids.AttrId.{AttrId}
use Rattle.flat_grammar.specs.declared.flat.FlatSymbol.{FlatSymbol}
use Rattle.flat_grammar.specs.declared.flat.FlatRule.{FlatRule}
use Rattle.flat_grammar.specs.declared.plan.VisitClass.{VisitClass}
use Rattle.flat_grammar.specs.Rules.{attribute_at}
use Rattle.flat_grammar.specs.WellFormed.{is_nonterminal}
use Rattle.flat_grammar.specs.Partition.{IsPeeled, AreVisits}
use Rattle.partitions.specs.Peeling.{IsLast, AreLaterRows}

-- the rows of a symbol
abbrev pub rows_at : List (List ℕ) → ℕ → List ℕ
rows_at all n = elim (slice_get all n) [ None ↦ [] | Some rows ↦ rows ]

module _ (symbols : List FlatSymbol) (rules : List FlatRule) where
  -- each attribute of the symbol is in some class
  abbrev pub IsAllPeeled : SymId → Type 0
  IsAllPeeled x = (a : AttrId) → IsSome (attribute_at symbols x a) → (k : ℕ) × IsPeeled symbols rules x k a

  -- the visits of a nonterminal, or none for a terminal
  abbrev pub AreItsVisits : SymId → List VisitClass → Type 0
  AreItsVisits x row = (IsTrue (is_nonterminal symbols x) → AreVisits symbols rules x row) × (IsFalse (is_nonterminal symbols x) → row ≡ [])

  -- some class is the last that has attributes
  abbrev pub HasLast : SymId → Type 0
  HasLast x = (n : ℕ) × IsLast symbols rules x n

  -- for each symbol the rows that say which attributes are in later classes
  abbrev pub AreAllLaterRows : List (List ℕ) → Type 0
  AreAllLaterRows all = (x : SymId) → AreLaterRows symbols rules x (rows_at all x.0)
