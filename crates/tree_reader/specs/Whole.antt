-- What the whole text of a tree gives.
use Rattle.std.specs.Prelude.{◌≡◌, ℕ, List, Result, Ok, Err}
use Rattle.lido_base.specs.Phases.{Then}
use Rattle.lido_base.specs.Plain.{Plain}
use Rattle.lido_base.specs.Tree.{Tree}
use Rattle.lido_base.specs.declared.ids.SymId.{SymId}
use Rattle.flat_grammar.specs.declared.flat.FlatSymbol.{FlatSymbol}
use Rattle.flat_grammar.specs.declared.flat.FlatRule.{FlatRule}
use Rattle.flat_grammar.specs.declared.flat.Shape.{Shape}
use Rattle.flat_grammar.specs.Fitting.{IsWithinLimits}
use Rattle.flat_grammar.specs.FlatTrees.{IsFlatTree}
use Rattle.tree_store.specs.declared.fault.TreeFault.{TreeFault}
use Rattle.tree_flattener.specs.Limits.{HasTooMany}
use Rattle.tree_reader.specs.Asking.{asked}
use Rattle.tree_reader.specs.Scanning.{Scanning}
use Rattle.tree_reader.specs.Writing.{IsMeaning}

-- a phase with this in front of its values
abbrev pub With : {A B C F : Type 0} → A → (Result (B × C) F → Type 0) → Result (A × B × C) F → Type 0
With a p (Ok x) = (x.0 ≡ a) × p (Ok (x.1, x.2))
With a p (Err e) = p (Err e)

module _ (symbols : List FlatSymbol) (rules : List FlatRule) (shapes : List Shape) where
  -- The flat tree of a written tree, with the written node of each flat node; or what the flat tree has too much of.
  unfoldable pub FlatOf : Tree Plain → Result (Tree Plain × List ℕ) TreeFault → Type 0
  FlatOf written (Ok x) = IsFlatTree rules shapes written x.0 x.1 × IsWithinLimits symbols rules x.0
  FlatOf written (Err e) = (flat : Tree Plain) × (node_of : List ℕ) × IsFlatTree rules shapes written flat node_of
      × HasTooMany symbols rules flat e

module _ (symbols : List FlatSymbol) (rules : List FlatRule) (shapes : List Shape) (root : SymId) (texts : List (List ℕ)) (text : List ℕ) where
  -- The written tree of a text; or the place where the text leaves the language of trees, or else its first fault from the left. The
  -- names of rules and symbols are found among the texts.
  unfoldable pub WrittenOf : Result (Tree Plain) TreeFault → Type 0
  WrittenOf = Then (Scanning text) (λ parts. IsMeaning (asked symbols rules shapes root texts) parts)

  -- The written tree of a text, its flat tree, and the written node of each flat node; or the first fault.
  unfoldable pub TreesOf : Result (Tree Plain × Tree Plain × List ℕ) TreeFault → Type 0
  TreesOf = Then WrittenOf (λ written. With written (FlatOf symbols rules shapes written))
