-- How a tree of a flat grammar is written in brackets. Coordinates may be left out where they are those of the node above.
use Rattle.std.specs.Prelude.{◌≡◌, ◌+◌, ℕ, suc, List, [], ◌∷◌, length, Option, Some, slice_get}
use Rattle.lido_base.specs.Plain.{Plain, Int, Str}
use Rattle.lido_base.specs.Tree.{Tree, Item, Child, Leaf, items_of}
use Rattle.flat_grammar.specs.declared.flat.FlatRule.{FlatRule}
use Rattle.flat_grammar.specs.Rules.{HasRule}
use Rattle.tree_reader.specs.Language.{Forest, none, node, int, string}
use Rattle.tree_reader.specs.declared.part.Coordinates.{Coordinates}
use Rattle.tree_reader.specs.WrittenTrees.{count, coordinates_of, no_coordinates, own}

module _ (rules : List FlatRule) (texts : List (List ℕ)) (t : Tree Plain) where
  -- The node's rule has this name.
  abbrev pub HasName : ℕ → List ℕ → Type 0
  HasName n name = (r : FlatRule) × HasRule rules t n r × (slice_get texts r.name.0 ≡ Some name)

  -- The siblings stand for these items, in order, and so does what is below each of them; the first node among them has number n,
  -- and the node above them has these coordinates.
  abbrev pub AreWritten : ℕ → Coordinates → Forest → List (Item Plain) → Type 0
  AreWritten n above none its = its ≡ []
  AreWritten n above (node at name_at name coordinates below end after) its = (more : List (Item Plain)) × (its ≡ Child n ∷ more) × HasName n name
      × (coordinates_of t n ≡ own coordinates above) × AreWritten (suc n) (own coordinates above) below (items_of t n)
      × AreWritten (suc (n + count below)) above after more
  AreWritten n above (int at value after) its = (more : List (Item Plain)) × (its ≡ Leaf (Int value) ∷ more) × AreWritten n above after more
  AreWritten n above (string at text after) its = (more : List (Item Plain)) × (its ≡ Leaf (Str text) ∷ more) × AreWritten n above after more

  -- A bracket with this name, these coordinates and what is below it are the tree, each node with the name of its rule and with its
  -- coordinates.
  abbrev pub IsWrittenAs : List ℕ → Option Coordinates → Forest → Type 0
  IsWrittenAs name coordinates below = HasName 0 name × (coordinates_of t 0 ≡ own coordinates no_coordinates)
      × AreWritten 1 (own coordinates no_coordinates) below (items_of t 0) × (length t ≡ suc (count below))
