-- A tree in which coordinates are handed down: (a@1:1 (a (a@3:7) (a)) (a)). Every node has rule 0, and anything may stand anywhere.
use Rattle.std.specs.Prelude.{ℕ, true, List, [], ◌∷◌, Option, Some, None, Result}
use Rattle.lido_base.specs.Plain.{Plain}
use Rattle.lido_base.specs.Tree.{Tree, Node, Item, Child}
use Rattle.tree_store.specs.declared.fault.TreeFault.{TreeFault}
use Rattle.tree_reader.specs.declared.part.Coordinates.{Coordinates}
use Rattle.tree_reader.specs.Language.{Forest, none, node}
use Rattle.tree_reader.specs.WrittenTrees.{Asked, meaning}

abbrev pub anything : Asked ℕ
anything = record {
  named = λ name. Some 0;
  rule = λ x. x;
  is_root = λ x. true;
  takes = λ x k y. true;
  takes_value = λ x k ty. true;
  is_enough = λ x k. true;
}

abbrev pub at : ℕ → ℕ → Coordinates
at line column = record { line = line; column = column }

-- the letter a, the name of each node
abbrev pub a : List ℕ
a = 97 ∷ []

-- what stands below the first node
abbrev pub below : Forest
below =
    node 7 8 a None (node 10 11 a (Some (at 3 7)) none 16 (node 18 19 a None none 20 none)) 21
    (node 23 24 a None none 25 none)

-- what the tree means where this is written behind the first name
abbrev pub tree_at : Option Coordinates → Result (Tree Plain) TreeFault
tree_at coordinates = meaning anything 1 a coordinates below 26

abbrev pub entry : Option ℕ → ℕ → Coordinates → List (Item Plain) → Node Plain
entry parent place c items = record { rule = 0; parent = parent; place = place; line = c.line; column = c.column; items = items }

-- the table, where the first node has these coordinates
abbrev pub table : Coordinates → Tree Plain
table first =
    entry None 0 first (Child 1 ∷ Child 4 ∷ [])
    ∷ entry (Some 0) 1 first (Child 2 ∷ Child 3 ∷ [])
    ∷ entry (Some 1) 1 (at 3 7) []
    ∷ entry (Some 1) 2 first []
    ∷ entry (Some 0) 2 first []
    ∷ []
