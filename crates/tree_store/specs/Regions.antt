-- The regions of a split tree: subtrees without the split subtrees inside them (Boehm and Zwaenepoel 1987).
use Rattle.std.specs.Prelude.{ℕ, suc, List, [], ◌∷◌, map, find, if◌then◌else◌, nat_eq, length, Option, Some, None}
use Rattle.std.specs.List.{range_with_len}
use Rattle.lido_base.specs.Tree.{Tree, ancestors, contains}

-- The place of a node in a list, counted from k; 0 where it is none of these.
abbrev pub place_from : ℕ → List ℕ → ℕ → ℕ
place_from k [] n = 0
place_from k (m ∷ more) n = if nat_eq n m then k else place_from (suc k) more n

-- The number of a split node, counted from 1; 0 where it is none.
abbrev pub number_among : List ℕ → ℕ → ℕ
number_among nodes n = place_from 1 nodes n

-- The number of the split node that was found, if there is one.
abbrev pub number_found : List ℕ → Option ℕ → ℕ
number_found nodes None = 0
number_found nodes (Some m) = number_among nodes m

module _ {V : Type 0} (t : Tree V) (nodes : List ℕ) where
  -- The region of a node: the number of the nearest split node among the node and its ancestors; 0, the root's region, where
  -- there is none.
  abbrev pub region : ℕ → ℕ
  region n = number_found nodes (find (λ m. contains m nodes) (n ∷ ancestors t n))

  -- The region of each node.
  abbrev pub regions : List ℕ
  regions = map region (range_with_len 0 (length t))
