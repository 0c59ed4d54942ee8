-- The keys under which values pass between regions: 256 for each region but the root's, one for each attribute that its root can have.
use Rattle.std.specs.Prelude.{◌≡◌, ℕ, ◌+◌, ◌-◌, ◌*◌, ◌/◌, ◌%◌, ◌<◌, List, length, map, max, Option, Some, option_and_then, option_map, slice_get, unwrap_or, IsTrue}
use Rattle.std.specs.List.{range_with_len}
use Rattle.lido_base.specs.declared.value.Value.{Value}
use Rattle.lido_base.specs.declared.value.Value.TheVariants as value
use Rattle.lido_base.specs.Tree.{contains}
use Rattle.tree_store.specs.Regions.{number_among}
use Rattle.flat_grammar.specs.WholeOrder.{Instance}
use Rattle.flat_grammar.specs.Instances.{IsInstance}
use Rattle.core_machine.specs.Machine.{final}
use Rattle.core_machine.specs.Core.{Task, IsTask, home, machine}

-- the key of attribute a at the root of region r, which isn't region 0
abbrev pub key_at : ℕ → ℕ → ℕ
key_at r a = (r - 1) * 256 + a

module _ (j : Task) where
  -- the instance is an attribute of a split node, at which a region begins
  abbrev pub IsShared : Instance → Type 0
  IsShared i = IsTrue (contains i.0 j.nodes) × IsInstance j.symbols j.rules j.flat i

  -- the key of an attribute of a split node
  abbrev pub key_of : Instance → ℕ
  key_of i = key_at (number_among j.nodes i.0) i.1

  -- how many keys there are: one at least
  abbrev pub key_count : ℕ
  key_count = max 1 (256 * length j.nodes)

  -- a split node with the number of an attribute, by their key; nothing where there is no split node
  abbrev pub shared_at : ℕ → Option Instance
  shared_at key = option_map (λ n. (n, key % 256)) (slice_get j.nodes (key / 256))

  -- the value under a key in the final state; Void where the split node has no such attribute
  abbrev pub content_at : ℕ → Value
  content_at key = unwrap_or (option_and_then (final (machine j)).values (shared_at key)) value.Void

  -- the region that evaluates what is under a key; 0 where the split node has no such attribute
  abbrev pub owner_at : ℕ → ℕ
  owner_at key = unwrap_or (option_map (home j) (shared_at key)) 0

  -- the values by their keys
  abbrev pub contents_of : List Value
  contents_of = map content_at (range_with_len 0 key_count)

  -- the regions by their keys
  abbrev pub owners_of : List ℕ
  owners_of = map owner_at (range_with_len 0 key_count)

-- the key of an attribute of a split node is one of the keys
abbrev pub KeysAreCounted : Type 0
KeysAreCounted = (j : Task) → IsTask j → (i : Instance) → IsShared j i → key_of j i < key_count j

-- by its key an attribute of a split node is found again
abbrev pub KeysName : Type 0
KeysName = (j : Task) → IsTask j → (i : Instance) → IsShared j i → shared_at j (key_of j i) ≡ Some i

-- attributes of split nodes that have one key are one
abbrev pub KeysDiffer : Type 0
KeysDiffer = (j : Task) → IsTask j → (i k : Instance) → IsShared j i → IsShared j k → key_of j i ≡ key_of j k → i ≡ k
