-- Sets of names.
use Rattle.std.specs.Prelude.{ℕ, ◌⊎◌, Bool, IsTrue, nat_eq}
use Rattle.std.specs.HashSet as bag
use Rattle.kind_clashes.specs.declared.names.Names.{Names}

-- whether the name is in the set
unfoldable pub has : Names → ℕ → Bool
has names id = bag.contains nat_eq names.ids id

-- The set holds exactly the names of which this is so.
pub record IsSetOf (P : ℕ → Type 0) (names : Names) : Type 0 where
  pub only : (id : ℕ) → IsTrue (has names id) → P id
  pub all : (id : ℕ) → P id → IsTrue (has names id)

-- The later set holds what the earlier one holds, and the names of which this is so.
pub record HasMore (P : ℕ → Type 0) (earlier later : Names) : Type 0 where
  pub only : (id : ℕ) → IsTrue (has later id) → IsTrue (has earlier id) ⊎ P id
  pub kept : (id : ℕ) → IsTrue (has earlier id) → IsTrue (has later id)
  pub all : (id : ℕ) → P id → IsTrue (has later id)
