use Rattle.std.proofs.Common.{◌<◌, ◌≡◌, ℕ, length}
use Rattle.std.specs.Prelude.{Contains, slice_get, Some}
use Rattle.induced_deps.specs.declared.graph.Place.{Place}
use Rattle.induced_deps.specs.declared.growth.Graph.{Graph}
use Rattle.induced_deps.specs.Due.{IsUser}
use Rattle.induced_deps.proofs.growth.users_of.Given as goal

abbrev pub invariant-loop-k : goal.invariant-loop-k
invariant-loop-k l = record {
  size : length l.users.items ≡ length l.flat.symbols;
  all : (j : ℕ) (g : Graph) (p : Place) → j < l.k → slice_get l.graphs j ≡ Some g → Contains g.places.items p → IsUser l.users.items p.symbol.0 j;
  within : (x j : ℕ) → IsUser l.users.items x j → j < l.k;
}
