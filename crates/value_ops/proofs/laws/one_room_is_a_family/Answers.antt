use Rattle.std.proofs.Common.{ℕ, zero, suc, List, [], ◌∷◌, ◌++◌, refl, ap}
use Rattle.std.proofs.lemmas.Option.{none-some, same_Some}
use Rattle.string_librarian.specs.Rooms.{Deposit, RoomState, HaveGrown}
use Rattle.value_ops.proofs.laws.one_room_is_a_family.Goals as goal

abbrev alone : ℕ → List Deposit → RoomState
alone space ds = record { number = 0; deposits = ds; space = space }

grown : (space : ℕ) (ds more : List Deposit) → HaveGrown (alone space ds ∷ []) (alone space (ds ++ more) ∷ [])
grown space ds more zero room e = (alone space (ds ++ more), refl, (more, ap (λ (r : RoomState). r.deposits ++ more) (same_Some _ _ e)))
grown space ds more (suc k) room e = absurd (none-some _ e)

pub returns : goal.returns
returns c = λ space. record { grow = grown space; there = λ ds. (alone space ds, refl, refl) }
