-- What is hashed of an attribute.
use Rattle.std.specs.Prelude.{ℕ, List, ◌++◌}
use Rattle.std.specs.Hash as fed
use Rattle.flat_slots.specs.declared.slot.Slot.{Slot}
use Rattle.flat_slots.specs.declared.slot.Slot.TheVariants.{Written, Inc, Con, Front, Behind, Msg, Out}

abbrev pub hash_of : Slot → List (List ℕ)
hash_of (Written name) = fed.u8 0 ++ fed.u32 name.0
hash_of (Inc set) = fed.u8 1 ++ fed.u32 set
hash_of (Con number) = fed.u8 2 ++ fed.u32 number
hash_of (Front chain) = fed.u8 3 ++ fed.u32 chain.0
hash_of (Behind chain) = fed.u8 4 ++ fed.u32 chain.0
hash_of (Msg number) = fed.u8 5 ++ fed.usize number
hash_of Out = fed.u8 6
