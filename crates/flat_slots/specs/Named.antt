-- Attributes of the flat grammar, as the definition names them.
use Rattle.std.specs.Prelude.{Bool}
use Rattle.flat_slots.specs.declared.slot.Slot.{Slot as Named}
use Rattle.flat_slots.specs.declared.slot.Slot.TheVariants as named
use Rattle.flat_slots.specs.contracts.slot.SlotPartialEq.TheImpl.{eq-value}
use Rattle.rule_tables.specs.Slots.{Slot, Written, Inc, Con, Front, Behind, Msg, Out}

abbrev pub slot_of : Named → Slot
slot_of (named.Written a) = Written a.0
slot_of (named.Inc i) = Inc i
slot_of (named.Con n) = Con n
slot_of (named.Front c) = Front c.0
slot_of (named.Behind c) = Behind c.0
slot_of (named.Msg j) = Msg j
slot_of named.Out = Out

-- they are the same by `==`
abbrev pub same : Named → Named → Bool
same = (eq-value).it
