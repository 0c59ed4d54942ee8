-- The attributes that the expansions name.
use Rattle.std.specs.Prelude.{option_map}
use Rattle.std.proofs.Common.{◌≡◌, ℕ, Option, Some, None, refl, ap, ◌∙◌}
use Rattle.std.proofs.lemmas.Option.{none-some, same_Some}
use Rattle.lido_base.specs.declared.ids.StrId.{StrId}
use Rattle.lido_base.specs.declared.ids.AttrId.{AttrId}
use Rattle.rule_tables.specs.declared.table.Tables.{Tables}
use Rattle.rule_tables.specs.declared.extra.Slot.TheVariants as added
use Rattle.rule_tables.specs.Slots.{Slot, Written, Inc, Con, Front, Behind, Msg, Out}
use Rattle.rule_tables.specs.ForcedOf.{IsAttributeAt, IsChainAt}
use Rattle.rule_tables.specs.ExtraOf.{IsSlotAs}
use Rattle.flat_slots.specs.declared.slot.Slot.TheVariants as slot
use Rattle.flat_slots.specs.Named.{slot_of}

named : (make : ℕ → Slot) (o : Option StrId) (a : ℕ) → option_map (λ (x : StrId). x.0) o ≡ Some a → option_map (λ (x : StrId). make x.0) o ≡ Some (make a)
named make None a e = absurd (none-some a e)
named make (Some x) a e = ap (λ n. Some (make n)) (same_Some _ _ e)

through : (f : StrId → slot.the_data) (o : Option StrId) → option_map slot_of (option_map f o) ≡ option_map (λ (x : StrId). slot_of (f x)) o
through f None = refl
through f (Some x) = refl

module _ (t : Tables) (x : ℕ) where
  pub written-slot : (id : AttrId) (o : Option StrId) (s : Slot) → ((a : ℕ) → IsAttributeAt t x id a → option_map (λ (n : StrId). n.0) o ≡ Some a) → IsSlotAs t x (added.Written id) s
      → option_map slot_of (option_map slot.Written o) ≡ Some s
  written-slot id o (Written a) name h = through slot.Written o ∙ named Written o a (name a h)
  written-slot id o (Inc i) name h = absurd h
  written-slot id o (Con n) name h = absurd h
  written-slot id o (Front c) name h = absurd h
  written-slot id o (Behind c) name h = absurd h
  written-slot id o (Msg j) name h = absurd h
  written-slot id o Out name h = absurd h

  pub front-slot : (i : ℕ) (o : Option StrId) (s : Slot) → ((c : ℕ) → IsChainAt t i c → option_map (λ (n : StrId). n.0) o ≡ Some c) → IsSlotAs t x (added.Front i) s
      → option_map slot_of (option_map slot.Front o) ≡ Some s
  front-slot i o (Front c) name h = through slot.Front o ∙ named Front o c (name c h)
  front-slot i o (Written a) name h = absurd h
  front-slot i o (Inc j) name h = absurd h
  front-slot i o (Con n) name h = absurd h
  front-slot i o (Behind c) name h = absurd h
  front-slot i o (Msg j) name h = absurd h
  front-slot i o Out name h = absurd h

  pub behind-slot : (i : ℕ) (o : Option StrId) (s : Slot) → ((c : ℕ) → IsChainAt t i c → option_map (λ (n : StrId). n.0) o ≡ Some c) → IsSlotAs t x (added.Behind i) s
      → option_map slot_of (option_map slot.Behind o) ≡ Some s
  behind-slot i o (Behind c) name h = through slot.Behind o ∙ named Behind o c (name c h)
  behind-slot i o (Written a) name h = absurd h
  behind-slot i o (Inc j) name h = absurd h
  behind-slot i o (Con n) name h = absurd h
  behind-slot i o (Front c) name h = absurd h
  behind-slot i o (Msg j) name h = absurd h
  behind-slot i o Out name h = absurd h
