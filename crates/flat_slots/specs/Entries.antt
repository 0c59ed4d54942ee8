-- The attributes of all symbols, in one list: those of one symbol in order.
use Rattle.std.specs.Prelude.{ℕ, zero, suc, max, nat_eq, Bool, if◌then◌else◌, List, [], ◌∷◌, ◌++◌, map, filter_map, flat_map, count_by, fold, Option, Some, None, option_map, slice_get, unwrap_or}
use Rattle.std.specs.HashMap.{get}
use Rattle.flat_grammar.specs.declared.flat.FlatAttr.{FlatAttr}
use Rattle.lido_symbols.specs.Numbers.{enumerated}
use Rattle.lido_syntax.specs.declared.spec.Comp.{Comp}
use Rattle.lido_syntax.specs.declared.spec.RuleItem.{RuleItem}
use Rattle.lido_syntax.specs.declared.spec.Typed1.{Typed1}
use Rattle.lido_syntax.specs.Production.{left_of}
use Rattle.lido_syntax.specs.Computation.{is_message}
use Rattle.rule_tables.specs.declared.table.Tables.{Tables}
use Rattle.rule_tables.specs.declared.table.SymbolRow.{SymbolRow}
use Rattle.rule_tables.specs.declared.table.SymbolClass.TheVariants as class
use Rattle.rule_tables.specs.declared.extra.Extra.{Extra}
use Rattle.rule_tables.specs.declared.extra.ExtraAttr.{ExtraAttr}
use Rattle.rule_tables.specs.declared.extra.Slot.{Slot as Added}
use Rattle.rule_tables.specs.declared.extra.Slot.TheVariants as added
use Rattle.flat_slots.specs.declared.slot.Slot.{Slot}
use Rattle.flat_slots.specs.declared.slot.Slot.TheVariants.{Written, Inc, Con, Front, Behind, Msg, Out}
use Rattle.flat_slots.specs.declared.entries.Entry.{Entry}
use Rattle.flat_slots.specs.declared.counts.Counts.{Counts}

abbrev pub entry : ℕ → Slot → Entry
entry x s = record { sym = x; slot = s }

-- the written attributes of a nonterminal
abbrev pub attrs_in : SymbolRow → List FlatAttr
attrs_in row = elim row.class [ class.Nonterminal ↦ row.attrs | _ ↦ [] ]

abbrev pub written_entries : ℕ → List FlatAttr → List Entry
written_entries x attrs = map (λ (a : FlatAttr). entry x (Written a.name)) attrs

abbrev pub all_written : List SymbolRow → List Entry
all_written rows = flat_map (λ (x : ℕ × SymbolRow). written_entries x.0 (attrs_in x.1)) (enumerated 0 rows)

-- what an expansion adds; it adds no written attribute
abbrev pub slot_named : List Typed1 → Added → Option Slot
slot_named chains (added.Written id) = None
slot_named chains (added.Inc i) = Some (Inc i)
slot_named chains (added.Con n) = Some (Con n)
slot_named chains (added.Front i) = option_map (λ (d : Typed1). Front d.name.id) (slice_get chains i)
slot_named chains (added.Behind i) = option_map (λ (d : Typed1). Behind d.name.id) (slice_get chains i)

abbrev pub extra_entry : List Typed1 → ExtraAttr → Option Entry
extra_entry chains a = option_map (entry a.sym.0) (slot_named chains a.slot)

abbrev pub all_extra : List Typed1 → List ExtraAttr → List Entry
all_extra chains attrs = filter_map (extra_entry chains) attrs

-- how many plain computations there are, and how many a rule of the nonterminal has at most
unfoldable pub is_plain : Comp → Bool
is_plain c = is_message c

abbrev pub plain_count : List Comp → ℕ
plain_count comps = count_by is_plain comps

abbrev pub more_of : ℕ → ℕ → RuleItem → ℕ
more_of s most r = if nat_eq (left_of r) s then max most (plain_count r.body) else most

abbrev pub most_of : ℕ → List RuleItem → ℕ
most_of s rules = fold (more_of s) 0 rules

unfoldable pub count_in : Counts → ℕ → ℕ
count_in counts s = unwrap_or (get nat_eq counts.numbers s) 0

-- the messages of a symbol that is no cell
abbrev pub messages : ℕ → ℕ → List Entry
messages x zero = []
messages x (suc n) = messages x n ++ entry x (Msg (suc n)) ∷ []

abbrev pub message_count : Counts → SymbolRow → ℕ
message_count counts row = elim row.class [ class.Cell ↦ 0 | _ ↦ count_in counts row.name.0 ]

abbrev pub all_messages : Counts → List SymbolRow → List Entry
all_messages counts rows = flat_map (λ (x : ℕ × SymbolRow). messages x.0 (message_count counts x.1)) (enumerated 0 rows)

-- the written ones, what the expansions add, messages, and the root's output
abbrev pub entries_of : Tables → Counts → Extra → Extra → Extra → List Entry
entries_of t counts including constituents chains = all_written t.symbols ++ all_extra t.spec.chains including.attrs ++ all_extra t.spec.chains constituents.attrs
    ++ all_extra t.spec.chains chains.attrs ++ all_messages counts t.symbols ++ entry t.root.0 Out ∷ []
