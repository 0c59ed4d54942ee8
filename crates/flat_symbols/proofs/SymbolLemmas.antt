-- The symbols that are made are those of the definition.
use Rattle.std.specs.Prelude.{Contains, All, slice_get, map, codes}
use Rattle.std.specs.List.{AllZip}
use Rattle.std.proofs.Common.{◌≡◌, ◌∙◌, ℕ, ◌+◌, ◌<◌, ◌≤◌, inl, inr, List, [], ◌∷◌, ◌++◌, length, Some, None, refl, sym, ap, subst, arith, zero-add}
use Rattle.std.proofs.lemmas.List.{length-map}
use Rattle.std.proofs.lemmas.Slice.Zip.{AllZip-long}
use Rattle.lido_base.specs.Environment.{Environment}
use Rattle.lido_base.specs.Faults.{HasNone}
use Rattle.lido_base.proofs.Lists.{contains-here, contains-later, contains-place}
use Rattle.lido_syntax.specs.declared.spec.Spec.{Spec}
use Rattle.lido_syntax.specs.declared.spec.RuleItem.{RuleItem}
use Rattle.lido_syntax.specs.declared.fault.SpecFault.{SpecFault}
use Rattle.lido_syntax.specs.Functions.{text_of}
use Rattle.lido_symbols.specs.Numbers.{enumerated}
use Rattle.flat_grammar.specs.declared.flat.FlatAttr.{FlatAttr}
use Rattle.flat_grammar.specs.declared.flat.FlatSymbol.{FlatSymbol}
use Rattle.table_faults.specs.Faults.{table_faults}
use Rattle.need_graphs.specs.Clear.{AreClear}
use Rattle.need_graphs.proofs.EdgeLemmas.{zip-left}
use Rattle.need_graphs.proofs.PlaceLemmas.{number-at, all-of}
use Rattle.rule_tables.specs.declared.table.Tables.{Tables as Rows}
use Rattle.rule_tables.specs.declared.table.SymbolRow.{SymbolRow}
use Rattle.rule_tables.specs.declared.table.SymbolClass.{SymbolClass}
use Rattle.rule_tables.specs.declared.table.SymbolClass.TheVariants as class
use Rattle.rule_tables.specs.declared.extra.Extra.{Extra}
use Rattle.rule_tables.specs.declared.forced.Forced.{Forced}
use Rattle.rule_tables.specs.ExtraOf.{IsExtra, IsOfIncluding, IsOfConstituents}
use Rattle.rule_tables.specs.Flat.{IsAttribute, IsSymbolType}
use Rattle.rule_tables.specs.ForcedOf.{AreForcedOf, AreNumbersOf}
use Rattle.rule_tables.specs.Needs.{Tables, Needs}
use Rattle.rule_tables.specs.PlainRules.{lists}
use Rattle.rule_tables.specs.RuleNames.{HasIds}
use Rattle.rule_tables.specs.Shares.{IncludingShare, ConstituentsShare}
use Rattle.rule_tables.specs.Slots.{Slot, AreSlots}
use Rattle.rule_tables.specs.TablesOf.{named_symbols, IsSymbolClass}
use Rattle.flat_slots.specs.declared.slot.Slot.{Slot as Named}
use Rattle.flat_slots.specs.declared.table.SlotTable.{SlotTable}
use Rattle.flat_slots.specs.Named.{slot_of}
use Rattle.flat_slots.specs.Slots.{row_at, slots_in}
use Rattle.flat_symbols.specs.declared.attributes.Added.{Added}
use Rattle.flat_symbols.specs.Attributes.{IsMade, AreAddedOf}
use Rattle.flat_symbols.specs.Rows.{terminal_of, IsSymbolOf}
use Rattle.flat_symbols.specs.Symbols.{IsTooManyAttributes, AreSymbols}
use Rattle.flat_symbols.proofs.AttributeLemmas.{attribute-is}
use Rattle.flat_symbols.proofs.ClassLemmas.{class-bare}

-- attributes by what the definition names them
zip-named : (P : Named → FlatAttr → Type 0) (Q : Slot → FlatAttr → Type 0) (us : List Named) (attrs : List FlatAttr)
    → ((u : Named) (a : FlatAttr) → Contains us u → P u a → Q (slot_of u) a)
    → AllZip P us attrs → AllZip Q (map slot_of us) attrs
zip-named P Q [] [] h all = all
zip-named P Q [] (a ∷ attrs) h all = absurd all
zip-named P Q (u ∷ us) [] h all = absurd all
zip-named P Q (u ∷ us) (a ∷ attrs) h all = (h u a (contains-here u us) all.0, zip-named P Q us attrs (λ v b m. h v b (contains-later u v us m)) all.1)

-- the symbols that are made of the rows
abbrev pub IsAt : Environment → ℕ → Added → SlotTable → ℕ × SymbolRow → FlatSymbol → Type 0
IsAt env limit told table z y = IsSymbolOf env limit told z.1 (row_at table.rows z.0) y

-- that at a place
symbol-at : (env : Environment) (limit : ℕ) (told : Added) (table : SlotTable) (rows : List SymbolRow) (symbols : List FlatSymbol)
    → AllZip (IsAt env limit told table) (enumerated 0 rows) symbols
    → (x : ℕ) (y : FlatSymbol) → slice_get symbols x ≡ Some y
    → (row : SymbolRow) × (slice_get rows x ≡ Some row) × IsSymbolOf env limit told row (row_at table.rows x) y
symbol-at env limit told table rows symbols all x y e =
    let (z, at, is) = zip-left (IsAt env limit told table) (enumerated 0 rows) symbols x y all e in
    let (number, there) = number-at 0 rows x z at in
    (z.1, there, subst (λ (n : ℕ). IsSymbolOf env limit told z.1 (row_at table.rows n) y) (number ∙ zero-add x) is)

-- there are few attributes
pub few-each : (env : Environment) (limit : ℕ) (told : Added) (table : SlotTable) (rows : List SymbolRow) (symbols : List FlatSymbol)
    → AllZip (IsAt env limit told table) (enumerated 0 rows) symbols
    → ((x : ℕ) → length (row_at table.rows x) ≤ 256) → All (λ (y : FlatSymbol). length y.attrs ≤ 256) symbols
few-each env limit told table rows symbols all few = all-of (λ (y : FlatSymbol). length y.attrs ≤ 256) symbols (λ y m.
    let (x, e) = contains-place symbols y m in
    let (row, at, is) = symbol-at env limit told table rows symbols all x y e in
    let same = AllZip-long (IsMade env limit told row.attrs) (row_at table.rows x) y.attrs is.attrs in
    let short = few x in
    omega (arith, same, short))

pub not-many : (table : SlotTable) → ((x : ℕ) → length (row_at table.rows x) ≤ 256) → (f : SpecFault) → IsTooManyAttributes (slots_in table) f → ⊥
not-many table few f ((x, more), e) = let short = few x in let same = length-map (row_at table.rows x) slot_of in omega (arith, short, same, more)

pub too-many : (table : SlotTable) → (x : ℕ) × (256 < length (row_at table.rows x)) → (x : ℕ) × (256 < length (slots_in table x))
too-many table (x, more) = (x, (let same = length-map (row_at table.rows x) slot_of in omega (arith, same, more)))

module _ (early env : Environment) (forced : Forced) (are : AreForcedOf env forced) (T : Tables forced.tables.spec)
    (numbers : AreNumbersOf env forced T) (needs : Needs forced.tables.spec T)
    (clear : AreClear forced.tables.spec) (none : HasNone (table_faults forced.tables.spec early)) (including constituents : Extra)
    (of_including : IsExtra forced.tables T needs IsOfIncluding (IncludingShare forced.tables.spec T needs) including)
    (of_constituents : IsExtra forced.tables T needs IsOfConstituents (ConstituentsShare forced.tables.spec T needs) constituents)
    (table : SlotTable) (slots : AreSlots forced.tables.spec T needs (slots_in table)) (texts : List (List ℕ)) (ids : HasIds texts forced.tables.spec)
    (told : Added) (is_told : AreAddedOf forced.tables including constituents told)
    (symbols : List FlatSymbol) (count : length symbols ≡ length forced.tables.symbols)
    (all : AllZip (IsAt env (length texts) told table) (enumerated 0 forced.tables.symbols) symbols)
  where
    abbrev t : Rows
    t = forced.tables

    abbrev spec : Spec
    spec = t.spec

    abbrev names : List ℕ
    names = named_symbols t

    abbrev made-at : (x : ℕ) (y : FlatSymbol) → slice_get symbols x ≡ Some y
        → (row : SymbolRow) × (slice_get t.symbols x ≡ Some row) × IsSymbolOf env (length texts) told row (row_at table.rows x) y
    made-at = symbol-at env (length texts) told table t.symbols symbols all

    attributes-are : (x : ℕ) (y : FlatSymbol) → slice_get symbols x ≡ Some y
        → AllZip (IsAttribute spec T needs (slots_in table) env x) (slots_in table x) y.attrs
    attributes-are x y e =
        let (row, at, is) = made-at x y e in
        zip-named (IsMade env (length texts) told row.attrs) (IsAttribute spec T needs (slots_in table) env x) (row_at table.rows x) y.attrs
        (attribute-is env forced are T numbers needs including constituents of_including of_constituents table slots texts ids told is_told x row at) is.attrs

    type-is : (s : ℕ) (k : SymbolClass) → IsSymbolClass spec env names s k → IsSymbolType spec T needs (slots_in table) env s (terminal_of k)
    type-is s class.Nonterminal h = h
    type-is s (class.Terminal ty) h = (h.0, inl h)
    type-is s class.Class h = (clear.classes s h, inr ((λ other. class-bare spec early none s other h), refl))
    type-is s class.Cell h = absurd h

    named-is : (x s : ℕ) (y : FlatSymbol) → slice_get names x ≡ Some s → slice_get symbols x ≡ Some y
        → (y.name.0 ≡ s) × IsSymbolType spec T needs (slots_in table) env s y.terminal
    named-is x s y there e =
        let (row, at, is) = made-at x y e in
        let of = are.tables.rows x s row there at in
        (ap (λ id. id.0) is.name ∙ of.name, subst (IsSymbolType spec T needs (slots_in table) env s) (sym is.terminal) (type-is s row.class of.class))

    cell-is : (k i : ℕ) (r : RuleItem) (y : FlatSymbol) → slice_get (lists spec names) k ≡ Some i → slice_get spec.rules i ≡ Some r
        → slice_get symbols (length names + k) ≡ Some y
        → (text_of env y.name.0 ≡ codes "$" ++ text_of env r.name.0) × (y.terminal ≡ None)
    cell-is k i r y place rule e =
        let (row, at, is) = made-at (length names + k) y e in
        let of = are.tables.cells k i r row place rule at in
        (ap (λ id. text_of env id.0) is.name ∙ of.name, is.terminal ∙ ap terminal_of of.class)

    pub are-symbols : AreSymbols spec T needs (slots_in table) env symbols
    are-symbols = record {
      count = count ∙ subst (λ (l : List ℕ). length t.symbols ≡ length l + length (lists spec l)) (sym numbers.symbols) are.tables.count;
      attributes = attributes-are;
      named = λ x s y there. named-is x s y (subst (λ (l : List ℕ). slice_get l x ≡ Some s) numbers.symbols there);
      cells = λ k i r y place rule e. cell-is k i r y (subst (λ (l : List ℕ). slice_get (lists spec l) k ≡ Some i) numbers.symbols place) rule
          (subst (λ (l : List ℕ). slice_get symbols (length l + k) ≡ Some y) numbers.symbols e);
    }
