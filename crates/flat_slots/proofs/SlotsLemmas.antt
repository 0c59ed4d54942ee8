-- The table of attributes is that of the definition.
use Rattle.std.specs.Prelude.{Contains, slice_get, nat_eq, map, unwrap_or}
use Rattle.std.proofs.Common.{◌≡◌, ◌∙◌, ℕ, suc, ◌<◌, ◌≤◌, inl, inr, List, [], ◌∷◌, ◌++◌, length, Option, Some, refl, sym, ap, subst, arith}
use Rattle.std.proofs.lemmas.Bool.{cases_lt}
use Rattle.std.proofs.lemmas.Option.{slice_get_within, slice_get_past}
use Rattle.std.proofs.lemmas.List.Elements.{Contains-append_cases, Contains-append_left, Contains-append_right}
use Rattle.lido_base.specs.Environment.{Environment}
use Rattle.lido_base.proofs.Lists.{contains-nil, contains-map, map-contains}
use Rattle.lido_base.proofs.TreeLemmas.{both}
use Rattle.lido_syntax.specs.declared.spec.Spec.{Spec}
use Rattle.lido_syntax.specs.declared.spec.Typed1.{Typed1}
use Rattle.lido_syntax.specs.Production.{name_of}
use Rattle.lido_symbols.specs.Numbers.{place_in, enumerated}
use Rattle.flat_grammar.specs.declared.flat.FlatAttr.{FlatAttr}
use Rattle.need_graphs.specs.Clear.{AreClear}
use Rattle.need_graphs.proofs.OrderLemmas.{Pairs, pairs-all}
use Rattle.need_graphs.proofs.PlaceLemmas.{place-of-number}
use Rattle.rule_tables.specs.declared.table.Tables.{Tables as Rows}
use Rattle.rule_tables.specs.declared.table.SymbolRow.{SymbolRow}
use Rattle.rule_tables.specs.declared.table.SymbolClass.{SymbolClass}
use Rattle.rule_tables.specs.declared.table.SymbolClass.TheVariants as class
use Rattle.rule_tables.specs.declared.extra.Extra.{Extra}
use Rattle.rule_tables.specs.declared.forced.Forced.{Forced}
use Rattle.rule_tables.specs.ForcedOf.{AreForcedOf, AreNumbersOf}
use Rattle.rule_tables.specs.Needs.{Tables, Needs}
use Rattle.rule_tables.specs.Shares.{IncludingShare, ConstituentsShare, ChainShare}
use Rattle.rule_tables.specs.Slots.{Slot, Written, Inc, Con, Front, Behind, Msg, Out, HasSlot, IsBefore, AreSlots, group}
use Rattle.rule_tables.specs.ExtraOf.{IsExtra, IsOfIncluding, IsOfConstituents, IsOfChains}
use Rattle.flat_slots.specs.declared.slot.Slot.{Slot as Named}
use Rattle.flat_slots.specs.declared.slot.Slot.TheVariants as named
use Rattle.flat_slots.specs.declared.entries.Entry.{Entry}
use Rattle.flat_slots.specs.declared.counts.Counts.{Counts}
use Rattle.flat_slots.specs.declared.table.SlotTable.{SlotTable}
use Rattle.flat_slots.specs.Named.{slot_of}
use Rattle.flat_slots.specs.Entries.{entry, attrs_in, all_written, all_extra, most_of, count_in, all_messages}
use Rattle.flat_slots.specs.Slots.{own_slots, row_at, row_of, slots_in}
use Rattle.flat_slots.proofs.RowLemmas.{all-added, pairs-named}
use Rattle.flat_slots.proofs.EntryLemmas.{own-contains, contains-own, own-pairs, pairs-of}
use Rattle.flat_slots.proofs.BelowLemmas.{including-below, wanted-below, chain-below}
use Rattle.flat_slots.proofs.MemberLemmas.{IsRow, of_symbol, of_cell, row-is, to-names, symbol-row, written-is, written-has, extra-is, extra-has, message-is, message-has, output-is, output-has}
use Rattle.flat_slots.proofs.OrderLemmas.{strict, all-messages-ordered, all-written-ordered, extra-ordered, behind, up-to, IsUpTo, IsFrom}

module _ (env : Environment) (forced : Forced) (are : AreForcedOf env forced) (T : Tables forced.tables.spec) (numbers : AreNumbersOf env forced T) (clear : AreClear forced.tables.spec)
    (needs : Needs forced.tables.spec T) (including constituents chains : Extra)
    (of_including : IsExtra forced.tables T needs IsOfIncluding (IncludingShare forced.tables.spec T needs) including)
    (of_constituents : IsExtra forced.tables T needs IsOfConstituents (ConstituentsShare forced.tables.spec T needs) constituents)
    (of_chains : IsExtra forced.tables T needs IsOfChains (ChainShare forced.tables.spec T needs) chains)
    (counts : Counts) (counted : (s : ℕ) → count_in counts s ≡ most_of s forced.tables.spec.rules)
  where
    abbrev t : Rows
    t = forced.tables

    abbrev spec : Spec
    spec = t.spec

    abbrev Has : ℕ → Slot → Type 0
    Has = HasSlot spec T needs

    -- the parts of the list
    abbrev W : List Entry
    W = all_written t.symbols

    abbrev I : List Entry
    I = all_extra spec.chains including.attrs

    abbrev C : List Entry
    C = all_extra spec.chains constituents.attrs

    abbrev H : List Entry
    H = all_extra spec.chains chains.attrs

    abbrev M : List Entry
    M = all_messages counts t.symbols

    abbrev O : List Entry
    O = entry t.root.0 named.Out ∷ []

    abbrev all : List Entry
    all = W ++ I ++ C ++ H ++ M ++ O

    -- ---- what is in the list

    has-again : (x : ℕ) (u : Named) (s : Slot) → slot_of u ≡ s → Has x s → Has x (slot_of u)
    has-again x u s e h = subst (Has x) (sym e) h

    pub all-is : (x : ℕ) (u : Named) → Contains all (entry x u) → Has x (slot_of u)
    all-is x u m = elim (Contains-append_cases (W ++ I ++ C ++ H ++ M) O (entry x u) m) [
      | inr o ↦ let (e, h) = output-is env forced are T numbers clear needs x u o in has-again x u Out e h
      | inl m ↦ elim (Contains-append_cases (W ++ I ++ C ++ H) M (entry x u) m) [
        | inr o ↦ let (j, e, h) = message-is env forced are T numbers clear needs counts counted x u o in has-again x u (Msg (suc j)) e h
        | inl m ↦ elim (Contains-append_cases (W ++ I ++ C) H (entry x u) m) [
          | inr o ↦ (extra-is t T needs IsOfChains (ChainShare spec T needs) chains of_chains x u o).1
          | inl m ↦ elim (Contains-append_cases (W ++ I) C (entry x u) m) [
            | inr o ↦ (extra-is t T needs IsOfConstituents (ConstituentsShare spec T needs) constituents of_constituents x u o).1
            | inl m ↦ elim (Contains-append_cases W I (entry x u) m) [
              | inr o ↦ (extra-is t T needs IsOfIncluding (IncludingShare spec T needs) including of_including x u o).1
              | inl o ↦ let (a, e, h) = written-is env forced are T numbers clear needs x u o in has-again x u (Written a) e h
            ]
          ]
        ]
      ]
    ]

    in-W : (e : Entry) → Contains W e → Contains all e
    in-W e m = Contains-append_left (W ++ I ++ C ++ H ++ M) O e (Contains-append_left (W ++ I ++ C ++ H) M e (Contains-append_left (W ++ I ++ C) H e (Contains-append_left (W ++ I) C e (Contains-append_left W I e m))))

    in-I : (e : Entry) → Contains I e → Contains all e
    in-I e m = Contains-append_left (W ++ I ++ C ++ H ++ M) O e (Contains-append_left (W ++ I ++ C ++ H) M e (Contains-append_left (W ++ I ++ C) H e (Contains-append_left (W ++ I) C e (Contains-append_right W I e m))))

    in-C : (e : Entry) → Contains C e → Contains all e
    in-C e m = Contains-append_left (W ++ I ++ C ++ H ++ M) O e (Contains-append_left (W ++ I ++ C ++ H) M e (Contains-append_left (W ++ I ++ C) H e (Contains-append_right (W ++ I) C e m)))

    in-H : (e : Entry) → Contains H e → Contains all e
    in-H e m = Contains-append_left (W ++ I ++ C ++ H ++ M) O e (Contains-append_left (W ++ I ++ C ++ H) M e (Contains-append_right (W ++ I ++ C) H e m))

    in-M : (e : Entry) → Contains M e → Contains all e
    in-M e m = Contains-append_left (W ++ I ++ C ++ H ++ M) O e (Contains-append_right (W ++ I ++ C ++ H) M e m)

    in-O : (e : Entry) → Contains O e → Contains all e
    in-O e m = Contains-append_right (W ++ I ++ C ++ H ++ M) O e m

    abbrev IsListed : ℕ → Slot → Type 0
    IsListed x s = (u : Named) × Contains all (entry x u) × (slot_of u ≡ s)

    pub all-has : (x : ℕ) (s : Slot) → Has x s → IsListed x s
    all-has x (Written a) h = let (u, m, e) = written-has env forced are T numbers clear needs x a h in (u, in-W (entry x u) m, e)
    all-has x (Inc i) h = let (u, m, e) = extra-has t T needs IsOfIncluding (IncludingShare spec T needs) including of_including (λ a its. its) x (Inc i) tt h in (u, in-I (entry x u) m, e)
    all-has x (Con n) h = let (u, m, e) = extra-has t T needs IsOfConstituents (ConstituentsShare spec T needs) constituents of_constituents (λ a its. its) x (Con n) tt h in (u, in-C (entry x u) m, e)
    all-has x (Front c) h = let (u, m, e) = extra-has t T needs IsOfChains (ChainShare spec T needs) chains of_chains (λ a its. its) x (Front c) tt h in (u, in-H (entry x u) m, e)
    all-has x (Behind c) h = let (u, m, e) = extra-has t T needs IsOfChains (ChainShare spec T needs) chains of_chains (λ a its. its) x (Behind c) tt h in (u, in-H (entry x u) m, e)
    all-has x (Msg j) h = let (u, m, e) = message-has env forced are T numbers clear needs counts counted x j h in (u, in-M (entry x u) m, e)
    all-has x Out h = (named.Out, in-O (entry x named.Out) (output-has env forced are T numbers clear needs x h), refl)

    -- ---- symbols and cells alone have attributes

    in-row : (x s : ℕ) → slice_get T.symbols x ≡ Some s → x < length t.symbols
    in-row x s e = let (row, at, of) = symbol-row env forced are T numbers clear x s (to-names env forced are T numbers clear x s e) in slice_get_within t.symbols x row at

    pub has-below : (x : ℕ) (s : Slot) → Has x s → x < length t.symbols
    has-below x (Written a) (s, e, is, h) = in-row x s e
    has-below x (Inc i) (pairs, at, h) = including-below env forced are T numbers pairs x ((needs.including_exactly pairs x).0 h)
    has-below x (Con n) (k, m, e, h) = wanted-below env forced are T numbers k x ((needs.wanted_exactly k x).0 (both (needs.wanted k x) (needs.reaches k x) h).0)
    has-below x (Front c) (m, h) = chain-below env forced are T numbers c x ((needs.chain_exactly c x).0 h)
    has-below x (Behind c) (m, h) = chain-below env forced are T numbers c x ((needs.chain_exactly c x).0 h)
    has-below x (Msg j) (s, e, h) = in-row x s e
    has-below x Out (s, e, h) = in-row x s e

    -- ---- order

    abbrev IsOrdered : List Entry → Type 0
    IsOrdered = Pairs (λ (e f : Entry). e.sym ≡ f.sym → IsBefore spec T needs (slot_of e.slot) (slot_of f.slot))

    abbrev IsIn : ℕ → List Entry → Type 0
    IsIn n es = (e : Entry) → Contains es e → group spec T needs (slot_of e.slot) ≡ n

    written-group : IsIn 0 W
    written-group e m = let (a, is, h) = written-is env forced are T numbers clear needs e.sym e.slot m in ap (group spec T needs) is

    of-including : (s : Slot) → IsOfIncluding s → group spec T needs s ≡ 1
    of-including (Inc i) h = refl
    of-including (Written a) h = absurd h
    of-including (Con n) h = absurd h
    of-including (Front c) h = absurd h
    of-including (Behind c) h = absurd h
    of-including (Msg j) h = absurd h
    of-including Out h = absurd h

    of-constituents : (s : Slot) → IsOfConstituents s → group spec T needs s ≡ 2
    of-constituents (Con n) h = refl
    of-constituents (Written a) h = absurd h
    of-constituents (Inc i) h = absurd h
    of-constituents (Front c) h = absurd h
    of-constituents (Behind c) h = absurd h
    of-constituents (Msg j) h = absurd h
    of-constituents Out h = absurd h

    of-chains : (s : Slot) → IsOfChains s → group spec T needs s ≡ 3
    of-chains (Front c) h = refl
    of-chains (Behind c) h = refl
    of-chains (Written a) h = absurd h
    of-chains (Inc i) h = absurd h
    of-chains (Con n) h = absurd h
    of-chains (Msg j) h = absurd h
    of-chains Out h = absurd h

    including-group : IsIn 1 I
    including-group e m = of-including (slot_of e.slot) (extra-is t T needs IsOfIncluding (IncludingShare spec T needs) including of_including e.sym e.slot m).0

    constituents-group : IsIn 2 C
    constituents-group e m = of-constituents (slot_of e.slot) (extra-is t T needs IsOfConstituents (ConstituentsShare spec T needs) constituents of_constituents e.sym e.slot m).0

    chains-group : IsIn 3 H
    chains-group e m = of-chains (slot_of e.slot) (extra-is t T needs IsOfChains (ChainShare spec T needs) chains of_chains e.sym e.slot m).0

    messages-group : IsIn 4 M
    messages-group e m = let (j, is, h) = message-is env forced are T numbers clear needs counts counted e.sym e.slot m in ap (group spec T needs) is

    output-group : IsIn 5 O
    output-group e m = let (is, h) = output-is env forced are T numbers clear needs e.sym e.slot m in ap (group spec T needs) is

    low : (n : ℕ) (es : List Entry) → IsIn n es → IsUpTo spec T needs n es
    low n es its e m = let g = its e m in omega (arith, g)

    high : (n : ℕ) (es : List Entry) → IsIn (suc n) es → IsFrom spec T needs n es
    high n es its e m = let g = its e m in omega (arith, g)

    up : (n : ℕ) (es fs : List Entry) → IsUpTo spec T needs n es → IsIn (suc n) fs → IsUpTo spec T needs (suc n) (es ++ fs)
    up n es fs l its = up-to spec T needs n (suc n) es fs l (omega arith) (low (suc n) fs its)

    abbrev IsAttrBefore : FlatAttr → FlatAttr → Type 0
    IsAttrBefore a b = place_in (nat_eq a.name.0) T.attributes < place_in (nat_eq b.name.0) T.attributes

    row-ordered : (x : ℕ) (row : SymbolRow) → Contains (enumerated 0 t.symbols) (x, row) → Pairs IsAttrBefore (attrs_in row)
    row-ordered x row m = by (row-is env forced are T numbers clear x row (place-of-number t.symbols (x, row) m))
      where
        part : Pairs IsAttrBefore row.attrs → Pairs IsAttrBefore (attrs_in row)
        part p = go row.class
          where
            go : (k : SymbolClass) → Pairs IsAttrBefore (elim k as (λ _. List FlatAttr) [ class.Nonterminal ↦ row.attrs | _ ↦ [] ])
            go class.Nonterminal = p
            go (class.Terminal ty) = tt
            go class.Class = tt
            go class.Cell = tt

        by : IsRow env forced are T numbers clear x row → Pairs IsAttrBefore (attrs_in row)
        by (of_symbol s e of) = part (pairs-of IsAttrBefore row.attrs (of.attrs.by_place T.attributes numbers.numbers.attributes))
        by (of_cell k none) = part (subst (λ (l : List FlatAttr). Pairs IsAttrBefore l) (sym none) tt)

    chains-apart : Pairs (λ (c d : Typed1). name_of c.name ≡ name_of d.name → ⊥) spec.chains
    chains-apart = pairs-of (λ (c d : Typed1). name_of c.name ≡ name_of d.name → ⊥) spec.chains clear.chains

    pub all-ordered : IsOrdered all
    all-ordered =
        let w = all-written-ordered spec T needs t.symbols row-ordered in
        let i = extra-ordered spec T needs chains-apart including.attrs of_including.in_order in
        let c = extra-ordered spec T needs chains-apart constituents.attrs of_constituents.in_order in
        let h = extra-ordered spec T needs chains-apart chains.attrs of_chains.in_order in
        let m = all-messages-ordered spec T needs counts t.symbols in
        let o : IsOrdered O = ((λ e k. absurd (contains-nil e k)), tt) in
        let l0 = low 0 W written-group in
        let l1 = up 0 W I l0 including-group in
        let l2 = up 1 (W ++ I) C l1 constituents-group in
        let l3 = up 2 (W ++ I ++ C) H l2 chains-group in
        let l4 = up 3 (W ++ I ++ C ++ H) M l3 messages-group in
        let p1 = behind spec T needs 0 W I l0 (high 0 I including-group) w i in
        let p2 = behind spec T needs 1 (W ++ I) C l1 (high 1 C constituents-group) p1 c in
        let p3 = behind spec T needs 2 (W ++ I ++ C) H l2 (high 2 H chains-group) p2 h in
        let p4 = behind spec T needs 3 (W ++ I ++ C ++ H) M l3 (high 3 M messages-group) p3 m in
        behind spec T needs 4 (W ++ I ++ C ++ H ++ M) O l4 (high 4 O output-group) p4 o

    -- ---- the table

    module _ (table : SlotTable) (count : length table.rows ≡ length t.symbols) (rows : (x : ℕ) → x < length t.symbols → row_at table.rows x ≡ row_of x all) where
      own-ordered : (x : ℕ) → Pairs (λ u v. IsBefore spec T needs (slot_of u) (slot_of v)) (own_slots x all)
      own-ordered x = own-pairs (IsBefore spec T needs) x all all-ordered

      row-same : (x : ℕ) → x < length t.symbols → row_at table.rows x ≡ own_slots x all
      row-same x below = rows x below ∙ all-added (IsBefore spec T needs) (strict spec T needs) (own_slots x all) (own-ordered x)

      row-past : (x : ℕ) → length t.symbols ≤ x → row_at table.rows x ≡ []
      row-past x l = ap (λ (o : Option (List Named)). unwrap_or o []) (slice_get_past table.rows x (omega (arith, l, count)))

      slots-are : (x : ℕ) (s : Slot) → Contains (slots_in table x) s → Has x s
      slots-are x s m = elim (cases_lt x (length t.symbols)) [
        | inl below ↦
            let (u, among, e) = contains-map slot_of (row_at table.rows x) s m in
            subst (Has x) e (all-is x u (own-contains x all u (subst (λ (l : List Named). Contains l u) (row-same x below) among)))
        | inr past ↦ absurd (contains-nil s (subst (λ (l : List Named). Contains (map slot_of l) s) (row-past x past) m))
      ]

      are-slots : (x : ℕ) (s : Slot) → Has x s → Contains (slots_in table x) s
      are-slots x s h =
          let (u, among, e) = all-has x s h in
          let own = contains-own x all u among in
          subst (λ (z : Slot). Contains (slots_in table x) z) e (map-contains slot_of (row_at table.rows x) u (subst (λ (l : List Named). Contains l u) (sym (row-same x (has-below x s h))) own))

      in-order : (x : ℕ) → Pairs (IsBefore spec T needs) (slots_in table x)
      in-order x = elim (cases_lt x (length t.symbols)) [
        | inl below ↦ subst (λ (l : List Named). Pairs (IsBefore spec T needs) (map slot_of l)) (sym (row-same x below)) (pairs-named (IsBefore spec T needs) (strict spec T needs) (own_slots x all) (own-ordered x))
        | inr past ↦ subst (λ (l : List Named). Pairs (IsBefore spec T needs) (map slot_of l)) (sym (row-past x past)) tt
      ]

      pub slots-of : AreSlots spec T needs (slots_in table)
      slots-of = record { all = λ x s. (slots-are x s, are-slots x s); in_order = λ x. pairs-all (IsBefore spec T needs) (slots_in table x) (in-order x) }
