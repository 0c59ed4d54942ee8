-- The list of all attributes holds those that the specification gives each symbol, and no others.
use Rattle.std.specs.Prelude.{max, IsTrue, Contains, slice_get, nat_eq, count_by, fold, map, option_map}
use Rattle.std.proofs.Common.{◌≡◌, ◌∙◌, ℕ, zero, suc, ◌+◌, ◌-◌, ◌<◌, ◌≤◌, ◌⊎◌, inl, inr, Bool, true, false, if◌then◌else◌, List, [], ◌∷◌, ◌++◌, length, Option, Some, None, refl, sym, ap, subst, arith, eqb-true, eq-eqb}
use Rattle.std.proofs.lemmas.Option.{none-some, same_Some, slice_get_within}
use Rattle.std.proofs.lemmas.Bool.{cases_lt}
use Rattle.std.proofs.lemmas.List.Elements.{All-contains, Contains-append_left, Contains-push, Contains-push_cases}
use Rattle.std.proofs.lemmas.List.Sums.{length-filter}
use Rattle.lido_base.specs.Environment.{Environment}
use Rattle.lido_base.proofs.Lists.{contains-nil, contains-cons, contains-here, contains-later, contains-map, map-contains, contains-flat, flat-contains, place-contains, place-below}
use Rattle.lido_syntax.specs.declared.spec.RuleItem.{RuleItem}
use Rattle.lido_syntax.specs.declared.spec.Comp.{Comp}
use Rattle.lido_syntax.specs.declared.spec.Typed1.{Typed1}
use Rattle.lido_syntax.specs.Production.{left_of, right_of, symbols_of}
use Rattle.lido_syntax.specs.Computation.{is_message, messages_of}
use Rattle.lido_syntax.specs.Symbols.{IsNonterminal, IsRoot}
use Rattle.lido_symbols.specs.Numbers.{enumerated, AreNumbered}
use Rattle.lido_symbols.specs.Uses.{symbol_uses}
use Rattle.flat_grammar.specs.declared.flat.FlatAttr.{FlatAttr}
use Rattle.need_graphs.specs.Clear.{AreClear}
use Rattle.need_graphs.proofs.ListLemmas.{contains-filtered, filtered-contains}
use Rattle.need_graphs.proofs.RangeLemmas.{named as symbol-named}
use Rattle.lido_base.proofs.TreeLemmas.{contains-test}
use Rattle.flat_slots.proofs.PairLemmas.{list-rule, some-mapped}
use Rattle.need_graphs.proofs.PlaceLemmas.{numbered-in, place-of-number, past, pair-at, read-at}
use Rattle.rule_tables.proofs.SlotLemmas.{number-at_place}
use Rattle.rule_tables.specs.declared.table.Tables.{Tables as Rows}
use Rattle.rule_tables.specs.declared.table.SymbolRow.{SymbolRow}
use Rattle.rule_tables.specs.declared.table.SymbolClass.{SymbolClass}
use Rattle.rule_tables.specs.declared.table.SymbolClass.TheVariants as class
use Rattle.rule_tables.specs.declared.extra.Extra.{Extra}
use Rattle.rule_tables.specs.declared.extra.Slot.{Slot as Added}
use Rattle.rule_tables.specs.declared.extra.Slot.TheVariants as added
use Rattle.rule_tables.specs.declared.forced.Forced.{Forced}
use Rattle.rule_tables.specs.PlainRules.{PlainRule, lists}
use Rattle.rule_tables.specs.Forced.{Force}
use Rattle.rule_tables.specs.Shares.{Term}
use Rattle.rule_tables.specs.ForcedOf.{AreForcedOf, AreNumbersOf}
use Rattle.rule_tables.specs.Needs.{Tables, Needs}
use Rattle.rule_tables.specs.Slots.{Slot, Written, Inc, Con, Front, Behind, Msg, Out, HasSlot}
use Rattle.rule_tables.specs.TablesOf.{named_symbols, IsSymbolClass, IsRowOf}
use Rattle.symbol_attributes.specs.Written.{IsWrittenAttribute}
use Rattle.rule_tables.specs.ExtraOf.{IsSlotAs, IsExtra}
use Rattle.flat_slots.specs.declared.slot.Slot.{Slot as Named}
use Rattle.flat_slots.specs.declared.slot.Slot.TheVariants as named
use Rattle.flat_slots.specs.declared.entries.Entry.{Entry}
use Rattle.flat_slots.specs.declared.counts.Counts.{Counts}
use Rattle.flat_slots.specs.Named.{slot_of}
use Rattle.flat_slots.specs.Entries.{entry, attrs_in, written_entries, all_written, slot_named, extra_entry, all_extra, is_plain, plain_count, more_of, most_of, count_in, messages, message_count, all_messages}

-- ---- what a list of all attributes tells

sym-same : (x y : ℕ) (u v : Named) → entry x u ≡ entry y v → x ≡ y
sym-same x y u v e = ap (λ (z : Entry). z.sym) e

slot-same : (x y : ℕ) (u v : Named) → entry x u ≡ entry y v → u ≡ v
slot-same x y u v e = ap (λ (z : Entry). z.slot) e

-- ---- the most plain computations

plain-is : is_plain ≡ is_message
unfolding is_plain
plain-is = refl

count-of : (r : RuleItem) → plain_count r.body ≡ length (messages_of r)
count-of r = ap (λ (p : Comp → Bool). count_by p r.body) plain-is ∙ sym (length-filter is_message r.body)

-- some rule of the nonterminal has more than that many plain computations
abbrev pub HasMore : ℕ → ℕ → List RuleItem → Type 0
HasMore s j rules = (r : RuleItem) × Contains rules r × (left_of r ≡ s) × (j < plain_count r.body)

more-later : (s j : ℕ) (r : RuleItem) (rules : List RuleItem) → HasMore s j rules → HasMore s j (r ∷ rules)
more-later s j r rules (q, m, e, l) = (q, contains-later r q rules m, e, l)

most-from : (s j : ℕ) (rules : List RuleItem) (most : ℕ) → j < fold (more_of s) most rules → (j < most) ⊎ HasMore s j rules
most-from s j [] most h = inl h
most-from s j (r ∷ rules) most h = by (nat_eq (left_of r) s) refl (most-from s j rules (more_of s most r) h)
  where
    by : (b : Bool) → nat_eq (left_of r) s ≡ b → (j < (if b then max most (plain_count r.body) else most)) ⊎ HasMore s j rules → (j < most) ⊎ HasMore s j (r ∷ rules)
    by b e (inr k) = inr (more-later s j r rules k)
    by false e (inl l) = inl l
    by true e (inl l) = elim (of-max most (plain_count r.body) l) [ inl k ↦ inl k | inr k ↦ inr (r, contains-here r rules, eqb-true (left_of r) s e, k) ]
      where
        of-max : (a b : ℕ) → j < max a b → (j < a) ⊎ (j < b)
        of-max a b l = elim (cases_lt j a) [ inl k ↦ inl k | inr k ↦ inr (omega (arith, l, k)) ]

most-keeps : (s j : ℕ) (rules : List RuleItem) (most : ℕ) → j < most → j < fold (more_of s) most rules
most-keeps s j [] most h = h
most-keeps s j (r ∷ rules) most h = most-keeps s j rules (more_of s most r) (by (nat_eq (left_of r) s))
  where
    by : (b : Bool) → j < (if b then max most (plain_count r.body) else most)
    by true = omega (arith, h)
    by false = h

most-has : (s j : ℕ) (rules : List RuleItem) (most : ℕ) → HasMore s j rules → j < fold (more_of s) most rules
most-has s j [] most (r, m, e, l) = absurd (contains-nil r m)
most-has s j (q ∷ rules) most (r, m, e, l) = elim (contains-cons q r rules m) [
  | inr k ↦ most-has s j rules (more_of s most q) (r, k, e, l)
  | inl same ↦ most-keeps s j rules (more_of s most q)
      (subst (λ (n : ℕ). j < n) (sym (ap (λ (b : Bool). if b then max most (plain_count q.body) else most) (ap (λ (z : RuleItem). nat_eq (left_of z) s) same ∙ eq-eqb (left_of r) s e)))
      (let k = ap (λ (z : RuleItem). plain_count z.body) same in omega (arith, l, k)))
]

pub most-of : (s j : ℕ) (rules : List RuleItem) → j < most_of s rules → HasMore s j rules
most-of s j rules h = elim (most-from s j rules 0 h) [ inl k ↦ absurd (omega (arith, k)) | inr k ↦ k ]

pub message-in : (x n : ℕ) (e : Entry) → Contains (messages x n) e → (j : ℕ) × (j < n) × (entry x (named.Msg (suc j)) ≡ e)
message-in x zero e m = absurd (contains-nil e m)
message-in x (suc n) e m = elim (Contains-push_cases (messages x n) (entry x (named.Msg (suc n))) e m) [
  | inl k ↦ let (j, below, same) = message-in x n e k in (j, (omega (arith, below)), same)
  | inr same ↦ (n, (omega arith), same)
]

in-messages : (x n j : ℕ) → j < n → Contains (messages x n) (entry x (named.Msg (suc j)))
in-messages x zero j h = absurd (omega (arith, h))
in-messages x (suc n) j h = elim (cases_lt j n) [
  | inl k ↦ Contains-append_left (messages x n) (entry x (named.Msg (suc n)) ∷ []) (entry x (named.Msg (suc j))) (in-messages x n j k)
  | inr k ↦ let e : n ≡ j = omega (arith, h, k) in
      subst (λ (i : ℕ). Contains (messages x n ++ entry x (named.Msg (suc n)) ∷ []) (entry x (named.Msg (suc i)))) e (Contains-push (messages x n) (entry x (named.Msg (suc n))))
]

-- ---- a symbol has one number

module _ (uses : List (ℕ × ℕ)) (keys : List ℕ) (numbered : AreNumbered nat_eq uses keys) where
  -- before each naming of a key that stands twice there would be another one
  descent : (n at j k : ℕ) → at < n → Contains uses (at, j) → j ≡ k
      → ((at j : ℕ) → Contains uses (at, j) → IsTrue (nat_eq j k) → (first : ℕ) × (i : ℕ) × Contains uses (first, i) × IsTrue (nat_eq i k) × (first < at)) → ⊥
  descent zero at j k h m e before = absurd (omega (arith, h))
  descent (suc n) at j k h m e before =
      let (first, i, there, same, less) = before at j m (eq-eqb j k e) in
      descent n first i k (omega arith) there (eqb-true i k same) before

  before-itself : (i j k : ℕ) → slice_get keys i ≡ Some k → slice_get keys j ≡ Some k → i < j → ⊥
  before-itself i j k e f h =
      let (at, m) = numbered.named i k (slice_get_within keys i k e) in
      let ki = read-at keys i k k e in
      descent (suc at) at k k (omega arith) (subst (λ x. Contains uses (at, x)) ki m) refl
      (λ at j' m same. pair-at (λ k l. (at : ℕ) (j : ℕ) → Contains uses (at, j) → IsTrue (nat_eq j l) → (first : ℕ) × (i : ℕ) × Contains uses (first, i) × IsTrue (nat_eq i k) × (first < at))
      keys i j k k numbered.by_place e f h at j' m same)

  pub one-number : (i j k : ℕ) → slice_get keys i ≡ Some k → slice_get keys j ≡ Some k → i ≡ j
  one-number i j k e f = by (cases_lt i j) (cases_lt j i)
    where
      by : (i < j) ⊎ (j ≤ i) → (j < i) ⊎ (i ≤ j) → i ≡ j
      by (inl h) s = absurd (before-itself i j k e f h)
      by (inr h) (inl g) = absurd (before-itself j i k f e g)
      by (inr h) (inr g) = omega (arith, h, g)

-- ---- what an expansion adds

module _ (t : Rows) where
  -- the attribute is named as the definition does
  pub as-named : (x : ℕ) (a : Added) (u : Named) (s : Slot) → slot_named t.spec.chains a ≡ Some u → IsSlotAs t x a s → slot_of u ≡ s
  as-named x (added.Written id) u s e h = absurd (none-some u e)
  as-named x (added.Inc i) u (Inc j) e h = ap slot_of (sym (same_Some _ _ e)) ∙ ap Inc h
  as-named x (added.Inc i) u _ e h = absurd h
  as-named x (added.Con m) u (Con n) e h = ap slot_of (sym (same_Some _ _ e)) ∙ ap Con h
  as-named x (added.Con m) u _ e h = absurd h
  as-named x (added.Front i) u (Front c) e (d, at, name) =
      let made : Some (named.Front d.name.id) ≡ Some u = sym (ap (option_map (λ (d : Typed1). named.Front d.name.id)) at) ∙ e in
      ap slot_of (sym (same_Some _ _ made)) ∙ ap Front name
  as-named x (added.Front i) u _ e h = absurd h
  as-named x (added.Behind i) u (Behind c) e (d, at, name) =
      let made : Some (named.Behind d.name.id) ≡ Some u = sym (ap (option_map (λ (d : Typed1). named.Behind d.name.id)) at) ∙ e in
      ap slot_of (sym (same_Some _ _ made)) ∙ ap Behind name
  as-named x (added.Behind i) u _ e h = absurd h

  abbrev pub IsNo : (Slot → Type 0) → Type 0
  IsNo IsIts = (a : ℕ) → IsIts (Written a) → ⊥

  -- and has a name, unless it is a written one
  pub some-named : (IsIts : Slot → Type 0) → IsNo IsIts → (x : ℕ) (a : Added) (s : Slot) → IsIts s → IsSlotAs t x a s → (u : Named) × (slot_named t.spec.chains a ≡ Some u)
  some-named IsIts unwritten x (added.Written id) (Written a) its h = absurd (unwritten a its)
  some-named IsIts unwritten x (added.Written id) _ its h = absurd h
  some-named IsIts unwritten x (added.Inc i) s its h = (named.Inc i, refl)
  some-named IsIts unwritten x (added.Con m) s its h = (named.Con m, refl)
  some-named IsIts unwritten x (added.Front i) (Front c) its (d, at, name) = (named.Front d.name.id, ap (option_map (λ (d : Typed1). named.Front d.name.id)) at)
  some-named IsIts unwritten x (added.Front i) _ its h = absurd h
  some-named IsIts unwritten x (added.Behind i) (Behind c) its (d, at, name) = (named.Behind d.name.id, ap (option_map (λ (d : Typed1). named.Behind d.name.id)) at)
  some-named IsIts unwritten x (added.Behind i) _ its h = absurd h

  module _ (T : Tables t.spec) (needs : Needs t.spec T) (IsIts : Slot → Type 0) (Share : PlainRule → List Force → ℕ → Slot → Term → Type 0) (extra : Extra) (is : IsExtra t T needs IsIts Share extra) where
    pub extra-is : (x : ℕ) (u : Named) → Contains (all_extra t.spec.chains extra.attrs) (entry x u) → IsIts (slot_of u) × HasSlot t.spec T needs x (slot_of u)
    extra-is x u m =
        let (a, among, e) = contains-filtered (extra_entry t.spec.chains) extra.attrs (entry x u) m in
        let (v, made, same) = some-mapped (entry a.sym.0) (slot_named t.spec.chains a.slot) (entry x u) e in
        let (y, s, its, has, attr) = is.each a among in
        let at : y ≡ x = sym attr.symbol ∙ sym-same a.sym.0 x v u same in
        let of : s ≡ slot_of u = sym (as-named y a.slot v s made attr.slot) ∙ ap slot_of (slot-same a.sym.0 x v u same) in
        (subst IsIts of its, subst (λ z. HasSlot t.spec T needs z (slot_of u)) at (subst (HasSlot t.spec T needs y) of has))

    pub extra-has : IsNo IsIts → (x : ℕ) (s : Slot) → IsIts s → HasSlot t.spec T needs x s → (u : Named) × Contains (all_extra t.spec.chains extra.attrs) (entry x u) × (slot_of u ≡ s)
    extra-has unwritten x s its has =
        let (a, among, attr) = is.all x s its has in
        let (u, made) = some-named IsIts unwritten x a.slot s its attr.slot in
        (u, filtered-contains (extra_entry t.spec.chains) extra.attrs a (entry x u) among (ap (option_map (entry a.sym.0)) made ∙ ap (λ (n : ℕ). Some (entry n u)) attr.symbol), as-named x a.slot u s made attr.slot)

-- ---- rows

module _ (env : Environment) (forced : Forced) (are : AreForcedOf env forced) (T : Tables forced.tables.spec) (numbers : AreNumbersOf env forced T) (clear : AreClear forced.tables.spec) where
  abbrev t : Rows
  t = forced.tables

  abbrev names : List ℕ
  names = named_symbols t

  -- the row of a symbol, or of a cell
  pub data IsRow (x : ℕ) (row : SymbolRow) : Type 0 where
    of_symbol : (s : ℕ) → slice_get names x ≡ Some s → IsRowOf t.spec env names s row → IsRow x row
    of_cell : row.class ≡ class.Cell → row.attrs ≡ [] → IsRow x row

  pub row-is : (x : ℕ) (row : SymbolRow) → slice_get t.symbols x ≡ Some row → IsRow x row
  row-is x row at = by (slice_get names x) refl
    where
      by : (o : Option ℕ) → slice_get names x ≡ o → IsRow x row
      by (Some s) e = of_symbol s e (are.tables.rows x s row e at)
      by None e =
          let low = past names x e in
          let high = slice_get_within t.symbols x row at in
          let count = are.tables.count in
          let (i, place) = place-below (lists t.spec names) (x - length names) (omega (arith, low, high, count)) in
          let (r, of) = list-rule t i (place-contains (lists t.spec names) (x - length names) i place) in
          let sum : length names + (x - length names) ≡ x = omega (arith, low) in
          let cell = are.tables.cells (x - length names) i r row place of (ap (slice_get t.symbols) sum ∙ at) in
          of_cell cell.class cell.attrs

  -- each symbol has one
  pub symbol-row : (x s : ℕ) → slice_get names x ≡ Some s → (row : SymbolRow) × (slice_get t.symbols x ≡ Some row) × IsRowOf t.spec env names s row
  symbol-row x s e =
      let low = slice_get_within names x s e in
      let count = are.tables.count in
      let (row, at) = place-below t.symbols x (omega (arith, low, count)) in
      (row, at, are.tables.rows x s row e at)

  pub to-names : (x s : ℕ) → slice_get T.symbols x ≡ Some s → slice_get names x ≡ Some s
  to-names x s e = subst (λ (l : List ℕ). slice_get l x ≡ Some s) numbers.symbols e

  to-symbols : (x s : ℕ) → slice_get names x ≡ Some s → slice_get T.symbols x ≡ Some s
  to-symbols x s e = subst (λ (l : List ℕ). slice_get l x ≡ Some s) (sym numbers.symbols) e

  -- ---- written attributes

  nonterminal-attrs : (row : SymbolRow) (a : FlatAttr) → Contains (attrs_in row) a → (row.class ≡ class.Nonterminal) × Contains row.attrs a
  nonterminal-attrs row a m = by row.class refl m
    where
      by : (k : SymbolClass) → row.class ≡ k → Contains (elim k as (λ _. List FlatAttr) [ class.Nonterminal ↦ row.attrs | _ ↦ [] ]) a → (row.class ≡ class.Nonterminal) × Contains row.attrs a
      by class.Nonterminal e m = (e, m)
      by (class.Terminal ty) e m = absurd (contains-nil a m)
      by class.Class e m = absurd (contains-nil a m)
      by class.Cell e m = absurd (contains-nil a m)

  class-of-nonterminal : (s : ℕ) (k : SymbolClass) → IsNonterminal t.spec s → IsSymbolClass t.spec env names s k → k ≡ class.Nonterminal
  class-of-nonterminal s class.Nonterminal is h = refl
  class-of-nonterminal s (class.Terminal ty) is h = absurd (h.0 is)
  class-of-nonterminal s class.Class is h = absurd (clear.classes s h is)
  class-of-nonterminal s class.Cell is h = absurd h

  module _ (needs : Needs t.spec T) where
    abbrev Has : ℕ → Slot → Type 0
    Has = HasSlot t.spec T needs

    pub written-is : (x : ℕ) (u : Named) → Contains (all_written t.symbols) (entry x u) → (a : ℕ) × (slot_of u ≡ Written a) × Has x (Written a)
    written-is x u m =
        let (z, among, here) = contains-flat (λ (z : ℕ × SymbolRow). written_entries z.0 (attrs_in z.1)) (enumerated 0 t.symbols) (entry x u) m in
        let (a, in_row, same) = contains-map (λ (a : FlatAttr). entry z.0 (named.Written a.name)) (attrs_in z.1) (entry x u) here in
        let at : slice_get t.symbols x ≡ Some z.1 = ap (slice_get t.symbols) (sym (sym-same z.0 x (named.Written a.name) u same)) ∙ place-of-number t.symbols z among in
        let (is, in_attrs) = nonterminal-attrs z.1 a in_row in
        (a.name.0, ap slot_of (sym (slot-same z.0 x (named.Written a.name) u same)), by z.1 a is in_attrs (row-is x z.1 at))
      where
        by : (row : SymbolRow) (a : FlatAttr) → row.class ≡ class.Nonterminal → Contains row.attrs a → IsRow x row → Has x (Written a.name.0)
        by row a is m (of_symbol s e of) = (s, to-symbols x s e, subst (IsSymbolClass t.spec env names s) is of.class, (All-contains (IsWrittenAttribute t.spec s) row.attrs a of.attrs.each m).of_symbol)
        by row a is m (of_cell k none) = absurd (contains-nil a (subst (λ (l : List FlatAttr). Contains l a) none m))

    pub written-has : (x a : ℕ) → Has x (Written a) → (u : Named) × Contains (all_written t.symbols) (entry x u) × (slot_of u ≡ Written a)
    written-has x a (s, e, is, has) =
        let (row, at, of) = symbol-row x s (to-names x s e) in
        let (attr, m, name) = of.attrs.all a has in
        let attrs : row.attrs ≡ attrs_in row = sym (ap (λ (k : SymbolClass). elim k as (λ _. List FlatAttr) [ class.Nonterminal ↦ row.attrs | _ ↦ [] ]) (class-of-nonterminal s row.class is of.class)) in
        let here = map-contains (λ (a : FlatAttr). entry x (named.Written a.name)) (attrs_in row) attr (subst (λ (l : List FlatAttr). Contains l attr) attrs m) in
        (named.Written attr.name, flat-contains (λ (z : ℕ × SymbolRow). written_entries z.0 (attrs_in z.1)) (enumerated 0 t.symbols) (x, row) (entry x (named.Written attr.name)) (numbered-in t.symbols x row at) here, ap Written name)

    -- ---- messages

    module _ (counts : Counts) (counted : (s : ℕ) → count_in counts s ≡ most_of s t.spec.rules) where
      message-at : (x j : ℕ) (row : SymbolRow) → j < message_count counts row → IsRow x row → Has x (Msg (suc j))
      message-at x j row below (of_symbol s e of) =
          let l = by row.class below in
          let (r, m, left, more) = most-of s j t.spec.rules (omega (arith, l, ap (count_in counts) of.name, counted s)) in
          (s, to-symbols x s e, (r, m, left, (let n = count-of r in omega (arith, n, more))))
        where
          by : (k : SymbolClass) → j < (elim k as (λ _. ℕ) [ class.Cell ↦ 0 | _ ↦ count_in counts row.name.0 ]) → j < count_in counts row.name.0
          by class.Nonterminal h = h
          by (class.Terminal ty) h = h
          by class.Class h = h
          by class.Cell h = absurd (omega (arith, h))
      message-at x j row below (of_cell k none) =
          let c = ap (λ (k : SymbolClass). elim k as (λ _. ℕ) [ class.Cell ↦ 0 | _ ↦ count_in counts row.name.0 ]) k in
          absurd (omega (arith, below, c))

      pub message-is : (x : ℕ) (u : Named) → Contains (all_messages counts t.symbols) (entry x u) → (j : ℕ) × (slot_of u ≡ Msg (suc j)) × Has x (Msg (suc j))
      message-is x u m =
          let (z, among, here) = contains-flat (λ (z : ℕ × SymbolRow). messages z.0 (message_count counts z.1)) (enumerated 0 t.symbols) (entry x u) m in
          let (j, below, same) = message-in z.0 (message_count counts z.1) (entry x u) here in
          let at : slice_get t.symbols x ≡ Some z.1 = ap (slice_get t.symbols) (sym (sym-same z.0 x (named.Msg (suc j)) u same)) ∙ place-of-number t.symbols z among in
          (j, ap slot_of (sym (slot-same z.0 x (named.Msg (suc j)) u same)), message-at x j z.1 below (row-is x z.1 at))

      count-of-symbol : (s : ℕ) (row : SymbolRow) → IsRowOf t.spec env names s row → message_count counts row ≡ most_of s t.spec.rules
      count-of-symbol s row of = by row.class refl of.class
        where
          whole : count_in counts row.name.0 ≡ most_of s t.spec.rules
          whole = ap (count_in counts) of.name ∙ counted s

          by : (k : SymbolClass) → row.class ≡ k → IsSymbolClass t.spec env names s k → (elim k as (λ _. ℕ) [ class.Cell ↦ 0 | _ ↦ count_in counts row.name.0 ]) ≡ most_of s t.spec.rules
          by class.Nonterminal e h = whole
          by (class.Terminal ty) e h = whole
          by class.Class e h = whole
          by class.Cell e h = absurd h

      pub message-has : (x j : ℕ) → Has x (Msg j) → (u : Named) × Contains (all_messages counts t.symbols) (entry x u) × (slot_of u ≡ Msg j)
      message-has x zero (s, e, has) = absurd has
      message-has x (suc j) (s, e, (r, m, left, more)) =
          let (row, at, of) = symbol-row x s (to-names x s e) in
          let n = count-of r in
          let below = most-has s j t.spec.rules 0 (r, m, left, omega (arith, n, more)) in
          let count = count-of-symbol s row of in
          let here = in-messages x (message_count counts row) j (omega (arith, count, below)) in
          (named.Msg (suc j), flat-contains (λ (z : ℕ × SymbolRow). messages z.0 (message_count counts z.1)) (enumerated 0 t.symbols) (x, row) (entry x (named.Msg (suc j))) (numbered-in t.symbols x row at) here, refl)

    -- ---- the output

    root-at : (s : ℕ) → IsRoot t.spec s → slice_get T.symbols t.root.0 ≡ Some s
    root-at s is =
        let (q, root, number) = are.tables.root in
        let same : q ≡ s = clear.roots q s root is in
        let (r, m, left) = contains-map left_of t.spec.rules q (contains-test q (map left_of t.spec.rules) root.0) in
        let among : Contains names q = symbol-named t env are.tables r m q (subst (λ (n : ℕ). Contains (symbols_of r) n) left (contains-here (left_of r) (right_of r))) in
        to-symbols t.root.0 s (ap (slice_get names) number ∙ number-at_place q names among ∙ ap Some same)

    pub output-is : (x : ℕ) (u : Named) → Contains (entry t.root.0 named.Out ∷ []) (entry x u) → (slot_of u ≡ Out) × Has x Out
    output-is x u m = elim (contains-cons (entry t.root.0 named.Out) (entry x u) [] m) [
      | inr n ↦ absurd (contains-nil (entry x u) n)
      | inl same ↦
          let (q, root, number) = are.tables.root in
          (ap slot_of (sym (slot-same t.root.0 x named.Out u same)), (q, ap (slice_get T.symbols) (sym (sym-same t.root.0 x named.Out u same)) ∙ root-at q root, root))
    ]

    pub output-has : (x : ℕ) → Has x Out → Contains (entry t.root.0 named.Out ∷ []) (entry x named.Out)
    output-has x (s, e, is) = subst (λ (n : ℕ). Contains (entry t.root.0 named.Out ∷ []) (entry n named.Out)) (one-number (symbol_uses t.spec env) T.symbols numbers.numbers.symbols t.root.0 x s (root-at s is) e) (contains-here (entry t.root.0 named.Out) [])
