-- In the list of all attributes those of one symbol are in order.
use Rattle.std.specs.Prelude.{Contains, AllPairs, slice_get, nat_eq, map, flat_map}
use Rattle.std.proofs.Common.{◌≡◌, ◌∙◌, ℕ, zero, suc, ◌+◌, ◌*◌, ◌<◌, ◌≤◌, ◌⊎◌, inl, inr, Bool, true, false, if◌then◌else◌, List, [], ◌∷◌, ◌++◌, Some, refl, sym, ap, subst, arith, eqb-true, eq-eqb}
use Rattle.std.proofs.lemmas.Option.{none-some, same_Some}
use Rattle.std.proofs.lemmas.List.Elements.{Contains-append_cases}
use Rattle.lido_base.proofs.Lists.{contains-nil, contains-cons, contains-here, contains-later, contains-map, contains-flat, place-contains}
use Rattle.lido_syntax.specs.declared.spec.Spec.{Spec}
use Rattle.lido_syntax.specs.declared.spec.Typed1.{Typed1}
use Rattle.lido_syntax.specs.Production.{name_of}
use Rattle.lido_symbols.specs.Numbers.{place_in, enumerated}
use Rattle.flat_grammar.specs.declared.flat.FlatAttr.{FlatAttr}
use Rattle.need_graphs.proofs.ListLemmas.{enumerated-place}
use Rattle.flat_slots.proofs.PairLemmas.{some-mapped}
use Rattle.need_graphs.proofs.OrderLemmas.{Pairs, pairs-append, numbered-pairs}
use Rattle.rule_tables.specs.declared.table.SymbolRow.{SymbolRow}
use Rattle.rule_tables.specs.declared.extra.ExtraAttr.{ExtraAttr}
use Rattle.rule_tables.specs.declared.extra.Slot.{Slot as Added}
use Rattle.rule_tables.specs.declared.extra.Slot.TheVariants as added
use Rattle.rule_tables.specs.ExtraOf.{group_of, within_of, IsBeforeIn, attr_place}
use Rattle.rule_tables.specs.Slots.{Slot, IsBefore, group, within}
use Rattle.rule_tables.specs.Needs.{Tables, Needs}
use Rattle.flat_slots.specs.declared.slot.Slot.{Slot as Named}
use Rattle.flat_slots.specs.declared.slot.Slot.TheVariants as named
use Rattle.flat_slots.specs.declared.entries.Entry.{Entry}
use Rattle.flat_slots.specs.Named.{slot_of}
use Rattle.flat_slots.specs.declared.counts.Counts.{Counts}
use Rattle.flat_slots.specs.Entries.{entry, attrs_in, written_entries, all_written, slot_named, extra_entry, all_extra, messages, message_count, all_messages}
use Rattle.flat_slots.proofs.EntryLemmas.{IsEntryBefore, filter-pairs, pairs-of}
use Rattle.flat_slots.proofs.MemberLemmas.{message-in}

-- ---- places of chains

first-place : (chains : List Typed1) → Pairs (λ (c d : Typed1). name_of c.name ≡ name_of d.name → ⊥) chains → (i : ℕ) (d : Typed1) → slice_get chains i ≡ Some d
    → place_in (nat_eq (name_of d.name)) (map (λ (c : Typed1). name_of c.name) chains) ≡ i
first-place [] p i d e = absurd (none-some d e)
first-place (c ∷ chains) p zero d e =
    let same : c ≡ d = same_Some _ _ e in
    ap (λ (b : Bool). if b then 0 else suc (place_in (nat_eq (name_of d.name)) (map (λ (c : Typed1). name_of c.name) chains))) (eq-eqb (name_of d.name) (name_of c.name) (ap (λ (z : Typed1). name_of z.name) (sym same)))
first-place (c ∷ chains) p (suc i) d e = by (nat_eq (name_of d.name) (name_of c.name)) refl (first-place chains p.1 i d e)
  where
    rest : ℕ
    rest = place_in (nat_eq (name_of d.name)) (map (λ (c : Typed1). name_of c.name) chains)

    by : (b : Bool) → nat_eq (name_of d.name) (name_of c.name) ≡ b → rest ≡ i
        → (if b then 0 else suc (place_in (nat_eq (name_of d.name)) (map (λ (c : Typed1). name_of c.name) chains))) ≡ suc i
    by true f later = absurd (p.0 d (place-contains chains i d e) (sym (eqb-true (name_of d.name) (name_of c.name) f)))
    by false f later = ap suc later

-- ---- attributes of one symbol in order

module _ (spec : Spec) (T : Tables spec) (needs : Needs spec T) where
  abbrev IsOrdered : List Entry → Type 0
  IsOrdered = Pairs (IsEntryBefore (IsBefore spec T needs))

  abbrev group_at : Named → ℕ
  group_at u = group spec T needs (slot_of u)

  abbrev within_at : Named → ℕ
  within_at u = within spec T needs (slot_of u)

  pub strict : (s : Slot) → IsBefore spec T needs s s → ⊥
  strict s (inl h) = absurd (omega (arith, h))
  strict s (inr (g, h)) = absurd (omega (arith, h))

  pub messages-ordered : (x n : ℕ) → IsOrdered (messages x n)
  messages-ordered x zero = tt
  messages-ordered x (suc n) = pairs-append (IsEntryBefore (IsBefore spec T needs)) (messages x n) (entry x (named.Msg (suc n)) ∷ []) (messages-ordered x n) ((λ y m. absurd (contains-nil y m)), tt)
      (λ a b m k same. elim (contains-cons (entry x (named.Msg (suc n))) b [] k) [
        | inr none ↦ absurd (contains-nil b none)
        | inl e ↦
            let (j, below, f) = message-in x n a m in
            subst (λ (z : Entry). IsBefore spec T needs (slot_of z.slot) (slot_of b.slot)) f (subst (λ (z : Entry). IsBefore spec T needs (slot_of (named.Msg (suc j))) (slot_of z.slot)) e
            (inr (refl, (omega (arith, below)))))
      ])

  -- those of different symbols are in any order
  of-symbols : (rows : List SymbolRow) (its : ℕ → SymbolRow → List Entry) → ((x : ℕ) (row : SymbolRow) (e : Entry) → Contains (its x row) e → e.sym ≡ x)
      → ((x : ℕ) (row : SymbolRow) → IsOrdered (its x row)) → IsOrdered (flat_map (λ (x : ℕ × SymbolRow). its x.0 x.1) (enumerated 0 rows))
  of-symbols rows its at own = numbered-pairs (IsEntryBefore (IsBefore spec T needs)) (λ (x : ℕ × SymbolRow). its x.0 x.1) own
      (λ k l x y a b less m n same. let p = at k x a m in let q = at l y b n in absurd (omega (arith, p, q, less, same))) 0 rows

  message-sym : (x n : ℕ) (e : Entry) → Contains (messages x n) e → e.sym ≡ x
  message-sym x n e m = let (j, below, same) = message-in x n e m in ap (λ (z : Entry). z.sym) (sym same)

  pub all-messages-ordered : (counts : Counts) (rows : List SymbolRow) → IsOrdered (all_messages counts rows)
  all-messages-ordered counts rows = of-symbols rows (λ x row. messages x (message_count counts row)) (λ x row. message-sym x (message_count counts row)) (λ x row. messages-ordered x (message_count counts row))

  -- ---- written attributes

  written-sym : (x : ℕ) (attrs : List FlatAttr) (e : Entry) → Contains (written_entries x attrs) e → e.sym ≡ x
  written-sym x attrs e m = let (a, among, same) = contains-map (λ (a : FlatAttr). entry x (named.Written a.name)) attrs e m in ap (λ (z : Entry). z.sym) (sym same)

  abbrev IsAttrBefore : FlatAttr → FlatAttr → Type 0
  IsAttrBefore a b = place_in (nat_eq a.name.0) T.attributes < place_in (nat_eq b.name.0) T.attributes

  pub written-ordered : (x : ℕ) (attrs : List FlatAttr) → Pairs IsAttrBefore attrs → IsOrdered (written_entries x attrs)
  written-ordered x [] p = tt
  written-ordered x (a ∷ attrs) p = (
    (λ e m same.
        let (b, among, f) = contains-map (λ (a : FlatAttr). entry x (named.Written a.name)) attrs e m in
        subst (λ (z : Entry). IsBefore spec T needs (slot_of (named.Written a.name)) (slot_of z.slot)) f (inr (refl, p.0 b among))),
    written-ordered x attrs p.1,
  )

  pub all-written-ordered : (rows : List SymbolRow) → ((x : ℕ) (row : SymbolRow) → Contains (enumerated 0 rows) (x, row) → Pairs IsAttrBefore (attrs_in row)) → IsOrdered (all_written rows)
  all-written-ordered rows own = flat-pairs 0 rows own
    where
      flat-pairs : (n : ℕ) (rows : List SymbolRow) → ((x : ℕ) (row : SymbolRow) → Contains (enumerated n rows) (x, row) → Pairs IsAttrBefore (attrs_in row))
          → IsOrdered (flat_map (λ (x : ℕ × SymbolRow). written_entries x.0 (attrs_in x.1)) (enumerated n rows))
      flat-pairs n [] own = tt
      flat-pairs n (row ∷ rows) own = pairs-append (IsEntryBefore (IsBefore spec T needs)) (written_entries n (attrs_in row)) (flat_map (λ (x : ℕ × SymbolRow). written_entries x.0 (attrs_in x.1)) (enumerated (suc n) rows))
          (written-ordered n (attrs_in row) (own n row (contains-here (n, row) (enumerated (suc n) rows))))
          (flat-pairs (suc n) rows (λ x r m. own x r (contains-later (n, row) (x, r) (enumerated (suc n) rows) m)))
          (λ a b m k same.
          let (z, among, here) = contains-flat (λ (x : ℕ × SymbolRow). written_entries x.0 (attrs_in x.1)) (enumerated (suc n) rows) b k in
          let (j, num, at) = enumerated-place (suc n) z.0 z.1 rows among in
          let p = written-sym n (attrs_in row) a m in
          let q = written-sym z.0 (attrs_in z.1) b here in
          absurd (omega (arith, num, p, q, same)))

  -- ---- what an expansion adds

  module _ (apart : Pairs (λ (c d : Typed1). name_of c.name ≡ name_of d.name → ⊥) spec.chains) where
    -- where an added attribute stands
    placed : (a : Added) (u : Named) → slot_named spec.chains a ≡ Some u → (group_at u ≡ group_of a) × (within_at u ≡ within_of a)
    placed (added.Written id) u e = absurd (none-some u e)
    placed (added.Inc i) u e = let same : named.Inc i ≡ u = same_Some _ _ e in (ap group_at (sym same), ap within_at (sym same))
    placed (added.Con n) u e = let same : named.Con n ≡ u = same_Some _ _ e in (ap group_at (sym same), ap within_at (sym same))
    placed (added.Front i) u e =
        let (d, at, same) = some-mapped (λ (d : Typed1). named.Front d.name.id) (slice_get spec.chains i) u e in
        (ap group_at (sym same), ap within_at (sym same) ∙ ap (λ (n : ℕ). 2 * n) (first-place spec.chains apart i d at))
    placed (added.Behind i) u e =
        let (d, at, same) = some-mapped (λ (d : Typed1). named.Behind d.name.id) (slice_get spec.chains i) u e in
        (ap group_at (sym same), ap within_at (sym same) ∙ ap (λ (n : ℕ). 2 * n + 1) (first-place spec.chains apart i d at))

    in-place : (a b : ExtraAttr) → a.sym.0 ≡ b.sym.0 → IsBeforeIn (attr_place a) (attr_place b)
        → (group_of a.slot < group_of b.slot) ⊎ ((group_of a.slot ≡ group_of b.slot) × (within_of a.slot < within_of b.slot))
    in-place a b same (inl h) = absurd (omega (arith, h, same))
    in-place a b same (inr (e, inl h)) = inl h
    in-place a b same (inr (e, inr (g, inl h))) = inr (g, h)
    in-place a b same (inr (e, inr (g, inr (w, h)))) = absurd h

    entries-before : (a b : ExtraAttr) (u v : Entry) → IsBeforeIn (attr_place a) (attr_place b) → extra_entry spec.chains a ≡ Some u → extra_entry spec.chains b ≡ Some v
        → IsEntryBefore (IsBefore spec T needs) u v
    entries-before a b u v before e f same =
        let (x, made, is) = some-mapped (entry a.sym.0) (slot_named spec.chains a.slot) u e in
        let (y, other, its) = some-mapped (entry b.sym.0) (slot_named spec.chains b.slot) v f in
        let p = placed a.slot x made in
        let q = placed b.slot y other in
        let at : a.sym.0 ≡ b.sym.0 = ap (λ (z : Entry). z.sym) is ∙ same ∙ sym (ap (λ (z : Entry). z.sym) its) in
        subst (λ (z : Entry). IsBefore spec T needs (slot_of z.slot) (slot_of v.slot)) is (subst (λ (z : Entry). IsBefore spec T needs (slot_of x) (slot_of z.slot)) its
        (elim (in-place a b at before) [
          | inl h ↦ inl (omega (arith, h, p.0, q.0))
          | inr (g, h) ↦ inr (p.0 ∙ g ∙ sym q.0, (omega (arith, h, p.1, q.1)))
        ]))

    pub extra-ordered : (attrs : List ExtraAttr) → AllPairs (λ (a b : ExtraAttr). IsBeforeIn (attr_place a) (attr_place b)) attrs → IsOrdered (all_extra spec.chains attrs)
    extra-ordered attrs h = filter-pairs (λ (a b : ExtraAttr). IsBeforeIn (attr_place a) (attr_place b)) (IsEntryBefore (IsBefore spec T needs)) (extra_entry spec.chains) entries-before attrs
        (pairs-of (λ (a b : ExtraAttr). IsBeforeIn (attr_place a) (attr_place b)) attrs h)

  -- ---- one behind another

  abbrev pub IsUpTo : ℕ → List Entry → Type 0
  IsUpTo n es = (e : Entry) → Contains es e → group_at e.slot ≤ n

  abbrev pub IsFrom : ℕ → List Entry → Type 0
  IsFrom n es = (e : Entry) → Contains es e → n < group_at e.slot

  pub behind : (n : ℕ) (es fs : List Entry) → IsUpTo n es → IsFrom n fs → IsOrdered es → IsOrdered fs → IsOrdered (es ++ fs)
  behind n es fs low high p q = pairs-append (IsEntryBefore (IsBefore spec T needs)) es fs p q (λ a b m k same. let l = low a m in let h = high b k in inl (omega (arith, l, h)))

  pub up-to : (n k : ℕ) (es fs : List Entry) → IsUpTo n es → n ≤ k → IsUpTo k fs → IsUpTo k (es ++ fs)
  up-to n k es fs low less high e m = elim (Contains-append_cases es fs e m) [ inl h ↦ (let l = low e h in omega (arith, l, less)) | inr h ↦ high e h ]
