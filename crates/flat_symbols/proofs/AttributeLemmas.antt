-- Attributes that are made are those of the definition.
use Rattle.std.specs.Prelude.{Contains, slice_get, nat_eq, map, flat_map, filter_map, find, cond, unwrap_or, decimal, codes}
use Rattle.std.proofs.Common.{◌≡◌, ◌∙◌, ℕ, suc, ◌<◌, ◌⊎◌, inl, inr, Bool, true, false, List, [], ◌∷◌}
use Rattle.std.proofs.Common.{◌++◌, length, Option, Some, None, refl, sym, ap, subst, eqb-true, eq-eqb, true≢false}
use Rattle.std.proofs.lemmas.Option.{none-some, same_Some}
use Rattle.std.proofs.lemmas.List.Elements.{All-contains, Contains-append_right}
use Rattle.lido_base.specs.Environment.{Environment}
use Rattle.lido_base.specs.declared.ids.StrId.{StrId}
use Rattle.lido_base.specs.declared.value.ValueType.{ValueType}
use Rattle.lido_base.specs.declared.value.ValueType.TheVariants as type
use Rattle.lido_base.proofs.Lists.{contains-nil, contains-cons, contains-here, contains-later, contains-map, map-contains}
use Rattle.lido_syntax.specs.declared.spec.Spec.{Spec}
use Rattle.lido_syntax.specs.declared.spec.Comp.{Comp}
use Rattle.lido_syntax.specs.declared.spec.Typed1.{Typed1}
use Rattle.lido_syntax.specs.Attributes.{HasKind, HasType}
use Rattle.lido_syntax.specs.Functions.{text_of}
use Rattle.lido_syntax.specs.Parts.{leaves_of}
use Rattle.lido_syntax.specs.Production.{name_of}
use Rattle.lido_symbols.specs.FromText.{all_names, names_of_rule, names_of_item}
use Rattle.lido_symbols.specs.Uses.{computations, declared_names, attributes_of_target, attributes_in, all_constituents}
use Rattle.flat_grammar.specs.declared.flat.FlatAttr.{FlatAttr}
use Rattle.symbol_attributes.specs.Written.{IsWrittenAttribute}
use Rattle.need_graphs.proofs.ListLemmas.{contains-filtered, filtered-contains}
use Rattle.rule_tables.specs.declared.table.Tables.{Tables as Rows}
use Rattle.rule_tables.specs.declared.table.SymbolRow.{SymbolRow}
use Rattle.rule_tables.specs.declared.extra.Extra.{Extra}
use Rattle.rule_tables.specs.declared.extra.Slot.{Slot as Added_slot}
use Rattle.rule_tables.specs.declared.extra.Slot.TheVariants as added
use Rattle.rule_tables.specs.declared.forced.Forced.{Forced}
use Rattle.rule_tables.specs.ExtraOf.{IsSlotAs, IsExtra, IsOfIncluding, IsOfConstituents}
use Rattle.rule_tables.specs.Flat.{IsAttribute, IsSlotType}
use Rattle.rule_tables.specs.ForcedOf.{AreForcedOf, AreNumbersOf}
use Rattle.rule_tables.specs.Needs.{Tables, Needs}
use Rattle.rule_tables.specs.RuleNames.{HasIds}
use Rattle.rule_tables.specs.Shares.{IncludingShare, ConstituentsShare}
use Rattle.rule_tables.specs.Slots.{Slot, Written, Inc, Con, HasSlot, AreSlots}
use Rattle.flat_slots.specs.declared.slot.Slot.{Slot as Named}
use Rattle.flat_slots.specs.declared.slot.Slot.TheVariants as named
use Rattle.flat_slots.specs.declared.table.SlotTable.{SlotTable}
use Rattle.flat_slots.specs.Named.{slot_of}
use Rattle.flat_slots.specs.Slots.{row_at, slots_in}
use Rattle.flat_symbols.specs.declared.attributes.Added.{Added}
use Rattle.flat_symbols.specs.declared.types.Types.{Types}
use Rattle.flat_symbols.specs.Attributes.{no_attr, written_in, IsMade, AreAddedOf}
use Rattle.flat_symbols.specs.Types.{type_in, in_set, in_constituents, set_type, constituents_type, chain_type, AreTypesOf}
use Rattle.flat_symbols.proofs.NumberLemmas.{place-same, own-number}

-- ---- look-ups

-- an attribute of that name is found
found-in : (attrs : List FlatAttr) (a : StrId) (attr : FlatAttr) → Contains attrs attr → attr.name.0 ≡ a.0
    → Contains attrs (written_in attrs a) × ((written_in attrs a).name.0 ≡ a.0)
found-in [] a attr m e = absurd (contains-nil attr m)
found-in (x ∷ xs) a attr m e = by (nat_eq x.name.0 a.0) refl (contains-cons x attr xs m) (λ k. found-in xs a attr k e)
  where
    by : (b : Bool) → nat_eq x.name.0 a.0 ≡ b → (x ≡ attr) ⊎ Contains xs attr
        → (Contains xs attr → Contains xs (written_in xs a) × ((written_in xs a).name.0 ≡ a.0))
        → Contains (x ∷ xs) (unwrap_or (cond b (Some x) (find (λ (y : FlatAttr). nat_eq y.name.0 a.0) xs)) (no_attr a))
        × ((unwrap_or (cond b (Some x) (find (λ (y : FlatAttr). nat_eq y.name.0 a.0) xs)) (no_attr a)).name.0 ≡ a.0)
    by true h c later = (contains-here x xs, eqb-true x.name.0 a.0 h)
    by false h (inl same) later = absurd (true≢false (sym (eq-eqb x.name.0 a.0 (ap (λ (y : FlatAttr). y.name.0) same ∙ e)) ∙ h))
    by false h (inr k) later = let (there, is) = later k in (contains-later x (written_in xs a) xs there, is)

-- a number with a type has one
type-found : (pairs : List (ℕ × ValueType)) (types : Types) → AreTypesOf pairs types → (n : ℕ) (ty : ValueType) → Contains pairs (n, ty)
    → (z : ValueType) × Contains pairs (n, z) × (unwrap_or (type_in types n) type.Void ≡ z)
type-found pairs types are n ty m = by (type_in types n) refl
  where
    by : (o : Option ValueType) → type_in types n ≡ o → (z : ValueType) × Contains pairs (n, z) × (unwrap_or (type_in types n) type.Void ≡ z)
    by None e = absurd (are.all n ty m e)
    by (Some z) e = (z, are.only n z e, ap (λ (o : Option ValueType). unwrap_or o type.Void) e)

chain-named : (spec : Spec) (d : Typed1) → Contains spec.chains d → Contains (all_names spec) d.name
chain-named spec d m = Contains-append_right (flat_map names_of_rule spec.rules ++ flat_map names_of_item spec.symbols ++ map
    (λ (x : Typed1). x.name) spec.terms ++ declared_names spec
    ++ flat_map (λ (c : Comp). attributes_of_target c.target ++ flat_map attributes_in (leaves_of c)) (computations spec))
    (map (λ (x : Typed1). x.name) spec.chains) d.name
    (map-contains (λ (x : Typed1). x.name) spec.chains d m)

-- ---- what the expansions tell

module _ (t : Rows) where
  set-as : (y : ℕ) (a : Added_slot) (ty : ValueType) (i : ℕ) (z : ValueType) (s : Slot) → in_set ty a ≡ Some (i, z) → IsSlotAs t y a s → (s ≡ Inc i) × (ty ≡ z)
  set-as y (added.Inc j) ty i z (Inc k) e h = (
    ap Inc (sym h ∙ ap (λ (p : ℕ × ValueType). p.0) (same_Some _ _ e)),
    ap (λ (p : ℕ × ValueType). p.1)
        (same_Some _ _ e),
  )
  set-as y (added.Inc j) ty i z _ e h = absurd h
  set-as y (added.Written id) ty i z s e h = absurd (none-some (i, z) e)
  set-as y (added.Con n) ty i z s e h = absurd (none-some (i, z) e)
  set-as y (added.Front c) ty i z s e h = absurd (none-some (i, z) e)
  set-as y (added.Behind c) ty i z s e h = absurd (none-some (i, z) e)

  as-set : (x : ℕ) (a : Added_slot) (ty : ValueType) (i : ℕ) → IsSlotAs t x a (Inc i) → in_set ty a ≡ Some (i, ty)
  as-set x (added.Inc j) ty i h = ap (λ (k : ℕ). Some (k, ty)) h
  as-set x (added.Written id) ty i h = absurd h
  as-set x (added.Con n) ty i h = absurd h
  as-set x (added.Front c) ty i h = absurd h
  as-set x (added.Behind c) ty i h = absurd h

  constituents-as : (y : ℕ) (a : Added_slot) (ty : ValueType) (n : ℕ) (z : ValueType) (s : Slot) → in_constituents ty a ≡ Some (n, z)
      → IsSlotAs t y a s → (s ≡ Con n) × (ty ≡ z)
  constituents-as y (added.Con j) ty n z (Con k) e h =
      (ap Con (sym h ∙ ap (λ (p : ℕ × ValueType). p.0) (same_Some _ _ e)), ap (λ (p : ℕ × ValueType). p.1) (same_Some _ _ e))
  constituents-as y (added.Con j) ty n z _ e h = absurd h
  constituents-as y (added.Written id) ty n z s e h = absurd (none-some (n, z) e)
  constituents-as y (added.Inc i) ty n z s e h = absurd (none-some (n, z) e)
  constituents-as y (added.Front c) ty n z s e h = absurd (none-some (n, z) e)
  constituents-as y (added.Behind c) ty n z s e h = absurd (none-some (n, z) e)

  as-constituents : (x : ℕ) (a : Added_slot) (ty : ValueType) (n : ℕ) → IsSlotAs t x a (Con n) → in_constituents ty a ≡ Some (n, ty)
  as-constituents x (added.Con j) ty n h = ap (λ (k : ℕ). Some (k, ty)) h
  as-constituents x (added.Written id) ty n h = absurd h
  as-constituents x (added.Inc i) ty n h = absurd h
  as-constituents x (added.Front c) ty n h = absurd h
  as-constituents x (added.Behind c) ty n h = absurd h

module _ (env : Environment) (forced : Forced) (are : AreForcedOf env forced) (T : Tables forced.tables.spec) (numbers : AreNumbersOf env forced T)
    (needs : Needs forced.tables.spec T)
    (including constituents : Extra)
    (of_including : IsExtra forced.tables T needs IsOfIncluding (IncludingShare forced.tables.spec T needs) including)
    (of_constituents : IsExtra forced.tables T needs IsOfConstituents (ConstituentsShare forced.tables.spec T needs) constituents)
    (table : SlotTable) (slots : AreSlots forced.tables.spec T needs (slots_in table)) (texts : List (List ℕ)) (ids : HasIds texts forced.tables.spec)
    (told : Added) (is_told : AreAddedOf forced.tables including constituents told)
  where
    abbrev t : Rows
    t = forced.tables

    abbrev spec : Spec
    spec = t.spec

    abbrev Has : ℕ → Slot → Type 0
    Has = HasSlot spec T needs

    -- the type of an INCLUDING
    set-type : (x i : ℕ) → Has x (Inc i) → IsSlotType spec T x (Inc i) (unwrap_or (type_in told.includings i) type.Void)
    set-type x i has =
        let (a, among, its) = of_including.all x (Inc i) tt has in
        let (z, there, found) = type-found (filter_map set_type including.attrs) told.includings is_told.includings i a.ty
        (filtered-contains set_type including.attrs a (i, a.ty) among (as-set t x a.slot a.ty i its.slot)) in
        let (b, within, made) = contains-filtered set_type including.attrs (i, z) there in
        let (y, s, of, other, attr) = of_including.each b within in
        let (slot, ty) = set-as t y b.slot b.ty i z s made attr.slot in
        subst (IsSlotType spec T x (Inc i)) (ty ∙ sym found) (subst (λ (s : Slot). IsSlotType spec T y s b.ty) slot attr.ty)

    -- and of a CONSTITUENTS
    constituents-type : (x n : ℕ) → Has x (Con n) → IsSlotType spec T x (Con n) (unwrap_or (type_in told.constituents n) type.Void)
    constituents-type x n has =
        let (a, among, its) = of_constituents.all x (Con n) tt has in
        let (z, there, found) = type-found (filter_map constituents_type constituents.attrs) told.constituents is_told.constituents n a.ty
        (filtered-contains constituents_type constituents.attrs a (n, a.ty) among (as-constituents t x a.slot a.ty n its.slot)) in
        let (b, within, made) = contains-filtered constituents_type constituents.attrs (n, z) there in
        let (y, s, of, other, attr) = of_constituents.each b within in
        let (slot, ty) = constituents-as t y b.slot b.ty n z s made attr.slot in
        subst (IsSlotType spec T x (Con n)) (ty ∙ sym found) (subst (λ (s : Slot). IsSlotType spec T y s b.ty) slot attr.ty)

    -- and of a chain
    abbrev IsTyped : ℕ → ValueType → Type 0
    IsTyped c ty = (d : Typed1) × Contains spec.chains d × (name_of d.name ≡ c) × (ty ≡ d.ty)

    chain-typed : (c : ℕ) → Contains (map (λ (d : Typed1). name_of d.name) spec.chains) c → IsTyped c (unwrap_or (type_in told.chains c) type.Void)
    chain-typed c m =
        let (d, among, e) = contains-map (λ (d : Typed1). name_of d.name) spec.chains c m in
        let (z, there, found) = type-found (map chain_type spec.chains) told.chains is_told.chains c d.ty
        (subst (λ (n : ℕ). Contains (map chain_type spec.chains) (n, d.ty)) e (map-contains chain_type spec.chains d among)) in
        let (b, within, made) = contains-map chain_type spec.chains (c, z) there in
        (b, within, ap (λ (p : ℕ × ValueType). p.0) made, found ∙ sym (ap (λ (p : ℕ × ValueType). p.1) made))

    chain-below : (c : ℕ) → Contains (map (λ (d : Typed1). name_of d.name) spec.chains) c → c < length texts
    chain-below c m =
        let (d, among, e) = contains-map (λ (d : Typed1). name_of d.name) spec.chains c m in
        subst (λ (n : ℕ). n < length texts) e (ids.names d.name (chain-named spec d among))

    abbrev IsIt : ℕ → Slot → FlatAttr → Type 0
    IsIt = IsAttribute spec T needs (slots_in table) env

    -- a written attribute
    written-is : (x : ℕ) (row : SymbolRow) → slice_get t.symbols x ≡ Some row → (a : StrId) (attr : FlatAttr) → Has x (Written a.0)
        → attr ≡ written_in row.attrs a → IsIt x (Written a.0) attr
    written-is x row at a attr (s, there, nonterminal, has) made =
        let of = are.tables.rows x s row (subst (λ (l : List ℕ). slice_get l x ≡ Some s) numbers.symbols there) at in
        let (other, among, name) = of.attrs.all a.0 has in
        let (m, same) = found-in row.attrs a other among name in
        let w = written_in row.attrs a in
        let is = All-contains (IsWrittenAttribute spec s) row.attrs w of.attrs.each m in
        subst (IsIt x (Written a.0)) (sym made) record {
          name = ap (text_of env) same;
          kind = (s, there, subst (λ (n : ℕ). HasKind spec s n w.kind) same is.kind);
          ty = (s, there, subst (λ (n : ℕ). HasType spec s n w.ty) same is.ty);
          written = is.written;
          message = is.message;
        }

    pub attribute-is : (x : ℕ) (row : SymbolRow) → slice_get t.symbols x ≡ Some row → (u : Named) (attr : FlatAttr) → Contains (row_at table.rows x) u
        → IsMade env (length texts) told row.attrs u attr
        → IsIt x (slot_of u) attr
    attribute-is x row at u attr m made = by u made ((slots.all x (slot_of u)).0 (map-contains slot_of (row_at table.rows x) u m))
      where
        by : (u : Named) → IsMade env (length texts) told row.attrs u attr → Has x (slot_of u) → IsIt x (slot_of u) attr
        by (named.Written a) made has = written-is x row at a attr has made
        by (named.Inc i) made has = record {
          name = made.name tt is_told.numbers.rises;
          kind = made.kind;
          ty = subst (IsSlotType spec T x (Inc i)) (sym made.ty) (set-type x i has);
          written = made.written;
          message = made.message;
        }
        by (named.Con n) made has = record {
          name = made.name tt is_told.numbers.rises
              ∙ ap (λ (p : ℕ). codes "$con" ++ decimal (suc p))
              (place-same (all_constituents spec) T.constituents numbers.numbers.constituents
              (own-number spec) told.numbers.list is_told.numbers.rises is_told.numbers.all n);
          kind = made.kind;
          ty = subst (IsSlotType spec T x (Con n)) (sym made.ty) (constituents-type x n has);
          written = made.written;
          message = made.message;
        }
        by (named.Front c) made has = record {
          name = made.name (chain-below c.0 has.0) is_told.numbers.rises;
          kind = made.kind;
          ty = subst (IsTyped c.0) (sym made.ty) (chain-typed c.0 has.0);
          written = made.written;
          message = made.message;
        }
        by (named.Behind c) made has = record {
          name = made.name (chain-below c.0 has.0) is_told.numbers.rises;
          kind = made.kind;
          ty = subst (IsTyped c.0) (sym made.ty) (chain-typed c.0 has.0);
          written = made.written;
          message = made.message;
        }
        by (named.Msg j) made has = record {
          name = made.name tt is_told.numbers.rises;
          kind = made.kind;
          ty = made.ty;
          written = made.written;
          message = made.message;
        }
        by named.Out made has = record {
          name = made.name tt is_told.numbers.rises;
          kind = made.kind;
          ty = made.ty;
          written = made.written;
          message = made.message;
        }
