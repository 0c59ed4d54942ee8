-- The attributes and computations that chains add are those of the definition.
use Rattle.std.specs.Prelude.{IsTrue, Contains, slice_get, filter, unwrap_or, if◌then◌else◌}
use Rattle.std.proofs.Common.{◌≡◌, ℕ, zero, suc, ◌+◌, ◌<◌, ◌≤◌, inl, inr, Bool, true, false, List, [], ◌∷◌, length, Option, Some, None, refl, sym, ap, subst, ◌∙◌, arith, zero-add}
use Rattle.std.proofs.lemmas.Option.{none-some, same_Some}
use Rattle.lido_base.specs.Environment.{Environment}
use Rattle.lido_base.proofs.Lists.{contains-nil, contains-here, contains-later, contains-map, map-contains, contains-flat, flat-contains, contains-place, place-contains, place-below}
use Rattle.lido_syntax.specs.declared.spec.Spec.{Spec}
use Rattle.lido_syntax.specs.declared.spec.Typed1.{Typed1}
use Rattle.lido_syntax.specs.Production.{name_of}
use Rattle.lido_symbols.specs.Numbers.{enumerated}
use Rattle.least_paths.specs.Graph.{is_in}
use Rattle.need_graphs.proofs.ListLemmas.{same-bool, enumerated-place}
use Rattle.need_graphs.proofs.EdgeLemmas.{zip-left, zip-right}
use Rattle.lido_syntax.specs.declared.spec.RuleItem.{RuleItem}
use Rattle.need_graphs.proofs.RangeLemmas.{filter-part}
use Rattle.rule_tables.specs.PlainRules.{lists}
use Rattle.rule_tables.specs.TablesOf.{named_symbols}
use Rattle.rule_tables.specs.declared.table.Tables.{Tables as Rows}
use Rattle.rule_tables.specs.declared.table.SymbolRow.{SymbolRow}
use Rattle.rule_tables.specs.declared.forced.Forced.{Forced}
use Rattle.rule_tables.specs.declared.extra.ExtraAttr.{ExtraAttr}
use Rattle.rule_tables.specs.ForcedOf.{AreForcedOf, AreNumbersOf}
use Rattle.rule_tables.specs.Needs.{Tables as Numbered, Needs}
use Rattle.rule_tables.specs.Slots.{Slot, Written, Inc, Con, Front, Behind, Msg, Out, HasSlot, chains}
use Rattle.rule_tables.specs.ExtraOf.{IsExtraAttr, IsOfChains}
use Rattle.rule_tables.proofs.SlotLemmas.{enumerated-at}
use Rattle.chain_expand.specs.Attrs.{needs_at, chain_attrs, symbol_attrs, all_attrs}
use Rattle.need_graphs.specs.Clear.{AreClear}
use Rattle.chain_expand.specs.Needed.{IsNeedOf, AreNeedsOf}
use Rattle.chain_expand.proofs.AttrLemmas.{two, front_attr, behind_attr}
use Rattle.chain_expand.proofs.OrderLemmas.{attr-cases}

-- the item of a place, with its number
pub numbered-at : {X : Type 0} (xs : List X) (k : ℕ) (x : X) → slice_get xs k ≡ Some x → slice_get (enumerated 0 xs) k ≡ Some (k, x)
numbered-at xs k x at = enumerated-at 0 k x xs at ∙ ap (λ n. Some (n, x)) (zero-add k)

pub numbered-in : {X : Type 0} (xs : List X) (k : ℕ) (x : X) → slice_get xs k ≡ Some x → Contains (enumerated 0 xs) (k, x)
numbered-in xs k x at = place-contains (enumerated 0 xs) k (k, x) (numbered-at xs k x at)

-- and its place by its number
pub place-of-number : {X : Type 0} (xs : List X) (z : ℕ × X) → Contains (enumerated 0 xs) z → slice_get xs z.0 ≡ Some z.1
place-of-number xs z m = let (k, same, at) = enumerated-place 0 z.0 z.1 xs m in ap (slice_get xs) (same ∙ zero-add k) ∙ at

pub number-at : {X : Type 0} (n : ℕ) (xs : List X) (i : ℕ) (z : ℕ × X) → slice_get (enumerated n xs) i ≡ Some z → (z.0 ≡ n + i) × (slice_get xs i ≡ Some z.1)
number-at n [] i z e = absurd (none-some _ e)
number-at n (y ∷ ys) zero z e = let same : (n, y) ≡ z = same_Some _ _ e in (sym (ap (λ w. w.0) same) ∙ (omega arith), ap (λ w. Some w.1) same)
number-at n (y ∷ ys) (suc i) z e = let p = number-at (suc n) ys i z e in ((let f = p.0 in omega (arith, f)), p.1)

-- behind the end of a list
pub past : {X : Type 0} (xs : List X) (x : ℕ) → slice_get xs x ≡ None → length xs ≤ x
past [] x e = omega arith
past (y ∷ ys) zero e = absurd (none-some y (sym e))
past (y ∷ ys) (suc x) e = let l = past ys x e in omega (arith, l)

-- the rule of a list
pub list-rule : (t : Rows) (i : ℕ) → Contains (lists t.spec (named_symbols t)) i → (r : RuleItem) × (slice_get t.spec.rules i ≡ Some r)
list-rule t i m =
    let (z, among, same) = contains-map (λ (x : ℕ × RuleItem). x.0) (filter (λ (x : ℕ × RuleItem). x.1.list) (enumerated 0 t.spec.rules)) i m in
    let at = place-of-number t.spec.rules z (filter-part (λ (x : ℕ × RuleItem). x.1.list) (enumerated 0 t.spec.rules) z among) in
    (z.1, ap (slice_get t.spec.rules) (sym same) ∙ at)

in-below : (row : List Bool) (x : ℕ) → IsTrue (is_in row x) → x < length row
in-below [] x h = absurd (cc)
in-below (b ∷ row) zero h = omega arith
in-below (b ∷ row) (suc x) h = let l = in-below row x h in omega (arith, l)

module _ (env : Environment) (forced : Forced) (are : AreForcedOf env forced) (T : Numbered forced.tables.spec) (numbers : AreNumbersOf env forced T) (needs : Needs forced.tables.spec T)
    (clear : AreClear forced.tables.spec) (sets : List (List Bool)) (needed : AreNeedsOf forced forced.tables.spec.chains sets) where
  abbrev t : Rows
  t = forced.tables

  abbrev spec : Spec
  spec = t.spec

  abbrev name_at : Typed1 → ℕ
  name_at d = name_of d.name

  pub chain-in : (i : ℕ) (d : Typed1) → slice_get spec.chains i ≡ Some d → Contains (chains spec T needs) (name_at d)
  chain-in i d at = map-contains name_at spec.chains d (place-contains spec.chains i d at)

  -- who needs the chain by its set
  pub set-at : (i : ℕ) (d : Typed1) → slice_get spec.chains i ≡ Some d → (row : List Bool) × (slice_get sets i ≡ Some row) × IsNeedOf forced (name_at d) row
  set-at i d at = zip-right (λ (x : ℕ × Typed1) (row : List Bool). IsNeedOf forced (name_at x.1) row) (enumerated 0 spec.chains) sets i (i, d) needed (numbered-at spec.chains i d at)

  pub chain-at : (i : ℕ) (row : List Bool) → slice_get sets i ≡ Some row → (d : Typed1) × (slice_get spec.chains i ≡ Some d) × IsNeedOf forced (name_at d) row
  chain-at i row at =
      let (z, there, is) = zip-left (λ (x : ℕ × Typed1) (row : List Bool). IsNeedOf forced (name_at x.1) row) (enumerated 0 spec.chains) sets i row needed at in
      (z.1, (number-at 0 spec.chains i z there).1, is)

  pub in-set : (c : ℕ) (row : List Bool) → IsNeedOf forced c row → (x : ℕ) → is_in row x ≡ needs.chain c x
  in-set c row is x =
      let e = is.exactly env T are numbers clear.computations x in
      let f = needs.chain_exactly c x in
      same-bool (is_in row x) (needs.chain c x) (λ h. f.1 (e.0 h)) (λ h. e.1 (f.0 h))

  pub in-sets : (i : ℕ) (d : Typed1) → slice_get spec.chains i ≡ Some d → (x : ℕ) → is_in (needs_at sets i) x ≡ needs.chain (name_at d) x
  in-sets i d at x = let (row, there, is) = set-at i d at in ap (λ (o : Option (List Bool)). is_in (unwrap_or o []) x) there ∙ in-set (name_at d) row is x

  pub needing-below : (i : ℕ) (d : Typed1) → slice_get spec.chains i ≡ Some d → (x : ℕ) → IsTrue (needs.chain (name_at d) x) → x < length t.symbols
  needing-below i d at x h =
      let (row, there, is) = set-at i d at in
      let l = in-below row x (in-set (name_at d) row is x ∙ h) in
      let e = is.count in
      omega (arith, l, e)

  -- attributes
  front-is : (x i : ℕ) (d : Typed1) → slice_get spec.chains i ≡ Some d → IsExtraAttr t T needs (front_attr x (i, d)) x (Front (name_at d))
  front-is x i d at = record { symbol = refl; slot = (d, at, refl); kind = refl; ty = (d, place-contains spec.chains i d at, refl, refl) }

  behind-is : (x i : ℕ) (d : Typed1) → slice_get spec.chains i ≡ Some d → IsExtraAttr t T needs (behind_attr x (i, d)) x (Behind (name_at d))
  behind-is x i d at = record { symbol = refl; slot = (d, at, refl); kind = refl; ty = (d, place-contains spec.chains i d at, refl, refl) }

  abbrev attrs : List ExtraAttr
  attrs = all_attrs sets spec.chains t.symbols

  abbrev IsFound : ExtraAttr → Type 0
  IsFound a = (x : ℕ) × (s : Slot) × IsOfChains s × HasSlot spec T needs x s × IsExtraAttr t T needs a x s

  found : (x : ℕ) (d : ℕ × Typed1) (a : ExtraAttr) → slice_get spec.chains d.0 ≡ Some d.1 → (b : Bool) → is_in (needs_at sets d.0) x ≡ b → Contains (if b then two x d else []) a → IsFound a
  found x d a at false e m = absurd (contains-nil a m)
  found x d a at true e m =
      let need : IsTrue (needs.chain (name_at d.1) x) = sym (in-sets d.0 d.1 at x) ∙ e in
      let has = chain-in d.0 d.1 at in
      elim (attr-cases x d a m) [
        | inl s ↦ (x, Front (name_at d.1), tt, (has, need), subst (λ z. IsExtraAttr t T needs z x (Front (name_at d.1))) s (front-is x d.0 d.1 at))
        | inr s ↦ (x, Behind (name_at d.1), tt, (has, need), subst (λ z. IsExtraAttr t T needs z x (Behind (name_at d.1))) s (behind-is x d.0 d.1 at))
      ]

  pub attrs-each : (a : ExtraAttr) → Contains attrs a → IsFound a
  attrs-each a m =
      let (x, among, here) = contains-flat (λ (x : ℕ × SymbolRow). symbol_attrs sets spec.chains x.0) (enumerated 0 t.symbols) a m in
      let (d, of, there) = contains-flat (chain_attrs sets x.0) (enumerated 0 spec.chains) a here in
      found x.0 d a (place-of-number spec.chains d of) (is_in (needs_at sets d.0) x.0) refl there

  attr-in : (x i : ℕ) (d : Typed1) (a : ExtraAttr) → slice_get spec.chains i ≡ Some d → IsTrue (needs.chain (name_at d) x) → Contains (two x (i, d)) a → Contains attrs a
  attr-in x i d a at need m =
      let held : is_in (needs_at sets i) x ≡ true = in-sets i d at x ∙ need in
      let row = place-below t.symbols x (needing-below i d at x need) in
      let there : Contains (chain_attrs sets x (i, d)) a = subst (λ (b : Bool). Contains (if b then two x (i, d) else []) a) (sym held) m in
      flat-contains (λ (x : ℕ × SymbolRow). symbol_attrs sets spec.chains x.0) (enumerated 0 t.symbols) (x, row.0) a (numbered-in t.symbols x row.0 row.1)
      (flat-contains (chain_attrs sets x) (enumerated 0 spec.chains) (i, d) a (numbered-in spec.chains i d at) there)

  pub attrs-all : (x : ℕ) (s : Slot) → IsOfChains s → HasSlot spec T needs x s → (a : ExtraAttr) × Contains attrs a × IsExtraAttr t T needs a x s
  attrs-all x (Front c) its (among, need) =
      let (d, of, e) = contains-map name_at spec.chains c among in
      let (i, at) = contains-place spec.chains d of in
      let a = front_attr x (i, d) in
      (a, attr-in x i d a at (subst (λ z. IsTrue (needs.chain z x)) (sym e) need) (contains-here a (behind_attr x (i, d) ∷ [])), subst (λ z. IsExtraAttr t T needs a x (Front z)) e (front-is x i d at))
  attrs-all x (Behind c) its (among, need) =
      let (d, of, e) = contains-map name_at spec.chains c among in
      let (i, at) = contains-place spec.chains d of in
      let a = behind_attr x (i, d) in (
        a,
        attr-in x i d a at (subst (λ z. IsTrue (needs.chain z x)) (sym e) need) (contains-later (front_attr x (i, d)) a (a ∷ []) (contains-here a [])),
        subst (λ z. IsExtraAttr t T needs a x (Behind z)) e (behind-is x i d at),
      )
  attrs-all x (Written a) its has = absurd its
  attrs-all x (Inc i) its has = absurd its
  attrs-all x (Con n) its has = absurd its
  attrs-all x (Msg j) its has = absurd its
  attrs-all x Out its has = absurd its
