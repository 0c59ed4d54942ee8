-- The attributes and computations that CONSTITUENTS add are those of the definition.
use Rattle.std.specs.Prelude.{IsTrue, Contains, slice_get, ◌&&◌, nat_eq, if◌then◌else◌, option_map, map}
use Rattle.std.proofs.Common.{◌≡◌, ◌∙◌, ℕ, ◌<◌, ◌≤◌, true, false, List, length, Option, Some, None, refl, sym, ap, subst, zero-add}
use Rattle.lido_base.specs.Environment.{Environment}
use Rattle.lido_base.specs.Tree.{contains}
use Rattle.lido_base.specs.Reach.{source, edge}
use Rattle.lido_base.specs.declared.value.ValueType.{ValueType}
use Rattle.lido_base.specs.declared.value.ValueType.TheVariants as type
use Rattle.lido_base.proofs.Lists.{contains-later, contains-map, map-contains, contains-flat, flat-contains, contains-place, place-contains, place-below}
use Rattle.lido_base.proofs.TreeLemmas.{contains-test}
use Rattle.lido_syntax.specs.declared.spec.Spec.{Spec}
use Rattle.lido_syntax.specs.declared.spec.Cons.{Cons}
use Rattle.lido_syntax.specs.declared.spec.With.{With}
use Rattle.lido_symbols.specs.FromText.{IsFromText}
use Rattle.lido_symbols.specs.Numbers.{enumerated}
use Rattle.flat_grammar.specs.declared.flat.FlatRule.{FlatRule}
use Rattle.least_paths.specs.Graph.{is_in}
use Rattle.need_graphs.specs.Clear.{AreClear}
use Rattle.need_graphs.proofs.ListLemmas.{enumerated-place, contains-filtered, filtered-contains}
use Rattle.need_graphs.proofs.EdgeLemmas.{zip-left, zip-right}
use Rattle.need_graphs.proofs.RangeLemmas.{inside}
use Rattle.need_graphs.proofs.StartLemmas.{at-zip}
use Rattle.rule_tables.proofs.NeedsLemmas.{any-found}
use Rattle.rule_tables.proofs.SlotLemmas.{enumerated-at, zip-at}
use Rattle.rule_tables.specs.declared.table.Tables.{Tables as Rows}
use Rattle.rule_tables.specs.declared.table.SymbolRow.{SymbolRow}
use Rattle.rule_tables.specs.declared.forced.Forced.{Forced}
use Rattle.rule_tables.specs.declared.extra.ExtraAttr.{ExtraAttr}
use Rattle.rule_tables.specs.declared.extra.ExtraComp.{ExtraComp}
use Rattle.rule_tables.specs.PlainRules.{PlainRule, plain_rules, symbol_at, is_child}
use Rattle.rule_tables.specs.Forced.{Force}
use Rattle.rule_tables.specs.ForcedOf.{AreForcedOf, AreNumbersOf}
use Rattle.rule_tables.specs.Needs.{Tables as Numbered, Needs, ruled, uses_constituents, IsWanted, listed_at, shield_at}
use Rattle.rule_tables.specs.Slots.{Slot, Written, Inc, Con, Front, Behind, Msg, Out, HasSlot, has_con}
use Rattle.rule_tables.specs.Shares.{Term, places, weight_term, ConstituentsShare, gathered}
use Rattle.rule_tables.specs.ExtraOf.{IsExtraAttr, IsComputed, IsOfConstituents, IsSlotAs, IsTermAs}
use Rattle.rule_tables.specs.TablesOf.{named_symbols, IsPlainOf}
use Rattle.constituents_expand.specs.declared.symbols.Symbols.{Symbols}
use Rattle.constituents_expand.specs.declared.uses.Use.{Use}
use Rattle.constituents_expand.specs.declared.weights.Gathering.{Gathering}
use Rattle.constituents_expand.specs.Listings.{AreSymbols}
use Rattle.constituents_expand.specs.Uses.{Standing, told, text_uses, AreUses}
use Rattle.constituents_expand.specs.Named.{AreNamed}
use Rattle.constituents_expand.specs.Weights.{source_in, child_slots, weight}
use Rattle.constituents_expand.specs.Extras.{type_of, made_attr, attr_of, symbol_attrs, all_attrs, is_whole, made_comp, comp_of, rule_comps, all_comps}
use Rattle.constituents_expand.specs.Gatherings.{IsGatheringOf, AreGatherings}
use Rattle.constituents_expand.proofs.FaultLemmas.{and-both}
use Rattle.constituents_expand.proofs.GatherLemmas.{of-tables, in-tables, alone, of-if}
use Rattle.constituents_expand.proofs.SourceLemmas.{source-at, sources-same, shields-same}
use Rattle.constituents_expand.proofs.ShareLemmas.{is_whole_role, slots-are, value, term-is}
use Rattle.constituents_expand.proofs.PlainLemmas.{plain-told, fewer-bounded, places-few}
use Rattle.constituents_expand.proofs.OrderLemmas.{let-through}

numbered-in : {X : Type 0} (xs : List X) (k : ℕ) (x : X) → slice_get xs k ≡ Some x → Contains (enumerated 0 xs) (k, x)
numbered-in xs k x at = place-contains (enumerated 0 xs) k (k, x) (enumerated-at 0 k x xs at ∙ ap (λ n. Some (n, x)) (zero-add k))

place-of-number : {X : Type 0} (xs : List X) (z : ℕ × X) → Contains (enumerated 0 xs) z → slice_get xs z.0 ≡ Some z.1
place-of-number xs z m = let (k, same, at) = enumerated-place 0 z.0 z.1 xs m in ap (slice_get xs) (same ∙ zero-add k) ∙ at

module _ (env : Environment) (forced : Forced) (are : AreForcedOf env forced) (T : Numbered forced.tables.spec) (numbers : AreNumbersOf env forced T) (clear : AreClear forced.tables.spec) (from : IsFromText forced.tables.spec)
    (sound : AreNamed forced.tables.spec) (few : (row : SymbolRow) → Contains forced.tables.symbols row → length row.attrs ≤ 65536) (symbols : Symbols) (inherit : AreSymbols forced.tables.spec symbols)
    (needs : Needs forced.tables.spec T) (uses : List Use) (are_uses : AreUses forced.tables.spec (map told uses)) (gs : List Gathering) (all : AreGatherings forced symbols uses gs) where
  abbrev t : Rows
  t = forced.tables

  abbrev spec : Spec
  spec = t.spec

  abbrev plain : List PlainRule
  plain = plain_rules spec (named_symbols t)

  -- whose a gathering is
  pub record IsOf (g : Gathering) : Type 0 where
    pub use_of : Standing
    pub of_text : Contains (text_uses spec) use_of
    pub its : IsGatheringOf forced symbols use_of g

  pub of-gathering : (g : Gathering) → Contains gs g → IsOf g
  of-gathering g m =
      let (i, at) = contains-place gs g m in
      let (v, there, its) = zip-left (λ (u : Use) (g : Gathering). IsGatheringOf forced symbols (told u) g) uses gs i g all at in
      record { use_of = told v; of_text = (are_uses.all (told v)).0 (map-contains told uses v (place-contains uses i v there)); its = its }

  gathering-of : (u : Standing) → Contains (text_uses spec) u → (g : Gathering) × Contains gs g × IsGatheringOf forced symbols u g
  gathering-of u m =
      let (v, among, e) = contains-map told uses u ((are_uses.all u).1 m) in
      let (i, at) = contains-place uses v among in
      let (g, there, its) = zip-right (λ (u : Use) (g : Gathering). IsGatheringOf forced symbols (told u) g) uses gs i v all at in
      (g, place-contains gs i g there, subst (λ w. IsGatheringOf forced symbols w g) e its)

  module _ (u : Standing) (m : Contains (text_uses spec) u) (g : Gathering) (its : IsGatheringOf forced symbols u g) where
    abbrev k : Cons
    k = u.constituents

    shield-is : (x : ℕ) → is_in g.shields x ≡ shield_at spec T k x
    shield-is = shields-same env forced are T numbers clear from sound few symbols inherit u m g its.sources its.shields

    bearers-same : (x : ℕ) → is_in g.bearers x ≡ has_con spec T needs k x
    bearers-same = its.bearers env T needs k are numbers (alone spec from T clear.computations u m) (sources-same env forced are T numbers clear from sound few symbols inherit u m g its.sources its.shields) shield-is

    typed : type_of g.with ≡ (elim k.with as (λ _. ValueType) [ None ↦ type.Void | Some with ↦ with.ty ])
    typed = ap type_of its.with_type ∙ by k.with
      where
        by : (o : Option With) → type_of (option_map (λ (w : With). w.ty) o) ≡ (elim o as (λ _. ValueType) [ None ↦ type.Void | Some with ↦ with.ty ])
        by None = refl
        by (Some w) = refl

    of_table : Contains T.constituents k
    of_table = in-tables spec from T numbers.numbers.constituents u m

    attr-is : (x : ℕ) → IsExtraAttr t T needs (made_attr x g) x (Con k.number)
    attr-is x = record { symbol = refl; slot = its.number; kind = refl; ty = (k, of_table, refl, typed) }

    -- the weight in a plain rule
    weight-is : (i : ℕ) (p : PlainRule) (fs : List Force) (rule : FlatRule) → slice_get plain i ≡ Some p → IsPlainOf spec env (named_symbols t) p rule
        → IsTermAs t p (weight g (is_whole spec.rules i) rule) (weight_term spec T needs p fs k)
    weight-is i p fs rule at is =
        let it = plain-told spec (named_symbols t) i p at in
        let js = places (has_con spec T needs k) p in
        let slots = slots-are t T needs p fs k g its.number (has_con spec T needs k) bearers-same rule.right is.right in
        let base = term-is t T needs p fs k g.number its.number k.with (source_in g p.left) (listed_at spec T k.pairs p.left) (shield_at spec T k p.left) (child_slots g rule.right) js p.role
        (source-at env forced are T numbers clear from sound few symbols inherit u m g its.sources its.shields p.left) slots
        (fewer-bounded p.role (length js) (length p.right) (places-few (has_con spec T needs k) 1 p.right) it.few) in
        let shield : is_in g.shields rule.left.0 ≡ shield_at spec T k p.left = ap (is_in g.shields) is.left ∙ shield-is p.left in
        let same : weight g (is_whole spec.rules i) rule ≡ value t T needs p fs k g.number its.number (option_map (λ (w : With). w.ty) k.with) (source_in g p.left) (shield_at spec T k p.left) (child_slots g rule.right) (is_whole_role p.role) =
        λ q. value t T needs p fs k g.number its.number (its.with_type q) (source_in g (is.left q)) (shield q) (child_slots g rule.right) (it.whole q) in
        subst (λ v. IsTermAs t p v (weight_term spec T needs p fs k)) (sym same) base

  -- what is wanted is a child
  child-below : (p : PlainRule) (x : ℕ) → Contains (plain_rules spec T.symbols) p → IsTrue (contains x p.right) → x < length t.symbols
  child-below p x m h = inside t env are.tables p (subst (λ s. Contains (plain_rules spec s) p) numbers.symbols m) x (contains-later p.left x p.right (contains-test x p.right h))

  wanted-below : (k : Cons) (x : ℕ) → IsWanted spec T k x → x < length t.symbols
  wanted-below k x (source h) =
      let (p, among, b) = any-found (λ (p : PlainRule). contains x p.right && uses_constituents spec T k p.left) (plain_rules spec T.symbols) h in
      child-below p x among (and-both (contains x p.right) (uses_constituents spec T k p.left) b).0
  wanted-below k x (edge {c = c} h r) =
      let (p, among, b) = any-found (λ (p : PlainRule). if nat_eq p.left c then contains x p.right else false) (plain_rules spec T.symbols) (and-both (is_child (plain_rules spec T.symbols) c x) _ h).0 in
      child-below p x among (of-if (nat_eq p.left c) (contains x p.right) b).1

  abbrev attrs : List ExtraAttr
  attrs = all_attrs gs t.symbols

  pub attrs-each : (a : ExtraAttr) → Contains attrs a → (x : ℕ) × (s : Slot) × IsOfConstituents s × HasSlot spec T needs x s × IsExtraAttr t T needs a x s
  attrs-each a m =
      let (z, among, here) = contains-flat (λ (x : ℕ × SymbolRow). symbol_attrs gs x.0) (enumerated 0 t.symbols) a m in
      let (g, of, made) = contains-filtered (attr_of z.0) gs a here in
      let w = of-gathering g of in
      let u = w.use_of in
      let (held, same) = let-through (is_in g.bearers z.0) (made_attr z.0 g) a made in (
        z.0,
        Con u.constituents.number,
        tt,
        (u.constituents, of_table u w.of_text g w.its, refl, sym (bearers-same u w.of_text g w.its z.0) ∙ held),
        subst (λ b. IsExtraAttr t T needs b z.0 (Con u.constituents.number)) same (attr-is u w.of_text g w.its z.0),
      )

  pub attrs-all : (x : ℕ) (s : Slot) → IsOfConstituents s → HasSlot spec T needs x s → (a : ExtraAttr) × Contains attrs a × IsExtraAttr t T needs a x s
  attrs-all x (Con n) its (k, mk, e, h) =
      let (u, mu, eu) = of-tables spec from T numbers.numbers.constituents k mk in
      let (g, mg, itg) = gathering-of u mu in
      let held : is_in g.bearers x ≡ true = bearers-same u mu g itg x ∙ ap (λ (c : Cons). has_con spec T needs c x) eu ∙ h in
      let wants = (and-both (needs.wanted k x) (needs.reaches k x) h).0 in
      let (row, at) = place-below t.symbols x (wanted-below k x ((needs.wanted_exactly k x).0 wants)) in
      let a = made_attr x g in
      let here = filtered-contains (attr_of x) gs g a mg (ap (λ b. if b then Some a else None) held) in (
        a,
        flat-contains (λ (x : ℕ × SymbolRow). symbol_attrs gs x.0) (enumerated 0 t.symbols) (x, row) a (numbered-in t.symbols x row at) here,
        subst (λ z. IsExtraAttr t T needs a x (Con z)) (ap (λ (c : Cons). c.number) eu ∙ e) (attr-is u mu g itg x),
      )
  attrs-all x (Written a) its has = absurd its
  attrs-all x (Inc i) its has = absurd its
  attrs-all x (Front c) its has = absurd its
  attrs-all x (Behind c) its has = absurd its
  attrs-all x (Msg j) its has = absurd its
  attrs-all x Out its has = absurd its

  same-rules : plain_rules spec T.symbols ≡ plain
  same-rules = ap (plain_rules spec) numbers.symbols

  abbrev IsComp : ExtraComp → Type 0
  IsComp = IsComputed t T needs IsOfConstituents (ConstituentsShare spec T needs)

  pub comps-computed : (c : ExtraComp) → Contains (all_comps gs spec.rules t.plain) c → IsComp c
  comps-computed c m =
      let (z, among, here) = contains-flat (λ (x : ℕ × FlatRule). rule_comps gs (is_whole spec.rules x.0) x) (enumerated 0 t.plain) c m in
      let i = z.0 in
      let rule = z.1 in
      let at = place-of-number t.plain z among in
      let (p, of_plain, is) = zip-left (IsPlainOf spec env (named_symbols t)) plain t.plain i rule are.tables.plain at in
      let (fs, of_forced, held) = zip-right _ (plain_rules spec T.symbols) T.forced i p numbers.numbers.forced (ap (λ l. slice_get l i) same-rules ∙ of_plain) in
      let (g, of, made) = contains-filtered (comp_of i (is_whole spec.rules i) rule) gs c here in
      let w = of-gathering g of in
      let u = w.use_of in
      let (has, same) = let-through (is_in g.bearers rule.left.0) (made_comp i (is_whole spec.rules i) rule g) c made in
      let left : IsTrue (has_con spec T needs u.constituents p.left) = sym (ap (is_in g.bearers) is.left ∙ bearers-same u w.of_text g w.its p.left) ∙ has in
      subst IsComp same (record {
        rule = p;
        forces = fs;
        k = 0;
        slot = Con u.constituents.number;
        term = weight_term spec T needs p fs u.constituents;
        symbol = p.left;
        of_rule = at-zip (plain_rules spec T.symbols) T.forced i p fs (ap (λ l. slice_get l i) same-rules ∙ of_plain) of_forced;
        share = gathered u.constituents (of_table u w.of_text g w.its) left;
        occ = refl;
        at = refl;
        named = w.its.number;
        value = weight-is u w.of_text g w.its i p fs rule of_plain is;
      })

  abbrev IsGivenBy : ℕ → ℕ → PlainRule → Slot → Term → Type 0
  IsGivenBy i o p s e = (c : ExtraComp) × Contains (all_comps gs spec.rules t.plain) c × (c.rule.0 ≡ i) × (c.occ ≡ o) × ((x : ℕ) × (symbol_at p o ≡ Some x) × IsSlotAs t x c.slot s) × IsTermAs t p c.value e

  pub comps-compute : (i o : ℕ) (p : PlainRule) (fs : List Force) (s : Slot) (e : Term) → slice_get (ruled spec T) i ≡ Some (p, fs) → ConstituentsShare spec T needs p fs o s e → IsGivenBy i o p s e
  comps-compute i _ p fs _ _ place (gathered k mk h) =
      let at = zip-at (plain_rules spec T.symbols) T.forced i p fs place in
      let of_plain = ap (λ l. slice_get l i) (sym same-rules) ∙ at.0 in
      let (rule, of_flat, is) = zip-right (IsPlainOf spec env (named_symbols t)) plain t.plain i p are.tables.plain of_plain in
      let (u, mu, eu) = of-tables spec from T numbers.numbers.constituents k mk in
      let (g, mg, itg) = gathering-of u mu in
      let held : is_in g.bearers rule.left.0 ≡ true = ap (is_in g.bearers) is.left ∙ bearers-same u mu g itg p.left ∙ ap (λ (c : Cons). has_con spec T needs c p.left) eu ∙ h in
      let whole = is_whole spec.rules i in
      let c = made_comp i whole rule g in
      let here = filtered-contains (comp_of i whole rule) gs g c mg (ap (λ b. if b then Some c else None) held) in
      let among = flat-contains (λ (x : ℕ × FlatRule). rule_comps gs (is_whole spec.rules x.0) x) (enumerated 0 t.plain) (i, rule) c (numbered-in t.plain i rule of_flat) here in
      subst (λ (k : Cons). IsGivenBy i 0 p (Con k.number) (weight_term spec T needs p fs k)) eu (c, among, refl, refl, (p.left, refl, itg.number), weight-is u mu g itg i p fs rule of_plain is)
