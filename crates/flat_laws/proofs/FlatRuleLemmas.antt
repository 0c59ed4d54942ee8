-- A rule of the flat grammar computes what it has to, in range.
use Rattle.std.specs.Prelude.{Contains, IsTrue, All, slice_get, is_some, option_and_then, ◌==◌, ◌&&◌}
use Rattle.std.specs.List.{list_any}
use Rattle.std.proofs.Common.{◌≡◌, ℕ, zero, suc, ◌<◌, ◌≤◌, ◌⊎◌, inl, inr, Bool, true, false, List, [], ◌∷◌, length, Option, Some, None, refl, sym, ap, subst, ◌∙◌, arith, eqb-true, eq-eqb, true≢false}
use Rattle.std.proofs.lemmas.Bool.{cases_lt}
use Rattle.std.proofs.lemmas.Option.{none-some, same_Some, slice_get_within}
use Rattle.lido_base.specs.Environment.{Environment}
use Rattle.lido_base.specs.declared.ids.SymId.{SymId}
use Rattle.lido_base.proofs.Lists.{place-contains}
use Rattle.lido_base.proofs.TreeLemmas.{both}
use Rattle.flat_grammar.specs.declared.flat.Occ.{Occ}
use Rattle.flat_grammar.specs.declared.flat.FlatSymbol.{FlatSymbol}
use Rattle.flat_grammar.specs.declared.flat.FlatAttr.{FlatAttr}
use Rattle.flat_grammar.specs.declared.flat.FlatRule.{FlatRule}
use Rattle.flat_grammar.specs.declared.flat.FlatComp.{FlatComp}
use Rattle.flat_grammar.specs.declared.flat.Shape.{Shape}
use Rattle.flat_grammar.specs.Rules.{symbols_of, attribute_at, dependencies}
use Rattle.flat_grammar.specs.Rules as of_flat
use Rattle.flat_grammar.specs.WellFormed.{is_same_occ, is_goal_kind, is_nonterminal, is_nonterminal_symbol, attribute_of, is_goal}
use Rattle.lido_syntax.specs.declared.spec.Spec.{Spec}
use Rattle.lido_syntax.specs.declared.spec.RuleItem.{RuleItem}
use Rattle.lido_syntax.specs.Production.{left_of, right_of}
use Rattle.lido_symbols.specs.Numbers.{place_in}
use Rattle.rule_tables.specs.PlainRules.{PlainRule, symbol_at, number, cell}
use Rattle.rule_tables.specs.Forced.{Force}
use Rattle.rule_tables.specs.Needs.{Tables, Needs, AreTables}
use Rattle.rule_tables.specs.Slots.{Slot, is_same_slot, HasSlot, IsBefore, AreSlots}
use Rattle.rule_tables.specs.Copies.{occ, slot_number}
use Rattle.rule_tables.specs.Flat.{IsFlat, IsAttribute}
use Rattle.rule_tables.proofs.SlotLemmas.{slot-at_number}
use Rattle.rule_tables.proofs.NeedsLemmas.{any-found}
use Rattle.flat_laws.proofs.Lists.{pair-at}
use Rattle.flat_laws.proofs.Lists.{mapped-place}
use Rattle.flat_laws.proofs.Lists.{mapped-back}
use Rattle.flat_laws.specs.Accepted.{IsAccepted}
use Rattle.flat_laws.proofs.Lists.{found-any, zip-left, zip-right, all-places}
use Rattle.flat_laws.proofs.SymbolLemmas.{left-number, right-number}
use Rattle.flat_laws.proofs.RuleLemmas.{IsRuleOf, whole, listing, link, end, is-rule, IsFlatAt}
use Rattle.flat_laws.proofs.FlatSymbolLemmas.{named-at, cell-at, nonterminal-at, cell-nonterminal}
use Rattle.flat_laws.proofs.EquationLemmas.{is_goal_of, IsNode, node, node_cell, left-node, IsSound, equation-sound, goal-equation}

pub all-of : {X : Type 0} (P : X → Type 0) (xs : List X) → ((x : X) → Contains xs x → P x) → All P xs
all-of P xs each = all-places P xs (λ k x e. each x (place-contains xs k x e))

same-bool : (a b : Bool) → (a ≡ true → b ≡ true) → (b ≡ true → a ≡ true) → a ≡ b
same-bool true true f g = refl
same-bool false false f g = refl
same-bool true false f g = sym (f refl)
same-bool false true f g = g refl

same-occ : (o u : Occ) → is_same_occ o u ≡ true → o ≡ u
same-occ o u h =
    let (a, b) = both (o.occ == u.occ) (o.attr.0 == u.attr.0) h in
    let place = eqb-true o.occ u.occ a in
    let number = eqb-true o.attr.0 u.attr.0 b in
    λ i. record { occ = place i; attr = record { 0 = number i } }

occ-same : (o u : Occ) → o ≡ u → is_same_occ o u ≡ true
occ-same o u e = ap (λ (u : Occ). is_same_occ o u) (sym e) ∙ by (o.occ == o.occ) (o.attr.0 == o.attr.0) (eq-eqb o.occ o.occ refl) (eq-eqb o.attr.0 o.attr.0 refl)
  where
    by : (a b : Bool) → a ≡ true → b ≡ true → (a && b) ≡ true
    by true b e f = f
    by false b e f = absurd (true≢false (sym e))

goal-by-kind : (k : ℕ) (attr : FlatAttr) → is_goal_kind k (Some attr) ≡ is_goal_of k attr.kind
goal-by-kind zero attr = refl
goal-by-kind (suc k) attr = refl

no-goal : (k : ℕ) → is_goal_kind k None ≡ false
no-goal zero = refl
no-goal (suc k) = refl

-- no attribute stands twice among those of a symbol
module _ (spec : Spec) (T : Tables spec) (needs : Needs spec T) (slots : ℕ → List Slot) (are : AreSlots spec T needs slots) where
  not-before-itself : (s : Slot) → ¬ IsBefore spec T needs s s
  not-before-itself s (inl h) = omega (arith, h)
  not-before-itself s (inr (e, h)) = omega (arith, h)

  pub one-slot : (x i j : ℕ) (s : Slot) → slice_get (slots x) i ≡ Some s → slice_get (slots x) j ≡ Some s → i ≡ j
  one-slot x i j s e f = by (cases_lt i j)
    where
      by : (i < j) ⊎ (j ≤ i) → i ≡ j
      by (inl h) = absurd (not-before-itself s (pair-at (IsBefore spec T needs) (slots x) i j s s (are.in_order x) e f h))
      by (inr h) = at_most (cases_lt j i)
        where
          at_most : (j < i) ⊎ (i ≤ j) → i ≡ j
          at_most (inl g) = absurd (not-before-itself s (pair-at (IsBefore spec T needs) (slots x) j i s s (are.in_order x) f e g))
          at_most (inr g) = omega (arith, g, h)

module _ (spec : Spec) (early env : Environment) (T : Tables spec) (tables : AreTables spec T env) (accepted : IsAccepted spec early T) (needs : Needs spec T) (slots : ℕ → List Slot) (are : AreSlots spec T needs slots)
    (symbols : List FlatSymbol) (flat_rules : List FlatRule) (shapes : List Shape) (root : SymId) (is : IsFlat spec T needs slots env symbols flat_rules shapes root)
    (i : ℕ) (flat : FlatRule) (at : IsFlatAt spec env T tables needs slots symbols flat_rules shapes root is i flat) where
  abbrev p : PlainRule
  p = at.p

  abbrev fs : List Force
  fs = at.fs

  abbrev r : RuleItem
  r = at.is_flat.rule

  its-rule : IsRuleOf spec T.symbols p
  its-rule = is-rule spec env T tables i p fs at.of_ruled

  -- ---- symbols

  pub flat-symbol : (k x : ℕ) → symbol_at p k ≡ Some x → of_flat.symbol_at flat k ≡ Some (record { 0 = x })
  flat-symbol zero x e = ap (λ n. Some (let id : SymId = record { 0 = n } in id)) (at.is_flat.left ∙ same_Some p.left x e)
  flat-symbol (suc k) x e =
      let (id, there, n) = mapped-back (λ (s : SymId). s.0) flat.right k x (ap (λ l. slice_get l k) at.is_flat.right ∙ e) in
      there ∙ ap (λ n. Some (let id : SymId = record { 0 = n } in id)) n

  pub plain-symbol : (k : ℕ) (id : SymId) → of_flat.symbol_at flat k ≡ Some id → symbol_at p k ≡ Some id.0
  plain-symbol zero id e = ap Some (sym at.is_flat.left ∙ ap (λ (s : SymId). s.0) (same_Some flat.left id e))
  plain-symbol (suc k) id e = ap (λ l. slice_get l k) (sym at.is_flat.right) ∙ mapped-place (λ (s : SymId). s.0) flat.right k id e

  named-there : (s : ℕ) → slice_get T.symbols (number spec T.symbols s) ≡ Some s → (y : FlatSymbol) × (slice_get symbols (number spec T.symbols s) ≡ Some y)
  named-there s e = let (y, its) = named-at spec env T tables needs slots symbols flat_rules shapes root is (number spec T.symbols s) s e in (y, its.there)

  cell-there : (r : RuleItem) → slice_get spec.rules p.rule ≡ Some r → r.list ≡ true → (y : FlatSymbol) × (slice_get symbols (cell spec T.symbols p.rule) ≡ Some y)
  cell-there r of l = let (y, its) = cell-at spec env T tables needs slots symbols flat_rules shapes root is p.rule r of l in (y, its.there)

  abbrev HasOne : ℕ → Type 0
  HasOne x = (y : FlatSymbol) × (slice_get symbols x ≡ Some y)

  right-there : (r : RuleItem) → slice_get spec.rules p.rule ≡ Some r → (s : ℕ) → Contains (right_of r) s → HasOne (number spec T.symbols s)
  right-there r of s m = named-there s (right-number spec env T tables r (place-contains spec.rules p.rule r of) s m)

  -- each symbol of the rule is one of the grammar
  pub right-inside : (k x : ℕ) → slice_get p.right k ≡ Some x → HasOne x
  right-inside k x e = by its-rule
    where
      in-list : (a b : ℕ) → HasOne a → HasOne b → (k : ℕ) → slice_get (a ∷ b ∷ []) k ≡ Some x → HasOne x
      in-list a b h g zero e = subst HasOne (same_Some a x e) h
      in-list a b h g (suc zero) e = subst HasOne (same_Some b x e) g
      in-list a b h g (suc (suc k)) e = absurd (none-some x e)

      in-one : (a : ℕ) → HasOne a → (k : ℕ) → slice_get (a ∷ []) k ≡ Some x → HasOne x
      in-one a h zero e = subst HasOne (same_Some a x e) h
      in-one a h (suc k) e = absurd (none-some x e)

      by : IsRuleOf spec T.symbols p → HasOne x
      by (whole q h) =
          let (z, at_z, n) = mapped-back (number spec T.symbols) (right_of q) k x (ap (λ l. slice_get l k) (sym h.right) ∙ e) in
          subst HasOne n (right-there q h.rule z (place-contains (right_of q) k z at_z))
      by (listing q h) = in-one (cell spec T.symbols p.rule) (cell-there q h.rule h.list) k (ap (λ l. slice_get l k) (sym h.right) ∙ e)
      by (link q s h) = in-list (number spec T.symbols s) (cell spec T.symbols p.rule) (right-there q h.rule s h.element) (cell-there q h.rule h.list) k (ap (λ l. slice_get l k) (sym h.right) ∙ e)
      by (end q h) = absurd (none-some x (ap (λ l. slice_get l k) (sym h.right) ∙ e))

  left-inside : HasOne p.left
  left-inside = by its-rule
    where
      written : (q : RuleItem) → slice_get spec.rules p.rule ≡ Some q → p.left ≡ number spec T.symbols (left_of q) → HasOne p.left
      written q of left = subst HasOne (sym left) (named-there (left_of q) (left-number spec env T tables q (place-contains spec.rules p.rule q of)))

      by : IsRuleOf spec T.symbols p → HasOne p.left
      by (whole q h) = written q h.rule h.left
      by (listing q h) = written q h.rule h.left
      by (link q s h) = subst HasOne (sym h.left) (cell-there q h.rule h.list)
      by (end q h) = subst HasOne (sym h.left) (cell-there q h.rule h.list)

  inside : (k x : ℕ) → symbol_at p k ≡ Some x → HasOne x
  inside zero x e = subst HasOne (same_Some p.left x e) left-inside
  inside (suc k) x e = right-inside k x e

  -- a nonterminal or a cell counts as a nonterminal
  node-bare : (x : ℕ) (id : SymId) → IsNode spec T.symbols x → id.0 ≡ x → IsTrue (is_nonterminal symbols id)
  node-bare x id (node s n e) same = nonterminal-at spec env T tables needs slots symbols flat_rules shapes root is s id n (same ∙ e)
  node-bare x id (node_cell j q of l e) same = cell-nonterminal spec env T tables needs slots symbols flat_rules shapes root is j q id of l (same ∙ e)

  pub left-side : IsTrue (is_nonterminal symbols flat.left)
  left-side = node-bare p.left flat.left (left-node spec T.symbols p its-rule) at.is_flat.left

  pub right-side : All (λ (s : SymId). s.0 < length symbols) flat.right
  right-side = all-places (λ (s : SymId). s.0 < length symbols) flat.right (λ k id e. (let (y, f) = right-inside k id.0 (plain-symbol (suc k) id e) in slice_get_within symbols id.0 y f))

  -- ---- attributes

  abbrev at_occ : ℕ → Slot → Occ
  at_occ k s = occ spec T needs slots env r p fs k s

  -- an attribute of an occurrence's symbol stands at its number
  pub record HasAttribute (k x : ℕ) (s : Slot) : Type 0 where
    pub attr : FlatAttr
    pub there : attribute_of symbols flat (at_occ k s) ≡ Some attr
    pub its : IsAttribute spec T needs slots env x s attr

  numbered-at : (k x : ℕ) (s : Slot) → symbol_at p k ≡ Some x → (at_occ k s).attr.0 ≡ place_in (is_same_slot s) (slots x)
  numbered-at k x s e = ap (λ (o : Option ℕ). slot_number spec T needs slots env r p fs o s) e

  attribute-read : (k x : ℕ) (o : Occ) (y : FlatSymbol) → o.occ ≡ k → of_flat.symbol_at flat k ≡ Some (record { 0 = x }) → slice_get symbols x ≡ Some y → attribute_of symbols flat o ≡ slice_get y.attrs o.attr.0
  attribute-read k x o y e f g =
      ap (λ (s : Option SymId). elim s as (λ _. Option FlatAttr) [ None ↦ None | Some s ↦ attribute_at symbols s o.attr ]) (ap (of_flat.symbol_at flat) e ∙ f)
      ∙ ap (λ (y : Option FlatSymbol). option_and_then {T = FlatSymbol} {U = FlatAttr} (λ (x : FlatSymbol). slice_get x.attrs o.attr.0) y) g

  pub has-attribute : (k x : ℕ) (s : Slot) → symbol_at p k ≡ Some x → HasSlot spec T needs x s → HasAttribute k x s
  has-attribute k x s e has =
      let (y, f) = inside k x e in
      let place = slot-at_number s (slots x) ((are.all x s).1 has) in
      let (attr, g, its) = zip-right (IsAttribute spec T needs slots env x) (slots x) y.attrs (place_in (is_same_slot s) (slots x)) s (is.attributes x y f) place in
      record {
        attr = attr;
        there = attribute-read k x (at_occ k s) y refl (flat-symbol k x e) f ∙ ap (slice_get y.attrs) (numbered-at k x s e) ∙ g;
        its = its;
      }

  -- ---- goals

  abbrev Sound : ℕ → Slot → ℕ → List Occ → Type 0
  Sound = IsSound spec early env T tables accepted needs i p fs at.of_ruled slots r at.is_flat.of_rule

  -- a computation with what it is by the equations
  pub record IsComputed (c : FlatComp) : Type 0 where
    pub k : ℕ
    pub s : Slot
    pub origin : ℕ
    pub deps : List Occ
    pub goal : c.goal ≡ at_occ k s
    pub from : c.origin ≡ origin
    pub within : (o : Occ) → Contains (dependencies c) o → Contains deps o
    pub sound : Sound k s origin deps

  pub computed-as : (c : FlatComp) → Contains flat.comps c → IsComputed c
  computed-as c m = let (k, s, origin, value, deps, equation, given) = at.is_flat.only c m in record {
    k = k;
    s = s;
    origin = origin;
    deps = deps;
    goal = given.goal;
    from = given.from;
    within = λ o. (given.depends o).0;
    sound = equation-sound spec early env T tables accepted needs i p fs at.of_ruled slots r at.is_flat.of_rule k s origin value deps equation;
  }

  goal-to : (o : Occ) → list_any (λ (c : FlatComp). is_same_occ c.goal o) flat.comps ≡ true → is_goal symbols flat o ≡ true
  goal-to o h =
      let (c, m, pass) = any-found (λ (c : FlatComp). is_same_occ c.goal o) flat.comps h in
      let of = computed-as c m in
      let attribute = has-attribute of.k of.sound.slot.x of.s of.sound.slot.at of.sound.slot.has in
      ap (is_goal symbols flat) (sym (same-occ c.goal o pass) ∙ of.goal)
      ∙ ap (is_goal_kind of.k) attribute.there ∙ goal-by-kind of.k attribute.attr ∙ of.sound.of_kind attribute.attr.kind attribute.its.kind

  -- an attribute of an occurrence as a slot
  pub record IsSlotAt (o : Occ) (attr : FlatAttr) : Type 0 where
    pub x : ℕ
    pub s : Slot
    pub here : symbol_at p o.occ ≡ Some x
    pub has : HasSlot spec T needs x s
    pub its : IsAttribute spec T needs slots env x s attr
    pub same : at_occ o.occ s ≡ o

  slot-at : (o : Occ) (attr : FlatAttr) → attribute_of symbols flat o ≡ Some attr → IsSlotAt o attr
  slot-at o attr e = by (of_flat.symbol_at flat o.occ) refl e
    where
      of-symbol : (id : SymId) → of_flat.symbol_at flat o.occ ≡ Some id → (y : Option FlatSymbol) → slice_get symbols id.0 ≡ y → option_and_then {T = FlatSymbol} {U = FlatAttr} (λ (x : FlatSymbol). slice_get x.attrs o.attr.0) y ≡ Some attr
          → IsSlotAt o attr
      of-symbol id f None g e = absurd (none-some attr e)
      of-symbol id f (Some y) g e =
          let (s, place, its) = zip-left (IsAttribute spec T needs slots env id.0) (slots id.0) y.attrs o.attr.0 attr (is.attributes id.0 y g) e in
          let m = place-contains (slots id.0) o.attr.0 s place in
          let here = plain-symbol o.occ id f in
          let number = numbered-at o.occ id.0 s here ∙ one-slot spec T needs slots are id.0 (place_in (is_same_slot s) (slots id.0)) o.attr.0 s (slot-at_number s (slots id.0) m) place in
          record {
            x = id.0;
            s = s;
            here = here;
            has = (are.all id.0 s).0 m;
            its = its;
            same = ap (λ n. let u : Occ = record { occ = o.occ; attr = record { 0 = n } } in u) number;
          }

      by : (s : Option SymId) → of_flat.symbol_at flat o.occ ≡ s → elim s as (λ _. Option FlatAttr) [ None ↦ None | Some s ↦ attribute_at symbols s o.attr ] ≡ Some attr → IsSlotAt o attr
      by None f e = absurd (none-some attr e)
      by (Some id) f e = of-symbol id f (slice_get symbols id.0) refl e

  goal-from : (o : Occ) → is_goal symbols flat o ≡ true → list_any (λ (c : FlatComp). is_same_occ c.goal o) flat.comps ≡ true
  goal-from o h = by (attribute_of symbols flat o) refl h
    where
      by : (a : Option FlatAttr) → attribute_of symbols flat o ≡ a → is_goal_kind o.occ a ≡ true → list_any (λ (c : FlatComp). is_same_occ c.goal o) flat.comps ≡ true
      by None e g = absurd (true≢false (sym g ∙ no-goal o.occ))
      by (Some attr) e g =
          let slot = slot-at o attr e in
          let its = goal-equation spec early env T tables accepted needs i p fs at.of_ruled slots r at.is_flat.of_rule o.occ slot.x slot.s attr.kind slot.here slot.has slot.its.kind (sym (goal-by-kind o.occ attr) ∙ g) in
          let (c, m, given) = at.is_flat.all o.occ slot.s its.origin its.value its.deps its.equation in
          found-any (λ (c : FlatComp). is_same_occ c.goal o) flat.comps c m (occ-same c.goal o (given.goal ∙ slot.same))

  pub goals : (o : Occ) → list_any (λ (c : FlatComp). is_same_occ c.goal o) flat.comps ≡ is_goal symbols flat o
  goals o = same-bool (list_any (λ (c : FlatComp). is_same_occ c.goal o) flat.comps) (is_goal symbols flat o) (goal-to o) (goal-from o)

  pub dependencies-in_range : All (λ (c : FlatComp). All (λ (o : Occ). IsTrue (is_some (attribute_of symbols flat o))) (dependencies c)) flat.comps
  dependencies-in_range = all-of (λ (c : FlatComp). All (λ (o : Occ). IsTrue (is_some (attribute_of symbols flat o))) (dependencies c)) flat.comps (λ c m.
      all-of (λ (o : Occ). IsTrue (is_some (attribute_of symbols flat o))) (dependencies c) (λ o k. in_range c m o k))
    where
      in_range : (c : FlatComp) → Contains flat.comps c → (o : Occ) → Contains (dependencies c) o → IsTrue (is_some (attribute_of symbols flat o))
      in_range c m o k =
          let of = computed-as c m in
          let (n, s, same, there) = of.sound.needed o (of.within o k) in
          let attribute = has-attribute n there.x s there.at there.has in
          ap (λ (o : Occ). is_some (attribute_of symbols flat o)) same ∙ ap (λ (a : Option FlatAttr). is_some a) attribute.there

  pub origins : All (λ (c : FlatComp). IsTrue (is_nonterminal_symbol (elim (of_flat.symbol_at flat c.origin) as (λ _. Option FlatSymbol) [ None ↦ None | Some s ↦ slice_get symbols s.0 ]))) flat.comps
  origins = all-of (λ (c : FlatComp). IsTrue (is_nonterminal_symbol (elim (of_flat.symbol_at flat c.origin) as (λ _. Option FlatSymbol) [ None ↦ None | Some s ↦ slice_get symbols s.0 ]))) flat.comps (λ c m.
      (let of = computed-as c m in
      let (x, there, is_node) = of.sound.of_node in
      ap (λ (s : Option SymId). is_nonterminal_symbol (elim s as (λ _. Option FlatSymbol) [ None ↦ None | Some s ↦ slice_get symbols s.0 ])) (ap (of_flat.symbol_at flat) of.from ∙ flat-symbol of.origin x there)
      ∙ node-bare x (record { 0 = x }) is_node refl))
