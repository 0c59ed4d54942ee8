-- From the parts to all clashes.
use Rattle.std.specs.Prelude.{Contains, IsTrue, ℤ, All, map, filter_map, not}
use Rattle.std.proofs.Common.{◌≡◌, ℕ, ◌<◌, Bool, ◌⊎◌, inl, inr, List, [], ◌∷◌, length, Option, Some, None, refl, sym, subst, ap}
use Rattle.std.proofs.lemmas.Bool.{both_ways, not-true, and_parts, and_from, or_cases, or_left, or_right, not_from_false, false_from_ne_true, cases_Bool}
use Rattle.std.proofs.lemmas.Option.{same_Some, none-some}
use Rattle.std.proofs.lemmas.List.Elements.{Contains-append_left, Contains-append_right, Contains-append_cases, All-contains}
use Rattle.lido_base.specs.Environment.{Environment}
use Rattle.lido_base.specs.declared.kinds.Kind.TheVariants.{Inherited}
use Rattle.lido_base.specs.declared.value.ValueType.{ValueType}
use Rattle.lido_base.specs.declared.value.ValueType.TheVariants as type
use Rattle.lido_base.proofs.Lists.{contains-nil, contains-cons, contains-here, contains-later, contains-map, map-contains, place-below, place-contains}
use Rattle.lido_base.proofs.TreeLemmas.{test-contains}
use Rattle.lido_syntax.specs.declared.spec.Spec.{Spec}
use Rattle.lido_syntax.specs.declared.spec.Name.{Name}
use Rattle.lido_syntax.specs.declared.spec.Comp.{Comp}
use Rattle.lido_syntax.specs.declared.spec.Pair.{Pair}
use Rattle.lido_syntax.specs.declared.spec.Element.{Element}
use Rattle.lido_syntax.specs.declared.spec.Element.TheVariants.{Symbol, Literal}
use Rattle.lido_syntax.specs.declared.spec.Expr.{Expr, Int, Str, Bool as Truth, Terminal, Read, Including, Constituents, Call'}
use Rattle.lido_syntax.specs.declared.spec.Place.{Place}
use Rattle.lido_syntax.specs.declared.spec.Place.TheVariants as place
use Rattle.lido_syntax.specs.declared.spec.RuleItem.{RuleItem}
use Rattle.lido_syntax.specs.declared.spec.SymbolItem.{SymbolItem}
use Rattle.lido_syntax.specs.declared.spec.Target.{Target}
use Rattle.lido_syntax.specs.declared.spec.Target.TheVariants as target
use Rattle.lido_syntax.specs.Attributes.{uses, possible, IsOnSide, IsOwn, InBody, InText, Has}
use Rattle.lido_syntax.specs.Parts.{leaves_of}
use Rattle.lido_syntax.specs.Production.{name_of}
use Rattle.lido_syntax.specs.Sets.{names_of}
use Rattle.lido_syntax.specs.Symbols.{IsNonterminal, IsTerminal, IsChain}
use Rattle.lido_symbols.specs.Classes.{IsClass}
use Rattle.lido_symbols.specs.Uses.{element_name, production_names}
use Rattle.kind_clashes.specs.declared.names.Names.{Names}
use Rattle.kind_clashes.specs.declared.sets.NameSets.{NameSets}
use Rattle.kind_clashes.specs.Comps.{is_chain_in, IsUseClash, IsTerminalName, IsPairClash, IsLeafClash, IsThisClash, IsTargetClash, IsTail, IsFromBelow, IsBarredByStart, IsBarredAt, IsBarredByInh, IsCompClash}
use Rattle.kind_clashes.specs.Items.{IsOwnUse, IsOwnLeaf, IsOwnTarget, IsOwnIn, IsBrought}
use Rattle.kind_clashes.specs.KindClash as clash
use Rattle.kind_clashes.specs.KindClash.{IsKindClash, IsPlainTerminal, IsLeaf, Brings, IsTwofold, IsBelow, remote_names, pairs_of}
use Rattle.kind_clashes.specs.Least.{IsFirst, earlier_of}
use Rattle.kind_clashes.specs.Names.{has, IsSetOf}
use Rattle.kind_clashes.specs.Plain.{IsNameClash, IsClashInRules, IsClashInItems, IsPlainClash}
use Rattle.kind_clashes.specs.Sets.{AreNameSets, is_terminal_in, is_plain_terminal_in}
use Rattle.kind_clashes.specs.Sides.{IsSideClash, IsTargetSideClash, IsLeafSideClash, IsRuleCompClash}
use Rattle.kind_clashes.proofs.LeastLemmas.{first-same, first-join}
use Rattle.kind_clashes.proofs.UsesLemmas.{IsUsed, by_target, by_leaf, by_read, by_pair, to-used, of-used}

-- a test that fails, and one that doesn't pass
pub not-so : (b : Bool) → IsTrue (not b) → ¬ IsTrue b
not-so b h = both_ways b (not-true b h)

pub so-not : (b : Bool) → ¬ IsTrue b → IsTrue (not b)
so-not b h = not_from_false b (false_from_ne_true b h)

symbol-named : (e : Element) (x : Name) → element_name e ≡ Some x → e ≡ Symbol x
symbol-named (Symbol y) x e = ap Symbol (same_Some _ _ e)
symbol-named (Literal s) x e = absurd (none-some _ e)

elements-to : (es : List Element) (x : Name) → Contains (filter_map element_name es) x → Contains es (Symbol x)
elements-to [] x m = absurd (contains-nil x m)
elements-to (Symbol y ∷ es) x m = elim (contains-cons y x (filter_map element_name es) m) [
  | inl e ↦ subst (λ z. Contains (Symbol y ∷ es) (Symbol z)) e (contains-here (Symbol y) es)
  | inr k ↦ contains-later (Symbol y) (Symbol x) es (elements-to es x k)
]
elements-to (Literal s ∷ es) x m = contains-later (Literal s) (Symbol x) es (elements-to es x m)

to-elements : (es : List Element) (x : Name) → Contains es (Symbol x) → Contains (filter_map element_name es) x
to-elements [] x m = absurd (contains-nil _ m)
to-elements (Symbol y ∷ es) x m = elim (contains-cons (Symbol y) (Symbol x) es m) [
  | inl e ↦ subst (λ z. Contains (y ∷ filter_map element_name es) z) (same_Some _ _ (ap element_name e)) (contains-here y (filter_map element_name es))
  | inr k ↦ contains-later y x (filter_map element_name es) (to-elements es x k)
]
to-elements (Literal s ∷ es) x m = elim (contains-cons (Literal s) (Symbol x) es m) [ inl e ↦ absurd (none-some _ (ap element_name e)) | inr k ↦ to-elements es x k ]

module _ (spec : Spec) (sets : NameSets) (are : AreNameSets spec sets) where
  chain-of : (a : Name) → IsTrue (is_chain_in sets a) → IsChain spec (name_of a)
  chain-of a h = are.chains.only (name_of a) h

  chain-to : (a : Name) → IsChain spec (name_of a) → IsTrue (is_chain_in sets a)
  chain-to a h = are.chains.all (name_of a) h

  no-chain-of : (a : Name) → IsTrue (not (is_chain_in sets a)) → ¬ IsChain spec (name_of a)
  no-chain-of a h = λ k. not-so _ h (chain-to a k)

  no-chain-to : (a : Name) → ¬ IsChain spec (name_of a) → IsTrue (not (is_chain_in sets a))
  no-chain-to a h = so-not _ (λ k. h (chain-of a k))

  terminal-of : (s : ℕ) → IsTrue (is_terminal_in sets s) → (ty : ValueType) × IsTerminal spec s ty
  terminal-of s h = let p = and_parts (not (has sets.nonterminals s)) _ h in let no_left : ¬ IsNonterminal spec s = λ n. not-so _ p.0 (are.nonterminals.all s n) in
      elim (cases_Bool (has sets.declared s)) [
        | inl d ↦ (let t = are.declared.only s d in (t.0, (no_left, inl t.1)))
        | inr none ↦ (
          type.Int,
          (
            no_left,
            inr (
              elim (or_cases (has sets.declared s) (has sets.right_sides s) p.1) [ inl d ↦ absurd (both_ways _ none d) | inr r ↦ are.right_sides.only s r ],
              (λ other t. both_ways _ none (are.declared.all s (other, t))),
              refl,
            ),
          ),
        )
      ]

  terminal-to : (s : ℕ) (ty : ValueType) → IsTerminal spec s ty → IsTrue (is_terminal_in sets s)
  terminal-to s ty h = and_from (not (has sets.nonterminals s)) _ (so-not _ (λ n. h.0 (are.nonterminals.only s n))) (elim h.1 [
    | inl t ↦ or_left (has sets.declared s) (has sets.right_sides s) (are.declared.all s (ty, t))
    | inr r ↦ or_right (has sets.declared s) (has sets.right_sides s) (are.right_sides.all s r.0)
  ])

  plain-of : (s : ℕ) → IsTrue (is_plain_terminal_in sets s) → IsPlainTerminal spec s
  plain-of s h = let p = and_parts (is_terminal_in sets s) _ h in (terminal-of s p.0, λ k. not-so _ p.1 (are.classes.all s k))

  plain-to : (s : ℕ) → IsPlainTerminal spec s → IsTrue (is_plain_terminal_in sets s)
  plain-to s h = and_from (is_terminal_in sets s) _ (terminal-to s h.0.0 h.0.1) (so-not _ (λ k. h.1 (are.classes.only s k)))

  -- what a use at a place that means the symbol itself says
  own-of : (p : Place) (a : Name) (at : ℕ) → IsOwnUse sets p a at → IsOwn p × ¬ IsChain spec (name_of a)
  own-of place.Synt a at h = (tt, no-chain-of a h.0)
  own-of place.Inh a at h = (tt, no-chain-of a h.0)
  own-of place.This a at h = (tt, no-chain-of a h.0)
  own-of (place.Named x i) a at h = absurd h
  own-of place.Tail a at h = absurd h

  own-to : (p : Place) (a : Name) → IsOwn p → ¬ IsChain spec (name_of a) → IsOwnUse sets p a a.at
  own-to place.Synt a own h = (no-chain-to a h, refl)
  own-to place.Inh a own h = (no-chain-to a h, refl)
  own-to place.This a own h = (no-chain-to a h, refl)
  own-to (place.Named x i) a own h = absurd own
  own-to place.Tail a own h = absurd own

  own-target : (c : Comp) (at : ℕ) (t : Target) → c.target ≡ t → IsOwnTarget sets t at → (p : Place) × (a : Name) × IsUsed c p a × IsOwn p × ¬ IsChain spec (name_of a)
  own-target c at (target.Attr p a) e h = let k = own-of p a at h in (p, a, by_target e, k.0, k.1)
  own-target c at (target.Start a) e h = absurd h
  own-target c at target.Out e h = absurd h
  own-target c at (target.Message s o) e h = absurd h

  own-leaf : (c : Comp) (at : ℕ) (e : Expr) → Contains (leaves_of c) e → IsOwnLeaf sets e at → (p : Place) × (a : Name) × IsUsed c p a × IsOwn p × ¬ IsChain spec (name_of a)
  own-leaf c at (Read first p a) m h = let k = own-of p a at h in (p, a, by_leaf (Read first p a) m (by_read first refl), k.0, k.1)
  own-leaf c at (Int q z) m h = absurd h
  own-leaf c at (Str q s) m h = absurd h
  own-leaf c at (Truth q b) m h = absurd h
  own-leaf c at (Terminal x i) m h = absurd h
  own-leaf c at (Including q ps) m h = absurd h
  own-leaf c at (Constituents k) m h = absurd h
  own-leaf c at (Call' f shape args) m h = absurd h

  own-found : (c : Comp) (at : ℕ) → IsOwnIn sets c at → (p : Place) × (a : Name) × IsUsed c p a × IsOwn p × ¬ IsChain spec (name_of a)
  own-found c at h = elim h [ inl t ↦ own-target c at c.target refl t | inr l ↦ own-leaf c at l.item l.among l.is ]

  own-in : (c : Comp) (p : Place) (a : Name) → IsUsed c p a → IsOwn p → ¬ IsChain spec (name_of a) → IsOwnIn sets c a.at
  own-in c p a (by_target e) own free = inl (subst (λ (t : Target). IsOwnTarget sets t a.at) (sym e) (own-to p a own free))
  own-in c p a (by_leaf e m (by_read first same)) own free = inr (record { item = e; among = m; is = subst (λ (l : Expr). IsOwnLeaf sets l a.at) (sym same) (own-to p a own free) })
  own-in c p a (by_leaf e m (by_pair q mq ep ea)) own free = absurd (subst IsOwn ep own)

  module _ (bearers : Names) (bear : IsSetOf (λ s. (a : ℕ) × Has spec s a) bearers) where
    brings-of : (item : SymbolItem) (at : ℕ) → IsBrought sets bearers item at → Brings spec item
    brings-of item at h = elim h [
      | inl d ↦ clash.Brings.declaration d.item d.among
      | inr k ↦ elim k [
        | inl own ↦ (let (p, a, used, is, free) = own-found own.item at own.is in
            clash.in_body own.item p a own.among (of-used own.item p a used) is free)
        | inr class ↦ (let b = bear.only (name_of class.item) class.is.0 in clash.by_class class.item b.0 class.among b.1)
      ]
    ]

    brings-to : (item : SymbolItem) → Brings spec item → (at : ℕ) × IsBrought sets bearers item at
    brings-to item (clash.Brings.declaration d m) = (d.attr.at, inl (record { item = d; among = m; is = refl }))
    brings-to item (clash.in_body c p a m u own free) = (a.at, inr (inl (record { item = c; among = m; is = own-in c p a (to-used c p a u) own free })))
    brings-to item (clash.by_class x a m h) = (x.at, inr (inr (record { item = x; among = m; is = (bear.all (name_of x) (a, h), refl) })))

  module _ (env : Environment) where
    -- of the computations
    use-of : (c : Comp) → InText spec c → (p : Place) (a : Name) (at : ℕ) → Contains (uses c) (p, a) → IsUseClash sets p a at → IsKindClash spec env at
    use-of c t (place.Named x i) a at u (h, spot) = let q = and_parts (not (is_chain_in sets a)) _ h in clash.attribute_of_terminal (clash.by_place c x i a t u (no-chain-of a q.0) (plain-of (name_of x) q.1) spot)
    use-of c t place.Synt a at u (h, spot) = clash.chain_elsewhere (clash.IsChainElsewhere.synt c a t u (chain-of a h) spot)
    use-of c t place.Inh a at u (h, spot) = clash.chain_elsewhere (clash.IsChainElsewhere.inh c a t u (chain-of a h) spot)
    use-of c t place.This a at u h = absurd h
    use-of c t place.Tail a at u (h, spot) = clash.no_chain c a t (inr u) (no-chain-of a h) spot

    pair-of : (e : Expr) → IsLeaf spec e → (at : ℕ) (q : Pair) → Contains (pairs_of e) q → Contains (remote_names e) q.sym → IsPairClash sets q at → IsKindClash spec env at
    pair-of e leaf at q m n h = elim h [
      | inl k ↦ clash.attribute_of_terminal (clash.by_remote_list e q.sym leaf n (plain-of (name_of q.sym) k.0) k.1)
      | inr k ↦ clash.chain_in_pair e q leaf m (chain-of q.attr k.0) k.1
    ]

    leaf-of : (c : Comp) → InText spec c → (at : ℕ) (e : Expr) → Contains (leaves_of c) e → IsLeafClash sets e at → IsKindClash spec env at
    leaf-of c t at (Read first p a) m h = use-of c t p a at (of-used c p a (by_leaf (Read first p a) m (by_read first refl))) h
    leaf-of c t at (Including q ps) m h = pair-of (Including q ps) (c, t, m) at h.item h.among (map-contains (λ (p : Pair). p.sym) ps h.item h.among) h.is
    leaf-of c t at (Constituents k) m h = elim h [
      | inl p ↦ pair-of (Constituents k) (c, t, m) at p.item p.among
          (Contains-append_left (map (λ (p : Pair). p.sym) k.pairs) k.shield p.item.sym (map-contains (λ (p : Pair). p.sym) k.pairs p.item p.among)) p.is
      | inr s ↦ clash.attribute_of_terminal (clash.by_remote_list (Constituents k) s.item (c, t, m)
          (Contains-append_right (map (λ (p : Pair). p.sym) k.pairs) k.shield s.item s.among) (plain-of (name_of s.item) s.is.0) s.is.1)
    ]
    leaf-of c t at (Int q z) m h = absurd h
    leaf-of c t at (Str q s) m h = absurd h
    leaf-of c t at (Truth q b) m h = absurd h
    leaf-of c t at (Terminal x i) m h = absurd h
    leaf-of c t at (Call' f shape args) m h = absurd h

    this-of : (c : Comp) → InText spec c → (at : ℕ) (p : Place) (a : Name) → c.target ≡ target.Attr p a → IsThisClash sets c.at p a at → IsKindClash spec env at
    this-of c t at place.This a e (h, spot) = clash.target_by_this c a t e (no-chain-of a h) spot
    this-of c t at (place.Named x i) a e h = absurd h
    this-of c t at place.Synt a e h = absurd h
    this-of c t at place.Inh a e h = absurd h
    this-of c t at place.Tail a e h = absurd h

    target-of : (c : Comp) → InText spec c → (at : ℕ) (g : Target) → c.target ≡ g → IsTargetClash sets c.at g at → IsKindClash spec env at
    target-of c t at (target.Attr p a) e h = elim h [ inl u ↦ use-of c t p a at (of-used c p a (by_target e)) u | inr k ↦ this-of c t at p a e k ]
    target-of c t at (target.Start a) e (h, spot) = clash.no_chain c a t (inl e) (no-chain-of a h) spot
    target-of c t at target.Out e h = absurd h
    target-of c t at (target.Message s o) e h = absurd h

    tail-of : (c : Comp) (at : ℕ) (e : Expr) → Contains (leaves_of c) e → IsTail e at → (b : Name) × Contains (leaves_of c) (Read at place.Tail b)
    tail-of c at (Read first place.Tail b) m h = (b, subst (λ n. Contains (leaves_of c) (Read n place.Tail b)) (sym h) m)
    tail-of c at (Read first (place.Named x i) b) m h = absurd h
    tail-of c at (Read first place.Synt b) m h = absurd h
    tail-of c at (Read first place.Inh b) m h = absurd h
    tail-of c at (Read first place.This b) m h = absurd h
    tail-of c at (Int q z) m h = absurd h
    tail-of c at (Str q s) m h = absurd h
    tail-of c at (Truth q b) m h = absurd h
    tail-of c at (Terminal x i) m h = absurd h
    tail-of c at (Including q ps) m h = absurd h
    tail-of c at (Constituents k) m h = absurd h
    tail-of c at (Call' f shape args) m h = absurd h

    start-of : (c : Comp) → InText spec c → (at : ℕ) (g : Target) → c.target ≡ g → (e : Expr) → Contains (leaves_of c) e → IsBarredByStart g e at → IsKindClash spec env at
    start-of c t at (target.Start a) same e m h = let (b, k) = tail-of c at e m h in clash.tail_in_start c a b t same k
    start-of c t at (target.Attr p a) same e m h = absurd h
    start-of c t at target.Out same e m h = absurd h
    start-of c t at (target.Message s o) same e m h = absurd h

    comp-of : (c : Comp) → InText spec c → (at : ℕ) → IsCompClash sets c at → IsKindClash spec env at
    comp-of c t at h = elim h [
      | inl g ↦ target-of c t at c.target refl g
      | inr k ↦ elim k [ inl l ↦ leaf-of c t at l.item l.among l.is | inr b ↦ start-of c t at c.target refl b.item b.among b.is ]
    ]

    below-of : (s : ℕ) (c : Comp) (at : ℕ) (a : Name) → InBody spec s c → c.target ≡ target.Attr place.Inh a → (e : Expr) → Contains (leaves_of c) e → IsFromBelow e at → IsKindClash spec env at
    below-of s c at a body same (Read first place.Tail b) m h =
        clash.below_in_inh s c a (Read at place.Tail b) body same (subst (λ n. Contains (leaves_of c) (Read n place.Tail b)) (sym h) m) (clash.IsBelow.tail b)
    below-of s c at a body same (Constituents k) m h = clash.below_in_inh s c a (Constituents k) body same m (clash.IsBelow.constituents k h)
    below-of s c at a body same (Read first (place.Named x i) b) m h = absurd h
    below-of s c at a body same (Read first place.Synt b) m h = absurd h
    below-of s c at a body same (Read first place.Inh b) m h = absurd h
    below-of s c at a body same (Read first place.This b) m h = absurd h
    below-of s c at a body same (Int q z) m h = absurd h
    below-of s c at a body same (Str q z) m h = absurd h
    below-of s c at a body same (Truth q b) m h = absurd h
    below-of s c at a body same (Terminal x i) m h = absurd h
    below-of s c at a body same (Including q ps) m h = absurd h
    below-of s c at a body same (Call' f shape args) m h = absurd h

    barred-at : (s : ℕ) (c : Comp) (at : ℕ) (p : Place) (a : Name) → InBody spec s c → c.target ≡ target.Attr p a → (e : Expr) → Contains (leaves_of c) e → IsBarredAt p e at → IsKindClash spec env at
    barred-at s c at place.Inh a body same e m h = below-of s c at a body same e m h
    barred-at s c at (place.Named x i) a body same e m h = absurd h
    barred-at s c at place.Synt a body same e m h = absurd h
    barred-at s c at place.This a body same e m h = absurd h
    barred-at s c at place.Tail a body same e m h = absurd h

    barred-of : (s : ℕ) (c : Comp) (at : ℕ) (g : Target) → InBody spec s c → c.target ≡ g → (e : Expr) → Contains (leaves_of c) e → IsBarredByInh g e at → IsKindClash spec env at
    barred-of s c at (target.Attr p a) body same e m h = barred-at s c at p a body same e m h
    barred-of s c at (target.Start a) body same e m h = absurd h
    barred-of s c at target.Out body same e m h = absurd h
    barred-of s c at (target.Message z o) body same e m h = absurd h

    -- of the sides of rules
    side-of : (r : RuleItem) (c : Comp) (at : ℕ) → Contains spec.rules r → Contains r.body c → (p : Place) (a : Name) → Contains (uses c) (p, a) → IsSideClash sets r p a at → IsKindClash spec env at
    side-of r c at mr mc (place.Named x i) a u h = clash.chain_elsewhere (clash.on_right_side r c x i a mr mc u h.1.0 (chain-of a h.0) h.1.1)
    side-of r c at mr mc place.Synt a u h = absurd h
    side-of r c at mr mc place.Inh a u h = absurd h
    side-of r c at mr mc place.This a u h = absurd h
    side-of r c at mr mc place.Tail a u h = absurd h

    target-side : (r : RuleItem) (c : Comp) (at : ℕ) → Contains spec.rules r → Contains r.body c → (g : Target) → c.target ≡ g → IsTargetSideClash sets r g at → IsKindClash spec env at
    target-side r c at mr mc (target.Attr p a) e h = side-of r c at mr mc p a (of-used c p a (by_target e)) h
    target-side r c at mr mc (target.Start a) e h = absurd h
    target-side r c at mr mc target.Out e h = absurd h
    target-side r c at mr mc (target.Message s o) e h = absurd h

    leaf-side : (r : RuleItem) (c : Comp) (at : ℕ) → Contains spec.rules r → Contains r.body c → (e : Expr) → Contains (leaves_of c) e → IsLeafSideClash sets r env.texts e at → IsKindClash spec env at
    leaf-side r c at mr mc (Terminal x i) m h = clash.bare_nonterminal r c x i mr mc m (not-so _ h.0) (are.nonterminals.only (name_of x) h.1.0) h.1.1
    leaf-side r c at mr mc (Read first p a) m h = side-of r c at mr mc p a (of-used c p a (by_leaf (Read first p a) m (by_read first refl))) h
    leaf-side r c at mr mc (Int q z) m h = absurd h
    leaf-side r c at mr mc (Str q s) m h = absurd h
    leaf-side r c at mr mc (Truth q b) m h = absurd h
    leaf-side r c at mr mc (Including q ps) m h = absurd h
    leaf-side r c at mr mc (Constituents k) m h = absurd h
    leaf-side r c at mr mc (Call' f shape args) m h = absurd h

    rules-of : (at : ℕ) → IsClashInRules spec sets env.texts at → IsKindClash spec env at
    rules-of at h = let r = h.item in let c = h.is.item in elim h.is.is [
      | inl k ↦ comp-of c (inl (r, h.among, h.is.among)) at k
      | inr s ↦ elim s [ inl g ↦ target-side r c at h.among h.is.among c.target refl g | inr l ↦ leaf-side r c at h.among h.is.among l.item l.among l.is ]
    ]

    -- a symbol that an item is about
    its-symbol : All (λ (item : SymbolItem). 0 < length item.names) spec.symbols → (item : SymbolItem) (c : Comp) → Contains spec.symbols item → Contains item.body c → (s : ℕ) × InBody spec s c
    its-symbol about item c mi mc = let (x, e) = place-below item.names 0 (All-contains (λ (other : SymbolItem). 0 < length other.names) spec.symbols item about mi) in
        (name_of x, (item, mi, test-contains (name_of x) (names_of item) (map-contains name_of item.names x (place-contains item.names 0 x e)), mc))

    items-of : All (λ (item : SymbolItem). 0 < length item.names) spec.symbols → (at : ℕ) → IsClashInItems spec sets at → IsKindClash spec env at
    items-of about at h = let (s, body) = its-symbol about h.item h.is.item h.among h.is.among in elim h.is.is [
      | inl k ↦ comp-of h.is.item (inr (s, body)) at k
      | inr b ↦ barred-of s h.is.item at h.is.item.target body refl b.item b.among b.is
    ]

    names-of : (at : ℕ) → IsNameClash spec sets at → IsKindClash spec env at
    names-of at h = elim h [
      | inl k ↦ elim k [
        | inl r ↦ elim r.is [
          | inl l ↦ clash.class_in_production r.item r.item.left r.among (contains-here r.item.left (filter_map element_name r.item.right)) (are.classes.only (name_of r.item.left) l.0) l.1
          | inr e ↦ (let (x, named, class, spot) = e.is in
              clash.class_in_production r.item x r.among (contains-later r.item.left x (filter_map element_name r.item.right)
              (to-elements r.item.right x (subst (Contains r.item.right) (symbol-named e.item x named) e.among))) (are.classes.only (name_of x) class) spot)
        ]
        | inr r ↦ (let (x, named, terminal, spot) = r.is.1.is in let t = terminal-of (name_of x) terminal in
            clash.terminal_in_list r.item x t.0 r.among r.is.0 (subst (Contains r.item.right) (symbol-named r.is.1.item x named) r.is.1.among) t.1 spot)
      ]
      | inr k ↦ elim k [
        | inl i ↦ clash.inherits_no_class i.item i.is.item i.among i.is.among (λ class. i.is.is.0 (are.classes.all (name_of i.is.item) class)) i.is.is.1
        | inr d ↦ elim d [ inl f ↦ clash.faulty_term f.term f.there f.place f.how | inr a ↦ clash.chain_declared_again a ]
      ]
    ]

    -- and back
    in-text : (c : Comp) → InText spec c → (at : ℕ) → IsCompClash sets c at → IsClashInRules spec sets env.texts at ⊎ IsClashInItems spec sets at
    in-text c (inl (r, mr, mc)) at h = inl (record { item = r; among = mr; is = record { item = c; among = mc; is = inl h } })
    in-text c (inr (s, (item, mi, named, mc))) at h = inr (record { item = item; among = mi; is = record { item = c; among = mc; is = inl h } })

    pair-in : (at : ℕ) (e : Expr) (q : Pair) → Contains (pairs_of e) q → IsPairClash sets q at → IsLeafClash sets e at
    pair-in at (Including w ps) q m h = record { item = q; among = m; is = h }
    pair-in at (Constituents k) q m h = inl (record { item = q; among = m; is = h })
    pair-in at (Read first p a) q m h = absurd (contains-nil q m)
    pair-in at (Int w z) q m h = absurd (contains-nil q m)
    pair-in at (Str w s) q m h = absurd (contains-nil q m)
    pair-in at (Truth w b) q m h = absurd (contains-nil q m)
    pair-in at (Terminal x i) q m h = absurd (contains-nil q m)
    pair-in at (Call' f shape args) q m h = absurd (contains-nil q m)

    remote-in : (at : ℕ) (e : Expr) (x : Name) → Contains (remote_names e) x → IsTerminalName sets x at → IsLeafClash sets e at
    remote-in at (Including w ps) x m h = let (q, mq, same) = contains-map (λ (p : Pair). p.sym) ps x m in record { item = q; among = mq; is = inl (subst (λ (y : Name). IsTerminalName sets y at) (sym same) h) }
    remote-in at (Constituents k) x m h = elim (Contains-append_cases (map (λ (p : Pair). p.sym) k.pairs) k.shield x m) [
      | inl l ↦ (let (q, mq, same) = contains-map (λ (p : Pair). p.sym) k.pairs x l in inl (record { item = q; among = mq; is = inl (subst (λ (y : Name). IsTerminalName sets y at) (sym same) h) }))
      | inr s ↦ inr (record { item = x; among = s; is = h })
    ]
    remote-in at (Read first p a) x m h = absurd (contains-nil x m)
    remote-in at (Int w z) x m h = absurd (contains-nil x m)
    remote-in at (Str w s) x m h = absurd (contains-nil x m)
    remote-in at (Truth w b) x m h = absurd (contains-nil x m)
    remote-in at (Terminal y i) x m h = absurd (contains-nil x m)
    remote-in at (Call' f shape args) x m h = absurd (contains-nil x m)

    leaf-in : (c : Comp) (at : ℕ) (e : Expr) → Contains (leaves_of c) e → IsLeafClash sets e at → IsCompClash sets c at
    leaf-in c at e m h = inr (inl (record { item = e; among = m; is = h }))

    target-in : (c : Comp) (at : ℕ) (g : Target) → c.target ≡ g → IsTargetClash sets c.at g at → IsCompClash sets c at
    target-in c at g e h = inl (subst (λ (t : Target). IsTargetClash sets c.at t at) (sym e) h)

    use-in : (c : Comp) (p : Place) (a : Name) (at : ℕ) → IsUsed c p a → IsUseClash sets p a at → IsCompClash sets c at
    use-in c p a at (by_target e) h = target-in c at (target.Attr p a) e (inl h)
    use-in c p a at (by_leaf e m (by_read first same)) h = leaf-in c at e m (subst (λ (l : Expr). IsLeafClash sets l at) (sym same) h)
    use-in c p a at (by_leaf e m (by_pair q mq ep ea)) h =
        let k : IsUseClash sets (place.Named q.sym None) a at = subst (λ (z : Place). IsUseClash sets z a at) ep h in
        leaf-in c at e m (pair-in at e q mq (inl ((and_parts (not (is_chain_in sets a)) _ k.0).1, k.1)))

    side-in : (r : RuleItem) (c : Comp) (x : Name) (i : Option ℤ) (a : Name) (at : ℕ) → Contains spec.rules r → Contains r.body c → IsUsed c (place.Named x i) a → IsOnSide Inherited (possible r x i)
        → IsChain spec (name_of a) → at ≡ a.at → IsRuleCompClash sets r env.texts c at
    side-in r c x i a at mr mc (by_target e) side chain spot = inr (inl (subst (λ (g : Target). IsTargetSideClash sets r g at) (sym e) (chain-to a chain, (side, spot))))
    side-in r c x i a at mr mc (by_leaf e m (by_read first same)) side chain spot =
        inr (inr (record { item = e; among = m; is = subst (λ (l : Expr). IsLeafSideClash sets r env.texts l at) (sym same) (chain-to a chain, (side, spot)) }))
    side-in r c x i a at mr mc (by_leaf e m (by_pair q mq ep ea)) side chain spot =
        inl (leaf-in c at e m (pair-in at e q mq (inr (subst (λ (b : Name). IsTrue (is_chain_in sets b) × (at ≡ b.at)) ea (chain-to a chain, spot)))))

    below-in : (at : ℕ) (e : Expr) → IsBelow spec at e → IsFromBelow e at
    below-in at e (clash.IsBelow.constituents k spot) = spot
    below-in at e (clash.IsBelow.tail a) = refl

    module _ (bearers : Names) (bear : IsSetOf (λ s. (a : ℕ) × Has spec s a) bearers) where
      plain-clash : (at : ℕ) → IsClashInRules spec sets env.texts at ⊎ IsClashInItems spec sets at → IsPlainClash spec sets bearers env.texts at
      plain-clash at h = inr (inr h)

      of-terminal : (at : ℕ) → clash.IsOfTerminal spec at → IsPlainClash spec sets bearers env.texts at
      of-terminal at (clash.by_item item x mi mx plain brings spot) =
          inr (inl (record { item = item; among = mi; is = (brings-to bearers bear item brings, record { item = x; among = mx; is = (plain-to (name_of x) plain, spot) }) }))
      of-terminal at (clash.by_place c x i a t u free plain spot) =
          plain-clash at (in-text c t at (use-in c (place.Named x i) a at (to-used c (place.Named x i) a u) (and_from (not (is_chain_in sets a)) _ (no-chain-to a free) (plain-to (name_of x) plain), spot)))
      of-terminal at (clash.by_remote_list e x (c, t, m) mx plain spot) = plain-clash at (in-text c t at (leaf-in c at e m (remote-in at e x mx (plain-to (name_of x) plain, spot))))

      elsewhere : (at : ℕ) → clash.IsChainElsewhere spec at → IsPlainClash spec sets bearers env.texts at
      elsewhere at (clash.IsChainElsewhere.synt c a t u chain spot) = plain-clash at (in-text c t at (use-in c place.Synt a at (to-used c place.Synt a u) (chain-to a chain, spot)))
      elsewhere at (clash.IsChainElsewhere.inh c a t u chain spot) = plain-clash at (in-text c t at (use-in c place.Inh a at (to-used c place.Inh a u) (chain-to a chain, spot)))
      elsewhere at (clash.on_right_side r c x i a mr mc u side chain spot) =
          plain-clash at (inl (record { item = r; among = mr; is = record { item = c; among = mc; is = side-in r c x i a at mr mc (to-used c (place.Named x i) a u) side chain spot } }))

      not-chain : (c : Comp) (a : Name) (at : ℕ) → InText spec c → (c.target ≡ target.Start a) ⊎ Contains (uses c) (place.Tail, a) → ¬ IsChain spec (name_of a) → at ≡ a.at
          → IsPlainClash spec sets bearers env.texts at
      not-chain c a at t (inl e) free spot = plain-clash at (in-text c t at (target-in c at (target.Start a) e (no-chain-to a free, spot)))
      not-chain c a at t (inr u) free spot = plain-clash at (in-text c t at (use-in c place.Tail a at (to-used c place.Tail a u) (no-chain-to a free, spot)))

      in-production : (r : RuleItem) (x : Name) (at : ℕ) → Contains spec.rules r → Contains (production_names r) x → IsClass spec (name_of x) → at ≡ x.at → IsNameClash spec sets at
      in-production r x at mr mx class spot = inl (inl (record {
        item = r;
        among = mr;
        is = elim (contains-cons r.left x (filter_map element_name r.right) mx) [
          | inl e ↦ inl (subst (λ (y : Name). IsTrue (has sets.classes (name_of y)) × (at ≡ y.at)) (sym e) (are.classes.all (name_of x) class, spot))
          | inr k ↦ inr (record { item = Symbol x; among = elements-to r.right x k; is = (x, refl, are.classes.all (name_of x) class, spot) })
        ];
      }))

      parts : (at : ℕ) → IsKindClash spec env at → IsTwofold spec at ⊎ IsPlainClash spec sets bearers env.texts at
      parts at (clash.class_in_production r x mr mx class spot) = inr (inl (in-production r x at mr mx class spot))
      parts at (clash.faulty_term d m e h) = inr (inl (inr (inr (inl (record { term = d; there = m; place = e; how = h })))))
      parts at (clash.terminal_in_list r x ty mr list mx t spot) =
          inr (inl (inl (inr (record { item = r; among = mr; is = (list, record { item = Symbol x; among = mx; is = (x, refl, terminal-to (name_of x) ty t, spot) }) }))))
      parts at (clash.inherits_no_class item x mi mx other spot) =
          inr (inl (inr (inl (record { item = item; among = mi; is = record { item = x; among = mx; is = ((λ t. other (are.classes.only (name_of x) t)), spot) } }))))
      parts at (clash.attribute_of_terminal h) = inr (of-terminal at h)
      parts at (clash.twofold_attribute h) = inl h
      parts at (clash.chain_declared_again h) = inr (inl (inr (inr (inr h))))
      parts at (clash.chain_in_pair e q (c, t, m) mq chain spot) = inr (plain-clash at (in-text c t at (leaf-in c at e m (pair-in at e q mq (inr (chain-to q.attr chain, spot))))))
      parts at (clash.chain_elsewhere h) = inr (elsewhere at h)
      parts at (clash.no_chain c a t u free spot) = inr (not-chain c a at t u free spot)
      parts at (clash.target_by_this c a t e free spot) = inr (plain-clash at (in-text c t at (target-in c at (target.Attr place.This a) e (inr (no-chain-to a free, spot)))))
      parts at (clash.below_in_inh s c a e (item, mi, named, mc) same m below) = inr (plain-clash at (inr (record {
        item = item;
        among = mi;
        is = record { item = c; among = mc; is = inr (record { item = e; among = m; is = subst (λ (g : Target). IsBarredByInh g e at) (sym same) (below-in at e below) }) };
      })))
      parts at (clash.tail_in_start c a b t same m) = inr (plain-clash at (in-text c t at (inr (inr (record {
        item = Read at place.Tail b;
        among = m;
        is = subst (λ (g : Target). IsBarredByStart g (Read at place.Tail b) at) (sym same) refl;
      })))))
      parts at (clash.bare_nonterminal r c x i mr mc m other nonterminal spot) = inr (plain-clash at (inl (record {
        item = r;
        among = mr;
        is = record {
          item = c;
          among = mc;
          is = inr (inr (record { item = Terminal x i; among = m; is = (so-not _ other, (are.nonterminals.all (name_of x) nonterminal, spot)) }));
        };
      })))

      plain-is : All (λ (item : SymbolItem). 0 < length item.names) spec.symbols → (at : ℕ) → IsPlainClash spec sets bearers env.texts at → IsKindClash spec env at
      plain-is about at h = elim h [
        | inl n ↦ names-of at n
        | inr k ↦ elim k [
          | inl t ↦ clash.attribute_of_terminal (clash.by_item t.item t.is.1.item t.among t.is.1.among (plain-of (name_of t.is.1.item) t.is.1.is.0) (brings-of bearers bear t.item t.is.0.0 t.is.0.1) t.is.1.is.1)
          | inr c ↦ elim c [ inl r ↦ rules-of at r | inr i ↦ items-of about at i ]
        ]
      ]

      pub kind-clash : All (λ (item : SymbolItem). 0 < length item.names) spec.symbols → (a b r : Option ℕ) → r ≡ earlier_of a b → IsFirst (IsTwofold spec) a → IsFirst (IsPlainClash spec sets bearers env.texts) b
          → IsFirst (IsKindClash spec env) r
      kind-clash about a b r e twofold plain = first-same (λ at h. elim h [ inl t ↦ clash.twofold_attribute t | inr p ↦ plain-is about at p ]) parts (first-join e twofold plain)
