-- The order of the added attributes and computations.
use Rattle.std.specs.Prelude.{AllPairs, Contains, slice_get}
use Rattle.std.proofs.Common.{◌≡◌, ◌∙◌, ℕ, suc, ◌<◌, inl, inr, Bool, List, Some, refl, sym, subst, arith}
use Rattle.lido_base.proofs.Lists.{contains-flat}
use Rattle.lido_base.specs.declared.ids.SymId.{SymId}
use Rattle.lido_symbols.specs.Numbers.{enumerated}
use Rattle.flat_grammar.specs.declared.flat.FlatRule.{FlatRule}
use Rattle.least_paths.specs.Graph.{is_in}
use Rattle.need_graphs.proofs.ListLemmas.{contains-filtered}
use Rattle.need_graphs.proofs.OrderLemmas.{Pairs, pairs-all, numbered-pairs, made-pairs}
use Rattle.need_graphs.proofs.PlaceLemmas.{number-at}
use Rattle.rule_tables.specs.declared.table.SymbolRow.{SymbolRow}
use Rattle.rule_tables.specs.declared.extra.ExtraAttr.{ExtraAttr}
use Rattle.rule_tables.specs.declared.extra.ExtraComp.{ExtraComp}
use Rattle.rule_tables.specs.ExtraOf.{group_of, within_of, IsBeforeIn, attr_place, comp_place}
use Rattle.remote_lists.proofs.OptionLemmas.{let-through}
use Rattle.including_sets.specs.declared.sets.PairSet.{PairSet}
use Rattle.including_expand.specs.Extras.{needs_at, made_attr, attr_of, symbol_attrs, all_attrs, made_comp, comp_of, child_comps, rule_comps, all_comps}

abbrev IsAttrBefore : ExtraAttr → ExtraAttr → Type 0
IsAttrBefore a b = IsBeforeIn (attr_place a) (attr_place b)

abbrev IsCompBefore : ExtraComp → ExtraComp → Type 0
IsCompBefore a b = IsBeforeIn (comp_place a) (comp_place b)

-- an attribute of the symbol, and a computation in the rule at the occurrence, for the set of that number
record IsAttrAt (x i : ℕ) (a : ExtraAttr) : Type 0 where
  symbol : a.sym.0 ≡ x
  group : group_of a.slot ≡ 1
  within : within_of a.slot ≡ i

record IsCompAt (k occ i : ℕ) (c : ExtraComp) : Type 0 where
  rule : c.rule.0 ≡ k
  at : c.occ ≡ occ
  group : group_of c.slot ≡ 1
  within : within_of c.slot ≡ i

module _ (needs : List (List Bool)) (sets : List PairSet) where
  attr-at : (x : ℕ) (d : ℕ × PairSet) (a : ExtraAttr) → attr_of needs x d ≡ Some a → IsAttrAt x d.0 a
  attr-at x d a e = subst (IsAttrAt x d.0) (let-through (is_in (needs_at needs d.0) x) (made_attr x d) a e).1 (record { symbol = refl; group = refl; within = refl })

  comp-at : (k left : ℕ) (y : ℕ × SymId) (d : ℕ × PairSet) (c : ExtraComp) → comp_of needs k left y d ≡ Some c → IsCompAt k (suc y.0) d.0 c
  comp-at k left y d c e = subst (IsCompAt k (suc y.0) d.0) (let-through (is_in (needs_at needs d.0) y.1.0) (made_comp k left y.0 d) c e).1 (record { rule = refl; at = refl; group = refl; within = refl })

  -- sets ascend by their numbers
  numbers-ascend : (i j : ℕ) (d e : ℕ × PairSet) → i < j → slice_get (enumerated 0 sets) i ≡ Some d → slice_get (enumerated 0 sets) j ≡ Some e → d.0 < e.0
  numbers-ascend i j d e less p q =
      let m = (number-at 0 sets i d p).0 in
      let n = (number-at 0 sets j e q).0 in
      omega (arith, m, n, less)

  symbol-attrs : (x : ℕ) → Pairs IsAttrBefore (symbol_attrs needs sets x)
  symbol-attrs x = made-pairs IsAttrBefore (attr_of needs x) (enumerated 0 sets) (λ i j d e a b less p q made last.
      let s = attr-at x d a made in
      let u = attr-at x e b last in
      let m = s.within in
      let n = u.within in
      let l = numbers-ascend i j d e less p q in
      inr (s.symbol ∙ sym u.symbol, inr (s.group ∙ sym u.group, inl (omega (arith, m, n, l)))))

  symbol-of-attr : (x : ℕ) (a : ExtraAttr) → Contains (symbol_attrs needs sets x) a → a.sym.0 ≡ x
  symbol-of-attr x a m = let (d, among, made) = contains-filtered (attr_of needs x) (enumerated 0 sets) a m in (attr-at x d a made).symbol

  pub attrs-ordered : (rows : List SymbolRow) → AllPairs IsAttrBefore (all_attrs needs sets rows)
  attrs-ordered rows = pairs-all IsAttrBefore (all_attrs needs sets rows) (numbered-pairs IsAttrBefore (λ (x : ℕ × SymbolRow). symbol_attrs needs sets x.0) (λ x row. symbol-attrs x)
      (λ x y row other a b less m n.
      let p = symbol-of-attr x a m in
      let q = symbol-of-attr y b n in
      inl (omega (arith, p, q, less))) 0 rows)

  child-comps : (k left : ℕ) (y : ℕ × SymId) → Pairs IsCompBefore (child_comps needs sets k left y)
  child-comps k left y = made-pairs IsCompBefore (comp_of needs k left y) (enumerated 0 sets) (λ i j d e a b less p q made last.
      let s = comp-at k left y d a made in
      let u = comp-at k left y e b last in
      let m = s.within in
      let n = u.within in
      let l = numbers-ascend i j d e less p q in
      inr (s.rule ∙ sym u.rule, inr (s.at ∙ sym u.at, inr (s.group ∙ sym u.group, inl (omega (arith, m, n, l))))))

  in-child : (k left : ℕ) (y : ℕ × SymId) (c : ExtraComp) → Contains (child_comps needs sets k left y) c → (i : ℕ) × IsCompAt k (suc y.0) i c
  in-child k left y c m = let (d, among, made) = contains-filtered (comp_of needs k left y) (enumerated 0 sets) c m in (d.0, comp-at k left y d c made)

  rule-comps : (x : ℕ × FlatRule) → Pairs IsCompBefore (rule_comps needs sets x)
  rule-comps x = numbered-pairs IsCompBefore (child_comps needs sets x.0 x.1.left.0) (λ j s. child-comps x.0 x.1.left.0 (j, s))
      (λ j l s t a b less m n.
      let p = (in-child x.0 x.1.left.0 (j, s) a m).1 in
      let q = (in-child x.0 x.1.left.0 (l, t) b n).1 in
      let first = p.at in
      let second = q.at in
      inr (p.rule ∙ sym q.rule, inl (omega (arith, first, second, less)))) 0 x.1.right

  rule-of-comp : (x : ℕ × FlatRule) (c : ExtraComp) → Contains (rule_comps needs sets x) c → c.rule.0 ≡ x.0
  rule-of-comp x c m = let (y, among, here) = contains-flat (child_comps needs sets x.0 x.1.left.0) (enumerated 0 x.1.right) c m in (in-child x.0 x.1.left.0 y c here).1.rule

  pub comps-ordered : (plain : List FlatRule) → AllPairs IsCompBefore (all_comps needs sets plain)
  comps-ordered plain = pairs-all IsCompBefore (all_comps needs sets plain) (numbered-pairs IsCompBefore (rule_comps needs sets) (λ k r. rule-comps (k, r))
      (λ k l r s a b less m n.
      let p = rule-of-comp (k, r) a m in
      let q = rule-of-comp (l, s) b n in
      inl (omega (arith, p, q, less))) 0 plain)
