-- The list of attributes on symbols has those that the specification names.
use Rattle.std.specs.Prelude.{Contains, flat_map, map, All, IsTrue}
use Rattle.std.proofs.Common.{◌≡◌, ℕ, ◌<◌, ℤ, Bool, true, false, if◌then◌else◌, inl, inr, List, [], length, Option, refl, sym, ap, subst, ◌∙◌}
use Rattle.std.proofs.lemmas.List.Elements.{Contains-append_left, Contains-append_right, Contains-append_cases, All-contains}
use Rattle.lido_base.proofs.Lists.{contains-nil, contains-cons, contains-here, contains-map, map-contains, contains-flat, flat-contains, place-below, place-contains}
use Rattle.lido_base.proofs.TreeLemmas.{contains-test, test-contains}
use Rattle.lido_base.specs.Tree.{contains}
use Rattle.lido_syntax.specs.declared.spec.Spec.{Spec}
use Rattle.lido_syntax.specs.declared.spec.Name.{Name}
use Rattle.lido_syntax.specs.declared.spec.Decl.{Decl}
use Rattle.lido_syntax.specs.declared.spec.Comp.{Comp}
use Rattle.lido_syntax.specs.declared.spec.RuleItem.{RuleItem}
use Rattle.lido_syntax.specs.declared.spec.SymbolItem.{SymbolItem}
use Rattle.lido_syntax.specs.declared.spec.Place.{Place}
use Rattle.lido_syntax.specs.declared.spec.Place.TheVariants as place
use Rattle.lido_syntax.specs.Production.{name_of}
use Rattle.lido_syntax.specs.Sets.{names_of}
use Rattle.lido_syntax.specs.Symbols.{IsChain}
use Rattle.lido_syntax.specs.Attributes.{uses, IsUse, IsOwn, IsNamed, declared, by_name, in_body}
use Rattle.kind_clashes.specs.declared.names.Names.{Names}
use Rattle.kind_clashes.specs.Names.{has, IsSetOf}
use Rattle.symbol_attributes.specs.Named.{on_symbol, meant, named_at, named_by, declared_by, named_by_rules, named_by_item, all_named, AreNamed}
use Rattle.symbol_attributes.specs.declared.named.SymbolAttribute.{SymbolAttribute}
use Rattle.symbol_attributes.proofs.UsesLemmas.{comp-to, comp-from}

-- the attribute a on the symbol s
abbrev it : ℕ → ℕ → SymbolAttribute
it s a = record { symbol = record { 0 = s }; attribute = record { 0 = a } }

-- a name that means the symbol at the place
abbrev IsMeant : List Name → Place → ℕ → Type 0
IsMeant own p s = (y : Name) × Contains (meant own p) y × (name_of y ≡ s)

on-to : (b : Name) (ys : List Name) (s a : ℕ) → Contains (map (on_symbol b) ys) (it s a) → (name_of b ≡ a) × ((y : Name) × Contains ys y × (name_of y ≡ s))
on-to b ys s a m =
    let (y, my, e) = contains-map (on_symbol b) ys (it s a) m in
    (ap (λ (x : SymbolAttribute). x.attribute.0) e, (y, my, ap (λ (x : SymbolAttribute). x.symbol.0) e))

on-from : (b : Name) (ys : List Name) (s a : ℕ) (y : Name) → name_of b ≡ a → Contains ys y → name_of y ≡ s → Contains (map (on_symbol b) ys) (it s a)
on-from b ys s a y eb my ey =
    subst (λ z. Contains (map (on_symbol b) ys) (it z a)) ey (subst (λ z. Contains (map (on_symbol b) ys) (it (name_of y) z)) eb (map-contains (on_symbol b) ys y my))

at-to : (chains : Names) (own : List Name) (p : Place) (b : Name) (s a : ℕ) → Contains (named_at chains own p b) (it s a) → (has chains (name_of b) ≡ false) × (name_of b ≡ a) × IsMeant own p s
at-to chains own p b s a m = by (has chains (name_of b)) refl m
  where
    by : (c : Bool) → has chains (name_of b) ≡ c → Contains (if c then [] else map (on_symbol b) (meant own p)) (it s a) → (has chains (name_of b) ≡ false) × (name_of b ≡ a) × IsMeant own p s
    by true e m = absurd (contains-nil (it s a) m)
    by false e m = let (eb, is) = on-to b (meant own p) s a m in (e, eb, is)

at-from : (chains : Names) (own : List Name) (p : Place) (b : Name) (s a : ℕ) → has chains (name_of b) ≡ false → name_of b ≡ a → IsMeant own p s → Contains (named_at chains own p b) (it s a)
at-from chains own p b s a free eb (y, my, ey) =
    subst (λ (c : Bool). Contains (if c then [] else map (on_symbol b) (meant own p)) (it s a)) (sym free) (on-from b (meant own p) s a y eb my ey)

-- what a symbol's item is about
pub own-test : (item : SymbolItem) (s : ℕ) (y : Name) → Contains item.names y → name_of y ≡ s → IsTrue (contains s (names_of item))
own-test item s y m e = test-contains s (names_of item) (subst (λ z. Contains (names_of item) z) e (map-contains name_of item.names y m))

pub test-own : (item : SymbolItem) (s : ℕ) → IsTrue (contains s (names_of item)) → (y : Name) × Contains item.names y × (name_of y ≡ s)
test-own item s h = contains-map name_of item.names s (contains-test s (names_of item) h)

-- a place that means the symbols of a body
meant-own : (own : List Name) (p : Place) → IsOwn p → meant own p ≡ own
meant-own own (place.Named x i) h = absurd h
meant-own own place.Synt h = refl
meant-own own place.Inh h = refl
meant-own own place.This h = refl
meant-own own place.Tail h = absurd h

pub no-chain : (spec : Spec) (chains : Names) → IsSetOf (IsChain spec) chains → (b : Name) (a : ℕ) → name_of b ≡ a → has chains (name_of b) ≡ false → ¬ IsChain spec a
no-chain spec chains are b a e free h = absurd (let k = are.all (name_of b) (subst (λ z. IsChain spec z) (sym e) h) in cc)

pub chain-no : (spec : Spec) (chains : Names) → IsSetOf (IsChain spec) chains → (b : Name) (a : ℕ) → name_of b ≡ a → ¬ IsChain spec a → has chains (name_of b) ≡ false
chain-no spec chains are b a e free = by (has chains (name_of b)) refl
  where
    by : (c : Bool) → has chains (name_of b) ≡ c → has chains (name_of b) ≡ false
    by true f = absurd (free (subst (λ z. IsChain spec z) e (are.only (name_of b) f)))
    by false f = f

module _ (spec : Spec) (chains : Names) (are : IsSetOf (IsChain spec) chains) (about : All (λ (item : SymbolItem). 0 < length item.names) spec.symbols) where
  rule-use : (c : Comp) (p : Place) (s a : ℕ) → ((x : Name) (i : Option ℤ) → p ≡ place.Named x i → name_of x ≡ s → IsNamed spec s a) → IsMeant [] p s → IsNamed spec s a
  rule-use c (place.Named x i) s a named (y, my, ey) = elim (contains-cons x y [] my) [ inl e ↦ named x i refl (ap name_of e ∙ ey) | inr n ↦ absurd (contains-nil y n) ]
  rule-use c place.Synt s a named (y, my, ey) = absurd (contains-nil y my)
  rule-use c place.Inh s a named (y, my, ey) = absurd (contains-nil y my)
  rule-use c place.This s a named (y, my, ey) = absurd (contains-nil y my)
  rule-use c place.Tail s a named (y, my, ey) = absurd (contains-nil y my)

  item-use : (item : SymbolItem) (c : Comp) (p : Place) (s a : ℕ) → Contains spec.symbols item → Contains item.body c → IsUse spec c p a → IsMeant item.names p s → IsNamed spec s a
  item-use item c (place.Named x i) s a mi mc used (y, my, ey) =
      let (z, at) = place-below item.names 0 (All-contains (λ (other : SymbolItem). 0 < length other.names) spec.symbols item about mi) in
      let there = own-test item (name_of z) z (place-contains item.names 0 z at) refl in
      elim (contains-cons x y [] my) [ inl e ↦ by_name c x i (inr (name_of z, (item, mi, there, mc))) used (ap name_of e ∙ ey) | inr n ↦ absurd (contains-nil y n) ]
  item-use item c place.Synt s a mi mc used (y, my, ey) = in_body c place.Synt (item, mi, own-test item s y my ey, mc) used tt
  item-use item c place.Inh s a mi mc used (y, my, ey) = in_body c place.Inh (item, mi, own-test item s y my ey, mc) used tt
  item-use item c place.This s a mi mc used (y, my, ey) = in_body c place.This (item, mi, own-test item s y my ey, mc) used tt
  item-use item c place.Tail s a mi mc used (y, my, ey) = absurd (contains-nil y my)

  to-rules : (s a : ℕ) → Contains (named_by_rules chains spec.rules) (it s a) → IsNamed spec s a
  to-rules s a m =
      let (r, mr, mb) = contains-flat (λ (r : RuleItem). flat_map (named_by chains []) r.body) spec.rules (it s a) m in
      let (c, mc, n) = contains-flat (named_by chains []) r.body (it s a) mb in
      let (u, mu, h) = comp-to chains [] (it s a) c n in
      let (free, eb, is) = at-to chains [] u.0 u.1 s a h in
      rule-use c u.0 s a (λ x i e ex. by_name c x i (inl (r, mr, mc)) (u.1, subst (λ (q : Place). Contains (uses c) (q, u.1)) e mu, eb, no-chain spec chains are u.1 a eb free) ex) is

  to-items : (s a : ℕ) → Contains (flat_map (named_by_item chains) spec.symbols) (it s a) → IsNamed spec s a
  to-items s a m = let (item, mi, n) = contains-flat (named_by_item chains) spec.symbols (it s a) m in
      elim (Contains-append_cases (declared_by item.names item.decls) (flat_map (named_by chains item.names) item.body) (it s a) n) [
        | inl k ↦ (let (d, md, h) = contains-flat (λ (d : Decl). map (on_symbol d.attr) item.names) item.decls (it s a) k in
            let (eb, (y, my, ey)) = on-to d.attr item.names s a h in
            declared d (item, mi, own-test item s y my ey, md, eb))
        | inr k ↦ (let (c, mc, h) = contains-flat (named_by chains item.names) item.body (it s a) k in
            let (u, mu, by) = comp-to chains item.names (it s a) c h in
            let (free, eb, is) = at-to chains item.names u.0 u.1 s a by in
            item-use item c u.0 s a mi mc (u.1, mu, eb, no-chain spec chains are u.1 a eb free) is)
      ]

  in-rules : (s a : ℕ) (r : RuleItem) (c : Comp) → Contains spec.rules r → Contains r.body c → Contains (named_by chains [] c) (it s a) → Contains (all_named chains spec) (it s a)
  in-rules s a r c mr mc m = Contains-append_left (named_by_rules chains spec.rules) (flat_map (named_by_item chains) spec.symbols) (it s a)
      (flat-contains (λ (r : RuleItem). flat_map (named_by chains []) r.body) spec.rules r (it s a) mr (flat-contains (named_by chains []) r.body c (it s a) mc m))

  in-item : (s a : ℕ) (item : SymbolItem) → Contains spec.symbols item → Contains (named_by_item chains item) (it s a) → Contains (all_named chains spec) (it s a)
  in-item s a item mi m = Contains-append_right (named_by_rules chains spec.rules) (flat_map (named_by_item chains) spec.symbols) (it s a)
      (flat-contains (named_by_item chains) spec.symbols item (it s a) mi m)

  in-comp : (s a : ℕ) (item : SymbolItem) (c : Comp) → Contains spec.symbols item → Contains item.body c → Contains (named_by chains item.names c) (it s a) → Contains (all_named chains spec) (it s a)
  in-comp s a item c mi mc m = in-item s a item mi (Contains-append_right (declared_by item.names item.decls) (flat_map (named_by chains item.names) item.body) (it s a)
      (flat-contains (named_by chains item.names) item.body c (it s a) mc m))

  by-use : (own : List Name) (s a : ℕ) (c : Comp) (p : Place) → IsUse spec c p a → IsMeant own p s → Contains (named_by chains own c) (it s a)
  by-use own s a c p (b, mu, eb, free) is = comp-from chains own (it s a) c (p, b) mu (at-from chains own p b s a (chain-no spec chains are b a eb free) eb is)

  from-named : (s a : ℕ) → IsNamed spec s a → Contains (all_named chains spec) (it s a)
  from-named s a (declared d (item, mi, own, md, e)) =
      let (y, my, ey) = test-own item s own in
      in-item s a item mi (Contains-append_left (declared_by item.names item.decls) (flat_map (named_by chains item.names) item.body) (it s a)
      (flat-contains (λ (d : Decl). map (on_symbol d.attr) item.names) item.decls d (it s a) md (on-from d.attr item.names s a y e my ey)))
  from-named s a (by_name c x i (inl (r, mr, mc)) used e) = in-rules s a r c mr mc (by-use [] s a c (place.Named x i) used (x, contains-here x [], e))
  from-named s a (by_name c x i (inr (t, (item, mi, own, mc))) used e) = in-comp s a item c mi mc (by-use item.names s a c (place.Named x i) used (x, contains-here x [], e))
  from-named s a (in_body c p (item, mi, own, mc) used is) =
      let (y, my, ey) = test-own item s own in
      in-comp s a item c mi mc (by-use item.names s a c p used (y, subst (λ (ys : List Name). Contains ys y) (sym (meant-own item.names p is)) my, ey))

  pub are-named : (list : List SymbolAttribute) → list ≡ all_named chains spec → AreNamed spec list
  are-named list e s a = (to, λ n. subst (λ (l : List SymbolAttribute). Contains l (it s a)) (sym e) (from-named s a n))
    where
      to : Contains list (it s a) → IsNamed spec s a
      to m = elim (Contains-append_cases (named_by_rules chains spec.rules) (flat_map (named_by_item chains) spec.symbols) (it s a) (subst (λ (l : List SymbolAttribute). Contains l (it s a)) e m)) [
        | inl k ↦ to-rules s a k
        | inr k ↦ to-items s a k
      ]
