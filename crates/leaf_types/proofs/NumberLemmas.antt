-- The symbols that have attributes, and those that a production has or TERM declares, are among those that are numbered.
use Rattle.std.specs.Prelude.{Contains, ℤ, nat_eq, flat_map, filter_map, map}
use Rattle.std.proofs.Common.{◌≡◌, ℕ, ◌⊎◌, inl, inr, Bool, List, [], ◌∷◌, ◌++◌, Option, None, ap, sym, subst, eqb-true}
use Rattle.std.proofs.lemmas.List.Elements.{Contains-append_left, Contains-append_right}
use Rattle.lido_base.specs.Environment.{Environment}
use Rattle.lido_base.specs.declared.value.ValueType.{ValueType}
use Rattle.lido_base.proofs.Lists.{contains-nil, contains-cons, contains-here, contains-later, contains-map, map-contains, flat-contains, contains-flat}
use Rattle.lido_base.proofs.TreeLemmas.{contains-test}
use Rattle.lido_syntax.specs.declared.spec.Spec.{Spec}
use Rattle.lido_syntax.specs.declared.spec.Name.{Name}
use Rattle.lido_syntax.specs.declared.spec.Pair.{Pair}
use Rattle.lido_syntax.specs.declared.spec.Comp.{Comp}
use Rattle.lido_syntax.specs.declared.spec.Typed1.{Typed1}
use Rattle.lido_syntax.specs.declared.spec.RuleItem.{RuleItem}
use Rattle.lido_syntax.specs.declared.spec.SymbolItem.{SymbolItem}
use Rattle.lido_syntax.specs.declared.spec.Element.{Element}
use Rattle.lido_syntax.specs.declared.spec.Element.TheVariants.{Symbol, Literal}
use Rattle.lido_syntax.specs.declared.spec.Target.{Target}
use Rattle.lido_syntax.specs.declared.spec.Target.TheVariants as target
use Rattle.lido_syntax.specs.declared.spec.Place.{Place}
use Rattle.lido_syntax.specs.declared.spec.Place.TheVariants as place
use Rattle.lido_syntax.specs.declared.spec.Expr.{Expr, Int, Str, Bool as Truth, Terminal, Read, Including, Constituents, Call'}
use Rattle.lido_syntax.specs.Parts.{leaves_of}
use Rattle.lido_syntax.specs.Production.{name_of, left_of, right_of, symbol_of, symbols_of}
use Rattle.lido_syntax.specs.Symbols.{IsNonterminal, IsOnRightSide, IsTerminal}
use Rattle.lido_syntax.specs.Attributes.{Use, uses, target_uses, uses_of_part, use_of_pair, IsNamed, Has, declared, by_name, in_body}
use Rattle.lido_symbols.specs.Numbers.{AreNumbered}
use Rattle.lido_symbols.specs.Uses.{symbol_uses, symbols_of_rule, symbols_of_item, symbols_of_computation, symbols_of_target, symbols_in, production_names, element_name, is_coordinate_of_rule, is_coordinate_of_symbol, with_place}
use Rattle.symbol_attributes.proofs.LawLemmas.{are-numbered-in}
use Rattle.symbol_attributes.proofs.UsesLemmas.{use-found}
use Rattle.clash_pairs.proofs.NumberedLemmas.{item-numbered, heir-numbered}

-- ---- a place that names a symbol

same-place : (p : Place) (x : Name) (i : Option ℤ) (a b : Name) → (let u : Use = (p, b) in let v : Use = (place.Named x i, a) in u ≡ v) → p ≡ place.Named x i
same-place p x i a b e = ap (λ (u : Use). u.0) e

in-target : (t : Target) (x : Name) (i : Option ℤ) (a : Name) → Contains (target_uses t) (let u : Use = (place.Named x i, a) in u) → Contains (symbols_of_target t) x
in-target (target.Attr p b) x i a m = elim (contains-cons (let u : Use = (p, b) in u) (let u : Use = (place.Named x i, a) in u) [] m) [
  | inl e ↦ subst (λ q. Contains (symbols_of_target (target.Attr q b)) x) (sym (same-place p x i a b e)) (contains-here x [])
  | inr n ↦ absurd (contains-nil (let u : Use = (place.Named x i, a) in u) n)
]
in-target (target.Start b) x i a m = absurd (contains-nil (let u : Use = (place.Named x i, a) in u) m)
in-target target.Out x i a m = absurd (contains-nil (let u : Use = (place.Named x i, a) in u) m)
in-target (target.Message v c) x i a m = absurd (contains-nil (let u : Use = (place.Named x i, a) in u) m)

in-pairs : (pairs : List Pair) (x : Name) (i : Option ℤ) (a : Name) → Contains (map use_of_pair pairs) (let u : Use = (place.Named x i, a) in u) → Contains (map (λ (p : Pair). p.sym) pairs) x
in-pairs pairs x i a m =
    let (p, mp, e) = contains-map use_of_pair pairs (let u : Use = (place.Named x i, a) in u) m in
    let f : place.Named p.sym None ≡ place.Named x i = ap (λ (u : Use). u.0) e in
    let g : p.sym ≡ x = cc in
    subst (λ y. Contains (map (λ (q : Pair). q.sym) pairs) y) g (map-contains (λ (q : Pair). q.sym) pairs p mp)

module _ (test : Name → Option ℤ → Bool) where
  in-leaf : (e : Expr) (x : Name) (i : Option ℤ) (a : Name) → Contains (uses_of_part e) (let u : Use = (place.Named x i, a) in u) → Contains (symbols_in test e) x
  in-leaf (Int at z) x i a m = absurd (contains-nil (let u : Use = (place.Named x i, a) in u) m)
  in-leaf (Str at z) x i a m = absurd (contains-nil (let u : Use = (place.Named x i, a) in u) m)
  in-leaf (Truth at z) x i a m = absurd (contains-nil (let u : Use = (place.Named x i, a) in u) m)
  in-leaf (Terminal y j) x i a m = absurd (contains-nil (let u : Use = (place.Named x i, a) in u) m)
  in-leaf (Read at p b) x i a m = elim (contains-cons (let u : Use = (p, b) in u) (let u : Use = (place.Named x i, a) in u) [] m) [
    | inl e ↦ subst (λ q. Contains (symbols_in test (Read at q b)) x) (sym (same-place p x i a b e)) (contains-here x [])
    | inr n ↦ absurd (contains-nil (let u : Use = (place.Named x i, a) in u) n)
  ]
  in-leaf (Including at pairs) x i a m = in-pairs pairs x i a m
  in-leaf (Constituents k) x i a m = Contains-append_left (map (λ (p : Pair). p.sym) k.pairs) k.shield x (in-pairs k.pairs x i a m)
  in-leaf (Call' f shape args) x i a m = absurd (contains-nil (let u : Use = (place.Named x i, a) in u) m)

  in-computation : (c : Comp) (x : Name) (i : Option ℤ) (a : Name) → Contains (uses c) (let u : Use = (place.Named x i, a) in u) → Contains (symbols_of_computation test c) x
  in-computation c x i a m = elim (use-found c (let u : Use = (place.Named x i, a) in u) m) [
    | inl t ↦ Contains-append_left (symbols_of_target c.target) (flat_map (symbols_in test) (leaves_of c)) x (in-target c.target x i a t)
    | inr l ↦ Contains-append_right (symbols_of_target c.target) (flat_map (symbols_in test) (leaves_of c)) x (flat-contains (symbols_in test) (leaves_of c) l.0 x l.1 (in-leaf l.0 x i a l.2))
  ]

-- ---- names of a production

named-element : (es : List Element) (s : ℕ) → Contains (filter_map symbol_of es) s → (x : Name) × Contains (filter_map element_name es) x × (name_of x ≡ s)
named-element [] s m = absurd (contains-nil s m)
named-element (Literal t ∷ es) s m = named-element es s m
named-element (Symbol x ∷ es) s m = go (contains-cons (name_of x) s (filter_map symbol_of es) m) (named-element es s)
  where
    go : (name_of x ≡ s) ⊎ Contains (filter_map symbol_of es) s → (Contains (filter_map symbol_of es) s → (y : Name) × Contains (filter_map element_name es) y × (name_of y ≡ s))
        → (y : Name) × Contains (x ∷ filter_map element_name es) y × (name_of y ≡ s)
    go (inl e) later = (x, contains-here x (filter_map element_name es), e)
    go (inr k) later = let (y, m, e) = later k in (y, contains-later x y (filter_map element_name es) m, e)

-- of a production
abbrev pub IsProductionName : Spec → ℕ → Type 0
IsProductionName spec s = (r : RuleItem) × (x : Name) × Contains spec.rules r × Contains (production_names r) x × (name_of x ≡ s)

pub left-named : (spec : Spec) (s : ℕ) → IsNonterminal spec s → IsProductionName spec s
left-named spec s n =
    let (r, mr, e) = contains-map left_of spec.rules s (contains-test s (map left_of spec.rules) n) in
    (r, r.left, mr, contains-here r.left (filter_map element_name r.right), e)

pub right-named : (spec : Spec) (s : ℕ) → IsOnRightSide spec s → IsProductionName spec s
right-named spec s right =
    let (r, mr, k) = contains-flat right_of spec.rules s (contains-test s (flat_map right_of spec.rules) right) in
    let (x, mx, e) = named-element r.right s k in
    (r, x, mr, contains-later r.left x (filter_map element_name r.right) mx, e)

module _ (spec : Spec) (env : Environment) (names : List ℕ) (numbered : AreNumbered nat_eq (symbol_uses spec env) names) where
  abbrev of-rules : List Name
  of-rules = flat_map (symbols_of_rule spec env) spec.rules

  abbrev of-items : List Name
  of-items = flat_map (symbols_of_item spec env) spec.symbols

  abbrev of-terms : List Name
  of-terms = map (λ (t : Typed1). t.name) spec.terms

  name-numbered : (x : Name) → Contains (of-rules ++ of-items ++ of-terms) x → Contains names (name_of x)
  name-numbered x m =
      let (l, ml, e) = numbered.all x.at (name_of x) (map-contains with_place (of-rules ++ of-items ++ of-terms) x m) in
      subst (λ z. Contains names z) (sym (eqb-true (name_of x) l e)) ml

  in-rule : (r : RuleItem) (x : Name) → Contains spec.rules r → Contains (symbols_of_rule spec env r) x → Contains names (name_of x)
  in-rule r x mr m = name-numbered x (Contains-append_left (of-rules ++ of-items) of-terms x (Contains-append_left of-rules of-items x (flat-contains (symbols_of_rule spec env) spec.rules r x mr m)))

  in-item : (item : SymbolItem) (x : Name) → Contains spec.symbols item → Contains (symbols_of_item spec env item) x → Contains names (name_of x)
  in-item item x mi m = name-numbered x (Contains-append_left (of-rules ++ of-items) of-terms x (Contains-append_right of-rules of-items x (flat-contains (symbols_of_item spec env) spec.symbols item x mi m)))

  of-production : (r : RuleItem) (x : Name) → Contains spec.rules r → Contains (production_names r) x → Contains names (name_of x)
  of-production r x mr m = in-rule r x mr (Contains-append_left (production_names r) (flat_map (symbols_of_computation (is_coordinate_of_rule env r)) r.body) x m)

  pub production-numbered : (r : RuleItem) (s : ℕ) → Contains spec.rules r → Contains (symbols_of r) s → Contains names s
  production-numbered r s mr m = elim (contains-cons (left_of r) s (right_of r) m) [
    | inl e ↦ subst (λ z. Contains names z) e (of-production r r.left mr (contains-here r.left (filter_map element_name r.right)))
    | inr k ↦ let (x, mx, e) = named-element r.right s k in subst (λ z. Contains names z) e (of-production r x mr (contains-later r.left x (filter_map element_name r.right) mx))
  ]

  named-numbered : (s a : ℕ) → IsNamed spec s a → Contains names s
  named-numbered s a (declared d (item, mi, h, md, e)) = item-numbered spec names (are-numbered-in spec env names numbered) s item mi h
  named-numbered s a (in_body c p (item, mi, h, mc) u own) = item-numbered spec names (are-numbered-in spec env names numbered) s item mi h
  named-numbered s a (by_name c x i (inl (r, mr, mc)) (b, m, e, not) same) =
      subst (λ z. Contains names z) same
      (in-rule r x mr (Contains-append_right (production_names r) (flat_map (symbols_of_computation (is_coordinate_of_rule env r)) r.body) x
      (flat-contains (symbols_of_computation (is_coordinate_of_rule env r)) r.body c x mc (in-computation (is_coordinate_of_rule env r) c x i b m))))
  named-numbered s a (by_name c x i (inr (y, (item, mi, h, mc))) (b, m, e, not) same) =
      subst (λ z. Contains names z) same
      (in-item item x mi (Contains-append_right (item.names ++ item.inherits) (flat_map (symbols_of_computation (is_coordinate_of_symbol env)) item.body) x
      (flat-contains (symbols_of_computation (is_coordinate_of_symbol env)) item.body c x mc (in-computation (is_coordinate_of_symbol env) c x i b m))))

  pub has-numbered : (s a : ℕ) → Has spec s a → Contains names s
  has-numbered s a (inl n) = named-numbered s a n
  has-numbered s a (inr (class, heir, n)) = heir-numbered spec names (are-numbered-in spec env names numbered) s class heir

  pub nonterminal-numbered : (s : ℕ) → IsNonterminal spec s → Contains names s
  nonterminal-numbered s n = let (r, x, mr, mx, e) = left-named spec s n in subst (λ z. Contains names z) e (of-production r x mr mx)

  pub terminal-numbered : (s : ℕ) (ty : ValueType) → IsTerminal spec s ty → Contains names s
  terminal-numbered s ty (n, inl (x, mx, e, t)) = subst (λ z. Contains names z) e (name-numbered x.name (Contains-append_right (of-rules ++ of-items) of-terms x.name (map-contains (λ (t : Typed1). t.name) spec.terms x mx)))
  terminal-numbered s ty (n, inr (right, others, t)) =
      let (r, x, mr, mx, e) = right-named spec s right in
      subst (λ z. Contains names z) e (of-production r x mr mx)
