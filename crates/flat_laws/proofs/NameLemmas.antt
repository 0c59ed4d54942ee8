-- Names of symbols, attributes and rules differ.
use Rattle.std.specs.Prelude.{Contains, slice_get, unwrap_or, map, flat_map, not, ℤ}
use Rattle.std.proofs.Common.{◌≡◌, ℕ, inl, inr, Bool, false, List, [], ◌∷◌, ◌++◌, Option, Some, refl, sym, ap, subst, ◌∙◌}
use Rattle.std.proofs.lemmas.Option.{same_Some}
use Rattle.std.proofs.lemmas.List.Elements.{Contains-append_left, Contains-append_right, Contains-append_cases, All-contains}
use Rattle.lido_base.specs.Environment.{Environment}
use Rattle.lido_base.proofs.Lists.{contains-nil, contains-here, contains-later, contains-map, map-contains, contains-flat, flat-contains, place-contains}
use Rattle.lido_base.proofs.TextsLemmas.{same_place}
use Rattle.lido_syntax.specs.declared.spec.Spec.{Spec}
use Rattle.lido_syntax.specs.declared.spec.Name.{Name}
use Rattle.lido_syntax.specs.declared.spec.Comp.{Comp}
use Rattle.lido_syntax.specs.declared.spec.Decl.{Decl}
use Rattle.lido_syntax.specs.declared.spec.Pair.{Pair}
use Rattle.lido_syntax.specs.declared.spec.Typed1.{Typed1}
use Rattle.lido_syntax.specs.declared.spec.RuleItem.{RuleItem}
use Rattle.lido_syntax.specs.declared.spec.SymbolItem.{SymbolItem}
use Rattle.lido_syntax.specs.declared.spec.Target.{Target}
use Rattle.lido_syntax.specs.declared.spec.Place.TheVariants as place
use Rattle.lido_syntax.specs.declared.spec.Expr.{Expr, Int, Str, Bool as Truth, Terminal, Read, Including, Constituents, Call'}
use Rattle.lido_syntax.specs.Functions.{text_of}
use Rattle.lido_syntax.specs.Parts.{leaves_of}
use Rattle.lido_syntax.specs.Production.{name_of, left_of, symbols_of}
use Rattle.lido_syntax.specs.Attributes.{InText, IsNamed, declared, by_name, in_body, Has}
use Rattle.lido_symbols.specs.FromText.{all_names, names_of_rule, names_of_item}
use Rattle.lido_symbols.specs.Uses.{computations, symbol_uses, production_names, symbols_in, symbols_of_target, symbols_of_computation, symbols_of_rule, symbols_of_item, with_place, is_coordinate_of_rule, is_coordinate_of_symbol, declared_names, attributes_of_target, attributes_in}
use Rattle.kind_clashes.specs.KindClash.{pairs_of}
use Rattle.kind_clashes.proofs.UsesLemmas.{IsUsed, by_target, by_leaf, IsUsedIn, by_read, by_pair, to-used}
use Rattle.rule_tables.specs.Needs.{Tables, AreTables}
use Rattle.flat_laws.specs.Accepted.{IsWordAt, AreNames}
use Rattle.flat_laws.proofs.SymbolLemmas.{names-right, filtered}
use Rattle.flat_laws.proofs.ShapeLemmas.{rest_of}
use Rattle.flat_laws.proofs.TerminalLemmas.{of-rule, of-item}

-- ---- texts

-- of two lists behind which `$` stands first, the fronts are equal if they have none
pub split-dollar : (xs ys more others : List ℕ) → (Contains xs 36 → ⊥) → (Contains ys 36 → ⊥) → xs ++ 36 ∷ more ≡ ys ++ 36 ∷ others → (xs ≡ ys) × (more ≡ others)
split-dollar [] [] more others a b e = (refl, ap (λ l. rest_of l) e)
split-dollar [] (y ∷ ys) more others a b e = absurd (b (subst (λ z. Contains (y ∷ ys) z) (sym (same_Some 36 y (ap (λ l. slice_get l 0) e))) (contains-here y ys)))
split-dollar (x ∷ xs) [] more others a b e = absurd (a (subst (λ z. Contains (x ∷ xs) z) (same_Some x 36 (ap (λ l. slice_get l 0) e)) (contains-here x xs)))
split-dollar (x ∷ xs) (y ∷ ys) more others a b e =
    let first : x ≡ y = same_Some x y (ap (λ l. slice_get l 0) e) in
    let (same, rest) = split-dollar xs ys more others (λ m. a (contains-later x 36 xs m)) (λ m. b (contains-later y 36 ys m)) (ap (λ l. rest_of l) e) in
    (λ i. first i ∷ same i, rest)

pub word-text : (env : Environment) (id : ℕ) (w : IsWordAt env id) → text_of env id ≡ w.text
word-text env id w = ap (λ (o : Option (List ℕ)). unwrap_or o []) w.there

pub no-dollar : (env : Environment) (id : ℕ) → IsWordAt env id → Contains (text_of env id) 36 → ⊥
no-dollar env id w m = w.word.no_dollar (subst (λ l. Contains l 36) (word-text env id w) m)

module _ (spec : Spec) (early env : Environment) (names : AreNames spec early env) where
  -- ids with one text are one
  pub one-id : (i j : ℕ) → IsWordAt env i → IsWordAt env j → text_of env i ≡ text_of env j → i ≡ j
  one-id i j w v e = same_place env.texts names.distinct i j v.text (w.there ∙ ap Some (sym (word-text env i w) ∙ e ∙ word-text env j v)) v.there

  -- ---- names of symbols

  more-symbols : (test : Name → Option ℤ → Bool) (e : Expr) (x : Name) → Contains (symbols_in test e) x → Contains (symbols_in (λ x i. false) e) x
  more-symbols test (Terminal y i) x m = (filtered (λ x. not (test x i)) (y ∷ []) x m).0
  more-symbols test (Read at (place.Named y i) a) x m = m
  more-symbols test (Read at place.Synt a) x m = m
  more-symbols test (Read at place.Inh a) x m = m
  more-symbols test (Read at place.This a) x m = m
  more-symbols test (Read at place.Tail a) x m = m
  more-symbols test (Including at pairs) x m = m
  more-symbols test (Constituents k) x m = m
  more-symbols test (Int at z) x m = m
  more-symbols test (Str at s) x m = m
  more-symbols test (Truth at b) x m = m
  more-symbols test (Call' f shape args) x m = m

  more-of-computation : (test : Name → Option ℤ → Bool) (c : Comp) (x : Name) → Contains (symbols_of_computation test c) x → Contains (symbols_of_computation (λ x i. false) c) x
  more-of-computation test c x m = elim (Contains-append_cases (symbols_of_target c.target) (flat_map (symbols_in test) (leaves_of c)) x m) [
    | inl k ↦ Contains-append_left (symbols_of_target c.target) (flat_map (symbols_in (λ x i. false)) (leaves_of c)) x k
    | inr k ↦ let (e, me, n) = contains-flat (symbols_in test) (leaves_of c) x k in
        Contains-append_right (symbols_of_target c.target) (flat_map (symbols_in (λ x i. false)) (leaves_of c)) x (flat-contains (symbols_in (λ x i. false)) (leaves_of c) e x me (more-symbols test e x n))
  ]

  rule-name : (r : RuleItem) (x : Name) → Contains spec.rules r → Contains (symbols_of_rule spec env r) x → Contains (all_names spec) x
  rule-name r x among m = of-rule spec r x among (elim (Contains-append_cases (production_names r) (flat_map (symbols_of_computation (is_coordinate_of_rule env r)) r.body) x m) [
    | inl k ↦ Contains-append_left (production_names r) (flat_map (symbols_of_computation (λ x i. false)) r.body) x k
    | inr k ↦ let (c, mc, n) = contains-flat (symbols_of_computation (is_coordinate_of_rule env r)) r.body x k in
        Contains-append_right (production_names r) (flat_map (symbols_of_computation (λ x i. false)) r.body) x
        (flat-contains (symbols_of_computation (λ x i. false)) r.body c x mc (more-of-computation (is_coordinate_of_rule env r) c x n))
  ])

  item-name : (item : SymbolItem) (x : Name) → Contains spec.symbols item → Contains (symbols_of_item spec env item) x → Contains (all_names spec) x
  item-name item x among m = of-item spec item x among (elim (Contains-append_cases (item.names ++ item.inherits) (flat_map (symbols_of_computation (is_coordinate_of_symbol env)) item.body) x m) [
    | inl k ↦ Contains-append_left (item.names ++ item.inherits) (flat_map (symbols_of_computation (λ x i. false)) item.body) x k
    | inr k ↦ let (c, mc, n) = contains-flat (symbols_of_computation (is_coordinate_of_symbol env)) item.body x k in
        Contains-append_right (item.names ++ item.inherits) (flat_map (symbols_of_computation (λ x i. false)) item.body) x
        (flat-contains (symbols_of_computation (λ x i. false)) item.body c x mc (more-of-computation (is_coordinate_of_symbol env) c x n))
  ])

  abbrev of_terms : List Name
  of_terms = map (λ (x : Typed1). x.name) spec.terms

  abbrev of_attributes : Comp → List Name
  of_attributes c = attributes_of_target c.target ++ flat_map attributes_in (leaves_of c)

  abbrev of_uses : List Name
  of_uses = flat_map of_attributes (computations spec)

  abbrev of_chains : List Name
  of_chains = map (λ (x : Typed1). x.name) spec.chains

  abbrev of_symbols : List Name
  of_symbols = flat_map names_of_rule spec.rules ++ flat_map names_of_item spec.symbols

  term-name : (x : Name) → Contains of_terms x → Contains (all_names spec) x
  term-name x m = Contains-append_left (of_symbols ++ of_terms ++ declared_names spec ++ of_uses) of_chains x
      (Contains-append_left (of_symbols ++ of_terms ++ declared_names spec) of_uses x
      (Contains-append_left (of_symbols ++ of_terms) (declared_names spec) x (Contains-append_right of_symbols of_terms x m)))

  declared-name : (x : Name) → Contains (declared_names spec) x → Contains (all_names spec) x
  declared-name x m = Contains-append_left (of_symbols ++ of_terms ++ declared_names spec ++ of_uses) of_chains x
      (Contains-append_left (of_symbols ++ of_terms ++ declared_names spec) of_uses x
      (Contains-append_right (of_symbols ++ of_terms) (declared_names spec) x m))

  used-name : (c : Comp) (x : Name) → Contains (computations spec) c → Contains (of_attributes c) x → Contains (all_names spec) x
  used-name c x mc m = Contains-append_left (of_symbols ++ of_terms ++ declared_names spec ++ of_uses) of_chains x
      (Contains-append_right (of_symbols ++ of_terms ++ declared_names spec) of_uses x (flat-contains of_attributes (computations spec) c x mc m))

  chain-name : (x : Name) → Contains of_chains x → Contains (all_names spec) x
  chain-name x m = Contains-append_right (of_symbols ++ of_terms ++ declared_names spec ++ of_uses) of_chains x m

  -- the symbols of a production are words
  pub production-word : (r : RuleItem) → Contains spec.rules r → (s : ℕ) → Contains (symbols_of r) s → IsWordAt env s
  production-word r among s m =
      let (x, mx, e) = contains-map name_of (production_names r) s (subst (λ l. Contains (left_of r ∷ l) s) (sym (names-right r.right)) m) in
      subst (IsWordAt env) e (names.names x (of-rule spec r x among (Contains-append_left (production_names r) (flat_map (symbols_of_computation (λ x i. false)) r.body) x mx)))

  -- ---- names of attributes

  in-computations : (c : Comp) → InText spec c → Contains (computations spec) c
  in-computations c (inl (r, among, m)) = Contains-append_left (flat_map (λ (r : RuleItem). r.body) spec.rules) (flat_map (λ (item : SymbolItem). item.body) spec.symbols) c (flat-contains (λ (r : RuleItem). r.body) spec.rules r c among m)
  in-computations c (inr (s, (item, mi, h, m))) = Contains-append_right (flat_map (λ (r : RuleItem). r.body) spec.rules) (flat_map (λ (item : SymbolItem). item.body) spec.symbols) c (flat-contains (λ (item : SymbolItem). item.body) spec.symbols item c mi m)

  pair-attribute : (e : Expr) (q : Pair) → Contains (pairs_of e) q → Contains (attributes_in e) q.attr
  pair-attribute (Including at pairs) q m = map-contains (λ (p : Pair). p.attr) pairs q m
  pair-attribute (Constituents k) q m = map-contains (λ (p : Pair). p.attr) k.pairs q m
  pair-attribute (Read at p a) q m = absurd (contains-nil q m)
  pair-attribute (Terminal x i) q m = absurd (contains-nil q m)
  pair-attribute (Int at z) q m = absurd (contains-nil q m)
  pair-attribute (Str at s) q m = absurd (contains-nil q m)
  pair-attribute (Truth at b) q m = absurd (contains-nil q m)
  pair-attribute (Call' f shape args) q m = absurd (contains-nil q m)

  leaf-attribute : (p : _) (a : Name) (e : Expr) → IsUsedIn p a e → Contains (attributes_in e) a
  leaf-attribute p a e (by_read first same) = subst (λ (e : Expr). Contains (attributes_in e) a) (sym same) (contains-here a [])
  leaf-attribute p a e (by_pair q m ep ea) = subst (Contains (attributes_in e)) (sym ea) (pair-attribute e q m)

  used-attribute : (c : Comp) (p : _) (a : Name) → IsUsed c p a → Contains (of_attributes c) a
  used-attribute c p a (by_target e) = Contains-append_left (attributes_of_target c.target) (flat_map attributes_in (leaves_of c)) a (subst (λ (t : Target). Contains (attributes_of_target t) a) (sym e) (contains-here a []))
  used-attribute c p a (by_leaf e m used) = Contains-append_right (attributes_of_target c.target) (flat_map attributes_in (leaves_of c)) a (flat-contains attributes_in (leaves_of c) e a m (leaf-attribute p a e used))

  named-word : (s a : ℕ) → IsNamed spec s a → IsWordAt env a
  named-word s a (declared d (item, mi, h, md, e)) = subst (IsWordAt env) e (names.names d.attr (declared-name d.attr (map-contains (λ (d : Decl). d.attr) (spec.attrs ++ flat_map (λ (item : SymbolItem). item.decls) spec.symbols) d
      (Contains-append_right spec.attrs (flat_map (λ (item : SymbolItem). item.decls) spec.symbols) d (flat-contains (λ (item : SymbolItem). item.decls) spec.symbols item d mi md)))))
  named-word s a (by_name c x i text (b, m, n, unlike) e) = subst (IsWordAt env) n (names.names b (used-name c b (in-computations c text) (used-attribute c _ b (to-used c _ b m))))
  named-word s a (in_body c p of (b, m, n, unlike) own) = subst (IsWordAt env) n (names.names b (used-name c b (in-computations c (inr (s, of))) (used-attribute c _ b (to-used c _ b m))))

  pub attribute-word : (s a : ℕ) → Has spec s a → IsWordAt env a
  attribute-word s a (inl h) = named-word s a h
  attribute-word s a (inr (class, heir, h)) = named-word class a h

  pub chain-word : (c : ℕ) → Contains (map (λ (x : Typed1). name_of x.name) spec.chains) c → IsWordAt env c
  chain-word c m = let (d, md, e) = contains-map (λ (x : Typed1). name_of x.name) spec.chains c m in
      subst (IsWordAt env) e (names.names d.name (chain-name d.name (map-contains (λ (x : Typed1). x.name) spec.chains d md)))

  module _ (T : Tables spec) (tables : AreTables spec T env) where
    -- the symbols are words
    pub symbol-word : (x s : ℕ) → slice_get T.symbols x ≡ Some s → IsWordAt env s
    symbol-word x s e =
        let (at, m) = All-contains (λ (k : ℕ). (at : ℕ) × Contains (symbol_uses spec env) (let z : ℕ × ℕ = (at, k) in z)) T.symbols s tables.symbols.named (place-contains T.symbols x s e) in
        let of_rules = flat_map (symbols_of_rule spec env) spec.rules in
        let of_items = flat_map (symbols_of_item spec env) spec.symbols in
        let (n, mn, same) = contains-map with_place (of_rules ++ of_items ++ of_terms) (at, s) m in
        subst (IsWordAt env) (ap (λ (z : ℕ × ℕ). z.1) same) (names.names n (elim (Contains-append_cases (of_rules ++ of_items) of_terms n mn) [
          | inr k ↦ term-name n k
          | inl k ↦ elim (Contains-append_cases of_rules of_items n k) [
            | inl h ↦ let (r, mr, k) = contains-flat (symbols_of_rule spec env) spec.rules n h in rule-name r n mr k
            | inr h ↦ let (item, mi, k) = contains-flat (symbols_of_item spec env) spec.symbols n h in item-name item n mi k
          ]
        ]))
