-- Where the tables have no faults, all that the leaves of a computation in force name is there.
use Rattle.std.specs.Prelude.{◌≡◌, ◌<◌, ℕ, ℤ, ◌⊎◌, Bool, true, false, IsTrue, Option, None, Some, is_some, List, [], ◌∷◌, map, flat_map, filter_map, length, get_or, All, Contains, refl}
use Rattle.std.proofs.Common.{ap, sym, subst, ◌∙◌, inl, inr}
use Rattle.std.specs.List.{cons_option}
use Rattle.std.proofs.lemmas.Bool.{false≢true}
use Rattle.std.proofs.lemmas.Option.{none-some, same_Some}
use Rattle.std.proofs.lemmas.List.Elements.{All-contains, All-contains_itself, Contains-append_left, Contains-append_right}
use Rattle.lido_base.specs.declared.kinds.CoordPart.{CoordPart}
use Rattle.lido_base.specs.declared.value.ValueType.{ValueType}
use Rattle.lido_base.specs.declared.value.ValueType.TheVariants as type
use Rattle.lido_base.specs.Environment.{Environment}
use Rattle.lido_base.specs.Tree.{contains}
use Rattle.lido_base.proofs.Lists.{contains-nil, contains-cons, contains-here, contains-later, map-contains, contains-map, flat-contains}
use Rattle.lido_base.proofs.TreeLemmas.{contains-test, test-contains}
use Rattle.lido_syntax.specs.declared.spec.Spec.{Spec}
use Rattle.lido_syntax.specs.declared.spec.Name.{Name}
use Rattle.lido_syntax.specs.declared.spec.Pair.{Pair}
use Rattle.lido_syntax.specs.declared.spec.Cons.{Cons}
use Rattle.lido_syntax.specs.declared.spec.Comp.{Comp}
use Rattle.lido_syntax.specs.declared.spec.Typed1.{Typed1}
use Rattle.lido_syntax.specs.declared.spec.RuleItem.{RuleItem}
use Rattle.lido_syntax.specs.declared.spec.SymbolItem.{SymbolItem}
use Rattle.lido_syntax.specs.declared.spec.Place.{Place}
use Rattle.lido_syntax.specs.declared.spec.Place.TheVariants as place
use Rattle.lido_syntax.specs.declared.spec.Expr.{Expr, Int, Str, Bool as Truth, Terminal, Read, Including, Constituents, Call'}
use Rattle.lido_syntax.specs.Production.{name_of, left_of, right_of, symbols_of}
use Rattle.lido_syntax.specs.Parts.{leaves_of}
use Rattle.lido_syntax.specs.Symbols.{IsNonterminal, IsOnRightSide, IsTerminal, IsChain}
use Rattle.lido_syntax.specs.Sets.{Inherits}
use Rattle.lido_syntax.specs.Attributes.{Use, IsOwn, IsUse, IsNamed, Has, InBody, InText, uses, use_of_pair, uses_of_part}
use Rattle.lido_syntax.specs.Attributes as attributes
use Rattle.lido_syntax.specs.Computation.{Goal, Holder, by_rule, by_symbol, InForce, IsLeft}
use Rattle.lido_syntax.specs.Computation as force
use Rattle.lido_syntax.specs.Coordinates.{coordinate_named}
use Rattle.lido_symbols.specs.FromText.{IsFromText}
use Rattle.lido_symbols.specs.Uses.{is_coordinate_of_rule, including_of, constituents_of, all_leaves, all_includings, all_constituents, computations}
use Rattle.kind_clashes.specs.KindClash.{IsKindClash, pairs_of}
use Rattle.kind_clashes.specs.KindClash as clashes
use Rattle.symbol_attributes.proofs.UsesLemmas.{of-leaf}
use Rattle.table_faults.specs.Faults.{IsUnknown, IsForeign, place_at}
use Rattle.table_faults.specs.Faults as tables
use Rattle.expr_types.specs.Scopes.{IsPairOf, IsBare, IsThere, symbol_in}

-- ---- lists and tests

kept-here : {Y : Type 0} (rest : List Y) (o : Option Y) (y : Y) → o ≡ Some y → Contains (cons_option o rest) y
kept-here rest None y e = absurd (none-some y e)
kept-here rest (Some v) y e = subst (Contains (v ∷ rest)) (same_Some v y e) (contains-here v rest)

kept-later : {Y : Type 0} (rest : List Y) (o : Option Y) (y : Y) → Contains rest y → Contains (cons_option o rest) y
kept-later rest None y k = k
kept-later rest (Some v) y k = contains-later v y rest k

filtered : {X Y : Type 0} (h : X → Option Y) (xs : List X) (x : X) (y : Y) → Contains xs x → h x ≡ Some y → Contains (filter_map h xs) y
filtered h [] x y m e = absurd (contains-nil x m)
filtered h (z ∷ zs) x y m e = go (contains-cons z x zs m) (λ k. filtered h zs x y k e)
  where
    go : (z ≡ x) ⊎ Contains zs x → (Contains zs x → Contains (filter_map h zs) y) → Contains (filter_map h (z ∷ zs)) y
    go (inl same) later = kept-here (filter_map h zs) (h z) y (ap h same ∙ e)
    go (inr k) later = kept-later (filter_map h zs) (h z) y (later k)

decided : (b : Bool) → IsTrue b ⊎ (IsTrue b → ⊥)
decided true = inl refl
decided false = inr false≢true

-- a declaration of that name, or none
found-term : (xs : List Typed1) (s : ℕ) → Contains (map (λ (x : Typed1). name_of x.name) xs) s → (x : Typed1) × Contains xs x × (name_of x.name ≡ s)
found-term xs s m = contains-map (λ (x : Typed1). name_of x.name) xs s m

term-or : (terms : List Typed1) (s : ℕ) → ((x : Typed1) × Contains terms x × (name_of x.name ≡ s)) ⊎ ((x : Typed1) → Contains terms x → name_of x.name ≡ s → ⊥)
term-or terms s = go (decided (contains s (map (λ (x : Typed1). name_of x.name) terms)))
  where
    go : IsTrue (contains s (map (λ (x : Typed1). name_of x.name) terms)) ⊎ (IsTrue (contains s (map (λ (x : Typed1). name_of x.name) terms)) → ⊥)
        → ((x : Typed1) × Contains terms x × (name_of x.name ≡ s)) ⊎ ((x : Typed1) → Contains terms x → name_of x.name ≡ s → ⊥)
    go (inl is) = inl (found-term terms s (contains-test s (map (λ (x : Typed1). name_of x.name) terms) is))
    go (inr not) = inr (λ x m e. not (test-contains s (map (λ (y : Typed1). name_of y.name) terms)
        (subst (Contains (map (λ (y : Typed1). name_of y.name) terms)) e (map-contains (λ (y : Typed1). name_of y.name) terms x m))))

-- ---- where a computation in force stands

abbrev pub Origin : Spec → RuleItem → ℕ → Comp → Holder → Type 0
Origin spec r s c by_rule = Contains r.body c
Origin spec r s c by_symbol = (x : ℕ) × InBody spec x c × ((x ≡ s) ⊎ Inherits spec s x)

pub origin : (spec : Spec) (r : RuleItem) (k s : ℕ) (goal : Goal) (h : Holder) (c : Comp) → InForce spec r k s goal h c → Origin spec r s c h
origin spec r k s goal h c (force.of_rule at own) = own.0
origin spec r k s goal h c (force.of_symbol at none own) = (s, own.0, inl refl)
origin spec r k s goal h c (force.of_class class at none other left only own) = (class, own.0, inr left.inherited)

module _ (spec : Spec) (env : Environment) (text : IsFromText spec) (unknown : (at : ℕ) → IsUnknown spec env at → ⊥) (clash : (at : ℕ) → IsKindClash spec env at → ⊥)
    (r : RuleItem) (rule : Contains spec.rules r) (s : ℕ) (c : Comp) where
  in-text : (h : Holder) → Origin spec r s c h → InText spec c
  in-text by_rule body = inl (r, rule, body)
  in-text by_symbol (x, body, its) = inr (x, body)

  in-computations : (h : Holder) → Origin spec r s c h → Contains (computations spec) c
  in-computations by_rule body =
      Contains-append_left (flat_map (λ (q : RuleItem). q.body) spec.rules) (flat_map (λ (item : SymbolItem). item.body) spec.symbols) c
      (flat-contains (λ (q : RuleItem). q.body) spec.rules r c rule body)
  in-computations by_symbol (x, (item, there, about, body), its) =
      Contains-append_right (flat_map (λ (q : RuleItem). q.body) spec.rules) (flat_map (λ (item : SymbolItem). item.body) spec.symbols) c
      (flat-contains (λ (item : SymbolItem). item.body) spec.symbols item c there body)

  is-leaf : (h : Holder) → Origin spec r s c h → (leaf : Expr) → Contains (leaves_of c) leaf → Contains (all_leaves spec) leaf
  is-leaf h o leaf m = flat-contains leaves_of (computations spec) c leaf (in-computations h o) m

  -- ---- reads

  passed : (x a : ℕ) → (x ≡ s) ⊎ Inherits spec s x → IsNamed spec x a → Has spec s a
  passed x a (inl e) named = inl (subst (λ y. IsNamed spec y a) e named)
  passed x a (inr inherits) named = inr (x, inherits, named)

  read-there : (h : Holder) → Origin spec r s c h → (first : ℕ) (p : Place) (a : Name) → Contains (leaves_of c) (Read first p a) → IsChain spec (name_of a) ⊎ Has spec (symbol_in s p) (name_of a)
  read-there h o first p a m = go (decided (contains (name_of a) (map (λ (x : Typed1). name_of x.name) spec.chains)))
    where
      used : Contains (uses c) (p, a)
      used = of-leaf c (Read first p a) (p, a) m (contains-here (p, a) [])

      own : (h : Holder) → Origin spec r s c h → (q : Place) → p ≡ q → IsOwn q → IsForeign spec env r q → ¬ IsChain spec (name_of a) → Has spec s (name_of a)
      own by_rule body q e is foreign not =
          absurd (unknown (place_at q first) (tables.in_rule r c q rule body (tables.read first a (subst (λ y. Contains (leaves_of c) (Read first y a)) e m) refl) foreign))
      own by_symbol (x, body, its) q e is foreign not =
          passed x (name_of a) its (attributes.in_body c q body (a, subst (λ y. Contains (uses c) (y, a)) e used, refl, not) is)

      has : (q : Place) → p ≡ q → ¬ IsChain spec (name_of a) → Has spec (symbol_in s q) (name_of a)
      has (place.Named x i) e not = inl (attributes.by_name c x i (in-text h o) (a, subst (λ y. Contains (uses c) (y, a)) e used, refl, not) refl)
      has place.Synt e not = own h o place.Synt e tt tt not
      has place.Inh e not = own h o place.Inh e tt tt not
      has place.This e not = own h o place.This e tt tt not
      has place.Tail e not = absurd (clash a.at (clashes.no_chain c a (in-text h o) (inr (subst (λ y. Contains (uses c) (y, a)) e used)) not refl))

      go : IsChain spec (name_of a) ⊎ (IsChain spec (name_of a) → ⊥) → IsChain spec (name_of a) ⊎ Has spec (symbol_in s p) (name_of a)
      go (inl chain) = inl chain
      go (inr not) = inr (has p refl not)

  -- ---- remote lists

  pair-there : (h : Holder) → Origin spec r s c h → (leaf : Expr) (p : Pair) → Contains (leaves_of c) leaf → Contains (pairs_of leaf) p → Contains (uses_of_part leaf) (use_of_pair p) → IsPairOf spec p
  pair-there h o leaf p m among used =
      inl (attributes.by_name c p.sym None (in-text h o)
      (p.attr, of-leaf c leaf (use_of_pair p) m used, refl, (λ chain. clash p.attr.at (clashes.chain_in_pair leaf p (c, in-text h o, m) among chain refl))) refl)

  pairs-there : (h : Holder) → Origin spec r s c h → (leaf : Expr) (pairs : List Pair) → Contains (leaves_of c) leaf → pairs_of leaf ≡ pairs → uses_of_part leaf ≡ map use_of_pair pairs
      → All (IsPairOf spec) pairs
  pairs-there h o leaf pairs m e f k d less =
      let p = get_or pairs k d in
      let among : Contains pairs p = All-contains_itself pairs k d less in
      pair-there h o leaf p m (subst (λ (ps : List Pair). Contains ps p) (sym e) among)
      (subst (λ (us : List Use). Contains us (use_of_pair p)) (sym f) (map-contains use_of_pair pairs p among))

  -- ---- bare names

  abbrev Terminals : Name → Type 0
  Terminals x = (ty : ValueType) × IsTerminal spec (name_of x) ty

  bare-terminal : Contains r.body c → (x : Name) (i : Option ℤ) → Contains (leaves_of c) (Terminal x i) → (IsTrue (is_coordinate_of_rule env r x i) → ⊥) → Terminals x
  bare-terminal body x i m not = go (decided (contains (name_of x) (symbols_of r)))
    where
      no-nonterminal : ¬ IsNonterminal spec (name_of x)
      no-nonterminal n = clash x.at (clashes.bare_nonterminal r c x i rule body m not n refl)

      typed : IsOnRightSide spec (name_of x) → ((y : Typed1) × Contains spec.terms y × (name_of y.name ≡ name_of x)) ⊎ ((y : Typed1) → Contains spec.terms y → name_of y.name ≡ name_of x → ⊥) → Terminals x
      typed right (inl (y, there, e)) = (y.ty, (no-nonterminal, inl (y, there, e, refl)))
      typed right (inr none) = (type.Int, (no-nonterminal, inr (right, (λ other t. none t.0 t.1 t.2), refl)))

      side : (left_of r ≡ name_of x) ⊎ Contains (right_of r) (name_of x) → Terminals x
      side (inl e) = absurd (no-nonterminal (test-contains (name_of x) (map left_of spec.rules) (subst (Contains (map left_of spec.rules)) e (map-contains left_of spec.rules r rule))))
      side (inr k) = typed (test-contains (name_of x) (flat_map right_of spec.rules) (flat-contains right_of spec.rules r (name_of x) rule k)) (term-or spec.terms (name_of x))

      go : IsTrue (contains (name_of x) (symbols_of r)) ⊎ (IsTrue (contains (name_of x) (symbols_of r)) → ⊥) → Terminals x
      go (inl is) = side (contains-cons (left_of r) (name_of x) (right_of r) (contains-test (name_of x) (symbols_of r) is))
      go (inr strange) = absurd (unknown x.at (tables.bare_in_rule r c x i rule body (m, not) (λ k. strange (test-contains (name_of x) (symbols_of r) k)) refl))

  abbrev BareBy : Name → Option CoordPart → Type 0
  BareBy x o = elim o [ Some part ↦ Unit {0} | None ↦ Terminals x ]

  by-part : (x : Name) (o : Option CoordPart) → ((IsTrue (is_some o) → ⊥) → Terminals x) → BareBy x o
  by-part x (Some part) f = tt
  by-part x None f = f false≢true

  bare-there : (h : Holder) → Origin spec r s c h → (x : Name) (i : Option ℤ) → Contains (leaves_of c) (Terminal x i) → IsBare spec env h r s x i
  bare-there by_rule body x i m = by-part x (coordinate_named env by_rule r x i) (bare-terminal body x i m)
  bare-there by_symbol (y, (item, there, about, body), its) x None m = by-part x (coordinate_named env by_symbol r x None)
      (λ not. absurd (unknown x.at (tables.bare_in_symbol item c x None there body (m, not) refl)))
  bare-there by_symbol (y, (item, there, about, body), its) x (Some i) m = by-part x (coordinate_named env by_symbol r x (Some i))
      (λ not. absurd (unknown x.at (tables.bare_in_symbol item c x (Some i) there body (m, not) refl)))

  -- ---- all leaves

  pub leaf-there : (h : Holder) → Origin spec r s c h → (leaf : Expr) → Contains (leaves_of c) leaf → IsThere spec env h r s leaf
  leaf-there h o (Int at z) m = tt
  leaf-there h o (Str at z) m = tt
  leaf-there h o (Truth at b) m = tt
  leaf-there h o (Terminal x i) m = bare-there h o x i m
  leaf-there h o (Read at p a) m = read-there h o at p a m
  leaf-there h o (Including at pairs) m = (
    All-contains (λ (x : ℕ × List Pair). 0 < length x.1) (all_includings spec) (at, pairs) text.including_pairs
        (filtered including_of (all_leaves spec) (Including at pairs) (at, pairs) (is-leaf h o (Including at pairs) m) refl),
    pairs-there h o (Including at pairs) pairs m refl refl,
  )
  leaf-there h o (Constituents k) m = (
    All-contains (λ (x : ℕ × Cons). 0 < length x.1.pairs) (all_constituents spec) (k.number, k) text.constituents_pairs
        (filtered constituents_of (all_leaves spec) (Constituents k) (k.number, k) (is-leaf h o (Constituents k) m) refl),
    pairs-there h o (Constituents k) k.pairs m refl refl,
  )
  leaf-there h o (Call' f shape args) m = tt
