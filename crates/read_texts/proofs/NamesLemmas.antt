-- Which names, lists and right sides a specification has, where this holds of all that its tokens say.
use Rattle.std.specs.List.{All, Contains, filter, filter_map, cons_option}
use Rattle.std.proofs.Common.{◌≡◌, ◌⊎◌, inl, inr, ℕ, ◌<◌, Bool, true, false, List, [], ◌∷◌, ◌++◌, map, flat_map, length, Option, Some, None, refl, ap, ◌∙◌, subst}
use Rattle.std.proofs.lemmas.List.Elements.{All-contains, All-append, All-nil, All-cons, All-map, All-filter, All-contains_itself, Contains-append_cases}
use Rattle.std.proofs.lemmas.Option.{none-some, same_Some}
use Rattle.lido_base.proofs.Lists.{contains-nil, contains-cons, contains-here, contains-later, contains-map, contains-flat, flat-contains}
use Rattle.lido_base.specs.declared.ids.StrId.{StrId}
use Rattle.lido_syntax.specs.declared.spec.Name.{Name}
use Rattle.lido_syntax.specs.declared.spec.Comp.{Comp}
use Rattle.lido_syntax.specs.declared.spec.Cons.{Cons}
use Rattle.lido_syntax.specs.declared.spec.Decl.{Decl}
use Rattle.lido_syntax.specs.declared.spec.Pair.{Pair}
use Rattle.lido_syntax.specs.declared.spec.With.{With}
use Rattle.lido_syntax.specs.declared.spec.Typed1.{Typed1}
use Rattle.lido_syntax.specs.declared.spec.Element.{Element}
use Rattle.lido_syntax.specs.declared.spec.Element.TheVariants.{Symbol, Literal}
use Rattle.lido_syntax.specs.declared.spec.Expr.{Expr, Int, Str, Bool as Truth, Terminal, Read, Including, Constituents, Call'}
use Rattle.lido_syntax.specs.declared.spec.Place.TheVariants as place
use Rattle.lido_syntax.specs.declared.spec.Target.{Target}
use Rattle.lido_syntax.specs.declared.spec.Target.TheVariants as target
use Rattle.lido_syntax.specs.declared.spec.RuleItem.{RuleItem}
use Rattle.lido_syntax.specs.declared.spec.SymbolItem.{SymbolItem}
use Rattle.lido_syntax.specs.declared.spec.Spec.{Spec}
use Rattle.lido_syntax.specs.Parts.{parts, is_leaf, leaves, leaves_of, parts_of, expressions_of}
use Rattle.lido_symbols.specs.Uses.{
  all_constituents,
  all_functions,
  all_includings,
  all_leaves,
  attributes_in,
  attributes_of_target,
  computations,
  constituents_of,
  declarations,
  declared_names,
  element_name,
  functions_of_part,
  functions_of_with,
  including_of,
  production_names,
  symbols_in,
  symbols_of_computation,
  symbols_of_target,
}
use Rattle.lido_symbols.specs.FromText.{all_names, names_of_rule, names_of_item}
use Rattle.lido_reader.specs.Known.{KnownPair, KnownWith, KnownPart, KnownExpr, KnownTarget, KnownComp, KnownDecl, KnownTyped, KnownElement, KnownRule, KnownSymbol, KnownSpec}

-- what is kept of a list stands in it
pub filter-contains : {X : Type 0} (p : X → Bool) (xs : List X) (x : X) → Contains (filter p xs) x → Contains xs x
filter-contains p xs x m = All-contains (Contains xs) (filter p xs) x (All-filter p (Contains xs) xs (All-contains_itself xs)) m

-- and what is picked comes of something in it
pub contains-pick : {X A : Type 0} (pick : X → Option A) (xs : List X) (a : A) → Contains (filter_map pick xs) a → (x : X) × Contains xs x × (pick x ≡ Some a)
contains-pick pick [] a m = absurd (contains-nil a m)
contains-pick {X} {A} pick (x ∷ xs) a m = by (pick x) refl m (contains-pick pick xs a)
  where
    by : (o : Option A) → pick x ≡ o → Contains (cons_option o (filter_map pick xs)) a → (Contains (filter_map pick xs) a → (y : X) × Contains xs y × (pick y ≡ Some a)) → (y : X) × Contains (x ∷ xs) y × (pick y ≡ Some a)
    by None e m later = let (y, there, same) = later m in (y, contains-later x y xs there, same)
    by (Some b) e m later = here (contains-cons b a (filter_map pick xs) m)
      where
        here : (b ≡ a) ⊎ Contains (filter_map pick xs) a → (y : X) × Contains (x ∷ xs) y × (pick y ≡ Some a)
        here (inl same) = (x, contains-here x xs, e ∙ ap Some same)
        here (inr k) = let (y, there, is) = later k in (y, contains-later x y xs there, is)

module _ (W F : Name → Type 0) (I : StrId → Type 0) where
  -- ---- leaves and other parts

  pairs_symbols : (pairs : List Pair) → All (KnownPair W F I) pairs → All W (map (λ (p : Pair). p.sym) pairs)
  pairs_symbols pairs h = All-map W (λ (p : Pair). p.sym) pairs (λ i d less. (h i d less).symbol)

  pairs_attributes : (pairs : List Pair) → All (KnownPair W F I) pairs → All W (map (λ (p : Pair). p.attr) pairs)
  pairs_attributes pairs h = All-map W (λ (p : Pair). p.attr) pairs (λ i d less. (h i d less).attribute)

  one : (x : Name) → W x → All W (x ∷ [])
  one x k = All-cons W x [] k (All-nil W)

  symbols_of_part : (e : Expr) → KnownPart W F I e → All W (symbols_in (λ x i. false) e)
  symbols_of_part (Terminal x i) k = one x k
  symbols_of_part (Read at (place.Named x i) a) k = one x k.0
  symbols_of_part (Read at place.Synt a) k = All-nil W
  symbols_of_part (Read at place.Inh a) k = All-nil W
  symbols_of_part (Read at place.This a) k = All-nil W
  symbols_of_part (Read at place.Tail a) k = All-nil W
  symbols_of_part (Including at pairs) k = pairs_symbols pairs k.each
  symbols_of_part (Constituents c) k = All-append W (map (λ (p : Pair). p.sym) c.pairs) c.shield (pairs_symbols c.pairs k.sources.each) k.shield
  symbols_of_part (Int at z) k = All-nil W
  symbols_of_part (Str at s) k = All-nil W
  symbols_of_part (Truth at b) k = All-nil W
  symbols_of_part (Call' f shape args) k = All-nil W

  attributes_of_part : (e : Expr) → KnownPart W F I e → All W (attributes_in e)
  attributes_of_part (Terminal x i) k = All-nil W
  attributes_of_part (Read at p a) k = one a k.1
  attributes_of_part (Including at pairs) k = pairs_attributes pairs k.each
  attributes_of_part (Constituents c) k = pairs_attributes c.pairs k.sources.each
  attributes_of_part (Int at z) k = All-nil W
  attributes_of_part (Str at s) k = All-nil W
  attributes_of_part (Truth at b) k = All-nil W
  attributes_of_part (Call' f shape args) k = All-nil W

  with_names : (w : Option With) → KnownWith W F I w → All W (functions_of_with w)
  with_names None k = All-nil W
  with_names (Some w) k = All-cons W w.comb (w.single ∷ w.null ∷ []) k.comb (All-cons W w.single (w.null ∷ []) k.single (one w.null k.null))

  part_functions : ((x : Name) → W x → F x) → (e : Expr) → KnownPart W F I e → All F (functions_of_part e)
  part_functions on (Call' f shape args) k = All-cons F f [] k (All-nil F)
  part_functions on (Constituents c) k = λ i d less. on _ (with_names c.with k.with_functions i d less)
  part_functions on (Terminal x i) k = All-nil F
  part_functions on (Read at p a) k = All-nil F
  part_functions on (Including at pairs) k = All-nil F
  part_functions on (Int at z) k = All-nil F
  part_functions on (Str at s) k = All-nil F
  part_functions on (Truth at b) k = All-nil F

  -- ---- computations

  part_known : (c : Comp) (e : Expr) → KnownComp W F I c → Contains (parts_of c) e → KnownPart W F I e
  part_known c e k m = let (x, there, within) = contains-flat parts (expressions_of c) e m in All-contains (KnownPart W F I) (parts x) e (All-contains (KnownExpr W F I) (expressions_of c) x k.expressions there) within

  leaf_known : (c : Comp) (e : Expr) → KnownComp W F I c → Contains (leaves_of c) e → KnownPart W F I e
  leaf_known c e k m = let (x, there, within) = contains-flat leaves (expressions_of c) e m in part_known c e k (flat-contains parts (expressions_of c) x e there (filter-contains is_leaf (parts x) e within))

  target_symbols : (t : Target) → KnownTarget W F I t → All W (symbols_of_target t)
  target_symbols (target.Attr (place.Named x i) a) k = one x k.0
  target_symbols (target.Attr place.Synt a) k = All-nil W
  target_symbols (target.Attr place.Inh a) k = All-nil W
  target_symbols (target.Attr place.This a) k = All-nil W
  target_symbols (target.Attr place.Tail a) k = All-nil W
  target_symbols (target.Start c) k = All-nil W
  target_symbols target.Out k = All-nil W
  target_symbols (target.Message s e) k = All-nil W

  target_attributes : (t : Target) → KnownTarget W F I t → All W (attributes_of_target t)
  target_attributes (target.Attr p a) k = one a k.1
  target_attributes (target.Start c) k = All-nil W
  target_attributes target.Out k = All-nil W
  target_attributes (target.Message s e) k = All-nil W

  computation_symbol : (c : Comp) (x : Name) → KnownComp W F I c → Contains (symbols_of_computation (λ x i. false) c) x → W x
  computation_symbol c x k m = by (Contains-append_cases (symbols_of_target c.target) (flat_map (symbols_in (λ x i. false)) (leaves_of c)) x m)
    where
      by : Contains (symbols_of_target c.target) x ⊎ Contains (flat_map (symbols_in (λ x i. false)) (leaves_of c)) x → W x
      by (inl n) = All-contains W (symbols_of_target c.target) x (target_symbols c.target k.goal) n
      by (inr n) = let (e, there, within) = contains-flat (symbols_in (λ x i. false)) (leaves_of c) x n in All-contains W (symbols_in (λ x i. false) e) x (symbols_of_part e (leaf_known c e k there)) within

  computation_attribute : (c : Comp) (x : Name) → KnownComp W F I c → Contains (attributes_of_target c.target ++ flat_map attributes_in (leaves_of c)) x → W x
  computation_attribute c x k m = by (Contains-append_cases (attributes_of_target c.target) (flat_map attributes_in (leaves_of c)) x m)
    where
      by : Contains (attributes_of_target c.target) x ⊎ Contains (flat_map attributes_in (leaves_of c)) x → W x
      by (inl n) = All-contains W (attributes_of_target c.target) x (target_attributes c.target k.goal) n
      by (inr n) = let (e, there, within) = contains-flat attributes_in (leaves_of c) x n in All-contains W (attributes_in e) x (attributes_of_part e (leaf_known c e k there)) within

  body_symbol : (cs : List Comp) (x : Name) → All (KnownComp W F I) cs → Contains (flat_map (symbols_of_computation (λ x i. false)) cs) x → W x
  body_symbol cs x k m = let (c, there, within) = contains-flat (symbols_of_computation (λ x i. false)) cs x m in computation_symbol c x (All-contains (KnownComp W F I) cs c k there) within

  -- ---- rules and items

  elements_known : (es : List Element) → All (KnownElement W F I) es → (x : Name) → Contains (filter_map element_name es) x → W x
  elements_known es k x m = let (e, there, same) = contains-pick element_name es x m in by e (All-contains (KnownElement W F I) es e k there) same
    where
      by : (e : Element) → KnownElement W F I e → element_name e ≡ Some x → W x
      by (Symbol y) k same = subst W (same_Some y x same) k
      by (Literal s) k same = absurd (none-some x same)

  rule_name : (r : RuleItem) (x : Name) → KnownRule W F I r → Contains (names_of_rule r) x → W x
  rule_name r x k m = by (Contains-append_cases (production_names r) (flat_map (symbols_of_computation (λ x i. false)) r.body) x m)
    where
      in_production : (r.left ≡ x) ⊎ Contains (filter_map element_name r.right) x → W x
      in_production (inl e) = subst W e k.left
      in_production (inr n) = elements_known r.right k.right x n

      by : Contains (production_names r) x ⊎ Contains (flat_map (symbols_of_computation (λ x i. false)) r.body) x → W x
      by (inl n) = in_production (contains-cons r.left x (filter_map element_name r.right) n)
      by (inr n) = body_symbol r.body x k.body n

  item_name : (s : SymbolItem) (x : Name) → KnownSymbol W F I s → Contains (names_of_item s) x → W x
  item_name s x k m = by (Contains-append_cases (s.names ++ s.inherits) (flat_map (symbols_of_computation (λ x i. false)) s.body) x m)
    where
      by : Contains (s.names ++ s.inherits) x ⊎ Contains (flat_map (symbols_of_computation (λ x i. false)) s.body) x → W x
      by (inl n) = All-contains W (s.names ++ s.inherits) x (All-append W s.names s.inherits k.about.each k.inherits) n
      by (inr n) = body_symbol s.body x k.body n

  -- ---- the whole

  module _ (spec : Spec) (known : KnownSpec W F I spec) where
    pub rule_known : (r : RuleItem) → Contains spec.rules r → KnownRule W F I r
    rule_known r m = All-contains (KnownRule W F I) spec.rules r known.rules m

    pub item_known : (s : SymbolItem) → Contains spec.symbols s → KnownSymbol W F I s
    item_known s m = All-contains (KnownSymbol W F I) spec.symbols s known.symbols m

    pub computation_known : (c : Comp) → Contains (computations spec) c → KnownComp W F I c
    computation_known c m = by (Contains-append_cases (flat_map (λ (r : RuleItem). r.body) spec.rules) (flat_map (λ (s : SymbolItem). s.body) spec.symbols) c m)
      where
        by : Contains (flat_map (λ (r : RuleItem). r.body) spec.rules) c ⊎ Contains (flat_map (λ (s : SymbolItem). s.body) spec.symbols) c → KnownComp W F I c
        by (inl n) = let (r, there, within) = contains-flat (λ (r : RuleItem). r.body) spec.rules c n in All-contains (KnownComp W F I) r.body c (rule_known r there).body within
        by (inr n) = let (s, there, within) = contains-flat (λ (s : SymbolItem). s.body) spec.symbols c n in All-contains (KnownComp W F I) s.body c (item_known s there).body within

    pub leaf_of_spec : (e : Expr) → Contains (all_leaves spec) e → KnownPart W F I e
    leaf_of_spec e m = let (c, there, within) = contains-flat leaves_of (computations spec) e m in leaf_known c e (computation_known c there) within

    declaration_known : (x : Name) → Contains (declared_names spec) x → W x
    declaration_known x m =
        let (d, there, same) = contains-map (λ (d : Decl). d.attr) (declarations spec) x m in
        subst W same (by d (Contains-append_cases spec.attrs (flat_map (λ (s : SymbolItem). s.decls) spec.symbols) d there))
      where
        by : (d : Decl) → Contains spec.attrs d ⊎ Contains (flat_map (λ (s : SymbolItem). s.decls) spec.symbols) d → W d.attr
        by d (inl n) = All-contains (KnownDecl W F I) spec.attrs d known.attrs n
        by d (inr n) = let (s, there, within) = contains-flat (λ (s : SymbolItem). s.decls) spec.symbols d n in All-contains (KnownDecl W F I) s.decls d (item_known s there).decls within

    abbrev used : List Name
    used = flat_map (λ (c : Comp). attributes_of_target c.target ++ flat_map attributes_in (leaves_of c)) (computations spec)

    abbrev Is : List Name → Type 0
    Is xs = (x : Name) → Contains xs x → W x

    is_both : (xs ys : List Name) → Is xs → Is ys → Is (xs ++ ys)
    is_both xs ys f g x m = by (Contains-append_cases xs ys x m)
      where
        by : Contains xs x ⊎ Contains ys x → W x
        by (inl n) = f x n
        by (inr n) = g x n

    in_rules : Is (flat_map names_of_rule spec.rules)
    in_rules x m = let (r, there, within) = contains-flat names_of_rule spec.rules x m in rule_name r x (rule_known r there) within

    in_items : Is (flat_map names_of_item spec.symbols)
    in_items x m = let (s, there, within) = contains-flat names_of_item spec.symbols x m in item_name s x (item_known s there) within

    in_terms : Is (map (λ (t : Typed1). t.name) spec.terms)
    in_terms x m = let (t, there, same) = contains-map (λ (t : Typed1). t.name) spec.terms x m in subst W same (All-contains (KnownTyped W F I) spec.terms t known.terms there)

    in_chains : Is (map (λ (t : Typed1). t.name) spec.chains)
    in_chains x m = let (t, there, same) = contains-map (λ (t : Typed1). t.name) spec.chains x m in subst W same (All-contains (KnownTyped W F I) spec.chains t known.chains there)

    in_used : Is used
    in_used x m =
        let (c, there, within) = contains-flat (λ (c : Comp). attributes_of_target c.target ++ flat_map attributes_in (leaves_of c)) (computations spec) x m in
        computation_attribute c x (computation_known c there) within

    -- this holds of all names
    pub name_known : (x : Name) → Contains (all_names spec) x → W x
    name_known = is_both (((((flat_map names_of_rule spec.rules ++ flat_map names_of_item spec.symbols) ++ map (λ (t : Typed1). t.name) spec.terms) ++ declared_names spec)) ++ used) (map (λ (t : Typed1). t.name) spec.chains)
        (is_both ((((flat_map names_of_rule spec.rules ++ flat_map names_of_item spec.symbols) ++ map (λ (t : Typed1). t.name) spec.terms) ++ declared_names spec)) used
        (is_both (((flat_map names_of_rule spec.rules ++ flat_map names_of_item spec.symbols) ++ map (λ (t : Typed1). t.name) spec.terms)) (declared_names spec)
        (is_both (flat_map names_of_rule spec.rules ++ flat_map names_of_item spec.symbols) (map (λ (t : Typed1). t.name) spec.terms)
        (is_both (flat_map names_of_rule spec.rules) (flat_map names_of_item spec.symbols) in_rules in_items) in_terms) declaration_known) in_used) in_chains

    -- and this of all functions
    pub function_known : ((x : Name) → W x → F x) → (x : Name) → Contains (all_functions spec) x → F x
    function_known on x m =
        let (c, there, within) = contains-flat (λ (c : Comp). flat_map functions_of_part (parts_of c)) (computations spec) x m in
        let (e, here, called) = contains-flat functions_of_part (parts_of c) x within in
        All-contains F (functions_of_part e) x (part_functions on e (part_known c e (computation_known c there) here)) called

    -- ---- lists that have an element

    pub items_about : All (λ (s : SymbolItem). 0 < length s.names) spec.symbols
    items_about i d less = (known.symbols i d less).about.some

    pub list_elements : (r : RuleItem) → Contains spec.rules r → r.list ≡ true → 0 < length r.right
    list_elements r m = (rule_known r m).some

    pub pairs_of_including : (x : ℕ × List Pair) → Contains (all_includings spec) x → 0 < length x.1
    pairs_of_including x m = let (e, there, same) = contains-pick including_of (all_leaves spec) x m in by e (leaf_of_spec e there) same
      where
        by : (e : Expr) → KnownPart W F I e → including_of e ≡ Some x → 0 < length x.1
        by (Including at pairs) k same = subst (λ (z : ℕ × List Pair). 0 < length z.1) (same_Some (at, pairs) x same) k.some
        by (Terminal y i) k same = absurd (none-some x same)
        by (Read at p a) k same = absurd (none-some x same)
        by (Constituents c) k same = absurd (none-some x same)
        by (Int at z) k same = absurd (none-some x same)
        by (Str at s) k same = absurd (none-some x same)
        by (Truth at b) k same = absurd (none-some x same)
        by (Call' f shape args) k same = absurd (none-some x same)

    pub pairs_of_constituents : (x : ℕ × Cons) → Contains (all_constituents spec) x → 0 < length x.1.pairs
    pairs_of_constituents x m = let (e, there, same) = contains-pick constituents_of (all_leaves spec) x m in by e (leaf_of_spec e there) same
      where
        by : (e : Expr) → KnownPart W F I e → constituents_of e ≡ Some x → 0 < length x.1.pairs
        by (Constituents c) k same = subst (λ (z : ℕ × Cons). 0 < length z.1.pairs) (same_Some (c.number, c) x same) k.sources.some
        by (Including at pairs) k same = absurd (none-some x same)
        by (Terminal y i) k same = absurd (none-some x same)
        by (Read at p a) k same = absurd (none-some x same)
        by (Int at z) k same = absurd (none-some x same)
        by (Str at s) k same = absurd (none-some x same)
        by (Truth at b) k same = absurd (none-some x same)
        by (Call' f shape args) k same = absurd (none-some x same)
