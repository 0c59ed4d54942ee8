-- What a remote list lists, by symbol number, is what the definition says.
use Rattle.std.specs.Prelude.{Contains, IsTrue, slice_get, ◌&&◌, ◌||◌, map, flat_map, find, nat_eq, nat_lt, position, if◌then◌else◌, option_map, option_and_then, is_some, unwrap_or}
use Rattle.std.proofs.Common.{◌≡◌, ◌∙◌, ℕ, suc, ◌<◌, ◌≤◌, inl, inr, Bool, true, false, List, [], ◌∷◌, length, Option, Some, None, refl, sym, ap, subst, arith, eqb-true, eq-eqb}
use Rattle.std.proofs.lemmas.Bool.Decides.{nat_tests}
use Rattle.std.proofs.lemmas.List.Elements.{All-contains, Contains-append_cases}
use Rattle.std.proofs.lemmas.Option.{none-some, same_Some, slice_get_within, slice_get-map}
use Rattle.lido_base.specs.Environment.{Environment}
use Rattle.lido_base.specs.declared.ids.AttrId.{AttrId}
use Rattle.lido_base.specs.declared.ids.StrId.{StrId}
use Rattle.lido_base.proofs.Lists.{contains-nil, contains-cons, contains-here, contains-later, contains-flat, map-contains, place-contains, place-below}
use Rattle.lido_base.proofs.TreeLemmas.{both, test-contains}
use Rattle.lido_syntax.specs.declared.spec.Spec.{Spec}
use Rattle.lido_syntax.specs.declared.spec.Comp.{Comp}
use Rattle.lido_syntax.specs.declared.spec.Expr.{Expr}
use Rattle.lido_syntax.specs.declared.spec.Pair.{Pair}
use Rattle.lido_syntax.specs.declared.spec.Place.TheVariants as place
use Rattle.lido_syntax.specs.declared.spec.RuleItem.{RuleItem}
use Rattle.lido_syntax.specs.declared.spec.SymbolItem.{SymbolItem}
use Rattle.lido_syntax.specs.Parts.{leaves_of}
use Rattle.lido_syntax.specs.Production.{name_of}
use Rattle.lido_syntax.specs.Symbols.{is_nonterminal, IsChain}
use Rattle.lido_syntax.specs.Sets.{Sets, stands_for, names_of}
use Rattle.lido_syntax.specs.Including.{listed}
use Rattle.lido_syntax.specs.Attributes.{Has, InText, IsNamed, IsUse, Use, use_of_pair, uses_of_part}
use Rattle.lido_symbols.specs.FromText.{IsFromText}
use Rattle.lido_symbols.specs.Numbers.{place_in}
use Rattle.lido_symbols.specs.Uses.{computations}
use Rattle.lido_symbols.proofs.PlacesLemmas.{place_found, place_missed}
use Rattle.flat_grammar.specs.declared.flat.FlatAttr.{FlatAttr}
use Rattle.symbol_attributes.proofs.UsesLemmas.{of-leaf}
use Rattle.least_paths.specs.Graph.{is_in}
use Rattle.rule_tables.specs.declared.table.Tables.{Tables as Rows}
use Rattle.rule_tables.specs.declared.table.SymbolRow.{SymbolRow}
use Rattle.rule_tables.specs.declared.forced.Forced.{Forced}
use Rattle.rule_tables.specs.ForcedOf.{AreForcedOf, AreNumbersOf, IsAttributeAt}
use Rattle.rule_tables.specs.Needs.{Tables as Numbered, listed_at}
use Rattle.rule_tables.specs.TablesOf.{named_symbols, IsRowOf}
use Rattle.need_graphs.specs.Clear.{AreClear}
use Rattle.need_graphs.proofs.ListLemmas.{or-cases}
use Rattle.remote_lists.specs.declared.symbols.Symbols.{Symbols}
use Rattle.remote_lists.specs.Listings.{AreSymbols, listed_by}
use Rattle.remote_lists.specs.Sources.{id_at, id_of, source_by, is_source, source_of}
use Rattle.remote_lists.proofs.ListingLemmas.{text, row-at, cell-at, listed-row, listed-cell}

-- the pairs of a remote list of the text, of which none names a chain
pub record IsOfText (spec : Spec) (pairs : List Pair) : Type 0 where
  pub comp : Comp
  pub leaf : Expr
  pub of_text : Contains (computations spec) comp
  pub in_comp : Contains (leaves_of comp) leaf
  pub names : uses_of_part leaf ≡ map use_of_pair pairs
  pub chains : (p : Pair) → Contains pairs p → ¬ IsChain spec (name_of p.attr)

-- a computation of the text
pub in-text : (spec : Spec) → IsFromText spec → (c : Comp) → Contains (computations spec) c → InText spec c
in-text spec from c m = elim (Contains-append_cases (flat_map (λ (r : RuleItem). r.body) spec.rules) (flat_map (λ (item : SymbolItem). item.body) spec.symbols) c m) [
  | inl h ↦ inl (contains-flat (λ (r : RuleItem). r.body) spec.rules c h)
  | inr h ↦ (let (item, among, here) = contains-flat (λ (item : SymbolItem). item.body) spec.symbols c h in
      let (x, first) = place-below item.names 0 (All-contains (λ (item : SymbolItem). 0 < length item.names) spec.symbols item from.about among) in
      let s = name_of x in
      inr (s, (item, among, test-contains s (names_of item) (map-contains name_of item.names x (place-contains item.names 0 x first)), here)))
]

-- of the pairs one that stands for the symbol lists the attribute
pub listing-pair : (spec : Spec) (sets : Sets spec) (pairs : List Pair) (s a : ℕ) → listed spec sets pairs s ≡ Some a → (p : Pair) × Contains pairs p × IsTrue (stands_for spec sets.inherits s p.sym) × (name_of p.attr ≡ a)
listing-pair spec sets [] s a e = absurd (none-some _ e)
listing-pair spec sets (p ∷ ps) s a e = by (stands_for spec sets.inherits s p.sym) refl e (listing-pair spec sets ps s a)
  where
    by : (b : Bool) → stands_for spec sets.inherits s p.sym ≡ b → option_map (λ (p : Pair). name_of p.attr) (if b then Some p else find (λ p. stands_for spec sets.inherits s p.sym) ps) ≡ Some a
        → (listed spec sets ps s ≡ Some a → (q : Pair) × Contains ps q × IsTrue (stands_for spec sets.inherits s q.sym) × (name_of q.attr ≡ a))
        → (q : Pair) × Contains (p ∷ ps) q × IsTrue (stands_for spec sets.inherits s q.sym) × (name_of q.attr ≡ a)
    by true h e more = (p, contains-here p ps, h, same_Some _ _ e)
    by false h e more = let (q, among, is, same) = more e in (q, contains-later p q ps among, is, same)

module _ (spec : Spec) (from : IsFromText spec) (sets : Sets spec) (pairs : List Pair) (its : IsOfText spec pairs) where
  -- what is listed is an attribute of the symbol
  pub has-listed : (s a : ℕ) → listed spec sets pairs s ≡ Some a → Has spec s a
  has-listed s a e =
      let (p, of, stands, same) = listing-pair spec sets pairs s a e in
      let no_chain : ¬ IsChain spec a = subst (λ z. ¬ IsChain spec z) same (its.chains p of) in
      let here : Contains (uses_of_part its.leaf) (use_of_pair p) = subst (λ (us : List Use). Contains us (use_of_pair p)) (sym its.names) (map-contains use_of_pair pairs p of) in
      let used : IsUse spec its.comp (place.Named p.sym None) a = (p.attr, of-leaf its.comp its.leaf (use_of_pair p) its.in_comp here, same, no_chain) in
      let there : IsNamed spec (name_of p.sym) a = IsNamed.by_name its.comp p.sym None (in-text spec from its.comp its.of_text) used refl in
      elim (or-cases (nat_eq (name_of p.sym) s) (is_nonterminal spec s && sets.inherits s (name_of p.sym)) stands) [
        | inl h ↦ inl (subst (λ z. IsNamed spec z a) (eqb-true (name_of p.sym) s h) there)
        | inr h ↦ inr (name_of p.sym, (sets.inherits_exactly s (name_of p.sym)).0 ((both (is_nonterminal spec s) (sets.inherits s (name_of p.sym)) h).1), there)
      ]

-- the first place at which a test passes
place-there : {X : Type 0} (p : X → Bool) (xs : List X) (x : X) → Contains xs x → p x ≡ true → (y : X) × (slice_get xs (place_in p xs) ≡ Some y) × (p y ≡ true)
place-there p [] x m h = absurd (contains-nil x m)
place-there {X} p (z ∷ xs) x m h = by (p z) refl (λ k. place-there p xs x k h)
  where
    by : (b : Bool) → p z ≡ b → (Contains xs x → (y : X) × (slice_get xs (place_in p xs) ≡ Some y) × (p y ≡ true)) → (y : X) × (slice_get (z ∷ xs) (if b then 0 else suc (place_in p xs)) ≡ Some y) × (p y ≡ true)
    by true e more = (z, refl, e)
    by false e more = elim (contains-cons z x xs m) [
      | inl same ↦ (let wrong : true ≡ false = sym h ∙ ap p (sym same) ∙ e in absurd (cc))
      | inr k ↦ more k
    ]

-- the attribute of that name has a number
id-there : (row : SymbolRow) (a : ℕ) (x : FlatAttr) → Contains row.attrs x → x.name.0 ≡ a → length row.attrs ≤ 65536 → (id : AttrId) × (id_of row a ≡ Some id) × (y : FlatAttr) × (slice_get row.attrs id.0 ≡ Some y) × (y.name.0 ≡ a)
id-there row a x m e few = by (position test row.attrs) refl
  where
    test : FlatAttr → Bool
    test y = nat_eq y.name.0 a

    found : (y : FlatAttr) × (slice_get row.attrs (place_in (λ (y : FlatAttr). nat_eq y.name.0 a) row.attrs) ≡ Some y) × (nat_eq y.name.0 a ≡ true)
    found = place-there (λ (y : FlatAttr). nat_eq y.name.0 a) row.attrs x m (eq-eqb x.name.0 a e)

    by : (o : Option ℕ) → position (λ (y : FlatAttr). nat_eq y.name.0 a) row.attrs ≡ o → (id : AttrId) × (id_of row a ≡ Some id) × (y : FlatAttr) × (slice_get row.attrs id.0 ≡ Some y) × (y.name.0 ≡ a)
    by None p = let missed = place_missed (λ (y : FlatAttr). nat_eq y.name.0 a) row.attrs p in let within = slice_get_within row.attrs _ found.0 found.1 in absurd (omega (arith, missed, within))
    by (Some k) p =
        let same = place_found (λ (y : FlatAttr). nat_eq y.name.0 a) row.attrs k p in
        let at : slice_get row.attrs k ≡ Some found.0 = ap (slice_get row.attrs) same ∙ found.1 in
        let within = slice_get_within row.attrs k found.0 at in
        let small : nat_lt k 65536 ≡ true = grind (arith, nat_tests) in
        (record { 0 = k }, ap id_at p ∙ ap (λ b. if b then Some (record { 0 = k }) else None) small, found.0, at, eqb-true found.0.name.0 a found.2)

-- the attribute that is listed, as the tables number it
abbrev pub IsSourceAt : Rows → ℕ → Option AttrId → Option ℕ → Type 0
IsSourceAt t x None None = Unit {0}
IsSourceAt t x (Some id) (Some a) = IsAttributeAt t x id a
IsSourceAt t x _ _ = ⊥

pub some-same : (t : Rows) (x : ℕ) (o : Option AttrId) (q : Option ℕ) → IsSourceAt t x o q → is_some o ≡ is_some q
some-same t x None None h = refl
some-same t x (Some id) (Some a) h = refl
some-same t x None (Some a) h = absurd h
some-same t x (Some id) None h = absurd h

module _ (env : Environment) (forced : Forced) (are : AreForcedOf env forced) (T : Numbered forced.tables.spec) (numbers : AreNumbersOf env forced T) (clear : AreClear forced.tables.spec) (from : IsFromText forced.tables.spec)
    (few : (row : SymbolRow) → Contains forced.tables.symbols row → length row.attrs ≤ 65536) (symbols : Symbols) (inherit : AreSymbols forced.tables.spec symbols) (pairs : List Pair) (remote : IsOfText forced.tables.spec pairs) where
  abbrev t : Rows
  t = forced.tables

  abbrev spec : Spec
  spec = t.spec

  abbrev names : List ℕ
  names = named_symbols t

  pub source-row : (x s : ℕ) (row : SymbolRow) → slice_get t.symbols x ≡ Some row → IsRowOf spec env names s row → IsSourceAt t x (source_by symbols pairs row) (listed spec T.sets pairs s)
  source-row x s row at its = by (listed_by symbols pairs row) refl
    where
      told : option_map text (listed_by symbols pairs row) ≡ listed spec T.sets pairs s
      told = listed-row env t are.tables clear symbols inherit T.sets s row its pairs

      by : (o : Option StrId) → listed_by symbols pairs row ≡ o → IsSourceAt t x (source_by symbols pairs row) (listed spec T.sets pairs s)
      by None e =
          let none : None ≡ listed spec T.sets pairs s = sym (ap (option_map text) e) ∙ told in
          let source : None ≡ source_by symbols pairs row = sym (ap (λ (o : Option StrId). elim o as (λ _. Option AttrId) [ None ↦ None | Some a ↦ id_of row a.0 ]) e) in
          subst (λ o. IsSourceAt t x (source_by symbols pairs row) o) none (subst (λ o. IsSourceAt t x o None) source tt)
      by (Some a) e =
          let some : Some a.0 ≡ listed spec T.sets pairs s = sym (ap (option_map text) e) ∙ told in
          let (attr, among, name) = its.attrs.all a.0 (has-listed spec from T.sets pairs remote s a.0 (sym some)) in
          let (id, is, y, there, same) = id-there row a.0 attr among name (few row (place-contains t.symbols x row at)) in
          let source : Some id ≡ source_by symbols pairs row = sym (ap (λ (o : Option StrId). elim o as (λ _. Option AttrId) [ None ↦ None | Some a ↦ id_of row a.0 ]) e ∙ is) in
          subst (λ o. IsSourceAt t x (source_by symbols pairs row) o) some (subst (λ o. IsSourceAt t x o (Some a.0)) source (row, y, at, there, same))

  no-source : (x : ℕ) → slice_get names x ≡ None → (o : Option SymbolRow) → slice_get t.symbols x ≡ o → unwrap_or (option_map (source_by symbols pairs) o) None ≡ None
  no-source x none None e = refl
  no-source x none (Some row) e = ap (λ (o : Option StrId). elim o as (λ _. Option AttrId) [ None ↦ None | Some a ↦ id_of row a.0 ]) (listed-cell env t are.tables symbols pairs row (cell-at env t are.tables x row none e))

  listed-named : (x : ℕ) → option_and_then (listed spec T.sets pairs) (slice_get names x) ≡ listed_at spec T pairs x
  listed-named x = ap (λ l. option_and_then (listed spec T.sets pairs) (slice_get l x)) (sym numbers.symbols)

  -- by number
  pub number-source : (x : ℕ) → IsSourceAt t x (unwrap_or (option_map (source_by symbols pairs) (slice_get t.symbols x)) None) (listed_at spec T pairs x)
  number-source x = subst (λ o. IsSourceAt t x (unwrap_or (option_map (source_by symbols pairs) (slice_get t.symbols x)) None) o) (listed-named x) (by (slice_get names x) refl)
    where
      by : (o : Option ℕ) → slice_get names x ≡ o → IsSourceAt t x (unwrap_or (option_map (source_by symbols pairs) (slice_get t.symbols x)) None) (option_and_then (listed spec T.sets pairs) (slice_get names x))
      by None e = subst (λ o. IsSourceAt t x (unwrap_or (option_map (source_by symbols pairs) (slice_get t.symbols x)) None) (option_and_then (listed spec T.sets pairs) o)) (sym e)
          (subst (λ o. IsSourceAt t x o None) (sym (no-source x e (slice_get t.symbols x) refl)) tt)
      by (Some s) e =
          let (row, at, its) = row-at env t are.tables x s e in
          subst (λ o. IsSourceAt t x (unwrap_or (option_map (source_by symbols pairs) (slice_get t.symbols x)) None) (option_and_then (listed spec T.sets pairs) o)) (sym e)
          (subst (λ o. IsSourceAt t x (unwrap_or (option_map (source_by symbols pairs) o) None) (listed spec T.sets pairs s)) (sym at) (source-row x s row at its))

  module _ (sources : List (Option AttrId)) (made : sources ≡ map (source_by symbols pairs) t.symbols) where
    source-row-in : (x : ℕ) → source_of sources x ≡ unwrap_or (option_map (source_by symbols pairs) (slice_get t.symbols x)) None
    source-row-in x = ap (λ (l : List (Option AttrId)). unwrap_or (slice_get l x) None) made ∙ ap (λ (o : Option (Option AttrId)). unwrap_or o None) (slice_get-map (source_by symbols pairs) t.symbols x)

    pub source-at : (x : ℕ) → IsSourceAt t x (source_of sources x) (listed_at spec T pairs x)
    source-at x = subst (λ o. IsSourceAt t x o (listed_at spec T pairs x)) (sym (source-row-in x)) (number-source x)

    -- for whom something is listed
    pub sources-same : (x : ℕ) → is_in (map is_source sources) x ≡ is_some (listed_at spec T pairs x)
    sources-same x = first (slice_get sources x) (slice_get-map is_source sources x) ∙ some-same t x (source_of sources x) (listed_at spec T pairs x) (source-at x)
      where
        first : (o : Option (Option AttrId)) → slice_get (map is_source sources) x ≡ option_map is_source o → unwrap_or (slice_get (map is_source sources) x) false ≡ is_some (unwrap_or o None)
        first None e = ap (λ (b : Option Bool). unwrap_or b false) e
        first (Some o) e = ap (λ (b : Option Bool). unwrap_or b false) e
