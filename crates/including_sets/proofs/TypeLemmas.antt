-- The type of a set is that of the attributes that it lists.
use Rattle.std.specs.Prelude.{IsTrue, Contains, slice_get, map, flat_map, find, option_map, option_and_then, nat_eq, not, unwrap_or}
use Rattle.std.proofs.Common.{◌≡◌, ◌∙◌, ℕ, ◌<◌, ◌⊎◌, inl, inr, Bool, true, false, if◌then◌else◌, List, [], ◌∷◌, ◌++◌, length, Option, Some, None, refl, sym, ap, subst, arith, eqb-true, eq-eqb}
use Rattle.std.proofs.lemmas.List.Elements.{All-contains, Contains-append_left, Contains-append_right, Contains-append_cases}
use Rattle.std.proofs.lemmas.Option.{none-some, same_Some}
use Rattle.lido_base.specs.Environment.{Environment}
use Rattle.lido_base.specs.declared.ids.StrId.{StrId}
use Rattle.lido_base.specs.declared.value.ValueType.{ValueType}
use Rattle.lido_base.specs.declared.value.ValueType.TheVariants as type
use Rattle.lido_base.proofs.Lists.{contains-here, map-contains, contains-flat, flat-contains, contains-place, place-contains}
use Rattle.lido_base.proofs.TreeLemmas.{both}
use Rattle.lido_syntax.specs.declared.spec.Spec.{Spec}
use Rattle.lido_syntax.specs.declared.spec.Name.{Name}
use Rattle.lido_syntax.specs.declared.spec.Pair.{Pair}
use Rattle.lido_syntax.specs.declared.spec.Comp.{Comp}
use Rattle.lido_syntax.specs.declared.spec.Typed1.{Typed1}
use Rattle.lido_syntax.specs.declared.spec.RuleItem.{RuleItem}
use Rattle.lido_syntax.specs.declared.spec.SymbolItem.{SymbolItem}
use Rattle.lido_syntax.specs.declared.spec.Place.TheVariants as place
use Rattle.lido_syntax.specs.declared.spec.Expr.{Expr, Including}
use Rattle.lido_syntax.specs.Parts.{leaves_of}
use Rattle.lido_syntax.specs.Production.{name_of}
use Rattle.lido_syntax.specs.Symbols.{IsNonterminal}
use Rattle.lido_syntax.specs.Including.{listed}
use Rattle.lido_syntax.specs.Attributes.{Has, HasType, IsNamed, IsUse, use_of_pair}
use Rattle.lido_symbols.specs.FromText.{IsFromText}
use Rattle.lido_symbols.specs.Uses.{computations, all_leaves, all_includings, including_of, production_names, symbols_in, symbols_of_target, symbols_of_computation, symbols_of_rule, symbols_of_item, is_coordinate_of_rule, is_coordinate_of_symbol, with_place}
use Rattle.flat_grammar.specs.declared.flat.FlatAttr.{FlatAttr}
use Rattle.symbol_attributes.specs.Written.{IsWrittenAttribute}
use Rattle.symbol_attributes.proofs.UsesLemmas.{of-leaf}
use Rattle.rule_tables.specs.declared.table.Tables.{Tables as Rows}
use Rattle.rule_tables.specs.declared.table.SymbolRow.{SymbolRow}
use Rattle.rule_tables.specs.Flat.{IsListedType, IsEmptySet, IsFirstType}
use Rattle.rule_tables.specs.Needs.{Tables as Numbered}
use Rattle.rule_tables.specs.TablesOf.{named_symbols, AreTablesOf, IsRowOf}
use Rattle.need_graphs.specs.Clear.{AreClear}
use Rattle.need_graphs.proofs.ListLemmas.{contains-filtered}
use Rattle.remote_lists.specs.declared.symbols.Symbols.{Symbols}
use Rattle.remote_lists.specs.Listings.{AreSymbols, is_nonterminal_class, is_cell_class, listed_by}
use Rattle.remote_lists.proofs.ListingLemmas.{text, row-at, cell-at, no-cell, kind-same, listed-row}
use Rattle.remote_lists.proofs.SourceLemmas.{IsOfText, in-text, has-listed}
use Rattle.including_sets.specs.Named.{AreNamed}
use Rattle.including_sets.specs.Types.{type_in, type_of, type_by, is_called, class_type, first_type, HasNoType, IsTypeFound, IsSetType}
use Rattle.including_sets.proofs.SameLemmas.{both-and, find-of, find-there}
use Rattle.including_sets.proofs.KeyLemmas.{nonterminal-row, symbol-of}

abbrev is_attr : ℕ → FlatAttr → Bool
is_attr a x = nat_eq x.name.0 a

type-there : (row : SymbolRow) (a : ℕ) (x : FlatAttr) → Contains row.attrs x → x.name.0 ≡ a → (y : FlatAttr) × (type_in row a ≡ Some y.ty)
type-there row a x m e =
    let (y, f) = find-there (is_attr a) row.attrs x m (eq-eqb x.name.0 a e) in
    (y, ap (option_map (λ (z : FlatAttr). z.ty)) f)

of-type : (row : SymbolRow) (a : ℕ) (ty : ValueType) → type_in row a ≡ Some ty → (y : FlatAttr) × Contains row.attrs y × (y.name.0 ≡ a) × (y.ty ≡ ty)
of-type row a ty e = by (find (is_attr a) row.attrs) refl e
  where
    by : (o : Option FlatAttr) → find (is_attr a) row.attrs ≡ o → option_map (λ (z : FlatAttr). z.ty) o ≡ Some ty → (y : FlatAttr) × Contains row.attrs y × (y.name.0 ≡ a) × (y.ty ≡ ty)
    by None f h = absurd (none-some ty h)
    by (Some y) f h = let (m, t) = find-of (is_attr a) row.attrs y f in (y, m, eqb-true y.name.0 a t, same_Some _ _ h)

some-text : (o : Option StrId) (a : ℕ) → option_map text o ≡ Some a → (b : StrId) × (o ≡ Some b) × (b.0 ≡ a)
some-text None a e = absurd (none-some _ e)
some-text (Some b) a e = (b, refl, same_Some _ _ e)

is-including : (e : Expr) (at : ℕ) (pairs : List Pair) → including_of e ≡ Some (at, pairs) → e ≡ Including at pairs
is-including (Including b qs) at pairs e = ap (λ (z : ℕ × List Pair). Including z.0 z.1) (same_Some _ _ e)
is-including _ at pairs e = absurd (none-some _ e)

-- where it stands
pub including-in : (spec : Spec) (at : ℕ) (pairs : List Pair) → Contains (all_includings spec) (at, pairs) → (c : Comp) × Contains (computations spec) c × Contains (leaves_of c) (Including at pairs)
including-in spec at pairs m =
    let (e, me, made) = contains-filtered including_of (all_leaves spec) (at, pairs) m in
    let (c, mc, here) = contains-flat leaves_of (computations spec) e me in
    (c, mc, subst (λ z. Contains (leaves_of c) z) (is-including e at pairs made) here)

-- its pairs as those of a remote list of the text
pub of-text : (spec : Spec) → AreNamed spec → (at : ℕ) (pairs : List Pair) → Contains (all_includings spec) (at, pairs) → IsOfText spec pairs
of-text spec sound at pairs m =
    let (c, mc, leaf) = including-in spec at pairs m in
    record { comp = c; leaf = Including at pairs; of_text = mc; in_comp = leaf; names = refl; chains = λ p mp. sound.chains (at, pairs) p m mp }

module _ (env : Environment) (t : Rows) (is : AreTablesOf env t) (clear : AreClear t.spec) (from : IsFromText t.spec) (sound : AreNamed t.spec) (T : Numbered t.spec) (symbols : Symbols) (inherit : AreSymbols t.spec symbols)
    (at : ℕ) (pairs : List Pair) (in_all : Contains (all_includings t.spec) (at, pairs)) where
  abbrev spec : Spec
  spec = t.spec

  abbrev names : List ℕ
  names = named_symbols t

  abbrev rows : List SymbolRow
  rows = t.symbols

  remote : IsOfText spec pairs
  remote = of-text spec sound at pairs in_all

  row-type : (s : ℕ) (row : SymbolRow) → IsRowOf spec env names s row → (a : ℕ) (ty : ValueType) → type_in row a ≡ Some ty → HasType spec s a ty
  row-type s row its a ty e =
      let (y, m, n, same) = of-type row a ty e in
      subst (λ z. HasType spec s z ty) n (subst (λ z. HasType spec s y.name.0 z) same (All-contains (IsWrittenAttribute spec s) row.attrs y its.attrs.each m).ty)

  found-type : (ty : ValueType) → IsTypeFound symbols pairs rows ty → (s : ℕ) × (a : ℕ) × IsNonterminal spec s × (listed spec T.sets pairs s ≡ Some a) × HasType spec s a ty
  found-type ty (row, m, e) = let (x, place) = contains-place rows row m in by row x place (is_nonterminal_class row.class) refl e
    where
      by : (row : SymbolRow) (x : ℕ) → slice_get rows x ≡ Some row → (b : Bool) → is_nonterminal_class row.class ≡ b
          → (if b then type_of row (listed_by symbols pairs row) else None) ≡ Some ty
          → (s : ℕ) × (a : ℕ) × IsNonterminal spec s × (listed spec T.sets pairs s ≡ Some a) × HasType spec s a ty
      by row x place false nt h = absurd (none-some ty h)
      by row x place true nt h = let (s, its) = symbol-of env t is clear x row place nt in told s its (listed_by symbols pairs row) refl h
        where
          told : (s : ℕ) → IsRowOf spec env names s row → (o : Option StrId) → listed_by symbols pairs row ≡ o → type_of row o ≡ Some ty
              → (s : ℕ) × (a : ℕ) × IsNonterminal spec s × (listed spec T.sets pairs s ≡ Some a) × HasType spec s a ty
          told s its None f h = absurd (none-some ty h)
          told s its (Some a) f h = (
            s,
            a.0,
            sym (kind-same env t is clear s row its) ∙ nt,
            sym (listed-row env t is clear symbols inherit T.sets s row its pairs) ∙ ap (option_map text) f,
            row-type s row its a.0 ty h,
          )

  none-listed : HasNoType symbols pairs rows → (s a : ℕ) → IsNonterminal spec s → listed spec T.sets pairs s ≡ Some a → ⊥
  none-listed none s a nt e =
      let (x, row, place, its) = nonterminal-row env t is clear s nt in
      let (b, gets, same) = some-text (listed_by symbols pairs row) a (listed-row env t is clear symbols inherit T.sets s row its pairs ∙ e) in
      let (attr, among, name) = its.attrs.all a (has-listed spec from T.sets pairs remote s a e) in
      let (y, f) = type-there row a attr among name in
      let some : type_by symbols pairs row ≡ Some y.ty =
      ap (λ c. if c then type_of row (listed_by symbols pairs row) else None) (kind-same env t is clear s row its ∙ nt)
      ∙ ap (type_of row) gets ∙ ap (type_in row) same ∙ f in
      none-some y.ty (sym (none row (place-contains rows x row place)) ∙ some)

  pub listed-type : (ty : ValueType) → IsSetType symbols pairs rows ty → (other : ValueType) → IsListedType spec T pairs other → IsListedType spec T pairs ty
  listed-type ty (inl f) other h s a nt e =
      let (q, b, n, l, its) = found-type ty f in
      subst (λ z. HasType spec s a z) (sound.types q b other ty (h q b n l) its) (h s a nt e)
  listed-type ty (inr p) other h s a nt e = absurd (none-listed p.0 s a nt e)

  -- the symbols of the pairs are numbered
  abbrev of_rules : List Name
  of_rules = flat_map (symbols_of_rule spec env) spec.rules

  abbrev of_items : List Name
  of_items = flat_map (symbols_of_item spec env) spec.symbols

  abbrev of_terms : List Name
  of_terms = map (λ (y : Typed1). y.name) spec.terms

  numbered : (x : Name) → Contains (of_rules ++ of_items ++ of_terms) x → Contains names (name_of x)
  numbered x m =
      let (l, ml, e) = is.numbers.all x.at (name_of x) (map-contains with_place (of_rules ++ of_items ++ of_terms) x m) in
      subst (λ z. Contains names z) (sym (eqb-true (name_of x) l e)) ml

  pair-named : (p : Pair) → Contains pairs p → Contains names (name_of p.sym)
  pair-named p mp =
      let (c, mc, leaf) = including-in spec at pairs in_all in
      by c leaf (Contains-append_cases (flat_map (λ (r : RuleItem). r.body) spec.rules) (flat_map (λ (item : SymbolItem). item.body) spec.symbols) c mc)
    where
      by : (c : Comp) → Contains (leaves_of c) (Including at pairs) → Contains (flat_map (λ (r : RuleItem). r.body) spec.rules) c ⊎ Contains (flat_map (λ (item : SymbolItem). item.body) spec.symbols) c → Contains names (name_of p.sym)
      by c leaf (inl h) =
          let (r, mr, here) = contains-flat (λ (r : RuleItem). r.body) spec.rules c h in
          let test = is_coordinate_of_rule env r in
          let in_comp : Contains (symbols_of_computation test c) p.sym = Contains-append_right (symbols_of_target c.target) (flat_map (symbols_in test) (leaves_of c)) p.sym
          (flat-contains (symbols_in test) (leaves_of c) (Including at pairs) p.sym leaf (map-contains (λ (p : Pair). p.sym) pairs p mp)) in
          let in_rule : Contains (symbols_of_rule spec env r) p.sym = Contains-append_right (production_names r) (flat_map (symbols_of_computation test) r.body) p.sym
          (flat-contains (symbols_of_computation test) r.body c p.sym here in_comp) in
          numbered p.sym (Contains-append_left (of_rules ++ of_items) of_terms p.sym (Contains-append_left of_rules of_items p.sym (flat-contains (symbols_of_rule spec env) spec.rules r p.sym mr in_rule)))
      by c leaf (inr h) =
          let (item, mi, here) = contains-flat (λ (item : SymbolItem). item.body) spec.symbols c h in
          let test = is_coordinate_of_symbol env in
          let in_comp : Contains (symbols_of_computation test c) p.sym = Contains-append_right (symbols_of_target c.target) (flat_map (symbols_in test) (leaves_of c)) p.sym
          (flat-contains (symbols_in test) (leaves_of c) (Including at pairs) p.sym leaf (map-contains (λ (p : Pair). p.sym) pairs p mp)) in
          let in_item : Contains (symbols_of_item spec env item) p.sym = Contains-append_right (item.names ++ item.inherits) (flat_map (symbols_of_computation test) item.body) p.sym
          (flat-contains (symbols_of_computation test) item.body c p.sym here in_comp) in
          numbered p.sym (Contains-append_left (of_rules ++ of_items) of_terms p.sym (Contains-append_right of_rules of_items p.sym (flat-contains (symbols_of_item spec env) spec.symbols item p.sym mi in_item)))

  -- the row that is found by a name is that of the symbol
  found-row : (s : ℕ) (row : SymbolRow) → find (is_called s) rows ≡ Some row → IsRowOf spec env names s row
  found-row s row f =
      let (m, c) = find-of (is_called s) rows row f in
      let (not_cell, name) = both (not (is_cell_class row.class)) (nat_eq row.name.0 s) c in
      let (x, at_row) = contains-place rows row m in
      by x at_row not_cell (eqb-true row.name.0 s name) (slice_get names x) refl
    where
      by : (x : ℕ) → slice_get rows x ≡ Some row → IsTrue (not (is_cell_class row.class)) → row.name.0 ≡ s → (o : Option ℕ) → slice_get names x ≡ o → IsRowOf spec env names s row
      by x at_row not_cell name None e = let wrong : false ≡ true = sym (ap (λ c. not (is_cell_class c)) (cell-at env t is x row e at_row)) ∙ not_cell in absurd (cc)
      by x at_row not_cell name (Some q) e = let its = is.rows x q row e at_row in subst (λ z. IsRowOf spec env names z row) (sym its.name ∙ name) its

  class-typed : (p : Pair) → Contains pairs p → (ty : ValueType) × (class_type rows p ≡ Some ty) × HasType spec (name_of p.sym) (name_of p.attr) ty
  class-typed p mp =
      let s = name_of p.sym in
      let a = name_of p.attr in
      let (x, numbered_at) = contains-place names s (pair-named p mp) in
      let (first, first_at, first_its) = row-at env t is x s numbered_at in
      let called : IsTrue (is_called s first) = both-and (not (is_cell_class first.class)) (nat_eq first.name.0 s) (ap not (no-cell env t is s first first_its)) (eq-eqb first.name.0 s first_its.name) in
      let (row, f) = find-there (is_called s) rows first (place-contains rows x first first_at) called in
      let its = found-row s row f in
      let (c, mc, leaf) = including-in spec at pairs in_all in
      let used : IsUse spec c (place.Named p.sym None) a = (p.attr, of-leaf c (Including at pairs) (use_of_pair p) leaf (map-contains use_of_pair pairs p mp), refl, sound.chains (at, pairs) p in_all mp) in
      let there : IsNamed spec s a = IsNamed.by_name c p.sym None (in-text spec from c mc) used refl in
      let has : Has spec s a = inl there in
      let (attr, among, name) = its.attrs.all a has in
      let (y, g) = type-there row a attr among name in
      (y.ty, ap (option_and_then (λ (row : SymbolRow). type_in row (name_of p.attr))) f ∙ g, row-type s row its a y.ty g)

  first-typed : (ps : List Pair) → ps ≡ pairs → 0 < length ps → (ty : ValueType) → IsSetType symbols pairs rows ty → IsEmptySet spec T pairs → IsFirstType spec T ps ty
  first-typed [] same some ty h empty = absurd (omega (arith, some))
  first-typed (p ∷ ps) same some ty (inl f) empty = let (s, a, nt, l, its) = found-type ty f in absurd (none-some a (sym (empty s nt) ∙ l))
  first-typed (p ∷ ps) same some ty (inr (none, e)) empty =
      let (other, is_type, its) = class-typed p (subst (λ z. Contains z p) same (contains-here p ps)) in
      let is : ty ≡ other = e ∙ ap (first_type rows) (sym same) ∙ ap (λ o. unwrap_or o type.Void) is_type in
      subst (λ z. HasType spec (name_of p.sym) (name_of p.attr) z) (sym is) its

  pub class-type : (ty : ValueType) → IsSetType symbols pairs rows ty → IsEmptySet spec T pairs → IsFirstType spec T pairs ty
  class-type ty h empty = first-typed pairs refl (All-contains (λ (x : ℕ × List Pair). 0 < length x.1) (all_includings spec) (at, pairs) from.including_pairs in_all) ty h empty
