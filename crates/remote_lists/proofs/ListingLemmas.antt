-- What the tables tell of lists is what the definition says.
use Rattle.std.specs.Prelude.{slice_get, ◌&&◌, ◌||◌, nat_eq, find, option_map, if◌then◌else◌, filter_map, option_to_list, option_and_then, is_some, unwrap_or, map}
use Rattle.std.proofs.Common.{◌≡◌, ◌∙◌, ℕ, ◌+◌, ◌-◌, ◌<◌, Bool, true, false, List, [], length, Option, Some, None, refl, sym, ap, arith, ◌++◌, take, get_or, append-nil}
use Rattle.std.proofs.lemmas.Option.{slice_get_within, slice_get-map}
use Rattle.lido_base.specs.Environment.{Environment}
use Rattle.lido_base.specs.declared.ids.StrId.{StrId}
use Rattle.lido_base.proofs.Lists.{place-contains, place-below}
use Rattle.lido_syntax.specs.declared.spec.Name.{Name}
use Rattle.lido_syntax.specs.declared.spec.Pair.{Pair}
use Rattle.lido_syntax.specs.Production.{name_of}
use Rattle.lido_syntax.specs.Symbols.{is_nonterminal}
use Rattle.lido_syntax.specs.Sets.{Sets, stands_for}
use Rattle.lido_syntax.specs.Including.{listed}
use Rattle.symbol_attributes.specs.Inheritance.{number, is_heir}
use Rattle.rule_tables.specs.declared.table.Tables.{Tables}
use Rattle.rule_tables.specs.declared.table.SymbolRow.{SymbolRow}
use Rattle.rule_tables.specs.declared.table.SymbolClass.{SymbolClass}
use Rattle.rule_tables.specs.declared.table.SymbolClass.TheVariants as class
use Rattle.rule_tables.specs.PlainRules.{lists}
use Rattle.indexmap.specs.IndexSet.{insert_key}
use Rattle.lido_symbols.specs.Numbers.{different}
use Rattle.lido_symbols.proofs.DifferentLemmas.{different-more}
use Rattle.rule_tables.specs.TablesOf.{symbol_named, named_symbols, AreTablesOf, IsRowOf, IsSymbolClass}
use Rattle.rule_tables.specs.Needs.{Tables as Numbered, listed_at}
use Rattle.least_paths.specs.Graph.{is_in}
use Rattle.need_graphs.specs.Clear.{AreClear}
use Rattle.need_graphs.proofs.ListLemmas.{same-bool, filtered-next}
use Rattle.need_graphs.proofs.PlaceLemmas.{past}
use Rattle.need_graphs.proofs.NameLemmas.{list-rule}
use Rattle.remote_lists.proofs.OptionLemmas.{mapped-twice, mapped-some}
use Rattle.remote_lists.specs.declared.symbols.Symbols.{Symbols}
use Rattle.remote_lists.specs.Listings.{AreSymbols, is_nonterminal_class, is_cell_class, stands_in, first_by, listed_by, is_listed_by, with_name}

-- the number of a name
abbrev pub text : StrId → ℕ
text a = a.0

module _ (env : Environment) (t : Tables) (is : AreTablesOf env t) where
  abbrev names : List ℕ
  names = named_symbols t

  -- the row of a symbol
  pub row-at : (x s : ℕ) → slice_get names x ≡ Some s → (row : SymbolRow) × (slice_get t.symbols x ≡ Some row) × IsRowOf t.spec env names s row
  row-at x s e =
      let l = slice_get_within names x s e in
      let c = is.count in
      let row = place-below t.symbols x (omega (arith, l, c)) in
      (row.0, row.1, is.rows x s row.0 e row.1)

  -- behind the symbols there are cells
  pub cell-at : (x : ℕ) (row : SymbolRow) → slice_get names x ≡ None → slice_get t.symbols x ≡ Some row → row.class ≡ class.Cell
  cell-at x row e at =
      let l = past names x e in
      let w = slice_get_within t.symbols x row at in
      let c = is.count in
      let k = x - length names in
      let i = place-below (lists t.spec names) k (omega (arith, l, w, c)) in
      let r = list-rule t i.0 (place-contains (lists t.spec names) k i.0 i.1) in
      let here : length names + k ≡ x = omega (arith, l) in
      (is.cells k i.0 r.0 row i.1 r.1 (ap (slice_get t.symbols) here ∙ at)).class

  -- a symbol has no cell's row
  pub no-cell : (s : ℕ) (row : SymbolRow) → IsRowOf t.spec env names s row → is_cell_class row.class ≡ false
  no-cell s row its = by row.class its.class
    where
      by : (c : SymbolClass) → IsSymbolClass t.spec env names s c → is_cell_class c ≡ false
      by class.Nonterminal h = refl
      by (class.Terminal ty) h = refl
      by class.Class h = refl
      by class.Cell h = absurd h

  module _ (clear : AreClear t.spec) where
    -- a row tells whether its symbol is a nonterminal
    pub kind-same : (s : ℕ) (row : SymbolRow) → IsRowOf t.spec env names s row → is_nonterminal_class row.class ≡ is_nonterminal t.spec s
    kind-same s row its = by row.class its.class
      where
        by : (c : SymbolClass) → IsSymbolClass t.spec env names s c → is_nonterminal_class c ≡ is_nonterminal t.spec s
        by class.Nonterminal h = sym h
        by (class.Terminal ty) h = same-bool false (is_nonterminal t.spec s) (λ f. absurd (cc)) (λ nt. absurd (h.0 nt))
        by class.Class h = same-bool false (is_nonterminal t.spec s) (λ f. absurd (cc)) (λ nt. absurd (clear.classes s h nt))
        by class.Cell h = absurd h

    module _ (symbols : Symbols) (inherit : AreSymbols t.spec symbols) (sets : Sets t.spec) (s : ℕ) (row : SymbolRow) (its : IsRowOf t.spec env names s row) where
      pub stands-same : (x : Name) → stands_in symbols row (name_of x) ≡ stands_for t.spec sets.inherits s x
      stands-same x =
          let n = name_of x in
          let a = inherit s n in
          let b = sets.inherits_exactly s n in
          let h : is_heir symbols.inheritance (number symbols.names s) (number symbols.names n) ≡ sets.inherits s n =
          same-bool (is_heir symbols.inheritance (number symbols.names s) (number symbols.names n)) (sets.inherits s n) (λ u. b.1 (a.0 u)) (λ u. a.1 (b.0 u)) in
          let e = its.name in
          let k = kind-same s row its in
          (λ i. nat_eq n (e i) || (k i && is_heir symbols.inheritance (number symbols.names (e i)) (number symbols.names n)))
          ∙ (λ i. nat_eq n s || (is_nonterminal t.spec s && h i))

      pub listed-row : (pairs : List Pair) → option_map text (listed_by symbols pairs row) ≡ listed t.spec sets pairs s
      listed-row pairs =
          (λ i. option_map text (if no-cell s row its i then None else first_by symbols pairs row))
          ∙ mapped-twice text (λ (p : Pair). p.attr.id) (find (λ (p : Pair). stands_in symbols row (name_of p.sym)) pairs)
          ∙ (λ i. option_map (λ (p : Pair). name_of p.attr) (find (λ p. stands-same p.sym i) pairs))

  -- a cell lists nothing
  pub listed-cell : (symbols : Symbols) (pairs : List Pair) (row : SymbolRow) → row.class ≡ class.Cell → listed_by symbols pairs row ≡ None
  listed-cell symbols pairs row e = ap (λ (c : SymbolClass). if is_cell_class c then None else first_by symbols pairs row) e

-- the names of the rows, one by one
pub name-when : (row : SymbolRow) → is_cell_class row.class ≡ false → symbol_named row ≡ Some row.name.0
name-when row e = by row.class e
  where
    by : (c : SymbolClass) → is_cell_class c ≡ false → (elim c as (λ _. Option ℕ) [ class.Cell ↦ None | _ ↦ Some row.name.0 ]) ≡ Some row.name.0
    by class.Nonterminal h = refl
    by (class.Terminal ty) h = refl
    by class.Class h = refl
    by class.Cell h = absurd (cc)

pub name-none : (row : SymbolRow) → is_cell_class row.class ≡ true → symbol_named row ≡ None
name-none row e = by row.class e
  where
    by : (c : SymbolClass) → is_cell_class c ≡ true → (elim c as (λ _. Option ℕ) [ class.Cell ↦ None | _ ↦ Some row.name.0 ]) ≡ None
    by class.Nonterminal h = absurd (cc)
    by (class.Terminal ty) h = absurd (cc)
    by class.Class h = absurd (cc)
    by class.Cell h = refl

pub names-more : (rows : List SymbolRow) (i : ℕ) (d : SymbolRow) (old new : List ℕ) → i < length rows → old ≡ different (filter_map symbol_named (take i rows)) → new ≡ with_name old (symbol_named (get_or rows i d))
    → new ≡ different (filter_map symbol_named (take (i + 1) rows))
names-more rows i d old new within before after = after ∙ by (symbol_named (get_or rows i d)) (filtered-next symbol_named rows i d (symbol_named (get_or rows i d)) [] (filter_map symbol_named (take i rows)) (filter_map symbol_named (take i rows) ++ option_to_list (symbol_named (get_or rows i d))) within refl refl refl)
  where
    by : (o : Option ℕ) → filter_map symbol_named (take i rows) ++ option_to_list o ≡ filter_map symbol_named (take (i + 1) rows) → with_name old o ≡ different (filter_map symbol_named (take (i + 1) rows))
    by None e = before ∙ ap different (sym (append-nil (filter_map symbol_named (take i rows))) ∙ e)
    by (Some s) e = ap (λ l. insert_key nat_eq l s) before ∙ sym (different-more (filter_map symbol_named (take i rows)) s) ∙ ap different e

-- for whom something is listed, by number
module _ (env : Environment) (t : Tables) (is : AreTablesOf env t) (clear : AreClear t.spec) (symbols : Symbols) (inherit : AreSymbols t.spec symbols) (T : Numbered t.spec) (same : T.symbols ≡ named_symbols t) (pairs : List Pair) where
  pub listed-same : (x : ℕ) → is_in (map (is_listed_by symbols pairs) t.symbols) x ≡ is_some (listed_at t.spec T pairs x)
  listed-same x =
      ap (λ (o : Option Bool). unwrap_or o false) (slice_get-map (is_listed_by symbols pairs) t.symbols x) ∙ by (slice_get (named_symbols t) x) refl
      ∙ ap (λ (l : List ℕ). is_some (option_and_then (listed t.spec T.sets pairs) (slice_get l x))) (sym same)
    where
      none : slice_get (named_symbols t) x ≡ None → (o : Option SymbolRow) → slice_get t.symbols x ≡ o → unwrap_or (option_map (is_listed_by symbols pairs) o) false ≡ false
      none e None f = refl
      none e (Some row) f = ap (λ (o : Option StrId). is_some o) (listed-cell env t is symbols pairs row (cell-at env t is x row e f))

      by : (o : Option ℕ) → slice_get (named_symbols t) x ≡ o
          → unwrap_or (option_map (is_listed_by symbols pairs) (slice_get t.symbols x)) false ≡ is_some (option_and_then (listed t.spec T.sets pairs) (slice_get (named_symbols t) x))
      by None e = none e (slice_get t.symbols x) refl ∙ sym (ap (λ (o : Option ℕ). is_some (option_and_then (listed t.spec T.sets pairs) o)) e)
      by (Some s) e =
          let (row, at, its) = row-at env t is x s e in
          ap (λ (o : Option SymbolRow). unwrap_or (option_map (is_listed_by symbols pairs) o) false) at ∙ mapped-some text (listed_by symbols pairs row)
          ∙ ap (λ (o : Option ℕ). is_some o) (listed-row env t is clear symbols inherit T.sets s row its pairs)
          ∙ sym (ap (λ (o : Option ℕ). is_some (option_and_then (listed t.spec T.sets pairs) o)) e)
