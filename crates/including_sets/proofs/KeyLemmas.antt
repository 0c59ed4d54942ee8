-- INCLUDINGs that list the same for each nonterminal by the tables are one set by the definition.
use Rattle.std.specs.Prelude.{IsTrue, Contains, slice_get, map, filter_map, option_map}
use Rattle.std.specs.List.{cons_option}
use Rattle.std.proofs.Common.{◌≡◌, ◌∙◌, ℕ, Bool, true, false, if◌then◌else◌, List, [], ◌∷◌, Option, Some, None, refl, sym, ap, subst}
use Rattle.std.proofs.lemmas.Option.{none-some, same_Some}
use Rattle.lido_base.specs.Environment.{Environment}
use Rattle.lido_base.specs.declared.ids.StrId.{StrId}
use Rattle.lido_base.proofs.Lists.{contains-here, contains-later, contains-map, map-contains, contains-place}
use Rattle.lido_base.proofs.TreeLemmas.{contains-test, test-contains}
use Rattle.lido_syntax.specs.declared.spec.Spec.{Spec}
use Rattle.lido_syntax.specs.declared.spec.Pair.{Pair}
use Rattle.lido_syntax.specs.Production.{left_of, right_of}
use Rattle.lido_syntax.specs.Symbols.{IsNonterminal}
use Rattle.lido_syntax.specs.Sets.{Sets}
use Rattle.lido_syntax.specs.Including.{listed}
use Rattle.lido_symbols.specs.Numbers.{enumerated}
use Rattle.lido_symbols.specs.Uses.{is_same_option, is_same_set}
use Rattle.rule_tables.specs.declared.table.Tables.{Tables}
use Rattle.rule_tables.specs.declared.table.SymbolRow.{SymbolRow}
use Rattle.rule_tables.specs.TablesOf.{named_symbols, AreTablesOf, IsRowOf}
use Rattle.need_graphs.specs.Clear.{AreClear}
use Rattle.need_graphs.proofs.ListLemmas.{contains-filtered, filtered-contains}
use Rattle.need_graphs.proofs.PlaceLemmas.{numbered-in, place-of-number}
use Rattle.need_graphs.proofs.RangeLemmas.{named}
use Rattle.remote_lists.specs.declared.symbols.Symbols.{Symbols}
use Rattle.remote_lists.specs.Listings.{AreSymbols, is_nonterminal_class, listed_by}
use Rattle.remote_lists.proofs.ListingLemmas.{text, row-at, cell-at, kind-same, listed-row}
use Rattle.including_sets.specs.declared.listings.ListedAttr.{ListedAttr}
use Rattle.including_sets.specs.Keys.{attr_at, listed_in, listed_attrs}
use Rattle.including_sets.proofs.SameLemmas.{all-true, true-of-all, option-itself, option-same, gives}

-- what is made in the same way of each
filtered-same : {X Y : Type 0} (f g : X → Option Y) (xs : List X) → ((x : X) → Contains xs x → f x ≡ g x) → filter_map f xs ≡ filter_map g xs
filtered-same f g [] h = refl
filtered-same f g (x ∷ xs) h =
    let first = h x (contains-here x xs) in
    let rest = filtered-same f g xs (λ y m. h y (contains-later x y xs m)) in
    λ i. cons_option (first i) (rest i)

if-some : {Y : Type 0} (b : Bool) (o : Option Y) (y : Y) → (if b then o else None) ≡ Some y → o ≡ Some y
if-some true o y e = e
if-some false o y e = absurd (none-some y e)

attr-some : (x y : ℕ) (o : Option StrId) (a : StrId) → attr_at x o ≡ Some (record { sym = record { 0 = y }; attr = a }) → (x ≡ y) × (o ≡ Some a)
attr-some x y None a e = absurd (none-some _ e)
attr-some x y (Some b) a e = let s = same_Some _ _ e in (ap (λ (z : ListedAttr). z.sym.0) s, ap (λ (z : ListedAttr). Some z.attr) s)

text-one : (o p : Option StrId) → option_map text o ≡ option_map text p → o ≡ p
text-one None None e = refl
text-one None (Some b) e = absurd (none-some _ e)
text-one (Some a) None e = absurd (none-some _ (sym e))
text-one (Some a) (Some b) e = let wrap : ℕ → Option StrId = λ n. Some (record { 0 = n }) in ap wrap (same_Some _ _ e)

module _ (env : Environment) (t : Tables) (is : AreTablesOf env t) (clear : AreClear t.spec) where
  abbrev spec : Spec
  spec = t.spec

  abbrev names : List ℕ
  names = named_symbols t

  -- a nonterminal has a row, and the row of a nonterminal is that of a symbol
  pub nonterminal-row : (s : ℕ) → IsNonterminal spec s → (x : ℕ) × (row : SymbolRow) × (slice_get t.symbols x ≡ Some row) × IsRowOf spec env names s row
  nonterminal-row s nt =
      let (r, of_rules, left) = contains-map left_of spec.rules s (contains-test s (map left_of spec.rules) nt) in
      let (x, place) = contains-place names s (subst (λ z. Contains names z) left (named t env is r of_rules (left_of r) (contains-here (left_of r) (right_of r)))) in
      let (row, at, its) = row-at env t is x s place in
      (x, row, at, its)

  pub symbol-of : (x : ℕ) (row : SymbolRow) → slice_get t.symbols x ≡ Some row → IsTrue (is_nonterminal_class row.class) → (s : ℕ) × IsRowOf spec env names s row
  symbol-of x row at nt = by (slice_get names x) refl
    where
      by : (o : Option ℕ) → slice_get names x ≡ o → (s : ℕ) × IsRowOf spec env names s row
      by None e = let wrong : false ≡ true = sym (ap is_nonterminal_class (cell-at env t is x row e at)) ∙ nt in absurd (cc)
      by (Some s) e = (s, is.rows x s row e at)

  module _ (symbols : Symbols) (inherit : AreSymbols t.spec symbols) where
    abbrev attrs_of : List Pair → List ListedAttr
    attrs_of p = listed_attrs symbols t.symbols p

    abbrev entry : ℕ → StrId → ListedAttr
    entry x a = record { sym = record { 0 = x }; attr = a }

    entry-in : (p : List Pair) (x : ℕ) (row : SymbolRow) (a : StrId) → slice_get t.symbols x ≡ Some row → IsTrue (is_nonterminal_class row.class) → listed_by symbols p row ≡ Some a → Contains (attrs_of p) (entry x a)
    entry-in p x row a at nt e = filtered-contains (listed_in symbols p) (enumerated 0 t.symbols) (x, row) (entry x a) (numbered-in t.symbols x row at)
        (ap (λ b. if b then attr_at x (listed_by symbols p row) else None) nt ∙ ap (attr_at x) e)

    in-entry : (p : List Pair) (x : ℕ) (row : SymbolRow) (a : StrId) → slice_get t.symbols x ≡ Some row → Contains (attrs_of p) (entry x a) → listed_by symbols p row ≡ Some a
    in-entry p x row a at m =
        let (z, among, made) = contains-filtered (listed_in symbols p) (enumerated 0 t.symbols) (entry x a) m in
        let there = place-of-number t.symbols z among in
        let (number, e) = attr-some z.0 x (listed_by symbols p z.1) a (if-some (is_nonterminal_class z.1.class) (attr_at z.0 (listed_by symbols p z.1)) (entry x a) made) in
        let same : z.1 ≡ row = same_Some _ _ (sym there ∙ ap (slice_get t.symbols) number ∙ at) in
        ap (listed_by symbols p) (sym same) ∙ e

    same-listed : (p q : List Pair) → attrs_of p ≡ attrs_of q → (x : ℕ) (row : SymbolRow) → slice_get t.symbols x ≡ Some row → IsTrue (is_nonterminal_class row.class) → listed_by symbols p row ≡ listed_by symbols q row
    same-listed p q k x row at nt = by (listed_by symbols p row) (listed_by symbols q row) refl refl
      where
        to : (a : StrId) → listed_by symbols p row ≡ Some a → listed_by symbols q row ≡ Some a
        to a e = in-entry q x row a at (subst (λ l. Contains l (entry x a)) k (entry-in p x row a at nt e))

        back : (a : StrId) → listed_by symbols q row ≡ Some a → listed_by symbols p row ≡ Some a
        back a e = in-entry p x row a at (subst (λ l. Contains l (entry x a)) (sym k) (entry-in q x row a at nt e))

        by : (o r : Option StrId) → listed_by symbols p row ≡ o → listed_by symbols q row ≡ r → listed_by symbols p row ≡ listed_by symbols q row
        by None None e f = e ∙ sym f
        by None (Some b) e f = absurd (none-some b (sym e ∙ back b f))
        by (Some a) r e f = e ∙ sym (to a e)

    module _ (sets : Sets t.spec) where
      pub key-to : (p q : List Pair) → attrs_of p ≡ attrs_of q → IsTrue (is_same_set spec sets p q)
      key-to p q k = all-true (gives spec sets p q) spec.rules (λ r m.
          let s = left_of r in
          let nt : IsNonterminal spec s = test-contains s (map left_of spec.rules) (map-contains left_of spec.rules r m) in
          let (x, row, at, its) = nonterminal-row s nt in
          let same = same-listed p q k x row at (kind-same env t is clear s row its ∙ nt) in
          let e : listed spec sets p s ≡ listed spec sets q s = sym (listed-row env t is clear symbols inherit sets s row its p) ∙ ap (option_map text) same ∙ listed-row env t is clear symbols inherit sets s row its q in
          subst (λ o. IsTrue (is_same_option (listed spec sets p s) o)) e (option-itself (listed spec sets p s)))

      pub same-of-set : (p q : List Pair) → IsTrue (is_same_set spec sets p q) → (s : ℕ) → IsNonterminal spec s → listed spec sets p s ≡ listed spec sets q s
      same-of-set p q h s nt =
          let (r, m, e) = contains-map left_of spec.rules s (contains-test s (map left_of spec.rules) nt) in
          let same = option-same (listed spec sets p (left_of r)) (listed spec sets q (left_of r)) (true-of-all (gives spec sets p q) spec.rules h r m) in
          subst (λ z. listed spec sets p z ≡ listed spec sets q z) e same

      pub key-from : (p q : List Pair) → IsTrue (is_same_set spec sets p q) → attrs_of p ≡ attrs_of q
      key-from p q h = filtered-same (listed_in symbols p) (listed_in symbols q) (enumerated 0 t.symbols) (λ z m. by z (place-of-number t.symbols z m) (is_nonterminal_class z.1.class) refl)
        where
          by : (z : ℕ × SymbolRow) → slice_get t.symbols z.0 ≡ Some z.1 → (b : Bool) → is_nonterminal_class z.1.class ≡ b → listed_in symbols p z ≡ listed_in symbols q z
          by z at true nt =
              let (s, its) = symbol-of z.0 z.1 at nt in
              let n : IsNonterminal spec s = sym (kind-same env t is clear s z.1 its) ∙ nt in
              let e = listed-row env t is clear symbols inherit sets s z.1 its p ∙ same-of-set p q h s n ∙ sym (listed-row env t is clear symbols inherit sets s z.1 its q) in
              ap (λ o. if is_nonterminal_class z.1.class then attr_at z.0 o else None) (text-one (listed_by symbols p z.1) (listed_by symbols q z.1) e)
          by z at false f = ap (λ b. if b then attr_at z.0 (listed_by symbols p z.1) else None) f ∙ sym (ap (λ b. if b then attr_at z.0 (listed_by symbols q z.1) else None) f)
