-- The symbols of the tables: rows of symbols, and behind them the rows of cells.
use Rattle.std.specs.Prelude.{Contains, slice_get, filter_map, filter, map}
use Rattle.std.specs.List.{AllZip, cons_option}
use Rattle.std.proofs.Common.{◌≡◌, ℕ, zero, suc, ◌+◌, ◌<◌, Bool, true, false, cond, List, [], ◌∷◌, ◌++◌, length, take, get_or, Option, Some, None, refl, ap, sym, subst, ◌∙◌, arith, zero-add, append-nil, length-append}
use Rattle.std.proofs.lemmas.List.Elements.{filter_map-append, Contains-get_or}
use Rattle.std.proofs.lemmas.Option.{none-some, same_Some, slice_get_within}
use Rattle.std.proofs.lemmas.List.{take_more}
use Rattle.std.proofs.lemmas.Slice.Zip.{AllZip-long}
use Rattle.lido_base.specs.Environment.{Environment}
use Rattle.lido_base.proofs.Lists.{AllZip-place}
use Rattle.lido_syntax.specs.declared.spec.Spec.{Spec}
use Rattle.lido_syntax.specs.declared.spec.RuleItem.{RuleItem}
use Rattle.lido_symbols.specs.Numbers.{enumerated}
use Rattle.rule_tables.specs.declared.table.SymbolRow.{SymbolRow}
use Rattle.rule_tables.specs.declared.table.SymbolClass.{SymbolClass}
use Rattle.rule_tables.specs.declared.table.SymbolClass.TheVariants as class
use Rattle.rule_tables.specs.PlainRules.{lists}
use Rattle.rule_tables.specs.TablesOf.{symbol_named, IsSymbolClass, IsRowOf, IsCellOf}
use Rattle.rule_tables.proofs.PlainLemmas.{is_list, zip-append}

-- ---- lists one behind the other

front : {X : Type 0} (xs ys : List X) (k : ℕ) (x : X) → k < length xs → slice_get (xs ++ ys) k ≡ Some x → slice_get xs k ≡ Some x
front [] ys k x h e = absurd (omega (arith, h))
front (z ∷ xs) ys zero x h e = e
front (z ∷ xs) ys (suc k) x h e = front xs ys k x (omega (arith, h)) e

behind : {X : Type 0} (xs ys : List X) (k : ℕ) → slice_get (xs ++ ys) (length xs + k) ≡ slice_get ys k
behind [] ys k = ap (slice_get ys) (zero-add k)
behind (z ∷ xs) ys k = ap (slice_get (z ∷ (xs ++ ys))) shift ∙ behind xs ys k
  where
    shift : suc (length xs) + k ≡ suc (length xs + k)
    shift = omega arith

zip-at : {B : Type 0} (R : ℕ → B → Type 0) (xs : List ℕ) (ys : List B) (i d : ℕ) (e : B) → AllZip R xs ys → i < length ys → R (get_or xs i d) (get_or ys i e)
zip-at R [] [] i d e h l = absurd (omega (arith, l))
zip-at R [] (y ∷ ys) i d e h l = absurd h
zip-at R (x ∷ xs) [] i d e h l = absurd h
zip-at R (x ∷ xs) (y ∷ ys) zero d e h l = h.0
zip-at R (x ∷ xs) (y ∷ ys) (suc i) d e h l = zip-at R xs ys i d e h.1 (omega (arith, l))

-- what stands at one place of both lists
pub zip-read : {B : Type 0} (R : ℕ → B → Type 0) (symbols names : List ℕ) (lists : List B) (i n : ℕ) (x : B) → AllZip R symbols lists → i < length lists → n ≡ i → names ≡ symbols → x ≡ get_or lists i x
    → R (get_or names n 0) x
zip-read R symbols names lists i n x zip h e f at =
    subst (λ m. R (get_or names m 0) x) (sym e) (subst (λ l. R (get_or l i 0) x) (sym f) (subst (R (get_or symbols i 0)) (sym at) (zip-at R symbols lists i 0 x zip h)))

-- one more place
pub zip-next : {B : Type 0} (R : ℕ → B → Type 0) (symbols names : List ℕ) (i n m : ℕ) (rows new : List B) (row : B) → i < length symbols → n ≡ i → names ≡ symbols → m ≡ i + 1 → new ≡ rows ++ row ∷ []
    → R (get_or names n 0) row → AllZip R (take i symbols) rows → AllZip R (take m symbols) new
zip-next R symbols names i n m rows new row h e f g into one before =
    let here : R (get_or symbols i 0) row = subst (λ l. R (get_or l i 0) row) f (subst (λ k. R (get_or names k 0) row) e one) in
    subst (λ k. AllZip R (take k symbols) new) (sym g) (subst (λ l. AllZip R l new) (sym (take_more symbols i 0 h)) (subst (AllZip R (take i symbols ++ get_or symbols i 0 ∷ [])) (sym into)
    (zip-append R (take i symbols) (get_or symbols i 0 ∷ []) rows (row ∷ []) before (here, tt))))

-- what holds of all holds at a place
pub all-at : (P : ℕ → Type 0) (symbols names : List ℕ) (i n : ℕ) → i < length symbols → n ≡ i → names ≡ symbols → ((s : ℕ) → Contains symbols s → P s) → P (get_or names n 0)
all-at P symbols names i n h e f all =
    subst (λ m. P (get_or names m 0)) (sym e) (subst (λ l. P (get_or l i 0)) (sym f) (all (get_or symbols i 0) (Contains-get_or symbols i 0 h)))

-- ---- lists among rules

abbrev at_list : ℕ × RuleItem → Bool
at_list x = x.1.list

abbrev IsListOf : ℕ → ℕ → List RuleItem → List RuleItem → ℕ → Type 0
IsListOf i n rules found k = (q : RuleItem) × (j : ℕ) × (i ≡ n + j) × (slice_get rules j ≡ Some q) × (slice_get found k ≡ Some q)

-- the k-th list is the rule of its number
list-at : (n : ℕ) (rules : List RuleItem) (k i : ℕ) → slice_get (map (λ (x : ℕ × RuleItem). x.0) (filter at_list (enumerated n rules))) k ≡ Some i → IsListOf i n rules (filter is_list rules) k
list-at n [] k i e = absurd (none-some i e)
list-at n (r ∷ rules) k i e = by r.list k e (λ m f. list-at (suc n) rules m i f)
  where
    moved : (found : List RuleItem) (m : ℕ) → IsListOf i (suc n) rules found m → IsListOf i n (r ∷ rules) found m
    moved found m (q, j, e, at, there) = (q, suc j, (omega (arith, e)), at, there)

    by : (b : Bool) (k : ℕ) → slice_get (map (λ (x : ℕ × RuleItem). x.0) (cond b ((n, r) ∷ filter at_list (enumerated (suc n) rules)) (filter at_list (enumerated (suc n) rules)))) k ≡ Some i
        → ((m : ℕ) → slice_get (map (λ (x : ℕ × RuleItem). x.0) (filter at_list (enumerated (suc n) rules))) m ≡ Some i → IsListOf i (suc n) rules (filter is_list rules) m)
        → IsListOf i n (r ∷ rules) (cond b (r ∷ filter is_list rules) (filter is_list rules)) k
    by true zero f later = (r, 0, (let e = same_Some n i f in omega (arith, e)), refl, refl)
    by true (suc k) f later = moved (r ∷ filter is_list rules) (suc k) (later k f)
    by false k f later = moved (filter is_list rules) k (later k f)

pub list-count : (n : ℕ) (rules : List RuleItem) → length (map (λ (x : ℕ × RuleItem). x.0) (filter at_list (enumerated n rules))) ≡ length (filter is_list rules)
list-count n [] = refl
list-count n (r ∷ rules) = by r.list (list-count (suc n) rules)
  where
    by : (b : Bool) → length (map (λ (x : ℕ × RuleItem). x.0) (filter at_list (enumerated (suc n) rules))) ≡ length (filter is_list rules)
        → length (map (λ (x : ℕ × RuleItem). x.0) (cond b ((n, r) ∷ filter at_list (enumerated (suc n) rules)) (filter at_list (enumerated (suc n) rules)))) ≡ length (cond b (r ∷ filter is_list rules) (filter is_list rules))
    by true e = ap suc e
    by false e = e

-- ---- rows

module _ (spec : Spec) (env : Environment) (symbols : List ℕ) where
  named-row : (s : ℕ) (row : SymbolRow) (c : SymbolClass) → row.class ≡ c → IsSymbolClass spec env symbols s c → symbol_named row ≡ Some row.name.0
  named-row s row class.Nonterminal e is = ap (λ (c : SymbolClass). elim c [ class.Cell ↦ None | _ ↦ Some row.name.0 ]) e
  named-row s row (class.Terminal ty) e is = ap (λ (c : SymbolClass). elim c [ class.Cell ↦ None | _ ↦ Some row.name.0 ]) e
  named-row s row class.Class e is = ap (λ (c : SymbolClass). elim c [ class.Cell ↦ None | _ ↦ Some row.name.0 ]) e
  named-row s row class.Cell e is = absurd is

  names-of-rows : (names : List ℕ) (rows : List SymbolRow) → AllZip (IsRowOf spec env symbols) names rows → filter_map symbol_named rows ≡ names
  names-of-rows [] [] h = refl
  names-of-rows [] (row ∷ rows) h = absurd h
  names-of-rows (s ∷ names) [] h = absurd h
  names-of-rows (s ∷ names) (row ∷ rows) h = by (symbol_named row) (named-row s row row.class refl h.0.class) (names-of-rows names rows h.1)
    where
      by : (o : Option ℕ) → o ≡ Some row.name.0 → filter_map symbol_named rows ≡ names → cons_option o (filter_map symbol_named rows) ≡ s ∷ names
      by None e rest = absurd (none-some row.name.0 e)
      by (Some n) e rest = let first : n ≡ s = same_Some n row.name.0 e ∙ h.0.name in λ i. first i ∷ rest i

  no-names : (rules : List RuleItem) (cells : List SymbolRow) → AllZip (IsCellOf spec env symbols) rules cells → filter_map symbol_named cells ≡ []
  no-names [] [] h = refl
  no-names [] (row ∷ rows) h = absurd h
  no-names (r ∷ rules) [] h = absurd h
  no-names (r ∷ rules) (row ∷ rows) h = by (symbol_named row) (ap (λ (c : SymbolClass). elim c [ class.Cell ↦ None | _ ↦ Some row.name.0 ]) h.0.class) (no-names rules rows h.1)
    where
      by : (o : Option ℕ) → o ≡ None → filter_map symbol_named rows ≡ [] → cons_option o (filter_map symbol_named rows) ≡ []
      by None e rest = rest
      by (Some n) e rest = absurd (none-some n (sym e))

  module _ (rows cells : List SymbolRow) (are-rows : AllZip (IsRowOf spec env symbols) symbols rows) (are-cells : AllZip (IsCellOf spec env symbols) (filter is_list spec.rules) cells) where
    pub names-same : filter_map symbol_named (rows ++ cells) ≡ symbols
    names-same =
        let own = names-of-rows symbols rows are-rows in
        let none = no-names (filter is_list spec.rules) cells are-cells in
        filter_map-append symbol_named rows cells ∙ (λ i. own i ++ none i) ∙ append-nil symbols

    row-count : length rows ≡ length symbols
    row-count = AllZip-long (IsRowOf spec env symbols) symbols rows are-rows

    pub count-same : length (rows ++ cells) ≡ length symbols + length (lists spec symbols)
    count-same = omega (arith, length-append rows cells, row-count, AllZip-long (IsCellOf spec env symbols) (filter is_list spec.rules) cells are-cells, list-count 0 spec.rules)

    pub row-at : (x s : ℕ) (row : SymbolRow) → slice_get symbols x ≡ Some s → slice_get (rows ++ cells) x ≡ Some row → IsRowOf spec env symbols s row
    row-at x s row e f =
        let l = slice_get_within symbols x s e in
        AllZip-place (IsRowOf spec env symbols) symbols rows x s row are-rows e (front rows cells x row (omega (arith, l, row-count)) f)

    pub cell-at-list : (k i : ℕ) (r : RuleItem) (row : SymbolRow) → slice_get (lists spec symbols) k ≡ Some i → slice_get spec.rules i ≡ Some r
        → slice_get (rows ++ cells) (length symbols + k) ≡ Some row → IsCellOf spec env symbols r row
    cell-at-list k i r row e f g =
        let (q, j, place, at, there) = list-at 0 spec.rules k i e in
        let same : q ≡ r = same_Some q r (sym at ∙ ap (slice_get spec.rules) (sym (place ∙ zero-add j)) ∙ f) in
        let own : slice_get cells k ≡ Some row = sym (behind rows cells k) ∙ ap (λ n. slice_get (rows ++ cells) (n + k)) row-count ∙ g in
        AllZip-place (IsCellOf spec env symbols) (filter is_list spec.rules) cells k r row are-cells (there ∙ ap Some same) own
