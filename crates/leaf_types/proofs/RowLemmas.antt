-- The rows of tables, by the names of their symbols.
use Rattle.std.specs.Prelude.{Bool, true, false, cond, Contains, slice_get, filter}
use Rattle.std.proofs.Common.{◌≡◌, ℕ, suc, ◌+◌, ◌-◌, ◌<◌, ◌≤◌, ◌⊎◌, inl, inr, List, [], ◌∷◌, length, Some, refl, sym, ap, ◌∙◌, subst, arith}
use Rattle.std.proofs.lemmas.Bool.{cases_lt}
use Rattle.std.proofs.lemmas.Option.{slice_get_within}
use Rattle.lido_base.specs.Environment.{Environment}
use Rattle.lido_base.proofs.Lists.{contains-nil, contains-cons, contains-here, contains-later, contains-place, place-contains, place-below, contains-map}
use Rattle.lido_syntax.specs.declared.spec.RuleItem.{RuleItem}
use Rattle.lido_symbols.specs.Numbers.{enumerated}
use Rattle.rule_tables.specs.declared.table.Tables.{Tables}
use Rattle.rule_tables.specs.declared.table.SymbolRow.{SymbolRow}
use Rattle.rule_tables.specs.declared.table.SymbolClass.TheVariants as class
use Rattle.rule_tables.specs.PlainRules.{lists}
use Rattle.rule_tables.specs.TablesOf.{named_symbols, AreTablesOf, IsRowOf}

-- ---- the written rules that are lists

kept : {X : Type 0} (p : X → Bool) (xs : List X) (x : X) → Contains (filter p xs) x → Contains xs x
kept p [] x m = m
kept {X} p (y ∷ xs) x m = by (p y) refl (kept p xs x)
  where
    by : (b : Bool) → p y ≡ b → (Contains (filter p xs) x → Contains xs x) → Contains (y ∷ xs) x
    by true e later = elim (contains-cons y x (filter p xs) (subst (λ b. Contains (cond b (y ∷ filter p xs) (filter p xs)) x) e m)) [
      | inl same ↦ subst (λ z. Contains (y ∷ xs) z) same (contains-here y xs)
      | inr k ↦ contains-later y x xs (later k)
    ]
    by false e later = contains-later y x xs (later (subst (λ b. Contains (cond b (y ∷ filter p xs) (filter p xs)) x) e m))

enumerated-item : {X : Type 0} (k i : ℕ) (x : X) (xs : List X) → Contains (enumerated k xs) (i, x) → (k ≤ i) × (slice_get xs (i - k) ≡ Some x)
enumerated-item k i x [] m = absurd (contains-nil (i, x) m)
enumerated-item {X} k i x (y ∷ xs) m = by (contains-cons (k, y) (i, x) (enumerated (suc k) xs) m) (enumerated-item (suc k) i x xs)
  where
    by : (let one : ℕ × X = (k, y) in let other : ℕ × X = (i, x) in one ≡ other) ⊎ Contains (enumerated (suc k) xs) (i, x) → (Contains (enumerated (suc k) xs) (i, x) → (suc k ≤ i) × (slice_get xs (i - suc k) ≡ Some x))
        → (k ≤ i) × (slice_get (y ∷ xs) (i - k) ≡ Some x)
    by (inl e) later =
        let n : k ≡ i = ap (λ (p : ℕ × X). p.0) e in
        let z : i - k ≡ 0 = omega arith in
        (omega arith, subst (λ n. slice_get (y ∷ xs) n ≡ Some x) (sym z) (ap (λ (p : ℕ × X). Some p.1) e))
    by (inr m) later =
        let h = later m in
        let le = h.0 in
        let z : i - k ≡ suc (i - suc k) = omega arith in
        (omega arith, subst (λ n. slice_get (y ∷ xs) n ≡ Some x) (sym z) h.1)

module _ (t : Tables) (env : Environment) (is : AreTablesOf env t) where
  list-item : (i : ℕ) → Contains (lists t.spec (named_symbols t)) i → (r : RuleItem) × (slice_get t.spec.rules i ≡ Some r)
  list-item i m =
      let (x, among, e) = contains-map (λ (x : ℕ × RuleItem). x.0) (filter (λ (x : ℕ × RuleItem). x.1.list) (enumerated 0 t.spec.rules)) i m in
      let h = enumerated-item 0 x.0 x.1 t.spec.rules (kept (λ (x : ℕ × RuleItem). x.1.list) (enumerated 0 t.spec.rules) x among) in
      (x.1, subst (λ n. slice_get t.spec.rules n ≡ Some x.1) (let z : x.0 - 0 ≡ x.0 = omega arith in z ∙ e) h.1)

  -- a row is that of its symbol, or of a cell
  pub row-of : (row : SymbolRow) → Contains t.symbols row → IsRowOf t.spec env (named_symbols t) row.name.0 row ⊎ ((row.class ≡ class.Cell) × (row.attrs ≡ []))
  row-of row m = let (x, e) = contains-place t.symbols row m in by x e (cases_lt x (length (named_symbols t)))
    where
      by : (x : ℕ) → slice_get t.symbols x ≡ Some row → (x < length (named_symbols t)) ⊎ (length (named_symbols t) ≤ x)
          → IsRowOf t.spec env (named_symbols t) row.name.0 row ⊎ ((row.class ≡ class.Cell) × (row.attrs ≡ []))
      by x e (inl lt) =
          let (s, f) = place-below (named_symbols t) x lt in
          let of = is.rows x s row f e in
          inl (subst (λ s. IsRowOf t.spec env (named_symbols t) s row) (sym of.name) of)
      by x e (inr le) =
          let within = slice_get_within t.symbols x row e in
          let count = is.count in
          let (i, f) = place-below (lists t.spec (named_symbols t)) (x - length (named_symbols t)) (omega arith) in
          let (r, g) = list-item i (place-contains (lists t.spec (named_symbols t)) (x - length (named_symbols t)) i f) in
          let z : x ≡ length (named_symbols t) + (x - length (named_symbols t)) = omega arith in
          let cell = is.cells (x - length (named_symbols t)) i r row f g (subst (λ y. slice_get t.symbols y ≡ Some row) z e) in
          inr (cell.class, cell.attrs)

  -- the row of a symbol
  pub row-at : (s : ℕ) → Contains (named_symbols t) s → (row : SymbolRow) × Contains t.symbols row × IsRowOf t.spec env (named_symbols t) s row
  row-at s m =
      let (x, e) = contains-place (named_symbols t) s m in
      let within = slice_get_within (named_symbols t) x s e in
      let count = is.count in
      let (row, f) = place-below t.symbols x (omega arith) in
      (row, place-contains t.symbols x row f, is.rows x s row e f)
