-- Symbols have one number each, and their rows tell their names.
use Rattle.std.specs.Prelude.{Bool, true, false, cond, not, IsTrue, nat_eq, Contains, AllPairs, slice_get, filter, position}
use Rattle.std.specs.List.{slice_index_or, position_or_len}
use Rattle.std.proofs.Common.{◌≡◌, ℕ, zero, suc, ◌+◌, ◌-◌, ◌<◌, ◌≤◌, ◌⊎◌, inl, inr, List, [], ◌∷◌, length, Option, Some, None, refl, sym, ap, ◌∙◌, subst, arith, eqb-true, eq-eqb}
use Rattle.std.proofs.lemmas.Bool.{cases_lt, lt-ltb}
use Rattle.std.proofs.lemmas.Option.{none-some, same_Some, slice_get_within, slice_get-get_or}
use Rattle.std.proofs.lemmas.List.Quantifiers.{position-Some}
use Rattle.lido_base.specs.Environment.{Environment}
use Rattle.lido_base.proofs.Lists.{contains-nil, contains-cons, contains-here, contains-later, place-contains, place-below, contains-map}
use Rattle.lido_syntax.specs.declared.spec.RuleItem.{RuleItem}
use Rattle.lido_symbols.specs.Numbers.{AreNumbered, enumerated}
use Rattle.lido_symbols.specs.Uses.{symbol_uses}
use Rattle.rule_tables.specs.declared.table.Tables.{Tables}
use Rattle.rule_tables.specs.declared.table.SymbolRow.{SymbolRow}
use Rattle.rule_tables.specs.declared.table.SymbolClass.{SymbolClass}
use Rattle.rule_tables.specs.declared.table.SymbolClass.TheVariants as class
use Rattle.rule_tables.specs.PlainRules.{lists}
use Rattle.rule_tables.specs.TablesOf.{named_symbols, AreTablesOf, IsSymbolClass}
use Rattle.symbol_inherit.specs.Rows.{is_of, is_named, row_number}

read-at : {X : Type 0} (xs : List X) (i : ℕ) (x d : X) → slice_get xs i ≡ Some x → slice_index_or xs i d ≡ x
read-at xs i x d e = same_Some _ _ (sym (slice_get-get_or xs i d (slice_get_within xs i x e)) ∙ e)

-- of two elements the relation holds
pub pair-at : {X : Type 0} (R : X → X → Type 0) (xs : List X) (i j : ℕ) (x y : X) → AllPairs R xs → slice_get xs i ≡ Some x → slice_get xs j ≡ Some y → i < j → R x y
pair-at R xs i j x y all e f h = subst (λ a. R a y) (read-at xs i x x e) (subst (λ b. R (slice_index_or xs i x) b) (read-at xs j y x f) (all i j x h (slice_get_within xs j y f)))

pub contains-filter : {X : Type 0} (p : X → Bool) (xs : List X) (x : X) → Contains (filter p xs) x → Contains xs x
contains-filter p [] x m = m
contains-filter {X} p (y ∷ xs) x m = by (p y) refl (contains-filter p xs x)
  where
    by : (b : Bool) → p y ≡ b → (Contains (filter p xs) x → Contains xs x) → Contains (y ∷ xs) x
    by true e later = kept (contains-cons y x (filter p xs) (subst (λ b. Contains (cond b (y ∷ filter p xs) (filter p xs)) x) e m))
      where
        kept : (y ≡ x) ⊎ Contains (filter p xs) x → Contains (y ∷ xs) x
        kept (inl h) = subst (λ z. Contains (y ∷ xs) z) h (contains-here y xs)
        kept (inr k) = contains-later y x xs (later k)
    by false e later = contains-later y x xs (later (subst (λ b. Contains (cond b (y ∷ filter p xs) (filter p xs)) x) e m))

-- look-ups by a test
found-below : {X : Type 0} (p : X → Bool) (xs : List X) (i : ℕ) → position p xs ≡ Some i → i < length xs
found-below p [] i e = absurd (none-some i e)
found-below p (x ∷ xs) i e = (position-Some p (x ∷ xs) i x e).0

found-at : {X : Type 0} (p : X → Bool) (xs : List X) (i : ℕ) (x : X) → position p xs ≡ Some i → slice_get xs i ≡ Some x → p x ≡ true
found-at p xs i x e f = subst (λ y. p y ≡ true) (read-at xs i x x f) (position-Some p xs i x e).1

first-le : {X : Type 0} (p : X → Bool) (xs : List X) (i : ℕ) (x : X) → slice_get xs i ≡ Some x → p x ≡ true → position_or_len p xs ≤ i
first-le p [] i x e h = absurd (none-some _ e)
first-le p (y ∷ xs) zero x e h =
    let g : p y ≡ true = subst (λ z. p z ≡ true) (sym (same_Some _ _ e)) h in
    subst (λ b. cond (not b) (1 + position_or_len p xs) 0 ≤ 0) (sym g) (omega arith)
first-le p (y ∷ xs) (suc i) x e h = by (p y) (first-le p xs i x e h)
  where
    by : (b : Bool) → position_or_len p xs ≤ i → cond (not b) (1 + position_or_len p xs) 0 ≤ suc i
    by true l = omega arith
    by false l = omega arith

found : {X : Type 0} (p : X → Bool) (xs : List X) (i : ℕ) (x : X) → slice_get xs i ≡ Some x → p x ≡ true → position p xs ≡ None → ⊥
found p xs i x e h none =
    let l = first-le p xs i x e h in
    let w = slice_get_within xs i x e in
    let t = lt-ltb (position_or_len p xs) (length xs) (omega arith) in
    none-some _ (sym none ∙ ap (λ b. cond b (Some (position_or_len p xs)) None) t)

-- a key has one number
module _ (uses : List (ℕ × ℕ)) (keys : List ℕ) (numbered : AreNumbered nat_eq uses keys) where
  -- before each naming of a key that stands twice there would be another one
  descent : (n at j k : ℕ) → at < n → Contains uses (at, j) → j ≡ k
      → ((at j : ℕ) → Contains uses (at, j) → IsTrue (nat_eq j k) → (first : ℕ) × (i : ℕ) × Contains uses (first, i) × IsTrue (nat_eq i k) × (first < at)) → ⊥
  descent zero at j k h m e before = absurd (omega (arith, h))
  descent (suc n) at j k h m e before =
      let (first, i, there, same, less) = before at j m (eq-eqb j k e) in
      descent n first i k (omega arith) there (eqb-true i k same) before

  before-itself : (i j k : ℕ) → slice_get keys i ≡ Some k → slice_get keys j ≡ Some k → i < j → ⊥
  before-itself i j k e f h =
      let (at, m) = numbered.named i k (slice_get_within keys i k e) in
      let ki = read-at keys i k k e in
      descent (suc at) at k k (omega arith) (subst (λ x. Contains uses (at, x)) ki m) refl
      (λ at j' m same. pair-at (λ k l. (at : ℕ) (j : ℕ) → Contains uses (at, j) → IsTrue (nat_eq j l) → (first : ℕ) × (i : ℕ) × Contains uses (first, i) × IsTrue (nat_eq i k) × (first < at))
      keys i j k k numbered.by_place e f h at j' m same)

  pub one-number : (i j k : ℕ) → slice_get keys i ≡ Some k → slice_get keys j ≡ Some k → i ≡ j
  one-number i j k e f = by (cases_lt i j)
    where
      by : (i < j) ⊎ (j ≤ i) → i ≡ j
      by (inl h) = absurd (before-itself i j k e f h)
      by (inr h) = at_most (cases_lt j i)
        where
          at_most : (j < i) ⊎ (i ≤ j) → i ≡ j
          at_most (inl g) = absurd (before-itself j i k f e g)
          at_most (inr g) = omega arith

-- the written rules that are lists
pub enumerated-rule : {X : Type 0} (k i : ℕ) (x : X) (xs : List X) → Contains (enumerated k xs) (i, x) → (k ≤ i) × (slice_get xs (i - k) ≡ Some x)
enumerated-rule k i x [] m = absurd (contains-nil (i, x) m)
enumerated-rule {X} k i x (y ∷ xs) m = by (contains-cons (k, y) (i, x) (enumerated (suc k) xs) m) (enumerated-rule (suc k) i x xs)
  where
    by : (let one : ℕ × X = (k, y) in let other : ℕ × X = (i, x) in one ≡ other) ⊎ Contains (enumerated (suc k) xs) (i, x) → (Contains (enumerated (suc k) xs) (i, x) → (suc k ≤ i) × (slice_get xs (i - suc k) ≡ Some x))
        → (k ≤ i) × (slice_get (y ∷ xs) (i - k) ≡ Some x)
    by (inl e) later =
        let n : k ≡ i = ap (λ (p : ℕ × X). p.0) e in
        let z : i - k ≡ 0 = omega arith in
        (omega arith, subst (λ n. slice_get (y ∷ xs) n ≡ Some x) (sym z) (ap (λ (p : ℕ × X). Some p.1) e))
    by (inr m) later =
        let h = later m in
        let le = h.0 in
        let z : i - k ≡ suc (i - suc k) = omega arith in
        (omega arith, subst (λ n. slice_get (y ∷ xs) n ≡ Some x) (sym z) h.1)

module _ (t : Tables) (env : Environment) (is : AreTablesOf env t) where
  list-rule : (i : ℕ) → Contains (lists t.spec (named_symbols t)) i → (r : RuleItem) × (slice_get t.spec.rules i ≡ Some r)
  list-rule i m =
      let (x, among, e) = contains-map (λ (x : ℕ × RuleItem). x.0) (filter (λ (x : ℕ × RuleItem). x.1.list) (enumerated 0 t.spec.rules)) i m in
      let h = enumerated-rule 0 x.0 x.1 t.spec.rules (contains-filter (λ (x : ℕ × RuleItem). x.1.list) (enumerated 0 t.spec.rules) x among) in
      (x.1, subst (λ n. slice_get t.spec.rules n ≡ Some x.1) (let z : x.0 - 0 ≡ x.0 = omega arith in z ∙ e) h.1)

  -- behind the named rows there are cells alone
  pub past-named : (x : ℕ) (row : SymbolRow) → slice_get t.symbols x ≡ Some row → length (named_symbols t) ≤ x → (row.class ≡ class.Cell) × (row.classes ≡ [])
  past-named x row e h =
      let within = slice_get_within t.symbols x row e in
      let count = is.count in
      let (i, f) = place-below (lists t.spec (named_symbols t)) (x - length (named_symbols t)) (omega arith) in
      let (r, g) = list-rule i (place-contains (lists t.spec (named_symbols t)) (x - length (named_symbols t)) i f) in
      let z : x ≡ length (named_symbols t) + (x - length (named_symbols t)) = omega arith in
      let cell = is.cells (x - length (named_symbols t)) i r row f g (subst (λ y. slice_get t.symbols y ≡ Some row) z e) in
      (cell.class, cell.classes)

  cell-named : (s : ℕ) (row : SymbolRow) → row.class ≡ class.Cell → is_named s row ≡ true → ⊥
  cell-named s row e h = let f = ap (λ (c : SymbolClass). is_of c row.name.0 s) e in cc

  -- the row of a name is that of its number
  pub named-number : (x s : ℕ) (row : SymbolRow) → slice_get t.symbols x ≡ Some row → is_named s row ≡ true → slice_get (named_symbols t) x ≡ Some s
  named-number x s row e h = by (cases_lt x (length (named_symbols t)))
    where
      name : (c : SymbolClass) → is_of c row.name.0 s ≡ true → row.name.0 ≡ s
      name class.Nonterminal h = eqb-true row.name.0 s h
      name (class.Terminal ty) h = eqb-true row.name.0 s h
      name class.Class h = eqb-true row.name.0 s h
      name class.Cell h = cc

      by : (x < length (named_symbols t)) ⊎ (length (named_symbols t) ≤ x) → slice_get (named_symbols t) x ≡ Some s
      by (inl lt) = let (q, f) = place-below (named_symbols t) x lt in f ∙ ap Some (sym (is.rows x q row f e).name ∙ name row.class h)
      by (inr le) = absurd (cell-named s row (past-named x row e le).0 h)

  pub number-named : (x s : ℕ) → slice_get (named_symbols t) x ≡ Some s → (row : SymbolRow) × (slice_get t.symbols x ≡ Some row) × (is_named s row ≡ true)
  number-named x s e =
      let count = is.count in
      let within = slice_get_within (named_symbols t) x s e in
      let (row, f) = place-below t.symbols x (omega arith) in
      let of = is.rows x s row e f in
      (row, f, named row row.class of.class (eq-eqb row.name.0 s of.name))
    where
      named : (row : SymbolRow) (c : SymbolClass) → IsSymbolClass t.spec env (named_symbols t) s c → nat_eq row.name.0 s ≡ true → is_of c row.name.0 s ≡ true
      named row class.Nonterminal h n = n
      named row (class.Terminal ty) h n = n
      named row class.Class h n = n
      named row class.Cell h n = absurd h

  -- the number that a look-up gives
  pub looked-up : (s x : ℕ) → row_number t.symbols s ≡ Some x → slice_get (named_symbols t) x ≡ Some s
  looked-up s x e =
      let (row, f) = place-below t.symbols x (found-below (is_named s) t.symbols x e) in
      named-number x s row f (found-at (is_named s) t.symbols x row e f)

  pub looked-for : (s x : ℕ) → slice_get (named_symbols t) x ≡ Some s → row_number t.symbols s ≡ Some x
  looked-for s x e = by (row_number t.symbols s) refl
    where
      by : (o : Option ℕ) → row_number t.symbols s ≡ o → row_number t.symbols s ≡ Some x
      by None f = let (row, g, h) = number-named x s e in absurd (found (is_named s) t.symbols x row g h f)
      by (Some y) f = f ∙ ap Some (one-number (symbol_uses t.spec env) (named_symbols t) is.numbers y x s (looked-up s y f) e)
