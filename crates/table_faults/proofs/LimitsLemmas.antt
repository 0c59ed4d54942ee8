-- Counts, and the limits on them.
use Rattle.std.specs.Prelude.{IsTrue, not, Contains, min, sum_by, filter_map, filter, flat_map, nat_lt, ◌↔◌}
use Rattle.std.proofs.Common.{◌≡◌, ℕ, ◌+◌, ◌<◌, ◌≤◌, ◌⊎◌, inl, inr, List, [], ◌∷◌, ◌++◌, Some, Bool, true, false, if◌then◌else◌, length, map, take, get_or, refl, arith, sym, ap, subst, ◌∙◌, true≢false}
use Rattle.std.proofs.lemmas.Bool.{cases_lt, ltb-true, lt-ltb}
use Rattle.std.specs.Borrow.{Bor}
use Rattle.std.proofs.lemmas.List.{take_more, take_all, map-append, length-append}
use Rattle.std.proofs.lemmas.List.Elements.{filter_map-append}
use Rattle.std.proofs.lemmas.List.Sums.{sum_by-append, sum_by-cons}
use Rattle.lido_base.specs.Environment.{Environment}
use Rattle.lido_syntax.specs.declared.spec.Spec.{Spec}
use Rattle.lido_syntax.specs.declared.spec.Comp.{Comp}
use Rattle.lido_syntax.specs.declared.spec.Name.{Name}
use Rattle.lido_syntax.specs.declared.spec.Cons.{Cons}
use Rattle.lido_syntax.specs.declared.spec.Expr.{Expr, Int, Str, Bool as Truth, Terminal, Read, Including, Constituents, Call'}
use Rattle.lido_syntax.specs.declared.spec.RuleItem.{RuleItem}
use Rattle.lido_syntax.specs.declared.spec.SymbolItem.{SymbolItem}
use Rattle.lido_syntax.specs.Parts.{leaves_of}
use Rattle.lido_symbols.specs.Uses.{constituents_of, computations, all_constituents, symbol_uses, with_place}
use Rattle.lido_syntax.specs.Production.{name_of, right_of}
use Rattle.lido_symbols.specs.Numbers.{different}
use Rattle.table_faults.specs.Faults.{symbol_count, plain_count, IsTooManyOf, symbols, rules, elements, computations_and_constituents}
use Rattle.lido_base.specs.declared.kinds.Many.{Many}
use Rattle.lido_base.specs.declared.kinds.Many.TheVariants as many
use Rattle.lido_syntax.specs.declared.fault.SpecFault.{SpecFault}
use Rattle.lido_syntax.specs.declared.fault.SpecFault.TheVariants as fault
use Rattle.std.proofs.lemmas.Option.{same_Some}
use Rattle.table_faults.specs.Limits.{Counts, constituents_in, size_of}

pub counts-add : (a b x y z : ℕ) → Counts a x → Counts b y → z ≡ min (x + y) 18446744073709551615 → Counts (a + b) z
counts-add a b x y z p q e = by (cases_lt (x + y) 18446744073709551615)
  where
    within : (n t : ℕ) → Counts n t → t ≤ n
    within n t (inl f) = omega (arith, f)
    within n t (inr f) = f.1

    by : ((x + y < 18446744073709551615) ⊎ (18446744073709551615 ≤ x + y)) → Counts (a + b) z
    by (inr le) = inr (let u = within a x p in let v = within b y q in omega (arith, le, e, u, v), (let u = within a x p in let v = within b y q in omega (arith, le, e, u, v)))
    by (inl lt) = both p q
      where
        both : Counts a x → Counts b y → Counts (a + b) z
        both (inl f) (inl g) = inl (omega (arith, lt, e, f, g))
        both (inl f) (inr g) = inr (let h = g.0 in omega (arith, lt, e, h), (let h = g.1 in omega (arith, lt, e, f, h)))
        both (inr f) g = inr (let h = f.0 in omega (arith, lt, e, h), (let h = f.1 in let u = within b y g in omega (arith, lt, e, h, u)))

pub counts-step : {X : Type 0} (f : X → ℕ) (xs : List X) (i : ℕ) (x d : X) (total y z : ℕ) → i < length xs → x ≡ get_or xs i d → Counts (sum_by f (take i xs)) total → Counts (f x) y
    → z ≡ min (total + y) 18446744073709551615 → Counts (sum_by f (take (i + 1) xs)) z
counts-step f xs i x d total y z within at before here e =
    subst (λ n. Counts n z) (sym (ap (sum_by f) (take_more xs i d within ∙ ap (λ w. take i xs ++ w ∷ []) (sym at)) ∙ sum_by-append f (take i xs) (x ∷ []) ∙ one)) (counts-add _ _ _ _ _ before here e)
  where
    one : sum_by f (take i xs) + sum_by f (x ∷ []) ≡ sum_by f (take i xs) + f x
    one = omega arith

pub counts-end : {X : Type 0} (f : X → ℕ) (xs : List X) (i t : ℕ) → length xs ≤ i → Counts (sum_by f (take i xs)) t → Counts (sum_by f xs) t
counts-end f xs i t all h = subst (λ l. Counts (sum_by f l) t) (take_all i xs all) h

pub counts-more : (k n t : ℕ) → k < 1000000 → Counts n t → IsTrue (nat_lt k t) ↔ (k < n)
counts-more k n t small counts = (to counts, from counts)
  where
    to : Counts n t → IsTrue (nat_lt k t) → k < n
    to (inl e) h = (let lt = ltb-true k t h in omega (arith, lt, e))
    to (inr e) h = (let lt = ltb-true k t h in let u = e.1 in omega (arith, lt, u))

    from : Counts n t → k < n → IsTrue (nat_lt k t)
    from (inl e) h = lt-ltb k t (omega (arith, h, e))
    from (inr e) h = lt-ltb k t (let u = e.0 in omega (arith, small, u))

module _ (spec : Spec) (env : Environment) (r : RuleItem) where
  by-list : (b : Bool) → r.list ≡ b → plain_count spec env r ≡ (if b then length (different (right_of r)) + 2 else 1)
  by-list b e = ap (λ b. if b then length (different (right_of r)) + 2 else 1) e

  pub plain-single : r.list ≡ false → Counts (plain_count spec env r) 1
  plain-single e = inl (sym (by-list false e))

  pub plain-list : r.list ≡ true → (n t : ℕ) → n ≡ length (different (right_of r)) → t ≡ min (n + 2) 18446744073709551615 → Counts (plain_count spec env r) t
  plain-list g n t f e = subst (λ m. Counts m t) (sym (by-list true g)) (counts-add _ _ n 2 t (inl f) (inl refl) e)

-- one leaf more
leaves-more : (leaves : List (Bor Expr)) (i : ℕ) (e : Bor Expr) → i < length leaves → e ≡ get_or leaves i e
    → constituents_in (map (λ (e : Bor Expr). e.now) (take (i + 1) leaves)) ≡ constituents_in (map (λ (e : Bor Expr). e.now) (take i leaves)) + constituents_in (e.now ∷ [])
leaves-more leaves i e within at =
    ap constituents_in (ap (map (λ (e : Bor Expr). e.now)) (take_more leaves i e within ∙ ap (λ w. take i leaves ++ w ∷ []) (sym at)) ∙ map-append (λ (e : Bor Expr). e.now) (take i leaves) (e ∷ []))
    ∙ ap length (filter_map-append constituents_of (map (λ (e : Bor Expr). e.now) (take i leaves)) (e.now ∷ [])) ∙ length-append (filter_map constituents_of (map (λ (e : Bor Expr). e.now) (take i leaves))) (filter_map constituents_of (e.now ∷ []))

pub constituents-one : (leaves : List (Bor Expr)) (i : ℕ) (e : Bor Expr) (k : Cons) (count new : ℕ) → i < length leaves → e ≡ get_or leaves i e → e.now ≡ Constituents k
    → count ≡ constituents_in (map (λ (e : Bor Expr). e.now) (take i leaves)) → new ≡ count + 1 → new ≡ constituents_in (map (λ (e : Bor Expr). e.now) (take (i + 1) leaves))
constituents-one leaves i e k count new within at is before more =
    more ∙ ap (λ n. n + 1) before ∙ ap (λ x. constituents_in (map (λ (e : Bor Expr). e.now) (take i leaves)) + constituents_in (x ∷ [])) (sym is) ∙ sym (leaves-more leaves i e within at)

pub constituents-other : (leaves : List (Bor Expr)) (i : ℕ) (e : Bor Expr) (count new : ℕ) → i < length leaves → e ≡ get_or leaves i e → ((k : Cons) → e.now ≡ Constituents k → ⊥)
    → count ≡ constituents_in (map (λ (e : Bor Expr). e.now) (take i leaves)) → new ≡ count → new ≡ constituents_in (map (λ (e : Bor Expr). e.now) (take (i + 1) leaves))
constituents-other leaves i e count new within at not before more =
    more ∙ before ∙ sym (leaves-more leaves i e within at ∙ (let z = other e.now not in omega (arith, z)))
  where
    other : (x : Expr) → ((k : Cons) → x ≡ Constituents k → ⊥) → constituents_in (x ∷ []) ≡ 0
    other (Int at z) h = refl
    other (Str at s) h = refl
    other (Truth at b) h = refl
    other (Terminal x i) h = refl
    other (Read at p a) h = refl
    other (Including at pairs) h = refl
    other (Constituents k) h = absurd (h k refl)
    other (Call' f shape args) h = refl

-- computations and CONSTITUENTS are counted computation by computation
sizes : (cs : List Comp) → length cs + constituents_in (flat_map leaves_of cs) ≡ sum_by size_of cs
sizes [] = refl
sizes (c ∷ cs) =
    let h = sizes cs in
    let e = ap length (filter_map-append constituents_of (leaves_of c) (flat_map leaves_of cs)) ∙ length-append (filter_map constituents_of (leaves_of c)) (filter_map constituents_of (flat_map leaves_of cs)) in
    let f = sum_by-cons size_of c cs in
    omega (arith, e, f, h)

sizes-flat : {X : Type 0} (f : X → List Comp) (xs : List X) → sum_by size_of (flat_map f xs) ≡ sum_by (λ x. sum_by size_of (f x)) xs
sizes-flat f [] = refl
sizes-flat f (x ∷ xs) = sum_by-append size_of (f x) (flat_map f xs) ∙ ap (λ n. sum_by size_of (f x) + n) (sizes-flat f xs) ∙ sym (sum_by-cons (λ x. sum_by size_of (f x)) x xs)

pub computations-more : (spec : Spec) (a b t : ℕ) → Counts (sum_by (λ (r : RuleItem). sum_by size_of r.body) spec.rules) a → Counts (sum_by (λ (item : SymbolItem). sum_by size_of item.body) spec.symbols) b
    → t ≡ min (a + b) 18446744073709551615 → IsTrue (nat_lt 65536 t) ↔ (65536 < length (computations spec) + length (all_constituents spec))
computations-more spec a b t of_rules of_items e = counts-more 65536 _ t (omega arith) (subst (λ n. Counts n t) same (counts-add _ _ a b t of_rules of_items e))
  where
    same : sum_by (λ (r : RuleItem). sum_by size_of r.body) spec.rules + sum_by (λ (item : SymbolItem). sum_by size_of item.body) spec.symbols ≡ length (computations spec) + length (all_constituents spec)
    same = ap (λ n. n + sum_by (λ (item : SymbolItem). sum_by size_of item.body) spec.symbols) (sym (sizes-flat (λ (r : RuleItem). r.body) spec.rules))
        ∙ ap (λ n. sum_by size_of (flat_map (λ (r : RuleItem). r.body) spec.rules) + n) (sym (sizes-flat (λ (item : SymbolItem). item.body) spec.symbols))
        ∙ sym (sum_by-append size_of (flat_map (λ (r : RuleItem). r.body) spec.rules) (flat_map (λ (item : SymbolItem). item.body) spec.symbols)) ∙ sym (sizes (computations spec))

named-by : (names : List Name) → map name_of names ≡ map (λ (u : ℕ × ℕ). u.1) (map with_place names)
named-by [] = refl
named-by (x ∷ names) = ap (λ l. name_of x ∷ l) (named-by names)

pub symbols-more : (spec : Spec) (env : Environment) (names : List Name) (n lists t : ℕ) → map with_place names ≡ symbol_uses spec env → n ≡ length (different (map name_of names)) → lists ≡ length (filter (λ (r : RuleItem). r.list) spec.rules)
    → t ≡ min (n + lists) 18446744073709551615 → IsTrue (nat_lt 512 t) ↔ (512 < symbol_count spec env)
symbols-more spec env names n lists t uses e f g = counts-more 512 _ t (omega arith) (counts-add _ _ n lists t (inl (e ∙ ap (λ l. length (different l)) named)) (inl f) g)
  where
    named : map name_of names ≡ map (λ (u : ℕ × ℕ). u.1) (symbol_uses spec env)
    named = named-by names ∙ ap (map (λ (u : ℕ × ℕ). u.1)) uses

-- a limit that is passed or not, and what is answered
module _ (spec : Spec) (env : Environment) where
  pub no-symbols : {b : Bool} → IsTrue b ↔ (512 < symbol_count spec env) → b ≡ false → (f : SpecFault) → IsTooManyOf spec env many.Symbols f → ⊥
  no-symbols same not_so f (symbols more, e) = true≢false (sym (same.1 more) ∙ not_so)

  pub no-rules : {b : Bool} → IsTrue b ↔ (1024 < sum_by (plain_count spec env) spec.rules) → b ≡ false → (f : SpecFault) → IsTooManyOf spec env many.Rules f → ⊥
  no-rules same not_so f (rules more, e) = true≢false (sym (same.1 more) ∙ not_so)

  pub no-elements : {b : Bool} → IsTrue b ↔ ((r : RuleItem) × Contains spec.rules r × (1024 < length (right_of r))) → b ≡ false → (f : SpecFault) → IsTooManyOf spec env many.Elements f → ⊥
  no-elements same not_so f (elements r among more, e) = true≢false (sym (same.1 (r, among, more)) ∙ not_so)

  pub no-computations : {b : Bool} → IsTrue b ↔ (65536 < length (computations spec) + length (all_constituents spec)) → b ≡ false → (f : SpecFault) → IsTooManyOf spec env many.Computations f → ⊥
  no-computations same not_so f (computations_and_constituents more, e) = true≢false (sym (same.1 more) ∙ not_so)

  answered : (a b : Many) → Some a ≡ Some b → fault.TooMany b ≡ fault.TooMany a
  answered a b e = ap (λ m. fault.TooMany m) (sym (same_Some a b e))

  pub some-symbols : {b : Bool} → IsTrue b ↔ (512 < symbol_count spec env) → b ≡ true → (what : Many) → Some many.Symbols ≡ Some what → IsTooManyOf spec env many.Symbols (fault.TooMany what)
  some-symbols same so what e = (symbols (same.0 so), answered _ what e)

  pub some-rules : {b : Bool} → IsTrue b ↔ (1024 < sum_by (plain_count spec env) spec.rules) → b ≡ true → (what : Many) → Some many.Rules ≡ Some what → IsTooManyOf spec env many.Rules (fault.TooMany what)
  some-rules same so what e = (rules (same.0 so), answered _ what e)

  pub some-elements : {b : Bool} → IsTrue b ↔ ((r : RuleItem) × Contains spec.rules r × (1024 < length (right_of r))) → b ≡ true → (what : Many) → Some many.Elements ≡ Some what → IsTooManyOf spec env many.Elements (fault.TooMany what)
  some-elements same so what e = let (r, among, more) = same.0 so in (elements r among more, answered _ what e)

  pub some-computations : {b : Bool} → IsTrue b ↔ (65536 < length (computations spec) + length (all_constituents spec)) → b ≡ true → (what : Many) → Some many.Computations ≡ Some what → IsTooManyOf spec env many.Computations (fault.TooMany what)
  some-computations same so what e = (computations_and_constituents (same.0 so), answered _ what e)

  pub rules-of : {rules : List RuleItem} {b : Bool} → rules ≡ spec.rules → (IsTrue b ↔ (1024 < sum_by (plain_count spec env) rules)) → IsTrue b ↔ (1024 < sum_by (plain_count spec env) spec.rules)
  rules-of {rules} {b} e h = subst (λ (l : List RuleItem). IsTrue b ↔ (1024 < sum_by (plain_count spec env) l)) e h

  pub elements-of : {rules : List RuleItem} {b : Bool} → rules ≡ spec.rules → (IsTrue b ↔ ((r : RuleItem) × Contains rules r × (1024 < length (right_of r)))) → IsTrue b ↔ ((r : RuleItem) × Contains spec.rules r × (1024 < length (right_of r)))
  elements-of {rules} {b} e h = subst (λ (l : List RuleItem). IsTrue b ↔ ((r : RuleItem) × Contains l r × (1024 < length (right_of r)))) e h
