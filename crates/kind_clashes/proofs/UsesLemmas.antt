-- How a computation names an attribute or a chain: by its target, by a read or by a pair of a remote list.
use Rattle.std.specs.Prelude.{Contains, filter, flat_map, map}
use Rattle.std.proofs.Common.{◌≡◌, ℕ, Bool, true, false, cond, ◌⊎◌, inl, inr, List, [], ◌∷◌, None, refl, sym, ap, subst, ◌∙◌}
use Rattle.std.proofs.lemmas.List.Elements.{Contains-append_left, Contains-append_right, Contains-append_cases}
use Rattle.lido_base.proofs.Lists.{contains-nil, contains-cons, contains-here, contains-later, contains-map, map-contains, contains-flat, flat-contains}
use Rattle.lido_syntax.specs.declared.spec.Name.{Name}
use Rattle.lido_syntax.specs.declared.spec.Comp.{Comp}
use Rattle.lido_syntax.specs.declared.spec.Pair.{Pair}
use Rattle.lido_syntax.specs.declared.spec.Place.{Place}
use Rattle.lido_syntax.specs.declared.spec.Place.TheVariants as place
use Rattle.lido_syntax.specs.declared.spec.Target.{Target}
use Rattle.lido_syntax.specs.declared.spec.Target.TheVariants as target
use Rattle.lido_syntax.specs.declared.spec.Expr.{Expr, Int, Str, Bool as Truth, Terminal, Read, Including, Constituents, Call'}
use Rattle.lido_syntax.specs.Parts.{parts, is_leaf, leaves, leaves_of, expressions_of}
use Rattle.lido_syntax.specs.Attributes.{Use, use_of_pair, uses_of_part, reads, uses, target_uses}
use Rattle.kind_clashes.specs.KindClash.{pairs_of}

-- an element that passes the test stays
in-filter : {X : Type 0} (test : X → Bool) (xs : List X) (x : X) → Contains xs x → test x ≡ true → Contains (filter test xs) x
in-filter test [] x m pass = absurd (contains-nil x m)
in-filter {X} test (y ∷ ys) x m pass = by (test y) refl (contains-cons y x ys m) (λ m. in-filter test ys x m pass)
  where
    by : (b : Bool) → test y ≡ b → (y ≡ x) ⊎ Contains ys x → (Contains ys x → Contains (filter test ys) x) → Contains (cond b (y ∷ filter test ys) (filter test ys)) x
    by true e (inl same) later = subst (λ z. Contains (y ∷ filter test ys) z) same (contains-here y (filter test ys))
    by true e (inr m) later = contains-later y x (filter test ys) (later m)
    by false e (inl same) later = let wrong : true ≡ false = sym pass ∙ ap test (sym same) ∙ e in absurd (cc)
    by false e (inr m) later = later m

of-filter : {X : Type 0} (test : X → Bool) (xs : List X) (x : X) → Contains (filter test xs) x → Contains xs x
of-filter test [] x m = m
of-filter {X} test (y ∷ ys) x m = by (test y) (of-filter test ys x) m
  where
    by : (b : Bool) → (Contains (filter test ys) x → Contains ys x) → Contains (cond b (y ∷ filter test ys) (filter test ys)) x → Contains (y ∷ ys) x
    by true later m = elim (contains-cons y x (filter test ys) m) [ inl same ↦ subst (λ z. Contains (y ∷ ys) z) same (contains-here y ys) | inr k ↦ contains-later y x ys (later k) ]
    by false later m = contains-later y x ys (later m)

-- how a leaf names it
pub data IsUsedIn (p : Place) (a : Name) (e : Expr) : Type 0 where
  by_read : (first : ℕ) → e ≡ Read first p a → IsUsedIn p a e
  by_pair : (q : Pair) → Contains (pairs_of e) q → p ≡ place.Named q.sym None → a ≡ q.attr → IsUsedIn p a e

pub data IsUsed (c : Comp) (p : Place) (a : Name) : Type 0 where
  by_target : c.target ≡ target.Attr p a → IsUsed c p a
  by_leaf : (e : Expr) → Contains (leaves_of c) e → IsUsedIn p a e → IsUsed c p a

pair-used : (p : Place) (a : Name) (e : Expr) → Contains (map use_of_pair (pairs_of e)) (p, a) → IsUsedIn p a e
pair-used p a e m = let (q, mq, same) = contains-map use_of_pair (pairs_of e) (p, a) m in by_pair q mq (ap (λ (u : Use). u.0) (sym same)) (ap (λ (u : Use). u.1) (sym same))

part-used : (p : Place) (a : Name) (e : Expr) → Contains (uses_of_part e) (p, a) → (is_leaf e ≡ true) × IsUsedIn p a e
part-used p a (Read at q b) m = (
  refl,
  elim (contains-cons (q, b) (p, a) [] m) [
    | inl e ↦ by_read at (λ i. Read at (e i).0 (e i).1)
    | inr k ↦ absurd (contains-nil _ k)
  ],
)
part-used p a (Including at pairs) m = (refl, pair-used p a (Including at pairs) m)
part-used p a (Constituents k) m = (refl, pair-used p a (Constituents k) m)
part-used p a (Int at z) m = absurd (contains-nil _ m)
part-used p a (Str at s) m = absurd (contains-nil _ m)
part-used p a (Truth at b) m = absurd (contains-nil _ m)
part-used p a (Terminal x i) m = absurd (contains-nil _ m)
part-used p a (Call' f shape args) m = absurd (contains-nil _ m)

target-used : (p : Place) (a : Name) (t : Target) → Contains (target_uses t) (p, a) → t ≡ target.Attr p a
target-used p a (target.Attr q b) m = elim (contains-cons (q, b) (p, a) [] m) [ inl e ↦ (λ i. target.Attr (e i).0 (e i).1) | inr k ↦ absurd (contains-nil _ k) ]
target-used p a (target.Start b) m = absurd (contains-nil _ m)
target-used p a target.Out m = absurd (contains-nil _ m)
target-used p a (target.Message s o) m = absurd (contains-nil _ m)

pub to-used : (c : Comp) (p : Place) (a : Name) → Contains (uses c) (p, a) → IsUsed c p a
to-used c p a m = elim (Contains-append_cases (target_uses c.target) (flat_map reads (expressions_of c)) (p, a) m) [
  | inl k ↦ by_target (target-used p a c.target k)
  | inr k ↦ (let (e, me, n) = contains-flat reads (expressions_of c) (p, a) k in
      let (part, mp, u) = contains-flat uses_of_part (parts e) (p, a) n in
      let used = part-used p a part u in
      by_leaf part (flat-contains leaves (expressions_of c) e part me (in-filter is_leaf (parts e) part mp used.0)) used.1)
]

leaf-uses : (p : Place) (a : Name) (e : Expr) → IsUsedIn p a e → Contains (uses_of_part e) (p, a)
leaf-uses p a e (by_read first same) = subst (λ (l : Expr). Contains (uses_of_part l) (p, a)) (sym same) (contains-here (p, a) [])
leaf-uses p a e (by_pair q m ep ea) = subst (λ (u : Use). Contains (uses_of_part e) u) (λ i. (sym ep i, sym ea i)) (of-pair e q m)
  where
    of-pair : (e : Expr) (q : Pair) → Contains (pairs_of e) q → Contains (uses_of_part e) (use_of_pair q)
    of-pair (Including at pairs) q m = map-contains use_of_pair pairs q m
    of-pair (Constituents k) q m = map-contains use_of_pair k.pairs q m
    of-pair (Read at p b) q m = absurd (contains-nil q m)
    of-pair (Int at z) q m = absurd (contains-nil q m)
    of-pair (Str at s) q m = absurd (contains-nil q m)
    of-pair (Truth at b) q m = absurd (contains-nil q m)
    of-pair (Terminal x i) q m = absurd (contains-nil q m)
    of-pair (Call' f shape args) q m = absurd (contains-nil q m)

pub of-used : (c : Comp) (p : Place) (a : Name) → IsUsed c p a → Contains (uses c) (p, a)
of-used c p a (by_target e) = Contains-append_left (target_uses c.target) (flat_map reads (expressions_of c)) (p, a) (subst (λ (t : Target). Contains (target_uses t) (p, a)) (sym e) (contains-here (p, a) []))
of-used c p a (by_leaf leaf m used) =
    let (e, me, k) = contains-flat leaves (expressions_of c) leaf m in
    Contains-append_right (target_uses c.target) (flat_map reads (expressions_of c)) (p, a)
    (flat-contains reads (expressions_of c) e (p, a) me (flat-contains uses_of_part (parts e) leaf (p, a) (of-filter is_leaf (parts e) leaf k) (leaf-uses p a leaf used)))
