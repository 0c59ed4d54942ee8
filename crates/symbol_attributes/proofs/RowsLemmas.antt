-- Edges that are added list by list, and rows that are added one by one.
use Rattle.std.specs.Prelude.{slice_get, map, Contains, Bool, ◌↔◌}
use Rattle.std.specs.Global.{Vec}
use Rattle.std.proofs.Common.{◌≡◌, ℕ, zero, suc, ◌+◌, ◌≤◌, ◌⊎◌, inl, inr, List, [], ◌∷◌, ◌++◌, take, take_all, length, Some, refl, sym, ap, subst, ◌∙◌, arith}
use Rattle.std.proofs.lemmas.List.{length_push}
use Rattle.lido_base.specs.Tree.{contains}
use Rattle.lido_base.specs.Reach.{Reaches, source, edge}
use Rattle.lido_base.proofs.Lists.{contains-nil}
use Rattle.lido_syntax.specs.declared.spec.SymbolItem.{SymbolItem}
use Rattle.least_paths.specs.Graph.{IsEdge, has_edge, is_in}
use Rattle.least_paths.proofs.GraphLemmas.{next-cases, next-old, next-here}
use Rattle.least_paths.proofs.WithoutLemmas.{pushed-get}
use Rattle.symbol_attributes.specs.Inheritance.{numbers_of, IsItemEdge, IsDirectEdge, AreHeirs, AreRows}

-- edges to one vertex more
pub join-next : (old mid new : List (List ℕ)) (from to : List ℕ) (k x : ℕ) → slice_get to k ≡ Some x
    → ((u v : ℕ) → IsEdge mid u v ↔ (IsEdge old u v ⊎ (Contains from u × Contains (take k to) v)))
    → ((u v : ℕ) → IsEdge new u v ↔ (IsEdge mid u v ⊎ (Contains from u × (v ≡ x))))
    → (u v : ℕ) → IsEdge new u v ↔ (IsEdge old u v ⊎ (Contains from u × Contains (take (k + 1) to) v))
join-next old mid new from to k x at are more u v = (there, back)
  where
    there : IsEdge new u v → IsEdge old u v ⊎ (Contains from u × Contains (take (k + 1) to) v)
    there m = elim ((more u v).0 m) [
      | inl n ↦ elim ((are u v).0 n) [ inl o ↦ inl o | inr h ↦ inr (h.0, next-old to k x v at h.1) ]
      | inr h ↦ inr (h.0, subst (λ z. Contains (take (k + 1) to) z) (sym h.1) (next-here to k x at))
    ]

    back : IsEdge old u v ⊎ (Contains from u × Contains (take (k + 1) to) v) → IsEdge new u v
    back (inl o) = (more u v).1 (inl ((are u v).1 (inl o)))
    back (inr h) = elim (next-cases to k x v at h.1) [
      | inl m ↦ (more u v).1 (inl ((are u v).1 (inr (h.0, m))))
      | inr e ↦ (more u v).1 (inr (h.0, sym e))
    ]

pub join-none : (old : List (List ℕ)) (from to : List ℕ) (u v : ℕ) → IsEdge old u v ↔ (IsEdge old u v ⊎ (Contains from u × Contains (take 0 to) v))
join-none old from to u v = ((λ m. inl m), (λ h. elim h [ inl m ↦ m | inr k ↦ absurd (contains-nil v k.1) ]))

pub join-all : (old new : List (List ℕ)) (from to : List ℕ) (k : ℕ) → length to ≤ k
    → ((u v : ℕ) → IsEdge new u v ↔ (IsEdge old u v ⊎ (Contains from u × Contains (take k to) v)))
    → (u v : ℕ) → IsEdge new u v ↔ (IsEdge old u v ⊎ (Contains from u × Contains to v))
join-all old new from to k l are = subst (λ (ys : List ℕ). (u v : ℕ) → IsEdge new u v ↔ (IsEdge old u v ⊎ (Contains from u × Contains ys v))) (take_all k to l) are

-- the edges of one item more
pub direct-next : (mid new : List (List ℕ)) (names : List ℕ) (items : List SymbolItem) (k : ℕ) (item : SymbolItem) → slice_get items k ≡ Some item
    → ((u v : ℕ) → IsEdge mid u v ↔ IsDirectEdge names (take k items) u v)
    → ((u v : ℕ) → IsEdge new u v ↔ (IsEdge mid u v ⊎ IsItemEdge names item u v))
    → (u v : ℕ) → IsEdge new u v ↔ IsDirectEdge names (take (k + 1) items) u v
direct-next mid new names items k item at are more u v = (there, back)
  where
    there : IsEdge new u v → IsDirectEdge names (take (k + 1) items) u v
    there m = elim ((more u v).0 m) [
      | inl n ↦ (let d = (are u v).0 n in (d.0, next-old items k item d.0 at d.1, d.2))
      | inr h ↦ (item, next-here items k item at, h)
    ]

    back : IsDirectEdge names (take (k + 1) items) u v → IsEdge new u v
    back d = elim (next-cases items k item d.0 at d.1) [
      | inl m ↦ (more u v).1 (inl ((are u v).1 (d.0, m, d.2)))
      | inr e ↦ (more u v).1 (inr (subst (λ (i : SymbolItem). IsItemEdge names i u v) (sym e) d.2))
    ]

pub direct-none : (graph : List (List ℕ)) (names : List ℕ) (items : List SymbolItem) → ((u v : ℕ) → ¬ IsEdge graph u v) → (u v : ℕ) → IsEdge graph u v ↔ IsDirectEdge names (take 0 items) u v
direct-none graph names items none u v = ((λ m. absurd (none u v m)), (λ d. absurd (contains-nil d.0 d.1)))

pub direct-all : (graph : List (List ℕ)) (names : List ℕ) (items : List SymbolItem) (k : ℕ) → length items ≤ k
    → ((u v : ℕ) → IsEdge graph u v ↔ IsDirectEdge names (take k items) u v) → (u v : ℕ) → IsEdge graph u v ↔ IsDirectEdge names items u v
direct-all graph names items k l are = subst (λ (ys : List SymbolItem). (u v : ℕ) → IsEdge graph u v ↔ IsDirectEdge names ys u v) (take_all k items l) are

-- the vertices that have y among their next ones, as a set
pub named-test : (y : ℕ) (graph : List (List ℕ)) (z : ℕ) → is_in (map (λ next. contains y next) graph) z ≡ has_edge graph z y
named-test y [] z = refl
named-test y (next ∷ graph) zero = refl
named-test y (next ∷ graph) (suc z) = named-test y graph z

pub reaches-alike : (p q : ℕ → Bool) (leads : ℕ → ℕ → Bool) → ((z : ℕ) → p z ≡ q z) → (x : ℕ) → Reaches p leads x → Reaches q leads x
reaches-alike p q leads same x (source h) = source (sym (same x) ∙ h)
reaches-alike p q leads same x (edge {c = c} h later) = edge h (reaches-alike p q leads same c later)

pub rows-next : (graph : List (List ℕ)) (n : ℕ) (rows more : List (Vec Bool)) (row : Vec Bool) → AreRows graph n rows → AreHeirs graph n row.items → more ≡ rows ++ row ∷ [] → AreRows graph (n + 1) more
rows-next graph n rows more row are heirs e = record {
  count = let l = length_push rows row in let k = ap (λ (l : List (Vec Bool)). length l) e in let c = are.count in omega arith;
  each = λ y other f. elim (pushed-get rows row y other (sym (ap (λ l. slice_get l y) e) ∙ f)) [
    | inl old ↦ are.each y other old
    | inr new ↦ subst (λ (v : Vec Bool). AreHeirs graph y v.items) new.1 (subst (λ k. AreHeirs graph k row.items) (sym (new.0 ∙ are.count)) heirs)
  ];
}

pub item-edges : (old new : List (List ℕ)) (names : List ℕ) (item : SymbolItem) (from to : List ℕ) → from ≡ numbers_of names item.names → to ≡ numbers_of names item.inherits
    → ((u v : ℕ) → IsEdge new u v ↔ (IsEdge old u v ⊎ (Contains from u × Contains to v))) → (u v : ℕ) → IsEdge new u v ↔ (IsEdge old u v ⊎ IsItemEdge names item u v)
item-edges old new names item from to same alike are =
    subst (λ (ys : List ℕ). (u v : ℕ) → IsEdge new u v ↔ (IsEdge old u v ⊎ (Contains (numbers_of names item.names) u × Contains ys v))) alike
    (subst (λ (xs : List ℕ). (u v : ℕ) → IsEdge new u v ↔ (IsEdge old u v ⊎ (Contains xs u × Contains to v))) same are)
