-- Along the edges of the rows a symbol reaches the classes that it inherits.
use Rattle.std.specs.Prelude.{Bool, true, false, IsTrue, nat_eq, Contains, slice_get, unwrap_or, if◌then◌else◌}
use Rattle.std.proofs.Common.{◌≡◌, ℕ, zero, suc, ◌+◌, ◌⊎◌, inl, inr, arith, Vec, Global, List, [], ◌∷◌, ◌++◌, map, length, Option, Some, None, refl, sym, ap, ◌∙◌, subst, eqb-true, true≢false}
use Rattle.std.proofs.lemmas.Option.{none-some, same_Some, slice_get_within}
use Rattle.std.proofs.lemmas.Bool.{cases_lt}
use Rattle.std.proofs.lemmas.List.{length_push, length-map}
use Rattle.lido_base.specs.Environment.{Environment}
use Rattle.lido_base.specs.Tree.{contains}
use Rattle.lido_base.specs.Reach.{Reaches, source, edge}
use Rattle.lido_base.specs.declared.ids.SymId.{SymId}
use Rattle.lido_base.proofs.Lists.{contains-nil, contains-map, map-contains, place-below}
use Rattle.lido_base.proofs.TreeLemmas.{contains-test, test-contains}
use Rattle.least_paths.specs.Graph.{IsGraph, has_edge, row_of, is_in}
use Rattle.lido_syntax.specs.Sets.{Inherits, inherits_directly}
use Rattle.lido_symbols.specs.Numbers.{place_in}
use Rattle.lido_symbols.specs.Uses.{symbol_uses}
use Rattle.rule_tables.specs.declared.table.Tables.{Tables}
use Rattle.rule_tables.specs.declared.table.SymbolRow.{SymbolRow}
use Rattle.rule_tables.specs.PlainRules.{number}
use Rattle.rule_tables.specs.Needs.{Tables as Numbered}
use Rattle.rule_tables.specs.InForceFaults.{inherits_of, is_heir}
use Rattle.rule_tables.specs.TablesOf.{named_symbols, AreTablesOf}
use Rattle.symbol_inherit.specs.Classes.{edges_of, graph_of, is_set, is_set_in, inherits_by, AreHeirs, AreRows, AreReaching, HasReaching}
use Rattle.symbol_inherit.specs.declared.classes.Classes.{Classes}
use Rattle.symbol_inherit.proofs.RowLemmas.{one-number, number-named, past-named}

pub mapped-place : {X Y : Type 0} (f : X → Y) (xs : List X) (i : ℕ) (x : X) → slice_get xs i ≡ Some x → slice_get (map f xs) i ≡ Some (f x)
mapped-place f [] i x e = absurd (none-some x e)
mapped-place f (y ∷ xs) zero x e = ap (λ z. Some (f z)) (same_Some y x e)
mapped-place f (y ∷ xs) (suc i) x e = mapped-place f xs i x e

-- a set of vertices that is given by a test of their rows
pub row-test : (y : ℕ) (graph : List (List ℕ)) (z : ℕ) → is_in (map (λ next. contains y next) graph) z ≡ has_edge graph z y
row-test y [] z = refl
row-test y (next ∷ graph) zero = refl
row-test y (next ∷ graph) (suc z) = row-test y graph z

pub reaches-by : (p q : ℕ → Bool) (leads : ℕ → ℕ → Bool) → ((z : ℕ) → p z ≡ q z) → (x : ℕ) → Reaches p leads x → Reaches q leads x
reaches-by p q leads same x (source h) = source (sym (same x) ∙ h)
reaches-by p q leads same x (edge {c = c} h later) = edge h (reaches-by p q leads same c later)

mapped-none : {X Y : Type 0} (f : X → Y) (xs : List X) (i : ℕ) → slice_get xs i ≡ None → slice_get (map f xs) i ≡ None
mapped-none f [] i e = refl
mapped-none f (y ∷ xs) zero e = absurd (none-some y (sym e))
mapped-none f (y ∷ xs) (suc i) e = mapped-none f xs i e

place-same : (c d : ℕ) (xs : List ℕ) → slice_get xs (place_in (nat_eq c) xs) ≡ Some d → c ≡ d
place-same c d [] e = absurd (none-some d e)
place-same c d (x ∷ xs) e = by (nat_eq c x) refl e (place-same c d xs)
  where
    by : (b : Bool) → nat_eq c x ≡ b → slice_get (x ∷ xs) (if b then 0 else suc (place_in (nat_eq c) xs)) ≡ Some d → (slice_get xs (place_in (nat_eq c) xs) ≡ Some d → c ≡ d) → c ≡ d
    by true f e later = eqb-true c x f ∙ same_Some x d e
    by false f e later = later e

module _ (t : Tables) (env : Environment) (is : AreTablesOf env t) where
  abbrev Named : ℕ → ℕ → Type 0
  Named x s = slice_get (named_symbols t) x ≡ Some s

  abbrev leads : ℕ → ℕ → Bool
  leads = has_edge (graph_of t.symbols)

  row-at : (x : ℕ) (row : SymbolRow) → slice_get t.symbols x ≡ Some row → row_of (graph_of t.symbols) x ≡ edges_of row
  row-at x row e = ap (λ o. unwrap_or o []) (mapped-place edges_of t.symbols x row e)

  pub edge-named : (x s y : ℕ) → Named x s → IsTrue (leads x y) → (c : ℕ) × Named y c × (inherits_directly t.spec s c ≡ true)
  edge-named x s y at h =
      let (row, e, _) = number-named t env is x s at in
      let m = contains-test y (row_of (graph_of t.symbols) x) h in
      let (class, n, f) = contains-map (λ (class : SymId). class.0) row.classes y (subst (λ l. Contains l y) (row-at x row e) m) in
      let (c, g, k) = (is.rows x s row at e).classes.each class n in
      (c, subst (λ z. Named z c) f g, k)

  pub named-edge : (x s c : ℕ) → Named x s → inherits_directly t.spec s c ≡ true → (y : ℕ) × Named y c × IsTrue (leads x y)
  named-edge x s c at h =
      let (row, e, _) = number-named t env is x s at in
      let n = (is.rows x s row at e).classes.all c h in
      let (d, g, k) = (is.rows x s row at e).classes.each (record { 0 = number t.spec (named_symbols t) c }) n in
      let same = place-same c d (named_symbols t) g in (
        number t.spec (named_symbols t) c,
        g ∙ ap Some (sym same),
        test-contains (number t.spec (named_symbols t) c) (row_of (graph_of t.symbols) x)
            (subst (λ l. Contains l (number t.spec (named_symbols t) c)) (sym (row-at x row e)) (map-contains (λ (class : SymId). class.0) row.classes _ n)),
      )

  module _ (y class : ℕ) (there : Named y class) where
    pub to-names : (x s : ℕ) → Named x s → Reaches (λ z. leads z y) leads x → Inherits t.spec s class
    to-names x s at (source h) =
        let (c, g, k) = edge-named x s y at h in
        source (subst (λ d. inherits_directly t.spec s d ≡ true) (same_Some c class (sym g ∙ there)) k)
    to-names x s at (edge {c = z} h later) = let (c, g, k) = edge-named x s z at h in edge k (to-names z c g later)

    pub from-names : (x s : ℕ) → Named x s → Inherits t.spec s class → Reaches (λ z. leads z y) leads x
    from-names x s at (source h) =
        let (z, g, k) = named-edge x s class at h in
        source (subst (λ n. IsTrue (leads x n)) (one-number (symbol_uses t.spec env) (named_symbols t) is.numbers z y class g there) k)
    from-names x s at (edge {c = c} h later) = let (z, g, k) = named-edge x s c at h in edge k (from-names z c g later)

-- what stands in a list with one element more
place-push : {X : Type 0} (xs : List X) (x z : X) (i : ℕ) → slice_get (xs ++ x ∷ []) i ≡ Some z → (slice_get xs i ≡ Some z) ⊎ ((i ≡ length xs) × (x ≡ z))
place-push [] x z zero e = inr (refl, same_Some x z e)
place-push [] x z (suc i) e = absurd (none-some z e)
place-push (y ∷ xs) x z zero e = inl e
place-push (y ∷ xs) x z (suc i) e = elim (place-push xs x z i e) [ inl f ↦ inl f | inr p ↦ inr (ap suc p.0, p.1) ]

pub rows-none : (graph : List (List ℕ)) (rows : List (Vec Bool Global)) → rows ≡ [] → AreRows graph 0 rows
rows-none graph rows e = record {
  count = ap (λ (l : List (Vec Bool Global)). length l) e;
  each = λ y row f. absurd (none-some row (sym (ap (λ l. slice_get l y) e) ∙ f));
}

pub rows-more : (graph : List (List ℕ)) (n : ℕ) (rows more : List (Vec Bool Global)) (row : Vec Bool Global) → AreRows graph n rows → AreReaching graph n row.items
    → more ≡ rows ++ row ∷ [] → AreRows graph (n + 1) more
rows-more graph n rows more row are reach e = record {
  count = let l = length_push rows row in let k = ap (λ (l : List (Vec Bool Global)). length l) e in let c = are.count in omega arith;
  each = λ y other f. at y other (place-push rows row other y (sym (ap (λ l. slice_get l y) e) ∙ f));
}
  where
    at : (y : ℕ) (other : Vec Bool Global) → (slice_get rows y ≡ Some other) ⊎ ((y ≡ length rows) × (row ≡ other)) → AreReaching graph y other.items
    at y other (inl f) = are.each y other f
    at y other (inr (p, s)) = subst (λ (v : Vec Bool Global). AreReaching graph y v.items) s (subst (λ k. AreReaching graph k row.items) (sym (p ∙ are.count)) reach)

-- the rows of heirs are those of the tables
module _ (t : Tables) (env : Environment) (is : AreTablesOf env t) where
  pub are-heirs : (classes : Classes) → HasReaching (graph_of t.symbols) classes → AreHeirs t classes
  are-heirs classes has x y s class at there = (to, from)
    where
      row-of : (z : ℕ) (q : ℕ) → slice_get (named_symbols t) z ≡ Some q → (row : Vec Bool Global) × (slice_get classes.heirs.items z ≡ Some row)
      row-of z q f =
          let (r, e, _) = number-named t env is z q f in
          let w = slice_get_within t.symbols z r e in
          let l = length-map t.symbols edges_of in
          let c = has.count in
          place-below classes.heirs.items z (omega arith)

      set-in : (row : Vec Bool Global) → slice_get classes.heirs.items y ≡ Some row → inherits_by classes x y ≡ is_set row.items x
      set-in row e = ap (λ o. is_set_in o x) e

      to : IsTrue (inherits_by classes x y) → Inherits t.spec s class
      to h =
          let (row, e) = row-of y class there in
          to-names t env is y class there x s at ((has.each y row e x).0 (sym (set-in row e) ∙ h))

      from : Inherits t.spec s class → IsTrue (inherits_by classes x y)
      from h = let (row, e) = row-of y class there in set-in row e ∙ (has.each y row e x).1 (from-names t env is y class there x s at h)

  -- who leads somewhere is no cell
  pub leads-named : (x y : ℕ) → IsTrue (leads t env is x y) → (s : ℕ) × (slice_get (named_symbols t) x ≡ Some s)
  leads-named x y h = by (slice_get t.symbols x) refl
    where
      no-edge : row_of (graph_of t.symbols) x ≡ [] → (s : ℕ) × (slice_get (named_symbols t) x ≡ Some s)
      no-edge e = absurd (contains-nil y (subst (λ l. Contains l y) e (contains-test y (row_of (graph_of t.symbols) x) h)))

      by : (o : Option SymbolRow) → slice_get t.symbols x ≡ o → (s : ℕ) × (slice_get (named_symbols t) x ≡ Some s)
      by None e = no-edge (ap (λ o. unwrap_or o []) (mapped-none edges_of t.symbols x e))
      by (Some row) e = elim (cases_lt x (length (named_symbols t))) [
        | inl lt ↦ place-below (named_symbols t) x lt
        | inr le ↦ no-edge (row-at t env is x row e ∙ ap (map (λ (class : SymId). class.0)) (past-named t env is x row e le).1)
      ]

  pub is-graph : IsGraph (graph_of t.symbols)
  is-graph x y m =
      let h = test-contains y (row_of (graph_of t.symbols) x) m in
      let (s, e) = leads-named x y h in
      let (c, f, _) = edge-named t env is x s y e h in
      let w = slice_get_within (named_symbols t) y c f in
      let l = length-map t.symbols edges_of in
      let n = is.count in
      omega arith

  -- an edge leads from a symbol to a class exactly where the symbol inherits it directly
  pub heir-same : (T : Numbered t.spec) → T.symbols ≡ named_symbols t → (x y : ℕ) → has_edge (graph_of t.symbols) x y ≡ is_heir t.spec T x y
  heir-same T same x y = subst (λ l. has_edge (graph_of t.symbols) x y ≡ inherits_of t.spec T (slice_get l x) (slice_get l y)) (sym same) (by (slice_get (named_symbols t) x) refl (slice_get (named_symbols t) y) refl)
    where
      no : (IsTrue (leads t env is x y) → ⊥) → leads t env is x y ≡ false
      no h = none (leads t env is x y) refl
        where
          none : (b : Bool) → leads t env is x y ≡ b → leads t env is x y ≡ false
          none true e = absurd (h e)
          none false e = e

      by : (o : Option ℕ) → slice_get (named_symbols t) x ≡ o → (p : Option ℕ) → slice_get (named_symbols t) y ≡ p → leads t env is x y ≡ inherits_of t.spec T o p
      by None e p f = no (λ h. let (s, g) = leads-named x y h in none-some s (sym e ∙ g))
      by (Some s) e None f = no (λ h. let (c, g, _) = edge-named t env is x s y e h in none-some c (sym f ∙ g))
      by (Some s) e (Some c) f = each (inherits_directly t.spec s c) refl
        where
          each : (b : Bool) → inherits_directly t.spec s c ≡ b → leads t env is x y ≡ inherits_directly t.spec s c
          each true g =
              let (z, n, k) = named-edge t env is x s c e g in
              subst (λ w. IsTrue (leads t env is x w)) (one-number (symbol_uses t.spec env) (named_symbols t) is.numbers z y c n f) k ∙ sym g
          each false g = no (λ h. let (d, n, k) = edge-named t env is x s y e h in let same = same_Some d c (sym n ∙ f) in
              let k2 : inherits_directly t.spec s c ≡ true = subst (λ q. inherits_directly t.spec s q ≡ true) same k in true≢false (sym k2 ∙ g)) ∙ sym g
