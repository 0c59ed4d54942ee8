-- The sets that are made are those of the definition, in order, with their users.
use Rattle.std.specs.Prelude.{IsTrue, Contains, slice_get, map, filter, option_map, ◌↔◌}
use Rattle.std.specs.List.{AllZip, list_any}
use Rattle.std.proofs.Common.{◌≡◌, ◌∙◌, ℕ, ◌<◌, inl, inr, Bool, List, [], Some, refl, sym, ap, subst, arith}
use Rattle.std.proofs.lemmas.Bool.{cases_lt}
use Rattle.std.proofs.lemmas.Option.{same_Some, slice_get-map}
use Rattle.lido_base.specs.Environment.{Environment}
use Rattle.lido_base.proofs.Lists.{contains-map, map-contains, contains-flat, flat-contains, contains-place, place-contains}
use Rattle.lido_syntax.specs.declared.spec.Spec.{Spec}
use Rattle.lido_syntax.specs.declared.spec.Pair.{Pair}
use Rattle.lido_syntax.specs.declared.spec.Comp.{Comp}
use Rattle.lido_syntax.specs.declared.spec.Expr.{Expr, Including}
use Rattle.lido_syntax.specs.Parts.{leaves, leaves_of, expressions_of}
use Rattle.lido_symbols.specs.FromText.{IsFromText}
use Rattle.lido_symbols.specs.Uses.{computations, all_includings, is_same_set}
use Rattle.least_paths.specs.Graph.{is_in}
use Rattle.rule_tables.specs.declared.table.SymbolRow.{SymbolRow}
use Rattle.rule_tables.specs.declared.forced.Forced.{Forced}
use Rattle.rule_tables.specs.ForcedOf.{AreForcedOf, AreNumbersOf}
use Rattle.rule_tables.specs.Needs.{Tables as Numbered, is_including, uses_including}
use Rattle.rule_tables.proofs.NeedsLemmas.{any-found}
use Rattle.need_graphs.specs.Clear.{AreClear}
use Rattle.need_graphs.proofs.ListLemmas.{contains-filtered, filtered-contains}
use Rattle.need_graphs.proofs.EdgeLemmas.{zip-left, zip-right, found-any}
use Rattle.need_graphs.proofs.OrderLemmas.{Pairs}
use Rattle.need_graphs.proofs.PlaceLemmas.{pair-at, pairs-from}
use Rattle.need_graphs.proofs.RangeLemmas.{filter-part, filter-kept}
use Rattle.remote_lists.specs.declared.symbols.Symbols.{Symbols}
use Rattle.remote_lists.specs.Listings.{AreSymbols}
use Rattle.including_sets.specs.declared.uses.Use.{Use}
use Rattle.including_sets.specs.declared.listings.ListedAttr.{ListedAttr}
use Rattle.including_sets.specs.declared.listings.Listing.{Listing}
use Rattle.including_sets.specs.Uses.{Standing, told, use_of, uses_in, uses_of, text_uses, AreUses}
use Rattle.including_sets.specs.Firsts.{firsts}
use Rattle.including_sets.specs.Listings.{is_same_listing, computation_of}
use Rattle.including_sets.specs.Keys.{listed_attrs, IsListing}
use Rattle.including_sets.specs.Made.{AreContexts, numbers_like}
use Rattle.including_sets.proofs.UseLemmas.{placed, text-same, kept-use}
use Rattle.including_sets.proofs.FirstLemmas.{all-pairs}
use Rattle.including_sets.proofs.NumberingLemmas.{one-numbering, kept-first, kept-numbered}
use Rattle.including_sets.proofs.SameLemmas.{filter-passes, set-itself, set-flips, listing-decides}
use Rattle.including_sets.proofs.KeyLemmas.{key-to, key-from}

abbrev pub code : Listing → List ListedAttr
code l = l.attrs.now

abbrev pub pairs_of : Listing → List Pair
pairs_of l = l.one.pairs.now

abbrev pub place_of : Listing → ℕ
place_of l = l.one.at

-- of a text that was read a place tells the INCLUDING
module _ (spec : Spec) (from : IsFromText spec) where
  apart : (i j : ℕ) (x y : ℕ × List Pair) → slice_get (all_includings spec) i ≡ Some x → slice_get (all_includings spec) j ≡ Some y → i < j → x.0 ≡ y.0 → ⊥
  apart i j x y ei ej less = pair-at (λ (x y : ℕ × List Pair). x.0 ≡ y.0 → ⊥) (all_includings spec) i j x y from.includings_apart ei ej less

  pub one-place : (at : ℕ) (p q : List Pair) → Contains (all_includings spec) (at, p) → Contains (all_includings spec) (at, q) → p ≡ q
  one-place at p q m n =
      let (i, ei) = contains-place (all_includings spec) (at, p) m in
      let (j, ej) = contains-place (all_includings spec) (at, q) n in
      elim (cases_lt i j) [
        | inl lt ↦ absurd (apart i j (at, p) (at, q) ei ej lt refl)
        | inr ge ↦ elim (cases_lt j i) [
          | inl lt ↦ absurd (apart j i (at, q) (at, p) ej ei lt refl)
          | inr le ↦ (let e : i ≡ j = omega (arith, ge, le) in ap (λ (z : ℕ × List Pair). z.1) (same_Some _ _ (sym ei ∙ ap (slice_get (all_includings spec)) e ∙ ej)))
        ]
      ]

leaf-including : (spec : Spec) (T : Numbered spec) (pairs : List Pair) (e : Expr) → IsTrue (is_including spec T pairs e) → (at : ℕ) × (q : List Pair) × (e ≡ Including at q) × IsTrue (is_same_set spec T.sets q pairs)
leaf-including spec T pairs (Including at q) h = (at, q, refl, h)
leaf-including spec T pairs _ h = absurd (cc)

module _ (forced : Forced) (symbols : Symbols) (inherit : AreSymbols forced.tables.spec symbols) (uses : List Use) (are_uses : AreUses forced.tables.spec (map told uses)) (ls : List Listing)
    (listings : AllZip (IsListing (λ u. listed_attrs symbols forced.tables.symbols u.pairs.now)) uses ls) where
  abbrev spec : Spec
  spec = forced.tables.spec

  abbrev rows : List SymbolRow
  rows = forced.tables.symbols

  abbrev attrs_of : Use → List ListedAttr
  attrs_of u = listed_attrs symbols rows u.pairs.now

  abbrev kept : List Listing
  kept = firsts is_same_listing [] ls

  use-of : (l : Listing) → Contains ls l → (u : Use) × Contains uses u × IsListing attrs_of u l
  use-of l m =
      let (i, at) = contains-place ls l m in
      let (u, there, its) = zip-left (IsListing attrs_of) uses ls i l listings at in
      (u, place-contains uses i u there, its)

  listing-of : (u : Use) → Contains uses u → (l : Listing) × Contains ls l × IsListing attrs_of u l
  listing-of u m =
      let (i, at) = contains-place uses u m in
      let (l, there, its) = zip-right (IsListing attrs_of) uses ls i u listings at in
      (l, place-contains ls i l there, its)

  use-there : (u : Use) → Contains uses u → Contains (text_uses spec) (told u)
  use-there u m = (are_uses.all (told u)).0 (map-contains told uses u m)

  pub to-uses : (l : Listing) → Contains ls l → Contains (all_includings spec) (place_of l, pairs_of l)
  to-uses l m =
      let (u, mu, its) = use-of l m in
      subst (λ (w : Use). Contains (all_includings spec) (w.at, w.pairs.now)) (sym its.one)
      (subst (λ z. Contains z (u.at, u.pairs.now)) (text-same spec) (map-contains placed (text_uses spec) (told u) (use-there u mu)))

  -- the listing of what stands in the text
  listing-there : (s : Standing) → Contains (text_uses spec) s → (l : Listing) × Contains ls l × (told l.one ≡ s)
  listing-there s m =
      let (u, mu, e) = contains-map told uses s ((are_uses.all s).1 m) in
      let (l, ml, its) = listing-of u mu in
      (l, ml, ap told its.one ∙ e)

  from-uses : (at : ℕ) (k : List Pair) → Contains (all_includings spec) (at, k) → (l : Listing) × Contains ls l × (place_of l ≡ at) × (pairs_of l ≡ k)
  from-uses at k m =
      let (s, ms, e) = contains-map placed (text_uses spec) (at, k) (subst (λ z. Contains z (at, k)) (sym (text-same spec)) m) in
      let (l, ml, f) = listing-there s ms in
      (l, ml, ap (λ (z : Standing). z.at) f ∙ ap (λ (z : ℕ × List Pair). z.0) e, ap (λ (z : Standing). z.pairs) f ∙ ap (λ (z : ℕ × List Pair). z.1) e)

  module _ (env : Environment) (T : Numbered forced.tables.spec) (are : AreForcedOf env forced) (numbers : AreNumbersOf env forced T) (clear : AreClear forced.tables.spec) (from : IsFromText forced.tables.spec) where
    sorted : Pairs (λ (x y : Listing). place_of x < place_of y) ls
    sorted = all-pairs (λ (x y : Listing). place_of x < place_of y) ls (pairs-from (λ (x y : Listing). place_of x < place_of y) ls (λ i j x y less ex ey.
        let (u, at_u, iu) = zip-left (IsListing attrs_of) uses ls i x listings ex in
        let (v, at_v, iv) = zip-left (IsListing attrs_of) uses ls j y listings ey in
        let below = pair-at (λ (a b : Standing). a.at < b.at) (map told uses) i j (told u) (told v) (are_uses.in_order from)
        (slice_get-map told uses i ∙ ap (option_map told) at_u) (slice_get-map told uses j ∙ ap (option_map told) at_v) less in
        let p = ap (λ (w : Use). w.at) iu.one in
        let q = ap (λ (w : Use). w.at) iv.one in
        omega (arith, below, p, q)))

    code-is : (l : Listing) → Contains ls l → code l ≡ listed_attrs symbols rows (pairs_of l)
    code-is l m = let (u, mu, its) = use-of l m in its.attrs ∙ ap attrs_of (sym its.one)

    told-same : (x y : Listing) → Contains ls x → Contains ls y → (code x ≡ code y) ↔ IsTrue (is_same_set spec T.sets (pairs_of x) (pairs_of y))
    told-same x y mx my = (
      (λ e. key-to env forced.tables are.tables clear symbols inherit T.sets (pairs_of x) (pairs_of y) (sym (code-is x mx) ∙ e ∙ code-is y my)),
      (λ h. code-is x mx ∙ key-from env forced.tables are.tables clear symbols inherit T.sets (pairs_of x) (pairs_of y) h ∙ sym (code-is y my)),
    )

    -- the numbers are those of the sets
    pub includings-are : T.includings ≡ map pairs_of kept
    includings-are = one-numbering (is_same_set spec T.sets) (set-itself spec T.sets) (set-flips spec T.sets) (all_includings spec) (one-place spec from) T.includings (map pairs_of kept)
        numbers.numbers.includings numbers.numbers.first_includings
        (kept-numbered (is_same_set spec T.sets) (set-itself spec T.sets) (set-flips spec T.sets) (all_includings spec) is_same_listing code listing-decides place_of pairs_of ls sorted from-uses to-uses told-same)
        (kept-first (is_same_set spec T.sets) (set-itself spec T.sets) (set-flips spec T.sets) (all_includings spec) is_same_listing code listing-decides place_of pairs_of ls sorted from-uses to-uses told-same)

    module _ (l : Listing) (ml : Contains ls l) where
      -- an INCLUDING of the set stands in computations of these numbers
      number-of : (c : Comp) → Contains (computations spec) c → IsTrue (list_any (is_including spec T (pairs_of l)) (leaves_of c)) → Contains (numbers_like ls l) c.number
      number-of c mc h =
          let (e, of, b) = any-found (is_including spec T (pairs_of l)) (leaves_of c) h in
          let (at, q, is, same) = leaf-including spec T (pairs_of l) e b in
          let s : Standing = record { comp = c.number; at = at; pairs = q } in
          let (x, mx, here) = contains-flat leaves (expressions_of c) (Including at q) (subst (λ z. Contains (leaves_of c) z) is of) in
          let there : Contains (text_uses spec) s = flat-contains uses_of (computations spec) c s mc
          (flat-contains (uses_in c.number) (expressions_of c) x s mx (filtered-contains (use_of c.number) (leaves x) (Including at q) s here refl)) in
          let (m, mm, f) = listing-there s there in
          let equal : code m ≡ code l = (told-same m l mm ml).1 (subst (λ z. IsTrue (is_same_set spec T.sets z (pairs_of l))) (sym (ap (λ (z : Standing). z.pairs) f)) same) in
          let number : computation_of m ≡ c.number = ap (λ (z : Standing). z.comp) f in
          subst (Contains (numbers_like ls l)) number
          (map-contains computation_of (filter (λ other. is_same_listing l other) ls) m (filter-kept (λ other. is_same_listing l other) ls m mm ((listing-decides l m).1 (sym equal))))

      number-used : (c : Comp) → Contains (computations spec) c → Contains (numbers_like ls l) c.number → IsTrue (list_any (is_including spec T (pairs_of l)) (leaves_of c))
      number-used c mc n =
          let (m, mf, e) = contains-map computation_of (filter (λ other. is_same_listing l other) ls) c.number n in
          let mm = filter-part (λ other. is_same_listing l other) ls m mf in
          let equal : code m ≡ code l = sym ((listing-decides l m).0 (filter-passes (λ other. is_same_listing l other) ls m mf)) in
          let same = (told-same m l mm ml).0 equal in
          let (u, mu, its) = use-of m mm in
          let (d, md, in_d) = contains-flat uses_of (computations spec) (told u) (use-there u mu) in
          let (x, mx, in_x) = contains-flat (uses_in d.number) (expressions_of d) (told u) in_d in
          let (leaf, of_x, made) = contains-filtered (use_of d.number) (leaves x) (told u) in_x in
          let (is, number) = kept-use d.number leaf (told u) made in
          let one : d ≡ c = clear.computations d c md mc (sym number ∙ sym (ap (λ (w : Use). w.comp) its.one) ∙ e) in
          let there : Contains (leaves_of c) (Including u.at u.pairs.now) = subst (λ (k : Comp). Contains (leaves_of k) (Including u.at u.pairs.now)) one
          (flat-contains leaves (expressions_of d) x (Including u.at u.pairs.now) mx (subst (λ z. Contains (leaves x) z) is of_x)) in
          found-any (is_including spec T (pairs_of l)) (leaves_of c) (Including u.at u.pairs.now) there
          (subst (λ (w : Use). IsTrue (is_same_set spec T.sets w.pairs.now (pairs_of l))) its.one same)

      pub users-are : (set : List Bool) → AreContexts forced (numbers_like ls l) set → (x : ℕ) → IsTrue (is_in set x) ↔ IsTrue (uses_including spec T (pairs_of l) x)
      users-are set contexts = contexts env T are numbers (λ c. list_any (is_including spec T (pairs_of l)) (leaves_of c)) (λ c mc. (number-of c mc, number-used c mc))
