-- The fault of the first chain that the root needs.
use Rattle.std.specs.Prelude.{nat_eq, IsTrue, Contains, slice_get, option_map}
use Rattle.std.specs.List.{AllZip}
use Rattle.std.proofs.Common.{◌≡◌, ℕ, zero, suc, ◌+◌, ◌-◌, ◌<◌, ◌≤◌, ◌⊎◌, inl, inr, Bool, List, [], ◌∷◌, length, map, Option, Some, None, refl, sym, ap, subst, ◌∙◌, arith, eqb-true, eq-eqb}
use Rattle.std.proofs.lemmas.Bool.{cases_lt}
use Rattle.std.proofs.lemmas.Option.{slice_get_within, slice_get-map}
use Rattle.lido_base.specs.Environment.{Environment}
use Rattle.lido_base.specs.Reach.{IsPath, IsPathFrom}
use Rattle.lido_base.specs.declared.ids.StrId.{StrId}
use Rattle.lido_base.proofs.Lists.{contains-here, contains-map, place-contains, place-below}
use Rattle.lido_base.proofs.ReachLemmas.{path-Reaches, Reaches-path}
use Rattle.lido_base.proofs.TreeLemmas.{contains-test}
use Rattle.lido_syntax.specs.declared.fault.SpecFault.{SpecFault}
use Rattle.lido_syntax.specs.declared.spec.Spec.{Spec}
use Rattle.lido_syntax.specs.declared.spec.Typed1.{Typed1}
use Rattle.lido_syntax.specs.Production.{name_of, left_of, right_of}
use Rattle.lido_symbols.specs.Numbers.{AreNumbered}
use Rattle.lido_symbols.specs.Uses.{symbol_uses}
use Rattle.need_graphs.proofs.RangeLemmas.{named}
use Rattle.rule_tables.specs.declared.table.Tables.{Tables as Rows}
use Rattle.rule_tables.specs.declared.table.SymbolRow.{SymbolRow}
use Rattle.rule_tables.specs.declared.forced.Forced.{Forced}
use Rattle.rule_tables.specs.PlainRules.{lists}
use Rattle.rule_tables.specs.ForcedOf.{AreForcedOf, AreNumbersOf}
use Rattle.rule_tables.specs.Needs.{Tables as Numbered, Needs, uses_chain, passes_chain}
use Rattle.rule_tables.specs.Slots.{chains}
use Rattle.rule_tables.specs.ExpansionFaults.{IsRootNumber, IsNameOf, IsChainNoStart}
use Rattle.rule_tables.specs.TablesOf.{named_symbols}
use Rattle.rule_tables.proofs.SlotLemmas.{number-at_place}
use Rattle.need_graphs.specs.Clear.{AreClear}
use Rattle.chain_expand.specs.Needed.{AreNeedsOf, HasNoPath, IsFirstFault, name_in}
use Rattle.chain_expand.proofs.ExtraLemmas.{needing-below, past, list-rule}
use Rattle.chain_expand.proofs.OrderLemmas.{some-mapped}
use Rattle.chain_expand.proofs.TermLemmas.{pair-at, read-at}

-- a key has one number
module _ (uses : List (ℕ × ℕ)) (keys : List ℕ) (numbered : AreNumbered nat_eq uses keys) where
  -- before each naming of a key that stands twice there would be another one
  descent : (n at j k : ℕ) → at < n → Contains uses (at, j) → j ≡ k
      → ((at j : ℕ) → Contains uses (at, j) → IsTrue (nat_eq j k) → (first : ℕ) × (i : ℕ) × Contains uses (first, i) × IsTrue (nat_eq i k) × (first < at)) → ⊥
  descent zero at j k h m e before = absurd (omega (arith, h))
  descent (suc n) at j k h m e before =
      let (first, i, there, same, less) = before at j m (eq-eqb j k e) in
      descent n first i k (omega arith) there (eqb-true i k same) before

  before-itself : (i j k : ℕ) → slice_get keys i ≡ Some k → slice_get keys j ≡ Some k → i < j → ⊥
  before-itself i j k e f h =
      let (at, m) = numbered.named i k (slice_get_within keys i k e) in
      let ki = read-at keys i k k e in
      descent (suc at) at k k (omega arith) (subst (λ x. Contains uses (at, x)) ki m) refl
      (λ at j' m same. pair-at (λ k l. (at : ℕ) (j : ℕ) → Contains uses (at, j) → IsTrue (nat_eq j l) → (first : ℕ) × (i : ℕ) × Contains uses (first, i) × IsTrue (nat_eq i k) × (first < at))
      keys i j k k numbered.by_place e f h at j' m same)

  one-number : (i j k : ℕ) → slice_get keys i ≡ Some k → slice_get keys j ≡ Some k → i ≡ j
  one-number i j k e f = by (cases_lt i j) (cases_lt j i)
    where
      by : (i < j) ⊎ (j ≤ i) → (j < i) ⊎ (i ≤ j) → i ≡ j
      by (inl h) s = absurd (before-itself i j k e f h)
      by (inr h) (inl g) = absurd (before-itself j i k f e g)
      by (inr h) (inr g) = omega (arith, h, g)

module _ (env : Environment) (forced : Forced) (are : AreForcedOf env forced) (T : Numbered forced.tables.spec) (numbers : AreNumbersOf env forced T) (needs : Needs forced.tables.spec T)
    (clear : AreClear forced.tables.spec) where
  abbrev t : Rows
  t = forced.tables

  abbrev spec : Spec
  spec = t.spec

  abbrev root : ℕ
  root = t.root.0

  abbrev name_at : Typed1 → ℕ
  name_at d = name_of d.name

  root-number : IsRootNumber spec env T root
  root-number =
      let (s, its, e) = are.tables.root in
      let (r, among, left) = contains-map left_of spec.rules s (contains-test s (map left_of spec.rules) its.0) in
      let m : Contains (named_symbols t) s = subst (λ z. Contains (named_symbols t) z) left (named t env are.tables r among (left_of r) (contains-here (left_of r) (right_of r))) in
      (s, its, ap (λ (l : List ℕ). slice_get l root) numbers.symbols ∙ ap (slice_get (named_symbols t)) e ∙ number-at_place s (named_symbols t) m)

  one-root : (x : ℕ) → IsRootNumber spec env T x → x ≡ root
  one-root x (s, its, at) =
      let (q, other, there) = root-number in
      one-number (symbol_uses spec env) T.symbols numbers.numbers.symbols x root q (at ∙ ap Some (clear.roots s q its other)) there

  needs-path : (c : ℕ) → HasNoPath forced c → IsTrue (needs.chain c root) → ⊥
  needs-path c none h =
      let (rest, p) = Reaches-path (uses_chain spec T c) (passes_chain spec T c) root ((needs.chain_exactly c root).0 h) in
      none env T are numbers clear.computations (root ∷ rest) (eq-eqb root root refl, p)

  path-needs : (c : ℕ) (path : List ℕ) → IsPathFrom (nat_eq root) (uses_chain spec T c) (passes_chain spec T c) path → IsTrue (needs.chain c root)
  path-needs c [] p = absurd p
  path-needs c (x ∷ rest) p = subst (λ z. IsTrue (needs.chain c z)) (sym (eqb-true root x p.0)) ((needs.chain_exactly c x).1 (path-Reaches (uses_chain spec T c) (passes_chain spec T c) x rest p.1))

  row-name : (x : ℕ) (row : SymbolRow) → slice_get t.symbols x ≡ Some row → IsNameOf spec env T x row.name
  row-name x row at = by (slice_get (named_symbols t) x) refl
    where
      by : (o : Option ℕ) → slice_get (named_symbols t) x ≡ o → IsNameOf spec env T x row.name
      by (Some s) e = inl (ap (λ (l : List ℕ). slice_get l x) numbers.symbols ∙ e ∙ ap Some (sym (are.tables.rows x s row e at).name))
      by None e =
          let l = past (named_symbols t) x e in
          let k = x - length (named_symbols t) in
          let same : x ≡ length (named_symbols t) + k = omega (arith, l) in
          let within = slice_get_within t.symbols x row at in
          let count = are.tables.count in
          let (i, place) = place-below (lists spec (named_symbols t)) k (omega (arith, within, count, l)) in
          let (r, of_list) = list-rule t i (place-contains (lists spec (named_symbols t)) k i place) in
          inr (record {
            k = k;
            i = i;
            rule = r;
            of_list = ap (λ (l : List ℕ). slice_get (lists spec l) k) numbers.symbols ∙ place;
            of_rule = of_list;
            number = same ∙ ap (λ (l : List ℕ). length l + k) (sym numbers.symbols);
            its_name = (are.tables.cells k i r row place of_list (ap (slice_get t.symbols) (sym same) ∙ at)).name;
          })

  its-name : (x : ℕ) → x < length t.symbols → IsNameOf spec env T x (name_in t.symbols x)
  its-name x l =
      let (row, at) = place-below t.symbols x l in
      subst (IsNameOf spec env T x) (sym (ap (λ (o : Option SymbolRow). elim o as (λ _. StrId) [ None ↦ record { 0 = 0 } | Some row ↦ row.name ]) at)) (row-name x row at)

  pub no-fault : ((i : ℕ) (d : Typed1) → slice_get spec.chains i ≡ Some d → HasNoPath forced (name_at d)) → (g : SpecFault) → IsChainNoStart spec env T needs g → ⊥
  no-fault none g f =
      let (c, at, need) = f.least.there in
      let (d, place, same) = some-mapped name_at (slice_get spec.chains f.i) c (sym (slice_get-map name_at spec.chains f.i) ∙ at) in
      let e = one-root f.root f.its_root in
      needs-path (name_at d) (none f.i d place) (subst (λ z. IsTrue (needs.chain (name_at d) z)) e (subst (λ z. IsTrue (needs.chain z f.root)) (sym same) need))

  module _ (sets : List (List Bool)) (needed : AreNeedsOf forced spec.chains sets) where
    name-here : (i : ℕ) (d : Typed1) → slice_get spec.chains i ≡ Some d → (x : ℕ) (rest : List ℕ) → IsPath (uses_chain spec T (name_at d)) (passes_chain spec T (name_at d)) (x ∷ rest)
        → IsNameOf spec env T x (name_in t.symbols x)
    name-here i d at x rest p = its-name x (needing-below env forced are T numbers needs clear sets needed i d at x
        ((needs.chain_exactly (name_at d) x).1 (path-Reaches (uses_chain spec T (name_at d)) (passes_chain spec T (name_at d)) x rest p)))

    names-of : (i : ℕ) (d : Typed1) → slice_get spec.chains i ≡ Some d → (x : ℕ) (rest : List ℕ) → IsPath (uses_chain spec T (name_at d)) (passes_chain spec T (name_at d)) (x ∷ rest)
        → AllZip (IsNameOf spec env T) (x ∷ rest) (map (name_in t.symbols) (x ∷ rest))
    names-of i d at x [] p = (name-here i d at x [] p, tt)
    names-of i d at x (y ∷ more) p = (name-here i d at x (y ∷ more) p, names-of i d at y more p.1)

    path-names : (i : ℕ) (d : Typed1) → slice_get spec.chains i ≡ Some d → (path : List ℕ) → IsPathFrom (nat_eq root) (uses_chain spec T (name_at d)) (passes_chain spec T (name_at d)) path
        → AllZip (IsNameOf spec env T) path (map (name_in t.symbols) path)
    path-names i d at [] p = absurd p
    path-names i d at (x ∷ rest) p = names-of i d at x rest p.1

    pub first-fault : (f : SpecFault) → IsFirstFault forced f → IsChainNoStart spec env T needs f
    first-fault f first =
        let c = name_at first.chain in
        let (path, its_path, is) = first.its_fault in
        let least = its_path env T are numbers clear.computations in
        let at : slice_get (chains spec T needs) first.i ≡ Some c = slice_get-map name_at spec.chains first.i ∙ ap (option_map name_at) first.at in
        record {
          root = root;
          its_root = root-number;
          i = first.i;
          chain = first.chain.name.id;
          least = record {
            there = (c, at, path-needs c path least.is);
            least = λ j other. elim (cases_lt j first.i) [
              | inl l ↦
                  let (d, place, same) = some-mapped name_at (slice_get spec.chains j) other.0 (sym (slice_get-map name_at spec.chains j) ∙ other.1) in
                  absurd (needs-path (name_at d) (first.first j d l place) (subst (λ z. IsTrue (needs.chain z root)) (sym same) other.2))
              | inr l ↦ l
            ];
          };
          of_number = at;
          numbers = path;
          least_path = least;
          path = map (name_in t.symbols) path;
          names = path-names first.i first.chain first.at path least.is;
          fault = is;
        }
