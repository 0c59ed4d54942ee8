-- Who needs a set of INCLUDINGs, and the fault of the first that the root needs, are those of the definition.
use Rattle.std.specs.Prelude.{nat_eq, not, ◌&&◌, IsTrue, Contains, is_some, slice_get}
use Rattle.std.specs.List.{AllZip}
use Rattle.std.proofs.Common.{◌≡◌, ◌∙◌, ℕ, ◌<◌, inl, inr, Bool, List, [], ◌∷◌, length, map, Some, refl, sym, ap, subst, arith, eqb-true, eq-eqb}
use Rattle.std.proofs.lemmas.Bool.{cases_lt}
use Rattle.lido_base.specs.Environment.{Environment}
use Rattle.lido_base.specs.Reach.{Reaches, source, edge, IsPathFrom, IsLeastPath}
use Rattle.lido_base.proofs.Lists.{place-contains}
use Rattle.lido_base.proofs.ReachLemmas.{path-Reaches, Reaches-path}
use Rattle.lido_base.proofs.TreeLemmas.{both}
use Rattle.lido_syntax.specs.declared.fault.SpecFault.{SpecFault}
use Rattle.lido_syntax.specs.declared.spec.Spec.{Spec}
use Rattle.lido_syntax.specs.declared.spec.Pair.{Pair}
use Rattle.least_paths.specs.Graph.{has_edge, is_in}
use Rattle.least_paths.proofs.GraphLemmas.{edge-test, edge-below}
use Rattle.least_paths.proofs.AgreeLemmas.{agree-Reaches, agree-least}
use Rattle.need_graphs.specs.Clear.{AreClear}
use Rattle.need_graphs.proofs.EdgeLemmas.{zip-left, zip-right}
use Rattle.need_graphs.proofs.ListLemmas.{same-bool}
use Rattle.need_graphs.proofs.NameLemmas.{root-number, one-root}
use Rattle.need_graphs.proofs.PlaceLemmas.{in-below}
use Rattle.rule_tables.specs.declared.table.Tables.{Tables as Rows}
use Rattle.rule_tables.specs.declared.forced.Forced.{Forced}
use Rattle.rule_tables.specs.ForcedOf.{AreForcedOf, AreNumbersOf}
use Rattle.rule_tables.specs.Needs.{Tables as Numbered, Needs, NeedsIncluding, listed_at, uses_including, passes_including}
use Rattle.rule_tables.specs.ExpansionFaults.{IsNoIncluding}
use Rattle.remote_lists.specs.declared.symbols.Symbols.{Symbols}
use Rattle.remote_lists.specs.Listings.{AreSymbols}
use Rattle.remote_lists.specs.Paths.{name_in}
use Rattle.remote_lists.specs.Reach.{IsChildGraph}
use Rattle.remote_lists.proofs.ListingLemmas.{listed-same}
use Rattle.remote_lists.proofs.PathLemmas.{path-names}
use Rattle.remote_lists.proofs.ReachLemmas.{child-edge}
use Rattle.including_sets.specs.declared.sets.PairSet.{PairSet}
use Rattle.including_sets.specs.Sets.{IsSetOf}
use Rattle.including_expand.specs.Needed.{IsOver, passes, IsNeedOf, IsPathOf, HasNoPath, IsFirstFault}

-- whoever reaches a user is a vertex
reaching-below : (graph : List (List ℕ)) (set : PairSet) → IsOver graph set → (x : ℕ) → Reaches (is_in set.users) (passes graph set) x → x < length graph
reaching-below graph set over x (source h) = let l = in-below set.users x h in let e = over.users in omega (arith, l, e)
reaching-below graph set over x (edge {c = c} h r) = edge-below graph x c (edge-test graph x c (both (not (is_in set.listed x)) (has_edge graph x c) h).1)

module _ (env : Environment) (forced : Forced) (are : AreForcedOf env forced) (T : Numbered forced.tables.spec) (numbers : AreNumbersOf env forced T) (needs : Needs forced.tables.spec T)
    (clear : AreClear forced.tables.spec) (symbols : Symbols) (inherit : AreSymbols forced.tables.spec symbols) (graph : List (List ℕ)) (its : IsChildGraph forced.tables graph) where
  abbrev t : Rows
  t = forced.tables

  abbrev spec : Spec
  spec = t.spec

  abbrev root : ℕ
  root = t.root.0

  module _ (pairs : List Pair) (set : PairSet) (is : IsSetOf forced symbols T pairs set) where
    listed-is : (x : ℕ) → is_in set.listed x ≡ is_some (listed_at spec T pairs x)
    listed-is x = ap (λ (l : List Bool). is_in l x) is.listed ∙ listed-same env t are.tables clear symbols inherit T numbers.symbols pairs x

    passes-is : (x y : ℕ) → passes graph set x y ≡ passes_including spec T pairs x y
    passes-is x y = λ q. not (listed-is x q) && child-edge t graph its T.symbols numbers.symbols x y q

    edge-to : (x y : ℕ) → IsTrue (passes graph set x y) → IsTrue (passes_including spec T pairs x y)
    edge-to x y h = sym (passes-is x y) ∙ h

    edge-from : (x y : ℕ) → IsTrue (passes_including spec T pairs x y) → IsTrue (passes graph set x y)
    edge-from x y h = passes-is x y ∙ h

    reach-to : (x : ℕ) → Reaches (is_in set.users) (passes graph set) x → NeedsIncluding spec T pairs x
    reach-to = agree-Reaches (is_in set.users) (uses_including spec T pairs) (passes graph set) (passes_including spec T pairs) (λ x. (is.users x).0) edge-to

    reach-from : (x : ℕ) → NeedsIncluding spec T pairs x → Reaches (is_in set.users) (passes graph set) x
    reach-from = agree-Reaches (uses_including spec T pairs) (is_in set.users) (passes_including spec T pairs) (passes graph set) (λ x. (is.users x).1) edge-from

    -- who needs it by its row
    pub in-row : (row : List Bool) → IsNeedOf graph set row → (x : ℕ) → is_in row x ≡ needs.including pairs x
    in-row row need x =
        let e = need.exactly x in
        let f = needs.including_exactly pairs x in
        same-bool (is_in row x) (needs.including pairs x) (λ h. f.1 (reach-to x (e.0 h))) (λ h. e.1 (reach-from x (f.0 h)))

    pub needing-below : IsOver graph set → (x : ℕ) → IsTrue (needs.including pairs x) → x < length t.symbols
    needing-below over x h = let l = reaching-below graph set over x (reach-from x ((needs.including_exactly pairs x).0 h)) in let e = its.count in omega (arith, l, e)

    needs-path : HasNoPath graph root set → IsTrue (needs.including pairs root) → ⊥
    needs-path none h =
        let (rest, p) = Reaches-path (is_in set.users) (passes graph set) root (reach-from root ((needs.including_exactly pairs root).0 h)) in
        none (root ∷ rest) (eq-eqb root root refl, p)

    path-is : (path : List ℕ) → IsPathOf graph root set path → IsLeastPath (nat_eq root) (uses_including spec T pairs) (passes_including spec T pairs) path
    path-is path least = agree-least (nat_eq root) (nat_eq root) (is_in set.users) (uses_including spec T pairs) (passes graph set) (passes_including spec T pairs) (λ x. ((λ h. h), (λ h. h))) is.users
        (λ x y. (edge-to x y, edge-from x y)) path least

    path-needs : (path : List ℕ) → IsPathFrom (nat_eq root) (uses_including spec T pairs) (passes_including spec T pairs) path → IsTrue (needs.including pairs root)
    path-needs [] p = absurd p
    path-needs (x ∷ rest) p = subst (λ z. IsTrue (needs.including pairs z)) (sym (eqb-true root x p.0))
        ((needs.including_exactly pairs x).1 (path-Reaches (uses_including spec T pairs) (passes_including spec T pairs) x rest p.1))

  module _ (sets : List PairSet) (are_sets : AllZip (IsSetOf forced symbols T) T.includings sets) where
    set-of : (i : ℕ) (pairs : List Pair) → slice_get T.includings i ≡ Some pairs → (set : PairSet) × (slice_get sets i ≡ Some set) × IsSetOf forced symbols T pairs set
    set-of i pairs at = zip-right (IsSetOf forced symbols T) T.includings sets i pairs are_sets at

    pub no-fault : ((i : ℕ) (set : PairSet) → slice_get sets i ≡ Some set → HasNoPath graph root set) → (g : SpecFault) → IsNoIncluding spec env T needs g → ⊥
    no-fault none g f =
        let (pairs, at, need) = f.least.there in
        let (set, place, is) = set-of f.i pairs at in
        needs-path pairs set is (none f.i set place) (subst (λ z. IsTrue (needs.including pairs z)) (one-root env forced are T numbers clear f.root f.its_root) need)

    pub first-fault : ((set : PairSet) → Contains sets set → IsOver graph set) → (f : SpecFault) → IsFirstFault t graph sets f → IsNoIncluding spec env T needs f
    first-fault over f first =
        let set = first.set in
        let (pairs, at, is) = zip-left (IsSetOf forced symbols T) T.includings sets first.i set are_sets first.at in
        let (path, its_path, made) = first.its_fault in
        let least = path-is pairs set is path its_path in
        record {
          root = root;
          its_root = root-number env forced are T numbers clear;
          i = first.i;
          pairs = pairs;
          least = record {
            there = (pairs, at, path-needs pairs set is path least.is);
            least = λ j other. elim (cases_lt j first.i) [
              | inl l ↦
                  let (earlier, place, of) = set-of j other.0 other.1 in
                  absurd (needs-path other.0 earlier of (first.first j earlier l place) other.2)
              | inr l ↦ l
            ];
          };
          of_number = at;
          numbers = path;
          least_path = least;
          path = map (name_in t.symbols) path;
          names = path-names env forced are T numbers clear (uses_including spec T pairs) (passes_including spec T pairs)
              (λ x r. needing-below pairs set is (over set (place-contains sets first.i set first.at)) x ((needs.including_exactly pairs x).1 r)) (nat_eq root) path least.is;
          fault = made;
        }
