-- The number of the root, and the names of symbols and cells by their numbers.
use Rattle.std.specs.Prelude.{nat_eq, IsTrue, Contains, filter, slice_get}
use Rattle.std.proofs.Common.{◌≡◌, ℕ, zero, suc, ◌+◌, ◌-◌, ◌<◌, ◌≤◌, ◌⊎◌, inl, inr, List, length, map, Option, Some, None, refl, sym, ap, subst, ◌∙◌, arith, eqb-true, eq-eqb}
use Rattle.std.proofs.lemmas.Bool.{cases_lt}
use Rattle.std.proofs.lemmas.Option.{slice_get_within}
use Rattle.lido_base.specs.Environment.{Environment}
use Rattle.lido_base.proofs.Lists.{contains-here, contains-map, place-contains, place-below}
use Rattle.lido_base.proofs.TreeLemmas.{contains-test}
use Rattle.lido_syntax.specs.declared.spec.Spec.{Spec}
use Rattle.lido_syntax.specs.declared.spec.RuleItem.{RuleItem}
use Rattle.lido_syntax.specs.Production.{left_of, right_of}
use Rattle.lido_symbols.specs.Numbers.{AreNumbered, enumerated}
use Rattle.lido_symbols.specs.Uses.{symbol_uses}
use Rattle.rule_tables.specs.declared.table.Tables.{Tables as Rows}
use Rattle.rule_tables.specs.declared.table.SymbolRow.{SymbolRow}
use Rattle.rule_tables.specs.declared.forced.Forced.{Forced}
use Rattle.rule_tables.specs.PlainRules.{lists}
use Rattle.rule_tables.specs.ForcedOf.{AreForcedOf, AreNumbersOf}
use Rattle.rule_tables.specs.Needs.{Tables as Numbered}
use Rattle.rule_tables.specs.ExpansionFaults.{IsRootNumber, IsNameOf}
use Rattle.rule_tables.specs.TablesOf.{named_symbols}
use Rattle.rule_tables.proofs.SlotLemmas.{number-at_place}
use Rattle.need_graphs.specs.Clear.{AreClear}
use Rattle.need_graphs.proofs.RangeLemmas.{named, filter-part}
use Rattle.need_graphs.proofs.PlaceLemmas.{pair-at, read-at, past, place-of-number}

-- the rule of a list
pub list-rule : (t : Rows) (i : ℕ) → Contains (lists t.spec (named_symbols t)) i → (r : RuleItem) × (slice_get t.spec.rules i ≡ Some r)
list-rule t i m =
    let (z, among, same) = contains-map (λ (x : ℕ × RuleItem). x.0) (filter (λ (x : ℕ × RuleItem). x.1.list) (enumerated 0 t.spec.rules)) i m in
    let at = place-of-number t.spec.rules z (filter-part (λ (x : ℕ × RuleItem). x.1.list) (enumerated 0 t.spec.rules) z among) in
    (z.1, ap (slice_get t.spec.rules) (sym same) ∙ at)

-- a key has one number
module _ (uses : List (ℕ × ℕ)) (keys : List ℕ) (numbered : AreNumbered nat_eq uses keys) where
  -- before each naming of a key that stands twice there would be another one
  descent : (n at j k : ℕ) → at < n → Contains uses (at, j) → j ≡ k
      → ((at j : ℕ) → Contains uses (at, j) → IsTrue (nat_eq j k) → (first : ℕ) × (i : ℕ) × Contains uses (first, i) × IsTrue (nat_eq i k) × (first < at)) → ⊥
  descent zero at j k h m e before = absurd (omega (arith, h))
  descent (suc n) at j k h m e before =
      let (first, i, there, same, less) = before at j m (eq-eqb j k e) in
      descent n first i k (omega arith) there (eqb-true i k same) before

  before-itself : (i j k : ℕ) → slice_get keys i ≡ Some k → slice_get keys j ≡ Some k → i < j → ⊥
  before-itself i j k e f h =
      let (at, m) = numbered.named i k (slice_get_within keys i k e) in
      let ki = read-at keys i k k e in
      descent (suc at) at k k (omega arith) (subst (λ x. Contains uses (at, x)) ki m) refl
      (λ at j' m same. pair-at (λ k l. (at : ℕ) (j : ℕ) → Contains uses (at, j) → IsTrue (nat_eq j l) → (first : ℕ) × (i : ℕ) × Contains uses (first, i) × IsTrue (nat_eq i k) × (first < at))
      keys i j k k numbered.by_place e f h at j' m same)

  one-number : (i j k : ℕ) → slice_get keys i ≡ Some k → slice_get keys j ≡ Some k → i ≡ j
  one-number i j k e f = by (cases_lt i j) (cases_lt j i)
    where
      by : (i < j) ⊎ (j ≤ i) → (j < i) ⊎ (i ≤ j) → i ≡ j
      by (inl h) s = absurd (before-itself i j k e f h)
      by (inr h) (inl g) = absurd (before-itself j i k f e g)
      by (inr h) (inr g) = omega (arith, h, g)

module _ (env : Environment) (forced : Forced) (are : AreForcedOf env forced) (T : Numbered forced.tables.spec) (numbers : AreNumbersOf env forced T) (clear : AreClear forced.tables.spec) where
  abbrev t : Rows
  t = forced.tables

  abbrev spec : Spec
  spec = t.spec

  abbrev root : ℕ
  root = t.root.0

  pub root-number : IsRootNumber spec env T root
  root-number =
      let (s, its, e) = are.tables.root in
      let (r, among, left) = contains-map left_of spec.rules s (contains-test s (map left_of spec.rules) its.0) in
      let m : Contains (named_symbols t) s = subst (λ z. Contains (named_symbols t) z) left (named t env are.tables r among (left_of r) (contains-here (left_of r) (right_of r))) in
      (s, its, ap (λ (l : List ℕ). slice_get l root) numbers.symbols ∙ ap (slice_get (named_symbols t)) e ∙ number-at_place s (named_symbols t) m)

  pub one-root : (x : ℕ) → IsRootNumber spec env T x → x ≡ root
  one-root x (s, its, at) =
      let (q, other, there) = root-number in
      one-number (symbol_uses spec env) T.symbols numbers.numbers.symbols x root q (at ∙ ap Some (clear.roots s q its other)) there

  pub row-name : (x : ℕ) (row : SymbolRow) → slice_get t.symbols x ≡ Some row → IsNameOf spec env T x row.name
  row-name x row at = by (slice_get (named_symbols t) x) refl
    where
      by : (o : Option ℕ) → slice_get (named_symbols t) x ≡ o → IsNameOf spec env T x row.name
      by (Some s) e = inl (ap (λ (l : List ℕ). slice_get l x) numbers.symbols ∙ e ∙ ap Some (sym (are.tables.rows x s row e at).name))
      by None e =
          let l = past (named_symbols t) x e in
          let k = x - length (named_symbols t) in
          let same : x ≡ length (named_symbols t) + k = omega (arith, l) in
          let within = slice_get_within t.symbols x row at in
          let count = are.tables.count in
          let (i, place) = place-below (lists spec (named_symbols t)) k (omega (arith, within, count, l)) in
          let (r, of_list) = list-rule t i (place-contains (lists spec (named_symbols t)) k i place) in
          inr (record {
            k = k;
            i = i;
            rule = r;
            of_list = ap (λ (l : List ℕ). slice_get (lists spec l) k) numbers.symbols ∙ place;
            of_rule = of_list;
            number = same ∙ ap (λ (l : List ℕ). length l + k) (sym numbers.symbols);
            its_name = (are.tables.cells k i r row place of_list (ap (slice_get t.symbols) (sym same) ∙ at)).name;
          })
