-- What chains add is what the definition says.
use Rattle.std.specs.Prelude.{slice_get, unwrap_or}
use Rattle.std.proofs.Common.{◌≡◌, ℕ, suc, ◌≤◌, Bool, List, [], ◌∷◌, length, Option, Some, None, refl, sym, ap, subst, ◌∙◌, arith}
use Rattle.std.proofs.lemmas.Slice.Zip.{AllZip-long}
use Rattle.lido_base.specs.Environment.{Environment}
use Rattle.lido_syntax.specs.declared.spec.Typed1.{Typed1}
use Rattle.lido_syntax.specs.Production.{name_of}
use Rattle.lido_symbols.specs.Numbers.{enumerated}
use Rattle.flat_grammar.specs.declared.flat.FlatRule.{FlatRule}
use Rattle.need_graphs.specs.Users.{entries_at}
use Rattle.need_graphs.proofs.EdgeLemmas.{zip-left}
use Rattle.rule_tables.specs.declared.table.SymbolRow.{SymbolRow}
use Rattle.rule_tables.specs.declared.forced.Forced.{Forced}
use Rattle.rule_tables.specs.declared.forced.Force.{Force as Entry}
use Rattle.rule_tables.specs.ForcedOf.{AreForcedOf, AreNumbersOf}
use Rattle.rule_tables.specs.Needs.{Tables as Numbered, Needs}
use Rattle.rule_tables.specs.Shares.{ChainShare}
use Rattle.rule_tables.specs.ExtraOf.{IsExtra, IsOfChains}
use Rattle.chain_expand.specs.declared.walk.Walk.{Walk}
use Rattle.chain_expand.specs.Attrs.{all_attrs}
use Rattle.need_graphs.specs.Clear.{AreClear}
use Rattle.chain_expand.specs.Comps.{walks_at, all_comps}
use Rattle.chain_expand.specs.Needed.{IsNeedOf, AreNeedsOf}
use Rattle.chain_expand.specs.Walks.{IsWalk, AreWalks, AreAllWalks, has_node_in}
use Rattle.chain_expand.proofs.ExtraLemmas.{attrs-each, attrs-all}
use Rattle.chain_expand.proofs.OrderLemmas.{attrs-ordered, comps-ordered}
use Rattle.chain_expand.proofs.ShareLemmas.{comps-computed, comps-compute}

enumerated-count : {X : Type 0} (n : ℕ) (xs : List X) → length (enumerated n xs) ≡ length xs
enumerated-count n [] = refl
enumerated-count n (x ∷ xs) = let l = enumerated-count (suc n) xs in omega (arith, l)

-- there is one set for each chain, and one walk for each set
pub needs-count : (forced : Forced) (chains : List Typed1) (sets : List (List Bool)) → AreNeedsOf forced chains sets → length sets ≡ length chains
needs-count forced chains sets needed = AllZip-long (λ (x : ℕ × Typed1) (row : List Bool). IsNeedOf forced (name_of x.1.name) row) (enumerated 0 chains) sets needed ∙ enumerated-count 0 chains

pub walks-few : (rows : List SymbolRow) (sets : List (List Bool)) (plain : List FlatRule) (comps : List (List Entry)) (walks : List (List Walk)) (n : ℕ) → AreAllWalks rows sets plain comps walks
    → length sets ≤ n → (k : ℕ) → length (walks_at walks k) ≤ n
walks-few rows sets plain comps walks n walked few k = by (slice_get walks k) refl
  where
    by : (o : Option (List Walk)) → slice_get walks k ≡ o → length (walks_at walks k) ≤ n
    by None e = subst (λ (l : List Walk). length l ≤ n) (sym (ap (λ (o : Option (List Walk)). unwrap_or o []) e)) (omega arith)
    by (Some ws) e =
        let (z, there, are) = zip-left (λ (x : ℕ × FlatRule) (ws : List Walk). AreWalks rows sets x.1 (entries_at comps x.0) ws) (enumerated 0 plain) walks k ws walked e in
        let long = AllZip-long (λ (x : ℕ × List Bool) (w : Walk). IsWalk (has_node_in rows z.1.right) x.0 x.1 z.1 (entries_at comps z.0) w) (enumerated 0 sets) ws are ∙ enumerated-count 0 sets in
        subst (λ (l : List Walk). length l ≤ n) (sym (ap (λ (o : Option (List Walk)). unwrap_or o []) e)) (omega (arith, long, few))

pub expanded : (env : Environment) (forced : Forced) (T : Numbered forced.tables.spec) (needs : Needs forced.tables.spec T) → AreForcedOf env forced → AreNumbersOf env forced T → AreClear forced.tables.spec
    → (sets : List (List Bool)) → AreNeedsOf forced forced.tables.spec.chains sets → (walks : List (List Walk)) → AreAllWalks forced.tables.symbols sets forced.tables.plain forced.comps walks
    → IsExtra forced.tables T needs IsOfChains (ChainShare forced.tables.spec T needs)
    (record { attrs = all_attrs sets forced.tables.spec.chains forced.tables.symbols; comps = all_comps walks forced.tables.plain })
expanded env forced T needs are numbers clear sets needed walks walked = record {
  each = attrs-each env forced are T numbers needs clear sets needed;
  all = attrs-all env forced are T numbers needs clear sets needed;
  in_order = attrs-ordered sets forced.tables.spec.chains forced.tables.symbols;
  computed = comps-computed env forced are T numbers needs clear sets needed walks walked;
  computes = λ i k p fs s e. comps-compute env forced are T numbers needs clear sets needed walks walked i k p fs s e;
  comps_in_order = comps-ordered walks forced.tables.plain;
}
