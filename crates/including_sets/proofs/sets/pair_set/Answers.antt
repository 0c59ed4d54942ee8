use Rattle.std.proofs.Common.{◌≡◌, ◌∙◌, ℕ, Bool, List, length, map, ap, sym, subst}
use Rattle.std.proofs.lemmas.List.{length-map}
use Rattle.lido_syntax.specs.declared.spec.Pair.{Pair}
use Rattle.rule_tables.specs.declared.table.SymbolRow.{SymbolRow}
use Rattle.remote_lists.specs.Listings.{is_listed_by}
use Rattle.remote_lists.specs.Sources.{source_by}
use Rattle.including_sets.specs.Types.{IsSetType}
use Rattle.including_sets.specs.Made.{AreContexts, numbers_like}
use Rattle.including_sets.proofs.sets.pair_set.Goals as goal

pub returns : goal.returns
returns c =
    let forced = c.args.forced.now in
    let symbols = c.args.symbols.now in
    let rows = forced.tables.symbols in
    let first = c.args.first.now in
    let pairs = first.one.pairs.now in
    let ty = c.set_type.result in
    let listed : c.from_vec.result ≡ map (is_listed_by symbols pairs) rows = c.from_vec.ensures ∙ c.in_ok-listed.ensures ∙ (λ i. map (is_listed_by symbols (c.as_slice-pairs.ensures i)) (c.as_slice-rows.ensures i)) in
    let sources : c.from_vec-2.result ≡ map (source_by symbols pairs) rows = c.from_vec-2.ensures ∙ c.in_ok-sources.ensures ∙ (λ i. map (source_by symbols (c.as_slice-pairs.ensures i)) (c.as_slice-rows.ensures i)) in
    record {
      counted = record {
        listed = ap length listed ∙ length-map rows (is_listed_by symbols pairs);
        sources = ap length sources ∙ length-map rows (source_by symbols pairs);
        users = ap length c.from_vec-3.ensures ∙ c.in_ok-users.ensures.count;
      };
      listed = listed;
      sources = sources;
      ty = subst (λ (l : List SymbolRow). IsSetType symbols pairs l ty) c.as_slice-rows.ensures (subst (λ (l : List Pair). IsSetType symbols l c.as_slice-rows.result.now ty) c.as_slice-pairs.ensures c.set_type.ensures);
      users = subst (λ (set : List Bool). AreContexts forced (numbers_like c.args.listings.now first) set) (sym c.from_vec-3.ensures)
          (subst (λ (ns : List ℕ). AreContexts forced ns c.in_ok-users.users.items) (c.deref.ensures.value ∙ c.in_ok-numbers.ensures) c.in_ok-users.ensures.exactly);
    }
