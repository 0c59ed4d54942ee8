use Rattle.std.proofs.Common.{◌≡◌, ◌+◌, ◌∙◌, ap, sym, subst, length, get_or, List}
use Rattle.std.proofs.lemmas.Option.{slice_get-get_or}
use Rattle.lido_base.specs.declared.ids.SymId.{SymId}
use Rattle.rule_tables.specs.declared.table.SymbolRow.{SymbolRow}
use Rattle.symbol_inherit.specs.Entries.{attrs_at}
use Rattle.symbol_inherit.specs.Places.{IsPlaceIn}
use Rattle.symbol_inherit.specs.Missing.{IsMissingAt}
use Rattle.symbol_inherit.proofs.RuleLemmas.{rule-at}
use Rattle.symbol_inherit.proofs.MissingLemmas.{right-begin, right-more, right-found, right-end}
use Rattle.symbol_inherit.proofs.missing.missing_on_right_side.Goals as goal

pub loop-k-init : goal.loop-k-init
loop-k-init c = λ env t T r i known numbers own rows places. right-begin t T i

pub loop-k-preserved : goal.loop-k-preserved
loop-k-preserved c = λ env t T r i known numbers own rows places.
    let symbol : SymId = get_or c.args.right.now c.loop-k.k (record { 0 = 0 }) in
    let there = places.each c.loop-k.k symbol (slice_get-get_or c.args.right.now c.loop-k.k (record { 0 = 0 }) c.loop-k-test.true) in
    let occ : c.in_ok-occ.occ ≡ c.loop-k.k + 1 = c.in_ok-occ.ensures in
    right-more t T i c.loop-k.k c.in_ok-occ.occ occ (c.loop-k.invariant env t T r i known numbers own rows places)
    (subst (λ o. IsMissingAt t.spec T i c.in_ok-occ.occ o) c.in_default.is
    (c.missing_right.ensures env t T r i c.loop-k.k there.0 known numbers (rule-at t.spec r c.args.rule.now own c.in_ok-occ.occ)
    (subst (λ o. IsPlaceIn t r i o there.0 symbol.0) (sym occ) there.1) occ
    (ap (λ (l : List SymbolRow). attrs_at l symbol.0) rows ∙ sym c.attributes-attrs.ensures)))

pub returns-in-Some : goal.returns-in-Some
returns-in-Some c = λ env t T r i known numbers own rows places.
    let symbol : SymId = get_or c.args.right.now c.loop-k.k (record { 0 = 0 }) in
    let there = places.each c.loop-k.k symbol (slice_get-get_or c.args.right.now c.loop-k.k (record { 0 = 0 }) c.loop-k-test.true) in
    let occ : c.in_ok-occ.occ ≡ c.loop-k.k + 1 = c.in_ok-occ.ensures in
    right-found t T i c.loop-k.k c.in_ok-occ.occ c.in-Some.name occ (c.loop-k.invariant env t T r i known numbers own rows places)
    (c.in-Some.ensures env t T r i c.loop-k.k there.0 known numbers (rule-at t.spec r c.args.rule.now own c.in_ok-occ.occ)
    (subst (λ o. IsPlaceIn t r i o there.0 symbol.0) (sym occ) there.1) occ
    (ap (λ (l : List SymbolRow). attrs_at l symbol.0) rows ∙ sym c.attributes-attrs.ensures))

pub returns : goal.returns
returns c = λ env t T r i known numbers own rows places.
    right-end t T i r places.of_rule (length c.args.right.now) c.loop-k.k places.all c.loop-k-test.false (c.loop-k.invariant env t T r i known numbers own rows places)
