use Rattle.std.proofs.Common.{◌≡◌, ◌+◌, ◌∙◌, ap, sym, subst, length, get_or, arith, List}
use Rattle.std.proofs.lemmas.Option.{slice_get-get_or}
use Rattle.lido_base.specs.declared.ids.SymId.{SymId}
use Rattle.rule_tables.specs.declared.table.SymbolRow.{SymbolRow}
use Rattle.symbol_inherit.specs.Entries.{attrs_at, AreUpTo, IsOccurrenceOf}
use Rattle.symbol_inherit.proofs.RuleLemmas.{rule-at}
use Rattle.symbol_inherit.proofs.entries.push_right_side.Goals as goal

pub loop-k-preserved : goal.loop-k-preserved
loop-k-preserved c = λ env t p r known own rows right up.
    let symbol : SymId = get_or c.args.right.now c.loop-k.k (record { 0 = 0 }) in
    let there = right c.loop-k.k symbol (slice_get-get_or c.args.right.now c.loop-k.k (record { 0 = 0 }) c.loop-k-test.true) in
    let occ : c.in_ok-occ.occ ≡ c.loop-k.k + 1 = c.in_ok-occ.ensures in
    subst (λ o. AreUpTo t p 0 (o + 1) 0 c.push_attributes.new.entries.items) occ
    (c.in_ok-push_attributes.ensures env t p r there.0 known (rule-at t.spec r c.args.rule.now own c.in_ok-occ.occ)
    (subst (λ o. IsOccurrenceOf t p r o there.0 symbol.0) (sym occ) there.1)
    (ap (λ (l : List SymbolRow). attrs_at l symbol.0) rows ∙ sym c.attributes-attrs.ensures)
    (subst (λ o. AreUpTo t p 0 o 0 c.loop-k.entries.items) (sym occ) (c.loop-k.invariant env t p r known own rows right up)))

pub returns : goal.returns
returns c = λ env t p r known own rows right up.
    let long : c.loop-k.k ≡ length c.args.right.now = omega arith in
    subst (λ n. AreUpTo t p 0 (n + 1) 0 c.loop-k.entries.items) long (c.loop-k.invariant env t p r known own rows right up)
