use lib.Pointwise.{bytes_decides}
use Rattle.std.specs.Prelude.{slice_get, is_some}
use Rattle.std.proofs.Common.{◌∙◌, Some, not, ap, sym}
use Rattle.std.proofs.lemmas.Bool.{not-true, not-false, not_from_true}
use Rattle.flat_grammar.specs.declared.flat.FlatSymbol.{FlatSymbol}
use Rattle.subtree_split.proofs.FindLemmas.{one_value, is_none_some, item_at}
use Rattle.subtree_split.proofs.find.is_named.Goals as goal

pub returns-then-ne-clause-no : goal.returns-then-ne-clause-no
returns-then-ne-clause-no c = λ named.
    let is = item_at c.args.flat.now.symbols c.as_slice.result.now c.args.id.0 c.index-as_slice-id.result c.requires.symbol c.as_slice.ensures c.index-as_slice-id.is in
    let same = one_value (slice_get c.args.flat.now.symbols c.args.id.0) named.symbol c.index-as_slice-id.result named.is_symbol is in
    let text = ap (λ (s : FlatSymbol). slice_get c.args.strings.now s.name.0) (sym same) ∙ named.is_named in
    let bytes = one_value (slice_get c.args.strings.now c.index-as_slice-id.result.name.0) c.bytes.result.now c.args.name.now c.bytes.ensures text in
    sym (c.ne.ensures ∙ ap not ((bytes_decides c.bytes.result.now c.as_bytes.result.now).1 (bytes ∙ sym c.as_bytes.ensures.value))) ∙ c.if-ne.true

pub returns-then-is_none-clause-yes : goal.returns-then-is_none-clause-yes
returns-then-is_none-clause-yes c = λ named. record {
  symbol = c.index-as_slice-id.result;
  is_symbol = item_at c.args.flat.now.symbols c.as_slice.result.now c.args.id.0 c.index-as_slice-id.result c.requires.symbol c.as_slice.ensures c.index-as_slice-id.is;
  is_nonterminal = is_none_some c.index-as_slice-id.result.terminal (c.is_none.ensures ∙ not_from_true c.is_none.result c.if-is_none.true);
  is_no_cell = sym c.is_cell.ensures ∙ not-true c.is_cell.result named;
  is_named = c.bytes.ensures ∙ ap Some ((bytes_decides c.bytes.result.now c.as_bytes.result.now).0 (not-false _ (sym c.ne.ensures ∙ c.if-ne.false)) ∙ c.as_bytes.ensures.value);
}

pub returns-else-is_none-clause-no : goal.returns-else-is_none-clause-no
returns-else-is_none-clause-no c = λ named.
    let is = item_at c.args.flat.now.symbols c.as_slice.result.now c.args.id.0 c.index-as_slice-id.result c.requires.symbol c.as_slice.ensures c.index-as_slice-id.is in
    let same = one_value (slice_get c.args.flat.now.symbols c.args.id.0) named.symbol c.index-as_slice-id.result named.is_symbol is in
    not-false c.is_none.result (sym c.is_none.ensures ∙ ap (λ (s : FlatSymbol). is_some s.terminal) (sym same) ∙ ap is_some named.is_nonterminal)
