use Rattle.std.proofs.Common.{◌∙◌, ap, subst, List}
use Rattle.lido_syntax.specs.declared.spec.SymbolItem.{SymbolItem}
use Rattle.rule_tables.specs.declared.table.SymbolRow.{SymbolRow}
use Rattle.symbol_inherit.specs.Notes.{all_notes}
use Rattle.symbol_inherit.specs.Index.{Holds}
use Rattle.symbol_inherit.specs.declared.notes.Note.{Note}
use Rattle.symbol_inherit.proofs.OwnLemmas.{has-own}
use Rattle.symbol_inherit.proofs.symbols.body_index.Goals as goal

pub returns : goal.returns
returns c =
    let rows = ap (λ (l : List SymbolRow). all_notes l c.as_slice-items.result.now) c.as_slice-rows.ensures in
    let items = ap (λ (l : List SymbolItem). all_notes c.args.tables.now.symbols l) c.as_slice-items.ensures in
    has-own c.args.tables.now c.requires.tables.0 c.requires.tables.1 c.in_ok-index.index
    (subst (λ (l : List Note). Holds l c.in_ok-index.index) (c.deref.ensures.value ∙ c.in_ok-notes.ensures ∙ rows ∙ items) c.in_ok-index.ensures)
