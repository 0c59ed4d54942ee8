use Rattle.std.proofs.Common.{◌∙◌, List, [], length, ap, inr, refl, subst}
use Rattle.std.specs.List.{AllZip}
use Rattle.lido_base.specs.Environment.{Environment}
use Rattle.lido_symbols.specs.Numbers.{enumerated}
use Rattle.rule_tables.specs.declared.table.SymbolRow.{SymbolRow}
use Rattle.rule_tables.proofs.LaterTexts.{no-more}
use Rattle.flat_symbols.proofs.SymbolLemmas.{IsAt, few-each, not-many, too-many, are-symbols}
use Rattle.flat_symbols.proofs.grammar.flat_symbols.Goals as goal

pub returns-clause-symbols : goal.returns-clause-symbols
returns-clause-symbols c early env T needs later are numbers clear none of_including of_constituents slots =
    let table = c.args.table.now in
    let texts = c.args.strings.now in
    let told = c.in_ok-added.added in
    let symbols = c.in_ok-symbols_of.field-0.items in
    are-symbols early env c.args.forced.now are T numbers needs clear none c.args.including.now c.args.constituents.now of_including of_constituents
    table slots texts c.requires told c.in_ok-added.ensures
    symbols (c.in_ok-symbols_of.ensures.count ∙ ap length c.as_slice-rows.ensures)
    (subst (λ (rows : List SymbolRow). AllZip (IsAt env (length texts) told table) (enumerated 0 rows) symbols) c.as_slice-rows.ensures
    (c.in_ok-symbols_of.ensures.symbols env later))

pub returns-clause-few : goal.returns-clause-few
returns-clause-few c =
    let new = c.symbols_of.new.strings in
    let env : Environment = record { texts = new; patterns = [] } in
    few-each env (length c.args.strings.now) c.in_ok-added.added c.args.table.now c.as_slice-rows.result.now c.in_ok-symbols_of.field-0.items
    (c.in_ok-symbols_of.ensures.symbols env (no-more new))
    c.if-not-are_few.ensures.few

pub returns-clause-none : goal.returns-clause-none
returns-clause-none c f many = not-many c.args.table.now c.if-not-are_few.ensures.few f many

pub returns-then-not-are_few-clause-err : goal.returns-then-not-are_few-clause-err
returns-then-not-are_few-clause-err c = inr (too-many c.args.table.now c.if-not-are_few.ensures.more, refl)
