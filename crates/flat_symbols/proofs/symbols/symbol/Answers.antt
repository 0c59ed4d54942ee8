use Rattle.std.proofs.Common.{List, length, refl, sym, subst}
use Rattle.std.specs.List.{AllZip}
use Rattle.flat_grammar.specs.declared.flat.FlatAttr.{FlatAttr}
use Rattle.flat_symbols.specs.Attributes.{IsMade}
use Rattle.flat_symbols.proofs.symbols.symbol.Goals as goal

pub returns-clause-symbol : goal.returns-clause-symbol
returns-clause-symbol c env later =
    let limit = length c.args.strings.now in
    let added = c.args.added.now in
    let slots = c.args.slots.now in
    record {
      name = refl;
      terminal = c.terminal_of.ensures;
      attrs = subst (λ (attrs : List FlatAttr). AllZip (IsMade env limit added c.args.row.now.attrs) slots attrs) (sym c.from_vec.ensures)
          (subst (λ (attrs : List FlatAttr). AllZip (IsMade env limit added attrs) slots c.in_ok-attrs.attrs.items) c.as_slice.ensures
          (c.in_ok-attrs.ensures.attrs env later));
    }
