use Rattle.std.specs.Prelude.{nat_eq}
use Rattle.std.proofs.Common.{ℕ, List, sym, subst}
use Rattle.lido_syntax.specs.declared.spec.Decl.{Decl}
use Rattle.lido_symbols.specs.Numbers.{AreNumbered}
use Rattle.lido_symbols.specs.Uses.{attribute_uses}
use Rattle.symbol_attributes.specs.declared.facts.Said.{Said}
use Rattle.symbol_attributes.specs.declared.named.SymbolAttribute.{SymbolAttribute}
use Rattle.symbol_attributes.specs.Named.{AreNamed}
use Rattle.symbol_attributes.specs.Facts.{AreSaidTables, IsAttrTableOf}
use Rattle.symbol_attributes.specs.Written.{AreFactsOf}
use Rattle.symbol_attributes.proofs.written.written_attributes.Goals as goal

pub all_said-requires-clause-named : goal.all_said-requires-clause-named
all_said-requires-clause-named c = subst (λ (list : List SymbolAttribute). AreNamed c.args.spec.now list) (sym c.deref.ensures.value) c.in_ok-named.ensures

pub returns : goal.returns
returns c =
    let spec = c.args.spec.now in
    let facts : AreFactsOf spec c.in_ok-tables.tables c.in_ok-by_attr.by_attr = record {
      list = c.in_ok-said.said.items;
      said = c.in_ok-said.ensures;
      tables_of = subst (λ (list : List Said). AreSaidTables list c.in_ok-tables.tables) c.deref-2.ensures.value c.in_ok-tables.ensures;
      attrs = subst (λ (decls : List Decl). IsAttrTableOf decls c.in_ok-by_attr.by_attr) c.as_slice.ensures c.in_ok-by_attr.ensures;
    } in
    c.in_ok-lists.ensures spec facts c.requires.numbered c.in_ok-inheritance.ensures
    (subst (λ (names : List ℕ). AreNumbered nat_eq (attribute_uses spec) names) (sym c.as_slice-2.ensures) c.in_ok-names.ensures)
