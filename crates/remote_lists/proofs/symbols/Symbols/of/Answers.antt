use Rattle.std.specs.Prelude.{Contains, filter_map}
use Rattle.std.proofs.Common.{◌∙◌, ℕ, List, ap, sym, subst}
use Rattle.lido_syntax.specs.Production.{name_of}
use Rattle.lido_symbols.specs.Numbers.{different}
use Rattle.rule_tables.specs.declared.table.SymbolRow.{SymbolRow}
use Rattle.rule_tables.specs.TablesOf.{symbol_named, named_symbols}
use Rattle.rule_tables.proofs.LimitLemmas.{different-all}
use Rattle.symbol_attributes.proofs.LawLemmas.{are-numbered-in}
use Rattle.remote_lists.proofs.symbols.Symbols.of.Goals as goal

pub of-requires : goal.of-requires
of-requires c item x m either =
    let t = c.args.tables.now in
    subst (λ (l : List ℕ). Contains l (name_of x)) (sym (c.in_ok-names.ensures ∙ ap (λ (l : List SymbolRow). different (filter_map symbol_named l)) c.as_slice.ensures))
    (different-all (named_symbols t) (name_of x) (are-numbered-in t.spec c.requires.0 (named_symbols t) c.requires.1.numbers item x m either))
