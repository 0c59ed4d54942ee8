use Rattle.std.specs.Prelude.{map}
use Rattle.std.proofs.Common.{List, sym, subst}
use Rattle.kind_clashes.specs.Least.{IsFirst, Among}
use Rattle.rule_tables.specs.declared.table.SymbolRow.{SymbolRow}
use Rattle.constituents_expand.specs.declared.uses.Use.{Use}
use Rattle.constituents_expand.specs.Uses.{told, AreUses}
use Rattle.constituents_expand.specs.Faults.{IsLackAt}
use Rattle.constituents_expand.proofs.ExpandLemmas.{fault-in, no-fault}
use Rattle.constituents_expand.proofs.expand.expanded.Goals as goal

pub of-requires : goal.of-requires
of-requires c = (c.requires.forced.0, c.requires.forced.1.tables)

pub constituents_extra-requires-clause-uses : goal.constituents_extra-requires-clause-uses
constituents_extra-requires-clause-uses c = subst (λ (l : List Use). AreUses c.args.forced.now.tables.spec (map told l)) (sym c.deref-in-None.ensures.value) c.in_ok-uses.ensures

pub returns-in-Some : goal.returns-in-Some
returns-in-Some c =
    let forced = c.args.forced.now in
    let symbols = c.in_ok-symbols.symbols in
    let uses = c.in_ok-uses.uses.items in
    let first : IsFirst (Among (λ (u : Use). IsLackAt symbols forced.tables.symbols (told u)) uses) c.least_lack.result =
    subst (λ (l : List SymbolRow). IsFirst (Among (λ (u : Use). IsLackAt symbols l (told u)) uses) c.least_lack.result) c.as_slice.ensures
    (subst (λ (l : List Use). IsFirst (Among (λ (u : Use). IsLackAt symbols c.as_slice.result.now (told u)) l) c.least_lack.result) c.deref.ensures.value c.least_lack.ensures) in
    fault-in forced symbols c.in_ok-symbols.ensures uses c.in_ok-uses.ensures c.least_lack.result first c.in-Some.at c.in-Some.is

pub returns : goal.returns
returns c =
    let forced = c.args.forced.now in
    let symbols = c.in_ok-symbols.symbols in
    let uses = c.in_ok-uses.uses.items in
    let first : IsFirst (Among (λ (u : Use). IsLackAt symbols forced.tables.symbols (told u)) uses) c.least_lack.result =
    subst (λ (l : List SymbolRow). IsFirst (Among (λ (u : Use). IsLackAt symbols l (told u)) uses) c.least_lack.result) c.as_slice.ensures
    (subst (λ (l : List Use). IsFirst (Among (λ (u : Use). IsLackAt symbols c.as_slice.result.now (told u)) l) c.least_lack.result) c.deref.ensures.value c.least_lack.ensures) in
    (c.in_ok-constituents_extra-in-None.ensures, no-fault forced symbols c.in_ok-symbols.ensures uses c.in_ok-uses.ensures c.least_lack.result first c.in-None.is)
