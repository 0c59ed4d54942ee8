use Rattle.std.specs.Prelude.{IfSome}
use Rattle.std.proofs.Common.{◌≡◌, inl, subst, Option, List}
use Rattle.lido_base.specs.declared.ids.StrId.{StrId}
use Rattle.lido_syntax.specs.declared.fault.SpecFault.TheVariants as Fault
use Rattle.rule_tables.specs.Needs.{Tables as Numbered}
use Rattle.rule_tables.specs.TablesOf.{named_symbols}
use Rattle.rule_tables.specs.InForceFaults.{IsClassCycle}
use Rattle.symbol_inherit.specs.Later.{IsLaterFault}
use Rattle.symbol_inherit.proofs.OutcomeLemmas.{are-known, all-none, later-first, cycle-none}
use Rattle.symbol_inherit.proofs.outcomes.outcome.Goals as goal

pub returns-in-Some-clause-fault : goal.returns-in-Some-clause-fault
returns-in-Some-clause-fault c = λ T numbers.
    let t = c.args.tables.now in
    inl (subst (λ (o : Option (List StrId)). IfSome o (λ path. (T : Numbered t.spec) → T.symbols ≡ named_symbols t → IsClassCycle t.spec T (Fault.ClassCycle path))) c.in-Some.is c.in_ok-cycle.ensures.cycle T numbers.symbols)

pub returns-in-Some-later-clause-fault : goal.returns-in-Some-later-clause-fault
returns-in-Some-later-clause-fault c = λ T numbers.
    let t = c.args.tables.now in
    let known = are-known c.requires.tables.0 t c.requires.tables.1 c.requires.text c.requires.faults.0 c.requires.faults.1 c.in_ok-symbols.symbols c.in_ok-symbols.ensures in
    later-first t T (cycle-none t T numbers.symbols c.in_ok-cycle.cycle c.in_default.is c.in_ok-cycle.ensures.none) c.in-Some-later.fault
    (subst (λ o. IsLaterFault t T o) c.in-Some-later.is (c.in_ok-later.ensures c.requires.tables.0 T known numbers c.in_ok-chains.ensures))

pub returns-clause-comps : goal.returns-clause-comps
returns-clause-comps c =
    let t = c.args.tables.now in
    let known = are-known c.requires.tables.0 t c.requires.tables.1 c.requires.text c.requires.faults.0 c.requires.faults.1 c.in_ok-symbols.symbols c.in_ok-symbols.ensures in
    c.in_ok-comps.ensures c.requires.tables.0 known c.in_ok-chains.ensures

pub returns-clause-none : goal.returns-clause-none
returns-clause-none c = λ T numbers.
    let t = c.args.tables.now in
    let known = are-known c.requires.tables.0 t c.requires.tables.1 c.requires.text c.requires.faults.0 c.requires.faults.1 c.in_ok-symbols.symbols c.in_ok-symbols.ensures in
    all-none t T (cycle-none t T numbers.symbols c.in_ok-cycle.cycle c.in_default.is c.in_ok-cycle.ensures.none)
    (subst (λ o. IsLaterFault t T o) c.in_default-later.is (c.in_ok-later.ensures c.requires.tables.0 T known numbers c.in_ok-chains.ensures))
