use Rattle.std.proofs.Common.{inl, sym, subst}
use Rattle.lido_syntax.specs.declared.fault.SpecFault.{SpecFault}
use Rattle.rule_tables.specs.InForceFaults.{IsClashInherited}
use Rattle.symbol_inherit.specs.Clashes.{IsFirstOfAll}
use Rattle.symbol_inherit.proofs.OutcomeLemmas.{later-missing}
use Rattle.symbol_inherit.proofs.outcomes.later_fault.Goals as goal

pub returns-in-Some : goal.returns-in-Some
returns-in-Some c = λ env T known numbers are.
    inl (subst (λ (f : SpecFault). IsClashInherited c.args.tables.now.spec T f) (sym c.clash_fault.ensures) (c.in-Some.ensures env T known numbers))

pub returns : goal.returns
returns c = λ env T known numbers are.
    later-missing c.args.tables.now T (subst (λ o. IsFirstOfAll c.args.tables.now T o) c.in_default.is (c.first_clash.ensures env T known numbers)) c.in_ok-missing.missing
    (c.in_ok-missing.ensures env T known numbers are c.in_ok-sets.ensures)
