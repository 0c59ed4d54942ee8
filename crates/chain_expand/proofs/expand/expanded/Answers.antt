use Rattle.std.specs.Prelude.{slice_get, IfSome, IfNone}
use Rattle.std.proofs.Common.{◌≡◌, ℕ, Option, Some, subst}
use Rattle.lido_syntax.specs.declared.fault.SpecFault.{SpecFault}
use Rattle.lido_syntax.specs.declared.spec.Typed1.{Typed1}
use Rattle.lido_syntax.specs.Production.{name_of}
use Rattle.chain_expand.specs.Needed.{HasNoPath, IsFirstFault}
use Rattle.chain_expand.proofs.FaultLemmas.{no-fault, first-fault}
use Rattle.chain_expand.proofs.expand.expanded.Goals as goal

pub returns-in-Some : goal.returns-in-Some
returns-in-Some c env T needs are numbers clear =
    let forced = c.args.forced.now in
    let first : IsFirstFault forced c.in-Some.fault = subst (λ (o : Option SpecFault). IfSome o (IsFirstFault forced)) c.in-Some.is c.in_ok-fault.ensures.some in
    first-fault env forced are T numbers needs clear c.in_ok-needs.needs.items c.in_ok-needs.ensures c.in-Some.fault first

pub returns : goal.returns
returns c =
    let forced = c.args.forced.now in
    let AreFree : Type 0 = (i : ℕ) (d : Typed1) → slice_get forced.tables.spec.chains i ≡ Some d → HasNoPath forced (name_of d.name) in
    let none : AreFree = subst (λ (o : Option SpecFault). IfNone o AreFree) c.in-None.is c.in_ok-fault.ensures.none in
    (c.in_ok-chain_extra-in-None.ensures, λ env T needs are numbers clear. no-fault env forced are T numbers needs clear none)
