use Rattle.std.proofs.Common.{◌≡◌, take}
use Rattle.std.specs.Prelude.{Contains}
use Rattle.lido_syntax.specs.declared.spec.Comp.{Comp}
use Rattle.lido_syntax.specs.declared.spec.Target.TheVariants as target
use Rattle.symbol_inherit.proofs.entries.output.Given as goal

abbrev pub invariant-loop-comp : goal.invariant-loop-comp
invariant-loop-comp l = (c : Comp) → Contains (take l.comp-index l.body) c → c.target ≡ target.Out → ⊥
