use Rattle.std.proofs.Common.{List, subst}
use Rattle.lido_syntax.specs.declared.spec.Comp.{Comp}
use Rattle.kind_clashes.specs.Least.{IsFirst}
use Rattle.kind_clashes.proofs.LeastLemmas.{first-join}
use Rattle.table_faults.specs.Parts.{IsSecondOut}
use Rattle.table_faults.proofs.outputs.bad_out_in_rule.Goals as goal

pub returns : goal.returns
returns c = first-join c.earlier.ensures c.out_below_root.ensures (subst (λ (body : List Comp). IsFirst (IsSecondOut body) c.second_out.result) c.as_slice.ensures c.second_out.ensures)
