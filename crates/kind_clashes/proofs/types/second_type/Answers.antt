use Rattle.std.proofs.Common.{List, [], ◌∷◌, arith}
use Rattle.std.proofs.lemmas.Option.{slice_get-get_or}
use Rattle.lido_base.specs.declared.value.ValueType.{ValueType}
use Rattle.lido_base.specs.declared.value.ValueType.TheVariants.{Int, Str, Bool, Text, Void}
use Rattle.kind_clashes.proofs.LeastLemmas.{first-step, first-end, first-begin}
use Rattle.kind_clashes.proofs.TypesLemmas.{second-all}
use Rattle.kind_clashes.proofs.types.second_type.Goals as goal

pub loop-ty-init : goal.loop-ty-init
loop-ty-init c = first-begin

pub loop-ty-preserved : goal.loop-ty-preserved
loop-ty-preserved c =
    let types : List ValueType = Int ∷ Str ∷ Bool ∷ Text ∷ Void ∷ [] in
    first-step _ (slice_get-get_or types c.loop-ty.ty-index Int c.loop-ty-test.true) c.earlier-least.ensures c.loop-ty.invariant c.in_ok-second_of_type.ensures

pub returns : goal.returns
returns c = second-all (first-end (omega arith) c.loop-ty.invariant)
