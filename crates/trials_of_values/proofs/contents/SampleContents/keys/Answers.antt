use Rattle.std.specs.Prelude.{All}
use Rattle.std.proofs.Common.{rules, arith, [], ◌∷◌, List}
use Rattle.std.proofs.lemmas.List.Elements.{All-cons}
use Rattle.lido_base.specs.Ranges.{IsInRange}
use Rattle.lido_base.specs.declared.value.Value.{Value}
use Rattle.lido_base.specs.declared.value.Value.TheVariants as value
use Rattle.trials_of_values.proofs.contents.SampleContents.keys.Goals as goal

first : (v : Value) (vs : List Value) → IsInRange v → All IsInRange vs → All IsInRange (v ∷ vs)
first = All-cons IsInRange

nil : All IsInRange []
nil = search rules

pub returns-clause-in_range : goal.returns-clause-in_range
returns-clause-in_range c =
    let s = c.args.self.now in
    let number : IsInRange (value.Int s.number) = search rules in
    let text : IsInRange (value.Str s.text) = search rules in
    let built : IsInRange (value.Text s.built) = record { room = omega arith; node = omega arith; len = omega arith } in
    let fault : IsInRange (value.Bad s.fault) = record { node = omega arith; comp = omega arith } in
    first (value.Int s.number) (value.Str s.text ∷ value.Text s.built ∷ value.Bad s.fault ∷ value.Bool s.truth ∷ value.Void ∷ []) number
    (first (value.Str s.text) (value.Text s.built ∷ value.Bad s.fault ∷ value.Bool s.truth ∷ value.Void ∷ []) text
    (first (value.Text s.built) (value.Bad s.fault ∷ value.Bool s.truth ∷ value.Void ∷ []) built
    (first (value.Bad s.fault) (value.Bool s.truth ∷ value.Void ∷ []) fault
    (first (value.Bool s.truth) (value.Void ∷ []) tt (first value.Void [] tt nil)))))
