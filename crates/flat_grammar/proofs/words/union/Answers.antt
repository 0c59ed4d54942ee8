use Rattle.std.proofs.Common.{inl, inr}
use Rattle.std.proofs.lemmas.Nat.{le_or_l}
use Rattle.flat_grammar.proofs.BitsLemmas.{in-left, in-right, in-one}
use Rattle.flat_grammar.proofs.words.union.Goals as goal

pub returns-clause-members : goal.returns-clause-members
returns-clause-members c = λ j. (in-one c.args.set c.args.other j, λ either. elim either [ inl h ↦ in-left c.args.set c.args.other j h | inr h ↦ in-right c.args.set c.args.other j h ])

pub returns-clause-grows : goal.returns-clause-grows
returns-clause-grows c = le_or_l c.args.set c.args.other
