use Rattle.visit_sequences.proofs.progress.inherited.Goals as goal

pub returns : goal.returns
returns c = λ a. (
  (λ bit. let p = (c.members.ensures a).0 bit in (p.0, (c.inherited_in.ensures a).0 p.1)),
  (λ p. (c.members.ensures a).1 (p.0, (c.inherited_in.ensures a).1 p.1)),
)
