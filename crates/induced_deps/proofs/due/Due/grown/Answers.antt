use Rattle.std.proofs.Common.{subst, arith, ◌∙◌, length, ◌<◌}
use Rattle.std.specs.Prelude.{Contains}
use Rattle.induced_deps.proofs.DueLemmas.{same_row}
use Rattle.induced_deps.proofs.due.Due.grown.Goals as goal

pub mark-requires : goal.mark-requires
mark-requires c = λ k h.
    let same = c.as_slice.ensures ∙ c.index.ensures ∙ same_row c.args.self.now.users.items c.args.symbol.0 c.index.result.now c.requires.symbol in
    let inside : k < length c.args.self.now.flags.items = c.requires.within k (subst (λ r. Contains r k) same h) in
    omega (arith, c.deref_mut.ensures.len)
