use Rattle.std.proofs.Common.{ℕ, ◌≤◌, ap, sym, subst, ◌∙◌}
use Rattle.flat_grammar.specs.declared.flat.Occ.{Occ}
use Rattle.flat_slots.specs.Named.{slot_of}
use Rattle.flat_terms.proofs.SiteLemmas.{number-fits}
use Rattle.flat_terms.proofs.site.Site.occ.Goals as goal

pub returns : goal.returns
returns c = λ scene is.
    let number = c.number.ensures scene is in
    let at : ℕ → Occ = λ n. record { occ = c.args.k; attr = record { 0 = n } } in
    ap at (c.narrow.ensures (subst (λ n. n ≤ 65535) (sym number) (number-fits scene c.args.self.now is c.args.k (slot_of c.args.slot))) ∙ number)
