use Rattle.std.proofs.Common.{List, [], ◌∷◌, sym, ap, ◌∙◌}
use Rattle.flat_grammar.specs.declared.flat.Occ.{Occ}
use Rattle.flat_terms.specs.Scene.{occ}
use Rattle.flat_terms.proofs.LeafLemmas.{occurrence-fits, read-needs}
use Rattle.flat_terms.proofs.needs.read_occ.Goals as goal

pub returns-in-Some : goal.returns-in-Some
returns-in-Some c = λ scene is.
    let site = c.args.site.now in
    let x = c.in-Named.x in
    let index = c.in-Named.index in
    let k = c.in-Some.k in
    let there = sym c.in-Some.ensures in
    let fits = c.narrow.ensures (occurrence-fits scene site is x index k there) in
    let seen = c.seen.ensures scene is in
    let one : Occ → List Occ = λ o. o ∷ [] in
    ap one (c.occ.ensures scene is ∙ (λ i. occ scene (fits i) (seen i)))
    ∙ read-needs scene site is x index (λ chain. []) c.args.context k c.args.name.0 c.args.place.now c.in-Named.is there
