use Rattle.std.proofs.Common.{ℤ, [], ◌∷◌, ◌++◌, ap, ◌∙◌, w64}
use Rattle.std.proofs.lemmas.Int.{to_z-of_z}
use Rattle.sum_trees.specs.declared.form.Child.TheVariants as children
use Rattle.sum_trees.specs.Trees.{node_at}
use Rattle.sum_trees.proofs.Paths.{number_leads, no_number}
use Rattle.sum_trees.proofs.tree.step_number.Goals as goal

pub returns-in_default-clause-outside : goal.returns-in_default-clause-outside
returns-in_default-clause-outside c = λ is frames final few path reaches.
    no_number c.args.rules.now frames c.args.nodes.now c.args.rest.now c.args.at final c.requires.asks c.in_default.ensures.none path reaches

pub returns-clause-leads : goal.returns-clause-leads
returns-clause-leads c = λ frames path.
    number_leads c.args.rules.now frames c.args.nodes.now c.args.rest.now c.push_number.new.nodes c.args.at c.in-Some.z c.in-Some.behind.now c.requires.asks
    c.in-Some.ensures.some
    (record { there = c.requires.there; same_len = c.push_number.ensures.same_len; node = c.in_ok-push_number.ensures.ok ∙ ap (λ (w : ℤ). record (node_at c.args.nodes.now c.args.at) { children = (node_at c.args.nodes.now c.args.at).children ++ (children.Int w ∷ []) }) (to_z-of_z w64 c.in-Some.z c.in-Some.ensures.some.fits); others = c.push_number.ensures.others })
    path
