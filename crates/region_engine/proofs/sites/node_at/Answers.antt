use Rattle.std.proofs.Common.{◌<◌, ◌∙◌, ap, sym, subst, length}
use Rattle.std.specs.Prelude.{option_and_then, unwrap_or}
use Rattle.lido_base.specs.Tree.{child_number}
use Rattle.region_engine.specs.Standing.{item_of}
use Rattle.core_machine.proofs.SiteLemmas.{node-inside}
use Rattle.region_engine.proofs.sites.node_at.Goals as goal

pub returns-in-Some-Node-clause-inside : goal.returns-in-Some-Node-clause-inside
returns-in-Some-Node-clause-inside c =
    subst (λ n. n < length c.args.job.now.flat)
    (ap (λ o. unwrap_or (option_and_then child_number o) c.args.node) (sym c.in-Some-Node.ensures) ∙ ap (λ s. unwrap_or (child_number (item_of s)) c.args.node) c.in-Some-Node.field-0-is)
    (node-inside c.args.job.now c.facts.ensures c.args.node c.args.occ c.requires)
