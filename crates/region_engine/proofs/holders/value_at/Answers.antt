use Rattle.std.proofs.lemmas.Option.{slice_get_read}
use Rattle.std.proofs.Common.{length, refl}
use Rattle.region_engine.proofs.HolderLemmas.{begins-of, held-inside, held-value}
use Rattle.region_engine.proofs.holders.value_at.Goals as goal

pub value_at-requires-clause-begins : goal.value_at-requires-clause-begins
value_at-requires-clause-begins c =
    let j = c.args.job.now in let some = c.args.regions.now in let item = c.index-regions-holder.result in
    let low = held-inside j some c.requires.regions c.facts.ensures (c.args.node, c.args.attr) c.requires.instance c.holder_of-holder.result
    c.holder_of-holder.ensures in
    begins-of j some c.requires.regions c.holder_of-holder.result item (slice_get_read some (length some) c.holder_of-holder.result item refl low
    c.index-regions-holder.is)

pub returns : goal.returns
returns c =
    let j = c.args.job.now in let some = c.args.regions.now in let item = c.index-regions-holder.result in
    let low = held-inside j some c.requires.regions c.facts.ensures (c.args.node, c.args.attr) c.requires.instance c.holder_of-holder.result
    c.holder_of-holder.ensures in
    held-value j some c.requires.regions c.facts.ensures (c.args.node, c.args.attr) c.requires.instance c.holder_of-holder.result item c.value_at.result
    c.holder_of-holder.ensures
    (slice_get_read some (length some) c.holder_of-holder.result item refl low c.index-regions-holder.is) c.value_at.ensures
