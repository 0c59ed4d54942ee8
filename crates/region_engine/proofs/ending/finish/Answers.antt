use Rattle.std.proofs.Math.ListN.{set}
use Rattle.std.proofs.lemmas.Option.{none-some, slice_get_read}
use Rattle.std.proofs.Common.{◌<◌, ◌∙◌, arith, length, refl, subst, sym}
use Rattle.flat_grammar.proofs.Lists.{held}
use Rattle.region_engine.specs.Endings.{AreDone}
use Rattle.region_engine.specs.Notebooks.{IsNotebook}
use Rattle.region_engine.proofs.FinishLemmas.{result}
use Rattle.region_engine.proofs.HolderLemmas.{done-first}
use Rattle.region_engine.proofs.ending.finish.Goals as goal

pub unreachable-requires : goal.unreachable-requires
unreachable-requires c =
    let all = c.requires.regions in let some = c.args.regions.items in let g = c.index_mut.result.now in
    let low : 0 < length some = omega (arith, all.count) in
    let q = (all.each 0 g (slice_get_read some (length some) 0 g refl low c.index_mut.ensures.value)).notebook refl in
    none-some _ (sym c.in_default.is ∙ c.take_notebook.ensures.notebook ∙ q.1)

pub output_of-output-requires : goal.output_of-output-requires
output_of-output-requires c = subst (AreDone c.args.job.now) (sym c.as_slice.ensures.value)
    (done-first c.args.job.now c.args.regions.items c.requires.regions c.requires.nothing_left c.index_mut.result.now c.take_notebook.new.self
    c.index_mut.ensures.value c.take_notebook.ensures.values c.take_notebook.ensures.bench)

pub least_fault-bad-requires : goal.least_fault-bad-requires
least_fault-bad-requires c = subst (AreDone c.args.job.now) (sym c.as_slice-2.ensures.value)
    (done-first c.args.job.now c.args.regions.items c.requires.regions c.requires.nothing_left c.index_mut.result.now c.take_notebook.new.self
    c.index_mut.ensures.value c.take_notebook.ensures.values c.take_notebook.ensures.bench)

pub notes_of-notes-requires-clause-regions : goal.notes_of-notes-requires-clause-regions
notes_of-notes-requires-clause-regions c = subst (AreDone c.args.job.now) (sym c.as_slice-3.ensures.value)
    (done-first c.args.job.now c.args.regions.items c.requires.regions c.requires.nothing_left c.index_mut.result.now c.take_notebook.new.self
    c.index_mut.ensures.value c.take_notebook.ensures.values c.take_notebook.ensures.bench)

pub notes_of-notes-requires-clause-notebook : goal.notes_of-notes-requires-clause-notebook
notes_of-notes-requires-clause-notebook c =
    let all = c.requires.regions in let some = c.args.regions.items in let g = c.index_mut.result.now in
    let low : 0 < length some = omega (arith, all.count) in
    let q = (all.each 0 g (slice_get_read some (length some) 0 g refl low c.index_mut.ensures.value)).notebook refl in
    subst (IsNotebook c.args.job.now) (held (sym q.1 ∙ sym c.take_notebook.ensures.notebook ∙ c.in-Some.is)) q.2

pub returns : goal.returns
returns c = result c.args.job.now c.facts.ensures (set c.args.regions.items 0 c.take_notebook.new.self)
    (done-first c.args.job.now c.args.regions.items c.requires.regions c.requires.nothing_left c.index_mut.result.now c.take_notebook.new.self
    c.index_mut.ensures.value c.take_notebook.ensures.values c.take_notebook.ensures.bench)
    c.output_of-output.result c.least_fault-bad.result c.notes_of-notes.result.items c.rooms_of-rooms.result.items
    c.output_of-output.ensures c.least_fault-bad.ensures c.notes_of-notes.ensures c.rooms_of-rooms.ensures
