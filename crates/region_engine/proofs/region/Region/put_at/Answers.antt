use Rattle.std.proofs.Common.{◌∙◌, arith, sym, refl, length}
use Rattle.std.proofs.lemmas.Option.{slice_get_read}
use Rattle.region_engine.proofs.PutKeys.{key-of-put}
use Rattle.region_engine.proofs.region.Region.put_at.Goals as goal

pub index-value-requires : goal.index-value-requires
index-value-requires c =
    let g = c.args.self.now in
    let key = slice_get_read g.puts.items (length g.puts.items) c.args.place c.index-key.result.now refl c.requires.place c.index-key.ensures in
    let a = (key-of-put c.args.job.now c.facts.ensures g.values.region g c.requires.region c.args.place c.index-key.result.now key).0 in
    let b = g.values.shared.ok.0 in omega (arith, a, b)

pub returns-clause-key : goal.returns-clause-key
returns-clause-key c =
    let g = c.args.self.now in
    slice_get_read g.puts.items (length g.puts.items) c.args.place c.index-key.result.now refl c.requires.place c.index-key.ensures

pub returns-clause-value : goal.returns-clause-value
returns-clause-value c =
    let g = c.args.self.now in
    let key = slice_get_read g.puts.items (length g.puts.items) c.args.place c.index-key.result.now refl c.requires.place c.index-key.ensures in
    let a = key-of-put c.args.job.now c.facts.ensures g.values.region g c.requires.region c.args.place c.index-key.result.now key in
    let s = g.values.shared.items in
    sym a.1 ∙ slice_get_read s (length s) c.index-key.result.now c.index-value.result.now refl a.0 c.index-value.ensures
