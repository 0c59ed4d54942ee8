use Rattle.induced_deps.proofs.DueLemmas.{tells_one}
use Rattle.induced_deps.proofs.rounds.feed.Goals as goal

pub grown-requires-clause-within : goal.grown-requires-clause-within
grown-requires-clause-within c = c.requires.ready.within c.args.place.symbol.0

pub returns-clause-tells : goal.returns-clause-tells
returns-clause-tells c = tells_one c.args.due.now c.grown.new.self c.args.ids.now c.project_place.new.ids c.args.place.symbol.0 c.project_place.ensures.others c.grown.ensures.users c.grown.ensures.size c.grown.ensures.kept c.grown.ensures.marked
