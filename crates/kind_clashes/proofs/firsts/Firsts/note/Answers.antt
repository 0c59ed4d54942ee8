use Rattle.std.proofs.Common.{◌≡◌, Some, ap, sym, ◌∙◌}
use Rattle.std.proofs.lemmas.Result.{on_ok_weaker}
use Rattle.kind_clashes.specs.Firsts.{first_of}
use Rattle.kind_clashes.specs.Least.{earlier_of}
use Rattle.kind_clashes.proofs.FirstsLemmas.{noted-one}
use Rattle.kind_clashes.proofs.firsts.Firsts.note.Goals as goal
use Rattle.kind_clashes.proofs.firsts.Firsts.note.Goals.{in-Some, in-None}

pub returns : goal.returns
returns c =
    let least : Some c.match-first.at ≡ earlier_of (first_of c.args.self.now c.args.name.id.0) (Some c.args.name.at) = elim c.match-first.branch [
      | in-Some w ↦ rw (sym c.first.ensures ∙ w.in-Some.is) (ap Some (w.at-is ∙ w.min-at.ensures))
      | in-None w ↦ rw (sym c.first.ensures ∙ w.in-None.is) (ap Some w.at-is)
    ] in
    on_ok_weaker c.put.result (noted-one c.args.name c.match-first.at least) c.put.ensures
