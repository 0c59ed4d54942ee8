use Rattle.std.proofs.Common.{◌∙◌, subst, sym, arith, inl, length, ◌<◌}
use Rattle.std.proofs.lemmas.List.{length-set}
use Rattle.std.specs.Prelude.{Contains, slice_index_or}
use Rattle.induced_deps.specs.declared.graph.Place.{Place}
use Rattle.induced_deps.specs.Vertices.{no_place}
use Rattle.induced_deps.proofs.DueLemmas.{still_user, only_user, all_users, same_row, longer_more, longer_fewer, longer_here}
use Rattle.induced_deps.proofs.due.add_user.Goals as goal

pub returns-in_err-push-clause-kept : goal.returns-in_err-push-clause-kept
returns-in_err-push-clause-kept c =
    let l = c.loop-place in
    let size = l.invariant.size in
    let p : Place = slice_index_or c.args.places.now l.place-index no_place in
    let asked : p.symbol.0 < length c.args.users.now = c.requires l.place-index no_place c.loop-place-test.true in
    let inside : p.symbol.0 < length l.users = omega arith in
    let row = c.in_err-push.ensures.err ∙ same_row l.users p.symbol.0 c.index-users-place.result inside in
    still_user c.args.users.now l.users c.args.places.now l.place-index no_place c.args.rule c.push.new.self inside (λ k h. subst (λ r. Contains r k) (sym row) h) l.invariant.kept

pub returns-in_err-push-clause-only : goal.returns-in_err-push-clause-only
returns-in_err-push-clause-only c =
    let l = c.loop-place in
    let size = l.invariant.size in
    let p : Place = slice_index_or c.args.places.now l.place-index no_place in
    let asked : p.symbol.0 < length c.args.users.now = c.requires l.place-index no_place c.loop-place-test.true in
    let inside : p.symbol.0 < length l.users = omega arith in
    let row = c.in_err-push.ensures.err ∙ same_row l.users p.symbol.0 c.index-users-place.result inside in
    only_user c.args.users.now l.users c.args.places.now l.place-index no_place c.args.rule c.push.new.self inside (λ k h. subst (λ r. Contains r k) (sym row) h) (λ k h. inl (subst (λ r. Contains r k) row h)) l.invariant.only

pub loop-place-preserved : goal.loop-place-preserved
loop-place-preserved c =
    let l = c.loop-place in
    let size = l.invariant.size in
    let p : Place = slice_index_or c.args.places.now l.place-index no_place in
    let asked : p.symbol.0 < length c.args.users.now = c.requires l.place-index no_place c.loop-place-test.true in
    let inside : p.symbol.0 < length l.users = omega arith in
    let more = longer_more l.users p.symbol.0 c.index-users-place.result c.args.rule c.push.new.self inside c.in_ok-push.ensures.ok in
    record {
      size = length-set l.users _ _ ∙ size;
      kept = still_user c.args.users.now l.users c.args.places.now l.place-index no_place c.args.rule c.push.new.self inside more l.invariant.kept;
      only = only_user c.args.users.now l.users c.args.places.now l.place-index no_place c.args.rule c.push.new.self inside more
          (longer_fewer l.users p.symbol.0 c.index-users-place.result c.args.rule c.push.new.self inside c.in_ok-push.ensures.ok) l.invariant.only;
      added = all_users c.args.users.now l.users c.args.places.now l.place-index no_place c.args.rule c.push.new.self inside more c.loop-place-test.true
          (longer_here l.users p.symbol.0 c.index-users-place.result c.args.rule c.push.new.self inside c.in_ok-push.ensures.ok) l.invariant.added;
    }
