use Rattle.std.proofs.Common.{◌≡◌, ◌∙◌, Option, Some, None, [], ◌∷◌, ℕ, refl, sym, ap}
use Rattle.std.specs.Prelude.{slice_get}
use Rattle.std.specs.Option.{is_some}
use Rattle.std.proofs.lemmas.List.{append-nil}
use Rattle.std.proofs.lemmas.Option.{slice_get-get_or}
use Rattle.least_paths.proofs.MarkLemmas.{marked-new, marked-at, not_both}
use Rattle.least_paths.proofs.distances.mark.Goals as goal

pub returns-in_ok-push : goal.returns-in_ok-push
returns-in_ok-push c = (
  c.args.x ∷ [],
  c.in_ok-push.ensures.items,
  marked-new c.args.dist.now.items c.args.x c.args.d (by c.index.result.now refl),
)
  where
    at : slice_get c.args.dist.now.items c.args.x ≡ Some c.index.result.now
    at = slice_get-get_or c.args.dist.now.items c.args.x c.index.result.now c.requires ∙ ap Some (sym c.index.ensures)

    by : (o : Option ℕ) → c.index.result.now ≡ o → slice_get c.args.dist.now.items c.args.x ≡ Some None
    by None e = at ∙ ap Some e
    by (Some d) e = absurd (not_both c.is_none.result c.if-is_none.true (sym (ap is_some e) ∙ c.is_none.ensures))

pub returns-else-is_none : goal.returns-else-is_none
returns-else-is_none c = ([], sym (append-nil c.args.added.now.items), marked-at c.args.dist.now.items c.args.x c.args.d c.index.result.now (slice_get-get_or c.args.dist.now.items c.args.x c.index.result.now c.requires ∙ ap Some (sym c.index.ensures)) c.if-is_none.ensures)
