use Rattle.std.proofs.Common.{◌≡◌, ◌<◌, ◌*◌, ◌+◌, true, slice_get, slice_index, Some, arith, sym, ◌∙◌, ap}
use Rattle.boundary_table.specs.Rule.{mem, owner}
use Rattle.boundary_table.proofs.Lists.{code_first, code_second, some_below, owner_first, owner_second}
use Rattle.boundary_table.proofs.Steps.{stores}
use Rattle.boundary_table.proofs.desk.Boundary.put.Goals as goal

pub store-requires : goal.store-requires
store-requires c =
    let inside = c.desk.inside.seat in
    let view = ap (λ h. h.view) c.desk.view_is in
    let table = ap (λ h. h.table) c.desk.view_is ∙ (c.requires.table ∙ sym c.self.view_is) in
    let words = ap (λ t. t.words) table in
    let got : slice_get inside.me.0.contents c.args.key ≡ Some c.args.value = ap (λ v. slice_get v.contents c.args.key) view ∙ c.requires.value in
    let own : mem (slice_index inside.me.0.owners c.args.key) inside.me.0.numbers ≡ true = ap (λ v. mem (slice_index v.owners c.args.key) v.numbers) view ∙ c.requires.owner in
    let own_word : mem (owner inside.me.0.owners (2 * c.args.key)) inside.me.0.numbers ≡ true = ap (λ o. mem o inside.me.0.numbers) (owner_first inside.me.0.owners c.args.key) ∙ own in
    let room = some_below inside.me.0.contents c.args.key c.args.value got in
    let below : 2 * c.args.key < c.self.inside.table.shared.table_id.words = omega arith in (
      table,
      below,
      stores _ _ _ _ _ _ c.desk.invariant.0 (omega arith) (c.first_word.ensures ∙ sym (code_first inside.me.0.contents c.args.key c.args.value got)) own_word,
    )

pub store-requires-2 : goal.store-requires-2
store-requires-2 c =
    let inside = c.desk.inside.seat in
    let view = ap (λ h. h.view) c.desk.view_is in
    let table = ap (λ h. h.table) c.desk.view_is ∙ (c.requires.table ∙ sym c.self.view_is) in
    let words = ap (λ t. t.words) table in
    let got : slice_get inside.me.0.contents c.args.key ≡ Some c.args.value = ap (λ v. slice_get v.contents c.args.key) view ∙ c.requires.value in
    let own : mem (slice_index inside.me.0.owners c.args.key) inside.me.0.numbers ≡ true = ap (λ v. mem (slice_index v.owners c.args.key) v.numbers) view ∙ c.requires.owner in
    let own_word : mem (owner inside.me.0.owners (2 * c.args.key + 1)) inside.me.0.numbers ≡ true = ap (λ o. mem o inside.me.0.numbers) (owner_second inside.me.0.owners c.args.key) ∙ own in
    let room = some_below inside.me.0.contents c.args.key c.args.value got in
    let below : 2 * c.args.key + 1 < c.self.inside.table.shared.table_id.words = omega arith in
    let after = c.store.ensures.2 in (
      c.store.ensures.0 ∙ table,
      below,
      stores _ _ _ _ _ _ (ap (λ m. m.0.stage) after ∙ c.desk.invariant.0) (omega arith)
          (rw (ap (λ m. m.0.contents) after) (c.second_word.ensures ∙ sym (code_second inside.me.0.contents c.args.key c.args.value got)))
          (ap (λ m. mem (owner m.0.owners (2 * c.args.key + 1)) m.0.numbers) after ∙ own_word),
    )
