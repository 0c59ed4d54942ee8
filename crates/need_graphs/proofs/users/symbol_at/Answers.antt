use Rattle.std.specs.Prelude.{slice_get, option_map, map}
use Rattle.std.proofs.Common.{◌∙◌, ◌-◌, List, ap, sym}
use Rattle.std.proofs.lemmas.Option.{slice_get-map}
use Rattle.lido_base.specs.declared.ids.SymId.{SymId}
use Rattle.need_graphs.proofs.ListLemmas.{behind-first}
use Rattle.need_graphs.proofs.users.symbol_at.Goals as goal

pub returns : goal.returns
returns c =
    let rule = c.args.rule.now in
    let k = c.args.occ - 1 in
    c.right_symbol.ensures ∙ ap (λ (l : List SymId). option_map (λ (s : SymId). s.0) (slice_get l k)) c.as_slice.ensures
    ∙ sym (slice_get-map (λ (s : SymId). s.0) rule.right k) ∙ sym (behind-first rule.left.0 (map (λ (s : SymId). s.0) rule.right) c.args.occ c.if-occ-eq0.false)
