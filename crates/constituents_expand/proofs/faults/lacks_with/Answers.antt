use Rattle.std.specs.Prelude.{◌&&◌}
use Rattle.std.proofs.Common.{◌∙◌, ap, sym}
use Rattle.constituents_expand.specs.Faults.{lists_value}
use Rattle.constituents_expand.proofs.faults.lacks_with.Goals as goal

pub returns-then-is_bare : goal.returns-then-is_bare
returns-then-is_bare c =
    let lists = lists_value c.args.symbols.now c.args.rows.now in
    c.lists_value.ensures ∙ ap lists c.as_slice.ensures ∙ sym (ap (λ b. b && lists c.args.one.now.constituents.now.pairs) (sym c.is_bare.ensures ∙ c.if-is_bare.true))
