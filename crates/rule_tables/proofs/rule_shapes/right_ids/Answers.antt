use Rattle.std.proofs.Common.{ap, ◌∙◌, map, nat_eq}
use Rattle.lido_base.specs.declared.ids.SymId.{SymId as SymbolId}
use Rattle.lido_base.specs.declared.ids.StrId.{StrId as TextId}
use Rattle.lido_symbols.specs.Numbers.{place_in}
use Rattle.rule_tables.specs.PlainRules.{number}
use Rattle.rule_tables.proofs.PlainLemmas.{map-numbers}
use Rattle.rule_tables.proofs.rule_shapes.right_ids.Goals as goal

pub returns : goal.returns
returns c spec =
    let symbols = c.args.symbols.now in
    ap (map (λ (s : SymbolId). s.0)) c.from_vec.ensures ∙ c.in_ok-ids.ensures ∙ ap (map (λ (name : TextId). place_in (nat_eq name.0) symbols)) c.deref.ensures.value
    ∙ map-numbers symbols c.in_ok-right.right.items ∙ ap (map (number spec symbols)) c.in_ok-right.ensures
