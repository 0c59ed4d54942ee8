use Rattle.std.proofs.Common.{ap, sym, ◌∙◌, map, ◌∷◌, [], if◌then◌else◌}
use Rattle.std.proofs.lemmas.Result.{IfOk-weaker}
use Rattle.lido_syntax.specs.Production.{right_of}
use Rattle.rule_tables.specs.PlainRules.{cell as cell_of, number}
use Rattle.rule_tables.proofs.written.right_side.Goals as goal

pub returns : goal.returns
returns c =
    let symbols = c.args.symbols.now in
    IfOk-weaker c.right_ids.result _ _ (λ right h spec k given. h spec ∙ ap (λ b. if b then cell_of spec symbols k ∷ [] else map (number spec symbols) (right_of c.args.rule.now)) (sym c.if-rule.false)) c.right_ids.ensures
