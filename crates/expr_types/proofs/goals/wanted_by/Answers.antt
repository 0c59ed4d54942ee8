use Rattle.std.proofs.Common.{subst}
use Rattle.rule_tables.specs.ForcedOf.{IsGoalAs}
use Rattle.expr_types.proofs.GoalLemmas.{attribute-goal, start-goal, behind-goal, wanted-attribute, wanted-start, wanted-behind}
use Rattle.expr_types.proofs.goals.wanted_by.Goals as goal

pub attribute_type-requires : goal.attribute_type-requires
attribute_type-requires c =
    let tables = c.args.tables.now in
    attribute-goal tables c.args.symbol c.in-Attr.id c.requires.0 (subst (λ g. IsGoalAs tables c.args.symbol g c.requires.0) c.in-Attr.is c.requires.1)

pub chain_type-requires : goal.chain_type-requires
chain_type-requires c =
    let tables = c.args.tables.now in
    start-goal tables c.args.symbol c.in-Start.place c.requires.0 (subst (λ g. IsGoalAs tables c.args.symbol g c.requires.0) c.in-Start.is c.requires.1)

pub chain_type-requires-in-Behind : goal.chain_type-requires-in-Behind
chain_type-requires-in-Behind c =
    let tables = c.args.tables.now in
    behind-goal tables c.args.symbol c.in-Behind.place c.requires.0 (subst (λ g. IsGoalAs tables c.args.symbol g c.requires.0) c.in-Behind.is c.requires.1)

pub returns-in-Attr : goal.returns-in-Attr
returns-in-Attr c = λ env s aim are single named at.
    let tables = c.args.tables.now in
    wanted-attribute env tables are single c.args.symbol s c.in-Attr.id aim c.attribute_type.result c.of_attribute.result named
    (subst (λ g. IsGoalAs tables c.args.symbol g aim) c.in-Attr.is at) c.attribute_type.ensures c.of_attribute.ensures

pub returns-in-Start : goal.returns-in-Start
returns-in-Start c = λ env s aim are single named at.
    let tables = c.args.tables.now in
    wanted-start env tables are single c.args.symbol s c.in-Start.place aim c.chain_type.result
    (subst (λ g. IsGoalAs tables c.args.symbol g aim) c.in-Start.is at) c.chain_type.ensures

pub returns-in-Behind : goal.returns-in-Behind
returns-in-Behind c = λ env s aim are single named at.
    let tables = c.args.tables.now in
    wanted-behind env tables are single c.args.symbol s c.in-Behind.place aim c.chain_type-in-Behind.result
    (subst (λ g. IsGoalAs tables c.args.symbol g aim) c.in-Behind.is at) c.chain_type-in-Behind.ensures
