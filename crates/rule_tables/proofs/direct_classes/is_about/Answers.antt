use Rattle.std.proofs.Common.{◌∙◌, ap, nat_eq}
use Rattle.std.specs.List.{list_any}
use Rattle.lido_syntax.specs.declared.spec.Name.{Name}
use Rattle.lido_syntax.specs.Production.{name_of}
use Rattle.rule_tables.proofs.ClassLemmas.{any-name}
use Rattle.rule_tables.proofs.direct_classes.is_about.Goals as goal

pub returns : goal.returns
returns c = c.has_name.ensures ∙ ap (list_any (λ (x : Name). nat_eq c.args.symbol.0 (name_of x))) c.as_slice.ensures ∙ any-name c.args.symbol.0 c.args.item.now.names
