use Rattle.std.specs.Prelude.{Contains}
use Rattle.std.proofs.Common.{sym, subst, refl}
use Rattle.lido_syntax.specs.declared.spec.Name.{Name}
use Rattle.lido_syntax.specs.declared.spec.SymbolItem.{SymbolItem}
use Rattle.lido_syntax.specs.Production.{name_of}
use Rattle.rule_tables.proofs.rows.row.Goals as goal

pub direct_classes-requires-clause-numbered : goal.direct_classes-requires-clause-numbered
direct_classes-requires-clause-numbered c =
    subst (λ l. (item : SymbolItem) (x : Name) → Contains l item → Contains item.inherits x → Contains c.args.symbols.now (name_of x)) (sym c.as_slice.ensures) c.requires.numbered

pub returns : goal.returns
returns c env known = record {
  name = refl;
  class = c.class_of.ensures c.args.spec.now env c.args.symbols.now c.requires.sets c.requires.types known;
  attrs = c.requires.attributes;
  classes = c.in_ok-direct_classes.ensures c.args.spec.now env (sym c.as_slice.ensures);
}
