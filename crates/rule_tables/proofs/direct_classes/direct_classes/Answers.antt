use Rattle.std.specs.Prelude.{Contains}
use Rattle.std.proofs.Common.{sym, subst}
use Rattle.std.proofs.lemmas.Result.{IfOk-weaker}
use Rattle.lido_syntax.specs.declared.spec.Name.{Name}
use Rattle.lido_syntax.specs.declared.spec.SymbolItem.{SymbolItem}
use Rattle.lido_syntax.specs.Production.{name_of}
use Rattle.kind_clashes.specs.Least.{Among}
use Rattle.kind_clashes.specs.Names.{IsSetOf}
use Rattle.rule_tables.specs.DirectClasses.{IsHandedBy}
use Rattle.rule_tables.proofs.ClassLemmas.{are-classes}
use Rattle.rule_tables.proofs.direct_classes.direct_classes.Goals as goal

pub returns : goal.returns
returns c =
    let symbols = c.args.symbols.now in
    let s = c.args.symbol.0 in
    let classes = c.in_ok-classes.classes in
    IfOk-weaker c.numbers_of.result _ _ (λ ids h spec env e.
    are-classes spec env symbols s (subst (λ l. (item : SymbolItem) (x : Name) → Contains l item → Contains item.inherits x → Contains symbols (name_of x)) (sym e) c.requires.numbered)
    classes ids (subst (λ l. IsSetOf (Among (IsHandedBy s) l) classes) (sym e) c.in_ok-classes.ensures) h) c.numbers_of.ensures
