use Rattle.std.proofs.Common.{refl, sym, subst, ◌∙◌, ap, [], length, filter, arith, nat_eq}
use Rattle.std.specs.List.{AllZip}
use Rattle.lido_base.specs.Environment.{Environment}
use Rattle.lido_base.specs.Texts.{Gains}
use Rattle.lido_symbols.specs.Numbers.{AreNumbered, enumerated}
use Rattle.symbol_attributes.proofs.LawLemmas.{are-numbered-in}
use Rattle.rule_tables.specs.PlainRules.{IsShapeOf}
use Rattle.rule_tables.specs.RuleNames.{HasNames}
use Rattle.rule_tables.specs.TablesOf.{IsCellOf}
use Rattle.rule_tables.proofs.PlainLemmas.{is_list}
use Rattle.rule_tables.proofs.LaterTexts.{no-more, more-again}
use Rattle.rule_tables.proofs.LaterUses.{uses-later, rule-names, names-later}
use Rattle.rule_tables.proofs.LimitLemmas.{few-symbols, few-rules, all-known, other-known, some-root}
use Rattle.rule_tables.proofs.AssemblyLemmas.{are-tables}
use Rattle.rule_tables.proofs.assembly.tables_of.Goals as goal

pub only_root-root-requires-clause-few : goal.only_root-root-requires-clause-few
only_root-root-requires-clause-few c =
    let old : Environment = record { texts = c.args.strings.now; patterns = [] } in
    let few = few-symbols c.args.spec old (c.requires.none old refl) c.in_ok-symbols.symbols (c.in_ok-symbols.ensures old refl) in
    omega (arith, few)

pub only_root-root-requires-clause-some : goal.only_root-root-requires-clause-some
only_root-root-requires-clause-some c =
    let old : Environment = record { texts = c.args.strings.now; patterns = [] } in
    some-root c.args.spec old (c.requires.none old refl)

pub shapes-requires-clause-few : goal.shapes-requires-clause-few
shapes-requires-clause-few c =
    let old : Environment = record { texts = c.args.strings.now; patterns = [] } in
    let few = few-symbols c.args.spec old (c.requires.none old refl) c.in_ok-symbols.symbols (c.in_ok-symbols.ensures old refl) in
    omega (arith, few)

pub shapes-requires-clause-numbers : goal.shapes-requires-clause-numbers
shapes-requires-clause-numbers c =
    let old : Environment = record { texts = c.args.strings.now; patterns = [] } in
    let few = few-rules c.args.spec old (c.requires.none old refl) in
    omega (arith, few, ap length c.as_slice.ensures)

pub symbol_rows-requires-clause-few : goal.symbol_rows-requires-clause-few
symbol_rows-requires-clause-few c =
    let old : Environment = record { texts = c.args.strings.now; patterns = [] } in
    let few = few-symbols c.args.spec old (c.requires.none old refl) c.in_ok-symbols.symbols (c.in_ok-symbols.ensures old refl) in
    omega (arith, few)

pub symbol_rows-requires-clause-numbered : goal.symbol_rows-requires-clause-numbered
symbol_rows-requires-clause-numbered c =
    let old : Environment = record { texts = c.args.strings.now; patterns = [] } in
    are-numbered-in c.args.spec old c.in_ok-symbols.symbols (c.in_ok-symbols.ensures old refl)

pub cells-requires : goal.cells-requires
cells-requires c = subst (HasNames c.args.strings.now) (sym c.as_slice-2.ensures) (rule-names c.args.spec c.args.strings.now c.requires.ids)

pub plain_rules-requires-clause-few : goal.plain_rules-requires-clause-few
plain_rules-requires-clause-few c =
    let old : Environment = record { texts = c.args.strings.now; patterns = [] } in
    few-symbols c.args.spec old (c.requires.none old refl) c.in_ok-symbols.symbols (c.in_ok-symbols.ensures old refl)

pub plain_rules-requires-clause-names : goal.plain_rules-requires-clause-names
plain_rules-requires-clause-names c = names-later c.args.strings.now c.cells.new.strings c.args.spec.rules (rule-names c.args.spec c.args.strings.now c.requires.ids) c.in_ok-cells.ensures.kept

pub returns-clause-tables : goal.returns-clause-tables
returns-clause-tables c env e =
    let spec = c.args.spec in
    let texts = c.args.strings.now in
    let symbols = c.in_ok-symbols.symbols in
    let old : Environment = record { texts = texts; patterns = [] } in
    let none = c.requires.none old refl in
    let before = c.in_ok-symbols.ensures old refl in
    let last : Gains c.plain_rules.new.strings env.texts = subst (Gains c.plain_rules.new.strings) (sym e) (no-more c.plain_rules.new.strings) in
    let middle : Gains c.cells.new.strings env.texts = more-again c.cells.new.strings c.plain_rules.new.strings env.texts c.in_ok-plain.ensures.kept last in
    let first : Gains texts env.texts = more-again texts c.cells.new.strings env.texts c.in_ok-cells.ensures.kept middle in
    are-tables spec env symbols (subst (λ u. AreNumbered nat_eq u symbols) (uses-later spec texts old env c.requires.ids refl first) before)
    c.in_ok-rows.rows.items c.in_ok-cells.cells.items
    (c.in_ok-rows.ensures env (λ s m no. all-known spec old none symbols before s m (λ k. no (other-known spec old env s k))))
    (subst (λ l. AllZip (IsCellOf spec env symbols) (filter is_list l) c.in_ok-cells.cells.items) c.as_slice-2.ensures (c.in_ok-cells.ensures.cells spec env symbols middle))
    c.only_root-root.result c.only_root-root.ensures
    c.in_ok-plain.plain.items (c.in_ok-plain.ensures.plain env last)
    c.in_ok-shapes.shapes (subst (λ l. AllZip (IsShapeOf spec symbols) (enumerated 0 l) c.in_ok-shapes.shapes) c.as_slice.ensures (c.in_ok-shapes.ensures spec))
    c.from_vec.result c.from_vec-2.result (c.from_vec.ensures ∙ c.in_ok-append.ensures.items) c.from_vec-2.ensures
