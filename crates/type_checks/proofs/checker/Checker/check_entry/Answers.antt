use Rattle.std.specs.Prelude.{option_map}
use Rattle.std.proofs.Common.{inl, inr, ap, sym, subst, ◌∙◌}
use Rattle.std.proofs.lemmas.Option.{none-some}
use Rattle.std.proofs.lemmas.Result.{IfOk-weaker, IfErr-weaker}
use Rattle.lido_base.proofs.Lists.{place-contains}
use Rattle.lido_syntax.specs.declared.spec.Spec.{Spec}
use Rattle.lido_syntax.specs.declared.fault.SpecFault.{SpecFault}
use Rattle.rule_tables.specs.PlainRules.{number}
use Rattle.rule_tables.specs.TablesOf.{named_symbols}
use Rattle.numbered_computations.specs.Held.{standing}
use Rattle.leaf_types.specs.Single.{AreSingleTypes}
use Rattle.leaf_types.specs.Types.{AreTypesOf}
use Rattle.expr_types.specs.Scopes.{holder_of as holder_in}
use Rattle.type_checks.specs.Checker.{texts_of}
use Rattle.type_checks.proofs.EntryLemmas.{flat-below, flat-here, symbol-here, held-here, row-below, goal-found, named-found, found, typed-as, fault-as, there-as, wanted-as, single-here, there-here}
use Rattle.type_checks.proofs.checker.Checker.check_entry.Goals as goal

pub plain_rule-requires : goal.plain_rule-requires
plain_rule-requires c =
    let t = c.args.self.now.tables.now in
    let checker = c.requires.checker in
    let at = c.requires.there.3 in
    flat-below t checker.env checker.tables c.args.j at.rule at.number

pub symbol_at-x-requires : goal.symbol_at-x-requires
symbol_at-x-requires c =
    let t = c.args.self.now.tables.now in
    let checker = c.requires.checker in
    let at = c.requires.there.3 in
    let s = c.requires.there.2 in (
      at.rule,
      number t.spec (named_symbols t) s,
      flat-here t checker.env checker.tables c.args.j at.rule c.plain_rule.result.now at.number c.plain_rule.ensures,
      symbol-here t checker.env checker.tables c.args.j c.args.entry.now c.requires.there.0 c.requires.there.1 s at,
    )

pub symbol_row-row-requires : goal.symbol_row-row-requires
symbol_row-row-requires c =
    let t = c.args.self.now.tables.now in
    let checker = c.requires.checker in
    let e = c.args.entry.now in
    let comps = c.args.self.now.computations in
    let f = c.requires.there.0 in
    let r = c.requires.there.1 in
    let s = c.requires.there.2 in
    let at = c.requires.there.3 in
    row-below t checker.env checker.tables comps checker.computations c.args.j e f r s at c.plain_rule.result.now c.plain_rule.ensures c.symbol_at-x.result c.symbol_at-x.ensures

pub unreachable-requires : goal.unreachable-requires
unreachable-requires c =
    let t = c.args.self.now.tables.now in
    let checker = c.requires.checker in
    let e = c.args.entry.now in
    let comps = c.args.self.now.computations in
    let f = c.requires.there.0 in
    let r = c.requires.there.1 in
    let s = c.requires.there.2 in
    let at = c.requires.there.3 in
    let held = held-here t checker.env checker.tables comps checker.computations c.args.j e f r s at in
    none-some _ (sym (ap (option_map standing) c.in_default.is) ∙ c.at.ensures ∙ held.1)

pub wanted_by-wanted-requires : goal.wanted_by-wanted-requires
wanted_by-wanted-requires c =
    let t = c.args.self.now.tables.now in
    let checker = c.requires.checker in
    let e = c.args.entry.now in
    let comps = c.args.self.now.computations in
    let f = c.requires.there.0 in
    let r = c.requires.there.1 in
    let s = c.requires.there.2 in
    let at = c.requires.there.3 in
    (f.goal, goal-found t checker.env checker.tables comps checker.computations c.args.j e f r s at c.plain_rule.result.now c.plain_rule.ensures c.symbol_at-x.result c.symbol_at-x.ensures)

pub check_computation-requires-clause-scope : goal.check_computation-requires-clause-scope
check_computation-requires-clause-scope c =
    let t = c.args.self.now.tables.now in
    let checker = c.requires.checker in
    let e = c.args.entry.now in
    let comps = c.args.self.now.computations in
    record {
      functions = checker.functions;
      types = subst (λ (z : Spec). AreTypesOf z c.args.self.now.types) (sym checker.of_spec) checker.types;
      single = subst AreSingleTypes (sym checker.of_spec) (single-here t.spec (texts_of c.args.self.now) checker.text checker.faults);
    }

pub check_computation-requires-clause-there : goal.check_computation-requires-clause-there
check_computation-requires-clause-there c =
    let t = c.args.self.now.tables.now in
    let checker = c.requires.checker in
    let e = c.args.entry.now in
    let comps = c.args.self.now.computations in
    let f = c.requires.there.0 in
    let r = c.requires.there.1 in
    let s = c.requires.there.2 in
    let at = c.requires.there.3 in
    let is = found t checker.env checker.tables comps checker.computations c.args.j e f r s at c.plain_rule.result.now c.plain_rule.ensures c.symbol_at-x.result c.symbol_at-x.ensures
    c.written_rule-rule.result.now c.written_rule-rule.ensures c.symbol_row-row.result.now c.symbol_row-row.ensures c.in-Some.held.holder c.in-Some.held.comp.now
    (sym c.at.ensures ∙ ap (option_map standing) c.in-Some.is) (holder_in c.holder_of.result) c.holder_of.ensures in
    there-as t.spec c.args.self.now.types.spec.now (texts_of c.args.self.now) f.holder (holder_in c.holder_of.result) r c.written_rule-rule.result.now s c.symbol_row-row.result.now.name.0 f.comp c.in-Some.held.comp.now
    checker.of_spec is.holder is.rule is.symbol is.comp
    (there-here t.spec (texts_of c.args.self.now) checker.text checker.faults r (place-contains t.spec.rules at.rule.rule r at.written) f.occ s f.goal f.holder f.comp at.in_force)

pub returns-clause-ok : goal.returns-clause-ok
returns-clause-ok c =
    let t = c.args.self.now.tables.now in
    let checker = c.requires.checker in
    let e = c.args.entry.now in
    let comps = c.args.self.now.computations in
    IfOk-weaker c.check_computation.result _ _
    (λ done all f r s at sets.
    let is = found t checker.env checker.tables comps checker.computations c.args.j e f r s at c.plain_rule.result.now c.plain_rule.ensures c.symbol_at-x.result c.symbol_at-x.ensures
    c.written_rule-rule.result.now c.written_rule-rule.ensures c.symbol_row-row.result.now c.symbol_row-row.ensures c.in-Some.held.holder c.in-Some.held.comp.now
    (sym c.at.ensures ∙ ap (option_map standing) c.in-Some.is) (holder_in c.holder_of.result) c.holder_of.ensures in
    let wanted = c.wanted_by-wanted.ensures checker.env s f.goal checker.tables (single-here t.spec (texts_of c.args.self.now) checker.text checker.faults)
    (named-found t checker.env checker.tables comps checker.computations c.args.j e f r s at c.plain_rule.result.now c.plain_rule.ensures c.symbol_at-x.result c.symbol_at-x.ensures)
    (goal-found t checker.env checker.tables comps checker.computations c.args.j e f r s at c.plain_rule.result.now c.plain_rule.ensures c.symbol_at-x.result c.symbol_at-x.ensures) in
    typed-as t.spec c.args.self.now.types.spec.now (texts_of c.args.self.now) f.holder (holder_in c.holder_of.result) r c.written_rule-rule.result.now s c.symbol_row-row.result.now.name.0 f.goal f.comp c.in-Some.held.comp.now
    checker.of_spec is.holder is.rule is.symbol is.comp (all f.goal (wanted-as t.spec c.args.self.now.types.spec.now s c.symbol_row-row.result.now.name.0 f.goal c.wanted_by-wanted.result checker.of_spec is.symbol wanted)) sets)
    c.check_computation.ensures.ok

pub returns-clause-err : goal.returns-clause-err
returns-clause-err c =
    let t = c.args.self.now.tables.now in
    let checker = c.requires.checker in
    let e = c.args.entry.now in
    let comps = c.args.self.now.computations in
    IfErr-weaker c.check_computation.result _ _
    (λ (fault : SpecFault) h. elim h [
      | inl memory ↦ inl memory
      | inr all ↦ inr (λ f r s at sets.
          let is = found t checker.env checker.tables comps checker.computations c.args.j e f r s at c.plain_rule.result.now c.plain_rule.ensures c.symbol_at-x.result c.symbol_at-x.ensures
          c.written_rule-rule.result.now c.written_rule-rule.ensures c.symbol_row-row.result.now c.symbol_row-row.ensures c.in-Some.held.holder c.in-Some.held.comp.now
          (sym c.at.ensures ∙ ap (option_map standing) c.in-Some.is) (holder_in c.holder_of.result) c.holder_of.ensures in
          let wanted = c.wanted_by-wanted.ensures checker.env s f.goal checker.tables (single-here t.spec (texts_of c.args.self.now) checker.text checker.faults)
          (named-found t checker.env checker.tables comps checker.computations c.args.j e f r s at c.plain_rule.result.now c.plain_rule.ensures c.symbol_at-x.result c.symbol_at-x.ensures)
          (goal-found t checker.env checker.tables comps checker.computations c.args.j e f r s at c.plain_rule.result.now c.plain_rule.ensures c.symbol_at-x.result c.symbol_at-x.ensures) in
          fault-as t.spec c.args.self.now.types.spec.now (texts_of c.args.self.now) f.holder (holder_in c.holder_of.result) r c.written_rule-rule.result.now s c.symbol_row-row.result.now.name.0 f.goal f.comp c.in-Some.held.comp.now fault
          checker.of_spec is.holder is.rule is.symbol is.comp (all f.goal (wanted-as t.spec c.args.self.now.types.spec.now s c.symbol_row-row.result.now.name.0 f.goal c.wanted_by-wanted.result checker.of_spec is.symbol wanted)) sets)
    ])
    c.check_computation.ensures.err
