use Rattle.std.specs.Prelude.{slice_get, length}
use Rattle.std.proofs.Common.{inl, inr, ap, sym, subst, ◌∙◌, refl}
use Rattle.std.proofs.lemmas.Result.{IfOk-weaker, IfErr-weaker}
use Rattle.lido_base.specs.Environment.{Environment}
use Rattle.lido_syntax.specs.declared.spec.RuleItem.{RuleItem}
use Rattle.std.proofs.Common.{ℕ}
use Rattle.rule_tables.specs.Forced.{Force}
use Rattle.type_checks.specs.Checker.{texts_of}
use Rattle.type_checks.specs.Entries.{IsEntryAt}
use Rattle.type_checks.specs.Whole.{AreTypedBefore, IsFirstOf}
use Rattle.type_checks.proofs.EntryLemmas.{no-clash, single-here}
use Rattle.type_checks.proofs.FaultLemmas.{entry-at, none-faulty, first-faulty}
use Rattle.type_checks.proofs.forced.check_forced.Goals as goal

pub check_rules-requires-clause-there : goal.check_rules-requires-clause-there
check_rules-requires-clause-there c = λ j k entries e there at.
    subst (λ t. (f : Force) × (r : RuleItem) × (s : ℕ) × IsEntryAt t j e f r s) (sym c.in-Ok.ensures.of_tables)
    (entry-at c.args.forced.now c.requires.forced.0 c.requires.forced.1 j k entries e (ap (λ all. slice_get all j) (sym c.as_slice.ensures) ∙ there) at)

pub returns-clause-ok : goal.returns-clause-ok
returns-clause-ok c =
    let forced = c.args.forced.now in
    let texts : Environment = record { texts = c.args.strings.now; patterns = c.args.patterns.now.list } in
    let checker = c.in-Ok.checker in
    let faults = c.requires.faults texts refl in
    let none = no-clash forced.tables.spec texts c.requires.text faults in
    let single = single-here forced.tables.spec texts c.requires.text faults in
    IfOk-weaker c.check_rules.result _ _
    (λ done typed env T are. none-faulty forced c.requires.forced.0 env texts c.requires.forced.1 c.requires.text none single T are
    (subst (λ t. AreTypedBefore t texts forced.comps (length forced.comps)) c.in-Ok.ensures.of_tables
    (subst (λ e. AreTypedBefore checker.tables.now e forced.comps (length forced.comps)) c.in-Ok.ensures.texts
    (subst (λ all. AreTypedBefore checker.tables.now (texts_of checker) all (length all)) c.as_slice.ensures typed))))
    c.check_rules.ensures.ok

pub returns-clause-err : goal.returns-clause-err
returns-clause-err c =
    let forced = c.args.forced.now in
    let texts : Environment = record { texts = c.args.strings.now; patterns = c.args.patterns.now.list } in
    let checker = c.in-Ok.checker in
    let faults = c.requires.faults texts refl in
    let none = no-clash forced.tables.spec texts c.requires.text faults in
    let single = single-here forced.tables.spec texts c.requires.text faults in
    IfErr-weaker c.check_rules.result _ _
    (λ x h. elim h [
      | inl memory ↦ inl memory
      | inr found ↦ inr (λ env T are. first-faulty forced c.requires.forced.0 env texts c.requires.forced.1 c.requires.text none single T are x
          (subst (λ t. IsFirstOf t texts forced.comps x) c.in-Ok.ensures.of_tables
          (subst (λ e. IsFirstOf checker.tables.now e forced.comps x) c.in-Ok.ensures.texts
          (subst (λ all. IsFirstOf checker.tables.now (texts_of checker) all x) c.as_slice.ensures found))))
    ])
    c.check_rules.ensures.err
