use Rattle.std.specs.Prelude.{IfOk}
use Rattle.std.proofs.Common.{◌≡◌, [], List, ℕ, Result, Ok, Err, refl, sym, subst}
use Rattle.lido_base.specs.Environment.{Environment}
use Rattle.lido_base.specs.Faults.{HasNone}
use Rattle.lido_base.specs.Texts.{Gains}
use Rattle.lido_syntax.specs.declared.spec.Spec.{Spec}
use Rattle.lido_syntax.specs.declared.fault.SpecFault.{SpecFault}
use Rattle.lido_symbols.specs.FromText.{IsFromText}
use Rattle.table_faults.specs.Faults.{table_faults}
use Rattle.rule_tables.specs.declared.table.Tables.{Tables}
use Rattle.rule_tables.specs.declared.forced.Forced.{Forced}
use Rattle.rule_tables.specs.RuleNames.{HasIds}
use Rattle.rule_tables.specs.TablesOf.{AreTablesOf}
use Rattle.rule_tables.specs.ForcedOf.{AreForcedOf}
use Rattle.need_graphs.specs.Clear.{AreWithin}
use Rattle.clear_tables.proofs.WithinLemmas.{are-within}
use Rattle.clear_tables.proofs.LaterFaults.{no-later-faults}
use Rattle.trials_of_phases.proofs.read.forced.Goals as goal

-- these texts, and no patterns
abbrev of_texts : List (List ℕ) → Environment
of_texts texts = record { texts = texts; patterns = [] }

on-ok : (P Q : Forced → Type 0) (r : Result Forced SpecFault) → ((forced : Forced) → P forced → Q forced) → IfOk r P → IfOk r Q
on-ok P Q (Ok forced) more h = more forced h
on-ok P Q (Err e) more h = tt

both-ok : (P Q R : Forced → Type 0) (r : Result Forced SpecFault) → ((forced : Forced) → P forced → Q forced → R forced) → IfOk r P → IfOk r Q → IfOk r R
both-ok P Q R (Ok forced) more h k = more forced h k
both-ok P Q R (Err e) more h k = tt

-- of the tables
module _ (spec : Spec) (old new : List (List ℕ)) (tables : Tables) (ids : HasIds old spec) (gains : Gains old new) (of : tables.spec ≡ spec)
    (none : HasNone (table_faults spec (of_texts old))) (are : AreTablesOf (of_texts new) tables) where
  none-early : HasNone (table_faults tables.spec (of_texts old))
  none-early = subst (λ s. HasNone (table_faults s (of_texts old))) (sym of) none

  ids-early : HasIds old tables.spec
  ids-early = subst (HasIds old) (sym of) ids

  none-later : (env : Environment) → env.texts ≡ new → HasNone (table_faults tables.spec env)
  none-later env e = no-later-faults tables.spec (of_texts old) env ids-early (subst (Gains old) (sym e) gains) none-early

  within : IsFromText tables.spec → AreWithin tables
  within text = are-within (of_texts old) (of_texts new) tables text ids-early gains none-early are

pub in_force-requires-clause-tables : goal.in_force-requires-clause-tables
in_force-requires-clause-tables c = (of_texts c.tables.new.strings, c.in_ok-tables.ensures.tables (of_texts c.tables.new.strings) refl)

pub in_force-requires-clause-faults : goal.in_force-requires-clause-faults
in_force-requires-clause-faults c =
    let old = c.args.strings.now in
    let new = c.tables.new.strings in (
      of_texts old,
      none-early c.args.spec old new c.in_ok-tables.tables c.requires.ids c.tables.ensures.kept c.in_ok-tables.ensures.of_spec (c.in_ok-tables.ensures.none (of_texts old) refl)
          (c.in_ok-tables.ensures.tables (of_texts new) refl),
    )

pub returns-clause-forced : goal.returns-clause-forced
returns-clause-forced c =
    let new = c.tables.new.strings in
    on-ok (λ (forced : Forced). (env : Environment) → AreTablesOf env c.in_ok-tables.tables → AreForcedOf env forced) (λ (forced : Forced). (env : Environment) × AreForcedOf env forced) c.in_force.result
    (λ forced h. (of_texts new, h (of_texts new) (c.in_ok-tables.ensures.tables (of_texts new) refl))) c.in_force.ensures.forced

pub returns-clause-within : goal.returns-clause-within
returns-clause-within c =
    let old = c.args.strings.now in
    let new = c.tables.new.strings in
    let of = c.in_ok-tables.ensures.of_spec in
    let is = within c.args.spec old new c.in_ok-tables.tables c.requires.ids c.tables.ensures.kept of (c.in_ok-tables.ensures.none (of_texts old) refl)
    (c.in_ok-tables.ensures.tables (of_texts new) refl) (subst IsFromText (sym of) c.requires.text) in
    on-ok (λ (forced : Forced). forced.tables ≡ c.in_ok-tables.tables) (λ (forced : Forced). AreWithin forced.tables) c.in_force.result
    (λ forced e. subst AreWithin (sym e) is) c.in_force.ensures.tables

pub returns-clause-none : goal.returns-clause-none
returns-clause-none c =
    let old = c.args.strings.now in
    let new = c.tables.new.strings in
    let is = none-later c.args.spec old new c.in_ok-tables.tables c.requires.ids c.tables.ensures.kept c.in_ok-tables.ensures.of_spec (c.in_ok-tables.ensures.none (of_texts old) refl)
    (c.in_ok-tables.ensures.tables (of_texts new) refl) in
    on-ok (λ (forced : Forced). forced.tables ≡ c.in_ok-tables.tables) (λ (forced : Forced). (env : Environment) → env.texts ≡ new → HasNone (table_faults forced.tables.spec env)) c.in_force.result
    (λ forced e env t. subst (λ (z : Tables). HasNone (table_faults z.spec env)) (sym e) (is env t)) c.in_force.ensures.tables
