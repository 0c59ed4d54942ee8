use Rattle.std.specs.Prelude.{◌≡◌, refl}
use Rattle.std.proofs.lemmas.Result.{err_from_is_err_and}
use Rattle.lido_base.specs.Reading.{nothing}
use Rattle.lido_computations.specs.Messages.{IsComputationIn}
use Rattle.lido_computations.specs.declared.owners.Owner.TheVariants as owner
use Rattle.lido_reader.specs.Items.{IsRule, called_in, is_bar_kind, is_element_kind}
use Rattle.std.specs.Prelude.{◌||◌}
use Rattle.lido_computations.proofs.PhrasesLemmas.{leads_self, name_completable, no_memory}
use Rattle.lido_reader.proofs.PartsLemmas.{finish, then_finish, go_on, go_past, stuck_at, stuck_in, read_whole, optional_completable}
use Rattle.lido_reader.proofs.DeclarationsLemmas.{colon_completable}
use Rattle.lido_reader.proofs.NamesOfRulesLemmas.{colon_names}
use Rattle.lido_reader.proofs.RightSidesLemmas.{right_completable}
use Rattle.lido_reader.proofs.TextsLemmas.{later_of}
use Rattle.lido_reader.proofs.BodiesLemmas.{body_stops, body_completable}
use Rattle.lido_reader.proofs.AddedLemmas.{some_of_same, some_of_all, adds_these, adds_then_keeps, rule_table}
use Rattle.lido_reader.proofs.rules.rule.Goals as goal

pub returns-in_err-word-clause-reads : goal.returns-in_err-word-clause-reads
returns-in_err-word-clause-reads c = λ texts later. let p = err_from_is_err_and c.from_residual.result c.from_residual.ensures.1 in rw (p.1, p.2)
    (stuck_at c.args.end (leads_self (IsRule (called_in texts) (IsComputationIn c.args.words texts) c.args.place c.args.number) nothing c.args.tokens.now) (λ word. then_finish optional_completable (λ name. then_finish colon_completable (λ colon. then_finish name_completable (λ left. then_finish right_completable (λ right. then_finish (body_completable (IsComputationIn c.args.words texts owner.Rule) c.args.number) (λ all. finish)))))) c.in_err-word.field-0.0 c.in_err-word.ensures.reads)

pub returns-in_err-called-clause-reads : goal.returns-in_err-called-clause-reads
returns-in_err-called-clause-reads c = λ texts later. let p = err_from_is_err_and c.from_residual-in_err-called.result c.from_residual-in_err-called.ensures.1 in rw (p.1, p.2)
    (no_memory (IsRule (called_in texts) (IsComputationIn c.args.words texts) c.args.place c.args.number) nothing c.args.end c.args.tokens.now c.in_err-called.field-0.0 c.in_err-called.ensures.memory)

pub returns-in_err-behind_colon-clause-reads : goal.returns-in_err-behind_colon-clause-reads
returns-in_err-behind_colon-clause-reads c = λ texts later. let p = err_from_is_err_and c.from_residual-in_err-behind_colon.result c.from_residual-in_err-behind_colon.ensures.1 in rw (p.1, p.2)
    (stuck_at c.args.end (go_past (colon_names _ _) (go_on (leads_self (IsRule (called_in texts) (IsComputationIn c.args.words texts) c.args.place c.args.number) nothing c.args.tokens.now) c.in_ok-word.ensures.reads) (c.in_ok-called.ensures.reads texts later)) (λ colon. then_finish name_completable (λ left. then_finish right_completable (λ right. then_finish (body_completable (IsComputationIn c.args.words texts owner.Rule) c.args.number) (λ all. finish)))) c.in_err-behind_colon.field-0.0 c.in_err-behind_colon.ensures.reads)

pub returns-in_err-left-clause-reads : goal.returns-in_err-left-clause-reads
returns-in_err-left-clause-reads c = λ texts later. let p = err_from_is_err_and c.from_residual-in_err-left.result c.from_residual-in_err-left.ensures.1 in rw (p.1, p.2)
    (stuck_at c.args.end (go_on (go_past (colon_names _ _) (go_on (leads_self (IsRule (called_in texts) (IsComputationIn c.args.words texts) c.args.place c.args.number) nothing c.args.tokens.now) c.in_ok-word.ensures.reads) (c.in_ok-called.ensures.reads texts later)) c.in_ok-behind_colon.ensures.reads) (λ left. then_finish right_completable (λ right. then_finish (body_completable (IsComputationIn c.args.words texts owner.Rule) c.args.number) (λ all. finish))) c.in_err-left.field-0.0 c.in_err-left.ensures.reads)

pub returns-in_err-right-clause-reads : goal.returns-in_err-right-clause-reads
returns-in_err-right-clause-reads c = λ texts later. let p = err_from_is_err_and c.from_residual-in_err-right.result c.from_residual-in_err-right.ensures.1 in rw (p.1, p.2)
    (stuck_in c.args.end (body_stops (IsComputationIn c.args.words texts owner.Rule) c.args.number (λ k. is_element_kind k || is_bar_kind k) refl refl _ _) (go_on (go_on (go_past (colon_names _ _) (go_on (leads_self (IsRule (called_in texts) (IsComputationIn c.args.words texts) c.args.place c.args.number) nothing c.args.tokens.now) c.in_ok-word.ensures.reads) (c.in_ok-called.ensures.reads texts later)) c.in_ok-behind_colon.ensures.reads) c.in_ok-left.ensures.reads) (λ right. then_finish (body_completable (IsComputationIn c.args.words texts owner.Rule) c.args.number) (λ all. finish)) c.in_err-right.field-0.0 c.in_err-right.ensures.reads)

pub returns-in_err-computed-clause-reads : goal.returns-in_err-computed-clause-reads
returns-in_err-computed-clause-reads c = λ texts later. let p = err_from_is_err_and c.from_residual-in_err-computed.result c.from_residual-in_err-computed.ensures.1 in rw (p.1, p.2)
    (stuck_at c.args.end (go_past (body_stops (IsComputationIn c.args.words texts owner.Rule) c.args.number (λ k. is_element_kind k || is_bar_kind k) refl refl _ _) (go_on (go_on (go_past (colon_names _ _) (go_on (leads_self (IsRule (called_in texts) (IsComputationIn c.args.words texts) c.args.place c.args.number) nothing c.args.tokens.now) c.in_ok-word.ensures.reads) (c.in_ok-called.ensures.reads texts (later_of c.rule_name.new.strings c.body.new.strings texts c.body.ensures.kept later))) c.in_ok-behind_colon.ensures.reads) c.in_ok-left.ensures.reads) c.in_ok-right.ensures.reads) (λ all. finish) c.in_err-computed.field-0.0 (c.in_err-computed.ensures.reads texts later))

pub returns-clause-reads : goal.returns-clause-reads
returns-clause-reads c = λ texts later.
    let right : c.from_vec.result ≡ c.in_ok-right.right.elements.items = c.from_vec.ensures in
    let all : c.from_vec-2.result ≡ c.in_ok-computed.computed.all.items = c.from_vec-2.ensures in
    rw (right, all) (read_whole (go_on (go_past (body_stops (IsComputationIn c.args.words texts owner.Rule) c.args.number (λ k. is_element_kind k || is_bar_kind k) refl refl _ _) (go_on (go_on (go_past (colon_names _ _) (go_on (leads_self (IsRule (called_in texts) (IsComputationIn c.args.words texts) c.args.place c.args.number) nothing c.args.tokens.now) c.in_ok-word.ensures.reads) (c.in_ok-called.ensures.reads texts (later_of c.rule_name.new.strings c.body.new.strings texts c.body.ensures.kept later))) c.in_ok-behind_colon.ensures.reads) c.in_ok-left.ensures.reads) c.in_ok-right.ensures.reads) (c.in_ok-computed.ensures.reads texts later)))

pub returns-in_err-word-clause-within : goal.returns-in_err-word-clause-within
returns-in_err-word-clause-within c = some_of_same refl

pub returns-in_err-called-clause-within : goal.returns-in_err-called-clause-within
returns-in_err-called-clause-within c = some_of_same c.in_err-called.ensures.refused

pub returns-in_err-behind_colon-clause-within : goal.returns-in_err-behind_colon-clause-within
returns-in_err-behind_colon-clause-within c = some_of_all (adds_these (rule_table c.args.place c.args.tokens.now c.in_ok-word.behind_word.now c.in_ok-word.word c.args.strings.now c.rule_name.new.strings c.in_ok-word.ensures.reads c.in_ok-called.ensures.table))

pub returns-in_err-left-clause-within : goal.returns-in_err-left-clause-within
returns-in_err-left-clause-within c = some_of_all (adds_these (rule_table c.args.place c.args.tokens.now c.in_ok-word.behind_word.now c.in_ok-word.word c.args.strings.now c.rule_name.new.strings c.in_ok-word.ensures.reads c.in_ok-called.ensures.table))

pub returns-in_err-right-clause-within : goal.returns-in_err-right-clause-within
returns-in_err-right-clause-within c = some_of_all (adds_these (rule_table c.args.place c.args.tokens.now c.in_ok-word.behind_word.now c.in_ok-word.word c.args.strings.now c.rule_name.new.strings c.in_ok-word.ensures.reads c.in_ok-called.ensures.table))

pub returns-in_err-computed-clause-within : goal.returns-in_err-computed-clause-within
returns-in_err-computed-clause-within c = some_of_all (adds_then_keeps (rule_table c.args.place c.args.tokens.now c.in_ok-word.behind_word.now c.in_ok-word.word c.args.strings.now c.rule_name.new.strings c.in_ok-word.ensures.reads c.in_ok-called.ensures.table) c.in_err-computed.ensures.same)

pub returns-clause-within : goal.returns-clause-within
returns-clause-within c = some_of_all (adds_then_keeps (rule_table c.args.place c.args.tokens.now c.in_ok-word.behind_word.now c.in_ok-word.word c.args.strings.now c.rule_name.new.strings c.in_ok-word.ensures.reads c.in_ok-called.ensures.table) c.in_ok-computed.ensures.same)

pub returns-clause-table : goal.returns-clause-table
returns-clause-table c = adds_then_keeps (rule_table c.args.place c.args.tokens.now c.in_ok-word.behind_word.now c.in_ok-word.word c.args.strings.now c.rule_name.new.strings c.in_ok-word.ensures.reads c.in_ok-called.ensures.table) c.in_ok-computed.ensures.same
