use Rattle.std.specs.Prelude.{◌≡◌, ℕ, ◌∷◌, [], ◌++◌}
use Rattle.std.proofs.lemmas.Result.{err_from_is_err_and}
use Rattle.lido_base.specs.Reading.{nothing}
use Rattle.lido_computations.specs.Messages.{IsComputationIn}
use Rattle.lido_reader.specs.Found.{found_in}
use Rattle.lido_reader.specs.Items.{IsRuleItem, called_in}
use Rattle.std.specs.Prelude.{length, ◌+◌}
use Rattle.std.proofs.Common.{subst, arith}
use Rattle.std.proofs.lemmas.Grind.{common_steps}
use Rattle.lido_base.specs.Reading.{Finds}
use Rattle.lido_reader.specs.Items.{IsRule}
use Rattle.lido_computations.specs.Phrases.{RefusesAt}
use Rattle.lido_computations.proofs.PhrasesLemmas.{leads_self}
use Rattle.lido_reader.proofs.PartsLemmas.{finish, go_on, stuck_at, read_whole}
use Rattle.lido_reader.specs.Added.{Adds, AddsSome, first_names}
use Rattle.lido_reader.proofs.items.rule_item.Goals as goal

pub returns-in_err-item-clause-reads : goal.returns-in_err-item-clause-reads
returns-in_err-item-clause-reads c = λ texts later. let p = err_from_is_err_and c.from_residual.result c.from_residual.ensures.1 in rw (p.1, p.2)
    (stuck_at c.args.end (leads_self (IsRuleItem (called_in texts) (IsComputationIn c.args.words texts) (found_in c.args.found)) nothing c.args.tokens.now) (λ x. finish) c.in_err-item.field-0.0 (let count : c.len.result ≡ length c.args.found.rules.items = grind (arith, common_steps) in subst (λ (k : ℕ). RefusesAt (IsRule (called_in texts) (IsComputationIn c.args.words texts) (k + 1) c.args.found.next) nothing c.args.end c.args.tokens.now c.in_err-item.field-0.0) count (c.in_err-item.ensures.reads texts later)))

pub returns-clause-reads : goal.returns-clause-reads
returns-clause-reads c = λ texts later.
    let items : c.push.new.self.items ≡ c.args.found.rules.items ++ c.in_ok-item.item ∷ [] = c.in_ok-push.ensures.items in
    rw items (read_whole (go_on (leads_self (IsRuleItem (called_in texts) (IsComputationIn c.args.words texts) (found_in c.args.found)) nothing c.args.tokens.now) (let count : c.len.result ≡ length c.args.found.rules.items = grind (arith, common_steps) in subst (λ (k : ℕ). Finds (IsRule (called_in texts) (IsComputationIn c.args.words texts) (k + 1) c.args.found.next) nothing c.args.tokens.now (c.in_ok-item.item, c.in_ok-item.next) c.in_ok-item.rest.now) count (c.in_ok-item.ensures.reads texts later))))

pub returns-in_err-item-clause-within : goal.returns-in_err-item-clause-within
returns-in_err-item-clause-within c = let count : c.len.result ≡ length c.args.found.rules.items = grind (arith, common_steps) in subst (λ (k : ℕ). AddsSome (first_names (k + 1) c.args.tokens.now) c.args.strings.now c.rule.new.strings) count (c.in_err-item.ensures.within)

pub returns-in_err-push-clause-within : goal.returns-in_err-push-clause-within
returns-in_err-push-clause-within c = let count : c.len.result ≡ length c.args.found.rules.items = grind (arith, common_steps) in subst (λ (k : ℕ). AddsSome (first_names (k + 1) c.args.tokens.now) c.args.strings.now c.rule.new.strings) count (c.in_ok-item.ensures.within)

pub returns-clause-within : goal.returns-clause-within
returns-clause-within c = let count : c.len.result ≡ length c.args.found.rules.items = grind (arith, common_steps) in subst (λ (k : ℕ). AddsSome (first_names (k + 1) c.args.tokens.now) c.args.strings.now c.rule.new.strings) count (c.in_ok-item.ensures.within)

pub returns-clause-table : goal.returns-clause-table
returns-clause-table c = let count : c.len.result ≡ length c.args.found.rules.items = grind (arith, common_steps) in subst (λ (k : ℕ). Adds (first_names (k + 1) c.args.tokens.now) c.args.strings.now c.rule.new.strings) count (c.in_ok-item.ensures.table)
