use Rattle.std.specs.Prelude.{ℕ, ◌<◌, ◌≤◌, Contains, refl}
use Rattle.std.proofs.Common.{arith}
use Rattle.lido_syntax.specs.declared.spec.Comp.{Comp}
use Rattle.lido_syntax.specs.declared.spec.RuleItem.{RuleItem}
use Rattle.lido_syntax.specs.Production.{left_of}
use Rattle.lido_syntax.specs.Symbols.{IsRoot}
use Rattle.trials_of_syntax.proofs.Members.{every}
use Rattle.table_faults.specs.Faults.{IsBadOut}
use Rattle.table_faults.specs.Faults as faults
use Rattle.trials_of_tables.specs.Faulty.{env, bad_out, rule_of_outs, first_out, second_out}
use Rattle.trials_of_tables.proofs.faulty.bad_out.Goals as goal

later : (r : RuleItem) → Contains bad_out.rules r → (c d : Comp) → Contains r.body c → Contains r.body d → c.at < d.at → 41 ≤ d.at
later = every (λ (r : RuleItem). (c d : Comp) → Contains r.body c → Contains r.body d → c.at < d.at → 41 ≤ d.at) bad_out.rules (of_rule, tt)
  where
    of_rule : (c d : Comp) → Contains rule_of_outs.body c → Contains rule_of_outs.body d → c.at < d.at → 41 ≤ d.at
    of_rule c d m k h =
        let low : 22 ≤ c.at = every (λ (c : Comp). 22 ≤ c.at) rule_of_outs.body (omega arith, (omega arith, tt)) c m in
        every (λ (d : Comp). c.at < d.at → 41 ≤ d.at) rule_of_outs.body ((λ h. omega (arith, low, h)), ((λ h. omega arith), tt)) d k h

rooted : (r : RuleItem) → Contains bad_out.rules r → IsRoot bad_out (left_of r)
rooted = every (λ (r : RuleItem). IsRoot bad_out (left_of r)) bad_out.rules ((refl, (λ h. cc)), tt)

least : (other : ℕ) → IsBadOut bad_out env other → 41 ≤ other
least other (faults.IsBadOut.in_symbol item c m k e at) = absurd (omega (arith, m.1))
least other (faults.not_at_root r c m k e not_so at) = absurd (not_so (rooted r m))
least other (faults.second r c d m k l e f h at) = let here = later r m c d k l h in omega (arith, here, at)

pub returns : goal.returns
returns c = (41, record { there = faults.second rule_of_outs first_out second_out (0, omega arith, refl) (0, omega arith, refl) (1, omega arith, refl) refl refl (omega arith) refl; least = least }, refl)
