use Rattle.std.specs.Prelude.{ℕ, ◌<◌, ◌≤◌, Contains, refl}
use Rattle.std.proofs.Common.{arith}
use Rattle.lido_syntax.specs.declared.spec.Comp.{Comp}
use Rattle.lido_syntax.specs.declared.spec.RuleItem.{RuleItem}
use Rattle.lido_syntax.specs.Computation.{Synthesized}
use Rattle.trials_of_syntax.proofs.Members.{every}
use Rattle.table_faults.specs.Faults.{IsDouble}
use Rattle.table_faults.specs.Faults as faults
use Rattle.trials_of_tables.specs.Faulty.{env, double_computation, rule_of_twice, one, two, a}
use Rattle.trials_of_tables.proofs.faulty.double_computation.Goals as goal

later : (r : RuleItem) → Contains double_computation.rules r → (c d : Comp) → Contains r.body c → Contains r.body d → c.at < d.at → 31 ≤ d.at
later = every (λ (r : RuleItem). (c d : Comp) → Contains r.body c → Contains r.body d → c.at < d.at → 31 ≤ d.at) double_computation.rules (of_rule, tt)
  where
    of_rule : (c d : Comp) → Contains rule_of_twice.body c → Contains rule_of_twice.body d → c.at < d.at → 31 ≤ d.at
    of_rule c d m k h =
        let low : 22 ≤ c.at = every (λ (c : Comp). 22 ≤ c.at) rule_of_twice.body (omega arith, (omega arith, tt)) c m in
        every (λ (d : Comp). c.at < d.at → 31 ≤ d.at) rule_of_twice.body ((λ h. omega (arith, low, h)), ((λ h. omega arith), tt)) d k h

least : (other : ℕ) → IsDouble double_computation env other → 31 ≤ other
least other (faults.IsDouble.in_rule r k g c d m e f not_so h at) = let here = later r m c d e.0 f.0 h in omega (arith, here, at)
least other (faults.IsDouble.in_symbol s g c d e f h at) = absurd (omega (arith, e.0.1.1))

pub returns : goal.returns
returns c = (
  31,
  record {
    there = faults.IsDouble.in_rule rule_of_twice 0 (Synthesized a) one two (0, omega arith, refl) ((0, omega arith, refl), (refl, refl, (λ h. cc))) ((1, omega arith, refl), (refl, refl, (λ h. cc)))
        (λ e. cc) (omega arith) refl;
    least = least;
  },
  refl,
)
