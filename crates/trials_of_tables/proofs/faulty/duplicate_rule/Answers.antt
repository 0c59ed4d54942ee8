use Rattle.std.specs.Prelude.{◌≡◌, ℕ, zero, suc, ◌<◌, ◌≤◌, Some, slice_get, refl}
use Rattle.std.proofs.Common.{arith, ap, sym}
use Rattle.std.proofs.lemmas.Option.{none-some, same_Some}
use Rattle.lido_syntax.specs.declared.spec.RuleItem.{RuleItem}
use Rattle.table_faults.specs.Faults.{IsDuplicate, later}
use Rattle.trials_of_tables.specs.Faulty.{env, duplicate_rule, first_rule, same_name}
use Rattle.trials_of_tables.proofs.faulty.duplicate_rule.Goals as goal

at_second : (i j : ℕ) (q : RuleItem) → i < j → slice_get duplicate_rule.rules j ≡ Some q → 26 ≤ q.at
at_second i zero q h e = absurd (omega (arith, h))
at_second i (suc zero) q h e = let same : q.at ≡ 26 = ap (λ (r : RuleItem). r.at) (sym (same_Some _ _ e)) in omega (arith, same)
at_second i (suc (suc j)) q h e = absurd (none-some _ e)

least : (other : ℕ) → IsDuplicate duplicate_rule env other → 26 ≤ other
least other (later i j r q h e f same at) = let here = at_second i j q h f in omega (arith, here, at)

pub returns : goal.returns
returns c = (26, record { there = later 0 1 first_rule same_name (omega arith) refl refl refl refl; least = least }, refl)
