use Rattle.std.proofs.Common.{◌≡◌, ◌+◌, length, map, string_bytes, ⊎_elim, arith}
use Rattle.std.proofs.lemmas.Bool.{cases_lt}
use Rattle.std.proofs.lemmas.List.{length-map}
use Rattle.job_text.proofs.FaultLemmas.{fault_at_past}
use Rattle.job_text.proofs.command_line.first_fault.Goals as goal

pub returns-clause-none : goal.returns-clause-none
returns-clause-none c =
    let words = c.args.words.now in
    let same : length (map string_bytes words) ≡ length words = simp length-map in
    λ k. ⊎_elim (λ l. c.loop-index.invariant k (omega arith)) (λ g. fault_at_past (map string_bytes words) k (omega arith)) (cases_lt k (length words + 1))
