use Rattle.std.proofs.Common.{◌≡◌, ℕ, List, drop, map}
use Rattle.std.specs.Borrow.{Bor}
use Rattle.lido_base.specs.declared.operation.Op.{Op}
use Rattle.expr_types.specs.Named.{named_in}
use Rattle.expr_types.proofs.names.first_named.Given as goal

abbrev pub invariant-loop-word : goal.invariant-loop-word
invariant-loop-word l =
    named_in (map (λ (word : Bor (List ℕ) × Op). (word.0.now, word.1)) l.words) l.name
    ≡ named_in (map (λ (word : Bor (List ℕ) × Op). (word.0.now, word.1)) (drop l.word-index l.words)) l.name
