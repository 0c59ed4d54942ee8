use Rattle.std.proofs.Common.{◌≡◌, length}
use Rattle.tree_flattener.proofs.forms.no_forms.Given as goal

-- so many so far
abbrev pub invariant-loop : goal.invariant-loop
invariant-loop l = length l.forms.items ≡ l.counter
