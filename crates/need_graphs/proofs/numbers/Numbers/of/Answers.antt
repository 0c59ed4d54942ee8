use Rattle.std.specs.Prelude.{Contains, IsTrue, ◌↔◌}
use Rattle.std.proofs.Common.{ℕ, List, get_or, subst, take_all}
use Rattle.std.proofs.lemmas.List.{take_more}
use Rattle.need_graphs.specs.Users.{has}
use Rattle.need_graphs.proofs.ListLemmas.{one-more}
use Rattle.need_graphs.proofs.numbers.Numbers.of.Goals as goal

pub loop-number-preserved : goal.loop-number-preserved
loop-number-preserved c =
    let numbers = c.args.numbers.now in
    let k = c.loop-number.number-index in
    one-more (has c.loop-number.set) (has c.add.new.self) numbers k (get_or numbers k 0) (take_more numbers k 0 c.loop-number-test.true) c.in_ok-add.ensures c.loop-number.invariant

pub returns : goal.returns
returns c = subst (λ (l : List ℕ). (n : ℕ) → IsTrue (has c.loop-number.set n) ↔ Contains l n) (take_all c.loop-number.number-index c.args.numbers.now c.loop-number-test.false) c.loop-number.invariant
