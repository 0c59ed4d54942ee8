use Rattle.std.specs.Prelude.{nat_lt}
use Rattle.std.proofs.Common.{◌≡◌, true, false, Some, None, if◌then◌else◌, ap, sym, arith}
use Rattle.std.proofs.lemmas.Bool.Decides.{nat_tests}
use Rattle.lido_base.specs.declared.ids.AttrId.{AttrId}
use Rattle.remote_lists.proofs.sources.numbered.Goals as goal

pub returns-then-place-lt65536 : goal.returns-then-place-lt65536
returns-then-place-lt65536 c =
    let lt = c.if-place-lt65536.true in
    let small : nat_lt c.args.place 65536 ≡ true = grind (arith, nat_tests) in
    let id : AttrId = record { 0 = c.args.place } in
    sym (ap (λ b. if b then Some id else None) small)

pub returns-else-place-lt65536 : goal.returns-else-place-lt65536
returns-else-place-lt65536 c =
    let ge = c.if-place-lt65536.false in
    let large : nat_lt c.args.place 65536 ≡ false = grind (arith, nat_tests) in
    let id : AttrId = record { 0 = c.args.place } in
    sym (ap (λ b. if b then Some id else None) large)
