use Rattle.std.proofs.Common.{◌≡◌, ℕ, List, nat_eq, length, subst, ◌∙◌, ap}
use Rattle.std.specs.List.Sorted.{IsStrictlyIncreasing}
use Rattle.lido_symbols.specs.Numbers.{place_in}
use Rattle.flat_symbols.proofs.NumberLemmas.{place-found, place-missed}
use Rattle.flat_symbols.proofs.constituents.Numbers.place.Goals as goal

pub returns-in-Ok-clause-place : goal.returns-in-Ok-clause-place
returns-in-Ok-clause-place c rises =
    let n = c.args.number in
    let i = c.in-Ok.place in
    subst (λ (xs : List ℕ). IsStrictlyIncreasing xs → i ≡ place_in (λ m. nat_eq m n) xs) c.as_slice-numbers.ensures
    (place-found c.as_slice-numbers.result.now n i c.in-Ok.ensures.position) rises

pub returns-in-Err-clause-place : goal.returns-in-Err-clause-place
returns-in-Err-clause-place c rises =
    let n = c.args.number in
    let numbers = c.as_slice-numbers.result.now in
    ap length c.as_slice-numbers.ensures
    ∙ subst (λ (xs : List ℕ). IsStrictlyIncreasing xs → length xs ≡ place_in (λ m. nat_eq m n) xs) c.as_slice-numbers.ensures
    (place-missed numbers n c.in-Err.field-0 c.in-Err.ensures.position) rises
