use Rattle.std.proofs.Common.{◌<◌, subst, length, arith}
use Rattle.lido_base.proofs.Lists.{place-below}
use Rattle.rule_tables.specs.TablesOf.{named_symbols}
use Rattle.symbol_inherit.specs.Clashes.{IsRowClash}
use Rattle.symbol_inherit.proofs.ClashLemmas.{below-more, none-at-all, first-found}
use Rattle.symbol_inherit.proofs.clashes.first_clash.Goals as goal

pub loop-x-init : goal.loop-x-init
loop-x-init c = λ env T known numbers y q h l e. absurd (omega arith)

pub loop-x-preserved : goal.loop-x-preserved
loop-x-preserved c = λ env T known numbers.
    below-more env c.args.tables.now c.args.symbols.now known T numbers c.loop-x.x (c.loop-x.invariant env T known numbers)
    (λ s at. subst (λ o. IsRowClash c.args.tables.now.spec T s o) c.in_default.is (c.clash_at.ensures env T s known numbers at))

pub returns-in-Some : goal.returns-in-Some
returns-in-Some c = λ env T known numbers.
    let count = known.symbols.count in
    let lt : c.loop-x.x < length (named_symbols c.args.tables.now) = let w = c.loop-x-test.true in omega arith in
    let here = place-below (named_symbols c.args.tables.now) c.loop-x.x lt in
    let is = c.in-Some.ensures env T here.0 known numbers here.1 in
    first-found env c.args.tables.now c.args.symbols.now known T numbers c.loop-x.x here.0 here.1 (c.loop-x.invariant env T known numbers) c.in-Some.clash is.0 is.1

pub returns : goal.returns
returns c = λ env T known numbers.
    let count = known.symbols.count in
    none-at-all env c.args.tables.now c.args.symbols.now known T numbers c.loop-x.x (let w = c.loop-x-test.false in omega arith) (c.loop-x.invariant env T known numbers)
