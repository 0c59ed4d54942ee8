use Rattle.std.proofs.Common.{◌≡◌, ◌<◌, ◌≤◌, ◌∙◌, ap, sym, subst, refl, length, List, Some, arith}
use Rattle.std.specs.Prelude.{slice_get}
use Rattle.std.specs.List.{AllZip}
use Rattle.std.proofs.lemmas.Option.{slice_get_read}
use Rattle.std.proofs.lemmas.List.{take_all}
use Rattle.std.proofs.lemmas.Slice.Zip.{AllZip-long}
use Rattle.lido_base.proofs.Lists.{place-below}
use Rattle.flat_grammar.specs.declared.flat.FlatRule.{FlatRule}
use Rattle.rule_tables.specs.declared.forced.Force.{Force as Entry}
use Rattle.rule_tables.specs.PlainRules.{plain_rules}
use Rattle.rule_tables.specs.TablesOf.{named_symbols, IsPlainOf}
use Rattle.rule_tables.specs.ForcedOf.{AreEntriesOf}
use Rattle.symbol_inherit.proofs.PlainOfLemmas.{all-more}
use Rattle.symbol_inherit.proofs.rule_entries.all_entries.Goals as goal

pub loop-k-preserved : goal.loop-k-preserved
loop-k-preserved c = λ env known are.
    let t = c.args.tables.now in
    let xs = plain_rules t.spec (named_symbols t) in
    let k = c.loop-k.k in
    let test : k < length t.plain = subst (λ (l : List FlatRule). k < length l) c.as_slice-plain.ensures c.loop-k-test.true in
    let long = AllZip-long (IsPlainOf t.spec env (named_symbols t)) xs t.plain known.tables.plain in
    let lt : k < length xs = omega arith in
    let here = place-below xs k lt in
    let there : slice_get t.plain k ≡ Some c.index-plain-k.result = ap (λ (l : List FlatRule). slice_get l k) (sym c.as_slice-plain.ensures)
    ∙ slice_get_read c.as_slice-plain.result.now (length c.as_slice-plain.result.now) k c.index-plain-k.result refl c.loop-k-test.true c.index-plain-k.is in
    all-more (AreEntriesOf t) xs k here.0 c.loop-k.all.items c.push.new.self.items c.in_ok-entries.entries here.1 (c.loop-k.invariant env known are)
    (c.in_ok-entries.ensures env here.0 known are here.1 there) c.in_ok-push.ensures.items

pub returns : goal.returns
returns c = λ env known are.
    let t = c.args.tables.now in
    let xs = plain_rules t.spec (named_symbols t) in
    let test : length t.plain ≤ c.loop-k.k = subst (λ (l : List FlatRule). length l ≤ c.loop-k.k) c.as_slice-plain.ensures c.loop-k-test.false in
    let long = AllZip-long (IsPlainOf t.spec env (named_symbols t)) xs t.plain known.tables.plain in
    let past : length xs ≤ c.loop-k.k = omega arith in
    subst (λ (l : List (List Entry)). AllZip (AreEntriesOf t) xs l) (sym c.from_vec.ensures)
    (subst (λ l. AllZip (AreEntriesOf t) l c.loop-k.all.items) (take_all c.loop-k.k xs past) (c.loop-k.invariant env known are))
