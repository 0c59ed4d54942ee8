use Rattle.std.proofs.Common.{◌≡◌, ◌≤◌, ◌∙◌, ap, sym, subst, refl, length, List, Some, arith}
use Rattle.std.specs.Prelude.{slice_get}
use Rattle.std.proofs.lemmas.Option.{slice_get_read}
use Rattle.lido_base.specs.declared.ids.SymId.{SymId}
use Rattle.lido_base.proofs.Lists.{place-contains}
use Rattle.flat_grammar.specs.declared.flat.FlatRule.{FlatRule}
use Rattle.flat_grammar.specs.declared.flat.Shape.{Shape}
use Rattle.lido_syntax.specs.declared.spec.RuleItem.{RuleItem}
use Rattle.lido_syntax.specs.Production.{left_of}
use Rattle.symbol_inherit.specs.Places.{IsPlaceIn, AreRightPlaces, left_id, right_ids}
use Rattle.symbol_inherit.specs.Missing.{IsMissingFrom}
use Rattle.symbol_inherit.proofs.PlaceLemmas.{left-place, right-places}
use Rattle.symbol_inherit.proofs.MissingLemmas.{rules-more, rules-end, rule-found}
use Rattle.symbol_inherit.proofs.missing.first_missing.Goals as goal

pub loop-i-init : goal.loop-i-init
loop-i-init c = λ env T known numbers are sets j o a l m. omega arith

pub loop-i-preserved : goal.loop-i-preserved
loop-i-preserved c = λ env T known numbers are sets.
    let t = c.args.tables.now in
    let i = c.loop-i.i in
    let r = c.index-rules-i.result in
    let of : slice_get t.spec.rules i ≡ Some r = ap (λ (l : List RuleItem). slice_get l i) (sym c.as_slice-rules.ensures)
    ∙ slice_get_read c.as_slice-rules.result.now (length c.as_slice-rules.result.now) i r refl c.loop-i-test.true c.index-rules-i.is in
    let left : left_id (slice_get t.plain i) ≡ c.left_symbol-left.result = sym (c.left_symbol-left.ensures ∙ ap (λ (l : List FlatRule). left_id (slice_get l i)) c.as_slice-plain.ensures) in
    let right : right_ids (slice_get t.shapes i) ≡ c.right_side-right.result.now = sym (c.right_side-right.ensures ∙ ap (λ (l : List Shape). right_ids (slice_get l i)) c.as_slice-shapes.ensures) in
    let place = subst (λ (x : SymId). IsPlaceIn t r i 0 (left_of r) x.0) left (left-place t env known.tables i r of) in
    let places = subst (λ (l : List SymId). AreRightPlaces t r i l) right (right-places t env known.tables i r of) in
    let root = c.is_root_rule-root.ensures t.spec sets (place-contains t.spec.rules i r of) in
    let none = subst (λ o. IsMissingFrom t.spec T i 0 o) c.in_default.is (c.in_ok-found.ensures env T i (left_of r) known numbers are place places root) in
    rules-more t T i (c.loop-i.invariant env T known numbers are sets) none

pub returns-in-Some : goal.returns-in-Some
returns-in-Some c = λ env T known numbers are sets.
    let t = c.args.tables.now in
    let i = c.loop-i.i in
    let r = c.index-rules-i.result in
    let of : slice_get t.spec.rules i ≡ Some r = ap (λ (l : List RuleItem). slice_get l i) (sym c.as_slice-rules.ensures)
    ∙ slice_get_read c.as_slice-rules.result.now (length c.as_slice-rules.result.now) i r refl c.loop-i-test.true c.index-rules-i.is in
    let left : left_id (slice_get t.plain i) ≡ c.left_symbol-left.result = sym (c.left_symbol-left.ensures ∙ ap (λ (l : List FlatRule). left_id (slice_get l i)) c.as_slice-plain.ensures) in
    let right : right_ids (slice_get t.shapes i) ≡ c.right_side-right.result.now = sym (c.right_side-right.ensures ∙ ap (λ (l : List Shape). right_ids (slice_get l i)) c.as_slice-shapes.ensures) in
    let place = subst (λ (x : SymId). IsPlaceIn t r i 0 (left_of r) x.0) left (left-place t env known.tables i r of) in
    let places = subst (λ (l : List SymId). AreRightPlaces t r i l) right (right-places t env known.tables i r of) in
    let root = c.is_root_rule-root.ensures t.spec sets (place-contains t.spec.rules i r of) in
    let some = subst (λ o. IsMissingFrom t.spec T i 0 o) c.in-Some.is (c.in_ok-found.ensures env T i (left_of r) known numbers are place places root) in
    rule-found t T i r of (c.loop-i.invariant env T known numbers are sets) c.in-Some.missing some

pub returns : goal.returns
returns c = λ env T known numbers are sets.
    let t = c.args.tables.now in
    let past : length t.spec.rules ≤ c.loop-i.i = subst (λ (l : List RuleItem). length l ≤ c.loop-i.i) c.as_slice-rules.ensures c.loop-i-test.false in
    rules-end t T c.loop-i.i past (c.loop-i.invariant env T known numbers are sets)
