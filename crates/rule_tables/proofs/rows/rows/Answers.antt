use Rattle.std.proofs.Common.{◌≡◌, ◌+◌, ◌<◌, ◌∙◌, ap, sym, subst, length, arith}
use Rattle.std.specs.List.{AllZip}
use Rattle.std.proofs.lemmas.List.{length_push, take_all}
use Rattle.std.proofs.lemmas.Iterator.Adapters.{YieldsList-from_vec}
use Rattle.std.proofs.lemmas.Iterator.Consumers.{YieldsList-turn, YieldsList-end}
use Rattle.std.proofs.lemmas.Slice.Zip.{AllZip-long}
use Rattle.table_faults.specs.Faults.{IsKnown}
use Rattle.symbol_attributes.specs.Written.{AreAttributesOf}
use Rattle.rule_tables.specs.TablesOf.{IsRowOf}
use Rattle.rule_tables.proofs.TableLemmas.{zip-read, zip-next, all-at}
use Rattle.rule_tables.proofs.rows.rows.Goals as goal

pub bounds-as_slice-len : goal.bounds-as_slice-len
bounds-as_slice-len c =
    let gives = c.into_iter-attrs-iterator.ensures.into_iter_gives in
    let t = YieldsList-turn (YieldsList-from_vec {s = c.into_iter-attrs-iterator.result} c.args.attributes.items gives.0 (gives.1 ∙ c.args.attributes.ok.0)) c.loop-attrs.yielded c.loop-attrs.attrs-iterator c.loop-attrs.yielded_by c.next.result c.next.new.self c.in-Some.attrs c.in-Some.is c.next.ensures.steps in
    let all = AllZip-long (AreAttributesOf c.args.spec.now) c.args.symbols.now c.args.attributes.items c.requires.attributes in
    omega (arith, t.0, all, ap length c.as_slice-in-loop-attrs.ensures, c.len.ensures, c.loop-attrs.rows.ok.0, c.loop-attrs.invariant.count)

pub row-requires-clause-attributes : goal.row-requires-clause-attributes
row-requires-clause-attributes c =
    let gives = c.into_iter-attrs-iterator.ensures.into_iter_gives in
    let t = YieldsList-turn (YieldsList-from_vec {s = c.into_iter-attrs-iterator.result} c.args.attributes.items gives.0 (gives.1 ∙ c.args.attributes.ok.0)) c.loop-attrs.yielded c.loop-attrs.attrs-iterator c.loop-attrs.yielded_by c.next.result c.next.new.self c.in-Some.attrs c.in-Some.is c.next.ensures.steps in
    let place : c.len.result ≡ length c.loop-attrs.yielded = omega (arith, c.len.ensures, c.loop-attrs.rows.ok.0, c.loop-attrs.invariant.count) in
    zip-read (AreAttributesOf c.args.spec.now) c.args.symbols.now c.as_slice-in-loop-attrs.result.now c.args.attributes.items (length c.loop-attrs.yielded) c.len.result c.in-Some.attrs c.requires.attributes t.0 place c.as_slice-in-loop-attrs.ensures t.1

pub loop-attrs-preserved : goal.loop-attrs-preserved
loop-attrs-preserved c =
    let symbols = c.args.symbols.now in
    let i = length c.loop-attrs.yielded in
    let gives = c.into_iter-attrs-iterator.ensures.into_iter_gives in
    let t = YieldsList-turn (YieldsList-from_vec {s = c.into_iter-attrs-iterator.result} c.args.attributes.items gives.0 (gives.1 ∙ c.args.attributes.ok.0)) c.loop-attrs.yielded c.loop-attrs.attrs-iterator c.loop-attrs.yielded_by c.next.result c.next.new.self c.in-Some.attrs c.in-Some.is c.next.ensures.steps in
    let all = AllZip-long (AreAttributesOf c.args.spec.now) symbols c.args.attributes.items c.requires.attributes in
    let inside : i < length symbols = omega (arith, t.0, all) in
    let place : c.len.result ≡ i = omega (arith, c.len.ensures, c.loop-attrs.rows.ok.0, c.loop-attrs.invariant.count) in
    let more = length_push c.loop-attrs.yielded c.in-Some.attrs in
    record {
      count = ap length c.in_ok-push.ensures.items ∙ length_push c.loop-attrs.rows.items c.in_ok-row.field-0 ∙ ap (λ n. n + 1) c.loop-attrs.invariant.count ∙ sym more;
      rows = λ env known.
          zip-next (IsRowOf c.args.spec.now env symbols) symbols c.as_slice-in-loop-attrs.result.now i c.len.result _ c.loop-attrs.rows.items c.push.new.self.items c.in_ok-row.field-0 inside place c.as_slice-in-loop-attrs.ensures more c.in_ok-push.ensures.items
          (c.in_ok-row.ensures env (all-at (λ s. ¬ ¬ IsKnown c.args.spec.now env s) symbols c.as_slice-in-loop-attrs.result.now i c.len.result inside place c.as_slice-in-loop-attrs.ensures known)) (c.loop-attrs.invariant.rows env known);
    }

pub returns : goal.returns
returns c env known =
    let symbols = c.args.symbols.now in
    let gives = c.into_iter-attrs-iterator.ensures.into_iter_gives in
    let t = YieldsList-end (YieldsList-from_vec {s = c.into_iter-attrs-iterator.result} c.args.attributes.items gives.0 (gives.1 ∙ c.args.attributes.ok.0)) c.loop-attrs.yielded c.loop-attrs.attrs-iterator c.loop-attrs.yielded_by c.next.result c.next.new.self c.in-None.is c.next.ensures.steps in
    let all = AllZip-long (AreAttributesOf c.args.spec.now) symbols c.args.attributes.items c.requires.attributes in
    subst (λ l. AllZip (IsRowOf c.args.spec.now env symbols) l c.loop-attrs.rows.items) (take_all (length c.loop-attrs.yielded) symbols (omega (arith, t.1, all))) (c.loop-attrs.invariant.rows env known)
