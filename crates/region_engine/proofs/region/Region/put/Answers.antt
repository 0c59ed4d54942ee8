use Rattle.std.proofs.lemmas.Option.{slice_get_read}
use Rattle.std.proofs.Common.{◌≡◌, ◌∙◌, ◌∷◌, ◌++◌, [], true≢false, arith, ap, sym, subst, refl, length, true, slice_get}
use Rattle.std.specs.Prelude.{if◌then◌else◌}
use Rattle.std.proofs.lemmas.Option.{slice_get_within}
use Rattle.boundary_table.specs.Desk.{IsOwner, Knows}
use Rattle.core_machine.specs.Keys.{contents_of, key_of}
use Rattle.flat_grammar.specs.WholeOrder.{Instance}
use Rattle.core_machine.specs.Machine.{Item, put_of}
use Rattle.core_machine.proofs.CursorLists.{drop-item}
use Rattle.region_engine.specs.Behind.{list}
use Rattle.region_engine.proofs.Lists.{few-own}
use Rattle.region_engine.proofs.Moves.{moved, add_words}
use Rattle.region_engine.proofs.Puts.{put-inside, put-value, put-owner, put-room, put-behind}
use Rattle.region_engine.proofs.region.Region.put.Goals as goal

pub index-value-requires : goal.index-value-requires
index-value-requires c =
    let n = c.requires.next in
    let a = put-inside c.args.job.now c.facts.ensures c.args.self.now.values.region c.args.self.now c.requires.region n.0 n.1 n.2 in
    let b = c.args.self.now.values.shared.ok.0 in omega (arith, a, b, n.3)

pub leave-requires-clause-value : goal.leave-requires-clause-value
leave-requires-clause-value c =
    let n = c.requires.next in
    let a = put-value c.args.job.now c.facts.ensures c.args.self.now.values.region c.args.self.now c.requires.region n.0 n.1 n.2 in
    let b = put-inside c.args.job.now c.facts.ensures c.args.self.now.values.region c.args.self.now c.requires.region n.0 n.1 n.2 in
    let s = c.args.self.now.values.shared.items in
    let read = slice_get_read s (length s) c.args.key c.index-value.result.now refl (omega (arith, b, n.3)) c.index-value.ensures in
    ap (λ l. slice_get l c.args.key) c.requires.region.desk.contents
    ∙ ap (slice_get (contents_of c.args.job.now)) n.3 ∙ sym a ∙ ap (slice_get s) (sym n.3) ∙ read

pub leave-requires-clause-owner : goal.leave-requires-clause-owner
leave-requires-clause-owner c =
    let n = c.requires.next in
    subst (λ k. c.args.self.now.numbered ≡ true → IsOwner c.args.self.now.desk k) (sym n.3)
    (put-owner c.args.job.now c.facts.ensures c.args.self.now.values.region c.args.self.now c.requires.region n.0 n.1 n.2)

pub push_reserved-requires : goal.push_reserved-requires
push_reserved-requires c =
    let n = c.requires.next in
    let a = put-room c.args.job.now c.facts.ensures c.args.self.now.values.region c.args.self.now c.requires.region n.0 n.1 n.2 in
    let b = c.args.self.now.puts.ok.0 in omega (arith, a, b)

pub step-requires-clause-some_left : goal.step-requires-clause-some_left
step-requires-clause-some_left c =
    let n = c.requires.next in
    let e = ap length (c.requires.region.rest ∙ drop-item (list c.args.job.now c.args.self.now.values.region) c.args.self.now.position (put_of n.0) n.1) in
    omega (arith, e)

pub overflow_add-self : goal.overflow_add-self
overflow_add-self c =
    let n = c.requires.next in
    let w = slice_get_within (list c.args.job.now c.args.self.now.values.region) c.args.self.now.position (put_of n.0) n.1 in
    let f = few-own c.args.job.now c.facts.ensures c.args.self.now.values.region in
    omega (arith, w, f)

pub returns-clause-region : goal.returns-clause-region
returns-clause-region c =
    let n = c.requires.next in
    let j = c.args.job.now in let g = c.args.self.now in let r = g.values.region in
    moved j r g _ c.requires.region (put_of n.0) n.1 (record {
      cursor = c.step.ensures.cursor;
      rest = c.step.ensures.left;
      count = refl;
      position = refl;
      behind = put-behind j c.facts.ensures r g c.requires.region n.0 n.1 n.2;
      puts = c.push_reserved.ensures.items ∙ ap (λ l. g.puts.items ++ l) (ap (λ k. k ∷ []) n.3);
      puts_room = let a = c.push_reserved.ensures.capacity in omega (arith, a);
      empty = c.requires.region.empty;
      stack = refl;
      since = refl;
      numbered = refl;
      delivered = λ key. ((λ h. h), λ h. h);
      goes_on = c.leave.ensures.goes_on;
      numbers = c.leave.ensures.numbers;
      mine = c.leave.ensures.mine ∙ ap (λ k. if g.numbered then add_words g.desk.view.mine k else g.desk.view.mine) n.3;
      inputs = λ k d e need far. absurd (true≢false (ap (λ (z : Item Instance). z.is_put) e));
      known = λ k e has. subst (λ z. Knows c.leave.new.desk z) (n.3 ∙ ap (λ (z : Item Instance). key_of j z.makes) e) (c.leave.ensures.known has);
      notebook = refl;
    })
