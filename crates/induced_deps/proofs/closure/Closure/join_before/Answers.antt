use Rattle.std.proofs.Common.{◌≡◌, ◌+◌, ◌⊎◌, ◌<◌, inl, inr, refl, sym, ap, subst, ◌∙◌, length, arith, List, true≢false}
use Rattle.std.specs.Prelude.{slice_set, ◌↔◌, Bool, true, false}
use Rattle.std.proofs.lemmas.List.{length-set}
use Rattle.induced_deps.specs.declared.row.Row.{Row}
use Rattle.induced_deps.specs.declared.closure.Closure.{Closure}
use Rattle.induced_deps.specs.Rows.{IsIn, Has}
use Rattle.induced_deps.proofs.ClosureLemmas.{AreJoined, none_joined, one_joined, not_joined, all_joined, join_edges, row_read}
use Rattle.induced_deps.proofs.closure.Closure.join_before.Goals.{then-v-from, then-v-from-via-then-v-from, then-v-from-via-else-v-from+then-has, else-v-from+else-has}
use Rattle.induced_deps.proofs.closure.Closure.join_before.Goals as goal

pub loop-v-init : goal.loop-v-init
loop-v-init c = record { size = refl; joined = none_joined c.args.self.now.rows.items c.args.from c.args.set.now.words }

false_true : {b : Bool} → b ≡ false → b ≡ true → ⊥
false_true is_false is_true = true≢false (sym is_true ∙ is_false)

pub loop-v-preserved : goal.loop-v-preserved
loop-v-preserved c =
    let l = c.loop-v in
    let old = c.args.self.now.rows.items in
    let rows = l.self.rows.items in
    let within : l.v < length rows = omega (arith, l.invariant.size, c.loop-v-test.true, c.len-v-end.ensures) in
    elim c.if-v-from.branch [
      | then-v-from w ↦ (let read = row_read rows l.v w.index_mut.result.now w.index_mut.result.now within w.index_mut.ensures.value in
          let more = join_edges rows l.v c.args.set.now.words w.join.new.self within (λ j. subst (λ (r : Row). IsIn w.join.new.self.words j ↔ (IsIn r.words j ⊎ IsIn c.args.set.now.words j)) (sym read) (w.join.ensures.members j)) in
          let why : (l.v ≡ c.args.from) ⊎ Has rows l.v c.args.from = elim w.then-v-from.branch [
            | then-v-from-via-then-v-from u ↦ inl u.if-v-from.true
            | then-v-from-via-else-v-from+then-has u ↦ inr (subst (λ (r : Row). IsIn r.words c.args.from) (sym (row_read rows l.v u.index.result.now u.index.result.now within u.index.ensures)) (u.has.ensures.0 u.if-has.true))
          ] in
          let is : c.if-v-from.self.rows.items ≡ slice_set rows l.v w.join.new.self = ap (λ (s : Closure). s.rows.items) w.self-is in
          record {
            size = ap length is ∙ length-set rows l.v w.join.new.self ∙ l.invariant.size;
            joined = subst (λ (new : List Row). AreJoined old new c.args.from c.args.set.now.words (l.v + 1)) (sym is) (one_joined old rows (slice_set rows l.v w.join.new.self) c.args.from c.args.set.now.words l.v l.invariant.joined why more);
          })
      | else-v-from+else-has w ↦ (
          let read = row_read rows l.v w.index.result.now w.index.result.now within w.index.ensures in
          let is : c.if-v-from.self.rows.items ≡ rows = ap (λ (s : Closure). s.rows.items) w.self-is in
          let none : Has rows l.v c.args.from → ⊥ = λ h. false_true w.if-has.false (w.has.ensures.1 (subst (λ (r : Row). IsIn r.words c.args.from) read h)) in
          record {
            size = ap length is ∙ l.invariant.size;
            joined = subst (λ (new : List Row). AreJoined old new c.args.from c.args.set.now.words (l.v + 1)) (sym is) (not_joined old rows c.args.from c.args.set.now.words l.v l.invariant.joined w.if-v-from.false none);
          })
    ]

pub returns-clause-edges : goal.returns-clause-edges
returns-clause-edges c = all_joined c.args.self.now.rows.items c.loop-v.self.rows.items c.args.from c.args.set.now.words c.loop-v.v c.loop-v.invariant.joined c.requires.vertex (omega (arith, c.loop-v-test.false, c.len-v-end.ensures))
