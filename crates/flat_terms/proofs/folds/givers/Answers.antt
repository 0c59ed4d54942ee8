use Rattle.std.specs.Prelude.{if◌then◌else◌}
use Rattle.std.proofs.Common.{ℕ, ◌+◌, [], ◌∷◌, ◌++◌, ap, sym, ◌∙◌, append-nil}
use Rattle.std.specs.Global.{Vec}
use Rattle.rule_tables.specs.Slots.{Con}
use Rattle.flat_slots.specs.Slots.{slots_in}
use Rattle.flat_terms.specs.Sites.{is_among}
use Rattle.flat_terms.proofs.PlaceLemmas.{found-more}
use Rattle.flat_terms.proofs.folds.givers.Goals as goal
use Rattle.flat_terms.proofs.folds.givers.Goals.{then-has_con+in_ok-push, else-has_con}

pub loop-j-preserved : goal.loop-j-preserved
loop-j-preserved c =
    let more = found-more (λ (x : ℕ). is_among (Con c.args.number) (slots_in c.args.site.now.slots.now x)) c.as_slice-right.result.now c.loop-j.j c.loop-j.found.items c.if-has_con.found.items c.has_con.result
    c.loop-j-test.true c.loop-j.invariant c.has_con.ensures in
    elim c.if-has_con.branch [
      | then-has_con+in_ok-push w ↦ more (ap (λ (v : Vec ℕ). v.items) w.found-is ∙ w.in_ok-push.ensures.items ∙ ap (λ b. c.loop-j.found.items ++ (if b then (c.loop-j.j + 1) ∷ [] else [])) (sym w.if-has_con.true))
      | else-has_con w ↦ more (ap (λ (v : Vec ℕ). v.items) w.found-is ∙ sym (append-nil c.loop-j.found.items) ∙ ap (λ b. c.loop-j.found.items ++ (if b then (c.loop-j.j + 1) ∷ [] else [])) (sym w.if-has_con.false))
    ]
