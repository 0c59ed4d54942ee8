use Rattle.std.specs.Prelude.{slice_get, Some, ◌↔◌, ◌⊎◌, Contains, take, slice_index}
use Rattle.std.proofs.Common.{◌≡◌, ◌<◌, ℕ, ◌∙◌, ap, sym, subst, refl, inl, inr, length, Vec, Global}
use Rattle.std.proofs.lemmas.Option.{slice_get_read}
use Rattle.flat_grammar.specs.declared.flat.Occ.{Occ}
use Rattle.flat_grammar.proofs.Lists.{held, contains-slice_get}
use Rattle.visit_sequences.specs.declared.goals.Goal.{Goal}
use Rattle.visit_sequences.specs.Steps.{AreFree, AreListed, IsListed, HasBit, HasSeen, KeepsWaiting, StandsIn, Waits, IsMissing}
use Rattle.visit_sequences.proofs.QueueLemmas.{on_ok-then, on_ok-two, free-more, listed-more, same-listed, keeps-more, keeps-same, seen-next}
use Rattle.visit_sequences.proofs.queue.Queue.look.Goals as goal

abbrev Sets : Type 0
Sets = Vec ℕ Global

pub returns-in-Some-blocked-clause-free : goal.returns-in-Some-blocked-clause-free
returns-in-Some-blocked-clause-free c =
    let p = c.args.progress.now in
    let goals = c.args.goals.now in
    let old = c.blocked.new.self in
    let new = c.wait.new.self in
    on_ok-then c.wait.result (new.free ≡ old.free) (AreFree p goals new) (λ same o b. c.requires.free o (subst (λ f. HasBit f.items o) c.blocked.ensures.same.0 (subst (λ f. HasBit f.items o) same b))) c.wait.ensures.free

pub returns-in-Some-blocked-clause-stands : goal.returns-in-Some-blocked-clause-stands
returns-in-Some-blocked-clause-stands c =
    let p = c.args.progress.now in
    let goals = c.args.goals.now in
    let i = c.args.at in
    let new = c.wait.new.self in
    let got = c.in-Some.ensures.lookup in
    let at : slice_get goals i ≡ Some c.in-Some.goal.now = slice_get_read goals (length goals) i c.in-Some.goal.now refl got.3.0 got.1 in
    on_ok-then c.wait.result (Waits new c.in-Some-blocked.missing i) ((g : Goal) → slice_get goals i ≡ Some g → StandsIn p new i g)
    (λ w g e. inr (c.in-Some-blocked.missing, w, subst (λ x. IsMissing p x c.in-Some-blocked.missing) (held (sym at ∙ e)) c.in-Some-blocked.ensures.blocked)) c.wait.ensures.waits

pub returns-in-None-clause-free : goal.returns-in-None-clause-free
returns-in-None-clause-free c =
    let p = c.args.progress.now in
    let goals = c.args.goals.now in
    let old = c.blocked.new.self in
    let new = c.set_free.new.self in
    let g = c.in-Some.goal.now in
    let got = c.in-Some.ensures.lookup in
    let at : slice_get goals c.args.at ≡ Some g = slice_get_read goals (length goals) c.args.at g refl got.3.0 got.1 in
    on_ok-then c.set_free.result ((o : Occ) → HasBit new.free.items o ↔ (HasBit old.free.items o ⊎ (o ≡ g.goal))) (AreFree p goals new)
    (λ step. free-more p goals old new g (contains-slice_get goals c.args.at g at) c.in-None.ensures.blocked step (λ o b. c.requires.free o (subst (λ f. HasBit f.items o) c.blocked.ensures.same.0 b))) c.set_free.ensures.free

pub returns-in-None-clause-keeps : goal.returns-in-None-clause-keeps
returns-in-None-clause-keeps c =
    let old = c.blocked.new.self in
    let new = c.set_free.new.self in
    let o = c.in-Some.goal.now.goal in
    on_ok-two c.set_free.result (new.waiting ≡ old.waiting) ((u : Occ) → HasBit new.free.items u ↔ (HasBit old.free.items u ⊎ (u ≡ o))) (KeepsWaiting c.args.self.now new)
    (λ same step. keeps-same c.args.self.now old new c.blocked.ensures.same (keeps-more old new o same step)) c.set_free.ensures.waiting c.set_free.ensures.free

pub returns-in-None-clause-stands : goal.returns-in-None-clause-stands
returns-in-None-clause-stands c =
    let p = c.args.progress.now in
    let goals = c.args.goals.now in
    let i = c.args.at in
    let old = c.blocked.new.self in
    let new = c.set_free.new.self in
    let g = c.in-Some.goal.now in
    let got = c.in-Some.ensures.lookup in
    let at : slice_get goals i ≡ Some g = slice_get_read goals (length goals) i g refl got.3.0 got.1 in
    on_ok-then c.set_free.result ((o : Occ) → HasBit new.free.items o ↔ (HasBit old.free.items o ⊎ (o ≡ g.goal))) ((x : Goal) → slice_get goals i ≡ Some x → StandsIn p new i x)
    (λ step x e. inl (subst (λ (y : Goal). HasBit new.free.items y.goal) (held (sym at ∙ e)) ((step g.goal).1 (inr refl)))) c.set_free.ensures.free

pub blocked-requires : goal.blocked-requires
blocked-requires c =
    let goals = c.args.goals.now in
    let got = c.in-Some.ensures.lookup in
    c.requires.seen c.args.at c.in-Some.goal.now (slice_get_read goals (length goals) c.args.at c.in-Some.goal.now refl got.3.0 got.1)

pub returns-in-Some-blocked-clause-keeps : goal.returns-in-Some-blocked-clause-keeps
returns-in-Some-blocked-clause-keeps c =
    let old = c.blocked.new.self in
    let new = c.wait.new.self in
    on_ok-then c.wait.result (KeepsWaiting old new) (KeepsWaiting c.args.self.now new) (keeps-same c.args.self.now old new c.blocked.ensures.same) c.wait.ensures.keeps

pub returns-in-Some-blocked-clause-seen : goal.returns-in-Some-blocked-clause-seen
returns-in-Some-blocked-clause-seen c =
    let p = c.args.progress.now in
    let goals = c.args.goals.now in
    let i = c.args.at in
    let old = c.blocked.new.self in
    let new = c.wait.new.self in
    let g = c.in-Some.goal.now in
    let got = c.in-Some.ensures.lookup in
    let at : slice_get goals i ≡ Some g = slice_get_read goals (length goals) i g refl got.3.0 got.1 in
    on_ok-then c.wait.result (new.seen ≡ old.seen) (HasSeen p goals new)
    (λ same j x e u m. seen-next p goals c.args.self.now old i g at c.requires.seen c.blocked.ensures.others c.blocked.ensures.seen j x e u (subst (λ s. Contains (take (slice_index s.items j) x.direct.items) u) same m)) c.wait.ensures.seen

pub returns-in-None-clause-seen : goal.returns-in-None-clause-seen
returns-in-None-clause-seen c =
    let p = c.args.progress.now in
    let goals = c.args.goals.now in
    let i = c.args.at in
    let old = c.blocked.new.self in
    let new = c.set_free.new.self in
    let g = c.in-Some.goal.now in
    let got = c.in-Some.ensures.lookup in
    let at : slice_get goals i ≡ Some g = slice_get_read goals (length goals) i g refl got.3.0 got.1 in
    on_ok-then c.set_free.result (new.seen ≡ old.seen) (HasSeen p goals new)
    (λ same j x e u m. seen-next p goals c.args.self.now old i g at c.requires.seen c.blocked.ensures.others c.blocked.ensures.seen j x e u (subst (λ s. Contains (take (slice_index s.items j) x.direct.items) u) same m)) c.set_free.ensures.seen

pub returns-in-Some-blocked-clause-listed : goal.returns-in-Some-blocked-clause-listed
returns-in-Some-blocked-clause-listed c =
    let p = c.args.progress.now in
    let old = c.blocked.new.self in
    let new = c.wait.new.self in
    on_ok-two c.wait.result (new.free ≡ old.free) (new.left ≡ old.left) (AreListed p new)
    (λ free left. same-listed p c.args.self.now new (free ∙ c.blocked.ensures.same.0) (left ∙ c.blocked.ensures.left) c.requires.listed) c.wait.ensures.free c.wait.ensures.left

pub returns-in-None-clause-listed : goal.returns-in-None-clause-listed
returns-in-None-clause-listed c =
    let p = c.args.progress.now in
    let old = c.blocked.new.self in
    let new = c.set_free.new.self in
    let g = c.in-Some.goal.now.goal in
    on_ok-two c.set_free.result ((o : Occ) → HasBit new.free.items o ↔ (HasBit old.free.items o ⊎ (o ≡ g))) ((k : ℕ) → IsListed old.left k ⊎ (k ≡ g.occ) → IsListed new.left k) (AreListed p new)
    (λ free left. listed-more p old new g free left (same-listed p c.args.self.now old c.blocked.ensures.same.0 c.blocked.ensures.left c.requires.listed)) c.set_free.ensures.free c.set_free.ensures.left

pub set_free-requires : goal.set_free-requires
set_free-requires c =
    let goals = c.args.goals.now in
    let g = c.in-Some.goal.now in
    let got = c.in-Some.ensures.lookup in
    let at : slice_get goals c.args.at ≡ Some g = slice_get_read goals (length goals) c.args.at g refl got.3.0 got.1 in
    let h = c.requires.within g (contains-slice_get goals c.args.at g at) in
    record { occurrence = subst (λ (v : Sets). g.goal.occ < length v.items) (sym c.blocked.ensures.same.0) h.0; attribute = h.1 }

pub returns-in-None-clause-count : goal.returns-in-None-clause-count
returns-in-None-clause-count c = on_ok-then c.set_free.result (length c.set_free.new.self.free.items ≡ length c.blocked.new.self.free.items) (length c.set_free.new.self.free.items ≡ length c.args.self.now.free.items)
    (λ e. e ∙ ap (λ (v : Sets). length v.items) c.blocked.ensures.same.0) c.set_free.ensures.count

pub returns-in-Some-blocked-clause-count : goal.returns-in-Some-blocked-clause-count
returns-in-Some-blocked-clause-count c = on_ok-then c.wait.result (c.wait.new.self.free ≡ c.blocked.new.self.free) (length c.wait.new.self.free.items ≡ length c.args.self.now.free.items)
    (λ e. ap (λ (v : Sets). length v.items) (e ∙ c.blocked.ensures.same.0)) c.wait.ensures.free
