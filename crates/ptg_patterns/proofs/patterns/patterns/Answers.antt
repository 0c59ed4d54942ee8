use Rattle.std.proofs.Common.{All, ◌≡◌, ◌∙◌, ◌+◌, ◌<◌, ◌++◌, inl, inr, List, ◌∷◌, [], Bool, true, false, take, get_or, length, ap, sym, subst}
use Rattle.std.proofs.lemmas.List.{length-set}
use Rattle.std.proofs.lemmas.List.Elements.{All-push}
use Rattle.lido_base.specs.declared.pattern.Pattern.{Pattern}
use Rattle.ptg_patterns.specs.declared.fault.PtgFault.TheVariants.{PtgDuplicate}
use Rattle.ptg_patterns.specs.declared.written.Written.{Written}
use Rattle.ptg_patterns.specs.First.{HasNoClash}
use Rattle.ptg_patterns.specs.Clashes.{IsMixed, CantStand, IsRefused, duplicate, mixed, is_used}
use Rattle.ptg_patterns.specs.Meaning.{points, pattern_of}
use Rattle.ptg_patterns.proofs.FirstLemmas.{none_more}
use Rattle.ptg_patterns.proofs.MeaningLemmas.{written_more, patterns_more, used_more, taken_is, can_stand, clash_at}
use Rattle.ptg_patterns.proofs.patterns.patterns.Goals as goal

pub returns-then-is_taken-clause-clash : goal.returns-then-is_taken-clause-clash
returns-then-is_taken-clause-clash c =
    let all = c.args.written.now in
    let i = c.loop-one.one-index in
    let one = c.one-item.result in
    let in_range = subst (λ (w : Written). w.name.0 < length c.args.strings.now) (sym c.one-item.is) (c.requires.ids i one c.loop-one-test.true) in
    let used = subst (λ (l : List Bool). get_or l one.name.0 false ≡ is_used (take i all) one.name) (sym c.deref.ensures.value) (c.loop-one.invariant.used one.name.0 in_range) in
    let taken = taken_is c.args.strings.now c.deref.result.now (take i all) one.name c.is_taken.result c.is_taken.ensures used ∙ c.if-is_taken.true in
    inr (clash_at c.args.strings.now all i one (PtgDuplicate one.at) c.loop-one-test.true c.loop-one.invariant.stand
    (subst (λ (w : Written). IsRefused c.args.strings.now (take i all) w (PtgDuplicate one.at)) c.one-item.is (duplicate taken)))

pub returns-in-Err-clause-clash : goal.returns-in-Err-clause-clash
returns-in-Err-clause-clash c =
    let all = c.args.written.now in
    let i = c.loop-one.one-index in
    let one = c.one-item.result in
    let in_range = subst (λ (w : Written). w.name.0 < length c.args.strings.now) (sym c.one-item.is) (c.requires.ids i one c.loop-one-test.true) in
    let used = subst (λ (l : List Bool). get_or l one.name.0 false ≡ is_used (take i all) one.name) (sym c.deref.ensures.value) (c.loop-one.invariant.used one.name.0 in_range) in
    let free = taken_is c.args.strings.now c.deref.result.now (take i all) one.name c.is_taken.result c.is_taken.ensures used ∙ c.if-is_taken.false in
    elim c.in-Err.ensures.fault [
      | inl no_memory ↦ inl no_memory
      | inr at ↦ inr (clash_at c.args.strings.now all i one c.in-Err.e c.loop-one-test.true c.loop-one.invariant.stand
          (subst (λ (w : Written). IsRefused c.args.strings.now (take i all) w c.in-Err.e) c.one-item.is (mixed free at)))
    ]

pub loop-one-preserved : goal.loop-one-preserved
loop-one-preserved c =
    let texts = c.args.strings.now in
    let all = c.args.written.now in
    let i = c.loop-one.one-index in
    let one = c.one-item.result in
    let before = c.loop-one.invariant in
    let in_range = subst (λ (w : Written). w.name.0 < length texts) (sym c.one-item.is) (c.requires.ids i one c.loop-one-test.true) in
    let used = subst (λ (l : List Bool). get_or l one.name.0 false ≡ is_used (take i all) one.name) (sym c.deref.ensures.value) (before.used one.name.0 in_range) in
    let free = taken_is texts c.deref.result.now (take i all) one.name c.is_taken.result c.is_taken.ensures used ∙ c.if-is_taken.false in
    let more : take (i + 1) all ≡ take i all ++ one ∷ [] = written_more all i one c.loop-one-test.true ∙ ap (λ (w : Written). take i all ++ w ∷ []) (sym c.one-item.is) in
    record {
      used = λ id less. used_more texts c.loop-one.used.items (take i all) one before.size in_range before.used id less ∙ ap (λ (l : List Written). is_used l (record { 0 = id })) (sym more);
      size = length-set c.loop-one.used.items one.name.0 true ∙ before.size;
      found = patterns_more all i one c.loop-one.found.items c.push.new.self.items c.loop-one-test.true before.found
          (c.in_ok-push-in-Ok.ensures.items ∙ ap (λ (p : Pattern). c.loop-one.found.items ++ p ∷ []) (c.in-Ok.ensures.pattern ∙ ap pattern_of c.one-item.is));
      agree = subst (All (λ (w : Written). HasNoClash IsMixed (points w.items))) (sym more) (All-push (λ (w : Written). HasNoClash IsMixed (points w.items)) (take i all) one before.agree c.in-Ok.ensures.agrees);
      stand = subst (HasNoClash (CantStand texts)) (sym more) (none_more (CantStand texts) (take i all) one before.stand (can_stand texts (take i all) one free c.in-Ok.ensures.agrees));
    }
