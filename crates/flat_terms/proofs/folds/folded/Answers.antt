use Rattle.std.specs.Prelude.{Contains}
use Rattle.std.proofs.Common.{ℕ, List, [], ◌∷◌, ap, sym, subst, ◌∙◌}
use Rattle.std.proofs.lemmas.List.Elements.{Contains-append_left, Contains-append_right}
use Rattle.lido_base.proofs.Lists.{contains-here}
use Rattle.flat_terms.specs.Folds.{comb_at}
use Rattle.flat_terms.proofs.FoldLemmas.{onto-less}
use Rattle.flat_terms.proofs.folds.folded.Goals as goal

pub loop-j-preserved : goal.loop-j-preserved
loop-j-preserved c =
    let j = c.in-Some.j in
    let rest = c.pop.new.self.items in
    let before = λ (k : ℕ) (m : Contains rest k). subst (λ (l : List ℕ). Contains l k) (sym c.in-Some.ensures.items) (Contains-append_left rest (j ∷ []) k m) in
    let last : Contains c.loop-j.places.items j = subst (λ (l : List ℕ). Contains l j) (sym c.in-Some.ensures.items) (Contains-append_right rest (j ∷ []) j (contains-here j [])) in
    record {
      value = λ scene is known fits few.
          onto-less scene c.args.number c.args.with c.loop-j.made c.in_ok-made.made rest c.loop-j.places.items j c.in-Some.ensures.items
          (c.in_ok-made.ensures scene is known fits ∙ ap (λ x. comb_at scene c.args.number c.args.with x c.loop-j.made) (c.con.ensures scene is (few j (c.loop-j.invariant.kept j last))))
          ∙ c.loop-j.invariant.value scene is known fits few;
      kept = λ k m. c.loop-j.invariant.kept k (before k m);
    }
