use Rattle.std.proofs.Common.{◌≡◌, ℕ, ◌∙◌, sym, subst, ap, arith, [], ◌∷◌, List, length, length-append, Some, inl, inr}
use Rattle.std.specs.Prelude.{slice_get, IsBitSet, ◌↔◌}
use Rattle.flat_grammar.specs.declared.flat.FlatAttr.{FlatAttr}
use Rattle.flat_grammar.specs.Rules.{attrs_of}
use Rattle.partitions.specs.Peeling.{IsPastAmong}
use Rattle.partitions.proofs.PeelingLemmas.{pushed-get, below-length, attribute-some}
use Rattle.partitions.proofs.ClassesLemmas.{past-is}
use Rattle.partitions.proofs.classes.later_rows.Goals as goal

pub loop-k-preserved : goal.loop-k-preserved
loop-k-preserved c = record {
  count = ap (λ (xs : List ℕ). length xs) c.in_ok-push.ensures.items ∙ omega (arith, length-append c.loop-k.rows.items (c.past_among.result ∷ []), c.loop-k.invariant.count);
  bits = λ a row at. elim (pushed-get c.loop-k.rows.items c.past_among.result a row (subst (λ (xs : List ℕ). slice_get xs a ≡ Some row) c.in_ok-push.ensures.items at)) [
    | inl old ↦ c.loop-k.invariant.bits a row old
    | inr here ↦ λ b. let e : c.loop-k.k ≡ a = sym c.loop-k.invariant.count ∙ sym here.0 in
        subst (λ r. IsBitSet r b ↔ IsPastAmong c.args.all.now a b) here.1 (subst (λ k. IsBitSet c.past_among.result b ↔ IsPastAmong c.args.all.now k b) e (c.past_among.ensures b))
  ];
}

pub returns : goal.returns
returns c =
    let count : length c.from_vec.result ≡ length (attrs_of c.args.flat.now.symbols c.args.x) = omega (arith, ap (λ (xs : List ℕ). length xs) c.from_vec.ensures, c.loop-k.invariant.count, ap (λ (xs : List FlatAttr). length xs) c.attributes-k-end.ensures.all) in
    record {
      each = count;
      bits = λ a b row at. let bits = c.loop-k.invariant.bits a.0 row (subst (λ (xs : List ℕ). slice_get xs a.0 ≡ Some row) c.from_vec.ensures at) b.0 in
          let past = past-is c.args.flat.now.symbols c.args.flat.now.rules c.args.x c.args.all.now c.requires.each c.requires.last c.requires.one a b
          (attribute-some c.args.flat.now.symbols c.args.flat.now.rules c.args.x a (let l = below-length c.from_vec.result a.0 row at in omega arith)) in
          ((λ bit. past.0 (bits.0 bit)), (λ later. bits.1 (past.1 later)));
    }
