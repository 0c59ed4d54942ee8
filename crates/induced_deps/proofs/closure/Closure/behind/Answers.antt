use Rattle.std.proofs.Common.{◌≡◌, inl, inr, subst, sym}
use Rattle.std.specs.Prelude.{slice_index_or}
use Rattle.induced_deps.specs.declared.row.Row.{Row}
use Rattle.induced_deps.specs.Rows.{IsIn, no_row, known, joined}
use Rattle.induced_deps.proofs.ClosureLemmas.{part_in, row_read}
use Rattle.induced_deps.proofs.closure.Closure.behind.Goals as goal

pub loop-v-init : goal.loop-v-init
loop-v-init c =
    let same : slice_index_or c.args.self.now.rows.items c.args.from no_row ≡ c.index.result.now = row_read c.args.self.now.rows.items c.args.from c.index.result.now c.index.result.now c.requires.vertex c.index.ensures in
    record {
      own = λ w h. subst (λ (r : Row). IsIn r.words w) same h;
      follow = λ w h. known (subst (λ (r : Row). IsIn r.words w) (sym same) h);
      passed = λ w x h edge. absurd (c.new-passed.ensures w h);
    }

pub loop-v-preserved : goal.loop-v-preserved
loop-v-preserved c = record {
  own = λ w h. (c.pass.ensures.all w).1 (inl (c.loop-v.invariant.own w h));
  follow = λ w h. elim ((c.pass.ensures.all w).0 h) [ inl before ↦ c.loop-v.invariant.follow w before | inr edge ↦ joined (c.loop-v.invariant.follow c.in-Some.v c.in-Some.ensures.1) (known edge) ];
  passed = c.pass.ensures.passed;
}

pub returns-clause-closed : goal.returns-clause-closed
returns-clause-closed c = λ w x h edge. c.loop-v.invariant.passed w x (part_in c.loop-v.all.words c.loop-v.passed.words w c.in_default.ensures h) edge
