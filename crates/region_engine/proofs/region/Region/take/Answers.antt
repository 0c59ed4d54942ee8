use Rattle.std.proofs.Common.{[], arith, refl, subst, inl, inr, ⊎_elim}
use Rattle.std.proofs.lemmas.Option.{slice_get_within}
use Rattle.core_machine.specs.Keys.{contents_of}
use Rattle.core_machine.proofs.ContentsLemmas.{contents-length}
use Rattle.lido_base.proofs.Lists.{contains-nil, contains-cons}
use Rattle.region_engine.specs.Steps.{HasKey}
use Rattle.region_engine.proofs.Given.{behind-given, had-still, has-new, has-or-new}
use Rattle.region_engine.proofs.Looks.{goes-on-here}
use Rattle.region_engine.proofs.Moves.{stayed-number}
use Rattle.region_engine.proofs.region.Region.take.Goals as goal

pub deliver-requires-clause-shared : goal.deliver-requires-clause-shared
deliver-requires-clause-shared c =
    let w = slice_get_within (contents_of c.args.job.now) c.args.key c.args.value c.requires.value in
    let a = contents-length c.args.job.now in let b = c.requires.region.behind.sized.keys in omega (arith, w, a, b)

pub deliver-requires-clause-marks : goal.deliver-requires-clause-marks
deliver-requires-clause-marks c =
    let w = slice_get_within (contents_of c.args.job.now) c.args.key c.args.value c.requires.value in
    let a = contents-length c.args.job.now in let b = c.requires.region.behind.sized.marks in omega (arith, w, a, b)

pub returns-clause-region : goal.returns-clause-region
returns-clause-region c =
    let j = c.args.job.now in let g = c.args.self.now in let r = g.values.region in
    let w = slice_get_within (contents_of j) c.args.key c.args.value c.requires.value in
    let a = contents-length j in let b = c.requires.region.behind.sized.keys in let m = c.requires.region.behind.sized.marks in
    stayed-number j r g _ c.requires.region (record {
      cursor = refl;
      count = refl;
      position = refl;
      behind = behind-given j c.facts.ensures r g.position g.values c.deliver.new.self g.bench.room c.requires.region.behind c.args.key c.args.value c.requires.value (omega (arith, w, a, b)) (omega (arith, w, a, m)) c.deliver.ensures;
      puts = refl;
      puts_room = refl;
      empty = c.requires.region.empty;
      stack = refl;
      since = refl;
      numbered = refl;
      delivered = had-still j c.facts.ensures r g.position g.values c.deliver.new.self g.bench.room c.requires.region.behind c.args.key c.args.value c.requires.value (omega (arith, w, a, b)) (omega (arith, w, a, m)) c.deliver.ensures;
      goes_on = goes-on-here g.desk;
      numbers = refl;
      mine = refl;
      notebook = refl;
    }) c.deliver.ensures.region

pub returns-clause-given : goal.returns-clause-given
returns-clause-given c =
    let j = c.args.job.now in let g = c.args.self.now in let r = g.values.region in
    let w = slice_get_within (contents_of j) c.args.key c.args.value c.requires.value in
    let a = contents-length j in let b = c.requires.region.behind.sized.keys in let m = c.requires.region.behind.sized.marks in
    record {
      number = c.deliver.ensures.region;
      position = refl;
      since = refl;
      numbered = refl;
      desk = refl;
      puts = refl;
      keys = λ k. (
        (λ h. ⊎_elim (λ old. inl old) (λ e. inr (0, omega arith, e))
            (has-or-new j c.facts.ensures r g.position g.values c.deliver.new.self g.bench.room c.requires.region.behind c.args.key c.args.value c.requires.value (omega (arith, w, a, b)) (omega (arith, w, a, m)) c.deliver.ensures k h)),
        (λ h. ⊎_elim
            (λ old. had-still j c.facts.ensures r g.position g.values c.deliver.new.self g.bench.room c.requires.region.behind c.args.key c.args.value c.requires.value (omega (arith, w, a, b)) (omega (arith, w, a, m)) c.deliver.ensures k old)
            (λ here. ⊎_elim
            (λ e. subst (HasKey c.deliver.new.self) e (has-new j c.facts.ensures r g.position g.values c.deliver.new.self g.bench.room c.requires.region.behind c.args.key c.args.value c.requires.value (omega (arith, w, a, b)) (omega (arith, w, a, m)) c.deliver.ensures))
            (λ none. absurd (contains-nil k none))
            (contains-cons c.args.key k [] here))
            h),
      );
    }
