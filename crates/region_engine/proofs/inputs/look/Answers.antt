use Rattle.std.proofs.Common.{◌≡◌, ◌∙◌, arith, ap, sym, refl, length, subst, Some, slice_get}
use Rattle.std.proofs.Math.ListN.{set}
use Rattle.std.proofs.lemmas.Option.{slice_get_read}
use Rattle.boundary_table.specs.Desk.{Knows, Missed}
use Rattle.core_machine.specs.Keys.{contents_of}
use Rattle.core_machine.proofs.ContentsLemmas.{contents-length}
use Rattle.region_engine.proofs.Looks.{found-look}
use Rattle.region_engine.proofs.inputs.look.Goals as goal

pub get-requires-2-clause-key : goal.get-requires-2-clause-key
get-requires-2-clause-key c =
    let h = c.in-Some-Missing.ensures.lookup.3.0 in
    let a = contents-length c.args.job.now in let b = ap length c.requires.contents in
    omega (arith, h, a, b, c.requires.marks)

pub returns-in-Ok-clause-look : goal.returns-in-Ok-clause-look
returns-in-Ok-clause-look c =
    let h = c.in-Some-Missing.ensures.lookup.3.0 in
    (found-look c.args.job.now c.args.shared.now c.in-Some.key c.in-Ok.value c.args.desk.now c.get-2.new.desk c.get-2.ensures.goes_on c.get-2.ensures.stores c.requires.contents c.in-Ok.ensures.value
    (omega (arith, h, c.requires.marks, c.requires.shared))).0

pub returns-in-Ok-clause-at_hand : goal.returns-in-Ok-clause-at_hand
returns-in-Ok-clause-at_hand c = λ m.
    let h = c.in-Some-Missing.ensures.lookup.3.0 in
    let f = (found-look c.args.job.now c.args.shared.now c.in-Some.key c.in-Ok.value c.args.desk.now c.get-2.new.desk c.get-2.ensures.goes_on c.get-2.ensures.stores c.requires.contents c.in-Ok.ensures.value
    (omega (arith, h, c.requires.marks, c.requires.shared))).1 in (
      subst (λ k. slice_get (set c.args.shared.now c.in-Some.key c.in-Ok.value) k ≡ slice_get (contents_of c.args.job.now) k) c.in-Some.ensures.1 f,
      subst (λ k. Knows c.get-2.new.desk k) c.in-Some.ensures.1 c.in-Ok.ensures.known,
    )

pub returns-in-Err-clause-missed : goal.returns-in-Err-clause-missed
returns-in-Err-clause-missed c =
    let h = c.in-Some-Missing.ensures.lookup in
    let there = slice_get_read c.args.marks.now (length c.args.marks.now) c.in-Some.key c.in-Some-Missing.field-0.now refl h.3.0 h.1 in
    record {
      nothing = record {
        split = c.in-Some.ensures.0;
        missing = ap (slice_get c.args.marks.now) (sym c.in-Some.ensures.1) ∙ there ∙ ap Some c.in-Some-Missing.field-0-is;
      };
      missed = subst (λ k. Missed c.args.desk.now c.get-2.new.desk k) c.in-Some.ensures.1 c.in-Err.ensures.not_yet;
    }
