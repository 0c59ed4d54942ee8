use Rattle.std.proofs.Common.{ℕ, ◌≤◌, List, [], Ok, inr, sym, ◌∙◌, subst, arith, None, length}
use Rattle.lido_base.specs.Phases.{IsThe}
use Rattle.tree_reader.specs.Scanning.{Scanning, HasScanned}
use Rattle.tree_reader.specs.declared.part.Part.{Part}
use Rattle.tree_reader.specs.declared.scanner.Phase.TheVariants as phase
use Rattle.tree_reader.proofs.Scanned.{scanned_nothing, read_more, read_stops, read_whole, the_parts, the_place, unfinished_fault}
use Rattle.tree_reader.proofs.Shorter.{scanned_few}
use Rattle.tree_reader.proofs.scanner.scan.Goals as goal

pub loop-i-init : goal.loop-i-init
loop-i-init c = record {
  scanned = subst (λ (l : List Part). HasScanned [] (record { parts = l; phase = phase.Gap; held = c.new-2.result; depth = None })) (sym c.new.ensures)
      (subst (λ (l : List ℕ). HasScanned [] (record { parts = []; phase = phase.Gap; held = l; depth = None })) (sym c.new-2.ensures) scanned_nothing);
  shallow = tt;
}

pub loop-i-preserved : goal.loop-i-preserved
loop-i-preserved c = record {
  scanned = read_more c.args.text.now c.loop-i.i c.loop-i.scanner c.step.new.self (omega arith) c.loop-i.invariant.scanned c.in-Ok.ensures.moves;
  shallow = c.in-Ok.ensures.shallow;
}

pub returns-in-Err-clause-gives : goal.returns-in-Err-clause-gives
returns-in-Err-clause-gives c = read_stops c.args.text.now c.loop-i.i c.loop-i.scanner c.in-Err.e (omega arith) c.loop-i.invariant.scanned c.in-Err.ensures.refused

pub returns-then-is_done-clause-gives : goal.returns-then-is_done-clause-gives
returns-then-is_done-clause-gives c = subst (λ (l : List Part). IsThe (Scanning c.args.text.now) (Ok l)) (sym c.into_vec.ensures)
    (the_parts c.args.text.now c.loop-i.scanner (read_whole c.args.text.now c.loop-i.i c.loop-i.scanner (omega arith) c.loop-i.invariant.scanned) (sym c.is_done.ensures ∙ c.if-is_done.true))

pub returns-else-is_done-clause-gives : goal.returns-else-is_done-clause-gives
returns-else-is_done-clause-gives c = inr (the_place c.args.text.now (length c.args.text.now)
    (unfinished_fault c.args.text.now c.loop-i.scanner (read_whole c.args.text.now c.loop-i.i c.loop-i.scanner (omega arith) c.loop-i.invariant.scanned) (sym c.is_done.ensures ∙ c.if-is_done.false)))

pub returns-then-is_done-clause-few : goal.returns-then-is_done-clause-few
returns-then-is_done-clause-few c = subst (λ (l : List Part). length l ≤ length c.args.text.now) (sym c.into_vec.ensures)
    (scanned_few c.args.text.now c.loop-i.scanner.parts
    (the_parts c.args.text.now c.loop-i.scanner (read_whole c.args.text.now c.loop-i.i c.loop-i.scanner (omega arith) c.loop-i.invariant.scanned) (sym c.is_done.ensures ∙ c.if-is_done.true)))
