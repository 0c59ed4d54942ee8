use Rattle.std.proofs.Common.{inl, inr, List, false, take, sym, subst, arith}
use Rattle.std.proofs.lemmas.List.{length-take}
use Rattle.ptg_patterns.specs.declared.written.Point.{Point}
use Rattle.ptg_patterns.specs.declared.written.Content.TheVariants.{Text}
use Rattle.ptg_patterns.specs.declared.written.Item.{Item}
use Rattle.ptg_patterns.specs.First.{HasNoClash}
use Rattle.ptg_patterns.specs.Clashes.{IsMixed}
use Rattle.ptg_patterns.specs.Meaning.{points}
use Rattle.ptg_patterns.specs.Tables.{RecordsPoints}
use Rattle.ptg_patterns.proofs.MeaningLemmas.{few_points, points_more, parts_more, mixed_at}
use Rattle.ptg_patterns.proofs.patterns.parts_of.Goals as goal

no_item : Item
no_item = record { content = Text (record { 0 = 0 }); brace = false }

pub part-requires : goal.part-requires
part-requires c =
    let items = c.args.items.now in
    let i = c.loop-item.item-index in
    omega (arith, c.loop-item.invariant.keeps.count, few_points (take i items), length-take i items, c.loop-item-test.true, c.requires.few)

pub returns-in-Err-clause-fault : goal.returns-in-Err-clause-fault
unfolding no_item
returns-in-Err-clause-fault c =
    let items = c.args.items.now in
    let i = c.loop-item.item-index in
    elim (c.in-Err.ensures.fault (points (take i items)) c.loop-item.invariant.keeps) [
      | inl no_memory ↦ inl no_memory
      | inr at ↦ inr (mixed_at items i no_item at.0 c.in-Err.e c.loop-item-test.true c.loop-item.invariant.agrees at.1 at.2 at.3)
    ]

pub loop-item-preserved : goal.loop-item-preserved
unfolding no_item
loop-item-preserved c =
    let items = c.args.items.now in
    let i = c.loop-item.item-index in
    let before = c.loop-item.invariant in
    let more = points_more items i no_item c.loop-item-test.true in
    record {
      keeps = subst (λ (l : List Point). RecordsPoints c.part.new.arguments l) (sym more) (c.in-Ok.ensures.kept (points (take i items)) before.keeps);
      parts = parts_more items i no_item c.loop-item.parts.items c.push.new.self.items c.in-Ok.part c.loop-item-test.true before.parts
          (c.in-Ok.ensures.part (points (take i items)) before.keeps) c.in_ok-push-in-Ok.ensures.items;
      agrees = subst (λ (l : List Point). HasNoClash IsMixed l) (sym more) (c.in-Ok.ensures.agrees (points (take i items)) before.keeps before.agrees);
    }
