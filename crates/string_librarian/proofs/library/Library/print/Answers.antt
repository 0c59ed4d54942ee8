use Rattle.std.proofs.Common.{◌≡◌, ◌∙◌, ◌++◌, ◌∷◌, [], List, length, sym, ap, arith, refl, eqb-true, vec_len}
use Rattle.string_librarian.specs.declared.printing.Pending.{Pending}
use Rattle.std.proofs.KnownBytes.{Appends-nil}
use Rattle.string_librarian.proofs.WritingLemmas.{started, one_fits, written_more, within_text, part_written, all_written}
use Rattle.string_librarian.proofs.library.Library.print.Goals as goal

pub push_reserved-requires : goal.push_reserved-requires
push_reserved-requires g c =
    let r = c.requires.denotes in
    let room = one_fits c.args.self.now c.args.patterns.now.list c.args.strings.now c.begun.result c.args.desc r.0 c.begun.ensures.desc r.1
    (c.begun.ensures.left c.args.strings.now r.0 r.1 c.requires.some) in
    omega (arith, room, c.requires.room, c.clear.ensures)

pub loop-pending-init : goal.loop-pending-init
loop-pending-init g c =
    let r = c.requires.denotes in
    let items : c.push_reserved.new.self.items ≡ c.begun.result ∷ [] = ◌∙◌ {A = List Pending} c.push_reserved.ensures.items (ap (λ l. l ++ c.begun.result ∷ []) c.clear.ensures.items) in
    record {
      text = started c.args.self.now c.args.patterns.now.list c.args.strings.now c.begun.result c.args.desc r.0 (g.K.Sink.written c.args.sink.now) c.push_reserved.new.self.items items
          c.begun.ensures.desc r.1 (c.begun.ensures.left c.args.strings.now r.0 r.1 c.requires.some) (Appends-nil (g.K.Sink.written c.args.sink.now));
      later = omega arith;
      capacity = c.push_reserved.ensures.capacity ∙ c.clear.ensures.capacity;
    }

pub step-output-requires-clause-ready : goal.step-output-requires-clause-ready
step-output-requires-clause-ready g c =
    let w = c.loop-pending.invariant.text in
    (c.args.strings.now, w.rest, w.line, w.left)

pub step-output-requires-clause-room : goal.step-output-requires-clause-room
step-output-requires-clause-room g c = omega (arith, c.requires.room, c.loop-pending.invariant.capacity)

pub overflow_add-written : goal.overflow_add-written
overflow_add-written g c =
    let w = c.loop-pending.invariant.text in
    let k = c.step-output.ensures.text c.args.strings.now w.rest w.line w.left in
    let within = within_text c.args.self.now c.args.patterns.now.list c.args.strings.now c.args.desc c.loop-pending.pending.items _ _ c.loop-pending.written c.step-output.result w k.0 k.1 in
    omega (arith, within, c.in-Ok.ensures.count)

pub loop-pending-preserved : goal.loop-pending-preserved
loop-pending-preserved g c =
    let w = c.loop-pending.invariant.text in
    let k = c.step-output.ensures.text c.args.strings.now w.rest w.line w.left in
    record {
      text = written_more c.args.self.now c.args.patterns.now.list c.args.strings.now c.args.desc c.loop-pending.pending.items c.step-output.new.pending.items
          (g.K.Sink.written c.args.sink.now) (g.K.Sink.written c.loop-pending.sink) (g.K.Sink.written c.put.new.sink) c.loop-pending.written c.in-Ok.count c.step-output.result w
          k.0 k.1 k.2 k.3 c.in-Ok.ensures.all c.in-Ok.ensures.count;
      later = omega (arith, c.loop-pending.invariant.later, c.put.ensures.later);
      capacity = c.step-output.ensures.capacity ∙ c.loop-pending.invariant.capacity;
    }

pub overflow_add-result : goal.overflow_add-result
overflow_add-result g c =
    let w = c.loop-pending.invariant.text in
    let k = c.step-output.ensures.text c.args.strings.now w.rest w.line w.left in
    let within = within_text c.args.self.now c.args.patterns.now.list c.args.strings.now c.args.desc c.loop-pending.pending.items _ _ c.loop-pending.written c.step-output.result w k.0 k.1 in
    omega (arith, within, c.in-Err.ensures.short)

pub returns-in-Err-clause-part : goal.returns-in-Err-clause-part
returns-in-Err-clause-part g c = λ bytes denotes.
    let w = c.loop-pending.invariant.text in
    let k = c.step-output.ensures.text c.args.strings.now w.rest w.line w.left in
    part_written c.args.self.now c.args.patterns.now.list c.args.strings.now c.args.desc c.loop-pending.pending.items
    (g.K.Sink.written c.args.sink.now) (g.K.Sink.written c.loop-pending.sink) (g.K.Sink.written c.put.new.sink) c.loop-pending.written c.in-Err.fault.written c.step-output.result w
    k.0 k.1 c.in-Err.ensures.part c.in-Err.ensures.short bytes denotes

pub returns-in-Err-clause-short : goal.returns-in-Err-clause-short
returns-in-Err-clause-short g c =
    let w = c.loop-pending.invariant.text in
    let k = c.step-output.ensures.text c.args.strings.now w.rest w.line w.left in
    let within = within_text c.args.self.now c.args.patterns.now.list c.args.strings.now c.args.desc c.loop-pending.pending.items _ _ c.loop-pending.written c.step-output.result w k.0 k.1 in
    omega (arith, within, c.in-Err.ensures.short)

pub returns-in-Err-clause-fault : goal.returns-in-Err-clause-fault
returns-in-Err-clause-fault g c = omega (arith, c.loop-pending.invariant.later, c.in-Err.ensures.fault)

no_items : (xs : List Pending) → length xs ≡ 0 → xs ≡ []
no_items [] h = refl
no_items (x ∷ xs) h = absurd (omega arith)

pub returns-clause-all : goal.returns-clause-all
returns-clause-all g c = λ bytes denotes.
    let empty : vec_len c.loop-pending.pending ≡ 0 = eqb-true (vec_len c.loop-pending.pending) 0 (sym c.loop-pending-test.ensures) in
    let none : c.loop-pending.pending.items ≡ [] = no_items c.loop-pending.pending.items (omega (arith, empty, c.loop-pending.pending.ok)) in
    all_written c.args.self.now c.args.patterns.now.list c.args.strings.now c.args.desc c.loop-pending.pending.items
    (g.K.Sink.written c.args.sink.now) (g.K.Sink.written c.loop-pending.sink) c.loop-pending.written c.loop-pending.invariant.text none bytes denotes
