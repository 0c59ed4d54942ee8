use Rattle.std.proofs.Common.{ℕ, List, length, take, refl, ap, subst, ◌<◌, arith, inl, inr}
use Rattle.std.proofs.KnownBytes.{Appends-nil}
use Rattle.std.specs.Io.KnownBytes.{Appends}
use Rattle.lido_top.specs.Answers.{whole, out_fails}
use Rattle.lido_top.proofs.call.hand_over.Goals as goal

pub returns-in-Ok : goal.returns-in-Ok
returns-in-Ok g c =
    whole (subst (λ (l : List ℕ). Appends (g.O.Sink.written c.args.out.now) (g.O.Sink.written c.write_all.new.sink) l) c.as_bytes.ensures.value c.in-Ok.ensures.all) (Appends-nil (g.E.Sink.written c.args.err.now)) refl

pub returns-in-Ok-write_fault : goal.returns-in-Ok-write_fault
returns-in-Ok-write_fault g c =
    let n = c.in-Err.fault.written in
    let short : n < length c.args.text.now = omega (arith, c.in-Err.ensures.short, ap length c.as_bytes.ensures.value) in
    out_fails short
    (subst (λ (l : List ℕ). Appends (g.O.Sink.written c.args.out.now) (g.O.Sink.written c.write_all.new.sink) (take n l)) c.as_bytes.ensures.value c.in-Err.ensures.part)
    c.in-Err.ensures.fault (inl c.in-Ok-write_fault.ensures.all)

pub returns-in-Err-write_fault : goal.returns-in-Err-write_fault
returns-in-Err-write_fault g c =
    let n = c.in-Err.fault.written in
    let short : n < length c.args.text.now = omega (arith, c.in-Err.ensures.short, ap length c.as_bytes.ensures.value) in
    out_fails short
    (subst (λ (l : List ℕ). Appends (g.O.Sink.written c.args.out.now) (g.O.Sink.written c.write_all.new.sink) (take n l)) c.as_bytes.ensures.value c.in-Err.ensures.part)
    c.in-Err.ensures.fault (inr (c.in-Err-write_fault.field-0.written, (c.in-Err-write_fault.ensures.part, c.in-Err-write_fault.ensures.fault)))
