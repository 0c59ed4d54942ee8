use Rattle.std.proofs.Common.{refl}
use Rattle.std.proofs.KnownBytes.{Appends-nil}
use Rattle.lido_top.specs.Answers.{whole, err_fails}
use Rattle.lido_top.proofs.call.report.Goals as goal

pub returns-in-Ok : goal.returns-in-Ok
returns-in-Ok g c = λ out. whole (Appends-nil out.bytes) c.in-Ok.ensures.all refl

pub returns-in-Err : goal.returns-in-Err
returns-in-Err g c = λ out. err_fails (Appends-nil out.bytes) (c.in-Err.ensures.part, c.in-Err.ensures.fault)
