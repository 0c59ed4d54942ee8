use Rattle.std.proofs.Common.{ap, not, refl}
use Rattle.ptg_patterns.proofs.ArgumentsLemmas.{keeps_more, flag_on, flag_kept, form_is}
use Rattle.ptg_patterns.proofs.arguments.Arguments.note.Goals as goal

pub returns-in-None-clause-kept : goal.returns-in-None-clause-kept
returns-in-None-clause-kept c = λ points before is.
    let form = form_is c.args.point _ c.in-None.is in
    keeps_more c.args.self.now _ points c.args.point c.args.number before is refl (flag_on _ _ (ap not form)) (flag_kept _ _ form) c.in-Ok.ensures.set c.in-Ok.ensures.size

pub returns-in-Some-clause-kept : goal.returns-in-Some-clause-kept
returns-in-Some-clause-kept c = λ points before is.
    let form = form_is c.args.point _ c.in-Some.is in
    keeps_more c.args.self.now _ points c.args.point c.args.number before is refl (flag_kept _ _ (ap not form)) (flag_on _ _ form) c.in-Ok.ensures.set c.in-Ok.ensures.size
