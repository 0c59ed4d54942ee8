use Rattle.std.specs.Prelude.{take, MatchOption}
use Rattle.std.proofs.Common.{◌≡◌, ◌∙◌, ◌-◌, [], ◌++◌, ◌∷◌, ap, subst, length}
use Rattle.core_machine.specs.declared.cursor.Frame.{Frame}
use Rattle.std.proofs.Common.{List}
use Rattle.core_machine.proofs.CursorSteps.{last-cases}
use Rattle.core_machine.proofs.cursor.Cursor.innermost.Goals as goal

pub returns : goal.returns
returns c =
    let same = c.deref.ensures.value ∙ ap (λ s. s.frames) c.self.view_is in
    subst (λ (l : List Frame). MatchOption c.copied.result (l ≡ []) (λ top. l ≡ take (length l - 1) l ++ top ∷ [])) same
    (last-cases c.deref.result.now c.copied.result (c.copied.ensures ∙ c.last.ensures.value))
