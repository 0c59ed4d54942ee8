use Rattle.std.proofs.Common.{◌≡◌, ◌∙◌, ap, arith, length, List, ℕ, [], ◌∷◌, slice_get, unwrap_or}
use Rattle.string_librarian.specs.Rooms.{cells_of}
use Rattle.trials_of_texts.proofs.HeldLemmas.{makes_string, cells_of-push, held_by, kept_by}
use Rattle.trials_of_texts.proofs.chains.string.Goals as goal

pub returns-clause-held : goal.returns-clause-held
returns-clause-held c =
    let t = c.requires.text in
    held_by c.args.texts.now c.deposit.new.self c.deposit.result _ (ap (λ r. r.number) c.deposit.ensures.room ∙ c.requires.first)
    (λ at. c.deposit.ensures.denotes c.args.texts.now [] (c.deposit.new.self ∷ []) (unwrap_or (slice_get c.args.texts.now c.args.id.0) []) at
    (makes_string c.args.texts.now (c.deposit.new.self ∷ []) c.args.id) (ap (λ o. length (unwrap_or o [])) t.1 ∙ t.2))

pub returns-clause-kept : goal.returns-clause-kept
returns-clause-kept c = λ d held. kept_by c.args.texts.now c.args.room.now c.deposit.new.self d (ap (λ r. r.number) c.deposit.ensures.room) held (c.deposit.ensures.earlier c.args.texts.now [] (c.args.room.now ∷ []) d)

pub returns-clause-cells : goal.returns-clause-cells
returns-clause-cells c = ap (λ r. cells_of r.deposits) c.deposit.ensures.room ∙ cells_of-push c.args.room.now.deposits _
