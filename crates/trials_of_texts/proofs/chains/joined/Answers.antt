use Rattle.std.proofs.Common.{◌≡◌, ◌∙◌, ap, arith, length, List, ℕ, [], ◌∷◌}
use Rattle.string_librarian.specs.Rooms.{cells_of}
use Rattle.trials_of_texts.proofs.HeldLemmas.{cells_of-push, held_by, kept_by, joined_bytes, makes_joined, length-joined}
use Rattle.trials_of_texts.proofs.chains.joined.Goals as goal

pub returns-clause-held : goal.returns-clause-held
returns-clause-held c =
    let t = c.args.texts.now in let l = c.args.left in let r = c.args.right in let new = c.deposit.new.self in
    let same = ap (λ r. r.number) c.deposit.ensures.room in
    let dl = kept_by t c.args.room.now new l same c.requires.left (c.deposit.ensures.earlier t [] (c.args.room.now ∷ []) l) in
    let dr = kept_by t c.args.room.now new r same c.requires.right (c.deposit.ensures.earlier t [] (c.args.room.now ∷ []) r) in
    held_by t new c.deposit.result (joined_bytes t (new ∷ []) l r dl.bytes dr.bytes dl.denotes dr.denotes) (same ∙ c.requires.left.first)
    (λ at. c.deposit.ensures.denotes t [] (new ∷ []) (joined_bytes t (new ∷ []) l r dl.bytes dr.bytes dl.denotes dr.denotes) at
    (makes_joined t (new ∷ []) l r dl.bytes dr.bytes dl.denotes dr.denotes) (length-joined t (new ∷ []) l r dl.bytes dr.bytes dl.denotes dr.denotes))

pub returns-clause-cells : goal.returns-clause-cells
returns-clause-cells c = ap (λ r. cells_of r.deposits) c.deposit.ensures.room ∙ cells_of-push c.args.room.now.deposits _
