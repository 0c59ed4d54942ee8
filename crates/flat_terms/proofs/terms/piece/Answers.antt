use Rattle.std.proofs.Common.{subst}
use Rattle.std.proofs.lemmas.Result.{IfOk-weaker}
use Rattle.rule_tables.specs.ExtraOf.{IsPieceAs}
use Rattle.flat_terms.proofs.TermLemmas.{piece-read, piece-single}
use Rattle.flat_terms.proofs.terms.piece.Goals as goal

pub returns-in-Read : goal.returns-in-Read
returns-in-Read c = λ scene is known fits e part w.
    piece-read scene c.args.tables.now c.args.number c.in-Read.at c.added_occ.result (c.added_occ.ensures scene is) e (subst (λ p. IsPieceAs c.args.tables.now scene.plain c.args.number p e) c.in-Read.is part)

pub returns-in-Single : goal.returns-in-Single
returns-in-Single c =
    IfOk-weaker c.single.result _ _ (λ made h scene is known fits e part w.
    piece-single scene c.args.tables.now c.args.with c.args.number c.in-Single.at c.added_occ-in-Single.result made (c.added_occ-in-Single.ensures scene is) (h scene is known fits) e
    (subst (λ p. IsPieceAs c.args.tables.now scene.plain c.args.number p e) c.in-Single.is part) w) c.single.ensures
