use Rattle.std.proofs.lemmas.Result.{err_from_is_err_and}
use Rattle.lido_computations.specs.Places.{AreConstituentsOf, is_option, is_with}
use Rattle.lido_computations.proofs.PhrasesLemmas.{past, ends, never, refused_first, leads_self, then_completable, done_completable, done_stops}
use Rattle.lido_computations.proofs.PlacesLemmas.{optional_completable, shield_stops, with_wider}
use Rattle.lido_computations.proofs.places.constituents.Goals as goal

pub returns-in_err-found-clause-reads : goal.returns-in_err-found-clause-reads
returns-in_err-found-clause-reads c =
    let p = err_from_is_err_and c.from_residual.result c.from_residual.ensures.1 in
    let l0 = leads_self (AreConstituentsOf c.args.at c.args.number) is_option c.args.tokens.now in
    rw (p.1, p.2) (refused_first _ _ _ _ _ _ (never _ _) _ _ _ l0 (λ a. (then_completable _ _ (optional_completable _ _) (λ a. (then_completable _ _ (optional_completable _ _) (λ a. (done_completable _)))))) _ c.in_err-found.ensures.reads)

pub returns-in_err-shielded-clause-reads : goal.returns-in_err-shielded-clause-reads
returns-in_err-shielded-clause-reads c =
    let p = err_from_is_err_and c.from_residual-in_err-shielded.result c.from_residual-in_err-shielded.ensures.1 in
    let l0 = leads_self (AreConstituentsOf c.args.at c.args.number) is_option c.args.tokens.now in
    let l1 = past _ _ _ _ _ _ (never _ _) _ _ _ _ l0 c.in_ok-found.ensures.reads in
    rw (p.1, p.2) (refused_first _ _ _ _ _ _ (shield_stops _) _ _ _ l1 (λ a. (then_completable _ _ (optional_completable _ _) (λ a. (done_completable _)))) _ c.in_err-shielded.ensures.reads)

pub returns-in_err-folded-clause-reads : goal.returns-in_err-folded-clause-reads
returns-in_err-folded-clause-reads c =
    let p = err_from_is_err_and c.from_residual-in_err-folded.result c.from_residual-in_err-folded.ensures.1 in
    let l0 = leads_self (AreConstituentsOf c.args.at c.args.number) is_option c.args.tokens.now in
    let l1 = past _ _ _ _ _ _ (never _ _) _ _ _ _ l0 c.in_ok-found.ensures.reads in
    let l2 = past _ _ _ _ _ _ (shield_stops _) _ _ _ _ l1 c.in_ok-shielded.ensures.reads in
    rw (p.1, p.2) (refused_first _ _ _ _ _ _ (done_stops is_with is_option _ with_wider) _ _ _ l2 (λ a. (done_completable _)) _ c.in_err-folded.ensures.reads)

pub returns-clause-reads : goal.returns-clause-reads
returns-clause-reads c =
    let l0 = leads_self (AreConstituentsOf c.args.at c.args.number) is_option c.args.tokens.now in
    let l1 = past _ _ _ _ _ _ (never _ _) _ _ _ _ l0 c.in_ok-found.ensures.reads in
    let l2 = past _ _ _ _ _ _ (shield_stops _) _ _ _ _ l1 c.in_ok-shielded.ensures.reads in
    let l3 = past _ _ _ _ _ _ (done_stops is_with is_option _ with_wider) _ _ _ _ l2 c.in_ok-folded.ensures.reads in
    rw (c.from_vec.ensures, c.from_vec-2.ensures) (ends _ _ _ _ _ _ l3)
