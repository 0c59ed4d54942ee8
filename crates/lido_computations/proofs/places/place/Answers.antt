use Rattle.std.proofs.lemmas.Result.{err_from_is_err_and}
use Rattle.lido_computations.specs.Places.{is_bracket, words_of}
use Rattle.lido_computations.proofs.PhrasesLemmas.{past, ends, never, refused_first, then_completable, done_completable, done_stops, same_wider}
use Rattle.lido_computations.proofs.PlacesLemmas.{index_completable, word_finds, named_leads}
use Rattle.lido_computations.proofs.places.place.Goals as goal

pub returns-in-Some-clause-reads : goal.returns-in-Some-clause-reads
returns-in-Some-clause-reads c =
    word_finds _ _ _ _ c.in-Some.ensures.seen

pub returns-in_err-word-clause-reads : goal.returns-in_err-word-clause-reads
returns-in_err-word-clause-reads c =
    let p = err_from_is_err_and c.from_residual.result c.from_residual.ensures.1 in
    let l0 = named_leads (words_of c.args.reads) c.args.tokens.now c.in_default.ensures.seen in
    rw (p.1, p.2) (refused_first _ _ _ _ _ _ (never _ _) _ _ _ l0 (λ a. (then_completable _ _ index_completable (λ a. (done_completable _)))) _ c.in_err-word.ensures.reads)

pub returns-in_err-i-clause-reads : goal.returns-in_err-i-clause-reads
returns-in_err-i-clause-reads c =
    let p = err_from_is_err_and c.from_residual-in_err-i.result c.from_residual-in_err-i.ensures.1 in
    let l0 = named_leads (words_of c.args.reads) c.args.tokens.now c.in_default.ensures.seen in
    let l1 = past _ _ _ _ _ _ (never _ _) _ _ _ _ l0 c.in_ok-word.ensures.reads in
    rw (p.1, p.2) (refused_first _ _ _ _ _ _ (done_stops is_bracket is_bracket _ (same_wider is_bracket)) _ _ _ l1 (λ a. (done_completable _)) _ c.in_err-i.ensures.reads)

pub returns-clause-reads : goal.returns-clause-reads
returns-clause-reads c =
    let l0 = named_leads (words_of c.args.reads) c.args.tokens.now c.in_default.ensures.seen in
    let l1 = past _ _ _ _ _ _ (never _ _) _ _ _ _ l0 c.in_ok-word.ensures.reads in
    let l2 = past _ _ _ _ _ _ (done_stops is_bracket is_bracket _ (same_wider is_bracket)) _ _ _ _ l1 c.in_ok-i.ensures.reads in
    ends _ _ _ _ _ _ l2
