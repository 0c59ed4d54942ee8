use Rattle.std.proofs.lemmas.Result.{err_from_is_err_and}
use Rattle.std.specs.Prelude.{pos}
use Rattle.lido_base.specs.Reading.{nothing}
use Rattle.lido_lexer.specs.declared.sign.Sign.TheVariants as sign
use Rattle.lido_lexer.specs.declared.token.TokenKind.TheVariants as kind
use Rattle.lido_computations.specs.Messages.{IsPlacing}
use Rattle.lido_computations.proofs.PhrasesLemmas.{past, never, refused_first, then_completable, sees_completable, leads_self, reads_by}
use Rattle.lido_computations.proofs.messages.placing.Goals as goal

pub returns-in_err-_before_zero-clause-reads : goal.returns-in_err-_before_zero-clause-reads
returns-in_err-_before_zero-clause-reads c =
    let p = err_from_is_err_and c.from_residual.result c.from_residual.ensures.1 in rw (p.1, p.2) (let l0 = leads_self (IsPlacing c.args.words) nothing c.args.tokens.now in
    refused_first _ _ _ _ _ _ (never _ _) _ _ _ l0 (λ a. (then_completable _ _ (sees_completable (kind.Int (pos 0))) (λ a. (then_completable _ _ (sees_completable (kind.Sign sign.Comma)) (λ a. (then_completable _ _ (sees_completable (kind.Word c.args.words.coordref)) (λ a. (sees_completable (kind.Sign sign.ParenClose))))))))) _ c.in_err-_before_zero.ensures.reads)

pub returns-in_err-_zero-clause-reads : goal.returns-in_err-_zero-clause-reads
returns-in_err-_zero-clause-reads c =
    let p = err_from_is_err_and c.from_residual-in_err-_zero.result c.from_residual-in_err-_zero.ensures.1 in rw (p.1, p.2) (let l0 = leads_self (IsPlacing c.args.words) nothing c.args.tokens.now in
    let l1 = past _ _ _ _ _ _ (never _ _) _ _ _ _ l0 c.in_ok-_before_zero.ensures.reads in
    refused_first _ _ _ _ _ _ (never _ _) _ _ _ l1 (λ a. (then_completable _ _ (sees_completable (kind.Sign sign.Comma)) (λ a. (then_completable _ _ (sees_completable (kind.Word c.args.words.coordref)) (λ a. (sees_completable (kind.Sign sign.ParenClose))))))) _ c.in_err-_zero.ensures.reads)

pub returns-in_err-_before_word-clause-reads : goal.returns-in_err-_before_word-clause-reads
returns-in_err-_before_word-clause-reads c =
    let p = err_from_is_err_and c.from_residual-in_err-_before_word.result c.from_residual-in_err-_before_word.ensures.1 in rw (p.1, p.2) (let l0 = leads_self (IsPlacing c.args.words) nothing c.args.tokens.now in
    let l1 = past _ _ _ _ _ _ (never _ _) _ _ _ _ l0 c.in_ok-_before_zero.ensures.reads in
    let l2 = past _ _ _ _ _ _ (never _ _) _ _ _ _ l1 c.in_ok-_zero.ensures.reads in
    refused_first _ _ _ _ _ _ (never _ _) _ _ _ l2 (λ a. (then_completable _ _ (sees_completable (kind.Word c.args.words.coordref)) (λ a. (sees_completable (kind.Sign sign.ParenClose))))) _ c.in_err-_before_word.ensures.reads)

pub returns-in_err-_word-clause-reads : goal.returns-in_err-_word-clause-reads
returns-in_err-_word-clause-reads c =
    let p = err_from_is_err_and c.from_residual-in_err-_word.result c.from_residual-in_err-_word.ensures.1 in rw (p.1, p.2) (let l0 = leads_self (IsPlacing c.args.words) nothing c.args.tokens.now in
    let l1 = past _ _ _ _ _ _ (never _ _) _ _ _ _ l0 c.in_ok-_before_zero.ensures.reads in
    let l2 = past _ _ _ _ _ _ (never _ _) _ _ _ _ l1 c.in_ok-_zero.ensures.reads in
    let l3 = past _ _ _ _ _ _ (never _ _) _ _ _ _ l2 c.in_ok-_before_word.ensures.reads in
    refused_first _ _ _ _ _ _ (never _ _) _ _ _ l3 (λ a. (sees_completable (kind.Sign sign.ParenClose))) _ c.in_err-_word.ensures.reads)

pub returns-clause-reads : goal.returns-clause-reads
returns-clause-reads c =
    let l0 = leads_self (IsPlacing c.args.words) nothing c.args.tokens.now in
    let l1 = past _ _ _ _ _ _ (never _ _) _ _ _ _ l0 c.in_ok-_before_zero.ensures.reads in
    let l2 = past _ _ _ _ _ _ (never _ _) _ _ _ _ l1 c.in_ok-_zero.ensures.reads in
    let l3 = past _ _ _ _ _ _ (never _ _) _ _ _ _ l2 c.in_ok-_before_word.ensures.reads in
    let l4 = past _ _ _ _ _ _ (never _ _) _ _ _ _ l3 c.in_ok-_word.ensures.reads in
    reads_by (λ token. token) _ _ _ _ _ _ _ l4 _ c.sign-3.ensures.reads
