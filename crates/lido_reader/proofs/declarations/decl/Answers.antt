use Rattle.std.specs.Prelude.{◌≡◌}
use Rattle.std.proofs.Common.{ap, ◌∙◌}
use Rattle.std.proofs.lemmas.Result.{err_from_is_err_and}
use Rattle.lido_syntax.specs.declared.spec.Name.{Name}
use Rattle.std.specs.Prelude.{List}
use Rattle.lido_reader.specs.Items.{IsDecl, is_side, declared}
use Rattle.lido_computations.proofs.PhrasesLemmas.{type_completable, no_memory}
use Rattle.lido_reader.proofs.PartsLemmas.{finish, then_finish, go_on, go_past, stuck_at, stuck_in, read_whole, done_stops}
use Rattle.lido_reader.proofs.DeclarationsLemmas.{decl_begins, colon_stops, colon_completable, side_completable}
use Rattle.lido_reader.proofs.declarations.decl.Goals as goal

pub returns-in_err-attrs-clause-reads : goal.returns-in_err-attrs-clause-reads
returns-in_err-attrs-clause-reads c = let p = err_from_is_err_and c.from_residual.result c.from_residual.ensures.1 in rw (p.1, p.2)
    (stuck_in c.args.end (colon_stops _ _) (decl_begins c.args.tokens.now) (λ names. then_finish colon_completable (λ colon. then_finish type_completable (λ type. then_finish side_completable (λ k. finish)))) c.in_err-attrs.field-0.0 c.in_err-attrs.ensures.reads)

pub returns-in_err-behind_colon-clause-reads : goal.returns-in_err-behind_colon-clause-reads
returns-in_err-behind_colon-clause-reads c = let p = err_from_is_err_and c.from_residual-in_err-behind_colon.result c.from_residual-in_err-behind_colon.ensures.1 in rw (p.1, p.2)
    (stuck_at c.args.end (go_past (colon_stops _ _) (decl_begins c.args.tokens.now) c.in_ok-attrs.ensures.reads) (λ colon. then_finish type_completable (λ type. then_finish side_completable (λ k. finish))) c.in_err-behind_colon.field-0.0 c.in_err-behind_colon.ensures.reads)

pub returns-in_err-ty-clause-reads : goal.returns-in_err-ty-clause-reads
returns-in_err-ty-clause-reads c = let p = err_from_is_err_and c.from_residual-in_err-ty.result c.from_residual-in_err-ty.ensures.1 in rw (p.1, p.2)
    (stuck_at c.args.end (go_on (go_past (colon_stops _ _) (decl_begins c.args.tokens.now) c.in_ok-attrs.ensures.reads) c.in_ok-behind_colon.ensures.reads) (λ type. then_finish side_completable (λ k. finish)) c.in_err-ty.field-0.0 c.in_err-ty.ensures.reads)

pub returns-in_err-all-clause-reads : goal.returns-in_err-all-clause-reads
returns-in_err-all-clause-reads c = let p = err_from_is_err_and c.from_residual-in_err-all.result c.from_residual-in_err-all.ensures.1 in rw (p.1, p.2)
    (no_memory IsDecl is_side c.args.end c.args.tokens.now c.in_err-all.field-0.0 c.in_err-all.ensures.memory)

pub returns-clause-reads : goal.returns-clause-reads
returns-clause-reads c =
    let all : c.in_ok-all.all.items ≡ declared c.in_ok-attrs.attrs.items c.in_ok-ty.ty c.side-kind.result.0 =
    c.in_ok-all.ensures.all ∙ ap (λ (names : List Name). declared names c.in_ok-ty.ty c.side-kind.result.0) c.as_slice.ensures.value in
    rw all (read_whole (go_past (done_stops is_side (declared c.in_ok-attrs.attrs.items c.in_ok-ty.ty)) (go_on (go_on (go_past (colon_stops _ _) (decl_begins c.args.tokens.now) c.in_ok-attrs.ensures.reads) c.in_ok-behind_colon.ensures.reads) c.in_ok-ty.ensures.reads) c.side-kind.ensures.reads))
