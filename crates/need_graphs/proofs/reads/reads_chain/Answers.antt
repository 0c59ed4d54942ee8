use Rattle.std.specs.List.{list_any}
use Rattle.std.specs.Borrow.{Bor}
use Rattle.std.proofs.Common.{◌∙◌, List, ap, sym}
use Rattle.lido_syntax.specs.declared.spec.Expr.{Expr}
use Rattle.need_graphs.specs.Reads.{reads}
use Rattle.need_graphs.proofs.ReadLemmas.{any-map}
use Rattle.need_graphs.proofs.reads.reads_chain.Goals as goal

pub returns : goal.returns
returns c =
    let test = reads c.args.chain.0 c.args.starts in
    c.has_read.ensures ∙ ap (λ (l : List (Bor Expr)). list_any (λ (e : Bor Expr). test e.now) l) c.deref.ensures.value
    ∙ sym (any-map test (λ (e : Bor Expr). e.now) c.in_ok-found.found.items) ∙ ap (list_any test) c.in_ok-found.ensures
