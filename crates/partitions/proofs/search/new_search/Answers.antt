use Rattle.std.proofs.Common.{ℕ, List, [], length, sym, subst}
use Rattle.std.specs.Prelude.{replicate}
use Rattle.partitions.specs.declared.search.Mark.{Mark}
use Rattle.partitions.specs.Search.{IsSearch}
use Rattle.partitions.proofs.CycleLemmas.{new-search}
use Rattle.partitions.proofs.search.new_search.Goals as goal

pub returns-clause-search : goal.returns-clause-search
returns-clause-search c =
    let preds = c.args.preds.now in
    subst (λ (path : List ℕ). IsSearch preds c.in_ok-vec.field-0.items c.in_ok-vec-2.field-0.items path 0) (sym c.new.ensures.items)
    (subst (λ (tried : List ℕ). IsSearch preds c.in_ok-vec.field-0.items tried [] 0) (sym (c.in_ok-vec-2.ensures.items_if_clones_equal (λ y e. e)))
    (subst (λ (marks : List Mark). IsSearch preds marks (replicate {A = ℕ} (length preds) 0) [] 0) (sym (c.in_ok-vec.ensures.items_if_clones_equal (λ y e. e))) (new-search preds)))
