-- Operations of names, one more.
use Rattle.std.proofs.Common.{◌≡◌, ◌∙◌, ℕ, ◌+◌, ◌<◌, List, [], ◌∷◌, length, take, get_or, Option, None, sym, ap}
use Rattle.std.proofs.lemmas.List.{take_more}
use Rattle.std.proofs.lemmas.List.Sums.{fold-append}
use Rattle.lido_base.specs.declared.ids.StrId.{StrId}
use Rattle.lido_base.specs.declared.operation.Op.{Op}
use Rattle.flat_copies.specs.Ops.{later_op, op_named}

pub ops-more : (id : ℕ) (named : List (StrId × Op)) (i : ℕ) (d : StrId × Op) → i < length named → (old new : ℕ → Option Op) → ((q : ℕ) → old q ≡ op_named (take i named) q)
    → ((q : ℕ) → new q ≡ later_op q (old q) (get_or named i d)) → new id ≡ op_named (take (i + 1) named) id
ops-more id named i d below old new before after =
    let x = get_or named i d in
    after id ∙ ap (λ (o : Option Op). later_op id o x) (before id) ∙ sym (ap (λ (l : List (StrId × Op)). op_named l id) (take_more named i d below) ∙ fold-append (later_op id) None (take i named) (x ∷ []))
