use Rattle.std.specs.Prelude.{unwrap_or}
use Rattle.lido_base.specs.Plain.{Void}
use Rattle.lido_base.proofs.Lists.{flat-contains}
use Rattle.lido_syntax.specs.declared.spec.Place.TheVariants as place
use Rattle.lido_syntax.specs.declared.spec.Expr.{Read, Constituents}
use Rattle.lido_syntax.specs.Parts.{leaves, expressions_of}
use Rattle.rule_tables.specs.Copies.{tail_of}
use Rattle.carried_trees.specs.Carry.{carry}
use Rattle.carried_values.proofs.LeafLemmas.{expression-value}
use Rattle.carried_values.proofs.WrittenLemmas.{carry-agrees}
use Rattle.carried_values.proofs.UseLemmas.{constituents-value}
use Rattle.carried_values.proofs.laws.expressions_keep_their_values.Goals as goal

pub returns : goal.returns
returns call = λ f is x are A n r p fs at c m e me tailless w q context tail.
    expression-value f is x are A (λ i. unwrap_or (carry f x A i) Void) (carry-agrees f is x are A) n r p fs at c m w q context.1 context.0 (tail_of f.spec f.tables f.needs f.slots f.env r p fs) tail e
    (λ l ml. flat-contains leaves (expressions_of c.comp) e l me ml)
    (λ first a ml. absurd (tailless (Read first place.Tail a) ml tt))
    (λ k ml. constituents-value f is x are A n r p fs at c m k (flat-contains leaves (expressions_of c.comp) e (Constituents k) me ml) (tail_of f.spec f.tables f.needs f.slots f.env r p fs) w context.0)
