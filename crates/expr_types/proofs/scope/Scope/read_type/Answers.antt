use Rattle.std.specs.Prelude.{◌⊎◌}
use Rattle.std.proofs.Common.{sym, ap, ◌∙◌, inl, inr}
use Rattle.lido_syntax.specs.Symbols.{IsChain, IsTypedChain}
use Rattle.lido_syntax.specs.Attributes.{Has, HasType}
use Rattle.leaf_types.specs.Types.{attribute_type}
use Rattle.expr_types.specs.Scopes.{spec_of, symbol_in}
use Rattle.expr_types.proofs.ScopeLemmas.{lacks, lacks-all}
use Rattle.expr_types.proofs.scope.Scope.read_type.Goals as goal

pub unreachable-requires : goal.unreachable-requires
unreachable-requires c = go c.requires.there
  where
    go : IsChain (spec_of c.args.self.now) c.args.name.id.0 ⊎ Has (spec_of c.args.self.now) (symbol_in c.args.self.now.own.0 c.args.place) c.args.name.id.0 → ⊥
    go (inl chain) = lacks-all (IsChain (spec_of c.args.self.now) c.args.name.id.0) (λ ty. IsTypedChain (spec_of c.args.self.now) c.args.name.id.0 ty) _ (λ x e. c.in_default.not-Some x (c.chain.ensures ∙ e)) (c.requires.scope.types.chain c.args.name.id.0) chain
    go (inr has) = lacks (Has (spec_of c.args.self.now) (symbol_in c.args.self.now.own.0 c.args.place) c.args.name.id.0)
        (λ ty. HasType (spec_of c.args.self.now) (symbol_in c.args.self.now.own.0 c.args.place) c.args.name.id.0 ty) _ (ap (λ s. attribute_type c.args.self.now.types.now s c.args.name.id.0) (sym c.symbol_at.ensures) ∙ sym c.attribute.ensures ∙ c.in-None.is)
        (c.requires.scope.types.attribute (symbol_in c.args.self.now.own.0 c.args.place) c.args.name.id.0) has
