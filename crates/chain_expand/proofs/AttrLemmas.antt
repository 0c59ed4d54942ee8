-- The attributes of a symbol in a chain.
use Rattle.std.proofs.Common.{◌≡◌, ℕ, Bool, true, false, if◌then◌else◌, List, [], ◌∷◌, ◌++◌, ◌∙◌, ap, sym, append_assoc}
use Rattle.lido_base.specs.declared.kinds.Kind.TheVariants as kind
use Rattle.lido_syntax.specs.declared.spec.Typed1.{Typed1}
use Rattle.least_paths.specs.Graph.{is_in}
use Rattle.rule_tables.specs.declared.extra.ExtraAttr.{ExtraAttr}
use Rattle.rule_tables.specs.declared.extra.Slot.TheVariants as named
use Rattle.chain_expand.specs.Attrs.{needs_at, chain_attrs}

-- what it has in front and behind
abbrev pub front_attr : ℕ → ℕ × Typed1 → ExtraAttr
front_attr x d = record { sym = record { 0 = x }; slot = named.Front d.0; kind = kind.Inherited; ty = d.1.ty }

abbrev pub behind_attr : ℕ → ℕ × Typed1 → ExtraAttr
behind_attr x d = record { sym = record { 0 = x }; slot = named.Behind d.0; kind = kind.Synthesized; ty = d.1.ty }

abbrev pub two : ℕ → ℕ × Typed1 → List ExtraAttr
two x d = front_attr x d ∷ behind_attr x d ∷ []

pub chain-then : (needs : List (List Bool)) (x : ℕ) (d : ℕ × Typed1) → is_in (needs_at needs d.0) x ≡ true → two x d ≡ chain_attrs needs x d
chain-then needs x d e = sym (ap (λ (b : Bool). if b then two x d else []) e)

pub chain-else : (needs : List (List Bool)) (x : ℕ) (d : ℕ × Typed1) → is_in (needs_at needs d.0) x ≡ false → [] ≡ chain_attrs needs x d
chain-else needs x d e = sym (ap (λ (b : Bool). if b then two x d else []) e)

pub two-pushed : (front behind : ExtraAttr) (old one both : List ExtraAttr) → one ≡ old ++ front ∷ [] → both ≡ one ++ behind ∷ [] → both ≡ old ++ (front ∷ behind ∷ [])
two-pushed front behind old one both before after = after ∙ ap (λ (l : List ExtraAttr). l ++ behind ∷ []) before ∙ append_assoc old (front ∷ []) (behind ∷ [])
