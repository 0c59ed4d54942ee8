-- What a specification means for a tree: an attribution, a solution of all its attribute equations (the consistent attribution of an attribute grammar).
use Rattle.std.specs.Prelude.{◌≡◌, ℕ, ◌↔◌, Some, IsSome}
use Rattle.lido_base.specs.declared.value.ValueType.{ValueType}
use Rattle.lido_base.specs.Plain.{Plain}
use Rattle.lido_base.specs.Operations.{kept}
use Rattle.lido_base.specs.Tree.{Tree}
use Rattle.lido_syntax.specs.declared.spec.Spec.{Spec}
use Rattle.lido_syntax.specs.declared.spec.Comp.{Comp}
use Rattle.lido_syntax.specs.Symbols.{IsChain, IsTypedChain}
use Rattle.lido_syntax.specs.Assignment.{Assignment, Slot, Attribute, Front, Behind}
use Rattle.lido_syntax.specs.Attributes.{Has, HasType}
use Rattle.lido_syntax.specs.Computation.{Holder}
use Rattle.lido_base.specs.Environment.{Environment}
use Rattle.lido_syntax.specs.Nodes.{HasSymbol, IsUnder, Computes}
use Rattle.lido_syntax.specs.Sets.{Sets}
use Rattle.lido_syntax.specs.Chains.{IsComputed, IsThreaded}

module _ (spec : Spec) (sets : Sets spec) (env : Environment) (t : Tree Plain) where
  -- the node has the chain's values: it is under a start of it
  abbrev pub IsThreadedNode : ℕ → ℕ → Type 0
  IsThreadedNode n c = IsChain spec c × IsUnder spec t c n

  -- what is to have a value: each attribute of each node's symbol, and front and behind of a chain at each node under a start
  abbrev pub IsInstance : ℕ → Slot → Type 0
  IsInstance n (Attribute a) = (s : ℕ) × HasSymbol spec t n s × Has spec s a
  IsInstance n (Front c) = IsThreadedNode n c
  IsInstance n (Behind c) = IsThreadedNode n c

  -- Exactly the instances have values: an attribute that of its computation in force, of which a VOID one keeps a Bad alone, and the chains are threaded.
  -- In a complete specification each attribute has a computation in force.
  pub record IsAttribution (A : Assignment) : Type 0 where
    pub domain : (n : ℕ) (slot : Slot) → IsSome (A n slot) ↔ IsInstance n slot
    pub values : (n a s context : ℕ) (ty : ValueType) (h : Holder) (c : Comp) → HasSymbol spec t n s → Has spec s a → HasType spec s a ty → Computes spec t n a context h c
        → (v : Plain) × IsComputed spec sets env t A context h c v × (A n (Attribute a) ≡ Some (kept ty v))
    pub chains : (c : ℕ) (ty : ValueType) → IsTypedChain spec c ty → IsThreaded spec sets env t A c ty

  -- there is one attribution and no other
  abbrev pub HasOneAttribution : Type 0
  HasOneAttribution = (A : Assignment) × IsAttribution A × ((B : Assignment) → IsAttribution B → B ≡ A)
