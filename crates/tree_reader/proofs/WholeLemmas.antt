-- The phases from the text of a tree to its written tree, one behind the other.
use Rattle.std.specs.Prelude.{ℕ, List, Result}
use Rattle.std.proofs.Common.{◌≡◌, ◌⊎◌, inl, inr, Ok, Err, subst}
use Rattle.lido_base.specs.Phases.{IsThe}
use Rattle.lido_base.specs.Plain.{Plain}
use Rattle.lido_base.specs.Tree.{Tree}
use Rattle.lido_base.specs.declared.ids.SymId.{SymId}
use Rattle.lido_base.proofs.PhasesLemmas.{the_next, the_stop}
use Rattle.flat_grammar.specs.declared.flat.FlatSymbol.{FlatSymbol}
use Rattle.flat_grammar.specs.declared.flat.FlatRule.{FlatRule}
use Rattle.flat_grammar.specs.declared.flat.Shape.{Shape}
use Rattle.tree_store.specs.declared.fault.TreeFault.{TreeFault}
use Rattle.tree_store.specs.declared.fault.TreeFault.TheVariants as fault
use Rattle.tree_reader.specs.declared.part.Part.{Part}
use Rattle.tree_reader.specs.Asking.{asked}
use Rattle.tree_reader.specs.Scanning.{Scanning}
use Rattle.tree_reader.specs.Writing.{IsMeaning}
use Rattle.tree_reader.specs.Whole.{WrittenOf}

module _ (symbols : List FlatSymbol) (rules : List FlatRule) (shapes : List Shape) (root : SymId) (texts : List (List ℕ)) (text : List ℕ) where
  -- what the parts mean, the text means
  pub written_next : (parts seen : List Part) → seen ≡ parts → (r : Result (Tree Plain) TreeFault) → IsThe (Scanning text) (Ok parts) → IsThe (IsMeaning (asked symbols rules shapes root texts) seen) r
      → IsThe (WrittenOf symbols rules shapes root texts text) r
  unfolding WrittenOf
  written_next parts seen same r scanned meant =
      the_next (Scanning text) (λ ps. IsMeaning (asked symbols rules shapes root texts) ps) parts r scanned (subst (λ ps. IsThe (IsMeaning (asked symbols rules shapes root texts) ps) r) same meant)

  -- a text without parts means its fault
  pub written_stop : (e : TreeFault) → (e ≡ fault.Memory) ⊎ IsThe (Scanning text) (Err e) → (e ≡ fault.Memory) ⊎ IsThe (WrittenOf symbols rules shapes root texts text) (Err e)
  unfolding WrittenOf
  written_stop e (inl memory) = inl memory
  written_stop e (inr the) = inr (the_stop (Scanning text) (λ ps. IsMeaning (asked symbols rules shapes root texts) ps) e the)

  -- or what its parts mean
  pub written_fault : (parts seen : List Part) → seen ≡ parts → (e : TreeFault) → IsThe (Scanning text) (Ok parts) → (e ≡ fault.Memory) ⊎ IsThe (IsMeaning (asked symbols rules shapes root texts) seen) (Err e)
      → (e ≡ fault.Memory) ⊎ IsThe (WrittenOf symbols rules shapes root texts text) (Err e)
  written_fault parts seen same e scanned (inl memory) = inl memory
  written_fault parts seen same e scanned (inr meant) = inr (written_next parts seen same (Err e) scanned meant)
