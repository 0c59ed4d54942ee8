-- Where no rule has a cycle, each attribute is in some class.
use Rattle.std.specs.Prelude.{Contains, slice_get, All, IsSome, ◌*◌}
use Rattle.std.proofs.Common.{◌≡◌, ℕ, zero, suc, ◌+◌, ◌<◌, ◌≤◌, ◌⊎◌, inl, inr, List, [], ◌∷◌, take, length, Option, Some, None, refl, sym, subst, arith}
use Rattle.std.specs.List.{slice_index_or}
use Rattle.std.proofs.lemmas.Option.{slice_get-get_or}
use Rattle.lido_base.specs.declared.ids.SymId.{SymId}
use Rattle.lido_base.specs.declared.ids.AttrId.{AttrId}
use Rattle.lido_base.specs.declared.kinds.Kind.{Kind}
use Rattle.lido_base.specs.declared.kinds.Kind.TheVariants.{Synthesized, Inherited}
use Rattle.flat_grammar.specs.declared.flat.Occ.{Occ}
use Rattle.flat_grammar.specs.declared.flat.FlatSymbol.{FlatSymbol}
use Rattle.flat_grammar.specs.declared.flat.FlatAttr.{FlatAttr}
use Rattle.flat_grammar.specs.declared.flat.FlatRule.{FlatRule}
use Rattle.flat_grammar.specs.Rules.{symbol_at, attribute_at}
use Rattle.flat_grammar.specs.WellFormed.{IsRule}
use Rattle.flat_grammar.specs.Dependencies.{IDS, joined}
use Rattle.flat_grammar.specs.Partition.{IsPeeled, HasKind, kind_of_class}
use Rattle.flat_grammar.specs.Cycles.{IsAcyclic, IsOrderedGrammar}
use Rattle.flat_grammar.proofs.Lists.{contains-first, contains-cons, contains-nil, slice_get-contains}
use Rattle.flat_grammar.proofs.PartitionLemmas.{IsPeeled-grows}
use Rattle.partitions.specs.Peeling.{IsLast}
use Rattle.partitions.specs.Symbols.{IsAllPeeled, HasLast}
use Rattle.partitions.specs.RuleGraph.{IsExtended, IsRanked}
use Rattle.flat_grammar.proofs.PeelingLemmas.{even-kind, odd-kind}
use Rattle.partitions.proofs.PeelingLemmas.{below-length}
use Rattle.partitions.proofs.SearchLemmas.{take-get}
use Rattle.partitions.proofs.ExtendedLemmas.{induced-some}
use Rattle.partitions.proofs.StepsLemmas.{ranked-acyclic}

module _ (symbols : List FlatSymbol) (rules : List FlatRule) (each_rule : All (IsRule symbols) rules) (x : SymId) (has_last : HasLast symbols rules x) where
  -- an attribute whose successors are all in some class is so too
  after-successors : (n : ℕ) → IsLast symbols rules x n → (a : AttrId) → IsSome (attribute_at symbols x a) → ((b : AttrId) → IDS rules x a b → IsPeeled symbols rules x n b) → IsPeeled symbols rules x n a
  after-successors n last a some successors = go (attribute_at symbols x a) refl some
    where
      closed : (kind : Kind) (k : ℕ) → n ≤ k → kind_of_class k ≡ kind → HasKind symbols x kind a → IsPeeled symbols rules x n a
      closed kind k above e has = last (suc k) a (inr (
        a ∷ [],
        contains-first a [],
        λ b m. elim (contains-cons a b [] m) [
          | inl same ↦ subst (λ (c : AttrId). HasKind symbols x (kind_of_class k) c × ((d : AttrId) → IDS rules x c d → IsPeeled symbols rules x k d ⊎ Contains (a ∷ []) d)) same
              (subst (λ z. HasKind symbols x z a) (sym e) has, λ d p. inl (IsPeeled-grows symbols rules x k n d above (successors d p)))
          | inr none ↦ absurd (contains-nil b none)
        ],
      ))

      by : (kind : Kind) → HasKind symbols x kind a → IsPeeled symbols rules x n a
      by Synthesized has = closed Synthesized (2 * n) (omega arith) (even-kind n) has
      by Inherited has = closed Inherited (suc (2 * n)) (omega arith) (odd-kind n) has

      go : (o : Option FlatAttr) → attribute_at symbols x a ≡ o → IsSome o → IsPeeled symbols rules x n a
      go None e h = absurd (cc)
      go (Some attr) e h = by attr.kind (attr, e, refl)

  -- at an occurrence in a rule without a cycle, by the distance from the last vertex
  by-rank : (n : ℕ) → IsLast symbols rules x n → (r : FlatRule) → IsRanked symbols rules r → (k : ℕ) → symbol_at r k ≡ Some x → (d : ℕ) → (rank : Occ → ℕ) (bound : ℕ) → ((o p : Occ) → IsExtended symbols rules r o p → (rank o < rank p) × (rank p < bound))
      → (a : AttrId) → IsSome (attribute_at symbols x a) → bound ≤ rank (record { occ = k; attr = a }) + d → IsPeeled symbols rules x n a
  by-rank n last r ranked k at zero rank bound rises a some far = after-successors n last a some (λ b p. let h = rises (record { occ = k; attr = a }) (record { occ = k; attr = b }) (inr (refl, x, at, inl p)) in
      absurd (let l = h.0 in let m = h.1 in omega arith))
  by-rank n last r ranked k at (suc d) rank bound rises a some far = after-successors n last a some (λ b p. let h = rises (record { occ = k; attr = a }) (record { occ = k; attr = b }) (inr (refl, x, at, inl p)) in
      by-rank n last r ranked k at d rank bound rises b (induced-some symbols rules x a b each_rule p).1 (let l = h.0 in omega arith))

  successor-peeled : (n : ℕ) → IsLast symbols rules x n → ((r : FlatRule) → Contains rules r → IsRanked symbols rules r) → (a b : AttrId) → IsSome (attribute_at symbols x b) → IDS rules x a b → IsPeeled symbols rules x n b
  successor-peeled n last ranked a b some (joined {r} {u} {v} among path same at) =
      let rank = ranked r among in by-rank n last r rank u.occ at rank.1 rank.0 rank.1 rank.2 b some (omega arith)

  pub all-peeled : ((r : FlatRule) → Contains rules r → IsRanked symbols rules r) → IsAllPeeled symbols rules x
  all-peeled ranked a some = (has_last.0, after-successors has_last.0 has_last.1 a some (λ b p. successor-peeled has_last.0 has_last.1 ranked a b (induced-some symbols rules x a b each_rule p).1 p))

module _ (symbols : List FlatSymbol) (rules : List FlatRule) where
  -- the rules before a place have no cycle
  pub front-acyclic : (i : ℕ) → ((j : ℕ) (r : FlatRule) → j < i → slice_get rules j ≡ Some r → IsRanked symbols rules r) → All (IsAcyclic symbols rules) (take i rules)
  front-acyclic i ranked k d l =
      let at = take-get rules i k (slice_index_or (take i rules) k d) (slice_get-get_or (take i rules) k d l) in
      ranked-acyclic symbols rules (slice_index_or (take i rules) k d) (ranked k (slice_index_or (take i rules) k d) at.0 at.1)

  pub all-acyclic : (i : ℕ) → length rules ≤ i → ((j : ℕ) (r : FlatRule) → j < i → slice_get rules j ≡ Some r → IsRanked symbols rules r) → IsOrderedGrammar symbols rules
  all-acyclic i all ranked k d l = ranked-acyclic symbols rules (slice_index_or rules k d) (ranked k (slice_index_or rules k d) (omega arith) (slice_get-get_or rules k d l))

  pub each-ranked : (i : ℕ) → length rules ≤ i → ((j : ℕ) (r : FlatRule) → j < i → slice_get rules j ≡ Some r → IsRanked symbols rules r) → (r : FlatRule) → Contains rules r → IsRanked symbols rules r
  each-ranked i all ranked r m = let h = slice_get-contains rules r m in ranked h.0 r (let l = below-length rules h.0 r h.1 in omega arith) h.1
