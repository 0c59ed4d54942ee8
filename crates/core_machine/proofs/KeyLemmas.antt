-- The key of an attribute of a split node tells the node and the attribute.
use Rattle.std.specs.Prelude.{slice_get, option_map, IsTrue, nat_eq, All}
use Rattle.std.proofs.Common.{◌≡◌, ℕ, suc, ◌+◌, ◌-◌, ◌*◌, ◌/◌, ◌%◌, ◌<◌, ◌≤◌, List, [], ◌∷◌, length, Bool, true, false, Option, Some, None, refl, arith, ap, sym, ◌∙◌, eqb-true}
use Rattle.std.proofs.Math.Nat.{le-max_right}
use Rattle.std.proofs.lemmas.Nat.{div-mul-add, mod-mul-add}
use Rattle.std.proofs.lemmas.List.Elements.{All-contains}
use Rattle.lido_base.specs.declared.ids.SymId.{SymId}
use Rattle.lido_base.specs.Tree.{contains}
use Rattle.tree_store.specs.Regions.{place_from, number_among}
use Rattle.flat_grammar.specs.declared.flat.FlatSymbol.{FlatSymbol}
use Rattle.flat_grammar.specs.declared.flat.FlatAttr.{FlatAttr}
use Rattle.flat_grammar.specs.Rules.{attrs_of}
use Rattle.flat_grammar.specs.WholeOrder.{Instance}
use Rattle.flat_grammar.proofs.Lists.{held, contains-slice_get}
use Rattle.core_machine.specs.Core.{Task, IsTask}
use Rattle.core_machine.specs.Keys.{key_of, key_count, shared_at, IsShared}

-- where a split node stands among the others
pub record Placed (k : ℕ) (nodes : List ℕ) (n : ℕ) : Type 0 where
  pub index : ℕ
  pub number : place_from k nodes n ≡ k + index
  pub inside : index < length nodes
  pub there : slice_get nodes index ≡ Some n

pub place : (k : ℕ) (nodes : List ℕ) (n : ℕ) → IsTrue (contains n nodes) → Placed k nodes n
place k [] n h = cc
place k (m ∷ nodes) n h = go (nat_eq n m) refl (place (suc k) nodes n)
  where
    go : (b : Bool) → nat_eq n m ≡ b → (IsTrue (contains n nodes) → Placed (suc k) nodes n) → Placed k (m ∷ nodes) n
    go true e later = record { index = 0; number = rw e (omega arith); inside = omega arith; there = ap Some (sym (eqb-true n m e)) }
    go false e later = let h2 : IsTrue (contains n nodes) = rw e at h in let p = later h2 in
        record { index = suc p.index; number = rw e (let q = p.number in omega arith); inside = let q = p.inside in omega arith; there = p.there }

attrs-few : (symbols : List FlatSymbol) → All (λ (x : FlatSymbol). length x.attrs ≤ 256) symbols → (s : SymId) → length (attrs_of symbols s) ≤ 256
attrs-few symbols few s = go (slice_get symbols s.0) refl
  where
    go : (o : Option FlatSymbol) → slice_get symbols s.0 ≡ o → length {A = FlatAttr} (elim o [ None ↦ [] | Some x ↦ x.attrs ]) ≤ 256
    go None e = omega arith
    go (Some x) e = All-contains (λ (y : FlatSymbol). length y.attrs ≤ 256) symbols x few (contains-slice_get symbols s.0 x e)

module _ (j : Task) (task : IsTask j) where
  attribute-few : (i : Instance) → IsShared j i → i.1 < 256
  attribute-few i (node, (r, at, inside)) = let f = attrs-few j.symbols task.formed.few_attributes r.left in omega (arith, f, inside)

  -- its key, by the split node's place among the others
  key-is : (i : Instance) (h : IsShared j i) → key_of j i ≡ (place 1 j.nodes i.0 h.0).index * 256 + i.1
  key-is i h = let p = place 1 j.nodes i.0 h.0 in let e : number_among j.nodes i.0 - 1 ≡ p.index = let n = p.number in omega (arith, n) in
      ap (λ z. z * 256 + i.1) e

  pub counted : (i : Instance) → IsShared j i → key_of j i < key_count j
  counted i h = let p = place 1 j.nodes i.0 h.0 in let a = attribute-few i h in let s = p.inside in let k = key-is i h in
      let m = le-max_right 1 (256 * length j.nodes) in omega (arith, a, s, k, m)

  pub named : (i : Instance) → IsShared j i → shared_at j (key_of j i) ≡ Some i
  named i h = let p = place 1 j.nodes i.0 h.0 in let a = attribute-few i h in
      let d : key_of j i / 256 ≡ p.index = ap (λ z. z / 256) (key-is i h) ∙ div-mul-add p.index 256 i.1 a in
      let m : key_of j i % 256 ≡ i.1 = ap (λ z. z % 256) (key-is i h) ∙ mod-mul-add p.index 256 i.1 a in
      ap (λ z. option_map (λ n. (n, key_of j i % 256)) (slice_get j.nodes z)) d
      ∙ ap (λ o. option_map (λ n. (n, key_of j i % 256)) o) p.there
      ∙ ap (λ z. Some (i.0, z)) m

  pub differ : (i k : Instance) → IsShared j i → IsShared j k → key_of j i ≡ key_of j k → i ≡ k
  differ i k h g e = held (sym (named i h) ∙ ap (shared_at j) e ∙ named k g)
