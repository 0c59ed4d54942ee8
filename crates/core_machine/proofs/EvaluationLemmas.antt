-- What an evaluation by code gives is the outcome of the computation.
use Rattle.std.specs.Prelude.{slice_get, unwrap_or, Contains}
use Rattle.std.proofs.Common.{◌≡◌, ◌<◌, ℕ, zero, suc, List, [], ◌∷◌, map, length, Option, Some, refl, ap, ◌∙◌, get_or}
use Rattle.lido_base.specs.declared.value.Value.{Value}
use Rattle.lido_base.specs.declared.value.Value.TheVariants as value
use Rattle.lido_base.specs.declared.pattern.Pattern.{Pattern}
use Rattle.lido_base.proofs.Lists.{contains-map}
use Rattle.string_librarian.specs.Rooms.{Deposit}
use Rattle.flat_grammar.specs.declared.flat.Occ.{Occ}
use Rattle.flat_grammar.specs.declared.flat.FlatAttr.{FlatAttr}
use Rattle.flat_grammar.specs.declared.flat.FlatRule.{FlatRule}
use Rattle.flat_grammar.specs.declared.flat.FlatComp.{FlatComp}
use Rattle.flat_grammar.specs.WellFormed.{attribute_of}
use Rattle.flat_grammar.specs.WholeOrder.{Instance, node_at}
use Rattle.core_machine.specs.Core.{Task, outcome}
use Rattle.core_machine.specs.Evaluation.{evaluate, kept_value}

-- the value at a place, or else another one
pub value-at : {A : Type 0} (xs : List A) (k : ℕ) (d : A) → get_or xs k d ≡ unwrap_or (slice_get xs k) d
value-at [] k d = refl
value-at (x ∷ xs) zero d = refl
value-at (x ∷ xs) (suc k) d = value-at xs k d

-- the number at a place, or else 0
pub number-at : (xs : List ℕ) (k : ℕ) → get_or xs k 0 ≡ unwrap_or (slice_get xs k) 0
number-at xs k = value-at xs k 0

module _ (j : Task) (number n origin written : ℕ) (values : Instance → Option Value) (room : List Deposit) (r : FlatRule) (c : FlatComp)
    (texts : List (List ℕ)) (patterns : List Pattern) (a : Value × List Deposit) (attr : Option FlatAttr) (v : Value) where
  pub outcome-is : texts ≡ j.texts → patterns ≡ j.patterns → origin ≡ node_at j.flat n c.origin → written ≡ unwrap_or (slice_get j.node_of origin) 0
      → a ≡ evaluate texts patterns number j.flat written origin n (λ i. unwrap_or (values i) value.Void) c.value room
      → attr ≡ attribute_of j.symbols r c.goal → v ≡ kept_value attr a.0 → (v, a.1) ≡ outcome j number values room (Some (n, r, c))
  outcome-is same_texts same_patterns at node is kept gives =
      let full = is ∙ (λ x. evaluate (same_texts x) (same_patterns x) number j.flat ((node ∙ ap (λ o. unwrap_or (slice_get j.node_of o) 0) at) x) (at x) n (λ i. unwrap_or (values i) value.Void) c.value room) in
      λ x. ((gives ∙ (λ y. kept_value (kept y) (full y).0)) x, (full x).1)

-- a goal that no computation has
pub goal-absent : (comps : List FlatComp) (goal : Occ) → ((k : ℕ) (d : FlatComp) → k < length comps → (get_or comps k d).goal ≡ goal → ⊥) → Contains (map (λ (c : FlatComp). c.goal) comps) goal → ⊥
goal-absent comps goal none m = let p = contains-map (λ (c : FlatComp). c.goal) comps goal m in go p.0 p.1 p.2
  where
    go : (c : FlatComp) → Contains comps c → c.goal ≡ goal → ⊥
    go c (k, h, e) f = none k c h (ap (λ (x : FlatComp). x.goal) e ∙ f)
