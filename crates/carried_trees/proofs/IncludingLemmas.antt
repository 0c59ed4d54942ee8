-- INCLUDING is handed down: what is carried meets its equations.
use Rattle.std.specs.Prelude.{IsTrue, slice_get, option_map, option_and_then, unwrap_or}
use Rattle.std.proofs.Common.{◌≡◌, ℕ, suc, ◌≤◌, inl, inr, List, ◌∷◌, length, Option, Some, None, refl, sym, ap, subst, ◌∙◌, arith}
use Rattle.std.proofs.lemmas.Option.{none-some, same_Some, slice_get_within}
use Rattle.lido_base.specs.Plain.{Plain, Void}
use Rattle.lido_base.specs.Tree.{ancestors}
use Rattle.lido_base.proofs.Lists.{place-contains}
use Rattle.lido_syntax.specs.declared.spec.Pair.{Pair}
use Rattle.lido_syntax.specs.declared.spec.RuleItem.{RuleItem}
use Rattle.lido_syntax.specs.Production.{left_of}
use Rattle.lido_syntax.specs.Including.{listed}
use Rattle.lido_syntax.specs.Including as including
use Rattle.lido_syntax.specs.Assignment.{Assignment}
use Rattle.flat_grammar.specs.FlatAttribution.{value_of}
use Rattle.flat_grammar.specs.WholeOrder.{Instance, node_at}
use Rattle.tree_flattener.specs.Roles.{HasRole}
use Rattle.lido_symbols.specs.Numbers.{place_in}
use Rattle.rule_tables.specs.PlainRules.{PlainRule}
use Rattle.rule_tables.specs.Forced.{Force}
use Rattle.rule_tables.specs.Needs.{listed_at}
use Rattle.rule_tables.specs.Slots.{Slot, Written, Inc, is_same_slot, HasSlot}
use Rattle.rule_tables.specs.Shares.{Term, Read, IncludingShare, handed_down, including_term}
use Rattle.rule_tables.specs.Copies.{slot_number, given}
use Rattle.flat_laws.proofs.SymbolLemmas.{left-number}
use Rattle.flat_laws.proofs.RuleLemmas.{IsRuled, ruled-at}
use Rattle.flat_laws.proofs.TermLemmas.{IsTermThere, read}
use Rattle.flat_laws.proofs.ShareLemmas.{including-share}
use Rattle.carried_trees.specs.Flattening.{Flattening, IsFlattening, Trees, AreTrees}
use Rattle.carried_trees.specs.Carry as carry
use Rattle.carried_trees.specs.Holds.{IsRuleAt, Holds}
use Rattle.carried_trees.proofs.BelowLemmas.{IsBelow, node, cell}
use Rattle.carried_trees.proofs.NearestLemmas.{found, found-self, found-child}
use Rattle.carried_trees.proofs.NodeLemmas.{IsPlain, IsWritten, plain-ruled, written-at, cell-at, child-at, carried-at, carried-node, carried-cell, role-of, below-of}

module _ (f : Flattening) (is : IsFlattening f) (x : Trees) (are : AreTrees f x) (A : Assignment) (i : ℕ) (pairs : List Pair) (is_set : slice_get f.tables.includings i ≡ Some pairs) where
  abbrev found_from : List ℕ → Plain
  found_from = found f.spec f.tables.sets x.written A pairs

  -- what written node w hands down
  abbrev handed_from : ℕ → Plain
  handed_from w = found_from (w ∷ ancestors x.written w)

  abbrev carried : ℕ → Slot → Plain
  carried = carry.carried f x A

  abbrev IsAt : ℕ → PlainRule → Type 0
  IsAt = IsPlain f is x are

  at-set : (nodes : List ℕ) → carry.value_of_nearest f x A nodes (slice_get f.tables.includings i) ≡ found_from nodes
  at-set nodes = ap (carry.value_of_nearest f x A nodes) is_set

  -- the attribute of a flat node below w is what w hands down
  child-sees : (w c : ℕ) (p : PlainRule) → IsAt c p → IsBelow f.rules f.shapes x.written x.flat x.node_of w c → carried c (Inc i) ≡ handed_from w
  child-sees w c p o (node v stands parent) =
      carried-node f is x are A c v p o stands (Inc i) ∙ at-set (ancestors x.written v) ∙ found-child f.spec f.tables.sets x.written A pairs are.fits.tree w v parent
  child-sees w c p o (cell of) = carried-cell f is x are A c w p o of (Inc i) ∙ at-set (w ∷ ancestors x.written w)

  module _ (n : ℕ) (r : RuleItem) (p : PlainRule) (fs : List Force) (at : IsRuleAt f x n r p fs) (j y : ℕ) (right : slice_get p.right j ≡ Some y) (need : IsTrue (f.needs.including pairs y)) where
    o : IsAt n p
    o = plain-ruled f is x are n r p fs at

    of : IsRuled f.spec f.env f.tables is.tables at.number p fs
    of = ruled-at f.spec f.env f.tables is.tables at.number p fs at.rule

    abbrev IsIts : Term → Type 0
    IsIts = IsTermThere f.spec f.early f.env f.tables is.tables is.accepted f.needs at.number p fs of

    its : IsIts (including_term f.spec f.tables f.needs p fs pairs i)
    its = (including-share f.spec f.early f.env f.tables is.tables is.accepted f.needs at.number p fs of (suc j) (Inc i) (including_term f.spec f.tables f.needs p fs pairs i) (handed_down j y i pairs right is_set need)).1

    -- what is read at the left side is one of its attributes
    own-slot : (s : Slot) → IsIts (Read 0 s) → HasSlot f.spec f.tables f.needs p.left s
    own-slot s (read _ _ there) = subst (λ z. HasSlot f.spec f.tables f.needs z s) (sym (same_Some p.left there.x there.at)) there.has

    abbrev B : Instance → Plain
    B k = unwrap_or (carry.carry f x A k) Void

    abbrev given_by : Term → Plain
    given_by e = value_of f.env x.flat x.node_of B n n (given f.spec f.tables f.needs f.slots f.env r p fs e)

    own-value : (s : Slot) → HasSlot f.spec f.tables f.needs p.left s → given_by (Read 0 s) ≡ carried n s
    own-value s has = ap (λ (v : Option Plain). unwrap_or v Void) (carried-at f is x are A n p o s has)

    abbrev term : Option ℕ → Term
    term l = elim l as (λ _. Term) [ Some a ↦ Read 0 (Written a) | None ↦ Read 0 (Inc i) ]

    -- a node lists what its symbol does
    node-lists : (w : ℕ) → IsWritten f is x are n w p → listed f.spec f.tables.sets pairs (including.symbol_at f.spec f.tables.sets x.written w) ≡ listed_at f.spec f.tables pairs p.left
    node-lists w h =
        ap (listed f.spec f.tables.sets pairs)
        (ap (λ (k : Option ℕ). unwrap_or (option_map left_of (option_and_then {T = ℕ} {U = RuleItem} (slice_get f.spec.rules) k)) 0) h.at ∙ ap (λ (q : Option RuleItem). unwrap_or (option_map left_of q) 0) h.rule)
        ∙ sym (ap (λ (k : Option ℕ). option_and_then {T = ℕ} {U = ℕ} (listed f.spec f.tables.sets pairs) k)
        (ap (λ (q : PlainRule). slice_get f.tables.symbols q.left) h.plain ∙ left-number f.spec f.env f.tables is.tables h.r (place-contains f.spec.rules h.i h.r h.rule)))

    -- and a cell nothing
    cell-lists : (a : ℕ) → length f.tables.symbols ≤ p.left → listed_at f.spec f.tables pairs p.left ≡ Some a → ⊥
    cell-lists a past e = by (slice_get f.tables.symbols p.left) refl e
      where
        by : (s : Option ℕ) → slice_get f.tables.symbols p.left ≡ s → option_and_then (listed f.spec f.tables.sets pairs) s ≡ Some a → ⊥
        by None there e = none-some a e
        by (Some s) there e = let w = slice_get_within f.tables.symbols p.left s there in omega (arith, w, past)

    module _ (w : ℕ) (role : HasRole f.rules f.shapes x.written x.flat x.node_of n w) where
      from-listed : (a : ℕ) → listed_at f.spec f.tables pairs p.left ≡ Some a → HasRole f.rules f.shapes x.written x.flat x.node_of n w → carried n (Written a) ≡ handed_from w
      from-listed a e (inl stands) =
          carried-node f is x are A n w p o stands (Written a) ∙ sym (found-self f.spec f.tables.sets x.written A pairs w (Some a) (node-lists w (written-at f is x are n w p o stands) ∙ e))
      from-listed a e (inr cells) = absurd (cell-lists a (cell-at f is x are n w p o cells).past e)

      from-unlisted : listed_at f.spec f.tables pairs p.left ≡ None → HasRole f.rules f.shapes x.written x.flat x.node_of n w → carried n (Inc i) ≡ handed_from w
      from-unlisted e (inl stands) =
          carried-node f is x are A n w p o stands (Inc i) ∙ at-set (ancestors x.written w)
          ∙ sym (found-self f.spec f.tables.sets x.written A pairs w None (node-lists w (written-at f is x are n w p o stands) ∙ e))
      from-unlisted e (inr cells) = carried-cell f is x are A n w p o cells (Inc i) ∙ at-set (w ∷ ancestors x.written w)

      -- what the left side gives is what its node hands down
      hands-down : given_by (including_term f.spec f.tables f.needs p fs pairs i) ≡ handed_from w
      hands-down = by (listed_at f.spec f.tables pairs p.left) refl its
        where
          by : (l : Option ℕ) → listed_at f.spec f.tables pairs p.left ≡ l → IsIts (term l) → given_by (term l) ≡ handed_from w
          by (Some a) e there = own-value (Written a) (own-slot (Written a) there) ∙ from-listed a e role
          by None e there = own-value (Inc i) (own-slot (Inc i) there) ∙ from-unlisted e role

    holds : Holds f x (carry.carry f x A) n r p fs (suc j) (Inc i) (including_term f.spec f.tables f.needs p fs pairs i)
    holds =
        let (w, role) = role-of f is x are n p o in
        let child = child-at f is x are n p o j y right (Inc i) (pairs, is_set, need) in
        ap (λ (z : Option ℕ). carry.carry f x A (node_at x.flat n (suc j), slot_number f.spec f.tables f.needs f.slots f.env r p fs z (Inc i))) right
        ∙ ap (λ m. carry.carry f x A (m, place_in (is_same_slot (Inc i)) (f.slots y))) child.there
        ∙ ap (λ z. carry.carry f x A (child.c, place_in (is_same_slot (Inc i)) (f.slots z))) (sym child.left)
        ∙ carried-at f is x are A child.c child.p child.plain (Inc i) (pairs, is_set, subst (λ z. IsTrue (f.needs.including pairs z)) (sym child.left) need)
        ∙ ap (λ v. Some v) (child-sees w child.c child.p child.plain (below-of f is x are n w p o role j child.c child.item) ∙ sym (hands-down w role))

pub including-holds : (f : Flattening) → IsFlattening f → (x : Trees) → AreTrees f x → (A : Assignment) → (n : ℕ) (r : RuleItem) (p : PlainRule) (fs : List Force) → IsRuleAt f x n r p fs
    → (k : ℕ) (s : Slot) (e : Term) → IncludingShare f.spec f.tables f.needs p fs k s e → Holds f x (carry.carry f x A) n r p fs k s e
including-holds f is x are A n r p fs at _ _ _ (handed_down j y i pairs right is_set need) = holds f is x are A i pairs is_set n r p fs at j y right need
