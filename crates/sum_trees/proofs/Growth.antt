-- The nodes so far are those of the end, but for children to come.
use Rattle.std.proofs.Common.{◌≡◌, ◌≢◌, ◌⊎◌, ℕ, ◌<◌, List, [], ◌∷◌, ◌++◌, length, Some, refl, ap, sym, ◌∙◌, arith, append_assoc, subst, inl, inr, ⊎_elim, slice_get, zero, suc, append-nil}
use Rattle.std.proofs.lemmas.List.{get_or_append_left, get_or_push, length_push}
use Rattle.sum_trees.specs.declared.form.TreeNode.{TreeNode}
use Rattle.sum_trees.specs.declared.form.Child.{Child}
use Rattle.sum_trees.specs.Trees.{node_at, child_of}
use Rattle.sum_trees.specs.Steps.{Frame, Later, Grows}

-- the node p got one child more
pub record Gave (p : ℕ) (x : Child) (old new : List TreeNode) : Type 0 where
  pub there : p < length old
  pub same_len : length new ≡ length old
  pub node : node_at new p ≡ record (node_at old p) { children = (node_at old p).children ++ (x ∷ []) }
  pub others : (n : ℕ) → n ≢ p → node_at new n ≡ node_at old n

get_seam : (xs ys : List Child) (x : Child) → slice_get (xs ++ (x ∷ ys)) (length xs) ≡ Some x
get_seam [] ys x = refl
get_seam (y ∷ xs) ys x = get_seam xs ys x

get_seam_back : (xs ys : List Child) (x : Child) → slice_get (xs ++ ys) (length xs) ≡ Some x → (zs : List Child) × (ys ≡ x ∷ zs)
get_seam_back [] [] x e = absurd (cc)
get_seam_back [] (y ∷ ys) x e = (ys, let same : y ≡ x = cc in ap (λ (z : Child). z ∷ ys) same)
get_seam_back (y ∷ xs) ys x e = get_seam_back xs ys x e

pub same_or_not : (m n : ℕ) → (m ≡ n) ⊎ (m ≢ n)
same_or_not zero zero = inl refl
same_or_not zero (suc n) = inr (λ e. omega (arith, e))
same_or_not (suc m) zero = inr (λ e. omega (arith, e))
same_or_not (suc m) (suc n) = ⊎_elim (λ e. inl (ap suc e)) (λ ne. inr (λ e. ne (omega (arith, e)))) (same_or_not m n)

later_refl : (a : TreeNode) → Later a a
later_refl a = record { rule = refl; parent = refl; place = refl; more = []; children = sym (append-nil a.children) }

-- what has one child more is later than what it was
pub later_on : (p : ℕ) (x : Child) (old new final : List TreeNode) → Gave p x old new → Later (node_at new p) (node_at final p) → Later (node_at old p) (node_at final p)
later_on p x old new final gave later = record {
  rule = later.rule ∙ ap (λ (a : TreeNode). a.rule) gave.node;
  parent = later.parent ∙ ap (λ (a : TreeNode). a.parent) gave.node;
  place = later.place ∙ ap (λ (a : TreeNode). a.place) gave.node;
  more = x ∷ later.more;
  children = later.children ∙ ap (λ (a : TreeNode). a.children ++ later.more) gave.node ∙ append_assoc (node_at old p).children (x ∷ []) later.more;
}

-- and the child is there in the end
pub child_later : (p : ℕ) (x : Child) (old new final : List TreeNode) → Gave p x old new → Later (node_at new p) (node_at final p)
    → child_of final p (length (node_at old p).children) ≡ Some x
unfolding later_on
child_later p x old new final gave later =
    let from = later_on p x old new final gave later in
    ap (λ (l : List Child). slice_get l (length (node_at old p).children)) from.children ∙ get_seam (node_at old p).children later.more x

pub later_back : (p : ℕ) (x : Child) (old new final : List TreeNode) → Gave p x old new → Later (node_at old p) (node_at final p)
    → child_of final p (length (node_at old p).children) ≡ Some x → Later (node_at new p) (node_at final p)
later_back p x old new final gave later child =
    let rest = get_seam_back (node_at old p).children later.more x (ap (λ (l : List Child). slice_get l (length (node_at old p).children)) (sym later.children) ∙ child) in
    record {
      rule = later.rule ∙ sym (ap (λ (a : TreeNode). a.rule) gave.node);
      parent = later.parent ∙ sym (ap (λ (a : TreeNode). a.parent) gave.node);
      place = later.place ∙ sym (ap (λ (a : TreeNode). a.place) gave.node);
      more = rest.0;
      children = later.children ∙ ap (λ (l : List Child). (node_at old p).children ++ l) rest.1 ∙ sym (append_assoc (node_at old p).children (x ∷ []) rest.0)
          ∙ sym (ap (λ (a : TreeNode). a.children ++ rest.0) gave.node);
    }

pub gave_on : (p : ℕ) (x : Child) (f g : Frame) (fs : List Frame) (old new final : List TreeNode) → f.at ≡ p → g.at ≡ p → Gave p x old new
    → Grows (g ∷ fs) new final → Grows (f ∷ fs) old final
gave_on p x f g fs old new final fp gp gave grows = record {
  longer = omega (arith, gave.same_len, grows.longer);
  each = λ n less. let within : n < length new = omega (arith, gave.same_len) in ⊎_elim
      (λ e. subst (λ (k : ℕ). Later (node_at old k) (node_at final k)) (sym e) (later_on p x old new final gave (grows.each p (omega (arith, e, gave.same_len)))))
      (λ ne. subst (λ (a : TreeNode). Later a (node_at final n)) (gave.others n ne) (grows.each n within))
      (same_or_not n p);
  closed = λ n less closed. let within : n < length new = omega (arith, gave.same_len) in let ne : n ≢ p = λ e. closed.0 (e ∙ sym fp) in
      grows.closed n within ((λ e. ne (e ∙ gp)), closed.1) ∙ ap (λ (a : TreeNode). a.children) (gave.others n ne);
}

pub gave_back : (p : ℕ) (x : Child) (f g : Frame) (fs : List Frame) (old new final : List TreeNode) → f.at ≡ p → g.at ≡ p → Gave p x old new
    → child_of final p (length (node_at old p).children) ≡ Some x
    → Grows (f ∷ fs) old final → Grows (g ∷ fs) new final
gave_back p x f g fs old new final fp gp gave child grows = record {
  longer = omega (arith, gave.same_len, grows.longer);
  each = λ n less. let within : n < length old = omega (arith, gave.same_len) in ⊎_elim
      (λ e. subst (λ (k : ℕ). Later (node_at new k) (node_at final k)) (sym e) (later_back p x old new final gave (grows.each p (omega (arith, e, gave.there))) child))
      (λ ne. subst (λ (a : TreeNode). Later a (node_at final n)) (sym (gave.others n ne)) (grows.each n within))
      (same_or_not n p);
  closed = λ n less closed. let within : n < length old = omega (arith, gave.same_len) in let ne : n ≢ p = λ e. closed.0 (e ∙ sym gp) in
      grows.closed n within ((λ e. ne (e ∙ fp)), closed.1) ∙ sym (ap (λ (a : TreeNode). a.children) (gave.others n ne));
}

-- a node more, which is open
pub more_on : (g : Frame) (fs : List Frame) (old : List TreeNode) (a : TreeNode) (final : List TreeNode) → g.at ≡ length old
    → Grows (g ∷ fs) (old ++ (a ∷ [])) final → Grows fs old final
more_on g fs old a final at grows = record {
  longer = omega (arith, grows.longer, length_push old a);
  each = λ n less. let within : n < length (old ++ (a ∷ [])) = omega (arith, length_push old a) in
      subst (λ (b : TreeNode). Later b (node_at final n)) (get_or_append_left old (a ∷ []) _ n less) (grows.each n within);
  closed = λ n less closed. let within : n < length (old ++ (a ∷ [])) = omega (arith, length_push old a) in
      grows.closed n within ((λ e. omega (arith, e, at)), closed) ∙ ap (λ (b : TreeNode). b.children) (get_or_append_left old (a ∷ []) _ n less);
}

pub more_back : (g : Frame) (fs : List Frame) (old : List TreeNode) (a : TreeNode) (final : List TreeNode) → g.at ≡ length old
    → a.children ≡ [] → length old < length final
    → (node_at final (length old)).rule ≡ a.rule → (node_at final (length old)).parent ≡ a.parent → (node_at final (length old)).place ≡ a.place
    → Grows fs old final → Grows (g ∷ fs) (old ++ (a ∷ [])) final
more_back g fs old a final at empty there rule parent place grows =
    let is : node_at (old ++ (a ∷ [])) (length old) ≡ a = get_or_push old a _ (length old) refl in
    let new : Later a (node_at final (length old)) = record { rule = rule; parent = parent; place = place; more = (node_at final (length old)).children; children = ap (λ (l : List Child). l ++ (node_at final (length old)).children) (sym empty) } in
    record {
      longer = omega (arith, there, length_push old a);
      each = λ n less. ⊎_elim
          (λ e. subst (λ (k : ℕ). Later (node_at (old ++ (a ∷ [])) k) (node_at final k)) (sym e) (subst (λ (b : TreeNode). Later b (node_at final (length old))) (sym is) new))
          (λ ne. let within : n < length old = omega (arith, ne, length_push old a) in
          subst (λ (b : TreeNode). Later b (node_at final n)) (sym (get_or_append_left old (a ∷ []) _ n within)) (grows.each n within))
          (same_or_not n (length old));
      closed = λ n less closed. let ne : n ≢ length old = λ e. closed.0 (e ∙ sym at) in let within : n < length old = omega (arith, ne, length_push old a) in
          grows.closed n within closed.1 ∙ sym (ap (λ (b : TreeNode). b.children) (get_or_append_left old (a ∷ []) _ n within));
    }
