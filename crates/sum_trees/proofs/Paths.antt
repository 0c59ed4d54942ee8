-- Steps of the reading.
use Rattle.std.proofs.Common.{◌≡◌, ℕ, ℤ, ◌+◌, ◌<◌, ◌≤◌, List, [], ◌∷◌, ◌++◌, length, drop, Option, Some, None, refl, ap, sym, ◌∙◌, arith, subst, slice_get, zero, suc, ⊎_elim, append-nil, length-append, get_or}
use Rattle.std.proofs.lemmas.Option.{get_or_from_slice_get, slice_get_read}
use Rattle.std.proofs.lemmas.List.{length_push, drop_all, get_or_push, get_or_append_left}
use Rattle.sum_trees.specs.declared.form.SumRule.{SumRule}
use Rattle.sum_trees.specs.declared.form.Element.{Element}
use Rattle.sum_trees.specs.declared.form.Element.TheVariants as elements
use Rattle.sum_trees.specs.declared.form.TreeNode.{TreeNode}
use Rattle.sum_trees.specs.declared.form.Child.{Child}
use Rattle.sum_trees.specs.declared.form.Child.TheVariants as children
use Rattle.sum_trees.specs.Marks.{Mark, begins, number, ends, Spells}
use Rattle.sum_trees.specs.Trees.{rule_at, node_at, child_of}
use Rattle.sum_trees.specs.Fronts.{BeginsFront, NumberFront, EndFront}
use Rattle.sum_trees.specs.Steps.{Frame, IsPath, Pending, IsClosed, Later, Reaches, Leads}
use Rattle.sum_trees.proofs.Pending.{frame, number_on, number_back, end_on, end_back, node_on, node_back}
use Rattle.sum_trees.proofs.Growth.{Gave, child_later, gave_on, gave_back, more_on, more_back, same_or_not}

frame_is : (f : Frame) (p k : ℕ) (es : List Element) → f.at ≡ p → f.wants ≡ es → f.has ≡ k → f ≡ frame p es k
frame_is f p k es a b c = ap (λ (n : ℕ). frame n f.wants f.has) a ∙ ap (λ (l : List Element). frame p l f.has) b ∙ ap (λ (n : ℕ). frame p es n) c

pub drop_get : (xs : List Element) (k : ℕ) (x : Element) → slice_get xs k ≡ Some x → drop k xs ≡ x ∷ drop (suc k) xs
drop_get [] k x e = absurd (cc)
drop_get (y ∷ xs) zero x e = let same : y ≡ x = cc in ap (λ (z : Element). z ∷ xs) same
drop_get (y ∷ xs) (suc k) x e = drop_get xs k x e

pub path_same : (rules : List SumRule) (old new : List TreeNode) (bound : ℕ) (current : Option ℕ) (fs : List Frame)
    → ((n : ℕ) → n < bound → node_at new n ≡ node_at old n) → IsPath rules old bound current fs → IsPath rules new bound current fs
path_same rules old new bound None [] same path = tt
path_same rules old new bound None (f ∷ fs) same path = absurd path
path_same rules old new bound (Some p) [] same path = absurd path
path_same rules old new bound (Some p) (f ∷ fs) same (at, less, rule, wants, has, up) =
    let e : node_at new p ≡ node_at old p = same p less in (
      at,
      less,
      subst (λ (a : TreeNode). a.rule < length rules) (sym e) rule,
      subst (λ (a : TreeNode). f.wants ≡ drop (length a.children) (rule_at rules a.rule).right) (sym e) wants,
      subst (λ (a : TreeNode). f.has ≡ length a.children) (sym e) has,
      subst (λ (a : TreeNode). IsPath rules new p a.parent fs) (sym e)
          (path_same rules old new p (node_at old p).parent fs (λ n below. same n (omega arith)) up),
    )

pub path_higher : (rules : List SumRule) (nodes : List TreeNode) (low high : ℕ) (current : Option ℕ) (fs : List Frame)
    → low ≤ high → IsPath rules nodes low current fs → IsPath rules nodes high current fs
path_higher rules nodes low high None [] le path = tt
path_higher rules nodes low high None (f ∷ fs) le path = absurd path
path_higher rules nodes low high (Some p) [] le path = absurd path
path_higher rules nodes low high (Some p) (f ∷ fs) le (at, less, rule, wants, has, up) = (at, omega arith, rule, wants, has, up)

-- what an open node's rule has on its right side, and how many children the node has
abbrev pub right_of : List SumRule → List TreeNode → ℕ → List Element
right_of rules nodes p = (rule_at rules (node_at nodes p).rule).right

abbrev pub has_of : List TreeNode → ℕ → ℕ
has_of nodes p = length (node_at nodes p).children

-- the path once the innermost node has a child more
gave_path : (rules : List SumRule) (old new : List TreeNode) (p : ℕ) (x : Child) (f : Frame) (fs : List Frame)
    → Gave p x old new → IsPath rules old (length old) (Some p) (f ∷ fs)
    → IsPath rules new (length new) (Some p) (frame p (drop (suc (has_of old p)) (right_of rules old p)) (has_of old p + 1) ∷ fs)
gave_path rules old new p x f fs gave (at, less, rule, wants, has, up) =
    let more : length ((node_at old p).children ++ (x ∷ [])) ≡ suc (has_of old p) = omega (arith, length_push (node_at old p).children x) in
    subst (λ (a : TreeNode). (p ≡ p) × (p < length new) × (a.rule < length rules)
    × (drop (suc (has_of old p)) (right_of rules old p) ≡ drop (length a.children) (rule_at rules a.rule).right)
    × (has_of old p + 1 ≡ length a.children) × IsPath rules new p a.parent fs)
    (sym gave.node) (
      refl,
      omega (arith, gave.same_len),
      rule,
      ap (λ (n : ℕ). drop n (right_of rules old p)) (sym more),
      omega (arith, more),
      path_same rules old new p (node_at old p).parent fs (λ n below. gave.others n (λ e. omega (arith, e))) up,
    )

pub number_leads : (rules : List SumRule) (frames : List Frame) (old : List TreeNode) (rest : List ℕ) (new : List TreeNode) (p : ℕ) (z : ℤ) (behind : List ℕ)
    → slice_get (right_of rules old p) (has_of old p) ≡ Some elements.Int → NumberFront rest z behind → Gave p (children.Int z) old new
    → IsPath rules old (length old) (Some p) frames → Leads rules frames old rest new (Some p) behind
number_leads rules [] old rest new p z behind asks front gave path = absurd path
number_leads rules (f ∷ fs) old rest new p z behind asks front gave path =
    let k = has_of old p in
    let es = drop (suc k) (right_of rules old p) in
    let is : f ≡ frame p (elements.Int ∷ es) k = frame_is f p k (elements.Int ∷ es) path.0 (path.3 ∙ drop_get (right_of rules old p) k elements.Int asks) path.4 in
    record {
      after = frame p es (k + 1) ∷ fs;
      path = gave_path rules old new p (children.Int z) f fs gave path;
      on = λ final reaches. record {
        marks = number z ∷ reaches.marks;
        text = front.on reaches.marks reaches.text;
        pending = subst (λ (g : Frame). Pending rules (g ∷ fs) (length old) (number z ∷ reaches.marks) final) (sym is)
            (number_on rules p k (length old) es fs z reaches.marks final
            (child_later p (children.Int z) old new final gave (reaches.grows.each p (omega (arith, gave.there, gave.same_len))))
            (subst (λ (n : ℕ). Pending rules (frame p es (k + 1) ∷ fs) n reaches.marks final) gave.same_len reaches.pending));
        grows = gave_on p (children.Int z) f (frame p es (k + 1)) fs old new final path.0 refl gave reaches.grows;
      };
      back = λ final reaches.
          let was = number_back rules p k (length old) es fs reaches.marks final (subst (λ (g : Frame). Pending rules (g ∷ fs) (length old) reaches.marks final) is reaches.pending) in
          let read = front.back was.0 was.1 (subst (λ (l : List Mark). Spells l rest) was.2 reaches.text) in
          record {
            marks = was.1;
            text = read.1;
            pending = subst (λ (n : ℕ). Pending rules (frame p es (k + 1) ∷ fs) n was.1 final) (sym gave.same_len) was.4;
            grows = gave_back p (children.Int z) f (frame p es (k + 1)) fs old new final path.0 refl gave (was.3 ∙ ap (λ (w : ℤ). Some (children.Int w)) read.0) reaches.grows;
          };
    }

pub no_number : (rules : List SumRule) (frames : List Frame) (old : List TreeNode) (rest : List ℕ) (p : ℕ) (final : List TreeNode)
    → slice_get (right_of rules old p) (has_of old p) ≡ Some elements.Int → ((z : ℤ) (marks : List Mark) → Spells (number z ∷ marks) rest → ⊥)
    → IsPath rules old (length old) (Some p) frames → Reaches rules frames old rest final → ⊥
no_number rules [] old rest p final asks none path reaches = absurd path
no_number rules (f ∷ fs) old rest p final asks none path reaches =
    let k = has_of old p in
    let es = drop (suc k) (right_of rules old p) in
    let is : f ≡ frame p (elements.Int ∷ es) k = frame_is f p k (elements.Int ∷ es) path.0 (path.3 ∙ drop_get (right_of rules old p) k elements.Int asks) path.4 in
    let was = number_back rules p k (length old) es fs reaches.marks final (subst (λ (g : Frame). Pending rules (g ∷ fs) (length old) reaches.marks final) is reaches.pending) in
    none was.0 was.1 (subst (λ (l : List Mark). Spells l rest) was.2 reaches.text)

-- a number that is not below those of the path is of no open node
below_closed : (rules : List SumRule) (nodes : List TreeNode) (bound : ℕ) (current : Option ℕ) (fs : List Frame) (n : ℕ) → bound ≤ n → IsPath rules nodes bound current fs → IsClosed fs n
below_closed rules nodes bound None [] n le path = tt
below_closed rules nodes bound None (f ∷ fs) n le path = absurd path
below_closed rules nodes bound (Some p) [] n le path = absurd path
below_closed rules nodes bound (Some p) (f ∷ fs) n le (at, less, rule, wants, has, up) =
    ((λ e. omega (arith, e, at)), below_closed rules nodes p (node_at nodes p).parent fs n (omega arith) up)

nothing_more : (xs ys zs : List Child) → zs ≡ xs ++ ys → length zs ≡ length xs → zs ≡ xs
nothing_more xs [] zs e size = e ∙ append-nil xs
nothing_more xs (y ∷ ys) zs e size = absurd (omega (arith, size, ap length e, length-append xs (y ∷ ys)))

same_when_full : {a b : TreeNode} → Later a b → length b.children ≡ length a.children → b.children ≡ a.children
same_when_full later size = nothing_more _ later.more _ later.children size

-- the end of a node that has all its children
end_frame : (rules : List SumRule) (old : List TreeNode) (p : ℕ) (f : Frame) (fs : List Frame)
    → length (right_of rules old p) ≤ has_of old p → IsPath rules old (length old) (Some p) (f ∷ fs) → f ≡ frame p [] (has_of old p)
end_frame rules old p f fs all path = frame_is f p (has_of old p) [] path.0 (path.3 ∙ drop_all (has_of old p) (right_of rules old p) all) path.4

pub end_leads : (rules : List SumRule) (frames : List Frame) (old : List TreeNode) (rest : List ℕ) (p : ℕ) (behind : List ℕ)
    → length (right_of rules old p) ≤ has_of old p → EndFront rest behind
    → IsPath rules old (length old) (Some p) frames → Leads rules frames old rest old (node_at old p).parent behind
end_leads rules [] old rest p behind all front path = absurd path
end_leads rules (f ∷ fs) old rest p behind all front path =
    let k = has_of old p in
    let is = end_frame rules old p f fs all path in
    record {
      after = fs;
      path = path_higher rules old p (length old) (node_at old p).parent fs (omega (arith, path.1)) path.5;
      on = λ final reaches.
          let apart : (n : ℕ) → IsClosed (f ∷ fs) n → IsClosed fs n = λ n closed. closed.1 in
          let size : has_of final p ≡ k = ap length (reaches.grows.closed p path.1 (below_closed rules old p (node_at old p).parent fs p (omega arith) path.5)) in
          record {
            marks = ends ∷ reaches.marks;
            text = front.on reaches.marks reaches.text;
            pending = subst (λ (g : Frame). Pending rules (g ∷ fs) (length old) (ends ∷ reaches.marks) final) (sym is) (end_on rules p k (length old) fs reaches.marks final size reaches.pending);
            grows = record { longer = reaches.grows.longer; each = reaches.grows.each; closed = λ n less closed. reaches.grows.closed n less closed.1 };
          };
      back = λ final reaches.
          let was = end_back rules p k (length old) fs reaches.marks final (subst (λ (g : Frame). Pending rules (g ∷ fs) (length old) reaches.marks final) is reaches.pending) in
          record {
            marks = was.0;
            text = front.back was.0 (subst (λ (l : List Mark). Spells l rest) was.1 reaches.text);
            pending = was.3;
            grows = record {
              longer = reaches.grows.longer;
              each = reaches.grows.each;
              closed = λ n less closed. ⊎_elim
                  (λ e. subst (λ (m : ℕ). (node_at final m).children ≡ (node_at old m).children) (sym e) (same_when_full (reaches.grows.each p path.1) was.2))
                  (λ ne. reaches.grows.closed n less ((λ e. ne (e ∙ path.0)), closed))
                  (same_or_not n p);
            };
          };
    }

pub no_end : (rules : List SumRule) (frames : List Frame) (old : List TreeNode) (rest : List ℕ) (p : ℕ) (final : List TreeNode)
    → length (right_of rules old p) ≤ has_of old p → ((marks : List Mark) → Spells (ends ∷ marks) rest → ⊥)
    → IsPath rules old (length old) (Some p) frames → Reaches rules frames old rest final → ⊥
no_end rules [] old rest p final all none path reaches = absurd path
no_end rules (f ∷ fs) old rest p final all none path reaches =
    let is = end_frame rules old p f fs all path in
    let was = end_back rules p (has_of old p) (length old) fs reaches.marks final (subst (λ (g : Frame). Pending rules (g ∷ fs) (length old) reaches.marks final) is reaches.pending) in
    none was.0 (subst (λ (l : List Mark). Spells l rest) was.1 reaches.text)

-- the frame of a node that asks for a node
node_frame : (rules : List SumRule) (old : List TreeNode) (p left : ℕ) (f : Frame) (fs : List Frame)
    → slice_get (right_of rules old p) (has_of old p) ≡ Some (elements.Node left) → IsPath rules old (length old) (Some p) (f ∷ fs)
    → f ≡ frame p (elements.Node left ∷ drop (suc (has_of old p)) (right_of rules old p)) (has_of old p)
node_frame rules old p left f fs asks path =
    frame_is f p (has_of old p) _ path.0 (path.3 ∙ drop_get (right_of rules old p) (has_of old p) (elements.Node left) asks) path.4

-- what the text says of the next node
pub node_was : (rules : List SumRule) (f : Frame) (fs : List Frame) (old : List TreeNode) (rest : List ℕ) (p left : ℕ) (final : List TreeNode)
    → slice_get (right_of rules old p) (has_of old p) ≡ Some (elements.Node left)
    → IsPath rules old (length old) (Some p) (f ∷ fs) → Reaches rules (f ∷ fs) old rest final
    → (r : ℕ) × (ms : List Mark) × Spells (begins (rule_at rules r).name ∷ ms) rest × (r < length rules) × ((rule_at rules r).left ≡ left)
    × (child_of final p (has_of old p) ≡ Some (children.Node (length old)))
    × (length old < length final) × ((node_at final (length old)).rule ≡ r) × ((node_at final (length old)).parent ≡ Some p) × ((node_at final (length old)).place ≡ has_of old p + 1)
    × Pending rules (frame (length old) (rule_at rules r).right 0 ∷ frame p (drop (suc (has_of old p)) (right_of rules old p)) (has_of old p + 1) ∷ fs) (length old + 1) ms final
node_was rules f fs old rest p left final asks path reaches =
    let k = has_of old p in
    let is = node_frame rules old p left f fs asks path in
    let was = node_back rules p k (length old) left (drop (suc k) (right_of rules old p)) fs reaches.marks final (subst (λ (g : Frame). Pending rules (g ∷ fs) (length old) reaches.marks final) is reaches.pending) in
    (was.0, was.1, subst (λ (l : List Mark). Spells l rest) was.2 reaches.text, was.3, was.4, was.5, was.6, was.7, was.8, was.9, was.10)

pub node_leads : (rules : List SumRule) (frames : List Frame) (old : List TreeNode) (rest : List ℕ) (mid : List TreeNode) (a : TreeNode) (p left r : ℕ) (behind : List ℕ)
    → slice_get (right_of rules old p) (has_of old p) ≡ Some (elements.Node left) → BeginsFront rules rest r behind → (rule_at rules r).left ≡ left
    → Gave p (children.Node (length old)) old mid → a.rule ≡ r → a.parent ≡ Some p → a.place ≡ has_of old p + 1 → a.children ≡ []
    → IsPath rules old (length old) (Some p) frames → Leads rules frames old rest (mid ++ (a ∷ [])) (Some (length old)) behind
node_leads rules [] old rest mid a p left r behind asks front same gave rule parent place empty path = absurd path
node_leads rules (f ∷ fs) old rest mid a p left r behind asks front same gave rule parent place empty path =
    let n = length old in
    let k = has_of old p in
    let es = drop (suc k) (right_of rules old p) in
    let x = children.Node n in
    let outer = frame p es (k + 1) in
    let inner = frame n (rule_at rules r).right 0 in
    let new = mid ++ (a ∷ []) in
    let is = node_frame rules old p left f fs asks path in
    let size : length new ≡ n + 1 = omega (arith, length_push mid a, gave.same_len) in
    let there : node_at new n ≡ a = get_or_push mid a _ n gave.same_len in
    let same_below : (i : ℕ) → i < n → node_at new i ≡ node_at mid i = λ i below. get_or_append_left mid (a ∷ []) _ i (omega (arith, gave.same_len)) in
    let low : IsPath rules mid n (Some p) (outer ∷ fs) = subst (λ (b : ℕ). IsPath rules mid b (Some p) (outer ∷ fs)) gave.same_len (gave_path rules old mid p x f fs gave path) in
    record {
      after = inner ∷ outer ∷ fs;
      path = subst (λ (b : TreeNode). (n ≡ n) × (n < length new) × (b.rule < length rules)
          × ((rule_at rules r).right ≡ drop (length b.children) (rule_at rules b.rule).right)
          × (0 ≡ length b.children) × IsPath rules new n b.parent (outer ∷ fs))
          (sym there) (
            refl,
            omega (arith, size),
            subst (λ (b : ℕ). b < length rules) (sym rule) front.there,
            ap (λ (b : ℕ). (rule_at rules b).right) (sym rule) ∙ ap (λ (l : List Child). drop (length l) (rule_at rules a.rule).right) (sym empty),
            ap length (sym empty),
            subst (λ (b : Option ℕ). IsPath rules new n b (outer ∷ fs)) (sym parent) (path_same rules mid new n (Some p) (outer ∷ fs) same_below low),
          );
      on = λ final reaches.
          let up = more_on inner (outer ∷ fs) mid a final (sym gave.same_len) reaches.grows in
          let last = reaches.grows.each n (omega (arith, size)) in
          let among : n < length final = omega (arith, reaches.grows.longer, size) in
          record {
            marks = begins (rule_at rules r).name ∷ reaches.marks;
            text = front.on reaches.marks reaches.text;
            pending = subst (λ (g : Frame). Pending rules (g ∷ fs) n (begins (rule_at rules r).name ∷ reaches.marks) final) (sym is)
                (node_on rules p k n left r es fs reaches.marks final front.there same
                (child_later p x old mid final gave (up.each p (omega (arith, gave.there, gave.same_len))))
                among
                (last.rule ∙ ap (λ (b : TreeNode). b.rule) there ∙ rule)
                (last.parent ∙ ap (λ (b : TreeNode). b.parent) there ∙ parent)
                (last.place ∙ ap (λ (b : TreeNode). b.place) there ∙ place)
                (subst (λ (m : ℕ). Pending rules (inner ∷ outer ∷ fs) m reaches.marks final) size reaches.pending));
            grows = gave_on p x f outer fs old mid final path.0 refl gave up;
          };
      back = λ final reaches.
          let was = node_was rules f fs old rest p left final asks path reaches in
          let read = front.back was.0 was.1 was.3 was.2 in
          let up = gave_back p x f outer fs old mid final path.0 refl gave was.5 reaches.grows in
          record {
            marks = was.1;
            text = read.1;
            pending = subst (λ (m : ℕ). Pending rules (inner ∷ outer ∷ fs) m was.1 final) (sym size)
                (subst (λ (b : ℕ). Pending rules (frame n (rule_at rules b).right 0 ∷ outer ∷ fs) (n + 1) was.1 final) read.0 was.10);
            grows = more_back inner (outer ∷ fs) mid a final (sym gave.same_len) empty (omega (arith, was.6, gave.same_len))
                (subst (λ (m : ℕ). (node_at final m).rule ≡ a.rule) (sym gave.same_len) (was.7 ∙ read.0 ∙ sym rule))
                (subst (λ (m : ℕ). (node_at final m).parent ≡ a.parent) (sym gave.same_len) (was.8 ∙ sym parent))
                (subst (λ (m : ℕ). (node_at final m).place ≡ a.place) (sym gave.same_len) (was.9 ∙ sym place))
                up;
          };
    }

-- no node can follow: none begins in front, or one of another left side, or there would be too many
pub no_node : (rules : List SumRule) (frames : List Frame) (old : List TreeNode) (rest : List ℕ) (p left : ℕ) (final : List TreeNode)
    → slice_get (right_of rules old p) (has_of old p) ≡ Some (elements.Node left)
    → ((r : ℕ) (ms : List Mark) → r < length rules → (rule_at rules r).left ≡ left → length old < length final → Spells (begins (rule_at rules r).name ∷ ms) rest → ⊥)
    → IsPath rules old (length old) (Some p) frames → Reaches rules frames old rest final → ⊥
no_node rules [] old rest p left final asks none path reaches = absurd path
no_node rules (f ∷ fs) old rest p left final asks none path reaches =
    let was = node_was rules f fs old rest p left final asks path reaches in
    none was.0 was.1 was.3 was.4 was.6 was.2

pub past : (xs : List Element) (k : ℕ) → slice_get xs k ≡ None → length xs ≤ k
past [] k e = omega arith
past (x ∷ xs) zero e = absurd (cc)
past (x ∷ xs) (suc k) e = omega (arith, past xs k e)

-- the rule that was read
pub rule_read : (rules : List SumRule) (k : ℕ) (rule : SumRule) → k < length rules → rule ≡ get_or rules k rule → rule_at rules k ≡ rule
rule_read rules k rule less is = get_or_from_slice_get rules k rule _ (slice_get_read rules (length rules) k rule refl less is)

pub node_read : (nodes : List TreeNode) (n : ℕ) (node : TreeNode) → n < length nodes → node ≡ get_or nodes n node → node_at nodes n ≡ node
node_read nodes n node less is = get_or_from_slice_get nodes n node _ (slice_get_read nodes (length nodes) n node refl less is)
