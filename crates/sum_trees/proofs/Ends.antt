-- The beginning and the end of the reading.
use Rattle.std.proofs.Common.{◌≡◌, ℕ, ◌<◌, ◌≤◌, List, [], ◌∷◌, ◌++◌, length, Option, Some, None, refl, ap, sym, ◌∙◌, arith, subst, suc, append-nil}
use Rattle.sum_trees.specs.declared.form.SumRule.{SumRule}
use Rattle.sum_trees.specs.declared.form.TreeNode.{TreeNode}
use Rattle.sum_trees.specs.declared.form.Child.{Child}
use Rattle.sum_trees.specs.Bytes.{behind, is_white}
use Rattle.sum_trees.specs.Marks.{Mark, begins, ends, Spells}
use Rattle.sum_trees.specs.Trees.{marks_of, rule_at, node_at, IsTree, most_nodes}
use Rattle.sum_trees.specs.Fronts.{BeginsFront}
use Rattle.sum_trees.specs.Steps.{Frame, IsPath, Later, Reaches, Leads, LeadsNowhere, IsReading}
use Rattle.sum_trees.proofs.Pending.{frame}

-- the node that a tree begins with
abbrev pub top_node : TreeNode
top_node = record { rule = 0; parent = None; place = 0; children = [] }

abbrev pub top_frame : List SumRule → Frame
top_frame rules = frame 0 (rule_at rules 0).right 0

pub started_on : (rules : List SumRule) (text rest : List ℕ) (final : List TreeNode) → BeginsFront rules text 0 rest
    → Reaches rules (top_frame rules ∷ []) (top_node ∷ []) rest final → length final ≤ most_nodes → IsTree rules text final
started_on rules text rest final front reaches few =
    let p = reaches.pending in
    let top = reaches.grows.each 0 (omega arith) in
    let marks_are : reaches.marks ≡ marks_of rules p.0 ++ (ends ∷ []) = p.3 ∙ ap (λ (l : List Mark). marks_of rules p.0 ++ (ends ∷ l)) p.6.0 in
    record {
      below = p.0;
      fits = p.2;
      text = subst (λ (l : List Mark). Spells (begins (rule_at rules 0).name ∷ l) text) marks_are (front.on reaches.marks reaches.text);
      top = record { there = omega (arith, reaches.grows.longer); rule = top.rule; parent = top.parent; place = top.place; width = omega (arith, p.5) };
      shows = p.4;
      all = p.6.1;
      few = few;
    }

pub started_back : (rules : List SumRule) (text rest : List ℕ) (k : ℕ) (final : List TreeNode) → BeginsFront rules text k rest → 0 < length rules
    → IsTree rules text final → (k ≡ 0) × Reaches rules (top_frame rules ∷ []) (top_node ∷ []) rest final
started_back rules text rest k final front some tree =
    let read = front.back 0 (marks_of rules tree.below ++ (ends ∷ [])) some tree.text in (
      sym read.0,
      record {
        marks = marks_of rules tree.below ++ (ends ∷ []);
        text = read.1;
        pending = (tree.below, [], tree.fits, refl, tree.shows, omega (arith, tree.top.width), (refl, tree.all));
        grows = record {
          longer = omega (arith, tree.all);
          each = λ n less. let zero_is : n ≡ 0 = omega arith in subst (λ (m : ℕ). Later (node_at (top_node ∷ []) m) (node_at final m)) (sym zero_is)
              (record { rule = tree.top.rule; parent = tree.top.parent; place = tree.top.place; more = (node_at final 0).children; children = refl });
          closed = λ n less closed. absurd (closed.0 (omega arith));
        };
      },
    )

pub started_path : (rules : List SumRule) → 0 < length rules → IsPath rules (top_node ∷ []) 1 (Some 0) (top_frame rules ∷ [])
started_path rules some = (refl, omega arith, some, refl, refl, tt)

later_refl : (a : TreeNode) → Later a a
later_refl a = record { rule = refl; parent = refl; place = refl; more = []; children = sym (append-nil a.children) }

pub ended_on : (rules : List SumRule) (frames : List Frame) (nodes : List TreeNode) (rest : List ℕ) → IsPath rules nodes (length nodes) None frames
    → behind is_white rest ≡ [] → Reaches rules frames nodes rest nodes
ended_on rules [] nodes rest path white = record {
  marks = [];
  text = white;
  pending = (refl, refl);
  grows = record { longer = omega arith; each = λ n less. later_refl (node_at nodes n); closed = λ n less closed. refl };
}
ended_on rules (f ∷ fs) nodes rest path white = absurd path

same_node : (a b : TreeNode) → Later a b → b.children ≡ a.children → b ≡ a
same_node a b later children =
    ap (λ (n : ℕ). record { rule = n; parent = b.parent; place = b.place; children = b.children }) later.rule
    ∙ ap (λ (n : Option ℕ). record { rule = a.rule; parent = n; place = b.place; children = b.children }) later.parent
    ∙ ap (λ (n : ℕ). record { rule = a.rule; parent = a.parent; place = n; children = b.children }) later.place
    ∙ ap (λ (l : List Child). record { rule = a.rule; parent = a.parent; place = a.place; children = l }) children

same_nodes : (xs ys : List TreeNode) → length xs ≡ length ys → ((n : ℕ) → n < length xs → node_at ys n ≡ node_at xs n) → ys ≡ xs
same_nodes [] [] size each = refl
same_nodes [] (y ∷ ys) size each = absurd (omega (arith, size))
same_nodes (x ∷ xs) [] size each = absurd (omega (arith, size))
same_nodes (x ∷ xs) (y ∷ ys) size each =
    ap (λ (a : TreeNode). a ∷ ys) (each 0 (omega arith)) ∙ ap (λ (l : List TreeNode). x ∷ l) (same_nodes xs ys (omega (arith, size)) (λ n less. each (suc n) (omega arith)))

-- at the end nothing but white space is left, and there is one tree
pub ended_back : (rules : List SumRule) (frames : List Frame) (nodes : List TreeNode) (rest : List ℕ) (final : List TreeNode) → IsPath rules nodes (length nodes) None frames
    → Reaches rules frames nodes rest final → (behind is_white rest ≡ []) × (final ≡ nodes)
ended_back rules [] nodes rest final path reaches = (
  subst (λ (l : List Mark). Spells l rest) reaches.pending.0 reaches.text,
  same_nodes nodes final (sym reaches.pending.1) (λ n less. same_node (node_at nodes n) (node_at final n) (reaches.grows.each n less) (reaches.grows.closed n less tt)),
)
ended_back rules (f ∷ fs) nodes rest final path reaches = absurd path

pub no_start : (rules : List SumRule) (text : List ℕ) (nodes : List TreeNode) → 0 < length rules
    → ((k : ℕ) (marks : List Mark) → k < length rules → Spells (begins (rule_at rules k).name ∷ marks) text → ⊥) → IsTree rules text nodes → ⊥
no_start rules text nodes some nothing tree = nothing 0 (marks_of rules tree.below ++ (ends ∷ [])) some tree.text

pub reading_starts : (rules : List SumRule) (text rest : List ℕ) → 0 < length rules → BeginsFront rules text 0 rest → IsReading rules text (top_node ∷ []) (Some 0) rest
reading_starts rules text rest some front = record {
  frames = top_frame rules ∷ [];
  path = started_path rules some;
  on = λ final reaches few. started_on rules text rest final front reaches few;
  back = λ final tree. (started_back rules text rest 0 final front some tree).1;
  few = omega arith;
}

pub reading_goes_on : (rules : List SumRule) (text : List ℕ) (old new : List TreeNode) (at : ℕ) (current : Option ℕ) (rest after : List ℕ)
    → IsReading rules text old (Some at) rest → length new ≤ most_nodes
    → ((frames : List Frame) → IsPath rules old (length old) (Some at) frames → Leads rules frames old rest new current after)
    → IsReading rules text new current after
reading_goes_on rules text old new at current rest after reading few leads =
    let led = leads reading.frames reading.path in
    record {
      frames = led.after;
      path = led.path;
      on = λ final reaches small. reading.on final (led.on final reaches) small;
      back = λ final tree. led.back final (reading.back final tree);
      few = few;
    }

pub reading_ends : (rules : List SumRule) (text : List ℕ) (nodes : List TreeNode) (rest : List ℕ) → IsReading rules text nodes None rest → behind is_white rest ≡ []
    → IsTree rules text nodes × ((others : List TreeNode) → IsTree rules text others → others ≡ nodes)
reading_ends rules text nodes rest reading white = (
  reading.on nodes (ended_on rules reading.frames nodes rest reading.path white) reading.few,
  λ others tree. (ended_back rules reading.frames nodes rest others reading.path (reading.back others tree)).1,
)

pub reading_stops : (rules : List SumRule) (text : List ℕ) (nodes : List TreeNode) (at : ℕ) (rest : List ℕ) (final : List TreeNode) → IsReading rules text nodes (Some at) rest
    → LeadsNowhere rules nodes at rest → IsTree rules text final → ⊥
reading_stops rules text nodes at rest final reading nowhere tree = nowhere reading.frames final tree.few reading.path (reading.back final tree)

pub reading_fails : (rules : List SumRule) (text : List ℕ) (nodes : List TreeNode) (rest : List ℕ) (final : List TreeNode) → IsReading rules text nodes None rest
    → (behind is_white rest ≡ [] → ⊥) → IsTree rules text final → ⊥
reading_fails rules text nodes rest final reading more tree = more (ended_back rules reading.frames nodes rest final reading.path (reading.back final tree)).0
