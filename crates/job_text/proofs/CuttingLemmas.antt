-- A text has one cutting at most, or one missing section line, and never both.
use Rattle.std.proofs.Common.{◌≡◌, ◌≤◌, ◌<◌, ◌+◌, ℕ, min, List, length, Result, Ok, Err, codes, refl, ap, sym, ◌∙◌, subst, arith, inl, inr}
use Rattle.std.proofs.lemmas.Bool.{cases_order}
use Rattle.job_text.specs.declared.cutting.Sections.{Sections}
use Rattle.job_text.specs.declared.cutting.Span.{Span}
use Rattle.job_text.specs.declared.cutting.CutFault.{CutFault}
use Rattle.job_text.specs.declared.cutting.CutFault.TheVariants.{NoPtg, NoTree}
use Rattle.job_text.specs.Lines.{EndsLine, IsLine, IsFirst}
use Rattle.job_text.specs.Cutting.{IsCut, LacksTree, Cutting}

-- a line ends at one place
ends_before : (text : List ℕ) (from to other : ℕ) → from ≤ to → EndsLine text from to → EndsLine text from other → to < other → ⊥
ends_before text from to other ordered a b less = b.whole to ordered less (a.stops (omega (arith, less, b.within)))

one_end : (text : List ℕ) (from to other : ℕ) → IsLine text from to → IsLine text from other → to ≡ other
one_end text from to other a b = elim (cases_order to other) [
  | inl same ↦ same
  | inr (inl less) ↦ absurd (ends_before text from to other a.ordered a.ends b.ends less)
  | inr (inr more) ↦ absurd (ends_before text from other to b.ordered b.ends a.ends more)
]

-- the first line that says a name is one
one_line : (name text : List ℕ) (start from to other end : ℕ) → IsFirst name text start from to → IsFirst name text start other end → (from ≡ other) × (to ≡ end)
one_line name text start from to other end a b =
    let same : from ≡ other = omega (arith, a.first other end b.behind b.says, b.first from to a.behind a.says) in
    (same, one_end text other to end (subst (λ (n : ℕ). IsLine text n to) same a.says.line) b.says.line)

one_span : (one other : Span) → one.from ≡ other.from → one.to ≡ other.to → one ≡ other
one_span one other from to = λ j. record { from = from j; to = to j }

one_sections : (one other : Sections) → one.spec ≡ other.spec → one.ptg ≡ other.ptg → one.tree ≡ other.tree → one ≡ other
one_sections one other spec ptg tree = λ j. record { spec = spec j; ptg = ptg j; tree = tree j }

one_cut : (text : List ℕ) (one other : Sections) → IsCut text one → IsCut text other → one ≡ other
one_cut text one other a b =
    let ptg = one_line (codes "%%PTG") text 0 one.spec.to a.ptg_end other.spec.to b.ptg_end a.spec_ends b.spec_ends in
    let behind = subst (λ (n : ℕ). IsFirst (codes "%%TREE") text (n + 1) one.ptg.to a.tree_end) ptg.1 a.ptg_ends in
    let tree = one_line (codes "%%TREE") text (b.ptg_end + 1) one.ptg.to a.tree_end other.ptg.to b.tree_end behind b.ptg_ends in
    one_sections one other
    (one_span one.spec other.spec (a.spec_starts ∙ sym b.spec_starts) ptg.0)
    (one_span one.ptg other.ptg (a.ptg_starts ∙ ap (λ (n : ℕ). n + 1) ptg.1 ∙ sym b.ptg_starts) tree.0)
    (one_span one.tree other.tree (a.tree_starts ∙ ap (λ (n : ℕ). min (length text) (n + 1)) tree.1 ∙ sym b.tree_starts) (a.tree_ends ∙ sym b.tree_ends))

-- a text that is cut lacks no line
has_tree : (text : List ℕ) (one : Sections) → IsCut text one → LacksTree text → ⊥
has_tree text one a b =
    let ptg = one_line (codes "%%PTG") text 0 one.spec.to a.ptg_end b.from b.to a.spec_ends b.ptg in
    b.none one.ptg.to a.tree_end (omega (arith, a.ptg_ends.behind, ptg.1)) a.ptg_ends.says

pub one_cutting : (text : List ℕ) (first second : Result Sections CutFault) → Cutting text first → Cutting text second → first ≡ second
one_cutting text (Ok one) (Ok other) a b = ap Ok (one_cut text one other a b)
one_cutting text (Ok one) (Err NoPtg) a b = absurd (b one.spec.to a.ptg_end a.spec_ends.says)
one_cutting text (Ok one) (Err NoTree) a b = absurd (has_tree text one a b)
one_cutting text (Err NoPtg) (Ok other) a b = absurd (a other.spec.to b.ptg_end b.spec_ends.says)
one_cutting text (Err NoPtg) (Err NoPtg) a b = refl
one_cutting text (Err NoPtg) (Err NoTree) a b = absurd (a b.from b.to b.ptg.says)
one_cutting text (Err NoTree) (Ok other) a b = absurd (has_tree text other b a)
one_cutting text (Err NoTree) (Err NoPtg) a b = absurd (b a.from a.to a.ptg.says)
one_cutting text (Err NoTree) (Err NoTree) a b = refl
