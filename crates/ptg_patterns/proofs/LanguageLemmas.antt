-- What may still come is what the grammar says.
use Rattle.std.proofs.Common.{◌≡◌, ℕ, ◌+◌, ◌≤◌, ◌<◌, nat_lt, suc, Bool, true, false, List, [], ◌∷◌, ◌++◌, length, filter, take, drop, get_or, add-one, Option, Some, None, refl, sym, ap, subst, ◌∙◌, arith, append_assoc, append-nil, if◌then◌else◌}
use Rattle.std.proofs.Math.Seq.{take-suc, drop-cons}
use Rattle.std.proofs.lemmas.List.{take-append-drop, length-take, take_all}
use Rattle.lido_base.specs.Reading.{SameHead, IsFaultPlace, Begins}
use Rattle.lido_base.proofs.ReadingLemmas.{fault_place}
use Rattle.ptg_patterns.specs.declared.marks.Mark.{Mark}
use Rattle.ptg_patterns.specs.declared.marks.Mark.TheVariants as mark
use Rattle.ptg_patterns.specs.declared.syntax.State.{State}
use Rattle.ptg_patterns.specs.declared.syntax.State.TheVariants.{Start, Named, Items, Numbering, Pointed}
use Rattle.ptg_patterns.specs.declared.written.Item.{Item}
use Rattle.ptg_patterns.specs.declared.written.Written.{Written}
use Rattle.ptg_patterns.specs.Language.{behind_type, is_bare, IsItems, end, text, bare, numbered, opened, closed, IsWritten, none, pattern, IsText}
use Rattle.ptg_patterns.specs.Steps.{item_step, step, ends}

-- items, then patterns, where so many points of the pattern have no number
pub record GoesOn (brace : Bool) (k : ℕ) (marks : List Mark) : Type 0 where
  pub items : List Item
  pub rest : List Mark
  pub patterns : List Written
  pub reads : IsItems brace marks items rest
  pub few : k + length (filter is_bare items) ≤ 64
  pub written : IsWritten rest patterns

-- what may come behind a state
abbrev pub Rest : State → List Mark → Type 0
Rest Start marks = IsText marks
Rest Named marks = (us : List Mark) × (marks ≡ mark.Colon ∷ us) × GoesOn false 0 us
Rest (Items brace k) marks = GoesOn brace k marks
Rest (Numbering brace k) marks = (n : ℕ) × (us : List Mark) × (marks ≡ mark.Number n ∷ us) × GoesOn brace k (behind_type us)
Rest (Pointed brace k) marks = GoesOn brace k (behind_type marks)

-- the state is this one, and that may come behind it
abbrev RestAfter : Option State → List Mark → Type 0
RestAfter None marks = ⊥
RestAfter (Some state) marks = Rest state marks

less_of : (k c : ℕ) → k + suc c ≤ 64 → nat_lt k 64 ≡ true
less_of k c few = grind (arith, few)

-- ---- a mark that comes next fits

name_forward : (k : ℕ) (m : Mark) (vs : List Mark) (patterns : List Written) → IsWritten (m ∷ vs) patterns → RestAfter (item_step false k m) vs
name_forward k m vs patterns (pattern {marks = us} {rest = rest} {items = items} {patterns = more} reads few written) =
    (us, refl, record { items = items; rest = rest; patterns = more; reads = reads; few = omega (arith, few); written = written })

item_forward : (brace : Bool) (k : ℕ) (m : Mark) (vs : List Mark) (items : List Item) (rest : List Mark) (patterns : List Written)
    → IsItems brace (m ∷ vs) items rest → k + length (filter is_bare items) ≤ 64 → IsWritten rest patterns → RestAfter (item_step brace k m) vs
item_forward brace k m vs items rest patterns end few written = name_forward k m vs patterns written
item_forward brace k m vs items rest patterns (text {items = more} reads) few written =
    record { items = more; rest = rest; patterns = patterns; reads = reads; few = omega (arith, few); written = written }
item_forward brace k m vs items rest patterns (bare {items = more} reads) few written =
    subst (λ (t : Bool). RestAfter (if t then Some (Pointed brace (k + 1)) else None) vs) (sym (less_of k (length (filter is_bare more)) few))
    (record { items = more; rest = rest; patterns = patterns; reads = reads; few = omega (arith, few); written = written })
item_forward brace k m vs items rest patterns (numbered {number = n} {marks = us} {items = more} reads) few written =
    (n, us, refl, record { items = more; rest = rest; patterns = patterns; reads = reads; few = omega (arith, few); written = written })
item_forward brace k m vs items rest patterns (opened reads) few written =
    record { items = items; rest = rest; patterns = patterns; reads = reads; few = few; written = written }
item_forward brace k m vs items rest patterns (closed reads) few written =
    record { items = items; rest = rest; patterns = patterns; reads = reads; few = few; written = written }

goes_forward : (brace : Bool) (k : ℕ) (m : Mark) (vs : List Mark) → GoesOn brace k (m ∷ vs) → RestAfter (item_step brace k m) vs
goes_forward brace k m vs g = item_forward brace k m vs g.items g.rest g.patterns g.reads g.few g.written

pointed_forward : (brace : Bool) (k : ℕ) (m : Mark) (vs : List Mark) → GoesOn brace k (behind_type (m ∷ vs)) → RestAfter (step (Pointed brace k) m) vs
pointed_forward brace k mark.IntWord vs g = g
pointed_forward brace k mark.StringWord vs g = g
pointed_forward brace k m vs g = goes_forward brace k m vs g

named_forward : (m : Mark) (vs us : List Mark) → m ∷ vs ≡ mark.Colon ∷ us → GoesOn false 0 us → RestAfter (step Named m) vs
named_forward mark.Colon vs us e g = let same : us ≡ vs = cc in subst (GoesOn false 0) same g
named_forward m vs us e g = cc

numbering_forward : (brace : Bool) (k n : ℕ) (m : Mark) (vs us : List Mark) → m ∷ vs ≡ mark.Number n ∷ us → GoesOn brace k (behind_type us) → RestAfter (step (Numbering brace k) m) vs
numbering_forward brace k n (mark.Number i) vs us e g = let same : us ≡ vs = cc in subst (λ (l : List Mark). GoesOn brace k (behind_type l)) same g
numbering_forward brace k n m vs us e g = cc

start_forward : (m : Mark) (vs : List Mark) (patterns : List Written) → IsWritten (m ∷ vs) patterns → RestAfter (step Start m) vs
start_forward m vs patterns (pattern {marks = us} {rest = rest} {items = items} {patterns = more} reads few written) =
    (us, refl, record { items = items; rest = rest; patterns = more; reads = reads; few = omega (arith, few); written = written })

forward : (state : State) (m : Mark) (vs : List Mark) → Rest state (m ∷ vs) → RestAfter (step state m) vs
forward Start m vs r = start_forward m vs r.0 r.1
forward Named m vs r = named_forward m vs r.0 r.1 r.2
forward (Items brace k) m vs r = goes_forward brace k m vs r
forward (Numbering brace k) m vs r = numbering_forward brace k r.0 m vs r.1 r.2 r.3
forward (Pointed brace k) m vs r = pointed_forward brace k m vs r

-- ---- a mark that fits may come next

abbrev pub bare_of : State → ℕ
bare_of Start = 0
bare_of Named = 0
bare_of (Items brace k) = k
bare_of (Numbering brace k) = k
bare_of (Pointed brace k) = k

name_back : (at : ℕ) (id : _) (vs us : List Mark) → vs ≡ mark.Colon ∷ us → GoesOn false 0 us → IsText (mark.Name at id ∷ vs)
name_back at id vs us e g = subst (λ (l : List Mark). IsText (mark.Name at id ∷ l)) (sym e)
    (record { at = at; name = id; items = g.items } ∷ g.patterns, pattern g.reads (omega (arith, g.few)) g.written)

bare_back : (brace : Bool) (k at : ℕ) (vs : List Mark) (t : Bool) → RestAfter (if t then Some (Pointed brace (k + 1)) else None) vs → GoesOn brace k (mark.Bare at ∷ vs)
bare_back brace k at vs false g = absurd g
bare_back brace k at vs true g = record { items = _; rest = g.rest; patterns = g.patterns; reads = bare g.reads; few = omega (arith, g.few); written = g.written }

item_back : (brace : Bool) (k : ℕ) (m : Mark) (vs : List Mark) → k ≤ 64 → RestAfter (item_step brace k m) vs → GoesOn brace k (m ∷ vs)
item_back false k (mark.Name at id) vs few r = let t = name_back at id vs r.0 r.1 r.2 in
    record { items = []; rest = mark.Name at id ∷ vs; patterns = t.0; reads = end; few = omega (arith, few); written = t.1 }
item_back brace k (mark.Fixed id) vs few g = record { items = _; rest = g.rest; patterns = g.patterns; reads = text g.reads; few = omega (arith, g.few); written = g.written }
item_back brace k (mark.Bare at) vs few g = bare_back brace k at vs (nat_lt k 64) g
item_back brace k (mark.Numbering at) vs few (n, us, e, g) = subst (λ (l : List Mark). GoesOn brace k (mark.Numbering at ∷ l)) (sym e)
    (record { items = _; rest = g.rest; patterns = g.patterns; reads = numbered g.reads; few = omega (arith, g.few); written = g.written })
item_back false k mark.BraceOpen vs few g = record { items = g.items; rest = g.rest; patterns = g.patterns; reads = opened g.reads; few = g.few; written = g.written }
item_back true k mark.BraceClose vs few g = record { items = g.items; rest = g.rest; patterns = g.patterns; reads = closed g.reads; few = g.few; written = g.written }
item_back _ k _ vs few g = absurd g

pointed_back : (brace : Bool) (k : ℕ) (m : Mark) (vs : List Mark) → k ≤ 64 → RestAfter (step (Pointed brace k) m) vs → GoesOn brace k (behind_type (m ∷ vs))
pointed_back brace k mark.IntWord vs few g = g
pointed_back brace k mark.StringWord vs few g = g
pointed_back brace k m vs few g = item_back brace k m vs few g

back : (state : State) (m : Mark) (vs : List Mark) → bare_of state ≤ 64 → RestAfter (step state m) vs → Rest state (m ∷ vs)
back Start (mark.Name at id) vs few (us, e, g) = name_back at id vs us e g
back Start _ vs few g = absurd g
back Named mark.Colon vs few g = (vs, refl, g)
back Named _ vs few g = absurd g
back (Items brace k) m vs few g = item_back brace k m vs few g
back (Numbering brace k) (mark.Number n) vs few g = (n, vs, refl, g)
back (Numbering brace k) _ vs few g = absurd g
back (Pointed brace k) m vs few g = pointed_back brace k m vs few g

-- ---- there are never more than 64

abbrev IsFew : Option State → Type 0
IsFew None = Unit {0}
IsFew (Some state) = bare_of state ≤ 64

bare_few : (brace : Bool) (k : ℕ) (t : Bool) → nat_lt k 64 ≡ t → IsFew (if t then Some (Pointed brace (k + 1)) else None)
bare_few brace k true e = grind (arith, e)
bare_few brace k false e = tt

item_few : (brace : Bool) (k : ℕ) (m : Mark) → k ≤ 64 → IsFew (item_step brace k m)
item_few false k (mark.Name at id) few = omega arith
item_few true k (mark.Name at id) few = tt
item_few brace k (mark.Fixed id) few = few
item_few brace k (mark.Bare at) few = bare_few brace k (nat_lt k 64) refl
item_few brace k (mark.Numbering at) few = few
item_few false k mark.BraceOpen few = few
item_few true k mark.BraceOpen few = tt
item_few false k mark.BraceClose few = tt
item_few true k mark.BraceClose few = few
item_few brace k _ few = tt

step_few : (state : State) (m : Mark) → bare_of state ≤ 64 → IsFew (step state m)
step_few Start (mark.Name at id) few = few
step_few Start _ few = tt
step_few Named mark.Colon few = few
step_few Named _ few = tt
step_few (Items brace k) m few = item_few brace k m few
step_few (Numbering brace k) (mark.Number n) few = few
step_few (Numbering brace k) _ few = tt
step_few (Pointed brace k) mark.IntWord few = few
step_few (Pointed brace k) mark.StringWord few = few
step_few (Pointed brace k) m few = item_few brace k m few

-- ---- where a text may end

goes_end : (k : ℕ) → k ≤ 64 → GoesOn false k []
goes_end k few = record { items = []; rest = []; patterns = []; reads = end; few = omega (arith, few); written = none }

goes_close : (k : ℕ) → k ≤ 64 → GoesOn true k (mark.BraceClose ∷ [])
goes_close k few = record { items = []; rest = []; patterns = []; reads = closed end; few = omega (arith, few); written = none }

-- whatever came so far can be completed
complete : (state : State) → bare_of state ≤ 64 → (more : List Mark) × Rest state more
complete Start few = ([], ([], none))
complete Named few = (mark.Colon ∷ [], ([], refl, goes_end 0 few))
complete (Items false k) few = ([], goes_end k few)
complete (Items true k) few = (mark.BraceClose ∷ [], goes_close k few)
complete (Numbering false k) few = (mark.Number 1 ∷ [], (1, [], refl, goes_end k few))
complete (Numbering true k) few = (mark.Number 1 ∷ mark.BraceClose ∷ [], (1, mark.BraceClose ∷ [], refl, goes_close k few))
complete (Pointed false k) few = ([], goes_end k few)
complete (Pointed true k) few = (mark.BraceClose ∷ [], goes_close k few)

end_on : (state : State) → bare_of state ≤ 64 → ends state ≡ true → Rest state []
end_on Start few e = ([], none)
end_on Named few e = cc
end_on (Items false k) few e = goes_end k few
end_on (Items true k) few e = cc
end_on (Numbering brace k) few e = cc
end_on (Pointed false k) few e = goes_end k few
end_on (Pointed true k) few e = cc

no_open_end : (items : List Item) (rest : List Mark) → IsItems true [] items rest → ⊥
no_open_end items rest reads = elim reads [ ]

end_back : (state : State) → ends state ≡ false → Rest state [] → ⊥
end_back Start e r = cc
end_back Named e r = let h = r.1 in cc
end_back (Items false k) e r = cc
end_back (Items true k) e r = no_open_end r.items r.rest r.reads
end_back (Numbering brace k) e r = let h = r.2 in cc
end_back (Pointed false k) e r = cc
end_back (Pointed true k) e r = no_open_end r.items r.rest r.reads

-- ---- how far a text has come

-- what may come behind the state is what may come behind these marks
pub record Arrives (state : State) (taken : List Mark) : Type 0 where
  pub on : (vs : List Mark) → Rest state vs → IsText (taken ++ vs)
  pub backwards : (vs : List Mark) → IsText (taken ++ vs) → Rest state vs
  pub few : bare_of state ≤ 64

pub arrives_start : Arrives Start []
arrives_start = record { on = λ vs r. r; backwards = λ vs t. t; few = omega arith }

pub arrives_more : (state next : State) (taken : List Mark) (m : Mark) → Arrives state taken → step state m ≡ Some next → Arrives next (taken ++ m ∷ [])
arrives_more state next taken m before e = record {
  on = λ vs r. subst IsText (sym (append_assoc taken (m ∷ []) vs)) (before.on (m ∷ vs) (back state m vs before.few (subst (λ (o : Option State). RestAfter o vs) (sym e) r)));
  backwards = λ vs t. subst (λ (o : Option State). RestAfter o vs) e (forward state m vs (before.backwards (m ∷ vs) (subst IsText (append_assoc taken (m ∷ []) vs) t)));
  few = subst IsFew e (step_few state m before.few);
}

begun : (state : State) (taken : List Mark) → Arrives state taken → Begins IsText taken
begun state taken before = let (more, r) = complete state before.few in (more, before.on more r)

misfit_stuck : (state : State) (taken rest : List Mark) (m : Mark) → Arrives state taken → step state m ≡ None
    → (vs : List Mark) → SameHead (m ∷ rest) vs → IsText (taken ++ vs) → ⊥
misfit_stuck state taken rest m before e [] s t = s
misfit_stuck state taken rest m before e (v ∷ vs) s t =
    subst (λ (o : Option State). RestAfter o vs) e (forward state m vs (subst (λ (n : Mark). Rest state (n ∷ vs)) (sym s) (before.backwards (v ∷ vs) t)))

pub misfit : (state : State) (taken rest : List Mark) (m : Mark) → Arrives state taken → step state m ≡ None
    → IsFaultPlace IsText (taken ++ m ∷ rest) (length taken)
misfit state taken rest m before e = fault_place IsText taken (m ∷ rest) (begun state taken before) (misfit_stuck state taken rest m before e)

end_stuck : (state : State) (taken : List Mark) → Arrives state taken → ends state ≡ false → (vs : List Mark) → SameHead [] vs → IsText (taken ++ vs) → ⊥
end_stuck state taken before e [] s t = end_back state e (before.backwards [] t)
end_stuck state taken before e (v ∷ vs) s t = s

pub misses : (state : State) (taken : List Mark) → Arrives state taken → ends state ≡ false → IsFaultPlace IsText taken (length taken)
misses state taken before e = subst (λ (l : List Mark). IsFaultPlace IsText l (length taken)) (append-nil taken)
    (fault_place IsText taken [] (begun state taken before) (end_stuck state taken before e))

pub fits : (state : State) (taken : List Mark) → Arrives state taken → ends state ≡ true → IsText taken
fits state taken before e = subst IsText (append-nil taken) (before.on [] (end_on state before.few e))

-- ---- at an index

pub arrives_at : (state next : State) (marks : List Mark) (i : ℕ) (d : Mark) → i < length marks → Arrives state (take i marks) → step state (get_or marks i d) ≡ Some next
    → Arrives next (take (i + 1) marks)
arrives_at state next marks i d less before e = rw (add-one, take-suc marks i d less) (arrives_more state next (take i marks) (get_or marks i d) before e)

pub misfit_at : (state : State) (marks : List Mark) (i : ℕ) (d : Mark) → i < length marks → Arrives state (take i marks) → step state (get_or marks i d) ≡ None
    → IsFaultPlace IsText marks i
misfit_at state marks i d less before e =
    let here = misfit state (take i marks) (drop (suc i) marks) (get_or marks i d) before e in
    let whole : take i marks ++ get_or marks i d ∷ drop (suc i) marks ≡ marks = ap (λ (l : List Mark). take i marks ++ l) (sym (drop-cons marks i d less)) ∙ take-append-drop i marks in
    let count : length (take i marks) ≡ i = omega (arith, length-take i marks, less) in
    subst (λ (n : ℕ). IsFaultPlace IsText marks n) count (subst (λ (l : List Mark). IsFaultPlace IsText l (length (take i marks))) whole here)

pub all_taken : (state : State) (marks : List Mark) (i : ℕ) → length marks ≤ i → Arrives state (take i marks) → Arrives state marks
all_taken state marks i past before = subst (Arrives state) (take_all i marks past) before
