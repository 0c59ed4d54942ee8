-- The walk of a chain over the children of a plain rule gives the terms of the definition.
use Rattle.std.specs.Prelude.{nat_eq, cond, ◌&&◌, ◌||◌, not, IsTrue, Contains, slice_get, slice_get, ◌↔◌, find, filter, is_some, AllPairs, option_map, if◌then◌else◌}
use Rattle.std.specs.List.{slice_index_or}
use Rattle.std.proofs.Common.{◌≡◌, ℕ, suc, ◌<◌, ◌≤◌, ◌⊎◌, inl, inr, Bool, true, false, List, [], ◌∷◌, map, Option, Some, None, refl, sym, ap, subst, ◌∙◌, arith, eqb-true, eq-eqb}
use Rattle.std.proofs.lemmas.Bool.{cases_lt}
use Rattle.std.proofs.lemmas.Option.{none-some, same_Some, slice_get-get_or, slice_get_within}
use Rattle.std.proofs.lemmas.List.Elements.{filter_agree}
use Rattle.lido_base.specs.declared.ids.SymId.{SymId}
use Rattle.lido_base.proofs.Lists.{contains-nil, contains-cons, contains-here, contains-later, contains-map, contains-place}
use Rattle.lido_syntax.specs.declared.spec.Typed1.{Typed1}
use Rattle.lido_syntax.specs.Production.{name_of}
use Rattle.lido_syntax.specs.Computation as written
use Rattle.lido_symbols.specs.Numbers.{enumerated}
use Rattle.least_paths.specs.Graph.{is_in}
use Rattle.need_graphs.proofs.ListLemmas.{enumerated-place}
use Rattle.need_graphs.proofs.RangeLemmas.{filter-part}
use Rattle.rule_tables.specs.declared.table.Tables.{Tables as Rows}
use Rattle.rule_tables.specs.declared.forced.Force.{Force as Entry}
use Rattle.rule_tables.specs.declared.forced.Goal.{Goal}
use Rattle.rule_tables.specs.declared.forced.Goal.TheVariants as goal
use Rattle.rule_tables.specs.PlainRules.{PlainRule, symbol_at}
use Rattle.rule_tables.specs.Forced.{Force, force_for, is_same_goal, IsForced}
use Rattle.rule_tables.specs.ForcedOf.{IsGoalAs, IsChainAt, IsEntryOf, AreEntriesOf, IsEarlier, kind_of, number_in}
use Rattle.rule_tables.specs.Slots.{Front, Behind}
use Rattle.rule_tables.specs.Shares.{Term, Read, Copied, places, last_of}
use Rattle.rule_tables.specs.ExtraOf.{IsTermAs}
use Rattle.chain_expand.specs.Walks.{is_start_at, is_behind_at, needing, source_of, behind_source, number_of, starts_at, assigns_at}
use Rattle.chain_expand.specs.Comps.{term_of}

-- what is found passes, and where nothing is found nothing does
find-some : {X : Type 0} (test : X → Bool) (xs : List X) (x : X) → find test xs ≡ Some x → Contains xs x × IsTrue (test x)
find-some test [] x e = absurd (none-some _ e)
find-some {X} test (y ∷ ys) x e = by (test y) refl e (find-some test ys x)
  where
    by : (b : Bool) → test y ≡ b → cond b (Some y) (find test ys) ≡ Some x → (find test ys ≡ Some x → Contains ys x × IsTrue (test x)) → Contains (y ∷ ys) x × IsTrue (test x)
    by true is e later = let same : y ≡ x = same_Some _ _ e in (subst (λ z. Contains (y ∷ ys) z) same (contains-here y ys), ap test (sym same) ∙ is)
    by false is e later = let r = later e in (contains-later y x ys r.0, r.1)

find-none : {X : Type 0} (test : X → Bool) (xs : List X) → find test xs ≡ None → (x : X) → Contains xs x → IsTrue (test x) → ⊥
find-none test [] e x m h = contains-nil x m
find-none {X} test (y ∷ ys) e x m h = by (test y) refl e (contains-cons y x ys m) (λ e k. find-none test ys e x k h)
  where
    by : (b : Bool) → test y ≡ b → cond b (Some y) (find test ys) ≡ None → (y ≡ x) ⊎ Contains ys x → (find test ys ≡ None → Contains ys x → ⊥) → ⊥
    by true is e s later = none-some y (sym e)
    by false is e (inl same) later = let wrong : false ≡ true = sym is ∙ ap test same ∙ h in cc
    by false is e (inr k) later = later e k

pub read-at : {X : Type 0} (xs : List X) (i : ℕ) (x d : X) → slice_get xs i ≡ Some x → slice_index_or xs i d ≡ x
read-at xs i x d e = same_Some _ _ (sym (slice_get-get_or xs i d (slice_get_within xs i x e)) ∙ e)

pub pair-at : {X : Type 0} (R : X → X → Type 0) (xs : List X) (i j : ℕ) (x y : X) → AllPairs R xs → slice_get xs i ≡ Some x → slice_get xs j ≡ Some y → i < j → R x y
pair-at R xs i j x y all e f h = subst (λ a. R a y) (read-at xs i x x e) (subst (λ b. R (slice_index_or xs i x) b) (read-at xs j y x f) (all i j x h (slice_get_within xs j y f)))

-- an entry is known by what it gives a value to
single-entry : (es : List Entry) → AllPairs IsEarlier es → (e d : Entry) → Contains es e → Contains es d → kind_of e.goal ≡ kind_of d.goal → e.occ ≡ d.occ → number_in e.goal ≡ number_in d.goal → e ≡ d
single-entry es order e d m n kinds occs numbers =
    let (i, at) = contains-place es e m in
    let (j, there) = contains-place es d n in
    by i j at there (cases_lt i j) (cases_lt j i)
  where
    never : (a b : Entry) → kind_of a.goal ≡ kind_of b.goal → a.occ ≡ b.occ → number_in a.goal ≡ number_in b.goal → IsEarlier a b → ⊥
    never a b k o m (inl l) = omega (arith, l, k)
    never a b k o m (inr (s, inl l)) = omega (arith, l, o)
    never a b k o m (inr (s, inr (q, l))) = omega (arith, l, m)

    by : (i j : ℕ) → slice_get es i ≡ Some e → slice_get es j ≡ Some d → (i < j) ⊎ (j ≤ i) → (j < i) ⊎ (i ≤ j) → e ≡ d
    by i j at there (inl l) s = absurd (never e d kinds occs numbers (pair-at IsEarlier es i j e d order at there l))
    by i j at there (inr k) (inl l) = absurd (never d e (sym kinds) (sym occs) (sym numbers) (pair-at IsEarlier es j i d e order there at l))
    by i j at there (inr k) (inr l) = let same : i ≡ j = omega (arith, k, l) in same_Some _ _ (sym at ∙ ap (slice_get es) same ∙ there)

of-and : (a b : Bool) → IsTrue (a && b) → IsTrue a × IsTrue b
of-and true b h = (refl, h)
of-and false b h = absurd (cc)

to-and : (a b : Bool) → IsTrue a → IsTrue b → IsTrue (a && b)
to-and true b h k = k
to-and false b h k = absurd (cc)

-- the first computation for a goal has the number that the entries tell
module _ (t : Rows) (p : PlainRule) (es : List Entry) (fs : List Force) (entries : AreEntriesOf t p es) (forced : (f : Force) → Contains fs f ↔ IsForced t.spec p f)
    (is_its : Goal → Bool) (target : written.Goal) (kind place : ℕ) (kinds : (g : Goal) → IsTrue (is_its g) → (kind_of g ≡ kind) × (number_in g ≡ place))
    (to : (x : ℕ) (g : Goal) (w : written.Goal) → IsGoalAs t x g w → IsTrue (is_its g) → IsTrue (is_same_goal w target))
    (from : (x : ℕ) (g : Goal) (w : written.Goal) → IsGoalAs t x g w → IsTrue (is_same_goal w target) → IsTrue (is_its g)) where
  abbrev test : Entry → Bool
  test e = nat_eq e.occ 0 && is_its e.goal

  abbrev test_in : Force → Bool
  test_in f = nat_eq f.occ 0 && is_same_goal f.goal target

  pass-force : (e : Entry) (f : Force) → IsEntryOf t p e f → IsTrue (test e) → IsTrue (test_in f)
  pass-force e f is h = let b = of-and (nat_eq e.occ 0) (is_its e.goal) h in
      to-and (nat_eq f.occ 0) (is_same_goal f.goal target) (ap (λ n. nat_eq n 0) (sym is.occ) ∙ b.0) (to is.symbol e.goal f.goal is.goal b.1)

  pass-entry : (e : Entry) (f : Force) → IsEntryOf t p e f → IsTrue (test_in f) → IsTrue (test e)
  pass-entry e f is h = let b = of-and (nat_eq f.occ 0) (is_same_goal f.goal target) h in
      to-and (nat_eq e.occ 0) (is_its e.goal) (ap (λ n. nat_eq n 0) is.occ ∙ b.0) (from is.symbol e.goal f.goal is.goal b.1)

  one-entry : (e d : Entry) → Contains es e → Contains es d → IsTrue (test e) → IsTrue (test d) → e ≡ d
  one-entry e d m n h k =
      let a = of-and (nat_eq e.occ 0) (is_its e.goal) h in
      let b = of-and (nat_eq d.occ 0) (is_its d.goal) k in
      let x = kinds e.goal a.1 in
      let y = kinds d.goal b.1 in
      single-entry es entries.in_order e d m n (x.0 ∙ sym y.0) (eqb-true e.occ 0 a.0 ∙ sym (eqb-true d.occ 0 b.0)) (x.1 ∙ sym y.1)

  pub number-same : number_of test es ≡ option_map (λ (f : Force). f.comp.number) (force_for fs 0 target)
  number-same = by (find test es) refl (find test_in fs) refl
    where
      by : (o : Option Entry) → find test es ≡ o → (q : Option Force) → find test_in fs ≡ q → option_map (λ (e : Entry). e.number) o ≡ option_map (λ (f : Force). f.comp.number) q
      by None e None f = refl
      by None e (Some b) f = let m = find-some test_in fs b f in let d = entries.all b ((forced b).0 m.0) in absurd (find-none test es e d.0 d.1 (pass-entry d.0 b d.2 m.1))
      by (Some a) e None f = let m = find-some test es a e in let g = entries.each a m.0 in absurd (find-none test_in fs f g.0 ((forced g.0).1 g.1) (pass-force a g.0 g.2 m.1))
      by (Some a) e (Some b) f =
          let m = find-some test es a e in
          let n = find-some test_in fs b f in
          let d = entries.all b ((forced b).0 n.0) in
          ap Some (ap (λ (e : Entry). e.number) (one-entry a d.0 m.0 d.1 m.1 (pass-entry d.0 b d.2 n.1)) ∙ d.2.number)

-- the goals of a chain that is declared once
module _ (t : Rows) (i c : ℕ) (d : Typed1) (declared : slice_get t.spec.chains i ≡ Some d) (called : name_of d.name ≡ c) (apart : AllPairs (λ (x y : Typed1). name_of x.name ≡ name_of y.name → ⊥) t.spec.chains) where
  abbrev Apart : Typed1 → Typed1 → Type 0
  Apart x y = name_of x.name ≡ name_of y.name → ⊥

  place-of : (j a : ℕ) → IsChainAt t j a → a ≡ c → j ≡ i
  place-of j a at e = by (cases_lt j i) (cases_lt i j)
    where
      by : (j < i) ⊎ (i ≤ j) → (i < j) ⊎ (j ≤ i) → j ≡ i
      by (inl l) s = absurd (pair-at Apart t.spec.chains j i at.0 d apart at.1 declared l (at.2 ∙ e ∙ sym called))
      by (inr k) (inl l) = absurd (pair-at Apart t.spec.chains i j d at.0 apart declared at.1 l (called ∙ sym e ∙ sym at.2))
      by (inr k) (inr l) = omega (arith, k, l)

  name-at : (j a : ℕ) → IsChainAt t j a → j ≡ i → a ≡ c
  name-at j a at e = sym at.2 ∙ ap (λ (x : Typed1). name_of x.name) (same_Some _ _ (sym at.1 ∙ ap (slice_get t.spec.chains) e ∙ declared)) ∙ called

  start-to : (x : ℕ) (g : Goal) (w : written.Goal) → IsGoalAs t x g w → IsTrue (is_start_at i g) → IsTrue (is_same_goal w (written.Start c))
  start-to x (goal.Attr id) w h b = absurd (cc)
  start-to x (goal.Behind j) w h b = absurd (cc)
  start-to x goal.Out w h b = absurd (cc)
  start-to x (goal.Message j) w h b = absurd (cc)
  start-to x (goal.Start j) (written.Start a) h b = eq-eqb a c (name-at j a h (eqb-true j i b))
  start-to x (goal.Start j) _ h b = absurd h

  start-from : (x : ℕ) (g : Goal) (w : written.Goal) → IsGoalAs t x g w → IsTrue (is_same_goal w (written.Start c)) → IsTrue (is_start_at i g)
  start-from x g (written.Synthesized a) h b = absurd (cc)
  start-from x g (written.Inherited a) h b = absurd (cc)
  start-from x g (written.Behind a) h b = absurd (cc)
  start-from x g written.Output h b = absurd (cc)
  start-from x g (written.Message k) h b = absurd (cc)
  start-from x (goal.Start j) (written.Start a) h b = eq-eqb j i (place-of j a h (eqb-true a c b))
  start-from x _ (written.Start a) h b = absurd h

  start-kind : (g : Goal) → IsTrue (is_start_at i g) → (kind_of g ≡ 1) × (number_in g ≡ i)
  start-kind (goal.Start j) b = (refl, eqb-true j i b)
  start-kind (goal.Attr id) b = absurd (cc)
  start-kind (goal.Behind j) b = absurd (cc)
  start-kind goal.Out b = absurd (cc)
  start-kind (goal.Message j) b = absurd (cc)

  behind-to : (x : ℕ) (g : Goal) (w : written.Goal) → IsGoalAs t x g w → IsTrue (is_behind_at i g) → IsTrue (is_same_goal w (written.Behind c))
  behind-to x (goal.Attr id) w h b = absurd (cc)
  behind-to x (goal.Start j) w h b = absurd (cc)
  behind-to x goal.Out w h b = absurd (cc)
  behind-to x (goal.Message j) w h b = absurd (cc)
  behind-to x (goal.Behind j) (written.Behind a) h b = eq-eqb a c (name-at j a h (eqb-true j i b))
  behind-to x (goal.Behind j) _ h b = absurd h

  behind-from : (x : ℕ) (g : Goal) (w : written.Goal) → IsGoalAs t x g w → IsTrue (is_same_goal w (written.Behind c)) → IsTrue (is_behind_at i g)
  behind-from x g (written.Synthesized a) h b = absurd (cc)
  behind-from x g (written.Inherited a) h b = absurd (cc)
  behind-from x g (written.Start a) h b = absurd (cc)
  behind-from x g written.Output h b = absurd (cc)
  behind-from x g (written.Message k) h b = absurd (cc)
  behind-from x (goal.Behind j) (written.Behind a) h b = eq-eqb j i (place-of j a h (eqb-true a c b))
  behind-from x _ (written.Behind a) h b = absurd h

  behind-kind : (g : Goal) → IsTrue (is_behind_at i g) → (kind_of g ≡ 2) × (number_in g ≡ i)
  behind-kind (goal.Behind j) b = (refl, eqb-true j i b)
  behind-kind (goal.Attr id) b = absurd (cc)
  behind-kind (goal.Start j) b = absurd (cc)
  behind-kind goal.Out b = absurd (cc)
  behind-kind (goal.Message j) b = absurd (cc)

  module _ (p : PlainRule) (es : List Entry) (fs : List Force) (entries : AreEntriesOf t p es) (forced : (f : Force) → Contains fs f ↔ IsForced t.spec p f) where
    abbrev comp_number : Option Force → Option ℕ
    comp_number = option_map (λ (f : Force). f.comp.number)

    pub start-same : number_of (starts_at i) es ≡ comp_number (force_for fs 0 (written.Start c))
    start-same = number-same t p es fs entries forced (is_start_at i) (written.Start c) 1 i start-kind start-to start-from

    pub assigned-same : number_of (assigns_at i) es ≡ comp_number (force_for fs 0 (written.Behind c))
    assigned-same = number-same t p es fs entries forced (is_behind_at i) (written.Behind c) 2 i behind-kind behind-to behind-from

    -- what comes from behind these children
    abbrev as_behind : Option Force → Option ℕ → Term
    as_behind o l = elim l [ None ↦ elim o [ Some f ↦ Copied f.holder f.comp | None ↦ Read 0 (Front c) ] | Some j ↦ Read j (Behind c) ]

    pub source-term : (o : Option Force) (l : Option ℕ) → ((j : ℕ) → l ≡ Some j → (x : ℕ) × (symbol_at p j ≡ Some x)) → IsTermAs t p (term_of i (source_of (comp_number o) l)) (as_behind o l)
    source-term o (Some j) there = let s = there j refl in (refl, (s.0, s.1, (d, declared, called)))
    source-term (Some f) None there = refl
    source-term None None there = (refl, (p.left, refl, (d, declared, called)))

    -- what the left side has behind
    abbrev as_left : Bool → Option Force → Option Force → Option ℕ → Term
    as_left inner a o l = elim a [ Some f ↦ Copied f.holder f.comp | None ↦ if not inner || is_some o then Read 0 (Front c) else as_behind o l ]

    pub left-term : (inner : Bool) (a o : Option Force) (l : Option ℕ) → ((j : ℕ) → l ≡ Some j → (x : ℕ) × (symbol_at p j ≡ Some x))
        → IsTermAs t p (term_of i (behind_source inner (comp_number o) (comp_number a) l)) (as_left inner a o l)
    left-term inner (Some f) o l there = refl
    left-term false None o l there = (refl, (p.left, refl, (d, declared, called)))
    left-term true None (Some f) l there = (refl, (p.left, refl, (d, declared, called)))
    left-term true None None l there = source-term None l there

pub last-in : (xs : List ℕ) (j : ℕ) → last_of xs ≡ Some j → Contains xs j
last-in [] j e = absurd (none-some _ e)
last-in (k ∷ []) j e = subst (λ z. Contains (k ∷ []) z) (same_Some _ _ e) (contains-here k [])
last-in (k ∷ l ∷ ks) j e = contains-later k j (l ∷ ks) (last-in (l ∷ ks) j e)

-- these places are those of children
pub places-at : (test : ℕ → Bool) (p : PlainRule) (j : ℕ) → Contains (places test p) j → (x : ℕ) × (symbol_at p j ≡ Some x)
places-at test p j m =
    let (z, among, same) = contains-map (λ (x : ℕ × ℕ). x.0) (filter (λ (x : ℕ × ℕ). test x.1) (enumerated 1 p.right)) j m in
    let (k, number, at) = enumerated-place 1 z.0 z.1 p.right (filter-part (λ (x : ℕ × ℕ). test x.1) (enumerated 1 p.right) z among) in
    let e : j ≡ suc k = sym same ∙ number ∙ (omega arith) in
    (z.1, ap (symbol_at p) e ∙ at)

pub needing-same : (row : List Bool) (right : List SymId) (p : PlainRule) (test : ℕ → Bool) → map (λ (s : SymId). s.0) right ≡ p.right → ((x : ℕ) → is_in row x ≡ test x) → needing row right ≡ places test p
needing-same row right p test same agree =
    ap (λ (r : List ℕ). map (λ (x : ℕ × ℕ). x.0) (filter (λ (x : ℕ × ℕ). is_in row x.1) (enumerated 1 r))) same
    ∙ ap (map (λ (x : ℕ × ℕ). x.0)) (filter_agree (λ (x : ℕ × ℕ). is_in row x.1) (λ (x : ℕ × ℕ). test x.1) (λ x. agree x.1) (enumerated 1 p.right))
