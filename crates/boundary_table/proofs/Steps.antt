-- Each kind of step keeps the rule, from every state that meets it.
use Rattle.std.proofs.Common.{◌≡◌, ◌≢◌, ℕ, zero, suc, ◌+◌, ◌*◌, ◌<◌, eqb, cond, Bool, true, false, List, [], ◌∷◌, ◌++◌, get_or, set, length, sym, refl, ap, ◌∙◌, subst, inl, inr, ◌⊎◌, ⊎_elim, arith, get_or-set_same, get_or-set_other, length-set, eq-eqb, ne_eqb}
use mathlib.Core.Logic.{dite}
use native.Mathlib.Decide.{ℕ_discrete}
use mathlib.Core.Option.{none, some, some-injective, some-ne-none}
use lib.ListN.{get_elem?}
use prog.Atomic.{either}
use Rattle.atomic_table.proofs.Lists.{at_set, at_snoc, exchanged}
use Rattle.atomic_table.specs.Table.{Me, step, keeps, stepped, Allows, Splits, Joins}
use Rattle.boundary_table.specs.declared.plays.View.{View}
use Rattle.lido_base.specs.declared.value.Value.{Value}
use Rattle.boundary_table.specs.Codes.{code}
use Rattle.boundary_table.proofs.Lists.{set_same, mem_cases, mem_more, mem_here, mem_both, mem_left, mem_right, each_set, each_snoc, code_nonzero}
use Rattle.boundary_table.specs.Rule.{Place, mem, owner, blank, opened, Fresh, Good, Apart, Filled, Kept, after_load, after_store, after_draw, joined, spent, looked, stored, drawn, learned}

abbrev M : Type 0
M = Me (Unit {0}) View

only_blank : (id : ℕ) (v : View) → get_elem? (blank ∷ []) id ≡ some v → (id ≡ 0) × (v.stage ≡ 0)
only_blank zero v h = (refl, sym (ap (λ (u : View). u.stage) (some-injective blank v h)))
only_blank (suc i) v h = absurd (some-ne-none v (sym h))

fresh_blank : (n : ℕ) (s : Place) (id : ℕ) (v : View) → Fresh n s → get_elem? s.views id ≡ some v → (id ≡ 0) × (v.stage ≡ 0)
fresh_blank n s id v fresh at = only_blank id v (subst (λ (l : List View). get_elem? l id ≡ some v) fresh.alone at)

-- a table with a desk has contents
filled_at : (n : ℕ) (s : Place) (id : ℕ) (v : View) → v.stage ≡ 1 → get_elem? s.views id ≡ some v → Kept n s → (contents : List Value) × (owners : List ℕ) × Filled n contents owners s
filled_at n s id v desk at kept = ⊎_elim (λ fresh. let blank_there = (fresh_blank n s id v fresh at).1 in absurd (omega arith)) (λ t. t) kept

abbrev Pairs : List View → Type 0
Pairs views = (i j : ℕ) (v u : View) → get_elem? views i ≡ some v → get_elem? views j ≡ some u → i ≢ j → Apart v u

pairs_set : (views : List View) (id : ℕ) (w : View) → ((j : ℕ) (u : View) → get_elem? views j ≡ some u → j ≢ id → Apart w u) → Pairs views → Pairs (set views id w)
pairs_set views id w mine all i j v u a b ne = ⊎_elim
    (λ p. ⊎_elim
    (λ q. absurd (ne (p.0 ∙ sym q.0)))
    (λ q. let P : View → Type 0 = λ y. Apart y u in subst P p.1 (mine j u q.1 q.0))
    (at_set views id j w u b))
    (λ p. ⊎_elim
    (λ q. let P : View → Type 0 = λ y. Apart v y in subst P q.1 (λ sv su k h g. mine i v p.1 p.0 su sv k g h))
    (λ q. all i j v u p.1 q.1 ne)
    (at_set views id j w u b))
    (at_set views id i w v a)

module _ (n : ℕ) (contents : List Value) (owners : List ℕ) (s : Place) (id : ℕ) (v : View) where
  -- a change of one view that leaves its numbers as they are
  quiet : (u : View) → (u.stage ≡ 1 → v.stage ≡ 1) → u.numbers ≡ v.numbers → Good n contents owners s.words u → Filled n contents owners s → get_elem? s.views id ≡ some v
      → Filled n contents owners (record { words = s.words; homes = s.homes; views = set s.views id u })
  quiet u stage numbers good f at = record {
    size = f.size;
    nonzero = f.nonzero;
    fits = f.fits;
    owned = f.owned;
    good = each_set (Good n contents owners s.words) s.views id u good f.good;
    apart = pairs_set s.views id u (λ j y there ne su sy k h g.
        let L : List ℕ → Type 0 = λ l. mem k l ≡ true in f.apart id j v y at there (λ e. ne (sym e)) (stage su) sy k (subst L numbers h) g) f.apart;
  }

seen : (n w x : ℕ) (words : List ℕ) (contents : List Value) (known : List ℕ) → w < n → x ≡ get_or words w 0 → (x ≡ 0) ⊎ (x ≡ code contents w) → ((y : ℕ) → mem y known ≡ true → (y < n) × (get_or words y 0 ≡ code contents y)) → (b : Bool) → eqb x 0 ≡ b
    → (y : ℕ) → mem y (cond b known (w ∷ known)) ≡ true → (y < n) × (get_or words y 0 ≡ code contents y)
seen n w x words contents known room is fits old true e y h = old y h
seen n w x words contents known room is fits old false e y h = ⊎_elim
    (λ same. let P : ℕ → Type 0 = λ z. (z < n) × (get_or words z 0 ≡ code contents z) in
    subst P same (room, sym is ∙ ⊎_elim (λ none. absurd (cc (e, eq-eqb x 0 none))) (λ t. t) fits))
    (λ there. old y there)
    (mem_cases w y known h)

at_load : (n : ℕ) (contents : List Value) (owners : List ℕ) (s : Place) (slots id : ℕ) (me : M) (w : ℕ) → me.0.stage ≡ 1 → w < n → Filled n contents owners s → get_elem? s.views id ≡ some me.0
    → Kept n (stepped s w (get_or s.words w 0) id me.1 (after_load me.0 w (get_or s.words w 0)) keeps) × looked (step slots w 0 0 none) me (get_or s.words w 0) (after_load me.0 w (get_or s.words w 0), me.1)
at_load n contents owners s slots id me w desk room f at =
    let x : ℕ = get_or s.words w 0 in
    let g = f.good id me.0 at in
    let same = g.same desk in
    let u : View = after_load me.0 w x in
    let good : Good n contents owners s.words u = record { begun = g.begun; same = g.same; knows = λ _. seen n w x s.words contents me.0.known room refl (f.fits w room) (g.knows desk) (eqb x 0) refl; below = g.below; stored = g.stored } in
    let F : List ℕ → Type 0 = λ l. Kept n (record { words = l; homes = s.homes; views = set s.views id u }) in
    let C : List Value → Type 0 = λ l. (x ≡ 0) ⊎ (x ≡ code l w) in
    let D : List Value → Type 0 = λ l. x ≡ code l w in (
      subst F (sym (set_same s.words w)) (inr (contents, owners, quiet n contents owners s id me.0 u (λ e. e) refl good f at)),
      (
        refl,
        subst C (sym same.0) (f.fits w room),
        (λ knows. subst D (sym same.0) (g.knows desk w knows).1),
      ),
    )

pub loads : (n slots id : ℕ) (me : M) (w : ℕ) → me.0.stage ≡ 1 → w < n → Allows (Kept n) slots id me w (λ x. x) (looked (step slots w 0 0 none) me)
loads n slots id me w desk room s either _ at _ =
    let kept = filled_at n s id me.0 desk at either in
    let t = at_load n kept.0 kept.1 s slots id me w desk room kept.2 at in (after_load me.0 w (get_or s.words w 0), keeps, tt, t.0, t.1)

-- a store to a word whose owner is among the desk's numbers
at_store : (n : ℕ) (contents : List Value) (owners : List ℕ) (s : Place) (id : ℕ) (me : M) (w new : ℕ) → me.0.stage ≡ 1 → w < n → new ≡ code me.0.contents w → mem (owner me.0.owners w) me.0.numbers ≡ true → Filled n contents owners s → get_elem? s.views id ≡ some me.0
    → Kept n (stepped s w new id me.1 (after_store me.0 w) keeps)
at_store n contents owners s id me w new desk room is own f at =
    let g = f.good id me.0 at in
    let same = g.same desk in
    let size = f.size in
    let here : w < length s.words = omega arith in
    let words : List ℕ = set s.words w new in
    let u : View = after_store me.0 w in
    let C : List Value → Type 0 = λ l. new ≡ code l w in
    let is' = subst C same.0 is in
    let O : List ℕ → Type 0 = λ l. mem (owner l w) me.0.numbers ≡ true in
    let own' = subst O same.1 own in
    let value : (y : ℕ) → (y ≡ w → get_or words y 0 ≡ code contents y) × (y ≢ w → get_or words y 0 ≡ get_or s.words y 0) = λ y. (
      (λ e. let P : ℕ → Type 0 = λ z. get_or words z 0 ≡ code contents z in subst P (sym e) (get_or-set_same s.words w new 0 here ∙ is')),
      (λ ne. get_or-set_other s.words w y new 0 ne),
    ) in
    let counter : get_or words n 0 ≡ get_or s.words n 0 = (value n).1 (λ e. omega arith) in
    let knows : (v : View) → Good n contents owners s.words v → v.stage ≡ 1 → (y : ℕ) → mem y v.known ≡ true → (y < n) × (get_or words y 0 ≡ code contents y) = λ v o one y h.
    let k = o.knows one y h in dite (ℕ_discrete y w) (λ e. (k.0, (value y).0 e)) (λ ne. (k.0, (value y).1 ne ∙ k.1)) in
    let good : Good n contents owners words u = record {
      begun = g.begun;
      same = g.same;
      knows = λ _ y h. ⊎_elim
          (λ e. let P : ℕ → Type 0 = λ z. (z < n) × (get_or words z 0 ≡ code contents z) in subst P e (room, (value w).0 refl))
          (λ there. knows me.0 g desk y there)
          (mem_cases w y me.0.known h);
      below = λ _ k h. let b = g.below desk k h in omega arith;
      stored = λ _ y room' set_y mine. dite (ℕ_discrete y w)
          (λ e. let P : ℕ → Type 0 = λ z. mem z (w ∷ me.0.mine) ≡ true in subst P (sym e) (mem_here w me.0.mine))
          (λ ne. mem_more w y me.0.mine (g.stored desk y room' (λ z. set_y ((value y).1 ne ∙ z)) mine));
    } in
    let others : (j : ℕ) (v : View) → get_elem? (set s.views id u) j ≡ some v → Good n contents owners words v = λ j v there. ⊎_elim
    (λ t. let P : View → Type 0 = λ y. Good n contents owners words y in subst P t.1 good)
    (λ t.
    let o = f.good j v t.1 in record {
      begun = o.begun;
      same = o.same;
      knows = knows v o;
      below = λ one k h. let b = o.below one k h in omega arith;
      stored = λ one y room' set_y mine. dite (ℕ_discrete y w)
          (λ e. let P : ℕ → Type 0 = λ z. mem (owner owners z) v.numbers ≡ true in absurd (f.apart id j me.0 v at t.1 (λ z. t.0 (sym z)) desk one (owner owners w) own' (subst P e mine)))
          (λ ne. o.stored one y room' (λ z. set_y ((value y).1 ne ∙ z)) mine);
    })
    (at_set s.views id j u v there) in inr (
      contents,
      owners,
      record {
        size = length-set s.words w new ∙ f.size;
        nonzero = f.nonzero;
        fits = λ y room'. dite (ℕ_discrete y w) (λ e. inr ((value y).0 e)) (λ ne. let P : ℕ → Type 0 = λ z. (z ≡ 0) ⊎ (z ≡ code contents y) in subst P (sym ((value y).1 ne)) (f.fits y room'));
        owned = λ y room' set_y. dite (ℕ_discrete y w)
            (λ e. let b = g.below desk (owner owners w) own' in let P : ℕ → Type 0 = λ z. owner owners z < get_or words n 0 in subst P (sym e) (omega arith))
            (λ ne. let b = f.owned y room' (λ z. set_y ((value y).1 ne ∙ z)) in omega arith);
        good = others;
        apart = pairs_set s.views id u (λ j y there ne su sy k h q. f.apart id j me.0 y at there (λ e. ne (sym e)) su sy k h q) f.apart;
      },
    )

pub stores : (n slots id : ℕ) (me : M) (w new : ℕ) → me.0.stage ≡ 1 → w < n → new ≡ code me.0.contents w → mem (owner me.0.owners w) me.0.numbers ≡ true
    → Allows (Kept n) slots id me w (λ x. new) (λ x. stored (step slots w new 0 none) me new)
stores n slots id me w new desk room is own s there _ at _ =
    let kept = filled_at n s id me.0 desk at there in (after_store me.0 w, keeps, tt, at_store n kept.0 kept.1 s id me w new desk room is own kept.2 at, refl)

only_one : (k y : ℕ) → mem y (k ∷ []) ≡ true → k ≡ y
only_one k y h = ⊎_elim (λ e. e) (λ there. absurd (cc)) (mem_cases k y [] h)

-- the counter was at k
at_hit : (n : ℕ) (contents : List Value) (owners : List ℕ) (s : Place) (id : ℕ) (v u : View) (k : ℕ) → v.stage ≡ 1 → get_or s.words n 0 ≡ k → u.stage ≡ v.stage → u.numbers ≡ k ∷ [] → u.known ≡ v.known → u.mine ≡ v.mine → u.contents ≡ v.contents → u.owners ≡ v.owners
    → Filled n contents owners s → get_elem? s.views id ≡ some v → Filled n contents owners (record { words = set s.words n (k + 1); homes = s.homes; views = set s.views id u })
at_hit n contents owners s id v u k desk is stage numbers known mine' contents' owners' f at =
    let g = f.good id v at in
    let same = g.same desk in
    let size = f.size in
    let here : n < length s.words = omega arith in
    let words : List ℕ = set s.words n (k + 1) in
    let value : (y : ℕ) → y < n → get_or words y 0 ≡ get_or s.words y 0 = λ y room. get_or-set_other s.words n y (k + 1) 0 (λ e. omega arith) in
    let counter : get_or words n 0 ≡ k + 1 = get_or-set_same s.words n (k + 1) 0 here in
    let L : List ℕ → ℕ → Type 0 = λ l y. mem y l ≡ true in
    let good : Good n contents owners words u = record {
      begun = λ z. g.begun (sym stage ∙ z);
      same = λ _. (contents' ∙ same.0, owners' ∙ same.1);
      knows = λ _ y h. let t = g.knows desk y (ap (λ l. mem y l) (sym known) ∙ h) in (t.0, value y t.0 ∙ t.1);
      below = λ _ y h. let e = only_one k y (ap (λ l. mem y l) (sym numbers) ∙ h) in omega arith;
      stored = λ _ y room set_y own.
          let e = only_one k (owner owners y) (ap (λ l. mem (owner owners y) l) (sym numbers) ∙ own) in
          let b = f.owned y room (λ z. set_y (value y room ∙ z)) in absurd (omega arith);
    } in
    let others : (j : ℕ) (y : View) → get_elem? s.views j ≡ some y → Good n contents owners words y = λ j y there. let o = f.good j y there in record {
      begun = o.begun;
      same = o.same;
      knows = λ one z h. let t = o.knows one z h in (t.0, value z t.0 ∙ t.1);
      below = λ one z h. let b = o.below one z h in omega arith;
      stored = λ one z room set_z own. o.stored one z room (λ e. set_z (value z room ∙ e)) own;
    } in
    record {
      size = length-set s.words n (k + 1) ∙ f.size;
      nonzero = f.nonzero;
      fits = λ y room. let P : ℕ → Type 0 = λ z. (z ≡ 0) ⊎ (z ≡ code contents y) in subst P (sym (value y room)) (f.fits y room);
      owned = λ y room set_y. let b = f.owned y room (λ z. set_y (value y room ∙ z)) in omega arith;
      good = each_set (Good n contents owners words) s.views id u good others;
      apart = pairs_set s.views id u (λ j y there ne su sy z h q.
          let e = only_one k z (ap (λ l. mem z l) (sym numbers) ∙ h) in
          let b = (f.good j y there).below sy z q in omega arith) f.apart;
    }

pub draws : (n slots id : ℕ) (me : M) (k : ℕ) → me.0.stage ≡ 1 → me.0.numbers ≡ [] → Allows (Kept n) slots id me n (λ x. either (eqb x k) (k + 1) x) (drawn (step slots n k (k + 1) none) me)
draws n slots id me k desk none_yet s there _ at _ =
    let kept = filled_at n s id me.0 desk at there in
    let x : ℕ = get_or s.words n 0 in
    let u : View = after_draw me.0 n k x in
    let F : ℕ → Type 0 = λ m. Kept n (record { words = set s.words n m; homes = s.homes; views = set s.views id u }) in (
      u,
      keeps,
      tt,
      exchanged x k (k + 1) F
          (λ hit. inr (kept.0, kept.1, at_hit n kept.0 kept.1 s id me.0 u k desk hit refl (ap (λ b. cond b (k ∷ me.0.numbers) me.0.numbers) (eq-eqb x k hit) ∙ ap (λ l. k ∷ l) none_yet) refl refl refl refl kept.2 at))
          (λ miss.
          let g = kept.2.good id me.0 at in
          let numbers : u.numbers ≡ me.0.numbers = ap (λ b. cond b (k ∷ me.0.numbers) me.0.numbers) (ne_eqb x k miss) in
          let good : Good n kept.0 kept.1 s.words u = record {
            begun = g.begun;
            same = g.same;
            knows = g.knows;
            below = λ one y h. g.below one y (ap (λ l. mem y l) (sym numbers) ∙ h);
            stored = λ one y room set_y own. g.stored one y room set_y (ap (λ l. mem (owner kept.1 y) l) (sym numbers) ∙ own);
          } in
          let W : List ℕ → Type 0 = λ l. Kept n (record { words = l; homes = s.homes; views = set s.views id u }) in
          subst W (sym (set_same s.words n)) (inr (kept.0, kept.1, quiet n kept.0 kept.1 s id me.0 u (λ e. e) numbers good kept.2 at))),
      refl,
    )

no_numbers : (v : View) (k : ℕ) → v.numbers ≡ [] → mem k v.numbers ≡ true → ⊥
no_numbers v k none_yet h = let e = ap (λ l. mem k l) (sym none_yet) ∙ h in cc

pairs_snoc : (views : List View) (w : View) → w.numbers ≡ [] → Pairs views → Pairs (views ++ w ∷ [])
pairs_snoc views w none_yet all i j v u a b ne sv su k h q =
    let N : View → Type 0 = λ y. mem k y.numbers ≡ true → ⊥ in
    ⊎_elim
    (λ p. ⊎_elim (λ r. all i j v u p r ne sv su k h q) (λ e. subst N e (no_numbers w k none_yet) q) (at_snoc views w u j b))
    (λ e. subst N e (no_numbers w k none_yet) h)
    (at_snoc views w v i a)

pub parts : (n id : ℕ) (v : View) → v.stage ≡ 1 → v.numbers ≡ [] → Splits (Kept n) id v v v
parts n id v desk none_yet s there at =
    let kept = filled_at n s id v desk at there in
    let f = kept.2 in
    let g = f.good id v at in
    let G : View → Type 0 = Good n kept.0 kept.1 s.words in
    let mid = each_set G s.views id v g f.good in
    let apart = pairs_set s.views id v (λ j y there ne sy su k h q. no_numbers v k none_yet h) f.apart in inr (
      kept.0,
      kept.1,
      record {
        size = f.size;
        nonzero = f.nonzero;
        fits = f.fits;
        owned = f.owned;
        good = λ j y there. ⊎_elim (λ t. mid j y t) (λ t. subst G t g) (at_snoc (set s.views id v) v y j there);
        apart = pairs_snoc (set s.views id v) v none_yet apart;
      },
    )

-- two desks have become one
at_meet : (n : ℕ) (contents : List Value) (owners : List ℕ) (s : Place) (id : ℕ) (v : View) (other : ℕ) (u : View) → v.stage ≡ 1 → u.stage ≡ 1 → other ≢ id → Filled n contents owners s → get_elem? s.views id ≡ some v → get_elem? s.views other ≡ some u
    → Filled n contents owners (record { words = s.words; homes = s.homes; views = set (set s.views id (joined v u)) other spent })
at_meet n contents owners s id v other u desk desk' two f at there =
    let g = f.good id v at in
    let o = f.good other u there in
    let both : View = joined v u in
    let G : View → Type 0 = Good n contents owners s.words in
    let good : G both = record {
      begun = g.begun;
      same = g.same;
      knows = λ _ y h. ⊎_elim (g.knows desk y) (o.knows desk' y) (mem_both y v.known u.known h);
      below = λ _ k h. ⊎_elim (g.below desk k) (o.below desk' k) (mem_both k v.numbers u.numbers h);
      stored = λ _ y room set_y own. ⊎_elim
          (λ h. mem_left y v.mine u.mine (g.stored desk y room set_y h))
          (λ h. mem_right y v.mine u.mine (o.stored desk' y room set_y h))
          (mem_both (owner owners y) v.numbers u.numbers own);
    } in
    let over : G spent = record { begun = λ z. omega arith; same = λ z. absurd (omega arith); knows = λ z. absurd (omega arith); below = λ z. absurd (omega arith); stored = λ z. absurd (omega arith) } in
    let mid = set s.views id both in
    let away : (j : ℕ) (y : View) → get_elem? s.views j ≡ some y → j ≢ id → j ≢ other → Apart both y = λ j y here ne ne' _ sy k h q. ⊎_elim
    (λ mine. f.apart id j v y at here (λ e. ne (sym e)) desk sy k mine q)
    (λ theirs. f.apart other j u y there here (λ e. ne' (sym e)) desk' sy k theirs q)
    (mem_both k v.numbers u.numbers h) in
    let spent_apart : (y : View) → spent ≡ y → y.stage ≡ 1 → ⊥ = λ y e sy. let st = ap (λ (z : View). z.stage) e in omega arith in
    record {
      size = f.size;
      nonzero = f.nonzero;
      fits = f.fits;
      owned = f.owned;
      good = each_set G mid other spent over (each_set G s.views id both good f.good);
      apart = λ i j x y a b ne sx sy k h q. ⊎_elim
          (λ p. spent_apart x p.1 sx)
          (λ p. ⊎_elim
          (λ r. spent_apart y r.1 sy)
          (λ r. ⊎_elim
          (λ p'. ⊎_elim
          (λ r'. ne (p'.0 ∙ sym r'.0))
          (λ r'. let X : View → Type 0 = λ z. z.stage ≡ 1 → mem k z.numbers ≡ true → ⊥ in subst X p'.1 (λ sz hz. away j y r'.1 r'.0 r.0 sz sy k hz q) sx h)
          (at_set s.views id j both y r.1))
          (λ p'. ⊎_elim
          (λ r'. let X : View → Type 0 = λ z. z.stage ≡ 1 → mem k z.numbers ≡ true → ⊥ in subst X r'.1 (λ sz hz. away i x p'.1 p'.0 p.0 sz sx k hz h) sy q)
          (λ r'. f.apart i j x y p'.1 r'.1 ne sx sy k h q)
          (at_set s.views id j both y r.1))
          (at_set s.views id i both x p.1))
          (at_set mid other j spent y b))
          (at_set mid other i spent x a);
    }

pub meets : (n id : ℕ) (v : View) (other : ℕ) (u : View) → v.stage ≡ 1 → u.stage ≡ 1 → Joins (Kept n) id v other u (joined v u) spent
meets n id v other u desk desk' s either at two at' =
    let kept = filled_at n s id v desk at either in
    let there = ⊎_elim (λ t. absurd (two t.0)) (λ t. t.1) (at_set s.views id other (joined v u) u at') in
    inr (kept.0, kept.1, at_meet n kept.0 kept.1 s id v other u desk desk' two kept.2 at there)

-- a load that changes nothing, and tells what the desk owns
pub learns : (n slots id : ℕ) (me : M) (w : ℕ) → me.0.stage ≡ 1 → Allows (Kept n) slots id me w (λ x. x) (learned (step slots w 0 0 none) me)
learns n slots id me w desk s there _ at _ =
    let kept = filled_at n s id me.0 desk at there in
    let f = kept.2 in
    let g = f.good id me.0 at in
    let same = g.same desk in
    let F : List ℕ → Type 0 = λ l. Kept n (record { words = l; homes = s.homes; views = set s.views id me.0 }) in
    let owns : (y : ℕ) → mem y me.0.known ≡ true → mem (owner me.0.owners y) me.0.numbers ≡ true → mem y me.0.mine ≡ true = λ y known own.
    let k = g.knows desk y known in
    let O : List ℕ → Type 0 = λ l. mem (owner l y) me.0.numbers ≡ true in
    g.stored desk y k.0 (λ z. f.nonzero y k.0 (sym k.1 ∙ z)) (subst O same.1 own) in
    (me.0, keeps, tt, subst F (sym (set_same s.words w)) (inr (kept.0, kept.1, quiet n kept.0 kept.1 s id me.0 me.0 (λ e. e) refl g f at)), (refl, owns))

-- the first desk is cut from the blank seat
pub opens : (n id : ℕ) (contents : List Value) (owners : List ℕ) → n ≡ 2 * length contents → Splits (Kept n) id blank spent (opened contents owners)
opens n id contents owners is s kept at = ⊎_elim
    (λ fresh.
    let G : View → Type 0 = Good n contents owners s.words in
    let over : G spent = record { begun = λ z. omega arith; same = λ z. absurd (omega arith); knows = λ z. absurd (omega arith); below = λ z. absurd (omega arith); stored = λ z. absurd (omega arith) } in
    let first : G (opened contents owners) = record { begun = λ z. omega arith; same = λ _. (refl, refl); knows = λ _ w h. absurd (cc); below = λ _ k h. absurd (cc); stored = λ _ w room set h. absurd (cc) } in
    let all_over : (j : ℕ) (v : View) → get_elem? (set s.views id spent) j ≡ some v → G v = λ j v there. ⊎_elim
    (λ e. subst G e.1 over)
    (λ e. absurd (e.0 ((fresh_blank n s j v fresh e.1).0 ∙ sym (fresh_blank n s id blank fresh at).0)))
    (at_set s.views id j spent v there) in
    let alone : Pairs s.views = λ i j v u a b ne. absurd (ne ((fresh_blank n s i v fresh a).0 ∙ sym (fresh_blank n s j u fresh b).0)) in
    let apart : Pairs (set s.views id spent) = pairs_set s.views id spent (λ j u there ne sv su k h q. absurd (cc)) alone in
    inr (
      contents,
      owners,
      record {
        size = fresh.size;
        nonzero = λ w room. code_nonzero contents w (omega arith);
        fits = λ w room. inl (fresh.zero_all w);
        owned = λ w room set. absurd (set (fresh.zero_all w));
        good = each_snoc G (set s.views id spent) (opened contents owners) first all_over;
        apart = pairs_snoc (set s.views id spent) (opened contents owners) refl apart;
      },
    ))
    (λ t. absurd ((t.2.good id blank at).begun refl))
    kept
