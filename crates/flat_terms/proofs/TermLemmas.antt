-- What added attributes are given and depend on, by the tables.
use Rattle.std.specs.List.{AllZip}
use Rattle.std.proofs.Common.{◌≡◌, ℕ, zero, suc, ◌+◌, ◌-◌, ◌<◌, ◌≤◌, List, [], ◌∷◌, ◌++◌, length, map, take, drop, get_or, Some, None, refl, sym, ap, subst, ◌∙◌, arith, append-nil}
use Rattle.std.proofs.lemmas.List.{take_more, take_all, drop_more, drop_all, length-drop, map-append}
use Rattle.std.proofs.lemmas.Option.{none-some, same_Some}
use Rattle.std.proofs.lemmas.Slice.Zip.{AllZip-long}
use Rattle.lido_syntax.specs.declared.spec.Comp.{Comp}
use Rattle.lido_syntax.specs.declared.spec.With.{With}
use Rattle.lido_syntax.specs.Production.{name_of}
use Rattle.flat_grammar.specs.declared.flat.Occ.{Occ}
use Rattle.flat_grammar.specs.declared.flat.FlatExpr.{FlatExpr}
use Rattle.flat_grammar.specs.declared.flat.FlatExpr.TheVariants as flat
use Rattle.numbered_computations.specs.declared.table.Holder.{Holder as Body}
use Rattle.numbered_computations.specs.Held.{held_at}
use Rattle.rule_tables.specs.declared.table.Tables.{Tables}
use Rattle.rule_tables.specs.declared.extra.SlotAt.{SlotAt}
use Rattle.rule_tables.specs.declared.extra.Term.TheVariants as given_as
use Rattle.rule_tables.specs.declared.extra.Piece.{Piece}
use Rattle.rule_tables.specs.declared.extra.Piece.TheVariants as piece
use Rattle.rule_tables.specs.Slots.{Slot, Out}
use Rattle.rule_tables.specs.Shares.{Term, Copied, Void, Comb, Single, Null, Empty}
use Rattle.rule_tables.specs.Shares as share
use Rattle.rule_tables.specs.Copies.{call, nothing}
use Rattle.rule_tables.specs.ExtraOf.{IsSlotOf, IsPieceAs, AreJoined, IsTermAs}
use Rattle.rule_tables.proofs.PlainLemmas.{zip-append}
use Rattle.flat_terms.specs.declared.site.Site.{Site}
use Rattle.flat_terms.specs.declared.tails.Tails.{Tails}
use Rattle.flat_terms.specs.declared.terms.Added.{Added}
use Rattle.flat_terms.specs.Names.{holder_as}
use Rattle.flat_terms.specs.Scene.{Scene, occ, computed, computed_needs, value_of, value_needs, given, given_needs}
use Rattle.flat_terms.specs.Sites.{IsKnownWith, IsNamedComp}
use Rattle.flat_terms.specs.Folds.{single_at, comb_at, null_at}
use Rattle.flat_terms.specs.Terms.{with_in, lone_read, HasWith, IsJoinedWith, IsNamedAs, slot_of_piece, slots_of_pieces}

at-both : {A B : Type 0} (R : A → B → Type 0) (xs : List A) (ys : List B) (i : ℕ) (d : A) (e : B) → AllZip R xs ys → i < length xs → R (get_or xs i d) (get_or ys i e)
at-both R [] ys i d e z h = absurd (omega (arith, h))
at-both R (x ∷ xs) [] i d e z h = absurd z
at-both R (x ∷ xs) (y ∷ ys) zero d e z h = z.0
at-both R (x ∷ xs) (y ∷ ys) (suc i) d e z h = at-both R xs ys i d e z.1 (omega (arith, h))

-- one more attribute
pub slots-more : {A : Type 0} (R : A → ℕ × Slot → Type 0) (f : ℕ × Slot → Occ) (xs : List A) (ys : List (ℕ × Slot)) (i : ℕ) (d : A) (old new : List Occ) (o : Occ) → AllZip R xs ys → i < length xs
    → ((y : ℕ × Slot) → R (get_or xs i d) y → o ≡ f y) → old ≡ map f (take i ys) → new ≡ old ++ o ∷ [] → new ≡ map f (take (i + 1) ys)
slots-more R f xs ys i d old new o z h is before after =
    let long = AllZip-long R xs ys z in let there : i < length ys = omega (arith, h, long) in
    after ∙ ap (λ (l : List Occ). l ++ o ∷ []) before ∙ ap (λ (x : Occ). map f (take i ys) ++ x ∷ []) (is (get_or ys i (0, Out)) (at-both R xs ys i d (0, Out) z h))
    ∙ sym (ap (map f) (take_more ys i (0, Out) there) ∙ map-append f (take i ys) (get_or ys i (0, Out) ∷ []))

-- all are done
pub slots-done : {A : Type 0} (R : A → ℕ × Slot → Type 0) (f : ℕ × Slot → Occ) (xs : List A) (ys : List (ℕ × Slot)) (i : ℕ) → AllZip R xs ys → length xs ≤ i → map f (take i ys) ≡ map f ys
slots-done R f xs ys i z h = let long = AllZip-long R xs ys z in ap (map f) (take_all i ys (omega (arith, h, long)))

module _ (scene : Scene) (t : Tables) where
  -- the occurrence is what the slot names
  abbrev IsThere : SlotAt → Occ → Type 0
  IsThere at o = (s : ℕ × Slot) → IsSlotOf t scene.plain at s → o ≡ occ scene s.0 s.1

  pub piece-read : (m : ℕ) (at : SlotAt) (o : Occ) → IsThere at o → (e : Term) → IsPieceAs t scene.plain m (piece.Read at) e → flat.Read o ≡ value_of scene e
  piece-read m at o there (share.Read k s) h = ap (λ (x : Occ). flat.Read x) (there (k, s) h)
  piece-read m at o there e h = absurd h

  pub piece-single : (with : With) (m : ℕ) (at : SlotAt) (o : Occ) (made : FlatExpr) → IsThere at o → made ≡ single_at scene m with (flat.Read o) → (e : Term) → IsPieceAs t scene.plain m (piece.Single at) e → HasWith with e
      → made ≡ value_of scene e
  piece-single with m at o made there is (Single n f (share.Read k s)) h w =
      let back : with.single ≡ f = sym w.0 in let same = there (k, s) h.1 in
      is ∙ (λ i. call scene.env (h.0 i) (name_of (back i)) (flat.Read (same i) ∷ []))
  piece-single with m at o made there is e h w = absurd h

  pub piece-null : (with : With) (m : ℕ) (made : FlatExpr) → made ≡ null_at scene m with → (e : Term) → IsPieceAs t scene.plain m piece.Null e → HasWith with e → made ≡ value_of scene e
  piece-null with m made is (Null n f) h w = let back : with.null ≡ f = sym w in is ∙ (λ i. call scene.env (h i) (name_of (back i)) [])
  piece-null with m made is e h w = absurd h

  -- one piece more in front of what is joined
  pub joined-more : (with : With) (m : ℕ) (a : Piece) (rest : List Piece) (one made both : FlatExpr) → 1 ≤ length rest
      → ((c : Term) → IsPieceAs t scene.plain m a c → HasWith with c → one ≡ value_of scene c)
      → ((d : Term) → AreJoined t scene.plain m rest d → HasWith with d → made ≡ value_of scene d)
      → both ≡ comb_at scene m with one made → (e : Term) → AreJoined t scene.plain m (a ∷ rest) e → HasWith with e → both ≡ value_of scene e
  joined-more with m a [] one made both some first behind is e h w = absurd (omega (arith, some))
  joined-more with m a (b ∷ more) one made both some first behind is (Comb n f c d) h w =
      let back : with.comb ≡ f = sym w.0 in let left = first c h.1 w.1 in let right = behind d h.2 w.2 in
      is ∙ (λ i. call scene.env (h.0 i) (name_of (back i)) (left i ∷ right i ∷ []))
  joined-more with m a (b ∷ more) one made both some first behind is e h w = absurd h

  pub joined-last : (m : ℕ) (pieces : List Piece) (i : ℕ) (d : Piece) (e : Term) → i + 1 ≡ length pieces → AreJoined t scene.plain m (drop i pieces) e → IsPieceAs t scene.plain m (get_or pieces i d) e
  joined-last m pieces i d e last h =
      subst (λ l. AreJoined t scene.plain m l e) (drop_more pieces i d (omega (arith, last)) ∙ ap (λ l. get_or pieces i d ∷ l) (drop_all (i + 1) pieces (omega (arith, last)))) h

  pub joined-before : (with : With) (m : ℕ) (pieces : List Piece) (k : ℕ) (d : Piece) (one made both : FlatExpr) → 0 < k → k < length pieces
      → ((c : Term) → IsPieceAs t scene.plain m (get_or pieces (k - 1) d) c → HasWith with c → one ≡ value_of scene c)
      → ((e : Term) → AreJoined t scene.plain m (drop k pieces) e → HasWith with e → made ≡ value_of scene e)
      → both ≡ comb_at scene m with one made → (e : Term) → AreJoined t scene.plain m (drop (k - 1) pieces) e → HasWith with e → both ≡ value_of scene e
  joined-before with m pieces k d one made both before within first behind is e h w =
      let size = length-drop k pieces in
      let next : k - 1 + 1 ≡ k = omega (arith, before) in
      joined-more with m (get_or pieces (k - 1) d) (drop k pieces) one made both (omega (arith, size, within)) first behind is e
      (subst (λ l. AreJoined t scene.plain m l e) (drop_more pieces (k - 1) d (omega (arith, before, within)) ∙ ap (λ n. get_or pieces (k - 1) d ∷ drop n pieces) next) h) w

  -- a read alone, and what is more
  pub lone-some : (m : ℕ) (pieces : List Piece) (at : SlotAt) (e : Term) → lone_read pieces ≡ Some at → AreJoined t scene.plain m pieces e → IsPieceAs t scene.plain m (piece.Read at) e
  lone-some m [] at e some h = absurd h
  lone-some m (piece.Read x ∷ []) at e some h = subst (λ y. IsPieceAs t scene.plain m (piece.Read y) e) (same_Some _ _ some) h
  lone-some m (a ∷ more) at e some h = absurd (none-some _ some)

  pub lone-none : (site : Site) (added : Added) (m : ℕ) (pieces : List Piece) (e : Term) → lone_read pieces ≡ None → AreJoined t scene.plain m pieces e → IsJoinedWith scene site added m e
      → (with : With) × (with_in added.withs.now m ≡ Some with) × IsKnownWith scene site with × (m ≤ 65535) × HasWith with e
  lone-none site added m (piece.Read at ∷ []) (share.Read k s) none h with = absurd (none-some _ (sym none))
  lone-none site added m [] (share.Read k s) none h with = absurd h
  lone-none site added m (piece.Single at ∷ []) (share.Read k s) none h with = absurd h
  lone-none site added m (piece.Null ∷ []) (share.Read k s) none h with = absurd h
  lone-none site added m (a ∷ b ∷ more) (share.Read k s) none h with = absurd h
  lone-none site added m pieces e none h with = with

  -- what is joined is no written computation
  pub joined-given : (m : ℕ) (pieces : List Piece) (e : Term) → AreJoined t scene.plain m pieces e → (value_of scene e ≡ given scene e) × (value_needs scene e ≡ given_needs scene e)
  joined-given m [] e h = absurd h
  joined-given m (piece.Read at ∷ []) (Copied b c) h = absurd h
  joined-given m (piece.Single at ∷ []) (Copied b c) h = absurd h
  joined-given m (piece.Null ∷ []) (Copied b c) h = absurd h
  joined-given m (a ∷ b ∷ more) (Copied body c) h = absurd h
  joined-given m pieces e h = (refl, refl)

  pub term-read : (at : SlotAt) (o : Occ) → IsThere at o → (e : Term) → IsTermAs t scene.plain (given_as.Read at) e → flat.Read o ≡ given scene e
  term-read at o there (share.Read k s) h = ap (λ (x : Occ). flat.Read x) (there (k, s) h)
  term-read at o there e h = absurd h

  pub term-void : (ats : List SlotAt) (e : Term) → IsTermAs t scene.plain (given_as.Void ats) e → nothing ≡ given scene e
  term-void ats (Void os) h = refl
  term-void ats e h = absurd h

  module _ (site : Site) (tails : Tails) (added : Added) where
    pub term-copied : (n : ℕ) (e : Term) → IsTermAs t scene.plain (given_as.Copied n) e → IsNamedAs scene site tails added (given_as.Copied n) e
        → (body : Body) × (c : Comp) × (held_at added.computations.now n ≡ Some (body, c)) × IsNamedComp scene site tails c × (computed scene (holder_as body) 0 c ≡ given scene e) × (computed_needs scene 0 c ≡ given_needs scene e)
    term-copied n (Copied h c) is named = (named.0, c, named.1, named.3, ap (λ b. computed scene b 0 c) named.2, refl)
    term-copied n e is named = absurd is

  -- the attributes that a term names are what it depends on
  abbrev AreNeeded : List SlotAt → List Occ → Type 0
  AreNeeded ats needed = (named : List (ℕ × Slot)) × AllZip (IsSlotOf t scene.plain) ats named × (map (λ (o : ℕ × Slot). occ scene o.0 o.1) named ≡ needed)

  pub read-needed : (at : SlotAt) (e : Term) → IsTermAs t scene.plain (given_as.Read at) e → AreNeeded (at ∷ []) (given_needs scene e)
  read-needed at (share.Read k s) h = ((k, s) ∷ [], (h, tt), refl)
  read-needed at e h = absurd h

  pub void-needed : (ats : List SlotAt) (e : Term) → IsTermAs t scene.plain (given_as.Void ats) e → AreNeeded ats (given_needs scene e)
  void-needed ats (Void os) h = (os, h, refl)
  void-needed ats e h = absurd h

  piece-needed : (m : ℕ) (a : Piece) (e : Term) → IsPieceAs t scene.plain m a e → AreNeeded (slot_of_piece a) (value_needs scene e)
  piece-needed m (piece.Read at) (share.Read k s) h = ((k, s) ∷ [], (h, tt), refl)
  piece-needed m (piece.Single at) (Single n f (share.Read k s)) h = ((k, s) ∷ [], (h.1, tt), refl)
  piece-needed m piece.Null (Null n f) h = ([], tt, refl)
  piece-needed m a e h = absurd h

  both-needed : (xs ys : List SlotAt) (m n : List Occ) → AreNeeded xs m → AreNeeded ys n → AreNeeded (xs ++ ys) (m ++ n)
  both-needed xs ys m n a b =
      (a.0 ++ b.0, zip-append (IsSlotOf t scene.plain) xs ys a.0 b.0 a.1 b.1, map-append (λ (o : ℕ × Slot). occ scene o.0 o.1) a.0 b.0 ∙ (λ i. a.2 i ++ b.2 i))

  pub joined-needed : (m : ℕ) (pieces : List Piece) (e : Term) → AreJoined t scene.plain m pieces e → AreNeeded (slots_of_pieces pieces) (value_needs scene e)
  joined-needed m [] e h = absurd h
  joined-needed m (a ∷ []) e h = subst (λ ats. AreNeeded ats (value_needs scene e)) (sym (append-nil (slot_of_piece a))) (piece-needed m a e h)
  joined-needed m (a ∷ b ∷ more) (Comb n f c d) h = both-needed (slot_of_piece a) (slots_of_pieces (b ∷ more)) (value_needs scene c) (value_needs scene d) (piece-needed m a c h.1) (joined-needed m (b ∷ more) d h.2)
  joined-needed m (a ∷ b ∷ more) e h = absurd h
