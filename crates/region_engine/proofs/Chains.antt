-- Looks at several occurrences.
use Rattle.std.specs.Prelude.{slice_get, Contains, flat_map}
use Rattle.std.proofs.lemmas.List.Elements.{Contains-append_cases}
use Rattle.std.proofs.lemmas.Grind.{flat_map-append}
use Rattle.std.proofs.Common.{◌≡◌, ◌+◌, ℕ, List, [], ◌∷◌, ◌++◌, take, Some, ap, sym, ◌∙◌, subst, ⊎_elim, append-nil}
use Rattle.lido_base.specs.declared.value.Value.{Value}
use Rattle.lido_base.proofs.Lists.{contains-nil, contains-cons}
use Rattle.boundary_table.specs.Desk.{Held}
use Rattle.flat_grammar.specs.declared.flat.Occ.{Occ}
use Rattle.flat_grammar.specs.declared.flat.FlatExpr.{FlatExpr}
use Rattle.flat_grammar.specs.Rules.{reads}
use Rattle.core_machine.specs.Core.{Task}
use Rattle.region_engine.specs.declared.marks.Mark.{Mark}
use Rattle.region_engine.specs.Inputs.{IsLook, IsAtHand, AllAtHand, OneMissed}
use Rattle.region_engine.proofs.Lists.{take-more}
use Rattle.region_engine.proofs.Looks.{all-later}

module _ (j : Task) (n : ℕ) (marks : List Mark) where
  pub all-both : (shared : List Value) (d : Held) (xs ys : List Occ) → AllAtHand j n marks shared d xs → AllAtHand j n marks shared d ys → AllAtHand j n marks shared d (xs ++ ys)
  all-both shared d xs ys a b = record { each = λ o m. ⊎_elim (λ x. a.each o x) (λ y. b.each o y) (Contains-append_cases xs ys o m) }

  -- what is at hand behind a look at one more
  pub all-more : (a b : List Value) (d e : Held) (l : List Occ) (k : ℕ) (o : Occ) → AllAtHand j n marks a d (take k l) → IsLook j a d b e → slice_get l k ≡ Some o → IsAtHand j n marks b e o → AllAtHand j n marks b e (take (k + 1) l)
  all-more a b d e l k o all look there hand =
      subst (λ xs. AllAtHand j n marks b e xs) (sym (take-more l k o there))
      (all-both b e (take k l) (o ∷ []) (all-later j n marks a b d e (take k l) look all) (record { each = λ p m. ⊎_elim (λ same. subst (IsAtHand j n marks b e) same hand) (λ none. absurd (contains-nil p none)) (contains-cons o p [] m) }))

  pub all-reads : (a b : List Value) (d e : Held) (l : List FlatExpr) (k : ℕ) (x : FlatExpr) → AllAtHand j n marks a d (flat_map reads (take k l)) → IsLook j a d b e → slice_get l k ≡ Some x → AllAtHand j n marks b e (reads x)
      → AllAtHand j n marks b e (flat_map reads (take (k + 1) l))
  all-reads a b d e l k x all look there hand =
      subst (λ xs. AllAtHand j n marks b e xs) (sym (ap (flat_map reads) (take-more l k x there) ∙ flat_map-append reads (take k l) (x ∷ []) ∙ ap (λ z. flat_map reads (take k l) ++ z) (append-nil (reads x))))
      (all-both b e (flat_map reads (take k l)) (reads x) (all-later j n marks a b d e (flat_map reads (take k l)) look all) hand)

  pub missed-among : (d e : Held) (xs ys : List Occ) → ((o : Occ) → Contains xs o → Contains ys o) → OneMissed j n marks d e xs → OneMissed j n marks d e ys
  missed-among d e xs ys into m = record { occ = m.occ; among = into m.occ m.among; missed = m.missed }
