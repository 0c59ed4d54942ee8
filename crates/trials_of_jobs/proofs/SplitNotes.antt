-- The notes of the split list, where its output is marked as a message and where it isn't.
use Rattle.std.specs.Prelude.{Contains, slice_get, true}
use Rattle.std.specs.List.{AllZip}
use Rattle.std.specs.Fmt.{digits}
use Rattle.std.proofs.Common.{◌≡◌, ℕ, zero, suc, List, [], ◌∷◌, Some, refl, arith, ap, sym, subst, ◌∙◌}
use Rattle.std.proofs.lemmas.Option.{none-some}
use Rattle.lido_base.specs.Tree.{ancestors, from_children, rule_at}
use Rattle.lido_base.specs.Operations.{operate}
use Rattle.flat_grammar.specs.declared.flat.FlatAttr.{FlatAttr}
use Rattle.flat_grammar.specs.declared.flat.FlatRule.{FlatRule}
use Rattle.flat_grammar.specs.Rules.{attrs_of}
use Rattle.flat_grammar.specs.WholeOrder.{Instance, order}
use Rattle.flat_grammar.proofs.Lists.{held, contains-first, contains-nil, contains-slice_get}
use Rattle.trials_of_grammar.proofs.Finite.{never, each-of, pairs-of, rule-is}
use Rattle.core_machine.specs.declared.finished.Note.{Note}
use Rattle.core_machine.specs.Core.{IsMessage, IsEarlier, Tells, AreNotes, machine}
use Rattle.core_machine.specs.Machine.{final}
use Rattle.trials_of_jobs.specs.SplitList.{symbols, rules, list_rule, item_rule, cell_rule, end_rule, out_attribute, i_attribute, s_attribute, flat, job, noted_symbols, noted_job, the_note}

-- neither i nor s is a message
quiet : (a : ℕ) (attr : FlatAttr) → slice_get (i_attribute ∷ s_attribute ∷ []) a ≡ Some attr → attr.message ≡ true → ⊥
quiet zero attr e m = never (ap (λ (x : FlatAttr). x.message) (held e) ∙ m)
quiet (suc zero) attr e m = never (ap (λ (x : FlatAttr). x.message) (held e) ∙ m)
quiet (suc (suc a)) attr e m = none-some _ e

at-node : (n i : ℕ) (s : FlatRule) → rule_at flat n ≡ Some i → slice_get rules i ≡ Some s → attrs_of noted_symbols s.left ≡ i_attribute ∷ s_attribute ∷ [] → (a : ℕ) → IsMessage noted_job (n, a) → ⊥
at-node n i s e f g a (r, attr, h, there, m) =
    let same = rule-is rules flat n i r s e f h in
    quiet a attr (ap (λ l. slice_get l a) (sym g ∙ ap (λ (q : FlatRule). attrs_of noted_symbols q.left) same) ∙ there) m

at-root : (a : ℕ) → IsMessage noted_job (0, a) → a ≡ 0
at-root zero h = refl
at-root (suc a) (r, attr, h, there, m) =
    let same = rule-is rules flat 0 0 r list_rule refl refl h in
    absurd (none-some _ (ap (λ (q : FlatRule). slice_get (attrs_of noted_symbols q.left) (suc a)) same ∙ there))

-- the output alone is a message
only-message : (n a : ℕ) → IsMessage noted_job (n, a) → (n ≡ 0) × (a ≡ 0)
only-message zero a h = (refl, at-root a h)
only-message (suc zero) a h = absurd (at-node 1 2 cell_rule refl refl refl a h)
only-message (suc (suc zero)) a h = absurd (at-node 2 1 item_rule refl refl refl a h)
only-message (suc (suc (suc zero))) a h = absurd (at-node 3 2 cell_rule refl refl refl a h)
only-message (suc (suc (suc (suc zero)))) a h = absurd (at-node 4 1 item_rule refl refl refl a h)
only-message (suc (suc (suc (suc (suc zero))))) a h = absurd (at-node 5 3 end_rule refl refl refl a h)
only-message (suc (suc (suc (suc (suc (suc n)))))) a h = absurd (none-some _ h.2.1)

told : Tells noted_job (final (machine noted_job)) (0, 0) the_note
unfolding order from_children ancestors operate digits
told = (refl, refl, omega arith)

is-message : IsMessage noted_job (0, 0)
is-message = (list_rule, record out_attribute { message = true }, (0, refl, refl), refl, refl)

abbrev Noted : Instance → Type 0
Noted i = IsMessage noted_job i × (note : Note) × Tells noted_job (final (machine noted_job)) i note

pub noted : AreNotes noted_job (final (machine noted_job)) (the_note ∷ [])
noted = record {
  sources = (0, 0) ∷ [];
  exactly = λ i. (
    λ m. each-of Noted ((0, 0) ∷ []) ((is-message, the_note, told), tt) i m,
    λ h. let e = only-message i.0 i.1 h.0 in subst (λ z. Contains ((0, 0) ∷ []) z) (λ k. (sym e.0 k, sym e.1 k)) (contains-first (0, 0) []),
  );
  ordered = pairs-of (IsEarlier noted_job) ((0, 0) ∷ []) (tt, tt);
  tell = (told, tt);
}

pub left-out : ¬ AreNotes noted_job (final (machine noted_job)) []
left-out n = go n.sources n.tell ((n.exactly (0, 0)).1 (is-message, the_note, told))
  where
    go : (sources : List Instance) → AllZip (Tells noted_job (final (machine noted_job))) sources [] → Contains sources (0, 0) → ⊥
    go [] z m = contains-nil (0, 0) m
    go (x ∷ sources) z m = z

-- a rule whose left side has no message
abbrev IsQuiet : FlatRule → Type 0
IsQuiet r = (a : ℕ) (attr : FlatAttr) → slice_get (attrs_of symbols r.left) a ≡ Some attr → attr.message ≡ true → ⊥

quiet-root : IsQuiet list_rule
quiet-root zero attr e m = never (ap (λ (x : FlatAttr). x.message) (held e) ∙ m)
quiet-root (suc a) attr e m = none-some _ e

no-message : (i : Instance) → IsMessage job i → ⊥
no-message i (r, attr, h, there, m) = each-of IsQuiet rules (quiet-root, (quiet, (quiet, (quiet, tt)))) r (contains-slice_get rules h.0 r h.2) i.1 attr there m

pub none-noted : ¬ AreNotes job (final (machine job)) (the_note ∷ [])
none-noted n = go n.sources n.tell (λ i m. no-message i ((n.exactly i).0 m).0)
  where
    go : (sources : List Instance) → AllZip (Tells job (final (machine job))) sources (the_note ∷ []) → ((i : Instance) → Contains sources i → ⊥) → ⊥
    go [] z h = z
    go (x ∷ sources) z h = h x (contains-first x sources)
