-- The first places of names, as more are noted.
use Rattle.std.specs.Prelude.{slice_get, nat_eq, Bool, true, false, if◌then◌else◌}
use Rattle.std.proofs.Common.{◌≡◌, ℕ, ◌+◌, ◌≤◌, List, length, Option, Some, None, refl, sym, subst, ◌∙◌, rules, eqb-true, true≢false}
use Rattle.lido_syntax.specs.declared.spec.Name.{Name}
use Rattle.lido_syntax.specs.Production.{name_of}
use Rattle.kind_clashes.specs.declared.firsts.Firsts.{Firsts}
use Rattle.kind_clashes.specs.Firsts.{first_of, AreFirsts, HasNoted, IsNoted, IsAt}
use Rattle.kind_clashes.specs.Least.{IsFirst, Among, earlier_of}
use Rattle.kind_clashes.proofs.LeastLemmas.{AmongFirst, first-none, first-one, first-begin, first-step, first-end}

earlier-none : (a : Option ℕ) → earlier_of a None ≡ a
earlier-none None = refl
earlier-none (Some x) = refl

-- nothing is noted
pub noted-none : {P : ℕ → ℕ → Type 0} {a : Firsts} → ((id at : ℕ) → ¬ P id at) → HasNoted P a a
noted-none {P} {a} none = record { each = λ id. record { noted = None; first = first-none (none id); is = sym (earlier-none (first_of a id)) } }

pub noted-same : {P Q : ℕ → ℕ → Type 0} {a b : Firsts} → ((id : ℕ) (found : Option ℕ) → IsFirst (P id) found → IsFirst (Q id) found) → HasNoted P a b → HasNoted Q a b
noted-same to has = record { each = λ id. let h = has.each id in record { noted = h.noted; first = to id h.noted h.first; is = h.is } }

-- one name is noted
pub noted-one : {a b : Firsts} (x : Name) (least : ℕ) → Some least ≡ earlier_of (first_of a (name_of x)) (Some x.at)
    → ((other : ℕ) → first_of b other ≡ (if nat_eq (name_of x) other then Some least else first_of a other)) → HasNoted (IsAt x) a b
noted-one {a} {b} x least e puts = record { each = λ id. go id (nat_eq (name_of x) id) refl }
  where
    go : (id : ℕ) (c : Bool) → nat_eq (name_of x) id ≡ c → IsNoted (IsAt x id) (first_of a id) (first_of b id)
    go id true same = let k : name_of x ≡ id = eqb-true (name_of x) id same in record {
      noted = Some x.at;
      first = first-one x.at (k, refl) (λ other h. sym h.1);
      is = puts id ∙ rw same (subst (λ n. Some least ≡ earlier_of (first_of a n) (Some x.at)) k e);
    }
    go id false other = record {
      noted = None;
      first = first-none (λ at h. true≢false (sym (subst (λ n. nat_eq (name_of x) n ≡ true) h.0 (same-eq (name_of x))) ∙ other));
      is = puts id ∙ rw other (sym (earlier-none (first_of a id)));
    }
      where
        same-eq : (n : ℕ) → nat_eq n n ≡ true
        same-eq n = search rules

pub firsts-begin : {X : Type 0} {R : ℕ → X → ℕ → Type 0} {xs : List X} {a : Firsts} → ((id : ℕ) → first_of a id ≡ None) → AreFirsts (λ id. AmongFirst (R id) xs 0) a
firsts-begin {X} {R} {xs} none = record { each = λ id. subst (λ f. IsFirst (AmongFirst (R id) xs 0) f) (sym (none id)) first-begin }

pub firsts-step : {X : Type 0} {R : ℕ → X → ℕ → Type 0} {xs : List X} {i : ℕ} {a b : Firsts} (x : X) → slice_get xs i ≡ Some x
    → AreFirsts (λ id. AmongFirst (R id) xs i) a → HasNoted (λ id. R id x) a b → AreFirsts (λ id. AmongFirst (R id) xs (i + 1)) b
firsts-step x got are more = record { each = λ id. let h = more.each id in first-step x got h.is (are.each id) h.first }

pub firsts-end : {X : Type 0} {R : ℕ → X → ℕ → Type 0} {xs : List X} {i : ℕ} {a : Firsts} → length xs ≤ i → AreFirsts (λ id. AmongFirst (R id) xs i) a → AreFirsts (λ id. Among (R id) xs) a
firsts-end all are = record { each = λ id. first-end all (are.each id) }
