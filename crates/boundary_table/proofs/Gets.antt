-- What a `get` finds out.
use Rattle.std.proofs.Common.{◌≡◌, ◌≢◌, ℕ, ◌+◌, ◌*◌, ◌<◌, eqb, cond, Bool, true, false, List, ◌∷◌, sym, ap, ◌∙◌, subst, inl, inr, ◌⊎◌, ⊎_elim, arith, slice_get, Some, length, All}
use Rattle.lido_base.specs.declared.value.Value.{Value}
use Rattle.lido_base.specs.Ranges.{IsInRange}
use Rattle.boundary_table.specs.Codes.{first_word, second_word, code}
use Rattle.boundary_table.specs.declared.plays.View.{View}
use Rattle.boundary_table.specs.Desk.{Which, Missed}
use Rattle.boundary_table.specs.Rule.{mem, after_load}
use Rattle.boundary_table.proofs.Lists.{code_first, code_second, value_at, mem_more}

pub missed_first : (t t' : Which) (v u : View) (k n : ℕ) → u ≡ after_load v (2 * k) n → n ≡ 0 → (mem (2 * k) v.known ≡ true → n ≡ code v.contents (2 * k)) → code v.contents (2 * k) ≢ 0
    → Missed (record { table = t; view = v }) (record { table = t'; view = u }) k
missed_first t t' v u k n is none told set = let loads = ap (λ (x : View). x.loads) is in record {
  loaded = omega arith;
  last = inl (ap (λ (x : View). x.last) is);
  found = ap (λ (x : View). x.found) is ∙ none;
  unknown = λ knows. absurd (set (sym (told knows.0) ∙ none));
}

kept_known : (v : View) (w n x : ℕ) (b : Bool) → mem x v.known ≡ true → mem x (cond b v.known (w ∷ v.known)) ≡ true
kept_known v w n x true h = h
kept_known v w n x false h = mem_more w x v.known h

pub missed_second : (t t' : Which) (v u u' : View) (k m n : ℕ) → u ≡ after_load v (2 * k) m → u' ≡ after_load u (2 * k + 1) n → n ≡ 0 → (mem (2 * k + 1) u.known ≡ true → n ≡ code u.contents (2 * k + 1))
    → code u.contents (2 * k + 1) ≢ 0 → Missed (record { table = t; view = v }) (record { table = t'; view = u' }) k
missed_second t t' v u u' k m n was is none told set =
    let before = ap (λ (x : View). x.loads) was in
    let loads = ap (λ (x : View). x.loads) is in
    let L : List ℕ → Type 0 = λ l. mem (2 * k + 1) l ≡ true in record {
      loaded = omega arith;
      last = inr (ap (λ (x : View). x.last) is);
      found = ap (λ (x : View). x.found) is ∙ none;
      unknown = λ knows. absurd (set (sym (told (subst L (sym (ap (λ (x : View). x.known) was)) (kept_known v (2 * k) m (2 * k + 1) (eqb m 0) knows.1))) ∙ none));
    }

-- a word that isn't 0 is its code
pub found : (n c : ℕ) → n ≢ 0 → (n ≡ 0) ⊎ (n ≡ c) → n ≡ c
found n c set fits = ⊎_elim (λ h. absurd (set h)) (λ h. h) fits

pub got : (contents : List Value) (k m n : ℕ) (r : Value) → k < length contents → All IsInRange contents → m ≡ code contents (2 * k) → n ≡ code contents (2 * k + 1)
    → ((v : Value) → IsInRange v → m ≡ first_word v → n ≡ second_word v → r ≡ v) → slice_get contents k ≡ Some r
got contents k m n r room all first second decoded =
    let t = value_at contents k room all in
    t.1 ∙ sym (ap (λ (x : Value). Some x) (decoded t.0 t.2 (first ∙ code_first contents k t.0 t.1) (second ∙ code_second contents k t.0 t.1)))
