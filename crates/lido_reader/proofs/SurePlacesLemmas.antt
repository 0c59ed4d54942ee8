-- Places and remote attributes: two at the same tokens are the same.
use Rattle.std.proofs.Common.{ℕ, Bool, Option, None, List, [], refl}
use Rattle.lido_lexer.specs.declared.keyword.Keyword.{Keyword}
use Rattle.lido_lexer.specs.declared.keyword.Keyword.TheVariants as key
use Rattle.lido_lexer.specs.declared.sign.Sign.TheVariants as sign
use Rattle.lido_lexer.specs.declared.token.Token.{Token}
use Rattle.lido_lexer.specs.declared.token.TokenKind.TheVariants as kind
use Rattle.lido_syntax.specs.declared.spec.Name.{Name}
use Rattle.lido_syntax.specs.declared.spec.Place.{Place}
use Rattle.lido_syntax.specs.declared.spec.Place.TheVariants as place
use Rattle.lido_computations.specs.Phrases.{Done, Then, IsName, word}
use Rattle.lido_computations.specs.Places.{IsIndex, IsContext, context, IsPlace, named, by_word, in_reads, IsReadOf, IsRead, IsPair, IsIncludingOf, IsIncluding, IsShield, IsWithOf, IsWith, AreConstituentsOf, AreConstituents, is_bracket, is_bracket_kind, is_shield, is_shield_kind, is_with, is_with_kind, is_option}
use Rattle.lido_computations.proofs.PhrasesLemmas.{done_stops as last_stops}
use Rattle.lido_computations.proofs.PlacesLemmas.{name_apart, pair_apart, shield_stops, with_wider}
use Rattle.lido_reader.proofs.PartsLemmas.{done_stops, seen_goes, seen_stops}
use Rattle.lido_reader.proofs.SureLemmas.{Rests, IsOnly, IsSure, done_sure, then_sure, lead_sure, only_by, optional_sure, sees_sure, name_sure, type_sure, int_sure, context_sure, listed_sure}

pub index_sure : IsSure IsIndex is_bracket
index_sure = optional_sure None (λ ts y us p. seen_goes (kind.Sign sign.BracketOpen) is_bracket_kind refl ts p.between p.value p.first)
    (lead_sure sees_sure (λ opening. lead_sure int_sure (λ i. lead_sure sees_sure (λ closing. done_sure _))))

abbrev Named : List Token → ℕ × Place → List Token → Type 0
Named = Then IsName (λ n. Then IsIndex (λ i. Done (n.at, place.Named n i)))

named_sure : IsSure Named is_bracket
named_sure = lead_sure name_sure (λ n. then_sure (done_stops is_bracket (λ i. (n.at, place.Named n i))) index_sure (λ i. done_sure _))

module _ (words : Keyword → Option Place) where
  no_word : (ts us vs : List Token) (n : Name) (x : ℕ × Place) → IsName ts n us → IsContext words ts x vs → ⊥
  no_word ts us vs n x (word e) (context d f) = cc

  to_named : (ts : List Token) (x : ℕ × Place) (us : List Token) → Named ts x us → (y : ℕ × Place) (vs : List Token) → IsPlace words ts y vs → Rests is_bracket vs → Named ts y vs
  to_named ts x us p y vs (named q) r = q
  to_named ts x us p y vs (by_word q) r = absurd (no_word ts p.between vs p.value y p.first q)

  to_word : (ts : List Token) (x : ℕ × Place) (us : List Token) → IsContext words ts x us → (y : ℕ × Place) (vs : List Token) → IsPlace words ts y vs → Rests is_bracket vs → IsContext words ts y vs
  to_word ts x us p y vs (named q) r = absurd (no_word ts q.between us q.value x q.first p)
  to_word ts x us p y vs (by_word q) r = q

  place_at : (ts : List Token) (x : ℕ × Place) (us : List Token) → IsPlace words ts x us → IsOnly (IsPlace words) is_bracket ts x us
  place_at ts x us (named p) = only_by (named p) (to_named ts x us p) (named_sure.sure ts x us p)
  place_at ts x us (by_word p) = only_by (by_word p) (to_word ts x us p) (context_sure.sure ts x us p)

  pub place_sure : IsSure (IsPlace words) is_bracket
  place_sure = record { sure = place_at }

pub read_of_sure : {c : Token → Bool} (p : ℕ × Place) → IsSure (IsReadOf p) c
read_of_sure p = lead_sure sees_sure (λ dot. lead_sure name_sure (λ a. done_sure _))

pub read_sure : {c : Token → Bool} → IsSure IsRead c
read_sure {c = c} = then_sure (seen_stops (kind.Sign sign.Dot) is_bracket_kind refl _ c) (place_sure in_reads) read_of_sure

pair_sure : {c : Token → Bool} → IsSure IsPair c
pair_sure = lead_sure name_sure (λ s. lead_sure sees_sure (λ dot. lead_sure name_sure (λ a. done_sure _)))

pub including_of_sure : {c : Token → Bool} (at : ℕ) → IsSure (IsIncludingOf at) c
including_of_sure at = lead_sure (listed_sure _ pair_sure pair_apart) (λ pairs. done_sure _)

pub including_sure : {c : Token → Bool} → IsSure IsIncluding c
including_sure = lead_sure sees_sure (λ t. including_of_sure t.from)

shield_sure : IsSure IsShield is_shield
shield_sure = optional_sure [] (λ ts y us p. seen_goes (kind.Key key.Shield) is_shield_kind refl ts p.between p.value p.first) (lead_sure sees_sure (λ t. listed_sure _ name_sure name_apart))

with_of_sure : {c : Token → Bool} → IsSure IsWithOf c
with_of_sure = lead_sure sees_sure (λ opening. lead_sure type_sure (λ ty. lead_sure sees_sure (λ before_comb. lead_sure name_sure (λ comb. lead_sure sees_sure (λ before_single. lead_sure name_sure (λ single.
    lead_sure sees_sure (λ before_null. lead_sure name_sure (λ null. lead_sure sees_sure (λ closing. done_sure _)))))))))

with_sure : IsSure IsWith is_with
with_sure = optional_sure None (λ ts y us p. seen_goes (kind.Key key.With) is_with_kind refl ts p.between p.value p.first) (lead_sure sees_sure (λ t. with_of_sure))

pub constituents_of_sure : (at number : ℕ) → IsSure (AreConstituentsOf at number) is_option
constituents_of_sure at number = lead_sure (listed_sure _ pair_sure pair_apart) (λ pairs. then_sure
    (shield_stops (λ shield with. record { at = at; number = number; pairs = pairs; shield = shield; with = with })) shield_sure (λ shield. then_sure
    (last_stops is_with is_option (λ with. record { at = at; number = number; pairs = pairs; shield = shield; with = with }) with_wider) with_sure (λ with. done_sure _)))

pub constituents_sure : (number : ℕ) → IsSure (AreConstituents number) is_option
constituents_sure number = lead_sure sees_sure (λ t. constituents_of_sure t.from number)
