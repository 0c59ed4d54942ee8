use Rattle.std.specs.List.{AllZip}
use Rattle.std.proofs.Common.{◌≡◌, ◌∙◌, List, [], map, ap, sym, subst}
use Rattle.including_sets.specs.declared.uses.Use.{Use}
use Rattle.including_sets.specs.declared.listings.ListedAttr.{ListedAttr}
use Rattle.including_sets.specs.declared.listings.Listing.{Listing}
use Rattle.including_sets.specs.Firsts.{firsts}
use Rattle.including_sets.specs.Listings.{is_same_listing}
use Rattle.including_sets.specs.Keys.{listed_attrs, IsListing}
use Rattle.including_sets.specs.Made.{IsMade}
use Rattle.including_sets.proofs.MadeLemmas.{counted, few, sets-are}
use Rattle.including_sets.proofs.sets.sets_of.Goals as goal

pub returns : goal.returns
returns c =
    let forced = c.args.forced.now in
    let symbols = c.args.symbols.now in
    let uses = c.in_ok-uses.uses.items in
    let ls = c.in_ok-listings.listings.items in
    let kept = c.in_ok-kept.kept.items in
    let sets = c.in_ok-sets.sets.items in
    let f : Use → List ListedAttr = λ u. listed_attrs symbols forced.tables.symbols u.pairs.now in
    let attrs : c.deref-3.result.now ≡ map f c.deref-2.result.now =
    c.deref-3.ensures.value ∙ c.in_ok-attrs.ensures ∙ (λ i. map (λ (u : Use). listed_attrs symbols (c.as_slice-rows.ensures i) u.pairs.now) (c.deref.ensures.value i)) ∙ ap (map f) (sym c.deref-2.ensures.value) in
    let are : AllZip (IsListing f) uses ls = subst (λ (l : List Use). AllZip (IsListing f) l ls) c.deref-2.ensures.value (c.in_ok-listings.ensures f attrs) in
    let firsts_are : kept ≡ firsts is_same_listing [] ls = c.in_ok-kept.ensures ∙ ap (λ (l : List Listing). firsts is_same_listing [] l) c.deref-4.ensures.value in
    let made : AllZip (IsMade forced symbols ls) kept sets =
    subst (λ (l : List Listing). AllZip (IsMade forced symbols l) kept sets) c.deref-5.ensures.value (subst (λ (l : List Listing). AllZip (IsMade forced symbols c.deref-5.result.now) l sets) c.deref-6.ensures.value c.in_ok-sets.ensures) in
    record {
      count = λ set m. counted forced symbols c.requires.symbols uses c.in_ok-uses.ensures ls are kept firsts_are sets made set m;
      few = few forced symbols c.requires.symbols uses c.in_ok-uses.ensures ls are kept firsts_are sets made;
      exactly = sets-are forced symbols c.requires.symbols uses c.in_ok-uses.ensures ls are kept firsts_are sets made;
    }
