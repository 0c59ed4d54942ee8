-- The sets that are made of the first INCLUDINGs are those of the definition.
use Rattle.std.specs.Prelude.{Contains, map, length}
use Rattle.std.specs.List.{AllZip}
use Rattle.std.proofs.Common.{◌≡◌, ◌≤◌, List, [], ◌∷◌, sym, subst, arith}
use Rattle.std.proofs.lemmas.List.{length-map}
use Rattle.std.proofs.lemmas.Slice.Zip.{AllZip-long}
use Rattle.lido_base.proofs.Lists.{contains-here, contains-later, contains-place}
use Rattle.lido_syntax.specs.declared.spec.Pair.{Pair}
use Rattle.lido_symbols.specs.Uses.{all_includings}
use Rattle.rule_tables.specs.declared.forced.Forced.{Forced}
use Rattle.need_graphs.proofs.EdgeLemmas.{zip-left}
use Rattle.remote_lists.specs.declared.symbols.Symbols.{Symbols}
use Rattle.remote_lists.specs.Listings.{AreSymbols}
use Rattle.including_sets.specs.declared.uses.Use.{Use}
use Rattle.including_sets.specs.declared.listings.Listing.{Listing}
use Rattle.including_sets.specs.declared.sets.PairSet.{PairSet}
use Rattle.including_sets.specs.Uses.{told, AreUses}
use Rattle.including_sets.specs.Firsts.{firsts}
use Rattle.including_sets.specs.Listings.{is_same_listing}
use Rattle.including_sets.specs.Keys.{listed_attrs, IsListing}
use Rattle.including_sets.specs.Made.{IsMade, IsCounted}
use Rattle.including_sets.specs.Sets.{IsSetOf, AreSetsOf}
use Rattle.including_sets.proofs.FirstLemmas.{first-of, fewer}
use Rattle.including_sets.proofs.SameLemmas.{listing-decides}
use Rattle.including_sets.proofs.SetLemmas.{code, pairs_of, place_of, includings-are, users-are, to-uses}
use Rattle.including_sets.proofs.TypeLemmas.{listed-type, class-type}

zip-mapped : {A B C : Type 0} (f : A → C) (R : A → B → Type 0) (S : C → B → Type 0) (xs : List A) (ys : List B) → ((x : A) (y : B) → Contains xs x → R x y → S (f x) y) → AllZip R xs ys → AllZip S (map f xs) ys
zip-mapped f R S [] [] h z = tt
zip-mapped f R S [] (y ∷ ys) h z = absurd z
zip-mapped f R S (x ∷ xs) [] h z = absurd z
zip-mapped f R S (x ∷ xs) (y ∷ ys) h z = (h x y (contains-here x xs) z.0, zip-mapped f R S xs ys (λ a b m r. h a b (contains-later x a xs m) r) z.1)

module _ (forced : Forced) (symbols : Symbols) (inherit : AreSymbols forced.tables.spec symbols) (uses : List Use) (are_uses : AreUses forced.tables.spec (map told uses)) (ls : List Listing)
    (listings : AllZip (IsListing (λ u. listed_attrs symbols forced.tables.symbols u.pairs.now)) uses ls) (kept : List Listing) (are_kept : kept ≡ firsts is_same_listing [] ls)
    (sets : List PairSet) (made : AllZip (IsMade forced symbols ls) kept sets) where
  made_of : AllZip (IsMade forced symbols ls) (firsts is_same_listing [] ls) sets
  made_of = subst (λ l. AllZip (IsMade forced symbols ls) l sets) are_kept made

  pub counted : (set : PairSet) → Contains sets set → IsCounted forced.tables set
  counted set m =
      let (i, at) = contains-place sets set m in
      let (l, there, its) = zip-left (IsMade forced symbols ls) kept sets i set made at in
      its.counted

  pub few : length sets ≤ length (all_includings forced.tables.spec)
  few =
      let a = AllZip-long (IsMade forced symbols ls) (firsts is_same_listing [] ls) sets made_of in
      let b = fewer is_same_listing code listing-decides [] ls in
      let c = AllZip-long (IsListing (λ u. listed_attrs symbols forced.tables.symbols u.pairs.now)) uses ls listings in
      let d = are_uses.count in
      let e = length-map uses told in
      omega (arith, a, b, c, d, e)

  pub sets-are : AreSetsOf forced symbols sets
  sets-are env T are numbers clear from = subst (λ (l : List (List Pair)). AllZip (IsSetOf forced symbols T) l sets) (sym (includings-are forced symbols inherit uses are_uses ls listings env T are numbers clear from))
      (zip-mapped pairs_of (IsMade forced symbols ls) (IsSetOf forced symbols T) (firsts is_same_listing [] ls) sets (λ l set m its.
      let ml = first-of is_same_listing code listing-decides [] ls l m in
      let there = to-uses forced symbols inherit uses are_uses ls listings l ml in
      record {
        listed = its.listed;
        sources = its.sources;
        users = users-are forced symbols inherit uses are_uses ls listings env T are numbers clear from l ml set.users its.users;
        typed = λ sound ty h. listed-type env forced.tables are.tables clear from sound T symbols inherit (place_of l) (pairs_of l) there set.ty its.ty ty h;
        first_type = λ sound empty. class-type env forced.tables are.tables clear from sound T symbols inherit (place_of l) (pairs_of l) there set.ty its.ty empty;
      }) made_of)
