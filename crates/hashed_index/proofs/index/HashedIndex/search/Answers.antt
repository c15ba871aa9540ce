use Rattle.std.proofs.Common.{◌≡◌, ◌<◌, ℕ, true, IfOk, get_or, length, map, ap, subst, sym, ◌∙◌, rules}
use Rattle.std.specs.List.{All, Contains}
use Rattle.std.specs.List.Sorted.{IsStrictlyIncreasing}
use Rattle.kr_base.specs.declared.ids.ItemId.{ItemId}
use Rattle.keyring_file.specs.declared.clear.ClearItem.{ClearItem}
use Rattle.attribute_match.specs.Match.{has_hash, hashed_matches, text_of}
use Rattle.hashed_index.specs.Entries.{IsIndexOf}
use Rattle.hashed_index.proofs.EntryLemmas.{passed_at, place_listed, places_within}
use Rattle.hashed_index.proofs.PlaceLemmas.{selected_is}
use Rattle.hashed_index.proofs.index.HashedIndex.search.Goals as goal

pub matching_at-requires : goal.matching_at-requires
matching_at-requires c =
    let entries = c.as_slice-entries.result.now in
    let kept : c.args.self.now ≡ entries = search rules in
    let shown : c.in_ok-found.found.items ≡ c.as_slice.result.now = search rules in
    let index : IsIndexOf c.args.items.now entries = subst (IsIndexOf c.args.items.now) kept c.requires in
    subst (All (λ place. place < length c.args.items.now)) shown
    (c.in_ok-found.ensures.within (length c.args.items.now) (places_within c.args.items.now entries c.wanted_keys.result.text c.wanted_keys.result.number index))

pub returns : goal.returns
returns c =
    let items = c.args.items.now in
    let wanted = c.args.wanted.now in
    let entries = c.as_slice-entries.result.now in
    let place = c.rarest.result in
    let pair = c.index-pairs-rarest.result in
    let keys = c.wanted_keys.result in
    let kept : c.args.self.now ≡ entries = search rules in
    let shown : c.in_ok-found.found.items ≡ c.as_slice.result.now = search rules in
    let pairs : c.as_slice-pairs.result.now ≡ wanted = search rules in
    let index : IsIndexOf items entries = subst (IsIndexOf items) kept c.requires in
    let within : place < length wanted = subst (λ xs. place < length xs) pairs c.rarest.ensures in
    let is : get_or wanted place pair ≡ pair = ap (λ xs. get_or xs place pair) (sym pairs) ∙ sym c.index-pairs-rarest.is in
    let listed : (j : ℕ) (d : ClearItem) → j < length items → hashed_matches wanted (get_or items j d).hashed ≡ true → Contains c.as_slice.result.now j =
    λ j d lt matches.
    let passed = passed_at (λ pair. has_hash pair.0 (text_of pair.1) (get_or items j d).hashed) wanted place pair within matches in
    let has : has_hash pair.0 (text_of pair.1) (get_or items j d).hashed ≡ true = ap (λ pair. has_hash pair.0 (text_of pair.1) (get_or items j d).hashed) (sym is) ∙ passed in
    subst (λ xs. Contains xs j) shown (c.in_ok-found.ensures.all j (place_listed pair.0 (text_of pair.1) items entries keys.text keys.number j d c.wanted_keys.ensures.text c.wanted_keys.ensures.number index lt has)) in
    let rising : IsStrictlyIncreasing c.as_slice.result.now = subst IsStrictlyIncreasing shown c.in_ok-found.ensures.rising in
    let all = subst (All (λ place. place < length items)) shown (c.in_ok-found.ensures.within (length items) (places_within items entries keys.text keys.number index)) in
    let same = selected_is wanted items c.as_slice.result.now rising all listed in
    subst (λ ids. IfOk c.matching_at.result (λ made. map (λ (id : ItemId). id.0) made.items ≡ ids)) same c.matching_at.ensures
