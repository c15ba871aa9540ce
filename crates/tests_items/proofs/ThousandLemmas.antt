-- How many of the thousand items have a pair, and so the most steps of a search among them.
use Rattle.std.proofs.Common.{◌≡◌, ℕ, ◌+◌, ◌*◌, ◌<◌, ◌≤◌, ◌||◌, ◌&&◌, Bool, true, false, cond, List, [], ◌∷◌, refl, sym, ap, subst, ◌∙◌, zero, suc, length, map}
use Rattle.std.specs.Prelude.{filter, slice_index_or}
use Rattle.std.specs.Fmt.{digits}
use Rattle.std.proofs.lemmas.List.{length-map}
use Rattle.kr_base.specs.Attributes.{is_name}
use Rattle.kr_base.specs.declared.attributes.AttrValue.{AttrValue}
use Rattle.attribute_match.specs.Match.{has_pair, text_of, texts_of}
use Rattle.item_store.specs.Rows.{Row, Rows, attributes_of, ids_where, pair_lists}
use Rattle.tests_items.specs.Thousand.{IsThousand, has_texts, tenth_group, third_group, thirteenth, thousand}

-- ---- a pair is looked up in the texts

has_pair-texts : (name text : List ℕ) (attributes : List (List ℕ × AttrValue)) → has_pair name text attributes ≡ has_texts name text (texts_of attributes)
has_pair-texts name text [] = refl
has_pair-texts name text (pair ∷ more) = ap (λ b. (is_name name pair.0 && is_name text (text_of pair.1)) || b) (has_pair-texts name text more)

counted-row : (b : Bool) (row : ℕ × Row) (rows : Rows) (texts : List (List ℕ × List ℕ)) (more : List (List (List ℕ × List ℕ)))
    → length (map (λ r. r.0) rows) ≡ length more
    → length (map (λ r. r.0) (cond b (row ∷ rows) rows)) ≡ length (cond b (texts ∷ more) more)
counted-row true row rows texts more same = ap suc same
counted-row false row rows texts more same = same

-- as many rows have a pair as there are lists of texts that have it
counted : (name text : List ℕ) (rows : Rows)
    → length (ids_where (λ row. has_pair name text (attributes_of row)) rows)
    ≡ length (filter (has_texts name text) (map (λ row. texts_of (attributes_of row.1)) rows))
counted name text [] = refl
counted name text (row ∷ more) =
    let rest = counted name text more in
    let texts = texts_of (attributes_of row.1) in
    let left = filter (λ r. has_pair name text (attributes_of r.1)) more in
    let right = filter (has_texts name text) (map (λ r. texts_of (attributes_of r.1)) more) in
    subst (λ b. length (map (λ r. r.0) (cond b (row ∷ left) left)) ≡ length (cond (has_texts name text texts) (texts ∷ right) right))
    (sym (has_pair-texts name text (attributes_of row.1)))
    (counted-row (has_texts name text texts) row left texts right rest)

counted-at : (wanted : List (List ℕ × AttrValue)) (rows : Rows) (place : ℕ)
    → length (slice_index_or (pair_lists wanted rows) place [])
    ≡ length (slice_index_or (map (λ pair. filter (has_texts pair.0 pair.1) (map (λ row. texts_of (attributes_of row.1)) rows)) (texts_of wanted)) place [])
counted-at [] rows place = refl
counted-at (pair ∷ more) rows zero = counted pair.0 (text_of pair.1) rows
counted-at (pair ∷ more) rows (suc place) = counted-at more rows place

-- ---- the bound of a search

-- the number of items that have the wanted pair at an index, times the number of pairs, bounds the steps
pub bounded : (wanted : List (List ℕ × AttrValue)) (rows : Rows) (pairs : List (List ℕ × List ℕ)) (old new place most : ℕ)
    → IsThousand rows → texts_of wanted ≡ pairs
    → ((pair : ℕ) → pair < length wanted → new ≤ old + length (slice_index_or (pair_lists wanted rows) pair []) * length wanted)
    → place < length pairs
    → length (slice_index_or (map (λ pair. filter (has_texts pair.0 pair.1) thousand) pairs) place []) * length pairs ≡ most
    → new ≤ old + most
bounded wanted rows pairs old new place most is are few within count =
    let long : length wanted ≡ length pairs = sym (length-map wanted (λ pair. (pair.0, text_of pair.1))) ∙ ap length are in
    let have : length (slice_index_or (pair_lists wanted rows) place []) ≡ length (slice_index_or (map (λ pair. filter (has_texts pair.0 pair.1) thousand) pairs) place []) =
    counted-at wanted rows place
    ∙ ap (λ texts. length (slice_index_or (map (λ pair. filter (has_texts pair.0 pair.1) texts) (texts_of wanted)) place [])) is
    ∙ ap (λ found. length (slice_index_or (map (λ pair. filter (has_texts pair.0 pair.1) thousand) found) place [])) are in
    let whole : length (slice_index_or (pair_lists wanted rows) place []) * length wanted ≡ most =
    ap (λ l. l * length wanted) have
    ∙ ap (λ l. length (slice_index_or (map (λ pair. filter (has_texts pair.0 pair.1) thousand) pairs) place []) * l) long
    ∙ count in
    subst (λ m. new ≤ old + m) whole (few place (subst (λ l. place < l) (sym long) within))

-- ---- the four counts

pub of-third_group : length (slice_index_or (map (λ pair. filter (has_texts pair.0 pair.1) thousand) third_group) 0 []) * length third_group ≡ 100
unfolding digits thousand
of-third_group = refl

pub of-thirteenth : length (slice_index_or (map (λ pair. filter (has_texts pair.0 pair.1) thousand) thirteenth) 1 []) * length thirteenth ≡ 2
unfolding digits thousand
of-thirteenth = refl

pub of-tenth_group : length (slice_index_or (map (λ pair. filter (has_texts pair.0 pair.1) thousand) tenth_group) 0 []) * length tenth_group ≡ 0
unfolding digits thousand
of-tenth_group = refl

thousand-long : length thousand ≡ 1000
unfolding thousand
thousand-long = refl

pub all-thousand : (rows : Rows) → IsThousand rows → length rows ≡ 1000
all-thousand rows is = sym (length-map rows (λ row. texts_of (attributes_of row.1))) ∙ ap length is ∙ thousand-long
