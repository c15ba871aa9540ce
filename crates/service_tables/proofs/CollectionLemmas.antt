-- What sound collections have: the objects that are there have paths, and what is returned of them has its types.
use Rattle.std.proofs.Common.{◌≡◌, ℕ, ◌^◌, ◌<◌, ◌&&◌, nat_eq, Bool, true, false, cond, IsTrue, IfSome, List, [], ◌∷◌, ◌++◌, filter, Option, Some, None, refl, sym, ap, subst, ◌∙◌, inl, inr}
use Rattle.std.specs.Cmp.Lexicographic.{slice_cmp}
use Rattle.std.specs.List.{AllByRecursion, cons_option, filter_map, fold, list_any}
use Rattle.std.specs.List.Sorted.{IsStrictlySortedBy}
use Rattle.std.specs.Map.{keys_of}
use Rattle.std.specs.Option.{is_some, option_map, option_and_then, option_map_or}
use Rattle.std.specs.Ordering.{is_eq, nat_cmp}
use Rattle.std.specs.declared.cmp.Ordering.TheVariants.{Less}
use Rattle.std.proofs.lemmas.Bool.{eqb-true, or_cases}
use Rattle.std.proofs.lemmas.Map.Lookups.{exact_bytes}
use Rattle.std.proofs.lemmas.Option.{none-some}
use Rattle.kr_base.specs.Attributes.{IsInOrder, is_name, value_at}
use Rattle.kr_base.specs.Stem.{IsStem}
use Rattle.kr_base.specs.Text.{IsText}
use Rattle.kr_base.specs.declared.attributes.AttrValue.{AttrValue}
use Rattle.kr_base.specs.declared.ids.ItemId.{ItemId}
use Rattle.kr_base.specs.declared.ids.SessionId.{SessionId}
use Rattle.kr_base.proofs.OrderedLemmas.{is_equal}
use Rattle.kr_names.specs.declared.object_name.ObjectName.{ObjectName}
use Rattle.kr_names.specs.declared.object_name.ObjectName.TheVariants as name
use Rattle.kr_names.specs.Naming.{is_alias}
use Rattle.kr_names.specs.Path.{path_text, IsName}
use Rattle.keyring_file.specs.Clear.{ClearPart}
use Rattle.keyring_file.specs.Known.{IsKnownClearItem, IsKnownItem}
use Rattle.keyring_file.specs.declared.area.FullItem.{FullItem}
use Rattle.keyring_file.specs.declared.clear.ClearItem.{ClearItem}
use Rattle.keyring_seal.specs.Arranged.{Row, row_number}
use Rattle.collection_store.specs.CollectionReading.{content_at, found, item_at}
use Rattle.collection_store.specs.State.{Held}
use Rattle.collection_table.specs.declared.matches.Matches.{Matches}
use Rattle.collection_table.specs.Entries.{changed}
use Rattle.collection_table.specs.Rows as collections
use Rattle.collection_table.specs.Rows.{CollectionRow, Rows, content_of, has, has_item, is_open, item_of, locked, shows_item}
use Rattle.collection_table.proofs.EntryLemmas.{changed_in_order, unchanged_none}
use Rattle.dbus_types.specs.Paths.{is_object_path}
use Rattle.signal_fanout.specs.secret_calls.specs.declared.secret.ItemSecret.{ItemSecret}
use Rattle.signal_fanout.specs.secret_calls.specs.declared.secret.ReturnedSecret.{ReturnedSecret}
use Rattle.signal_fanout.specs.secret_calls.specs.Outs.{ArePaths, AreSecrets, IsSecret}
use Rattle.signal_fanout.specs.secret_calls.proofs.PathLemmas.{named_path}
use Rattle.signal_fanout.specs.secret_calls.proofs.SecretLemmas.{each_byte}
use Rattle.service_tables.specs.Aliases.{pairs_of}
use Rattle.service_tables.specs.Objects.{alias_target, collection_named, is_listed, is_open_item, is_there, item_paths, locked_paths, once, paths_in, paths_of, stem_where, unlocked_paths, with_object}
use Rattle.service_tables.specs.Opened.{Contents}
use Rattle.service_tables.specs.TablesReading.{alias_of, asked_collections, found_in, item_secret, secret_of, stem_there}
use Rattle.service_tables.specs.Sound.{AreSoundCollections, AreSoundItems, IsSoundCollection, IsSoundItem}
use Rattle.service_tables.proofs.AliasLemmas.{is-alias}
use Rattle.service_tables.proofs.EachLemmas.{each-append, each-filter, each-found, each-mapped, each-tested, each-weaker}

-- ---- the collection of a stem

-- what is true of each collection is true of the one that a stem finds
pub at-stem : {V : Type 0} (P : List ℕ × V → Type 0) (stem : List ℕ) (value : V) (entries : List (List ℕ × V)) → AllByRecursion P entries → value_at stem entries ≡ Some value → P (stem, value)
at-stem P stem value [] all is = absurd (none-some value is)
at-stem P stem value (e ∷ es) all is =
    let pass : (b : Bool) → is_name stem e.0 ≡ b → P (stem, value) =
    elim [
      | true ↦ λ here.
          let found : Some e.1 ≡ Some value = rw here at is in
          let same : e.1 ≡ value = cc in
          let stems : e.0 ≡ stem = sym (exact_bytes stem e.0 (is_equal (slice_cmp nat_cmp stem e.0) here)) in
          subst P (λ i. (stems i, same i)) all.0
      | false ↦ λ here. at-stem P stem value es all.1 (rw here at is)
    ] in
    pass (is_name stem e.0) refl

-- a stem below those of all collections finds none
none-above : {V : Type 0} (stem : List ℕ) (entries : List (List ℕ × V)) → AllByRecursion (λ other. slice_cmp nat_cmp stem other ≡ Less) (keys_of entries) → value_at stem entries ≡ None
none-above stem [] above = refl
none-above stem (e ∷ es) above = let off : is_name stem e.0 ≡ false = ap is_eq above.0 in rw off (none-above stem es above.1)

-- What is true of each collection is true of each after a change of the one that a stem finds, if it is true of that one.
pub each-changed : {V : Type 0} (P : List ℕ × V → Type 0) (stem : List ℕ) (f : V → V) (entries : List (List ℕ × V)) → IsInOrder entries → AllByRecursion P entries
    → ((value : V) → value_at stem entries ≡ Some value → P (stem, f value)) → AllByRecursion P (changed stem f entries)
unfolding IsStrictlySortedBy
each-changed P stem f [] ordered all new = tt
each-changed P stem f (e ∷ es) (below, rest) all new =
    let pass : (b : Bool) → is_name stem e.0 ≡ b → AllByRecursion P (changed stem f (e ∷ es)) =
    elim [
      | true ↦ λ here.
          let same : stem ≡ e.0 = exact_bytes stem e.0 (is_equal (slice_cmp nat_cmp stem e.0) here) in
          let none : value_at stem es ≡ None = none-above stem es (subst (λ (name : List ℕ). AllByRecursion (λ other. slice_cmp nat_cmp name other ≡ Less) (keys_of es)) (sym same) below) in
          let first : P (e.0, f e.1) = subst (λ (name : List ℕ). P (name, f e.1)) same (new e.1 (rw here refl)) in
          rw here (first, subst (AllByRecursion P) (unchanged_none stem f es none) all.1)
      | false ↦ λ off. rw off (all.0, each-changed P stem f es rest all.1 (λ value is. new value (rw off is)))
    ] in
    pass (is_name stem e.0) refl

-- the stem of a collection that is there is one
pub has-stem : (stem : List ℕ) (rows : Rows) → AllByRecursion IsSoundCollection rows → has stem rows ≡ true → IsStem stem
has-stem stem rows all there =
    let pass : (o : Option CollectionRow) → value_at stem rows ≡ o → IsStem stem =
    elim [
      | None ↦ λ is. let no : false ≡ true = rw is at there in cc
      | Some row ↦ λ is. (at-stem IsSoundCollection stem row rows all is).stem
    ] in
    pass (value_at stem rows) refl

-- the same of one that is unlocked
pub open-stem : (stem : List ℕ) (rows : Rows) → AllByRecursion IsSoundCollection rows → is_open stem rows ≡ true → IsStem stem
open-stem stem rows all unlocked =
    let pass : (o : Option CollectionRow) → value_at stem rows ≡ o → IsStem stem =
    elim [
      | None ↦ λ is. let no : false ≡ true = rw is at unlocked in cc
      | Some row ↦ λ is. (at-stem IsSoundCollection stem row rows all is).stem
    ] in
    pass (value_at stem rows) refl

-- an item that is shown has a number of its type
shown-small : (id : ℕ) (items : List ClearItem) → AllByRecursion IsKnownClearItem items → list_any (λ item. nat_eq item.id.0 id) items ≡ true → id < 2 ^ 32
shown-small id [] all there = absurd (let no : false ≡ true = there in cc)
shown-small id (item ∷ items) all there =
    elim (or_cases (nat_eq item.id.0 id) (list_any (λ (item : ClearItem). nat_eq item.id.0 id) items) there) [
      | inl here ↦ subst (λ n. n < 2 ^ 32) (eqb-true item.id.0 id here) all.0.id
      | inr later ↦ shown-small id items all.1 later
    ]

has-item : (stem : List ℕ) (item : ItemId) (rows : Rows) → AllByRecursion IsSoundCollection rows → has_item stem item.0 rows ≡ true → IsName (name.Item stem item)
has-item stem item rows all there =
    let pass : (o : Option CollectionRow) → value_at stem rows ≡ o → IsName (name.Item stem item) =
    elim [
      | None ↦ λ is. let no : false ≡ true = rw is at there in cc
      | Some row ↦ λ is.
          let sound = at-stem IsSoundCollection stem row rows all is in
          let shown : shows_item item.0 row ≡ true = rw is at there in
          (sound.stem, shown-small item.0 row.clear.items sound.shown.items shown)
    ] in
    pass (value_at stem rows) refl

-- ---- objects that are there have paths

where-true : (there : Bool) (stem : List ℕ) → is_some (stem_where there stem) ≡ true → there ≡ true
where-true true stem is = refl
where-true false stem is = is

alias-true : (named : Bool) (stem : Option (List ℕ)) → is_some (cond named stem None) ≡ true → named ≡ true
alias-true true stem is = refl
alias-true false stem is = is

pub there-named : (contents : Contents) → AreSoundCollections contents.collections → (object : ObjectName) → is_there (asked_collections contents) object ≡ true → IsName object
there-named contents sound (name.Collection stem) there = has-stem stem contents.collections sound.each (where-true (has stem contents.collections) stem there)
there-named contents sound (name.Item stem item) there = has-item stem item contents.collections sound.each (where-true (has_item stem item.0 contents.collections) stem there)
there-named contents sound (name.Alias alias) there = is-alias alias (alias-true (is_alias alias) (stem_there contents.collections (value_at alias (pairs_of contents.aliases))) there)
there-named contents sound name.Nothing there = tt
there-named contents sound name.Service there = tt
there-named contents sound name.Agent there = tt
there-named contents sound (name.Session session) there = absurd (let no : false ≡ true = there in cc)
there-named contents sound (name.Prompt prompt) there = absurd (let no : false ≡ true = there in cc)

-- the stem of a collection that an object names is one
where-stem : (rows : Rows) → AllByRecursion IsSoundCollection rows → (named stem : List ℕ) → stem_where (has named rows) named ≡ Some stem → IsStem stem
where-stem rows all named stem is =
    let pass : (b : Bool) → has named rows ≡ b → cond b (Some named) None ≡ Some stem → IsStem stem =
    elim [
      | true ↦ λ there found. let same : named ≡ stem = cc in subst IsStem same (has-stem named rows all there)
      | false ↦ λ off found. absurd (none-some stem found)
    ] in
    pass (has named rows) refl is

there-stem : (rows : Rows) → AllByRecursion IsSoundCollection rows → (named : Option (List ℕ)) (stem : List ℕ) → stem_there rows named ≡ Some stem → IsStem stem
there-stem rows all None stem is = absurd (none-some stem is)
there-stem rows all (Some named) stem is = where-stem rows all named stem is

pub named-stem : (contents : Contents) → AreSoundCollections contents.collections → (object : ObjectName) (stem : List ℕ) → collection_named (asked_collections contents) object ≡ Some stem → IsStem stem
named-stem contents sound (name.Collection named) stem is = where-stem contents.collections sound.each named stem is
named-stem contents sound (name.Alias alias) stem is =
    let pass : (b : Bool) → cond b (stem_there contents.collections (value_at alias (pairs_of contents.aliases))) None ≡ Some stem → IsStem stem =
    elim [ true ↦ λ found. there-stem contents.collections sound.each (value_at alias (pairs_of contents.aliases)) stem found | false ↦ λ found. absurd (none-some stem found) ] in
    pass (is_alias alias) is
named-stem contents sound (name.Item other item) stem is = absurd (none-some stem is)
named-stem contents sound name.Nothing stem is = absurd (none-some stem is)
named-stem contents sound name.Service stem is = absurd (none-some stem is)
named-stem contents sound name.Agent stem is = absurd (none-some stem is)
named-stem contents sound (name.Session session) stem is = absurd (none-some stem is)
named-stem contents sound (name.Prompt prompt) stem is = absurd (none-some stem is)

of-named : (contents : Contents) → AreSoundCollections contents.collections → (object : ObjectName) (stem : List ℕ)
    → option_map Some (collection_named (asked_collections contents) object) ≡ Some (Some stem) → IsStem stem
of-named contents sound object stem is =
    let pass : (o : Option (List ℕ)) → collection_named (asked_collections contents) object ≡ o → option_map Some o ≡ Some (Some stem) → IsStem stem =
    elim [
      | None ↦ λ at found. absurd (none-some (Some stem) found)
      | Some named ↦ λ at found. let same : named ≡ stem = cc in named-stem contents sound object stem (at ∙ ap Some same)
    ] in
    pass (collection_named (asked_collections contents) object) refl is

not-inner : (target : Option (Option (List ℕ))) (stem : List ℕ) → target ≡ Some None → target ≡ Some (Some stem) → ⊥
not-inner target stem none some = cc

-- the stem that an alias is set to is one
pub target-stem : (contents : Contents) → AreSoundCollections contents.collections → (object : Option ObjectName) (stem : Option (List ℕ))
    → alias_target (asked_collections contents) object ≡ Some stem → IfSome stem IsStem
target-stem contents sound object None is = tt
target-stem contents sound None (Some stem) is = absurd (none-some (Some stem) is)
target-stem contents sound (Some name.Nothing) (Some stem) is = absurd (not-inner (Some None) stem refl is)
target-stem contents sound (Some (name.Collection named)) (Some stem) is = of-named contents sound (name.Collection named) stem is
target-stem contents sound (Some (name.Alias alias)) (Some stem) is = of-named contents sound (name.Alias alias) stem is
target-stem contents sound (Some (name.Item other item)) (Some stem) is = absurd (none-some (Some stem) is)
target-stem contents sound (Some name.Service) (Some stem) is = absurd (none-some (Some stem) is)
target-stem contents sound (Some name.Agent) (Some stem) is = absurd (none-some (Some stem) is)
target-stem contents sound (Some (name.Session session)) (Some stem) is = absurd (none-some (Some stem) is)
target-stem contents sound (Some (name.Prompt prompt)) (Some stem) is = absurd (none-some (Some stem) is)

-- the path of a collection that an alias stands for
pub alias-named : (contents : Contents) → AreSoundCollections contents.collections → (alias stem : List ℕ) → alias_of alias contents ≡ Some stem → IsName (name.Collection stem)
alias-named contents sound alias stem is = named-stem contents sound (name.Alias alias) stem is

and-first : (a b : Bool) → (a && b) ≡ true → a ≡ true
and-first true b is = refl
and-first false b is = is

pub open-named : (contents : Contents) → AreSoundCollections contents.collections → (object : ObjectName) → is_open_item (asked_collections contents) object ≡ true → IsName object
open-named contents sound (name.Item stem item) is =
    has-item stem item contents.collections sound.each (and-first (has_item stem item.0 contents.collections) (collections.is_open stem contents.collections) is)
open-named contents sound (name.Collection stem) is = absurd (let no : false ≡ true = is in cc)
open-named contents sound (name.Alias alias) is = absurd (let no : false ≡ true = is in cc)
open-named contents sound name.Nothing is = tt
open-named contents sound name.Service is = tt
open-named contents sound name.Agent is = tt
open-named contents sound (name.Session session) is = absurd (let no : false ≡ true = is in cc)
open-named contents sound (name.Prompt prompt) is = absurd (let no : false ≡ true = is in cc)

with-each : (P : ObjectName → Type 0) (listed : List ObjectName) (object : ObjectName) → AllByRecursion P listed → P object → AllByRecursion P (with_object listed object)
with-each P listed object all one =
    let pass : (b : Bool) → AllByRecursion P (cond b listed (listed ++ object ∷ [])) = elim [ true ↦ all | false ↦ each-append P listed (object ∷ []) all (one, tt) ] in
    pass (is_listed (path_text object) (paths_of listed))

once-from : (P : ObjectName → Type 0) (listed objects : List ObjectName) → AllByRecursion P listed → AllByRecursion P objects → AllByRecursion P (fold with_object listed objects)
once-from P listed [] all rest = all
once-from P listed (object ∷ objects) all rest = once-from P (with_object listed object) objects (with-each P listed object all rest.0) rest.1

pub once-each : (P : ObjectName → Type 0) (p : ObjectName → Bool) → ((object : ObjectName) → p object ≡ true → P object) → (objects : List ObjectName) → AllByRecursion P (once (filter p objects))
once-each P p says objects = once-from P [] (filter p objects) tt (each-tested P p says objects)

pub path-of : (object : ObjectName) → IsName object → IsTrue (is_object_path (path_text object))
path-of object named = named_path object (path_text object) (record { named = named; spelled = refl })

pub named-paths : (objects : List ObjectName) → AllByRecursion IsName objects → ArePaths (paths_of objects)
named-paths [] all = tt
named-paths (object ∷ objects) all = (path-of object all.0, named-paths objects all.1)

-- ---- what a search finds

-- the number of an item has its type
abbrev IsSmall : ItemId → Type 0
IsSmall id = id.0 < 2 ^ 32

items-paths : (stem : List ℕ) (ids : List ItemId) → IsStem stem → AllByRecursion IsSmall ids → ArePaths (item_paths stem ids)
items-paths stem [] is all = tt
items-paths stem (id ∷ ids) is all = (path-of (name.Item stem id) (is, all.0), items-paths stem ids is all.1)

paths-append : (one other : List (List ℕ)) → ArePaths one → ArePaths other → ArePaths (one ++ other)
paths-append [] other first second = second
paths-append (path ∷ one) other first second = (first.0, paths-append one other first.1 second)

found-small : (wanted : List (List ℕ × AttrValue)) (clear : ClearPart) (held : Option Held) → AllByRecursion IsKnownClearItem clear.items → IfSome held AreSoundItems
    → AllByRecursion (λ id. id < 2 ^ 32) (found wanted clear held)
found-small wanted clear None shown sound =
    each-mapped (λ (item : ClearItem). item.id.0) (λ id. id < 2 ^ 32) _ (each-weaker IsKnownClearItem _ (λ item known. known.id) _ (each-filter IsKnownClearItem _ clear.items shown))
found-small wanted clear (Some held) shown sound =
    each-mapped row_number (λ id. id < 2 ^ 32) _ (each-weaker IsSoundItem _ (λ row is. is.clear.id) _ (each-filter IsSoundItem _ held.rows sound))

-- what is found in a collection: its stem is one, and the items' numbers have their type
record AreSoundMatches (matches : Matches) : Type 0 where
  stem : IsStem matches.stem
  ids : AllByRecursion IsSmall matches.ids

matches-sound : (wanted : List (List ℕ × AttrValue)) (row : List ℕ × CollectionRow) → IsSoundCollection row → AreSoundMatches (collections.found_in wanted row)
matches-sound wanted row sound = record {
  stem = sound.stem;
  ids = each-mapped (λ id. record { 0 = id }) IsSmall _ (found-small wanted row.1.clear row.1.held sound.shown.items sound.held);
}

if-open : (unlocked : Bool) (one other : List (List ℕ)) → ArePaths one → ArePaths other → ArePaths (cond unlocked one other)
if-open true one other first second = first
if-open false one other first second = second

unlocked-typed : (these : List Matches) → AllByRecursion AreSoundMatches these → ArePaths (unlocked_paths these)
unlocked-typed [] all = tt
unlocked-typed (matches ∷ these) all =
    paths-append (cond matches.is_open (paths_in matches) []) (unlocked_paths these)
    (if-open matches.is_open (paths_in matches) [] (items-paths matches.stem matches.ids all.0.stem all.0.ids) tt) (unlocked-typed these all.1)

locked-typed : (these : List Matches) → AllByRecursion AreSoundMatches these → ArePaths (locked_paths these)
locked-typed [] all = tt
locked-typed (matches ∷ these) all =
    paths-append (cond matches.is_open [] (paths_in matches)) (locked_paths these)
    (if-open matches.is_open [] (paths_in matches) tt (items-paths matches.stem matches.ids all.0.stem all.0.ids)) (locked-typed these all.1)

all-sound : (wanted : List (List ℕ × AttrValue)) (rows : Rows) → AreSoundCollections rows → AllByRecursion AreSoundMatches (collections.found_in_all wanted rows)
all-sound wanted rows sound = each-mapped (collections.found_in wanted) AreSoundMatches rows (each-weaker IsSoundCollection _ (matches-sound wanted) rows sound.each)

-- the paths of what a search finds
pub found-unlocked : (wanted : List (List ℕ × AttrValue)) (rows : Rows) → AreSoundCollections rows → ArePaths (unlocked_paths (collections.found_in_all wanted rows))
found-unlocked wanted rows sound = unlocked-typed (collections.found_in_all wanted rows) (all-sound wanted rows sound)

pub found-locked : (wanted : List (List ℕ × AttrValue)) (rows : Rows) → AreSoundCollections rows → ArePaths (locked_paths (collections.found_in_all wanted rows))
found-locked wanted rows sound = locked-typed (collections.found_in_all wanted rows) (all-sound wanted rows sound)

-- and of one
pub found-in-paths : (stem : List ℕ) (wanted : List (List ℕ × AttrValue)) (rows : Rows) → AreSoundCollections rows → ArePaths (item_paths stem (found_in stem wanted rows))
found-in-paths stem wanted rows sound =
    let pass : (o : Option CollectionRow) → value_at stem rows ≡ o → ArePaths (item_paths stem (option_map_or (λ row. (collections.found_in wanted (stem, row)).ids) o [])) =
    elim [
      | None ↦ λ is. tt
      | Some row ↦ λ is.
          let here = at-stem IsSoundCollection stem row rows sound.each is in
          items-paths stem _ here.stem (matches-sound wanted (stem, row) here).ids
    ] in
    pass (value_at stem rows) refl

-- ---- secrets

held-known : (id : ℕ) (held : Option Held) (full : FullItem) → IfSome held AreSoundItems → item_at id held ≡ Some full → IsKnownItem full
held-known id None full sound is = absurd (none-some full is)
held-known id (Some held) full sound is =
    each-found (λ (row : Row). row.1) IsKnownItem (λ row. nat_eq (row_number row) id) held.rows full (each-weaker IsSoundItem _ (λ row one. one.full) held.rows sound) is

-- an item of an unlocked collection has its types
pub item-known : (stem : List ℕ) (id : ℕ) (rows : Rows) (full : FullItem) → AllByRecursion IsSoundCollection rows → item_of stem id rows ≡ Some full → IsKnownItem full
item-known stem id rows full all is =
    let pass : (o : Option CollectionRow) → value_at stem rows ≡ o → option_map_or (λ (row : CollectionRow). item_at id row.held) o None ≡ Some full → IsKnownItem full =
    elim [
      | None ↦ λ at has. absurd (none-some full has)
      | Some row ↦ λ at has. held-known id row.held full (at-stem IsSoundCollection stem row rows all at).held has
    ] in
    pass (value_at stem rows) refl is

content-known : (stem : List ℕ) (id : ℕ) (rows : Rows) (content : List ℕ) → AllByRecursion IsSoundCollection rows → content_of stem id rows ≡ Some content
    → IsText content
content-known stem id rows content all is =
    let pass : (o : Option CollectionRow) → value_at stem rows ≡ o → option_map_or (λ (row : CollectionRow). content_at id row.clear.items) o None ≡ Some content
    → IsText content =
    elim [
      | None ↦ λ at has. absurd (none-some content has)
      | Some row ↦ λ at has.
          each-found (λ (item : ClearItem). item.content) IsText (λ item. nat_eq item.id.0 id) row.clear.items content
          (each-weaker IsKnownClearItem _ (λ item known. known.content) row.clear.items (at-stem IsSoundCollection stem row rows all at).shown.items) has
    ] in
    pass (value_at stem rows) refl is

-- a secret that is there has its types, if its session's number does
pub secret-typed : (session : SessionId) (rows : Rows) (stem : List ℕ) (item : ItemId) (secret : ReturnedSecret) → session.0 < 2 ^ 64 → AreSoundCollections rows
    → secret_of session rows stem item ≡ Some secret → IsSecret secret
secret-typed session rows stem item secret small sound is =
    let pass : (o : Option FullItem) → item_of stem item.0 rows ≡ o → (p : Option (List ℕ)) → content_of stem item.0 rows ≡ p
    → option_and_then (λ (full : FullItem). option_map (λ content. record { session = session; value = full.value; content = content }) p) o ≡ Some secret → IsSecret secret =
    elim [
      | None ↦ λ at p content has. absurd (none-some secret has)
      | Some full ↦ λ at. elim [
        | None ↦ λ content has. absurd (none-some secret has)
        | Some text ↦ λ content has.
            let made : ReturnedSecret = record { session = session; value = full.value; content = text } in
            let same : made ≡ secret = cc in
            subst IsSecret same (record {
              session = small;
              value = each_byte full.value (item-known stem item.0 rows full sound.each at).value;
              content = content-known stem item.0 rows text sound.each content;
            })
      ]
    ] in
    pass (item_of stem item.0 rows) refl (content_of stem item.0 rows) refl is

one-more : (one : Option ItemSecret) (more : List ItemSecret) → IfSome one (λ (s : ItemSecret). IsTrue (is_object_path s.item) × IsSecret s.secret) → AreSecrets more → AreSecrets (cons_option one more)
one-more None more is all = all
one-more (Some one) more is all = (is.0, is.1, all)

one-typed : (session : SessionId) (rows : Rows) (object : ObjectName) → session.0 < 2 ^ 64 → AreSoundCollections rows → IsName object
    → IfSome (item_secret session rows object) (λ (s : ItemSecret). IsTrue (is_object_path s.item) × IsSecret s.secret)
one-typed session rows (name.Item stem item) small sound named =
    let pass : (o : Option ReturnedSecret) → secret_of session rows stem item ≡ o
    → IfSome (option_map (λ secret. record { item = path_text (name.Item stem item); secret = secret }) o) (λ (s : ItemSecret). IsTrue (is_object_path s.item) × IsSecret s.secret) =
    elim [
      | None ↦ λ is. tt
      | Some secret ↦ λ is. (path-of (name.Item stem item) named, secret-typed session rows stem item secret small sound is)
    ] in
    pass (secret_of session rows stem item) refl
one-typed session rows (name.Collection stem) small sound named = tt
one-typed session rows (name.Alias alias) small sound named = tt
one-typed session rows name.Nothing small sound named = tt
one-typed session rows name.Service small sound named = tt
one-typed session rows name.Agent small sound named = tt
one-typed session rows (name.Session number) small sound named = tt
one-typed session rows (name.Prompt prompt) small sound named = tt

pub secrets-typed : (session : SessionId) (rows : Rows) (items : List ObjectName) → session.0 < 2 ^ 64 → AreSoundCollections rows → AllByRecursion IsName items
    → AreSecrets (filter_map (item_secret session rows) items)
secrets-typed session rows [] small sound all = tt
secrets-typed session rows (item ∷ items) small sound all =
    one-more (item_secret session rows item) (filter_map (item_secret session rows) items) (one-typed session rows item small sound all.0) (secrets-typed session rows items small sound all.1)

-- ---- a collection that is locked

each-locked : (stem : List ℕ) (rows : Rows) → AllByRecursion IsSoundCollection rows → AllByRecursion IsSoundCollection (changed stem locked rows)
each-locked stem [] all = tt
each-locked stem (row ∷ rows) all =
    let pass : (b : Bool) → is_name stem row.0 ≡ b → AllByRecursion IsSoundCollection (changed stem locked (row ∷ rows)) =
    elim [
      | true ↦ λ is. rw is (record { stem = all.0.stem; shown = all.0.shown; other = all.0.other; held = tt; image = all.0.image; newer = all.0.newer; holds = tt }, each-locked stem rows all.1)
      | false ↦ λ is. rw is (all.0, each-locked stem rows all.1)
    ] in
    pass (is_name stem row.0) refl

pub sound-locked : (stem : List ℕ) (rows : Rows) → AreSoundCollections rows → AreSoundCollections (changed stem locked rows)
sound-locked stem rows sound = record {
  ordered = changed_in_order stem locked rows sound.ordered;
  each = each-locked stem rows sound.each;
}
