-- The signals of changes of sound collections have their types, so each of them has a spelling if it is short enough to wait.
use Rattle.std.proofs.Common.{ℕ, ◌≤◌, ◌≡◌, Bool, true, false, cond, IfSome, List, [], ◌∷◌, ◌++◌, length, decimal, refl, arith, length-append}
use Rattle.std.specs.List.{AllByRecursion}
use Rattle.std.proofs.lemmas.Fmt.{length-decimal-le}
use Rattle.kr_base.specs.Stem.{IsStem}
use Rattle.kr_base.specs.declared.ids.ItemId.{ItemId}
use Rattle.kr_names.specs.Escape.{escaped}
use Rattle.kr_names.specs.Path.{IsName, collections}
use Rattle.kr_names.specs.declared.object_name.ObjectName.TheVariants as name
use Rattle.dbus_marshal.specs.Spelling.{all_spelled}
use Rattle.dbus_types.specs.declared.endian.Endian.TheVariants.{Little}
use Rattle.kr_base.specs.Text.{IsText}
use Rattle.service_tables.specs.collection_store.specs.declared.change.Changed.{Changed}
use Rattle.service_tables.specs.collection_store.specs.declared.change.Changed.TheVariants as changes
use Rattle.service_tables.specs.collection_table.specs.Rows.{Rows, has, is_open}
use Rattle.service_tables.specs.secret_calls.specs.Outs.{IsEmitter, IsSignal, most_waiting, signal_values}
use Rattle.service_tables.specs.secret_calls.specs.declared.signal.Signal.{Signal}
use Rattle.service_tables.specs.declared.fate.StoreFate.{StoreFate}
use Rattle.service_tables.specs.declared.fate.StoreFate.TheVariants as fate
use Rattle.service_tables.specs.Connections.{size_of}
use Rattle.service_tables.specs.Sound.{CanWait}
use Rattle.service_tables.specs.Storing.{AreEditTypes, Edit, Add_item, Set_secret, Remove_item, Set_label, Set_attributes, Set_name, change_of, item_in}
use Rattle.service_tables.proofs.CollectionLemmas.{path-of}
use Rattle.service_tables.proofs.ShownLemmas.{attributes-typed}
use Rattle.service_tables.proofs.TypedLemmas.{pairs-known, text-known}
use Rattle.service_prompts.specs.Announcing.{announced, answered_signals, change_signals, closing_signals, collection_path, erase_signals, gone_signals, item_gone_signals, item_made_signals, item_path, item_shows, label_signals, leaving_signals, lock_signals, made_signals, make_signals, named_signals, to_everyone}
use Rattle.service_prompts.proofs.SignalLemmas.{escaped-short}

-- ---- signals whose values have their types

abbrev pub AreTyped : List Signal → Type 0
AreTyped signals = AllByRecursion IsSignal signals

-- what comes last is no longer than all
behind-short : (first second : List ℕ) (most : ℕ) → length (first ++ second) ≤ most → length second ≤ most
behind-short first second most small = omega (arith, small, length-append first second)

-- the values of a signal that can wait are shorter than any array may be
typed-waits : (it : Signal) → IsSignal it → CanWait (to_everyone it)
unfolding size_of
typed-waits it typed = λ small. record {
  typed = typed;
  short = omega (arith, behind-short _ (all_spelled Little (signal_values it) 0) most_waiting small);
}

-- each of them can wait
pub announced-can : (signals : List Signal) → AreTyped signals → AllByRecursion CanWait (announced signals)
announced-can [] typed = tt
announced-can (it ∷ more) typed = (typed-waits it typed.0, announced-can more typed.1)

-- ---- paths

collection-emits : (stem : List ℕ) → IsStem stem → IsEmitter (collection_path stem)
unfolding collections
collection-emits stem is = record { formed = path-of (name.Collection stem) is; short = omega (arith, length-append collections (escaped stem), escaped-short stem, is.fits) }

item-emits : (stem : List ℕ) (item : ItemId) → IsName (name.Item stem item) → IsEmitter (item_path stem item)
unfolding collections
item-emits stem item is = record {
  formed = path-of (name.Item stem item) is;
  short = omega (
    arith,
    length-append collections (escaped stem ++ 47 ∷ decimal item.0),
    length-append (escaped stem) (47 ∷ decimal item.0),
    escaped-short stem,
    is.0.fits,
    length-decimal-le 20 item.0 (omega arith) (omega (arith, is.1)) (omega (arith, is.1)),
  );
}

-- ---- collections

pub made-typed : (stem : List ℕ) → IsStem stem → AreTyped (made_signals stem)
made-typed stem is = (path-of (name.Collection stem) is, ((tt, tt), tt))

pub gone-typed : (stem : List ℕ) → IsStem stem → AreTyped (gone_signals stem)
gone-typed stem is = (path-of (name.Collection stem) is, ((tt, tt), tt))

pub lock-typed : (stem : List ℕ) (locked : Bool) → IsStem stem → AreTyped (lock_signals stem locked)
lock-typed stem locked is = (path-of (name.Collection stem) is, ((collection-emits stem is, (tt, tt)), tt))

pub label-typed : (stem label : List ℕ) → IsStem stem → IsText label → AreTyped (label_signals stem label)
label-typed stem label is text = (path-of (name.Collection stem) is, ((collection-emits stem is, (text, tt)), tt))

-- ---- items

item-made-typed : (stem : List ℕ) (item : ItemId) → IsName (name.Item stem item) → AreTyped (item_made_signals stem item)
item-made-typed stem item is = ((collection-emits stem is.0, path-of (name.Item stem item) is), ((collection-emits stem is.0, tt), tt))

item-gone-typed : (stem : List ℕ) (item : ItemId) → IsName (name.Item stem item) → AreTyped (item_gone_signals stem item)
item-gone-typed stem item is = ((collection-emits stem is.0, path-of (name.Item stem item) is), ((collection-emits stem is.0, tt), tt))

shows-typed : (value stem : List ℕ) (item : ItemId) (edit : Edit) → IsName (name.Item stem item) → AreEditTypes value edit → AreTyped (item_shows stem item (change_of value edit))
shows-typed value stem item (Add_item label attributes content replace) is types = tt
shows-typed value stem item (Set_secret id content) is types = tt
shows-typed value stem item (Remove_item id) is types = tt
shows-typed value stem item (Set_label id label) is types = ((item-emits stem item is, (text-known label types, tt)), tt)
shows-typed value stem item (Set_attributes id attributes) is types =
    ((item-emits stem item is, (attributes-typed attributes (pairs-known attributes types.attributes), tt)), tt)
shows-typed value stem item (Set_name label) is types = tt

-- ---- changes of a collection's content

named-typed : (value stem : List ℕ) (edit : Edit) → IsStem stem → AreEditTypes value edit → AreTyped (named_signals stem (change_of value edit))
named-typed value stem (Add_item label attributes content replace) is types = tt
named-typed value stem (Set_secret id content) is types = tt
named-typed value stem (Remove_item id) is types = tt
named-typed value stem (Set_label id label) is types = tt
named-typed value stem (Set_attributes id attributes) is types = tt
named-typed value stem (Set_name label) is types = label-typed stem label is (text-known label types)

change-typed : (value stem : List ℕ) (edit : Edit) (answer : Changed) → IsStem stem → IfSome (item_in answer) (λ item. IsName (name.Item stem item)) → AreEditTypes value edit
    → AreTyped (change_signals stem (change_of value edit) answer)
change-typed value stem edit (changes.Made item) is named types = item-made-typed stem item named
change-typed value stem edit (changes.Changed item) is named types = ((collection-emits stem is, path-of (name.Item stem item) named), shows-typed value stem item edit named types)
change-typed value stem edit (changes.Removed item) is named types = item-gone-typed stem item named
change-typed value stem edit changes.Named is named types = named-typed value stem edit is types

pub answered-typed : (value stem : List ℕ) (edit : Edit) (ended : StoreFate) (answer : Changed) → IsStem stem → IfSome (item_in answer) (λ item. IsName (name.Item stem item)) → AreEditTypes value edit
    → AreTyped (answered_signals stem (change_of value edit) ended answer)
answered-typed value stem edit fate.Stored answer is named types = change-typed value stem edit answer is named types
answered-typed value stem edit fate.Before answer is named types = tt
answered-typed value stem edit fate.Unsure answer is named types = lock-typed stem true is

-- ---- whole files

pub leaving-typed : (stem : List ℕ) (rows : Rows) → (has stem rows ≡ true → IsStem stem) → AreTyped (leaving_signals stem rows)
leaving-typed stem rows named =
    let pass : (b : Bool) → has stem rows ≡ b → AreTyped (cond b (gone_signals stem) []) = elim [ true ↦ λ is. gone-typed stem (named is) | false ↦ λ is. tt ] in
    pass (has stem rows) refl

pub closing-typed : (stem : List ℕ) (rows : Rows) → (is_open stem rows ≡ true → IsStem stem) → AreTyped (closing_signals stem rows)
closing-typed stem rows named =
    let pass : (b : Bool) → is_open stem rows ≡ b → AreTyped (cond b (lock_signals stem true) []) = elim [ true ↦ λ is. lock-typed stem true (named is) | false ↦ λ is. tt ] in
    pass (is_open stem rows) refl

pub erase-typed : (stem : List ℕ) (ended : StoreFate) (rows : Rows) → (has stem rows ≡ true → IsStem stem) → (is_open stem rows ≡ true → IsStem stem) → AreTyped (erase_signals stem ended rows)
erase-typed stem fate.Stored rows there opened = leaving-typed stem rows there
erase-typed stem fate.Before rows there opened = tt
erase-typed stem fate.Unsure rows there opened = closing-typed stem rows opened

pub make-typed : (stem : List ℕ) (ended : StoreFate) → IsStem stem → AreTyped (make_signals stem ended)
make-typed stem fate.Stored is = made-typed stem is
make-typed stem fate.Before is = tt
make-typed stem fate.Unsure is = made-typed stem is
