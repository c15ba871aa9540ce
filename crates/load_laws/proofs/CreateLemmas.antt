-- A call that makes an item of a load, once the collection has those before it.
use Rattle.std.proofs.Common.{◌≡◌, ℕ, ◌+◌, ◌<◌, ◌≤◌, not, Bool, true, false, cond, nat_le, List, [], ◌∷◌, ◌++◌, length, map, Option, Some, None, Ok, Err, codes, decimal, refl, sym, ap, ◌∙◌, subst, arith, length-append, le-leb}
use Rattle.std.proofs.lemmas.Bool.Decides.{nat_tests}
use Rattle.kr_names.specs.declared.object_name.ObjectName.TheVariants as name
use Rattle.kr_names.specs.Path.{path_text}
use Rattle.replace_slot.specs.Cell.{Known}
use Rattle.keyring_file.specs.Clear.{ClearPart}
use Rattle.keyring_file.specs.ClearText.{most_iterations}
use Rattle.connection_worker.specs.service_events.specs.service_tables.specs.keyring_seal.specs.Arranged.{Row}
use Rattle.connection_worker.specs.service_events.specs.service_tables.specs.keyring_seal.specs.Whole.{sealed}
use Rattle.connection_worker.specs.service_events.specs.service_tables.specs.keyring_seal.specs.declared.content.Content.{Content}
use Rattle.connection_worker.specs.service_events.specs.collection_store.specs.Changes.{as_content, content_changed, content_stored, made_new, minor_made, new_row, rows_made}
use Rattle.connection_worker.specs.service_events.specs.collection_store.specs.Outcomes.{most_for}
use Rattle.connection_worker.specs.service_events.specs.collection_store.specs.State.{Held}
use Rattle.connection_worker.specs.service_events.specs.collection_store.specs.Storable.{answer_of, sized}
use Rattle.connection_worker.specs.service_events.specs.collection_store.specs.declared.change.Change.{Change}
use Rattle.connection_worker.specs.service_events.specs.collection_store.specs.declared.change.Change.TheVariants as change
use Rattle.connection_worker.specs.service_events.specs.collection_store.specs.declared.change.Changed.{Changed}
use Rattle.connection_worker.specs.service_events.specs.collection_store.specs.declared.change.Changed.TheVariants as changed
use Rattle.connection_worker.specs.service_events.specs.collection_store.specs.declared.refused.ChangeRefused.TheVariants as refused
use Rattle.connection_worker.specs.service_events.specs.collection_table.specs.Rows.{CollectionRow, Rows, is_full, items_in, room_in}
use Rattle.connection_worker.specs.service_events.specs.secret_calls.specs.declared.out.Body.{Body}
use Rattle.connection_worker.specs.service_events.specs.secret_calls.specs.declared.out.Body.TheVariants as body
use Rattle.connection_worker.specs.service_events.specs.secret_calls.specs.declared.out.ErrorName.TheVariants as name-of-error
use Rattle.connection_worker.specs.service_events.specs.secret_calls.specs.declared.out.Out.TheVariants as out
use Rattle.connection_worker.specs.service_events.specs.secret_calls.specs.declared.signal.Signal.{Signal}
use Rattle.connection_worker.specs.service_events.specs.service_prompts.specs.Announcing.{announced, item_made_signals, store_signals}
use Rattle.connection_worker.specs.service_events.specs.alias_table.specs.Table.{AliasRows}
use Rattle.prompt_state.specs.declared.row.Prompts.{Prompts}
use Rattle.connection_worker.specs.service_events.specs.service_tables.specs.State.{State}
use Rattle.connection_worker.specs.service_events.specs.service_tables.specs.Storing.{Add_item, Brought, Edit, placed, row_after, storable_edit}
use Rattle.connection_worker.specs.service_events.specs.service_tables.specs.declared.rows.ConnRows.{ConnRows}
use Rattle.connection_worker.specs.service_events.specs.service_tables.specs.declared.fate.Fate.{Fate}
use Rattle.connection_worker.specs.service_events.specs.service_tables.specs.declared.fate.Fate.TheVariants as fate
use Rattle.connection_worker.specs.service_events.specs.service_tables.specs.declared.fate.StoreFate.{StoreFate}
use Rattle.connection_worker.specs.service_events.specs.service_tables.specs.declared.fate.StoreFate.TheVariants as ended
use Rattle.connection_worker.specs.service_events.specs.CollectionCalls.{by_fate, made, storing}
use Rattle.connection_worker.specs.service_events.specs.Fates.{AreFaultless}
use Rattle.connection_worker.specs.service_events.specs.Plan.{Plan, Asks, Store}
use Rattle.connection_worker.specs.service_events.specs.Run.{AreFates, AreNone, Ran, asked, by_store, by_test, demanded, failing, fits, run, sending, sent_asked}
use Rattle.connection_worker.specs.service_events.specs.Step.{brought_with, row_of}
use Rattle.connection_worker.specs.service_events.specs.service_tables.specs.Sent.{Sent}
use Rattle.connection_worker.specs.Fitting.{announced_in}
use Rattle.load_plan.specs.Plan.{attributes_of, create, the_name}
use Rattle.load_plan.specs.Words.{secret_of}
use Rattle.load_laws.specs.Requests.{the_connection}
use Rattle.load_laws.proofs.FileLemmas.{rows-of, short-file}
use Rattle.load_laws.proofs.OpeningLemmas.{one-stored, ran_from, the_sessions}
use Rattle.load_laws.proofs.RowLemmas.{AreItems, distinct, items-more, minor-plain, next-item, short-rows}
use Rattle.load_laws.proofs.SizeLemmas.{item-path, object-fits}
use Rattle.load_laws.proofs.TurnLemmas.{Tables, tables, with_tables}

-- what the front of the collection's clear part has
pub record IsFront (front : ClearPart) : Type 0 where
  pub plain : front.minor ≡ 0
  pub salt : length front.salt ≡ 8
  pub iterations : front.iterations ≤ most_iterations
  pub label : length front.name ≡ 4

-- the collection, unlocked, with these rows
abbrev pub collection_of : List ℕ → ClearPart → List ℕ → List ℕ → List Row → CollectionRow
collection_of image front key vector rows = record {
  file = Known (Some image);
  clear = record front { items = map (λ (row : Row). row.0) rows };
  other = None;
  held = Some (record { key = key; vector = vector; rows = rows });
}

-- the tables once the session is open
abbrev pub tables_with : Prompts → Option AliasRows → List (List ℕ) → CollectionRow → Tables
tables_with prompts aliases used collection = record {
  sessions = the_sessions;
  prompts = prompts;
  collections = (the_name, collection) ∷ [];
  aliases = aliases;
  used = used;
}

-- the tables once these items are made, if the session is open
pub record HasItems (seed : ℕ) (rows : List Row) (these : Tables) : Type 0 where
  pub image : List ℕ
  pub front : ClearPart
  pub key : List ℕ
  pub vector : List ℕ
  pub prompts : Prompts
  pub aliases : Option AliasRows
  pub used : List (List ℕ)
  pub is_front : IsFront front
  pub items : AreItems seed 0 rows
  pub are : these ≡ tables_with prompts aliases used (collection_of image front key vector rows)

long-map : (rows : List Row) → length (map (λ (row : Row). row.0) rows) ≡ length rows
long-map [] = refl
long-map (row ∷ rows) = let rest = long-map rows in omega (arith, rest)

leb-false-of : (a b : ℕ) → b < a → nat_le a b ≡ false
leb-false-of a b less = grind (arith, nat_tests, less)

module _ (seed now : ℕ) (salt : List ℕ) (fates : List Fate) (connections : ConnRows) (prompts : Prompts) (aliases : Option AliasRows) (used : List (List ℕ)) (image : List ℕ) (front : ClearPart) (key vector : List ℕ)
    (rows : List Row) (is_front : IsFront front) (items : AreItems seed 0 rows) (few : length rows ≤ 999) where
  abbrev item : ℕ
  item = length rows

  abbrev label : List ℕ
  label = codes "item " ++ decimal item

  abbrev clear : ClearPart
  clear = record front { items = map (λ (row : Row). row.0) rows }

  abbrev held : Held
  held = record { key = key; vector = vector; rows = rows }

  abbrev here : State
  here = with_tables connections (tables_with prompts aliases used (collection_of image front key vector rows))

  abbrev these : Rows
  these = (the_name, collection_of image front key vector rows) ∷ []

  abbrev brought : Brought
  brought = brought_with now (Ok (create seed item))

  abbrev edit : Edit
  edit = Add_item label (attributes_of seed item) (codes "text/plain") false

  abbrev change_is : Change
  change_is = change.Add label (attributes_of seed item) (secret_of seed item) (codes "text/plain") false

  -- the row that is added
  abbrev pub new : Row
  new = new_row (item + 1) now label (attributes_of seed item) (secret_of seed item) (codes "text/plain")

  abbrev pub all : List Row
  all = rows ++ new ∷ []

  abbrev answer : Changed
  answer = changed.Made (record { 0 = item + 1 })

  abbrev content : Content
  content = content_stored now clear all

  all-items : AreItems seed 0 all
  all-items = items-more seed 0 rows new items (record { now = now; is = (let e : 0 + item ≡ item = omega arith in ap (λ k. new_row (k + 1) now (codes "item " ++ decimal k) (attributes_of seed k) (secret_of seed k) (codes "text/plain")) (sym e)) })

  all-long : length all ≡ item + 1
  all-long = omega (arith, length-append rows (new ∷ []))

  -- what the change comes to
  made-rows : rows_made change_is now rows ≡ Ok (all, answer)
  made-rows = ap (λ (id : Option ℕ). made_new id now label (attributes_of seed item) (secret_of seed item) (codes "text/plain") rows) (next-item seed rows items (omega (arith, few)))

  made-content : content_changed change_is now clear rows ≡ Ok (content, answer)
  made-content = ap (as_content now clear) made-rows

  -- the front of the new content
  abbrev front-made : ClearPart
  front-made = record clear { modified = now; minor = minor_made front.minor (map (λ (row : Row). row.0) all) }

  small : length (sealed content key vector) ≤ 1500000
  small =
      let short = short-file front-made all key vector (minor-plain seed 0 front.minor all all-items is_front.plain) is_front.salt is_front.iterations (distinct seed 0 all all-items) (short-rows seed 0 all (omega (arith, all-long, few)) all-items) in
      omega (arith, short, all-long, few, is_front.label)

  -- the file may be so long
  roomy : 1500000 ≤ most_for (room_in these) (Known (Some image))
  roomy = omega (arith)

  fitting : sized (most_for (room_in these) (Known (Some image))) held (content_changed change_is now clear rows) ≡ Ok answer
  fitting =
      ap (sized (most_for (room_in these) (Known (Some image))) held) made-content
      ∙ ap (λ (b : Bool). cond b (Ok answer) (Err refused.TooLarge)) (le-leb (length (sealed content key vector)) (most_for (room_in these) (Known (Some image))) (omega (arith, small, roomy)))

  few-items : items_in these ≤ 999
  few-items = omega (arith, few, long-map rows)

  has-place : not (is_full these) ≡ true
  has-place = ap not (leb-false-of 100000 (items_in these) (omega (arith, few-items)))

  storing-is : storable_edit brought these the_name edit ≡ Some answer
  storing-is = ap (placed these) fitting ∙ ap (λ (b : Bool). cond b (Some answer) None) has-place

  -- what is answered
  abbrev path : List ℕ
  path = path_text (name.Item the_name (record { 0 = item + 1 }))

  abbrev pub answered : Body
  answered = body.ObjectAndPrompt path None

  answered-fits : fits (Ok answered) ≡ true
  answered-fits =
      let short = item-path (record { 0 = item + 1 }) (omega (arith, few)) in
      object-fits path None (omega (arith, short)) (omega arith)

  abbrev the_plan : Plan
  the_plan = Asks (Store the_name edit) (by_fate (made the_name answer))

  plan-is : row_of salt (create seed item) (asked the_connection brought here) ≡ the_plan
  plan-is = ap (storing the_name edit (made the_name)) storing-is

  module _ (are : AreFates the_connection brought (row_of salt (create seed item) (asked the_connection brought here)) fates here) (faultless : AreFaultless fates) where
    asked-fates : by_store ⊥ (λ (how : StoreFate) (rest : List Fate). AreFates the_connection brought (by_fate (made the_name answer) how) rest (demanded brought (Store the_name edit) how here)) fates
    asked-fates =
        subst (λ (b : Bool). by_test b (by_store ⊥ (λ (how : StoreFate) (rest : List Fate). AreFates the_connection brought (by_fate (made the_name answer) how) rest (demanded brought (Store the_name edit) how here)) fates) (AreNone fates))
        answered-fits (subst (λ (plan : Plan). AreFates the_connection brought plan fates here) plan-is are)

    fates-are : fates ≡ fate.Store ended.Stored ∷ []
    fates-are = one-stored brought (by_fate (made the_name answer)) (λ (how : StoreFate). demanded brought (Store the_name edit) how here) fates asked-fates faultless (λ rest none. none)

    -- the collection once the item is stored
    abbrev after : State
    after = demanded brought (Store the_name edit) ended.Stored here

    -- what is announced of that
    abbrev said : List Sent
    said = sent_asked brought (Store the_name edit) ended.Stored here

    abbrev done : Ran
    done = sending said (record { answer = Ok answered; state = after; sends = [] })

    ran-is : ran_from connections (tables_with prompts aliases used (collection_of image front key vector rows)) (create seed item) salt now fates ≡ done
    ran-is =
        ap (λ (plan : Plan). run the_connection brought plan fates here) plan-is
        ∙ ap (λ (them : List Fate). run the_connection brought the_plan them here) fates-are
        ∙ ap (λ (b : Bool). by_test b (sending said (by_test b (record { answer = Ok answered; state = after; sends = [] }) (failing name-of-error.LimitsExceeded after))) (failing name-of-error.LimitsExceeded here))
        answered-fits

    row-is : row_after ended.Stored held (collection_of image front key vector rows) (content_changed change_is now clear rows)
        ≡ collection_of (sealed content key vector) front-made key vector all
    row-is =
        ap (row_after ended.Stored held (collection_of image front key vector rows)) made-content
        ∙ ap (λ (l : List Row). record { file = Known (Some (sealed content key vector)); clear = content.clear; other = None; held = Some (record { key = key; vector = vector; rows = l }) }) (rows-of front-made all)

    front-is : IsFront front-made
    front-is = record { plain = minor-plain seed 0 front.minor all all-items is_front.plain; salt = is_front.salt; iterations = is_front.iterations; label = is_front.label }

    leaves-is : tables after ≡ tables_with prompts aliases used (collection_of (sealed content key vector) front-made key vector all)
    leaves-is = ap (tables_with prompts aliases used) row-is

    pub made-items : HasItems seed all (tables (ran_from connections (tables_with prompts aliases used (collection_of image front key vector rows)) (create seed item) salt now fates).state)
    made-items = record {
      image = sealed content key vector;
      front = front-made;
      key = key;
      vector = vector;
      prompts = prompts;
      aliases = aliases;
      used = used;
      is_front = front-is;
      items = all-items;
      are = ap (λ (r : Ran). tables r.state) ran-is ∙ leaves-is;
    }

    pub answer-is : (ran_from connections (tables_with prompts aliases used (collection_of image front key vector rows)) (create seed item) salt now fates).answer ≡ Ok answered
    answer-is = ap (λ (r : Ran). r.answer) ran-is

    -- the signals of an item that is made
    pub create-says : announced_in (ran_from connections (tables_with prompts aliases used (collection_of image front key vector rows)) (create seed item) salt now fates).sends
        ≡ map (λ (it : Signal). out.Signal it) (item_made_signals the_name (record { 0 = item + 1 }))
    create-says =
        ap (λ (r : Ran). announced_in r.sends) ran-is
        ∙ ap (λ (a : Option Changed). announced_in (announced (store_signals the_name change_is ended.Stored a) ++ [])) (ap (λ r. placed these (answer_of r)) made-content ∙ ap (λ (b : Bool). cond b (Some answer) None) has-place)
