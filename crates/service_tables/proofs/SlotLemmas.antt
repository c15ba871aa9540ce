-- What a storing does to a collection and to the disk: the row that it leaves, the slot that it uses, and what a crash leaves meanwhile.
use Rattle.std.proofs.Common.{◌≡◌, ◌↔◌, ℕ, ◌<◌, ◌⊎◌, Bool, true, false, cond, IsTrue, IsSome, IfSome, IfNone, IfOk, OnErr, List, length, nat_le, Option, Some, None, Result, Ok, Err, IsOk, refl, sym, ap, subst, ◌∙◌, arith, inl, inr}
use Rattle.std.specs.Option.{is_some, option_and_then, option_map, option_map_or}
use Rattle.kr_base.specs.Attributes.{value_at}
use Rattle.kr_outside.specs.Faults.{KeepsSteady, Rose, last_count}
use Rattle.kr_outside.specs.Moments.{LeavesOnly}
use Rattle.kr_outside.specs.RenameDisk.{Image}
use Rattle.keyring_seal.specs.Whole.{sealed}
use Rattle.keyring_seal.specs.declared.content.Content.{Content}
use Rattle.replace_slot.specs.Cell.{File, Known, Doubt, IsOneOf, old_image}
use Rattle.item_store.specs.declared.fault.ItemFault.{ItemFault}
use Rattle.collection_store.specs.Changes.{content_changed}
use Rattle.collection_store.specs.Outcomes.{IsChanged, IsOldOrNew, IsSame, MayBeChanged, most_for}
use Rattle.collection_store.specs.State.{CollectionState, Held}
use Rattle.collection_store.specs.Storable.{answer_of, sized, storable}
use Rattle.collection_store.specs.declared.change.Change.{Change}
use Rattle.collection_store.specs.declared.change.Changed.{Changed}
use Rattle.collection_store.specs.declared.refused.ChangeRefused.TheVariants as refused
use Rattle.collection_table.specs.Entries.{Entries, row_of, rows_of}
use Rattle.collection_table.specs.Rows.{CollectionRow, Rows, room_in}
use Rattle.collection_table.proofs.RowLemmas.{value-rows}
use Rattle.service_tables.specs.declared.fate.StoreFate.{StoreFate}
use Rattle.service_tables.specs.declared.fate.StoreFate.TheVariants as fate
use Rattle.service_tables.specs.Storing.{answered_at, placed, row_after, row_changed, storable_at}

-- a test that fails doesn't pass
never : false ≡ true → ⊥
never wrong = cc

-- ---- what a crash leaves

-- more images may be left
pub leaves-weaker : {S : Type 0} (moment : S → ℕ) (left_since : S → ℕ → Image → Type 0) (old new : S) (these those : Image → Type 0) → ((image : Image) → these image → those image)
    → LeavesOnly moment left_since old new these → LeavesOnly moment left_since old new those
leaves-weaker moment left_since old new these those weaker leaves = record {
  later = leaves.later;
  each = λ image left. weaker image (leaves.each image left);
  before = λ t image le left. elim (leaves.before t image le left) [ inl was ↦ inl was | inr one ↦ inr (weaker image one) ];
}

old-one : (file : File) (image : Image) → image ≡ old_image file → IsOneOf file image
old-one (Known known) image is = is
old-one (Doubt old new) image is = inl is

-- a steady device has no fault
pub no-rise : (was is : Bool) (old new : ℕ) → KeepsSteady was is old new → IsTrue was → old < last_count → Rose old new → ⊥
no-rise was is old new keeps steady below rose =
    let still : new ≡ old = keeps.still steady in
    elim rose [ inl more ↦ omega (arith, more, still) | inr last ↦ omega (arith, last, still, below) ]

-- ---- the row of a collection that is asked to store a change

same-row : (given : Change) (now : ℕ) (row : CollectionRow) → row_changed given now fate.Before row ≡ row
same-row given now row =
    let inner : (held : Held) (made : Result (Content × Changed) ItemFault) → row_after fate.Before held row made ≡ row = λ held. elim [ Ok made ↦ refl | Err fault ↦ refl ] in
    let pass : (o : Option Held) → option_map_or (λ (held : Held). row_after fate.Before held row (content_changed given now row.clear held.rows)) o row ≡ row =
    elim [ None ↦ refl | Some held ↦ inner held (content_changed given now row.clear held.rows) ] in
    pass row.held

module _ (given : Change) (now : ℕ) {S : Type 0} (old new : CollectionState S) where
  -- what the row becomes, with what it holds
  abbrev becomes : StoreFate → Option Held → CollectionRow
  becomes some held = option_map_or (λ (held : Held). row_after some held (row_of old) (content_changed given now old.clear held.rows)) held (row_of old)

  pub row-stored : (answer : Changed) → IsSome old.held → IfSome old.held (λ held. IsChanged given now old held new answer) → row_of new ≡ row_changed given now fate.Stored (row_of old)
  row-stored answer unlocked is =
      let pass : (o : Option Held) → old.held ≡ o → IsSome o → IfSome o (λ held. IsChanged given now old held new answer) → row_of new ≡ row_changed given now fate.Stored (row_of old) =
      elim [
        | None ↦ λ at there changes. absurd (never there)
        | Some held ↦ λ at there changes.
            (λ i. record { file = changes.stored.file i; clear = changes.stored.clear i; other = changes.stored.other i; held = changes.stored.held i })
            ∙ sym (ap (becomes fate.Stored) at ∙ ap (row_after fate.Stored held (row_of old)) changes.made)
      ] in
      pass old.held refl unlocked is

  pub row-unsure : IsSome old.held → IfSome old.held (λ held. MayBeChanged given now old held new) → row_of new ≡ row_changed given now fate.Unsure (row_of old)
  row-unsure unlocked is =
      let pass : (o : Option Held) → old.held ≡ o → IsSome o → IfSome o (λ held. MayBeChanged given now old held new) → row_of new ≡ row_changed given now fate.Unsure (row_of old) =
      elim [
        | None ↦ λ at there may. absurd (never there)
        | Some held ↦ λ at there may.
            (λ i. record { file = may.unsure.file i; clear = may.unsure.clear i; other = may.unsure.other i; held = may.unsure.locked i })
            ∙ sym (ap (becomes fate.Unsure) at ∙ ap (row_after fate.Unsure held (row_of old)) may.made)
      ] in
      pass old.held refl unlocked is

  pub row-before : IsSame old new → row_of new ≡ row_changed given now fate.Before (row_of old)
  row-before same =
      (λ i. record { file = same.file i; clear = same.clear i; other = same.other i; held = same.held i }) ∙ sym (same-row given now (row_of old))

  pub state-same : IsSame old new → new.slot ≡ old.slot → new ≡ old
  state-same same slot = λ i. record { slot = slot i; file = same.file i; clear = same.clear i; other = same.other i; held = same.held i }

  -- ---- what a crash leaves of its file

  -- the images before and after
  abbrev Either : Image → Type 0
  Either image = IsOneOf old.file image ⊎ IsOneOf new.file image

  -- the content of what was made
  abbrev content_in : Content → Result (Content × Changed) ItemFault → Content
  content_in other (Ok made) = made.0
  content_in other (Err fault) = other

  one-content : (one two : Content) (a b : Changed) (made : Result (Content × Changed) ItemFault) → made ≡ Ok (one, a) → made ≡ Ok (two, b) → one ≡ two
  one-content one two a b made first second = ap (content_in one) (sym first ∙ second)

  pub either-stored : (answer : Changed) (held : Held) → IsChanged given now old held new answer → (image : Image) → IsOldOrNew given now old held image → Either image
  either-stored answer held changes image =
      elim [
        | inl was ↦ inl (old-one old.file image was)
        | inr is ↦ inr (subst (λ (f : File). IsOneOf f image) (sym changes.stored.file)
            (is.is ∙ ap (λ (c : Content). Some (sealed c held.key held.vector)) (one-content is.content changes.content is.answer answer (content_changed given now old.clear held.rows) is.made changes.made)))
      ]

  pub either-unsure : (held : Held) → MayBeChanged given now old held new → (image : Image) → IsOldOrNew given now old held image → Either image
  either-unsure held may image =
      elim [
        | inl was ↦ inl (old-one old.file image was)
        | inr is ↦ inr (subst (λ (f : File). IsOneOf f image) (sym may.unsure.file)
            (inr (is.is ∙ ap (λ (c : Content). Some (sealed c held.key held.vector)) (one-content is.content may.content is.answer may.answer (content_changed given now old.clear held.rows) is.made may.made))))
      ]

  module _ (moment : S → ℕ) (left_since : S → ℕ → Image → Type 0) where
    abbrev Leaves : (Image → Type 0) → Type 0
    Leaves images = LeavesOnly moment left_since old.slot new.slot images

    pub moment-stored : (answer : Changed) → IsSome old.held → IfSome old.held (λ held. IsChanged given now old held new answer) → IfSome old.held (λ held. Leaves (IsOldOrNew given now old held)) → Leaves Either
    moment-stored answer unlocked is leaves =
        let pass : (o : Option Held) → IsSome o → IfSome o (λ held. IsChanged given now old held new answer) → IfSome o (λ held. Leaves (IsOldOrNew given now old held)) → Leaves Either =
        elim [
          | None ↦ λ there changes all. absurd (never there)
          | Some held ↦ λ there changes all. leaves-weaker moment left_since old.slot new.slot (IsOldOrNew given now old held) Either (either-stored answer held changes) all
        ] in
        pass old.held unlocked is leaves

    pub moment-unsure : IsSome old.held → IfSome old.held (λ held. MayBeChanged given now old held new) → IfSome old.held (λ held. Leaves (IsOldOrNew given now old held)) → Leaves Either
    moment-unsure unlocked is leaves =
        let pass : (o : Option Held) → IsSome o → IfSome o (λ held. MayBeChanged given now old held new) → IfSome o (λ held. Leaves (IsOldOrNew given now old held)) → Leaves Either =
        elim [
          | None ↦ λ there may all. absurd (never there)
          | Some held ↦ λ there may all. leaves-weaker moment left_since old.slot new.slot (IsOldOrNew given now old held) Either (either-unsure held may) all
        ] in
        pass old.held unlocked is leaves

    pub moment-before : Leaves (IsOneOf old.file) → Leaves Either
    moment-before leaves = leaves-weaker moment left_since old.slot new.slot (IsOneOf old.file) Either (λ image one. inl one) leaves

    -- a file that was to be removed
    pub moment-erased : (new.file ≡ Known None) ⊎ (new.file ≡ Doubt (old_image old.file) None) → Leaves (IsOneOf (Doubt (old_image old.file) None)) → Leaves Either
    moment-erased is leaves =
        let gone : (image : Image) → image ≡ None → Either image =
        λ image none. elim is [
          | inl known ↦ inr (subst (λ (f : File). IsOneOf f image) (sym known) none)
          | inr doubt ↦ inr (subst (λ (f : File). IsOneOf f image) (sym doubt) (inr none))
        ] in
        leaves-weaker moment left_since old.slot new.slot (IsOneOf (Doubt (old_image old.file) None)) Either
        (λ image. elim [ inl was ↦ inl (old-one old.file image was) | inr none ↦ gone image none ]) leaves

-- ---- what is answered before a change is stored

sized-answer : (these : Rows) (most : ℕ) (held : Held) (made : Result (Content × Changed) ItemFault) → IsOk (sized most held made) → placed these (sized most held made) ≡ placed these (answer_of made)
sized-answer these most held (Ok made) is =
    let pass : (b : Bool) → IsOk (cond b (Ok made.1) (Err refused.TooLarge)) → placed these (cond b (Ok made.1) (Err refused.TooLarge)) ≡ placed {E = ItemFault} these (Ok made.1) =
    elim [ true ↦ λ ok. refl | false ↦ λ ok. absurd (never ok) ] in
    pass (nat_le (length (sealed made.0 held.key held.vector)) most) is
sized-answer these most held (Err fault) is = absurd (never is)

module _ (stem : List ℕ) (given : Change) (now : ℕ) where
  -- what an unlocked collection answers, before its content is sealed and after it
  abbrev answer_in : Rows → CollectionRow → Held → Option Changed
  answer_in these row held = placed these (answer_of (content_changed given now row.clear held.rows))

  abbrev storable_in : Rows → CollectionRow → Held → Option Changed
  storable_in these row held = placed these (storable given now (room_in these) row.file row.clear held)

  -- what is stored is what was answered
  pub storable-or-none : (these : Rows) → (storable_at stem given now these ≡ None) ⊎ (storable_at stem given now these ≡ answered_at stem given now these)
  storable-or-none these =
      let of_made : (most : ℕ) (held : Held) (made : Result (Content × Changed) ItemFault) → (placed these (sized most held made) ≡ None) ⊎ (placed these (sized most held made) ≡ placed these (answer_of made)) =
      λ most held. elim [
        | Ok made ↦
            let pass : (b : Bool) → (placed these (cond b (Ok made.1) (Err refused.TooLarge)) ≡ None) ⊎ (placed these (cond b (Ok made.1) (Err refused.TooLarge)) ≡ placed {E = ItemFault} these (Ok made.1)) =
            elim [ true ↦ inr refl | false ↦ inl refl ] in
            pass (nat_le (length (sealed made.0 held.key held.vector)) most)
        | Err fault ↦ inl refl
      ] in
      let of_row : (row : CollectionRow) → (option_and_then (storable_in these row) row.held ≡ None) ⊎ (option_and_then (storable_in these row) row.held ≡ option_and_then (answer_in these row) row.held) =
      λ row.
      let pass : (o : Option Held) → (option_and_then (storable_in these row) o ≡ None) ⊎ (option_and_then (storable_in these row) o ≡ option_and_then (answer_in these row) o) =
      elim [ None ↦ inl refl | Some held ↦ of_made (most_for (room_in these) row.file) held (content_changed given now row.clear held.rows) ] in
      pass row.held in
      let pass : (o : Option CollectionRow)
      → (option_and_then (λ (row : CollectionRow). option_and_then (storable_in these row) row.held) o ≡ None)
      ⊎ (option_and_then (λ (row : CollectionRow). option_and_then (storable_in these row) row.held) o ≡ option_and_then (λ (row : CollectionRow). option_and_then (answer_in these row) row.held) o) =
      elim [ None ↦ inl refl | Some row ↦ of_row row ] in
      pass (value_at stem these)

  -- the collection of the stem
  module _ {S : Type 0} (entries : Entries S) (c : CollectionState S) (there : value_at stem entries ≡ Some c) where
    abbrev these_rows : Rows
    these_rows = rows_of entries

    row-there : value_at stem (rows_of entries) ≡ Some (row_of c)
    row-there = value-rows stem entries ∙ ap (option_map row_of) there

    answered-there : answered_at stem given now these_rows ≡ option_and_then (answer_in these_rows (row_of c)) c.held
    answered-there = ap (option_and_then (λ (row : CollectionRow). option_and_then (answer_in these_rows row) row.held)) row-there

    storable-there : storable_at stem given now these_rows ≡ option_and_then (storable_in these_rows (row_of c)) c.held
    storable-there = ap (option_and_then (λ (row : CollectionRow). option_and_then (storable_in these_rows row) row.held)) row-there

    -- a change that is answered can be made
    pub answered-possible : IsSome (answered_at stem given now these_rows) → IsSome c.held × IfSome c.held (λ held. IsOk (content_changed given now c.clear held.rows))
    answered-possible some =
        let of_made : (made : Result (Content × Changed) ItemFault) → IsSome (placed these_rows (answer_of made)) → IsOk made = elim [ Ok made ↦ λ is. refl | Err fault ↦ λ is. absurd (never is) ] in
        let pass : (o : Option Held) → IsSome (option_and_then (answer_in these_rows (row_of c)) o) → IsSome o × IfSome o (λ held. IsOk (content_changed given now c.clear held.rows)) =
        elim [ None ↦ λ is. absurd (never is) | Some held ↦ λ is. (refl, of_made (content_changed given now c.clear held.rows) is) ] in
        pass c.held (subst IsSome answered-there some)

    pub storable-fits : (room : ℕ) → room ≡ room_in these_rows → IsSome c.held → IfSome c.held (λ held. IsOk (storable given now room c.file c.clear held))
        → storable_at stem given now these_rows ≡ answered_at stem given now these_rows
    storable-fits room is unlocked fits =
        let pass : (o : Option Held) → IsSome o → IfSome o (λ held. IsOk (storable given now room c.file c.clear held))
        → option_and_then (storable_in these_rows (row_of c)) o ≡ option_and_then (answer_in these_rows (row_of c)) o =
        elim [
          | None ↦ λ none ok. absurd (never none)
          | Some held ↦ λ some ok. sized-answer these_rows (most_for (room_in these_rows) c.file) held (content_changed given now c.clear held.rows)
              (subst (λ n. IsOk (storable given now n c.file c.clear held)) is ok)
        ] in
        storable-there ∙ pass c.held unlocked fits ∙ sym answered-there

    pub storable-large : (room : ℕ) → room ≡ room_in these_rows → IsSome c.held → IfSome c.held (λ held. storable given now room c.file c.clear held ≡ Err refused.TooLarge)
        → storable_at stem given now these_rows ≡ None
    storable-large room is unlocked large =
        let pass : (o : Option Held) → IsSome o → IfSome o (λ held. storable given now room c.file c.clear held ≡ Err refused.TooLarge) → option_and_then (storable_in these_rows (row_of c)) o ≡ None =
        elim [
          | None ↦ λ none err. absurd (never none)
          | Some held ↦ λ some err. ap (placed these_rows) (subst (λ n. storable given now n c.file c.clear held ≡ Err refused.TooLarge) is err)
        ] in
        storable-there ∙ pass c.held unlocked large

    -- what an unlocked collection answers is what it would make
    pub answered-is : (result : Result Changed ItemFault) → IsSome c.held → IfSome c.held (λ held. result ≡ answer_of (content_changed given now c.clear held.rows))
        → placed these_rows result ≡ answered_at stem given now these_rows
    answered-is result unlocked is =
        let pass : (o : Option Held) → IsSome o → IfSome o (λ held. result ≡ answer_of (content_changed given now c.clear held.rows)) → placed these_rows result ≡ option_and_then (answer_in these_rows (row_of c)) o =
        elim [ None ↦ λ none same. absurd (never none) | Some held ↦ λ some same. ap (placed these_rows) same ] in
        pass c.held unlocked is ∙ sym answered-there

    -- a locked one answers nothing
    pub answered-locked : c.held ≡ None → None ≡ answered_at stem given now these_rows
    answered-locked locked = sym (answered-there ∙ ap (option_and_then (answer_in these_rows (row_of c))) locked)

  pub answered-none : {S : Type 0} (entries : Entries S) → None ≡ value_at stem entries → None ≡ answered_at stem given now (rows_of entries)
  answered-none entries none =
      sym (ap (option_and_then (λ (row : CollectionRow). option_and_then (answer_in (rows_of entries) row) row.held)) (value-rows stem entries ∙ ap (option_map row_of) (sym none)))

  -- a collection that isn't there answers nothing
  pub answered-missing : {S : Type 0} (entries : Entries S) → value_at stem entries ≡ None → IsSome (answered_at stem given now (rows_of entries)) → ⊥
  answered-missing entries none some =
      never (subst IsSome (ap (option_and_then (λ (row : CollectionRow). option_and_then (answer_in (rows_of entries) row) row.held)) (value-rows stem entries ∙ ap (option_map row_of) none)) some)

-- whether a collection is unlocked
pub is-locked : {A : Type 0} (b : Bool) (o : Option A) → (IsTrue b ↔ IsSome o) → b ≡ false → o ≡ None
is-locked b None test off = refl
is-locked b (Some x) test off = absurd (never (sym off ∙ test.1 refl))

pub some-is : {A : Type 0} (o : Option A) → is_some o ≡ true → IsSome o
some-is None off = absurd (never off)
some-is (Some x) on = refl

-- ---- what is true of what a call returned

module _ {A E : Type 0} where
  pub map-some : (result : Result (Option A) E) (P Q : A → Type 0) → ((x : A) → P x → Q x) → IfOk result (λ o. IfSome o P) → IfOk result (λ o. IfSome o Q)
  map-some (Ok None) P Q weaker is = tt
  map-some (Ok (Some x)) P Q weaker is = weaker x is
  map-some (Err e) P Q weaker is = tt

  pub map-none : (result : Result (Option A) E) (P Q : Type 0) → (P → Q) → IfOk result (λ o. IfNone o P) → IfOk result (λ o. IfNone o Q)
  map-none (Ok None) P Q weaker is = weaker is
  map-none (Ok (Some x)) P Q weaker is = tt
  map-none (Err e) P Q weaker is = tt

  pub map-err : (result : Result (Option A) E) (P Q : Type 0) → (P → Q) → OnErr result P → OnErr result Q
  map-err (Ok o) P Q weaker is = tt
  map-err (Err e) P Q weaker is = weaker is

pub of-some : {A : Type 0} (P : A → Type 0) (o : Option A) (x : A) → o ≡ Some x → IfSome o P → P x
of-some P o x is holds = subst (λ o. IfSome o P) is holds
