-- What a change answers, by the items in both forms of rows.
use Rattle.std.proofs.Common.{◌≡◌, ℕ, Bool, true, false, cond, List, length, Option, Some, None, Result, Ok, Err, refl, sym, ap, ◌∙◌}
use Rattle.std.specs.Prelude.{nat_lt}
use Rattle.item_store.specs.Rows.{Rows, first_id, most_attributes, next_id}
use Rattle.item_store.specs.declared.fault.ItemFault.{ItemFault}
use Rattle.item_store.specs.declared.fault.ItemFault.TheVariants as item_fault
use Rattle.kr_base.specs.declared.attributes.AttrValue.{AttrValue}
use Rattle.keyring_file.specs.Clear.{ClearPart}
use Rattle.keyring_seal.specs.Arranged.{Row}
use Rattle.replace_slot.specs.Cell.{File}
use Rattle.collection_store.specs.Changes.{as_content, at_item, equal_id, has_row, made_added, made_new, rows_made, store_rows, within_most}
use Rattle.collection_store.specs.Outcomes.{made_of}
use Rattle.collection_store.specs.Preparing.{IsInStep}
use Rattle.collection_store.specs.State.{IsKept, rows_with, shown_of}
use Rattle.collection_store.specs.Storable.{answer_added, answer_at, answer_in, answer_new, answer_of}
use Rattle.collection_store.specs.Storing.{parts_of}
use Rattle.collection_store.specs.declared.change.Change.{Change}
use Rattle.collection_store.specs.declared.change.Change.TheVariants as change
use Rattle.collection_store.specs.declared.change.Changed.{Changed}
use Rattle.collection_store.specs.declared.change.Changed.TheVariants as changed
use Rattle.collection_store.specs.declared.holding.Open.{Open}
use Rattle.collection_store.proofs.ChangeLemmas.{front_of, in_step, state_of}
use Rattle.collection_store.proofs.StepLemmas.{equal_same, has_row_at, next_same}

few_by : {A : Type 0} (b : Bool) (made : A) (answer : Changed) → answer_of {A = A} (cond b (Err item_fault.TooManyAttributes) (Ok (made, answer))) ≡ cond b (Err item_fault.TooManyAttributes) (Ok answer)
few_by true made answer = refl
few_by false made answer = refl

few : {A : Type 0} (attributes : List (List ℕ × AttrValue)) (made : A) (answer : Changed) → answer_of {A = A} (within_most attributes (made, answer)) ≡ within_most attributes answer
few attributes made answer = few_by (nat_lt most_attributes (length attributes)) made answer

there_by : {A : Type 0} (b : Bool) (made : Result (A × Changed) ItemFault) → answer_of {A = A} (cond b made (Err item_fault.NoItem)) ≡ cond b (answer_of made) (Err item_fault.NoItem)
there_by true made = refl
there_by false made = refl

at_there : (id : ℕ) (told : ClearPart) (items : Rows) (made : Result (List Row × Changed) ItemFault) → IsInStep told items → answer_of (at_item id (rows_with told items) made) ≡ answer_at id items (answer_of made)
at_there id told items made step =
    there_by (has_row id (rows_with told items)) made ∙ ap (λ b. cond b (answer_of made) (Err item_fault.NoItem)) (has_row_at id told.items items step.ids)

new : (id : Option ℕ) (now : ℕ) (label : List ℕ) (attributes : List (List ℕ × AttrValue)) (value content : List ℕ) (rows : List Row) → answer_of (made_new id now label attributes value content rows) ≡ answer_new id attributes
new None now label attributes value content rows = refl
new (Some id) now label attributes value content rows = few attributes _ (changed.Made (record { 0 = id }))

added : (id : Option ℕ) (now : ℕ) (label : List ℕ) (attributes : List (List ℕ × AttrValue)) (value content : List ℕ) (rows : List Row) (items : Rows) → next_id (store_rows rows) ≡ next_id items
    → answer_of (made_added id now label attributes value content rows) ≡ answer_added id attributes items
added None now label attributes value content rows items next =
    new (next_id (store_rows rows)) now label attributes value content rows ∙ ap (λ n. answer_new n attributes) next
added (Some id) now label attributes value content rows items next = few attributes _ (changed.Changed (record { 0 = id }))

rows_answer : (given : Change) (now : ℕ) (told : ClearPart) (items : Rows) → IsInStep told items → answer_of (rows_made given now (rows_with told items)) ≡ answer_in given items
rows_answer (change.Add label attributes value content replace) now told items step =
    added (equal_id replace attributes (rows_with told items)) now label attributes value content (rows_with told items) items (next_same told.items items step.ids)
    ∙ ap (λ t. answer_added (cond replace (first_id t) None) attributes items) (equal_same attributes told.items items step.ids)
rows_answer (change.SetSecret id value content) now told items step = at_there id.0 told items _ step
rows_answer (change.SetLabel id label) now told items step = at_there id.0 told items _ step
rows_answer (change.SetAttributes id attributes) now told items step =
    at_there id.0 told items _ step ∙ ap (λ a. answer_at id.0 items a) (few attributes _ (changed.Changed id))
rows_answer (change.Remove id) now told items step = at_there id.0 told items _ step
rows_answer (change.SetName label) now told items step = refl

content_answer : (now : ℕ) (front : ClearPart) (made : Result (List Row × Changed) ItemFault) → answer_of (as_content now front made) ≡ answer_of made
content_answer now front (Ok made) = refl
content_answer now front (Err fault) = refl

-- what the items say is what the change comes to
pub answer_known : {S : Type 0} (given : Change) (now : ℕ) (slot : S) (file : File) (told : ClearPart) (newer : Option ClearPart) (was : Open) (result : Result Changed ItemFault) → IsKept file told newer (Some (parts_of was)) → result ≡ answer_in given was.items
    → result ≡ answer_of (made_of given now (state_of slot file told newer (Some was)) (record { key = was.key; vector = was.vector; rows = rows_with told was.items }))
answer_known given now slot file told newer was result kept is =
    is ∙ sym (content_answer now (front_of given (shown_of told (Some (parts_of was)))) (rows_made given now (rows_with told was.items)) ∙ rows_answer given now told was.items (in_step file told newer (Some was) kept))
