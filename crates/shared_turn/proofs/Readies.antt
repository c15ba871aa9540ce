-- What a seat knows when its pass enters, records and gives back.
use Rattle.std.proofs.Common.{◌≡◌, ℕ, ◌+◌, true, false, List, [], ◌∷◌, ◌++◌, length, Option, Some, None, refl, sym, ap, ◌∙◌, subst, arith, length-append}
use Rattle.atomic_table.specs.Table.{Me, rest}
use Rattle.atomic_table.specs.Seated.{TableId}
use Rattle.shared_turn.specs.declared.known.Known.{Known}
use Rattle.shared_turn.specs.Places.{ArePlaces}
use Rattle.shared_turn.specs.Seats.{IsReady, HasSlot, with_ticket, without_turn}
use Rattle.shared_turn.specs.Passes.{View, view_of, Enters}
use Rattle.shared_turn.specs.Steps.{Turns}
use Rattle.shared_turn.proofs.Histories.{places-below, places-push}
use Rattle.shared_turn.proofs.Seating.{idle, holding}

-- what is first in two equal lists of slots
pub slot-value : {S : Type 0} (x y : Option S) (xs ys : List (ℕ × Option S)) → (0, x) ∷ xs ≡ (0, y) ∷ ys → x ≡ y
slot-value {S} x y xs ys e = ap first e
  where
    first : List (ℕ × Option S) → Option S
    first [] = x
    first (slot ∷ slots) = slot.1

module _ {S B E : Type 0} (meaning : S → B → ℕ → List E → Type 0) where
  abbrev M : Type 0
  M = Me (Option S) (Known B E)

  -- the slot was emptied by a seat whose turn has come
  pub inside-ready : (me new : M) (ticket : ℕ) → Turns meaning (with_ticket ticket me) new → IsReady me → me.0.has_turn ≡ false → IsReady (new.0, (0, None) ∷ rest new.1)
  inside-ready me new ticket turns ready free = subst (λ (n : M). IsReady (n.0, (0, None) ∷ rest n.1)) (sym turns.is) record {
    start = ready.start;
    met = ready.met;
    places = places-below 0 (length me.0.seen) (length (me.0.seen ++ turns.between)) me.0.own ready.places (let long = length-append me.0.seen turns.between in omega (arith, long));
    turn = (ticket, refl, ap (λ (slots : List (ℕ × Option S)). (0, None) ∷ slots) (idle me ready free).1);
  }

  -- the pass has the turn, and the value that was in the slot
  pub inside-enters : (value : S) (me new last : M) (ticket : ℕ) (turns : Turns meaning (with_ticket ticket me) new) (table now : TableId) (view : View B E) → view_of table me.0 ≡ view → now ≡ table → last.0 ≡ new.0
      → turns.value ≡ value → Enters meaning value view (view_of now last.0)
  inside-enters value me new last ticket turns table now view is tables same values =
      let known = same ∙ ap (λ (m : M). m.0) turns.is in
      subst (λ (v : View B E). Enters meaning value v (view_of now last.0)) is record {
        between = turns.between;
        is = λ i. view_of (tables i) (known i);
        stands = λ start at. subst (λ (z : S × List E). meaning z.0 start me.0.before z.1) (λ i. (values i, (sym known i).seen)) (turns.stands start at);
        alone = turns.alone;
      }

  -- the value is back in the slot
  pub given-back : (value : S) (me old : M) → IsReady me → me.0.has_turn ≡ true → old ≡ (me.0, (0, Some value) ∷ rest me.1)
      → ((start : B) → me.0.start ≡ Some start → meaning value start me.0.before me.0.seen) → HasSlot meaning value old
  given-back value me old ready has same stands = subst (λ (m : M). HasSlot meaning value m) (sym same) record {
    start = ready.start;
    turn = has;
    slot = ap (λ (slots : List (ℕ × Option S)). (0, Some value) ∷ rest slots) (holding me ready has).2;
    stands = stands;
  }

  -- a seat with one more event
  abbrev pub with_one : (S → List E) → S → Known B E → Known B E
  with_one newest value known = record known { seen = known.seen ++ newest value; own = known.own ++ length known.seen ∷ [] }

  -- the value is back in the slot, with one more event
  pub recorded-back : (newest : S → List E) (value : S) (event : E) (me old new : M) → IsReady me → me.0.has_turn ≡ true → old ≡ (me.0, (0, Some value) ∷ rest me.1)
      → new ≡ (with_one newest value old.0, old.1) → newest value ≡ event ∷ []
      → ((start : B) → me.0.start ≡ Some start → meaning value start me.0.before (me.0.seen ++ event ∷ [])) → HasSlot meaning value new
  recorded-back newest value event me old new ready has same next is stands =
      subst (λ (m : M). HasSlot meaning value m) (sym (next ∙ ap (λ (m : M). (with_one newest value m.0, m.1)) same)) record {
        start = ready.start;
        turn = has;
        slot = ap (λ (slots : List (ℕ × Option S)). (0, Some value) ∷ rest slots) (holding me ready has).2;
        stands = λ start at. subst (λ (l : List E). meaning value start me.0.before (me.0.seen ++ l)) (sym is) (stands start at);
      }

  -- the turn was passed on after one more event
  pub recorded-ready : (newest : S → List E) (value : S) (event : E) (me old new last : M) → IsReady me → old ≡ (me.0, (0, Some value) ∷ rest me.1)
      → new ≡ (with_one newest value old.0, old.1) → newest value ≡ event ∷ [] → last ≡ without_turn new → IsReady last
  recorded-ready newest value event me old new last ready same next is given =
      subst (λ (m : M). IsReady m) (sym (given ∙ ap (λ (m : M). without_turn m) (next ∙ ap (λ (m : M). (with_one newest value m.0, m.1)) same))) record {
        start = ready.start;
        met = ready.met;
        places = subst (λ (k : ℕ). ArePlaces 0 k (me.0.own ++ length me.0.seen ∷ []))
            (sym (length-append me.0.seen (newest value) ∙ ap (λ (l : List E). length me.0.seen + length l) is)) (places-push 0 (length me.0.seen) me.0.own ready.places);
        turn = (refl, refl);
      }
