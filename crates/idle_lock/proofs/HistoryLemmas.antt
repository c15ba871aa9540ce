-- How one more thing that a plan is told changes the times of a collection.
use Rattle.std.proofs.Common.{◌≡◌, ◌∙◌, ℕ, Bool, true, false, not, Option, Some, None, List, [], ◌∷◌, ◌++◌, map, filter, reverse, take_while, refl, ap, sym}
use Rattle.std.proofs.lemmas.List.{append-nil, reverse-append, map-append}
use Rattle.std.proofs.lemmas.List.Elements.{filter-append}
use Rattle.std.proofs.lemmas.List.Sums.{take_while-cons}
use Rattle.idle_lock.specs.History.{History, is_same, is_change, is_closing, moment_of, about, since_closed, from_opening, last_or, times_from}
use Rattle.idle_lock.specs.declared.history.Told.{Told}
use Rattle.idle_lock.specs.declared.history.Told.TheVariants.{Opened, Changed, Closed}
use Rattle.idle_lock.specs.declared.history.Times.{Times}

-- what was told of the same collection is in what a history says of it
pub about-same : (history : History) (stem other : List ℕ) (told : Told) → is_same stem other ≡ true → about stem (history ++ (other, told) ∷ []) ≡ about stem history ++ told ∷ []
about-same history stem other told same =
    let p : List ℕ × Told → Bool = λ t. is_same stem t.0 in
    let kept : filter p (history ++ (other, told) ∷ []) ≡ filter p history ++ (other, told) ∷ [] = filter-append p history ((other, told) ∷ []) ∙ rw same refl in
    ap (map (λ (t : List ℕ × Told). t.1)) kept ∙ map-append (λ (t : List ℕ × Told). t.1) (filter p history) ((other, told) ∷ [])

-- and what was told of another one isn't
pub about-other : (history : History) (stem other : List ℕ) (told : Told) → is_same stem other ≡ false → about stem (history ++ (other, told) ∷ []) ≡ about stem history
about-other history stem other told differs =
    let p : List ℕ × Told → Bool = λ t. is_same stem t.0 in
    let left : filter p (history ++ (other, told) ∷ []) ≡ filter p history = filter-append p history ((other, told) ∷ []) ∙ rw differs (append-nil (filter p history)) in
    ap (map (λ (t : List ℕ × Told). t.1)) left

-- what doesn't lock the collection comes after the last time that it was locked
since_closed-stays : (tolds : List Told) (told : Told) → is_closing told ≡ false → since_closed (tolds ++ told ∷ []) ≡ since_closed tolds ++ told ∷ []
since_closed-stays tolds told stays =
    let p : Told → Bool = λ t. not (is_closing t) in
    let kept : take_while p (told ∷ reverse tolds) ≡ told ∷ take_while p (reverse tolds) = rw (take_while-cons p told (reverse tolds), stays) refl in
    ap (λ (t : List Told). reverse (take_while p t)) (reverse-append tolds (told ∷ [])) ∙ ap reverse kept ∙ reverse-append (told ∷ []) (take_while p (reverse tolds))

-- nothing comes after what locks it
since_closed-closed : (tolds : List Told) → since_closed (tolds ++ Closed ∷ []) ≡ []
since_closed-closed tolds =
    let p : Told → Bool = λ t. not (is_closing t) in
    ap (λ (t : List Told). reverse (take_while p t)) (reverse-append tolds (Closed ∷ [])) ∙ ap reverse (take_while-cons p Closed (reverse tolds))

-- unlocking is no change
no_change : (now : ℕ) (tolds : List Told) → filter is_change (tolds ++ Opened now ∷ []) ≡ filter is_change tolds
no_change now [] = refl
no_change now (Opened m ∷ more) = no_change now more
no_change now (Changed m ∷ more) = ap (λ t. Changed m ∷ t) (no_change now more)
no_change now (Closed ∷ more) = no_change now more

-- the last of some moments is the one that was put last
last_or-append : (moment last : ℕ) (moments : List ℕ) → last_or moment (moments ++ last ∷ []) ≡ last
last_or-append moment last [] = refl
last_or-append moment last (next ∷ more) = last_or-append next last more

-- the last change is the one that was told last
changed_last : (moment now : ℕ) (tolds : List Told) → last_or moment (map moment_of (filter is_change (tolds ++ Changed now ∷ []))) ≡ now
changed_last moment now tolds =
    rw (filter-append is_change tolds (Changed now ∷ []), map-append moment_of (filter is_change tolds) (Changed now ∷ []))
    (last_or-append moment now (map moment_of (filter is_change tolds)))

-- a collection that is closed opens when it is unlocked
opens : (now : ℕ) (tolds : List Told) → None ≡ times_from (from_opening tolds) → times_from (from_opening (tolds ++ Opened now ∷ [])) ≡ Some (record { unlocked = now; changed = now })
opens now [] none = refl
opens now (Opened m ∷ more) none = cc
opens now (Changed m ∷ more) none = opens now more none
opens now (Closed ∷ more) none = opens now more none

-- unlocking an open one changes nothing
stays_open : (now : ℕ) (times : Times) (tolds : List Told) → Some times ≡ times_from (from_opening tolds) → times_from (from_opening (tolds ++ Opened now ∷ [])) ≡ Some times
stays_open now times [] is = cc
stays_open now times (Opened m ∷ more) is = rw (no_change now more) (sym is)
stays_open now times (Changed m ∷ more) is = stays_open now times more is
stays_open now times (Closed ∷ more) is = stays_open now times more is

-- when an open collection was unlocked
abbrev unlocked_of : Option Times → ℕ
unlocked_of None = 0
unlocked_of (Some times) = times.unlocked

-- a change of an open one is its last
changes : (now : ℕ) (times : Times) (tolds : List Told) → Some times ≡ times_from (from_opening tolds)
    → times_from (from_opening (tolds ++ Changed now ∷ [])) ≡ Some (record { unlocked = times.unlocked; changed = now })
changes now times [] is = cc
changes now times (Opened m ∷ more) is =
    let same : times.unlocked ≡ m = ap unlocked_of is in
    rw (changed_last m now more, same) refl
changes now times (Changed m ∷ more) is = changes now times more is
changes now times (Closed ∷ more) is = changes now times more is

-- a change of a closed one changes nothing
stays_closed : (now : ℕ) (tolds : List Told) → None ≡ times_from (from_opening tolds) → times_from (from_opening (tolds ++ Changed now ∷ [])) ≡ None
stays_closed now [] none = refl
stays_closed now (Opened m ∷ more) none = cc
stays_closed now (Changed m ∷ more) none = stays_closed now more none
stays_closed now (Closed ∷ more) none = stays_closed now more none

-- the same of what was told of one collection, as the arms of a match have it
pub opened_none : (told : Told) (now : ℕ) (times : Option Times) (tolds : List Told) → told ≡ Opened now → times ≡ None → times ≡ times_from (from_opening (since_closed tolds))
    → Some (record { unlocked = now; changed = now }) ≡ times_from (from_opening (since_closed (tolds ++ told ∷ [])))
opened_none told now times tolds is none at =
    rw (is, since_closed-stays tolds (Opened now) refl) (sym (opens now (since_closed tolds) (sym none ∙ at)))

pub opened_some : (told : Told) (now : ℕ) (times : Option Times) (kept : Times) (tolds : List Told) → told ≡ Opened now → times ≡ Some kept → times ≡ times_from (from_opening (since_closed tolds))
    → Some kept ≡ times_from (from_opening (since_closed (tolds ++ told ∷ [])))
opened_some told now times kept tolds is some at =
    rw (is, since_closed-stays tolds (Opened now) refl) (sym (stays_open now kept (since_closed tolds) (sym some ∙ at)))

pub changed_some : (told : Told) (now : ℕ) (times : Option Times) (kept : Times) (tolds : List Told) → told ≡ Changed now → times ≡ Some kept → times ≡ times_from (from_opening (since_closed tolds))
    → Some (record { unlocked = kept.unlocked; changed = now }) ≡ times_from (from_opening (since_closed (tolds ++ told ∷ [])))
changed_some told now times kept tolds is some at =
    rw (is, since_closed-stays tolds (Changed now) refl) (sym (changes now kept (since_closed tolds) (sym some ∙ at)))

pub changed_none : (told : Told) (now : ℕ) (times : Option Times) (tolds : List Told) → told ≡ Changed now → times ≡ None → times ≡ times_from (from_opening (since_closed tolds))
    → None ≡ times_from (from_opening (since_closed (tolds ++ told ∷ [])))
changed_none told now times tolds is none at =
    rw (is, since_closed-stays tolds (Changed now) refl) (sym (stays_closed now (since_closed tolds) (sym none ∙ at)))

pub closed_any : (told : Told) (tolds : List Told) → told ≡ Closed → None ≡ times_from (from_opening (since_closed (tolds ++ told ∷ [])))
closed_any told tolds is = rw (is, since_closed-closed tolds) refl
