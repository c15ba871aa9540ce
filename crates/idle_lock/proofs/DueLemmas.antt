-- The stems that are due of one timer more.
use Rattle.std.proofs.Common.{◌≡◌, ◌∙◌, ℕ, ◌+◌, ◌<◌, Bool, true, false, Option, List, [], ◌∷◌, ◌++◌, length, map, filter, take, get_or, refl, ap, sym}
use Rattle.std.specs.Bool.{if◌then◌else◌}
use Rattle.std.proofs.lemmas.List.{map-append, take_more}
use Rattle.std.proofs.lemmas.List.Elements.{filter-append}
use Rattle.idle_lock.specs.Deadline.{deadline, is_reached, due, due_one}
use Rattle.idle_lock.specs.History.{History, times_in}
use Rattle.idle_lock.specs.declared.deadline.Timer.{Timer}
use Rattle.idle_lock.specs.declared.history.Times.{Times}

-- one timer, listed if it passes a test
listed : (p : Timer → Bool) (timer : Timer) (b : Bool) → p timer ≡ b → map (λ (t : Timer). t.stem) (filter p (timer ∷ [])) ≡ (if b then timer.stem ∷ [] else [])
listed p timer true passes = rw passes refl
listed p timer false fails = rw fails refl

pub due-more : (history : History) (now : ℕ) (timers : List Timer) (place : ℕ) (timer : Timer) (times : Option Times) → place < length timers → timer ≡ get_or timers place timer → times ≡ times_in history timer.stem
    → due history now (take (place + 1) timers) ≡ due history now (take place timers) ++ due_one now timer times
due-more history now timers place timer times within read are =
    let p : Timer → Bool = λ t. is_reached now (deadline history t) in
    let longer : take (place + 1) timers ≡ take place timers ++ timer ∷ [] = take_more timers place timer within ∙ ap (λ (t : Timer). take place timers ++ t ∷ []) (sym read) in
    let one : map (λ (t : Timer). t.stem) (filter p (timer ∷ [])) ≡ due_one now timer times = rw are (listed p timer (p timer) refl) in
    ap (due history now) longer
    ∙ ap (map (λ (t : Timer). t.stem)) (filter-append p (take place timers) (timer ∷ []))
    ∙ map-append (λ (t : Timer). t.stem) (filter p (take place timers)) (filter p (timer ∷ []))
    ∙ ap (λ (t : List (List ℕ)). due history now (take place timers) ++ t) one
