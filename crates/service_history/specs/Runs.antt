-- The windows of a service, from its start on, one call after another.
use Rattle.std.specs.Prelude.{◌≡◌, ◌<◌, ◌==◌, ◌⊎◌, if◌then◌else◌, List, [], ◌∷◌, ◌++◌, length}
use Rattle.service_machine.specs.service_events.specs.declared.event.Event.{Event}
use Rattle.service_history.specs.History.{History, IsHistory}
use Rattle.service_history.specs.Windows.{Window, next_window}

-- the window continues: more events are stored in it
pub record GoesOn (old new : Window) : Type 0 where
  pub more : List Event
  pub is : new ≡ record old { events = old.events ++ more }

-- the window, which has at least one event, ends; the next one follows, and continues
pub record Ends (old new : Window) : Type 0 where
  pub some : 0 < length old.events
  pub next : GoesOn (next_window old) new

-- what one call does to the window of a service
abbrev pub Follows : Window → Window → Type 0
Follows old new = GoesOn old new ⊎ Ends old new

-- histories of a service, one call after another: each follows from the one before
abbrev pub AreCalls : History → List History → Type 0
AreCalls old [] = Unit {0}
AreCalls old (new ∷ more) = IsHistory new × Follows old.window new.window × AreCalls new more

-- the windows that these histories are in, in order: one has ended if the era is a different one
abbrev pub windows_of : History → List History → List Window
windows_of old [] = old.window ∷ []
windows_of old (new ∷ more) = if new.window.era == old.window.era then windows_of new more else old.window ∷ windows_of new more
