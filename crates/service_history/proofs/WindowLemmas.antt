-- The windows of a run, one after the other, are one list of events.
use Rattle.std.proofs.Common.{◌≡◌, ◌+◌, List, [], ◌∷◌, ◌++◌, length, refl, ap, ◌∙◌, sym, arith, length-append}
use Rattle.std.proofs.lemmas.List.{append-nil}
use Rattle.service_machine.specs.service_events.specs.declared.event.Output.{Output}
use Rattle.service_machine.specs.service_events.specs.declared.event.Incoming.{Incoming}
use Rattle.service_machine.specs.service_events.specs.Step.{output_of}
use Rattle.service_machine.specs.service_events.specs.Replay.{replay, Legal, outputs}
use Rattle.service_machine.specs.service_events.proofs.ReplayLemmas.{replay-append, Legal-append, outputs-append}
use Rattle.service_history.specs.History.{History, IsHistory, IsAppended}
use Rattle.service_history.specs.Windows.{Window, next_window, AreInRow, history_of, window_behind}

pub legal-in_row : (start : Window) (windows : List Window) → AreInRow start windows → Legal start.base (history_of windows)
legal-in_row start [] row = tt
legal-in_row start (window ∷ []) row = rw (append-nil window.events, ← row.base) row.legal
legal-in_row start (window ∷ next ∷ windows) row =
    Legal-append start.base window.events (history_of (next ∷ windows)) (rw (← row.0.base) row.0.legal)
    (rw (← row.0.base) (legal-in_row (next_window window) (next ∷ windows) row.2))

pub replay-in_row : (start : Window) (windows : List Window) → AreInRow start windows → replay start.base (history_of windows) ≡ (window_behind start windows).base
replay-in_row start [] row = refl
replay-in_row start (window ∷ []) row = rw (append-nil window.events, ← row.base) refl
replay-in_row start (window ∷ next ∷ windows) row =
    replay-append start.base window.events (history_of (next ∷ windows))
    ∙ ap (λ base. replay (replay base window.events) (history_of (next ∷ windows))) (sym row.0.base)
    ∙ replay-in_row (next_window window) (next ∷ windows) row.2

pub era-in_row : (start : Window) (windows : List Window) → AreInRow start windows → (window_behind start windows).era ≡ start.era + length (history_of windows)
era-in_row start [] row = omega arith
era-in_row start (window ∷ []) row = omega (arith, row.era, ap length (append-nil window.events))
era-in_row start (window ∷ next ∷ windows) row =
    omega (arith, row.0.era, era-in_row (next_window window) (next ∷ windows) row.2, length-append window.events (history_of (next ∷ windows)))

pub output-behind : (old new : History) (came : Incoming) (answer : Output) → IsHistory old → IsAppended old came answer new
    → outputs new.window.base new.window.events ≡ outputs old.window.base old.window.events ++ answer ∷ []
output-behind old new came answer is appended =
    rw appended.appends (
    outputs-append old.window.base old.window.events (appended.event ∷ [])
    ∙ ap (λ state. outputs old.window.base old.window.events ++ output_of state appended.event ∷ []) (sym is.replayed)
    ∙ ap (λ out. outputs old.window.base old.window.events ++ out ∷ []) (sym appended.answers))
