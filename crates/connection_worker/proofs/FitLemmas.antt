-- Requests whose outputs can wait together, one after the other.
use Rattle.std.proofs.Common.{List, [], ◌∷◌, ◌++◌, sym, ap, subst, append-nil}
use Rattle.kr_base.specs.declared.ids.ConnId.{ConnId}
use Rattle.service_desk.specs.service_tables.specs.State.{State}
use Rattle.service_desk.specs.service_events.specs.Replay.{replay}
use Rattle.service_desk.specs.service_events.specs.Single.{TimedRequest, turn, turns}
use Rattle.service_desk.specs.service_events.proofs.ReplayLemmas.{replay-append}
use Rattle.connection_worker.specs.declared.ending.End.{End}
use Rattle.connection_worker.specs.declared.ending.End.TheVariants as end
use Rattle.connection_worker.specs.Fitting.{FitBefore, FitTogether, HasFit}

-- if all fit, those before what came last do
pub fit-first : (conn : ConnId) (state : State) (asked : List TimedRequest) → FitTogether conn state asked → FitBefore conn state asked
fit-first conn state [] fit = tt
fit-first conn state (a ∷ []) fit = λ key. fit.0
fit-first conn state (a ∷ next ∷ more) fit = (fit.0, fit.1, fit-first conn (replay state (turn conn state a)) (next ∷ more) fit.2)

-- requests after others
pub fit-all : (conn : ConnId) (state : State) (asked more : List TimedRequest) → FitTogether conn state asked → FitTogether conn (replay state (turns conn state asked)) more → FitTogether conn state (asked ++ more)
fit-all conn state [] more fit then = then
fit-all conn state (a ∷ asked) more fit then =
    let now = turn conn state a in
    let next = replay state now in
    (fit.0, fit.1, fit-all conn next asked more fit.2 (subst (λ s. FitTogether conn s more) (replay-append state now (turns conn next asked)) then))

fit-more : (conn : ConnId) (state : State) (asked more : List TimedRequest) → FitTogether conn state asked → FitBefore conn (replay state (turns conn state asked)) more → FitBefore conn state (asked ++ more)
fit-more conn state [] more fit then = then
fit-more conn state (a ∷ []) [] fit then = λ key. fit.0
fit-more conn state (a ∷ []) (next ∷ more) fit then =
    (fit.0, fit.1, subst (λ s. FitBefore conn s (next ∷ more)) (ap (replay state) (append-nil (turn conn state a))) then)
fit-more conn state (a ∷ b ∷ asked) more fit then =
    let now = turn conn state a in
    let next = replay state now in
    (fit.0, fit.1, fit-more conn next (b ∷ asked) more fit.2 (subst (λ s. FitBefore conn s more) (replay-append state now (turns conn next (b ∷ asked))) then))

-- the later ones of requests that all fit do
fit-last : (conn : ConnId) (state : State) (asked more : List TimedRequest) → FitTogether conn state (asked ++ more) → FitTogether conn (replay state (turns conn state asked)) more
fit-last conn state [] more fit = fit
fit-last conn state (a ∷ asked) more fit =
    let now = turn conn state a in
    let next = replay state now in
    subst (λ s. FitTogether conn s more) (sym (replay-append state now (turns conn next asked))) (fit-last conn next asked more fit.2)

-- as far as requests fit at an end, they do so after others that all fit
pub fit-behind : (why : End) (conn : ConnId) (state : State) (asked more : List TimedRequest) → FitTogether conn state asked → HasFit why conn (replay state (turns conn state asked)) more → HasFit why conn state (asked ++ more)
fit-behind end.Overrun conn state asked more fit then = (fit-more conn state asked more fit then.0, λ all. then.1 (fit-last conn state asked more all))
fit-behind end.WriteFault conn state asked more fit then = fit-more conn state asked more fit then
fit-behind end.Memory conn state asked more fit then = fit-more conn state asked more fit then
fit-behind _ conn state asked more fit then = fit-all conn state asked more fit then
