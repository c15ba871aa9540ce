-- What waits for connections after a request: what it put out, and for a connection that is the only one, all of that which is for it, in
-- order, if there is room for it.
use Rattle.std.proofs.Common.{◌≡◌, ℕ, ◌+◌, ◌≤◌, Bool, true, false, cond, List, [], ◌∷◌, ◌++◌, refl, sym, ap, ◌∙◌, append-nil, append_assoc, arith}
use Rattle.std.proofs.lemmas.Bool.{le-leb}
use Rattle.std.proofs.lemmas.List.Sums.{sum_by-append, sum_by-cons}
use Rattle.kr_base.specs.declared.ids.ConnId.{ConnId}
use Rattle.service_prompts.specs.secret_calls.specs.declared.out.Out.{Out}
use Rattle.service_prompts.specs.secret_calls.specs.Outs.{most_waiting}
use Rattle.service_prompts.specs.service_tables.specs.Connections.{delivered, sent_to, size_of, size_waiting, with_out}
use Rattle.service_prompts.specs.service_tables.specs.State.{State}
use Rattle.service_prompts.specs.service_tables.specs.signal_fanout.specs.declared.rows.ConnRow.{ConnRow}
use Rattle.service_prompts.specs.service_tables.specs.declared.rows.ConnRows.{ConnRows}
use Rattle.service_prompts.specs.service_tables.specs.Sent.{Sent, is_for}
use Rattle.service_events.specs.Step.{put_out, served, step}
use Rattle.service_events.specs.declared.event.Event.TheVariants as event
use Rattle.service_events.specs.declared.event.Recorded.{Recorded}
use Rattle.service_events.proofs.RunLemmas.{connections-served}

-- what a request put out is delivered, and nothing else becomes of the connections
pub arrived-connections : (came : Recorded) (state : State)
    → (step state (event.Arrive came)).connections.rows ≡ delivered (put_out came.arrival.conn came.arrival.request (served came state)) state.connections.rows
arrived-connections came state =
    ap (λ (c : ConnRows). delivered (put_out came.arrival.conn came.arrival.request (served came state)) c.rows) (connections-served came state)

-- the row of a connection that lost nothing and isn't leaving
abbrev pub waiting_row : ConnId → List Out → ℕ → ConnRow
waiting_row conn outs taken = record { conn = conn; waiting = outs; overrun = false; leaving = false; taken = taken }

-- the row with one more output, which fits
one-more : (conn : ConnId) (out : Out) (waiting : List Out) (taken : ℕ) → size_waiting waiting + size_of out ≤ most_waiting → with_out out (waiting_row conn waiting taken) ≡ waiting_row conn (waiting ++ out ∷ []) taken
one-more conn out waiting taken short =
    ap (λ b. cond b (waiting_row conn (waiting ++ out ∷ []) taken) (record (waiting_row conn waiting taken) { overrun = true })) (le-leb (size_waiting waiting + size_of out) most_waiting short)

pub delivered-alone : (conn : ConnId) (outs : List Sent) (waiting : List Out) (taken : ℕ) → size_waiting (waiting ++ sent_to conn outs) ≤ most_waiting
    → delivered outs (waiting_row conn waiting taken ∷ []) ≡ waiting_row conn (waiting ++ sent_to conn outs) taken ∷ []
delivered-alone conn [] waiting taken short = ap (λ w. waiting_row conn w taken ∷ []) (sym (append-nil waiting))
delivered-alone conn (sent ∷ outs) waiting taken short =
    let out = sent.out in
    let rest = sent_to conn outs in
    let row = waiting_row conn waiting taken in
    let its : (b : Bool) → List Out = λ b. cond b (out ∷ rest) rest in
    let pass : (b : Bool) → is_for sent.to conn ≡ b → size_waiting (waiting ++ its b) ≤ most_waiting → delivered outs (cond b (with_out out row) row ∷ []) ≡ waiting_row conn (waiting ++ its b) taken ∷ [] =
    elim [
      | true ↦ λ is few.
          let joined = append_assoc waiting (out ∷ []) rest in
          let first : size_waiting waiting + size_of out ≤ most_waiting = omega (arith, few, sum_by-append size_of waiting (out ∷ rest), sum_by-cons size_of out rest) in
          let all : size_waiting ((waiting ++ out ∷ []) ++ rest) ≤ most_waiting = rw joined few in
          ap (λ r. delivered outs (r ∷ [])) (one-more conn out waiting taken first) ∙ delivered-alone conn outs (waiting ++ out ∷ []) taken all ∙ ap (λ w. waiting_row conn w taken ∷ []) joined
      | false ↦ λ is few. delivered-alone conn outs waiting taken few
    ] in
    pass (is_for sent.to conn) refl short
