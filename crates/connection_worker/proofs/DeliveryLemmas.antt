-- What waits for the only connection once outputs were delivered to it: all of them if they can wait together, and otherwise the first of them.
use Rattle.std.proofs.Common.{◌≡◌, ℕ, ◌+◌, ◌<◌, Bool, true, false, cond, nat_le, List, [], ◌∷◌, ◌++◌, refl, sym, ◌∙◌, ap, subst, arith, append_assoc, append-nil}
use Rattle.std.proofs.lemmas.Bool.{leb-true, leb-false}
use Rattle.std.proofs.lemmas.List.Sums.{sum_by-append, sum_by-cons}
use Rattle.kr_base.specs.declared.ids.ConnId.{ConnId}
use Rattle.service_desk.specs.secret_calls.specs.declared.out.Out.{Out}
use Rattle.service_desk.specs.secret_calls.specs.Outs.{most_waiting}
use Rattle.service_desk.specs.service_tables.specs.Connections.{delivered, is_overrun, sent_to, size_of, size_waiting, waiting_for, with_out}
use Rattle.service_desk.specs.service_tables.specs.signal_fanout.specs.declared.rows.ConnRow.{ConnRow}
use Rattle.service_desk.specs.service_tables.specs.Sent.{Sent, is_for}
use Rattle.connection_worker.specs.Fitting.{CanWaitTogether}
use Rattle.connection_worker.proofs.ServingLemmas.{same}

-- the row of a connection that isn't leaving
abbrev pub due_row : ConnId → List Out → Bool → ℕ → ConnRow
due_row conn outs lost taken = record { conn = conn; waiting = outs; overrun = lost; leaving = false; taken = taken }

-- The rows are that of the only connection, for which these outputs waited before; all of these were to wait now.
pub record IsDelivered (conn : ConnId) (before all : List Out) (taken : ℕ) (rows : List ConnRow) : Type 0 where
  pub waiting : List Out
  pub lost : Bool
  pub only : rows ≡ due_row conn waiting lost taken ∷ []
  -- what waited before still does
  pub more : List Out
  pub kept : waiting ≡ before ++ more
  -- the first of all wait
  pub rest : List Out
  pub front : all ≡ waiting ++ rest
  -- none was lost exactly if all can wait together
  pub whole : CanWaitTogether all → lost ≡ false
  pub can : lost ≡ false → CanWaitTogether all
  pub all_wait : lost ≡ false → rest ≡ []

-- nothing is added once an output was lost
lost-stays : (conn : ConnId) (outs : List Sent) (waiting : List Out) (taken : ℕ) → delivered outs (due_row conn waiting true taken ∷ []) ≡ due_row conn waiting true taken ∷ []
lost-stays conn [] waiting taken = refl
lost-stays conn (sent ∷ outs) waiting taken =
    let row = due_row conn waiting true taken in
    let pass : (b : Bool) → delivered outs (cond b (with_out sent.out row) row ∷ []) ≡ row ∷ [] = elim [ true ↦ lost-stays conn outs waiting taken | false ↦ lost-stays conn outs waiting taken ] in
    pass (is_for sent.to conn)

-- more bytes than may wait
too-many : (waiting : List Out) (out : Out) (rest : List Out) → most_waiting < size_waiting waiting + size_of out → CanWaitTogether (waiting ++ out ∷ rest) → ⊥
too-many waiting out rest many can = omega (arith, many, can, sum_by-append size_of waiting (out ∷ rest), sum_by-cons size_of out rest)

module _ (conn : ConnId) where
  pub delivered-due : (outs : List Sent) (waiting : List Out) (taken : ℕ) → CanWaitTogether waiting → IsDelivered conn waiting (waiting ++ sent_to conn outs) taken (delivered outs (due_row conn waiting false taken ∷ []))
  delivered-due [] waiting taken can = record {
    waiting = waiting;
    lost = false;
    only = refl;
    more = [];
    kept = sym (append-nil waiting);
    rest = [];
    front = refl;
    whole = λ all. refl;
    can = λ kept. subst CanWaitTogether (sym (append-nil waiting)) can;
    all_wait = λ kept. refl;
  }
  delivered-due (sent ∷ outs) waiting taken can =
      let out = sent.out in
      let rest = sent_to conn outs in
      let row = due_row conn waiting false taken in
      let added : (b : Bool) → nat_le (size_waiting waiting + size_of out) most_waiting ≡ b
      → IsDelivered conn waiting (waiting ++ out ∷ rest) taken (delivered outs (cond b (due_row conn (waiting ++ out ∷ []) false taken) (due_row conn waiting true taken) ∷ [])) =
      elim [
        | true ↦ λ is.
            let fits = leb-true (size_waiting waiting + size_of out) most_waiting is in
            let joined = append_assoc waiting (out ∷ []) rest in
            let d = delivered-due outs (waiting ++ out ∷ []) taken (omega (arith, fits, sum_by-append size_of waiting (out ∷ []), sum_by-cons size_of out [])) in
            record {
              waiting = d.waiting;
              lost = d.lost;
              only = d.only;
              more = out ∷ d.more;
              kept = d.kept ∙ append_assoc waiting (out ∷ []) d.more;
              rest = d.rest;
              front = sym joined ∙ d.front;
              whole = λ all. d.whole (subst CanWaitTogether (sym joined) all);
              can = λ kept. subst CanWaitTogether joined (d.can kept);
              all_wait = d.all_wait;
            }
        | false ↦ λ is.
            let many = leb-false (size_waiting waiting + size_of out) most_waiting is in
            record {
              waiting = waiting;
              lost = true;
              only = lost-stays conn outs waiting taken;
              more = [];
              kept = sym (append-nil waiting);
              rest = out ∷ rest;
              front = refl;
              whole = λ all. absurd (too-many waiting out rest many all);
              can = λ kept. absurd (let no : true ≡ false = kept in cc);
              all_wait = λ kept. absurd (let no : true ≡ false = kept in cc);
            }
      ] in
      let pass : (b : Bool) → IsDelivered conn waiting (waiting ++ cond b (out ∷ rest) rest) taken (delivered outs (cond b (with_out out row) row ∷ [])) =
      elim [
        | true ↦ added (nat_le (size_waiting waiting + size_of out) most_waiting) refl
        | false ↦ delivered-due outs waiting taken can
      ] in
      pass (is_for sent.to conn)

-- what waits for the connection of the only row, and whether it has lost an output
pub row-waits : (conn : ConnId) (outs : List Out) (lost : Bool) (taken : ℕ) → waiting_for conn (due_row conn outs lost taken ∷ []) ≡ outs
row-waits conn outs lost taken = rw (same conn.0) refl

pub row-lost : (conn : ConnId) (outs : List Out) (lost : Bool) (taken : ℕ) → is_overrun conn (due_row conn outs lost taken ∷ []) ≡ lost
row-lost conn outs lost taken = rw (same conn.0) refl

-- if none was lost, all wait
pub whole-waits : {conn : ConnId} {before all : List Out} {taken : ℕ} {rows : List ConnRow} → (d : IsDelivered conn before all taken rows) → CanWaitTogether all → d.waiting ≡ all
whole-waits d fits = sym (append-nil d.waiting) ∙ ap (λ l. d.waiting ++ l) (sym (d.all_wait (d.whole fits))) ∙ sym d.front

pub whole-rows : {conn : ConnId} {before all : List Out} {taken : ℕ} {rows : List ConnRow} → (d : IsDelivered conn before all taken rows) → CanWaitTogether all → rows ≡ due_row conn all false taken ∷ []
whole-rows {conn = conn} {taken = taken} d fits = d.only ∙ (λ i. due_row conn (whole-waits d fits i) (d.whole fits i) taken ∷ [])
